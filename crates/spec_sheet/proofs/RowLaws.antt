-- What every row of the tables of a sheet that was read holds. Assumes nothing.
use mathlib.Core.Path.{◌≡◌, refl, ap, sym, ◌∙◌}
use mathlib.Core.List.Memᴰ
use mathlib.Core.List.{List, [], ◌∷◌, ◌++◌, Memᴰ}
use mathlib.Core.Logic.{⊎_elim}
use Prim.Native.Nat.{ℕ, zero, suc, ◌+◌, ◌-◌, ◌≤◌, ◌<◌}
use native.Mathlib.Omega.{arith}
use lib.ListN.{length, get_or, set, replicate, length-set, length-append, length-replicate, get_or-replicate, get_or-append, get_or-eq_default}
use lib.Seq.{get_or-set_same, get_or-set_other, get_or-append-add}
use Rattle.lists.proofs.Tests.{by_eqb, by_leb}
use Rattle.spec_sheet.specs.Line.{Op, type_row, info_row}
use Rattle.spec_sheet.specs.Sheet.{fill, no_type_rows, no_info_rows, type_rows, info_rows, Sheet, sheet_at, above}
use Rattle.spec_sheet.specs.Sheet.SheetRead.{sheet}
use Rattle.spec_sheet.proofs.OpLaws.{GoodName, GoodOp, TypeCodes, none, one}
use Rattle.spec_sheet.proofs.FillLaws.{fill_more, above_more}
use Rattle.spec_sheet.proofs.TakenLaws.{Taken, start, more, sheet_taken, sheet_some}

-- filling changes no length
pub fill_length : (row : Op → List ℕ) (rows : List (List ℕ)) (os : List Op) → length (fill row rows os) ≡ length rows
unfolding fill
fill_length row rows [] = refl
fill_length row rows (o ∷ os) = fill_length row (set rows o.code (row o)) os ∙ length-set rows o.code (row o)

-- 256 rows of types
pub type_rows_length : (os : List Op) → length (type_rows os) ≡ 256
type_rows_length os = fill_length type_row no_type_rows os

-- 256 rows of counts, marks and names
pub info_rows_length : (os : List Op) → length (info_rows os) ≡ 256
info_rows_length os = fill_length info_row no_info_rows os

-- no row of types behind them
pub type_rows_past : (os : List Op) (k : ℕ) → 256 ≤ k → get_or (type_rows os) k [] ≡ []
type_rows_past os k h = get_or-eq_default (type_rows os) [] (omega (arith, type_rows_length os))

-- nor one of the others
pub info_rows_past : (os : List Op) (k : ℕ) → 256 ≤ k → get_or (info_rows os) k [] ≡ []
info_rows_past os k h = get_or-eq_default (info_rows os) [] (omega (arith, info_rows_length os))

-- one opcode more
module _ (row : Op → List ℕ) (rows : List (List ℕ)) (seen : List Op) (o : Op) where
  -- its own row is stored
  pub more_same : o.code < length rows → get_or (fill row rows (seen ++ (o ∷ []))) o.code [] ≡ row o
  more_same h = rw (fill_more row rows seen o) (get_or-set_same (fill row rows seen) o.code (row o) [] (omega (arith, fill_length row rows seen)))

  -- every other row is kept
  pub more_other : (k : ℕ) → (k ≡ o.code → ⊥) → get_or (fill row rows (seen ++ (o ∷ []))) k [] ≡ get_or (fill row rows seen) k []
  more_other k h = rw (fill_more row rows seen o) (get_or-set_other (fill row rows seen) o.code k (row o) [] h)

-- the two rows of an opcode k, where it is a gap
pub record GapRows (os : List Op) (k : ℕ) : Type 0 where
  pub types : get_or (type_rows os) k [] ≡ replicate 8 0
  pub info : get_or (info_rows os) k [] ≡ replicate 4 0

-- where it is one of the sheet
pub record OpRows (s : List ℕ) (os : List Op) (k : ℕ) : Type 0 where
  pub op : Op
  pub listed : Memᴰ op os
  pub code : op.code ≡ k
  pub good : GoodOp s op
  pub types : get_or (type_rows os) k [] ≡ type_row op
  pub info : get_or (info_rows os) k [] ≡ info_row op

-- one or the other
pub data RowsAt (s : List ℕ) (os : List Op) (k : ℕ) : Type 0 where
  gap : GapRows os k → RowsAt s os k
  op : OpRows s os k → RowsAt s os k

-- a gap, where it is no opcode of the sheet
pub gap_of : {s : List ℕ} {os : List Op} {k : ℕ} → RowsAt s os k → (OpRows s os k → ⊥) → GapRows os k
gap_of (gap g) n = g
gap_of (op r) n = absurd (n r)

-- an opcode of the sheet, where it is no gap
pub op_of : {s : List ℕ} {os : List Op} {k : ℕ} → RowsAt s os k → (GapRows os k → ⊥) → OpRows s os k
op_of (gap g) n = absurd (n g)
op_of (op r) n = r

empty_rows : (k : ℕ) → k < 256 → GapRows [] k
unfolding fill
empty_rows k h = record { types = get_or-replicate 256 k (replicate 8 0) [] h; info = get_or-replicate 256 k (replicate 4 0) [] h }

keep_rows : (s : List ℕ) (seen : List Op) (o : Op) (k : ℕ) → (k ≡ o.code → ⊥) → RowsAt s seen k → RowsAt s (seen ++ (o ∷ [])) k
keep_rows s seen o k h (gap g) = gap record { types = more_other type_row no_type_rows seen o k h ∙ g.types; info = more_other info_row no_info_rows seen o k h ∙ g.info }
keep_rows s seen o k h (op r) = op record {
  op = r.op;
  listed = Memᴰ.append_left (o ∷ []) r.listed;
  code = r.code;
  good = r.good;
  types = more_other type_row no_type_rows seen o k h ∙ r.types;
  info = more_other info_row no_info_rows seen o k h ∙ r.info;
}

own_rows : (s : List ℕ) (seen : List Op) (o : Op) → GoodOp s o → OpRows s (seen ++ (o ∷ [])) o.code
own_rows s seen o g =
    let h : o.code < 256 = omega (arith, g.code) in
    record {
      op = o;
      listed = Memᴰ.append_right seen (Memᴰ.head refl);
      code = refl;
      good = g;
      types = more_same type_row no_type_rows seen o h;
      info = more_same info_row no_info_rows seen o h;
    }

-- every opcode below 256
pub rows_at : (s : List ℕ) (os : List Op) → Taken s os → (k : ℕ) → k < 256 → RowsAt s os k
rows_at s os start k h = gap (empty_rows k h)
rows_at s os (more seen o t f e) k h =
    rw e (by_eqb k o.code (λ q. rw q (op (own_rows s seen o f.good))) (λ q. keep_rows s seen o k q (rows_at s seen t k h)))

-- a type row: the codes of an opcode's operands, their count beside it, and zeros behind
pub record TypesOf (row : List ℕ) (n : ℕ) : Type 0 where
  pub codes : List ℕ
  pub good : TypeCodes codes
  pub few : length codes ≤ 8
  pub row_is : row ≡ codes ++ replicate (8 - length codes) 0
  pub count_is : n ≡ length codes

same_types : {row row' : List ℕ} {n n' : ℕ} → row ≡ row' → n ≡ n' → TypesOf row n → TypesOf row' n'
same_types e f t = rw (e, f) at t

op_types : (s : List ℕ) (o : Op) → GoodOp s o → TypesOf (type_row o) (get_or (info_row o) 0 0)
unfolding type_row info_row
op_types s o g = record { codes = o.types; good = g.types; few = g.few; row_is = refl; count_is = refl }

-- every type row is one
pub row_types : (s : List ℕ) (os : List Op) (k : ℕ) → RowsAt s os k → TypesOf (get_or (type_rows os) k []) (get_or (get_or (info_rows os) k []) 0 0)
row_types s os k (gap g) =
    same_types (sym g.types) (ap (λ (r : List ℕ). get_or r 0 0) (sym g.info))
    record { codes = []; good = none; few = omega arith; row_is = refl; count_is = refl }
row_types s os k (op r) = same_types (sym r.types) (ap (λ (l : List ℕ). get_or l 0 0) (sym r.info)) (op_types s r.op r.good)

codes_at : (ts : List ℕ) → TypeCodes ts → (i : ℕ) → i < length ts → (0 < get_or ts i 0) × (get_or ts i 0 ≤ 12)
codes_at [] none i h = absurd (omega arith)
codes_at (c ∷ cs) (one l m t) zero h = (l, m)
codes_at (c ∷ cs) (one l m t) (suc i) h = codes_at cs t i (omega arith)

zeros_at : (n i : ℕ) → ◌≡◌ {A = ℕ} (get_or (replicate n 0) i 0) 0
zeros_at zero i = refl
zeros_at (suc n) zero = refl
zeros_at (suc n) (suc i) = zeros_at n i

module _ (row : List ℕ) (n : ℕ) (t : TypesOf row n) where
  -- it has eight codes
  pub types_length : length row ≡ 8
  types_length = rw (t.row_is, length-append, length-replicate) (omega (arith, t.few))

  -- below the count stand the codes of types
  pub types_code : (i : ℕ) → i < n → (0 < get_or row i 0) × (get_or row i 0 ≤ 12)
  types_code i h =
      let l : i < length t.codes = omega (arith, t.count_is) in
      rw (t.row_is, get_or-append t.codes (replicate (8 - length t.codes) 0) 0 i l) (codes_at t.codes t.good i l)

  -- from the count on stand zeros
  pub types_end : (i : ℕ) → n ≤ i → get_or row i 0 ≡ 0
  types_end i h =
      let e : i ≡ length t.codes + (i - length t.codes) = omega (arith, t.count_is) in
      ap (λ (r : List ℕ). get_or r i 0) t.row_is
      ∙ ap (λ (j : ℕ). get_or (t.codes ++ replicate (8 - length t.codes) 0) j 0) e
      ∙ get_or-append-add t.codes (replicate (8 - length t.codes) 0) (i - length t.codes) 0
      ∙ zeros_at (8 - length t.codes) (i - length t.codes)

  -- at any place a code is at most 12
  pub types_small : (i : ℕ) → get_or row i 0 ≤ 12
  types_small i = by_leb n i (λ h. omega (arith, types_end i h)) (λ h. (types_code i h).1)

-- one more than the largest opcode is at most 256
pub above_most : (s : List ℕ) (os : List Op) → Taken s os → above 0 os ≤ 256
unfolding above
above_most s os start = omega arith
above_most s os (more seen o t f e) = rw (e, above_more 0 seen o) (omega (arith, f.good.code))

-- it is at least 1 where there is an opcode
pub above_some : (s : List ℕ) (os : List Op) → Taken s os → 0 < length os → 0 < above 0 os
above_some s os start h = absurd (omega arith)
above_some s os (more seen o t f e) h = rw (e, above_more 0 seen o) (omega arith)

-- every opcode is below it
pub listed_below : (s : List ℕ) (os : List Op) → Taken s os → (p : Op) → Memᴰ p os → p.code < above 0 os
listed_below s os start p m = absurd (Memᴰ.not-nil m)
listed_below s os (more seen o t f e) p m =
    rw (e, above_more 0 seen o)
    (⊎_elim (λ (w : Memᴰ p seen). omega (arith, f.rises, listed_below s seen t p w))
    (λ (w : Memᴰ p (o ∷ [])). omega (arith, ap (λ (x : Op). x.code) (Memᴰ.eq_of_singleton w)))
    (Memᴰ.append_cases seen (rw e at m)))

-- rows from there on are gaps
pub gaps_from : (s : List ℕ) (os : List Op) → Taken s os → (k : ℕ) → k < 256 → above 0 os ≤ k → GapRows os k
gaps_from s os t k h l = gap_of (rows_at s os t k h) (λ r. omega (arith, r.code, listed_below s os t r.op r.listed))

-- every opcode of the list has its rows
pub listed_rows : (s : List ℕ) (os : List Op) → Taken s os → (p : Op) → Memᴰ p os
    → (get_or (type_rows os) p.code [] ≡ type_row p) × (get_or (info_rows os) p.code [] ≡ info_row p)
unfolding own_rows
listed_rows s os start p m = absurd (Memᴰ.not-nil m)
listed_rows s os (more seen o t f e) p m =
    rw e
    (⊎_elim (λ (w : Memᴰ p seen).
    let ih = listed_rows s seen t p w in
    let b = listed_below s seen t p w in
    let d : p.code ≡ o.code → ⊥ = λ q. omega (arith, f.rises) in
    (more_other type_row no_type_rows seen o p.code d ∙ ih.0, more_other info_row no_info_rows seen o p.code d ∙ ih.1))
    (λ (w : Memᴰ p (o ∷ [])).
    let r = own_rows s seen o f.good in
    rw (Memᴰ.eq_of_singleton w) (r.types, r.info))
    (Memᴰ.append_cases seen (rw e at m)))

-- a row with a name is an opcode's
pub named_row : (s : List ℕ) (os : List Op) → Taken s os → (k : ℕ) → 0 < get_or (get_or (info_rows os) k []) 3 0 → OpRows s os k
named_row s os t k h =
    by_leb 256 k
    (λ l. absurd (omega (arith, ap (λ (r : List ℕ). get_or r 3 0) (info_rows_past os k l))))
    (λ l. op_of (rows_at s os t k l) (λ g. omega (arith, ap (λ (r : List ℕ). get_or r 3 0) g.info)))

-- the name of an opcode's row is good
pub row_name_lem : (s : List ℕ) (os : List Op) (k : ℕ) → OpRows s os k → GoodName s (get_or (get_or (info_rows os) k []) 2 0) (get_or (get_or (info_rows os) k []) 3 0)
unfolding info_row
row_name_lem s os k r = rw r.info r.good.name

-- the same of a sheet that was read
module _ (s : List ℕ) (at : ℕ) (sh : Sheet) (c : ℕ) (e : sheet_at s at ≡ sheet sh c) where
  taken : Taken s sh.opcodes
  taken = sheet_taken s at sh c e

  -- every opcode's rows
  pub sheet_rows : (k : ℕ) → k < 256 → RowsAt s sh.opcodes k
  sheet_rows = rows_at s sh.opcodes taken

  -- the row of types and its count
  pub sheet_types : (k : ℕ) → k < 256 → TypesOf (get_or (type_rows sh.opcodes) k []) (get_or (get_or (info_rows sh.opcodes) k []) 0 0)
  sheet_types k h = row_types s sh.opcodes k (sheet_rows k h)

  -- a type row has eight codes
  pub sheet_type_length : (k : ℕ) → k < 256 → length (get_or (type_rows sh.opcodes) k []) ≡ 8
  sheet_type_length k h = types_length _ _ (sheet_types k h)

  -- at any place a code is at most 12
  pub sheet_code_most : (k i : ℕ) → get_or (get_or (type_rows sh.opcodes) k []) i 0 ≤ 12
  sheet_code_most k i =
      by_leb 256 k
      (λ h. rw (type_rows_past sh.opcodes k h) (omega arith))
      (λ h. types_small _ _ (sheet_types k h) i)

  -- one more than the largest opcode is at least 1
  pub sheet_above_least : 1 ≤ above 0 sh.opcodes
  sheet_above_least = above_some s sh.opcodes taken (sheet_some s at sh c e)

  -- and at most 256
  pub sheet_above_most : above 0 sh.opcodes ≤ 256
  sheet_above_most = above_most s sh.opcodes taken

  -- every opcode is below it
  pub sheet_listed_below : (o : Op) → Memᴰ o sh.opcodes → o.code < above 0 sh.opcodes
  sheet_listed_below = listed_below s sh.opcodes taken

  -- a row with a name is an opcode's
  pub sheet_named : (k : ℕ) → 0 < get_or (get_or (info_rows sh.opcodes) k []) 3 0 → OpRows s sh.opcodes k
  sheet_named = named_row s sh.opcodes taken

  -- its name stands in the text
  pub sheet_name : (k : ℕ) → 0 < get_or (get_or (info_rows sh.opcodes) k []) 3 0
      → GoodName s (get_or (get_or (info_rows sh.opcodes) k []) 2 0) (get_or (get_or (info_rows sh.opcodes) k []) 3 0)
  sheet_name k h = row_name_lem s sh.opcodes k (sheet_named k h)

  -- a row with a name is at most the largest opcode's
  pub sheet_named_below : (k : ℕ) → 0 < get_or (get_or (info_rows sh.opcodes) k []) 3 0 → k < above 0 sh.opcodes
  sheet_named_below k h =
      let r = sheet_named k h in
      omega (arith, r.code, sheet_listed_below r.op r.listed)
