-- Laws of a whole sheet, case by case. Assumes nothing.
use mathlib.Core.Path.{◌≡◌, refl, ap, ◌∙◌}
use mathlib.Core.Bool.{Bool, true, false}
use mathlib.Core.List.{List, [], ◌∷◌, ◌++◌}
use Prim.Native.Nat.{ℕ, zero, suc, ◌+◌, ◌-◌, ◌^◌, ◌≤◌, ◌<◌}
use native.Mathlib.Omega.{arith}
use lib.ListN.{length, length-append}
use borrow.Author.Tests.{eq-eqb, ne_eqb}
use Rattle.lists.specs.Text.{text}
use Rattle.spec_sheet.specs.Scan.{Step, after, keyed_at, line_end}
use Rattle.spec_sheet.specs.Scan.Step.{next, off}
use Rattle.spec_sheet.specs.Line.{Op, LineRead, line_at}
use Rattle.spec_sheet.specs.Line.LineRead.{line, no_line}
use lib.Dec.{eqb}
use Rattle.lists.specs.Choice.{pick}
use Rattle.spec_sheet.proofs.ScanLaws.{Reached, reached, keyed_bound}
use Rattle.spec_sheet.specs.Sheet.{accepted, on_line, OpsRead, ops_from, info_rows, Sheet, SheetRead, sheet_ops, sheet_at, ends_at, sheet_of}
use Rattle.spec_sheet.specs.Sheet.OpsRead.{all_read, fault_after}
use Rattle.spec_sheet.specs.Sheet.SheetRead.{sheet, malformed}

-- what reaches a line's continuation, or does not
pub data OnLine (A : Type 0) (x : LineRead) (failed : A) (then : Op → ℕ → A) (r : A) : Type 0 where
  passed : (o : Op) (b : ℕ) → x ≡ line o b → then o b ≡ r → OnLine A x failed then r
  stopped : x ≡ no_line → failed ≡ r → OnLine A x failed then r

pub on_line_lem : {A : Type 0} (x : LineRead) (failed : A) (then : Op → ℕ → A) (r : A) → on_line x failed then ≡ r → OnLine A x failed then r
unfolding on_line
on_line_lem (line o b) failed then r e = passed o b refl e
on_line_lem no_line failed then r e = stopped refl e

-- as many opcodes as lines, and a fault is in one of them
pub ops_count : (n : ℕ) (s : List ℕ) (at least : ℕ) (seen os : List Op) (b : ℕ) → ops_from n s at least seen ≡ all_read os b → length os ≡ length seen + n
unfolding ops_from
ops_count zero s at least seen os b e = let q : seen ≡ os = cc e in omega (arith, ap length q)
ops_count (suc n) s at least seen os b e =
    go (ops_count n s) (on_line_lem (accepted s least (info_rows seen) (line_at s at)) (fault_after (length seen)) _ (all_read os b) e)
  where
    go : ((at least : ℕ) (seen os : List Op) (b : ℕ) → ops_from n s at least seen ≡ all_read os b → length os ≡ length seen + n)
        → OnLine OpsRead (accepted s least (info_rows seen) (line_at s at)) (fault_after (length seen)) (λ o b. ops_from n s b (suc o.code) (seen ++ (o ∷ []))) (all_read os b)
        → length os ≡ length seen + suc n
    go ih (passed o c p q) = omega (arith, ih c (suc o.code) (seen ++ (o ∷ [])) os b q, length-append seen (o ∷ []))
    go ih (stopped p q) = absurd (let z : ◌≡◌ {A = ℕ} 0 1 = cc q in omega arith)

pub ops_fault : (n : ℕ) (s : List ℕ) (at least : ℕ) (seen : List Op) (k : ℕ) → ops_from n s at least seen ≡ fault_after k → k < length seen + n
unfolding ops_from
ops_fault zero s at least seen k e = absurd (let z : ◌≡◌ {A = ℕ} 0 1 = cc e in omega arith)
ops_fault (suc n) s at least seen k e =
    go (ops_fault n s) (on_line_lem (accepted s least (info_rows seen) (line_at s at)) (fault_after (length seen)) _ (fault_after k) e)
  where
    go : ((at least : ℕ) (seen : List Op) (k : ℕ) → ops_from n s at least seen ≡ fault_after k → k < length seen + n)
        → OnLine OpsRead (accepted s least (info_rows seen) (line_at s at)) (fault_after (length seen)) (λ o b. ops_from n s b (suc o.code) (seen ++ (o ∷ []))) (fault_after k)
        → k < length seen + suc n
    go ih (passed o c p q) = omega (arith, ih c (suc o.code) (seen ++ (o ∷ [])) k q, length-append seen (o ∷ []))
    go ih (stopped p q) = let w : length seen ≡ k = cc q in omega arith

-- the cases of a sheet
module _ (s : List ℕ) (at : ℕ) where
  abbrev pub version_at : Step
  version_at = keyed_at (text "version=") (2 ^ 32 - 1) line_end s at

  abbrev pub count_at : ℕ → Step
  count_at a = keyed_at (text "count=") 256 line_end s a

  pub no_version : version_at ≡ off → sheet_at s at ≡ malformed 1
  unfolding sheet_at after
  no_version e = rw e

  pub no_count : (v a : ℕ) → version_at ≡ next v a → count_at a ≡ off → sheet_at s at ≡ malformed 2
  unfolding sheet_at after
  no_count v a e f = rw (e, f)

  pub count_zero : (v a n b : ℕ) → version_at ≡ next v a → count_at a ≡ next n b → n ≡ 0 → sheet_at s at ≡ malformed 2
  unfolding sheet_at after
  count_zero v a n b e f z = rw (e, f, eq-eqb n 0 z)

  pub with_ops : (v a n b : ℕ) → version_at ≡ next v a → count_at a ≡ next n b → (n ≡ 0 → ⊥) → sheet_at s at ≡ sheet_ops v (ops_from n s b 0 [])
  unfolding sheet_at after
  with_ops v a n b e f z = rw (e, f, ne_eqb n 0 z)

  -- what a sheet that was read is made of
  pub record SheetParts (sh : Sheet) (c : ℕ) : Type 0 where
    pub place : ℕ
    pub count : ℕ
    pub behind : ℕ
    pub version_is : version_at ≡ next sh.version place
    pub count_is : count_at place ≡ next count behind
    pub ops_are : ops_from count s behind 0 [] ≡ all_read sh.opcodes c

  ops_parts : (v : ℕ) (x : OpsRead) (sh : Sheet) (c : ℕ) → sheet_ops v x ≡ sheet sh c → (v ≡ sh.version) × (x ≡ all_read sh.opcodes c)
  unfolding sheet_ops
  ops_parts v (all_read os b) sh c e =
      let q : ◌≡◌ {A = Sheet} (record { version = v; opcodes = os }) sh = cc e in
      let w : b ≡ c = cc e in
      (ap (λ (r : Sheet). r.version) q, rw w (ap (λ (r : Sheet). all_read r.opcodes c) q))
  ops_parts v (fault_after k) sh c e = absurd (let z : ◌≡◌ {A = ℕ} 0 1 = cc e in omega arith)

  pub sheet_parts : (sh : Sheet) (c : ℕ) → sheet_at s at ≡ sheet sh c → SheetParts sh c
  unfolding sheet_at
  sheet_parts sh c e =
      let p = reached version_at (malformed 1) _ (sheet sh c) e (never 1) in
      let q = reached (count_at p.place) (malformed 2) _ (sheet sh c) p.rest (never 2) in
      more p q (eqb q.value 0) q.rest
    where
      never : (k : ℕ) → malformed k ≡ sheet sh c → ⊥
      never k f = let z : ◌≡◌ {A = ℕ} 0 1 = cc f in omega arith

      more : (p : Reached SheetRead version_at (λ v a. after (count_at a) (malformed 2) λ n b. pick (eqb n 0) (malformed 2) (sheet_ops v (ops_from n s b 0 []))) (sheet sh c))
          → (q : Reached SheetRead (count_at p.place) (λ n b. pick (eqb n 0) (malformed 2) (sheet_ops p.value (ops_from n s b 0 []))) (sheet sh c))
          → (f : Bool) → pick f (malformed 2) (sheet_ops p.value (ops_from q.value s q.place 0 [])) ≡ sheet sh c → SheetParts sh c
      more p q true f = absurd (never 2 f)
      more p q false f =
          let w = ops_parts p.value (ops_from q.value s q.place 0 []) sh c f in
          record { place = p.place; count = q.value; behind = q.place; version_is = p.first ∙ ap (λ (v : ℕ). next v p.place) w.0; count_is = q.first; ops_are = w.1 }

  pub sheet_lines : (sh : Sheet) (c : ℕ) → sheet_at s at ≡ sheet sh c → length sh.opcodes ≤ 256
  sheet_lines sh c e =
      let p = sheet_parts sh c e in
      omega (arith, ops_count p.count s p.behind 0 [] sh.opcodes c p.ops_are, keyed_bound (text "count=") 256 line_end s p.place p.count p.behind p.count_is)

-- a text that is a sheet has one at its front
ends_whole : (end : ℕ) (x : SheetRead) (sh : Sheet) (c : ℕ) → ends_at end x ≡ sheet sh c → x ≡ sheet sh c
unfolding ends_at
ends_whole end (sheet t b) sh c e = go (eqb b end) e
  where
    go : (f : Bool) → pick f (sheet t b) (malformed (3 + length t.opcodes)) ≡ sheet sh c → sheet t b ≡ sheet sh c
    go true q = q
    go false q = absurd (let z : ◌≡◌ {A = ℕ} 0 1 = cc q in omega arith)
ends_whole end (malformed k) sh c e = e

pub whole_sheet : (s : List ℕ) (sh : Sheet) (c : ℕ) → sheet_of s ≡ sheet sh c → sheet_at s 0 ≡ sheet sh c
unfolding sheet_of
whole_sheet s sh c e = ends_whole (length s) (sheet_at s 0) sh c e
