-- What holds of every opcode whose line was read. Assumes nothing.
use mathlib.Core.Path.{◌≡◌, refl, sym, ◌∙◌}
use mathlib.Core.Bool.{Bool, true, false}
use mathlib.Core.List.{List, [], ◌∷◌}
use Prim.Native.Nat.{ℕ, zero, suc, ◌+◌, ◌≤◌, ◌<◌}
use native.Mathlib.Omega.{arith}
use lib.Dec.{eqb}
use lib.ListN.{length, drop, get_or}
use Rattle.lists.specs.Choice.{pick}
use Rattle.lists.specs.Scan.{run}
use Rattle.lists.specs.Text.{text}
use Rattle.lists.proofs.Tests.{by_test}
use Rattle.spec_sheet.specs.Scan.{is_name_byte, may_be_name, name_at, type_at, keyed_at, literal_at, line_end}
use Rattle.spec_sheet.specs.Scan.Step.{next}
use Rattle.spec_sheet.specs.Line.{Op, TypesRead, HeadRead, with_type, types_from, types_at, head_at, jump_at, line_types, line_head, line_at}
use Rattle.spec_sheet.specs.Line.TypesRead.{types, no_types}
use Rattle.spec_sheet.specs.Line.HeadRead.{head, no_head}
use Rattle.spec_sheet.specs.Line.LineRead.{line, no_line}
use Rattle.spec_sheet.proofs.ScanLaws.{reached, name_here, name_off, type_bound, keyed_bound}

-- every code is that of one of the twelve types
pub data TypeCodes : List ℕ → Type 0 where
  none : TypeCodes []
  one : {c : ℕ} {cs : List ℕ} → 0 < c → c ≤ 12 → TypeCodes cs → TypeCodes (c ∷ cs)

-- a name that stands whole in the text
pub record GoodName (s : List ℕ) (start size : ℕ) : Type 0 where
  pub run_is : size ≡ run is_name_byte (drop start s)
  pub may_be : may_be_name s start size ≡ true

pub record GoodOp (s : List ℕ) (o : Op) : Type 0 where
  pub code : o.code ≤ 255
  pub name : GoodName s o.start o.size
  pub jump : o.jump ≤ 1
  pub few : length o.types ≤ 8
  pub types : TypeCodes o.types

pub good_name : (s : List ℕ) (at k b : ℕ) → name_at s at ≡ next k b → GoodName s at k
good_name s at k b e = by_test (may_be_name s at n) yes no
  where
    n : ℕ
    n = run is_name_byte (drop at s)

    yes : may_be_name s at n ≡ true → GoodName s at k
    yes h =
        let q = sym (name_here s at n refl h) ∙ e in
        let w : n ≡ k = cc q in
        record { run_is = sym w; may_be = rw (sym w) h }

    no : may_be_name s at n ≡ false → GoodName s at k
    no h = absurd (let q = sym (name_off s at n refl h) ∙ e in let z : ◌≡◌ {A = ℕ} 0 1 = cc q in omega arith)

same_name : (s : List ℕ) {a b k n : ℕ} → a ≡ b → k ≡ n → GoodName s a k → GoodName s b n
same_name s e f g = rw (e, f) at g

-- types that were read
pub record GoodTypes (most : ℕ) (cs : List ℕ) : Type 0 where
  pub few : length cs ≤ most
  pub codes : TypeCodes cs

with_good : (most c : ℕ) (r : TypesRead) (cs : List ℕ) (b : ℕ) → 0 < c → c ≤ 12
    → ((ds : List ℕ) (d : ℕ) → r ≡ types ds d → GoodTypes most ds) → with_type c r ≡ types cs b → GoodTypes (suc most) cs
unfolding with_type
with_good most c (types ds d) cs b l h ih e =
    let q : c ∷ ds ≡ cs = cc e in
    let g = ih ds d refl in
    rw (sym q) record { few = omega (arith, g.few); codes = one l h g.codes }
with_good most c no_types cs b l h ih e = absurd (let z : ◌≡◌ {A = ℕ} 0 1 = cc e in omega arith)

pub from_good : (most : ℕ) (s : List ℕ) (at : ℕ) (cs : List ℕ) (b : ℕ) → types_from most s at ≡ types cs b → GoodTypes most cs
unfolding types_from
from_good zero s at cs b e = absurd (let z : ◌≡◌ {A = ℕ} 0 1 = cc e in omega arith)
from_good (suc most) s at cs b e =
    let p = reached (type_at s at) no_types _ (types cs b) e (λ f. let z : ◌≡◌ {A = ℕ} 0 1 = cc f in omega arith) in
    let t = type_bound s at p.value p.place p.first in
    more p.value p.place t.0 t.1 (from_good most s (p.place + 1)) (eqb (get_or s p.place 0) 44) p.rest
  where
    more : (c a : ℕ) → 0 < c → c ≤ 12 → ((ds : List ℕ) (d : ℕ) → types_from most s (a + 1) ≡ types ds d → GoodTypes most ds) → (f : Bool)
        → pick f (with_type c (types_from most s (a + 1))) (types (c ∷ []) a) ≡ types cs b → GoodTypes (suc most) cs
    more c a l h ih true q = with_good most c (types_from most s (a + 1)) cs b l h ih q
    more c a l h ih false q =
        let w : c ∷ [] ≡ cs = cc q in
        rw (sym w) record { few = omega arith; codes = one l h none }

pub at_good : (s : List ℕ) (at : ℕ) (cs : List ℕ) (b : ℕ) → types_at s at ≡ types cs b → GoodTypes 8 cs
unfolding types_at
at_good s at cs b e = go (eqb (get_or s at 0) 45) e
  where
    go : (f : Bool) → pick f (types [] (at + 1)) (types_from 8 s at) ≡ types cs b → GoodTypes 8 cs
    go true q = let w : [] ≡ cs = cc q in rw (sym w) record { few = omega arith; codes = none }
    go false q = from_good 8 s at cs b q

-- number and name
pub record GoodHead (s : List ℕ) (code start size : ℕ) : Type 0 where
  pub byte : code ≤ 255
  pub name : GoodName s start size

pub head_good : (s : List ℕ) (at code start size b : ℕ) → head_at s at ≡ head code start size b → GoodHead s code start size
unfolding head_at
head_good s at code start size b e =
    let p = reached (keyed_at (text "op=") 255 (text " name=") s at) no_head _ (head code start size b) e never in
    let q = reached (name_at s p.place) no_head _ (head code start size b) p.rest never in
    let c : p.value ≡ code = cc q.rest in
    let d : p.place ≡ start = cc q.rest in
    let f : q.value ≡ size = cc q.rest in
    record {
      byte = omega (arith, c, keyed_bound (text "op=") 255 (text " name=") s at p.value p.place p.first);
      name = same_name s d f (good_name s p.place q.value q.place q.first);
    }
  where
    never : no_head ≡ head code start size b → ⊥
    never f = let z : ◌≡◌ {A = ℕ} 0 1 = cc f in omega arith

-- the whole line
types_line : (s : List ℕ) (code start size jump : ℕ) (t : TypesRead) (o : Op) (b : ℕ) → GoodHead s code start size → jump ≤ 1
    → ((cs : List ℕ) (a : ℕ) → t ≡ types cs a → GoodTypes 8 cs) → line_types s code start size jump t ≡ line o b → GoodOp s o
unfolding line_types
types_line s code start size jump (types cs a) o b h j g e =
    let p = reached (literal_at line_end s a) no_line _ (line o b) e (λ f. let z : ◌≡◌ {A = ℕ} 0 1 = cc f in omega arith) in
    let q : ◌≡◌ {A = Op} (record { code = code; start = start; size = size; jump = jump; types = cs }) o = cc p.rest in
    let t = g cs a refl in
    rw (sym q) record { code = h.byte; name = h.name; jump = j; few = t.few; types = t.codes }
types_line s code start size jump no_types o b h j g e = absurd (let z : ◌≡◌ {A = ℕ} 0 1 = cc e in omega arith)

head_line : (s : List ℕ) (x : HeadRead) (o : Op) (b : ℕ) → ((code start size a : ℕ) → x ≡ head code start size a → GoodHead s code start size)
    → line_head s x ≡ line o b → GoodOp s o
unfolding line_head
head_line s (head code start size a) o b g e =
    let p = reached (jump_at s a) no_line _ (line o b) e (λ f. let z : ◌≡◌ {A = ℕ} 0 1 = cc f in omega arith) in
    types_line s code start size p.value (types_at s p.place) o b (g code start size a refl)
    (keyed_bound (text " jump=") 1 (text " types=") s a p.value p.place p.first) (at_good s p.place) p.rest
head_line s no_head o b g e = absurd (let z : ◌≡◌ {A = ℕ} 0 1 = cc e in omega arith)

pub line_good : (s : List ℕ) (at : ℕ) (o : Op) (b : ℕ) → line_at s at ≡ line o b → GoodOp s o
unfolding line_at
line_good s at o b e = head_line s (head_at s at) o b (head_good s at) e
