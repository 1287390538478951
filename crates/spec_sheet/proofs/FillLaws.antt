-- Laws of the tables that are filled line by line. Assumes nothing.
use mathlib.Core.Path.{◌≡◌, refl}
use mathlib.Core.Bool.{Bool, true, false}
use mathlib.Core.List.{List, [], ◌∷◌, ◌++◌}
use Prim.Native.Nat.{ℕ, suc}
use native.Mathlib.Omega.{arith}
use lib.ListN.{set}
use Rattle.lists.specs.Choice.{pick}
use Rattle.spec_sheet.specs.Line.{Op, LineRead, op_name}
use Rattle.spec_sheet.specs.Line.LineRead.{line, no_line}
use Rattle.spec_sheet.specs.Sheet.{fill, above, may_follow, accepted}

-- one opcode more
pub fill_more : (row : Op → List ℕ) (rows : List (List ℕ)) (seen : List Op) (o : Op) → fill row rows (seen ++ (o ∷ [])) ≡ set (fill row rows seen) o.code (row o)
unfolding fill
fill_more row rows [] o = refl
fill_more row rows (p ∷ seen) o = fill_more row (set rows p.code (row p)) seen o

pub above_more : (n : ℕ) (seen : List Op) (o : Op) → above n (seen ++ (o ∷ [])) ≡ suc o.code
unfolding above
above_more n [] o = refl
above_more n (p ∷ seen) o = above_more (suc p.code) seen o

-- a line that is accepted was read, and may follow
pub accepted_is : (s : List ℕ) (least : ℕ) (rows : List (List ℕ)) (x : LineRead) (o : Op) (b : ℕ) → accepted s least rows x ≡ line o b → x ≡ line o b
unfolding accepted
accepted_is s least rows (line p a) o b e = go (may_follow s least rows p.code (op_name s p)) e
  where
    go : (f : Bool) → pick f (line p a) no_line ≡ line o b → line p a ≡ line o b
    go true q = q
    go false q = absurd (let z : ◌≡◌ {A = ℕ} 0 1 = cc q in omega arith)
accepted_is s least rows no_line o b e = e
