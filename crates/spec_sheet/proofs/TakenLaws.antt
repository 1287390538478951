-- What is known of the opcodes of a sheet that was read: each was taken behind those before it. Assumes nothing.
use mathlib.Core.Path.{◌≡◌, refl, sym, ◌∙◌}
use mathlib.Core.Bool.{Bool, true, false}
use mathlib.Core.List.{List, [], ◌∷◌, ◌++◌}
use Prim.Native.Nat.{ℕ, zero, suc, ◌≤◌, ◌<◌}
use native.Mathlib.Omega.{arith}
use lib.Dec.{leb}
use lib.ListN.{length, take}
use borrow.Author.Tests.{leb-true}
use Rattle.lists.specs.Choice.{pick}
use Rattle.lists.specs.Found.{Found}
use Rattle.lists.specs.Found.Found.{found, missing}
use Rattle.lists.proofs.Tests.{both_left, both_right, by_eqb, true_not_false}
use Rattle.spec_sheet.specs.Line.{Op, LineRead, line_at, op_name}
use Rattle.spec_sheet.specs.Line.LineRead.{line, no_line}
use Rattle.spec_sheet.specs.Sheet.{info_rows, find_name, is_missing, may_follow, accepted, OpsRead, ops_from, Sheet, sheet_at, above}
use Rattle.spec_sheet.specs.Sheet.OpsRead.{all_read, fault_after}
use Rattle.spec_sheet.specs.Sheet.SheetRead.{sheet}
use Rattle.spec_sheet.proofs.OpLaws.{GoodOp, line_good}
use Rattle.spec_sheet.proofs.FillLaws.{above_more, accepted_is}
use Rattle.spec_sheet.proofs.SheetLaws.{OnLine, passed, stopped, on_line_lem, ops_count, sheet_parts, count_zero}

-- an opcode that may stand behind those seen: its line is good, its number rises and its name is new
pub record Follows (s : List ℕ) (seen : List Op) (o : Op) : Type 0 where
  pub good : GoodOp s o
  pub rises : above 0 seen ≤ o.code
  pub new_name : find_name s (op_name s o) 0 (take (above 0 seen) (info_rows seen)) ≡ missing

-- opcodes that were taken one after the other, the last one on the outside
pub data Taken (s : List ℕ) : List Op → Type 0 where
  start : Taken s []
  more : {os : List Op} (seen : List Op) (o : Op) → Taken s seen → Follows s seen o → os ≡ seen ++ (o ∷ []) → Taken s os

-- what may follow has a number that rises and a name that is new
pub follow_rises : (s : List ℕ) (least : ℕ) (rows : List (List ℕ)) (code : ℕ) (name : List ℕ) → may_follow s least rows code name ≡ true → least ≤ code
unfolding may_follow
follow_rises s least rows code name e = leb-true least code (both_left (leb least code) _ e)

missing_is : (f : Found) → is_missing f ≡ true → f ≡ missing
unfolding is_missing
missing_is (found k) e = true_not_false false e refl
missing_is missing e = refl

-- and its name is in no row before
pub follow_name : (s : List ℕ) (least : ℕ) (rows : List (List ℕ)) (code : ℕ) (name : List ℕ) → may_follow s least rows code name ≡ true
    → find_name s name 0 (take least rows) ≡ missing
unfolding may_follow
follow_name s least rows code name e = missing_is _ (both_right (leb least code) _ e)

-- a line that is accepted may follow
pub accepted_follows : (s : List ℕ) (least : ℕ) (rows : List (List ℕ)) (x : LineRead) (o : Op) (b : ℕ) → accepted s least rows x ≡ line o b
    → may_follow s least rows o.code (op_name s o) ≡ true
unfolding accepted
accepted_follows s least rows (line p a) o b e = go (may_follow s least rows p.code (op_name s p)) refl e
  where
    go : (f : Bool) → may_follow s least rows p.code (op_name s p) ≡ f → pick f (line p a) no_line ≡ line o b → may_follow s least rows o.code (op_name s o) ≡ true
    go true h q = let w : p ≡ o = cc q in rw w at h
    go false h q = absurd (let z : ◌≡◌ {A = ℕ} 0 1 = cc q in omega arith)
accepted_follows s least rows no_line o b e = absurd (let z : ◌≡◌ {A = ℕ} 0 1 = cc e in omega arith)

-- so it is good, rises and is new
pub accepted_taken : (s : List ℕ) (at : ℕ) (seen : List Op) (o : Op) (b : ℕ) → accepted s (above 0 seen) (info_rows seen) (line_at s at) ≡ line o b → Follows s seen o
accepted_taken s at seen o b e =
    let h = accepted_follows s (above 0 seen) (info_rows seen) (line_at s at) o b e in
    record {
      good = line_good s at o b (accepted_is s (above 0 seen) (info_rows seen) (line_at s at) o b e);
      rises = follow_rises s (above 0 seen) (info_rows seen) o.code (op_name s o) h;
      new_name = follow_name s (above 0 seen) (info_rows seen) o.code (op_name s o) h;
    }

-- every opcode that is read was taken
pub ops_taken : (n : ℕ) (s : List ℕ) (at least : ℕ) (seen os : List Op) (b : ℕ) → least ≡ above 0 seen → Taken s seen → ops_from n s at least seen ≡ all_read os b → Taken s os
unfolding ops_from
ops_taken zero s at least seen os b l t e = let q : seen ≡ os = cc e in rw q at t
ops_taken (suc n) s at least seen os b l t e =
    go (ops_taken n s) (on_line_lem (accepted s least (info_rows seen) (line_at s at)) (fault_after (length seen)) _ (all_read os b) e)
  where
    go : ((at least : ℕ) (seen os : List Op) (b : ℕ) → least ≡ above 0 seen → Taken s seen → ops_from n s at least seen ≡ all_read os b → Taken s os)
        → OnLine OpsRead (accepted s least (info_rows seen) (line_at s at)) (fault_after (length seen)) (λ o b. ops_from n s b (suc o.code) (seen ++ (o ∷ []))) (all_read os b)
        → Taken s os
    go ih (passed o c p q) =
        ih c (suc o.code) (seen ++ (o ∷ [])) os b (sym (above_more 0 seen o))
        (more seen o t (accepted_taken s at seen o c (rw l at p)) refl) q
    go ih (stopped p q) = absurd (let z : ◌≡◌ {A = ℕ} 0 1 = cc q in omega arith)

-- so is every opcode of a sheet that was read
pub sheet_taken : (s : List ℕ) (at : ℕ) (sh : Sheet) (c : ℕ) → sheet_at s at ≡ sheet sh c → Taken s sh.opcodes
unfolding above
sheet_taken s at sh c e =
    let p = sheet_parts s at sh c e in
    ops_taken p.count s p.behind 0 [] sh.opcodes c refl start p.ops_are

-- a sheet that was read has an opcode
pub sheet_some : (s : List ℕ) (at : ℕ) (sh : Sheet) (c : ℕ) → sheet_at s at ≡ sheet sh c → 0 < length sh.opcodes
sheet_some s at sh c e =
    let p = sheet_parts s at sh c e in
    by_eqb p.count 0
    (λ z. absurd (let q = sym (count_zero s at sh.version p.place p.count p.behind p.version_is p.count_is z) ∙ e in let w : ◌≡◌ {A = ℕ} 0 1 = cc q in omega arith))
    (λ z. omega (arith, z, ops_count p.count s p.behind 0 [] sh.opcodes c p.ops_are))
