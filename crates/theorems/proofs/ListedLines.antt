-- The lines of a listing, as the reader takes them, and that none is refused. Assumes nothing.
use mathlib.Core.Path.{◌≡◌, refl, ap, ◌∙◌}
use mathlib.Core.Bool.{Bool, true, false}
use mathlib.Core.List.{List, [], ◌∷◌, ◌++◌, append_assoc}
use Prim.Native.Nat.{ℕ, suc, ◌≤◌}
use native.Mathlib.Omega.{arith}
use lib.Dec.{ltb}
use lib.ListN.{length, length-append}
use borrow.Author.Tests.{ne_eqb, le-ltb, ltb-false}
use Rattle.lists.specs.Choice.{within}
use Rattle.lists.specs.Scan.{all}
use Rattle.lists.specs.Text.{text}
use Rattle.lists.specs.Found.Found.{found, missing}
use Rattle.lists.proofs.Tests.{by_test, within_high, within_least}
use Rattle.lists.proofs.Scans.{all_weaken}
use Rattle.spec_numbers.specs.Print.{decimal, hex_lower4}
use Rattle.spec_numbers.proofs.PrintLaws.{decimal_length}
use Rattle.spec_inputs.specs.Context.{Context, name_of}
use Rattle.spec_listing.specs.Line.{instruction_text}
use Rattle.spec_body.specs.Record.{offset_of, opcode_of}
use Rattle.spec_listing.specs.Labels.{among}
use Rattle.spec_listing.specs.Listing.{label_text, instruction_line, long_line, listed_text}
use Rattle.limits.specs.Limits.{line_limit}
use Rattle.spec_listing.proofs.LineShape.{behind_name, pieces_of, instruction_text_lem, label_head, label_line_lem}
use Rattle.spec_listing.proofs.LineNames.{ListedName}
use Rattle.spec_listing.proofs.LineOffset.{offset_shown}
use Rattle.spec_listing.proofs.LineBytes.{instruction_bytes, label_bytes}
use Rattle.spec_hasm.specs.Text as hasm
use Rattle.spec_hasm.specs.Assemble.{Assembled, is_text_byte, unless_bad_line}
use Rattle.theorems.specs.Premises.{default}
use Rattle.theorems.proofs.LineEnds.{lines_none, lines_more}

-- an instruction's line without its end
abbrev pub line_of : Context → List ℕ → List ℕ
line_of e r = instruction_text true true e r

-- the lines of a listing: an instruction's, behind its label's where it has one
unfoldable pub labelled_lines : Bool → ℕ → List (List ℕ) → List (List ℕ)
labelled_lines true at ls = label_head at ∷ ls
labelled_lines false at ls = ls

unfoldable pub listed_lines : Context → List ℕ → List (List ℕ) → List (List ℕ)
listed_lines e labels [] = []
listed_lines e labels (r ∷ rs) = labelled_lines (among (offset_of r) labels) (offset_of r) (line_of e r ∷ listed_lines e labels rs)

-- a line is offset, two spaces, name and pieces
pub line_shape : (e : Context) (r : List ℕ) → line_of e r ≡ hex_lower4 (offset_of r) ++ 32 ∷ 32 ∷ (name_of e (opcode_of r) ++ behind_name (pieces_of true e r))
line_shape e r =
    instruction_text_lem true true e r
    ∙ ap (λ (s : List ℕ). s ++ name_of e (opcode_of r) ++ behind_name (pieces_of true e r)) (offset_shown (offset_of r))
    ∙ simp append_assoc

module _ (e : Context) (names : (k : ℕ) → ListedName (name_of e k)) (labels : List ℕ) where
  lines_head : (at : ℕ) (rest : List ℕ) → hasm.lines_of (label_text default labels [] at ++ rest) ≡ labelled_lines (among at labels) at (hasm.lines_of rest)
  unfolding label_text labelled_lines
  lines_head at rest =
      by_test (among at labels)
      (λ h. rw (h, label_line_lem [] at, append_assoc) (lines_more (label_head at) rest (label_bytes at)))
      (λ h. rw h)

  -- the text of a listing is these lines
  pub listing_lines : (rs : List (List ℕ)) → hasm.lines_of (listed_text default e labels [] rs) ≡ listed_lines e labels rs
  unfolding listed_text instruction_line listed_lines text
  listing_lines [] = lines_none
  listing_lines (r ∷ rs) =
      let rest = listed_text default e labels [] rs in
      let apart : label_text default labels [] (offset_of r) ++ line_of e r ++ (10 ∷ []) ++ rest ≡ label_text default labels [] (offset_of r) ++ (line_of e r ++ 10 ∷ rest) = simp append_assoc in
      ap hasm.lines_of apart
      ∙ lines_head (offset_of r) (line_of e r ++ 10 ∷ rest)
      ∙ ap (labelled_lines (among (offset_of r) labels) (offset_of r)) (lines_more (line_of e r) rest (instruction_bytes true true e r (names (opcode_of r))) ∙ ap (λ (ls : List (List ℕ)). line_of e r ∷ ls) (listing_lines rs))

-- a label's line is short
label_short : (at : ℕ) → length (label_head at) ≤ line_limit
label_short at = omega (arith, length-append (76 ∷ decimal at) (58 ∷ []), decimal_length at)

shown_byte : (b : ℕ) → within 32 126 b ≡ true → is_text_byte b ≡ true
unfolding is_text_byte
shown_byte b e = let h = within_least 32 126 b e in rw (within_high 9 10 b (omega (arith, h)), ne_eqb b 13 (λ z. omega (arith, h)), e)

-- a line that is neither long nor holds another byte
line_good : (n : ℕ) (l : List ℕ) (ls : List (List ℕ)) (rest : Assembled) → length l ≤ line_limit → all (within 32 126) l ≡ true → unless_bad_line n (l ∷ ls) rest ≡ unless_bad_line (suc n) ls rest
unfolding unless_bad_line
line_good n l ls rest h e = rw (le-ltb line_limit (length l) h, all_weaken (within 32 126) is_text_byte shown_byte l e)

-- where no line of the listing was too long
module _ (e : Context) (r : List ℕ) (rs : List (List ℕ)) (h : long_line default e [] (r ∷ rs) ≡ missing) where
  line_short : length (line_of e r) ≤ line_limit
  unfolding long_line instruction_line
  line_short =
      by_test (ltb line_limit (length (line_of e r)))
      (λ t. absurd (let q : found (offset_of r) ≡ missing = rw t at h in let z : ◌≡◌ {A = ℕ} 0 1 = cc q in omega arith))
      (λ t. ltb-false line_limit (length (line_of e r)) t)

  rest_short : long_line default e [] rs ≡ missing
  unfolding long_line instruction_line
  rest_short = rw (le-ltb line_limit (length (line_of e r)) line_short) at h

module _ (e : Context) (names : (k : ℕ) → ListedName (name_of e k)) (labels : List ℕ) (rest : Assembled) where
  head_good : (t : Bool) (at n : ℕ) (ls : List (List ℕ)) → ((m : ℕ) → unless_bad_line m ls rest ≡ rest) → unless_bad_line n (labelled_lines t at ls) rest ≡ rest
  unfolding labelled_lines
  head_good true at n ls h = line_good n (label_head at) ls rest (label_short at) (label_bytes at) ∙ h (suc n)
  head_good false at n ls h = h n

  -- none of them is refused
  pub lines_good : (rs : List (List ℕ)) → long_line default e [] rs ≡ missing → (n : ℕ) → unless_bad_line n (listed_lines e labels rs) rest ≡ rest
  unfolding listed_lines unless_bad_line
  lines_good [] h n = refl
  lines_good (r ∷ rs) h n =
      head_good (among (offset_of r) labels) (offset_of r) n (line_of e r ∷ listed_lines e labels rs)
      (λ m. line_good m (line_of e r) (listed_lines e labels rs) rest (line_short e r rs h) (instruction_bytes true true e r (names (opcode_of r))) ∙ lines_good rs (rest_short e r rs h) (suc m))
