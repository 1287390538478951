-- Laws of a label that stands alone on its line: nothing of the line is a comment or white space. Assumes nothing.
use mathlib.Core.Path.{◌≡◌, refl, sym, ap, ◌∙◌}
use mathlib.Core.Bool.{Bool, true, false}
use Prim.Native.Nat.{ℕ, suc, ◌-◌, ◌≤◌, ◌<◌}
use native.Mathlib.Omega.{arith}
use mathlib.Core.List.{List, [], ◌∷◌, ◌++◌}
use borrow.Author.Tests.{ne_eqb, eqb-true}
use lib.Dec.{eqb}
use lib.ListN.{length, take, drop, get_or}
use lib.Seq.{take-suc, take-length, drop-cons, get_or-take, length-take-le}
use Rattle.lists.specs.Choice.{within}
use Rattle.lists.specs.Scan.{run, all}
use Rattle.lists.proofs.Tests.{true_not_false, both_left, both_right, within_yes, within_least, within_most, within_high, by_leb}
use Rattle.lists.proofs.Scans.{run_stop, all_append, all_cons, all_weaken}
use Rattle.spec_sheet.specs.Scan.{is_digit}
use Rattle.spec_hasm.specs.Text.{is_white, solid_length, trim}
use Rattle.spec_hasm.specs.Comment.{is_quote, is_comment, outside, strip_comment}
use Rattle.spec_hasm.specs.Line.{is_skipped, is_label}
use Rattle.hasm_read.proofs.ShapeLaws.{label_short, skip_other}
use Rattle.hasm_read.proofs.WhiteLaws.{back_solid}

-- from the first digit to `L`, so no quote, no slash and no white space
abbrev label_byte : ℕ → Bool
label_byte b = within 48 76 b

-- white space is below
solid : (b : ℕ) → 48 ≤ b → is_white b ≡ false
unfolding is_white
solid b h = rw (within_high 9 13 b (omega (arith, h)), ne_eqb b 32 (λ e. omega (arith, h, e)))

outside_go : (before b : ℕ) (s : List ℕ) → is_quote before b ≡ false → is_comment (b ∷ s) ≡ false → outside before (b ∷ s) ≡ suc (outside b s)
unfolding outside
outside_go before b s e f = rw (e, f, outside)

-- no comment starts in such bytes
label_outside : (before : ℕ) (s : List ℕ) → all label_byte s ≡ true → outside before s ≡ length s
unfolding all outside is_quote is_comment
label_outside before [] e = refl
label_outside before (b ∷ s) e =
    let h : 48 ≤ b = within_least 48 76 b (both_left (label_byte b) (all label_byte s) e) in
    outside_go before b s (rw (ne_eqb b 34 (λ q. omega (arith, h, q)))) (rw (ne_eqb b 47 (λ q. omega (arith, h, q))))
    ∙ ap suc (label_outside b s (both_right (label_byte b) (all label_byte s) e))

module _ (line : List ℕ) (l : is_label line ≡ true) where
  -- what the test says
  first : get_or line 0 0 ≡ 76
  unfolding is_label
  first = eqb-true (get_or line 0 0) 76 (both_left (eqb (get_or line 0 0) 76) _ l)

  last : get_or line (length line - 1) 0 ≡ 58
  unfolding is_label
  last = eqb-true (get_or line (length line - 1) 0) 58 (both_left (eqb (get_or line (length line - 1) 0) 58) _ (both_right (eqb (get_or line 0 0) 76) _ l))

  digits : all is_digit (drop 1 (take (length line - 1) line)) ≡ true
  unfolding is_label
  digits = both_right (eqb (get_or line (length line - 1) 0) 58) _ (both_right (eqb (get_or line 0 0) 76) _ l)

  pub label_room : 2 ≤ length line
  label_room = by_leb 2 (length line) (λ h. h) (λ h. true_not_false (is_label line) l (label_short line h))

  -- the line without its colon is `L` and the digits
  front : take (length line - 1) line ≡ 76 ∷ drop 1 (take (length line - 1) line)
  front =
      let k : 0 < length line - 1 = omega (arith, label_room) in
      let m : length (take (length line - 1) line) ≡ length line - 1 = length-take-le (length line - 1) line (omega arith) in
      drop-cons (take (length line - 1) line) 0 0 (omega (arith, k, m))
      ∙ ap (λ (b : ℕ). b ∷ drop 1 (take (length line - 1) line)) (get_or-take (length line - 1) line 0 0 k ∙ first)

  whole : line ≡ take (length line - 1) line ++ (58 ∷ [])
  whole =
      let q : length line ≡ suc (length line - 1) = omega (arith, label_room) in
      sym (take-length line)
      ∙ ap (λ (k : ℕ). take k line) q
      ∙ take-suc line (length line - 1) 0 (omega (arith, label_room))
      ∙ ap (λ (b : ℕ). take (length line - 1) line ++ (b ∷ [])) last

  bytes : all label_byte line ≡ true
  unfolding all
  bytes =
      let d = drop 1 (take (length line - 1) line) in
      let w = all_weaken is_digit label_byte (λ b e. within_yes 48 76 b (within_least 48 57 b e) (omega (arith, within_most 48 57 b e))) d digits in
      ap (all label_byte) whole ∙ all_append label_byte (take (length line - 1) line) (58 ∷ []) (ap (all label_byte) front ∙ all_cons label_byte 76 d refl w) refl

  -- it is not skipped
  pub label_kept : is_skipped line ≡ false
  label_kept =
      skip_other line (λ z. omega (arith, z, label_room)) (λ z. omega (arith, z, first)) (λ z. omega (arith, z, first)) (λ z. omega (arith, z, first))

  -- all of it stands
  stripped : strip_comment line ≡ line
  stripped = ap (λ (k : ℕ). take k line) (label_outside 0 line bytes) ∙ take-length line

  in_front : run is_white line ≡ 0
  in_front =
      let q = run_stop is_white line 0 (omega (arith, label_room)) (ap is_white first ∙ solid 76 (omega arith)) in
      omega (arith, q)

  behind : solid_length line ≡ length line
  behind =
      ap solid_length (sym (take-length line)) ∙ back_solid line (length line) (omega (arith, label_room)) (omega arith) (ap is_white last ∙ solid 58 (omega arith))

  pub label_alone : trim (strip_comment line) ≡ line
  unfolding trim
  label_alone = rw (stripped, in_front, behind) (take-length line)
