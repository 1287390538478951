-- What a listed line is to the reader: a label, or an instruction without its offset. Assumes nothing.
use mathlib.Core.Path.{◌≡◌, refl, ap, sym, ◌∙◌}
use mathlib.Core.Bool.{Bool, true, false}
use mathlib.Core.List.{List, [], ◌∷◌, ◌++◌, append_assoc, append-nil}
use Prim.Native.Nat.{ℕ, zero, suc, ◌-◌, ◌≤◌, ◌<◌}
use native.Mathlib.Omega.{arith}
use lib.Dec.{eqb}
use lib.ListN.{length, get_or, take, drop, length-append, get_or-append}
use lib.Seq.{take-append_seam, drop-append_seam, get_or-append_seam}
use borrow.Author.Tests.{ne_eqb, eqb-true, lt-ltb}
use Rattle.lists.specs.Choice.{either, within}
use Rattle.lists.specs.Scan.{all, run, opens}
use Rattle.lists.specs.Text as bytes
use Rattle.lists.specs.Found.Found.{missing}
use Rattle.lists.proofs.Tests.{by_test, both_left, both_right, true_not_false, within_yes, within_high, within_least, within_most}
use Rattle.lists.proofs.Scans.{all_weaken, all_append, all_cons, run_stops}
use Rattle.spec_numbers.specs.Print.{decimal, hex_lower4}
use Rattle.spec_numbers.specs.Parse.{digit_value}
use Rattle.spec_numbers.proofs.PrintLaws.{decimal_every, decimal_all, decimal_some, hex_lower4_length}
use Rattle.spec_numbers.proofs.ParseLaws.{value_of_digit, value_of_lower}
use Rattle.spec_sheet.specs.Scan.{is_digit, is_upper}
use Rattle.spec_sheet.specs.Sheet.{is_missing}
use Rattle.spec_sheet.proofs.NameTextLaws.{NameText, all_at}
use Rattle.spec_strings.proofs.EscapeLaws.{last_of, last_append}
use Rattle.spec_inputs.specs.Context.{Context}
use Rattle.spec_listing.proofs.LineShape.{behind_commas, joined, behind_name, label_head}
use Rattle.spec_listing.proofs.TokenBytes.{token_byte, Token, token_least, token_last}
use Rattle.spec_listing.proofs.PieceBytes.{Piece}
use Rattle.spec_listing.proofs.LineOffset.{offset_every, offset_some, offset_token}
use Rattle.spec_listing.proofs.LineNames.{name_token}
use Rattle.spec_listing.proofs.LineNames.ListedName.{named}
use Rattle.spec_listing.proofs.LinePieces.{Every}
use Rattle.spec_listing.proofs.LinePieces.Every.{nothing, more}
use Rattle.spec_hasm.specs.Text.{is_white, trim_start, trim}
use Rattle.spec_hasm.specs.Line.{is_skipped, is_label, is_hex_digit, has_hex_prefix, behind_hex_mark, is_offset, behind_offset, statement_in, statement_of, opcode_named}
use Rattle.spec_hasm.specs.Line.Statement.{labelled, instruction}
use Rattle.theorems.proofs.Trims.{solid, white_space, start_kept, start_space, trim_kept}
use Rattle.theorems.proofs.Comments.{quiet, token_quiet, Kept, quiet_kept, quiet_whole, operands_kept, strip_kept}
use Rattle.theorems.proofs.Splits.{piece_last, piece_some}

-- what opens a list has its elements there
opens_at : (p s : List ℕ) → opens p s ≡ true → (i : ℕ) → i < length p → get_or s i 0 ≡ get_or p i 0
unfolding opens
opens_at [] s e i h = absurd (omega arith)
opens_at (a ∷ p) [] e i h = true_not_false false e refl
opens_at (a ∷ p) (b ∷ s) e zero h = sym (eqb-true a b (both_left (eqb a b) (opens p s) e))
opens_at (a ∷ p) (b ∷ s) e (suc i) h = opens_at p s (both_right (eqb a b) (opens p s) e) i (omega arith)

-- so another element there opens no such list
opens_differs : (p s : List ℕ) (i : ℕ) → i < length p → (get_or s i 0 ≡ get_or p i 0 → ⊥) → opens p s ≡ false
opens_differs p s i h n = by_test (opens p s) (λ e. absurd (n (opens_at p s e i h))) (λ e. e)

-- a line that is neither empty nor a banner, by its first two bytes
not_skipped : (s : List ℕ) → 0 < length s → (get_or s 0 0 ≡ 59 → ⊥) → (get_or s 0 0 ≡ 70 → ⊥) → (get_or s 1 0 ≡ 117 → ⊥) → is_skipped s ≡ false
unfolding is_skipped bytes.text
not_skipped s h semicolon upper second =
    rw (ne_eqb (length s) 0 (λ z. omega arith), opens_differs (bytes.text "function ") s 1 (omega arith) second, opens_differs (bytes.text "; ") s 0 (omega arith) semicolon, opens_differs (bytes.text "Function") s 0 (omega arith) upper)

-- a line without comment, and without white space at its ends
line_kept : (e : Context) (s : List ℕ) → Kept s → is_white (get_or s 0 0) ≡ false → is_white (last_of s) ≡ false → statement_of e s ≡ statement_in e s
line_kept e s k f l = ap (λ (t : List ℕ). statement_in e t) (ap trim (strip_kept s k) ∙ trim_kept s f l)

-- a label's line
module _ (e : Context) (at : ℕ) where
  label_quiet : all quiet (label_head at) ≡ true
  unfolding all quiet
  label_quiet =
      all_append quiet (76 ∷ decimal at) (58 ∷ [])
      (all_cons quiet 76 (decimal at) refl (decimal_every quiet (λ b l h. rw (ne_eqb b 34 (λ z. omega arith), ne_eqb b 47 (λ z. omega arith))) at)) refl

  label_kept : Kept (label_head at)
  label_kept = quiet_whole (label_head at) label_quiet

  label_length : length (label_head at) ≡ suc (length (76 ∷ decimal at))
  label_length = omega (arith, length-append (76 ∷ decimal at) (58 ∷ []))

  label_last : last_of (label_head at) ≡ 58
  label_last = last_append (76 ∷ decimal at) (58 ∷ []) (omega arith)

  label_front : take (length (label_head at) - 1) (label_head at) ≡ 76 ∷ decimal at
  label_front =
      let q : length (label_head at) - 1 ≡ length (76 ∷ decimal at) = omega (arith, label_length) in
      rw q (take-append_seam (76 ∷ decimal at) (58 ∷ []))

  label_skipped : is_skipped (label_head at) ≡ false
  label_skipped =
      not_skipped (label_head at) (omega arith) (λ z. omega arith) (λ z. omega arith)
      (λ z. let w : get_or (decimal at ++ (58 ∷ [])) 0 0 ≡ 117 = z in
      let q = get_or-append (decimal at) (58 ∷ []) 0 0 (decimal_some at) in
      let d = all_at is_digit (decimal at) (decimal_all at) 0 (decimal_some at) in
      omega (arith, w, q, within_most 48 57 (get_or (decimal at) 0 0) d))

  label_is : is_label (label_head at) ≡ true
  unfolding is_label
  label_is = rw (label_last, label_front) (decimal_all at)

  -- it is that label
  pub label_statement : statement_of e (label_head at) ≡ labelled (76 ∷ decimal at)
  unfolding statement_in
  label_statement =
      line_kept e (label_head at) label_kept (solid 76 (omega arith)) (ap is_white label_last ∙ solid 58 (omega arith))
      ∙ rw (label_skipped, label_is, label_front)

-- the pieces behind a name do not end with white space
last_commas : (p : List ℕ) (ps : List (List ℕ)) → Piece p → Every Piece ps → is_white (last_of (p ++ behind_commas ps)) ≡ false
unfolding behind_commas
last_commas p [] h nothing = rw append-nil (piece_last p h)
last_commas p (q ∷ ps) h (more k ks) =
    let some : 0 < length (q ++ behind_commas ps) = omega (arith, length-append q (behind_commas ps), piece_some q k) in
    let apart : p ++ (44 ∷ 32 ∷ q ++ behind_commas ps) ≡ (p ++ (44 ∷ 32 ∷ [])) ++ (q ++ behind_commas ps) = sym (append_assoc p (44 ∷ 32 ∷ []) (q ++ behind_commas ps)) in
    ap (λ (t : List ℕ). is_white (last_of t)) apart
    ∙ ap is_white (last_append (p ++ (44 ∷ 32 ∷ [])) (q ++ behind_commas ps) some)
    ∙ last_commas q ps k ks

last_shown : (name : List ℕ) → Token name → (ps : List (List ℕ)) → Every Piece ps → is_white (last_of (name ++ behind_name ps)) ≡ false
unfolding behind_name joined
last_shown name t [] nothing = rw append-nil (solid (last_of name) (token_least (last_of name) (token_last name t)))
last_shown name t (p ∷ ps) (more h hs) =
    let some : 0 < length (p ++ behind_commas ps) = omega (arith, length-append p (behind_commas ps), piece_some p h) in
    let apart : name ++ (32 ∷ p ++ behind_commas ps) ≡ (name ++ (32 ∷ [])) ++ (p ++ behind_commas ps) = sym (append_assoc name (32 ∷ []) (p ++ behind_commas ps)) in
    ap (λ (t : List ℕ). is_white (last_of t)) apart
    ∙ ap is_white (last_append (name ++ (32 ∷ [])) (p ++ behind_commas ps) some)
    ∙ last_commas p ps h hs

-- a lower-case hex digit, which no byte is that would make the line another one
abbrev hex_byte : ℕ → Bool
hex_byte b = either (within 48 57 b) (within 97 102 b)

-- a line of an instruction: an offset that is no name, two spaces, a name and pieces
module _ (e : Context) (at : ℕ) (small : at < 65536) (missed : opcode_named e (hex_lower4 at) ≡ missing) (name : List ℕ) (n : NameText name) (ps : List (List ℕ)) (hs : Every Piece ps) where
  -- what stands behind the offset
  abbrev shown : List ℕ
  shown = name ++ behind_name ps

  abbrev line : List ℕ
  line = hex_lower4 at ++ 32 ∷ 32 ∷ shown

  is_token : Token name
  is_token = name_token name (named n)

  -- no comment stands in it
  shown_kept : Kept shown
  shown_kept = quiet_kept name (behind_name ps) (all_weaken token_byte quiet token_quiet name is_token.bytes) (operands_kept ps hs)

  offset_quiet : all quiet (hex_lower4 at) ≡ true
  offset_quiet = all_weaken token_byte quiet token_quiet (hex_lower4 at) (offset_token at).bytes

  line_quiet : Kept line
  unfolding all quiet
  line_quiet = quiet_kept (hex_lower4 at) (32 ∷ 32 ∷ shown) offset_quiet (quiet_kept (32 ∷ 32 ∷ []) shown refl shown_kept)

  shown_some : 0 < length shown
  shown_some = omega (arith, length-append name (behind_name ps), n.least)

  -- a test that every digit passes
  line_first : (p : ℕ → Bool) → all p (hex_lower4 at) ≡ true → (i : ℕ) → i < 4 → p (get_or line i 0) ≡ true
  line_first p h i l =
      let m : i < length (hex_lower4 at) = omega (arith, hex_lower4_length at small) in
      rw (get_or-append (hex_lower4 at) (32 ∷ 32 ∷ shown) 0 i m) (all_at p (hex_lower4 at) h i m)

  line_hex : (i : ℕ) → i < 4 → hex_byte (get_or line i 0) ≡ true
  line_hex i l = line_first hex_byte (offset_every hex_byte (λ b l h. rw (within_yes 48 57 b l h)) (λ b l h. rw (within_high 48 57 b (omega arith), within_yes 97 102 b l h)) at) i l

  not_hex : (i b : ℕ) → i < 4 → hex_byte b ≡ false → get_or line i 0 ≡ b → ⊥
  not_hex i b l h z = true_not_false (hex_byte b) (rw z at (line_hex i l)) h

  line_length : 4 < length line
  line_length = omega (arith, length-append (hex_lower4 at) (32 ∷ 32 ∷ shown), hex_lower4_length at small)

  -- it is no banner and no label
  line_skipped : is_skipped line ≡ false
  line_skipped = not_skipped line (omega (arith, line_length)) (not_hex 0 59 (omega arith) refl) (not_hex 0 70 (omega arith) refl) (not_hex 1 117 (omega arith) refl)

  line_label : is_label line ≡ false
  unfolding is_label
  line_label = rw (ne_eqb (get_or line 0 0) 76 (not_hex 0 76 (omega arith) refl))

  -- its digits are the offset
  line_mark : has_hex_prefix line ≡ false
  unfolding has_hex_prefix bytes.text
  line_mark = rw (opens_differs (bytes.text "0x") line 1 (omega arith) (not_hex 1 120 (omega arith) refl), opens_differs (bytes.text "0X") line 1 (omega arith) (not_hex 1 88 (omega arith) refl))

  line_unmarked : behind_hex_mark line ≡ line
  unfolding behind_hex_mark
  line_unmarked = rw line_mark

  digits_hex : all is_hex_digit (hex_lower4 at) ≡ true
  digits_hex =
      offset_every is_hex_digit
      (λ b l h. lt-ltb (digit_value b) 16 (rw (value_of_digit b l h) (omega arith)))
      (λ b l h. lt-ltb (digit_value b) 16 (rw (value_of_lower b l h) (omega arith))) at

  space_no_digit : is_hex_digit 32 ≡ false
  unfolding digit_value
  space_no_digit = refl

  digits_run : run is_hex_digit line ≡ length (hex_lower4 at)
  digits_run = run_stops is_hex_digit (hex_lower4 at) 32 (32 ∷ shown) digits_hex space_no_digit

  shown_upper : is_upper (get_or shown 0 0) ≡ true
  shown_upper = ap is_upper (get_or-append name (behind_name ps) 0 0 n.least) ∙ n.upper

  shown_solid : is_white (get_or shown 0 0) ≡ false
  shown_solid = solid (get_or shown 0 0) (omega (arith, within_least 65 90 (get_or shown 0 0) shown_upper))

  behind_digits : trim_start (drop (length (hex_lower4 at)) line) ≡ shown
  behind_digits =
      ap (λ (s : List ℕ). trim_start s) (drop-append_seam (hex_lower4 at) (32 ∷ 32 ∷ shown)) ∙ start_space (32 ∷ shown) ∙ start_space shown ∙ start_kept shown shown_solid

  line_offset : is_offset e line (length (hex_lower4 at)) ≡ true
  unfolding is_offset is_missing
  line_offset =
      rw (lt-ltb 0 (length (hex_lower4 at)) (offset_some at), get_or-append_seam (hex_lower4 at) 32 (32 ∷ shown) 0, white_space, take-append_seam (hex_lower4 at) (32 ∷ 32 ∷ shown), missed, behind_digits, shown_upper)

  line_behind : behind_offset e line ≡ shown
  unfolding behind_offset
  line_behind = rw (line_unmarked, digits_run, line_offset) behind_digits

  -- it ends as its name or its last piece does
  line_last : is_white (last_of line) ≡ false
  line_last =
      ap is_white (last_append (hex_lower4 at) (32 ∷ 32 ∷ shown) (omega arith) ∙ last_append (32 ∷ 32 ∷ []) shown shown_some) ∙ last_shown name is_token ps hs

  -- it is that instruction
  pub line_statement : statement_of e line ≡ instruction shown
  unfolding statement_in
  line_statement =
      line_kept e line line_quiet (solid (get_or line 0 0) (omega (arith, first_least))) line_last
      ∙ rw (line_skipped, line_label, line_behind)
    where
      first_least : 33 ≤ get_or line 0 0
      first_least = token_least (get_or line 0 0) (line_first token_byte (offset_token at).bytes 0 (omega arith))
