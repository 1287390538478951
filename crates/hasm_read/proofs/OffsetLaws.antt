-- Laws of an offset in front of an instruction. Assumes nothing.
use mathlib.Core.Path.{◌≡◌, refl, ap, sym, ◌∙◌}
use mathlib.Core.Bool.{Bool, true, false}
use Prim.Native.Nat.{ℕ, ◌-◌, ◌+◌, ◌≤◌, ◌<◌}
use native.Mathlib.Omega.{arith}
use mathlib.Core.List.{List}
use borrow.Author.Tests.{lt-ltb, le-ltb}
use lib.Dec.{ltb}
use lib.ListN.{length, drop, get_or}
use lib.Seq.{drop-drop, get_or-drop}
use Rattle.lists.specs.Choice.{pick, both}
use Rattle.lists.specs.Scan.{run, part}
use Rattle.lists.proofs.Tests.{both_no_right, both_no_left, both_yes}
use Rattle.spec_numbers.specs.Parse.{digit_value}
use Rattle.spec_sheet.specs.Sheet.{is_missing}
use Rattle.spec_inputs.specs.Context.{Context}
use Rattle.spec_hasm.specs.Text.{is_white}
use Rattle.hasm_read.proofs.MarkLaws.{prefix_length}
use Rattle.spec_hasm.specs.Line.{is_hex_digit, is_letter, has_hex_prefix, behind_hex_mark, is_offset, behind_offset, opcode_named}

-- how many bytes the mark of a hex number takes
abbrev MarkLength : List ℕ → ℕ → Type 0
MarkLength s r = (r ≡ pick (has_hex_prefix s) 2 0) × (r ≤ length s)

pub mark_there : (s : List ℕ) → has_hex_prefix s ≡ true → MarkLength s 2
mark_there s e = (rw e, prefix_length s e)

pub mark_none : (s : List ℕ) → has_hex_prefix s ≡ false → MarkLength s 0
mark_none s e = (rw e, omega arith)

-- by what a byte is worth as a digit
pub hex_digit : (b d : ℕ) → d ≡ digit_value b → d < 16 → is_hex_digit b ≡ true
hex_digit b d e h = lt-ltb (digit_value b) 16 (omega (arith, e, h))

pub no_hex_digit : (b d : ℕ) → d ≡ digit_value b → 16 ≤ d → is_hex_digit b ≡ false
no_hex_digit b d e h = le-ltb (digit_value b) 16 (omega (arith, e, h))

behind_mark : (s : List ℕ) → behind_hex_mark s ≡ drop (pick (has_hex_prefix s) 2 0) s
unfolding behind_hex_mark
behind_mark s = go (has_hex_prefix s)
  where
    go : (t : Bool) → pick t (drop 2 s) s ≡ drop (pick t 2 0) s
    go true = refl
    go false = refl

-- by what a scan of the mark and the digits found
module _ (e : Context) (s : List ℕ) (m k : ℕ) (p : m ≡ pick (has_hex_prefix s) 2 0) (q : k ≡ m + run is_hex_digit (drop m s)) where
  -- the tests at places of the whole line
  unfoldable stripped : Bool
  stripped =
      both (ltb 0 (k - m)) (both (is_white (get_or s k 0)) (both (is_missing (opcode_named e (part s m (k - m)))) (is_letter (get_or s (k + run is_white (drop k s)) 0))))

  digits : behind_hex_mark s ≡ drop m s
  digits = rw p (behind_mark s)

  count : run is_hex_digit (drop m s) ≡ k - m
  count = omega (arith, q)

  rest : drop (k - m) (drop m s) ≡ drop k s
  rest =
      let h : m + (k - m) ≡ k = omega (arith, q) in
      rw (drop-drop (k - m) m s, h)

  first : (r : ℕ) → get_or (drop r (drop k s)) 0 0 ≡ get_or s (k + r) 0
  first r =
      let z : k + r + 0 ≡ k + r = omega arith in
      rw (drop-drop r k s, get_or-drop (k + r) s 0 0, z)

  tests : is_offset e (drop m s) (k - m) ≡ stripped
  unfolding is_offset stripped
  tests =
      let h : m + (k - m) ≡ k = omega (arith, q) in
      rw (rest, get_or-drop m s (k - m) 0, h, first (run is_white (drop k s)))

  whole : behind_offset e s ≡ pick stripped (drop (k + run is_white (drop k s)) s) s
  unfolding behind_offset
  whole = rw (digits, count, tests, rest, drop-drop (run is_white (drop k s)) k s)

  -- no offset, as there is no digit, as no white space follows, as no letter follows that, or as the sheet has the name
  kept : stripped ≡ false → behind_offset e s ≡ s
  kept n = whole ∙ ap (λ (t : Bool). pick t (drop (k + run is_white (drop k s)) s) s) n

  pub no_digit : k ≤ m → behind_offset e s ≡ s
  unfolding stripped
  no_digit h = kept (both_no_left (ltb 0 (k - m)) _ (le-ltb 0 (k - m) (omega (arith, h))))

  pub no_white : is_white (get_or s k 0) ≡ false → behind_offset e s ≡ s
  unfolding stripped
  no_white n = kept (both_no_right (ltb 0 (k - m)) _ (both_no_left (is_white (get_or s k 0)) _ n))

  module _ (a : ℕ) (r : a ≡ k + run is_white (drop k s)) where
    pub no_letter : is_letter (get_or s a 0) ≡ false → behind_offset e s ≡ s
    unfolding stripped
    no_letter n =
        kept (both_no_right (ltb 0 (k - m)) _ (both_no_right (is_white (get_or s k 0)) _
        (both_no_right (is_missing (opcode_named e (part s m (k - m)))) _ (rw (sym r) n))))

    pub a_name : is_missing (opcode_named e (part s m (k - m))) ≡ false → behind_offset e s ≡ s
    unfolding stripped
    a_name n = kept (both_no_right (ltb 0 (k - m)) _ (both_no_right (is_white (get_or s k 0)) _ (both_no_left _ _ n)))

    pub an_offset : m < k → is_white (get_or s k 0) ≡ true → is_missing (opcode_named e (part s m (k - m))) ≡ true → is_letter (get_or s a 0) ≡ true
        → behind_offset e s ≡ drop a s
    unfolding stripped
    an_offset h w n l =
        let t : stripped ≡ true = both_yes (ltb 0 (k - m)) _ (lt-ltb 0 (k - m) (omega (arith, h))) (both_yes (is_white (get_or s k 0)) _ w (both_yes _ _ n (rw (sym r) l))) in
        rw r (whole ∙ ap (λ (t : Bool). pick t (drop (k + run is_white (drop k s)) s) s) t)
