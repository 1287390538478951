-- The bytes of names and numbers by std's classes. Assumes nothing.
use mathlib.Core.Path.{◌≡◌, refl, ap, sym, ◌∙◌}
use mathlib.Core.Bool.{Bool, true, false, ◌||◌}
use Prim.Native.Nat.{ℕ}
use mathlib.Core.List.{List}
use lib.Dec.{eqb, leb}
use lib.ListN.{drop}
use Rattle.std.specs.List.{prefix_len}
use Rattle.std.specs.Char.{is_ascii_digit, is_ascii_uppercase, is_ascii_lowercase, is_ascii_alphanumeric}
use Rattle.lists.specs.Choice.{either}
use Rattle.lists.specs.Scan.{run}
use Rattle.lists.proofs.Links.{both_and, run_prefix}
use Rattle.spec_sheet.specs.Scan.{is_digit, is_upper, is_lower, is_name_byte}

pub digit_class : (b : ℕ) → is_digit b ≡ is_ascii_digit b
digit_class b = both_and (leb 48 b) (leb b 57)

pub upper_class : (b : ℕ) → is_upper b ≡ is_ascii_uppercase b
upper_class b = both_and (leb 65 b) (leb b 90)

lower_class : (b : ℕ) → is_lower b ≡ is_ascii_lowercase b
lower_class b = both_and (leb 97 b) (leb b 122)

-- an upper-case letter, a lower-case one, a digit or an underscore, in std's order
in_order : (u l d e : Bool) → either u (either l (either d e)) ≡ (((d || u) || l) || e)
in_order true l true e = refl
in_order true l false e = refl
in_order false true true e = refl
in_order false true false e = refl
in_order false false true e = refl
in_order false false false e = refl

pub name_class : (b : ℕ) → is_name_byte b ≡ (is_ascii_alphanumeric b || eqb b 95)
unfolding is_name_byte
name_class b = rw (upper_class b, lower_class b, digit_class b) (in_order (is_ascii_uppercase b) (is_ascii_lowercase b) (is_ascii_digit b) (eqb b 95))

-- a run behind a place, as it is counted
pub run_at : (p : ℕ → Bool) (s : List ℕ) (at k : ℕ) {t : List ℕ} → t ≡ drop at s → k ≡ prefix_len p t → k ≡ run p (drop at s)
run_at p s at k e f = f ∙ (ap (prefix_len p) e ∙ sym (run_prefix p (drop at s)))
