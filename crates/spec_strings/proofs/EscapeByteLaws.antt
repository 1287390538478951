-- An escape prints bytes 32 to 126 only, whatever the text holds. Assumes nothing.
use mathlib.Core.Path.{◌≡◌, refl}
use mathlib.Core.Bool.{true}
use mathlib.Core.List.{List, [], ◌∷◌, ◌++◌}
use mathlib.Core.Logic.◌⊎◌.{inl}
use Prim.Native.Nat.{ℕ}
use native.Mathlib.Omega.{arith}
use lib.Dec.{eqb, leb}
use Rattle.lists.specs.Choice.{within}
use Rattle.lists.specs.Scan.{all}
use Rattle.lists.proofs.Tests.{by_test, within_yes}
use Rattle.lists.proofs.Scans.{all_append, all_pick}
use Rattle.spec_numbers.specs.Print.{digits, padded, hex_upper, hex_upper4}
use Rattle.spec_numbers.proofs.PrintLaws.{unpadded}
use Rattle.spec_numbers.proofs.ParseLaws.{value_range}
use Rattle.spec_numbers.proofs.ReadBackLaws.{hex_every}
use Rattle.spec_strings.specs.Escape.{escaped, unicode, escape, escape_all, escape_text, quoted}
use Rattle.spec_strings.specs.Utf8.{chars}

-- hex digits with any zeros in front
hex_bytes : (w n : ℕ) → all (within 32 126) (padded w (digits 16 65 16 n)) ≡ true
hex_bytes w n =
    hex_every (within 32 126)
    (λ b h. let r = value_range b h in within_yes 32 126 b (omega (arith, r.0)) (omega (arith, r.1)))
    65 w 16 n (inl refl)

unicode_bytes : (c : ℕ) → all (within 32 126) (unicode c) ≡ true
unfolding unicode hex_upper hex_upper4 all
unicode_bytes c =
    all_pick (within 32 126) (leb c 65535) (92 ∷ 117 ∷ hex_upper4 c) (92 ∷ 117 ∷ 123 ∷ hex_upper c ++ (125 ∷ [])) (hex_bytes 4 c)
    (all_append (within 32 126) (hex_upper c) (125 ∷ []) (rw (unpadded (digits 16 65 16 c)) at (hex_bytes 0 c)) refl)

-- one character
pub escape_bytes : (c : ℕ) → all (within 32 126) (escape c) ≡ true
unfolding escape all
escape_bytes c =
    all_pick (within 32 126) (eqb c 34) (escaped 34) _ refl
    (all_pick (within 32 126) (eqb c 92) (escaped 92) _ refl
    (all_pick (within 32 126) (eqb c 10) (escaped 110) _ refl
    (all_pick (within 32 126) (eqb c 13) (escaped 114) _ refl
    (all_pick (within 32 126) (eqb c 9) (escaped 116) _ refl
    (all_pick (within 32 126) (eqb c 0) (escaped 48) _ refl
    (by_test (within 32 126 c) (λ e. rw (e, e)) (λ e. rw e (unicode_bytes c))))))))

all_bytes : (cs : List ℕ) → all (within 32 126) (escape_all cs) ≡ true
unfolding escape_all all
all_bytes [] = refl
all_bytes (c ∷ cs) = all_append (within 32 126) (escape c) (escape_all cs) (escape_bytes c) (all_bytes cs)

-- a text, between its quotes and with them
pub escape_text_bytes : (s : List ℕ) → all (within 32 126) (escape_text s) ≡ true
unfolding escape_text
escape_text_bytes s = all_bytes (chars s)

pub quoted_bytes : (s : List ℕ) → all (within 32 126) (quoted s) ≡ true
unfolding quoted all
quoted_bytes s = all_append (within 32 126) (escape_text s) (34 ∷ []) (escape_text_bytes s) refl
