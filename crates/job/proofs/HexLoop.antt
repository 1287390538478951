-- The loop over a line's pairs of digits. Assumes nothing.
use mathlib.Core.Path.{◌≡◌, refl, ap, sym, ◌∙◌}
use mathlib.Core.List.{List, [], ◌∷◌, ◌++◌, append_assoc, append-nil}
use Prim.Native.Nat.{ℕ, suc, ◌+◌, ◌-◌, ◌*◌, ◌≤◌, ◌<◌}
use native.Mathlib.Omega.{arith}
use lib.ListN.{length, get_or}
use Rattle.lists.specs.Write.{Put, top}
use Rattle.lists.proofs.Writes.{◌then◌, wrote_none}
use Rattle.spec_numbers.specs.Parse.{digit_value}
use Rattle.spec_job.specs.Hex.{HexRead, with_byte, hex_from, hex_at}
use Rattle.spec_job.specs.Hex.HexRead.{hex, no_hex}
use Rattle.spec_job.proofs.HexLaws.{hex_ended, hex_byte, hex_high, hex_low, hex_past}
use Rattle.job.specs.HexAnswers.{Lined}
use Rattle.job.specs.HexAnswers.Lined.{line, no_line}
use Rattle.std.proofs.Common.{Some, None}

-- bytes in front of those of a line
unfoldable pub behind : List ℕ → HexRead → HexRead
behind seen (hex bs b) = hex (seen ++ bs) b
behind seen no_hex = no_hex

behind_none : (x : HexRead) → behind [] x ≡ x
unfolding behind
behind_none (hex bs b) = refl
behind_none no_hex = refl

behind_byte : (seen : List ℕ) (c : ℕ) (x : HexRead) → behind seen (with_byte c x) ≡ behind (seen ++ (c ∷ [])) x
unfolding behind with_byte
behind_byte seen c (hex bs b) = ap (λ (l : List ℕ). hex l b) (sym (append_assoc seen (c ∷ []) bs))
behind_byte seen c no_hex = refl

-- the pairs before `at` were written, and those from there on complete the line
pub record Going (s : List ℕ) (start : ℕ) (out₀ : List ℕ) («from» : ℕ) (out : List ℕ) (k at : ℕ) : Type 0 where
  pub seen : List ℕ
  pub fuel : ℕ
  pub enough : length s ≤ fuel + at
  pub wrote : Put out₀ «from» seen out k
  pub left : hex_at s start ≡ behind seen (hex_from fuel s at)

pub begin : (s : List ℕ) (start : ℕ) (out : List ℕ) («from» : ℕ) → length out ≤ top → «from» ≤ top → Going s start out «from» out «from» start
begin s start out «from» h l = record { seen = []; fuel = length s; enough = omega arith; wrote = wrote_none h l; left = sym (behind_none (hex_at s start)) }

module _ (s : List ℕ) (start : ℕ) (out₀ : List ℕ) («from» : ℕ) (out : List ℕ) (k at : ℕ) (g : Going s start out₀ «from» out k at) where
  -- the end of the line
  pub ended : get_or s at 0 ≡ 10 → Lined (hex_at s start) out₀ «from» out (Some (record { end = at + 1; next = k }))
  unfolding behind
  ended e = line g.seen (at + 1) k (g.left ∙ (rw (hex_ended s at g.fuel e) (ap (λ (l : List ℕ). hex l (at + 1)) (append-nil g.seen)))) refl g.wrote

  -- a line that is not of the form
  stopped : hex_from g.fuel s at ≡ no_hex → Lined (hex_at s start) out₀ «from» out None
  unfolding behind
  stopped e = no_line (g.left ∙ rw e) refl

  pub past : length s ≤ at → Lined (hex_at s start) out₀ «from» out None
  past h = stopped (hex_past s at g.fuel h)

  module _ (n : get_or s at 0 ≡ 10 → ⊥) (high : ℕ) (p : high ≡ digit_value (get_or s at 0)) where
    pub no_high : 15 < high → Lined (hex_at s start) out₀ «from» out None
    no_high h = stopped (hex_high s at n g.fuel (omega (arith, p)))

    module _ (low : ℕ) (q : low ≡ digit_value (get_or s (at + 1) 0)) where
      pub no_low : 15 < low → Lined (hex_at s start) out₀ «from» out None
      no_low h = stopped (hex_low s at n g.fuel (omega (arith, q)))

      pub turn : (out' : List ℕ) (k' : ℕ) → at < length s → high ≤ 15 → low ≤ 15 → Put out k ((16 * high + low) ∷ []) out' k' → Going s start out₀ «from» out' k' (at + 2)
      turn out' k' i h l t =
          let f : g.fuel ≡ suc (g.fuel - 1) = omega (arith, g.enough) in
          let e : hex_from (suc (g.fuel - 1)) s at ≡ with_byte (16 * high + low) (hex_from (g.fuel - 1) s (at + 2)) =
          rw (p, q) (hex_byte s at n (g.fuel - 1) (omega (arith, p)) (omega (arith, q))) in
          let w = ap (λ (m : ℕ). behind g.seen (hex_from m s at)) f ∙ ap (behind g.seen) e in
          record {
            seen = g.seen ++ ((16 * high + low) ∷ []);
            fuel = g.fuel - 1;
            enough = omega (arith, g.enough);
            wrote = g.wrote then t;
            left = g.left ∙ (w ∙ behind_byte g.seen (16 * high + low) (hex_from (g.fuel - 1) s (at + 2)));
          }
