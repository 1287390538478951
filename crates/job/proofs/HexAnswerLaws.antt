-- What the answer of a line of hex says of the line and of the lent bytes. Assumes nothing.
use mathlib.Core.Path.{◌≡◌, sym, ◌∙◌, ap}
use mathlib.Core.List.{List, ◌++◌}
use Prim.Native.Nat.{ℕ, ◌+◌}
use native.Mathlib.Omega.{arith}
use lib.ListN.{length, drop}
use lib.Seq.{take-append_seam}
use Rattle.lists.specs.Write.{Put}
use Rattle.lists.proofs.Writes.{put_fits, kept_length}
use Rattle.spec_job.specs.Hex.{HexRead}
use Rattle.spec_job.specs.Hex.HexRead.{hex, no_hex}
use Rattle.job.specs.HexAnswers.{Lined}
use Rattle.job.specs.HexAnswers.Lined.{line, no_line}
use Rattle.job.specs.TableAnswers.{Opens}
use Rattle.std.proofs.Common.{Option, Some, None}
use Rattle.job.specs.declared.hex.HexRead.{HexRead as Numbers}

-- a line that was written
pub record Wrote (x : HexRead) (out : List ℕ) («from» : ℕ) (out' : List ℕ) (b k : ℕ) : Type 0 where
  pub bytes : List ℕ
  pub is_hex : x ≡ hex bytes b
  pub written : Put out «from» bytes out' k

module _ {x : HexRead} {out : List ℕ} {«from» : ℕ} {out' : List ℕ} {r : Option Numbers} where
  pub was_line : {n : Numbers} → Lined x out «from» out' r → r ≡ Some n → Wrote x out «from» out' n.end n.next
  was_line {n} (line bs c j e f p) q =
      let y : ◌≡◌ {A = Numbers} (record { end = c; next = j }) n = cc (sym f ∙ q) in
      let z : j ≡ n.next = ap (λ (m : Numbers). m.next) y in
      record { bytes = bs; is_hex = e ∙ ap (λ (m : Numbers). hex bs m.end) y; written = rw z at p }
  was_line (no_line e f) q = absurd (let z : ◌≡◌ {A = ℕ} 0 1 = cc (sym f ∙ q) in omega arith)

  pub was_malformed : Lined x out «from» out' r → r ≡ None → x ≡ no_hex
  was_malformed (line bs c j e f p) q = absurd (let z : ◌≡◌ {A = ℕ} 0 1 = cc (sym f ∙ q) in omega arith)
  was_malformed (no_line e f) q = e

-- lent bytes that were written from their front open with what was written
pub written_opens : (out bs out' : List ℕ) (k : ℕ) → Put out 0 bs out' k → Opens out' bs
written_opens out bs out' k p h =
    let e : out' ≡ bs ++ drop (0 + length bs) out = p.bytes ∙ put_fits out 0 bs (omega (arith, kept_length p)) in
    rw e (take-append_seam bs (drop (0 + length bs) out))
