-- The loop over all lines of a text. Assumes nothing.
use mathlib.Core.Path.{◌≡◌}
use mathlib.Core.List.{List}
use Prim.Native.Nat.{ℕ, ◌+◌, ◌*◌, ◌<◌, ◌≤◌}
use native.Mathlib.Omega.{arith}
use lib.ListN.{length, drop}
use Rattle.lists.specs.Found.{Found}
use Rattle.lists.specs.Scan.{run}
use Rattle.lists.specs.Write.{top}
use Rattle.limits.specs.Limits.{text_limit}
use Rattle.spec_inputs.specs.Context.{Context}
use Rattle.spec_hasm.specs.Assemble.{codes_of, bytes_from}
use Rattle.hasm_read.specs.Lines.{not_feed, ShortLines}
use Rattle.hasm_read.proofs.LineLaws.{short_here, short_behind}
use Rattle.assemble.specs.Going.{Going, LineAt, Turned}
use Rattle.assemble.specs.Bodies.{BodyPut}
use Rattle.assemble.specs.declared.operands.Place.{Place}
use Rattle.std.proofs.Common.{Ok}
use Rattle.assemble.proofs.BodyLoop.{body_start, body_end}

-- the lines before line n were written, and those from `at` on are short
pub record Body (e : Context) (labels : List ℕ → Found) (s out₀ out : List ℕ) (at n : ℕ) (place : Place) : Type 0 where
  pub going : Going e labels s out₀ out at n place
  pub short : ShortLines (drop at s)
  pub few : n ≤ at + 1
  pub low : place.offset ≤ 65 * at

module _ (e : Context) (labels : List ℕ → Found) (s : List ℕ) where
  pub text_start : (out : List ℕ) → length out ≤ top → ShortLines s → Body e labels s out out 0 1 (record { offset = 0; k = 0 })
  text_start out h f = record { going = body_start e labels s out h; short = f; few = omega arith; low = omega arith }

  module _ {out₀ out : List ℕ} {at n : ℕ} {place : Place} (b : Body e labels s out₀ out at n place) where
    pub text_end : length s ≤ at → BodyPut (bytes_from e labels 0 (codes_of e s)) out₀ out place.k
    text_end h = record { bytes = b.going.bytes; whole = body_end e labels b.going h; put = b.going.put }

    module _ (end : ℕ) (i : at < length s) (q : end ≡ at + run not_feed (drop at s)) (small : length s ≤ text_limit) where
      pub text_line : LineAt s at end place.offset
      text_line = record { inside = i; ends = q; short = short_here s at end i q b.short; small = omega (arith, b.low) }

      pub text_turn : {out' : List ℕ} (next : Place) → Turned e labels s out₀ out' (end + 1) n place (Ok next) → Body e labels s out₀ out' (end + 1) (n + 1) next
      text_turn next (g, l) = record { going = g; short = short_behind s at end i q b.short; few = omega (arith, b.few, q); low = omega (arith, b.low, q, l) }
