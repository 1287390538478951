-- What opens a hex number. Assumes nothing.
use mathlib.Core.Path.{◌≡◌}
use mathlib.Core.Bool.{true}
use mathlib.Core.List.{List}
use Prim.Native.Nat.{ℕ, ◌≤◌}
use lib.ListN.{length}
use Rattle.lists.specs.Scan.{opens}
use Rattle.lists.specs.Text.{text}
use Rattle.lists.proofs.Tests.{by_test}
use Rattle.lists.proofs.Scans.{opens_length}
use Rattle.spec_hasm.specs.Line.{has_hex_prefix}

-- what has the mark has its two bytes
pub prefix_length : (t : List ℕ) → has_hex_prefix t ≡ true → 2 ≤ length t
unfolding has_hex_prefix text
prefix_length t e =
    by_test (opens (text "0x") t)
    (λ y. opens_length (text "0x") t y)
    (λ n. opens_length (text "0X") t (rw n at e))
