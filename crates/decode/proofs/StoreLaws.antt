-- A record that fits, and one that does not. Assumes nothing.
use mathlib.Core.Path.{◌≡◌}
use mathlib.Core.List.{List, append_assoc}
use Prim.Native.Nat.{ℕ, ◌+◌, ◌*◌, ◌≤◌, ◌<◌}
use lib.ListN.{length, take, drop}
use lib.Seq.{paste, take_all}
use native.Mathlib.Omega.{arith}
use borrow.Author.Tests.{le-leb, lt-leb}
use Rattle.decode.specs.Bodies.{stored_at}

pub stored : (out : List ℕ) (n : ℕ) (r : List ℕ) → n * 20 + 20 ≤ length out → length r ≡ 20 → paste out (n * 20) r 20 ≡ stored_at out n r
unfolding stored_at
stored out n r h l = rw (le-leb (n * 20 + 20) (length out) h, take_all 20 r (omega arith)) (append_assoc (take (n * 20) out) r (drop (n * 20 + 20) out))

pub not_stored : (out : List ℕ) (n : ℕ) (r : List ℕ) → length out < n * 20 + 20 → stored_at out n r ≡ out
unfolding stored_at
not_stored out n r h = rw (lt-leb (n * 20 + 20) (length out) h)
