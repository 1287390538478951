-- What is left to write behind a block in which room was made. Assumes nothing.
use mathlib.Core.Path.{◌≡◌, refl, ap, sym}
use mathlib.Core.List.{List, ◌++◌}
use Prim.Native.Nat.{ℕ, ◌≤◌}
use native.Mathlib.Omega.{arith}
use lib.ListN.{length, take}
use Rattle.lists.proofs.Writes.{kept_length}
use Rattle.lists.proofs.LeftToWrite.{Left, left_turn, left_same}
use Rattle.slices.specs.Block.{RoomMade}
use Rattle.slices.specs.Block.RoomMade.{gone, stays}
use Rattle.slices.specs.declared.block.Gathered.{Gathered}

module _ {most n k : ℕ} {block out out' : List ℕ} {r : Gathered} where
  -- few bytes are kept
  pub room_kept : RoomMade most block n out k out' r → r.kept ≤ most
  room_kept (gone w z) = omega (arith, z)
  room_kept (stays h e y z) = omega (arith, z)

  pub room_length : RoomMade most block n out k out' r → length out' ≡ length out
  room_length (gone w z) = kept_length w
  room_length (stays h e y z) = ap length e

  -- and they are what is left to write, with what follows them
  pub room_left : (rest : List ℕ) {whole out₀ : List ℕ} {at : ℕ} → RoomMade most block n out k out' r → Left whole out₀ at (take n block ++ rest) out k → Left whole out₀ at (take r.kept block ++ rest) out' r.next
  room_left rest (gone w z) l = left_same (ap (λ (m : ℕ). take m block ++ rest) (sym z)) (left_turn l refl w)
  room_left rest (stays h e y z) l = rw (e, y, z) l
