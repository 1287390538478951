-- What is left of a block after room was made in it. Assumes nothing.
use Rattle.std.specs.Prelude.{◌≡◌, List, ℕ, ◌≤◌, take}
use Rattle.lists.specs.Write.{Put}
use Rattle.slices.specs.declared.block.Gathered.{Gathered}

-- the n bytes of a block were written at `k` and are kept no more, or are at most `most`: the buffer was `out` and is `out'`
pub data RoomMade (most : ℕ) (block : List ℕ) (n : ℕ) (out : List ℕ) (k : ℕ) (out' : List ℕ) (r : Gathered) : Type 0 where
  gone : Put out k (take n block) out' r.next → r.kept ≡ 0 → RoomMade most block n out k out' r
  stays : n ≤ most → out' ≡ out → r.next ≡ k → r.kept ≡ n → RoomMade most block n out k out' r
