-- The little-endian bytes of a number as std gives them, and a part of a slice that they are copied to. Assumes nothing.
use Rattle.std.proofs.Common.{◌≡◌, ℕ, zero, suc, ◌+◌, ◌/◌, ◌%◌, ◌^◌, ◌≤◌, List, length, take, drop, sym, refl, arith, append_assoc}
use Rattle.std.proofs.Math.Seq.{drop-drop}
use Rattle.std.specs.Int.{byte_at, bytes_low_first}
use borrow.Rule.Slice.PartMut.{put_mid}
use native.Mathlib.Nat.{pow-suc, div-div-eq-div-mul}
use Rattle.lists.specs.Write.{put}
use Rattle.lists.proofs.Writes.{put_fits}
use Rattle.spec_numbers.specs.LittleEndian.{le_bytes}

byte_is : (i n : ℕ) → byte_at i n ≡ n / 256 ^ i % 256
byte_is zero n = omega arith
byte_is (suc i) n = refl

next_byte : (i n : ℕ) → n / 256 ^ suc i ≡ n / 256 ^ i / 256
next_byte i n = rw (pow-suc 256 i) (sym (div-div-eq-div-mul n (256 ^ i) 256))

-- k bytes from byte i on
bytes_from : (i k n : ℕ) → bytes_low_first i k n ≡ le_bytes k (n / 256 ^ i)
unfolding le_bytes
bytes_from i zero n = refl
bytes_from i (suc k) n = rw (byte_is i n, bytes_from (suc i) k n, next_byte i n)

pub bytes_of : (k n : ℕ) → bytes_low_first 0 k n ≡ le_bytes k n
bytes_of k n = let e : n / 256 ^ 0 ≡ n = omega arith in rw e at (bytes_from 0 k n)

-- what is copied to a part of a slice is put there
pub copied : (l s : List ℕ) (i k : ℕ) → k ≡ length s → i + length s ≤ length l → put_mid i k l s ≡ put l i s
copied l s i k e h = rw (put_fits l i s h, e, drop-drop (length s) i l) (sym (append_assoc (take i l) s (drop (i + length s) l)))
