-- The instructions in front of one that is refused, place by place. Assumes nothing.
use mathlib.Core.Path.{◌≡◌, refl, ◌∙◌}
use mathlib.Core.List.{List, [], ◌∷◌}
use Prim.Native.Nat.{ℕ, zero, suc, ◌+◌, ◌≤◌, ◌<◌}
use native.Mathlib.Omega.{arith}
use borrow.Author.Tests.{lt-ltb, le-ltb, le-leb, lt-leb}
use lib.ListN.{length, get_or}
use Rattle.spec_sheet.specs.Row.{length_of}
use Rattle.spec_body.specs.Record.{record_of}
use Rattle.spec_body.specs.Decode.{row_at, decode_body}
use Rattle.spec_body.specs.Decode.Decoded.{decoded}
use Rattle.spec_body.proofs.DecodeLaws.{Decoding, body_stands}
use Rattle.spec_body.proofs.DecodeLaws.Decoding.{ended, more}
use Rattle.list_labels.specs.Readable.{readable_from, readable}

module _ (types : List (List ℕ)) (last : ℕ) (s : List ℕ) where
  -- none at the end, at an opcode beyond the largest, or at an instruction that is cut
  pub none_left : (f at : ℕ) → length s ≤ at → readable_from f types last s at ≡ []
  unfolding readable_from
  none_left zero at h = refl
  none_left (suc f) at h = rw (le-leb (length s) at h)

  pub none_beyond : (f at : ℕ) → at < length s → last < get_or s at 0 → readable_from f types last s at ≡ []
  unfolding readable_from
  none_beyond zero at h l = refl
  none_beyond (suc f) at h l = rw (lt-leb (length s) at h, lt-ltb last (get_or s at 0) l)

  pub none_cut : (f at : ℕ) → at < length s → get_or s at 0 ≤ last → length s < at + length_of (row_at types s at) → readable_from f types last s at ≡ []
  unfolding readable_from
  none_cut zero at h l k = refl
  none_cut (suc f) at h l k = rw (lt-leb (length s) at h, le-ltb last (get_or s at 0) l, lt-ltb (length s) (at + length_of (row_at types s at)) k)

  -- else one, and those behind it
  pub one_more : (f at : ℕ) → at < length s → get_or s at 0 ≤ last → at + length_of (row_at types s at) ≤ length s
      → readable_from (suc f) types last s at ≡ record_of (row_at types s at) s at ∷ readable_from f types last s (at + length_of (row_at types s at))
  unfolding readable_from
  one_more f at h l k = rw (lt-leb (length s) at h, le-ltb last (get_or s at 0) l, le-ltb (length s) (at + length_of (row_at types s at)) k)

  standing : (f : ℕ) {at : ℕ} {rs : List (List ℕ)} → length s ≤ at + f → Decoding types last s at rs → readable_from f types last s at ≡ rs
  standing f h (ended g) = none_left f _ g
  standing zero h (more g l k d) = absurd (omega arith)
  standing (suc f) h (more g l k d) = one_more f _ g l k ∙ rw (standing f (omega arith) d)

  -- all records of a body that is decoded
  pub all_readable : (rs : List (List ℕ)) → decode_body types last s ≡ decoded rs → readable types last s ≡ rs
  all_readable rs e = standing (length s) (omega arith) (body_stands types last s rs e)
