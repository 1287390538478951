-- Laws of decoding, case by case, and of the sizes of records. Assumes nothing.
use mathlib.Core.Path.{◌≡◌, refl, sym, ◌∙◌}
use mathlib.Core.List.{List, [], ◌∷◌}
use Prim.Native.Nat.{ℕ, zero, suc, ◌+◌, ◌*◌, ◌≤◌, ◌<◌}
use native.Mathlib.Omega.{arith}
use borrow.Author.Tests.{lt-ltb, le-ltb, le-leb, lt-leb}
use lib.ListN.{length, get_or, length-append}
use Rattle.lists.proofs.Tests.{by_leb}
use Rattle.spec_sheet.specs.Types.{width_of}
use Rattle.spec_sheet.specs.Row.{length_of}
use Rattle.spec_body.specs.Record.{record_of, pairs, join}
use Rattle.spec_body.specs.Decode.{Decoded, prepend, row_at, decode_from, decode_body}
use Rattle.spec_body.specs.Decode.Decoded.{decoded, not_decoded}
use Rattle.answers.specs.declared.refusal.Refusal.TheVariants.{Beyond, Cut}

-- a pair for each type code
pub length_pairs : (row s : List ℕ) (p : ℕ) → length (pairs row s p) ≡ 2 * length row
unfolding pairs
length_pairs [] s p = refl
length_pairs (c ∷ cs) s p = omega (arith, length_pairs cs s (p + width_of c))

pub length_record : (row s : List ℕ) (at : ℕ) → length row ≡ 8 → length (record_of row s at) ≡ 20
length_record row s at h = omega (arith, length_pairs row s (at + 1))

-- records of 20 words each
pub data Whole : List (List ℕ) → Type 0 where
  none : Whole []
  one : {r : List ℕ} {rs : List (List ℕ)} → length r ≡ 20 → Whole rs → Whole (r ∷ rs)

pub length_join : {rs : List (List ℕ)} → Whole rs → length (join rs) ≡ 20 * length rs
unfolding join
length_join none = refl
length_join (one {r} {rs} h w) = omega (arith, length-append r (join rs), length_join w)

-- what a record in front makes of records that were decoded
pub prepend_is : (r : List ℕ) (d : Decoded) (rs : List (List ℕ)) → d ≡ decoded rs → prepend r d ≡ decoded (r ∷ rs)
unfolding prepend
prepend_is r d rs e = rw e

-- at a place: nothing is left, the opcode is beyond the largest, the instruction is cut, or it is whole
module _ (types : List (List ℕ)) (last : ℕ) (s : List ℕ) where
  pub at_end : (f at : ℕ) → length s ≤ at → decode_from f types last s at ≡ decoded []
  unfolding decode_from
  at_end zero at h = refl
  at_end (suc f) at h = rw (le-leb (length s) at h)

  pub at_beyond : (f at : ℕ) → at < length s → last < get_or s at 0 → decode_from (suc f) types last s at ≡ not_decoded (Beyond at)
  unfolding decode_from
  at_beyond f at h l = rw (lt-leb (length s) at h, lt-ltb last (get_or s at 0) l)

  pub at_cut : (f at next : ℕ) → next ≡ at + length_of (row_at types s at) → at < length s → get_or s at 0 ≤ last → length s < next
      → decode_from (suc f) types last s at ≡ not_decoded (Cut at)
  unfolding decode_from
  at_cut f at next e h l g =
      let k : length s < at + length_of (row_at types s at) = omega arith in
      rw (lt-leb (length s) at h, le-ltb last (get_or s at 0) l, lt-ltb (length s) (at + length_of (row_at types s at)) k)

  pub at_more : (f at next : ℕ) → next ≡ at + length_of (row_at types s at) → at < length s → get_or s at 0 ≤ last → next ≤ length s
      → decode_from (suc f) types last s at ≡ prepend (record_of (row_at types s at) s at) (decode_from f types last s next)
  unfolding decode_from
  at_more f at next e h l g =
      let k : at + length_of (row_at types s at) ≤ length s = omega arith in
      rw (lt-leb (length s) at h, le-ltb last (get_or s at 0) l, le-ltb (length s) (at + length_of (row_at types s at)) k, e)

-- records that stand in a body from a place on, one for each instruction
pub data Decoding (types : List (List ℕ)) (last : ℕ) (s : List ℕ) : ℕ → List (List ℕ) → Type 0 where
  ended : {at : ℕ} → length s ≤ at → Decoding types last s at []
  more : {at : ℕ} {rs : List (List ℕ)} → at < length s → get_or s at 0 ≤ last → at + length_of (row_at types s at) ≤ length s
      → Decoding types last s (at + length_of (row_at types s at)) rs → Decoding types last s at (record_of (row_at types s at) s at ∷ rs)

-- what has a record in front
pub data Prepended (r : List ℕ) (d : Decoded) (rs : List (List ℕ)) : Type 0 where
  behind : (rest : List (List ℕ)) → d ≡ decoded rest → r ∷ rest ≡ rs → Prepended r d rs

pub prepended : (r : List ℕ) (d : Decoded) (rs : List (List ℕ)) → prepend r d ≡ decoded rs → Prepended r d rs
unfolding prepend
prepended r (decoded rest) rs e = behind rest refl (cc e)
prepended r (not_decoded x) rs e = absurd (let z : ◌≡◌ {A = ℕ} 0 1 = cc e in omega arith)

module _ (types : List (List ℕ)) (last : ℕ) (s : List ℕ) where
  -- records that stand there are decoded
  pub decode_them : (f : ℕ) {at : ℕ} {rs : List (List ℕ)} → length s ≤ at + f → Decoding types last s at rs → decode_from f types last s at ≡ decoded rs
  decode_them f h (ended g) = at_end types last s f _ g
  decode_them zero h (more g l k d) = absurd (omega arith)
  decode_them (suc f) h (more g l k d) =
      at_more types last s f _ _ refl g l k ∙ prepend_is _ _ _ (decode_them f (omega arith) d)

  -- and records that are decoded stand there
  stand_none : (f at : ℕ) (rs : List (List ℕ)) → decode_from f types last s at ≡ decoded rs → length s ≤ at → Decoding types last s at rs
  stand_none f at rs e h =
      let q : rs ≡ [] = cc (sym (at_end types last s f at h) ∙ e) in
      rw q (ended h)

  stand_one : (at : ℕ) (d : Decoded) (rs : List (List ℕ)) → at < length s → get_or s at 0 ≤ last → at + length_of (row_at types s at) ≤ length s
      → ((rest : List (List ℕ)) → d ≡ decoded rest → Decoding types last s (at + length_of (row_at types s at)) rest)
      → Prepended (record_of (row_at types s at) s at) d rs → Decoding types last s at rs
  stand_one at d rs h l k ih (behind rest p q) = rw (sym q) (more h l k (ih rest p))

  pub decoded_stand : (f at : ℕ) (rs : List (List ℕ)) → length s ≤ at + f → decode_from f types last s at ≡ decoded rs → Decoding types last s at rs
  decoded_stand zero at rs h e = stand_none zero at rs e (omega arith)
  decoded_stand (suc f) at rs h e =
      by_leb (length s) at (stand_none (suc f) at rs e) λ g.
      by_leb (get_or s at 0) last
      (λ l. by_leb (at + length_of (row_at types s at)) (length s)
      (λ k. stand_one at _ rs g l k (λ rest. decoded_stand f _ rest (omega arith)) (prepended _ _ rs (sym (at_more types last s f at _ refl g l k) ∙ e)))
      (λ k. absurd (let z : ◌≡◌ {A = ℕ} 0 1 = cc (sym (at_cut types last s f at _ refl g l k) ∙ e) in omega arith)))
      (λ l. absurd (let z : ◌≡◌ {A = ℕ} 0 1 = cc (sym (at_beyond types last s f at g l) ∙ e) in omega arith))

  -- all of a body
  pub body_stands : (rs : List (List ℕ)) → decode_body types last s ≡ decoded rs → Decoding types last s 0 rs
  body_stands rs e = decoded_stand (length s) 0 rs (omega arith) e

  pub body_decoded : {rs : List (List ℕ)} → Decoding types last s 0 rs → decode_body types last s ≡ decoded rs
  body_decoded d = decode_them (length s) (omega arith) d

-- under a table of rows of 8, every record has its 20 words
pub decoding_whole : (types : List (List ℕ)) (last : ℕ) (s : List ℕ) {at : ℕ} {rs : List (List ℕ)} → ((k : ℕ) → k ≤ last → length (get_or types k []) ≡ 8)
    → Decoding types last s at rs → Whole rs
decoding_whole types last s h (ended g) = none
decoding_whole types last s h (more g l k d) = one (length_record (row_at types s _) s _ (h _ l)) (decoding_whole types last s h d)

pub body_whole : (types : List (List ℕ)) (last : ℕ) (s : List ℕ) (rs : List (List ℕ)) → ((k : ℕ) → k ≤ last → length (get_or types k []) ≡ 8)
    → decode_body types last s ≡ decoded rs → Whole rs
body_whole types last s rs h e = decoding_whole types last s h (body_stands types last s rs e)
