-- Where the records of a body start: each where the one before ends. Assumes nothing.
use mathlib.Core.Path.{◌≡◌, refl, sym}
use mathlib.Core.List.{List, []}
use Prim.Native.Nat.{ℕ, zero, suc, ◌+◌, ◌≤◌, ◌<◌}
use native.Mathlib.Omega.{arith}
use lib.ListN.{length, get_or}
use Rattle.lists.proofs.Tests.{by_leb}
use Rattle.spec_sheet.specs.Row.{total_width}
use Rattle.spec_body.specs.Record.{offset_of, span_of}
use Rattle.spec_body.specs.Decode.{decode_body, row_at}
use Rattle.spec_body.specs.Decode.Decoded.{decoded}
use Rattle.spec_body.specs.Starts.{Chain, spans}
use Rattle.spec_body.specs.Starts.Chain.{none, one}
use Rattle.spec_body.proofs.DecodeLaws.{Decoding, body_stands}
use Rattle.spec_body.proofs.DecodeLaws.Decoding.{ended, more}

not_empty : (n : ℕ) → 1 ≤ 1 + n
not_empty n = omega arith

decoding_chain : (types : List (List ℕ)) (last : ℕ) (s : List ℕ) {at : ℕ} {rs : List (List ℕ)} → at ≤ length s → Decoding types last s at rs → Chain rs at (length s)
decoding_chain types last s {at} h (ended g) =
    let e : length s ≡ at = omega arith in
    rw e none
decoding_chain types last s {at} h (more g l k d) = one refl (not_empty (total_width (row_at types s at))) (decoding_chain types last s k d)

-- the records of a body cover it from its first byte to its end
pub chain : (types : List (List ℕ)) (last : ℕ) (s : List ℕ) (rs : List (List ℕ)) → decode_body types last s ≡ decoded rs → Chain rs 0 (length s)
chain types last s rs e = decoding_chain types last s (omega arith) (body_stands types last s rs e)

-- from here to the end is what the lengths add up to, and there are no more records than bytes
pub chain_spans : {rs : List (List ℕ)} {a b : ℕ} → Chain rs a b → a + spans rs ≡ b
unfolding spans
chain_spans none = omega arith
chain_spans (one e l c) = omega (arith, chain_spans c)

pub chain_count : {rs : List (List ℕ)} {a b : ℕ} → Chain rs a b → a + length rs ≤ b
chain_count none = omega arith
chain_count (one e l c) = omega (arith, chain_count c)

-- every record lies between the two ends, and those behind it start at its end or later
pub record Within (a b : ℕ) (r : List ℕ) : Type 0 where
  pub from : a ≤ offset_of r
  pub some : 1 ≤ span_of r
  pub to : offset_of r + span_of r ≤ b

pub chain_within : {rs : List (List ℕ)} {a b : ℕ} → Chain rs a b → (k : ℕ) → k < length rs
    → Within a b (get_or rs k [])
chain_within none k h = absurd (omega arith)
chain_within (one e l c) zero h = record { from = omega arith; some = l; to = omega (arith, chain_spans c) }
chain_within (one e l c) (suc k) h =
    let w = chain_within c k (omega arith) in
    record { from = omega arith; some = w.some; to = w.to }

pub offsets_rise : {rs : List (List ℕ)} {a b : ℕ} → Chain rs a b → (j k : ℕ) → j < k → k < length rs
    → offset_of (get_or rs j []) + span_of (get_or rs j []) ≤ offset_of (get_or rs k [])
offsets_rise none j k h g = absurd (omega arith)
offsets_rise (one e l c) j zero h g = absurd (omega arith)
offsets_rise (one e l c) zero (suc k) h g = omega (arith, (chain_within c k (omega arith)).from)
offsets_rise (one e l c) (suc j) (suc k) h g = offsets_rise c j k (omega arith) (omega arith)

apart : {rs : List (List ℕ)} {a b : ℕ} → Chain rs a b → (j k : ℕ) → j < k → k < length rs → offset_of (get_or rs j []) ≡ offset_of (get_or rs k []) → ⊥
apart c j k h g e = omega (arith, offsets_rise c j k h g, (chain_within c j (omega arith)).some)

-- so two records that start at one place are one
pub index_unique : {rs : List (List ℕ)} {a b : ℕ} → Chain rs a b → (j k : ℕ) → j < length rs → k < length rs
    → offset_of (get_or rs j []) ≡ offset_of (get_or rs k []) → j ≡ k
index_unique c j k h g e =
    by_leb k j
    (λ l. by_leb j k (λ m. omega arith) (λ m. absurd (apart c k j m h (sym e))))
    (λ l. absurd (apart c j k l g e))

-- the next record starts where one ends, the first at the front, and the last ends at the end
pub next_start : {rs : List (List ℕ)} {a b : ℕ} → Chain rs a b → (k : ℕ) → suc k < length rs
    → offset_of (get_or rs (suc k) []) ≡ offset_of (get_or rs k []) + span_of (get_or rs k [])
next_start none k h = absurd (omega arith)
next_start (one e l none) zero h = absurd (omega arith)
next_start (one e l (one f m c)) zero h = omega arith
next_start (one e l c) (suc k) h = next_start c k (omega arith)

pub last_end : {rs : List (List ℕ)} {a b : ℕ} → Chain rs a b → (k : ℕ) → suc k ≡ length rs → offset_of (get_or rs k []) + span_of (get_or rs k []) ≡ b
last_end none k h = absurd (omega arith)
last_end (one e l none) zero h = omega arith
last_end (one e l (one f m c)) zero h = absurd (omega arith)
last_end (one e l c) (suc k) h = last_end c k (omega arith)

-- of a body
module _ (types : List (List ℕ)) (last : ℕ) (s : List ℕ) (rs : List (List ℕ)) (e : decode_body types last s ≡ decoded rs) where
  pub length_sum : spans rs ≡ length s
  length_sum = omega (arith, chain_spans (chain types last s rs e))

  pub record_count : length rs ≤ length s
  record_count = omega (arith, chain_count (chain types last s rs e))
