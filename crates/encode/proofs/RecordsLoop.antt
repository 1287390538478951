-- The loop over records. Assumes nothing.
use mathlib.Core.Path.{◌≡◌, refl, ap, sym, ◌∙◌}
use mathlib.Core.List.{List, [], ◌∷◌, ◌++◌, append_assoc, append-nil}
use Prim.Native.Nat.{ℕ, suc, ◌+◌, ◌-◌, ◌*◌, ◌/◌, ◌%◌, ◌≤◌, ◌<◌}
use native.Mathlib.Omega.{arith}
use lib.ListN.{length}
use Rattle.lists.specs.Write.{top, Ahead}
use Rattle.lists.proofs.Writes.{wrote_none}
use Rattle.lists.proofs.Tests.{by_eqb}
use Rattle.answers.specs.declared.refusal.Refusal.{Refusal}
use Rattle.answers.specs.declared.refusal.Refusal.TheVariants.{BadRecord}
use Rattle.spec_body.specs.Encode.{Encoded, append_to, encode_record, encode_from, encode_records}
use Rattle.spec_body.specs.Encode.Encoded.{encoded, not_encoded}
use Rattle.spec_body.proofs.EncodeLaws.{from_end, from_cut, from_more}
use Rattle.encode.specs.RecordPlaces.{record_at}
use Rattle.encode.specs.Written.{Turn}
use Rattle.encode.specs.Encoding.{Encoding}
use Rattle.lists.proofs.Aheads.{◌and_then◌, not_ahead, none_ahead, more_ahead}
use Rattle.encode.specs.Written.Turn.{went, stopped}
use Rattle.encode.specs.Encoding.Encoding.{all, refuses}
use Rattle.std.specs.Prelude.{Result, Ok, Err}

append_none : (x : Encoded) → append_to [] x ≡ x
unfolding append_to
append_none (encoded bs) = refl
append_none (not_encoded x) = refl

append_twice : (a b : List ℕ) (x : Encoded) → append_to a (append_to b x) ≡ append_to (a ++ b) x
unfolding append_to
append_twice a b (encoded bs) = ap encoded (sym (append_assoc a b bs))
append_twice a b (not_encoded x) = refl

-- i records were written, and those behind them complete the body
pub record Going (types : List (List ℕ)) (last : ℕ) (words out₀ out : List ℕ) (k i : ℕ) : Type 0 where
  pub seen : List ℕ
  pub few : i ≤ length words / 20
  pub wrote : Ahead out₀ 0 seen (length words / 20 - i) out k
  pub left : encode_records types last words ≡ append_to seen (encode_from (length words / 20 + 1 - i) types last words i)

pub start : (types : List (List ℕ)) (last : ℕ) (words out : List ℕ) → length out ≤ top → Going types last words out out 0 0
start types last words out h =
    let z : length words / 20 + 1 - 0 ≡ length words / 20 + 1 = omega arith in
    record { seen = []; few = omega arith; wrote = more_ahead (omega arith) (not_ahead (wrote_none h (omega arith))); left = rw z (sym (append_none _)) }

module _ (types : List (List ℕ)) (last : ℕ) (words out₀ out : List ℕ) (k i : ℕ) (g : Going types last words out₀ out k i) where
  fuel : length words / 20 + 1 - i ≡ suc (length words / 20 - i)
  fuel = omega (arith, g.few)

  module _ (h : i < length words / 20) (spare : ℕ) (s : spare ≡ length words / 20 - i - 1) (out' : List ℕ) (r : Result ℕ Refusal) (t : Turn (encode_record types last i (record_at words (20 * i))) out k spare out' r) where
    this : encode_from (length words / 20 + 1 - i) types last words i ≡ encode_record types last i (record_at words (20 * i)) (encode_from (length words / 20 + 1 - (i + 1)) types last words (i + 1))
    this =
        let f : length words / 20 + 1 - (i + 1) ≡ length words / 20 - i = omega arith in
        rw (fuel, f) (from_more types last words (length words / 20 - i) i (omega arith))

    pub turn : (n : ℕ) → r ≡ Ok n → Going types last words out₀ out' n (i + 1)
    turn n q = go t
      where
        go : Turn (encode_record types last i (record_at words (20 * i))) out k spare out' r → Going types last words out₀ out' n (i + 1)
        go (went b bs m x y p) =
            let z : m ≡ n = cc (sym y ∙ q) in
            record {
              seen = g.seen ++ (b ∷ bs);
              few = omega arith;
              wrote = more_ahead (omega arith) (g.wrote and_then (rw z at p, omega arith));
              left = g.left ∙ (rw (this, x (encode_from (length words / 20 + 1 - (i + 1)) types last words (i + 1))) (append_twice g.seen (b ∷ bs) _));
            }
        go (stopped f x y) = let z : Err f ≡ Ok n = sym y ∙ q in cc z

    pub stops : {f : Refusal} (a : Result ℕ Refusal) → r ≡ Err f → a ≡ Err f → Encoding (encode_records types last words) out₀ out' a
    unfolding append_to
    stops {f} a q y = go t
      where
        go : Turn (encode_record types last i (record_at words (20 * i))) out k spare out' r → Encoding (encode_records types last words) out₀ out' a
        go (went b bs m x z p) = let w : Ok m ≡ Err f = sym z ∙ q in cc w
        go (stopped h x z) = refuses h (g.left ∙ (rw (this, x (encode_from (length words / 20 + 1 - (i + 1)) types last words (i + 1))))) (y ∙ (sym q ∙ z))

  module _ (h : length words / 20 ≤ i) where
    pub cut : (n : ℕ) → n ≡ length words / 20 → (length words % 20 ≡ 0 → ⊥) → Encoding (encode_records types last words) out₀ out (Err (BadRecord n))
    unfolding append_to
    cut n e f =
        let q : i ≡ n = omega (arith, g.few) in
        refuses (BadRecord n) (g.left ∙ (rw (fuel, from_cut types last words (length words / 20 - i) i (more f) (omega arith), q))) refl
      where
        more : (length words % 20 ≡ 0 → ⊥) → 20 * i < length words
        more f = by_eqb (length words % 20) 0 (λ e. absurd (f e)) (λ e. omega (arith, g.few))

    pub ended : length words % 20 ≡ 0 → Encoding (encode_records types last words) out₀ out (Ok k)
    unfolding append_to
    ended e = all g.seen k (g.left ∙ (rw (fuel, from_end types last words (suc (length words / 20 - i)) i (omega (arith, g.few))) (ap encoded (append-nil g.seen)))) refl (none_ahead (more_ahead (omega arith) g.wrote))
