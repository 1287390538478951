-- The loop over a body's instructions. Assumes nothing.
use mathlib.Core.Path.{◌≡◌, refl, ap, sym, ◌∙◌}
use mathlib.Core.List.{List, [], ◌∷◌, ◌++◌, append_assoc, append-nil}
use Prim.Native.Nat.{ℕ, suc, ◌+◌, ◌-◌, ◌*◌, ◌≤◌, ◌<◌}
use native.Mathlib.Nat.{sub-zero}
use native.Mathlib.Omega.{arith}
use lib.ListN.{length, take, drop, get_or, length-append}
use lib.Seq.{take_at, drop-drop, drop_at}
use borrow.Author.Tests.{le-leb}
use Rattle.spec_sheet.specs.Row.{length_of}
use Rattle.spec_body.specs.Record.{record_of, join}
use Rattle.spec_body.specs.Decode.{Decoded, prepend, row_at, decode_from, decode_body}
use Rattle.spec_body.specs.Decode.Decoded.{decoded, not_decoded}
use Rattle.answers.specs.declared.refusal.Refusal.{Refusal}
use Rattle.answers.specs.declared.refusal.Refusal.TheVariants.{Beyond, Cut}
use Rattle.spec_body.proofs.DecodeLaws.{length_record, at_end, at_beyond, at_cut, at_more}
use Rattle.decode.specs.Bodies.{stored_at}

-- several records in front of those that are decoded
pub prepend_all : List (List ℕ) → Decoded → Decoded
prepend_all [] d = d
prepend_all (r ∷ rs) d = prepend r (prepend_all rs d)

all_more : (rs : List (List ℕ)) (r : List ℕ) (d : Decoded) → prepend_all (rs ++ (r ∷ [])) d ≡ prepend_all rs (prepend r d)
unfolding prepend_all
all_more [] r d = refl
all_more (q ∷ rs) r d = ap (prepend q) (all_more rs r d)

all_decoded : (rs qs : List (List ℕ)) → prepend_all rs (decoded qs) ≡ decoded (rs ++ qs)
unfolding prepend_all prepend
all_decoded [] qs = refl
all_decoded (r ∷ rs) qs = ap (prepend r) (all_decoded rs qs)

all_refused : (rs : List (List ℕ)) (x : Refusal) → prepend_all rs (not_decoded x) ≡ not_decoded x
unfolding prepend_all prepend
all_refused [] x = refl
all_refused (r ∷ rs) x = ap (prepend r) (all_refused rs x)

join_more : (rs : List (List ℕ)) (r : List ℕ) → join (rs ++ (r ∷ [])) ≡ join rs ++ r
unfolding join
join_more [] r = append-nil r
join_more (q ∷ rs) r = ap (λ (l : List ℕ). q ++ l) (join_more rs r) ∙ sym (append_assoc q (join rs) r)

-- n records were decoded, those that fit are written, and those from `at` on complete them
pub record Going (types : List (List ℕ)) (last : ℕ) (s out₀ out : List ℕ) (n at : ℕ) : Type 0 where
  pub seen : List (List ℕ)
  pub number : length seen ≡ n
  pub words : length (join seen) ≡ 20 * n
  pub below : n ≤ at
  pub inside : at ≤ length s
  pub same : length out ≡ length out₀
  pub filled : 20 * n ≤ length out₀ → out ≡ join seen ++ drop (20 * n) out₀
  pub left : decode_body types last s ≡ prepend_all seen (decode_from (length s - n) types last s at)

pub start : (types : List (List ℕ)) (last : ℕ) (s out : List ℕ) → Going types last s out out 0 0
unfolding prepend_all join
start types last s out = record {
  seen = [];
  number = refl;
  words = refl;
  below = omega arith;
  inside = omega arith;
  same = refl;
  filled = λ h. refl;
  left = rw sub-zero;
}

-- what a stored record leaves
stored_fits : (out₀ out out' J r : List ℕ) (n : ℕ) → length J ≡ 20 * n → length r ≡ 20 → length out ≡ length out₀ → out ≡ J ++ drop (20 * n) out₀
    → 20 * (n + 1) ≤ length out₀ → out' ≡ stored_at out n r → out' ≡ (J ++ r) ++ drop (20 * (n + 1)) out₀
unfolding stored_at
stored_fits out₀ out out' J r n j k l e h q =
    let m : n * 20 ≡ 20 * n = omega arith in
    let m' : 20 * (n + 1) ≡ 20 * n + 20 = omega arith in
    let f : 20 * n + 20 ≤ length out = omega arith in
    let t : take (20 * n) out ≡ J = rw e (take_at J (drop (20 * n) out₀) (20 * n) j) in
    let b : drop (20 * n) out ≡ drop (20 * n) out₀ = rw e (drop_at J (drop (20 * n) out₀) (20 * n) j) in
    let d : drop (20 * n + 20) out ≡ drop (20 * n + 20) out₀ = sym (drop-drop 20 (20 * n) out) ∙ (ap (drop 20) b ∙ drop-drop 20 (20 * n) out₀) in
    q ∙ (rw (m, le-leb (20 * n + 20) (length out) f, t, d, m') (sym (append_assoc J r (drop (20 * n + 20) out₀))))

module _ (types : List (List ℕ)) (last : ℕ) (s out₀ out : List ℕ) (n at : ℕ) (g : Going types last s out₀ out n at) where
  pub ended : length s ≤ at → decode_body types last s ≡ decoded g.seen
  ended h = g.left ∙ (rw (at_end types last s (length s - n) at h) (all_decoded g.seen [] ∙ ap decoded (append-nil g.seen)))

  module _ (h : at < length s) where
    less : length s - n ≡ suc (length s - (n + 1))
    less = omega (arith, g.below)

    pub stopped : last < get_or s at 0 → decode_body types last s ≡ not_decoded (Beyond at)
    stopped l = g.left ∙ (rw (less, at_beyond types last s (length s - (n + 1)) at h l) (all_refused g.seen (Beyond at)))

    module _ (l : get_or s at 0 ≤ last) (size : ℕ) (e : size ≡ length_of (row_at types s at)) where
      pub broken : length s - at < size → decode_body types last s ≡ not_decoded (Cut at)
      broken k = g.left ∙ (rw (less, at_cut types last s (length s - (n + 1)) at (at + size) (ap (λ (x : ℕ). at + x) e) h l (omega arith)) (all_refused g.seen (Cut at)))

      pub turn : (out' : List ℕ) → size ≤ length s - at → length out' ≡ length out → length (row_at types s at) ≡ 8 → out' ≡ stored_at out n (record_of (row_at types s at) s at)
          → Going types last s out₀ out' (n + 1) (at + size)
      turn out' k q w p =
          let r = record_of (row_at types s at) s at in
          let c = length_record (row_at types s at) s at w in
          let d = at_more types last s (length s - (n + 1)) at (at + size) (ap (λ (x : ℕ). at + x) e) h l (omega arith) in
          record {
            seen = g.seen ++ (r ∷ []);
            number = length-append g.seen (r ∷ []) ∙ omega (arith, g.number);
            words = ap length (join_more g.seen r) ∙ (length-append (join g.seen) r ∙ omega (arith, g.words, c));
            below = omega (arith, g.below, e);
            inside = omega arith;
            same = q ∙ g.same;
            filled = λ f. rw (join_more g.seen r) (stored_fits out₀ out out' (join g.seen) r n g.words c g.same (g.filled (omega arith)) f p);
            left = g.left ∙ (rw (less, d) (sym (all_more g.seen r (decode_from (length s - (n + 1)) types last s (at + size)))));
          }

-- a refusal is no whole decoding
pub not_whole : {P : Type 0} (d : Decoded) {x : Refusal} {rs : List (List ℕ)} → d ≡ not_decoded x → d ≡ decoded rs → P
not_whole d e f = absurd (let z : ◌≡◌ {A = ℕ} 0 1 = cc in omega arith)

-- what is written at the end
pub all_written : (types : List (List ℕ)) (last : ℕ) (s out₀ out : List ℕ) (n at : ℕ) (g : Going types last s out₀ out n at) → length s ≤ at
    → (rs : List (List ℕ)) → decode_body types last s ≡ decoded rs → (length (join rs) ≡ 20 * length rs) × (20 * length rs ≤ length out₀ → out ≡ join rs ++ drop (20 * length rs) out₀)
all_written types last s out₀ out n at g h rs e = same_list g.seen n g.number (cc (sym (ended types last s out₀ out n at g h) ∙ e)) g.words g.filled
  where
    same_list : (seen : List (List ℕ)) (k : ℕ) → length seen ≡ k → seen ≡ rs → length (join seen) ≡ 20 * k → (20 * k ≤ length out₀ → out ≡ join seen ++ drop (20 * k) out₀)
        → (length (join rs) ≡ 20 * length rs) × (20 * length rs ≤ length out₀ → out ≡ join rs ++ drop (20 * length rs) out₀)
    same_list seen k p q l w =
        let m : k ≡ length rs = sym p ∙ ap length q in
        rw (sym m, sym q) (l, w)
