-- The offset of a label by the pass over all lines. Assumes nothing.
use mathlib.Core.Path.{◌≡◌, sym, ap, ◌∙◌}
use Prim.Native.Nat.{ℕ, ◌<◌}
use native.Mathlib.Omega.{arith}
use mathlib.Core.List.{List, []}
use lib.ListN.{length}
use Rattle.std.specs.Prelude.{Option}
use Rattle.slices.specs.Answers.{found_of}
use Rattle.spec_inputs.specs.Context.{Context}
use Rattle.spec_hasm.specs.Assemble.{Assembled, codes_of, unless_bad_name, labels_from, label_offset}
use Rattle.spec_hasm.specs.Assemble.Assembled.{assembled, not_assembled}
use Rattle.answers.specs.declared.refusal.Refusal.{Refusal}
use Rattle.hasm_labels.specs.LongLabels.{bare_label, long_of}
use Rattle.hasm_labels.specs.Labelled.{Labelled}
use Rattle.hasm_labels.specs.declared.label_target.Known.{Known}
use Rattle.hasm_labels.proofs.LongLaws.{long_offset}

-- no name of the text is refused, so the pass is not
pub not_refused : {P : Type 0} {x : Refusal} (e : Context) (text : List ℕ) → ((rest : Assembled) → unless_bad_name e (codes_of e text) rest ≡ not_assembled x)
    → ((rest : Assembled) → unless_bad_name e (codes_of e text) rest ≡ rest) → P
not_refused e text a h = let q = sym (h (assembled [])) ∙ a (assembled []) in absurd (let z : ◌≡◌ {A = ℕ} 0 1 = cc q in omega arith)

-- the last label `L` is known
module _ {e : Context} {text : List ℕ} {slots : List (List ℕ)} {index : List ℕ} {known : Known} (t : List ℕ) (h : Labelled e text slots index known) where
  pub bare_at : t ≡ bare_label → known.place ≡ found_of (label_offset (labels_from e 0 (codes_of e text)) t)
  bare_at q = rw q h.bare

  -- a long one is searched among the long labels
  pub long_at : (r : Option ℕ) → 10 < length t → r ≡ found_of (label_offset (long_of (labels_from e 0 (codes_of e text))) t) → r ≡ found_of (label_offset (labels_from e 0 (codes_of e text)) t)
  long_at r n q = q ∙ ap found_of (long_offset t n (labels_from e 0 (codes_of e text)))
