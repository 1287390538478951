-- A search of an index of texts answers what one of all texts answers. Assumes nothing.
use mathlib.Core.Path.{◌≡◌, refl, sym, ap, ◌∙◌}
use mathlib.Core.Bool.{false}
use mathlib.Core.List.{List, ◌∷◌}
use Prim.Native.Nat.{ℕ, ◌+◌, ◌<◌}
use native.Mathlib.Numerals.{add-one}
use native.Mathlib.Omega.{arith}
use lib.ListN.{length, drop, get_or}
use Rattle.lists.specs.Found.{Found}
use Rattle.lists.specs.Scan.{same}
use Rattle.slices.specs.Answers.{found_of}
use Rattle.spec_strings.specs.Table.{text_of, lookup_from, lookup, entry_start}
use Rattle.spec_strings.proofs.TableSteps.{lookup_go, lookup_stop, lookup_end}
use Rattle.hash_index.specs.Keys.{first_key}
use Rattle.hash_index.proofs.KeyLaws.{first_key_is}
use Rattle.strings.specs.Keys.{text_key}

module _ (text bytes ends : List ℕ) where
  -- what a search of the texts from an id on answers
  text_from : ℕ → Found
  text_from k = lookup_from text bytes (entry_start ends k) k (drop k ends)

  module _ (k : ℕ) (l : k < length ends) where
    -- it goes on behind another text
    other_text : same (text_of bytes ends k) text ≡ false → text_from k ≡ text_from (k + 1)
    unfolding text_from
    other_text t =
        let z : get_or ends k 0 ≡ entry_start ends (k + 1) = sym (ap (λ (i : ℕ). get_or (0 ∷ ends) i 0) (add-one k)) in
        lookup_go bytes ends (entry_start ends k) k l refl text refl t ∙ ap (λ (s : ℕ). lookup_from text bytes s (k + 1) (drop (k + 1) ends)) z

  pub first_text : first_key (text_key bytes ends) (length ends) text ≡ found_of (lookup text bytes ends)
  unfolding text_from
  first_text =
      first_key_is (text_key bytes ends) (length ends) text text_from
      (λ k l t. lookup_stop bytes ends (entry_start ends k) k l refl text refl t)
      other_text
      (lookup_end bytes ends (entry_start ends (length ends)) (length ends) text (omega arith))
