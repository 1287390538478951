-- What collecting answers, by what the walks answer. Assumes nothing.
use mathlib.Core.Path.{◌≡◌, refl, ap, sym, ◌∙◌}
use mathlib.Core.Bool.{Bool, false}
use mathlib.Core.List.{List}
use Prim.Native.Nat.{ℕ, ◌+◌, ◌-◌, ◌≤◌, ◌<◌}
use native.Mathlib.Nat.{sub-zero}
use native.Mathlib.Omega.{arith}
use lib.ListN.{length, take, replicate, length-take}
use Rattle.spec_body.specs.Decode.{Decoded, decode_body}
use Rattle.spec_body.specs.Decode.Decoded.{decoded, not_decoded}
use Rattle.answers.specs.declared.refusal.Refusal.{Refusal}
use Rattle.spec_listing.specs.Labels.{different}
use Rattle.list_labels.specs.OpcodeRows.{Opcodes, row_labels}
use Rattle.list_labels.specs.Parts.{below, within}
use Rattle.list_labels.proofs.DifferentLaws.{different_most}
use Rattle.list_labels.proofs.PartLaws.{different_parts, different_halves, different_one, below_all, within_between}
use Rattle.list_labels.specs.Notes.{Notes}
use Rattle.list_labels.specs.Readable.{readable}
use Rattle.list_labels.proofs.ReadableLaws.{all_readable}
use Rattle.list_labels.proofs.SmallLabels.{labels_small}
use Rattle.std.specs.Prelude.{Result, Ok, Err}
use Rattle.list_labels.specs.Collecting.{unnoted, notes_after, met_in, walk_of, CollectedFor, EntriesFor, Noted, FarCounted, Flagged, walked_count}
use Rattle.list_labels.specs.Collecting.CollectedFor.{counted, refused}
use Rattle.list_labels.specs.declared.collect.Met.{Met}
use Rattle.list_labels.proofs.FlagLaws.{near_all, far_all}

-- the counts of a walk together are what it counted
pub met_count : {r : Result Met Refusal} {met : Met} (m : ℕ) → r ≡ Ok met → walked_count r ≤ m → met.near + met.far ≤ m
unfolding walked_count
met_count m v h = rw v at h

-- a walk from notes n over what was decoded answers r
module _ (o : Opcodes) (d : Decoded) (n : Notes) (r : Result Met Refusal) (w : r ≡ walk_of o n d) where
  -- it met offsets
  module _ (met : Met) (v : r ≡ Ok met) where
    was_met : Ok met ≡ walk_of o n d
    was_met = sym v ∙ w

    met_is : (rs : List (List ℕ)) → d ≡ decoded rs → met ≡ met_in (notes_after o n rs)
    unfolding walk_of
    met_is rs p = cc (was_met ∙ ap (walk_of o n) p)

    met_near : (rs : List (List ℕ)) → d ≡ decoded rs → met.near ≡ (notes_after o n rs).near
    met_near rs p = ap (λ (m : Met). m.near) (met_is rs p)

    met_far : (rs : List (List ℕ)) → d ≡ decoded rs → met.far ≡ (notes_after o n rs).far
    met_far rs p = ap (λ (m : Met). m.far) (met_is rs p)

    -- so the body is decoded
    pub met_decoded : {P : Type 0} → ((rs : List (List ℕ)) → d ≡ decoded rs → P) → P
    unfolding walk_of
    met_decoded {P} f = go d refl
      where
        go : (d' : Decoded) → d ≡ d' → P
        go (decoded rs) p = f rs p
        go (not_decoded x) p = absurd (let z : ◌≡◌ {A = ℕ} 0 1 = cc (was_met ∙ ap (walk_of o n) p) in omega arith)

  -- it was refused
  module _ (x : Refusal) (v : r ≡ Err x) where
    is_refused : d ≡ not_decoded x
    unfolding walk_of
    is_refused = go d (sym v ∙ w)
      where
        go : (d' : Decoded) → Err x ≡ walk_of o n d' → d' ≡ not_decoded x
        go (decoded rs) q = absurd (let z : ◌≡◌ {A = ℕ} 0 1 = cc q in omega arith)
        go (not_decoded y) q = let p : x ≡ y = cc q in rw p

    pub was_refused : (lent : ℕ) → CollectedFor lent o d (Err x)
    was_refused lent = refused x is_refused refl

    -- so the body is not decoded
    pub not_decoded_lem : {P : Type 0} → (rs : List (List ℕ)) → d ≡ decoded rs → P
    not_decoded_lem rs p = absurd (two_ways (sym is_refused ∙ p))
      where
        two_ways : not_decoded x ≡ decoded rs → ⊥
        two_ways q = let z : ◌≡◌ {A = ℕ} 0 1 = cc q in omega arith

-- from flags that are all 0 a walk flags all near offsets
pub all_flagged : (o : Opcodes) (rs : List (List ℕ)) (flags : List Bool) (stored : List ℕ) (flags' : List Bool) (stored' : List ℕ) (low high : ℕ) → Noted o rs (unnoted flags stored low high) flags' stored'
    → flags ≡ replicate (length flags) false → Flagged (row_labels o rs) flags'
all_flagged o rs flags stored flags' stored' low high l z = rw l.0 (near_all flags stored (row_labels o rs) low high z).marked

-- a walk that met offsets, those from `low` on past the flags
module _ (o : Opcodes) (last : ℕ) (s : List ℕ) (flags : List Bool) (stored : List ℕ) (low high : ℕ) (r : Result Met Refusal) (w : r ≡ walk_of o (unnoted flags stored low high) (decode_body o.types last s))
    (met : Met) (v : r ≡ Ok met) (past : length flags ≤ low) where
  abbrev body : Decoded
  body = decode_body o.types last s

  abbrev start : Notes
  start = unnoted flags stored low high

  far_length : (rs : List (List ℕ)) → body ≡ decoded rs → met.far ≡ length (within low high (row_labels o rs))
  far_length rs p = met_far o body start r w met v rs p ∙ (far_all flags stored (row_labels o rs) low high past).count

  -- the far offsets that it stored are counted
  pub stored_counted : (flags' : List Bool) (stored' : List ℕ) (c : ℕ) → Noted o (readable o.types last s) start flags' stored' → met.far ≤ length stored → length stored' ≡ length stored
      → c ≡ different (take (met.far - 0) stored') → FarCounted o body low high c
  stored_counted flags' stored' c l f k q rs p =
      let x = met_far o body start r w met v rs p in
      let s = rw (all_readable o.types last s rs p) at l.1 in
      let t : take (notes_after o start rs).far (notes_after o start rs).stored ≡ within low high (row_labels o rs) =
      (far_all flags stored (row_labels o rs) low high past).kept (omega (arith, x, f, k, ap length s)) in
      q ∙ rw (sub-zero met.far, x, s) (ap different t)

  -- many of a range that holds one number only
  pub one_counted : 2 ≤ met.far → high < low + 2 → FarCounted o body low high 1
  one_counted f h rs p = sym (different_one low high h (omega (arith, far_length rs p, f)) (within_between low high (row_labels o rs)))

  -- each half counted by itself
  module _ (mid a b : ℕ) (h : low ≤ mid) (k : mid ≤ high) (x : FarCounted o body low mid a) (y : FarCounted o body mid high b) where
    pub halves_counted : FarCounted o body low high (a + b)
    halves_counted rs p = rw (x rs p, y rs p) (different_halves low mid high (row_labels o rs) h k)

    pub halves_few : (m : ℕ) → met.near + met.far ≤ m → a + b ≤ m
    halves_few m f = met_decoded o body start r w met v λ rs p.
        omega (arith, f, halves_counted rs p, far_length rs p, different_most (within low high (row_labels o rs)))

-- what was counted is no more than was stored
pub few_counted : (c far m : ℕ) (stored : List ℕ) → c ≡ different (take (far - 0) stored) → far ≤ m → c ≤ m
few_counted c far m stored e h =
    omega (arith, e, h, sub-zero far, different_most (take (far - 0) stored), length-take (far - 0) stored)

-- the first walk over a body, from flags that are all 0: the far offsets are all past them
module _ (o : Opcodes) (last : ℕ) (s : List ℕ) (flags : List Bool) (stored : List ℕ) (r : Result Met Refusal) (w : r ≡ walk_of o (unnoted flags stored (length flags) 2147483648) (decode_body o.types last s))
    (met : Met) (v : r ≡ Ok met) (small : length s ≤ 65536) (z : flags ≡ replicate (length flags) false) where
  abbrev decodes : Decoded
  decodes = decode_body o.types last s

  abbrev first : Notes
  first = unnoted flags stored (length flags) 2147483648

  -- the near ones are counted once each
  near_count : (rs : List (List ℕ)) → decodes ≡ decoded rs → met.near ≡ different (below (length flags) (row_labels o rs))
  near_count rs p = met_near o decodes first r w met v rs p ∙ (near_all flags stored (row_labels o rs) (length flags) 2147483648 z).count

  -- with the different far ones they are all
  all_different : (rs : List (List ℕ)) → decodes ≡ decoded rs
      → met.near + different (within (length flags) 2147483648 (row_labels o rs)) ≡ different (row_labels o rs)
  all_different rs p =
      rw (near_count rs p, below_all 2147483648 (labels_small o last s rs small p)) (different_parts (length flags) (row_labels o rs))

  far_most : (rs : List (List ℕ)) → decodes ≡ decoded rs → different (within (length flags) 2147483648 (row_labels o rs)) ≤ met.far
  far_most rs p =
      omega (arith, different_most (within (length flags) 2147483648 (row_labels o rs)), far_length o last s flags stored (length flags) 2147483648 r w met v (omega arith) rs p)

  entries : (lent n : ℕ) → ((rs : List (List ℕ)) → decodes ≡ decoded rs → EntriesFor lent (different (row_labels o rs)) n) → CollectedFor lent o decodes (Ok n)
  entries lent n f = met_decoded o decodes first r w met v λ rs p. counted rs n p refl (f rs p)

  -- where as many are lent as were met
  pub enough_lent : (lent : ℕ) → met.near + met.far ≤ lent → CollectedFor lent o decodes (Ok (met.near + met.far))
  enough_lent lent h = entries lent (met.near + met.far) λ rs p.
      (omega (arith, all_different rs p, far_most rs p), λ l. absurd (omega arith))

  -- where none is far
  pub near_only : (lent : ℕ) → met.far ≡ 0 → CollectedFor lent o decodes (Ok met.near)
  near_only lent h = entries lent met.near λ rs p.
      let d : met.near ≡ different (row_labels o rs) = omega (arith, h, all_different rs p, far_most rs p) in
      (omega arith, λ l. d)

  -- and where the different far ones were counted
  pub with_far : (lent c : ℕ) → FarCounted o decodes (length flags) 2147483648 c → CollectedFor lent o decodes (Ok (met.near + c))
  with_far lent c f = entries lent (met.near + c) λ rs p.
      let d : met.near + c ≡ different (row_labels o rs) = omega (arith, all_different rs p, f rs p) in
      (omega arith, λ l. d)
