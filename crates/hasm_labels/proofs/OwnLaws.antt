-- The pass that puts a text's long labels into the index, which holds them. Assumes nothing.
use mathlib.Core.Path.{◌≡◌, refl, sym, ap}
use mathlib.Core.Bool.{Bool, true}
use mathlib.Core.List.{List, [], ◌∷◌, ◌++◌}
use Prim.Native.Nat.{ℕ, ◌+◌, ◌*◌, ◌/◌, ◌%◌, ◌≤◌, ◌<◌}
use native.Mathlib.Omega.{arith}
use lib.ListN.{length, drop, get_or, replicate}
use Rattle.std.specs.Prelude.{Some}
use Rattle.lists.specs.Scan.{run, part}
use Rattle.lists.proofs.Tests.{true_not_false}
use Rattle.hash_index.specs.Hash.{bucket_of}
use Rattle.hash_index.specs.Backward.{next_unit}
use Rattle.spec_inputs.specs.Context.{Context}
use Rattle.limits.specs.Limits.{text_limit}
use Rattle.spec_hasm.specs.Assemble.{LabelAt}
use Rattle.hasm_labels.specs.Holding.{part_in, at_start, waiting_label, LongMore}
use Rattle.hasm_labels.specs.Holding.LongMore.{none as kept-none, one as kept-one}
use Rattle.hasm_labels.specs.Going.{Behind}
use Rattle.hasm_labels.specs.Keys.{KeyPut, not_colon, start_limit, offset_limit, label_of_word, Buckets, LabelsIndexed}
use Rattle.hasm_labels.specs.NamesRead.{AllNamed}
use Rattle.hasm_labels.specs.Owning.{OwnPut, OwnMore, Owning}
use Rattle.hasm_labels.specs.Owning.OwnMore.{none, one}
use Rattle.hasm_labels.specs.declared.hold_label.Progress.{Progress}
use Rattle.hasm_labels.specs.declared.hold_label.LabelPart.{LabelPart}
use Rattle.hasm_labels.proofs.LongLaws.{long_none}
use Rattle.hasm_labels.proofs.NamesLaws.{going_start, going_all, going_end}
use Rattle.hasm_labels.proofs.LabelWalk.{indexed_none, heads_small, indexed_more}

-- a word gives back the label that it was made of
word_label : (text : List ℕ) (p : Progress) (next : ℕ) → (part_in p.waiting).start < start_limit → p.offset < offset_limit → (part_in p.waiting).size ≡ run not_colon (drop (part_in p.waiting).start text)
    → label_of_word text ((part_in p.waiting).start + p.offset * start_limit + next * next_unit) ≡ waiting_label text p
word_label text p next s o z =
    let word = (part_in p.waiting).start + p.offset * start_limit + next * next_unit in
    let a : word % start_limit ≡ (part_in p.waiting).start = omega arith in
    let d : word / start_limit ≡ p.offset + next * offset_limit = omega arith in
    let b : word / start_limit % offset_limit ≡ p.offset = rw d (omega arith) in
    rw (a, b, z) refl

-- a label was put, by the part of the text where it stands
pub own_at : (text : List ℕ) (m : ℕ) (p : Progress) (index index' : List ℕ) (q : LabelPart) → p.waiting ≡ Some q → q.start < start_limit → p.offset < offset_limit → q.size ≡ run not_colon (drop q.start text)
    → KeyPut m (bucket_of m (part text q.start q.size)) p.kept (q.start + p.offset * start_limit) index index' → OwnPut text m p index index'
own_at text m p index index' q u s o z k = let y : q ≡ part_in p.waiting = sym (ap part_in u) in record { start = rw y at s; offset = o; size = rw y at z; put = rw y at k }

own_put : {text : List ℕ} {slots : List (List ℕ)} {index index' : List ℕ} {m : ℕ} {ls : List LabelAt} (p : Progress) → LabelsIndexed true text slots index m ls → p.kept ≡ length ls → OwnPut text m p index index'
    → LabelsIndexed true text slots index' m (ls ++ (waiting_label text p ∷ []))
own_put {text} p i k o =
    indexed_more (waiting_label text p) ((part_in p.waiting).start + p.offset * start_limit) i (rw k at o.put) (λ f. true_not_false true refl f) (word_label text p _ o.start o.offset o.size)

-- the long labels behind a step, and the index
own_step : {text : List ℕ} {slots : List (List ℕ)} {index index' : List ℕ} {m : ℕ} {before after : List LabelAt} (p p' : Progress) → LabelsIndexed true text slots index m before → p.kept ≡ length before
    → LongMore text p p' before after → OwnMore text m p p'.kept index index' → LabelsIndexed true text slots index' m after
own_step p p' i k (kept-none e f) (none x y) = rw (f, y) i
own_step p p' i k (kept-none e f) (one x y) = absurd (x e)
own_step p p' i k (kept-one e f) (none x y) = absurd (omega (arith, e, x))
own_step p p' i k (kept-one e f) (one x y) = rw f (own_put p i k y)

-- in front of the first line
pub owning_start : (e : Context) (text t : List ℕ) (slots : List (List ℕ)) (m : ℕ) (whole : Bool) (index index' : List ℕ) → (whole ≡ true → (0 < m) × (index' ≡ replicate m 0 ++ drop m index)) → (0 < m → Buckets m index)
    → Owning e text t slots 0 1 at_start slots m whole index'
unfolding going_start
owning_start e text t slots m whole index index' q b = record {
  going = going_start e text t slots;
  indexed = λ w any. let k = b (q w).0 in rw long_none (indexed_none true text any index index' m (q w).1 k.some k.few k.room);
}

module _ {e : Context} {text t : List ℕ} {slots₀ : List (List ℕ)} {at n : ℕ} {p : Progress} {slots : List (List ℕ)} {m : ℕ} {whole : Bool} {index : List ℕ} (o : Owning e text t slots₀ at n p slots m whole index) where
  -- what putting the next one asks for
  pub owning_heads : whole ≡ true → (h : ℕ) → h < m → get_or index h 0 ≤ p.kept
  owning_heads w h b = omega (arith, heads_small (o.indexed w []) h b, o.going.noted.long)

  -- behind a line
  pub owning_turn : {at' n' : ℕ} {p' : Progress} {slots' : List (List ℕ)} {whole' : Bool} {index' : List ℕ} → Behind e text t slots₀ p o.going.taken at' n' p' slots'
      → (whole' ≡ true → (whole ≡ true) × OwnMore text m p p'.kept index index') → Owning e text t slots₀ at' n' p' slots' m whole' index'
  owning_turn {p' = p'} b x = record {
    going = b.going;
    indexed = λ w any. own_step p p' (o.indexed (x w).0 any) o.going.noted.long b.long (x w).1;
  }

  -- behind the last line
  pub owning_end : length text ≤ at → length text ≤ text_limit → AllNamed e text t slots₀ slots m index (record { count = p.count; kept = p.kept; indexed = whole; place = p.place })
  owning_end h s = going_end e text t slots₀ at n p slots m whole index o.going (λ w any. rw (going_all o.going h) (o.indexed w any)) h s
