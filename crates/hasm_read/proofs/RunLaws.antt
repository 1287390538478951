-- How far a run of bytes goes from a place of a list on. Assumes nothing.
use mathlib.Core.Path.{◌≡◌, ap, sym, ◌∙◌}
use mathlib.Core.Bool.{Bool}
use Prim.Native.Nat.{ℕ, ◌+◌, ◌-◌, ◌≤◌}
use native.Mathlib.Omega.{arith}
use mathlib.Core.List.{List}
use lib.ListN.{length, take, drop, length-drop}
use Rattle.std.specs.List.{prefix_len}
use Rattle.lists.specs.Scan.{run}
use Rattle.lists.proofs.Parts.{tail_part}
use Rattle.lists.proofs.Links.{run_prefix}
use Rattle.std.proofs.lemmas.List.Sums.{prefix_len-le-length}

pub run_at : (p : ℕ → Bool) (s : List ℕ) (at r : ℕ) → at ≤ length s → r ≡ prefix_len p (take (length s - at) (drop at s)) → (at + r ≡ at + run p (drop at s)) × (at + r ≤ length s)
run_at p s at r h e =
    let f : r ≡ prefix_len p (drop at s) = e ∙ ap (prefix_len p) (tail_part s at) in
    (ap (λ (i : ℕ). at + i) (f ∙ sym (run_prefix p (drop at s))), omega (arith, h, f, prefix_len-le-length p (drop at s), length-drop at s))
