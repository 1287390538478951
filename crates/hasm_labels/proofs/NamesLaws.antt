-- The pass over all lines: its start and its end. Assumes nothing.
use mathlib.Core.Path.{◌≡◌, refl, ap, sym, ◌∙◌}
use mathlib.Core.Bool.{Bool, true}
use Prim.Native.Nat.{ℕ, ◌+◌, ◌≤◌, ◌<◌}
use native.Mathlib.Omega.{arith}
use mathlib.Core.List.{List, [], ◌++◌, append-nil}
use lib.ListN.{length, take, drop}
use lib.Seq.{take-nil}
use Rattle.lists.specs.Scan.{run}
use Rattle.slices.specs.Answers.{found_of}
use Rattle.limits.specs.Limits.{text_limit}
use Rattle.spec_inputs.specs.Context.{Context}
use Rattle.spec_hasm.specs.Assemble.{Assembled, Code, LabelAt, codes_of, unless_bad_name, labels_from, label_offset}
use Rattle.hasm_read.specs.Lines.{not_feed, ShortLines}
use Rattle.hasm_read.proofs.LineLaws.{short_here}
use Rattle.hasm_labels.specs.Holding.{at_start}
use Rattle.hasm_labels.specs.Going.{LineAt, Going}
use Rattle.hasm_labels.specs.Keys.{LabelsIndexed}
use Rattle.hasm_labels.specs.NamesRead.{AllNamed}
use Rattle.hasm_labels.specs.declared.hold_label.Progress.{Progress}
use Rattle.hasm_labels.proofs.CodeSteps.{codes_none}
use Rattle.hasm_labels.specs.LongLabels.{long_of}
use Rattle.hasm_labels.proofs.LabelLaws.{offset_none, labels_none}
use Rattle.hasm_labels.proofs.LongLaws.{long_none}

unfoldable pub going_start : (e : Context) (text t : List ℕ) (slots : List (List ℕ)) → Going e text t slots 0 1 at_start slots
going_start e text t slots =
    record {
      near = omega arith;
      few = omega arith;
      start = omega arith;
      size = omega arith;
      count = omega arith;
      kept = omega arith;
      offset = omega arith;
      place = omega arith;
      waiting = [];
      waits = refl;
      names = λ rest. refl;
      taken = [];
      labels = refl;
      noted = record {
        counted = refl;
        last = sym (ap found_of (offset_none t));
        long = sym (ap length long_none);
        stored = labels_none text slots ∙ sym (take-nil (length slots)) ∙ ap (take (length slots)) (sym long_none);
        behind = refl;
      };
    }

-- the next line
pub going_line : {e : Context} {text t : List ℕ} {slots₀ : List (List ℕ)} {at n : ℕ} {p : Progress} {slots : List (List ℕ)} (end : ℕ) → Going e text t slots₀ at n p slots → at < length text
    → (end ≡ at + run not_feed (drop at text)) × (end ≤ length text) → length text ≤ text_limit → ShortLines (drop at text) → LineAt text at end p
going_line {text = text} {at = at} end g h k s f =
    record {
      inside = h;
      ends = k.0;
      near = k.1;
      limited = s;
      short = short_here text at end h k.0 f;
      small = record {
        start = omega (arith, g.start);
        size = omega (arith, g.size);
        count = omega (arith, g.count);
        kept = omega (arith, g.kept);
        offset = omega (arith, g.offset);
      };
    }

no_names : (e : Context) (rest : Assembled) → unless_bad_name e [] rest ≡ rest
unfolding unless_bad_name
no_names e rest = refl

no_labels : (e : Context) (at : ℕ) → labels_from e at [] ≡ []
unfolding labels_from
no_labels e at = refl

-- behind the last line all labels are taken
pub going_all : {e : Context} {text t : List ℕ} {slots₀ : List (List ℕ)} {at n : ℕ} {p : Progress} {slots : List (List ℕ)} (g : Going e text t slots₀ at n p slots) → length text ≤ at → labels_from e 0 (codes_of e text) ≡ g.taken
going_all {e} {text} {at = at} {n} {p} g h =
    g.labels ∙ ap (λ (cs : List Code). g.taken ++ labels_from e p.offset cs) (codes_none e n g.waiting text at h)
    ∙ ap (λ (ls : List LabelAt). g.taken ++ ls) (no_labels e p.offset) ∙ append-nil g.taken

pub going_end : (e : Context) (text t : List ℕ) (slots₀ : List (List ℕ)) (at n : ℕ) (p : Progress) (slots : List (List ℕ)) (m : ℕ) (whole : Bool) (index : List ℕ) → Going e text t slots₀ at n p slots
    → (whole ≡ true → (any : List (List ℕ)) → LabelsIndexed true text any index m (long_of (labels_from e 0 (codes_of e text)))) → length text ≤ at → length text ≤ text_limit
    → AllNamed e text t slots₀ slots m index (record { count = p.count; kept = p.kept; indexed = whole; place = p.place })
going_end e text t slots₀ at n p slots m whole index g i h s =
    let c = codes_none e n g.waiting text at h in
    let l = going_all g h in
    record {
      named = λ rest. g.names rest ∙ ap (λ (cs : List Code). unless_bad_name e cs rest) c ∙ no_names e rest;
      counted = g.noted.counted ∙ ap length (sym l);
      place = g.noted.last ∙ ap (λ (ls : List LabelAt). found_of (label_offset ls t)) (sym l);
      small = omega (arith, g.place, g.near);
      long = g.noted.long ∙ ap (λ (ls : List LabelAt). length (long_of ls)) (sym l);
      stored = g.noted.stored ∙ ap (λ (ls : List LabelAt). take (length slots) (long_of ls)) (sym l);
      behind = g.noted.behind;
      indexed = i;
    }
