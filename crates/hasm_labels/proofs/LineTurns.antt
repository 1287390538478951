-- One line of the pass over names and labels. Assumes nothing.
use mathlib.Core.Path.{◌≡◌, refl, ap, sym, ◌∙◌}
use Prim.Native.Nat.{ℕ, ◌+◌, ◌-◌, ◌*◌, ◌≤◌, ◌<◌}
use native.Mathlib.Omega.{arith}
use mathlib.Core.List.{List, [], ◌∷◌, ◌++◌, append_assoc}
use lib.ListN.{length, drop, length-take}
use lib.Seq.{take-take, drop-drop}
use Rattle.std.specs.Prelude.{Some, None, Result, Ok, Err}
use Rattle.lists.specs.Scan.{run, part}
use Rattle.limits.specs.Limits.{text_limit}
use Rattle.answers.specs.declared.refusal.Refusal.{Refusal}
use Rattle.spec_inputs.specs.Context.{Context}
use Rattle.spec_hasm.specs.Text.{lines_of}
use Rattle.spec_hasm.specs.Line as definition
use Rattle.spec_hasm.specs.Line.{statement_of}
use Rattle.spec_hasm.specs.Line.Statement.{nothing, labelled, instruction}
use Rattle.spec_hasm.specs.Assemble.{Assembled, Code, LabelLine, LabelAt, codes_from, codes_of, unless_bad_name, size_in, holding, labels_from}
use Rattle.hasm_read.specs.Lines.{not_feed, line_length, line_in}
use Rattle.hasm_read.proofs.LineLaws.{line_short}
use Rattle.hasm_read.specs.Statements.{StatementIn}
use Rattle.hasm_read.proofs.PartLaws.{drop_take}
use Rattle.hasm_labels.specs.Holding.{LongMore, Held}
use Rattle.hasm_labels.specs.Holding.LongMore.{none, one}
use Rattle.hasm_labels.specs.NameReads.{code_of, Sized}
use Rattle.hasm_labels.specs.Going.{Passed, CodeTaken, Going, Behind, Turned}
use Rattle.hasm_labels.specs.declared.hold_label.Progress.{Progress}
use Rattle.hasm_labels.proofs.CodeSteps.{codes_nothing, codes_label, codes_code}
use Rattle.hasm_read.specs.Statements.StatementIn.{none as Read-none, label as read-label, code as read-code}
use Rattle.hasm_read.specs.declared.statement.Statement.TheVariants.{Nothing, Label as LabelRead, Instruction}

-- the progress behind an instruction of k bytes, and behind a label
abbrev passed : Progress → ℕ → Progress
passed q k = record { waiting = None; count = q.count; kept = q.kept; offset = q.offset + k; place = q.place }

abbrev label_read : Progress → ℕ → ℕ → Progress
label_read p s m = record { waiting = Some (record { start = s; size = m }); count = p.count; kept = p.kept; offset = p.offset; place = p.place }

-- how many are kept is all that they tell of the progress
kept_same : {text : List ℕ} {p q : Progress} (k : ℕ) {before after : List LabelAt} → LongMore text p q before after → LongMore text p (passed q k) before after
kept_same k (none e f) = none e f
kept_same k (one e f) = one e f

-- an instruction takes the label that waits
pub code_passed : (e : Context) (n : ℕ) (s text t : List ℕ) (slots : List (List ℕ)) (p : Progress) (slots' : List (List ℕ)) (q : Progress) (k : ℕ) → Sized e n s k → Held text t slots p slots' q
    → Passed e n s text t slots p slots' (passed q k)
code_passed e n s text t slots p slots' q k z h =
    record {
      bytes = k;
      sized = z;
      waits = refl;
      count = h.count;
      kept = h.kept;
      offset = ap (λ (i : ℕ). i + k) h.offset;
      place = h.place;
      noted = λ slots₀ waiting w labels v.
          let u = h.noted slots₀ waiting w labels v in
          record { counted = u.counted; last = u.last; long = u.long; stored = u.stored; behind = u.behind };
      long = λ waiting w labels. kept_same k (h.long waiting w labels);
    }

-- what a line was read as
module _ (x : definition.Statement) (l : List ℕ) where
  pub was_nothing : StatementIn x l Nothing → x ≡ nothing
  was_nothing (Read-none p q) = p
  was_nothing (read-label a n p q h) = absurd (let z : ◌≡◌ {A = ℕ} 0 1 = cc q in omega (arith, z))
  was_nothing (read-code a b p q h i) = absurd (let z : ◌≡◌ {A = ℕ} 0 1 = cc q in omega (arith, z))

  pub was_label : (a n : ℕ) → StatementIn x l (LabelRead a n) → (x ≡ labelled (part l a n)) × (a + n ≤ length l)
  was_label a n (Read-none p q) = absurd (let z : ◌≡◌ {A = ℕ} 0 1 = cc q in omega (arith, z))
  was_label a n (read-label c m p q h) =
      let u : a ≡ c = cc q in
      let v : n ≡ m = cc q in
      rw (u, v) (p, h)
  was_label a n (read-code c b p q h i) = absurd (let z : ◌≡◌ {A = ℕ} 0 1 = cc q in omega (arith, z))

  pub was_code : (a b : ℕ) → StatementIn x l (Instruction a b) → (x ≡ instruction (part l a (b - a))) × (a ≤ b) × (b ≤ length l)
  was_code a b (Read-none p q) = absurd (let z : ◌≡◌ {A = ℕ} 0 1 = cc q in omega (arith, z))
  was_code a b (read-label c m p q h) = absurd (let z : ◌≡◌ {A = ℕ} 0 1 = cc q in omega (arith, z))
  was_code a b (read-code c d p q h i) =
      let u : a ≡ c = cc q in
      let v : b ≡ d = cc q in
      rw (u, v) (p, h, i)

-- a part of a part
part_part : (s : List ℕ) (at n a m : ℕ) → a + m ≤ length (part s at n) → part (part s at n) a m ≡ part s (at + a) m
part_part s at n a m h =
    let k : m ≤ n - a = omega (arith, h, length-take n (drop at s)) in
    rw (drop_take a n (drop at s), drop-drop a at s) (take-take m (n - a) (drop (at + a) s) k)

holding_split : (w : List LabelLine) (at : ℕ) (rest : List LabelAt) → holding w at rest ≡ holding w at [] ++ rest
unfolding holding
holding_split [] at rest = refl
holding_split (l ∷ ls) at rest = refl

labels_cons : (e : Context) (at : ℕ) (c : Code) (cs : List Code) → labels_from e at (c ∷ cs) ≡ holding c.labels at [] ++ labels_from e (at + size_in e c) cs
unfolding labels_from
labels_cons e at c cs = holding_split c.labels at (labels_from e (at + size_in e c) cs)

-- the pass in front of a line whose end was found
module _ (e : Context) (text t : List ℕ) (slots₀ : List (List ℕ)) (at n end : ℕ) (p : Progress) (slots : List (List ℕ)) (g : Going e text t slots₀ at n p slots)
    (h : at < length text) (k : end ≡ at + run not_feed (drop at text)) (m : end ≤ length text) where
  pub turn_nothing : statement_of e (line_in text at end) ≡ nothing → Behind e text t slots₀ p g.taken (end + 1) (n + 1) p slots
  turn_nothing x =
      let cs = codes_nothing e n g.waiting text at end h k x in
      record {
        going = record {
          near = omega arith;
          few = omega (arith, g.few, k);
          start = g.start;
          size = g.size;
          count = omega (arith, g.count, k);
          kept = omega (arith, g.kept, k);
          offset = omega (arith, g.offset, k);
          place = omega (arith, g.place, k);
          waiting = g.waiting;
          waits = g.waits;
          names = λ rest. g.names rest ∙ ap (λ (c : List Code). unless_bad_name e c rest) cs;
          taken = g.taken;
          labels = g.labels ∙ ap (λ (c : List Code). g.taken ++ labels_from e p.offset c) cs;
          noted = g.noted;
        };
        long = none refl refl;
      }

  pub turn_label : length text ≤ text_limit → (a i : ℕ) → statement_of e (line_in text at end) ≡ labelled (part (line_in text at end) a i) → a + i ≤ length (line_in text at end)
      → Behind e text t slots₀ p g.taken (end + 1) (n + 1) (label_read p (at + a) i) slots
  turn_label b a i x r =
      let f = part_part text at (line_length text at end) a i r in
      let cs = codes_label e n g.waiting text at end h k (part text (at + a) i) (x ∙ ap labelled f) in
      let o : a + i ≤ end - at = omega (arith, r, line_short text at end) in
      record {
        going = record {
          near = omega arith;
          few = omega (arith, g.few, k);
          start = omega (arith, o, k);
          size = omega (arith, o);
          count = omega (arith, g.count, k);
          kept = omega (arith, g.kept, k);
          offset = omega (arith, g.offset, k);
          place = omega (arith, g.place, k);
          waiting = record { line = n; text = part text (at + a) i } ∷ g.waiting;
          waits = (refl, refl);
          names = λ rest. g.names rest ∙ ap (λ (c : List Code). unless_bad_name e c rest) cs;
          taken = g.taken;
          labels = g.labels ∙ ap (λ (c : List Code). g.taken ++ labels_from e p.offset c) cs;
          noted = let u = g.noted in record { counted = u.counted; last = u.last; long = u.long; stored = u.stored; behind = u.behind };
        };
        long = none refl refl;
      }

  -- an instruction s
  module _ (s : List ℕ) (x : statement_of e (line_in text at end) ≡ instruction s) (slots' : List (List ℕ)) where
    abbrev here : Code
    here = code_of n g.waiting s

    abbrev behind : List Code
    behind = codes_from e (n + 1) [] (lines_of (drop (end + 1) text))

    names_here : (rest : Assembled) → unless_bad_name e (codes_of e text) rest ≡ unless_bad_name e (here ∷ behind) rest
    names_here rest = g.names rest ∙ ap (λ (c : List Code). unless_bad_name e c rest) (codes_code e n g.waiting text at end h k s x)

    labels_here : labels_from e 0 (codes_of e text) ≡ g.taken ++ holding g.waiting p.offset [] ++ labels_from e (p.offset + size_in e here) behind
    labels_here =
        g.labels ∙ ap (λ (c : List Code). g.taken ++ labels_from e p.offset c) (codes_code e n g.waiting text at end h k s x)
        ∙ ap (λ (ls : List LabelAt). g.taken ++ ls) (labels_cons e p.offset here behind)
        ∙ sym (append_assoc g.taken (holding g.waiting p.offset []) (labels_from e (p.offset + size_in e here) behind))

    code_on : (p' : Progress) → Passed e n s text t slots p slots' p' → Behind e text t slots₀ p g.taken (end + 1) (n + 1) p' slots'
    code_on p' q =
        let o : p.offset + size_in e here ≡ p'.offset = ap (λ (i : ℕ). p.offset + i) (q.sized.size g.waiting) ∙ sym q.offset in
        record {
          going = record {
            near = omega arith;
            few = omega (arith, g.few, k);
            start = rw q.waits (omega arith);
            size = rw q.waits (omega arith);
            count = omega (arith, g.count, q.count, k);
            kept = omega (arith, g.kept, q.kept, k);
            offset = omega (arith, g.offset, q.offset, q.sized.short, k);
            place = q.place (65 * (end + 1)) (omega (arith, g.offset, k)) (omega (arith, g.place, k));
            waiting = [];
            waits = q.waits;
            names = λ rest. names_here rest ∙ q.sized.passes g.waiting behind rest;
            taken = g.taken ++ holding g.waiting p.offset [];
            labels = labels_here ∙ ap (λ (i : ℕ). g.taken ++ holding g.waiting p.offset [] ++ labels_from e i behind) o;
            noted = q.noted slots₀ g.waiting g.waits g.taken g.noted;
          };
          long = q.long g.waiting g.waits g.taken;
        }

    pub turn_code : (r : Result Progress Refusal) → CodeTaken e n s text t slots p slots' r → Turned e text t slots₀ p g.taken (end + 1) n r slots'
    turn_code (Ok p') d = code_on p' d
    turn_code (Err y) d = λ rest. names_here rest ∙ d g.waiting behind rest

  -- by the line l that was read
  module _ (l : List ℕ) (f : l ≡ line_in text at end) where
    pub line_nothing : StatementIn (statement_of e l) l Nothing → Behind e text t slots₀ p g.taken (end + 1) (n + 1) p slots
    line_nothing u = turn_nothing (was_nothing (statement_of e (line_in text at end)) (line_in text at end) (rw f at u))

    pub line_label : length text ≤ text_limit → (a i : ℕ) → StatementIn (statement_of e l) l (LabelRead a i) → Behind e text t slots₀ p g.taken (end + 1) (n + 1) (label_read p (at + a) i) slots
    line_label b a i u =
        let v = was_label (statement_of e (line_in text at end)) (line_in text at end) a i (rw f at u) in
        turn_label b a i v.0 v.1

    pub line_code : (a b : ℕ) → StatementIn (statement_of e l) l (Instruction a b) → (slots' : List (List ℕ)) (r : Result Progress Refusal) → CodeTaken e n (part l a (b - a)) text t slots p slots' r
        → Turned e text t slots₀ p g.taken (end + 1) n r slots'
    line_code a b u slots' r d =
        let v = was_code (statement_of e (line_in text at end)) (line_in text at end) a b (rw f at u) in
        turn_code (part (line_in text at end) a (b - a)) v.0 slots' r (rw f at d)

-- a label stands inside the text
pub label_near : (text : List ℕ) (at end : ℕ) (l : List ℕ) (x : definition.Statement) (a i : ℕ) → l ≡ line_in text at end → StatementIn x l (LabelRead a i) → a ≤ end
label_near text at end l x a i f u =
    let v = was_label x (line_in text at end) a i (rw f at u) in
    omega (arith, v.1, line_short text at end)
