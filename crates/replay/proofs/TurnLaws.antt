-- What comes of a case, as the code looks. Assumes nothing.
use mathlib.Core.Path.{◌≡◌, sym, ap, ◌∙◌}
use mathlib.Core.Bool.{true, false}
use mathlib.Core.List.{List}
use Prim.Native.Nat.{ℕ, ◌+◌, ◌<◌, ◌≤◌}
use native.Mathlib.Omega.{arith}
use borrow.Author.Tests.{lt-ltb, le-ltb}
use lib.ListN.{length, drop, replicate}
use Rattle.lists.specs.Scan.{part}
use Rattle.answers.specs.declared.report.Numbers.{Numbers}
use Rattle.replay.specs.Cases.{head_of, Reads, sheet_size, lent_size, same_answer}
use Rattle.replay.specs.Cases.Reads.{numbers, nothing}
use Rattle.replay.specs.Cases.{Reads as reads}
use Rattle.replay.specs.Lent.{left_as}
use Rattle.replay.specs.Performs.{done, performed}
use Rattle.replay.specs.Turns.{Turn, turn_of, compared_on, case_turn, Tried, Next, Agreed, Replayed}
use Rattle.replay.specs.Turns.Tried.{unread, compared}
use Rattle.replay.specs.Turns.Next.{none, cut, tried}
use Rattle.replay.specs.Turns.Agreed.{more}
use Rattle.replay.specs.Turns.Replayed.{stopped, full}
use Rattle.replay.specs.declared.case.Head.{Head}
use Rattle.std.proofs.Common.{Result, Ok, Err, IfErr}
use Rattle.replay.specs.declared.Stop.{Stop}
use Rattle.replay.specs.declared.Stop.TheVariants as stop

-- the lent bytes were filled and an operation performed
module _ (head : Head) (sheet input expected : List ℕ) (size : ℕ) {filled after : List ℕ} {r : Result Numbers Stop} (f : filled ≡ replicate size 0xA5) (p : done r after ≡ performed head.operation sheet input filled) where
  turn_is : compared_on size head sheet input expected ≡ turn_of head expected (length sheet) after r
  unfolding compared_on
  turn_is = rw (sym f, sym p)

  -- the replay stops at the case
  pub stopped_at : {s : Stop} → r ≡ Err s → Err s ≡ compared_on size head sheet input expected
  unfolding turn_of
  stopped_at e = sym (turn_is ∙ rw e)

  -- an answer: another one, other bytes, or as recorded
  module _ {a : Numbers} (e : r ≡ Ok a) where
    pub other_answer : same_answer head a ≡ false → Err stop.Differs ≡ compared_on size head sheet input expected
    unfolding turn_of
    other_answer s = sym (turn_is ∙ rw (e, s))

    module _ (s : same_answer head a ≡ true) where
      pub other_bytes : left_as after expected a.number ≡ false → Err stop.Differs ≡ compared_on size head sheet input expected
      unfolding turn_of
      other_bytes l = sym (turn_is ∙ rw (e, s, l))

      pub as_recorded : left_as after expected a.number ≡ true → Ok (length sheet) ≡ compared_on size head sheet input expected
      unfolding turn_of
      as_recorded l = sym (turn_is ∙ rw (e, s, l))

-- too many bytes, or those that are lent
module _ (head : Head) (sheet input expected : List ℕ) {size : ℕ} (e : size ≡ lent_size head.operation head.room) where
  pub too_many : 65536 < size → Err stop.Broken ≡ case_turn head sheet input expected
  unfolding case_turn
  too_many h = rw (lt-ltb 65536 (lent_size head.operation head.room) (omega (arith, e)))

  pub lent_some : size ≤ 65536 → (n : ℕ) → n ≡ size → compared_on n head sheet input expected ≡ case_turn head sheet input expected
  unfolding case_turn
  lent_some h n q = rw (q, e, le-ltb 65536 (lent_size head.operation head.room) (omega (arith, e)))

-- the parts that were read are compared
pub tried_parts : (head : Head) (used : ℕ) (sheet₀ sheet input expected : List ℕ) → drop head.sheet sheet ≡ drop head.sheet sheet₀ → (size : ℕ) (s i e : List ℕ) {r : Turn} → size ≡ sheet_size head used → s ≡ part sheet 0 size → i ≡ part input 0 head.input → e ≡ part expected 0 head.expected
    → r ≡ case_turn head s i e → Tried head used sheet₀ sheet input expected r
tried_parts head used sheet₀ sheet input expected k size s i e n p q o t = compared k (t ∙ rw (p, q, o, n))

-- the parts could not be read, so that it is no case
pub tried_none : (head : Head) (used : ℕ) (sheet₀ sheet input expected : List ℕ) {p : Result (Unit {0}) Stop} {x : Stop} → IfErr p (λ y. y ≡ stop.Broken) → p ≡ Err x → Tried head used sheet₀ sheet input expected (Err x)
tried_none head used sheet₀ sheet input expected f e = unread (ap Err (rw e at f))

-- a case by the numbers that were read, or that there are none
pub next_tried : {used : ℕ} {sheet₀ sheet input expected : List ℕ} {x : Result Head Stop} {head : Head} {r : Turn} → Reads x → x ≡ Ok head → Tried head used sheet₀ sheet input expected r → Next used sheet₀ sheet input expected r
next_tried {head = head} (numbers b l e) q t = let same : head ≡ head_of b = cc (sym q ∙ e) in tried b l (rw same at t)
next_tried (nothing e) q t = absurd (let z : ◌≡◌ {A = ℕ} 0 1 = cc (sym e ∙ q) in omega arith)
next_tried (reads.cut e) q t = absurd (let z : ◌≡◌ {A = ℕ} 0 1 = cc (sym e ∙ q) in omega arith)

pub next_none : {used : ℕ} {sheet₀ sheet input expected : List ℕ} {x : Result Head Stop} {s : Stop} → Reads x → x ≡ Err s → Next used sheet₀ sheet input expected (Err s)
next_none (numbers b l e) q = absurd (let z : ◌≡◌ {A = ℕ} 0 1 = cc (sym e ∙ q) in omega arith)
next_none {s = s} (nothing e) q = none (let same : s ≡ stop.End = cc (sym q ∙ e) in ap Err same)
next_none {s = s} (reads.cut e) q = cut (let same : s ≡ stop.Broken = cc (sym q ∙ e) in ap Err same)

-- one case more agreed, one stopped, or there may be no more
pub agrees_too : {n used after : ℕ} {sheet₀ sheet input expected : List ℕ} {t : Turn} → Agreed n used sheet₀ → Next used sheet₀ sheet input expected t → t ≡ Ok after → Agreed (n + 1) after sheet
agrees_too g x e = more g _ _ (rw e at x)

pub was_stopped : {n used : ℕ} {sheet₀ sheet input expected : List ℕ} {t : Turn} {s : Stop} → Agreed n used sheet₀ → Next used sheet₀ sheet input expected t → t ≡ Err s → Replayed (record { stop = s; agreed = n })
was_stopped g x e = stopped g _ _ _ (rw e at x)

pub was_full : {n used : ℕ} {sheet : List ℕ} → Agreed n used sheet → n ≡ 1000000 → (s : Stop) → Replayed (record { stop = s; agreed = n })
was_full g e s = full g e
