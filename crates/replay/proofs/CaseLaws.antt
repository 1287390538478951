-- Laws of a case's numbers, as the code looks at them. Assumes nothing.
use mathlib.Core.Path.{◌≡◌, refl, ◌∙◌}
use mathlib.Core.Bool.{false}
use mathlib.Core.List.{List, ◌++◌}
use Prim.Native.Nat.{ℕ, ◌-◌, ◌*◌, ◌<◌, ◌≤◌}
use native.Mathlib.Omega.{arith}
use borrow.Author.Tests.{eq-eqb, ne_eqb, lt-ltb, le-ltb}
use lib.Dec.{eqb}
use lib.ListN.{length, take, drop}
use lib.Seq.{drop_at}
use Rattle.lists.proofs.Tests.{within_yes, within_low, within_high}
use Rattle.std.proofs.Common.{Ok, Err}
use Rattle.answers.specs.declared.report.Numbers.{Numbers}
use Rattle.replay.specs.Cases.{Fronted, lent_size, same_answer, sheet_size}
use Rattle.replay.specs.declared.Stop.TheVariants.{Broken}
use Rattle.replay.specs.declared.case.Head.{Head}
use Rattle.replay.proofs.WordLaws.{front_length}

-- how many bytes are lent: too large a room, words, a value, and other bytes
module _ (operation room : ℕ) where
  pub room_large : 65536 < room → room ≡ lent_size operation room
  unfolding lent_size
  room_large h = rw (lt-ltb 65536 room h)

  module _ (h : room ≤ 65536) where
    pub room_words : operation ≡ 1 → 8 * room ≡ lent_size operation room
    unfolding lent_size
    room_words e = rw (le-ltb 65536 room h, eq-eqb operation 1 e)

    module _ (n : operation ≡ 1 → ⊥) where
      pub room_value : 3 ≤ operation → operation ≤ 6 → 8 ≡ lent_size operation room
      unfolding lent_size
      room_value a b = rw (le-ltb 65536 room h, ne_eqb operation 1 n, within_yes 3 6 operation a b)

      pub room_low : operation < 3 → room ≡ lent_size operation room
      unfolding lent_size
      room_low a = rw (le-ltb 65536 room h, ne_eqb operation 1 n, within_low 3 6 operation a)

      pub room_high : 6 < operation → room ≡ lent_size operation room
      unfolding lent_size
      room_high a = rw (le-ltb 65536 room h, ne_eqb operation 1 n, within_high 3 6 operation a)

-- whether an answer is the recorded one: by its first number that differs, else by its length
module _ (head : Head) (a : Numbers) where
  pub other_number : (head.answer.number ≡ a.number → ⊥) → false ≡ same_answer head a
  unfolding same_answer
  other_number n = rw (ne_eqb _ _ n)

  module _ (e : head.answer.number ≡ a.number) where
    pub other_place : (head.answer.place ≡ a.place → ⊥) → false ≡ same_answer head a
    unfolding same_answer
    other_place n = rw (eq-eqb _ _ e, ne_eqb _ _ n)

    module _ (f : head.answer.place ≡ a.place) where
      pub other_operand : (head.answer.operand ≡ a.operand → ⊥) → false ≡ same_answer head a
      unfolding same_answer
      other_operand n = rw (eq-eqb _ _ e, eq-eqb _ _ f, ne_eqb _ _ n)

      pub by_length : head.answer.operand ≡ a.operand → eqb head.answer.length a.length ≡ same_answer head a
      unfolding same_answer
      by_length g = rw (eq-eqb _ _ e, eq-eqb _ _ f, eq-eqb _ _ g)

-- the bytes of a case's sheet: those of the case before, or its own
module _ (head : Head) (used : ℕ) where
  pub sheet_before : head.sheet ≡ 0 → used ≡ sheet_size head used
  sheet_before e = rw (eq-eqb _ _ e)

  pub sheet_own : (head.sheet ≡ 0 → ⊥) → head.sheet ≡ sheet_size head used
  sheet_own n = rw (ne_eqb _ _ n)

-- bytes were to be read to the front of a space: too many for it, too few of them there, or those that replace its front
module _ (s : List ℕ) (n : ℕ) where
  pub front_short : Fronted s n s (Err Broken)
  front_short = record { fits = tt; fails = refl; kept = refl }

  module _ (h : n ≤ length s) (x : List ℕ) (l : length x ≡ length (take (n - 0) s)) where
    replaced : drop n (x ++ drop (n - 0) s) ≡ drop n s
    replaced =
        let m : n - 0 ≡ n = omega arith in
        let k : length x ≡ n = l ∙ front_length s n h in
        drop_at x (drop (n - 0) s) n k ∙ rw m

    pub front_cut : Fronted s n (x ++ drop (n - 0) s) (Err Broken)
    front_cut = record { fits = tt; fails = refl; kept = replaced }

    pub front_read : Fronted s n (x ++ drop (n - 0) s) (Ok tt)
    front_read = record { fits = h; fails = tt; kept = replaced }
