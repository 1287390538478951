-- The loop over a table's strings. Assumes nothing.
use mathlib.Core.Path.{◌≡◌, refl, ap, sym, ◌∙◌}
use mathlib.Core.List.{List, [], ◌∷◌, ◌++◌}
use Prim.Native.Nat.{ℕ, suc, ◌+◌, ◌-◌, ◌*◌, ◌^◌, ◌≤◌, ◌<◌}
use native.Mathlib.Nat.{sub-zero}
use native.Mathlib.Numerals.{add-one}
use native.Mathlib.Omega.{arith}
use lib.ListN.{length, take, set, length-append, length-set}
use lib.Seq.{take-suc-set}
use Rattle.lists.specs.Text.{text}
use Rattle.lists.specs.Write.{Put, top}
use Rattle.lists.proofs.Writes.{◌then◌, wrote_none}
use Rattle.spec_job.specs.Table.{keyed_hex_at, strings_from}
use Rattle.spec_job.specs.Table.TableRead.{fault_after}
use Rattle.spec_job.proofs.TableLaws.{keyed_spread, string_more, string_off}
use Rattle.job.specs.HexAnswers.{Lined}
use Rattle.job.specs.TableAnswers.{Tabled}
use Rattle.job.specs.TableAnswers.Tabled.{whole, faulty}
use Rattle.std.proofs.Common.{Option, Some, None, Ok, Err}
use Rattle.job.specs.declared.hex.HexRead.{HexRead as Numbers}
use Rattle.job.proofs.HexAnswerLaws.{Wrote, was_line, was_malformed, written_opens}

-- i strings were read, the lent arrays open with them, and those from `at` on complete the table. Each took twice its bytes
-- of text, so that k is far from the largest number
pub record Going (s : List ℕ) (start count : ℕ) (bytes₀ ends₀ bytes ends : List ℕ) (at k i : ℕ) : Type 0 where
  pub seen : List ℕ
  pub seen_ends : List ℕ
  pub number : length seen_ends ≡ i
  pub few : i ≤ count
  pub total : k ≡ length seen
  pub half : 2 * k ≤ at
  pub wrote : Put bytes₀ 0 seen bytes k
  pub stored : take i ends ≡ seen_ends
  pub same_ends : length ends ≡ length ends₀
  pub left : strings_from count s start [] [] ≡ strings_from (count - i) s at seen seen_ends

pub begin : (s : List ℕ) (start count : ℕ) (bytes ends : List ℕ) → length bytes ≤ top → Going s start count bytes ends bytes ends start 0 0
begin s start count bytes ends h = record {
  seen = [];
  seen_ends = [];
  number = refl;
  few = omega arith;
  total = refl;
  half = omega arith;
  wrote = wrote_none h (omega arith);
  stored = refl;
  same_ends = refl;
  left = rw sub-zero;
}

module _ (s : List ℕ) (start count : ℕ) (bytes₀ ends₀ bytes ends : List ℕ) (at k i : ℕ) (g : Going s start count bytes₀ ends₀ bytes ends at k i) where
  pub ended : count ≤ i → Tabled (strings_from count s start [] []) bytes ends (Ok (record { end = at; count = i; size = k }))
  unfolding strings_from
  ended h =
      let e : count - i ≡ 0 = omega arith in
      let n : length g.seen_ends ≡ i = g.number in
      whole g.seen g.seen_ends at (g.left ∙ rw e) (rw (g.number, g.total)) (written_opens bytes₀ g.seen bytes k g.wrote) (λ l. rw n g.stored)

  module _ (h : i < count) (bytes' : List ℕ) (r : Option Numbers) (t : Lined (keyed_hex_at (text "s=") s at) bytes k bytes' r) where
    less : count - i ≡ suc (count - (i + 1))
    less = omega arith

    pub stopped : (ends' : List ℕ) → r ≡ None → Tabled (strings_from count s start [] []) bytes' ends' (Err (i + 1))
    stopped ends' q =
        let n : suc (length g.seen_ends) ≡ i + 1 = omega (arith, g.number) in
        faulty (i + 1) (g.left ∙ (rw less (string_off (count - (i + 1)) s at g.seen g.seen_ends (was_malformed t q)) ∙ ap fault_after n)) refl

    module _ {n : Numbers} (q : r ≡ Some n) (limit : length s ≤ 65536) where
      abbrev b : ℕ
      b = n.end

      abbrev next : ℕ
      next = n.next

      read : Wrote (keyed_hex_at (text "s=") s at) bytes k bytes' b next
      read = was_line t q

      -- a string's end, which also is how many bytes there are
      next_is : next ≡ length g.seen + length read.bytes
      next_is =
          let w = keyed_spread (text "s=") s at read.bytes b read.is_hex in
          omega (arith, read.written.next, g.total, g.half, w.takes, w.inside_text)

      next_half : 2 * next ≤ b
      next_half =
          let w = keyed_spread (text "s=") s at read.bytes b read.is_hex in
          omega (arith, next_is, g.total, g.half, w.takes)

      pub small : next < 2 ^ 32
      small =
          let w = keyed_spread (text "s=") s at read.bytes b read.is_hex in
          omega (arith, next_half, w.inside_text)

      pub turn : (ends' : List ℕ) → i < length ends → ends' ≡ set ends i next → Going s start count bytes₀ ends₀ bytes' ends' b next (i + 1)
      turn ends' l e =
          let bs = read.bytes in
          let es = g.seen_ends ++ ((length g.seen + length bs) ∷ []) in
          record {
            seen = g.seen ++ bs;
            seen_ends = es;
            number = length-append g.seen_ends ((length g.seen + length bs) ∷ []) ∙ omega (arith, g.number);
            few = omega arith;
            total = next_is ∙ sym (length-append g.seen bs);
            half = next_half;
            wrote = g.wrote then read.written;
            stored = rw (e, add-one i) (take-suc-set ends i next l ∙ (ap (λ (m : List ℕ). m ++ (next ∷ [])) g.stored ∙ ap (λ (n : ℕ). g.seen_ends ++ (n ∷ [])) next_is));
            same_ends = rw e (length-set ends i next ∙ g.same_ends);
            left = g.left ∙ (rw less (string_more (count - (i + 1)) s at g.seen g.seen_ends bs b read.is_hex));
          }
