-- The numbers in front of a case. Assumes nothing.
use Rattle.std.specs.Prelude.{◌≡◌, Bool, List, ℕ, ◌*◌, ◌≤◌, eqb, ltb, length, drop, Result, Ok, Err, OnOk, IfErr}
use Rattle.lists.specs.Choice.{pick, both, within}
use Rattle.lists.specs.Scan.{part}
use Rattle.spec_numbers.specs.LittleEndian.{le}
use Rattle.answers.specs.declared.report.Numbers.{Numbers}
use Rattle.replay.specs.declared.case.Head.{Head}
use Rattle.replay.specs.declared.Stop.{Stop}
use Rattle.replay.specs.declared.Stop.TheVariants.{End, Broken}

-- the number with index i of a list of 4-byte numbers
abbrev pub number_at : List ℕ → ℕ → ℕ
number_at b i = le (part b (4 * i) 4)

-- the nine numbers of 36 bytes, in their order
abbrev pub head_of : List ℕ → Head
head_of b =
    record {
      operation = number_at b 0;
      sheet = number_at b 1;
      input = number_at b 2;
      room = number_at b 3;
      answer = record { number = number_at b 4; place = number_at b 5; operand = number_at b 6; length = number_at b 7 };
      expected = number_at b 8;
    }

-- what was read from standard input, of which no contract says the bytes: the numbers of 36 bytes, nothing, or fewer bytes
pub data Reads (r : Result Head Stop) : Type 0 where
  numbers : (b : List ℕ) → length b ≡ 36 → r ≡ Ok (head_of b) → Reads r
  nothing : r ≡ Err End → Reads r
  cut : r ≡ Err Broken → Reads r

-- n bytes were to be read to the front of s, which is s' afterwards: they were only where they fit, else it is no case; what lies
-- behind them stays
pub record Fronted (s : List ℕ) (n : ℕ) (s' : List ℕ) (r : Result Unit Stop) : Type 0 where
  pub fits : OnOk r (n ≤ length s)
  pub fails : IfErr r (λ x. x ≡ Broken)
  pub kept : drop n s' ≡ drop n s

-- the parts of a case were to be read, each to the front of its space: they were only where all of them fit, else it is no case
pub record PartsRead (head : Head) (sheet input expected sheet' input' expected' : List ℕ) (r : Result Unit Stop) : Type 0 where
  pub fit : OnOk r ((head.sheet ≤ length sheet) × (head.input ≤ length input) × (head.expected ≤ length expected))
  pub fails : IfErr r (λ x. x ≡ Broken)
  pub sheet_kept : drop head.sheet sheet' ≡ drop head.sheet sheet
  pub input_kept : drop head.input input' ≡ drop head.input input
  pub expected_kept : drop head.expected expected' ≡ drop head.expected expected

-- "A sheet length of 0 stands for the sheet of the case before", which has `used` bytes
abbrev pub sheet_size : Head → ℕ → ℕ
sheet_size head used = pick (eqb head.sheet 0) used head.sheet

-- how many bytes an operation lends for a room: a word is 8, and so is a value that was read; a room past the limit stays
-- past it
unfoldable pub lent_size : ℕ → ℕ → ℕ
lent_size operation room = pick (ltb 65536 room) room (pick (eqb operation 1) (8 * room) (pick (within 3 6 operation) 8 room))

-- an answer is the recorded one: its four numbers are
unfoldable pub same_answer : Head → Numbers → Bool
same_answer head a =
    let b = head.answer in
    both (eqb b.number a.number) (both (eqb b.place a.place) (both (eqb b.operand a.operand) (eqb b.length a.length)))
