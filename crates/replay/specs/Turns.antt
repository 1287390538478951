-- What comes of a case. Assumes nothing.
use Rattle.std.specs.Prelude.{◌≡◌, Result, Ok, Err, List, ℕ, ◌+◌, ltb, length, drop, replicate}
use Rattle.lists.specs.Choice.{pick, both}
use Rattle.lists.specs.Scan.{part}
use Rattle.replay.specs.Cases.{head_of, sheet_size, lent_size, same_answer}
use Rattle.replay.specs.Lent.{left_as}
use Rattle.replay.specs.Performs.{Done, performed}
use Rattle.replay.specs.declared.case.Head.{Head}
use Rattle.answers.specs.declared.report.Numbers.{Numbers}
use Rattle.replay.specs.declared.Outcome.{Outcome}
use Rattle.replay.specs.declared.Stop.{Stop}
use Rattle.replay.specs.declared.Stop.TheVariants as stop

-- what comes of a case: how many bytes the sheet has that the next one may use, or why the replay stops there
abbrev pub Turn : Type 0
Turn = Result ℕ Stop

-- an answer against the recorded one: "the four numbers are the answer's", and the lent bytes are left as recorded
unfoldable pub turn_of : Head → List ℕ → ℕ → List ℕ → Result Numbers Stop → Turn
turn_of head expected used lent (Ok a) = pick (both (same_answer head a) (left_as lent expected a.number)) (Ok used) (Err stop.Differs)
turn_of head expected used lent (Err s) = Err s

-- what an operation answered and left against what is recorded
abbrev pub turn_by : Head → List ℕ → List ℕ → Done → Turn
turn_by head sheet expected d = turn_of head expected (length sheet) d.left d.answer

-- a case that lends so many bytes: each is 0xA5 before the call
unfoldable pub compared_on : ℕ → Head → List ℕ → List ℕ → List ℕ → Turn
compared_on size head sheet input expected = turn_by head sheet expected (performed head.operation sheet input (replicate size 0xA5))

-- a case whose parts have been read
unfoldable pub case_turn : Head → List ℕ → List ℕ → List ℕ → Turn
case_turn head sheet input expected =
    let size = lent_size head.operation head.room in
    pick (ltb 65536 size) (Err stop.Broken) (compared_on size head sheet input expected)

-- a case whose parts were to be read into these spaces, of which the sheet's was `sheet₀`: they were not, or it is compared;
-- behind the sheet's bytes, which may be none, the bytes of the case before stay
pub data Tried (head : Head) (used : ℕ) (sheet₀ sheet input expected : List ℕ) (r : Turn) : Type 0 where
  unread : r ≡ Err stop.Broken → Tried head used sheet₀ sheet input expected r
  compared : drop head.sheet sheet ≡ drop head.sheet sheet₀
      → r ≡ case_turn head (part sheet 0 (sheet_size head used)) (part input 0 head.input) (part expected 0 head.expected) → Tried head used sheet₀ sheet input expected r

-- the next case: there is none, its numbers are cut, or it is tried by the numbers of 36 bytes
pub data Next (used : ℕ) (sheet₀ sheet input expected : List ℕ) (r : Turn) : Type 0 where
  none : r ≡ Err stop.End → Next used sheet₀ sheet input expected r
  cut : r ≡ Err stop.Broken → Next used sheet₀ sheet input expected r
  tried : (b : List ℕ) → length b ≡ 36 → Tried (head_of b) used sheet₀ sheet input expected r → Next used sheet₀ sheet input expected r

-- so many cases agreed, one behind the other, whatever standard input holds; the last one's sheet is the first `used` bytes
pub data Agreed : ℕ → ℕ → List ℕ → Type 0 where
  start : (sheet : List ℕ) → Agreed 0 0 sheet
  more : {n used after : ℕ} {sheet₀ sheet : List ℕ} → Agreed n used sheet₀ → (input expected : List ℕ) → Next used sheet₀ sheet input expected (Ok after) → Agreed (n + 1) after sheet

-- all cases: so many agreed as are counted, and then the next one stopped, or there may be no more
pub data Replayed (r : Outcome) : Type 0 where
  stopped : {used : ℕ} {sheet₀ : List ℕ} → Agreed r.agreed used sheet₀ → (sheet input expected : List ℕ) → Next used sheet₀ sheet input expected (Err r.stop) → Replayed r
  full : {used : ℕ} {sheet : List ℕ} → Agreed r.agreed used sheet → r.agreed ≡ 1000000 → Replayed r
