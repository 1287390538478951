-- What each operation of a case answers, and the lent bytes afterwards; src/main.rt describes the operations by their numbers.
-- Assumes nothing.
use Rattle.std.specs.Prelude.{Result, Ok, Err, false, List, [], ◌∷◌, ℕ, ◌+◌, ◌*◌, ◌/◌, ◌%◌, min, eqb, ltb, length, drop, get_or}
use Rattle.lists.specs.Choice.{pick, either}
use Rattle.lists.specs.Scan.{part}
use Rattle.lists.specs.Write.{put, top}
use Rattle.spec_numbers.specs.LittleEndian.{le, le_bytes}
use Rattle.spec_numbers.specs.Parse.{parse_u32, parse_hex, parse_i32}
use Rattle.spec_numbers.specs.Print.{decimal, signed_decimal, hex_lower4}
use Rattle.spec_numbers.specs.TwosComplement.{signed}
use Rattle.spec_numbers.specs.Double.{read_double, print_double}
use Rattle.numbers.specs.Answers.{number_of}
use Rattle.spec_strings.specs.Escape.{quoted, unescape}
use Rattle.answers.specs.Report.{Report, refusal, success, zeros}
use Rattle.answers.specs.Outcome.{Outcome, report, outputs_after}
use Rattle.answers.specs.Outcome as outcome
use Rattle.answers.specs.Numbers.{numbers_of}
use Rattle.spec_body.specs.Operation.{decode, encode}
use Rattle.spec_hasm.specs.Operation.{assemble}
use Rattle.spec_job.specs.Printed as job
use Rattle.desk_parts.specs.Parts.{part_of}
use Rattle.desk_parts.specs.declared.PartNumber.{PartNumber}
use Rattle.replay.specs.Words.{numbers_in, bytes_of}
use Rattle.answers.specs.declared.report.Numbers.{Numbers}
use Rattle.replay.specs.declared.Stop.{Stop}
use Rattle.replay.specs.declared.Stop.TheVariants.{Broken}

-- what an operation answered, or why the replay stops at its case; and the lent bytes afterwards
pub record Done : Type 0 where
  pub answer : Result Numbers Stop
  pub left : List ℕ

abbrev pub done : Result Numbers Stop → List ℕ → Done
done r after = record { answer = r; left = after }

-- the four numbers of a report
abbrev pub reported : Report → Result Numbers Stop
reported r = Ok (numbers_of r)

-- no operation, or an input that is not of its form, or too large: the lent bytes stay
abbrev pub broken : List ℕ → Done
broken lent = done (Err Broken) lent

-- a text was printed, as much of it as fits; "the whole text's length" is the answer
unfoldable pub printed : List ℕ → List ℕ → Done
printed t lent = done (reported (success (min (length t) top))) (put lent 0 t)

-- a value was read, and its 8 bytes are in the lent ones; "number 0 where the text is a number, else 1"
unfoldable pub valued : PartNumber → List ℕ → Done
valued n lent = pick (eqb n.found 1) (done (reported (success 0)) (put lent 0 (le_bytes 8 n.value))) (done (reported (refusal 1 0 0)) (zeros lent))

-- an operation of the desk ended, with one lent output and so many lent entries
unfoldable pub ended : Outcome → List ℕ → List ℕ → Done
ended x entries out = done (reported (report x (outcome.lent (out ∷ []) entries))) (get_or (outputs_after x (out ∷ []) entries) 0 [])

-- a body was decoded into words, whose bytes were written to the lent ones
unfoldable pub decoded_into : List ℕ → List ℕ → List ℕ → List ℕ → Done
decoded_into sheet body lent words =
    let d = ended (decode sheet body) [] words in
    done d.answer (put lent 0 (bytes_of 8 d.left))

-- decoding into the words that the lent bytes are
unfoldable pub decoded : List ℕ → List ℕ → List ℕ → Done
decoded sheet body lent =
    let n = length lent / 8 in
    pick (ltb 8192 n) (broken lent) (decoded_into sheet body lent (numbers_in 8 n lent))

-- encoding the words that the input is
unfoldable pub encoded : List ℕ → List ℕ → List ℕ → Done
encoded sheet input lent =
    let n = length input / 8 in
    pick (eqb (length input % 8) 0) (pick (ltb 8192 n) (broken lent) (ended (encode sheet (numbers_in 8 n input)) [] lent)) (broken lent)

-- assembling behind the input's numbers: so many strings' ends, so many bytes of theirs, the text
unfoldable pub assembled_from : List ℕ → List ℕ → ℕ → ℕ → ℕ → List ℕ → Done
assembled_from sheet rest strings size entries lent =
    let behind = 4 * strings + size in
    pick (ltb (length rest) behind) (broken lent)
    (ended (assemble sheet (part rest (4 * strings) size) (numbers_in 4 strings rest) (drop behind rest)) (entries ∷ []) lent)

-- "three numbers, the count of strings, of their bytes and of the label entries lent"
unfoldable pub assembled : List ℕ → List ℕ → List ℕ → Done
assembled sheet input lent =
    let strings = le (part input 0 4) in
    let size = le (part input 4 4) in
    let entries = le (part input 8 4) in
    pick (either (ltb (length input) 12) (either (ltb 64 strings) (ltb 64 entries))) (broken lent) (assembled_from sheet (drop 12 input) strings size entries lent)

-- what a job prints, of 131,078 bytes at most
unfoldable pub ran : List ℕ → List ℕ → Done
ran s lent = pick (ltb 131078 (length (job.printed s))) (broken lent) (printed (job.printed s) lent)

-- 7 to 10 on a number
unfoldable pub number_printed : ℕ → ℕ → List ℕ → Done
number_printed operation n lent =
    pick (eqb operation 7) (printed (decimal n) lent)
    (pick (eqb operation 8) (pick (ltb 4294967295 n) (broken lent) (printed (signed_decimal (signed 32 n)) lent))
    (pick (eqb operation 9) (printed (hex_lower4 n) lent)
    (pick (eqb operation 10) (printed (print_double n) lent) (broken lent))))

-- 7 to 10 on a number's 8 bytes
unfoldable pub input_printed : ℕ → List ℕ → List ℕ → Done
input_printed operation input lent = pick (eqb (length input) 8) (number_printed operation (le (part input 0 8)) lent) (broken lent)

-- 3 to 12
unfoldable pub part_performed : ℕ → List ℕ → List ℕ → Done
part_performed operation input lent =
    pick (eqb operation 3) (valued (part_of (number_of (parse_u32 input))) lent)
    (pick (eqb operation 4) (valued (part_of (number_of (parse_hex input))) lent)
    (pick (eqb operation 5) (valued (part_of (number_of (parse_i32 input))) lent)
    (pick (eqb operation 6) (valued (part_of (number_of (read_double input))) lent)
    (pick (eqb operation 11) (printed (quoted input) lent)
    (pick (eqb operation 12) (printed (unescape false input) lent) (input_printed operation input lent))))))

-- an operation by its number
unfoldable pub performed : ℕ → List ℕ → List ℕ → List ℕ → Done
performed operation sheet input lent =
    pick (eqb operation 1) (decoded sheet input lent)
    (pick (eqb operation 2) (encoded sheet input lent)
    (pick (eqb operation 13) (assembled sheet input lent)
    (pick (eqb operation 14) (ran input lent) (part_performed operation input lent))))
