-- What an operation answers, and what is left in one lent buffer (document 01, 'Numbers the desk returns'). Assumes nothing.
use Rattle.std.specs.Prelude.{ℕ, List, ◌++◌, length, drop, replicate}

-- "A refusal gives number, place and operand (from 1; 0 if none), length 0"; after success the number is 0
pub record Report : Type 0 where
  pub number : ℕ
  pub place : ℕ
  pub operand : ℕ
  pub length : ℕ

abbrev pub refusal : ℕ → ℕ → ℕ → Report
refusal number place operand = record { number = number; place = place; operand = operand; length = 0 }

-- "18 and 19 have place 0"
abbrev pub shortage : Report
shortage = refusal 19 0 0

-- "length counts the bytes written, or the records when decoding"
abbrev pub success : ℕ → Report
success n = record { number = 0; place = 0; operand = 0; length = n }

-- a buffer of such entries that is all zero: "After success, work buffers are zero"
abbrev pub cleared : {A : Type 0} → A → List A → List A
cleared zero before = replicate (length before) zero

-- "Afterwards every lent output and work buffer is all zero"
abbrev pub zeros : List ℕ → List ℕ
zeros out = replicate (length out) 0

-- "output past the result keeps its entry content"
abbrev pub written : List ℕ → List ℕ → List ℕ
written result out = result ++ drop (length result) out
