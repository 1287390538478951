-- What carrying answers and writes of one operand, of the operands of an instruction and of all instructions: both passes of
-- document 01 at once. Assumes nothing.
use Rattle.std.specs.Prelude.{◌≡◌, true, false, List, [], ◌∷◌, ◌++◌, ℕ, ◌+◌, ◌≤◌, Option, None, Some, Result, Ok, Err, option_map}
use Rattle.std.specs.Option.{option_or}
use Rattle.lists.specs.Write.{Put, ByWords}
use Rattle.answers.specs.Outcome.{Outcome}
use Rattle.answers.specs.Outcome.Outcome.{refused_with}
use Rattle.answers.specs.declared.refusal.OperandFault.{OperandFault}
use Rattle.answers.specs.declared.refusal.OperandFault.TheVariants.{Distance}
use Rattle.answers.specs.declared.refusal.Refusal.{Refusal}
use Rattle.answers.specs.declared.refusal.Refusal.TheVariants.{BadOperand}
use Rattle.spec_numbers.specs.LittleEndian.{le_bytes}
use Rattle.spec_sheet.specs.Types.{width_of}
use Rattle.spec_carry.specs.Cases.{Case, unless_case}
use Rattle.spec_carry.specs.Passes.{Carrying, operand_cases, operands_cases, far_cases, first_pass, second_pass, new_bits, new_operands, new_bytes}
use Rattle.carry.specs.NewBits.{is_far}
use Rattle.carry.specs.declared.instructions.Operands.{Operands}
use Rattle.carry.specs.declared.instructions.OperandRefusal.{OperandRefusal}
use Rattle.carry.specs.declared.instructions.Far.{Far}

-- the q-th operand of the instruction i passes the first pass, and is written into a block or too far in the second; or the first
-- pass refuses it
pub data OperandCarried (x : Carrying) (i at q new c d bits : ℕ) (block : List ℕ) (k : ℕ) (block' : List ℕ) (r : Result (Option ℕ) OperandFault) : Type 0 where
  is_near : (k' : ℕ) → r ≡ Ok (Some k') → ((rest : Outcome) → unless_case (operand_cases x i at q c d bits) rest ≡ rest) → is_far x i at c d bits ≡ false
      → ByWords block k (le_bytes (width_of d) (new_bits x at new c d bits)) block' k' → OperandCarried x i at q new c d bits block k block' r
  too_far : r ≡ Ok None → ((rest : Outcome) → unless_case (operand_cases x i at q c d bits) rest ≡ rest) → is_far x i at c d bits ≡ true
      → OperandCarried x i at q new c d bits block k block' r
  is_refused : (f : OperandFault) → r ≡ Err f → ((rest : Outcome) → unless_case (operand_cases x i at q c d bits) rest ≡ refused_with (BadOperand f i q))
      → OperandCarried x i at q new c d bits block k block' r

-- all operands of the instruction i, whose types are row and row': they pass the first pass, and all are written in the second or
-- one is the first that is too far; or the first pass refuses one
pub data OperandsCarried (x : Carrying) (i at new : ℕ) (row row' ps block : List ℕ) (k : ℕ) (block' : List ℕ) (r : Result Operands OperandRefusal) : Type 0 where
  all_near : (k' : ℕ) → r ≡ Ok (record { next = k'; far = None }) → ((cs : List Case) (rest : Outcome) → unless_case (operands_cases x i at 1 row row' ps ++ cs) rest ≡ unless_case cs rest)
      → ((cs : List Case) (rest : Outcome) → unless_case (far_cases x i at 1 row row' ps ++ cs) rest ≡ unless_case cs rest)
      → ByWords block k (new_operands x at new row row' ps) block' k' → OperandsCarried x i at new row row' ps block k block' r
  some_far : (k' q : ℕ) → r ≡ Ok (record { next = k'; far = Some q }) → k' ≤ k + 64 → ((cs : List Case) (rest : Outcome) → unless_case (operands_cases x i at 1 row row' ps ++ cs) rest ≡ unless_case cs rest)
      → ((cs : List Case) (rest : Outcome) → unless_case (far_cases x i at 1 row row' ps ++ cs) rest ≡ refused_with (BadOperand Distance i q))
      → OperandsCarried x i at new row row' ps block k block' r
  some_refused : (f : OperandFault) (q : ℕ) → r ≡ Err (record { fault = f; operand = q })
      → ((cs : List Case) (rest : Outcome) → unless_case (operands_cases x i at 1 row row' ps ++ cs) rest ≡ refused_with (BadOperand f i q))
      → OperandsCarried x i at new row row' ps block k block' r

-- the instruction i, whose new opcode is op: that is written into a block, then its operands are carried
pub record InstructionCarried (x : Carrying) (i at new op : ℕ) (row row' ps block : List ℕ) (k : ℕ) (block' : List ℕ) (r : Result Operands OperandRefusal) : Type 0 where
  pub block₁ : List ℕ
  pub b : ℕ
  pub opcode_put : ByWords block k (op ∷ []) block₁ b
  pub operands : OperandsCarried x i at new row row' ps block₁ b block' r

-- the first 8 of the instructions up to i
abbrev pub keep_first : Option Far → ℕ → Option ℕ → Option Far
keep_first first i far = option_or first (option_map (λ (q : ℕ). record { instruction = i; operand = q }) far)

-- how a body ends that passes the first pass
unfoldable pub ended_with : ℕ → Option Far → Result ℕ Refusal
ended_with k None = Ok k
ended_with k (Some far) = Err (BadOperand Distance far.instruction far.operand)

-- how long a block is that instructions are gathered in, and where the last one in it starts at most
abbrev pub block_size : ℕ
block_size = 2048

abbrev pub instruction_start : ℕ
instruction_start = 1968

-- all instructions were written from the front of the output on, which was `out` and is `out'`; or one is refused
pub data BytesCarried (x : Carrying) (rs : List (List ℕ)) (out out' : List ℕ) (r : Result ℕ Refusal) : Type 0 where
  whole : (k : ℕ) → r ≡ Ok k → ((cs : List Case) (rest : Outcome) → unless_case (first_pass x 0 rs ++ (second_pass x 0 rs ++ cs)) rest ≡ unless_case cs rest)
      → Put out 0 (new_bytes x 0 rs) out' k → BytesCarried x rs out out' r
  refuses : (f : Refusal) → r ≡ Err f → ((cs : List Case) (rest : Outcome) → unless_case (first_pass x 0 rs ++ (second_pass x 0 rs ++ cs)) rest ≡ refused_with f)
      → BytesCarried x rs out out' r
