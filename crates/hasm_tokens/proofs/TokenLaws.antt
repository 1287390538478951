-- The ways through the reading of a number's token, one law for each. Assumes nothing.
use mathlib.Core.Path.{◌≡◌, refl, ◌∙◌}
use mathlib.Core.Bool.{true, false}
use mathlib.Core.List.{List, [], ◌∷◌}
use Prim.Native.Nat.{ℕ, ◌-◌}
use native.Mathlib.Omega.{arith}
use lib.Dec.{eqb}
use lib.ListN.{length, take, drop, get_or}
use Rattle.std.specs.Prelude.{Option, Result, ok_or}
use Rattle.lists.specs.Choice.{either}
use Rattle.lists.proofs.Parts.{tail_part}
use Rattle.spec_numbers.specs.Parse.{Parsed, parse_u32, parse_hex}
use Rattle.spec_numbers.specs.Parse.Parsed.{is, bad}
use Rattle.answers.specs.declared.refusal.OperandFault.{OperandFault}
use Rattle.answers.specs.declared.refusal.OperandFault.TheVariants as fault
use Rattle.spec_hasm.specs.Line.{has_hex_prefix}
use Rattle.spec_hasm.specs.Token.{number_or, register_value, unsigned_value}
use Rattle.spec_hasm.specs.Token.Value.{refused}
use Rattle.numbers.specs.Answers.{number_of}
use Rattle.hasm_tokens.specs.Values.{token_answer}

-- a number that was read, or else a refusal
pub number_answer : (f : OperandFault) (p : Parsed) → ok_or (number_of p) f ≡ token_answer (number_or f p)
unfolding number_or
number_answer f (is n) = refl
number_answer f bad = refl

pub number_read : (f : OperandFault) (p : Parsed) {m : Option ℕ} {v : Result ℕ OperandFault} → m ≡ number_of p → v ≡ ok_or m f → v ≡ token_answer (number_or f p)
number_read f p e q = q ∙ rw e (number_answer f p)

-- a register: an empty token, no mark, and a mark
pub register_none : (t : List ℕ) → length t ≡ 0 → register_value t ≡ refused fault.Register
unfolding register_value
register_none [] h = refl
register_none (b ∷ s) h = absurd (omega arith)

module _ (t : List ℕ) where
  pub register_not : either (eqb (get_or t 0 0) 114) (eqb (get_or t 0 0) 82) ≡ false → register_value t ≡ refused fault.Register
  unfolding register_value
  register_not e = rw e

  pub register_is : {m : Option ℕ} {v : Result ℕ OperandFault} → either (eqb (get_or t 0 0) 114) (eqb (get_or t 0 0) 82) ≡ true
      → m ≡ number_of (parse_u32 (take (length t - 1) (drop 1 t))) → v ≡ ok_or m fault.Register → v ≡ token_answer (register_value t)
  unfolding register_value
  register_is h e f = rw h (number_read fault.Register (parse_u32 (drop 1 t)) (rw (tail_part t 1) at e) f)

  -- a number, hexadecimal and decimal
  pub unsigned_hex : {m : Option ℕ} {v : Result ℕ OperandFault} → has_hex_prefix t ≡ true
      → m ≡ number_of (parse_hex (take (length t - 2) (drop 2 t))) → v ≡ ok_or m fault.Number → v ≡ token_answer (unsigned_value t)
  unfolding unsigned_value
  unsigned_hex h e f = rw h (number_read fault.Number (parse_hex (drop 2 t)) (rw (tail_part t 2) at e) f)

  pub unsigned_decimal : {m : Option ℕ} {v : Result ℕ OperandFault} → has_hex_prefix t ≡ false → m ≡ number_of (parse_u32 t) → v ≡ ok_or m fault.Number → v ≡ token_answer (unsigned_value t)
  unfolding unsigned_value
  unsigned_decimal h e f = rw h (number_read fault.Number (parse_u32 t) e f)
