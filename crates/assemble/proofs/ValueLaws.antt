-- A token's value by the family of its type, and a jump's distance by how its target is written. Assumes nothing.
use mathlib.Core.Path.{◌≡◌, refl, ap, sym, ◌∙◌}
use mathlib.Core.List.{List}
use Prim.Native.Nat.{ℕ, ◌^◌, ◌%◌, ◌<◌}
use Rattle.std.proofs.Common.{Option, Some, None, Result, Ok, Err}
use Rattle.std.specs.Result.{MatchResult, IsErrAnd}
use native.Mathlib.Omega.{arith}
use borrow.Author.Tests.{ne_eqb}
use Rattle.lists.specs.Found as search
use Rattle.lists.specs.Found.Found.{found, missing}
use Rattle.answers.specs.declared.refusal.OperandFault.{OperandFault}
use Rattle.answers.specs.declared.refusal.OperandFault.TheVariants as fault
use Rattle.spec_numbers.specs.TwosComplement.{wrap_sub}
use Rattle.spec_numbers.specs.Parse.{parse_i32}
use Rattle.spec_numbers.specs.Double.{read_double}
use Rattle.spec_sheet.specs.Types.{family_of, width_of}
use Rattle.spec_hasm.specs.Token as definition
use Rattle.spec_hasm.specs.Token.{number_or, found_or, register_value, unsigned_value, string_value, target_in, distance_to, token_value}
use Rattle.spec_hasm.specs.Token.Value.{value, refused}
use Rattle.slices.specs.Answers.{found_of}
use Rattle.hasm_tokens.specs.Values.{token_answer}
use Rattle.hasm_tokens.specs.Targets.{target_or}
use Rattle.hasm_tokens.specs.declared.address_token.Target.{Target}
use Rattle.hasm_tokens.specs.declared.address_token.Target.TheVariants as target

-- a token for an operand of each family
module _ (bytes ends : List ℕ) (labels : List ℕ → search.Found) (offset code : ℕ) (t : List ℕ) {v : Result ℕ OperandFault} where
  pub of_register : family_of code ≡ 1 → v ≡ token_answer (register_value t) → v ≡ token_answer (token_value bytes ends labels offset code t)
  unfolding token_value
  of_register e g = rw e g

  pub of_number : family_of code ≡ 2 → v ≡ token_answer (unsigned_value t) → v ≡ token_answer (token_value bytes ends labels offset code t)
  unfolding token_value
  of_number e g = rw e g

  pub of_string : family_of code ≡ 3 → v ≡ token_answer (string_value bytes ends t) → v ≡ token_answer (token_value bytes ends labels offset code t)
  unfolding token_value
  of_string e g = rw e g

  pub of_address : (w : ℕ) → family_of code ≡ 4 → w ≡ width_of code → v ≡ token_answer (distance_to w offset (target_in labels t)) → v ≡ token_answer (token_value bytes ends labels offset code t)
  unfolding token_value
  of_address w e f g = rw (e, sym f) g

  pub of_immediate : family_of code ≡ 5 → v ≡ token_answer (number_or fault.Number (parse_i32 t)) → v ≡ token_answer (token_value bytes ends labels offset code t)
  unfolding token_value
  of_immediate e g = rw e g

  pub of_double : (family_of code ≡ 1 → ⊥) → (family_of code ≡ 2 → ⊥) → (family_of code ≡ 3 → ⊥) → (family_of code ≡ 4 → ⊥) → (family_of code ≡ 5 → ⊥)
      → v ≡ token_answer (number_or fault.Double (read_double t)) → v ≡ token_answer (token_value bytes ends labels offset code t)
  unfolding token_value
  of_double n1 n2 n3 n4 n5 g =
      rw (ne_eqb (family_of code) 1 n1, ne_eqb (family_of code) 2 n2, ne_eqb (family_of code) 3 n3, ne_eqb (family_of code) 4 n4, ne_eqb (family_of code) 5 n5) g

-- a distance takes the low 32 bits of a target
distance_low : (width offset target : ℕ) → offset < 2 ^ 32 → distance_to width offset (value (target % 2 ^ 32)) ≡ distance_to width offset (value target)
unfolding distance_to
distance_low width offset target h =
    let e : wrap_sub (target % 2 ^ 32) offset ≡ wrap_sub target offset = omega arith in
    rw e

-- what a search answers was found, or not
was_at : (l : search.Found) (n : ℕ) → found_of l ≡ Some n → l ≡ found n
was_at (found m) n e = ap found (cc e)
was_at missing n e = absurd (let z : ◌≡◌ {A = ℕ} 0 1 = cc e in omega arith)

was_missing : (l : search.Found) → found_of l ≡ None → l ≡ missing
was_missing missing e = refl
was_missing (found m) e = absurd (let z : ◌≡◌ {A = ℕ} 0 1 = cc e in omega arith)

-- the distance to a label that was found, and to one that was not
module _ (width offset : ℕ) (l : search.Found) where
  pub label_at : (n : ℕ) {v : Result ℕ OperandFault} → offset < 2 ^ 32 → found_of l ≡ Some n → v ≡ token_answer (distance_to width offset (value (n % 2 ^ 32)))
      → v ≡ token_answer (distance_to width offset (found_or fault.Address l))
  unfolding found_or
  label_at n h e g = rw (was_at l n e) (g ∙ ap token_answer (distance_low width offset n h))

  pub label_missing : found_of l ≡ None → Err fault.Address ≡ token_answer (distance_to width offset (found_or fault.Address l))
  unfolding distance_to found_or
  label_missing e = rw (was_missing l e)

-- a token that is no target has no distance
pub no_target : (width offset : ℕ) (x : definition.Value) → x ≡ refused fault.Address → Err fault.Address ≡ token_answer (distance_to width offset x)
unfolding distance_to
no_target width offset x e = rw e refl

-- the distance to a target, by how the token writes it: its offset, a label, or neither
module _ (t : List ℕ) (width offset : ℕ) (r : Target) (h : (labels : List ℕ → search.Found) → target_in labels t ≡ target_or r (labels t))
    (labels : List ℕ → search.Found) where
  by_target : (a : Target) → r ≡ a → token_answer (distance_to width offset (target_in labels t)) ≡ token_answer (distance_to width offset (target_or a (labels t)))
  by_target a e = ap (λ (x : definition.Value). token_answer (distance_to width offset x)) (h labels ∙ ap (λ (b : Target). target_or b (labels t)) e)

  pub to_offset : (n : ℕ) {v : Result ℕ OperandFault} → r ≡ target.Offset n → v ≡ token_answer (distance_to width offset (value n)) → v ≡ token_answer (distance_to width offset (target_in labels t))
  to_offset n e g = g ∙ sym (by_target (target.Offset n) e)

  pub to_label : {f : Option ℕ} {v : Result ℕ OperandFault} → r ≡ target.Label → f ≡ found_of (labels t)
      → ((l : search.Found) → f ≡ found_of l → v ≡ token_answer (distance_to width offset (found_or fault.Address l))) → v ≡ token_answer (distance_to width offset (target_in labels t))
  to_label e f g = g (labels t) f ∙ sym (by_target target.Label e)

  pub to_none : r ≡ target.Bad → Err fault.Address ≡ token_answer (distance_to width offset (target_in labels t))
  unfolding distance_to
  to_none e = sym (by_target target.Bad e)

-- a token's value that is bits, or a refusal
pub value_bits : (x : definition.Value) (n : ℕ) → token_answer x ≡ Ok n → x ≡ value n
value_bits (value m) n e = ap value (cc e)
value_bits (refused f) n e = absurd (let z : ◌≡◌ {A = ℕ} 0 1 = cc e in omega arith)

pub value_refused : (x : definition.Value) (f : OperandFault) → token_answer x ≡ Err f → x ≡ refused f
value_refused (refused g) f e = ap refused (cc e)
value_refused (value m) f e = absurd (let z : ◌≡◌ {A = ℕ} 0 1 = cc e in omega arith)

-- what `map_err` was given, from what it answered
pub map_ok : {A E F : Type 0} (P : E → F → Type 0) (v : Result A E) (r : Result A F) {a : A} → MatchResult v (λ x. r ≡ Ok x) (λ e. IsErrAnd r (P e)) → r ≡ Ok a → v ≡ Ok a
map_ok P (Ok x) (Ok y) {a} m e = let q : x ≡ a = cc (m, e) in rw q refl
map_ok P (Ok x) (Err y) m e = cc e
map_ok P (Err x) (Ok y) m e = absurd m
map_ok P (Err x) (Err y) m e = cc e

pub record Mapped {A E F : Type 0} (P : E → F → Type 0) (v : Result A E) (y : F) : Type 0 where
  pub fault : E
  pub was : v ≡ Err fault
  pub becomes : P fault y

pub map_error : {A E F : Type 0} (P : E → F → Type 0) (v : Result A E) (r : Result A F) {y : F} → MatchResult v (λ x. r ≡ Ok x) (λ e. IsErrAnd r (P e)) → r ≡ Err y → Mapped P v y
map_error P (Ok x) (Ok z) m e = cc e
map_error P (Ok x) (Err z) m e = cc m
map_error P (Err x) (Ok z) m e = absurd m
map_error P (Err x) (Err z) {y} m e = let q : z ≡ y = cc e in record { fault = x; was = refl; becomes = rw q at m }
