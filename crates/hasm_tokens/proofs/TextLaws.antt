-- What stands between quotes, and the ways through the reading of a string's token. Assumes nothing.
use mathlib.Core.Path.{◌≡◌, refl, ap, sym, ◌∙◌}
use mathlib.Core.Bool.{Bool, true, false}
use mathlib.Core.List.{List, [], ◌∷◌}
use Prim.Native.Nat.{ℕ, zero, suc, ◌+◌, ◌-◌, ◌≤◌, ◌<◌}
use native.Mathlib.Omega.{arith}
use native.Mathlib.Nat.{zero-add}
use lib.Dec.{eqb, leb}
use lib.ListN.{length, take, drop, get_or}
use lib.Seq.{take-append_seam}
use borrow.Author.Tests.{eq-eqb, ne_eqb, le-leb, lt-leb, leb-true}
use Rattle.std.specs.Prelude.{Result, ok_or}
use Rattle.lists.specs.Found as search
use Rattle.lists.specs.Found.Found.{found, missing}
use Rattle.lists.specs.Scan.{all}
use Rattle.lists.specs.Write.{Put}
use Rattle.lists.proofs.Tests.{by_test, both_left, both_right, not-true}
use Rattle.lists.proofs.Writes.{put_fits, kept_length}
use Rattle.answers.specs.declared.refusal.OperandFault.{OperandFault}
use Rattle.answers.specs.declared.refusal.OperandFault.TheVariants as fault
use Rattle.spec_strings.specs.Escape.{unescape}
use Rattle.spec_strings.specs.Table.{lookup}
use Rattle.spec_hasm.specs.Token.{found_or, unsigned_value, is_quoted, unquoted, string_value}
use Rattle.spec_hasm.specs.Token.Value.{refused}
use Rattle.slices.specs.Answers.{found_of}
use Rattle.hasm_tokens.specs.Values.{token_answer}
use Rattle.hasm_tokens.specs.TextValues.{is_literal, meant_in, work_after}

module _ (b : ℕ) (s : List ℕ) where
  unescape_go : eqb b 92 ≡ false → unescape false (b ∷ s) ≡ b ∷ unescape false s
  unfolding unescape
  unescape_go e = rw (e, unescape)

  unescape_slash : eqb b 92 ≡ true → unescape false (b ∷ s) ≡ unescape true s
  unfolding unescape
  unescape_slash e = rw (e, unescape)

-- a text without a backslash means itself
pub unescape_literal : (s : List ℕ) → all is_literal s ≡ true → unescape false s ≡ s
unfolding unescape all
unescape_literal [] e = refl
unescape_literal (b ∷ s) e =
    unescape_go b s (not-true (eqb b 92) (both_left (is_literal b) (all is_literal s) e))
    ∙ ap (λ (r : List ℕ). b ∷ r) (unescape_literal s (both_right (is_literal b) (all is_literal s) e))

-- a text means no more bytes than it has
unescape_short : (slash : Bool) (s : List ℕ) → length (unescape slash s) ≤ length s
unfolding unescape
unescape_short slash [] = omega arith
unescape_short true (b ∷ s) = omega (arith, unescape_short false s)
unescape_short false (b ∷ s) = go (unescape_short false s) (unescape_short true s)
  where
    go : length (unescape false s) ≤ length s → length (unescape true s) ≤ length s → length (unescape false (b ∷ s)) ≤ suc (length s)
    go p q = by_test (eqb b 92) (λ y. rw (unescape_slash b s y) (omega arith)) (λ y. rw (unescape_go b s y) (omega arith))

-- what a text means, written at the front of a list with room for the text: how much of the list it is, and what it holds
module _ (out s after : List ℕ) (n : ℕ) (h : length s ≤ length out) (p : Put out 0 (unescape false s) after n) where
  written_count : n ≡ length (unescape false s)
  written_count = omega (arith, p.small, p.next, unescape_short false s)

  pub written_room : n ≤ length after
  written_room = omega (arith, written_count, unescape_short false s, kept_length p)

  pub written_front : take n after ≡ unescape false s
  written_front =
      let u = unescape false s in
      rw (written_count, p.bytes, put_fits out 0 u (omega (arith, unescape_short false s))) (take-append_seam u (drop (0 + length u) out))

  pub work_meant : all is_literal s ≡ false → after ≡ meant_in s out
  unfolding meant_in
  work_meant e =
      let u = unescape false s in
      rw (e, p.bytes, put_fits out 0 u (omega (arith, unescape_short false s)), zero-add (length u)) refl

-- a text that means itself leaves the work buffer as it was
pub work_literal : (s work : List ℕ) → all is_literal s ≡ true → work ≡ meant_in s work
unfolding meant_in
work_literal s work e = rw e refl

-- the id of a text, or else a refusal
pub id_answer : (f : OperandFault) (x : search.Found) → ok_or (found_of x) f ≡ token_answer (found_or f x)
unfolding found_or
id_answer f (found n) = refl
id_answer f missing = refl

-- what stands between quotes, looked up as it stands where that is what it means
pub text_read : (bytes ends s : List ℕ) {u : List ℕ} {v : Result ℕ OperandFault} → u ≡ unescape false s → v ≡ token_answer (found_or fault.Text (lookup u bytes ends)) → v ≡ token_answer (found_or fault.Text (lookup (unescape false s) bytes ends))
text_read bytes ends s q g = g ∙ ap (λ (w : List ℕ). token_answer (found_or fault.Text (lookup w bytes ends))) q

-- what stands between the quotes, as it is lent
lent_inside : (n b : ℕ) (s : List ℕ) → take (n - 1) s ≡ drop 1 (take n (b ∷ s))
lent_inside zero b s = refl
lent_inside (suc n) b s = let e : suc n - 1 ≡ n = omega arith in rw e

inside_is : (t : List ℕ) → take (length t - 1 - 1) (drop 1 t) ≡ drop 1 (take (length t - 1) t)
inside_is [] = refl
inside_is (b ∷ s) = lent_inside (suc (length s) - 1) b s

-- whether a token is quoted: not in one byte; else by its last byte
module _ (t : List ℕ) where
  pub quoted_short : length t < 2 → is_quoted t ≡ false
  unfolding is_quoted
  quoted_short h = rw (lt-leb 2 (length t) h)

  pub quoted_by : 2 ≤ length t → is_quoted t ≡ eqb (get_or t (length t - 1) 0) 34
  unfolding is_quoted
  quoted_by h = rw (le-leb 2 (length t) h)

  pub quoted_length : is_quoted t ≡ true → 2 ≤ length t
  unfolding is_quoted
  quoted_length e = leb-true 2 (length t) (both_left (leb 2 (length t)) (eqb (get_or t (length t - 1) 0) 34) e)

-- a string's token: a number, no closing quote, and a text
module _ (bytes ends t : List ℕ) where
  pub string_number : (get_or t 0 0 ≡ 34 → ⊥) → string_value bytes ends t ≡ unsigned_value t
  unfolding string_value
  string_number h = rw (ne_eqb (get_or t 0 0) 34 h)

  pub string_open : get_or t 0 0 ≡ 34 → is_quoted t ≡ false → string_value bytes ends t ≡ refused fault.Quotes
  unfolding string_value
  string_open h e = rw (eq-eqb (get_or t 0 0) 34 h, e)

  string_text_lem : get_or t 0 0 ≡ 34 → is_quoted t ≡ true → string_value bytes ends t ≡ found_or fault.Text (lookup (unquoted t) bytes ends)
  unfolding string_value
  string_text_lem h e = rw (eq-eqb (get_or t 0 0) 34 h, e)

  pub string_read : {v : Result ℕ OperandFault} → get_or t 0 0 ≡ 34 → is_quoted t ≡ true
      → v ≡ token_answer (found_or fault.Text (lookup (unescape false (take (length t - 1 - 1) (drop 1 t))) bytes ends)) → v ≡ token_answer (string_value bytes ends t)
  string_read h e g = (rw (inside_is t) at g) ∙ sym (ap token_answer (string_text_lem h e))

-- and the work buffer behind each
module _ (t work : List ℕ) where
  pub work_number : (get_or t 0 0 ≡ 34 → ⊥) → work ≡ work_after t work
  unfolding work_after
  work_number h = rw (ne_eqb (get_or t 0 0) 34 h) refl

  pub work_open : get_or t 0 0 ≡ 34 → is_quoted t ≡ false → work ≡ work_after t work
  unfolding work_after
  work_open h e = rw (eq-eqb (get_or t 0 0) 34 h, e) refl

  pub work_text : {after : List ℕ} → get_or t 0 0 ≡ 34 → is_quoted t ≡ true → after ≡ meant_in (take (length t - 1 - 1) (drop 1 t)) work → after ≡ work_after t work
  unfolding work_after
  work_text h e g = rw (eq-eqb (get_or t 0 0) 34 h, e) (rw (inside_is t) at g)

-- an empty token opens with no quote
pub not_quoted : (t : List ℕ) → length t ≡ 0 → get_or t 0 0 ≡ 34 → ⊥
not_quoted [] h e = omega (arith, e)
not_quoted (b ∷ s) h e = omega arith

pub string_empty : (bytes ends t : List ℕ) → length t ≡ 0 → string_value bytes ends t ≡ unsigned_value t
string_empty bytes ends t h = string_number bytes ends t (not_quoted t h)
