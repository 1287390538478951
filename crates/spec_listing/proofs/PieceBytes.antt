-- The pieces of a listed line: tokens, and quoted texts without a quote inside. Assumes nothing.
use mathlib.Core.Path.{◌≡◌, refl, ap, ◌∙◌}
use mathlib.Core.Bool.{Bool, true, false}
use mathlib.Core.List.{List, [], ◌∷◌, ◌++◌}
use Prim.Native.Nat.{ℕ, ◌+◌, ◌-◌}
use native.Mathlib.Omega.{arith}
use lib.Dec.{ltb}
use lib.ListN.{length, get_or, length-append}
use lib.Seq.{get_or-append-add}
use Rattle.lists.specs.Choice.{both}
use Rattle.lists.specs.Scan.{all}
use Rattle.spec_numbers.specs.Print.{decimal}
use Rattle.spec_sheet.specs.Types.{family_of}
use Rattle.spec_strings.specs.Table.{text_of}
use Rattle.spec_strings.specs.Escape.{escape_text, quoted, unescape}
use Rattle.spec_strings.specs.Plain.{plain}
use Rattle.spec_strings.proofs.EscapeLaws.{printed, last_of, plain_printed, plain_last, unescape_escape}
use Rattle.spec_listing.specs.Operand.{operand_text}
use Rattle.spec_listing.proofs.OperandShape.{by_family, by_text}
use Rattle.spec_listing.proofs.TokenBytes.{Token, lettered_token, decimal_token, signed_token, double_token}

-- a quoted piece that says the text t: no quote stands inside, and no backslash before the closing one
pub record QuotedText (t piece : List ℕ) : Type 0 where
  pub inner : List ℕ
  pub shape : piece ≡ 34 ∷ inner ++ (34 ∷ [])
  pub bytes : all printed inner ≡ true
  pub last : last_of inner ≡ 92 → ⊥
  pub says : unescape false inner ≡ t

-- its quotes, and what stands between them
module _ (t piece : List ℕ) (q : QuotedText t piece) where
  pub quoted_length : length piece ≡ 2 + length q.inner
  quoted_length = rw q.shape (omega (arith, length-append q.inner (34 ∷ [])))

  pub quoted_first : get_or piece 0 0 ≡ 34
  quoted_first = rw q.shape

  pub quoted_last : last_of piece ≡ 34
  quoted_last =
      let e : length piece - 1 ≡ length (34 ∷ q.inner) + 0 = omega (arith, quoted_length) in
      ap (λ (i : ℕ). get_or piece i 0) e ∙ ap (λ (s : List ℕ). get_or s (length (34 ∷ q.inner) + 0) 0) q.shape ∙ get_or-append-add (34 ∷ q.inner) (34 ∷ []) 0 0

-- a plain text is shown by one
pub plain_quoted : (t : List ℕ) → plain t ≡ true → QuotedText t (quoted t)
unfolding quoted
plain_quoted t e = record {
  inner = escape_text t;
  shape = refl;
  bytes = plain_printed t e;
  last = plain_last t e;
  says = unescape_escape t e;
}

-- a piece: a token, or a quoted text
pub data Piece (p : List ℕ) : Type 0 where
  token : Token p → Piece p
  text : (t : List ℕ) → QuotedText t p → Piece p

-- an operand that is no string is a token
pub operand_token : (texts : Bool) (bytes ends : List ℕ) (at code bits : ℕ) → (family_of code ≡ 3 → ⊥) → Token (operand_text texts bytes ends at code bits)
operand_token texts bytes ends at code bits n =
    by_family texts bytes ends at code bits Token
    (λ e. lettered_token 114 (decimal bits) (omega arith) (omega arith) (decimal_token bits))
    (λ e. decimal_token bits)
    (λ e. absurd (n e))
    (λ e. lettered_token 76 _ (omega arith) (omega arith) (signed_token _))
    (λ e. signed_token _)
    (double_token bits)

-- every operand is a piece, where the text of its string is plain
pub operand_piece : (texts : Bool) (bytes ends : List ℕ) (at code bits : ℕ) → (family_of code ≡ 3 → both texts (ltb bits (length ends)) ≡ true → plain (text_of bytes ends bits) ≡ true)
    → Piece (operand_text texts bytes ends at code bits)
operand_piece texts bytes ends at code bits f =
    by_family texts bytes ends at code bits Piece
    (λ e. token (lettered_token 114 (decimal bits) (omega arith) (omega arith) (decimal_token bits)))
    (λ e. token (decimal_token bits))
    (λ e. by_text Piece texts bytes ends bits (λ h. text (text_of bytes ends bits) (plain_quoted (text_of bytes ends bits) (f e h))) (λ h. token (decimal_token bits)))
    (λ e. token (lettered_token 76 _ (omega arith) (omega arith) (signed_token _)))
    (λ e. token (signed_token _))
    (token (double_token bits))
