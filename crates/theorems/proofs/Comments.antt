-- The comment scan passes over the pieces of a listed line, quoted texts with two slashes too. Assumes nothing.
use mathlib.Core.Path.{◌≡◌, refl, ap, ◌∙◌}
use mathlib.Core.Bool.{Bool, true, false, not}
use mathlib.Core.List.{List, [], ◌∷◌, ◌++◌, append_assoc}
use Prim.Native.Nat.{ℕ, suc, ◌+◌}
use native.Mathlib.Omega.{arith}
use lib.Dec.{eqb}
use lib.ListN.{length, take, length-append}
use lib.Seq.{take-length}
use borrow.Author.Tests.{ne_eqb}
use Rattle.lists.specs.Choice.{both, within}
use Rattle.lists.specs.Scan.{all}
use Rattle.lists.proofs.Tests.{both_left, both_right, not-true}
use Rattle.lists.proofs.Scans.{all_weaken}
use Rattle.spec_strings.proofs.EscapeLaws.{printed, last_of}
use Rattle.spec_listing.proofs.LineShape.{behind_commas, joined, behind_name}
use Rattle.spec_listing.proofs.TokenBytes.{token_byte, token_no_quote, token_no_slash}
use Rattle.spec_listing.proofs.PieceBytes.{Piece}
use Rattle.spec_listing.proofs.PieceBytes.Piece.{token, text}
use Rattle.spec_listing.proofs.LinePieces.{Every}
use Rattle.spec_listing.proofs.LinePieces.Every.{nothing, more}
use Rattle.spec_hasm.specs.Comment.{is_quote, is_comment, outside, inside, strip_comment}
use Rattle.theorems.proofs.Trims.{last_from, last_from_lem}

-- a byte that neither opens a quoted text nor a comment
unfoldable pub quiet : ℕ → Bool
quiet b = both (not (eqb b 34)) (not (eqb b 47))

pub token_quiet : (b : ℕ) → token_byte b ≡ true → quiet b ≡ true
unfolding quiet
token_quiet b e = rw (token_no_quote b e, token_no_slash b e)

-- one byte outside of quotes
outside_byte : (before b : ℕ) (s : List ℕ) → quiet b ≡ true → outside before (b ∷ s) ≡ suc (outside b s)
unfolding outside is_quote is_comment quiet
outside_byte before b s e =
    rw (not-true (eqb b 34) (both_left (not (eqb b 34)) (not (eqb b 47)) e), not-true (eqb b 47) (both_right (not (eqb b 34)) (not (eqb b 47)) e))

-- nothing of a text is a comment, whatever stands before it
abbrev pub Kept : List ℕ → Type 0
Kept t = (before : ℕ) → outside before t ≡ length t

pub none_kept : Kept []
unfolding outside
none_kept before = refl

-- quiet bytes, in front of such a text and alone
pub quiet_kept : (s t : List ℕ) → all quiet s ≡ true → Kept t → Kept (s ++ t)
unfolding all
quiet_kept [] t e k before = k before
quiet_kept (b ∷ s) t e k before =
    outside_byte before b (s ++ t) (both_left (quiet b) (all quiet s) e) ∙ ap suc (quiet_kept s t (both_right (quiet b) (all quiet s) e) k b)

pub quiet_whole : (s : List ℕ) → all quiet s ≡ true → Kept s
unfolding all
quiet_whole [] e before = none_kept before
quiet_whole (b ∷ s) e before =
    outside_byte before b s (both_left (quiet b) (all quiet s) e) ∙ ap suc (quiet_whole s (both_right (quiet b) (all quiet s) e) b)

-- inside of quotes, up to the closing one
no_quote : (b : ℕ) → printed b ≡ true → eqb b 34 ≡ false
no_quote b e = not-true (eqb b 34) (both_right (within 32 126 b) (not (eqb b 34)) e)

inside_kept : (before : ℕ) (s t : List ℕ) → all printed s ≡ true → (last_from before s ≡ 92 → ⊥) → Kept t → inside before (s ++ 34 ∷ t) ≡ length s + suc (length t)
unfolding all inside is_quote last_from
inside_kept before [] t e n k = rw (ne_eqb before 92 n, k 34) (omega arith)
inside_kept before (b ∷ s) t e n k =
    rw (no_quote b (both_left (printed b) (all printed s) e))
    (omega (arith, inside_kept b s t (both_right (printed b) (all printed s) e) n k))

last_inner : (s : List ℕ) → (last_of s ≡ 92 → ⊥) → last_from 34 s ≡ 92 → ⊥
unfolding last_from
last_inner [] n e = omega arith
last_inner (b ∷ s) n e = n (last_from_lem b s ∙ e)

-- a quoted text behind a space
quoted_kept : (inner t : List ℕ) → all printed inner ≡ true → (last_of inner ≡ 92 → ⊥) → Kept t → outside 32 (34 ∷ inner ++ 34 ∷ t) ≡ suc (length inner + suc (length t))
unfolding outside is_quote
quoted_kept inner t e n k = ap suc (inside_kept 34 inner t e (last_inner inner n) k)

-- a piece behind a space
piece_kept : (p t : List ℕ) → Piece p → Kept t → outside 32 (p ++ t) ≡ length (p ++ t)
piece_kept p t (token h) k = quiet_kept p t (all_weaken token_byte quiet token_quiet p h.bytes) k 32
piece_kept p t (text s q) k =
    let e : p ++ t ≡ 34 ∷ q.inner ++ 34 ∷ t = rw (q.shape, append_assoc) in
    rw (e, length-append) (omega (arith, quoted_kept q.inner t q.bytes q.last k))

-- all pieces
pub commas_kept : (ps : List (List ℕ)) → Every Piece ps → Kept (behind_commas ps)
unfolding behind_commas quiet
commas_kept [] nothing before = none_kept before
commas_kept (p ∷ ps) (more h hs) before =
    outside_byte before 44 _ refl ∙ ap suc (outside_byte 44 32 _ refl ∙ ap suc (piece_kept p (behind_commas ps) h (commas_kept ps hs)))

pub operands_kept : (ps : List (List ℕ)) → Every Piece ps → Kept (behind_name ps)
unfolding behind_name joined quiet
operands_kept [] nothing before = none_kept before
operands_kept (p ∷ ps) (more h hs) before =
    outside_byte before 32 _ refl ∙ ap suc (piece_kept p (behind_commas ps) h (commas_kept ps hs))

-- a text without a comment
pub strip_kept : (s : List ℕ) → Kept s → strip_comment s ≡ s
strip_kept s k = ap (λ (n : ℕ). take n s) (k 0) ∙ take-length s
