-- The operands of a listed line are its pieces. Assumes nothing.
use mathlib.Core.Path.{◌≡◌, refl, ap, ◌∙◌}
use mathlib.Core.Bool.{true, false, not}
use mathlib.Core.List.{List, [], ◌∷◌, ◌++◌, append_assoc, append-nil}
use Prim.Native.Nat.{ℕ, ◌<◌}
use native.Mathlib.Omega.{arith}
use lib.Dec.{eqb}
use lib.ListN.{length, get_or, get_or-append}
use lib.Seq.{take-append_seam, drop-append_seam}
use borrow.Author.Tests.{ne_eqb}
use Rattle.lists.specs.Choice.{within}
use Rattle.lists.specs.Scan.{all, run}
use Rattle.lists.proofs.Tests.{both_left, both_right, not-true}
use Rattle.lists.proofs.Scans.{all_weaken, run_stops, run_all}
use Rattle.spec_strings.proofs.EscapeLaws.{printed, last_of}
use Rattle.spec_listing.proofs.LineShape.{behind_commas, joined, behind_name}
use Rattle.spec_listing.proofs.TokenBytes.{token_byte, token_least, token_no_quote, token_no_comma, token_first, token_last}
use Rattle.spec_listing.proofs.PieceBytes.{quoted_first, quoted_last, quoted_length, Piece}
use Rattle.spec_listing.proofs.PieceBytes.Piece.{token, text}
use Rattle.spec_listing.proofs.LinePieces.{Every}
use Rattle.spec_listing.proofs.LinePieces.Every.{nothing, more}
use Rattle.spec_hasm.specs.Text.{onto, is_white, is_solid, trim_start, solid_length, trim}
use Rattle.spec_hasm.specs.Split.{split_outside, split_inside, tokens_from, tokens, name_length, instruction_name, instruction_operands}
use Rattle.theorems.proofs.Trims.{solid, solid_none, white_space, start_kept, start_space, trim_kept, trim_space}

-- one byte in front, outside of quotes and inside
split_byte : (b : ℕ) (s q : List ℕ) (qs : List (List ℕ)) → eqb b 34 ≡ false → eqb b 44 ≡ false → split_outside s ≡ q ∷ qs → split_outside (b ∷ s) ≡ (b ∷ q) ∷ qs
unfolding split_outside onto
split_byte b s q qs n m e = rw (n, m, e)

split_open : (s q : List ℕ) (qs : List (List ℕ)) → split_inside s ≡ q ∷ qs → split_outside (34 ∷ s) ≡ (34 ∷ q) ∷ qs
unfolding split_outside onto
split_open s q qs e = rw e

split_close : (s q : List ℕ) (qs : List (List ℕ)) → split_outside s ≡ q ∷ qs → split_inside (34 ∷ s) ≡ (34 ∷ q) ∷ qs
unfolding split_inside onto
split_close s q qs e = rw e

split_held : (b : ℕ) (s q : List ℕ) (qs : List (List ℕ)) → eqb b 34 ≡ false → split_inside s ≡ q ∷ qs → split_inside (b ∷ s) ≡ (b ∷ q) ∷ qs
unfolding split_inside onto
split_held b s q qs n e = rw (n, e)

split_comma : (s : List ℕ) → split_outside (44 ∷ s) ≡ [] ∷ split_outside s
unfolding split_outside
split_comma s = refl

split_none : split_outside [] ≡ [] ∷ []
unfolding split_outside
split_none = refl

module _ (t q : List ℕ) (qs : List (List ℕ)) (e : split_outside t ≡ q ∷ qs) where
  -- a token in front
  split_token : (p : List ℕ) → all token_byte p ≡ true → split_outside (p ++ t) ≡ (p ++ q) ∷ qs
  unfolding all
  split_token [] h = e
  split_token (b ∷ p) h =
      let k = both_left (token_byte b) (all token_byte p) h in
      split_byte b (p ++ t) (p ++ q) qs (token_no_quote b k) (token_no_comma b k) (split_token p (both_right (token_byte b) (all token_byte p) h))

  -- what stands inside of quotes, with the closing one
  split_inner : (s : List ℕ) → all printed s ≡ true → split_inside (s ++ 34 ∷ t) ≡ (s ++ 34 ∷ q) ∷ qs
  unfolding all
  split_inner [] h = split_close t q qs e
  split_inner (b ∷ s) h =
      let k = both_left (printed b) (all printed s) h in
      split_held b (s ++ 34 ∷ t) (s ++ 34 ∷ q) qs (not-true (eqb b 34) (both_right (within 32 126 b) (not (eqb b 34)) k)) (split_inner s (both_right (printed b) (all printed s) h))

  -- a piece in front
  split_piece : (p : List ℕ) → Piece p → split_outside (p ++ t) ≡ (p ++ q) ∷ qs
  split_piece p (token h) = split_token p h.bytes
  split_piece p (text s h) =
      let a : (u : List ℕ) → p ++ u ≡ 34 ∷ h.inner ++ 34 ∷ u = λ u. rw (h.shape, append_assoc) in
      rw (a t, a q) (split_open _ _ qs (split_inner h.inner h.bytes))

-- the parts that stand behind commas: pieces, each with a space in front
unfoldable spaced : List (List ℕ) → List (List ℕ)
spaced [] = []
spaced (p ∷ ps) = (32 ∷ p) ∷ spaced ps

split_commas : (ps : List (List ℕ)) → Every Piece ps → split_outside (behind_commas ps) ≡ [] ∷ spaced ps
unfolding behind_commas spaced
split_commas [] nothing = split_none
split_commas (p ∷ ps) (more h hs) =
    split_comma (32 ∷ p ++ behind_commas ps)
    ∙ ap (λ (l : List (List ℕ)). [] ∷ l) (split_byte 32 (p ++ behind_commas ps) p (spaced ps) refl refl (split_piece (behind_commas ps) [] (spaced ps) (split_commas ps hs) p h ∙ ap (λ (l : List ℕ). l ∷ spaced ps) (append-nil p)))

split_joined : (p : List ℕ) (ps : List (List ℕ)) → Piece p → Every Piece ps → split_outside (p ++ behind_commas ps) ≡ p ∷ spaced ps
split_joined p ps h hs =
    split_piece (behind_commas ps) [] (spaced ps) (split_commas ps hs) p h ∙ ap (λ (l : List ℕ). l ∷ spaced ps) (append-nil p)

-- a piece neither opens nor ends with white space, and is not empty
pub piece_first : (p : List ℕ) → Piece p → is_white (get_or p 0 0) ≡ false
piece_first p (token h) = solid (get_or p 0 0) (token_least (get_or p 0 0) (token_first p h))
piece_first p (text s h) = rw (quoted_first s p h) (solid 34 (omega arith))

pub piece_last : (p : List ℕ) → Piece p → is_white (last_of p) ≡ false
piece_last p (token h) = solid (last_of p) (token_least (last_of p) (token_last p h))
piece_last p (text s h) = rw (quoted_last s p h) (solid 34 (omega arith))

pub piece_some : (p : List ℕ) → Piece p → 0 < length p
piece_some p (token h) = h.some
piece_some p (text s h) = omega (arith, quoted_length s p h)

trim_piece : (p : List ℕ) → Piece p → trim p ≡ p
trim_piece p h = trim_kept p (piece_first p h) (piece_last p h)

trim_spaced : (p : List ℕ) → Piece p → trim (32 ∷ p) ≡ p
trim_spaced p h = trim_space p (piece_first p h) (piece_last p h)

-- so each part is its piece again
tokens_from_lem : (part p : List ℕ) (ps : List (List ℕ)) → trim part ≡ p → 0 < length p → Every Piece ps → tokens_from part (spaced ps) ≡ p ∷ ps
unfolding tokens_from spaced
tokens_from_lem part p [] e h nothing = rw (e, ne_eqb (length p) 0 (λ z. omega arith))
tokens_from_lem part p (q ∷ ps) e h (more k hs) = rw (e, tokens_from_lem (32 ∷ q) q ps (trim_spaced q k) (piece_some q k) hs)

tokens_empty : tokens ([] ∷ []) ≡ []
unfolding tokens tokens_from trim run solid_length
tokens_empty = refl

tokens_joined : (ps : List (List ℕ)) → Every Piece ps → tokens (split_outside (joined ps)) ≡ ps
unfolding joined tokens
tokens_joined [] nothing = ap tokens split_none ∙ tokens_empty
tokens_joined (p ∷ ps) (more h hs) = rw (split_joined p ps h hs) (tokens_from_lem p p ps (trim_piece p h) (piece_some p h) hs)

-- a name, with the pieces behind it
module _ (name : List ℕ) (h : all token_byte name ≡ true) where
  name_solid : all is_solid name ≡ true
  name_solid = all_weaken token_byte is_solid (λ b e. ap not (solid b (token_least b e))) name h

  name_length_lem : (ps : List (List ℕ)) → name_length (name ++ behind_name ps) ≡ length name
  unfolding behind_name
  name_length_lem [] = rw append-nil (run_all is_solid name name_solid)
  name_length_lem (p ∷ ps) = run_stops is_solid name 32 (joined (p ∷ ps)) name_solid (ap not white_space)

  pub name_in : (ps : List (List ℕ)) → instruction_name (name ++ behind_name ps) ≡ name
  unfolding instruction_name
  name_in ps = rw (name_length_lem ps) (take-append_seam name (behind_name ps))

  behind_start : (ps : List (List ℕ)) → Every Piece ps → trim_start (behind_name ps) ≡ joined ps
  unfolding behind_name joined
  behind_start [] nothing = start_kept [] (solid_none)
  behind_start (p ∷ ps) (more k ks) =
      start_space (p ++ behind_commas ps)
      ∙ start_kept (p ++ behind_commas ps) (ap is_white (get_or-append p (behind_commas ps) 0 0 (piece_some p k)) ∙ piece_first p k)

  pub operands_in : (ps : List (List ℕ)) → Every Piece ps → instruction_operands (name ++ behind_name ps) ≡ ps
  unfolding instruction_operands
  operands_in ps hs = rw (name_length_lem ps, drop-append_seam name (behind_name ps), behind_start ps hs) (tokens_joined ps hs)
