-- A listed line holds bytes 32 to 126 only, whatever the strings hold, so that refusal 2 never meets one. Assumes nothing.
use mathlib.Core.Path.{◌≡◌, refl}
use mathlib.Core.Bool.{Bool, true}
use mathlib.Core.List.{List, [], ◌∷◌, ◌++◌}
use Prim.Native.Nat.{ℕ, ◌≤◌}
use native.Mathlib.Omega.{arith}
use lib.Dec.{eqb}
use lib.ListN.{get_or, drop}
use Rattle.lists.specs.Choice.{both, within}
use Rattle.lists.specs.Scan.{all}
use Rattle.lists.specs.Text.{text}
use Rattle.lists.proofs.Tests.{by_eqb, within_yes, within_least, within_most}
use Rattle.lists.proofs.Scans.{all_append, all_pick, all_weaken}
use Rattle.spec_numbers.specs.Print.{decimal, hex_lower4}
use Rattle.spec_sheet.specs.Types.{family_of}
use Rattle.spec_strings.proofs.EscapeByteLaws.{quoted_bytes}
use Rattle.spec_inputs.specs.Context.{Context, name_of}
use Rattle.spec_listing.specs.Options.{Options}
use Rattle.spec_listing.specs.Operand.{operand_text, operand_texts}
use Rattle.spec_listing.specs.Line.{offset_text, instruction_text}
use Rattle.spec_body.specs.Record.{offset_of, opcode_of, pairs_of}
use Rattle.spec_listing.specs.Labels.{among}
use Rattle.spec_listing.specs.Listing.{label_line, label_text, instruction_line, listed_text}
use Rattle.spec_listing.proofs.LineShape.{label_head, label_line_lem}
use Rattle.spec_listing.proofs.OperandShape.{string_text_lem, by_text}
use Rattle.spec_listing.proofs.TokenBytes.{token_byte, Token, token_least, token_most, decimal_token}
use Rattle.spec_listing.proofs.PieceBytes.{operand_token}
use Rattle.spec_listing.proofs.LineOffset.{offset_token}
use Rattle.spec_listing.proofs.LineNames.{ListedName, name_token}

-- a token
pub token_bytes : (s : List ℕ) → Token s → all (within 32 126) s ≡ true
token_bytes s t = all_weaken token_byte (within 32 126) (λ b e. within_yes 32 126 b (omega (arith, token_least b e)) (token_most b e)) s t.bytes

-- an offset
pub offset_bytes : (offsets : Bool) (at : ℕ) → all (within 32 126) (offset_text offsets at) ≡ true
unfolding offset_text all text
offset_bytes offsets at =
    all_pick (within 32 126) offsets (hex_lower4 at ++ text "  ") []
    (all_append (within 32 126) (hex_lower4 at) (text "  ") (token_bytes (hex_lower4 at) (offset_token at)) refl)
    refl

module _ (texts : Bool) (bytes ends : List ℕ) (at : ℕ) where
  -- an operand
  pub operand_bytes : (code bits : ℕ) → all (within 32 126) (operand_text texts bytes ends at code bits) ≡ true
  operand_bytes code bits =
      by_eqb (family_of code) 3
      (λ e. rw (string_text_lem texts bytes ends at code bits e)
      (by_text (λ s. all (within 32 126) s ≡ true) texts bytes ends bits (λ h. quoted_bytes _) (λ h. token_bytes _ (decimal_token bits))))
      (λ n. token_bytes _ (operand_token texts bytes ends at code bits n))

  -- all operands, behind any separator of such bytes
  pub operands_bytes : (separator : List ℕ) → all (within 32 126) separator ≡ true → (codes pairs : List ℕ)
      → all (within 32 126) (operand_texts texts bytes ends at separator codes pairs) ≡ true
  unfolding operand_texts all text
  operands_bytes separator e [] pairs = refl
  operands_bytes separator e (code ∷ codes) pairs =
      let rest = operand_texts texts bytes ends at (text ", ") codes (drop 2 pairs) in
      let first = operand_text texts bytes ends at code (get_or pairs 1 0) in
      all_pick (within 32 126) (eqb code 0) [] (separator ++ first ++ rest) refl
      (all_append (within 32 126) (separator ++ first) rest
      (all_append (within 32 126) separator first e (operand_bytes code (get_or pairs 1 0)))
      (operands_bytes (text ", ") refl codes (drop 2 pairs)))

-- an instruction, where its name is one
pub instruction_bytes : (offsets texts : Bool) (e : Context) (r : List ℕ) → ListedName (name_of e (opcode_of r)) → all (within 32 126) (instruction_text offsets texts e r) ≡ true
unfolding instruction_text all text
instruction_bytes offsets texts e r n =
    let name = name_of e (opcode_of r) in
    let operands = operand_texts texts e.bytes e.ends (offset_of r) (text " ") (get_or e.types (opcode_of r) []) (pairs_of r) in
    all_append (within 32 126) (offset_text offsets (offset_of r) ++ name) operands
    (all_append (within 32 126) (offset_text offsets (offset_of r)) name (offset_bytes offsets (offset_of r)) (token_bytes name (name_token name n)))
    (operands_bytes texts e.bytes e.ends (offset_of r) (text " ") refl (get_or e.types (opcode_of r) []) (pairs_of r))

-- a label
pub label_bytes : (at : ℕ) → all (within 32 126) (label_head at) ≡ true
unfolding all
label_bytes at = all_append (within 32 126) (decimal at) (58 ∷ []) (token_bytes (decimal at) (decimal_token at)) refl

-- whatever holds of a line end and of 32 to 126 holds of a whole listing
module _ (p : ℕ → Bool) (end : p 10 ≡ true) (shown : (b : ℕ) → 32 ≤ b → b ≤ 126 → p b ≡ true) (o : Options) (e : Context) (labels indent : List ℕ) (front : all (within 32 126) indent ≡ true) where
  widen : (s : List ℕ) → all (within 32 126) s ≡ true → all p s ≡ true
  widen s q = all_weaken (within 32 126) p (λ b w. shown b (within_least 32 126 b w) (within_most 32 126 b w)) s q

  line_end : all p (10 ∷ []) ≡ true
  unfolding all
  line_end = rw end

  label_every : (at : ℕ) → all p (label_text o labels indent at) ≡ true
  unfolding label_text all
  label_every at =
      all_pick p (both o.show_labels (among at labels)) (label_line indent at) []
      (rw (label_line_lem indent at)
      (all_append p (indent ++ label_head at) (10 ∷ []) (widen (indent ++ label_head at) (all_append (within 32 126) indent (label_head at) front (label_bytes at))) line_end))
      refl

  instruction_every : (r : List ℕ) → ListedName (name_of e (opcode_of r)) → all p (instruction_line o e indent r) ≡ true
  unfolding instruction_line
  instruction_every r n =
      let line = instruction_text o.show_offsets o.resolve_strings e r in
      widen (indent ++ line) (all_append (within 32 126) indent line front (instruction_bytes o.show_offsets o.resolve_strings e r n))

  pub lines_every : ((k : ℕ) → ListedName (name_of e k)) → (rs : List (List ℕ)) → all p (listed_text o e labels indent rs) ≡ true
  unfolding listed_text all text
  lines_every n [] = refl
  lines_every n (r ∷ rs) =
      let label = label_text o labels indent (offset_of r) in
      let line = instruction_line o e indent r in
      let rest = listed_text o e labels indent rs in
      all_append p (label ++ line ++ (10 ∷ [])) rest
      (all_append p (label ++ line) (10 ∷ [])
      (all_append p label line (label_every (offset_of r)) (instruction_every r (n (opcode_of r))))
      line_end)
      (lines_every n rs)
