-- Assembling a text is encoding the instructions that it is parsed to. Assumes nothing.
use mathlib.Core.Path.{◌≡◌, refl, ap, sym, ◌∙◌}
use mathlib.Core.Bool.{true}
use mathlib.Core.List.{List, [], ◌∷◌, ◌++◌}
use Prim.Native.Nat.{ℕ, zero, suc, ◌+◌, ◌-◌, ◌*◌, ◌^◌, ◌≤◌, ◌<◌}
use native.Mathlib.Nat.{zero-add}
use native.Mathlib.Omega.{arith}
use lib.Dec.{leb}
use lib.ListN.{length, get_or, take, drop, replicate, length-append, length-replicate}
use lib.Seq.{take_all}
use borrow.Author.Tests.{ne_eqb, le-leb}
use Rattle.lists.specs.Found.{Found}
use Rattle.lists.specs.Found.Found.{found, missing}
use Rattle.lists.proofs.Tests.{both_yes}
use Rattle.answers.specs.declared.refusal.OperandFault.{OperandFault}
use Rattle.answers.specs.declared.refusal.Refusal.{Refusal}
use Rattle.answers.specs.declared.refusal.Refusal.TheVariants.{BadOperand}
use Rattle.spec_numbers.specs.LittleEndian.{le_bytes}
use Rattle.spec_numbers.proofs.ByteLaws.{le_bytes_le, length_le_bytes, le_bytes_bytes, le_bound}
use Rattle.spec_sheet.specs.Types.{width_of, kind_of}
use Rattle.spec_sheet.specs.Row.{length_of, count_of}
use Rattle.spec_sheet.specs.Sheet.{Sheet, sheet_of, find_name, type_rows, info_rows, largest}
use Rattle.spec_sheet.specs.Sheet.SheetRead.{sheet}
use Rattle.spec_sheet.proofs.OpLaws.{TypeCodes}
use Rattle.spec_sheet.proofs.OpLaws.TypeCodes.{none, one}
use Rattle.spec_sheet.proofs.SheetLaws.{whole_sheet}
use Rattle.spec_sheet.proofs.RowLaws.{sheet_named_below}
use Rattle.spec_sheet.proofs.OwnNameLaws.{found_size}
use Rattle.spec_inputs.specs.Context.{Context}
use Rattle.spec_inputs.specs.Inputs.{context_of}
use Rattle.spec_body.specs.Record.{join}
use Rattle.spec_body.specs.Encode.{good_pairs, good_shape, prepend_bytes, encode_operands}
use Rattle.spec_body.specs.Encode.Operands.{bytes}
use Rattle.spec_body.proofs.OperandLaws.{typed_pair, kept}
use Rattle.spec_body.proofs.EncodeLaws.{OneEncoded, Encoding, pairs_used, operands_more, operands_none, one_more, records_encoded}
use Rattle.spec_body.proofs.EncodeLaws.Encoding.{no_record}
use Rattle.spec_body.proofs.RowLaws.{GoodRow, GoodRows, good_count}
use Rattle.spec_body.proofs.SheetTables.{good_sheet}
use Rattle.spec_hasm.specs.Token.{Value, token_value}
use Rattle.spec_hasm.specs.Token.Value.{value, refused}
use Rattle.spec_hasm.specs.Assemble as definition
use Rattle.spec_hasm.specs.Assemble.{Assembled, Code, row_of, opcode_in, found_in, size_in, prepend, on_value, operands_from, behind, on_operands, bytes_from}
use Rattle.spec_hasm.specs.Assemble.Assembled.{assembled, not_assembled}
use Rattle.spec_hasm.specs.Assemble.Operands.{written, refused_operand}
use Rattle.theorems.specs.Instructions.{Pairs, with_pair, low_bits, on_pair, pairs_from, Parsed, with_record, on_pairs, records_from, as_assembled, then_encoded}
use Rattle.theorems.specs.Instructions.Pairs.{pairs, bad_operand}
use Rattle.theorems.specs.Instructions.Parsed.{parsed, not_parsed}

-- the bytes of a value's low bits are the value's
low_bytes : (code bits : ℕ) → le_bytes (width_of code) (low_bits code bits) ≡ le_bytes (width_of code) bits
low_bytes code bits =
    ap (λ (w : ℕ). le_bytes w (low_bits code bits)) (sym (length_le_bytes (width_of code) bits)) ∙ le_bytes_le (le_bytes (width_of code) bits) (le_bytes_bytes (width_of code) bits)

low_below : (code bits : ℕ) → low_bits code bits < 256 ^ width_of code
low_below code bits =
    let whole : take (width_of code) (le_bytes (width_of code) bits) ≡ le_bytes (width_of code) bits = take_all (width_of code) (le_bytes (width_of code) bits) (omega (arith, length_le_bytes (width_of code) bits)) in
    rw whole at (le_bound (width_of code) (le_bytes (width_of code) bits) (le_bytes_bytes (width_of code) bits))

-- the operands of a row, as bytes and as pairs: the pairs are encoded to the bytes, or both are refused alike
data Alike (codes : List ℕ) (unused : ℕ) (x : definition.Operands) (y : Pairs) : Type 0 where
  alike : (bs ps : List ℕ) → x ≡ written bs → y ≡ pairs ps → length ps ≡ 2 * (length codes + unused) → good_pairs (length codes + unused) (length codes) ps ≡ true
      → ((k : ℕ) → encode_operands (codes ++ replicate unused 0) ps k ≡ bytes bs) → Alike codes unused x y
  faulty : (f : OperandFault) (q : ℕ) → x ≡ refused_operand f q → y ≡ bad_operand f q → Alike codes unused x y

module _ (e : Context) (labels : List ℕ → Found) (at : ℕ) where
  no_bytes : (m n : ℕ) (ts : List (List ℕ)) → operands_from e labels at n (replicate m 0) ts ≡ written []
  unfolding operands_from
  no_bytes zero n ts = refl
  no_bytes (suc m) n ts = refl

  no_pairs : (m n : ℕ) (ts : List (List ℕ)) → pairs_from e labels at n (replicate m 0) ts ≡ pairs (replicate (2 * m) 0)
  unfolding pairs_from with_pair
  no_pairs zero n ts = refl
  no_pairs (suc m) n ts = let two : 2 * suc m ≡ suc (suc (2 * m)) = omega arith in rw (no_pairs m (suc n) (drop 1 ts), two) refl

  zeros_good : (m : ℕ) → good_pairs m 0 (replicate (2 * m) 0) ≡ true
  unfolding good_pairs
  zeros_good zero = refl
  zeros_good (suc m) = let two : 2 * suc m ≡ suc (suc (2 * m)) = omega arith in rw two (zeros_good m)

  one_alike : (c : ℕ) (cs : List ℕ) (m n : ℕ) → 0 < c → c ≤ 12 → (v : Value) (x : definition.Operands) (y : Pairs) → Alike cs m x y
      → Alike (c ∷ cs) m (on_value (width_of c) n v x) (on_pair c n v y)
  unfolding on_value on_pair prepend with_pair prepend_bytes
  one_alike c cs m n l k (refused f) x y a = faulty f n refl refl
  one_alike c cs m n l k (value bits) x y (faulty f q p r) = faulty f q (rw p refl) (rw r refl)
  one_alike c cs m n l k (value bits) x y (alike bs ps p r s g z) =
      let more : suc (length cs) + m ≡ suc (length cs + m) = omega arith in
      alike (le_bytes (width_of c) bits ++ bs) (kind_of c ∷ low_bits c bits ∷ ps) (rw p refl) (rw r refl) (omega (arith, s))
      (ap (λ (j : ℕ). good_pairs j (suc (length cs)) (kind_of c ∷ low_bits c bits ∷ ps)) more
      ∙ pairs_used (length cs + m) (kind_of c ∷ low_bits c bits ∷ ps) (length cs) ∙ both_yes _ _ (typed_pair c l k (low_bits c bits) (low_below c bits)) g)
      (λ j. operands_more (cs ++ replicate m 0) (kind_of c ∷ low_bits c bits ∷ ps) j c (low_bits c bits) l (kept c l k (low_bits c bits) (low_below c bits)) ∙ rw (low_bytes c bits, z (j + 1)) refl)

  operands_alike : {cs : List ℕ} → TypeCodes cs → (m n : ℕ) (ts : List (List ℕ)) → Alike cs m (operands_from e labels at n (cs ++ replicate m 0) ts) (pairs_from e labels at n (cs ++ replicate m 0) ts)
  unfolding operands_from pairs_from
  operands_alike none m n ts = alike [] (replicate (2 * m) 0) (no_bytes m n ts) (no_pairs m n ts) (rw length-replicate (omega arith)) (rw (zero-add m) (zeros_good m)) (λ k. operands_none m _ k)
  operands_alike (one {c} {cs} l k t) m n ts =
      let some = ne_eqb c 0 (λ z. omega (arith, z, l)) in
      rw some (one_alike c cs m n l k (token_value e.bytes e.ends labels at c (get_or ts 0 [])) _ _ (operands_alike t m (suc n) (drop 1 ts)))

-- instructions: their records are encoded to their bytes, or both are refused alike
data Same (types : List (List ℕ)) (last : ℕ) (x : Assembled) (y : Parsed) : Type 0 where
  both_good : (bs : List ℕ) (rs : List (List ℕ)) → x ≡ assembled bs → y ≡ parsed rs → Encoding types last (join rs) bs → Same types last x y
  both_bad : (r : Refusal) → x ≡ not_assembled r → y ≡ not_parsed r → Same types last x y

module _ (e : Context) (labels : List ℕ → Found) (last : ℕ) (rows : GoodRows e.types) (small : last ≤ 255) where
  -- one instruction before others
  module _ (at opcode line : ℕ) (known : opcode ≤ last) where
    abbrev row : List ℕ
    row = row_of e opcode

    abbrev head : List ℕ
    head = at ∷ opcode ∷ length_of row ∷ count_of row ∷ []

    one_encoded : (g : GoodRow row) (bs ps : List ℕ) → length ps ≡ 2 * (length g.codes + (8 - length g.codes)) → good_pairs (length g.codes + (8 - length g.codes)) (length g.codes) ps ≡ true
        → ((k : ℕ) → encode_operands (g.codes ++ replicate (8 - length g.codes) 0) ps k ≡ bytes bs) → OneEncoded e.types last (head ++ ps) bs
    unfolding good_shape
    one_encoded g bs ps s p z =
        let eight : length g.codes + (8 - length g.codes) ≡ 8 = omega (arith, g.few) in
        let few : leb (count_of row) 8 ≡ true = le-leb (count_of row) 8 (omega (arith, good_count g, g.few)) in
        let pairs_good : good_pairs 8 (count_of row) ps ≡ true = rw (good_count g) (rw eight at p) in
        record { shape = both_yes _ _ few pairs_good; known = known; counted = refl; operands = ap (λ (r : List ℕ). encode_operands r ps 1) g.is_row ∙ z 1 }

    instruction_same : (g : GoodRow row) (x : definition.Operands) (y : Pairs) → Alike g.codes (8 - length g.codes) x y → (rest : Assembled) (rest' : Parsed) → Same e.types last rest rest'
        → Same e.types last (on_operands opcode line x rest) (on_pairs head line y rest')
    unfolding on_operands on_pairs behind with_record join
    instruction_same g x y (faulty f q p r) rest rest' d = both_bad (BadOperand f line q) (rw p refl) (rw r refl)
    instruction_same g x y (alike bs ps p r s w z) rest rest' (both_bad f u v) = both_bad f (rw (p, u) refl) (rw (r, v) refl)
    instruction_same g x y (alike bs ps p r s w z) rest rest' (both_good ms rs u v d) =
        let twenty : length (head ++ ps) ≡ 20 = omega (arith, s, g.few, length-append head ps) in
        both_good (opcode ∷ bs ++ ms) ((head ++ ps) ∷ rs) (rw (p, u) refl) (rw (r, v) refl) (one_more e.types last twenty (one_encoded g bs ps s w z) d)

  module _ (opcodes : (c : Code) → opcode_in e c ≤ last) where
    instructions_same : (at : ℕ) (cs : List Code) → Same e.types last (bytes_from e labels at cs) (records_from e labels at cs)
    unfolding bytes_from records_from join
    instructions_same at [] = both_good [] [] refl refl (no_record refl)
    instructions_same at (c ∷ cs) =
        let g : GoodRow (row_of e (opcode_in e c)) = rows (opcode_in e c) (omega (arith, opcodes c)) in
        let a = operands_alike e labels at g.types (8 - length g.codes) 1 c.operands in
        let a' : Alike g.codes (8 - length g.codes) (operands_from e labels at 1 (row_of e (opcode_in e c)) c.operands) (pairs_from e labels at 1 (row_of e (opcode_in e c)) c.operands) = rw (sym g.is_row) at a in
        instruction_same at (opcode_in e c) c.line (opcodes c) g _ _ a' _ _ (instructions_same (at + size_in e c) cs)

    -- so assembling them is parsing, then encoding
    parsed_encoded : (x : Assembled) (y : Parsed) → Same e.types last x y → x ≡ then_encoded e.types last y
    unfolding then_encoded as_assembled
    parsed_encoded x y (both_good bs rs p q d) = rw (p, q, records_encoded e.types last (join rs) d) refl
    parsed_encoded x y (both_bad r p q) = rw (p, q) refl

-- under a sheet that was read: "The reference is `parse_hasm_function`, then `encode_function_body`"
module _ (text : List ℕ) (sh : Sheet) (c : ℕ) (read : sheet_of text ≡ sheet sh c) (bytes_of ends : List ℕ) where
  abbrev context : Context
  context = context_of text sh.opcodes bytes_of ends

  opcode_known : (k : Code) → opcode_in context k ≤ largest sh.opcodes
  unfolding found_in
  opcode_known k = by_name (find_name text k.name 0 (info_rows sh.opcodes)) refl
    where
      by_name : (f : Found) → find_name text k.name 0 (info_rows sh.opcodes) ≡ f → found_in f ≤ largest sh.opcodes
      by_name missing q = omega arith
      by_name (found j) q =
          let whole = whole_sheet text sh c read in
          let rows = info_rows sh.opcodes in
          let all : find_name text k.name 0 (take (length rows) rows) ≡ found j = rw (take_all (length rows) rows (omega arith)) q in
          omega (arith, sheet_named_below text 0 sh c whole j (found_size text k.name (length rows) rows j all))

  pub assemble_encode : (labels : List ℕ → Found) (at : ℕ) (cs : List Code) → bytes_from context labels at cs ≡ then_encoded (type_rows sh.opcodes) (largest sh.opcodes) (records_from context labels at cs)
  assemble_encode labels at cs =
      let g = good_sheet text sh c read in
      parsed_encoded context labels (largest sh.opcodes) g.rows g.small opcode_known _ _ (instructions_same context labels (largest sh.opcodes) g.rows g.small opcode_known at cs)
