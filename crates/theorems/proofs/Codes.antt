-- The instructions that are read from a listing are assembled to its body. Assumes nothing.
use mathlib.Core.Path.{◌≡◌, refl, ap, sym, ◌∙◌}
use mathlib.Core.Bool.{Bool, true, false}
use mathlib.Core.List.{List, [], ◌∷◌, ◌++◌}
use Prim.Native.Nat.{ℕ, suc, ◌+◌, ◌≤◌, ◌<◌}
use native.Mathlib.Omega.{arith}
use lib.Dec.{leb}
use lib.ListN.{length, get_or, take, drop, drop_of_length-le}
use lib.Seq.{take_all}
use borrow.Author.Tests.{eq-eqb}
use Rattle.lists.specs.Scan.{Bytes, all, part}
use Rattle.lists.specs.Found.{Found}
use Rattle.lists.specs.Found.Found.{found, missing}
use Rattle.spec_numbers.specs.Print.{decimal, hex_lower4}
use Rattle.spec_sheet.specs.Sheet.{Sheet, sheet_at, type_rows, info_rows}
use Rattle.spec_sheet.specs.Sheet.SheetRead.{sheet}
use Rattle.spec_sheet.proofs.NameTextLaws.{NameText}
use Rattle.spec_sheet.proofs.OwnNameLaws.{sheet_no_name}
use Rattle.spec_sheet.proofs.RowLaws.{info_rows_length}
use Rattle.spec_sheet.specs.Row.{length_of, count_of, total_width}
use Rattle.spec_body.specs.Record.{pairs, record_of}
use Rattle.spec_body.specs.Decode.{row_at}
use Rattle.spec_body.proofs.DecodeLaws.{Decoding}
use Rattle.spec_body.proofs.DecodeLaws.Decoding.{ended, more}
use Rattle.spec_body.proofs.RowLaws.{GoodRow, GoodRows, good_count}
use Rattle.spec_body.proofs.ReencodeLaws.{instruction_split}
use Rattle.spec_inputs.specs.Context.{Context, name_of}
use Rattle.spec_listing.specs.Labels.{among}
use Rattle.spec_inputs.specs.Inputs.{context_of}
use Rattle.spec_listing.proofs.LineShape.{behind_name, operand_pieces, label_head, pieces_count}
use Rattle.spec_listing.proofs.PieceBytes.{Piece}
use Rattle.spec_listing.proofs.LinePieces.{Every}
use Rattle.spec_inputs.proofs.NameLaws.{sheet_name_text, name_found}
use Rattle.spec_listing.proofs.LineNames.{name_token}
use Rattle.spec_listing.proofs.LineNames.ListedName.{named}
use Rattle.spec_listing.proofs.LineOffset.{offset_no_name}
use Rattle.spec_hasm.specs.Line.{Statement, opcode_named}
use Rattle.spec_hasm.specs.Assemble.{Assembled, LabelLine, Code, on_statement, program_from, codes_from, row_of, on_name, unless_bad_name, found_in, operands_from, behind, on_operands, bytes_from}
use Rattle.spec_hasm.specs.Assemble.Assembled.{assembled}
use Rattle.spec_hasm.specs.Assemble.Operands.{written}
use Rattle.theorems.specs.Premises.{good_operands, good_record, good_records}
use Rattle.theorems.proofs.Splits.{name_in, operands_in}
use Rattle.theorems.proofs.Statements.{label_statement, line_statement}
use Rattle.theorems.proofs.PremiseLaws.{record_named, record_operands, records_first, records_rest}
use Rattle.theorems.proofs.Instructions.{every_piece, operands_back}
use Rattle.theorems.proofs.ListedLines.{line_of, labelled_lines, listed_lines, line_shape}

-- the code of an instruction
abbrev pub code_of : ℕ → List LabelLine → List ℕ → List (List ℕ) → Code
code_of n waiting name ps = record { line = n; labels = waiting; name = name; operands = ps }

-- a label's line hands its label on
pub codes_label : (e : Context) (n : ℕ) (waiting : List LabelLine) (at : ℕ) (ls : List (List ℕ)) → codes_from e n waiting (label_head at ∷ ls) ≡ codes_from e (suc n) (record { line = n; text = 76 ∷ decimal at } ∷ waiting) ls
unfolding program_from on_statement
codes_label e n waiting at ls = ap (λ (x : Statement). (on_statement n waiting x (λ next. program_from e (suc n) next ls)).codes) (label_statement e at)

-- an instruction's line is its code
codes_line : (e : Context) (n : ℕ) (waiting : List LabelLine) (at : ℕ) → at < 65536 → opcode_named e (hex_lower4 at) ≡ missing → (name : List ℕ) → NameText name → (ps : List (List ℕ)) → Every Piece ps
    → (ls : List (List ℕ)) → codes_from e n waiting ((hex_lower4 at ++ 32 ∷ 32 ∷ (name ++ behind_name ps)) ∷ ls) ≡ code_of n waiting name ps ∷ codes_from e (suc n) [] ls
unfolding program_from on_statement
codes_line e n waiting at h m name t ps hs ls =
    let b = (name_token name (named t)).bytes in
    ap (λ (x : Statement). (on_statement n waiting x (λ next. program_from e (suc n) next ls)).codes) (line_statement e at h m name t ps hs)
    ∙ rw (name_in name b ps, operands_in name b ps hs) refl

-- an instruction whose name is found and whose operands are as many as its row has
names_more : (e : Context) (c : Code) (cs : List Code) (k : ℕ) (rest : Assembled) → opcode_named e c.name ≡ found k → length c.operands ≡ count_of (row_of e k)
    → unless_bad_name e (c ∷ cs) rest ≡ unless_bad_name e cs rest
unfolding unless_bad_name on_name
names_more e c cs k rest f h = rw (f, eq-eqb (length c.operands) (count_of (row_of e k)) h)

-- its bytes stand in front of those behind it
bytes_more : (e : Context) (labels : List ℕ → Found) (at : ℕ) (c : Code) (cs : List Code) (k : ℕ) (os bs : List ℕ) → opcode_named e c.name ≡ found k
    → operands_from e labels at 1 (row_of e k) c.operands ≡ written os → bytes_from e labels (at + length_of (row_of e k)) cs ≡ assembled bs
    → bytes_from e labels at (c ∷ cs) ≡ assembled (k ∷ os ++ bs)
unfolding bytes_from on_operands behind found_in
bytes_more e labels at c cs k os bs f h g = rw (f, h, g)

-- codes that are assembled to the bytes of s from `at` on, whatever the labels
pub record Back (e : Context) (s : List ℕ) (at : ℕ) (cs : List Code) : Type 0 where
  pub names : (rest : Assembled) → unless_bad_name e cs rest ≡ rest
  pub bytes : (labels : List ℕ → Found) → bytes_from e labels at cs ≡ assembled (drop at s)

-- a body under a sheet that was read and any string table
module _ (sheetText : List ℕ) (sh : Sheet) (c : ℕ) (read : sheet_at sheetText 0 ≡ sheet sh c) (bytes ends : List ℕ) (s : List ℕ) (b : Bytes s) (short : length s ≤ 65536) where
  abbrev context : Context
  context = context_of sheetText sh.opcodes bytes ends

  all_rows : take 256 (info_rows sh.opcodes) ≡ info_rows sh.opcodes
  all_rows = take_all 256 (info_rows sh.opcodes) (omega (arith, info_rows_length sh.opcodes))

  offset_missed : (at : ℕ) → opcode_named context (hex_lower4 at) ≡ missing
  offset_missed at = rw all_rows at (sheet_no_name sheetText 0 sh c read (hex_lower4 at) 256 (offset_no_name at))

  own_opcode : (k : ℕ) → k < 256 → 0 < get_or (get_or (info_rows sh.opcodes) k []) 3 0 → opcode_named context (name_of context k) ≡ found k
  own_opcode k h l = rw all_rows at (name_found sheetText 0 sh c read bytes ends k 256 h l)

  module _ (last : ℕ) (small : last ≤ 255) (rows : GoodRows (type_rows sh.opcodes)) (places : List ℕ) (low : all (λ x. leb x 65536) places ≡ true) where
    -- an instruction of the body
    module _ (at : ℕ) (inside : at < length s) (known : get_or s at 0 ≤ last) (whole : at + length_of (row_at (type_rows sh.opcodes) s at) ≤ length s)
        (good : good_record context places (record_of (row_at (type_rows sh.opcodes) s at) s at) ≡ true) where
      abbrev row : List ℕ
      row = row_at (type_rows sh.opcodes) s at

      abbrev its : List ℕ
      its = record_of row s at

      abbrev name : List ℕ
      name = name_of context (get_or s at 0)

      abbrev pieces : List (List ℕ)
      pieces = operand_pieces true bytes ends at row (pairs row s (at + 1))

      good_row : GoodRow row
      good_row = rows (get_or s at 0) (omega arith)

      has_name : 0 < get_or (get_or (info_rows sh.opcodes) (get_or s at 0) []) 3 0
      has_name = record_named context places its good

      good_operands_lem : good_operands context places at row (pairs row s (at + 1)) ≡ true
      good_operands_lem = record_operands context places its good

      are_pieces : Every Piece pieces
      are_pieces = every_piece context places low s b at (omega arith) row good_row good_operands_lem

      -- its line is its code
      pub its_code : (n : ℕ) (waiting : List LabelLine) (ls : List (List ℕ)) → codes_from context n waiting (line_of context its ∷ ls) ≡ code_of n waiting name pieces ∷ codes_from context (suc n) [] ls
      its_code n waiting ls =
          ap (λ (l : List ℕ). codes_from context n waiting (l ∷ ls)) (line_shape context its)
          ∙ codes_line context n waiting at (omega arith) (offset_missed at) name (sheet_name_text sheetText 0 sh c read bytes ends (get_or s at 0) has_name) pieces are_pieces ls

      its_opcode : opcode_named context name ≡ found (get_or s at 0)
      its_opcode = own_opcode (get_or s at 0) (omega arith) has_name

      -- its code is assembled to its bytes
      code_back : (n : ℕ) (waiting : List LabelLine) (cs : List Code) → Back context s (at + length_of row) cs → Back context s at (code_of n waiting name pieces ∷ cs)
      code_back n waiting cs k = record {
        names = λ rest. names_more context (code_of n waiting name pieces) cs (get_or s at 0) rest its_opcode (pieces_count true bytes ends at row good_row (pairs row s (at + 1)) ∙ sym (good_count good_row)) ∙ k.names rest;
        bytes = λ labels. bytes_more context labels at (code_of n waiting name pieces) cs (get_or s at 0) (part s (at + 1) (total_width row)) (drop (at + length_of row) s) its_opcode (operands_back context places low s b at (omega arith) row good_row good_operands_lem labels (omega arith)) (k.bytes labels)
            ∙ ap assembled (sym (instruction_split s b at (total_width row) inside));
      }

      line_back : (ls : List (List ℕ)) → ((m : ℕ) (w : List LabelLine) → Back context s (at + length_of row) (codes_from context m w ls)) → (n : ℕ) (waiting : List LabelLine) → Back context s at (codes_from context n waiting (line_of context its ∷ ls))
      line_back ls k n waiting = rw (its_code n waiting ls) (code_back n waiting (codes_from context (suc n) [] ls) (k (suc n) []))

      -- behind a label or not
      head_back : (t : Bool) (ls : List (List ℕ)) → ((m : ℕ) (w : List LabelLine) → Back context s (at + length_of row) (codes_from context m w ls)) → (n : ℕ) (waiting : List LabelLine) → Back context s at (codes_from context n waiting (labelled_lines t at (line_of context its ∷ ls)))
      unfolding labelled_lines
      head_back true ls k n waiting = rw (codes_label context n waiting at (line_of context its ∷ ls)) (line_back ls k (suc n) (record { line = n; text = 76 ∷ decimal at } ∷ waiting))
      head_back false ls k n waiting = line_back ls k n waiting

    none_back : (at n : ℕ) (waiting : List LabelLine) → length s ≤ at → Back context s at (codes_from context n waiting [])
    unfolding program_from unless_bad_name bytes_from
    none_back at n waiting h = record { names = λ rest. refl; bytes = λ labels. ap assembled (sym (drop_of_length-le s h)) }

    -- all that stand there
    pub codes_back : (labels : List ℕ) {at : ℕ} {rs : List (List ℕ)} → Decoding (type_rows sh.opcodes) last s at rs → good_records context places rs ≡ true
        → (n : ℕ) (waiting : List LabelLine) → Back context s at (codes_from context n waiting (listed_lines context labels rs))
    unfolding listed_lines
    codes_back labels {at} (ended h) g n waiting = none_back at n waiting h
    codes_back labels {at} (more {rs = rs} h l k d) g n waiting =
        let r = record_of (row_at (type_rows sh.opcodes) s at) s at in
        head_back at h l k (records_first context places r rs g) (among at labels) (listed_lines context labels rs) (λ m w. codes_back labels d (records_rest context places r rs g) m w) n waiting
