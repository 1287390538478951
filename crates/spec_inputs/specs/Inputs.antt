-- The refusals of a string table and a sheet, in document 01's order: 18, 17, 1. Assumes nothing.
use Rattle.std.specs.Prelude.{List, ℕ}
use Rattle.lists.specs.Choice.{pick}
use Rattle.lists.specs.Found.{Found}
use Rattle.lists.specs.Found.Found.{found, missing}
use Rattle.answers.specs.Outcome.{Outcome}
use Rattle.answers.specs.Outcome.Outcome.{refused_with}
use Rattle.answers.specs.declared.refusal.Refusal.TheVariants.{Malformed, BadString, TooLarge}
use Rattle.spec_sheet.specs.Line.{Op}
use Rattle.spec_sheet.specs.Sheet.{SheetRead, sheet_of, type_rows, info_rows, largest}
use Rattle.spec_sheet.specs.Sheet.SheetRead.{sheet, malformed}
use Rattle.spec_strings.specs.Table.{is_too_large, fault}
use Rattle.spec_inputs.specs.Context.{Context, context_from}

-- 17 and the entry, else what follows
unfoldable pub unless_fault : Found → Outcome → Outcome
unless_fault (found id) rest = refused_with (BadString id)
unless_fault missing rest = rest

-- under a string table: 18 of its strings and bytes, then 17 by entry
unfoldable pub under_table : List ℕ → List ℕ → Outcome → Outcome
under_table bytes ends rest = pick (is_too_large bytes ends) (refused_with TooLarge) (unless_fault (fault bytes ends) rest)

-- under a sheet that was read, with its rows of type codes and its largest opcode; else 1 and its line
unfoldable pub under_sheet : SheetRead → (List (List ℕ) → ℕ → Outcome) → Outcome
under_sheet (sheet sh at) then = then (type_rows sh.opcodes) (largest sh.opcodes)
under_sheet (malformed line) then = refused_with (Malformed line)

-- the context of a sheet that was read
abbrev pub context_of : List ℕ → List Op → List ℕ → List ℕ → Context
context_of text os bytes ends = context_from text (type_rows os) (info_rows os) bytes ends

-- under the context of a sheet that was read, with its largest opcode; else 1 and its line
unfoldable pub under_context : SheetRead → List ℕ → List ℕ → List ℕ → (Context → ℕ → Outcome) → Outcome
under_context (sheet sh at) text bytes ends then = then (context_of text sh.opcodes bytes ends) (largest sh.opcodes)
under_context (malformed line) text bytes ends then = refused_with (Malformed line)

-- the inputs' refusals behind the body's: 18, 17, 1
unfoldable pub under_inputs : List ℕ → List ℕ → List ℕ → (Context → ℕ → Outcome) → Outcome
under_inputs text bytes ends then = under_table bytes ends (under_context (sheet_of text) text bytes ends then)
