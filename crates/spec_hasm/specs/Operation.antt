-- Assembling as an operation, with its refusals in document 01's order. Assumes nothing.
use Rattle.std.specs.Prelude.{List, [], ◌∷◌, ℕ, ltb, length}
use Rattle.lists.specs.Choice.{pick}
use Rattle.answers.specs.Outcome.{Outcome, measured}
use Rattle.limits.specs.Limits.{body_limit, text_limit}
use Rattle.answers.specs.Outcome.Outcome.{refused_with}
use Rattle.answers.specs.declared.refusal.Refusal.TheVariants.{TooLarge}
use Rattle.spec_inputs.specs.Inputs.{under_inputs}
use Rattle.spec_hasm.specs.Assemble.{Assembled, assemble_text, assemble_entries}
use Rattle.spec_hasm.specs.Assemble.Assembled.{assembled, not_assembled}

-- "then 18 of the result; 19", where so many label entries are needed
unfoldable pub assemble_outcome : ℕ → Assembled → Outcome
assemble_outcome entries (assembled bs) = measured body_limit (entries ∷ []) bs
assemble_outcome entries (not_assembled x) = refused_with x

-- a text under a sheet, given as text, and a string table
unfoldable pub assemble : List ℕ → List ℕ → List ℕ → List ℕ → Outcome
assemble sheet bytes ends text =
    pick (ltb text_limit (length text)) (refused_with TooLarge)
    (under_inputs sheet bytes ends λ e last. assemble_outcome (assemble_entries e text) (assemble_text e text))
