-- The instructions of a text, line by line, by the places of the lines. Assumes nothing.
use mathlib.Core.Path.{◌≡◌, refl, ap, ◌∙◌}
use Prim.Native.Nat.{ℕ, ◌+◌, ◌≤◌, ◌<◌}
use native.Mathlib.Numerals.{add-one}
use mathlib.Core.List.{List, [], ◌∷◌}
use lib.ListN.{length, drop}
use Rattle.lists.specs.Scan.{run}
use Rattle.spec_inputs.specs.Context.{Context}
use Rattle.spec_hasm.specs.Text.{lines_of}
use Rattle.spec_hasm.specs.Line.{Statement, statement_of}
use Rattle.spec_hasm.specs.Line.Statement.{nothing, labelled, instruction}
use Rattle.spec_hasm.specs.Assemble.{LabelLine, Program, on_statement, program_from, codes_from}
use Rattle.hasm_read.specs.Lines.{not_feed, line_in}
use Rattle.hasm_read.proofs.LineLaws.{line_next, lines_none}
use Rattle.hasm_labels.specs.NameReads.{code_of}

-- no instruction is left behind the end
pub codes_none : (e : Context) (n : ℕ) (w : List LabelLine) (s : List ℕ) (at : ℕ) → length s ≤ at → codes_from e n w (lines_of (drop at s)) ≡ []
unfolding program_from
codes_none e n w s at h = rw (lines_none s at h)

-- the instructions from a line on, which is line n: it is nothing, a label, or an instruction
module _ (e : Context) (n : ℕ) (w : List LabelLine) (s : List ℕ) (at end : ℕ) (h : at < length s) (k : end ≡ at + run not_feed (drop at s)) where
  abbrev behind : List LabelLine → Program
  behind next = program_from e (n + 1) next (lines_of (drop (end + 1) s))

  line_first : program_from e n w (lines_of (drop at s)) ≡ on_statement n w (statement_of e (line_in s at end)) behind
  unfolding program_from
  line_first = rw (line_next s at end h k, ← add-one n) refl

  codes_by : {x : Statement} → statement_of e (line_in s at end) ≡ x → codes_from e n w (lines_of (drop at s)) ≡ (on_statement n w x behind).codes
  codes_by p = ap (λ (y : Program). y.codes) (line_first ∙ ap (λ (y : Statement). on_statement n w y behind) p)

  pub codes_nothing : statement_of e (line_in s at end) ≡ nothing
      → codes_from e n w (lines_of (drop at s)) ≡ codes_from e (n + 1) w (lines_of (drop (end + 1) s))
  unfolding on_statement
  codes_nothing p = codes_by p

  pub codes_label : (t : List ℕ) → statement_of e (line_in s at end) ≡ labelled t
      → codes_from e n w (lines_of (drop at s)) ≡ codes_from e (n + 1) (record { line = n; text = t } ∷ w) (lines_of (drop (end + 1) s))
  unfolding on_statement
  codes_label t p = codes_by p

  pub codes_code : (b : List ℕ) → statement_of e (line_in s at end) ≡ instruction b
      → codes_from e n w (lines_of (drop at s)) ≡ code_of n w b ∷ codes_from e (n + 1) [] (lines_of (drop (end + 1) s))
  unfolding on_statement
  codes_code b p = codes_by p
