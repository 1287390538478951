-- The loop that writes the instructions of a text, line by line. Assumes nothing.
use mathlib.Core.Path.{◌≡◌, refl, ap, sym, ◌∙◌}
use mathlib.Core.List.{List, [], ◌∷◌, ◌++◌, append_assoc, append-nil}
use Prim.Native.Nat.{ℕ, suc, ◌+◌, ◌<◌, ◌≤◌}
use native.Mathlib.Omega.{arith}
use lib.ListN.{length, drop}
use Rattle.lists.specs.Found.{Found}
use Rattle.lists.specs.Scan.{run}
use Rattle.lists.specs.Write.{Put, top}
use Rattle.lists.proofs.Writes.{◌then◌, wrote_none}
use Rattle.spec_inputs.specs.Context.{Context}
use Rattle.spec_hasm.specs.Text.{lines_of}
use Rattle.spec_hasm.specs.Line.{Statement, statement_of}
use Rattle.spec_hasm.specs.Line.Statement.{nothing, labelled, instruction}
use Rattle.spec_hasm.specs.Assemble.{Assembled, LabelLine, Code, Program, Operands, on_statement, program_from, codes_from, codes_of, row_of, opcode_in, size_in, operands_from, behind, on_operands, bytes_from}
use Rattle.spec_hasm.specs.Assemble.Assembled.{assembled, not_assembled}
use Rattle.answers.specs.declared.refusal.OperandFault.{OperandFault}
use Rattle.answers.specs.declared.refusal.Refusal.TheVariants.{BadOperand}
use Rattle.spec_hasm.specs.Assemble.Operands.{written, refused_operand}
use Rattle.hasm_read.specs.Lines.{not_feed, line_in}
use Rattle.assemble.specs.Going.{bytes_at, Going}
use Rattle.assemble.specs.declared.operands.Place.{Place}
use Rattle.hasm_labels.specs.NameReads.{code_of}
use Rattle.hasm_labels.proofs.CodeSteps.{codes_none, codes_nothing, codes_label, codes_code}

-- bytes in front of nothing, and in front of others
behind_none : (x : Assembled) → behind [] x ≡ x
unfolding behind
behind_none (assembled bs) = refl
behind_none (not_assembled x) = refl

behind_both : (a b : List ℕ) (x : Assembled) → behind a (behind b x) ≡ behind (a ++ b) x
unfolding behind
behind_both a b (assembled bs) = ap assembled (sym (append_assoc a b bs))
behind_both a b (not_assembled x) = refl

module _ (e : Context) (labels : List ℕ → Found) where
  -- label lines that wait change no byte
  waits : (o n : ℕ) (v w : List LabelLine) (x : Statement) (rest : List LabelLine → Program) → ((v w : List LabelLine) → bytes_from e labels o (rest v).codes ≡ bytes_from e labels o (rest w).codes)
      → bytes_from e labels o (on_statement n v x rest).codes ≡ bytes_from e labels o (on_statement n w x rest).codes
  unfolding on_statement bytes_from
  waits o n v w nothing rest same = same v w
  waits o n v w (labelled t) rest same = same (record { line = n; text = t } ∷ v) (record { line = n; text = t } ∷ w)
  waits o n v w (instruction s) rest same = refl

  pub any_label : (o n : ℕ) (v w : List LabelLine) (ls : List (List ℕ)) → bytes_from e labels o (codes_from e n v ls) ≡ bytes_from e labels o (codes_from e n w ls)
  unfolding program_from
  any_label o n v w [] = refl
  any_label o n v w (l ∷ ls) = waits o n v w (statement_of e l) (λ next. program_from e (suc n) next ls) (λ a b. any_label o (suc n) a b ls)

  pub body_start : (s out₀ : List ℕ) → length out₀ ≤ top → Going e labels s out₀ out₀ 0 1 (record { offset = 0; k = 0 })
  body_start s out₀ h = record { bytes = []; put = wrote_none h (omega arith); left = sym (behind_none _) }

  module _ {s out₀ out : List ℕ} {at n : ℕ} {place : Place} (g : Going e labels s out₀ out at n place) where
    -- behind the last line
    pub body_end : length s ≤ at → bytes_from e labels 0 (codes_of e s) ≡ assembled g.bytes
    unfolding bytes_from behind
    body_end h = g.left ∙ rw (codes_none e n [] s at h) (ap assembled (append-nil g.bytes))

    module _ (end : ℕ) (h : at < length s) (q : end ≡ at + run not_feed (drop at s)) where
      -- a line that is no instruction
      pub body_nothing : statement_of e (line_in s at end) ≡ nothing → Going e labels s out₀ out (end + 1) (n + 1) place
      body_nothing p = record { bytes = g.bytes; put = g.put; left = g.left ∙ rw (codes_nothing e n [] s at end h q p) refl }

      pub body_label : (t : List ℕ) → statement_of e (line_in s at end) ≡ labelled t → Going e labels s out₀ out (end + 1) (n + 1) place
      body_label t p = record {
        bytes = g.bytes;
        put = g.put;
        left = g.left ∙ rw (codes_label e n [] s at end h q t p, any_label place.offset (n + 1) (record { line = n; text = t } ∷ []) [] (lines_of (drop (end + 1) s))) refl;
      }

      -- an instruction whose operands were written, and one that is refused
      module _ (b : List ℕ) (p : statement_of e (line_in s at end) ≡ instruction b) where
        abbrev pub code : Code
        code = code_of n [] b

        abbrev pub operands_at : Operands
        operands_at = operands_from e labels place.offset 1 (row_of e (opcode_in e code)) code.operands

        here : bytes_at e labels s at n place.offset ≡ on_operands (opcode_in e code) n operands_at (bytes_at e labels s (end + 1) (n + 1) (place.offset + size_in e code))
        unfolding bytes_from
        here = rw (codes_code e n [] s at end h q b p) refl

        pub body_written : (bs out' : List ℕ) (next : Place) → operands_at ≡ written bs → Put out place.k (opcode_in e code ∷ bs) out' next.k → next.offset ≡ place.offset + size_in e code
            → Going e labels s out₀ out' (end + 1) (n + 1) next
        unfolding on_operands
        body_written bs out' next w put' o = record {
          bytes = g.bytes ++ (opcode_in e code ∷ bs);
          put = g.put then put';
          left = g.left ∙ (ap (behind g.bytes) (here ∙ rw (w, o) refl) ∙ behind_both g.bytes (opcode_in e code ∷ bs) _);
        }

        pub body_refused : (f : OperandFault) (operand : ℕ) → operands_at ≡ refused_operand f operand → bytes_from e labels 0 (codes_of e s) ≡ not_assembled (BadOperand f n operand)
        unfolding on_operands behind
        body_refused f operand w =
            let x : bytes_at e labels s at n place.offset ≡ not_assembled (BadOperand f n operand) = here ∙ rw w refl in
            g.left ∙ ap (behind g.bytes) x
