use Rattle.std.proofs.Common.{◌≡◌, ◌-◌, length, get_or, true, false, ap, sym, ◌∙◌, arith, eq-eqb, ne_eqb}
use Rattle.hasm_tokens.proofs.TextLaws.{not_quoted, quoted_short, quoted_by, string_number, string_open, string_read, work_number, work_open, work_text}
use Rattle.hasm_tokens.specs.Values.{token_answer}
use Rattle.spec_hasm.specs.Token.{is_quoted}
use Rattle.hasm_tokens.proofs.text_token.string_value.Goals as goal
use Rattle.hasm_tokens.proofs.text_token.string_value.Goals.{in_default-via-then-t-lt1, in_default-via-else-t-lt1+then-t-lt2+in_default-1, in_default-via-else-t-lt1+else-t-lt2+in_default-1}

pub returns-in-34 : goal.returns-in-34
returns-in-34 c =
    let a = c.args in
    let t = a.texts.strings in
    let s = a.t.now in
    let first : get_or s 0 0 ≡ 34 = omega arith in
    let last : get_or s (length s - 1) 0 ≡ 34 = omega arith in
    let quoted : is_quoted s ≡ true = quoted_by s c.in-34.len_at_least ∙ eq-eqb _ _ last in
    let read = c.quoted_value.ensures in
    record { value = string_read t.bytes.now t.ends.now s first quoted read.value; work_after = work_text _ _ first quoted read.work_after }

pub returns-in-34-2 : goal.returns-in-34-2
returns-in-34-2 c =
    let a = c.args in
    let t = a.texts.strings in
    let s = a.t.now in
    let first : get_or s 0 0 ≡ 34 = omega arith in
    let unclosed = quoted_short s c.in-34-2.len_below in
    record { value = sym (ap token_answer (string_open t.bytes.now t.ends.now s first unclosed)); work_after = work_open _ _ first unclosed }

pub returns-in-34-2-2 : goal.returns-in-34-2-2
returns-in-34-2-2 c =
    let a = c.args in
    let t = a.texts.strings in
    let s = a.t.now in
    let first : get_or s 0 0 ≡ 34 = omega arith in
    let unclosed : is_quoted s ≡ false = quoted_by s c.in-34-2.len_at_least ∙ ne_eqb _ _ (λ e. omega (arith, e)) in
    record { value = sym (ap token_answer (string_open t.bytes.now t.ends.now s first unclosed)); work_after = work_open _ _ first unclosed }

pub returns-in_default : goal.returns-in_default
returns-in_default c =
    let a = c.args in
    let t = a.texts.strings in
    let no_quote : get_or a.t.now 0 0 ≡ 34 → ⊥ = elim c.in_default.branch [
      | in_default-via-then-t-lt1 w ↦ not_quoted a.t.now (grind arith)
      | in_default-via-else-t-lt1+then-t-lt2+in_default-1 w ↦ λ e. grind (arith, e)
      | in_default-via-else-t-lt1+else-t-lt2+in_default-1 w ↦ λ e. grind (arith, e)
    ] in
    record { value = c.unsigned_value.ensures ∙ sym (ap token_answer (string_number t.bytes.now t.ends.now a.t.now no_quote)); work_after = work_number _ _ no_quote }
