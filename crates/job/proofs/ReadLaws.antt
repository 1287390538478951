-- What reading the parts of a job answers. Assumes nothing.
use mathlib.Core.Path.{◌≡◌, refl, ap, sym, ◌∙◌}
use mathlib.Core.List.{List, []}
use Prim.Native.Nat.{ℕ, ◌+◌, ◌-◌, ◌≤◌}
use native.Mathlib.Nat.{sub-zero}
use native.Mathlib.Omega.{arith}
use lib.ListN.{length, take, get_or}
use Rattle.spec_sheet.specs.Sheet.{largest}
use Rattle.spec_job.specs.Job.{JobInputs, InputsRead, JobRead, inputs_at, with_body}
use Rattle.spec_job.specs.Job.InputsRead.{inputs, bad_inputs}
use Rattle.spec_job.specs.Job.JobRead.{bad_line}
use Rattle.spec_job.proofs.JobLaws.{body_size, inputs_size, inputs_parts}
use Rattle.carry.specs.Ready.{ZerosBehind}
use Rattle.carry.proofs.TableLaws.{read_zeros}
use Rattle.job.specs.TableAnswers.{Opens}
use Rattle.job.specs.ReaderAnswers.{BodyIn, InputsIn, Holds}
use Rattle.job.specs.ReaderAnswers.InputsIn.{whole as whole-inputs, faulty as faulty-inputs}
use Rattle.job.specs.ReaderAnswers.BodyIn.{whole, faulty}
use Rattle.job.specs.declared.reader.InputsRead.{InputsRead as Numbers}
use Rattle.std.proofs.Common.{Result, Ok, Err}
use Rattle.answers.specs.declared.refusal.Refusal.{Refusal}
use Rattle.answers.specs.declared.refusal.Refusal.TheVariants.{Malformed}

-- a refusal is that of a malformed line, which is the one of which P says more
abbrev pub BadLine : Refusal → (ℕ → Type 0) → Type 0
BadLine f P = (line : ℕ) × (f ≡ Malformed line) × P line

-- a body that was read, from the answer
pub record BodyWas (x : (List ℕ → JobRead) → JobRead) (out : List ℕ) (n : ℕ) : Type 0 where
  pub body : List ℕ
  pub goes_on : (then : List ℕ → JobRead) → x then ≡ then body
  pub count : n ≡ length body
  pub stored : Opens out body

pub was_body : {x : (List ℕ → JobRead) → JobRead} {out : List ℕ} {r : Result ℕ Refusal} {n : ℕ} → BodyIn x out r → r ≡ Ok n → BodyWas x out n
was_body (whole bs f q o) p = record { body = bs; goes_on = f; count = cc (sym p ∙ q); stored = o }
was_body (faulty line f q) p = absurd (let z : ◌≡◌ {A = ℕ} 0 1 = cc (sym p ∙ q) in omega arith)

pub was_bad_body : {x : (List ℕ → JobRead) → JobRead} {out : List ℕ} {r : Result ℕ Refusal} {f : Refusal} → BodyIn x out r → r ≡ Err f → (then : List ℕ → JobRead) → BadLine f (λ line. x then ≡ bad_line line)
was_bad_body (whole bs g q o) p then = absurd (let z : ◌≡◌ {A = ℕ} 0 1 = cc (sym p ∙ q) in omega arith)
was_bad_body {f = f} (faulty line g q) p then = let z : f ≡ Malformed line = cc (sym p ∙ q) in (line, z, g then)

-- it has half of the job's bytes at most
pub body_fits : (job : List ℕ) (at line : ℕ) {out : List ℕ} {n : ℕ} (b : BodyWas (with_body job at line) out n) → length job ≤ 65536 → n ≤ 32768
body_fits job at line b h = omega (arith, b.count, body_size job at line b.body b.goes_on)

-- inputs that were read, from the answer
pub record InputsWas (x : InputsRead) (types ops : List (List ℕ)) (bytes ends : List ℕ) (n : Numbers) : Type 0 where
  pub of : JobInputs
  pub is_inputs : x ≡ inputs of n.end n.line
  pub largest_is : n.largest ≡ largest of.opcodes
  pub count_is : n.count ≡ length of.ends
  pub size_is : n.size ≡ length of.bytes
  pub held : Holds of types ops bytes ends

pub was_inputs : {x : InputsRead} {types ops : List (List ℕ)} {bytes ends : List ℕ} {r : Result Numbers Refusal} {n : Numbers} → InputsIn x types ops bytes ends r → r ≡ Ok n
    → InputsWas x types ops bytes ends n
was_inputs {n = n} (whole-inputs e b line q p h) r =
    let y : ◌≡◌ {A = Numbers} n (record { end = b; line = line; largest = largest e.opcodes; count = length e.ends; size = length e.bytes }) = cc (sym r ∙ p) in
    record {
      of = e;
      is_inputs = q ∙ sym (ap (λ (m : Numbers). inputs e m.end m.line) y);
      largest_is = ap (λ (m : Numbers). m.largest) y;
      count_is = ap (λ (m : Numbers). m.count) y;
      size_is = ap (λ (m : Numbers). m.size) y;
      held = h;
    }
was_inputs (faulty-inputs line q p) r = absurd (let z : ◌≡◌ {A = ℕ} 0 1 = cc (sym p ∙ r) in omega arith)

pub was_bad_inputs : {x : InputsRead} {types ops : List (List ℕ)} {bytes ends : List ℕ} {r : Result Numbers Refusal} {f : Refusal} → InputsIn x types ops bytes ends r → r ≡ Err f
    → BadLine f (λ line. x ≡ bad_inputs line)
was_bad_inputs (whole-inputs e b' line' q p h) r = absurd (let z : ◌≡◌ {A = ℕ} 0 1 = cc (sym p ∙ r) in omega arith)
was_bad_inputs {f = f} (faulty-inputs line q p) r = let z : f ≡ Malformed line = cc (sym r ∙ p) in (line, z, q)

module _ (job : List ℕ) (start line : ℕ) {types ops : List (List ℕ)} {bytes ends : List ℕ} {n : Numbers} (w : InputsWas (inputs_at job start line) types ops bytes ends n) (h : length job ≤ 65536) where
  -- its sizes and lines
  pub inputs_fits : (n.count ≤ 4096) × (n.size ≤ 32768) × (n.line ≤ line + 4355)
  inputs_fits =
      let s = inputs_size job start line w.of n.end n.line w.is_inputs in
      (omega (arith, w.count_is, s.0), omega (arith, w.size_is, s.1.0), omega (arith, s.1.1))

  -- behind a type code 0 each row has only zeros
  pub inputs_zeros : (op : ℕ) → ZerosBehind (get_or types op [])
  inputs_zeros =
      let p = inputs_parts job start line w.of n.end n.line w.is_inputs in
      rw (w.held.type_rows_are, p.opcodes_are) (read_zeros job start p.of p.place p.is_sheet)

  -- the arrays' fronts are the inputs' strings
  pub inputs_held : (texts tableEnds : List ℕ) → texts ≡ take n.size bytes → tableEnds ≡ take n.count ends → n.size ≤ length bytes → n.count ≤ length ends
      → ◌≡◌ {A = JobInputs} (record { opcodes = w.of.opcodes; bytes = texts; ends = tableEnds }) w.of
  inputs_held texts tableEnds p q l m =
      let t = p ∙ (ap (λ (j : ℕ). take j bytes) w.size_is ∙ w.held.strings (omega (arith, w.size_is))) in
      let d = q ∙ (ap (λ (j : ℕ). take j ends) w.count_is ∙ w.held.string_ends (omega (arith, w.count_is))) in
      rw (t, d) refl

-- the front of a slice, as it is lent
pub front : (n : ℕ) (s : List ℕ) → take (n - 0) s ≡ take n s
front n s = rw (sub-zero n) refl
