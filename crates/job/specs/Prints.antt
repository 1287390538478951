-- What is printed for a job, in the lent text. Assumes nothing.
use Rattle.std.specs.Prelude.{Bool, List, ℕ, ◌≤◌, eqb, length, take}
use Rattle.lists.specs.Choice.{pick}
use Rattle.lists.specs.Write.{Put}
use Rattle.answers.specs.Report.{Report}
use Rattle.spec_job.specs.Printed.{refused_text, body_text}

-- the most that a job prints: `body=`, two digits for each of the 65,536 output bytes, and LF
abbrev pub printed_most : ℕ
printed_most = 131078

-- p was printed from the front of the text, as much of it as fits, and is no longer than what a job may print
pub record Prints (p before after : List ℕ) (r : ℕ) : Type 0 where
  pub put : Put before 0 p after r
  pub few : length p ≤ printed_most

-- a result in its form: a body in hex, or a listing as it stands
abbrev pub in_form : Bool → List ℕ → List ℕ
in_form hex t = pick hex (body_text t) t

-- an answer as it is printed, where its result stands at the front of `out`
unfoldable pub answer_text : Bool → Report → List ℕ → List ℕ
answer_text hex r out = pick (eqb r.number 0) (in_form hex (take r.length out)) (refused_text r)
