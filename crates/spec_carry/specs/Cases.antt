-- A list of cases: the first that holds refuses. Assumes nothing.
use Rattle.std.specs.Prelude.{Bool, List, [], ◌∷◌}
use Rattle.lists.specs.Choice.{pick}
use Rattle.answers.specs.Outcome.{Outcome}
use Rattle.answers.specs.Outcome.Outcome.{refused_with}
use Rattle.answers.specs.declared.refusal.Refusal.{Refusal}

-- a case: whether it holds, and its refusal
pub record Case : Type 0 where
  pub holds : Bool
  pub refusal : Refusal

abbrev pub case : Bool → Refusal → Case
case holds refusal = record { holds = holds; refusal = refusal }

-- the refusal of the first case that holds, else what follows
unfoldable pub unless_case : List Case → Outcome → Outcome
unless_case [] rest = rest
unless_case (c ∷ cs) rest =
    let more = unless_case cs rest in
    pick c.holds (refused_with c.refusal) more
