-- What the reader of quoted tokens answers on the way, and what it leaves. Assumes nothing.
use Rattle.std.specs.Prelude.{ℕ, ◌-◌, Bool, false, not, List, eqb, length, get_or, take, drop}
use Rattle.lists.specs.Choice.{pick}
use Rattle.lists.specs.Scan.{all}
use Rattle.answers.specs.Report.{written}
use Rattle.spec_strings.specs.Escape.{unescape}
use Rattle.spec_hasm.specs.Token.{is_quoted}

-- a byte that means itself between quotes: no backslash
abbrev pub is_literal : ℕ → Bool
is_literal b = not (eqb b 92)

-- the work buffer behind the reading of what stands between quotes: what it means, where it does not mean itself
unfoldable pub meant_in : List ℕ → List ℕ → List ℕ
meant_in inside work = pick (all is_literal inside) work (written (unescape false inside) work)

-- and behind that of a token, which may be no quoted string
unfoldable pub work_after : List ℕ → List ℕ → List ℕ
work_after t work = pick (eqb (get_or t 0 0) 34) (pick (is_quoted t) (meant_in (drop 1 (take (length t - 1) t)) work) work) work
