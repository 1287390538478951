-- The pass over a text's lines: "then 4 and 5 over all lines", and the labels on the way. Assumes nothing.
use Rattle.std.specs.Prelude.{◌≡◌, ℕ, ◌+◌, ◌*◌, ◌≤◌, ◌<◌, List, ◌++◌, length, drop, None, Result, Ok, Err}
use Rattle.lists.specs.Scan.{run}
use Rattle.limits.specs.Limits.{line_limit, text_limit}
use Rattle.answers.specs.declared.refusal.Refusal.{Refusal}
use Rattle.spec_inputs.specs.Context.{Context}
use Rattle.spec_hasm.specs.Text.{lines_of}
use Rattle.spec_hasm.specs.Assemble.{Assembled, LabelLine, LabelAt, codes_from, codes_of, unless_bad_name, labels_from}
use Rattle.spec_hasm.specs.Assemble.Assembled.{not_assembled}
use Rattle.hasm_read.specs.Lines.{not_feed, line_in}
use Rattle.hasm_labels.specs.Holding.{part_in, offset_in, Waits, Small, Noted, NotedMore, LongMore, KeptMore}
use Rattle.hasm_labels.specs.LongLabels.{long_of}
use Rattle.hasm_labels.specs.NameReads.{RefusedBy, Sized}
use Rattle.hasm_labels.specs.declared.hold_label.Progress.{Progress}

-- the instruction s of k bytes took the label that waited
pub record Passed (e : Context) (n : ℕ) (s text t : List ℕ) (slots : List (List ℕ)) (p : Progress) (slots' : List (List ℕ)) (p' : Progress) : Type 0 where
  pub bytes : ℕ
  pub sized : Sized e n s bytes
  pub waits : p'.waiting ≡ None
  pub count : p'.count ≤ p.count + 1
  pub kept : p'.kept ≤ p.kept + 1
  pub offset : p'.offset ≡ p.offset + bytes
  pub place : (m : ℕ) → p.offset ≤ m → offset_in p.place ≤ m → offset_in p'.place ≤ m
  pub noted : NotedMore text t slots p slots' p'
  pub long : KeptMore text p p'

-- or it was refused, by 4 or 5
abbrev pub CodeTaken : Context → ℕ → List ℕ → List ℕ → List ℕ → List (List ℕ) → Progress → List (List ℕ) → Result Progress Refusal → Type 0
CodeTaken e n s text t slots p slots' (Ok p') = Passed e n s text t slots p slots' p'
CodeTaken e n s text t slots p slots' (Err x) = RefusedBy e n s x

-- a line of a text, from `at` to its end, which 3 does not refuse: "text to 1,048,576 bytes"
pub record LineAt (text : List ℕ) (at end : ℕ) (p : Progress) : Type 0 where
  pub inside : at < length text
  pub ends : end ≡ at + run not_feed (drop at text)
  pub near : end ≤ length text
  pub limited : length text ≤ text_limit
  pub short : length (line_in text at end) ≤ line_limit
  pub small : Small p

-- the pass stands in front of the line at `at`, which is line n: names and labels of the text are those from here on, behind
-- the label lines that wait and the labels so far. No instruction has more than 65 bytes, and each line has one at most
pub record Going (e : Context) (text t : List ℕ) (slots₀ : List (List ℕ)) (at n : ℕ) (p : Progress) (slots : List (List ℕ)) : Type 0 where
  pub near : at ≤ length text + 1
  pub few : n ≤ at + 1
  pub start : (part_in p.waiting).start ≤ text_limit
  pub size : (part_in p.waiting).size ≤ text_limit
  pub count : p.count ≤ at
  pub kept : p.kept ≤ at
  pub offset : p.offset ≤ 65 * at
  pub place : offset_in p.place ≤ 65 * at
  pub waiting : List LabelLine
  pub waits : Waits text p waiting
  pub names : (rest : Assembled) → unless_bad_name e (codes_of e text) rest ≡ unless_bad_name e (codes_from e n waiting (lines_of (drop at text))) rest
  pub taken : List LabelAt
  pub labels : labels_from e 0 (codes_of e text) ≡ taken ++ labels_from e p.offset (codes_from e n waiting (lines_of (drop at text)))
  pub noted : Noted text t slots₀ taken p slots

-- the pass behind a line in front of which it stood at p, with labels taken: it goes on, with one long label more at most
pub record Behind (e : Context) (text t : List ℕ) (slots₀ : List (List ℕ)) (p : Progress) (taken : List LabelAt) (at n : ℕ) (p' : Progress) (slots : List (List ℕ)) : Type 0 where
  pub going : Going e text t slots₀ at n p' slots
  pub long : LongMore text p p' (long_of taken) (long_of going.taken)

-- the pass behind line n, which ends in front of `at`: it goes on, or the line was refused
abbrev pub Turned : Context → List ℕ → List ℕ → List (List ℕ) → Progress → List LabelAt → ℕ → ℕ → Result Progress Refusal → List (List ℕ) → Type 0
Turned e text t slots₀ p taken at n (Ok p') slots = Behind e text t slots₀ p taken at (n + 1) p' slots
Turned e text t slots₀ p taken at n (Err x) slots = (rest : Assembled) → unless_bad_name e (codes_of e text) rest ≡ not_assembled x
