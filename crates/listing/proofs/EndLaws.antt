-- How a listing ends. Assumes nothing.
use mathlib.Core.Path.{◌≡◌, refl, ap, sym, ◌∙◌}
use mathlib.Core.List.{List, [], ◌∷◌}
use Prim.Native.Nat.{ℕ, ◌<◌}
use native.Mathlib.Omega.{arith}
use lib.ListN.{length, replicate, length-replicate}
use borrow.Author.Tests.{lt-ltb, le-ltb}
use Rattle.std.specs.Prelude.{Result, Ok, Err}
use Rattle.lists.proofs.Tests.{by_leb}
use Rattle.list_labels.specs.Collecting.{EntriesFor}
use Rattle.lists.specs.Write.{Put}
use Rattle.limits.specs.Limits.{listing_limit}
use Rattle.answers.specs.Report.{zeros}
use Rattle.answers.specs.Answers.{answer_report}
use Rattle.answers.specs.Outcome.{Outcome, measured, Ended}
use Rattle.answers.specs.Outcome.Outcome.{refused_with}
use Rattle.answers.proofs.OutcomeLaws.{refused_end}
use Rattle.answers.specs.declared.failure.Failure.{Failure}
use Rattle.answers.specs.declared.failure.Failure.TheVariants.{Refused}
use Rattle.answers.specs.declared.refusal.Refusal.{Refusal}
use Rattle.answers.specs.declared.refusal.Refusal.TheVariants.{TooLarge}
use Rattle.spec_listing.specs.Listing.{Listed}
use Rattle.spec_listing.specs.Listing.Listed.{listed, not_listed}
use Rattle.spec_listing.specs.Operation.{list_outcome}
use Rattle.operation.specs.Ends.{measured_of, left_by}
use Rattle.operation.proofs.EndLaws.{measured_end, is_large, zeros_of}
use Rattle.listing.specs.Bodies.{Written}
use Rattle.listing.specs.declared.body.Part.{Part}
use Rattle.listing.proofs.WrittenLaws.{Text, was_listed, was_stopped}

-- whether enough entries are lent is the same by what is needed and by what was counted
same_measure : (k limit needed n lent room : ℕ) → EntriesFor lent needed n → measured_of k limit n lent room ≡ measured_of k limit needed lent room
unfolding measured_of
same_measure k limit needed n lent room c =
    by_leb n lent
    (λ h. rw (le-ltb lent n h, le-ltb lent needed (omega (arith, c.0))))
    (λ h. rw (c.1 h))

-- an output that was settled is settled
pub settled : (r : Result ℕ Failure) (now after : List ℕ) → after ≡ left_by r now → left_by r after ≡ left_by r now
settled (Ok n) now after e = e
settled (Err x) now after e = ap (λ (n : ℕ). replicate n 0) (ap length e ∙ length-replicate (length now) 0)

-- an outcome that is a refusal, whatever was written before
pub refused_out : {x : Outcome} {f : Refusal} {r : Result ℕ Failure} (before now entries : List ℕ) → x ≡ refused_with f → r ≡ Err (Refused f) → length now ≡ length before
    → Ended x before entries (left_by r now) (answer_report r)
refused_out {x} {f} {r} before now entries e q h = rw q (refused_end x f before entries _ _ e refl (zeros_of now before _ h refl))

-- a part that was written and measured, where the output was `before` before it was written and `now` behind that
module _ (before now after : List ℕ) (p : Part) (lent : ℕ) (r : Result ℕ Failure) (a : r ≡ measured_of p.next listing_limit p.entries lent (length now)) (z : after ≡ left_by r now) where
  abbrev Ends : Listed → Type 0
  Ends x = Ended (list_outcome x) before (lent ∷ []) (left_by r after) (answer_report r)

  -- a listing that was written
  pub text_end : (t : List ℕ) {needed : ℕ} → EntriesFor lent needed p.entries → Put before 0 t now p.next → Ends (listed t needed)
  unfolding list_outcome
  text_end t {needed} c w =
      measured_end listing_limit (omega arith) t before now p.next needed lent w r (left_by r after) (a ∙ same_measure p.next listing_limit needed p.entries lent (length now) c) (settled r now after z)

  -- one past its limit, whatever of it was written
  pub over_end : (t : List ℕ) (needed : ℕ) → listing_limit < p.next → listing_limit < length t → length now ≡ length before → Ends (listed t needed)
  unfolding list_outcome measured
  over_end t needed h g l =
      let q = a ∙ is_large p.next listing_limit p.entries lent (length now) h in
      rw (settled r now after z) (refused_out before now _ (rw (lt-ltb listing_limit (length t) g)) q l)

  pub written_end : {x : Listed} → Written lent x before 0 now (Ok p) → Ends x
  written_end w = let t = was_listed w refl in rw t.is_text (text_end t.lines t.counted t.put)

-- one that is refused
pub stopped_end : {x : Listed} {f : Refusal} {r : Result ℕ Failure} (before now : List ℕ) (lent : ℕ) → x ≡ not_listed f → r ≡ Err (Refused f) → length now ≡ length before
    → Ended (list_outcome x) before (lent ∷ []) (left_by r now) (answer_report r)
unfolding list_outcome
stopped_end before now lent e q h = refused_out before now _ (rw e refl) q h

-- and one that left the output clear
pub cleared_end : {x : Outcome} {f : Refusal} {r : Result ℕ Failure} (before after entries : List ℕ) → x ≡ refused_with f → r ≡ Err (Refused f) → after ≡ zeros before → Ended x before entries after (answer_report r)
cleared_end {x} {f} before after entries e q z = rw q (refused_end x f before entries after _ e refl z)
