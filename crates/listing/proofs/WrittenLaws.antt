-- What was written, from the answer. Assumes nothing.
use mathlib.Core.Path.{◌≡◌, ap, sym, ◌∙◌}
use mathlib.Core.List.{List}
use Prim.Native.Nat.{ℕ}
use Rattle.std.specs.Prelude.{Result, Ok, Err, OnErr, is_err, true, false}
use Rattle.lists.specs.Write.{Put}
use Rattle.answers.specs.Report.{zeros}
use Rattle.answers.specs.declared.refusal.Refusal.{Refusal}
use Rattle.spec_listing.specs.Listing.{Listed}
use Rattle.spec_listing.specs.Listing.Listed.{listed, not_listed}
use Rattle.list_labels.specs.Collecting.{EntriesFor}
use Rattle.listing.specs.Bodies.{Written}
use Rattle.listing.specs.Bodies.Written.{whole, stopped}
use Rattle.listing.specs.declared.body.Part.{Part}

-- the text of a listing that was not refused
pub record Text (lent : ℕ) (x : Listed) (out : List ℕ) («from» : ℕ) (out' : List ℕ) (p : Part) : Type 0 where
  pub lines : List ℕ
  pub needed : ℕ
  pub is_text : x ≡ listed lines needed
  pub counted : EntriesFor lent needed p.entries
  pub put : Put out «from» lines out' p.next

-- one that was
pub record Stopped (x : Listed) (out out' : List ℕ) (f : Refusal) : Type 0 where
  pub is_refused : x ≡ not_listed f
  pub cleared : out' ≡ zeros out

module _ {lent : ℕ} {x : Listed} {out : List ℕ} {«from» : ℕ} {out' : List ℕ} {r : Result Part Refusal} where
  pub was_listed : {p : Part} → Written lent x out «from» out' r → r ≡ Ok p → Text lent x out «from» out' p
  was_listed {p} (whole t m q e l c w) h =
      let same : q ≡ p = cc (sym l ∙ h) in
      record { lines = t; needed = m; is_text = e; counted = rw (sym same) c; put = rw (sym same) w }
  was_listed (stopped f e q) h = cc (sym q ∙ h)

  pub was_stopped : {f : Refusal} → Written lent x out «from» out' r → r ≡ Err f → x ≡ not_listed f
  was_stopped (whole t m q e l c w) h = cc (sym l ∙ h)
  was_stopped {f} (stopped g e q) h = let same : g ≡ f = cc (sym q ∙ h) in e ∙ ap not_listed same

  -- and where a refusal clears
  pub was_cleared : {f : Refusal} → Written lent x out «from» out' r → OnErr r (out' ≡ zeros out) → r ≡ Err f → Stopped x out out' f
  was_cleared w z h = record { is_refused = was_stopped w h; cleared = rw h at z }

-- of a refusal the output may hold anything, and what is said of it needs the refusal alone
pub any_output : {lent : ℕ} {x : Listed} {out : List ℕ} {«from» : ℕ} {out' : List ℕ} {r : Result Part Refusal} → Written lent x out «from» out' r → is_err r ≡ true → (out₂ : List ℕ) → Written lent x out «from» out₂ r
any_output (whole t m q e l c w) h out₂ = let no : false ≡ true = rw l at h in cc no
any_output (stopped f e q) h out₂ = stopped f e q
