-- How a job is read, from what its first line asks for. Assumes nothing.
use mathlib.Core.Path.{◌≡◌, refl, sym, ◌∙◌}
use mathlib.Core.Bool.{Bool, true, false}
use mathlib.Core.List.{List}
use Prim.Native.Nat.{ℕ}
use Rattle.lists.specs.Scan.{opens}
use Rattle.lists.specs.Text.{text}
use Rattle.spec_job.specs.Job.{JobRead, read_job}
use Rattle.spec_job.specs.Job.JobRead.{bad_line}
use Rattle.spec_job.proofs.JobLaws.{job_list, job_assemble, job_carry, job_other}
use Rattle.job.specs.ReaderAnswers.{asked, read_work}
use Rattle.job.specs.declared.reader.Work.TheVariants as works
use Rattle.job.specs.declared.reader.Asked.{Asked}
use Rattle.std.proofs.Common.{Option, Some, None}

-- the four answers
module _ (s : List ℕ) where
  pub asks_list : opens (text "job=list\n") s ≡ true → ◌≡◌ {A = Option Asked} (Some (record { work = works.List; start = 9 })) (asked s)
  unfolding asked
  asks_list e = rw e refl

  module _ (n : opens (text "job=list\n") s ≡ false) where
    pub asks_assemble : opens (text "job=assemble\n") s ≡ true → ◌≡◌ {A = Option Asked} (Some (record { work = works.Assemble; start = 13 })) (asked s)
    unfolding asked
    asks_assemble e = rw (n, e) refl

    module _ (m : opens (text "job=assemble\n") s ≡ false) where
      pub asks_carry : opens (text "job=carry\n") s ≡ true → ◌≡◌ {A = Option Asked} (Some (record { work = works.Carry; start = 10 })) (asked s)
      unfolding asked
      asks_carry e = rw (n, m, e) refl

      pub asks_other : opens (text "job=carry\n") s ≡ false → ◌≡◌ {A = Option Asked} None (asked s)
      unfolding asked
      asks_other e = rw (n, m, e) refl

-- how the job is read by them
unfoldable pub read_as : Option Asked → List ℕ → JobRead
read_as (Some a) s = read_work a.work s a.start
read_as None s = bad_line 1

pub read_as_lem : (s : List ℕ) → read_job s ≡ read_as (asked s) s
unfolding read_as read_work
read_as_lem s = first (opens (text "job=list\n") s) refl
  where
    third : opens (text "job=list\n") s ≡ false → opens (text "job=assemble\n") s ≡ false → (t : Bool) → opens (text "job=carry\n") s ≡ t → read_job s ≡ read_as (asked s) s
    third n m true q = job_carry s n m q ∙ rw (sym (asks_carry s n m q)) refl
    third n m false q = job_other s n m q ∙ rw (sym (asks_other s n m q)) refl

    second : opens (text "job=list\n") s ≡ false → (t : Bool) → opens (text "job=assemble\n") s ≡ t → read_job s ≡ read_as (asked s) s
    second n true q = job_assemble s n q ∙ rw (sym (asks_assemble s n q)) refl
    second n false q = third n q (opens (text "job=carry\n") s) refl

    first : (t : Bool) → opens (text "job=list\n") s ≡ t → read_job s ≡ read_as (asked s) s
    first true q = job_list s q ∙ rw (sym (asks_list s q)) refl
    first false q = second q (opens (text "job=assemble\n") s) refl
