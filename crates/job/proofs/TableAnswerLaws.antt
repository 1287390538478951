-- What the answer of a string table says of the table. Assumes nothing.
use mathlib.Core.Path.{◌≡◌, ap, sym, ◌∙◌}
use mathlib.Core.List.{List}
use Prim.Native.Nat.{ℕ, ◌≤◌}
use native.Mathlib.Omega.{arith}
use lib.ListN.{length}
use Rattle.spec_job.specs.Table.{TableRead, strings_limit, table_at}
use Rattle.spec_job.specs.Table.TableRead.{table, fault_after}
use Rattle.spec_job.proofs.TableLaws.{table_size, table_fault}
use Rattle.job.specs.TableAnswers.{Opens, Tabled}
use Rattle.job.specs.TableAnswers.Tabled.{whole, faulty}
use Rattle.job.specs.declared.table.TableRead.{TableRead as Numbers}
use Rattle.std.proofs.Common.{Result, Ok, Err}

-- a table that was read
pub record Table-read (x : TableRead) (bytes ends : List ℕ) (n : Numbers) : Type 0 where
  pub strings : List ℕ
  pub string_ends : List ℕ
  pub is_table : x ≡ table strings string_ends n.end
  pub number : length string_ends ≡ n.count
  pub size : length strings ≡ n.size
  pub opens : Opens bytes strings
  pub opens_ends : Opens ends string_ends

module _ {x : TableRead} {bytes ends : List ℕ} {r : Result Numbers ℕ} where
  pub was_table : {n : Numbers} → Tabled x bytes ends r → r ≡ Ok n → Table-read x bytes ends n
  was_table {n} (whole bs es c e f o p) q =
      let y : ◌≡◌ {A = Numbers} (record { end = c; count = length es; size = length bs }) n = cc (sym f ∙ q) in
      record {
        strings = bs;
        string_ends = es;
        is_table = e ∙ ap (λ (m : Numbers). table bs es m.end) y;
        number = ap (λ (m : Numbers). m.count) y;
        size = ap (λ (m : Numbers). m.size) y;
        opens = o;
        opens_ends = p;
      }
  was_table (faulty k e f) q = absurd (let z : ◌≡◌ {A = ℕ} 0 1 = cc (sym f ∙ q) in omega arith)

  pub was_fault : {k : ℕ} → Tabled x bytes ends r → r ≡ Err k → x ≡ fault_after k
  was_fault (whole bs es c e f o p) q = absurd (let z : ◌≡◌ {A = ℕ} 0 1 = cc (sym f ∙ q) in omega arith)
  was_fault {k} (faulty j e f) q = let z : j ≡ k = cc (sym f ∙ q) in e ∙ ap fault_after z

-- the numbers that are answered are small
module _ (s : List ℕ) (at : ℕ) {bytes ends : List ℕ} {r : Result Numbers ℕ} (t : Tabled (table_at s at) bytes ends r) where
  pub few_strings : {n : Numbers} → r ≡ Ok n → n.count ≤ strings_limit
  few_strings {n} q =
      let w = was_table t q in
      omega (arith, w.number, (table_size s at w.strings w.string_ends n.end w.is_table).0)

  pub few_lines : {k : ℕ} → r ≡ Err k → k ≤ strings_limit
  few_lines {k} q = table_fault s at k (was_fault t q)
