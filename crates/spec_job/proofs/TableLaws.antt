-- Laws of a job's string table, case by case, and how much text it takes. Assumes nothing.
use mathlib.Core.Path.{◌≡◌, refl, ap, sym, ◌∙◌}
use mathlib.Core.Bool.{Bool, true, false}
use mathlib.Core.List.{List, [], ◌∷◌, ◌++◌}
use Prim.Native.Nat.{ℕ, zero, suc, ◌+◌, ◌-◌, ◌*◌, ◌<◌, ◌≤◌}
use native.Mathlib.Omega.{arith}
use lib.ListN.{length, drop, length-append, length-drop}
use Rattle.lists.specs.Choice.{pick}
use Rattle.lists.specs.Scan.{opens}
use Rattle.lists.specs.Text.{text}
use Rattle.lists.proofs.Scans.{opens_length}
use Rattle.spec_sheet.specs.Scan.{Step, after, literal_at, keyed_at, line_end}
use Rattle.spec_sheet.specs.Scan.Step.{next, off}
use Rattle.spec_sheet.proofs.ScanLaws.{reached, keyed_bound}
use Rattle.spec_job.specs.Hex.{HexRead, hex_at}
use Rattle.spec_job.specs.Hex.HexRead.{hex, no_hex}
use Rattle.spec_job.specs.Table.{TableRead, on_hex, keyed_hex_at, strings_from, strings_limit, table_at}
use Rattle.spec_job.specs.Table.TableRead.{table, fault_after}
use Rattle.spec_job.proofs.HexLaws.{Spread, hex_spread}

-- bytes that stand at a place
module _ (key s : List ℕ) (at : ℕ) where
  pub literal_here : (v a : ℕ) → literal_at key s at ≡ next v a → (opens key (drop at s) ≡ true) × (a ≡ at + length key)
  unfolding literal_at
  literal_here v a e = go (opens key (drop at s)) e
    where
      go : (t : Bool) → pick t (next 0 (at + length key)) off ≡ next v a → (t ≡ true) × (a ≡ at + length key)
      go true q = (refl, (let z : at + length key ≡ a = cc q in sym z))
      go false q = absurd (let z : ◌≡◌ {A = ℕ} 0 1 = cc q in omega arith)

  -- such bytes end inside the text
  pub literal_inside : (v a : ℕ) → 0 < length key → literal_at key s at ≡ next v a → a ≤ length s
  literal_inside v a h e =
      let p = literal_here v a e in
      omega (arith, p.1, length-drop at s, opens_length key (drop at s) p.0)

  -- a line of hex with its key, and one without
  pub keyed_hex : (v a : ℕ) → literal_at key s at ≡ next v a → keyed_hex_at key s at ≡ hex_at s a
  unfolding keyed_hex_at after
  keyed_hex v a e = rw e

  pub keyed_off : literal_at key s at ≡ off → keyed_hex_at key s at ≡ no_hex
  unfolding keyed_hex_at after
  keyed_off e = rw e

  -- the line's key, two digits a byte and its end, all of it in the text
  pub keyed_spread : (bs : List ℕ) (b : ℕ) → keyed_hex_at key s at ≡ hex bs b → Spread s (at + length key) bs b
  unfolding keyed_hex_at
  keyed_spread bs b e =
      let p = reached (literal_at key s at) no_hex _ (hex bs b) e (λ f. let z : ◌≡◌ {A = ℕ} 0 1 = cc f in omega arith) in
      rw (literal_here p.value p.place p.first).1 at (hex_spread (length s) s p.place bs b p.rest)

-- what reaches the continuation of a line of hex, or does not
pub data OnHex (A : Type 0) (x : HexRead) (failed : A) (then : List ℕ → ℕ → A) (r : A) : Type 0 where
  passed : (bs : List ℕ) (b : ℕ) → x ≡ hex bs b → then bs b ≡ r → OnHex A x failed then r
  stopped : x ≡ no_hex → failed ≡ r → OnHex A x failed then r

pub on_hex_lem : {A : Type 0} (x : HexRead) (failed : A) (then : List ℕ → ℕ → A) (r : A) → on_hex x failed then ≡ r → OnHex A x failed then r
unfolding on_hex
on_hex_lem (hex bs b) failed then r e = passed bs b refl e
on_hex_lem no_hex failed then r e = stopped refl e

-- one line more, and one that is malformed
module _ (n : ℕ) (s : List ℕ) (at : ℕ) (bytes ends : List ℕ) where
  pub string_more : (bs : List ℕ) (b : ℕ) → keyed_hex_at (text "s=") s at ≡ hex bs b
      → strings_from (suc n) s at bytes ends ≡ strings_from n s b (bytes ++ bs) (ends ++ ((length bytes + length bs) ∷ []))
  unfolding strings_from on_hex
  string_more bs b e = rw (strings_from, e)

  pub string_off : keyed_hex_at (text "s=") s at ≡ no_hex → strings_from (suc n) s at bytes ends ≡ fault_after (suc (length ends))
  unfolding strings_from on_hex
  string_off e = rw (strings_from, e)

-- as many ends as lines, and a text holds at most half as many bytes
pub record Size (n : ℕ) (s : List ℕ) (at : ℕ) (bytes ends bs es : List ℕ) : Type 0 where
  pub lines : length es ≡ length ends + n
  pub half : 2 * length bs ≤ 2 * length bytes + (length s - at)

pub strings_size : (n : ℕ) (s : List ℕ) (at : ℕ) (bytes ends bs es : List ℕ) (b : ℕ) → strings_from n s at bytes ends ≡ table bs es b → Size n s at bytes ends bs es
unfolding strings_from
strings_size zero s at bytes ends bs es b e =
    let p : bytes ≡ bs = cc e in
    let q : ends ≡ es = cc e in
    record { lines = omega (arith, ap length q); half = omega (arith, ap length p) }
strings_size (suc n) s at bytes ends bs es b e = go (strings_size n s) (on_hex_lem (keyed_hex_at (text "s=") s at) (fault_after (suc (length ends))) _ (table bs es b) e)
  where
    go : ((a : ℕ) (ys zs cs ds : List ℕ) (d : ℕ) → strings_from n s a ys zs ≡ table cs ds d → Size n s a ys zs cs ds)
        → OnHex TableRead (keyed_hex_at (text "s=") s at) (fault_after (suc (length ends))) (λ cs a. strings_from n s a (bytes ++ cs) (ends ++ ((length bytes + length cs) ∷ []))) (table bs es b)
        → Size (suc n) s at bytes ends bs es
    go ih (passed cs a p q) =
        let r = ih a (bytes ++ cs) (ends ++ ((length bytes + length cs) ∷ [])) bs es b q in
        let w = keyed_spread (text "s=") s at cs a p in
        record {
          lines = omega (arith, r.lines, length-append ends ((length bytes + length cs) ∷ []));
          half = omega (arith, r.half, w.takes, w.inside_text, length-append bytes cs);
        }
    go ih (stopped p q) = absurd (let z : ◌≡◌ {A = ℕ} 0 1 = cc q in omega arith)

-- a fault is in one of the lines
pub strings_fault : (n : ℕ) (s : List ℕ) (at : ℕ) (bytes ends : List ℕ) (k : ℕ) → strings_from n s at bytes ends ≡ fault_after k → k ≤ length ends + n
unfolding strings_from
strings_fault zero s at bytes ends k e = absurd (let z : ◌≡◌ {A = ℕ} 0 1 = cc e in omega arith)
strings_fault (suc n) s at bytes ends k e = go (strings_fault n s) (on_hex_lem (keyed_hex_at (text "s=") s at) (fault_after (suc (length ends))) _ (fault_after k) e)
  where
    go : ((a : ℕ) (ys zs : List ℕ) (j : ℕ) → strings_from n s a ys zs ≡ fault_after j → j ≤ length zs + n)
        → OnHex TableRead (keyed_hex_at (text "s=") s at) (fault_after (suc (length ends))) (λ cs a. strings_from n s a (bytes ++ cs) (ends ++ ((length bytes + length cs) ∷ []))) (fault_after k)
        → k ≤ length ends + suc n
    go ih (passed cs a p q) = omega (arith, ih a (bytes ++ cs) (ends ++ ((length bytes + length cs) ∷ [])) k q, length-append ends ((length bytes + length cs) ∷ []))
    go ih (stopped p q) = let w : suc (length ends) ≡ k = cc q in omega (arith, w)

-- the cases of a table
module _ (s : List ℕ) (at : ℕ) where
  abbrev pub strings_at : Step
  strings_at = keyed_at (text "strings=") strings_limit line_end s at

  pub no_strings : strings_at ≡ off → table_at s at ≡ fault_after 0
  unfolding table_at after
  no_strings e = rw e

  pub with_strings : (n a : ℕ) → strings_at ≡ next n a → table_at s at ≡ strings_from n s a [] []
  unfolding table_at after
  with_strings n a e = rw e

  pub few_strings : (n a : ℕ) → strings_at ≡ next n a → n ≤ strings_limit
  few_strings n a e = keyed_bound (text "strings=") strings_limit line_end s at n a e

  -- at most 4,096 strings, and at most half as many bytes as the text has
  pub table_size : (bs es : List ℕ) (b : ℕ) → table_at s at ≡ table bs es b → (length es ≤ strings_limit) × (2 * length bs ≤ length s)
  unfolding table_at
  table_size bs es b e =
      let p = reached strings_at (fault_after 0) _ (table bs es b) e (λ f. let z : ◌≡◌ {A = ℕ} 0 1 = cc f in omega arith) in
      let r = strings_size p.value s p.place [] [] bs es b p.rest in
      (omega (arith, r.lines, few_strings p.value p.place p.first), omega (arith, r.half))

  pub table_fault : (k : ℕ) → table_at s at ≡ fault_after k → k ≤ strings_limit
  table_fault k e = go strings_at refl
    where
      go : (x : Step) → strings_at ≡ x → k ≤ strings_limit
      go (next n a) q = omega (arith, strings_fault n s a [] [] k (sym (with_strings n a q) ∙ e), few_strings n a q)
      go off q = let w : ◌≡◌ {A = TableRead} (fault_after 0) (fault_after k) = sym (no_strings q) ∙ e in let z : 0 ≡ k = cc w in omega (arith, z)
