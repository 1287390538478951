-- The loop over a module's functions. Assumes nothing.
use mathlib.Core.Path.{◌≡◌, refl, ◌∙◌}
use mathlib.Core.List.{List, [], ◌++◌, append_assoc, append-nil}
use Prim.Native.Nat.{ℕ, suc, ◌+◌, ◌-◌, ◌<◌, ◌≤◌, min, max}
use native.Mathlib.Numerals.{add-one}
use native.Mathlib.Omega.{arith}
use lib.ListN.{length, length-append}
use Rattle.lists.specs.Write.{Put, top}
use Rattle.lists.proofs.Tests.{by_leb}
use Rattle.lists.proofs.Writes.{◌then◌, wrote_none, kept_length}
use Rattle.spec_body.specs.Function.{function_count}
use Rattle.spec_inputs.specs.Context.{Context}
use Rattle.spec_listing.specs.Options.{Options}
use Rattle.spec_listing.specs.Listing.{Listed, append}
use Rattle.spec_listing.specs.Listing.Listed.{listed, not_listed}
use Rattle.spec_listing.specs.Module.{Area, list_function_in, list_functions_from, list_all}
use Rattle.list_labels.specs.Collecting.{EntriesFor}
use Rattle.listing.specs.Bodies.{Written}
use Rattle.listing.specs.declared.body.Part.{Part}
use Rattle.std.specs.Prelude.{Result, Ok, Err}
use Rattle.listing.proofs.WrittenLaws.{Text, was_listed, was_stopped}
use Rattle.answers.specs.declared.refusal.Refusal.{Refusal}
use Rattle.list_module.specs.Modules.{ModuleWritten}
use Rattle.list_module.specs.Modules.ModuleWritten.{within, over, ended}

-- nothing in front of a listing, nothing behind one, and three in a row
append_first : (x : Listed) → x ≡ append (listed [] 0) x
unfolding append
append_first (listed t n) =
    let m : max 0 n ≡ n = omega arith in
    rw m
append_first (not_listed x) = refl

append_last : (t : List ℕ) (n : ℕ) → append (listed t n) (listed [] 0) ≡ listed t n
unfolding append
append_last t n =
    let m : max n 0 ≡ n = omega arith in
    rw (append-nil t, m)

append_both : (t u : List ℕ) (n m : ℕ) (x : Listed) → append (listed t n) (append (listed u m) x) ≡ append (listed (t ++ u) (max n m)) x
unfolding append
append_both t u n m (listed v k) =
    let z : max n (max m k) ≡ max (max n m) k = omega arith in
    rw (append_assoc t u v, z)
append_both t u n m (not_listed x) = refl

-- the entries of several functions: the most that one needs
most_entries : {lent a b m n : ℕ} → EntriesFor lent a m → EntriesFor lent b n → EntriesFor lent (max a b) (max m n)
most_entries {lent} {a} {b} {m} {n} x y = (
  omega (arith, x.0, y.0),
  λ h. by_leb m lent
      (λ l. by_leb n lent (λ k. absurd (omega arith)) (λ k. omega (arith, x.0, y.1 k)))
      (λ l. by_leb n lent (λ k. omega (arith, x.1 l, y.0)) (λ k. omega (arith, x.1 l, y.1 k))),
)

-- the listing of the functions so far, before `rest`; its text is in the buffer while it is within the limit
pub record Going (lent : ℕ) (whole rest : Listed) (out₀ out : List ℕ) (at most : ℕ) : Type 0 where
  pub so_far : List ℕ
  pub needed : ℕ
  pub is_whole : whole ≡ append (listed so_far needed) rest
  pub counted : EntriesFor lent needed most
  pub at_is : at ≡ min (length so_far) 1048577
  pub put : at ≤ 1048576 → Put out₀ 0 so_far out at
  pub same_size : length out ≡ length out₀

module _ {lent : ℕ} {whole : Listed} {out₀ : List ℕ} where
  start : length out₀ ≤ top → Going lent whole whole out₀ out₀ 0 0
  start h = record { so_far = []; needed = 0; is_whole = append_first whole; counted = (omega arith, λ l. refl); at_is = refl; put = λ l. wrote_none h (omega arith); same_size = refl }

  turn_text : {x rest : Listed} {out out' : List ℕ} {at most : ℕ} {p : Part} → Going lent whole (append x rest) out₀ out at most → Text lent x out at out' p → Going lent whole rest out₀ out' (min p.next 1048577) (max most p.entries)
  turn_text {x} {rest} {out} {out'} {at} {most} {p} g w =
      let l = length-append g.so_far w.lines in
      record {
        so_far = g.so_far ++ w.lines;
        needed = max g.needed w.needed;
        is_whole = g.is_whole ∙ rw w.is_text (append_both g.so_far w.lines g.needed w.needed rest);
        counted = most_entries g.counted w.counted;
        at_is = omega (arith, g.at_is, w.put.next, l);
        put = λ h.
            let e : min p.next 1048577 ≡ p.next = omega arith in
            let f : at ≤ 1048576 = omega (arith, w.put.next, g.at_is) in
            rw e (g.put f then w.put);
        same_size = kept_length w.put ∙ g.same_size;
      }

  -- a function that is listed, one that is refused, and the end
  turn : {x more rest : Listed} {out out' : List ℕ} {at most at' most' : ℕ} {p : Part} {r : Result Part Refusal} → Going lent whole more out₀ out at most → more ≡ append x rest
      → Written lent x out at out' r → r ≡ Ok p → at' ≡ min p.next 1048577 → most' ≡ max most p.entries → Going lent whole rest out₀ out' at' most'
  turn g e w q a m = rw (a, m) (turn_text (rw e at g) (was_listed w q))

  stopped : (rest : Listed) {x more : Listed} {out out' after : List ℕ} {at most : ℕ} {r r' : Result Part Refusal} (f : Refusal) → Going lent whole more out₀ out at most → more ≡ append x rest
      → Written lent x out at out' r → r ≡ Err f → r' ≡ Err f → ModuleWritten lent whole out₀ after r'
  unfolding append
  stopped rest f g e w q h = ended f (g.is_whole ∙ rw (e, was_stopped w q)) h

  finished : {out : List ℕ} {at most : ℕ} → Going lent whole (listed [] 0) out₀ out at most → ModuleWritten lent whole out₀ out (Ok (record { next = at; entries = most }))
  finished {out} {at} {most} g =
      let e = g.is_whole ∙ append_last g.so_far g.needed in
      by_leb at 1048576
      (λ l. within g.so_far g.needed (record { next = at; entries = most }) e refl g.counted (g.put l))
      (λ l. over g.so_far g.needed (record { next = at; entries = most }) e refl l (omega (arith, g.at_is)) g.same_size)

-- the functions from `id` on
module _ (o : Options) (e : Context) (lent last : ℕ) (a : Area) where
  abbrev pub rest_from : ℕ → Listed
  rest_from id = list_functions_from (function_count a.functions - id) o e last a id

  rest_more : (id : ℕ) → id < function_count a.functions → rest_from id ≡ append (list_function_in o e last a id) (rest_from (id + 1))
  unfolding list_functions_from
  rest_more id h =
      let n : function_count a.functions - id ≡ suc (function_count a.functions - (id + 1)) = omega arith in
      rw (n, list_functions_from, add-one)

  rest_none : (id : ℕ) → function_count a.functions ≤ id → rest_from id ≡ listed [] 0
  unfolding list_functions_from
  rest_none id h =
      let n : function_count a.functions - id ≡ 0 = omega arith in
      rw (n, list_functions_from)

  abbrev pub Listing : List ℕ → List ℕ → ℕ → ℕ → ℕ → Type 0
  Listing out₀ out id at most = Going lent (list_all o e last a) (rest_from id) out₀ out at most

  module _ {out₀ : List ℕ} where
    pub listing_start : length out₀ ≤ top → Listing out₀ out₀ 0 0 0
    listing_start h =
        let n : function_count a.functions - 0 ≡ function_count a.functions = omega arith in
        rw n (start h)

    pub listing_turn : {out out' : List ℕ} {id at most at' most' : ℕ} {p : Part} {r : Result Part Refusal} → Listing out₀ out id at most → id < function_count a.functions
        → Written lent (list_function_in o e last a id) out at out' r → r ≡ Ok p → at' ≡ min p.next 1048577 → most' ≡ max most p.entries → Listing out₀ out' (id + 1) at' most'
    listing_turn {id = id} g h w q z y = turn g (rest_more id h) w q z y

    pub listing_stopped : {out out' after : List ℕ} {id at most : ℕ} {r r' : Result Part Refusal} (f : Refusal) → Listing out₀ out id at most → id < function_count a.functions
        → Written lent (list_function_in o e last a id) out at out' r → r ≡ Err f → r' ≡ Err f → ModuleWritten lent (list_all o e last a) out₀ after r'
    listing_stopped {id = id} f g h w q z = stopped (rest_from (id + 1)) f g (rest_more id h) w q z

    pub listing_finished : {out : List ℕ} {id at most : ℕ} → Listing out₀ out id at most → function_count a.functions ≤ id → ModuleWritten lent (list_all o e last a) out₀ out (Ok (record { next = at; entries = most }))
    listing_finished {id = id} g h = finished (rw (rest_none id h) at g)
