-- One function in a module's listing. Assumes nothing.
use mathlib.Core.Path.{◌≡◌, refl, ◌∙◌}
use mathlib.Core.List.{List, [], ◌∷◌, ◌++◌}
use Prim.Native.Nat.{ℕ, ◌+◌, ◌-◌, ◌<◌, ◌≤◌, min, max}
use native.Mathlib.Omega.{arith}
use lib.ListN.{length}
use borrow.Author.Tests.{lt-ltb, le-ltb}
use Rattle.lists.specs.Choice.{pick}
use Rattle.lists.specs.Text.{text}
use Rattle.lists.specs.Write.{Put, top}
use Rattle.lists.proofs.Writes.{◌then◌}
use Rattle.spec_body.specs.Decode.{decode_body}
use Rattle.spec_inputs.specs.Context.{Context}
use Rattle.spec_listing.specs.Options.{Options}
use Rattle.spec_listing.specs.Listing.{Listed, list_decoded, append}
use Rattle.spec_listing.specs.Listing.Listed.{listed, not_listed}
use Rattle.spec_body.specs.Function.{function_body, function_name_id}
use Rattle.spec_listing.specs.Module.{banner, function_name, list_function_in}
use Rattle.operation.specs.Places.{located_of}
use Rattle.operation.proofs.AreaLaws.{by_place}
use Rattle.answers.specs.declared.refusal.Refusal.{Refusal}
use Rattle.answers.specs.declared.refusal.Refusal.TheVariants.{LongLine, TooLarge, NoFunction}
use Rattle.listing.specs.Functions.{area_of}
use Rattle.listing.specs.Bodies.{Written}
use Rattle.listing.specs.Bodies.Written.{whole, stopped}
use Rattle.listing.specs.declared.body.Part.{Part}
use Rattle.std.specs.Prelude.{Result, Ok, Err}
use Rattle.listing.proofs.WrittenLaws.{was_listed, was_stopped}
use Rattle.list_module.specs.Titles.{name_by_id}
use Rattle.list_module.specs.Modules.{titled, list_located}

-- the empty line behind a body that was listed
one_more : (x : Listed) (t : List ℕ) (n : ℕ) → x ≡ listed t n → append x (listed (text "\n") 0) ≡ listed (t ++ (10 ∷ [])) n
unfolding append text
one_more x t n e =
    let m : max n 0 ≡ n = omega arith in
    rw (e, m)

pub line_ended : {lent : ℕ} {x : Listed} {before now after : List ℕ} {start end : ℕ} {p : Part} → Written lent x before start now (Ok p) → Put now p.next (10 ∷ []) after end
    → Written lent (append x (listed (text "\n") 0)) before start after (Ok (record { next = end; entries = p.entries }))
unfolding append
line_ended {x} {end = end} {p = p} w h =
    let t = was_listed w refl in
    whole (t.lines ++ (10 ∷ [])) t.needed (record { next = end; entries = p.entries }) (one_more x t.lines t.needed t.is_text) refl t.counted (t.put then h)

-- nothing behind one that is refused
pub none_behind : {lent : ℕ} {x : Listed} {before now : List ℕ} {start : ℕ} (f : Refusal) → Written lent x before start now (Err f) → Written lent (append x (listed (text "\n") 0)) before start now (Err f)
unfolding append
none_behind f w = stopped f (rw (was_stopped w refl)) refl

-- a title in front of a body
pub under_title : {lent : ℕ} {x : Listed} {before now after : List ℕ} {start k : ℕ} {r : Result Part Refusal} (t : List ℕ) → Put before start t now k → Written lent x now k after r → Written lent (append (listed t 0) x) before start after r
unfolding append
under_title t h (whole u needed p e q c w) =
    let m : max 0 needed ≡ needed = omega arith in
    whole (t ++ u) needed p (rw (e, m)) q c (h then w)
under_title t h (stopped f e q) = stopped f (rw e) q

-- a banner's length by the positions around it
banner_fits : (a n c : ℕ) → a ≤ 1048577 → c ≡ min (a + n) top → c - a ≤ 4096 → (n ≤ 4096) × (c ≡ a + n)
banner_fits a n c h e k = (omega (arith, e), omega (arith, e))

banner_over : (a n c : ℕ) → a ≤ 1048577 → c ≡ min (a + n) top → 4096 < c - a → 4096 < n
banner_over a n c h e k = omega (arith, e)

abbrev pub title_of : Context → ℕ → ℕ → List ℕ
title_of e id name = banner id (name_by_id e.bytes e.ends name)

module _ (o : Options) (e : Context) (lent last id name : ℕ) (s : List ℕ) {before : List ℕ} {«from» : ℕ} (low : «from» ≤ 1048577) where
  pub titled_long : {now : List ℕ} {a : ℕ} → Put before «from» (title_of e id name) now a → 4096 < a - «from» → Written lent (titled o e last id name s) before «from» now (Err (LongLine id))
  unfolding titled function_name name_by_id
  titled_long {now} {a} w h =
      let g : 4096 < length (title_of e id name) = banner_over «from» (length (title_of e id name)) a low w.next h in
      stopped (LongLine id) (rw (lt-ltb 4096 (length (title_of e id name)) g)) refl

  module _ {o₁ o₂ o₃ : List ℕ} {a b : ℕ} (w : Put before «from» (title_of e id name) o₁ a) (h : a - «from» ≤ 4096) (l : Put o₁ a (10 ∷ []) o₂ b) where
    pub titled_listed : {after : List ℕ} {end : ℕ} {p : Part} → Written lent (list_decoded o e (32 ∷ 32 ∷ []) (decode_body e.types last s)) o₂ b o₃ (Ok p) → Put o₃ p.next (10 ∷ []) after end
        → Written lent (titled o e last id name s) before «from» after (Ok (record { next = end; entries = p.entries }))
    unfolding titled function_name name_by_id text
    titled_listed d f =
        let g = banner_fits «from» (length (title_of e id name)) a low w.next h in
        rw (le-ltb 4096 (length (title_of e id name)) g.0) (line_ended (under_title (title_of e id name ++ (10 ∷ [])) (w then l) d) f)

    pub titled_stopped : (f : Refusal) → Written lent (list_decoded o e (32 ∷ 32 ∷ []) (decode_body e.types last s)) o₂ b o₃ (Err f) → Written lent (titled o e last id name s) before «from» o₃ (Err f)
    unfolding titled function_name name_by_id text
    titled_stopped f d =
        let g = banner_fits «from» (length (title_of e id name)) a low w.next h in
        rw (le-ltb 4096 (length (title_of e id name)) g.0) (none_behind f (under_title (title_of e id name ++ (10 ∷ [])) (w then l) d))

-- a function of an area is listed by where it lies
pub in_place : (o : Options) (e : Context) (lent last : ℕ) (functions area : List ℕ) (base id : ℕ) {before after : List ℕ} {«from» : ℕ} {r : Result Part Refusal}
    → Written lent (list_located o e last area id (located_of functions area base id)) before «from» after r → Written lent (list_function_in o e last (area_of functions area base) id) before «from» after r
unfolding list_function_in list_located titled
in_place o e lent last functions area base id w =
    let body = titled o e last id (function_name_id functions id) (function_body functions area base id) in
    let same = by_place functions area base id (list_located o e last area id) (λ b c. pick b (pick c (not_listed TooLarge) body) (not_listed (NoFunction id))) refl refl refl refl (λ c. refl) in
    rw same w
