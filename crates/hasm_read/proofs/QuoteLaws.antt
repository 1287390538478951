-- Laws of the test for a quote, as the code makes it. Assumes nothing.
use mathlib.Core.Path.{◌≡◌, ap}
use mathlib.Core.Bool.{Bool, true, false, not}
use Prim.Native.Nat.{ℕ, suc, ◌-◌}
use native.Mathlib.Omega.{arith}
use mathlib.Core.List.{List}
use borrow.Author.Tests.{eq-eqb, ne_eqb}
use lib.Dec.{eqb}
use lib.ListN.{get_or}
use Rattle.spec_hasm.specs.Comment.{is_quote}
use Rattle.hasm_read.specs.Quotes.{byte_before, quote_at}

module _ (s : List ℕ) (i : ℕ) where
  -- the byte in front of any but the first
  pub before_last : (i ≡ 0 → ⊥) → byte_before s i ≡ get_or s (i - 1) 0
  before_last z =
      let q : i ≡ suc (i - 1) = omega arith in
      ap (byte_before s) q

  -- another byte
  pub no_quote : (escapes : Bool) → (get_or s i 0 ≡ 34 → ⊥) → quote_at escapes s i ≡ false
  unfolding is_quote
  no_quote true h = rw (ne_eqb (get_or s i 0) 34 h)
  no_quote false h = ne_eqb (get_or s i 0) 34 h

  -- a quote, where no byte counts before it
  pub plain_quote : (escapes : Bool) → escapes ≡ false → get_or s i 0 ≡ 34 → quote_at escapes s i ≡ true
  plain_quote escapes e h = rw e (eq-eqb (get_or s i 0) 34 h)

  -- a quote that is the first byte, and a later one
  module _ (escapes : Bool) (e : escapes ≡ true) (h : get_or s i 0 ≡ 34) where
    pub first_quote : i ≡ 0 → quote_at escapes s i ≡ true
    unfolding is_quote
    first_quote z = rw (e, eq-eqb (get_or s i 0) 34 h, z)

    pub later_quote : (i ≡ 0 → ⊥) → quote_at escapes s i ≡ not (eqb (get_or s (i - 1) 0) 92)
    unfolding is_quote
    later_quote z = rw (e, eq-eqb (get_or s i 0) 34 h, before_last z)

-- for the test for a quote
pub ruleset quote_laws = (no_quote, plain_quote, first_quote, later_quote)
