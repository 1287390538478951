-- Laws of bytes in hex, case by case, and how much text they take. Assumes nothing.
use mathlib.Core.Path.{◌≡◌, refl, ap, sym}
use mathlib.Core.Bool.{Bool, true, false}
use mathlib.Core.List.{List, [], ◌∷◌}
use Prim.Native.Nat.{ℕ, zero, suc, ◌+◌, ◌*◌, ◌≤◌, ◌<◌}
use native.Mathlib.Omega.{arith}
use lib.Dec.{eqb, ltb}
use lib.ListN.{length, get_or, get_or-eq_default}
use borrow.Author.Tests.{eq-eqb, ne_eqb, lt-ltb, le-ltb, eqb-true}
use Rattle.lists.specs.Choice.{pick, both}
use Rattle.lists.proofs.Tests.{both_no_right}
use Rattle.lists.proofs.Parts.{inside}
use Rattle.spec_numbers.specs.Parse.{digit_value}
use Rattle.spec_job.specs.Hex.{HexRead, with_byte, hex_from}
use Rattle.spec_job.specs.Hex.HexRead.{hex, no_hex}

module _ (s : List ℕ) (at : ℕ) where
  -- the end of the line
  pub hex_ended : (f : ℕ) → get_or s at 0 ≡ 10 → hex_from f s at ≡ hex [] (at + 1)
  unfolding hex_from
  hex_ended zero e = rw (hex_from, eq-eqb (get_or s at 0) 10 e)
  hex_ended (suc f) e = rw (hex_from, eq-eqb (get_or s at 0) 10 e)

  module _ (n : get_or s at 0 ≡ 10 → ⊥) where
    -- two digits
    pub hex_byte : (f : ℕ) → digit_value (get_or s at 0) < 16 → digit_value (get_or s (at + 1) 0) < 16
        → hex_from (suc f) s at ≡ with_byte (16 * digit_value (get_or s at 0) + digit_value (get_or s (at + 1) 0)) (hex_from f s (at + 2))
    unfolding hex_from
    hex_byte f h l = rw (hex_from, ne_eqb (get_or s at 0) 10 n, lt-ltb (digit_value (get_or s at 0)) 16 h, lt-ltb (digit_value (get_or s (at + 1) 0)) 16 l)

    -- no digit, and one only
    pub hex_high : (f : ℕ) → 16 ≤ digit_value (get_or s at 0) → hex_from f s at ≡ no_hex
    unfolding hex_from
    hex_high zero h = rw (hex_from, ne_eqb (get_or s at 0) 10 n)
    hex_high (suc f) h = rw (hex_from, ne_eqb (get_or s at 0) 10 n, le-ltb (digit_value (get_or s at 0)) 16 h)

    pub hex_low : (f : ℕ) → 16 ≤ digit_value (get_or s (at + 1) 0) → hex_from f s at ≡ no_hex
    unfolding hex_from
    hex_low zero h = rw (hex_from, ne_eqb (get_or s at 0) 10 n)
    hex_low (suc f) h =
        rw (hex_from, ne_eqb (get_or s at 0) 10 n, both_no_right (ltb (digit_value (get_or s at 0)) 16) (ltb (digit_value (get_or s (at + 1) 0)) 16) (le-ltb (digit_value (get_or s (at + 1) 0)) 16 h))

  -- behind the text
  pub hex_past : (f : ℕ) → length s ≤ at → hex_from f s at ≡ no_hex
  unfolding digit_value
  hex_past f h =
      let e : get_or s at 0 ≡ 0 = get_or-eq_default s 0 h in
      let d : digit_value (get_or s at 0) ≡ 16 = rw e in
      hex_high (λ q. omega (arith, e, q)) f (omega (arith, d))

-- a line of hex: two digits a byte and its end, all of it in the text
pub record Spread (s : List ℕ) (at : ℕ) (bs : List ℕ) (b : ℕ) : Type 0 where
  pub takes : b ≡ at + 2 * length bs + 1
  pub inside_text : b ≤ length s

-- what a byte and a line behind it come from
record Split (c : ℕ) (x : HexRead) (bs : List ℕ) (b : ℕ) : Type 0 where
  behind : List ℕ
  is_behind : x ≡ hex behind b
  joined : bs ≡ c ∷ behind

was_byte : (c : ℕ) (x : HexRead) (bs : List ℕ) (b : ℕ) → with_byte c x ≡ hex bs b → Split c x bs b
unfolding with_byte
was_byte c (hex cs a) bs b e =
    let p : c ∷ cs ≡ bs = cc e in
    let q : a ≡ b = cc e in
    record { behind = cs; is_behind = ap (hex cs) q; joined = sym p }
was_byte c no_hex bs b e = absurd (let z : ◌≡◌ {A = ℕ} 0 1 = cc e in omega arith)

ended_spread : (s : List ℕ) (at : ℕ) (bs : List ℕ) (b : ℕ) → get_or s at 0 ≡ 10 → hex [] (at + 1) ≡ hex bs b → Spread s at bs b
ended_spread s at bs b e q =
    let p : [] ≡ bs = cc q in
    let r : at + 1 ≡ b = cc q in
    let l : length bs ≡ 0 = sym (ap length p) in
    record { takes = omega (arith, r, l); inside_text = omega (arith, r, inside s at (λ z. omega (arith, z, e))) }

pub hex_spread : (f : ℕ) (s : List ℕ) (at : ℕ) (bs : List ℕ) (b : ℕ) → hex_from f s at ≡ hex bs b → Spread s at bs b
unfolding hex_from
hex_spread zero s at bs b e = last (eqb (get_or s at 0) 10) refl e
  where
    last : (t : Bool) → eqb (get_or s at 0) 10 ≡ t → pick t (hex [] (at + 1)) no_hex ≡ hex bs b → Spread s at bs b
    last true q e = ended_spread s at bs b (eqb-true (get_or s at 0) 10 q) e
    last false q e = absurd (let z : ◌≡◌ {A = ℕ} 0 1 = cc e in omega arith)
hex_spread (suc f) s at bs b e = first (hex_spread f s (at + 2)) (eqb (get_or s at 0) 10) refl e
  where
    high : ℕ
    high = digit_value (get_or s at 0)

    low : ℕ
    low = digit_value (get_or s (at + 1) 0)

    more : ((cs : List ℕ) (d : ℕ) → hex_from f s (at + 2) ≡ hex cs d → Spread s (at + 2) cs d)
        → (t : Bool) → pick t (with_byte (16 * high + low) (hex_from f s (at + 2))) no_hex ≡ hex bs b → Spread s at bs b
    more ih true e =
        let w = was_byte (16 * high + low) (hex_from f s (at + 2)) bs b e in
        let r = ih w.behind b w.is_behind in
        let l : length bs ≡ suc (length w.behind) = ap length w.joined in
        record { takes = omega (arith, r.takes, l); inside_text = r.inside_text }
    more ih false e = absurd (let z : ◌≡◌ {A = ℕ} 0 1 = cc e in omega arith)

    first : ((cs : List ℕ) (d : ℕ) → hex_from f s (at + 2) ≡ hex cs d → Spread s (at + 2) cs d)
        → (t : Bool) → eqb (get_or s at 0) 10 ≡ t
        → pick t (hex [] (at + 1)) (pick (both (ltb high 16) (ltb low 16)) (with_byte (16 * high + low) (hex_from f s (at + 2))) no_hex) ≡ hex bs b → Spread s at bs b
    first ih true q e = ended_spread s at bs b (eqb-true (get_or s at 0) 10 q) e
    first ih false q e = more ih (both (ltb high 16) (ltb low 16)) e
