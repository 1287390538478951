-- UTF-8 as Rust's `str::from_utf8` takes it (the Unicode standard's table of well-formed byte sequences). Assumes nothing.
use Rattle.std.specs.Prelude.{ℕ, ◌+◌, ◌-◌, ◌*◌, Bool, List, [], ◌∷◌, eqb, ltb}
use Rattle.lists.specs.Choice.{pick, within}

-- Where a reader stands: 0 between characters; 1, 2, 3 with so many continuation bytes to come;
-- 4 behind E0 (no overlong form), 5 behind ED (no surrogate), 6 behind F0 (no overlong form),
-- 7 behind F4 (nothing above 10FFFF); 8 behind a byte that fits nowhere.
abbrev pub broken : ℕ
broken = 8

-- behind the first byte of a character
unfoldable pub after_lead : ℕ → ℕ
after_lead b =
    pick (ltb b 128) 0
    (pick (within 194 223 b) 1
    (pick (eqb b 224) 4
    (pick (eqb b 237) 5
    (pick (within 225 239 b) 2
    (pick (eqb b 240) 6
    (pick (within 241 243 b) 3
    (pick (eqb b 244) 7 broken)))))))

-- behind a continuation byte
unfoldable pub after_next : ℕ → ℕ → ℕ
after_next st b =
    pick (eqb st 1) (pick (within 128 191 b) 0 broken)
    (pick (eqb st 2) (pick (within 128 191 b) 1 broken)
    (pick (eqb st 3) (pick (within 128 191 b) 2 broken)
    (pick (eqb st 4) (pick (within 160 191 b) 1 broken)
    (pick (eqb st 5) (pick (within 128 159 b) 1 broken)
    (pick (eqb st 6) (pick (within 144 191 b) 2 broken)
    (pick (eqb st 7) (pick (within 128 143 b) 2 broken) broken))))))

unfoldable pub step : ℕ → ℕ → ℕ
step st b = pick (eqb st 0) (after_lead b) (after_next st b)

-- the bytes complete every character, read from a place on
unfoldable pub utf8_from : ℕ → List ℕ → Bool
utf8_from st [] = eqb st 0
utf8_from st (b ∷ s) = utf8_from (step st b) s

abbrev pub is_utf8 : List ℕ → Bool
is_utf8 s = utf8_from 0 s

-- the bits of a character so far: those of its first byte, then six more a byte
unfoldable pub lead_bits : ℕ → ℕ
lead_bits b = pick (ltb b 128) b (pick (ltb b 224) (b - 192) (pick (ltb b 240) (b - 224) (b - 240)))

unfoldable pub bits_after : ℕ → ℕ → ℕ → ℕ
bits_after st acc b = pick (eqb st 0) (lead_bits b) (acc * 64 + (b - 128))

-- the characters' numbers, read from a place on with `acc` of a character begun; what breaks the form ends them
unfoldable pub chars_from : ℕ → ℕ → List ℕ → List ℕ
chars_from st acc [] = []
chars_from st acc (b ∷ s) =
    let whole = bits_after st acc b ∷ chars_from 0 0 s in
    let more = chars_from (step st b) (bits_after st acc b) s in
    pick (eqb (step st b) 0) whole (pick (eqb (step st b) broken) [] more)

abbrev pub chars : List ℕ → List ℕ
chars s = chars_from 0 0 s
