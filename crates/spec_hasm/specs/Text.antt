-- The lines of a text and what stands of one: `lines` and `trim` of Rust's str. Assumes nothing.
use Rattle.std.specs.Prelude.{Bool, not, List, [], ◌∷◌, ℕ, suc, eqb, get_or, take, drop}
use Rattle.lists.specs.Choice.{pick, both, either, within}
use Rattle.lists.specs.Scan.{run}

-- a byte in front of the first of some parts
unfoldable pub onto : ℕ → List (List ℕ) → List (List ℕ)
onto b [] = (b ∷ []) ∷ []
onto b (p ∷ ps) = (b ∷ p) ∷ ps

-- the lines of a text, each without its end, LF or CR LF; nothing behind the last end is no line
unfoldable pub lines_of : List ℕ → List (List ℕ)
lines_of [] = []
lines_of (b ∷ s) =
    let rest = lines_of s in
    pick (eqb b 10) ([] ∷ rest) (pick (both (eqb b 13) (eqb (get_or s 0 0) 10)) rest (onto b rest))

-- white space: `char::is_whitespace` of ASCII
unfoldable pub is_white : ℕ → Bool
is_white b = either (within 9 13 b) (eqb b 32)

abbrev pub is_solid : ℕ → Bool
is_solid b = not (is_white b)

-- `trim_start`
abbrev pub trim_start : List ℕ → List ℕ
trim_start s = drop (run is_white s) s

-- how many bytes there are up to the last one that is no white space
unfoldable pub solid_length : List ℕ → ℕ
solid_length [] = 0
solid_length (b ∷ s) =
    let rest = solid_length s in
    pick (eqb rest 0) (pick (is_white b) 0 1) (suc rest)

-- `trim`
abbrev pub trim_end : List ℕ → List ℕ
trim_end s = take (solid_length s) s

unfoldable pub trim : List ℕ → List ℕ
trim s = trim_end (trim_start s)
