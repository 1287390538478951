-- Quotes at a place in a line, and scans that pass over what stands in them. Assumes nothing.
use Rattle.std.specs.Prelude.{ℕ, suc, Bool, true, false, List, [], ◌∷◌, eqb, get_or}
use Rattle.lists.specs.Choice.{pick}
use Rattle.spec_hasm.specs.Comment.{is_quote}

-- the byte in front of index i; in front of the first it is 0
abbrev pub byte_before : List ℕ → ℕ → ℕ
byte_before s i = get_or (0 ∷ s) i 0

-- whether a byte is a quote: "`strip_comment` honours a backslash before a quote; the operand splitter doesn't"
abbrev pub quote_by : Bool → ℕ → ℕ → Bool
quote_by true before b = is_quote before b
quote_by false before b = eqb b 34

-- whether one stands at i
abbrev pub quote_at : Bool → List ℕ → ℕ → Bool
quote_at escapes s i = quote_by escapes (byte_before s i) (get_or s i 0)

-- "A scan outside quotes hands over at each quote to one inside, and back": how many bytes stand before the place where it stops,
-- all of them where there is none; `before` is the byte in front of them
unfoldable mutual
  pub outside_by : Bool → (List ℕ → Bool) → ℕ → List ℕ → ℕ
  outside_by escapes stop before [] = 0
  outside_by escapes stop before (b ∷ s) =
      pick (quote_by escapes before b) (suc (inside_by escapes stop b s)) (pick (stop (b ∷ s)) 0 (suc (outside_by escapes stop b s)))

  pub inside_by : Bool → (List ℕ → Bool) → ℕ → List ℕ → ℕ
  inside_by escapes stop before [] = 0
  inside_by escapes stop before (b ∷ s) = pick (quote_by escapes before b) (suc (outside_by escapes stop b s)) (suc (inside_by escapes stop b s))
