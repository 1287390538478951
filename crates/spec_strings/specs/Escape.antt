-- Escapes as util.rs writes them and as `unquote` of parse.rs reads them (document 01, 'Strings'). Assumes nothing.
use Rattle.std.specs.Prelude.{ℕ, Bool, true, false, List, [], ◌∷◌, ◌++◌, eqb, leb}
use Rattle.lists.specs.Choice.{pick, within}
use Rattle.spec_numbers.specs.Print.{hex_upper, hex_upper4}
use Rattle.spec_strings.specs.Utf8.{chars}

-- a backslash and one character
abbrev pub escaped : ℕ → List ℕ
escaped c = 92 ∷ c ∷ []

-- "`\u` with four upper-case hex digits, or `\u{..}` without padding above 0xFFFF"
unfoldable pub unicode : ℕ → List ℕ
unicode c = pick (leb c 65535) (92 ∷ 117 ∷ hex_upper4 c) (92 ∷ 117 ∷ 123 ∷ hex_upper c ++ (125 ∷ []))

-- one character: `\"`, `\\`, `\n`, `\r`, `\t`, `\0`; 32 to 126 as is; others by their number
unfoldable pub escape : ℕ → List ℕ
escape c =
    pick (eqb c 34) (escaped 34)
    (pick (eqb c 92) (escaped 92)
    (pick (eqb c 10) (escaped 110)
    (pick (eqb c 13) (escaped 114)
    (pick (eqb c 9) (escaped 116)
    (pick (eqb c 0) (escaped 48)
    (pick (within 32 126 c) (c ∷ []) (unicode c)))))))

unfoldable pub escape_all : List ℕ → List ℕ
escape_all [] = []
escape_all (c ∷ cs) = escape c ++ escape_all cs

-- `escape_js_string_bare` of a text by its bytes, and `escape_js_string`
unfoldable pub escape_text : List ℕ → List ℕ
escape_text s = escape_all (chars s)

unfoldable pub quoted : List ℕ → List ℕ
quoted s = 34 ∷ escape_text s ++ (34 ∷ [])

-- what a character means behind a backslash: itself, but for n, t and r
unfoldable pub meant : ℕ → ℕ
meant b = pick (eqb b 110) 10 (pick (eqb b 116) 9 (pick (eqb b 114) 13 b))

-- what stands between the quotes, read; the flag says that a backslash came just before, and one at the end is dropped
unfoldable pub unescape : Bool → List ℕ → List ℕ
unescape slash [] = []
unescape true (b ∷ s) = meant b ∷ unescape false s
unescape false (b ∷ s) = elim (eqb b 92) [ true ↦ unescape true s | false ↦ b ∷ unescape false s ]
