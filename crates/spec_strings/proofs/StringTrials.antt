-- Texts, tables and escapes of the document and at the ends of every range, by computing the definitions. Assumes nothing.
use mathlib.Core.Path.{◌≡◌, refl}
use mathlib.Core.Bool.{true, false}
use mathlib.Core.List.{List, [], ◌∷◌}
use Prim.Native.Nat.{ℕ}
use lib.ListN.{length}
use Rattle.lists.specs.Text.{text}
use Rattle.lists.specs.Scan.{same, all}
use Rattle.lists.specs.Found.Found.{found, missing}
use Rattle.spec_numbers.specs.Print.{digit, digits, padded, hex_upper, hex_upper4}
use Rattle.spec_strings.specs.Utf8.{after_lead, after_next, step, utf8_from, is_utf8, lead_bits, bits_after, chars_from}
use Rattle.spec_strings.specs.Table.{is_too_large, well_formed, fault_from, fault, lookup_from, lookup}
use Rattle.spec_strings.specs.Escape.{unicode, escape, escape_all, escape_text, quoted, meant, unescape}
use Rattle.spec_strings.specs.Plain.{plain_byte, plain}

-- characters by their numbers: é, U+1F600, DEL, ESC, and the ends of four digits and of braces
pub numbered_escapes : (escape_text (0xC3 ∷ 0xA9 ∷ []) ≡ text "\\u00E9")
    × (escape_text (0xF0 ∷ 0x9F ∷ 0x98 ∷ 0x80 ∷ []) ≡ text "\\u{1F600}")
    × (escape_text (0x7F ∷ []) ≡ text "\\u007F")
    × (escape_text (0x1B ∷ []) ≡ text "\\u001B")
    × (escape_text (0xEF ∷ 0xBF ∷ 0xBF ∷ []) ≡ text "\\uFFFF")
    × (escape_text (0xF0 ∷ 0x90 ∷ 0x80 ∷ 0x80 ∷ []) ≡ text "\\u{10000}")
    × (escape_text (0xF4 ∷ 0x8F ∷ 0xBF ∷ 0xBF ∷ []) ≡ text "\\u{10FFFF}")
unfolding text escape_text escape_all chars_from bits_after lead_bits step after_lead after_next escape unicode hex_upper4 hex_upper padded digits digit
numbered_escapes = (refl, refl, refl, refl, refl, refl, refl)

-- tab, line feed, carriage return, NUL, quote and backslash; 32 and 126 as they are
pub short_escapes : (escape_text (0x09 ∷ []) ≡ text "\\t")
    × (escape_text (0x0A ∷ []) ≡ text "\\n")
    × (escape_text (0x0D ∷ []) ≡ text "\\r")
    × (escape_text (0x00 ∷ []) ≡ text "\\0")
    × (escape_text (0x22 ∷ []) ≡ 92 ∷ 34 ∷ [])
    × (escape_text (0x5C ∷ []) ≡ 92 ∷ 92 ∷ [])
    × (escape_text (0x20 ∷ 0x7E ∷ []) ≡ text " ~")
unfolding text escape_text escape_all chars_from bits_after lead_bits step after_lead after_next escape unicode hex_upper4 hex_upper padded digits digit
short_escapes = (refl, refl, refl, refl, refl, refl, refl)

-- a text in its quotes
pub quoted_text : (quoted (text "a,b") ≡ 34 ∷ 97 ∷ 44 ∷ 98 ∷ 34 ∷ [])
unfolding quoted text escape_text escape_all chars_from bits_after lead_bits step after_lead after_next escape unicode hex_upper4 hex_upper padded digits digit
quoted_text = refl

-- `u` and `0` behind a backslash stand for themselves, and a backslash at the end is dropped
pub texts_read : (unescape false (text "\\u00E9") ≡ text "u00E9")
    × (unescape false (text "\\0") ≡ text "0")
    × (unescape false (text "\\n\\t\\r\\\\") ≡ 10 ∷ 9 ∷ 13 ∷ 92 ∷ [])
    × (unescape false (92 ∷ 34 ∷ 97 ∷ []) ≡ 34 ∷ 97 ∷ [])
    × (unescape false (97 ∷ 92 ∷ []) ≡ 97 ∷ [])
unfolding text unescape meant
texts_read = (refl, refl, refl, refl, refl)

-- overlong forms, surrogates, what is above 10FFFF, and cut and stray bytes
pub utf8_refused : (is_utf8 (0xC0 ∷ 0x80 ∷ []) ≡ false)
    × (is_utf8 (0xC1 ∷ 0xBF ∷ []) ≡ false)
    × (is_utf8 (0xE0 ∷ 0x80 ∷ 0x80 ∷ []) ≡ false)
    × (is_utf8 (0xE0 ∷ 0x9F ∷ 0xBF ∷ []) ≡ false)
    × (is_utf8 (0xF0 ∷ 0x80 ∷ 0x80 ∷ 0x80 ∷ []) ≡ false)
    × (is_utf8 (0xF0 ∷ 0x8F ∷ 0xBF ∷ 0xBF ∷ []) ≡ false)
    × (is_utf8 (0xED ∷ 0xA0 ∷ 0x80 ∷ []) ≡ false)
    × (is_utf8 (0xED ∷ 0xBF ∷ 0xBF ∷ []) ≡ false)
    × (is_utf8 (0xF4 ∷ 0x90 ∷ 0x80 ∷ 0x80 ∷ []) ≡ false)
    × (is_utf8 (0xF5 ∷ 0x80 ∷ 0x80 ∷ 0x80 ∷ []) ≡ false)
    × (is_utf8 (0xC3 ∷ []) ≡ false)
    × (is_utf8 (0xF0 ∷ 0x9F ∷ 0x98 ∷ []) ≡ false)
    × (is_utf8 (0x80 ∷ []) ≡ false)
    × (is_utf8 (0xC3 ∷ 0x41 ∷ []) ≡ false)
    × (is_utf8 (0xFF ∷ []) ≡ false)
unfolding utf8_from step after_lead after_next
utf8_refused = (refl, refl, refl, refl, refl, refl, refl, refl, refl, refl, refl, refl, refl, refl, refl)

-- the ends of every range
pub utf8_accepted : (is_utf8 [] ≡ true)
    × (is_utf8 (0x7F ∷ []) ≡ true)
    × (is_utf8 (0xC2 ∷ 0x80 ∷ []) ≡ true)
    × (is_utf8 (0xDF ∷ 0xBF ∷ []) ≡ true)
    × (is_utf8 (0xE0 ∷ 0xA0 ∷ 0x80 ∷ []) ≡ true)
    × (is_utf8 (0xED ∷ 0x9F ∷ 0xBF ∷ []) ≡ true)
    × (is_utf8 (0xEE ∷ 0x80 ∷ 0x80 ∷ []) ≡ true)
    × (is_utf8 (0xEF ∷ 0xBF ∷ 0xBF ∷ []) ≡ true)
    × (is_utf8 (0xF0 ∷ 0x90 ∷ 0x80 ∷ 0x80 ∷ []) ≡ true)
    × (is_utf8 (0xF4 ∷ 0x8F ∷ 0xBF ∷ 0xBF ∷ []) ≡ true)
unfolding utf8_from step after_lead after_next
utf8_accepted = (refl, refl, refl, refl, refl, refl, refl, refl, refl, refl)

-- the ends fall, an end passes the bytes, an entry is no UTF-8, a character is split
pub tables_refused : (fault (text "ab") (1 ∷ 0 ∷ []) ≡ found 1)
    × (fault (text "ab") (1 ∷ 2 ∷ 3 ∷ []) ≡ found 2)
    × (fault (97 ∷ 128 ∷ 98 ∷ []) (1 ∷ 2 ∷ 3 ∷ []) ≡ found 1)
    × (fault (0xC3 ∷ 0xA9 ∷ []) (1 ∷ 2 ∷ []) ≡ found 0)
unfolding text fault_from well_formed utf8_from step after_lead after_next
tables_refused = (refl, refl, refl, refl)

-- the table of document 01, "a,b" and é; no entry; empty entries
pub tables_accepted : (fault (0x61 ∷ 0x2C ∷ 0x62 ∷ 0xC3 ∷ 0xA9 ∷ []) (3 ∷ 5 ∷ []) ≡ missing)
    × (fault [] [] ≡ missing)
    × (fault [] (0 ∷ 0 ∷ []) ≡ missing)
unfolding text fault_from well_formed utf8_from step after_lead after_next
tables_accepted = (refl, refl, refl)

-- the first of two equal texts, the empty text, and none
pub lookups : (lookup (text "ab") (text "xababc") (1 ∷ 3 ∷ 5 ∷ 6 ∷ []) ≡ found 1)
    × (lookup [] (text "ab") (1 ∷ 1 ∷ 2 ∷ []) ≡ found 1)
    × (lookup (text "b") (text "abc") (1 ∷ 3 ∷ []) ≡ missing)
unfolding text lookup_from same
lookups = (refl, refl, refl)

-- a backslash inside, white space, and nothing
pub plain_texts : (plain (text "a,b \\ ~") ≡ true)
    × (plain (9 ∷ 10 ∷ 13 ∷ []) ≡ true)
    × (plain [] ≡ true)
unfolding text plain plain_byte all
plain_texts = (refl, refl, refl)

-- a quote, a backslash at the end, é, NUL, DEL
pub not_plain_texts : (plain (97 ∷ 34 ∷ 98 ∷ []) ≡ false)
    × (plain (97 ∷ 92 ∷ []) ≡ false)
    × (plain (195 ∷ 169 ∷ []) ≡ false)
    × (plain (0 ∷ []) ≡ false)
    × (plain (127 ∷ []) ≡ false)
unfolding plain plain_byte all
not_plain_texts = (refl, refl, refl, refl, refl)

-- 65,536 strings and 1,048,576 bytes are taken, and one more of either is not
pub largest_table : (bytes ends : List ℕ) → length ends ≡ 65536 → length bytes ≡ 1048576 → is_too_large bytes ends ≡ false
unfolding is_too_large
largest_table bytes ends e b = rw (e, b)

-- one string more
pub too_many_strings : (bytes ends : List ℕ) → length ends ≡ 65537 → is_too_large bytes ends ≡ true
unfolding is_too_large
too_many_strings bytes ends e = rw e

-- one byte more
pub too_many_bytes : (bytes ends : List ℕ) → length ends ≡ 0 → length bytes ≡ 1048577 → is_too_large bytes ends ≡ true
unfolding is_too_large
too_many_bytes bytes ends e b = rw (e, b)
