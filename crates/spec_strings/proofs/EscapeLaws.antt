-- Laws of escapes: a plain text is read back, what its escape is made of, and how long an escape is. Assumes nothing.
use mathlib.Core.Path.{◌≡◌, refl, ap, sym, ◌∙◌}
use mathlib.Core.Bool.{Bool, true, false, not}
use Prim.Native.Nat.{ℕ, suc, ◌+◌, ◌-◌, ◌*◌, ◌^◌, ◌≤◌, ◌<◌}
use native.Mathlib.Omega.{arith}
use mathlib.Core.List.{List, [], ◌∷◌, ◌++◌, append-nil}
use lib.Dec.{eqb}
use borrow.Author.Tests.{ne_eqb, le-leb, lt-leb, lt-ltb, eqb-false}
use lib.ListN.{length, get_or, length-append}
use lib.Seq.{get_or-append-add}
use Rattle.lists.specs.Choice.{pick, both, within}
use Rattle.lists.specs.Scan.{all}
use Rattle.lists.proofs.Tests.{both_left, both_right, both_yes, by_eqb, by_leb, not-true, within_least, within_most}
use Rattle.lists.proofs.Scans.{all_append}
use Rattle.spec_numbers.specs.Print.{hex_upper, hex_upper4}
use Rattle.spec_numbers.proofs.PrintLaws.{digits_few, padded_length}
use Rattle.spec_strings.specs.Escape.{escaped, unicode, escape, escape_all, escape_text, meant, unescape}
use Rattle.spec_strings.specs.Plain.{plain_byte, plain}
use Rattle.spec_strings.proofs.Utf8Laws.{ascii, ascii_chars}

-- a character without a short escape
pub escape_long : (c : ℕ) → (c ≡ 34 → ⊥) → (c ≡ 92 → ⊥) → (c ≡ 10 → ⊥) → (c ≡ 13 → ⊥) → (c ≡ 9 → ⊥) → (c ≡ 0 → ⊥)
    → escape c ≡ pick (within 32 126 c) (c ∷ []) (unicode c)
unfolding escape
escape_long c n34 n92 n10 n13 n9 n0 =
    rw (ne_eqb c 34 n34, ne_eqb c 92 n92, ne_eqb c 10 n10, ne_eqb c 13 n13, ne_eqb c 9 n9, ne_eqb c 0 n0)

-- a character that stands for itself
pub escape_shown : (c : ℕ) → 32 ≤ c → c ≤ 126 → (c ≡ 34 → ⊥) → (c ≡ 92 → ⊥) → escape c ≡ c ∷ []
escape_shown c l h n34 n92 =
    escape_long c n34 n92 (λ z. omega arith) (λ z. omega arith) (λ z. omega arith) (λ z. omega arith) ∙ rw (le-leb 32 c l, le-leb c 126 h)

-- which bytes are plain: above 126 none, from 32 all but the quote, below 32 three
module _ (b : ℕ) where
  plain_rest : (b ≡ 9 → ⊥) → (b ≡ 10 → ⊥) → (b ≡ 13 → ⊥) → plain_byte b ≡ both (within 32 126 b) (not (eqb b 34))
  unfolding plain_byte
  plain_rest n9 n10 n13 = rw (ne_eqb b 9 n9, ne_eqb b 10 n10, ne_eqb b 13 n13)

-- the bytes of plain text, by how they are escaped
data Kind : ℕ → Type 0 where
  tab : Kind 9
  lf : Kind 10
  cr : Kind 13
  slash : Kind 92
  shown : (b : ℕ) → 32 ≤ b → b ≤ 126 → (b ≡ 34 → ⊥) → (b ≡ 92 → ⊥) → Kind b

kind : (b : ℕ) → plain_byte b ≡ true → Kind b
kind b e =
    by_eqb b 9 (λ z. rw z tab)
    (λ n9. by_eqb b 10 (λ z. rw z lf)
    (λ n10. by_eqb b 13 (λ z. rw z cr)
    (λ n13. by_eqb b 92 (λ z. rw z slash)
    (λ n92.
    let q : both (within 32 126 b) (not (eqb b 34)) ≡ true = sym (plain_rest b n9 n10 n13) ∙ e in
    let w : within 32 126 b ≡ true = both_left (within 32 126 b) (not (eqb b 34)) q in
    let n : eqb b 34 ≡ false = not-true (eqb b 34) (both_right (within 32 126 b) (not (eqb b 34)) q) in
    shown b (within_least 32 126 b w) (within_most 32 126 b w) (eqb-false b 34 n) n92))))

-- a plain byte is ASCII, its escape is read back, and is one or two bytes of 32 to 126 without a quote
kind_ascii : {b : ℕ} → Kind b → ascii b ≡ true
kind_ascii tab = refl
kind_ascii lf = refl
kind_ascii cr = refl
kind_ascii slash = refl
kind_ascii (shown b l h n34 n92) = lt-ltb b 128 (omega arith)

kind_read : {b : ℕ} → Kind b → (t : List ℕ) → unescape false (escape b ++ t) ≡ b ∷ unescape false t
unfolding escape unescape meant
kind_read tab t = refl
kind_read lf t = refl
kind_read cr t = refl
kind_read slash t = refl
kind_read (shown b l h n34 n92) t = rw (escape_shown b l h n34 n92) (rw (ne_eqb b 92 n92, unescape))

-- a byte of a printed plain text
abbrev pub printed : ℕ → Bool
printed b = both (within 32 126 b) (not (eqb b 34))

kind_printed : {b : ℕ} → Kind b → all printed (escape b) ≡ true
unfolding escape all
kind_printed tab = refl
kind_printed lf = refl
kind_printed cr = refl
kind_printed slash = refl
kind_printed (shown b l h n34 n92) = rw (escape_shown b l h n34 n92) (rw (le-leb 32 b l, le-leb b 126 h, ne_eqb b 34 n34))

kind_length : {b : ℕ} → Kind b → length (escape b) ≤ 2
unfolding escape
kind_length tab = omega arith
kind_length lf = omega arith
kind_length cr = omega arith
kind_length slash = omega arith
kind_length (shown b l h n34 n92) = rw (escape_shown b l h n34 n92) (omega arith)

-- the same of a text of plain bytes
module _ (b : ℕ) (s : List ℕ) (e : all plain_byte (b ∷ s) ≡ true) where
  head_kind : Kind b
  unfolding all
  head_kind = kind b (both_left (plain_byte b) (all plain_byte s) e)

  tail_plain : all plain_byte s ≡ true
  unfolding all
  tail_plain = both_right (plain_byte b) (all plain_byte s) e

plain_ascii : (s : List ℕ) → all plain_byte s ≡ true → all ascii s ≡ true
unfolding all
plain_ascii [] e = refl
plain_ascii (b ∷ s) e = both_yes (ascii b) (all ascii s) (kind_ascii (head_kind b s e)) (plain_ascii s (tail_plain b s e))

-- its characters are its bytes
escape_plain : (s : List ℕ) → all plain_byte s ≡ true → escape_text s ≡ escape_all s
unfolding escape_text
escape_plain s e = ap escape_all (ascii_chars s (plain_ascii s e))

read_all : (s : List ℕ) → all plain_byte s ≡ true → unescape false (escape_all s) ≡ s
unfolding escape_all unescape
read_all [] e = refl
read_all (b ∷ s) e = kind_read (head_kind b s e) (escape_all s) ∙ ap (λ (l : List ℕ). b ∷ l) (read_all s (tail_plain b s e))

printed_all : (s : List ℕ) → all plain_byte s ≡ true → all printed (escape_all s) ≡ true
unfolding escape_all all
printed_all [] e = refl
printed_all (b ∷ s) e = all_append printed (escape b) (escape_all s) (kind_printed (head_kind b s e)) (printed_all s (tail_plain b s e))

length_all : (s : List ℕ) → all plain_byte s ≡ true → length (escape_all s) ≤ 2 * length s
unfolding escape_all
length_all [] e = omega arith
length_all (b ∷ s) e = rw length-append (omega (arith, kind_length (head_kind b s e), length_all s (tail_plain b s e)))

-- the last byte of a text, and 0 of an empty one
abbrev pub last_of : List ℕ → ℕ
last_of s = get_or s (length s - 1) 0

-- that of a text behind another
pub last_append : (s t : List ℕ) → 0 < length t → last_of (s ++ t) ≡ last_of t
last_append s t h =
    let e : length (s ++ t) - 1 ≡ length s + (length t - 1) = omega (arith, length-append s t) in
    rw e (get_or-append-add s t (length t - 1) 0)

kind_some : {b : ℕ} → Kind b → 0 < length (escape b)
unfolding escape
kind_some tab = omega arith
kind_some lf = omega arith
kind_some cr = omega arith
kind_some slash = omega arith
kind_some (shown b l h n34 n92) = rw (escape_shown b l h n34 n92) (omega arith)

-- only the escape of a backslash ends with one
kind_last : {b : ℕ} → Kind b → last_of (escape b) ≡ 92 → b ≡ 92
unfolding escape
kind_last tab q = omega arith
kind_last lf q = omega arith
kind_last cr q = omega arith
kind_last slash q = refl
kind_last (shown b l h n34 n92) q = rw (escape_shown b l h n34 n92) at q

last_all : (s : List ℕ) → all plain_byte s ≡ true → last_of (escape_all s) ≡ 92 → last_of s ≡ 92
unfolding escape_all
last_all [] e q = q
last_all (b ∷ []) e q = kind_last (head_kind b [] e) (rw append-nil at q)
last_all (b ∷ c ∷ s) e q =
    let t = tail_plain b (c ∷ s) e in
    let some : 0 < length (escape_all (c ∷ s)) = rw length-append (omega (arith, kind_some (head_kind c s t))) in
    last_append (b ∷ []) (c ∷ s) (omega arith) ∙ last_all (c ∷ s) t (sym (last_append (escape b) (escape_all (c ∷ s)) some) ∙ q)

-- a plain text
module _ (s : List ℕ) (e : plain s ≡ true) where
  bytes_plain : all plain_byte s ≡ true
  unfolding plain
  bytes_plain = both_left (all plain_byte s) _ e

  -- its escape is read back
  pub unescape_escape : unescape false (escape_text s) ≡ s
  unescape_escape = rw (escape_plain s bytes_plain) (read_all s bytes_plain)

  -- its escape has bytes 32 to 126 only, and no quote
  pub plain_printed : all printed (escape_text s) ≡ true
  plain_printed = rw (escape_plain s bytes_plain) (printed_all s bytes_plain)

  -- its escape is at most twice as long
  pub plain_length : length (escape_text s) ≤ 2 * length s
  plain_length = rw (escape_plain s bytes_plain) (length_all s bytes_plain)

  -- the byte in front of the closing quote is no backslash
  pub plain_last : last_of (escape_text s) ≡ 92 → ⊥
  unfolding plain
  plain_last q =
      eqb-false (last_of s) 92 (not-true _ (both_right (all plain_byte s) _ e))
      (last_all s bytes_plain (rw (escape_plain s bytes_plain) at q))

pick_short : (t : Bool) (a b : List ℕ) (n : ℕ) → length a ≤ n → length b ≤ n → length (pick t a b) ≤ n
pick_short true a b n h k = h
pick_short false a b n h k = k

few_digits : (c k : ℕ) → c < 16 ^ suc k → c < 16 ^ 16 → length (hex_upper c) ≤ suc k
unfolding hex_upper
few_digits c k h l = digits_few 16 65 (omega arith) 15 k c l h

unicode_length : (c : ℕ) → c < 2 ^ 21 → length (unicode c) ≤ 10
unfolding unicode hex_upper4
unicode_length c h =
    by_leb c 65535
    (λ l. rw (le-leb c 65535 l) (omega (arith, padded_length 4 (hex_upper c) (few_digits c 3 (omega arith) (omega arith)))))
    (λ l. rw (lt-leb c 65535 l, length-append) (omega (arith, few_digits c 5 (omega arith) (omega arith))))

-- an escape is at most ten bytes
pub escape_length : (c : ℕ) → c < 2 ^ 21 → length (escape c) ≤ 10
unfolding escape
escape_length c h =
    let short : (x : ℕ) → length (escaped x) ≤ 10 = λ x. omega arith in
    pick_short (eqb c 34) _ _ 10 (short 34)
    (pick_short (eqb c 92) _ _ 10 (short 92)
    (pick_short (eqb c 10) _ _ 10 (short 110)
    (pick_short (eqb c 13) _ _ 10 (short 114)
    (pick_short (eqb c 9) _ _ 10 (short 116)
    (pick_short (eqb c 0) _ _ 10 (short 48)
    (pick_short (within 32 126 c) _ _ 10 (omega arith) (unicode_length c h)))))))
