-- The loop that writes the lines of a body. Assumes nothing.
use mathlib.Core.Path.{◌≡◌, refl, ap, sym, ◌∙◌}
use mathlib.Core.Bool.{Bool, true, false}
use mathlib.Core.List.{List, [], ◌∷◌, ◌++◌, append_assoc}
use Prim.Native.Nat.{ℕ, ◌+◌, ◌-◌, ◌^◌, ◌<◌, ◌≤◌, min}
use native.Mathlib.Omega.{arith}
use lib.Dec.{eqb}
use lib.ListN.{length, take, get_or, length-append}
use borrow.Author.Tests.{lt-ltb, le-ltb}
use Rattle.lists.specs.Choice.{pick, both}
use Rattle.lists.specs.Text.{text}
use Rattle.lists.specs.Found.{Found}
use Rattle.lists.specs.Found.Found.{found, missing}
use Rattle.lists.specs.Write.{Put, ByWords, top}
use Rattle.lists.proofs.Aheads.{◌and_words◌, as_words, same_ahead, ahead_front, ahead_length}
use Rattle.lists.proofs.LeftToWrite.{Left, left_all, left_turn, left_same, left_none}
use Rattle.slices.specs.Block.{RoomMade}
use Rattle.slices.specs.declared.block.Gathered.{Gathered}
use Rattle.slices.proofs.BlockLaws.{room_kept, room_left}
use Rattle.spec_numbers.specs.Print.{decimal}
use Rattle.spec_numbers.proofs.PrintLaws.{decimal_length}
use Rattle.spec_sheet.specs.Row.{length_of}
use Rattle.spec_body.specs.Record.{record_of, offset_of}
use Rattle.spec_body.specs.Decode.{row_at, decode_body}
use Rattle.spec_body.proofs.DecodeLaws.{Decoding, body_stands}
use Rattle.spec_body.proofs.DecodeLaws.Decoding.{ended, more}
use Rattle.spec_inputs.specs.Context.{Context}
use Rattle.spec_listing.specs.Options.{Options}
use Rattle.spec_listing.specs.Line.{instruction_text}
use Rattle.spec_listing.specs.Labels.{label_offsets}
use Rattle.spec_listing.specs.Listing.{label_line, label_text, instruction_line, long_line, listed_text}
use Rattle.listing.specs.Parts.{Decodes, records_of, block_size, line_start, flagged_text, options_of}
use Rattle.list_labels.specs.Collecting.{Flagged}
use Rattle.list_labels.specs.OpcodeRows.{RowsFit}
use Rattle.list_labels.proofs.OpcodeRowLaws.{rows_fit}
use Rattle.listing.specs.Listers.{context_by, decoded_by}
use Rattle.listing.specs.declared.lister.Lister.{Lister}

-- the records of a body that decodes
pub records_are : (types : List (List ℕ)) (last : ℕ) (s : List ℕ) (d : Decodes types last s) → Decoding types last s 0 (records_of (decode_body types last s))
unfolding records_of
records_are types last s d = rw d.are (body_stands types last s d.records d.are)

-- what the flags print is what the labels print
marked_label : (o : Options) (labels : List ℕ) (flags : List Bool) (indent : List ℕ) (at : ℕ) → Flagged labels flags → at < length flags → flagged_text o.show_labels flags indent at ≡ label_text o labels indent at
unfolding flagged_text label_text
marked_label o labels flags indent at m h = rw (m at h)

-- what follows it at least, and at most
short_pick : (x : Bool) (t : List ℕ) (n : ℕ) → length t ≤ n → length (pick x t []) ≤ n
short_pick true t n h = h
short_pick false t n h = omega arith

label_length : (indent : List ℕ) (at : ℕ) → length (label_line indent at) ≤ length indent + 23
unfolding label_line text
label_length indent at =
    let front = indent ++ (76 ∷ []) in
    omega (
      arith,
      length-append indent (76 ∷ []),
      length-append front (decimal at),
      length-append (front ++ decimal at) (58 ∷ 10 ∷ []),
      decimal_length at,
    )

label_short : (show : Bool) (flags : List Bool) (indent : List ℕ) (at : ℕ) → length indent ≤ 2 → length (flagged_text show flags indent at) ≤ 30
unfolding flagged_text
label_short show flags indent at h =
    short_pick (both show (get_or flags at false)) (label_line indent at) 30 (omega (arith, label_length indent at))

-- what is printed and how
pub record Printing : Type 0 where
  pub o : Options
  pub e : Context
  pub labels : List ℕ
  pub flags : List Bool
  pub indent : List ℕ
  pub types : List (List ℕ)
  pub last : ℕ
  pub s : List ℕ

abbrev record_at : Printing → ℕ → List ℕ
record_at p at = record_of (row_at p.types p.s at) p.s at

abbrev pub size_at : Printing → ℕ → ℕ
size_at p at = length_of (row_at p.types p.s at)

-- the lines of records, an instruction's own text and its line, and the first line that is too long
abbrev pub lines_in : Printing → List (List ℕ) → List ℕ
lines_in p rs = listed_text p.o p.e p.labels p.indent rs

abbrev text_in : Printing → List ℕ → List ℕ
text_in p r = instruction_text p.o.show_offsets p.o.resolve_strings p.e r

abbrev bare : Printing → List ℕ → List ℕ
bare p r = p.indent ++ text_in p r

abbrev pub long_in : Printing → List (List ℕ) → Found
long_in p rs = long_line p.o p.e p.indent rs

-- the records behind `at` are still to be written, behind what the block holds, and none before them has too long a line
pub record Going (p : Printing) (rs : List (List ℕ)) (out₀ : List ℕ) («from» : ℕ) (out block : List ℕ) (k n at : ℕ) : Type 0 where
  pub rest : List (List ℕ)
  pub stand : Decoding p.types p.last p.s at rest
  pub writing : Left (lines_in p rs) out₀ «from» (take n block ++ lines_in p rest) out k
  pub long : long_in p rs ≡ long_in p rest
  pub size : length block ≡ block_size
  pub held : n ≤ block_size

-- the label's line and the instruction's were written, from n over a to c
pub record Line (p : Printing) (at : ℕ) (block : List ℕ) (n : ℕ) (block' : List ℕ) (a c : ℕ) : Type 0 where
  pub b₁ : List ℕ
  pub label_put : ByWords block n (flagged_text p.o.show_labels p.flags p.indent at) b₁ a
  pub b₂ : List ℕ
  pub b : ℕ
  pub indent_put : Put b₁ a p.indent b₂ b
  pub text_put : ByWords b₂ b (text_in p (record_at p at)) block' c

-- what the loop is given
pub record Given (p : Printing) : Type 0 where
  pub marked : Flagged p.labels p.flags
  pub flags_room : length p.s ≤ length p.flags
  pub indent_size : length p.indent ≤ 2

-- the record that stands at a place inside the body, and those behind it
data Next (types : List (List ℕ)) (last : ℕ) (s : List ℕ) (at : ℕ) (rest : List (List ℕ)) : Type 0 where
  one : (more : List (List ℕ)) → rest ≡ record_of (row_at types s at) s at ∷ more → get_or s at 0 ≤ last
      → at + length_of (row_at types s at) ≤ length s → Decoding types last s (at + length_of (row_at types s at)) more → Next types last s at rest

next : {types : List (List ℕ)} {last : ℕ} {s : List ℕ} {at : ℕ} {rest : List (List ℕ)} → Decoding types last s at rest → at < length s → Next types last s at rest
next (ended g) h = absurd (omega arith)
next (more g l k d) h = one _ refl l k d

none_left : {types : List (List ℕ)} {last : ℕ} {s : List ℕ} {at : ℕ} {rest : List (List ℕ)} → Decoding types last s at rest → length s ≤ at → rest ≡ []
none_left (ended g) h = refl
none_left (more g l k d) h = absurd (omega arith)

-- a line is within the limit, or too long, by the positions around it
line_size : (a n c : ℕ) → a ≤ 2030 → c ≡ min (a + n) top → c - a ≤ 4096 → (n ≤ 4096) × (c ≡ a + n)
line_size a n c h e k = (omega (arith, e), omega (arith, e))

line_over : (a n c : ℕ) → a ≤ 2030 → c ≡ min (a + n) top → 4096 < c - a → 4096 < n
line_over a n c h e k = omega (arith, e)

-- the lines of a record are its label's and its own
lines_more : (p : Printing) (r : List ℕ) (rest : List (List ℕ)) → lines_in p (r ∷ rest) ≡ label_text p.o p.labels p.indent (offset_of r) ++ bare p r ++ (10 ∷ []) ++ lines_in p rest
unfolding listed_text instruction_line text
lines_more p r rest = refl

line_fits : (p : Printing) (r : List ℕ) (rest : List (List ℕ)) → length (bare p r) ≤ 4096 → long_in p (r ∷ rest) ≡ long_in p rest
unfolding long_line instruction_line
line_fits p r rest h = rw (le-ltb 4096 (length (bare p r)) h)

line_long : (p : Printing) (r : List ℕ) (rest : List (List ℕ)) → 4096 < length (bare p r) → long_in p (r ∷ rest) ≡ found (offset_of r)
unfolding long_line instruction_line
line_long p r rest h = rw (lt-ltb 4096 (length (bare p r)) h)

own_line : {p : Printing} {at n a c : ℕ} {block block' : List ℕ} (l : Line p at block n block' a c) → ByWords l.b₁ a (bare p (record_at p at)) block' c
own_line l = as_words l.indent_put and_words l.text_put

inside_next : (p : Printing) {at : ℕ} {rest : List (List ℕ)} → Next p.types p.last p.s at rest → at + size_at p at ≤ length p.s
inside_next p (one rest' q y z d) = z

known_next : (p : Printing) {at : ℕ} {rest : List (List ℕ)} → Next p.types p.last p.s at rest → get_or p.s at 0 ≤ p.last
known_next p (one rest' q y z d) = y

long_from : (p : Printing) {at : ℕ} {rest : List (List ℕ)} → Next p.types p.last p.s at rest → 4096 < length (bare p (record_at p at)) → long_in p rest ≡ found at
long_from p (one rest' q y z d) h = rw q (line_long p (record_at p _) rest' h)

module _ {p : Printing} {rs : List (List ℕ)} {out₀ : List ℕ} {«from» : ℕ} where
  pub start : (block : List ℕ) → Decoding p.types p.last p.s 0 rs → length out₀ ≤ top → «from» ≤ top → length block ≡ block_size → Going p rs out₀ «from» out₀ block «from» 0 0
  start block d h g l = record { rest = rs; stand = d; writing = left_all h g; long = refl; size = l; held = omega arith }

  module _ {out block : List ℕ} {k n at : ℕ} (g : Going p rs out₀ «from» out block k n at) where
    -- an instruction that is reached is whole
    pub inside : at < length p.s → at + size_at p at ≤ length p.s
    inside h = inside_next p (next g.stand h)

    -- and its opcode is one of the sheet's
    pub known : at < length p.s → get_or p.s at 0 ≤ p.last
    known h = known_next p (next g.stand h)

    -- room for a line was made
    pub roomy : {out' : List ℕ} {r : Gathered} → RoomMade line_start block n out k out' r → (r.kept ≤ line_start) × Going p rs out₀ «from» out' block r.next r.kept at
    roomy w = (
      room_kept w,
      record {
        rest = g.rest;
        stand = g.stand;
        writing = room_left (lines_in p g.rest) w g.writing;
        long = g.long;
        size = g.size;
        held = omega (arith, room_kept w);
      },
    )

    module _ {block' : List ℕ} {a c : ℕ} (m : Given p) (few : n ≤ line_start) (l : Line p at block n block' a c) where
      -- where a line starts
      low_start : (a ≤ 2030) × (a ≡ n + length (flagged_text p.o.show_labels p.flags p.indent at))
      low_start =
          let q = label_short p.o.show_labels p.flags p.indent at m.indent_size in
          (omega (arith, l.label_put.next, q), omega (arith, l.label_put.next, q))

      pub stopped : at < length p.s → 4096 < c - a → long_in p rs ≡ found at
      stopped h q = g.long ∙ long_from p (next g.stand h) (line_over a _ c low_start.0 (own_line l).next q)

      turn_on : {block'' : List ℕ} {n' : ℕ} → at < length p.s → c - a ≤ 4096 → Put block' c (10 ∷ []) block'' n' → Next p.types p.last p.s at g.rest
          → Going p rs out₀ «from» out block'' k n' (at + size_at p at)
      turn_on {block''} {n'} h q w (one rest' y x z d) =
          let r = record_at p at in
          let label = label_text p.o p.labels p.indent at in
          let e = marked_label p.o p.labels p.flags p.indent at m.marked (omega (arith, m.flags_room)) in
          let size = line_size a (length (bare p r)) c low_start.0 (own_line l).next q in
          let whole = same_ahead e l.label_put and_words own_line l and_words as_words w in
          let f : n + length (label ++ bare p r ++ (10 ∷ [])) ≤ length block = omega (arith, length-append (label ++ bare p r) (10 ∷ []), length-append label (bare p r), low_start, ap length e, size, g.size, few) in
          let t = ahead_front whole f in
          record {
            rest = rest';
            stand = d;
            writing = left_same (ap (λ (u : List ℕ). take n block ++ u) (ap (lines_in p) y ∙ lines_more p r rest') ∙ (sym (append_assoc (take n block) (label ++ bare p r ++ (10 ∷ [])) (lines_in p rest')) ∙ ap (λ (u : List ℕ). u ++ lines_in p rest') (sym t))) g.writing;
            long = g.long ∙ (ap (long_in p) y ∙ line_fits p r rest' size.0);
            size = ahead_length whole ∙ g.size;
            held = omega (arith, w.next, size, low_start);
          }

      pub turn : {block'' : List ℕ} {n' size : ℕ} → at < length p.s → c - a ≤ 4096 → Put block' c (10 ∷ []) block'' n' → size ≡ size_at p at → Going p rs out₀ «from» out block'' k n' (at + size)
      turn h q w z = rw z (turn_on h q w (next g.stand h))

    pub finished : {out' : List ℕ} {r : ℕ} → length p.s ≤ at → Put out k (take n block) out' r → (long_in p rs ≡ missing) × Put out₀ «from» (lines_in p rs) out' r
    unfolding long_line listed_text
    finished h w =
        let q = none_left g.stand h in
        (g.long ∙ ap (long_in p) q, left_none (left_turn g.writing refl w) (ap (lines_in p) q))

-- positions do not fall
pub words_rise : {out out' t : List ℕ} {a c : ℕ} → ByWords out a t out' c → a ≤ top → a ≤ c
words_rise w h = omega (arith, w.next)

-- the printing that the function is given part by part
abbrev pub printing : Lister → List ℕ → List Bool → List ℕ → Printing
printing l s flags indent = record {
  o = options_of l.options;
  e = context_by l;
  labels = label_offsets (context_by l) (records_of (decoded_by l s));
  flags = flags;
  indent = indent;
  types = l.tables.types.now;
  last = l.last;
  s = s;
}

-- its rows say how long instructions are
pub rows_are : (l : Lister) → RowsFit l.tables.types.now l.last l.rows.now
rows_are l = rows_fit l.tables.text.now l.tables.types.now l.tables.ops.now l.last l.rows.now l.made

pub given : (p : Printing) → Flagged p.labels p.flags → (length p.s ≤ length p.flags) × (length p.s ≤ 65536) × (length p.indent ≤ 2) → Given p
given p m h = record { marked = m; flags_room = h.0; indent_size = h.2 }

pub fits_next : (at size n : ℕ) → at + size ≤ n → n ≤ 65536 → at + size < 2 ^ 64
fits_next at size n h k = omega arith

pub less_next : (at size n : ℕ) → at < n → 1 ≤ size → n - (at + size) < n - at
less_next at size n h k = omega arith
