-- The listing of one body, by what was collected and what was written. Assumes nothing.
use mathlib.Core.Path.{◌≡◌, refl, ap, sym, ◌∙◌}
use mathlib.Core.Bool.{Bool, true, false}
use mathlib.Core.List.{List}
use Prim.Native.Nat.{ℕ, ◌<◌}
use native.Mathlib.Omega.{arith}
use lib.Dec.{eqb}
use lib.ListN.{length, get_or, replicate, length-replicate}
use Rattle.limits.specs.Limits.{body_limit}
use Rattle.lists.specs.Choice.{pick}
use Rattle.spec_body.specs.Decode.{Decoded, decode_body}
use Rattle.spec_body.specs.Decode.Decoded.{decoded, not_decoded}
use Rattle.answers.specs.declared.refusal.Refusal.{Refusal}
use Rattle.answers.specs.declared.refusal.Refusal.TheVariants.{LongLine}
use Rattle.spec_inputs.specs.Context.{Context}
use Rattle.spec_listing.specs.Options.{Options}
use Rattle.spec_listing.specs.Labels.{label_offsets, among, different}
use Rattle.spec_listing.specs.Listing.Listed.{not_listed}
use Rattle.spec_listing.specs.Listing.{long_line, unless_long, list_decoded, listed_text, list_entries}
use Rattle.list_labels.specs.Readable.{readable}
use Rattle.list_labels.specs.OpcodeRows.{OpcodeRows, opcodes_of, row_labels}
use Rattle.list_labels.specs.Collecting.{CollectedFor, EntriesFor, Flagged}
use Rattle.list_labels.specs.declared.opcode_rows.OpcodeRow.{OpcodeRow}
use Rattle.list_labels.specs.Collecting.CollectedFor.{counted, refused}
use Rattle.list_labels.proofs.ReadableLaws.{all_readable}
use Rattle.list_labels.proofs.OpcodeRowLaws.{same_labels}
use Rattle.std.specs.Prelude.{Result, Ok, Err}
use Rattle.listing.specs.Parts.{Decodes, records_of, Lined}
use Rattle.listing.specs.Parts.Lined.{all, over}
use Rattle.listing.specs.Bodies.{Written}
use Rattle.listing.specs.Bodies.Written.{whole, stopped}
use Rattle.listing.specs.declared.body.Part.{Part}

-- what was collected, from the answer
pub record Entries (e : Context) (lent : ℕ) (d : Decoded) (n : ℕ) : Type 0 where
  pub records : List (List ℕ)
  pub are : d ≡ decoded records
  pub count : EntriesFor lent (different (label_offsets e records)) n

-- under a sheet's tables, with their rows of opcodes, for the bytes s
module _ (e : Context) (last : ℕ) (rows : List OpcodeRow) (s : List ℕ) (lent : ℕ) {r : Result ℕ Refusal} (w : CollectedFor lent (opcodes_of e.types rows) (decode_body e.types last s) r) where
  pub was_entries : (n : ℕ) → OpcodeRows e.sheet e.types e.infos last rows → ((i : ℕ) → get_or s i 0 < 256) → r ≡ Ok n → Entries e lent (decode_body e.types last s) n
  was_entries n g h q = go w
    where
      go : CollectedFor lent (opcodes_of e.types rows) (decode_body e.types last s) r → Entries e lent (decode_body e.types last s) n
      go (counted rs m p x c) =
          let same : m ≡ n = cc (sym x ∙ q) in
          record { records = rs; are = p; count = rw (sym (same_labels e last rows g s rs h p), sym same) c }
      go (refused f p x) = cc (sym x ∙ q)

  pub was_refused : (x : Refusal) → r ≡ Err x → decode_body e.types last s ≡ not_decoded x
  was_refused x q = go w
    where
      go : CollectedFor lent (opcodes_of e.types rows) (decode_body e.types last s) r → decode_body e.types last s ≡ not_decoded x
      go (counted rs m p y c) = cc (sym y ∙ q)
      go (refused f p y) = let same : f ≡ x = cc (sym y ∙ q) in p ∙ ap not_decoded same

-- the flags are those that the lines ask for
pub flags_say : (e : Context) (last : ℕ) (rows : List OpcodeRow) (s : List ℕ) (flags : List Bool) (lent n : ℕ) → OpcodeRows e.sheet e.types e.infos last rows → ((i : ℕ) → get_or s i 0 < 256)
    → Entries e lent (decode_body e.types last s) n → Flagged (row_labels (opcodes_of e.types rows) (readable e.types last s)) flags
    → Flagged (label_offsets e (records_of (decode_body e.types last s))) flags
unfolding records_of
flags_say e last rows s flags lent n g l x m =
    let r = rw (all_readable e.types last s x.records x.are, same_labels e last rows g s x.records l x.are) at m in
    rw x.are r

pub decodes : (types : List (List ℕ)) (last : ℕ) (s : List ℕ) (e : Context) (lent n : ℕ) → Entries e lent (decode_body types last s) n → Decodes types last s
decodes types last s e lent n x = record { records = x.records; are = x.are }

-- so many are lent, or so many are counted, with labels shown or not
pick_entries : (show : Bool) {lent l needed n : ℕ} → l ≡ pick show lent body_limit → EntriesFor l needed n → EntriesFor lent (pick show needed 0) (pick show n 0)
pick_entries true e h = rw e at h
pick_entries false e h = (omega arith, λ l. refl)

module _ (o : Options) (e : Context) (lent : ℕ) (indent : List ℕ) (d : Decoded) (out : List ℕ) («from» : ℕ) (out' : List ℕ) where
  abbrev Lines-of : Result ℕ Refusal → Type 0
  Lines-of r = Lined (listed_text o e (label_offsets e (records_of d)) indent (records_of d)) (long_line o e indent (records_of d)) out «from» out' r

  pub all_listed : (l n k : ℕ) {r : Result ℕ Refusal} (m : ℕ) → l ≡ pick o.show_labels lent body_limit → Entries e l d n → m ≡ pick o.show_labels n 0 → Lines-of r → r ≡ Ok k
      → Written lent (list_decoded o e indent d) out «from» out' (Ok (record { next = k; entries = m }))
  unfolding list_decoded unless_long records_of list_entries
  all_listed t n k m y x q (all k' l r w) h =
      let c : k' ≡ k = cc (sym r ∙ h) in
      whole (listed_text o e (label_offsets e (records_of d)) indent (records_of d)) (list_entries o e x.records) (record { next = k; entries = m }) (rw x.are (rw (rw x.are at l))) refl
      (rw q (pick_entries o.show_labels y x.count)) (rw (sym c) w)
  all_listed t n k m y x q (over at l r) h = cc (sym r ∙ h)

  -- a line is too long
  pub one_long : {l : Result ℕ Refusal} {r : Result Part Refusal} (t n : ℕ) (f : Refusal) → Entries e t d n → Lines-of l → l ≡ Err f → r ≡ Err f → Written lent (list_decoded o e indent d) out «from» out' r
  unfolding list_decoded unless_long records_of
  one_long t n f x (all k l r w) h q = cc (sym r ∙ h)
  one_long t n f x (over at l r) h q =
      let c : LongLine at ≡ f = cc (sym r ∙ h) in
      stopped f (rw x.are (rw (rw x.are at l)) ∙ ap not_listed c) q

  pub not_decoded_lem : {r : Result Part Refusal} (x : Refusal) → d ≡ not_decoded x → r ≡ Err x → Written lent (list_decoded o e indent d) out «from» out' r
  unfolding list_decoded
  not_decoded_lem x q p = stopped x (rw q) p

pub cleared_size : (m m' : List Bool) → m' ≡ replicate (length m) false → length m' ≡ length m
cleared_size m m' e = ap length e ∙ length-replicate (length m) false

-- what was cleared is all false
pub cleared_flags : (m m' : List Bool) → m' ≡ replicate (length m) false → m' ≡ replicate (length m') false
cleared_flags m m' e = let h : length m' ≡ length m = cleared_size m m' e in rw h e
