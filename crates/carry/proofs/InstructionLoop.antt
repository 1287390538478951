-- The loop over the instructions of a body, in both passes. Assumes nothing.
use mathlib.Core.Path.{◌≡◌, refl, ap, sym, ◌∙◌}
use mathlib.Core.Bool.{true, false}
use mathlib.Core.Logic.{◌⊎◌}
use mathlib.Core.Logic.◌⊎◌.{inl, inr}
use Rattle.std.specs.Prelude.{Option, None, Some, Result, Ok, Err}
use mathlib.Core.List.{List, [], ◌∷◌, ◌++◌, append_assoc}
use Prim.Native.Nat.{ℕ, suc, ◌+◌, ◌*◌, ◌%◌, ◌≤◌, ◌<◌}
use native.Mathlib.Numerals.{add-one}
use native.Mathlib.Omega.{arith}
use lib.Dec.{eqb}
use lib.ListN.{length, take, drop, get_or}
use lib.Seq.{drop-drop, get_or-drop}
use borrow.Author.Tests.{eq-eqb, ne_eqb}
use Rattle.lists.specs.Found.{Found}
use Rattle.lists.specs.Found.Found.{found, missing}
use Rattle.lists.specs.Write.{Put, ByWords, top}
use Rattle.lists.proofs.Tests.{by_test, by_eqb}
use Rattle.lists.proofs.Aheads.{◌and_words◌, ahead_front}
use Rattle.lists.proofs.LeftToWrite.{Left, left_all, left_turn, left_same, left_none}
use Rattle.slices.specs.Block.{RoomMade}
use Rattle.slices.specs.declared.block.Gathered.{Gathered}
use Rattle.slices.proofs.BlockLaws.{room_kept, room_length, room_left}
use Rattle.spec_numbers.specs.LittleEndian.{le_bytes}
use Rattle.answers.specs.Outcome.{Outcome}
use Rattle.answers.specs.Outcome.Outcome.{refused_with}
use Rattle.answers.specs.declared.refusal.OperandFault.{OperandFault}
use Rattle.answers.specs.declared.refusal.OperandFault.TheVariants.{Distance}
use Rattle.answers.specs.declared.refusal.Refusal.{Refusal}
use Rattle.answers.specs.declared.refusal.Refusal.TheVariants.{UnknownName, OperandCount, BadOperand}
use Rattle.spec_sheet.specs.Row.{length_of, total_width, count_of}
use Rattle.spec_sheet.specs.Sheet.{is_missing}
use Rattle.spec_body.specs.Record.{pairs, record_of, offset_of, opcode_of, pairs_of}
use Rattle.spec_body.specs.Decode.{row_at}
use Rattle.spec_body.proofs.DecodeLaws.{Decoding, body_stands}
use Rattle.spec_body.proofs.DecodeLaws.Decoding.{ended, more}
use Rattle.spec_carry.specs.Cases.{Case, unless_case}
use Rattle.spec_carry.specs.Passes.{Carrying, opcode_into, new_opcode, old_row, new_row, moved_from, operands_cases, far_cases, new_operands, first_pass, second_pass, new_bytes}
use Rattle.spec_carry.proofs.ResultLaws.{operands_length}
use Rattle.carry.specs.EmptyRow.{empty}
use Rattle.carry.specs.Opcodes.{known_state, state_of}
use Rattle.carry.specs.Plans.{copied, Instruction, Plans}
use Rattle.carry.specs.Marks.{Marked}
use Rattle.carry.specs.Ready.{ZerosBehind, Ready, carrying_in}
use Rattle.carry.specs.Carried.{OperandsCarried, InstructionCarried, keep_first, ended_with, BytesCarried, block_size, instruction_start}
use Rattle.carry.specs.Carried.OperandsCarried.{all_near, some_far, some_refused}
use Rattle.carry.specs.Carried.BytesCarried.{whole, refuses}
use Rattle.carry.specs.declared.plans.Plan.{Plan}
use Rattle.carry.specs.declared.opcodes.OpcodeRow.{OpcodeRow}
use Rattle.carry.specs.declared.opcodes.State.{State}
use Rattle.carry.specs.declared.opcodes.State.TheVariants.{Missing, OtherCount, Known, Copied}
use Rattle.carry.specs.declared.instructions.Operands.{Operands}
use Rattle.carry.specs.declared.instructions.OperandRefusal.{OperandRefusal}
use Rattle.carry.specs.declared.instructions.Far.{Far}
use Rattle.carry.proofs.PlaceLoop.{length_is, new_length_is}

-- a byte's word
pub one_byte : (b : ℕ) → b < 256 → le_bytes 1 b ≡ b ∷ []
unfolding le_bytes
one_byte b h = let e : b % 256 ≡ b = omega arith in rw e

-- a name that is known is not missing, and counts as many operands
is_known : (t : State) → (t ≡ Known) ⊎ (t ≡ Copied) → (t ≡ Missing → ⊥) × (t ≡ OtherCount → ⊥)
is_known t (inl e) = ((λ z. let y : Known ≡ Missing = sym e ∙ z in cc y), (λ z. let y : Known ≡ OtherCount = sym e ∙ z in cc y))
is_known t (inr e) = ((λ z. let y : Copied ≡ Missing = sym e ∙ z in cc y), (λ z. let y : Copied ≡ OtherCount = sym e ∙ z in cc y))

-- what the state of a known name says
module _ (row new : List ℕ) where
  data Says : State → Type 0 where
    other : eqb (count_of row) (count_of new) ≡ false → Says OtherCount
    copies : count_of row ≡ count_of new → copied row new ≡ true → Says Copied
    known : count_of row ≡ count_of new → Says Known

  said : Says (known_state row new)
  said =
      by_eqb (count_of row) (count_of new)
      (λ q. rw (eq-eqb (count_of row) (count_of new) q) (by_test (copied row new) (λ t. rw t (copies q t)) (λ t. rw t (known q))))
      (λ q. rw (ne_eqb (count_of row) (count_of new) q) (other (ne_eqb (count_of row) (count_of new) q)))

  -- what an opcode's state says
  state_missing : (f : Found) → state_of f row new ≡ Missing → is_missing f ≡ true
  unfolding state_of is_missing
  state_missing (found k) e = absurd (go (known_state row new) said e)
    where
      go : (t : State) → Says t → t ≡ Missing → ⊥
      go Missing h e = elim h [ ]
      go OtherCount (other q) e = cc e
      go Copied (copies q t) e = cc e
      go Known (known q) e = cc e
  state_missing missing e = refl

  state_found : (f : Found) → (state_of f row new ≡ Missing → ⊥) → is_missing f ≡ false
  unfolding state_of is_missing
  state_found (found k) e = refl
  state_found missing e = absurd (e refl)

  state_other : (f : Found) → state_of f row new ≡ OtherCount → eqb (count_of row) (count_of new) ≡ false
  unfolding state_of
  state_other (found k) e = go (known_state row new) said e
    where
      go : (t : State) → Says t → t ≡ OtherCount → eqb (count_of row) (count_of new) ≡ false
      go Missing h e = elim h [ ]
      go OtherCount (other q) e = q
      go Copied (copies q t) e = absurd (cc e)
      go Known (known q) e = absurd (cc e)
  state_other missing e = absurd (cc e)

  state_known : (f : Found) → (state_of f row new ≡ Missing → ⊥) → (state_of f row new ≡ OtherCount → ⊥) → count_of row ≡ count_of new
  unfolding state_of
  state_known (found k) z o = go (known_state row new) said o
    where
      go : (t : State) → Says t → (t ≡ OtherCount → ⊥) → count_of row ≡ count_of new
      go Missing h n = elim h [ ]
      go OtherCount (other q) n = absurd (n refl)
      go Copied (copies q t) n = q
      go Known (known q) n = q
  state_known missing z o = absurd (z refl)

  pub state_copied : (f : Found) → state_of f row new ≡ Copied → copied row new ≡ true
  unfolding state_of
  state_copied (found k) e = go (known_state row new) said e
    where
      go : (t : State) → Says t → t ≡ Copied → copied row new ≡ true
      go Missing h e = elim h [ ]
      go OtherCount (other q) e = absurd (cc e)
      go Copied (copies q t) e = t
      go Known (known q) e = absurd (cc e)
  state_copied missing e = absurd (cc e)

-- one instruction first in the first pass: its name, its operand count, then its operands
module _ (x : Carrying) (i : ℕ) (r : List ℕ) (rs : List (List ℕ)) (cs : List Case) (rest : Outcome) where
  abbrev name : Found
  name = opcode_into x.from x.into (opcode_of r)

  first_missing : is_missing name ≡ true → unless_case (first_pass x i (r ∷ rs) ++ cs) rest ≡ refused_with (UnknownName i)
  unfolding unless_case first_pass
  first_missing e = rw e

  first_other : is_missing name ≡ false → eqb (count_of (old_row x.from r)) (count_of (new_row x.from x.into r)) ≡ false
      → unless_case (first_pass x i (r ∷ rs) ++ cs) rest ≡ refused_with (OperandCount i)
  unfolding unless_case first_pass
  first_other e h = rw (e, h)

  first_known : is_missing name ≡ false → count_of (old_row x.from r) ≡ count_of (new_row x.from x.into r) → (old new : List ℕ) → old_row x.from r ≡ old → new_row x.from x.into r ≡ new
      → unless_case (first_pass x i (r ∷ rs) ++ cs) rest ≡ unless_case (operands_cases x i (offset_of r) 1 old new (pairs_of r) ++ (first_pass x (suc i) rs ++ cs)) rest
  unfolding unless_case first_pass
  first_known e h old new p q =
      rw (e, eq-eqb (count_of (old_row x.from r)) (count_of (new_row x.from x.into r)) h, p, q)
      (ap (λ (l : List Case). unless_case l rest) (append_assoc (operands_cases x i (offset_of r) 1 old new (pairs_of r)) (first_pass x (suc i) rs) cs))

-- the instruction at a place, where records stand
pub record Next (types : List (List ℕ)) (last : ℕ) (s : List ℕ) (at : ℕ) (rs : List (List ℕ)) : Type 0 where
  pub small : get_or s at 0 ≤ last
  pub room : at + length_of (row_at types s at) ≤ length s
  pub others : List (List ℕ)
  pub are : rs ≡ record_of (row_at types s at) s at ∷ others
  pub stands : Decoding types last s (at + length_of (row_at types s at)) others

pub next : {types : List (List ℕ)} {last : ℕ} {s : List ℕ} {at : ℕ} {rs : List (List ℕ)} → at < length s → Decoding types last s at rs → Next types last s at rs
next h (ended g) = absurd (omega arith)
next h (more {rs = others} g l k d) = record { small = l; room = k; others = others; are = refl; stands = d }

pub none_left : {types : List (List ℕ)} {last : ℕ} {s : List ℕ} {at : ℕ} {rs : List (List ℕ)} → length s ≤ at → Decoding types last s at rs → rs ≡ []
none_left h (ended g) = refl
none_left h (more g l k d) = absurd (omega arith)

-- one instruction first in the second pass, with its types under both sheets
module _ (x : Carrying) (i : ℕ) (r : List ℕ) (rs : List (List ℕ)) (old row' : List ℕ) (p : old_row x.from r ≡ old) (q : new_row x.from x.into r ≡ row') where
  first_far : (cs : List Case) (rest : Outcome) → unless_case (second_pass x i (r ∷ rs) ++ cs) rest ≡ unless_case (far_cases x i (offset_of r) 1 old row' (pairs_of r) ++ (second_pass x (suc i) rs ++ cs)) rest
  unfolding second_pass
  first_far cs rest = rw (p, q) (ap (λ (l : List Case). unless_case l rest) (append_assoc (far_cases x i (offset_of r) 1 old row' (pairs_of r)) (second_pass x (suc i) rs) cs))

  first_bytes : (new op : ℕ) → new ≡ get_or x.moved i 0 → op ≡ new_opcode x.from x.into r → new_bytes x i (r ∷ rs) ≡ (op ∷ new_operands x (offset_of r) new old row' (pairs_of r)) ++ new_bytes x (suc i) rs
  unfolding new_bytes
  first_bytes new op e f = rw (e, f, p, q)

-- where the instructions from the i-th on go, the first to `new`
moved_here : (x : Carrying) (i new : ℕ) (rs : List (List ℕ)) → drop i x.moved ≡ moved_from x.from x.into new rs → new ≡ get_or x.moved i 0
unfolding moved_from
moved_here x i new [] e = let z : i + 0 ≡ i = omega arith in sym (rw z at (sym (get_or-drop i x.moved 0 0) ∙ ap (λ (l : List ℕ). get_or l 0 0) e))
moved_here x i new (r ∷ rs) e = let z : i + 0 ≡ i = omega arith in sym (rw z at (sym (get_or-drop i x.moved 0 0) ∙ ap (λ (l : List ℕ). get_or l 0 0) e))

moved_next : (x : Carrying) (i new : ℕ) (r : List ℕ) (rs : List (List ℕ)) → drop i x.moved ≡ moved_from x.from x.into new (r ∷ rs)
    → drop (i + 1) x.moved ≡ moved_from x.from x.into (new + length_of (new_row x.from x.into r)) rs
unfolding moved_from
moved_next x i new r rs e = sym (drop-drop 1 i x.moved) ∙ ap (drop 1) e

-- the parts of an answer about operands
ok_parts : {n n' : ℕ} {q q' : Option ℕ} → ◌≡◌ {A = Result Operands OperandRefusal} (Ok (record { next = n; far = q })) (Ok (record { next = n'; far = q' })) → (n' ≡ n) × (q ≡ q')
ok_parts {n} {n'} {q} {q'} e =
    let h : ◌≡◌ {A = Operands} (record { next = n; far = q }) (record { next = n'; far = q' }) = cc e in
    (sym (ap (λ (o : Operands). o.next) h), ap (λ (o : Operands). o.far) h)

err_parts : {f f' : OperandFault} {q q' : ℕ} → ◌≡◌ {A = Result Operands OperandRefusal} (Err (record { fault = f; operand = q })) (Err (record { fault = f'; operand = q' })) → (f' ≡ f) × (q' ≡ q)
err_parts {f} {f'} {q} {q'} e =
    let h : ◌≡◌ {A = OperandRefusal} (record { fault = f'; operand = q' }) (record { fault = f; operand = q }) = cc e in
    (ap (λ (o : OperandRefusal). o.fault) h, ap (λ (o : OperandRefusal). o.operand) h)

-- the first 8
module _ (first : Option Far) (i : ℕ) (q : Option ℕ) where
  keep_old : (far : Far) → first ≡ Some far → keep_first first i q ≡ Some far
  keep_old far e = rw e

  keep_none : first ≡ None → q ≡ None → keep_first first i q ≡ None
  keep_none e v = rw (e, v)

  keep_some : (v : ℕ) → first ≡ None → q ≡ Some v → keep_first first i q ≡ Some (record { instruction = i; operand = v })
  keep_some v e w = rw (e, w)

-- what an answer says of an instruction, of any carrying that has this map and these ids
abbrev pub Promised : ℕ → List ℕ → List ℕ → List ℕ → ℕ → ℕ → List ℕ → List ℕ → List ℕ → ℕ → List ℕ → Result Operands OperandRefusal → Type 0
Promised op row row' s at new map ids block n block' r =
    (x : Carrying) (i : ℕ)
    → Marked x map ids → ZerosBehind row → ZerosBehind row' → count_of row ≡ count_of row' → new ≡ get_or x.moved i 0
    → InstructionCarried x i at new op row row' (pairs row s (at + 1)) block n block' r

module _ (types types₂ : List (List ℕ)) (rows : List OpcodeRow) (last : ℕ) (s map ids out₀ : List ℕ) where
  -- what an answer says of all instructions
  abbrev AllPromised : List ℕ → Result ℕ Refusal → Type 0
  AllPromised out r = (g : Ready types types₂ rows last s map ids) → BytesCarried (carrying_in g) g.records out₀ out r

  -- what the second pass has done: it wrote all instructions before the i-th, the last of them into the block, or there is a first 8
  -- among them; those left have the records rs
  data Written (g : Ready types types₂ rows last s map ids) (rs : List (List ℕ)) (out block : List ℕ) (k n i : ℕ) (first : Option Far) : Type 0 where
    wrote_all : first ≡ None → Left (new_bytes (carrying_in g) 0 g.records) out₀ 0 (take n block ++ new_bytes (carrying_in g) i rs) out k
        → ((cs : List Case) (rest : Outcome) → unless_case (second_pass (carrying_in g) 0 g.records ++ cs) rest ≡ unless_case (second_pass (carrying_in g) i rs ++ cs) rest)
        → Written g rs out block k n i first
    met_far : (far : Far) → first ≡ Some far
        → ((cs : List Case) (rest : Outcome) → unless_case (second_pass (carrying_in g) 0 g.records ++ cs) rest ≡ refused_with (BadOperand Distance far.instruction far.operand))
        → Written g rs out block k n i first

  -- and the first pass: the instructions before the i-th pass; the i-th goes to `new`
  record Midway (g : Ready types types₂ rows last s map ids) (out block : List ℕ) (k n new i : ℕ) (first : Option Far) (at : ℕ) : Type 0 where
    rs : List (List ℕ)
    stands : Decoding types last s at rs
    checked : (cs : List Case) (rest : Outcome) → unless_case (first_pass (carrying_in g) 0 g.records ++ cs) rest ≡ unless_case (first_pass (carrying_in g) i rs ++ cs) rest
    written : Written g rs out block k n i first
    moved : drop i (carrying_in g).moved ≡ moved_from g.from g.into new rs

  pub record Going (out block : List ℕ) (k n new i : ℕ) (first : Option Far) (at : ℕ) : Type 0 where
    pub below : i ≤ at
    pub inside : at ≤ length s
    pub small : new ≤ 65 * at
    pub same : length out ≡ length out₀
    pub size : length block ≡ block_size
    pub held : n ≤ block_size
    midway : (g : Ready types types₂ rows last s map ids) → Midway g out block k n new i first at

  pub start : (block : List ℕ) → length block ≡ block_size → length out₀ ≤ top → Going out₀ block 0 0 0 0 None 0
  start block l h = record {
    below = omega arith;
    inside = omega arith;
    small = omega arith;
    same = refl;
    size = l;
    held = omega arith;
    midway = λ g. record {
      rs = g.records;
      stands = body_stands types last s g.records g.decodes;
      checked = λ cs rest. refl;
      written = wrote_all refl (left_all h (omega arith)) (λ cs rest. refl);
      moved = refl;
    };
  }

  module _ (out block : List ℕ) (k n new i : ℕ) (first : Option Far) (at : ℕ) (going : Going out block k n new i first at) where
    -- room for an instruction was made
    pub roomy : {out' : List ℕ} {r : Gathered} → RoomMade instruction_start block n out k out' r → (r.kept ≤ instruction_start) × Going out' block r.next r.kept new i first at
    roomy {out'} {r} w = (
      room_kept w,
      record {
        below = going.below;
        inside = going.inside;
        small = going.small;
        same = room_length w ∙ going.same;
        size = going.size;
        held = omega (arith, room_kept w);
        midway = λ g.
            let m = going.midway g in
            record { rs = m.rs; stands = m.stands; checked = m.checked; written = go g m.rs m.written; moved = m.moved };
      },
    )
      where
        go : (g : Ready types types₂ rows last s map ids) (rs : List (List ℕ)) → Written g rs out block k n i first → Written g rs out' block r.next r.kept i first
        go g rs (wrote_all z left near) = wrote_all z (room_left (new_bytes (carrying_in g) i rs) w left) near
        go g rs (met_far far z f) = met_far far z f

    -- at the end, where what the block holds goes to the output
    pub all_done : {out' : List ℕ} {r : ℕ} → length s ≤ at → Put out k (take n block) out' r → AllPromised out' (ended_with r first)
    unfolding first_pass second_pass new_bytes ended_with
    all_done {out'} {r} h put g = go m.written
      where
        m : Midway g out block k n new i first at
        m = going.midway g

        e : m.rs ≡ []
        e = none_left h m.stands

        passes : (cs : List Case) (rest : Outcome) → unless_case (first_pass (carrying_in g) 0 g.records ++ cs) rest ≡ unless_case cs rest
        passes cs rest = m.checked cs rest ∙ ap (λ (l : List (List ℕ)). unless_case (first_pass (carrying_in g) i l ++ cs) rest) e

        go : Written g m.rs out block k n i first → BytesCarried (carrying_in g) g.records out₀ out' (ended_with r first)
        go (wrote_all z left near) =
            whole r (rw z)
            (λ cs rest. passes _ rest ∙ (near cs rest ∙ ap (λ (l : List (List ℕ)). unless_case (second_pass (carrying_in g) i l ++ cs) rest) e))
            (left_none (left_turn left refl put) (ap (new_bytes (carrying_in g) i) e))
        go (met_far far z f) = refuses (BadOperand Distance far.instruction far.operand) (rw z) (λ cs rest. passes _ rest ∙ f cs rest)

    module _ (h : at < length s) (u : get_or s at 0 < 256) where
      -- its opcode, the row of that, and its types under both sheets
      abbrev op : ℕ
      op = get_or s at 0

      abbrev row : OpcodeRow
      row = get_or rows op empty

      abbrev old : List ℕ
      old = get_or types op []

      abbrev row' : List ℕ
      row' = get_or types₂ row.opcode []

      -- its new opcode, and where it ends
      pub record Here : Type 0 where
        pub known : row.opcode < 256
        pub room : at + length_of old ≤ length s
        pub some : 1 ≤ row.length
        pub next : at + row.length ≤ length s
        pub most : row.new_length ≤ 65

      module _ (g : Ready types types₂ rows last s map ids) where
        abbrev m : Midway g out block k n new i first at
        m = going.midway g

        abbrev instruction : Next types last s at m.rs
        instruction = next h m.stands

        abbrev record_here : List ℕ
        record_here = record_of (row_at types s at) s at

        -- its name in the second sheet
        abbrev name_found : Found
        name_found = opcode_into g.from g.into op

        opcode_is : row.opcode ≡ new_opcode g.from g.into record_here
        opcode_is = ap (λ (l : OpcodeRow). l.opcode) (g.rows_are op u instruction.small)

        pub old_is : old_row g.from record_here ≡ old
        old_is = ap (λ (t : List (List ℕ)). get_or t op []) g.types_are

        pub new_is : new_row g.from g.into record_here ≡ row'
        new_is = ap (λ (t : List (List ℕ)). get_or t (new_opcode g.from g.into record_here) []) g.types₂_are ∙ ap (λ (n : ℕ). get_or types₂ n []) (sym opcode_is)

        abbrev counts : ℕ
        counts = count_of (old_row g.from record_here)

        abbrev counts' : ℕ
        counts' = count_of (new_row g.from g.into record_here)

        pub state_is : row.state ≡ state_of name_found (old_row g.from record_here) (new_row g.from g.into record_here)
        state_is = ap (λ (l : OpcodeRow). l.state) (g.rows_are op u instruction.small)

        pub length_here : row.length ≡ length_of old
        length_here = length_is g.from g.into last rows g.rows_are op u instruction.small ∙ ap length_of old_is

        new_length : row.new_length ≡ length_of (new_row g.from g.into record_here)
        new_length = new_length_is g.from g.into last rows g.rows_are op u instruction.small

        new_size : row.new_length ≡ 1 + total_width row'
        new_size = new_length ∙ ap length_of new_is

        pub here : Here
        here = record {
          known = g.opcodes op u instruction.small;
          room = instruction.room;
          some = omega (arith, length_here);
          next = omega (arith, length_here, instruction.room);
          most = g.lengths op u instruction.small;
        }

        -- its row, and the plans of its operands
        abbrev pub planned_here : (plans : List (List (Option Plan))) → Plans types types₂ rows last plans → Instruction row (get_or plans op []) s at
        planned_here plans p = record {
          planning = record { row = old; row' = row'; planned = p op u instruction.small; room = instruction.room };
          state = λ z. rw (old_is, new_is) at (state_copied (old_row g.from record_here) (new_row g.from g.into record_here) name_found (sym state_is ∙ z));
          known = g.opcodes op u instruction.small;
          size = length_here;
        }

        -- the first pass goes on from here
        from_here : (cs : List Case) (rest : Outcome) → unless_case (first_pass (carrying_in g) 0 g.records ++ cs) rest
            ≡ unless_case (first_pass (carrying_in g) i (record_here ∷ instruction.others) ++ cs) rest
        from_here cs rest = m.checked cs rest ∙ ap (λ (l : List (List ℕ)). unless_case (first_pass (carrying_in g) i l ++ cs) rest) instruction.are

        refused_here : (f : Refusal) → ((cs : List Case) (rest : Outcome) → unless_case (first_pass (carrying_in g) i (record_here ∷ instruction.others) ++ cs) rest ≡ refused_with f)
            → (out' : List ℕ) → BytesCarried (carrying_in g) g.records out₀ out' (Err f)
        refused_here f e out' = refuses f refl (λ cs rest. from_here _ rest ∙ e _ rest)

        -- its name is known, with as many operands
        module _ (e : (row.state ≡ Missing → ⊥) × (row.state ≡ OtherCount → ⊥)) where
          same_count : counts ≡ counts'
          same_count = state_known (old_row g.from record_here) (new_row g.from g.into record_here) name_found (λ z. e.0 (state_is ∙ z)) (λ z. e.1 (state_is ∙ z))

          over_operands : (cs : List Case) (rest : Outcome) → unless_case (first_pass (carrying_in g) i (record_here ∷ instruction.others) ++ cs) rest
              ≡ unless_case (operands_cases (carrying_in g) i at 1 old row' (pairs_of record_here) ++ (first_pass (carrying_in g) (suc i) instruction.others ++ cs)) rest
          over_operands cs rest =
              first_known (carrying_in g) i record_here instruction.others cs rest
              (state_found (old_row g.from record_here) (new_row g.from g.into record_here) name_found (λ z. e.0 (state_is ∙ z))) same_count old row' old_is new_is

          new_is_here : new ≡ get_or (carrying_in g).moved i 0
          new_is_here = moved_here (carrying_in g) i new m.rs m.moved

          -- what was said of it
          instruction_said : (out' : List ℕ) (r : Result Operands OperandRefusal) → Promised (row.opcode) old row' s at new map ids block n out' r
              → InstructionCarried (carrying_in g) i at new (row.opcode) old row' (pairs_of record_here) block n out' r
          instruction_said out' r said =
              said (carrying_in g) i g.marked (g.zeros op) (g.zeros₂ (row.opcode)) (rw (old_is, new_is) at same_count) new_is_here

          bad_here : (out₁ : List ℕ) (b : ℕ) (out' : List ℕ) (f : OperandFault) (q : ℕ) → OperandsCarried (carrying_in g) i at new old row' (pairs_of record_here) out₁ b out' (Err (record { fault = f; operand = q }))
              → BytesCarried (carrying_in g) g.records out₀ out (Err (BadOperand f i q))
          bad_here out₁ b out' f q (all_near n z a c w) = absurd (cc z)
          bad_here out₁ b out' f q (some_far n v z l a c) = absurd (cc z)
          bad_here out₁ b out' f q (some_refused f' q' z a) =
              let y = (err_parts z).0 in
              let w = (err_parts z).1 in
              refused_here (BadOperand f i q) (λ cs rest. over_operands cs rest ∙ (a _ rest ∙ rw (y, w))) out

          passes_here : (out₁ : List ℕ) (b : ℕ) (out' : List ℕ) (k' : ℕ) (q : Option ℕ) → OperandsCarried (carrying_in g) i at new old row' (pairs_of record_here) out₁ b out' (Ok (record { next = k'; far = q }))
              → (cs : List Case) (rest : Outcome) → unless_case (operands_cases (carrying_in g) i at 1 old row' (pairs_of record_here) ++ cs) rest ≡ unless_case cs rest
          passes_here out₁ b out' k' q (all_near n z a c w) = a
          passes_here out₁ b out' k' q (some_far n v z l a c) = a
          passes_here out₁ b out' k' q (some_refused f q' z a) = absurd (cc z)

          -- where they end
          next_most : (out₁ : List ℕ) (b : ℕ) (out' : List ℕ) (k' : ℕ) (q : Option ℕ) → OperandsCarried (carrying_in g) i at new old row' (pairs_of record_here) out₁ b out' (Ok (record { next = k'; far = q })) → k' ≤ b + 64
          next_most out₁ b out' k' q (all_near n' z a c w) =
              let y = (ok_parts z).0 in
              omega (arith, y, w.next, operands_length (carrying_in g) at new old row' (pairs_of record_here), new_size, here.most)
          next_most out₁ b out' k' q (some_far n' v z l a c) = let y = (ok_parts z).0 in omega (arith, y)
          next_most out₁ b out' k' q (some_refused f q' z a) = absurd (cc z)

          -- the second pass goes on from here
          far_first : (cs : List Case) (rest : Outcome) → unless_case (second_pass (carrying_in g) i m.rs ++ cs) rest
              ≡ unless_case (far_cases (carrying_in g) i at 1 old row' (pairs_of record_here) ++ (second_pass (carrying_in g) (suc i) instruction.others ++ cs)) rest
          far_first cs rest =
              ap (λ (l : List (List ℕ)). unless_case (second_pass (carrying_in g) i l ++ cs) rest) instruction.are
              ∙ first_far (carrying_in g) i record_here instruction.others old row' old_is new_is cs rest

          written_next : (out₁ : List ℕ) (b : ℕ) (out' : List ℕ) (k' : ℕ) (q : Option ℕ) → ByWords block n (row.opcode ∷ []) out₁ b → OperandsCarried (carrying_in g) i at new old row' (pairs_of record_here) out₁ b out' (Ok (record { next = k'; far = q }))
              → n ≤ instruction_start → Written g m.rs out block k n i first → Written g instruction.others out out' k k' (suc i) (keep_first first i q)
          written_next out₁ b out' k' q byte o few (met_far far z f) = met_far far (keep_old first i q far z) f
          written_next out₁ b out' k' q byte (all_near n' z a c w) few (wrote_all e' left near) =
              let y = (ok_parts z).0 in
              let v = (ok_parts z).1 in
              let piece = row.opcode ∷ new_operands (carrying_in g) at new old row' (pairs_of record_here) in
              let put : ByWords block n piece out' k' = byte and_words (rw y at w) in
              let fits : n + length piece ≤ length block = omega (arith, few, going.size, operands_length (carrying_in g) at new old row' (pairs_of record_here), new_size, here.most) in
              wrote_all (keep_none first i q e' v)
              (left_same
              (ap (λ (l : List (List ℕ)). take n block ++ new_bytes (carrying_in g) i l) instruction.are
              ∙ (ap (λ (l : List ℕ). take n block ++ l) (first_bytes (carrying_in g) i record_here instruction.others old row' old_is new_is new (row.opcode) new_is_here opcode_is)
              ∙ (sym (append_assoc (take n block) piece _) ∙ ap (λ (l : List ℕ). l ++ new_bytes (carrying_in g) (suc i) instruction.others) (sym (ahead_front put fits)))))
              left)
              (λ cs rest. near cs rest ∙ (far_first cs rest ∙ c _ rest))
          written_next out₁ b out' k' q byte (some_far n' v z l a c) few (wrote_all e' left near) =
              met_far (record { instruction = i; operand = v }) (keep_some first i q v e' (ok_parts z).1) (λ cs rest. near cs rest ∙ (far_first cs rest ∙ c _ rest))
          written_next out₁ b out' k' q byte (some_refused f q' z a) few (wrote_all e' left near) = absurd (cc z)

          midway_next : (out₁ : List ℕ) (b : ℕ) (out' : List ℕ) (k' : ℕ) (q : Option ℕ) → ByWords block n (row.opcode ∷ []) out₁ b → OperandsCarried (carrying_in g) i at new old row' (pairs_of record_here) out₁ b out' (Ok (record { next = k'; far = q }))
              → n ≤ instruction_start → Midway g out out' k k' (new + row.new_length) (i + 1) (keep_first first i q) (at + row.length)
          midway_next out₁ b out' k' q byte o few =
              record {
                rs = instruction.others;
                stands = rw length_here instruction.stands;
                checked = λ cs rest. from_here cs rest ∙ (over_operands cs rest ∙ (passes_here out₁ b out' k' q o _ rest ∙ rw (add-one i)));
                written = rw (add-one i) (written_next out₁ b out' k' q byte o few m.written);
                moved = rw new_length (moved_next (carrying_in g) i new record_here instruction.others (rw instruction.are at m.moved));
              }

      -- 4: the second sheet lacks its name
      pub unknown : row.state ≡ Missing → AllPromised out (Err (UnknownName i))
      unknown e g =
          refused_here g (UnknownName i)
          (λ cs rest. first_missing (carrying_in g) i _ _ cs rest (state_missing (old_row g.from (record_here g)) (new_row g.from g.into (record_here g)) (name_found g) (sym (state_is g) ∙ e))) out

      -- 5: it has the name with another number of operands
      pub other_count : row.state ≡ OtherCount → AllPromised out (Err (OperandCount i))
      other_count e g =
          refused_here g (OperandCount i)
          (λ cs rest. first_other (carrying_in g) i _ _ cs rest
          (state_found (old_row g.from (record_here g)) (new_row g.from g.into (record_here g)) (name_found g) (λ z. let y : Missing ≡ OtherCount = sym z ∙ (sym (state_is g) ∙ e) in cc y))
          (state_other (old_row g.from (record_here g)) (new_row g.from g.into (record_here g)) (name_found g) (sym (state_is g) ∙ e))) out

      -- it was carried
      module _ (e : (row.state ≡ Missing → ⊥) × (row.state ≡ OtherCount → ⊥)) (out' : List ℕ) (r : Result Operands OperandRefusal) (said : Promised (row.opcode) old row' s at new map ids block n out' r) where
        -- an operand that cannot be carried
        pub bad : (f : OperandFault) (q : ℕ) → r ≡ Err (record { fault = f; operand = q }) → AllPromised out (Err (BadOperand f i q))
        bad f q v g = let c = instruction_said g e out' (Err (record { fault = f; operand = q })) (rw v at said) in bad_here g e c.block₁ c.b out' f q c.operands

        pub turn : Ready types types₂ rows last s map ids → n ≤ instruction_start → length out' ≡ length block → (k' : ℕ) (q : Option ℕ) → r ≡ Ok (record { next = k'; far = q }) → (first' : Option Far) → first' ≡ keep_first first i q
            → Going out out' k k' (new + row.new_length) (i + 1) first' (at + row.length)
        turn g₀ few l k' q v first' w = record {
          below = omega (arith, (here g₀).some, going.below);
          inside = (here g₀).next;
          small = omega (arith, (here g₀).some, (here g₀).most, going.small);
          same = going.same;
          size = l ∙ going.size;
          held = let c = instruction_said g₀ e out' (Ok (record { next = k'; far = q })) (rw v at said) in omega (arith, few, c.opcode_put.next, next_most g₀ e c.block₁ c.b out' k' q c.operands);
          midway = λ g. let c = instruction_said g e out' (Ok (record { next = k'; far = q })) (rw v at said) in rw w (midway_next g e c.block₁ c.b out' k' q c.opcode_put c.operands few);
        }

-- a turn of the loop, once room was made for an instruction
module _ {types types₂ : List (List ℕ)} {rows : List OpcodeRow} {last : ℕ} {s map ids out₀ out block : List ℕ} {k n new i : ℕ} {first : Option Far} {at : ℕ} (going : Going types types₂ rows last s map ids out₀ out block k n new i first at)
    {out' : List ℕ} {r : Gathered} (w : RoomMade instruction_start block n out k out' r) (h : at < length s) (u : get_or s at 0 < 256) where
  abbrev here_row : OpcodeRow
  here_row = get_or rows (get_or s at 0) empty

  pub small_here : Ready types types₂ rows last s map ids → (1 ≤ here_row.length) × (at + here_row.length ≤ length s) × (here_row.new_length ≤ 65)
  small_here g = let x = here _ _ _ _ _ _ _ _ _ _ _ _ _ _ _ _ (roomy _ _ _ _ _ _ _ _ _ _ _ _ _ _ _ _ going w).1 h u g in (x.some, x.next, x.most)

  abbrev pub plans_here : Ready types types₂ rows last s map ids → (plans : List (List (Option Plan))) → Plans types types₂ rows last plans → Instruction here_row (get_or plans (get_or s at 0) []) s at
  plans_here g plans p = planned_here _ _ _ _ _ _ _ _ _ _ _ _ _ _ _ _ (roomy _ _ _ _ _ _ _ _ _ _ _ _ _ _ _ _ going w).1 h u g plans p

  pub name_unknown : here_row.state ≡ Missing → AllPromised types types₂ rows last s map ids out₀ out' (Err (UnknownName i))
  name_unknown e = unknown _ _ _ _ _ _ _ _ _ _ _ _ _ _ _ _ (roomy _ _ _ _ _ _ _ _ _ _ _ _ _ _ _ _ going w).1 h u e

  pub count_differs : here_row.state ≡ OtherCount → AllPromised types types₂ rows last s map ids out₀ out' (Err (OperandCount i))
  count_differs e = other_count _ _ _ _ _ _ _ _ _ _ _ _ _ _ _ _ (roomy _ _ _ _ _ _ _ _ _ _ _ _ _ _ _ _ going w).1 h u e

  module _ (e : (here_row.state ≡ Known) ⊎ (here_row.state ≡ Copied)) {block' : List ℕ} {answer : Result Operands OperandRefusal} (said : Promised here_row.opcode (get_or types (get_or s at 0) []) (get_or types₂ here_row.opcode []) s at new map ids block r.kept block' answer) where
    pub operand_refused : {f : OperandFault} {q : ℕ} → answer ≡ Err (record { fault = f; operand = q }) → AllPromised types types₂ rows last s map ids out₀ out' (Err (BadOperand f i q))
    operand_refused v = bad _ _ _ _ _ _ _ _ _ _ _ _ _ _ _ _ (roomy _ _ _ _ _ _ _ _ _ _ _ _ _ _ _ _ going w).1 h u (is_known _ e) _ _ said _ _ v

    pub next_turn : Ready types types₂ rows last s map ids → length block' ≡ length block → {k' : ℕ} {q : Option ℕ} → answer ≡ Ok (record { next = k'; far = q }) → {first' : Option Far} → first' ≡ keep_first first i q
        → Going types types₂ rows last s map ids out₀ out' block' r.next k' (new + here_row.new_length) (i + 1) first' (at + here_row.length)
    next_turn g l v z = let m = roomy _ _ _ _ _ _ _ _ _ _ _ _ _ _ _ _ going w in turn _ _ _ _ _ _ _ _ _ _ _ _ _ _ _ _ m.1 h u (is_known _ e) _ _ said g m.0 l _ _ v _ z
