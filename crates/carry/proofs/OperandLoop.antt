-- The operands of an instruction, one by one, in both passes. Assumes nothing.
use mathlib.Core.Path.{◌≡◌, refl, ap, sym, ◌∙◌}
use mathlib.Core.Bool.{false}
use Rattle.std.specs.Prelude.{Option, None, Some, Result, Ok, Err}
use Rattle.std.specs.Option.{option_or}
use mathlib.Core.List.{List, [], ◌∷◌, ◌++◌, append_assoc, append-nil}
use Prim.Native.Nat.{ℕ, suc, ◌+◌, ◌*◌, ◌≤◌, ◌<◌}
use native.Mathlib.Numerals.{add-one}
use native.Mathlib.Omega.{arith}
use lib.Dec.{eqb}
use lib.ListN.{length, drop, get_or, drop_of_length-le}
use lib.Seq.{drop-cons, get_or-drop}
use Rattle.lists.specs.Scan.{part}
use Rattle.lists.specs.Write.{ByWords, top}
use Rattle.lists.proofs.Tests.{both_no_left}
use Rattle.lists.proofs.Writes.{wrote_none}
use Rattle.lists.proofs.Aheads.{◌and_words◌, as_words, same_ahead}
use Rattle.answers.specs.Outcome.{Outcome}
use Rattle.answers.specs.Outcome.Outcome.{refused_with}
use Rattle.answers.specs.declared.refusal.OperandFault.{OperandFault}
use Rattle.answers.specs.declared.refusal.OperandFault.TheVariants.{Distance}
use Rattle.answers.specs.declared.refusal.Refusal.TheVariants.{BadOperand}
use Rattle.spec_numbers.specs.LittleEndian.{le, le_bytes}
use Rattle.spec_numbers.proofs.ByteLaws.{length_le_bytes}
use Rattle.spec_sheet.specs.Types.{width_of}
use Rattle.spec_sheet.proofs.TypeLaws.{width_most}
use Rattle.spec_sheet.specs.Row.{sum_by, length_of, total_width, count_of}
use Rattle.spec_body.specs.Record.{pairs}
use Rattle.spec_carry.specs.Cases.{Case, unless_case}
use Rattle.spec_carry.specs.Passes.{Carrying, operand_cases, operands_cases, far_cases, new_operands, new_bits}
use Rattle.spec_carry.proofs.CaseLaws.{Passed, unless_passed}
use Rattle.spec_carry.proofs.CaseLaws.Passed.{none, one}
use Rattle.carry.specs.Marks.{Marked}
use Rattle.carry.specs.Ready.{ZerosBehind}
use Rattle.carry.specs.Plans.{planned, plan_of, Planning}
use Rattle.carry.specs.Carried.{OperandCarried, OperandsCarried}
use Rattle.carry.specs.Carried.OperandCarried.{is_near, too_far, is_refused}
use Rattle.carry.specs.Carried.OperandsCarried.{all_near, some_far, some_refused}
use Rattle.carry.specs.declared.plans.Plan.{Plan}
use Rattle.carry.specs.declared.instructions.Operands.{Operands}
use Rattle.carry.specs.declared.instructions.OperandRefusal.{OperandRefusal}
use Rattle.carry.proofs.PlanLaws.{some_plan, no_plan, plan_at}
use Rattle.carry.proofs.RowLaws.{unless_then, same_end, zeros_passed}

-- where the second sheet has no operand, none is too far, and nothing is written
module _ (x : Carrying) (i at new : ℕ) where
  zeros_near : (q : ℕ) (row row' ps : List ℕ) → ((k : ℕ) → get_or row' k 0 ≡ 0) → Passed (far_cases x i at q row row' ps)
  unfolding far_cases
  zeros_near q [] row' ps f = none
  zeros_near q (c ∷ cs) row' ps f =
      let e : eqb (get_or row' 0 0) 9 ≡ false = rw (f 0) in
      one (both_no_left (eqb (get_or row' 0 0) 9) _ e) (zeros_near (suc q) cs (drop 1 row') (drop 2 ps) (λ k. get_or-drop 1 row' k 0 ∙ f (1 + k)))

  zeros_empty : (row row' ps : List ℕ) → ((k : ℕ) → get_or row' k 0 ≡ 0) → new_operands x at new row row' ps ≡ []
  unfolding new_operands le_bytes width_of
  zeros_empty row [] ps f = refl
  zeros_empty row (d ∷ ds) ps f = rw (f 0, zeros_empty (drop 1 row) ds (drop 2 ps) (λ k. f (suc k)))

-- what an answer says of the operands, of any carrying that has this map and these ids
abbrev pub Promised : List ℕ → List ℕ → List ℕ → ℕ → ℕ → List ℕ → List ℕ → List ℕ → ℕ → List ℕ → Result Operands OperandRefusal → Type 0
Promised row row' s at new map ids out k out' r =
    (x : Carrying) (i : ℕ)
    → Marked x map ids → ZerosBehind row → ZerosBehind row' → count_of row ≡ count_of row' → new ≡ get_or x.moved i 0
    → OperandsCarried x i at new row row' (pairs row s (at + 1)) out k out' r

-- what was said of one
abbrev pub Said : ℕ → ℕ → ℕ → ℕ → ℕ → List ℕ → List ℕ → List ℕ → ℕ → List ℕ → Result (Option ℕ) OperandFault → Type 0
Said c d at new bits map ids out k out' r = (x : Carrying) (i q : ℕ) → Marked x map ids → new ≡ get_or x.moved i 0 → OperandCarried x i at q new c d bits out k out' r

-- what the second pass has done: it wrote all operands before q, or `far` is the first of them that is too far; those left have the
-- types cs and ds and the pairs ps'
data Written (x : Carrying) (i at new : ℕ) (row row' ps out₀ : List ℕ) (k : ℕ) (cs ds ps' out : List ℕ) (n : ℕ) (far : Option ℕ) (q : ℕ) : Type 0 where
  wrote_all : far ≡ None → (seen : List ℕ) → ByWords out₀ k seen out n → new_operands x at new row row' ps ≡ seen ++ new_operands x at new cs ds ps'
      → ((more : List Case) (rest : Outcome) → unless_case (far_cases x i at 1 row row' ps ++ more) rest ≡ unless_case (far_cases x i at q cs ds ps' ++ more) rest)
      → Written x i at new row row' ps out₀ k cs ds ps' out n far q
  met_far : (f : ℕ) → far ≡ Some f → ((more : List Case) (rest : Outcome) → unless_case (far_cases x i at 1 row row' ps ++ more) rest ≡ refused_with (BadOperand Distance i f))
      → Written x i at new row row' ps out₀ k cs ds ps' out n far q

-- and the first pass: the operands before q pass; those left have their bytes from p on
pub record Midway (x : Carrying) (i at new : ℕ) (row row' s out₀ : List ℕ) (k : ℕ) (cs ds out : List ℕ) (n : ℕ) (far : Option ℕ) (p q : ℕ) : Type 0 where
  checked : (more : List Case) (rest : Outcome) → unless_case (operands_cases x i at 1 row row' (pairs row s (at + 1)) ++ more) rest ≡ unless_case (operands_cases x i at q cs ds (pairs cs s p) ++ more) rest
  written : Written x i at new row row' (pairs row s (at + 1)) out₀ k cs ds (pairs cs s p) out n far q
  reach : n + 8 ≤ k + 8 * q

module _ {x : Carrying} {i at new : ℕ} {row row' s out₀ : List ℕ} {k : ℕ} where
  -- none is left that has a case or bytes
  all_carried : {cs ds out : List ℕ} {n : ℕ} {far : Option ℕ} {p q : ℕ} → Midway x i at new row row' s out₀ k cs ds out n far p q
      → q ≤ 9 → Passed (operands_cases x i at q cs ds (pairs cs s p)) → Passed (far_cases x i at q cs ds (pairs cs s p)) → new_operands x at new cs ds (pairs cs s p) ≡ []
      → OperandsCarried x i at new row row' (pairs row s (at + 1)) out₀ k out (Ok (record { next = n; far = far }))
  all_carried {cs} {ds} {out} {n} {far} {p} {q} m few c f e = go m.written
    where
      passes : (more : List Case) (rest : Outcome) → unless_case (operands_cases x i at 1 row row' (pairs row s (at + 1)) ++ more) rest ≡ unless_case more rest
      passes more rest = m.checked more rest ∙ unless_passed _ more rest c

      go : Written x i at new row row' (pairs row s (at + 1)) out₀ k cs ds (pairs cs s p) out n far q
          → OperandsCarried x i at new row row' (pairs row s (at + 1)) out₀ k out (Ok (record { next = n; far = far }))
      go (wrote_all z seen put bytes near) =
          all_near n (rw z) passes (λ more rest. near more rest ∙ unless_passed _ more rest f)
          (same_ahead (sym (bytes ∙ (rw e (append-nil seen)))) put)
      go (met_far g z h) = some_far n g (rw z) (omega (arith, m.reach)) passes h

  -- one operand more
  module _ {c d : ℕ} {cs ds out : List ℕ} {n : ℕ} {far : Option ℕ} {p q : ℕ} (m : Midway x i at new row row' s out₀ k (c ∷ cs) (d ∷ ds) out n far p q) where
    abbrev bits : ℕ
    bits = le (part s p (width_of c))

    -- its cases stand in front of those that are left
    operand_first : (more : List Case) (rest : Outcome) → unless_case (operands_cases x i at 1 row row' (pairs row s (at + 1)) ++ more) rest
        ≡ unless_case (operand_cases x i at q c d bits) (unless_case (operands_cases x i at (suc q) cs ds (pairs cs s (p + width_of c)) ++ more) rest)
    unfolding operands_cases pairs
    operand_first more rest =
        let a = operand_cases x i at q c d bits in
        let b = operands_cases x i at (suc q) cs ds (pairs cs s (p + width_of c)) in
        m.checked more rest ∙ (ap (λ (l : List Case). unless_case l rest) (append_assoc a b more) ∙ unless_then a (b ++ more) rest)

    -- where it passes the first pass, those behind it are left
    checked_more : ((rest : Outcome) → unless_case (operand_cases x i at q c d bits) rest ≡ rest) → (more : List Case) (rest : Outcome)
        → unless_case (operands_cases x i at 1 row row' (pairs row s (at + 1)) ++ more) rest ≡ unless_case (operands_cases x i at (suc q) cs ds (pairs cs s (p + width_of c)) ++ more) rest
    checked_more g more rest = operand_first more rest ∙ g _

    -- it is written
    pub one_near : (out' : List ℕ) (n' : ℕ) → OperandCarried x i at q new c d bits out n out' (Ok (Some n')) → Midway x i at new row row' s out₀ k cs ds out' n' far (p + width_of c) (suc q)
    unfolding far_cases new_operands pairs unless_case
    one_near out' n' (is_near k' e g h w) = record {
      checked = checked_more g;
      written = go m.written;
      reach = omega (arith, m.reach, w.next, y, length_le_bytes (width_of d) (new_bits x at new c d bits), width_most d);
    }
      where
        y : k' ≡ n'
        y = cc e

        go : Written x i at new row row' (pairs row s (at + 1)) out₀ k (c ∷ cs) (d ∷ ds) (pairs (c ∷ cs) s p) out n far q
            → Written x i at new row row' (pairs row s (at + 1)) out₀ k cs ds (pairs cs s (p + width_of c)) out' n' far (suc q)
        go (wrote_all z seen put bytes near) =
            let bs = le_bytes (width_of d) (new_bits x at new c d bits) in
            wrote_all z (seen ++ bs) (put and_words (rw y at w)) (bytes ∙ sym (append_assoc seen bs _)) (λ more rest. near more rest ∙ rw h)
        go (met_far v z h) = met_far v z h
    one_near out' n' (too_far e g h) = absurd (cc e)
    one_near out' n' (is_refused o e g) = absurd (cc e)

    -- it is too far
    pub one_far : (out' : List ℕ) → OperandCarried x i at q new c d bits out n out' (Ok None) → Midway x i at new row row' s out₀ k cs ds out' n (option_or far (Some q)) (p + width_of c) (suc q)
    unfolding far_cases unless_case pairs
    one_far out' (is_near k' e g h w) = absurd (cc e)
    one_far out' (too_far e g h) = record { checked = checked_more g; written = go m.written; reach = omega (arith, m.reach) }
      where
        go : Written x i at new row row' (pairs row s (at + 1)) out₀ k (c ∷ cs) (d ∷ ds) (pairs (c ∷ cs) s p) out n far q
            → Written x i at new row row' (pairs row s (at + 1)) out₀ k cs ds (pairs cs s (p + width_of c)) out' n (option_or far (Some q)) (suc q)
        go (wrote_all z seen put bytes near) = met_far q (rw z) (λ more rest. near more rest ∙ rw h)
        go (met_far v z h) = met_far v (rw z) h
    one_far out' (is_refused o e g) = absurd (cc e)

    pub one_refused : (v : OperandFault) (out' : List ℕ) → OperandCarried x i at q new c d bits out n out' (Err v)
        → OperandsCarried x i at new row row' (pairs row s (at + 1)) out₀ k out' (Err (record { fault = v; operand = q }))
    one_refused v out' (is_near k' e g h w) = absurd (cc e)
    one_refused v out' (too_far e g h) = absurd (cc e)
    one_refused v out' (is_refused f e g) =
        let z : f ≡ v = cc e in
        some_refused v q refl (λ more rest. operand_first more rest ∙ (g _ ∙ ap (λ (y : OperandFault). refused_with (BadOperand y i q)) z))

-- the j-th plan of an instruction
module _ {plans : List (Option Plan)} {s : List ℕ} {at : ℕ} (g : Planning plans s at) (j : ℕ) where
  pub plan_here : get_or plans j None ≡ plan_of (get_or g.row j 0) (get_or g.row' j 0)
  plan_here = ap (λ (l : List (Option Plan)). get_or l j None) g.planned.are ∙ plan_at g.row g.row' j

  pub code_none : get_or plans j None ≡ None → get_or g.row j 0 ≡ 0
  code_none e = no_plan _ _ (sym plan_here ∙ e)

  -- the plan is that of both types
  pub plan_is : (plan : Plan) → get_or plans j None ≡ Some plan → plan ≡ planned (get_or g.row j 0) (get_or g.row' j 0)
  plan_is plan e = (some_plan _ _ plan (sym plan_here ∙ e)).1

-- those up to j were carried
pub record Going (row row' s : List ℕ) (at new : ℕ) (map ids out₀ : List ℕ) (k : ℕ) (out : List ℕ) (n : ℕ) (far : Option ℕ) (p j : ℕ) : Type 0 where
  pub few : j ≤ 8
  pub room : p + total_width (drop j row) ≤ length s
  pub same : length out ≡ length out₀
  pub left : (x : Carrying) (i : ℕ)
      → Marked x map ids → new ≡ get_or x.moved i 0
      → Midway x i at new row row' s out₀ k (drop j row) (drop j row') out n far p (j + 1)

module _ (row row' s : List ℕ) (at new : ℕ) (map ids out₀ : List ℕ) (k : ℕ) where
  pub start : at + length_of row ≤ length s → length out₀ ≤ top → k ≤ top → Going row row' s at new map ids out₀ k out₀ k None (at + 1) 0
  start h a b = record {
    few = omega arith;
    room = omega arith;
    same = refl;
    left = λ x i m here. record { checked = λ more rest. refl; written = wrote_all refl [] (as_words (wrote_none a b)) refl (λ more rest. refl); reach = omega arith };
  }

  module _ (out : List ℕ) (n : ℕ) (far : Option ℕ) (p j : ℕ) (g : Going row row' s at new map ids out₀ k out n far p j) (l : length row ≡ 8) (l' : length row' ≡ 8) where
    -- eight operands are all
    pub ended : 8 ≤ j → Promised row row' s at new map ids out₀ k out (Ok (record { next = n; far = far }))
    unfolding operands_cases far_cases new_operands
    ended h x i m z y e here =
        let none_left : length row ≤ j = omega arith in
        let none-left' : length row' ≤ j = omega arith in
        all_carried (g.left x i m here) (omega (arith, g.few)) (rw (drop_of_length-le row none_left) none) (rw (drop_of_length-le row none_left) none) (rw (drop_of_length-le row' none-left'))

    module _ (h : j < 8) (code : ℕ) (c : code ≡ get_or row j 0) where
      here_old : drop j row ≡ code ∷ drop (j + 1) row
      here_old = let i : j < length row = omega arith in rw (c, add-one j) (drop-cons row j 0 i)

      here_new : drop j row' ≡ get_or row' j 0 ∷ drop (j + 1) row'
      here_new = let i : j < length row' = omega arith in rw (add-one j) (drop-cons row' j 0 i)

      -- the bytes of operand j are there
      pub operand_room : (w : ℕ) → w ≡ width_of code → p + w + total_width (drop (j + 1) row) ≤ length s
      unfolding sum_by
      operand_room w e =
          let d : total_width (drop j row) ≡ w + total_width (drop (j + 1) row) = rw (e, here_old) in
          omega (arith, g.room)

      -- a code 0 ends both rows
      pub stopped : code ≡ 0 → Promised row row' s at new map ids out₀ k out (Ok (record { next = n; far = far }))
      stopped q x i m z y e here =
          let zero-old : get_or row j 0 ≡ 0 = sym c ∙ q in
          let zero-new : get_or row' j 0 ≡ 0 = same_end row row' z y e j zero-old in
          let zeros : (k : ℕ) → get_or (drop j row) k 0 ≡ 0 = λ k. get_or-drop j row k 0 ∙ z j (j + k) (omega arith) zero-old in
          let zeros' : (k : ℕ) → get_or (drop j row') k 0 ≡ 0 = λ k. get_or-drop j row' k 0 ∙ y j (j + k) (omega arith) zero-new in
          all_carried (g.left x i m here) (omega arith)
          (zeros_passed x i at (j + 1) (drop j row) (drop j row') _ zeros zeros')
          (zeros_near x i at new (j + 1) (drop j row) (drop j row') _ zeros')
          (zeros_empty x i at new (drop j row) (drop j row') _ zeros')

      module _ (d : ℕ) (f : d ≡ get_or row' j 0) (out' : List ℕ) (r : Result (Option ℕ) OperandFault) (said : Said code d at new (le (part s p (width_of code))) map ids out n out' r) where
        -- operand j, and those behind it
        midway : (x : Carrying) (i : ℕ) → Marked x map ids → new ≡ get_or x.moved i 0 → Midway x i at new row row' s out₀ k (code ∷ drop (j + 1) row) (d ∷ drop (j + 1) row') out n far p (j + 1)
        midway x i m here = rw (here_old, here_new, sym f) at (g.left x i m here)

        module _ (same : length out' ≡ length out) (w : ℕ) (e : w ≡ width_of code) where
          pub turn_near : (n' : ℕ) → r ≡ Ok (Some n') → Going row row' s at new map ids out₀ k out' n' far (p + w) (j + 1)
          turn_near n' v = record {
            few = omega arith;
            room = operand_room w e;
            same = same ∙ g.same;
            left = λ x i m here. rw (e, add-one (j + 1)) (one_near (midway x i m here) out' n' (rw v at (said x i (j + 1) m here)));
          }

          pub turn_far : r ≡ Ok None → Going row row' s at new map ids out₀ k out' n (option_or far (Some (j + 1))) (p + w) (j + 1)
          turn_far v = record {
            few = omega arith;
            room = operand_room w e;
            same = same ∙ g.same;
            left = λ x i m here. rw (e, add-one (j + 1)) (one_far (midway x i m here) out' (rw v at (said x i (j + 1) m here)));
          }

        -- an operand that cannot be carried
        pub refused : (v : OperandFault) → r ≡ Err v → Promised row row' s at new map ids out₀ k out' (Err (record { fault = v; operand = j + 1 }))
        refused v e x i m z y u here = one_refused (midway x i m here) v out' (rw e at (said x i (j + 1) m here))
