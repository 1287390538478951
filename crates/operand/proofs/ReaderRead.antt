-- One law for every read of a `ByteReader` that takes it apart and calls a covered function on the slice and the position:
--     fn read(self) -> R { callee(self.body, self.pos) }        ensures  r ≡ f (now body) pos
-- where the callee ensures the same of its own slice and position. R is any type of plain data, f any function.
-- The struct is Copy: what it owns is had twice, one copy is kept whole for the exit, and of the other what `body` owns goes to the callee. Assumes nothing.
use mathlib.Core.Path.{◌≡◌, refl}
use Prim.Native.Nat.{ℕ, ◌<◌, ◌^◌}
use mathlib.Core.List.{List, [], ◌∷◌}
use lib.Dec.{T as Holds}
use lib.ListN.{length}
use seplogic.Ra.Ura.{Ura}
use mir.Syntax.{Callee as Name, Ty, Fn, named, erased, imm, w8, w64, ty_int, ty_ref, field, place, copy, local, value_local, seq, assign, call, return, rv_opd}
use mir.Val.{Val, WT, has_ty, vint}
use base.Logic.{SProp, ent, sep, emp, via, fst∗, snd∗, ex_e, id⊢}
use base.Fml.{Lft, Share, Fml, ftrue, flft}
use prog.Wp.{Calls, Loops, WpFn, Tables}
use types.Logic.{Logic, sem}
use contract.Lifetimes.{Lfts}
use contract.Monad.{fact}
use types.Kit.{‵, raw, ◌⊛◌, given, ⋆, some, later, ◌$◌, ◌∵◌, !, qed, by, move, drop, use1, use2, split, join, learn, pick, fsplit, fjoin, suffices, frame, await, done}
use types.Part.{whole, sub, look_in}
use types.Run.{look, init, forget, stop, fld, from, load, of_opd, and_then, no_more, assigns, land, returns, enter, alloc1, alloc0, params1, pass1, pass0, free1, free0}
use sound.WpLaws.{FmC, fm_of, WpFn-mono}
use denote.RattleType.{RattleType, owns}
use denote.Laws.{Is, shows}
use denote.Plain.{uint_Makes}
use denote.Builtin.{u8, usize, SliceRefOf}
use denote.Signature.{Signature, plain, named_lft}
use denote.Slice.{slice_ty, slice_val, ShrSlice}
use denote.Steps.{owned, peeks, heard, nothing}
use denote.Struct.Declared.{Declared}
use denote.Struct.Laws as LL
use denote.Struct.Rest.{all_own, field_own, rest, own_open, own_out}
use denote.Struct.Values.{Values}
use denote.Triple.Statement.{Contract, Triple}
use denote.Triple.Call.{calls_at}
use denote.Triple.Entry.{Vals, on_entry}
use denote.Triple.Spec.{Meets, triple_of}
use denote.Triple.Walked.{says, Stays, stay_none, walk_of, Goes-none, Walks, ends_at, walked, walk_Meets}
use denote.Exit.{yes}
use denote.Triple.Clauses.{Clauses, Ended, closing, ensured, lasts}
use Rattle.operand.specs.declared.reader.ByteReader.{ByteReader}
use Rattle.operand.specs.contracts.reader.ByteReader as T
use Rattle.operand.proofs.reader.ByteReader.TheLaws as T'

-- the struct's type, over the signature's lifetimes
abbrev pub B : Lfts 1 → RattleType
B κs = T.the_row (named_lft 1 0 tt κs)

-- what is asked of the result's type: its MIR type, and that a value of it has that type
pub record Result : Type 2 where
  pub row : RattleType
  pub mir : Ty
  pub typed : {M : Type 1} {𝓤 : Ura M} (𝓛 : Logic 𝓤) (r : row.Denot) (u : Val) → Is row r (u ∷ []) → Holds (has_ty mir u) × WT u

module _ (R : Result) (f : List ℕ → ℕ → R.row.Denot) (k : Name) where
  -- the read
  abbrev pub function : Fn
  function = record {
    lifetimes = 1;
    outlives = [];
    ty_params = [];
    givens = 0;
    params = 1;
    locals = local R.mir value_local ∷ local (T'.mir (named 0)) value_local ∷ local (slice_ty (ty_ref erased imm (ty_int w8))) value_local ∷ local (ty_int w64) value_local ∷ [];
    body = seq (assign (place 2 []) (rv_opd (copy (place 1 (field 0 ∷ [])))))
        (seq (assign (place 3 []) (rv_opd (copy (place 1 (field 1 ∷ [])))))
        (seq (call k (copy (place 2 []) ∷ copy (place 3 []) ∷ []) (place 0 [])) return));
  }

  abbrev pub signature : Signature
  signature = record { lifetimes = 1; outlives = []; params = plain B ∷ []; result = plain (λ _. R.row) }

  abbrev pub ended : Ended
  ended = record { signature = signature; kept = (yes, tt) }

  abbrev pub clauses : {M : Type 1} (𝓤 : Ura M) → Clauses 𝓤 ended
  clauses 𝓤 κs a = record { ghost = Unit {0}; requires = λ _. emp 𝓤; ensures = λ _ r e. fact 𝓤 (r ≡ f a.0.body.now a.0.pos) }

  abbrev stayed : Stays ended.signature.params ended.kept
  stayed = (stay_none B yes, tt)

  -- the callee
  abbrev pub on_slice : Signature
  on_slice = record { lifetimes = 1; outlives = []; params = SliceRefOf (0 ∷ []) tt (plain (λ _. u8)) (λ _. tt) ∷ plain (λ _. usize) ∷ []; result = plain (λ _. R.row) }

  abbrev pub on_slice_ended : Ended
  on_slice_ended = record { signature = on_slice; kept = (yes, (yes, tt)) }

  abbrev pub on_slice_clauses : {M : Type 1} (𝓤 : Ura M) → Clauses 𝓤 on_slice_ended
  on_slice_clauses 𝓤 κs a = record { ghost = Unit {0}; requires = λ _. emp 𝓤; ensures = λ _ r e. fact 𝓤 (r ≡ f a.0.now a.1.0) }

  module _ {M : Type 1} {𝓤 : Ura M} (𝓛 : Logic 𝓤) where
    -- the contract that the proof cites
    abbrev pub Callee : Contract 𝓤
    Callee = triple_of 𝓛 on_slice (closing 𝓛 on_slice_ended (on_slice_clauses 𝓤))

  module _ {M : Type 1} {𝓤 : Ura M} (𝓛 : Logic 𝓤) (κ : Lft) (q : Share) (d : ByteReader) where
    open 𝓛 use {H}

    abbrev mach : Val
    mach = T'.lowered d

    -- the machine value of `body`
    abbrev v : Val
    v = slice_val d.body.ref_ptr (length d.body.now)

    abbrev found : R.row.Denot
    found = f d.body.now d.pos

    abbrev Post : Val → SProp 𝓤
    Post = (walk_of 𝓛 ended stayed (clauses 𝓤)).post (((κ, tt), (q, tt), tt, (d, tt), (mach ∷ [], tt)), tt)

    abbrev Own : Fml
    Own = (B (κ, tt)).own_val d (mach ∷ [])

    abbrev D : Declared
    D = T.the_type (named_lft 1 0 tt (κ, tt))

    abbrev L : LL.Laws D
    L = T'.the_laws (named_lft 1 0 tt (κ, tt))

    abbrev vd : Values D.parts
    vd = (d.body, (d.pos, tt))

    -- what the callee is passed
    abbrev passed : Vals on_slice (κ, tt)
    passed = (v ∷ [], (vint w64 d.pos ∷ [], tt))

    abbrev to : (Callee 𝓛).Ghost
    to = (((κ, tt), (q, tt), tt, (d.body, (d.pos, tt)), passed), tt)

    asked : ent 𝓤 (on_entry 𝓛 on_slice (κ, tt) (q, tt) (d.body, (d.pos, tt)) passed) ((Callee 𝓛).pre to)
    asked = qed 𝓛 ((‵ (flft κ q) ⊛ ‵ ftrue) ∷ ‵ (owns (ShrSlice (named 0) κ u8 ∷ usize ∷ []) (d.body, (d.pos, tt)) passed) ∷ []) ∵ join ! $ frame ! $ done !

    apart : d.pos < 2 ^ 64 → ent 𝓤 (on_entry 𝓛 signature (κ, tt) (q, tt) (d, tt) (mach ∷ [], tt)) (sep 𝓤 ((Callee 𝓛).pre to) (sem 𝓛 Own))
    apart fits =
        qed 𝓛 ((‵ (flft κ q) ⊛ ‵ ftrue) ∷ ‵ (owns (B (κ, tt) ∷ []) (d, tt) (mach ∷ [], tt)) ∷ []) ∵
        move ! (1 ∷ []) $ fsplit ! $ move ! (1 ∷ []) $ drop ! $ use1 𝓛 (‵ Own ⊛ ‵ Own) ((LL.copy D (T'.the_copy (named_lft 1 0 tt (κ, tt))) 𝓛).twice d (mach ∷ [])) $ split ! $
        use1 𝓛 (given (mach ∷ [] ≡ mach ∷ []) (‵ (all_own D.parts L vd))) (own_open 𝓛 D L vd mach) $ learn ! (λ _. use1 𝓛 (‵ (field_own D.parts L 0 d.body) ⊛ ‵ (rest D.parts L 0 vd)) (own_out 𝓛 D.parts L 0 vd) $ split ! $
        -- [what `body` owns; what `pos` owns; what the struct owns; the token]
        move ! (1 ∷ []) $ drop ! $ nothing ! $ owned ! usize (Is usize) (uint_Makes 𝓛 w64) d.pos _ (refl, fits) $ fjoin ! $ move ! (1 ∷ 0 ∷ []) $ fjoin ! $
        move ! (2 ∷ 0 ∷ []) $ use2 𝓛 (raw ((Callee 𝓛).pre to)) asked $ frame ! $ done !)

    said : (r : R.row.Denot) → ent 𝓤 (ensured 𝓛 on_slice_ended (on_slice_clauses 𝓤) (κ, tt) (d.body, (d.pos, tt)) tt r) (fact 𝓤 (r ≡ found))
    said r = ex_e 𝓤 _ (λ ws. snd∗ 𝓤 (sem 𝓛 (lasts on_slice_ended (κ, tt) (d.body, (d.pos, tt)) ws)) (fact 𝓤 (r ≡ found)))

    exits : (r : R.row.Denot) (u : Val) → r ≡ found → ent 𝓤 (⋆ 𝓛 (‵ (R.row.own_val r (u ∷ [])) ∷ (‵ (flft κ q) ⊛ ‵ ftrue) ∷ ‵ Own ∷ [])) (Post u)
    exits r u e =
        qed 𝓛 (‵ (R.row.own_val r (u ∷ [])) ∷ (‵ (flft κ q) ⊛ ‵ ftrue) ∷ ‵ Own ∷ []) ∵
        suffices ! _ (ends_at 𝓛 ended stayed (clauses 𝓤) (((κ, tt), (q, tt), tt, (d, tt), (mach ∷ [], tt)), tt) u r (tt, tt) (tt, tt)) $ says ! e $
        move ! (1 ∷ []) $ frame ! $ nothing ! $ move ! (2 ∷ 0 ∷ []) $ fjoin ! $ frame ! $ done !

    module _ (C : Calls 𝓤 H) (Λ : Loops 𝓤 H) (fm : FmC 𝓤 H 𝓛.laws C) (known : Triple 𝓤 (C k) (Callee 𝓛)) where
      walk : Holds (has_ty (T'.mir (named 0)) mach) × WT mach → ent 𝓤 (on_entry 𝓛 signature (κ, tt) (q, tt) (d, tt) (mach ∷ [], tt)) (WpFn 𝓤 H C Λ function (mach ∷ []) Post)
      walk wt =
          qed 𝓛 (raw (on_entry 𝓛 signature (κ, tt) (q, tt) (d, tt) (mach ∷ [], tt)) ∷ []) ∵ enter ! C Λ function (mach ∷ []) _ $
          alloc1 ! (λ l₀. alloc1 ! (λ l₁. alloc1 ! (λ l₂. alloc1 ! (λ l₃. alloc0 ! $ params1 ! $ pass1 ! (init ! 4 refl wt) $ pass0 ! $
          assigns ! (of_opd ! (load ! (from ! (fld ! refl (stop !))) (look_in ! 4 (sub ! 0 refl (whole !))))) (from ! (stop !)) (init ! 2 refl (tt, wt.1.0)) $
          assigns ! (of_opd ! (load ! (from ! (fld ! refl (stop !))) (look_in ! 4 (sub ! 1 refl (whole !))))) (from ! (stop !)) (init ! 0 refl (tt, wt.1.1.0)) $
          move ! (8 ∷ []) $ use1 𝓛 (raw ((Callee 𝓛).pre to) ⊛ ‵ Own) (apart wt.1.1.0.fits) $ split ! $
          calls_at ! fm (Callee 𝓛) known to (and_then ! (load ! (from ! (stop !)) (look ! 4 refl)) (and_then ! (load ! (from ! (stop !)) (look ! 2 refl)) (no_more !))) (λ u.
          use1 𝓛 (later (some (λ (r : R.row.Denot). ((‵ (flft κ q) ⊛ ‵ ftrue) ⊛ ‵ (R.row.own_val r (u ∷ []))) ⊛ raw (ensured 𝓛 on_slice_ended (on_slice_clauses 𝓤) (κ, tt) (d.body, (d.pos, tt)) tt r)))) (id⊢ 𝓤 _) $ await ! tt $ pick ! (λ r.
          split ! $ move ! (1 ∷ []) $ use1 𝓛 (raw (fact 𝓤 (r ≡ found))) (said r) $ heard ! (r ≡ found) (λ e. split ! $ move ! (1 ∷ []) $
          -- [the result; the token; what the struct owns; _3; …; _2; …; _1; …; room for _0; …]
          peeks ! R.row (Is R.row) (shows 𝓛 R.row) r (u ∷ []) (λ is.
          land ! (from ! (stop !)) (init ! 9 refl (R.typed 𝓛 r u is)) $
          returns ! (look ! 9 refl) $ forget ! 3 refl $ forget ! 5 refl $ forget ! 7 refl $ forget ! 9 refl $
          move ! (9 ∷ 10 ∷ []) $ free1 ! $ move ! (7 ∷ 8 ∷ []) $ free1 ! $ move ! (5 ∷ 6 ∷ []) $ free1 ! $ move ! (3 ∷ 4 ∷ []) $ free1 ! $ free0 ! $ by ! (exits r u e)))))))))

  module _ {M : Type 1} {𝓤 : Ura M} (𝓛 : Logic 𝓤) where
    open 𝓛 use {H}

    walks : (C : Calls 𝓤 H) (Λ : Loops 𝓤 H) → FmC 𝓤 H 𝓛.laws C → Triple 𝓤 (C k) (Callee 𝓛) → Walks 𝓛 ended stayed (WpFn 𝓤 H C Λ function) (clauses 𝓤)
    walks C Λ fm known = walked 𝓛 ended stayed (clauses 𝓤) (WpFn 𝓤 H C Λ function) (λ κs. (LL.vals (T.the_type (named_lft 1 0 tt κs)) (T'.the_laws (named_lft 1 0 tt κs)), tt)) (λ κs. (LL.tells (T.the_type (named_lft 1 0 tt κs)) (T'.the_laws (named_lft 1 0 tt κs)), tt))
        (λ κs qs bounds a g are. via 𝓤 _ (fst∗ 𝓤 _ (emp 𝓤)) (walk 𝓛 κs.0 qs.0 a.0 C Λ fm known ((LL.lawful (T.the_type (named_lft 1 0 tt κs)) (T'.the_laws (named_lft 1 0 tt κs)) 𝓛).typed a.0 _ are.0).0))

    pub meets : (𝓣 : Tables 𝓤 H) → Triple 𝓤 (𝓣.C k) (Callee 𝓛) → Meets 𝓛 signature (WpFn 𝓤 H 𝓣.C 𝓣.Λ function) (closing 𝓛 ended (clauses 𝓤))
    meets 𝓣 known = walk_Meets 𝓛 ended stayed (Goes-none 𝓛 1 B yes (λ κs x f. refl), tt) (clauses 𝓤) (WpFn 𝓤 H 𝓣.C 𝓣.Λ function) (WpFn-mono 𝓤 H 𝓛.laws 𝓣 function)
        (walks 𝓣.C 𝓣.Λ (fm_of 𝓤 H 𝓛.laws 𝓣) known)
