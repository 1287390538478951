-- One law for every function with plain parameters that makes a `ByteReader` at a position and reads once:
--     fn read_at(s: &[u8], at: usize) -> R { ByteReader::from(s, at).read() }        ensures  r ≡ f (now s) at
-- where `read` is a thin read (`ReaderRead.antt`). Whoever calls such a function is covered. Assumes nothing.
use mathlib.Core.Path.{◌≡◌, refl, ap, ◌∙◌}
use Prim.Native.Nat.{ℕ, ◌<◌, ◌^◌}
use mathlib.Core.List.{List, [], ◌∷◌}
use lib.ListN.{length}
use seplogic.Ra.Ura.{Ura}
use mir.Syntax.{Callee as Name, Fn, named, erased, imm, w8, w64, ty_int, ty_ref, place, copy, local, value_local, seq, call, return}
use mir.Val.{Val, vint}
use base.Logic.{SProp, ent, sep, emp, via, fst∗, snd∗, ex_e, id⊢}
use base.Fml.{Lft, Share, Fml, ftrue, flft}
use prog.Memory.{Memory}
use prog.Routine.{Routine}
use prog.Wp.{Calls, Loops, WpFn, Tables}
use types.Logic.{Logic, sem}
use contract.Monad.{Fun, fact}
use types.Kit.{‵, raw, ◌⊛◌, ⋆, some, later, ◌$◌, ◌∵◌, !, qed, by, move, use1, use2, split, join, pick, fsplit, fjoin, suffices, frame, await, done}
use types.Run.{look, init, forget, stop, from, load, and_then, no_more, land, returns, enter, alloc1, alloc0, params1, pass1, pass0, free1, free0}
use sound.WpLaws.{FmC, fm_of, WpFn-mono}
use denote.RattleType.{owns}
use denote.Laws.{Is, shows}
use denote.Plain.{uint_row_laws, uint_vals, uint_Tells, uint_Makes}
use denote.Builtin.{u8, usize}
use denote.Ref.{Bor, NamedLft}
use denote.Signature.{plain}
use denote.Slice.{slice_ty, slice_val, ShrSlice, shr_slice_vals, shr_slice_Tells, shr_slice_Lawful, shr_slice_copy}
use denote.Steps.{owned, peeks, heard, nothing}
use denote.Struct.Laws as LL
use denote.Triple.Statement.{Contract, Triple}
use denote.Triple.Call.{calls_at}
use denote.Triple.Entry.{Vals, on_entry}
use denote.Triple.Spec.{Meets, triple_of}
use denote.Triple.Walked.{says, Stays, stay_none, stay_none_slice, walk_of, Goes-none, Goes-none_slice, Walks, ends_at, walked, walk_Meets}
use denote.Exit.{yes}
use denote.Triple.Clauses.{closing, ensured, lasts}
use Rattle.operand.specs.declared.reader.ByteReader.{ByteReader}
use Rattle.operand.specs.contracts.reader.ByteReader as T
use Rattle.operand.proofs.reader.ByteReader.TheLaws as T'
use Rattle.operand.specs.contracts.reader.ByteReader.from as made_at
use Rattle.operand.proofs.reader.ByteReader.from.Symbol.{name as #from}
use Rattle.operand.proofs.ReaderRead as thin
use Rattle.operand.proofs.ReaderRead.{B, Result}

module _ {M : Type 1} {𝓤 : Ura M} (𝓛 : Logic 𝓤) (mem : Memory → SProp 𝓤) (run : Routine → Fun 𝓤) where
  -- the contract of `from`
  abbrev pub From : Contract 𝓤
  From = triple_of 𝓛 made_at.signature (made_at.spec 𝓛 mem run)

module _ (R : Result) (f : List ℕ → ℕ → R.row.Denot) (k : Name) where
  abbrev pub function : Fn
  function = record {
    lifetimes = 1;
    outlives = [];
    ty_params = [];
    givens = 0;
    params = 2;
    locals = local R.mir value_local ∷ local (slice_ty (ty_ref (named 0) imm (ty_int w8))) value_local ∷ local (ty_int w64) value_local ∷ local (T'.mir erased) value_local ∷ [];
    body = seq (call #from (copy (place 1 []) ∷ copy (place 2 []) ∷ []) (place 3 []))
        (seq (call k (copy (place 3 []) ∷ []) (place 0 [])) return);
  }

  abbrev stayed : Stays (thin.on_slice R f k).params (thin.on_slice_ended R f k).kept
  stayed = (stay_none_slice (0 ∷ []) tt (plain (λ _. u8)) yes, (stay_none (λ _. usize) yes, tt))

  module _ {M : Type 1} {𝓤 : Ura M} (𝓛 : Logic 𝓤) where
    -- the contract of the read
    abbrev pub Read : Contract 𝓤
    Read = triple_of 𝓛 (thin.signature R f k) (closing 𝓛 (thin.ended R f k) (thin.clauses R f k 𝓤))

  module _ {M : Type 1} {𝓤 : Ura M} (𝓛 : Logic 𝓤) (mem : Memory → SProp 𝓤) (run : Routine → Fun 𝓤) (κ : Lft) (q : Share) (s : Bor (List ℕ)) (n : ℕ) (ok : n < 2 ^ 64) where
    open 𝓛 use {H}

    abbrev v : Val
    v = slice_val s.ref_ptr (length s.now)

    abbrev at : Vals made_at.signature (κ, tt)
    at = (v ∷ [], (vint w64 n ∷ [], tt))

    -- the struct's type as a local of a body has it
    abbrev αᵉ : NamedLft
    αᵉ = record { mir = erased; lft = κ }

    abbrev Post : Val → SProp 𝓤
    Post = (walk_of 𝓛 (thin.on_slice_ended R f k) stayed (thin.on_slice_clauses R f k 𝓤)).post (((κ, tt), (q, tt), tt, (s, (n, tt)), at), tt)

    abbrev Own : Fml
    Own = (ShrSlice (named 0) κ u8).own_val s (v ∷ [])

    abbrev to_from : (From 𝓛 mem run).Ghost
    to_from = (((κ, tt), (q, tt), tt, (s, (n, tt)), at), tt)

    goes_from : ent 𝓤 (on_entry 𝓛 (thin.on_slice R f k) (κ, tt) (q, tt) (s, (n, tt)) at) (sep 𝓤 ((From 𝓛 mem run).pre to_from) (sem 𝓛 Own))
    goes_from =
        qed 𝓛 ((‵ (flft κ q) ⊛ ‵ ftrue) ∷ ‵ (owns (ShrSlice (named 0) κ u8 ∷ usize ∷ []) (s, (n, tt)) at) ∷ []) ∵
        move ! (1 ∷ []) $ fsplit ! $ use1 𝓛 (‵ Own ⊛ ‵ Own) ((shr_slice_copy 𝓛 (named 0) κ u8 (uint_row_laws w8)).twice s (v ∷ [])) $ split ! $
        move ! (0 ∷ 2 ∷ []) $ fjoin ! $ move ! (2 ∷ 0 ∷ []) $ use2 𝓛 (raw ((From 𝓛 mem run).pre to_from)) (qed 𝓛 ((‵ (flft κ q) ⊛ ‵ ftrue) ∷ ‵ (owns (ShrSlice (named 0) κ u8 ∷ usize ∷ []) (s, (n, tt)) at) ∷ []) ∵ join ! $ frame ! $ done !) $ frame ! $ done !

    abbrev Made : ByteReader → Type 0
    Made r = (r.body ≡ s) × (r.pos ≡ n)

    from_said : (r : ByteReader) → ent 𝓤 (ensured 𝓛 made_at.ended (made_at.clauses 𝓛 mem run) (κ, tt) (s, (n, tt)) tt r) (fact 𝓤 (Made r))
    from_said r = ex_e 𝓤 _ (λ ws. snd∗ 𝓤 (sem 𝓛 (lasts made_at.ended (κ, tt) (s, (n, tt)) ws)) (fact 𝓤 (Made r)))

    -- the call of the read, at the struct r with the machine value u
    abbrev to_read : ByteReader → Val → (Read 𝓛).Ghost
    to_read r u = (((κ, tt), (q, tt), tt, (r, tt), (u ∷ [], tt)), tt)

    goes_read : (r : ByteReader) (u : Val) → ent 𝓤 (⋆ 𝓛 (‵ ((B (κ, tt)).own_val r (u ∷ [])) ∷ (‵ (flft κ q) ⊛ ‵ ftrue) ∷ [])) ((Read 𝓛).pre (to_read r u))
    goes_read r u = qed 𝓛 (‵ ((B (κ, tt)).own_val r (u ∷ [])) ∷ (‵ (flft κ q) ⊛ ‵ ftrue) ∷ []) ∵ nothing ! $ move ! (1 ∷ 0 ∷ []) $ fjoin ! $ move ! (1 ∷ 0 ∷ []) $ join ! $ frame ! $ done !

    abbrev Told : ByteReader → R.row.Denot → Type 0
    Told r t = t ≡ f r.body.now r.pos

    read_said : (r : ByteReader) (t : R.row.Denot) → ent 𝓤 (ensured 𝓛 (thin.ended R f k) (thin.clauses R f k 𝓤) (κ, tt) (r, tt) tt t) (fact 𝓤 (Told r t))
    read_said r t = ex_e 𝓤 _ (λ ws. snd∗ 𝓤 (sem 𝓛 (lasts (thin.ended R f k) (κ, tt) (r, tt) ws)) (fact 𝓤 (Told r t)))

    exits : (t : R.row.Denot) (u : Val) → t ≡ f s.now n → ent 𝓤 (⋆ 𝓛 (‵ (R.row.own_val t (u ∷ [])) ∷ (‵ (flft κ q) ⊛ ‵ ftrue) ∷ ‵ Own ∷ [])) (Post u)
    exits t u e =
        qed 𝓛 (‵ (R.row.own_val t (u ∷ [])) ∷ (‵ (flft κ q) ⊛ ‵ ftrue) ∷ ‵ Own ∷ []) ∵
        suffices ! _ (ends_at 𝓛 (thin.on_slice_ended R f k) stayed (thin.on_slice_clauses R f k 𝓤) (((κ, tt), (q, tt), tt, (s, (n, tt)), at), tt) u t (tt, (tt, tt)) (tt, (tt, tt))) $ says ! e $
        move ! (1 ∷ []) $ frame ! $ nothing ! $ owned ! usize (Is usize) (uint_Makes 𝓛 w64) n _ (refl, ok) $ fjoin ! $ move ! (2 ∷ 0 ∷ []) $ fjoin ! $ frame ! $ done !

    module _ (C : Calls 𝓤 H) (Λ : Loops 𝓤 H) (fm : FmC 𝓤 H 𝓛.laws C) (Known-from : Triple 𝓤 (C #from) (From 𝓛 mem run)) (known_read : Triple 𝓤 (C k) (Read 𝓛)) where
      walk : Is (ShrSlice (named 0) κ u8) s (v ∷ []) → ent 𝓤 (on_entry 𝓛 (thin.on_slice R f k) (κ, tt) (q, tt) (s, (n, tt)) at) (WpFn 𝓤 H C Λ function (v ∷ vint w64 n ∷ []) Post)
      walk p =
          qed 𝓛 (raw (on_entry 𝓛 (thin.on_slice R f k) (κ, tt) (q, tt) (s, (n, tt)) at) ∷ []) ∵ enter ! C Λ function (v ∷ vint w64 n ∷ []) _ $
          alloc1 ! (λ l₀. alloc1 ! (λ l₁. alloc1 ! (λ l₂. alloc1 ! (λ l₃. alloc0 ! $ params1 ! $ pass1 ! (init ! 4 refl ((shr_slice_Lawful 𝓛 (named 0) κ u8).typed s (v ∷ []) p).0) $ pass1 ! (init ! 2 refl (tt, record { fits = ok })) $ pass0 ! $
          move ! (8 ∷ []) $ use1 𝓛 (raw ((From 𝓛 mem run).pre to_from) ⊛ ‵ Own) goes_from $ split ! $
          calls_at ! fm (From 𝓛 mem run) Known-from to_from (and_then ! (load ! (from ! (stop !)) (look ! 6 refl)) (and_then ! (load ! (from ! (stop !)) (look ! 4 refl)) (no_more !))) (λ u.
          use1 𝓛 (later (some (λ (r : ByteReader). ((‵ (flft κ q) ⊛ ‵ ftrue) ⊛ ‵ ((B (κ, tt)).own_val r (u ∷ []))) ⊛ raw (ensured 𝓛 made_at.ended (made_at.clauses 𝓛 mem run) (κ, tt) (s, (n, tt)) tt r)))) (id⊢ 𝓤 _) $ await ! tt $ pick ! (λ r.
          split ! $ move ! (1 ∷ []) $ use1 𝓛 (raw (fact 𝓤 (Made r))) (from_said r) $ heard ! (Made r) (λ e. split ! $ move ! (1 ∷ []) $
          -- [what the struct owns; the token; what s owns; room for _3; …; _2; …; _1; …; room for _0; …]
          peeks ! (B (κ, tt)) (Is (B (κ, tt))) (shows 𝓛 (B (κ, tt))) r (u ∷ []) (λ is.
          land ! (from ! (stop !)) (init ! 3 refl ((LL.lawful (T.the_type αᵉ) (T'.the_laws αᵉ) 𝓛).typed r _ is).0) $
          use2 𝓛 (raw ((Read 𝓛).pre (to_read r u))) (goes_read r u) $
          calls_at ! fm (Read 𝓛) known_read (to_read r u) (and_then ! (load ! (from ! (stop !)) (look ! 2 refl)) (no_more !)) (λ u'.
          use1 𝓛 (later (some (λ (t : R.row.Denot). ((‵ (flft κ q) ⊛ ‵ ftrue) ⊛ ‵ (R.row.own_val t (u' ∷ []))) ⊛ raw (ensured 𝓛 (thin.ended R f k) (thin.clauses R f k 𝓤) (κ, tt) (r, tt) tt t)))) (id⊢ 𝓤 _) $ await ! tt $ pick ! (λ t.
          split ! $ move ! (1 ∷ []) $ use1 𝓛 (raw (fact 𝓤 (Told r t))) (read_said r t) $ heard ! (Told r t) (λ e'. split ! $ move ! (1 ∷ []) $
          -- [the result; the token; what s owns; _3; …; _2; …; _1; …; room for _0; …]
          peeks ! R.row (Is R.row) (shows 𝓛 R.row) t (u' ∷ []) (λ is'.
          land ! (from ! (stop !)) (init ! 9 refl (R.typed 𝓛 t u' is')) $
          returns ! (look ! 9 refl) $ forget ! 3 refl $ forget ! 5 refl $ forget ! 7 refl $ forget ! 9 refl $
          move ! (9 ∷ 10 ∷ []) $ free1 ! $ move ! (7 ∷ 8 ∷ []) $ free1 ! $ move ! (5 ∷ 6 ∷ []) $ free1 ! $ move ! (3 ∷ 4 ∷ []) $ free1 ! $ free0 ! $
          by ! (exits t u' (e' ∙ (ap (λ (x : Bor (List ℕ)). f x.now r.pos) e.0 ∙ ap (f s.now) e.1)))))))))))))))

  module _ {M : Type 1} {𝓤 : Ura M} (𝓛 : Logic 𝓤) (mem : Memory → SProp 𝓤) (run : Routine → Fun 𝓤) where
    open 𝓛 use {H}

    walks : (C : Calls 𝓤 H) (Λ : Loops 𝓤 H) → FmC 𝓤 H 𝓛.laws C → Triple 𝓤 (C #from) (From 𝓛 mem run) → Triple 𝓤 (C k) (Read 𝓛) → Walks 𝓛 (thin.on_slice_ended R f k) stayed (WpFn 𝓤 H C Λ function) (thin.on_slice_clauses R f k 𝓤)
    walks C Λ fm kf kr = walked 𝓛 (thin.on_slice_ended R f k) stayed (thin.on_slice_clauses R f k 𝓤) (WpFn 𝓤 H C Λ function) (λ κs. (shr_slice_vals, (uint_vals w64, tt))) (λ κs. (shr_slice_Tells (named 0) κs.0 u8, (uint_Tells w64, tt)))
        (λ κs qs bounds a g are. via 𝓤 _ (fst∗ 𝓤 _ (emp 𝓤)) (walk 𝓛 mem run κs.0 qs.0 a.0 a.1.0 are.1.0.1 C Λ fm kf kr are.0))

    pub meets : (𝓣 : Tables 𝓤 H) → Triple 𝓤 (𝓣.C #from) (From 𝓛 mem run) → Triple 𝓤 (𝓣.C k) (Read 𝓛) → Meets 𝓛 (thin.on_slice R f k) (WpFn 𝓤 H 𝓣.C 𝓣.Λ function) (closing 𝓛 (thin.on_slice_ended R f k) (thin.on_slice_clauses R f k 𝓤))
    meets 𝓣 kf kr = walk_Meets 𝓛 (thin.on_slice_ended R f k) stayed (Goes-none_slice 𝓛 1 (0 ∷ []) tt (plain (λ _. u8)) yes, (Goes-none 𝓛 1 (λ _. usize) yes (λ κs x f. refl), tt)) (thin.on_slice_clauses R f k 𝓤) (WpFn 𝓤 H 𝓣.C 𝓣.Λ function) (WpFn-mono 𝓤 H 𝓛.laws 𝓣 function)
        (walks 𝓣.C 𝓣.Λ (fm_of 𝓤 H 𝓛.laws 𝓣) kf kr)
