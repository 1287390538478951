-- Carrying a body, by what its instructions and places answer. Assumes nothing.
use mathlib.Core.Path.{◌≡◌, refl, ap, sym, ◌∙◌}
use mathlib.Core.List.{List, [], ◌∷◌}
use Prim.Native.Nat.{ℕ, ◌≤◌}
use Rattle.std.specs.Prelude.{Result, Ok, Err}
use lib.ListN.{length, get_or, replicate, length-replicate}
use Rattle.limits.specs.Limits.{body_limit}
use Rattle.answers.specs.Report.{zeros}
use Rattle.answers.specs.Refusals.{refusal_report}
use Rattle.answers.specs.Outcome.{Ended}
use Rattle.answers.specs.declared.refusal.Refusal.{Refusal}
use Rattle.answers.specs.Answers.{answer_report}
use Rattle.answers.specs.declared.failure.Failure.{Failure}
use Rattle.operation.specs.Ends.{measured_of, left_by}
use Rattle.spec_inputs.specs.Context.{context_from}
use Rattle.spec_body.specs.Decode.{decode_body}
use Rattle.spec_body.specs.Decode.Decoded.{decoded}
use Rattle.spec_carry.specs.Carry.{carry_under}
use Rattle.carry.specs.Places.{PlacesMarked}
use Rattle.carry.specs.Places.PlacesMarked.{marked, refuses}
use Rattle.carry.specs.Opcodes.{OpcodeRows, NewOpcodes, NewLengths}
use Rattle.carry.specs.Ready.{ZerosBehind, Ready, carrying_in}
use Rattle.carry.specs.Prepared.{Between, Prepared}
use Rattle.carry.specs.Carried.{BytesCarried}
use Rattle.carry.specs.Carried.BytesCarried.{whole, refuses as refuses-bytes}
use Rattle.carry.specs.declared.opcodes.OpcodeRow.{OpcodeRow}
use Rattle.carry.proofs.BodyLaws.{not_decoded_lem, pass_refused, written_end, refused}

module _ {types types₂ : List (List ℕ)} {rows : List OpcodeRow} {last : ℕ} {s map ids : List ℕ} (g : Ready types types₂ rows last s map ids) where
  decodes_from : decode_body g.from.types last s ≡ decoded g.records
  decodes_from = rw g.types_are g.decodes

  -- an instruction is refused, or all are written and measured
  pub ends_refused : {before now room after : List ℕ} (x : Refusal) → BytesCarried (carrying_in g) g.records before now (Err x) → after ≡ zeros before
      → Ended (carry_under g.from g.into last s) before room after (refusal_report x)
  ends_refused x (whole k e q w) z = absurd (cc e)
  ends_refused x (refuses-bytes f e q) z =
      let h : x ≡ f = cc e in
      refused x (pass_refused g.from g.into last s g.records decodes_from x (rw h q)) z

  pub ends_written : {before now after : List ℕ} (k n room : ℕ) (r : Result ℕ Failure) → BytesCarried (carrying_in g) g.records before now (Ok k) → n ≡ length g.records
      → r ≡ measured_of k 65536 n room (length now) → after ≡ left_by r now → Ended (carry_under g.from g.into last s) before (room ∷ []) after (answer_report r)
  ends_written k n room r (whole j e q w) c l z =
      let h : j ≡ k = cc (sym e) in
      written_end g.from g.into last s g.records decodes_from q k n room r (rw h at w) c l z
  ends_written k n room r (refuses-bytes f e q) c l z = absurd (cc e)

-- a body whose places are marked is ready, and counted
module _ {types types₂ : List (List ℕ)} {rows : List OpcodeRow} {last : ℕ} {ids : List ℕ} (g : Prepared types types₂ rows last ids) (s map : List ℕ) (few : length s ≤ body_limit) where
  pub record Started (n : ℕ) : Type 0 where
    pub ready : Ready types types₂ rows last s map ids
    pub counted : n ≡ length ready.records
    pub same_from : ready.from ≡ g.contexts.from
    pub same_into : ready.into ≡ g.contexts.into

  pub started : (n : ℕ) → PlacesMarked g.contexts.from g.contexts.into (decode_body g.contexts.from.types last s) (length s) map (Ok n) → Started n
  started n (marked rs d e m) =
      let b = g.contexts in
      let c : n ≡ length rs = cc e in
      record {
        ready = record {
          from = b.from;
          into = b.into;
          types_are = b.types_are;
          types₂_are = b.types₂_are;
          rows_are = b.rows_are;
          zeros = b.zeros;
          zeros₂ = b.zeros₂;
          opcodes = b.opcodes;
          lengths = b.lengths;
          few = few;
          records = rs;
          decodes = rw (sym b.types_are) d;
          marked = record { mapped = m; translated = rw (b.bytes_are, b.ends_are, b.bytes₂_are, b.ends₂_are) g.translated };
        };
        counted = c;
        same_from = refl;
        same_into = refl;
      }
  started n (refuses x d e) = absurd (cc e)

  -- or it does not decode
  pub ends_marked : {before room after : List ℕ} (x : Refusal) → PlacesMarked g.contexts.from g.contexts.into (decode_body g.contexts.from.types last s) (length s) map (Err x)
      → after ≡ zeros before → Ended (carry_under g.contexts.from g.contexts.into last s) before room after (refusal_report x)
  ends_marked x (marked rs d e m) z = absurd (cc e)
  ends_marked x (refuses f d e) z =
      let h : x ≡ f = cc e in
      refused x (not_decoded_lem g.contexts.from g.contexts.into last s x (rw h d)) z

-- the contexts of two sheets' tables
abbrev pub between : (sheet : List ℕ) (types ops : List (List ℕ)) (bytes ends sheet₂ : List ℕ) (types₂ ops₂ : List (List ℕ)) (bytes₂ ends₂ : List ℕ) (rows : List OpcodeRow) (last : ℕ)
    → ((a b c d : List ℕ) → OpcodeRows (context_from sheet types ops a b) (context_from sheet₂ types₂ ops₂ c d) last rows) → NewOpcodes last rows → NewLengths last rows
    → ((op : ℕ) → ZerosBehind (get_or types op [])) → ((op : ℕ) → ZerosBehind (get_or types₂ op [])) → Between types types₂ rows last bytes ends bytes₂ ends₂
between sheet types ops bytes ends sheet₂ types₂ ops₂ bytes₂ ends₂ rows last r o l z y =
    record {
      from = context_from sheet types ops bytes ends;
      into = context_from sheet₂ types₂ ops₂ bytes₂ ends₂;
      types_are = refl;
      types₂_are = refl;
      bytes_are = refl;
      ends_are = refl;
      bytes₂_are = refl;
      ends₂_are = refl;
      rows_are = r bytes ends bytes₂ ends₂;
      opcodes = o;
      lengths = l;
      zeros = z;
      zeros₂ = y;
    }

-- a map that was cleared
pub cleared_length : (m z : List ℕ) → z ≡ replicate (length m) 0 → length z ≡ length m
cleared_length m z e = ap length e ∙ length-replicate {A = ℕ} (length m) 0

pub cleared_zeros : (m z : List ℕ) → z ≡ replicate (length m) 0 → z ≡ replicate (length z) 0
cleared_zeros m z e = e ∙ ap (λ (n : ℕ). replicate {A = ℕ} n 0) (sym (cleared_length m z e))

-- an output that was cleared on a failure is cleared
pub left_twice : (r : Result ℕ Failure) (out : List ℕ) → left_by r (left_by r out) ≡ left_by r out
left_twice (Ok n) out = refl
left_twice (Err x) out = ap (λ (n : ℕ). replicate {A = ℕ} n 0) (length-replicate {A = ℕ} (length out) 0)
