use mathlib.Core.Path.{sym, ◌∙◌}
use mathlib.Core.List.{[]}
use lib.ListN.{get_or}
use Prim.Native.Nat.{◌+◌}
use borrow.Author.Tests.{lt-leb, le-leb, eq-eqb, ne_eqb}
use Rattle.encode.proofs.CanonicalLaws.{by_words}
use Rattle.encode.specs.Canonical.{canonical_count}
use Rattle.encode.proofs.canonical.is_canonical.Goals as goal

pub returns-then-last-opcode : goal.returns-then-last-opcode
returns-then-last-opcode c =
    let a = c.args in
    sym (by_words a.types.now a.last a.words.now a.at ∙ rw (lt-leb (get_or a.words.now (a.at + 1) 0) a.last c.if-last-opcode.true))

pub returns-then-count-gt4 : goal.returns-then-count-gt4
returns-then-count-gt4 c =
    let a = c.args in
    sym (by_words a.types.now a.last a.words.now a.at ∙ rw (le-leb (get_or a.words.now (a.at + 1) 0) a.last c.if-last-opcode.false, lt-leb (get_or a.words.now (a.at + 3) 0) 4 c.if-count-gt4.true))

pub returns-then-count-wide_byte : goal.returns-then-count-wide_byte
returns-then-count-wide_byte c =
    let a = c.args in
    let n = c.wide_byte.ensures.0 ∙ c.requires.1 (get_or a.words.now (a.at + 1) 0) c.if-last-opcode.false in
    sym (by_words a.types.now a.last a.words.now a.at ∙ rw (le-leb (get_or a.words.now (a.at + 1) 0) a.last c.if-last-opcode.false, le-leb (get_or a.words.now (a.at + 3) 0) 4 c.if-count-gt4.false, ne_eqb (get_or a.words.now (a.at + 3) 0) (canonical_count (get_or a.types.now (get_or a.words.now (a.at + 1) 0) [])) (rw n at c.if-count-wide_byte.true)))

pub returns-then-bare_words : goal.returns-then-bare_words
returns-then-bare_words c =
    let a = c.args in
    let n = c.wide_byte.ensures.0 ∙ c.requires.1 (get_or a.words.now (a.at + 1) 0) c.if-last-opcode.false in
    sym (by_words a.types.now a.last a.words.now a.at ∙ rw (le-leb (get_or a.words.now (a.at + 1) 0) a.last c.if-last-opcode.false, le-leb (get_or a.words.now (a.at + 3) 0) 4 c.if-count-gt4.false, eq-eqb (get_or a.words.now (a.at + 3) 0) (canonical_count (get_or a.types.now (get_or a.words.now (a.at + 1) 0) [])) (rw n at c.if-count-wide_byte.false), sym c.bare_words.ensures ∙ c.if-bare_words.true) (sym c.canonical_front.ensures))

pub returns : goal.returns
returns c =
    let a = c.args in
    let n = c.wide_byte.ensures.0 ∙ c.requires.1 (get_or a.words.now (a.at + 1) 0) c.if-last-opcode.false in
    sym (by_words a.types.now a.last a.words.now a.at ∙ rw (le-leb (get_or a.words.now (a.at + 1) 0) a.last c.if-last-opcode.false, le-leb (get_or a.words.now (a.at + 3) 0) 4 c.if-count-gt4.false, eq-eqb (get_or a.words.now (a.at + 3) 0) (canonical_count (get_or a.types.now (get_or a.words.now (a.at + 1) 0) [])) (rw n at c.if-count-wide_byte.false), sym c.bare_words.ensures ∙ c.if-bare_words.false))
