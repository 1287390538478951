use Rattle.std.proofs.Common.{◌≡◌, sym, length, rules}
use borrow.Author.Tests.{eq-eqb, ne_eqb}
use Rattle.lists.proofs.Writes.{◌then◌, same_piece, wrote_none}
use Rattle.lists.specs.Text.{text}
use Rattle.list_module.specs.Titles.{name_text}
use native.Mathlib.Omega.{arith}
use Rattle.list_module.proofs.banner.put_name.Goals as goal

pub returns-then-is_empty : goal.returns-then-is_empty
unfolding name_text text
returns-then-is_empty c =
    let e : length c.args.name.now ≡ 0 = search rules in
    same_piece (sym (rw (eq-eqb _ _ e))) (wrote_none (omega arith) (omega arith))

pub returns : goal.returns
unfolding name_text text
returns c =
    let e : length c.args.name.now ≡ 0 → ⊥ = search rules in
    same_piece (sym (rw (ne_eqb _ _ e))) (c.put_bytes-a.ensures then c.put_quoted-b.ensures then c.put_bytes.ensures)
