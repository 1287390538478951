-- The names of opcodes as keys: the first key that is a name is what a search of the sheet finds. Assumes nothing.
use mathlib.Core.Path.{◌≡◌, refl, sym, ◌∙◌}
use mathlib.Core.List.{List, []}
use Prim.Native.Nat.{ℕ}
use native.Mathlib.Omega.{arith}
use lib.ListN.{length, drop, get_or}
use borrow.Author.Tests.{lt-ltb, eq-eqb, ne_eqb}
use Rattle.lists.proofs.Tests.{by_eqb}
use Rattle.std.specs.List.{position}
use Rattle.slices.specs.Answers.{found_of}
use Rattle.slices.proofs.SearchLaws.{look_position}
use Rattle.spec_sheet.specs.Line.{name_size}
use Rattle.spec_sheet.specs.Sheet.{has_name, find_name}
use Rattle.spec_sheet.proofs.NameLaws.{find_end, find_here, find_next}
use Rattle.hash_index.specs.Keys.{is_key, first_key}
use Rattle.hash_index.proofs.KeyLaws.{first_key_is}
use Rattle.sheet.specs.Keys.{name_in_row, name_of}

-- a row's key is a name where the row has that name
row_key : (s name row : List ℕ) → is_key name (name_in_row s row) ≡ has_name s name row
unfolding has_name name_in_row
row_key s name row =
    by_eqb (name_size row) 0
    (λ z. rw (eq-eqb (name_size row) 0 z, z) refl)
    (λ z. rw (ne_eqb (name_size row) 0 z, lt-ltb 0 (name_size row) (omega (arith, z))) refl)

pub first_name : (s name : List ℕ) (rows : List (List ℕ)) → first_key (name_of s rows) (length rows) name ≡ found_of (find_name s name 0 rows)
first_name s name rows =
    first_key_is (name_of s rows) (length rows) name (λ i. find_name s name i (drop i rows))
    (λ i l t. find_here s name rows i (sym (row_key s name (get_or rows i [])) ∙ t))
    (λ i l t. find_next s name rows i (sym (row_key s name (get_or rows i [])) ∙ t))
    (find_end s name rows (length rows) (omega arith))

-- the same search by the library's word
pub name_position : (s name : List ℕ) (rows : List (List ℕ)) → found_of (find_name s name 0 rows) ≡ position (has_name s name) rows
unfolding find_name
name_position s name rows = look_position (find_name s name) (has_name s name) (λ k. refl) (λ k row rest. refl) rows
