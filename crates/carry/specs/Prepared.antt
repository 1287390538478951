-- What is made of both sheets and tables before a body is looked at. Assumes nothing.
use Rattle.std.specs.Prelude.{◌≡◌, List, [], ℕ, get_or}
use Rattle.spec_inputs.specs.Context.{Context}
use Rattle.carry.specs.Opcodes.{OpcodeRows, NewOpcodes, NewLengths}
use Rattle.carry.specs.Ids.{Translated}
use Rattle.carry.specs.Ready.{ZerosBehind}
use Rattle.carry.specs.declared.opcodes.OpcodeRow.{OpcodeRow}

-- two contexts with these type codes, and the rows of the first one's opcodes
pub record Between (types types₂ : List (List ℕ)) (rows : List OpcodeRow) (last : ℕ) (bytes₁ ends₁ bytes₂ ends₂ : List ℕ) : Type 0 where
  pub from : Context
  pub into : Context
  pub types_are : from.types ≡ types
  pub types₂_are : into.types ≡ types₂
  pub bytes_are : from.bytes ≡ bytes₁
  pub ends_are : from.ends ≡ ends₁
  pub bytes₂_are : into.bytes ≡ bytes₂
  pub ends₂_are : into.ends ≡ ends₂
  pub rows_are : OpcodeRows from into last rows
  pub opcodes : NewOpcodes last rows
  pub lengths : NewLengths last rows
  pub zeros : (op : ℕ) → ZerosBehind (get_or types op [])
  pub zeros₂ : (op : ℕ) → ZerosBehind (get_or types₂ op [])

-- and what stands for the ids of the first table
pub record Prepared (types types₂ : List (List ℕ)) (rows : List OpcodeRow) (last : ℕ) (ids : List ℕ) : Type 0 where
  pub bytes₁ : List ℕ
  pub ends₁ : List ℕ
  pub bytes₂ : List ℕ
  pub ends₂ : List ℕ
  pub contexts : Between types types₂ rows last bytes₁ ends₁ bytes₂ ends₂
  pub translated : Translated bytes₁ ends₁ bytes₂ ends₂ ids
