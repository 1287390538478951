-- `Option<Read<T>>` as the result that the laws of `ReaderRead.antt` and `ReaderAbove.antt` speak of, at each kind of number. Assumes nothing.
use mathlib.Core.Path.{◌≡◌, refl}
use mathlib.Core.List.{[], ◌∷◌}
use denote.Param.{layout}
use denote.Param.Laws.{of_field}
use denote.Param.Shared.{copy_shared}
use denote.RattleType.{RattleType}
use denote.Struct.Field.{Field, u8-field, u16-field, u32-field, i8-field, i32-field, f64-field}
use denote.Struct.Laws.{FLaws, Copyable, u8-laws, u16-laws, u32-laws, i8-laws, i32-laws, f64-laws, u8-copy, u16-copy, u32-copy, i8-copy, i32-copy, f64-copy}
use Rattle.std.specs.contracts.option.Option as O
use Rattle.std.proofs.option.Option.TheLaws as O'
use Rattle.operand.specs.contracts.reader.Read as S
use Rattle.operand.proofs.reader.Read.TheLaws as S'
use Rattle.operand.proofs.ReaderRead.{Result}

module _ (F : Field) (L : FLaws F) (one : F.row.mir ≡ layout F.row ∷ []) (C : Copyable F) where
  abbrev read : RattleType
  read = O.the_row (S.the_row F.row)

  abbrev result : Result
  result = record { row = read; mir = layout read; typed = λ 𝓛 r u is. (((O'.the_row_laws (S.the_row F.row) (S'.the_row_laws F.row (of_field F L one (copy_shared F C)))).lawful 𝓛).typed r _ is).0 }

abbrev pub u8_read : Result
u8_read = result u8-field u8-laws refl u8-copy

abbrev pub u16_read : Result
u16_read = result u16-field u16-laws refl u16-copy

abbrev pub u32_read : Result
u32_read = result u32-field u32-laws refl u32-copy

abbrev pub i8_read : Result
i8_read = result i8-field i8-laws refl i8-copy

abbrev pub i32_read : Result
i32_read = result i32-field i32-laws refl i32-copy

abbrev pub f64_read : Result
f64_read = result f64-field f64-laws refl f64-copy
