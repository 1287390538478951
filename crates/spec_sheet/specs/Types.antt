-- The twelve operand types (document 01, 'Opcode sheet'; OperandType of opcode.rs). Assumes nothing.
use Rattle.std.specs.Prelude.{ℕ, suc, List, [], ◌∷◌, get_or}
use Rattle.lists.specs.Choice.{pick}
use Rattle.lists.specs.Scan.{same}
use Rattle.lists.specs.Text.{text}

-- A type's code is its place in the Rust's OperandType, from 1; 0 stands for no operand.
unfoldable pub type_names : List (List ℕ)
type_names =
    text "Reg8"
    ∷ text "Reg32"
    ∷ text "UInt8"
    ∷ text "UInt16"
    ∷ text "UInt32"
    ∷ text "UInt8S"
    ∷ text "UInt16S"
    ∷ text "UInt32S"
    ∷ text "Addr8"
    ∷ text "Addr32"
    ∷ text "Imm32"
    ∷ text "Double"
    ∷ []

-- the code of a name, counted from k; 0 for any other text
unfoldable pub type_code_in : List (List ℕ) → ℕ → List ℕ → ℕ
type_code_in [] k word = 0
type_code_in (name ∷ names) k word =
    let rest = type_code_in names (suc k) word in
    pick (same word name) k rest

unfoldable pub type_code : List ℕ → ℕ
type_code word = type_code_in type_names 1 word

-- two codes that definitions name
abbrev pub addr8 : ℕ
addr8 = 9

abbrev pub double : ℕ
double = 12

-- "Bytes: Reg8, UInt8, UInt8S, Addr8 1; UInt16, UInt16S 2; Reg32, UInt32, UInt32S, Addr32, Imm32 4; Double 8", by code
abbrev pub widths : List ℕ
widths = 0 ∷ 1 ∷ 4 ∷ 1 ∷ 2 ∷ 4 ∷ 1 ∷ 2 ∷ 4 ∷ 1 ∷ 4 ∷ 4 ∷ 8 ∷ []

unfoldable pub width_of : ℕ → ℕ
width_of code = get_or widths code 0

-- "families are Reg, UInt, string, Addr, Imm32, Double"; 0 for no operand
abbrev pub reg_family : ℕ
reg_family = 1

abbrev pub uint_family : ℕ
uint_family = 2

abbrev pub string_family : ℕ
string_family = 3

abbrev pub addr_family : ℕ
addr_family = 4

abbrev pub imm32_family : ℕ
imm32_family = 5

abbrev pub double_family : ℕ
double_family = 6

-- by code
abbrev pub families : List ℕ
families =
    0
    ∷ reg_family
    ∷ reg_family
    ∷ uint_family
    ∷ uint_family
    ∷ uint_family
    ∷ string_family
    ∷ string_family
    ∷ string_family
    ∷ addr_family
    ∷ addr_family
    ∷ imm32_family
    ∷ double_family
    ∷ []

unfoldable pub family_of : ℕ → ℕ
family_of code = get_or families code 0

-- the kind of value that a type is decoded to: 0 U8, 1 U16, 2 U32, 3 I8, 4 I32, 5 F64
abbrev pub kinds : List ℕ
kinds = 0 ∷ 0 ∷ 2 ∷ 0 ∷ 1 ∷ 2 ∷ 0 ∷ 1 ∷ 2 ∷ 3 ∷ 4 ∷ 4 ∷ 5 ∷ []

unfoldable pub kind_of : ℕ → ℕ
kind_of code = get_or kinds code 0
