-- What a listing shows. Assumes nothing.
use Rattle.std.specs.Prelude.{Bool}

-- "default shows offsets, labels and texts, and each may be off": DisasmOptions without colour
pub record Options : Type 0 where
  pub show_offsets : Bool
  pub show_labels : Bool
  pub resolve_strings : Bool
