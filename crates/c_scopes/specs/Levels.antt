-- The pointers around a type, from the outermost level on, each with whether it is constant.
use Rattle.std.specs.Prelude.{Bool, true, false, List, [], ◌∷◌, Option, None}
use Rattle.std.specs.Option.{option_map}
use Rattle.c_scopes.specs.declared.symbols.Resolved.{Resolved}
use Rattle.c_scopes.specs.Meanings.{constant, pointed}

abbrev pub constant_if : Bool → Resolved → Resolved
constant_if true t = constant t
constant_if false t = t

-- what the levels make of a type that is constant or not
abbrev pub leveled : List Bool → (is_const : Bool) → Option Resolved → Option Resolved
leveled [] is_const t = option_map (constant_if is_const) t
leveled (level ∷ levels) is_const t = option_map (constant_if level) (pointed (leveled levels is_const t))

-- the same, with an array among the levels or not
abbrev pub around : (is_array : Bool) → List Bool → (is_const : Bool) → Option Resolved → Option Resolved
around true levels is_const t = None
around false levels is_const t = leveled levels is_const t
