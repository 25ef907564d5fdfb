-- Which cells a file has to speak of: whether there are blocks at all, and the kinds of the cells that its expressions may read. They are told by its types
-- alone.
use Rattle.std.specs.Prelude.{◌≡◌, Bool, true, List, [], ◌∷◌}
use Rattle.wp_base.specs.declared.kinds.CellKind.TheVariants as cell
use Rattle.typed_prog.specs.declared.types.Base.{Base}
use Rattle.typed_prog.specs.declared.types.Base.TheVariants as base
use Rattle.typed_prog.specs.declared.types.CoreType.{CoreType}
use Rattle.value_terms.specs.Typed.{Scope}

-- ---- types whose cells are spoken of

-- the cell of an integer; the fields of a struct have types of their own
abbrev pub BaseIsKnown : Scope → Base → Type 0
BaseIsKnown s (base.Of k) = s.has_kind (cell.Of k) ≡ true
BaseIsKnown s base.Void = Unit {0}
BaseIsKnown s (base.Struct n) = Unit {0}

-- the cells of an object, and of what pointers in it lead to
abbrev pub ObjectIs : Scope → Base → List Bool → Type 0
ObjectIs s b [] = BaseIsKnown s b
ObjectIs s b (star ∷ stars) = (s.has_kind cell.Ptr ≡ true) × (s.has_blocks ≡ true) × ObjectIs s b stars

-- the cells of what a pointer leads to
abbrev pub TargetIs : Scope → Base → List Bool → Type 0
TargetIs s b [] = Unit {0}
TargetIs s b (star ∷ stars) = (s.has_blocks ≡ true) × ObjectIs s b stars

-- an object of this type may be read where it lies in a block
abbrev pub ObjectIsKnown : Scope → CoreType → Type 0
ObjectIsKnown s type = ObjectIs s type.base type.stars

-- what a value of this type leads to may be read
abbrev pub TargetIsKnown : Scope → CoreType → Type 0
TargetIsKnown s type = TargetIs s type.base type.stars
