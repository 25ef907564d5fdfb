-- Values that are known before a program runs (C11 6.6p7, p9): an integer constant expression with a value, a null pointer, and an address constant. That is
-- the address of a variable of the file or of a part of it, reached through fields and elements with constant indices and never through a pointer; or such an
-- address plus or minus a constant integer. So `&v.x`, `a`, `&a[2]` and `a + 1` are address constants for a struct `v` and an array `a` of the file. This is
-- narrower than C, where `&(&v)->x` is one, and an integer may be added to a null pointer.
use Rattle.std.specs.Prelude.{Bool, true, false, ◌&&◌, ◌||◌, is_some, List, [], ◌∷◌}
use Rattle.typed_prog.specs.declared.operators.Variable.TheVariants as variable
use Rattle.typed_prog.specs.declared.operators.Root.{Root}
use Rattle.typed_prog.specs.declared.operators.Root.TheVariants as root
use Rattle.typed_prog.specs.declared.operators.Step.{Step}
use Rattle.typed_prog.specs.declared.operators.Step.TheVariants as step
use Rattle.typed_prog.specs.declared.operators.Path.{Path}
use Rattle.typed_prog.specs.declared.operators.Op.TheVariants as op
use Rattle.typed_prog.specs.Tree as t
use Rattle.c_operands.specs.Conversions.{number_of}

-- an integer constant expression with a value
abbrev pub is_number : t.Value → Bool
is_number v = is_some (number_of v)

abbrev pub are_numbers : t.Values → Bool
are_numbers t.stop = true
are_numbers (t.more v vs) = is_number v && are_numbers vs

-- ---- ways to objects

abbrev pub is_of_file : Root → Bool
is_of_file (root.Variable (variable.Global n)) = true
is_of_file (root.Variable (variable.Local n)) = false
is_of_file (root.Pointed operand) = false

-- a step inside an object, and through no pointer
abbrev pub is_inside : Step → Bool
is_inside (step.Field number offset) = true
is_inside (step.Element operand size count line) = true
is_inside (step.Moved operand size) = false

abbrev pub are_inside : List Step → Bool
are_inside [] = true
are_inside (s ∷ ss) = is_inside s && are_inside ss

-- a variable of the file or a part of it; the operands are the indices
abbrev pub is_part_of_file : Path → t.Values → Bool
is_part_of_file path indices = is_of_file path.root && are_inside path.steps && are_numbers indices

-- ---- addresses

-- With `or_null` a null pointer counts as one too, but not what is added to it. A conversion by the context to a pointer to a constant object leaves the
-- address as it is.
abbrev mutual
  pub is_address : (or_null : Bool) → t.Value → Bool
  is_address or_null (t.typed node type line) = is_address_node or_null node

  pub is_address_node : (or_null : Bool) → t.ValueNode → Bool
  is_address_node or_null t.null = or_null
  is_address_node or_null (t.apply (op.Address path accessed) indices) = is_part_of_file path indices
  is_address_node or_null (t.apply (op.Decay path accessed) indices) = is_part_of_file path indices
  is_address_node or_null (t.apply op.Requalify (t.more v t.stop)) = is_address or_null v
  is_address_node or_null (t.apply (op.Offset minus false size accessed) (t.more v (t.more index t.stop))) = is_number index && is_address false v
  is_address_node or_null (t.apply (op.Offset minus true size accessed) (t.more index (t.more v t.stop))) = is_number index && is_address false v
  is_address_node or_null _ = false

-- what the initialiser of a variable of the file may be (C11 6.7.9p4)
abbrev pub is_constant : t.Value → Bool
is_constant v = is_number v || is_address true v
