-- What is looked at in a node of a logic function's body.
use Rattle.std.specs.Prelude.{ℕ, ◌==◌, Bool, true, false, ℤ, List, [], ◌∷◌, Option, Some, None}
use Rattle.typed_prog.specs.declared.operators.Variable.TheVariants as variables
use Rattle.typed_prog.specs.declared.operators.Arithmetic.TheVariants as ar
use Rattle.typed_prog.specs.declared.operators.Comparison.TheVariants as cmp
use Rattle.acsl_trees.specs.declared.heads.Head.{Head}
use Rattle.acsl_trees.specs.declared.heads.Head.TheVariants as h
use Rattle.c_runs.specs.Recursion.{is_one}

abbrev pub name_in : Head → Option ℕ
name_in (h.Name x) = Some x
name_in _ = None

abbrev pub number_in : Head → Option ℤ
number_in (h.Number z) = Some z
number_in _ = None

-- a variable of the file
abbrev pub global_in : Head → Option ℕ
global_in (h.Variable (variables.Global n)) = Some n
global_in _ = None

abbrev pub first_global : List Head → Option ℕ
first_global [] = None
first_global (l ∷ ls) = global_in l

abbrev pub is_name : (name : ℕ) → Option ℕ → Bool
is_name x (Some y) = y == x
is_name x None = false

abbrev pub is_one_of : Option ℤ → Bool
is_one_of (Some z) = is_one z
is_one_of None = false

abbrev pub is_subtraction : Head → Bool
is_subtraction (h.Arithmetic ar.Sub) = true
is_subtraction _ = false

abbrev pub is_choice : Head → Bool
is_choice h.Choose = true
is_choice _ = false

abbrev pub is_at_most : Head → Bool
is_at_most (h.Compare cmp.AtMost) = true
is_at_most _ = false
