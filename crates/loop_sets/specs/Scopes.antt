-- Variables of a function that are in scope, as a list of names behind the parameters; and regions by their heads and kids.
use Rattle.std.specs.Prelude.{ℕ, ◌==◌, Bool, ◌||◌, List, [], ◌∷◌, Option, Some, None}
use Rattle.std.specs.List.{list_any}
use Rattle.typed_prog.specs.declared.operators.Variable.{Variable}
use Rattle.acsl_trees.specs.Tree.{Tree, node, stop}
use Rattle.acsl_trees.specs.declared.heads.Head.{Head}
use Rattle.acsl_trees.specs.declared.heads.Head.TheVariants as head
use Rattle.plain_runs.specs.Fitting.{is_param}

-- ---- scopes

abbrev pub is_among : (names : List ℕ) → ℕ → Bool
is_among ns x = list_any (λ y. y == x) ns

-- what blocks around declare, and the parameters
abbrev pub scope_of : (names : List ℕ) → (params : ℕ) → ℕ → Bool
scope_of ns p x = is_among ns x || is_param p x

-- ---- regions

abbrev pub variable_in : Head → (kids : List Tree) → Option Variable
variable_in (head.Variable x) [] = Some x
variable_in h kids = None

-- by the only kid
abbrev pub only_in : (kids : List Tree) → Option Variable
only_in (node (head.Variable x) stop ∷ []) = Some x
only_in kids = None

abbrev pub region_in : Head → (kids : List Tree) → Option Variable
region_in (head.Region c) kids = only_in kids
region_in h kids = None
