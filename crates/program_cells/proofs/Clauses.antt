-- Claims, behaviors, variables and functions one after the other, in the words of the code.
use Rattle.std.proofs.Common.{◌≡◌, ◌++◌, List, [], ◌∷◌, map, flat_map, refl, ap}
use Rattle.acsl_trees.specs.Tree.{view_tree}
use Rattle.core_trees.specs.declared.claims.Claim.{Claim as Code_claim}
use Rattle.core_trees.specs.declared.variables.FunctionVariable.{FunctionVariable}
use Rattle.core_trees.specs.View.{view_claim, view_variable, view_variables}
use Rattle.program_trees.specs.declared.contracts.Behavior.{Behavior as Code_behavior}
use Rattle.program_trees.specs.View.{view_behavior}
use Rattle.c_runs.specs.Program as claim
use Rattle.c_runs.specs.Program.{Variable, Facts}
use Rattle.program_cells.specs.Parts.{Part}
use Rattle.program_cells.specs.Trees.{Declared, tree_parts}
use Rattle.program_cells.specs.Programs.{claim_parts, behavior_parts, behaviors_parts, variable_parts, variables_parts}

of_map : {X Y : Type 0} (f : Y → List Part) (g : X → Y) (xs : List X) → flat_map f (map g xs) ≡ flat_map (λ x. f (g x)) xs
of_map f g [] = refl
of_map f g (x ∷ xs) = ap (λ ps. f (g x) ++ ps) (of_map f g xs)

module _ (p : Facts) (xs : List Variable) (d : Declared) where
  abbrev pub code_claim : Code_claim → List Part
  code_claim c = tree_parts p xs d (view_tree c.what)

  pub parts_of_claims : (cs : List Code_claim) → claim_parts p xs d (map view_claim cs) ≡ flat_map code_claim cs
  parts_of_claims cs = of_map (λ (c : claim.Claim). tree_parts p xs d c.what) view_claim cs

  abbrev pub code_behavior : Code_behavior → List Part
  code_behavior b = behavior_parts p xs d (view_behavior b)

  pub parts_of_behaviors : (bs : List Code_behavior) → behaviors_parts p xs d (map view_behavior bs) ≡ flat_map code_behavior bs
  parts_of_behaviors bs = of_map (behavior_parts p xs d) view_behavior bs

abbrev pub code_variable : FunctionVariable → List Part
code_variable v = variable_parts (view_variable v)

pub parts_of_variables : (vs : List FunctionVariable) → variables_parts (view_variables vs) ≡ flat_map code_variable vs
parts_of_variables vs = of_map variable_parts view_variable vs
