-- The plain statements of those in memory.
use Rattle.std.specs.Prelude.{List, [], ◌∷◌, map}
use Rattle.std.specs.Option.{option_map}
use Rattle.acsl_trees.specs.Tree.{view_tree, view_trees}
use Rattle.typed_prog.specs.Tree.{values_of}
use Rattle.typed_prog.specs.View.{view_value, view_values}
use Rattle.c_runs.specs.Program as p
use Rattle.c_runs.specs.Core as c
use Rattle.core_trees.specs.declared.claims.Claim.{Claim}
use Rattle.core_trees.specs.declared.claims.Measure.{Measure}
use Rattle.core_trees.specs.declared.claims.Loop.{Loop}
use Rattle.core_trees.specs.declared.variables.FunctionVariable.{FunctionVariable}
use Rattle.core_trees.specs.declared.statements.Target.{Target}
use Rattle.core_trees.specs.declared.statements.Target.TheVariants as target
use Rattle.core_trees.specs.declared.statements.Core.{Core, Core-F, fold-Core}

abbrev pub view_claim : Claim → p.Claim
view_claim x = record { what = view_tree x.what; line = x.line }

abbrev pub view_measure : Measure → p.Measure
view_measure x = record { what = view_tree x.what; line = x.line }

abbrev pub view_loop : Loop → p.Loop
view_loop x = record {
  invariants = map view_claim x.invariants;
  assigns = option_map view_trees x.assigns;
  line = x.line;
  variant = option_map view_measure x.variant;
  declared = x.declared;
}

abbrev pub view_variable : FunctionVariable → p.Variable
view_variable x = record { layout = x.layout; is_plain = x.is_plain; has_value = x.has_value }

abbrev pub view_variables : List FunctionVariable → List p.Variable
view_variables xs = map view_variable xs

abbrev pub view_target : Target → c.Target
view_target target.Nowhere = c.nowhere
view_target (target.Temporary n) = c.temporary n
view_target (target.Place type line path operands) = c.place type line path (values_of (view_values operands))
view_target (target.Variable x) = c.variable x

abbrev pub cores_of : List c.Core → c.Cores
cores_of [] = c.end
cores_of (s ∷ ss) = c.then_ s (cores_of ss)

abbrev pub core_layer : Core-F c.Core → c.Core
core_layer (Core-F.Set n e) = c.set n (view_value e)
core_layer (Core-F.Store type line path es) = c.store type line path (values_of (view_values es))
core_layer (Core-F.Start x e) = c.start x (view_value e)
core_layer (Core-F.Call to function line arguments) = c.call (view_target to) function line (values_of (view_values arguments))
core_layer (Core-F.Branch test first second) = c.branch (view_value test) (cores_of first) (cores_of second)
core_layer (Core-F.Repeat l body) = c.repeat (view_loop l) (cores_of body)
core_layer (Core-F.Around body) = c.around (cores_of body)
core_layer (Core-F.Exit k) = c.exit k
core_layer (Core-F.Give e) = c.give (option_map view_value e)
core_layer (Core-F.Claim x) = c.claim (view_claim x)
core_layer (Core-F.Scope variables body) = c.scope variables (cores_of body)

unfoldable pub view_core : Core → c.Core
view_core = fold-Core c.Core core_layer

abbrev pub view_cores : List Core → c.Cores
view_cores ss = cores_of (map view_core ss)
