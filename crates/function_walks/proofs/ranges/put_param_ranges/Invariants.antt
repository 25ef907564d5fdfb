use Rattle.std.proofs.Common.{◌≡◌, ◌≤◌, ◌++◌, ◌-◌, ◌∷◌, [], ℕ, map, drop}
use Rattle.wp_base.specs.declared.kinds.Kind.{Kind}
use Rattle.core_trees.specs.View.{view_variables}
use Rattle.program_steps.specs.Leaves.{fill}
use Rattle.program_steps.specs.Starting.{param_ranges}
use Rattle.program_steps.specs.Terms.{Texts}
use Rattle.qed_terms.specs.Meaning as sense
use Rattle.qed_terms.specs.View.{formula_tree, term_tree}
use Rattle.walk_frames.specs.View.{facts_in, shape_in}
use Rattle.function_walks.proofs.ranges.put_param_ranges.Given as goal

abbrev pub invariant-loop-variable : goal.invariant-loop-variable
invariant-loop-variable l = record {
  at : l.number ≡ l.variable-index;
  within : l.number ≤ l.params;
  known : (m : sense.World) (k : ℕ → Kind) (texts : Texts) → map formula_tree l.known.items
      ++ map (fill (map term_tree l.slots ∷ [])) (param_ranges m (facts_in l.frame) (shape_in l.frame k) texts (l.params - l.number) l.number (view_variables (drop l.variable-index l.frame.variables.now)))
      ≡ map formula_tree l.fn.known.items
      ++ map (fill (map term_tree l.slots ∷ [])) (param_ranges m (facts_in l.frame) (shape_in l.frame k) texts l.params 0 (view_variables l.frame.variables.now));
}
