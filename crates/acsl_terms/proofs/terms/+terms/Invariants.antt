use Rattle.std.proofs.Common.{◌≡◌, ◌+◌, ◌*◌, drop}
use Rattle.std.specs.Prelude.{max}
use Rattle.c_syntax.specs.declared.annot.Term.{size-Term}
use Rattle.acsl_trees.specs.Tree.{view_trees}
use Rattle.acsl_names.specs.Names.{view_around}
use Rattle.acsl_names.specs.Weights.{args_of}
use Rattle.acsl_terms.specs.Terms as spec
use Rattle.acsl_terms.proofs.terms.+terms.Given as goal

abbrev pub invariant-typed_for-loop-i : goal.invariant-typed_for-loop-i
invariant-typed_for-loop-i l =
    spec.behind (view_trees l.values) (spec.typed_for (view_around l.around) l.names l.reading l.count (drop l.i l.params) (args_of (drop l.i l.args)))
    ≡ spec.typed_for (view_around l.around) l.names l.reading l.initial.count l.params (args_of l.args)

abbrev pub invariant-typed_all-loop-arg : goal.invariant-typed_all-loop-arg
invariant-typed_all-loop-arg l =
    spec.typed_all (view_around l.around) l.names l.reading l.count (args_of (drop l.arg-index l.args)) ≡ spec.typed_all (view_around l.around) l.names l.reading l.initial.count (args_of l.args)

-- ---- measures: the depth of what is typed, and which function goes to which with the same

abbrev pub decreases-typed_term : goal.decreases-typed_term
decreases-typed_term l = size-Term l.term.now * 8

abbrev pub decreases-typed_unary : goal.decreases-typed_unary
decreases-typed_unary l = size-Term l.of.now * 8 + 1

abbrev pub decreases-typed_cast : goal.decreases-typed_cast
decreases-typed_cast l = size-Term l.of.now * 8 + 1

abbrev pub decreases-under_label : goal.decreases-under_label
decreases-under_label l = size-Term l.of.now * 8 + 1

abbrev pub decreases-typed_field : goal.decreases-typed_field
decreases-typed_field l = size-Term l.of.now * 8 + 1

abbrev pub decreases-typed_two : goal.decreases-typed_two
decreases-typed_two l = max (size-Term l.first.now) (size-Term l.second.now) * 8 + 1

abbrev pub decreases-typed_choice : goal.decreases-typed_choice
decreases-typed_choice l = max (size-Term l.test.now) (max (size-Term l.first.now) (size-Term l.second.now)) * 8 + 1

abbrev pub decreases-argument : goal.decreases-argument
decreases-argument l = size-Term l.arg.now * 8 + 1

abbrev pub decreases-typed_for : goal.decreases-typed_for
decreases-typed_for l = goal.size-typed_for l * 8 + 2

abbrev pub decreases-typed_all : goal.decreases-typed_all
decreases-typed_all l = goal.size-typed_all l * 8 + 2

abbrev pub decreases-recursive_call : goal.decreases-recursive_call
decreases-recursive_call l = goal.size-recursive_call l * 8 + 3

abbrev pub decreases-expanded_call : goal.decreases-expanded_call
decreases-expanded_call l = goal.size-expanded_call l * 8 + 3

abbrev pub decreases-call : goal.decreases-call
decreases-call l = goal.size-call l * 8 + 4

abbrev pub decreases-typed_call : goal.decreases-typed_call
decreases-typed_call l = goal.size-typed_call l * 8 + 5
