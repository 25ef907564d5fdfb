use Rattle.std.proofs.Common.{◌≡◌, drop}
use Rattle.acsl_names.specs.Names.{view_around}
use Rattle.acsl_names.specs.Weights as spec
use Rattle.acsl_names.proofs.names.Around.+weights.Given as goal

abbrev pub invariant-add_all-loop-arg : goal.invariant-add_all-loop-arg
invariant-add_all-loop-arg l =
    spec.with_all (view_around l.self) l.bound l.number (spec.args_of (drop l.arg-index l.args)) l.weight ≡ spec.with_all (view_around l.self) l.bound l.number (spec.args_of l.args) l.initial.weight

abbrev pub invariant-add_each-loop-i : goal.invariant-add_each-loop-i
invariant-add_each-loop-i l =
    spec.with_each (view_around l.self) l.bound l.number (drop l.i l.often) (spec.args_of (drop l.i l.args)) l.weight
    ≡ spec.with_each (view_around l.self) l.bound l.number l.definition.weight.times (spec.args_of l.args) l.initial.weight
