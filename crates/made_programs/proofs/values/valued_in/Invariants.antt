use Rattle.std.proofs.Common.{◌≡◌, ◌++◌, map, drop}
use Rattle.std.specs.Option.{is_some}
use Rattle.typed_unit.specs.View.{view_inits}
use Rattle.made_programs.proofs.values.valued_in.Given as goal

abbrev pub invariant-loop-i : goal.invariant-loop-i
invariant-loop-i l = l.values ++ map is_some (view_inits (drop l.i l.inits)) ≡ map is_some (view_inits l.inits)
