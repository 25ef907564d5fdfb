use Rattle.checks_added.proofs.Mapping.{MadeOf}
use Rattle.checks_added.proofs.programs.functions_of.Given as goal

abbrev pub invariant-loop-function : goal.invariant-loop-function
invariant-loop-function l = MadeOf l.made l.functions l.function-index
