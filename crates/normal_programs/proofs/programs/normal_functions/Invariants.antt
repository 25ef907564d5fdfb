use Rattle.normal_programs.proofs.Mapping.{MadeOf}
use Rattle.normal_programs.proofs.programs.normal_functions.Given as goal

abbrev pub invariant-loop-function : goal.invariant-loop-function
invariant-loop-function l = MadeOf l.made l.functions l.function-index
