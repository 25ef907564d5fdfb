use Rattle.std.proofs.Common.{drop}
use Rattle.temporary_kinds.specs.View.{results_in}
use Rattle.temporary_kinds.proofs.Telling.{Onward}
use Rattle.temporary_kinds.proofs.Statements.{code_kind, code_count}
use Rattle.temporary_kinds.proofs.steps.+mention_step.Given as goal

abbrev pub invariant-mention_steps-loop-at : goal.invariant-mention_steps-loop-at
invariant-mention_steps-loop-at l =
    Onward (code_kind (results_in l.functions)) (code_count (results_in l.functions)) l.initial.kinds.items l.kinds.items (drop l.at l.steps) l.steps
