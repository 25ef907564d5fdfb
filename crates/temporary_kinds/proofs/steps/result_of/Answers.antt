use Rattle.temporary_kinds.proofs.Statements.{given_missing}
use Rattle.temporary_kinds.proofs.steps.result_of.Goals as goal

pub returns-then-at-functions : goal.returns-then-at-functions
returns-then-at-functions c = given_missing c.args.functions.now c.args.number c.if-at-functions.true
