use Rattle.std.proofs.Common.{◌≡◌, true}
use Rattle.prover.proofs.Waiting.{and_second}
use Rattle.prover.proofs.late.LateProverIdBranchRules.is_closed.Goals as goal

pub returns-clause-closed : goal.returns-clause-closed
returns-clause-closed g c =
    let none : c.no_literal_waits.result ≡ true = cc in
    and_second c.no_literal_waits.result c.in_ok-answer.answer c.no_literal_waits.ensures none c.in_ok-answer.ensures
