use Rattle.memory_statements.proofs.statement_laws.statements_run.Goals as goal
use Rattle.memory_statements.proofs.StatementStatements as proof

pub returns : goal.returns
returns g c = proof.statements_run (record { loop_fits = g.O.OtherStatements.loop_fits; call_fits = g.O.OtherStatements.call_fits })
