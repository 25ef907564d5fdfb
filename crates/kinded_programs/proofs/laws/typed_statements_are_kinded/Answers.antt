use Rattle.kinded_programs.proofs.Bodies.{typed_statements_are_kinded}
use Rattle.kinded_programs.proofs.laws.typed_statements_are_kinded.Goals as goal

pub returns : goal.returns
returns c = typed_statements_are_kinded
