use Rattle.plain_programs.proofs.Bodies.{typed_statements_are_plain}
use Rattle.plain_programs.proofs.laws.typed_statements_are_plain.Goals as goal

pub returns : goal.returns
returns c = typed_statements_are_plain
