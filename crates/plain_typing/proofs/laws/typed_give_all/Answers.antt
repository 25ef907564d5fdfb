use Rattle.plain_typing.proofs.Operands.{typed_give_all}
use Rattle.plain_typing.proofs.laws.typed_give_all.Goals as goal

pub returns : goal.returns
returns c = typed_give_all
