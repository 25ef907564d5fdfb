use Rattle.plain_typing.proofs.Giving.{typed_give}
use Rattle.plain_typing.proofs.laws.typed_give.Goals as goal

pub returns : goal.returns
returns c = typed_give
