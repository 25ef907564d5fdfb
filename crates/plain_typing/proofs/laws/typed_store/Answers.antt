use Rattle.plain_typing.proofs.Operands.{typed_store}
use Rattle.plain_typing.proofs.laws.typed_store.Goals as goal

pub returns : goal.returns
returns c = typed_store
