use Rattle.c_machine.proofs.Found.{value_found}
use Rattle.c_machine.proofs.Held.{value_held}
use Rattle.c_machine.proofs.laws.values_are_of_their_kind.Goals as goal

pub returns : goal.returns
returns c = λ m a k z h. value_held m a k z (value_found m a k z h)
