-- What it is that the readers of annotations read what is spelled, and all of it.
use Rattle.std.specs.Prelude.{ℕ}
use Rattle.c_grammar.specs.Tokens.{Names}
use Rattle.c_grammar.specs.Annots.{SpellsContract, SpellsLoop, SpellsLogic}
use Rattle.c_grammar.specs.Exactness.{IsExact, IsExactAt}
use Rattle.acsl_parser.specs.Read.{loop_at, assert_at, contract_at, logic_at, logics_at}
use Rattle.acsl_parser.specs.Spelled.{IsClosed, SpellsAssertOn, SpellsLogics}

abbrev pub LoopIsExact : Type 0
LoopIsExact = (types : Names) (room end : ℕ) → IsExactAt (λ at. SpellsLoop types room at) IsClosed end (loop_at types room end)

abbrev pub AssertIsExact : Type 0
AssertIsExact = (types : Names) (room : ℕ) → IsExact (SpellsAssertOn types room) (λ rest. Unit {0}) (assert_at types room)

abbrev pub ContractIsExact : Type 0
ContractIsExact = (types : Names) (end : ℕ) → IsExactAt (λ at. SpellsContract types at) IsClosed end (contract_at types end)

abbrev pub LogicIsExact : Type 0
LogicIsExact = (types : Names) → IsExact (SpellsLogic types) (λ rest. Unit {0}) (logic_at types)

abbrev pub LogicsAreExact : Type 0
LogicsAreExact = (types : Names) → IsExact (SpellsLogics types) IsClosed (logics_at types)
