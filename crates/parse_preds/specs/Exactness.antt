-- What it is that the readers of predicates, and of types and names that annotations declare, read what is spelled, and all of it.
use Rattle.std.specs.Prelude.{◌≡◌, ℕ, true}
use Rattle.c_grammar.specs.Tokens.{Names}
use Rattle.c_grammar.specs.Preds.{SpellsLogicType, SpellsTyped}
use Rattle.c_grammar.specs.Exactness.{IsExact}
use Rattle.parse_types.specs.Read.{ends_type_name}
use Rattle.parse_preds.specs.Next.{ends_pred}
use Rattle.parse_preds.specs.Binders.{logic_type_at, typed_at}
use Rattle.parse_preds.specs.Read.{pred_at}
use Rattle.parse_preds.specs.Views.{SpellsSomePred}

abbrev pub PredIsExact : Type 0
PredIsExact = (types : Names) (room : ℕ) → IsExact (SpellsSomePred types room) (λ rest. ends_pred rest ≡ true) (pred_at types room)

abbrev pub LogicTypeIsExact : Type 0
LogicTypeIsExact = (types : Names) → IsExact (SpellsLogicType types) (λ rest. ends_type_name rest ≡ true) (logic_type_at types)

abbrev pub TypedIsExact : Type 0
TypedIsExact = (types : Names) → IsExact (SpellsTyped types) (λ rest. Unit {0}) (typed_at types)
