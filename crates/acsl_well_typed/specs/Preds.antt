-- What typing makes of predicates is in order (ACSL 2.2).
use Rattle.std.specs.Prelude.{◌≡◌, false, Some}
use Rattle.c_syntax.specs.Pred.{Pred}
use Rattle.acsl_rules.specs.Laws.{Holds}
use Rattle.acsl_names.specs.declared.names.Bound.{Bound}
use Rattle.acsl_names.specs.declared.names.Reading.{Reading}
use Rattle.acsl_names.specs.declared.counting.Count.{Count}
use Rattle.acsl_names.specs.Names.{Around}
use Rattle.acsl_preds.specs.Preds.{typed_pred}
use Rattle.acsl_well_typed.specs.WellTyped.{an_integer, Names, types_give}
use Rattle.acsl_well_typed.specs.Terms.{HaveTypes, known_at, Gives}

-- Where each name has a type, a predicate is a truth.
abbrev pub PredsAreWellTyped : Type 0
PredsAreWellTyped = (c : Around) (b : Bound) (ns : Names) (r : Reading) (n : Count) (p : Pred) → HaveTypes c.definitions.items → types_give b.types ≡ Some ns
    → Holds (λ x. Gives (known_at false c) ns an_integer x.0) (typed_pred c b r n p)
