-- What typing makes of predicates and of sets of addresses is well formed (ACSL 2.2, 2.3.4, 2.7).
use Rattle.std.specs.Prelude.{Bool, true, length}
use Rattle.c_syntax.specs.Pred.{Pred}
use Rattle.acsl_rules.specs.Laws.{Holds}
use Rattle.acsl_names.specs.declared.names.Bound.{Bound}
use Rattle.acsl_names.specs.declared.names.Reading.{Reading}
use Rattle.acsl_names.specs.declared.counting.Count.{Count}
use Rattle.acsl_names.specs.Names.{Around}
use Rattle.acsl_preds.specs.Preds.{typed_pred}
use Rattle.c_runs.specs.TruthLaws.{Signatures}
use Rattle.acsl_same_meaning.specs.Trees.{Fits, Signed, MayLabel}
use Rattle.acsl_well_typed.specs.Ranges.{EachBinds, AreNumbered}

-- Binders may stand in a predicate. The ends of a range stand under the binders before it.
abbrev pub PredsAreWellFormed : Type 0
PredsAreWellFormed = (l : Bool) (s : Signatures) (c : Around) (b : Bound) (r : Reading) (n : Count) (a : Pred) → Signed s c.definitions.items
    → MayLabel l c.site → AreNumbered b → EachBinds a → Holds (λ x. Fits l true s (length b.types) x.0) (typed_pred c b r n a)
