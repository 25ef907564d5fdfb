-- What is asked of a predicate, and of the names around it, so that the ends of ranges are in order too (ACSL 2.2.2).
use Rattle.std.specs.Prelude.{◌≡◌, ℕ, ◌<◌, true, List, [], ◌∷◌, length, Some}
use Rattle.c_syntax.specs.Expr as e
use Rattle.c_syntax.specs.Pred as p
use Rattle.name_table.specs.Nesting.{meaning_in}
use Rattle.acsl_rules.specs.Laws.{Holds}
use Rattle.acsl_names.specs.declared.names.Bound.{Bound}
use Rattle.acsl_names.specs.declared.names.Reading.{Reading}
use Rattle.acsl_names.specs.declared.counting.Count.{Count}
use Rattle.acsl_names.specs.Names.{Around}
use Rattle.acsl_preds.specs.Preds.{typed_pred}
use Rattle.acsl_well_typed.specs.WellTyped.{an_integer, Names, types_give}
use Rattle.acsl_well_typed.specs.Terms.{HaveTypes, known_at, Gives}

-- each quantifier binds a name, as the grammar has it
abbrev pub BindsOne : List e.VarDecl → Type 0
BindsOne [] = ⊥
BindsOne (d ∷ ds) = Unit {0}

abbrev pub EachBinds : p.Pred → Type 0
EachBinds (p.always line) = Unit {0}
EachBinds (p.never line) = Unit {0}
EachBinds (p.chain line ts os) = Unit {0}
EachBinds (p.valid line a) = Unit {0}
EachBinds (p.valid_read line a) = Unit {0}
EachBinds (p.separated line ts) = Unit {0}
EachBinds (p.call line f args) = Unit {0}
EachBinds (p.not_of line a) = EachBinds a
EachBinds (p.old line a) = EachBinds a
EachBinds (p.and_of line a b) = EachBinds a × EachBinds b
EachBinds (p.xor_of line a b) = EachBinds a × EachBinds b
EachBinds (p.or_of line a b) = EachBinds a × EachBinds b
EachBinds (p.implies line a b) = EachBinds a × EachBinds b
EachBinds (p.iff line a b) = EachBinds a × EachBinds b
EachBinds (p.cond line test a b) = EachBinds test × EachBinds a × EachBinds b
EachBinds (p.let_in line x v a) = EachBinds a
EachBinds (p.for_all line ds a) = BindsOne ds × EachBinds a
EachBinds (p.for_some line ds a) = BindsOne ds × EachBinds a

-- a name's number is that of one of the types
abbrev pub AreNumbered : Bound → Type 0
AreNumbered b = (x : List ℕ) (i : ℕ) → meaning_in b.scopes x ≡ Some i → i < length b.types

-- A predicate is a truth, and the ends of its ranges are integers.
abbrev pub RangesAreWellTyped : Type 0
RangesAreWellTyped = (c : Around) (b : Bound) (ns : Names) (r : Reading) (n : Count) (a : p.Pred) → HaveTypes c.definitions.items
    → types_give b.types ≡ Some ns → AreNumbered b → EachBinds a
    → Holds (λ x. Gives (known_at true c) ns an_integer x.0) (typed_pred c b r n a)
