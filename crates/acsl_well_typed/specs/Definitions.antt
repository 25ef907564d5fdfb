-- What typing makes of definitions is in order (ACSL 2.6).
use Rattle.std.specs.Prelude.{◌≡◌, Bool, true, List, [], ◌∷◌, ◌++◌, Option, Some, None}
use Rattle.c_syntax.specs.Decl.{LogicDecl, LogicBody, term, pred}
use Rattle.typed_prog.specs.declared.types.CoreType.{CoreType}
use Rattle.typed_prog.specs.Types.{void}
use Rattle.acsl_trees.specs.declared.operands.TermType.{TermType}
use Rattle.acsl_trees.specs.Tree.{Tree}
use Rattle.acsl_rules.specs.Laws.{Holds}
use Rattle.acsl_names.specs.declared.names.Definition.{Definition}
use Rattle.acsl_names.specs.declared.names.Definitions.{Definitions}
use Rattle.acsl_names.specs.Sites.{Before}
use Rattle.acsl_definitions.specs.Definitions.{definition_typed}
use Rattle.acsl_well_typed.specs.WellTyped.{What, an_integer, Known, Names, type_gives, types_give}
use Rattle.acsl_well_typed.specs.Terms.{HasTypes, HaveTypes, Gives}
use Rattle.acsl_well_typed.specs.Ranges.{EachBinds}

-- these definitions, and where a function gives this
abbrev pub known_with : (ends : Bool) → List Definition → CoreType → Known
known_with ends ds t = record { definitions = ds; result = t; ends = ends }

-- each quantifier in it binds a name
abbrev pub BodyBinds : LogicBody → Type 0
BodyBinds (term a) = Unit {0}
BodyBinds (pred p) = EachBinds p

-- The body of a logic function is of its result, and that of a predicate a truth. A term without a result doesn't come from a text.
abbrev pub BodyFits : Known → Names → LogicBody → (result : Option TermType) → Tree → Type 0
BodyFits k ns (term a) (Some r) t = (w : What) × (type_gives r ≡ Some w) × Gives k ns w t
BodyFits k ns (term a) None t = (w : What) × Gives k ns w t
BodyFits k ns (pred p) r t = Gives k ns an_integer t

-- what a definition stands for, under its parameters
pub record DefinitionFits (ends : Bool) (ds : List Definition) (l : LogicDecl) (d : Definition) (t : Tree) : Type 0 where
  pub names : Names
  pub params : types_give d.params ≡ Some names
  pub body : BodyFits (known_with ends ds void) names l.body d.result t

-- one definition more, which is in order where it may call itself and those before it
pub record IsOneMore (ends : Bool) (before : List Definition) (l : LogicDecl) (t : Tree) (all : List Definition) : Type 0 where
  pub last : Definition
  pub is : all ≡ before ++ last ∷ []
  pub types : HasTypes last
  pub fits : DefinitionFits ends all l last t

abbrev pub DefinitionsAreWellTyped : Type 0
DefinitionsAreWellTyped = (ends : Bool) (f : Before) (ds : Definitions) (l : LogicDecl) → HaveTypes ds.items → (ends ≡ true → BodyBinds l.body)
    → Holds (λ r. IsOneMore ends ds.items l r.0 r.1.items) (definition_typed f ds l)

-- What is in order by some definitions is so by these and more.
abbrev pub TestsGrow : Type 0
TestsGrow = (ends : Bool) (ds more : List Definition) (result : CoreType) (ns : Names) (w : What) (t : Tree) → Gives (known_with ends ds result) ns w t
    → Gives (known_with ends (ds ++ more) result) ns w t
