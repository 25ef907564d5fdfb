-- What typing makes of definitions is well formed (ACSL 2.6).
use Rattle.std.specs.Prelude.{◌≡◌, true, List, [], ◌∷◌, ◌++◌, length}
use Rattle.c_syntax.specs.Decl.{LogicDecl}
use Rattle.acsl_guards.specs.Recursive.{calls_itself}
use Rattle.acsl_trees.specs.Tree.{Tree}
use Rattle.acsl_rules.specs.Laws.{Holds}
use Rattle.acsl_names.specs.declared.names.Definition.{Definition}
use Rattle.acsl_names.specs.declared.names.Definitions.{Definitions}
use Rattle.acsl_names.specs.Sites.{Before}
use Rattle.acsl_definitions.specs.Definitions.{definition_typed}
use Rattle.c_runs.specs.TruthLaws.{Signatures, is_definition}
use Rattle.acsl_same_meaning.specs.Trees.{Signed}
use Rattle.acsl_same_meaning.specs.Spelled.{IsSpelled}

-- one definition more, which is well formed by its number: no label stands in it, and where it calls itself it has the form of a recursion
pub record IsOneMore (before : List Definition) (l : LogicDecl) (t : Tree) (all : List Definition) : Type 0 where
  pub last : Definition
  pub is : all ≡ before ++ last ∷ []
  pub recursive : last.is_recursive ≡ calls_itself l
  pub fits : (s : Signatures) → Signed s all → is_definition s (length before) (record { body = t; is_recursive = calls_itself l }) ≡ true

abbrev pub DefinitionsAreWellFormed : Type 0
DefinitionsAreWellFormed =
    (f : Before) (ds : Definitions) (l : LogicDecl) → IsSpelled l → Holds (λ r. IsOneMore ds.items l r.0 r.1.items) (definition_typed f ds l)
