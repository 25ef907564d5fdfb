-- Clauses whose terms are typed, as plain values.
use Rattle.std.specs.Prelude.{ℕ, List}
use Rattle.acsl_trees.specs.Tree.{Tree, view_tree, view_trees}
use Rattle.acsl_clauses.specs.declared.items.Role.{Role}
use Rattle.acsl_clauses.specs.declared.items.Group.{Group}
use Rattle.acsl_clauses.specs.declared.typed.Said.{Said as CodeSaid}
use Rattle.acsl_clauses.specs.declared.typed.Said.TheVariants as code
use Rattle.acsl_clauses.specs.declared.typed.TypedClause.{TypedClause as CodeClause}

-- A predicate in its role; a number that has to decrease; regions that may be assigned; that the behavior with this number begins, the first being 0;
-- behaviors by their numbers, none for all of them.
pub data Said : Type 0 where
  claims : (role : Role) (t : Tree) → Said
  decreases : (t : Tree) → Said
  assigns : (regions : List Tree) → Said
  begins : (number : ℕ) → Said
  together : (group : Group) (numbers : List ℕ) → Said

pub record TypedClause : Type 0 where
  pub said : Said
  pub line : ℕ

abbrev pub view_said : CodeSaid → Said
view_said (code.Claims r t) = claims r (view_tree t)
view_said (code.Decreases t) = decreases (view_tree t)
view_said (code.Assigns ts) = assigns (view_trees ts)
view_said (code.Begins n) = begins n
view_said (code.Together g ns) = together g ns

abbrev pub view_clause : CodeClause → TypedClause
view_clause x = record { said = view_said x.said; line = x.line }
