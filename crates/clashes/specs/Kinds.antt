-- The kinds of clash, each by itself.
use Rattle.std.specs.Prelude.{◌≡◌, ℤ, List, Some}
use Rattle.qed_terms.specs.Tree.{Tree, not_of, equal}
use Rattle.same_terms.specs.Written.{number_in, written}
use Rattle.same_terms.specs.SameTerms.{Among, SameTerm}
use Rattle.same_terms.specs.Clashes.{Vanish, difference}

-- of one of these literals it is so
abbrev pub OneSo : (Tree → Type 0) → List Tree → Type 0
OneSo so ls = (l : Tree) × Among l ls × so l

-- the literal is the `not` of a formula that is same as a literal
pub record IsOpposite (ls : List Tree) (l : Tree) : Type 0 where
  pub literal : Tree
  pub formula : Tree
  pub is : l ≡ not_of formula
  pub there : Among literal ls
  pub same : SameTerm ls literal formula

-- both are numbers, of different values
pub record AreApart (t u : Tree) : Type 0 where
  pub first : ℤ
  pub second : ℤ
  pub first_is : number_in t ≡ Some first
  pub second_is : number_in u ≡ Some second
  pub apart : first ≡ second → ⊥

-- two numbers of different values are same
pub record HasTwoNumbers (ls : List Tree) : Type 0 where
  pub one : Tree
  pub other : Tree
  pub same : SameTerm ls one other
  pub apart : AreApart one other

-- the literal is the `not` of an equality whose sides don't differ
pub record IsNoDifference (ls : List Tree) (l : Tree) : Type 0 where
  pub left : Tree
  pub right : Tree
  pub is : l ≡ not_of (equal left right)
  pub vanish : Vanish (SameTerm ls) (difference left right)
  pub constants : (written left).constant ≡ (written right).constant
