-- Clashes: literals that can't be true together, up to same terms.
use Rattle.std.specs.Prelude.{◌≡◌, ◌⊎◌, ℤ, pos, ◌+ℤ◌, List, [], ◌∷◌, ◌++◌, map, Some}
use Rattle.qed_terms.specs.Tree.{Tree, false_tree, not_of, equal}
use Rattle.qed_linear.specs.Linear.{Part}
use Rattle.same_terms.specs.Written.{number_in, written, turned}
use Rattle.same_terms.specs.SameTerms.{Among, SameTerm}

-- the coefficients of the atoms that are related to this one add up to that
abbrev pub AddUp : (Tree → Tree → Type 0) → Tree → List Part → ℤ → Type 0
AddUp r a [] z = z ≡ pos 0
AddUp r a (p ∷ ps) z = (r a (p.atom) × ((y : ℤ) × AddUp r a ps y × (z ≡ p.times +ℤ y))) ⊎ ((r a (p.atom) → ⊥) × AddUp r a ps z)

abbrev pub EachPart : (Part → Type 0) → List Part → Type 0
EachPart so [] = Unit {0}
EachPart so (p ∷ ps) = so p × EachPart so ps

-- with related atoms taken as one, nothing is left of the parts
abbrev pub Vanish : (Tree → Tree → Type 0) → List Part → Type 0
Vanish r ps = EachPart (λ p. AddUp r (p.atom) ps (pos 0)) ps

-- the parts of a difference
abbrev pub difference : Tree → Tree → List Part
difference t u = (written t).parts ++ map turned ((written u).parts)

pub data Clash (ls : List Tree) : Type 0 where
  -- the literal `false`
  false_literal : Among false_tree ls → Clash ls
  -- a literal and its `not`
  literal_and_not : (t u : Tree) → Among t ls → Among (not_of u) ls → SameTerm ls t u → Clash ls
  -- two different numbers that are same
  two_numbers : (t u : Tree) (y z : ℤ) → SameTerm ls t u → number_in t ≡ Some y → number_in u ≡ Some z → (y ≡ z → ⊥) → Clash ls
  -- the `not` of an equality whose sides don't differ
  no_difference : (t u : Tree) → Among (not_of (equal t u)) ls → Vanish (SameTerm ls) (difference t u) → (written t).constant ≡ (written u).constant → Clash ls
