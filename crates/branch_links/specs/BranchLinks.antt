-- Links of a branch: what its literals L <= 0 and L = 0 say of linear forms, with same atoms taken as one and numbers put in; and which of them can't all hold.
use Rattle.std.specs.Prelude.{◌≡◌, ◌⊎◌, ◌≤◌, ◌^◌, ℤ, pos, neg_ℤ, ◌+ℤ◌, ◌*ℤ◌, ◌≤ℤ◌, ◌<ℤ◌, int_lt, if◌then◌else◌, List, [], ◌∷◌, ◌++◌, map, length, Some}
use Rattle.qed_terms.specs.Tree.{Tree, num, equal, at_most}
use Rattle.qed_linear.specs.Linear.{Part, Lin, lin}
use Rattle.same_terms.specs.Written.{number_in, turned, written}
use Rattle.same_terms.specs.SameTerms.{Among, InBranch, SameTerm}
use Rattle.same_terms.specs.Clashes.{AddUp}

-- ---- numbers and atoms

-- the least number that is same as a term
pub record IsNumber (ls : List Tree) (t : Tree) (z : ℤ) : Type 0 where
  pub tree : Tree
  pub number : number_in tree ≡ Some z
  pub same : SameTerm ls t tree
  pub least : (u : Tree) (y : ℤ) → SameTerm ls t u → number_in u ≡ Some y → z ≤ℤ y

abbrev pub NoNumber : List Tree → Tree → Type 0
NoNumber ls t = (u : Tree) (y : ℤ) → SameTerm ls t u → number_in u ≡ Some y → ⊥

-- a term of the branch that no number is same as
pub record IsAtom (ls : List Tree) (t : Tree) : Type 0 where
  pub there : InBranch ls t
  pub none : NoNumber ls t

-- the parts whose atoms are same as numbers add up to that, with the least of these numbers for each
abbrev pub NumbersAddUp : List Tree → List Part → ℤ → Type 0
NumbersAddUp ls [] z = z ≡ pos 0
NumbersAddUp ls (p ∷ ps) z = ((y : ℤ) × (x : ℤ) × IsNumber ls (p.atom) y × NumbersAddUp ls ps x × (z ≡ p.times *ℤ y +ℤ x)) ⊎ (NoNumber ls (p.atom) × NumbersAddUp ls ps z)

-- ---- links

abbrev pub opposite : Lin → Lin
opposite f = lin (map turned (f.parts)) (neg_ℤ (f.constant))

-- A literal says of a form that it is at most 0: L <= 0 of L, and L = 0 of L and of -L.
pub record Says (literal : Tree) (f : Lin) : Type 0 where
  pub sum : Tree
  pub is : ((literal ≡ at_most sum (num (pos 0))) × (f ≡ written sum)) ⊎ ((literal ≡ equal sum (num (pos 0))) × ((f ≡ written sum) ⊎ (f ≡ opposite (written sum))))

-- the parts of a literal's form, and the bound that their sum has by it once numbers are put in
pub record BranchLink : Type 0 where
  pub literal : Tree
  pub parts : List Part
  pub bound : ℤ

-- at most 2^96 in size
abbrev pub IsWithin : ℤ → Type 0
IsWithin z = (neg_ℤ (pos (2 ^ 96)) ≤ℤ z) × (z ≤ℤ pos (2 ^ 96))

-- a link of the branch: its bound and the coefficient of each atom, with same atoms taken as one, are at most 2^96 in size
pub record IsLink (ls : List Tree) (l : BranchLink) : Type 0 where
  pub among : Among (l.literal) ls
  pub form : Lin
  pub says : Says (l.literal) form
  pub parts : l.parts ≡ form.parts
  pub numbers : ℤ
  pub put : NumbersAddUp ls (l.parts) numbers
  pub bound : l.bound ≡ neg_ℤ (form.constant +ℤ numbers)
  pub bound_within : IsWithin (l.bound)
  pub times_within : (t : Tree) → IsAtom ls t → (z : ℤ) × AddUp (SameTerm ls) t (l.parts) z × IsWithin z

abbrev pub AreLinks : List Tree → List BranchLink → Type 0
AreLinks ls [] = Unit {0}
AreLinks ls (m ∷ ms) = IsLink ls m × AreLinks ls ms

abbrev pub bounds_of : List BranchLink → ℤ
bounds_of [] = pos 0
bounds_of (m ∷ ms) = m.bound +ℤ bounds_of ms

abbrev pub parts_of : List BranchLink → List Part
parts_of [] = []
parts_of (m ∷ ms) = m.parts ++ parts_of ms

-- ---- the two sides of a link: what is added, and what is taken away

abbrev pub added : ℤ → ℤ
added z = if int_lt (pos 0) z then z else pos 0

abbrev pub taken : ℤ → ℤ
taken z = if int_lt z (pos 0) then neg_ℤ z else pos 0

abbrev pub unchanged : ℤ → ℤ
unchanged z = z

-- this of each atom's coefficient in the one link is that of its coefficient in the other
abbrev pub Agree : (left right : ℤ → ℤ) → List Tree → BranchLink → BranchLink → Type 0
Agree left right ls l m = (t : Tree) → IsAtom ls t → (y : ℤ) × (z : ℤ) × AddUp (SameTerm ls) t (l.parts) y × AddUp (SameTerm ls) t (m.parts) z × (left y ≡ right z)

-- what the one takes away the other adds
abbrev pub LeadsTo : List Tree → BranchLink → BranchLink → Type 0
LeadsTo ls l m = Agree taken added ls l m

-- both add the same
abbrev pub SameStart : List Tree → BranchLink → BranchLink → Type 0
SameStart ls l m = Agree added added ls l m

-- both are one link, though maybe of two literals
abbrev pub SameLink : List Tree → BranchLink → BranchLink → Type 0
SameLink ls l m = (l.bound ≡ m.bound) × Agree unchanged unchanged ls l m

-- ---- chains and short sums

-- this one isn't related to any of these
abbrev pub ApartFrom : (BranchLink → BranchLink → Type 0) → BranchLink → List BranchLink → Type 0
ApartFrom r l [] = Unit {0}
ApartFrom r l (m ∷ ms) = (r l m → ⊥) × ApartFrom r l ms

abbrev pub AllApart : (BranchLink → BranchLink → Type 0) → List BranchLink → Type 0
AllApart r [] = Unit {0}
AllApart r (m ∷ ms) = ApartFrom r m ms × AllApart r ms

-- each leads to the next, and the last one to this
abbrev pub Chained : List Tree → BranchLink → List BranchLink → (end : BranchLink) → Type 0
Chained ls l [] end = LeadsTo ls l end
Chained ls l (m ∷ ms) end = LeadsTo ls l m × Chained ls m ms end

-- links one after the other, back to the first; no two add the same
abbrev pub IsChain : List Tree → List BranchLink → Type 0
IsChain ls [] = ⊥
IsChain ls (m ∷ ms) = Chained ls m ms m × AllApart (SameStart ls) (m ∷ ms)

-- up to three different links, in whose parts together nothing is left of any atom
pub record IsShortSum (ls : List Tree) (ms : List BranchLink) : Type 0 where
  pub few : length ms ≤ 3
  pub differ : AllApart (SameLink ls) ms
  pub nothing : (t : Tree) → IsAtom ls t → AddUp (SameTerm ls) t (parts_of ms) (pos 0)

-- links of the branch that are a chain or a short sum, with bounds that add up to below 0
pub record Refute (ls : List Tree) (ms : List BranchLink) : Type 0 where
  pub links : AreLinks ls ms
  pub so : IsChain ls ms ⊎ IsShortSum ls ms
  pub negative : bounds_of ms <ℤ pos 0

-- some links of the branch can't all hold
abbrev pub LinksRefute : List Tree → Type 0
LinksRefute ls = (ms : List BranchLink) × Refute ls ms

abbrev pub literals_of : List BranchLink → List Tree
literals_of ms = map (λ (m : BranchLink). m.literal) ms

-- links of these literals, one of each in turn
abbrev pub RefutedBy : List Tree → (literals : List Tree) → Type 0
RefutedBy ls literals = (ms : List BranchLink) × Refute ls ms × (literals_of ms ≡ literals)
