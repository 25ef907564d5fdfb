-- Same terms of a branch: the least relation that holds its equalities, and of terms of one head over same kids, and of sums whose atoms pair off.
use Rattle.std.specs.Prelude.{◌≡◌, ◌⊎◌, Bool, true, false, ℤ, pos, negsuc, List, [], ◌∷◌, ◌++◌, Some}
use Rattle.qed_terms.specs.declared.head.Head.{Head}
use Rattle.qed_terms.specs.declared.head.Head.TheVariants as h
use Rattle.qed_terms.specs.Meaning.{World, Values, truth}
use Rattle.qed_terms.specs.Nodes.{kids_of}
use Rattle.qed_terms.specs.Tree.{Tree, head_of, num, equal}
use Rattle.qed_linear.specs.Linear.{Part, Lin, part, of_lin, checked, is_integer}
use Rattle.same_places.specs.Pairing.{Takes}
use Rattle.same_terms.specs.Written.{is_sum, written, rest_form}

abbrev pub Among : Tree → List Tree → Type 0
Among t [] = ⊥
Among t (u ∷ us) = (t ≡ u) ⊎ Among t us

-- all literals are true
abbrev pub AreTrue : World → Values → List Tree → Type 0
AreTrue w env ls = (l : Tree) → Among l ls → truth w env l ≡ true

-- ---- the terms of a branch

abbrev pub is_binder : Head → Bool
is_binder (h.Forall x) = true
is_binder (h.Exists x) = true
is_binder head = false

-- one stands in the other outside of quantifiers; a quantifier stands there as a whole
pub data StandsIn (t : Tree) : Tree → Type 0 where
  as_whole : StandsIn t t
  in_kid : {u : Tree} → (k : Tree) → is_binder (head_of u) ≡ false → Among k (kids_of u) → StandsIn t k → StandsIn t u

abbrev pub unit_times : (plus : Bool) → ℤ
unit_times true = pos 1
unit_times false = negsuc 0

-- A literal L = 0 says that an atom of L with coefficient 1 or -1 equals the rest, where the rest fits 128 bits.
pub record IsRest (ls : List Tree) (atom rest : Tree) : Type 0 where
  pub sum : Tree
  pub literal : Among (equal sum (num (pos 0))) ls
  pub plus : Bool
  pub before : List Part
  pub behind : List Part
  pub there : (written sum).parts ≡ before ++ part atom (unit_times plus) ∷ behind
  pub integer : is_integer (head_of atom) ≡ true
  pub form : Lin
  pub fits : checked (rest_form plus (before ++ behind) ((written sum).constant)) ≡ Some form
  pub is : rest ≡ of_lin form

-- what stands in its literals, and in the rests of its equalities
abbrev pub InBranch : List Tree → Tree → Type 0
InBranch ls t = ((l : Tree) × Among l ls × StandsIn t l) ⊎ ((a : Tree) × (r : Tree) × IsRest ls a r × StandsIn t r)

-- ---- same

mutual
  pub data SameTerm (ls : List Tree) : Tree → Tree → Type 0 where
    itself : {t : Tree} → InBranch ls t → SameTerm ls t t
    turned : {t u : Tree} → SameTerm ls t u → SameTerm ls u t
    through : {t u v : Tree} → SameTerm ls t u → SameTerm ls u v → SameTerm ls t v
    given : {t u : Tree} → IsRest ls t u → SameTerm ls t u
    -- a quantifier is same to itself alone
    alike : {t u : Tree} → InBranch ls t → InBranch ls u → is_binder (head_of t) ≡ false → head_of t ≡ head_of u → SameKids ls (kids_of t) (kids_of u) → SameTerm ls t u
    -- sums of one constant, whose atoms pair off into same ones of one coefficient
    paired : {t u : Tree} → InBranch ls t → InBranch ls u → is_sum (head_of t) ≡ true → is_sum (head_of u) ≡ true → (written t).constant ≡ (written u).constant → SameAtoms ls ((written t).parts) ((written u).parts) → SameTerm ls t u

  pub data SameKids (ls : List Tree) : List Tree → List Tree → Type 0 where
    no_kids : SameKids ls [] []
    one_kid : {t u : Tree} {ts us : List Tree} → SameTerm ls t u → SameKids ls ts us → SameKids ls (t ∷ ts) (u ∷ us)

  pub data SameAtoms (ls : List Tree) : List Part → List Part → Type 0 where
    no_atoms : SameAtoms ls [] []
    one_atom : {t u : Tree} {z : ℤ} {ps qs rest : List Part} → SameTerm ls t u → Takes (part u z) qs rest → SameAtoms ls ps rest → SameAtoms ls (part t z ∷ ps) qs
