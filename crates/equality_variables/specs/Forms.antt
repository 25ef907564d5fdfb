-- Linear forms over ids of a store, and variables with terms of a store.
use Rattle.std.specs.Prelude.{◌≡◌, ℤ, true, false, if◌then◌else◌, List, [], ◌∷◌, ◌++◌, map, All, Option, Some, None}
use Rattle.std.specs.List.{list_all}
use Rattle.qed_terms.specs.Tree.{Tree}
use Rattle.qed_terms.specs.WellFormed.{fits, int}
use Rattle.qed_linear.specs.Linear.{Part, part, Lin, lin, parts_fit, part_tree, sum_tree, constant_trees}
use Rattle.branch_changes.specs.declared.rules.IdGiven.{IdGiven}
use Rattle.branch_changes.specs.Givens.{may_stand_for}
use Rattle.equality_variables.specs.declared.forms.IdForm.{IdForm}

abbrev pub part_of : {Id : Type 0} → (Id → Tree) → Id × ℤ → Part
part_of tree p = part (tree (p.0)) (p.1)

abbrev pub parts_of : {Id : Type 0} → (Id → Tree) → List (Id × ℤ) → List Part
parts_of tree ps = map (part_of tree) ps

-- the form that a form over ids stands for
abbrev pub lin_of : {Id : Type 0} → (Id → Tree) → IdForm Id → Lin
lin_of tree f = lin (parts_of tree (f.parts.items)) (f.constant)

-- the store holds the atoms
abbrev pub PartsHeld : {Id : Type 0} → (Id → Type 0) → List (Id × ℤ) → Type 0
PartsHeld held ps = All (λ p. held (p.0)) ps

-- ---- terms made of parts

-- the term of a part that fits; none where it doesn't
abbrev pub IsPartTerm : {Id : Type 0} → (Id → Type 0) → (Id → Tree) → Part → Option Id → Type 0
IsPartTerm held tree p None = parts_fit (p ∷ []) ≡ false
IsPartTerm held tree p (Some id) = (parts_fit (p ∷ []) ≡ true) × held id × (fits int (tree id) ≡ true) × (tree id ≡ part_tree p)

-- terms of integers
abbrev pub AreTerms : {Id : Type 0} → (Id → Type 0) → (Id → Tree) → List Id → Type 0
AreTerms held tree ids = All held ids × (list_all (fits int) (map tree ids) ≡ true)

-- those of several parts that fit; none where one doesn't
abbrev pub ArePartTerms : {Id : Type 0} → (Id → Type 0) → (Id → Tree) → List Part → Option (List Id) → Type 0
ArePartTerms held tree ps None = parts_fit ps ≡ false
ArePartTerms held tree ps (Some ids) = (parts_fit ps ≡ true) × AreTerms held tree ids × (map tree ids ≡ map part_tree ps)

-- their sum with a constant, where the parts fit
abbrev pub rest_tree : List Part → ℤ → Option Tree
rest_tree ps z = if parts_fit ps then Some (sum_tree (map part_tree ps ++ constant_trees z)) else None

-- ---- what a call that looks for one answers

abbrev pub OneHeld : {Id : Type 0} → (Id → Type 0) → Option Id → Type 0
OneHeld held None = Unit {0}
OneHeld held (Some id) = held id

-- the term is held, and may stand for the variable
abbrev pub GivenHeld : {Id : Type 0} → (Id → Type 0) → (Id → Tree) → Option (IdGiven Id) → Type 0
GivenHeld held tree None = Unit {0}
GivenHeld held tree (Some g) = held g.term × (may_stand_for g.sort (tree g.term) ≡ true)
