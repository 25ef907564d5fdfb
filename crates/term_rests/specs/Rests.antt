-- The rests of equalities as pairs of places.
use Rattle.std.specs.Prelude.{◌≡◌, ℕ, ◌<◌, ◌+◌, ◌++◌, true, false, pos, Bool, List, [], ◌∷◌, take, drop, slice_get, slice_index_or, Option, Some, None}
use Rattle.qed_terms.specs.declared.head.Head.{Head}
use Rattle.qed_terms.specs.declared.head.Head.TheVariants as h
use Rattle.qed_terms.specs.declared.head.FormOp.{FormOp}
use Rattle.qed_terms.specs.declared.head.FormOp.TheVariants as form
use Rattle.qed_terms.specs.Tree.{Tree, head_of}
use Rattle.qed_linear.specs.Linear.{Lin, of_lin, checked, is_integer}
use Rattle.same_places.specs.Same.{Part, Pairs}
use Rattle.same_terms.specs.SameTerms.{unit_times, IsRest}
use Rattle.same_terms.specs.Stands.{tree_parts}
use Rattle.same_terms.specs.Written.{rest_form}
use Rattle.term_forms.specs.declared.forms.Form.{Form}

-- the part at a place of a form
abbrev pub part_at : Form → ℕ → Part
part_at f at = slice_index_or (f.parts.items) at (0, pos 0)

-- the form of the rest for the part at a place
abbrev pub rest_at : (ℕ → Tree) → Form → ℕ → (plus : Bool) → Lin
rest_at tree f at plus = rest_form plus (tree_parts tree (take at (f.parts.items) ++ drop (at + 1) (f.parts.items))) (f.constant)

-- the part at a place has a rest, of this form
pub record HasRest (tree : ℕ → Tree) (f : Form) (at : ℕ) (rest : Lin) : Type 0 where
  pub plus : Bool
  pub unit : (part_at f at).1 ≡ unit_times plus
  pub integer : is_integer (head_of (tree ((part_at f at).0))) ≡ true
  pub fits : checked (rest_at tree f at plus) ≡ Some rest

-- the pair of an atom and its rest, where there is a rest
abbrev pub IsPairAt : (count : ℕ) → (tree tree' : ℕ → Tree) → Form → ℕ → Option (ℕ × ℕ) → Type 0
IsPairAt count tree tree' f at None = (rest : Lin) → HasRest tree f at rest → ⊥
IsPairAt count tree tree' f at (Some p) = (rest : Lin) × HasRest tree f at rest × (p.0 ≡ (part_at f at).0) × (p.1 < count) × (tree' (p.1) ≡ of_lin rest)

-- ---- all of a form

-- the pairs that stand in a list for the rests of a form: each is one, and each rest has one
pub record ArePairs (count : ℕ) (tree tree' : ℕ → Tree) (f : Form) (n : ℕ) (pairs : Pairs) : Type 0 where
  pub each : (k i j : ℕ) → slice_get pairs k ≡ Some (i, j) → (at : ℕ) × (rest : Lin) × (at < n) × HasRest tree f at rest × (i ≡ (part_at f at).0) × (j < count) × (tree' j ≡ of_lin rest)
  pub every : (at : ℕ) (rest : Lin) → at < n → HasRest tree f at rest → (k : ℕ) × (j : ℕ) × (slice_get pairs k ≡ Some ((part_at f at).0, j)) × (tree' j ≡ of_lin rest)

abbrev pub with_pair : Pairs → Option (ℕ × ℕ) → Pairs
with_pair ps None = ps
with_pair ps (Some p) = ps ++ p ∷ []

-- ---- all of some literals

abbrev pub is_equality_op : FormOp → Bool
is_equality_op form.Equal = true
is_equality_op o = false

abbrev pub is_equality : Head → Bool
is_equality (h.Form o) = is_equality_op o
is_equality head = false

-- the pairs of a list are the rests of the equalities among some literals
pub record AreRests (count : ℕ) (tree : ℕ → Tree) (ls : List Tree) (pairs : Pairs) : Type 0 where
  pub each : (k i j : ℕ) → slice_get pairs k ≡ Some (i, j) → (i < count) × (j < count) × IsRest ls (tree i) (tree j)
  pub every : (a r : Tree) → IsRest ls a r → (k : ℕ) × (i : ℕ) × (j : ℕ) × (slice_get pairs k ≡ Some (i, j)) × (tree i ≡ a) × (tree j ≡ r)
