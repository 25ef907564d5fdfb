-- Variables that an equality gives: which ones, and the term that each equals.
use Rattle.std.specs.Prelude.{ℕ, zero, suc, ◌+◌, Bool, true, false, not, ◌&&◌, if◌then◌else◌, ℤ, pos, negsuc, List, [], ◌∷◌, ◌++◌, take, drop, length, slice_get, Option, Some, None, option_map}
use Rattle.std.specs.List.{list_all}
use Rattle.std.specs.Option.{option_and_then}
use Rattle.qed_terms.specs.declared.head.Sort.{Sort}
use Rattle.qed_terms.specs.declared.head.Sort.TheVariants as sort
use Rattle.qed_terms.specs.declared.head.Head.{Head}
use Rattle.qed_terms.specs.declared.head.Head.TheVariants as h
use Rattle.qed_terms.specs.declared.head.FormOp.TheVariants as form
use Rattle.qed_terms.specs.Free.{is_free}
use Rattle.qed_terms.specs.Operators.{is_zero, is_equal}
use Rattle.qed_terms.specs.Order.{tree_cmp}
use Rattle.qed_terms.specs.Tree.{Tree, node, stop, more, head_of}
use Rattle.qed_terms.specs.WellFormed.{same_sort, term, argument, fits}
use Rattle.qed_linear.specs.Linear.{Part, Lin, of_lin, checked, at_order}
use Rattle.qed_substitution.specs.Substitution.{replace, may_replace}
use Rattle.same_terms.specs.Written.{written, rest_form}
use Rattle.branches.specs.Branch.{Branch}
use Rattle.branch_changes.specs.MemoryNames.{replace_memory, may_replace_memory}

-- a variable, by its name and sort, and the term that it equals
pub record Given : Type 0 where
  pub name : List ℕ
  pub sort : Sort
  pub term : Tree

abbrev pub given : List ℕ → Sort → Tree → Given
given x s u = record { name = x; sort = s; term = u }

-- ---- the term in the places of the variable

abbrev pub put_at : Sort → List ℕ → Tree → Tree → Tree
put_at sort.Int x u t = replace x u t
put_at sort.Memory x u t = replace_memory x u t
put_at sort.Table x u t = t

abbrev pub may_put_at : Sort → List ℕ → Tree → Tree → Bool
may_put_at sort.Int x u t = may_replace x u t
may_put_at sort.Memory x u t = may_replace_memory x u t
may_put_at sort.Table x u t = false

abbrev pub put : Given → Tree → Tree
put g t = put_at g.sort g.name g.term t

-- no quantifier around a place of the variable binds a name of the term
abbrev pub may_put : Given → Tree → Bool
may_put g t = may_put_at g.sort g.name g.term t

-- ---- a variable and its term

-- the name of a variable of this sort
abbrev pub variable : Sort → Head → Option (List ℕ)
variable s (h.Var x r) = if same_sort s r then Some x else None
variable s head = None

-- the term is well formed wherever a variable of this sort may stand, as a term of the sort and as an argument
abbrev pub may_stand_for : Sort → Tree → Bool
may_stand_for s u = fits (term s) u && fits argument u

-- the term may stand for the variable, which isn't inside it
abbrev pub is_apart : Sort → List ℕ → Tree → Bool
is_apart s x u = not (is_free x s u) && may_stand_for s u

abbrev pub given_where : Sort → Option (List ℕ) → Option Tree → Option Given
given_where s (Some x) (Some u) = if is_apart s x u then Some (given x s u) else None
given_where s x u = None

abbrev pub with_given : Option Given → List Given → List Given
with_given None gs = gs
with_given (Some g) gs = g ∷ gs

-- ---- those of an equality of integers, L = 0

-- whether a coefficient is 1, or -1
abbrev pub unit_sign : ℤ → Option Bool
unit_sign z = if is_equal z (pos 1) then Some true else (if is_equal z (negsuc 0) then Some false else None)

-- what an atom with this coefficient equals, by the other parts and the constant, where that fits 128 bits
abbrev pub rest_by : Option Bool → List Part → ℤ → Option Tree
rest_by (Some plus) others c = option_map of_lin (checked (rest_form plus others c))
rest_by None others c = None

abbrev pub given_by : Part → List Part → ℤ → Option Given
given_by p others c = given_where sort.Int (variable sort.Int (head_of p.atom)) (rest_by (unit_sign p.times) others c)

-- by the part at a place
abbrev pub given_at : Lin → ℕ → Option Given
given_at f n = option_and_then (λ p. given_by p (take n f.parts ++ drop (n + 1) f.parts) f.constant) (slice_get f.parts n)

-- by the first parts, the last one first
abbrev pub givens_below : Lin → ℕ → List Given
givens_below f zero = []
givens_below f (suc n) = with_given (given_at f n) (givens_below f n)

-- the parts of a normal form stand in term order
abbrev pub form_givens : Lin → List Given
form_givens f = givens_below f (length f.parts)

abbrev pub is_nothing : Tree → Bool
is_nothing (node (h.Num z) stop) = is_zero z
is_nothing t = false

-- ---- those of an equality of memories

abbrev pub memory_given : Tree → Tree → Option Given
memory_given m n = given_where sort.Memory (variable sort.Memory (head_of m)) (Some n)

-- that of the first side, then that of the second
abbrev pub side_givens : Tree → Tree → List Given
side_givens m n = with_given (memory_given m n) (with_given (memory_given n m) [])

-- the later side in term order comes first
abbrev pub same_givens : Tree → Tree → List Given
same_givens m n = at_order (tree_cmp m n) (side_givens n m) (side_givens m n) (side_givens m n)

-- ---- those of a literal, the last variable in term order first

abbrev pub givens : Tree → List Given
givens (node (h.Form form.Equal) (more t (more u stop))) = if is_nothing u then form_givens (written t) else []
givens (node (h.Form form.Same) (more m (more n stop))) = same_givens m n
givens l = []

-- the term may be put in the variable's places everywhere in the branch
abbrev pub can_put : Branch → Given → Bool
can_put b g = list_all (may_put g) b.literals && list_all (may_put g) b.waiting

-- the first that can be put
abbrev pub first_put : Branch → List Given → Option Given
first_put b [] = None
first_put b (g ∷ gs) = if can_put b g then Some g else first_put b gs
