-- The literal by which a variable is eliminated, and what is made of a branch.
use Rattle.std.specs.Prelude.{◌≡◌, ℕ, pos, ◌<◌, Bool, true, false, not, if◌then◌else◌, List, [], ◌++◌, map, length, take, get_or, Option, Some, None}
use Rattle.std.specs.Ordering.{int_eq, nat_cmp}
use Rattle.std.specs.Cmp.Lexicographic.{slice_cmp}
use Rattle.qed_terms.specs.declared.head.Head.{Head}
use Rattle.qed_terms.specs.declared.head.Head.TheVariants as h
use Rattle.qed_terms.specs.declared.head.FormOp.TheVariants as form
use Rattle.qed_terms.specs.Tree.{Tree, head_of}
use Rattle.qed_linear.specs.Linear.{at_order}
use Rattle.branches.specs.declared.kinds.Kind.TheVariants as kind
use Rattle.branches.specs.Steps.{NoneSo}
use Rattle.branches.specs.Branch.{Branch, branch, is_kind}
use Rattle.branch_changes.specs.Changes.{Gives, EachTo, literals_of, others_of}
use Rattle.branch_changes.specs.Givens.{Given, givens, first_put, put, form_givens, is_nothing, may_stand_for}
use Rattle.branch_changes.specs.Ids.{given_of}
use Rattle.same_terms.specs.Written.{written}
use Rattle.variable_changes.specs.declared.literals.Elimination.{Elimination}

abbrev pub is_equality : Head → Bool
is_equality (h.Form form.Equal) = true
is_equality head = false

abbrev pub is_sameness : Head → Bool
is_sameness (h.Form form.Same) = true
is_sameness head = false

abbrev pub is_zero_head : Head → Bool
is_zero_head (h.Num z) = int_eq z (pos 0)
is_zero_head head = false

-- those of an equality of these two
abbrev pub zero_givens : Tree → Tree → List Given
zero_givens t u = if is_nothing u then form_givens (written t) else []

-- a name comes before that of a variable
abbrev pub comes_before : List ℕ → Option (List ℕ) → Bool
comes_before x None = false
comes_before x (Some y) = at_order (slice_cmp nat_cmp x y) true false false

-- both are variables, and the second one is the later one
abbrev pub is_second_later : Option (List ℕ) → Option (List ℕ) → Bool
is_second_later None o = false
is_second_later (Some x) o = comes_before x o

-- the first literal that gives a variable which can be replaced everywhere, and that variable
abbrev pub IsFirstElimination : {Id : Type 0} → (Id → Tree) → Branch → Option (Elimination Id) → Type 0
IsFirstElimination tree b None = NoneSo (Gives b) b.literals
IsFirstElimination tree b (Some e) =
    (e.at < length b.literals) × NoneSo (Gives b) (take e.at b.literals) × ((l : Tree) → first_put b (givens (get_or b.literals e.at l)) ≡ Some (given_of tree e.given))

abbrev pub EliminationHeld : {Id : Type 0} → (Id → Type 0) → (Id → Tree) → Option (Elimination Id) → Type 0
EliminationHeld held tree None = Unit {0}
EliminationHeld held tree (Some e) = held e.given.term × (may_stand_for e.given.sort (tree e.given.term) ≡ true)

-- the formulas that are literals, or those that are none
abbrev pub sorted : (literals : Bool) → List Tree → List Tree
sorted true fs = literals_of fs
sorted false fs = others_of fs

abbrev pub is_wanted : (literals : Bool) → Tree → Bool
is_wanted true f = is_kind kind.Literal (head_of f)
is_wanted false f = not (is_kind kind.Literal (head_of f))

-- The branch of these literals and of what waits, with the term in the variable's places. What is no literal any more waits last.
pub record IsReplaced (normal : Tree → Tree → Type 0) (g : Given) (others waiting : List Tree) (c : Branch) : Type 0 where
  pub literals_now : List Tree
  pub waiting_now : List Tree
  pub new_literals : EachTo normal (map (put g) others) literals_now
  pub new_waiting : EachTo normal (map (put g) waiting) waiting_now
  pub now : c ≡ branch (literals_of literals_now) (waiting_now ++ others_of literals_now)
