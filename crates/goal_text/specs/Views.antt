-- What a reader or a writer of the program gives, beside what the definitions give.
use Rattle.std.specs.Prelude.{◌≡◌, ℕ, List, map, Option, Some, None, Result, Ok, Err}
use Rattle.std.specs.Borrow.{Bor}
use Rattle.qed_terms.specs.WellFormed.{Place, term, formula, argument}
use Rattle.qed_terms.specs.declared.term.Formula.{Formula}
use Rattle.qed_terms.specs.declared.term.Goal.{Goal}
use Rattle.qed_terms.specs.declared.term.Term.{Term}
use Rattle.qed_terms.specs.Tree.{Tree}
use Rattle.qed_terms.specs.View.{term_tree, formula_tree}
use Rattle.goal_text.specs.Reader.{Plan, row, any, frame}
use Rattle.goal_text.specs.Reader as reader
use Rattle.goal_text.specs.declared.answer.GoalText.{GoalText}
use Rattle.goal_text.specs.declared.answer.GoalText.TheVariants.{NotAGoal, NoMemory}
use Rattle.goal_text.specs.declared.fronts.FormHead.{FormHead}
use Rattle.goal_text.specs.declared.fronts.Plan as code
use Rattle.goal_text.specs.declared.fronts.Plan.TheVariants as plan
use Rattle.goal_text.specs.declared.fronts.TermHead.{TermHead}
use Rattle.goal_text.specs.declared.kids.Kids as kids
use Rattle.goal_text.specs.declared.leaves.TermPlace.{TermPlace}
use Rattle.goal_text.specs.declared.leaves.TermPlace.TheVariants as place
use Rattle.goal_text.specs.declared.leaves.Wanted.{Wanted}
use Rattle.goal_text.specs.declared.leaves.Wanted.TheVariants as wanted

-- ---- the same, unless memory ran out

abbrev pub Gives : {X Y : Type 0} → (X → Y) → Result (X × Bor (List ℕ)) GoalText → Option (Y × List ℕ) → Type 0
Gives see (Ok x) given = given ≡ Some (see x.0, x.1.now)
Gives see (Err NotAGoal) given = given ≡ None
Gives see (Err NoMemory) given = Unit {0}

abbrev pub GivesOne : {X Y : Type 0} → (X → Y) → Result X GoalText → Option Y → Type 0
GivesOne see (Ok x) given = given ≡ Some (see x)
GivesOne see (Err NotAGoal) given = given ≡ None
GivesOne see (Err NoMemory) given = Unit {0}

abbrev pub GivesRest : Result (Bor (List ℕ)) GoalText → Option (List ℕ) → Type 0
GivesRest (Ok x) given = given ≡ Some x.now
GivesRest (Err NotAGoal) given = given ≡ None
GivesRest (Err NoMemory) given = Unit {0}

-- beside the rest this is left
abbrev pub Leaves : {Y : Type 0} → Y → Result (Bor (List ℕ)) GoalText → Option (Y × List ℕ) → Type 0
Leaves y (Ok x) given = given ≡ Some (y, x.now)
Leaves y (Err NotAGoal) given = given ≡ None
Leaves y (Err NoMemory) given = Unit {0}

abbrev pub same : {X : Type 0} → X → X
same x = x

-- ---- what is wanted and what is read, as plain values

abbrev pub term_place : TermPlace → Place
term_place (place.Of s) = term s
term_place place.Argument = argument

abbrev pub place_of : Wanted → Place
place_of (wanted.Term p) = term_place p
place_of wanted.Formula = formula

abbrev pub plan_of : code.Plan → Plan
plan_of (plan.Row places) = row (map place_of places.now)
plan_of (plan.Any place) = any (place_of place)
plan_of plan.Frame = frame

abbrev pub term_front_of : TermHead × code.Plan → TermHead × Plan
term_front_of x = (x.0, plan_of x.1)

abbrev pub form_front_of : FormHead × code.Plan → FormHead × Plan
form_front_of x = (x.0, plan_of x.1)

abbrev pub kids_view : kids.Kids → reader.Kids
kids_view k = record { formulas = map formula_tree k.formulas; terms = map term_tree k.terms; shapes = k.shapes }

abbrev pub both_trees : Formula × Formula → Tree × Tree
both_trees x = (formula_tree x.0, formula_tree x.1)

abbrev pub bound_trees : Term × Term × Formula → Tree × Tree × Tree
bound_trees x = (term_tree x.0, term_tree x.1, formula_tree x.2)

-- ---- the parts of a goal

abbrev pub known_of : Goal → List Tree
known_of g = map formula_tree g.known

abbrev pub check_of : Goal → Tree
check_of g = formula_tree g.check

abbrev pub parts_of : Goal → List Tree × Tree
parts_of g = (known_of g, check_of g)
