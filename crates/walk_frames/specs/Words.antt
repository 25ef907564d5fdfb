-- Words of single statements, as they are told of in memory.
use Rattle.std.specs.Prelude.{◌≡◌, ℕ, ◌+◌, Bool, true, ◌||◌, if◌then◌else◌, pos, List, [], ◌∷◌, Option, Some, None}
use Rattle.typed_prog.specs.Tree as t
use Rattle.qed_terms.specs.Meaning as sense
use Rattle.qed_terms.specs.Tree.{Tree, num, false_tree}
use Rattle.typed_prog.specs.declared.operators.Root.{Root}
use Rattle.typed_prog.specs.declared.operators.Root.TheVariants as root
use Rattle.c_runs.specs.Program.{Contract, Facts, Variable}
use Rattle.c_runs.specs.Claims as broken
use Rattle.c_runs.specs.Tree as core
use Rattle.plain_runs.specs.Fitting.{Shape}
use Rattle.plain_states.specs.Slots.{sizes_of, value_slot, flag_slot, temp_slot, result_slot}
use Rattle.value_terms.specs.Readings.{number_term, condition}
use Rattle.value_terms.specs.Terms.{term_of}
use Rattle.value_terms.specs.Words.{word_of}
use Rattle.walk_steps.specs.Step.{Step, halt, seq, set, change, exit}
use Rattle.walk_steps.specs.Walk.{Goal}
use Rattle.program_steps.specs.Leaves.{number}
use Rattle.program_steps.specs.Stops.{broken_place}
use Rattle.program_steps.specs.Terms.{Texts}
use Rattle.program_steps.specs.Words.{Point, write_trees, variable_number, ask_all, items_step, set_variable, any_at, drop}
use Rattle.value_words.specs.OverSlots.{leaf_reading}
use Rattle.value_words.specs.Laws.{IsClosed, AreClosed}

-- no goal is passed on
abbrev pub Still : List Goal → List Goal → Type 0
Still gs hs = gs ≡ hs

module _ (m : sense.World) (p : Facts) (xs : List Variable) where
  abbrev pub value_word : t.Value → Step
  value_word e = items_step m (word_of p xs (leaf_reading p xs) e)

  abbrev pub term_word : t.Value → Tree
  term_word e = number_term (term_of p xs (leaf_reading p xs) e)

  abbrev pub condition_word : t.Value → Tree
  condition_word e = condition (term_of p xs (leaf_reading p xs) e)

  abbrev pub set_word : (temporary : ℕ) → t.Value → Step
  set_word n e = seq (value_word e) (set (temp_slot (sizes_of p xs) n) (number m (term_word e)))

  abbrev pub start_word : (variable : ℕ) → t.Value → Step
  start_word x e = seq (value_word e) (set_variable m ((sizes_of p xs).globals + x) (term_word e))

  abbrev pub give_word : (temporaries blocks : ℕ) → t.Value → Step
  give_word c k e = seq (value_word e) (seq (set (result_slot (sizes_of p xs)) (number m (term_word e))) (seq (drop m (sizes_of p xs) c (λ n. true)) (exit k)))

  abbrev pub return_word : (temporaries blocks : ℕ) → Option t.Value → Step
  return_word c k None = exit k
  return_word c k (Some e) = give_word c k e

-- what is asked in a loop of a write to a variable: nothing where the loop's set names it, or it is declared inside of the loop
abbrev pub unless : (named inside : Bool) → List Tree
unless a b = if a || b then [] else false_tree ∷ []

-- an object gets the value of a term, which the set in force has to allow; there is no way on from a place to which a pointer leads
module _ (m : sense.World) (p : Facts) (s : Shape) (texts : Texts) (c : Contract) where
  abbrev pub put_word : Point → (line : ℕ) → Root → Tree → Step
  put_word pt l (root.Variable x) t =
      seq (ask_all m (write_trees p s texts c pt x) (broken_place broken.assigns l)) (set_variable m (variable_number (sizes_of p s.variables) x) t)
  put_word pt l (root.Pointed n) t = halt

-- a variable that isn't set yet
abbrev pub unset_word : sense.World → (variable : ℕ) → Step
unset_word m x = seq (change (any_at (value_slot x))) (set (flag_slot x) (number m (num (pos 0))))

-- ---- statements whose expressions are closed

module _ (p : Facts) (s : Shape) where
  abbrev pub GoalClosed : core.Goal → Type 0
  GoalClosed (core.place cs type l path es) = AreClosed p s es
  GoalClosed to = Unit {0}

  abbrev pub GivenClosed : Option t.Value → Type 0
  GivenClosed None = Unit {0}
  GivenClosed (Some e) = IsClosed p s e

  abbrev mutual
    pub StepClosed : core.Step → Type 0
    StepClosed (core.set cs n e) = IsClosed p s e
    StepClosed (core.store cs type l path es) = AreClosed p s es
    StepClosed (core.start cs x e) = IsClosed p s e
    StepClosed (core.call cs to n l es) = AreClosed p s es × GoalClosed to
    StepClosed (core.branch cs e a b) = IsClosed p s e × StepsClosed a × StepsClosed b
    StepClosed (core.repeat l ss) = StepsClosed ss
    StepClosed (core.around ss) = StepsClosed ss
    StepClosed (core.exit k) = Unit {0}
    StepClosed (core.give cs e) = GivenClosed e
    StepClosed (core.claim c) = Unit {0}
    StepClosed (core.scope ys ss) = StepsClosed ss

    pub StepsClosed : core.Steps → Type 0
    StepsClosed core.end = Unit {0}
    StepsClosed (core.then_ a ss) = StepClosed a × StepsClosed ss
