-- What stays by the sets of behaviors, where a loop's turns or a call may have changed variables of the file.
use Rattle.std.specs.Prelude.{ℕ, suc, Bool, ◌&&◌, if◌then◌else◌, List, [], ◌∷◌, ◌++◌, Option}
use Rattle.typed_prog.specs.declared.operators.Variable.TheVariants as variables
use Rattle.acsl_trees.specs.Tree as acsl
use Rattle.qed_terms.specs.Tree.{Tree, equal, imp_of}
use Rattle.c_runs.specs.Program.{Variable, Behavior}
use Rattle.plain_states.specs.Slots.{value_slot}
use Rattle.program_steps.specs.Leaves.{leaf}
use Rattle.program_steps.specs.Words.{lacks}

-- a variable holds what it did in the last state that is remembered
abbrev pub stays : (variable : ℕ) → Tree
stays x = equal (leaf 0 (value_slot x)) (leaf 1 (value_slot x))

-- one that changes, and that the set doesn't name
abbrev pub stay_of : (assumed : Tree) → Option (List acsl.Tree) → (changes : ℕ → Bool) → (variable : ℕ) → List Tree
stay_of a set f x = if f x && lacks set (variables.Global x) then imp_of a (stays x) ∷ [] else []

-- of the variables from this number on
abbrev pub stays_from : (assumed : Tree) → Option (List acsl.Tree) → (changes : ℕ → Bool) → (number : ℕ) → List Variable → List Tree
stays_from a set f x [] = []
stays_from a set f x (v ∷ vs) = stay_of a set f x ++ stays_from a set f (suc x) vs

-- of the variables of the file, by each behavior
abbrev pub all_stay : (assumed : Behavior → Tree) → (changes : ℕ → Bool) → (file : List Variable) → List Behavior → List Tree
all_stay a f vs [] = []
all_stay a f vs (b ∷ bs) = stays_from (a b) b.assigns f 0 vs ++ all_stay a f vs bs
