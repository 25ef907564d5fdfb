-- Statements and functions one after the other, and functions by their numbers.
use Rattle.std.proofs.Common.{◌≡◌, ℕ, zero, suc, ◌+◌, ◌<◌, ◌≤◌, List, [], ◌∷◌, ◌++◌, map, length, drop, get_or, Option, Some, None, refl, sym, ap, ◌∙◌, append_assoc, append-nil}
use Rattle.std.specs.Option.{option_map}
use Rattle.std.proofs.lemmas.List.{at_drop_more, at_drop_all, map_push}
use Rattle.c_runs.specs.Program as p
use Rattle.c_runs.specs.Core as core
use Rattle.c_runs.specs.Tree as k
use Rattle.c_runs.specs.Adding as adding
use Rattle.core_trees.specs.declared.statements.Core.{Core}
use Rattle.core_trees.specs.View.{view_core, view_cores}
use Rattle.program_trees.specs.declared.files.CoreFunction.{CoreFunction}
use Rattle.program_trees.specs.declared.files.CoreProgram.{CoreProgram}
use Rattle.program_trees.specs.Files.{at}
use Rattle.program_trees.specs.View.{view_facts, view_core_function, view_core_program}
use Rattle.checked_trees.specs.declared.steps.Step.{Step}
use Rattle.checked_trees.specs.declared.files.CheckedFunction.{CheckedFunction}
use Rattle.checked_trees.specs.View.{view_step, view_steps, steps_of, view_checked_function}

-- ---- statements

-- statements behind those that are made
behind : List k.Step → k.Steps → k.Steps
behind [] rest = rest
behind (s ∷ ss) rest = k.then_ s (behind ss rest)

behind_more : (ss : List k.Step) (s : k.Step) (rest : k.Steps) → behind (ss ++ s ∷ []) rest ≡ behind ss (k.then_ s rest)
unfolding behind
behind_more [] s rest = refl
behind_more (x ∷ ss) s rest = ap (k.then_ x) (behind_more ss s rest)

behind_end : (ss : List k.Step) → behind ss k.end ≡ steps_of ss
unfolding behind
behind_end [] = refl
behind_end (x ∷ ss) = ap (k.then_ x) (behind_end ss)

pub StepsOf : List p.Variable → List Step → List Core → (index : ℕ) → Type 0
StepsOf xs made ss i = behind (map view_step made) (adding.steps_of xs (view_cores (drop i ss))) ≡ adding.steps_of xs (view_cores ss)

pub first_step : (xs : List p.Variable) (ss : List Core) → StepsOf xs [] ss 0
unfolding StepsOf behind
first_step xs ss = refl

pub step_turn : (xs : List p.Variable) (made more : List Step) (ss : List Core) (i : ℕ) (s : Core) (x : Step) → i < length ss → s ≡ get_or ss i s
    → view_step x ≡ adding.step_of xs (view_core s) → more ≡ made ++ x ∷ [] → StepsOf xs made ss i → StepsOf xs more ss (i + 1)
unfolding StepsOf
step_turn xs made more ss i s x in_list is made_is grown so_far =
    let rest = adding.steps_of xs (view_cores (drop (i + 1) ss)) in
    ap (λ z. behind z rest) (ap (map view_step) grown ∙ map_push view_step made x) ∙ behind_more (map view_step made) (view_step x) rest
    ∙ ap (λ z. behind (map view_step made) (k.then_ z rest)) made_is
    ∙ ap (behind (map view_step made)) (sym (at_drop_more (λ ss. adding.steps_of xs (view_cores ss)) ss i s in_list ∙ ap (λ z. k.then_ (adding.step_of xs (view_core z)) rest) (sym is)))
    ∙ so_far

pub all_steps : (xs : List p.Variable) (made : List Step) (ss : List Core) (i : ℕ) → length ss ≤ i → StepsOf xs made ss i → view_steps made ≡ adding.steps_of xs (view_cores ss)
unfolding StepsOf
all_steps xs made ss i past_end so_far =
    sym (behind_end (map view_step made)) ∙ ap (behind (map view_step made)) (sym (at_drop_all (λ ss. adding.steps_of xs (view_cores ss)) ss i past_end)) ∙ so_far

pub ruleset steps_laws = (first_step, step_turn, all_steps)

-- ---- functions

abbrev pub plain : Option CoreFunction → Option (p.Function core.Cores)
plain f = option_map view_core_function f

abbrev pub checked : Option CheckedFunction → Option (p.Function k.Steps)
checked f = option_map view_checked_function f

abbrev pub became : Option (p.Function core.Cores) → Option (p.Function k.Steps)
became f = option_map adding.function_of f

-- those made, and what is left
abbrev pub MadeOf : List (Option CheckedFunction) → List (Option CoreFunction) → (index : ℕ) → Type 0
MadeOf made fs i = map checked made ++ map became (map plain (drop i fs)) ≡ map became (map plain fs)

pub made_turn : (made more : List (Option CheckedFunction)) (fs : List (Option CoreFunction)) (i : ℕ) (f : Option CoreFunction) (x : Option CheckedFunction) → i < length fs → f ≡ get_or fs i f
    → checked x ≡ became (plain f) → more ≡ made ++ x ∷ [] → MadeOf made fs i → MadeOf more fs (i + 1)
made_turn made more fs i f x in_list is made_is grown so_far =
    let rest = map became (map plain (drop (i + 1) fs)) in
    ap (λ xs. xs ++ rest) (ap (map checked) grown ∙ map_push checked made x) ∙ append_assoc (map checked made) (checked x ∷ []) rest
    ∙ ap (λ y. map checked made ++ y ∷ rest) made_is
    ∙ ap (λ xs. map checked made ++ xs) (sym (at_drop_more (λ zs. map became (map plain zs)) fs i f in_list ∙ ap (λ z. became (plain z) ∷ rest) (sym is))) ∙ so_far

pub made_all : (made : List (Option CheckedFunction)) (fs : List (Option CoreFunction)) (i : ℕ) → length fs ≤ i → MadeOf made fs i → map checked made ≡ map became (map plain fs)
made_all made fs i past_end so_far =
    sym (append-nil (map checked made)) ∙ ap (λ xs. map checked made ++ xs) (sym (at_drop_all (λ zs. map became (map plain zs)) fs i past_end)) ∙ so_far

pub ruleset mapping_laws = (made_turn, made_all)

-- ---- by their numbers

abbrev pub whole_of : p.Facts → (ℕ → Option (p.Function k.Steps)) → p.Program k.Steps
whole_of known functions = record { facts = known; functions = functions }

at_map : {X Y : Type 0} (f : X → Y) (xs : List (Option X)) (n : ℕ) → at (map (option_map f) xs) n ≡ option_map f (at xs n)
at_map f [] n = refl
at_map f (x ∷ xs) zero = refl
at_map f (x ∷ xs) (suc n) = at_map f xs n

pub program_done : (program : CoreProgram) (given : List (Option CoreFunction)) (made : List (Option CheckedFunction)) → given ≡ program.functions → map checked made ≡ map became (map plain given)
    → whole_of (view_facts program.facts.now) (at (map checked made)) ≡ adding.add_checks (view_core_program program)
program_done program given made e is =
    let known = view_facts program.facts.now in
    ap (λ fs. whole_of known (at fs)) (is ∙ ap (λ fs. map became (map plain fs)) e)
    ∙ ap (whole_of known) (λ i n. at_map adding.function_of (map plain program.functions) n i)
