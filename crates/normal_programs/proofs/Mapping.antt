-- Functions one after the other, and by their numbers.
use Rattle.std.proofs.Common.{◌≡◌, ℕ, zero, suc, ◌+◌, ◌<◌, ◌≤◌, List, [], ◌∷◌, ◌++◌, map, length, drop, get_or, Option, Some, None, refl, sym, ap, ◌∙◌, append_assoc, append-nil}
use Rattle.std.specs.Option.{option_map}
use Rattle.std.proofs.lemmas.List.{at_drop_more, at_drop_all, map_push}
use Rattle.c_runs.specs.Program as p
use Rattle.c_runs.specs.Core.{Cores}
use Rattle.c_runs.specs.Normal.{normal, normal_function}
use Rattle.program_trees.specs.declared.files.Function.{Function}
use Rattle.program_trees.specs.declared.files.Program.{Program}
use Rattle.program_trees.specs.declared.files.CoreFunction.{CoreFunction}
use Rattle.program_trees.specs.Files.{at}
use Rattle.program_trees.specs.View.{view_facts, view_core_function, view_function, view_program}

-- ---- one after the other

abbrev pub spelled : Option Function → Option (p.Function p.Stmts)
spelled f = option_map view_function f

abbrev pub core : Option CoreFunction → Option (p.Function Cores)
core f = option_map view_core_function f

abbrev pub became : Option (p.Function p.Stmts) → Option (p.Function Cores)
became f = option_map normal_function f

-- those made, and what is left
abbrev pub MadeOf : List (Option CoreFunction) → List (Option Function) → (index : ℕ) → Type 0
MadeOf made fs i = map core made ++ map became (map spelled (drop i fs)) ≡ map became (map spelled fs)

pub made_turn : (made more : List (Option CoreFunction)) (fs : List (Option Function)) (i : ℕ) (f : Option Function) (x : Option CoreFunction) → i < length fs → f ≡ get_or fs i f
    → core x ≡ became (spelled f) → more ≡ made ++ x ∷ [] → MadeOf made fs i → MadeOf more fs (i + 1)
made_turn made more fs i f x in_list is made_is grown so_far =
    let rest = map became (map spelled (drop (i + 1) fs)) in
    ap (λ xs. xs ++ rest) (ap (map core) grown ∙ map_push core made x) ∙ append_assoc (map core made) (core x ∷ []) rest
    ∙ ap (λ y. map core made ++ y ∷ rest) made_is
    ∙ ap (λ xs. map core made ++ xs) (sym (at_drop_more (λ zs. map became (map spelled zs)) fs i f in_list ∙ ap (λ z. became (spelled z) ∷ rest) (sym is))) ∙ so_far

pub made_all : (made : List (Option CoreFunction)) (fs : List (Option Function)) (i : ℕ) → length fs ≤ i → MadeOf made fs i → map core made ≡ map became (map spelled fs)
made_all made fs i past_end so_far =
    sym (append-nil (map core made)) ∙ ap (λ xs. map core made ++ xs) (sym (at_drop_all (λ zs. map became (map spelled zs)) fs i past_end)) ∙ so_far

pub ruleset mapping_laws = (made_turn, made_all)

-- ---- by their numbers

abbrev pub whole_of : p.Facts → (ℕ → Option (p.Function Cores)) → p.Program Cores
whole_of known functions = record { facts = known; functions = functions }

at_map : {X Y : Type 0} (f : X → Y) (xs : List (Option X)) (n : ℕ) → at (map (option_map f) xs) n ≡ option_map f (at xs n)
at_map f [] n = refl
at_map f (x ∷ xs) zero = refl
at_map f (x ∷ xs) (suc n) = at_map f xs n

pub program_done : (program : Program) (given : List (Option Function)) (made : List (Option CoreFunction)) → given ≡ program.functions → map core made ≡ map became (map spelled given)
    → whole_of (view_facts program.facts) (at (map core made)) ≡ normal (view_program program)
program_done program given made e is =
    let known = view_facts program.facts in
    ap (λ fs. whole_of known (at fs)) (is ∙ ap (λ fs. map became (map spelled fs)) e)
    ∙ ap (whole_of known) (λ i n. at_map normal_function (map spelled program.functions) n i)
