-- Parameters one after another.
use Rattle.std.proofs.Common.{◌≡◌, ℕ, ◌+◌, ◌<◌, ◌≤◌, List, [], ◌∷◌, map, length, drop, get_or, Result, Ok, Err, refl, sym, ap, ◌∙◌}
use Rattle.std.proofs.lemmas.List.{at_drop_more, at_drop_all}
use Rattle.wp_base.specs.declared.answers.Stop.{Stop}
use Rattle.wp_base.specs.declared.answers.Stop.TheVariants as stop
use Rattle.c_syntax.specs.declared.decl.VarDecl.{VarDecl}
use Rattle.c_syntax.specs.View.{view_var}
use Rattle.c_answers.specs.Answers.{Answer, after, Gives}
use Rattle.c_variables.specs.declared.context.Context.{Context}
use Rattle.c_functions.specs.Functions.{param, params}

one_left : (c : Context) (ds : List VarDecl) (i : ℕ) (d : VarDecl) → i < length ds → d ≡ get_or ds i d
    → params c (map view_var (drop i ds)) ≡ after (param c (view_var d)) (λ more. params more (map view_var (drop (i + 1) ds)))
one_left c ds i d inside is = at_drop_more (λ xs. params c (map view_var xs)) ds i d inside ∙ ap (λ x. params c (map view_var (x ∷ drop (i + 1) ds))) (sym is)

pub param_turn : (c c' : Context) (ds : List VarDecl) (i : ℕ) (d : VarDecl) (whole : Answer Context) → i < length ds → d ≡ get_or ds i d → param c (view_var d) ≡ Ok c'
    → params c (map view_var (drop i ds)) ≡ whole → params c' (map view_var (drop (i + 1) ds)) ≡ whole
param_turn c c' ds i d whole inside is made so_far =
    sym (one_left c ds i d inside is ∙ ap (λ o. after o (λ more. params more (map view_var (drop (i + 1) ds)))) made) ∙ so_far

pub param_fault : {V : Type 0} (see see' : V → Context) (c : Context) (ds : List VarDecl) (i : ℕ) (d : VarDecl) (x : Stop) (whole : Answer Context) → i < length ds → d ≡ get_or ds i d
    → Gives see (Err x) (param c (view_var d)) → params c (map view_var (drop i ds)) ≡ whole → Gives see' (Err x) whole
param_fault see see' c ds i d (stop.Refused r) whole inside is fault so_far =
    sym so_far ∙ one_left c ds i d inside is ∙ ap (λ o. after o (λ more. params more (map view_var (drop (i + 1) ds)))) fault
param_fault see see' c ds i d stop.NoMemory whole inside is fault so_far = tt

pub params_done : (c : Context) (ds : List VarDecl) (i : ℕ) (whole : Answer Context) → length ds ≤ i → params c (map view_var (drop i ds)) ≡ whole → whole ≡ Ok c
params_done c ds i whole all so_far = sym so_far ∙ at_drop_all (λ xs. params c (map view_var xs)) ds i all

pub ruleset params_laws = (param_turn, param_fault, params_done)
