-- Declarations one after another.
use Rattle.std.proofs.Common.{◌≡◌, ℕ, ◌+◌, ◌<◌, ◌≤◌, Bool, List, [], ◌∷◌, map, length, drop, get_or, Result, Ok, Err, refl, sym, ap, ◌∙◌}
use Rattle.std.proofs.lemmas.List.{at_drop_more, at_drop_all}
use Rattle.wp_base.specs.declared.answers.Stop.{Stop}
use Rattle.wp_base.specs.declared.answers.Stop.TheVariants as stop
use Rattle.c_syntax.specs.declared.decl.Decl.{Decl}
use Rattle.c_syntax.specs.View.{view_decl}
use Rattle.name_table.specs.Names.{Names}
use Rattle.c_answers.specs.Answers.{Answer, after, Gives}
use Rattle.c_typing.specs.Typing.{Facts, Unit, declaration, declarations, bodied, bodied_with}

one_left : (facts : Facts) (u : Unit) (ds : List Decl) (i : ℕ) (d : Decl) → i < length ds → d ≡ get_or ds i d
    → declarations facts u (map view_decl (drop i ds)) ≡ after (declaration facts u (view_decl d)) (λ v. declarations facts v (map view_decl (drop (i + 1) ds)))
one_left facts u ds i d inside is =
    at_drop_more (λ xs. declarations facts u (map view_decl xs)) ds i d inside ∙ ap (λ x. declarations facts u (map view_decl (x ∷ drop (i + 1) ds))) (sym is)

pub decl_turn : (facts : Facts) (u v : Unit) (ds : List Decl) (i : ℕ) (d : Decl) (whole : Answer Unit) → i < length ds → d ≡ get_or ds i d → declaration facts u (view_decl d) ≡ Ok v
    → declarations facts u (map view_decl (drop i ds)) ≡ whole → declarations facts v (map view_decl (drop (i + 1) ds)) ≡ whole
decl_turn facts u v ds i d whole inside is made so_far =
    sym (one_left facts u ds i d inside is ∙ ap (λ o. after o (λ w. declarations facts w (map view_decl (drop (i + 1) ds)))) made) ∙ so_far

pub decl_fault : {V W : Type 0} (see : V → Unit) (see' : W → Unit) (facts : Facts) (u : Unit) (ds : List Decl) (i : ℕ) (d : Decl) (x : Stop) (whole : Answer Unit) → i < length ds → d ≡ get_or ds i d
    → Gives see (Err x) (declaration facts u (view_decl d)) → declarations facts u (map view_decl (drop i ds)) ≡ whole → Gives see' (Err x) whole
decl_fault see see' facts u ds i d (stop.Refused r) whole inside is fault so_far =
    sym so_far ∙ one_left facts u ds i d inside is ∙ ap (λ o. after o (λ w. declarations facts w (map view_decl (drop (i + 1) ds)))) fault
decl_fault see see' facts u ds i d stop.NoMemory whole inside is fault so_far = tt

pub decls_done : (facts : Facts) (u : Unit) (ds : List Decl) (i : ℕ) (whole : Answer Unit) → length ds ≤ i → declarations facts u (map view_decl (drop i ds)) ≡ whole → whole ≡ Ok u
decls_done facts u ds i whole all so_far = sym so_far ∙ at_drop_all (λ xs. declarations facts u (map view_decl xs)) ds i all

pub ruleset decls_laws = (decl_turn, decl_fault, decls_done)
