-- Declarators one after another.
use Rattle.std.proofs.Common.{◌≡◌, ℕ, ◌+◌, ◌<◌, ◌≤◌, List, [], ◌∷◌, ◌++◌, map, length, drop, get_or, Result, Ok, Err, refl, sym, ap, ◌∙◌, append_assoc, append-nil}
use Rattle.std.proofs.lemmas.List.{at_drop_more, at_drop_all}
use Rattle.wp_base.specs.declared.answers.Stop.{Stop}
use Rattle.wp_base.specs.declared.answers.Stop.TheVariants as stop
use Rattle.c_syntax.specs.declared.decl.VarDecl.{VarDecl}
use Rattle.c_syntax.specs.View.{view_var}
use Rattle.c_answers.specs.Answers.{Answer, after, Gives}
use Rattle.typed_unit.specs.Stmt as s
use Rattle.c_variables.specs.declared.context.Context.{Context}
use Rattle.c_stmts.specs.Locals.{local, locals}

-- these locals, and then those that are declared
abbrev pub behind : List s.Declared → Answer (List s.Declared × Context) → Answer (List s.Declared × Context)
behind vs o = after o (λ q. Ok (vs ++ q.0, q.1))

one_left : (c : Context) (ds : List VarDecl) (i : ℕ) (d : VarDecl) → i < length ds → d ≡ get_or ds i d
    → locals c (map view_var (drop i ds)) ≡ after (local c (view_var d)) (λ r. after (locals r.1 (map view_var (drop (i + 1) ds))) (λ q. Ok (r.0 ∷ q.0, q.1)))
one_left c ds i d inside is =
    at_drop_more (λ xs. locals c (map view_var xs)) ds i d inside ∙ ap (λ x. locals c (map view_var (x ∷ drop (i + 1) ds))) (sym is)

one_behind : (vs : List s.Declared) (v : s.Declared) (o : Answer (List s.Declared × Context)) → behind (vs ++ v ∷ []) o ≡ behind vs (after o (λ q. Ok (v ∷ q.0, q.1)))
one_behind vs v (Ok q) = ap (λ us. Ok (us, q.1)) (append_assoc vs (v ∷ []) q.0)
one_behind vs v (Err r) = refl

pub local_turn : (c c' : Context) (ds : List VarDecl) (i : ℕ) (d : VarDecl) (vs more : List s.Declared) (v : s.Declared) (whole : Answer (List s.Declared × Context)) → i < length ds → d ≡ get_or ds i d
    → local c (view_var d) ≡ Ok (v, c') → more ≡ vs ++ v ∷ [] → behind vs (locals c (map view_var (drop i ds))) ≡ whole → behind more (locals c' (map view_var (drop (i + 1) ds))) ≡ whole
local_turn c c' ds i d vs more v whole inside is made grown so_far =
    let rest = map view_var (drop (i + 1) ds) in
    ap (λ us. behind us (locals c' rest)) grown ∙ one_behind vs v (locals c' rest) ∙ ap (λ o. behind vs (after o (λ r. after (locals r.1 rest) (λ q. Ok (r.0 ∷ q.0, q.1))))) (sym made)
    ∙ ap (behind vs) (sym (one_left c ds i d inside is)) ∙ so_far

pub local_fault : {V W : Type 0} (see : V → s.Declared × Context) (see' : W → List s.Declared × Context) (c : Context) (ds : List VarDecl) (i : ℕ) (d : VarDecl) (vs : List s.Declared) (x : Stop) (whole : Answer (List s.Declared × Context))
    → i < length ds → d ≡ get_or ds i d → Gives see (Err x) (local c (view_var d)) → behind vs (locals c (map view_var (drop i ds))) ≡ whole → Gives see' (Err x) whole
local_fault see see' c ds i d vs (stop.Refused r) whole inside is fault so_far =
    let rest = map view_var (drop (i + 1) ds) in
    sym so_far ∙ ap (behind vs) (one_left c ds i d inside is) ∙ ap (λ o. behind vs (after o (λ r. after (locals r.1 rest) (λ q. Ok (r.0 ∷ q.0, q.1))))) fault
local_fault see see' c ds i d vs stop.NoMemory whole inside is fault so_far = tt

pub locals_done : (c : Context) (ds : List VarDecl) (i : ℕ) (vs : List s.Declared) (whole : Answer (List s.Declared × Context)) → length ds ≤ i → behind vs (locals c (map view_var (drop i ds))) ≡ whole → whole ≡ Ok (vs, c)
locals_done c ds i vs whole all so_far =
    sym so_far ∙ at_drop_all (λ xs. behind vs (locals c (map view_var xs))) ds i all ∙ ap (λ us. Ok (us, c)) (append-nil vs)

pub ruleset local_laws = (local_turn, local_fault, locals_done)
