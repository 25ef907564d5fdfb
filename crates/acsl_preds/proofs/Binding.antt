-- Binders, one after another, and the names behind them.
use Rattle.std.proofs.Common.{◌≡◌, ℕ, ◌+◌, ◌<◌, ◌≤◌, List, [], ◌∷◌, ◌++◌, map, length, drop, get_or, Option, Ok, Err, refl, sym, ap, ◌∙◌, append_assoc, append-nil}
use Rattle.std.proofs.lemmas.List.{at_drop_more, at_drop_all}
use Rattle.wp_base.specs.declared.answers.Stop.{Stop}
use Rattle.wp_base.specs.declared.answers.Stop.TheVariants as stop
use Rattle.c_syntax.specs.declared.decl.VarDecl.{VarDecl}
use Rattle.c_syntax.specs.View.{view_var}
use Rattle.c_answers.specs.Answers.{Answer, after, Gives}
use Rattle.acsl_guards.specs.declared.ranges.Guard.{Guard}
use Rattle.acsl_names.specs.declared.names.Bound.{Bound}
use Rattle.acsl_names.specs.Names.{Around}
use Rattle.acsl_preds.specs.declared.binders.Over.{Over}
use Rattle.acsl_preds.specs.Binders.{one_binder, binders, behind}

module _ (c : Around) where
  no_binder : (b : Bound) (gs : List (Option Guard)) → binders c b [] gs ≡ Ok ([], b)
  no_binder b [] = refl
  no_binder b (g ∷ gs) = refl

  one_left : (b : Bound) (ds : List VarDecl) (gs : List (Option Guard)) (i : ℕ) (d : VarDecl) (g : Option Guard) → i < length gs → i < length ds → g ≡ get_or gs i g → d ≡ get_or ds i d
      → binders c b (map view_var (drop i ds)) (drop i gs)
      ≡ after (one_binder c b (view_var d) g) (λ o. after (binders c o.1 (map view_var (drop (i + 1) ds)) (drop (i + 1) gs)) (λ r. Ok (o.0 ∷ r.0, r.1)))
  one_left b ds gs i d g in_gs in_ds is_g is_d =
      at_drop_more (λ hs. binders c b (map view_var (drop i ds)) hs) gs i g in_gs ∙ ap (λ h. binders c b (map view_var (drop i ds)) (h ∷ drop (i + 1) gs)) (sym is_g)
      ∙ at_drop_more (λ es. binders c b (map view_var es) (g ∷ drop (i + 1) gs)) ds i d in_ds
      ∙ ap (λ e. binders c b (map view_var (e ∷ drop (i + 1) ds)) (g ∷ drop (i + 1) gs)) (sym is_d)

  one_behind : (os : List Over) (o : Over) (a : Answer (List Over × Bound)) → behind (os ++ o ∷ []) a ≡ behind os (after a (λ r. Ok (o ∷ r.0, r.1)))
  one_behind os o (Ok r) = ap (λ us. Ok (us, r.1)) (append_assoc os (o ∷ []) r.0)
  one_behind os o (Err e) = refl

  pub binder_turn : (b b' : Bound) (ds : List VarDecl) (gs : List (Option Guard)) (i : ℕ) (d : VarDecl) (g : Option Guard) (os more : List Over) (o : Over) (whole : Answer (List Over × Bound)) → i < length gs → i < length ds
      → g ≡ get_or gs i g → d ≡ get_or ds i d → one_binder c b (view_var d) g ≡ Ok (o, b') → more ≡ os ++ o ∷ []
      → behind os (binders c b (map view_var (drop i ds)) (drop i gs)) ≡ whole → behind more (binders c b' (map view_var (drop (i + 1) ds)) (drop (i + 1) gs)) ≡ whole
  binder_turn b b' ds gs i d g os more o whole in_gs in_ds is_g is_d made grown so_far =
      let rest : Bound → Answer (List Over × Bound) = λ k. binders c k (map view_var (drop (i + 1) ds)) (drop (i + 1) gs) in
      ap (λ us. behind us (rest b')) grown ∙ one_behind os o (rest b') ∙ ap (λ x. behind os (after x (λ u. after (rest u.1) (λ r. Ok (u.0 ∷ r.0, r.1))))) (sym made)
      ∙ ap (behind os) (sym (one_left b ds gs i d g in_gs in_ds is_g is_d)) ∙ so_far

  pub binder_fault : {V W : Type 0} (see : V → Over × Bound) (see' : W → List Over × Bound) (b : Bound) (ds : List VarDecl) (gs : List (Option Guard)) (i : ℕ) (d : VarDecl) (g : Option Guard) (os : List Over) (x : Stop)
      (whole : Answer (List Over × Bound)) → i < length gs → i < length ds → g ≡ get_or gs i g → d ≡ get_or ds i d → Gives see (Err x) (one_binder c b (view_var d) g)
      → behind os (binders c b (map view_var (drop i ds)) (drop i gs)) ≡ whole → Gives see' (Err x) whole
  binder_fault see see' b ds gs i d g os (stop.Refused e) whole in_gs in_ds is_g is_d fault so_far =
      let rest : Bound → Answer (List Over × Bound) = λ k. binders c k (map view_var (drop (i + 1) ds)) (drop (i + 1) gs) in
      sym so_far ∙ ap (behind os) (one_left b ds gs i d g in_gs in_ds is_g is_d) ∙ ap (λ y. behind os (after y (λ u. after (rest u.1) (λ r. Ok (u.0 ∷ r.0, r.1))))) fault
  binder_fault see see' b ds gs i d g os stop.NoMemory whole in_gs in_ds is_g is_d fault so_far = tt

  pub binders_done : (b : Bound) (ds : List VarDecl) (gs : List (Option Guard)) (i : ℕ) (os : List Over) (whole : Answer (List Over × Bound)) → length ds ≤ i
      → behind os (binders c b (map view_var (drop i ds)) (drop i gs)) ≡ whole → whole ≡ Ok (os, b)
  binders_done b ds gs i os whole all so_far =
      sym so_far ∙ at_drop_all (λ es. behind os (binders c b (map view_var es) (drop i gs))) ds i all ∙ ap (behind os) (no_binder b (drop i gs)) ∙ ap (λ us. Ok (us, b)) (append-nil os)

  no_guard : (b : Bound) (ds : List VarDecl) → binders c b (map view_var ds) [] ≡ Ok ([], b)
  no_guard b [] = refl
  no_guard b (d ∷ ds) = refl

  pub guards_done : (b : Bound) (ds : List VarDecl) (gs : List (Option Guard)) (i : ℕ) (os : List Over) (whole : Answer (List Over × Bound)) → length gs ≤ i
      → behind os (binders c b (map view_var (drop i ds)) (drop i gs)) ≡ whole → whole ≡ Ok (os, b)
  guards_done b ds gs i os whole all so_far =
      sym so_far ∙ at_drop_all (λ hs. behind os (binders c b (map view_var (drop i ds)) hs)) gs i all ∙ ap (behind os) (no_guard b (drop i ds)) ∙ ap (λ us. Ok (us, b)) (append-nil os)

pub ruleset binder_laws = (binder_turn, binder_fault, binders_done, guards_done)
