-- Parameters, one after another, and the names behind them.
use Rattle.std.proofs.Common.{◌≡◌, ℕ, ◌+◌, ◌<◌, ◌≤◌, List, ◌∷◌, map, length, drop, get_or, Ok, Err, sym, ap, ◌∙◌}
use Rattle.std.proofs.lemmas.List.{at_drop_more, at_drop_all}
use Rattle.wp_base.specs.declared.answers.Stop.{Stop}
use Rattle.wp_base.specs.declared.answers.Stop.TheVariants as stop
use Rattle.c_syntax.specs.declared.decl.VarDecl.{VarDecl}
use Rattle.c_syntax.specs.View.{view_var}
use Rattle.c_answers.specs.Answers.{Answer, after, Gives}
use Rattle.acsl_names.specs.declared.names.Bound.{Bound}
use Rattle.acsl_names.specs.Names.{Around}
use Rattle.acsl_definitions.specs.Definitions.{param_typed, params_typed}

module _ (c : Around) where
  one_left : (b : Bound) (ps : List VarDecl) (i : ℕ) (p : VarDecl) → i < length ps → p ≡ get_or ps i p
      → params_typed c b (map view_var (drop i ps)) ≡ after (param_typed c b (view_var p)) (λ b'. params_typed c b' (map view_var (drop (i + 1) ps)))
  one_left b ps i p in_ps is_p =
      at_drop_more (λ qs. params_typed c b (map view_var qs)) ps i p in_ps ∙ ap (λ q. params_typed c b (map view_var (q ∷ drop (i + 1) ps))) (sym is_p)

  pub param_turn : (b b' : Bound) (ps : List VarDecl) (i : ℕ) (p : VarDecl) (whole : Answer Bound) → i < length ps → p ≡ get_or ps i p
      → param_typed c b (view_var p) ≡ Ok b' → params_typed c b (map view_var (drop i ps)) ≡ whole → params_typed c b' (map view_var (drop (i + 1) ps)) ≡ whole
  param_turn b b' ps i p whole in_ps is_p made so_far =
      ap (λ a. after a (λ k. params_typed c k (map view_var (drop (i + 1) ps)))) (sym made) ∙ sym (one_left b ps i p in_ps is_p) ∙ so_far

  pub param_fault : {V W : Type 0} (see : V → Bound) (see' : W → Bound) (b : Bound) (ps : List VarDecl) (i : ℕ) (p : VarDecl) (x : Stop) (whole : Answer Bound)
      → i < length ps → p ≡ get_or ps i p → Gives see (Err x) (param_typed c b (view_var p)) → params_typed c b (map view_var (drop i ps)) ≡ whole → Gives see' (Err x) whole
  param_fault see see' b ps i p (stop.Refused e) whole in_ps is_p fault so_far =
      sym so_far ∙ one_left b ps i p in_ps is_p ∙ ap (λ a. after a (λ k. params_typed c k (map view_var (drop (i + 1) ps)))) fault
  param_fault see see' b ps i p stop.NoMemory whole in_ps is_p fault so_far = tt

  pub params_done : (b : Bound) (ps : List VarDecl) (i : ℕ) (whole : Answer Bound) → length ps ≤ i
      → params_typed c b (map view_var (drop i ps)) ≡ whole → whole ≡ Ok b
  params_done b ps i whole all so_far = sym so_far ∙ at_drop_all (λ qs. params_typed c b (map view_var qs)) ps i all

pub ruleset param_laws = (param_turn, params_done)
