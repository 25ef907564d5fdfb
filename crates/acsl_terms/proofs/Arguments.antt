-- The arguments of a call, one after another.
use Rattle.std.proofs.Common.{◌≡◌, ℕ, ◌+◌, ◌<◌, ◌≤◌, List, [], ◌∷◌, ◌++◌, map, length, drop, get_or, Result, Ok, Err, refl, sym, ap, ◌∙◌, append_assoc, append-nil}
use Rattle.std.proofs.lemmas.List.{at_drop_more, at_drop_all}
use Rattle.wp_base.specs.declared.answers.Stop.{Stop}
use Rattle.wp_base.specs.declared.answers.Stop.TheVariants as stop
use Rattle.c_syntax.specs.declared.annot.Term.{Term}
use Rattle.c_syntax.specs.Term as t
use Rattle.c_syntax.specs.View.{view_term}
use Rattle.c_answers.specs.Answers.{Answer, after, Gives}
use Rattle.acsl_trees.specs.declared.operands.TermType.{TermType}
use Rattle.acsl_trees.specs.Tree.{Tree}
use Rattle.acsl_trees.specs.Operands.{Operand}
use Rattle.acsl_names.specs.declared.names.Bound.{Bound}
use Rattle.acsl_names.specs.declared.names.Reading.{Reading}
use Rattle.acsl_names.specs.declared.counting.Count.{Count}
use Rattle.acsl_names.specs.Names.{Around}
use Rattle.acsl_names.specs.Weights.{args_of}
use Rattle.acsl_terms.specs.Terms.{typed, argument, typed_for, typed_all, behind}

module _ (c : Around) (b : Bound) (r : Reading) where
  -- ---- for parameters

  no_argument : (n : Count) (types : List TermType) → typed_for c b r n types t.stop ≡ Ok ([], n)
  no_argument n [] = refl
  no_argument n (type ∷ types) = refl

  no_parameter : (n : Count) (args : t.Terms) → typed_for c b r n [] args ≡ Ok ([], n)
  no_parameter n t.stop = refl
  no_parameter n (t.more a rest) = refl

  -- what is left begins with an argument for a parameter
  one_left : (n : Count) (types : List TermType) (args : List Term) (i : ℕ) (type : TermType) (arg : Term) → i < length types → i < length args → type ≡ get_or types i type → arg ≡ get_or args i arg
      → typed_for c b r n (drop i types) (args_of (drop i args))
      ≡ after (argument c b r n type (view_term arg)) (λ v. after (typed_for c b r v.1 (drop (i + 1) types) (args_of (drop (i + 1) args))) (λ vs. Ok (v.0 ∷ vs.0, vs.1)))
  one_left n types args i type arg in_types in_args is_type is_arg =
      at_drop_more (λ ts. typed_for c b r n ts (args_of (drop i args))) types i type in_types ∙ ap (λ u. typed_for c b r n (u ∷ drop (i + 1) types) (args_of (drop i args))) (sym is_type)
      ∙ at_drop_more (λ xs. typed_for c b r n (type ∷ drop (i + 1) types) (args_of xs)) args i arg in_args
      ∙ ap (λ x. typed_for c b r n (type ∷ drop (i + 1) types) (args_of (x ∷ drop (i + 1) args))) (sym is_arg)

  one_behind : (vs : List Tree) (v : Tree) (o : Answer (List Tree × Count)) → behind (vs ++ v ∷ []) o ≡ behind vs (after o (λ ws. Ok (v ∷ ws.0, ws.1)))
  one_behind vs v (Ok ws) = ap (λ us. Ok (us, ws.1)) (append_assoc vs (v ∷ []) ws.0)
  one_behind vs v (Err e) = refl

  pub argument_turn : (n m : Count) (types : List TermType) (args : List Term) (i : ℕ) (type : TermType) (arg : Term) (vs more : List Tree) (v : Tree) (whole : Answer (List Tree × Count)) → i < length types → i < length args
      → type ≡ get_or types i type → arg ≡ get_or args i arg → argument c b r n type (view_term arg) ≡ Ok (v, m) → more ≡ vs ++ v ∷ []
      → behind vs (typed_for c b r n (drop i types) (args_of (drop i args))) ≡ whole → behind more (typed_for c b r m (drop (i + 1) types) (args_of (drop (i + 1) args))) ≡ whole
  argument_turn n m types args i type arg vs more v whole in_types in_args is_type is_arg made grown so_far =
      let rest : Count → Answer (List Tree × Count) = λ k. typed_for c b r k (drop (i + 1) types) (args_of (drop (i + 1) args)) in
      ap (λ us. behind us (rest m)) grown ∙ one_behind vs v (rest m) ∙ ap (λ o. behind vs (after o (λ u. after (rest u.1) (λ us. Ok (u.0 ∷ us.0, us.1))))) (sym made)
      ∙ ap (behind vs) (sym (one_left n types args i type arg in_types in_args is_type is_arg)) ∙ so_far

  pub argument_fault : {V W : Type 0} (see : V → Tree × Count) (see' : W → List Tree × Count) (n : Count) (types : List TermType) (args : List Term) (i : ℕ) (type : TermType) (arg : Term) (vs : List Tree) (x : Stop)
      (whole : Answer (List Tree × Count)) → i < length types → i < length args → type ≡ get_or types i type → arg ≡ get_or args i arg → Gives see (Err x) (argument c b r n type (view_term arg))
      → behind vs (typed_for c b r n (drop i types) (args_of (drop i args))) ≡ whole → Gives see' (Err x) whole
  argument_fault see see' n types args i type arg vs (stop.Refused e) whole in_types in_args is_type is_arg fault so_far =
      let rest : Count → Answer (List Tree × Count) = λ k. typed_for c b r k (drop (i + 1) types) (args_of (drop (i + 1) args)) in
      sym so_far ∙ ap (behind vs) (one_left n types args i type arg in_types in_args is_type is_arg) ∙ ap (λ o. behind vs (after o (λ u. after (rest u.1) (λ us. Ok (u.0 ∷ us.0, us.1))))) fault
  argument_fault see see' n types args i type arg vs stop.NoMemory whole in_types in_args is_type is_arg fault so_far = tt

  pub arguments_done : (n : Count) (types : List TermType) (args : List Term) (i : ℕ) (vs : List Tree) (whole : Answer (List Tree × Count)) → length args ≤ i
      → behind vs (typed_for c b r n (drop i types) (args_of (drop i args))) ≡ whole → whole ≡ Ok (vs, n)
  arguments_done n types args i vs whole all so_far =
      sym so_far ∙ at_drop_all (λ xs. behind vs (typed_for c b r n (drop i types) (args_of xs))) args i all ∙ ap (behind vs) (no_argument n (drop i types)) ∙ ap (λ us. Ok (us, n)) (append-nil vs)

  pub parameters_done : (n : Count) (types : List TermType) (args : List Term) (i : ℕ) (vs : List Tree) (whole : Answer (List Tree × Count)) → length types ≤ i
      → behind vs (typed_for c b r n (drop i types) (args_of (drop i args))) ≡ whole → whole ≡ Ok (vs, n)
  parameters_done n types args i vs whole all so_far =
      sym so_far ∙ at_drop_all (λ ts. behind vs (typed_for c b r n ts (args_of (drop i args)))) types i all ∙ ap (behind vs) (no_parameter n (args_of (drop i args))) ∙ ap (λ us. Ok (us, n)) (append-nil vs)

  -- ---- alone

  first_alone : (n : Count) (args : List Term) (i : ℕ) (arg : Term) → i < length args → arg ≡ get_or args i arg
      → typed_all c b r n (args_of (drop i args)) ≡ after (typed c b r n (view_term arg)) (λ x. typed_all c b r x.1 (args_of (drop (i + 1) args)))
  first_alone n args i arg in_args is_arg = at_drop_more (λ xs. typed_all c b r n (args_of xs)) args i arg in_args ∙ ap (λ x. typed_all c b r n (args_of (x ∷ drop (i + 1) args))) (sym is_arg)

  pub alone_turn : (n m : Count) (args : List Term) (i : ℕ) (arg : Term) (x : Operand) (whole : Answer Count) → i < length args → arg ≡ get_or args i arg → typed c b r n (view_term arg) ≡ Ok (x, m)
      → typed_all c b r n (args_of (drop i args)) ≡ whole → typed_all c b r m (args_of (drop (i + 1) args)) ≡ whole
  alone_turn n m args i arg x whole in_args is_arg made so_far =
      sym (first_alone n args i arg in_args is_arg ∙ ap (λ o. after o (λ y. typed_all c b r y.1 (args_of (drop (i + 1) args)))) made) ∙ so_far

  pub alone_fault : {V W : Type 0} (see : V → Operand × Count) (see' : W → Count) (n : Count) (args : List Term) (i : ℕ) (arg : Term) (x : Stop) (whole : Answer Count) → i < length args → arg ≡ get_or args i arg
      → Gives see (Err x) (typed c b r n (view_term arg)) → typed_all c b r n (args_of (drop i args)) ≡ whole → Gives see' (Err x) whole
  alone_fault see see' n args i arg (stop.Refused e) whole in_args is_arg fault so_far =
      sym so_far ∙ first_alone n args i arg in_args is_arg ∙ ap (λ o. after o (λ y. typed_all c b r y.1 (args_of (drop (i + 1) args)))) fault
  alone_fault see see' n args i arg stop.NoMemory whole in_args is_arg fault so_far = tt

  pub alone_done : (n : Count) (args : List Term) (i : ℕ) (whole : Answer Count) → length args ≤ i → typed_all c b r n (args_of (drop i args)) ≡ whole → whole ≡ Ok n
  alone_done n args i whole all so_far = sym so_far ∙ at_drop_all (λ xs. typed_all c b r n (args_of xs)) args i all

pub ruleset argument_laws = (argument_turn, argument_fault, arguments_done, parameters_done)

pub ruleset alone_laws = (alone_turn, alone_fault, alone_done)
