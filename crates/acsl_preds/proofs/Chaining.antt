-- The terms of a chain, one after another.
use Rattle.std.proofs.Common.{◌≡◌, ℕ, ◌+◌, ◌<◌, ◌≤◌, List, [], ◌∷◌, ◌++◌, map, length, drop, get_or, Ok, Err, refl, sym, ap, ◌∙◌, append_assoc, append-nil}
use Rattle.std.proofs.lemmas.List.{at_drop_more, at_drop_all, map_push}
use Rattle.wp_base.specs.declared.answers.Stop.{Stop}
use Rattle.wp_base.specs.declared.answers.Stop.TheVariants as stop
use Rattle.c_syntax.specs.declared.annot.Term.{Term}
use Rattle.c_syntax.specs.View.{view_term}
use Rattle.c_answers.specs.Answers.{Answer, after, Gives}
use Rattle.acsl_trees.specs.declared.operands.Operand.{Operand as Code}
use Rattle.acsl_trees.specs.Operands.{Operand, view_operand}
use Rattle.acsl_names.specs.declared.names.Bound.{Bound}
use Rattle.acsl_names.specs.declared.names.Reading.{Reading}
use Rattle.acsl_names.specs.declared.counting.Count.{Count}
use Rattle.acsl_names.specs.Names.{Around}
use Rattle.acsl_terms.specs.Terms.{typed}
use Rattle.acsl_preds.specs.Preds.{all_typed, onto}

module _ (c : Around) (b : Bound) (r : Reading) where
  first_left : (n : Count) (ts : List Term) (i : ℕ) (a : Term) → i < length ts → a ≡ get_or ts i a
      → all_typed c b r n (map view_term (drop i ts)) ≡ after (typed c b r n (view_term a)) (λ x. after (all_typed c b r x.1 (map view_term (drop (i + 1) ts))) (λ xs. Ok (x.0 ∷ xs.0, xs.1)))
  first_left n ts i a inside is = at_drop_more (λ us. all_typed c b r n (map view_term us)) ts i a inside ∙ ap (λ u. all_typed c b r n (map view_term (u ∷ drop (i + 1) ts))) (sym is)

  one_onto : (xs : List Operand) (x : Operand) (o : Answer (List Operand × Count)) → onto (xs ++ x ∷ []) o ≡ onto xs (after o (λ ys. Ok (x ∷ ys.0, ys.1)))
  one_onto xs x (Ok ys) = ap (λ us. Ok (us, ys.1)) (append_assoc xs (x ∷ []) ys.0)
  one_onto xs x (Err e) = refl

  pub chain_turn : (n m : Count) (ts : List Term) (i : ℕ) (a : Term) (xs more : List Code) (x : Code) (whole : Answer (List Operand × Count)) → i < length ts → a ≡ get_or ts i a → typed c b r n (view_term a) ≡ Ok (view_operand x, m)
      → more ≡ xs ++ x ∷ [] → onto (map view_operand xs) (all_typed c b r n (map view_term (drop i ts))) ≡ whole → onto (map view_operand more) (all_typed c b r m (map view_term (drop (i + 1) ts))) ≡ whole
  chain_turn n m ts i a xs more x whole inside is made grown so_far =
      let rest : Count → Answer (List Operand × Count) = λ k. all_typed c b r k (map view_term (drop (i + 1) ts)) in
      ap (λ us. onto us (rest m)) (ap (map view_operand) grown ∙ map_push view_operand xs x) ∙ one_onto (map view_operand xs) (view_operand x) (rest m)
      ∙ ap (λ o. onto (map view_operand xs) (after o (λ u. after (rest u.1) (λ us. Ok (u.0 ∷ us.0, us.1))))) (sym made)
      ∙ ap (onto (map view_operand xs)) (sym (first_left n ts i a inside is)) ∙ so_far

  pub chain_fault : {V W : Type 0} (see : V → Operand × Count) (see' : W → List Operand × Count) (n : Count) (ts : List Term) (i : ℕ) (a : Term) (xs : List Operand) (e : Stop) (whole : Answer (List Operand × Count))
      → i < length ts → a ≡ get_or ts i a → Gives see (Err e) (typed c b r n (view_term a)) → onto xs (all_typed c b r n (map view_term (drop i ts))) ≡ whole → Gives see' (Err e) whole
  chain_fault see see' n ts i a xs (stop.Refused e) whole inside is fault so_far =
      sym so_far ∙ ap (onto xs) (first_left n ts i a inside is) ∙ ap (λ o. onto xs (after o (λ u. after (all_typed c b r u.1 (map view_term (drop (i + 1) ts))) (λ us. Ok (u.0 ∷ us.0, us.1))))) fault
  chain_fault see see' n ts i a xs stop.NoMemory whole inside is fault so_far = tt

  pub chain_done : (n : Count) (ts : List Term) (i : ℕ) (xs : List Operand) (whole : Answer (List Operand × Count)) → length ts ≤ i → onto xs (all_typed c b r n (map view_term (drop i ts))) ≡ whole → whole ≡ Ok (xs, n)
  chain_done n ts i xs whole all so_far =
      sym so_far ∙ at_drop_all (λ us. onto xs (all_typed c b r n (map view_term us))) ts i all ∙ ap (λ us. Ok (us, n)) (append-nil xs)

pub ruleset chain_laws = (chain_turn, chain_fault, chain_done)
