-- The guards among conjuncts, gathered one by one.
use Rattle.std.proofs.Common.{◌≡◌, ℕ, ◌+◌, ◌<◌, List, ◌∷◌, ◌++◌, map, length, drop, get_or, sym, ap, ◌∙◌, append_assoc}
use Rattle.std.specs.Borrow.{Bor}
use Rattle.std.proofs.lemmas.List.{drop-map, drop_more}
use Rattle.c_syntax.specs.declared.annot.Pred.{Pred}
use Rattle.c_syntax.specs.View.{view_pred}
use Rattle.acsl_guards.specs.Mentions.{Names}
use Rattle.acsl_guards.specs.Guarding.{Candidate, chain_of, if_guard, candidates}
use Rattle.acsl_guards.specs.Parts.{pointed, preds_in}

module _ (bs : Names) (l : List (Bor Pred)) (n : ℕ) (p : Bor Pred) where
  next_is : n < length l → p ≡ get_or l n p → drop n (preds_in l) ≡ view_pred p.now ∷ drop (n + 1) (preds_in l)
  next_is below is =
      drop-map view_pred n (pointed l) ∙ ap (map view_pred) (drop-map (λ x. x.now) n l ∙ ap (map (λ x. x.now)) (drop_more l n p below))
      ∙ (λ i. view_pred (sym is i).now ∷ map view_pred (sym (drop-map (λ x. x.now) (n + 1) l) i)) ∙ ap (λ ps. view_pred p.now ∷ ps) (sym (drop-map view_pred (n + 1) (pointed l)))

  pub candidate_turn : (found found' whole : List Candidate) → n < length l → p ≡ get_or l n p → found' ≡ found ++ if_guard bs n (chain_of (view_pred p.now))
      → found ++ candidates bs n (drop n (preds_in l)) ≡ whole → found' ++ candidates bs (n + 1) (drop (n + 1) (preds_in l)) ≡ whole
  candidate_turn found found' whole below is put sofar =
      ap (λ cs. cs ++ candidates bs (n + 1) (drop (n + 1) (preds_in l))) put ∙ append_assoc found (if_guard bs n (chain_of (view_pred p.now))) (candidates bs (n + 1) (drop (n + 1) (preds_in l)))
      ∙ ap (λ ps. found ++ candidates bs n ps) (sym (next_is below is)) ∙ sofar
