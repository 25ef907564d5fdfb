-- Arguments in the places of parameters, by the variant of the term or formula.
use Rattle.std.proofs.Common.{◌≡◌, ℕ, List, [], ◌∷◌, map, refl, sym, ◌∙◌, ap}
use Rattle.qed_terms.specs.declared.head.Head.TheVariants as h
use Rattle.qed_terms.specs.declared.head.TermOp.{TermOp}
use Rattle.qed_terms.specs.declared.head.FormOp.{FormOp}
use Rattle.qed_terms.specs.declared.term.Term.{Term}
use Rattle.qed_terms.specs.declared.term.Term.TheVariants as t
use Rattle.qed_terms.specs.declared.term.Formula.{Formula}
use Rattle.qed_terms.specs.declared.term.Formula.TheVariants as f
use Rattle.qed_terms.specs.Tree.{Tree, node, Trees, more, trees_of}
use Rattle.qed_terms.specs.View.{term_tree, formula_tree}
use Rattle.qed_terms.proofs.Equations.{term_tree-Op, term_tree-App, formula_tree-Rel, formula_tree-And, formula_tree-Or}
use Rattle.qed_terms.specs.Setting.{Param}
use Rattle.qed_calls.specs.Calls.{with_arguments, all_with_arguments}

module _ (ps : List Param) (ks : Trees) where
  place_all_of : {X : Type 0} (view : X → Tree) (ts : List X) → all_with_arguments ps ks (trees_of (map view ts)) ≡ trees_of (map (λ t. with_arguments ps ks (view t)) ts)
  place_all_of view [] = refl
  place_all_of view (t ∷ ts) = ap (more (with_arguments ps ks (view t))) (place_all_of view ts)

  pub place_op : (o : TermOp) (ts us : List Term) → map term_tree us ≡ map (λ t. with_arguments ps ks (term_tree t)) ts → term_tree (t.Op o us) ≡ with_arguments ps ks (term_tree (t.Op o ts))
  place_op o ts us e = term_tree-Op o us ∙ ap (node (h.Term o)) (ap trees_of e ∙ sym (place_all_of term_tree ts)) ∙ sym (ap (with_arguments ps ks) (term_tree-Op o ts))

  pub place_app : (g : List ℕ) (ts us : List Term) → map term_tree us ≡ map (λ t. with_arguments ps ks (term_tree t)) ts → term_tree (t.App g us) ≡ with_arguments ps ks (term_tree (t.App g ts))
  place_app g ts us e = term_tree-App g us ∙ ap (node (h.App g)) (ap trees_of e ∙ sym (place_all_of term_tree ts)) ∙ sym (ap (with_arguments ps ks) (term_tree-App g ts))

  pub place_rel : (o : FormOp) (ts us : List Term) → map term_tree us ≡ map (λ t. with_arguments ps ks (term_tree t)) ts → formula_tree (f.Rel o us) ≡ with_arguments ps ks (formula_tree (f.Rel o ts))
  place_rel o ts us e = formula_tree-Rel o us ∙ ap (node (h.Form o)) (ap trees_of e ∙ sym (place_all_of term_tree ts)) ∙ sym (ap (with_arguments ps ks) (formula_tree-Rel o ts))

  pub place_and : (fs gs : List Formula) → map formula_tree gs ≡ map (λ f. with_arguments ps ks (formula_tree f)) fs → formula_tree (f.And gs) ≡ with_arguments ps ks (formula_tree (f.And fs))
  place_and fs gs e = formula_tree-And gs ∙ ap (node h.And) (ap trees_of e ∙ sym (place_all_of formula_tree fs)) ∙ sym (ap (with_arguments ps ks) (formula_tree-And fs))

  pub place_or : (fs gs : List Formula) → map formula_tree gs ≡ map (λ f. with_arguments ps ks (formula_tree f)) fs → formula_tree (f.Or gs) ≡ with_arguments ps ks (formula_tree (f.Or fs))
  place_or fs gs e = formula_tree-Or gs ∙ ap (node h.Or) (ap trees_of e ∙ sym (place_all_of formula_tree fs)) ∙ sym (ap (with_arguments ps ks) (formula_tree-Or fs))
