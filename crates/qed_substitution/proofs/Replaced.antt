-- A term put in the places of a name, by the variant of the term or formula.
use Rattle.std.proofs.Common.{◌≡◌, ℕ, List, [], ◌∷◌, map, refl, sym, ◌∙◌, ap}
use Rattle.qed_terms.specs.declared.head.Head.TheVariants as h
use Rattle.qed_terms.specs.declared.head.TermOp.{TermOp}
use Rattle.qed_terms.specs.declared.head.FormOp.{FormOp}
use Rattle.qed_terms.specs.declared.term.Term.{Term}
use Rattle.qed_terms.specs.declared.term.Term.TheVariants as t
use Rattle.qed_terms.specs.declared.term.Formula.{Formula}
use Rattle.qed_terms.specs.declared.term.Formula.TheVariants as f
use Rattle.qed_terms.specs.Tree.{Tree, node, more, trees_of}
use Rattle.qed_terms.specs.View.{term_tree, formula_tree}
use Rattle.qed_terms.proofs.Equations.{term_tree-Op, term_tree-App, formula_tree-Rel, formula_tree-And, formula_tree-Or}
use Rattle.qed_substitution.specs.Substitution.{replace, replace_all}

module _ (x : List ℕ) (u : Tree) where
  replace_all_of : {X : Type 0} (view : X → Tree) (ts : List X) → replace_all x u (trees_of (map view ts)) ≡ trees_of (map (λ t. replace x u (view t)) ts)
  replace_all_of view [] = refl
  replace_all_of view (t ∷ ts) = ap (more (replace x u (view t))) (replace_all_of view ts)

  pub replace_op : (o : TermOp) (ts us : List Term) → map term_tree us ≡ map (λ t. replace x u (term_tree t)) ts → term_tree (t.Op o us) ≡ replace x u (term_tree (t.Op o ts))
  replace_op o ts us e = term_tree-Op o us ∙ ap (node (h.Term o)) (ap trees_of e ∙ sym (replace_all_of term_tree ts)) ∙ sym (ap (replace x u) (term_tree-Op o ts))

  pub replace_app : (g : List ℕ) (ts us : List Term) → map term_tree us ≡ map (λ t. replace x u (term_tree t)) ts → term_tree (t.App g us) ≡ replace x u (term_tree (t.App g ts))
  replace_app g ts us e = term_tree-App g us ∙ ap (node (h.App g)) (ap trees_of e ∙ sym (replace_all_of term_tree ts)) ∙ sym (ap (replace x u) (term_tree-App g ts))

  pub replace_rel : (o : FormOp) (ts us : List Term) → map term_tree us ≡ map (λ t. replace x u (term_tree t)) ts → formula_tree (f.Rel o us) ≡ replace x u (formula_tree (f.Rel o ts))
  replace_rel o ts us e = formula_tree-Rel o us ∙ ap (node (h.Form o)) (ap trees_of e ∙ sym (replace_all_of term_tree ts)) ∙ sym (ap (replace x u) (formula_tree-Rel o ts))

  pub replace_and : (fs gs : List Formula) → map formula_tree gs ≡ map (λ f. replace x u (formula_tree f)) fs → formula_tree (f.And gs) ≡ replace x u (formula_tree (f.And fs))
  replace_and fs gs e = formula_tree-And gs ∙ ap (node h.And) (ap trees_of e ∙ sym (replace_all_of formula_tree fs)) ∙ sym (ap (replace x u) (formula_tree-And fs))

  pub replace_or : (fs gs : List Formula) → map formula_tree gs ≡ map (λ f. replace x u (formula_tree f)) fs → formula_tree (f.Or gs) ≡ replace x u (formula_tree (f.Or fs))
  replace_or fs gs e = formula_tree-Or gs ∙ ap (node h.Or) (ap trees_of e ∙ sym (replace_all_of formula_tree fs)) ∙ sym (ap (replace x u) (formula_tree-Or fs))
