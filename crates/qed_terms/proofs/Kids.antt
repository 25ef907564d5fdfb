-- The kids of a term or a formula, by its variant.
use Rattle.std.proofs.Common.{◌≡◌, ℕ, List, map, length, get_or, ◌<◌, ap, sym, ◌∙◌}
use Rattle.std.proofs.lemmas.List.{length-map, get_or-map}
use Rattle.qed_terms.specs.declared.head.TermOp.{TermOp}
use Rattle.qed_terms.specs.declared.head.FormOp.{FormOp}
use Rattle.qed_terms.specs.declared.term.Term.{Term}
use Rattle.qed_terms.specs.declared.term.Term.TheVariants as term
use Rattle.qed_terms.specs.declared.term.Formula.{Formula}
use Rattle.qed_terms.specs.declared.term.Formula.TheVariants as formula
use Rattle.qed_terms.specs.Tree.{Tree, true_tree}
use Rattle.qed_terms.specs.Nodes.{kids_of}
use Rattle.qed_terms.specs.View.{term_tree, formula_tree}
use Rattle.qed_terms.proofs.Equations.{term_tree-Op, term_tree-App, formula_tree-Rel, formula_tree-And, formula_tree-Or}
use Rattle.qed_terms.proofs.Lists.{list_of-trees_of}

pub kids-Op : (op : TermOp) (ts : List Term) → kids_of (term_tree (term.Op op ts)) ≡ map term_tree ts
kids-Op op ts = ap kids_of (term_tree-Op op ts) ∙ list_of-trees_of (map term_tree ts)

pub kids-App : (f : List ℕ) (ts : List Term) → kids_of (term_tree (term.App f ts)) ≡ map term_tree ts
kids-App f ts = ap kids_of (term_tree-App f ts) ∙ list_of-trees_of (map term_tree ts)

pub kids-Rel : (op : FormOp) (ts : List Term) → kids_of (formula_tree (formula.Rel op ts)) ≡ map term_tree ts
kids-Rel op ts = ap kids_of (formula_tree-Rel op ts) ∙ list_of-trees_of (map term_tree ts)

pub kids-And : (fs : List Formula) → kids_of (formula_tree (formula.And fs)) ≡ map formula_tree fs
kids-And fs = ap kids_of (formula_tree-And fs) ∙ list_of-trees_of (map formula_tree fs)

pub kids-Or : (fs : List Formula) → kids_of (formula_tree (formula.Or fs)) ≡ map formula_tree fs
kids-Or fs = ap kids_of (formula_tree-Or fs) ∙ list_of-trees_of (map formula_tree fs)

pub count-Op : (op : TermOp) (ts : List Term) → length (kids_of (term_tree (term.Op op ts))) ≡ length ts
count-Op op ts = ap length (kids-Op op ts) ∙ length-map ts term_tree

pub count-App : (f : List ℕ) (ts : List Term) → length (kids_of (term_tree (term.App f ts))) ≡ length ts
count-App f ts = ap length (kids-App f ts) ∙ length-map ts term_tree

pub count-Rel : (op : FormOp) (ts : List Term) → length (kids_of (formula_tree (formula.Rel op ts))) ≡ length ts
count-Rel op ts = ap length (kids-Rel op ts) ∙ length-map ts term_tree

pub count-And : (fs : List Formula) → length (kids_of (formula_tree (formula.And fs))) ≡ length fs
count-And fs = ap length (kids-And fs) ∙ length-map fs formula_tree

pub count-Or : (fs : List Formula) → length (kids_of (formula_tree (formula.Or fs))) ≡ length fs
count-Or fs = ap length (kids-Or fs) ∙ length-map fs formula_tree

-- the kid at a place
pub mapped : {X : Type 0} (f : X → Tree) (xs : List X) (i : ℕ) (x : X) → i < length xs → x ≡ get_or xs i x → get_or (map f xs) i true_tree ≡ f x
mapped f xs i x k e = get_or-map f xs i x true_tree k ∙ ap f (sym e)

pub ruleset kid_laws = (kids-Op, kids-App, kids-Rel, kids-And, kids-Or, count-Op, count-App, count-Rel, count-And, count-Or)
