-- The tree of a term or a formula, by its variant.
use Rattle.std.proofs.Common.{◌≡◌, ℤ, List, ℕ, map, ap, sym, ◌∙◌}
use Rattle.qed_terms.specs.declared.head.Sort.{Sort}
use Rattle.qed_terms.specs.declared.head.Head.TheVariants as h
use Rattle.qed_terms.specs.declared.head.TermOp.{TermOp}
use Rattle.qed_terms.specs.declared.head.FormOp.{FormOp}
use Rattle.qed_terms.specs.declared.term.Term.{Term, Term-F, fold-roll-Term}
use Rattle.qed_terms.specs.declared.term.Term.TheVariants as term
use Rattle.qed_terms.specs.declared.term.Formula.{Formula, Formula-F, fold-roll-Formula}
use Rattle.qed_terms.specs.declared.term.Formula.TheVariants as formula
use Rattle.qed_terms.specs.Tree.{Tree, node, stop, trees_of, one, two, three}
use Rattle.qed_terms.specs.View.{term_tree, term_layer, formula_tree, formula_layer}

pub term_tree-Num : (z : ℤ) → term_tree (term.Num z) ≡ node (h.Num z) stop
unfolding term_tree formula_tree
term_tree-Num z = ap term_tree (sym (term.rolls-Num z)) ∙ fold-roll-Term Tree Tree formula_layer term_layer (Term-F.Num z)

pub term_tree-Var : (x : List ℕ) (s : Sort) → term_tree (term.Var x s) ≡ node (h.Var x s) stop
unfolding term_tree formula_tree
term_tree-Var x s = ap term_tree (sym (term.rolls-Var x s)) ∙ fold-roll-Term Tree Tree formula_layer term_layer (Term-F.Var x s)

pub term_tree-Op : (op : TermOp) (kids : List Term) → term_tree (term.Op op kids) ≡ node (h.Term op) (trees_of (map term_tree kids))
unfolding term_tree formula_tree
term_tree-Op op kids = ap term_tree (sym (term.rolls-Op op kids)) ∙ fold-roll-Term Tree Tree formula_layer term_layer (Term-F.Op op kids)

pub term_tree-Ite : (f : Formula) (t u : Term) → term_tree (term.Ite f t u) ≡ node h.Ite (three (formula_tree f) (term_tree t) (term_tree u))
unfolding term_tree formula_tree
term_tree-Ite f t u = ap term_tree (sym (term.rolls-Ite f t u)) ∙ fold-roll-Term Tree Tree formula_layer term_layer (Term-F.Ite f t u)

pub term_tree-App : (f : List ℕ) (kids : List Term) → term_tree (term.App f kids) ≡ node (h.App f) (trees_of (map term_tree kids))
unfolding term_tree formula_tree
term_tree-App f kids = ap term_tree (sym (term.rolls-App f kids)) ∙ fold-roll-Term Tree Tree formula_layer term_layer (Term-F.App f kids)

pub formula_tree-True : formula_tree formula.True ≡ node h.True stop
unfolding term_tree formula_tree
formula_tree-True = ap formula_tree (sym formula.rolls-True) ∙ fold-roll-Formula Tree Tree formula_layer term_layer Formula-F.True

pub formula_tree-False : formula_tree formula.False ≡ node h.False stop
unfolding term_tree formula_tree
formula_tree-False = ap formula_tree (sym formula.rolls-False) ∙ fold-roll-Formula Tree Tree formula_layer term_layer Formula-F.False

pub formula_tree-Rel : (op : FormOp) (kids : List Term) → formula_tree (formula.Rel op kids) ≡ node (h.Form op) (trees_of (map term_tree kids))
unfolding term_tree formula_tree
formula_tree-Rel op kids = ap formula_tree (sym (formula.rolls-Rel op kids)) ∙ fold-roll-Formula Tree Tree formula_layer term_layer (Formula-F.Rel op kids)

pub formula_tree-Not : (f : Formula) → formula_tree (formula.Not f) ≡ node h.Not (one (formula_tree f))
unfolding term_tree formula_tree
formula_tree-Not f = ap formula_tree (sym (formula.rolls-Not f)) ∙ fold-roll-Formula Tree Tree formula_layer term_layer (Formula-F.Not f)

pub formula_tree-And : (fs : List Formula) → formula_tree (formula.And fs) ≡ node h.And (trees_of (map formula_tree fs))
unfolding term_tree formula_tree
formula_tree-And fs = ap formula_tree (sym (formula.rolls-And fs)) ∙ fold-roll-Formula Tree Tree formula_layer term_layer (Formula-F.And fs)

pub formula_tree-Or : (fs : List Formula) → formula_tree (formula.Or fs) ≡ node h.Or (trees_of (map formula_tree fs))
unfolding term_tree formula_tree
formula_tree-Or fs = ap formula_tree (sym (formula.rolls-Or fs)) ∙ fold-roll-Formula Tree Tree formula_layer term_layer (Formula-F.Or fs)

pub formula_tree-Imp : (f g : Formula) → formula_tree (formula.Imp f g) ≡ node h.Imp (two (formula_tree f) (formula_tree g))
unfolding term_tree formula_tree
formula_tree-Imp f g = ap formula_tree (sym (formula.rolls-Imp f g)) ∙ fold-roll-Formula Tree Tree formula_layer term_layer (Formula-F.Imp f g)

pub formula_tree-Iff : (f g : Formula) → formula_tree (formula.Iff f g) ≡ node h.Iff (two (formula_tree f) (formula_tree g))
unfolding term_tree formula_tree
formula_tree-Iff f g = ap formula_tree (sym (formula.rolls-Iff f g)) ∙ fold-roll-Formula Tree Tree formula_layer term_layer (Formula-F.Iff f g)

pub formula_tree-Forall : (x : List ℕ) (t u : Term) (f : Formula) → formula_tree (formula.Forall x t u f) ≡ node (h.Forall x) (three (term_tree t) (term_tree u) (formula_tree f))
unfolding term_tree formula_tree
formula_tree-Forall x t u f = ap formula_tree (sym (formula.rolls-Forall x t u f)) ∙ fold-roll-Formula Tree Tree formula_layer term_layer (Formula-F.Forall x t u f)

pub formula_tree-Exists : (x : List ℕ) (t u : Term) (f : Formula) → formula_tree (formula.Exists x t u f) ≡ node (h.Exists x) (three (term_tree t) (term_tree u) (formula_tree f))
unfolding term_tree formula_tree
formula_tree-Exists x t u f = ap formula_tree (sym (formula.rolls-Exists x t u f)) ∙ fold-roll-Formula Tree Tree formula_layer term_layer (Formula-F.Exists x t u f)

-- all of them, to be named on a function whose clauses speak of trees
pub ruleset tree_laws = (term_tree-Num, term_tree-Var, term_tree-Op, term_tree-Ite, term_tree-App, formula_tree-True, formula_tree-False, formula_tree-Rel, formula_tree-Not, formula_tree-And, formula_tree-Or, formula_tree-Imp, formula_tree-Iff, formula_tree-Forall, formula_tree-Exists)
