-- The form of a term where it fits, by the variant of the term.
use Rattle.std.proofs.Common.{◌≡◌, true, false, ℕ, ℤ, List, map, cond, refl, sym, ◌∙◌, ap, FitsSigned}
use Rattle.std.specs.Prelude.{Some, None}
use Rattle.std.specs.Int.{w128}
use Rattle.qed_terms.specs.declared.head.Head.TheVariants as h
use Rattle.qed_terms.specs.declared.head.Sort.{Sort}
use Rattle.qed_terms.specs.declared.head.TermOp.{TermOp}
use Rattle.qed_terms.specs.declared.head.TermOp.TheVariants as op
use Rattle.qed_terms.specs.declared.term.Formula.{Formula}
use Rattle.qed_terms.specs.declared.term.Term.{Term}
use Rattle.qed_terms.specs.declared.term.Term.TheVariants as t
use Rattle.qed_terms.specs.Tree.{node, Trees, trees_of}
use Rattle.qed_terms.specs.View.{term_tree}
use Rattle.qed_terms.proofs.Equations.{term_tree-Num, term_tree-Var, term_tree-Op, term_tree-Ite, term_tree-App}
use Rattle.qed_linear.specs.Linear.{number, atom_lin, op_form, to_lin, to_lins, is_linear, own_form}
use Rattle.qed_linear.proofs.SumSteps.{fits_from}
use Rattle.qed_linear.proofs.TermForms.{forms_of, to_lins_of}

pub own_linear : (o : TermOp) (ts : List Term) → is_linear (h.Term o) ≡ true → op_form o (forms_of ts) ≡ own_form (term_tree (t.Op o ts))
own_linear o ts k =
    let e = ap (λ b. cond b (op_form o (to_lins (trees_of (map term_tree ts)))) (Some (atom_lin (node (h.Term o) (trees_of (map term_tree ts)))))) k in
    sym (ap own_form (term_tree-Op o ts) ∙ e ∙ ap (op_form o) (to_lins_of ts))

atom_op : (o : TermOp) (ks : Trees) → is_linear (h.Term o) ≡ false → Some (to_lin (node (h.Term o) ks)) ≡ own_form (node (h.Term o) ks)
atom_op op.Add ks k = absurd cc
atom_op op.Sub ks k = absurd cc
atom_op op.Mul ks k = absurd cc
atom_op op.Neg ks k = absurd cc
atom_op o ks k = refl

pub own_other : (o : TermOp) (ts : List Term) → is_linear (h.Term o) ≡ false → Some (to_lin (term_tree (t.Op o ts))) ≡ own_form (term_tree (t.Op o ts))
own_other o ts k = ap (λ z. Some (to_lin z)) (term_tree-Op o ts) ∙ atom_op o (trees_of (map term_tree ts)) k ∙ sym (ap own_form (term_tree-Op o ts))

pub own_num : (z : ℤ) → FitsSigned w128 z → Some (number z) ≡ own_form (term_tree (t.Num z))
own_num z f = let e = fits_from z f in sym (ap own_form (term_tree-Num z) ∙ ap (λ b. cond b (Some (number z)) None) e)

pub own_var : (x : List ℕ) (s : Sort) → Some (to_lin (term_tree (t.Var x s))) ≡ own_form (term_tree (t.Var x s))
own_var x s = ap (λ z. Some (to_lin z)) (term_tree-Var x s) ∙ sym (ap own_form (term_tree-Var x s))

pub own_ite : (f : Formula) (a b : Term) → Some (to_lin (term_tree (t.Ite f a b))) ≡ own_form (term_tree (t.Ite f a b))
own_ite f a b = ap (λ z. Some (to_lin z)) (term_tree-Ite f a b) ∙ sym (ap own_form (term_tree-Ite f a b))

pub own_app : (x : List ℕ) (ts : List Term) → Some (to_lin (term_tree (t.App x ts))) ≡ own_form (term_tree (t.App x ts))
own_app x ts = ap (λ z. Some (to_lin z)) (term_tree-App x ts) ∙ sym (ap own_form (term_tree-App x ts))

pub ruleset own_laws = (own_linear, own_other, own_var, own_ite, own_app)
