-- The forms of terms by their variants.
use Rattle.std.proofs.Common.{◌≡◌, ◌<◌, true, false, ℤ, List, [], ◌∷◌, map, length, refl, sym, ◌∙◌, ap, arith, FitsSigned}
use Rattle.std.specs.Prelude.{Option}
use Rattle.std.specs.Int.{w128}
use Rattle.qed_terms.specs.declared.head.TermOp.{TermOp}
use Rattle.qed_terms.specs.declared.term.Term.{Term}
use Rattle.qed_terms.specs.declared.term.Term.TheVariants as t
use Rattle.qed_terms.specs.Tree.{trees_of}
use Rattle.qed_terms.specs.View.{term_tree}
use Rattle.qed_terms.proofs.Equations.{term_tree-Num, term_tree-Op}
use Rattle.qed_linear.specs.declared.forms.LinPart.{LinPart}
use Rattle.qed_linear.specs.Linear.{Lin, number, is_empty, op_form, or_atom, to_lin, to_lins}
use Rattle.qed_linear.specs.View.{parts_of}
use Rattle.qed_linear.proofs.Canonical.{num_form}
use Rattle.qed_linear.proofs.SumSteps.{fits_from}

pub some_parts : (xs : List LinPart) → 0 < length xs → is_empty (parts_of xs) ≡ false
some_parts [] k = absurd (omega arith)
some_parts (x ∷ xs) k = refl

pub no_parts : (xs : List LinPart) → length xs ≡ 0 → is_empty (parts_of xs) ≡ true
no_parts [] k = refl
no_parts (x ∷ xs) k = absurd (omega arith)

pub to_lin_num : (z : ℤ) → FitsSigned w128 z → to_lin (term_tree (t.Num z)) ≡ number z
to_lin_num z f = ap to_lin (term_tree-Num z) ∙ num_form z (fits_from z f)

pub to_lins_of : (ts : List Term) → to_lins (trees_of (map term_tree ts)) ≡ map (λ t. to_lin (term_tree t)) ts
to_lins_of [] = refl
to_lins_of (t ∷ ts) = ap (λ fs. to_lin (term_tree t) ∷ fs) (to_lins_of ts)

abbrev pub forms_of : List Term → List Lin
forms_of ts = map (λ t. to_lin (term_tree t)) ts

pub to_lin_op : (o : TermOp) (ts : List Term) (g : Option Lin) → g ≡ op_form o (forms_of ts) → to_lin (term_tree (t.Op o ts)) ≡ or_atom g (term_tree (t.Op o ts))
to_lin_op o ts g k =
    let n = term_tree-Op o ts in
    let f = sym (k ∙ ap (op_form o) (sym (to_lins_of ts))) in
    ap to_lin n ∙ (λ i. or_atom (f i) (sym n i))
