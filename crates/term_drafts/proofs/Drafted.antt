-- Drafts, by whether there was memory for them.
use Rattle.std.proofs.Common.{◌≡◌, Ok, Err, sym, ◌∙◌, ap, subst}
use Rattle.std.specs.Prelude.{Result}
use Rattle.wp_base.specs.declared.memory.NoMemory.{NoMemory}
use Rattle.qed_terms.specs.declared.term.Term.{Term}
use Rattle.qed_terms.specs.declared.term.Formula.{Formula}
use Rattle.qed_terms.specs.Tree.{Tree}
use Rattle.qed_terms.specs.View.{term_tree, formula_tree}
use Rattle.term_drafts.specs.Drafts.{TermIs, FormulaIs}

pub term_made : (made : Term) (t : Tree) → term_tree made ≡ t → TermIs (Ok made) t
term_made made t e = record { is = e }

pub no_term : (e : NoMemory) (t : Tree) → TermIs (Err e) t
no_term e t = record { is = tt }

pub formula_made : (made : Formula) (f : Tree) → formula_tree made ≡ f → FormulaIs (Ok made) f
formula_made made f e = record { is = e }

pub no_formula : (e : NoMemory) (f : Tree) → FormulaIs (Err e) f
no_formula e f = record { is = tt }

pub term_is : (draft : Result Term NoMemory) (made : Term) (t : Tree) → TermIs draft t → draft ≡ Ok made → term_tree made ≡ t
term_is (Ok x) made t h e = ap term_tree (sym cc) ∙ h.is
term_is (Err x) made t h e = absurd cc

pub formula_is : (draft : Result Formula NoMemory) (made : Formula) (f : Tree) → FormulaIs draft f → draft ≡ Ok made → formula_tree made ≡ f
formula_is (Ok x) made f h e = ap formula_tree (sym cc) ∙ h.is
formula_is (Err x) made f h e = absurd cc

pub ruleset draft_laws = (term_made, no_term, formula_made, no_formula, term_is, formula_is)

-- where two branches join
pub term_as : (draft : Result Term NoMemory) (t u : Tree) → TermIs draft t → t ≡ u → TermIs draft u
term_as draft t u h e = subst (λ t. TermIs draft t) e h

pub formula_as : (draft : Result Formula NoMemory) (f g : Tree) → FormulaIs draft f → f ≡ g → FormulaIs draft g
formula_as draft f g h e = subst (λ f. FormulaIs draft f) e h
