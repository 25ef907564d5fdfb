-- A term or a formula is known by its tree.
use Rattle.std.proofs.Common.{◌≡◌, pos, Bool, List, [], ◌∷◌, map, refl, sym, ◌∙◌, ap, subst}
use Rattle.std.specs.Prelude.{IsTrue, ◌↔◌}
use Rattle.qed_terms.specs.declared.head.Head.TheVariants as h
use Rattle.qed_terms.specs.declared.term.Term.{Term, Term-F, roll-Term, map-Term, ind-Term}
use Rattle.qed_terms.specs.declared.term.Term.TheVariants as term
use Rattle.qed_terms.specs.declared.term.Formula.{Formula, Formula-F, roll-Formula, map-Formula, ind-Formula}
use Rattle.qed_terms.specs.declared.term.Formula.TheVariants as formula
use Rattle.qed_terms.specs.Tree.{Tree, node, Trees, stop, more, trees_of}
use Rattle.qed_terms.specs.View.{term_tree, formula_tree}
use Rattle.qed_terms.specs.Order.{same}
use Rattle.qed_terms.proofs.Equations as equations
use Rattle.qed_terms.proofs.Total.{same_itself, same_exact}

-- the term or formula of a tree
mutual
  term_back : Tree → Term
  term_back (node (h.Num z) ts) = term.Num z
  term_back (node (h.Var x s) ts) = term.Var x s
  term_back (node (h.Term o) ts) = term.Op o (terms_back ts)
  term_back (node h.Ite (more f (more t (more u ts)))) = term.Ite (formula_back f) (term_back t) (term_back u)
  term_back (node (h.App f) ts) = term.App f (terms_back ts)
  term_back t = term.Num (pos 0)

  terms_back : Trees → List Term
  terms_back stop = []
  terms_back (more t ts) = term_back t ∷ terms_back ts

  formula_back : Tree → Formula
  formula_back (node h.False ts) = formula.False
  formula_back (node (h.Form o) ts) = formula.Rel o (terms_back ts)
  formula_back (node h.Not (more f ts)) = formula.Not (formula_back f)
  formula_back (node h.And ts) = formula.And (formulas_back ts)
  formula_back (node h.Or ts) = formula.Or (formulas_back ts)
  formula_back (node h.Imp (more f (more g ts))) = formula.Imp (formula_back f) (formula_back g)
  formula_back (node h.Iff (more f (more g ts))) = formula.Iff (formula_back f) (formula_back g)
  formula_back (node (h.Forall x) (more t (more u (more f ts)))) = formula.Forall x (term_back t) (term_back u) (formula_back f)
  formula_back (node (h.Exists x) (more t (more u (more f ts)))) = formula.Exists x (term_back t) (term_back u) (formula_back f)
  formula_back t = formula.True

  formulas_back : Trees → List Formula
  formulas_back stop = []
  formulas_back (more t ts) = formula_back t ∷ formulas_back ts

abbrev TermBack : Term → Type 0
TermBack x = term_back (term_tree x) ≡ x

abbrev FormulaBack : Formula → Type 0
FormulaBack x = formula_back (formula_tree x) ≡ x

abbrev T' : Type 0
T' = (x : Term) × TermBack x

abbrev F' : Type 0
F' = (x : Formula) × FormulaBack x

each_term : (xs : List T') → terms_back (trees_of (map term_tree (map (λ e. e.0) xs))) ≡ map (λ e. e.0) xs
unfolding terms_back
each_term [] = refl
each_term (x ∷ xs) = let a = x.1 in let b = each_term xs in λ i. a i ∷ b i

each_formula : (xs : List F') → formulas_back (trees_of (map formula_tree (map (λ e. e.0) xs))) ≡ map (λ e. e.0) xs
unfolding formulas_back
each_formula [] = refl
each_formula (x ∷ xs) = let a = x.1 in let b = each_formula xs in λ i. a i ∷ b i

term_here : (y : Term-F F' T') → TermBack (roll-Term (map-Term F' T' Formula Term (λ e. e.0) (λ e. e.0) y))
unfolding term_back
term_here (Term-F.Num z) =
    let r = term.rolls-Num z in
    ap (λ x. term_back (term_tree x)) r ∙ ap term_back (equations.term_tree-Num z) ∙ sym r
term_here (Term-F.Var x s) =
    let r = term.rolls-Var x s in
    ap (λ x. term_back (term_tree x)) r ∙ ap term_back (equations.term_tree-Var x s) ∙ sym r
term_here (Term-F.Op o xs) =
    let r = term.rolls-Op o (map (λ e. e.0) xs) in
    ap (λ x. term_back (term_tree x)) r ∙ ap term_back (equations.term_tree-Op o (map (λ e. e.0) xs)) ∙ ap (term.Op o) (each_term xs) ∙ sym r
term_here (Term-F.Ite f t u) =
    let r = term.rolls-Ite f.0 t.0 u.0 in
    ap (λ x. term_back (term_tree x)) r ∙ ap term_back (equations.term_tree-Ite f.0 t.0 u.0) ∙ (λ i. term.Ite (f.1 i) (t.1 i) (u.1 i)) ∙ sym r
term_here (Term-F.App f xs) =
    let r = term.rolls-App f (map (λ e. e.0) xs) in
    ap (λ x. term_back (term_tree x)) r ∙ ap term_back (equations.term_tree-App f (map (λ e. e.0) xs)) ∙ ap (term.App f) (each_term xs) ∙ sym r

formula_here : (y : Formula-F F' T') → FormulaBack (roll-Formula (map-Formula F' T' Formula Term (λ e. e.0) (λ e. e.0) y))
unfolding formula_back
formula_here Formula-F.True =
    let r = formula.rolls-True in
    ap (λ x. formula_back (formula_tree x)) r ∙ ap formula_back equations.formula_tree-True ∙ sym r
formula_here Formula-F.False =
    let r = formula.rolls-False in
    ap (λ x. formula_back (formula_tree x)) r ∙ ap formula_back equations.formula_tree-False ∙ sym r
formula_here (Formula-F.Rel o xs) =
    let r = formula.rolls-Rel o (map (λ e. e.0) xs) in
    ap (λ x. formula_back (formula_tree x)) r ∙ ap formula_back (equations.formula_tree-Rel o (map (λ e. e.0) xs)) ∙ ap (formula.Rel o) (each_term xs) ∙ sym r
formula_here (Formula-F.Not f) =
    let r = formula.rolls-Not f.0 in
    ap (λ x. formula_back (formula_tree x)) r ∙ ap formula_back (equations.formula_tree-Not f.0) ∙ ap formula.Not f.1 ∙ sym r
formula_here (Formula-F.And xs) =
    let r = formula.rolls-And (map (λ e. e.0) xs) in
    ap (λ x. formula_back (formula_tree x)) r ∙ ap formula_back (equations.formula_tree-And (map (λ e. e.0) xs)) ∙ ap formula.And (each_formula xs) ∙ sym r
formula_here (Formula-F.Or xs) =
    let r = formula.rolls-Or (map (λ e. e.0) xs) in
    ap (λ x. formula_back (formula_tree x)) r ∙ ap formula_back (equations.formula_tree-Or (map (λ e. e.0) xs)) ∙ ap formula.Or (each_formula xs) ∙ sym r
formula_here (Formula-F.Imp f g) =
    let r = formula.rolls-Imp f.0 g.0 in
    ap (λ x. formula_back (formula_tree x)) r ∙ ap formula_back (equations.formula_tree-Imp f.0 g.0) ∙ (λ i. formula.Imp (f.1 i) (g.1 i)) ∙ sym r
formula_here (Formula-F.Iff f g) =
    let r = formula.rolls-Iff f.0 g.0 in
    ap (λ x. formula_back (formula_tree x)) r ∙ ap formula_back (equations.formula_tree-Iff f.0 g.0) ∙ (λ i. formula.Iff (f.1 i) (g.1 i)) ∙ sym r
formula_here (Formula-F.Forall x t u f) =
    let r = formula.rolls-Forall x t.0 u.0 f.0 in
    ap (λ x. formula_back (formula_tree x)) r ∙ ap formula_back (equations.formula_tree-Forall x t.0 u.0 f.0) ∙ (λ i. formula.Forall x (t.1 i) (u.1 i) (f.1 i)) ∙ sym r
formula_here (Formula-F.Exists x t u f) =
    let r = formula.rolls-Exists x t.0 u.0 f.0 in
    ap (λ x. formula_back (formula_tree x)) r ∙ ap formula_back (equations.formula_tree-Exists x t.0 u.0 f.0) ∙ (λ i. formula.Exists x (t.1 i) (u.1 i) (f.1 i)) ∙ sym r

term_there : (x : Term) → term_back (term_tree x) ≡ x
term_there = ind-Term FormulaBack TermBack (λ x y is. subst (λ z. FormulaBack (roll-Formula z)) is (formula_here y)) (λ x y is. subst (λ z. TermBack (roll-Term z)) is (term_here y))

formula_there : (x : Formula) → formula_back (formula_tree x) ≡ x
formula_there = ind-Formula FormulaBack TermBack (λ x y is. subst (λ z. FormulaBack (roll-Formula z)) is (formula_here y)) (λ x y is. subst (λ z. TermBack (roll-Term z)) is (term_here y))

-- ---- one tree, one term

pub term_known : (x y : Term) → term_tree x ≡ term_tree y → x ≡ y
term_known x y e = sym (term_there x) ∙ ap term_back e ∙ term_there y

pub formula_known : (x y : Formula) → formula_tree x ≡ formula_tree y → x ≡ y
formula_known x y e = sym (formula_there x) ∙ ap formula_back e ∙ formula_there y

-- the test of trees is one of terms and formulas
pub term_exact : (x y : Term) (b : Bool) → b ≡ same (term_tree x) (term_tree y) → IsTrue b ↔ (x ≡ y)
term_exact x y b e = (
  (λ k. term_known x y (same_exact (term_tree x) (term_tree y) (sym e ∙ k))),
  (λ k. e ∙ ap (λ z. same (term_tree x) (term_tree z)) (sym k) ∙ same_itself (term_tree x)),
)

pub formula_exact : (x y : Formula) (b : Bool) → b ≡ same (formula_tree x) (formula_tree y) → IsTrue b ↔ (x ≡ y)
formula_exact x y b e = (
  (λ k. formula_known x y (same_exact (formula_tree x) (formula_tree y) (sym e ∙ k))),
  (λ k. e ∙ ap (λ z. same (formula_tree x) (formula_tree z)) (sym k) ∙ same_itself (formula_tree x)),
)
