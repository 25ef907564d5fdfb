-- Names with ranges in which their values lie, and what terms and relations are under values of names.
use Rattle.std.specs.Prelude.{◌≡◌, ℤ, Bool, true, List, [], ◌∷◌, ◌++◌, map, ⊤}
use Rattle.qed_terms.specs.declared.head.FormOp.{FormOp}
use Rattle.qed_terms.specs.declared.head.Head.TheVariants as h
use Rattle.qed_terms.specs.declared.term.Term.{Term}
use Rattle.qed_terms.specs.declared.term.Formula.{Formula}
use Rattle.qed_terms.specs.Meaning.{World, Values, value, truth}
use Rattle.qed_terms.specs.Tree.{Tree, node, trees_of}
use Rattle.qed_terms.specs.View.{term_tree, formula_tree}
use Rattle.known_bounds.specs.Ranges.{IsIn}
use Rattle.known_bounds.specs.declared.bounds.Bound.{Bound}

-- each name's integer lies in its range
abbrev pub AreKept : Values → List Bound → Type 0
AreKept env [] = ⊤
AreKept env (b ∷ bs) = IsIn b.range (env.ints b.name) × AreKept env bs

-- the same bounds, and more behind them
abbrev pub Extends : List Bound → List Bound → Type 0
Extends before after = (more : List Bound) × (after ≡ before ++ more)

-- the value of a term
abbrev pub term_value : World → Values → Term → ℤ
term_value w env t = value w env (term_tree t)

-- whether a relation holds between terms
abbrev pub relation : FormOp → List Term → Tree
relation op ts = node (h.Form op) (trees_of (map term_tree ts))

abbrev pub relation_truth : World → Values → FormOp → List Term → Bool
relation_truth w env op ts = truth w env (relation op ts)

abbrev pub formula_truth : World → Values → Formula → Bool
formula_truth w env f = truth w env (formula_tree f)

-- all formulas hold
abbrev pub AllHold : World → Values → List Formula → Type 0
AllHold w env [] = ⊤
AllHold w env (f ∷ fs) = (formula_truth w env f ≡ true) × AllHold w env fs
