-- What is read from a store: a term or a formula.
use Rattle.std.specs.Prelude.{Bool, true, not, ◌&&◌, List, [], ◌∷◌}
use Rattle.qed_terms.specs.Store.{place_of_head}
use Rattle.qed_terms.specs.Tree.{Tree, head_of}
use Rattle.qed_terms.specs.View.{term_tree, formula_tree}
use Rattle.qed_terms.specs.WellFormed.{takes_formula}
use Rattle.qed_ids.specs.declared.made.Made.{Made}
use Rattle.qed_ids.specs.declared.made.Made.TheVariants as made

abbrev pub made_tree : Made → Tree
made_tree (made.Term t) = term_tree t
made_tree (made.Formula f) = formula_tree f

-- the head is one of formulas
abbrev pub is_formula : Tree → Bool
is_formula t = takes_formula (place_of_head (head_of t))

abbrev pub are_terms : List Tree → Bool
are_terms [] = true
are_terms (t ∷ ts) = not (is_formula t) && are_terms ts

abbrev pub are_formulas : List Tree → Bool
are_formulas [] = true
are_formulas (t ∷ ts) = is_formula t && are_formulas ts
