-- Sums of forms as tables from atoms to coefficients, in the order of atoms. A coefficient that came to 0 stays in the table and makes no part.
use Rattle.std.specs.Prelude.{Bool, true, not, ◌&&◌, if◌then◌else◌, ℤ, pos, List, [], ◌∷◌}
use Rattle.std.specs.Ordering.{is_lt, is_eq}
use Rattle.qed_terms.specs.Operators.{is_zero}
use Rattle.qed_terms.specs.Order.{tree_cmp}
use Rattle.qed_terms.specs.Tree.{Tree}
use Rattle.qed_terms.specs.View.{term_tree}
use Rattle.qed_linear.specs.declared.keys.KeyedTerm.{KeyedTerm}
use Rattle.qed_linear.specs.declared.totals.Total.{Total}
use Rattle.qed_linear.specs.declared.wide.Wide.{Wide}
use Rattle.qed_linear.specs.Linear.{Part, Lin, lin, cons_nonzero}
use Rattle.qed_linear.specs.View.{wide_value}

abbrev pub key_tree : KeyedTerm → Tree
key_tree k = term_tree k.term.now

abbrev pub total_parts : List (KeyedTerm × Wide) → List Part
total_parts [] = []
total_parts (e ∷ es) = cons_nonzero (key_tree e.0) (wide_value e.1) (total_parts es)

-- the coefficient of an atom
abbrev pub times_in : KeyedTerm → List (KeyedTerm × Wide) → ℤ
times_in k [] = pos 0
times_in k (e ∷ es) = if is_eq (tree_cmp (key_tree k) (key_tree e.0)) then wide_value e.1 else times_in k es

abbrev pub total_lin : Total → Lin
total_lin t = lin (total_parts t.parts.entries) (wide_value t.constant)

-- ---- parts in order: no coefficient is 0, and each atom is before the next one

abbrev pub is_before : Tree → List Part → Bool
is_before a [] = true
is_before a (p ∷ ps) = is_lt (tree_cmp a (p.atom))

abbrev pub are_ordered : List Part → Bool
are_ordered [] = true
are_ordered (p ∷ ps) = not (is_zero (p.times)) && (is_before (p.atom) ps && are_ordered ps)
