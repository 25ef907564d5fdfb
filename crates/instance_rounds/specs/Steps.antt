-- The rows of a round that look at nodes alone.
use Rattle.std.specs.Prelude.{ℕ, List, [], ◌∷◌, ◌++◌}
use Rattle.qed_terms.specs.Tree.{Tree}
use Rattle.instance_rows.specs.Rows.{order_of_unequal, load_of_store, read_of_write, place_of_read, answer_of_alloc, cases_of_wrap, cases_of_quotient, bounds_of_operator, arm_of_ite}
use Rattle.instance_rows.specs.PairRows.{frame_of_load, range_of_load, answer_of_layout}
use Rattle.instance_rows.specs.Occurrences.{at_each, at_pairs}
use Rattle.node_instances.specs.NodeRows.{node_row}
use Rattle.pair_instances.specs.PairRows.{pair_row}
use Rattle.instance_rounds.specs.declared.steps.Step.{Step}
use Rattle.instance_rounds.specs.declared.steps.Step.TheVariants as s

-- what one gives, over the literals and all that occurs
abbrev pub step_formulas : (long_bits : ℕ) → Step → (literals occurring : List Tree) → List Tree
step_formulas bits (s.Literals r) ls ts = at_each (node_row bits r) ls
step_formulas bits (s.Nodes r) ls ts = at_each (node_row bits r) ts
step_formulas bits (s.LiteralsAndNodes r) ls ts = at_pairs (pair_row bits r) ls ts
step_formulas bits (s.NodePairs r) ls ts = at_pairs (pair_row bits r) ts ts

abbrev pub each_step : (long_bits : ℕ) → List Step → (literals occurring : List Tree) → List Tree
each_step bits [] ls ts = []
each_step bits (s ∷ ss) ls ts = step_formulas bits s ls ts ++ each_step bits ss ls ts

-- of all of them, in the order of a round
unfoldable pub rows_in_order : (long_bits : ℕ) → (literals occurring : List Tree) → List Tree
rows_in_order bits ls ts =
    at_each order_of_unequal ls
    ++ (at_each load_of_store ts
    ++ (at_pairs frame_of_load ls ts
    ++ (at_pairs (range_of_load bits) ls ts
    ++ (at_each read_of_write ts
    ++ (at_each place_of_read ts
    ++ (at_each answer_of_alloc ts
    ++ (at_pairs answer_of_layout ts ts
    ++ (at_each (cases_of_wrap bits) ts
    ++ (at_each cases_of_quotient ts
    ++ (at_each bounds_of_operator ts
    ++ at_each arm_of_ite ts))))))))))
