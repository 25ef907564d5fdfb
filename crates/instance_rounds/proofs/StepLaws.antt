-- Rows one after the other.
use Rattle.std.proofs.Common.{◌≡◌, ℕ, suc, ◌+◌, ◌<◌, ◌≤◌, List, [], ◌∷◌, ◌++◌, map, take, drop, length, get_or, All, append_assoc, append-nil, refl, sym, ◌∙◌, ap, drop-cons, drop_of_length-le, arith}
use Rattle.qed_terms.specs.Store.{KeepsOlder}
use Rattle.qed_terms.specs.Tree.{Tree}
use Rattle.qed_terms.proofs.Kept.{kept_trees}
use Rattle.instance_rows.specs.Rows.{arm_of_ite, bounds_of_operator, cases_of_quotient, cases_of_wrap, answer_of_alloc, place_of_read, read_of_write, load_of_store, order_of_unequal}
use Rattle.instance_rows.specs.PairRows.{frame_of_load, range_of_load, answer_of_layout}
use Rattle.instance_rows.specs.Occurrences.{at_each, at_pairs}
use Rattle.instance_rounds.specs.declared.steps.Step.{Step}
use Rattle.instance_rounds.specs.declared.steps.TheConstants.{STEPS}
use Rattle.instance_rounds.specs.Steps.{step_formulas, each_step, rows_in_order}

-- the table has them in their order
pub table_in_order : (bits : ℕ) (ls ts : List Tree) → each_step bits STEPS ls ts ≡ rows_in_order bits ls ts
unfolding rows_in_order
table_in_order bits ls ts = λ i.
    at_each order_of_unequal ls
    ++ (at_each load_of_store ts
    ++ (at_pairs frame_of_load ls ts
    ++ (at_pairs (range_of_load bits) ls ts
    ++ (at_each read_of_write ts
    ++ (at_each place_of_read ts
    ++ (at_each answer_of_alloc ts
    ++ (at_pairs answer_of_layout ts ts
    ++ (at_each (cases_of_wrap bits) ts
    ++ (at_each cases_of_quotient ts
    ++ (at_each bounds_of_operator ts
    ++ append-nil (at_each arm_of_ite ts) i))))))))))

-- one row more, in a later store
pub row_put : {Id : Type 0} (held held' : Id → Type 0) (tree tree' : Id → Tree) (bits : ℕ) (steps : List Step) (k : ℕ) (d : Step) (ls ts : List Id) (out out' all : List Tree)
    → k < length steps → KeepsOlder held held' tree tree' → All held ls → All held ts
    → out' ≡ out ++ step_formulas bits (get_or steps k d) (map tree ls) (map tree ts)
    → out ++ each_step bits (drop k steps) (map tree ls) (map tree ts) ≡ all
    → out' ++ each_step bits (drop (k + 1) steps) (map tree' ls) (map tree' ts) ≡ all
row_put held held' tree tree' bits steps k d ls ts out out' all within kept l t e h =
    let n : suc k ≡ k + 1 = omega arith in
    let next = drop-cons steps k d within ∙ ap (λ m. get_or steps k d ∷ drop m steps) n in
    (λ i. e i ++ each_step bits (drop (k + 1) steps) (kept_trees held held' tree tree' ls kept l i) (kept_trees held held' tree tree' ts kept t i))
    ∙ append_assoc out (step_formulas bits (get_or steps k d) (map tree ls) (map tree ts)) (each_step bits (drop (k + 1) steps) (map tree ls) (map tree ts))
    ∙ ap (λ ss. out ++ each_step bits ss (map tree ls) (map tree ts)) (sym next) ∙ h

pub rows_done : (bits : ℕ) (steps : List Step) (k : ℕ) (ls ts out all : List Tree) → length steps ≤ k → out ++ each_step bits (drop k steps) ls ts ≡ all → out ≡ all
rows_done bits steps k ls ts out all over h =
    sym (append-nil out) ∙ ap (λ ss. out ++ each_step bits ss ls ts) (sym (drop_of_length-le steps over)) ∙ h
