use Rattle.std.proofs.Common.{◌≡◌, sym, ◌∙◌, ap}
use Rattle.std.specs.Prelude.{option_map}
use Rattle.qed_terms.specs.View.{term_tree}
use Rattle.qed_linear.specs.View.{lin_of}
use Rattle.qed_linear.proofs.Places.{if_ok}
use Rattle.qed_numbers.specs.Numbers.{then_some}
use Rattle.qed_memories.specs.Memories.{is_from_zero, is_own_count}
use Rattle.qed_memories.specs.Passes.{grow_down}
use Rattle.qed_memories.proofs.Chains.{grow_stays, grow_below}
use Rattle.qed_memories.proofs.tables.grow_down.Goals as goal

pub returns-then-not-is_from_zero : goal.returns-then-not-is_from_zero
returns-then-not-is_from_zero c =
    let g = c.in-Grown in
    let t = term_tree c.args.table.now in
    let v = term_tree c.args.count.now in
    let k = sym (ap is_from_zero c.in_ok-apart-in-Grown.ensures) ∙ sym c.is_from_zero.ensures ∙ c.if-not-is_from_zero.true in
    if_ok c.no_growth.result
    (λ n. option_map term_tree n ≡ then_some (is_own_count t v) t)
    (λ n. option_map term_tree n ≡ grow_down t v)
    (λ n q. grow_stays t (term_tree g.below.now) (term_tree g.before.now) v (lin_of c.in_ok-form-in-Grown.form) (option_map term_tree n) g.ensures c.in_ok-form-in-Grown.ensures k q)
    c.no_growth.ensures

pub returns-in_ok-grow_end-in-Grown : goal.returns-in_ok-grow_end-in-Grown
returns-in_ok-grow_end-in-Grown c =
    let g = c.in-Grown in
    grow_below (term_tree c.args.table.now) (term_tree g.below.now) (term_tree g.before.now) (term_tree c.args.count.now) (term_tree c.in_ok-grow_end-in-Grown.field-0) (term_tree c.in_ok-base-in-Grown.base.now) (lin_of c.in_ok-form-in-Grown.form)
    g.ensures c.in_ok-form-in-Grown.ensures (sym (ap is_from_zero c.in_ok-apart-in-Grown.ensures) ∙ sym c.is_from_zero.ensures ∙ c.if-not-is_from_zero.false) c.in_ok-base-in-Grown.ensures c.in_ok-grow_end-in-Grown.ensures
