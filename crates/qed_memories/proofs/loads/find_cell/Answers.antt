use Rattle.std.proofs.Common.{Some, sym, ◌∙◌, ap}
use Rattle.qed_terms.specs.View.{term_tree}
use Rattle.qed_linear.specs.View.{lin_of}
use Rattle.qed_memories.proofs.Chains.{cell_unknown, cell_below, cell_value, cell_no_integer}
use Rattle.qed_memories.proofs.loads.find_cell.Goals as goal

pub returns-in-None : goal.returns-in-None
returns-in-None c =
    let s = c.in-Store in
    cell_unknown _ (term_tree s.below.now) (term_tree s.at_block.now) (term_tree s.at_offset.now) (term_tree s.value.now) (term_tree c.args.memory.now) (lin_of c.args.block.now) (lin_of c.args.offset.now)
    s.ensures (sym c.in_ok-is_address-in-Store.ensures ∙ c.in-None.is) c.loop-below.invariant

pub returns-then-is_integer : goal.returns-then-is_integer
returns-then-is_integer c =
    let s = c.in-Store in
    cell_value _ (term_tree s.below.now) (term_tree s.at_block.now) (term_tree s.at_offset.now) (term_tree s.value.now) (term_tree c.args.memory.now) (lin_of c.args.block.now) (lin_of c.args.offset.now)
    s.ensures (sym c.in_ok-is_address-in-Store.ensures ∙ c.in-Some-true.is ∙ ap Some c.in-Some-true.field-0-test) (sym c.is_integer.ensures ∙ c.if-is_integer.true) c.loop-below.invariant

pub returns-in-Some-true : goal.returns-in-Some-true
returns-in-Some-true c =
    let s = c.in-Store in
    cell_no_integer _ (term_tree s.below.now) (term_tree s.at_block.now) (term_tree s.at_offset.now) (term_tree s.value.now) (term_tree c.args.memory.now) (lin_of c.args.block.now) (lin_of c.args.offset.now)
    s.ensures (sym c.in_ok-is_address-in-Store.ensures ∙ c.in-Some-true.is ∙ ap Some c.in-Some-true.field-0-test) (sym c.is_integer.ensures ∙ c.if-is_integer.false) c.loop-below.invariant

pub loop-below-preserved : goal.loop-below-preserved
loop-below-preserved c =
    let s = c.in-Store in
    cell_below _ (term_tree s.below.now) (term_tree s.at_block.now) (term_tree s.at_offset.now) (term_tree s.value.now) (term_tree c.args.memory.now) (lin_of c.args.block.now) (lin_of c.args.offset.now)
    s.ensures (sym c.in_ok-is_address-in-Store.ensures ∙ c.in-Some-false.is ∙ ap Some c.in-Some-false.field-0-test) c.loop-below.invariant
