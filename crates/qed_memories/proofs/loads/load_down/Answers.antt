use Rattle.std.proofs.Common.{Some, sym, ◌∙◌, ap}
use Rattle.qed_terms.specs.View.{term_tree}
use Rattle.qed_linear.specs.View.{lin_of}
use Rattle.qed_memories.specs.View.{view_cell}
use Rattle.qed_memories.proofs.Chains.{load_unknown, load_value, load_no_integer, load_below}
use Rattle.qed_memories.proofs.loads.load_down.Goals as goal

pub returns-in-None : goal.returns-in-None
returns-in-None c =
    let s = c.in-Store in
    load_unknown (term_tree c.args.memory.now) (term_tree s.below.now) (term_tree s.at_block.now) (term_tree s.at_offset.now) (term_tree s.value.now) (term_tree c.args.block.now) (term_tree c.args.offset.now)
    (lin_of c.in_ok-block_form-in-Store.block_form) (lin_of c.in_ok-offset_form-in-Store.offset_form)
    s.ensures c.in_ok-block_form-in-Store.ensures c.in_ok-offset_form-in-Store.ensures (sym c.in_ok-is_address-in-Store.ensures ∙ c.in-None.is)

pub returns-then-is_integer : goal.returns-then-is_integer
returns-then-is_integer c =
    let s = c.in-Store in
    ap (λ t. Some (term_tree t)) c.in_ok-copy-in-Some-true.ensures
    ∙ load_value (term_tree c.args.memory.now) (term_tree s.below.now) (term_tree s.at_block.now) (term_tree s.at_offset.now) (term_tree s.value.now) (term_tree c.args.block.now) (term_tree c.args.offset.now)
    (lin_of c.in_ok-block_form-in-Store.block_form) (lin_of c.in_ok-offset_form-in-Store.offset_form)
    s.ensures c.in_ok-block_form-in-Store.ensures c.in_ok-offset_form-in-Store.ensures (sym c.in_ok-is_address-in-Store.ensures ∙ c.in-Some-true.is ∙ ap Some c.in-Some-true.field-0-test) (sym c.is_integer.ensures ∙ c.if-is_integer.true)

pub returns-in-Some-true : goal.returns-in-Some-true
returns-in-Some-true c =
    let s = c.in-Store in
    load_no_integer (term_tree c.args.memory.now) (term_tree s.below.now) (term_tree s.at_block.now) (term_tree s.at_offset.now) (term_tree s.value.now) (term_tree c.args.block.now) (term_tree c.args.offset.now)
    (lin_of c.in_ok-block_form-in-Store.block_form) (lin_of c.in_ok-offset_form-in-Store.offset_form)
    s.ensures c.in_ok-block_form-in-Store.ensures c.in_ok-offset_form-in-Store.ensures (sym c.in_ok-is_address-in-Store.ensures ∙ c.in-Some-true.is ∙ ap Some c.in-Some-true.field-0-test) (sym c.is_integer.ensures ∙ c.if-is_integer.false)

pub returns-in-Store : goal.returns-in-Store
returns-in-Store c =
    let s = c.in-Store in
    load_below (term_tree c.args.memory.now) (term_tree s.below.now) (term_tree s.at_block.now) (term_tree s.at_offset.now) (term_tree s.value.now) (term_tree c.args.block.now) (term_tree c.args.offset.now) (term_tree c.in_ok-cell_term-in-Some-false.field-0)
    (lin_of c.in_ok-block_form-in-Store.block_form) (lin_of c.in_ok-offset_form-in-Store.offset_form) (view_cell c.in_ok-cell-in-Some-false.cell)
    s.ensures c.in_ok-block_form-in-Store.ensures c.in_ok-offset_form-in-Store.ensures (sym c.in_ok-is_address-in-Store.ensures ∙ c.in-Some-false.is ∙ ap Some c.in-Some-false.field-0-test) c.in_ok-cell-in-Some-false.ensures c.in_ok-cell_term-in-Some-false.ensures
