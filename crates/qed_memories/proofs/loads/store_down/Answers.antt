use Rattle.std.proofs.Common.{sym, ◌∙◌, ap}
use Rattle.qed_terms.specs.View.{term_tree}
use Rattle.qed_linear.specs.View.{lin_of}
use Rattle.qed_memories.specs.Passes.{is_so}
use Rattle.qed_memories.proofs.Chains.{store_stays, store_below}
use Rattle.qed_memories.proofs.loads.store_down.Goals as goal

pub returns-then-not-is_so : goal.returns-then-not-is_so
returns-then-not-is_so c =
    let s = c.in-Store in
    store_stays (term_tree c.args.memory.now) (term_tree s.below.now) (term_tree s.at_block.now) (term_tree s.at_offset.now) (term_tree s.field-3.now) (term_tree c.args.block.now) (term_tree c.args.offset.now) (term_tree c.args.value.now)
    (lin_of c.in_ok-block_form-in-Store.block_form) (lin_of c.in_ok-offset_form-in-Store.offset_form)
    s.ensures c.in_ok-block_form-in-Store.ensures c.in_ok-offset_form-in-Store.ensures (sym (ap is_so c.in_ok-is_address-in-Store.ensures) ∙ sym c.is_so.ensures ∙ c.if-not-is_so.true)

pub returns-in_ok-store_of-in-Store : goal.returns-in_ok-store_of-in-Store
returns-in_ok-store_of-in-Store c =
    let s = c.in-Store in
    store_below (term_tree c.args.memory.now) (term_tree s.below.now) (term_tree s.at_block.now) (term_tree s.at_offset.now) (term_tree s.field-3.now) (term_tree c.args.block.now) (term_tree c.args.offset.now) (term_tree c.args.value.now)
    (term_tree c.in_ok-store_of-in-Store.field-0) (term_tree c.in_ok-base-in-Store.base.now)
    (lin_of c.in_ok-block_form-in-Store.block_form) (lin_of c.in_ok-offset_form-in-Store.offset_form)
    s.ensures c.in_ok-block_form-in-Store.ensures c.in_ok-offset_form-in-Store.ensures (sym (ap is_so c.in_ok-is_address-in-Store.ensures) ∙ sym c.is_so.ensures ∙ c.if-not-is_so.false) c.in_ok-base-in-Store.ensures c.in_ok-store_of-in-Store.ensures
