use Rattle.std.proofs.Common.{sym, ◌∙◌, ap}
use Rattle.qed_terms.specs.View.{term_tree}
use Rattle.qed_linear.specs.View.{lin_of}
use Rattle.qed_memories.specs.Passes.{is_so}
use Rattle.qed_memories.proofs.Chains.{base_stays, base_below}
use Rattle.qed_memories.proofs.loads.store_base.Goals as goal

pub returns-then-not-is_so : goal.returns-then-not-is_so
returns-then-not-is_so c =
    let s = c.in-Store in
    base_stays _ (term_tree s.below.now) (term_tree s.at_block.now) (term_tree s.at_offset.now) (term_tree s.field-3.now) (term_tree c.args.memory.now) (lin_of c.args.block.now) (lin_of c.args.offset.now)
    s.ensures (sym (ap is_so c.in_ok-is_address-in-Store.ensures) ∙ sym c.is_so.ensures ∙ c.if-not-is_so.true) c.loop-below.invariant

pub loop-below-preserved : goal.loop-below-preserved
loop-below-preserved c =
    let s = c.in-Store in
    base_below _ (term_tree s.below.now) (term_tree s.at_block.now) (term_tree s.at_offset.now) (term_tree s.field-3.now) (term_tree c.args.memory.now) (lin_of c.args.block.now) (lin_of c.args.offset.now)
    s.ensures (sym (ap is_so c.in_ok-is_address-in-Store.ensures) ∙ sym c.is_so.ensures ∙ c.if-not-is_so.false) c.loop-below.invariant
