use Rattle.std.proofs.Common.{sym, ◌∙◌, ap}
use Rattle.qed_terms.specs.View.{term_tree}
use Rattle.qed_linear.specs.View.{lin_of}
use Rattle.qed_memories.specs.Memories.{is_from_zero}
use Rattle.qed_memories.proofs.Chains.{grown_stays}
use Rattle.qed_memories.proofs.tables.grow_base.Goals as goal

pub returns-then-not-is_from_zero : goal.returns-then-not-is_from_zero
returns-then-not-is_from_zero c =
    grown_stays _ (term_tree c.in-Grown.below.now) (term_tree c.in-Grown.before.now) (term_tree c.args.table.now) (lin_of c.args.count.now)
    c.in-Grown.ensures (sym (ap is_from_zero c.in_ok-apart-in-Grown.ensures) ∙ sym c.is_from_zero.ensures ∙ c.if-not-is_from_zero.true) c.loop-below.invariant
