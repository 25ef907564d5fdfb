use Rattle.std.proofs.Common.{◌∙◌, sym, arith}
use Rattle.branches.specs.Ids.{branch_of}
use Rattle.changed_branches.proofs.Numbered.{earlier_more}
use Rattle.changed_branches.proofs.new_names.first_new.Goals as goal

pub loop-number-preserved : goal.loop-number-preserved
loop-number-preserved g c =
    let b = branch_of (g.S.TermStore.tree c.args.store.now) c.args.branch.now in
    record {
      some = omega arith;
      earlier = earlier_more b c.loop-number.number c.bytes.result.now c.loop-number.invariant.earlier (c.bytes.ensures ∙ c.in_ok-name.ensures) (sym c.is_in_branch.ensures ∙ c.if-not-is_in_branch.false);
    }
