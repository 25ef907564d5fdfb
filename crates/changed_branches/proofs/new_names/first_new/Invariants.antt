use Rattle.std.proofs.Common.{◌<◌}
use Rattle.branches.specs.Ids.{branch_of}
use Rattle.changed_branches.proofs.Numbered.{Earlier}
use Rattle.changed_branches.proofs.new_names.first_new.Given as goal

abbrev pub invariant-loop-number : goal.invariant-loop-number
invariant-loop-number g l = record {
  some : 0 < l.number;
  earlier : Earlier (branch_of (g.S.TermStore.tree l.store) l.branch) l.number;
}
