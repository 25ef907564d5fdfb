use Rattle.std.proofs.Common.{◌≡◌, ◌++◌, map, drop, All}
use Rattle.instance_rows.specs.Candidates.{trigger_blocks}
use Rattle.trigger_instances.proofs.asked.put_trigger_blocks.Given as goal

abbrev pub invariant-loop-literal : goal.invariant-loop-literal
invariant-loop-literal g l =
    let tree = g.S.TermStore.tree l.store in
    record {
      held : All (g.S.TermStore.held l.store) l.out.items;
      rest : map tree l.out.items ++ trigger_blocks (map tree (drop l.literal-index l.literals)) ≡ map tree l.initial.out.items ++ trigger_blocks (map tree l.literals);
    }
