use Rattle.std.proofs.Common.{◌≡◌, ◌++◌, map, drop, All}
use Rattle.qed_terms.specs.Store.{KeepsOlder}
use Rattle.instance_rounds.specs.Steps.{each_step}
use Rattle.instance_rounds.specs.declared.steps.TheConstants.{STEPS}
use Rattle.instance_rounds.proofs.steps.put_rows.Given as goal

-- what is put, and what the rows that are left will give
abbrev pub invariant-loop-step : goal.invariant-loop-step
invariant-loop-step g l = record {
  older : KeepsOlder (g.S.TermStore.held l.fn.store) (g.S.TermStore.held l.store) (g.S.TermStore.tree l.fn.store) (g.S.TermStore.tree l.store);
  held : All (g.S.TermStore.held l.store) l.out.items;
  rows : map (g.S.TermStore.tree l.store) l.out.items ++ each_step l.long_bits (drop l.step-index STEPS) (map (g.S.TermStore.tree l.store) l.literals) (map (g.S.TermStore.tree l.store) l.nodes)
      ≡ map (g.S.TermStore.tree l.fn.store) l.fn.out.items ++ each_step l.long_bits STEPS (map (g.S.TermStore.tree l.fn.store) l.literals) (map (g.S.TermStore.tree l.fn.store) l.nodes);
}
