use Rattle.std.proofs.Common.{◌≡◌, map, take, All}
use Rattle.branch_accesses.specs.Ids.{load_of}
use Rattle.instance_candidates.specs.Ids.{formed_of, FormedHeld, IsFormed}
use Rattle.instance_candidates.proofs.meetings.formed_loads.Given as goal

abbrev pub invariant-loop-load : goal.invariant-loop-load
invariant-loop-load g l =
    let tree = g.S.TermStore.tree l.store in
    record {
      held : All (FormedHeld (g.S.TermStore.held l.store)) l.all.items;
      formed : All (IsFormed tree) l.all.items;
      loads : map (formed_of tree) l.all.items ≡ map (load_of tree) (take l.load-index l.loads);
    }
