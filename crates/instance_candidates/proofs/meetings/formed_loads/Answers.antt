use Rattle.std.proofs.Common.{All, ap, subst, sym, ◌∙◌}
use Rattle.std.proofs.lemmas.List.Elements.{All-push, All-same, All-get_or}
use Rattle.branch_accesses.specs.Ids.{load_of, LoadHeld}
use Rattle.instance_candidates.specs.Ids.{formed_of, FormedHeld, IsFormed}
use Rattle.branch_accesses.proofs.Gathered.{mapped_more}
use Rattle.drawn_instances.proofs.KidLaws.{kid_held}
use Rattle.instance_candidates.proofs.meetings.formed_loads.Goals as goal

pub loop-load-preserved : goal.loop-load-preserved
loop-load-preserved g c =
    let tree = g.S.TermStore.tree c.args.store.now in
    let held = g.S.TermStore.held c.args.store.now in
    let loads = c.args.loads.now in
    let i = c.loop-load.load-index in
    let x = c.load-item.result in
    let f = c.in_ok-formed.field-0 in
    let done = c.loop-load.all.items in
    let now = c.push.new.self.items in
    let there = kid_held (LoadHeld held) loads i x c.requires c.loop-load-test.true c.load-item.is in
    record {
      held = All-same (FormedHeld held) now _ c.in_ok-push.ensures.items (All-push (FormedHeld held) done f c.loop-load.invariant.held (subst (LoadHeld held) (sym c.in_ok-formed.ensures.load) there));
      formed = All-same (IsFormed tree) now _ c.in_ok-push.ensures.items (All-push (IsFormed tree) done f c.loop-load.invariant.formed c.in_ok-formed.ensures.formed);
      loads = mapped_more (formed_of tree) (load_of tree) loads i x f done now c.loop-load-test.true c.load-item.is (ap (load_of tree) c.in_ok-formed.ensures.load) c.in_ok-push.ensures.items c.loop-load.invariant.loads;
    }
