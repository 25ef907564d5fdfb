use Rattle.std.proofs.Common.{◌+◌, ◌-◌, ◌<◌, length, arith, take, drop, map, sym, ap, subst}
use Rattle.branches.specs.Expansion.{task}
use Rattle.branches.specs.Ids.{tasks_of}
use Rattle.branches.proofs.Stores.{held_on, in_place_of, in_place_held}
use Rattle.branches.proofs.Turning.{one_pushed}
use Rattle.branches.proofs.disjuncts.push_disjuncts.Goals as goal

pub loop-i-preserved : goal.loop-i-preserved
loop-i-preserved g c =
    let tree = g.S.TermStore.tree c.args.store.now in
    let held = g.S.TermStore.held c.args.store.now in
    let b = c.args.branch.now in
    let made = c.in_ok-made.made in
    let kids = c.kids-kids.result.now in
    let kid = c.index-kids-count.result in
    let below : length kids - 1 - c.loop-i.i < length kids = omega (arith, c.loop-i-test.true) in
    let kid_held = subst held (sym c.index-kids-count.is) (c.kids-kids.ensures.held (length kids - 1 - c.loop-i.i) kid below) in
    let same = in_place_of tree b made c.args.at kid c.in_ok-made.ensures.literals c.in_ok-made.ensures.waiting in
    record {
      pushed = one_pushed tree c.args.fuel (map tree b.literals) (take c.args.at (map tree b.waiting)) (drop (c.args.at + 1) (map tree b.waiting)) kids (tasks_of tree c.args.todo.now.items) c.loop-i.i kid c.loop-i.todo.items c.push.new.self.items _
          c.loop-i.invariant.pushed c.loop-i-test.true c.index-kids-count.is c.in_ok-push.ensures.items (ap (task c.args.fuel _) same);
      held = held_on held c.loop-i.todo.items c.push.new.self.items _ c.loop-i.invariant.held (in_place_held held b made c.args.at kid c.in_ok-made.ensures.literals c.in_ok-made.ensures.waiting c.requires.held kid_held) c.in_ok-push.ensures.items;
    }
