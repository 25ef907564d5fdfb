use Rattle.std.proofs.Common.{rules, ◌≡◌, ◌+◌, ◌-◌, drop, arith, ◌∙◌}
use Rattle.checked_trees.specs.View.{view_steps}
use Rattle.program_steps.specs.Temporaries.{all_live}
use Rattle.walk_live.proofs.Marks.{behind_before, one_before}
use Rattle.walk_live.proofs.behind.behind_all.Goals as goal

pub loop-left-preserved : goal.loop-left-preserved
loop-left-preserved c =
    let ss = c.args.steps.now in
    let i = c.loop-left.left in
    let j = c.loop-left.left - 1 in
    let s = c.index-steps-left.result in
    let one : i ≡ j + 1 = (let t = c.loop-left-test.true in omega (arith, t)) in
    let seen : c.as_slice.result.now ≡ c.loop-left.set.items = search (rules, c.as_slice.ensures.value) in
    let copied : c.in_ok-behind.behind.items ≡ c.as_slice.result.now = search (rules, c.in_ok-behind.ensures) in
    let before : c.as_slice-in-loop-left.result.now ≡ c.in_ok-set-2.set.items = search (rules, c.as_slice-in-loop-left.ensures.value) in
    let behind : c.as_slice-in-loop-left-2.result.now ≡ c.in_ok-behind.behind.items = search (rules, c.as_slice-in-loop-left-2.ensures.value) in
    let listed : c.from_vec.result ≡ c.in_ok-behind.behind.items = search (rules, c.from_vec.ensures) in
    record {
      within = (let w = c.loop-left.invariant.within in omega (arith, w, one));
      live = λ k os f ho ha.
          one_before k os f ss i j s c.in_ok-set-2.set.items one c.loop-left.invariant.within c.index-steps-left.is
          (c.in_ok-set-2.ensures k os (all_live (view_steps (drop i ss)) os f) ho (c.loop-left.invariant.live k os f ho ha));
      made = λ k os f ho ha.
          let g = all_live (view_steps (drop i ss)) os f in
          let live_at = copied ∙ seen ∙ c.loop-left.invariant.live k os f ho ha in
          behind_before k os f ss i j s c.loop-left.made.items c.push.new.self.items c.from_vec.result c.in_ok-unused.unused one c.loop-left.invariant.within c.index-steps-left.is
          (c.loop-left.invariant.made k os f ho ha) (listed ∙ live_at)
          (c.in_ok-unused.ensures k os g (before ∙ c.in_ok-set-2.ensures k os g ho (c.loop-left.invariant.live k os f ho ha)) (behind ∙ live_at)) c.in_ok-push.ensures.items;
    }
