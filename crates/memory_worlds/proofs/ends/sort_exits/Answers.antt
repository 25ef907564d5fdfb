use Rattle.std.proofs.Common.{◌≡◌, ◌∷◌, ◌++◌, ◌-◌, suc, length, map, sym, ap, ◌∙◌, append_assoc, arith}
use Rattle.memory_steps.specs.Walk.{left_by}
use Rattle.memory_worlds.specs.View.{exits_at, view_world}
use Rattle.memory_worlds.proofs.Ending.{one_exit, further_not_here, further_next}
use Rattle.memory_worlds.proofs.ends.sort_exits.Goals as goal

pub loop-exit-preserved : goal.loop-exit-preserved
loop-exit-preserved c =
    let e = c.in-Some.exit in
    let rest = c.next.new.self.rest.items in
    let front : c.loop-exit.exit-iterator.rest.items ≡ e ∷ rest = c.in-Some.ensures.steps.0 in
    let counted = c.in-Some.ensures.steps.1 in
    let l = e.level - 1 in
    let level : e.level ≡ suc l = omega (arith, c.if-level-eq0.false) in
    let now = c.loop-exit.left.items in
    let pushed = c.in_ok-push-2.ensures.items in
    record {
      count = omega (arith, counted, ap length front, c.loop-exit.invariant.count);
      here = ap (λ ws. map view_world c.loop-exit.here.items ++ ws) (sym (further_not_here e rest l level)) ∙ ap (λ es. map view_world c.loop-exit.here.items ++ exits_at es 0) (sym front) ∙ c.loop-exit.invariant.here;
      left = λ k. ap (λ es. exits_at es k ++ exits_at rest (suc k)) pushed ∙ ap (λ ws. ws ++ exits_at rest (suc k)) (one_exit now _ k) ∙ append_assoc (exits_at now k) (left_by l (view_world e.world) k) (exits_at rest (suc k))
          ∙ ap (λ ws. exits_at now k ++ ws) (sym (further_next e rest l k level)) ∙ ap (λ es. exits_at now k ++ exits_at es (suc k)) (sym front) ∙ c.loop-exit.invariant.left k;
    }
