use Rattle.std.proofs.Common.{rules, pos, ◌≡◌, ◌∷◌, ◌++◌, length, map, refl, sym, ap, ◌∙◌, arith}
use Rattle.qed_terms.specs.Tree.{num}
use Rattle.qed_terms.specs.View.{formula_tree, term_tree}
use Rattle.walk_steps.specs.State.{restore}
use Rattle.walk_steps.specs.World.{world, restored}
use Rattle.walk_words.specs.View.{exits_at, view_world}
use Rattle.walk_words.proofs.Ending.{restored_next}
use Rattle.walk_words.proofs.ends.put_back_all.Goals as goal

pub loop-exit-preserved : goal.loop-exit-preserved
loop-exit-preserved c =
    let e = c.in-Some.exit in
    let rest = c.next.new.self.rest.items in
    let front : c.loop-exit.exit-iterator.rest.items ≡ e ∷ rest = c.in-Some.ensures.steps.0 in
    let counted = c.in-Some.ensures.steps.1 in
    let now = c.loop-exit.left.items in
    let is = c.args.places.now in
    let old = view_world c.args.before.now in
    let before : c.as_slice.result.now ≡ c.args.before.now.slots.items = search (rules, c.as_slice.ensures.value) in
    record {
      count = omega (arith, counted, ap length front, c.loop-exit.invariant.count);
      so_far = λ k. restored_next is old e _ rest now c.push.new.self.items k refl (ap (world (map formula_tree e.world.known.items)) (c.in_ok-put_back.ensures ∙ (λ i. restore (num (pos 0)) is (map term_tree (before i)) (map term_tree e.world.slots.items)))) c.in_ok-push.ensures.items
          ∙ ap (λ es. exits_at now k ++ map (restored is old) (exits_at es k)) (sym front) ∙ c.loop-exit.invariant.so_far k;
    }
