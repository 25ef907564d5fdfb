use Rattle.std.proofs.Common.{rules, ◌≡◌, ◌++◌, ◌∷◌, [], map, ap, ◌∙◌}
use Rattle.qed_terms.specs.View.{formula_tree}
use Rattle.memory_steps.specs.World.{world}
use Rattle.memory_steps.specs.Walk.{left_by}
use Rattle.memory_worlds.specs.View.{exits_at, view_slots}
use Rattle.memory_worlds.specs.declared.ends.Exit.{Exit}
use Rattle.memory_worlds.proofs.Ending.{one_exit}
use Rattle.memory_walks.specs.View.{view_state}
use Rattle.memory_walks.proofs.states.leave.Goals as goal

pub returns : goal.returns
returns c =
    let state = c.args.state.now in
    let known : c.in_ok-known.known.items ≡ state.world.known.items = search (rules, c.in_ok-known.ensures, c.as_slice.ensures.value) in
    let slots : view_slots c.taken-slots.result ≡ view_slots state.world.slots = c.taken-slots.ensures.taken in
    let exit : Exit = record { level = c.args.level; world = record { known = c.in_ok-known.known; slots = c.taken-slots.result } } in
    let items : c.push.new.self.items ≡ state.left.items ++ exit ∷ [] = search (rules, c.in_ok-push.ensures.items) in
    λ i. record (view_state state) {
      left = λ k.
          (ap (λ es. exits_at es k) items ∙ one_exit state.left.items exit k
          ∙ (λ j. exits_at state.left.items k ++ left_by c.args.level (world (map formula_tree (known j)) (slots j)) k)) i;
      world = world (map formula_tree state.world.known.items) (c.taken-slots.ensures.left i);
    }
