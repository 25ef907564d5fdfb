use Rattle.std.proofs.Common.{rules, ◌≡◌, ◌++◌, ◌∷◌, [], map, ap, ◌∙◌}
use Rattle.qed_terms.specs.View.{formula_tree, term_tree}
use Rattle.walk_steps.specs.World.{world}
use Rattle.walk_steps.specs.Walk.{left_by}
use Rattle.walk_words.specs.View.{exits_at}
use Rattle.walk_words.specs.declared.ends.Exit.{Exit}
use Rattle.walk_words.proofs.Ending.{one_exit}
use Rattle.step_walks.specs.View.{view_state}
use Rattle.step_walks.proofs.states.leave.Goals as goal

pub returns : goal.returns
returns c =
    let state = c.args.state.now in
    let known : c.in_ok-known.known.items ≡ state.world.known.items = search (rules, c.in_ok-known.ensures, c.as_slice.ensures.value) in
    let slots : c.into_vec-slots.result.items ≡ state.world.slots.items = search (rules, c.into_vec-slots.ensures, c.in_ok-copy_slots.ensures, c.as_slice-2.ensures.value) in
    let exit : Exit = record { level = c.args.level; world = record { known = c.in_ok-known.known; slots = c.into_vec-slots.result } } in
    let items : c.push.new.self.items ≡ state.left.items ++ exit ∷ [] = search (rules, c.in_ok-push.ensures.items) in
    λ i. record (view_state state) {
      left = λ k.
          (ap (λ es. exits_at es k) items ∙ one_exit state.left.items exit k
          ∙ (λ j. exits_at state.left.items k ++ left_by c.args.level (world (map formula_tree (known j)) (map term_tree (slots j))) k)) i;
    }
