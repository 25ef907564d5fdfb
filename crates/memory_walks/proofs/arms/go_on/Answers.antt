use Rattle.std.proofs.Common.{rules, ◌≡◌, ◌++◌, map, take, ap, ◌∙◌}
use Rattle.qed_terms.specs.View.{formula_tree}
use Rattle.memory_steps.specs.World.{world}
use Rattle.walk_steps.proofs.Lists.{map_both}
use Rattle.memory_worlds.specs.View.{view_slots}
use Rattle.memory_walks.specs.View.{view_state}
use Rattle.memory_walks.proofs.Begun.{front_seen}
use Rattle.memory_walks.proofs.arms.go_on.Goals as goal

pub returns : goal.returns
returns c p e h =
    let arm = c.args.arm in
    let xs = c.args.state.now.world.known.items in
    let items : c.append.new.self.items ≡ take arm.from xs ++ arm.known.items = search (rules, c.in_ok-append.ensures.items, c.truncate.ensures.items) in
    let known : map formula_tree c.append.new.self.items ≡ p.world.known ++ map formula_tree arm.known.items =
    ap (map formula_tree) items ∙ map_both formula_tree (take arm.from xs) arm.known.items
    ∙ ap (λ ks. ks ++ map formula_tree arm.known.items) (front_seen formula_tree p.world.known arm.from xs e h) in
    λ i. record (view_state c.args.state.now) { world = world (known i) (view_slots arm.slots) }
