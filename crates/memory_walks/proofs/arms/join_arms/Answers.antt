use Rattle.std.proofs.Common.{rules, ◌≡◌, ◌≤◌, ◌++◌, map, take, drop, length, min, ap, ◌∙◌, arith}
use Rattle.qed_terms.specs.View.{formula_tree}
use Rattle.memory_steps.specs.World.{world}
use Rattle.memory_steps.specs.Join.{join, used_by_join}
use Rattle.walk_steps.proofs.Lists.{map_both}
use Rattle.memory_worlds.specs.View.{used_by, view_base, view_slots}
use Rattle.memory_walks.specs.View.{view_state}
use Rattle.memory_walks.proofs.Begun.{front_seen, rest_seen, begins_length, length_map}
use Rattle.memory_walks.proofs.arms.join_arms.Goals as goal

pub returns : goal.returns
returns c p f h =
    let bs = map view_base c.args.bases.now in
    let xs = c.args.state.now.world.known.items in
    let u = used_by c.args.state.now.names in
    let n = c.min-from.result in
    let met = c.in_ok-met.met in
    let le : length p.world.known ≤ length xs = (let a = begins_length p.world.known (map formula_tree xs) h in let b = length_map formula_tree xs in omega (arith, a, b)) in
    let l : c.len.result ≡ length xs = search (rules, c.len.ensures) in
    let m : n ≡ min c.args.arm.from c.len.result = search (rules, c.min-from.ensures) in
    let is : n ≡ length p.world.known = omega (arith, le, l, m, f) in
    let known : c.split_off.new.self.items ≡ take n xs = search (rules, c.in_ok-known.ensures.items) in
    let rest : c.in_ok-known.known.items ≡ drop n xs = search (rules, c.in_ok-known.ensures.tail) in
    let a = world (map formula_tree c.args.arm.known.items) (view_slots c.args.arm.slots) in
    let others : map formula_tree c.in_ok-known.known.items ≡ drop (length p.world.known) (map formula_tree xs) = ap (map formula_tree) rest ∙ rest_seen formula_tree p.world.known n xs is in
    let slots' : view_slots c.taken-slots.result ≡ view_slots c.args.state.now.world.slots = c.taken-slots.ensures.taken in
    let w : world (map formula_tree met.known.items) (view_slots met.slots) ≡ join bs u a (world (drop (length p.world.known) (map formula_tree xs)) (view_slots c.args.state.now.world.slots)) =
    c.in_ok-met.ensures.joined ∙ (λ i. join bs u a (world (others i) (slots' i))) in
    let used : used_by c.join.new.names ≡ used_by_join bs u a (world (drop (length p.world.known) (map formula_tree xs)) (view_slots c.args.state.now.world.slots)) =
    c.in_ok-met.ensures.used ∙ (λ i. used_by_join bs u a (world (others i) (slots' i))) in
    let items : c.append.new.self.items ≡ c.split_off.new.self.items ++ met.known.items = search (rules, c.in_ok-append.ensures.items) in
    let all : map formula_tree c.append.new.self.items ≡ p.world.known ++ map formula_tree met.known.items =
    ap (map formula_tree) (items ∙ ap (λ ks. ks ++ met.known.items) known) ∙ map_both formula_tree (take n xs) met.known.items
    ∙ ap (λ ks. ks ++ map formula_tree met.known.items) (front_seen formula_tree p.world.known n xs is h) in
    (λ i. record (view_state c.args.state.now) { used = used_by c.join.new.names; world = world (all i) (view_slots met.slots) })
    ∙ (λ i. record (view_state c.args.state.now) { used = used i; world = world (p.world.known ++ (w i).known) (w i).slots })
