use Rattle.std.proofs.Common.{rules, ◌≡◌, ◌≤◌, ◌++◌, map, take, drop, length, min, ap, ◌∙◌, arith}
use Rattle.qed_terms.specs.Fresh.{used_in}
use Rattle.qed_terms.specs.View.{formula_tree, term_tree}
use Rattle.walk_steps.specs.World.{world}
use Rattle.walk_steps.specs.Join.{join, used_by_join}
use Rattle.walk_steps.proofs.Lists.{map_both}
use Rattle.step_walks.specs.View.{view_state}
use Rattle.step_walks.proofs.Begun.{front_seen, rest_seen, begins_length, length_map}
use Rattle.step_walks.proofs.arms.join_arms.Goals as goal

pub returns : goal.returns
returns c p f h =
    let bs = c.args.bases.now in
    let xs = c.args.state.now.world.known.items in
    let u = used_in c.args.state.now.fresh in
    let n = c.min-from.result in
    let met = c.in_ok-met.met in
    let le : length p.world.known ≤ length xs = (let a = begins_length p.world.known (map formula_tree xs) h in let b = length_map formula_tree xs in omega (arith, a, b)) in
    let l : c.len.result ≡ length xs = search (rules, c.len.ensures) in
    let m : n ≡ min c.args.arm.from c.len.result = search (rules, c.min-from.ensures) in
    let is : n ≡ length p.world.known = omega (arith, le, l, m, f) in
    let known : c.split_off.new.self.items ≡ take n xs = search (rules, c.in_ok-known.ensures.items) in
    let rest : c.in_ok-known.known.items ≡ drop n xs = search (rules, c.in_ok-known.ensures.tail) in
    let slots : c.replace-slots.result.items ≡ c.args.state.now.world.slots.items = search (rules, c.replace-slots.ensures.value) in
    let a = world (map formula_tree c.args.arm.known.items) (map term_tree c.args.arm.slots.items) in
    let others : map formula_tree c.in_ok-known.known.items ≡ drop (length p.world.known) (map formula_tree xs) = ap (map formula_tree) rest ∙ rest_seen formula_tree p.world.known n xs is in
    let slots' = ap (map term_tree) slots in
    let w : world (map formula_tree met.known.items) (map term_tree met.slots.items) ≡ join bs u a (world (drop (length p.world.known) (map formula_tree xs)) (map term_tree c.args.state.now.world.slots.items)) =
    c.in_ok-met.ensures.joined ∙ (λ i. join bs u a (world (others i) (slots' i))) in
    let used : used_in c.join.new.fresh ≡ used_by_join bs u a (world (drop (length p.world.known) (map formula_tree xs)) (map term_tree c.args.state.now.world.slots.items)) =
    c.in_ok-met.ensures.used ∙ (λ i. used_by_join bs u a (world (others i) (slots' i))) in
    let items : c.append.new.self.items ≡ c.split_off.new.self.items ++ met.known.items = search (rules, c.in_ok-append.ensures.items) in
    let all : map formula_tree c.append.new.self.items ≡ p.world.known ++ map formula_tree met.known.items =
    ap (map formula_tree) (items ∙ ap (λ ks. ks ++ met.known.items) known) ∙ map_both formula_tree (take n xs) met.known.items
    ∙ ap (λ ks. ks ++ map formula_tree met.known.items) (front_seen formula_tree p.world.known n xs is h) in
    (λ i. record (view_state c.args.state.now) { used = used_in c.join.new.fresh; world = world (all i) (map term_tree met.slots.items) })
    ∙ (λ i. record (view_state c.args.state.now) { used = used i; world = world (p.world.known ++ (w i).known) (w i).slots })
