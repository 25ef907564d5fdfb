use Rattle.std.proofs.Common.{rules, ◌≡◌, ◌≤◌, ◌++◌, map, take, drop, length, min, sym, ap, ◌∙◌, arith}
use Rattle.std.proofs.lemmas.List.{take-append-drop}
use Rattle.qed_terms.specs.View.{formula_tree}
use Rattle.memory_steps.specs.World.{world}
use Rattle.walk_steps.proofs.Lists.{map_both}
use Rattle.memory_worlds.specs.View.{view_slots}
use Rattle.memory_walks.specs.View.{view_state}
use Rattle.memory_walks.proofs.Begun.{front_seen, begins_length, length_map}
use Rattle.memory_walks.proofs.arms.turn_back.Goals as goal

pub returns : goal.returns
returns c p f h =
    let xs = c.args.state.now.world.known.items in
    let n = c.min-from.result in
    let le : length p.world.known ≤ length xs = (let a = begins_length p.world.known (map formula_tree xs) h in let b = length_map formula_tree xs in omega (arith, a, b)) in
    let l : c.len.result ≡ length xs = search (rules, c.len.ensures) in
    let m : n ≡ min c.args.fork.from c.len.result = search (rules, c.min-from.ensures) in
    let is : n ≡ length p.world.known = (let e = f.from in omega (arith, le, l, m, e)) in
    let known : c.split_off.new.self.items ≡ take n xs = search (rules, c.in_ok-known.ensures.items) in
    let rest : c.in_ok-known.known.items ≡ drop n xs = search (rules, c.in_ok-known.ensures.tail) in
    let slots : view_slots c.replace-slots.result ≡ view_slots c.args.state.now.world.slots = ap view_slots c.replace-slots.ensures.value in
    let after : view_slots c.replace-slots.new.dest ≡ view_slots c.args.fork.slots = ap view_slots c.replace-slots.ensures.after in
    let front : map formula_tree (take n xs) ≡ p.world.known = front_seen formula_tree p.world.known n xs is h in
    record {
      is_arm = record {
        from = is;
        world =
            (λ i. world (map formula_tree (sym (take-append-drop n xs) i)) (sym slots i))
            ∙ ap (λ ks. world ks (view_slots c.replace-slots.result))
            (map_both formula_tree (take n xs) (drop n xs) ∙ (λ i. front i ++ map formula_tree (sym rest i)));
      };
      back = λ i. record (view_state c.args.state.now) { world = world ((ap (map formula_tree) known ∙ front) i) ((after ∙ f.slots) i) };
    }
