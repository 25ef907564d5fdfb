use Rattle.std.proofs.Common.{[]}
use Rattle.std.proofs.lemmas.List.Elements.{All-nil, All-same}
use Rattle.branch_accesses.specs.Ids.{block_ids, side_ids}
use Rattle.branch_accesses.proofs.AskedLaws.{blocks_held, sides_held}
use Rattle.trigger_instances.proofs.AskedLaws.{asked_are, held_behind}
use Rattle.trigger_instances.proofs.asked.asked_terms.Goals as goal

pub put_trigger_blocks-requires-clause-out : goal.put_trigger_blocks-requires-clause-out
put_trigger_blocks-requires-clause-out g c =
    let held = g.S.TermStore.held c.args.store.now in
    let none = c.new-asked.result.items in
    let one = c.put_sides.new.out.items in
    held_behind held one (block_ids c.args.accesses.now) c.put_blocks.new.out.items c.in_ok-put_blocks.ensures
    (held_behind held none (side_ids c.args.loads.now) one c.in_ok-put_sides.ensures (All-same held none [] c.new-asked.ensures.items (All-nil held)) (sides_held held c.args.loads.now c.requires.loads))
    (blocks_held held c.args.accesses.now c.requires.accesses)

pub returns-clause-terms : goal.returns-clause-terms
returns-clause-terms g c =
    let tree = g.S.TermStore.tree c.args.store.now in
    asked_are tree c.args.loads.now c.args.accesses.now c.new-asked.result.items c.put_sides.new.out.items c.put_blocks.new.out.items c.put_trigger_blocks.new.out.items _ c.new-asked.ensures.items c.in_ok-put_sides.ensures c.in_ok-put_blocks.ensures
    c.in_ok-put_trigger_blocks.ensures.blocks
