use Rattle.std.proofs.Common.{ap, ◌∙◌, ◌++◌, map}
use Rattle.std.proofs.lemmas.List.Elements.{All-same}
use Rattle.instance_rows.specs.Accesses.{accesses_in}
use Rattle.instance_rows.specs.Triggers.{nodes_with}
use Rattle.branch_accesses.specs.Ids.{block_ids, AccessHeld}
use Rattle.branch_accesses.proofs.AskedLaws.{blocks_held}
use Rattle.trigger_instances.proofs.AskedLaws.{blocks_behind, held_behind}
use Rattle.trigger_instances.proofs.asked.put_body_blocks.Goals as goal

pub returns-clause-blocks : goal.returns-clause-blocks
returns-clause-blocks g c =
    let tree = g.S.TermStore.tree c.args.store.now in
    let body = tree c.args.quantified.now.body in
    let nodes = ap (map tree) c.as_slice.ensures.value ∙ c.in_ok-push_nodes_with.ensures.nodes ∙ ap (λ xs. map tree xs ++ nodes_with c.bytes.result.now body) c.new-nodes.ensures.items ∙ ap (λ x. nodes_with x body) c.bytes.ensures in
    blocks_behind tree c.in_ok-accesses.accesses.items c.as_slice-2.result.now c.args.out.now.items c.put_blocks.new.out.items _ c.in_ok-put_blocks.ensures c.as_slice-2.ensures.value
    (c.in_ok-accesses.ensures.accesses ∙ ap accesses_in nodes)

pub returns-clause-held : goal.returns-clause-held
returns-clause-held g c =
    let held = g.S.TermStore.held c.args.store.now in
    let slice = c.as_slice-2.result.now in
    held_behind held c.args.out.now.items (block_ids slice) c.put_blocks.new.out.items c.in_ok-put_blocks.ensures c.requires.out
    (blocks_held held slice (All-same (AccessHeld held) slice c.in_ok-accesses.accesses.items c.as_slice-2.ensures.value c.in_ok-accesses.ensures.held))
