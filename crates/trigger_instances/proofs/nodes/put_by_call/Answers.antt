use Rattle.std.proofs.Common.{sym, ap, map, ◌∙◌}
use Rattle.std.specs.Prelude.{option_map}
use Rattle.instance_rows.specs.Candidates.{if_call}
use Rattle.forall_instances.specs.Foralls.{forall_of}
use Rattle.trigger_instances.specs.Ids.{call_of}
use Rattle.trigger_instances.proofs.Given.{all_none}
use Rattle.trigger_instances.proofs.nodes.put_by_call.Goals as goal

pub returns-in-None : goal.returns-in-None
returns-in-None g c =
    let tree = g.S.TermStore.tree c.args.store.now in
    all_none (g.S.TermStore.held c.args.store.now) tree c.args.out.now.items _ c.requires.out
    (ap (λ o. if_call (forall_of tree c.args.quantified.now) o (map (call_of tree) c.args.calls.now)) (sym c.in_ok-found.ensures.call ∙ ap (option_map (call_of tree)) c.in-None.is))
