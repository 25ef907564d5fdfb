use Rattle.std.proofs.Common.{sym, ap, map, ◌∙◌}
use Rattle.std.specs.Prelude.{option_map}
use Rattle.qed_terms.specs.View.{view_logic}
use Rattle.instance_rows.specs.Candidates.{by_literal}
use Rattle.branch_accesses.specs.Ids.{access_of}
use Rattle.forall_instances.specs.Foralls.{forall_of}
use Rattle.trigger_instances.specs.Ids.{call_of}
use Rattle.trigger_instances.proofs.Given.{puts_none}
use Rattle.trigger_instances.proofs.foralls.put_literal.Goals as goal

pub returns-in-None : goal.returns-in-None
returns-in-None g c =
    let tree = g.S.TermStore.tree c.args.store.now in
    puts_none c.args.closed.now (g.S.TermStore.held c.args.store.now) tree c.args.table.now c.args.out.now.items _ c.requires.kept c.requires.out
    (ap (by_literal (map view_logic c.args.functions.now) (map (access_of tree) c.args.accesses.now) (map (call_of tree) c.args.calls.now)) (sym c.in_ok-found.ensures.quantified ∙ ap (option_map (forall_of tree)) c.in-None.is))
