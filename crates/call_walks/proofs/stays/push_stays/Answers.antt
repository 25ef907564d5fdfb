use Rattle.std.proofs.Common.{rules, ◌≡◌, length, map}
use Rattle.qed_terms.specs.View.{formula_tree, term_tree}
use Rattle.program_trees.specs.View.{view_behavior, view_contract}
use Rattle.call_words.specs.Sets.{may_differ}
use Rattle.call_walks.proofs.Turns.{stays_turn}
use Rattle.call_walks.proofs.stays.push_stays.Goals as goal

pub loop-variable-preserved : goal.loop-variable-preserved
loop-variable-preserved c =
    let counted : c.in-Ok.count ≡ length c.args.facts.now.globals = search (rules, c.in-Ok.ensures, c.len.ensures) in
    stays_turn (map term_tree c.args.now.now) (map term_tree c.args.before.now) (may_differ (view_contract c.args.contract.now)) (formula_tree c.args.assumed.now) (view_behavior c.args.behavior.now).assigns
    c.args.facts.now.globals c.in-Ok.count c.loop-variable.variable (map formula_tree c.loop-variable.made) (map formula_tree c.push_stay.new.made) _ c.loop-variable-test.true counted c.loop-variable.invariant c.in_ok-push_stay.ensures
