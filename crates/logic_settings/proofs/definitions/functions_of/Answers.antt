use Rattle.std.proofs.Common.{◌≡◌, length, subst, arith}
use Rattle.program_trees.specs.View.{view_facts}
use Rattle.logic_calls.specs.View.{view_names}
use Rattle.logic_settings.specs.Growing.{HasFirst}
use Rattle.logic_settings.proofs.Ordering_all.{none_first, one_more}
use Rattle.logic_settings.proofs.definitions.functions_of.Goals as goal

pub loop-at-init : goal.loop-at-init
loop-at-init c = none_first (view_facts c.args.facts.now) (view_names c.args.names.now) c.new-known.result.items c.new-logic.result.items c.new-known.ensures.items c.new-logic.ensures.items

pub loop-at-preserved : goal.loop-at-preserved
loop-at-preserved c =
    one_more (view_facts c.args.facts.now) (view_names c.args.names.now) c.loop-at.at c.loop-at.known.items c.put_definition.new.known.items c.loop-at.logic.items
    c.put_definition.new.logic.items c.loop-at.invariant c.in_ok-put_definition.ensures

pub returns : goal.returns
returns c =
    let last : c.loop-at.at ≡ length c.args.facts.now.definitions = omega (arith, c.len-at-end.ensures, c.loop-at-test.false, c.loop-at.auto.at-end) in
    subst (λ n. HasFirst (view_facts c.args.facts.now) (view_names c.args.names.now) n c.loop-at.known.items c.loop-at.logic.items) last c.loop-at.invariant
