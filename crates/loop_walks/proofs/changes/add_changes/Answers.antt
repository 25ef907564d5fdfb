use Rattle.std.proofs.Common.{◌<◌, ◌∙◌, ap, length, map, arith}
use Rattle.std.proofs.lemmas.List.{length-map}
use Rattle.core_trees.specs.View.{view_variable, view_variables}
use Rattle.program_trees.specs.View.{view_facts}
use Rattle.walk_words.specs.View.{view_change}
use Rattle.loop_words.specs.Words.{value_change}
use Rattle.loop_walks.proofs.Changing.{changes_next, changes_end, two_more}
use Rattle.loop_walks.proofs.changes.add_changes.Goals as goal

pub loop-at-preserved : goal.loop-at-preserved
loop-at-preserved c f h =
    let p = view_facts c.args.facts.now in
    let vs = c.args.variables.now in
    let i = c.loop-at.at in
    let lt : i < length vs = c.loop-at-test.true in
    let within : i < length (view_variables vs) = (let e = length-map vs view_variable in omega (arith, lt, e)) in
    changes_next p c.args.has_flags f vs i c.index-variables-at.result c.is_in-changes.result (map view_change c.loop-at.made.items) (map view_change c.push-in-loop-at.new.self.items) _ lt c.index-variables-at.is
    (c.is_in-changes.ensures (length (view_variables vs)) f h within) (c.loop-at.invariant f h)
    (two_more c.loop-at.made.items c.push.new.self.items c.push-in-loop-at.new.self.items c.value_change.result c.flag_change.result _ _ c.in_ok-push.ensures.items c.in_ok-push-2.ensures.items
    (c.value_change.ensures ∙ ap (value_change p c.is_in-changes.result) c.kind_of-kind.ensures) (c.flag_change.ensures p))

pub returns : goal.returns
returns c f h =
    let vs = c.args.variables.now in
    changes_end (view_facts c.args.facts.now) c.args.has_flags f vs c.loop-at.at (map view_change c.loop-at.made.items) _ (omega (arith, c.loop-at-test.false)) (c.loop-at.invariant f h)
