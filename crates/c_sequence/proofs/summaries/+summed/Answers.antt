use Rattle.std.proofs.Common.{rules, ap, ◌∙◌}
use Rattle.typed_prog.specs.declared.tree.Value.{the_lemmas}
use Rattle.typed_prog.specs.View.{view_value_node}
use Rattle.c_sequence.specs.Sequence.{plain_of, node_summed}
use Rattle.c_sequence.specs.Around.{whole}
use Rattle.c_sequence.proofs.Down.{summed_operands, summed_no_operand, summed_logic, summed_choice, summed_effect, summed_alone}
use Rattle.c_sequence.proofs.summaries.+summed.Goals as goal

pub summed-returns-in_default : goal.summed-returns-in_default
summed-returns-in_default t c =
    summed_no_operand (plain_of c.args.globals.now c.args.locals.now) c.args.embedded c.loop-rest.rest.now c.in-Apply.op c.in-Apply.operands c.quiet-in_default.result c.whole-in_default.result _ c.loop-rest.around
    c.outside-around.result c.in-Apply.is (search rules) (search rules) c.quiet-in_default.ensures c.whole-in_default.ensures c.loop-rest.invariant.all

pub summed-loop-rest-preserved-in-Apply : goal.summed-loop-rest-preserved-in-Apply
summed-loop-rest-preserved-in-Apply t c = record {
  all =
      summed_operands (plain_of c.args.globals.now c.args.locals.now) c.args.embedded c.loop-rest.rest.now c.in-Apply.op c.in-Apply.operands c.in-Some.others.now c.in-Some.first.now c.all_summed-others.result _
      c.loop-rest.around c.outside-around.result c.outside-around-in-Apply.result c.in-Apply.is (search rules) c.all_summed-others.ensures (search rules) (search rules) c.loop-rest.invariant.all;
  no_larger = search (rules, the_lemmas);
}

pub summed-loop-rest-preserved-in-Logic : goal.summed-loop-rest-preserved-in-Logic
summed-loop-rest-preserved-in-Logic t c =
    let p = plain_of c.args.globals.now c.args.locals.now in
    record {
      all =
          ap (λ v. whole c.outside-around-in-Logic.result (node_summed p c.args.embedded (view_value_node v.node))) c.get-rest.ensures
          ∙ summed_logic p c.args.embedded c.loop-rest.rest.now c.in-Logic.field-0 c.in-Logic.first c.in-Logic.second c.summed-second.result _ c.loop-rest.around c.outside-around-in-Logic.result c.in-Logic.is
          (c.summed-second.ensures ∙ ap (λ v. node_summed p c.args.embedded (view_value_node v.node)) c.get.ensures) (search rules) c.loop-rest.invariant.all;
      no_larger = search (rules, the_lemmas);
    }

pub summed-loop-rest-preserved-in-Choose : goal.summed-loop-rest-preserved-in-Choose
summed-loop-rest-preserved-in-Choose t c =
    let p = plain_of c.args.globals.now c.args.locals.now in
    record {
      all =
          ap (λ v. whole c.outside-around-in-Choose.result (node_summed p c.args.embedded (view_value_node v.node))) c.get-rest-in-Choose.ensures
          ∙ summed_choice p c.args.embedded c.loop-rest.rest.now c.in-Choose.test c.in-Choose.first c.in-Choose.second c.summed-test.result c.summed-first.result _ c.loop-rest.around c.choice_of.result
          c.outside-around-in-Choose.result c.in-Choose.is (c.summed-test.ensures ∙ ap (λ v. node_summed p c.args.embedded (view_value_node v.node)) c.get-in-Choose.ensures)
          (c.summed-first.ensures ∙ ap (λ v. node_summed p c.args.embedded (view_value_node v.node)) c.get-in-Choose-2.ensures) c.choice_of.ensures c.outside-around-in-Choose.ensures c.loop-rest.invariant.all;
      no_larger = search (rules, the_lemmas);
    }

pub summed-returns-in_default-split_first : goal.summed-returns-in_default-split_first
summed-returns-in_default-split_first t c =
    summed_alone (plain_of c.args.globals.now c.args.locals.now) c.args.embedded c.loop-rest.rest.now c.in-Effect.effect c.in-Effect.operands c.quiet-in_default-split_first.result
    c.whole-in_default-split_first.result _ c.loop-rest.around c.outside-around-in-Effect.result c.in-Effect.is (search rules) (search rules) c.quiet-in_default-split_first.ensures
    c.whole-in_default-split_first.ensures c.loop-rest.invariant.all

pub summed-loop-rest-preserved : goal.summed-loop-rest-preserved
summed-loop-rest-preserved t c = record {
  all =
      summed_effect (plain_of c.args.globals.now c.args.locals.now) c.args.embedded c.loop-rest.rest.now c.in-Effect.effect c.in-Effect.operands c.in-Some-split_first.others.now
      c.in-Some-split_first.first.now c.all_summed-others-in-Effect.result _ c.loop-rest.around c.outside-around-in-Effect.result c.outside-around-in-Effect-2.result c.in-Effect.is (search rules)
      c.all_summed-others-in-Effect.ensures (search rules) (search rules) c.loop-rest.invariant.all;
  no_larger = search (rules, the_lemmas);
}
