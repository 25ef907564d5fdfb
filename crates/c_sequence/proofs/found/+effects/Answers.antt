use Rattle.std.proofs.Common.{rules, ap, ◌∙◌}
use Rattle.typed_prog.specs.declared.tree.Value.{the_lemmas}
use Rattle.typed_prog.specs.View.{view_value_node}
use Rattle.c_sequence.specs.Sequence.{and_also, node_effects}
use Rattle.c_sequence.proofs.Down.{effect_operands, effect_no_operand, effect_logic, effect_choice, effect_itself, effect_alone}
use Rattle.c_sequence.proofs.found.+effects.Goals as goal

pub effects-returns-in_default : goal.effects-returns-in_default
effects-returns-in_default t c = effect_no_operand c.loop-rest.rest.now c.in-Apply.field-0 c.in-Apply.operands c.loop-rest.found _ c.in-Apply.is (search rules) c.loop-rest.invariant.all

pub effects-loop-rest-preserved-in-Apply : goal.effects-loop-rest-preserved-in-Apply
effects-loop-rest-preserved-in-Apply t c = record {
  all =
      effect_operands c.loop-rest.rest.now c.in-Apply.field-0 c.in-Apply.operands c.in-Some.others.now c.in-Some.first.now c.all_effects.result c.loop-rest.found c.and_also-found.result _ c.in-Apply.is (search rules)
      c.all_effects.ensures c.and_also-found.ensures c.loop-rest.invariant.all;
  no_larger = search (rules, the_lemmas);
}

pub effects-loop-rest-preserved-in-Logic : goal.effects-loop-rest-preserved-in-Logic
effects-loop-rest-preserved-in-Logic t c = record {
  all =
      ap (λ v. and_also (node_effects (view_value_node v.node)) c.and_also-found-in-Logic.result) c.get-rest.ensures
      ∙ effect_logic c.loop-rest.rest.now c.in-Logic.field-0 c.in-Logic.first c.in-Logic.second c.effects.result c.loop-rest.found c.and_also-found-in-Logic.result _ c.in-Logic.is
      (c.effects.ensures ∙ ap (λ v. node_effects (view_value_node v.node)) c.get.ensures) c.and_also-found-in-Logic.ensures c.loop-rest.invariant.all;
  no_larger = search (rules, the_lemmas);
}

pub effects-loop-rest-preserved-in-Choose : goal.effects-loop-rest-preserved-in-Choose
effects-loop-rest-preserved-in-Choose t c = record {
  all =
      ap (λ v. and_also (node_effects (view_value_node v.node)) c.and_also-found-in-Choose.result) c.get-rest-in-Choose.ensures
      ∙ effect_choice c.loop-rest.rest.now c.in-Choose.test c.in-Choose.first c.in-Choose.second c.effects-in-Choose.result c.effects-in-Choose-2.result c.and_also-before.result c.loop-rest.found
      c.and_also-found-in-Choose.result _ c.in-Choose.is (c.effects-in-Choose.ensures ∙ ap (λ v. node_effects (view_value_node v.node)) c.get-in-Choose.ensures)
      (c.effects-in-Choose-2.ensures ∙ ap (λ v. node_effects (view_value_node v.node)) c.get-in-Choose-2.ensures) c.and_also-before.ensures c.and_also-found-in-Choose.ensures c.loop-rest.invariant.all;
  no_larger = search (rules, the_lemmas);
}

pub effects-returns-in_default-split_first : goal.effects-returns-in_default-split_first
effects-returns-in_default-split_first t c =
    effect_alone c.loop-rest.rest.now c.in-Effect.effect c.in-Effect.operands c.loop-rest.found c.and_also-found-in-Effect.result _ c.in-Effect.is (search rules) (search rules) c.loop-rest.invariant.all

pub effects-loop-rest-preserved : goal.effects-loop-rest-preserved
effects-loop-rest-preserved t c = record {
  all =
      effect_itself c.loop-rest.rest.now c.in-Effect.effect c.in-Effect.operands c.in-Some-split_first.others.now c.in-Some-split_first.first.now c.all_effects-in-Effect.result c.loop-rest.found
      c.and_also-found-in-Effect.result c.and_also-found-in-Effect-2.result _ c.in-Effect.is (search rules) (search rules) c.all_effects-in-Effect.ensures c.and_also-found-in-Effect-2.ensures c.loop-rest.invariant.all;
  no_larger = search (rules, the_lemmas);
}
