use Rattle.std.proofs.Common.{rules, arith, Err, sym, ap, subst, ◌∙◌}
use Rattle.std.proofs.lemmas.Result.{err_from_is_err_and}
use Rattle.std.proofs.lemmas.List.{map_push}
use Rattle.c_syntax.specs.declared.expr.Expr.{the_lemmas}
use Rattle.c_syntax.specs.View.{view_expr}
use Rattle.c_syntax.proofs.Equations.{view_expr_node-Field}
use Rattle.c_answers.specs.Answers.{Gives, after}
use Rattle.c_rules.specs.Operators.{conditional}
use Rattle.typed_prog.specs.View.{view_value, view_values}
use Rattle.c_operands.specs.Operands.{view_operand}
use Rattle.c_exprs.specs.Typing.{around, typed, typed_for}
use Rattle.c_exprs.specs.Frames.{all_framed, args_of}
use Rattle.c_exprs.proofs.Framing.{nothing_around, binary_turn, index_turn, assign_turn, assign_fault, field_turn, step_turn, at_operand, cond_is}
use Rattle.c_exprs.proofs.Arguments.{argument_turn, argument_fault}
use Rattle.c_exprs.proofs.exprs.+exprs.Goals as goal

pub typed_expr-loop-rest-init : goal.typed_expr-loop-rest-init
typed_expr-loop-rest-init t c = record {
  whole = nothing_around (around c.args.model c.args.sizes.now c.args.scope.now) _ _ c.new-frames.ensures.items;
  no_larger = search rules;
}

pub typed_expr-loop-rest-preserved-in-Binary : goal.typed_expr-loop-rest-preserved-in-Binary
typed_expr-loop-rest-preserved-in-Binary t c =
    let s = around c.args.model c.args.sizes.now c.args.scope.now in record {
      whole =
          ap (λ e. all_framed s c.push.new.self.items (typed s (view_expr e))) c.get-rest.ensures
          ∙ binary_turn s c.loop-rest.frames.items c.push.new.self.items c.loop-rest.rest.now c.in-Binary.left c.in-Binary.right c.in-Binary.op c.in_ok-right-in-Binary.right (typed s (view_expr c.args.expr.now))
          c.in-Binary.is c.in_ok-push-in-Binary.ensures.items
          (ap (λ e. typed s (view_expr e)) (sym c.get.ensures) ∙ c.in_ok-right-in-Binary.ensures (typed s (view_expr c.get.result.now)) c.typed_expr.ensures) c.loop-rest.invariant.whole;
      no_larger = search (rules, the_lemmas);
    }

pub typed_expr-loop-rest-preserved-in-Index : goal.typed_expr-loop-rest-preserved-in-Index
typed_expr-loop-rest-preserved-in-Index t c =
    let s = around c.args.model c.args.sizes.now c.args.scope.now in record {
      whole =
          ap (λ e. all_framed s c.push-in-Index.new.self.items (typed s (view_expr e))) c.get-rest-in-Index.ensures
          ∙ index_turn s c.loop-rest.frames.items c.push-in-Index.new.self.items c.loop-rest.rest.now c.in-Index.of c.in-Index.at c.in_ok-at-in-Index.at (typed s (view_expr c.args.expr.now))
          c.in-Index.is c.in_ok-push-in-Index.ensures.items
          (ap (λ e. typed s (view_expr e)) (sym c.get-in-Index.ensures) ∙ c.in_ok-at-in-Index.ensures (typed s (view_expr c.get-in-Index.result.now)) c.typed_expr-in-Index.ensures) c.loop-rest.invariant.whole;
      no_larger = search (rules, the_lemmas);
    }

pub typed_expr-loop-rest-preserved-in-Assign : goal.typed_expr-loop-rest-preserved-in-Assign
typed_expr-loop-rest-preserved-in-Assign t c =
    let s = around c.args.model c.args.sizes.now c.args.scope.now in record {
      whole =
          ap (λ e. all_framed s c.push-in-Assign.new.self.items (typed s (view_expr e))) c.get-rest-in-Assign.ensures
          ∙ assign_turn s c.loop-rest.frames.items c.push-in-Assign.new.self.items c.loop-rest.rest.now c.in-Assign.place c.in-Assign.value c.in-Assign.op c.in_ok-place-in-Assign.place (typed s (view_expr c.args.expr.now))
          c.in-Assign.is c.in_ok-push-in-Assign.ensures.items
          (ap (λ e. typed s (view_expr e)) (sym c.get-in-Assign.ensures) ∙ c.in_ok-place-in-Assign.ensures) c.loop-rest.invariant.whole;
      no_larger = search (rules, the_lemmas);
    }

pub typed_expr-returns-in_err-place-in-Assign : goal.typed_expr-returns-in_err-place-in-Assign
typed_expr-returns-in_err-place-in-Assign t c =
    let s = around c.args.model c.args.sizes.now c.args.scope.now in
    let fault = err_from_is_err_and c.from_residual-in_err-place-in-Assign.result c.from_residual-in_err-place-in-Assign.ensures.1 in
    rw (fault.1, fault.2)
    (assign_fault view_operand view_operand s c.loop-rest.frames.items c.loop-rest.rest.now c.in-Assign.place c.in-Assign.value c.in-Assign.op _ (typed s (view_expr c.args.expr.now)) c.in-Assign.is
    (subst (λ e. Gives view_operand (Err c.in_err-place-in-Assign.field-0.0) (typed s (view_expr e))) c.get-in-Assign.ensures c.in_err-place-in-Assign.ensures) c.loop-rest.invariant.whole)

pub typed_expr-loop-rest-preserved-in-Field : goal.typed_expr-loop-rest-preserved-in-Field
typed_expr-loop-rest-preserved-in-Field t c =
    let s = around c.args.model c.args.sizes.now c.args.scope.now in record {
      whole =
          ap (λ e. all_framed s c.push-in-Field.new.self.items (typed s (view_expr e))) c.get-rest-in-Field.ensures
          ∙ field_turn s c.loop-rest.frames.items c.push-in-Field.new.self.items c.loop-rest.rest.now c.in-Field.of _ c.in-Field.name c.in-Field.arrow (typed s (view_expr c.args.expr.now))
          c.in-Field.is c.in_ok-push-in-Field.ensures.items
          (sym (ap (typed s) (view_expr_node-Field c.in-Field.of c.in-Field.name c.in-Field.arrow c.loop-rest.rest.now.line))) c.loop-rest.invariant.whole;
      no_larger = search (rules, the_lemmas);
    }

pub typed_expr-loop-rest-preserved : goal.typed_expr-loop-rest-preserved
typed_expr-loop-rest-preserved t c =
    let s = around c.args.model c.args.sizes.now c.args.scope.now in record {
      whole =
          ap (λ e. all_framed s c.push-in-Step.new.self.items (typed s (view_expr e))) c.get-rest-in-Step.ensures
          ∙ step_turn s c.loop-rest.frames.items c.push-in-Step.new.self.items c.loop-rest.rest.now c.in-Step.of c.in-Step.up c.in-Step.prefix (typed s (view_expr c.args.expr.now))
          c.in-Step.is c.in_ok-push-in-Step.ensures.items c.loop-rest.invariant.whole;
      no_larger = search (rules, the_lemmas);
    }

pub typed_expr-returns-in-Cond : goal.typed_expr-returns-in-Cond
typed_expr-returns-in-Cond t c =
    let s = around c.args.model c.args.sizes.now c.args.scope.now in
    let test = typed s (view_expr c.get-in-Cond.result.now) in
    let first = typed s (view_expr c.get-in-Cond-2.result.now) in
    let second = typed s (view_expr c.get-in-Cond-3.result.now) in
    at_operand view_operand view_operand s c.loop-rest.frames.items c.conditional_of-first.result c.done-in-Cond.result
    (after test (λ v. after first (λ w. after second (conditional s.model c.loop-rest.rest.now.line v w)))) (typed s (view_expr c.args.expr.now)) c.done-in-Cond.ensures
    (c.conditional_of-first.ensures test first second c.typed_expr-test.ensures c.typed_expr-first.ensures c.typed_expr-second.ensures)
    (cond_is s c.loop-rest.frames.items c.loop-rest.rest.now c.in-Cond.test c.in-Cond.first c.in-Cond.second c.get-in-Cond.result.now c.get-in-Cond-2.result.now c.get-in-Cond-3.result.now
    (typed s (view_expr c.args.expr.now)) c.in-Cond.is c.get-in-Cond.ensures c.get-in-Cond-2.ensures c.get-in-Cond-3.ensures c.loop-rest.invariant.whole)

pub typed_for-loop-i-preserved : goal.typed_for-loop-i-preserved
typed_for-loop-i-preserved t c =
    let s = around c.args.model c.args.sizes.now c.args.scope.now in
    argument_turn s c.args.params.now c.args.args.now c.loop-i.i c.index-params-i.result c.index-args-i.result (view_values c.loop-i.values) (view_values c.push.new.self) (view_value c.in_ok-value.value)
    (typed_for s c.args.params.now (args_of c.args.args.now)) (omega arith) (omega arith) c.index-params-i.is c.index-args-i.is
    (c.in_ok-value.ensures (typed s (view_expr c.index-args-i.result)) c.typed_expr-operand.ensures)
    (ap view_values c.in_ok-push.ensures.ok ∙ map_push view_value c.loop-i.values c.in_ok-value.value) c.loop-i.invariant

pub typed_for-returns-in_err-value : goal.typed_for-returns-in_err-value
typed_for-returns-in_err-value t c =
    let s = around c.args.model c.args.sizes.now c.args.scope.now in
    let fault = err_from_is_err_and c.from_residual.result c.from_residual.ensures.1 in
    rw (fault.1, fault.2)
    (argument_fault view_value view_values s c.args.params.now c.args.args.now c.loop-i.i c.index-params-i.result c.index-args-i.result (view_values c.loop-i.values) _
    (typed_for s c.args.params.now (args_of c.args.args.now)) (omega arith) (omega arith) c.index-params-i.is c.index-args-i.is
    (c.in_err-value.ensures (typed s (view_expr c.index-args-i.result)) c.typed_expr-operand.ensures) c.loop-i.invariant)
