use Rattle.std.proofs.Common.{◌∙◌, arith, false, drop}
use Rattle.std.proofs.lemmas.List.{take_rest, length-drop}
use Rattle.std.proofs.lemmas.Result.{err_from_is_err_and}
use Rattle.c_lexer.specs.Steps.{all_items}
use Rattle.c_lexer.proofs.Items.{goes_on, stops}
use Rattle.c_lexer.proofs.lexer.lex.Goals as goal

pub returns-in_err-place : goal.returns-in_err-place
returns-in_err-place c =
    let p = err_from_is_err_and c.from_residual.result c.from_residual.ensures.1 in
    rw (p.1, p.2) (stops c.loop-rest.tokens (all_items false c.loop-rest.line c.loop-rest.fresh c.loop-rest.rest.now) _ _ c.in_err-place.ensures.items c.loop-rest.invariant.all)

pub loop-rest-preserved : goal.loop-rest-preserved
loop-rest-preserved c =
    let rest = c.loop-rest.rest.now in
    let place = c.in_ok-place.place in
    let bound = c.in_ok-place.ensures.bound in
    record {
      lines = rw take_rest (omega (arith, length-drop place.len rest, c.loop-rest.invariant.lines, bound.1, bound.2));
      few = c.in_ok-place.ensures.few;
      all = rw take_rest (goes_on c.loop-rest.tokens c.step.new.tokens (all_items false place.line place.fresh (drop place.len rest)) (all_items false c.loop-rest.line c.loop-rest.fresh rest) c.in_ok-place.ensures.items ∙ c.loop-rest.invariant.all);
    }
