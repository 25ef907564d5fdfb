use Rattle.std.proofs.Common.{◌∙◌, arith}
use Rattle.std.proofs.lemmas.List.{take_rest, length-drop}
use Rattle.c_lexer.proofs.lexer.inside.Goals as goal

pub loop-rest-preserved : goal.loop-rest-preserved
loop-rest-preserved c =
    let rest = c.loop-rest.rest.now in
    let place = c.in_ok-place.place in
    let bound = c.in_ok-place.ensures.bound in
    record {
      lines = rw take_rest (omega (arith, length-drop place.len rest, c.loop-rest.invariant.lines, bound.1, bound.2));
      few = c.in_ok-place.ensures.few;
      all = λ more. rw take_rest (c.in_ok-place.ensures.items more ∙ c.loop-rest.invariant.all more);
    }
