use Rattle.std.proofs.Common.{map}
use Rattle.c_syntax.specs.View.{view_var}
use Rattle.acsl_guards.specs.Mentions.{names_of}
use Rattle.acsl_guards.specs.Guarding as spec
use Rattle.acsl_guards.specs.Parts.{candidates_in, preds_in}
use Rattle.acsl_guards.proofs.Gathered.{candidate_turn}
use Rattle.acsl_guards.proofs.ranges.candidates.Goals as goal

pub loop-number-preserved : goal.loop-number-preserved
loop-number-preserved c =
    candidate_turn (names_of (map view_var c.args.binders.now)) c.args.preds.now c.loop-number.number c.index-preds-number.result (candidates_in c.loop-number.found.items) (candidates_in c.put_candidate.new.found.items)
    (spec.candidates (names_of (map view_var c.args.binders.now)) 0 (preds_in c.args.preds.now)) c.loop-number-test.true c.index-preds-number.is c.in_ok-put_candidate.ensures c.loop-number.invariant
