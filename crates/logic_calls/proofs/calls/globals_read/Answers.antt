use Rattle.std.proofs.Common.{ap, ◌∙◌, map}
use Rattle.acsl_encode.specs.Readings.{Global}
use Rattle.acsl_encode.specs.Told as told
use Rattle.acsl_expand.specs.Expansion.{view_all}
use Rattle.annotation_words.specs.View.{view_global}
use Rattle.logic_calls.specs.Told as spec
use Rattle.logic_trees.specs.declared.questions.Asked.TheVariants as asking
use Rattle.logic_calls.proofs.Those.{global_turn}
use Rattle.logic_calls.proofs.calls.globals_read.Goals as goal

pub loop-at-preserved : goal.loop-at-preserved
loop-at-preserved c =
    let read = λ (g : Global). spec.reads_at c.args.count (view_all c.args.definitions.now) c.args.function (asking.Variable (told.number_of g)) in
    let made = c.in_ok-read.ensures
    ∙ ap (λ n. spec.reads_at c.args.count (view_all c.args.definitions.now) c.args.function (asking.Variable n)) c.number_of.ensures in
    let put = c.in_ok-put_global.ensures in
    global_turn read c.args.globals.now c.loop-at.at c.index-globals-at.result (map view_global c.loop-at.made) (map view_global c.put_global.new.out)
    c.in_ok-read.read _ c.loop-at.invariant c.loop-at-test.true c.index-globals-at.is made put
