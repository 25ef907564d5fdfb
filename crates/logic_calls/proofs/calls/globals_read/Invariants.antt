use Rattle.std.proofs.Common.{◌≡◌, ◌++◌, map}
use Rattle.acsl_encode.specs.Readings.{Global}
use Rattle.acsl_encode.specs.Told as told
use Rattle.acsl_expand.specs.Expansion.{view_all}
use Rattle.annotation_words.specs.View.{view_global}
use Rattle.logic_calls.specs.Told as spec
use Rattle.logic_trees.specs.declared.questions.Asked.TheVariants as asking
use Rattle.logic_calls.proofs.Those.{globals_from_place}
use Rattle.logic_calls.proofs.calls.globals_read.Given as goal

-- those so far, and those to come
abbrev pub invariant-loop-at : goal.invariant-loop-at
invariant-loop-at l =
    let read = λ (g : Global). spec.reads_at l.count (view_all l.definitions) l.function (asking.Variable (told.number_of g)) in
    map view_global l.made ++ globals_from_place read l.globals l.at ≡ told.those read (map view_global l.globals)
