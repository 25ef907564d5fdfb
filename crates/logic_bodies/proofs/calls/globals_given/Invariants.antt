use Rattle.std.proofs.Common.{◌≡◌, map}
use Rattle.std.specs.Prelude.{Some}
use Rattle.qed_terms.specs.View.{term_tree}
use Rattle.acsl_encode.specs.Encode.{put, global_of}
use Rattle.annotation_words.proofs.Calls_given.{globals_from}
use Rattle.logic_bodies.specs.View.{reading_in}
use Rattle.logic_bodies.proofs.calls.globals_given.Given as goal

-- what is given so far, and what is to come
abbrev pub invariant-loop-global : goal.invariant-loop-global
invariant-loop-global l =
    let one = global_of (reading_in l.reading).common.model (reading_in l.reading).here in
    put (Some (map term_tree l.given)) (globals_from one l.globals l.global-index)
    ≡ put (Some (map term_tree l.initial.given)) (globals_from one l.globals 0)
