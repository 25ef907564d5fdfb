use Rattle.std.proofs.Common.{◌≡◌, map}
use Rattle.std.specs.Prelude.{Some}
use Rattle.qed_terms.specs.View.{term_tree}
use Rattle.program_trees.specs.View.{view_facts}
use Rattle.acsl_encode.specs.Encode.{put, global_of}
use Rattle.annotation_words.specs.View.{view_seen}
use Rattle.annotation_words.proofs.Calls_given.{globals_from}
use Rattle.annotation_words.proofs.calls.globals_given.Given as goal

-- what is given so far, and what is to come
abbrev pub invariant-loop-global : goal.invariant-loop-global
invariant-loop-global l =
    let one = global_of l.facts.model (view_seen (view_facts l.facts) l.seen) in
    put (Some (map term_tree l.given)) (globals_from one l.globals l.global-index)
    ≡ put (Some (map term_tree l.initial.given)) (globals_from one l.globals 0)
