use Rattle.std.proofs.Common.{◌<◌, ◌≤◌, length, map, ap, ◌∙◌, arith}
use Rattle.std.specs.Prelude.{Some}
use Rattle.qed_terms.specs.View.{term_tree}
use Rattle.program_trees.specs.View.{view_facts}
use Rattle.acsl_encode.specs.Encode.{put, all_put, arguments, global_of}
use Rattle.annotation_heads.specs.View.{view_terms}
use Rattle.annotation_words.specs.View.{view_global, view_named, view_seen}
use Rattle.annotation_words.proofs.Calls_given.{memories_missing, all_there}
use Rattle.annotation_words.proofs.calls.all_given.Goals as goal

pub returns-then-len-gt0 : goal.returns-then-len-gt0
returns-then-len-gt0 c =
    let facts = view_facts c.args.reading.facts.now in
    let given = arguments (map view_named c.args.function.now.params) (map view_terms c.args.kids.now) in
    let globals = all_put (global_of facts.model (view_seen facts c.args.reading.here)) (map view_global c.args.function.now.globals) in
    let some : 0 < length c.args.function.now.memories = omega (arith, c.if-len-gt0.true, c.len.ensures) in
    memories_missing facts c.args.reading.here given globals c.args.function.now.memories c.args.given.now some

pub returns : goal.returns
returns c =
    let facts = view_facts c.args.reading.facts.now in
    let values = map view_terms c.args.kids.now in
    let given = arguments (map view_named c.args.function.now.params) values in
    let globals = all_put (global_of facts.model (view_seen facts c.args.reading.here)) (map view_global c.args.function.now.globals) in
    let none : length c.args.function.now.memories ≤ 0 = omega (arith, c.if-len-gt0.false, c.len.ensures) in
    let front = c.in_ok-there.ensures ∙ ap (λ ps. put (Some (map term_tree c.args.given.now)) (arguments (map view_named ps) values)) c.as_slice.ensures in
    let behind = c.in_ok-there-2.ensures
    ∙ ap (λ gs. put (Some (map term_tree c.arguments.new.given)) (all_put (global_of facts.model (view_seen facts c.args.reading.here)) (map view_global gs))) c.as_slice-2.ensures in
    all_there facts c.args.reading.here given globals _ c.args.function.now.memories c.args.given.now c.arguments.new.given c.in_ok-there.there
    front c.if-not-there.false none behind
