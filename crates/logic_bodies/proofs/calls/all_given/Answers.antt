use Rattle.std.proofs.Common.{◌<◌, length, map, arith}
use Rattle.program_trees.specs.View.{view_facts}
use Rattle.acsl_encode.specs.Encode.{all_put, arguments, global_of}
use Rattle.annotation_heads.specs.View.{view_terms}
use Rattle.annotation_words.specs.View.{view_global, view_named}
use Rattle.logic_bodies.specs.View.{known_in, globals_in, reading_in}
use Rattle.logic_bodies.proofs.Given.{memories_missing}
use Rattle.logic_bodies.proofs.calls.all_given.Goals as goal

pub returns-then-len-gt0 : goal.returns-then-len-gt0
returns-then-len-gt0 c =
    let facts = view_facts c.args.reading.facts.now in
    let given = arguments (map view_named c.args.function.now.params) (map view_terms c.args.kids.now) in
    let r = reading_in c.args.reading in
    let globals = all_put (global_of r.common.model r.here) (map view_global c.args.function.now.globals) in
    let some : 0 < length c.args.function.now.memories = omega (arith, c.if-len-gt0.true, c.len.ensures) in
    memories_missing facts (known_in c.args.reading) (globals_in c.args.reading) given globals c.args.function.now.memories c.args.given.now some
