use Rattle.std.proofs.Common.{rules, ◌≡◌, ◌++◌, [], length, map}
use Rattle.core_trees.specs.View.{view_variables}
use Rattle.memory_worlds.specs.View.{view_base}
use Rattle.memory_names.specs.Parts.{from_on, global_part, local_part, flagged, behind_part}
use Rattle.memory_names.proofs.Whole.{whole}
use Rattle.memory_names.proofs.bases.slot_bases.Goals as goal

pub returns : goal.returns
returns c cells same =
    let n = c.args.named in
    let first : map view_base c.push_globals.new.bases.items ≡ [] ++ from_on (global_part n.file.now (view_variables n.globals.now)) 0 (length n.globals.now)
    = search (rules, c.in_ok-push_globals.ensures) in
    let second : map view_base c.push_locals.new.bases.items
    ≡ map view_base c.push_globals.new.bases.items ++ from_on (local_part n.file.now n.own.now n.params (view_variables n.variables.now)) 0 (length n.variables.now)
    = search (rules, c.in_ok-push_locals.ensures) in
    let third : map view_base c.push_behind.new.bases.items
    ≡ map view_base c.push_locals.new.bases.items ++ behind_part n.result n.calls_point n.temporaries.now (flagged n.kinds.now)
    = search (rules, c.in_ok-push_behind.ensures) in
    whole n.file.now n.own.now n.params n.globals.now n.variables.now n.temporaries.now n.result n.calls_point cells (flagged n.kinds.now) _ _ _ first second third same
