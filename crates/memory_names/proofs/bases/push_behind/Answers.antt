use Rattle.std.proofs.Common.{rules, ◌≡◌, ◌++◌, length, map}
use Rattle.std.specs.Prelude.{codes}
use Rattle.memory_worlds.specs.View.{view_base}
use Rattle.memory_names.specs.Names.{is_pointer_result}
use Rattle.memory_names.specs.Parts.{two_of, from_on, temporary_part, flagged, memories}
use Rattle.memory_names.proofs.Pushing.{parts_pushed}
use Rattle.memory_names.proofs.bases.push_behind.Goals as goal

pub returns : goal.returns
returns c =
    let has = flagged c.args.kinds.now in
    let first : map view_base c.push_fixed.new.bases.items ≡ map view_base c.args.bases.now.items ++ two_of (is_pointer_result c.args.result_kind) (codes "\\result")
    = search (rules, c.in_ok-push_fixed.ensures, c.is_pointer_result.ensures) in
    let second : map view_base c.push_fixed-2.new.bases.items ≡ map view_base c.push_fixed.new.bases.items ++ two_of c.args.calls_point (codes "%")
    = search (rules, c.in_ok-push_fixed-2.ensures) in
    let third : map view_base c.push_temporaries.new.bases.items
    ≡ map view_base c.push_fixed-2.new.bases.items ++ from_on (temporary_part c.args.temporaries.now) 0 (length c.args.temporaries.now)
    = search (rules, c.in_ok-push_temporaries.ensures) in
    let fourth : map view_base c.push_memories.new.bases.items ≡ map view_base c.push_temporaries.new.bases.items ++ memories has
    = search (rules, c.in_ok-push_memories.ensures) in
    parts_pushed _ _ _ _ _ (two_of (is_pointer_result c.args.result_kind) (codes "\\result")) (two_of c.args.calls_point (codes "%"))
    (from_on (temporary_part c.args.temporaries.now) 0 (length c.args.temporaries.now)) (memories has) first second third fourth
