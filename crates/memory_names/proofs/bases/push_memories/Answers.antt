use Rattle.std.proofs.Common.{rules, ◌≡◌, ◌++◌, map}
use Rattle.memory_worlds.specs.View.{view_base}
use Rattle.memory_names.specs.Parts.{flagged, small_memories, middle_memories, large_memories, pointer_memories}
use Rattle.memory_names.proofs.Pushing.{parts_pushed}
use Rattle.memory_names.proofs.bases.push_memories.Goals as goal

pub returns : goal.returns
returns c =
    let has = flagged c.args.kinds.now in
    let small : map view_base c.push_small.new.bases.items ≡ map view_base c.args.bases.now.items ++ small_memories has
    = search (rules, c.in_ok-push_small.ensures) in
    let middle : map view_base c.push_middle.new.bases.items ≡ map view_base c.push_small.new.bases.items ++ middle_memories has
    = search (rules, c.in_ok-push_middle.ensures) in
    let large : map view_base c.push_large.new.bases.items ≡ map view_base c.push_middle.new.bases.items ++ large_memories has
    = search (rules, c.in_ok-push_large.ensures) in
    let pointers : map view_base c.push_pointers.new.bases.items ≡ map view_base c.push_large.new.bases.items ++ pointer_memories has
    = search (rules, c.in_ok-push_pointers.ensures) in
    parts_pushed _ _ _ _ _ (small_memories has) (middle_memories has) (large_memories has) (pointer_memories has) small middle large pointers
