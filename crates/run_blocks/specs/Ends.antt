-- How blocks and contents stand where a segment run ends.
use Rattle.std.specs.Prelude.{Bool, ◌||◌, pos, int_le, length}
use Rattle.wp_base.specs.Blocks.{Table, cells_of}
use Rattle.c_kinds.specs.Models.{high, difference_kind}
use Rattle.c_runs.specs.Program.{Variable, Facts}
use Rattle.c_runs.specs.CoreRun.{Ending, goes_on, exits, returns, stopped}
use Rattle.typed_memories.specs.Changes.{StillThere}

-- Blocks of the first table are as they were, however a statement ends. What stops has no world behind it.
abbrev pub StillAt : Table → Ending → Type 0
StillAt t (goes_on c) = StillThere t c.world.memory.blocks
StillAt t (exits k c) = StillThere t c.world.memory.blocks
StillAt t (returns v c) = StillThere t c.world.memory.blocks
StillAt t (stopped s) = Unit {0}

-- a variable that has no block, or one in which two pointers have a difference (C11 6.5.6p9)
abbrev pub is_short : Facts → Variable → Bool
is_short p v = v.is_plain || int_le (pos (length (cells_of v.layout))) (high p.model (difference_kind p.model))
