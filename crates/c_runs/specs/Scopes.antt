-- Scopes: the variables of a block are made in order where it is entered, and end however it is left (C11 6.2.4p5, 6.8p3).
use Rattle.std.specs.Prelude.{ℕ, zero, suc, ◌+◌, Bool, true, false, ◌&&◌, ◌||◌, if◌then◌else◌, ℤ, pos, ◌+ℤ◌, int_le, int_lt, List, [], ◌∷◌, Option, Some, None, slice_get}
use Rattle.wp_base.specs.declared.kinds.CellKind.{CellKind}
use Rattle.wp_base.specs.declared.kinds.CellKind.TheVariants as cell
use Rattle.wp_base.specs.Blocks.{Table, alloc, count, grow, cells_of}
use Rattle.c_kinds.specs.Models.{holds}
use Rattle.c_runs.specs.TruthStates.{Value, number, pointer, nothing_of}
use Rattle.c_runs.specs.Program.{Facts, Variable}
use Rattle.c_runs.specs.States.{Local, plain, home, Memory, World, with_local, with_memory, unset, at, no_locals, with_cell, stored_in}

-- ---- contents

-- what was never set holds some value of its kind; no pointer in it leads to a variable of the file that no address is taken of (C11 6.7.9p10)
abbrev pub is_content : Facts → (blocks : ℤ) → CellKind → Value → Bool
is_content p n (cell.Of k) (number z) = holds p.model k z
is_content p n cell.Ptr (pointer b o) = int_le (pos 0) b && int_lt b n
is_content p n k v = false

abbrev pub as_content : Facts → (blocks : ℤ) → CellKind → Value → Value
as_content p n k v = if is_content p n k v then v else nothing_of k

abbrev pub next_content : Facts → (blocks : ℤ) → CellKind → List Value → Value
next_content p n k [] = nothing_of k
next_content p n k (v ∷ vs) = as_content p n k v

abbrev pub others : List Value → List Value
others [] = []
others (v ∷ vs) = vs

-- ---- one variable

-- the cells from an offset on hold the next contents
abbrev pub filled : Facts → (blocks block offset : ℤ) → List CellKind → World → World
filled p n b o [] w = w
filled p n b o (k ∷ ks) w =
    filled p n b (o +ℤ pos 1) ks (record w { contents = others w.contents; memory = stored_in b o (next_content p n k w.contents) w.memory })

-- the cells from an offset on hold nothing yet
abbrev pub cleared : (block offset : ℤ) → List CellKind → Memory → Memory
cleared b o [] m = m
cleared b o (k ∷ ks) m = cleared b (o +ℤ pos 1) ks (stored_in b o (nothing_of k) m)

abbrev pub with_block : Variable → Memory → Memory
with_block v m = record m { blocks = alloc m.blocks v.layout }

abbrev pub scalar_of : List CellKind → CellKind
scalar_of [] = cell.Ptr
scalar_of (k ∷ ks) = k

abbrev pub plain_made : Facts → (variable : ℕ) → Variable → World → World
plain_made p x v w =
    if v.has_value then with_local x (plain (nothing_of (scalar_of v.layout.cells)) true) w
    else with_local x (plain (next_content p (count w.memory.blocks) (scalar_of v.layout.cells) w.contents) false) (record w { contents = others w.contents })

-- its block is the next one
abbrev pub block_made : Facts → (variable : ℕ) → Variable → World → World
block_made p x v w =
    let b = count w.memory.blocks in
    let made = with_local x (home b) (with_memory (with_block v w.memory) w) in
    if v.has_value then with_memory (cleared b (pos 0) (cells_of v.layout) made.memory) made
    else filled p (count made.memory.blocks) b (pos 0) (cells_of v.layout) made

abbrev pub variable_made : Facts → (variable : ℕ) → Option Variable → World → World
variable_made p x None w = w
variable_made p x (Some v) w = if v.is_plain then plain_made p x v w else block_made p x v w

-- ---- blocks

-- the variables of a block, by their numbers among those of the function
abbrev pub entered : Facts → List Variable → (block : List ℕ) → World → World
entered p xs [] w = w
entered p xs (x ∷ ys) w = entered p xs ys (variable_made p x (slice_get xs x) w)

-- All blocks that were made since are ended, and hold nothing. There are as many, so that no number is used again.
abbrev pub ended_since : (before : Memory) → Memory → Memory
ended_since m n = record {
  blocks = grow m.blocks (count n.blocks);
  cells = λ b o. if int_lt b (count m.blocks) then n.cells b o else number (pos 0);
}

abbrev pub without_locals : (block : List ℕ) → World → World
without_locals [] w = w
without_locals (x ∷ ys) w = without_locals ys (with_local x unset w)

-- a block that was entered in this memory is left
abbrev pub left : (before : Memory) → (block : List ℕ) → World → World
left m ys w = with_memory (ended_since m w.memory) (without_locals ys w)

-- ---- parameters

abbrev pub param_made : (variable : ℕ) → Option Variable → Value → World → World
param_made x None v w = w
param_made x (Some y) v w =
    if y.is_plain then with_local x (plain v true) w
    else with_local x (home (count w.memory.blocks)) (with_memory (stored_in (count w.memory.blocks) (pos 0) v (with_block y w.memory)) w)

-- parameters are variables that hold the arguments
abbrev pub params_made : List Variable → (first : ℕ) → List Value → World → World
params_made xs n [] w = w
params_made xs n (v ∷ vs) w = params_made xs (suc n) vs (param_made n (slice_get xs n) v w)

-- at the entry of a function, which knows none of its caller's variables
abbrev pub arrived : List Variable → List Value → World → World
arrived xs vs w = params_made xs 0 vs (record w { locals = no_locals })
