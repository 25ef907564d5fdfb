-- A layout that is allocated, with frames, is a block that is made.
use Rattle.std.proofs.Common.{◌≡◌, ℕ, suc, true, false, ◌||◌, ℤ, pos, negsuc, length, ap, ◌∙◌, arith}
use Rattle.std.specs.Prelude.{int_le, int_lt}
use Rattle.std.specs.Ordering.{int_eq}
use Rattle.std.proofs.lemmas.Int.{ints}
use Rattle.wp_base.specs.declared.kinds.CellKind.{CellKind}
use Rattle.wp_base.specs.declared.kinds.Layout.{Layout}
use Rattle.wp_base.specs.Blocks.{count, block_at, is_cell, alloc}
use Rattle.c_runs.specs.States.{Memory}
use Rattle.typed_memories.specs.Cells.{Typed, lies_inside}
use Rattle.typed_memories.proofs.Tests.{on_test, neither}
use Rattle.typed_memories.specs.Changes.{since, AllFramed, Makes, SameHidden}
use Rattle.typed_memories.specs.ChangeLaws.{Both, AllocationsMakeBlocks}
use Rattle.typed_memories.proofs.Tables.{test_lt, lt_test, not_le_test, test_not_le, not_count, no_cell_beyond, other_block}
use Rattle.typed_memories.proofs.Framing.{same_cell_there, cell_to_held, both_outside, held_alike}

-- ---- what lies in the blocks from a number on

pub outside_since : (n : ℤ) (k : CellKind) (b o : ℤ) → int_lt b n ≡ true → lies_inside (since n k) b o ≡ false
outside_since n k b o h = ap (λ t. t || false) (not_le_test n b (test_lt b n h))

pub before_since : (n : ℤ) (k : CellKind) (b o : ℤ) → lies_inside (since n k) b o ≡ false → int_lt b n ≡ true
before_since n k b o h = lt_test b n (test_not_le n b (neither (int_le n b) false h).0)

pub hidden_before : (i n : ℕ) → int_lt (negsuc i) (pos n) ≡ true
hidden_before i n = lt_test (negsuc i) (pos n) (omega (arith, ints))

-- ---- blocks that are made

module _ (l : Layout) (m n : Memory) (g g' : Typed) (both : Both m n g g') where
  same_other : n.blocks ≡ alloc m.blocks l → (b : ℤ) → int_eq b (count m.blocks) ≡ false → block_at n.blocks b ≡ block_at m.blocks b
  same_other e b other = ap (λ t. block_at t b) e ∙ other_block m.blocks l b other

  module _ (e : n.blocks ≡ alloc m.blocks l) (framed : AllFramed (since (count m.blocks)) g g') (hidden : SameHidden m n) where
    other_cells : (b o : ℤ) → int_eq b (count m.blocks) ≡ false → n.cells b o ≡ m.cells b o
    other_cells (negsuc i) o other = hidden i o
    other_cells (pos i) o other =
        let same = same_other e (pos i) other in
        on_test (int_lt (pos i) (count m.blocks))
        (λ below. held_alike m n g g' both i o same (λ k. framed k (pos i) o (outside_since (count m.blocks) k (pos i) o below)))
        (λ above.
        let none : (k : CellKind) → is_cell k m.blocks (pos i) o ≡ false = λ k. no_cell_beyond k m.blocks (pos i) o above in
        both_outside m n both.shaped_before both.shaped_behind i o none
        (λ k. same_cell_there m n both.shaped_before both.shaped_behind (pos i) o same k ∙ none k))

    to_makes : Makes l m n
    to_makes = record { blocks = e; cells = other_cells }

  from_makes : Makes l m n → (n.blocks ≡ alloc m.blocks l) × AllFramed (since (count m.blocks)) g g' × SameHidden m n
  from_makes made = (
    made.blocks,
    (λ k b o out.
        let other = not_count b (count m.blocks) (before_since (count m.blocks) k b o out) in
        cell_to_held m n both.shaped_before both.shaped_behind b o (same_other made.blocks b other) k (g k) (g' k) (both.before k) (both.behind k)
        (λ is. made.cells b o other)),
    (λ i o. made.cells (negsuc i) o (not_count (negsuc i) (count m.blocks) (hidden_before i (suc (length m.blocks))))),
  )

pub allocations_make_blocks : AllocationsMakeBlocks
allocations_make_blocks l m n g g' both = ((λ h. to_makes l m n g g' both h.0 h.1 h.2), from_makes l m n g g' both)
