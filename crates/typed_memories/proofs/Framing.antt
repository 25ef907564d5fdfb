-- One address whose block is the same before and behind: what is held for a kind there is the same exactly where the cell holds the same.
use Rattle.std.proofs.Common.{◌≡◌, ℕ, true, false, ℤ, pos, Option, Some, None, refl, sym, ap, ◌∙◌}
use Rattle.wp_base.specs.declared.kinds.CellKind.{CellKind}
use Rattle.wp_base.specs.Blocks.{block_at, block_cells, has_cell, is_cell}
use Rattle.c_runs.specs.States.{Memory}
use Rattle.goal_segments.specs.Segments.{SameBlocks}
use Rattle.typed_memories.specs.Cells.{Cells, Typed, kind_at, lies_inside, FramedAt, Reads, IsShaped}
use Rattle.typed_memories.proofs.Tests.{on_test}
use Rattle.typed_memories.proofs.CellKinds.{cell_of_kind, no_cell_of}
use Rattle.typed_memories.proofs.Decoding.{read_shaped, read_nothing}
use Rattle.typed_memories.specs.Changes.{Sets, AllFramed, ChangesIn}
use Rattle.typed_memories.specs.ChangeLaws.{Both, FramesAreChanges}

module _ (m n : Memory) (s : IsShaped m) (q : IsShaped n) (b o : ℤ) (same : block_at n.blocks b ≡ block_at m.blocks b) where
  pub same_cell_there : (k : CellKind) → is_cell k n.blocks b o ≡ is_cell k m.blocks b o
  same_cell_there k = ap (λ x. has_cell k (block_cells x) o) same

  module _ (k : CellKind) (f f' : Cells) (r : Reads m k f) (r' : Reads n k f') where
    pub held_to_cell : f' b o ≡ f b o → is_cell k m.blocks b o ≡ true → n.cells b o ≡ m.cells b o
    held_to_cell e is = sym (r' b o ∙ read_shaped n q k b o (same_cell_there k ∙ is)) ∙ e ∙ (r b o ∙ read_shaped m s k b o is)

    pub cell_to_held : (is_cell k m.blocks b o ≡ true → n.cells b o ≡ m.cells b o) → f' b o ≡ f b o
    cell_to_held e =
        on_test (is_cell k m.blocks b o)
        (λ is. (r' b o ∙ read_shaped n q k b o (same_cell_there k ∙ is)) ∙ e is ∙ sym (r b o ∙ read_shaped m s k b o is))
        (λ none. (r' b o ∙ read_nothing n k b o (same_cell_there k ∙ none)) ∙ sym (r b o ∙ read_nothing m k b o none))

-- where neither has a cell, both hold 0
pub both_outside : (m n : Memory) → IsShaped m → IsShaped n → (i : ℕ) (o : ℤ) → ((k : CellKind) → is_cell k m.blocks (pos i) o ≡ false)
    → ((k : CellKind) → is_cell k n.blocks (pos i) o ≡ false)
    → n.cells (pos i) o ≡ m.cells (pos i) o
both_outside m n s q i o none none' = q.elsewhere i o none' ∙ sym (s.elsewhere i o none)

-- where the same is held for all kinds, the cell holds the same
pub held_alike : (m n : Memory) (g g' : Typed) → Both m n g g' → (i : ℕ) (o : ℤ) → block_at n.blocks (pos i) ≡ block_at m.blocks (pos i)
    → ((k : CellKind) → g' k (pos i) o ≡ g k (pos i) o)
    → n.cells (pos i) o ≡ m.cells (pos i) o
held_alike m n g g' both i o same e = by (kind_at m.blocks (pos i) o) refl
  where
    by : (c : Option CellKind) → kind_at m.blocks (pos i) o ≡ c → n.cells (pos i) o ≡ m.cells (pos i) o
    by None h =
        let none : (k : CellKind) → is_cell k m.blocks (pos i) o ≡ false = λ k. no_cell_of k m.blocks (pos i) o h in
        both_outside m n both.shaped_before both.shaped_behind i o none
        (λ k. same_cell_there m n both.shaped_before both.shaped_behind (pos i) o same k ∙ none k)
    by (Some k) h =
        held_to_cell m n both.shaped_before both.shaped_behind (pos i) o same k (g k) (g' k) (both.before k) (both.behind k) (e k)
        (cell_of_kind k m.blocks (pos i) o h)

-- ---- changes in a set

module _ (set : Sets) (m n : Memory) (g g' : Typed) (both : Both m n g g') where
  kept_of_one : (k : CellKind) → SameBlocks m.blocks n.blocks → ((b o : ℤ) → FramedAt (set k) (g k) (g' k) b o)
      → (b o : ℤ) → is_cell k m.blocks b o ≡ true → lies_inside (set k) b o ≡ false → n.cells b o ≡ m.cells b o
  kept_of_one k same framed b o is out =
      held_to_cell m n both.shaped_before both.shaped_behind b o (same.live b) k (g k) (g' k) (both.before k) (both.behind k) (framed b o out) is

  framed_of_one : (k : CellKind) → SameBlocks m.blocks n.blocks
      → ((b o : ℤ) → is_cell k m.blocks b o ≡ true → lies_inside (set k) b o ≡ false → n.cells b o ≡ m.cells b o)
      → (b o : ℤ) → FramedAt (set k) (g k) (g' k) b o
  framed_of_one k same kept b o out =
      cell_to_held m n both.shaped_before both.shaped_behind b o (same.live b) k (g k) (g' k) (both.before k) (both.behind k) (λ is. kept b o is out)

  to_changes : SameBlocks m.blocks n.blocks × AllFramed set g g' → ChangesIn set m n
  to_changes h = record { blocks = h.0; cells = λ k. kept_of_one k h.0 (h.1 k) }

  from_changes : ChangesIn set m n → SameBlocks m.blocks n.blocks × AllFramed set g g'
  from_changes c = (c.blocks, (λ k. framed_of_one k c.blocks (c.cells k)))

pub frames_are_changes : FramesAreChanges
frames_are_changes set m n g g' both = record {
  of_one = λ k same. (kept_of_one set m n g g' both k same, framed_of_one set m n g g' both k same);
  of_all = (to_changes set m n g g' both, from_changes set m n g g' both);
}
