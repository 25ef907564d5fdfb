-- A table that is grown from an earlier one, with frames, is that newer blocks have ended.
use Rattle.std.proofs.Common.{◌≡◌, suc, true, false, ℤ, pos, negsuc, length, sym, ap, ◌∙◌, subst}
use Rattle.std.specs.Prelude.{int_lt}
use Rattle.wp_base.specs.declared.kinds.CellKind.{CellKind}
use Rattle.wp_base.specs.Blocks.{Table, count, block_at, block_cells, has_cell, is_cell, grow}
use Rattle.c_runs.specs.TruthStates.{number, of_kind}
use Rattle.c_runs.specs.States.{Memory}
use Rattle.c_runs.specs.Scopes.{ended_since}
use Rattle.typed_memories.specs.Cells.{Typed, IsShaped}
use Rattle.typed_memories.proofs.Tests.{on_test, chosen, unchosen, not_both}
use Rattle.typed_memories.specs.Changes.{since, AllFramed, SameHidden, StillThere}
use Rattle.typed_memories.specs.ChangeLaws.{Both, GrowingEndsBlocks, StandingBlocksStay}
use Rattle.typed_memories.proofs.Tables.{grown_block, no_cell_beyond, cell_below, stay_changed, stay_made, stay_ended, ended_all}
use Rattle.typed_memories.proofs.Framing.{cell_to_held, held_alike}
use Rattle.typed_memories.proofs.Making.{outside_since, before_since, hidden_before}

-- ---- the blocks of before

grown_as_before : (t u : Table) → StillThere t u → (z b : ℤ) → int_lt b (count t) ≡ true → block_at (grow t z) b ≡ block_at u b
grown_as_before t u s z b below = grown_block t z b ∙ sym (s.blocks b below)

grown_cell : (k : CellKind) (t : Table) (z b o : ℤ) → is_cell k (grow t z) b o ≡ is_cell k t b o
grown_cell k t z b o = ap (λ x. has_cell k (block_cells x) o) (grown_block t z b)

module _ (m n : Memory) where
  abbrev ends : Memory
  ends = ended_since m n

  older : (b o : ℤ) → int_lt b (count m.blocks) ≡ true → ends.cells b o ≡ n.cells b o
  older b o below = chosen (int_lt b (count m.blocks)) (n.cells b o) (number (pos 0)) below

  newer : (b o : ℤ) → int_lt b (count m.blocks) ≡ false → ends.cells b o ≡ number (pos 0)
  newer b o above = unchosen (int_lt b (count m.blocks)) (n.cells b o) (number (pos 0)) above

  -- ---- the shape of what is left

  module _ (still : StillThere m.blocks n.blocks) (s : IsShaped n) where
    cell_before : (k : CellKind) (b o : ℤ) → int_lt b (count m.blocks) ≡ true → is_cell k ends.blocks b o ≡ is_cell k n.blocks b o
    cell_before k b o below = ap (λ x. has_cell k (block_cells x) o) (grown_as_before m.blocks n.blocks still (count n.blocks) b below)

    ends_shaped : IsShaped ends
    ends_shaped = record {
      cells = λ k b o is.
          let below = cell_below k m.blocks b o (sym (grown_cell k m.blocks (count n.blocks) b o) ∙ is) in
          let e = older b o below in
          ap (of_kind k) e ∙ s.cells k b o (sym (cell_before k b o below) ∙ is) ∙ sym e;
      elsewhere = λ i o none.
          on_test (int_lt (pos i) (count m.blocks))
          (λ below. older (pos i) o below ∙ s.elsewhere i o (λ k. sym (cell_before k (pos i) o below) ∙ none k)) (newer (pos i) o);
    }

  -- ---- both ways

  module _ (r : Memory) (g g' : Typed) (still : StillThere m.blocks n.blocks) (both : Both n r g g') where
    module _ (e : r.blocks ≡ grow m.blocks (count n.blocks)) (framed : AllFramed (since (count m.blocks)) g g') (hidden : SameHidden n r) where
      as_before : (b : ℤ) → int_lt b (count m.blocks) ≡ true → block_at r.blocks b ≡ block_at n.blocks b
      as_before b below = ap (λ t. block_at t b) e ∙ grown_as_before m.blocks n.blocks still (count n.blocks) b below

      older_kept : (b o : ℤ) → int_lt b (count m.blocks) ≡ true → r.cells b o ≡ n.cells b o
      older_kept (negsuc i) o below = hidden i o
      older_kept (pos i) o below =
          held_alike n r g g' both i o (as_before (pos i) below) (λ k. framed k (pos i) o (outside_since (count m.blocks) k (pos i) o below))

      newer_gone : (b o : ℤ) → int_lt b (count m.blocks) ≡ false → r.cells b o ≡ number (pos 0)
      newer_gone (negsuc i) o above = not_both (int_lt (negsuc i) (count m.blocks)) (hidden_before i (suc (length m.blocks))) above
      newer_gone (pos i) o above =
          both.shaped_behind.elsewhere i o
          (λ k. ap (λ t. is_cell k t (pos i) o) e ∙ grown_cell k m.blocks (count n.blocks) (pos i) o ∙ no_cell_beyond k m.blocks (pos i) o above)

      cells_end : (b o : ℤ) → r.cells b o ≡ ends.cells b o
      cells_end b o =
          on_test (int_lt b (count m.blocks)) (λ below. older_kept b o below ∙ sym (older b o below)) (λ above. newer_gone b o above ∙ sym (newer b o above))

      to_ends : r ≡ ends
      to_ends = λ i. record { blocks = e i; cells = λ b o. cells_end b o i }

    from_ends : r ≡ ends → (r.blocks ≡ grow m.blocks (count n.blocks)) × AllFramed (since (count m.blocks)) g g' × SameHidden n r
    from_ends e = (
      ap (λ (r : Memory). r.blocks) e,
      (λ k b o out.
          let below = before_since (count m.blocks) k b o out in
          let same = ap (λ (r : Memory). block_at r.blocks b) e ∙ grown_as_before m.blocks n.blocks still (count n.blocks) b below in
          cell_to_held n r both.shaped_before both.shaped_behind b o same k (g k) (g' k) (both.before k) (both.behind k)
          (λ is. ap (λ (r : Memory). r.cells b o) e ∙ older b o below)),
      (λ i o. ap (λ (r : Memory). r.cells (negsuc i) o) e ∙ older (negsuc i) o (hidden_before i (suc (length m.blocks)))),
    )

pub growing_ends_blocks : GrowingEndsBlocks
growing_ends_blocks m n r g g' still both = record { ends = ((λ h. to_ends m n r g g' still both h.0 h.1 h.2), from_ends m n r g g' still both) }

pub standing_blocks_stay : StandingBlocksStay
standing_blocks_stay t u s = record {
  changed = stay_changed t u s;
  made = stay_made t u s;
  ended = stay_ended t u s;
  all_ended = ended_all t u s;
  shaped = λ m n e d. ends_shaped m n (subst (λ u. StillThere m.blocks u) (sym d) (subst (λ t. StillThere t u) (sym e) s));
}
