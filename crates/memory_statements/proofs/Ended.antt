-- Behind the step that ends the blocks of a scope.
use Rattle.std.proofs.Common.{◌≡◌, ◌<◌, ℕ, zero, suc, ◌+◌, pos, List, [], ◌∷◌, length, refl, sym, ap, ◌∙◌, subst, arith}
use Rattle.std.specs.Prelude.{int_le}
use Rattle.wp_base.specs.Blocks.{count, block_cells, has_cell, is_cell, grow}
use Rattle.qed_terms.specs.Meaning as sense
use Rattle.qed_terms.specs.Memory.{new}
use Rattle.c_runs.specs.Program.{Facts}
use Rattle.c_runs.specs.States.{Memory}
use Rattle.c_runs.specs.Scopes.{ended_since}
use Rattle.goal_segments.specs.Told.{IsGood}
use Rattle.typed_memories.specs.Cells.{read_in, lies_inside}
use Rattle.typed_memories.proofs.Tests.{unchosen}
use Rattle.typed_memories.specs.Changes as changes
use Rattle.typed_memories.specs.Changes.{Sets}
use Rattle.typed_memories.proofs.Tables.{cell_below, grown_block}
use Rattle.typed_memories.proofs.Making.{before_since}
use Rattle.typed_memories.proofs.Ending.{growing_ends_blocks, standing_blocks_stay}
use Rattle.typed_memories.proofs.Alone.{same_ended, kinds_left_alone_are_read}
use Rattle.run_blocks.proofs.Standing.{still}
use Rattle.walk_steps.specs.State.{at_or}
use Rattle.memory_steps.specs.State.{State, state}
use Rattle.memory_steps.specs.Run as seg
use Rattle.memory_steps.proofs.Readings.{ends_then}
use Rattle.memory_words.specs.Leaves.{before_all}
use Rattle.memory_words.proofs.Leaves.{leaves_are_held}
use Rattle.memory_words.specs.Shapes.{FileCells, Shape}
use Rattle.memory_words.specs.Points.{Open}
use Rattle.memory_words.specs.Sets.{since}
use Rattle.memory_words.specs.Renewal.{of_regions}
use Rattle.memory_statements.specs.Renewed.{BoundsAre, IsRenewal, KeepsUntold, MayGet, ListsRead}
use Rattle.memory_statements.specs.RenewalLaws.{Renews, ComesTo, EndsFrom, ended_in, EndsBlocks, EndedIsRenewed}
use Rattle.memory_statements.proofs.Machine.{renewals_change_memories}
use Rattle.memory_statements.proofs.RenewalSets.{both_read}
use Rattle.memory_statements.proofs.Untold.{all_framed}

-- an item that there is
same_item : {X : Type 0} (d d' : X) (xs : List X) (i : ℕ) → i < length xs → at_or d xs i ≡ at_or d' xs i
same_item d d' [] i h = absurd (omega (arith, h))
same_item d d' (x ∷ xs) zero h = refl
same_item d d' (x ∷ xs) (suc i) h = same_item d d' xs i (omega (arith, h))

module _ (w : sense.World) (p : Facts) (s : Shape) (file : FileCells) (scope : Open) (before : Memory) (olds : List State) (m : Memory) (st : State) (holds : ListsRead w p s file m st)
    (good : IsGood p m) (good' : IsGood p (ended_since before m)) (e : st.table ≡ m.blocks) (from : EndsFrom file olds scope before m) where
  abbrev after : State
  after = ended_in olds scope st

  abbrev n : Memory
  n = ended_since before m

  abbrev set : Sets
  set = changes.since (count before.blocks)

  level_table : (at_or st olds scope.level).table ≡ before.blocks
  level_table = ap (λ (st : State). st.table) (same_item st (state [] []) olds scope.level from.level_there) ∙ from.level_is

  table_is : after.table ≡ n.blocks
  table_is = λ i. grow (level_table i) (count (e i))

  holds_after : ListsRead w p s file m after
  holds_after = record {
    model = holds.model;
    size = holds.size;
    stand = record { numbers_are = λ k has. holds.stand.numbers_are k has; pointers_are = λ has. holds.stand.pointers_are has };
  }

  bounds : BoundsAre w (since (suc (suc (suc scope.level))) ∷ []) [] after olds set
  bounds = record {
    closed_news = refl;
    closed_regions = refl;
    inside = λ k d present i o.
        ap (λ t. lies_inside (new (count t) ∷ []) (pos i) o) ((leaves_are_held w (before_all d (present ∷ after ∷ olds)) (suc (suc (suc scope.level)))).table ∙ from.level_is);
  }

  may_get : MayGet p file scope.has_kind m n.blocks
  may_get = record {
    good = good;
    same_cells = λ k has off. same_ended k before.blocks m.blocks from.blocks (from.kinds k has off);
    no_newer = λ k none b o is.
        let is_before = sym (ap (λ x. has_cell k (block_cells x) o) (grown_block before.blocks (count m.blocks) b)) ∙ is in
        ap (λ x. has_cell k (block_cells x) o) (from.blocks.blocks b (cell_below k before.blocks b o is_before)) ∙ is_before;
    more = ap (int_le (count m.blocks)) (standing_blocks_stay before.blocks m.blocks from.blocks).all_ended.1 ∙ (still m.blocks).more;
    placed = λ x v found not_plain. sym (unchosen v.is_plain _ _ not_plain) ∙ good'.well.globals x v found;
    short = good'.well.short;
  }

  law : (j : ℕ) → Renews w p s file scope.has_kind (of_regions (since (suc (suc (suc scope.level))) ∷ []) []) set olds j m after
  law j = renewals_change_memories w p s file scope.has_kind (of_regions (since (suc (suc (suc scope.level))) ∷ []) []) set olds j m after holds_after from.of_file bounds

  is_renewal : IsRenewal p file scope.has_kind set after.table m n
  is_renewal = record {
    good = good';
    table = sym table_is;
    framed = λ k on. ((growing_ends_blocks before m n (read_in m) (read_in n) from.blocks (both_read p m n good good')).ends.1 refl).1 k;
    kept = λ k has off. (kinds_left_alone_are_read k (read_in m k) m).ended before from.blocks (from.kinds k has off) (λ b o. refl);
  }

  is_ended : (r : Memory) → IsRenewal p file scope.has_kind set after.table m r → KeepsUntold p file scope.has_kind m r → r ≡ n
  is_ended r is keeps =
      (growing_ends_blocks before m r (read_in m) (read_in r) from.blocks (both_read p m r good is.good)).ends.0 (
        is.table ∙ table_is,
        all_framed p file scope.has_kind set after.table m r is keeps
            (λ k b o out. ap (λ t. is_cell k t b o) (is.table ∙ table_is)
            ∙ ap (λ x. has_cell k (block_cells x) o)
            (grown_block before.blocks (count m.blocks) b ∙ sym (from.blocks.blocks b (before_since (count before.blocks) k b o out)))),
        keeps.hidden,
      )

  ends_blocks : (j : ℕ) → EndsBlocks w p s file scope before olds j m st
  ends_blocks j = record {
    forth = let x = (law (j + 0)).forth n is_renewal in (x.0, seg.goes_both seg.ends x.1, x.2);
    back = λ o run.
        let x = (law j).back (subst (MayGet p file scope.has_kind m) (sym table_is) may_get) o (ends_then run) in
        (x.0, x.1, subst (λ r. ComesTo p s file scope.has_kind after r x.0) (is_ended x.2 x.3 x.4) x.5);
  }

pub ended_is_renewed : EndedIsRenewed
ended_is_renewed w p s file scope before olds j m st holds good good' e from = ends_blocks w p s file scope before olds m st holds good good' e from j
