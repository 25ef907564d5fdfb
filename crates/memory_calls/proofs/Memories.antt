-- Memories that are renewed behind a change of variables: to those of a world, and from slots to a memory. A file without blocks has none.
use Rattle.std.proofs.Common.{◌≡◌, ℕ, Bool, true, false, ◌&&◌, ℤ, List, length, refl, sym, ap, ◌∙◌, subst}
use Rattle.std.proofs.lemmas.Bool.{and_parts}
use Rattle.wp_base.specs.declared.kinds.CellKind.{CellKind}
use Rattle.wp_base.specs.declared.kinds.CellKind.TheVariants as cell
use Rattle.wp_base.specs.Blocks.{is_cell}
use Rattle.qed_terms.specs.Meaning as sense
use Rattle.c_runs.specs.Program.{Facts}
use Rattle.c_runs.specs.States.{Memory}
use Rattle.goal_segments.specs.Told.{IsGood}
use Rattle.goal_segments.specs.Segments.{SameBlocks}
use Rattle.goal_segments.proofs.Heads.{same_blocks}
use Rattle.typed_memories.specs.Cells.{lies_inside}
use Rattle.typed_memories.proofs.Tests.{on_test, not_both}
use Rattle.typed_memories.specs.Changes.{Sets, SameHidden}
use Rattle.typed_memories.proofs.Alone.{same_changed}
use Rattle.memory_steps.specs.State.{State}
use Rattle.memory_steps.specs.Run.{End, goes_on, Seg}
use Rattle.memory_words.specs.Places.{Sizes, slots_in}
use Rattle.memory_words.specs.Shapes.{FileCells, Shape, sizes}
use Rattle.memory_words.specs.Seen.{InSetting}
use Rattle.memory_words.specs.Renewal.{Leave, renewal}
use Rattle.memory_statements.specs.Renewed.{MemoriesStand, LeaveIs, KeepsUntold, ListsRead}
use Rattle.memory_statements.specs.RenewalLaws.{ComesTo, ChangesRenewed}
use Rattle.memory_statements.proofs.RenewalRunning.{run_of, of_run}
use Rattle.memory_statements.proofs.RenewalSets.{sets_are_renewed}

-- cells of the file's kinds behind, those that the set leaves open aside
pub record CellsGoOn (file : FileCells) (kinds : CellKind → Bool) (set : Sets) (m n : Memory) : Type 0 where
  pub blocks : SameBlocks m.blocks n.blocks
  pub renewed : (k : CellKind) (b o : ℤ) → file.has_kind k && kinds k ≡ true → is_cell k m.blocks b o ≡ true → lies_inside (set k) b o ≡ false → n.cells b o ≡ m.cells b o
  pub kept : (k : CellKind) (b o : ℤ) → file.has_kind k ≡ true → kinds k ≡ false → is_cell k m.blocks b o ≡ true → n.cells b o ≡ m.cells b o

module _ (w : sense.World) (p : Facts) (s : Shape) (file : FileCells) (setting : InSetting w p s file) (kinds : CellKind → Bool) (leave : Leave) (set : Sets) (olds : List State)
    (leaves : (st : State) → LeaveIs w leave st olds set) (m : Memory) (good : IsGood p m) (st : State) (size : length st.slots ≡ slots_in (sizes p s))
    (stand : MemoriesStand p s file m st) where
  abbrev z : Sizes
  z = sizes p s

  abbrev pub renewed : CellKind → Bool
  renewed k = file.has_kind k && kinds k

  of_file : (k : CellKind) → renewed k ≡ true → file.has_kind k ≡ true
  of_file k on = (and_parts (file.has_kind k) (kinds k) on).0

  lists_read : ListsRead w p s file m st
  lists_read = record { model = setting.model; size = size; stand = stand }

  no_kind : {X : Type 0} → file.has_blocks ≡ false → (k : CellKind) → file.has_kind k ≡ true → X
  no_kind none k has = not_both (file.has_kind k) has (setting.no_kinds none k)

  -- a file without blocks has nothing to renew
  no_memories : file.has_blocks ≡ false → (n : Memory) (new : State) → MemoriesStand p s file n new
  no_memories none n new = record { numbers_are = λ k has. no_kind none (cell.Of k) has; pointers_are = λ has. no_kind none cell.Ptr has }

  -- ---- to the memory of a world

  module _ (n : Memory) (good' : IsGood p n) (goes : CellsGoOn file kinds set m n) where
    changes_so : ChangesRenewed file renewed set m n
    changes_so = record {
      renewed_kinds = λ k on b o is out. goes.renewed k b o on is out;
      other_kinds = λ k has off b o is. goes.kept k b o has (sym (ap (λ t. t && kinds k) has) ∙ off) is;
    }

    pub memories_forth : (file.has_blocks ≡ true → st.table ≡ n.blocks) → (j : ℕ)
        → (new : State) × Seg olds j (renewal z renewed leave w) st (goes_on new) × ComesTo p s file renewed st n new
    memories_forth table j = on_test file.has_blocks
        (λ there. (sets_are_renewed w p s file renewed leave set olds j m st lists_read of_file (leaves st) good
        (subst (SameBlocks m.blocks) (sym (table there)) goes.blocks)).forth n good' (sym (table there)) changes_so)
        (λ none. (
          st,
          run_of w p setting.model set olds z renewed leave st size (leaves st) st
              (record { table = refl; size = size; places = λ a there off. refl; kinds = λ k on. no_kind none k (of_file k on) }) (λ k on. no_kind none k (of_file k on)) j,
          record { memories = no_memories none n st; besides = record { table = refl; size = refl; places = λ a there off. refl } },
        ))

  -- ---- from slots

  -- a memory that has been come to
  pub record Behind (new : State) (n : Memory) : Type 0 where
    pub stays_good : IsGood p n
    pub goes : CellsGoOn file kinds set m n
    pub absent : (k : CellKind) (b o : ℤ) → file.has_kind k ≡ false → is_cell k m.blocks b o ≡ true → n.cells b o ≡ m.cells b o
    pub hidden : SameHidden m n
    pub table : file.has_blocks ≡ true → st.table ≡ n.blocks
    pub comes : ComesTo p s file renewed st n new

  renewed_behind : SameBlocks m.blocks st.table → (new : State) (n : Memory) → IsGood p n → n.blocks ≡ st.table → ChangesRenewed file renewed set m n → KeepsUntold p file renewed m n
      → ComesTo p s file renewed st n new → Behind new n
  renewed_behind same new n good' e changed untold comes = record {
    stays_good = good';
    goes = record {
      blocks = subst (SameBlocks m.blocks) (sym e) same;
      renewed = λ k b o on is out. changed.renewed_kinds k on b o is out;
      kept = λ k b o has off is. changed.other_kinds k has (ap (λ t. t && kinds k) has ∙ off) b o is;
    };
    absent = λ k b o none is. untold.absent k none b o (ap (λ t. is_cell k t b o) e ∙ same_changed k m.blocks st.table same b o ∙ is);
    hidden = untold.hidden;
    table = λ there. sym e;
    comes = comes;
  }

  pub memories_back : (file.has_blocks ≡ true → SameBlocks m.blocks st.table) → (j : ℕ) (e : End) → Seg olds j (renewal z renewed leave w) st e
      → (new : State) × (goes_on new ≡ e) × ((n : Memory) × Behind new n)
  memories_back same j e run = on_test file.has_blocks
      (λ there.
      let x = (sets_are_renewed w p s file renewed leave set olds j m st lists_read of_file (leaves st) good (same there)).back e run in
      (x.0, x.1, (x.2, renewed_behind (same there) x.0 x.2 x.3 x.4 x.5 x.6 x.7)))
      (λ none.
      let x = of_run w p setting.model set olds z renewed leave st size (leaves st) j e run in (
        x.0,
        x.1,
        (
          m,
          record {
            stays_good = good;
            goes = record { blocks = same_blocks m.blocks; renewed = λ k b o on is out. refl; kept = λ k b o has off is. refl };
            absent = λ k b o none is. refl;
            hidden = λ i o. refl;
            table = λ there. not_both file.has_blocks there none;
            comes = record { memories = no_memories none m x.0; besides = record { table = x.2.table; size = x.2.size ∙ sym size; places = x.2.places } };
          },
        ),
      ))
