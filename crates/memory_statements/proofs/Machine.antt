-- Slots that are renewed, and machine memories: from the memory to the lists, and from the lists to the memory.
use Rattle.std.proofs.Common.{◌≡◌, ℕ, Bool, true, false, if◌then◌else◌, ℤ, pos, negsuc, List, length, refl, sym, ap, ◌∙◌, subst}
use Rattle.wp_base.specs.declared.kinds.Kind.{Kind}
use Rattle.wp_base.specs.declared.kinds.CellKind.{CellKind}
use Rattle.wp_base.specs.declared.kinds.CellKind.TheVariants as cell
use Rattle.wp_base.specs.Blocks.{count, is_cell}
use Rattle.qed_terms.specs.Memory as goal
use Rattle.qed_terms.specs.Memory.{load, Region}
use Rattle.qed_terms.specs.Meaning as sense
use Rattle.same_memories.specs.Canonical.{canonical}
use Rattle.same_memories.proofs.Listing.{canonical_holds_the_same, canonical_is_canonical}
use Rattle.c_runs.specs.TruthStates.{of_kind, nothing_of}
use Rattle.c_runs.specs.Program.{Facts}
use Rattle.c_runs.specs.States.{Memory}
use Rattle.c_runs.specs.Scopes.{is_content}
use Rattle.goal_segments.specs.Told.{IsGood}
use Rattle.typed_memories.specs.Cells.{Cells, Typed, numbers_by, pointers_by, typed, encoded, read_in, lies_inside, FormedAt, FramedAt, HasForm, AllTyped, AllFormed, Reads, AllRead, IsShaped, decoded}
use Rattle.typed_memories.proofs.Tests.{on_test, not_both}
use Rattle.typed_memories.proofs.CellKinds.{no_cell_of}
use Rattle.typed_memories.proofs.Formed.{formed_parts}
use Rattle.typed_memories.proofs.Decoding.{read_cell, read_nothing, read_has_form, decoded_cell, decoded_shaped, no_hidden_cell, decoded_states_are_shaped}
use Rattle.typed_memories.proofs.Listing.{states_have_memories}
use Rattle.typed_memories.proofs.Stated.{well_formed_states_are_formed}
use Rattle.typed_memories.specs.Changes.{Sets, SameHidden}
use Rattle.run_blocks.proofs.Good.{AllContents, content_more, good_shaped, good_contents, goes_good}
use Rattle.memory_steps.specs.State.{Datum, cells, number as number_datum, State, with_slots, IsLike, nothing}
use Rattle.memory_words.specs.Places.{Place, Sizes, numbers, blocks, offsets, IsIn, slots_in, held, memory_in, slots_by}
use Rattle.memory_words.proofs.Holding.{slots_are_what_places_hold}
use Rattle.memory_words.specs.Shapes.{FileCells, Shape, sizes}
use Rattle.memory_words.specs.Standing.{NumbersAre, PointersAre}
use Rattle.memory_words.specs.Renewal.{Leave, of_all, of_regions}
use Rattle.memory_statements.specs.Renewed.{is_renewed, MemoriesStand, LeaveIs, IsRenewal, MayGet, ListsRead}
use Rattle.memory_statements.specs.RenewalLaws.{ComesTo, RenewalsChangeMemories}
use Rattle.memory_statements.proofs.Facts.{FramesSo, SameBelow}
use Rattle.memory_statements.proofs.RenewalRunning.{cells_held, AreLike, KindIs, RunIs, run_of, of_run}

pub reads_is : (n : Memory) (k : CellKind) (f : Cells) → Reads n k f → f ≡ read_in n k
reads_is n k f r = λ i b o. r b o i

like_cells : (l : goal.Memory) (e : Datum) → IsLike (cells l) e → e ≡ cells (memory_in e)
like_cells l (number_datum z) h = absurd h
like_cells l (cells m) h = refl

in_order : (l : goal.Memory) → load (canonical l) ≡ load l
in_order l = λ i b o. canonical_holds_the_same l b o i

held_form : (z : Sizes) (st : State) (k : CellKind) (b o : ℤ) → HasForm k (cells_held z st k b o)
held_form z st (cell.Of k) b o = refl
held_form z st cell.Ptr b o = refl

framed_so : (leave : Leave) (rs : List Region) (f f' g g' : Cells) → f ≡ f' → g ≡ g' → ((b o : ℤ) → FramedAt rs f' g' b o) → FramesSo leave rs f g
framed_so of_all rs f f' g g' e d h = tt
framed_so (of_regions news gs) rs f f' g g' e d h = λ i o out. ap (λ (f : Cells). f (pos i) o) d ∙ h (pos i) o out ∙ sym (ap (λ (f : Cells). f (pos i) o) e)

-- no cell has a negative number
pub nothing_hidden : (m : Memory) (k : CellKind) (i : ℕ) (o : ℤ) → read_in m k (negsuc i) o ≡ nothing_of k
nothing_hidden m k i o = read_nothing m k (negsuc i) o (no_cell_of k m.blocks (negsuc i) o (no_hidden_cell m.blocks i o))

module _ (w : sense.World) (p : Facts) (s : Shape) (file : FileCells) (renewed : CellKind → Bool) (leave : Leave) (set : Sets) (olds : List State) (m : Memory) (st : State)
    (holds : ListsRead w p s file m st) (of_file : (k : CellKind) → renewed k ≡ true → file.has_kind k ≡ true) (bounds : LeaveIs w leave st olds set) where
  abbrev z : Sizes
  z = sizes p s

  read_old : (k : CellKind) → file.has_kind k ≡ true → Reads m k (cells_held z st k)
  read_old (cell.Of k) has =
      let is = holds.stand.numbers_are k has in subst (λ d. Reads m (cell.Of k) (numbers_by (load (memory_in d)))) (sym is.same) is.reads
  read_old cell.Ptr has =
      let is = holds.stand.pointers_are has in
      subst (λ d. Reads m cell.Ptr (pointers_by (load (memory_in d)) (load (memory_in (held z st offsets))))) (sym is.same_blocks)
      (subst (λ d. Reads m cell.Ptr (pointers_by (load is.block_list) (load (memory_in d)))) (sym is.same_offsets) is.reads)

  same_old : (k : CellKind) → file.has_kind k ≡ true → cells_held z st k ≡ read_in m k
  same_old k has = reads_is m k (cells_held z st k) (read_old k has)

  framed_by : (leave : Leave) → LeaveIs w leave st olds set → (n : Memory) (k : CellKind) (f g : Cells) → f ≡ read_in m k → g ≡ read_in n k → FramesSo leave (set k) f g
      → (b o : ℤ) → FramedAt (set k) (read_in m k) (read_in n k) b o
  framed_by leave all n k f g e d h (negsuc i) o out = nothing_hidden n k i o ∙ sym (nothing_hidden m k i o)
  framed_by of_all all n k f g e d h (pos i) o out = not_both (lies_inside (set k) (pos i) o) (all k i o) out
  framed_by (of_regions news gs) all n k f g e d h (pos i) o out = sym (ap (λ (f : Cells). f (pos i) o) d) ∙ h i o out ∙ ap (λ (f : Cells). f (pos i) o) e

  -- where lists that aren't renewed read the memory as before
  module _ (n : Memory) (new : State) (places : (a : Place) → IsIn z a → is_renewed renewed a ≡ false → held z new a ≡ held z st a)
      (kept : (k : CellKind) → file.has_kind k ≡ true → renewed k ≡ false → Reads n k (read_in m k)) where
    old_numbers : (k : Kind) → file.has_kind (cell.Of k) ≡ true → renewed (cell.Of k) ≡ false → NumbersAre n k (held z new (numbers k))
    old_numbers k has off =
        let is = holds.stand.numbers_are k has in
        record { list = is.list; same = places (numbers k) tt off ∙ is.same; reads = λ b o. is.reads b o ∙ kept (cell.Of k) has off b o }

    old_pointers : file.has_kind cell.Ptr ≡ true → renewed cell.Ptr ≡ false → PointersAre n (held z new blocks) (held z new offsets)
    old_pointers has off =
        let is = holds.stand.pointers_are has in
        record {
          block_list = is.block_list;
          offset_list = is.offset_list;
          same_blocks = places blocks tt off ∙ is.same_blocks;
          same_offsets = places offsets tt off ∙ is.same_offsets;
          reads = λ b o. is.reads b o ∙ kept cell.Ptr has off b o;
        }

    all_stand : ((k : Kind) → renewed (cell.Of k) ≡ true → NumbersAre n k (held z new (numbers k)))
        → (renewed cell.Ptr ≡ true → PointersAre n (held z new blocks) (held z new offsets)) → MemoriesStand p s file n new
    all_stand of_numbers of_pointers = record {
      numbers_are = λ k has. on_test (renewed (cell.Of k)) (of_numbers k) (old_numbers k has);
      pointers_are = λ has. on_test (renewed cell.Ptr) of_pointers (old_pointers has);
    }

  -- ---- from the memory to the lists

  module _ (n : Memory) (is : IsRenewal p file renewed set st.table m n) where
    abbrev new_datum : Place → Datum
    new_datum (numbers k) = cells (canonical ((encoded n).numbers k))
    new_datum blocks = cells (canonical (encoded n).blocks)
    new_datum offsets = cells (canonical (encoded n).offsets)
    new_datum a = nothing

    abbrev new_at : Place → Datum
    new_at a = if is_renewed renewed a then new_datum a else held z st a

    abbrev new : State
    new = with_slots st (slots_by z new_at)

    new_size : length new.slots ≡ slots_in z
    new_size = (slots_are_what_places_hold z).size new_at

    held_new : (a : Place) → IsIn z a → is_renewed renewed a ≡ true → held z new a ≡ new_datum a
    held_new a there e = (slots_are_what_places_hold z).by new_at a there ∙ ap (λ t. if t then new_datum a else held z st a) e

    held_old : (a : Place) → IsIn z a → is_renewed renewed a ≡ false → held z new a ≡ held z st a
    held_old a there e = (slots_are_what_places_hold z).by new_at a there ∙ ap (λ t. if t then new_datum a else held z st a) e

    numbers_read : (k : Kind) → numbers_by (load (canonical ((encoded n).numbers k))) ≡ read_in n (cell.Of k)
    numbers_read k = ap numbers_by (in_order ((encoded n).numbers k)) ∙ reads_is n (cell.Of k) (typed (encoded n) (cell.Of k)) ((states_have_memories n).some (cell.Of k))

    pointers_read : pointers_by (load (canonical (encoded n).blocks)) (load (canonical (encoded n).offsets)) ≡ read_in n cell.Ptr
    pointers_read =
        (λ i. pointers_by (in_order (encoded n).blocks i) (in_order (encoded n).offsets i)) ∙ reads_is n cell.Ptr (typed (encoded n) cell.Ptr) ((states_have_memories n).some cell.Ptr)

    new_read : (k : CellKind) → renewed k ≡ true → cells_held z new k ≡ read_in n k
    new_read (cell.Of k) e = ap (λ d. numbers_by (load (memory_in d))) (held_new (numbers k) tt e) ∙ numbers_read k
    new_read cell.Ptr e = (λ i. pointers_by (load (memory_in (held_new blocks tt e i))) (load (memory_in (held_new offsets tt e i)))) ∙ pointers_read

    like_new : (a : Place) → IsIn z a → is_renewed renewed a ≡ true → (l l' : goal.Memory) → held z st a ≡ cells l → new_datum a ≡ cells (canonical l')
        → IsLike (held z st a) (held z new a)
    like_new a there e l l' same new_is =
        subst (λ d. IsLike d (held z new a)) (sym same) (subst (IsLike (cells l)) (sym (held_new a there e ∙ new_is)) (canonical_is_canonical l'))

    all_like : (k : CellKind) → renewed k ≡ true → AreLike z st new k
    all_like (cell.Of k) e = let old = holds.stand.numbers_are k (of_file (cell.Of k) e) in like_new (numbers k) tt e old.list ((encoded n).numbers k) old.same refl
    all_like cell.Ptr e =
        let old = holds.stand.pointers_are (of_file cell.Ptr e) in
        (like_new blocks tt e old.block_list (encoded n).blocks old.same_blocks refl, like_new offsets tt e old.offset_list (encoded n).offsets old.same_offsets refl)

    new_formed : (k : CellKind) → renewed k ≡ true → (b o : ℤ) → FormedAt p st.table k (cells_held z new k) b o
    new_formed k e b o =
        subst (λ f. FormedAt p st.table k f b o) (sym (new_read k e))
        (subst (λ t. FormedAt p t k (read_in n k) b o) is.table
        ((well_formed_states_are_formed p n (read_in n)).formed is.good.well is.good.pointers (λ k b o. refl) k b o))

    new_kind : (k : CellKind) → renewed k ≡ true → KindIs p set z leave st new k
    new_kind k e = record {
      like = all_like k e;
      formed = new_formed k e;
      frames = framed_so leave (set k) (cells_held z st k) (read_in m k) (cells_held z new k) (read_in n k) (same_old k (of_file k e)) (new_read k e) (is.framed k e);
    }

    new_below : (k : CellKind) → renewed k ≡ true → SameBelow (cells_held z st k) (cells_held z new k)
    new_below k e i o =
        ap (λ (f : Cells). f (negsuc i) o) (new_read k e) ∙ nothing_hidden n k i o
        ∙ sym (ap (λ (f : Cells). f (negsuc i) o) (same_old k (of_file k e)) ∙ nothing_hidden m k i o)

    new_run : RunIs p set z renewed leave st new
    new_run = record { table = refl; size = new_size; places = held_old; kinds = new_kind }

    new_numbers : (k : Kind) → renewed (cell.Of k) ≡ true → NumbersAre n k (held z new (numbers k))
    new_numbers k e = record { list = canonical ((encoded n).numbers k); same = held_new (numbers k) tt e; reads = λ b o. ap (λ (f : Cells). f b o) (numbers_read k) }

    new_pointers : renewed cell.Ptr ≡ true → PointersAre n (held z new blocks) (held z new offsets)
    new_pointers e = record {
      block_list = canonical (encoded n).blocks;
      offset_list = canonical (encoded n).offsets;
      same_blocks = held_new blocks tt e;
      same_offsets = held_new offsets tt e;
      reads = λ b o. ap (λ (f : Cells). f b o) pointers_read;
    }

    new_comes : ComesTo p s file renewed st n new
    new_comes = record {
      memories = all_stand n new held_old is.kept new_numbers new_pointers;
      besides = record { table = refl; size = new_size ∙ sym holds.size; places = held_old };
    }

  -- ---- from the lists to the memory

  module _ (may : MayGet p file renewed m st.table) (new : State) (r : RunIs p set z renewed leave st new) where
    -- a kind that isn't renewed, by the cells of before
    abbrev with_table : Memory
    with_table = record { blocks = st.table; cells = m.cells }

    abbrev held_by : Typed
    held_by k = if renewed k then cells_held z new k else read_in with_table k

    abbrev n : Memory
    n = decoded st.table held_by m.cells

    by_new : (k : CellKind) → renewed k ≡ true → held_by k ≡ cells_held z new k
    by_new k e = ap (λ t. if t then cells_held z new k else read_in with_table k) e

    by_old : (k : CellKind) → renewed k ≡ false → held_by k ≡ read_in with_table k
    by_old k e = ap (λ t. if t then cells_held z new k else read_in with_table k) e

    all_typed : AllTyped held_by
    all_typed k b o =
        on_test (renewed k) (λ e. subst (λ (f : Cells). HasForm k (f b o)) (sym (by_new k e)) (held_form z new k b o))
        (λ e. subst (λ (f : Cells). HasForm k (f b o)) (sym (by_old k e)) (read_has_form with_table k b o))

    -- a cell of a kind that isn't renewed was one before
    old_cell : (k : CellKind) → renewed k ≡ false → (b o : ℤ) → is_cell k st.table b o ≡ true → is_cell k m.blocks b o ≡ true
    old_cell k off b o is = on_test (file.has_kind k) (λ has. sym (may.same_cells k has off b o) ∙ is) (λ none. may.no_newer k none b o is)

    old_held : (k : CellKind) → renewed k ≡ false → (b o : ℤ) → is_cell k st.table b o ≡ true → read_in with_table k b o ≡ m.cells b o
    old_held k off b o is = read_cell with_table k b o is ∙ (good_shaped p m may.good).cells k b o (old_cell k off b o is)

    old_formed : (k : CellKind) → renewed k ≡ false → (b o : ℤ) → FormedAt p st.table k (read_in with_table k) b o
    old_formed k off b o =
        (formed_parts p st.table k (read_in with_table k) b o).1 (
          read_nothing with_table k b o,
          (λ is. ap (is_content p (count st.table) k) (old_held k off b o is)
              ∙ content_more p (count m.blocks) (count st.table) may.more k (m.cells b o) (good_contents p m may.good k b o (old_cell k off b o is))),
        )

    all_formed : AllFormed p st.table held_by
    all_formed k b o =
        on_test (renewed k) (λ e. subst (λ f. FormedAt p st.table k f b o) (sym (by_new k e)) ((r.kinds k e).formed b o))
        (λ e. subst (λ f. FormedAt p st.table k f b o) (sym (by_old k e)) (old_formed k e b o))

    n_read : AllRead n held_by
    n_read = (decoded_states_are_shaped st.table held_by m.cells all_typed).read (λ k b o. ((formed_parts p st.table k (held_by k) b o).0 (all_formed k b o)).0)

    n_shaped : IsShaped n
    n_shaped = decoded_shaped st.table held_by m.cells all_typed

    n_contents : AllContents p n
    n_contents k b o is =
        ap (is_content p (count st.table) k) (decoded_cell st.table held_by m.cells k b o is) ∙ ((formed_parts p st.table k (held_by k) b o).0 (all_formed k b o)).1 is

    n_hidden : SameHidden m n
    n_hidden = (decoded_states_are_shaped st.table held_by m.cells all_typed).hidden

    n_good : IsGood p n
    n_good = goes_good p m may.good n may.more may.placed n_hidden n_shaped n_contents may.short

    n_kept : (k : CellKind) → file.has_kind k ≡ true → renewed k ≡ false → Reads n k (read_in m k)
    n_kept k has off b o =
        ap (λ t. if t then of_kind k (m.cells b o) else nothing_of k) (sym (may.same_cells k has off b o)) ∙ sym (ap (λ (f : Cells). f b o) (by_old k off)) ∙ n_read k b o

    n_absent : (k : CellKind) → file.has_kind k ≡ false → (b o : ℤ) → is_cell k n.blocks b o ≡ true → n.cells b o ≡ m.cells b o
    n_absent k none b o is =
        let off = on_test (renewed k) (λ e. not_both (file.has_kind k) (of_file k e) none) (λ e. e) in
        decoded_cell st.table held_by m.cells k b o is ∙ ap (λ (f : Cells). f b o) (by_old k off) ∙ old_held k off b o is

    n_is : IsRenewal p file renewed set st.table m n
    n_is = record {
      good = n_good;
      table = refl;
      framed = λ k e. framed_by leave bounds n k (cells_held z st k) (cells_held z new k) (same_old k (of_file k e)) (sym (by_new k e) ∙ reads_is n k (held_by k) (n_read k))
          (r.kinds k e).frames;
      kept = n_kept;
    }

    read_new : (k : CellKind) → renewed k ≡ true → Reads n k (cells_held z new k)
    read_new k e = subst (Reads n k) (by_new k e) (n_read k)

    n_numbers : (k : Kind) → renewed (cell.Of k) ≡ true → NumbersAre n k (held z new (numbers k))
    n_numbers k e =
        let old = holds.stand.numbers_are k (of_file (cell.Of k) e) in
        record {
          list = memory_in (held z new (numbers k));
          same = like_cells old.list (held z new (numbers k)) (subst (λ d. IsLike d (held z new (numbers k))) old.same (r.kinds (cell.Of k) e).like);
          reads = read_new (cell.Of k) e;
        }

    n_pointers : renewed cell.Ptr ≡ true → PointersAre n (held z new blocks) (held z new offsets)
    n_pointers e =
        let old = holds.stand.pointers_are (of_file cell.Ptr e) in
        record {
          block_list = memory_in (held z new blocks);
          offset_list = memory_in (held z new offsets);
          same_blocks = like_cells old.block_list (held z new blocks) (subst (λ d. IsLike d (held z new blocks)) old.same_blocks (r.kinds cell.Ptr e).like.0);
          same_offsets = like_cells old.offset_list (held z new offsets) (subst (λ d. IsLike d (held z new offsets)) old.same_offsets (r.kinds cell.Ptr e).like.1);
          reads = read_new cell.Ptr e;
        }

    n_comes : ComesTo p s file renewed st n new
    n_comes = record {
      memories = all_stand n new r.places n_kept n_numbers n_pointers;
      besides = record { table = r.table; size = r.size ∙ sym holds.size; places = r.places };
    }

pub renewals_change_memories : RenewalsChangeMemories
renewals_change_memories w p s file renewed leave set olds j m st holds of_file bounds = record {
  forth = λ n is. (
    new w p s file renewed leave set olds m st holds of_file bounds n is,
    run_of w p holds.model set olds (sizes p s) renewed leave st holds.size bounds (new w p s file renewed leave set olds m st holds of_file bounds n is)
        (new_run w p s file renewed leave set olds m st holds of_file bounds n is) (new_below w p s file renewed leave set olds m st holds of_file bounds n is) j,
    new_comes w p s file renewed leave set olds m st holds of_file bounds n is,
  );
  back = λ may o run.
      let x = of_run w p holds.model set olds (sizes p s) renewed leave st holds.size bounds j o run in (
        x.0,
        x.1,
        n w p s file renewed leave set olds m st holds of_file bounds may x.0 x.2,
        n_is w p s file renewed leave set olds m st holds of_file bounds may x.0 x.2,
        record {
          absent = n_absent w p s file renewed leave set olds m st holds of_file bounds may x.0 x.2;
          hidden = n_hidden w p s file renewed leave set olds m st holds of_file bounds may x.0 x.2;
        },
        n_comes w p s file renewed leave set olds m st holds of_file bounds may x.0 x.2,
      );
}
