-- The same of a cell of pointers, where two memories change.
use Rattle.std.proofs.Common.{◌≡◌, ℕ, true, false, ℤ, List, [], ◌∷◌, refl, sym, ap, ◌∙◌, subst}
use Rattle.std.proofs.lemmas.Bool.{false≢true}
use Rattle.wp_base.specs.declared.kinds.Kind.{Kind}
use Rattle.wp_base.specs.declared.kinds.CellKind.TheVariants as cell
use Rattle.wp_base.specs.Blocks.{count, is_cell}
use Rattle.qed_terms.specs.Meaning as sense
use Rattle.qed_terms.specs.Meaning.{meaning}
use Rattle.qed_terms.specs.Memory as goal
use Rattle.qed_terms.specs.Memory.{load, store}
use Rattle.same_memories.specs.Canonical.{canonical}
use Rattle.c_runs.specs.TruthStates.{pointer as pointer_value}
use Rattle.c_runs.specs.Told.{Value}
use Rattle.c_runs.specs.Program.{Facts}
use Rattle.c_runs.specs.States.{with_cell, with_memory, stored_in}
use Rattle.c_runs.specs.Scopes.{is_content}
use Rattle.c_runs.specs.CoreRun.{CoreWorld, in_world}
use Rattle.typed_memories.specs.Cells.{pointers_by}
use Rattle.typed_memories.proofs.Stated.{content_has_form}
use Rattle.value_terms.specs.Readings.{Term}
use Rattle.memory_steps.specs.State.{Datum, HasSort, number, cells as memory_datum, State}
use Rattle.memory_words.specs.Places.{Place, answer, answer_offset, blocks, offsets, Sizes, IsIn, held, number_at, memory_in, number_in, with_held}
use Rattle.memory_words.specs.Leaves.{leaf, memory_leaf, leaves_of, closed}
use Rattle.memory_words.proofs.Holding.{puts_are_held}
use Rattle.memory_words.specs.Shapes.{FileCells, Shape, sizes}
use Rattle.memory_words.specs.Standing.{Temporaries, Frame, StandsFor, PointersAre}
use Rattle.memory_words.specs.Words.{store_of, store_cell}
use Rattle.memory_words.specs.Puts.{Keeps, NoPlace, first_value, second_value, Gives, Reaches}
use Rattle.memory_statements.specs.Stored.{SpareChanged, LeadsAt}
use Rattle.memory_statements.proofs.Reading.{pointers_stored, same_reads}
use Rattle.memory_statements.proofs.Standing.{IsMemoryOf, ListsAre, stored_stands}
use Rattle.memory_statements.proofs.StoreRunning.{one_set, one_then, one_scope, one_remember}
use Rattle.memory_statements.proofs.Telling.{keeps_all, keeps_put, store_told, spare_put}

module _ (m : sense.World) (p : Facts) (s : Shape) (cells : FileCells) (fr : Frame) (f : Temporaries) (c : CoreWorld) (st : State) (stands : StandsFor p s cells fr f c st)
    (olds : List State) (a : ℕ → Term) (u : Term) (b o : ℤ) (v : Value) (leads : LeadsAt m (sizes p s) olds st a b o) where
  abbrev z : Sizes
  z = sizes p s

  -- ---- pointers

  module _ (has : cells.has_kind cell.Ptr ≡ true) (gives : Gives m z olds answer cell.Ptr u v st)
      (is : is_cell cell.Ptr c.world.memory.blocks b o ≡ true) (content : is_content p (count c.world.memory.blocks) cell.Ptr v ≡ true) where
    abbrev x : ℤ
    x = first_value m (st ∷ olds) cell.Ptr u

    abbrev st1 : State
    st1 = with_held z answer (number x) st

    abbrev y : ℤ
    y = second_value m (st1 ∷ olds) cell.Ptr u

    -- it is remembered, and its address is written to
    abbrev st2 : State
    st2 = with_held z answer_offset (number y) st1

    abbrev told_in : State → Place → Place → Datum
    told_in now to from = memory_datum (canonical (sense.memory (meaning m (leaves_of (now ∷ st2 ∷ olds)) (closed (store_of m z (memory_leaf z 0 to) (a 1) (leaf z 0 from))))))

    abbrev d : Datum
    d = told_in st2 blocks answer

    abbrev st3 : State
    st3 = with_held z blocks d st2

    abbrev e : Datum
    e = told_in st3 offsets answer_offset

    abbrev st4 : State
    st4 = with_held z offsets e st3

    abbrev st5 : State
    st5 = with_held z answer (held z st answer) st4

    abbrev new : State
    new = with_held z answer_offset (held z st answer_offset) st5

    -- ---- what is kept

    spare1 : SpareChanged z st st1
    spare1 = spare_put z st st (keeps_all z (λ n. true) NoPlace st stands.size) answer tt refl (number x) (λ was. tt)

    spare2 : SpareChanged z st st2
    spare2 = spare_put z st st1 spare1 answer_offset tt refl (number y) (λ was. tt)

    abbrev Kept : State → Type 0
    Kept mid = Keeps z f (IsMemoryOf cell.Ptr) st mid

    kept1 : Kept st1
    kept1 = keeps_put z f (IsMemoryOf cell.Ptr) st st (keeps_all z f (IsMemoryOf cell.Ptr) st stands.size) answer tt (λ h. absurd (false≢true h)) (number x) (λ was. tt)

    kept2 : Kept st2
    kept2 = keeps_put z f (IsMemoryOf cell.Ptr) st st1 kept1 answer_offset tt (λ h. absurd (false≢true h)) (number y) (λ was. tt)

    kept3 : Kept st3
    kept3 = keeps_put z f (IsMemoryOf cell.Ptr) st st2 kept2 blocks tt (λ h. refl) d (λ was. absurd (subst (HasSort false) (stands.pointers_are has).same_blocks was))

    kept4 : Kept st4
    kept4 = keeps_put z f (IsMemoryOf cell.Ptr) st st3 kept3 offsets tt (λ h. refl) e (λ was. absurd (subst (HasSort false) (stands.pointers_are has).same_offsets was))

    kept5 : Kept st5
    kept5 = keeps_put z f (IsMemoryOf cell.Ptr) st st4 kept4 answer tt (λ h. absurd (false≢true h)) (held z st answer) (λ was. was)

    kept : Kept new
    kept = keeps_put z f (IsMemoryOf cell.Ptr) st st5 kept5 answer_offset tt (λ h. absurd (false≢true h)) (held z st answer_offset) (λ was. was)

    -- ---- what stands where

    -- a place at which nothing is put back
    back : (a : Place) → IsIn z a → (answer ≡ a → ⊥) → (answer_offset ≡ a → ⊥) → held z new a ≡ held z st4 a
    back a there n1 n2 =
        (puts_are_held z answer_offset (held z st answer_offset) st5 tt kept5.size).elsewhere a there n2
        ∙ (puts_are_held z answer (held z st answer) st4 tt kept4.size).elsewhere a there n1

    blocks_there : held z new blocks ≡ d
    blocks_there =
        back blocks tt (λ h. cc) (λ h. cc) ∙ (puts_are_held z offsets e st3 tt kept3.size).elsewhere blocks tt (λ h. cc) ∙ (puts_are_held z blocks d st2 tt kept2.size).here

    offsets_there : held z new offsets ≡ e
    offsets_there = back offsets tt (λ h. cc) (λ h. cc) ∙ (puts_are_held z offsets e st3 tt kept3.size).here

    answer_there : number_at z st2 answer ≡ x
    answer_there =
        ap number_in ((puts_are_held z answer_offset (number y) st1 tt spare1.size).elsewhere answer tt (λ h. cc) ∙ (puts_are_held z answer (number x) st tt stands.size).here)

    -- where the memory of blocks has changed
    answer_offset_there : number_at z st3 answer_offset ≡ y
    answer_offset_there =
        ap number_in ((puts_are_held z blocks d st2 tt kept2.size).elsewhere answer_offset tt (λ h. cc)
        ∙ (puts_are_held z answer_offset (number y) st1 tt spare1.size).here)

    -- ---- the memories

    before : PointersAre c.world.memory (held z st blocks) (held z st offsets)
    before = stands.pointers_are has

    abbrev new_blocks : goal.Memory
    new_blocks = canonical (store before.block_list b o x)

    abbrev new_offsets : goal.Memory
    new_offsets = canonical (store before.offset_list b o y)

    blocks_told : d ≡ memory_datum new_blocks
    blocks_told =
        store_told m z st2 (st2 ∷ olds) (a 1) (leads.closed_block 1) (leads.closed_offset 1) blocks answer b o x (leads.block st2 spare2 (st2 ∷ []))
        (leads.offset st2 spare2 (st2 ∷ [])) answer_there
        ∙ ap (λ l. memory_datum (canonical (store l b o x))) (ap memory_in (spare2.same blocks tt refl (λ h. h) ∙ before.same_blocks))

    offsets_told : e ≡ memory_datum new_offsets
    offsets_told =
        store_told m z st3 (st2 ∷ olds) (a 1) (leads.closed_block 1) (leads.closed_offset 1) offsets answer_offset b o y (leads.block st2 spare2 (st3 ∷ []))
        (leads.offset st2 spare2 (st3 ∷ [])) answer_offset_there
        ∙ ap (λ l. memory_datum (canonical (store l b o y)))
        (ap memory_in ((puts_are_held z blocks d st2 tt kept2.size).elsewhere offsets tt (λ h. cc) ∙ spare2.same offsets tt refl (λ h. h) ∙ before.same_offsets))

    value_is : v ≡ pointer_value x y
    value_is = gives.held ∙ ap (pointer_value x) (sym gives.stays)

    pointers_now : PointersAre (stored_in b o v c.world.memory) (held z new blocks) (held z new offsets)
    pointers_now = record {
      block_list = new_blocks;
      offset_list = new_offsets;
      same_blocks = blocks_there ∙ blocks_told;
      same_offsets = offsets_there ∙ offsets_told;
      reads = same_reads c.world.memory cell.Ptr b o v is (content_has_form p (count c.world.memory.blocks) cell.Ptr v content)
          (pointers_by (load before.block_list) (load before.offset_list)) (pointers_by (load new_blocks) (load new_offsets)) before.reads
          (λ i j. pointers_stored before.block_list before.offset_list b o x y i j
          ∙ ap (λ v. with_cell b o v (pointers_by (load before.block_list) (load before.offset_list)) i j) (sym value_is));
    }

    lists : ListsAre p s cells fr f c st stands cell.Ptr b o v is content new
    lists = record { numbers = λ l e. absurd (of_number e); pointers = λ e. pointers_now }
      where
        of_number : {k : Kind} → cell.Ptr ≡ cell.Of k → ⊥
        of_number e = cc

    pub pointers_are_stored : Reaches olds (store_cell m z cell.Ptr a u) st (StandsFor p s cells fr f (in_world c (with_memory (stored_in b o v c.world.memory) c.world)))
    pointers_are_stored = record {
      state = new;
      end = one_scope (one_then (one_then (one_set st _ _) (one_set st1 _ _)) (one_remember (one_then (one_set st2 _ _) (one_set st3 _ _))));
      is = stored_stands p s cells fr f c st stands cell.Ptr b o v is content new kept lists;
    }
