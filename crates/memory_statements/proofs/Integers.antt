-- A store to a cell of integers: the word has one end, and there slots stand for the world with the value in the cell.
use Rattle.std.proofs.Common.{◌≡◌, ℕ, true, false, ℤ, List, [], ◌∷◌, refl, sym, ap, ◌∙◌, subst}
use Rattle.std.proofs.lemmas.Bool.{false≢true}
use Rattle.wp_base.specs.declared.kinds.Kind.{Kind}
use Rattle.wp_base.specs.declared.kinds.CellKind.{CellKind}
use Rattle.wp_base.specs.declared.kinds.CellKind.TheVariants as cell
use Rattle.wp_base.specs.Blocks.{count, is_cell}
use Rattle.qed_terms.specs.Meaning as sense
use Rattle.qed_terms.specs.Meaning.{meaning}
use Rattle.qed_terms.specs.Memory.{load, store}
use Rattle.same_memories.specs.Canonical.{canonical}
use Rattle.c_runs.specs.Told.{Value}
use Rattle.c_runs.specs.Program.{Facts}
use Rattle.c_runs.specs.States.{with_cell, with_memory, stored_in}
use Rattle.c_runs.specs.Scopes.{is_content}
use Rattle.c_runs.specs.CoreRun.{CoreWorld, in_world}
use Rattle.typed_memories.specs.Cells.{numbers_by}
use Rattle.typed_memories.proofs.Stated.{content_has_form}
use Rattle.value_terms.specs.Readings.{Term}
use Rattle.memory_steps.specs.State.{Datum, HasSort, number, cells as memory_datum, State}
use Rattle.memory_words.specs.Places.{answer, answer_offset, numbers, Sizes, held, memory_at, memory_in, number_in, with_held}
use Rattle.memory_words.specs.Leaves.{leaf, memory_leaf, leaves_of, closed}
use Rattle.memory_words.proofs.Holding.{puts_are_held}
use Rattle.memory_words.specs.Shapes.{FileCells, Shape, sizes}
use Rattle.memory_words.specs.Standing.{Temporaries, Frame, StandsFor, NumbersAre}
use Rattle.memory_words.specs.Words.{store_of, store_cell}
use Rattle.memory_words.specs.Puts.{Keeps, NoPlace, first_value, Gives, Reaches}
use Rattle.memory_statements.specs.Stored.{SpareChanged, LeadsAt}
use Rattle.memory_statements.proofs.Reading.{numbers_stored, same_reads}
use Rattle.memory_statements.proofs.Standing.{IsMemoryOf, ListsAre, stored_stands}
use Rattle.memory_statements.proofs.StoreRunning.{one_set, one_then, one_scope}
use Rattle.memory_statements.proofs.Telling.{keeps_all, keeps_put, store_told, spare_put}

module _ (m : sense.World) (p : Facts) (s : Shape) (cells : FileCells) (fr : Frame) (f : Temporaries) (c : CoreWorld) (st : State) (stands : StandsFor p s cells fr f c st)
    (olds : List State) (a : ℕ → Term) (u : Term) (b o : ℤ) (v : Value) (leads : LeadsAt m (sizes p s) olds st a b o) where
  abbrev z : Sizes
  z = sizes p s

  -- ---- integers

  module _ (kk : Kind) (has : cells.has_kind (cell.Of kk) ≡ true) (gives : Gives m z olds answer (cell.Of kk) u v st)
      (is : is_cell (cell.Of kk) c.world.memory.blocks b o ≡ true) (content : is_content p (count c.world.memory.blocks) (cell.Of kk) v ≡ true) where
    abbrev k : CellKind
    k = cell.Of kk

    abbrev x : ℤ
    x = first_value m (st ∷ olds) k u

    abbrev st1 : State
    st1 = with_held z answer (number x) st

    abbrev d : Datum
    d = memory_datum (canonical (sense.memory (meaning m (leaves_of (st1 ∷ olds)) (closed (store_of m z (memory_leaf z 0 (numbers kk)) (a 0) (leaf z 0 answer))))))

    abbrev st2 : State
    st2 = with_held z (numbers kk) d st1

    abbrev st3 : State
    st3 = with_held z answer (held z st answer) st2

    abbrev new : State
    new = with_held z answer_offset (held z st answer_offset) st3

    abbrev Kept : State → Type 0
    Kept mid = Keeps z f (IsMemoryOf k) st mid

    kept1 : Kept st1
    kept1 = keeps_put z f (IsMemoryOf k) st st (keeps_all z f (IsMemoryOf k) st stands.size) answer tt (λ h. absurd (false≢true h)) (number x) (λ was. tt)

    kept2 : Kept st2
    kept2 = keeps_put z f (IsMemoryOf k) st st1 kept1 (numbers kk) tt (λ h. refl) d (λ was. absurd (subst (HasSort false) (stands.numbers_are kk has).same was))

    kept3 : Kept st3
    kept3 = keeps_put z f (IsMemoryOf k) st st2 kept2 answer tt (λ h. absurd (false≢true h)) (held z st answer) (λ was. was)

    kept : Kept new
    kept = keeps_put z f (IsMemoryOf k) st st3 kept3 answer_offset tt (λ h. absurd (false≢true h)) (held z st answer_offset) (λ was. was)

    spare1 : SpareChanged z st st1
    spare1 = spare_put z st st (keeps_all z (λ n. true) NoPlace st stands.size) answer tt refl (number x) (λ was. tt)

    -- what stands there in the end
    there : held z new (numbers kk) ≡ d
    there =
        (puts_are_held z answer_offset (held z st answer_offset) st3 tt kept3.size).elsewhere (numbers kk) tt (λ e. cc)
        ∙ (puts_are_held z answer (held z st answer) st2 tt kept2.size).elsewhere (numbers kk) tt (λ e. cc)
        ∙ (puts_are_held z (numbers kk) d st1 tt kept1.size).here

    numbers_before : NumbersAre c.world.memory kk (held z st (numbers kk))
    numbers_before = stands.numbers_are kk has

    memory_before : memory_at z st1 (numbers kk) ≡ numbers_before.list
    memory_before = ap memory_in (spare1.same (numbers kk) tt refl (λ h. h) ∙ numbers_before.same)

    told : d ≡ memory_datum (canonical (store numbers_before.list b o x))
    told =
        store_told m z st1 olds (a 0) (leads.closed_block 0) (leads.closed_offset 0) (numbers kk) answer b o x (leads.block st1 spare1 []) (leads.offset st1 spare1 [])
        (ap number_in (puts_are_held z answer (number x) st tt stands.size).here)
        ∙ ap (λ l. memory_datum (canonical (store l b o x))) memory_before

    numbers_now : NumbersAre (stored_in b o v c.world.memory) kk (held z new (numbers kk))
    numbers_now = record {
      list = canonical (store numbers_before.list b o x);
      same = there ∙ told;
      reads = same_reads c.world.memory k b o v is (content_has_form p (count c.world.memory.blocks) k v content) (numbers_by (load numbers_before.list))
          (numbers_by (load (canonical (store numbers_before.list b o x)))) numbers_before.reads
          (λ i j. numbers_stored numbers_before.list b o x i j ∙ ap (λ v. with_cell b o v (numbers_by (load numbers_before.list)) i j) (sym gives.held));
    }

    lists : ListsAre p s cells fr f c st stands k b o v is content new
    lists = record {
      numbers = λ l e. subst (λ l. NumbersAre (stored_in b o v c.world.memory) l (held z new (numbers l))) (of_parts e) numbers_now;
      pointers = λ e. absurd (of_ptr e);
    }
      where
        of_parts : {k l : Kind} → cell.Of k ≡ cell.Of l → k ≡ l
        of_parts e = cc

        of_ptr : {k : Kind} → cell.Of k ≡ cell.Ptr → ⊥
        of_ptr e = cc

    pub integers_are_stored : Reaches olds (store_cell m z k a u) st (StandsFor p s cells fr f (in_world c (with_memory (stored_in b o v c.world.memory) c.world)))
    integers_are_stored = record {
      state = new;
      end = one_scope (one_then (one_set st _ _) (one_set st1 _ _));
      is = stored_stands p s cells fr f c st stands k b o v is content new kept lists;
    }
