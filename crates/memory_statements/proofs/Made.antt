-- Behind the step that makes a block.
use Rattle.std.proofs.Common.{◌≡◌, ◌<◌, ℕ, ◌+◌, Bool, true, false, not, ◌&&◌, ℤ, pos, List, [], ◌∷◌, length, refl, sym, ap, ◌∙◌, subst}
use Rattle.std.specs.Prelude.{int_le}
use Rattle.std.specs.Ordering.{int_eq}
use Rattle.wp_base.specs.declared.kinds.Kind.{Kind}
use Rattle.wp_base.specs.declared.kinds.CellKind.{CellKind}
use Rattle.wp_base.specs.Blocks.{Table, count, len, block_at, block_cells, has_cell, is_cell, cells_of, alloc}
use Rattle.c_kinds.specs.Models.{high, difference_kind}
use Rattle.typed_prog.specs.declared.operators.Variable as declared
use Rattle.typed_prog.specs.declared.operators.Variable.TheVariants as variables
use Rattle.qed_terms.specs.Meaning as sense
use Rattle.qed_terms.specs.Memory.{new}
use Rattle.c_runs.specs.Program.{Variable, Facts}
use Rattle.c_runs.specs.States.{Memory}
use Rattle.goal_segments.specs.Told.{IsGood}
use Rattle.typed_memories.specs.Cells.{read_in, lies_inside}
use Rattle.typed_memories.proofs.Tests.{on_test, not_both, same_number}
use Rattle.typed_memories.specs.Changes.{Sets, since, Makes, StillThere, lacks}
use Rattle.typed_memories.proofs.Tables.{new_block, other_block, not_count}
use Rattle.typed_memories.proofs.Making.{before_since, allocations_make_blocks}
use Rattle.typed_memories.proofs.Ending.{standing_blocks_stay}
use Rattle.typed_memories.proofs.Alone.{same_made, kinds_left_alone_are_read}
use Rattle.run_blocks.proofs.Standing.{still}
use Rattle.run_blocks.proofs.Good.{good_contents, have_blocks}
use Rattle.memory_steps.specs.State.{number as number_datum, State}
use Rattle.memory_steps.specs.Run as seg
use Rattle.memory_steps.proofs.Readings.{makes_then}
use Rattle.memory_words.specs.Places.{Place, value, numbers, blocks, offsets, Sizes, held, number_in}
use Rattle.memory_words.specs.Leaves.{leaf, before_all}
use Rattle.memory_words.specs.SlotLaws.{PutIs}
use Rattle.memory_words.proofs.Holding.{puts_are_held}
use Rattle.memory_words.proofs.Leaves.{leaf_closed, leaves_are_held}
use Rattle.memory_words.specs.Shapes.{FileCells, Shape, sizes}
use Rattle.memory_words.specs.Standing.{NumbersAre, PointersAre}
use Rattle.memory_words.specs.Renewal.{of_regions}
use Rattle.memory_words.specs.Words.{has_cell_of}
use Rattle.memory_statements.specs.Renewed.{BoundsAre, IsRenewal, KeepsUntold, MayGet, ListsRead}
use Rattle.memory_statements.specs.RenewalLaws.{Renews, file_kinds, block_in, MakesBlock, MadeIsRenewed}
use Rattle.memory_statements.proofs.Machine.{renewals_change_memories}
use Rattle.memory_statements.proofs.RenewalSets.{both_read}
use Rattle.memory_statements.proofs.Untold.{all_framed}

-- a variable's place is none of a memory
value_numbers : (x : declared.Variable) (k : Kind) → value x ≡ numbers k → ⊥
value_numbers x k e = cc

value_blocks : (x : declared.Variable) → value x ≡ blocks → ⊥
value_blocks x e = cc

value_offsets : (x : declared.Variable) → value x ≡ offsets → ⊥
value_offsets x e = cc

module _ (w : sense.World) (p : Facts) (s : Shape) (file : FileCells) (x : ℕ) (v : Variable) (olds : List State) (m : Memory) (st : State) (holds : ListsRead w p s file m st)
    (good : IsGood p m) (e : st.table ≡ m.blocks) (there : x < length s.variables) (kinds : (k : CellKind) → has_cell_of v.layout k ≡ true → file.has_kind k ≡ true)
    (short : int_le (pos (length (cells_of v.layout))) (high p.model (difference_kind p.model)) ≡ true) where
  abbrev z : Sizes
  z = sizes p s

  abbrev a : Place
  a = value (variables.Local x)

  abbrev after : State
  after = block_in p s x v st

  abbrev table : Table
  table = alloc m.blocks v.layout

  abbrev renewed : CellKind → Bool
  renewed = file_kinds file v

  abbrev set : Sets
  set = since (count m.blocks)

  put : PutIs z a (number_datum (count st.table)) st
  put = puts_are_held z a (number_datum (count st.table)) st there holds.size

  table_is : after.table ≡ table
  table_is = ap (λ t. alloc t v.layout) e

  -- the lists are still those of before
  pointers_held : PointersAre m (held z st blocks) (held z st offsets) → PointersAre m (held z after blocks) (held z after offsets)
  pointers_held is =
      subst (λ d. PointersAre m d (held z after offsets)) (sym (put.elsewhere blocks tt (value_blocks (variables.Local x))))
      (subst (PointersAre m (held z st blocks)) (sym (put.elsewhere offsets tt (value_offsets (variables.Local x)))) is)

  holds_after : ListsRead w p s file m after
  holds_after = record {
    model = holds.model;
    size = put.size ∙ holds.size;
    stand = record {
      numbers_are = λ k has. subst (NumbersAre m k) (sym (put.elsewhere (numbers k) tt (value_numbers (variables.Local x) k))) (holds.stand.numbers_are k has);
      pointers_are = λ has. pointers_held (holds.stand.pointers_are has);
    };
  }

  bounds : BoundsAre w (leaf z 2 a ∷ []) [] after olds set
  bounds = record {
    closed_news = ap (λ c. c && true) (leaf_closed [] z 2 a);
    closed_regions = refl;
    inside = λ k d present i o.
        ap (λ c. lies_inside (new c ∷ []) (pos i) o) ((leaves_are_held w (before_all d (present ∷ after ∷ olds)) 2).number z a ∙ ap number_in put.here ∙ ap count e);
  }

  -- ---- the table

  has_lacks : (k : CellKind) → has_cell_of v.layout k ≡ false → lacks k v.layout ≡ true
  has_lacks k h = ap not h

  off_lacks : (k : CellKind) → file.has_kind k ≡ true → renewed k ≡ false → lacks k v.layout ≡ true
  off_lacks k has off = has_lacks k (sym (ap (λ t. t && has_cell_of v.layout k) has) ∙ off)

  none_lacks : (k : CellKind) → file.has_kind k ≡ false → lacks k v.layout ≡ true
  none_lacks k none = has_lacks k (on_test (has_cell_of v.layout k) (λ h. not_both (file.has_kind k) (kinds k h) none) (λ h. h))

  stays : StillThere m.blocks table
  stays = (standing_blocks_stay m.blocks m.blocks (still m.blocks)).made v.layout

  all_short : (b : ℤ) → int_le (len table b) (high p.model (difference_kind p.model)) ≡ true
  all_short b =
      on_test (int_eq b (count m.blocks))
      (λ same. ap (λ x. int_le (pos (length (block_cells x))) (high p.model (difference_kind p.model)))
      (ap (block_at table) (same_number b (count m.blocks) same) ∙ new_block m.blocks v.layout) ∙ short)
      (λ other. ap (λ x. int_le (pos (length (block_cells x))) (high p.model (difference_kind p.model))) (other_block m.blocks v.layout b other) ∙ good.well.short b)

  may_get : MayGet p file renewed m table
  may_get = record {
    good = good;
    same_cells = λ k has off. same_made k m.blocks v.layout (off_lacks k has off);
    no_newer = λ k none b o is. sym (same_made k m.blocks v.layout (none_lacks k none) b o) ∙ is;
    more = stays.more;
    placed = have_blocks p m good table stays;
    short = all_short;
  }

  of_file : (k : CellKind) → renewed k ≡ true → file.has_kind k ≡ true
  of_file k on = on_test (file.has_kind k) (λ has. has) (λ none. not_both (renewed k) on (ap (λ t. t && has_cell_of v.layout k) none))

  law : (j : ℕ) → Renews w p s file renewed (of_regions (leaf z 2 a ∷ []) []) set olds j m after
  law j = renewals_change_memories w p s file renewed (of_regions (leaf z 2 a ∷ []) []) set olds j m after holds_after of_file bounds

  -- ---- both ways

  is_renewal : (n : Memory) → IsGood p n → Makes v.layout m n → IsRenewal p file renewed set after.table m n
  is_renewal n good' makes = record {
    good = good';
    table = makes.blocks ∙ sym table_is;
    framed = λ k on. ((allocations_make_blocks v.layout m n (read_in m) (read_in n) (both_read p m n good good')).1 makes).1 k;
    kept = λ k has off. (kinds_left_alone_are_read k (read_in m k) m).made v.layout n makes (off_lacks k has off) (λ b o. refl);
  }

  makes_it : (n : Memory) → IsRenewal p file renewed set after.table m n → KeepsUntold p file renewed m n → Makes v.layout m n
  makes_it n is keeps =
      (allocations_make_blocks v.layout m n (read_in m) (read_in n) (both_read p m n good is.good)).0 (
        is.table ∙ table_is,
        all_framed p file renewed set after.table m n is keeps
            (λ k b o out. ap (λ t. is_cell k t b o) (is.table ∙ table_is)
            ∙ ap (λ x. has_cell k (block_cells x) o) (other_block m.blocks v.layout b (not_count b (count m.blocks) (before_since (count m.blocks) k b o out)))),
        keeps.hidden,
      )

  makes_block : (j : ℕ) → MakesBlock w p s file x v olds j m st
  makes_block j = record {
    forth = λ n good' makes. let x = (law (j + 0)).forth n (is_renewal n good' makes) in (x.0, seg.goes_both seg.makes x.1, x.2);
    back = λ o run.
        let x = (law j).back (subst (MayGet p file renewed m) (sym table_is) may_get) o (makes_then run) in
        (x.0, x.1, x.2, x.3.good, makes_it x.2 x.3 x.4, (λ k o is. good_contents p x.2 x.3.good k (count m.blocks) o is), x.5);
  }

pub made_is_renewed : MadeIsRenewed
made_is_renewed w p s file x v olds j m st holds good e there kinds short = makes_block w p s file x v olds m st holds good e there kinds short j
