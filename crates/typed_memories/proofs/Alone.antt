-- Kinds of which a change touches no cell.
use Rattle.std.proofs.Common.{◌≡◌, ℕ, zero, suc, Bool, true, false, ◌||◌, not, ℤ, pos, negsuc, List, [], ◌∷◌, ◌++◌, slice_get, refl, sym, ap, ◌∙◌, arith}
use Rattle.std.specs.Prelude.{int_le, int_lt}
use Rattle.std.specs.Ordering.{int_eq}
use Rattle.std.specs.List.{list_any}
use Rattle.std.proofs.lemmas.Bool.{false≢true, and_parts}
use Rattle.std.proofs.lemmas.Int.{ints}
use Rattle.wp_base.specs.declared.kinds.CellKind.{CellKind}
use Rattle.wp_base.specs.declared.kinds.CellKind.TheVariants as cell
use Rattle.wp_base.specs.declared.kinds.Layout.{Layout}
use Rattle.wp_base.specs.Blocks.{Table, count, block_at, block_cells, same_cell, is_some_cell, has_cell, is_cell, repeated, cells_of, alloc, grow}
use Rattle.c_runs.specs.TruthStates.{Value, number, pointer, addresses, region, of_kind}
use Rattle.c_runs.specs.Program.{Facts}
use Rattle.c_runs.specs.States.{Memory}
use Rattle.c_runs.specs.Scopes.{is_content, ended_since}
use Rattle.goal_segments.specs.Segments.{SameBlocks}
use Rattle.typed_memories.specs.Cells.{Cells, read_in, FormedAt}
use Rattle.typed_memories.proofs.Tests.{on_test, not_both, chosen, both_so, neither, same_number}
use Rattle.typed_memories.proofs.Formed.{formed_parts}
use Rattle.typed_memories.proofs.Decoding.{read_cell, read_nothing}
use Rattle.typed_memories.specs.Changes.{StillThere, lacks, LacksSince, SameCells}
use Rattle.typed_memories.specs.ChangeLaws.{KindsLeftAloneAreRead, NewerLack, NewerBlocksLackKinds}
use Rattle.typed_memories.proofs.Tables.{below_more, not_count, no_cell_beyond, cell_below, new_block, other_block, grown_block}

-- ---- layouts

is_not : (t : Bool) → not t ≡ true → t ≡ false
is_not true h = absurd (false≢true h)
is_not false h = refl

found_lacks : (k : CellKind) (ks : List CellKind) → list_any (same_cell k) ks ≡ false → (i : ℕ) → is_some_cell k (slice_get ks i) ≡ false
found_lacks k [] h i = refl
found_lacks k (x ∷ ks) h zero = (neither (same_cell k x) (list_any (same_cell k) ks) h).0
found_lacks k (x ∷ ks) h (suc i) = found_lacks k ks (neither (same_cell k x) (list_any (same_cell k) ks) h).1 i

appended_lacks : (k : CellKind) (ks ls : List CellKind) → list_any (same_cell k) ks ≡ false → list_any (same_cell k) ls ≡ false
    → list_any (same_cell k) (ks ++ ls) ≡ false
appended_lacks k [] ls h g = g
appended_lacks k (x ∷ ks) ls h g =
    let both = neither (same_cell k x) (list_any (same_cell k) ks) h in
    ap (λ t. t || list_any (same_cell k) (ks ++ ls)) both.0 ∙ appended_lacks k ks ls both.1 g

repeated_lacks : (k : CellKind) (n : ℕ) (ks : List CellKind) → list_any (same_cell k) ks ≡ false → list_any (same_cell k) (repeated n ks) ≡ false
repeated_lacks k zero ks h = refl
repeated_lacks k (suc n) ks h = appended_lacks k ks (repeated n ks) h (repeated_lacks k n ks h)

has_none : (k : CellKind) (ks : List CellKind) → list_any (same_cell k) ks ≡ false → (o : ℤ) → has_cell k ks o ≡ false
has_none k ks h (pos i) = found_lacks k ks h i
has_none k ks h (negsuc i) = refl

layout_lacks : (k : CellKind) (l : Layout) → lacks k l ≡ true → (o : ℤ) → has_cell k (cells_of l) o ≡ false
layout_lacks k l h o = has_none k (cells_of l) (repeated_lacks k l.count l.cells (is_not (list_any (same_cell k) l.cells) h)) o

-- ---- the cells of a kind

module _ (k : CellKind) where
  same_where : (t u : Table) (b o : ℤ) → block_at u b ≡ block_at t b → is_cell k u b o ≡ is_cell k t b o
  same_where t u b o e = ap (λ x. has_cell k (block_cells x) o) e

  pub same_changed : (t u : Table) → SameBlocks t u → SameCells k t u
  same_changed t u s b o = same_where t u b o (s.live b)

  pub same_made : (t : Table) (l : Layout) → lacks k l ≡ true → SameCells k t (alloc t l)
  same_made t l h b o =
      on_test (int_eq b (count t))
      (λ same. let e = same_number b (count t) same in
      ap (λ b. is_cell k (alloc t l) b o) e ∙ ap (λ x. has_cell k (block_cells x) o) (new_block t l) ∙ layout_lacks k l h o
      ∙ sym (no_cell_beyond k t b o (at_count b e)))
      (λ other. same_where t (alloc t l) b o (other_block t l b other))
    where
      at_count : (b : ℤ) → b ≡ count t → int_lt b (count t) ≡ false
      at_count b e = grind (arith, ints, e)

  pub same_ended : (t u : Table) → StillThere t u → LacksSince k t u → SameCells k u (grow t (count u))
  same_ended t u s h b o =
      on_test (int_lt b (count t)) (λ below. same_where u (grow t (count u)) b o (grown_block t (count u) b ∙ sym (s.blocks b below)))
      (λ above. same_where t (grow t (count u)) b o (grown_block t (count u) b) ∙ no_cell_beyond k t b o above ∙ sym (h b o above))

  newer_lack : (t u : Table) → LacksSince k t u → NewerLack k t u
  newer_lack t u h = record {
    changed = λ w s. ((λ b o above. same_changed u w s b o ∙ h b o above), same_changed u w s);
    made = λ l g. ((λ b o above. same_made u l g b o ∙ h b o above), same_made u l g);
    ended = λ w s g. ((λ b o above. same_where u (grow u (count w)) b o (grown_block u (count w) b) ∙ h b o above), same_ended u w s g);
  }

  -- ---- what is read

  same_read : (m n : Memory) (b o : ℤ) → is_cell k n.blocks b o ≡ is_cell k m.blocks b o → (is_cell k m.blocks b o ≡ true → n.cells b o ≡ m.cells b o)
      → read_in m k b o ≡ read_in n k b o
  same_read m n b o same kept =
      on_test (is_cell k m.blocks b o) (λ is. read_cell m k b o is ∙ ap (of_kind k) (sym (kept is)) ∙ sym (read_cell n k b o (same ∙ is)))
      (λ none. read_nothing m k b o none ∙ sym (read_nothing n k b o (same ∙ none)))

  content_more : (p : Facts) (t u : Table) (v : Value) → int_le (count t) (count u) ≡ true → is_content p (count t) k v ≡ true
      → is_content p (count u) k v ≡ true
  content_more p t u v le h = by k v h
    where
      by : (k : CellKind) (v : Value) → is_content p (count t) k v ≡ true → is_content p (count u) k v ≡ true
      by (cell.Of k) (number z) h = h
      by (cell.Of k) (pointer b o) h = absurd (false≢true h)
      by (cell.Of k) (addresses s) h = absurd (false≢true h)
      by (cell.Of k) (region ks s) h = absurd (false≢true h)
      by cell.Ptr (number z) h = absurd (false≢true h)
      by cell.Ptr (pointer b o) h =
          let both = and_parts (int_le (pos 0) b) (int_lt b (count t)) h in
          both_so (int_le (pos 0) b) (int_lt b (count u)) both.0 (below_more b (count t) (count u) both.1 le)
      by cell.Ptr (addresses s) h = absurd (false≢true h)
      by cell.Ptr (region ks s) h = absurd (false≢true h)

  stays_formed : (f : Cells) (p : Facts) (t u : Table) → SameCells k t u → int_le (count t) (count u) ≡ true → ((b o : ℤ) → FormedAt p t k f b o) → (b o : ℤ)
      → FormedAt p u k f b o
  stays_formed f p t u same le h b o =
      let parts = (formed_parts p t k f b o).0 (h b o) in
      (formed_parts p u k f b o).1
      ((λ none. parts.0 (sym (same b o) ∙ none)), (λ is. content_more p t u (f b o) le (parts.1 (sym (same b o) ∙ is))))

pub newer_blocks_lack_kinds : NewerBlocksLackKinds
newer_blocks_lack_kinds k = record { first = λ t b o above. no_cell_beyond k t b o above; later = newer_lack k }

pub kinds_left_alone_are_read : KindsLeftAloneAreRead
kinds_left_alone_are_read k f m = record {
  changed = λ set n c out r b o. r b o ∙ same_read k m n b o (same_changed k m.blocks n.blocks c.blocks b o) (λ is. c.cells k b o is (out b o));
  made = λ l n mk h r b o.
      r b o
      ∙ same_read k m n b o (ap (λ t. is_cell k t b o) mk.blocks ∙ same_made k m.blocks l h b o)
      (λ is. mk.cells b o (not_count b (count m.blocks) (cell_below k m.blocks b o is)));
  ended = λ before s h r b o.
      r b o
      ∙ same_read k m (ended_since before m) b o (same_ended k before.blocks m.blocks s h b o)
      (λ is. chosen (int_lt b (count before.blocks)) (m.cells b o) (number (pos 0))
      (on_test (int_lt b (count before.blocks)) (λ below. below) (λ above. not_both (is_cell k m.blocks b o) is (h b o above))));
  formed = stays_formed k f;
}
