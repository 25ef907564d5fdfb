-- What frames of lists mean of cells: those outside of the set hold what they held.
use Rattle.std.proofs.Common.{◌≡◌, ◌↔◌, ℕ, Bool, true, false, ◌&&◌, if◌then◌else◌, ℤ, pos, negsuc, List, [], ◌∷◌, ◌++◌, refl, sym, ap, ◌∙◌, subst}
use Rattle.std.specs.List.{list_all, list_any}
use Rattle.std.proofs.lemmas.Bool.{false≢true, and_parts}
use Rattle.std.proofs.lemmas.List.Folds.{list_all-append}
use Rattle.wp_base.specs.declared.kinds.Kind.TheVariants as kind
use Rattle.wp_base.specs.declared.kinds.CellKind.{CellKind}
use Rattle.wp_base.specs.declared.kinds.CellKind.TheVariants as cell
use Rattle.wp_base.specs.Blocks.{same_cell, is_cell}
use Rattle.acsl_encode.specs.Told.{every_cell, those}
use Rattle.qed_terms.specs.Tree.{Tree}
use Rattle.qed_terms.specs.Memory.{load, Region, agree_outside}
use Rattle.qed_terms.specs.Meaning as sense
use Rattle.qed_terms.specs.Meaning.{Values, truth, regions}
use Rattle.c_runs.specs.Program.{Facts}
use Rattle.c_runs.specs.States.{Memory}
use Rattle.goal_segments.specs.Segments.{SameBlocks}
use Rattle.typed_memories.specs.Cells.{Cells, numbers_by, pointers_by, lies_inside, read_in, FramedAt}
use Rattle.typed_memories.proofs.CellKinds.{same_kind}
use Rattle.typed_memories.proofs.Tests.{on_test, both_so, or_left}
use Rattle.typed_memories.proofs.Stated.{frames_say}
use Rattle.typed_memories.specs.Changes.{Sets}
use Rattle.typed_memories.proofs.Framing.{frames_are_changes}
use Rattle.memory_steps.specs.State.{State}
use Rattle.memory_words.specs.Places.{Place, numbers, blocks, offsets, Sizes, memory_in, memory_at}
use Rattle.memory_words.specs.Leaves.{or_false, closed, is_closed, leaves_of}
use Rattle.memory_words.proofs.Leaves.{leaves_are_held}
use Rattle.memory_words.specs.Shapes.{FileCells, Shape, sizes}
use Rattle.memory_words.specs.Readings.{Texts, memory_leaf}
use Rattle.memory_words.specs.Standing.{FileStands}
use Rattle.memory_words.specs.Regions.{RegionTree, has_kind, of_kind, shapes_of, bounds_of}
use Rattle.memory_words.specs.Renewal.{of_regions, frame_of}
use Rattle.memory_statements.specs.Renewed.{regions_at, is_closed_region}
use Rattle.memory_statements.proofs.Facts.{values_are, closed_are, regions_are, closed_bounds, those_all}
use Rattle.memory_statements.proofs.RenewalRunning.{cells_held}
use Rattle.memory_statements.proofs.Machine.{reads_is, nothing_hidden}
use Rattle.memory_statements.proofs.RenewalSets.{both_read}
use Rattle.memory_calls.specs.Stays.{frame_trees, all_frames}

-- ---- all kinds

is_listed : (k : CellKind) → list_any (same_cell k) every_cell ≡ true
is_listed (cell.Of kind.Bool) = refl
is_listed (cell.Of kind.Char) = refl
is_listed (cell.Of kind.SChar) = refl
is_listed (cell.Of kind.UChar) = refl
is_listed (cell.Of kind.Short) = refl
is_listed (cell.Of kind.UShort) = refl
is_listed (cell.Of kind.Int) = refl
is_listed (cell.Of kind.UInt) = refl
is_listed (cell.Of kind.Long) = refl
is_listed (cell.Of kind.ULong) = refl
is_listed (cell.Of kind.LLong) = refl
is_listed (cell.Of kind.ULLong) = refl
is_listed cell.Ptr = refl

module _ (q so : CellKind → Bool) where
  rest_of : (k : CellKind) (ks : List CellKind) → list_all so (those q (k ∷ ks)) ≡ true → list_all so (those q ks) ≡ true
  rest_of k ks h = on_test (q k)
      (λ t. (and_parts (so k) (list_all so (those q ks)) (sym (ap (λ b. list_all so (if b then k ∷ those q ks else those q ks)) t) ∙ h)).1)
      (λ t. sym (ap (λ b. list_all so (if b then k ∷ those q ks else those q ks)) t) ∙ h)

  each_of : (ks : List CellKind) → list_all so (those q ks) ≡ true → (k : CellKind) → list_any (same_cell k) ks ≡ true → q k ≡ true → so k ≡ true
  each_of [] h k there on = absurd (false≢true there)
  each_of (l ∷ ks) h k there on = on_test (same_cell k l)
      (λ t. let e = same_kind k l t in
      ap so e ∙ (and_parts (so l) (list_all so (those q ks)) (sym (ap (λ b. list_all so (if b then l ∷ those q ks else those q ks)) (ap q (sym e) ∙ on)) ∙ h)).0)
      (λ t. each_of ks (rest_of l ks h) k (or_left (same_cell k l) (list_any (same_cell k) ks) there t) on)

  all_of : ((k : CellKind) → q k ≡ true → so k ≡ true) → (ks : List CellKind) → list_all so (those q ks) ≡ true
  all_of h [] = refl
  all_of h (k ∷ ks) = on_test (q k)
      (λ t. ap (λ b. list_all so (if b then k ∷ those q ks else those q ks)) t ∙ both_so (so k) (list_all so (those q ks)) (h k t) (all_of h ks))
      (λ t. ap (λ b. list_all so (if b then k ∷ those q ks else those q ks)) t ∙ all_of h ks)

  pub for_kinds : (list_all so (those q every_cell) ≡ true) ↔ ((k : CellKind) → q k ≡ true → so k ≡ true)
  for_kinds = ((λ h k on. each_of every_cell h k (is_listed k) on), (λ h. all_of h every_cell))

-- ---- frames

module _ (m : sense.World) (p : Facts) (s : Shape) (cells : FileCells) (texts : Texts) (present before : State) (olds : List State) (since : Tree) (gs : List RegionTree)
    (closed_since : is_closed [] since ≡ true) (closed_regions : list_all is_closed_region gs ≡ true) where
  abbrev z : Sizes
  z = sizes p s

  abbrev sts : List State
  sts = present ∷ before ∷ olds

  abbrev env : Values
  env = leaves_of sts

  abbrev pub told : Tree → Bool
  told f = truth m env (closed f)

  closed_is : (f : Tree) → is_closed [] f ≡ true → told f ≡ truth m env f
  closed_is f e = ap (λ t. truth m env (or_false t f)) e

  module _ (k : CellKind) where
    abbrev rs : List Region
    rs = regions_at m env (since ∷ []) (of_kind k gs)

    abbrev frame_at : Place → Tree
    frame_at a = frame_of (since ∷ []) (of_kind k gs) (memory_leaf p s cells 1 a) (memory_leaf p s cells 0 a)

    frame_closed : (a : Place) → is_closed [] (frame_at a) ≡ true
    frame_closed a =
        closed_are [] (bounds_of (of_kind k gs) ++ since ∷ [])
        ∙ closed_bounds (since ∷ []) (of_kind k gs) (both_so (is_closed [] since) true closed_since refl) (those_all (has_kind k) is_closed_region gs closed_regions)

    frame_told : (a : Place) → told (frame_at a) ≡ agree_outside (memory_at z before a) (memory_at z present a) rs
    frame_told a =
        closed_is (frame_at a) (frame_closed a)
        ∙ (λ i. agree_outside ((leaves_are_held m sts 1).memory z a i) ((leaves_are_held m sts 0).memory z a i)
        (regions (shapes_of (since ∷ []) (of_kind k gs)) (values_are m env (bounds_of (of_kind k gs) ++ since ∷ []) i)))
        ∙ ap (agree_outside (memory_at z before a) (memory_at z present a)) (regions_are m env (since ∷ []) (of_kind k gs))

  abbrev pub all_so : CellKind → Bool
  all_so k = list_all told (frame_trees p s cells texts (of_regions (since ∷ []) gs) k)

  -- the frames of a kind say what they say of its lists
  lists_framed : (k : CellKind) → (all_so k ≡ true) ↔ ((b o : ℤ) → FramedAt (rs k) (cells_held z before k) (cells_held z present k) b o)
  lists_framed (cell.Of l) =
      let say = (frames_say (rs (cell.Of l))).numbers (memory_at z before (numbers l)) (memory_at z present (numbers l)) in (
        (λ h. say.0 (sym (frame_told (cell.Of l) (numbers l)) ∙ (and_parts (told (frame_at (cell.Of l) (numbers l))) true h).0)),
        (λ h. both_so (told (frame_at (cell.Of l) (numbers l))) true (frame_told (cell.Of l) (numbers l) ∙ say.1 h) refl),
      )
  lists_framed cell.Ptr =
      let say = (frames_say (rs cell.Ptr)).pointers (memory_at z before blocks) (memory_at z before offsets) (memory_at z present blocks) (memory_at z present offsets) in (
        (λ h. let one = and_parts (told (frame_at cell.Ptr blocks)) _ h in let two = and_parts (told (frame_at cell.Ptr offsets)) true one.1 in
            say.0 (sym (frame_told cell.Ptr blocks) ∙ one.0, sym (frame_told cell.Ptr offsets) ∙ two.0)),
        (λ h. let both = say.1 h in
            both_so (told (frame_at cell.Ptr blocks)) _ (frame_told cell.Ptr blocks ∙ both.0) (both_so (told (frame_at cell.Ptr offsets)) true (frame_told cell.Ptr offsets ∙ both.1) refl)),
      )

  -- the formulas of frames are closed
  pub frames_closed : (k : CellKind) → list_all (is_closed []) (frame_trees p s cells texts (of_regions (since ∷ []) gs) k) ≡ true
  frames_closed (cell.Of l) = both_so (is_closed [] (frame_at (cell.Of l) (numbers l))) true (frame_closed (cell.Of l) (numbers l)) refl
  frames_closed cell.Ptr =
      both_so (is_closed [] (frame_at cell.Ptr blocks)) _ (frame_closed cell.Ptr blocks) (both_so (is_closed [] (frame_at cell.Ptr offsets)) true (frame_closed cell.Ptr offsets) refl)

  pub all_frames_closed : (ks : List CellKind) → list_all (is_closed []) (all_frames p s cells texts (of_regions (since ∷ []) gs) ks) ≡ true
  all_frames_closed [] = refl
  all_frames_closed (k ∷ ks) =
      list_all-append (is_closed []) (frame_trees p s cells texts (of_regions (since ∷ []) gs) k) (all_frames p s cells texts (of_regions (since ∷ []) gs) ks)
      ∙ both_so (list_all (is_closed []) (frame_trees p s cells texts (of_regions (since ∷ []) gs) k)) _ (frames_closed k) (all_frames_closed ks)

  all_frames_told : (ks : List CellKind) → list_all told (all_frames p s cells texts (of_regions (since ∷ []) gs) ks) ≡ list_all all_so ks
  all_frames_told [] = refl
  all_frames_told (k ∷ ks) =
      list_all-append told (frame_trees p s cells texts (of_regions (since ∷ []) gs) k) (all_frames p s cells texts (of_regions (since ∷ []) gs) ks)
      ∙ ap (λ t. all_so k && t) (all_frames_told ks)

  -- ---- and of the cells of memories that they read

  module _ (set : Sets) (inside : (k : CellKind) (i : ℕ) (o : ℤ) → lies_inside (rs k) (pos i) o ≡ lies_inside (set k) (pos i) o)
      (c d : Memory) (first : FileStands p s cells c before) (second : FileStands p s cells d present) (same : SameBlocks c.blocks d.blocks) where
    lists_read : (st : State) (n : Memory) → FileStands p s cells n st → (k : CellKind) → cells.has_kind k ≡ true → cells_held z st k ≡ read_in n k
    lists_read st n file (cell.Of l) has =
        let is = file.numbers_are l has in ap (λ d. numbers_by (load (memory_in d))) is.same ∙ reads_is n (cell.Of l) (numbers_by (load is.list)) is.reads
    lists_read st n file cell.Ptr has =
        let is = file.pointers_are has in
        (λ i. pointers_by (load (memory_in (is.same_blocks i))) (load (memory_in (is.same_offsets i))))
        ∙ reads_is n cell.Ptr (pointers_by (load is.block_list) (load is.offset_list)) is.reads

    abbrev CellsStay : CellKind → Type 0
    CellsStay k = (b o : ℤ) → is_cell k c.blocks b o ≡ true → lies_inside (set k) b o ≡ false → d.cells b o ≡ c.cells b o

    to_set : (k : CellKind) → ((b o : ℤ) → FramedAt (rs k) (read_in c k) (read_in d k) b o) → (b o : ℤ) → FramedAt (set k) (read_in c k) (read_in d k) b o
    to_set k h (pos i) o out = h (pos i) o (inside k i o ∙ out)
    to_set k h (negsuc i) o out = nothing_hidden d k i o ∙ sym (nothing_hidden c k i o)

    from_set : (k : CellKind) → ((b o : ℤ) → FramedAt (set k) (read_in c k) (read_in d k) b o) → (b o : ℤ) → FramedAt (rs k) (read_in c k) (read_in d k) b o
    from_set k h (pos i) o out = h (pos i) o (sym (inside k i o) ∙ out)
    from_set k h (negsuc i) o out = nothing_hidden d k i o ∙ sym (nothing_hidden c k i o)

    kind_stays : (k : CellKind) → cells.has_kind k ≡ true → (all_so k ≡ true) ↔ CellsStay k
    kind_stays k has =
        let lists = lists_framed k in
        let e = lists_read before c first k has in
        let f = lists_read present d second k has in
        let changes = (frames_are_changes set c d (read_in c) (read_in d) (both_read p c d first.good second.good)).of_one k same in (
          (λ h. changes.0 (to_set k (subst (λ (g : Cells). (b o : ℤ) → FramedAt (rs k) (read_in c k) g b o) f
              (subst (λ (g : Cells). (b o : ℤ) → FramedAt (rs k) g (cells_held z present k) b o) e (lists.0 h))))),
          (λ h. lists.1 (subst (λ (g : Cells). (b o : ℤ) → FramedAt (rs k) g (cells_held z present k) b o) (sym e)
              (subst (λ (g : Cells). (b o : ℤ) → FramedAt (rs k) (read_in c k) g b o) (sym f) (from_set k (changes.1 h))))),
        )

    pub frames_mean : (kinds : CellKind → Bool) → let q = λ (k : CellKind). cells.has_kind k && kinds k in
        (list_all told (all_frames p s cells texts (of_regions (since ∷ []) gs) (those q every_cell)) ≡ true) ↔ ((k : CellKind) → q k ≡ true → CellsStay k)
    frames_mean kinds =
        let q = λ (k : CellKind). cells.has_kind k && kinds k in
        let each = for_kinds q all_so in
        let e = all_frames_told (those q every_cell) in (
          (λ h k on. (kind_stays k (and_parts (cells.has_kind k) (kinds k) on).0).0 (each.0 (sym e ∙ h) k on)),
          (λ h. e ∙ each.1 (λ k on. (kind_stays k (and_parts (cells.has_kind k) (kinds k) on).0).1 (h k on))),
        )
