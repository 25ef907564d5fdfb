-- What the facts of a renewal tell of the new lists: that they are formed, and framed.
use Rattle.std.proofs.Common.{◌≡◌, ◌↔◌, ℕ, suc, Bool, true, false, ◌&&◌, if◌then◌else◌, ℤ, pos, negsuc, List, [], ◌∷◌, ◌++◌, map, refl, sym, ap, ◌∙◌}
use Rattle.std.specs.List.{list_all}
use Rattle.std.proofs.lemmas.Bool.{and_parts}
use Rattle.wp_base.specs.declared.kinds.Kind.{Kind}
use Rattle.wp_base.specs.declared.kinds.CellKind.{CellKind}
use Rattle.wp_base.specs.declared.kinds.CellKind.TheVariants as cell
use Rattle.c_kinds.specs.Models.{long_bits}
use Rattle.qed_terms.specs.declared.head.Shape.TheVariants as shape
use Rattle.qed_terms.specs.Tree.{Tree, trees_of}
use Rattle.qed_terms.specs.Memory as goal
use Rattle.qed_terms.specs.Memory.{load, Region, new, is_well_formed, are_well_formed, agree_outside}
use Rattle.qed_terms.specs.Meaning as sense
use Rattle.qed_terms.specs.Meaning.{Values, whole, truth, value, meanings, regions}
use Rattle.c_runs.specs.Program.{Facts}
use Rattle.typed_memories.specs.Cells.{Cells, numbers_by, pointers_by, FormedAt, FramedAt}
use Rattle.typed_memories.proofs.Tests.{both_so}
use Rattle.typed_memories.proofs.Formed.{well_formed_says}
use Rattle.typed_memories.proofs.Stated.{frames_say}
use Rattle.typed_memories.specs.Changes.{Sets}
use Rattle.acsl_encode.specs.Told.{those}
use Rattle.walk_steps.specs.State.{at_or}
use Rattle.memory_steps.specs.State.{Datum, State, nothing}
use Rattle.memory_steps.specs.Forms.{AllTold}
use Rattle.memory_steps.specs.World.{memory_var}
use Rattle.memory_words.specs.Places.{Place, Sizes, numbers, blocks, offsets, slot, memory_in, memory_at}
use Rattle.memory_words.specs.Leaves.{leaf_name, memory_leaf, or_false, closed, is_closed, are_closed, leaves_of, before_all, fact}
use Rattle.memory_words.specs.SlotLaws.{no_state}
use Rattle.memory_words.proofs.Leaves.{slot_of_leaf, leaves_are_held}
use Rattle.memory_words.specs.Regions.{RegionTree, has_kind, of_kind, shapes_of, bounds_of}
use Rattle.memory_words.specs.Renewal.{new_memory, Leave, of_all, of_regions, frame_of, frames, number_facts, pointer_facts}
use Rattle.memory_statements.specs.Renewed.{cells_at, regions_at, is_closed_region, BoundsAre, LeaveIs}

-- ---- lists of trees

pub values_are : (w : sense.World) (env : Values) (ts : List Tree) → map whole (meanings w env (trees_of ts)) ≡ map (value w env) ts
values_are w env [] = refl
values_are w env (t ∷ ts) = ap (λ zs. value w env t ∷ zs) (values_are w env ts)

pub closed_are : (xs : List (List ℕ)) (ts : List Tree) → are_closed xs (trees_of ts) ≡ list_all (is_closed xs) ts
closed_are xs [] = refl
closed_are xs (t ∷ ts) = ap (λ c. is_closed xs t && c) (closed_are xs ts)

-- ---- regions

news_are : (w : sense.World) (env : Values) (news : List Tree) → regions (map (λ t. shape.New) news) (map (value w env) news) ≡ map (λ t. new (value w env t)) news
news_are w env [] = refl
news_are w env (t ∷ ts) = ap (λ rs. new (value w env t) ∷ rs) (news_are w env ts)

pub regions_are : (w : sense.World) (env : Values) (news : List Tree) (gs : List RegionTree)
    → regions (shapes_of news gs) (map (value w env) (bounds_of gs ++ news)) ≡ regions_at w env news gs
regions_are w env news [] = news_are w env news
regions_are w env news (g ∷ gs) = ap (λ rs. cells_at w env g ∷ rs) (regions_are w env news gs)

pub closed_bounds : (news : List Tree) (gs : List RegionTree) → list_all (is_closed []) news ≡ true → list_all is_closed_region gs ≡ true
    → list_all (is_closed []) (bounds_of gs ++ news) ≡ true
closed_bounds news [] h e = h
closed_bounds news (g ∷ gs) h e =
    let both = and_parts (is_closed_region g) (list_all is_closed_region gs) e in
    let ends = and_parts (is_closed [] g.block && is_closed [] g.low) (is_closed [] g.high) both.0 in
    let starts = and_parts (is_closed [] g.block) (is_closed [] g.low) ends.0 in
    both_so (is_closed [] g.block) _ starts.0 (both_so (is_closed [] g.low) _ starts.1 (both_so (is_closed [] g.high) _ ends.1 (closed_bounds news gs h both.1)))

-- those of a kind
pub those_all : {X : Type 0} (test q : X → Bool) (xs : List X) → list_all q xs ≡ true → list_all q (those test xs) ≡ true
those_all test q [] e = refl
those_all test q (x ∷ xs) e = let both = and_parts (q x) (list_all q xs) e in by (test x) both.0 (those_all test q xs both.1) where
  by : (t : Bool) → q x ≡ true → list_all q (those test xs) ≡ true → list_all q (if t then x ∷ those test xs else those test xs) ≡ true
  by true h rest = both_so (q x) _ h rest
  by false h rest = rest

-- ---- frames

-- what frames say of the lists of a kind, in blocks from 0 on
abbrev pub FramesSo : Leave → List Region → (old new : Cells) → Type 0
FramesSo of_all rs f g = Unit {0}
FramesSo (of_regions news gs) rs f g = (i : ℕ) (o : ℤ) → FramedAt rs f g (pos i) o

-- the same is held in blocks with negative numbers
abbrev pub SameBelow : (old new : Cells) → Type 0
SameBelow f g = (i : ℕ) (o : ℤ) → g (negsuc i) o ≡ f (negsuc i) o

-- ---- facts

module _ (w : sense.World) (p : Facts) (model : w.long_bits ≡ long_bits p.model) (set : Sets) (st : State) (olds : List State) (z : Sizes) (present : State) (d : Datum) where
  abbrev sts : List State
  sts = present ∷ st ∷ olds

  abbrev env : Values
  env = leaves_of (before_all d sts)

  new_is : env.memories (leaf_name 0 0) ≡ memory_in d
  new_is = ap memory_in (slot_of_leaf nothing (map (λ (st : State). st.slots) (before_all d sts)) 0 0)

  leaf_is : (l : ℕ) (a : Place) → env.memories (leaf_name (suc l) (slot z a)) ≡ memory_at z (at_or no_state sts l) a
  leaf_is l a = (leaves_are_held w (before_all d sts) (suc l)).memory z a

  table_is : env.tables (leaf_name 1 0) ≡ present.table
  table_is = (leaves_are_held w (before_all d sts) 1).table

  closed_is : (f : Tree) → is_closed [] f ≡ true → truth w env (closed f) ≡ truth w env f
  closed_is f e = ap (λ t. truth w env (or_false t f)) e

  -- ---- frames

  module _ (news : List Tree) (gs : List RegionTree) (bounds : BoundsAre w news gs st olds set) (k : CellKind) where
    abbrev rs : List Region
    rs = regions_at w env news (of_kind k gs)

    -- between two memories that have these names
    module _ (x y : List ℕ) (m n : goal.Memory) (e : env.memories x ≡ m) (f : env.memories y ≡ n) where
      abbrev frame_tree : Tree
      frame_tree = frame_of news (of_kind k gs) (memory_var x) (memory_var y)

      frame_told : truth w env (closed frame_tree) ≡ agree_outside m n rs
      frame_told =
          closed_is frame_tree
          (closed_are [] (bounds_of (of_kind k gs) ++ news)
          ∙ closed_bounds news (of_kind k gs) bounds.closed_news (those_all (has_kind k) is_closed_region gs bounds.closed_regions))
          ∙ (λ i. agree_outside (e i) (f i) (regions (shapes_of news (of_kind k gs)) (values_are w env (bounds_of (of_kind k gs) ++ news) i)))
          ∙ ap (agree_outside m n) (regions_are w env news (of_kind k gs))

    to_set : (f g : Cells) → ((b o : ℤ) → FramedAt rs f g b o) → (i : ℕ) (o : ℤ) → FramedAt (set k) f g (pos i) o
    to_set f g h i o out = h (pos i) o (bounds.inside k d present i o ∙ out)

    from_set : (f g : Cells) → SameBelow f g → ((i : ℕ) (o : ℤ) → FramedAt (set k) f g (pos i) o) → (b o : ℤ) → FramedAt rs f g b o
    from_set f g below h (pos i) o out = h i o (sym (bounds.inside k d present i o) ∙ out)
    from_set f g below h (negsuc i) o out = below i o

  -- ---- numbers

  module _ (k : Kind) where
    abbrev new_numbers : Cells
    new_numbers = numbers_by (load (memory_in d))

    abbrev old_numbers : Cells
    old_numbers = numbers_by (load (memory_at z st (numbers k)))

    formed_told : is_well_formed w.long_bits k (env.tables (leaf_name 1 0)) (env.memories (leaf_name 0 0)) ≡ is_well_formed (long_bits p.model) k present.table (memory_in d)
    formed_told = λ i. is_well_formed (model i) k (table_is i) (new_is i)

    frames_told : (leave : Leave) → LeaveIs w leave st olds set → AllTold sts (map (fact w) (frames leave (cell.Of k) (memory_leaf z 2 (numbers k)) new_memory)) d
        → FramesSo leave (set (cell.Of k)) old_numbers new_numbers
    frames_told of_all bounds h = tt
    frames_told (of_regions news gs) bounds h =
        let told = frame_told news gs bounds (cell.Of k) (leaf_name 2 (slot z (numbers k))) (leaf_name 0 0) (memory_at z st (numbers k)) (memory_in d) (leaf_is 1 (numbers k)) new_is in
        let say = (frames_say (rs news gs bounds (cell.Of k))).numbers (memory_at z st (numbers k)) (memory_in d) in
        to_set news gs bounds (cell.Of k) old_numbers new_numbers (say.0 (sym told ∙ h.0 (pos 0) (pos 0)))

    tells_frames : (leave : Leave) → LeaveIs w leave st olds set → SameBelow old_numbers new_numbers → FramesSo leave (set (cell.Of k)) old_numbers new_numbers
        → AllTold sts (map (fact w) (frames leave (cell.Of k) (memory_leaf z 2 (numbers k)) new_memory)) d
    tells_frames of_all bounds below h = tt
    tells_frames (of_regions news gs) bounds below h =
        let told = frame_told news gs bounds (cell.Of k) (leaf_name 2 (slot z (numbers k))) (leaf_name 0 0) (memory_at z st (numbers k)) (memory_in d) (leaf_is 1 (numbers k)) new_is in
        let say = (frames_say (rs news gs bounds (cell.Of k))).numbers (memory_at z st (numbers k)) (memory_in d) in
        ((λ b o. told ∙ say.1 (from_set news gs bounds (cell.Of k) old_numbers new_numbers below h)), tt)

    pub numbers_told : (renewed : CellKind → Bool) (leave : Leave) → LeaveIs w leave st olds set → AllTold sts (map (fact w) (number_facts z renewed leave k)) d
        → ((b o : ℤ) → FormedAt p present.table (cell.Of k) new_numbers b o) × FramesSo leave (set (cell.Of k)) old_numbers new_numbers
    numbers_told renewed leave bounds h =
        (((well_formed_says p present.table).numbers k (memory_in d)).0 (sym formed_told ∙ h.0 (pos 0) (pos 0)), frames_told leave bounds h.1)

    pub tells_numbers : (renewed : CellKind → Bool) (leave : Leave) → LeaveIs w leave st olds set → SameBelow old_numbers new_numbers
        → ((b o : ℤ) → FormedAt p present.table (cell.Of k) new_numbers b o) → FramesSo leave (set (cell.Of k)) old_numbers new_numbers
        → AllTold sts (map (fact w) (number_facts z renewed leave k)) d
    tells_numbers renewed leave bounds below formed framed =
        ((λ b o. formed_told ∙ ((well_formed_says p present.table).numbers k (memory_in d)).1 formed), tells_frames leave bounds below framed)

  -- ---- pointers: blocks have changed before

  abbrev new_pointers : Cells
  new_pointers = pointers_by (load (memory_at z present blocks)) (load (memory_in d))

  abbrev old_pointers : Cells
  old_pointers = pointers_by (load (memory_at z st blocks)) (load (memory_at z st offsets))

  pointers_formed_told : are_well_formed (env.tables (leaf_name 1 0)) (env.memories (leaf_name 1 (slot z blocks))) (env.memories (leaf_name 0 0))
      ≡ are_well_formed present.table (memory_at z present blocks) (memory_in d)
  pointers_formed_told = λ i. are_well_formed (table_is i) (leaf_is 0 blocks i) (new_is i)

  -- the two frames
  module _ (news : List Tree) (gs : List RegionTree) (bounds : BoundsAre w news gs st olds set) where
    blocks_told : truth w env (closed (frame_of news (of_kind cell.Ptr gs) (memory_leaf z 2 blocks) (memory_leaf z 1 blocks)))
        ≡ agree_outside (memory_at z st blocks) (memory_at z present blocks) (rs news gs bounds cell.Ptr)
    blocks_told =
        frame_told news gs bounds cell.Ptr (leaf_name 2 (slot z blocks)) (leaf_name 1 (slot z blocks)) (memory_at z st blocks) (memory_at z present blocks) (leaf_is 1 blocks)
        (leaf_is 0 blocks)

    offsets_told : truth w env (closed (frame_of news (of_kind cell.Ptr gs) (memory_leaf z 2 offsets) new_memory))
        ≡ agree_outside (memory_at z st offsets) (memory_in d) (rs news gs bounds cell.Ptr)
    offsets_told = frame_told news gs bounds cell.Ptr (leaf_name 2 (slot z offsets)) (leaf_name 0 0) (memory_at z st offsets) (memory_in d) (leaf_is 1 offsets) new_is

    both_say : ((agree_outside (memory_at z st blocks) (memory_at z present blocks) (rs news gs bounds cell.Ptr) ≡ true)
        × (agree_outside (memory_at z st offsets) (memory_in d) (rs news gs bounds cell.Ptr) ≡ true))
        ↔ ((b o : ℤ) → FramedAt (rs news gs bounds cell.Ptr) old_pointers new_pointers b o)
    both_say = (frames_say (rs news gs bounds cell.Ptr)).pointers (memory_at z st blocks) (memory_at z st offsets) (memory_at z present blocks) (memory_in d)

  pointer_frames_told : (leave : Leave) → LeaveIs w leave st olds set
      → AllTold sts (map (fact w) (frames leave cell.Ptr (memory_leaf z 2 blocks) (memory_leaf z 1 blocks) ++ frames leave cell.Ptr (memory_leaf z 2 offsets) new_memory)) d
      → FramesSo leave (set cell.Ptr) old_pointers new_pointers
  pointer_frames_told of_all bounds h = tt
  pointer_frames_told (of_regions news gs) bounds h =
      to_set news gs bounds cell.Ptr old_pointers new_pointers
      ((both_say news gs bounds).0 (sym (blocks_told news gs bounds) ∙ h.0 (pos 0) (pos 0), sym (offsets_told news gs bounds) ∙ h.1.0 (pos 0) (pos 0)))

  tells_pointer_frames : (leave : Leave) → LeaveIs w leave st olds set → SameBelow old_pointers new_pointers → FramesSo leave (set cell.Ptr) old_pointers new_pointers
      → AllTold sts (map (fact w) (frames leave cell.Ptr (memory_leaf z 2 blocks) (memory_leaf z 1 blocks) ++ frames leave cell.Ptr (memory_leaf z 2 offsets) new_memory)) d
  tells_pointer_frames of_all bounds below h = tt
  tells_pointer_frames (of_regions news gs) bounds below h =
      let both = (both_say news gs bounds).1 (from_set news gs bounds cell.Ptr old_pointers new_pointers below h) in
      ((λ b o. blocks_told news gs bounds ∙ both.0), ((λ b o. offsets_told news gs bounds ∙ both.1), tt))

  pub pointers_told : (renewed : CellKind → Bool) (leave : Leave) → LeaveIs w leave st olds set → AllTold sts (map (fact w) (pointer_facts z renewed leave)) d
      → ((b o : ℤ) → FormedAt p present.table cell.Ptr new_pointers b o) × FramesSo leave (set cell.Ptr) old_pointers new_pointers
  pointers_told renewed leave bounds h = (
    ((well_formed_says p present.table).pointers (memory_at z present blocks) (memory_in d)).0 (sym pointers_formed_told ∙ h.0 (pos 0) (pos 0)),
    pointer_frames_told leave bounds h.1,
  )

  pub tells_pointers : (renewed : CellKind → Bool) (leave : Leave) → LeaveIs w leave st olds set → SameBelow old_pointers new_pointers
      → ((b o : ℤ) → FormedAt p present.table cell.Ptr new_pointers b o) → FramesSo leave (set cell.Ptr) old_pointers new_pointers
      → AllTold sts (map (fact w) (pointer_facts z renewed leave)) d
  tells_pointers renewed leave bounds below formed framed = (
    (λ b o. pointers_formed_told ∙ ((well_formed_says p present.table).pointers (memory_at z present blocks) (memory_in d)).1 formed),
    tells_pointer_frames leave bounds below framed,
  )
