-- The cells of a block that is made: contents fill them one after the other.
use Rattle.std.proofs.Common.{◌≡◌, ℕ, zero, suc, ◌<◌, Bool, true, false, if◌then◌else◌, ℤ, pos, negsuc, ◌+ℤ◌, List, [], ◌∷◌, length, Some, slice_get, get_or, refl, sym, ap, ◌∙◌, subst, arith}
use Rattle.std.specs.Ordering.{int_eq}
use Rattle.std.proofs.lemmas.Bool.{false≢true}
use Rattle.std.proofs.lemmas.Int.{ints}
use Rattle.std.proofs.lemmas.Option.{slice_get_within, slice_get-get_or}
use Rattle.wp_base.specs.declared.kinds.CellKind.{CellKind}
use Rattle.wp_base.specs.declared.kinds.CellKind.TheVariants as cell
use Rattle.wp_base.specs.declared.kinds.Layout.{Layout}
use Rattle.wp_base.specs.Blocks.{Table, count, block_cells, has_cell, is_cell, cells_of, alloc}
use Rattle.c_runs.specs.TruthStates.{Value, number, of_kind, nothing_of}
use Rattle.c_runs.specs.Program.{Variable, Facts}
use Rattle.c_runs.specs.States.{Memory, World, stored_in, with_memory, with_local, home}
use Rattle.c_runs.specs.Scopes.{is_content, next_content, others, filled, cleared, with_block, block_made}
use Rattle.c_runs.specs.Effects.{cell_in}
use Rattle.typed_memories.specs.Cells.{Cells, kind_at, HasForm, IsShaped}
use Rattle.typed_memories.proofs.Tests.{on_test, not_both, chosen, unchosen, both_so, same_number, number_same, is_here, same_address, moved, with_cell_here, with_cell_apart}
use Rattle.typed_memories.proofs.CellKinds.{kind_of_cell, cell_of_kind}
use Rattle.typed_memories.proofs.Formed.{nothing_in_range}
use Rattle.typed_memories.proofs.Stated.{content_has_form}
use Rattle.typed_memories.specs.Changes.{Makes}
use Rattle.typed_memories.specs.ChangeLaws.{HoldsContents, HoldsNothing, MadeBlocksHoldContents}
use Rattle.typed_memories.proofs.Tables.{no_cell_beyond, not_lt_test, new_block, other_block}

-- the address of one of the cells from an offset on
abbrev IsAmong : (b o : ℤ) → List CellKind → (b' o' : ℤ) → Type 0
IsAmong b o ks b' o' = (b ≡ b') × (i : ℕ) × (i < length ks) × (o' ≡ o +ℤ pos i)

module _ (p : Facts) (t : Table) (b : ℤ) where
  abbrev fill : ℤ → List CellKind → World → World
  fill o ks w = filled p (count t) b o ks w

  -- a world in which the next cell is filled
  abbrev next : ℤ → CellKind → World → World
  next o k w = record w { contents = others w.contents; memory = stored_in b o (next_content p (count t) k w.contents) w.memory }

  pub fill_blocks : (o : ℤ) (ks : List CellKind) (w : World) → (fill o ks w).memory.blocks ≡ w.memory.blocks
  fill_blocks o [] w = refl
  fill_blocks o (k ∷ ks) w = fill_blocks (o +ℤ pos 1) ks (next o k w)

  not_here : (o : ℤ) (k : CellKind) (ks : List CellKind) (b' o' : ℤ) → (IsAmong b o (k ∷ ks) b' o' → ⊥) → is_here b o b' o' ≡ false
  not_here o k ks b' o' apart =
      on_test (is_here b o b' o') (λ h. let e = same_address b o b' o' h in let d = e.1 in absurd (apart (e.0, 0, omega arith, omega (arith, ints, d))))
      (λ h. h)

  not_later : (o : ℤ) (k : CellKind) (ks : List CellKind) (b' o' : ℤ) → (IsAmong b o (k ∷ ks) b' o' → ⊥) → IsAmong b (o +ℤ pos 1) ks b' o' → ⊥
  not_later o k ks b' o' apart x = let i = x.1 in let l = x.2 in let e = x.3 in apart (x.0, suc i, omega (arith, l), omega (arith, ints, e))

  pub fill_apart : (o : ℤ) (ks : List CellKind) (w : World) (b' o' : ℤ) → (IsAmong b o ks b' o' → ⊥) → (fill o ks w).memory.cells b' o' ≡ w.memory.cells b' o'
  fill_apart o [] w b' o' apart = refl
  fill_apart o (k ∷ ks) w b' o' apart =
      fill_apart (o +ℤ pos 1) ks (next o k w) b' o' (not_later o k ks b' o' apart)
      ∙ with_cell_apart b o (next_content p (count t) k w.contents) w.memory.cells b' o' (not_here o k ks b' o' apart)

  -- ---- what fills the cells

  -- what is so of each next content is so of what each cell holds
  module _ (Q : CellKind → Value → Type 0) (C : List Value → Type 0) (more : (vs : List Value) → C vs → C (others vs))
      (each : (k : CellKind) (vs : List Value) → C vs → Q k (next_content p (count t) k vs)) where
    pub fill_holds : (o : ℤ) (ks : List CellKind) (w : World) → C w.contents → (i : ℕ) (k : CellKind) → slice_get ks i ≡ Some k → (o' : ℤ) → o' ≡ o +ℤ pos i
        → Q k ((fill o ks w).memory.cells b o')
    fill_holds o [] w c i k h o' e = absurd cc
    fill_holds o (l ∷ ks) w c zero k h o' e =
        let same : l ≡ k = cc in
        let there : o ≡ o' = omega (arith, ints, e) in
        let later : IsAmong b (o +ℤ pos 1) ks b o' → ⊥ = λ x. let d = x.3 in absurd (omega (arith, ints, e, d)) in
        let held = fill_apart (o +ℤ pos 1) ks (next o l w) b o' later
        ∙ with_cell_here b o (next_content p (count t) l w.contents) w.memory.cells b o'
        (both_so (int_eq b b) (int_eq o o') (number_same b b refl) (number_same o o' there)) in
        subst (λ v. Q k v) (sym held) (subst (λ k. Q k (next_content p (count t) l w.contents)) same (each l w.contents c))
    fill_holds o (l ∷ ks) w c (suc i) k h o' e = fill_holds (o +ℤ pos 1) ks (next o l w) (more w.contents c) i k h o' (omega (arith, ints, e))

  -- contents that are what these cells hold
  abbrev Supplies : Cells → ℤ → List CellKind → List Value → Type 0
  Supplies f o [] vs = Unit {0}
  Supplies f o (k ∷ ks) vs = (next_content p (count t) k vs ≡ f b o) × Supplies f (o +ℤ pos 1) ks (others vs)

  pub fill_is : (f : Cells) (o : ℤ) (ks : List CellKind) (w : World) → Supplies f o ks w.contents
      → ((b' o' : ℤ) → (IsAmong b o ks b' o' → ⊥) → w.memory.cells b' o' ≡ f b' o')
      → (b' o' : ℤ) → (fill o ks w).memory.cells b' o' ≡ f b' o'
  fill_is f o [] w s h b' o' = h b' o' (λ x. let l = x.2 in absurd (omega (arith, l)))
  fill_is f o (k ∷ ks) w s h b' o' =
      fill_is f (o +ℤ pos 1) ks (next o k w) s.1
      (λ x y apart.
      on_test (is_here b o x y)
      (λ here. with_cell_here b o (next_content p (count t) k w.contents) w.memory.cells x y here ∙ s.0 ∙ moved (λ x y. f b o ≡ f x y) b o x y here refl)
      (λ other. with_cell_apart b o (next_content p (count t) k w.contents) w.memory.cells x y other ∙ h x y (not_among x y apart other)))
      b' o'
    where
      by_number : (x y : ℤ) → b ≡ x → (i : ℕ) → i < suc (length ks) → y ≡ o +ℤ pos i → (IsAmong b (o +ℤ pos 1) ks x y → ⊥) → is_here b o x y ≡ false → ⊥
      by_number x y e zero l d apart other =
          let there : o ≡ y = omega (arith, ints, d) in false≢true (sym other ∙ both_so (int_eq b x) (int_eq o y) (number_same b x e) (number_same o y there))
      by_number x y e (suc i) l d apart other = apart (e, i, omega (arith, l), omega (arith, ints, d))

      not_among : (x y : ℤ) → (IsAmong b (o +ℤ pos 1) ks x y → ⊥) → is_here b o x y ≡ false → IsAmong b o (k ∷ ks) x y → ⊥
      not_among x y apart other a = by_number x y a.0 a.1 a.2 a.3 apart other

  -- what the cells hold, in their order
  abbrev held_from : Cells → ℤ → List CellKind → List Value
  held_from f o [] = []
  held_from f o (k ∷ ks) = f b o ∷ held_from f (o +ℤ pos 1) ks

  -- of what is so at the number of each cell, what is so at the later ones
  later_ones : (P : CellKind → ℤ → Type 0) (o : ℤ) (k : CellKind) (ks : List CellKind)
      → ((i : ℕ) (l : CellKind) (o' : ℤ) → slice_get (k ∷ ks) i ≡ Some l → o' ≡ o +ℤ pos i → P l o')
      → (i : ℕ) (l : CellKind) (o' : ℤ) → slice_get ks i ≡ Some l → o' ≡ o +ℤ pos 1 +ℤ pos i → P l o'
  later_ones P o k ks h i l o' g e = h (suc i) l o' g (omega (arith, ints, e))

  supplies_own : (f : Cells) (o : ℤ) (ks : List CellKind)
      → ((i : ℕ) (k : CellKind) (o' : ℤ) → slice_get ks i ≡ Some k → o' ≡ o +ℤ pos i → is_content p (count t) k (f b o') ≡ true)
      → Supplies f o ks (held_from f o ks)
  supplies_own f o [] h = tt
  supplies_own f o (k ∷ ks) h = (
    chosen (is_content p (count t) k (f b o)) (f b o) (nothing_of k) (h 0 k o refl (omega (arith, ints))),
    supplies_own f (o +ℤ pos 1) ks (later_ones (λ k o'. is_content p (count t) k (f b o') ≡ true) o k ks h),
  )

  supplies_nothing : (f : Cells) (o : ℤ) (ks : List CellKind)
      → ((i : ℕ) (k : CellKind) (o' : ℤ) → slice_get ks i ≡ Some k → o' ≡ o +ℤ pos i → f b o' ≡ nothing_of k) → Supplies f o ks []
  supplies_nothing f o [] h = tt
  supplies_nothing f o (k ∷ ks) h =
      (sym (h 0 k o refl (omega (arith, ints))), supplies_nothing f (o +ℤ pos 1) ks (later_ones (λ k o'. f b o' ≡ nothing_of k) o k ks h))

  -- cells that hold nothing yet are filled without contents
  cleared_is : (o : ℤ) (ks : List CellKind) (m : Memory) (w : World) → cleared b o ks m ≡ (fill o ks (record w { contents = []; memory = m })).memory
  cleared_is o [] m w = refl
  cleared_is o (k ∷ ks) m w = cleared_is (o +ℤ pos 1) ks (stored_in b o (nothing_of k) m) w

  -- ---- contents

  next_is_content : (k : CellKind) (vs : List Value) → is_content p (count t) k (next_content p (count t) k vs) ≡ true
  next_is_content k [] = nothing_in_range p t k
  next_is_content k (v ∷ vs) =
      on_test (is_content p (count t) k v)
      (λ is. ap (is_content p (count t) k) (chosen (is_content p (count t) k v) v (nothing_of k) is) ∙ is)
      (λ not_so. ap (is_content p (count t) k) (unchosen (is_content p (count t) k v) v (nothing_of k) not_so) ∙ nothing_in_range p t k)

  pub fill_contents : (o : ℤ) (ks : List CellKind) (w : World) (i : ℕ) (k : CellKind) → slice_get ks i ≡ Some k → (o' : ℤ) → o' ≡ o +ℤ pos i
      → is_content p (count t) k ((fill o ks w).memory.cells b o') ≡ true
  fill_contents o ks w = fill_holds (λ k v. is_content p (count t) k v ≡ true) (λ vs. Unit {0}) (λ vs c. tt) (λ k vs c. next_is_content k vs) o ks w tt

  nothing_next : (k : CellKind) (vs : List Value) → vs ≡ [] → next_content p (count t) k vs ≡ nothing_of k
  nothing_next k vs e = ap (next_content p (count t) k) e

  pub fill_nothing : (o : ℤ) (ks : List CellKind) (w : World) → w.contents ≡ [] → (i : ℕ) (k : CellKind) → slice_get ks i ≡ Some k → (o' : ℤ) → o' ≡ o +ℤ pos i
      → (fill o ks w).memory.cells b o' ≡ nothing_of k
  fill_nothing = fill_holds (λ k v. v ≡ nothing_of k) (λ vs. vs ≡ []) (λ vs e. ap others e) nothing_next

-- ---- the cells of a new block

module _ (t : Table) (l : Layout) where
  abbrev made_table : Table
  made_table = alloc t l

  new_kind : (o : ℤ) → kind_at made_table (count t) o ≡ cell_in (cells_of l) o
  new_kind o = ap (λ x. cell_in (block_cells x) o) (new_block t l)

  -- each of them has its number in the layout
  numbered : (P : CellKind → ℤ → Type 0) → ((i : ℕ) (k : CellKind) (o : ℤ) → slice_get (cells_of l) i ≡ Some k → o ≡ pos 0 +ℤ pos i → P k o)
      → (k : CellKind) (o : ℤ) → is_cell k made_table (count t) o ≡ true → P k o
  numbered P h k (pos i) is = h i k (pos i) (sym (new_kind (pos i)) ∙ kind_of_cell k made_table (count t) (pos i) is) (omega (arith, ints))
  numbered P h k (negsuc i) is = let e = sym (new_kind (negsuc i)) ∙ kind_of_cell k made_table (count t) (negsuc i) is in absurd cc

  cell_numbered : (i : ℕ) (k : CellKind) (o : ℤ) → slice_get (cells_of l) i ≡ Some k → o ≡ pos 0 +ℤ pos i → is_cell k made_table (count t) o ≡ true
  cell_numbered i k o g e =
      let d : pos i ≡ o = omega (arith, ints, e) in
      subst (λ o. is_cell k made_table (count t) o ≡ true) d (cell_of_kind k made_table (count t) (pos i) (new_kind (pos i) ∙ g))

  -- where the new block has no cell, none of its numbers is
  not_numbered : (o : ℤ) → ((k : CellKind) → is_cell k made_table (count t) o ≡ false) → IsAmong (count t) (pos 0) (cells_of l) (count t) o → ⊥
  not_numbered o none x =
      let k = get_or (cells_of l) x.1 cell.Ptr in
      not_both (is_cell k made_table (count t) o) (cell_numbered x.1 k o (slice_get-get_or (cells_of l) x.1 cell.Ptr x.2) x.3) (none k)

  -- where none of its numbers is, it has no cell
  no_new_cell : (o : ℤ) → (IsAmong (count t) (pos 0) (cells_of l) (count t) o → ⊥) → (k : CellKind) → is_cell k made_table (count t) o ≡ false
  no_new_cell o apart k =
      on_test (is_cell k made_table (count t) o)
      (λ is. absurd (apart (numbered (λ k o. IsAmong (count t) (pos 0) (cells_of l) (count t) o)
      (λ i k o g e. (refl, i, slice_get_within (cells_of l) i k g, e)) k o is)))
      (λ h. h)

  -- in the table of before, the block isn't there
  not_there : (k : CellKind) (o : ℤ) → is_cell k t (count t) o ≡ false
  not_there k o = no_cell_beyond k t (count t) o (not_lt_test (count t) (count t) (omega (arith, ints)))

-- ---- a variable with a block

module _ (p : Facts) (x : ℕ) (v : Variable) (w : World) where
  abbrev t : Table
  t = w.memory.blocks

  abbrev c : ℤ
  c = count w.memory.blocks

  abbrev ks : List CellKind
  ks = cells_of v.layout

  -- its block is there, and its cells aren't filled yet
  abbrev begun : List Value → World
  begun vs = record { turns = w.turns; contents = vs; memory = with_block v w.memory; locals = (with_local x (home c) w).locals }

  abbrev made : List Value → Memory
  made vs = (filled p (count (alloc t v.layout)) c (pos 0) ks (begun vs)).memory

  abbrev supply : Bool → List Value → List Value
  supply has_value vs = if has_value then [] else vs

  made_memory : (vs : List Value) → (block_made p x v (record w { contents = vs })).memory ≡ made (supply v.has_value vs)
  made_memory vs = by v.has_value
    where
      by : (s : Bool)
          → (if s then with_memory (cleared c (pos 0) ks (begun vs).memory) (begun vs)
          else filled p (count (alloc t v.layout)) c (pos 0) ks (begun vs)).memory ≡ made (supply s vs)
      by true = cleared_is p (alloc t v.layout) c (pos 0) ks (begun vs).memory (begun vs)
      by false = refl

  module _ (vs : List Value) where
    made_blocks : (made vs).blocks ≡ alloc t v.layout
    made_blocks = fill_blocks p (alloc t v.layout) c (pos 0) ks (begun vs)

    made_other : (b o : ℤ) → int_eq b c ≡ false → (made vs).cells b o ≡ w.memory.cells b o
    made_other b o other = fill_apart p (alloc t v.layout) c (pos 0) ks (begun vs) b o (λ a. false≢true (sym other ∙ number_same b c (sym a.0)))

    made_makes : Makes v.layout w.memory (made vs)
    made_makes = record { blocks = made_blocks; cells = made_other }

    made_contents : HoldsContents p c (made vs)
    made_contents k o is =
        ap (λ t. is_content p (count t) k ((made vs).cells c o)) made_blocks
        ∙ numbered t v.layout (λ k o. is_content p (count (alloc t v.layout)) k ((made vs).cells c o) ≡ true)
        (λ i k o g e. fill_contents p (alloc t v.layout) c (pos 0) ks (begun vs) i k g o e) k o (ap (λ t. is_cell k t c o) (sym made_blocks) ∙ is)

    cell_elsewhere : (k : CellKind) (b o : ℤ) → int_eq b c ≡ false → is_cell k (made vs).blocks b o ≡ is_cell k t b o
    cell_elsewhere k b o other = ap (λ t. is_cell k t b o) made_blocks ∙ ap (λ x. has_cell k (block_cells x) o) (other_block t v.layout b other)

    made_shaped : IsShaped w.memory → IsShaped (made vs)
    made_shaped s = record {
      cells = λ k b o is.
          on_test (int_eq b c)
          (λ same. let e = same_number b c same in
          subst (λ b. HasForm k ((made vs).cells b o)) (sym e)
          (content_has_form p (count (made vs).blocks) k ((made vs).cells c o) (made_contents k o (subst (λ b. is_cell k (made vs).blocks b o ≡ true) e is))))
          (λ other. let e = made_other b o other in ap (of_kind k) e ∙ s.cells k b o (sym (cell_elsewhere k b o other) ∙ is) ∙ sym e);
      elsewhere = λ i o none.
          on_test (int_eq (pos i) c)
          (λ same. let e = same_number (pos i) c same in
          subst (λ b. (made vs).cells b o ≡ number (pos 0)) (sym e)
          (fill_apart p (alloc t v.layout) c (pos 0) ks (begun vs) c o
          (not_numbered t v.layout o (λ k. ap (λ t. is_cell k t c o) (sym made_blocks) ∙ ap (λ b. is_cell k (made vs).blocks b o) (sym e) ∙ none k))
          ∙ s.elsewhere (suc (length t)) o (λ k. not_there t v.layout k o)))
          (λ other. made_other (pos i) o other ∙ s.elsewhere i o (λ k. sym (cell_elsewhere k (pos i) o other) ∙ none k));
    }

  -- a state in which the block is made is that of its contents
  module _ (n : Memory) (s : IsShaped w.memory) (q : IsShaped n) (mk : Makes v.layout w.memory n) where
    not_filled : (b o : ℤ) → (IsAmong c (pos 0) ks b o → ⊥) → w.memory.cells b o ≡ n.cells b o
    not_filled b o apart =
        on_test (int_eq b c)
        (λ same. let e = same_number b c same in
        let apart' : IsAmong c (pos 0) ks c o → ⊥ = λ a. apart (sym e, a.1, a.2, a.3) in
        subst (λ b. w.memory.cells b o ≡ n.cells b o) (sym e)
        (s.elsewhere (suc (length t)) o (λ k. not_there t v.layout k o)
        ∙ sym (q.elsewhere (suc (length t)) o (λ k. ap (λ t. is_cell k t c o) mk.blocks ∙ no_new_cell t v.layout o apart' k))))
        (λ other. sym (mk.cells b o other))

    made_is : (vs : List Value) → Supplies p (alloc t v.layout) c n.cells (pos 0) ks vs → made vs ≡ n
    made_is vs h =
        let e = made_blocks vs ∙ sym mk.blocks in
        λ i. record { blocks = e i; cells = λ b o. fill_is p (alloc t v.layout) c n.cells (pos 0) ks (begun vs) h not_filled b o i }

    any_made : v.has_value ≡ false → HoldsContents p c n → (vs : List Value) × ((block_made p x v (record w { contents = vs })).memory ≡ n)
    any_made none h =
        let vs = held_from p (alloc t v.layout) c n.cells (pos 0) ks in (
          vs,
          made_memory vs ∙ ap made (unchosen v.has_value [] vs none)
              ∙ made_is vs (supplies_own p (alloc t v.layout) c n.cells (pos 0) ks
              (λ i k o g e.
              let is = ap (λ t. is_cell k t c o) mk.blocks ∙ cell_numbered t v.layout i k o g e in
              ap (λ t. is_content p (count t) k (n.cells c o)) (sym mk.blocks) ∙ h k o is)),
        )

    nothing_made : v.has_value ≡ true → HoldsNothing c n → (block_made p x v w).memory ≡ n
    nothing_made has h =
        made_memory w.contents ∙ ap made (chosen v.has_value [] w.contents has)
        ∙ made_is [] (supplies_nothing p (alloc t v.layout) c n.cells (pos 0) ks
        (λ i k o g e. h k o (ap (λ t. is_cell k t c o) mk.blocks ∙ cell_numbered t v.layout i k o g e)))

    made_nothing : v.has_value ≡ true → (block_made p x v w).memory ≡ n → HoldsNothing c n
    made_nothing has e k o is =
        let d = sym (made_memory w.contents ∙ ap made (chosen v.has_value [] w.contents has)) ∙ e in
        ap (λ (m : Memory). m.cells c o) (sym d)
        ∙ numbered t v.layout (λ k o. (made []).cells c o ≡ nothing_of k)
        (λ i k o g e. fill_nothing p (alloc t v.layout) c (pos 0) ks (begun []) refl i k g o e) k o (ap (λ t. is_cell k t c o) (sym mk.blocks) ∙ is)

pub made_blocks_hold_contents : MadeBlocksHoldContents
made_blocks_hold_contents p x v w =
    let vs = supply p x v w v.has_value w.contents in
    let e = sym (made_memory p x v w w.contents) in
    record {
      makes = subst (Makes v.layout w.memory) e (made_makes p x v w vs);
      shaped = λ s. subst IsShaped e (made_shaped p x v w vs s);
      contents = subst (HoldsContents p (count w.memory.blocks)) e (made_contents p x v w vs);
      any = λ none n s q mk h. any_made p x v w n s q mk none h;
      nothing = λ has n s q mk. (nothing_made p x v w n s q mk has, made_nothing p x v w n s q mk has);
    }
