-- States stay good where blocks are made and end.
use Rattle.std.proofs.Common.{◌≡◌, ℕ, zero, suc, Bool, true, false, if◌then◌else◌, ℤ, pos, negsuc, List, [], ◌∷◌, length, Option, Some, None, is_some, slice_get, refl, sym, ap, ◌∙◌, subst}
use Rattle.std.specs.Prelude.{int_le, int_lt}
use Rattle.std.specs.Ordering.{int_eq}
use Rattle.std.specs.List.{list_all}
use Rattle.std.specs.Option.{unwrap_or}
use Rattle.std.proofs.lemmas.Bool.{false≢true, and_parts}
use Rattle.wp_base.specs.declared.kinds.CellKind.{CellKind}
use Rattle.wp_base.specs.declared.kinds.CellKind.TheVariants as cell
use Rattle.wp_base.specs.declared.kinds.Layout.{Layout}
use Rattle.wp_base.specs.Blocks.{Table, count, len, block_at, block_cells, block_of, has_cell, has_layout, is_block, is_cell, cells_of}
use Rattle.c_kinds.specs.Models.{high, difference_kind}
use Rattle.c_runs.specs.TruthStates.{Value, number, pointer, addresses, region, nothing_of}
use Rattle.c_runs.specs.Program.{Variable, Facts}
use Rattle.c_runs.specs.States.{Memory, World, plain, with_local, home_from, global_home}
use Rattle.c_runs.specs.Scopes.{scalar_of, is_content, next_content, others, plain_made, block_made, variable_made, ended_since}
use Rattle.c_runs.specs.Entry.{is_value, is_placed, is_home, leads_well}
use Rattle.goal_segments.specs.Segments.{Opened, all_opened, unknown, with_value, not_set, with_cells}
use Rattle.plain_runs.specs.Fitting.{IsGood}
use Rattle.typed_memories.specs.Cells.{Typed, typed, encoded, kind_at, AllRead, IsShaped}
use Rattle.typed_memories.proofs.Tests.{on_test, chosen, unchosen, both_so, or_left, same_number}
use Rattle.typed_memories.proofs.CellKinds.{cell_of_kind, no_cell_of}
use Rattle.typed_memories.proofs.Decoding.{no_hidden_cell}
use Rattle.typed_memories.proofs.Listing.{states_have_memories}
use Rattle.typed_memories.proofs.Stated.{formed_is_of_contents, well_formed_states_are_formed}
use Rattle.typed_memories.specs.Changes.{StillThere}
use Rattle.typed_memories.proofs.Tables.{below_more, cell_below, no_block, not_count, new_block, other_block, grown_block}
use Rattle.typed_memories.proofs.Making.{hidden_before}
use Rattle.typed_memories.proofs.Filling.{made_blocks_hold_contents}
use Rattle.typed_memories.proofs.Ending.{standing_blocks_stay}
use Rattle.run_blocks.specs.Ends.{is_short}
use Rattle.run_blocks.specs.Laws.{OpeningsAreGood, EndsAreGood}
use Rattle.run_blocks.proofs.Standing.{still, block_still, grown_still}

-- ---- values and contents, where there are more blocks

pub content_more : (p : Facts) (n n' : ℤ) → int_le n n' ≡ true → (k : CellKind) (v : Value) → is_content p n k v ≡ true → is_content p n' k v ≡ true
content_more p n n' more (cell.Of k) (number z) h = h
content_more p n n' more (cell.Of k) (pointer b o) h = absurd (false≢true h)
content_more p n n' more (cell.Of k) (addresses s) h = absurd (false≢true h)
content_more p n n' more (cell.Of k) (region ks s) h = absurd (false≢true h)
content_more p n n' more cell.Ptr (number z) h = absurd (false≢true h)
content_more p n n' more cell.Ptr (pointer b o) h =
    let both = and_parts (int_le (pos 0) b) (int_lt b n) h in both_so (int_le (pos 0) b) (int_lt b n') both.0 (below_more b n n' both.1 more)
content_more p n n' more cell.Ptr (addresses s) h = absurd (false≢true h)
content_more p n n' more cell.Ptr (region ks s) h = absurd (false≢true h)

value_more : (p : Facts) (t u : Table) → int_le (count t) (count u) ≡ true → (k : CellKind) (v : Value) → is_value p t k v ≡ true → is_value p u k v ≡ true
value_more p t u more (cell.Of k) (number z) h = h
value_more p t u more (cell.Of k) (pointer b o) h = absurd (false≢true h)
value_more p t u more (cell.Of k) (addresses s) h = absurd (false≢true h)
value_more p t u more (cell.Of k) (region ks s) h = absurd (false≢true h)
value_more p t u more cell.Ptr (number z) h = absurd (false≢true h)
value_more p t u more cell.Ptr (pointer b o) h =
    let both = and_parts (int_lt b (count t)) _ h in both_so (int_lt b (count u)) _ (below_more b (count t) (count u) both.0 more) both.1
value_more p t u more cell.Ptr (addresses s) h = absurd (false≢true h)
value_more p t u more cell.Ptr (region ks s) h = absurd (false≢true h)

-- ---- good states by their contents

abbrev pub AllContents : Facts → Memory → Type 0
AllContents p m = (k : CellKind) (b o : ℤ) → is_cell k m.blocks b o ≡ true → is_content p (count m.blocks) k (m.cells b o) ≡ true

module _ (p : Facts) (m : Memory) where
  abbrev held : Typed
  held = typed (encoded m)

  read : AllRead m held
  read = (states_have_memories m).some

  pub good_shaped : IsGood p m → IsShaped m
  good_shaped good = (well_formed_states_are_formed p m held).shaped good.well

  pub good_contents : IsGood p m → AllContents p m
  good_contents good k = (formed_is_of_contents p m k (held k) (good_shaped good) (read k)).0 ((well_formed_states_are_formed p m held).formed good.well good.pointers read k)

  module _ (shaped : IsShaped m) (contents : AllContents p m) where
    values : (k : CellKind) (b o : ℤ) → is_cell k m.blocks b o ≡ true → (is_value p m.blocks k (m.cells b o) ≡ true) × (leads_well (m.cells b o) ≡ true)
    values = (well_formed_states_are_formed p m held).back shaped read (λ k. (formed_is_of_contents p m k (held k) shaped (read k)).1 (contents k))

    leads : ((i : ℕ) (o : ℤ) → leads_well (m.cells (negsuc i) o) ≡ true) → (b o : ℤ) → leads_well (m.cells b o) ≡ true
    leads hidden (negsuc i) o = hidden i o
    leads hidden (pos i) o = by (kind_at m.blocks (pos i) o) refl where
      by : (c : Option CellKind) → kind_at m.blocks (pos i) o ≡ c → leads_well (m.cells (pos i) o) ≡ true
      by None e = ap leads_well (shaped.elsewhere i o (λ k. no_cell_of k m.blocks (pos i) o e))
      by (Some k) e = (values k (pos i) o (cell_of_kind k m.blocks (pos i) o e)).1

-- ---- variables of the file

-- one that no pointer leads to has a negative number
hidden_home : (n k : ℕ) (xs : List Variable) (x : ℕ) (v : Variable) → slice_get xs x ≡ Some v → v.is_plain ≡ true → (i : ℕ) × (home_from n k xs x ≡ negsuc i)
hidden_home n k [] x v e is = absurd (false≢true (ap is_some e))
hidden_home n k (y ∷ xs) zero v e is =
    (k, ap (λ b. if b then negsuc k else pos (suc n)) (ap (λ (o : Option Variable). (unwrap_or o v).is_plain) e ∙ is))
hidden_home n k (y ∷ xs) (suc x) v e is =
    on_test y.is_plain
    (λ t. let r = hidden_home n (suc k) xs x v e is in (r.0, ap (λ b. if b then home_from n (suc k) xs x else home_from (suc n) k xs x) t ∙ r.1))
    (λ t. let r = hidden_home (suc n) k xs x v e is in (r.0, ap (λ b. if b then home_from n (suc k) xs x else home_from (suc n) k xs x) t ∙ r.1))

abbrev pub HasBlocks : Facts → Table → Type 0
HasBlocks p t = (x : ℕ) (v : Variable) → slice_get p.globals x ≡ Some v → v.is_plain ≡ false → has_layout t (global_home p x) v.layout ≡ true

layout_below : (t : Table) (b : ℤ) (l : Layout) → has_layout t b l ≡ true → int_lt b (count t) ≡ true
layout_below t b l h =
    on_test (int_lt b (count t)) (λ below. below) (λ above. absurd (false≢true (sym (ap (λ x. is_block x (block_of l)) (no_block t b above)) ∙ h)))

module _ (p : Facts) (m : Memory) (good : IsGood p m) where
  pub have_blocks : (u : Table) → StillThere m.blocks u → HasBlocks p u
  have_blocks u there x v e not_plain =
      let b = global_home p x in
      let was : has_layout m.blocks b v.layout ≡ true = sym (unchosen v.is_plain _ _ not_plain) ∙ good.well.globals x v e in
      ap (λ x. is_block x (block_of v.layout)) (there.blocks b (layout_below m.blocks b v.layout was)) ∙ was

  -- ---- another state that is good

  -- where the variables of the file stand as in the first one
  module _ (n : Memory) (more : int_le (count m.blocks) (count n.blocks) ≡ true) (have : HasBlocks p n.blocks) (same : (i : ℕ) (o : ℤ) → n.cells (negsuc i) o ≡ m.cells (negsuc i) o)
      (shaped : IsShaped n) (contents : AllContents p n) (short : (b : ℤ) → int_le (len n.blocks b) (high p.model (difference_kind p.model)) ≡ true) where
    hidden_placed : (x : ℕ) (v : Variable) (i : ℕ) → v.is_plain ≡ true → is_placed p m (negsuc i) v ≡ true → is_placed p n (negsuc i) v ≡ true
    hidden_placed x v i is h =
        let k = scalar_of v.layout.cells in
        chosen v.is_plain _ _ is ∙ ap (is_value p n.blocks k) (same i (pos 0))
        ∙ value_more p m.blocks n.blocks more k (m.cells (negsuc i) (pos 0)) (sym (chosen v.is_plain _ _ is) ∙ h)

    placed : (x : ℕ) (v : Variable) → slice_get p.globals x ≡ Some v → is_placed p n (global_home p x) v ≡ true
    placed x v e =
        on_test v.is_plain
        (λ is. let h = hidden_home 0 0 p.globals x v e is in
        ap (λ b. is_placed p n b v) h.1 ∙ hidden_placed x v h.0 is (ap (λ b. is_placed p m b v) (sym h.1) ∙ good.well.globals x v e))
        (λ not_plain. unchosen v.is_plain _ _ not_plain ∙ have x v e not_plain)

    elsewhere : (b o : ℤ) → is_home p b o ≡ false → ((k : CellKind) → is_cell k n.blocks b o ≡ false) → n.cells b o ≡ number (pos 0)
    elsewhere (pos i) o out none = shaped.elsewhere i o none
    elsewhere (negsuc i) o out none =
        same i o ∙ good.well.elsewhere (negsuc i) o out (λ k. no_cell_of k m.blocks (negsuc i) o (no_hidden_cell m.blocks i o))

    pub goes_good : IsGood p n
    goes_good = record {
      well = record { globals = placed; cells = λ k b o is. (values p n shaped contents k b o is).0; elsewhere = elsewhere; short = short };
      pointers = leads p n shaped contents (λ i o. ap leads_well (same i o) ∙ good.pointers (negsuc i) o);
    }

-- ---- a block that is made

module _ (p : Facts) (x : ℕ) (v : Variable) (w : World) (good : IsGood p w.memory)
    (short : int_le (pos (length (cells_of v.layout))) (high p.model (difference_kind p.model)) ≡ true) where
  abbrev n : Memory
  n = (block_made p x v w).memory

  abbrev c : ℤ
  c = count w.memory.blocks

  there : StillThere w.memory.blocks n.blocks
  there = block_still p x v w

  same_block : (b : ℤ) → int_eq b c ≡ false → block_at n.blocks b ≡ block_at w.memory.blocks b
  same_block b other = ap (λ t. block_at t b) (made_blocks_hold_contents p x v w).makes.blocks ∙ other_block w.memory.blocks v.layout b other

  made_contents : AllContents p n
  made_contents k b o is =
      on_test (int_eq b c)
      (λ same. let e = same_number b c same in
      subst (λ b. is_content p (count n.blocks) k (n.cells b o) ≡ true) (sym e)
      ((made_blocks_hold_contents p x v w).contents k o (subst (λ b. is_cell k n.blocks b o ≡ true) e is)))
      (λ other. ap (is_content p (count n.blocks) k) ((made_blocks_hold_contents p x v w).makes.cells b o other)
      ∙ content_more p c (count n.blocks) there.more k (w.memory.cells b o)
      (good_contents p w.memory good k b o (sym (ap (λ x. has_cell k (block_cells x) o) (same_block b other)) ∙ is)))

  made_short : (b : ℤ) → int_le (len n.blocks b) (high p.model (difference_kind p.model)) ≡ true
  made_short b =
      on_test (int_eq b c)
      (λ same. let e = ap (λ b. block_at n.blocks b) (same_number b c same) ∙ ap (λ t. block_at t c) (made_blocks_hold_contents p x v w).makes.blocks ∙ new_block w.memory.blocks v.layout in
      ap (λ x. int_le (pos (length (block_cells x))) (high p.model (difference_kind p.model))) e ∙ short)
      (λ other. ap (λ x. int_le (pos (length (block_cells x))) (high p.model (difference_kind p.model))) (same_block b other) ∙ good.well.short b)

  made_good : IsGood p n
  made_good =
      goes_good p w.memory good n there.more (have_blocks p w.memory good n.blocks there)
      (λ i o. (made_blocks_hold_contents p x v w).makes.cells (negsuc i) o (not_count (negsuc i) c (hidden_before i (suc (length w.memory.blocks)))))
      ((made_blocks_hold_contents p x v w).shaped (good_shaped p w.memory good)) made_contents made_short

-- ---- variables of a block

short_of : (p : Facts) (xs : List Variable) → list_all (is_short p) xs ≡ true → (x : ℕ) (v : Variable) → slice_get xs x ≡ Some v → is_short p v ≡ true
short_of p [] h x v e = absurd (false≢true (ap is_some e))
short_of p (y ∷ xs) h zero v e =
    ap (λ (o : Option Variable). is_short p (unwrap_or o y)) (sym e) ∙ (and_parts (is_short p y) (list_all (is_short p) xs) h).0
short_of p (y ∷ xs) h (suc x) v e = short_of p xs (and_parts (is_short p y) (list_all (is_short p) xs) h).1 x v e

module _ (p : Facts) (x : ℕ) (v : Variable) (w : World) (good : IsGood p w.memory) (short : is_short p v ≡ true) where
  plain_good : (b : Bool) → IsGood p (if b then with_local x (plain (nothing_of (scalar_of v.layout.cells)) true) w
      else with_local x (plain (next_content p (count w.memory.blocks) (scalar_of v.layout.cells) w.contents) false) (record w { contents = others w.contents })).memory
  plain_good true = good
  plain_good false = good

  variable_by : (b : Bool) → v.is_plain ≡ b → IsGood p (if b then plain_made p x v w else block_made p x v w).memory
  variable_by true is = plain_good v.has_value
  variable_by false not_plain = made_good p x v w good (or_left v.is_plain _ short not_plain)

  variable_good : IsGood p (variable_made p x (Some v) w).memory
  variable_good = variable_by v.is_plain refl

module _ (p : Facts) (xs : List Variable) (short : list_all (is_short p) xs ≡ true) where
  opened_good : (ys : List ℕ) (w u : World) → IsGood p w.memory → Opened p xs ys w u → IsGood p u.memory
  opened_good _ w _ good all_opened = good
  opened_good _ w u good (unknown {ys = ys} e more) = opened_good ys w u good more
  opened_good _ w u good (with_value {x = x} {ys = ys} {v = v} e has is_plain more) =
      opened_good ys (variable_made p x (Some v) w) u (variable_good p x v w good (short_of p xs short x v e)) more
  opened_good _ w u good (not_set {x = x} {ys = ys} e none is held any contents more) =
      opened_good ys (with_local x (plain held false) (record w { contents = contents })) u good more
  opened_good _ w u good (with_cells {x = x} {ys = ys} {v = v} e not_plain contents more) =
      let now : World = record w { contents = contents } in
      let v' : Variable = record v { has_value = false } in
      opened_good ys (block_made p x v' now) u (made_good p x v' now good (or_left v.is_plain _ (short_of p xs short x v e) not_plain)) more

pub openings_are_good : OpeningsAreGood
openings_are_good p xs short ys w u good opened = opened_good p xs short ys w u good opened

-- ---- a scope that is left

module _ (p : Facts) (m n : Memory) (stands : StillThere m.blocks n.blocks) (good : IsGood p m) (good_now : IsGood p n) where
  abbrev r : Memory
  r = ended_since m n

  older : (b o : ℤ) → int_lt b (count m.blocks) ≡ true → r.cells b o ≡ n.cells b o
  older b o below = chosen (int_lt b (count m.blocks)) (n.cells b o) (number (pos 0)) below

  count_same : count r.blocks ≡ count n.blocks
  count_same = (standing_blocks_stay m.blocks n.blocks stands).all_ended.1

  left_contents : AllContents p r
  left_contents k b o is =
      let is_before = sym (ap (λ x. has_cell k (block_cells x) o) (grown_block m.blocks (count n.blocks) b)) ∙ is in
      let below = cell_below k m.blocks b o is_before in
      ap (λ z. is_content p z k (r.cells b o)) count_same ∙ ap (is_content p (count n.blocks) k) (older b o below)
      ∙ good_contents p n good_now k b o (ap (λ x. has_cell k (block_cells x) o) (stands.blocks b below) ∙ is_before)

  left_good : IsGood p r
  left_good =
      goes_good p n good_now r (ap (int_le (count n.blocks)) count_same ∙ (still n.blocks).more)
      (have_blocks p m good r.blocks (grown_still m.blocks (count n.blocks)))
      (λ i o. older (negsuc i) o (hidden_before i (suc (length m.blocks))))
      ((standing_blocks_stay m.blocks n.blocks stands).shaped m n refl refl (good_shaped p n good_now)) left_contents
      (λ b. ap (λ x. int_le (pos (length (block_cells x))) (high p.model (difference_kind p.model))) (grown_block m.blocks (count n.blocks) b) ∙ good.well.short b)

pub ends_are_good : EndsAreGood
ends_are_good p m ys w stands good good_now = left_good p m w.memory stands good good_now
