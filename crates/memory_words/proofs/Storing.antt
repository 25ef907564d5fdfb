-- Slots go on standing for a world where a plain variable of the file is put in both.
use Rattle.std.proofs.Common.{◌≡◌, ℕ, ℤ, pos, negsuc, Bool, true, false, ◌&&◌, if◌then◌else◌, Some, slice_get, refl, sym, ap, ap₂, ◌∙◌, subst, arith}
use Rattle.std.specs.Prelude.{◌==◌, int_le, int_lt, neg_ℤ}
use Rattle.std.proofs.lemmas.Bool.{false≢true, and_parts, lt-ltb}
use Rattle.std.proofs.lemmas.Int.{ints}
use Rattle.std.proofs.lemmas.Bool.Decides.{Decides-eqb}
use Rattle.wp_base.specs.declared.kinds.CellKind.{CellKind}
use Rattle.wp_base.specs.declared.kinds.CellKind.TheVariants as cell
use Rattle.wp_base.specs.declared.kinds.Kind.{Kind}
use Rattle.wp_base.specs.Blocks.{Table, count, is_cell}
use Rattle.c_kinds.proofs.Converting.{test_le, le_test}
use Rattle.typed_prog.specs.declared.operators.Variable.TheVariants as variables
use Rattle.qed_terms.specs.Operators.{is_equal}
use Rattle.c_runs.specs.TruthStates.{Value, number, pointer, addresses, region, of_kind, nothing_of}
use Rattle.c_runs.specs.Program.{Variable, Facts}
use Rattle.c_runs.specs.States.{Memory, global_home, plain_globals, stored_in}
use Rattle.c_runs.specs.Scopes.{is_content}
use Rattle.c_runs.specs.Entry.{is_value, is_placed, is_home, is_block, leads_well}
use Rattle.plain_states.proofs.Puts.{cell_is}
use Rattle.plain_runs.proofs.Cells.{no_negative}
use Rattle.goal_segments.specs.Told.{IsGood}
use Rattle.typed_memories.specs.Cells.{Cells, Reads, read_in}
use Rattle.typed_memories.proofs.Tests.{on_test, chosen, unchosen, both_so}
use Rattle.memory_steps.specs.State.{Datum}
use Rattle.memory_words.specs.Places.{value, offset, flag, temporary, temporary_offset, numbers, blocks, offsets, held, number_at}
use Rattle.std.proofs.lemmas.Option.{same_Some}
use Rattle.memory_words.proofs.Lists.{found_below}
use Rattle.memory_words.specs.Shapes.{sizes, kind_of}
use Rattle.memory_words.specs.Standing.{IsHeldAs, NumbersAre, PointersAre}
use Rattle.memory_words.specs.PutLaws.{GlobalsArePut}
use Rattle.memory_words.proofs.Homes.{hidden_number, same_hidden}
use Rattle.memory_words.proofs.PutStanding.{two_same, temp_same, local_same}

-- ---- values

made_block : (p : Facts) (t : Table) (b : ℤ) → int_le (pos 0) b ≡ true → int_lt b (count t) ≡ true → is_block p t b ≡ true
made_block p t b h l =
    let e = test_le (pos 0) b h in
    both_so (int_lt b (count t)) (int_le (neg_ℤ (pos (plain_globals p))) b) l (le_test (neg_ℤ (pos (plain_globals p))) b (omega (arith, ints, e)))

-- a content is a value of its kind, and leads to no plain variable of the file
pub content_value : (p : Facts) (t : Table) (k : CellKind) (v : Value) → is_content p (count t) k v ≡ true → is_value p t k v ≡ true
content_value p t (cell.Of k) (number z) h = h
content_value p t (cell.Of k) (pointer b o) h = absurd (false≢true h)
content_value p t (cell.Of k) (addresses s) h = absurd (false≢true h)
content_value p t (cell.Of k) (region cells s) h = absurd (false≢true h)
content_value p t cell.Ptr (number z) h = absurd (false≢true h)
content_value p t cell.Ptr (pointer b o) h = let both = and_parts (int_le (pos 0) b) (int_lt b (count t)) h in made_block p t b both.0 both.1
content_value p t cell.Ptr (addresses s) h = absurd (false≢true h)
content_value p t cell.Ptr (region cells s) h = absurd (false≢true h)

pub content_leads : (p : Facts) (n : ℤ) (k : CellKind) (v : Value) → is_content p n k v ≡ true → leads_well v ≡ true
content_leads p n k (number z) h = refl
content_leads p n (cell.Of k) (pointer b o) h = absurd (false≢true h)
content_leads p n cell.Ptr (pointer b o) h = (and_parts (int_le (pos 0) b) (int_lt b n) h).0
content_leads p n k (addresses s) h = refl
content_leads p n k (region cells s) h = refl

-- ---- a memory in which such a variable has another value

negative_parts : {i j : ℕ} → negsuc i ≡ negsuc j → i ≡ j
negative_parts e = cc

no_positive : {i j : ℕ} → negsuc i ≡ pos j → ⊥
no_positive e = cc

module _ (p : Facts) (x : ℕ) (y : Variable) (found : slice_get p.globals x ≡ Some y) (plain : y.is_plain ≡ true) (m : Memory) (good : IsGood p m) (v : Value)
    (fits : is_content p (count m.blocks) (kind_of y) v ≡ true) where
  abbrev home : ℤ
  home = global_home p x

  abbrev pub after : Memory
  after = stored_in home (pos 0) v m

  number_is : home ≡ negsuc (hidden_number p x y found plain).0
  number_is = (hidden_number p x y found plain).1

  pub elsewhere : (b o : ℤ) → (home ≡ b → pos 0 ≡ o → ⊥) → after.cells b o ≡ m.cells b o
  elsewhere b o miss = cell_is home (pos 0) b o v m.cells (m.cells b o) (λ e d. absurd (miss e d)) (λ d. refl)

  pub there : after.cells home (pos 0) ≡ v
  there = cell_is home (pos 0) home (pos 0) v m.cells v (λ e d. refl) (λ miss. absurd (miss refl refl))

  pub at_address : (j : ℕ) (o : ℤ) → after.cells (pos j) o ≡ m.cells (pos j) o
  at_address j o = elsewhere (pos j) o (λ e d. no_positive (sym number_is ∙ e))

  -- each variable of the file
  pub at_home : (k : ℕ) (w : Variable) → slice_get p.globals k ≡ Some w → w.is_plain ≡ true → (x ≡ k → ⊥) → after.cells (global_home p k) (pos 0) ≡ m.cells (global_home p k) (pos 0)
  at_home k w e is differ = elsewhere (global_home p k) (pos 0) (λ r d. differ (same_hidden p x y found plain k w e is r))

  placed : (k : ℕ) (w : Variable) → slice_get p.globals k ≡ Some w → is_placed p after (global_home p k) w ≡ true
  placed k w e = on_test w.is_plain plainly
      (λ not_plain. unchosen w.is_plain _ _ not_plain ∙ sym (unchosen w.is_plain _ _ not_plain) ∙ good.well.globals k w e)
    where
      plainly : w.is_plain ≡ true → is_placed p after (global_home p k) w ≡ true
      plainly is = by (x == k) refl where
        by : (t : Bool) → (x == k) ≡ t → is_placed p after (global_home p k) w ≡ true
        by true q =
            let same = (Decides-eqb x k).0 q in
            let who = same_Some y w (sym found ∙ ap (slice_get p.globals) same ∙ e) in
            chosen w.is_plain _ _ is ∙ ap (λ k. is_value p m.blocks (kind_of w) (after.cells (global_home p k) (pos 0))) (sym same)
            ∙ ap (is_value p m.blocks (kind_of w)) there ∙ ap (λ (w : Variable). is_value p m.blocks (kind_of w) v) (sym who)
            ∙ content_value p m.blocks (kind_of y) v fits
        by false q =
            let differ = λ (r : x ≡ k). false≢true (sym q ∙ (Decides-eqb x k).1 r) in
            chosen w.is_plain _ _ is ∙ ap (is_value p m.blocks (kind_of w)) (at_home k w e is differ) ∙ sym (chosen w.is_plain _ _ is) ∙ good.well.globals k w e

  cell_at : (k : CellKind) (b o : ℤ) → is_cell k m.blocks b o ≡ true → is_value p m.blocks k (after.cells b o) ≡ true
  cell_at k (pos j) o h = ap (is_value p m.blocks k) (at_address j o) ∙ good.well.cells k (pos j) o h
  cell_at k (negsuc j) o h = absurd (no_negative k m.blocks j o h)

  is_home_of : is_home p home (pos 0) ≡ true
  is_home_of = ap (λ b. is_home p b (pos 0)) number_is
      ∙ ap (λ t. t && true) (lt-ltb (hidden_number p x y found plain).0 (plain_globals p) (hidden_number p x y found plain).2)

  nothing_at : (b o : ℤ) → is_home p b o ≡ false → ((k : CellKind) → is_cell k m.blocks b o ≡ false) → after.cells b o ≡ number (pos 0)
  nothing_at b o out none = elsewhere b o (λ e d. false≢true (sym out ∙ ap₂ (λ b o. is_home p b o) (sym e) (sym d) ∙ is_home_of)) ∙ good.well.elsewhere b o out none

  leads_at : (b o : ℤ) → leads_well (after.cells b o) ≡ true
  leads_at b o = by (is_equal home b && is_equal (pos 0) o) where
    by : (t : Bool) → leads_well (if t then v else m.cells b o) ≡ true
    by true = content_leads p (count m.blocks) (kind_of y) v fits
    by false = good.pointers b o

  pub good_after : IsGood p after
  good_after = record {
    well = record { globals = placed; cells = cell_at; elsewhere = nothing_at; short = good.well.short };
    pointers = leads_at;
  }

  -- what is read by kind is as before
  read_same : (k : CellKind) (b o : ℤ) → read_in m k b o ≡ read_in after k b o
  read_same k (pos j) o = ap (λ w. if is_cell k m.blocks (pos j) o then of_kind k w else nothing_of k) (sym (at_address j o))
  read_same k (negsuc j) o = on_test (is_cell k m.blocks (negsuc j) o) (λ t. absurd (no_negative k m.blocks j o t))
      (λ t. unchosen (is_cell k m.blocks (negsuc j) o) _ _ t ∙ sym (unchosen (is_cell k m.blocks (negsuc j) o) _ _ t))

  reads_too : (k : CellKind) (f : Cells) → Reads m k f → Reads after k f
  reads_too k f h b o = h b o ∙ read_same k b o

  pub numbers_too : (k : Kind) (d : Datum) → NumbersAre m k d → NumbersAre after k d
  numbers_too k d h = record { list = h.list; same = h.same; reads = reads_too (cell.Of k) _ h.reads }

  pub pointers_too : (d e : Datum) → PointersAre m d e → PointersAre after d e
  pointers_too d e h = record {
    block_list = h.block_list;
    offset_list = h.offset_list;
    same_blocks = h.same_blocks;
    same_offsets = h.same_offsets;
    reads = reads_too cell.Ptr _ h.reads;
  }

global_parts : {x y : ℕ} → variables.Global x ≡ variables.Global y → x ≡ y
global_parts e = cc

no_local : {x y : ℕ} → variables.Global x ≡ variables.Local y → ⊥
no_local e = cc

pub globals_are_put : GlobalsArePut
globals_are_put p s cells fr f c st stands x y found plain v fits new keeps is = record {
  size = keeps.size;
  sorted = λ a there off. keeps.sorted a there (stands.sorted a there off);
  good = good_after p x y found plain c.world.memory stands.good v fits;
  blocks_are = stands.blocks_are;
  table_is = λ h. keeps.table ∙ stands.table_is h;
  numbers_are = λ k h. numbers_too p x y found plain c.world.memory stands.good v fits k (held (sizes p s) new (numbers k))
      (subst (NumbersAre c.world.memory k) (sym (keeps.same (numbers k) tt refl (λ b. b))) (stands.numbers_are k h));
  pointers_are = λ h. pointers_too p x y found plain c.world.memory stands.good v fits (held (sizes p s) new blocks) (held (sizes p s) new offsets)
      (subst (λ d. PointersAre c.world.memory d (held (sizes p s) new offsets)) (sym (keeps.same blocks tt refl (λ b. b)))
      (subst (PointersAre c.world.memory (held (sizes p s) st blocks)) (sym (keeps.same offsets tt refl (λ b. b))) (stands.pointers_are h)));
  globals = global;
  locals = λ k w e plainly scoped. let l = found_below s.variables k w e in
      local_same (sizes p s) st new p c.world.memory.blocks w (c.world.locals k) (value (variables.Local k)) (offset (variables.Local k)) (flag (variables.Local k))
      (keeps.same (value (variables.Local k)) l refl no_local) (keeps.same (offset (variables.Local k)) l refl no_local)
      (keeps.same (flag (variables.Local k)) l refl no_local) (stands.locals k w e plainly scoped);
  homes = λ k w e not_plain scoped. let h = stands.homes k w e not_plain scoped in
      (h.0, keeps.same (value (variables.Local k)) (found_below s.variables k w e) refl no_local ∙ h.1);
  living = stands.living;
  temporaries = λ n l used.
      temp_same (sizes p s) st new p c.world.memory.blocks (s.temp_kind n) (c.temps n) (temporary n) (temporary_offset n) (keeps.same (temporary n) l used (λ b. b))
      (keeps.same (temporary_offset n) l used (λ b. b)) (stands.temporaries n l used);
  unscoped = λ k l out. let h = stands.unscoped k l out in (
    h.0,
    keeps.same (value (variables.Local k)) l refl no_local ∙ h.1,
    keeps.same (offset (variables.Local k)) l refl no_local ∙ h.2,
    keeps.same (flag (variables.Local k)) l refl no_local ∙ h.3,
  );
}
  where
    global : (k : ℕ) (w : Variable) → slice_get p.globals k ≡ Some w → w.is_plain ≡ true
        → IsHeldAs (kind_of w) ((stored_in (global_home p x) (pos 0) v c.world.memory).cells (global_home p k) (pos 0)) (number_at (sizes p s) new (value (variables.Global k)))
        (number_at (sizes p s) new (offset (variables.Global k)))
    global k w e plainly = by (x == k) refl where
      by : (t : Bool) → (x == k) ≡ t
          → IsHeldAs (kind_of w) ((stored_in (global_home p x) (pos 0) v c.world.memory).cells (global_home p k) (pos 0)) (number_at (sizes p s) new (value (variables.Global k)))
          (number_at (sizes p s) new (offset (variables.Global k)))
      by true q =
          let same = (Decides-eqb x k).0 q in
          subst (λ k. IsHeldAs (kind_of w) ((stored_in (global_home p x) (pos 0) v c.world.memory).cells (global_home p k) (pos 0)) (number_at (sizes p s) new (value (variables.Global k)))
          (number_at (sizes p s) new (offset (variables.Global k)))) same
          (subst (λ (w : Variable). IsHeldAs (kind_of w) ((stored_in (global_home p x) (pos 0) v c.world.memory).cells (global_home p x) (pos 0))
          (number_at (sizes p s) new (value (variables.Global x))) (number_at (sizes p s) new (offset (variables.Global x)))) (same_Some y w (sym found ∙ ap (slice_get p.globals) same ∙ e))
          (subst (λ u. IsHeldAs (kind_of y) u (number_at (sizes p s) new (value (variables.Global x))) (number_at (sizes p s) new (offset (variables.Global x))))
          (sym (there p x y found plain c.world.memory stands.good v fits)) is))
      by false q =
          let differ = λ (r : x ≡ k). false≢true (sym q ∙ (Decides-eqb x k).1 r) in
          let l = found_below p.globals k w e in
          subst (λ u. IsHeldAs (kind_of w) u (number_at (sizes p s) new (value (variables.Global k))) (number_at (sizes p s) new (offset (variables.Global k))))
          (sym (at_home p x y found plain c.world.memory stands.good v fits k w e plainly differ))
          (two_same (sizes p s) st new (kind_of w) (c.world.memory.cells (global_home p k) (pos 0)) (value (variables.Global k)) (offset (variables.Global k))
          (keeps.same (value (variables.Global k)) l refl (λ b. differ (global_parts b))) (keeps.same (offset (variables.Global k)) l refl (λ b. differ (global_parts b)))
          (stands.globals k w e plainly))
