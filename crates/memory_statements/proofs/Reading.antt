-- What is read of a memory in which one cell holds another value, and that it is good.
use Rattle.std.proofs.Common.{◌≡◌, ℕ, true, false, if◌then◌else◌, ℤ, pos, negsuc, Some, slice_get, refl, sym, ap, ap₂, ◌∙◌, subst}
use Rattle.std.specs.Prelude.{int_le, int_lt}
use Rattle.std.proofs.lemmas.Bool.{false≢true, and_parts}
use Rattle.wp_base.specs.declared.kinds.CellKind.{CellKind}
use Rattle.wp_base.specs.declared.kinds.CellKind.TheVariants as cell
use Rattle.wp_base.specs.Blocks.{Table, count, same_cell, has_layout, is_cell}
use Rattle.qed_terms.specs.Memory as goal
use Rattle.qed_terms.specs.Memory.{load, store}
use Rattle.same_memories.specs.Canonical.{canonical}
use Rattle.same_memories.proofs.Listing.{canonical_holds_the_same}
use Rattle.c_runs.specs.TruthStates.{Value, number, pointer, addresses, region, is_negative}
use Rattle.c_runs.specs.Program.{Variable, Facts}
use Rattle.c_runs.specs.States.{Memory, with_cell, stored_in, global_home}
use Rattle.c_runs.specs.Scopes.{is_content, scalar_of}
use Rattle.c_runs.specs.Entry.{leads_well, is_value, is_placed}
use Rattle.goal_segments.specs.Told.{IsGood}
use Rattle.typed_memories.specs.Cells.{Cells, Typed, numbers_by, pointers_by, typed, encoded, read_in, HasForm, Reads, IsShaped, IsStored}
use Rattle.typed_memories.proofs.Tests.{on_test, unchosen, is_here, same_address, with_cell_here, with_cell_apart}
use Rattle.typed_memories.proofs.CellKinds.{same_kind, one_kind, no_cell_of, apart_by, apart_from_cell}
use Rattle.typed_memories.proofs.Decoding.{no_hidden_cell}
use Rattle.typed_memories.proofs.Entries.{maps_are}
use Rattle.typed_memories.proofs.Listing.{states_have_memories}
use Rattle.typed_memories.proofs.Stated.{content_has_form, formed_is_of_contents, well_formed_states_are_formed}
use Rattle.typed_memories.proofs.Storing.{stores_agree}
use Rattle.memory_words.proofs.Contents.{hidden_negative}

-- ---- lists that are stored to

pub numbers_stored : (m : goal.Memory) (b o z : ℤ) (x y : ℤ)
    → numbers_by (load (canonical (store m b o z))) x y ≡ with_cell b o (number z) (numbers_by (load m)) x y
numbers_stored m b o z x y = ap number (canonical_holds_the_same (store m b o z) x y) ∙ (λ i. maps_are.number m b o z i x y)

pub pointers_stored : (ms ns : goal.Memory) (b o z t : ℤ) (x y : ℤ)
    → pointers_by (load (canonical (store ms b o z))) (load (canonical (store ns b o t))) x y ≡ with_cell b o (pointer z t) (pointers_by (load ms) (load ns)) x y
pointers_stored ms ns b o z t x y =
    ap₂ pointer (canonical_holds_the_same (store ms b o z) x y) (canonical_holds_the_same (store ns b o t) x y) ∙ (λ i. maps_are.pointer ms ns b o z t i x y)

-- ---- values

content_leads : (p : Facts) (n : ℤ) (k : CellKind) (v : Value) → is_content p n k v ≡ true → leads_well v ≡ true
content_leads p n k (number z) h = refl
content_leads p n k (addresses s) h = refl
content_leads p n k (region ks s) h = refl
content_leads p n (cell.Of k) (pointer b o) h = absurd (false≢true h)
content_leads p n cell.Ptr (pointer b o) h = (and_parts (int_le (pos 0) b) (int_lt b n) h).0

pub cell_address : (k : CellKind) (t : Table) (b o : ℤ) → is_cell k t b o ≡ true → is_negative b ≡ false
cell_address k t (pos n) o h = refl
cell_address k t (negsuc n) o h = absurd (false≢true (sym (no_cell_of k t (negsuc n) o (no_hidden_cell t n o)) ∙ h))

-- ---- the state

module _ (m : Memory) (k : CellKind) (b o : ℤ) (v : Value) (is : is_cell k m.blocks b o ≡ true) where
  abbrev pub stored : Memory
  stored = stored_in b o v m

  -- a variable of the file that no pointer leads to is elsewhere
  pub hidden_same : (b' : ℤ) → is_negative b' ≡ true → stored.cells b' (pos 0) ≡ m.cells b' (pos 0)
  hidden_same b' neg =
      with_cell_apart b o v m.cells b' (pos 0)
      (apart_by (λ b o. is_cell k m.blocks b o ≡ true) b o b' (pos 0) is (λ so. false≢true (sym (cell_address k m.blocks b' (pos 0) so) ∙ neg)))

  module _ (form : HasForm k v) where
    is_stored : IsStored k b o v (read_in m) (read_in stored)
    is_stored = (stores_agree m k b o v (read_in m) (read_in stored) is form).back (λ l x y. refl) (λ l x y. refl)

    -- cells of the kind, and those of another one
    pub same_reads : (f g : Cells) → Reads m k f → ((x y : ℤ) → g x y ≡ with_cell b o v f x y) → Reads stored k g
    same_reads f g r e x y = e x y ∙ (λ i. with_cell b o v (λ x y. r x y i) x y) ∙ sym (λ i. is_stored.here i x y)

    pub other_reads : (l : CellKind) → same_cell k l ≡ false → (f : Cells) → Reads m l f → Reads stored l f
    other_reads l other f r x y = r x y ∙ sym (λ i. is_stored.others l other i x y)

  -- ---- good

  module _ (p : Facts) (good : IsGood p m) (content : is_content p (count m.blocks) k v ≡ true) where
    abbrev AllContents : Memory → Type 0
    AllContents n = (l : CellKind) (x y : ℤ) → is_cell l n.blocks x y ≡ true → is_content p (count n.blocks) l (n.cells x y) ≡ true

    abbrev held : Typed
    held = typed (encoded m)

    contents : AllContents m
    contents l =
        let read = (states_have_memories m).some in
        let w = well_formed_states_are_formed p m held in
        (formed_is_of_contents p m l (held l) (w.shaped good.well) (read l)).0 (w.formed good.well good.pointers read l)

    stored_contents : AllContents stored
    stored_contents l x y so =
        on_test (is_here b o x y)
        (λ here. let at = same_address b o x y here in
        let same = same_kind k l (one_kind k l m.blocks x y (subst (λ y. is_cell k m.blocks x y ≡ true) at.1 (subst (λ x. is_cell k m.blocks x o ≡ true) at.0 is)) so) in
        ap (is_content p (count m.blocks) l) (with_cell_here b o v m.cells x y here) ∙ subst (λ l. is_content p (count m.blocks) l v ≡ true) same content)
        (λ apart. ap (is_content p (count m.blocks) l) (with_cell_apart b o v m.cells x y apart) ∙ contents l x y so)

    stored_shaped : IsShaped stored
    stored_shaped =
        (stores_agree m k b o v (read_in m) (read_in stored) is (content_has_form p (count m.blocks) k v content)).shaped
        ((well_formed_states_are_formed p m held).shaped good.well)

    abbrev now : Typed
    now = typed (encoded stored)

    values : (l : CellKind) (x y : ℤ) → is_cell l stored.blocks x y ≡ true → (is_value p stored.blocks l (stored.cells x y) ≡ true) × (leads_well (stored.cells x y) ≡ true)
    values =
        let read = (states_have_memories stored).some in
        (well_formed_states_are_formed p stored now).back stored_shaped read (λ l. (formed_is_of_contents p stored l (now l) stored_shaped (read l)).1 (stored_contents l))

    placed : (x : ℕ) (y : Variable) → slice_get p.globals x ≡ Some y → is_placed p stored (global_home p x) y ≡ true
    placed x y e =
        on_test y.is_plain
        (λ plain. ap (λ u. if y.is_plain then is_value p m.blocks (scalar_of y.layout.cells) u else has_layout m.blocks (global_home p x) y.layout)
        (hidden_same (global_home p x) (hidden_negative p x y e plain)) ∙ good.well.globals x y e)
        (λ block. unchosen y.is_plain _ _ block ∙ sym (unchosen y.is_plain _ _ block) ∙ good.well.globals x y e)

    pub stored_good : IsGood p stored
    stored_good = record {
      well = record {
        globals = placed;
        cells = λ l x y so. (values l x y so).0;
        elsewhere = λ x y out none. with_cell_apart b o v m.cells x y (apart_from_cell k m.blocks b o x y is (none k)) ∙ good.well.elsewhere x y out none;
        short = good.well.short;
      };
      pointers = λ x y.
          on_test (is_here b o x y) (λ here. ap leads_well (with_cell_here b o v m.cells x y here) ∙ content_leads p (count m.blocks) k v content)
          (λ apart. ap leads_well (with_cell_apart b o v m.cells x y apart) ∙ good.pointers x y);
    }
