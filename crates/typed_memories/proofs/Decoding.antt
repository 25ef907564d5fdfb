-- What a table and clean memories decode to, and how states are read.
use Rattle.std.proofs.Common.{◌≡◌, ℕ, true, false, ℤ, pos, negsuc, Option, Some, None, refl, sym, ap, ◌∙◌}
use Rattle.wp_base.specs.declared.kinds.CellKind.{CellKind}
use Rattle.wp_base.specs.declared.kinds.CellKind.TheVariants as cell
use Rattle.wp_base.specs.Blocks.{Table, block_at, is_cell}
use Rattle.c_runs.specs.TruthStates.{Value, number, pointer, addresses, region, of_kind, nothing_of, held}
use Rattle.c_runs.specs.Program.{Facts}
use Rattle.c_runs.specs.States.{Local, Memory, seen_with}
use Rattle.typed_memories.specs.Cells.{Cells, Typed, kind_at, read_in, HasForm, AllTyped, AllClean, AllRead, IsShaped, outside_by, cell_by, decoded}
use Rattle.typed_memories.specs.Laws.{DecodedStatesAreShaped, LoadsAgree}
use Rattle.typed_memories.proofs.Tests.{on_test, not_both, chosen, unchosen}
use Rattle.typed_memories.proofs.CellKinds.{kind_of_cell, cell_of_kind, no_cell_of}

-- ---- forms

pub nothing_has_form : (k : CellKind) → HasForm k (nothing_of k)
nothing_has_form (cell.Of k) = refl
nothing_has_form cell.Ptr = refl

pub form_has_form : (k : CellKind) (v : Value) → HasForm k (of_kind k v)
form_has_form (cell.Of k) (number z) = refl
form_has_form (cell.Of k) (pointer b o) = refl
form_has_form (cell.Of k) (addresses s) = refl
form_has_form (cell.Of k) (region ks s) = refl
form_has_form cell.Ptr (number z) = refl
form_has_form cell.Ptr (pointer b o) = refl
form_has_form cell.Ptr (addresses s) = refl
form_has_form cell.Ptr (region ks s) = refl

-- ---- reads

module _ (m : Memory) (k : CellKind) (b o : ℤ) where
  pub read_cell : is_cell k m.blocks b o ≡ true → read_in m k b o ≡ of_kind k (m.cells b o)
  read_cell h = chosen (is_cell k m.blocks b o) (of_kind k (m.cells b o)) (nothing_of k) h

  pub read_nothing : is_cell k m.blocks b o ≡ false → read_in m k b o ≡ nothing_of k
  read_nothing h = unchosen (is_cell k m.blocks b o) (of_kind k (m.cells b o)) (nothing_of k) h

  pub read_has_form : HasForm k (read_in m k b o)
  read_has_form =
      on_test (is_cell k m.blocks b o) (λ so. let e = read_cell so in ap (of_kind k) e ∙ form_has_form k (m.cells b o) ∙ sym e)
      (λ not_so. let e = read_nothing not_so in ap (of_kind k) e ∙ nothing_has_form k ∙ sym e)

-- of a shaped state what the cell holds
pub read_shaped : (m : Memory) → IsShaped m → (k : CellKind) (b o : ℤ) → is_cell k m.blocks b o ≡ true → read_in m k b o ≡ m.cells b o
read_shaped m s k b o h = read_cell m k b o h ∙ s.cells k b o h

-- ---- states of memories

module _ (t : Table) (g : Typed) (h : Cells) where
  abbrev state : Memory
  state = decoded t g h

  pub decoded_cell : (k : CellKind) (b o : ℤ) → is_cell k t b o ≡ true → state.cells b o ≡ g k b o
  decoded_cell k b o is = ap (λ c. cell_by g h c b o) (kind_of_cell k t b o is)

  no_kind : (b o : ℤ) → ((k : CellKind) → is_cell k t b o ≡ false) → kind_at t b o ≡ None
  no_kind b o none = by (kind_at t b o) refl
    where
      by : (c : Option CellKind) → kind_at t b o ≡ c → c ≡ None
      by None e = refl
      by (Some k) e = not_both (is_cell k t b o) (cell_of_kind k t b o e) (none k)

  pub decoded_outside : (b o : ℤ) → ((k : CellKind) → is_cell k t b o ≡ false) → state.cells b o ≡ outside_by h b o
  decoded_outside b o none = ap (λ c. cell_by g h c b o) (no_kind b o none)

  decoded_read : AllTyped g → AllClean t g → AllRead state g
  decoded_read typed clean k b o =
      on_test (is_cell k t b o) (λ so. sym (read_cell state k b o so ∙ ap (of_kind k) (decoded_cell k b o so) ∙ typed k b o))
      (λ not_so. clean k b o not_so ∙ sym (read_nothing state k b o not_so))

  pub decoded_shaped : AllTyped g → IsShaped state
  decoded_shaped typed = record {
    cells = λ k b o so. let e = decoded_cell k b o so in ap (of_kind k) e ∙ typed k b o ∙ sym e;
    elsewhere = λ n o none. decoded_outside (pos n) o none;
  }

-- a block with a negative number has no cells
pub no_hidden_cell : (t : Table) (n : ℕ) (o : ℤ) → kind_at t (negsuc n) o ≡ None
unfolding block_at
no_hidden_cell t n (pos i) = refl
no_hidden_cell t n (negsuc i) = refl

pub decoded_states_are_shaped : DecodedStatesAreShaped
decoded_states_are_shaped t g h typed = record {
  shaped = decoded_shaped t g h typed;
  read = decoded_read t g h typed;
  hidden = λ n o. ap (λ c. cell_by g h c (negsuc n) o) (no_hidden_cell t n o);
}

-- a shaped state is what its memories decode to
module _ (m : Memory) (s : IsShaped m) (g : Typed) (r : AllRead m g) where
  outside_cell : (b o : ℤ) → kind_at m.blocks b o ≡ None → outside_by m.cells b o ≡ m.cells b o
  outside_cell (pos n) o e = sym (s.elsewhere n o (λ k. no_cell_of k m.blocks (pos n) o e))
  outside_cell (negsuc n) o e = refl

  same_cell_held : (b o : ℤ) (c : Option CellKind) → kind_at m.blocks b o ≡ c → cell_by g m.cells c b o ≡ m.cells b o
  same_cell_held b o None e = outside_cell b o e
  same_cell_held b o (Some k) e = r k b o ∙ read_shaped m s k b o (cell_of_kind k m.blocks b o e)

  pub decodes_back : decoded m.blocks g m.cells ≡ m
  decodes_back = λ i. record { blocks = m.blocks; cells = λ b o. same_cell_held b o (kind_at m.blocks b o) refl i }

pub reads_clean : (m : Memory) (g : Typed) → AllRead m g → AllClean m.blocks g
reads_clean m g r k b o not_so = r k b o ∙ read_nothing m k b o not_so

pub reads_typed : (m : Memory) (g : Typed) → AllRead m g → AllTyped g
reads_typed m g r k b o = ap (of_kind k) (r k b o) ∙ read_has_form m k b o ∙ sym (r k b o)

-- ---- loads

annotation_reads : (m : Memory) (k : CellKind) (p : Facts) (ls : ℕ → Local) (n : ℕ) (o : ℤ) → read_in m k (pos n) o ≡ held k (seen_with p ls m) (pos n) o
annotation_reads m k p ls n o = refl

pub loads_agree : LoadsAgree
loads_agree m k f s = record {
  cell = λ r b o so. r b o ∙ read_shaped m s k b o so;
  annotation = λ r p ls n o. r (pos n) o ∙ annotation_reads m k p ls n o;
  back = λ clean cells b o.
      on_test (is_cell k m.blocks b o) (λ so. cells b o so ∙ sym (read_shaped m s k b o so)) (λ not_so. clean b o not_so ∙ sym (read_nothing m k b o not_so));
}
