-- Well formed states, and the laws as contracts see them.
use Rattle.std.proofs.Common.{◌≡◌, ℕ, true, false, ℤ, pos, negsuc, neg_ℤ, Option, Some, None, refl, sym, ap, ◌∙◌, arith}
use Rattle.std.specs.Prelude.{int_le, int_lt}
use Rattle.std.proofs.lemmas.Bool.{false≢true, and_parts}
use Rattle.std.proofs.lemmas.Int.{ints}
use Rattle.wp_base.specs.declared.kinds.CellKind.{CellKind}
use Rattle.wp_base.specs.declared.kinds.CellKind.TheVariants as cell
use Rattle.wp_base.specs.Blocks.{Table, count, is_cell}
use Rattle.c_kinds.proofs.Converting.{test_le, le_test}
use Rattle.c_runs.specs.TruthStates.{Value, number, pointer, addresses, region}
use Rattle.c_runs.specs.Program.{Facts}
use Rattle.c_runs.specs.States.{Memory, plain_globals}
use Rattle.c_runs.specs.Scopes.{is_content}
use Rattle.c_runs.specs.Entry.{leads_well, is_value, is_home, IsWellFormed}
use Rattle.typed_memories.specs.Cells.{Cells, Typed, kind_at, HasForm, AllTyped, AllRead, AllFormed, IsShaped, cell_by, decoded}
use Rattle.typed_memories.specs.Laws.{FramesSay, FormedIsOfContents, WellFormedStatesAreFormed, FormedDecodeWell}
use Rattle.typed_memories.proofs.CellKinds.{cell_of_kind}
use Rattle.typed_memories.proofs.Tests.{both_so}
use Rattle.typed_memories.proofs.Entries.{frame_is}
use Rattle.typed_memories.proofs.Formed.{formed_parts}
use Rattle.typed_memories.proofs.Decoding.{read_shaped, read_nothing, reads_clean, decoded_shaped, decoded_outside, decoded_states_are_shaped}

pub frames_say : FramesSay
frames_say rs = frame_is rs

-- ---- values

value_has_form : (p : Facts) (t : Table) (k : CellKind) (v : Value) → is_value p t k v ≡ true → HasForm k v
value_has_form p t (cell.Of k) (number z) h = refl
value_has_form p t (cell.Of k) (pointer b o) h = absurd (false≢true h)
value_has_form p t (cell.Of k) (addresses s) h = absurd (false≢true h)
value_has_form p t (cell.Of k) (region ks s) h = absurd (false≢true h)
value_has_form p t cell.Ptr (number z) h = absurd (false≢true h)
value_has_form p t cell.Ptr (pointer b o) h = refl
value_has_form p t cell.Ptr (addresses s) h = absurd (false≢true h)
value_has_form p t cell.Ptr (region ks s) h = absurd (false≢true h)

pub content_has_form : (p : Facts) (n : ℤ) (k : CellKind) (v : Value) → is_content p n k v ≡ true → HasForm k v
content_has_form p n (cell.Of k) (number z) h = refl
content_has_form p n (cell.Of k) (pointer b o) h = absurd (false≢true h)
content_has_form p n (cell.Of k) (addresses s) h = absurd (false≢true h)
content_has_form p n (cell.Of k) (region ks s) h = absurd (false≢true h)
content_has_form p n cell.Ptr (number z) h = absurd (false≢true h)
content_has_form p n cell.Ptr (pointer b o) h = refl
content_has_form p n cell.Ptr (addresses s) h = absurd (false≢true h)
content_has_form p n cell.Ptr (region ks s) h = absurd (false≢true h)

-- where no pointer leads to a variable that has no address, a value is one that a cell may hold
value_content : (p : Facts) (t : Table) (k : CellKind) (v : Value) → is_value p t k v ≡ true → leads_well v ≡ true → is_content p (count t) k v ≡ true
value_content p t (cell.Of k) (number z) h l = h
value_content p t (cell.Of k) (pointer b o) h l = absurd (false≢true h)
value_content p t (cell.Of k) (addresses s) h l = absurd (false≢true h)
value_content p t (cell.Of k) (region ks s) h l = absurd (false≢true h)
value_content p t cell.Ptr (number z) h l = absurd (false≢true h)
value_content p t cell.Ptr (pointer b o) h l =
    both_so (int_le (pos 0) b) (int_lt b (count t)) l (and_parts (int_lt b (count t)) (int_le (neg_ℤ (pos (plain_globals p))) b) h).0
value_content p t cell.Ptr (addresses s) h l = absurd (false≢true h)
value_content p t cell.Ptr (region ks s) h l = absurd (false≢true h)

above_hidden : (n : ℕ) (b : ℤ) → int_le (pos 0) b ≡ true → int_le (neg_ℤ (pos n)) b ≡ true
above_hidden n b h = let e = test_le (pos 0) b h in le_test (neg_ℤ (pos n)) b (omega (arith, ints, e))

content_value : (p : Facts) (t : Table) (k : CellKind) (v : Value) → is_content p (count t) k v ≡ true → (is_value p t k v ≡ true) × (leads_well v ≡ true)
content_value p t (cell.Of k) (number z) h = (h, refl)
content_value p t (cell.Of k) (pointer b o) h = absurd (false≢true h)
content_value p t (cell.Of k) (addresses s) h = absurd (false≢true h)
content_value p t (cell.Of k) (region ks s) h = absurd (false≢true h)
content_value p t cell.Ptr (number z) h = absurd (false≢true h)
content_value p t cell.Ptr (pointer b o) h =
    let both = and_parts (int_le (pos 0) b) (int_lt b (count t)) h in
    (both_so (int_lt b (count t)) (int_le (neg_ℤ (pos (plain_globals p))) b) both.1 (above_hidden (plain_globals p) b both.0), both.0)
content_value p t cell.Ptr (addresses s) h = absurd (false≢true h)
content_value p t cell.Ptr (region ks s) h = absurd (false≢true h)

-- ---- well formed states

well_formed_shaped : (p : Facts) (m : Memory) → IsWellFormed p m → IsShaped m
well_formed_shaped p m w = record {
  cells = λ k b o so. value_has_form p m.blocks k (m.cells b o) (w.cells k b o so);
  elsewhere = λ n o none. w.elsewhere (pos n) o refl none;
}

module _ (p : Facts) (m : Memory) (g : Typed) (r : AllRead m g) where
  formed : IsWellFormed p m → ((b o : ℤ) → leads_well (m.cells b o) ≡ true) → AllFormed p m.blocks g
  formed w leads k b o =
      (formed_parts p m.blocks k (g k) b o).1 (
        reads_clean m g r k b o,
        (λ so. let e = r k b o ∙ read_shaped m (well_formed_shaped p m w) k b o so in
            ap (is_content p (count m.blocks) k) e ∙ value_content p m.blocks k (m.cells b o) (w.cells k b o so) (leads b o)),
      )

  values : IsShaped m → AllFormed p m.blocks g → (k : CellKind) (b o : ℤ) → is_cell k m.blocks b o ≡ true
      → (is_value p m.blocks k (m.cells b o) ≡ true) × (leads_well (m.cells b o) ≡ true)
  values s f k b o so =
      let e = r k b o ∙ read_shaped m s k b o so in
      content_value p m.blocks k (m.cells b o) (ap (is_content p (count m.blocks) k) (sym e)
      ∙ ((formed_parts p m.blocks k (g k) b o).0 (f k b o)).1 so)

-- of one kind
pub formed_is_of_contents : FormedIsOfContents
formed_is_of_contents p m k f s r = (
  (λ h b o so.
      let e = r b o ∙ read_shaped m s k b o so in ap (is_content p (count m.blocks) k) (sym e) ∙ ((formed_parts p m.blocks k f b o).0 (h b o)).1 so),
  (λ h b o.
      (formed_parts p m.blocks k f b o).1 (
        (λ not_so. r b o ∙ read_nothing m k b o not_so),
        (λ so. let e = r b o ∙ read_shaped m s k b o so in ap (is_content p (count m.blocks) k) e ∙ h b o so),
      )),
)

pub well_formed_states_are_formed : WellFormedStatesAreFormed
well_formed_states_are_formed p m g = record {
  shaped = well_formed_shaped p m;
  formed = λ w leads r. formed p m g r w leads;
  back = λ s r f. values p m g r s f;
}

-- ---- what formed memories decode to

module _ (p : Facts) (t : Table) (g : Typed) (h : Cells) (typed : AllTyped g) (f : AllFormed p t g) where
  abbrev state : Memory
  state = decoded t g h

  state_read : AllRead state g
  state_read = (decoded_states_are_shaped t g h typed).read (λ k b o. ((formed_parts p t k (g k) b o).0 (f k b o)).0)

  state_shaped : IsShaped state
  state_shaped = decoded_shaped t g h typed

  nothing_elsewhere : ((n : ℕ) (o : ℤ) → is_home p (negsuc n) o ≡ false → h (negsuc n) o ≡ number (pos 0)) → (b o : ℤ) → is_home p b o ≡ false
      → ((k : CellKind) → is_cell k t b o ≡ false) → state.cells b o ≡ number (pos 0)
  nothing_elsewhere empty (pos n) o out none = decoded_outside t g h (pos n) o none
  nothing_elsewhere empty (negsuc n) o out none = decoded_outside t g h (negsuc n) o none ∙ empty n o out

  cell_leads : (hidden : (n : ℕ) (o : ℤ) → leads_well (h (negsuc n) o) ≡ true) (b o : ℤ) (c : Option CellKind) → kind_at t b o ≡ c
      → leads_well (cell_by g h c b o) ≡ true
  cell_leads hidden (pos n) o None e = refl
  cell_leads hidden (negsuc n) o None e = hidden n o
  cell_leads hidden b o (Some k) e =
      (content_value p t k (g k b o) (((formed_parts p t k (g k) b o).0 (f k b o)).1 (cell_of_kind k t b o e))).1

pub formed_decode_well : FormedDecodeWell
formed_decode_well p t g h typed f = record {
  well = λ placed empty short. record {
    globals = placed;
    cells = λ k b o so. (values p (decoded t g h) g (state_read p t g h typed f) (state_shaped p t g h typed f) f k b o so).0;
    elsewhere = nothing_elsewhere p t g h typed f empty;
    short = short;
  };
  leads = λ hidden b o. cell_leads p t g h typed f hidden b o (kind_at t b o) refl;
}
