-- A store of a value of the kind of the cell, in the state and in the memories.
use Rattle.std.proofs.Common.{◌≡◌, true, false, ℤ, pos, Option, Some, None, refl, sym, ap, ◌∙◌, subst}
use Rattle.wp_base.specs.declared.kinds.CellKind.{CellKind}
use Rattle.wp_base.specs.Blocks.{count, same_cell, is_cell}
use Rattle.c_runs.specs.TruthStates.{Value, of_kind, nothing_of}
use Rattle.c_runs.specs.Program.{Facts}
use Rattle.c_runs.specs.States.{Memory, with_cell, stored_in}
use Rattle.c_runs.specs.Scopes.{is_content}
use Rattle.typed_memories.specs.Cells.{Cells, Typed, kind_at, read_in, HasForm, AllClean, AllFormed, AllRead, IsShaped, cell_by, decoded, IsStored}
use Rattle.typed_memories.specs.Laws.{StoresAgree}
use Rattle.typed_memories.proofs.Tests.{on_test, not_both, is_here, moved, with_cell_here, with_cell_apart}
use Rattle.typed_memories.proofs.CellKinds.{same_kind, kind_of_cell, one_kind, apart_by, apart_from_cell}
use Rattle.typed_memories.proofs.Formed.{formed_parts}
use Rattle.typed_memories.proofs.Decoding.{read_cell, read_nothing}

module _ (m : Memory) (k : CellKind) (b o : ℤ) (v : Value) (is : is_cell k m.blocks b o ≡ true) (form : HasForm k v) where
  abbrev stored : Memory
  stored = stored_in b o v m

  -- ---- what is read of the state

  -- the cells of another kind are elsewhere
  cell_apart : (l : CellKind) → same_cell k l ≡ false → (b' o' : ℤ) → is_cell l m.blocks b' o' ≡ true → is_here b o b' o' ≡ false
  cell_apart l other b' o' so =
      apart_by (λ b o. is_cell k m.blocks b o ≡ true) b o b' o' is (λ both. not_both (same_cell k l) (one_kind k l m.blocks b' o' both so) other)

  read_here : (b' o' : ℤ) → is_here b o b' o' ≡ true → read_in stored k b' o' ≡ v
  read_here b' o' h =
      read_cell stored k b' o' (moved (λ b o. is_cell k m.blocks b o ≡ true) b o b' o' h is) ∙ ap (of_kind k) (with_cell_here b o v m.cells b' o' h) ∙ form

  read_apart : (l : CellKind) (b' o' : ℤ) → (is_cell l m.blocks b' o' ≡ true → is_here b o b' o' ≡ false) → read_in stored l b' o' ≡ read_in m l b' o'
  read_apart l b' o' apart =
      on_test (is_cell l m.blocks b' o')
      (λ so. read_cell stored l b' o' so ∙ ap (of_kind l) (with_cell_apart b o v m.cells b' o' (apart so)) ∙ sym (read_cell m l b' o' so))
      (λ not_so. read_nothing stored l b' o' not_so ∙ sym (read_nothing m l b' o' not_so))

  read_stored : (b' o' : ℤ) → read_in stored k b' o' ≡ with_cell b o v (read_in m k) b' o'
  read_stored b' o' =
      on_test (is_here b o b' o') (λ h. read_here b' o' h ∙ sym (with_cell_here b o v (read_in m k) b' o' h))
      (λ h. read_apart k b' o' (λ so. h) ∙ sym (with_cell_apart b o v (read_in m k) b' o' h))

  -- ---- memories

  module _ (g g' : Typed) where
    to_state : AllRead m g → IsStored k b o v g g' → AllRead stored g'
    to_state r s l b' o' =
        on_test (same_cell k l)
        (λ same. subst (λ l. g' l b' o' ≡ read_in stored l b' o') (same_kind k l same)
        ((λ i. s.here i b' o') ∙ (λ i. with_cell b o v (λ x y. r k x y i) b' o') ∙ sym (read_stored b' o')))
        (λ other. (λ i. s.others l other i b' o') ∙ r l b' o' ∙ sym (read_apart l b' o' (cell_apart l other b' o')))

    from_state : AllRead m g → AllRead stored g' → IsStored k b o v g g'
    from_state r r' = record {
      here = λ i. λ b' o'. (r' k b' o' ∙ read_stored b' o' ∙ (λ j. with_cell b o v (λ x y. sym (r k x y) j) b' o')) i;
      others = λ l other. λ i. λ b' o'. (r' l b' o' ∙ read_apart l b' o' (cell_apart l other b' o') ∙ sym (r l b' o')) i;
    }

    -- ---- the state that memories decode to

    other_address : (h : Cells) (b' o' : ℤ) → is_here b o b' o' ≡ false → (c : Option CellKind) → kind_at m.blocks b' o' ≡ c → IsStored k b o v g g'
        → cell_by g' h c b' o' ≡ cell_by g h c b' o'
    other_address h b' o' apart None e s = refl
    other_address h b' o' apart (Some l) e s =
        on_test (same_cell k l)
        (λ same. subst (λ l. g' l b' o' ≡ g l b' o') (same_kind k l same) ((λ i. s.here i b' o') ∙ with_cell_apart b o v (g k) b' o' apart))
        (λ other. λ i. s.others l other i b' o')

    decoded_stored : (h : Cells) → IsStored k b o v g g' → (b' o' : ℤ)
        → (decoded m.blocks g' h).cells b' o' ≡ (stored_in b o v (decoded m.blocks g h)).cells b' o'
    decoded_stored h s b' o' =
        on_test (is_here b o b' o')
        (λ here. ap (λ c. cell_by g' h c b' o') (kind_of_cell k m.blocks b' o' (moved (λ b o. is_cell k m.blocks b o ≡ true) b o b' o' here is))
        ∙ (λ i. s.here i b' o')
        ∙ with_cell_here b o v (g k) b' o' here ∙ sym (with_cell_here b o v (decoded m.blocks g h).cells b' o' here))
        (λ apart. other_address h b' o' apart (kind_at m.blocks b' o') refl s ∙ sym (with_cell_apart b o v (decoded m.blocks g h).cells b' o' apart))

    -- ---- clean, and shaped

    stays_clean : AllClean m.blocks g → IsStored k b o v g g' → AllClean m.blocks g'
    stays_clean clean s l b' o' not_so =
        on_test (same_cell k l)
        (λ same. let e = same_kind k l same in
        subst (λ l. is_cell l m.blocks b' o' ≡ false → g' l b' o' ≡ nothing_of l) e
        (λ not_so. (λ i. s.here i b' o') ∙ with_cell_apart b o v (g k) b' o' (apart_from_cell k m.blocks b o b' o' is not_so) ∙ clean k b' o' not_so) not_so)
        (λ other. (λ i. s.others l other i b' o') ∙ clean l b' o' not_so)

    -- a value in range keeps what is formed so
    stays_formed : (p : Facts) → is_content p (count m.blocks) k v ≡ true → AllFormed p m.blocks g → IsStored k b o v g g' → AllFormed p m.blocks g'
    stays_formed p range f s l b' o' =
        let parts = λ (l : CellKind). (formed_parts p m.blocks l (g l) b' o').0 (f l b' o') in
        (formed_parts p m.blocks l (g' l) b' o').1 (
          stays_clean (λ l b o. ((formed_parts p m.blocks l (g l) b o).0 (f l b o)).0) s l b' o',
          (λ so.
              on_test (same_cell k l)
              (λ same. subst (λ l. is_content p (count m.blocks) l (g' l b' o') ≡ true) (same_kind k l same)
              (ap (is_content p (count m.blocks) k) (λ i. s.here i b' o')
              ∙ on_test (is_here b o b' o') (λ here. ap (is_content p (count m.blocks) k) (with_cell_here b o v (g k) b' o' here) ∙ range)
              (λ apart. ap (is_content p (count m.blocks) k) (with_cell_apart b o v (g k) b' o' apart)
              ∙ (parts k).1 (subst (λ l. is_cell l m.blocks b' o' ≡ true) (sym (same_kind k l same)) so))))
              (λ other. ap (is_content p (count m.blocks) l) (λ i. s.others l other i b' o') ∙ (parts l).1 so)),
        )

  stays_shaped : IsShaped m → IsShaped stored
  stays_shaped s = record {
    cells = λ l b' o' so.
        on_test (is_here b o b' o')
        (λ h. let e = with_cell_here b o v m.cells b' o' h in
        let same = same_kind k l (one_kind k l m.blocks b' o' (moved (λ b o. is_cell k m.blocks b o ≡ true) b o b' o' h is) so) in
        ap (of_kind l) e ∙ subst (λ l. of_kind l v ≡ v) same form ∙ sym e)
        (λ h. let e = with_cell_apart b o v m.cells b' o' h in ap (of_kind l) e ∙ s.cells l b' o' so ∙ sym e);
    elsewhere = λ n o' none. with_cell_apart b o v m.cells (pos n) o' (apart_from_cell k m.blocks b o (pos n) o' is (none k)) ∙ s.elsewhere n o' none;
  }

pub stores_agree : StoresAgree
stores_agree m k b o v g g' is form = record {
  state = to_state m k b o v is form g g';
  back = from_state m k b o v is form g g';
  decode = λ h s. λ i. record { blocks = m.blocks; cells = λ b' o'. decoded_stored m k b o v is form g g' h s b' o' i };
  clean = stays_clean m k b o v is form g g';
  formed = stays_formed m k b o v is form g g';
  shaped = stays_shaped m k b o v is form;
}
