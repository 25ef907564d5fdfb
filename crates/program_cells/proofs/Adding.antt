-- What is added one after the other.
use Rattle.std.proofs.Common.{◌≡◌, ◌<◌, ◌≤◌, ◌+◌, take, drop, flat_map, length, get_or, ◌==◌, ◌||◌, ℕ, Bool, true, false, List, [], ◌∷◌, ◌++◌, map, slice_index_or, refl, sym, ap, subst, ◌∙◌}
use Rattle.std.proofs.lemmas.List.{map-append, take_more, at_drop_more, at_drop_all}
use Rattle.std.specs.List.{list_any}
use Rattle.wp_base.specs.declared.kinds.CellKind.{CellKind}
use Rattle.wp_base.specs.Kinds.{cell_place}
use Rattle.program_cells.specs.declared.cells.Cells.{Cells}
use Rattle.program_cells.specs.Parts.{Part, of_kind, is_blocks, is_of_kind, cells_among}
use Rattle.program_cells.specs.View.{has_kind, Adds, HasCells}

or_none : (a : Bool) → (a || false) ≡ a
or_none true = refl
or_none false = refl

or_assoc : (a b c : Bool) → ((a || b) || c) ≡ (a || (b || c))
or_assoc true b c = refl
or_assoc false b c = refl

any_both : (f : Part → Bool) (ps qs : List Part) → list_any f (ps ++ qs) ≡ (list_any f ps || list_any f qs)
any_both f [] qs = refl
any_both f (p ∷ ps) qs = ap (λ b. f p || b) (any_both f ps qs) ∙ sym (or_assoc (f p) (list_any f ps) (list_any f qs))

pub nothing : (c : Cells) → Adds c c []
nothing c = record { there = sym (or_none c.has_blocks); kinds = λ k. sym (or_none (has_kind c k)) }

pub then : (a b c : Cells) (ps qs : List Part) → Adds a b ps → Adds b c qs → Adds a c (ps ++ qs)
then a b c ps qs h i = record {
  there = i.there ∙ ap (λ x. x || list_any is_blocks qs) h.there ∙ or_assoc a.has_blocks (list_any is_blocks ps) (list_any is_blocks qs)
      ∙ ap (λ x. a.has_blocks || x) (sym (any_both is_blocks ps qs));
  kinds = λ k. i.kinds k ∙ ap (λ x. x || list_any (is_of_kind k) qs) (h.kinds k) ∙ or_assoc (has_kind a k) (list_any (is_of_kind k) ps) (list_any (is_of_kind k) qs)
      ∙ ap (λ x. has_kind a k || x) (sym (any_both (is_of_kind k) ps qs));
}

pub first_then : (a b c : Cells) (p : Part) (qs : List Part) → Adds a b (p ∷ []) → Adds b c qs → Adds a c (p ∷ qs)
first_then a b c p qs h i = then a b c (p ∷ []) qs h i

pub one_kind_more : (a b c : Cells) (ks : List CellKind) (i : ℕ) (d : CellKind) → i < length ks → Adds a b (map of_kind (take i ks))
    → Adds b c (of_kind (get_or ks i d) ∷ []) → Adds a c (map of_kind (take (i + 1) ks))
one_kind_more a b c ks i d there h one =
    subst (λ ls. Adds a c (map of_kind ls)) (sym (take_more ks i d there)) (subst (Adds a c) (sym (map-append of_kind (take i ks) (get_or ks i d ∷ [])))
    (then a b c (map of_kind (take i ks)) (of_kind (get_or ks i d) ∷ []) h one))

-- a flag that is set
pub kind_added : (a b : Cells) (k : CellKind) → b.has_blocks ≡ a.has_blocks
    → ((n : ℕ) → slice_index_or b.kinds.items n false ≡ (slice_index_or a.kinds.items n false || n == cell_place k)) → Adds a b (of_kind k ∷ [])
kind_added a b k same h = record {
  there = same ∙ sym (or_none a.has_blocks);
  kinds = λ l. h (cell_place l) ∙ ap (λ x. slice_index_or a.kinds.items (cell_place l) false || x) (sym (or_none (cell_place l == cell_place k)));
}

-- ---- loops: whatever is added from here on is added to the whole

pub record Onward (a b : Cells) (left all : List Part) : Type 0 where
  pub to : (z : Cells) → Adds b z left → Adds a z all

pub onward_begins : (a : Cells) (ps : List Part) → Onward a a ps ps
onward_begins a ps = record { to = λ z h. h }

module _ {X : Type 0} (f : X → List Part) (xs : List X) where
  pub onward_turn : (a b c : Cells) (all : List Part) (i : ℕ) (d : X) → i < length xs → Onward a b (flat_map f (drop i xs)) all → Adds b c (f (get_or xs i d))
      → Onward a c (flat_map f (drop (i + 1) xs)) all
  onward_turn a b c all i d there on one = record {
    to = λ z rest. on.to z (subst (Adds b z) (sym (at_drop_more (flat_map f) xs i d there)) (then b c z (f (get_or xs i d)) (flat_map f (drop (i + 1) xs)) one rest));
  }

  pub onward_ends : (a b : Cells) (all : List Part) (i : ℕ) → length xs ≤ i → Onward a b (flat_map f (drop i xs)) all → Adds a b all
  onward_ends a b all i end on = on.to b (subst (Adds b b) (sym (at_drop_all (flat_map f) xs i end)) (nothing b))

pub ruleset onward_laws = (onward_begins, onward_turn, onward_ends)

-- what was added to nothing
pub all_told : (a b : Cells) (ps : List Part) → a.has_blocks ≡ false → a.kinds.items ≡ [] → Adds a b ps → HasCells b (cells_among ps)
all_told a b ps none empty h = record {
  there = h.there ∙ ap (λ x. x || list_any is_blocks ps) none;
  kinds = λ k. h.kinds k ∙ ap (λ xs. slice_index_or xs (cell_place k) false || list_any (is_of_kind k) ps) empty;
}
