-- The kind of the cell at an address.
use Rattle.std.proofs.Common.{◌≡◌, ℕ, Bool, true, false, ℤ, pos, negsuc, List, [], ◌∷◌, Option, Some, None, slice_get, refl, sym, ap, ◌∙◌}
use Rattle.std.specs.Option.{unwrap_or}
use Rattle.std.proofs.lemmas.Bool.{false≢true}
use Rattle.std.proofs.lemmas.Bool.Decides.{Decides-eqb}
use Rattle.wp_base.specs.declared.kinds.Kind.TheVariants as kind
use Rattle.wp_base.specs.declared.kinds.CellKind.{CellKind}
use Rattle.wp_base.specs.declared.kinds.CellKind.TheVariants as cell
use Rattle.wp_base.specs.Kinds.{cell_place}
use Rattle.wp_base.specs.Blocks.{Table, same_cell, is_some_cell, is_cell}
use Rattle.typed_memories.specs.Cells.{kind_at}
use Rattle.typed_memories.proofs.Tests.{moved, is_here}

-- ---- kinds by their places

in_order : List CellKind
in_order =
    cell.Of kind.Bool ∷ cell.Of kind.Char ∷ cell.Of kind.SChar ∷ cell.Of kind.UChar ∷ cell.Of kind.Short ∷ cell.Of kind.UShort ∷ cell.Of kind.Int
    ∷ cell.Of kind.UInt ∷ cell.Of kind.Long ∷ cell.Of kind.ULong ∷ cell.Of kind.LLong ∷ cell.Of kind.ULLong ∷ cell.Ptr ∷ []

placed : ℕ → CellKind
placed n = unwrap_or (slice_get in_order n) cell.Ptr

placed_back : (k : CellKind) → placed (cell_place k) ≡ k
unfolding in_order placed
placed_back (cell.Of kind.Bool) = refl
placed_back (cell.Of kind.Char) = refl
placed_back (cell.Of kind.SChar) = refl
placed_back (cell.Of kind.UChar) = refl
placed_back (cell.Of kind.Short) = refl
placed_back (cell.Of kind.UShort) = refl
placed_back (cell.Of kind.Int) = refl
placed_back (cell.Of kind.UInt) = refl
placed_back (cell.Of kind.Long) = refl
placed_back (cell.Of kind.ULong) = refl
placed_back (cell.Of kind.LLong) = refl
placed_back (cell.Of kind.ULLong) = refl
placed_back cell.Ptr = refl

pub same_kind : (k l : CellKind) → same_cell k l ≡ true → k ≡ l
same_kind k l h = sym (placed_back k) ∙ ap placed ((Decides-eqb (cell_place k) (cell_place l)).0 h) ∙ placed_back l

pub kind_same : (k l : CellKind) → k ≡ l → same_cell k l ≡ true
kind_same k l e = (Decides-eqb (cell_place k) (cell_place l)).1 (ap cell_place e)

-- ---- cells

pub cell_is : (k : CellKind) (t : Table) (b o : ℤ) → is_cell k t b o ≡ is_some_cell k (kind_at t b o)
cell_is k t b (pos n) = refl
cell_is k t b (negsuc n) = refl

some_kind : (k : CellKind) (c : Option CellKind) → is_some_cell k c ≡ true → c ≡ Some k
some_kind k None h = absurd (false≢true h)
some_kind k (Some l) h = ap Some (sym (same_kind k l h))

-- a cell of a kind has this kind, and no other one
pub kind_of_cell : (k : CellKind) (t : Table) (b o : ℤ) → is_cell k t b o ≡ true → kind_at t b o ≡ Some k
kind_of_cell k t b o h = some_kind k (kind_at t b o) (sym (cell_is k t b o) ∙ h)

pub cell_of_kind : (k : CellKind) (t : Table) (b o : ℤ) → kind_at t b o ≡ Some k → is_cell k t b o ≡ true
cell_of_kind k t b o e = cell_is k t b o ∙ ap (is_some_cell k) e ∙ kind_same k k refl

pub no_cell_of : (k : CellKind) (t : Table) (b o : ℤ) → kind_at t b o ≡ None → is_cell k t b o ≡ false
no_cell_of k t b o e = cell_is k t b o ∙ ap (is_some_cell k) e

pub other_kind : (k l : CellKind) (t : Table) (b o : ℤ) → kind_at t b o ≡ Some l → same_cell k l ≡ false → is_cell k t b o ≡ false
other_kind k l t b o e h = cell_is k t b o ∙ ap (is_some_cell k) e ∙ h

pub one_kind : (k l : CellKind) (t : Table) (b o : ℤ) → is_cell k t b o ≡ true → is_cell l t b o ≡ true → same_cell k l ≡ true
one_kind k l t b o h g = sym (cell_is k t b o ∙ ap (is_some_cell k) (kind_of_cell l t b o g)) ∙ h

-- an address of which other is so isn't the same
pub apart_by : (P : ℤ → ℤ → Type 0) (b o b' o' : ℤ) → P b o → (P b' o' → ⊥) → is_here b o b' o' ≡ false
apart_by P b o b' o' x other = by (is_here b o b' o') refl
  where
    by : (t : Bool) → is_here b o b' o' ≡ t → t ≡ false
    by true h = absurd (other (moved P b o b' o' h x))
    by false h = refl

pub apart_from_cell : (k : CellKind) (t : Table) (b o b' o' : ℤ) → is_cell k t b o ≡ true → is_cell k t b' o' ≡ false → is_here b o b' o' ≡ false
apart_from_cell k t b o b' o' h not_so = apart_by (λ b o. is_cell k t b o ≡ true) b o b' o' h (λ so. false≢true (sym not_so ∙ so))
