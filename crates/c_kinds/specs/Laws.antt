-- What is so of kinds and layouts, in other words than those of the definitions.
use Rattle.std.specs.Prelude.{◌≡◌, ℕ, ◌^◌, ◌≤◌, true, ℤ, pos, ◌+ℤ◌, ◌*ℤ◌, List, take, drop, Some, slice_get}
use Rattle.wp_base.specs.declared.kinds.Kind.{Kind}
use Rattle.wp_base.specs.declared.kinds.Kind.TheVariants as kind
use Rattle.wp_base.specs.declared.kinds.Layout.{Layout}
use Rattle.wp_base.specs.Kinds.{is_signed, kind_bits}
use Rattle.wp_base.specs.Blocks.{cells_of}
use Rattle.c_kinds.specs.declared.models.Machdep.{Machdep}
use Rattle.c_kinds.specs.Models.{long_bits, holds, convert}
use Rattle.c_kinds.specs.Conversions.{rank, promote, holds_all, common}
use Rattle.c_kinds.specs.Layouts.{size, all_cells, places}

-- two numbers that differ by a multiple of 2^bits
pub record IsCongruent (bits : ℕ) (y z : ℤ) : Type 0 where
  pub turns : ℤ
  pub differ : z ≡ y +ℤ (turns *ℤ pos (2 ^ bits))

-- What a conversion gives: a number of the kind; the same number where the kind has it; and under all kinds but `_Bool` a number that is
-- the same modulo 2^bits, of which a kind has one (C11 6.3.1.3).
pub record Converts (m : Machdep) (k : Kind) (z : ℤ) : Type 0 where
  pub held : holds m k (convert m k z) ≡ true
  pub kept : holds m k z ≡ true → convert m k z ≡ z
  pub congruent : (k ≡ kind.Bool → ⊥) → IsCongruent (kind_bits (long_bits m) k) (convert m k z) z

abbrev pub ConversionsKeep : Type 0
ConversionsKeep = (m : Machdep) (k : Kind) (z : ℤ) → Converts m k z

-- A kind is promoted to one that holds all its numbers and is of no lower rank than `int` (C11 6.3.1.1p2, p3).
pub record Promotes (m : Machdep) (k : Kind) : Type 0 where
  pub holds : holds_all m (promote k) k ≡ true
  pub rank : rank kind.Int ≤ rank (promote k)

abbrev pub PromotionKeeps : Type 0
PromotionKeeps = (m : Machdep) (k : Kind) → Promotes m k

-- The common kind is that of the operands in either order, is of no lower rank than either, and where it is signed it holds all numbers of
-- both, so that only a conversion to an unsigned kind changes a number (C11 6.3.1.8).
pub record IsCommon (m : Machdep) (k l : Kind) : Type 0 where
  pub either_order : common m k l ≡ common m l k
  pub rank : rank (promote k) ≤ rank (common m k l)
  pub holds : is_signed (common m k l) ≡ true → holds_all m (common m k l) k ≡ true

abbrev pub CommonIsCommon : Type 0
CommonIsCommon = (m : Machdep) (k l : Kind) → IsCommon m k l

-- A struct's cells are those of its fields in order: behind the first cell of a field come the cells of this field.
abbrev pub StructsAreInOrder : Type 0
StructsAreInOrder = (parts : List Layout) (i : ℕ) (part : Layout) → slice_get parts i ≡ Some part
    → (first : ℕ) × (slice_get (places 0 parts) i ≡ Some first) × (take (size part) (drop first (all_cells parts)) ≡ cells_of part)
