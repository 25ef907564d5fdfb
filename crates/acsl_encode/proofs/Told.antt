-- A function is given the memories that it reads.
use Rattle.std.proofs.Common.{◌≡◌, ◌==◌, Bool, true, false, ◌||◌, List, [], ◌∷◌, refl, sym, ap, ◌∙◌, subst}
use Rattle.std.specs.Prelude.{Some, if◌then◌else◌}
use Rattle.std.specs.List.{list_any}
use Rattle.std.proofs.lemmas.Bool.{false≢true}
use Rattle.wp_base.specs.declared.kinds.Kind.{Kind}
use Rattle.wp_base.specs.declared.kinds.Kind.TheVariants as kind
use Rattle.wp_base.specs.declared.kinds.CellKind.{CellKind}
use Rattle.wp_base.specs.declared.kinds.CellKind.TheVariants as cell
use Rattle.wp_base.specs.Kinds.{kind_place}
use Rattle.acsl_encode.specs.Setting.{numbers_in, pointers_in, memory_var, memory_name}
use Rattle.acsl_encode.specs.Told.{those, every_cell, cell_is_read, IsGiven, ReadsAreGiven}
use Rattle.acsl_encode.proofs.Bodies.{same_kind}

is_kind : Kind → CellKind → Bool
is_kind k (cell.Of l) = kind_place l == kind_place k
is_kind k cell.Ptr = false

is_pointer : CellKind → Bool
is_pointer (cell.Of l) = false
is_pointer cell.Ptr = true

module _ (p : CellKind → Bool) where
  number_given : (k : Kind) → p (cell.Of k) ≡ true → (ks : List CellKind) → list_any (is_kind k) ks ≡ true → IsGiven (numbers_in (those p ks) k)
  unfolding is_kind
  number_given k h [] listed = absurd (false≢true listed)
  number_given k h (cell.Ptr ∷ ks) listed = by (p cell.Ptr) (number_given k h ks listed)
    where
      by : (b : Bool) → IsGiven (numbers_in (those p ks) k) → IsGiven (numbers_in (if b then cell.Ptr ∷ those p ks else those p ks) k)
      by true g = g
      by false g = g
  number_given k h (cell.Of l ∷ ks) listed = by (kind_place l == kind_place k) refl (p (cell.Of l)) refl listed (number_given k h ks)
    where
      by : (b : Bool) → (kind_place l == kind_place k) ≡ b → (c : Bool) → p (cell.Of l) ≡ c → (b || list_any (is_kind k) ks) ≡ true
          → (list_any (is_kind k) ks ≡ true → IsGiven (numbers_in (those p ks) k)) → IsGiven (numbers_in (if c then cell.Of l ∷ those p ks else those p ks) k)
      by true e true f more rest = subst (λ t. IsGiven (if t then Some (memory_var (memory_name l)) else numbers_in (those p ks) k)) (sym e) tt
      by true e false f more rest = absurd (false≢true (sym f ∙ ap (λ k. p (cell.Of k)) (same_kind l k e) ∙ h))
      by false e true f more rest = subst (λ t. IsGiven (if t then Some (memory_var (memory_name l)) else numbers_in (those p ks) k)) (sym e) (rest more)
      by false e false f more rest = rest more

  pointer_given : p cell.Ptr ≡ true → (ks : List CellKind) → list_any is_pointer ks ≡ true → IsGiven (pointers_in (those p ks))
  unfolding is_pointer
  pointer_given h [] listed = absurd (false≢true listed)
  pointer_given h (cell.Of l ∷ ks) listed = by (p (cell.Of l)) (pointer_given h ks listed)
    where
      by : (b : Bool) → IsGiven (pointers_in (those p ks)) → IsGiven (pointers_in (if b then cell.Of l ∷ those p ks else those p ks))
      by true g = g
      by false g = g
  pointer_given h (cell.Ptr ∷ ks) listed = subst (λ b. IsGiven (pointers_in (if b then cell.Ptr ∷ those p ks else those p ks))) (sym h) tt

every_listed : (k : Kind) → list_any (is_kind k) every_cell ≡ true
unfolding is_kind
every_listed kind.Bool = refl
every_listed kind.Char = refl
every_listed kind.SChar = refl
every_listed kind.UChar = refl
every_listed kind.Short = refl
every_listed kind.UShort = refl
every_listed kind.Int = refl
every_listed kind.UInt = refl
every_listed kind.Long = refl
every_listed kind.ULong = refl
every_listed kind.LLong = refl
every_listed kind.ULLong = refl

pub reads_are_given : ReadsAreGiven
unfolding is_pointer
reads_are_given = record {
  numbers = λ spelling gs ds n k h. number_given (cell_is_read gs ds n) k h every_cell (every_listed k);
  pointers = λ spelling gs ds n h. pointer_given (cell_is_read gs ds n) h every_cell refl;
}
