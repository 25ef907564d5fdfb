-- What is found by its number.
use Rattle.std.proofs.Common.{◌≡◌, ◌<◌, ◌≤◌, ℕ, zero, suc, ◌+◌, List, [], ◌∷◌, map, length, get_or, Option, Some, None, slice_get, slice_index_or, refl, sym, ap, ◌∙◌, arith}
use Rattle.std.specs.Option.{option_map, option_copied}
use Rattle.std.specs.Borrow.{Bor}
use Rattle.wp_base.specs.declared.kinds.Kind.TheVariants as kind
use Rattle.wp_base.specs.declared.kinds.Kind.{Kind}
use Rattle.wp_base.specs.declared.kinds.CellKind.{CellKind}
use Rattle.wp_base.specs.declared.kinds.CellKind.TheVariants as cell
use Rattle.plain_states.specs.Scopes.{kind_in}
use Rattle.program_trees.specs.Files.{at}

-- ---- clusters

pub cluster_at : (xs : List (Option ℕ)) (i : ℕ) → i < length xs → slice_index_or xs i None ≡ at xs i
cluster_at [] i lt = absurd (omega (arith, lt))
cluster_at (y ∷ ys) zero lt = refl
cluster_at (y ∷ ys) (suc i) lt = cluster_at ys i (omega (arith, lt))

pub cluster_none : (xs : List (Option ℕ)) (i : ℕ) → length xs ≤ i → None ≡ at xs i
cluster_none [] i le = refl
cluster_none (y ∷ ys) zero le = absurd (omega (arith, le))
cluster_none (y ∷ ys) (suc i) le = cluster_none ys i (omega (arith, le))

-- ---- functions

pub item_found : {X Y : Type 0} (f : X → Y) (xs : List (Option X)) (i : ℕ) (o : Option X) → i < length xs → o ≡ get_or xs i o → at (map (option_map f) xs) i ≡ option_map f o
item_found f [] i o lt e = absurd (omega (arith, lt))
item_found f (x ∷ xs) zero o lt e = sym (ap (option_map f) e)
item_found f (x ∷ xs) (suc i) o lt e = item_found f xs i o (omega (arith, lt)) e

pub item_missing : {X Y : Type 0} (f : X → Y) (xs : List (Option X)) (i : ℕ) → length xs ≤ i → at (map (option_map f) xs) i ≡ None
item_missing f [] i le = refl
item_missing f (x ∷ xs) zero le = absurd (omega (arith, le))
item_missing f (x ∷ xs) (suc i) le = item_missing f xs i (omega (arith, le))

pub copied_map : {X Y : Type 0} (f : X → Y) (o : Option (Bor X)) → option_map (λ (x : Bor X). f x.now) o ≡ option_map f (option_copied o)
copied_map f None = refl
copied_map f (Some x) = refl

-- ---- kinds

pub kind_some : (ks : List CellKind) (k : Kind) → slice_get ks 0 ≡ Some (cell.Of k) → k ≡ kind_in ks
kind_some [] k e = absurd (cc e)
kind_some (cell.Of l ∷ ks) k e = (cc e)
kind_some (cell.Ptr ∷ ks) k e = absurd (cc e)

pub kind_pointer : (ks : List CellKind) → slice_get ks 0 ≡ Some cell.Ptr → kind.Int ≡ kind_in ks
kind_pointer [] e = refl
kind_pointer (cell.Of l ∷ ks) e = absurd (cc e)
kind_pointer (cell.Ptr ∷ ks) e = refl

pub kind_none : (ks : List CellKind) → slice_get ks 0 ≡ None → kind.Int ≡ kind_in ks
kind_none [] e = refl
kind_none (cell.Of l ∷ ks) e = absurd (cc e)
kind_none (cell.Ptr ∷ ks) e = refl
