-- Free names: a name at a sort, where no quantifier around it binds it. A quantifier binds an integer's name in its third kid alone.
use Rattle.std.specs.Prelude.{◌≡◌, ℕ, Bool, true, false, not, ◌&&◌, ◌||◌, List}
use Rattle.std.specs.Str.{bytes_eq}
use Rattle.qed_terms.specs.declared.head.Sort.{Sort}
use Rattle.qed_terms.specs.declared.head.Sort.TheVariants as sort
use Rattle.qed_terms.specs.declared.head.Head.{Head}
use Rattle.qed_terms.specs.declared.head.Head.TheVariants as h
use Rattle.qed_terms.specs.Meaning.{World, Values, value_of, meaning}
use Rattle.qed_terms.specs.WellFormed.{same_sort}
use Rattle.qed_terms.specs.Tree.{Tree, node, Trees, stop, more}

-- the head is this name
abbrev pub is_this : List ℕ → Sort → Head → Bool
is_this x s (h.Var y t) = bytes_eq x y && same_sort s t
is_this x s head = false

-- the head binds this name
abbrev pub binds : List ℕ → Sort → Head → Bool
binds x s (h.Forall y) = bytes_eq x y && same_sort s sort.Int
binds x s (h.Exists y) = bytes_eq x y && same_sort s sort.Int
binds x s head = false

abbrev mutual
  pub is_free : List ℕ → Sort → Tree → Bool
  is_free x s (node head ts) = is_this x s head || free_among (binds x s head) x s ts

  -- in one of the kids; the third one may be left out
  pub free_among : (bound : Bool) → List ℕ → Sort → Trees → Bool
  free_among bound x s stop = false
  free_among bound x s (more t stop) = is_free x s t
  free_among bound x s (more t (more u stop)) = is_free x s t || is_free x s u
  free_among bound x s (more t (more u (more v ts))) = is_free x s t || is_free x s u || (not bound && is_free x s v) || free_among false x s ts

-- the assignments give the free names of the tree the same values
abbrev pub AgreeOn : Tree → Values → Values → Type 0
AgreeOn t env env' = (x : List ℕ) (s : Sort) → is_free x s t ≡ true → value_of env x s ≡ value_of env' x s

-- The meaning depends on the free names alone.
abbrev pub MeaningOfFreeNames : Type 0
MeaningOfFreeNames = (w : World) (t : Tree) (env env' : Values) → AgreeOn t env env' → meaning w env t ≡ meaning w env' t
