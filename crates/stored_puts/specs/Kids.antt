-- What becomes of a node's kids where a term is put in the places of a variable, one after another.
use Rattle.std.specs.Prelude.{ℕ, zero, suc, Bool, true, false, not, ◌&&◌, ◌||◌, if◌then◌else◌, List, [], ◌∷◌}
use Rattle.std.specs.Str.{bytes_eq}
use Rattle.qed_terms.specs.declared.head.Sort.{Sort}
use Rattle.qed_terms.specs.declared.head.Sort.TheVariants as sort
use Rattle.qed_terms.specs.declared.head.Head.{Head}
use Rattle.qed_terms.specs.declared.head.Head.TheVariants as h
use Rattle.qed_terms.specs.Free.{is_free}
use Rattle.qed_terms.specs.Tree.{Tree}
use Rattle.qed_substitution.specs.Substitution.{is_clear}
use Rattle.branch_changes.specs.MemoryNames.{is_clear_memory}
use Rattle.branch_changes.specs.Givens.{put_at}

-- a term may be put at such a head: the variable is one of integers or of memories
abbrev pub is_place : Sort → List ℕ → Head → Bool
is_place sort.Int x (h.Var y sort.Int) = bytes_eq x y
is_place sort.Memory x (h.Var y sort.Memory) = bytes_eq x y
is_place s x head = false

-- a quantifier's body is its third kid
abbrev pub is_third : ℕ → Bool
is_third zero = false
is_third (suc zero) = false
is_third (suc (suc zero)) = true
is_third (suc (suc (suc n))) = false

abbrev pub is_body : (quantified : Bool) → ℕ → Bool
is_body quantified at = quantified && is_third at

-- the head is a quantifier over a name of the term
abbrev pub covers : Tree → Head → Bool
covers u (h.Forall y) = is_free y sort.Int u
covers u (h.Exists y) = is_free y sort.Int u
covers u head = false

-- ---- free names: in one of the kids from a place on, where the body is left out if the name is bound

abbrev pub kids_free : List ℕ → Sort → (bound : Bool) → ℕ → List Tree → Bool
kids_free x s bound at [] = false
kids_free x s bound at (t ∷ ts) = (not (is_body bound at) && is_free x s t) || kids_free x s bound (suc at) ts

-- ---- where it may be put

-- no quantifier around a place of the variable binds a name of the term; that one around the tree does is said by `under`
abbrev pub clear_at : Sort → (under : Bool) → List ℕ → Tree → Tree → Bool
clear_at sort.Int under x u t = is_clear under x u t
clear_at sort.Memory under x u t = is_clear_memory under x u t
clear_at sort.Table under x u t = true

abbrev pub kids_clear : (Bool → Tree → Bool) → (under bound covered : Bool) → ℕ → List Tree → Bool
kids_clear clear under bound covered at [] = true
kids_clear clear under bound covered at (t ∷ ts) = (is_body bound at || clear (is_body covered at || under) t) && kids_clear clear under bound covered (suc at) ts

-- ---- put

abbrev pub kid_put : Sort → List ℕ → Tree → (kept : Bool) → Tree → Tree
kid_put s x u kept t = if kept then t else put_at s x u t

abbrev pub kids_put : Sort → List ℕ → Tree → (bound : Bool) → ℕ → List Tree → List Tree
kids_put s x u bound at [] = []
kids_put s x u bound at (t ∷ ts) = kid_put s x u (is_body bound at) t ∷ kids_put s x u bound (suc at) ts
