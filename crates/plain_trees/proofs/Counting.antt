-- Kids, and the names around.
use Rattle.std.proofs.Common.{◌≡◌, ◌<◌, ◌≤◌, ◌⊎◌, inl, inr, ℕ, zero, suc, ◌+◌, ◌==◌, Bool, true, false, ltb, leb, eqb, ◌&&◌, if◌then◌else◌, List, [], ◌∷◌, length, refl, sym, ap, ◌∙◌, arith}
use Rattle.std.specs.Prelude.{nat_lt, nat_le}
use Rattle.std.proofs.lemmas.Bool.{leb-true, leb-false, lt-ltb, le-leb, lt-leb, cases_Bool}
use Rattle.std.proofs.lemmas.Bool.Decides.{nat_tests}
use Rattle.acsl_trees.specs.declared.tree.Tree.{Tree as Code}
use Rattle.acsl_trees.specs.Tree.{trees_of, view_trees}
use Rattle.plain_annotations.specs.Plain.{has, counts}
use Rattle.plain_trees.specs.Around.{Reaches}

-- ---- kids

one_less : (n k : ℕ) → nat_le (suc n) (suc k) ≡ nat_le n k
one_less n k = grind (arith, nat_tests)

pub has_is : (n : ℕ) (ks : List Code) → nat_le n (length ks) ≡ has n (trees_of (view_trees ks))
has_is zero ks = le-leb 0 (length ks) (omega arith)
has_is (suc n) [] = lt-leb (suc n) 0 (omega arith)
has_is (suc n) (k ∷ ks) = one_less n (length ks) ∙ has_is n ks

same_less : (n k : ℕ) → (suc n == suc k) ≡ (n == k)
same_less n k = grind (arith, nat_tests)

some_kids : (n : ℕ) → (suc n == 0) ≡ false
some_kids n = grind (arith, nat_tests)

no_kids : (n : ℕ) → (0 == suc n) ≡ false
no_kids n = grind (arith, nat_tests)

pub counts_is : (n : ℕ) (ks : List Code) → (length ks == n) ≡ counts n (trees_of (view_trees ks))
counts_is zero [] = refl
counts_is zero (k ∷ ks) = some_kids (length ks)
counts_is (suc n) [] = no_kids n
counts_is (suc n) (k ∷ ks) = same_less (length ks) n ∙ counts_is n ks

-- ---- names

pub name_is : (b : Bool) (x n d : ℕ) → b ≡ nat_lt x n → x < 4294967296 → Reaches n d → b ≡ nat_lt x d
name_is b x n d is small (inl e) = is ∙ ap (nat_lt x) e
name_is b x n d is small (inr h) = is ∙ lt-ltb x n (omega (arith, small, h.0)) ∙ sym (lt-ltb x d (omega (arith, small, h.1)))

pub ruleset name_laws = (name_is)

pub none_around : Reaches 0 0
none_around = inl refl

pub one_more : (n d : ℕ) → n < 4294967296 → Reaches n d → Reaches (n + 1) (suc d)
one_more n d small (inl e) = inl (omega (arith, e))
one_more n d small (inr h) = absurd (omega (arith, small, h.0))

pub many : (n d : ℕ) → 4294967296 ≤ n → Reaches n d → Reaches n (suc d)
many n d large (inl e) = inr (large, omega (arith, large, e))
many n d large (inr h) = inr (large, omega (arith, h.1))

pub ruleset around_laws = (one_more, many)

-- a name is bound in the last kid of a binder
pub bound_kid : (u v : Bool) (n d : ℕ) → u ≡ true → v ≡ true → Reaches n (suc d) → Reaches n (if u && v then suc d else d)
bound_kid true true n d e f h = h
bound_kid true false n d e f h = absurd cc
bound_kid false v n d e f h = absurd cc
