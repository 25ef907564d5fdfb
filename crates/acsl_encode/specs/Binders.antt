-- Names of binders (ACSL 2.2): a name as it is spelled, `!`, and how often it was bound in the clause so far. No other name has a `!`.
use Rattle.std.specs.Prelude.{◌≡◌, ℕ, zero, suc, ◌≤◌, true, if◌then◌else◌, List, [], ◌∷◌, ◌++◌, slice_index_or}
use Rattle.std.specs.Str.{bytes_eq}
use Rattle.qed_terms.specs.declared.head.Sort.{Sort}
use Rattle.qed_terms.specs.Fresh.{Lacks, numeral}
use Rattle.qed_terms.specs.Free.{is_free}
use Rattle.qed_terms.specs.Tree.{Tree as Term}
use Rattle.qed_terms.specs.Meaning.{Values}

abbrev pub Binders : Type 0
Binders = (number : ℕ) → List ℕ

-- the code of `!`
abbrev pub mark : ℕ
mark = 33

-- the names of a clause's binders as they are spelled, in the order of the text
abbrev pub Spelled : Type 0
Spelled = List (List ℕ)

abbrev pub spelled_at : Spelled → (number : ℕ) → List ℕ
spelled_at names n = slice_index_or names n []

-- how many of the first ones have this name
abbrev pub bound_before : Spelled → List ℕ → (number : ℕ) → ℕ
bound_before names x zero = 0
bound_before names x (suc n) = if bytes_eq (spelled_at names n) x then suc (bound_before names x n) else bound_before names x n

abbrev pub binder_name : (base : List ℕ) → (n : ℕ) → List ℕ
binder_name base n = base ++ mark ∷ numeral n

unfoldable pub numbered : Spelled → Binders
numbered names n = binder_name (spelled_at names n) (suc (bound_before names (spelled_at names n) n))

-- ---- what is so of them

-- each binder of a clause has a name of its own
abbrev pub Differ : Binders → Type 0
Differ b = (i j : ℕ) → b i ≡ b j → i ≡ j

abbrev pub AllLack : Spelled → Type 0
AllLack [] = Unit {0}
AllLack (x ∷ xs) = Lacks mark x × AllLack xs

-- no free name of the term has a `!`
abbrev pub IsUnmarked : Term → Type 0
IsUnmarked t = (x : List ℕ) (s : Sort) → is_free x s t ≡ true → Lacks mark x

-- the second one differs at most at the names of binders with numbers from `next` on
pub record Later (b : Binders) (next : ℕ) (env env' : Values) : Type 0 where
  pub ints : (x : List ℕ) → ((n : ℕ) → next ≤ n → b n ≡ x → ⊥) → env'.ints x ≡ env.ints x
  pub memories : (x : List ℕ) → env'.memories x ≡ env.memories x
  pub tables : (x : List ℕ) → env'.tables x ≡ env.tables x

abbrev pub BindersDiffer : Type 0
BindersDiffer = (names : Spelled) → AllLack names → Differ (numbered names)
