-- Settings, and the values of the recursive logic functions in them.
use Rattle.std.specs.Prelude.{◌≡◌, ℕ, zero, suc, ◌-◌, ◌^◌, ◌==◌, Bool, true, false, not, ◌&&◌, ◌||◌, if◌then◌else◌, ℤ, pos, negsuc, ◌-ℤ◌, int_le, List, [], ◌∷◌, ◌++◌, slice_get, Option, Some, None}
use Rattle.std.specs.Str.{bytes_eq}
use Rattle.std.specs.List.{list_all, list_any}
use Rattle.qed_terms.specs.declared.head.Sort.{Sort}
use Rattle.qed_terms.specs.declared.head.Sort.TheVariants as sort
use Rattle.qed_terms.specs.declared.head.Head.{Head}
use Rattle.qed_terms.specs.declared.head.Head.TheVariants as h
use Rattle.qed_terms.specs.declared.head.TermOp.TheVariants as op
use Rattle.wp_base.specs.Blocks.{Table, len, to_nat}
use Rattle.qed_terms.specs.Operators.{is_equal}
use Rattle.qed_terms.specs.Meaning.{Value, Whole, Truth, Cells, Blocks, whole, Values, with_int, World, value, truth}
use Rattle.qed_terms.specs.Names.{is_name, is_memory_name}
use Rattle.qed_terms.specs.WellFormed.{int, fits, same_sort}
use Rattle.qed_terms.specs.Tree.{Tree, node, Trees, stop, more}

-- a name with its sort
pub record Param : Type 0 where
  pub name : List ℕ
  pub sort : Sort

-- A recursive logic function: `base` where the integer at the place `number` is at most `cut`, and else `step`, which uses the
-- function itself with that integer one less (ACSL 2.6.3).
pub record Logic : Type 0 where
  pub name : List ℕ
  pub params : List Param
  pub number : ℕ
  pub cut : ℤ
  pub base : Tree
  pub step : Tree

-- the width of `long`, and the functions, each after those that it uses
pub record Setting : Type 0 where
  pub long_bits : ℕ
  pub logic : List Logic

-- ---- values of the functions

abbrev pub Apps : Type 0
Apps = List ℕ → List Value → ℤ

abbrev pub has_sort : Sort → Value → Bool
has_sort sort.Int (Whole z) = true
has_sort sort.Memory (Cells m) = true
has_sort sort.Table (Blocks t) = true
has_sort s v = false

-- as many values as parameters, of their sorts
abbrev pub are_arguments : List Param → List Value → Bool
are_arguments [] [] = true
are_arguments [] (v ∷ vs) = false
are_arguments (p ∷ ps) [] = false
are_arguments (p ∷ ps) (v ∷ vs) = has_sort p.sort v && are_arguments ps vs

abbrev pub with_value : Values → Param → Value → Values
with_value env p (Whole z) = with_int env p.name z
with_value env p (Cells m) = record { ints = env.ints; memories = λ y. if bytes_eq y p.name then m else env.memories y; tables = env.tables }
with_value env p (Blocks t) = record { ints = env.ints; memories = env.memories; tables = λ y. if bytes_eq y p.name then t else env.tables y }
with_value env p (Truth b) = env

abbrev pub nothing : Values
nothing = record { ints = λ x. pos 0; memories = λ x. []; tables = λ x. [] }

-- the parameters' values
abbrev pub bound : List Param → List Value → Values
bound [] vs = nothing
bound (p ∷ ps) [] = nothing
bound (p ∷ ps) (v ∷ vs) = with_value (bound ps vs) p v

abbrev pub argument_at : List Value → ℕ → ℤ
argument_at [] n = pos 0
argument_at (v ∷ vs) zero = whole v
argument_at (v ∷ vs) (suc n) = argument_at vs n

abbrev pub uses : Logic → List ℕ → List Value → Bool
uses f x vs = bytes_eq x f.name && are_arguments f.params vs

-- the function by this, and all others as before
abbrev pub with_function : Apps → Logic → (List Value → ℤ) → Apps
with_function known f own x vs = if uses f x vs then own vs else known x vs

-- The value of the function so many steps above its cut, computed downwards.
unfoldable pub descend : ℕ → Apps → Logic → (steps : ℕ) → List Value → ℤ
descend bits known f zero vs = value (record { long_bits = bits; apps = known }) (bound f.params vs) f.base
descend bits known f (suc n) vs = value (record { long_bits = bits; apps = with_function known f (descend bits known f n) }) (bound f.params vs) f.step

abbrev pub steps_of : Logic → List Value → ℕ
steps_of f vs = to_nat (argument_at vs f.number -ℤ f.cut)

abbrev pub after : ℕ → Apps → Logic → Apps
after bits known f = with_function known f (λ vs. descend bits known f (steps_of f vs) vs)

abbrev pub apps_from : ℕ → Apps → List Logic → Apps
apps_from bits known [] = known
apps_from bits known (f ∷ fs) = apps_from bits (after bits known f) fs

-- 0 where no function of the name takes the arguments
abbrev pub no_apps : Apps
no_apps x vs = pos 0

unfoldable pub world_of : Setting → World
world_of s = record { long_bits = s.long_bits; apps = apps_from s.long_bits no_apps s.logic }

-- ---- regular settings

abbrev pub sort_of_name : List ℕ → Sort
sort_of_name x = if is_memory_name x then sort.Memory else sort.Int

abbrev pub is_param : Param → Bool
is_param p = is_name p.name && same_sort p.sort (sort_of_name p.name)

abbrev pub same_param : Param → Param → Bool
same_param p q = bytes_eq p.name q.name && same_sort p.sort q.sort

abbrev pub all_differ : {A : Type 0} → (A → A → Bool) → List A → Bool
all_differ same [] = true
all_differ same (x ∷ xs) = not (list_any (same x) xs) && all_differ same xs

abbrev pub is_int_param : Option Param → Bool
is_int_param None = false
is_int_param (Some p) = same_sort p.sort sort.Int

-- the sort of a term, by its head
abbrev pub sort_of : Tree → Sort
sort_of (node (h.Var x s) ts) = s
sort_of (node (h.Term op.Store) ts) = sort.Memory
sort_of (node (h.Term (op.Alloc layout)) ts) = sort.Table
sort_of (node (h.Term op.Grow) ts) = sort.Table
sort_of t = sort.Int

-- as many kids as parameters, of their sorts
abbrev pub kids_match : List Param → Trees → Bool
kids_match [] stop = true
kids_match [] (more t ts) = false
kids_match (p ∷ ps) stop = false
kids_match (p ∷ ps) (more t ts) = same_sort p.sort (sort_of t) && kids_match ps ts

abbrev pub takes : List ℕ → Trees → Logic → Bool
takes x ts f = bytes_eq x f.name && kids_match f.params ts

-- `(- n 1)` or `(+ n -1)` of this name n
abbrev pub is_one_less : List ℕ → Tree → Bool
is_one_less n (node (h.Term op.Sub) (more (node (h.Var x sort.Int) stop) (more (node (h.Num z) stop) stop))) = bytes_eq x n && is_equal z (pos 1)
is_one_less n (node (h.Term op.Add) (more (node (h.Var x sort.Int) stop) (more (node (h.Num z) stop) stop))) = bytes_eq x n && is_equal z (negsuc 0)
is_one_less n t = false

abbrev pub kid_at : (Tree → Bool) → Trees → ℕ → Bool
kid_at test stop n = false
kid_at test (more t ts) zero = test t
kid_at test (more t ts) (suc n) = kid_at test ts n

abbrev pub name_of : Option Param → List ℕ
name_of None = []
name_of (Some p) = p.name

-- the function itself, one step further down
abbrev pub goes_down : Logic → List ℕ → Trees → Bool
goes_down f x ts = takes x ts f && kid_at (is_one_less (name_of (slice_get f.params f.number))) ts f.number

-- a use of another function, by the rule for it; a name that is a parameter; no quantifier
abbrev pub keeps : List Param → (List ℕ → Trees → Bool) → Head → Trees → Bool
keeps params allowed (h.Var x s) ts = list_any (same_param (record { name = x; sort = s })) params
keeps params allowed (h.App x) ts = allowed x ts
keeps params allowed (h.Forall x) ts = false
keeps params allowed (h.Exists x) ts = false
keeps params allowed head ts = true

abbrev mutual
  pub is_plain : List Param → (List ℕ → Trees → Bool) → Tree → Bool
  is_plain params allowed (node head ts) = keeps params allowed head ts && are_plain params allowed ts

  pub are_plain : List Param → (List ℕ → Trees → Bool) → Trees → Bool
  are_plain params allowed stop = true
  are_plain params allowed (more t ts) = is_plain params allowed t && are_plain params allowed ts

abbrev pub is_body : List Param → (List ℕ → Trees → Bool) → Tree → Bool
is_body params allowed t = fits int t && is_plain params allowed t

-- one of the functions takes these kids
abbrev pub some_takes : List Logic → List ℕ → Trees → Bool
some_takes fs x ts = list_any (takes x ts) fs

-- the function is regular after these
abbrev pub is_regular_after : List Logic → Logic → Bool
is_regular_after before f =
    is_name f.name && not (list_any (λ (g : Logic). bytes_eq g.name f.name) before)
    && list_all is_param f.params && all_differ same_param f.params && is_int_param (slice_get f.params f.number)
    && is_body f.params (some_takes before) f.base
    && is_body f.params (λ x ts. some_takes before x ts || goes_down f x ts) f.step

abbrev pub are_regular_after : List Logic → List Logic → Bool
are_regular_after before [] = true
are_regular_after before (f ∷ fs) = is_regular_after before f && are_regular_after (before ++ f ∷ []) fs

unfoldable pub is_regular : Setting → Bool
is_regular s = (s.long_bits == 32 || s.long_bits == 64) && are_regular_after [] s.logic

-- ---- valid

abbrev pub cells_at_most : ℕ → Table → Type 0
cells_at_most n t = (b : ℤ) → int_le (len t b) (pos n) ≡ true

-- no block of a table has more cells than pointer differences can tell (C11 6.5.6p9)
abbrev pub IsBounded : ℕ → Values → Type 0
IsBounded long_bits env = (x : List ℕ) → cells_at_most (2 ^ (long_bits - 1) - 1) (env.tables x)

-- true under every assignment of values of the right sorts
abbrev pub Valid : Setting → Tree → Type 0
Valid s f = (env : Values) → IsBounded s.long_bits env → truth (world_of s) env f ≡ true
