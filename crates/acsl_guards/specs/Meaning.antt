-- What a quantifier over integers says, and what it says over the ranges of its guards (ACSL 2.2).
use Rattle.std.specs.Prelude.{◌≡◌, ℕ, ℤ, int_le, int_lt, ◌+◌, ◌-◌, Bool, true, false, not, ◌&&◌, ◌||◌, List, [], ◌∷◌, length, Option, Some, None, slice_get, if◌then◌else◌, ◌↔◌}
use Rattle.std.specs.List.{list_all, zip}
use Rattle.std.specs.Str.{bytes_eq}
use Rattle.c_syntax.specs.declared.expr.BinOp.{BinOp}
use Rattle.c_syntax.specs.declared.expr.BinOp.TheVariants as op
use Rattle.c_syntax.specs.Expr as e
use Rattle.c_syntax.specs.Term as t
use Rattle.c_syntax.specs.Pred as p
use Rattle.acsl_guards.specs.Mentions.{Names, is_among, names_of, mentions}
use Rattle.acsl_guards.specs.Chains.{is_guard}
use Rattle.acsl_guards.specs.Guarding.{guarding, guards, is_integer, is_range}
use Rattle.acsl_guards.specs.declared.ranges.Guard.{Guard}

-- ---- values of terms, and what predicates say

abbrev pub Valuation : Type 0
Valuation = List ℕ → ℤ

abbrev pub put : List ℕ → ℤ → Valuation → Valuation
put x z v = λ y. if bytes_eq y x then z else v y

abbrev pub compare : BinOp → ℤ → ℤ → Bool
compare op.Less a b = int_lt a b
compare op.AtMost a b = int_le a b
compare op.Greater a b = int_lt b a
compare op.AtLeast a b = int_le b a
compare o a b = false

-- each two neighbours compare
abbrev pub chained : (t.Term → ℤ) → List t.Term → List BinOp → Bool
chained value (a ∷ b ∷ ts) (o ∷ os) = compare o (value a) (value b) && chained value (b ∷ ts) os
chained value ts os = true

abbrev pub Value : Type 0
Value = Valuation → t.Term → ℤ

-- Any meaning of terms and predicates under a quantifier with these binders: a binder's name has its value, a term has its value by the names that
-- stand in it, `&&` and `==>` mean what they do, and a chain that is a guard says that each two neighbours compare.
pub record Meaning (bs : Names) : Type 0 where
  pub value : Value
  pub holds : Valuation → p.Pred → Bool
  pub name_is : (v : Valuation) (line : ℕ) (x : List ℕ) → is_among bs x ≡ true → value v (t.name line x) ≡ v x
  pub by_names : (v w : Valuation) (a : t.Term) → ((x : List ℕ) → mentions x a ≡ true → v x ≡ w x) → value v a ≡ value w a
  pub and_is : (v : Valuation) (line : ℕ) (a b : p.Pred) → holds v (p.and_of line a b) ≡ (holds v a && holds v b)
  pub implies_is : (v : Valuation) (line : ℕ) (a b : p.Pred) → holds v (p.implies line a b) ≡ (not (holds v a) || holds v b)
  pub chain_is : (v : Valuation) (line : ℕ) (ts : List t.Term) (os : List BinOp) → is_guard bs ts os ≡ true → holds v (p.chain line ts os) ≡ chained (value v) ts os

-- ---- ranges

abbrev pub below : (strict : Bool) → ℤ → ℤ → Bool
below true a b = int_lt a b
below false a b = int_le a b

-- the terms of a conjunct that is a chain
abbrev pub chain_terms : Option p.Pred → List t.Term
chain_terms (Some (p.chain line ts os)) = ts
chain_terms a = []

-- z is in the range between these ends
abbrev pub between_ends : Value → Valuation → Guard → Option t.Term → Option t.Term → ℤ → Bool
between_ends value v g None high z = false
between_ends value v g (Some low) None z = false
between_ends value v g (Some low) (Some high) z = below g.low_strict (value v low) z && below g.high_strict z (value v high)

abbrev pub ends_at : Value → Valuation → Guard → List t.Term → ℤ → Bool
ends_at value v g ts z = between_ends value v g (slice_get ts (if g.descending then length ts - 1 else 0)) (slice_get ts (if g.descending then 0 else length ts - 1)) z

-- z is in the range that the guard gives
abbrev pub in_range : Value → List p.Pred → Valuation → Guard → ℤ → Bool
in_range value cs v g z = ends_at value v g (chain_terms (slice_get cs g.conjunct)) z

-- ---- quantifiers

abbrev pub Binder : Type 0
Binder = e.VarDecl × Option Guard

-- whether a binder may have a value, under the values of the binders before it
abbrev pub May : Type 0
May = Valuation → Binder → ℤ → Bool

abbrev pub ForEach : May → List Binder → Valuation → (Valuation → Type 0) → Type 0
ForEach may [] v P = P v
ForEach may (b ∷ bs) v P = (z : ℤ) → may v b z ≡ true → ForEach may bs (put b.0.name z v) P

abbrev pub ForSome : May → List Binder → Valuation → (Valuation → Type 0) → Type 0
ForSome may [] v P = P v
ForSome may (b ∷ bs) v P = (z : ℤ) × (may v b z ≡ true) × ForSome may bs (put b.0.name z v) P

-- all integers for binders of type `integer`; `other` says which are values of another type
abbrev pub any_value : (other : e.VarDecl → ℤ → Bool) → May
any_value other v b z = is_integer b.0.ty || other b.0 z

abbrev pub by_guard : Value → List p.Pred → (other : e.VarDecl → ℤ → Bool) → Valuation → Binder → ℤ → Option Guard → Bool
by_guard value cs other v b z None = any_value other v b z
by_guard value cs other v b z (Some g) = in_range value cs v g z

-- those of its range where it has a guard
abbrev pub ranged : Value → List p.Pred → (other : e.VarDecl → ℤ → Bool) → May
ranged value cs other v b z = by_guard value cs other v b z b.1

abbrev pub distinct : Names → Bool
distinct [] = true
distinct (x ∷ xs) = not (is_among xs x) && distinct xs

-- the binders with their guards
abbrev pub binders : (for_all : Bool) → List e.VarDecl → p.Pred → List Binder
binders for_all bs body = zip bs (guards for_all bs body)

-- ---- the laws

-- The universal quantifier over all integers is the one over the ranges of the guards. (A binder without a guard has all values of its type in both.)
abbrev pub AllInRanges : Type 0
AllInRanges = (bs : List e.VarDecl) (body : p.Pred) (m : Meaning (names_of bs)) (other : e.VarDecl → ℤ → Bool) (v : Valuation)
    → distinct (names_of bs) ≡ true
    → ForEach (any_value other) (binders true bs body) v (λ w. m.holds w body ≡ true)
    ↔ ForEach (ranged m.value (guarding true body) other) (binders true bs body) v (λ w. m.holds w body ≡ true)

-- The same of the existential one.
abbrev pub SomeInRanges : Type 0
SomeInRanges = (bs : List e.VarDecl) (body : p.Pred) (m : Meaning (names_of bs)) (other : e.VarDecl → ℤ → Bool) (v : Valuation)
    → distinct (names_of bs) ≡ true
    → ForSome (any_value other) (binders false bs body) v (λ w. m.holds w body ≡ true)
    ↔ ForSome (ranged m.value (guarding false body) other) (binders false bs body) v (λ w. m.holds w body ≡ true)

-- the conjuncts from n on, without those that the ranges say
abbrev pub others : List (Option Guard) → ℕ → List p.Pred → List p.Pred
others gs n [] = []
others gs n (a ∷ cs) = if is_range gs n then others gs (n + 1) cs else a ∷ others gs (n + 1) cs

pub record SaidByRanges (holds : p.Pred → Bool) (gs : List (Option Guard)) (cs : List p.Pred) : Type 0 where
  pub true_there : (n : ℕ) (a : p.Pred) → is_range gs n ≡ true → slice_get cs n ≡ Some a → holds a ≡ true
  pub same : list_all holds (others gs 0 cs) ≡ list_all holds cs

-- Inside the ranges a guard in which its binder stands alone is true, so the other conjuncts say the same as all.
abbrev pub RangesSayChains : Type 0
RangesSayChains = (for_all : Bool) (bs : List e.VarDecl) (body : p.Pred) (m : Meaning (names_of bs)) (other : e.VarDecl → ℤ → Bool) (v : Valuation)
    → distinct (names_of bs) ≡ true
    → ForEach (ranged m.value (guarding for_all body) other) (binders for_all bs body) v (λ w. SaidByRanges (m.holds w) (guards for_all bs body) (guarding for_all body))
