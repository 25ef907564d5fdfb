-- Which conjunct gives a binder its range, as a relation (ACSL 2.2).
use Rattle.std.specs.Prelude.{◌≡◌, ℕ, ◌<◌, ◌≤◌, ◌-◌, suc, Bool, true, false, List, length, Option, Some, None, slice_get, ◌⊎◌}
use Rattle.c_syntax.specs.declared.expr.BinOp.{BinOp}
use Rattle.c_syntax.specs.Expr as e
use Rattle.c_syntax.specs.Term as t
use Rattle.c_syntax.specs.Pred as p
use Rattle.acsl_guards.specs.Mentions.{Names, names_of, mentions}
use Rattle.acsl_guards.specs.Chains.{rises, falls, between}
use Rattle.acsl_guards.specs.Guarding.{guarding, guard_of, guards}
use Rattle.acsl_guards.specs.declared.ranges.Guard.{Guard}

abbrev pub IsIn : {X : Type 0} → X → List X → Type 0
IsIn x xs = (i : ℕ) × (slice_get xs i ≡ Some x)

-- the plain name x stands between the ends
abbrev pub StandsBetween : List ℕ → List t.Term → Type 0
StandsBetween x ts = (line : ℕ) × IsIn (t.name line x) (between ts)

abbrev pub IsEnd : t.Term → List t.Term → Type 0
IsEnd a ts = (slice_get ts 0 ≡ Some a) ⊎ (slice_get ts (length ts - 1) ≡ Some a)

-- each operator is one of these
abbrev pub AllAre : (BinOp → Bool) → List BinOp → Type 0
AllAre q os = (o : BinOp) → IsIn o os → q o ≡ true

-- a plain name, that of a binder
abbrev pub IsBinder : Names → t.Term → Type 0
IsBinder bs a = (line : ℕ) × (x : List ℕ) × (a ≡ t.name line x) × IsIn x bs

pub record IsGuard (bs : Names) (ts : List t.Term) (os : List BinOp) : Type 0 where
  pub long : 3 ≤ length ts
  pub fits : length ts ≡ suc (length os)
  pub one_way : AllAre rises os ⊎ AllAre falls os
  pub inside : (a : t.Term) → IsIn a (between ts) → IsBinder bs a
  -- no end holds a binder that stands between the ends, or one that comes behind such a binder
  pub free : (i j : ℕ) (x y : List ℕ) → i ≤ j → slice_get bs i ≡ Some x → slice_get bs j ≡ Some y → StandsBetween x ts
      → (a : t.Term) → IsEnd a ts → mentions y a ≡ false

-- the conjunct n gives the binder x its range
pub record GuardsAt (bs : Names) (x : List ℕ) (cs : List p.Pred) (n : ℕ) : Type 0 where
  pub line : ℕ
  pub terms : List t.Term
  pub ops : List BinOp
  pub is : slice_get cs n ≡ Some (p.chain line terms ops)
  pub guards : IsGuard bs terms ops
  pub stands : StandsBetween x terms

-- this guard is the first
pub record IsFirst (bs : Names) (x : List ℕ) (cs : List p.Pred) (g : Guard) : Type 0 where
  pub at : GuardsAt bs x cs g.conjunct
  pub told : g ≡ guard_of g.conjunct at.terms at.ops
  pub first : (n : ℕ) → n < g.conjunct → GuardsAt bs x cs n → ⊥

abbrev pub IsGuardOf : (bs : Names) → e.VarDecl → List p.Pred → Option Guard → Type 0
IsGuardOf bs b cs None = b.ty ≡ e.integer → (n : ℕ) → GuardsAt bs b.name cs n → ⊥
IsGuardOf bs b cs (Some g) = (b.ty ≡ e.integer) × IsFirst bs b.name cs g

-- A binder has a guard exactly where it is of type `integer` and some conjunct gives it its range, and then it is the first such conjunct.
abbrev pub GuardsAreFirst : Type 0
GuardsAreFirst = (for_all : Bool) (bs : List e.VarDecl) (body : p.Pred) (i : ℕ) (b : e.VarDecl) (o : Option Guard)
    → slice_get bs i ≡ Some b → slice_get (guards for_all bs body) i ≡ Some o → IsGuardOf (names_of bs) b (guarding for_all body) o
