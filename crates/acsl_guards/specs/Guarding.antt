-- Which chain gives a binder its range (ACSL 2.2): the first among the conjuncts of what stands before `==>` in a universal quantifier, and
-- among those of the body of an existential one.
use Rattle.std.specs.Prelude.{ℕ, Bool, true, false, ◌&&◌, ◌==◌, ◌+◌, ◌-◌, List, [], ◌∷◌, ◌++◌, map, length, Option, Some, None, if◌then◌else◌}
use Rattle.std.specs.List.{list_all, list_any}
use Rattle.c_syntax.specs.declared.expr.BinOp.{BinOp}
use Rattle.c_syntax.specs.Expr as e
use Rattle.c_syntax.specs.Term as t
use Rattle.c_syntax.specs.Pred as p
use Rattle.acsl_guards.specs.Mentions.{Names, names_of}
use Rattle.acsl_guards.specs.Chains.{falls, strict_at, between, stands_in, is_guard}
use Rattle.acsl_guards.specs.declared.ranges.Guard.{Guard}

-- ---- conjuncts

-- what stands on both sides of `&&`
abbrev pub sides : p.Pred → Option (p.Pred × p.Pred)
sides (p.and_of line a b) = Some (a, b)
sides a = None

-- the operands of nested `&&`, from the left
abbrev pub conjuncts : p.Pred → List p.Pred
conjuncts (p.and_of line a b) = conjuncts a ++ conjuncts b
conjuncts a = a ∷ []

-- what stands before `==>`
abbrev pub premise : p.Pred → Option p.Pred
premise (p.implies line a b) = Some a
premise a = None

abbrev pub conjuncts_of : Option p.Pred → List p.Pred
conjuncts_of None = []
conjuncts_of (Some a) = conjuncts a

-- among these the guards stand
abbrev pub guarding : (for_all : Bool) → p.Pred → List p.Pred
guarding true a = conjuncts_of (premise a)
guarding false a = conjuncts a

-- ---- guards

-- a guard, and the names between its ends
abbrev pub Candidate : Type 0
Candidate = Guard × List t.Term

-- what a chain says as a guard, the conjunct n
abbrev pub guard_of : ℕ → List t.Term → List BinOp → Guard
guard_of n ts os = record {
  conjunct = n;
  descending = list_all falls os;
  low_strict = strict_at os (if list_all falls os then length os - 1 else 0);
  high_strict = strict_at os (if list_all falls os then 0 else length os - 1);
  alone = length ts == 3;
}

abbrev pub chain_of : p.Pred → Option (List t.Term × List BinOp)
chain_of (p.chain line ts os) = Some (ts, os)
chain_of a = None

abbrev pub if_guard : (binders : Names) → ℕ → Option (List t.Term × List BinOp) → List Candidate
if_guard bs n None = []
if_guard bs n (Some c) = if is_guard bs c.0 c.1 then (guard_of n c.0 c.1, between c.0) ∷ [] else []

-- the guards among conjuncts, of which the first is the conjunct n
abbrev pub candidates : (binders : Names) → ℕ → List p.Pred → List Candidate
candidates bs n [] = []
candidates bs n (a ∷ rest) = if_guard bs n (chain_of a) ++ candidates bs (n + 1) rest

-- of several the first
abbrev pub first_with : List ℕ → List Candidate → Option Guard
first_with x [] = None
first_with x (c ∷ cs) = if stands_in x c.1 then Some c.0 else first_with x cs

abbrev pub is_integer : e.CType → Bool
is_integer e.integer = true
is_integer type = false

abbrev pub guard_for : List Candidate → e.VarDecl → Option Guard
guard_for cs b = if is_integer b.ty then first_with b.name cs else None

-- for each binder its guard
abbrev pub guards : (for_all : Bool) → (binders : List e.VarDecl) → p.Pred → List (Option Guard)
guards for_all bs body = map (guard_for (candidates (names_of bs) 0 (guarding for_all body))) bs

-- ---- conjuncts that the ranges say

abbrev pub stands_alone : ℕ → Option Guard → Bool
stands_alone n None = false
stands_alone n (Some g) = g.alone && (g.conjunct == n)

-- the conjunct n is the guard of a binder that stands alone in it
abbrev pub is_range : List (Option Guard) → ℕ → Bool
is_range gs n = list_any (stands_alone n) gs
