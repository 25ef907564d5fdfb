-- Chains of comparisons that give binders a range (ACSL 2.2).
use Rattle.std.specs.Prelude.{ℕ, Bool, true, false, not, ◌&&◌, ◌||◌, ◌==◌, ◌-◌, suc, List, [], ◌∷◌, length, Option, Some, None, nat_le, if◌then◌else◌}
use Rattle.std.specs.List.{list_all, list_any, slice_get, slice_range}
use Rattle.c_syntax.specs.declared.expr.BinOp.{BinOp}
use Rattle.c_syntax.specs.declared.expr.BinOp.TheVariants as op
use Rattle.c_syntax.specs.Term as t
use Rattle.acsl_guards.specs.Mentions.{Names, is_name, is_one_of, holds_one}

-- ---- comparisons

abbrev pub rises : BinOp → Bool
rises op.Less = true
rises op.AtMost = true
rises o = false

abbrev pub falls : BinOp → Bool
falls op.Greater = true
falls op.AtLeast = true
falls o = false

abbrev pub is_strict : BinOp → Bool
is_strict op.Less = true
is_strict op.Greater = true
is_strict o = false

-- all in one direction
abbrev pub one_way : List BinOp → Bool
one_way os = list_all rises os || list_all falls os

abbrev pub strict_of : Option BinOp → Bool
strict_of None = false
strict_of (Some o) = is_strict o

abbrev pub strict_at : List BinOp → ℕ → Bool
strict_at os i = strict_of (slice_get os i)

-- ---- terms

-- the terms between the ends
abbrev pub between : List t.Term → List t.Term
between ts = slice_range ts 1 (length ts - 1)

-- the name stands alone as one of these terms
abbrev pub stands_in : List ℕ → List t.Term → Bool
stands_in x ts = list_any (is_name x) ts

-- the binders from the first on that stands between the ends
abbrev pub from_first : List t.Term → Names → Names
from_first ts [] = []
from_first ts (x ∷ xs) = if stands_in x ts then x ∷ xs else from_first ts xs

abbrev pub end_holds : Names → Option t.Term → Bool
end_holds xs None = false
end_holds xs (Some a) = holds_one xs a

-- neither end holds one of these names
abbrev pub ends_free : Names → List t.Term → Bool
ends_free xs ts = not (end_holds xs (slice_get ts 0)) && not (end_holds xs (slice_get ts (length ts - 1)))

-- ---- guards

-- at least three terms, comparisons in one direction, and binders alone between the ends
abbrev pub has_form : (binders : Names) → List t.Term → List BinOp → Bool
has_form bs ts os = nat_le 3 (length ts) && ((length ts == suc (length os)) && (one_way os && list_all (is_one_of bs) (between ts)))

-- and the ends hold no binder from the first on of those between them
abbrev pub is_guard : (binders : Names) → List t.Term → List BinOp → Bool
is_guard bs ts os = has_form bs ts os && ends_free (from_first (between ts) bs) ts
