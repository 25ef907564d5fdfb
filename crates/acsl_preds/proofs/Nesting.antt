-- Binders one within the other, and the conjuncts that are kept.
use Rattle.std.proofs.Common.{◌≡◌, ℕ, zero, suc, ◌-◌, ◌+◌, ◌<◌, ◌≤◌, Bool, List, [], ◌∷◌, length, take, drop, get_or, Option, sym, ap, ◌∙◌, arith}
use Rattle.std.specs.Borrow.{Bor}
use Rattle.std.proofs.lemmas.List.{at_drop_more, at_drop_all}
use Rattle.acsl_trees.specs.declared.heads.BinderPlace.{BinderPlace}
use Rattle.acsl_trees.specs.declared.tree.Tree.{Tree as Code}
use Rattle.acsl_trees.specs.Tree.{Tree, view_tree}
use Rattle.acsl_preds.specs.declared.binders.Over.{Over}
use Rattle.acsl_preds.specs.Ranges.{over_one, over_all, kept_with, kept, pointed}

-- ---- binders

innermost : (place : BinderPlace) (a : Bool) (cs : List Tree) (os : List Over) (n : ℕ) (o : Over) (t : Tree) → n < length os → o ≡ get_or os n o → over_all place a cs (take (suc n) os) t ≡ over_all place a cs (take n os) (over_one place a cs o t)
innermost place a cs [] n o t inside is = grind arith
innermost place a cs (p ∷ os) zero o t inside is = ap (λ q. over_one place a cs q t) (sym is)
innermost place a cs (p ∷ os) (suc n) o t inside is = ap (over_one place a cs p) (innermost place a cs os n o t (omega (arith, inside)) is)

before_is : (n m : ℕ) → 0 < m → n ≡ m - 1 → suc n ≡ m
before_is n m some is = omega (arith, some, is)

pub nest_turn : (place : BinderPlace) (a : Bool) (cs : List Tree) (os : List Over) (n m : ℕ) (o : Over) (t t' whole : Tree) → 0 < m → m ≤ length os → n ≡ m - 1 → t' ≡ over_one place a cs o t → o ≡ get_or os n o
    → over_all place a cs (take m os) t ≡ whole → over_all place a cs (take n os) t' ≡ whole
nest_turn place a cs os n m o t t' whole some within count made is so_far =
    ap (over_all place a cs (take n os)) made ∙ sym (innermost place a cs os n o t (omega (arith, some, within, count)) is) ∙ ap (λ k. over_all place a cs (take k os) t) (before_is n m some count) ∙ so_far

pub ruleset nest_laws = (nest_turn)

-- ---- conjuncts

pub kept_turn : (os : List Over) (ts : List (Bor Code)) (i : ℕ) (t : Bor Code) (before after whole : Option Tree) → i < length ts → t ≡ get_or ts i t → after ≡ kept_with os i before (view_tree t.now)
    → kept os i before (pointed (drop i ts)) ≡ whole → kept os (i + 1) after (pointed (drop (i + 1) ts)) ≡ whole
kept_turn os ts i t before after whole inside is made so_far =
    ap (λ o. kept os (i + 1) o (pointed (drop (i + 1) ts))) (made ∙ ap (λ s. kept_with os i before (view_tree s.now)) is)
    ∙ sym (at_drop_more (λ us. kept os i before (pointed us)) ts i t inside) ∙ so_far

pub kept_done : (os : List Over) (ts : List (Bor Code)) (i : ℕ) (before whole : Option Tree) → length ts ≤ i → kept os i before (pointed (drop i ts)) ≡ whole → before ≡ whole
kept_done os ts i before whole all so_far = sym (at_drop_all (λ us. kept os i before (pointed us)) ts i all) ∙ so_far

pub ruleset kept_laws = (kept_turn, kept_done)
