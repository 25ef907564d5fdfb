-- Disjunctions of a store, and those made of their disjuncts, are well formed.
use Rattle.std.proofs.Common.{◌≡◌, ℕ, zero, suc, ◌+◌, ◌<◌, ◌≤◌, Bool, true, false, ◌&&◌, List, [], ◌∷◌, ◌++◌, map, take, drop, length, get_or, refl, sym, ◌∙◌, ap, subst, arith}
use Rattle.std.specs.List.{list_all}
use Rattle.std.proofs.lemmas.List.Folds.{list_all-append}
use Rattle.std.proofs.lemmas.List.{take-map, drop-map, map-append}
use Rattle.qed_terms.specs.declared.head.Head.TheVariants as h
use Rattle.qed_terms.specs.Nodes.{kids_of}
use Rattle.qed_terms.specs.Store.{is_well_formed, over}
use Rattle.qed_terms.specs.Tree.{Tree, node, Trees, stop, more, trees_of, list_of, head_of, false_tree}
use Rattle.qed_terms.specs.WellFormed.{fits, all_fit, each, formula, kid_count}
use Rattle.branches.specs.Branch.{IsOr}
use Rattle.branch_changes.specs.Changes.{rest_of_or}

and_first : (p q : Bool) → (p && q) ≡ true → p ≡ true
and_first true q e = refl
and_first false q e = absurd cc

and_second : (p q : Bool) → (p && q) ≡ true → q ≡ true
and_second true q e = e
and_second false q e = absurd cc

and_both : (p q : Bool) → p ≡ true → q ≡ true → (p && q) ≡ true
and_both true q e f = f
and_both false q e f = absurd cc

are_formulas : (ts : Trees) → all_fit (each formula (kid_count ts)) ts ≡ true → list_all (fits formula) (list_of ts) ≡ true
are_formulas stop e = refl
are_formulas (more t ts) e = and_both (fits formula t) _ (and_first (fits formula t) _ e) (are_formulas ts (and_second (fits formula t) _ e))

fit_all : (ts : List Tree) → list_all (fits formula) ts ≡ true → all_fit (each formula (kid_count (trees_of ts))) (trees_of ts) ≡ true
fit_all [] e = refl
fit_all (t ∷ ts) e = and_both (fits formula t) _ (and_first (fits formula t) _ e) (fit_all ts (and_second (fits formula t) _ e))

pub disjuncts_fit : (f : Tree) → IsOr f → is_well_formed f ≡ true → list_all (fits formula) (kids_of f) ≡ true
disjuncts_fit (node h.Or ts) k e = are_formulas ts e
disjuncts_fit (node head ts) k e = absurd cc

pub or_fits : (ts : List Tree) → list_all (fits formula) ts ≡ true → is_well_formed (over h.Or ts) ≡ true
or_fits ts e = fit_all ts e

pub not_fits : (t : Tree) → fits formula t ≡ true → is_well_formed (over h.Not (t ∷ [])) ≡ true
not_fits t e = and_both (fits formula t) true e refl

pub all_without : (p : Tree → Bool) (ts : List Tree) (n : ℕ) → list_all p ts ≡ true → list_all p (take n ts ++ drop (n + 1) ts) ≡ true
all_without p ts n e = let s : suc n ≡ n + 1 = omega arith in subst (λ z. list_all p (take n ts ++ drop z ts) ≡ true) s (go ts n e)
  where
    go : (ts : List Tree) (n : ℕ) → list_all p ts ≡ true → list_all p (take n ts ++ drop (suc n) ts) ≡ true
    go [] zero e = refl
    go [] (suc n) e = refl
    go (t ∷ ts) zero e = and_second (p t) _ e
    go (t ∷ ts) (suc n) e = and_both (p t) _ (and_first (p t) _ e) (go ts n (and_second (p t) _ e))

-- ---- what is left, by how many there are

module _ {Id : Type 0} (tree : Id → Tree) where
  pub none_left : (ids : List Id) → length ids ≡ 0 → over h.False (map tree ids) ≡ rest_of_or (map tree ids)
  none_left [] e = refl
  none_left (id ∷ ids) e = absurd (omega arith)

  pub none_fits : (ids : List Id) → length ids ≡ 0 → is_well_formed (over h.False (map tree ids)) ≡ true
  none_fits [] e = refl
  none_fits (id ∷ ids) e = absurd (omega arith)

  pub one_left : (ids : List Id) (id : Id) → length ids ≡ 1 → id ≡ get_or ids 0 id → tree id ≡ rest_of_or (map tree ids)
  one_left [] id e is = absurd (omega arith)
  one_left (k ∷ []) id e is = ap tree is
  one_left (k ∷ l ∷ ids) id e is = absurd (omega arith)

  pub more_left : (ids : List Id) → (length ids ≡ 0 → ⊥) → (length ids ≡ 1 → ⊥) → over h.Or (map tree ids) ≡ rest_of_or (map tree ids)
  more_left [] m n = absurd (m refl)
  more_left (id ∷ []) m n = absurd (n refl)
  more_left (id ∷ k ∷ ids) m n = refl

  -- the ids that are left stand for the trees that are left
  pub trees_without : (ids : List Id) (at : ℕ) (rest : List Id) (ts : List Tree) → rest ≡ take at ids ++ drop (at + 1) ids → map tree ids ≡ ts → map tree rest ≡ take at ts ++ drop (at + 1) ts
  trees_without ids at rest ts e stand =
      ap (map tree) e ∙ map-append tree (take at ids) (drop (at + 1) ids) ∙ (λ i. sym (take-map tree at ids) i ++ sym (drop-map tree (at + 1) ids) i) ∙ ap (λ z. take at z ++ drop (at + 1) z) stand

pub one_fits : {Id : Type 0} (tree : Id → Tree) (p : Tree → Bool) (ids : List Id) (i : ℕ) (id : Id) → list_all p (map tree ids) ≡ true → i < length ids → id ≡ get_or ids i id → p (tree id) ≡ true
one_fits tree p [] i id e k is = absurd (omega arith)
one_fits tree p (x ∷ ids) zero id e k is = ap (λ z. p (tree z)) is ∙ and_first (p (tree x)) _ e
one_fits tree p (x ∷ ids) (suc i) id e k is = one_fits tree p ids i id (and_second (p (tree x)) _ e) (omega arith) is
