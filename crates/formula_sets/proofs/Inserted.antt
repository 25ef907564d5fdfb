-- What a set has once a formula is put into it.
use Rattle.std.proofs.Common.{◌≡◌, Bool, true, false, ◌||◌, List, [], ◌∷◌, refl, sym, ap, ◌∙◌}
use Rattle.std.specs.declared.cmp.Ordering.{Ordering}
use Rattle.std.specs.declared.cmp.Ordering.TheVariants.{Less, Equal, Greater}
use Rattle.std.specs.List.{list_any}
use Rattle.std.specs.Ordering.{on}
use Rattle.std.specs.BTreeSet.{insert_key}
use Rattle.qed_terms.specs.Order.{tree_cmp, same}
use Rattle.qed_terms.specs.Tree.{Tree}
use Rattle.qed_terms.proofs.Total.{tree_exact}
use Rattle.formula_sets.specs.declared.keys.Keyed.{Keyed}
use Rattle.formula_sets.specs.Sets.{key_tree, has_tree}

or_turned : (a b c : Bool) → (a || (b || c)) ≡ (b || (a || c))
or_turned true true c = refl
or_turned true false c = refl
or_turned false true c = refl
or_turned false false c = refl

or_twice : (a c : Bool) → (a || c) ≡ (a || (a || c))
or_twice true c = refl
or_twice false c = refl

step : (ks : List Keyed) (k x : Keyed) (t : Tree) (o : Ordering) → tree_cmp (key_tree k) (key_tree x) ≡ o
    → has_tree (insert_key (on key_tree tree_cmp) ks k) t ≡ (same t (key_tree k) || has_tree ks t)
    → has_tree (insert_key (on key_tree tree_cmp) (x ∷ ks) k) t ≡ (same t (key_tree k) || has_tree (x ∷ ks) t)
step ks k x t Less e more = rw e refl
step ks k x t Equal e more = rw e (or_twice (same t (key_tree x)) (has_tree ks t) ∙ ap (λ u. same t u || has_tree (x ∷ ks) t) (sym (tree_exact (key_tree k) (key_tree x) e)))
step ks k x t Greater e more = rw e (ap (λ b. same t (key_tree x) || b) more ∙ or_turned (same t (key_tree x)) (same t (key_tree k)) (has_tree ks t))

pub inserted : (ks : List Keyed) (k : Keyed) (t : Tree) → has_tree (insert_key (on key_tree tree_cmp) ks k) t ≡ (same t (key_tree k) || has_tree ks t)
inserted [] k t = refl
inserted (x ∷ ks) k t = step ks k x t (tree_cmp (key_tree k) (key_tree x)) refl (inserted ks k t)
