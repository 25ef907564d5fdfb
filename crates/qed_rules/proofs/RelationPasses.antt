-- The passes over relations.
use Rattle.std.proofs.Common.{◌≡◌, ◌<◌, ◌≤◌, true, false, cond, List, [], ◌∷◌, map, length, get_or, refl, sym, ◌∙◌, ap, arith}
use Rattle.std.specs.Prelude.{Some, None}
use Rattle.qed_terms.specs.declared.head.Head.TheVariants as h
use Rattle.qed_terms.specs.declared.head.FormOp.{FormOp}
use Rattle.qed_terms.specs.declared.head.FormOp.TheVariants as rel
use Rattle.qed_terms.specs.declared.term.Term.{Term}
use Rattle.qed_terms.specs.Tree.{Tree, Trees, node, two, trees_of}
use Rattle.qed_terms.specs.View.{term_tree}
use Rattle.qed_terms.specs.Operators.{is_zero}
use Rattle.qed_terms.specs.Order.{same}
use Rattle.qed_linear.specs.Linear.{Lin, is_number, common_divisor, divides, divide_exact, make_lead_positive}
use Rattle.qed_rules.specs.Rules.{truth_constant, equals_zero, equal_tree, is_twice, is_same_memory, negated_relation_at}
use Rattle.qed_memories.specs.Passes.{memory_pass}
use Rattle.qed_rules.specs.Passes.{compared, normal_relation, done, again, or_again, pass_relation}

pub equal_tree_is : (g : Lin) → is_number g ≡ false → divides (common_divisor (g.parts)) (g.constant) ≡ true → equal_tree g ≡ equals_zero (make_lead_positive (divide_exact g))
equal_tree_is g a b =
    ap (λ c. cond c (truth_constant (is_zero (g.constant))) (cond (divides (common_divisor (g.parts)) (g.constant)) (equals_zero (make_lead_positive (divide_exact g))) (truth_constant false))) a
    ∙ ap (λ c. cond c (equals_zero (make_lead_positive (divide_exact g))) (truth_constant false)) b

-- a relation over another number of terms than two
pub not_two : (o : FormOp) (ts : List Term) → (length ts ≡ 2 → ⊥) → (node (h.Form o) (trees_of (map term_tree ts)) ≡ compared o (trees_of (map term_tree ts))) × (None ≡ negated_relation_at (h.Form o) (trees_of (map term_tree ts)))
not_two o (t ∷ u ∷ []) k = absurd (k (omega arith))
not_two rel.Equal [] k = (refl, refl)
not_two rel.Equal (t ∷ []) k = (refl, refl)
not_two rel.Equal (t ∷ u ∷ v ∷ ts) k = (refl, refl)
not_two rel.AtMost [] k = (refl, refl)
not_two rel.AtMost (t ∷ []) k = (refl, refl)
not_two rel.AtMost (t ∷ u ∷ v ∷ ts) k = (refl, refl)
not_two rel.Less [] k = (refl, refl)
not_two rel.Less (t ∷ []) k = (refl, refl)
not_two rel.Less (t ∷ u ∷ v ∷ ts) k = (refl, refl)
not_two o ts k = (refl, refl)

-- the kids of a relation over two terms
pub pair_is : (ts : List Term) (x y : Term) → length ts ≡ 2 → x ≡ get_or ts 0 x → y ≡ get_or ts 1 y → trees_of (map term_tree ts) ≡ two (term_tree x) (term_tree y)
pair_is [] x y k p q = absurd (omega arith)
pair_is (t ∷ []) x y k p q = absurd (omega arith)
pair_is (t ∷ u ∷ []) x y k p q = λ i. two (term_tree (sym p i)) (term_tree (sym q i))
pair_is (t ∷ u ∷ v ∷ ts) x y k p q = absurd (omega arith)

-- the first two of many
pub twice_of : (ts : List Term) (x y : Term) → 2 ≤ length ts → x ≡ get_or ts 0 x → y ≡ get_or ts 1 y → is_twice (trees_of (map term_tree ts)) ≡ same (term_tree x) (term_tree y)
twice_of [] x y k p q = absurd (omega arith)
twice_of (t ∷ []) x y k p q = absurd (omega arith)
twice_of (t ∷ u ∷ ts) x y k p q = λ i. same (term_tree (sym p i)) (term_tree (sym q i))

pub not_twice : (ts : List Term) → length ts < 2 → is_twice (trees_of (map term_tree ts)) ≡ false
not_twice [] k = refl
not_twice (t ∷ []) k = refl
not_twice (t ∷ u ∷ ts) k = absurd (omega arith)

-- as many terms as `same` has, and others
pub pair_twice : (ts : List Term) → length ts ≡ 2 → is_twice (trees_of (map term_tree ts)) ≡ is_same_memory rel.Same (trees_of (map term_tree ts))
pair_twice [] k = absurd (omega arith)
pair_twice (t ∷ []) k = absurd (omega arith)
pair_twice (t ∷ u ∷ []) k = refl
pair_twice (t ∷ u ∷ v ∷ ts) k = absurd (omega arith)

pub not_pair : (ts : List Term) → (length ts ≡ 2 → ⊥) → false ≡ is_same_memory rel.Same (trees_of (map term_tree ts))
not_pair [] k = refl
not_pair (t ∷ []) k = refl
not_pair (t ∷ u ∷ []) k = absurd (k (omega arith))
not_pair (t ∷ u ∷ v ∷ ts) k = refl

-- a relation by what is answered of a block, and where nothing is
pub asked_again : (o : FormOp) (ts : Trees) (w : Tree) → Some w ≡ memory_pass (h.Form o) ts → again w ≡ pass_relation o ts
asked_again o ts w k = ap (λ p. or_again p (normal_relation o ts)) k

pub not_asked : (o : FormOp) (ts : Trees) (w : Tree) → None ≡ memory_pass (h.Form o) ts → w ≡ normal_relation o ts → done w ≡ pass_relation o ts
not_asked o ts w k e = ap done e ∙ ap (λ p. or_again p (normal_relation o ts)) k
