-- Operators by how many terms they are over.
use Rattle.std.proofs.Common.{◌≡◌, ℕ, List, [], ◌∷◌, map, length, get_or, refl, sym, ◌∙◌, ap, arith}
use Rattle.std.specs.Prelude.{None}
use Rattle.wp_base.specs.declared.kinds.Kind.{Kind}
use Rattle.qed_terms.specs.declared.head.Head.TheVariants as h
use Rattle.qed_terms.specs.declared.head.TermOp.{TermOp}
use Rattle.qed_terms.specs.declared.head.TermOp.TheVariants as op
use Rattle.qed_terms.specs.Tree.{Tree, Trees, stop, more, one, two, trees_of}
use Rattle.qed_terms.specs.declared.term.Term.{Term}
use Rattle.qed_terms.specs.View.{term_tree}
use Rattle.qed_numbers.specs.Numbers.{number_step, long_rule}

no_kid : (o : TermOp) → None ≡ number_step (h.Term o) stop
no_kid op.Div = refl
no_kid op.Mod = refl
no_kid (op.Wrap k) = refl
no_kid op.ShiftLeft = refl
no_kid op.ShiftRight = refl
no_kid op.BitAnd = refl
no_kid op.BitOr = refl
no_kid op.BitXor = refl
no_kid op.BitNot = refl
no_kid o = refl

many_kids : (o : TermOp) (t u v : Tree) (ts : Trees) → None ≡ number_step (h.Term o) (more t (more u (more v ts)))
many_kids op.Div t u v ts = refl
many_kids op.Mod t u v ts = refl
many_kids (op.Wrap k) t u v ts = refl
many_kids op.ShiftLeft t u v ts = refl
many_kids op.ShiftRight t u v ts = refl
many_kids op.BitAnd t u v ts = refl
many_kids op.BitOr t u v ts = refl
many_kids op.BitXor t u v ts = refl
many_kids op.BitNot t u v ts = refl
many_kids o t u v ts = refl

pub neither_one_nor_two : (o : TermOp) (ts : List Term) → (length ts ≡ 1 → ⊥) → (length ts ≡ 2 → ⊥) → None ≡ number_step (h.Term o) (trees_of (map term_tree ts))
neither_one_nor_two o [] k l = no_kid o
neither_one_nor_two o (t ∷ []) k l = absurd (k (omega arith))
neither_one_nor_two o (t ∷ u ∷ []) k l = absurd (l (omega arith))
neither_one_nor_two o (t ∷ u ∷ v ∷ ts) k l = many_kids o (term_tree t) (term_tree u) (term_tree v) (trees_of (map term_tree ts))

pub one_is : (ts : List Term) (x : Term) → length ts ≡ 1 → x ≡ get_or ts 0 x → trees_of (map term_tree ts) ≡ one (term_tree x)
one_is [] x k p = absurd (omega (arith, k))
one_is (t ∷ []) x k p = ap (λ y. one (term_tree y)) (sym p)
one_is (t ∷ u ∷ ts) x k p = absurd (omega (arith, k))

pub two_is : (ts : List Term) (x y : Term) → length ts ≡ 2 → x ≡ get_or ts 0 x → y ≡ get_or ts 1 y → trees_of (map term_tree ts) ≡ two (term_tree x) (term_tree y)
two_is [] x y k p q = absurd (omega (arith, k))
two_is (t ∷ []) x y k p q = absurd (omega (arith, k))
two_is (t ∷ u ∷ []) x y k p q = λ i. two (term_tree (sym p i)) (term_tree (sym q i))
two_is (t ∷ u ∷ v ∷ ts) x y k p q = absurd (omega (arith, k))

not_one : (n : ℕ) (ts : List Term) → (length ts ≡ 1 → ⊥) → (k : Kind) → None ≡ long_rule n (h.Term (op.Wrap k)) (trees_of (map term_tree ts))
not_one n [] l k = refl
not_one n (t ∷ []) l k = absurd (l (omega arith))
not_one n (t ∷ u ∷ ts) l k = refl

pub long_of_one : (n : ℕ) (o : TermOp) (k : Kind) (ts : List Term) → o ≡ op.Wrap k → (length ts ≡ 1 → ⊥) → None ≡ long_rule n (h.Term o) (trees_of (map term_tree ts))
long_of_one n o k ts e l = not_one n ts l k ∙ ap (λ x. long_rule n (h.Term x) (trees_of (map term_tree ts))) (sym e)
