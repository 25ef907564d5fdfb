-- Terms that are conversions.
use Rattle.std.proofs.Common.{◌≡◌, false, List, [], ◌∷◌, map, length, refl, ◌∙◌, ap, arith}
use Rattle.wp_base.specs.declared.kinds.Kind.{Kind}
use Rattle.qed_terms.specs.declared.head.Head.TheVariants as h
use Rattle.qed_terms.specs.declared.head.TermOp.{TermOp}
use Rattle.qed_terms.specs.declared.head.TermOp.TheVariants as op
use Rattle.qed_terms.specs.declared.term.Term.{Term}
use Rattle.qed_terms.specs.declared.term.Term.TheVariants as t
use Rattle.qed_terms.specs.Tree.{Tree, node, Trees, stop, more, trees_of}
use Rattle.qed_terms.specs.View.{term_tree}
use Rattle.qed_terms.proofs.Equations.{term_tree-Op}
use Rattle.qed_numbers.specs.Numbers.{is_conversion, is_converted}

at_kid : (k : Kind) (o : TermOp) (t : Tree) → is_converted k (node (h.Term o) (more t stop)) ≡ is_conversion k o
at_kid k (op.Wrap l) t = refl
at_kid k o t = refl

at_none : (k : Kind) (o : TermOp) → is_converted k (node (h.Term o) stop) ≡ false
at_none k (op.Wrap l) = refl
at_none k o = refl

at_many : (k : Kind) (o : TermOp) (t u : Tree) (ts : Trees) → is_converted k (node (h.Term o) (more t (more u ts))) ≡ false
at_many k (op.Wrap l) t u ts = refl
at_many k o t u ts = refl

pub converted_one : (k : Kind) (o : TermOp) (ts : List Term) → length ts ≡ 1 → is_converted k (term_tree (t.Op o ts)) ≡ is_conversion k o
converted_one k o ts e = ap (is_converted k) (term_tree-Op o ts) ∙ go ts e
  where
    go : (us : List Term) → length us ≡ 1 → is_converted k (node (h.Term o) (trees_of (map term_tree us))) ≡ is_conversion k o
    go [] e = absurd (omega (arith, e))
    go (u ∷ []) e = at_kid k o (term_tree u)
    go (u ∷ v ∷ us) e = absurd (omega (arith, e))

pub converted_other : (k : Kind) (o : TermOp) (ts : List Term) → (length ts ≡ 1 → ⊥) → is_converted k (term_tree (t.Op o ts)) ≡ false
converted_other k o ts e = ap (is_converted k) (term_tree-Op o ts) ∙ go ts e
  where
    go : (us : List Term) → (length us ≡ 1 → ⊥) → is_converted k (node (h.Term o) (trees_of (map term_tree us))) ≡ false
    go [] e = at_none k o
    go (u ∷ []) e = absurd (e (omega arith))
    go (u ∷ v ∷ us) e = at_many k o (term_tree u) (term_tree v) (trees_of (map term_tree us))
