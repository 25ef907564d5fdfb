-- The formula `true` is the head over no kids.
use Rattle.std.proofs.Common.{◌≡◌, ℕ, suc, ◌==◌, Bool, true, false, ◌&&◌, List, [], ◌∷◌, map, length, refl, sym, ◌∙◌, ap, arith}
use Rattle.std.proofs.lemmas.Bool.Decides.{nat_tests}
use Rattle.qed_terms.specs.declared.head.Head.{Head}
use Rattle.qed_terms.specs.declared.head.Head.TheVariants as h
use Rattle.qed_terms.specs.Nodes.{kids_of}
use Rattle.qed_terms.specs.Order.{same}
use Rattle.qed_terms.specs.Tree.{Tree, node, stop, more, head_of, kids_in, list_of, true_tree}
use Rattle.qed_terms.proofs.Total.{same_itself, same_exact}
use Rattle.added_instances.specs.Truth.{is_truth}

not_zero : (n : ℕ) → (suc n == 0) ≡ false
not_zero n = grind (arith, nat_tests)

no_kids : List Tree → Bool
no_kids [] = true
no_kids (t ∷ ts) = false

other : (t : Tree) → (true_tree ≡ t → ⊥) → false ≡ same true_tree t
other t n = go (same true_tree t) refl
  where
    go : (b : Bool) → same true_tree t ≡ b → false ≡ b
    go true e = absurd (n (same_exact true_tree t e))
    go false e = refl

with_head : (t : Tree) → (is_truth (head_of t) && no_kids (kids_of t)) ≡ same true_tree t
unfolding no_kids
with_head (node h.True stop) = sym (same_itself true_tree)
with_head (node h.True (more t ts)) = other (node h.True (more t ts)) (λ e. let k : list_of stop ≡ list_of (more t ts) = ap (λ u. list_of (kids_in u)) e in absurd cc)
with_head (node head ts) = other (node head ts) (λ e. let k : h.True ≡ head = ap head_of e in absurd cc)

pub truth_is : {Id : Type 0} (tree : Id → Tree) (ids : List Id) (t : Tree) (head : Head) (a : Bool) → head ≡ head_of t → map tree ids ≡ kids_of t → a ≡ is_truth head → (a && (length ids == 0)) ≡ same true_tree t
unfolding no_kids
truth_is tree ids t head a e k l =
    (λ i. (l ∙ ap is_truth e) i && (bare ids ∙ ap no_kids k) i) ∙ with_head t
  where
    bare : (ids : List _) → (length ids == 0) ≡ no_kids (map tree ids)
    bare [] = refl
    bare (x ∷ xs) = not_zero (length xs)
