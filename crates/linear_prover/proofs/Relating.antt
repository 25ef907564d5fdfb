-- What literals say, by their heads and kids.
use Rattle.std.proofs.Common.{◌≡◌, ◌⊎◌, ℕ, Bool, true, false, List, [], ◌∷◌, map, length, get_or, refl, sym, ◌∙◌, ap, inl, inr, arith}
use Rattle.std.specs.Prelude.{pos, Some, None}
use Rattle.qed_terms.specs.declared.head.Head.{Head}
use Rattle.qed_terms.specs.declared.head.Head.TheVariants as h
use Rattle.qed_terms.specs.declared.head.FormOp.{FormOp}
use Rattle.qed_terms.specs.declared.head.FormOp.TheVariants as form
use Rattle.qed_terms.specs.Nodes.{kids_of}
use Rattle.qed_terms.specs.Tree.{Tree, node, head_of, trees_of, num}
use Rattle.qed_terms.proofs.Lists.{trees_of-list_of}
use Rattle.qed_linear.specs.Linear.{Lin}
use Rattle.same_terms.specs.Written.{written}
use Rattle.branch_links.specs.BranchLinks.{Says, opposite}
use Rattle.linear_prover.specs.Relations.{related, relation_op, relation_head}

same_node : (t : Tree) → node (head_of t) (trees_of (kids_of t)) ≡ t
same_node (node head ts) = ap (node head) (trees_of-list_of ts)

related_head : Bool → Head
related_head true = h.Form form.Equal
related_head false = h.Form form.AtMost

op_is : (o : FormOp) (b : Bool) → relation_op o ≡ Some b → h.Form o ≡ related_head b
unfolding related_head
op_is form.Equal true e = refl
op_is form.Equal false e = absurd cc
op_is form.AtMost true e = absurd cc
op_is form.AtMost false e = refl
op_is form.Less b e = absurd cc
op_is form.Same b e = absurd cc
op_is (form.Read k) b e = absurd cc
op_is (form.Write k) b e = absurd cc
op_is form.Live b e = absurd cc
op_is (form.Has l) b e = absurd cc
op_is (form.WellFormed k) b e = absurd cc
op_is (form.Frame s) b e = absurd cc

head_is : (head : Head) (b : Bool) → relation_head head ≡ Some b → head ≡ related_head b
head_is (h.Form o) b e = op_is o b e
head_is (h.Num z) b e = absurd cc
head_is (h.Var x s) b e = absurd cc
head_is (h.Term o) b e = absurd cc
head_is h.Ite b e = absurd cc
head_is (h.App f) b e = absurd cc
head_is h.True b e = absurd cc
head_is h.False b e = absurd cc
head_is h.Not b e = absurd cc
head_is h.And b e = absurd cc
head_is h.Or b e = absurd cc
head_is h.Imp b e = absurd cc
head_is h.Iff b e = absurd cc
head_is (h.Forall x) b e = absurd cc
head_is (h.Exists x) b e = absurd cc

two_trees : (tree : ℕ → Tree) (ks : List ℕ) → length ks ≡ 2 → map tree ks ≡ tree (get_or ks 0 0) ∷ tree (get_or ks 1 0) ∷ []
two_trees tree [] e = absurd (omega arith)
two_trees tree (a ∷ []) e = absurd (omega arith)
two_trees tree (a ∷ b ∷ []) e = refl
two_trees tree (a ∷ b ∷ c ∷ ks) e = absurd (omega arith)

node_related : (b : Bool) (s : Tree) → node (related_head b) (trees_of (s ∷ num (pos 0) ∷ [])) ≡ related b s
unfolding related_head
node_related true s = refl
node_related false s = refl

pub related_there : (tree : ℕ → Tree) (ks : List ℕ) (t : Tree) (head : Head) (b : Bool) → head ≡ head_of t → map tree ks ≡ kids_of t → relation_head head ≡ Some b → length ks ≡ 2 → tree (get_or ks 1 0) ≡ num (pos 0) → t ≡ related b (tree (get_or ks 0 0))
related_there tree ks t head b e kids is two nought =
    sym (same_node t)
    ∙ (λ i. node ((sym e ∙ head_is head b is) i) (trees_of ((sym kids ∙ two_trees tree ks two) i)))
    ∙ ap (λ z. node (related_head b) (trees_of (tree (get_or ks 0 0) ∷ z ∷ []))) nought
    ∙ node_related b (tree (get_or ks 0 0))

-- ---- no other literal says anything of a sum

module _ (tree : ℕ → Tree) (ks : List ℕ) (t : Tree) (kids : map tree ks ≡ kids_of t) where
  some_related : (f : Lin) → Says t f → (b : Bool) × (s : Tree) × (t ≡ related b s)
  some_related f says = elim (says.is) [ inl e ↦ (false, says.sum, e.0) | inr e ↦ (true, says.sum, e.0) ]

  related_kids : (b : Bool) (s : Tree) → kids_of (related b s) ≡ s ∷ num (pos 0) ∷ []
  related_kids true s = refl
  related_kids false s = refl

  related_some : (b : Bool) (s : Tree) → relation_head (head_of (related b s)) ≡ Some b
  related_some true s = refl
  related_some false s = refl

  pub no_head : (head : Head) → head ≡ head_of t → relation_head head ≡ None → (f : Lin) → Says t f → ⊥
  no_head head e none f says =
      let r = some_related f says in
      let d : None ≡ Some r.0 = sym none ∙ ap relation_head (e ∙ ap head_of r.2) ∙ related_some r.0 r.1 in
      absurd cc

  two_kids : (u v : Tree) (ks : List ℕ) → map tree ks ≡ u ∷ v ∷ [] → length ks ≡ 2
  two_kids u v [] e = absurd cc
  two_kids u v (a ∷ []) e = absurd cc
  two_kids u v (a ∷ b ∷ []) e = refl
  two_kids u v (a ∷ b ∷ c ∷ ks) e = absurd cc

  pub other_length : (length ks ≡ 2 → ⊥) → (f : Lin) → Says t f → ⊥
  other_length n f says = let r = some_related f says in n (two_kids r.1 (num (pos 0)) ks (kids ∙ ap kids_of r.2 ∙ related_kids r.0 r.1))

  second : (u v : Tree) (ks : List ℕ) → map tree ks ≡ u ∷ v ∷ [] → tree (get_or ks 1 0) ≡ v
  second u v [] e = absurd cc
  second u v (a ∷ []) e = absurd cc
  second u v (a ∷ b ∷ ks) e = cc

  pub other_second : (tree (get_or ks 1 0) ≡ num (pos 0) → ⊥) → (f : Lin) → Says t f → ⊥
  other_second n f says = let r = some_related f says in n (second r.1 (num (pos 0)) ks (kids ∙ ap kids_of r.2 ∙ related_kids r.0 r.1))

-- ---- what a literal says

first_kid : List Tree → Tree → Tree
first_kid [] t = t
first_kid (u ∷ us) t = u

one_sum : (b : Bool) (s u : Tree) → related b s ≡ related b u → s ≡ u
unfolding first_kid
one_sum true s u e = ap (λ t. first_kid (kids_of t) s) e
one_sum false s u e = ap (λ t. first_kid (kids_of t) s) e

apart_sums : (s u : Tree) → related true s ≡ related false u → ⊥
apart_sums s u e = let d : h.Form form.Equal ≡ h.Form form.AtMost = ap head_of e in absurd cc

pub says_at_most : (t s : Tree) → t ≡ related false s → Says t (written s)
says_at_most t s e = record { sum = s; is = inl (e, refl) }

pub says_equal : (t s : Tree) → t ≡ related true s → Says t (written s)
says_equal t s e = record { sum = s; is = inr (e, inl refl) }

pub says_opposite : (t s : Tree) → t ≡ related true s → Says t (opposite (written s))
says_opposite t s e = record { sum = s; is = inr (e, inr refl) }

pub said_at_most : (t s : Tree) (f : Lin) → t ≡ related false s → Says t f → f ≡ written s
said_at_most t s f e says = elim (says.is) [
  | inl d ↦ d.1 ∙ ap written (one_sum false (says.sum) s (sym d.0 ∙ e))
  | inr d ↦ absurd (apart_sums (says.sum) s (sym d.0 ∙ e))
]

pub said_equal : (t s : Tree) (f : Lin) → t ≡ related true s → Says t f → (f ≡ written s) ⊎ (f ≡ opposite (written s))
said_equal t s f e says = elim (says.is) [
  | inl d ↦ absurd (apart_sums s (says.sum) (sym e ∙ d.0))
  | inr d ↦
      let same = one_sum true (says.sum) s (sym d.0 ∙ e) in
      elim d.1 [ inl g ↦ inl (g ∙ ap written same) | inr g ↦ inr (g ∙ ap (λ z. opposite (written z)) same) ]
]
