-- The shape of an equality with 0.
use Rattle.std.proofs.Common.{◌≡◌, ℕ, zero, suc, ◌<◌, Bool, true, false, List, [], ◌∷◌, map, length, get_or, refl, sym, ◌∙◌, ap, arith}
use Rattle.std.specs.Prelude.{ℤ, pos, Some}
use Rattle.std.specs.Bool.{MatchBool}
use Rattle.std.specs.Ordering.{int_eq}
use Rattle.std.specs.Cmp.{signed_Decides}
use Rattle.qed_terms.specs.declared.head.Head.{Head}
use Rattle.qed_terms.specs.declared.head.Head.TheVariants as h
use Rattle.qed_terms.specs.declared.head.FormOp.{FormOp}
use Rattle.qed_terms.specs.declared.head.FormOp.TheVariants as form
use Rattle.qed_terms.specs.Nodes.{kids_of}
use Rattle.qed_terms.specs.Tree.{Tree, node, head_of, trees_of, num, equal}
use Rattle.qed_terms.proofs.Lists.{trees_of-list_of}
use Rattle.same_terms.specs.Written.{number_in_head}
use Rattle.term_rests.specs.Rests.{is_equality, is_equality_op}

same_node : (t : Tree) → node (head_of t) (trees_of (kids_of t)) ≡ t
same_node (node head ts) = ap (node head) (trees_of-list_of ts)

is_number : (head : Head) (z : ℤ) → number_in_head head ≡ Some z → head ≡ h.Num z
is_number (h.Num y) z e = let d : y ≡ z = cc in ap h.Num d
is_number (h.Var x s) z e = absurd cc
is_number (h.Term o) z e = absurd cc
is_number h.Ite z e = absurd cc
is_number (h.App f) z e = absurd cc
is_number (h.Form o) z e = absurd cc
is_number h.True z e = absurd cc
is_number h.False z e = absurd cc
is_number h.Not z e = absurd cc
is_number h.And z e = absurd cc
is_number h.Or z e = absurd cc
is_number h.Imp z e = absurd cc
is_number h.Iff z e = absurd cc
is_number (h.Forall x) z e = absurd cc
is_number (h.Exists x) z e = absurd cc

no_tree : (tree : ℕ → Tree) (ks : List ℕ) → length ks ≡ 0 → map tree ks ≡ []
no_tree tree [] e = refl
no_tree tree (k ∷ ks) e = absurd (omega arith)

pub number_there : (tree : ℕ → Tree) (ks : List ℕ) (t : Tree) (head : Head) (z : ℤ) → head ≡ head_of t → map tree ks ≡ kids_of t → length ks ≡ 0 → number_in_head head ≡ Some z → t ≡ num z
number_there tree ks t head z e kids none number = sym (same_node t) ∙ (λ i. node ((sym e ∙ is_number head z number) i) (trees_of ((sym kids ∙ no_tree tree ks none) i)))

pub kids_there : (tree : ℕ → Tree) (ks : List ℕ) (t : Tree) (z : ℤ) → map tree ks ≡ kids_of t → t ≡ num z → length ks ≡ 0
kids_there tree [] t z e d = refl
kids_there tree (k ∷ ks) t z e d = let f : tree k ∷ map tree ks ≡ [] = e ∙ ap kids_of d in absurd cc

equality_op : (o : FormOp) → is_equality_op o ≡ true → h.Form o ≡ h.Form form.Equal
equality_op form.Equal e = refl
equality_op form.AtMost e = absurd cc
equality_op form.Less e = absurd cc
equality_op form.Same e = absurd cc
equality_op (form.Read k) e = absurd cc
equality_op (form.Write k) e = absurd cc
equality_op form.Live e = absurd cc
equality_op (form.Has l) e = absurd cc
equality_op (form.WellFormed k) e = absurd cc
equality_op (form.Frame s) e = absurd cc

equality : (head : Head) → is_equality head ≡ true → head ≡ h.Form form.Equal
equality (h.Form o) e = equality_op o e
equality (h.Num z) e = absurd cc
equality (h.Var x s) e = absurd cc
equality (h.Term o) e = absurd cc
equality h.Ite e = absurd cc
equality (h.App f) e = absurd cc
equality h.True e = absurd cc
equality h.False e = absurd cc
equality h.Not e = absurd cc
equality h.And e = absurd cc
equality h.Or e = absurd cc
equality h.Imp e = absurd cc
equality h.Iff e = absurd cc
equality (h.Forall x) e = absurd cc
equality (h.Exists x) e = absurd cc

two_trees : (tree : ℕ → Tree) (ks : List ℕ) → length ks ≡ 2 → map tree ks ≡ tree (get_or ks 0 0) ∷ tree (get_or ks 1 0) ∷ []
two_trees tree [] e = absurd (omega arith)
two_trees tree (a ∷ []) e = absurd (omega arith)
two_trees tree (a ∷ b ∷ []) e = refl
two_trees tree (a ∷ b ∷ c ∷ ks) e = absurd (omega arith)

pub equality_there : (tree : ℕ → Tree) (ks : List ℕ) (t : Tree) (head : Head) → head ≡ head_of t → map tree ks ≡ kids_of t → is_equality head ≡ true → length ks ≡ 2 → tree (get_or ks 1 0) ≡ num (pos 0) → t ≡ equal (tree (get_or ks 0 0)) (num (pos 0))
equality_there tree ks t head e kids eq two nought =
    sym (same_node t) ∙ (λ i. node ((sym e ∙ equality head eq) i) (trees_of ((sym kids ∙ two_trees tree ks two) i))) ∙ ap (equal (tree (get_or ks 0 0))) nought

-- an equality with 0 has these
pub head_told : (t s : Tree) (head : Head) → head ≡ head_of t → t ≡ equal s (num (pos 0)) → is_equality head ≡ true
head_told t s head e d = ap is_equality (e ∙ ap head_of d)

pub two_told : (tree : ℕ → Tree) (ks : List ℕ) (t s : Tree) → map tree ks ≡ kids_of t → t ≡ equal s (num (pos 0)) → length ks ≡ 2
two_told tree [] t s e d = let f : [] ≡ s ∷ num (pos 0) ∷ [] = e ∙ ap kids_of d in absurd cc
two_told tree (a ∷ []) t s e d = let f : tree a ∷ [] ≡ s ∷ num (pos 0) ∷ [] = e ∙ ap kids_of d in absurd cc
two_told tree (a ∷ b ∷ []) t s e d = refl
two_told tree (a ∷ b ∷ c ∷ ks) t s e d = let f : tree a ∷ tree b ∷ tree c ∷ map tree ks ≡ s ∷ num (pos 0) ∷ [] = e ∙ ap kids_of d in absurd cc

pub zero_told : (tree : ℕ → Tree) (ks : List ℕ) (t s : Tree) → map tree ks ≡ kids_of t → t ≡ equal s (num (pos 0)) → tree (get_or ks 1 0) ≡ num (pos 0)
zero_told tree [] t s e d = let f : [] ≡ s ∷ num (pos 0) ∷ [] = e ∙ ap kids_of d in absurd cc
zero_told tree (a ∷ []) t s e d = let f : tree a ∷ [] ≡ s ∷ num (pos 0) ∷ [] = e ∙ ap kids_of d in absurd cc
zero_told tree (a ∷ b ∷ ks) t s e d = let f : tree a ∷ tree b ∷ map tree ks ≡ s ∷ num (pos 0) ∷ [] = e ∙ ap kids_of d in cc

pub nothing_told : (tree : ℕ → Tree) (ks : List ℕ) (t : Tree) (head : Head) (z : ℤ) (b : Bool) → b ≡ int_eq z (pos 0) → head ≡ head_of t → map tree ks ≡ kids_of t → length ks ≡ 0 → number_in_head head ≡ Some z → MatchBool b (t ≡ num (pos 0)) (t ≡ num (pos 0) → ⊥)
nothing_told tree ks t head z true is e kids none number =
    let d : z ≡ pos 0 = (signed_Decides z (pos 0)).0 (sym is) in number_there tree ks t head z e kids none number ∙ ap num d
nothing_told tree ks t head z false is e kids none number = λ d.
    let f : Some (pos 0) ≡ Some z = sym (ap number_in_head (e ∙ ap head_of d)) ∙ number in
    let g : z ≡ pos 0 = cc in
    let k : true ≡ false = sym ((signed_Decides z (pos 0)).1 g) ∙ sym is in
    absurd cc

pub item_is : (xs : List ℕ) (k r : ℕ) → k < length xs → r ≡ get_or xs k r → r ≡ get_or xs k 0
item_is [] k r l e = absurd (omega arith)
item_is (x ∷ xs) zero r l e = e
item_is (x ∷ xs) (suc k) r l e = item_is xs k r (omega arith) e
