-- What the rows at an equation that is no fact and at a choice give, by what is seen.
use Rattle.std.proofs.Common.{◌≡◌, false, List, [], ◌∷◌, refl, sym, ◌∙◌, ap, subst}
use Rattle.qed_terms.specs.declared.head.Head.{Head}
use Rattle.qed_terms.specs.declared.head.Head.TheVariants as h
use Rattle.qed_terms.specs.declared.head.FormOp.TheVariants as form
use Rattle.qed_terms.specs.Tree.{Tree, node, Trees, stop, more, kids_in, one, two, three}
use Rattle.term_sketches.specs.declared.sketch.Sketch.{Sketch}
use Rattle.instance_rows.specs.Rows.{order_of_sides, order_of_unequal, arm_of_ite}
use Rattle.drawn_instances.specs.declared.nodes.Seen.{Seen}
use Rattle.drawn_instances.specs.declared.nodes.Seen.TheVariants as seen
use Rattle.drawn_instances.specs.Heads.{seen_head, seen_at, is_one, is_two, is_three}
use Rattle.drawn_instances.specs.Drawn.{AreDrawn, row_at}
use Rattle.drawn_instances.proofs.HeadLaws.{not_there, equal_there, ite_there}
use Rattle.node_instances.proofs.Nodes.{row_there, whole}
use Rattle.node_instances.specs.Formulas.{either_less, either_arm}

-- ---- an equation that is no fact

no_not : (head : Head) (ts : Trees) → (seen_head head ≡ seen.Not → ⊥) → order_of_unequal head ts ≡ []
no_not h.Not ts n = absurd (n refl)
no_not head ts n = refl

no_kid : (head : Head) (ts : Trees) → is_one ts ≡ false → order_of_unequal head ts ≡ []
no_kid h.Not stop e = refl
no_kid h.Not (more t stop) e = absurd cc
no_kid h.Not (more t (more u ts)) e = refl
no_kid head ts e = refl

no_sides : (head : Head) (ts : Trees) → (seen_head head ≡ seen.Equal → ⊥) → order_of_sides (node head ts) ≡ []
no_sides (h.Form form.Equal) ts n = absurd (n refl)
no_sides head ts n = refl

not_two_sides : (head : Head) (ts : Trees) → is_two ts ≡ false → order_of_sides (node head ts) ≡ []
not_two_sides (h.Form form.Equal) stop e = refl
not_two_sides (h.Form form.Equal) (more t stop) e = refl
not_two_sides (h.Form form.Equal) (more t (more u stop)) e = absurd cc
not_two_sides (h.Form form.Equal) (more t (more u (more v ts))) e = refl
not_two_sides head ts e = refl

by_sides : (head : Head) (f : Tree) → order_of_sides f ≡ [] → order_of_unequal head (one f) ≡ []
by_sides h.Not f e = e
by_sides head f e = refl

pub unequal_unseen : (t : Tree) (x : Seen) → x ≡ seen_at t → (x ≡ seen.Not → ⊥) → row_at order_of_unequal t ≡ []
unfolding row_at seen_at
unequal_unseen (node head ts) x e n = no_not head ts (λ f. n (e ∙ f))

pub unequal_unfit : (t : Tree) → is_one (kids_in t) ≡ false → row_at order_of_unequal t ≡ []
unfolding row_at
unequal_unfit (node head ts) e = no_kid head ts e

pub sides_unseen : (t f : Tree) (x : Seen) → kids_in t ≡ one f → x ≡ seen_at f → (x ≡ seen.Equal → ⊥) → row_at order_of_unequal t ≡ []
unfolding row_at seen_at
sides_unseen (node head ts) (node g us) x k e n = ap (order_of_unequal head) k ∙ by_sides head (node g us) (no_sides g us (λ f. n (e ∙ f)))

pub sides_unfit : (t f : Tree) → kids_in t ≡ one f → is_two (kids_in f) ≡ false → row_at order_of_unequal t ≡ []
unfolding row_at
sides_unfit (node head ts) (node g us) k e = ap (order_of_unequal head) k ∙ by_sides head (node g us) (not_two_sides g us e)

pub unequal_sides : {Id : Type 0} (held : Id → Type 0) (tree : Id → Tree) (ids : List Id) (sketches : List Sketch) (t f a b : Tree) (x y : Seen)
    → x ≡ seen_at t → x ≡ seen.Not → kids_in t ≡ one f → y ≡ seen_at f → y ≡ seen.Equal → kids_in f ≡ two a b
    → AreDrawn held tree ids sketches (either_less a b ∷ []) → AreDrawn held tree ids sketches (row_at order_of_unequal t)
unequal_sides held tree ids sketches t f a b x y p q k p' q' l d =
    let e : row_at order_of_unequal t ≡ either_less a b ∷ [] =
    row_there order_of_unequal t (not_there t x p q) k ∙ ap order_of_sides (whole f (equal_there f y p' q') l) in
    subst (AreDrawn held tree ids sketches) (sym e) d

pub ruleset unequal_laws = (unequal_unseen, unequal_unfit, sides_unseen, sides_unfit, unequal_sides)

-- ---- a choice

no_choice : (head : Head) (ts : Trees) → (seen_head head ≡ seen.Ite → ⊥) → arm_of_ite head ts ≡ []
no_choice h.Ite ts n = absurd (n refl)
no_choice head ts n = refl

not_three_parts : (head : Head) (ts : Trees) → is_three ts ≡ false → arm_of_ite head ts ≡ []
not_three_parts h.Ite stop e = refl
not_three_parts h.Ite (more t stop) e = refl
not_three_parts h.Ite (more t (more u stop)) e = refl
not_three_parts h.Ite (more t (more u (more v stop))) e = absurd cc
not_three_parts h.Ite (more t (more u (more v (more w ts)))) e = refl
not_three_parts head ts e = refl

pub arm_unseen : (t : Tree) (x : Seen) → x ≡ seen_at t → (x ≡ seen.Ite → ⊥) → row_at arm_of_ite t ≡ []
unfolding row_at seen_at
arm_unseen (node head ts) x e n = no_choice head ts (λ f. n (e ∙ f))

pub arm_unfit : (t : Tree) → is_three (kids_in t) ≡ false → row_at arm_of_ite t ≡ []
unfolding row_at
arm_unfit (node head ts) e = not_three_parts head ts e

pub arm_seen : {Id : Type 0} (held : Id → Type 0) (tree : Id → Tree) (ids : List Id) (sketches : List Sketch) (t a b c : Tree) (x : Seen)
    → x ≡ seen_at t → x ≡ seen.Ite → kids_in t ≡ three a b c
    → AreDrawn held tree ids sketches (either_arm a b c ∷ []) → AreDrawn held tree ids sketches (row_at arm_of_ite t)
arm_seen held tree ids sketches t a b c x p q k d = subst (AreDrawn held tree ids sketches) (sym (row_there arm_of_ite t (ite_there t x p q) k)) d

pub ruleset arm_laws = (arm_unseen, arm_unfit, arm_seen)
