-- What is made of a node whose kids are of what it wants.
use Rattle.std.proofs.Common.{◌≡◌, true, List, [], ◌∷◌, Option, Some, None, refl, sym, ap, ◌∙◌, subst}
use Rattle.acsl_trees.specs.declared.heads.Content.{Content}
use Rattle.acsl_trees.specs.declared.heads.Content.TheVariants as content
use Rattle.acsl_trees.specs.declared.heads.Label.{Label}
use Rattle.acsl_trees.specs.declared.heads.Label.TheVariants as label
use Rattle.acsl_trees.specs.declared.heads.Head.{Head}
use Rattle.acsl_trees.specs.declared.heads.Head.TheVariants as head
use Rattle.acsl_trees.specs.Tree.{Tree, Trees, node, stop, more}
use Rattle.acsl_encode.specs.Readings.{Terms, integer, truth, address, Reading, moved_to, seen_in}
use Rattle.acsl_encode.specs.Encode as encode
use Rattle.acsl_encode.specs.Encode.{as_formula}
use Rattle.acsl_well_typed.specs.WellTyped as typed
use Rattle.acsl_well_typed.specs.WellTyped.{What, an_integer, a_pointer, an_object, a_region, a_linked_integer, a_linked_pointer, Known, gives, returned}
use Rattle.annotations_encoded.specs.Sights.{value_given, sight_of, Sights, sights_of, moved, sight_in}
use Rattle.annotations_encoded.specs.Shapes.{Shape, shape, IsInteger, IsAddress, HasShape, IsFor}
use Rattle.annotations_encoded.specs.Serving.{is_result, cells_of, node_serves}
use Rattle.annotations_encoded.specs.Laws.{IsNamed}
use Rattle.annotations_encoded.proofs.Terms.{on_formula, either_integer, either_pointer, either_object}
use Rattle.annotations_encoded.proofs.Kids.{HasLink, Is, AllAre, none_by, one_by, two_by, three_by}

-- ---- states

pub sight_seen : (l : Option Label) (r : Reading) → sight_in l (sights_of r) ≡ sight_of (seen_in l r)
sight_seen None r = refl
sight_seen (Some label.Here) r = refl
sight_seen (Some label.Pre) r = refl
sight_seen (Some label.Post) r = refl
sight_seen (Some label.LoopEntry) r = refl

pub moved_sights : (l : Label) (r : Reading) → moved l (sights_of r) ≡ sights_of (moved_to l r)
moved_sights label.Here r = refl
moved_sights label.Pre r = refl
moved_sights label.Post r = refl
moved_sights label.LoopEntry r = refl

pub same_cells : (r : Reading) (c : Content) → cells_of (sights_of r) c ≡ encode.content_cells r.common c
same_cells r (content.Integer k) = refl
same_cells r content.Pointer = refl
same_cells r (content.Struct n) = refl

-- ---- names and `\result`

pub named_is : (w : What) (z : Shape) (t : Terms) (h : Head) → IsNamed w t → IsFor w z t × HasLink w h
named_is an_integer z t h e = (e, tt)
named_is a_pointer z t h e = (e, tt)
named_is w z t h e = absurd e

pub result_is : (w : What) (z : Shape) (t : Terms) (h : Head) → is_result (Some w) (value_given t) ≡ true → IsFor w z t × HasLink w h
result_is an_integer z (integer k t) h e = (tt, tt)
result_is an_integer z (truth f) h e = (tt, tt)
result_is a_pointer z (address b o) h e = (tt, tt)
result_is w z t h e = absurd cc

-- ---- nodes of so many kids

module _ (k : Known) (ws : typed.Names) (g : Sights) (h : Head) where
  -- what a node is, by what its kids are
  abbrev pub Made : Sights → (Trees → List Terms → Terms) → Type 0
  Made q X =
      (us : List What) (w : What) (ks : Trees) (xs : List Terms) → gives k ws h us ≡ Some w → node_serves k g h ks ≡ true → AllAre q us ks xs
      → Is w g (node h ks) (X ks xs)

  module _ (q : Sights) (X : Trees → List Terms → Terms) (u : What) (link : HasLink u h) where
    abbrev N : Trees → List Terms → Type 0
    N ks xs = node_serves k g h ks ≡ true → Is u g (node h ks) (X ks xs)

    pub none_made : ((us : List What) (w : What) → gives k ws h us ≡ Some w → (us ≡ []) × (w ≡ u)) → IsFor u (shape g (node h stop)) (X stop []) → Made q X
    none_made inv go us w ks xs e s a =
        let p = inv us w e in
        subst (λ w. Is w g (node h ks) (X ks xs)) (sym p.1) (none_by q N ks xs (subst (λ us. AllAre q us ks xs) p.0 a) (λ s. (go, link)) s)

    pub one_made : (v : What) → ((us : List What) (w : What) → gives k ws h us ≡ Some w → (us ≡ v ∷ []) × (w ≡ u))
        → ((t : Tree) (x : Terms) → node_serves k g h (more t stop) ≡ true → IsFor v (shape q t) x → IsFor u (shape g (node h (more t stop))) (X (more t stop) (x ∷ [])))
        → Made q X
    one_made v inv go us w ks xs e s a =
        let p = inv us w e in
        subst (λ w. Is w g (node h ks) (X ks xs)) (sym p.1)
        (one_by q N v ks xs (subst (λ us. AllAre q us ks xs) p.0 a) (λ t x b s. (go t x s b.0, link)) s)

    pub two_made : (v v' : What) → ((us : List What) (w : What) → gives k ws h us ≡ Some w → (us ≡ v ∷ v' ∷ []) × (w ≡ u))
        → ((t t' : Tree) (x x' : Terms) → IsFor v (shape q t) x → IsFor v' (shape q t') x'
        → IsFor u (shape g (node h (more t (more t' stop)))) (X (more t (more t' stop)) (x ∷ x' ∷ [])))
        → Made q X
    two_made v v' inv go us w ks xs e s a =
        let p = inv us w e in
        subst (λ w. Is w g (node h ks) (X ks xs)) (sym p.1)
        (two_by q N v v' ks xs (subst (λ us. AllAre q us ks xs) p.0 a) (λ t t' x x' b b' s. (go t t' x x' b.0 b'.0, link)) s)

    pub three_made : (v v' v'' : What) → ((us : List What) (w : What) → gives k ws h us ≡ Some w → (us ≡ v ∷ v' ∷ v'' ∷ []) × (w ≡ u))
        → ((t t' t'' : Tree) (x x' x'' : Terms) → IsFor v (shape q t) x → IsFor v' (shape q t') x' → IsFor v'' (shape q t'') x''
        → IsFor u (shape g (node h (more t (more t' (more t'' stop))))) (X (more t (more t' (more t'' stop))) (x ∷ x' ∷ x'' ∷ [])))
        → Made q X
    three_made v v' v'' inv go us w ks xs e s a =
        let p = inv us w e in
        subst (λ w. Is w g (node h ks) (X ks xs)) (sym p.1)
        (three_by q N v v' v'' ks xs (subst (λ us. AllAre q us ks xs) p.0 a) (λ t t' t'' x x' x'' b b' b'' s. (go t t' t'' x x' x'' b.0 b'.0 b''.0, link)) s)

-- ---- nodes that give what a kid gives

module _ (k : Known) (ws : typed.Names) (g : Sights) where
  -- a kid in a state of its own
  at_same : (l : Label) (v w : What) (t : Tree) (x : Terms) → gives k ws (head.At l) (v ∷ []) ≡ Some w → Is v (moved l g) t x
      → Is w g (node (head.At l) (more t stop)) x
  at_same l an_integer w t x e b = let p : an_integer ≡ w = cc in subst (λ w. Is w g (node (head.At l) (more t stop)) x) p (b.0, tt)
  at_same l a_pointer w t x e b = let p : a_pointer ≡ w = cc in subst (λ w. Is w g (node (head.At l) (more t stop)) x) p (b.0, tt)
  at_same l an_object w t x e b = let p : an_object ≡ w = cc in subst (λ w. Is w g (node (head.At l) (more t stop)) x) p (b.0, tt)
  at_same l v w t x e b = absurd cc

  at_one : (l : Label) (us : List What) (w : What) → gives k ws (head.At l) us ≡ Some w → (v : What) × (us ≡ v ∷ [])
  at_one l (an_integer ∷ []) w e = (an_integer, refl)
  at_one l (a_pointer ∷ []) w e = (a_pointer, refl)
  at_one l (an_object ∷ []) w e = (an_object, refl)
  at_one l us w e = absurd cc

  pub at_made : (l : Label) → Made k ws g (head.At l) (moved l g) (λ ks xs. encode.first xs)
  at_made l us w ks xs e s a =
      let p = at_one l us w e in
      let f : gives k ws (head.At l) (p.0 ∷ []) ≡ Some w = sym (ap (gives k ws (head.At l)) p.1) ∙ e in
      one_by (moved l g) (λ ks xs. Is w g (node (head.At l) ks) (encode.first xs)) p.0 ks xs (subst (λ us. AllAre (moved l g) us ks xs) p.1 a)
      (λ t x b. at_same l p.0 w t x f b)

  -- a choice
  abbrev Chosen : Trees → List Terms → Terms
  Chosen ks xs = encode.with_one (encode.either (encode.second xs) (encode.third xs)) (as_formula (encode.first xs))

  choose_same : (v w : What) (t u s : Tree) (x y z : Terms) → gives k ws head.Choose (an_integer ∷ v ∷ v ∷ []) ≡ Some w → IsInteger x → Is v g u y → Is v g s z
      → Is w g (node head.Choose (more t (more u (more s stop)))) (Chosen (more t (more u (more s stop))) (x ∷ y ∷ z ∷ []))
  choose_same an_integer w t u s x y z e a b c =
      let p : an_integer ≡ w = cc in
      subst (λ w. Is w g (node head.Choose (more t (more u (more s stop)))) (Chosen (more t (more u (more s stop))) (x ∷ y ∷ z ∷ []))) p
      (on_formula IsInteger (encode.either y z) x a (λ f. either_integer y z f b.0 c.0), tt)
  choose_same a_pointer w t u s x y z e a b c =
      let p : a_pointer ≡ w = cc in
      subst (λ w. Is w g (node head.Choose (more t (more u (more s stop)))) (Chosen (more t (more u (more s stop))) (x ∷ y ∷ z ∷ []))) p
      (on_formula IsAddress (encode.either y z) x a (λ f. either_pointer y z f b.0 c.0), tt)
  choose_same an_object w t u s x y z e a b c =
      let p : an_object ≡ w = cc in
      subst (λ w. Is w g (node head.Choose (more t (more u (more s stop)))) (Chosen (more t (more u (more s stop))) (x ∷ y ∷ z ∷ []))) p (
        on_formula (HasShape (shape g (node head.Choose (more t (more u (more s stop)))))) (encode.either y z) x a
            (λ f. either_object (shape g u) (shape g s) y z f b.0 c.0),
        tt,
      )
  choose_same v w t u s x y z e a b c = absurd cc

  choose_three : (us : List What) (w : What) → gives k ws head.Choose us ≡ Some w → (v : What) × (us ≡ an_integer ∷ v ∷ v ∷ [])
  choose_three (an_integer ∷ an_integer ∷ an_integer ∷ []) w e = (an_integer, refl)
  choose_three (an_integer ∷ a_pointer ∷ a_pointer ∷ []) w e = (a_pointer, refl)
  choose_three (an_integer ∷ an_object ∷ an_object ∷ []) w e = (an_object, refl)
  choose_three us w e = absurd cc

  pub choose_made : Made k ws g head.Choose g Chosen
  choose_made us w ks xs e s a =
      let p = choose_three us w e in
      let f : gives k ws head.Choose (an_integer ∷ p.0 ∷ p.0 ∷ []) ≡ Some w = sym (ap (gives k ws head.Choose) p.1) ∙ e in
      three_by g (λ ks xs. Is w g (node head.Choose ks) (Chosen ks xs)) an_integer p.0 p.0 ks xs (subst (λ us. AllAre g us ks xs) p.1 a)
      (λ t u s x y z a b c. choose_same p.0 w t u s x y z f a.0 b c)
