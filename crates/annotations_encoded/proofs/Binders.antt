-- The kids of a node that binds a name.
use Rattle.std.proofs.Common.{◌≡◌, ◌++◌, true, List, [], ◌∷◌, Some, option_and_then, refl, sym, subst}
use Rattle.typed_prog.specs.declared.types.CoreType.{CoreType}
use Rattle.acsl_trees.specs.declared.heads.Head.{Head}
use Rattle.acsl_trees.specs.declared.heads.Head.TheVariants as head
use Rattle.acsl_trees.specs.Tree.{Tree, Trees, node, stop, more}
use Rattle.acsl_names.specs.declared.names.Definition.{Definition}
use Rattle.acsl_encode.specs.Readings.{Terms}
use Rattle.acsl_well_typed.specs.WellTyped as typed
use Rattle.acsl_well_typed.specs.WellTyped.{What, an_integer, a_pointer, an_object, a_region, a_linked_integer, a_linked_pointer, Known, Binder, a_name, a_value, a_number, binder_of, names_in, binder_behind, kid_gives, gives, what_of, kids_give}
use Rattle.acsl_well_typed.specs.Definitions.{known_with}
use Rattle.annotations_encoded.specs.Shapes.{Shape, IsFor}
use Rattle.annotations_encoded.specs.Laws.{IsNamed}
use Rattle.annotations_encoded.proofs.Kids.{node_given, more_given}

-- as many kids as are given
abbrev pub Same : List What → Trees → Type 0
Same [] stop = Unit {0}
Same (w ∷ ws) (more t ts) = Same ws ts
Same _ _ = ⊥

module _ (k : Known) (ws : typed.Names) where
  counted : (b : Binder) (ks : Trees) (us : List What) → kids_give k ws b ks ≡ Some us → Same us ks
  counted b stop [] e = tt
  counted b stop (u ∷ us) e = absurd cc
  counted b (more t ts) us e =
      let p = more_given (kid_gives b ts k.ends (what_of k (names_in b ts ws) t)) (λ w. kids_give k ws (binder_behind b w) ts) us e in
      subst (λ us. Same us (more t ts)) (sym p.4) (counted (binder_behind b p.0) ts p.1 p.3)

  -- a node that gives something has as many kids as its head wants
  pub node_counted : (h : Head) (sig : List What) (ks : Trees) (w : What) → ((us : List What) → gives k ws h us ≡ Some w → us ≡ sig)
      → option_and_then (gives k ws h) (kids_give k ws (binder_of h) ks) ≡ Some w → Same sig ks
  node_counted h sig ks w inv e =
      let p = node_given (gives k ws h) (kids_give k ws (binder_of h) ks) w e in
      subst (λ us. Same us ks) (inv p.0 p.2) (counted (binder_of h) ks p.0 p.1)

  -- `\let`
  pub let_three : (us : List What) (w : What) → gives k ws head.Let us ≡ Some w → (v : What) × (us ≡ v ∷ an_integer ∷ []) × (w ≡ an_integer)
  let_three (an_integer ∷ an_integer ∷ []) w e = (an_integer, refl, cc)
  let_three (a_pointer ∷ an_integer ∷ []) w e = (a_pointer, refl, cc)
  let_three us w e = absurd cc

  pub let_named : (v : What) (w : What) (z : Shape) (x : Terms) → gives k ws head.Let (v ∷ an_integer ∷ []) ≡ Some w → IsFor v z x → IsNamed v x
  let_named an_integer w z x e h = h
  let_named a_pointer w z x e h = h
  let_named v w z x e h = absurd cc

  pub record LetGiven (t u : Tree) (w : What) : Type 0 where
    pub value : What
    pub first : what_of k ws t ≡ Some value
    pub second : what_of k (ws ++ value ∷ []) u ≡ Some an_integer
    pub gives_so : gives k ws head.Let (value ∷ an_integer ∷ []) ≡ Some w
    pub is : an_integer ≡ w

  pub let_given : (t u : Tree) (w : What) → what_of k ws (node head.Let (more t (more u stop))) ≡ Some w → LetGiven t u w
  let_given t u w e =
      let p = node_given (gives k ws head.Let) (kids_give k ws a_value (more t (more u stop))) w e in
      let q = more_given (what_of k ws t) (λ v. kids_give k ws (binder_behind a_value v) (more u stop)) p.0 p.1 in
      let s = more_given (what_of k (ws ++ q.0 ∷ []) u) (λ v. kids_give k ws (binder_behind (a_name q.0) v) stop) q.1 q.3 in
      let r = let_three p.0 w p.2 in
      let a : p.0 ≡ q.0 ∷ q.1 = q.4 in
      let b : q.1 ≡ s.0 ∷ s.1 = s.4 in
      let c : p.0 ≡ r.0 ∷ an_integer ∷ [] = r.1 in
      let same : s.0 ≡ an_integer = cc in
      let none : s.1 ≡ [] = cc in
      let all : p.0 ≡ q.0 ∷ an_integer ∷ [] = cc in
      let f : gives k ws head.Let p.0 ≡ Some w = p.2 in
      let is : an_integer ≡ w = sym r.2 in
      record {
        value = q.0;
        first = q.2;
        second = subst (λ v. what_of k (ws ++ q.0 ∷ []) u ≡ Some v) same s.2;
        gives_so = subst (λ us. gives k ws head.Let us ≡ Some w) all f;
        is = is;
      }

  pub let_counted : (ks : Trees) (w : What) → what_of k ws (node head.Let ks) ≡ Some w → (v : What) × Same (v ∷ an_integer ∷ []) ks
  let_counted ks w e =
      let p = node_given (gives k ws head.Let) (kids_give k ws a_value ks) w e in
      let r = let_three p.0 w p.2 in
      (r.0, subst (λ us. Same us ks) r.1 (counted a_value ks p.0 p.1))

-- ---- quantifiers, whose ranges' ends are looked at

module _ (ds : List Definition) (result : CoreType) (ws : typed.Names) where
  abbrev K : Known
  K = known_with true ds result

  pub kind_given : (h : Head) (t : Tree) (w : What) → ((us : List What) (w : What) → gives K ws h us ≡ Some w → (us ≡ an_integer ∷ []) × (w ≡ an_integer))
      → option_and_then (gives K ws h) (kids_give K ws a_number (more t stop)) ≡ Some w
      → (what_of K (ws ++ an_integer ∷ []) t ≡ Some an_integer) × (an_integer ≡ w)
  kind_given h t w inv e =
      let p = node_given (gives K ws h) (kids_give K ws a_number (more t stop)) w e in
      let q = more_given (what_of K (ws ++ an_integer ∷ []) t) (λ v. kids_give K ws (binder_behind a_number v) stop) p.0 p.1 in
      let r = inv p.0 w p.2 in
      let a : p.0 ≡ q.0 ∷ q.1 = q.4 in
      let b : p.0 ≡ an_integer ∷ [] = r.0 in
      let same : q.0 ≡ an_integer = cc in
      (subst (λ v. what_of K (ws ++ an_integer ∷ []) t ≡ Some v) same q.2, sym r.1)

  pub record BetweenGiven (t u s : Tree) (w : What) : Type 0 where
    pub low : what_of K ws t ≡ Some an_integer
    pub high : what_of K ws u ≡ Some an_integer
    pub body : what_of K (ws ++ an_integer ∷ []) s ≡ Some an_integer
    pub is : an_integer ≡ w

  pub between_given : (h : Head) (t u s : Tree) (w : What)
      → ((us : List What) (w : What) → gives K ws h us ≡ Some w → (us ≡ an_integer ∷ an_integer ∷ an_integer ∷ []) × (w ≡ an_integer))
      → option_and_then (gives K ws h) (kids_give K ws a_number (more t (more u (more s stop)))) ≡ Some w → BetweenGiven t u s w
  between_given h t u s w inv e =
      let p = node_given (gives K ws h) (kids_give K ws a_number (more t (more u (more s stop)))) w e in
      let q = more_given (what_of K ws t) (λ v. kids_give K ws (binder_behind a_number v) (more u (more s stop))) p.0 p.1 in
      let q' = more_given (what_of K ws u) (λ v. kids_give K ws (binder_behind a_number v) (more s stop)) q.1 q.3 in
      let q'' = more_given (what_of K (ws ++ an_integer ∷ []) s) (λ v. kids_give K ws (binder_behind a_number v) stop) q'.1 q'.3 in
      let r = inv p.0 w p.2 in
      let a : p.0 ≡ q.0 ∷ q.1 = q.4 in
      let b : q.1 ≡ q'.0 ∷ q'.1 = q'.4 in
      let c : q'.1 ≡ q''.0 ∷ q''.1 = q''.4 in
      let f : p.0 ≡ an_integer ∷ an_integer ∷ an_integer ∷ [] = r.0 in
      let one : q.0 ≡ an_integer = cc in
      let two : q'.0 ≡ an_integer = cc in
      let three : q''.0 ≡ an_integer = cc in
      record {
        low = subst (λ v. what_of K ws t ≡ Some v) one q.2;
        high = subst (λ v. what_of K ws u ≡ Some v) two q'.2;
        body = subst (λ v. what_of K (ws ++ an_integer ∷ []) s ≡ Some v) three q''.2;
        is = sym r.1;
      }
