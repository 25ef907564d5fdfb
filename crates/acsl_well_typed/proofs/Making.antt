-- What is made of terms by operators gives what it is made as.
use Rattle.std.proofs.Common.{◌≡◌, Bool, true, false, List, [], ◌∷◌, Option, Some, None, refl, ap, ◌∙◌}
use Rattle.std.specs.Option.{option_map, option_and_then}
use Rattle.acsl_trees.specs.declared.heads.Content.TheVariants as content_of
use Rattle.acsl_trees.specs.declared.heads.Head.{Head}
use Rattle.acsl_trees.specs.declared.heads.Head.TheVariants as head
use Rattle.acsl_trees.specs.declared.heads.Label.{Label}
use Rattle.acsl_trees.specs.declared.operands.Sort.{Sort}
use Rattle.acsl_trees.specs.declared.operands.Sort.TheVariants as sort
use Rattle.acsl_trees.specs.Tree.{Tree, node, Trees, stop, more, trees_of, one, two, three}
use Rattle.acsl_trees.specs.Operands.{Operand}
use Rattle.acsl_rules.specs.Operators.{is_pointed}
use Rattle.acsl_rules.specs.Laws as l
use Rattle.acsl_rules.specs.Laws.{Leaves, Makes, Links, FitsSort, Fits}
use Rattle.acsl_well_typed.specs.WellTyped.{What, an_integer, a_pointer, an_object, a_region, a_linked_integer, a_linked_pointer, Known, Names, no_name, binder_of, chained, gives, what_of, kids_give}
use Rattle.acsl_well_typed.specs.Terms.{Gives, sort_gives, IsOfItsSort}

-- ---- nodes by their kids

module _ (k : Known) (ns : Names) where
  pub node_gives : (h : Head) (kids : Trees) (ws : List What) → kids_give k ns (binder_of h) kids ≡ Some ws → what_of k ns (node h kids) ≡ gives k ns h ws
  node_gives h kids ws e = ap (option_and_then (gives k ns h)) e

  pub kid_more : (t : Tree) (rest : Trees) (w : What) (ws : List What) → what_of k ns t ≡ Some w → kids_give k ns no_name rest ≡ Some ws
      → kids_give k ns no_name (more t rest) ≡ Some (w ∷ ws)
  kid_more t rest w ws e es = ap (option_and_then (λ v. option_map (λ vs. v ∷ vs) (kids_give k ns no_name rest))) e ∙ ap (option_map (λ vs. w ∷ vs)) es

  pub kids_one : (t : Tree) (w : What) → what_of k ns t ≡ Some w → kids_give k ns no_name (more t stop) ≡ Some (w ∷ [])
  kids_one t w e = kid_more t stop w [] e refl

  pub kids_two : (t u : Tree) (w v : What) → what_of k ns t ≡ Some w → what_of k ns u ≡ Some v
      → kids_give k ns no_name (more t (more u stop)) ≡ Some (w ∷ v ∷ [])
  kids_two t u w v e d = kid_more t (more u stop) w (v ∷ []) e (kids_one u v d)

  pub kids_three : (t u s : Tree) (w v x : What) → what_of k ns t ≡ Some w → what_of k ns u ≡ Some v → what_of k ns s ≡ Some x
      → kids_give k ns no_name (more t (more u (more s stop))) ≡ Some (w ∷ v ∷ x ∷ [])
  kids_three t u s w v x e d f = kid_more t (more u (more s stop)) w (v ∷ x ∷ []) e (kids_two u s v x d f)

  pub one_gives : (h : Head) (t : Tree) (w : What) → binder_of h ≡ no_name → what_of k ns t ≡ Some w → what_of k ns (one h t) ≡ gives k ns h (w ∷ [])
  one_gives h t w b e = node_gives h (more t stop) (w ∷ []) (ap (λ b. kids_give k ns b (more t stop)) b ∙ kids_one t w e)

  pub two_give : (h : Head) (t u : Tree) (w v : What) → binder_of h ≡ no_name → what_of k ns t ≡ Some w → what_of k ns u ≡ Some v
      → what_of k ns (two h t u) ≡ gives k ns h (w ∷ v ∷ [])
  two_give h t u w v b e d = node_gives h (more t (more u stop)) (w ∷ v ∷ []) (ap (λ b. kids_give k ns b (more t (more u stop))) b ∙ kids_two t u w v e d)

  pub three_give : (h : Head) (t u s : Tree) (w v x : What) → binder_of h ≡ no_name → what_of k ns t ≡ Some w → what_of k ns u ≡ Some v
      → what_of k ns s ≡ Some x
      → what_of k ns (three h t u s) ≡ gives k ns h (w ∷ v ∷ x ∷ [])
  three_give h t u s w v x b e d f =
      node_gives h (more t (more u (more s stop))) (w ∷ v ∷ x ∷ []) (ap (λ b. kids_give k ns b (more t (more u (more s stop)))) b
      ∙ kids_three t u s w v x e d f)

  -- ---- what is made

  abbrev pub as_made : l.What → What
  as_made l.an_integer = an_integer
  as_made l.a_pointer = a_pointer
  as_made l.an_object = an_object

  abbrev pub is_what : l.What → Option What → Bool
  is_what l.an_integer (Some an_integer) = true
  is_what l.a_pointer (Some a_pointer) = true
  is_what l.an_object (Some an_object) = true
  is_what _ _ = false

  abbrev pub given : Leaves
  given w t = is_what w (what_of k ns t)

  is_given : (w : l.What) (o : Option What) → is_what w o ≡ true → o ≡ Some (as_made w)
  is_given l.an_integer (Some an_integer) e = refl
  is_given l.an_integer (Some a_pointer) e = absurd cc
  is_given l.an_integer (Some an_object) e = absurd cc
  is_given l.an_integer (Some a_region) e = absurd cc
  is_given l.an_integer (Some a_linked_integer) e = absurd cc
  is_given l.an_integer (Some a_linked_pointer) e = absurd cc
  is_given l.an_integer None e = absurd cc
  is_given l.a_pointer (Some an_integer) e = absurd cc
  is_given l.a_pointer (Some a_pointer) e = refl
  is_given l.a_pointer (Some an_object) e = absurd cc
  is_given l.a_pointer (Some a_region) e = absurd cc
  is_given l.a_pointer (Some a_linked_integer) e = absurd cc
  is_given l.a_pointer (Some a_linked_pointer) e = absurd cc
  is_given l.a_pointer None e = absurd cc
  is_given l.an_object (Some an_integer) e = absurd cc
  is_given l.an_object (Some a_pointer) e = absurd cc
  is_given l.an_object (Some an_object) e = refl
  is_given l.an_object (Some a_region) e = absurd cc
  is_given l.an_object (Some a_linked_integer) e = absurd cc
  is_given l.an_object (Some a_linked_pointer) e = absurd cc
  is_given l.an_object None e = absurd cc

  itself : (w : l.What) → is_what w (Some (as_made w)) ≡ true
  itself l.an_integer = refl
  itself l.a_pointer = refl
  itself l.an_object = refl

  -- a tree that no operator makes
  pub as_leaf : (w : l.What) (h : Head) (kids : Trees) → is_pointed h ≡ false → what_of k ns (node h kids) ≡ Some (as_made w) → Makes given w (node h kids)
  as_leaf w h kids n e = l.as_given n (ap (is_what w) e ∙ itself w)

  in_a_state : (w : l.What) (x : Label) → gives k ns (head.At x) (as_made w ∷ []) ≡ Some (as_made w)
  in_a_state l.an_integer x = refl
  in_a_state l.a_pointer x = refl
  in_a_state l.an_object x = refl

  one_of_two : (w : l.What) → gives k ns head.Choose (an_integer ∷ as_made w ∷ as_made w ∷ []) ≡ Some (as_made w)
  one_of_two l.an_integer = refl
  one_of_two l.a_pointer = refl
  one_of_two l.an_object = refl

  no_links : (w : l.What) → chained (as_made w ∷ []) ≡ Some an_integer
  no_links l.an_integer = refl
  no_links l.a_pointer = refl
  no_links l.an_object = refl

  -- all that is compared behind a term that gives this
  pub record AreLinked (w : l.What) (ts : List Tree) : Type 0 where
    pub what : List What
    pub each : kids_give k ns no_name (trees_of ts) ≡ Some what
    pub all : chained (as_made w ∷ what) ≡ Some an_integer

  mutual
    pub makes : (w : l.What) (t : Tree) → Makes given w t → Gives k ns (as_made w) t
    makes w t (l.as_given {h = h} {kids = kids} n e) = is_given w _ e
    makes w t (l.in_state {l = x} {t = u} f) = one_gives (head.At x) u (as_made w) refl (makes w u f) ∙ in_a_state w x
    makes w t (l.where_led {p = p} f) = one_gives head.Pointed p (as_made l.a_pointer) refl (makes l.a_pointer p f)
    makes w t (l.of_field {n = n} {offset = o} {a = a} f) = one_gives (head.Field n o) a (as_made l.an_object) refl (makes l.an_object a f)
    makes w t (l.of_element {size = z} {count = n} {a = a} {i = i} f d) =
        two_give (head.Element z n) a i (as_made l.an_object) (as_made l.an_integer) refl (makes l.an_object a f) (makes l.an_integer i d)
    makes w t (l.of_elements {size = z} {count = n} {a = a} {i = i} {j = j} f d e) =
        three_give (head.Elements z n) a i j (as_made l.an_object) (as_made l.an_integer) (as_made l.an_integer) refl (makes l.an_object a f)
        (makes l.an_integer i d) (makes l.an_integer j e)
    makes w t (l.all_behind {size = z} {p = p} {i = i} {j = j} f d e) =
        three_give (head.Behind z) p i j (as_made l.a_pointer) (as_made l.an_integer) (as_made l.an_integer) refl (makes l.a_pointer p f)
        (makes l.an_integer i d) (makes l.an_integer j e)
    makes w t l.is_null = refl
    makes w t (l.reads_pointer {l = x} {a = a} f) = one_gives (head.Read content_of.Pointer x) a (as_made l.an_object) refl (makes l.an_object a f)
    makes w t (l.address_taken {a = a} f) = one_gives head.Address a (as_made l.an_object) refl (makes l.an_object a f)
    makes w t (l.is_moved {minus = m} {size = z} {p = p} {i = i} f d) = two_give (head.Moved m z) p i (as_made l.a_pointer) (as_made l.an_integer) refl
        (makes l.a_pointer p f) (makes l.an_integer i d)
    makes w t (l.reads_integer {k = q} {l = x} {a = a} f) = one_gives (head.Read (content_of.Integer q) x) a (as_made l.an_object) refl (makes l.an_object a f)
    makes w t (l.difference_of {size = z} {p = p} {q = q} f d) = two_give (head.Difference z) p q (as_made l.a_pointer) (as_made l.a_pointer) refl
        (makes l.a_pointer p f) (makes l.a_pointer q d)
    makes w t (l.negated {t = u} f) = one_gives head.Negate u (as_made l.an_integer) refl (makes l.an_integer u f)
    makes w t (l.complemented {t = u} f) = one_gives head.Complement u (as_made l.an_integer) refl (makes l.an_integer u f)
    makes w t (l.converted {k = q} {t = u} f) = one_gives (head.Convert q) u (as_made l.an_integer) refl (makes l.an_integer u f)
    makes w t (l.computed {o = o} {t = u} {u = v} f d) = two_give (head.Arithmetic o) u v (as_made l.an_integer) (as_made l.an_integer) refl
        (makes l.an_integer u f) (makes l.an_integer v d)
    makes w t (l.integers_compared {how = o} {t = u} {u = v} f d) = two_give (head.Compare o) u v (as_made l.an_integer) (as_made l.an_integer) refl
        (makes l.an_integer u f) (makes l.an_integer v d)
    makes w t (l.pointers_compared {how = o} {p = p} {q = q} f d) = two_give (head.ComparePointers o) p q (as_made l.a_pointer) (as_made l.a_pointer) refl
        (makes l.a_pointer p f) (makes l.a_pointer q d)
    makes w t (l.not_so {t = u} f) = one_gives head.Not u (as_made l.an_integer) refl (makes l.an_integer u f)
    makes w t (l.both_so {t = u} {u = v} f d) = two_give head.And u v (as_made l.an_integer) (as_made l.an_integer) refl (makes l.an_integer u f)
        (makes l.an_integer v d)
    makes w t (l.either_so {t = u} {u = v} f d) = two_give head.Or u v (as_made l.an_integer) (as_made l.an_integer) refl (makes l.an_integer u f)
        (makes l.an_integer v d)
    makes w t (l.chosen {b = b} {t = u} {u = v} e f d) =
        three_give head.Choose b u v (as_made l.an_integer) (as_made w) (as_made w) refl (makes l.an_integer b e) (makes w u f) (makes w v d) ∙ one_of_two w
    makes w t l.no_terms = refl
    makes w t (l.in_chain {w = v} {t = u} {ts = ts} f fs) =
        let ls : AreLinked v ts = linked v ts fs in
        node_gives head.Chain (trees_of (u ∷ ts)) (as_made v ∷ ls.what) (kid_more u (trees_of ts) (as_made v) ls.what (makes v u f) ls.each) ∙ ls.all

    pub linked : (w : l.What) (ts : List Tree) → Links given w ts → AreLinked w ts
    linked w ts l.no_link = record { what = []; each = refl; all = no_links w }
    linked w ts (l.integer_linked {how = o} {t = u} {ts = us} f fs) =
        let ls : AreLinked l.an_integer us = linked l.an_integer us fs in
        record {
          what = a_linked_integer ∷ ls.what;
          each = kid_more (one (head.Link o) u) (trees_of us) a_linked_integer ls.what
              (one_gives (head.Link o) u (as_made l.an_integer) refl (makes l.an_integer u f)) ls.each;
          all = ls.all;
        }
    linked w ts (l.pointer_linked {how = o} {p = p} {ts = us} f fs) =
        let ls : AreLinked l.a_pointer us = linked l.a_pointer us fs in
        record {
          what = a_linked_pointer ∷ ls.what;
          each = kid_more (one (head.LinkPointers o) p) (trees_of us) a_linked_pointer ls.what
              (one_gives (head.LinkPointers o) p (as_made l.a_pointer) refl (makes l.a_pointer p f)) ls.each;
          all = ls.all;
        }

  -- ---- terms

  pub of_sort : (t : Tree) (s : Sort) → FitsSort given t s → (w : What) × (sort_gives s ≡ Some w) × Gives k ns w t
  of_sort t (sort.Object type label) f = (an_object, refl, makes l.an_object t f)
  of_sort t (sort.Integer known) f = (an_integer, refl, makes l.an_integer t f)
  of_sort t (sort.Pointer type null) f = (a_pointer, refl, makes l.a_pointer t f)
  of_sort t sort.Unknown f = absurd f

  pub is_of_its_sort : (x : Operand) → Fits given x → IsOfItsSort k ns x
  is_of_its_sort x f = let p : (w : What) ×
      (sort_gives x.sort ≡ Some w) × Gives k ns w x.tree = of_sort x.tree x.sort f in record { given = p.0; sort = p.1; tree = p.2 }
