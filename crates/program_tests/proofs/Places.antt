-- What objects, sets and pointers of annotations are in a state: where they are, and that no pointer leads to a variable that none may lead to.
use Rattle.std.proofs.Common.{◌≡◌, ℕ, Bool, true, false, if◌then◌else◌, ℤ, pos, negsuc, [], ◌∷◌, Some, None, refl, sym, ap, subst, ◌∙◌}
use Rattle.std.specs.Prelude.{◌+ℤ◌, ◌*ℤ◌, neg_ℤ, slice_get}
use Rattle.std.proofs.lemmas.Bool.{and_parts}
use Rattle.wp_base.specs.declared.kinds.CellKind.TheVariants as cell
use Rattle.typed_prog.specs.declared.operators.Variable.{Variable}
use Rattle.acsl_trees.specs.declared.heads.Content.TheVariants as content
use Rattle.acsl_trees.specs.declared.heads.Label.{Label}
use Rattle.acsl_trees.specs.declared.heads.Label.TheVariants as label
use Rattle.acsl_trees.specs.declared.heads.Head.TheVariants as head
use Rattle.acsl_trees.specs.Tree.{Tree, Trees, node, stop, more}
use Rattle.c_runs.specs.TruthStates.{Value, number, pointer, addresses, region, Span, State, World, null, block_of, offset_of, number_of, is_negative, of_kind, held, may_read, is_true, moved_to, state_at, read}
use Rattle.c_runs.specs.Truth.{Calls, Env, value, values, moved, moved_by, reached, second, third}
use Rattle.acsl_well_typed.specs.WellTyped.{an_integer, a_pointer, an_object, Known, no_name, binder_of, gives, returned, what_of, kids_give}
use Rattle.annotations_encoded.specs.Sights.{Site, holds_integer, holds_pointer, has_block, unknown, Sight, Sights, sight_at}
use Rattle.annotations_encoded.specs.Sights as sights
use Rattle.annotations_encoded.specs.Shapes.{Shape, an_address, a_variable, a_set, no_shape, shape_at, part_of, elements_of, either_of, shape}
use Rattle.annotations_encoded.specs.Serving.{holds_content, is_read, is_address, is_result, may_call, serves, all_serve}
use Rattle.annotations_encoded.proofs.Kids.{node_given}
use Rattle.program_tests.proofs.Pointers.{gives_pointer, chosen_kids, chosen_objects, at_kids, node_kids, one_more, none_left, kid_is, no_kid, pointed_has, field_has, element_has, elements_has, behind_has, read_has, address_has, moved_has, call_no, result_no, name_no}

-- ---- states, as they are seen

-- a pointer, to a block that pointers may lead to
pub record LeadsWell (v : Value) : Type 0 where
  pub block : ℤ
  pub offset : ℤ
  pub is : v ≡ pointer block offset
  pub there : is_negative block ≡ false

-- addresses of elements of so many cells of such a block
pub record AreElements (size : ℕ) (v : Value) : Type 0 where
  pub span : Span
  pub is : v ≡ addresses span
  pub sized : span.size ≡ pos size
  pub there : is_negative span.block ≡ false

abbrev pub is_plain_site : Site → Bool
is_plain_site (holds_integer k) = true
is_plain_site holds_pointer = true
is_plain_site has_block = false
is_plain_site unknown = false

-- variables that no pointer leads to have these blocks
module _ (homes : Variable → ℤ) where
  -- A state is seen so: what has a block has one that pointers may lead to, the blocks of other variables are theirs, and pointers lead to blocks.
  pub record IsSeen (z : Sight) (s : State) : Type 0 where
    pub reads : (n : ℕ) (o : ℤ) → is_negative (block_of (held cell.Ptr s (pos n) o)) ≡ false
    pub blocks : (x : Variable) → z.site x ≡ has_block → is_negative (s.home x) ≡ false
    pub plain : (x : Variable) → is_plain_site (z.site x) ≡ true → s.home x ≡ homes x
    pub pointers : (x : Variable) → z.site x ≡ holds_pointer → is_negative (block_of (held cell.Ptr s (homes x) (pos 0))) ≡ false

  -- and so are those of labels; nothing is returned
  pub record AreSeen (g : Sights) (w : World) : Type 0 where
    pub here : IsSeen g.here w.here
    pub pre : IsSeen g.pre w.pre
    pub post : IsSeen g.post w.post
    pub loop_entry : IsSeen g.loop_entry w.loop_entry
    pub result : g.result ≡ None

  -- what an object or a set of this shape is
  abbrev pub HasPlace : Shape → Value → Type 0
  HasPlace an_address v = LeadsWell v
  HasPlace (a_variable x) v = v ≡ pointer (homes x) (pos 0)
  HasPlace (a_set size) v = AreElements size v
  HasPlace no_shape v = Unit {0}

  -- ---- states of labels

  seen_at : (l : Label) (g : Sights) (w : World) → AreSeen g w → IsSeen (sight_at l g) (state_at l w)
  seen_at label.Here g w h = h.here
  seen_at label.Pre g w h = h.pre
  seen_at label.Post g w h = h.post
  seen_at label.LoopEntry g w h = h.loop_entry

  seen_moved : (l : Label) (g : Sights) (w : World) → AreSeen g w → AreSeen (sights.moved l g) (moved_to l w)
  seen_moved l g w h = record { here = seen_at l g w h; pre = h.pre; post = h.post; loop_entry = h.loop_entry; result = h.result }

  -- ---- pointers that are moved

  moved_well : (v : Value) (i : ℤ) → LeadsWell v → LeadsWell (moved v i)
  moved_well v i h = record { block = h.block; offset = h.offset +ℤ i; is = ap (λ v. moved v i) h.is; there = h.there }

  moved_by_well : (minus : Bool) (size : ℕ) (v i : Value) → LeadsWell v → LeadsWell (moved_by minus size v i)
  moved_by_well true size v i h = moved_well v (neg_ℤ (pos size *ℤ number_of i)) h
  moved_by_well false size v i h = moved_well v (pos size *ℤ number_of i) h

  part_there : (z : Shape) (v : Value) (i : ℤ) → HasPlace z v → HasPlace (part_of z) (moved v i)
  part_there an_address v i h = moved_well v i h
  part_there (a_variable x) v i h = tt
  part_there (a_set size) v i h = tt
  part_there no_shape v i h = tt

  reached_there : (size : ℕ) (v i j : Value) → LeadsWell v → AreElements size (reached size v i j)
  reached_there size v i j h = record {
    span = record { block = block_of v; offset = offset_of v; size = pos size; low = number_of i; high = number_of j };
    is = refl;
    sized = refl;
    there = ap (λ v. is_negative (block_of v)) h.is ∙ h.there;
  }

  elements_there : (size : ℕ) (z : Shape) (v i j : Value) → HasPlace z v → HasPlace (elements_of size z) (reached size v i j)
  elements_there size an_address v i j h = reached_there size v i j h
  elements_there size (a_variable x) v i j h = tt
  elements_there size (a_set n) v i j h = tt
  elements_there size no_shape v i j h = tt

  -- ---- what is chosen

  either_well : (b : Bool) (u v : Value) → LeadsWell u → LeadsWell v → LeadsWell (if b then u else v)
  either_well true u v h k = h
  either_well false u v h k = k

  either_there : (b : Bool) (z s : Shape) (u v : Value) → HasPlace z u → HasPlace s v → HasPlace (either_of z s) (if b then u else v)
  either_there b an_address an_address u v h k = either_well b u v h k
  either_there b an_address (a_variable x) u v h k = tt
  either_there b an_address (a_set size) u v h k = tt
  either_there b an_address no_shape u v h k = tt
  either_there b (a_variable x) s u v h k = tt
  either_there b (a_set size) s u v h k = tt
  either_there b no_shape s u v h k = tt

  -- ---- variables

  site_there : (x : Variable) (z : Site) (b : ℤ) → (z ≡ has_block → is_negative b ≡ false) → (is_plain_site z ≡ true → b ≡ homes x)
      → HasPlace (shape_at x z) (pointer b (pos 0))
  site_there x (holds_integer k) b block plain = ap (λ b. pointer b (pos 0)) (plain refl)
  site_there x holds_pointer b block plain = ap (λ b. pointer b (pos 0)) (plain refl)
  site_there x has_block b block plain = record { block = b; offset = pos 0; is = refl; there = block refl }
  site_there x unknown b block plain = tt

  -- ---- what is read

  of_pointer : (v : Value) → of_kind cell.Ptr v ≡ pointer (block_of (of_kind cell.Ptr v)) (offset_of (of_kind cell.Ptr v))
  of_pointer (number z) = refl
  of_pointer (pointer b o) = refl
  of_pointer (addresses s) = refl
  of_pointer (region ks s) = refl

  held_pointer : (s : State) (b o : ℤ) → held cell.Ptr s b o ≡ pointer (block_of (held cell.Ptr s b o)) (offset_of (held cell.Ptr s b o))
  held_pointer s b o = by (may_read cell.Ptr s b o) where
    by : (c : Bool) → (if c then of_kind cell.Ptr (s.cells b o) else null)
        ≡ pointer (block_of (if c then of_kind cell.Ptr (s.cells b o) else null)) (offset_of (if c then of_kind cell.Ptr (s.cells b o) else null))
    by true = of_pointer (s.cells b o)
    by false = refl

  held_well : (s : State) (b o : ℤ) → is_negative (block_of (held cell.Ptr s b o)) ≡ false → LeadsWell (held cell.Ptr s b o)
  held_well s b o h = record { block = _; offset = _; is = held_pointer s b o; there = h }

  block_read : (z : Sight) (s : State) → IsSeen z s → (b o : ℤ) → is_negative b ≡ false → LeadsWell (held cell.Ptr s b o)
  block_read z s h (pos n) o there = held_well s (pos n) o (h.reads n o)
  block_read z s h (negsuc n) o there = absurd cc

  pointer_site : (z : Site) → holds_content content.Pointer z ≡ true → z ≡ holds_pointer
  pointer_site (holds_integer k) h = absurd cc
  pointer_site holds_pointer h = refl
  pointer_site has_block h = absurd cc
  pointer_site unknown h = absurd cc

  read_well : (z : Sight) (s : State) → IsSeen z s → (sh : Shape) (v : Value) → HasPlace sh v → is_read content.Pointer z sh ≡ true → LeadsWell (read content.Pointer s v)
  read_well z s h an_address v there e = subst (λ v. LeadsWell (held cell.Ptr s (block_of v) (offset_of v))) (sym there.is) (block_read z s h there.block there.offset there.there)
  read_well z s h (a_variable x) v there e =
      subst (λ v. LeadsWell (held cell.Ptr s (block_of v) (offset_of v))) (sym there)
      (held_well s (homes x) (pos 0) (h.pointers x (pointer_site (z.site x) e)))
  read_well z s h (a_set size) v there e = absurd cc
  read_well z s h no_shape v there e = absurd cc

  address_well : (sh : Shape) (v : Value) → HasPlace sh v → is_address sh ≡ true → LeadsWell v
  address_well an_address v h e = h
  address_well (a_variable x) v h e = absurd cc
  address_well (a_set size) v h e = absurd cc
  address_well no_shape v h e = absurd cc

  -- ---- trees

  module _ (k : Known) (m : Calls) (env : Env) (d : ℕ) where
    abbrev Is : World → Tree → Value
    Is w t = value m env d w t

    first_is : (g : Sights) (t : Tree) (ts : Trees) → all_serve k g (more t ts) ≡ true → serves k g t ≡ true
    first_is g t ts h = (and_parts (serves k g t) (all_serve k g ts) h).0

    second_is : (g : Sights) (t u : Tree) (ts : Trees) → all_serve k g (more t (more u ts)) ≡ true → serves k g u ≡ true
    second_is g t u ts h = first_is g u ts (and_parts (serves k g t) (all_serve k g (more u ts)) h).1

    third_is : (g : Sights) (t u v : Tree) (ts : Trees) → all_serve k g (more t (more u (more v ts))) ≡ true → serves k g v ≡ true
    third_is g t u v ts h = second_is g u v ts (and_parts (serves k g t) (all_serve k g (more u (more v ts))) h).1

    choice_kids : (ks : Trees) → what_of k [] (node head.Choose ks) ≡ Some a_pointer → kids_give k [] no_name ks ≡ Some (an_integer ∷ a_pointer ∷ a_pointer ∷ [])
    choice_kids ks e = node_kids k head.Choose ks a_pointer (an_integer ∷ a_pointer ∷ a_pointer ∷ []) (λ us i. chosen_kids k us i) e

    abbrev IsObject : Tree → Type 0
    IsObject t = (g : Sights) (w : World) → AreSeen g w → what_of k [] t ≡ Some an_object → serves k g t ≡ true → HasPlace (shape g t) (Is w t)

    abbrev IsPointer : Tree → Type 0
    IsPointer t = (g : Sights) (w : World) → AreSeen g w → what_of k [] t ≡ Some a_pointer → serves k g t ≡ true → LeadsWell (Is w t)

    mutual
      pub object : (t : Tree) → IsObject t
      object (node (head.Variable x) ks) g w h e s = site_there x (g.here.site x) (w.here.home x) (h.here.blocks x) (h.here.plain x)
      object (node head.Pointed stop) g w h e s = absurd (no_kid k head.Pointed an_object a_pointer [] (pointed_has k) e)
      object (node head.Pointed (more t ts)) g w h e s =
          address t g w h (kid_is k head.Pointed t ts an_object a_pointer [] (pointed_has k) e) (first_is g t ts s)
      object (node (head.Field n o) (more t ts)) g w h e s =
          let f = kid_is k (head.Field n o) t ts an_object an_object [] (field_has k n o) e in
          part_there (shape g t) (Is w t) (pos o) (object t g w h f (first_is g t ts s))
      object (node (head.Element n c) (more t ts)) g w h e s =
          let f = kid_is k (head.Element n c) t ts an_object an_object (an_integer ∷ []) (element_has k n c) e in
          part_there (shape g t) (Is w t) (pos n *ℤ number_of (second (values m env d w (more t ts)))) (object t g w h f (first_is g t ts s))
      object (node (head.Elements n c) (more t ts)) g w h e s =
          let f = kid_is k (head.Elements n c) t ts an_object an_object (an_integer ∷ an_integer ∷ []) (elements_has k n c) e in
          let vs = values m env d w (more t ts) in elements_there n (shape g t) (Is w t) (second vs) (third vs) (object t g w h f (first_is g t ts s))
      object (node (head.Behind n) stop) g w h e s = absurd (no_kid k (head.Behind n) an_object a_pointer (an_integer ∷ an_integer ∷ []) (behind_has k n) e)
      object (node (head.Behind n) (more t ts)) g w h e s =
          let f = kid_is k (head.Behind n) t ts an_object a_pointer (an_integer ∷ an_integer ∷ []) (behind_has k n) e in
          let vs = values m env d w (more t ts) in reached_there n (Is w t) (second vs) (third vs) (address t g w h f (first_is g t ts s))
      object (node (head.At l) (more t ts)) g w h e s =
          let f = kid_is k (head.At l) t ts an_object an_object [] (λ us i. at_kids k l us an_object i) e in
          object t (sights.moved l g) (moved_to l w) (seen_moved l g w h) f (first_is (sights.moved l g) t ts s)
      object (node head.Choose (more c (more t (more u ts)))) g w h e s =
          let f = one_more k c (more t (more u ts)) an_integer (an_object ∷ an_object ∷ [])
          (node_kids k head.Choose (more c (more t (more u ts))) an_object (an_integer ∷ an_object ∷ an_object ∷ []) (λ us i. chosen_objects k us i) e) in
          let first = one_more k t (more u ts) an_object (an_object ∷ []) f.1 in
          let second = one_more k u ts an_object [] first.1 in
          either_there (is_true (Is w c)) (shape g t) (shape g u) (Is w t) (Is w u) (object t g w h first.0 (second_is g c t (more u ts) s))
          (object u g w h second.0 (third_is g c t u ts s))
      object t g w h e s = tt

      pub address : (t : Tree) → IsPointer t
      address (node head.Null ks) g w h e s = record { block = pos 0; offset = pos 0; is = refl; there = refl }
      address (node (head.At l) stop) g w h e s = absurd (no_kid k (head.At l) a_pointer a_pointer [] (λ us i. at_kids k l us a_pointer i) e)
      address (node (head.At l) (more t ts)) g w h e s =
          let f = kid_is k (head.At l) t ts a_pointer a_pointer [] (λ us i. at_kids k l us a_pointer i) e in
          address t (sights.moved l g) (moved_to l w) (seen_moved l g w h) f (first_is (sights.moved l g) t ts s)
      address (node (head.Read content.Pointer l) stop) g w h e s = absurd (no_kid k (head.Read content.Pointer l) a_pointer an_object [] (read_has k l) e)
      address (node (head.Read content.Pointer None) (more t ts)) g w h e s =
          let f = kid_is k (head.Read content.Pointer None) t ts a_pointer an_object [] (read_has k None) e in
          let b = and_parts (is_read content.Pointer g.here (shape g t)) (all_serve k g (more t ts)) s in
          read_well g.here w.here h.here (shape g t) (Is w t) (object t g w h f (first_is g t ts b.1)) b.0
      address (node (head.Read content.Pointer (Some l)) (more t ts)) g w h e s =
          let f = kid_is k (head.Read content.Pointer (Some l)) t ts a_pointer an_object [] (read_has k (Some l)) e in
          let b = and_parts (is_read content.Pointer (sight_at l g) (shape g t)) (all_serve k g (more t ts)) s in
          read_well (sight_at l g) (state_at l w) (seen_at l g w h) (shape g t) (Is w t) (object t g w h f (first_is g t ts b.1)) b.0
      address (node head.Address stop) g w h e s = absurd (no_kid k head.Address a_pointer an_object [] (address_has k) e)
      address (node head.Address (more t ts)) g w h e s =
          let f = kid_is k head.Address t ts a_pointer an_object [] (address_has k) e in
          let b = and_parts (is_address (shape g t)) (all_serve k g (more t ts)) s in
          address_well (shape g t) (Is w t) (object t g w h f (first_is g t ts b.1)) b.0
      address (node (head.Moved minus n) stop) g w h e s = absurd (no_kid k (head.Moved minus n) a_pointer a_pointer (an_integer ∷ []) (moved_has k minus n) e)
      address (node (head.Moved minus n) (more t ts)) g w h e s =
          let f = kid_is k (head.Moved minus n) t ts a_pointer a_pointer (an_integer ∷ []) (moved_has k minus n) e in
          moved_by_well minus n (Is w t) (second (values m env d w (more t ts))) (address t g w h f (first_is g t ts s))
      address (node head.Choose stop) g w h e s = absurd (none_left k an_integer (a_pointer ∷ a_pointer ∷ []) (choice_kids stop e))
      address (node head.Choose (more c stop)) g w h e s =
          absurd (none_left k a_pointer (a_pointer ∷ []) (one_more k c stop an_integer (a_pointer ∷ a_pointer ∷ []) (choice_kids (more c stop) e)).1)
      address (node head.Choose (more c (more t stop))) g w h e s =
          let f = one_more k c (more t stop) an_integer (a_pointer ∷ a_pointer ∷ []) (choice_kids (more c (more t stop)) e) in
          absurd (none_left k a_pointer [] (one_more k t stop a_pointer (a_pointer ∷ []) f.1).1)
      address (node head.Choose (more c (more t (more u ts)))) g w h e s =
          let f = one_more k c (more t (more u ts)) an_integer (a_pointer ∷ a_pointer ∷ []) (choice_kids (more c (more t (more u ts))) e) in
          let first = one_more k t (more u ts) a_pointer (a_pointer ∷ []) f.1 in
          let second = one_more k u ts a_pointer [] first.1 in
          either_well (is_true (Is w c)) (Is w t) (Is w u) (address t g w h first.0 (second_is g c t (more u ts) s))
          (address u g w h second.0 (third_is g c t u ts s))
      address (node head.Result ks) g w h e s =
          let b = and_parts (is_result (returned k.result) g.result) (all_serve k g ks) s in
          absurd (result_no (returned k.result) (subst (λ o. is_result (returned k.result) o ≡ true) h.result b.0))
      address (node (head.Name i) ks) g w h e s =
          let p = node_given (gives k [] (head.Name i)) (kids_give k [] no_name ks) a_pointer e in absurd (name_no k i p.0 p.2)
      address (node (head.Call i) ks) g w h e s =
          let p = node_given (gives k [] (head.Call i)) (kids_give k [] no_name ks) a_pointer e in
          absurd (call_no g (slice_get k.definitions i) (g.called i) p.0
          (and_parts (may_call g (slice_get k.definitions i) (g.called i)) (all_serve k g ks) s).0 p.2)
      address (node a ks) g w h e s =
          let p = node_given (gives k [] a) (kids_give k [] (binder_of a) ks) a_pointer e in absurd (gives_pointer k a p.0 p.2)
