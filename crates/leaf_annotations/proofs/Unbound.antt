-- Closed terms mean the same whatever binders are, so a reading stands as before.
use Rattle.std.proofs.Common.{◌≡◌, ℕ, ℤ, ◌-ℤ◌, Bool, true, false, not, ◌&&◌, ◌||◌, cond, List, [], ◌∷◌, pos, refl, sym, ap, ◌∙◌, subst}
use Rattle.std.specs.Prelude.{Option, Some, None}
use Rattle.std.specs.List.{list_any}
use Rattle.std.specs.Str.{bytes_eq}
use Rattle.std.proofs.lemmas.Bool.{and_parts, false≢true}
use Rattle.wp_base.specs.Blocks.{to_nat}
use Rattle.typed_prog.specs.declared.operators.Variable.{Variable}
use Rattle.c_runs.specs.TruthStates as state
use Rattle.c_runs.specs.TruthStates.{Value, State, World}
use Rattle.qed_terms.specs.declared.head.Sort.TheVariants as sort
use Rattle.qed_terms.specs.declared.head.Head.TheVariants as th
use Rattle.qed_terms.specs.Tree.{Tree as Term, Trees, node, stop, more}
use Rattle.qed_terms.specs.Meaning as meant
use Rattle.qed_terms.specs.Meaning.{Values, World as Logic, Whole, Truth, whole, is_so, with_int, term_value, form_truth, head_value, all_from, some_from, meaning, meanings}
use Rattle.memory_words.specs.Leaves.{is_marked, is_closed, are_closed}
use Rattle.acsl_encode.specs.Readings as reading
use Rattle.acsl_encode.specs.Readings.{Terms, integer, address, variable, elements, region, nothing, Slot, pointer, home, absent, Seen, Common, Reading, truth}
use Rattle.acsl_encode.specs.Meaning.{Holds, number_in, memory_in, HasAddress, IsOfKind, IsStretch, Means, SlotStands, NumbersHeld, PointersHeld, SeenStands, Stands}
use Rattle.acsl_encode.specs.Binders.{Binders, Later}
use Rattle.leaf_annotations.specs.Closed.{IsClosed, PointerClosed, TermsClosed, SlotClosed, SeenClosed, ReadingClosed}

-- the assignments give the same values to names of memories and tables, and to those without a mark or among these
record Agree (xs : List (List ℕ)) (env env' : Values) : Type 0 where
  ints : (x : List ℕ) → (not (is_marked x) || list_any (bytes_eq x) xs) ≡ true → env.ints x ≡ env'.ints x
  memories : (x : List ℕ) → env.memories x ≡ env'.memories x
  tables : (x : List ℕ) → env.tables x ≡ env'.tables x

below : (xs : List (List ℕ)) (x : List ℕ) (env env' : Values) (z : ℤ) → Agree xs env env' → Agree (x ∷ xs) (with_int env x z) (with_int env' x z)
below xs x env env' z a = record { ints = λ y k. by y (bytes_eq y x) k; memories = a.memories; tables = a.tables }
  where
    by : (y : List ℕ) (b : Bool) → (not (is_marked y) || (b || list_any (bytes_eq y) xs)) ≡ true → cond b z (env.ints y) ≡ cond b z (env'.ints y)
    by y true k = refl
    by y false k = a.ints y k

mutual
  same : (w : Logic) (t : Term) (xs : List (List ℕ)) (env env' : Values) → Agree xs env env' → is_closed xs t ≡ true → meaning w env t ≡ meaning w env' t
  same w (node (th.Num z) ts) xs env env' k c = refl
  same w (node (th.Var x sort.Int) ts) xs env env' k c = ap Whole (k.ints x c)
  same w (node (th.Var x sort.Memory) ts) xs env env' k c = ap meant.Cells (k.memories x)
  same w (node (th.Var x sort.Table) ts) xs env env' k c = ap meant.Blocks (k.tables x)
  same w (node (th.Term o) ts) xs env env' k c = ap (term_value w o) (all_same w ts xs env env' k c)
  same w (node th.Ite ts) xs env env' k c = ap (head_value w env th.Ite) (all_same w ts xs env env' k c)
  same w (node (th.App f) ts) xs env env' k c = ap (λ vs. Whole (w.apps f vs)) (all_same w ts xs env env' k c)
  same w (node (th.Form o) ts) xs env env' k c = ap (λ vs. Truth (form_truth w o vs)) (all_same w ts xs env env' k c)
  same w (node th.True ts) xs env env' k c = refl
  same w (node th.False ts) xs env env' k c = refl
  same w (node th.Not ts) xs env env' k c = ap (head_value w env th.Not) (all_same w ts xs env env' k c)
  same w (node th.And ts) xs env env' k c = ap (head_value w env th.And) (all_same w ts xs env env' k c)
  same w (node th.Or ts) xs env env' k c = ap (head_value w env th.Or) (all_same w ts xs env env' k c)
  same w (node th.Imp ts) xs env env' k c = ap (head_value w env th.Imp) (all_same w ts xs env env' k c)
  same w (node th.Iff ts) xs env env' k c = ap (head_value w env th.Iff) (all_same w ts xs env env' k c)
  same w (node (th.Forall x) (more t (more u (more f stop)))) xs env env' k c =
      let b = and_parts (is_marked x) (is_closed xs t && is_closed xs u && is_closed (x ∷ xs) f) c in
      let p = and_parts (is_closed xs t && is_closed xs u) (is_closed (x ∷ xs) f) b.1 in
      let e = and_parts (is_closed xs t) (is_closed xs u) p.0 in
      let low = same w t xs env env' k e.0 in
      let high = same w u xs env env' k e.1 in
      let body : (z : ℤ) → meaning w (with_int env x z) f ≡ meaning w (with_int env' x z) f =
      λ z. same w f (x ∷ xs) (with_int env x z) (with_int env' x z) (below xs x env env' z k) p.1 in
      λ i. Truth (all_from (whole (low i)) (to_nat (whole (high i) -ℤ whole (low i))) (λ z. is_so (body z i)))
  same w (node (th.Forall x) ts) xs env env' k c = refl
  same w (node (th.Exists x) (more t (more u (more f stop)))) xs env env' k c =
      let b = and_parts (is_marked x) (is_closed xs t && is_closed xs u && is_closed (x ∷ xs) f) c in
      let p = and_parts (is_closed xs t && is_closed xs u) (is_closed (x ∷ xs) f) b.1 in
      let e = and_parts (is_closed xs t) (is_closed xs u) p.0 in
      let low = same w t xs env env' k e.0 in
      let high = same w u xs env env' k e.1 in
      let body : (z : ℤ) → meaning w (with_int env x z) f ≡ meaning w (with_int env' x z) f =
      λ z. same w f (x ∷ xs) (with_int env x z) (with_int env' x z) (below xs x env env' z k) p.1 in
      λ i. Truth (some_from (whole (low i)) (to_nat (whole (high i) -ℤ whole (low i))) (λ z. is_so (body z i)))
  same w (node (th.Exists x) ts) xs env env' k c = refl

  all_same : (w : Logic) (ts : Trees) (xs : List (List ℕ)) (env env' : Values) → Agree xs env env' → are_closed xs ts ≡ true → meanings w env ts ≡ meanings w env' ts
  all_same w stop xs env env' k c = refl
  all_same w (more t ts) xs env env' k c =
      let b = and_parts (is_closed xs t) (are_closed xs ts) c in
      let h = same w t xs env env' k b.0 in
      let rest = all_same w ts xs env env' k b.1 in
      λ i. h i ∷ rest i

-- a name without a mark isn't that of a binder
not_bound : (b : Binders) → ((n : ℕ) → is_marked (b n) ≡ true) → (x : List ℕ) → (not (is_marked x) || false) ≡ true → (n : ℕ) → b n ≡ x → ⊥
not_bound b marked x c n e = by (is_marked x) (sym (ap is_marked e) ∙ marked n) c
  where
    by : (t : Bool) → t ≡ true → (not t || false) ≡ true → ⊥
    by true h k = false≢true k
    by false h k = false≢true h

module _ (q : Logic) (b : Binders) (marked : (n : ℕ) → is_marked (b n) ≡ true) (env env' : Values) (l : Later b 0 env env') where
  pub closed_means : (t : Term) → IsClosed [] t → meaning q env t ≡ meaning q env' t
  closed_means t h = same q t [] env env' (record {
    ints = λ x c. sym (l.ints x (λ n le e. not_bound b marked x c n e));
    memories = λ x. sym (l.memories x);
    tables = λ x. sym (l.tables x);
  }) h

  number_same : (t : Term) → IsClosed [] t → number_in q env t ≡ number_in q env' t
  number_same t h = ap whole (closed_means t h)

  memory_same : (t : Term) → IsClosed [] t → memory_in q env t ≡ memory_in q env' t
  memory_same t h = ap meant.memory (closed_means t h)

  -- what stands there stands under the other values
  still : {X : Type 0} (u p p' : X → Type 0) (o : Option X) → Holds u o → Holds p o → ((x : X) → u x → p x → p' x) → Holds p' o
  still u p p' (Some x) h k made = made x h k
  still u p p' None h k made = tt

  module _ (r : Common) where
    pub terms_stand : (x : Terms) (v : Value) → TermsClosed [] x → Means q r env x v → Means q r env' x v
    terms_stand (integer k t) v u h = subst (λ z. (v ≡ state.number z) × IsOfKind r.model k z) (number_same t u) h
    terms_stand (truth f) v u h = h ∙ ap (λ v. state.truth (is_so v)) (closed_means f u)
    terms_stand (address b o) v u h = let p = number_same b u.0 in let e = number_same o u.1 in (h.0 ∙ (λ i. state.pointer (p i) (e i)), subst HasAddress p h.1)
    terms_stand (variable x) v u h = h
    terms_stand (elements b o n low high) v u h =
        let p = number_same b u.0 in let e = number_same o u.1 in let a = number_same low u.2 in let z = number_same high u.3 in
        h ∙ (λ i. state.addresses (record { block = p i; offset = e i; size = pos n; low = a i; high = z i }))
    terms_stand (region cells b low high) v u h =
        let p = number_same b u.0 in let a = number_same low u.1 in let z = number_same high u.2 in
        subst (λ k. IsStretch cells k (number_in q env' low) (number_in q env' high) v) p
        (subst (λ k. IsStretch cells (number_in q env b) k (number_in q env' high) v) a
        (subst (λ k. IsStretch cells (number_in q env b) (number_in q env low) k v) z h))
    terms_stand nothing v u h = tt

    slot_stands : (x : Variable) (s : Slot) (st : State) → SlotClosed s → SlotStands q r env x s st → SlotStands q r env' x s st
    slot_stands x (reading.whole k t) st u h = (h.0, terms_stand (integer (Some k) t) (st.cells (r.hidden x) (pos 0)) u h.1)
    slot_stands x (reading.any_integer t) st u h = (h.0, terms_stand (integer None t) (st.cells (r.hidden x) (pos 0)) u h.1)
    slot_stands x (pointer b o) st u h = (h.0, terms_stand (address b o) (st.cells (r.hidden x) (pos 0)) u h.1)
    slot_stands x (home b) st u h = let p = number_same b u in (h.0 ∙ p, subst HasAddress p h.1)
    slot_stands x absent st u h = tt

    seen_stands : (s : Seen) (st : State) → SeenClosed s → SeenStands q r env s st → SeenStands q r env' s st
    seen_stands s st u h = record {
      variables = λ x. slot_stands x (s.variable x) st (u.variables x) (h.variables x);
      table = still (IsClosed []) (λ t. meant.table (meaning q env t) ≡ st.blocks) (λ t. meant.table (meaning q env' t) ≡ st.blocks) s.table u.table h.table
          (λ t v k. ap meant.table (sym (closed_means t v)) ∙ k);
      numbers = λ k. still (IsClosed []) (λ t. NumbersHeld r.model k (memory_in q env t) st) (λ t. NumbersHeld r.model k (memory_in q env' t) st) (s.numbers k)
          (u.numbers k)
          (h.numbers k) (λ t v held. subst (λ m. NumbersHeld r.model k m st) (memory_same t v) held);
      pointers = still (PointerClosed []) (λ p. PointersHeld (memory_in q env p.block) (memory_in q env p.offset) st)
          (λ p. PointersHeld (memory_in q env' p.block) (memory_in q env' p.offset) st) s.pointers u.pointers h.pointers
          (λ p v held. subst (λ m. PointersHeld (memory_in q env' p.block) m st) (memory_same p.offset v.1)
          (subst (λ m. PointersHeld m (memory_in q env p.offset) st) (memory_same p.block v.0) held));
    }

pub still_stands : (q : Logic) (r : Reading) (env : Values) (w : World) → ReadingClosed r → Stands q r env w → (env' : Values)
    → Later r.common.binder 0 env env' → Stands q r env' w
still_stands q r env w u h env' l = record {
  here = seen r.here w.here u.here h.here;
  pre = seen r.pre w.pre u.pre h.pre;
  post = seen r.post w.post u.post h.post;
  loop_entry = seen r.loop_entry w.loop_entry u.loop_entry h.loop_entry;
  result = terms_stand q r.common.binder u.binders env env' l r.common r.result w.result u.result h.result;
  model = h.model;
  structs = h.structs;
  hidden = h.hidden;
  homes = h.homes;
  long_bits = h.long_bits;
}
  where
    seen : (s : Seen) (st : State) → SeenClosed s → SeenStands q r.common env s st → SeenStands q r.common env' s st
    seen s st v k = seen_stands q r.common.binder u.binders env env' l r.common s st v k
