-- Terms without names of binders mean the same whatever binders are, so a reading stands as before.
use Rattle.std.proofs.Common.{◌≡◌, ℕ, true, sym, ap, ◌∙◌, subst}
use Rattle.std.specs.Prelude.{pos, Option, Some, None, List}
use Rattle.qed_terms.specs.Fresh.{Lacks}
use Rattle.typed_prog.specs.declared.operators.Variable.{Variable}
use Rattle.c_runs.specs.TruthStates as state
use Rattle.c_runs.specs.TruthStates.{Value, State, World}
use Rattle.qed_terms.specs.declared.head.Sort.{Sort}
use Rattle.qed_terms.specs.declared.head.Sort.TheVariants as sort
use Rattle.qed_terms.specs.Tree.{Tree as Term}
use Rattle.qed_terms.specs.Free.{is_free}
use Rattle.qed_terms.specs.Meaning as meant
use Rattle.qed_terms.specs.Meaning.{Values, World as Logic, Whole, Cells, Blocks, value_of, meaning, whole, is_so}
use Rattle.qed_terms.proofs.FreeNames.{meaning_of_free_names}
use Rattle.acsl_encode.specs.Readings.{Terms, integer, truth, address, variable, elements, region, nothing, Slot, pointer, home, absent, Seen, Common, Reading}
use Rattle.acsl_encode.specs.Readings as reading
use Rattle.acsl_encode.specs.Meaning.{Holds, number_in, Means, IsOfKind, HasAddress, IsStretch, SlotStands, SeenStands, Stands, NumbersHeld, PointersHeld}
use Rattle.acsl_encode.specs.Meaning.{memory_in}
use Rattle.acsl_encode.specs.Binders.{Binders, Spelled, numbered, IsUnmarked, Later, mark}
use Rattle.acsl_encode.specs.Laws.{TermsUnmarked, SlotUnmarked, SeenUnmarked, IsUnbound}
use Rattle.acsl_encode.proofs.Naming.{has_mark}

module _ (q : Logic) (names : Spelled) (b : Binders) (is : (n : ℕ) → b n ≡ numbered names n) (env env' : Values) (l : Later b 0 env env') where
  pub unmarked_means : (t : Term) → IsUnmarked t → meaning q env t ≡ meaning q env' t
  unmarked_means t h = meaning_of_free_names q t env env' agree
    where
      agree : (x : List ℕ) (s : Sort) → is_free x s t ≡ true → value_of env x s ≡ value_of env' x s
      agree x sort.Int f = ap Whole (sym (l.ints x (λ n le e. has_mark names n (subst (λ y. Lacks mark y) (sym e ∙ is n) (h x sort.Int f)))))
      agree x sort.Memory f = ap Cells (sym (l.memories x))
      agree x sort.Table f = ap Blocks (sym (l.tables x))

  number_same : (t : Term) → IsUnmarked t → number_in q env t ≡ number_in q env' t
  number_same t h = ap whole (unmarked_means t h)

  memory_same : (t : Term) → IsUnmarked t → memory_in q env t ≡ memory_in q env' t
  memory_same t h = ap meant.memory (unmarked_means t h)

  -- what stands there stands under the other values
  still : {X : Type 0} (u p p' : X → Type 0) (o : Option X) → Holds u o → Holds p o → ((x : X) → u x → p x → p' x) → Holds p' o
  still u p p' (Some x) h k made = made x h k
  still u p p' None h k made = tt

  module _ (r : Common) where
    pub terms_stand : (x : Terms) (v : Value) → TermsUnmarked x → Means q r env x v → Means q r env' x v
    terms_stand (integer k t) v u h = subst (λ z. (v ≡ state.number z) × IsOfKind r.model k z) (number_same t u) h
    terms_stand (truth f) v u h = h ∙ ap (λ v. state.truth (is_so v)) (unmarked_means f u)
    terms_stand (address b o) v u h = let p = number_same b u.0 in let e = number_same o u.1 in (h.0 ∙ (λ i. state.pointer (p i) (e i)), subst HasAddress p h.1)
    terms_stand (variable x) v u h = h
    terms_stand (elements b o n low high) v u h =
        let p = number_same b u.0 in let e = number_same o u.1 in let a = number_same low u.2 in let z = number_same high u.3 in
        h ∙ (λ i. state.addresses (record { block = p i; offset = e i; size = pos n; low = a i; high = z i }))
    terms_stand (region cells b low high) v u h =
        let p = number_same b u.0 in let a = number_same low u.1 in let z = number_same high u.2 in
        subst (λ k. IsStretch cells k (number_in q env' low) (number_in q env' high) v) p
        (subst (λ k. IsStretch cells (number_in q env b) k (number_in q env' high) v) a
        (subst (λ k. IsStretch cells (number_in q env b) (number_in q env low) k v) z h))
    terms_stand nothing v u h = tt

    slot_stands : (x : Variable) (s : Slot) (st : State) → SlotUnmarked s → SlotStands q r env x s st → SlotStands q r env' x s st
    slot_stands x (reading.whole k t) st u h = (h.0, terms_stand (integer (Some k) t) (st.cells (r.hidden x) (pos 0)) u h.1)
    slot_stands x (reading.any_integer t) st u h = (h.0, terms_stand (integer None t) (st.cells (r.hidden x) (pos 0)) u h.1)
    slot_stands x (pointer b o) st u h = (h.0, terms_stand (address b o) (st.cells (r.hidden x) (pos 0)) u h.1)
    slot_stands x (home b) st u h = let p = number_same b u in (h.0 ∙ p, subst HasAddress p h.1)
    slot_stands x absent st u h = tt

    seen_stands : (s : Seen) (st : State) → SeenUnmarked s → SeenStands q r env s st → SeenStands q r env' s st
    seen_stands s st u h = record {
      variables = λ x. slot_stands x (s.variable x) st (u.variables x) (h.variables x);
      table = still IsUnmarked (λ t. meant.table (meaning q env t) ≡ st.blocks) (λ t. meant.table (meaning q env' t) ≡ st.blocks) s.table u.table h.table
          (λ t v k. ap meant.table (sym (unmarked_means t v)) ∙ k);
      numbers = λ k. still IsUnmarked (λ t. NumbersHeld r.model k (memory_in q env t) st) (λ t. NumbersHeld r.model k (memory_in q env' t) st) (s.numbers k)
          (u.numbers k)
          (h.numbers k) (λ t v held. subst (λ m. NumbersHeld r.model k m st) (memory_same t v) held);
      pointers = still (λ p. IsUnmarked p.block × IsUnmarked p.offset) (λ p. PointersHeld (memory_in q env p.block) (memory_in q env p.offset) st)
          (λ p. PointersHeld (memory_in q env' p.block) (memory_in q env' p.offset) st) s.pointers u.pointers h.pointers
          (λ p v held. subst (λ m. PointersHeld (memory_in q env' p.block) m st) (memory_same p.offset v.1)
          (subst (λ m. PointersHeld m (memory_in q env p.offset) st) (memory_same p.block v.0) held));
    }

pub still_stands : (q : Logic) (names : Spelled) (r : Reading) (env : Values) (w : World) → IsUnbound names r → Stands q r env w
    → (env' : Values) → Later r.common.binder 0 env env' → Stands q r env' w
still_stands q names r env w u h env' l = record {
  here = seen r.here w.here u.here h.here;
  pre = seen r.pre w.pre u.pre h.pre;
  post = seen r.post w.post u.post h.post;
  loop_entry = seen r.loop_entry w.loop_entry u.loop_entry h.loop_entry;
  result = terms_stand q names r.common.binder u.binders env env' l r.common r.result w.result u.result h.result;
  model = h.model;
  structs = h.structs;
  hidden = h.hidden;
  homes = h.homes;
  long_bits = h.long_bits;
}
  where
    seen : (s : Seen) (st : State) → SeenUnmarked s → SeenStands q r.common env s st → SeenStands q r.common env' s st
    seen s st v k = seen_stands q names r.common.binder u.binders env env' l r.common s st v k
