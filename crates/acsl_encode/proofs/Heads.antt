-- Nodes that bind no name, stand under no label and call nothing: what is made of their kids' terms stands for what is made of their values.
use Rattle.std.proofs.Common.{◌≡◌, Bool, true, false, cond, refl, sym, ap, ◌∙◌, subst}
use Rattle.std.specs.Prelude.{ℤ, pos, Some, None, if◌then◌else◌}
use Rattle.wp_base.specs.declared.kinds.Kind.{Kind}
use Rattle.wp_base.specs.declared.kinds.Kind.TheVariants as kind
use Rattle.wp_base.specs.declared.kinds.CellKind.TheVariants as cell
use Rattle.wp_base.specs.Kinds as base
use Rattle.c_kinds.specs.Models.{holds, convert, long_bits}
use Rattle.c_kinds.specs.Conversions.{holds_all}
use Rattle.c_kinds.proofs.Converting.{conversions_keep}
use Rattle.typed_prog.specs.declared.operators.Variable.{Variable}
use Rattle.acsl_trees.specs.declared.heads.Content.{Content}
use Rattle.acsl_trees.specs.declared.heads.Content.TheVariants as content
use Rattle.acsl_trees.specs.declared.heads.Label.{Label}
use Rattle.acsl_trees.specs.declared.heads.Label.TheVariants as label
use Rattle.c_runs.specs.TruthStates as state
use Rattle.c_runs.specs.TruthStates.{Value, State, World, number_of, block_of, offset_of, is_true, is_negative, of_kind, state_at}
use Rattle.qed_terms.specs.Tree.{Tree as Term, ite}
use Rattle.qed_terms.specs.Meaning.{Values, World as Logic}
use Rattle.acsl_encode.specs.Readings as reading
use Rattle.acsl_encode.specs.Readings.{Pointer, at, Terms, integer, address, variable, elements, region, nothing, Slot, whole, any_integer, pointer, home, absent, Seen}
use Rattle.acsl_encode.specs.Readings.{Reading}
use Rattle.acsl_encode.specs.Readings.{seen_at, seen_in}
use Rattle.acsl_encode.specs.Encode as encode
use Rattle.acsl_encode.specs.Encode.{comparison, pointer_comparison, wrapped, truth_term, op_of, op_two, load, as_integer, as_pointer, as_formula, unbounded}
use Rattle.acsl_encode.specs.Encode.{terms_at, iff_of}
use Rattle.acsl_encode.specs.Meaning.{number_in, is_so_in, Means, SlotStands, SeenStands, Stands, NumbersHeld, PointersHeld, memory_in}
use Rattle.acsl_encode.proofs.Numbers.{minus_zero, truth_is}
use Rattle.acsl_encode.proofs.Operands.{IsNumber, IsTruth, on_one}
use Rattle.acsl_encode.proofs.Operations.{chosen_truth, chosen_number, chosen_pointer, chosen_address, truth_number_is, held_by_wider, hidden_held}

module _ (q : Logic) (r : Reading) (env : Values) where
  abbrev M : Terms → Value → Type 0
  M = Means q r.common env

  abbrev N : Term → ℤ
  N = number_in q env

  abbrev F : Term → Bool
  F = is_so_in q env

  -- ---- variables and cells

  pub variable_means : (x : Variable) (s : Slot) (st : State) → SlotStands q r.common env x s st → M (encode.of_variable x s)
      (state.pointer (st.home x) (pos 0))
  variable_means x (whole k t) st h = ap (λ b. state.pointer b (pos 0)) h.0
  variable_means x (any_integer t) st h = ap (λ b. state.pointer b (pos 0)) h.0
  variable_means x (pointer b o) st h = ap (λ b. state.pointer b (pos 0)) h.0
  variable_means x (home b) st h = (ap (λ b. state.pointer b (pos 0)) h.0, h.1)
  variable_means x absent st h = tt

  held_means : (c : Content) (x : Variable) (s : Slot) (st : State) → is_negative (r.common.hidden x) ≡ true → SlotStands q r.common env x s st
      → M (encode.held c s) (state.read c st (state.pointer (r.common.hidden x) (pos 0)))
  held_means (content.Integer k) x (whole l t) st e h = (hidden_held (cell.Of k) st (r.common.hidden x) (pos 0) e ∙ ap (of_kind (cell.Of k)) h.1.0, h.1.1)
  held_means (content.Integer k) x (any_integer t) st e h = (hidden_held (cell.Of k) st (r.common.hidden x) (pos 0) e ∙ ap (of_kind (cell.Of k)) h.1.0, tt)
  held_means content.Pointer x (pointer b o) st e h = (hidden_held cell.Ptr st (r.common.hidden x) (pos 0) e ∙ ap (of_kind cell.Ptr) h.1.0, h.1.1)
  held_means (content.Integer k) x (pointer b o) st e h = tt
  held_means (content.Integer k) x (home b) st e h = tt
  held_means (content.Integer k) x absent st e h = tt
  held_means content.Pointer x (whole l t) st e h = tt
  held_means content.Pointer x (any_integer t) st e h = tt
  held_means content.Pointer x (home b) st e h = tt
  held_means content.Pointer x absent st e h = tt
  held_means (content.Struct n) x (whole l t) st e h = tt
  held_means (content.Struct n) x (any_integer t) st e h = tt
  held_means (content.Struct n) x (pointer b o) st e h = tt
  held_means (content.Struct n) x (home b) st e h = tt
  held_means (content.Struct n) x absent st e h = tt

  pub read_means : (c : Content) (s : Seen) (st : State) (x : Terms) (v : Value) → ((x : Variable) → is_negative (r.common.hidden x) ≡ true)
      → SeenStands q r.common env s st
      → M x v → M (encode.read c s x) (state.read c st v)
  read_means (content.Integer k) s st (address b o) v e stands h =
      on_one q r.common env (λ t. NumbersHeld r.common.model k (memory_in q env t) st) (λ t. integer (Some k) (load t b o))
      (state.read (content.Integer k) st v) (s.numbers k)
      (stands.numbers k)
      (λ t held. let n = held (N b) (N o) h.1 in (ap (λ v. state.held (cell.Of k) st (block_of v) (offset_of v)) h.0 ∙ n.number, n.kind))
  read_means content.Pointer s st (address b o) v e stands h =
      on_one q r.common env (λ p. PointersHeld (memory_in q env p.block) (memory_in q env p.offset) st) (λ p. address (load p.block b o) (load p.offset b o))
      (state.read content.Pointer st v) s.pointers stands.pointers
      (λ p held. let n = held (N b) (N o) h.1 in (ap (λ v. state.held cell.Ptr st (block_of v) (offset_of v)) h.0 ∙ n.pointer, n.address))
  read_means (content.Struct n) s st (address b o) v e stands h = h
  read_means (content.Integer k) s st (variable x) v e stands h =
      subst (λ v. M (encode.held (content.Integer k) (s.variable x)) (state.read (content.Integer k) st v)) (sym h)
      (held_means (content.Integer k) x (s.variable x) st (e x) (stands.variables x))
  read_means content.Pointer s st (variable x) v e stands h =
      subst (λ v. M (encode.held content.Pointer (s.variable x)) (state.read content.Pointer st v)) (sym h)
      (held_means content.Pointer x (s.variable x) st (e x) (stands.variables x))
  read_means (content.Struct n) s st (variable x) v e stands h = tt
  read_means (content.Integer k) s st (integer l t) v e stands h = tt
  read_means (content.Integer k) s st (reading.truth f) v e stands h = tt
  read_means (content.Integer k) s st (elements b o n i j) v e stands h = tt
  read_means (content.Integer k) s st (region cells b i j) v e stands h = tt
  read_means (content.Integer k) s st nothing v e stands h = tt
  read_means content.Pointer s st (integer l t) v e stands h = tt
  read_means content.Pointer s st (reading.truth f) v e stands h = tt
  read_means content.Pointer s st (elements b o n i j) v e stands h = tt
  read_means content.Pointer s st (region cells b i j) v e stands h = tt
  read_means content.Pointer s st nothing v e stands h = tt
  read_means (content.Struct m) s st (integer l t) v e stands h = tt
  read_means (content.Struct m) s st (reading.truth f) v e stands h = tt
  read_means (content.Struct m) s st (elements b o n i j) v e stands h = tt
  read_means (content.Struct m) s st (region cells b i j) v e stands h = tt
  read_means (content.Struct m) s st nothing v e stands h = tt

  pub at_label : (l : Label) (w : World) → Stands q r env w → SeenStands q r.common env (seen_at l r) (state_at l w)
  at_label label.Here w stands = stands.here
  at_label label.Pre w stands = stands.pre
  at_label label.Post w stands = stands.post
  at_label label.LoopEntry w stands = stands.loop_entry

  -- ---- conversions

  wrapped_is : (k : Kind) (t : Term) → base.convert q.long_bits k (N t) ≡ N (wrapped k t)
  wrapped_is kind.Bool t = sym (truth_number_is (N t)) ∙ ap (λ b. cond b (pos 0) (pos 1)) (sym (minus_zero (N t)))
  wrapped_is kind.Char t = refl
  wrapped_is kind.SChar t = refl
  wrapped_is kind.UChar t = refl
  wrapped_is kind.Short t = refl
  wrapped_is kind.UShort t = refl
  wrapped_is kind.Int t = refl
  wrapped_is kind.UInt t = refl
  wrapped_is kind.Long t = refl
  wrapped_is kind.ULong t = refl
  wrapped_is kind.LLong t = refl
  wrapped_is kind.ULLong t = refl

  module _ (bits : q.long_bits ≡ long_bits r.common.model) where
    wrapped_means : (k : Kind) (t : Term) → M (integer (Some k) (wrapped k t)) (state.number (convert r.common.model k (N t)))
    wrapped_means k t =
        let e : convert r.common.model k (N t) ≡ N (wrapped k t) = ap (λ b. base.convert b k (N t)) (sym bits) ∙ wrapped_is k t in
        (ap state.number e, subst (λ z. holds r.common.model k z ≡ true) e (conversions_keep r.common.model k (N t)).held)

    kept_means : (k l : Kind) (t : Term) → holds r.common.model l (N t) ≡ true
        → M (integer (Some k) (if holds_all r.common.model k l then t else wrapped k t)) (state.number (convert r.common.model k (N t)))
    kept_means k l t h = by (holds_all r.common.model k l) refl
      where
        by : (b : Bool) → holds_all r.common.model k l ≡ b → M (integer (Some k) (if b then t else wrapped k t)) (state.number (convert r.common.model k (N t)))
        by true e = let held = held_by_wider r.common.model k l (N t) e h in (ap state.number ((conversions_keep r.common.model k (N t)).kept held), held)
        by false e = wrapped_means k t

    pub converted_means : (k : Kind) (x : Terms) (v : Value) → M x v → M (encode.converted r.common.model k x)
        (state.number (convert r.common.model k (number_of v)))
    converted_means k (integer (Some l) t) v h =
        subst (λ v. M (encode.converted r.common.model k (integer (Some l) t)) (state.number (convert r.common.model k (number_of v)))) (sym h.0)
        (kept_means k l t h.1)
    converted_means k (integer None t) v h =
        subst (λ v. M (encode.converted r.common.model k (integer None t)) (state.number (convert r.common.model k (number_of v)))) (sym h.0)
        (wrapped_means k t)
    converted_means k (reading.truth f) v h =
        subst (λ v. M (encode.converted r.common.model k (reading.truth f)) (state.number (convert r.common.model k (number_of v)))) (sym (h ∙ truth_is (F f)))
        (wrapped_means k (truth_term f))
    converted_means k (address b o) v h = tt
    converted_means k (variable x) v h = tt
    converted_means k (elements b o n i j) v h = tt
    converted_means k (region cells b i j) v h = tt
    converted_means k nothing v h = tt

  -- ---- choices

  abbrev chosen : Value → Value → Value → Value
  chosen u v w = if is_true u then v else w

  -- the test is known, and what is chosen
  chosen_is : (c : Term) (u v w v' w' : Value) → IsTruth q r.common env u c → v ≡ v' → w ≡ w' → chosen u v w ≡ cond (F c) v' w'
  chosen_is c u v w v' w' t h k = λ i. cond (t i) (h i) (k i)

  two_numbers : (c t t' : Term) (u v w : Value) → IsTruth q r.common env u c → IsNumber q r.common env v t → IsNumber q r.common env w t'
      → M (unbounded (ite c t t')) (chosen u v w)
  two_numbers c t t' u v w e h k = (chosen_is c u v w (state.number (N t)) (state.number (N t')) e h k ∙ chosen_number (F c) (N t) (N t'), tt)

  pub either_means : (x y : Terms) (c : Term) (u v w : Value) → IsTruth q r.common env u c → M x v → M y w → M (encode.either x y c) (chosen u v w)
  either_means (reading.truth f) (reading.truth g) c u v w e h k =
      chosen_is c u v w (state.truth (F f)) (state.truth (F g)) e h k ∙ chosen_truth (F c) (F f) (F g)
  either_means (reading.truth f) (integer l t) c u v w e h k = two_numbers c (truth_term f) t u v w e (h ∙ truth_is (F f)) k.0
  either_means (integer l t) (integer l' t') c u v w e h k = two_numbers c t t' u v w e h.0 k.0
  either_means (integer l t) (reading.truth f) c u v w e h k = two_numbers c t (truth_term f) u v w e h.0 (k ∙ truth_is (F f))
  either_means (address b o) (address b' o') c u v w e h k = (
    chosen_is c u v w (state.pointer (N b) (N o)) (state.pointer (N b') (N o')) e h.0 k.0 ∙ chosen_pointer (F c) (N b) (N o) (N b') (N o'),
    chosen_address (F c) (N b) (N b') h.1 k.1,
  )
  either_means (reading.truth f) (address b o) c u v w e h k = tt
  either_means (reading.truth f) (variable x) c u v w e h k = tt
  either_means (reading.truth f) (elements b o n i j) c u v w e h k = tt
  either_means (reading.truth f) (region cells b i j) c u v w e h k = tt
  either_means (reading.truth f) nothing c u v w e h k = tt
  either_means (integer l t) (address b o) c u v w e h k = tt
  either_means (integer l t) (variable x) c u v w e h k = tt
  either_means (integer l t) (elements b o n i j) c u v w e h k = tt
  either_means (integer l t) (region cells b i j) c u v w e h k = tt
  either_means (integer l t) nothing c u v w e h k = tt
  either_means (address b o) (integer l t) c u v w e h k = tt
  either_means (address b o) (reading.truth f) c u v w e h k = tt
  either_means (address b o) (variable x) c u v w e h k = tt
  either_means (address b o) (elements b' o' n i j) c u v w e h k = tt
  either_means (address b o) (region cells b' i j) c u v w e h k = tt
  either_means (address b o) nothing c u v w e h k = tt
  either_means (variable x) y c u v w e h k = tt
  either_means (elements b o n i j) y c u v w e h k = tt
  either_means (region cells b i j) y c u v w e h k = tt
  either_means nothing y c u v w e h k = tt
