-- A plain variable of the function gets into scope.
use Rattle.std.proofs.Common.{◌≡◌, ℕ, suc, ◌<◌, ℤ, pos, Bool, true, false, not, ◌&&◌, ◌||◌, if◌then◌else◌, List, [], ◌∷◌, map, length, Some, slice_get, refl, sym, ap, ◌∙◌, subst, inl}
use Rattle.std.specs.Prelude.{◌==◌, int_le}
use Rattle.std.specs.List.{list_any}
use Rattle.std.specs.Str.{bytes_eq}
use Rattle.std.proofs.lemmas.Bool.{false≢true, and_parts}
use Rattle.std.proofs.lemmas.Bool.Decides.{Decides-eqb}
use Rattle.wp_base.specs.declared.kinds.CellKind.{CellKind}
use Rattle.wp_base.specs.declared.kinds.CellKind.TheVariants as cell
use Rattle.typed_prog.specs.declared.operators.Variable as code
use Rattle.typed_prog.specs.declared.operators.Variable.TheVariants as variables
use Rattle.qed_terms.specs.Meaning as sense
use Rattle.qed_terms.specs.Meaning.{truth}
use Rattle.qed_terms.specs.Operators.{is_equal}
use Rattle.qed_terms.specs.Tree.{num, var, at_most}
use Rattle.c_runs.specs.TruthStates.{Value, number as c_number, pointer, nothing_of}
use Rattle.c_runs.specs.Program.{Variable, Facts}
use Rattle.c_runs.specs.States.{World, plain, with_local}
use Rattle.c_runs.specs.Entry.{leads_well}
use Rattle.c_runs.specs.CoreRun.{CoreWorld, in_world}
use Rattle.goal_segments.specs.Segments.{IsAny}
use Rattle.typed_memories.proofs.Formed.{nothing_in_range}
use Rattle.walk_steps.specs.State.{at_or}
use Rattle.memory_steps.specs.State.{Datum, State, number, cells as memory_datum, with_slots, IsLike, nothing}
use Rattle.memory_steps.specs.Forms.{AllTold}
use Rattle.memory_steps.specs.Step.{Change, keeps, fresh, Step}
use Rattle.memory_steps.specs.Step as step
use Rattle.memory_steps.specs.Run.{End, goes_on, Changed, Changes, Seg}
use Rattle.memory_steps.specs.Run as seg
use Rattle.memory_steps.proofs.Readings.{changes_then, set_way}
use Rattle.memory_words.specs.Places.{Place, value, offset, flag, result, result_offset, answer, answer_offset, temporary, temporary_offset, numbers, blocks, offsets, Sizes, IsIn, slot, slots_in, held, with_held, number_in, number_at, changes_by, ChangedBy}
use Rattle.memory_words.specs.Leaves as leaves
use Rattle.memory_words.specs.SlotLaws.{PutIs}
use Rattle.memory_words.specs.Leaves.{or_false, closed, leaf_name, leaves_of, before_all}
use Rattle.memory_words.proofs.Lists.{found_below}
use Rattle.memory_words.proofs.Holding.{puts_are_held, slots_are_what_places_hold}
use Rattle.memory_words.proofs.Leaves.{leaf_unmarked, slot_of_leaf}
use Rattle.memory_words.specs.Shapes.{Shape, FileCells, sizes, kind_of, is_pointer_cell}
use Rattle.memory_words.specs.Standing.{Temporaries, IsHeldAs, Frame, StandsFor}
use Rattle.memory_words.proofs.Sorts.{held_number, changed_number}
use Rattle.memory_words.specs.Words.{set_number, set_variable, zero_term, any_facts, is_value_of, is_offset_of, any_change}
use Rattle.memory_words.specs.Puts.{Keeps, IsOfVariable, ScopeHas, MakesLocal, with_two, Gives}
use Rattle.memory_words.specs.PutLaws.{PlainsAreOpened}
use Rattle.memory_words.proofs.PutStanding.{two_same, locals_are_put}
use Rattle.memory_words.proofs.Setting.{locals_are_set, two_held}
use Rattle.memory_words.proofs.Asking.{behind}

-- ---- with a value

zero_gives : (m : sense.World) (p : Facts) (s : Shape) (cells : FileCells) (z : Sizes) (olds : List State) (a : Place) (st : State) (k : CellKind)
    → Gives m z olds a k (zero_term m p s cells k) (nothing_of k) st
zero_gives m p s cells z olds a st (cell.Of k) = record { held = refl; stays = refl }
zero_gives m p s cells z olds a st cell.Ptr = record { held = refl; stays = refl }

-- ---- places of the variable

module _ (x : ℕ) where
  itself : (x == x) ≡ true
  itself = (Decides-eqb x x).1 refl

  value_found : (a : Place) → is_value_of x a ≡ true → value (variables.Local x) ≡ a
  value_found (value (variables.Local y)) h = ap (λ y. value (variables.Local y)) ((Decides-eqb x y).0 h)
  value_found (value (variables.Global y)) h = absurd (false≢true h)
  value_found (offset y) h = absurd (false≢true h)
  value_found (flag y) h = absurd (false≢true h)
  value_found result h = absurd (false≢true h)
  value_found result_offset h = absurd (false≢true h)
  value_found answer h = absurd (false≢true h)
  value_found answer_offset h = absurd (false≢true h)
  value_found (temporary n) h = absurd (false≢true h)
  value_found (temporary_offset n) h = absurd (false≢true h)
  value_found (numbers k) h = absurd (false≢true h)
  value_found blocks h = absurd (false≢true h)
  value_found offsets h = absurd (false≢true h)

  offset_found : (a : Place) → is_offset_of x a ≡ true → offset (variables.Local x) ≡ a
  offset_found (offset (variables.Local y)) h = ap (λ y. offset (variables.Local y)) ((Decides-eqb x y).0 h)
  offset_found (offset (variables.Global y)) h = absurd (false≢true h)
  offset_found (value y) h = absurd (false≢true h)
  offset_found (flag y) h = absurd (false≢true h)
  offset_found result h = absurd (false≢true h)
  offset_found result_offset h = absurd (false≢true h)
  offset_found answer h = absurd (false≢true h)
  offset_found answer_offset h = absurd (false≢true h)
  offset_found (temporary n) h = absurd (false≢true h)
  offset_found (temporary_offset n) h = absurd (false≢true h)
  offset_found (numbers k) h = absurd (false≢true h)
  offset_found blocks h = absurd (false≢true h)
  offset_found offsets h = absurd (false≢true h)

-- ---- the fact of a pointer's block

any_told : (m : sense.World) (sts : List State) (n : ℤ) → truth m (leaves_of (before_all (number n) sts)) (closed (at_most (num (pos 0)) (var (leaf_name 0 0)))) ≡ int_le (pos 0) n
any_told m sts n =
    ap (λ b. truth m (leaves_of (before_all (number n) sts)) (or_false b (at_most (num (pos 0)) (var (leaf_name 0 0)))))
    (ap (λ b. (not b || list_any (bytes_eq (leaf_name 0 0)) []) && true) (leaf_unmarked 0 0))
    ∙ ap (λ d. int_le (pos 0) (number_in d))
    (slot_of_leaf nothing (map (λ (st : State). st.slots) (before_all (number n) sts)) 0 0)

facts_told : (m : sense.World) (sts : List State) (k : CellKind) (n : ℤ) → (is_pointer_cell k ≡ true → int_le (pos 0) n ≡ true) → AllTold sts (map (leaves.fact m) (any_facts k)) (number n)
facts_told m sts (cell.Of k) n h = tt
facts_told m sts cell.Ptr n h = ((λ b o. any_told m sts n ∙ h refl), tt)

told_facts : (m : sense.World) (sts : List State) (k : CellKind) (n : ℤ) → AllTold sts (map (leaves.fact m) (any_facts k)) (number n) → is_pointer_cell k ≡ true → int_le (pos 0) n ≡ true
told_facts m sts (cell.Of k) n h is = absurd (false≢true is)
told_facts m sts cell.Ptr n h is = sym (any_told m sts n) ∙ h.0 (pos 0) (pos 0)

-- ---- any value

-- as one or two numbers, of which the block's isn't negative
pub record AnyHeld (k : CellKind) (v : Value) : Type 0 where
  pub first : ℤ
  pub second : ℤ
  pub is : IsHeldAs k v first second
  pub above : is_pointer_cell k ≡ true → int_le (pos 0) first ≡ true

any_held : (k : CellKind) (v : Value) → IsAny k v → AnyHeld k v
any_held (cell.Of k) v (n, e) = record { first = n; second = pos 0; is = e; above = λ h. absurd (false≢true h) }
any_held cell.Ptr v (b, o, e, h) = record { first = b; second = o; is = e; above = λ t. h }

abbrev value_of : CellKind → (first second : ℤ) → Value
value_of (cell.Of k) n o = c_number n
value_of cell.Ptr n o = pointer n o

held_any : (k : CellKind) (n o : ℤ) → (is_pointer_cell k ≡ true → int_le (pos 0) n ≡ true) → IsAny k (value_of k n o)
held_any (cell.Of k) n o h = (n, refl)
held_any cell.Ptr n o h = (n, o, refl, h refl)

value_held : (k : CellKind) (n o : ℤ) → IsHeldAs k (value_of k n o) n o
value_held (cell.Of k) n o = refl
value_held cell.Ptr n o = refl

any_leads : (k : CellKind) (v : Value) → IsAny k v → leads_well v ≡ true
any_leads (cell.Of k) v (n, e) = ap leads_well e
any_leads cell.Ptr v (b, o, e, h) = ap leads_well e ∙ h

like_number : (d : Datum) → IsLike nothing d → (n : ℤ) × (d ≡ number n)
like_number (number n) h = (n, refl)
like_number (memory_datum l) h = absurd h

changes_length : (sts : List State) (cs : List Change) (xs ys : List Datum) → Changes sts cs xs ys → length ys ≡ length xs
changes_length sts [] xs ys e = ap length (sym e)
changes_length sts (c ∷ cs) [] [] h = refl
changes_length sts (c ∷ cs) [] (y ∷ ys) h = absurd h
changes_length sts (c ∷ cs) (x ∷ xs) [] h = absurd h
changes_length sts (c ∷ cs) (x ∷ xs) (y ∷ ys) h = ap suc (changes_length sts cs xs ys h.1)

-- ---- two places that are put

module _ (z : Sizes) (a b : Place) (x y : ℤ) (st : State) (size : length st.slots ≡ slots_in z) (in_a : IsIn z a) (in_b : IsIn z b) where
  two_elsewhere : (k : CellKind) (c : Place) → IsIn z c → (a ≡ c → ⊥) → (is_pointer_cell k ≡ true → b ≡ c → ⊥) → held z (with_two z k a b x y st) c ≡ held z st c
  two_elsewhere (cell.Of k) c in_c from_a from_b = (puts_are_held z a (number x) st in_a size).elsewhere c in_c from_a
  two_elsewhere cell.Ptr c in_c from_a from_b =
      (puts_are_held z b (number y) (with_held z a (number x) st) in_b ((puts_are_held z a (number x) st in_a size).size ∙ size)).elsewhere c in_c (from_b refl)
      ∙ (puts_are_held z a (number x) st in_a size).elsewhere c in_c from_a

  two_first : (k : CellKind) → (b ≡ a → ⊥) → held z (with_two z k a b x y st) a ≡ number x
  two_first (cell.Of k) apart = (puts_are_held z a (number x) st in_a size).here
  two_first cell.Ptr apart =
      (puts_are_held z b (number y) (with_held z a (number x) st) in_b ((puts_are_held z a (number x) st in_a size).size ∙ size)).elsewhere a in_a apart
      ∙ (puts_are_held z a (number x) st in_a size).here

  two_second : (k : CellKind) → is_pointer_cell k ≡ true → held z (with_two z k a b x y st) b ≡ number y
  two_second (cell.Of k) is = absurd (false≢true is)
  two_second cell.Ptr is = (puts_are_held z b (number y) (with_held z a (number x) st) in_b ((puts_are_held z a (number x) st in_a size).size ∙ size)).here

  two_size : (k : CellKind) → length (with_two z k a b x y st).slots ≡ slots_in z
  two_size (cell.Of k) = (puts_are_held z a (number x) st in_a size).size ∙ size
  two_size cell.Ptr =
      (puts_are_held z b (number y) (with_held z a (number x) st) in_b ((puts_are_held z a (number x) st in_a size).size ∙ size)).size
      ∙ (puts_are_held z a (number x) st in_a size).size ∙ size

  two_slots : (k : CellKind) → with_slots st (with_two z k a b x y st).slots ≡ with_two z k a b x y st
  two_slots (cell.Of k) = refl
  two_slots cell.Ptr = refl

apart_parts : {x : code.Variable} → offset x ≡ value x → ⊥
apart_parts e = cc

flag_value : {x : code.Variable} → flag x ≡ value x → ⊥
flag_value e = cc

flag_offset : {x : code.Variable} → flag x ≡ offset x → ⊥
flag_offset e = cc

-- ---- without a value

module _ (m : sense.World) (p : Facts) (s : Shape) (cells : FileCells) (fr : Frame) (f : Temporaries) (c : CoreWorld) (st : State) (stands : StandsFor p s cells fr f c st)
    (olds : List State) (x : ℕ) (y : Variable) (found : slice_get s.variables x ≡ Some y) (plainly : y.is_plain ≡ true) (out : fr.in_scope x ≡ false) (frame : Frame)
    (scope : ScopeHas x fr frame) where
  abbrev z : Sizes
  z = sizes p s

  abbrev k : CellKind
  k = kind_of y

  abbrev sts : List State
  sts = st ∷ olds

  abbrev a : Place
  a = value (variables.Local x)

  abbrev b : Place
  b = offset (variables.Local x)

  abbrev w : Place
  w = flag (variables.Local x)

  there : x < length s.variables
  there = found_below s.variables x y found

  abbrev Change_at : Place → Change
  Change_at = any_change m p s cells k x

  abbrev set_flag : Step
  set_flag = set_number m z w (num (pos 0))

  abbrev word : Step
  word = step.seq (step.change (changes_by z Change_at)) set_flag

  by_places : (ds : List Datum) → length ds ≡ slots_in z → Changes sts (changes_by z Change_at) st.slots ds → ChangedBy z sts Change_at st.slots ds
  by_places ds size h = ((slots_are_what_places_hold z).changes sts Change_at st.slots ds stands.size size).0 h

  to_places : (ds : List Datum) → length ds ≡ slots_in z → ChangedBy z sts Change_at st.slots ds → Changes sts (changes_by z Change_at) st.slots ds
  to_places ds size h = ((slots_are_what_places_hold z).changes sts Change_at st.slots ds stands.size size).1 h

  -- ---- from a state whose places have changed so

  abbrev flagged : State → State
  flagged mid = with_held z w (number (pos 0)) mid

  module _ (ds : List Datum) (size : length ds ≡ slots_in z) (changed : ChangedBy z sts Change_at st.slots ds) where
    abbrev mid : State
    mid = with_slots st ds

    kept : (d : Place) → IsIn z d → (IsOfVariable (variables.Local x) d → ⊥) → held z mid d ≡ held z st d
    kept d in_d apart = by (is_value_of x d) (is_pointer_cell k && is_offset_of x d) refl refl (changed d in_d) where
      by : (t u : Bool) → is_value_of x d ≡ t → (is_pointer_cell k && is_offset_of x d) ≡ u
          → Changed sts (if t then fresh (map (leaves.fact m) (any_facts k)) else if u then fresh [] else keeps) (held z st d) (at_or nothing ds (slot z d))
          → held z mid d ≡ held z st d
      by true u e g h = absurd (apart (subst (IsOfVariable (variables.Local x)) (value_found x d e) refl))
      by false true e g h = absurd (apart (subst (IsOfVariable (variables.Local x)) (offset_found x d (and_parts (is_pointer_cell k) (is_offset_of x d) g).1) refl))
      by false false e g h = sym h

    flag_put : PutIs z w (number (pos 0)) mid
    flag_put = puts_are_held z w (number (pos 0)) mid there size

    flagged_keeps : Keeps z f (IsOfVariable (variables.Local x)) st (flagged mid)
    flagged_keeps = record {
      size = flag_put.size ∙ size;
      table = refl;
      same = λ d in_d counted apart. flag_put.elsewhere d in_d (λ e. apart (subst (IsOfVariable (variables.Local x)) e refl)) ∙ kept d in_d apart;
      sorted = λ d in_d was. held_number z w (pos 0) mid d (changed_number sts (Change_at d) (held z st d) (held z mid d) (changed d in_d) was);
    }

    flagged_stands : y.has_value ≡ false → (v : Value) → IsAny k v → IsHeldAs k v (number_at z mid a) (number_at z mid b) → (contents : List Value)
        → StandsFor p s cells frame f (in_world c (with_local x (plain v false) (record c.world { contents = contents }))) (flagged mid)
    flagged_stands no_value v any is contents =
        let flag_is : number_at z (flagged mid) w ≡ pos 0 = ap number_in flag_put.here in
        locals_are_put p s cells fr f c st stands x y found plainly frame scope (plain v false) contents (flagged mid) flagged_keeps (record {
          content = v;
          same = ap (λ q. plain v (is_equal (pos 1) q)) (sym flag_is);
          is = two_same z mid (flagged mid) k v a b (flag_put.elsewhere a there flag_value) (flag_put.elsewhere b there flag_offset) is;
          is_flag = inl flag_is;
          fits = λ h. absurd (false≢true (sym (ap (λ q. q || is_equal (pos 1) (number_at z (flagged mid) w)) no_value ∙ ap (λ q. is_equal (pos 1) q) flag_is) ∙ h));
          leads = any_leads k v any;
        })

  -- ---- each value has its slots

  was_nothing : held z st a ≡ nothing
  was_nothing = (stands.unscoped x there out).1

  offset_nothing : held z st b ≡ nothing
  offset_nothing = (stands.unscoped x there out).2

  module _ (v : Value) (h : AnyHeld k v) where
    abbrev put_state : State
    put_state = with_two z k a b h.first h.second st

    put_changed : ChangedBy z sts Change_at st.slots put_state.slots
    put_changed d in_d = by (is_value_of x d) (is_pointer_cell k && is_offset_of x d) refl refl where
      by : (t u : Bool) → is_value_of x d ≡ t → (is_pointer_cell k && is_offset_of x d) ≡ u
          → Changed sts (if t then fresh (map (leaves.fact m) (any_facts k)) else if u then fresh [] else keeps) (held z st d) (held z put_state d)
      by true u e g =
          subst (λ d. Changed sts (fresh (map (leaves.fact m) (any_facts k))) (held z st d) (held z put_state d)) (value_found x d e)
          (subst (λ q. Changed sts (fresh (map (leaves.fact m) (any_facts k))) q (held z put_state a)) (sym was_nothing)
          (subst (λ q. Changed sts (fresh (map (leaves.fact m) (any_facts k))) nothing q)
          (sym (two_first z a b h.first h.second st stands.size there there k apart_parts)) (tt, facts_told m sts k h.first h.above)))
      by false true e g =
          let both = and_parts (is_pointer_cell k) (is_offset_of x d) g in
          subst (λ d. Changed sts (fresh []) (held z st d) (held z put_state d)) (offset_found x d both.1)
          (subst (λ q. Changed sts (fresh []) q (held z put_state b)) (sym offset_nothing)
          (subst (λ q. Changed sts (fresh []) nothing q) (sym (two_second z a b h.first h.second st stands.size there there k both.0)) (tt, tt)))
      by false false e g =
          sym (two_elsewhere z a b h.first h.second st stands.size there there k d in_d (λ r. false≢true (sym e ∙ ap (is_value_of x) (sym r) ∙ itself x))
          (λ is r. false≢true (sym g ∙ ap (λ t. t && is_offset_of x d) is ∙ ap (is_offset_of x) (sym r) ∙ itself x)))

  forth_not_set : y.has_value ≡ false → (u : World) → MakesLocal false k x c.world u
      → (new : State) × ((n : ℕ) → Seg olds n word st (goes_on new)) × StandsFor p s cells frame f (in_world c u) new
  forth_not_set no_value u (v, any, contents, same) =
      let h = any_held k v any in
      let two = put_state v h in
      let size = two_size z a b h.first h.second st stands.size there there k in
      let changed = put_changed v h in
      let state_is = two_slots z a b h.first h.second st stands.size there there k in
      let held_is : IsHeldAs k v (number_at z (with_slots st two.slots) a) (number_at z (with_slots st two.slots) b) =
      subst (λ q. IsHeldAs k v (number_at z q a) (number_at z q b)) (sym state_is) (two_held z k v a b h.first h.second st stands.size there there apart_parts h.is) in (
        flagged (with_slots st two.slots),
        (λ n. seg.goes_both (seg.changes two.slots (to_places two.slots size changed)) (behind seg.sets)),
        subst (λ w. StandsFor p s cells frame f (in_world c w) (flagged (with_slots st two.slots))) (sym same) (flagged_stands two.slots size changed no_value v any held_is contents),
      )

  back_not_set : y.has_value ≡ false → (n : ℕ) (e : End) → Seg olds n word st e
      → (new : State) × (goes_on new ≡ e) × (u : World) × MakesLocal false k x c.world u × StandsFor p s cells frame f (in_world c u) new
  back_not_set no_value n e run =
      let r = changes_then run in
      let ds = r.0 in
      let size : length ds ≡ slots_in z = changes_length sts (changes_by z Change_at) st.slots ds r.1 ∙ stands.size in
      let changed = by_places ds size r.1 in
      let here : Changed sts (fresh (map (leaves.fact m) (any_facts k))) nothing (at_or nothing ds (slot z a)) =
      subst (λ q. Changed sts (fresh (map (leaves.fact m) (any_facts k))) q (at_or nothing ds (slot z a))) was_nothing
      (subst (λ t. Changed sts (if t then fresh (map (leaves.fact m) (any_facts k)) else if is_pointer_cell k && is_offset_of x a then fresh [] else keeps) (held z st a)
      (at_or nothing ds (slot z a))) (itself x) (changed a there)) in
      let first = like_number (at_or nothing ds (slot z a)) here.0 in
      let above = told_facts m sts k first.0 (subst (AllTold sts (map (leaves.fact m) (any_facts k))) first.1 here.1) in
      let second = number_in (at_or nothing ds (slot z b)) in
      let v = value_of k first.0 second in
      let any = held_any k first.0 second above in
      let is : IsHeldAs k v (number_at z (with_slots st ds) a) (number_at z (with_slots st ds) b) =
      subst (λ q. IsHeldAs k v q second) (sym (ap number_in first.1)) (value_held k first.0 second) in (
        flagged (with_slots st ds),
        set_way r.2,
        with_local x (plain v false) (record c.world { contents = c.world.contents }),
        (v, any, c.world.contents, refl),
        flagged_stands ds size changed no_value v any is c.world.contents,
      )

  -- ---- either way

  forth_by : (t : Bool) → y.has_value ≡ t → (u : World) → MakesLocal t k x c.world u
      → (new : State) × ((n : ℕ) → Seg olds n (if t then set_variable m z k (variables.Local x) (zero_term m p s cells k) else word) st (goes_on new))
      × StandsFor p s cells frame f (in_world c u) new
  forth_by true has u same =
      let r = locals_are_set m p s cells fr f c st stands olds x y found plainly frame scope (zero_term m p s cells k) (nothing_of k) (zero_gives m p s cells z olds _ st k)
      (nothing_in_range p c.world.memory.blocks k) in
      (r.state, r.end.runs, subst (λ w. StandsFor p s cells frame f (in_world c w) r.state) (sym same) r.is)
  forth_by false has u made = forth_not_set has u made

  back_by : (t : Bool) → y.has_value ≡ t → (n : ℕ) (e : End) → Seg olds n (if t then set_variable m z k (variables.Local x) (zero_term m p s cells k) else word) st e
      → (new : State) × (goes_on new ≡ e) × (u : World) × MakesLocal t k x c.world u × StandsFor p s cells frame f (in_world c u) new
  back_by true has n e run =
      let r = locals_are_set m p s cells fr f c st stands olds x y found plainly frame scope (zero_term m p s cells k) (nothing_of k) (zero_gives m p s cells z olds _ st k)
      (nothing_in_range p c.world.memory.blocks k) in
      (r.state, r.end.only n e run, with_local x (plain (nothing_of k) true) c.world, refl, r.is)
  back_by false has n e run = back_not_set has n e run

pub plains_are_opened : PlainsAreOpened
plains_are_opened m p s cells fr f c st stands olds x y found plainly out frame scope = record {
  forth = forth_by m p s cells fr f c st stands olds x y found plainly out frame scope y.has_value refl;
  back = back_by m p s cells fr f c st stands olds x y found plainly out frame scope y.has_value refl;
}
