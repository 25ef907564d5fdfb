-- Words that set places, and temporaries that are put to 0.
use Rattle.std.proofs.Common.{◌≡◌, ◌⊎◌, ℕ, zero, suc, ◌+◌, ◌<◌, ◌≤◌, ℤ, pos, Bool, true, false, if◌then◌else◌, List, [], ◌∷◌, length, refl, sym, ap, ap₂, ◌∙◌, subst, inl, inr, arith}
use Rattle.std.proofs.lemmas.Bool.{false≢true}
use Rattle.wp_base.specs.declared.kinds.CellKind.{CellKind}
use Rattle.wp_base.specs.declared.kinds.CellKind.TheVariants as cell
use Rattle.typed_prog.specs.declared.operators.Variable as code
use Rattle.typed_prog.specs.declared.operators.Variable.TheVariants as variables
use Rattle.qed_terms.specs.Meaning as sense
use Rattle.qed_terms.specs.Operators.{is_equal}
use Rattle.qed_terms.specs.Tree.{num}
use Rattle.c_runs.specs.TruthStates.{Value, pointer, number as c_number}
use Rattle.c_runs.specs.States.{plain}
use Rattle.value_terms.specs.Readings.{Term, number_term, block_term, offset_term}
use Rattle.walk_steps.specs.State.{at_or, put}
use Rattle.memory_steps.specs.State.{Datum, State, state, number, nothing}
use Rattle.memory_steps.specs.Step as step
use Rattle.memory_steps.specs.Step.{Step, count}
use Rattle.memory_steps.specs.Run as seg
use Rattle.memory_steps.specs.Run.{End, goes_on, IsOver, on_state, put_back, set_in, Seg}
use Rattle.memory_steps.specs.Forms as forms
use Rattle.memory_steps.proofs.Readings.{seq_ways, set_way, scope_way}
use Rattle.memory_words.specs.Places.{Place, value, offset, flag, result, result_offset, answer, temporary, temporary_offset, Sizes, IsIn, slot, slots_in, held, with_held, number_in, number_at}
use Rattle.memory_words.specs.Leaves as leaves
use Rattle.memory_words.specs.Leaves.{leaves_of, or_false, closed, leaf}
use Rattle.walk_steps.proofs.Lists.{put_length}
use Rattle.memory_words.proofs.Lists.{found_below}
use Rattle.memory_words.proofs.SlotListing.{differ}
use Rattle.memory_words.proofs.Holding.{puts_are_held}
use Rattle.memory_words.proofs.Leaves.{leaf_closed, leaves_are_held}
use Rattle.memory_words.specs.Shapes.{sizes, kind_of}
use Rattle.memory_words.specs.Standing.{Temporaries, IsHeldAs}
use Rattle.memory_words.proofs.Sorts.{held_number}
use Rattle.memory_words.specs.Words.{set_number, set_value, assign, set_variable, drop}
use Rattle.memory_words.specs.Puts.{counts, Keeps, NoPlace, IsOfTemporary, IsOfVariable, first_value, second_value, with_two, Gives, OneEnd}
use Rattle.memory_words.specs.PutLaws.{ValuesAreSet, ValuesAreAssigned, TemporariesAreSet, LocalsAreSet, GlobalsAreSet, ResultsAreSet, TemporariesAreDropped}
use Rattle.memory_words.proofs.PutStanding.{two_same, slots_go_on, temporaries_are_put, locals_are_put}
use Rattle.memory_words.proofs.Storing.{content_leads, globals_are_put}

-- ---- words of one end

goes_parts : {a b : State} → goes_on a ≡ goes_on b → a ≡ b
goes_parts e = cc

skip_way : {olds : List State} {n : ℕ} {st : State} (e : End) → Seg olds n step.skip st e → goes_on st ≡ e
skip_way _ seg.skips = refl

pub one_skip : (olds : List State) (st : State) → OneEnd olds step.skip st st
one_skip olds st = record { runs = λ n. seg.skips; only = λ n e k. skip_way e k }

pub one_set : (olds : List State) (st : State) (i : ℕ) (u : forms.Term) → OneEnd olds (step.set i u) st (set_in st i (u.told (st ∷ olds)))
one_set olds st i u = record { runs = λ n. seg.sets; only = λ n e k. set_way k }

pub one_then : (olds : List State) (a b : Step) (st mid new : State) → OneEnd olds a st mid → OneEnd olds b mid new → OneEnd olds (step.seq a b) st new
one_then olds a b st mid new first second =
    record { runs = λ n. seg.goes_both (first.runs n) (second.runs (n + count a)); only = λ n e k. by n e (seq_ways k) }
  where
    by : (n : ℕ) (e : End) → (IsOver e × Seg olds n a st e) ⊎ ((to : State) × Seg olds n a st (goes_on to) × Seg olds (n + count a) b to e) → goes_on new ≡ e
    by n e (inl (over, k)) = absurd (subst IsOver (sym (first.only n e k)) over)
    by n e (inr (to, k, l)) = second.only (n + count a) e (subst (λ x. Seg olds (n + count a) b x e) (sym (goes_parts (first.only n (goes_on to) k))) l)

pub one_scope : (olds : List State) (is : List ℕ) (a : Step) (st new : State) → OneEnd olds a st new → OneEnd olds (step.scope is a) st (put_back is st new)
one_scope olds is a st new inner = record {
  runs = λ n. seg.scopes (inner.runs n);
  only = λ n e k. let x = scope_way k in ap (on_state (put_back is st)) (inner.only n x.0 x.1) ∙ x.2;
}

pub one_same : (olds : List State) (a : Step) (st new new' : State) → new ≡ new' → OneEnd olds a st new → OneEnd olds a st new'
one_same olds a st new new' e h = subst (OneEnd olds a st) e h

-- ---- lists

put_again : {X : Type 0} (xs : List X) (i : ℕ) (x y : X) → put (put xs i x) i y ≡ put xs i y
put_again [] i x y = refl
put_again (a ∷ xs) zero x y = refl
put_again (a ∷ xs) (suc i) x y = ap (λ l. a ∷ l) (put_again xs i x y)

put_own : {X : Type 0} (d : X) (xs : List X) (i : ℕ) → put xs i (at_or d xs i) ≡ xs
put_own d [] i = refl
put_own d (a ∷ xs) zero = refl
put_own d (a ∷ xs) (suc i) = ap (λ l. a ∷ l) (put_own d xs i)

put_apart : {X : Type 0} (xs : List X) (i j : ℕ) (x y : X) → (i ≡ j → ⊥) → put (put xs i x) j y ≡ put (put xs j y) i x
put_apart [] i j x y n = refl
put_apart (a ∷ xs) zero zero x y n = absurd (n refl)
put_apart (a ∷ xs) zero (suc j) x y n = refl
put_apart (a ∷ xs) (suc i) zero x y n = refl
put_apart (a ∷ xs) (suc i) (suc j) x y n = ap (λ l. a ∷ l) (put_apart xs i j x y (λ e. n (ap suc e)))

-- one was put meanwhile, and two others stay
put_meanwhile : {X : Type 0} (d : X) (xs : List X) (i a b : ℕ) (v x y : X) → (a ≡ i → ⊥) → (b ≡ i → ⊥) → (a ≡ b → ⊥)
    → put (put (put (put xs i v) b y) a x) i (at_or d xs i) ≡ put (put xs a x) b y
put_meanwhile d xs i a b v x y ai bi ab =
    put_apart (put (put xs i v) b y) a i x (at_or d xs i) ai
    ∙ ap (λ l. put l a x) (put_apart (put xs i v) b i y (at_or d xs i) bi ∙ ap (λ l. put l b y) (put_again xs i v (at_or d xs i) ∙ put_own d xs i))
    ∙ sym (put_apart xs a b x y ab)

-- ---- two places

module _ (z : Sizes) where
  size_put : (a : Place) (d : Datum) (st : State) → length st.slots ≡ slots_in z → length (with_held z a d st).slots ≡ slots_in z
  size_put a d st size = put_length st.slots (slot z a) d ∙ size

  -- what was put meanwhile
  held_meanwhile : (m : sense.World) (olds : List State) (st : State) → length st.slots ≡ slots_in z → (b : Place) → IsIn z b → (b ≡ answer → ⊥) → (x y : ℤ)
      → sense.value m (leaves_of (with_held z b (number y) (with_held z answer (number x) st) ∷ olds)) (closed (leaf z 0 answer)) ≡ x
  held_meanwhile m olds st size b there differ x y =
      let st1 = with_held z answer (number x) st in
      let st2 = with_held z b (number y) st1 in
      ap (λ t. sense.value m (leaves_of (st2 ∷ olds)) (or_false t (leaf z 0 answer))) (leaf_closed [] z 0 answer)
      ∙ (leaves_are_held m (st2 ∷ olds) 0).number z answer
      ∙ ap number_in ((puts_are_held z b (number y) st1 there (size_put answer (number x) st size)).elsewhere answer tt differ ∙ (puts_are_held z answer (number x) st tt size).here)

pub values_are_set : ValuesAreSet
values_are_set m z olds st (cell.Of k) a b u = one_set olds st (slot z a) (leaves.number_term m (number_term u))
values_are_set m z olds st cell.Ptr a b u =
    let first = leaves.number_term m (block_term u) in
    let st1 = with_held z a (number (first_value m (st ∷ olds) cell.Ptr u)) st in
    one_then olds (set_number m z a (block_term u)) (set_number m z b (offset_term u)) st st1 (with_held z b (number (second_value m (st1 ∷ olds) cell.Ptr u)) st1)
    (one_set olds st (slot z a) first) (one_set olds st1 (slot z b) (leaves.number_term m (offset_term u)))

pub values_are_assigned : ValuesAreAssigned
values_are_assigned m z olds st size (cell.Of k) a b in_a in_b from_a from_b apart u = one_set olds st (slot z a) (leaves.number_term m (number_term u))
values_are_assigned m z olds st size cell.Ptr a b in_a in_b from_a from_b apart u =
    let x = first_value m (st ∷ olds) cell.Ptr u in
    let st1 = with_held z answer (number x) st in
    let y = second_value m (st1 ∷ olds) cell.Ptr u in
    let st2 = with_held z b (number y) st1 in
    let st3 = with_held z a (number (sense.value m (leaves_of (st2 ∷ olds)) (closed (leaf z 0 answer)))) st2 in
    let inner = one_then olds (set_number m z b (offset_term u)) (set_number m z a (leaf z 0 answer)) st1 st2 st3
    (one_set olds st1 (slot z b) (leaves.number_term m (offset_term u))) (one_set olds st2 (slot z a) (leaves.number_term m (leaf z 0 answer))) in
    let whole = one_then olds (set_number m z answer (block_term u)) (step.seq (set_number m z b (offset_term u)) (set_number m z a (leaf z 0 answer))) st st1 st3
    (one_set olds st (slot z answer) (leaves.number_term m (block_term u))) inner in
    one_same olds (assign m z cell.Ptr a b u) st (put_back (slot z answer ∷ []) st st3) (with_two z cell.Ptr a b x y st)
    (ap (λ w. state (put (put (put (put st.slots (slot z answer) (number x)) (slot z b) (number y)) (slot z a) (number w)) (slot z answer) (held z st answer)) st.table)
    (held_meanwhile z m olds st size b in_b from_b x y)
    ∙ ap (λ l. state l st.table)
    (put_meanwhile nothing st.slots (slot z answer) (slot z a) (slot z b) (number x) (number x) (number y) (λ e. from_a (differ z a answer in_a tt e))
    (λ e. from_b (differ z b answer in_b tt e)) (λ e. apart (differ z a b in_a in_b e))))
    (one_scope olds (slot z answer ∷ []) (step.seq (set_number m z answer (block_term u)) (step.seq (set_number m z b (offset_term u)) (set_number m z a (leaf z 0 answer)))) st st3 whole)

-- ---- what is kept

module _ (z : Sizes) (f : Temporaries) (but : Place → Type 0) where
  pub keeps_own : (st : State) → length st.slots ≡ slots_in z → Keeps z f but st st
  keeps_own st size = record { size = size; table = refl; same = λ a there counted apart. refl; sorted = λ a there was. was }

  pub keeps_put : (st new : State) (a : Place) (x : ℤ) → IsIn z a → but a → Keeps z f but st new → Keeps z f but st (with_held z a (number x) new)
  keeps_put st new a x there own h = record {
    size = size_put z a (number x) new h.size;
    table = h.table;
    same = λ c in_c counted apart. (puts_are_held z a (number x) new there h.size).elsewhere c in_c (λ e. apart (subst but e own)) ∙ h.same c in_c counted apart;
    sorted = λ c in_c was. held_number z a x new c (h.sorted c in_c was);
  }

  pub keeps_two : (k : CellKind) (a b : Place) (x y : ℤ) (st : State) → length st.slots ≡ slots_in z → IsIn z a → IsIn z b → but a → but b → Keeps z f but st (with_two z k a b x y st)
  keeps_two (cell.Of k) a b x y st size in_a in_b own_a own_b = keeps_put st st a x in_a own_a (keeps_own st size)
  keeps_two cell.Ptr a b x y st size in_a in_b own_a own_b =
      keeps_put st (with_held z a (number x) st) b y in_b own_b (keeps_put st st a x in_a own_a (keeps_own st size))

  -- where nothing is said of them
  pub keeps_all : ((a : Place) → counts f a ≡ true → but a → ⊥) → (st new : State) → Keeps z f but st new → Keeps z f NoPlace st new
  keeps_all none st new h = record { size = h.size; table = h.table; same = λ a there counted apart. h.same a there counted (none a counted); sorted = h.sorted }

module _ (z : Sizes) where
  size_two : (k : CellKind) (a b : Place) (x y : ℤ) (st : State) → length st.slots ≡ slots_in z → length (with_two z k a b x y st).slots ≡ slots_in z
  size_two (cell.Of k) a b x y st size = size_put z a (number x) st size
  size_two cell.Ptr a b x y st size = size_put z b (number y) (with_held z a (number x) st) (size_put z a (number x) st size)

  pub two_held : (k : CellKind) (v : Value) (a b : Place) (x y : ℤ) (st : State) → length st.slots ≡ slots_in z → IsIn z a → IsIn z b → (b ≡ a → ⊥) → IsHeldAs k v x y
      → IsHeldAs k v (number_at z (with_two z k a b x y st) a) (number_at z (with_two z k a b x y st) b)
  two_held (cell.Of k) v a b x y st size in_a in_b apart is = is ∙ ap c_number (sym (ap number_in (puts_are_held z a (number x) st in_a size).here))
  two_held cell.Ptr v a b x y st size in_a in_b apart is =
      let st1 = with_held z a (number x) st in
      let p2 = puts_are_held z b (number y) st1 in_b (size_put z a (number x) st size) in
      let first : number_at z (with_held z b (number y) st1) a ≡ x = ap number_in (p2.elsewhere a in_a apart ∙ (puts_are_held z a (number x) st in_a size).here) in
      let second : number_at z (with_held z b (number y) st1) b ≡ y = ap number_in p2.here in
      is ∙ ap₂ pointer (sym first) (sym second)

temporary_apart : {n : ℕ} → temporary n ≡ answer → ⊥
temporary_apart e = cc

temporary_offset_apart : {n : ℕ} → temporary_offset n ≡ answer → ⊥
temporary_offset_apart e = cc

temporaries_apart : {n : ℕ} → temporary n ≡ temporary_offset n → ⊥
temporaries_apart e = cc

pub temporaries_are_set : TemporariesAreSet
temporaries_are_set m p s cells fr f c st stands olds g n below less u v gives fits =
    let z = sizes p s in
    let k = s.temp_kind n in
    let x = first_value m (st ∷ olds) k u in
    let y = second_value m (st ∷ olds) k u in
    let new = with_two z k (temporary n) (temporary_offset n) x y st in
    record {
      state = new;
      end = subst (λ y. OneEnd olds (assign m z k (temporary n) (temporary_offset n) u) st (with_two z k (temporary n) (temporary_offset n) x y st)) gives.stays
          (values_are_assigned m z olds st stands.size k (temporary n) (temporary_offset n) below below temporary_apart temporary_offset_apart temporaries_apart u);
      is = temporaries_are_put p s cells fr f c st stands g n less v fits new
          (keeps_two z g (IsOfTemporary n) k (temporary n) (temporary_offset n) x y st stands.size below below refl refl)
          (two_held z k v (temporary n) (temporary_offset n) x y st stands.size below below (λ e. temporaries_apart (sym e)) gives.held);
    }

-- ---- variables

value_apart : {x : code.Variable} → value x ≡ answer → ⊥
value_apart e = cc

offset_apart : {x : code.Variable} → offset x ≡ answer → ⊥
offset_apart e = cc

parts_apart : {x : code.Variable} → value x ≡ offset x → ⊥
parts_apart e = cc

flag_value : {x : code.Variable} → flag x ≡ value x → ⊥
flag_value e = cc

flag_offset : {x : code.Variable} → flag x ≡ offset x → ⊥
flag_offset e = cc

module _ (m : sense.World) (z : Sizes) (olds : List State) (k : CellKind) (w : code.Variable) (u : Term) (v : Value) (st : State) (size : length st.slots ≡ slots_in z)
    (in_value : IsIn z (value w)) (in_offset : IsIn z (offset w)) (in_flag : IsIn z (flag w)) (gives : Gives m z olds answer k u v st) where
  abbrev two : State
  two = with_two z k (value w) (offset w) (first_value m (st ∷ olds) k u) (second_value m (st ∷ olds) k u) st

  abbrev pub variable_end : State
  variable_end = with_held z (flag w) (number (pos 1)) two

  pub variable_set : OneEnd olds (set_variable m z k w u) st variable_end
  variable_set =
      one_then olds (assign m z k (value w) (offset w) u) (set_number m z (flag w) (num (pos 1))) st two variable_end
      (subst (λ y. OneEnd olds (assign m z k (value w) (offset w) u) st (with_two z k (value w) (offset w) (first_value m (st ∷ olds) k u) y st)) gives.stays
      (values_are_assigned m z olds st size k (value w) (offset w) in_value in_offset value_apart offset_apart parts_apart u))
      (one_set olds two (slot z (flag w)) (leaves.number_term m (num (pos 1))))

  pub variable_keeps : (f : Temporaries) → Keeps z f (IsOfVariable w) st variable_end
  variable_keeps f = keeps_put z f (IsOfVariable w) st two (flag w) (pos 1) in_flag refl
      (keeps_two z f (IsOfVariable w) k (value w) (offset w) (first_value m (st ∷ olds) k u) (second_value m (st ∷ olds) k u) st size in_value in_offset refl refl)

  pub variable_held : IsHeldAs k v (number_at z variable_end (value w)) (number_at z variable_end (offset w))
  variable_held =
      let x = first_value m (st ∷ olds) k u in
      let y = second_value m (st ∷ olds) k u in
      let p = puts_are_held z (flag w) (number (pos 1)) two in_flag (size_two z k (value w) (offset w) x y st size) in
      two_same z two variable_end k v (value w) (offset w) (p.elsewhere (value w) in_value flag_value) (p.elsewhere (offset w) in_offset flag_offset)
      (two_held z k v (value w) (offset w) x y st size in_value in_offset (λ e. parts_apart (sym e)) gives.held)

  pub flag_held : number_at z variable_end (flag w) ≡ pos 1
  flag_held = ap number_in
      (puts_are_held z (flag w) (number (pos 1)) two in_flag
      (size_two z k (value w) (offset w) (first_value m (st ∷ olds) k u) (second_value m (st ∷ olds) k u) st size)).here

pub locals_are_set : LocalsAreSet
locals_are_set m p s cells fr f c st stands olds x y found plain_y behind scope u v gives fits =
    let z = sizes p s in
    let l = found_below s.variables x y found in
    let w = variables.Local x in
    let new = variable_end m z olds (kind_of y) w u v st stands.size l l l gives in
    let flag_is = flag_held m z olds (kind_of y) w u v st stands.size l l l gives in
    record {
      state = new;
      end = variable_set m z olds (kind_of y) w u v st stands.size l l l gives;
      is = locals_are_put p s cells fr f c st stands x y found plain_y behind scope (plain v true) c.world.contents new
          (variable_keeps m z olds (kind_of y) w u v st stands.size l l l gives f)
          (record {
            content = v;
            same = ap (λ q. plain v (is_equal (pos 1) q)) (sym flag_is);
            is = variable_held m z olds (kind_of y) w u v st stands.size l l l gives;
            is_flag = inr flag_is;
            fits = λ h. fits;
            leads = content_leads p _ (kind_of y) v fits;
          });
    }

pub globals_are_set : GlobalsAreSet
globals_are_set m p s cells fr f c st stands olds x y found plain_y u v gives fits =
    let z = sizes p s in
    let l = found_below p.globals x y found in
    let w = variables.Global x in
    let new = variable_end m z olds (kind_of y) w u v st stands.size l l l gives in
    record {
      state = new;
      end = variable_set m z olds (kind_of y) w u v st stands.size l l l gives;
      is = globals_are_put p s cells fr f c st stands x y found plain_y v fits new (variable_keeps m z olds (kind_of y) w u v st stands.size l l l gives f)
          (variable_held m z olds (kind_of y) w u v st stands.size l l l gives);
    }

-- ---- what is returned

results_apart : result ≡ result_offset → ⊥
results_apart e = cc

pub results_are_set : ResultsAreSet
results_are_set m p s cells fr f c st stands olds k u v gives =
    let z = sizes p s in
    let x = first_value m (st ∷ olds) k u in
    let y = second_value m (st ∷ olds) k u in
    let new = with_two z k result result_offset x y st in
    record {
      state = new;
      end = subst (λ y. OneEnd olds (set_value m z k result result_offset u) st (with_two z k result result_offset x y st)) gives.stays
          (values_are_set m z olds st k result result_offset u);
      is = (
        slots_go_on p s cells fr f c st stands f (λ j h. h) new (keeps_all z f (λ a. counts f a ≡ false) (λ a so not_so. false≢true (sym not_so ∙ so)) st new
            (keeps_two z f (λ a. counts f a ≡ false) k result result_offset x y st stands.size tt tt refl refl)),
        record { is = two_held z k v result result_offset x y st stands.size tt tt (λ e. results_apart (sym e)) gives.held },
      );
    }

-- ---- temporaries that are put to 0

result_temporary : {n : ℕ} → temporary n ≡ result → ⊥
result_temporary e = cc

result_temporary_offset : {n : ℕ} → temporary_offset n ≡ result → ⊥
result_temporary_offset e = cc

offset_temporary : {n : ℕ} → temporary n ≡ result_offset → ⊥
offset_temporary e = cc

offset_temporary_offset : {n : ℕ} → temporary_offset n ≡ result_offset → ⊥
offset_temporary_offset e = cc

module _ (m : sense.World) (z : Sizes) (olds : List State) (f g : Temporaries) (apart : (j : ℕ) → f j ≡ true → g j ≡ true → ⊥) where
  abbrev Uncounted : Place → Type 0
  Uncounted a = counts g a ≡ false

  pub record Drops (b : Step) (st : State) : Type 0 where
    pub state : State
    pub end : OneEnd olds b st state
    pub keeps : Keeps z g Uncounted st state
    pub result_is : held z state result ≡ held z st result
    pub offset_is : held z state result_offset ≡ held z st result_offset

  unused : (j : ℕ) → f j ≡ true → g j ≡ false
  unused j h = by (g j) refl where
    by : (t : Bool) → g j ≡ t → t ≡ false
    by true e = absurd (apart j h e)
    by false e = refl

  drops : (k : ℕ) → k ≤ z.temporaries → (st : State) → length st.slots ≡ slots_in z → Drops (drop m z k f) st
  drops zero l st size = record { state = st; end = one_skip olds st; keeps = keeps_own z g Uncounted st size; result_is = refl; offset_is = refl }
  drops (suc k) l st size =
      let r = drops k (omega (arith, l)) st size in
      one r (f k) refl
    where
      one : (r : Drops (drop m z k f) st) (t : Bool) → f k ≡ t
          → Drops (step.seq (drop m z k f) (if t then step.seq (set_number m z (temporary k) (num (pos 0))) (set_number m z (temporary_offset k) (num (pos 0))) else step.skip)) st
      one r false e = record {
        state = r.state;
        end = one_then olds (drop m z k f) step.skip st r.state r.state r.end (one_skip olds r.state);
        keeps = r.keeps;
        result_is = r.result_is;
        offset_is = r.offset_is;
      }
      one r true e =
          let below : k < z.temporaries = omega (arith, l) in
          let st1 = with_held z (temporary k) (number (pos 0)) r.state in
          let st2 = with_held z (temporary_offset k) (number (pos 0)) st1 in
          let first = puts_are_held z (temporary k) (number (pos 0)) r.state below r.keeps.size in
          let second = puts_are_held z (temporary_offset k) (number (pos 0)) st1 below (size_put z (temporary k) (number (pos 0)) r.state r.keeps.size) in
          record {
            state = st2;
            end = one_then olds (drop m z k f) (step.seq (set_number m z (temporary k) (num (pos 0))) (set_number m z (temporary_offset k) (num (pos 0)))) st r.state st2 r.end
                (one_then olds (set_number m z (temporary k) (num (pos 0))) (set_number m z (temporary_offset k) (num (pos 0))) r.state st1 st2
                (one_set olds r.state (slot z (temporary k)) (leaves.number_term m (num (pos 0)))) (one_set olds st1 (slot z (temporary_offset k)) (leaves.number_term m (num (pos 0)))));
            keeps = keeps_put z g Uncounted st st1 (temporary_offset k) (pos 0) below (unused k e)
                (keeps_put z g Uncounted st r.state (temporary k) (pos 0) below (unused k e) r.keeps);
            result_is = second.elsewhere result tt result_temporary_offset ∙ first.elsewhere result tt result_temporary ∙ r.result_is;
            offset_is = second.elsewhere result_offset tt offset_temporary_offset ∙ first.elsewhere result_offset tt offset_temporary ∙ r.offset_is;
          }

pub temporaries_are_dropped : TemporariesAreDropped
temporaries_are_dropped m p s cells fr g c st stands olds f apart =
    let z = sizes p s in
    let r = drops m z olds f g apart s.temporaries (omega arith) st stands.size in
    record {
      state = r.state;
      end = r.end;
      is = (
        slots_go_on p s cells fr g c st stands g (λ j h. h) r.state
            (keeps_all z g (λ a. counts g a ≡ false) (λ a so not_so. false≢true (sym not_so ∙ so)) st r.state r.keeps),
        r.result_is,
        r.offset_is,
      );
    }
