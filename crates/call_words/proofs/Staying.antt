-- What stays by the sets of a function that is called: by what its clauses let change, and by what is known behind the call.
use Rattle.std.proofs.Common.{◌≡◌, ◌⊎◌, ℕ, zero, suc, ◌+◌, ◌-◌, ◌<◌, ℤ, pos, negsuc, Bool, true, false, not, ◌&&◌, ◌||◌, if◌then◌else◌, List, [], ◌∷◌, length, Option, Some, None, slice_get, refl, sym, ap, ◌∙◌, subst, inl, inr, arith}
use Rattle.std.specs.Prelude.{◌-ℤ◌}
use Rattle.std.specs.List.{list_all}
use Rattle.std.proofs.lemmas.Int.{ints}
use Rattle.std.proofs.lemmas.Bool.{false≢true, and_parts}
use Rattle.wp_base.specs.declared.kinds.CellKind.TheVariants as cell
use Rattle.typed_prog.specs.declared.operators.Variable.TheVariants as variables
use Rattle.typed_prog.specs.Tree as t
use Rattle.acsl_trees.specs.Tree as acsl
use Rattle.c_runs.specs.TruthStates as labelled
use Rattle.c_runs.specs.TruthStates.{Value, number, number_of, is_negative}
use Rattle.c_runs.specs.TruthAllowed.{is_named}
use Rattle.qed_terms.specs.Meaning as sense
use Rattle.qed_terms.specs.Operators.{is_zero, is_equal}
use Rattle.qed_terms.specs.Tree.{Tree, equal}
use Rattle.c_runs.specs.Program.{Behavior, Function, Facts, Variable}
use Rattle.c_runs.specs.States.{Memory, Granted, held_by, params_from, plain_globals, seen_by_contract}
use Rattle.c_runs.specs.Claims.{at_entry, holds, is_assumed, regions_of, granted_by, granted_in, lets_cell}
use Rattle.c_runs.specs.Allowed.{SetAllows, AllAllow}
use Rattle.c_runs.specs.Tree.{Steps}
use Rattle.plain_states.specs.Slots.{State, at, value_slot}
use Rattle.plain_states.specs.Scopes.{is_integer}
use Rattle.plain_states.proofs.Puts.{equal_is}
use Rattle.plain_states.proofs.Scoping.{none_some}
use Rattle.plain_runs.specs.Fitting.{Shape}
use Rattle.plain_runs.specs.Kept.{may_change_global}
use Rattle.plain_runs.proofs.Objects.{home_is}
use Rattle.plain_runs.proofs.Whole.{outer}
use Rattle.program_steps.specs.Leaves.{leaf}
use Rattle.program_steps.specs.Terms.{Texts, has_variable}
use Rattle.program_steps.specs.Words.{under, lacks}
use Rattle.program_steps.specs.Staying.{stay_of, stays_from, all_stay}
use Rattle.program_steps.specs.Functions.{AllOf}
use Rattle.program_steps.specs.Placed.{all_told}
use Rattle.program_steps.proofs.Filling.{on_bool}
use Rattle.program_steps.proofs.Listing.{leaf_value}
use Rattle.program_steps.proofs.Granting.{and_so, all_append}
use Rattle.program_steps.proofs.Scoping.{found_at}
use Rattle.program_steps.proofs.Seeing.{in_file}
use Rattle.program_steps.proofs.Starting.{leaf_closed}
use Rattle.call_words.specs.Sets.{callee_assumes, may_differ}
use Rattle.call_words.specs.Fits.{SeenCall, FileSetFits, CalleeBehaviorFits, CalleeFits}
use Rattle.call_words.proofs.Tells.{Tells, AllTell, none_tell, more_tell, both_tell, all_as, under_tells, they_tell}
use Rattle.call_words.proofs.Claims.{callee_assumed}
use Rattle.call_words.proofs.Named.{HomesAre, names_so}

both_true : (a b : Bool) → a ≡ true → b ≡ true → (a && b) ≡ true
both_true a b h k = λ i. (h i) && (k i)

one_false : (a b : Bool) → (a && b) ≡ false → (a ≡ false) ⊎ (b ≡ false)
one_false true b h = inr h
one_false false b h = inl refl

equal_so : (a b : ℤ) → a ≡ b → is_equal a b ≡ true
equal_so a b e = ap (λ z. is_equal z b) e ∙ same b where
  same : (b : ℤ) → is_equal b b ≡ true
  same b = let d : b -ℤ b ≡ pos 0 = omega (arith, ints) in ap is_zero d

module _ (m : sense.World) (p : Facts) (s : Shape) (texts : Texts) (g : Function Steps) (es : t.Values) (globals : list_all is_integer p.globals ≡ true) (mem : Memory) (vs : List Value)
    (st' st : State) where
  abbrev pub entry : labelled.World
  entry = at_entry p vs mem

  homes : HomesAre m p s texts g es globals entry
  homes x v e = home_is p globals x v e

  abbrev pub Same : ℕ → Type 0
  Same x = at st' (value_slot x) ≡ at st (value_slot x)

  -- what a behavior that is there doesn't name is the same
  abbrev pub KeepsBy : Behavior → Type 0
  KeepsBy b = (x : ℕ) (v : Variable) → slice_get p.globals x ≡ Some v → is_assumed p entry b ≡ true → lacks b.assigns (variables.Global x) ≡ true → Same x

  -- ---- by what the clauses let change

  module _ (mem' : Memory) (before : (x : ℕ) (v : Variable) → slice_get p.globals x ≡ Some v → mem.cells (negsuc x) (pos 0) ≡ number (at st (value_slot x)))
      (behind : (x : ℕ) (v : Variable) → slice_get p.globals x ≡ Some v → mem'.cells (negsuc x) (pos 0) ≡ number (at st' (value_slot x))) where
    abbrev old_state : labelled.State
    old_state = seen_by_contract p vs mem

    abbrev new_state : labelled.State
    new_state = seen_by_contract p vs mem'

    cells_same : (x : ℕ) (v : Variable) → slice_get p.globals x ≡ Some v → new_state.cells (negsuc x) (pos 0) ≡ old_state.cells (negsuc x) (pos 0) → Same x
    cells_same x v e h =
        let lt = in_file p outer globals refl x v e in
        ap number_of (sym (ap (λ b. if b then mem'.cells (negsuc x) (pos 0) else held_by (params_from 0 vs (x - plain_globals p))) lt ∙ behind x v e) ∙ h
        ∙ ap (λ b. if b then mem.cells (negsuc x) (pos 0) else held_by (params_from 0 vs (x - plain_globals p))) lt ∙ before x v e)

    set_keeps : (o : Option (List acsl.Tree)) → FileSetFits m p s texts g es o → SetAllows p entry o old_state new_state → (x : ℕ) (v : Variable) → slice_get p.globals x ≡ Some v
        → lacks o (variables.Global x) ≡ true → Same x
    set_keeps None fits allows x v e lacking = absurd (false≢true lacking)
    set_keeps (Some rs) fits allows x v e lacking =
        let named : is_named (regions_of p entry rs) (negsuc x) ≡ false = names_so m p s texts g es globals entry homes x rs fits ∙ not_so (has_variable rs (variables.Global x)) lacking in
        let moved = subst (λ b. is_negative b ≡ true → is_named (regions_of p entry rs) b ≡ false → new_state.cells b (pos 0) ≡ old_state.cells b (pos 0)) (home_is p globals x v e) (allows.globals x) in
        cells_same x v e (moved refl named)
      where
        not_so : (b : Bool) → not b ≡ true → b ≡ false
        not_so true h = absurd (false≢true h)
        not_so false h = refl

    pub allowed_keeps : (bs : List Behavior) → AllOf (CalleeBehaviorFits m p s texts g es) bs → AllAllow p entry bs old_state new_state → AllOf KeepsBy bs
    allowed_keeps [] fits allow = tt
    allowed_keeps (b ∷ bs) fits allow = ((λ x v e is lacking. set_keeps b.assigns fits.0.assigns (allow.0 is) x v e lacking), allowed_keeps bs fits.1 allow.1)

  abbrev lets : ℕ → Granted → Bool
  lets x g0 = lets_cell cell.Ptr (negsuc x) (pos 0) g0

  granted_lacks : (n : ℤ) (x : ℕ) (a : Bool) (o : Option (List acsl.Tree)) → FileSetFits m p s texts g es o → list_all (lets x) (if a then granted_by p entry n 0 o else []) ≡ false
      → (a ≡ true) × (lacks o (variables.Global x) ≡ true)
  granted_lacks n x true None fits h = absurd (false≢true (sym h))
  granted_lacks n x true (Some rs) fits h =
      (refl, ap not (sym (names_so m p s texts g es globals entry homes x rs fits) ∙ sym (and_so (is_named (regions_of p entry rs) (negsuc x))) ∙ h))
  granted_lacks n x false o fits h = absurd (false≢true (sym h))

  pub granted_same : (n : ℤ) (bs : List Behavior) → AllOf (CalleeBehaviorFits m p s texts g es) bs → AllOf KeepsBy bs → (x : ℕ) → x < length p.globals
      → may_change_global (granted_in p entry n bs) x ≡ false → Same x
  granted_same n [] fits keep x l h = absurd (false≢true (sym h))
  granted_same n (b ∷ bs) fits keep x l h =
      by (one_false (list_all (lets x) (if is_assumed p entry b then granted_by p entry n 0 b.assigns else [])) (list_all (lets x) (granted_in p entry n bs))
      (sym (all_append (lets x) (if is_assumed p entry b then granted_by p entry n 0 b.assigns else []) (granted_in p entry n bs)) ∙ h)) (granted_same n bs fits.1 keep.1 x l)
    where
      by : (list_all (lets x) (if is_assumed p entry b then granted_by p entry n 0 b.assigns else []) ≡ false) ⊎ (list_all (lets x) (granted_in p entry n bs) ≡ false)
          → (may_change_global (granted_in p entry n bs) x ≡ false → Same x) → Same x
      by (inl k) rest =
          let r = granted_lacks n x (is_assumed p entry b) b.assigns fits.0.assigns k in
          let u = found_at p.globals x l in
          keep.0 x u.0 u.1 r.0 r.1
      by (inr k) rest = rest k

  -- ---- by what is known

  abbrev stay_is : Behavior → ℕ → Bool
  stay_is b x =
      if may_differ g.contract x && lacks b.assigns (variables.Global x) then not (is_assumed p entry b) || is_equal (at st' (value_slot x)) (at st (value_slot x)) else true

  abbrev stays_are : Behavior → ℕ → List Variable → Bool
  stays_are b x [] = true
  stays_are b x (v ∷ vs) = stay_is b x && stays_are b (suc x) vs

  abbrev pub all_stays : List Behavior → Bool
  all_stays [] = true
  all_stays (b ∷ bs) = stays_are b 0 p.globals && all_stays bs

  abbrev stay : Behavior → ℕ → List Tree
  stay b x = stay_of (callee_assumes p s texts g es 1 b) b.assigns (may_differ g.contract) x

  abbrev stays : Behavior → ℕ → List Variable → List Tree
  stays b x vs = stays_from (callee_assumes p s texts g es 1 b) b.assigns (may_differ g.contract) x vs

  abbrev pub staying : List Behavior → List Tree
  staying bs = all_stay (callee_assumes p s texts g es 1) (may_differ g.contract) p.globals bs

  module _ (olds : List State) (seen : SeenCall m p s texts g es entry (st' ∷ st ∷ olds) 1) where
    abbrev sts : List State
    sts = st' ∷ st ∷ olds

    stay_tells : (b : Behavior) → CalleeBehaviorFits m p s texts g es b → (x : ℕ) → AllTell m sts (stay b x) (stay_is b x)
    stay_tells b fit x = by (may_differ g.contract x && lacks b.assigns (variables.Global x)) where
      same_slots : Tree
      same_slots = equal (leaf 0 (value_slot x)) (leaf 1 (value_slot x))

      a : Tree
      a = callee_assumes p s texts g es 1 b

      same_tells : Tells m sts same_slots (is_equal (at st' (value_slot x)) (at st (value_slot x)))
      same_tells = record {
        closed_so = (λ i. (leaf_closed 0 (value_slot x) i) && ((leaf_closed 1 (value_slot x) i) && true));
        true_so = (λ i. is_equal (leaf_value m sts 0 (value_slot x) i) (leaf_value m sts 1 (value_slot x) i));
      }

      by : (d : Bool) → AllTell m sts (if d then under false a same_slots ∷ [] else []) (if d then not (is_assumed p entry b) || is_equal (at st' (value_slot x)) (at st (value_slot x)) else true)
      by true =
          let z = not (is_assumed p entry b) || is_equal (at st' (value_slot x)) (at st (value_slot x)) in
          all_as m sts (under false a same_slots ∷ []) (z && true) z (and_so z)
          (more_tell m sts (under false a same_slots) [] z true
          (under_tells m sts false a same_slots (is_assumed p entry b) (is_equal (at st' (value_slot x)) (at st (value_slot x))) (callee_assumed m p s texts sts g es 1 entry seen b fit) same_tells
          (λ e. absurd (false≢true e))) (none_tell m sts))
      by false = none_tell m sts

    stays_tell : (b : Behavior) → CalleeBehaviorFits m p s texts g es b → (x : ℕ) (vs : List Variable) → AllTell m sts (stays b x vs) (stays_are b x vs)
    stays_tell b fit x [] = none_tell m sts
    stays_tell b fit x (v ∷ vs) = both_tell m sts (stay b x) (stays b (suc x) vs) (stay_is b x) (stays_are b (suc x) vs) (stay_tells b fit x) (stays_tell b fit (suc x) vs)

    all_stay_tell : (bs : List Behavior) → AllOf (CalleeBehaviorFits m p s texts g es) bs → AllTell m sts (staying bs) (all_stays bs)
    all_stay_tell [] fit = none_tell m sts
    all_stay_tell (b ∷ bs) fit =
        both_tell m sts (stays b 0 p.globals) (staying bs) (stays_are b 0 p.globals) (all_stays bs) (stays_tell b fit.0 0 p.globals) (all_stay_tell bs fit.1)

    pub stays_told : (bs : List Behavior) → AllOf (CalleeBehaviorFits m p s texts g es) bs → all_told m sts (staying bs) ≡ all_stays bs
    stays_told bs fit = they_tell m sts (staying bs) (all_stays bs) (all_stay_tell bs fit)

  -- ---- the one by the other

  stay_so : (b : Behavior) → KeepsBy b → (x : ℕ) (v : Variable) → slice_get p.globals x ≡ Some v → stay_is b x ≡ true
  stay_so b keep x v e = by (may_differ g.contract x) (lacks b.assigns (variables.Global x)) (is_assumed p entry b) refl refl where
    by : (d l a : Bool) → lacks b.assigns (variables.Global x) ≡ l → is_assumed p entry b ≡ a → (if d && l then not a || is_equal (at st' (value_slot x)) (at st (value_slot x)) else true) ≡ true
    by true true true lacking is = equal_so (at st' (value_slot x)) (at st (value_slot x)) (keep x v e is lacking)
    by true true false lacking is = refl
    by true false a lacking is = refl
    by false l a lacking is = refl

  stays_so : (b : Behavior) → KeepsBy b → (x : ℕ) (vs : List Variable) → ((i : ℕ) (v : Variable) → slice_get vs i ≡ Some v → slice_get p.globals (x + i) ≡ Some v) → stays_are b x vs ≡ true
  stays_so b keep x [] there = refl
  stays_so b keep x (v ∷ vs) there =
      both_true (stay_is b x) (stays_are b (suc x) vs)
      (let n : x + 0 ≡ x = omega arith in stay_so b keep x v (sym (ap (slice_get p.globals) n) ∙ there 0 v refl))
      (stays_so b keep (suc x) vs (λ i u e. let n : x + suc i ≡ suc x + i = omega arith in sym (ap (slice_get p.globals) n) ∙ there (suc i) u e))

  pub keeps_stay : (bs : List Behavior) → AllOf KeepsBy bs → all_stays bs ≡ true
  keeps_stay [] keep = refl
  keeps_stay (b ∷ bs) keep = both_true (stays_are b 0 p.globals) (all_stays bs) (stays_so b keep.0 0 p.globals (λ i v e. let n : 0 + i ≡ i = omega arith in ap (slice_get p.globals) n ∙ e)) (keeps_stay bs keep.1)

  stay_at : (b : Behavior) (x : ℕ) (vs : List Variable) → stays_are b x vs ≡ true → (i : ℕ) (v : Variable) → slice_get vs i ≡ Some v → stay_is b (x + i) ≡ true
  stay_at b x [] h i v e = absurd (none_some v e)
  stay_at b x (u ∷ vs) h zero v e = let n : x ≡ x + 0 = omega arith in sym (ap (stay_is b) n) ∙ (and_parts (stay_is b x) (stays_are b (suc x) vs) h).0
  stay_at b x (u ∷ vs) h (suc i) v e =
      let n : suc x + i ≡ x + suc i = omega arith in
      sym (ap (stay_is b) n) ∙ stay_at b (suc x) vs (and_parts (stay_is b x) (stays_are b (suc x) vs) h).1 i v e

  -- where what may not differ is the same
  stay_keeps : ((x : ℕ) (v : Variable) → slice_get p.globals x ≡ Some v → may_differ g.contract x ≡ false → Same x) → (b : Behavior) → stays_are b 0 p.globals ≡ true → KeepsBy b
  stay_keeps fixed b h x v e is lacking = on_bool (may_differ g.contract x)
      (λ d. equal_is (at st' (value_slot x)) (at st (value_slot x)) (taken d (let n : 0 + x ≡ x = omega arith in sym (ap (stay_is b) n) ∙ stay_at b 0 p.globals h x v e)))
      (λ d. fixed x v e d)
    where
      taken : may_differ g.contract x ≡ true → stay_is b x ≡ true → is_equal (at st' (value_slot x)) (at st (value_slot x)) ≡ true
      taken d k = sym (λ i. if (d i) && (lacking i) then not (is i) || is_equal (at st' (value_slot x)) (at st (value_slot x)) else true) ∙ k

  pub stays_keep : ((x : ℕ) (v : Variable) → slice_get p.globals x ≡ Some v → may_differ g.contract x ≡ false → Same x) → (bs : List Behavior) → all_stays bs ≡ true → AllOf KeepsBy bs
  stays_keep fixed [] h = tt
  stays_keep fixed (b ∷ bs) h =
      let both = and_parts (stays_are b 0 p.globals) (all_stays bs) h in
      (stay_keeps fixed b both.0, stays_keep fixed bs both.1)

  -- ---- the clause outside behaviors

  pub plain_keeps : ((x : ℕ) (v : Variable) → slice_get p.globals x ≡ Some v → may_differ g.contract x ≡ false → Same x) → KeepsBy g.contract.plain
  plain_keeps fixed x v e is lacking = fixed x v e (ap not lacking)

  pub plain_fixed : CalleeFits m p s texts g es → KeepsBy g.contract.plain → (x : ℕ) (v : Variable) → slice_get p.globals x ≡ Some v → may_differ g.contract x ≡ false → Same x
  plain_fixed fits keep x v e h = keep x v e (ap (list_all (holds p entry)) fits.assumes) (not_so (lacks g.contract.plain.assigns (variables.Global x)) h) where
    not_so : (b : Bool) → not b ≡ false → b ≡ true
    not_so true h = refl
    not_so false h = absurd (false≢true (sym h))
