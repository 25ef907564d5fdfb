-- What behaviors let stay at a loop's head, told and seen.
use Rattle.std.proofs.Common.{◌≡◌, ◌⊎◌, ℕ, zero, suc, ◌+◌, ◌<◌, ℤ, pos, ◌-ℤ◌, Bool, true, false, not, ◌&&◌, ◌||◌, if◌then◌else◌, List, [], ◌∷◌, length, refl, sym, ap, ◌∙◌, subst, inl, inr, arith}
use Rattle.std.specs.List.{list_all}
use Rattle.std.proofs.lemmas.Bool.{false≢true, and_parts}
use Rattle.std.proofs.lemmas.Int.{ints}
use Rattle.typed_prog.specs.declared.operators.Variable.TheVariants as variables
use Rattle.c_runs.specs.TruthStates as labelled
use Rattle.qed_terms.specs.Meaning as sense
use Rattle.qed_terms.specs.Meaning.{truth}
use Rattle.qed_terms.specs.Operators.{is_zero, is_equal}
use Rattle.qed_terms.specs.Tree.{Tree, imp_of}
use Rattle.c_runs.specs.Program.{Variable, Behavior, Facts}
use Rattle.c_runs.specs.Claims.{is_assumed, in_state}
use Rattle.plain_states.specs.Slots.{State, at, value_slot}
use Rattle.plain_states.proofs.Puts.{equal_is}
use Rattle.plain_runs.specs.Fitting.{Shape}
use Rattle.walk_steps.specs.State.{at_or}
use Rattle.program_steps.specs.Leaves.{closed, leaves_of}
use Rattle.program_steps.specs.Terms.{Texts}
use Rattle.program_steps.specs.Words.{lacks}
use Rattle.program_steps.specs.Standing.{SeenAs}
use Rattle.program_steps.specs.Placed.{all_told}
use Rattle.program_steps.specs.Functions.{AllOf}
use Rattle.program_steps.proofs.Filling.{on_bool}
use Rattle.program_steps.proofs.Listing.{leaf_value}
use Rattle.program_steps.proofs.Granting.{all_append}
use Rattle.program_steps.proofs.Starting.{leaf_closed}
use Rattle.program_steps.specs.Staying.{stays, stays_from, all_stay}
use Rattle.loop_words.specs.Words as words
use Rattle.loop_words.proofs.Telling.{AssumesFit, Tells, told_so, seen_in, assumed_at, assumed_tells}

module _ (m : sense.World) (p : Facts) (s : Shape) (texts : Texts) (q : labelled.State) (olds : List State) (st after : State) (e : ℕ)
    (sees : SeenAs p s q (at_or [] olds e) (at_or [] olds e)) where
  abbrev sts : List State
  sts = after ∷ st ∷ olds

  abbrev w : labelled.World
  w = in_state p q

  abbrev assumed : Behavior → Tree
  assumed b = assumed_at m p s texts sts w (suc (suc e)) (seen_in m p s texts sts (suc (suc e)) q sees) b

  abbrev pub Same : ℕ → Type 0
  Same x = at after (value_slot x) ≡ at st (value_slot x)

  abbrev pub lets_it : ℕ → Behavior → Bool
  lets_it x b = not (is_assumed p w b) || not (lacks b.assigns (variables.Global x))

  -- ---- one variable under one behavior

  module _ (b : Behavior) (fits : AssumesFit m p s texts b) where
    tells : (x : ℕ) → Tells m p s texts sts (imp_of (assumed b) (stays x)) (not (is_assumed p w b) || is_equal (at after (value_slot x)) (at st (value_slot x)))
    tells x =
        let a = assumed_tells m p s texts sts w (suc (suc e)) (seen_in m p s texts sts (suc (suc e)) q sees) b fits in
        record {
          closed_so = (λ i. a.closed_so i && ((leaf_closed 0 (value_slot x) i && (leaf_closed 1 (value_slot x) i && true)) && true));
          true_so = (λ i. not (a.true_so i) || is_equal (leaf_value m sts 0 (value_slot x) i) (leaf_value m sts 1 (value_slot x) i));
        }

    told : (x : ℕ) → truth m (leaves_of sts) (closed (imp_of (assumed b) (stays x))) ≡ (not (is_assumed p w b) || is_equal (at after (value_slot x)) (at st (value_slot x)))
    told x = told_so m p s texts sts (imp_of (assumed b) (stays x)) (not (is_assumed p w b) || is_equal (at after (value_slot x)) (at st (value_slot x))) (tells x)

    told_forth : (x : ℕ) → (is_assumed p w b ≡ true → Same x) → truth m (leaves_of sts) (closed (imp_of (assumed b) (stays x))) ≡ true
    told_forth x same = told x ∙ on_bool (is_assumed p w b)
        (λ t. ap (λ a. not a || is_equal (at after (value_slot x)) (at st (value_slot x))) t ∙ equal_at (at after (value_slot x)) (at st (value_slot x)) (same t))
        (λ t. ap (λ a. not a || is_equal (at after (value_slot x)) (at st (value_slot x))) t)
      where
        self : (a : ℤ) → is_equal a a ≡ true
        self a = let d : a -ℤ a ≡ pos 0 = omega (arith, ints) in ap is_zero d

        equal_at : (a b : ℤ) → a ≡ b → is_equal a b ≡ true
        equal_at a b h = ap (is_equal a) (sym h) ∙ self a

    told_back : (x : ℕ) → truth m (leaves_of sts) (closed (imp_of (assumed b) (stays x))) ≡ true → is_assumed p w b ≡ true → Same x
    told_back x h t = equal_is (at after (value_slot x)) (at st (value_slot x)) (sym (ap (λ a. not a || is_equal (at after (value_slot x)) (at st (value_slot x))) t) ∙ sym (told x) ∙ h)

    module _ (f : ℕ → Bool) where
      lets_none : (x : ℕ) → lacks b.assigns (variables.Global x) ≡ true → is_assumed p w b ≡ true → lets_it x b ≡ false
      lets_none x l t = λ i. not (t i) || not (l i)

      from_forth : (x : ℕ) (vs : List Variable) → ((i : ℕ) → i < length vs → f (x + i) ≡ true → lets_it (x + i) b ≡ false → Same (x + i))
          → all_told m sts (stays_from (assumed b) b.assigns f x vs) ≡ true
      from_forth x [] h = refl
      from_forth x (v ∷ vs) h =
          all_append (λ g. truth m (leaves_of sts) (closed g)) (if f x && lacks b.assigns (variables.Global x) then imp_of (assumed b) (stays x) ∷ [] else []) (stays_from (assumed b) b.assigns f (suc x) vs)
          ∙ (λ i. first i
          && from_forth (suc x) vs (λ i l. subst (λ n. f n ≡ true → lets_it n b ≡ false → Same n) (let q : x + suc i ≡ suc x + i = omega arith in q) (h (suc i) (omega (arith, l)))) i)
        where
          here : x + 0 ≡ x
          here = omega arith

          first : all_told m sts (if f x && lacks b.assigns (variables.Global x) then imp_of (assumed b) (stays x) ∷ [] else []) ≡ true
          first = on_bool (f x && lacks b.assigns (variables.Global x))
              (λ t. let both = and_parts (f x) (lacks b.assigns (variables.Global x)) t in
              ap (λ c. all_told m sts (if c then imp_of (assumed b) (stays x) ∷ [] else [])) t
              ∙ ap (λ c. c && true) (told_forth x (λ a. subst Same here (h 0 (omega arith) (ap f here ∙ both.0) (ap (λ n. lets_it n b) here ∙ lets_none x both.1 a)))))
              (λ t. ap (λ c. all_told m sts (if c then imp_of (assumed b) (stays x) ∷ [] else [])) t)

      from_back : (x : ℕ) (vs : List Variable) → all_told m sts (stays_from (assumed b) b.assigns f x vs) ≡ true
          → (i : ℕ) → i < length vs → f (x + i) ≡ true → lets_it (x + i) b ≡ false → Same (x + i)
      from_back x [] h i l = absurd (omega (arith, l))
      from_back x (v ∷ vs) h i l =
          let both = and_parts (all_told m sts (if f x && lacks b.assigns (variables.Global x) then imp_of (assumed b) (stays x) ∷ [] else [])) (all_told m sts (stays_from (assumed b) b.assigns f (suc x) vs))
          (sym (all_append (λ g. truth m (leaves_of sts) (closed g)) (if f x && lacks b.assigns (variables.Global x) then imp_of (assumed b) (stays x) ∷ [] else []) (stays_from (assumed b) b.assigns f (suc x) vs)) ∙ h) in
          by i l both.0 (from_back (suc x) vs both.1)
        where
          lets_parts : (a l : Bool) → (not a || not l) ≡ false → (a ≡ true) × (l ≡ true)
          lets_parts true true h = (refl, refl)
          lets_parts true false h = absurd (false≢true (sym h))
          lets_parts false l h = absurd (false≢true (sym h))

          first : all_told m sts (if f x && lacks b.assigns (variables.Global x) then imp_of (assumed b) (stays x) ∷ [] else []) ≡ true → f x ≡ true → lets_it x b ≡ false → Same x
          first h on none =
              let parts = lets_parts (is_assumed p w b) (lacks b.assigns (variables.Global x)) none in
              let t : (f x && lacks b.assigns (variables.Global x)) ≡ true = λ i. on i && parts.1 i in
              told_back x (and_parts (truth m (leaves_of sts) (closed (imp_of (assumed b) (stays x)))) true
              (sym (ap (λ c. all_told m sts (if c then imp_of (assumed b) (stays x) ∷ [] else [])) t) ∙ h)).0 parts.0

          by : (i : ℕ) → i < suc (length vs) → all_told m sts (if f x && lacks b.assigns (variables.Global x) then imp_of (assumed b) (stays x) ∷ [] else []) ≡ true
              → ((i : ℕ) → i < length vs → f (suc x + i) ≡ true → lets_it (suc x + i) b ≡ false → Same (suc x + i)) → f (x + i) ≡ true → lets_it (x + i) b ≡ false → Same (x + i)
          by zero l h rest = subst (λ n. f n ≡ true → lets_it n b ≡ false → Same n) (let q : x ≡ x + 0 = omega arith in q) (first h)
          by (suc i) l h rest = subst (λ n. f n ≡ true → lets_it n b ≡ false → Same n) (let q : suc x + i ≡ x + suc i = omega arith in q) (rest i (omega (arith, l)))

  -- ---- all behaviors

  abbrev pub Stay : (f : ℕ → Bool) → List Behavior → Type 0
  Stay f bs = (x : ℕ) → x < length p.globals → f x ≡ true → list_all (lets_it x) bs ≡ false → Same x

  none_first : (a b : Bool) → a ≡ false → (a && b) ≡ false
  none_first a b h = ap (λ t. t && b) h

  none_second : (a b : Bool) → b ≡ false → (a && b) ≡ false
  none_second true b h = h
  none_second false b h = refl

  none_either : (a b : Bool) → (a && b) ≡ false → (a ≡ false) ⊎ (b ≡ false)
  none_either true b h = inr h
  none_either false b h = inl refl

  pub stay_forth : (f : ℕ → Bool) (bs : List Behavior) → AllOf (AssumesFit m p s texts) bs → Stay f bs → all_told m sts (all_stay (words.assumed_at p s texts (suc (suc e))) f p.globals bs) ≡ true
  stay_forth f [] fits h = refl
  stay_forth f (b ∷ bs) fits h =
      all_append (λ g. truth m (leaves_of sts) (closed g)) (stays_from (assumed b) b.assigns f 0 p.globals) (all_stay (words.assumed_at p s texts (suc (suc e))) f p.globals bs)
      ∙ (λ i. (from_forth b fits.0 f 0 p.globals (λ i l. subst (λ n. f n ≡ true → lets_it n b ≡ false → Same n) (let q : i ≡ 0 + i = omega arith in q)
      (λ on none. h i l on (none_first (lets_it i b) (list_all (lets_it i) bs) none)))) i
      && (stay_forth f bs fits.1 (λ x l on none. h x l on (none_second (lets_it x b) (list_all (lets_it x) bs) none))) i)

  pub stay_back : (f : ℕ → Bool) (bs : List Behavior) → AllOf (AssumesFit m p s texts) bs → all_told m sts (all_stay (words.assumed_at p s texts (suc (suc e))) f p.globals bs) ≡ true → Stay f bs
  stay_back f [] fits h x l on none = absurd (false≢true (sym none))
  stay_back f (b ∷ bs) fits h x l on none =
      let both = and_parts (all_told m sts (stays_from (assumed b) b.assigns f 0 p.globals)) (all_told m sts (all_stay (words.assumed_at p s texts (suc (suc e))) f p.globals bs))
      (sym (all_append (λ g. truth m (leaves_of sts) (closed g)) (stays_from (assumed b) b.assigns f 0 p.globals) (all_stay (words.assumed_at p s texts (suc (suc e))) f p.globals bs)) ∙ h) in
      by (none_either (lets_it x b) (list_all (lets_it x) bs) none)
      (subst (λ n. f n ≡ true → lets_it n b ≡ false → Same n) (let q : 0 + x ≡ x = omega arith in q) (from_back b fits.0 f 0 p.globals both.0 x l))
      (stay_back f bs fits.1 both.1 x l on)
    where
      by : (lets_it x b ≡ false) ⊎ (list_all (lets_it x) bs ≡ false) → (f x ≡ true → lets_it x b ≡ false → Same x) → (list_all (lets_it x) bs ≡ false → Same x) → Same x
      by (inl k) first rest = first on k
      by (inr k) first rest = rest k
