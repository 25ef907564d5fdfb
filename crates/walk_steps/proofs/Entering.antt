-- The start: its slots and what is known of them, with values for each state.
use Rattle.std.proofs.Common.{◌≡◌, ◌-◌, ◌^◌, ℕ, zero, suc, ℤ, pos, negsuc, int_le, Bool, true, false, cond, List, [], ◌∷◌, length, refl, sym, ap, ap₂, ◌∙◌, subst, arith, le_refl}
use Rattle.std.proofs.lemmas.Bool.{le-leb}
use Rattle.std.specs.Str.{bytes_eq}
use Rattle.std.proofs.lemmas.Slice.Eq.{bytes_eq-Decides}
use Rattle.wp_base.specs.Blocks.{Table, block_at, len}
use Rattle.qed_terms.specs.Fresh.{none_used}
use Rattle.qed_terms.specs.Meaning as sense
use Rattle.qed_terms.specs.Meaning.{Values, with_int}
use Rattle.qed_terms.specs.Setting.{nothing, cells_at_most, IsBounded}
use Rattle.walk_steps.specs.State.{State, AllTrue}
use Rattle.walk_steps.specs.Forms.{told_forms, state_of, AreForms}
use Rattle.walk_steps.specs.World.{AreBases, world}
use Rattle.walk_steps.specs.Laws.{Origin, own, fixed, Start, IsFrom, start_slots, Away, OwnDiffer, start_world}
use Rattle.walk_steps.proofs.Asking.{Holds, forms_mean}
use Rattle.walk_steps.proofs.Naming.{Agree, bytes_same}
use Rattle.walk_steps.proofs.Settled.{Settled, Steady}
use Rattle.walk_steps.proofs.Walking.{forms_settled, now_clean}

-- ---- values without blocks

no_cells : (n : ℕ) (b : ℤ) → int_le (len [] b) (pos n) ≡ true
unfolding block_at
no_cells n (pos zero) = le-leb 0 n (omega (arith))
no_cells n (pos (suc k)) = le-leb 0 n (omega (arith))
no_cells n (negsuc k) = le-leb 0 n (omega (arith))

pub bounded : (bits : ℕ) (env : Values) → nothing.tables ≡ env.tables → IsBounded bits env
bounded bits env e = subst (λ (t : List ℕ → Table). (x : List ℕ) → cells_at_most (2 ^ (bits - 1) - 1) (t x)) e (λ x b. no_cells (2 ^ (bits - 1) - 1) b)

-- ---- values for a state

abbrev pub AgreesWith : Values → List (List ℕ) → List Origin → State → Type 0
AgreesWith env bases [] zs = Unit {0}
AgreesWith env [] (o ∷ os) zs = Unit {0}
AgreesWith env (b ∷ bases) (o ∷ os) [] = Unit {0}
AgreesWith env (b ∷ bases) (own ∷ os) (z ∷ zs) = (env.ints b ≡ z) × AgreesWith env bases os zs
AgreesWith env (b ∷ bases) (fixed y ∷ os) (z ∷ zs) = AgreesWith env bases os zs

other_name : (env : Values) (x y : List ℕ) (z : ℤ) → (x ≡ y → ⊥) → (with_int env x z).ints y ≡ env.ints y
other_name env x y z n = by (bytes_eq y x) refl
  where
    by : (b : Bool) → bytes_eq y x ≡ b → cond b z (env.ints y) ≡ env.ints y
    by true e = absurd (n (sym ((bytes_eq-Decides y x).0 e)))
    by false e = refl

agrees_more : (env : Values) (x : List ℕ) (y : ℤ) (bases : List (List ℕ)) (os : List Origin) (zs : State) → Away x bases os → AgreesWith env bases os zs → AgreesWith (with_int env x y) bases os zs
agrees_more env x y bases [] zs a h = tt
agrees_more env x y [] (o ∷ os) zs a h = tt
agrees_more env x y (b ∷ bases) (o ∷ os) [] a h = tt
agrees_more env x y (b ∷ bases) (own ∷ os) (z ∷ zs) a h = (other_name env x b y a.0 ∙ h.0, agrees_more env x y bases os zs a.1 h.1)
agrees_more env x y (b ∷ bases) (fixed n ∷ os) (z ∷ zs) a h = agrees_more env x y bases os zs a h

pub start_values : (bases : List (List ℕ)) (os : List Origin) (zs : State) → OwnDiffer bases os → (env : Values) × (nothing.tables ≡ env.tables) × AgreesWith env bases os zs
start_values bases [] zs d = (nothing, refl, tt)
start_values [] (o ∷ os) zs d = (nothing, refl, tt)
start_values (b ∷ bases) (o ∷ os) [] d = (nothing, refl, tt)
start_values (b ∷ bases) (own ∷ os) (z ∷ zs) d =
    let r = start_values bases os zs d.1 in
    (with_int r.0 b z, r.1, (ap (λ t. cond t z (r.0.ints b)) (bytes_same b), agrees_more r.0 b z bases os zs d.0 r.2))
start_values (b ∷ bases) (fixed y ∷ os) (z ∷ zs) d = start_values bases os zs d

module _ (m : sense.World) where
  pub start_met : (env : Values) (bases : List (List ℕ)) (os : List Origin) (zs : State) → length os ≡ length bases → IsFrom os zs → AgreesWith env bases os zs → state_of m env (start_slots bases os) ≡ zs
  start_met env bases [] [] l s h = refl
  start_met env bases [] (z ∷ zs) l s h = absurd s
  start_met env [] (o ∷ os) zs l s h = absurd cc
  start_met env (b ∷ bases) (o ∷ os) [] l s h = absurd s
  start_met env (b ∷ bases) (own ∷ os) (z ∷ zs) l s h = ap₂ (λ y ys. y ∷ ys) h.0 (start_met env bases os zs (cc) s h.1)
  start_met env (b ∷ bases) (fixed y ∷ os) (z ∷ zs) l s h = ap₂ (λ y ys. y ∷ ys) (sym s.0) (start_met env bases os zs (cc) s.1 h)

  pub start_from : (env : Values) (bases : List (List ℕ)) (os : List Origin) → length os ≡ length bases → IsFrom os (state_of m env (start_slots bases os))
  start_from env bases [] l = tt
  start_from env [] (o ∷ os) l = absurd cc
  start_from env (b ∷ bases) (own ∷ os) l = start_from env bases os (cc)
  start_from env (b ∷ bases) (fixed z ∷ os) l = (refl, start_from env bases os (cc))

  start_size : (bases : List (List ℕ)) (os : List Origin) → length os ≡ length bases → length (start_slots bases os) ≡ length bases
  start_size bases [] l = l
  start_size [] (o ∷ os) l = absurd cc
  start_size (b ∷ bases) (own ∷ os) l = ap suc (start_size bases os (cc))
  start_size (b ∷ bases) (fixed z ∷ os) l = ap suc (start_size bases os (cc))

  start_same : (env env' : Values) → Agree none_used env env' → (bases : List (List ℕ)) → AreBases bases → (os : List Origin) → state_of m env (start_slots bases os) ≡ state_of m env' (start_slots bases os)
  start_same env env' a bases i [] = refl
  start_same env env' a [] i (o ∷ os) = refl
  start_same env env' a (b ∷ bases) i (own ∷ os) = ap₂ (λ y ys. y ∷ ys) (a.same b 0 i.0 (le_refl 0)) (start_same env env' a bases i.1 os)
  start_same env env' a (b ∷ bases) i (fixed z ∷ os) = ap (λ ys. z ∷ ys) (start_same env env' a bases i.1 os)

  pub nothing_remembered : Steady m none_used []
  nothing_remembered = record { slots = λ env env' a. refl }

  module _ (bases : List (List ℕ)) (e : Start) (l : length e.origins ≡ length bases) (i : AreBases bases) (g : AreForms m e.facts) where
    slots_settled : Settled m (length bases) none_used (world [] (start_slots bases e.origins))
    slots_settled = record { size = start_size bases e.origins l; known = λ env env' a h. tt; slots = λ env env' a. start_same env env' a bases i e.origins }

    pub start_settled : Settled m (length bases) none_used (start_world bases e)
    start_settled = forms_settled m slots_settled nothing_remembered e.facts g

    -- what is known at the start is what is so of its state
    facts_told : (env : Values) (st : State) → state_of m env (start_slots bases e.origins) ≡ st → Holds m env (start_world bases e).known ≡ AllTrue (told_forms (st ∷ []) e.facts)
    facts_told env st s =
        ap AllTrue (forms_mean m env (start_slots bases e.origins ∷ []) (now_clean m slots_settled nothing_remembered) e.facts g ∙ ap (λ st. told_forms (st ∷ []) e.facts) s)

    pub facts_known : (env : Values) (st : State) → state_of m env (start_slots bases e.origins) ≡ st → AllTrue (told_forms (st ∷ []) e.facts) → Holds m env (start_world bases e).known
    facts_known env st s h = subst (λ X. X) (sym (facts_told env st s)) h

    pub facts_so : (env : Values) (st : State) → state_of m env (start_slots bases e.origins) ≡ st → Holds m env (start_world bases e).known → AllTrue (told_forms (st ∷ []) e.facts)
    facts_so env st s h = subst (λ X. X) (facts_told env st s) h
