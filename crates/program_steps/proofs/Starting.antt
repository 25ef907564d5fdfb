-- Slots of a world in which a function is entered are ones in which its word may start.
use Rattle.std.proofs.Common.{◌≡◌, ◌⊎◌, ℕ, zero, suc, ◌+◌, ◌-◌, ◌<◌, ◌≤◌, ℤ, pos, negsuc, Bool, true, false, not, ◌&&◌, ◌||◌, if◌then◌else◌, List, [], ◌∷◌, ◌++◌, map, length, Option, Some, None, slice_get, refl, sym, ap, ◌∙◌, subst, arith}
use Rattle.std.specs.Prelude.{◌==◌, int_le}
use Rattle.std.specs.List.{list_all}
use Rattle.std.proofs.lemmas.Bool.{false≢true, and_parts}
use Rattle.wp_base.specs.declared.kinds.Kind.{Kind}
use Rattle.c_kinds.specs.Models.{low, high, holds}
use Rattle.acsl_trees.specs.Tree as acsl
use Rattle.c_runs.specs.TruthStates as labelled
use Rattle.c_runs.specs.TruthStates.{Value, number}
use Rattle.qed_terms.specs.Meaning as sense
use Rattle.qed_terms.specs.Meaning.{Values, truth}
use Rattle.qed_terms.specs.Tree.{Tree, num, at_most}
use Rattle.c_runs.specs.Program.{Variable, Claim, Behavior, Contract, Function, Facts, Program}
use Rattle.c_runs.specs.States.{World}
use Rattle.c_runs.specs.Claims as broken
use Rattle.c_runs.specs.Claims.{at_entry, is_assumed, is_required, all_hold, unless_true, parts_of}
use Rattle.c_runs.specs.Entry.{Enters}
use Rattle.c_runs.specs.Tree.{Steps}
use Rattle.plain_states.specs.Slots.{State, at, double, value_slot, flag_slot, local_value, local_flag, temp_slot}
use Rattle.plain_states.specs.Scopes.{is_integer, kind_of, zeros, first_slots, argument_slots}
use Rattle.plain_states.proofs.Lists.{double_is}
use Rattle.goal_segments.specs.Told.{IsGood, Shape, sizes, shape_of, is_param, AreOf}
use Rattle.goal_segments.proofs.Told.{more_slots}
use Rattle.goal_segments.proofs.Arguments.{Numbers, numbers_of}
use Rattle.walk_steps.specs.State.{AllTrue}
use Rattle.walk_steps.specs.Forms.{Form, told_forms}
use Rattle.walk_steps.specs.Laws.{Origin, own, fixed, Start, IsFrom, Starts}
use Rattle.program_steps.specs.Leaves.{after_as, leaf_name, leaf, is_marked, is_closed, or_false, closed, leaves_of, form}
use Rattle.program_steps.specs.Terms.{Texts, entry_reading, or_none, claim_tree, assumed_tree}
use Rattle.program_steps.specs.Words.{under}
use Rattle.program_steps.specs.Standing.{SeenAs, SeenBy}
use Rattle.program_steps.specs.Typed.{ClaimFits}
use Rattle.program_steps.specs.Placed.{InSetting}
use Rattle.program_steps.specs.Functions.{AllOf, EntersAs}
use Rattle.program_steps.specs.Starting.{file_origins, own_origins, zero_origins, origins_of, range_trees, file_ranges, param_ranges, start_claim, start_assumed, required_trees, all_required, start_trees, start_of, BehaviorStarts, StartFits}
use Rattle.program_steps.proofs.Filling.{on_bool}
use Rattle.program_steps.proofs.Listing.{leaf_value}
use Rattle.program_steps.proofs.Asking.{closed_told}
use Rattle.program_steps.proofs.Tests.{all_closed, all_so}

-- ---- where slots are from

pub from_more : (os ps : List Origin) (xs ys : State) → IsFrom os xs → IsFrom ps ys → IsFrom (os ++ ps) (xs ++ ys)
from_more [] ps [] ys h k = k
from_more [] ps (x ∷ xs) ys h k = absurd h
from_more (own ∷ os) ps [] ys h k = absurd h
from_more (own ∷ os) ps (x ∷ xs) ys h k = from_more os ps xs ys h k
from_more (fixed z ∷ os) ps [] ys h k = absurd h
from_more (fixed z ∷ os) ps (x ∷ xs) ys h k = (h.0, from_more os ps xs ys h.1 k)

zeros_from : (n : ℕ) → IsFrom (zero_origins n) (zeros n)
zeros_from zero = tt
zeros_from (suc n) = (refl, zeros_from n)

no_one : pos 0 ≡ pos 1 → ⊥
no_one e = cc

file_from : (vs : List Variable) (st : State) → ((x : ℕ) → x < length vs → at st (flag_slot x) ≡ pos 1) → IsFrom (file_origins vs) (first_slots (double (length vs)) st)
file_from [] st flags = tt
file_from (v ∷ vs) [] flags = absurd (no_one (flags 0 (omega arith)))
file_from (v ∷ vs) (a ∷ []) flags = absurd (no_one (flags 0 (omega arith)))
file_from (v ∷ vs) (a ∷ b ∷ st) flags = (flags 0 (omega arith), file_from vs st (λ x l. flags (suc x) (omega (arith, l))))

-- locals that are no parameters, and what is behind them
rest_from : (vs : List Variable) (t n : ℕ) → n ≡ double (length vs) + t → IsFrom (own_origins zero vs ++ zero_origins t) (zeros n)
rest_from [] t n e = let k : t ≡ n = omega (arith, e) in subst (λ n. IsFrom (zero_origins t) (zeros n)) k (zeros_from t)
rest_from (v ∷ vs) t zero e = absurd (omega (arith, e))
rest_from (v ∷ vs) t (suc zero) e = absurd (omega (arith, e))
rest_from (v ∷ vs) t (suc (suc n)) e = (refl, (refl, rest_from vs t n (omega (arith, e))))

pub own_from : (zs : List ℤ) (vs : List Variable) (t n : ℕ) → length zs ≤ length vs → n + double (length zs) ≡ double (length vs) + t
    → IsFrom (own_origins (length zs) vs ++ zero_origins t) (argument_slots zs ++ zeros n)
own_from [] vs t n l e = nothing vs (rest_from vs t n (omega (arith, e))) where
  nothing : (vs : List Variable) → IsFrom (own_origins zero vs ++ zero_origins t) (zeros n) → IsFrom (own_origins zero vs ++ zero_origins t) (zeros n)
  nothing vs h = h
own_from (z ∷ zs) [] t n l e = absurd (omega (arith, l))
own_from (z ∷ zs) (v ∷ vs) t n l e = (refl, own_from zs vs t n (omega (arith, l)) (omega (arith, e)))

-- ---- leaves are closed

unmarked_as : (n : ℕ) (name : List ℕ) → is_marked name ≡ false → is_marked (after_as n name) ≡ false
unmarked_as zero name h = h
unmarked_as (suc n) name h = unmarked_as n name h

leaf_unmarked : (l i : ℕ) → is_marked (leaf_name l i) ≡ false
unfolding leaf_name
leaf_unmarked l i = unmarked_as l (98 ∷ after_as i []) (unmarked_as i [] refl)

pub leaf_closed : (l i : ℕ) → is_closed [] (leaf l i) ≡ true
leaf_closed l i = ap (λ b. not b || false) (leaf_unmarked l i)

-- ---- what is known at the start

module _ (m : sense.World) (p : Facts) (s : Shape) (texts : Texts) (st : State) where
  abbrev pub env : Values
  env = leaves_of (st ∷ [])

  abbrev pub AllTold : List Tree → Type 0
  AllTold fs = AllTrue (told_forms (st ∷ []) (map (form m) fs))

  pub told_more : (fs gs : List Tree) → AllTold fs → AllTold gs → AllTold (fs ++ gs)
  told_more [] gs h k = k
  told_more (f ∷ fs) gs h k = (h.0, told_more fs gs h.1 k)

  least_told : (z : ℤ) (i : ℕ) → int_le z (at st i) ≡ true → truth m env (closed (at_most (num z) (leaf 0 i))) ≡ true
  least_told z i h = closed_told m (st ∷ []) (at_most (num z) (leaf 0 i)) (ap (λ b. b && true) (leaf_closed 0 i)) ∙ ap (int_le z) (leaf_value m (st ∷ []) 0 i) ∙ h

  most_told : (z : ℤ) (i : ℕ) → int_le (at st i) z ≡ true → truth m env (closed (at_most (leaf 0 i) (num z))) ≡ true
  most_told z i h = closed_told m (st ∷ []) (at_most (leaf 0 i) (num z)) (ap (λ b. b && true) (leaf_closed 0 i)) ∙ ap (λ x. int_le x z) (leaf_value m (st ∷ []) 0 i) ∙ h

  range_told : (k : Kind) (i : ℕ) → holds p.model k (at st i) ≡ true → AllTold (range_trees m p s texts k i)
  range_told k i h =
      let both = and_parts (int_le (low p.model k) (at st i)) (int_le (at st i) (high p.model k)) h in
      (least_told (low p.model k) i both.0, (most_told (high p.model k) i both.1, tt))

  pub files_told : (x : ℕ) (vs : List Variable) → ((i : ℕ) (v : Variable) → slice_get vs i ≡ Some v → holds p.model (kind_of v) (at st (value_slot (x + i))) ≡ true)
      → AllTold (file_ranges m p s texts x vs)
  files_told x [] h = tt
  files_told x (v ∷ vs) h =
      told_more (range_trees m p s texts (kind_of v) (value_slot x)) (file_ranges m p s texts (suc x) vs)
      (range_told (kind_of v) (value_slot x) (subst (λ n. holds p.model (kind_of v) (at st (value_slot n)) ≡ true) (omega arith) (h 0 v refl)))
      (files_told (suc x) vs (λ i u e. subst (λ n. holds p.model (kind_of u) (at st (value_slot n)) ≡ true) (let q : x + suc i ≡ suc x + i = omega arith in q) (h (suc i) u e)))

  pub params_told : (n x : ℕ) (vs : List Variable)
      → ((i : ℕ) (v : Variable) → i < n → slice_get vs i ≡ Some v → holds p.model (kind_of v) (at st (local_value (sizes p s) (x + i))) ≡ true)
      → AllTold (param_ranges m p s texts n x vs)
  params_told zero x vs h = tt
  params_told (suc n) x [] h = tt
  params_told (suc n) x (v ∷ vs) h =
      told_more (range_trees m p s texts (kind_of v) (local_value (sizes p s) x)) (param_ranges m p s texts n (suc x) vs)
      (range_told (kind_of v) (local_value (sizes p s) x) (subst (λ n. holds p.model (kind_of v) (at st (local_value (sizes p s) n)) ≡ true) (let q : x + 0 ≡ x = omega arith in q) (h 0 v (omega arith) refl)))
      (params_told n (suc x) vs (λ i u l e. subst (λ n. holds p.model (kind_of u) (at st (local_value (sizes p s) n)) ≡ true) (let q : x + suc i ≡ suc x + i = omega arith in q) (h (suc i) u (omega (arith, l)) e)))

  -- ---- requirements

  module _ (w : labelled.World) (seen : SeenBy p s w (st ∷ []) 0 0 0) where
    abbrev claim_at : acsl.Tree → Tree
    claim_at a = claim_tree p s texts (entry_reading p s texts 0) a

    pub one_closed : (a : acsl.Tree) → ClaimFits m p s texts a 0 0 0 → is_closed [] (claim_at a) ≡ true
    one_closed a fits = ap (λ o. is_closed [] (or_none p s texts o)) fits.is ∙ fits.closed

    pub one_true : (a : acsl.Tree) → ClaimFits m p s texts a 0 0 0 → truth m env (claim_at a) ≡ broken.holds p w a
    one_true a fits = ap (λ o. truth m env (or_none p s texts o)) fits.is ∙ fits.means w (st ∷ []) seen

    claims_so : (as_ : List acsl.Tree) → AllOf (λ a. ClaimFits m p s texts a 0 0 0) as_
        → (list_all (is_closed []) (map claim_at as_) ≡ true) × (list_all (truth m env) (map claim_at as_) ≡ list_all (broken.holds p w) as_)
    claims_so [] fits = (refl, refl)
    claims_so (a ∷ as_) fits =
        let rest = claims_so as_ fits.1 in
        let c = one_closed a fits.0 in
        let t = one_true a fits.0 in
        ((λ i. c i && rest.0 i), (λ i. t i && rest.1 i))

    pub assumed_so : (b : Behavior) → BehaviorStarts m p s texts b → (is_closed [] (start_assumed m p s texts b) ≡ true) × (truth m env (start_assumed m p s texts b) ≡ is_assumed p w b)
    assumed_so b fits =
        let x = claims_so b.assumes fits.assumes in
        (all_closed (map claim_at b.assumes) x.0, all_so m env (map claim_at b.assumes) ∙ x.1)

    -- one that is required where the behavior is there
    one_required : (plain : Bool) (b : Behavior) → BehaviorStarts m p s texts b → (plain ≡ true → is_assumed p w b ≡ true) → (c : Claim) → ClaimFits m p s texts c.what 0 0 0
        → (is_assumed p w b ≡ true → broken.holds p w c.what ≡ true) → truth m env (closed (under plain (start_assumed m p s texts b) (start_claim m p s texts c))) ≡ true
    one_required true b fits so c fit good = closed_told m (st ∷ []) (start_claim m p s texts c) (one_closed c.what fit) ∙ one_true c.what fit ∙ good (so refl)
    one_required false b fits so c fit good =
        let a = assumed_so b fits in
        let k = one_closed c.what fit in
        let t = one_true c.what fit in
        closed_told m (st ∷ []) (under false (start_assumed m p s texts b) (start_claim m p s texts c)) (λ i. a.0 i && (k i && true))
        ∙ (λ i. not (a.1 i) || t i) ∙ by (is_assumed p w b) (broken.holds p w c.what) good
      where
        by : (x y : Bool) → (x ≡ true → y ≡ true) → (not x || y) ≡ true
        by true y h = h refl
        by false y h = refl

    all_required_so : (plain : Bool) (b : Behavior) → BehaviorStarts m p s texts b → (plain ≡ true → is_assumed p w b ≡ true) → (cs : List Claim)
        → AllOf (λ (c : Claim). ClaimFits m p s texts c.what 0 0 0) cs → (is_assumed p w b ≡ true → all_hold p w cs ≡ true)
        → AllTold (map (λ c. under plain (start_assumed m p s texts b) (start_claim m p s texts c)) cs)
    all_required_so plain b fits so [] fit good = tt
    all_required_so plain b fits so (c ∷ cs) fit good = (
      one_required plain b fits so c fit.0 (λ e. (and_parts (broken.holds p w c.what) (all_hold p w cs) (good e)).0),
      all_required_so plain b fits so cs fit.1 (λ e. (and_parts (broken.holds p w c.what) (all_hold p w cs) (good e)).1),
    )

    where_assumed : (b : Behavior) → is_required p w b ≡ true → is_assumed p w b ≡ true → all_hold p w b.requires ≡ true
    where_assumed b h e = sym (ap (λ t. if t then all_hold p w b.requires else true) e) ∙ h

    behaviors_told : (bs : List Behavior) → AllOf (BehaviorStarts m p s texts) bs → list_all (is_required p w) bs ≡ true → AllTold (all_required m p s texts bs)
    behaviors_told [] fits h = tt
    behaviors_told (b ∷ bs) fits h =
        let both = and_parts (is_required p w b) (list_all (is_required p w) bs) h in
        told_more (required_trees m p s texts false b) (all_required m p s texts bs)
        (all_required_so false b fits.0 (λ e. absurd (false≢true e)) b.requires fits.0.requires (where_assumed b both.0)) (behaviors_told bs fits.1 both.1)

    pub required_told : (c : Contract) → StartFits m p s texts c → list_all (is_required p w) (parts_of c) ≡ true
        → AllTold (required_trees m p s texts true c.plain ++ all_required m p s texts c.behaviors)
    required_told c fits h =
        let both = and_parts (is_required p w c.plain) (list_all (is_required p w) c.behaviors) h in
        told_more (required_trees m p s texts true c.plain) (all_required m p s texts c.behaviors)
        (all_required_so true c.plain fits.plain (λ e. ap (list_all (broken.holds p w)) fits.assumes) c.plain.requires fits.plain.requires (where_assumed c.plain both.0))
        (behaviors_told c.behaviors fits.behaviors both.1)
