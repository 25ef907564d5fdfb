-- A slot that is set, with a name for a large value.
use Rattle.std.proofs.Common.{◌≡◌, ℕ, zero, suc, Bool, true, false, cond, List, [], ◌∷◌, ◌++◌, refl, sym, ap, ap₂, ◌∙◌, subst, arith}
use Rattle.qed_terms.specs.Tree.{Tree}
use Rattle.qed_terms.specs.Fresh.{Used, use_one}
use Rattle.qed_terms.specs.Meaning as sense
use Rattle.qed_terms.specs.Meaning.{Values, meaning}
use Rattle.walk_steps.specs.State.{put}
use Rattle.walk_steps.specs.World.{IsBase, large_base, is_large}
use Rattle.walk_steps.proofs.Lists.{put_map, put_length}
use Rattle.walk_steps.proofs.Asking.{Holds, holds_front, holds_back, holds_both}
use Rattle.walk_steps.proofs.Naming.{Grows, grows_same, use_grows, use_itself, next_name}
use Rattle.memory_steps.specs.State.{Datum, State, state, Base, HasSort, HaveSorts}
use Rattle.memory_steps.specs.Forms.{datum, data_of, table_of, state_of}
use Rattle.memory_steps.specs.Step.{sort_at}
use Rattle.memory_steps.specs.Run.{set_in}
use Rattle.memory_steps.specs.World.{AreBases, World, world, with_terms, new_name, is_same, base_at, Named, named, set_to}
use Rattle.memory_steps.proofs.Naming.{Agree, agree_same, agree_less, bring, bring_agrees, bring_new, name_sort, new_same}
use Rattle.memory_steps.proofs.Linking.{term_told, told_term}
use Rattle.memory_steps.proofs.Settled.{Meets, terms_same, table_same, Settled}

-- with a name, or without
abbrev named_by : Bool → Base → Used → Tree → Named
named_by y b c t =
    cond y (record { term = new_name c b; used = use_one c b.name; links = is_same b.is_memory (new_name c b) t ∷ [] })
    (record { term = t; used = c; links = [] })

large_is_base : IsBase large_base
large_is_base = (((λ e. omega (arith, e)), tt), ((λ e. omega (arith, e)), tt))

pub base_is_base : (bases : List Base) → AreBases bases → (i : ℕ) → IsBase (base_at bases i).name
base_is_base [] h i = large_is_base
base_is_base (b ∷ bases) h zero = by b.is_memory
  where
    by : (y : Bool) → IsBase (cond y b (record { name = large_base; is_memory = false })).name
    by true = h.0
    by false = large_is_base
base_is_base (b ∷ bases) h (suc i) = base_is_base bases h.1 i

pub base_sort : (bases : List Base) (i : ℕ) → (base_at bases i).is_memory ≡ sort_at bases i
base_sort [] i = refl
base_sort (b ∷ bases) zero = by b.is_memory refl
  where
    by : (y : Bool) → b.is_memory ≡ y → (cond y b (record { name = large_base; is_memory = false })).is_memory ≡ b.is_memory
    by true e = refl
    by false e = sym e
base_sort (b ∷ bases) (suc i) = base_sort bases i

pub put_sorts : (bases : List Base) (ds : List Datum) (i : ℕ) (d : Datum) → HaveSorts bases ds → HasSort (sort_at bases i) d → HaveSorts bases (put ds i d)
put_sorts [] [] i d h k = tt
put_sorts [] (x ∷ ds) i d h k = absurd h
put_sorts (b ∷ bases) [] i d h k = absurd h
put_sorts (b ∷ bases) (x ∷ ds) zero d h k = (k, h.1)
put_sorts (b ∷ bases) (x ∷ ds) (suc i) d h k = (h.0, put_sorts bases ds i d h.1 k)

module _ (m : sense.World) (bases : List Base) where
  abbrev pub Same : Used → Tree → Type 0
  Same c t = (env env' : Values) → Agree c env env' → datum m env t ≡ datum m env' t

  -- a term for the slot of this number
  abbrev pub Suits : ℕ → Tree → Type 0
  Suits i t = (env : Values) → HasSort (sort_at bases i) (datum m env t)

  by_grows : (y : Bool) (b : Base) (c : Used) (t : Tree) → Grows c (named_by y b c t).used
  by_grows true b c t = use_grows c b.name
  by_grows false b c t = grows_same c

  -- a world in which a slot is a term, and more is known
  slot_settled : (c d : Used) (w : World) (i : ℕ) (x : Tree) (fs : List Tree) → Settled m bases c w → Grows c d → Suits i x → Same d x
      → ((env env' : Values) → Agree d env env' → Holds m env fs → Holds m env' fs) → Settled m bases d (world (w.known ++ fs) (with_terms w.slots (put w.slots.terms i x)))
  slot_settled c d w i x fs s g suits e more = record {
    size = put_length w.slots.terms i x ∙ s.size;
    sorts = λ env.
        subst (HaveSorts bases) (sym (put_map (datum m env) w.slots.terms i x)) (put_sorts bases (data_of m env w.slots.terms) i (datum m env x) (s.sorts env) (suits env));
    known = λ env env' a h. holds_both m env' w.known fs (s.known env env' (agree_less g a) (holds_front m env w.known fs h)) (more env env' a (holds_back m env w.known fs h));
    slots = record {
      same = λ env env' a.
          let b = agree_less g a in
          ap₂ (λ ds t. state ds t)
          (put_map (datum m env) w.slots.terms i x ∙ ap₂ (λ ds d. put ds i d) (terms_same m s.slots env env' b) (e env env' a) ∙ sym (put_map (datum m env') w.slots.terms i x))
          (table_same m s.slots env env' b);
      marks = λ env env' a. s.slots.marks env env' (agree_less g a);
      trailed = s.slots.trailed;
    };
  }

  module _ (b : Base) (is : IsBase b.name) (i : ℕ) (sorted : b.is_memory ≡ sort_at bases i) where
    name_suits : (c : Used) → Suits i (new_name c b)
    name_suits c env = subst (λ s. HasSort s (datum m env (new_name c b))) sorted (name_sort m b.is_memory env (next_name c b.name))

    own_sort : (t : Tree) → Suits i t → (env : Values) → HasSort b.is_memory (datum m env t)
    own_sort t h env = subst (λ s. HasSort s (datum m env t)) (sym sorted) (h env)

    by_settled : (y : Bool) (c : Used) (w : World) (t : Tree) → Settled m bases c w → Suits i t → Same c t → Settled m bases (named_by y b c t).used (set_to w i (named_by y b c t))
    by_settled false c w t s h e = slot_settled c c w i t [] s (grows_same c) h e (λ env env' a f. tt)
    by_settled true c w t s h e =
        let x = new_name c b in
        let d = use_one c b.name in
        let g = use_grows c b.name in
        let n : Same d x = λ env env' a. new_same m c b is (use_itself c b.name) a in
        slot_settled c d w i x (is_same b.is_memory x t ∷ []) s g (name_suits c) n
        (λ env env' a f.
        let told = term_told m env b.is_memory x t (name_sort m b.is_memory env (next_name c b.name)) (own_sort t h env) f.0 in
        (told_term m env' b.is_memory x t (name_sort m b.is_memory env' (next_name c b.name)) (own_sort t h env') (sym (n env env' a) ∙ told ∙ e env env' (agree_less g a)), tt))

    abbrev SetsTo : World → Tree → Values → World → Type 0
    SetsTo w t env v = Holds m env w.known × (state_of m env v.slots ≡ set_in (state_of m env w.slots) i (datum m env t))

    by_ran : (y : Bool) (c : Used) (w : World) (t : Tree) → Suits i t → (env : Values) → Holds m env (set_to w i (named_by y b c t)).known → SetsTo w t env (set_to w i (named_by y b c t))
    by_ran false c w t k env h = (holds_front m env w.known _ h, ap (λ ds. state ds (table_of m env w.slots.table)) (put_map (datum m env) w.slots.terms i t))
    by_ran true c w t k env h =
        let x = new_name c b in
        let e : datum m env x ≡ datum m env t =
        term_told m env b.is_memory x t (name_sort m b.is_memory env (next_name c b.name)) (own_sort t k env) (holds_back m env w.known _ h).0
        in
        (holds_front m env w.known _ h, ap (λ ds. state ds (table_of m env w.slots.table)) (put_map (datum m env) w.slots.terms i x ∙ ap (put (data_of m env w.slots.terms) i) e))

    abbrev SetMet : Used → World → Values → State → Type 0
    SetMet c v env st = (env' : Values) × Agree c env env' × Meets m env' v st

    by_met : (y : Bool) (c : Used) (w : World) (t : Tree) (env : Values) (st : State) → Settled m bases c w → Suits i t → Same c t → Meets m env w st
        → SetMet c (set_to w i (named_by y b c t)) env (set_in st i (datum m env t))
    by_met false c w t env st s k e h = (
      env,
      agree_same c env,
      record {
        known = holds_both m env w.known [] h.known tt;
        state = ap (λ ds. state ds (table_of m env w.slots.table)) (put_map (datum m env) w.slots.terms i t) ∙ ap (λ st. set_in st i (datum m env t)) h.state;
      },
    )
    by_met true c w t env st s k e h =
        let x = new_name c b in
        let v = meaning m env t in
        let env' = bring b.is_memory env (next_name c b.name) v in
        let a = bring_agrees b.is_memory c env b.name v is in
        let n : datum m env' x ≡ datum m env t = bring_new m b.is_memory env (next_name c b.name) v (own_sort t k env) in (
          env',
          a,
          record {
            known = holds_both m env' w.known _ (s.known env env' a h.known)
                (told_term m env' b.is_memory x t (name_sort m b.is_memory env' (next_name c b.name)) (own_sort t k env') (n ∙ e env env' a), tt);
            state = ap (λ ds. state ds (table_of m env' w.slots.table)) (put_map (datum m env') w.slots.terms i x) ∙ ap₂ (λ st d. set_in st i d) (sym (s.slots.same env env' a) ∙ h.state) n;
          },
        )

    pub set_grows : (c : Used) (t : Tree) → Grows c (named b c t).used
    set_grows c t = by_grows (is_large t) b c t

    pub set_settled : (c : Used) (w : World) (t : Tree) → Settled m bases c w → Suits i t → Same c t → Settled m bases (named b c t).used (set_to w i (named b c t))
    set_settled c w t = by_settled (is_large t) c w t

    pub set_ran : (c : Used) (w : World) (t : Tree) → Suits i t → (env : Values) → Holds m env (set_to w i (named b c t)).known → SetsTo w t env (set_to w i (named b c t))
    set_ran c w t = by_ran (is_large t) c w t

    pub set_met : (c : Used) (w : World) (t : Tree) (env : Values) (st : State) → Settled m bases c w → Suits i t → Same c t → Meets m env w st
        → SetMet c (set_to w i (named b c t)) env (set_in st i (datum m env t))
    set_met c w t = by_met (is_large t) c w t
