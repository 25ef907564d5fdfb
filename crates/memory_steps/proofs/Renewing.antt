-- Slots that change: what is known of their new values is how they may change.
use Rattle.std.proofs.Common.{◌≡◌, ℤ, pos, int_le, Bool, true, false, not, List, [], ◌∷◌, map, Option, Some, None, refl, sym, ap, ap₂, ◌∙◌, subst, arith}
use Rattle.std.proofs.lemmas.Bool.{false≢true}
use Rattle.std.proofs.lemmas.Float.{T_from_true}
use Rattle.std.proofs.lemmas.Int.{ints}
use Rattle.std.specs.Int.Signed.{le_z_yes, ◌≤ℤ◌}
use Rattle.qed_terms.specs.Tree.{Tree, num}
use Rattle.qed_terms.proofs.Total.{same_exact}
use Rattle.qed_terms.specs.Fresh.{Used, use_one}
use Rattle.qed_terms.specs.Meaning as sense
use Rattle.qed_terms.specs.Meaning.{Value, Whole, Truth, Cells, Blocks, Values, meaning, value, truth}
use Rattle.same_memories.proofs.Listing.{canonical_is_canonical}
use Rattle.walk_steps.specs.World.{IsBase}
use Rattle.walk_steps.proofs.Lists.{cons_parts}
use Rattle.walk_steps.proofs.Asking.{Holds, holds_front, holds_back, holds_both}
use Rattle.walk_steps.proofs.Naming.{Grows}
use Rattle.memory_steps.specs.State.{Datum, number, cells, State, state, with_slots, Base, HasSort, HaveSorts, IsLike}
use Rattle.memory_steps.specs.Forms.{Slots, AllTold, datum_of, datum, data_of, table_of, states_of, AreClean}
use Rattle.memory_steps.specs.Step as step
use Rattle.memory_steps.specs.Step.{Change, IsChange, AreChanges}
use Rattle.memory_steps.specs.Run.{Raised, Changed, Changes}
use Rattle.memory_steps.specs.World.{AreBases, World, new_name, pick, after_pick, or_own, chosen}
use Rattle.memory_steps.specs.Renew.{is_renewed, renewals, facts_of, facts_if, facts, renewed, used_by_renewed}
use Rattle.memory_steps.proofs.Asking.{facts_told, told_facts}
use Rattle.memory_steps.proofs.Naming.{Agree, agree_less}
use Rattle.memory_steps.proofs.Linking.{number_told}
use Rattle.memory_steps.proofs.Settled.{Meets, terms_same, table_same, Settled, Steady, steady_same, steady_more, clean}
use Rattle.memory_steps.proofs.Picks.{AreNext, is_next, after_picks_grows, SameNames, same_names, name_clean, next_sort, given, given_agrees, given_newest, Newest, chosen_length, chosen_settled, chosen_sorts}
use Rattle.memory_steps.proofs.Joining.{map_map, values_of}

not_true : (b : Bool) → not b ≡ false → b ≡ true
not_true true h = refl
not_true false h = absurd (false≢true (sym h))

is_one : (z : ℤ) → int_le z (pos 1) ≡ true → int_le (pos 1) z ≡ true → z ≡ pos 1
is_one z a b =
    let x : z ≤ℤ pos 1 = le_z_yes (T_from_true (int_le z (pos 1)) a) in
    let y : pos 1 ≤ℤ z = le_z_yes (T_from_true (int_le (pos 1) z) b) in
    omega (arith, ints, x, y)

-- ---- data of a sort

like_sort : (s : Bool) (x y : Datum) → IsLike x y → HasSort s x → HasSort s y
like_sort true (number x) (number y) h k = absurd k
like_sort true (number x) (cells g) h k = absurd k
like_sort true (cells f) (number y) h k = absurd h
like_sort true (cells f) (cells g) h k = tt
like_sort false (number x) (number y) h k = tt
like_sort false (number x) (cells g) h k = absurd h
like_sort false (cells f) (number y) h k = absurd k
like_sort false (cells f) (cells g) h k = absurd k

like_value : (x y : Datum) → IsLike x y → (v : Value) × (datum_of v ≡ y)
like_value (number x) (number y) h = (Whole y, refl)
like_value (number x) (cells g) h = absurd h
like_value (cells f) (number y) h = absurd h
like_value (cells f) (cells g) h = (Cells g, ap cells h)

like_itself : (v : Value) → IsLike (datum_of v) (datum_of v)
like_itself (Whole z) = tt
like_itself (Truth b) = tt
like_itself (Cells n) = canonical_is_canonical n
like_itself (Blocks t) = tt

-- values of one sort are alike
alike : (s : Bool) (v w : Value) → HasSort s (datum_of v) → HasSort s (datum_of w) → IsLike (datum_of v) (datum_of w)
alike s v w h k = by s (datum_of v) w h k
  where
    by : (s : Bool) (x : Datum) (w : Value) → HasSort s x → HasSort s (datum_of w) → IsLike x (datum_of w)
    by true (number z) w h k = absurd h
    by true (cells f) (Whole z) h k = absurd k
    by true (cells f) (Truth b) h k = absurd k
    by true (cells f) (Cells n) h k = canonical_is_canonical n
    by true (cells f) (Blocks t) h k = absurd k
    by false (cells f) w h k = absurd h
    by false (number z) (Whole y) h k = tt
    by false (number z) (Truth b) h k = tt
    by false (number z) (Cells n) h k = absurd k
    by false (number z) (Blocks t) h k = tt

raised_like : (x y : Datum) → Raised x y → IsLike x y
raised_like (number x) (number y) h = tt
raised_like (number x) (cells g) h = absurd h
raised_like (cells f) (number y) h = absurd h
raised_like (cells f) (cells g) h = absurd h

flag_stays : (d : Datum) → Raised (number (pos 1)) d → number (pos 1) ≡ d
flag_stays (number y) h = ap number (sym (is_one y h.1 h.2))
flag_stays (cells f) h = absurd h

changed_like : (sts : List State) (ch : Change) (v : Value) (d : Datum) → Changed sts ch (datum_of v) d → IsLike (datum_of v) d
changed_like sts step.keeps v d h = subst (IsLike (datum_of v)) h (like_itself v)
changed_like sts (step.fresh fs) v d h = h.0
changed_like sts step.raised v d h = raised_like (datum_of v) d h

-- values for the new data
abbrev pub HasValues : List Base → List Datum → Type 0
HasValues bases ds = (vs : List Value) × (map datum_of vs ≡ ds) × HaveSorts bases ds

change_values : (sts : List State) (cs : List Change) (vs : List Value) (ds : List Datum) → Changes sts cs (map datum_of vs) ds → (bases : List Base) → HaveSorts bases (map datum_of vs) → HasValues bases ds
change_values sts [] vs ds h bases k = (vs, h, subst (HaveSorts bases) h k)
change_values sts (ch ∷ cs) [] [] h bases k = ([], refl, k)
change_values sts (ch ∷ cs) [] (d ∷ ds) h bases k = absurd h
change_values sts (ch ∷ cs) (v ∷ vs) [] h bases k = absurd h
change_values sts (ch ∷ cs) (v ∷ vs) (d ∷ ds) h [] k = absurd k
change_values sts (ch ∷ cs) (v ∷ vs) (d ∷ ds) h (b ∷ bases) k =
    let l = changed_like sts ch v d h.0 in
    let x = like_value (datum_of v) d l in
    let rest = change_values sts cs vs ds h.1 bases k.1 in
    (x.0 ∷ rest.0, ap₂ (λ y ys. y ∷ ys) x.1 rest.1, (like_sort b.is_memory (datum_of v) d l k.0, rest.2))

pub renewals_next : (bases : List Base) (c : Used) (cs : List Change) (ts : List Tree) → AreNext bases c (renewals bases c cs ts)
renewals_next bases c [] ts = tt
renewals_next [] c (ch ∷ cs) ts = tt
renewals_next (b ∷ bases) c (ch ∷ cs) [] = tt
renewals_next (b ∷ bases) c (ch ∷ cs) (t ∷ ts) = let x = is_renewed ch t in (is_next c b x, renewals_next bases (after_pick c b (pick c b x)) cs ts)

module _ (m : sense.World) where
  -- ---- what is known of a new value

  raised_told : (env : Values) (s : Bool) (x t : Tree) → s ≡ false → HasSort s (datum m env x) → HasSort s (datum m env t) → (ss : List Slots) → Holds m env (facts_of ss step.raised x t)
      → Raised (datum m env t) (datum m env x)
  raised_told env s x t e h k ss f =
      let a = number_told m env t (subst (λ s. HasSort s (datum m env t)) e k) in
      let b = number_told m env x (subst (λ s. HasSort s (datum m env x)) e h) in
      subst (λ d. Raised d (datum m env x)) (sym a) (subst (Raised (number (value m env t))) (sym b) (f.0, f.1.0, f.1.1.0))

  told_raised : (env : Values) (s : Bool) (x t : Tree) → s ≡ false → HasSort s (datum m env x) → HasSort s (datum m env t) → (ss : List Slots) → Raised (datum m env t) (datum m env x)
      → Holds m env (facts_of ss step.raised x t)
  told_raised env s x t e h k ss f =
      let a = number_told m env t (subst (λ s. HasSort s (datum m env t)) e k) in
      let b = number_told m env x (subst (λ s. HasSort s (datum m env x)) e h) in
      let r : Raised (number (value m env t)) (number (value m env x)) = subst (Raised (number (value m env t))) b (subst (λ d. Raised d (datum m env x)) a f) in
      (r.0, (r.1, (r.2, tt)))

  -- a name that was given for a slot
  module _ (env : Values) (ss : List Slots) (k : AreClean m ss) (c : Used) (b : Base) (i : IsBase b.name) where
    one_told : (ch : Change) → IsChange m b ch → (t : Tree) → HasSort b.is_memory (datum m env t) → (y : Bool) → is_renewed ch t ≡ y → Holds m env (facts_if ss ch (pick c b y) t)
        → Changed (states_of m env ss) ch (datum m env t) (datum m env (or_own (pick c b y) t))
    one_told step.keeps g t h true e f = absurd (false≢true e)
    one_told step.keeps g t h false e f = refl
    one_told (step.fresh ws) g t h true e f =
        let x = new_name c b in
        (alike b.is_memory (meaning m env t) (meaning m env x) h (next_sort m c b x refl env), facts_told m env ss k x (name_clean m c b x i refl) ws g f)
    one_told (step.fresh ws) g t h false e f = absurd (false≢true (sym e))
    one_told step.raised g t h true e f = raised_told env b.is_memory (new_name c b) t g (next_sort m c b (new_name c b) refl env) h ss f
    one_told step.raised g t h false e f =
        let is : t ≡ num (pos 1) = same_exact t (num (pos 1)) (not_true _ e) in
        subst (λ u. Raised (datum m env u) (datum m env u)) (sym is) (refl, refl, refl)

    -- the facts of a new name, where the change is so
    told_one : (ch : Change) → IsChange m b ch → (t : Tree) → HasSort b.is_memory (datum m env t) → (x : Tree) → x ≡ new_name c b
        → Changed (states_of m env ss) ch (datum m env t) (datum m env x) → Holds m env (facts_of ss ch x t)
    told_one step.keeps g t h x n f = tt
    told_one (step.fresh ws) g t h x n f = told_facts m env ss k x (name_clean m c b x i n) ws g f.1
    told_one step.raised g t h x n f = told_raised env b.is_memory x t g (next_sort m c b x n env) h ss f

  -- the facts of a new name are kept under values that agree
  one_kept : (env env' : Values) (ss : List Slots) → AreClean m ss → (c : Used) (b : Base) → IsBase b.name → states_of m env ss ≡ states_of m env' ss → (ch : Change) → IsChange m b ch → (t : Tree)
      → HasSort b.is_memory (datum m env t) → HasSort b.is_memory (datum m env' t) → (x : Tree) → x ≡ new_name c b → datum m env t ≡ datum m env' t → datum m env x ≡ datum m env' x
      → Holds m env (facts_of ss ch x t) → Holds m env' (facts_of ss ch x t)
  one_kept env env' ss k c b i q step.keeps g t h h' x n e d f = tt
  one_kept env env' ss k c b i q (step.fresh ws) g t h h' x n e d f =
      let l = name_clean m c b x i n in
      let told = facts_told m env ss k x l ws g f in
      told_facts m env' ss k x l ws g (subst (AllTold (states_of m env' ss) ws) d (subst (λ sts. AllTold sts ws (datum m env x)) q told))
  one_kept env env' ss k c b i q step.raised g t h h' x n e d f =
      let told = raised_told env b.is_memory x t g (next_sort m c b x n env) h ss f in
      told_raised env' b.is_memory x t g (next_sort m c b x n env') h' ss (subst (λ y. Raised y (datum m env' x)) e (subst (Raised (datum m env t)) d told))

  -- ---- from values to a change

  facts_change : (env : Values) (ss : List Slots) → AreClean m ss → (bases : List Base) → AreBases bases → (c : Used) (cs : List Change) → AreChanges m bases cs → (ts : List Tree)
      → HaveSorts bases (data_of m env ts) → Holds m env (facts ss cs (renewals bases c cs ts) ts)
      → Changes (states_of m env ss) cs (data_of m env ts) (data_of m env (chosen (renewals bases c cs ts) ts))
  facts_change env ss k bases i c [] g ts h f = refl
  facts_change env ss k [] i c (ch ∷ cs) g [] h f = tt
  facts_change env ss k [] i c (ch ∷ cs) g (t ∷ ts) h f = absurd h
  facts_change env ss k (b ∷ bases) i c (ch ∷ cs) g [] h f = absurd h
  facts_change env ss k (b ∷ bases) i c (ch ∷ cs) g (t ∷ ts) h f =
      let x = is_renewed ch t in
      let d = after_pick c b (pick c b x) in
      let first = facts_if ss ch (pick c b x) t in
      (one_told env ss k c b i.0 ch g.0 t h.0 x refl (holds_front m env first _ f), facts_change env ss k bases i.1 d cs g.1 ts h.1 (holds_back m env first _ f))

  -- ---- from a change to values

  -- the name of a slot has this datum, if it has a name
  abbrev Names : Values → Option Tree → Datum → Type 0
  Names env None d = Unit {0}
  Names env (Some x) d = datum m env x ≡ d

  newest_parts : (env : Values) (p : Option Tree) (ps : List (Option Tree)) (d : Datum) (ds : List Datum) → Newest m env (p ∷ ps) (d ∷ ds) → Names env p d × Newest m env ps ds
  newest_parts env None ps d ds n = (tt, n)
  newest_parts env (Some x) ps d ds n = n

  one_met : (env : Values) (ss : List Slots) → AreClean m ss → (c : Used) (b : Base) → IsBase b.name → (ch : Change) → IsChange m b ch → (t : Tree) → HasSort b.is_memory (datum m env t)
      → (x : Bool) (d : Datum) → is_renewed ch t ≡ x → Names env (pick c b x) d → Changed (states_of m env ss) ch (datum m env t) d
      → (datum m env (or_own (pick c b x) t) ≡ d) × Holds m env (facts_if ss ch (pick c b x) t)
  one_met env ss k c b i ch g t h true d e n f =
      let x = new_name c b in (n, told_one env ss k c b i ch g t h x refl (subst (Changed (states_of m env ss) ch (datum m env t)) (sym n) f))
  one_met env ss k c b i step.keeps g t h false d e n f = (f, tt)
  one_met env ss k c b i (step.fresh ws) g t h false d e n f = absurd (false≢true (sym e))
  one_met env ss k c b i step.raised g t h false d e n f =
      let is : t ≡ num (pos 1) = same_exact t (num (pos 1)) (not_true _ e) in
      (ap (datum m env) is ∙ flag_stays d (subst (λ u. Raised (datum m env u) d) is f), tt)

  change_met : (env : Values) (ss : List Slots) → AreClean m ss → (bases : List Base) → AreBases bases → (c : Used) (cs : List Change) → AreChanges m bases cs → (ts : List Tree) (ds : List Datum)
      → HaveSorts bases (data_of m env ts) → Newest m env (renewals bases c cs ts) ds → Changes (states_of m env ss) cs (data_of m env ts) ds
      → (data_of m env (chosen (renewals bases c cs ts) ts) ≡ ds) × Holds m env (facts ss cs (renewals bases c cs ts) ts)
  change_met env ss k bases i c [] g ts ds h n f = (f, tt)
  change_met env ss k [] i c (ch ∷ cs) g [] [] h n f = (refl, tt)
  change_met env ss k [] i c (ch ∷ cs) g [] (d ∷ ds) h n f = absurd f
  change_met env ss k [] i c (ch ∷ cs) g (t ∷ ts) ds h n f = absurd h
  change_met env ss k (b ∷ bases) i c (ch ∷ cs) g [] ds h n f = absurd h
  change_met env ss k (b ∷ bases) i c (ch ∷ cs) g (t ∷ ts) [] h n f = absurd f
  change_met env ss k (b ∷ bases) i c (ch ∷ cs) g (t ∷ ts) (d ∷ ds) h n f =
      let x = is_renewed ch t in
      let p = pick c b x in
      let u = after_pick c b p in
      let q = newest_parts env p (renewals bases u cs ts) d ds n in
      let rest = change_met env ss k bases i.1 u cs g.1 ts ds h.1 q.1 f.1 in
      let y = one_met env ss k c b i.0 ch g.0 t h.0 x d refl q.0 f.0 in
      (ap₂ (λ y ys. y ∷ ys) y.0 rest.0, holds_both m env (facts_if ss ch p t) _ y.1 rest.1)

  -- ---- worlds

  facts_kept : (env env' : Values) (ss : List Slots) → AreClean m ss → states_of m env ss ≡ states_of m env' ss → (bases : List Base) → AreBases bases → (c : Used) (cs : List Change) → AreChanges m bases cs
      → (ps : List (Option Tree)) → AreNext bases c ps → (ts : List Tree) → HaveSorts bases (data_of m env ts) → HaveSorts bases (data_of m env' ts) → SameNames m env env' ps
      → data_of m env ts ≡ data_of m env' ts → Holds m env (facts ss cs ps ts) → Holds m env' (facts ss cs ps ts)
  facts_kept env env' ss k q bases i c [] g ps n ts h h' s e f = tt
  facts_kept env env' ss k q bases i c (ch ∷ cs) g [] n ts h h' s e f = tt
  facts_kept env env' ss k q [] i c (ch ∷ cs) g (p ∷ ps) n ts h h' s e f = absurd n
  facts_kept env env' ss k q (b ∷ bases) i c (ch ∷ cs) g (p ∷ ps) n [] h h' s e f = tt
  facts_kept env env' ss k q (b ∷ bases) i c (ch ∷ cs) g (None ∷ ps) n (t ∷ ts) h h' s e f =
      facts_kept env env' ss k q bases i.1 c cs g.1 ps n.1 ts h.1 h'.1 s (cons_parts e).1 f
  facts_kept env env' ss k q (b ∷ bases) i c (ch ∷ cs) g (Some x ∷ ps) n (t ∷ ts) h h' s e f =
      let r = cons_parts e in
      let first = facts_of ss ch x t in
      holds_both m env' first _ (one_kept env env' ss k c b i.0 q ch g.0 t h.0 h'.0 x n.0 r.0 s.0 (holds_front m env first _ f))
      (facts_kept env env' ss k q bases i.1 (use_one c b.name) cs g.1 ps n.1 ts h.1 h'.1 s.1 r.1 (holds_back m env first _ f))

  module _ (bases : List Base) (fit : AreBases bases) (olds : List Slots) (c : Used) (cs : List Change) (good : AreChanges m bases cs) (w : World) where
    abbrev names : List (Option Tree)
    names = renewals bases c cs w.slots.terms

    next : AreNext bases c names
    next = renewals_next bases c cs w.slots.terms

    pub renewed_grows : Grows c (used_by_renewed bases c cs w)
    renewed_grows = after_picks_grows bases names c

    module _ (s : Settled m bases c w) (t : Steady m c olds) where
      all_clean : AreClean m (w.slots ∷ olds)
      all_clean = clean m (steady_more m s t)

      pub renewed_settled : Settled m bases (used_by_renewed bases c cs w) (renewed bases olds c cs w)
      renewed_settled = record {
        size = chosen_length m names w.slots.terms ∙ s.size;
        sorts = λ env. chosen_sorts m env bases c names w.slots.terms next (s.sorts env);
        known = λ env env' a h.
            let b = agree_less renewed_grows a in
            let q = steady_same m (steady_more m s t) env env' b in
            holds_both m env' w.known _ (s.known env env' b (holds_front m env w.known _ h))
            (facts_kept env env' (w.slots ∷ olds) all_clean q bases fit c cs good names next w.slots.terms (s.sorts env) (s.sorts env') (same_names m bases fit c env env' names next a)
            (terms_same m s.slots env env' b) (holds_back m env w.known _ h));
        slots = record {
          same = λ env env' a.
              let b = agree_less renewed_grows a in
              ap₂ (λ ds t. state ds t) (chosen_settled m env env' names w.slots.terms (same_names m bases fit c env env' names next a) (terms_same m s.slots env env' b))
              (table_same m s.slots env env' b);
          marks = λ env env' a. s.slots.marks env env' (agree_less renewed_grows a);
          trailed = s.slots.trailed;
        };
      }

      -- values of the world after it make a change of the state
      pub renewed_ran : (env : Values) → Holds m env (renewed bases olds c cs w).known
          → Holds m env w.known × Changes (states_of m env (w.slots ∷ olds)) cs (data_of m env w.slots.terms) (data_of m env (renewed bases olds c cs w).slots.terms)
      renewed_ran env h =
          (holds_front m env w.known _ h, facts_change env (w.slots ∷ olds) all_clean bases fit c cs good w.slots.terms (s.sorts env) (holds_back m env w.known _ h))

      -- a change of the state goes on to values of the world after it
      pub renewed_met : (env : Values) (st : State) (ds : List Datum) (sts : List State) → Meets m env w st → states_of m env olds ≡ sts → Changes (st ∷ sts) cs st.slots ds
          → (env' : Values) × Agree c env env' × Meets m env' (renewed bases olds c cs w) (with_slots st ds)
      renewed_met env st ds sts h r f =
          let ts = w.slots.terms in
          let vs = values_of m bases fit env w.slots in
          let now : states_of m env (w.slots ∷ olds) ≡ st ∷ sts = ap₂ (λ x xs. x ∷ xs) h.state r in
          let here : data_of m env ts ≡ st.slots = ap (λ (st : State). st.slots) h.state in
          let same : map datum_of vs ≡ data_of m env ts = map_map datum_of (meaning m env) ts in
          let first : Changes (st ∷ sts) cs (map datum_of vs) ds = subst (λ xs. Changes (st ∷ sts) cs xs ds) (sym (same ∙ here)) f in
          let new = change_values (st ∷ sts) cs vs ds first bases (subst (HaveSorts bases) (sym same) (s.sorts env)) in
          let env' = given bases c env names new.0 in
          let a = given_agrees bases fit c env names new.0 next in
          let kept : states_of m env' (w.slots ∷ olds) ≡ st ∷ sts = sym (steady_same m (steady_more m s t) env env' a) ∙ now in
          let there : data_of m env' ts ≡ st.slots = sym (terms_same m s.slots env env' a) ∙ here in
          let both : Changes (states_of m env' (w.slots ∷ olds)) cs (data_of m env' ts) ds =
          subst (λ xs. Changes (states_of m env' (w.slots ∷ olds)) cs xs ds) (sym there) (subst (λ sts. Changes sts cs st.slots ds) (sym kept) f)
          in
          let newest : Newest m env' names ds = subst (Newest m env' names) new.1 (given_newest m bases fit c env names new.0 next (subst (HaveSorts bases) (sym new.1) new.2)) in
          let x = change_met env' (w.slots ∷ olds) all_clean bases fit c cs good ts ds (s.sorts env') newest both in
          let tables : table_of m env' w.slots.table ≡ st.table = ap (λ (st : State). st.table) (sym (s.slots.same env env' a) ∙ h.state) in
          (env', a, record { known = holds_both m env' w.known _ (s.known env env' a h.known) x.1; state = ap₂ (λ ds t. state ds t) x.0 tables })
