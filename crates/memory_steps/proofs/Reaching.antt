-- A walk shows the end of each run.
use Rattle.std.proofs.Common.{◌≡◌, ℕ, ◌+◌, true, not, List, [], ◌∷◌, ◌++◌, map, refl, sym, ap, ap₂, ◌∙◌, subst}
use Rattle.qed_terms.specs.Tree.{not_of}
use Rattle.qed_terms.specs.Fresh.{Used, use_one}
use Rattle.qed_terms.specs.Meaning as sense
use Rattle.qed_terms.specs.Meaning.{Values, truth}
use Rattle.walk_steps.specs.State.{at_or, AllTrue, FirstFalse}
use Rattle.walk_steps.specs.Walk.{list_of}
use Rattle.walk_steps.proofs.Lists.{at_map}
use Rattle.walk_steps.proofs.Asking.{Holds, holds_both}
use Rattle.walk_steps.proofs.Naming.{grows_trans}
use Rattle.memory_steps.specs.State.{State, Base}
use Rattle.memory_steps.specs.Forms.{Slots, Form, forms, written_forms, told_forms, datum, state_of, states_of, AreForms}
use Rattle.memory_steps.specs.Step as s
use Rattle.memory_steps.specs.Step.{Step, count, sort_at, IsGood}
use Rattle.memory_steps.specs.Run as seg
use Rattle.memory_steps.specs.Run.{End, goes_on, leaves, fails, set_in, Seg}
use Rattle.memory_steps.specs.World.{AreBases, World, knows, base_at, mark_base, marked}
use Rattle.memory_steps.specs.Join.{can_meet}
use Rattle.memory_steps.specs.Walk.{Walked, walk}
use Rattle.memory_steps.proofs.Asking.{forms_mean, asked_shows}
use Rattle.memory_steps.proofs.Naming.{Agree, agree_same, agree_less, agree_trans}
use Rattle.memory_steps.proofs.Trails.{both_parts}
use Rattle.memory_steps.proofs.Settled.{Meets, Shows, Steady, still, steady_same, Settled, later, steady_more}
use Rattle.memory_steps.proofs.Assigning.{base_is_base, base_sort, set_met}
use Rattle.memory_steps.proofs.Renewing.{renewed_met}
use Rattle.memory_steps.proofs.Tabling.{mark_grows, marked_settled, marked_met, grown_met, made_met, ended_met}
use Rattle.memory_steps.proofs.Combining.{then_fits, arms_fits, then_first, then_second, arms_left, arms_right, block_shows, scope_shows, left_here}
use Rattle.memory_steps.proofs.Walking.{now_clean, term_same, term_suits, first_settled, second_settled, walk_settled}

module _ (m : sense.World) where
  -- the remembered states
  pub record Remembers (env : Values) (olds : List Slots) (sts : List State) : Type 0 where
    pub same : states_of m env olds ≡ sts

  abbrev pub Reaches : Used → Walked → Values → End → Type 0
  Reaches c r env o = (env' : Values) × Agree c env env' × Shows m r env' o

  now : (c : Used) (r : Walked) (env : Values) (o : End) → Shows m r env o → Reaches c r env o
  now c r env o h = (env, agree_same c env, h)

  keeps : {c : Used} {olds : List Slots} {sts : List State} {env env' : Values} → Steady m c olds → Agree c env env' → Remembers env olds sts → Remembers env' olds sts
  keeps {env = env} {env' = env'} t a r = record { same = sym (steady_same m t env env' a) ∙ r.same }

  both_states : {env : Values} {w : World} {st : State} {olds : List Slots} {sts : List State} → Meets m env w st → Remembers env olds sts → states_of m env (w.slots ∷ olds) ≡ st ∷ sts
  both_states h r = ap₂ (λ x xs. x ∷ xs) h.state r.same

  module _ {bases : List Base} {c : Used} {w : World} {olds : List Slots} (q : Settled m bases c w) (t : Steady m c olds) where
    mean_now : (env : Values) (st : State) (sts : List State) (fs : List Form) → AreForms m fs → Meets m env w st → Remembers env olds sts
        → map (truth m env) (written_forms (w.slots ∷ olds) fs) ≡ told_forms (st ∷ sts) fs
    mean_now env st sts fs g h r = forms_mean m env (w.slots ∷ olds) (now_clean m q t) fs g ∙ ap (λ sts. told_forms sts fs) (both_states h r)

    all_hold : (env : Values) (st : State) (sts : List State) (fs : List Form) → AreForms m fs → Meets m env w st → Remembers env olds sts → AllTrue (told_forms (st ∷ sts) fs)
        → Holds m env (w.known ++ written_forms (w.slots ∷ olds) fs)
    all_hold env st sts fs g h r x = holds_both m env w.known _ h.known (subst AllTrue (sym (mean_now env st sts fs g h r)) x)

  module _ (bases : List Base) (fit : AreBases bases) where
    pub from_run : {sts : List State} {n : ℕ} {a : Step} {st : State} {o : End} → Seg sts n a st o → IsGood m bases a → (olds : List Slots) (c : Used) (w : World) → Settled m bases c w → Steady m c olds
        → (walk bases olds n a c w).fits ≡ true → (env : Values) → Meets m env w st → Remembers env olds sts → Reaches c (walk bases olds n a c w) env o
    from_run {sts} {n} {a} {st} {o} seg.skips g olds c w q t z env h r = now c (walk bases olds n a c w) env o (w, refl, h)
    from_run {sts} {n} {st} {o} (seg.goes_both {a} {b} {mid} f e) g olds c w q t z env h r =
        let p = walk bases olds n a c w in
        let go = walk bases olds (n + count a) b in
        let parts = then_fits p go p.end z in
        let all = walk_settled m bases fit a g.0 olds n c w q t in
        let x = from_run f g.0 olds c w q t parts.0 env h r in
        let y = from_run e g.1 olds p.used x.2.0 (all.goes x.2.0 x.2.1) (still m all.grows t) (parts.1 x.2.0 x.2.1) x.0 x.2.2 (keeps t x.1 r) in
        (y.0, agree_trans x.1 (agree_less all.grows y.1), then_second m p go y.0 o x.2.0 x.2.1 y.2)
    from_run {sts} {n} {st} {o} (seg.ends_first {a} {b} f over) g olds c w q t z env h r =
        let p = walk bases olds n a c w in
        let go = walk bases olds (n + count a) b in
        let x = from_run f g.0 olds c w q t (then_fits p go p.end z).0 env h r in
        (x.0, x.1, then_first m p go x.0 o p.end over x.2)
    from_run {sts} {n} {a} {st} {o} (seg.asks {cs} f) g olds c w q t z env h r =
        now c (walk bases olds n a c w) env o (_, refl, record { known = all_hold q t env st sts (forms cs) g h r f; state = h.state })
    from_run {sts} {n} {a} {st} {o} (seg.ask_fails {i} {cs} f) g olds c w q t z env h r =
        let x = asked_shows m env n i w.known (w.slots ∷ olds) cs h.known (subst (λ bs. FirstFalse n bs i) (sym (mean_now q t env st sts (forms cs) g h r)) f) in
        now c (walk bases olds n a c w) env o x
    from_run {sts} {n} {a} {st} {o} (seg.knows_so {fs} f) g olds c w q t z env h r =
        now c (walk bases olds n a c w) env o (_, refl, record { known = all_hold q t env st sts fs g h r f; state = h.state })
    from_run {sts} {n} {st} (seg.sets {i} {u}) g olds c w q t z env h r =
        let ss = w.slots ∷ olds in
        let x = set_met m bases (base_at bases i) (base_is_base bases fit i) i (base_sort bases i) c w (u.written ss) env st q (term_suits m q t i u g) (term_same m q t (sort_at bases i) u g) h in
        let v : datum m env (u.written ss) ≡ u.told (st ∷ sts) = g.told env ss (now_clean m q t) ∙ ap u.told (both_states h r) in
        (x.0, x.1, (_, refl, record { known = x.2.known; state = x.2.state ∙ ap (set_in st i) v }))
    from_run {sts} {n} {a} {st} {o} (seg.changes {cs} ds f) g olds c w q t z env h r =
        let x = renewed_met m bases fit olds c cs g w q t env st ds sts h r.same f in
        (x.0, x.1, (_, refl, x.2))
    from_run {sts} {n} {st} {o} (seg.first_arm {f} {a} {b} e d) g olds c w q t z env h r =
        let ss = w.slots ∷ olds in
        let p = f.written ss in
        let u = use_one c mark_base in
        let j = mark_grows m bases c in
        let left = knows (marked c w) (p ∷ []) in
        let right = knows (marked c w) (not_of p ∷ []) in
        let v = walk bases olds n a u left in
        let go = walk bases olds (n + count a) b v.used right in
        let parts = arms_fits m bases fit u v go z in
        let first = first_settled m q t f g.0 in
        let all = walk_settled m bases fit a g.1 olds n u left first (still m j t) in
        let same = g.0 env ss (now_clean m q t) ∙ ap f.told (both_states h r) in
        let x = from_run d g.1 olds u left first (still m j t) parts.0 env (record { known = holds_both m env w.known _ h.known (same ∙ e, tt); state = h.state }) r in
        let y = walk_settled m bases fit b g.2 olds (n + count a) v.used right (later m all.grows (second_settled m q t f g.0)) (still m (grows_trans j all.grows) t) in
        let k = arms_left m bases fit u v go all y parts.2 x.0 o x.2 in
        (k.0, agree_less {env' = k.0} j (agree_trans {z = k.0} x.1 (agree_less {env' = k.0} (grows_trans all.grows y.grows) k.1)), k.2)
    from_run {sts} {n} {st} {o} (seg.second_arm {f} {a} {b} e d) g olds c w q t z env h r =
        let ss = w.slots ∷ olds in
        let p = f.written ss in
        let u = use_one c mark_base in
        let j = mark_grows m bases c in
        let left = knows (marked c w) (p ∷ []) in
        let right = knows (marked c w) (not_of p ∷ []) in
        let v = walk bases olds n a u left in
        let go = walk bases olds (n + count a) b v.used right in
        let parts = arms_fits m bases fit u v go z in
        let all = walk_settled m bases fit a g.1 olds n u left (first_settled m q t f g.0) (still m j t) in
        let steady = still m (grows_trans j all.grows) t in
        let same = g.0 env ss (now_clean m q t) ∙ ap f.told (both_states h r) in
        let second = later m all.grows (second_settled m q t f g.0) in
        let x = from_run d g.2 olds v.used right second steady parts.1 env (record { known = holds_both m env w.known _ h.known (ap not (same ∙ e), tt); state = h.state }) r in
        let y = walk_settled m bases fit b g.2 olds (n + count a) v.used right second steady in
        let k = arms_right m bases fit u v go all y parts.2 x.0 o x.2 in
        (k.0, agree_less {env' = k.0} j (agree_trans {z = k.0} (agree_less all.grows x.1) (agree_less {env' = k.0} (grows_trans all.grows y.grows) k.1)), k.2)
    from_run {sts} {n} {st} (seg.blocks {a} {o} f) g olds c w q t z env h r =
        let p = walk bases olds n a c w in
        let parts = both_parts p.fits (can_meet bases p.used (p.left 0 ++ list_of p.end)) z in
        let all = walk_settled m bases fit a g olds n c w q t in
        let x = from_run f g olds c w q t parts.0 env h r in
        let y = block_shows m bases fit c p all parts.1 x.0 o x.2 in
        (y.0, agree_trans x.1 (agree_less all.grows y.1), y.2)
    from_run {sts} {n} {st} (seg.exits {k = l}) g olds c w q t z env h r = now c (walk bases olds n (s.exit l) c w) env (leaves l st) (w, left_here l w, h)
    from_run {sts} {n} {st} (seg.scopes {is} {a} {o} f) g olds c w q t z env h r =
        let x = from_run f g olds c w q t z env h r in
        (x.0, x.1, scope_shows m is w st (walk bases olds n a c w) x.0 o (sym (q.slots.same env x.0 x.1) ∙ h.state) x.2)
    from_run {sts} {n} {st} {o} (seg.remembers f) g olds c w q t z env h r =
        let v = marked_settled m bases c w q in
        let j = mark_grows m bases c in
        let x = from_run f g ((marked c w).slots ∷ olds) (use_one c mark_base) (marked c w) v (steady_more m v (still m j t)) z env (marked_met m bases c w env st h)
        (record { same = both_states h r }) in
        (x.0, agree_less j x.1, x.2)
    from_run {sts} {n} {st} (seg.grows y le) g olds c w q t z env h r =
        let x = grown_met m bases c w q env st y h le in
        (x.0, x.1, (_, refl, x.2))
    from_run {sts} {n} {st} {o} (seg.makes {i} {l}) g olds c w q t z env h r = now c (walk bases olds n (s.made i l) c w) env o (_, refl, made_met m bases c i l w env st h)
    from_run {sts} {n} {st} {o} (seg.ends {l}) g olds c w q t z env h r =
        let old = at_or w.slots olds l in
        let e : state_of m env old ≡ at_or st sts l = at_map (state_of m env) w.slots olds l ∙ ap₂ (λ x xs. at_or x xs l) h.state r.same in
        now c (walk bases olds n (s.ended l) c w) env o (_, refl, ended_met m bases old w env (at_or st sts l) st e h)
