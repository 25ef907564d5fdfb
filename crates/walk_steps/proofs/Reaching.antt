-- A walk shows the end of each run.
use Rattle.std.proofs.Common.{◌≡◌, ℕ, ◌+◌, not, List, [], ◌∷◌, ◌++◌, map, length, refl, sym, ap, ap₂, ◌∙◌, subst}
use Rattle.qed_terms.specs.Tree.{not_of}
use Rattle.qed_terms.specs.Fresh.{Used}
use Rattle.qed_terms.specs.Meaning as sense
use Rattle.qed_terms.specs.Meaning.{Values, value, truth}
use Rattle.walk_steps.specs.State.{State, put, AllTrue, FirstFalse}
use Rattle.walk_steps.specs.Forms.{Slots, Form, forms, written_forms, told_forms, states_of, AreForms}
use Rattle.walk_steps.specs.Step as s
use Rattle.walk_steps.specs.Step.{Step, count, IsGood}
use Rattle.walk_steps.specs.Run as seg
use Rattle.walk_steps.specs.Run.{End, goes_on, leaves, fails, Seg}
use Rattle.walk_steps.specs.World.{AreBases, World, knows}
use Rattle.walk_steps.specs.Walk.{Walked, walk}
use Rattle.walk_steps.proofs.Asking.{Holds, holds_both, forms_mean, asked_shows}
use Rattle.walk_steps.proofs.Naming.{Agree, agree_same, agree_less, agree_trans, grows_trans}
use Rattle.walk_steps.proofs.Settled.{Meets, Shows, Steady, still, Settled, later, steady_more}
use Rattle.walk_steps.proofs.Assigning.{set_met}
use Rattle.walk_steps.proofs.Renewing.{renewed_met}
use Rattle.walk_steps.proofs.Combining.{then_first, then_second, arms_left, arms_right, block_shows, scope_shows, left_here}
use Rattle.walk_steps.proofs.Walking.{now_clean, number_same, first_settled, second_settled, walk_settled}

module _ (m : sense.World) where
  -- the remembered states
  pub record Remembers (env : Values) (olds : List Slots) (sts : List State) : Type 0 where
    pub same : states_of m env olds ≡ sts

  abbrev pub Reaches : Used → Walked → Values → End → Type 0
  Reaches c r env o = (env' : Values) × Agree c env env' × Shows m r env' o

  now : (c : Used) (r : Walked) (env : Values) (o : End) → Shows m r env o → Reaches c r env o
  now c r env o h = (env, agree_same c env, h)

  keeps : {c : Used} {olds : List Slots} {sts : List State} {env env' : Values} → Steady m c olds → Agree c env env' → Remembers env olds sts → Remembers env' olds sts
  keeps {env = env} {env' = env'} t a r = record { same = sym (t.slots env env' a) ∙ r.same }

  both_states : {env : Values} {w : World} {st : State} {olds : List Slots} {sts : List State} → Meets m env w st → Remembers env olds sts → states_of m env (w.slots ∷ olds) ≡ (st ∷ sts)
  both_states h r = ap₂ (λ x xs. x ∷ xs) h.state r.same

  module _ {k : ℕ} {c : Used} {w : World} {olds : List Slots} (q : Settled m k c w) (t : Steady m c olds) where
    mean_now : (env : Values) (st : State) (sts : List State) (fs : List Form) → AreForms m fs → Meets m env w st → Remembers env olds sts
        → map (truth m env) (written_forms (w.slots ∷ olds) fs) ≡ told_forms (st ∷ sts) fs
    mean_now env st sts fs g h r = forms_mean m env (w.slots ∷ olds) (now_clean m q t) fs g ∙ ap (λ sts. told_forms sts fs) (both_states h r)

    all_hold : (env : Values) (st : State) (sts : List State) (fs : List Form) → AreForms m fs → Meets m env w st → Remembers env olds sts → AllTrue (told_forms (st ∷ sts) fs)
        → Holds m env (w.known ++ written_forms (w.slots ∷ olds) fs)
    all_hold env st sts fs g h r x = holds_both m env w.known _ h.known (subst AllTrue (sym (mean_now env st sts fs g h r)) x)

  module _ (bases : List (List ℕ)) (fit : AreBases bases) where
    abbrev k : ℕ
    k = length bases

    pub from_run : {sts : List State} {n : ℕ} {a : Step} {st : State} {o : End} → Seg sts n a st o → IsGood m a → (olds : List Slots) (c : Used) (w : World) → Settled m k c w → Steady m c olds
        → (env : Values) → Meets m env w st → Remembers env olds sts → Reaches c (walk bases olds n a c w) env o
    from_run {sts} {n} {a} {st} {o} seg.skips g olds c w q t env h r = now c (walk bases olds n a c w) env o (w, refl, h)
    from_run {sts} {n} {st} {o} (seg.goes_both {a} {b} {mid} f e) g olds c w q t env h r =
        let p = walk bases olds n a c w in
        let all = walk_settled m bases fit a g.0 olds n c w q t in
        let x = from_run f g.0 olds c w q t env h r in
        let y = from_run e g.1 olds p.used x.2.0 (all.goes x.2.0 x.2.1) (still m all.grows t) x.0 x.2.2 (keeps t x.1 r) in
        (y.0, agree_trans x.1 (agree_less all.grows y.1), then_second m p (walk bases olds (n + count a) b) y.0 o x.2.0 x.2.1 y.2)
    from_run {sts} {n} {st} {o} (seg.ends_first {a} {b} f over) g olds c w q t env h r =
        let p = walk bases olds n a c w in
        let x = from_run f g.0 olds c w q t env h r in
        (x.0, x.1, then_first m p (walk bases olds (n + count a) b) x.0 o p.end over x.2)
    from_run {sts} {n} {a} {st} {o} (seg.asks {cs} f) g olds c w q t env h r =
        now c (walk bases olds n a c w) env o (_, refl, record { known = all_hold q t env st sts (forms cs) g h r f; state = h.state })
    from_run {sts} {n} {a} {st} {o} (seg.ask_fails {i} {cs} f) g olds c w q t env h r =
        let x = asked_shows m env n i w.known (w.slots ∷ olds) cs h.known (subst (λ bs. FirstFalse n bs i) (sym (mean_now q t env st sts (forms cs) g h r)) f) in
        now c (walk bases olds n a c w) env o x
    from_run {sts} {n} {a} {st} {o} (seg.knows_so {fs} f) g olds c w q t env h r =
        now c (walk bases olds n a c w) env o (_, refl, record { known = all_hold q t env st sts fs g h r f; state = h.state })
    from_run {sts} {n} {st} (seg.sets {i} {u}) g olds c w q t env h r =
        let ss = w.slots ∷ olds in
        let x = set_met m k c w i (u.written ss) env st q (number_same m q t u g) h in
        let v : value m env (u.written ss) ≡ u.told (st ∷ sts) = g env ss (now_clean m q t) ∙ ap u.told (both_states h r) in
        (x.0, x.1, (_, refl, record { known = x.2.known; state = x.2.state ∙ ap (put st i) v }))
    from_run {sts} {n} {a} {st} {o} (seg.changes {cs} {st'} f) g olds c w q t env h r =
        let x = renewed_met m bases fit olds c cs g w q t env st st' sts h r.same f in
        (x.0, x.1, (_, refl, x.2))
    from_run {sts} {n} {st} {o} (seg.first_arm {f} {a} {b} e d) g olds c w q t env h r =
        let ss = w.slots ∷ olds in
        let p = f.written ss in
        let left = knows w (p ∷ []) in
        let right = knows w (not_of p ∷ []) in
        let v = walk bases olds n a c left in
        let first = first_settled m q t f g.0 in
        let all = walk_settled m bases fit a g.1 olds n c left first t in
        let same = g.0 env ss (now_clean m q t) ∙ ap f.told (both_states h r) in
        let x = from_run d g.1 olds c left first t env (record { known = holds_both m env w.known _ h.known (same ∙ e, tt); state = h.state }) r in
        let z = walk_settled m bases fit b g.2 olds (n + count a) v.used right (later m all.grows (second_settled m q t f g.0)) (still m all.grows t) in
        let y = arms_left m bases fit c v (walk bases olds (n + count a) b v.used right) all z x.0 o x.2 in
        (y.0, agree_trans {z = y.0} x.1 (agree_less {env' = y.0} (grows_trans all.grows z.grows) y.1), y.2)
    from_run {sts} {n} {st} {o} (seg.second_arm {f} {a} {b} e d) g olds c w q t env h r =
        let ss = w.slots ∷ olds in
        let p = f.written ss in
        let left = knows w (p ∷ []) in
        let right = knows w (not_of p ∷ []) in
        let v = walk bases olds n a c left in
        let all = walk_settled m bases fit a g.1 olds n c left (first_settled m q t f g.0) t in
        let same = g.0 env ss (now_clean m q t) ∙ ap f.told (both_states h r) in
        let second = later m all.grows (second_settled m q t f g.0) in
        let x = from_run d g.2 olds v.used right second (still m all.grows t) env (record { known = holds_both m env w.known _ h.known (ap not (same ∙ e), tt); state = h.state }) r in
        let z = walk_settled m bases fit b g.2 olds (n + count a) v.used right second (still m all.grows t) in
        let y = arms_right m bases fit c v (walk bases olds (n + count a) b v.used right) all z x.0 o x.2 in
        (y.0, agree_trans {z = y.0} (agree_less all.grows x.1) (agree_less {env' = y.0} (grows_trans all.grows z.grows) y.1), y.2)
    from_run {sts} {n} {st} (seg.blocks {a} {o} f) g olds c w q t env h r =
        let p = walk bases olds n a c w in
        let all = walk_settled m bases fit a g olds n c w q t in
        let x = from_run f g olds c w q t env h r in
        let y = block_shows m bases fit c p all x.0 o x.2 in
        (y.0, agree_trans x.1 (agree_less all.grows y.1), y.2)
    from_run {sts} {n} {st} (seg.exits {k = l}) g olds c w q t env h r = now c (walk bases olds n (s.exit l) c w) env (leaves l st) (w, left_here l w, h)
    from_run {sts} {n} {st} (seg.scopes {is} {a} {o} f) g olds c w q t env h r =
        let x = from_run f g olds c w q t env h r in
        (x.0, x.1, scope_shows m is w st (walk bases olds n a c w) x.0 o (sym (q.slots env x.0 x.1) ∙ h.state) x.2)
    from_run {sts} {n} {st} {o} (seg.remembers f) g olds c w q t env h r =
        from_run f g (w.slots ∷ olds) c w q (steady_more m q t) env h (record { same = both_states h r })
