-- A walk shows only ends of runs.
use Rattle.std.proofs.Common.{◌≡◌, ℕ, ◌+◌, Bool, true, false, not, List, [], ◌∷◌, ◌++◌, map, refl, sym, ap, ap₂, ◌∙◌, subst, ⊎_elim}
use Rattle.std.proofs.lemmas.Bool.{false≢true}
use Rattle.qed_terms.specs.Tree.{Tree, not_of}
use Rattle.qed_terms.specs.Fresh.{Used, use_one}
use Rattle.qed_terms.specs.Meaning as sense
use Rattle.qed_terms.specs.Meaning.{Values, value, truth}
use Rattle.walk_steps.specs.State.{at_or, AllTrue, FirstFalse, In}
use Rattle.walk_steps.specs.Walk.{Goal, list_of}
use Rattle.walk_steps.proofs.Lists.{some_parts, none_some, at_map}
use Rattle.walk_steps.proofs.Asking.{Holds, holds_front, holds_back, holds_both, Shown}
use Rattle.walk_steps.proofs.Naming.{grows_same, grows_trans}
use Rattle.memory_steps.specs.State.{Base, HasSort}
use Rattle.memory_steps.specs.Forms.{Slots, Form, Term, forms, written_forms, told_forms, datum, data_of, state_of, states_of, IsForm, IsTerm, AreForms, AreClean}
use Rattle.memory_steps.specs.Step as s
use Rattle.memory_steps.specs.Step.{Step, count, sort_at, IsGood}
use Rattle.memory_steps.specs.Run as seg
use Rattle.memory_steps.specs.Run.{End, goes_on, leaves, fails, set_in, ended_to, Seg}
use Rattle.memory_steps.specs.World.{AreBases, World, knows, base_at, named, set_to, count_base, mark_base, new_name, marked, grown_world, made_world, ended_world}
use Rattle.memory_steps.specs.Renew.{renewed, used_by_renewed}
use Rattle.memory_steps.specs.Join.{can_meet}
use Rattle.memory_steps.specs.Walk.{Walked, asked, stays, walk}
use Rattle.memory_steps.proofs.Asking.{forms_mean, asked_false}
use Rattle.memory_steps.proofs.Naming.{Agree, agree_less}
use Rattle.memory_steps.proofs.Trails.{both_parts}
use Rattle.memory_steps.proofs.Settled.{Meets, Shows, Steady, still, steady_same, sound_at, clean, Settled, later, steady_more, AllSettled}
use Rattle.memory_steps.proofs.Assigning.{base_is_base, base_sort, Suits, set_grows, set_settled, set_ran}
use Rattle.memory_steps.proofs.Renewing.{renewed_grows, renewed_settled, renewed_ran}
use Rattle.memory_steps.proofs.Tabling.{mark_grows, marked_settled, count_grows, grown_settled, grown_ran, made_state, made_settled, ended_settled}
use Rattle.memory_steps.proofs.Combining.{then_fits, arms_fits, then_either, then_settled, stays_settled, arms_either, arms_settled, block_either, block_settled, scope_either, scope_settled, left_only}

module _ (m : sense.World) where
  pub knows_settled : {bases : List Base} {c : Used} {w : World} → Settled m bases c w → (fs : List Tree) → ((env env' : Values) → Agree c env env' → map (truth m env) fs ≡ map (truth m env') fs)
      → Settled m bases c (knows w fs)
  knows_settled {w = w} s fs same = record {
    size = s.size;
    sorts = s.sorts;
    known = λ env env' a h. holds_both m env' w.known fs (s.known env env' a (holds_front m env w.known fs h)) (subst AllTrue (same env env' a) (holds_back m env w.known fs h));
    slots = s.slots;
  }

  module _ {bases : List Base} {c : Used} {w : World} {olds : List Slots} (s : Settled m bases c w) (t : Steady m c olds) where
    pub now_clean : AreClean m (w.slots ∷ olds)
    now_clean = clean m (steady_more m s t)

    now_same : (env env' : Values) → Agree c env env' → states_of m env (w.slots ∷ olds) ≡ states_of m env' (w.slots ∷ olds)
    now_same = steady_same m (steady_more m s t)

    forms_same : (fs : List Form) → AreForms m fs → (env env' : Values) → Agree c env env' → map (truth m env) (written_forms (w.slots ∷ olds) fs) ≡ map (truth m env') (written_forms (w.slots ∷ olds) fs)
    forms_same fs g env env' a =
        forms_mean m env (w.slots ∷ olds) now_clean fs g ∙ ap (λ sts. told_forms sts fs) (now_same env env' a) ∙ sym (forms_mean m env' (w.slots ∷ olds) now_clean fs g)

    form_same : (f : Form) → IsForm m f → (env env' : Values) → Agree c env env' → truth m env (f.written (w.slots ∷ olds)) ≡ truth m env' (f.written (w.slots ∷ olds))
    form_same f g env env' a = g env (w.slots ∷ olds) now_clean ∙ ap f.told (now_same env env' a) ∙ sym (g env' (w.slots ∷ olds) now_clean)

    pub term_same : (b : Bool) (u : Term) → IsTerm m b u → (env env' : Values) → Agree c env env' → datum m env (u.written (w.slots ∷ olds)) ≡ datum m env' (u.written (w.slots ∷ olds))
    term_same b u g env env' a = g.told env (w.slots ∷ olds) now_clean ∙ ap u.told (now_same env env' a) ∙ sym (g.told env' (w.slots ∷ olds) now_clean)

    pub term_suits : (i : ℕ) (u : Term) → IsTerm m (sort_at bases i) u → Suits m bases i (u.written (w.slots ∷ olds))
    term_suits i u g env = subst (HasSort (sort_at bases i)) (sym (g.told env (w.slots ∷ olds) now_clean)) (g.sort (states_of m env (w.slots ∷ olds)))

    pub forms_settled : (fs : List Form) → AreForms m fs → Settled m bases c (knows w (written_forms (w.slots ∷ olds) fs))
    forms_settled fs g = knows_settled s _ (forms_same fs g)

    -- the arms begin behind a point
    pub first_settled : (f : Form) → IsForm m f → Settled m bases (use_one c mark_base) (knows (marked c w) (f.written (w.slots ∷ olds) ∷ []))
    first_settled f g = knows_settled (marked_settled m bases c w s) _ (λ env env' a. ap (λ b. b ∷ []) (form_same f g env env' (agree_less (mark_grows m bases c) a)))

    pub second_settled : (f : Form) → IsForm m f → Settled m bases (use_one c mark_base) (knows (marked c w) (not_of (f.written (w.slots ∷ olds)) ∷ []))
    second_settled f g = knows_settled (marked_settled m bases c w s) _ (λ env env' a. ap (λ b. not b ∷ []) (form_same f g env env' (agree_less (mark_grows m bases c) a)))

  module _ (bases : List Base) (fit : AreBases bases) where
    -- what is so from behind a point is so from it on
    from_mark : (c : Used) {r : Walked} → AllSettled m bases (use_one c mark_base) r → AllSettled m bases c r
    from_mark c a = record { grows = grows_trans (mark_grows m bases c) a.grows; goes = a.goes; left = a.left }

    pub walk_settled : (a : Step) → IsGood m bases a → (olds : List Slots) (n : ℕ) (c : Used) (w : World) → Settled m bases c w → Steady m c olds → AllSettled m bases c (walk bases olds n a c w)
    walk_settled s.skip g olds n c w h t = stays_settled m [] (grows_same c) h
    walk_settled s.halt g olds n c w h t = record { grows = grows_same c; goes = λ v e. absurd (none_some e); left = λ l v e. absurd e }
    walk_settled (s.seq a b) g olds n c w h t =
        let r = walk bases olds n a c w in
        let x = walk_settled a g.0 olds n c w h t in
        then_settled m r (walk bases olds (n + count a) b) bases c r.end refl x (λ v l. walk_settled b g.1 olds (n + count a) r.used v l (still m x.grows t))
    walk_settled (s.ask cs) g olds n c w h t = stays_settled m _ (grows_same c) (forms_settled h t (forms cs) g)
    walk_settled (s.know fs) g olds n c w h t = stays_settled m [] (grows_same c) (forms_settled h t fs g)
    walk_settled (s.set i u) g olds n c w h t =
        let x = u.written (w.slots ∷ olds) in
        let b = base_at bases i in
        let is = base_is_base bases fit i in
        let sorted = base_sort bases i in
        stays_settled m [] (set_grows m bases b is i sorted c x) (set_settled m bases b is i sorted c w x h (term_suits h t i u g) (term_same h t (sort_at bases i) u g))
    walk_settled (s.change cs) g olds n c w h t = stays_settled m [] (renewed_grows m bases fit olds c cs g w) (renewed_settled m bases fit olds c cs g w h t)
    walk_settled (s.choose f a b) g olds n c w h t =
        let p = f.written (w.slots ∷ olds) in
        let d = use_one c mark_base in
        let v = marked c w in
        let j = mark_grows m bases c in
        let r = walk bases olds n a d (knows v (p ∷ [])) in
        let x = walk_settled a g.1 olds n d (knows v (p ∷ [])) (first_settled h t f g.0) (still m j t) in
        let y = walk_settled b g.2 olds (n + count a) r.used (knows v (not_of p ∷ [])) (later m x.grows (second_settled h t f g.0)) (still m (grows_trans j x.grows) t) in
        from_mark c (arms_settled m bases fit d r (walk bases olds (n + count a) b r.used (knows v (not_of p ∷ []))) x y)
    walk_settled (s.block a) g olds n c w h t = block_settled m bases fit c (walk bases olds n a c w) (walk_settled a g olds n c w h t)
    walk_settled (s.exit j) g olds n c w h t =
        record { grows = grows_same c; goes = λ v e. absurd (none_some e); left = λ l v i. subst (Settled m bases c) (sym (left_only j w l v i).1) h }
    walk_settled (s.scope is a) g olds n c w h t = scope_settled m is w (walk bases olds n a c w) h (walk_settled a g olds n c w h t)
    walk_settled (s.remember a) g olds n c w h t =
        let v = marked_settled m bases c w h in
        from_mark c (walk_settled a g ((marked c w).slots ∷ olds) n (use_one c mark_base) (marked c w) v (steady_more m v (still m (mark_grows m bases c) t)))
    walk_settled s.grown g olds n c w h t = stays_settled m [] (count_grows m bases c) (grown_settled m bases c w h)
    walk_settled (s.made i l) g olds n c w h t = stays_settled m [] (mark_grows m bases c) (made_settled m bases c i l w g h)
    walk_settled (s.ended l) g olds n c w h t = stays_settled m [] (grows_same c) (ended_settled m bases c (at_or w.slots olds l) w h (sound_at m w.slots olds l h.slots t.all))

    -- ---- from values to runs

    abbrev Ran : Values → List Slots → ℕ → Step → World → End → Type 0
    Ran env olds n a w o = Holds m env w.known × Seg (states_of m env olds) n a (state_of m env w.slots) o

    stays_ran : (gs : List Goal) (c : Used) (w : World) (env : Values) (P : End → Type 0) → (Holds m env w.known → P (goes_on (state_of m env w.slots)))
        → ((x : Goal) (i : ℕ) → In x gs → Shown m env x i → P (fails i)) → (o : End) → Shows m (stays gs c w) env o → P o
    stays_ran gs c w env P on bad (goes_on st) h =
        let l = subst (λ w. Meets m env w st) (sym (some_parts h.1)) h.2 in subst (λ st. P (goes_on st)) l.state (on l.known)
    stays_ran gs c w env P on bad (leaves l st) h = absurd h.1
    stays_ran gs c w env P on bad (fails i) h = bad h.0 i h.1 h.2

    not_true : (b : Bool) → not b ≡ true → b ≡ false
    not_true true h = absurd (false≢true h)
    not_true false h = refl

    pub to_run : (a : Step) → IsGood m bases a → (olds : List Slots) (n : ℕ) (c : Used) (w : World) → Settled m bases c w → Steady m c olds → (walk bases olds n a c w).fits ≡ true
        → (env : Values) (o : End) → Shows m (walk bases olds n a c w) env o → Ran env olds n a w o
    to_run s.skip g olds n c w q t f env o h = stays_ran [] c w env (Ran env olds n s.skip w) (λ x. (x, seg.skips)) (λ y i x z. absurd x) o h
    to_run s.halt g olds n c w q t f env (goes_on st) h = absurd (none_some h.1)
    to_run s.halt g olds n c w q t f env (leaves l st) h = absurd h.1
    to_run s.halt g olds n c w q t f env (fails i) h = absurd h.1
    to_run (s.seq a b) g olds n c w q t f env o h =
        let r = walk bases olds n a c w in
        let go = walk bases olds (n + count a) b in
        let all = walk_settled a g.0 olds n c w q t in
        let parts = then_fits r go r.end f in
        ⊎_elim (λ x. let e = to_run a g.0 olds n c w q t parts.0 env o x.1 in (e.0, seg.ends_first e.1 x.0))
        (λ x.
        let k = to_run b g.1 olds (n + count a) r.used x.0 (all.goes x.0 x.1) (still m all.grows t) (parts.1 x.0 x.1) env o x.2 in
        let e = to_run a g.0 olds n c w q t parts.0 env (goes_on (state_of m env x.0.slots)) (x.0, x.1, record { known = k.0; state = refl }) in
        (e.0, seg.goes_both e.1 k.1))
        (then_either m r go env o r.end refl h)
    to_run (s.ask cs) g olds n c w q t f env o h =
        let ss = w.slots ∷ olds in
        let same = forms_mean m env ss (now_clean q t) (forms cs) g in
        stays_ran (asked n w.known ss cs) c (knows w (written_forms ss (forms cs))) env (Ran env olds n (s.ask cs) w)
        (λ x. (holds_front m env w.known _ x, seg.asks (subst AllTrue same (holds_back m env w.known _ x))))
        (λ y i x z.
        let k = asked_false m env n w.known ss cs y x z.falsified in
        (k.0, seg.ask_fails (subst (FirstFalse n (told_forms (states_of m env ss) (forms cs))) z.number (subst (λ bs. FirstFalse n bs y.number) same k.1))))
        o h
    to_run (s.know fs) g olds n c w q t f env o h =
        let ss = w.slots ∷ olds in
        let same = forms_mean m env ss (now_clean q t) fs g in
        stays_ran [] c (knows w (written_forms ss fs)) env (Ran env olds n (s.know fs) w)
        (λ x. (holds_front m env w.known _ x, seg.knows_so (subst AllTrue same (holds_back m env w.known _ x)))) (λ y i x z. absurd x) o h
    to_run (s.set i u) g olds n c w q t f env o h =
        let ss = w.slots ∷ olds in
        let x = u.written ss in
        let b = base_at bases i in
        stays_ran [] (named b c x).used (set_to w i (named b c x)) env (Ran env olds n (s.set i u) w)
        (λ y.
        let z = set_ran m bases b (base_is_base bases fit i) i (base_sort bases i) c w x (term_suits q t i u g) env y in (
          z.0,
          subst (λ st. Seg (states_of m env olds) n (s.set i u) (state_of m env w.slots) (goes_on st))
              (sym (z.1 ∙ ap (set_in (state_of m env w.slots) i) (g.told env ss (now_clean q t)))) seg.sets,
        )) (λ y i x z. absurd x) o h
    to_run (s.change cs) g olds n c w q t f env o h =
        stays_ran [] (used_by_renewed bases c cs w) (renewed bases olds c cs w) env (Ran env olds n (s.change cs) w)
        (λ x. let y = renewed_ran m bases fit olds c cs g w q t env x in (y.0, seg.changes (data_of m env (renewed bases olds c cs w).slots.terms) y.1)) (λ y i x z. absurd x) o h
    to_run (s.choose p a b) g olds n c w q t f env o h =
        let ss = w.slots ∷ olds in
        let d = use_one c mark_base in
        let j = mark_grows m bases c in
        let left = knows (marked c w) (p.written ss ∷ []) in
        let right = knows (marked c w) (not_of (p.written ss) ∷ []) in
        let r = walk bases olds n a d left in
        let v = walk bases olds (n + count a) b r.used right in
        let first = first_settled q t p g.0 in
        let x = walk_settled a g.1 olds n d left first (still m j t) in
        let second = later m x.grows (second_settled q t p g.0) in
        let steady = still m (grows_trans j x.grows) t in
        let same = g.0 env ss (now_clean q t) in
        let parts = arms_fits m bases fit d r v f in
        ⊎_elim
        (λ y.
        let e = to_run a g.1 olds n d left first (still m j t) parts.0 env o y in
        (holds_front m env w.known _ e.0, seg.first_arm (sym same ∙ (holds_back m env w.known _ e.0).0) e.1))
        (λ y.
        let e = to_run b g.2 olds (n + count a) r.used right second steady parts.1 env o y in
        (holds_front m env w.known _ e.0, seg.second_arm (sym same ∙ not_true _ (holds_back m env w.known _ e.0).0) e.1))
        (arms_either m bases fit d r v x (walk_settled b g.2 olds (n + count a) r.used right second steady) parts.2 env o h)
    to_run (s.block a) g olds n c w q t f env o h =
        let r = walk bases olds n a c w in
        let parts = both_parts r.fits (can_meet bases r.used (r.left 0 ++ list_of r.end)) f in
        let x = block_either m bases fit c r (walk_settled a g olds n c w q t) parts.1 env o h in
        let e = to_run a g olds n c w q t parts.0 env x.0 x.1 in
        (e.0, subst (Seg (states_of m env olds) n (s.block a) (state_of m env w.slots)) x.2 (seg.blocks e.1))
    to_run (s.exit j) g olds n c w q t f env (goes_on st) h = absurd (none_some h.1)
    to_run (s.exit j) g olds n c w q t f env (leaves l st) h =
        let x = left_only j w l h.0 h.1 in
        let y : Meets m env w st = subst (λ w. Meets m env w st) x.1 h.2 in
        (y.known, subst (Seg (states_of m env olds) n (s.exit j) (state_of m env w.slots)) (ap₂ (λ l st. leaves l st) x.0 y.state) seg.exits)
    to_run (s.exit j) g olds n c w q t f env (fails i) h = absurd h.1
    to_run (s.scope is a) g olds n c w q t f env o h =
        let x = scope_either m is w (state_of m env w.slots) (walk bases olds n a c w) env o refl h in
        let e = to_run a g olds n c w q t f env x.0 x.1 in
        (e.0, subst (Seg (states_of m env olds) n (s.scope is a) (state_of m env w.slots)) x.2 (seg.scopes e.1))
    to_run (s.remember a) g olds n c w q t f env o h =
        let v = marked_settled m bases c w q in
        let e = to_run a g ((marked c w).slots ∷ olds) n (use_one c mark_base) (marked c w) v (steady_more m v (still m (mark_grows m bases c) t)) f env o h in
        (e.0, seg.remembers e.1)
    to_run s.grown g olds n c w q t f env o h =
        stays_ran [] (use_one c count_base.name) (grown_world c w) env (Ran env olds n s.grown w)
        (λ x. let y = grown_ran m bases c w env x in (y.0, seg.grows (value m env (new_name c count_base)) y.1)) (λ y i x z. absurd x) o h
    to_run (s.made i l) g olds n c w q t f env o h =
        stays_ran [] (use_one c mark_base) (made_world c i l w) env (Ran env olds n (s.made i l) w)
        (λ x. (x, subst (λ st. Seg (states_of m env olds) n (s.made i l) (state_of m env w.slots) (goes_on st)) (sym (made_state m bases env c i l w)) seg.makes)) (λ y i x z. absurd x) o h
    to_run (s.ended l) g olds n c w q t f env o h =
        let now = state_of m env w.slots in
        let e = at_map (state_of m env) w.slots olds l in
        stays_ran [] c (ended_world (at_or w.slots olds l) w) env (Ran env olds n (s.ended l) w)
        (λ x. (x, subst (λ old. Seg (states_of m env olds) n (s.ended l) now (goes_on (ended_to old now))) (sym e) seg.ends)) (λ y i x z. absurd x) o h
