-- A walk shows only ends of runs.
use Rattle.std.proofs.Common.{◌≡◌, ℕ, ◌+◌, Bool, true, false, not, List, [], ◌∷◌, map, length, refl, sym, ap, ap₂, ◌∙◌, subst, ⊎_elim}
use Rattle.std.proofs.lemmas.Bool.{false≢true}
use Rattle.qed_terms.specs.Tree.{Tree, not_of}
use Rattle.qed_terms.specs.Fresh.{Used}
use Rattle.qed_terms.specs.Meaning as sense
use Rattle.qed_terms.specs.Meaning.{Values, value, truth}
use Rattle.walk_steps.specs.State.{put, AllTrue, FirstFalse, In}
use Rattle.walk_steps.specs.Forms.{Slots, Form, Number, forms, written_forms, told_forms, state_of, states_of, IsForm, IsNumber, AreForms, AreClean}
use Rattle.walk_steps.specs.Step as s
use Rattle.walk_steps.specs.Step.{Step, count, IsGood}
use Rattle.walk_steps.specs.Run as seg
use Rattle.walk_steps.specs.Run.{End, goes_on, leaves, fails, Seg}
use Rattle.walk_steps.specs.World.{AreBases, World, knows, named, set_to}
use Rattle.walk_steps.specs.Renew.{renewed, used_by_renewed}
use Rattle.walk_steps.specs.Walk.{Goal, asked, stays, walk}
use Rattle.walk_steps.proofs.Lists.{some_parts, none_some}
use Rattle.walk_steps.proofs.Asking.{Holds, holds_front, holds_back, holds_both, forms_mean, asked_false, Shown}
use Rattle.walk_steps.proofs.Naming.{Agree, grows_same}
use Rattle.walk_steps.proofs.Settled.{Meets, Shows, Steady, still, clean, Settled, later, steady_more, AllSettled}
use Rattle.walk_steps.proofs.Assigning.{set_grows, set_settled, set_ran}
use Rattle.walk_steps.proofs.Renewing.{renewed_grows, renewed_settled, renewed_ran}
use Rattle.walk_steps.proofs.Combining.{then_either, then_settled, stays_settled, arms_either, arms_settled, block_either, block_settled, scope_either, scope_settled, left_only}

module _ (m : sense.World) where
  knows_settled : {k : ℕ} {c : Used} {w : World} → Settled m k c w → (fs : List Tree) → ((env env' : Values) → Agree c env env' → map (truth m env) fs ≡ map (truth m env') fs) → Settled m k c (knows w fs)
  knows_settled {w = w} s fs same = record {
    size = s.size;
    known = λ env env' a h. holds_both m env' w.known fs (s.known env env' a (holds_front m env w.known fs h)) (subst AllTrue (same env env' a) (holds_back m env w.known fs h));
    slots = s.slots;
  }

  module _ {k : ℕ} {c : Used} {w : World} {olds : List Slots} (s : Settled m k c w) (t : Steady m c olds) where
    pub now_clean : AreClean m (w.slots ∷ olds)
    now_clean = clean m (steady_more m s t)

    forms_same : (fs : List Form) → AreForms m fs → (env env' : Values) → Agree c env env' → map (truth m env) (written_forms (w.slots ∷ olds) fs) ≡ map (truth m env') (written_forms (w.slots ∷ olds) fs)
    forms_same fs g env env' a =
        forms_mean m env (w.slots ∷ olds) now_clean fs g ∙ ap (λ sts. told_forms sts fs) ((steady_more m s t).slots env env' a) ∙ sym (forms_mean m env' (w.slots ∷ olds) now_clean fs g)

    form_same : (f : Form) → IsForm m f → (env env' : Values) → Agree c env env' → truth m env (f.written (w.slots ∷ olds)) ≡ truth m env' (f.written (w.slots ∷ olds))
    form_same f g env env' a =
        g env (w.slots ∷ olds) now_clean ∙ ap f.told ((steady_more m s t).slots env env' a) ∙ sym (g env' (w.slots ∷ olds) now_clean)

    pub number_same : (u : Number) → IsNumber m u → (env env' : Values) → Agree c env env' → value m env (u.written (w.slots ∷ olds)) ≡ value m env' (u.written (w.slots ∷ olds))
    number_same u g env env' a =
        g env (w.slots ∷ olds) now_clean ∙ ap u.told ((steady_more m s t).slots env env' a) ∙ sym (g env' (w.slots ∷ olds) now_clean)

    pub forms_settled : (fs : List Form) → AreForms m fs → Settled m k c (knows w (written_forms (w.slots ∷ olds) fs))
    forms_settled fs g = knows_settled s _ (forms_same fs g)

    pub first_settled : (f : Form) → IsForm m f → Settled m k c (knows w (f.written (w.slots ∷ olds) ∷ []))
    first_settled f g = knows_settled s _ (λ env env' a. ap (λ b. b ∷ []) (form_same f g env env' a))

    pub second_settled : (f : Form) → IsForm m f → Settled m k c (knows w (not_of (f.written (w.slots ∷ olds)) ∷ []))
    second_settled f g = knows_settled s _ (λ env env' a. ap (λ b. not b ∷ []) (form_same f g env env' a))

  module _ (bases : List (List ℕ)) (fit : AreBases bases) where
    abbrev k : ℕ
    k = length bases

    pub walk_settled : (a : Step) → IsGood m a → (olds : List Slots) (n : ℕ) (c : Used) (w : World) → Settled m k c w → Steady m c olds → AllSettled m k c (walk bases olds n a c w)
    walk_settled s.skip g olds n c w h t = stays_settled m [] (grows_same c) h
    walk_settled s.halt g olds n c w h t = record { grows = grows_same c; goes = λ v e. absurd (none_some e); left = λ l v e. absurd e }
    walk_settled (s.seq a b) g olds n c w h t =
        let r = walk bases olds n a c w in
        let x = walk_settled a g.0 olds n c w h t in
        then_settled m r (walk bases olds (n + count a) b) k c r.end refl x (λ v l. walk_settled b g.1 olds (n + count a) r.used v l (still m x.grows t))
    walk_settled (s.ask cs) g olds n c w h t = stays_settled m _ (grows_same c) (forms_settled h t (forms cs) g)
    walk_settled (s.know fs) g olds n c w h t = stays_settled m [] (grows_same c) (forms_settled h t fs g)
    walk_settled (s.set i u) g olds n c w h t =
        let x = u.written (w.slots ∷ olds) in
        stays_settled m [] (set_grows m c x) (set_settled m k c w i x h (number_same h t u g))
    walk_settled (s.change cs) g olds n c w h t = stays_settled m [] (renewed_grows m bases fit olds c cs g w) (renewed_settled m bases fit olds c cs g w h t)
    walk_settled (s.choose f a b) g olds n c w h t =
        let p = f.written (w.slots ∷ olds) in
        let r = walk bases olds n a c (knows w (p ∷ [])) in
        let x = walk_settled a g.1 olds n c (knows w (p ∷ [])) (first_settled h t f g.0) t in
        arms_settled m bases fit c r (walk bases olds (n + count a) b r.used (knows w (not_of p ∷ []))) x
        (walk_settled b g.2 olds (n + count a) r.used (knows w (not_of p ∷ [])) (later m x.grows (second_settled h t f g.0)) (still m x.grows t))
    walk_settled (s.block a) g olds n c w h t = block_settled m bases fit c (walk bases olds n a c w) (walk_settled a g olds n c w h t)
    walk_settled (s.exit j) g olds n c w h t =
        record { grows = grows_same c; goes = λ v e. absurd (none_some e); left = λ l v i. subst (Settled m k c) (sym (left_only j w l v i).1) h }
    walk_settled (s.scope is a) g olds n c w h t = scope_settled m is w (walk bases olds n a c w) h (walk_settled a g olds n c w h t)
    walk_settled (s.remember a) g olds n c w h t = walk_settled a g (w.slots ∷ olds) n c w h (steady_more m h t)

    -- ---- from values to runs

    abbrev Ran : Values → List Slots → ℕ → Step → World → End → Type 0
    Ran env olds n a w o = Holds m env w.known × Seg (states_of m env olds) n a (state_of m env w.slots) o

    stays_ran : (gs : List Goal) (c : Used) (w : World) (env : Values) (P : End → Type 0) → (Holds m env w.known → P (goes_on (state_of m env w.slots)))
        → ((x : Goal) (i : ℕ) → In x gs → Shown m env x i → P (fails i)) → (o : End) → Shows m (stays gs c w) env o → P o
    stays_ran gs c w env P on bad (goes_on st) h =
        let l = subst (λ w. Meets m env w st) (sym (some_parts h.1)) h.2 in subst (λ st. P (goes_on st)) l.state (on l.known)
    stays_ran gs c w env P on bad (leaves l st) h = absurd h.1
    stays_ran gs c w env P on bad (fails i) h = bad h.0 i h.1 h.2

    not_true : (b : Bool) → not b ≡ true → b ≡ false
    not_true true h = absurd (false≢true h)
    not_true false h = refl

    pub to_run : (a : Step) → IsGood m a → (olds : List Slots) (n : ℕ) (c : Used) (w : World) → Settled m k c w → Steady m c olds → (env : Values) (o : End)
        → Shows m (walk bases olds n a c w) env o → Ran env olds n a w o
    to_run s.skip g olds n c w q t env o h = stays_ran [] c w env (Ran env olds n s.skip w) (λ x. (x, seg.skips)) (λ y i x z. absurd x) o h
    to_run s.halt g olds n c w q t env (goes_on st) h = absurd (none_some h.1)
    to_run s.halt g olds n c w q t env (leaves l st) h = absurd h.1
    to_run s.halt g olds n c w q t env (fails i) h = absurd h.1
    to_run (s.seq a b) g olds n c w q t env o h =
        let r = walk bases olds n a c w in
        let all = walk_settled a g.0 olds n c w q t in
        ⊎_elim (λ x. let f = to_run a g.0 olds n c w q t env o x.1 in (f.0, seg.ends_first f.1 x.0))
        (λ x.
        let f = to_run b g.1 olds (n + count a) r.used x.0 (all.goes x.0 x.1) (still m all.grows t) env o x.2 in
        let e = to_run a g.0 olds n c w q t env (goes_on (state_of m env x.0.slots)) (x.0, x.1, record { known = f.0; state = refl }) in
        (e.0, seg.goes_both e.1 f.1))
        (then_either m r (walk bases olds (n + count a) b) env o r.end refl h)
    to_run (s.ask cs) g olds n c w q t env o h =
        let ss = w.slots ∷ olds in
        let same = forms_mean m env ss (now_clean q t) (forms cs) g in
        stays_ran (asked n w.known ss cs) c (knows w (written_forms ss (forms cs))) env (Ran env olds n (s.ask cs) w)
        (λ x. (holds_front m env w.known _ x, seg.asks (subst AllTrue same (holds_back m env w.known _ x))))
        (λ y i x z.
        let f = asked_false m env n w.known ss cs y x z.falsified in
        (f.0, seg.ask_fails (subst (FirstFalse n (told_forms (states_of m env ss) (forms cs))) z.number (subst (λ bs. FirstFalse n bs y.number) same f.1))))
        o h
    to_run (s.know fs) g olds n c w q t env o h =
        let ss = w.slots ∷ olds in
        let same = forms_mean m env ss (now_clean q t) fs g in
        stays_ran [] c (knows w (written_forms ss fs)) env (Ran env olds n (s.know fs) w)
        (λ x. (holds_front m env w.known _ x, seg.knows_so (subst AllTrue same (holds_back m env w.known _ x)))) (λ y i x z. absurd x) o h
    to_run (s.set i u) g olds n c w q t env o h =
        let ss = w.slots ∷ olds in
        let x = u.written ss in
        stays_ran [] (named c x).used (set_to w i (named c x)) env (Ran env olds n (s.set i u) w)
        (λ y.
        let z = set_ran m c w i x env y in (
          z.0,
          subst (λ st. Seg (states_of m env olds) n (s.set i u) (state_of m env w.slots) (goes_on st))
              (sym (z.1 ∙ ap (λ v. put (state_of m env w.slots) i v) (g env ss (now_clean q t)))) seg.sets,
        )) (λ y i x z. absurd x) o h
    to_run (s.change cs) g olds n c w q t env o h =
        stays_ran [] (used_by_renewed bases c cs w) (renewed bases olds c cs w) env (Ran env olds n (s.change cs) w)
        (λ x. let y = renewed_ran m bases fit olds c cs g w q t env x in (y.0, seg.changes y.1)) (λ y i x z. absurd x) o h
    to_run (s.choose f a b) g olds n c w q t env o h =
        let ss = w.slots ∷ olds in
        let p = f.written ss in
        let left = knows w (p ∷ []) in
        let right = knows w (not_of p ∷ []) in
        let r = walk bases olds n a c left in
        let first = first_settled q t f g.0 in
        let x = walk_settled a g.1 olds n c left first t in
        let second = later m x.grows (second_settled q t f g.0) in
        let same = g.0 env ss (now_clean q t) in
        ⊎_elim
        (λ y. let e = to_run a g.1 olds n c left first t env o y in (holds_front m env w.known _ e.0, seg.first_arm (sym same ∙ (holds_back m env w.known _ e.0).0) e.1))
        (λ y. let e = to_run b g.2 olds (n + count a) r.used right second (still m x.grows t) env o y in
        (holds_front m env w.known _ e.0, seg.second_arm (sym same ∙ not_true _ (holds_back m env w.known _ e.0).0) e.1))
        (arms_either m bases fit c r (walk bases olds (n + count a) b r.used right) x (walk_settled b g.2 olds (n + count a) r.used right second (still m x.grows t)) env o h)
    to_run (s.block a) g olds n c w q t env o h =
        let r = walk bases olds n a c w in
        let x = block_either m bases fit c r (walk_settled a g olds n c w q t) env o h in
        let e = to_run a g olds n c w q t env x.0 x.1 in
        (e.0, subst (Seg (states_of m env olds) n (s.block a) (state_of m env w.slots)) x.2 (seg.blocks e.1))
    to_run (s.exit j) g olds n c w q t env (goes_on st) h = absurd (none_some h.1)
    to_run (s.exit j) g olds n c w q t env (leaves l st) h =
        let x = left_only j w l h.0 h.1 in
        let y : Meets m env w st = subst (λ w. Meets m env w st) x.1 h.2 in
        (y.known, subst (Seg (states_of m env olds) n (s.exit j) (state_of m env w.slots)) (ap₂ (λ l st. leaves l st) x.0 y.state) seg.exits)
    to_run (s.exit j) g olds n c w q t env (fails i) h = absurd h.1
    to_run (s.scope is a) g olds n c w q t env o h =
        let x = scope_either m is w (state_of m env w.slots) (walk bases olds n a c w) env o refl h in
        let e = to_run a g olds n c w q t env x.0 x.1 in
        (e.0, subst (Seg (states_of m env olds) n (s.scope is a) (state_of m env w.slots)) x.2 (seg.scopes e.1))
    to_run (s.remember a) g olds n c w q t env o h =
        let e = to_run a g (w.slots ∷ olds) n c w q (steady_more m q t) env o h in
        (e.0, seg.remembers e.1)
