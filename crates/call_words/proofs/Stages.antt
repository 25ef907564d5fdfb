-- What a run comes to, one test after the other, and formulas that are asked for these.
use Rattle.std.proofs.Common.{◌≡◌, ◌⊎◌, ℕ, ◌+◌, Bool, true, false, List, ◌∷◌, Option, Some, None, refl, sym, ap, ◌∙◌, subst, inl, inr}
use Rattle.std.proofs.lemmas.Bool.{false≢true}
use Rattle.wp_base.specs.Blocks.{Table}
use Rattle.qed_terms.specs.Meaning as sense
use Rattle.qed_terms.specs.Tree.{Tree}
use Rattle.c_runs.specs.Program.{Facts}
use Rattle.c_runs.specs.Claims.{Stop}
use Rattle.c_runs.specs.CoreRun.{Ending, stopped}
use Rattle.plain_states.specs.Slots.{State}
use Rattle.plain_states.proofs.Calling.{some_same}
use Rattle.plain_states.proofs.Scoping.{none_some}
use Rattle.plain_runs.specs.Fitting.{Shape}
use Rattle.walk_steps.specs.Forms.{Place}
use Rattle.walk_steps.specs.Step.{Step, places, count}
use Rattle.walk_steps.specs.Step as step
use Rattle.walk_steps.specs.Run.{End, goes_on, fails, Seg}
use Rattle.walk_steps.specs.Run as seg
use Rattle.walk_steps.proofs.Readings.{seq_ways}
use Rattle.program_steps.specs.Stops.{IsStop}
use Rattle.program_steps.specs.Temporaries.{Temporaries}
use Rattle.program_steps.specs.Words.{ask_all}
use Rattle.program_steps.specs.Standing.{IsPlace, Ends}
use Rattle.program_steps.specs.Placed.{all_told, BothWays}
use Rattle.program_steps.proofs.Filling.{on_bool}
use Rattle.program_steps.proofs.Listing.{comes, fails_first, fails_second}
use Rattle.program_steps.proofs.Ends.{ends_more, asked_goes, asked_fails, asked_way}

-- it stops so, or goes on to what comes later
abbrev pub Stage : Option Stop → (Ending → Type 0) → Ending → Type 0
Stage x later o = ((y : Stop) × ((x ≡ Some y) × (stopped y ≡ o))) ⊎ ((x ≡ None) × later o)

goes_parts : {a b : State} → goes_on a ≡ goes_on b → a ≡ b
goes_parts e = cc

never : {j : ℕ} {st : State} → fails j ≡ goes_on st → ⊥
never e = cc

module _ (p : Facts) (s : Shape) (t0 : Table) (i : ℕ → Bool) (outs : List Temporaries) (f : Temporaries) (m : sense.World) (olds : List State) (st : State) (a : Place) (fs : List Tree) (n : ℕ)
    (e : Stop) (stop : IsStop e a) (tail : Step) (later : Ending → Type 0) (x : Option Stop) where
  abbrev first : Step
  first = ask_all m fs a

  abbrev all_ends : Ending → End → Type 0
  all_ends o z = Ends p s t0 i outs f (places (step.seq first tail)) n o z

  abbrev Later : Type 0
  Later = BothWays later (Ends p s t0 i outs f (places tail) (n + count first)) olds (n + count first) tail st

  abbrev Whole : Type 0
  Whole = BothWays (Stage x later) all_ends olds n (step.seq first tail) st

  when_told : all_told m (st ∷ olds) fs ≡ true → x ≡ None → Later → Whole
  when_told t none both = record { forth = forth; back = λ z k. back z (seq_ways k) } where
    more : (o : Ending) (z : End) → Ends p s t0 i outs f (places tail) (n + count first) o z → all_ends o z
    more o z h = ends_more p s t0 i outs f (places tail) (places (step.seq first tail)) (n + count first) n
        (λ j y. fails_second first tail n j y (comes (asked_goes m olds st a fs n t))) o z h

    forth : (o : Ending) → Stage x later o → (z : End) × Seg olds n (step.seq first tail) st z × all_ends o z
    forth o (inl (y, h)) = absurd (none_some y (sym none ∙ h.0))
    forth o (inr h) = let z = both.forth o h.1 in (z.0, seg.goes_both (asked_goes m olds st a fs n t) z.1, more o z.0 z.2)

    over_by : (z : End) → seg.IsOver z
        → ((all_told m (st ∷ olds) fs ≡ true) × (goes_on st ≡ z)) ⊎ ((j : ℕ) × (all_told m (st ∷ olds) fs ≡ false) × IsPlace (places first) n j a × (fails j ≡ z))
        → (o : Ending) × Stage x later o × all_ends o z
    over_by z over (inl h) = absurd (subst seg.IsOver (sym h.1) over)
    over_by z over (inr (j, untrue, k, is)) = absurd (false≢true (sym untrue ∙ t))

    on_by : (z : End) (mid : State) → Seg olds (n + count first) tail mid z
        → ((all_told m (st ∷ olds) fs ≡ true) × (goes_on st ≡ goes_on mid)) ⊎ ((j : ℕ) × (all_told m (st ∷ olds) fs ≡ false) × IsPlace (places first) n j a × (fails j ≡ goes_on mid))
        → (o : Ending) × Stage x later o × all_ends o z
    on_by z mid k (inl h) =
        let y = both.back z (subst (λ st. Seg olds (n + count first) tail st z) (sym (goes_parts h.1)) k) in
        (y.0, inr (none, y.1), more y.0 z y.2)
    on_by z mid k (inr (j, untrue, h, is)) = absurd (false≢true (sym untrue ∙ t))

    back : (z : End) → (seg.IsOver z × Seg olds n first st z) ⊎ ((mid : State) × Seg olds n first st (goes_on mid) × Seg olds (n + count first) tail mid z)
        → (o : Ending) × Stage x later o × all_ends o z
    back z (inl (over, k)) = over_by z over (asked_way m olds st a fs n z k)
    back z (inr (mid, k, l)) = on_by z mid l (asked_way m olds st a fs n (goes_on mid) k)

  when_not : all_told m (st ∷ olds) fs ≡ false → x ≡ Some e → Whole
  when_not t some = record { forth = forth; back = λ z k. back z (seq_ways k) } where
    forth : (o : Ending) → Stage x later o → (z : End) × Seg olds n (step.seq first tail) st z × all_ends o z
    forth o (inl (y, h)) =
        let z = asked_fails m olds st a fs n e stop t in
        let same : stopped e ≡ o = ap stopped (some_same e y (sym some ∙ h.0)) ∙ h.1 in
        (fails z.0, seg.ends_first z.1 tt, subst (λ o. all_ends o (fails z.0)) same (fails_first first tail n z.0 e z.2))
    forth o (inr h) = absurd (none_some e (sym h.0 ∙ some))

    over_by : (z : End) → seg.IsOver z
        → ((all_told m (st ∷ olds) fs ≡ true) × (goes_on st ≡ z)) ⊎ ((j : ℕ) × (all_told m (st ∷ olds) fs ≡ false) × IsPlace (places first) n j a × (fails j ≡ z))
        → (o : Ending) × Stage x later o × all_ends o z
    over_by z over (inl h) = absurd (false≢true (sym t ∙ h.0))
    over_by z over (inr (j, untrue, k, is)) = (stopped e, inl (e, (some, refl)), subst (all_ends (stopped e)) is (fails_first first tail n j e (a, k, stop)))

    on_by : (z : End) (mid : State)
        → ((all_told m (st ∷ olds) fs ≡ true) × (goes_on st ≡ goes_on mid)) ⊎ ((j : ℕ) × (all_told m (st ∷ olds) fs ≡ false) × IsPlace (places first) n j a × (fails j ≡ goes_on mid))
        → (o : Ending) × Stage x later o × all_ends o z
    on_by z mid (inl h) = absurd (false≢true (sym t ∙ h.0))
    on_by z mid (inr (j, untrue, h, is)) = absurd (never is)

    back : (z : End) → (seg.IsOver z × Seg olds n first st z) ⊎ ((mid : State) × Seg olds n first st (goes_on mid) × Seg olds (n + count first) tail mid z)
        → (o : Ending) × Stage x later o × all_ends o z
    back z (inl (over, k)) = over_by z over (asked_way m olds st a fs n z k)
    back z (inr (mid, k, l)) = on_by z mid (asked_way m olds st a fs n (goes_on mid) k)

  -- it stops exactly where they aren't all true
  pub stage_both : (b : Bool) → all_told m (st ∷ olds) fs ≡ b → (b ≡ true → x ≡ None) → (b ≡ false → x ≡ Some e) → Later → Whole
  stage_both b told on_true on_false both = on_bool b (λ t. when_told (told ∙ t) (on_true t) both) (λ t. when_not (told ∙ t) (on_false t))
