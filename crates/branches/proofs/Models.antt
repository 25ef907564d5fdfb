-- What has a model isn't closed: each step leaves a model to a branch, or passes over one that has it.
use Rattle.std.proofs.Common.{◌≡◌, ◌⊎◌, ℕ, Bool, true, false, ◌||◌, List, [], ◌∷◌, ◌++◌, map, refl, sym, subst, inl, inr}
use Rattle.qed_terms.specs.declared.head.Head.TheVariants as h
use Rattle.qed_terms.specs.Meaning.{World, Values, truth, meanings, is_so, some_true}
use Rattle.qed_terms.specs.Nodes.{kids_of}
use Rattle.qed_terms.specs.Tree.{Tree, node, Trees, stop, more, list_of}
use Rattle.branches.specs.Steps.{or_else}
use Rattle.branches.specs.Branch.{Branch, IsOr, AreTrue, HasModel}
use Rattle.branches.specs.Expansion.{Rules, rules_of, Task, End, all_closed, Stand, stand, Turn, ends, goes, LacksRoom, IsLarge, Closes, Changes, Splits, GoesRound, PassesOver, StaysOpen, FromLeaf, FromRound, FromSplit, FromChange, FromClosed, FromSize, Turns, Runs, none_left, stops, goes_on, with_each}
use Rattle.branches.specs.Laws.{IsSound, SomeModel, SomeTaskModel, Soundness, SoundBy}

-- ---- formulas that are true together

module _ (w : World) (env : Values) where
  pub true_front : (fs gs : List Tree) → AreTrue w env (fs ++ gs) → AreTrue w env fs
  true_front [] gs a = tt
  true_front (f ∷ fs) gs a = (a.0, true_front fs gs a.1)

  pub true_behind : (fs gs : List Tree) → AreTrue w env (fs ++ gs) → AreTrue w env gs
  true_behind [] gs a = a
  true_behind (f ∷ fs) gs a = true_behind fs gs a.1

  pub true_both : (fs gs : List Tree) → AreTrue w env fs → AreTrue w env gs → AreTrue w env (fs ++ gs)
  true_both [] gs a b = b
  true_both (f ∷ fs) gs a b = (a.0, true_both fs gs a.1 b)

  -- a disjunction by its disjuncts
  pub some_kid_true : (f : Tree) → IsOr f → truth w env f ≡ true → (ts : Trees) × (kids_of f ≡ list_of ts) × (some_true (map is_so (meanings w env ts)) ≡ true)
  some_kid_true (node h.Or ts) o e = (ts, refl, e)
  some_kid_true (node head ts) o e = absurd cc

pub or_rest : (a b : Bool) → a ≡ false → (a || b) ≡ true → b ≡ true
or_rest true b k e = absurd cc
or_rest false b k e = e

-- ---- a turn

module _ (w : World) where
  abbrev Kept : (Stand → Turn → Type 0) → Type 0
  Kept step = (s : Stand) (us : List Task) (m : ℕ) (bs : List Branch) → step s (goes us m bs) → HasModel w s.now.at ⊎ SomeTaskModel w s.later → SomeModel w bs ⊎ SomeTaskModel w us

  kept_or_else : (first second : Stand → Turn → Type 0) → Kept first → Kept second → Kept (or_else first second)
  kept_or_else first second k l s us m bs x c = elim x [ inl p ↦ k s us m bs p c | inr p ↦ l s us m bs p.1 c ]

  -- by what the turn leads to
  as_led : (us vs : List Task) (m n : ℕ) (bs cs : List Branch) → goes us m bs ≡ goes vs n cs → SomeModel w cs ⊎ SomeTaskModel w vs → SomeModel w bs ⊎ SomeTaskModel w us
  as_led us vs m n bs cs e c =
      let over : bs ≡ cs = cc in
      let tasks : us ≡ vs = cc in
      subst (λ z. SomeModel w z ⊎ SomeTaskModel w us) (sym over) (subst (λ z. SomeModel w cs ⊎ SomeTaskModel w z) (sym tasks) c)

  some_later : (us ts : List Task) → SomeTaskModel w ts → SomeTaskModel w (us ++ ts)
  some_later [] ts c = c
  some_later (u ∷ us) ts c = inr (some_later us ts c)

  -- the branch with the disjunct that is true
  some_disjunct : (env : Values) (fuel : ℕ) (ls before behind : List Tree) (ts : Trees) (later : List Task) → AreTrue w env ls → AreTrue w env before → AreTrue w env behind
      → some_true (map is_so (meanings w env ts)) ≡ true → SomeTaskModel w (with_each fuel ls before behind (list_of ts) ++ later)
  some_disjunct env fuel ls before behind stop later l p q e = absurd cc
  some_disjunct env fuel ls before behind (more t ts) later l p q e = go (truth w env t) refl (λ r. some_disjunct env fuel ls before behind ts later l p q r)
    where
      go : (v : Bool) → truth w env t ≡ v → (some_true (map is_so (meanings w env ts)) ≡ true → SomeTaskModel w (with_each fuel ls before behind (list_of ts) ++ later))
          → SomeTaskModel w (with_each fuel ls before behind (list_of (more t ts)) ++ later)
      go true k rest = inl (env, (l, true_both w env before (t ∷ behind) p (k, q)))
      go false k rest = inr (rest (or_rest (truth w env t) (some_true (map is_so (meanings w env ts))) k e))

  kept_splits : Kept Splits
  kept_splits s us m bs x c = as_led us _ m _ bs _ x.4 (inr (elim c [
    | inl k ↦
        let env = k.0 in
        let all : AreTrue w env (x.0 ++ x.1 ∷ x.2) = subst (AreTrue w env) x.3.whole k.1.1 in
        let behind = true_behind w env x.0 (x.1 ∷ x.2) all in
        let d = some_kid_true w env x.1 x.3.here behind.0 in
        subst (λ z. SomeTaskModel w (with_each s.now.fuel s.now.at.literals x.0 x.2 z ++ s.later)) (sym d.1)
        (some_disjunct env s.now.fuel s.now.at.literals x.0 x.2 d.0 s.later k.1.0 (true_front w env x.0 (x.1 ∷ x.2) all) behind.1 d.2)
    | inr k ↦ some_later (with_each s.now.fuel s.now.at.literals x.0 x.2 (kids_of x.1)) s.later k
  ]))

  module _ (rules : Rules) (sound : IsSound rules w) (budget : ℕ) where
    kept_closes : Kept (Closes rules)
    kept_closes s us m bs x c = as_led us _ m _ bs _ x.1 (elim c [ inl k ↦ absurd (sound.closes s.now.at x.0 k) | inr k ↦ inr k ])

    kept_changes : Kept (Changes rules)
    kept_changes s us m bs x c = as_led us _ m _ bs _ x.2 (elim c [ inl k ↦ inr (inl (sound.changes s.now.at x.0 x.1 k)) | inr k ↦ inr (inr k) ])

    kept_round : Kept (GoesRound rules)
    kept_round s us m bs x c = as_led us _ m _ bs _ x.5 (elim c [
      | inl k ↦ inr (inl (k.0, (k.1.0, true_both w k.0 s.now.at.waiting x.1 k.1.1 (sound.adds s.now.at x.1 x.3 k.0 k.1))))
      | inr k ↦ inr (inr k)
    ])

    kept_passes : Kept (PassesOver rules)
    kept_passes s us m bs x c = as_led us _ m _ bs _ x.1 (elim c [ inl k ↦ inl (inl k) | inr k ↦ inr k ])

    kept_turn : Kept (Turns rules budget)
    kept_turn =
        kept_or_else (LacksRoom budget) (FromSize rules) (λ s us m bs x c. absurd cc)
        (kept_or_else IsLarge (FromClosed rules) (λ s us m bs x c. absurd cc)
        (kept_or_else (Closes rules) (FromChange rules) kept_closes
        (kept_or_else (Changes rules) (FromSplit rules) kept_changes
        (kept_or_else Splits (FromRound rules) kept_splits
        (kept_or_else (GoesRound rules) (FromLeaf rules) kept_round
        (kept_or_else (PassesOver rules) StaysOpen kept_passes (λ s us m bs x c. absurd cc)))))))

-- ---- no turn ends with all leaves closed

abbrev NotClosed : (Stand → Turn → Type 0) → Type 0
NotClosed step = (s : Stand) → step s (ends all_closed) → ⊥

not_or_else : (first second : Stand → Turn → Type 0) → NotClosed first → NotClosed second → NotClosed (or_else first second)
not_or_else first second k l s x = elim x [ inl p ↦ k s p | inr p ↦ l s p.1 ]

not_closed : (rules : Rules) (budget : ℕ) → NotClosed (Turns rules budget)
not_closed rules budget =
    not_or_else (LacksRoom budget) (FromSize rules) (λ s x. let k = x.2 in absurd cc)
    (not_or_else IsLarge (FromClosed rules) (λ s x. let k = x.1 in absurd cc)
    (not_or_else (Closes rules) (FromChange rules) (λ s x. let k = x.1 in absurd cc)
    (not_or_else (Changes rules) (FromSplit rules) (λ s x. let k = x.2 in absurd cc)
    (not_or_else Splits (FromRound rules) (λ s x. let k = x.4 in absurd cc)
    (not_or_else (GoesRound rules) (FromLeaf rules) (λ s x. let k = x.5 in absurd cc)
    (not_or_else (PassesOver rules) StaysOpen (λ s x. let k = x.1 in absurd cc) (λ s x. absurd cc)))))))

-- ---- the whole

module _ (w : World) (rules : Rules) (sound : IsSound rules w) (budget : ℕ) where
  some_front : (bs cs : List Branch) → SomeModel w bs → SomeModel w (bs ++ cs)
  some_front [] cs c = absurd c
  some_front (b ∷ bs) cs c = elim c [ inl k ↦ inl k | inr k ↦ inr (some_front bs cs k) ]

  some_behind : (bs cs : List Branch) → SomeModel w cs → SomeModel w (bs ++ cs)
  some_behind [] cs c = c
  some_behind (b ∷ bs) cs c = inr (some_behind bs cs c)

  passed_over : {ts : List Task} {n : ℕ} {bs : List Branch} {e : End} → Runs rules budget ts n bs e → e ≡ all_closed → SomeTaskModel w ts → SomeModel w bs
  passed_over none_left e c = absurd c
  passed_over (stops {t} {ts} {n} x) e c = absurd (not_closed rules budget (stand t ts n) (subst (λ z. Turns rules budget (stand t ts n) (ends z)) e x))
  passed_over (goes_on {t} {ts} {us} {n} {m} {bs} {cs} {ds} x r s) e c =
      subst (SomeModel w) (sym s) (elim (kept_turn w rules sound budget (stand t ts n) us m bs x c) [ inl k ↦ some_front bs cs k | inr k ↦ some_behind bs cs (passed_over r e k) ])

pub soundness : Soundness
soundness rules w sound budget ts n bs r = passed_over w rules sound budget r refl

pub sound_by : (passes : Bool) (closed : Branch → Type 0) (change : Branch → Branch → Type 0) (round : Branch → List Tree → Type 0) → SoundBy passes closed change round
sound_by passes closed change round w sound fuel budget f bs r env e = passed_over w (rules_of passes closed change round) sound budget r refl (inl (env, (tt, (e, tt))))
