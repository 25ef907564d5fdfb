-- A temporary that is used from some point on is used in the statements there, or behind them.
use Rattle.std.proofs.Common.{◌≡◌, ℕ, zero, suc, ◌==◌, Bool, true, false, not, ◌&&◌, ◌||◌, if◌then◌else◌, List, [], ◌∷◌, Option, Some, None, refl, ap, ◌⊎◌, inl, inr}
use Rattle.wp_base.specs.declared.kinds.CellKind.{CellKind}
use Rattle.typed_prog.specs.Tree as t
use Rattle.c_runs.specs.Tree.{Goal, nowhere, temporary, place, variable, Step, set, store, start, call, branch, repeat, around, exit, give, claim, scope, Steps, end, then_}
use Rattle.goal_segments.specs.Told.{goal_temp}
use Rattle.value_terms.specs.Typed.{kind_given}
use Rattle.program_steps.specs.Temporaries.{Temporaries, no_temporaries, uses, some_use, out_at, goal_uses, given_uses, live, all_live}
use Rattle.temporary_kinds.specs.Kinds.{or_else, only_if, value_kind, values_kind, given_kind, goal_kind, step_kind, steps_kind}
use Rattle.temporary_kinds.specs.Laws.{IsUsedIn, LiveAreMentioned}

-- ---- one of two

abbrev Mentioned : Option CellKind → Type 0
Mentioned o = (k : CellKind) × (o ≡ Some k)

first : (o u : Option CellKind) → Mentioned o → Mentioned (or_else o u)
first o u h = (h.0, ap (λ x. or_else x u) h.1)

second : (o u : Option CellKind) → Mentioned u → Mentioned (or_else o u)
second (Some k) u h = (k, refl)
second None u h = h

split : {Z : Type 0} (a b : Bool) → (a || b) ≡ true → (a ≡ true → Z) → (b ≡ true → Z) → Z
split true b h f g = f refl
split false b h f g = g h

last : (a b : Bool) → (a && b) ≡ true → b ≡ true
last true b h = h
last false b h = absurd cc

-- ---- expressions

mutual
  value_mentions : (e : t.Value) (n : ℕ) → uses e n ≡ true → Mentioned (value_kind e n)
  value_mentions (t.typed (t.temporary m) type line) n h = (kind_given type, ap (λ b. if b then Some (kind_given type) else None) h)
  value_mentions (t.typed (t.apply o es) type line) n h = values_mention es n h
  value_mentions (t.typed (t.constant z) type line) n h = absurd cc
  value_mentions (t.typed t.null type line) n h = absurd cc
  value_mentions (t.typed (t.logic c a b) type line) n h = absurd cc
  value_mentions (t.typed (t.choose c a b) type line) n h = absurd cc
  value_mentions (t.typed (t.effect e es) type line) n h = absurd cc

  values_mention : (es : t.Values) (n : ℕ) → some_use es n ≡ true → Mentioned (values_kind es n)
  values_mention t.stop n h = absurd cc
  values_mention (t.more e es) n h =
      split (uses e n) (some_use es n) h (λ here. first (value_kind e n) (values_kind es n) (value_mentions e n here))
      (λ there. second (value_kind e n) (values_kind es n) (values_mention es n there))

given_mentions : (e : Option t.Value) (n : ℕ) → given_uses e n ≡ true → Mentioned (given_kind e n)
given_mentions None n h = absurd cc
given_mentions (Some e) n h = value_mentions e n h

goal_mentions : (to : Goal) (r : Option CellKind) (n : ℕ) → goal_uses to n ≡ true → Mentioned (goal_kind to r n)
goal_mentions nowhere r n h = absurd cc
goal_mentions (temporary m) r n h = absurd cc
goal_mentions (place cs type l path es) r n h = values_mention es n h
goal_mentions (variable x) r n h = absurd cc

-- ---- behind blocks

out_used : (os : List Temporaries) (k n : ℕ) → out_at os k n ≡ true → IsUsedIn os n
out_used [] k n h = absurd cc
out_used (f ∷ fs) zero n h = inl h
out_used (f ∷ fs) (suc k) n h = inr (out_used fs k n h)

-- ---- statements

module _ (results : ℕ → Option CellKind) where
  abbrev Told : Option CellKind → List Temporaries → ℕ → Type 0
  Told o fs n = Mentioned o ⊎ IsUsedIn fs n

  told_first : (o u : Option CellKind) (fs : List Temporaries) (n : ℕ) → Told o fs n → Told (or_else o u) fs n
  told_first o u fs n (inl h) = inl (first o u h)
  told_first o u fs n (inr h) = inr h

  told_second : (o u : Option CellKind) (fs : List Temporaries) (n : ℕ) → Told u fs n → Told (or_else o u) fs n
  told_second o u fs n (inl h) = inl (second o u h)
  told_second o u fs n (inr h) = inr h

  -- behind a loop none is used, and a block ends where it does
  without : (o : Option CellKind) (os : List Temporaries) (f : Temporaries) (n : ℕ) → Told o (no_temporaries ∷ os) n → Told o (f ∷ os) n
  without o os f n (inl here) = inl here
  without o os f n (inr (inl none)) = absurd cc
  without o os f n (inr (inr there)) = inr (inr there)

  once : (o : Option CellKind) (os : List Temporaries) (f : Temporaries) (n : ℕ) → Told o (f ∷ (f ∷ os)) n → Told o (f ∷ os) n
  once o os f n (inl here) = inl here
  once o os f n (inr (inl there)) = inr (inl there)
  once o os f n (inr (inr there)) = inr there

  -- one statement after the other
  further : (o u : Option CellKind) (g : Temporaries) (os : List Temporaries) (f : Temporaries) (n : ℕ) → Told o (g ∷ os) n → (g n ≡ true → Told u (f ∷ os) n)
      → Told (or_else o u) (f ∷ os) n
  further o u g os f n (inl here) next = inl (first o u here)
  further o u g os f n (inr (inl there)) next = told_second o u (f ∷ os) n (next there)
  further o u g os f n (inr (inr there)) next = inr (inr there)

  mutual
    step_live : (s : Step) (os : List Temporaries) (f : Temporaries) (n : ℕ) → live s os f n ≡ true → Told (step_kind results s n) (f ∷ os) n
    step_live (set cs m e) os f n h =
        split (uses e n) (not (m == n) && f n) h
        (λ here. inl (first (value_kind e n) (only_if m n (Some (kind_given (t.type_of e)))) (value_mentions e n here)))
        (λ there. inr (inl (last (not (m == n)) (f n) there)))
    step_live (store cs type l path es) os f n h = split (some_use es n) (f n) h (λ here. inl (values_mention es n here)) (λ there. inr (inl there))
    step_live (start cs x e) os f n h = split (uses e n) (f n) h (λ here. inl (value_mentions e n here)) (λ there. inr (inl there))
    step_live (call cs to g l es) os f n h =
        split (some_use es n || goal_uses to n) (not (goal_temp to n) && f n) h
        (λ before. split (some_use es n) (goal_uses to n) before
        (λ here. inl (first (values_kind es n) (goal_kind to (results g) n) (values_mention es n here)))
        (λ here. inl (second (values_kind es n) (goal_kind to (results g) n) (goal_mentions to (results g) n here))))
        (λ behind. inr (inl (last (not (goal_temp to n)) (f n) behind)))
    step_live (branch cs e a b) os f n h =
        split (uses e n) (all_live a os f n || all_live b os f n) h
        (λ here. inl (first (value_kind e n) (or_else (steps_kind results a n) (steps_kind results b n)) (value_mentions e n here)))
        (λ there. told_second (value_kind e n) (or_else (steps_kind results a n) (steps_kind results b n)) (f ∷ os) n
        (split (all_live a os f n) (all_live b os f n) there
        (λ here. told_first (steps_kind results a n) (steps_kind results b n) (f ∷ os) n (steps_live a os f n here))
        (λ other. told_second (steps_kind results a n) (steps_kind results b n) (f ∷ os) n (steps_live b os f n other))))
    step_live (repeat l ss) os f n h = without (steps_kind results ss n) os f n (steps_live ss os no_temporaries n h)
    step_live (around ss) os f n h = once (steps_kind results ss n) os f n (steps_live ss (f ∷ os) f n h)
    step_live (exit k) os f n h = inr (inr (out_used os k n h))
    step_live (give cs e) os f n h = inl (given_mentions e n h)
    step_live (claim c) os f n h = inr (inl h)
    step_live (scope ys ss) os f n h = steps_live ss os f n h

    steps_live : (ss : Steps) (os : List Temporaries) (f : Temporaries) (n : ℕ) → all_live ss os f n ≡ true → Told (steps_kind results ss n) (f ∷ os) n
    steps_live end os f n h = inr (inl h)
    steps_live (then_ s ss) os f n h =
        further (step_kind results s n) (steps_kind results ss n) (all_live ss os f) os f n (step_live s os (all_live ss os f) n h) (λ there. steps_live ss os f n there)

pub live_are_mentioned : LiveAreMentioned
live_are_mentioned results ss os f n h = steps_live results ss os f n h
