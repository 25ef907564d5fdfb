-- Calls one after another.
use Rattle.std.proofs.Common.{◌≡◌, ℕ, zero, suc, ◌<◌, Bool, true, ◌&&◌, ◌⊎◌, inl, inr, List, [], ◌∷◌, length, Option, Some, None, refl, ap, ◌∙◌, arith}
use Rattle.c_runs.specs.Program.{Stmts, Function, Facts, Program}
use Rattle.c_runs.specs.Reach as reach
use Rattle.c_runs.specs.Reach.{stmts_call, Reaches}
use Rattle.c_programs.specs.Clusters.{at, body_calls, calls_directly, reaches_through, reaches}
use Rattle.call_clusters.specs.Laws.{program_with, CallsOn, ReachingIsByCalls}
use Rattle.call_clusters.proofs.Through.{and_left, and_right, or_cases, directly, reaching_composes}

on_from : (p : Program Stmts) (f g h : ℕ) → Reaches p f g → Reaches p g h → Reaches p f h
on_from p f g h (reach.itself f') behind = behind
on_from p f g h (reach.through is calls rest) behind = reach.through is calls (on_from p _ g h rest behind)

module _ (facts : Facts) (fs : List (Option (Function Stmts))) where
  abbrev p : Program Stmts
  p = program_with facts fs

  abbrev d : ℕ → ℕ → Bool
  d = calls_directly fs

  to_path : (f g : ℕ) → CallsOn p f g → Reaches p f g
  to_path f g c = reach.through c.is_there c.calls c.on

  both_calls : (f g h : ℕ) → CallsOn p f g → CallsOn p g h → CallsOn p f h
  both_calls f g h c e = record { called = c.called; caller = c.caller; is_there = c.is_there; calls = c.calls; on = on_from p c.called g h c.on (to_path g h e) }

  called_by : (f g : ℕ) (o : Option (Function Stmts)) → at fs f ≡ o → body_calls o g ≡ true → CallsOn p f g
  called_by f g None is h = absurd (cc)
  called_by f g (Some b) is h = record { called = g; caller = b; is_there = is; calls = h; on = reach.itself g }

  by_calls : (k f g : ℕ) → reaches_through d k f g ≡ true → CallsOn p f g
  by_calls zero f g h = called_by f g (at fs f) refl h
  by_calls (suc k) f g h = by_step k f g (by_calls k f g) (by_calls k f k) (by_calls k k g) (or_cases (reaches_through d k f g) (reaches_through d k f k && reaches_through d k k g) h)
    where
      by_step : (k f g : ℕ) → (reaches_through d k f g ≡ true → CallsOn p f g) → (reaches_through d k f k ≡ true → CallsOn p f k) → (reaches_through d k k g ≡ true → CallsOn p k g)
          → (reaches_through d k f g ≡ true) ⊎ ((reaches_through d k f k && reaches_through d k k g) ≡ true) → CallsOn p f g
      by_step k f g straight to from (inl q) = straight q
      by_step k f g straight to from (inr q) =
          both_calls f k g (to (and_left (reaches_through d k f k) (reaches_through d k k g) q)) (from (and_right (reaches_through d k f k) (reaches_through d k k g) q))

  further : (k f g : ℕ) → d f g ≡ true → reaches_through d k f g ≡ true
  further zero f g h = h
  further (suc k) f g h = directly d k f g (further k f g h)

  is_below : (xs : List (Option (Function Stmts))) (f : ℕ) (b : Function Stmts) → at xs f ≡ Some b → f < length xs
  is_below [] f b is = absurd (cc)
  is_below (x ∷ xs) zero b is = omega arith
  is_below (x ∷ xs) (suc f) b is = let lt = is_below xs f b is in omega (arith, lt)

  calls_it : (f g : ℕ) (b : Function Stmts) → at fs f ≡ Some b → stmts_call g b.body ≡ true → reaches fs f g ≡ true
  calls_it f g b is h = further (length fs) f g (ap (λ o. body_calls o g) is ∙ h)

  onward : (f g h : ℕ) → reaches fs f g ≡ true → Reaches p g h → reaches fs f h ≡ true
  onward f g h so (reach.itself g') = so
  onward f g h so (reach.through {f = g'} {g = m} {h = h'} {b = b} is calls rest) =
      onward f m h (reaching_composes d (length fs) f g m (is_below fs g b is) so (calls_it g m b is calls)) rest

  to_reach : (f g : ℕ) → CallsOn p f g → reaches fs f g ≡ true
  to_reach f g c = onward f c.called g (calls_it f c.called c.caller c.is_there c.calls) c.on

pub reaching_is_by_calls : ReachingIsByCalls
reaching_is_by_calls facts fs f g = (by_calls facts fs (length fs) f g, to_reach facts fs f g)
