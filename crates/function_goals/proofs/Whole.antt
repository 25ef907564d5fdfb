-- The walk of a whole function by its parts, in the words of the code.
use Rattle.std.proofs.Common.{◌≡◌, ℕ, zero, Bool, true, false, List, [], subst}
use Rattle.walk_steps.specs.Step.{Step, seq, block, remember}
use Rattle.walk_steps.specs.World.{World}
use Rattle.walk_steps.specs.Walk.{Goal}
use Rattle.step_walks.specs.Walks.{Held, Walks, walk_at, now_forgets, now_remembers}
use Rattle.step_walks.specs.Ways.{BlockEnds, now_inside}
use Rattle.step_walks.proofs.Walking.{block_walks, remember_walks, seq_goes, seq_stops}

module _ {bases : List (List ℕ)} where
  pub body_stops : {p inside q r : Held} {fit fit' : List Goal → Type 0} {a b : Step} {goes on : Bool} (outer : ℕ → List World) → inside ≡ now_inside p → outer ≡ p.left → goes ≡ false
      → Walks bases a inside q fit fit' goes → BlockEnds bases outer goes q r on → Walks bases (block (seq a b)) p r fit fit' on
  body_stops {p = p} {q = q} {r = r} {fit = fit} {fit' = fit'} {a = a} {b = b} {goes = goes} {on = on} outer e l stops h k =
      block_walks (seq_stops (subst (λ g. Walks bases a (now_inside p) q fit fit' g) stops (subst (λ (i : Held). Walks bases a i q fit fit' goes) e h)))
      (subst (λ g. BlockEnds bases p.left g q r on) stops (subst (λ o. BlockEnds bases o goes q r on) l k))

  pub body_goes : {p inside q u r : Held} {fit fit' fit'' : List Goal → Type 0} {a b : Step} {goes ends on : Bool} (outer : ℕ → List World) → inside ≡ now_inside p → outer ≡ p.left → goes ≡ true
      → Walks bases a inside q fit fit' goes → Walks bases b q u fit' fit'' ends → BlockEnds bases outer ends u r on → Walks bases (block (seq a b)) p r fit fit'' on
  body_goes {p = p} {q = q} {u = u} {r = r} {fit = fit} {fit' = fit'} {a = a} {goes = goes} {ends = ends} {on = on} outer e l so h end k =
      block_walks (seq_goes (subst (λ g. Walks bases a (now_inside p) q fit fit' g) so (subst (λ (i : Held). Walks bases a i q fit fit' goes) e h)) end) (subst (λ o. BlockEnds bases o ends u r on) l k)

  pub whole_stops : {p start q u r : Held} {fit fit' fit'' : List Goal → Type 0} {a b c : Step} {goes : Bool} → start ≡ now_remembers p → goes ≡ false → Walks bases a start q fit fit' true
      → Walks bases b q u fit' fit'' goes → r ≡ now_forgets u → Walks bases (remember (seq a (seq b c))) p r fit fit'' false
  whole_stops {q = q} {u = u} {fit = fit} {fit' = fit'} {fit'' = fit''} {a = a} {b = b} e stops h k end =
      remember_walks (seq_goes (subst (λ (i : Held). Walks bases a i q fit fit' true) e h) (seq_stops (subst (λ g. Walks bases b q u fit' fit'' g) stops k))) end

  pub whole_goes : {p start q u w r : Held} {fit fit' fit'' fit₃ : List Goal → Type 0} {a b c : Step} {goes : Bool} → start ≡ now_remembers p → goes ≡ true → Walks bases a start q fit fit' true
      → Walks bases b q u fit' fit'' goes → Walks bases c u w fit'' fit₃ true → r ≡ now_forgets w → Walks bases (remember (seq a (seq b c))) p r fit fit₃ true
  whole_goes {q = q} {u = u} {fit = fit} {fit' = fit'} {fit'' = fit''} {a = a} {b = b} e so h k l end =
      remember_walks (seq_goes (subst (λ (i : Held). Walks bases a i q fit fit' true) e h) (seq_goes (subst (λ g. Walks bases b q u fit' fit'' g) so k) l)) end

  -- what was passed on
  pub whole_goals : {p start q : Held} {fit fit' : List Goal → Type 0} {a : Step} {goes : Bool} (b : Step) → a ≡ b → p ≡ start → Walks bases a p q fit fit' goes → fit []
      → fit' (walk_at bases start zero b).goals
  whole_goals {p = p} {start = start} {fit' = fit'} {a = a} b same begins h f =
      subst (λ (x : Step). fit' (walk_at bases start zero x).goals) same (subst (λ (x : Held). fit' (walk_at bases x zero a).goals) begins (h.goals [] f))
