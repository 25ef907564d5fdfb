-- The parts of a call, put together.
use Rattle.std.proofs.Common.{◌≡◌, ℕ, zero, suc, Bool, true, false, List, [], ◌∷◌, map, refl, sym, ap, ◌∙◌, subst}
use Rattle.qed_terms.specs.Meaning as sense
use Rattle.qed_terms.specs.Tree.{Tree}
use Rattle.walk_steps.specs.Forms.{Slots, Place, Check}
use Rattle.walk_steps.specs.Step as steps
use Rattle.walk_steps.specs.Step.{Step, Change}
use Rattle.walk_steps.specs.World.{World}
use Rattle.walk_steps.specs.Walk.{Goal}
use Rattle.program_steps.specs.Words.{ask_all}
use Rattle.step_walks.specs.Walks.{Held, states, Walks, now_changed, now_remembers, now_forgets}
use Rattle.step_walks.specs.Ways.{now_inside, now_put_back}
use Rattle.step_walks.proofs.Walking.{remember_walks, scope_walks, change_walks}

module _ {bases : List (List ℕ)} where
  -- what is asked changes no slots
  pub asked_same : {p q : Held} {fit fit' : List Goal → Type 0} (cs : List Check) → Walks bases (steps.ask cs) p q fit fit' true → states q ≡ states p
  asked_same cs h = let end = h.end 0 in λ i. (end i).slots ∷ h.olds i

  -- at a place that is told otherwise
  pub asked_at : {p q : Held} {fit fit' : List Goal → Type 0} (m : sense.World) (ts : List Tree) {at at' : Place} → at ≡ at' → Walks bases (ask_all m ts at) p q fit fit' true
      → Walks bases (ask_all m ts at') p q fit fit' true
  asked_at {p = p} {q = q} {fit = fit} {fit' = fit'} m ts e h = subst (λ at. Walks bases (ask_all m ts at) p q fit fit' true) e h

  pub changed_by : {p q : Held} {fit : List Goal → Type 0} (cs : List Change) {ds : List Change} → ds ≡ cs → q ≡ now_changed bases p ds → Walks bases (steps.change cs) p q fit fit true
  changed_by {p = p} cs e h = change_walks cs (h ∙ ap (now_changed bases p) e)

  -- what is walked in the scope of a slot, where the state before is remembered
  pub behind_goes : {p p₁ p₂ q r x : Held} {fit fit' : List Goal → Type 0} {a : Step} {goes : Bool} (is : List ℕ) (w : World) {outer : ℕ → List World} → p₁ ≡ now_remembers p → w.slots ≡ p₁.world.slots
      → outer ≡ p₁.left → p₂ ≡ now_inside p₁ → Walks bases a p₂ q fit fit' goes → r ≡ now_put_back is w outer q → x ≡ now_forgets r → Walks bases (steps.remember (steps.scope is a)) p x fit fit' goes
  behind_goes {q = q} {r = r} {fit = fit} {fit' = fit'} {a = a} {goes = goes} is w e same from inside h back forgotten =
      remember_walks (subst (λ y. Walks bases (steps.scope is a) y r fit fit' goes) e
      (scope_walks is w same (subst (λ y. Walks bases a y q fit fit' goes) inside h) (back ∙ ap (λ l. now_put_back is w l q) from))) forgotten
