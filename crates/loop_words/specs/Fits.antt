-- What is asked of a loop, so that its word does what it does: annotations that have formulas and terms, a set of variables, and that what its turns change is
-- in scope and no temporary that is still used.
use Rattle.std.specs.Prelude.{◌≡◌, ◌≤◌, ◌⊎◌, ℕ, Bool, true, false, List, Some}
use Rattle.qed_terms.specs.Meaning as sense
use Rattle.c_runs.specs.Program.{Claim, Measure, Behavior, Contract, Loop, Facts}
use Rattle.c_runs.specs.Tree.{Steps}
use Rattle.plain_runs.specs.Fitting.{Shape}
use Rattle.plain_runs.specs.Kept.{some_temps}
use Rattle.program_steps.specs.Temporaries.{Temporaries, no_temporaries, all_live}
use Rattle.program_steps.specs.Terms.{Texts}
use Rattle.program_steps.specs.Typed.{ClaimFits, MeasureFits}
use Rattle.program_steps.specs.Functions.{AllOf, SetFits}
use Rattle.loop_words.specs.Sets.{lets_local, local_changes}

-- Where these variables are in scope, and these temporaries are used behind the blocks around. Which states are remembered depends on where the loop stands,
-- so all is asked of all levels.
pub record LoopFits (m : sense.World) (p : Facts) (s : Shape) (texts : Texts) (contract : Contract) (in_scope : ℕ → Bool) (outs : List Temporaries) (l : Loop) (ss : Steps) : Type 0 where
  pub invariants : AllOf (λ (c : Claim). (here entry loop_entry : ℕ) → ClaimFits m p s texts c.what here entry loop_entry) l.invariants
  pub variant : (v : Measure) → l.variant ≡ Some v → (here entry loop_entry : ℕ) → MeasureFits m p s texts v.what here entry loop_entry
  pub regions : SetFits p s l.assigns
  pub scoped : (x : ℕ) → local_changes l ss x ≡ true → in_scope x ≡ true
  pub inner : (x : ℕ) → l.declared ≤ x → (in_scope x ≡ false) ⊎ (lets_local l ss x ≡ false)
  pub temporaries : (n : ℕ) → all_live ss outs no_temporaries n ≡ true → some_temps ss n ≡ false
  pub assumes : AllOf (λ (b : Behavior). AllOf (λ a. (level : ℕ) → ClaimFits m p s texts a level level level) b.assumes) contract.behaviors
