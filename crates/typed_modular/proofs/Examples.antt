-- The sets of the small function fit.
use Rattle.std.proofs.Common.{◌≡◌, ℕ, zero, suc, true, false, ◌||◌, [], ◌∷◌, Some, refl, sym, ap, ◌∙◌, subst}
use Rattle.std.specs.Prelude.{◌==◌}
use Rattle.std.proofs.lemmas.Bool.{false≢true}
use Rattle.c_runs.specs.Program.{Function}
use Rattle.c_runs.specs.Claims.{at_entry, parts_of}
use Rattle.c_runs.specs.Tree.{Steps}
use Rattle.goal_segments.specs.Told.{with_names, is_param}
use Rattle.plain_runs.specs.Kept.{some_sets}
use Rattle.typed_memories.proofs.Tests.{on_test}
use Rattle.typed_runs.specs.Fitting.{Shape, shape}
use Rattle.typed_runs.specs.Examples.{turns, turn, f, functions, small}
use Rattle.typed_runs.proofs.Opening.{same_name}
use Rattle.typed_modular.specs.Solid.{LoopSet, AllLoopSets, AllAreSolid}
use Rattle.typed_modular.specs.Laws.{SmallSetsFit}
use Rattle.typed_modular.specs.Examples.{OthersLieInGaps}

-- the loop sets x alone, which is in scope
sets_x : (x : ℕ) → some_sets turn x ≡ true → with_names (1 ∷ 2 ∷ []) (is_param 1) x ≡ true
sets_x x on = on_test (1 == x)
    (λ same. subst (λ x. with_names (1 ∷ 2 ∷ []) (is_param 1) x ≡ true) (same_name 1 x same) refl)
    (λ other. absurd (false≢true (sym (ap (λ b. ((b || false) || false) || false) other) ∙ on)))

loop_set : (s : Shape) (g : Function Steps) → LoopSet small.facts s g (with_names (1 ∷ 2 ∷ []) (is_param 1)) turns turn
loop_set s g = record { solid = λ vs m enters c h. tt; scoped = λ vs m enters c h x v e is before may. sets_x x may }

only : (n : ℕ) (g : Function Steps) → functions n ≡ Some g → f ≡ g
only zero g e = cc
only (suc n) g e = absurd cc

pub small_sets_fit : SmallSetsFit
small_sets_fit fits = record {
  contracts = λ n g e vs m enters. subst (λ g. AllAreSolid small.facts (at_entry small.facts vs m) (parts_of g.contract)) (only n g e) (tt, tt);
  loops = λ n g e. by (shape small fits g (fits.functions n g e)) g (only n g e);
} where
  by : (s : Shape) (g : Function Steps) → f ≡ g → AllLoopSets small.facts s g (is_param g.params) g.body
  by s g e = subst (λ h. AllLoopSets small.facts s g (is_param h.params) h.body) e
      ((tt, (tt, (((loop_set s g, ((((tt, tt), (tt, tt)), tt))), tt), (tt, (tt, tt))))), tt)

pub others_lie_in_gaps : OthersLieInGaps
others_lie_in_gaps p = record { inside = refl; inner = refl; outer = refl }
