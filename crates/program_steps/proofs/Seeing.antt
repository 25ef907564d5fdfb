-- What annotations see of a world is what its slots hold.
use Rattle.std.proofs.Common.{◌≡◌, ℕ, ◌+◌, ◌-◌, ◌<◌, ℤ, pos, negsuc, Bool, true, false, ◌&&◌, ◌||◌, if◌then◌else◌, List, [], ◌∷◌, length, Some, slice_get, refl, sym, ap, ◌∙◌, subst, arith}
use Rattle.std.specs.Prelude.{nat_lt}
use Rattle.std.specs.List.{list_all}
use Rattle.std.proofs.lemmas.Bool.{false≢true, lt-ltb, false_from_ne_true, ltb-true}
use Rattle.wp_base.specs.Blocks.{Table}
use Rattle.c_runs.specs.TruthStates.{Value, number}
use Rattle.c_runs.specs.Program.{Variable, Facts}
use Rattle.c_runs.specs.States.{World, seen, held_by, block_of_local, plain_globals, hidden}
use Rattle.c_runs.specs.CoreRun.{CoreWorld}
use Rattle.plain_states.specs.Slots.{State, at, value_slot, local_value}
use Rattle.plain_states.specs.Scopes.{is_integer}
use Rattle.plain_states.proofs.Scoping.{found_below}
use Rattle.goal_segments.specs.Told.{Shape, sizes}
use Rattle.goal_segments.proofs.Told.{home_is, all_plain}
use Rattle.program_steps.specs.Temporaries.{Temporaries}
use Rattle.program_steps.specs.Standing.{StandsFor, SeenAs}
use Rattle.program_steps.proofs.Standing.{file_fits}

module _ (p : Facts) (s : Shape) (globals : list_all is_integer p.globals ≡ true) (integers : list_all is_integer s.variables ≡ true) where
  pub behind_file : (x : ℕ) → nat_lt (plain_globals p + x) (plain_globals p) ≡ false
  behind_file x = false_from_ne_true (nat_lt (plain_globals p + x) (plain_globals p)) (λ e. let l = ltb-true (plain_globals p + x) (plain_globals p) e in absurd (omega (arith, l)))

  pub among_locals : (x : ℕ) → (plain_globals p + x) - plain_globals p ≡ x
  among_locals x = omega arith

  pub in_file : (x : ℕ) (v : Variable) → slice_get p.globals x ≡ Some v → nat_lt x (plain_globals p) ≡ true
  in_file x v e = ap (nat_lt x) (all_plain p.globals globals) ∙ lt-ltb x (length p.globals) (found_below p.globals x v e)

  pub seen_as : {t0 : Table} (i : ℕ → Bool) (f : Temporaries) (c : CoreWorld) (st : State) → StandsFor p s t0 i f c st → SeenAs p s (seen p c.world) st st
  seen_as i f c st stands = record {
    file_homes = λ x v e. home_is p globals x v e;
    globals = λ x v e. ap (λ t. if t then c.world.memory.cells (negsuc x) (pos 0) else held_by (c.world.locals (x - plain_globals p))) (in_file x v e) ∙ stands.globals x v e;
    file_fits = λ x v e. file_fits p s globals integers c.world.memory stands.good x v e (at st (value_slot x)) (stands.globals x v e);
    homes = λ x v e. ap (block_of_local p x) (stands.locals x v e).same;
    locals = λ x v e.
        ap (λ t. if t then c.world.memory.cells (hidden p x) (pos 0) else held_by (c.world.locals ((plain_globals p + x) - plain_globals p))) (behind_file x)
        ∙ ap (λ k. held_by (c.world.locals k)) (among_locals x) ∙ ap held_by (stands.locals x v e).same;
    fits = λ x v e. (stands.locals x v e).fits;
  }
