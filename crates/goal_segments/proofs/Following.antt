-- A run of a statement is followed by a segment run: one that goes wrong, or one that ends as the run did, unless the turns are spent.
use Rattle.std.proofs.Common.{◌≡◌, ℕ, zero, suc, ◌+◌, ◌<◌, ◌≤◌, ℤ, pos, Bool, true, false, ◌&&◌, if◌then◌else◌, List, [], ◌∷◌, Option, Some, None, slice_get, refl, sym, ap, ◌∙◌, subst}
use Rattle.std.specs.List.{list_all}
use Rattle.std.proofs.lemmas.Bool.{false≢true, and_parts}
use Rattle.wp_base.specs.declared.kinds.CellKind.{CellKind}
use Rattle.wp_base.specs.declared.kinds.CellKind.TheVariants as cell
use Rattle.wp_base.specs.declared.kinds.Kind.{Kind}
use Rattle.wp_base.specs.Blocks.{count}
use Rattle.c_runs.specs.TruthStates.{Value, number, number_of, nothing_of}
use Rattle.c_runs.specs.Program.{Variable, Facts, Function, Program}
use Rattle.c_runs.specs.States.{Memory, World, Here, plain, with_local}
use Rattle.c_runs.specs.Claims.{Stop, spent, undefined, failed}
use Rattle.c_runs.specs.Scopes.{next_content, others, scalar_of, variable_made, plain_made, block_made, entered}
use Rattle.c_runs.specs.CoreRun.{CoreWorld, Ending, goes_on, exits, returns, stopped, then_do, block_end, scope_end}
use Rattle.c_runs.specs.Checks.{Check}
use Rattle.c_runs.specs.Tree.{Step, Steps, then_}
use Rattle.c_runs.specs.CheckedRun as run
use Rattle.goal_segments.specs.RunSegments.{Asks, all_met, met, unmet, BlockEnds, Leaves, by_exit, by_return, by_stop}
use Rattle.goal_segments.specs.RunSegments as segment
use Rattle.plain_runs.specs.Told.{is_integer, are_one_integer, kind_in, kind_of}
use Rattle.plain_runs.proofs.Told.{listed_integer, cell_of_integer, content_number, when_true}
use Rattle.plain_runs.proofs.Scopes.{on_bool}
use Rattle.goal_segments.specs.Segments.{IsAny, Opened, all_opened, unknown, with_value, not_set, Seg, AllSeg, goes, stays}

abbrev pub IsSpent : Ending → Type 0
IsSpent (stopped (spent w)) = Unit {0}
IsSpent (stopped (undefined u line)) = ⊥
IsSpent (stopped (failed b line)) = ⊥
IsSpent (goes_on c) = ⊥
IsSpent (exits k c) = ⊥
IsSpent (returns v c) = ⊥

-- by runs of this kind
pub data Follows (r : Ending → Type 0) (o : Ending) : Type 0 where
  goes_wrong : (e : Stop) → r (stopped e) → Follows r o
  goes_so : r o → Follows r o
  spends : IsSpent o → Follows r o

-- ---- checks, one after the other

pub asks_or : (P : Ending → Type 0) (cs : List Check) (test : Check → Bool) (behind : Ending) → ((e : Stop) → Asks test cs (Some e) → P (stopped e))
    → (Asks test cs None → list_all test cs ≡ true → P behind) → P (run.asked cs test behind)
asks_or P [] test behind bad good = good all_met refl
asks_or P (c ∷ cs) test behind bad good = by (test c) refl (asks_or P cs test behind) where
  by : (b : Bool) → test c ≡ b
      → (((e : Stop) → Asks test cs (Some e) → P (stopped e)) → (Asks test cs None → list_all test cs ≡ true → P behind) → P (run.asked cs test behind))
      → P (if b then run.asked cs test behind else stopped (undefined c.kind c.line))
  by true e rest = rest (λ x a. bad x (met e a)) (λ a k. good (met e a) (ap (λ t. t && list_all test cs) e ∙ k))
  by false e rest = bad (undefined c.kind c.line) (unmet e)

-- ---- ends

pub block_ends : (o : Ending) → BlockEnds o (block_end o)
block_ends (goes_on c) = segment.at_end
block_ends (exits zero c) = segment.left_here
block_ends (exits (suc k) c) = segment.left_further
block_ends (returns v c) = segment.returned
block_ends (stopped s) = segment.stopped_in

pub block_spent : (o : Ending) → IsSpent o → IsSpent (block_end o)
block_spent (goes_on c) h = h
block_spent (exits k c) h = absurd h
block_spent (returns v c) h = h
block_spent (stopped s) h = h

pub then_spent : (o : Ending) (go : CoreWorld → Ending) → IsSpent o → IsSpent (then_do o go)
then_spent (goes_on c) go h = absurd h
then_spent (exits k c) go h = h
then_spent (returns v c) go h = h
then_spent (stopped s) go h = h

pub scope_spent : (m : Memory) (ys : List ℕ) (o : Ending) → IsSpent o → IsSpent (scope_end m ys o)
scope_spent m ys (goes_on c) h = h
scope_spent m ys (exits k c) h = h
scope_spent m ys (returns v c) h = h
scope_spent m ys (stopped s) h = h

-- ---- a block that is entered

module _ (p : Facts) (xs : List Variable) (all : list_all is_integer xs ≡ true) where
  opens_one : (x : ℕ) (ys : List ℕ) (w : World) → ((u : World) → Opened p xs ys u (entered p xs ys u)) → (o : Option Variable) → slice_get xs x ≡ o
      → Opened p xs (x ∷ ys) w (entered p xs ys (variable_made p x o w))
  opens_one x ys w rest None e = unknown e (rest w)
  opens_one x ys w rest (Some v) e = on_bool v.has_value
      (λ t. with_value e t (and_parts v.is_plain (are_one_integer v.layout.cells) (listed_integer xs all x v e)).0 (rest (variable_made p x (Some v) w)))
      (λ t.
      let both = and_parts v.is_plain (are_one_integer v.layout.cells) (listed_integer xs all x v e) in
      let cell_is = cell_of_integer v.layout.cells both.1 in
      let held = next_content p (count w.memory.blocks) (scalar_of v.layout.cells) w.contents in
      let made : with_local x (plain held false) (record w { contents = others w.contents }) ≡ variable_made p x (Some v) w =
      sym (when_true v.is_plain (plain_made p x v w) (block_made p x v w) both.0
      ∙ ap (λ b. if b then with_local x (plain (nothing_of (scalar_of v.layout.cells)) true) w else with_local x (plain held false) (record w { contents = others w.contents })) t) in
      not_set e t both.0 held
      (subst (λ c. IsAny c held) (sym cell_is) (
        number_of held,
        sym (ap (λ c. number (number_of (next_content p (count w.memory.blocks) c w.contents))) cell_is
            ∙ content_number p (count w.memory.blocks) (kind_of v) w.contents ∙ sym (ap (λ c. next_content p (count w.memory.blocks) c w.contents) cell_is)),
      ))
      (others w.contents) (subst (λ u. Opened p xs ys u (entered p xs ys (variable_made p x (Some v) w))) (sym made) (rest (variable_made p x (Some v) w))))

  pub opens : (ys : List ℕ) (w : World) → Opened p xs ys w (entered p xs ys w)
  opens [] w = all_opened
  opens (x ∷ ys) w = opens_one x ys w (opens ys) (slice_get xs x) refl
