-- Where the result of a call goes: runs of the machine and those of the word.
use Rattle.std.proofs.Common.{◌≡◌, ◌⊎◌, ℕ, ◌+◌, ◌<◌, ℤ, pos, negsuc, Bool, true, false, not, ◌&&◌, if◌then◌else◌, List, [], ◌∷◌, Some, None, slice_get, refl, sym, ap, ◌∙◌, subst, inl, inr, add-zero}
use Rattle.std.specs.Prelude.{◌==◌}
use Rattle.std.proofs.lemmas.Bool.Decides.{Decides-eqb}
use Rattle.wp_base.specs.declared.kinds.Kind.{Kind}
use Rattle.wp_base.specs.Blocks.{Table}
use Rattle.c_kinds.specs.Models.{holds}
use Rattle.typed_prog.specs.declared.types.CoreType.{CoreType}
use Rattle.typed_prog.specs.declared.operators.Path.{Path}
use Rattle.typed_prog.specs.declared.operators.Root.{Root}
use Rattle.typed_prog.specs.declared.operators.Root.TheVariants as root
use Rattle.typed_prog.specs.declared.operators.Variable as code
use Rattle.typed_prog.specs.declared.operators.Variable.TheVariants as variables
use Rattle.typed_prog.specs.Tree as t
use Rattle.qed_terms.specs.Meaning as sense
use Rattle.qed_terms.specs.Tree.{Tree}
use Rattle.c_runs.specs.TruthStates.{Value, number}
use Rattle.c_runs.specs.TruthStates as labelled
use Rattle.c_runs.specs.Program.{Variable, Contract, Facts, Program}
use Rattle.c_runs.specs.States.{World, Here, plain, with_local, with_memory, stored_in}
use Rattle.c_runs.specs.Claims as broken
use Rattle.c_runs.specs.Claims.{failed, may_change_local}
use Rattle.c_runs.specs.Effects as effects
use Rattle.c_runs.specs.Effects.{granted, wrote_act, initial_act}
use Rattle.c_runs.specs.Objects.{plain_root, is_plain_in, cell_of, along, start as start_at, address}
use Rattle.c_runs.specs.CoreRun as run
use Rattle.c_runs.specs.CoreRun.{CoreWorld, Ending, with_eval, in_world, with_temp}
use Rattle.c_runs.specs.Tree.{Goal, nowhere, temporary, place, variable, Steps}
use Rattle.c_runs.specs.CheckedRun as exec
use Rattle.goal_segments.specs.Segments.{no_deeper}
use Rattle.plain_states.specs.Slots.{State, temp_slot, with_variable}
use Rattle.plain_states.specs.Scopes.{kind_of}
use Rattle.plain_states.proofs.Entering.{when_true}
use Rattle.plain_runs.specs.Fitting.{Shape, sizes, LeadsTo, to_local, to_global}
use Rattle.plain_runs.specs.Kept.{goal_temp, may_change_global}
use Rattle.plain_runs.proofs.Objects.{home_is}
use Rattle.walk_steps.specs.State as walk
use Rattle.walk_steps.specs.Step.{Step, places, count}
use Rattle.walk_steps.specs.Step as step
use Rattle.walk_steps.specs.Run.{End, goes_on, Seg}
use Rattle.walk_steps.specs.Run as seg
use Rattle.walk_steps.proofs.Readings.{seq_ways, set_way}
use Rattle.program_steps.specs.Leaves.{closed, leaves_of}
use Rattle.program_steps.specs.Stops.{broken_place}
use Rattle.program_steps.specs.Temporaries.{Temporaries}
use Rattle.program_steps.specs.Terms.{Texts}
use Rattle.program_steps.specs.Words.{Point, ask_all, set_variable, write_trees, variable_number}
use Rattle.program_steps.specs.Standing.{StandsFor, Ends}
use Rattle.program_steps.specs.Typed.{Takes}
use Rattle.program_steps.specs.Placed.{InSetting, all_told, Placed, BothWays}
use Rattle.program_steps.proofs.Listing.{put_same}
use Rattle.program_steps.proofs.Standing.{of_function}
use Rattle.program_steps.proofs.Setting.{used_less, temp_set, local_set, global_set}
use Rattle.program_steps.proofs.Ends.{ask_both}
use Rattle.program_steps.proofs.Singles.{one_end, variable_run, variable_way}
use Rattle.program_steps.proofs.Asking.{behind}
use Rattle.call_words.specs.Words.{one_further, placed_in, received}
use Rattle.call_words.specs.Fits.{Receives, by_nothing, by_temporary, by_place, by_variable}

pub skip_way : {olds : List State} {n : ℕ} {st : State} {o : End} → Seg olds n step.skip st o → goes_on st ≡ o
skip_way seg.skips = refl

goes_parts : {a b : State} → goes_on a ≡ goes_on b → a ≡ b
goes_parts e = cc

-- behind a step that does nothing
pub skip_then : {olds : List State} {n : ℕ} {b : Step} {st : State} {o : End} → Seg olds n (step.seq step.skip b) st o → Seg olds n b st o
skip_then {olds} {n} {b} {st} {o} s = by (seq_ways s) where
  by : (seg.IsOver o × Seg olds n step.skip st o) ⊎ ((mid : State) × Seg olds n step.skip st (goes_on mid) × Seg olds (n + count step.skip) b mid o) → Seg olds n b st o
  by (inl (over, k)) = absurd (subst seg.IsOver (sym (skip_way k)) over)
  by (inr (mid, k, l)) = subst (λ n. Seg olds n b st o) (add-zero n) (subst (λ st. Seg olds (n + 0) b st o) (sym (goes_parts (skip_way k))) l)

module _ (m : sense.World) (q : Program Steps) (s : Shape) (texts : Texts) (contract : Contract) (setting : InSetting m q.facts s) (t0 : Table) (here : Here) (pt : Point)
    (olds : List State) (placed : Placed m q.facts s texts contract (one_further pt) here olds) (i : ℕ → Bool) (used f : Temporaries) (c : CoreWorld) (st : State)
    (stands : StandsFor q.facts s t0 i used c st) where
  abbrev p : Facts
  p = q.facts

  abbrev EndsAt : Step → ℕ → Ending → End → Type 0
  EndsAt b k o e = Ends p s t0 i pt.outs f (places b) k o e

  module _ (v : Value) (u : Tree) (k : Kind) (is : v ≡ number (sense.value m (leaves_of (st ∷ olds)) (closed u))) (fits : holds p.model k (sense.value m (leaves_of (st ∷ olds)) (closed u)) ≡ true) where
    abbrev z : ℤ
    z = sense.value m (leaves_of (st ∷ olds)) (closed u)

    abbrev word : Goal → Step
    word to = received m p s texts contract q.functions pt to u

    abbrev result : Goal → Ending
    result to = exec.result_to q no_deeper s.variables here to v c

    abbrev Received : Goal → ℕ → Type 0
    Received to n = BothWays (λ o. result to ≡ o) (EndsAt (word to) n) olds n (word to) st

    module _ (to : Goal) (less : (j : ℕ) → (not (goal_temp to j) && f j) ≡ true → used j ≡ true) where
      -- no temporary is set
      later : ((j : ℕ) → goal_temp to j ≡ false) → StandsFor p s t0 i f c st
      later none = used_less p s setting.globals setting.integers i used f c st (λ j h. less j (ap (λ b. not b && f j) (none j) ∙ h)) stands

    to_nothing : ((j : ℕ) → (not (goal_temp nowhere j) && f j) ≡ true → used j ≡ true) → (n : ℕ) → Received nowhere n
    to_nothing less n = one_end (EndsAt (word nowhere) n) (result nowhere) (goes_on st) seg.skips (λ x h. skip_way h) (later nowhere less (λ j. refl))

    to_temporary : (j : ℕ) → j < s.temporaries → s.temp_kind j ≡ k → ((l : ℕ) → (not (goal_temp (temporary j) l) && f l) ≡ true → used l ≡ true) → (n : ℕ) → Received (temporary j) n
    to_temporary j below same less n =
        one_end (EndsAt (word (temporary j)) n) (result (temporary j)) (goes_on (walk.put st (temp_slot (sizes p s) j) z)) seg.sets (λ x h. set_way h)
        (subst (StandsFor p s t0 i f (with_temp j v c)) (sym (put_same st (temp_slot (sizes p s) j) z))
        (temp_set p s setting.globals setting.integers i used c st stands f j v z below (λ l differ h. less l (but l differ h)) is (ap (λ k. holds p.model k z) same ∙ fits)))
      where
        but : (l : ℕ) → (j ≡ l → ⊥) → f l ≡ true → (not (j == l) && f l) ≡ true
        but l differ h = by (j == l) refl where
          by : (b : Bool) → (j == l) ≡ b → (not b && f l) ≡ true
          by true e = absurd (differ ((Decides-eqb j l).0 e))
          by false e = h

    -- ---- a place

    module _ (after : StandsFor p s t0 i f c st) where
      write_both : (x : code.Variable) (l : ℕ) (b : Bool) (w : World) (n : ℕ) → all_told m (st ∷ olds) (write_trees p s texts contract (one_further pt) x) ≡ b
          → StandsFor p s t0 i f (in_world c w) (with_variable (variable_number (sizes p s) x) z (pos 1) st)
          → BothWays (λ o. with_eval (wrote_act v (granted b l w)) (λ z w. run.goes_on (in_world c w)) ≡ o)
          (EndsAt (placed_in m p s texts contract q.functions (one_further pt) l (root.Variable x) u) n) olds n (placed_in m p s texts contract q.functions (one_further pt) l (root.Variable x) u) st
      write_both x l b w n told stands =
          let fs = write_trees p s texts contract (one_further pt) x in
          let y = variable_number (sizes p s) x in
          let n' = n + count (ask_all m fs (broken_place broken.assigns l)) in
          ask_both p s t0 i pt.outs f m olds st (broken_place broken.assigns l) fs n (failed broken.assigns l) (refl, refl) (set_variable m y u) (run.goes_on (in_world c w))
          (with_eval (wrote_act v (granted b l w)) (λ z w. run.goes_on (in_world c w))) b told
          (λ e. ap (λ b. with_eval (wrote_act v (granted b l w)) (λ z w. run.goes_on (in_world c w))) e)
          (λ e. ap (λ b. with_eval (wrote_act v (granted b l w)) (λ z w. run.goes_on (in_world c w))) e)
          (one_end (EndsAt (set_variable m y u) n') (run.goes_on (in_world c w)) (goes_on (with_variable y z (pos 1) st)) (variable_run m olds st y u n') (λ x h. variable_way m olds st y u n' x h) stands)

      module _ (type : CoreType) (l : ℕ) (path : Path) where
        abbrev written : Ending
        written = exec.put_to q no_deeper s.variables here type l path [] v c

        abbrev store_word : Root → Step
        store_word r = placed_in m p s texts contract q.functions (one_further pt) l r u

        abbrev Stored : ℕ → Type 0
        Stored n = BothWays (λ o. written ≡ o) (EndsAt (store_word path.root) n) olds n (store_word path.root) st

        local_way : (x : ℕ) (y : Variable) → path.root ≡ root.Variable (variables.Local x) → slice_get s.variables x ≡ Some y → kind_of y ≡ k → i x ≡ true → (n : ℕ) → Stored n
        local_way x y r found same scoped n =
            let plainly : plain_root s.variables path.root ≡ Some x = ap (plain_root s.variables) r ∙ ap (λ o. if is_plain_in o then Some x else None) found
            ∙ ap (λ b. if b then Some x else None) (of_function p s setting.globals setting.integers x y found).0 in
            let goes : written ≡ with_eval (wrote_act v (granted (may_change_local p here.granted x) l (with_local x (plain v true) c.world))) (λ z w. run.goes_on (in_world c w)) =
            ap (λ o. with_eval (wrote_act v (exec.put_by o p here l type path c.world [] v)) (λ z w. run.goes_on (in_world c w))) plainly in
            let stands : StandsFor p s t0 i f (in_world c (with_local x (plain v true) c.world)) (with_variable ((sizes p s).globals + x) z (pos 1) st) =
            subst (λ v. StandsFor p s t0 i f (in_world c (with_local x (plain v true) c.world)) (with_variable ((sizes p s).globals + x) z (pos 1) st)) (sym is)
            (local_set p s setting.globals setting.integers i f c st after x y found scoped true z (pos 1) refl (inr refl) (λ h. ap (λ k. holds p.model k z) same ∙ fits)) in
            subst (λ a. BothWays (λ o. written ≡ o) (EndsAt (store_word a) n) olds n (store_word a) st) (sym r)
            (subst (λ a. BothWays (λ o. a ≡ o) (EndsAt (store_word (root.Variable (variables.Local x))) n) olds n (store_word (root.Variable (variables.Local x))) st) (sym goes)
            (write_both (variables.Local x) l (may_change_local p here.granted x) (with_local x (plain v true) c.world) n (placed.locals x y found st) stands))

        global_way : (x : ℕ) (y : Variable) → path.root ≡ root.Variable (variables.Global x) → path.steps ≡ [] → slice_get p.globals x ≡ Some y → kind_of y ≡ k → (n : ℕ) → Stored n
        global_way x y r steps found same n =
            let w' = with_memory (stored_in (negsuc x) (pos 0) v c.world.memory) c.world in
            let there : address p c.world path [] ≡ labelled.pointer (negsuc x) (pos 0) =
            ap (λ ss. along [] ss (start_at p c.world path.root [])) steps ∙ ap (λ r. start_at p c.world r []) r
            ∙ ap (λ b. labelled.pointer b (pos 0)) (home_is p setting.globals x y found) in
            let goes : written ≡ with_eval (wrote_act v (granted (may_change_global here.granted x) l w')) (λ z w. run.goes_on (in_world c w)) =
            ap (λ r. with_eval (wrote_act v (exec.put_by (plain_root s.variables r) p here l type path c.world [] v)) (λ z w. run.goes_on (in_world c w))) r
            ∙ ap (λ a. with_eval (wrote_act v (effects.cell_written here l (cell_of type) c.world a v)) (λ z w. run.goes_on (in_world c w))) there in
            let stands : StandsFor p s t0 i f (in_world c w') (with_variable x z (pos 1) st) =
            subst (λ v. StandsFor p s t0 i f (in_world c (with_memory (stored_in (negsuc x) (pos 0) v c.world.memory) c.world)) (with_variable x z (pos 1) st)) (sym is)
            (global_set p s setting.globals setting.integers i f c st after x y found z (ap (λ k. holds p.model k z) same ∙ fits)) in
            subst (λ a. BothWays (λ o. written ≡ o) (EndsAt (store_word a) n) olds n (store_word a) st) (sym r)
            (subst (λ a. BothWays (λ o. a ≡ o) (EndsAt (store_word (root.Variable (variables.Global x))) n) olds n (store_word (root.Variable (variables.Global x))) st) (sym goes)
            (write_both (variables.Global x) l (may_change_global here.granted x) w' n (placed.globals x y found st) stands))

        either_way : LeadsTo p s i path k → (n : ℕ) → Stored n
        either_way (to_local x y r steps found same scoped) n = local_way x y r found same scoped n
        either_way (to_global x y r steps found same) n = global_way x y r steps found same n

        to_place : LeadsTo p s i path k → (n : ℕ) → Received (place [] type l path t.stop) n
        to_place way n = let both = either_way way n in record {
          forth = λ o h. let x = both.forth o h in (x.0, seg.goes_both seg.skips (behind x.1), x.2);
          back = λ e h. both.back e (skip_then h);
        }

      -- ---- a variable's first value

      to_variable : (x : ℕ) → Takes s i x k → (n : ℕ) → Received (variable x) n
      to_variable x (y, found, same, scoped) n =
          one_end (EndsAt (word (variable x)) n) (result (variable x)) (goes_on (with_variable ((sizes p s).globals + x) z (pos 1) st)) (variable_run m olds st ((sizes p s).globals + x) u n)
          (λ a h. variable_way m olds st ((sizes p s).globals + x) u n a h)
          (subst (λ w. StandsFor p s t0 i f (in_world c w) (with_variable ((sizes p s).globals + x) z (pos 1) st)) (sym made)
          (subst (λ v. StandsFor p s t0 i f (in_world c (with_local x (plain v true) c.world)) (with_variable ((sizes p s).globals + x) z (pos 1) st)) (sym is)
          (local_set p s setting.globals setting.integers i f c st after x y found scoped true z (pos 1) refl (inr refl) (λ h. ap (λ k. holds p.model k z) same ∙ fits))))
        where
          made : initial_act s.variables x v c.world ≡ with_local x (plain v true) c.world
          made = ap (λ o. effects.initial_by o x (c.world.locals x) v c.world) found ∙ when_true y.is_plain _ _ (of_function p s setting.globals setting.integers x y found).0

    pub received_both : (to : Goal) → Receives p s i k to → ((j : ℕ) → (not (goal_temp to j) && f j) ≡ true → used j ≡ true) → (n : ℕ) → Received to n
    received_both _ by_nothing less n = to_nothing less n
    received_both _ (by_temporary {n = j} below same) less n = to_temporary j below same less n
    received_both _ (by_place {type = type} {l = l} {path = path} way) less n = to_place (later (place [] type l path t.stop) less (λ j. refl)) type l path way n
    received_both _ (by_variable {x = x} takes) less n = to_variable (later (variable x) less (λ j. refl)) x takes n
