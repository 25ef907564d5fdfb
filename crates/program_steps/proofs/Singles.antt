-- Single statements and their words.
use Rattle.std.proofs.Common.{◌≡◌, ◌⊎◌, ℕ, zero, suc, ◌+◌, ◌<◌, ◌≤◌, ℤ, pos, negsuc, Bool, true, false, not, ◌&&◌, ◌||◌, if◌then◌else◌, List, [], ◌∷◌, ◌++◌, map, length, Option, Some, None, slice_get, refl, sym, ap, ◌∙◌, subst, inl, inr, add-zero, arith}
use Rattle.std.specs.Prelude.{◌==◌}
use Rattle.std.specs.List.{list_all}
use Rattle.std.proofs.lemmas.Bool.{false≢true, and_parts}
use Rattle.std.proofs.lemmas.Bool.Decides.{Decides-eqb}
use Rattle.wp_base.specs.declared.kinds.CellKind.{CellKind}
use Rattle.wp_base.specs.declared.kinds.CellKind.TheVariants as cell
use Rattle.wp_base.specs.declared.kinds.Kind.{Kind}
use Rattle.wp_base.specs.Blocks.{Table}
use Rattle.c_kinds.specs.Models.{holds}
use Rattle.typed_prog.specs.declared.types.CoreType.{CoreType}
use Rattle.typed_prog.specs.declared.operators.Path.{Path}
use Rattle.typed_prog.specs.declared.operators.Root.{Root}
use Rattle.typed_prog.specs.declared.operators.Root.TheVariants as root
use Rattle.typed_prog.specs.declared.operators.Variable as code
use Rattle.typed_prog.specs.declared.operators.Variable.TheVariants as variables
use Rattle.typed_prog.specs.Tree as t
use Rattle.qed_terms.specs.Meaning as sense
use Rattle.qed_terms.specs.Tree.{Tree, num}
use Rattle.c_runs.specs.TruthStates.{Value, number}
use Rattle.c_runs.specs.TruthStates as labelled
use Rattle.c_runs.specs.Program.{Variable, Contract, Facts, Function, Program, Claim}
use Rattle.c_runs.specs.States.{World, Here, plain, with_local, with_memory, stored_in, home_of}
use Rattle.c_runs.specs.Claims as broken
use Rattle.c_runs.specs.Claims.{Stop, failed, unless_true, in_body, may_change_local}
use Rattle.c_runs.specs.Effects as effects
use Rattle.c_runs.specs.Effects.{granted, wrote_act, initial_act}
use Rattle.c_runs.specs.Calls.{nought}
use Rattle.c_runs.specs.Objects.{plain_root, is_plain_in, cell_of, along, start as start_at, address}
use Rattle.c_runs.specs.CoreRun as run
use Rattle.c_runs.specs.CoreRun.{CoreWorld, Ending, stopped, with_eval, in_world, with_temp}
use Rattle.c_runs.specs.Checks as rte
use Rattle.c_runs.specs.Checks.{Check, checks_of, all_checks, in_operand}
use Rattle.c_runs.specs.Tree as core
use Rattle.c_runs.specs.Tree.{Steps}
use Rattle.c_runs.specs.CheckedRun as exec
use Rattle.c_runs.specs.CheckedRun.{place_test}
use Rattle.goal_segments.specs.RunSegments.{Asks, all_met, met, unmet}
use Rattle.goal_segments.specs.Segments as segs
use Rattle.goal_segments.specs.Segments.{is_single, no_deeper}
use Rattle.plain_states.specs.Slots.{State, at, value_slot, flag_slot, local_value, result_slot, temp_slot, with_variable}
use Rattle.plain_states.specs.Slots as slots
use Rattle.plain_states.specs.Scopes.{kind_of}
use Rattle.plain_states.proofs.Lists.{put_here}
use Rattle.plain_states.proofs.Entering.{when_true}
use Rattle.goal_segments.specs.Told.{Shape, sizes, LeadsTo, to_local, to_global, may_change_global, IsResult}
use Rattle.goal_segments.proofs.Told.{home_is}
use Rattle.value_terms.specs.Readings.{number_term}
use Rattle.value_terms.specs.Terms.{term_of}
use Rattle.value_terms.specs.Words.{Item, asked, known, with_check, checks_in, word_of, words}
use Rattle.value_terms.specs.Laws.{Says}
use Rattle.walk_steps.specs.State as walk
use Rattle.walk_steps.specs.Forms.{Number, Place}
use Rattle.walk_steps.specs.Step.{Step, places, count}
use Rattle.walk_steps.specs.Step as step
use Rattle.walk_steps.specs.Run.{End, goes_on, leaves, fails, Seg}
use Rattle.walk_steps.specs.Run as seg
use Rattle.walk_steps.proofs.Readings.{Asked, seq_ways, ask_ways, set_way, exit_way, sets_then}
use Rattle.acsl_encode.specs.Encode as encode
use Rattle.program_steps.specs.Leaves.{is_closed, closed, leaves_of, number as number_of}
use Rattle.program_steps.specs.Stops.{broken_place, IsStop}
use Rattle.program_steps.specs.Temporaries.{Temporaries, no_temporaries, out_at, uses, some_use, live}
use Rattle.program_steps.specs.Terms.{Texts, reading, body_reading, or_none, claim_tree}
use Rattle.program_steps.specs.Words as word
use Rattle.program_steps.specs.Words.{Point, Others, items_step, ask_all, set_variable, write_trees, variable_number, store_to}
use Rattle.program_steps.specs.Standing.{StandsFor, SeenAs, SeenBy, FailsAs, ReturnsIt, Ends}
use Rattle.program_steps.specs.Typed.{is_closed_item, ValueFits, ClaimFits, OtherFits, WordFits}
use Rattle.program_steps.specs.Placed.{InSetting, all_told, Placed, BothWays}
use Rattle.program_steps.proofs.Filling.{on_bool}
use Rattle.program_steps.proofs.Listing.{put_same, comes, fails_first, fails_second}
use Rattle.program_steps.proofs.Standing.{of_function}
use Rattle.program_steps.proofs.Setting.{used_less, slot_set, temp_set, local_set, global_set}
use Rattle.program_steps.proofs.Seeing.{seen_as}
use Rattle.program_steps.proofs.Dropping.{Drops, all_dropped}
use Rattle.program_steps.proofs.Asking.{Told, closed_told, closed_value, behind}
use Rattle.program_steps.proofs.Ends.{ends_more, after_checks, ask_both}
use Rattle.program_steps.proofs.Valued as valued
use Rattle.program_steps.proofs.Valued.{ValueIs, says, checks, value_is}

-- ---- runs with one end

pub one_end : {olds : List State} {n : ℕ} {b : Step} {st : State} (ends : Ending → End → Type 0) (behind : Ending) (e : End) → Seg olds n b st e
    → ((x : End) → Seg olds n b st x → e ≡ x) → ends behind e → BothWays (λ o. behind ≡ o) ends olds n b st
one_end ends behind e s only h = record {
  forth = λ o same. (e, s, subst (λ o. ends o e) same h);
  back = λ x k. (behind, refl, subst (ends behind) (only x k) h);
}

goes_parts : {a b : State} → goes_on a ≡ goes_on b → a ≡ b
goes_parts e = cc

-- a slot, and what comes behind
pub set_then : {olds : List State} {n i : ℕ} {u : Number} {b : Step} {st : State} {o : End} → Seg olds n b (walk.put st i (u.told (st ∷ olds))) o
    → Seg olds n (step.seq (step.set i u) b) st o
set_then k = seg.goes_both seg.sets (behind k)

module _ (m : sense.World) (olds : List State) (st : State) where
  abbrev z_of : Tree → ℤ
  z_of t = sense.value m (leaves_of (st ∷ olds)) (closed t)

  -- a variable gets the term's value, and is set
  two_puts : (x : ℕ) (t : Tree) → walk.put (walk.put st (value_slot x) (z_of t)) (flag_slot x) (pos 1) ≡ with_variable x (z_of t) (pos 1) st
  two_puts x t = put_same (walk.put st (value_slot x) (z_of t)) (flag_slot x) (pos 1) ∙ ap (λ l. slots.put l (flag_slot x) (pos 1)) (put_same st (value_slot x) (z_of t))

  pub variable_run : (x : ℕ) (t : Tree) (n : ℕ) → Seg olds n (set_variable m x t) st (goes_on (with_variable x (z_of t) (pos 1) st))
  variable_run x t n = subst (λ a. Seg olds n (set_variable m x t) st (goes_on a)) (two_puts x t) (set_then seg.sets)

  pub variable_way : (x : ℕ) (t : Tree) (n : ℕ) (e : End) → Seg olds n (set_variable m x t) st e → goes_on (with_variable x (z_of t) (pos 1) st) ≡ e
  variable_way x t n e k = ap goes_on (sym (two_puts x t)) ∙ set_way (sets_then k)

-- ---- checks of the one operand

says_first : (so : Tree → Bool) (one two : Check → Bool) (is : List Item) → ((c : Check) → two (in_operand 0 c) ≡ one c) → Says so one is
    → Says so two (map (with_check (in_operand 0)) is ++ [])
says_first so one two [] same h = tt
says_first so one two (asked c f ∷ is) same h = (h.0 ∙ sym (same c), λ e. says_first so one two is same (h.1 (sym (same c) ∙ e)))
says_first so one two (known f ∷ is) same h = (h.0, says_first so one two is same h.1)

closed_first : (is : List Item) → list_all is_closed_item is ≡ true → list_all is_closed_item (map (with_check (in_operand 0)) is ++ []) ≡ true
closed_first [] h = refl
closed_first (asked c f ∷ is) h = let both = and_parts (is_closed [] f) (list_all is_closed_item is) h in ap (λ b. b && list_all is_closed_item (map (with_check (in_operand 0)) is ++ [])) both.0 ∙ closed_first is both.1
closed_first (known f ∷ is) h = let both = and_parts (is_closed [] f) (list_all is_closed_item is) h in ap (λ b. b && list_all is_closed_item (map (with_check (in_operand 0)) is ++ [])) both.0 ∙ closed_first is both.1

checks_first : (is : List Item) → checks_in (map (with_check (in_operand 0)) is ++ []) ≡ map (in_operand 0) (checks_in is) ++ []
checks_first [] = refl
checks_first (asked c f ∷ is) = ap (λ cs. in_operand 0 c ∷ cs) (checks_first is)
checks_first (known f ∷ is) = checks_first is

asks_first : (one two : Check → Bool) (cs : List Check) → ((c : Check) → two (in_operand 0 c) ≡ one c) → Asks two (map (in_operand 0) cs ++ []) None → Asks one cs None
asks_first one two [] same h = all_met
asks_first one two (c ∷ cs) same h = by h refl (asks_first one two cs same) where
  by : {o : Option Stop} → Asks two (in_operand 0 c ∷ (map (in_operand 0) cs ++ [])) o → o ≡ None → (Asks two (map (in_operand 0) cs ++ []) None → Asks one cs None)
      → Asks one (c ∷ cs) None
  by (met t k) e rest = met (sym (same c) ∙ t) (rest (subst (Asks two (map (in_operand 0) cs ++ [])) e k))
  by (unmet t) e rest = absurd (no e) where
    no : {X : Type 0} {x : X} → Some x ≡ None → ⊥
    no e = cc

module _ (m : sense.World) (q : Program Steps) (s : Shape) (texts : Texts) (contract : Contract) (others : Others) (asked : OtherFits) (setting : InSetting m q.facts s) where
  abbrev p : Facts
  p = q.facts

  abbrev pub word_at : Point → core.Step → Temporaries → Step
  word_at pt a f = word.step m p s texts contract others pt a f

  -- ---- segment runs of single statements

  pub single_is : (here : Here) (a : core.Step) (c : CoreWorld) (o : Ending) → is_single a ≡ true → segs.Seg q s.variables here a c o
      → exec.exec q no_deeper s.variables here a c ≡ o
  single_is here a c o is (segs.single x h) = h
  single_is here a c o is (segs.first_arm x y z) = absurd (false≢true is)
  single_is here a c o is (segs.other_arm x y z) = absurd (false≢true is)
  single_is here a c o is (segs.test_stops x) = absurd (false≢true is)
  single_is here a c o is (segs.blocks x y) = absurd (false≢true is)
  single_is here a c o is (segs.scopes x y) = absurd (false≢true is)
  single_is here a c o is (segs.set_outside x) = absurd (false≢true is)
  single_is here a c o is (segs.entry_fails x y) = absurd (false≢true is)
  single_is here a c o is (segs.pass_ends x y z u v w) = absurd (false≢true is)
  single_is here a c o is (segs.again_fails x y z u v w) = absurd (false≢true is)
  single_is here a c o is (segs.argument_stops x) = absurd (false≢true is)
  single_is here a c o is (segs.not_required x y z) = absurd (false≢true is)
  single_is here a c o is (segs.not_lower x y z u) = absurd (false≢true is)
  single_is here a c o is (segs.call_outside x y z u v) = absurd (false≢true is)
  single_is here a c o is (segs.returns_from x y z u v w k) = absurd (false≢true is)

  pub of_single : (here : Here) (a : core.Step) (c : CoreWorld) → is_single a ≡ true → {ends : Ending → End → Type 0} {olds : List State} {n : ℕ} {b : Step} {st : State}
      → BothWays (λ o. exec.exec q no_deeper s.variables here a c ≡ o) ends olds n b st → BothWays (segs.Seg q s.variables here a c) ends olds n b st
  of_single here a c is both = record {
    forth = λ o h. both.forth o (single_is here a c o is h);
    back = λ e k. let x = both.back e k in (x.0, segs.single is x.1, x.2);
  }

  module _ (t0 : Table) (here : Here) (pt : Point) (olds : List State) (placed : Placed m p s texts contract pt here olds) (i : ℕ → Bool) (f : Temporaries) (n : ℕ) (c : CoreWorld) (st : State) where
    abbrev EndsAt : Step → ℕ → Ending → End → Type 0
    EndsAt b k o e = Ends p s t0 i pt.outs f (places b) k o e

    abbrev total_of : t.Value → Value
    total_of e = exec.total_in q no_deeper s.variables c e

    abbrev term_of_it : t.Value → Tree
    term_of_it e = number_term (term_of p s.variables (reading p s) e)

    -- ---- a value behind its checks

    behind_value : (l : Temporaries) (e : t.Value) (k : Kind) → StandsFor p s t0 i l c st → ValueFits p s l e k → (b : Step) (behind : Ending)
        → (ValueIs m p (st ∷ olds) (term_of_it e) k (total_of e) → (n' : ℕ) → BothWays (λ o. behind ≡ o) (EndsAt b n') olds n' b st)
        → (cs : List Check) → cs ≡ checks_of s.variables e
        → BothWays (λ o. exec.asked_of q no_deeper s.variables cs c e behind ≡ o) (EndsAt (step.seq (items_step m (word_of p s.variables (reading p s) e)) b) n) olds n
        (step.seq (items_step m (word_of p s.variables (reading p s) e)) b) st
    behind_value l e k stands fits b behind tail cs same =
        let is = word_of p s.variables (reading p s) e in
        after_checks p s t0 i pt.outs f m olds st (valued.so m p s setting i l c st stands olds e k fits) is fits.items
        (says m p s setting i l c st stands olds e k fits) n b cs (checks m p s setting i l c st stands olds e k fits ∙ sym same) behind
        (λ asks. tail (value_is m p s setting i l c st stands olds e k fits (subst (λ cs. Asks (valued.so m p s setting i l c st stands olds e k fits) cs None) same asks)) (n + count (items_step m is)))

    -- ---- a temporary

    less_but : (j n' : ℕ) (e : t.Value) → (n' ≡ j → ⊥) → f j ≡ true → (uses e j || (not (n' == j) && f j)) ≡ true
    less_but j n' e differ h = by (uses e j) (n' == j) refl where
      by : (a b : Bool) → (n' == j) ≡ b → (a || (not b && f j)) ≡ true
      by true b k = refl
      by false true k = absurd (differ ((Decides-eqb n' j).0 k))
      by false false k = h

    set_both : (cs : List Check) (k : ℕ) (e : t.Value) → WordFits m p s texts asked i pt.outs f (core.set cs k e) → StandsFor p s t0 i (live (core.set cs k e) pt.outs f) c st
        → BothWays (λ o. exec.exec q no_deeper s.variables here (core.set cs k e) c ≡ o) (EndsAt (word_at pt (core.set cs k e) f) n) olds n (word_at pt (core.set cs k e) f) st
    set_both cs k e fits stands = behind_value (live (core.set cs k e) pt.outs f) e (s.temp_kind k) stands fits.1 b (run.goes_on (with_temp k (total_of e) c)) tail cs fits.2 where
      b : Step
      b = step.set (temp_slot (sizes p s) k) (number_of m (term_of_it e))

      z : ℤ
      z = sense.value m (leaves_of (st ∷ olds)) (closed (term_of_it e))

      tail : ValueIs m p (st ∷ olds) (term_of_it e) (s.temp_kind k) (total_of e) → (n' : ℕ)
          → BothWays (λ o. run.goes_on (with_temp k (total_of e) c) ≡ o) (EndsAt b n') olds n' b st
      tail v n' = one_end (EndsAt b n') (run.goes_on (with_temp k (total_of e) c)) (goes_on (walk.put st (temp_slot (sizes p s) k) z)) seg.sets (λ x h. set_way h)
          (subst (StandsFor p s t0 i f (with_temp k (total_of e) c)) (sym (put_same st (temp_slot (sizes p s) k) z))
          (temp_set p s setting.globals setting.integers i (live (core.set cs k e) pt.outs f) c st stands f k (total_of e) z fits.0 (λ j differ h. less_but j k e differ h) v.is v.fits))

    -- ---- a write, behind what is asked for it

    write_both : (x : code.Variable) (l : ℕ) (b : Bool) (w : World) (v : Value) (t : Tree) (n' : ℕ)
        → all_told m (st ∷ olds) (write_trees p s texts contract pt x) ≡ b
        → StandsFor p s t0 i f (in_world c w) (with_variable (variable_number (sizes p s) x) (z_of m olds st t) (pos 1) st)
        → BothWays (λ o. with_eval (wrote_act v (granted b l w)) (λ z w. run.goes_on (in_world c w)) ≡ o)
        (EndsAt (store_to m p s texts contract others pt l (root.Variable x) t) n') olds n' (store_to m p s texts contract others pt l (root.Variable x) t) st
    write_both x l b w v t n' told after =
        let fs = write_trees p s texts contract pt x in
        let k = variable_number (sizes p s) x in
        let n'' = n' + count (ask_all m fs (broken_place broken.assigns l)) in
        ask_both p s t0 i pt.outs f m olds st (broken_place broken.assigns l) fs n' (failed broken.assigns l) (refl, refl) (set_variable m k t) (run.goes_on (in_world c w))
        (with_eval (wrote_act v (granted b l w)) (λ z w. run.goes_on (in_world c w))) b told
        (λ e. ap (λ b. with_eval (wrote_act v (granted b l w)) (λ z w. run.goes_on (in_world c w))) e)
        (λ e. ap (λ b. with_eval (wrote_act v (granted b l w)) (λ z w. run.goes_on (in_world c w))) e)
        (one_end (EndsAt (set_variable m k t) n'') (run.goes_on (in_world c w)) (goes_on (with_variable k (z_of m olds st t) (pos 1) st)) (variable_run m olds st k t n'')
        (λ x h. variable_way m olds st k t n'' x h) after)

    -- ---- assignments

    less_store : (l : Temporaries) (es : t.Values) → (j : ℕ) → f j ≡ true → (some_use es j || f j) ≡ true
    less_store l es j h = by (some_use es j) where
      by : (a : Bool) → (a || f j) ≡ true
      by true = refl
      by false = h

    module _ (type : CoreType) (l : ℕ) (path : Path) (e : t.Value) (k : Kind) (way : LeadsTo p s i path k) where
      abbrev es : t.Values
      es = t.more e t.stop

      abbrev tests : Check → Bool
      tests = place_test p s.variables c.temps c.world type path [] es

      abbrev v : Value
      v = total_of e

      abbrev it : Tree
      it = term_of_it e

      abbrev written : Ending
      written = exec.put_to q no_deeper s.variables here type l path [] v c

      abbrev store_word : Step
      store_word = store_to m p s texts contract others pt l path.root it

      local_way : (x : ℕ) (y : Variable) → path.root ≡ root.Variable (variables.Local x) → slice_get s.variables x ≡ Some y → kind_of y ≡ k → i x ≡ true
          → (after : StandsFor p s t0 i f c st) → ValueIs m p (st ∷ olds) it k v → (n' : ℕ) → BothWays (λ o. written ≡ o) (EndsAt store_word n') olds n' store_word st
      local_way x y r found kind scoped after value n' =
          let plainly : plain_root s.variables path.root ≡ Some x = ap (plain_root s.variables) r ∙ ap (λ o. if is_plain_in o then Some x else None) found
          ∙ ap (λ b. if b then Some x else None) (of_function p s setting.globals setting.integers x y found).0 in
          let same : written ≡ with_eval (wrote_act v (granted (may_change_local p here.granted x) l (with_local x (plain v true) c.world))) (λ z w. run.goes_on (in_world c w)) =
          ap (λ o. with_eval (wrote_act v (exec.put_by o p here l type path c.world [] v)) (λ z w. run.goes_on (in_world c w))) plainly in
          let stands : StandsFor p s t0 i f (in_world c (with_local x (plain v true) c.world)) (with_variable ((sizes p s).globals + x) (z_of m olds st it) (pos 1) st) =
          subst (λ v. StandsFor p s t0 i f (in_world c (with_local x (plain v true) c.world)) (with_variable ((sizes p s).globals + x) (z_of m olds st it) (pos 1) st)) (sym value.is)
          (local_set p s setting.globals setting.integers i f c st after x y found scoped true (z_of m olds st it) (pos 1) refl (inr refl)
          (λ h. ap (λ k. holds p.model k (z_of m olds st it)) kind ∙ value.fits)) in
          subst (λ a. BothWays (λ o. written ≡ o) (EndsAt (store_to m p s texts contract others pt l a it) n') olds n' (store_to m p s texts contract others pt l a it) st) (sym r)
          (subst (λ a. BothWays (λ o. a ≡ o) (EndsAt (store_to m p s texts contract others pt l (root.Variable (variables.Local x)) it) n') olds n'
          (store_to m p s texts contract others pt l (root.Variable (variables.Local x)) it) st) (sym same)
          (write_both (variables.Local x) l (may_change_local p here.granted x) (with_local x (plain v true) c.world) v it n' (placed.locals x y found st) stands))

      global_way : (x : ℕ) (y : Variable) → path.root ≡ root.Variable (variables.Global x) → path.steps ≡ [] → slice_get p.globals x ≡ Some y → kind_of y ≡ k
          → (after : StandsFor p s t0 i f c st) → ValueIs m p (st ∷ olds) it k v → (n' : ℕ) → BothWays (λ o. written ≡ o) (EndsAt store_word n') olds n' store_word st
      global_way x y r steps found kind after value n' =
          let w' = with_memory (stored_in (negsuc x) (pos 0) v c.world.memory) c.world in
          let there : address p c.world path [] ≡ labelled.pointer (negsuc x) (pos 0) =
          ap (λ ss. along [] ss (start_at p c.world path.root [])) steps ∙ ap (λ r. start_at p c.world r []) r
          ∙ ap (λ b. labelled.pointer b (pos 0)) (home_is p setting.globals x y found) in
          let same : written ≡ with_eval (wrote_act v (granted (may_change_global here.granted x) l w')) (λ z w. run.goes_on (in_world c w)) =
          ap (λ r. with_eval (wrote_act v (exec.put_by (plain_root s.variables r) p here l type path c.world [] v)) (λ z w. run.goes_on (in_world c w))) r
          ∙ ap (λ a. with_eval (wrote_act v (effects.cell_written here l (cell_of type) c.world a v)) (λ z w. run.goes_on (in_world c w))) there in
          let stands : StandsFor p s t0 i f (in_world c w') (with_variable x (z_of m olds st it) (pos 1) st) =
          subst (λ v. StandsFor p s t0 i f (in_world c (with_memory (stored_in (negsuc x) (pos 0) v c.world.memory) c.world)) (with_variable x (z_of m olds st it) (pos 1) st)) (sym value.is)
          (global_set p s setting.globals setting.integers i f c st after x y found (z_of m olds st it) (ap (λ k. holds p.model k (z_of m olds st it)) kind ∙ value.fits)) in
          subst (λ a. BothWays (λ o. written ≡ o) (EndsAt (store_to m p s texts contract others pt l a it) n') olds n' (store_to m p s texts contract others pt l a it) st) (sym r)
          (subst (λ a. BothWays (λ o. a ≡ o) (EndsAt (store_to m p s texts contract others pt l (root.Variable (variables.Global x)) it) n') olds n'
          (store_to m p s texts contract others pt l (root.Variable (variables.Global x)) it) st) (sym same)
          (write_both (variables.Global x) l (may_change_global here.granted x) w' v it n' (placed.globals x y found st) stands))

      either_way : LeadsTo p s i path k → (after : StandsFor p s t0 i f c st) → ValueIs m p (st ∷ olds) it k v → (n' : ℕ)
          → BothWays (λ o. written ≡ o) (EndsAt store_word n') olds n' store_word st
      either_way (to_local x y r steps found kind scoped) after value n' = local_way x y r found kind scoped after value n'
      either_way (to_global x y r steps found kind) after value n' = global_way x y r steps found kind after value n'

    store_both : (cs : List Check) (type : CoreType) (l : ℕ) (path : Path) (e : t.Value) → WordFits m p s texts asked i pt.outs f (core.store cs type l path (t.more e t.stop))
        → StandsFor p s t0 i (live (core.store cs type l path (t.more e t.stop)) pt.outs f) c st
        → BothWays (λ o. exec.exec q no_deeper s.variables here (core.store cs type l path (t.more e t.stop)) c ≡ o)
        (EndsAt (word_at pt (core.store cs type l path (t.more e t.stop)) f) n) olds n (word_at pt (core.store cs type l path (t.more e t.stop)) f) st
    store_both cs type l path e (k, way, fits, same) stands =
        let u = live (core.store cs type l path (t.more e t.stop)) pt.outs f in
        let is = word_of p s.variables (reading p s) e in
        let own = valued.so m p s setting i u c st stands olds e k fits in
        let later = used_less p s setting.globals setting.integers i u f c st (λ j h. less_store u (t.more e t.stop) j h) stands in
        after_checks p s t0 i pt.outs f m olds st (tests type l path e k way) (words p s.variables (reading p s) (t.more e t.stop)) (closed_first is fits.items)
        (says_first (Told m olds st own) own (tests type l path e k way) is (λ c. refl) (says m p s setting i u c st stands olds e k fits)) n (store_word type l path e k way) cs
        (checks_first is ∙ ap (λ cs. map (in_operand 0) cs ++ []) (checks m p s setting i u c st stands olds e k fits) ∙ sym same) (written type l path e k way)
        (λ asks. either_way type l path e k way way later
        (value_is m p s setting i u c st stands olds e k fits (asks_first own (tests type l path e k way) (checks_of s.variables e) (λ c. refl)
        (subst (λ cs. Asks (tests type l path e k way) cs None) same asks)))
        (n + count (items_step m (words p s.variables (reading p s) (t.more e t.stop)))))

    -- ---- a variable's first value

    start_both : (cs : List Check) (x : ℕ) (e : t.Value) → WordFits m p s texts asked i pt.outs f (core.start cs x e) → StandsFor p s t0 i (live (core.start cs x e) pt.outs f) c st
        → BothWays (λ o. exec.exec q no_deeper s.variables here (core.start cs x e) c ≡ o) (EndsAt (word_at pt (core.start cs x e) f) n) olds n (word_at pt (core.start cs x e) f) st
    start_both cs x e (k, (y, found, kind, scoped), fits, same) stands =
        behind_value (live (core.start cs x e) pt.outs f) e k stands fits b (run.goes_on (in_world c (initial_act s.variables x (total_of e) c.world))) tail cs same
      where
        b : Step
        b = set_variable m ((sizes p s).globals + x) (term_of_it e)

        later : StandsFor p s t0 i f c st
        later = used_less p s setting.globals setting.integers i (live (core.start cs x e) pt.outs f) f c st (λ j h. by (uses e j) j h) stands where
          by : (a : Bool) (j : ℕ) → f j ≡ true → (a || f j) ≡ true
          by true j h = refl
          by false j h = h

        made : initial_act s.variables x (total_of e) c.world ≡ with_local x (plain (total_of e) true) c.world
        made = ap (λ o. effects.initial_by o x (c.world.locals x) (total_of e) c.world) found
            ∙ when_true y.is_plain _ _ (of_function p s setting.globals setting.integers x y found).0

        tail : ValueIs m p (st ∷ olds) (term_of_it e) k (total_of e) → (n' : ℕ)
            → BothWays (λ o. run.goes_on (in_world c (initial_act s.variables x (total_of e) c.world)) ≡ o) (EndsAt b n') olds n' b st
        tail v n' = one_end (EndsAt b n') (run.goes_on (in_world c (initial_act s.variables x (total_of e) c.world)))
            (goes_on (with_variable ((sizes p s).globals + x) (z_of m olds st (term_of_it e)) (pos 1) st)) (variable_run m olds st ((sizes p s).globals + x) (term_of_it e) n')
            (λ a h. variable_way m olds st ((sizes p s).globals + x) (term_of_it e) n' a h)
            (subst (λ w. StandsFor p s t0 i f (in_world c w) (with_variable ((sizes p s).globals + x) (z_of m olds st (term_of_it e)) (pos 1) st)) (sym made)
            (subst (λ v. StandsFor p s t0 i f (in_world c (with_local x (plain v true) c.world)) (with_variable ((sizes p s).globals + x) (z_of m olds st (term_of_it e)) (pos 1) st)) (sym v.is)
            (local_set p s setting.globals setting.integers i f c st later x y found scoped true (z_of m olds st (term_of_it e)) (pos 1) refl (inr refl)
            (λ h. ap (λ k. holds p.model k (z_of m olds st (term_of_it e))) kind ∙ v.fits))))

    -- ---- returns and exits

    none_less : (g : Temporaries) (j : ℕ) → no_temporaries j ≡ true → g j ≡ true
    none_less g j h = absurd (false≢true h)

    give_nothing : (cs : List Check) → s.result ≡ None → StandsFor p s t0 i (live (core.give cs None) pt.outs f) c st
        → BothWays (λ o. exec.exec q no_deeper s.variables here (core.give cs None) c ≡ o) (EndsAt (word_at pt (core.give cs None) f) n) olds n (word_at pt (core.give cs None) f) st
    give_nothing cs none stands = one_end (EndsAt (word_at pt (core.give cs None) f) n) (run.returns nought c) (leaves (length pt.outs) st) seg.exits (λ x h. exit_way h) (
      refl,
      record {
        stands = used_less p s setting.globals setting.integers i (live (core.give cs None) pt.outs f) no_temporaries c st (none_less (live (core.give cs None) pt.outs f)) stands;
        result = subst (λ o. IsResult p o nought) (sym none) refl;
        slot = λ k e. absurd (no (sym none ∙ e));
      },
    )
      where
        no : {X : Type 0} {x : X} → None ≡ Some x → ⊥
        no e = cc

    give_value : (cs : List Check) (e : t.Value) → WordFits m p s texts asked i pt.outs f (core.give cs (Some e)) → StandsFor p s t0 i (live (core.give cs (Some e)) pt.outs f) c st
        → BothWays (λ o. exec.exec q no_deeper s.variables here (core.give cs (Some e)) c ≡ o) (EndsAt (word_at pt (core.give cs (Some e)) f) n) olds n
        (word_at pt (core.give cs (Some e)) f) st
    give_value cs e (k, result, fits, same) stands = behind_value (live (core.give cs (Some e)) pt.outs f) e k stands fits b (run.returns (total_of e) c) tail cs same where
      gone : Step
      gone = word.all_dropped m p s texts contract others

      b : Step
      b = step.seq (step.set (result_slot (sizes p s)) (number_of m (term_of_it e))) (step.seq gone (step.exit (length pt.outs)))

      z : ℤ
      z = sense.value m (leaves_of (st ∷ olds)) (closed (term_of_it e))

      given : State
      given = walk.put st (result_slot (sizes p s)) z

      same_put : given ≡ slots.put st (result_slot (sizes p s)) z
      same_put = put_same st (result_slot (sizes p s)) z

      later : StandsFor p s t0 i no_temporaries c given
      later = subst (StandsFor p s t0 i no_temporaries c) (sym same_put)
          (slot_set p s setting.globals setting.integers i (live (core.give cs (Some e)) pt.outs f) c st stands no_temporaries (result_slot (sizes p s)) z (omega arith)
          (none_less (live (core.give cs (Some e)) pt.outs f)) (λ j h. absurd (false≢true h)))

      r : Drops m q s texts contract others setting t0 i no_temporaries c olds gone given
      r = all_dropped m q s texts contract others setting t0 i c olds given later

      there : at r.state (result_slot (sizes p s)) ≡ z
      there = r.result ∙ ap (λ a. at a (result_slot (sizes p s))) same_put ∙ put_here (pos 0) st (result_slot (sizes p s)) z (let l = stands.size in omega (arith, l))

      returned : (v : ValueIs m p (st ∷ olds) (term_of_it e) k (total_of e)) → ReturnsIt p s t0 i (total_of e) c r.state
      returned v = record {
        stands = r.stands;
        result = subst (λ o. IsResult p o (total_of e)) (sym result) (z, v.is, v.fits);
        slot = λ k e. v.is ∙ ap number (sym there);
      }

      only : (n' : ℕ) (x : End) → Seg olds n' (step.seq gone (step.exit (length pt.outs))) given x → leaves (length pt.outs) r.state ≡ x
      only n' x h = by (seq_ways h) where
        by : (seg.IsOver x × Seg olds n' gone given x) ⊎ ((mid : State) × Seg olds n' gone given (goes_on mid) × Seg olds (n' + count gone) (step.exit (length pt.outs)) mid x)
            → leaves (length pt.outs) r.state ≡ x
        by (inl (over, k)) = absurd (subst seg.IsOver (sym (r.only n' x k)) over)
        by (inr (mid, k, l)) = exit_way (subst (λ y. Seg olds (n' + count gone) (step.exit (length pt.outs)) y x) (sym (goes_parts (r.only n' (goes_on mid) k))) l)

      tail : ValueIs m p (st ∷ olds) (term_of_it e) k (total_of e) → (n' : ℕ) → BothWays (λ o. run.returns (total_of e) c ≡ o) (EndsAt b n') olds n' b st
      tail v n' = one_end (EndsAt b n') (run.returns (total_of e) c) (leaves (length pt.outs) r.state) (set_then (seg.goes_both (r.runs n') seg.exits))
          (λ x h. only n' x (sets_then h)) (refl, returned v)

    exit_both : (k : ℕ) → k < length pt.outs → StandsFor p s t0 i (live (core.exit k) pt.outs f) c st
        → BothWays (λ o. exec.exec q no_deeper s.variables here (core.exit k) c ≡ o) (EndsAt (word_at pt (core.exit k) f) n) olds n (word_at pt (core.exit k) f) st
    exit_both k below stands = one_end (EndsAt (word_at pt (core.exit k) f) n) (run.exits k c) (leaves k st) seg.exits (λ x h. exit_way h) (refl, below, stands)

    -- ---- assertions

    claim_both : (a : Claim) → WordFits m p s texts asked i pt.outs f (core.claim a) → StandsFor p s t0 i f c st
        → BothWays (λ o. exec.exec q no_deeper s.variables here (core.claim a) c ≡ o) (EndsAt (word_at pt (core.claim a) f) n) olds n (word_at pt (core.claim a) f) st
    claim_both a fits stands =
        let x = fits 0 (suc pt.entry) (suc pt.loop_entry) in
        let by_slots : SeenBy p s (in_body p here c.world) (st ∷ olds) 0 (suc pt.entry) (suc pt.loop_entry) = record {
          here_is = seen_as p s setting.globals setting.integers i f c st stands;
          pre_is = placed.entry;
          post_is = seen_as p s setting.globals setting.integers i f c st stands;
          loop_entry_is = placed.loop_entry;
          model = refl;
          structs = λ n. refl;
        } in
        let told : sense.truth m (leaves_of (st ∷ olds)) (closed (or_none p s texts (encode.formula_of (body_reading p s texts 0 (suc pt.entry) (suc pt.loop_entry) a.what) a.what)))
        ≡ broken.holds p (in_body p here c.world) a.what =
        ap (λ o. sense.truth m (leaves_of (st ∷ olds)) (closed (or_none p s texts o))) x.is ∙ closed_told m (st ∷ olds) x.formula x.closed ∙ x.means (in_body p here c.world) (st ∷ olds) by_slots in
        claim_by (broken.holds p (in_body p here c.world) a.what) told
      where
        b : Step
        b = word_at pt (core.claim a) f

        g : Tree
        g = claim_tree p s texts (body_reading p s texts 0 (suc pt.entry) (suc pt.loop_entry)) a.what

        claim_by : (t : Bool) → sense.truth m (leaves_of (st ∷ olds)) (closed g) ≡ t → BothWays (λ o. run.unless (unless_true t broken.assert a.line) (run.goes_on c) ≡ o) (EndsAt b n) olds n b st
        claim_by true e = one_end (EndsAt b n) (run.goes_on c) (goes_on st) (seg.asks (e, tt)) (λ x h. by x (ask_ways h)) stands where
          by : (x : End) → Asked olds n (word.check m g (broken_place broken.assert a.line) ∷ []) st x → goes_on st ≡ x
          by x (inl h) = h.1
          by x (inr (j, inl h, same)) = absurd (false≢true (sym h.0 ∙ e))
          by x (inr (j, inr h, same)) = absurd h.1
        claim_by false e = one_end (EndsAt b n) (stopped (failed broken.assert a.line)) (fails n) (seg.ask_fails (inl (e, refl))) (λ x h. by x (ask_ways h))
            (broken_place broken.assert a.line, inl (refl, refl), (refl, refl)) where
              by : (x : End) → Asked olds n (word.check m g (broken_place broken.assert a.line) ∷ []) st x → fails n ≡ x
              by x (inl h) = absurd (false≢true (sym e ∙ h.0.0))
              by x (inr (j, inl h, same)) = ap fails h.1 ∙ same
              by x (inr (j, inr h, same)) = absurd h.1

    -- ---- all of them

    pub single_both : (a : core.Step) → is_single a ≡ true → WordFits m p s texts asked i pt.outs f a → StandsFor p s t0 i (live a pt.outs f) c st
        → BothWays (segs.Seg q s.variables here a c) (EndsAt (word_at pt a f) n) olds n (word_at pt a f) st
    single_both (core.set cs k e) is fits stands = of_single here (core.set cs k e) c refl (set_both cs k e fits stands)
    single_both (core.store cs type l path t.stop) is fits stands = absurd fits
    single_both (core.store cs type l path (t.more e t.stop)) is fits stands = of_single here (core.store cs type l path (t.more e t.stop)) c refl (store_both cs type l path e fits stands)
    single_both (core.store cs type l path (t.more e (t.more x rest))) is fits stands = absurd fits
    single_both (core.start cs x e) is fits stands = of_single here (core.start cs x e) c refl (start_both cs x e fits stands)
    single_both (core.call cs to k l es) is fits stands = absurd (false≢true is)
    single_both (core.branch cs e x y) is fits stands = absurd (false≢true is)
    single_both (core.repeat l ss) is fits stands = absurd (false≢true is)
    single_both (core.around ss) is fits stands = absurd (false≢true is)
    single_both (core.exit k) is fits stands = of_single here (core.exit k) c refl (exit_both k fits stands)
    single_both (core.give cs None) is fits stands = of_single here (core.give cs None) c refl (give_nothing cs fits stands)
    single_both (core.give cs (Some e)) is fits stands = of_single here (core.give cs (Some e)) c refl (give_value cs e fits stands)
    single_both (core.claim a) is fits stands = of_single here (core.claim a) c refl (claim_both a fits stands)
    single_both (core.scope ys ss) is fits stands = absurd (false≢true is)
