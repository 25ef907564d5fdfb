-- Behind what is asked for a call: the worlds in which its caller may go on are those that the rest of its word comes to.
use Rattle.std.proofs.Common.{◌≡◌, ◌⊎◌, ℕ, zero, suc, ◌+◌, ℤ, pos, Bool, true, false, not, ◌&&◌, ◌||◌, ◌≤◌, List, [], ◌∷◌, map, length, Option, Some, None, slice_get, refl, sym, ap, ◌∙◌, subst, inl, inr, arith}
use Rattle.std.proofs.lemmas.Bool.{false≢true}
use Rattle.wp_base.specs.declared.kinds.CellKind.{CellKind}
use Rattle.wp_base.specs.Blocks.{is_cell}
use Rattle.typed_prog.specs.declared.operators.Variable as code
use Rattle.typed_prog.specs.declared.operators.Variable.TheVariants as variables
use Rattle.acsl_trees.specs.Tree as acsl
use Rattle.c_runs.specs.TruthStates as labelled
use Rattle.acsl_encode.specs.Meaning.{Stands}
use Rattle.c_runs.specs.States.{Memory, seen_by_contract}
use Rattle.c_runs.specs.Allowed.{SetAllows, MayChange}
use Rattle.c_runs.specs.Claims.{Stop, at_entry, at_return, ensured, here_in, is_assumed}
use Rattle.program_steps.specs.Temporaries.{some_use, goal_uses}
use Rattle.goal_segments.specs.Told.{goal_temp}
use Rattle.typed_memories.specs.Cells.{lies_inside}
use Rattle.typed_memories.proofs.Tests.{on_test}
use Rattle.walk_steps.specs.Forms.{Place}
use Rattle.walk_steps.specs.State.{at_or}
use Rattle.memory_steps.specs.State.{state}
use Rattle.memory_steps.specs.Step as step
use Rattle.memory_steps.specs.Step.{count}
use Rattle.memory_steps.specs.Run.{End, goes_on, on_state, put_back, IsOver, Seg}
use Rattle.memory_steps.specs.Run as seg
use Rattle.memory_steps.proofs.Readings.{seq_ways, knows_then, scope_way, remember_way}
use Rattle.memory_words.specs.Places.{answer, answer_offset, temporary, temporary_offset, number_at}
use Rattle.memory_words.specs.Leaves.{form, leaves_of}
use Rattle.memory_words.specs.Shapes.{sizes}
use Rattle.memory_words.specs.Standing.{TempIs}
use Rattle.memory_words.specs.Points.{remembered}
use Rattle.memory_words.specs.Typed.{ValuesFit}
use Rattle.memory_words.specs.Placed.{all_told, FailsAs}
use Rattle.memory_statements.proofs.Remembering.{places_are_remembered}
use Rattle.memory_words.proofs.Asking.{behind}
use Rattle.memory_words.proofs.PutListing.{comes, fails_second}
use Rattle.memory_words.proofs.Ends.{ends_well}
use Rattle.memory_calls.specs.Havoc.{Havoc, havoc_word}
use Rattle.memory_calls.specs.HavocLaws.{GoesOn, SameUntold, HavocIs}
use Rattle.memory_calls.proofs.Runs.{havoc_runs}
use Rattle.memory_calls.proofs.HavocStaying.{stays_mean}
use Rattle.memory_words.specs.Sets.{since}
use Rattle.memory_calls.proofs.Coming.{all_known, known_all}
use Rattle.memory_calls.specs.Callee.{entered_at}
use Rattle.memory_calls.specs.CallSets.{callee_assumes, changed_variable, havoc_by, call_havoc}
use Rattle.memory_calls.specs.CallWords.{stay_trees, call_promises, answer_step, answer_term, received}
use Rattle.memory_calls.proofs.Views.{entry_stands, return_stands, AnswerIs}
use Rattle.memory_calls.proofs.Claims.{is_none, call_promises_told}
use Rattle.memory_calls.proofs.Stages.{file_of}
use Rattle.memory_calls.proofs.Answers.{filled, ends_back}
use Rattle.memory_calls.proofs.Letting.{PlainSet, plain_set, plain_assumed, set_by, all_fit, all_forth, all_back}
use Rattle.memory_calls.proofs.Returned.{Returned, returned_forth, returned_back}
use Rattle.typed_prog.specs.Tree as t
use Rattle.qed_terms.specs.Meaning as sense
use Rattle.c_runs.specs.TruthStates.{Value}
use Rattle.c_runs.specs.Program.{Variable, Contract, Function, Facts, Program}
use Rattle.c_runs.specs.States.{World, Here}
use Rattle.c_runs.specs.CoreRun.{CoreWorld, Ending, in_world}
use Rattle.c_runs.specs.Checks.{Check}
use Rattle.c_runs.specs.Tests.{totals}
use Rattle.c_runs.specs.Tree as core
use Rattle.c_runs.specs.Tree.{Goal, Steps}
use Rattle.c_runs.specs.CheckedRun as exec
use Rattle.goal_segments.specs.Segments.{BehindCall, no_deeper}
use Rattle.value_terms.specs.Places.{all_met_among}
use Rattle.memory_steps.specs.State.{State}
use Rattle.memory_steps.specs.Step.{Step, places}
use Rattle.program_steps.specs.Temporaries.{Temporaries, live}
use Rattle.memory_words.specs.Shapes.{FileCells, Shape}
use Rattle.memory_words.specs.Readings.{Texts}
use Rattle.memory_words.specs.Standing.{Frame, StandsFor}
use Rattle.memory_words.specs.Seen.{InSetting}
use Rattle.memory_words.specs.Points.{Point, uses_of}
use Rattle.memory_words.specs.Words.{Others}
use Rattle.memory_words.specs.Placed.{Openings, Placed, Ends, BothWays}
use Rattle.memory_calls.specs.CallWords.{behind_call}
use Rattle.memory_calls.specs.CallFits.{CallFits}

goes_parts : {a b : State} → goes_on a ≡ goes_on b → a ≡ b
goes_parts e = cc

none_above : {X : Type 0} (xs : List X) (x : ℕ) → slice_get xs x ≡ None → length xs ≤ x
none_above [] x e = omega arith
none_above (y ∷ ys) zero e = absurd (some_none e) where
  some_none : {X : Type 0} {x : X} → Some x ≡ None → ⊥
  some_none e = cc
none_above (y ∷ ys) (suc x) e = let h = none_above ys x e in omega (arith, h)

module _ (m : sense.World) (q : Program Steps) (s : Shape) (cells : FileCells) (texts : Texts) (contract : Contract) (others : Others) (setting : InSetting m q.facts s cells)
    (here : Here) (pt : Point) (olds : List State) (fr : Frame) (os : Openings) (placed : Placed m q.facts s cells texts contract pt here olds fr os) (f : Temporaries)
    (cs : List Check) (to : Goal) (k l : ℕ) (es : t.Values) (fits : CallFits m q.facts s cells texts contract q.functions pt f cs to k l es) (c : CoreWorld) (st : State)
    (stands : StandsFor q.facts s cells fr (live (core.call cs to k l es) (uses_of pt.outs) f) c st) (met : all_met_among q.facts s.variables c.temps c.world es ≡ true) where
  abbrev p : Facts
  p = q.facts

  abbrev g : Function Steps
  g = fits.function

  abbrev vs : List Value
  vs = totals p s.variables c.temps c.world es

  abbrev pub whole : Step
  whole = behind_call m p s cells texts contract q.functions others pt to g es

  -- what a call comes to that has returned
  abbrev pub Returns : Ending → Type 0
  Returns o = (v : Value) × ((u : World) × (BehindCall p k g vs c.world v u × (exec.result_to q no_deeper s.variables here to v (in_world c u) ≡ o)))

  abbrev used : Temporaries
  used = live (core.call cs to k l es) (uses_of pt.outs) f

  abbrev mem : Memory
  mem = c.world.memory

  abbrev entry : labelled.World
  entry = at_entry p vs mem

  abbrev h : Havoc
  h = call_havoc p s cells texts g es

  in_scope_is : fr.in_scope ≡ pt.stands.in_scope
  in_scope_is = λ i x. placed.scope x i

  values : ValuesFit p s cells fr.in_scope used es
  values = subst (λ i. ValuesFit p s cells i used es) (sym in_scope_is) fits.values

  less : (j : ℕ) → (not (goal_temp to j) && f j) ≡ true → used j ≡ true
  less j h = by (some_use es j) (goal_uses to j) where
    by : (b d : Bool) → (b || d || (not (goal_temp to j) && f j)) ≡ true
    by true d = refl
    by false true = refl
    by false false = h

  stands_at : (sts : List State) (l : ℕ) → at_or (state [] []) sts l ≡ st → (a : acsl.Tree) → Stands m (entered_at p s cells texts g es l a) (leaves_of sts) entry
  stands_at sts l is a = entry_stands m p s cells setting fr placed.lives used c st stands texts g es values.typed met fits.kinds sts l is (file_of p s cells fr used c st stands) a

  placed_then : Placed m p s cells texts contract (remembered pt) here (st ∷ olds) fr os
  placed_then = places_are_remembered m p s cells texts contract pt here olds fr os placed st

  -- ---- havoc

  plain : PlainSet m p s cells setting texts g es fits.callee vs mem st olds stands.table_is stands_at g.contract.plain.assigns
  plain = plain_set m p s cells setting texts g es fits.callee vs mem st olds stands.table_is stands_at

  plain_is : is_assumed p entry g.contract.plain ≡ true
  plain_is = plain_assumed m p s cells setting texts g es fits.callee vs mem st olds stands.table_is stands_at

  variables_are : (x : code.Variable) → h.variables x ≡ changed_variable p s cells texts g es x
  variables_are x = by g.contract.plain.assigns where
    by : (o : Option (List acsl.Tree)) → (havoc_by p s cells texts g es o).variables x ≡ changed_variable p s cells texts g es x
    by None = refl
    by (Some rs) = refl

  havoc_is : (n : ℕ) → HavocIs m p s cells h plain.set fr used (st ∷ olds) n c st
  havoc_is n = havoc_runs m p s cells setting h plain.set (st ∷ olds) plain.leave fr (λ x on. absurd (false≢true (sym (variables_are (variables.Local x)) ∙ on))) used n c st stands

  -- ---- what is known behind it

  abbrev caller : Here
  caller = here_in p k vs mem g.contract []

  none_so : (o : Option Stop) (b : State) → o ≡ None → is_none m p s cells texts (b ∷ st ∷ olds) g es o ≡ true
  none_so None b e = refl
  none_so (Some x) b e = absurd (some_none e) where
    some_none : {X : Type 0} {x : X} → Some x ≡ None → ⊥
    some_none e = cc

  so_none : (o : Option Stop) (b : State) → is_none m p s cells texts (b ∷ st ∷ olds) g es o ≡ true → o ≡ None
  so_none None b e = refl
  so_none (Some x) b e = absurd (false≢true e)

  promised_told : (u : World) (v : Value) (b : State) → StandsFor p s cells fr used (in_world c u) b → AnswerIs p s g.result u.memory b v
      → all_told m (b ∷ st ∷ olds) (call_promises p s cells texts g es) ≡ is_none m p s cells texts (b ∷ st ∷ olds) g es (ensured p caller u.memory v g.contract)
  promised_told u v b there answer_is =
      call_promises_told m p s cells texts (b ∷ st ∷ olds) g es entry (at_return p caller u.memory v) (stands_at (b ∷ st ∷ olds) 1 refl)
      (return_stands m p s cells setting fr placed.lives used c st stands texts g es values.typed met fits.kinds b olds (file_of p s cells fr used c st stands) u.memory
      (file_of p s cells fr used (in_world c u) b there) v answer_is k) fits.callee

  -- ---- the parts of the word

  abbrev given : Step
  given = received m p s cells texts contract q.functions others pt to (answer_term m p s cells texts contract q.functions g.result)

  abbrev known_word : Step
  known_word = step.seq (step.know (map (form m) (call_promises p s cells texts g es))) given

  abbrev answer_word : Step
  answer_word = step.seq (answer_step m p s cells texts contract q.functions g.result) known_word

  abbrev stay_word : Step
  stay_word = step.seq (step.know (map (form m) (stay_trees p s cells texts g es))) answer_word

  abbrev havoc_first : Step
  havoc_first = havoc_word m p s cells h

  abbrev inner : Step
  inner = step.seq havoc_first stay_word

  abbrev EndsAt : List Place → ℕ → Ending → End → Type 0
  EndsAt ps n o e = Ends p s cells fr os (uses_of pt.outs) f ps n o e

  abbrev filling : Step
  filling = answer_step m p s cells texts contract q.functions g.result

  -- where the checks of the last part stand
  abbrev last : ℕ → ℕ
  last n = n + count havoc_first + count (answer_step m p s cells texts contract q.functions g.result)

  further : step.goes havoc_first ≡ true → step.goes (answer_step m p s cells texts contract q.functions g.result) ≡ true → (n : ℕ) (o : Ending) (e : End) → EndsAt (places given) (last n) o e → EndsAt (places whole) n o e
  further one two n o e h = (ends_well p s cells fr os (uses_of pt.outs) f).more (places given) (places whole) (last n) n lift o e h where
    lift : (j : ℕ) (y : Stop) → FailsAs (places given) (last n) j y → FailsAs (places whole) n j y
    lift j y x = fails_second havoc_first stay_word n j y one (fails_second (answer_step m p s cells texts contract q.functions g.result) known_word (n + count havoc_first) j y two x)

  abbrev returned_at : (u : World) (one : State) (there : StandsFor p s cells fr used (in_world c u) one) (v : Value) (two : State) → Type 0
  returned_at u one there v two =
      Returned m q s cells texts contract others setting here pt (st ∷ olds) fr os placed_then used f (in_world c u) one there to less g.result v two

  -- ---- forth

  module _ (v : Value) (u : World) (call : BehindCall p k g vs c.world v u) where
    allowed : SetAllows p entry g.contract.plain.assigns (seen_by_contract p vs mem) (seen_by_contract p vs u.memory)
    allowed = call.changes.0 plain_is

    goes : GoesOn p s.variables cells h plain.set used c (in_world c u)
    goes = record {
      good = call.good;
      blocks = call.blocks;
      renewed = plain.renewed u.memory allowed;
      kept = plain.kept u.memory allowed;
      globals = λ x y e is off. plain.globals u.memory allowed x y e is (sym (variables_are (variables.Global x)) ∙ off);
      locals = λ x y e is off. call.locals x;
      changed = λ x y e is on. absurd (false≢true (sym (variables_are (variables.Local x)) ∙ on));
      homes = λ x y e is. call.locals x;
      temporaries = λ j uses. refl;
    }

    stays_so : (one : State) → StandsFor p s cells fr used (in_world c u) one → all_told m (one ∷ st ∷ olds) (stay_trees p s cells texts g es) ≡ true
    stays_so one there =
        (stays_mean m p s cells texts (entered_at p s cells texts g es 1) (callee_assumes p s cells texts g es 1) (since 1) h
        (set_by m p s cells setting texts g es fits.callee vs mem st olds stands.table_is stands_at h one) one st olds mem u.memory (file_of p s cells fr used c st stands)
        (file_of p s cells fr used (in_world c u) one there) call.blocks g.contract.behaviors
        (all_fit m p s cells setting texts g es fits.callee vs mem st olds stands.table_is stands_at h one g.contract.behaviors fits.callee.behaviors)).1
        (all_forth m p s cells setting texts g es fits.callee vs mem st olds stands.table_is stands_at h one u.memory g.contract.behaviors fits.callee.behaviors call.changes.1)

    forth_by : (n : ℕ) (o : Ending) → exec.result_to q no_deeper s.variables here to v (in_world c u) ≡ o → (e : End) × Seg olds n whole st e × EndsAt (places whole) n o e
    forth_by n o is =
        let one = (havoc_is n).forth (in_world c u) goes in
        let two = returned_forth m q s cells texts contract others setting here pt (st ∷ olds) fr os placed_then used f (in_world c u) one.0 one.2 to less g.result fits.integers fits.result v call.result in
        let known = promised_told u v two.0 two.2.stands_two two.2.answer_is ∙ none_so (ensured p caller u.memory v g.contract) two.0 call.promises in
        let x = (two.2.goes (last n)).forth o is in (
          on_state (put_back (filled (sizes p s)) st) x.0,
          seg.remembers (seg.scopes (seg.goes_both one.1 (seg.goes_both (seg.knows_so (all_known m (one.0 ∷ st ∷ olds) (stay_trees p s cells texts g es) (stays_so one.0 one.2)))
              (behind (seg.goes_both (two.1 (n + count havoc_first))
              (seg.goes_both (seg.knows_so (all_known m (two.0 ∷ st ∷ olds) (call_promises p s cells texts g es) known)) (behind x.1))))))),
          ends_back p s cells st (stands.sorted answer tt refl) (stands.sorted answer_offset tt refl) fr os (uses_of pt.outs) f (places whole) n o x.0
              (further (comes one.1) (comes (two.1 n)) n o x.0 x.2),
        )

  -- ---- back

  module _ (d : CoreWorld) (goes : GoesOn p s.variables cells h plain.set used c d) (untold : SameUntold p s.variables cells c d) where
    abbrev u : World
    u = d.world

    stands_there : (b : State) → StandsFor p s cells fr used d b → StandsFor p s cells fr used (in_world c u) b
    stands_there b there = record {
      size = there.size;
      sorted = there.sorted;
      good = there.good;
      blocks_are = there.blocks_are;
      table_is = there.table_is;
      numbers_are = there.numbers_are;
      pointers_are = there.pointers_are;
      globals = there.globals;
      locals = there.locals;
      homes = there.homes;
      living = there.living;
      temporaries = λ j l uses.
          subst (λ v. TempIs p u.memory.blocks (s.temp_kind j) v (number_at (sizes p s) b (temporary j)) (number_at (sizes p s) b (temporary_offset j))) (untold.temporaries j)
          (there.temporaries j l uses);
      unscoped = there.unscoped;
    }

    locals_same : (x : ℕ) → u.locals x ≡ c.world.locals x
    locals_same x = by (slice_get s.variables x) refl where
      by : (o : Option Variable) → slice_get s.variables x ≡ o → u.locals x ≡ c.world.locals x
      by None e = untold.others x (none_above s.variables x e)
      by (Some y) e = on_test y.is_plain (λ is. goes.locals x y e is (variables_are (variables.Local x))) (λ is. goes.homes x y e is)

    cells_else : (j : CellKind) (i : ℕ) (o : ℤ) → is_cell j mem.blocks (pos i) o ≡ true → cells.has_kind j && h.kinds j ≡ false → u.memory.cells (pos i) o ≡ mem.cells (pos i) o
    cells_else j i o is none = on_test (cells.has_kind j)
        (λ has. goes.kept j (pos i) o has (sym (ap (λ b. b && h.kinds j) has) ∙ none) is) (λ lacks. untold.kinds j (pos i) o lacks is)

    cells_there : (j : CellKind) (i : ℕ) (o : ℤ) → is_cell j mem.blocks (pos i) o ≡ true
        → (cells.has_kind j ≡ true → h.kinds j ≡ true → lies_inside (plain.set j) (pos i) o ≡ false) → u.memory.cells (pos i) o ≡ mem.cells (pos i) o
    cells_there j i o is off = on_test (cells.has_kind j)
        (λ has. on_test (h.kinds j) (λ on. goes.renewed j (pos i) o (λ t. has t && on t) is (off has on)) (λ none. goes.kept j (pos i) o has none is))
        (λ lacks. untold.kinds j (pos i) o lacks is)

    allowed_plain : SetAllows p entry g.contract.plain.assigns (seen_by_contract p vs mem) (seen_by_contract p vs u.memory)
    allowed_plain = plain.allows u.memory cells_there (λ x y e is off. goes.globals x y e is (variables_are (variables.Global x) ∙ off))

    allowed_all : (one : State) → StandsFor p s cells fr used (in_world c u) one → all_told m (one ∷ st ∷ olds) (stay_trees p s cells texts g es) ≡ true
        → MayChange p g.contract vs mem u.memory
    allowed_all one there told = (
      λ is. allowed_plain,
      all_back m p s cells setting texts g es fits.callee vs mem st olds stands.table_is stands_at h one u.memory g.contract.behaviors fits.callee.behaviors cells_else
          (λ x y e is off. goes.globals x y e is off)
          ((stays_mean m p s cells texts (entered_at p s cells texts g es 1) (callee_assumes p s cells texts g es 1) (since 1) h
          (set_by m p s cells setting texts g es fits.callee vs mem st olds stands.table_is stands_at h one) one st olds mem u.memory (file_of p s cells fr used c st stands)
          (file_of p s cells fr used (in_world c u) one there) goes.blocks g.contract.behaviors
          (all_fit m p s cells setting texts g es fits.callee vs mem st olds stands.table_is stands_at h one g.contract.behaviors fits.callee.behaviors)).0 told),
    )

    -- behind what havoc has come to
    back_from : (n : ℕ) (one : State) → Seg (st ∷ olds) n havoc_first st (goes_on one) → StandsFor p s cells fr used d one → (e : End)
        → Seg (st ∷ olds) (n + count havoc_first) stay_word one e
        → (o : Ending) × Returns o × EndsAt (places whole) n o (on_state (put_back (filled (sizes p s)) st) e)
    back_from n one first stands_one e run =
        let there = stands_there one stands_one in
        let stay = knows_then run in
        let changes = allowed_all one there (known_all m (one ∷ st ∷ olds) (stay_trees p s cells texts g es) stay.0) in
        fill_ways there changes (seq_ways stay.1)
      where
        at_two : (there : StandsFor p s cells fr used (in_world c u) one) → MayChange p g.contract vs mem u.memory
            → (two : State) (v : Value) → returned_at u one there v two → (answer_run : Seg (st ∷ olds) (n + count havoc_first) filling one (goes_on two))
            → Seg (st ∷ olds) (last n) known_word two e → (o : Ending) × Returns o × EndsAt (places whole) n o (on_state (put_back (filled (sizes p s)) st) e)
        at_two there changes two v returned answer_run rest =
            let known = knows_then rest in
            let promised = so_none (ensured p caller u.memory v g.contract) two
            (sym (promised_told u v two returned.stands_two returned.answer_is) ∙ known_all m (two ∷ st ∷ olds) (call_promises p s cells texts g es) known.0) in
            let call : BehindCall p k g vs c.world v u = record {
              good = goes.good;
              blocks = goes.blocks;
              changes = changes;
              locals = locals_same;
              result = returned.result_is;
              promises = promised;
            } in
            let x = (returned.goes (last n)).back e known.1 in (
              x.0,
              (v, (u, (call, x.1))),
              ends_back p s cells st (stands.sorted answer tt refl) (stands.sorted answer_offset tt refl) fr os (uses_of pt.outs) f (places whole) n x.0 e
                  (further (comes first) (comes answer_run) n x.0 e x.2),
            )

        fill_ways : (there : StandsFor p s cells fr used (in_world c u) one) → MayChange p g.contract vs mem u.memory
            → (IsOver e × Seg (st ∷ olds) (n + count havoc_first) filling one e)
            ⊎ ((mid : State) × Seg (st ∷ olds) (n + count havoc_first) filling one (goes_on mid) × Seg (st ∷ olds) (last n) known_word mid e)
            → (o : Ending) × Returns o × EndsAt (places whole) n o (on_state (put_back (filled (sizes p s)) st) e)
        fill_ways there changes (inl (over, h')) =
            let x = returned_back m q s cells texts contract others setting here pt (st ∷ olds) fr os placed_then used f (in_world c u) one there to less g.result fits.integers fits.result
            (n + count havoc_first) e h' in absurd (subst IsOver (sym x.1) over)
        fill_ways there changes (inr (mid, h', rest)) =
            let x = returned_back m q s cells texts contract others setting here pt (st ∷ olds) fr os placed_then used f (in_world c u) one there to less g.result fits.integers fits.result
            (n + count havoc_first) (goes_on mid) h' in
            let same = goes_parts x.1 in
            at_two there changes x.0 x.2.0 x.2.1 (subst (λ b. Seg (st ∷ olds) (n + count havoc_first) filling one (goes_on b)) (sym same) h')
            (subst (λ b. Seg (st ∷ olds) (last n) known_word b e) (sym same) rest)

  havoc_ways : (n : ℕ) (e : End) → (IsOver e × Seg (st ∷ olds) n havoc_first st e)
      ⊎ ((mid : State) × Seg (st ∷ olds) n havoc_first st (goes_on mid) × Seg (st ∷ olds) (n + count havoc_first) stay_word mid e)
      → (o : Ending) × Returns o × EndsAt (places whole) n o (on_state (put_back (filled (sizes p s)) st) e)
  havoc_ways n e (inl (over, run)) = let x = (havoc_is n).back e run in absurd (subst IsOver (sym x.1) over)
  havoc_ways n e (inr (mid, run, rest)) =
      let x = (havoc_is n).back (goes_on mid) run in
      let same = goes_parts x.1 in
      back_from x.2.0 x.2.1 x.2.2 n x.0 (subst (λ b. Seg (st ∷ olds) n havoc_first st (goes_on b)) (sym same) run) x.2.3 e
      (subst (λ b. Seg (st ∷ olds) (n + count havoc_first) stay_word b e) (sym same) rest)

  pub tail_both : (n : ℕ) → BothWays Returns (EndsAt (places whole) n) olds n whole st
  tail_both n = record {
    forth = λ o r. forth_by r.0 r.1.0 r.1.1.0 n o r.1.1.1;
    back = λ e run.
        let x = scope_way (remember_way run) in
        let y = havoc_ways n x.0 (seq_ways x.1) in
        (y.0, y.1, subst (EndsAt (places whole) n y.0) x.2 y.2);
  }
