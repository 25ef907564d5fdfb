-- What a call returns: the word that fills its places comes to slots in which its result stands, and goes on as the result goes where it is to go.
use Rattle.std.proofs.Common.{◌≡◌, ℕ, true, false, not, ◌&&◌, pos, List, Option, Some, None, refl, sym, ap, ◌∙◌, subst}
use Rattle.std.proofs.lemmas.Bool.{false≢true}
use Rattle.wp_base.specs.declared.kinds.CellKind.{CellKind}
use Rattle.wp_base.specs.declared.kinds.CellKind.TheVariants as cell
use Rattle.wp_base.specs.declared.kinds.Kind.TheVariants as kind
use Rattle.wp_base.specs.Blocks.{count}
use Rattle.qed_terms.specs.Meaning as sense
use Rattle.qed_terms.specs.Tree.{num}
use Rattle.c_runs.specs.TruthStates.{Value}
use Rattle.c_runs.specs.Program.{Contract, Facts, Program}
use Rattle.c_runs.specs.States.{Here}
use Rattle.c_runs.specs.Calls.{nought}
use Rattle.c_runs.specs.Scopes.{is_content}
use Rattle.c_runs.specs.CoreRun.{CoreWorld}
use Rattle.c_runs.specs.Tree.{Goal, temporary, nowhere, Steps}
use Rattle.c_runs.specs.CheckedRun as exec
use Rattle.goal_segments.specs.Told.{goal_temp}
use Rattle.goal_segments.specs.Segments.{IsResult, no_deeper}
use Rattle.plain_runs.proofs.Scopes.{zero_of}
use Rattle.value_terms.specs.Readings.{as_number}
use Rattle.typed_memories.proofs.Tests.{on_test}
use Rattle.memory_steps.specs.State.{State, with_slots}
use Rattle.memory_steps.specs.Step.{Step, places}
use Rattle.memory_steps.specs.Step as step
use Rattle.memory_steps.specs.Run.{End, goes_on, Seg}
use Rattle.memory_steps.specs.Run as seg
use Rattle.memory_steps.proofs.Readings.{change_way}
use Rattle.memory_words.specs.Places.{answer, answer_offset}
use Rattle.program_steps.specs.Temporaries.{Temporaries}
use Rattle.memory_words.specs.Shapes.{FileCells, Shape, sizes, is_pointer_cell}
use Rattle.memory_words.specs.Readings.{Texts}
use Rattle.memory_words.specs.Standing.{Frame, StandsFor}
use Rattle.memory_words.specs.Seen.{InSetting}
use Rattle.memory_words.proofs.Contents.{content_is}
use Rattle.memory_words.specs.Points.{Point, uses_of, remembered}
use Rattle.memory_words.specs.Words.{Others}
use Rattle.memory_words.specs.Placed.{Openings, Placed, Ends, BothWays}
use Rattle.memory_words.specs.Puts.{Gives}
use Rattle.memory_words.proofs.PutStanding.{slots_go_on}
use Rattle.memory_calls.proofs.Values.{content_value, integer_anywhere}
use Rattle.memory_calls.specs.CallWords.{answer_step, answer_term, received}
use Rattle.memory_calls.specs.CallFits.{ResultGoes, none_nowhere, none_to, goes_to, by_nothing, by_temporary}
use Rattle.memory_calls.proofs.Views.{AnswerIs}
use Rattle.memory_calls.proofs.Answers.{answer_gives}
use Rattle.memory_calls.proofs.Filling.{Filled, with_answer, fills, filled_so, answered, filled_then}
use Rattle.memory_calls.proofs.Receiving.{received_both}

skip_way : {olds : List State} {n : ℕ} {st : State} {o : End} → Seg olds n step.skip st o → goes_on st ≡ o
skip_way seg.skips = refl

module _ (m : sense.World) (q : Program Steps) (s : Shape) (cells : FileCells) (texts : Texts) (contract : Contract) (others : Others) (setting : InSetting m q.facts s cells)
    (here : Here) (pt : Point) (olds : List State) (fr : Frame) (os : Openings) (placed : Placed m q.facts s cells texts contract (remembered pt) here olds fr os)
    (used f : Temporaries) (c : CoreWorld) (one : State) (stands : StandsFor q.facts s cells fr used c one) (to : Goal)
    (less : (j : ℕ) → (not (goal_temp to j) && f j) ≡ true → used j ≡ true) where
  abbrev p : Facts
  p = q.facts

  abbrev pub filling : Option CellKind → Step
  filling o = answer_step m p s cells texts contract q.functions o

  abbrev pub given_word : Option CellKind → Step
  given_word o = received m p s cells texts contract q.functions others pt to (answer_term m p s cells texts contract q.functions o)

  -- slots in which the result stands, and which go where it goes
  pub record Returned (o : Option CellKind) (v : Value) (two : State) : Type 0 where
    pub stands_two : StandsFor p s cells fr used c two
    pub answer_is : AnswerIs p s o c.world.memory two v
    pub result_is : IsResult p c.world.memory.blocks o v
    pub goes : (n : ℕ) → BothWays (λ x. exec.result_to q no_deeper s.variables here to v c ≡ x) (Ends p s cells fr os (uses_of pt.outs) f (places (given_word o)) n) olds n
        (given_word o) two

  -- ---- nothing is returned

  nothing_gives : (k : CellKind) → is_pointer_cell k ≡ false → Gives m (sizes p s) olds answer k (as_number (num (pos 0))) nought one
  nothing_gives (cell.Of k) is = record { held = refl; stays = refl }
  nothing_gives cell.Ptr is = absurd (false≢true (sym is))

  nothing_fits : (k : CellKind) → is_pointer_cell k ≡ false → (n : _) → is_content p n k nought ≡ true
  nothing_fits (cell.Of k) is n = zero_of p.model k
  nothing_fits cell.Ptr is n = absurd (false≢true (sym is))

  nothing_goes : (d : Goal) → ResultGoes p s cells pt.stands.in_scope used None d → ((j : ℕ) → (not (goal_temp d j) && f j) ≡ true → used j ≡ true) → (n : ℕ)
      → BothWays (λ x. exec.result_to q no_deeper s.variables here d nought c ≡ x)
      (Ends p s cells fr os (uses_of pt.outs) f (places (received m p s cells texts contract q.functions others pt d (as_number (num (pos 0))))) n) olds n
      (received m p s cells texts contract q.functions others pt d (as_number (num (pos 0)))) one
  nothing_goes _ none_nowhere less =
      received_both m q s cells texts contract others setting here pt olds fr os placed used f c one stands nought (as_number (num (pos 0))) (cell.Of kind.Int)
      (nothing_gives (cell.Of kind.Int) refl) (nothing_fits (cell.Of kind.Int) refl (count c.world.memory.blocks)) nowhere by_nothing less
  nothing_goes _ (none_to {n = j} below integer) less =
      received_both m q s cells texts contract others setting here pt olds fr os placed used f c one stands nought (as_number (num (pos 0))) (s.temp_kind j)
      (nothing_gives (s.temp_kind j) integer) (nothing_fits (s.temp_kind j) integer (count c.world.memory.blocks)) (temporary j) (by_temporary below refl) less

  nothing_returned : ResultGoes p s cells pt.stands.in_scope used None to → (v : Value) → v ≡ nought → Returned None v one
  nothing_returned goal v is = subst (λ v. Returned None v one) (sym is) (record { stands_two = stands; answer_is = tt; result_is = refl; goes = nothing_goes to goal less })

  -- ---- a value of the kind

  module _ (k : CellKind) (integer : cells.has_blocks ≡ false → is_pointer_cell k ≡ false) where
    content_there : (v : Value) → is_content p (count one.table) k v ≡ true → is_content p (count c.world.memory.blocks) k v ≡ true
    content_there v h = on_test cells.has_blocks (λ has. ap (λ t. is_content p (count t) k v) (sym (stands.table_is has)) ∙ h)
        (λ none. integer_anywhere p (count one.table) (count c.world.memory.blocks) k v (integer none) h)

    there_content : (v : Value) → is_content p (count c.world.memory.blocks) k v ≡ true → is_content p (count one.table) k v ≡ true
    there_content v h = on_test cells.has_blocks (λ has. ap (λ t. is_content p (count t) k v) (stands.table_is has) ∙ h)
        (λ none. integer_anywhere p (count c.world.memory.blocks) (count one.table) k v (integer none) h)

    value_returned : ResultGoes p s cells pt.stands.in_scope used (Some k) to → (v : Value) (two : State)
        → Filled m p s cells texts contract q.functions k olds one stands.size v two → Returned (Some k) v two
    value_returned goal v two filled =
        let there = slots_go_on p s cells fr used c one stands used (λ j h. h) two (filled.keeps used) in
        let fits = content_there v filled.fits in
        record {
          stands_two = there;
          answer_is = (filled.held_as, fits);
          result_is = content_value p c.world.memory.blocks k v fits;
          goes = by goal there fits;
        }
      where
        by : ResultGoes p s cells pt.stands.in_scope used (Some k) to → StandsFor p s cells fr used c two → is_content p (count c.world.memory.blocks) k v ≡ true → (n : ℕ)
            → BothWays (λ x. exec.result_to q no_deeper s.variables here to v c ≡ x) (Ends p s cells fr os (uses_of pt.outs) f (places (given_word (Some k))) n) olds n
            (given_word (Some k)) two
        by (goes_to r) there fits =
            received_both m q s cells texts contract others setting here pt olds fr os placed used f c two there v (answer_term m p s cells texts contract q.functions (Some k)) k
            (answer_gives m (sizes p s) olds two there.size k v filled.held_as) fits to r less

  -- ---- both

  module _ (o : Option CellKind) (integers : cells.has_blocks ≡ false → (k : CellKind) → o ≡ Some k → is_pointer_cell k ≡ false)
      (goal : ResultGoes p s cells pt.stands.in_scope used o to) where
    pub returned_forth : (v : Value) → IsResult p c.world.memory.blocks o v → (two : State) × ((n : ℕ) → Seg olds n (filling o) one (goes_on two)) × Returned o v two
    returned_forth v is = by o integers goal is where
      by : (o : Option CellKind) → (cells.has_blocks ≡ false → (k : CellKind) → o ≡ Some k → is_pointer_cell k ≡ false) → ResultGoes p s cells pt.stands.in_scope used o to
          → IsResult p c.world.memory.blocks o v → (two : State) × ((n : ℕ) → Seg olds n (filling o) one (goes_on two)) × Returned o v two
      by None integers goal is = (one, (λ n. seg.skips), nothing_returned goal v is)
      by (Some k) integers goal is =
          let fits = there_content k (λ none. integers none k refl) v (content_is p c.world.memory.blocks k v is.0 is.1) in
          let first = stands.sorted answer tt refl in
          let second = stands.sorted answer_offset tt refl in (
            with_answer m p s cells texts contract q.functions k olds one stands.size v fits first second,
            fills m p s cells texts contract q.functions k olds one stands.size v fits first second,
            value_returned k (λ none. integers none k refl) goal v (with_answer m p s cells texts contract q.functions k olds one stands.size v fits first second)
                (filled_so m p s cells texts contract q.functions k olds one stands.size v fits first second),
          )

    pub returned_back : (n : ℕ) (e : End) → Seg olds n (filling o) one e → (two : State) × (goes_on two ≡ e) × ((v : Value) × Returned o v two)
    returned_back n e h = by o integers goal h where
      by : (o : Option CellKind) → (cells.has_blocks ≡ false → (k : CellKind) → o ≡ Some k → is_pointer_cell k ≡ false) → ResultGoes p s cells pt.stands.in_scope used o to
          → Seg olds n (filling o) one e → (two : State) × (goes_on two ≡ e) × ((v : Value) × Returned o v two)
      by None integers goal h = (one, skip_way h, (nought, nothing_returned goal nought refl))
      by (Some k) integers goal h =
          let x = change_way h in
          let full = filled_then m p s cells texts contract q.functions k olds one stands.size x.0 x.1 in (
            with_slots one x.0,
            x.2,
            (
              answered m p s cells texts contract q.functions k olds one stands.size x.0 x.1,
              value_returned k (λ none. integers none k refl) goal (answered m p s cells texts contract q.functions k olds one stands.size x.0 x.1) (with_slots one x.0) full,
            ),
          )
