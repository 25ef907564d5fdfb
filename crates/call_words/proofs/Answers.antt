-- The slot of a call's result: how it is filled, what it gives, and that it is put back.
use Rattle.std.proofs.Common.{◌≡◌, ℕ, ◌<◌, pos, Bool, true, not, ◌&&◌, List, [], ◌∷◌, length, Option, Some, None, refl, sym, ap, ◌∙◌, subst, arith}
use Rattle.wp_base.specs.declared.kinds.CellKind.{CellKind}
use Rattle.wp_base.specs.declared.kinds.CellKind.TheVariants as cell
use Rattle.wp_base.specs.declared.kinds.Kind.TheVariants as kind
use Rattle.wp_base.specs.Blocks.{Table}
use Rattle.c_kinds.specs.Models.{low, high, holds}
use Rattle.qed_terms.specs.Meaning as sense
use Rattle.qed_terms.specs.Tree.{num}
use Rattle.c_runs.specs.TruthStates.{Value, number}
use Rattle.c_runs.specs.Program.{Contract, Facts, Program}
use Rattle.c_runs.specs.States.{Here}
use Rattle.c_runs.specs.Calls.{nought}
use Rattle.c_runs.specs.CoreRun as run
use Rattle.c_runs.specs.CoreRun.{CoreWorld, Ending}
use Rattle.c_runs.specs.Tree.{Goal, nowhere, temporary, Steps}
use Rattle.c_runs.specs.CheckedRun as exec
use Rattle.goal_segments.specs.Segments.{no_deeper}
use Rattle.plain_states.specs.Slots.{State, at, put, result_slot, answer_slot}
use Rattle.plain_states.proofs.Lists.{put_length, put_elsewhere}
use Rattle.plain_runs.specs.Fitting.{Shape, sizes}
use Rattle.plain_runs.specs.Kept.{goal_temp}
use Rattle.plain_runs.proofs.Scopes.{zero_of}
use Rattle.walk_steps.specs.State as walk
use Rattle.walk_steps.specs.Forms.{Place}
use Rattle.walk_steps.specs.Step.{Step, places, count}
use Rattle.walk_steps.specs.Step as step
use Rattle.walk_steps.specs.Run.{End, goes_on, leaves, fails, on_state, put_back, Seg}
use Rattle.walk_steps.specs.Run as seg
use Rattle.walk_steps.proofs.Readings.{changes_then}
use Rattle.program_steps.specs.Leaves.{leaf, closed, leaves_of}
use Rattle.program_steps.specs.Temporaries.{Temporaries, no_temporaries, out_at}
use Rattle.program_steps.specs.Terms.{Texts}
use Rattle.program_steps.specs.Words.{Point}
use Rattle.program_steps.specs.Standing.{StandsFor, Ends}
use Rattle.program_steps.specs.Placed.{InSetting, Placed, BothWays}
use Rattle.program_steps.proofs.Listing.{leaf_value, put_same}
use Rattle.program_steps.proofs.Setting.{slot_set}
use Rattle.program_steps.proofs.Starting.{leaf_closed}
use Rattle.program_steps.proofs.Asking.{behind, closed_value}
use Rattle.walk_words.specs.Changes.{ranged}
use Rattle.call_words.specs.Words.{one_further, change_at, answer_step, answer_term, received}
use Rattle.call_words.specs.Fits.{by_nothing, by_temporary, ResultGoes, none_nowhere, none_to, goes_to}
use Rattle.call_words.proofs.Changing.{one_changes, one_changed}
use Rattle.call_words.proofs.Receiving.{skip_then, received_both}

-- ---- the slot is put back

module _ (m : sense.World) (p : Facts) (s : Shape) (setting : InSetting m p s) (t0 : Table) (i : ℕ → Bool) where
  abbrev a : ℕ
  a = answer_slot (sizes p s)

  back_is : (old st : State) → put_back (a ∷ []) old st ≡ put st a (walk.at_or (pos 0) old a)
  back_is old st = put_same st a (walk.at_or (pos 0) old a)

  stands_back : (f : Temporaries) (c : CoreWorld) (old st : State) → StandsFor p s t0 i f c st → StandsFor p s t0 i f c (put_back (a ∷ []) old st)
  stands_back f c old st stands = subst (StandsFor p s t0 i f c) (sym (back_is old st))
      (slot_set p s setting.globals setting.integers i f c st stands f a (walk.at_or (pos 0) old a) (omega arith) (λ j h. h) (λ j h e. omega (arith, e)))

  pub ends_back : (outs : List Temporaries) (f : Temporaries) (ps : List Place) (n : ℕ) (old : State) (o : Ending) (e : End) → Ends p s t0 i outs f ps n o e
      → Ends p s t0 i outs f ps n o (on_state (put_back (a ∷ []) old) e)
  ends_back outs f ps n old (run.goes_on c) (goes_on st) h = stands_back f c old st h
  ends_back outs f ps n old (run.goes_on c) (leaves l st) h = absurd h
  ends_back outs f ps n old (run.goes_on c) (fails j) h = absurd h
  ends_back outs f ps n old (run.exits k c) (goes_on st) h = absurd h
  ends_back outs f ps n old (run.exits k c) (leaves l st) h = (h.0, h.1, stands_back (out_at outs k) c old st h.2)
  ends_back outs f ps n old (run.exits k c) (fails j) h = absurd h
  ends_back outs f ps n old (run.returns v c) (goes_on st) h = absurd h
  ends_back outs f ps n old (run.returns v c) (leaves l st) h = (
    h.0,
    record {
      stands = stands_back no_temporaries c old st h.1.stands;
      result = h.1.result;
      slot = λ k e. h.1.slot k e ∙ ap number (sym (ap (λ st. at st (result_slot (sizes p s))) (back_is old st)
          ∙ put_elsewhere (pos 0) st a (result_slot (sizes p s)) (walk.at_or (pos 0) old a) (λ e. omega (arith, e))));
    },
  )
  ends_back outs f ps n old (run.returns v c) (fails j) h = absurd h
  ends_back outs f ps n old (run.stopped x) (goes_on st) h = absurd h
  ends_back outs f ps n old (run.stopped x) (leaves l st) h = absurd h
  ends_back outs f ps n old (run.stopped x) (fails j) h = h

-- ---- the slot is filled

module _ (m : sense.World) (p : Facts) (s : Shape) (texts : Texts) (contract : Contract) (q : Program Steps) where
  abbrev word : Option CellKind → Step
  word o = answer_step m p s texts contract q.functions o

  abbrev pub slot : ℕ
  slot = answer_slot (sizes p s)

  -- with a number of the kind, if there is a result
  abbrev pub Answered : Option CellKind → (before after : State) → Type 0
  Answered None st after = after ≡ st
  Answered (Some (cell.Of k)) st after = (after ≡ put st slot (at after slot)) × (holds p.model k (at after slot) ≡ true)
  Answered (Some cell.Ptr) st after = ⊥

  pub answered_length : (o : Option CellKind) (st after : State) → Answered o st after → length after ≡ length st
  answered_length None st after h = ap length h
  answered_length (Some (cell.Of k)) st after h = ap length h.0 ∙ put_length st slot (at after slot)
  answered_length (Some cell.Ptr) st after h = absurd h

  pub answered_else : (o : Option CellKind) (st after : State) → Answered o st after → (j : ℕ) → (j ≡ slot → ⊥) → at after j ≡ at st j
  answered_else None st after h j differ = ap (λ st. at st j) h
  answered_else (Some (cell.Of k)) st after h j differ = ap (λ st. at st j) h.0 ∙ put_elsewhere (pos 0) st slot j (at after slot) (λ e. differ (sym e))
  answered_else (Some cell.Ptr) st after h j differ = absurd h

  pub answer_places : (o : Option CellKind) (b : Step) → places (step.seq (word o) b) ≡ places b
  answer_places None b = refl
  answer_places (Some (cell.Of k)) b = refl
  answer_places (Some cell.Ptr) b = refl

  module _ (olds : List State) (n : ℕ) (b : Step) where
    pub then_answer : (o : Option CellKind) (st after : State) → slot < length st → Answered o st after → (e : End) → Seg olds n b after e → Seg olds n (step.seq (word o) b) st e
    then_answer None st after l h e k = seg.goes_both seg.skips (behind (subst (λ a. Seg olds n b a e) h k))
    then_answer (Some (cell.Of k')) st after l h e k =
        seg.goes_both (seg.changes (subst (seg.Changes (st ∷ olds) (change_at slot (ranged (low p.model k') (high p.model k'))) st) (sym h.0) (one_changes p (st ∷ olds) k' slot st (at after slot) l h.1))) (behind k)
    then_answer (Some cell.Ptr) st after l h e k = absurd h

    pub answer_then : (to : Goal) (i : ℕ → Bool) (o : Option CellKind) → ResultGoes p s i o to → (st : State) → slot < length st → (e : End) → Seg olds n (step.seq (word o) b) st e
        → (after : State) × Answered o st after × Seg olds n b after e
    answer_then _ i _ none_nowhere st l e k = (st, refl, skip_then k)
    answer_then _ i _ (none_to below) st l e k = (st, refl, skip_then k)
    answer_then _ i _ (goes_to {k = k'} r) st l e k = let x = changes_then k in (x.0, one_changed p (st ∷ olds) k' slot st x.0 l x.1, x.2)

  -- ---- what it gives

  abbrev pub ResultAt : Option CellKind → Value → State → Type 0
  ResultAt None v st = v ≡ nought
  ResultAt (Some (cell.Of k)) v st = (v ≡ number (at st slot)) × (holds p.model k (at st slot) ≡ true)
  ResultAt (Some cell.Ptr) v st = ⊥

module _ (m : sense.World) (q : Program Steps) (s : Shape) (texts : Texts) (contract : Contract) (setting : InSetting m q.facts s) (t0 : Table) (here : Here) (pt : Point)
    (olds : List State) (placed : Placed m q.facts s texts contract (one_further pt) here olds) (i : ℕ → Bool) (used f : Temporaries) (c : CoreWorld) (st : State)
    (stands : StandsFor q.facts s t0 i used c st) (v : Value) where
  abbrev p : Facts
  p = q.facts

  abbrev goal_word : Option CellKind → Goal → Step
  goal_word o to = received m p s texts contract q.functions pt to (answer_term m p s texts contract q.functions o)

  pub given_both : (o : Option CellKind) (to : Goal) → ResultGoes p s i o to → ResultAt m p s texts contract q o v st → ((j : ℕ) → (not (goal_temp to j) && f j) ≡ true → used j ≡ true) → (n : ℕ)
      → BothWays (λ x. exec.result_to q no_deeper s.variables here to v c ≡ x) (Ends p s t0 i pt.outs f (places (goal_word o to)) n) olds n (goal_word o to) st
  given_both _ _ none_nowhere result less n =
      received_both m q s texts contract setting t0 here pt olds placed i used f c st stands v (num (pos 0)) kind.Int result (zero_of p.model kind.Int) nowhere by_nothing less n
  given_both _ _ (none_to {n = j} below) result less n =
      received_both m q s texts contract setting t0 here pt olds placed i used f c st stands v (num (pos 0)) (s.temp_kind j) result (zero_of p.model (s.temp_kind j)) (temporary j) (by_temporary below refl) less n
  given_both _ to (goes_to {k = k} r) result less n =
      let a = answer_slot (sizes p s) in
      let is : sense.value m (leaves_of (st ∷ olds)) (closed (leaf 0 a)) ≡ at st a = closed_value m (st ∷ olds) (leaf 0 a) (leaf_closed 0 a) ∙ leaf_value m (st ∷ olds) 0 a in
      received_both m q s texts contract setting t0 here pt olds placed i used f c st stands v (leaf 0 a) k (result.0 ∙ ap number (sym is)) (ap (holds p.model k) is ∙ result.1) to r less n
