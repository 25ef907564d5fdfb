-- Statements with others in them, in the words of the code.
use Rattle.std.proofs.Common.{◌≡◌, ◌<◌, ◌≤◌, ℕ, suc, ◌+◌, Bool, true, false, ◌&&◌, List, [], ◌∷◌, ◌++◌, map, length, drop, get_or, Option, Some, None, refl, sym, ap, ◌∙◌, subst}
use Rattle.std.specs.Prelude.{Result, Ok, Err, IfOk}
use Rattle.std.proofs.lemmas.List.{at_drop_more, at_drop_all}
use Rattle.qed_terms.specs.Tree.{Tree, not_of}
use Rattle.c_runs.specs.Program.{Function}
use Rattle.plain_runs.specs.Fitting.{sizes}
use Rattle.typed_prog.specs.Tree as t
use Rattle.c_runs.specs.Tree as core
use Rattle.c_runs.specs.Checks.{Check}
use Rattle.value_terms.specs.Readings.{Term, condition}
use Rattle.plain_states.specs.Slots.{sizes_of}
use Rattle.value_words.specs.Laws.{IsClosed}
use Rattle.walk_steps.specs.Forms.{Form}
use Rattle.walk_steps.specs.World.{World}
use Rattle.walk_steps.specs.Step as steps
use Rattle.walk_steps.specs.Step.{Step}
use Rattle.walk_steps.specs.Walk.{Goal}
use Rattle.program_steps.specs.Leaves.{fill, closed, is_closed, form}
use Rattle.program_steps.specs.Temporaries.{Temporaries, all_live}
use Rattle.program_steps.specs.Terms.{Texts}
use Rattle.program_steps.specs.Words as words
use Rattle.checked_trees.specs.declared.steps.Step as memory
use Rattle.checked_trees.specs.View.{view_step, view_steps}
use Rattle.walk_live.specs.Bits.{all_bits, bits, behind_each, unused_in, unused_behind}
use Rattle.walk_live.specs.declared.behind.Behind.{Behind}
use Rattle.step_walks.specs.Walks.{Held, Walks, states, now_knows}
use Rattle.step_walks.specs.Ways.{BlockEnds, now_inside, now_put_back}
use Rattle.step_walks.proofs.Walking.{seq_goes, know_walks, block_walks, scope_walks}
use Rattle.step_walks.proofs.Along.{Along, along_turn, along_same, along_stops}
use Rattle.walk_frames.specs.declared.frames.Frame.{Frame}
use Rattle.walk_frames.specs.View.{facts_in, variables_in, shape_in}
use Rattle.program_walk.specs.View.{Over, arm_word, step_word, steps_word}
use Rattle.walk_frames.specs.Words.{Still, condition_word, return_word}
use Rattle.walk_frames.specs.Evaluated.{Evaluated}
use Rattle.walk_frames.proofs.Asking.{closed_is}
use Rattle.walk_frames.proofs.Moving.{moved}

-- ---- lists

pub steps_at : (xs : List memory.Step) (i : ℕ) (x : memory.Step) → i < length xs → x ≡ get_or xs i x → view_steps (drop i xs) ≡ core.then_ (view_step x) (view_steps (drop (i + 1) xs))
steps_at xs i x lt is = at_drop_more view_steps xs i x lt ∙ ap (λ y. core.then_ (view_step y) (view_steps (drop (i + 1) xs))) (sym is)

pub steps_over : (xs : List memory.Step) (i : ℕ) → length xs ≤ i → view_steps (drop i xs) ≡ core.end
steps_over xs i le = at_drop_all view_steps xs i le

abbrev behind_one : ℕ → List Temporaries → Temporaries → core.Step → core.Steps → Behind
behind_one c os f s ss = record { live = bits c (all_live ss os f); unused = bits c (unused_behind s os (all_live ss os f)) }

pub behind_at : (c : ℕ) (os : List Temporaries) (f : Temporaries) (xs : List memory.Step) (i : ℕ) (x : memory.Step) → i < length xs → x ≡ get_or xs i x
    → behind_each c os f (map view_step (drop i xs)) ≡ behind_each c os f (map view_step (drop (i + 1) xs)) ++ behind_one c os f (view_step x) (view_steps (drop (i + 1) xs)) ∷ []
behind_at c os f xs i x lt is =
    at_drop_more (λ ys. behind_each c os f (map view_step ys)) xs i x lt
    ∙ ap (λ y. behind_each c os f (map view_step (drop (i + 1) xs)) ++ behind_one c os f (view_step y) (view_steps (drop (i + 1) xs)) ∷ []) (sym is)

pub outs_long : (n : ℕ) (os : List Temporaries) (outs : List (List Bool)) → outs ≡ all_bits n os → length outs ≡ length os
outs_long n os outs e = ap length e ∙ by os
  where
    by : (os : List Temporaries) → length (all_bits n os) ≡ length os
    by [] = refl
    by (f ∷ fs) = ap suc (by fs)

-- a test that isn't so is closed where it is
not_closed : (t : Tree) → is_closed [] t ≡ true → is_closed [] (not_of t) ≡ true
not_closed t h = ap (λ b. b && true) h

module _ (g : Over) (x : Frame) (fs : ℕ → Option (Function core.Steps)) (text : Texts) (pt : words.Point) (f : Temporaries) where
  -- ---- branches

  pub arm_walks : {p q r : Held} {fit fit' : List Goal → Type 0} {goes : Bool} (u : Temporaries) (ss : core.Steps)
      → ((gs : List Goal) → Walks x.bases.now (words.drop g.world (sizes_of (facts_in x) (variables_in x)) x.temporaries u) p q (Still gs) (Still gs) true)
      → Walks x.bases.now (steps_word g x fs text pt ss f) q r fit fit' goes → Walks x.bases.now (arm_word g x fs text pt u ss f) p r fit fit' goes
  arm_walks u ss h k = seq_goes (moved h) k

  abbrev pub own_arm : t.Value → (own other : core.Steps) → Step
  own_arm e own other = arm_word g x fs text pt (unused_in e other own pt.outs f) own f

  abbrev pub test_form : t.Value → Form
  test_form e = form g.world (condition_word g.world (facts_in x) (variables_in x) e)

  module _ {p q : Held} {fit fit' : List Goal → Type 0} (cs : List Check) (e : t.Value) (a b : core.Steps) (made : Term) (closed_e : IsClosed (facts_in x) (shape_in x g.kinds) e)
      (ev : Evaluated g.world x.bases.now (facts_in x) (variables_in x) e made p q fit fit') where
    by_test : {r : Held} {fit'' : List Goal → Type 0} {goes : Bool} (o : Option Bool) → words.known_test e ≡ o
        → Walks x.bases.now (words.arms g.world o (condition_word g.world (facts_in x) (variables_in x) e) (own_arm e a b) (own_arm e b a)) q r fit' fit'' goes
        → Walks x.bases.now (step_word g x fs text pt (core.branch cs e a b) f) p r fit fit'' goes
    by_test {r = r} {fit'' = fit''} {goes = goes} o is h = seq_goes ev.walks
        (subst (λ o. Walks x.bases.now (words.arms g.world o (condition_word g.world (facts_in x) (variables_in x) e) (own_arm e a b) (own_arm e b a)) q r fit' fit'' goes) (sym is) h)

    -- it is known which way it goes
    pub first_alone : {r : Held} {fit'' : List Goal → Type 0} {goes : Bool} → words.known_test e ≡ Some true → Walks x.bases.now (own_arm e a b) (now_knows q (condition made ∷ [])) r fit' fit'' goes
        → Walks x.bases.now (step_word g x fs text pt (core.branch cs e a b) f) p r fit fit'' goes
    first_alone is h = by_test (Some true) is (seq_goes (know_walks (test_form e) (condition made) ev.condition refl) h)

    pub second_alone : {r : Held} {fit'' : List Goal → Type 0} {goes : Bool} → words.known_test e ≡ Some false → Walks x.bases.now (own_arm e b a) (now_knows q (not_of (condition made) ∷ [])) r fit' fit'' goes
        → Walks x.bases.now (step_word g x fs text pt (core.branch cs e a b) f) p r fit fit'' goes
    second_alone is h =
        let c = condition_word g.world (facts_in x) (variables_in x) e in
        let so : fill (states q) (closed (not_of c)) ≡ not_of (condition made) =
        ap (fill (states q)) (closed_is (not_of c) (not_closed c closed_e.condition)) ∙ ap not_of (ap (fill (states q)) (sym (closed_is c closed_e.condition)) ∙ ev.condition) in
        by_test (Some false) is (seq_goes (know_walks (form g.world (not_of c)) (not_of (condition made)) so refl) h)

    -- both ways
    pub both_arms : {r : Held} {fit'' : List Goal → Type 0} {goes : Bool} → words.known_test e ≡ None → Walks x.bases.now (steps.choose (test_form e) (own_arm e a b) (own_arm e b a)) q r fit' fit'' goes
        → Walks x.bases.now (step_word g x fs text pt (core.branch cs e a b) f) p r fit fit'' goes
    both_arms is h = by_test None is h

  -- a statement by what it is seen as
  pub told : {E : Type 0} (p q : Held) (fit fit' : List Goal → Type 0) (r : Result Bool E) (s s' : core.Step) → s ≡ s' → IfOk r (λ goes. Walks x.bases.now (step_word g x fs text pt s' f) p q fit fit' goes)
      → IfOk r (λ goes. Walks x.bases.now (step_word g x fs text pt s f) p q fit fit' goes)
  told p q fit fit' r s s' e h = subst (λ a. IfOk r (λ goes. Walks x.bases.now (step_word g x fs text pt a f) p q fit fit' goes)) (sym e) h

  pub return_told : {E : Type 0} (p q : Held) (fit fit' : List Goal → Type 0) (r : Result Bool E) (cs : List Check) (n : ℕ) (o : Option t.Value) → n ≡ length pt.outs
      → IfOk r (λ goes. Walks x.bases.now (return_word g.world (facts_in x) (variables_in x) x.temporaries n o) p q fit fit' goes) → IfOk r (λ goes. Walks x.bases.now (step_word g x fs text pt (core.give cs o) f) p q fit fit' goes)
  return_told p q fit fit' r cs n o e h =
      subst (λ a. IfOk r (λ goes. Walks x.bases.now a p q fit fit' goes)) (ap (λ k. return_word g.world (facts_in x) (variables_in x) x.temporaries k o) e ∙ by o) h
    where
      by : (o : Option t.Value) → return_word g.world (facts_in x) (variables_in x) x.temporaries (length pt.outs) o ≡ step_word g x fs text pt (core.give cs o) f
      by None = refl
      by (Some v) = refl

  -- ---- statements, one after the other

  module _ (s : core.Step) (ss : core.Steps) {start now : Held} {fit fit₁ : List Goal → Type 0} {rest whole : Step}
      (so : Along x.bases.now start now fit fit₁ rest whole) (is : rest ≡ steps_word g x fs text pt (core.then_ s ss) f) where
    pub statement_stops : {new : Held} {fit₂ : List Goal → Type 0} → Walks x.bases.now (step_word g x fs text pt s (all_live ss pt.outs f)) now new fit₁ fit₂ false → Walks x.bases.now whole start new fit fit₂ false
    statement_stops h = along_stops (along_same so is) h

    pub statement_goes : {new after : Held} {fit₂ : List Goal → Type 0} → Walks x.bases.now (step_word g x fs text pt s (all_live ss pt.outs f)) now new fit₁ fit₂ true
        → ((gs : List Goal) → Walks x.bases.now (words.drop g.world (sizes_of (facts_in x) (variables_in x)) x.temporaries (unused_behind s pt.outs (all_live ss pt.outs f))) new after (Still gs) (Still gs) true)
        → Along x.bases.now start after fit fit₂ (steps_word g x fs text pt ss f) whole
    statement_goes h k = along_turn (along_turn (along_same so is) h) (moved k)

  -- ---- blocks

  pub around_walks : {p inside q r : Held} {fit fit' : List Goal → Type 0} {goes on : Bool} (ss : core.Steps) (outer : ℕ → List World) → inside ≡ now_inside p → outer ≡ p.left
      → Walks x.bases.now (steps_word g x fs text (words.in_block f pt) ss f) inside q fit fit' goes → BlockEnds x.bases.now outer goes q r on
      → Walks x.bases.now (step_word g x fs text pt (core.around ss) f) p r fit fit' on
  around_walks {q = q} {r = r} {fit = fit} {fit' = fit'} {goes = goes} {on = on} ss outer e l h k =
      block_walks (subst (λ (i : Held). Walks x.bases.now (steps_word g x fs text (words.in_block f pt) ss f) i q fit fit' goes) e h)
      (subst (λ outer. BlockEnds x.bases.now outer goes q r on) l k)

  pub scope_walk : {p inside opened q r : Held} {fit fit' : List Goal → Type 0} {goes : Bool} (ys : List ℕ) (ss : core.Steps) (w : World) (outer : ℕ → List World) → w.slots ≡ p.world.slots
      → inside ≡ now_inside p → outer ≡ p.left
      → ((gs : List Goal) → Walks x.bases.now (words.all_opened g.world (shape_in x g.kinds) (sizes (facts_in x) (shape_in x g.kinds)) ys) inside opened (Still gs) (Still gs) true)
      → Walks x.bases.now (steps_word g x fs text pt ss f) opened q fit fit' goes → r ≡ now_put_back (words.slots_of (sizes (facts_in x) (shape_in x g.kinds)) ys) w outer q
      → Walks x.bases.now (step_word g x fs text pt (core.scope ys ss) f) p r fit fit' goes
  scope_walk {opened = opened} {q = q} {fit = fit} {fit' = fit'} {goes = goes} ys ss w outer same e l starts h k =
      let both = seq_goes (moved starts) h in
      scope_walks (words.slots_of (sizes (facts_in x) (shape_in x g.kinds)) ys) w same
      (subst (λ (i : Held). Walks x.bases.now (steps.seq (words.all_opened g.world (shape_in x g.kinds) (sizes (facts_in x) (shape_in x g.kinds)) ys) (steps_word g x fs text pt ss f)) i q fit fit' goes) e both)
      (k ∙ ap (λ outer. now_put_back (words.slots_of (sizes (facts_in x) (shape_in x g.kinds)) ys) w outer q) l)

-- what passes no goals on
pub still_told : {E : Type 0} (bases : List (List ℕ)) (a : Step) (p q : Held) (fit : List Goal → Type 0) (r : Result Bool E) → ((gs : List Goal) → IfOk r (λ goes. Walks bases a p q (Still gs) (Still gs) goes))
    → IfOk r (λ goes. Walks bases a p q fit fit goes)
still_told bases a p q fit (Ok b) h = moved h
still_told bases a p q fit (Err e) h = h []

-- what there is, if memory was enough, is told otherwise
pub if_ok_more : {X E : Type 0} {P Q : X → Type 0} (r : Result X E) → ((x : X) → P x → Q x) → IfOk r P → IfOk r Q
if_ok_more (Ok x) f h = f x h
if_ok_more (Err e) f h = h
