-- Words end the blocks that they make.
use Rattle.std.proofs.Common.{◌≡◌, ◌<◌, ℕ, zero, suc, Bool, true, false, not, ◌&&◌, ◌||◌, if◌then◌else◌, pos, List, [], ◌∷◌, ◌++◌, map, length, Option, Some, None, slice_get, refl, sym, ap, ◌∙◌, subst, arith}
use Rattle.std.proofs.lemmas.Bool.{false≢true}
use Rattle.wp_base.specs.declared.kinds.CellKind.{CellKind}
use Rattle.wp_base.specs.declared.kinds.CellKind.TheVariants as cell
use Rattle.typed_prog.specs.declared.types.CoreType.{CoreType}
use Rattle.typed_prog.specs.declared.operators.Path.{Path}
use Rattle.typed_prog.specs.declared.operators.Variable.{Variable}
use Rattle.typed_prog.specs.declared.operators.Variable.TheVariants as variables
use Rattle.typed_prog.specs.Tree as t
use Rattle.qed_terms.specs.Meaning as sense
use Rattle.qed_terms.specs.Tree.{Tree, num}
use Rattle.c_runs.specs.Program as program
use Rattle.c_runs.specs.Program.{Contract, Function, Facts}
use Rattle.c_runs.specs.Objects.{plain_root, cell_of}
use Rattle.c_runs.specs.Tree as core
use Rattle.value_terms.specs.Readings.{Term, as_pointer, plain_global}
use Rattle.value_terms.specs.Words.{Item, asked, known, word_of, words}
use Rattle.value_terms.specs.Places.{way_items}
use Rattle.walk_steps.specs.State.{at_or}
use Rattle.program_steps.specs.Temporaries.{Temporaries, no_temporaries}
use Rattle.memory_steps.specs.Step as step
use Rattle.memory_steps.specs.Step.{Step}
use Rattle.memory_steps.specs.Bracketed.{Behind, keeps_epochs, Comes}
use Rattle.memory_steps.proofs.Bracketed.{epochs_compose}
use Rattle.memory_words.specs.Places.{Place, Sizes, value, offset, flag, result, result_offset, changes_by, temporary, temporary_offset}
use Rattle.memory_words.specs.Leaves.{form}
use Rattle.memory_words.specs.Shapes.{FileCells, Shape, sizes, kind_of}
use Rattle.memory_words.specs.Readings.{Texts, leaf, term_of_kind, reading}
use Rattle.memory_words.specs.Points.{Open, Out, Point, deeper, deeper_out, remembered, in_block, left_by, all_open}
use Rattle.memory_words.specs.Words as word
use Rattle.memory_words.specs.Words.{Others, any_change, items_step, set_number, set_value, assign, put_cell, store_cell, drop, arms, known_test, opened, all_opened, block_opened, plain_opened, scope_ends, all_end, open_scope, in_scope_of, has_home, in_pass}
use Rattle.memory_words.specs.Typed.{OtherFits, WordFits, AllFit}
use Rattle.memory_functions.specs.GoalFunctions.{param_made, params_made, all_params, param_scope, param_scopes, body_point, ending, in_params}
use Rattle.memory_functions.specs.Epochs.{behind_ends, AreEpochs, StaysAt}
use Rattle.memory_functions.specs.GoodLaws.{OthersStay, WordsStay, FunctionsAreBracketed}

-- ---- helps

neither : (a b : Bool) → (a || b) ≡ false → (a ≡ false) × (b ≡ false)
neither false b e = (refl, e)
neither true b e = absurd (false≢true (sym e))

at_level : (ls : List ℕ) (y x : ℕ) (o : Open) (os : List Open) → o.level ≡ 0 → behind_ends (x ∷ ls) y (o ∷ map deeper os) ≡ behind_ends (x ∷ ls) x (map deeper os)
at_level ls y x o os e = ap (λ l. behind_ends (x ∷ ls) (at_or y (x ∷ ls) l) (map deeper os)) e

abbrev is_home : Option program.Variable → Bool
is_home (Some v) = not v.is_plain
is_home None = false

-- ---- steps in whatever epoch

-- it comes back to the epoch in which it began
pub record Stays (a : Step) : Type 0 where
  pub comes : (ls bs : List ℕ) (x : ℕ) → Comes ls bs x a x

-- it comes to some epoch
pub record Arrives (a : Step) : Type 0 where
  pub comes : (ls bs : List ℕ) (x m : ℕ) (go : Behind) → ((m y : ℕ) → go m y ≡ true) → keeps_epochs ls bs a m x go ≡ true

-- one that computes to what comes behind it
pub still : {a : Step} → ((ls bs : List ℕ) (x : ℕ) → Comes ls bs x a x) → Stays a
still h = record { comes = h }

pub both_stay : {a b : Step} → Stays a → Stays b → Stays (step.seq a b)
both_stay {a} {b} h k = record { comes = λ ls bs x. epochs_compose.sequence ls bs x x x a b (h.comes ls bs x) (k.comes ls bs x) }

pub stays_arrives : {a : Step} → Stays a → Arrives a
stays_arrives h = record { comes = λ ls bs x m go so. h.comes ls bs x m go (λ n. so n x) }

pub both_arrive : {a b : Step} → Arrives a → Arrives b → Arrives (step.seq a b)
both_arrive {a} {b} h k = record { comes = λ ls bs x m go so. h.comes ls bs x m (λ n y. keeps_epochs ls bs b n y go) (λ n y. k.comes ls bs y n go so) }

-- behind what comes to some epoch stands what comes from whatever epoch to this one
pub arrives_then : (a b : Step) (ls bs : List ℕ) (x y : ℕ) → Arrives a → ((z : ℕ) → Comes ls bs z b y) → Comes ls bs x (step.seq a b) y
arrives_then a b ls bs x y h k m go so = h.comes ls bs x m (λ n z. keeps_epochs ls bs b n z go) (λ n z. k z n go so)

module _ (m : sense.World) (z : Sizes) where
  pub items_stay : (is : List Item) → Stays (items_step m z is)
  items_stay [] = still (λ ls bs x n go so. so n)
  items_stay (asked c f ∷ is) = both_stay (still (λ ls bs x n go so. so n)) (items_stay is)
  items_stay (known f ∷ is) = both_stay (still (λ ls bs x n go so. so n)) (items_stay is)

  pub value_stays : (k : CellKind) (a b : Place) (v : Term) → Stays (set_value m z k a b v)
  value_stays (cell.Of k) a b v = still (λ ls bs x n go so. so n)
  value_stays cell.Ptr a b v = still (λ ls bs x n go so. so n)

  pub assign_stays : (k : CellKind) (a b : Place) (v : Term) → Stays (assign m z k a b v)
  assign_stays (cell.Of k) a b v = still (λ ls bs x n go so. so n)
  assign_stays cell.Ptr a b v = still (λ ls bs x n go so. so n)

  pub variable_stays : (k : CellKind) (y : Variable) (v : Term) → Stays (word.set_variable m z k y v)
  variable_stays k y v = both_stay (assign_stays k (value y) (offset y) v) (still (λ ls bs x n go so. so n))

  pub store_stays : (k : CellKind) (a : ℕ → Term) (v : Term) → Stays (store_cell m z k a v)
  store_stays (cell.Of k) a v = still (λ ls bs x n go so. so n)
  store_stays cell.Ptr a v = still (λ ls bs x n go so. so n)

  pub drop_stays : (n : ℕ) (f : Temporaries) → Stays (drop m z n f)
  drop_stays zero f = still (λ ls bs x n go so. so n)
  drop_stays (suc n) f = both_stay (drop_stays n f) (by (f n)) where
    by : (b : Bool) → Stays (if b then step.seq (set_number m z (temporary n) (num (pos 0))) (set_number m z (temporary_offset n) (num (pos 0))) else step.skip)
    by true = still (λ ls bs x n go so. so n)
    by false = still (λ ls bs x n go so. so n)

module _ (m : sense.World) (p : Facts) (s : Shape) (cells : FileCells) where
  plain_stays : (x : ℕ) (v : program.Variable) → Stays (plain_opened m p s cells x v)
  plain_stays x v = by v.has_value where
    by : (b : Bool)
        → Stays (if b then word.set_variable m (sizes p s) (kind_of v) (variables.Local x) (word.zero_term m p s cells (kind_of v))
        else step.seq (step.change (changes_by (sizes p s) (any_change m p s cells (kind_of v) x))) (set_number m (sizes p s) (flag (variables.Local x)) (num (pos 0))))
    by true = variable_stays m (sizes p s) (kind_of v) (variables.Local x) (word.zero_term m p s cells (kind_of v))
    by false = still (λ ls bs x n go so. so n)

  pub block_arrives : (x : ℕ) (v : program.Variable) → Arrives (block_opened m p s cells x v)
  block_arrives x v = record { comes = λ ls bs y n go so. so (suc n) (suc n) }

  opened_arrives : (x : ℕ) (o : Option program.Variable) → Arrives (opened m p s cells x o)
  opened_arrives x None = record { comes = λ ls bs y n go so. so n y }
  opened_arrives x (Some v) = by v.is_plain where
    by : (b : Bool) → Arrives (if b then plain_opened m p s cells x v else block_opened m p s cells x v)
    by true = stays_arrives (plain_stays x v)
    by false = block_arrives x v

  opens_arrive : (ys : List ℕ) → Arrives (all_opened m p s cells ys)
  opens_arrive [] = record { comes = λ ls bs y n go so. so n y }
  opens_arrive (x ∷ ys) = both_arrive (opened_arrives x (slice_get s.variables x)) (opens_arrive ys)

  -- those of variables without blocks
  opened_stays : (x : ℕ) (o : Option program.Variable) → is_home o ≡ false → Stays (opened m p s cells x o)
  opened_stays x None e = still (λ ls bs y n go so. so n)
  opened_stays x (Some v) e = by v.is_plain e where
    by : (b : Bool) → not b ≡ false → Stays (if b then plain_opened m p s cells x v else block_opened m p s cells x v)
    by true e = plain_stays x v
    by false e = absurd (false≢true (sym e))

  opens_stay : (ys : List ℕ) → has_home s.variables ys ≡ false → Stays (all_opened m p s cells ys)
  opens_stay [] e = still (λ ls bs y n go so. so n)
  opens_stay (x ∷ ys) e =
      let h = neither (is_home (slice_get s.variables x)) (has_home s.variables ys) e in both_stay (opened_stays x (slice_get s.variables x) h.0) (opens_stay ys h.1)

  -- the blocks of a scope end, and a run is in the epoch of its level
  pub ends_come : (ls bs : List ℕ) (x : ℕ) (o : Open) → Comes ls bs x (scope_ends m p s cells o) (at_or x ls o.level)
  ends_come ls bs x o n go so = so n

  all_ends_come : (ls bs : List ℕ) (x : ℕ) (os : List Open) → Comes ls bs x (all_end m p s cells os) (behind_ends ls x os)
  all_ends_come ls bs x [] = λ n go so. so n
  all_ends_come ls bs x (o ∷ os) =
      epochs_compose.sequence ls bs x (at_or x ls o.level) (behind_ends ls x (o ∷ os)) (scope_ends m p s cells o) (all_end m p s cells os) (ends_come ls bs x o)
      (all_ends_come ls bs (at_or x ls o.level) os)

-- ---- the epochs of points

behind_both : (ls : List ℕ) (x : ℕ) (os ps : List Open) → behind_ends ls x (os ++ ps) ≡ behind_ends ls (behind_ends ls x os) ps
behind_both ls x [] ps = refl
behind_both ls x (o ∷ os) ps = behind_both ls (at_or x ls o.level) os ps

behind_deeper : (ls : List ℕ) (y x : ℕ) (os : List Open) → behind_ends (y ∷ ls) x (map deeper os) ≡ behind_ends ls x os
behind_deeper ls y x [] = refl
behind_deeper ls y x (o ∷ os) = behind_deeper ls y (at_or x ls o.level) os

-- where one more level is remembered
pub epochs_deeper : (ls : List ℕ) (y x : ℕ) (here : List Open) (outs : List Out) (bs : List ℕ) → AreEpochs ls x here outs bs
    → AreEpochs (y ∷ ls) x (map deeper here) (map deeper_out outs) bs
epochs_deeper ls y x here outs [] h = h
epochs_deeper ls y x here [] (b ∷ bs) h = behind_deeper ls y x here ∙ h
epochs_deeper ls y x here (o ∷ outs) (b ∷ bs) h = (behind_deeper ls y x here ∙ h.0, epochs_deeper ls y b o.scopes outs bs h.1)

-- inside of a scope, whose level is the last one, from whatever epoch
pub epochs_inside : (ls : List ℕ) (y x : ℕ) (o : Open) (here : List Open) (outs : List Out) (bs : List ℕ) → o.level ≡ 0 → AreEpochs ls x here outs bs
    → AreEpochs (x ∷ ls) y (o ∷ map deeper here) (map deeper_out outs) bs
epochs_inside ls y x o here outs [] e h = h
epochs_inside ls y x o here [] (b ∷ bs) e h = at_level ls y x o here e ∙ behind_deeper ls x x here ∙ h
epochs_inside ls y x o here (q ∷ outs) (b ∷ bs) e h = (at_level ls y x o here e ∙ behind_deeper ls x x here ∙ h.0, epochs_deeper ls x b q.scopes outs bs h.1)

-- the block of an exit began where the scopes that it leaves have ended
left_epoch : (d : ℕ) (ls : List ℕ) (x : ℕ) (here : List Open) (outs : List Out) (bs : List ℕ) (k : ℕ) → AreEpochs ls x here outs bs → k < suc (length outs)
    → at_or d bs k ≡ behind_ends ls x (left_by k here outs)
left_epoch d ls x here outs [] k h i = absurd h
left_epoch d ls x here [] (b ∷ bs) zero h i = sym h
left_epoch d ls x here [] (b ∷ bs) (suc k) h i = omega (arith, i)
left_epoch d ls x here (o ∷ outs) (b ∷ bs) zero h i = sym h.0
left_epoch d ls x here (o ∷ outs) (b ∷ bs) (suc k) h i =
    left_epoch d ls b o.scopes outs bs k h.1 (omega (arith, i)) ∙ sym (behind_both ls x here (left_by k o.scopes outs) ∙ ap (λ y. behind_ends ls y (left_by k o.scopes outs)) h.0)

all_left : (here : List Open) (outs : List Out) → left_by (length outs) here outs ≡ all_open here outs
all_left here [] = refl
all_left here (o ∷ outs) = ap (λ os. here ++ os) (all_left o.scopes outs)

-- ---- statements

pub both_at : {pt : Point} {a b : Step} → StaysAt pt a → StaysAt pt b → StaysAt pt (step.seq a b)
both_at {pt} {a} {b} h k = record { comes = λ ls bs x e. epochs_compose.sequence ls bs x x x a b (h.comes ls bs x e) (k.comes ls bs x e) }

pub everywhere : {pt : Point} {a : Step} → Stays a → StaysAt pt a
everywhere h = record { comes = λ ls bs x e. h.comes ls bs x }

pub deeper_at : {pt : Point} {a : Step} → StaysAt (remembered pt) a → StaysAt pt (step.remember a)
deeper_at {pt} {a} h =
    record { comes = λ ls bs x e. epochs_compose.remembered ls bs x x a (h.comes (x ∷ ls) bs x (epochs_deeper ls x x pt.scopes pt.outs bs e)) }

pub scoped_at : {pt : Point} {is : List ℕ} {a : Step} → StaysAt pt a → StaysAt pt (step.scope is a)
scoped_at {pt} {is} {a} h = record { comes = λ ls bs x e. epochs_compose.scoped ls bs x x is a (h.comes ls bs x e) }

pub arms_at : {pt : Point} (m : sense.World) (z : Sizes) (o : Option Bool) (g : Tree) {a b : Step} → StaysAt pt a → StaysAt pt b → StaysAt pt (arms m z o g a b)
arms_at m z None g {a} {b} h k = record { comes = λ ls bs x e. epochs_compose.choice ls bs x (form m g) a b (h.comes ls bs x e) (k.comes ls bs x e) }
arms_at m z (Some true) g h k = both_at (everywhere (still (λ ls bs x n go so. so n))) h
arms_at m z (Some false) g h k = both_at (everywhere (still (λ ls bs x n go so. so n))) k

module _ (m : sense.World) (p : Facts) (s : Shape) (cells : FileCells) (texts : Texts) (contract : Contract) (others : Others) where
  exit_comes : (pt : Point) (k : ℕ) → k < suc (length pt.outs) → StaysAt pt (step.seq (all_end m p s cells (left_by k pt.scopes pt.outs)) (step.exit k))
  exit_comes pt k i = record {
    comes = λ ls bs x h.
        let y = behind_ends ls x (left_by k pt.scopes pt.outs) in
        epochs_compose.sequence ls bs x y x (all_end m p s cells (left_by k pt.scopes pt.outs)) (step.exit k) (all_ends_come m p s cells ls bs x (left_by k pt.scopes pt.outs))
        (epochs_compose.out ls bs y x k (left_epoch y ls x pt.scopes pt.outs bs k h i));
  }

  leave_comes : (pt : Point) → StaysAt pt (word.leave_all m p s cells texts contract others pt)
  leave_comes pt =
      subst (λ os. StaysAt pt (step.seq (all_end m p s cells os) (step.exit (length pt.outs)))) (all_left pt.scopes pt.outs) (exit_comes pt (length pt.outs) (omega arith))

  pub store_comes : (o g : Option ℕ) (pt : Point) (l : ℕ) (type : CoreType) (path : Path) (ts : ℕ → List Term) (v : Term)
      → Stays (word.store_by m p s cells texts contract others o g pt l type path ts v)
  store_comes (Some x) g pt l type path ts v = both_stay (still (λ ls bs y n go so. so n)) (variable_stays m (sizes p s) (cell_of type) (variables.Local x) v)
  store_comes None (Some x) pt l type path ts v = both_stay (still (λ ls bs y n go so. so n)) (variable_stays m (sizes p s) (cell_of type) (variables.Global x) v)
  store_comes None None pt l type path ts v =
      both_stay (items_stay m (sizes p s) (way_items p (reading p s cells) type path (ts 0)))
      (both_stay (still (λ ls bs y n go so. so n)) (store_stays m (sizes p s) (cell_of type) (word.address_at m p s cells texts contract others path ts) v))

  pub started_stays : (x : ℕ) (o : Option program.Variable) (v : Term) → Stays (word.start_of m p s cells texts contract others x o v)
  started_stays x None v = still (λ ls bs y n go so. so n)
  started_stays x (Some u) v = by u.is_plain where
    by : (b : Bool)
        → Stays (if b then word.set_variable m (sizes p s) (kind_of u) (variables.Local x) v
        else store_cell m (sizes p s) (kind_of u) (λ l. as_pointer (leaf p s cells l (value (variables.Local x))) (num (pos 0))) v)
    by true = variable_stays m (sizes p s) (kind_of u) (variables.Local x) v
    by false = store_stays m (sizes p s) (kind_of u) (λ l. as_pointer (leaf p s cells l (value (variables.Local x))) (num (pos 0))) v

  result_stays : (o : Option CellKind) (v : Term) → Stays (word.result_set m p s cells texts contract others o v)
  result_stays None v = still (λ ls bs y n go so. so n)
  result_stays (Some k) v = value_stays m (sizes p s) k result result_offset v

  dropped_stays : (f g : Temporaries) → Stays (word.dropped m p s cells texts contract others f g)
  dropped_stays f g = drop_stays m (sizes p s) s.temporaries (λ n. f n && not (g n))

  value_step_stays : (e : t.Value) → Stays (word.value_step m p s cells texts contract others e)
  value_step_stays e = items_stay m (sizes p s) (word_of p s.variables (reading p s cells) e)

  scope_comes : (b : Bool) (pt : Point) (ys : List ℕ) (inner : Point → Step) → has_home s.variables ys ≡ b
      → StaysAt (in_scope_of s cells b pt ys) (inner (in_scope_of s cells b pt ys)) → StaysAt pt (word.scope_word m p s cells texts contract others b pt ys inner)
  scope_comes true pt ys inner e h =
      let at = in_scope_of s cells true pt ys in
      let o = open_scope s cells ys in
      record {
        comes = λ ls bs x k.
            arrives_then (all_opened m p s cells ys) (step.seq (inner at) (scope_ends m p s cells o)) (x ∷ ls) bs x x (opens_arrive m p s cells ys)
            (λ y. epochs_compose.sequence (x ∷ ls) bs y y x (inner at) (scope_ends m p s cells o)
            (h.comes (x ∷ ls) bs y (epochs_inside ls y x o pt.scopes pt.outs bs refl k)) (ends_come m p s cells (x ∷ ls) bs y o));
      }
  scope_comes false pt ys inner e h =
      scoped_at (both_at (everywhere (opens_stay m p s cells ys e)) (record { comes = λ ls bs x k. h.comes ls bs x k }))

  module _ (fits : OtherFits) (good : OthersStay fits others) where
    mutual
      step_comes : (a : core.Step) (pt : Point) (f : Temporaries) → WordFits m p s cells texts fits pt f a → StaysAt pt (word.step m p s cells texts contract others pt a f)
      step_comes (core.set cs n e) pt f h =
          everywhere (both_stay (value_step_stays e) (assign_stays m (sizes p s) (s.temp_kind n) (temporary n) (temporary_offset n) (word.term_in m p s cells texts contract others e)))
      step_comes (core.store cs type l path es) pt f h =
          everywhere (both_stay (items_stay m (sizes p s) (words p s.variables (reading p s cells) es))
          (store_comes (plain_root s.variables path.root) (plain_global p.globals path.root) pt l type path _ _))
      step_comes (core.start cs x e) pt f h = everywhere (both_stay (value_step_stays e) (started_stays x (slice_get s.variables x) _))
      step_comes (core.call cs to n l es) pt f h = good.call pt f cs to n l es h
      step_comes (core.branch cs e a b) pt f h =
          both_at (everywhere (value_step_stays e))
          (arms_at m (sizes p s) (known_test e) _ (both_at (everywhere (dropped_stays _ _)) (steps_come a pt f h.3)) (both_at (everywhere (dropped_stays _ _)) (steps_come b pt f h.4)))
      step_comes (core.repeat l ss) pt f h = good.loop pt l ss (word.steps m p s cells texts contract others (in_pass l pt) ss (λ n. false)) h.0 (steps_come ss (in_pass l pt) (λ n. false) h.1)
      step_comes (core.around ss) pt f h =
          let k = steps_come ss (in_block f pt) f h in
          record {
            comes = λ ls bs x e. epochs_compose.inside ls bs x (word.steps m p s cells texts contract others (in_block f pt) ss f) (k.comes ls (x ∷ bs) x (refl, e));
          }
      step_comes (core.exit k) pt f h = exit_comes pt k (omega (arith, h))
      step_comes (core.give cs None) pt f h = leave_comes pt
      step_comes (core.give cs (Some e)) pt f h =
          both_at (everywhere (value_step_stays e))
          (both_at (everywhere (result_stays s.result _)) (both_at (everywhere (drop_stays m (sizes p s) s.temporaries (λ n. true))) (leave_comes pt)))
      step_comes (core.claim c) pt f h = everywhere (still (λ ls bs x n go so. so n))
      step_comes (core.scope ys ss) pt f h =
          scope_comes (has_home s.variables ys) pt ys (λ pt'. word.steps m p s cells texts contract others pt' ss f) refl (steps_come ss (in_scope_of s cells (has_home s.variables ys) pt ys) f h.1)

      steps_come : (ss : core.Steps) (pt : Point) (f : Temporaries) → AllFit m p s cells texts fits pt f ss → StaysAt pt (word.steps m p s cells texts contract others pt ss f)
      steps_come core.end pt f h = everywhere (still (λ ls bs x n go so. so n))
      steps_come (core.then_ a ss) pt f h = both_at (step_comes a pt _ h.0) (both_at (everywhere (dropped_stays _ _)) (steps_come ss pt f h.1))

pub words_stay : (fits : OtherFits) → WordsStay fits
words_stay fits m p s cells texts contract others good pt f ss h = steps_come m p s cells texts contract others fits good ss pt f h

-- ---- functions

module _ (m : sense.World) (p : Facts) (s : Shape) (cells : FileCells) (texts : Texts) (n : ℕ) where
  made_arrives : (x : ℕ) (o : Option program.Variable) → Arrives (param_made m p s cells texts n x o)
  made_arrives x None = stays_arrives (still (λ ls bs y j go so. so j))
  made_arrives x (Some v) = by v.is_plain where
    by : (b : Bool)
        → Arrives (if b then step.skip else step.seq (block_opened m p s cells x v)
        (store_cell m (sizes p s) (kind_of v) (λ l. as_pointer (leaf p s cells l (value (variables.Local x))) (num (pos 0)))
        (term_of_kind (kind_of v) (leaf p s cells 1 (value (variables.Local x))) (leaf p s cells 1 (offset (variables.Local x))))))
    by true = stays_arrives (still (λ ls bs y j go so. so j))
    by false =
        both_arrive (block_arrives m p s cells x v)
        (stays_arrives (store_stays m (sizes p s) (kind_of v) (λ l. as_pointer (leaf p s cells l (value (variables.Local x))) (num (pos 0)))
        (term_of_kind (kind_of v) (leaf p s cells 1 (value (variables.Local x))) (leaf p s cells 1 (offset (variables.Local x))))))

  params_arrive : (xs : List ℕ) → Arrives (params_made m p s cells texts n xs)
  params_arrive [] = stays_arrives (still (λ ls bs y j go so. so j))
  params_arrive (x ∷ xs) = both_arrive (made_arrives x (slice_get s.variables x)) (params_arrive xs)

  -- from the epoch of the function's entry, in which the block of its body begins
  body_comes : (b : Bool) (inner : Step) → ((y : ℕ) → AreEpochs (0 ∷ []) y (param_scopes m p s cells texts n b) [] (0 ∷ []) → Comes (0 ∷ []) (0 ∷ []) y inner y)
      → Comes (0 ∷ []) (0 ∷ []) 0 (in_params m p s cells texts n b inner) 0
  body_comes true inner h =
      let o = param_scope m p s cells texts n in
      let all = all_params m p s cells texts n in
      arrives_then (params_made m p s cells texts n all) (step.seq inner (scope_ends m p s cells o)) (0 ∷ []) (0 ∷ []) 0 0 (params_arrive all)
      (λ y. epochs_compose.sequence (0 ∷ []) (0 ∷ []) y y 0 inner (scope_ends m p s cells o) (h y refl) (ends_come m p s cells (0 ∷ []) (0 ∷ []) y o))
  body_comes false inner h = h 0 refl

  ending_comes : (o : Option CellKind) (l : ℕ) (ls bs : List ℕ) (x : ℕ) → Comes ls bs x (ending m p s cells texts n o l) x
  ending_comes None l ls bs x = λ j go so. so j
  ending_comes (Some k) l ls bs x = λ j go so. refl

pub functions_are_bracketed : (fits : OtherFits) → FunctionsAreBracketed fits
functions_are_bracketed fits m p s cells texts others good own f h =
    let at = body_point m p s cells texts f.params own in
    let body = word.steps m p s cells texts f.contract others at f.body no_temporaries in
    let end = ending m p s cells texts f.params f.result f.end in
    let k = steps_come m p s cells texts f.contract others fits good f.body at no_temporaries h in
    let inner : Step = in_params m p s cells texts f.params (has_home s.variables (all_params m p s cells texts f.params)) (step.seq body end) in
    let whole : Comes (0 ∷ []) [] 0 (step.block inner) 0 =
    epochs_compose.inside (0 ∷ []) [] 0 inner
    (body_comes m p s cells texts f.params (has_home s.variables (all_params m p s cells texts f.params)) (step.seq body end)
    (λ y e.
    epochs_compose.sequence (0 ∷ []) (0 ∷ []) y y y body end (k.comes (0 ∷ []) (0 ∷ []) y e) (ending_comes m p s cells texts f.params f.result f.end (0 ∷ []) (0 ∷ []) y)))
    in
    whole 0 (λ j x. true) (λ j. refl)
