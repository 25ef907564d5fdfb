-- The way to a cell: the checks of its operands and then its own are asked, and where they are met its terms lead to a cell of the kind.
use Rattle.std.proofs.Common.{◌≡◌, ℕ, suc, ◌+◌, Bool, true, false, ◌&&◌, if◌then◌else◌, ℤ, List, [], ◌∷◌, ◌++◌, length, Option, Some, None, refl, sym, ap, ◌∙◌, subst}
use Rattle.std.specs.List.{list_all}
use Rattle.std.proofs.lemmas.Bool.{and_parts}
use Rattle.std.proofs.lemmas.Option.{none-some}
use Rattle.wp_base.specs.declared.kinds.CellKind.TheVariants as cell
use Rattle.wp_base.specs.Blocks.{is_cell}
use Rattle.typed_prog.specs.declared.types.CoreType.{CoreType}
use Rattle.typed_prog.specs.declared.operators.Path.{Path}
use Rattle.typed_prog.specs.Tree as t
use Rattle.qed_terms.specs.Meaning as sense
use Rattle.qed_terms.specs.Meaning.{truth}
use Rattle.c_runs.specs.TruthStates.{number, pointer, block_of, offset_of}
use Rattle.c_runs.specs.Truth.{value_at}
use Rattle.c_runs.specs.Operators.{truth_number}
use Rattle.c_runs.specs.Told.{Value}
use Rattle.c_runs.specs.Program.{Facts}
use Rattle.c_runs.specs.Objects.{plain_root, is_plain_in, cell_of, address}
use Rattle.c_runs.specs.Operators.{index, access}
use Rattle.c_runs.specs.Claims.{Stop}
use Rattle.c_runs.specs.CoreRun.{CoreWorld}
use Rattle.c_runs.specs.Checks.{Check, all_checks}
use Rattle.c_runs.specs.Tests.{totals}
use Rattle.c_runs.specs.CheckedRun.{asked, is_met_in, place_test, way_test_by, way_values}
use Rattle.c_runs.specs.Adding.{way_checks_by, way_checks, place_checks}
use Rattle.c_runs.proofs.Writing.{place_settle}
use Rattle.goal_segments.specs.RunSegments.{Asks, all_met, met, unmet}
use Rattle.value_terms.specs.Readings.{Term, as_number, as_test, as_pointer, term_at, plain_global}
use Rattle.value_terms.specs.Terms.{terms_of, address_term}
use Rattle.value_terms.specs.Words.{words, checks_in}
use Rattle.value_terms.specs.Places.{TestsWay, way_items}
use Rattle.value_terms.specs.Typed.{ObjectIsTyped}
use Rattle.value_terms.specs.Worlds.{Means}
use Rattle.value_terms.proofs.Places.{operands_are_meant, ways_are_meant}
use Rattle.walk_steps.specs.State.{at_or}
use Rattle.memory_steps.specs.State.{State, state}
use Rattle.memory_steps.specs.Step.{Step, seq, places, count as checks_count}
use Rattle.memory_words.specs.Places.{Place, result, result_offset, answer, answer_offset, temporary, temporary_offset, Sizes}
use Rattle.memory_words.specs.Leaves.{leaves_of, or_false, is_closed}
use Rattle.memory_words.specs.Shapes.{FileCells, Shape, sizes}
use Rattle.memory_words.specs.Readings.{InScope, reading, reading_at}
use Rattle.memory_words.specs.Standing.{Temporaries, Frame, AllLive, StandsFor}
use Rattle.memory_words.specs.Seen.{InSetting, scope_at, is_closed_item, is_closed_term}
use Rattle.memory_words.specs.Typed.{LeadsTo, to_local, to_global, to_cell}
use Rattle.memory_words.specs.Words.{rest_of, items_step}
use Rattle.memory_words.specs.Placed.{Ends, BothWays}
use Rattle.memory_words.specs.Puts.{counts, Keeps, NoPlace, first_value, second_value}
use Rattle.memory_words.specs.Values.{AllEvaluate, LeadsThere, CellIs}
use Rattle.memory_statements.specs.Stored.{SpareChanged, way_terms, values_of_way, IsWay, way_address, IsReached}
use Rattle.memory_statements.specs.StoreLaws.{way_word, WaysAreAsked}
use Rattle.memory_words.proofs.PutStanding.{slots_go_on}
use Rattle.memory_words.proofs.Valued.{operands_evaluate, ways_lead}
use Rattle.memory_words.proofs.Ends.{items_run_well}
use Rattle.memory_statements.proofs.Closed.{block_closed, offset_closed, terms_are_closed}
use Rattle.memory_statements.proofs.Levels.{levels_read}

-- ---- checks that are met

pub asks_all : {test : Check → Bool} {cs : List Check} → Asks test cs None → list_all test cs ≡ true
asks_all {test} {cs} h = by h refl where
  by : {cs : List Check} {o : Option Stop} → Asks test cs o → o ≡ None → list_all test cs ≡ true
  by all_met e = refl
  by (met {c} {cs} t h) e = ap (λ b. b && list_all test cs) t ∙ by h e
  by (unmet t) e = absurd (none-some _ (sym e))

-- ---- ways to cells

-- what is asked of one
pub record ToCell (p : Facts) (s : Shape) (cells : FileCells) (i : InScope) (f : Temporaries) (type : CoreType) (path : Path) (ts : List Term) : Type 0 where
  pub has_blocks : cells.has_blocks ≡ true
  pub has_kind : cells.has_kind (cell_of type) ≡ true
  pub typed : ObjectIsTyped p s.variables (scope_at s cells i f) path.root path.steps (cell_of type)
  pub items : list_all is_closed_item (way_items p (reading p s cells) type path ts) ≡ true
  pub address : is_closed_term (address_term p (reading p s cells) path ts) ≡ true

pub cell_way : (p : Facts) (s : Shape) (cells : FileCells) (i : InScope) (f : Temporaries) (type : CoreType) (path : Path) (ts : List Term)
    → LeadsTo p s cells i f type path ts → plain_root s.variables path.root ≡ None → plain_global p.globals path.root ≡ None → ToCell p s cells i f type path ts
cell_way p s cells i f type path ts (to_local x v r steps found plain kind scoped) no_local no_global =
    absurd (none-some x (sym no_local ∙ ap (plain_root s.variables) r ∙ ap (λ o. if is_plain_in o then Some x else None) found ∙ ap (λ b. if b then Some x else None) plain))
cell_way p s cells i f type path ts (to_global x v r steps found plain kind) no_local no_global =
    absurd (none-some x (sym no_global ∙ ap (plain_global p.globals) r ∙ ap (λ o. if is_plain_in o then Some x else None) found ∙ ap (λ b. if b then Some x else None) plain))
cell_way p s cells i f type path ts (to_cell a b has kind typed items address) no_local no_global = record { has_blocks = has; has_kind = kind; typed = typed; items = items; address = address }

-- ---- operands of a way

behind_first : (P : Term → Value → Type 0) (ts : List Term) (vs : List Value) (i : ℕ) → P (term_at ts (suc i)) (value_at vs (suc i))
    → P (term_at (rest_of ts) i) (value_at (way_values vs) i)
behind_first P [] [] i h = h
behind_first P [] (v ∷ vs) i h = h
behind_first P (t ∷ ts) [] i h = h
behind_first P (t ∷ ts) (v ∷ vs) i h = h

way_operands : (P : Term → Value → Type 0) (stores_first : Bool) (ts : List Term) (vs : List Value) → ((i : ℕ) → P (term_at ts i) (value_at vs i)) → (i : ℕ)
    → P (term_at (way_terms stores_first ts) i) (value_at (values_of_way stores_first vs) i)
way_operands P true ts vs h i = behind_first P ts vs i (h (suc i))
way_operands P false ts vs h i = h i

-- what means a pointer are the terms of one
two_values : (m : sense.World) (sts : List State) (u : Term) (v : Value) (b o : ℤ) → Means m (leaves_of sts) u v → v ≡ pointer b o → is_closed_term u ≡ true
    → (first_value m sts cell.Ptr u ≡ b) × (second_value m sts cell.Ptr u ≡ o)
two_values m sts (as_number t) v b o h e c = absurd (no (sym h ∙ e)) where
  no : {z b o : ℤ} → number z ≡ pointer b o → ⊥
  no e = cc
two_values m sts (as_test f) v b o h e c = absurd (not_truth (truth m (leaves_of sts) f) (sym h ∙ e)) where
  no : {z b o : ℤ} → number z ≡ pointer b o → ⊥
  no e = cc

  not_truth : (t : Bool) → truth_number t ≡ pointer b o → ⊥
  not_truth true e = no e
  not_truth false e = no e
two_values m sts (as_pointer x y) v b o h e c =
    let both = and_parts (is_closed [] x) (is_closed [] y) c in (
      ap (λ t. sense.value m (leaves_of sts) (or_false t x)) both.0 ∙ ap block_of (sym h ∙ e),
      ap (λ t. sense.value m (leaves_of sts) (or_false t y)) both.1 ∙ ap offset_of (sym h ∙ e),
    )

behind_closed : (stores_first : Bool) (ts : List Term) → list_all is_closed_term ts ≡ true → list_all is_closed_term (way_terms stores_first ts) ≡ true
behind_closed true [] h = refl
behind_closed true (t ∷ ts) h = (and_parts (is_closed_term t) (list_all is_closed_term ts) h).1
behind_closed false ts h = h

-- ---- what counts

counts_more : (f : Temporaries) (a : Place) → counts f a ≡ true → counts (λ n. true) a ≡ true
counts_more f (temporary n) h = refl
counts_more f (temporary_offset n) h = refl
counts_more f result h = h
counts_more f result_offset h = h
counts_more f answer h = h
counts_more f answer_offset h = h
counts_more f _ h = refl

spare_keeps : (z : Sizes) (f : Temporaries) (old new : State) → SpareChanged z old new → Keeps z f NoPlace old new
spare_keeps z f old new k = record { size = k.size; table = k.table; same = λ a there counted other. k.same a there (counts_more f a counted) other; sorted = k.sorted }

pub at_behind : (sts : List State) (st : State) (olds : List State) → at_or (state [] []) (sts ++ st ∷ olds) (length sts) ≡ st
at_behind [] st olds = refl
at_behind (x ∷ sts) st olds = at_behind sts st olds

-- ---- a way that is met

module _ (m : sense.World) (p : Facts) (s : Shape) (cells : FileCells) (setting : InSetting m p s cells) (fr : Frame) (live : AllLive fr) (f : Temporaries) (c : CoreWorld)
    (olds : List State) (stores_first : Bool) (cs : List Check) (type : CoreType) (path : Path) (es : t.Values) (way : IsWay p s cells fr.in_scope f stores_first cs type path es) where
  abbrev z : Sizes
  z = sizes p s

  abbrev ts : List Term
  ts = way_terms stores_first (terms_of p s.variables (reading p s cells) es)

  abbrev vs : List Value
  vs = values_of_way stores_first (totals p s.variables c.temps c.world es)

  abbrev tests : Check → Bool
  tests = place_test p s.variables c.temps c.world type path vs es

  abbrev operand_tests : Check → Bool
  operand_tests = is_met_in p s.variables c.temps c.world es

  abbrev a : Term
  a = address_term p (reading p s cells) path ts

  to : ToCell p s cells fr.in_scope f type path ts
  to = cell_way p s cells fr.in_scope f type path ts way.way way.no_local way.no_global

  tests_way : TestsWay tests p c.world type path vs
  tests_way = record {
    index = λ line n. ap (λ r. way_test_by r p c.world type path index n vs) way.no_local;
    access = ap (λ r. way_test_by r p c.world type path access 0 vs) way.no_local;
  }

  module _ (operands_met : list_all operand_tests (all_checks s.variables es) ≡ true) where
    -- in any slots that stand for the world
    evaluated : (st : State) → StandsFor p s cells fr f c st → AllEvaluate m p s cells c st olds es
    evaluated st stands = operands_evaluate m p s cells setting fr live f c st stands olds es way.values

    leads_there : (st : State) → StandsFor p s cells fr f c st → LeadsThere m p s cells c st olds type path ts vs tests
    leads_there st stands =
        ways_lead m p s cells setting fr live f c st stands olds ts vs
        (way_operands (Means m (leaves_of (st ∷ olds))) stores_first (terms_of p s.variables (reading p s cells) es) (totals p s.variables c.temps c.world es)
        ((evaluated st stands).means operands_met))
        type path to.has_blocks to.typed to.address tests tests_way

    module _ (way_met : list_all tests (checks_in (way_items p (reading p s cells) type path ts)) ≡ true) where
      cell_is : (st : State) → StandsFor p s cells fr f c st → CellIs m p s cells c st olds type path ts vs
      cell_is st stands = (leads_there st stands).cell way_met

      -- by the level of the state that is read
      address_closed : (l : ℕ) → is_closed_term (way_address p s cells stores_first path es l) ≡ true
      address_closed l =
          (terms_are_closed p s cells l).address path (way_terms stores_first (terms_of p s.variables (reading_at p s cells l) es))
          (behind_closed stores_first (terms_of p s.variables (reading_at p s cells l) es) ((terms_are_closed p s cells l).terms es))

      address_means : (sts : List State) (l : ℕ) → StandsFor p s cells fr f c (at_or (state [] []) sts l)
          → Means m (leaves_of sts) (way_address p s cells stores_first path es l) (address p c.world path vs)
      address_means sts l stands =
          let env = leaves_of sts in
          let r = reading_at p s cells l in
          let scope = scope_at s cells fr.in_scope f in
          let stood = levels_read m p s cells setting fr live f c sts l stands in
          let operands = operands_are_meant m env r p s.variables scope c.temps c.world stood es way.values.typed in
          (ways_are_meant m env r p s.variables scope c.temps c.world stood (way_terms stores_first (terms_of p s.variables r es)) vs
          (way_operands (Means m env) stores_first (terms_of p s.variables r es) (totals p s.variables c.temps c.world es) (operands.terms operands_met))
          type path to.has_blocks to.typed tests tests_way).target

      reached : (st : State) → StandsFor p s cells fr f c st → IsReached p s cells m olds c st stores_first type path es
      reached st stands =
          let here = cell_is st stands in
          let b = first_value m (st ∷ olds) cell.Ptr a in
          let o = second_value m (st ∷ olds) cell.Ptr a in
          let again = λ (new : State) (k : SpareChanged z st new). slots_go_on p s cells fr f c st stands f (λ j h. h) new (spare_keeps z f st new k) in
          let later : (new : State) → SpareChanged z st new → (sts : List State)
          → (first_value m (sts ++ new ∷ olds) cell.Ptr (way_address p s cells stores_first path es (length sts)) ≡ b)
          × (second_value m (sts ++ new ∷ olds) cell.Ptr (way_address p s cells stores_first path es (length sts)) ≡ o) =
          λ new k sts.
          two_values m (sts ++ new ∷ olds) (way_address p s cells stores_first path es (length sts)) (address p c.world path vs) b o
          (address_means (sts ++ new ∷ olds) (length sts) (subst (StandsFor p s cells fr f c) (sym (at_behind sts new olds)) (again new k))) here.target
          (address_closed (length sts)) in
          record {
            operands = (evaluated st stands).values operands_met;
            block = b;
            offset = o;
            address_is = here.target;
            leads = record {
              closed_block = λ l. block_closed (way_address p s cells stores_first path es l) (address_closed l);
              closed_offset = λ l. offset_closed (way_address p s cells stores_first path es l) (address_closed l);
              block = λ new k sts. (later new k sts).0;
              offset = λ new k sts. (later new k sts).1;
            };
            cell = subst (λ v. is_cell (cell_of type) c.world.memory.blocks (block_of v) (offset_of v) ≡ true) here.target here.there;
          }

-- ---- the word

pub ways_are_asked : WaysAreAsked
ways_are_asked m p s cells setting fr live f c st stands olds os outs after stores_first cs type path es way n b behind tail =
    subst (λ cs. BothWays (λ e. asked cs test behind ≡ e) (Ends p s cells fr os outs after (places word) n) olds n word st) (sym all_are)
    (subst (λ x. BothWays (λ e. x ≡ e) (Ends p s cells fr os outs after (places word) n) olds n word st)
    (place_settle p s.variables c.temps c.world type path (vs m p s cells setting fr live f c olds stores_first cs type path es way) es behind) outer) where
      test : Check → Bool
      test = tests m p s cells setting fr live f c olds stores_first cs type path es way

      operand_test : Check → Bool
      operand_test = operand_tests m p s cells setting fr live f c olds stores_first cs type path es way

      word : Step
      word = way_word m p s cells stores_first type path es b

      own : List Check
      own = way_checks s.variables path

      own_are : way_checks_by None path ≡ own
      own_are = ap (λ r. way_checks_by r path) (sym way.no_local)

      all_are : cs ≡ place_checks s.variables path es
      all_are = way.checks ∙ ap (λ r. all_checks s.variables es ++ r) own_are

      inner_word : Step
      inner_word = seq (items_step m (sizes p s) (way_items p (reading p s cells) type path (way_terms stores_first (terms_of p s.variables (reading p s cells) es)))) b

      op : AllEvaluate m p s cells c st olds es
      op = operands_evaluate m p s cells setting fr live f c st stands olds es way.values

      inner : Asks operand_test (all_checks s.variables es) None → (n' : ℕ)
          → BothWays (λ e. asked own test behind ≡ e) (Ends p s cells fr os outs after (places inner_word) n') olds n' inner_word st
      inner asks n' =
          let operands_met = asks_all asks in
          let lead = leads_there m p s cells setting fr live f c olds stores_first cs type path es way operands_met st stands in
          items_run_well m p s cells fr os outs after (sizes p s) olds st test (way_items p (reading p s cells) type path (way_terms stores_first (terms_of p s.variables (reading p s cells) es)))
          (to m p s cells setting fr live f c olds stores_first cs type path es way).items lead.says own (lead.checks ∙ own_are) n' b behind
          (λ own_asks. tail
          (reached m p s cells setting fr live f c olds stores_first cs type path es way operands_met (ap (list_all test) (lead.checks ∙ own_are) ∙ asks_all own_asks) st stands)
          (n' + checks_count (items_step m (sizes p s) (way_items p (reading p s cells) type path (way_terms stores_first (terms_of p s.variables (reading p s cells) es))))))

      outer : BothWays (λ e. asked (all_checks s.variables es) operand_test (asked own test behind) ≡ e) (Ends p s cells fr os outs after (places word) n) olds n word st
      outer =
          items_run_well m p s cells fr os outs after (sizes p s) olds st operand_test (words p s.variables (reading p s cells) es) way.values.items op.says (all_checks s.variables es) op.checks n
          inner_word (asked own test behind) (λ asks. inner asks (n + checks_count (items_step m (sizes p s) (words p s.variables (reading p s cells) es))))
