-- The readings of a function, and of one that it calls, are over leaves, and give what their variables tell.
use Rattle.std.proofs.Common.{◌≡◌, ℕ, [], Option, Some, None, refl, sym, ap, ◌∙◌, subst}
use Rattle.wp_base.specs.declared.kinds.CellKind.{CellKind}
use Rattle.typed_prog.specs.Tree as t
use Rattle.acsl_trees.specs.Tree as acsl
use Rattle.qed_terms.specs.Meaning as sense
use Rattle.c_runs.specs.Program.{Function, Facts}
use Rattle.c_runs.specs.Tree.{Steps}
use Rattle.acsl_encode.specs.Readings.{Seen, Terms, Reading, nothing}
use Rattle.acsl_encode.specs.Calls.{CallsStand}
use Rattle.c_runs.specs.Truth.{calls_of}
use Rattle.acsl_well_typed.specs.WellTyped.{What}
use Rattle.annotations_encoded.specs.Sights.{Sight, sight_of, value_given, sights_of}
use Rattle.memory_words.specs.Places.{result, result_offset, answer, answer_offset}
use Rattle.memory_words.specs.Shapes.{FileCells, Shape}
use Rattle.memory_words.specs.Readings.{InScope, Texts, Standpoint, terms_of_kind, leaf, seen_in_body, seen_by_contract, seen_at_loop, common_of, body_reading, entry_reading, return_reading}
use Rattle.memory_calls.specs.LoopFits.{has_level}
use Rattle.memory_calls.specs.Callee.{callee_seen, entered_at, returned_from}
use Rattle.leaf_annotations.specs.Closed.{TermsClosed, SeenClosed, ReadingClosed}
use Rattle.leaf_annotations.specs.Sorted.{TermsSorted, SeenSorted, ReadingSorted}
use Rattle.typed_annotations.specs.Sights.{params_of, sights, in_body, in_contract, at_loop, result_given}
use Rattle.typed_annotations.specs.Claims.{TextsFit, Reads}
use Rattle.typed_annotations.specs.Laws.{OwnReadings, CalleeReadings, FunctionsRead, CalleesRead}
use Rattle.typed_annotations.proofs.Slots.{numbered_marked, body_open, contract_open, callee_open, seen_closed, seen_sorted, seen_sight, result_closed, result_sorted, result_is}

-- a state that is closed, sorted and gives this
record Fine (s : Seen) (z : Sight) : Type 0 where
  closed : SeenClosed s
  sorted : SeenSorted s
  sight : sight_of s ≡ z

record FineTerms (x : Terms) (o : Option What) : Type 0 where
  closed : TermsClosed [] x
  sorted : TermsSorted x
  given : value_given x ≡ o

no_result : FineTerms nothing None
no_result = record { closed = tt; sorted = tt; given = refl }

module _ (m : sense.World) (p : Facts) (s : Shape) (cells : FileCells) (texts : Texts) (fit : TextsFit m p s cells texts) (a : acsl.Tree) where
  abbrev over : (here entry loop_entry : Seen) → Terms → Reading
  over h e l x = record { here = h; pre = e; post = h; loop_entry = l; result = x; common = common_of p s cells texts a; called = texts.called }

  reads : (h e l : Seen) (x : Terms) (zh ze zl : Sight) (o : Option What) → Fine h zh → Fine e ze → Fine l zl → FineTerms x o
      → (r : acsl.Tree → Reading) → r a ≡ over h e l x → Reads m p texts (sights p cells texts zh ze zl o) r a
  reads h e l x zh ze zl o fh fe fl fx r is = record {
    sights = ap sights_of is ∙ (λ i. sights p cells texts (fh.sight i) (fe.sight i) (fl.sight i) (fx.given i));
    over = record {
      closed = subst ReadingClosed (sym is) (record {
        here = fh.closed;
        pre = fe.closed;
        post = fh.closed;
        loop_entry = fl.closed;
        result = fx.closed;
        binders = λ n. numbered_marked (texts.binders a) n;
      });
      sorted = subst ReadingSorted (sym is) (record { here = fh.sorted; pre = fe.sorted; post = fh.sorted; loop_entry = fl.sorted; result = fx.sorted });
      spelled = fit.binders a;
      binders = λ n. ap (λ (r : Reading). r.common.binder n) is;
    };
    calls = subst (λ (r : Reading). CallsStand m.apps (calls_of p.definitions) r.common r.called) (sym is) (fit.calls a);
  }

  body_fine : (l : ℕ) (i : InScope) → Fine (seen_in_body p s cells l i) (in_body p cells texts s.variables i)
  body_fine l i = record {
    closed = seen_closed p s cells l _ _ (body_open p s cells l i);
    sorted = seen_sorted p s cells l _ _ (body_open p s cells l i);
    sight = seen_sight p s cells l _ _ (body_open p s cells l i);
  }

  contract_fine : (g l : ℕ) (i : InScope) → Fine (seen_by_contract p s cells g l i) (in_contract p cells texts s.variables i)
  contract_fine g l i = record {
    closed = seen_closed p s cells g _ _ (contract_open p s cells g l i);
    sorted = seen_sorted p s cells g _ _ (contract_open p s cells g l i);
    sight = seen_sight p s cells g _ _ (contract_open p s cells g l i);
  }

  loop_fine : (sp : Standpoint) (o : Option ℕ) → Fine (seen_at_loop p s cells texts sp o) (at_loop p cells texts s.variables (has_level o) sp.loop_scope sp.is_param)
  loop_fine sp (Some l) = body_fine l sp.loop_scope
  loop_fine sp None = contract_fine sp.entry sp.entry sp.is_param

  result_fine : (o : Option CellKind) (l : ℕ) (x y : _) → FineTerms (terms_of_kind o (leaf p s cells l x) (leaf p s cells l y)) (result_given o)
  result_fine o l x y = record { closed = result_closed p s cells o l x y; sorted = result_sorted p s cells o l x y; given = result_is p s cells o l x y }

  pub own_readings : OwnReadings m p s cells texts a
  own_readings = record {
    body = λ sp.
        reads (seen_in_body p s cells sp.here sp.in_scope) (seen_by_contract p s cells sp.entry sp.entry sp.is_param) (seen_at_loop p s cells texts sp sp.loop_entry) nothing
        (in_body p cells texts s.variables sp.in_scope) (in_contract p cells texts s.variables sp.is_param)
        (at_loop p cells texts s.variables (has_level sp.loop_entry) sp.loop_scope sp.is_param) None (body_fine sp.here sp.in_scope)
        (contract_fine sp.entry sp.entry sp.is_param) (loop_fine sp sp.loop_entry) no_result (body_reading p s cells texts sp) refl;
    entry = λ e i.
        reads (seen_by_contract p s cells e e i) (seen_by_contract p s cells e e i) (seen_by_contract p s cells e e i) nothing
        (in_contract p cells texts s.variables i) (in_contract p cells texts s.variables i) (in_contract p cells texts s.variables i) None
        (contract_fine e e i) (contract_fine e e i) (contract_fine e e i) no_result (entry_reading p s cells texts e i) refl;
    back = λ e i.
        reads (seen_by_contract p s cells 0 e i) (seen_by_contract p s cells e e i) (seen_by_contract p s cells e e i)
        (terms_of_kind s.result (leaf p s cells 0 result) (leaf p s cells 0 result_offset))
        (in_contract p cells texts s.variables i) (in_contract p cells texts s.variables i) (in_contract p cells texts s.variables i) (result_given s.result)
        (contract_fine 0 e i) (contract_fine e e i) (contract_fine e e i) (result_fine s.result 0 result result_offset) (return_reading p s cells texts e i) refl;
  }

  module _ (f : Function Steps) (es : t.Values) where
    callee_fine : (g l : ℕ) → Fine (callee_seen p s cells texts f es g l) (in_contract p cells texts f.variables (params_of f))
    callee_fine g l = record {
      closed = seen_closed p s cells g _ _ (callee_open p s cells texts f es g l);
      sorted = seen_sorted p s cells g _ _ (callee_open p s cells texts f es g l);
      sight = seen_sight p s cells g _ _ (callee_open p s cells texts f es g l);
    }

    abbrev its : Sight
    its = in_contract p cells texts f.variables (params_of f)

    pub callee_readings : CalleeReadings m p s cells texts f es a
    callee_readings = record {
      entered = λ l.
          reads (callee_seen p s cells texts f es l l) (callee_seen p s cells texts f es l l) (callee_seen p s cells texts f es l l) nothing its its its None
          (callee_fine l l) (callee_fine l l) (callee_fine l l) no_result (entered_at p s cells texts f es l) refl;
      returned =
          reads (callee_seen p s cells texts f es 0 1) (callee_seen p s cells texts f es 1 1) (callee_seen p s cells texts f es 1 1)
          (terms_of_kind f.result (leaf p s cells 0 answer) (leaf p s cells 0 answer_offset)) its its its (result_given f.result)
          (callee_fine 0 1) (callee_fine 1 1) (callee_fine 1 1) (result_fine f.result 0 answer answer_offset) (returned_from p s cells texts f es) refl;
    }

pub functions_read : FunctionsRead
functions_read m p s cells texts fit a = own_readings m p s cells texts fit a

pub callees_read : CalleesRead
callees_read m p s cells texts fit g es a = callee_readings m p s cells texts fit a g es
