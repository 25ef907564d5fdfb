-- Operands one after the other, and the way to an object that is written.
use Rattle.std.proofs.Common.{◌≡◌, ℕ, Bool, true, false, List, ◌++◌, refl, sym, ap, ◌∙◌, arith}
use Rattle.std.specs.Prelude.{if◌then◌else◌, slice_get}
use Rattle.std.proofs.lemmas.Bool.{and_parts}
use Rattle.wp_base.specs.Blocks.{is_cell, may_write, block_at}
use Rattle.typed_prog.specs.declared.types.CoreType.{CoreType}
use Rattle.typed_prog.specs.declared.operators.Path.{Path}
use Rattle.qed_terms.specs.Meaning as m
use Rattle.c_runs.specs.TruthStates.{Value, block_of, offset_of}
use Rattle.c_runs.specs.Truth.{value_at}
use Rattle.c_runs.specs.Program.{Facts, Variable}
use Rattle.c_runs.specs.States.{World}
use Rattle.c_runs.specs.Operators.{access}
use Rattle.c_runs.specs.Objects.{cell_of, address, is_pointed}
use Rattle.c_runs.specs.Values.{Temps}
use Rattle.c_runs.specs.Checks.{Check, one_if, index_checks}
use Rattle.c_runs.specs.Tests.{step_test}
use Rattle.value_terms.specs.Readings.{Term, term_at, Reading}
use Rattle.value_terms.specs.Terms.{address_term, terms_of}
use Rattle.value_terms.specs.Words.{checks_in, asked_if, index_items}
use Rattle.value_terms.specs.Typed.{Scope, ObjectIsTyped}
use Rattle.value_terms.specs.Worlds.{Means}
use Rattle.value_terms.specs.Laws.{Stood, Says}
use Rattle.value_terms.specs.Places.{OperandsAreMeant, write_term, way_items, TestsWay, WaysAreMeant, OperandsAreWellFormed}
use Rattle.value_terms.proofs.Listing.{all, all_parts, asked_checks, index_has, words_have, checks_append}
use Rattle.value_terms.proofs.Saying.{says_asked, says_append}
use Rattle.value_terms.proofs.Holding.{asked_true}
use Rattle.value_terms.proofs.Staying.{all_stay, object_there}
use Rattle.value_terms.proofs.Pointers.{object_means, indices_say, write_means}
use Rattle.value_terms.proofs.Meaning.{all_mean, all_say}
use Rattle.value_terms.proofs.Fitting.{kids_fit, address_fits, block_fits, offset_fits, three_fit}
use Rattle.value_terms.proofs.FittingWords.{words_fit, append_fits, asked_fits, indices_fit}

pub operands_are_meant : OperandsAreMeant
operands_are_meant mw env r p xs s tm w stood es h = record {
  kinds = λ met. all_stay stood.kinds es h met;
  terms = λ met. all_mean stood es h met;
  word = all_say stood es h;
  checks = words_have p xs r es;
}

module _ {mw : m.World} {env : m.Values} {r : Reading} {p : Facts} {xs : List Variable} {s : Scope} {tm : Temps} {w : World}
    (stood : Stood mw env r p xs s tm w) (ts : List Term) (vs : List Value) (means : (i : ℕ) → Means mw env (term_at ts i) (value_at vs i))
    (type : CoreType) (path : Path) (on : s.has_blocks ≡ true) (h : ObjectIsTyped p xs s path.root path.steps (cell_of type)) (met : Check → Bool)
    (test : TestsWay met p w type path vs) where
  at_address : Means mw env (address_term p r path ts) (address p w path vs)
  at_address = object_means stood ts vs means on path.root path.steps (cell_of type) h

  way_has : checks_in (way_items p r type path ts) ≡ index_checks 0 path.steps ++ one_if (is_pointed path.root) access path.line
  way_has =
      checks_append (index_items p r ts 0 path.steps)
      (asked_if (is_pointed path.root) access path.line (write_term p r (cell_of type) (address_term p r path ts)))
      ∙ (λ i. index_has p xs r ts 0 path.steps i
      ++ asked_checks (is_pointed path.root) access path.line (write_term p r (cell_of type) (address_term p r path ts)) i)

  -- where what is pointed at may be written, that is asked
  if_pointed : (b c : Bool) → b ≡ true → c ≡ (if b then c else true)
  if_pointed true c e = refl
  if_pointed false c e = absurd cc

  way_says : Says (m.truth mw env) met (way_items p r type path ts)
  way_says =
      says_append (m.truth mw env) met (index_items p r ts 0 path.steps) _
      (indices_say stood ts vs means 0 path.steps met (λ i k l e. test.index l k ∙ ap (λ n. step_test vs (slice_get path.steps n)) (e ∙ omega arith)))
      (λ behind. says_asked (m.truth mw env) met (is_pointed path.root) access path.line _ (λ b.
      write_means stood on (cell_of type) (address_term p r path ts) (address p w path vs) at_address
      ∙ if_pointed (is_pointed path.root) _ b ∙ sym test.access))

  way_leads : all met (checks_in (way_items p r type path ts)) ≡ true
      → is_cell (cell_of type) w.memory.blocks (block_of (address p w path vs)) (offset_of (address p w path vs)) ≡ true
  way_leads a =
      let parts = all_parts met (index_checks 0 path.steps) (one_if (is_pointed path.root) access path.line) (ap (all met) (sym way_has) ∙ a) in
      object_there stood.kinds path.root path.steps (cell_of type) vs met h
      (λ i k l e. test.index l k ∙ ap (λ n. step_test vs (slice_get path.steps n)) (e ∙ omega arith)) parts.0
      (λ b. (and_parts (is_cell (cell_of type) w.memory.blocks (block_of (address p w path vs)) (offset_of (address p w path vs)))
      (may_write (block_at w.memory.blocks (block_of (address p w path vs))))
      (asked_true (is_pointed path.root) _ access path.line met parts.1 test.access b)).0)

pub ways_are_meant : WaysAreMeant
ways_are_meant mw env r p xs s tm w stood ts vs means type path on h met test = record {
  target = at_address stood ts vs means type path on h met test;
  items = way_says stood ts vs means type path on h met test;
  checks = way_has stood ts vs means type path on h met test;
  cell = way_leads stood ts vs means type path on h met test;
}

pub operands_are_well_formed : OperandsAreWellFormed
operands_are_well_formed p xs r well es = record {
  terms = kids_fit p xs r well es;
  word = words_fit p xs r well es;
  address = λ path. address_fits p xs r well path (terms_of p xs r es) (kids_fit p xs r well es);
  way = λ type path.
      let ts = terms_of p xs r es in
      let a = address_term p r path ts in
      let fine = address_fits p xs r well path ts (kids_fit p xs r well es) in
      append_fits (index_items p r ts 0 path.steps) (asked_if (is_pointed path.root) access path.line (write_term p r (cell_of type) a))
      (indices_fit p xs r well ts 0 path.steps (kids_fit p xs r well es))
      (asked_fits (is_pointed path.root) access path.line (write_term p r (cell_of type) a)
      (three_fit well.table (block_fits a fine) (offset_fits a fine)));
}
