-- What reading an object means, and what its checks say.
use Rattle.std.proofs.Common.{◌≡◌, ℕ, Bool, true, false, not, ◌||◌, ℤ, pos, List, Option, Some, None, refl, sym, ap, ◌∙◌, subst, arith}
use Rattle.std.specs.Prelude.{if◌then◌else◌, slice_get}
use Rattle.wp_base.specs.declared.kinds.CellKind.{CellKind}
use Rattle.wp_base.specs.Blocks.{is_cell}
use Rattle.typed_prog.specs.declared.types.CoreType.{CoreType}
use Rattle.typed_prog.specs.declared.operators.Path.{Path}
use Rattle.typed_prog.specs.declared.operators.Root.{Root}
use Rattle.typed_prog.specs.declared.operators.Root.TheVariants as root
use Rattle.typed_prog.specs.declared.operators.Step.{Step}
use Rattle.typed_prog.specs.Tree as t
use Rattle.qed_terms.specs.Meaning as m
use Rattle.qed_terms.specs.Operators.{is_equal}
use Rattle.qed_terms.specs.Tree.{Tree}
use Rattle.c_runs.specs.TruthStates.{Value, block_of, offset_of}
use Rattle.c_runs.specs.Truth.{value_at}
use Rattle.c_runs.specs.Program.{Facts, Variable}
use Rattle.c_runs.specs.States.{World}
use Rattle.c_runs.specs.Operators.{Undefined, init, access, index}
use Rattle.c_runs.specs.Objects.{plain_root, is_pointed, cell_of, start, along, address, content}
use Rattle.c_runs.specs.Objects as objects
use Rattle.c_runs.specs.Values.{Temps}
use Rattle.c_runs.specs.Checks.{Check, here, one_if, index_checks, read_checks_by}
use Rattle.c_runs.specs.Tests.{total_read_by, totals, is_set_by, step_test, read_test_by}
use Rattle.c_runs.proofs.Operators.{at_step}
use Rattle.value_terms.specs.Readings.{plain_global, Term, term_at, Reading}
use Rattle.value_terms.specs.Terms.{address_term, along_term, start_term, cell_term, read_term, terms_of}
use Rattle.value_terms.specs.Words.{index_items, access_term, facts_by, asked_if, read_items}
use Rattle.value_terms.specs.Typed.{kind_given, Scope, CellIsTyped, ReadIsTyped}
use Rattle.value_terms.specs.Worlds.{Means, flag_of}
use Rattle.value_terms.specs.Laws.{Stood, Says}
use Rattle.value_terms.proofs.Listing.{all, asked_checks, index_has, all_join}
use Rattle.value_terms.proofs.Saying.{says_asked, says_append}
use Rattle.value_terms.proofs.Pointers.{along_means, object_means, indices_say, access_means, loaded_means, facts_say}
use Rattle.value_terms.proofs.Holding.{global_is, plain_is}
use Rattle.value_terms.proofs.Staying.{global_content, read_there, local_set}

module _ {mw : m.World} {env : m.Values} {r : Reading} {p : Facts} {xs : List Variable} {s : Scope} {tm : Temps} {w : World}
    (stood : Stood mw env r p xs s tm w) where
  abbrev V : Tree → ℤ
  V t = m.value mw env t

  abbrev So : Tree → Bool
  So f = m.truth mw env f

  abbrev ts_of : t.Values → List Term
  ts_of es = terms_of p xs r es

  abbrev vs_of : t.Values → List Value
  vs_of es = totals p xs tm w es

  abbrev Operands : List Term → List Value → Type 0
  Operands ts vs = (i : ℕ) → Means mw env (term_at ts i) (value_at vs i)

  cell_means : (o : Option ℕ) (type : CoreType) (path : Path) (ts : List Term) (vs : List Value) (met : Check → Bool) → plain_global p.globals path.root ≡ o
      → cell_of type ≡ kind_given type → CellIsTyped p xs s o path.root path.steps (kind_given type) → Operands ts vs
      → ((u : Undefined) (l n : ℕ) → met (at_step u l n) ≡ read_test_by None p xs w type path u n vs) → all met (read_checks_by None xs path) ≡ true
      → Means mw env (cell_term p r o type path ts) (content w.memory (cell_of type) (address p w path vs))
  cell_means (Some x) type path ts vs met o e h means test all =
      subst (λ v. Means mw env (r.globals x) v) (sym (global_content stood.kinds x type path vs o e h))
      (stood.stands.globals x h.0.variable h.0.found ((global_is p.globals path.root x o).plain h.0.variable h.0.found))
  cell_means None type path ts vs met o e h means test all =
      loaded_means stood h.0 (address_term p r path ts) (address p w path vs)
      (object_means stood ts vs means h.0 path.root path.steps (kind_given type) h.2) (cell_of type) (ap s.has_kind e ∙ h.1)
      (read_there stood.kinds type path vs met e h.2 test all)

  pub read_means : (o : Option ℕ) (type : CoreType) (path : Path) (ts : List Term) (vs : List Value) (met : Check → Bool) → plain_root xs path.root ≡ o
      → ReadIsTyped p xs s o type path → Operands ts vs → ((u : Undefined) (l n : ℕ) → met (at_step u l n) ≡ read_test_by o p xs w type path u n vs)
      → all met (read_checks_by o xs path) ≡ true → Means mw env (read_term p r o type path ts) (total_read_by o p w type path vs)
  read_means (Some x) type path ts vs met e h means test all =
      stood.stands.locals x h.variable h.found h.declared (plain_is xs path.root x h.variable e h.found)
      (local_set stood.kinds x (kind_given type) h path.line met (test init path.line 0) all)
  read_means None type path ts vs met e h means test all =
      cell_means (plain_global p.globals path.root) type path ts vs met refl h.0 h.1 means test all

  flag_says : (b sure : Bool) → not sure ≡ true → is_equal (flag_of b) (pos 1) ≡ (sure || b)
  flag_says true false e = refl
  flag_says false false e = refl
  flag_says b true e = absurd cc

  pointed_object : (o : Root) (ss : List Step) (k : CellKind) (ts : List Term) (vs : List Value) → Operands ts vs → is_pointed o ≡ true
      → Means mw env (along_term p r ts ss (start_term p r o ts)) (along vs ss (start p w o vs))
  pointed_object (root.Variable x) ss k ts vs means e = absurd cc
  pointed_object (root.Pointed n) ss k ts vs means e = along_means stood ts vs means ss (term_at ts n) (value_at vs n) (means n)

  -- what is pointed at is in a block
  pointed_on : (o : Option ℕ) (root : Root) (ss : List Step) (k : CellKind) → plain_global p.globals root ≡ o → CellIsTyped p xs s o root ss k
      → is_pointed root ≡ true → s.has_blocks ≡ true
  pointed_on (Some x) root ss k o h e = let is = ap is_pointed (global_is p.globals root x o).root in absurd cc
  pointed_on None root ss k o h e = h.0

  access_says : (type : CoreType) (path : Path) (ts : List Term) (vs : List Value) (met : Check → Bool) → Operands ts vs → s.has_blocks ≡ true
      → ((u : Undefined) (l n : ℕ) → met (at_step u l n) ≡ read_test_by None p xs w type path u n vs) → is_pointed path.root ≡ true
      → So (access_term p r (cell_of type) (address_term p r path ts)) ≡ met (here access path.line)
  access_says type path ts vs met means on test e =
      access_means stood on (cell_of type) (address_term p r path ts) (address p w path vs)
      (pointed_object path.root path.steps (cell_of type) ts vs means e)
      ∙ ap (λ b. if b then is_cell (cell_of type) w.memory.blocks (block_of (address p w path vs)) (offset_of (address p w path vs)) else true) (sym e)
      ∙ sym (test access path.line 0)

  -- what is known of a cell that was come to
  behind_access : (o : Option ℕ) (type : CoreType) (path : Path) (ts : List Term) (vs : List Value) (met : Check → Bool) → plain_global p.globals path.root ≡ o
      → cell_of type ≡ kind_given type → CellIsTyped p xs s o path.root path.steps (kind_given type) → Operands ts vs
      → ((u : Undefined) (l n : ℕ) → met (at_step u l n) ≡ read_test_by None p xs w type path u n vs) → all met (read_checks_by None xs path) ≡ true
      → Says So met (facts_by p r o type path ts)
  behind_access (Some x) type path ts vs met o e h means test all = tt
  behind_access None type path ts vs met o e h means test all =
      facts_say stood h.0 (address_term p r path ts) (address p w path vs)
      (object_means stood ts vs means h.0 path.root path.steps (kind_given type) h.2) (cell_of type) met (ap s.has_kind e ∙ h.1)
      (read_there stood.kinds type path vs met e h.2 test all)

  pub read_says : (o : Option ℕ) (type : CoreType) (path : Path) (ts : List Term) (vs : List Value) (met : Check → Bool) → plain_root xs path.root ≡ o
      → ReadIsTyped p xs s o type path → Operands ts vs → ((u : Undefined) (l n : ℕ) → met (at_step u l n) ≡ read_test_by o p xs w type path u n vs)
      → Says So met (read_items p r o xs type path ts)
  read_says (Some x) type path ts vs met e h means test =
      says_asked So met (not (objects.has_value xs x)) init path.line _ (λ asks.
      ap (λ z. is_equal z (pos 1)) (stood.stands.flags x h.variable h.found h.declared (plain_is xs path.root x h.variable e h.found))
      ∙ flag_says (is_set_by (w.locals x)) (objects.has_value xs x) asks ∙ sym (test init path.line 0))
  read_says None type path ts vs met e h means test =
      let indices : Says So met (index_items p r ts 0 path.steps) =
      indices_say stood ts vs means 0 path.steps met (λ i k l q. test index l k ∙ ap (λ n. step_test vs (slice_get path.steps n)) (q ∙ omega arith)) in
      says_append So met (index_items p r ts 0 path.steps) _ indices (λ behind.
      says_append So met (asked_if (is_pointed path.root) access path.line (access_term p r (cell_of type) (address_term p r path ts))) _
      (says_asked So met (is_pointed path.root) access path.line _ (λ b. access_says type path ts vs met means
      (pointed_on (plain_global p.globals path.root) path.root path.steps (kind_given type) refl h.1 b) test b))
      (λ accessed. behind_access (plain_global p.globals path.root) type path ts vs met refl h.0 h.1 means test
      (all_join met (index_checks 0 path.steps) (one_if (is_pointed path.root) access path.line)
      (ap (all met) (sym (index_has p xs r ts 0 path.steps)) ∙ behind)
      (ap (all met) (sym (asked_checks (is_pointed path.root) access path.line (access_term p r (cell_of type) (address_term p r path ts)))) ∙ accessed))))
