-- Values stay in their kinds.
use Rattle.std.proofs.Common.{◌≡◌, ℕ, zero, suc, Bool, true, false, not, ◌&&◌, ◌||◌, ℤ, pos, List, Option, Some, None, refl, sym, ap, ◌∙◌, subst, arith}
use Rattle.std.specs.Prelude.{if◌then◌else◌, slice_get, int_le, int_lt}
use Rattle.std.proofs.lemmas.Int.{ints}
use Rattle.std.proofs.lemmas.Bool.{and_parts}
use Rattle.wp_base.specs.declared.kinds.Kind.TheVariants as kind
use Rattle.wp_base.specs.declared.kinds.CellKind.{CellKind}
use Rattle.wp_base.specs.declared.kinds.CellKind.TheVariants as cell
use Rattle.wp_base.specs.Blocks.{count, cells_of, is_cell}
use Rattle.c_kinds.specs.Models.{holds}
use Rattle.c_kinds.specs.Numbers as n
use Rattle.c_kinds.proofs.Converting.{conversions_keep}
use Rattle.c_kinds.proofs.Results.{results_are_of_kind}
use Rattle.typed_prog.specs.declared.types.CoreType.{CoreType}
use Rattle.typed_prog.specs.declared.operators.Op.{Op}
use Rattle.typed_prog.specs.declared.operators.Op.TheVariants as op
use Rattle.typed_prog.specs.declared.operators.Path.{Path}
use Rattle.typed_prog.specs.declared.operators.Step.{Step}
use Rattle.typed_prog.specs.declared.operators.Root.{Root}
use Rattle.typed_prog.specs.declared.operators.Root.TheVariants as root
use Rattle.typed_prog.specs.Types.{is_pointer}
use Rattle.typed_prog.specs.Tree as t
use Rattle.c_runs.specs.TruthStates.{Value, pointer, null, number_of, block_of, offset_of}
use Rattle.c_runs.specs.Truth.{value_at, first, second, moved_by}
use Rattle.c_runs.specs.Program.{Facts, Variable}
use Rattle.c_runs.specs.States.{World, held_by, global_home, home_of}
use Rattle.c_runs.specs.Operators.{Undefined, init, access, index, comparing, difference, wrong, negated}
use Rattle.c_runs.specs.Objects.{plain_root, has_value, has_value_in, is_pointed, start, along, address, content, cell_of}
use Rattle.c_runs.specs.Values.{kind_at, applied, moved_in, Temps}
use Rattle.c_runs.proofs.Constants.{operators_are_those_of_constants}
use Rattle.c_runs.specs.Checks.{Check, here, one_if, index_checks, read_checks_by, op_checks, node_checks, checks_of, all_checks, in_operand, later}
use Rattle.c_runs.specs.Tests.{total_read_by, total_applied, total_node, total, totals, is_set_by, step_test, read_test_by, op_test, is_met}
use Rattle.c_runs.proofs.Operators.{op_settle, at_step}
use Rattle.c_runs.proofs.Checking.{met_in}
use Rattle.value_terms.specs.Readings.{plain_global}
use Rattle.value_terms.specs.Typed.{given_by, kind_given, operand_kind, Scope, LocalHas, ObjectIsTyped, CellIsTyped, ReadIsTyped, StartIsTyped, OpIsTyped, NodeIsTyped, IsTyped, AreTyped}
use Rattle.value_terms.specs.Worlds as fits
use Rattle.value_terms.specs.Worlds.{IsOf, HoldsKinds}
use Rattle.value_terms.specs.Laws.{ValuesAreOfKind}
use Rattle.value_terms.proofs.Listing.{all, all_parts, all_map, all_same, deep}
use Rattle.value_terms.proofs.Cells.{in_table, of_kind_same, cell_there, pointer_is, block_along, IsAddress, along_pointer, IndicesMet, reached, difference_held}
use Rattle.value_terms.proofs.Holding.{asked_true, number_of_kind, integer_given, as_given, holds_zero, truth_given, settle_met, given_held, arithmetic_held, complement_held, second_held, plain_is, global_is, read_has_value, split, same_later, some_blocks}

module _ {p : Facts} {xs : List Variable} {s : Scope} {tm : Temps} {w : World} (fine : HoldsKinds p xs s tm w) where
  pub local_set : (x : ℕ) (k : CellKind) (l : LocalHas xs s x k) (line : ℕ) (met : Check → Bool)
      → met (here init line) ≡ (has_value xs x || is_set_by (w.locals x)) → all met (one_if (not (has_value xs x)) init line) ≡ true
      → fits.has_value l.variable (w.locals x) ≡ true
  local_set x k l line met e h =
      ap (λ o. has_value_in o || is_set_by (w.locals x)) (sym l.found) ∙ read_has_value (has_value xs x) (is_set_by (w.locals x)) line met e h

  -- the way leads to a cell of the kind
  pub object_there : (r : Root) (ss : List Step) (k : CellKind) (vs : List Value) (met : Check → Bool) → ObjectIsTyped p xs s r ss k
      → IndicesMet vs 0 ss met → all met (index_checks 0 ss) ≡ true
      → (is_pointed r ≡ true → is_cell k w.memory.blocks (block_of (along vs ss (start p w r vs))) (offset_of (along vs ss (start p w r vs))) ≡ true)
      → is_cell k w.memory.blocks (block_of (along vs ss (start p w r vs))) (offset_of (along vs ss (start p w r vs))) ≡ true
  object_there (root.Variable x) ss k vs met h test all given =
      let found = reached vs ss 0 0 (cells_of h.0.variable.layout) k (start p w (root.Variable x) vs) met refl h.1 test all in
      (λ i. is_cell k w.memory.blocks (block_along vs ss (start p w (root.Variable x) vs) i) (found.offset i))
      ∙ cell_there w.memory.blocks (home_of p w.locals x) h.0.variable.layout found.at k (fine.homes x h.0.variable h.0.is h.0.block) found.found
  object_there (root.Pointed n) ss k vs met h test all given = given refl

  pub read_there : (type : CoreType) (path : Path) (vs : List Value) (met : Check → Bool) → cell_of type ≡ kind_given type
      → ObjectIsTyped p xs s path.root path.steps (kind_given type)
      → ((u : Undefined) (l n : ℕ) → met (at_step u l n) ≡ read_test_by None p xs w type path u n vs) → all met (read_checks_by None xs path) ≡ true
      → is_cell (cell_of type) w.memory.blocks (block_of (address p w path vs)) (offset_of (address p w path vs)) ≡ true
  read_there type path vs met e h test all =
      let parts = all_parts met (index_checks 0 path.steps) (one_if (is_pointed path.root) access path.line) all in
      object_there path.root path.steps (cell_of type) vs met (subst (λ k. ObjectIsTyped p xs s path.root path.steps k) (sym e) h)
      (λ i k l q. test index l k ∙ ap (λ n. step_test vs (slice_get path.steps n)) (q ∙ omega arith)) parts.0
      (asked_true (is_pointed path.root) _ access path.line met parts.1 (test access path.line 0))

  -- what a variable of the file holds that no pointer leads to
  global_held : (x : ℕ) (type : CoreType) (path : Path) → plain_global p.globals path.root ≡ Some x → cell_of type ≡ kind_given type
      → CellIsTyped p xs s (Some x) path.root path.steps (kind_given type) → IsOf p w (cell_of type) (w.memory.cells (global_home p x) (pos 0))
  global_held x type path o e h =
      subst (λ k. IsOf p w k (w.memory.cells (global_home p x) (pos 0))) (h.0.kind ∙ sym e)
      (fine.globals x h.0.variable h.0.found ((global_is p.globals path.root x o).plain h.0.variable h.0.found))

  pub global_content : (x : ℕ) (type : CoreType) (path : Path) (vs : List Value) → plain_global p.globals path.root ≡ Some x → cell_of type ≡ kind_given type
      → CellIsTyped p xs s (Some x) path.root path.steps (kind_given type)
      → content w.memory (cell_of type) (address p w path vs) ≡ w.memory.cells (global_home p x) (pos 0)
  global_content x type path vs o e h =
      let is = global_is p.globals path.root x o in
      let at : address p w path vs ≡ pointer (global_home p x) (pos 0) = λ i. along vs (h.1 i) (start p w (is.root i) vs) in
      ap (content w.memory (cell_of type)) at ∙ of_kind_same p (count w.memory.blocks) (cell_of type) _ (global_held x type path o e h)

  cell_stays : (o : Option ℕ) (type : CoreType) (path : Path) (vs : List Value) (met : Check → Bool) → plain_global p.globals path.root ≡ o
      → cell_of type ≡ kind_given type → CellIsTyped p xs s o path.root path.steps (kind_given type)
      → ((u : Undefined) (l n : ℕ) → met (at_step u l n) ≡ read_test_by None p xs w type path u n vs) → all met (read_checks_by None xs path) ≡ true
      → IsOf p w (cell_of type) (content w.memory (cell_of type) (address p w path vs))
  cell_stays (Some x) type path vs met o e h test all =
      subst (λ v. IsOf p w (cell_of type) v) (sym (global_content x type path vs o e h)) (global_held x type path o e h)
  cell_stays None type path vs met o e h test all =
      let held = fine.cells (cell_of type) _ _ (read_there type path vs met e h.2 test all) in
      subst (λ v. IsOf p w (cell_of type) v) (sym (of_kind_same p (count w.memory.blocks) (cell_of type) _ held)) held

  read_stays : (r : Option ℕ) (type : CoreType) (path : Path) (vs : List Value) (met : Check → Bool) → plain_root xs path.root ≡ r
      → ReadIsTyped p xs s r type path
      → ((u : Undefined) (l n : ℕ) → met (at_step u l n) ≡ read_test_by r p xs w type path u n vs) → all met (read_checks_by r xs path) ≡ true
      → IsOf p w (kind_given type) (total_read_by r p w type path vs)
  read_stays (Some x) type path vs met e h test all =
      subst (λ k. IsOf p w k (held_by (w.locals x))) h.kind
      (fine.locals x h.variable h.found h.declared (plain_is xs path.root x h.variable e h.found)
      (local_set x (kind_given type) h path.line met (test init path.line 0) all))
  read_stays None type path vs met e h test all =
      subst (λ k. IsOf p w k (content w.memory (cell_of type) (address p w path vs))) h.0
      (cell_stays (plain_global p.globals path.root) type path vs met refl h.0 h.1 test all)

  -- what stands in a block that was made
  abbrev Made : Value → Type 0
  Made v = (int_le (pos 0) (block_of v) && int_lt (block_of v) (count w.memory.blocks)) ≡ true

  pointer_stays : (type : CoreType) (b o : ℤ) → is_pointer type ≡ true → Made (pointer b o) → IsOf p w (kind_given type) (pointer b o)
  pointer_stays type b o e h = subst (λ t. IsOf p w (given_by t (kind_at type)) (pointer b o)) (sym e) h

  start_made : (r : Root) (es : t.Values) (vs : List Value) → StartIsTyped p xs s r es → ((i : ℕ) → IsOf p w (operand_kind es i) (value_at vs i))
      → Made (start p w r vs)
  start_made (root.Variable x) es vs h have = in_table w.memory.blocks (home_of p w.locals x) h.variable.layout (fine.homes x h.variable h.is h.block)
  start_made (root.Pointed n) es vs h have =
      (pointer_is p (count w.memory.blocks) (value_at vs n) (subst (λ k. IsOf p w k (value_at vs n)) h (have n))).made

  start_pointer : (r : Root) (es : t.Values) (vs : List Value) → StartIsTyped p xs s r es → ((i : ℕ) → IsOf p w (operand_kind es i) (value_at vs i))
      → IsAddress (start p w r vs)
  start_pointer (root.Variable x) es vs h have = refl
  start_pointer (root.Pointed n) es vs h have =
      (pointer_is p (count w.memory.blocks) (value_at vs n) (subst (λ k. IsOf p w k (value_at vs n)) h (have n))).same

  address_stays : (type : CoreType) (path : Path) (es : t.Values) (vs : List Value) → is_pointer type ≡ true → StartIsTyped p xs s path.root es
      → ((i : ℕ) → IsOf p w (operand_kind es i) (value_at vs i)) → IsOf p w (kind_given type) (address p w path vs)
  address_stays type path es vs e h have =
      let made = start_made path.root es vs h have in
      let at : address p w path vs ≡ pointer (block_of (address p w path vs)) (offset_of (address p w path vs)) =
      along_pointer vs path.steps (start p w path.root vs) (start_pointer path.root es vs h have) in
      let block = block_along vs path.steps (start p w path.root vs) in
      subst (λ v. IsOf p w (kind_given type) v) (sym at)
      (pointer_stays type _ _ e (subst (λ b. (int_le (pos 0) b && int_lt b (count w.memory.blocks)) ≡ true) (sym block) made))

  moved_made : (minus : Bool) (size : ℕ) (v i : Value) (type : CoreType) → is_pointer type ≡ true → Made v
      → IsOf p w (kind_given type) (moved_by minus size v i)
  moved_made true size v i type e h = pointer_stays type (block_of v) _ e h
  moved_made false size v i type e h = pointer_stays type (block_of v) _ e h

  offset_stays : (type : CoreType) (es : t.Values) (vs : List Value) (minus index_first : Bool) (size : ℕ) → is_pointer type ≡ true
      → operand_kind es (if index_first then 1 else 0) ≡ cell.Ptr → ((i : ℕ) → IsOf p w (operand_kind es i) (value_at vs i))
      → IsOf p w (kind_given type) (moved_in index_first minus size vs)
  offset_stays type es vs minus true size e h have =
      moved_made minus size (value_at vs 1) (value_at vs 0) type e
      (pointer_is p (count w.memory.blocks) (value_at vs 1) (subst (λ k. IsOf p w k (value_at vs 1)) h (have 1))).made
  offset_stays type es vs minus false size e h have =
      moved_made minus size (value_at vs 0) (value_at vs 1) type e
      (pointer_is p (count w.memory.blocks) (value_at vs 0) (subst (λ k. IsOf p w k (value_at vs 0)) h (have 0))).made

  op_stays : (type : CoreType) (l : ℕ) (o : Op) (es : t.Values) (met : Check → Bool) → OpIsTyped p xs s type o es
      → ((u : Undefined) (line n : ℕ) → met (at_step u line n) ≡ op_test p xs w type o u n (totals p xs tm w es))
      → ((i : ℕ) → IsOf p w (operand_kind es i) (value_at (totals p xs tm w es) i)) → all met (op_checks xs type l o es) ≡ true
      → IsOf p w (kind_given type) (total_applied p xs w type o (totals p xs tm w es))
  unfolding total_applied op_test applied
  op_stays type l (op.Read path) es met h test have all = read_stays (plain_root xs path.root) type path _ met refl h test all
  op_stays type l (op.Address path accessed) es met h test have all = address_stays type path es _ h.0 h.2 have
  op_stays type l (op.Decay path accessed) es met h test have all = address_stays type path es _ h.0 h.2 have
  op_stays type l op.Negate es met h test have all =
      let a = number_of_kind p _ _ (kind_at type) _ (h.1 ∙ integer_given type h.0.no_pointer) (have 0) in
      let z = number_of (value_at (totals p xs tm w es) 0) in
      let e = op_settle p xs tm w type l op.Negate es met test ∙ settle_met (op_checks xs type l op.Negate es) met wrong _ all in
      as_given p _ type _ h.0.no_pointer (given_held p.model (kind_at type) (negated p.model (kind_at type) l z) _ (n.negated p.model (kind_at type) z)
      ((operators_are_those_of_constants p.model (kind_at type) l z z).opposite a.held) e ((results_are_of_kind p.model (kind_at type) z z).opposites))
  op_stays type l op.Complement es met h test have all =
      let a = number_of_kind p _ _ (kind_at type) _ (h.1 ∙ integer_given type h.0.no_pointer) (have 0) in
      as_given p _ type _ h.0.no_pointer (complement_held p.model (kind_at type) _ a.held)
  op_stays type l op.Not es met h test have all = truth_given p _ type _ h
  op_stays type l (op.Arithmetic o) es met h test have all =
      let is = integer_given type h.0.no_pointer in
      let a = number_of_kind p _ _ (kind_at type) _ (h.1 ∙ is) (have 0) in
      let b = second_held p _ o (kind_at type) _ _ _ is h.2 (have 1) in
      let e = op_settle p xs tm w type l (op.Arithmetic o) es met test ∙ settle_met (op_checks xs type l (op.Arithmetic o) es) met wrong _ all in
      as_given p _ type _ h.0.no_pointer (arithmetic_held p.model (kind_at type) l o _ _ a.held b e)
  op_stays type l (op.Compare c) es met h test have all = truth_given p _ type _ h
  op_stays type l (op.ComparePointers c) es met h test have all = truth_given p _ type _ h.0
  op_stays type l (op.Offset minus index_first size accessed) es met h test have all = offset_stays type es _ minus index_first size h.0 h.2 have
  op_stays type l (op.Difference size) es met h test have all =
      let ok = sym (test comparing l 0) ∙ (and_parts (met (here comparing l)) true all).0 in
      as_given p _ type _ h.0
      (subst (λ k. holds p.model k (number_of (difference size (first (totals p xs tm w es)) (second (totals p xs tm w es)))) ≡ true) (sym h.2)
      (difference_held p.model w.memory.blocks size (first (totals p xs tm w es)) (second (totals p xs tm w es)) fine.short ok))
  op_stays type l op.Convert es met h test have all = as_given p _ type _ h (conversions_keep p.model (kind_at type) _).held
  op_stays type l op.Requalify es met h test have all = subst (λ k. IsOf p w k (value_at (totals p xs tm w es) 0)) h (have 0)
  op_stays type l op.Cast es met h test have all = as_given p _ type _ h (conversions_keep p.model (kind_at type) _).held

  mutual
    node_stays : (what : t.ValueNode) (type : CoreType) (l : ℕ) → NodeIsTyped p xs s type what
        → all (is_met p xs tm w (t.typed what type l)) (node_checks xs type l what) ≡ true → IsOf p w (kind_given type) (total_node p xs tm w type what)
    node_stays (t.constant z) type l h met = as_given p _ type z h.0 h.1
    node_stays t.null type l h met = subst (λ b. IsOf p w (given_by b (kind_at type)) null) (sym h) (some_blocks (count w.memory.blocks) (omega (arith, ints)))
    node_stays (t.temporary n) type l h met = fine.temporaries n (kind_given type) h
    node_stays (t.apply o es) type l h met =
        let test : Check → Bool = is_met p xs tm w (t.typed (t.apply o es) type l) in
        let parts = all_parts test (all_checks xs es) (op_checks xs type l o es) met in
        let operands : all (met_in p xs tm w es) (all_checks xs es) ≡ true =
        sym (all_same test (met_in p xs tm w es) (all_checks xs es) (deep xs es test (met_in p xs tm w es) (λ u l n i way. refl))) ∙ parts.0 in
        op_stays type l o es test h.1 (λ u l n. refl) (all_stay es h.0 operands) parts.1
    node_stays (t.logic c a b) type l h met = absurd h
    node_stays (t.choose c a b) type l h met = absurd h
    node_stays (t.effect e es) type l h met = absurd h

    pub one_stays : (e : t.Value) → IsTyped p xs s e → all (is_met p xs tm w e) (checks_of xs e) ≡ true
        → IsOf p w (kind_given (t.type_of e)) (total p xs tm w e)
    one_stays (t.typed what type l) h met = node_stays what type l h met

    pub all_stay : (es : t.Values) → AreTyped p xs s es → all (met_in p xs tm w es) (all_checks xs es) ≡ true
        → (i : ℕ) → IsOf p w (operand_kind es i) (value_at (totals p xs tm w es) i)
    all_stay t.stop h met i = holds_zero p.model kind.Int
    all_stay (t.more e es) h met zero =
        one_stays e h.0 (sym (all_map (met_in p xs tm w (t.more e es)) (in_operand 0) (checks_of xs e)) ∙ (split p xs tm w e es met).0)
    all_stay (t.more e es) h met (suc i) =
        all_stay es h.1
        (sym (same_later p xs tm w e es) ∙ sym (all_map (met_in p xs tm w (t.more e es)) later (all_checks xs es)) ∙ (split p xs tm w e es met).1) i

pub values_are_of_kind : ValuesAreOfKind
values_are_of_kind p xs s tm w fine e h met = one_stays fine e h met
