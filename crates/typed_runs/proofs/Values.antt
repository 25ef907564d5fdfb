-- Values of kinds, and what expressions give in worlds that fit.
use Rattle.std.proofs.Common.{◌≡◌, ℕ, zero, suc, Bool, true, false, ◌&&◌, if◌then◌else◌, ℤ, pos, negsuc, neg_ℤ, List, [], ◌∷◌, ◌++◌, Some, None, slice_get, refl, sym, ap, ◌∙◌, subst, arith}
use Rattle.std.specs.Prelude.{nat_lt, int_le, int_lt}
use Rattle.std.specs.List.{list_all}
use Rattle.std.proofs.lemmas.Int.{ints}
use Rattle.std.proofs.lemmas.Bool.{false≢true, and_parts}
use Rattle.wp_base.specs.declared.kinds.CellKind.{CellKind}
use Rattle.wp_base.specs.declared.kinds.CellKind.TheVariants as cell
use Rattle.wp_base.specs.declared.kinds.Layout.{Layout}
use Rattle.wp_base.specs.Blocks.{Table, count, cells_of, block_at, block_of as block_with, same_cells, same_truth, is_block, has_layout, is_cell, is_writable}
use Rattle.c_kinds.proofs.Converting.{test_le, le_test}
use Rattle.typed_prog.specs.declared.types.CoreType.{CoreType}
use Rattle.typed_prog.specs.declared.operators.Path.{Path}
use Rattle.typed_prog.specs.declared.operators.Variable as code
use Rattle.typed_prog.specs.declared.operators.Variable.TheVariants as variable
use Rattle.typed_prog.specs.Tree as tree
use Rattle.c_runs.specs.TruthStates.{Value, number, pointer, addresses, region, block_of, offset_of}
use Rattle.c_runs.specs.Truth.{value_at}
use Rattle.c_runs.specs.Program.{Variable, Facts}
use Rattle.c_runs.specs.States.{held_by, plain_globals, global_home, home_of, block_of_local}
use Rattle.c_runs.specs.Operators.{index, access}
use Rattle.c_runs.specs.Objects.{plain_root, cell_of, address, is_pointed, may_write}
use Rattle.c_runs.specs.Scopes.{scalar_of, is_content}
use Rattle.c_runs.specs.Entry.{is_value, leads_well}
use Rattle.c_runs.specs.CoreRun.{CoreWorld}
use Rattle.c_runs.specs.Checks.{Check, here, one_if, all_checks, index_checks}
use Rattle.c_runs.specs.Tests.{total, totals, is_met, step_test}
use Rattle.c_runs.specs.CheckedRun.{is_met_in, place_test, way_test_by}
use Rattle.typed_memories.proofs.Tests.{chosen, unchosen, both_so}
use Rattle.typed_memories.proofs.CellKinds.{kind_same}
use Rattle.run_blocks.proofs.Good.{good_contents}
use Rattle.value_terms.specs.Readings.{plain_global}
use Rattle.value_terms.specs.Typed.{operand_kind, AreTyped, ObjectIsTyped, VariableIs}
use Rattle.value_terms.specs.Worlds.{IsOf, HoldsKinds}
use Rattle.value_terms.proofs.Listing.{all_parts, all_same, deep}
use Rattle.value_terms.proofs.Staying.{object_there, all_stay, values_are_of_kind}
use Rattle.program_steps.specs.Temporaries.{Temporaries}
use Rattle.typed_runs.specs.Fitting.{Shape, InScope, kind_of, temporary_kind, scope_at, ValueFits, way_checks, place_checks}
use Rattle.typed_runs.specs.Kept.{HoldsValue, Holds}

-- ---- values that lead well are contents

above_negative : (n : ℕ) (b : ℤ) → int_le (pos 0) b ≡ true → int_le (neg_ℤ (pos n)) b ≡ true
above_negative zero b h = h
above_negative (suc n) b h = let x = test_le (pos 0) b h in le_test (negsuc n) b (omega (arith, ints, x))

pub content_value : (p : Facts) (t : Table) (k : CellKind) (v : Value) → is_content p (count t) k v ≡ true → (is_value p t k v ≡ true) × (leads_well v ≡ true)
content_value p t (cell.Of k) (number z) h = (h, refl)
content_value p t (cell.Of k) (pointer b o) h = absurd (false≢true h)
content_value p t (cell.Of k) (addresses s) h = absurd (false≢true h)
content_value p t (cell.Of k) (region ks s) h = absurd (false≢true h)
content_value p t cell.Ptr (number z) h = absurd (false≢true h)
content_value p t cell.Ptr (pointer b o) h =
    let both = and_parts (int_le (pos 0) b) (int_lt b (count t)) h in
    (both_so (int_lt b (count t)) (int_le (neg_ℤ (pos (plain_globals p))) b) both.1 (above_negative (plain_globals p) b both.0), both.0)
content_value p t cell.Ptr (addresses s) h = absurd (false≢true h)
content_value p t cell.Ptr (region ks s) h = absurd (false≢true h)

pub value_content : (p : Facts) (t : Table) (k : CellKind) (v : Value) → is_value p t k v ≡ true → leads_well v ≡ true → is_content p (count t) k v ≡ true
value_content p t (cell.Of k) (number z) h l = h
value_content p t (cell.Of k) (pointer b o) h l = absurd (false≢true h)
value_content p t (cell.Of k) (addresses s) h l = absurd (false≢true h)
value_content p t (cell.Of k) (region ks s) h l = absurd (false≢true h)
value_content p t cell.Ptr (number z) h l = absurd (false≢true h)
value_content p t cell.Ptr (pointer b o) h l = both_so (int_le (pos 0) b) (int_lt b (count t)) l (and_parts (int_lt b (count t)) _ h).0
value_content p t cell.Ptr (addresses s) h l = absurd (false≢true h)
value_content p t cell.Ptr (region ks s) h l = absurd (false≢true h)

-- ---- blocks of a layout

same_cells_refl : (ks : List CellKind) → same_cells ks ks ≡ true
same_cells_refl [] = refl
same_cells_refl (k ∷ ks) = both_so _ (same_cells ks ks) (kind_same k k refl) (same_cells_refl ks)

same_truth_refl : (b : Bool) → same_truth b b ≡ true
same_truth_refl true = refl
same_truth_refl false = refl

pub has_its_layout : (t : Table) (b : ℤ) (l : Layout) → block_at t b ≡ block_with l → has_layout t b l ≡ true
has_its_layout t b l e =
    ap (λ x. is_block x (block_with l)) e ∙ both_so (same_cells (cells_of l) (cells_of l)) (same_truth l.writable l.writable) (same_cells_refl (cells_of l)) (same_truth_refl l.writable)

-- ---- worlds that fit hold the kinds

module _ (p : Facts) (s : Shape) (f : InScope) (t : Temporaries) (c : CoreWorld) (h : Holds p s f t c) where
  abbrev blocks : Table
  blocks = c.world.memory.blocks

  local_content : (x : ℕ) (v : Variable) (r : HoldsValue p (count blocks) v (c.world.locals x)) → IsOf p c.world (scalar_of v.layout.cells) (held_by (c.world.locals x))
  local_content x v r = subst (λ l. is_content p (count blocks) (kind_of v) (held_by l) ≡ true) (sym r.same) r.content

  global_content : (x : ℕ) (v : Variable) → slice_get p.globals x ≡ Some v → v.is_plain ≡ true → IsOf p c.world (scalar_of v.layout.cells) (c.world.memory.cells (global_home p x) (pos 0))
  global_content x v e is =
      value_content p blocks (scalar_of v.layout.cells) (c.world.memory.cells (global_home p x) (pos 0))
      (sym (chosen v.is_plain _ _ is) ∙ h.good.well.globals x v e) (h.good.pointers (global_home p x) (pos 0))

  temporary_content : (n : ℕ) (k : CellKind) → temporary_kind p s t n ≡ Some k → IsOf p c.world k (c.temps n)
  temporary_content n k e = by (nat_lt n s.temporaries) (t n) refl e where
    by : (a b : Bool) → t n ≡ b → (if a && b then Some (s.temp_kind n) else None) ≡ Some k → IsOf p c.world k (c.temps n)
    by true true used e = let same : s.temp_kind n ≡ k = cc in subst (λ k. IsOf p c.world k (c.temps n)) same (h.temporaries n used)
    by true false used e = absurd cc
    by false b used e = absurd cc

  variable_home : (x : code.Variable) (v : Variable) → VariableIs p s.variables (scope_at p s f t) x v → v.is_plain ≡ false
      → has_layout blocks (home_of p c.world.locals x) v.layout ≡ true
  variable_home (variable.Global x) v e not_plain = sym (unchosen v.is_plain _ _ not_plain) ∙ h.good.well.globals x v e
  variable_home (variable.Local x) v e not_plain =
      let r = h.homes x v e.0 e.1 not_plain in
      subst (λ l. has_layout blocks (block_of_local p x l) v.layout ≡ true) (sym r.same) (has_its_layout blocks r.block v.layout r.layout)

  pub kinds_held : HoldsKinds p s.variables (scope_at p s f t) c.temps c.world
  kinds_held = record {
    locals = λ x v e declared is set. local_content x v (h.locals x v e declared is);
    globals = global_content;
    temporaries = temporary_content;
    homes = variable_home;
    cells = good_contents p c.world.memory h.good;
    short = h.good.well.short;
  }

  -- ---- what expressions give

  pub value_held : (cs : List Check) (e : tree.Value) (k : CellKind) → ValueFits p s f t cs e k → list_all (is_met p s.variables c.temps c.world e) cs ≡ true
      → is_content p (count blocks) k (total p s.variables c.temps c.world e) ≡ true
  value_held cs e k fits met =
      subst (λ k. is_content p (count blocks) k (total p s.variables c.temps c.world e) ≡ true) fits.kind
      (values_are_of_kind p s.variables (scope_at p s f t) c.temps c.world kinds_held e fits.typed
      (subst (λ cs. list_all (is_met p s.variables c.temps c.world e) cs ≡ true) fits.checks met))

  pub operand_held : (es : tree.Values) → AreTyped p s.variables (scope_at p s f t) es → list_all (is_met_in p s.variables c.temps c.world es) (all_checks s.variables es) ≡ true
      → (i : ℕ) → is_content p (count blocks) (operand_kind es i) (value_at (totals p s.variables c.temps c.world es) i) ≡ true
  operand_held es typed met i = all_stay kinds_held es typed met i

  -- ---- the way to an object that is written

  module _ (type : CoreType) (path : Path) (vs : List Value) (es : tree.Values) where
    abbrev test : Check → Bool
    test = place_test p s.variables c.temps c.world type path vs es

    pub place_operands : list_all test (place_checks p s path es) ≡ true → list_all (is_met_in p s.variables c.temps c.world es) (all_checks s.variables es) ≡ true
    place_operands met =
        let parts = all_parts test (all_checks s.variables es) (way_checks p s (plain_root s.variables path.root) (plain_global p.globals path.root) path) met in
        sym (all_same test (is_met_in p s.variables c.temps c.world es) (all_checks s.variables es) (deep s.variables es test _ (λ u l n i way. refl))) ∙ parts.0

    pub place_cell : plain_root s.variables path.root ≡ None → plain_global p.globals path.root ≡ None
        → ObjectIsTyped p s.variables (scope_at p s f t) path.root path.steps (cell_of type) → list_all test (place_checks p s path es) ≡ true
        → is_cell (cell_of type) blocks (block_of (address p c.world path vs)) (offset_of (address p c.world path vs)) ≡ true
    place_cell no_local no_global typed met =
        let met_way = (all_parts test (all_checks s.variables es) (way_checks p s (plain_root s.variables path.root) (plain_global p.globals path.root) path) met).1 in
        let met_here : list_all test (index_checks 0 path.steps ++ one_if (is_pointed path.root) access path.line) ≡ true =
        subst (λ x. list_all test (way_checks p s x None path) ≡ true) no_local
        (subst (λ x. list_all test (way_checks p s (plain_root s.variables path.root) x path) ≡ true) no_global met_way) in
        let parts = all_parts test (index_checks 0 path.steps) (one_if (is_pointed path.root) access path.line) met_here in
        object_there kinds_held path.root path.steps (cell_of type) vs test typed
        (λ i k l e. ap (λ o. way_test_by o p c.world type path index k vs) no_local ∙ ap (λ n. step_test vs (slice_get path.steps n)) (e ∙ omega arith)) parts.0
        (λ b. pointed b parts.1) where
          pointed : is_pointed path.root ≡ true → list_all test (one_if (is_pointed path.root) access path.line) ≡ true
              → is_cell (cell_of type) blocks (block_of (address p c.world path vs)) (offset_of (address p c.world path vs)) ≡ true
          pointed b met =
              let one = (and_parts (test (here access path.line)) true (subst (λ b. list_all test (one_if b access path.line) ≡ true) b met)).0 in
              let write : may_write c.world.memory (cell_of type) path.root (address p c.world path vs) ≡ true =
              sym (ap (λ o. way_test_by o p c.world type path access 0 vs) no_local) ∙ one in
              (and_parts (is_cell (cell_of type) blocks (block_of (address p c.world path vs)) (offset_of (address p c.world path vs))) _
              (sym (ap (λ b. if b then is_writable (cell_of type) blocks (block_of (address p c.world path vs)) (offset_of (address p c.world path vs)) else true) b) ∙ write)).0
