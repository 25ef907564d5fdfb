-- Typed expressions where fewer temporaries are used, and what stands for them.
use Rattle.std.proofs.Common.{◌≡◌, ℕ, Bool, true, false, ◌&&◌, if◌then◌else◌, List, [], ◌++◌, Option, Some, None, refl, ap, ◌∙◌, append-nil, arith}
use Rattle.std.specs.Prelude.{nat_lt, ◌==◌}
use Rattle.std.specs.List.{list_all}
use Rattle.std.proofs.lemmas.Bool.{false≢true, and_parts}
use Rattle.std.proofs.lemmas.Bool.Decides.{nat_tests}
use Rattle.wp_base.specs.declared.kinds.CellKind.{CellKind}
use Rattle.wp_base.specs.declared.kinds.CellKind.TheVariants as cell
use Rattle.wp_base.specs.declared.kinds.Kind.{Kind}
use Rattle.typed_prog.specs.declared.types.CoreType.{CoreType}
use Rattle.typed_prog.specs.declared.operators.Op.{Op}
use Rattle.typed_prog.specs.declared.operators.Op.TheVariants as op
use Rattle.typed_prog.specs.declared.operators.Path.{Path}
use Rattle.typed_prog.specs.declared.operators.Root.{Root}
use Rattle.typed_prog.specs.declared.operators.Step.{Step}
use Rattle.typed_prog.specs.Tree as t
use Rattle.c_runs.specs.Program.{Facts}
use Rattle.c_runs.specs.Objects.{plain_root, is_plain_in, is_pointed}
use Rattle.c_runs.specs.Operators.{access}
use Rattle.c_runs.specs.Checks.{all_checks, index_checks, one_if}
use Rattle.c_runs.specs.Adding.{way_checks, way_checks_by, place_checks}
use Rattle.plain_states.specs.Scopes.{is_integer, are_one_integer}
use Rattle.plain_states.proofs.Scoping.{listed_integer}
use Rattle.plain_runs.specs.Fitting.{Shape, LeadsTo, to_local, to_global}
use Rattle.plain_typing.specs.Laws.{scope_of}
use Rattle.value_terms.specs.Readings.{plain_global}
use Rattle.value_terms.specs.Typed.{kind_given, CellIsTyped, ReadIsTyped, OpIsTyped, NodeIsTyped, IsTyped, AreTyped}
use Rattle.loop_words.specs.Told.{Temporaries, node_uses, uses, some_use, temporary_kind, scope_at}
use Rattle.plain_words.proofs.Live.{Among, left_in, right_in}

module _ (p : Facts) (s : Shape) (f : Temporaries) where
  -- ---- operators look at temporaries in no way

  cell_typed : (o : Option ℕ) (r : Root) (ss : List Step) (k : CellKind) → CellIsTyped p s.variables (scope_of s) o r ss k → CellIsTyped p s.variables (scope_at s f) o r ss k
  cell_typed (Some x) r ss k h = h
  cell_typed None r ss k h = absurd (false≢true h.0)

  read_typed : (o : Option ℕ) (type : CoreType) (path : Path) → ReadIsTyped p s.variables (scope_of s) o type path → ReadIsTyped p s.variables (scope_at s f) o type path
  read_typed (Some x) type path h = record { variable = h.variable; found = h.found; declared = refl; kind = h.kind }
  read_typed None type path h = (h.0, cell_typed (plain_global p.globals path.root) path.root path.steps (kind_given type) h.1)

  op_typed : (type : CoreType) (o : Op) (es : t.Values) → OpIsTyped p s.variables (scope_of s) type o es → OpIsTyped p s.variables (scope_at s f) type o es
  op_typed type (op.Read path) es h = read_typed (plain_root s.variables path.root) type path h
  op_typed type (op.Address path accessed) es h = absurd (false≢true h.1)
  op_typed type (op.Decay path accessed) es h = absurd (false≢true h.1)
  op_typed type op.Negate es h = h
  op_typed type op.Complement es h = h
  op_typed type op.Not es h = h
  op_typed type (op.Arithmetic o) es h = h
  op_typed type (op.Compare c) es h = h
  op_typed type (op.ComparePointers c) es h = h
  op_typed type (op.Offset minus index_first size accessed) es h = h
  op_typed type (op.Difference size) es h = h
  op_typed type op.Convert es h = h
  op_typed type op.Requalify es h = h
  op_typed type op.Cast es h = h

  -- ---- a temporary that is used

  temporary_typed : (n : ℕ) (k : CellKind) → (if nat_lt n s.temporaries then Some (cell.Of (s.temp_kind n)) else None) ≡ Some k → f n ≡ true → temporary_kind s f n ≡ Some k
  temporary_typed n k h e = ap (λ b. if nat_lt n s.temporaries && b then Some (cell.Of (s.temp_kind n)) else None) e ∙ by (nat_lt n s.temporaries) h where
    by : (b : Bool) → (if b then Some (cell.Of (s.temp_kind n)) else None) ≡ Some k → (if b && true then Some (cell.Of (s.temp_kind n)) else None) ≡ Some k
    by true h = h
    by false h = h

  same_number : (n : ℕ) → (n == n) ≡ true
  same_number n = grind (arith, nat_tests)

  mutual
    node_typed : (type : CoreType) (e : t.ValueNode) → NodeIsTyped p s.variables (scope_of s) type e → Among (node_uses e) f → NodeIsTyped p s.variables (scope_at s f) type e
    node_typed type (t.constant z) h among = h
    node_typed type t.null h among = h
    node_typed type (t.temporary n) h among = temporary_typed n (kind_given type) h (among n (same_number n))
    node_typed type (t.apply o es) h among = (values_typed es h.0 among, op_typed type o es h.1)
    node_typed type (t.logic c a b) h among = absurd h
    node_typed type (t.choose c a b) h among = absurd h
    node_typed type (t.effect e es) h among = absurd h

    pub value_typed : (e : t.Value) → IsTyped p s.variables (scope_of s) e → Among (uses e) f → IsTyped p s.variables (scope_at s f) e
    value_typed (t.typed node type l) h among = node_typed type node h among

    pub values_typed : (es : t.Values) → AreTyped p s.variables (scope_of s) es → Among (some_use es) f → AreTyped p s.variables (scope_at s f) es
    values_typed t.stop h among = tt
    values_typed (t.more e es) h among =
        (value_typed e h.0 (λ n k. among n (left_in (uses e n) (some_use es n) k)), values_typed es h.1 (λ n k. among n (right_in (uses e n) (some_use es n) k)))

-- ---- checks of objects

-- a way to a plain variable has no checks
pub no_way_checks : (p : Facts) (s : Shape) → list_all is_integer s.variables ≡ true → (f : ℕ → Bool) (path : Path) (k : Kind) → LeadsTo p s f path k → way_checks s.variables path ≡ []
no_way_checks p s integers f path k (to_local x y r ss e kind so) =
    let is_plain = (and_parts y.is_plain (are_one_integer y.layout.cells) (listed_integer s.variables integers x y e)).0 in
    ap (λ o. way_checks_by o path) (ap (plain_root s.variables) r ∙ ap (λ o. if is_plain_in o then Some x else None) e ∙ ap (λ b. if b then Some x else None) is_plain)
no_way_checks p s integers f path k (to_global x y r ss e kind) =
    ap (λ o. way_checks_by o path) (ap (plain_root s.variables) r)
    ∙ ap (λ l. index_checks 0 l ++ one_if (is_pointed path.root) access path.line) ss ∙ ap (λ o. one_if (is_pointed o) access path.line) r

pub stored_checks : (p : Facts) (s : Shape) → list_all is_integer s.variables ≡ true → (f : ℕ → Bool) (path : Path) (k : Kind) → LeadsTo p s f path k → (es : t.Values)
    → place_checks s.variables path es ≡ all_checks s.variables es
stored_checks p s integers f path k way es = ap (λ l. all_checks s.variables es ++ l) (no_way_checks p s integers f path k way) ∙ append-nil (all_checks s.variables es)
