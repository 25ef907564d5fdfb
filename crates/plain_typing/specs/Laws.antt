-- Typed expressions over plain integers give what is asked of them where they stand.
use Rattle.std.specs.Prelude.{◌≡◌, ◌<◌, ◌≤◌, ℕ, suc, nat_lt, Bool, true, false, if◌then◌else◌, List, length, Option, Some, None, slice_get}
use Rattle.std.specs.List.{list_all}
use Rattle.wp_base.specs.declared.kinds.CellKind.{CellKind}
use Rattle.wp_base.specs.declared.kinds.CellKind.TheVariants as cell
use Rattle.wp_base.specs.declared.kinds.Kind.{Kind}
use Rattle.typed_prog.specs.declared.types.CoreType.{CoreType}
use Rattle.typed_prog.specs.declared.operators.Path.{Path}
use Rattle.typed_prog.specs.Tree as t
use Rattle.c_runs.specs.Program.{Variable, Facts}
use Rattle.c_runs.specs.Checks.{checks_of, all_checks}
use Rattle.c_runs.specs.Adding.{place_checks}
use Rattle.plain_states.specs.Scopes.{is_integer, kind_of}
use Rattle.plain_runs.specs.Fitting.{Shape, Gives, GiveAll, LeadsTo, Stores}
use Rattle.value_terms.specs.Typed.{Scope, kind_given, operand_kind, IsTyped, AreTyped}

-- what is known where an expression of the function stands: its temporaries have kinds, and no block is spoken of
abbrev pub temporary_kind : Shape → ℕ → Option CellKind
temporary_kind s n = if nat_lt n s.temporaries then Some (cell.Of (s.temp_kind n)) else None

abbrev pub scope_of : Shape → Scope
scope_of s = record { has_blocks = false; has_kind = λ k. false; is_declared = λ x. true; temporaries = temporary_kind s }

-- a value of its type's kind
abbrev pub TypedGive : Type 0
TypedGive =
    (p : Facts) (s : Shape) → list_all is_integer p.globals ≡ true → list_all is_integer s.variables ≡ true → (e : t.Value) → IsTyped p s.variables (scope_of s) e
    → (k : Kind) → kind_given (t.type_of e) ≡ cell.Of k → Gives p s (checks_of s.variables e) e k

-- how many operands there are
abbrev pub count_of : t.Values → ℕ
count_of t.stop = 0
count_of (t.more e es) = suc (count_of es)

-- operands of the kinds of parameters
abbrev pub TypedGiveAll : Type 0
TypedGiveAll =
    (p : Facts) (s : Shape) → list_all is_integer p.globals ≡ true → list_all is_integer s.variables ≡ true → (es : t.Values) → AreTyped p s.variables (scope_of s) es
    → (xs : List Variable) → count_of es ≤ length xs
    → ((i : ℕ) (v : Variable) → i < count_of es → slice_get xs i ≡ Some v → operand_kind es i ≡ cell.Of (kind_of v))
    → GiveAll p s (all_checks s.variables es) es xs (count_of es)

-- a value that is stored in a variable of its kind
abbrev pub TypedStore : Type 0
TypedStore =
    (p : Facts) (s : Shape) → list_all is_integer p.globals ≡ true → list_all is_integer s.variables ≡ true → (e : t.Value) → IsTyped p s.variables (scope_of s) e
    → (in_scope : ℕ → Bool) (type : CoreType) (path : Path) (k : Kind) → LeadsTo p s in_scope path k → kind_given (t.type_of e) ≡ cell.Of k
    → Stores p s (place_checks s.variables path (t.more e t.stop)) type path (t.more e t.stop) k
