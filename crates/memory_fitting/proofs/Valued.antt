-- Expressions and places of a core function with memory fit.
use Rattle.std.proofs.Common.{◌≡◌, ℕ, Bool, true, false, List, [], ◌∷◌, ◌++◌, Option, Some, None, refl, sym, ap, ◌∙◌}
use Rattle.std.specs.List.{list_all}
use Rattle.std.proofs.lemmas.Option.{none-some}
use Rattle.wp_base.specs.declared.kinds.CellKind.{CellKind}
use Rattle.typed_prog.specs.declared.types.CoreType.{CoreType}
use Rattle.typed_prog.specs.declared.operators.Path.{Path}
use Rattle.typed_prog.specs.Tree as t
use Rattle.c_runs.specs.Program.{Facts}
use Rattle.c_runs.specs.Operators.{access}
use Rattle.c_runs.specs.Objects.{plain_root, cell_of, is_pointed}
use Rattle.c_runs.specs.Checks.{all_checks, index_checks, one_if}
use Rattle.c_runs.specs.Adding as adding
use Rattle.value_terms.specs.Readings.{Term, plain_global}
use Rattle.value_terms.specs.Terms.{terms_of}
use Rattle.value_terms.specs.Typed.{AreTyped}
use Rattle.program_steps.specs.Temporaries.{Temporaries, uses, some_use}
use Rattle.typed_runs.specs.Fitting as typed
use Rattle.typed_normal.specs.Typed.{all_temporaries, core_scope, IsOfKind, IsStored}
use Rattle.memory_words.specs.Shapes.{FileCells, Shape}
use Rattle.memory_words.specs.Readings.{InScope, reading}
use Rattle.memory_words.specs.Seen.{scope_at, is_closed_term, ValueFits}
use Rattle.memory_words.specs.Typed.{ValuesFit, LeadsTo, to_local, to_global, to_cell, way_checks, StoreFits}
use Rattle.memory_words.specs.Words.{rest_of}
use Rattle.memory_values.specs.Laws.{AllClosed}
use Rattle.memory_values.proofs.Closing.{values_are_closed}
use Rattle.program_cells.specs.Parts.{blocks, of_kind, AreKnown}
use Rattle.program_cells.specs.Programs.{place_parts, value_parts, values_parts, written_parts}
use Rattle.temporary_kinds.specs.Kinds.{value_kind, values_kind}
use Rattle.memory_fitting.specs.Expressions.{Agrees, Among}
use Rattle.memory_fitting.specs.Values.{own_shape, TypedExpressionsFit}
use Rattle.memory_fitting.proofs.Typing.{and_second, known_left, known_right, blocks_known, kind_known, place_open, object_kept, value_stays, values_stay}

module _ (p : Facts) (s : Shape) (n : ℕ) (k : ℕ → CellKind) (b : Bool) (h : CellKind → Bool) (cells : FileCells) (i : InScope) where
  abbrev own : typed.Shape
  own = own_shape p s n k b h cells i

  closed : AllClosed p s (reading p s cells)
  closed = values_are_closed p s cells 0

  pub value_fits : (f : Temporaries) (e : t.Value) (l : CellKind) → IsOfKind p own i e l → AreKnown cells (value_parts p s.variables e) → Agrees s k (value_kind e)
      → Among (uses e) f → ValueFits p s cells i f e l
  value_fits f e l is known agree among = record {
    typed = value_stays p s n k b h cells i f e is.0 known agree among;
    kind = is.1;
    items = (closed.value e).items;
    term = (closed.value e).term;
  }

  pub values_fit : (f : Temporaries) (es : t.Values) → AreTyped p s.variables (core_scope p own i) es → AreKnown cells (values_parts p s.variables es)
      → Agrees s k (values_kind es) → Among (some_use es) f → ValuesFit p s cells i f es
  values_fit f es are known agree among = record {
    typed = values_stay p s n k b h cells i f es are known agree among;
    items = (closed.operands es).items;
    terms = (closed.operands es).terms;
  }

  pub way_fits : (f : Temporaries) (type : CoreType) (path : Path) (es : t.Values) (ts : List Term) → typed.LeadsTo p own i all_temporaries type path
      → AreKnown cells (written_parts p s.variables type path es) → list_all is_closed_term ts ≡ true → LeadsTo p s cells i f type path ts
  way_fits f type path es ts (typed.to_local x v r ss found plain kind so) known shut = to_local x v r ss found plain kind so
  way_fits f type path es ts (typed.to_global x v r ss found plain kind) known shut = to_global x v r ss found plain kind
  way_fits f type path es ts (typed.to_cell local file object) known shut =
      let place : AreKnown cells (place_parts p s.variables path (cell_of type)) = known_left cells (place_parts p s.variables path (cell_of type)) (values_parts p s.variables es) known in
      let open_ : AreKnown cells (blocks ∷ of_kind (cell_of type) ∷ []) = place_open p s.variables cells path (cell_of type) local file place in
      to_cell local file (blocks_known cells (of_kind (cell_of type) ∷ []) open_) (kind_known cells (cell_of type) open_)
      (object_kept p s.variables cells (core_scope p own i) (scope_at s cells i f) (λ x d. d) refl (λ l. refl) path.root path.steps (cell_of type) object)
      (closed.way type path ts shut) (closed.address path ts shut)

  -- ---- checks of ways

  same_way : (f : Temporaries) (o g : Option ℕ) (path : Path) → ((x : ℕ) → g ≡ Some x → (index_checks 0 path.steps ++ one_if (is_pointed path.root) access path.line) ≡ [])
      → adding.way_checks_by o path ≡ way_checks p s cells i f o g path
  same_way f (Some x) (Some y) path none = refl
  same_way f (Some x) None path none = refl
  same_way f None None path none = refl
  same_way f None (Some x) path none = none x refl

  pub nothing_asked : (path : Path) → path.steps ≡ [] → is_pointed path.root ≡ false → (index_checks 0 path.steps ++ one_if (is_pointed path.root) access path.line) ≡ []
  nothing_asked path ss r = ap (λ l. index_checks 0 l ++ one_if (is_pointed path.root) access path.line) ss ∙ ap (λ c. one_if c access path.line) r

  file_way : (type : CoreType) (path : Path) → typed.LeadsTo p own i all_temporaries type path → (x : ℕ) → plain_global p.globals path.root ≡ Some x
      → (index_checks 0 path.steps ++ one_if (is_pointed path.root) access path.line) ≡ []
  file_way type path (typed.to_local y v r ss found plain kind so) x e = nothing_asked path ss (ap is_pointed r)
  file_way type path (typed.to_global y v r ss found plain kind) x e = nothing_asked path ss (ap is_pointed r)
  file_way type path (typed.to_cell local file object) x e = absurd (none-some x (sym file ∙ e))

  pub checks_same : (f : Temporaries) (type : CoreType) (path : Path) (es : t.Values) → typed.LeadsTo p own i all_temporaries type path
      → adding.place_checks s.variables path es
      ≡ all_checks s.variables es ++ way_checks p s cells i f (plain_root s.variables path.root) (plain_global p.globals path.root) path
  checks_same f type path es way =
      ap (λ cs. all_checks s.variables es ++ cs) (same_way f (plain_root s.variables path.root) (plain_global p.globals path.root) path (file_way type path way))

  -- ---- what is stored

  rest_closed : (ts : List Term) → list_all is_closed_term ts ≡ true → list_all is_closed_term (rest_of ts) ≡ true
  rest_closed [] shut = refl
  rest_closed (a ∷ ts) shut = and_second (is_closed_term a) (list_all is_closed_term ts) shut

  pub store_fits : (f : Temporaries) (type : CoreType) (path : Path) (es : t.Values) → IsStored p own i type path es → AreKnown cells (written_parts p s.variables type path es)
      → Agrees s k (values_kind es) → Among (some_use es) f → StoreFits p s cells i f (adding.place_checks s.variables path es) type path es
  store_fits f type path es is known agree among = record {
    values = values_fit f es is.typed (known_right cells (place_parts p s.variables path (cell_of type)) (values_parts p s.variables es) known) agree among;
    stored = is.kind;
    some = λ none. is.some (sym none);
    way = way_fits f type path es (rest_of (terms_of p s.variables (reading p s cells) es)) is.way known
        (rest_closed (terms_of p s.variables (reading p s cells) es) (closed.operands es).terms);
    checks = checks_same f type path es is.way;
  }

pub typed_expressions_fit : TypedExpressionsFit
typed_expressions_fit p s n k b h cells i = record {
  value = value_fits p s n k b h cells i;
  operands = values_fit p s n k b h cells i;
  way = way_fits p s n k b h cells i;
  stored = store_fits p s n k b h cells i;
}
