-- Calls of a core function with memory fit.
use Rattle.std.proofs.Common.{◌≡◌, ◌<◌, ℕ, zero, suc, Bool, true, false, if◌then◌else◌, List, [], ◌∷◌, ◌++◌, Option, Some, None, slice_get, refl, sym, ap, subst, ◌∙◌, arith}
use Rattle.std.proofs.lemmas.Bool.{false≢true}
use Rattle.std.proofs.lemmas.Option.{none-some, same_Some}
use Rattle.wp_base.specs.declared.kinds.CellKind.{CellKind}
use Rattle.wp_base.specs.declared.kinds.CellKind.TheVariants as cell
use Rattle.typed_prog.specs.declared.types.CoreType.{CoreType}
use Rattle.typed_prog.specs.declared.operators.Path.{Path}
use Rattle.typed_prog.specs.Tree as t
use Rattle.c_runs.specs.Program.{Variable, Measure, Facts}
use Rattle.c_runs.specs.Operators.{access}
use Rattle.c_runs.specs.Objects.{is_plain_in, plain_root, cell_of, is_pointed}
use Rattle.c_runs.specs.Core.{Target, nowhere, temporary, place, variable}
use Rattle.c_runs.specs.Tree as core
use Rattle.c_runs.specs.Adding as adding
use Rattle.c_runs.specs.Adding.{goal_of}
use Rattle.c_runs.specs.Checks.{all_checks, index_checks, one_if}
use Rattle.value_terms.specs.Readings.{plain_global}
use Rattle.value_terms.specs.Terms.{terms_of}
use Rattle.value_terms.specs.Typed.{operand_kind, AreTyped}
use Rattle.program_steps.specs.Temporaries.{Temporaries, some_use, goal_uses}
use Rattle.typed_runs.specs.Fitting as typed
use Rattle.typed_normal.specs.Typed.{all_temporaries, core_scope, IsReceived, none_received, temporary_gets, place_gets, variable_gets}
use Rattle.memory_words.specs.Shapes.{FileCells, Shape, kind_of, is_pointer_cell}
use Rattle.memory_words.specs.Readings.{InScope, reading}
use Rattle.memory_words.specs.Typed.{way_checks}
use Rattle.memory_calls.specs.CallFits.{IfMeasured, count_of, Receives, by_nothing, by_temporary, by_local, by_global, by_cell, by_variable, ResultGoes, none_nowhere, none_to, goes_to}
use Rattle.memory_values.proofs.Closing.{values_are_closed}
use Rattle.program_cells.specs.Parts.{AreKnown}
use Rattle.program_cells.specs.Programs.{is_plain_root, place_parts, values_parts, written_parts, goal_parts, given_parts, variables_parts}
use Rattle.temporary_kinds.specs.Kinds.{values_kind, goal_kind, goal_count}
use Rattle.memory_fitting.specs.Expressions.{Agrees, Among}
use Rattle.memory_fitting.specs.Values.{own_shape}
use Rattle.memory_fitting.specs.Annotated.{HasNoWay, NumbersAre, AreThere}
use Rattle.memory_fitting.proofs.Typing.{same, known_right, blocks_known}
use Rattle.memory_fitting.proofs.Valued.{values_fit, way_fits, nothing_asked, checks_same}
use Rattle.memory_fitting.proofs.Variables.{takes}

-- ---- what is passed

module _ (p : Facts) (s : typed.Shape) where
  pub count_is : (n : ℕ) (xs : List Variable) (es : t.Values) → typed.ArgumentsAre p s n xs es → count_of es ≡ n
  count_is zero xs t.stop h = refl
  count_is zero xs (t.more e es) h = elim h [ ]
  count_is (suc n) [] t.stop h = elim h [ ]
  count_is (suc n) [] (t.more e es) h = elim h [ ]
  count_is (suc n) (x ∷ xs) t.stop h = elim h [ ]
  count_is (suc n) (x ∷ xs) (t.more e es) h = ap suc (count_is n xs es h.1)

  pub kinds_are : (n : ℕ) (xs : List Variable) (es : t.Values) → typed.ArgumentsAre p s n xs es → (x : ℕ) (v : Variable) → slice_get xs x ≡ Some v → x < n
      → operand_kind es x ≡ kind_of v
  kinds_are zero xs es h x v found less = absurd (omega (arith, less))
  kinds_are (suc n) [] es h x v found less = absurd (none-some v found)
  kinds_are (suc n) (y ∷ ys) t.stop h x v found less = elim h [ ]
  kinds_are (suc n) (y ∷ ys) (t.more e es) h zero v found less = h.0 ∙ ap kind_of (same_Some y v found)
  kinds_are (suc n) (y ∷ ys) (t.more e es) h (suc x) v found less =
      let fewer : x < n = omega (arith, less) in kinds_are n ys es h.1 x v found fewer

pub if_measured : (f : Measure → Type 0) (o : Option Measure) → ((v : Measure) → o ≡ Some v → f v) → IfMeasured f o
if_measured f None h = tt
if_measured f (Some v) h = h v refl

-- without blocks no function gives a pointer
pub no_pointer : (cells : FileCells) (r : Option CellKind) → AreKnown cells (given_parts r) → cells.has_blocks ≡ false → (l : CellKind) → r ≡ Some l → is_pointer_cell l ≡ false
no_pointer cells r known none (cell.Of l) is = refl
no_pointer cells r known none cell.Ptr is =
    absurd (false≢true (sym none ∙ blocks_known cells [] (subst (λ o. AreKnown cells (given_parts o)) is known)))

-- ---- where the result goes

module _ (p : Facts) (s : Shape) (n : ℕ) (k : ℕ → CellKind) (b : Bool) (h : CellKind → Bool) (cells : FileCells) (i : InScope) (used : Temporaries) where
  abbrev own : typed.Shape
  own = own_shape p s n k b h cells i

  no_checks : (o : Option ℕ) (path : Path) → (index_checks 0 path.steps ++ one_if (is_pointed path.root) access path.line) ≡ [] → adding.way_checks_by o path ≡ []
  no_checks (Some x) path none = refl
  no_checks None path none = none

  -- a variable that no pointer leads to
  by_plain : (type : CoreType) (l : ℕ) (path : Path) (es : t.Values) → es ≡ t.stop → path.steps ≡ [] → is_pointed path.root ≡ false
      → Receives p s cells i used (cell_of type) (core.place [] type l path t.stop)
      → Receives p s cells i used (cell_of type) (core.place (adding.place_checks s.variables path es) type l path es)
  by_plain type l path es none ss r given =
      subst (λ us. Receives p s cells i used (cell_of type) (core.place (adding.place_checks s.variables path us) type l path us)) (sym none)
      (subst (λ cs. Receives p s cells i used (cell_of type) (core.place cs type l path t.stop))
      (sym (no_checks (plain_root s.variables path.root) path (nothing_asked p s n k b h cells i path ss r))) given)

  by_way : (type : CoreType) (l : ℕ) (path : Path) (es : t.Values) → AreTyped p s.variables (core_scope p own i) es → typed.LeadsTo p own i all_temporaries type path
      → (is_plain_root p s.variables path.root ≡ true → es ≡ t.stop) → AreKnown cells (written_parts p s.variables type path es) → Agrees s k (values_kind es)
      → Among (some_use es) used → Receives p s cells i used (cell_of type) (core.place (adding.place_checks s.variables path es) type l path es)
  by_way type l path es are (typed.to_local x v r ss found plain kind so) none known agree among =
      by_plain type l path es (none (ap (is_plain_root p s.variables) r ∙ ap is_plain_in found ∙ plain)) ss (ap is_pointed r)
      (by_local x v r ss found plain kind refl so)
  by_way type l path es are (typed.to_global x v r ss found plain kind) none known agree among =
      by_plain type l path es (none (ap (is_plain_root p s.variables) r ∙ ap is_plain_in found ∙ plain)) ss (ap is_pointed r)
      (by_global x v r ss found plain kind refl)
  by_way type l path es are (typed.to_cell local file object) none known agree among = by_cell refl (record {
    values = values_fit p s n k b h cells i used es are (known_right cells (place_parts p s.variables path (cell_of type)) (values_parts p s.variables es) known) agree among;
    way = way_fits p s n k b h cells i used type path es (terms_of p s.variables (reading p s cells) es) (typed.to_cell local file object) known
        ((values_are_closed p s cells 0).operands es).terms;
    no_local = local;
    no_global = file;
    checks = checks_same p s n k b h cells i used type path es (typed.to_cell local file object)
        ∙ ap (λ o. all_checks s.variables es ++ way_checks p s cells i used o (plain_global p.globals path.root) path) local
        ∙ ap (λ g. all_checks s.variables es ++ way_checks p s cells i used None g path) file;
  })

  pub result_goes : (low : ℕ) (r given : Option CellKind) (to : Target) → given ≡ r → IsReceived p own i low r to → AreKnown cells (variables_parts s.variables) → NumbersAre s k
      → AreKnown cells (goal_parts p s.variables (goal_of s.variables to)) → Agrees s k (goal_kind (goal_of s.variables to) given)
      → AreThere s (goal_count (goal_of s.variables to)) → Among (goal_uses (goal_of s.variables to)) used → HasNoWay p s (goal_of s.variables to)
      → ResultGoes p s cells i used r (goal_of s.variables to)
  result_goes low None given nowhere is how vars numbers known agree there among none = none_nowhere
  result_goes low (Some l) given nowhere is how vars numbers known agree there among none = goes_to by_nothing
  result_goes low None given (temporary x) is (none_received {k = l} kind) vars numbers known agree there among none =
      let here : x < suc x = omega (arith) in none_to (there x here) (numbers x l kind)
  result_goes low (Some l) given (temporary x) is (temporary_gets kind) vars numbers known agree there among none =
      let told : (s.temp_kind x ≡ k x) × (x < s.temporaries) = agree x l (ap (λ c. if c then given else None) (same x) ∙ is) in
      goes_to (by_temporary told.1 (told.0 ∙ kind))
  result_goes low r given (place type l path es) is (place_gets are way) vars numbers known agree there among none =
      goes_to (by_way type l path es are way none known agree among)
  result_goes low r given (variable x) is (variable_gets {k = l} got) vars numbers known agree there among none =
      goes_to (by_variable (takes cells p s n k b h vars i low x l got))
