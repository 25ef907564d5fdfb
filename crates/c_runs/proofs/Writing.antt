-- Places and writes beside their checks.
use Rattle.std.proofs.Common.{◌≡◌, ℕ, Bool, true, List, [], ◌∷◌, refl, sym, ap, ◌∙◌, arith, Option, Some, None}
use Rattle.std.specs.Prelude.{slice_get}
use Rattle.typed_prog.specs.declared.types.CoreType.{CoreType}
use Rattle.typed_prog.specs.declared.operators.Path.{Path}
use Rattle.typed_prog.specs.Tree as t
use Rattle.c_runs.specs.Told.{Value}
use Rattle.c_runs.specs.Program.{Facts, Variable}
use Rattle.c_runs.specs.States.{World, Here}
use Rattle.c_runs.specs.Operators.{Undefined, index, access, is, wrong, where_true}
use Rattle.c_runs.specs.Objects.{plain_root, cell_of, address, is_pointed, may_write}
use Rattle.c_runs.specs.Values.{Temps, Vals, are, wrongs, values}
use Rattle.c_runs.specs.Claims.{undefined}
use Rattle.c_runs.specs.Calls.{nought}
use Rattle.c_runs.specs.Effects.{Written, unwritten, written_at, target, written_by, write, wrote_act, assigned}
use Rattle.c_runs.specs.CoreRun.{Ending, with_eval}
use Rattle.c_runs.specs.NormalTold.{Check, one_if, all_checks, are_pure, totals, step_test, settle}
use Rattle.c_runs.proofs.NormalTold.{settle_append, settle_through, last_settle, at_step, indexed_settle, unless_pointed, operands_same, all_checked}
use Rattle.c_runs.specs.Adding.{way_checks_by, way_checks, place_checks}
use Rattle.c_runs.specs.CheckedRun.{goes_wrong, is_met_in, way_test_by, place_test, put_by, put, stored_value, way_values}

abbrev written_wrong : Undefined → (line : ℕ) → Written
written_wrong u l = unwritten (undefined u l)

-- the address that is written
target_settle : (p : Facts) (w : World) (type : CoreType) (path : Path) (vs : List Value) (test : Check → Bool)
    → ((u : Undefined) (l n : ℕ) → test (at_step u l n) ≡ way_test_by None p w type path u n vs)
    → target p w (cell_of type) path vs ≡ settle (way_checks_by None path) test wrong (is (address p w path vs))
target_settle p w type path vs test h =
    indexed_settle vs path.steps 0 test (one_if (is_pointed path.root) access path.line)
    (where_true (may_write w.memory (cell_of type) path.root (address p w path vs)) access path.line (is (address p w path vs))) (address p w path vs)
    (λ i k l e. h index l k ∙ ap (λ n. step_test vs (slice_get path.steps n)) (omega arith))
    (last_settle (is_pointed path.root) (may_write w.memory (cell_of type) path.root (address p w path vs)) access path.line test (address p w path vs)
    (unless_pointed (is_pointed path.root) _) (h access path.line 0))

written_settle : (r : Option ℕ) (p : Facts) (here : Here) (l : ℕ) (type : CoreType) (path : Path) (w : World) (vs : List Value) (v : Value) (test : Check → Bool)
    → ((u : Undefined) (l n : ℕ) → test (at_step u l n) ≡ way_test_by r p w type path u n vs)
    → written_by r p here l type path w vs v ≡ settle (way_checks_by r path) test written_wrong (put_by r p here l type path w vs v)
written_settle (Some x) p here l type path w vs v test h = refl
written_settle None p here l type path w vs v test h =
    ap (λ a. written_at here l (cell_of type) w a v) (target_settle p w type path vs test h)
    ∙ settle_through (λ a. written_at here l (cell_of type) w a v) (way_checks_by None path) test wrong (is (address p w path vs))

-- a write, and what follows it
pub write_settle : (p : Facts) (xs : List Variable) (here : Here) (l : ℕ) (type : CoreType) (path : Path) (w : World) (vs : List Value) (v : Value)
    (go : Value → World → Ending) (test : Check → Bool)
    → ((u : Undefined) (l n : ℕ) → test (at_step u l n) ≡ way_test_by (plain_root xs path.root) p w type path u n vs)
    → with_eval (wrote_act v (write p xs here l type path w vs v)) go
    ≡ settle (way_checks xs path) test goes_wrong (with_eval (wrote_act v (put p xs here l type path w vs v)) go)
unfolding write
write_settle p xs here l type path w vs v go test h =
    ap (λ q. with_eval (wrote_act v q) go) (written_settle (plain_root xs path.root) p here l type path w vs v test h)
    ∙ settle_through (λ q. with_eval (wrote_act v q) go) (way_checks xs path) test written_wrong (put p xs here l type path w vs v)

-- operands, and then the way
pub place_settle : (p : Facts) (xs : List Variable) (tm : Temps) (w : World) (type : CoreType) (path : Path) (vs : List Value) (es : t.Values) (x : Ending)
    → settle (all_checks xs es) (is_met_in p xs tm w es) goes_wrong (settle (way_checks xs path) (place_test p xs tm w type path vs es) goes_wrong x)
    ≡ settle (place_checks xs path es) (place_test p xs tm w type path vs es) goes_wrong x
place_settle p xs tm w type path vs es x =
    operands_same p xs es (is_met_in p xs tm w es) (place_test p xs tm w type path vs es) (λ u l n i way. refl) goes_wrong
    (settle (way_checks xs path) (place_test p xs tm w type path vs es) goes_wrong x)
    ∙ sym (settle_append (all_checks xs es) (way_checks xs path) (place_test p xs tm w type path vs es) goes_wrong x)

-- operands without effects, and what follows them
pub operands_settle : (p : Facts) (xs : List Variable) (es : t.Values) → are_pure es ≡ true → (tm : Temps) (w : World)
    (go : Vals → Ending) → ((u : Undefined) (l : ℕ) → go (wrongs u l) ≡ goes_wrong u l)
    → go (values p xs tm nought w es) ≡ settle (all_checks xs es) (is_met_in p xs tm w es) goes_wrong (go (are (totals p xs tm w es)))
operands_settle p xs es h tm w go bad =
    ap go (all_checked p xs es h tm nought w)
    ∙ settle_through go (all_checks xs es) (is_met_in p xs tm w es) wrongs (are (totals p xs tm w es))
    ∙ settle_bad (all_checks xs es) (is_met_in p xs tm w es) (λ u l. go (wrongs u l)) goes_wrong bad (go (are (totals p xs tm w es)))
  where
    settle_bad : (cs : List Check) (test : Check → Bool) (bad good : Undefined → ℕ → Ending) → ((u : Undefined) (l : ℕ) → bad u l ≡ good u l) → (x : Ending)
        → settle cs test bad x ≡ settle cs test good x
    settle_bad [] test bad good e x = refl
    settle_bad (c ∷ cs) test bad good e x = rw (e c.kind c.line, settle_bad cs test bad good e x) refl

-- the first operand is what is stored
pub assigned_is : (p : Facts) (xs : List Variable) (here : Here) (l : ℕ) (type : CoreType) (path : Path) (vs : List Value) (w : World)
    → assigned p xs here l type path vs w ≡ wrote_act (stored_value vs) (write p xs here l type path w (way_values vs) (stored_value vs))
assigned_is p xs here l type path [] w = refl
assigned_is p xs here l type path (v ∷ vs) w = refl
