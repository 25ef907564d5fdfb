-- The variables of plain files are integers that no pointer leads to.
use Rattle.std.proofs.Common.{◌≡◌, ℕ, zero, suc, ◌+◌, Bool, true, false, ◌&&◌, List, [], ◌∷◌, length, Option, Some, None, is_some, option_map, slice_get, refl, sym, ap, ◌∙◌, arith}
use Rattle.std.specs.Prelude.{slice_index_or, ◌==◌, if◌then◌else◌}
use Rattle.std.specs.List.{list_all}
use Rattle.std.proofs.lemmas.Bool.{false≢true, and_parts}
use Rattle.typed_prog.specs.declared.types.Base.{Base}
use Rattle.typed_prog.specs.declared.types.Base.TheVariants as base
use Rattle.typed_prog.specs.Types.{kind_by}
use Rattle.c_scopes.specs.declared.symbols.Object.{Object}
use Rattle.c_scopes.specs.declared.symbols.Signature.{Signature}
use Rattle.c_scopes.specs.declared.symbols.Structure.{Structure}
use Rattle.c_scopes.specs.Extents.{element_cells}
use Rattle.typed_unit.specs.Unit as u
use Rattle.acsl_notes.specs.Notes.{Note}
use Rattle.c_programs.specs.Told.{Annotations}
use Rattle.c_runs.specs.Program.{Stmts, Function}
use Rattle.c_programs.specs.Clusters.{at}
use Rattle.c_programs.specs.Files.{or_none, variables_from, Text, text_of, function_with, function_of, functions_from, functions_of, program_of, clauses_for, notes_of, values_of}
use Rattle.plain_states.specs.Scopes.{is_integer, are_one_integer}
use Rattle.plain_states.proofs.Scoping.{none_some}
use Rattle.plain_states.proofs.Calling.{some_same}
use Rattle.plain_test.specs.Plain.{is_integer_type, are_plain_objects, is_plain_stmt, is_plain_body, is_plain_result, is_plain_file}
use Rattle.plain_programs.specs.Files.{IsFound}
use Rattle.plain_programs.specs.Laws.{GlobalsAreIntegers, VariablesAreIntegers}

-- ---- one variable

cells_by : (ss : List Structure) (b : Base) (stars : List Bool) (count : Option ℕ) → is_some (kind_by b stars count) ≡ true → are_one_integer (or_none (element_cells ss b stars)) ≡ true
cells_by ss (base.Of k) [] None h = refl
cells_by ss (base.Of k) [] (Some n) h = absurd (false≢true h)
cells_by ss (base.Of k) (s ∷ stars) count h = absurd (false≢true h)
cells_by ss base.Void stars count h = absurd (false≢true h)
cells_by ss (base.Struct n) stars count h = absurd (false≢true h)

both_true : (a b : Bool) → a ≡ true → b ≡ true → (a && b) ≡ true
both_true true b h k = k
both_true false b h k = h

objects_are_integers : (ss : List Structure) (ps vs : List Bool) (n : ℕ) (os : List Object) → are_plain_objects ps n os ≡ true → list_all is_integer (variables_from ss ps vs n os) ≡ true
objects_are_integers ss ps vs n [] h = refl
objects_are_integers ss ps vs n (o ∷ os) h =
    let parts = and_parts (slice_index_or ps n false && is_integer_type o.ty) (are_plain_objects ps (n + 1) os) h in
    let one = and_parts (slice_index_or ps n false) (is_integer_type o.ty) parts.0 in
    both_true (slice_index_or ps n false && are_one_integer (or_none (element_cells ss o.ty.base o.ty.stars))) (list_all is_integer (variables_from ss ps vs (n + 1) os))
    (both_true (slice_index_or ps n false) (are_one_integer (or_none (element_cells ss o.ty.base o.ty.stars))) one.0 (cells_by ss o.ty.base o.ty.stars o.ty.count one.1))
    (objects_are_integers ss ps vs (n + 1) os parts.1)

-- ---- the parts of a plain file

pub record PlainParts (t : u.Typed) : Type 0 where
  pub globals : are_plain_objects t.plain 0 t.file.globals ≡ true
  pub results : list_all is_plain_result t.file.functions ≡ true
  pub bodies : list_all (is_plain_body t.model) t.bodies ≡ true

pub plain_parts : (t : u.Typed) → is_plain_file t ≡ true → PlainParts t
unfolding is_plain_file
plain_parts t h =
    let first = and_parts (are_plain_objects t.plain 0 t.file.globals) (list_all is_plain_result t.file.functions && list_all (is_plain_body t.model) t.bodies) h in
    let rest = and_parts (list_all is_plain_result t.file.functions) (list_all (is_plain_body t.model) t.bodies) first.1 in
    record { globals = first.0; results = rest.0; bodies = rest.1 }

pub globals_are_integers : GlobalsAreIntegers
unfolding program_of
globals_are_integers t a h = objects_are_integers t.file.structs t.plain _ 0 t.file.globals (plain_parts t h).globals

-- ---- functions that are found

mapped : {X Y : Type 0} (g : X → Y) (o : Option X) (y : Y) → option_map g o ≡ Some y → (x : X) × (o ≡ Some x) × (y ≡ g x)
mapped g None y h = absurd (none_some y h)
mapped g (Some x) y h = (x, refl, sym (some_same (g x) y h))

from_number : (t : u.Typed) (a : Annotations) (i n : ℕ) (gs : List Signature) (f : Function Stmts) → at (functions_from t a i gs) n ≡ Some f
    → (g : Signature) × (slice_get gs n ≡ Some g) × (function_of t a (i + n) g ≡ Some f)
from_number t a i n [] f h = absurd (none_some f h)
from_number t a i zero (g ∷ gs) f h = let e : i + zero ≡ i = omega arith in (g, refl, ap (λ j. function_of t a j g) e ∙ h)
from_number t a i (suc n) (g ∷ gs) f h =
    let r = from_number t a (i + 1) n gs f h in
    let e : i + suc n ≡ (i + 1) + n = omega arith in
    (r.0, r.1, ap (λ j. function_of t a j r.0) e ∙ r.2)

pub is_found : (t : u.Typed) (a : Annotations) (n : ℕ) (f : Function Stmts) → (program_of t a).functions n ≡ Some f → IsFound t a n f
unfolding program_of functions_of
is_found t a n f h =
    let r = from_number t a 0 n t.file.functions f h in
    let e : n ≡ 0 + n = omega arith in
    let m = mapped (function_with t.file.structs r.0 (clauses_for n t.parts a.items)) (text_of n t.bodies (notes_of t.parts a.items)) f (ap (λ j. function_of t a j r.0) e ∙ r.2) in
    record { signature = r.0; declared = r.1; text = m.0; written = m.1; same = m.2 }

-- ---- their bodies

pub written_is : (so : u.Body → Bool) (n : ℕ) (bs : List u.Body) (nss : List (List Note)) (x : Text) → text_of n bs nss ≡ Some x → list_all so bs ≡ true → so x.body ≡ true
written_is so n [] nss x h all = absurd (none_some x h)
written_is so n (b ∷ bs) [] x h all = absurd (none_some x h)
written_is so n (b ∷ bs) (ns ∷ nss) x h all =
    let parts = and_parts (so b) (list_all so bs) all in
    by (b.function == n) h (λ k. written_is so n bs nss x k parts.1) where
      by : (z : Bool) → (if z then Some (record { body = b; notes = ns }) else text_of n bs nss) ≡ Some x → (text_of n bs nss ≡ Some x → so x.body ≡ true) → so x.body ≡ true
      by true e rest = ap (λ (y : Text). so y.body) (sym (some_same (record { body = b; notes = ns }) x e)) ∙ (and_parts (so b) (list_all so bs) all).0
      by false e rest = rest e

pub variables_are_integers : VariablesAreIntegers
variables_are_integers t a plain n f h =
    let r = is_found t a n f h in
    let body = written_is (is_plain_body t.model) n t.bodies (notes_of t.parts a.items) r.text r.written (plain_parts t plain).bodies in
    let objects = (and_parts (are_plain_objects r.text.body.plain 0 r.text.body.locals) (is_plain_stmt t.model r.text.body.stmt) body).0 in
    ap (λ (g : Function Stmts). list_all is_integer g.variables) r.same
    ∙ objects_are_integers t.file.structs r.text.body.plain (values_of (length r.signature.params) r.text.body) 0 r.text.body.locals objects
