-- Variables of plain files are integers of the types that they are declared with.
use Rattle.std.proofs.Common.{◌≡◌, ℕ, zero, suc, ◌+◌, Bool, true, false, ◌&&◌, is_some, List, [], ◌∷◌, length, Option, Some, None, refl, sym, ap, ◌∙◌, slice_get}
use Rattle.std.specs.Prelude.{slice_index_or}
use Rattle.std.proofs.lemmas.Bool.{false≢true, and_parts}
use Rattle.typed_prog.specs.declared.types.Base.{Base}
use Rattle.typed_prog.specs.declared.types.Base.TheVariants as base
use Rattle.typed_prog.specs.Types.{kind_by, type_with, of_kind}
use Rattle.c_scopes.specs.declared.symbols.Object.{Object}
use Rattle.c_scopes.specs.declared.symbols.Structure.{Structure}
use Rattle.c_scopes.specs.Extents.{element_cells}
use Rattle.plain_programs.specs.Told.{or_none, variable_of, variables_from}
use Rattle.plain_states.specs.Scopes.{kind_in}
use Rattle.plain_test.specs.Plain.{is_integer_type, are_plain_objects}
use Rattle.plain_programs.specs.Values.{Holds}
use Rattle.plain_files.proofs.Names.{some_is, no_some}

pub as_many : (ss : List Structure) (ps vs : List Bool) (k : ℕ) (os : List Object) → length (variables_from ss ps vs k os) ≡ length os
as_many ss ps vs k [] = refl
as_many ss ps vs k (o ∷ os) = ap suc (as_many ss ps vs (k + 1) os)

of_its_kind : (ss : List Structure) (b : Base) (stars : List Bool) (count : Option ℕ) → is_some (kind_by b stars count) ≡ true → type_with b stars count ≡ of_kind (kind_in (or_none (element_cells ss b stars)))
of_its_kind ss (base.Of k) [] None h = refl
of_its_kind ss (base.Of k) [] (Some n) h = absurd (false≢true h)
of_its_kind ss (base.Of k) (s ∷ stars) count h = absurd (false≢true h)
of_its_kind ss base.Void stars count h = absurd (false≢true h)
of_its_kind ss (base.Struct n) stars count h = absurd (false≢true h)

pub variable_there : (ss : List Structure) (ps vs : List Bool) (k : ℕ) (os : List Object) → are_plain_objects ps k os ≡ true → (n : ℕ) (o : Object) → slice_get os n ≡ Some o
    → Holds (variables_from ss ps vs k os) n o.ty
variable_there ss ps vs k [] h n o e = absurd (no_some o e)
variable_there ss ps vs k (x ∷ os) h zero o e =
    let parts = and_parts (slice_index_or ps k false && is_integer_type x.ty) (are_plain_objects ps (k + 1) os) h in
    let integer = (and_parts (slice_index_or ps k false) (is_integer_type x.ty) parts.0).1 in
    let same = some_is x o e in
    record {
      variable = variable_of ss x (slice_index_or ps k false) (slice_index_or vs k false);
      found = refl;
      kind = ap (λ (y : Object). y.ty) (sym same) ∙ of_its_kind ss x.ty.base x.ty.stars x.ty.count integer;
    }
variable_there ss ps vs k (x ∷ os) h (suc n) o e =
    let parts = and_parts (slice_index_or ps k false && is_integer_type x.ty) (are_plain_objects ps (k + 1) os) h in
    let r = variable_there ss ps vs (k + 1) os parts.1 n o e in
    record { variable = r.variable; found = r.found; kind = r.kind }
