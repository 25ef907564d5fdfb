-- Each value is a scalar, or there is none: no value is a struct or an array (C11 6.2.5p21, 6.3.2.1).
use Rattle.std.specs.Prelude.{◌≡◌, ℕ, false, Some, slice_get, ◌⊎◌}
use Rattle.typed_prog.specs.declared.types.CoreType.{CoreType}
use Rattle.typed_prog.specs.declared.operators.Variable.{Variable}
use Rattle.typed_prog.specs.Types.{is_void, void, element_of}
use Rattle.typed_prog.specs.Tree as t
use Rattle.c_scopes.specs.declared.symbols.Object.{Object}
use Rattle.c_scopes.specs.declared.symbols.Signature.{Signature}
use Rattle.c_scopes.specs.declared.symbols.Structure.{Structure}
use Rattle.c_scopes.specs.declared.symbols.Field.{Field as Member}
use Rattle.c_scopes.specs.Declarations.{object_of}
use Rattle.c_exprs.specs.Typing.{Around}
use Rattle.c_well_typed.specs.Operators.{IsScalar}
use Rattle.c_well_typed.specs.WellTyped.{ValueFits}

-- neither the object nor an element of it is `void`
abbrev pub HasObjects : CoreType → Type 0
HasObjects type = is_void (element_of type) ≡ false

abbrev pub IsScalarOrVoid : CoreType → Type 0
IsScalarOrVoid type = IsScalar type ⊎ (type ≡ void)

-- Variables and fields have types of objects (6.7p7, 6.7.2.1p3), and no function gives a struct or an array (the first is this verifier's choice, the other
-- 6.7.6.3p1).
pub record IsDeclaredInOrder (c : Around) : Type 0 where
  pub variables : (x : Variable) (o : Object) → object_of c.scope x ≡ Some o → HasObjects o.ty
  pub fields : (tag number : ℕ) (s : Structure) (f : Member) → slice_get c.scope.file.structs tag ≡ Some s → slice_get s.fields number ≡ Some f
      → HasObjects f.ty
  pub results : (number : ℕ) (f : Signature) → slice_get c.scope.file.functions number ≡ Some f → IsScalarOrVoid f.result

abbrev pub ValuesAreScalars : Type 0
ValuesAreScalars = (c : Around) → IsDeclaredInOrder c → (v : t.Value) → ValueFits c v → IsScalarOrVoid (t.type_of v)
