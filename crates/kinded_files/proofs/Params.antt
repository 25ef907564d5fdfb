-- Parameters and results are scalars, and parameters have layouts.
use Rattle.std.proofs.Common.{◌≡◌, ℕ, ◌≤◌, Bool, true, false, ◌||◌, if◌then◌else◌, List, [], ◌∷◌, Option, Some, None, Ok, slice_get, refl, sym, ap, subst, ◌∙◌, ◌⊎◌, inl, inr, arith}
use Rattle.std.specs.Option.{unwrap_or}
use Rattle.wp_base.specs.declared.kinds.Layout.{Layout}
use Rattle.c_syntax.specs.Expr as e
use Rattle.c_syntax.specs.Lines.{line_of}
use Rattle.typed_prog.specs.declared.types.Base.{Base}
use Rattle.typed_prog.specs.declared.types.Base.TheVariants as base
use Rattle.typed_prog.specs.declared.types.CoreType.{CoreType}
use Rattle.typed_prog.specs.declared.operators.Variable.{Variable}
use Rattle.typed_prog.specs.declared.operators.Variable.TheVariants as variable
use Rattle.typed_prog.specs.Types.{type_with, void, pointer_to, is_void_by, is_void}
use Rattle.c_answers.specs.Answers.{after, wrong}
use Rattle.c_rules.specs.Operators.{is_scalar}
use Rattle.c_scopes.specs.declared.symbols.Object.{Object}
use Rattle.c_scopes.specs.declared.symbols.Resolved.{Resolved}
use Rattle.c_scopes.specs.declared.symbols.Structure.{Structure}
use Rattle.c_scopes.specs.declared.file.File.{File}
use Rattle.c_scopes.specs.Declarations.{is_free_here, object_of}
use Rattle.c_scopes.specs.Extents.{most_cells}
use Rattle.c_scopes.specs.Meanings.{type_of, elements_of, to_elements, sized_parameter, parameter_of}
use Rattle.c_exprs.specs.Typing.{Around}
use Rattle.c_contexts.specs.Contexts.{constant_number}
use Rattle.c_variables.specs.declared.context.Context.{Context}
use Rattle.c_variables.specs.Contexts.{around_of}
use Rattle.c_variables.specs.Variables.{named_here, scalar_parameter, plain_parameter, parameter, object_with}
use Rattle.c_functions.specs.Functions.{inside}
use Rattle.c_typed_files.specs.Functions as g
use Rattle.c_typed_files.specs.Functions.{IsParam, AreParams}
use Rattle.c_well_typed.specs.Operators.{IsScalar}
use Rattle.c_well_typed.specs.Scalars.{IsScalarOrVoid}
use Rattle.plain_files.proofs.Declaring.{ok_is, gives}
use Rattle.value_terms.specs.Typed.{kind_given}
use Rattle.typed_values.specs.Declared.{HasLayout}
use Rattle.typed_values.proofs.Types.{scalar_one, scalar_cells}
use Rattle.typed_layouts.specs.Laid.{IsLaid}
use Rattle.typed_layouts.proofs.Laying.{variable_laid}
use Rattle.kinded_files.proofs.Layouts.{one_of_if}
use Rattle.kinded_files.proofs.Short.{AreShort, one_short}

-- ---- types

pointer_by : (b : Base) (stars : List Bool) (is_const : Bool) → IsScalar (type_with b (is_const ∷ stars) None)
pointer_by (base.Of k) stars is_const = refl
pointer_by base.Void stars is_const = refl
pointer_by (base.Struct n) stars is_const = refl

pointer_scalar : (type : CoreType) (is_const : Bool) → IsScalar (pointer_to type is_const)
pointer_scalar type is_const = pointer_by type.base type.stars is_const

plain_scalar : (f : File) (free : Bool) (line : ℕ) (type : e.CType) (r : Resolved) → plain_parameter f free line type ≡ Ok r → IsScalar r.ty
plain_scalar f free line type r h =
    let first = gives (named_here f free line type) (λ t. after (type_of line t) (λ u. scalar_parameter line (parameter_of u))) r h in
    let second = gives (type_of line first.0) (λ u. scalar_parameter line (parameter_of u)) r first.2 in
    by (parameter_of second.0) (is_scalar (parameter_of second.0).ty) refl second.2 where
      by : (u : Resolved) (b : Bool) → is_scalar u.ty ≡ b → (if b then Ok u else wrong line) ≡ Ok r → IsScalar r.ty
      by u true is k = subst (λ (q : Resolved). IsScalar q.ty) (ok_is u r k) is
      by u false is k = absurd cc

-- a parameter is a scalar: an array is a pointer, and no struct is passed (C11 6.7.6.3p7)
pub parameter_scalar : (c : Around) (free : Bool) (line : ℕ) (type : e.CType) (r : Resolved) → parameter c free line type ≡ Ok r → IsScalar r.ty
unfolding parameter
parameter_scalar c free line (e.array of size) r h =
    let first = gives (named_here c.scope.file free line of) (λ t. after (constant_number c size) (sized_parameter line (line_of size) t)) r h in
    let second = gives (constant_number c size) (sized_parameter line (line_of size) first.0) r first.2 in
    let third = gives (elements_of line (line_of size) first.0 second.0) (λ t. Ok (to_elements t)) r second.2 in
    subst (λ (q : Resolved). IsScalar q.ty) (ok_is (to_elements third.0) r third.2) (pointer_scalar third.0.ty third.0.is_const)
parameter_scalar c free line (e.pointer to) r h = plain_scalar c.scope.file free line (e.pointer to) r h
parameter_scalar c free line (e.constant of) r h = plain_scalar c.scope.file free line (e.constant of) r h
parameter_scalar c free line e.void r h = plain_scalar c.scope.file free line e.void r h
parameter_scalar c free line (e.kind k) r h = plain_scalar c.scope.file free line (e.kind k) r h
parameter_scalar c free line e.integer r h = plain_scalar c.scope.file free line e.integer r h
parameter_scalar c free line (e.struct_of x) r h = plain_scalar c.scope.file free line (e.struct_of x) r h
parameter_scalar c free line (e.enum_of x) r h = plain_scalar c.scope.file free line (e.enum_of x) r h
parameter_scalar c free line (e.named x) r h = plain_scalar c.scope.file free line (e.named x) r h

void_by : (b : Base) (stars : List Bool) (count : Option ℕ) → is_void_by b stars count ≡ true → type_with b stars count ≡ void
void_by base.Void [] None h = refl
void_by base.Void [] (Some n) h = absurd cc
void_by base.Void (star ∷ stars) count h = absurd cc
void_by (base.Of k) stars count h = absurd cc
void_by (base.Struct n) stars count h = absurd cc

-- a result is a scalar, or there is none (C11 6.7.6.3p1)
pub result_is : (type : CoreType) → (is_void type || is_scalar type) ≡ true → IsScalarOrVoid type
result_is type h = by (is_void type) refl h where
  by : (b : Bool) → is_void type ≡ b → (b || is_scalar type) ≡ true → IsScalarOrVoid type
  by true e k = inr (void_by type.base type.stars type.count e)
  by false e k = inl k

-- ---- layouts of scalars

abbrev scalar_layout : CoreType → Layout
scalar_layout type = record { count = 1; cells = kind_given type ∷ []; writable = true }

scalar_laid : (ss : List Structure) (type : CoreType) → IsScalar type → HasLayout ss type (scalar_layout type)
scalar_laid ss type h = record { elements = scalar_cells ss type h; count = sym (ap (λ n. unwrap_or n 1) (scalar_one type h)) }

one_cell : 1 ≤ most_cells
one_cell = omega arith

-- ---- parameters

abbrev pub AllScalars : Context → Type 0
AllScalars c = (n : ℕ) (o : Object) → slice_get c.scope.local.objects n ≡ Some o → IsScalar o.ty

pub record ParamsAre (c b : Context) : Type 0 where
  pub laid : IsLaid b
  pub short : AreShort b
  pub scalars : AllScalars b
  pub model : b.model ≡ c.model
  pub result : b.result ≡ c.result
  pub globals : b.globals ≡ c.globals
  pub file : b.scope.file ≡ c.scope.file

param_is : (c : Context) (d : e.VarDecl) (b : Context) → IsParam c d b → ParamsAre c c → ParamsAre c b
param_is c d b is h =
    let scalar = parameter_scalar (around_of c) true d.line d.ty is.is is.means in
    let layout = scalar_laid c.scope.file.structs is.is.ty scalar in
    subst (ParamsAre c) (sym is.declares) (record {
      laid = variable_laid c d is.is h.laid is.new (scalar_layout is.is.ty, layout);
      short = λ n o found.
          one_short c (object_with d is.is) h.short (scalar_layout is.is.ty, layout, one_cell) n o (one_of_if (is_free_here c.scope.local d.name) c.scope.local.objects (object_with d is.is) o n found);
      scalars = λ n o found. by scalar o (h.scalars n o) (one_of_if (is_free_here c.scope.local d.name) c.scope.local.objects (object_with d is.is) o n found);
      model = refl;
      result = refl;
      globals = refl;
      file = refl;
    }) where
      by : IsScalar is.is.ty → (o : Object) → {Old : Type 0} → (Old → IsScalar o.ty) → Old ⊎ (object_with d is.is ≡ o) → IsScalar o.ty
      by scalar o old (inl k) = old k
      by scalar o old (inr k) = subst (λ (q : Object). IsScalar q.ty) k scalar

pub params_are : {c : Context} {ds : List e.VarDecl} {b : Context} → AreParams c ds b → ParamsAre c c → ParamsAre c b
params_are (g.no_param c) h = h
params_are (g.one_param c next b d ds is are) h =
    let here = param_is c d next is h in
    let rest = params_are are (record { laid = here.laid; short = here.short; scalars = here.scalars; model = refl; result = refl; globals = refl; file = refl }) in
    record { laid = rest.laid; short = rest.short; scalars = rest.scalars; model = rest.model ∙ here.model; result = rest.result ∙ here.result; globals = rest.globals ∙ here.globals; file = rest.file ∙ here.file }

-- before the first of them nothing is declared in the function
pub inside_is : (c : Context) (taken : List Bool) (result : CoreType) → IsLaid c → ParamsAre (inside c taken result) (inside c taken result)
inside_is c taken result laid = record {
  laid = record {
    layouts = record { variables = there; structs = laid.layouts.structs; sizes = laid.layouts.sizes };
    globals = laid.globals;
    global_flags = laid.global_flags;
    locals = λ n o h plain. absurd cc;
    local_flags = refl;
    struct_sizes = laid.struct_sizes;
  };
  short = λ n o h. absurd cc;
  scalars = λ n o h. absurd cc;
  model = refl;
  result = refl;
  globals = refl;
  file = refl;
} where
  there : (x : Variable) (o : Object) → object_of (inside c taken result).scope x ≡ Some o → (l : Layout) × HasLayout c.scope.file.structs o.ty l
  there (variable.Global n) o h = laid.layouts.variables (variable.Global n) o h
  there (variable.Local n) o h = absurd cc
