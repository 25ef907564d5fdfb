-- What the declaration of a function declares, and in what its body is typed.
use Rattle.std.proofs.Common.{◌≡◌, ℕ, zero, suc, ◌<◌, Bool, true, false, not, ◌&&◌, ◌||◌, if◌then◌else◌, is_some, List, [], ◌∷◌, map, length, Option, Some, None, Ok, refl, sym, ap, ◌∙◌, subst, inl, inr, slice_get, arith}
use Rattle.std.specs.Prelude.{◌⊎◌}
use Rattle.std.proofs.lemmas.Bool.{false≢true, and_parts}
use Rattle.c_syntax.specs.Expr as e
use Rattle.c_syntax.specs.Decl as d
use Rattle.typed_prog.specs.declared.types.CoreType.{CoreType}
use Rattle.typed_prog.specs.Types.{same_type}
use Rattle.typed_prog.proofs.Same.{types_are_compared}
use Rattle.name_table.specs.Names.{Names, meaning_of, is_free}
use Rattle.name_table.specs.Nesting.{meaning_in}
use Rattle.c_answers.specs.Answers.{unknown}
use Rattle.c_scopes.specs.declared.symbols.Object.{Object}
use Rattle.c_scopes.specs.declared.symbols.Signature.{Signature}
use Rattle.c_scopes.specs.declared.symbols.Symbol.{Symbol}
use Rattle.c_scopes.specs.declared.symbols.Symbol.TheVariants as symbol
use Rattle.c_scopes.specs.declared.file.File.{File}
use Rattle.c_scopes.specs.Declarations.{more_if, with_function}
use Rattle.c_variables.specs.declared.context.Context.{Context}
use Rattle.c_stmts.specs.Locals.{with_variable, count_of}
use Rattle.c_functions.specs.Functions.{function_number, number_of, is_defined, is_open, inside, same_types, signature_at, agrees_with, signature, with_declared}
use Rattle.typed_unit.specs.Unit as u
use Rattle.c_typed_files.specs.Functions as g
use Rattle.c_typed_files.specs.Functions.{IsParam, AreParams, IsHeader}
use Rattle.plain_runs.specs.Fitting.{is_param}
use Rattle.plain_files.proofs.Names.{some_is, no_some, kept, new_means, declared_in_means, entered_means}
use Rattle.plain_files.proofs.Scoping.{below, on_test}
use Rattle.plain_files.proofs.Contexts.{count_with, Blocks, NoLocals, InScope}
use Rattle.plain_files.proofs.Declaring.{given, FileGrows, no_local_more, kept_if, last_in}

-- ---- types

-- objects have these types
pub record OfTypes (ts : List CoreType) (os : List Object) : Type 0 where
  pub count : length ts ≡ length os
  pub types : (i : ℕ) (t : CoreType) (o : Object) → slice_get ts i ≡ Some t → slice_get os i ≡ Some o → t ≡ o.ty

own_types : (os : List Object) → OfTypes (map (λ (o : Object). o.ty) os) os
own_types [] = record { count = refl; types = λ i t o h k. absurd (no_some t h) }
own_types (o ∷ os) =
    let rest = own_types os in
    record { count = ap suc rest.count; types = by rest } where
      by : OfTypes (map (λ (o : Object). o.ty) os) os → (i : ℕ) (t : CoreType) (x : Object) → slice_get (o.ty ∷ map (λ (o : Object). o.ty) os) i ≡ Some t → slice_get (o ∷ os) i ≡ Some x → t ≡ x.ty
      by rest zero t x h k = sym (some_is o.ty t h) ∙ ap (λ (y : Object). y.ty) (some_is o x k)
      by rest (suc i) t x h k = rest.types i t x h k

compared_types : (ts : List CoreType) (os : List Object) → same_types ts os ≡ true → OfTypes ts os
compared_types [] [] h = record { count = refl; types = λ i t o h k. absurd (no_some t h) }
compared_types [] (o ∷ os) h = absurd (false≢true h)
compared_types (t ∷ ts) [] h = absurd (false≢true h)
compared_types (t ∷ ts) (o ∷ os) h =
    let parts = and_parts (same_type t o.ty) (same_types ts os) h in
    let rest = compared_types ts os parts.1 in
    record { count = ap suc rest.count; types = by parts.0 rest } where
      by : same_type t o.ty ≡ true → OfTypes ts os → (i : ℕ) (a : CoreType) (x : Object) → slice_get (t ∷ ts) i ≡ Some a → slice_get (o ∷ os) i ≡ Some x → a ≡ x.ty
      by same rest zero a x h k = sym (some_is t a h) ∙ (types_are_compared t o.ty).0 same ∙ ap (λ (y : Object). y.ty) (some_is o x k)
      by same rest (suc i) a x h k = rest.types i a x h k

-- ---- the name of a function

named_function : (o : Option Symbol) (n : ℕ) → function_number o ≡ Some n → o ≡ Some (symbol.Function n)
named_function None n h = cc
named_function (Some (symbol.Function k)) n h = ap (λ i. Some (symbol.Function i)) (some_is k n h)
named_function (Some (symbol.Object x)) n h = cc
named_function (Some (symbol.Enumerator z)) n h = cc
named_function (Some (symbol.Typedef k)) n h = cc

some_or : (o : Option ℕ) → is_some o ≡ true → (n : ℕ) × (o ≡ Some n)
some_or None h = absurd (false≢true h)
some_or (Some n) h = (n, refl)

-- a name of a function is one of those that are declared
abbrev pub FunctionsFound : File → Type 0
FunctionsFound f = (x : List ℕ) (n : ℕ) → meaning_of f.names x ≡ Some (symbol.Function n) → (s : Signature) × (slice_get f.functions n ≡ Some s)

-- ---- what a header declares

-- the function with these parameters and this result
pub record IsDeclaredAs (f : File) (x : List ℕ) (result : CoreType) (os : List Object) : Type 0 where
  pub number : ℕ
  pub signature : Signature
  pub named : meaning_of f.names x ≡ Some (symbol.Function number)
  pub found : slice_get f.functions number ≡ Some signature
  pub of_result : signature.result ≡ result
  pub params : OfTypes signature.params os

agreeing : (line : ℕ) (s : Signature) (result : CoreType) (os : List Object) → agrees_with line (Some s) result os ≡ Ok tt → (s.result ≡ result) × OfTypes s.params os
agreeing line s result os h = by (same_type s.result result && same_types s.params os) refl h where
  by : (b : Bool) → (same_type s.result result && same_types s.params os) ≡ b → (if b then Ok (tt {0}) else unknown line) ≡ given (tt {0}) → (s.result ≡ result) × OfTypes s.params os
  by true e h =
      let parts = and_parts (same_type s.result result) (same_types s.params os) e in ((types_are_compared s.result result).0 parts.0, compared_types s.params os parts.1)
  by false e h = cc

-- a function that is declared for the first time has the next number
first_declared : (f : File) (h : d.Function) (result : CoreType) (os : List Object) → is_free f.names h.name ≡ true → IsDeclaredAs (with_function f (signature h result os)) h.name result os
first_declared f h result os free = record {
  number = length f.functions;
  signature = signature h result os;
  named = new_means f.names h.name (symbol.Function (length f.functions)) free;
  found = ap (λ b. slice_get (more_if b f.functions (signature h result os)) (length f.functions)) free ∙ last_in f.functions (signature h result os);
  of_result = refl;
  params = own_types os;
}

-- one that is declared again has its own
again_declared : (f : File) (h : d.Function) (has_body : Bool) (bodies : List u.Body) (result : CoreType) (os : List Object) → FunctionsFound f → is_free f.names h.name ≡ false
    → is_open f bodies has_body h.name ≡ true → agrees_with h.line (signature_at f.functions (number_of f h.name)) result os ≡ Ok tt → IsDeclaredAs (with_function f (signature h result os)) h.name result os
again_declared f h has_body bodies result os there taken may same =
    let open_name = (and_parts (is_free f.names h.name || is_some (number_of f h.name)) (not (has_body && is_defined bodies (number_of f h.name))) may).0 in
    let n = some_or (number_of f h.name) (other (is_free f.names h.name) (is_some (number_of f h.name)) taken open_name) in
    let named = named_function (meaning_of f.names h.name) n.0 n.1 in
    let s = there h.name n.0 named in
    let agreed = agreeing h.line s.0 result os (sym (ap (λ o. agrees_with h.line o result os) (ap (signature_at f.functions) n.1 ∙ s.1)) ∙ same) in
    record {
      number = n.0;
      signature = s.0;
      named = kept f.names h.name (symbol.Function (length f.functions)) h.name (symbol.Function n.0) named;
      found = kept_if (is_free f.names h.name) f.functions (signature h result os) s.0 n.0 s.1;
      of_result = agreed.0;
      params = agreed.1;
    } where
      other : (a b : Bool) → a ≡ false → (a || b) ≡ true → b ≡ true
      other true b e k = absurd (false≢true (sym e))
      other false b e k = k

function_declared : (f : File) (h : d.Function) (has_body : Bool) (bodies : List u.Body) (result : CoreType) (os : List Object) → FunctionsFound f → is_open f bodies has_body h.name ≡ true
    → agrees_with h.line (signature_at f.functions (number_of f h.name)) result os ≡ Ok tt → IsDeclaredAs (with_function f (signature h result os)) h.name result os
function_declared f h has_body bodies result os there may same =
    on_test (is_free f.names h.name) (IsDeclaredAs (with_function f (signature h result os)) h.name result os) (λ free. first_declared f h result os free)
    (λ taken. again_declared f h has_body bodies result os there taken may same)

-- ---- parameters

-- all that is declared in the function are its parameters
pub record ParamsOnly (c : Context) : Type 0 where
  pub below : (x : List ℕ) (n : ℕ) → meaning_in (Blocks c) x ≡ Some n → n < count_of c

params_only : {c : Context} {ds : List e.VarDecl} {b : Context} → AreParams c ds b → ParamsOnly c → ParamsOnly b × (b.scope.file ≡ c.scope.file) × (b.result ≡ c.result)
params_only (g.no_param c) h = (h, refl, refl)
params_only (g.one_param c next b d ds is are) h =
    let rest = params_only are (subst ParamsOnly (sym is.declares) (record { below = λ x n e. by x n (declared_in_means (Blocks c) d.name (count_of c) x n e) })) in
    (rest.0, rest.1 ∙ ap (λ (k : Context). k.scope.file) is.declares, rest.2 ∙ ap (λ (k : Context). k.result) is.declares) where
      by : (x : List ℕ) (n : ℕ) → (meaning_in (Blocks c) x ≡ Some n) ⊎ (count_of c ≡ n) → n < count_of (with_variable c d is.is)
      by x n (inl e) = omega (arith, h.below x n e, count_with c d is.is is.new)
      by x n (inr e) = omega (arith, e, count_with c d is.is is.new)

-- ---- headers

-- what is declared behind the header, and in what a body is typed
pub record Headed (c : Context) (h : d.Function) (header : Context) : Type 0 where
  pub result : CoreType
  pub of_result : header.result ≡ result
  pub file : header.scope.file ≡ with_function c.scope.file (signature h result header.scope.local.objects)
  pub declared : IsDeclaredAs header.scope.file h.name result header.scope.local.objects
  pub params : ParamsOnly header

pub headed : (c : Context) (bodied : Names Bool) (bodies : List u.Body) (taken : List Bool) (h : d.Function) (header : Context) → FunctionsFound c.scope.file → IsHeader c bodied bodies taken h header
    → Headed c h header
headed c bodied bodies taken h header there is =
    let start : ParamsOnly (inside c taken is.result) = record { below = λ x n e. absurd (no_some n (sym (entered_means [] x) ∙ e)) } in
    let ps = params_only is.params start in
    let made = with_declared is.within h is.result in
    let os = is.within.scope.local.objects in
    let same_file : is.within.scope.file ≡ c.scope.file = ps.1 in
    let same : agrees_with h.line (signature_at c.scope.file.functions (number_of c.scope.file h.name)) is.result os ≡ Ok tt =
    subst (λ (f : File). agrees_with h.line (signature_at f.functions (number_of f h.name)) is.result os ≡ Ok tt) same_file is.same in
    let declared = function_declared c.scope.file h (is_some h.body) bodies is.result os there is.may same in
    subst (Headed c h) (sym is.declares) (record {
      result = is.result;
      of_result = ps.2;
      file = ap (λ f. with_function f (signature h is.result os)) same_file;
      declared = subst (λ f. IsDeclaredAs (with_function f (signature h is.result os)) h.name is.result os) (sym same_file) declared;
      params = record { below = ps.0.below };
    })

-- a function grows the file
pub with_function_grows : (f : File) (s : Signature) → FileGrows f (with_function f s)
with_function_grows f s = record {
  globals = λ n o h. h;
  functions = λ n g h. kept_if (is_free f.names s.name) f.functions s g n h;
  names = λ x k h. kept f.names s.name (symbol.Function (length f.functions)) x k h;
}

pub with_function_locals : (f : File) (s : Signature) → NoLocals f.names → NoLocals (with_function f s).names
with_function_locals f s h = no_local_more f.names s.name (symbol.Function (length f.functions)) (λ n e. cc) h

-- the parameters are in scope
pub params_in_scope : (c : Context) → ParamsOnly c → NoLocals c.scope.file.names → InScope c (is_param (count_of c))
params_in_scope c h none = record { named = λ x n e. let k = h.below x n e in (below n (count_of c) k, k); of_file = none }
