-- What declarations other than functions leave as it is.
use Rattle.std.proofs.Common.{◌≡◌, ℕ, zero, suc, Bool, true, false, if◌then◌else◌, List, [], ◌∷◌, ◌++◌, length, Option, Some, None, Ok, Err, refl, ap, ◌∙◌, subst, inl, inr, slice_get, slice_set}
use Rattle.std.specs.Prelude.{◌⊎◌}
use Rattle.c_syntax.specs.Expr as e
use Rattle.c_syntax.specs.Decl as decl
use Rattle.typed_prog.specs.declared.operators.Variable.TheVariants as variable
use Rattle.typed_prog.specs.declared.types.CoreType.{CoreType}
use Rattle.name_table.specs.Names.{Names, meaning_of, is_free, declared}
use Rattle.c_answers.specs.Answers.{Answer, after, unknown}
use Rattle.c_scopes.specs.declared.symbols.Object.{Object}
use Rattle.c_scopes.specs.declared.symbols.Resolved.{Resolved}
use Rattle.c_scopes.specs.declared.symbols.Signature.{Signature}
use Rattle.c_scopes.specs.declared.symbols.Symbol.{Symbol}
use Rattle.c_scopes.specs.declared.symbols.Symbol.TheVariants as symbol
use Rattle.c_scopes.specs.declared.file.File.{File}
use Rattle.c_scopes.specs.Declarations.{more_if, with_typedef}
use Rattle.c_variables.specs.declared.context.Context.{Context}
use Rattle.c_variables.specs.Contexts.{around_of}
use Rattle.c_variables.specs.Variables.{variable as variable_type, object_with}
use Rattle.c_decls.specs.declared.enums.Counted.{Counted}
use Rattle.c_decls.specs.declared.structs.Fields.{Fields}
use Rattle.c_decls.specs.Each.{each, with_file}
use Rattle.c_decls.specs.Structs.{all_fields, tagged, completed, struct_declared}
use Rattle.c_decls.specs.Enums.{enumerator, with_constant, counted, item, items, none_counted, is_new_tag, with_tag, enum_kind, enum_declared, is_new_name, typedef_declared}
use Rattle.c_decls.specs.Globals.{Inits, initial_value, initialised, global, global_type, with_global, with_place, place_of}
use Rattle.plain_files.proofs.Names.{no_some, kept, declared_means}
use Rattle.plain_files.proofs.Contexts.{NoLocals}

-- ---- answers

abbrev pub given : {X : Type 0} → X → Answer X
given x = Ok x

pub ok_is : {X : Type 0} (x y : X) → given x ≡ given y → x ≡ y
ok_is x y h = cc

pub gives : {X Y : Type 0} (o : Answer X) (f : X → Answer Y) (y : Y) → after o f ≡ Ok y → (x : X) × (o ≡ Ok x) × (f x ≡ Ok y)
gives (Ok x) f y h = (x, refl, h)
gives (Err r) f y h = cc

-- ---- what stays

-- what is declared in a file stays declared
pub record FileGrows (f f' : File) : Type 0 where
  pub globals : (n : ℕ) (o : Object) → slice_get f.globals n ≡ Some o → slice_get f'.globals n ≡ Some o
  pub functions : (n : ℕ) (g : Signature) → slice_get f.functions n ≡ Some g → slice_get f'.functions n ≡ Some g
  pub names : (x : List ℕ) (s : Symbol) → meaning_of f.names x ≡ Some s → meaning_of f'.names x ≡ Some s

pub file_grows_self : (f : File) → FileGrows f f
file_grows_self f = record { globals = λ n o h. h; functions = λ n g h. h; names = λ x s h. h }

pub file_grows_then : (f g h : File) → FileGrows f g → FileGrows g h → FileGrows f h
file_grows_then f g h i k = record {
  globals = λ n o e. k.globals n o (i.globals n o e);
  functions = λ n s e. k.functions n s (i.functions n s e);
  names = λ x s e. k.names x s (i.names x s e);
}

-- no function is declared, and a name of a function is no new one
pub record Plainly (f f' : File) : Type 0 where
  pub grows : FileGrows f f'
  pub functions : f'.functions ≡ f.functions
  pub locals : NoLocals f.names → NoLocals f'.names
  pub of_functions : (x : List ℕ) (n : ℕ) → meaning_of f'.names x ≡ Some (symbol.Function n) → meaning_of f.names x ≡ Some (symbol.Function n)

pub plainly_self : (f : File) → Plainly f f
plainly_self f = record { grows = file_grows_self f; functions = refl; locals = λ h. h; of_functions = λ x n h. h }

pub plainly_then : (f g h : File) → Plainly f g → Plainly g h → Plainly f h
plainly_then f g h i k = record {
  grows = file_grows_then f g h i.grows k.grows;
  functions = k.functions ∙ i.functions;
  locals = λ l. k.locals (i.locals l);
  of_functions = λ x n e. i.of_functions x n (k.of_functions x n e);
}

-- ---- lists

pub kept_in : {X : Type 0} (xs : List X) (y x : X) (n : ℕ) → slice_get xs n ≡ Some x → slice_get (xs ++ y ∷ []) n ≡ Some x
kept_in [] y x n h = absurd (no_some x h)
kept_in (z ∷ xs) y x zero h = h
kept_in (z ∷ xs) y x (suc n) h = kept_in xs y x n h

pub last_in : {X : Type 0} (xs : List X) (x : X) → slice_get (xs ++ x ∷ []) (length xs) ≡ Some x
last_in [] x = refl
last_in (y ∷ xs) x = last_in xs x

pub kept_if : {X : Type 0} (b : Bool) (xs : List X) (y x : X) (n : ℕ) → slice_get xs n ≡ Some x → slice_get (more_if b xs y) n ≡ Some x
kept_if true xs y x n h = kept_in xs y x n h
kept_if false xs y x n h = h

-- ---- one name more, which is no local and no function

pub no_local_more : (ns : Names Symbol) (y : List ℕ) (s : Symbol) → ((n : ℕ) → s ≡ symbol.Object (variable.Local n) → ⊥) → NoLocals ns → NoLocals (declared ns y s)
no_local_more ns y s other none x n h = by (declared_means ns y s x (symbol.Object (variable.Local n)) h) where
  by : (meaning_of ns x ≡ Some (symbol.Object (variable.Local n))) ⊎ (s ≡ symbol.Object (variable.Local n)) → ⊥
  by (inl e) = none x n e
  by (inr e) = other n e

no_function_more : (ns : Names Symbol) (y : List ℕ) (s : Symbol) → ((n : ℕ) → s ≡ symbol.Function n → ⊥) → (x : List ℕ) (n : ℕ) → meaning_of (declared ns y s) x ≡ Some (symbol.Function n)
    → meaning_of ns x ≡ Some (symbol.Function n)
no_function_more ns y s other x n h = by (declared_means ns y s x (symbol.Function n) h) where
  by : (meaning_of ns x ≡ Some (symbol.Function n)) ⊎ (s ≡ symbol.Function n) → meaning_of ns x ≡ Some (symbol.Function n)
  by (inl e) = e
  by (inr e) = absurd (other n e)

-- ---- structs

pub struct_plainly : (c : Context) (d : decl.StructDecl) (b : Context) → struct_declared c d ≡ Ok b → Plainly c.scope.file b.scope.file
unfolding struct_declared
struct_plainly c d b h = on (is_free c.scope.file.tags d.name) h where
  made : (fs : Fields) → given (completed (tagged c d.name) d.name fs) ≡ Ok b → Plainly c.scope.file b.scope.file
  made fs e = subst (λ (k : Context). Plainly c.scope.file k.scope.file) (ok_is (completed (tagged c d.name) d.name fs) b e)
      (record { grows = record { globals = λ n o h. h; functions = λ n g h. h; names = λ x s h. h }; functions = refl; locals = λ l. l; of_functions = λ x n h. h })

  on : (free : Bool) → (if free then after (all_fields (tagged c d.name) d.fields) (λ fs. Ok (completed (tagged c d.name) d.name fs)) else unknown d.line) ≡ Ok b → Plainly c.scope.file b.scope.file
  on true e = let r = gives (all_fields (tagged c d.name) d.fields) (λ fs. Ok (completed (tagged c d.name) d.name fs)) b e in made r.0 r.2
  on false e = cc

-- ---- enumerated types

enumerator_plainly : (s : Context × Counted) (d : e.VarDecl) (r : Context × Counted) → item s d ≡ Ok r → Plainly s.0.scope.file r.0.scope.file
unfolding item
enumerator_plainly s d r h =
    let z = gives (enumerator s.0 s.1.next d) (λ z. Ok (with_constant s.0 d z, counted s.1 z)) r h in
    subst (λ (k : Context × Counted). Plainly s.0.scope.file k.0.scope.file) (ok_is (with_constant s.0 d z.0, counted s.1 z.0) r z.2)
    (record {
      grows = record { globals = λ n o h. h; functions = λ n g h. h; names = λ x k h. kept s.0.scope.file.names d.name (symbol.Enumerator z.0) x k h };
      functions = refl;
      locals = no_local_more s.0.scope.file.names d.name (symbol.Enumerator z.0) (λ n e. cc);
      of_functions = no_function_more s.0.scope.file.names d.name (symbol.Enumerator z.0) (λ n e. cc);
    })

enumerators_plainly : (s : Context × Counted) (ds : List e.VarDecl) (r : Context × Counted) → each item s ds ≡ Ok r → Plainly s.0.scope.file r.0.scope.file
enumerators_plainly s [] r h = subst (λ (k : Context × Counted). Plainly s.0.scope.file k.0.scope.file) (ok_is s r h) (plainly_self s.0.scope.file)
enumerators_plainly s (d ∷ ds) r h =
    let k = gives (item s d) (λ next. each item next ds) r h in
    plainly_then s.0.scope.file k.0.0.scope.file r.0.scope.file (enumerator_plainly s d k.0 k.1) (enumerators_plainly k.0 ds r k.2)

tag_plainly : (c : Context) (x : Option (List ℕ)) (negative : Bool) → Plainly c.scope.file (with_tag c x (enum_kind negative)).scope.file
tag_plainly c None negative = plainly_self c.scope.file
tag_plainly c (Some x) negative =
    record { grows = record { globals = λ n o h. h; functions = λ n g h. h; names = λ x s h. h }; functions = refl; locals = λ l. l; of_functions = λ x n h. h }

pub enum_plainly : (c : Context) (d : decl.EnumDecl) (b : Context) → enum_declared c d ≡ Ok b → Plainly c.scope.file b.scope.file
unfolding enum_declared
enum_plainly c d b h = on (is_new_tag c.scope.file d.name) h where
  on : (new : Bool) → (if new then after (items c d.items) (λ s. Ok (with_tag s.0 d.name (enum_kind s.1.has_negative))) else unknown d.line) ≡ Ok b → Plainly c.scope.file b.scope.file
  on true e =
      let r = gives (items c d.items) (λ s. Ok (with_tag s.0 d.name (enum_kind s.1.has_negative))) b e in
      plainly_then c.scope.file r.0.0.scope.file b.scope.file (enumerators_plainly (c, none_counted) d.items r.0 r.1)
      (subst (λ (k : Context). Plainly r.0.0.scope.file k.scope.file) (ok_is (with_tag r.0.0 d.name (enum_kind r.0.1.has_negative)) b r.2) (tag_plainly r.0.0 d.name r.0.1.has_negative))
  on false e = cc

-- ---- typedef names

pub typedef_plainly : (c : Context) (d : e.VarDecl) (b : Context) → typedef_declared c d ≡ Ok b → Plainly c.scope.file b.scope.file
unfolding typedef_declared
typedef_plainly c d b h =
    let r = gives (variable_type (around_of c) (is_new_name c d.name) d.line d.ty) (λ t. Ok (with_file c (with_typedef c.scope.file d.name t))) b h in
    subst (λ (k : Context). Plainly c.scope.file k.scope.file) (ok_is (with_file c (with_typedef c.scope.file d.name r.0)) b r.2)
    (record {
      grows = record { globals = λ n o h. h; functions = λ n g h. h; names = λ x k h. kept c.scope.file.names d.name (symbol.Typedef (length c.scope.file.typedefs)) x k h };
      functions = refl;
      locals = no_local_more c.scope.file.names d.name (symbol.Typedef (length c.scope.file.typedefs)) (λ n e. cc);
      of_functions = no_function_more c.scope.file.names d.name (symbol.Typedef (length c.scope.file.typedefs)) (λ n e. cc);
    })

-- ---- variables of the file

with_global_plainly : (taken : Names Bool) (c : Context) (d : e.VarDecl) (t : Resolved) → Plainly c.scope.file (with_global taken c d t).scope.file
with_global_plainly taken c d t =
    let s = symbol.Object (variable.Global (length c.scope.file.globals)) in
    record {
      grows = record {
        globals = λ n o h. kept_if (is_free c.scope.file.names d.name) c.scope.file.globals (object_with d t) o n h;
        functions = λ n g h. h;
        names = λ x k h. kept c.scope.file.names d.name s x k h;
      };
      functions = refl;
      locals = no_local_more c.scope.file.names d.name s (λ n e. cc);
      of_functions = no_function_more c.scope.file.names d.name s (λ n e. cc);
    }

initialised_same : (c : Context) (inits : Inits) (n : ℕ) (type : CoreType) (a : Option e.Expr) (r : Context × Inits) → initialised c inits n type a ≡ Ok r → c ≡ r.0
initialised_same c inits n type None r h = ap (λ (k : Context × Inits). k.0) (ok_is (c, inits) r h)
initialised_same c inits n type (Some a) r h =
    let v = gives (initial_value c type a) (λ v. Ok (c, slice_set inits n (Some v))) r h in ap (λ (k : Context × Inits). k.0) (ok_is (c, slice_set inits n (Some v.0)) r v.2)

global_plainly : (taken : Names Bool) (s : Context × Inits) (d : e.VarDecl) (r : Context × Inits) → global taken s d ≡ Ok r → Plainly s.0.scope.file r.0.scope.file
unfolding global
global_plainly taken s d r h =
    let k = gives (global_type s.0 s.1 d) (λ t. initialised (with_global taken s.0 d t) (with_place s.0 s.1 d) (place_of s.0 d.name) t.ty d.init) r h in
    subst (λ (c : Context). Plainly s.0.scope.file c.scope.file)
    (initialised_same (with_global taken s.0 d k.0) (with_place s.0 s.1 d) (place_of s.0 d.name) k.0.ty d.init r k.2) (with_global_plainly taken s.0 d k.0)

pub globals_plainly : (taken : Names Bool) (s : Context × Inits) (ds : List e.VarDecl) (r : Context × Inits) → each (global taken) s ds ≡ Ok r → Plainly s.0.scope.file r.0.scope.file
globals_plainly taken s [] r h = subst (λ (k : Context × Inits). Plainly s.0.scope.file k.0.scope.file) (ok_is s r h) (plainly_self s.0.scope.file)
globals_plainly taken s (d ∷ ds) r h =
    let k = gives (global taken s d) (λ next. each (global taken) next ds) r h in
    plainly_then s.0.scope.file k.0.0.scope.file r.0.scope.file (global_plainly taken s d k.0 k.1) (globals_plainly taken k.0 ds r k.2)
