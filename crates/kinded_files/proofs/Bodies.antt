-- What stands behind some declarations: all that is declared has a layout, and each body is typed in what is declared.
use Rattle.std.proofs.Common.{◌≡◌, ℕ, Bool, true, false, if◌then◌else◌, List, [], ◌∷◌, ◌++◌, length, Option, Some, Ok, refl, sym, ap, ◌∙◌, subst, ◌⊎◌, inl, inr, slice_get, slice_index_or}
use Rattle.std.specs.Option.{unwrap_or}
use Rattle.std.proofs.lemmas.Bool.{false≢true}
use Rattle.wp_base.specs.declared.kinds.Layout.{Layout}
use Rattle.c_kinds.specs.declared.models.Machdep.{Machdep}
use Rattle.c_syntax.specs.Decl as d
use Rattle.c_syntax.specs.Stmt as p
use Rattle.typed_prog.specs.declared.types.CoreType.{CoreType}
use Rattle.typed_prog.specs.declared.operators.Variable.{Variable}
use Rattle.typed_prog.specs.declared.operators.Variable.TheVariants as variable
use Rattle.name_table.specs.Names.{Names, meaning_of, is_free}
use Rattle.name_table.specs.Nesting.{entered as entered_in}
use Rattle.c_scopes.specs.declared.symbols.Object.{Object}
use Rattle.c_scopes.specs.declared.symbols.Signature.{Signature}
use Rattle.c_scopes.specs.declared.symbols.Symbol.TheVariants as symbol
use Rattle.c_scopes.specs.declared.file.File.{File}
use Rattle.c_scopes.specs.Declarations.{more_if, with_function, object_of}
use Rattle.c_taken.specs.Addressed.{Names as Addressed, contract_addressed, type_addressed}
use Rattle.c_taken.specs.Marking.{no_marks, inside as inside_marks, marked}
use Rattle.c_taken.specs.Walks.{taken_locals}
use Rattle.c_taken.proofs.Marking.{marked_scopes, marked_flags}
use Rattle.c_variables.specs.declared.context.Context.{Context}
use Rattle.c_stmts.specs.Locals.{count_of}
use Rattle.c_decls.specs.Structs.{struct_declared}
use Rattle.c_decls.specs.Enums.{enum_declared, typedef_declared}
use Rattle.c_decls.specs.Globals.{Inits, globals_declared}
use Rattle.c_functions.specs.Functions.{Functions, function_number, inside, signature, declared_number, body_with, with_declared, outside, function}
use Rattle.c_typing.specs.Typing.{Facts, Unit as Code, at_start, in_context, with_logic, declaration, declarations, finished, facts_of, typed_program}
use Rattle.typed_unit.specs.Stmt as unit
use Rattle.typed_unit.specs.Unit as u
use Rattle.c_well_typed.proofs.Fitting.{Holds}
use Rattle.c_well_typed.specs.Scalars.{IsScalarOrVoid}
use Rattle.c_typed_files.specs.Globals.{AreGlobals}
use Rattle.c_typed_files.specs.Functions as g
use Rattle.c_typed_files.specs.Functions.{IsHeader, IsBody, HasBody}
use Rattle.c_typed_files.proofs.Globals.{all_globals}
use Rattle.plain_runs.specs.Fitting.{is_param}
use Rattle.plain_programs.proofs.Growing.{Grows, stmt_grows, stmts_grow}
use Rattle.plain_files.specs.Blocks.{is_declaration, Nests, BodyNests, DeclNests, ProgramNests}
use Rattle.plain_files.proofs.Names.{no_some, declared_means}
use Rattle.plain_files.proofs.Scoping.{on_test}
use Rattle.plain_files.proofs.Contexts.{NoLocals, InScope}
use Rattle.plain_files.proofs.Declaring.{ok_is, gives, FileGrows, file_grows_self, file_grows_then, Plainly, struct_plainly, enum_plainly, typedef_plainly, globals_plainly, last_in}
use Rattle.plain_files.proofs.Headers.{OfTypes, FunctionsFound, Headed, headed, with_function_grows, with_function_locals, params_in_scope}
use Rattle.plain_files.proofs.Bodies.{All, all_more}
use Rattle.typed_values.specs.Declared.{HasLayout}
use Rattle.typed_values.specs.Programs.{PlainAreScalars}
use Rattle.typed_layouts.specs.Laid.{IsLaid}
use Rattle.typed_layouts.proofs.Laying.{statements_stay_laid, bodies_stay_laid}
use Rattle.kinded_programs.proofs.Growing.{Keeps, stmt_keeps, stmts_keep}
use Rattle.c_addressed.specs.Addressed.{ValueTakes}
use Rattle.kinded_files.proofs.Nodes.{EachIn, in_map}
use Rattle.kinded_files.proofs.Layouts.{StructsGrow, GlobalsNamed, named_by, no_object_more, Grown, one_of_if, struct_grown, enum_grown, typedef_grown, globals_grown}
use Rattle.kinded_files.proofs.Short.{AreShort, stmt_short, stmts_short}
use Rattle.kinded_files.proofs.Marks.{Follows, follows_marked, params_follow}
use Rattle.kinded_files.proofs.Taken.{Proper, takes_map, At, IsMarked, AreMarked, body_marked}
use Rattle.kinded_files.proofs.Homes.{Untaken, params_untaken, stmt_untaken, stmts_untaken, IsHome, home_of, home_more}
use Rattle.kinded_files.proofs.Proper.{HasProper, ProperFunction, a_function, params_marked, before_body, all_marks, body_upto, taken_is, Covers, CoversAll, covers_file}
use Rattle.kinded_files.proofs.Params.{AllScalars, result_is, params_are, inside_is}

-- ---- bodies

-- A body is typed in what the file declares, behind the parameters of its function; all that is declared has a layout, and is within the limit. Pointers may
-- lead to the variables whose addresses it takes.
pub record IsBodyIn (m : Machdep) (taken : Names Bool) (f : File) (b : u.Body) : Type 0 where
  pub before : Context
  pub after : Context
  pub spelled : p.Stmt
  pub typed : IsBody before spelled b.stmt after
  pub nests : Nests spelled
  pub block : is_declaration spelled ≡ false
  pub scope : InScope before (is_param (count_of before))
  pub model : after.model ≡ m
  pub laid : IsLaid after
  pub short : AreShort after
  pub scalars : AllScalars before
  pub flags : after.locals ≡ b.plain
  pub locals : after.scope.local.objects ≡ b.locals
  pub stays : (n : ℕ) (o : Object) → slice_get before.scope.local.objects n ≡ Some o → slice_get b.locals n ≡ Some o
  pub file : FileGrows after.scope.file f
  pub structs : StructsGrow after.scope.file f
  pub signature : Signature
  pub found : slice_get f.functions b.function ≡ Some signature
  pub of_result : signature.result ≡ after.result
  pub params : OfTypes signature.params before.scope.local.objects
  pub addresses : EachIn (λ v. ValueTakes (λ path. IsHome f.names taken b.plain path) v) b.stmt

body_grows : (m : Machdep) (taken : Names Bool) (f f' : File) (b : u.Body) → FileGrows f f' → StructsGrow f f' → IsBodyIn m taken f b → IsBodyIn m taken f' b
body_grows m taken f f' b h more k = record {
  before = k.before;
  after = k.after;
  spelled = k.spelled;
  typed = k.typed;
  nests = k.nests;
  block = k.block;
  scope = k.scope;
  model = k.model;
  laid = k.laid;
  short = k.short;
  scalars = k.scalars;
  flags = k.flags;
  locals = k.locals;
  stays = k.stays;
  file = file_grows_then k.after.scope.file f f' k.file h;
  structs = λ tag x e. more tag x (k.structs tag x e);
  signature = k.signature;
  found = h.functions b.function k.signature k.found;
  of_result = k.of_result;
  params = k.params;
  addresses =
      in_map (λ v. ValueTakes (λ path. IsHome f.names taken b.plain path) v) (λ v. ValueTakes (λ path. IsHome f'.names taken b.plain path) v)
      (λ v. takes_map (λ path. IsHome f.names taken b.plain path) (λ path. IsHome f'.names taken b.plain path)
      (λ path. home_more f.names f'.names taken b.plain h.names path.root path.steps) v) b.stmt k.addresses;
}

all_behind : {X : Type 0} (P : X → Type 0) (xs : List X) (x : X) → All P xs → P x → All P (xs ++ x ∷ [])
all_behind P [] x h k = (k, tt)
all_behind P (y ∷ ys) x h k = (h.0, all_behind P ys x h.1 k)

-- ---- what stands so far

-- functions give scalars, or nothing
abbrev pub ResultsAre : File → Type 0
ResultsAre f = (n : ℕ) (s : Signature) → slice_get f.functions n ≡ Some s → IsScalarOrVoid s.result

pub record SoFar (m : Machdep) (taken : Names Bool) (v : Code) : Type 0 where
  pub locals : NoLocals v.context.scope.file.names
  pub there : FunctionsFound v.context.scope.file
  pub laid : IsLaid v.context
  pub model : v.context.model ≡ m
  pub results : ResultsAre v.context.scope.file
  pub bodies : All (IsBodyIn m taken v.context.scope.file) v.functions.bodies
  pub named : GlobalsNamed taken v.context

-- ---- declarations other than functions

plain_step : (m : Machdep) (taken : Names Bool) (v : Code) (c : Context) → Plainly v.context.scope.file c.scope.file → Grown taken v.context c → SoFar m taken v → (inits : Inits)
    → SoFar m taken (record v { context = c; inits = inits })
plain_step m taken v c h grown k inits = record {
  locals = h.locals k.locals;
  there = λ x n e. let r = k.there x n (h.of_functions x n e) in (r.0, h.grows.functions n r.0 r.1);
  laid = grown.laid k.laid;
  model = grown.model ∙ k.model;
  results = λ n s e. k.results n s (ap (λ gs. slice_get gs n) (sym h.functions) ∙ e);
  bodies =
      all_more (IsBodyIn m taken v.context.scope.file) (IsBodyIn m taken c.scope.file) v.functions.bodies
      (λ b. body_grows m taken v.context.scope.file c.scope.file b h.grows grown.structs) k.bodies;
  named = grown.named k.laid k.named;
}

logic_step : (m : Machdep) (taken : Names Bool) (v : Code) (l : d.LogicDecl) → SoFar m taken v → SoFar m taken (with_logic v l)
logic_step m taken v l k =
    record { locals = k.locals; there = k.there; laid = k.laid; model = k.model; results = k.results; bodies = k.bodies; named = k.named }

-- ---- one function more

new_found : (f : File) (s : Signature) → is_free f.names s.name ≡ true → FunctionsFound f → FunctionsFound (with_function f s)
new_found f s free there x n e = by (declared_means f.names s.name (symbol.Function (length f.functions)) x (symbol.Function n) e) where
  all : (with_function f s).functions ≡ f.functions ++ s ∷ []
  all = ap (λ b. more_if b f.functions s) free

  same_number : symbol.Function (length f.functions) ≡ symbol.Function n → length f.functions ≡ n
  same_number k = cc

  by : (meaning_of f.names x ≡ Some (symbol.Function n)) ⊎ (symbol.Function (length f.functions) ≡ symbol.Function n) → (r : Signature) × (slice_get (with_function f s).functions n ≡ Some r)
  by (inl k) = let r = there x n k in (r.0, (with_function_grows f s).functions n r.0 r.1)
  by (inr k) = (s, ap (λ gs. slice_get gs n) all ∙ ap (slice_get (f.functions ++ s ∷ [])) (sym (same_number k)) ∙ last_in f.functions s)

old_found : (f : File) (s : Signature) → is_free f.names s.name ≡ false → FunctionsFound f → FunctionsFound (with_function f s)
old_found f s taken there x n e =
    let names : (with_function f s).names ≡ f.names = ap (λ b. if b then f.names ++ (s.name, symbol.Function (length f.functions)) ∷ [] else f.names) taken in
    let r = there x n (ap (λ ns. meaning_of ns x) (sym names) ∙ e) in
    (r.0, (with_function_grows f s).functions n r.0 r.1)

function_found : (f : File) (s : Signature) → FunctionsFound f → FunctionsFound (with_function f s)
function_found f s there =
    on_test (is_free f.names s.name) (FunctionsFound (with_function f s)) (λ free. new_found f s free there) (λ taken. old_found f s taken there)

function_results : (f : File) (s : Signature) → IsScalarOrVoid s.result → ResultsAre f → ResultsAre (with_function f s)
function_results f s is before n r e = by (one_of_if (is_free f.names s.name) f.functions s r n e) where
  by : (slice_get f.functions n ≡ Some r) ⊎ (s ≡ r) → IsScalarOrVoid r.result
  by (inl k) = before n r k
  by (inr k) = subst (λ (q : Signature). IsScalarOrVoid q.result) k is

-- ---- what is declared behind a header

declared_laid : (c : Context) (h : d.Function) (result : CoreType) → IsLaid c → IsLaid (with_declared c h result)
declared_laid c h result laid = record {
  layouts = record { variables = there; structs = laid.layouts.structs; sizes = laid.layouts.sizes };
  globals = laid.globals;
  global_flags = laid.global_flags;
  locals = laid.locals;
  local_flags = laid.local_flags;
  struct_sizes = laid.struct_sizes;
} where
  there : (x : Variable) (o : Object) → object_of (with_declared c h result).scope x ≡ Some o → (l : Layout) × HasLayout c.scope.file.structs o.ty l
  there (variable.Global n) o e = laid.layouts.variables (variable.Global n) o e
  there (variable.Local n) o e = laid.layouts.variables (variable.Local n) o e

outside_laid : (c : Context) → IsLaid c → IsLaid (outside c)
outside_laid c laid = record {
  layouts = record { variables = there; structs = laid.layouts.structs; sizes = laid.layouts.sizes };
  globals = laid.globals;
  global_flags = laid.global_flags;
  locals = λ n o e plain. absurd cc;
  local_flags = refl;
  struct_sizes = laid.struct_sizes;
} where
  there : (x : Variable) (o : Object) → object_of (outside c).scope x ≡ Some o → (l : Layout) × HasLayout c.scope.file.structs o.ty l
  there (variable.Global n) o e = laid.layouts.variables (variable.Global n) o e
  there (variable.Local n) o e = absurd cc

pub record HeaderIs (h : d.Function) (c header : Context) : Type 0 where
  pub of : CoreType
  pub result : header.result ≡ of
  pub scalar : IsScalarOrVoid of
  pub laid : IsLaid header
  pub short : AreShort header
  pub scalars : AllScalars header
  pub model : header.model ≡ c.model
  pub globals : header.globals ≡ c.globals
  pub follows : Follows header (params_marked h)
  pub untaken : Untaken (taken_locals h) header

-- before its parameters nothing is marked in a function
nothing_marked : (c : Context) (ns : Addressed) (taken : List Bool) (result : CoreType) → Follows (inside c taken result) (inside_marks (marked ns no_marks))
nothing_marked c ns taken result = record { scopes = ap entered_in (marked_scopes ns no_marks); count = marked_flags ns no_marks }

nothing_untaken : (c : Context) (taken : List Bool) (result : CoreType) → Untaken taken (inside c taken result)
nothing_untaken c taken result = record { same = refl; count = refl; flags = λ n h. absurd (false≢true h) }

header_is : (c : Context) (bodied : Names Bool) (bodies : List u.Body) (h : d.Function) (header : Context) → IsLaid c → IsHeader c bodied bodies (taken_locals h) h header → HeaderIs h c header
header_is c bodied bodies h header laid is =
    let taken = taken_locals h in
    let ps = params_are is.params (inside_is c taken is.result laid) in
    let follows = params_follow is.params (inside_marks (marked (type_addressed h.result) no_marks)) (nothing_marked c (type_addressed h.result) taken is.result) in
    let untaken = params_untaken is.params (nothing_untaken c taken is.result) in
    subst (HeaderIs h c) (sym is.declares) (record {
      of = is.result;
      result = ps.result;
      scalar = result_is is.result is.scalar;
      laid = declared_laid is.within h is.result ps.laid;
      short = ps.short;
      scalars = ps.scalars;
      model = ps.model;
      globals = ps.globals;
      follows = record { scopes = follows.scopes; count = follows.count };
      untaken = record { same = untaken.same; count = untaken.count; flags = untaken.flags };
    })

-- ---- bodies of functions

body_context : {c : Context} {x : p.Stmt} {y : unit.Stmt} {b : Context} → IsBody c x y b → Grows c b
body_context (g.block c b line xs ys are) = stmts_grow are
body_context (g.other c b x y is) = stmt_grows is

body_keeps : {c : Context} {x : p.Stmt} {y : unit.Stmt} {b : Context} → IsBody c x y b → Keeps c b
body_keeps (g.block c b line xs ys are) = stmts_keep are
body_keeps (g.other c b x y is) = stmt_keeps is

body_laid : {c : Context} {x : p.Stmt} {y : unit.Stmt} {b : Context} → IsBody c x y b → IsLaid c → IsLaid b
body_laid (g.block c b line xs ys are) laid = bodies_stay_laid c xs ys b are laid
body_laid (g.other c b x y is) laid = statements_stay_laid c x y b is laid

body_short : {c : Context} {x : p.Stmt} {y : unit.Stmt} {b : Context} → IsBody c x y b → AreShort c → AreShort b
body_short (g.block c b line xs ys are) short = stmts_short are short
body_short (g.other c b x y is) short = stmt_short is short

body_untaken : {T : List Bool} {c : Context} {x : p.Stmt} {y : unit.Stmt} {b : Context} → IsBody c x y b → Untaken T c → Untaken T b
body_untaken (g.block c b line xs ys are) h = stmts_untaken are h
body_untaken (g.other c b x y is) h = stmt_untaken is h

-- pointers may lead to the variables whose addresses are taken in a body
homes_are : (taken : Names Bool) (c : Context) (h : d.Function) (header : Context) → Headed c h header → HeaderIs h c header → NoLocals header.scope.file.names → Covers taken (d.function h) → (behind : Context)
    (x : p.Stmt) (y : unit.Stmt) → h.body ≡ Some x → (is : IsBody header x y behind) → Proper is → Nests x → EachIn (λ v. ValueTakes (λ path. IsHome header.scope.file.names taken behind.locals path) v) y
homes_are taken c h header k here none covers behind x y written is proper nests =
    let names = header.scope.file.names in
    let last = all_marks h in
    let at : At names header (before_body h) =
    record { follows = follows_marked header (contract_addressed h.contract) (params_marked h) here.follows; scope = record { named = λ z n e. (refl, k.params.below z n e); of_file = none }; named = refl } in
    let untaken = body_untaken is here.untaken in
    in_map (AreMarked names last) (λ v. ValueTakes (λ path. IsHome names taken behind.locals path) v)
    (λ v. takes_map (λ path. IsMarked names last path) (λ path. IsHome names taken behind.locals path)
    (λ path. home_of names taken behind.locals last (λ n e. ap (λ ts. slice_index_or ts n true) (sym (taken_is h x written)) ∙ untaken.flags n e) covers path.root path.steps) v) y
    (body_marked names last is proper nests (before_body h) at (body_upto h x written))

number_is : (c : Context) (h : d.Function) (header : Context) (k : Headed c h header) → declared_number header h ≡ k.declared.number
number_is c h header k = ap (λ o. unwrap_or (function_number o) 0) k.declared.named

written_body : (m : Machdep) (taken : Names Bool) (c : Context) (h : d.Function) (header : Context) → c.model ≡ m → Headed c h header → HeaderIs h c header → NoLocals header.scope.file.names
    → Covers taken (d.function h) → (behind : Context) (x : p.Stmt) (y : unit.Stmt) → h.body ≡ Some x → (is : IsBody header x y behind) → Proper is → Nests x → is_declaration x ≡ false
    → IsBodyIn m taken header.scope.file (body_with behind h (declared_number header h) y)
written_body m taken c h header of_model k here none covers behind x y written is proper nests block =
    let grows = body_context is in
    record {
      before = header;
      after = behind;
      spelled = x;
      typed = is;
      nests = nests;
      block = block;
      scope = params_in_scope header k.params none;
      model = (body_keeps is).model ∙ here.model ∙ of_model;
      laid = body_laid is here.laid;
      short = body_short is here.short;
      scalars = here.scalars;
      flags = refl;
      locals = refl;
      stays = grows.objects;
      file = subst (λ f. FileGrows f header.scope.file) (sym grows.file) (file_grows_self header.scope.file);
      structs = λ tag z e. ap (λ (f : File). slice_get f.structs tag) (sym grows.file) ∙ e;
      signature = k.declared.signature;
      found = ap (slice_get header.scope.file.functions) (number_is c h header k) ∙ k.declared.found;
      of_result = k.declared.of_result ∙ sym k.of_result ∙ sym grows.result;
      params = k.declared.params;
      addresses = homes_are taken c h header k here none covers behind x y written is proper nests;
    }

-- what is behind the body of a function, where there is one
pub record Bodied (m : Machdep) (taken : Names Bool) (header : Context) (bs bs' : List u.Body) (behind : Context) : Type 0 where
  pub laid : IsLaid behind
  pub model : behind.model ≡ header.model
  pub globals : behind.globals ≡ header.globals
  pub file : behind.scope.file ≡ header.scope.file
  pub all : All (IsBodyIn m taken header.scope.file) bs → All (IsBodyIn m taken header.scope.file) bs'

bodied_function : (m : Machdep) (taken : Names Bool) (c : Context) (h : d.Function) (header : Context) → c.model ≡ m → Headed c h header → HeaderIs h c header → NoLocals header.scope.file.names
    → Covers taken (d.function h) → (bs : List u.Body) {x : Option p.Stmt} {bs' : List u.Body} {behind : Context} → h.body ≡ x → (has : HasBody header bs h x bs' behind) → HasProper has → BodyNests x
    → Bodied m taken header bs bs' behind
bodied_function m taken c h header of_model k here none covers bs written g.not_written proper nests =
    record { laid = outside_laid header here.laid; model = refl; globals = refl; file = refl; all = λ a. a }
bodied_function m taken c h header of_model k here none covers bs written (g.written behind x y is) proper nests = record {
  laid = outside_laid behind (body_laid is here.laid);
  model = (body_keeps is).model;
  globals = (body_keeps is).globals;
  file = (body_context is).file;
  all = λ a.
      all_behind (IsBodyIn m taken header.scope.file) bs (body_with behind h (declared_number header h) y) a
      (written_body m taken c h header of_model k here none covers behind x y written is proper nests.0 nests.1);
}

function_step : (m : Machdep) (taken bodied : Names Bool) (v : Code) (h : d.Function) (behind : Context) (fs : Functions) → SoFar m taken v → BodyNests h.body → Covers taken (d.function h)
    → ProperFunction bodied (taken_locals h) v.context v.functions h (behind, fs) → SoFar m taken (record v { context = behind; functions = fs })
function_step m taken bodied v h behind fs so nests covers proper =
    let is = proper.0 in
    let f = v.context.scope.file in
    let k = headed v.context bodied v.functions.bodies (taken_locals h) h is.header so.there is.is in
    let s = signature h k.result is.header.scope.local.objects in
    let here = header_is v.context bodied v.functions.bodies h is.header so.laid is.is in
    let grows = subst (FileGrows f) (sym k.file) (with_function_grows f s) in
    let more : StructsGrow f is.header.scope.file = subst (StructsGrow f) (sym k.file) (λ tag x e. e) in
    let none = subst (λ (q : File). NoLocals q.names) (sym k.file) (with_function_locals f s so.locals) in
    let found = subst FunctionsFound (sym k.file) (function_found f s so.there) in
    let scalar = subst IsScalarOrVoid (sym here.result ∙ k.of_result) here.scalar in
    let results = subst ResultsAre (sym k.file) (function_results f s scalar so.results) in
    let b = bodied_function m taken v.context h is.header so.model k here none covers v.functions.bodies refl is.body proper.1 nests in
    let at_header =
    b.all (all_more (IsBodyIn m taken f) (IsBodyIn m taken is.header.scope.file) v.functions.bodies (λ x. body_grows m taken f is.header.scope.file x grows more) so.bodies) in
    record {
      locals = subst (λ (q : File). NoLocals q.names) (sym b.file) none;
      there = subst FunctionsFound (sym b.file) found;
      laid = b.laid;
      model = b.model ∙ here.model ∙ so.model;
      results = subst ResultsAre (sym b.file) results;
      bodies = subst (λ q. All (IsBodyIn m taken q) fs.bodies) (sym b.file) at_header;
      named = named_by taken v.context behind (b.globals ∙ here.globals) (λ y n e.
          no_object_more f.names h.name (symbol.Function (length f.functions)) (λ i z. no_function i z) y n (ap (λ (q : File). meaning_of q.names y) (sym (b.file ∙ k.file)) ∙ e)) so.named;
    } where
      no_function : {i : ℕ} (n : ℕ) → symbol.Function i ≡ symbol.Object (variable.Global n) → ⊥
      no_function n z = cc

-- ---- all declarations

module _ (m : Machdep) (facts : Facts) where
  abbrev Stands : Code → Type 0
  Stands v = SoFar m facts.taken v

  decl_step : (v : Code) (x : d.Decl) (w : Code) → declaration facts v x ≡ Ok w → DeclNests x → Covers facts.taken x → Stands v → Stands w
  unfolding declaration
  decl_step v (d.struct_decl x) w h nests covers so =
      let r = gives (struct_declared v.context x) (λ c. Ok (in_context v c)) w h in
      subst Stands (ok_is (in_context v r.0) w r.2) (plain_step m facts.taken v r.0 (struct_plainly v.context x r.0 r.1) (struct_grown v.context x r.0 r.1 facts.taken) so v.inits)
  decl_step v (d.enum_decl x) w h nests covers so =
      let r = gives (enum_declared v.context x) (λ c. Ok (in_context v c)) w h in
      subst Stands (ok_is (in_context v r.0) w r.2) (plain_step m facts.taken v r.0 (enum_plainly v.context x r.0 r.1) (enum_grown facts.taken v.context x r.0 r.1) so v.inits)
  decl_step v (d.typedef_decl x) w h nests covers so =
      let r = gives (typedef_declared v.context x) (λ c. Ok (in_context v c)) w h in
      subst Stands (ok_is (in_context v r.0) w r.2) (plain_step m facts.taken v r.0 (typedef_plainly v.context x r.0 r.1) (typedef_grown facts.taken v.context x r.0 r.1) so v.inits)
  decl_step v (d.globals xs) w h nests covers so =
      let r = gives (globals_declared facts.taken v.context v.inits xs) (λ (r : Context × Inits). Ok (record v { context = r.0; inits = r.1 })) w h in
      let are = subst (Holds (AreGlobals facts.taken (v.context, v.inits) xs)) r.1 (all_globals facts.taken (v.context, v.inits) xs) in
      subst Stands (ok_is (record v { context = r.0.0; inits = r.0.1 }) w r.2)
      (plain_step m facts.taken v r.0.0 (globals_plainly facts.taken (v.context, v.inits) xs r.0 r.1) (globals_grown are) so r.0.1)
  decl_step v (d.function h) w e nests covers so =
      let r = gives (function v.context v.functions facts.bodied (taken_locals h) h) (λ (r : Context × Functions). Ok (record v { context = r.0; functions = r.1 })) w e in
      let is = subst (Holds (ProperFunction facts.bodied (taken_locals h) v.context v.functions h)) r.1 (a_function facts.bodied (taken_locals h) v.context v.functions h) in
      subst Stands (ok_is (record v { context = r.0.0; functions = r.0.1 }) w r.2) (function_step m facts.taken facts.bodied v h r.0.0 r.0.1 so nests covers is)
  decl_step v (d.logic_decl l) w h nests covers so = subst Stands (ok_is (with_logic v l) w h) (logic_step m facts.taken v l so)

  decls_step : (v : Code) (xs : List d.Decl) (w : Code) → declarations facts v xs ≡ Ok w → ProgramNests xs → CoversAll facts.taken xs → Stands v → Stands w
  decls_step v [] w h nests covers so = subst Stands (ok_is v w h) so
  decls_step v (x ∷ xs) w h nests covers so =
      let r = gives (declaration facts v x) (λ next. declarations facts next xs) w h in decls_step r.0 xs w r.2 nests.1 covers.1 (decl_step v x r.0 r.1 nests.0 covers.0 so)

nothing_yet : (m : Machdep) (taken : Names Bool) → SoFar m taken (at_start m)
nothing_yet m taken = record {
  locals = λ x n e. absurd (no_some (symbol.Object (variable.Local n)) e);
  there = λ x n e. absurd (no_some (symbol.Function n) e);
  laid = record {
    layouts = record { variables = there; structs = λ tag x e. absurd cc; sizes = λ tag x e. absurd cc };
    globals = λ n o e plain. absurd cc;
    global_flags = refl;
    locals = λ n o e plain. absurd cc;
    local_flags = refl;
    struct_sizes = refl;
  };
  model = refl;
  results = λ n s e. absurd cc;
  bodies = tt;
  named = λ y n e. absurd cc;
} where
  there : (x : Variable) (o : Object) → object_of (at_start m).context.scope x ≡ Some o → (l : Layout) × HasLayout [] o.ty l
  there (variable.Global n) o e = absurd cc
  there (variable.Local n) o e = absurd cc

-- ---- files

-- What no pointer leads to is a scalar, and its address isn't taken; functions give scalars, and each body is typed in what the file declares.
pub record InFile (m : Machdep) (taken : Names Bool) (t : u.Typed) : Type 0 where
  pub plain : PlainAreScalars t.plain t.file.globals
  pub untaken : (y : List ℕ) (n : ℕ) → meaning_of t.file.names y ≡ Some (symbol.Object (variable.Global n)) → is_free taken y ≡ false → slice_index_or t.plain n false ≡ false
  pub results : ResultsAre t.file
  pub bodies : All (IsBodyIn m taken t.file) t.bodies

pub in_file : (m : Machdep) (ps : List d.Decl) (t : u.Typed) → typed_program m ps ≡ Ok t → ProgramNests ps → InFile t.model (facts_of ps).taken t
unfolding typed_program
in_file m ps t h nests =
    let taken = (facts_of ps).taken in
    let r = gives (declarations (facts_of ps) (at_start m) ps) (λ v. Ok (finished v)) t h in
    let so = decls_step m (facts_of ps) (at_start m) ps r.0 r.1 nests (covers_file ps) (nothing_yet m taken) in
    let at_end : InFile m taken (finished r.0) = record { plain = so.laid.globals; untaken = λ y n e free. (so.named y n e).1 free; results = so.results; bodies = so.bodies } in
    subst (λ (x : u.Typed). InFile x.model taken x) (ok_is (finished r.0) t r.2) (subst (λ k. InFile k taken (finished r.0)) (sym so.model) at_end)
