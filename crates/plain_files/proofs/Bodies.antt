-- What stands behind some declarations: each body is typed in what is declared, and each function that has one somewhere has its own.
use Rattle.std.proofs.Common.{◌≡◌, ℕ, zero, suc, ◌+◌, Bool, true, false, ◌||◌, if◌then◌else◌, is_some, is_none, List, [], ◌∷◌, ◌++◌, length, Option, Some, None, Ok, refl, sym, ap, ◌∙◌, subst, inl, inr, slice_get, arith, length-append}
use Rattle.std.specs.Prelude.{◌⊎◌, ◌==◌}
use Rattle.std.specs.Option.{unwrap_or}
use Rattle.std.specs.Str.{bytes_eq}
use Rattle.std.proofs.lemmas.Bool.{false≢true}
use Rattle.std.proofs.lemmas.Bool.Decides.{nat_tests}
use Rattle.std.proofs.lemmas.Slice.Eq.{bytes_eq-Decides}
use Rattle.c_kinds.specs.declared.models.Machdep.{Machdep}
use Rattle.c_syntax.specs.Decl as d
use Rattle.c_syntax.specs.Stmt as p
use Rattle.typed_prog.specs.declared.operators.Variable.TheVariants as variable
use Rattle.name_table.specs.Names.{Names, meaning_of, is_free, declared}
use Rattle.c_scopes.specs.declared.symbols.Object.{Object}
use Rattle.c_scopes.specs.declared.symbols.Signature.{Signature}
use Rattle.c_scopes.specs.declared.symbols.Symbol.{Symbol}
use Rattle.c_scopes.specs.declared.symbols.Symbol.TheVariants as symbol
use Rattle.c_scopes.specs.declared.file.File.{File}
use Rattle.c_scopes.specs.Declarations.{more_if, with_function}
use Rattle.c_taken.specs.Walks.{taken_locals}
use Rattle.c_variables.specs.declared.context.Context.{Context}
use Rattle.c_stmts.specs.Locals.{count_of}
use Rattle.c_decls.specs.Structs.{struct_declared}
use Rattle.c_decls.specs.Enums.{enum_declared, typedef_declared}
use Rattle.c_decls.specs.Globals.{Inits, globals_declared}
use Rattle.c_functions.specs.Functions.{Functions, function_number, is_defined, signature, declared_number, body_with, part_of, function}
use Rattle.c_typing.specs.Typing.{Facts, Unit as Code, bodied_by, bodied_with, bodied, at_start, in_context, with_logic, declaration, declarations, finished, facts_of, typed_program}
use Rattle.typed_unit.specs.Stmt as s
use Rattle.typed_unit.specs.Unit as u
use Rattle.c_typed_files.specs.Functions as g
use Rattle.c_typed_files.specs.Functions.{IsBody, HasBody, IsFunction}
use Rattle.plain_runs.specs.Fitting.{is_param}
use Rattle.plain_programs.proofs.Growing.{Grows, stmt_grows, stmts_grow}
use Rattle.plain_files.specs.Blocks.{is_declaration, Nests, JumpsStand, BodyNests, DeclNests, ProgramNests}
use Rattle.plain_files.proofs.Names.{some_is, no_some, new_means, declared_means}
use Rattle.plain_files.proofs.Scoping.{on_test}
use Rattle.plain_files.proofs.Contexts.{NoLocals, InScope}
use Rattle.plain_files.proofs.Declaring.{ok_is, gives, FileGrows, file_grows_self, file_grows_then, Plainly, struct_plainly, enum_plainly, typedef_plainly, globals_plainly, last_in}
use Rattle.plain_files.proofs.Headers.{OfTypes, FunctionsFound, Headed, headed, with_function_grows, with_function_locals, params_in_scope}

-- ---- lists

abbrev pub All : {X : Type 0} → (X → Type 0) → List X → Type 0
All P [] = Unit {0}
All P (x ∷ xs) = P x × All P xs

pub all_more : {X : Type 0} (P Q : X → Type 0) (xs : List X) → ((x : X) → P x → Q x) → All P xs → All Q xs
all_more P Q [] f h = tt
all_more P Q (x ∷ xs) f h = (f x h.0, all_more P Q xs f h.1)

all_behind : {X : Type 0} (P : X → Type 0) (xs : List X) (x : X) → All P xs → P x → All P (xs ++ x ∷ [])
all_behind P [] x h k = (k, tt)
all_behind P (y ∷ ys) x h k = (h.0, all_behind P ys x h.1 k)

-- ---- bodies

-- A body is typed in what the file declares, behind the parameters of its function.
pub record IsBodyOf (f : File) (b : u.Body) : Type 0 where
  pub before : Context
  pub after : Context
  pub spelled : p.Stmt
  pub typed : IsBody before spelled b.stmt after
  pub nests : Nests spelled
  pub block : is_declaration spelled ≡ false
  pub jumps : JumpsStand false false spelled
  pub file : FileGrows after.scope.file f
  pub locals : after.scope.local.objects ≡ b.locals
  pub signature : Signature
  pub found : slice_get f.functions b.function ≡ Some signature
  pub of_result : signature.result ≡ after.result
  pub params : OfTypes signature.params before.scope.local.objects
  pub stays : (n : ℕ) (o : Object) → slice_get before.scope.local.objects n ≡ Some o → slice_get b.locals n ≡ Some o
  pub scope : InScope before (is_param (count_of before))

body_grows : (f f' : File) (b : u.Body) → FileGrows f f' → IsBodyOf f b → IsBodyOf f' b
body_grows f f' b h k = record {
  before = k.before;
  after = k.after;
  spelled = k.spelled;
  typed = k.typed;
  nests = k.nests;
  block = k.block;
  jumps = k.jumps;
  file = file_grows_then k.after.scope.file f f' k.file h;
  locals = k.locals;
  signature = k.signature;
  found = h.functions b.function k.signature k.found;
  of_result = k.of_result;
  params = k.params;
  stays = k.stays;
  scope = k.scope;
}

-- how many declarations have a body
abbrev pub one_if : Bool → ℕ
one_if true = 1
one_if false = 0

abbrev pub bodies_in : u.Annotated → ℕ
bodies_in (u.of_function i ps q has_body) = one_if has_body
bodies_in (u.of_logic l) = 0

abbrev pub all_bodies_in : List u.Part → ℕ
all_bodies_in [] = 0
all_bodies_in (x ∷ xs) = bodies_in x.decl + all_bodies_in xs

bodies_behind : (xs : List u.Part) (x : u.Part) → all_bodies_in (xs ++ x ∷ []) ≡ all_bodies_in xs + bodies_in x.decl
bodies_behind [] x = omega arith
bodies_behind (y ∷ ys) x = omega (arith, bodies_behind ys x)

defined_more : (bs : List u.Body) (b : u.Body) (n : ℕ) → is_defined bs (Some n) ≡ true → is_defined (bs ++ b ∷ []) (Some n) ≡ true
defined_more [] b n h = absurd (false≢true h)
defined_more (x ∷ bs) b n h = by (x.function == n) h (defined_more bs b n) where
  by : (t : Bool) → (t || is_defined bs (Some n)) ≡ true → (is_defined bs (Some n) ≡ true → is_defined (bs ++ b ∷ []) (Some n) ≡ true) → (t || is_defined (bs ++ b ∷ []) (Some n)) ≡ true
  by true h rest = refl
  by false h rest = rest h

same_number : (n : ℕ) → (n == n) ≡ true
same_number n = grind (arith, nat_tests)

or_true : (a b : Bool) → a ≡ true → (a || b) ≡ true
or_true true b h = refl
or_true false b h = absurd (false≢true h)

or_second : (a b : Bool) → b ≡ true → (a || b) ≡ true
or_second true b h = refl
or_second false b h = h

defined_last : (bs : List u.Body) (b : u.Body) → is_defined (bs ++ b ∷ []) (Some b.function) ≡ true
defined_last [] b = or_true (b.function == b.function) false (same_number b.function)
defined_last (x ∷ bs) b = or_second (x.function == b.function) (is_defined (bs ++ b ∷ []) (Some b.function)) (defined_last bs b)

-- ---- names with a body

-- after a name is noted one that is noted was so before, or is this one
noted : (ns : Names Bool) (y x : List ℕ) → is_free (declared ns y true) x ≡ false → (is_free ns x ≡ false) ⊎ (x ≡ y)
noted ns y x h = by (is_free ns y) h where
  more : (ms : Names Bool) → is_free (ms ++ (y, true) ∷ []) x ≡ false → (is_free ms x ≡ false) ⊎ (x ≡ y)
  more [] k = on (bytes_eq x y) refl k where
    on : (b : Bool) → bytes_eq x y ≡ b → is_none (if b then Some true else None) ≡ false → (true ≡ false) ⊎ (x ≡ y)
    on true e k = inr ((bytes_eq-Decides x y).0 e)
    on false e k = absurd (false≢true (sym k))
  more (m ∷ ms) k = on (bytes_eq x m.0) k (more ms) where
    on : (b : Bool) → is_none (if b then Some m.1 else meaning_of (ms ++ (y, true) ∷ []) x) ≡ false → (is_free (ms ++ (y, true) ∷ []) x ≡ false → (is_free ms x ≡ false) ⊎ (x ≡ y))
        → (is_none (if b then Some m.1 else meaning_of ms x) ≡ false) ⊎ (x ≡ y)
    on true k rest = inl refl
    on false k rest = rest k

  by : (b : Bool) → is_free (if b then ns ++ (y, true) ∷ [] else ns) x ≡ false → (is_free ns x ≡ false) ⊎ (x ≡ y)
  by true k = more ns k
  by false k = inl k

-- a function of this number has a body
pub record HasOne (f : File) (bs : List u.Body) (x : List ℕ) : Type 0 where
  pub number : ℕ
  pub named : meaning_of f.names x ≡ Some (symbol.Function number)
  pub defined : is_defined bs (Some number) ≡ true

-- its name is one of those with a body
pub record IsBodied (facts : Facts) (f : File) (n : ℕ) : Type 0 where
  pub name : List ℕ
  pub named : meaning_of f.names name ≡ Some (symbol.Function n)
  pub has : is_free facts.bodied name ≡ false

pub record SoFar (facts : Facts) (done : Names Bool) (v : Code) : Type 0 where
  pub locals : NoLocals v.context.scope.file.names
  pub there : FunctionsFound v.context.scope.file
  pub named : (n : ℕ) (s : Signature) → slice_get v.context.scope.file.functions n ≡ Some s → IsBodied facts v.context.scope.file n
  pub bodied : (x : List ℕ) → is_free done x ≡ false → HasOne v.context.scope.file v.functions.bodies x
  pub bodies : All (IsBodyOf v.context.scope.file) v.functions.bodies
  pub count : all_bodies_in v.functions.parts ≡ length v.functions.bodies

-- ---- declarations other than functions

plain_step : (facts : Facts) (done : Names Bool) (v : Code) (c : Context) → Plainly v.context.scope.file c.scope.file → SoFar facts done v → (inits : Inits)
    → SoFar facts done (record v { context = c; inits = inits })
plain_step facts done v c h k inits = record {
  locals = h.locals k.locals;
  there = λ x n e. let r = k.there x n (h.of_functions x n e) in (r.0, h.grows.functions n r.0 r.1);
  named = λ n s e. let r = k.named n s (ap (λ gs. slice_get gs n) (sym h.functions) ∙ e) in record { name = r.name; named = h.grows.names r.name (symbol.Function n) r.named; has = r.has };
  bodied = λ x e. let r = k.bodied x e in record { number = r.number; named = h.grows.names x (symbol.Function r.number) r.named; defined = r.defined };
  bodies = all_more (IsBodyOf v.context.scope.file) (IsBodyOf c.scope.file) v.functions.bodies (λ b. body_grows v.context.scope.file c.scope.file b h.grows) k.bodies;
  count = k.count;
}

logic_step : (facts : Facts) (done : Names Bool) (v : Code) (l : d.LogicDecl) → SoFar facts done v → SoFar facts done (with_logic v l)
logic_step facts done v l k = record {
  locals = k.locals;
  there = k.there;
  named = k.named;
  bodied = k.bodied;
  bodies = k.bodies;
  count = bodies_behind v.functions.parts (record { names = length v.context.scope.file.names; tags = length v.context.scope.file.tags; decl = u.of_logic l }) ∙ to_same (all_bodies_in v.functions.parts) ∙ k.count;
} where
  to_same : (n : ℕ) → n + 0 ≡ n
  to_same n = omega arith

-- ---- functions

-- what is so of the names and functions of a file
pub record FileStands (facts : Facts) (f : File) : Type 0 where
  pub locals : NoLocals f.names
  pub there : FunctionsFound f
  pub named : (n : ℕ) (s : Signature) → slice_get f.functions n ≡ Some s → IsBodied facts f n

one_of_more : {X : Type 0} (xs : List X) (y x : X) (n : ℕ) → slice_get (xs ++ y ∷ []) n ≡ Some x → (slice_get xs n ≡ Some x) ⊎ (n ≡ length xs)
one_of_more [] y x zero h = inr refl
one_of_more [] y x (suc n) h = inl h
one_of_more (z ∷ xs) y x zero h = inl h
one_of_more (z ∷ xs) y x (suc n) h = by (one_of_more xs y x n h) where
  by : (slice_get xs n ≡ Some x) ⊎ (n ≡ length xs) → (slice_get xs n ≡ Some x) ⊎ (suc n ≡ suc (length xs))
  by (inl e) = inl e
  by (inr e) = inr (ap suc e)

new_function : (facts : Facts) (f : File) (s : Signature) → is_free f.names s.name ≡ true → is_free facts.bodied s.name ≡ false → FileStands facts f → FileStands facts (with_function f s)
new_function facts f s free has k =
    let new = new_means f.names s.name (symbol.Function (length f.functions)) free in
    let all : (with_function f s).functions ≡ f.functions ++ s ∷ [] = ap (λ b. more_if b f.functions s) free in
    let grows = with_function_grows f s in
    record {
      locals = with_function_locals f s k.locals;
      there = λ x n e. found grows all x n (declared_means f.names s.name (symbol.Function (length f.functions)) x (symbol.Function n) e);
      named = λ n r e. named grows new n r (one_of_more f.functions s r n (ap (λ gs. slice_get gs n) (sym all) ∙ e));
    } where
      found : FileGrows f (with_function f s) → (with_function f s).functions ≡ f.functions ++ s ∷ [] → (x : List ℕ) (n : ℕ)
          → (meaning_of f.names x ≡ Some (symbol.Function n)) ⊎ (symbol.Function (length f.functions) ≡ symbol.Function n) → (r : Signature) × (slice_get (with_function f s).functions n ≡ Some r)
      found grows all x n (inl e) = let r = k.there x n e in (r.0, grows.functions n r.0 r.1)
      found grows all x n (inr e) = (s, ap (λ gs. slice_get gs n) all ∙ ap (slice_get (f.functions ++ s ∷ [])) (sym (same_function e)) ∙ last_in f.functions s) where
        same_function : symbol.Function (length f.functions) ≡ symbol.Function n → length f.functions ≡ n
        same_function e = cc

      named : FileGrows f (with_function f s) → meaning_of (with_function f s).names s.name ≡ Some (symbol.Function (length f.functions)) → (n : ℕ) (r : Signature)
          → (slice_get f.functions n ≡ Some r) ⊎ (n ≡ length f.functions) → IsBodied facts (with_function f s) n
      named grows new n r (inl e) = let b = k.named n r e in record { name = b.name; named = grows.names b.name (symbol.Function n) b.named; has = b.has }
      named grows new n r (inr e) = record { name = s.name; named = new ∙ ap (λ i. Some (symbol.Function i)) (sym e); has = has }

old_function : (facts : Facts) (f : File) (s : Signature) → is_free f.names s.name ≡ false → FileStands facts f → FileStands facts (with_function f s)
old_function facts f s taken k =
    let functions : (with_function f s).functions ≡ f.functions = ap (λ b. more_if b f.functions s) taken in
    let names : (with_function f s).names ≡ f.names = ap (λ b. if b then f.names ++ (s.name, symbol.Function (length f.functions)) ∷ [] else f.names) taken in
    record {
      locals = with_function_locals f s k.locals;
      there = λ x n e. let r = k.there x n (ap (λ ns. meaning_of ns x) (sym names) ∙ e) in (r.0, ap (λ gs. slice_get gs n) functions ∙ r.1);
      named = λ n r e. let b = k.named n r (ap (λ gs. slice_get gs n) (sym functions) ∙ e) in record { name = b.name; named = ap (λ ns. meaning_of ns b.name) names ∙ b.named; has = b.has };
    }

with_function_stands : (facts : Facts) (f : File) (s : Signature) → is_free facts.bodied s.name ≡ false → FileStands facts f → FileStands facts (with_function f s)
with_function_stands facts f s has k =
    on_test (is_free f.names s.name) (FileStands facts (with_function f s)) (λ free. new_function facts f s free has k) (λ taken. old_function facts f s taken k)

-- ---- bodies

body_context : {c : Context} {x : p.Stmt} {y : s.Stmt} {b : Context} → IsBody c x y b → Grows c b
body_context (g.block c b line xs ys are) = stmts_grow are
body_context (g.other c b x y is) = stmt_grows is

-- what is behind the body of a function, where there is one
pub record Bodied (h : d.Function) (header : Context) (bs : List u.Body) (x : Option p.Stmt) (bs' : List u.Body) (behind : Context) : Type 0 where
  pub file : behind.scope.file ≡ header.scope.file
  pub all : All (IsBodyOf header.scope.file) bs → All (IsBodyOf header.scope.file) bs'
  pub noted : (done : Names Bool) → ((y : List ℕ) → is_free done y ≡ false → HasOne header.scope.file bs y) → (y : List ℕ) → is_free (bodied_by h.name x done) y ≡ false → HasOne header.scope.file bs' y
  pub count : length bs' ≡ length bs + one_if (is_some x)

number_is : (c : Context) (h : d.Function) (header : Context) (k : Headed c h header) → declared_number header h ≡ k.declared.number
number_is c h header k = ap (λ o. unwrap_or (function_number o) 0) k.declared.named

written_body : (c : Context) (h : d.Function) (header : Context) → Headed c h header → NoLocals header.scope.file.names → (behind : Context) (x : p.Stmt) (y : s.Stmt) → IsBody header x y behind → Nests x
    → is_declaration x ≡ false → JumpsStand false false x → IsBodyOf header.scope.file (body_with behind h (declared_number header h) y)
written_body c h header k none behind x y is nests block jumps =
    let grows = body_context is in
    record {
      before = header;
      after = behind;
      spelled = x;
      typed = is;
      nests = nests;
      block = block;
      jumps = jumps;
      file = subst (λ f. FileGrows f header.scope.file) (sym grows.file) (file_grows_self header.scope.file);
      locals = refl;
      signature = k.declared.signature;
      found = ap (slice_get header.scope.file.functions) (number_is c h header k) ∙ k.declared.found;
      of_result = k.declared.of_result ∙ sym k.of_result ∙ sym grows.result;
      params = k.declared.params;
      stays = grows.objects;
      scope = params_in_scope header k.params none;
    }

one_more_body : (bs : List u.Body) (b : u.Body) → length (bs ++ b ∷ []) ≡ length bs + 1
one_more_body bs b = omega (arith, length-append bs (b ∷ []))

bodied_function : (c : Context) (h : d.Function) (header : Context) → Headed c h header → NoLocals header.scope.file.names → (bs : List u.Body) {x : Option p.Stmt} {bs' : List u.Body} {behind : Context}
    → HasBody header bs h x bs' behind → BodyNests x → Bodied h header bs x bs' behind
bodied_function c h header k none bs g.not_written nests = record { file = refl; all = λ a. a; noted = λ done old y e. old y e; count = omega arith }
bodied_function c h header k none bs (g.written behind x y is) nests =
    let n = declared_number header h in
    let b = body_with behind h n y in
    record {
      file = (body_context is).file;
      all = λ a. all_behind (IsBodyOf header.scope.file) bs b a (written_body c h header k none behind x y is nests.0 nests.1 nests.2);
      noted = λ done old z e. by b refl old z (noted done h.name z e);
      count = one_more_body bs b;
    } where
      by : (b : u.Body) → b.function ≡ declared_number header h → {old : (z : List ℕ) → Type 0} → ((z : List ℕ) → old z → HasOne header.scope.file bs z) → (z : List ℕ) → (old z) ⊎ (z ≡ h.name)
          → HasOne header.scope.file (bs ++ b ∷ []) z
      by b at old z (inl e) = let r = old z e in record { number = r.number; named = r.named; defined = defined_more bs b r.number r.defined }
      by b at old z (inr e) = record {
        number = k.declared.number;
        named = ap (meaning_of header.scope.file.names) e ∙ k.declared.named;
        defined = ap (λ i. is_defined (bs ++ b ∷ []) (Some i)) (sym (at ∙ number_is c h header k)) ∙ defined_last bs b;
      }

function_step : (facts : Facts) (done : Names Bool) (v : Code) (h : d.Function) (behind : Context) (fs : Functions) → SoFar facts done v → BodyNests h.body
    → IsFunction facts.bodied (taken_locals h) v.context v.functions h behind fs → SoFar facts (bodied_by h.name h.body done) (record v { context = behind; functions = fs })
function_step facts done v h behind fs so nests is =
    let f = v.context.scope.file in
    let k = headed v.context facts.bodied v.functions.bodies (taken_locals h) h is.header so.there is.is in
    let s = signature h k.result is.header.scope.local.objects in
    let stands_here : FileStands facts f = record { locals = so.locals; there = so.there; named = so.named } in
    let stands = subst (FileStands facts) (sym k.file) (with_function_stands facts f s is.is.body stands_here) in
    let grows = subst (FileGrows f) (sym k.file) (with_function_grows f s) in
    let b = bodied_function v.context h is.header k stands.locals v.functions.bodies is.body nests in
    let at_header = b.all (all_more (IsBodyOf f) (IsBodyOf is.header.scope.file) v.functions.bodies (λ x. body_grows f is.header.scope.file x grows) so.bodies) in
    let noted_here = b.noted done (λ y e. let r = so.bodied y e in record { number = r.number; named = grows.names y (symbol.Function r.number) r.named; defined = r.defined }) in
    let behind_stands = subst (FileStands facts) (sym b.file) stands in
    record {
      locals = behind_stands.locals;
      there = behind_stands.there;
      named = behind_stands.named;
      bodied = subst (λ g. (y : List ℕ) → is_free (bodied_by h.name h.body done) y ≡ false → HasOne g fs.bodies y) (sym b.file) noted_here;
      bodies = subst (λ g. All (IsBodyOf g) fs.bodies) (sym b.file) at_header;
      count = ap all_bodies_in is.parts ∙ bodies_behind v.functions.parts (part_of f is.header h) ∙ ap (λ n. n + one_if (is_some h.body)) so.count ∙ sym b.count;
    }

-- ---- all declarations

-- functions are typed by the rules of their form
abbrev pub FunctionsAre : Type 0
FunctionsAre = (bodied : Names Bool) (taken : List Bool) (c : Context) (fs : Functions) (h : d.Function) (r : Context × Functions) → function c fs bodied taken h ≡ Ok r → IsFunction bodied taken c fs h r.0 r.1

module _ (functions_are : FunctionsAre) (facts : Facts) where
  decl_step : (done : Names Bool) (v : Code) (x : d.Decl) (w : Code) → declaration facts v x ≡ Ok w → DeclNests x → SoFar facts done v → SoFar facts (bodied_with done x) w
  unfolding declaration
  decl_step done v (d.struct_decl x) w h nests so =
      let r = gives (struct_declared v.context x) (λ c. Ok (in_context v c)) w h in
      subst (SoFar facts done) (ok_is (in_context v r.0) w r.2) (plain_step facts done v r.0 (struct_plainly v.context x r.0 r.1) so v.inits)
  decl_step done v (d.enum_decl x) w h nests so =
      let r = gives (enum_declared v.context x) (λ c. Ok (in_context v c)) w h in
      subst (SoFar facts done) (ok_is (in_context v r.0) w r.2) (plain_step facts done v r.0 (enum_plainly v.context x r.0 r.1) so v.inits)
  decl_step done v (d.typedef_decl x) w h nests so =
      let r = gives (typedef_declared v.context x) (λ c. Ok (in_context v c)) w h in
      subst (SoFar facts done) (ok_is (in_context v r.0) w r.2) (plain_step facts done v r.0 (typedef_plainly v.context x r.0 r.1) so v.inits)
  decl_step done v (d.globals xs) w h nests so =
      let r = gives (globals_declared facts.taken v.context v.inits xs) (λ (r : Context × Inits). Ok (record v { context = r.0; inits = r.1 })) w h in
      subst (SoFar facts done) (ok_is (record v { context = r.0.0; inits = r.0.1 }) w r.2) (plain_step facts done v r.0.0 (globals_plainly facts.taken (v.context, v.inits) xs r.0 r.1) so r.0.1)
  decl_step done v (d.function g) w h nests so =
      let r = gives (function v.context v.functions facts.bodied (taken_locals g) g) (λ (r : Context × Functions). Ok (record v { context = r.0; functions = r.1 })) w h in
      subst (SoFar facts (bodied_by g.name g.body done)) (ok_is (record v { context = r.0.0; functions = r.0.1 }) w r.2)
      (function_step facts done v g r.0.0 r.0.1 so nests (functions_are facts.bodied (taken_locals g) v.context v.functions g r.0 r.1))
  decl_step done v (d.logic_decl l) w h nests so = subst (SoFar facts done) (ok_is (with_logic v l) w h) (logic_step facts done v l so)

  decls_step : (done : Names Bool) (v : Code) (xs : List d.Decl) (w : Code) → declarations facts v xs ≡ Ok w → ProgramNests xs → SoFar facts done v → SoFar facts (bodied done xs) w
  decls_step done v [] w h nests so = subst (SoFar facts done) (ok_is v w h) so
  decls_step done v (x ∷ xs) w h nests so =
      let r = gives (declaration facts v x) (λ next. declarations facts next xs) w h in
      decls_step (bodied_with done x) r.0 xs w r.2 nests.1 (decl_step done v x r.0 r.1 nests.0 so)

nothing_yet : (facts : Facts) (m : Machdep) → SoFar facts [] (at_start m)
nothing_yet facts m = record {
  locals = λ x n e. absurd (no_some (symbol.Object (variable.Local n)) e);
  there = λ x n e. absurd (no_some (symbol.Function n) e);
  named = λ n s e. absurd (no_some s e);
  bodied = λ x e. absurd (false≢true (sym e));
  bodies = tt;
  count = refl;
}

-- ---- files

-- each function that is declared has a body, and each body is typed in what the file declares
pub record FileIs (t : u.Typed) : Type 0 where
  pub each : (n : ℕ) (s : Signature) → slice_get t.file.functions n ≡ Some s → is_defined t.bodies (Some n) ≡ true
  pub bodies : All (IsBodyOf t.file) t.bodies
  pub count : all_bodies_in t.parts ≡ length t.bodies

same_function : (m n : ℕ) (o : Option Symbol) → o ≡ Some (symbol.Function m) → o ≡ Some (symbol.Function n) → m ≡ n
same_function m n o h k = number (some_is (symbol.Function m) (symbol.Function n) (sym h ∙ k)) where
  number : symbol.Function m ≡ symbol.Function n → m ≡ n
  number e = cc

at_end : (facts : Facts) (v : Code) → SoFar facts facts.bodied v → FileIs (finished v)
at_end facts v so = record {
  each = λ n s e.
      let b = so.named n s e in
      let r = so.bodied b.name b.has in
      ap (λ i. is_defined v.functions.bodies (Some i)) (same_function n r.number (meaning_of v.context.scope.file.names b.name) b.named r.named) ∙ r.defined;
  bodies = so.bodies;
  count = so.count;
}

pub file_is : FunctionsAre → (m : Machdep) (p : List d.Decl) (t : u.Typed) → typed_program m p ≡ Ok t → ProgramNests p → FileIs t
unfolding typed_program
file_is functions_are m p t h nests =
    let r = gives (declarations (facts_of p) (at_start m) p) (λ v. Ok (finished v)) t h in
    subst FileIs (ok_is (finished r.0) t r.2) (at_end (facts_of p) r.0 (decls_step functions_are (facts_of p) [] (at_start m) p r.0 r.1 nests (nothing_yet (facts_of p) m)))
