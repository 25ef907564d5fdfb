-- Declarations in the file and in blocks.
use Rattle.std.proofs.Common.{◌≡◌, ℕ, zero, suc, Bool, true, false, List, [], ◌∷◌, ◌++◌, length, Option, Some, None, refl, ap, ◌∙◌, eq-eqb, if◌then◌else◌}
use Rattle.std.specs.Prelude.{slice_get}
use Rattle.typed_prog.specs.declared.operators.Variable.{Variable}
use Rattle.typed_prog.specs.declared.operators.Variable.TheVariants as variable
use Rattle.name_table.specs.Names.{Names, meaning_of, is_free, declared}
use Rattle.name_table.specs.Nesting.{meaning_in}
use Rattle.name_table.proofs.Declaring.{declares}
use Rattle.name_table.proofs.Hiding.{hides, enters}
use Rattle.c_scopes.specs.declared.symbols.Symbol.{Symbol}
use Rattle.c_scopes.specs.declared.symbols.Symbol.TheVariants as symbol
use Rattle.c_scopes.specs.declared.symbols.Object.{Object}
use Rattle.c_scopes.specs.declared.local.Local.{Local}
use Rattle.c_scopes.specs.declared.scope.Scope.{Scope}
use Rattle.c_scopes.specs.Declarations.{more_if, local_symbol, in_block, object_of, with_local}
use Rattle.c_scopes.specs.Laws.{DeclaresAs, FilesDeclare, in_local, LocalHides, BlockBegins, ScopesNest}

-- ---- numbers

last_there : {X : Type 0} (xs : List X) (x : X) → slice_get (xs ++ x ∷ []) (length xs) ≡ Some x
last_there [] x = refl
last_there (y ∷ xs) x = last_there xs x

pub new_there : {X : Type 0} (b : Bool) (xs : List X) (x : X) → b ≡ true → slice_get (more_if b xs x) (length xs) ≡ Some x
new_there b xs x h = ap (λ b. slice_get (more_if b xs x) (length xs)) h ∙ last_there xs x

older_before : {X : Type 0} (xs : List X) (x : X) (n : ℕ) (y : X) → slice_get xs n ≡ Some y → slice_get (xs ++ x ∷ []) n ≡ Some y
older_before [] x n y h = cc
older_before (z ∷ xs) x zero y h = h
older_before (z ∷ xs) x (suc n) y h = older_before xs x n y h

older_there : {X : Type 0} (b : Bool) (xs : List X) (x : X) (n : ℕ) (y : X) → slice_get xs n ≡ Some y → slice_get (more_if b xs x) n ≡ Some y
older_there true xs x n y h = older_before xs x n y h
older_there false xs x n y h = h

-- ---- the file

declares_as : {X : Type 0} (names : Names Symbol) (items : List X) (x : List ℕ) (what : Symbol) (item : X) → DeclaresAs names (declared names x what) items (more_if (is_free names x) items item) x what item
declares_as names items x what item =
    let d = declares names x what in
    record {
      new = d.new;
      numbered = new_there (is_free names x) items item;
      again = λ there. (d.old there, ap (λ b. more_if b items item) there);
      others = d.others;
      older = older_there (is_free names x) items item;
    }

pub files_declare : FilesDeclare
files_declare f = record {
  objects = λ o. declares_as f.names f.globals o.name (symbol.Object (variable.Global (length f.globals))) o;
  functions = λ g. declares_as f.names f.functions g.name (symbol.Function (length f.functions)) g;
  typedefs = λ x t. declares_as f.names f.typedefs x (symbol.Typedef (length f.typedefs)) t;
}

-- ---- blocks

-- what a name is, by what it means in the blocks
abbrev by_blocks : Scope → List ℕ → Option ℕ → Option Symbol
by_blocks s y m = in_block s.local.initialising m (meaning_of s.file.names y)

itself : (n : ℕ) → local_symbol (Some n) n ≡ None
itself n = ap (λ b. if b then None else Some (symbol.Object (variable.Local n))) (eq-eqb n n refl)

older_object : (s : Scope) (o : Object) (v : Variable) (p : Object) → object_of s v ≡ Some p → object_of (in_local s (with_local s.local o)) v ≡ Some p
older_object s o (variable.Global n) p h = h
older_object s o (variable.Local n) p h = older_there _ s.local.objects o n p h

local_hides : (s : Scope) (o : Object) → LocalHides s o
local_hides s o =
    let h = hides s.local.blocks o.name (length s.local.objects) in
    record {
      new = λ free none. ap (by_blocks s o.name) (h.new free) ∙ ap (λ i. local_symbol i (length s.local.objects)) none;
      not_yet = λ free. ap (λ m. in_block (Some (length s.local.objects)) m (meaning_of s.file.names o.name)) (h.new free) ∙ itself (length s.local.objects);
      numbered = new_there _ s.local.objects o;
      others = λ y ne. ap (by_blocks s y) (h.others y ne);
      older = older_object s o;
      left = λ y. ap (λ bs. by_blocks s y (meaning_in bs y)) h.left;
    }

block_begins : (s : Scope) → BlockBegins s
block_begins s =
    let h = enters s.local.blocks in
    record { same = λ y. ap (by_blocks s y) (h.same y); free = h.free; left = ap (λ bs. let l : Local = record { blocks = bs; objects = s.local.objects; initialising = s.local.initialising } in l) h.left }

pub scopes_nest : ScopesNest
scopes_nest s = record { locals = local_hides s; begins = block_begins s }
