-- What is declared: names of the file scope and of blocks, and what each of them stands for (C11 6.2.1). Tags are a name space of their own (C11 6.2.3).
use Rattle.std.specs.Prelude.{ℕ, ℤ, ◌==◌, Bool, true, false, List, [], ◌∷◌, ◌++◌, length, Option, Some, None, slice_get, if◌then◌else◌}
use Rattle.wp_base.specs.declared.kinds.Kind.{Kind}
use Rattle.typed_prog.specs.declared.operators.Variable.{Variable}
use Rattle.typed_prog.specs.declared.operators.Variable.TheVariants as variable
use Rattle.name_table.specs.Names.{meaning_of, is_free, declared}
use Rattle.name_table.specs.Nesting.{meaning_in, innermost, declared_in, entered, around}
use Rattle.c_scopes.specs.declared.symbols.Symbol.{Symbol}
use Rattle.c_scopes.specs.declared.symbols.Symbol.TheVariants as symbol
use Rattle.c_scopes.specs.declared.symbols.Tag.TheVariants as tag
use Rattle.c_scopes.specs.declared.symbols.Object.{Object}
use Rattle.c_scopes.specs.declared.symbols.Signature.{Signature}
use Rattle.c_scopes.specs.declared.symbols.Structure.{Structure}
use Rattle.c_scopes.specs.declared.symbols.Resolved.{Resolved}
use Rattle.c_scopes.specs.declared.file.File.{File}
use Rattle.c_scopes.specs.declared.local.Local.{Local}
use Rattle.c_scopes.specs.declared.scope.Scope.{Scope}

-- one item more, where it is new
abbrev pub more_if : {X : Type 0} → (is_new : Bool) → List X → X → List X
more_if true xs x = xs ++ x ∷ []
more_if false xs x = xs

-- ---- the file scope

abbrev pub no_declarations : File
no_declarations = record { names = []; tags = []; globals = []; functions = []; typedefs = []; structs = [] }

-- A new name has the next number among those of its sort; a name that is declared already stays what it is.
abbrev pub with_object : File → Object → File
with_object f o =
    record f { names = declared f.names o.name (symbol.Object (variable.Global (length f.globals))); globals = more_if (is_free f.names o.name) f.globals o }

abbrev pub with_function : File → Signature → File
with_function f g =
    record f { names = declared f.names g.name (symbol.Function (length f.functions)); functions = more_if (is_free f.names g.name) f.functions g }

abbrev pub with_typedef : File → List ℕ → Resolved → File
with_typedef f x t = record f { names = declared f.names x (symbol.Typedef (length f.typedefs)); typedefs = more_if (is_free f.names x) f.typedefs t }

abbrev pub with_enumerator : File → List ℕ → ℤ → File
with_enumerator f x z = record f { names = declared f.names x (symbol.Enumerator z) }

-- the tag of the struct that is completed next
abbrev pub with_struct_tag : File → List ℕ → File
with_struct_tag f x = record f { tags = declared f.tags x (tag.Struct (length f.structs)) }

-- an enumerated type is the same as an integer kind (C11 6.7.2.2p4)
abbrev pub with_enum_tag : File → List ℕ → Kind → File
with_enum_tag f x k = record f { tags = declared f.tags x (tag.Enum k) }

-- the struct whose tag was declared last has its fields
abbrev pub with_struct : File → Structure → File
with_struct f s = record f { structs = f.structs ++ s ∷ [] }

-- ---- blocks

abbrev pub no_locals : Local
no_locals = record { blocks = []; objects = []; initialising = None }

abbrev pub with_block : Local → Local
with_block l = record l { blocks = entered l.blocks }

-- an ended block takes its names with it; the numbers of its objects aren't used again
abbrev pub without_block : Local → Local
without_block l = record l { blocks = around l.blocks }

abbrev pub is_free_here : Local → List ℕ → Bool
is_free_here l x = is_free (innermost l.blocks) x

abbrev pub with_local : Local → Object → Local
with_local l o = record l { blocks = declared_in l.blocks o.name (length l.objects); objects = more_if (is_free_here l o.name) l.objects o }

-- ---- all that is in scope

-- The local whose initialiser is being read hides its name, and may not be named there (this verifier's choice, stricter than C11 6.2.1p7).
abbrev pub local_symbol : (initialising : Option ℕ) → ℕ → Option Symbol
local_symbol None n = Some (symbol.Object (variable.Local n))
local_symbol (Some m) n = if m == n then None else Some (symbol.Object (variable.Local n))

-- a name of a block hides one of the file scope (C11 6.2.1p4)
abbrev pub in_block : (initialising here : Option ℕ) → (outside : Option Symbol) → Option Symbol
in_block initialising (Some n) outside = local_symbol initialising n
in_block initialising None outside = outside

abbrev pub find : Scope → List ℕ → Option Symbol
find s x = in_block s.local.initialising (meaning_in s.local.blocks x) (meaning_of s.file.names x)

abbrev pub object_of : Scope → Variable → Option Object
object_of s (variable.Global n) = slice_get s.file.globals n
object_of s (variable.Local n) = slice_get s.local.objects n
