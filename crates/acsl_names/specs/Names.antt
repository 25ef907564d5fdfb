-- What stands around an annotation, and what a name is there (ACSL 2.2, 2.6). From within: binders and parameters of a definition, the locals in
-- scope, what the file declares before the annotation, and the definitions before it.
use Rattle.std.specs.Prelude.{ℕ, List, map, Option, Some, None, Ok}
use Rattle.std.specs.Option.{option_copied, option_map}
use Rattle.c_kinds.specs.declared.models.Machdep.{Machdep}
use Rattle.c_syntax.specs.Expr as e
use Rattle.c_syntax.specs.View.{view_var}
use Rattle.typed_prog.specs.declared.types.CoreType.{CoreType}
use Rattle.typed_prog.specs.declared.operators.Variable.TheVariants as variable
use Rattle.name_table.specs.Names.{Names, meaning_of, meaning_among}
use Rattle.name_table.specs.Nesting.{meaning_in}
use Rattle.c_answers.specs.Answers.{Answer, after, unknown}
use Rattle.c_scopes.specs.declared.symbols.Symbol.{Symbol}
use Rattle.c_scopes.specs.declared.symbols.Symbol.TheVariants as symbol
use Rattle.c_scopes.specs.declared.symbols.Tag.{Tag}
use Rattle.c_scopes.specs.declared.symbols.Object.{Object}
use Rattle.c_scopes.specs.declared.symbols.Resolved.{Resolved}
use Rattle.c_scopes.specs.declared.file.File.{File}
use Rattle.c_scopes.specs.Meanings as m
use Rattle.acsl_names.specs.declared.names.Around.{Around as Code}
use Rattle.acsl_names.specs.declared.names.Bound.{Bound}
use Rattle.acsl_names.specs.declared.names.Site.{Site}
use Rattle.acsl_names.specs.declared.names.Definitions.{Definitions}
use Rattle.acsl_names.specs.declared.names.Meaning.{Meaning}
use Rattle.acsl_names.specs.declared.names.Meaning.TheVariants as meaning

-- `itself`: the number of the definition that is read, where it calls itself; `down`: its parameters, where it may do so.
-- `names` and `tags`: how many ordinary names and tags of the file are declared before; `params`: how many of the objects are parameters
pub record Around : Type 0 where
  pub model : Machdep
  pub sizes : List ℕ
  pub file : File
  pub names : ℕ
  pub tags : ℕ
  pub definitions : Definitions
  pub blocks : List (Names ℕ)
  pub objects : List Object
  pub params : ℕ
  pub site : Site
  pub result : CoreType
  pub itself : Option ℕ
  pub down : Option (List e.VarDecl)

abbrev pub view_around : Code → Around
view_around c = record {
  model = c.model;
  sizes = c.sizes.now;
  file = c.file.now;
  names = c.names;
  tags = c.tags;
  definitions = c.definitions.now;
  blocks = c.blocks.now;
  objects = c.objects.now;
  params = c.params;
  site = c.site;
  result = c.result.now;
  itself = c.itself;
  down = option_map (map view_var) (option_copied c.down);
}

-- an annotation at this site
abbrev pub at_site : Site → Around → Around
at_site s c = record c { site = s }

-- the body of a logic function where it may call itself, with these parameters
abbrev pub going_down : List e.VarDecl → Around → Around
going_down ps c = record c { down = Some ps }

-- ---- names

abbrev pub of_symbol : Symbol → Meaning
of_symbol (symbol.Object (variable.Global n)) = meaning.Global n
of_symbol (symbol.Object (variable.Local n)) = meaning.Local n
of_symbol (symbol.Function n) = meaning.Function
of_symbol (symbol.Enumerator z) = meaning.Enumerator z
of_symbol (symbol.Typedef n) = meaning.Typedef

abbrev pub as_definition : Option ℕ → Meaning
as_definition (Some n) = meaning.Definition n
as_definition None = meaning.Nothing

abbrev pub as_symbol : Option Symbol → Meaning → Meaning
as_symbol (Some s) outside = of_symbol s
as_symbol None outside = outside

abbrev pub as_local : Option ℕ → Meaning → Meaning
as_local (Some n) outside = meaning.Local n
as_local None outside = outside

abbrev pub as_bound : Option ℕ → Meaning → Meaning
as_bound (Some n) outside = meaning.Bound n
as_bound None outside = outside

-- the definition of this name, which a name of C can't have; a local of this name doesn't hide it where it is called
abbrev pub definition_of : Definitions → List ℕ → Meaning
definition_of ds x = as_definition (meaning_of ds.names x)

unfoldable pub meaning_at : Around → Bound → List ℕ → Meaning
meaning_at c b x =
    as_bound (meaning_in b.scopes x) (as_local (meaning_in c.blocks x) (as_symbol (meaning_among c.names c.file.names x) (definition_of c.definitions x)))

-- ---- types

abbrev pub tag_is_before : (line : ℕ) → Option Tag → Answer (Unit {0})
tag_is_before line (Some t) = Ok tt
tag_is_before line None = unknown line

-- a tag is declared before its use
abbrev pub tags_before : Around → (line : ℕ) → e.CType → Answer (Unit {0})
tags_before c line (e.struct_of x) = tag_is_before line (meaning_among c.tags c.file.tags x)
tags_before c line (e.enum_of x) = tag_is_before line (meaning_among c.tags c.file.tags x)
tags_before c line (e.pointer to) = tags_before c line to
tags_before c line (e.array of length) = tags_before c line of
tags_before c line (e.constant of) = tags_before c line of
tags_before c line e.void = Ok tt
tags_before c line (e.kind k) = Ok tt
tags_before c line e.integer = Ok tt
tags_before c line (e.named x) = Ok tt

-- the type with its names looked up among what is declared before; none is no type of C
unfoldable pub type_named : Around → (line : ℕ) → e.CType → Answer (Option Resolved)
type_named c line type = after (tags_before c line type) (λ _. m.named c.file line type)
