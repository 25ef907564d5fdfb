-- Where annotations stand, and so what is around them (ACSL 2.2).
use Rattle.std.specs.Prelude.{ℕ, List, Option, None}
use Rattle.c_kinds.specs.declared.models.Machdep.{Machdep}
use Rattle.typed_prog.specs.declared.types.CoreType.{CoreType}
use Rattle.name_table.specs.Names.{Names}
use Rattle.c_scopes.specs.declared.symbols.Object.{Object}
use Rattle.c_scopes.specs.declared.file.File.{File}
use Rattle.acsl_names.specs.declared.names.Site.{Site}
use Rattle.acsl_names.specs.declared.names.Definitions.{Definitions}
use Rattle.acsl_names.specs.declared.sites.Before.{Before as CodeBefore}
use Rattle.acsl_names.specs.declared.sites.Within.{Within as CodeWithin}
use Rattle.acsl_names.specs.Names.{Around}

-- what a file declares before an annotation: how many ordinary names and how many tags, and how many cells each struct has
pub record Before : Type 0 where
  pub model : Machdep
  pub sizes : List ℕ
  pub file : File
  pub names : ℕ
  pub tags : ℕ

abbrev pub view_before : CodeBefore → Before
view_before x = record { model = x.model; sizes = x.sizes.now; file = x.file.now; names = x.names; tags = x.tags }

-- the function that an annotation stands in: its parameters and then its locals, how many are parameters, and the type of its result
pub record Within : Type 0 where
  pub objects : List Object
  pub params : ℕ
  pub result : CoreType

abbrev pub view_within : CodeWithin → Within
view_within x = record { objects = x.objects.now; params = x.params; result = x.result.now }

-- what is around an annotation of a function, or of a definition with the number `itself`, where these locals are in scope
abbrev pub around : Before → Definitions → List (Names ℕ) → Within → Site → (itself : Option ℕ) → Around
around f ds blocks w s i = record {
  model = f.model;
  sizes = f.sizes;
  file = f.file;
  names = f.names;
  tags = f.tags;
  definitions = ds;
  blocks = blocks;
  objects = w.objects;
  params = w.params;
  site = s;
  result = w.result;
  itself = i;
  down = None;
}
