-- What is read of a text (C11 6.9, ACSL 2.6).
use Rattle.std.specs.Prelude.{Ok}
use Rattle.c_syntax.specs.Decl as d
use Rattle.c_kinds.specs.declared.models.Machdep.{Machdep}
use Rattle.c_answers.specs.Answers.{Answer, after}
use Rattle.c_typing.specs.Typing.{typed_program}
use Rattle.typed_unit.specs.Unit as u
use Rattle.acsl_typing.specs.Annotations.{Annotations}
use Rattle.plain_goals.specs.Told.{file_expanded}

-- the tree that it spells, the typed file, and its annotations with their definitions expanded
pub record Source : Type 0 where
  pub tree : d.Program
  pub typed : u.Typed
  pub annots : Annotations

-- What a tree is read as; or its first fault among declarations and code, or else the first one among annotations.
unfoldable pub source_of : Machdep → d.Program → Answer Source
source_of m p = after (typed_program m p) (λ t. after (file_expanded t) (λ a. Ok (record { tree = p; typed = t; annots = a })))
