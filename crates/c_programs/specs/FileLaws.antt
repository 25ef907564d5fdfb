-- What is so of the annotations of whole files.
use Rattle.std.specs.Prelude.{◌≡◌, ℕ, List, [], map, length, None, Some, Ok}
use Rattle.c_scopes.specs.declared.symbols.Object.{Object}
use Rattle.typed_unit.specs.Unit as u
use Rattle.acsl_expand.specs.Expansion.{Definition}
use Rattle.acsl_notes.specs.Notes.{Enclosing, Note, Noted, params_scope, at_start, body_noted}
use Rattle.acsl_annotated.specs.Told.{Annotations, file_annotated}
use Rattle.acsl_annotated.specs.Annotated.{note_expanded, meant_from, all_expanded}
use Rattle.c_programs.specs.Bodies.{placed}
use Rattle.c_programs.specs.Files.{Text, notes_of, text_of}
use Rattle.c_programs.specs.Placing.{Becomes}
use Rattle.c_programs.specs.Laws.{Declares, IsPlaced}

-- What stands in a body was typed of it, and its definitions are expanded: with its own variables, and some parameters.
pub record IsNoted (ds : List Definition) (b : u.Body) (ns : List Note) : Type 0 where
  pub enclosing : Enclosing
  pub params : List Object
  pub typed : List Note
  pub objects : enclosing.within.objects ≡ b.locals
  pub count : enclosing.within.params ≡ length params
  pub noted : body_noted enclosing (params_scope params) b.stmt ≡ Ok typed
  pub expanded : ns ≡ map (note_expanded ds) typed

-- the body of a function has the annotations that were typed of it
abbrev pub BodiesAreNoted : Type 0
BodiesAreNoted =
    (t : u.Typed) (a : Annotations) (f : ℕ) (x : Text) → file_annotated t ≡ Ok a → text_of f t.bodies (notes_of t.parts (all_expanded a).items) ≡ Some x
    → IsNoted (meant_from a.definitions.items 0 a.items) x.body x.notes

-- All annotations of a body are taken, each where it stands, with as many parameters as the declaration has by which it was typed.
pub record BodyIsPlaced (ds : List Definition) (x : Text) (is : IsNoted ds x.body x.notes) : Type 0 where
  pub behind : Noted
  pub all :
      IsPlaced (Becomes is.enclosing ds None (at_start (params_scope is.params) is.enclosing.within.params) x.body.stmt behind) behind.declared []
      (placed x.body.stmt x.notes is.enclosing.within.params)

abbrev pub BodiesArePlaced : Type 0
BodiesArePlaced = (ds : List Definition) (x : Text) (is : IsNoted ds x.body x.notes) → Declares x.body.locals x.body.stmt → BodyIsPlaced ds x is
