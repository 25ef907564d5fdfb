-- What typing makes of a text is in order for programs over plain integers.
use Rattle.std.proofs.Common.{subst}
use Rattle.c_variables.specs.declared.context.Context.{Context}
use Rattle.c_functions.specs.Functions.{Functions}
use Rattle.c_well_typed.proofs.Fitting.{Holds}
use Rattle.c_typed_files.specs.Functions.{IsFunction}
use Rattle.c_typed_files.proofs.Functions.{a_function}
use Rattle.plain_programs.proofs.Whole.{plain_files_fit, plain_files_are_plain}
use Rattle.plain_files.specs.Laws.{BodiesOfTextsAreTyped, BodiesOfTextsStand, BodiesOfTextsJump, PlainTextsArePlain, PlainTextsFit}
use Rattle.plain_files.proofs.Nesting.{spelled_programs_nest}
use Rattle.plain_files.proofs.Bodies.{FunctionsAre, file_is}
use Rattle.plain_files.proofs.Texts.{typed_fit}
use Rattle.plain_files.proofs.Typed.{bodies_typed, bodies_stand, bodies_jump}

functions_are : FunctionsAre
functions_are bodied taken c fs h r e = subst (Holds (λ (x : Context × Functions). IsFunction bodied taken c fs h x.0 x.1)) e (a_function bodied taken c fs h)

pub bodies_of_texts_are_typed : BodiesOfTextsAreTyped
bodies_of_texts_are_typed m ts p t a h =
    bodies_typed t a h.plain (file_is functions_are m p t h.typed (spelled_programs_nest ts p h.lines h.spelled)) (typed_fit t a h.annotated)

pub bodies_of_texts_stand : BodiesOfTextsStand
bodies_of_texts_stand m ts p t a h =
    bodies_stand t a h.plain (file_is functions_are m p t h.typed (spelled_programs_nest ts p h.lines h.spelled)) (typed_fit t a h.annotated)

pub bodies_of_texts_jump : BodiesOfTextsJump
bodies_of_texts_jump m ts p t a h =
    bodies_jump t a h.plain (file_is functions_are m p t h.typed (spelled_programs_nest ts p h.lines h.spelled)) (typed_fit t a h.annotated)

pub plain_texts_are_plain : PlainTextsArePlain
plain_texts_are_plain m ts p t a h = plain_files_are_plain t a h.plain (bodies_of_texts_are_typed m ts p t a h) (bodies_of_texts_stand m ts p t a h)

pub plain_texts_fit : PlainTextsFit
plain_texts_fit m ts p t a h = plain_files_fit t a h.plain (bodies_of_texts_are_typed m ts p t a h) (bodies_of_texts_stand m ts p t a h)
