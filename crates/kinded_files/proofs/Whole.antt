-- What typing makes of a text is in order for programs with blocks and pointers.
use Rattle.std.proofs.Common.{subst}
use Rattle.c_variables.specs.declared.context.Context.{Context}
use Rattle.c_functions.specs.Functions.{Functions}
use Rattle.c_typing.specs.Typing.{facts_of}
use Rattle.c_well_typed.proofs.Fitting.{Holds}
use Rattle.c_typed_files.specs.Functions.{IsFunction}
use Rattle.c_typed_files.proofs.Functions.{a_function}
use Rattle.plain_files.proofs.Nesting.{spelled_programs_nest}
use Rattle.plain_files.proofs.Bodies.{FunctionsAre, file_is}
use Rattle.plain_files.proofs.Texts.{typed_fit}
use Rattle.kinded_programs.proofs.Whole.{kinded_files_are_kinded, kinded_files_fit}
use Rattle.kinded_files.specs.Laws.{BodiesOfTextsAreTyped, ScopesOfTextsStand, ValuesOfTextsStand, KindedTextsAreKinded, KindedTextsFit}
use Rattle.kinded_files.proofs.Bodies.{in_file}
use Rattle.kinded_files.proofs.Typed.{bodies_typed, scopes_stand, values_stand}

functions_are : FunctionsAre
functions_are bodied taken c fs h r e = subst (Holds (λ (x : Context × Functions). IsFunction bodied taken c fs h x.0 x.1)) e (a_function bodied taken c fs h)

pub bodies_of_texts_are_typed : BodiesOfTextsAreTyped
bodies_of_texts_are_typed m ts p t a h =
    let nests = spelled_programs_nest ts p h.lines h.spelled in
    bodies_typed t a (facts_of p).taken (in_file m p t h.typed nests) (file_is functions_are m p t h.typed nests) (typed_fit t a h.annotated)

pub scopes_of_texts_stand : ScopesOfTextsStand
scopes_of_texts_stand m ts p t a h =
    let nests = spelled_programs_nest ts p h.lines h.spelled in
    scopes_stand t a (facts_of p).taken (in_file m p t h.typed nests) (file_is functions_are m p t h.typed nests) (typed_fit t a h.annotated)

pub values_of_texts_stand : ValuesOfTextsStand
values_of_texts_stand m ts p t a h holds =
    let nests = spelled_programs_nest ts p h.lines h.spelled in
    values_stand t a (facts_of p).taken (in_file m p t h.typed nests) (file_is functions_are m p t h.typed nests) (typed_fit t a h.annotated) holds

pub kinded_texts_are_kinded : KindedTextsAreKinded
kinded_texts_are_kinded m ts p t a h holds =
    kinded_files_are_kinded t a (bodies_of_texts_are_typed m ts p t a h) (scopes_of_texts_stand m ts p t a h) (values_of_texts_stand m ts p t a h holds)

pub kinded_texts_fit : KindedTextsFit
kinded_texts_fit m ts p t a h holds =
    kinded_files_fit t a (bodies_of_texts_are_typed m ts p t a h) (scopes_of_texts_stand m ts p t a h) (values_of_texts_stand m ts p t a h holds)
