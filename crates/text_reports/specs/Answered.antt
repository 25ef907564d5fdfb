-- What a text is answered with: its report, or its one fault.
use Rattle.std.specs.Prelude.{◌≡◌, ◌⊎◌, ℕ, true, false, List, Option, Some, None, Result, Ok, Err}
use Rattle.wp_base.specs.declared.answers.Refusal.{Refusal}
use Rattle.wp_base.specs.declared.answers.Rule.TheVariants as rule
use Rattle.wp_base.specs.declared.answers.Stop.{Stop}
use Rattle.wp_base.specs.declared.answers.Stop.TheVariants as stop
use Rattle.c_syntax.specs.declared.token.Token.{Token}
use Rattle.c_syntax.specs.Decl as d
use Rattle.c_parser.specs.Outcome.{SpellsWithin, Refuses}
use Rattle.c_kinds.specs.declared.models.Machdep.{Machdep}
use Rattle.typed_unit.specs.Unit as u
use Rattle.acsl_typing.specs.Annotations.{Annotations}
use Rattle.acsl_annotated.specs.Annotated.{file_expanded}
use Rattle.c_typing.specs.Typing.{typed_program}
use Rattle.plain_front.specs.Told.{Source, source_of, is_verified}
use Rattle.plain_front.specs.Text.{Spells, HasFault}
use Rattle.wp_words.specs.Command.{Wanted}
use Rattle.file_reports.specs.declared.reports.FileReport.{FileReport}
use Rattle.file_reports.specs.Made.{Makes, source_by}

-- that it isn't verified
abbrev pub unbuilt : Refusal
unbuilt = record { rule = rule.Unbuilt; line = 1 }

-- ---- the report of what is read, or its fault

abbrev pub Reported : Type 0
Reported = Result FileReport Stop

abbrev pub AnnotatedAnswer : Wanted → d.Program → u.Typed → Annotations → Reported → Type 0
AnnotatedAnswer wanted p t a (Ok r) = Makes wanted (source_by p t a) (Some r)
AnnotatedAnswer wanted p t a (Err (stop.Refused r)) = (is_verified (source_by p t a) ≡ false) × (r ≡ unbuilt)
AnnotatedAnswer wanted p t a (Err stop.NoMemory) = Unit {0}

abbrev pub TypedAnswer : Wanted → d.Program → u.Typed → Reported → Type 0
TypedAnswer wanted p t (Ok r) = (a : Annotations) × (file_expanded t ≡ Ok a) × Makes wanted (source_by p t a) (Some r)
TypedAnswer wanted p t (Err (stop.Refused r)) = (file_expanded t ≡ Err r) ⊎ ((a : Annotations) × (file_expanded t ≡ Ok a) × (is_verified (source_by p t a) ≡ false) × (r ≡ unbuilt))
TypedAnswer wanted p t (Err stop.NoMemory) = Unit {0}

-- a fault of the program that a tree is
abbrev pub TreeFault : Machdep → d.Program → Refusal → Type 0
TreeFault m p r = (source_of m p ≡ Err r) ⊎ ((s : Source) × (source_of m p ≡ Ok s) × (is_verified s ≡ false) × (r ≡ unbuilt))

abbrev pub TreeAnswer : Machdep → Wanted → d.Program → Reported → Type 0
TreeAnswer m wanted p (Ok r) = (s : Source) × (source_of m p ≡ Ok s) × Makes wanted s (Some r)
TreeAnswer m wanted p (Err (stop.Refused r)) = TreeFault m p r
TreeAnswer m wanted p (Err stop.NoMemory) = Unit {0}

abbrev pub TokensAnswer : Machdep → Wanted → List Token → Reported → Type 0
TokensAnswer m wanted ts (Ok r) = (p : d.Program) × SpellsWithin ts p × ((s : Source) × (source_of m p ≡ Ok s) × Makes wanted s (Some r))
TokensAnswer m wanted ts (Err (stop.Refused r)) = Refuses ts r ⊎ ((p : d.Program) × SpellsWithin ts p × TreeFault m p r)
TokensAnswer m wanted ts (Err stop.NoMemory) = Unit {0}

-- The report is of what the text spells, and a text is refused by its fault.
abbrev pub TextAnswer : Machdep → Wanted → List ℕ → Reported → Type 0
TextAnswer m wanted text (Ok r) = (s : Source) × Spells m text s × Makes wanted s (Some r)
TextAnswer m wanted text (Err (stop.Refused r)) = HasFault m text r
TextAnswer m wanted text (Err stop.NoMemory) = Unit {0}
