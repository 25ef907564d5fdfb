-- What typing makes of all annotations of a file is in order (ACSL 2.3 to 2.6).
use Rattle.std.specs.Prelude.{◌≡◌, Bool, true, false, List, [], ◌∷◌, ◌++◌}
use Rattle.c_scopes.specs.declared.file.File.{File}
use Rattle.typed_unit.specs.Stmt as s
use Rattle.typed_unit.specs.Unit as u
use Rattle.acsl_rules.specs.Laws.{Holds}
use Rattle.acsl_names.specs.declared.names.Definition.{Definition}
use Rattle.acsl_notes.specs.Notes.{Note, of_loop, assertion}
use Rattle.acsl_typing.specs.Annotations as a
use Rattle.acsl_typing.specs.Annotations.{result_of, file_annotated}
use Rattle.acsl_well_typed.specs.WellTyped.{an_integer, Known}
use Rattle.acsl_well_typed.specs.Terms.{Gives}
use Rattle.acsl_well_typed.specs.Ranges.{EachBinds}
use Rattle.acsl_well_typed.specs.Clauses.{All, ClausesFit, ContractBinds, LoopBinds}
use Rattle.acsl_well_typed.specs.Definitions.{known_with, BodyBinds, DefinitionFits}

abbrev pub NoteFits : Known → Note → Type 0
NoteFits k (of_loop cs) = ClausesFit k cs
NoteFits k (assertion t) = Gives k [] an_integer t

-- What a declaration says, where these definitions stand before it and those behind it; those that are known may be more. A definition is one more.
abbrev pub PartFits : (ends : Bool) → File → (known : List Definition → List Definition) → u.Annotated → a.Annotation → (before behind : List Definition)
    → Type 0
PartFits ends f known (u.of_function i ps q has_body) (a.of_function cs ns) before behind =
    ClausesFit (known_with ends (known before) (result_of f i)) cs × All (NoteFits (known_with ends (known before) (result_of f i))) ns × (behind ≡ before)
PartFits ends f known (u.of_logic l) (a.of_definition t) before behind = (d : Definition) × (behind ≡ before ++ d ∷ []) × DefinitionFits ends
    (known behind) l d t
PartFits ends f known _ _ before behind = ⊥

-- the declarations of a file in order, from these definitions to those
abbrev pub PartsFit : (ends : Bool) → File → (known : List Definition → List Definition) → List u.Part → List a.Annotation → (before all : List Definition)
    → Type 0
PartsFit ends f known [] [] before all = before ≡ all
PartsFit ends f known (p ∷ ps) (x ∷ xs) before all =
    (behind : List Definition) × PartFits ends f known p.decl x before behind × PartsFit ends f known ps xs behind all
PartsFit ends f known _ _ before all = ⊥

-- Every tree is in order by the definitions that stand before it, or by its own, and so it is by all of the file.
pub record FileFits (ends : Bool) (t : u.Typed) (x : a.Annotations) : Type 0 where
  pub by_those_before : PartsFit ends t.file (λ ds. ds) t.parts x.items [] x.definitions.items
  pub by_all : PartsFit ends t.file (λ ds. x.definitions.items) t.parts x.items [] x.definitions.items

-- ---- each quantifier of a file binds a name

abbrev mutual
  pub StmtBinds : s.Stmt → Type 0
  StmtBinds (s.empty line) = Unit {0}
  StmtBinds (s.expr line v) = Unit {0}
  StmtBinds (s.block line body) = StmtsBind body
  StmtBinds (s.locals line vars) = Unit {0}
  StmtBinds (s.if_else line test x y) = StmtBinds x × StmtBinds y
  StmtBinds (s.loop_of line annot turns body) = LoopBinds annot × StmtBinds body
  StmtBinds (s.switch line v body) = StmtsBind body
  StmtBinds (s.case_of line z) = Unit {0}
  StmtBinds (s.default line) = Unit {0}
  StmtBinds (s.break line) = Unit {0}
  StmtBinds (s.continue line) = Unit {0}
  StmtBinds (s.return_of line v) = Unit {0}
  StmtBinds (s.assert line p) = EachBinds p

  pub StmtsBind : s.Stmts → Type 0
  StmtsBind s.stop = Unit {0}
  StmtsBind (s.more x xs) = StmtBinds x × StmtsBind xs

abbrev pub PartBinds : u.Annotated → Type 0
PartBinds (u.of_function i ps q has_body) = ContractBinds q
PartBinds (u.of_logic l) = BodyBinds l.body

pub record FileBinds (t : u.Typed) : Type 0 where
  pub parts : All (λ p. PartBinds p.decl) t.parts
  pub bodies : All (λ b. StmtBinds b.stmt) t.bodies

-- ---- laws

abbrev pub FilesAreWellTyped : Type 0
FilesAreWellTyped = (t : u.Typed) → Holds (FileFits false t) (file_annotated t)

-- and where each quantifier binds a name, as the grammar has it, the ends of ranges are integers
abbrev pub RangesOfFilesAreWellTyped : Type 0
RangesOfFilesAreWellTyped = (t : u.Typed) → FileBinds t → Holds (FileFits true t) (file_annotated t)
