-- What is so of the goals of plain texts.
use Rattle.std.specs.Prelude.{◌≡◌, ℕ, Bool, true, false, List, [], Some}
use Rattle.std.specs.List.{list_all}
use Rattle.wp_base.specs.declared.kinds.Kind.{Kind}
use Rattle.c_kinds.specs.declared.models.Machdep.{Machdep}
use Rattle.c_syntax.specs.declared.token.Token.{Token}
use Rattle.c_syntax.specs.Decl as d
use Rattle.typed_unit.specs.Unit as u
use Rattle.acsl_trees.specs.Tree as acsl
use Rattle.acsl_typing.specs.Annotations.{Annotations}
use Rattle.c_runs.specs.TruthStates.{Value}
use Rattle.qed_terms.specs.Meaning as sense
use Rattle.qed_terms.specs.Setting.{Setting, world_of, Valid}
use Rattle.qed_terms.specs.WellFormed.{is_goal}
use Rattle.c_runs.specs.Program.{Stmts, Function}
use Rattle.c_runs.specs.States.{World, Memory}
use Rattle.c_runs.specs.Claims.{Stop}
use Rattle.c_runs.specs.Calls.{stops}
use Rattle.c_runs.specs.Entry.{Enters}
use Rattle.c_runs.specs.Run as spelled
use Rattle.plain_files.specs.Told.{program_of}
use Rattle.c_runs.specs.Tree.{Steps}
use Rattle.goal_segments.specs.Segments.{FunctionSeg}
use Rattle.goal_segments.specs.Laws.{IsClosed}
use Rattle.plain_files.specs.Laws.{IsOfText}
use Rattle.walk_steps.specs.State.{In}
use Rattle.walk_steps.specs.Texts.{NamesAreGiven}
use Rattle.walk_steps.specs.Walk.{Goal, formula_of}
use Rattle.walk_steps.specs.Laws.{IsExact}
use Rattle.acsl_encode.specs.Binders.{Spelled}
use Rattle.acsl_encode.specs.Regular.{InOrder}
use Rattle.program_steps.specs.Stops.{IsStop}
use Rattle.plain_annotations.specs.Names.{are_c_names}
use Rattle.plain_annotations.specs.Settings.{Names, shared, told, calls_none, plain_names}
use Rattle.program_goals.specs.Words.{word_of, start_in}
use Rattle.program_goals.specs.Programs.{goals_of, ProgramFits, AllValid}
use Rattle.program_goals.specs.Laws.{RunsWell, SomeStops, StopsAreExact, StopsAt, CheckIsExact}
use Rattle.plain_goals.specs.Files.{FunctionGoals, core_of, setting_of_file, texts_of_file, written_of, file_goals, EachStands, EachMeets, FileMeets, SetsStand}

module _ (m : Machdep) (ts : List Token) (p : d.Program) (t : u.Typed) (a : Annotations) (names : Names) (kinds : (function number : ℕ) → Kind) where
  -- A plain text that is met: its annotations pass the tests, and its statements have words.
  pub record IsMet : Type 0 where
    pub text : IsOfText m ts p t a
    pub meets : FileMeets t a names
    pub stands : EachStands t a kinds

-- So is a file whose definitions that call themselves are in order,
abbrev pub FilesInOrderMeet : Type 0
FilesInOrderMeet =
    (t : u.Typed) (a : Annotations) (names : Names) → ((x : acsl.Tree) → are_c_names (names.binders x) ≡ true)
    → InOrder [] (shared (program_of t a).facts) (told (program_of t a).facts names) (program_of t a).facts.definitions → EachMeets t a names → FileMeets t a names

-- and one in which none calls itself.
abbrev pub FilesWithoutRecursionMeet : Type 0
FilesWithoutRecursionMeet =
    (t : u.Typed) (a : Annotations) (binders : acsl.Tree → Spelled) → ((x : acsl.Tree) → are_c_names (binders x) ≡ true)
    → list_all calls_none (program_of t a).facts.definitions ≡ true → EachMeets t a (plain_names binders) → FileMeets t a (plain_names binders)

-- Statements of a plain text have words, with kinds for its temporaries, where sets of loops name variables that are in scope.
abbrev pub PlainTextsStand : Type 0
PlainTextsStand =
    (m : Machdep) (ts : List Token) (p : d.Program) (t : u.Typed) (a : Annotations) → IsOfText m ts p t a → SetsStand t a
    → (kinds : (function number : ℕ) → Kind) × EachStands t a kinds

-- Its core program with checks is one of which goals are made.
abbrev pub PlainTextsHaveGoals : Type 0
PlainTextsHaveGoals =
    (m : Machdep) (ts : List Token) (p : d.Program) (t : u.Typed) (a : Annotations) (names : Names) (kinds : (function number : ℕ) → Kind) → IsMet m ts p t a names kinds
    → ProgramFits (setting_of_file t a names) (core_of t a) (texts_of_file t a names) (written_of t a names kinds)

-- ---- valid goals

-- Where all goals of functions that call no others are valid, every run of such a function goes well, however often its loops turn and however deep its calls
-- are.
abbrev pub ValidGoalsOfTextsRunWell : Type 0
ValidGoalsOfTextsRunWell =
    (m : Machdep) (ts : List Token) (p : d.Program) (t : u.Typed) (a : Annotations) (names : Names) (kinds : (function number : ℕ) → Kind) → IsMet m ts p t a names kinds
    → (reached : ℕ → Bool) → IsClosed (core_of t a) reached
    → AllValid (setting_of_file t a names) (core_of t a) (texts_of_file t a names) (written_of t a names kinds) reached
    → (n : ℕ) (f : Function Stmts) → reached n ≡ true → (program_of t a).functions n ≡ Some f → (vs : List Value) (w : Memory) → Enters (program_of t a) f vs w
    → (turns : ℕ) (contents : List Value)
    → RunsWell (program_of t a).facts n f.contract vs w (spelled.run_function (program_of t a) n vs w turns contents)

abbrev pub EachValid : Setting → List FunctionGoals → Type 0
EachValid setting gs = (g : FunctionGoals) → In g gs → (x : Goal) → In x g.goals → Valid setting (formula_of x)

-- Where all goals of the file are valid, so is every run of each of its functions.
abbrev pub ValidFilesRunWell : Type 0
ValidFilesRunWell =
    (m : Machdep) (ts : List Token) (p : d.Program) (t : u.Typed) (a : Annotations) (names : Names) (kinds : (function number : ℕ) → Kind) → IsMet m ts p t a names kinds
    → EachValid (setting_of_file t a names) (file_goals t a names kinds)
    → (n : ℕ) (f : Function Stmts) → (program_of t a).functions n ≡ Some f → (vs : List Value) (w : Memory) → Enters (program_of t a) f vs w
    → (turns : ℕ) (contents : List Value)
    → RunsWell (program_of t a).facts n f.contract vs w (spelled.run_function (program_of t a) n vs w turns contents)

-- ---- each goal by itself

-- of a function of the text
module _ (t : u.Typed) (a : Annotations) (names : Names) (kinds : (function number : ℕ) → Kind) (n : ℕ) (f : Function Steps) where
  abbrev pub goals_for : List Goal
  goals_for = goals_of (setting_of_file t a names) (core_of t a) (texts_of_file t a names) n f (written_of t a names kinds n)

  pub record AreExact : Type 0 where
    -- a goal is valid exactly where no run of the function's word fails at its check
    pub goals : (g : Goal) → In g goals_for
        → IsExact (setting_of_file t a names) (start_in (world_of (setting_of_file t a names)) (core_of t a) (texts_of_file t a names) n f (written_of t a names kinds n))
        (word_of (world_of (setting_of_file t a names)) (core_of t a) (texts_of_file t a names) n f (written_of t a names kinds n)) g
    -- and exactly where no segment run goes wrong at its check
    pub checks : (g : Goal) → In g goals_for → CheckIsExact (setting_of_file t a names) (core_of t a) (texts_of_file t a names) n f (written_of t a names kinds n) g
    -- each segment run that goes wrong does so at the check of a goal
    pub wrong : (vs : List Value) (w : World) → Enters (core_of t a) f vs w.memory → (e : Stop) → FunctionSeg (core_of t a) n f vs w (stops e)
        → (g : Goal) × (In g goals_for
        × (IsStop e g.place × StopsAt (setting_of_file t a names) (core_of t a) (texts_of_file t a names) n f (written_of t a names kinds n) g.number vs w e))
    -- those for one kind of check at one line are all valid exactly where no segment run goes wrong so
    pub runs : (e : Stop) → StopsAreExact (setting_of_file t a names) (core_of t a) (texts_of_file t a names) n f (written_of t a names kinds n) e
    -- values that falsify a goal are a world from which a segment run goes wrong as its check does
    pub falsified : (g : Goal) → In g goals_for → (env : sense.Values) → sense.truth (world_of (setting_of_file t a names)) env (formula_of g) ≡ false
        → (e : Stop) × (IsStop e g.place × SomeStops (core_of t a) n f e)

abbrev pub GoalsOfTextsAreExact : Type 0
GoalsOfTextsAreExact =
    (m : Machdep) (ts : List Token) (p : d.Program) (t : u.Typed) (a : Annotations) (names : Names) (kinds : (function number : ℕ) → Kind) → IsMet m ts p t a names kinds
    → (n : ℕ) (f : Function Steps) → (core_of t a).functions n ≡ Some f → AreExact t a names kinds n f

-- ---- goals as texts

-- Goals are well formed, and all their free names were given out.
abbrev pub GoalsOfTextsAreTexts : Type 0
GoalsOfTextsAreTexts =
    (m : Machdep) (ts : List Token) (p : d.Program) (t : u.Typed) (a : Annotations) (names : Names) (kinds : (function number : ℕ) → Kind) → IsMet m ts p t a names kinds
    → (n : ℕ) (f : Function Steps) → (core_of t a).functions n ≡ Some f → (g : Goal) → In g (goals_for t a names kinds n f)
    → (is_goal g.known g.claim ≡ true) × NamesAreGiven (written_of t a names kinds n).bases (formula_of g)
