-- Files whose programs have blocks and pointers.
use Rattle.std.specs.Prelude.{◌≡◌, ◌<◌, ◌≤◌, ℕ, true, false, [], ◌∷◌, length, Some, slice_get}
use Rattle.std.specs.List.{list_all}
use Rattle.wp_base.specs.Blocks.{cells_of}
use Rattle.c_variables.specs.declared.context.Context.{Context}
use Rattle.typed_unit.specs.Unit as u
use Rattle.c_programs.specs.Told.{Annotations}
use Rattle.c_programs.specs.Files.{program_of}
use Rattle.c_runs.specs.Program.{Stmts, Variable, Function, Program}
use Rattle.c_runs.specs.Normal.{normal}
use Rattle.c_runs.specs.Adding.{add_checks}
use Rattle.goal_segments.specs.Told.{is_param}
use Rattle.run_blocks.specs.Ends.{is_short}
use Rattle.plain_programs.specs.Files.{IsFound, IsTypedBody, BodiesStand}
use Rattle.typed_values.specs.Files.{has_blocks, has_kind}
use Rattle.typed_runs.specs.Fitting.{Shape, FitsProgram, kind_of}
use Rattle.typed_normal.specs.Spelled.{spelled_shape, IsKindedProgram}
use Rattle.kinded_programs.specs.Standing.{IsIn, StmtsStand}

-- a function of the file, of whose cells its expressions may speak
abbrev pub shape_in : u.Typed → Function Stmts → Shape
shape_in t f = spelled_shape (has_blocks t) (has_kind t) f

-- A body is typed in declarations that are in the program, with the type of its function's results. Its first variables are the parameters, of one cell each,
-- and none has more cells than two pointers into it can be apart.
pub record IsTypedIn (t : u.Typed) (q : Program Stmts) (b : u.Body) (f : Function Stmts) : Type 0 where
  pub before : Context
  pub after : Context
  pub typed : IsTypedBody before b.stmt after
  pub is_in : IsIn q.facts (shape_in t f) q.functions after
  pub params : f.params ≤ length f.variables
  pub one_cell : (x : ℕ) (v : Variable) → x < f.params → slice_get f.variables x ≡ Some v → v.is_plain ≡ false → cells_of v.layout ≡ kind_of v ∷ []
  pub short : list_all (is_short q.facts) f.variables ≡ true

abbrev pub BodiesAreTyped : u.Typed → Annotations → Type 0
BodiesAreTyped t a = (n : ℕ) (f : Function Stmts) (found : IsFound t a n f) → IsTypedIn t (program_of t a) found.text.body f

-- in each body the values stand
abbrev pub ValuesStand : u.Typed → Annotations → Type 0
ValuesStand t a =
    (n : ℕ) (f : Function Stmts) → (program_of t a).functions n ≡ Some f → StmtsStand (program_of t a).facts (shape_in t f) (is_param f.params) f.body

-- The program of a file whose bodies are typed, keep their scopes, and have values that stand, is one with the kinds that are asked of blocks and pointers.
abbrev pub KindedFilesAreKinded : Type 0
KindedFilesAreKinded =
    (t : u.Typed) (a : Annotations) → BodiesAreTyped t a → BodiesStand (program_of t a) → ValuesStand t a → IsKindedProgram (program_of t a)

-- Its core program, with its checks, fits what the laws on runs ask.
abbrev pub KindedFilesFit : Type 0
KindedFilesFit =
    (t : u.Typed) (a : Annotations) → BodiesAreTyped t a → BodiesStand (program_of t a) → ValuesStand t a → FitsProgram (add_checks (normal (program_of t a)))
