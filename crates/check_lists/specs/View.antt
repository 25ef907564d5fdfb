-- The plain checks of those in memory, and what is pushed behind some.
use Rattle.std.specs.Prelude.{◌≡◌, ℕ, Bool, List, [], ◌∷◌, ◌++◌, map}
use Rattle.typed_prog.specs.declared.operators.Path.{Path}
use Rattle.c_runs.specs.Operators as u
use Rattle.c_runs.specs.Objects.{is_pointed}
use Rattle.c_runs.specs.Checks as c
use Rattle.check_lists.specs.declared.checks.Undefined.{Undefined}
use Rattle.check_lists.specs.declared.checks.Undefined.TheVariants as code
use Rattle.check_lists.specs.declared.checks.Check.{Check}

abbrev pub view_undefined : Undefined → u.Undefined
view_undefined code.Init = u.init
view_undefined code.Overflow = u.overflow
view_undefined code.DivZero = u.divzero
view_undefined code.Shift = u.shift
view_undefined code.Access = u.access
view_undefined code.Index = u.index
view_undefined code.Pointing = u.pointing
view_undefined code.Comparing = u.comparing

abbrev pub view_check : Check → c.Check
view_check x = record { kind = view_undefined x.kind; line = x.line; step = x.step; way = x.way }

abbrev pub view_checks : List Check → List c.Check
view_checks xs = map view_check xs

-- ---- pushed

-- a check of an operation itself
abbrev pub check_at : u.Undefined → (line step : ℕ) → c.Check
check_at kind line step = record { kind = kind; line = line; step = step; way = [] }

-- of what stands at the end of a way
abbrev pub under : (way : List ℕ) → c.Check → c.Check
under way x = record x { way = way ++ x.way }

-- these checks of what stands at the end of a way are behind those that were there
unfoldable pub Added : (old new : List Check) (way : List ℕ) → List c.Check → Type 0
Added old new way xs = view_checks new ≡ view_checks old ++ map (under way) xs

-- ---- lists that the code makes in one

-- an object to which a way leads that begins at no plain variable
abbrev pub reached : Path → List c.Check
reached path = c.index_checks 0 path.steps ++ c.one_if (is_pointed path.root) u.access path.line

abbrev pub left_shift : (signed : Bool) → (line : ℕ) → List c.Check
left_shift signed l = c.here u.shift l ∷ c.one_if signed u.overflow l
