-- What is so of the names of slots.
use Rattle.std.specs.Prelude.{◌≡◌, ◌≤◌, ◌<◌, ℕ, suc, Bool, true, List, length, codes, slice_get}
use Rattle.wp_base.specs.declared.kinds.CellKind.{CellKind}
use Rattle.typed_prog.specs.declared.operators.Variable.TheVariants as variables
use Rattle.qed_terms.specs.Meaning as sense
use Rattle.qed_terms.specs.Names.{is_memory_name}
use Rattle.c_runs.specs.Program.{Variable, Function, Facts, Program}
use Rattle.c_runs.specs.Tree.{Steps}
use Rattle.memory_steps.specs.State.{Base}
use Rattle.memory_steps.specs.World.{AreBases}
use Rattle.memory_steps.specs.Texts.{AreNames}
use Rattle.memory_steps.specs.Laws.{own}
use Rattle.memory_words.specs.Places.{Place, IsIn}
use Rattle.memory_words.specs.Shapes.{FileCells, Shape, sizes, is_pointer_cell}
use Rattle.memory_words.specs.Readings.{Texts}
use Rattle.memory_words.specs.Bases.{AreSorted}
use Rattle.memory_functions.specs.Starting.{is_pointer_in, origin_of}
use Rattle.memory_functions.specs.Words.{shape_in, bases_in}
use Rattle.memory_functions.specs.Shown.{Spelled, spelled_at, name_at}
use Rattle.slot_names.specs.Bases.{Name, are_fit, temporary_name}
use Rattle.memory_names.specs.Names.{is_pointer_result, variable_name, name_of, sizes_of, slot_bases, is_memory_place, written}

-- ---- bases fit

-- places whose values are given at the start have names of their own
abbrev pub OwnDiffer : (p : Facts) (s : Shape) (cells : FileCells) (params : ℕ) → (name : Place → Name) → Type 0
OwnDiffer p s cells params name =
    (a b : Place) → IsIn (sizes p s) a → IsIn (sizes p s) b → origin_of p s cells params a ≡ own → origin_of p s cells params b ≡ own → name a ≡ name b → a ≡ b

-- Names are well formed, no base has `#` or `!`, each is of the sort of its place, and those that stand for any value at the start of a function differ; a name
-- is told to be that of a memory where its place is one.
pub record Fit (p : Facts) (s : Shape) (cells : FileCells) (params : ℕ) (name : Place → Name) (all : List Base) : Type 0 where
  pub names : AreNames all
  pub bases : AreBases all
  pub sorted : AreSorted (sizes p s) cells all
  pub differ : OwnDiffer p s cells params name
  pub memories : (a : Place) → IsIn (sizes p s) a → is_memory_name (name a) ≡ is_memory_place a

-- where each variable has a name
abbrev pub BasesFit : Type 0
BasesFit =
    (file own : List Name) (params : ℕ) (p : Facts) (s : Shape) (cells : FileCells) (calls_point : Bool) → are_fit file params own ≡ true
    → length p.globals ≤ length file → length s.variables ≤ length own
    → Fit p s cells params (name_of file own params p.globals s calls_point) (slot_bases file own params p.globals s calls_point cells)

-- and so it is with a function as goals are made of it
abbrev pub WrittenFit : Type 0
WrittenFit =
    (m : sense.World) (q : Program Steps) (cells : FileCells) (texts : Texts) (number : ℕ) (f : Function Steps) (file own : List Name)
    (temporaries : List CellKind) (calls_point : Bool) → are_fit file f.params own ≡ true → length q.facts.globals ≤ length file
    → length f.variables ≤ length own → let g = written file own q.facts f temporaries calls_point in
    Fit q.facts (shape_in f g) cells f.params g.name (bases_in m q cells texts number f g)

-- ---- names are those of the functions that are worked by hand

-- so many are spelled so, in order
abbrev pub AreSpelled : List Spelled → (count : ℕ) → (is_pointer : ℕ → Bool) → (name : ℕ → Name) → Type 0
AreSpelled ns k p name = (x : ℕ) → x < k → spelled_at ns x ≡ record { name = name x; is_pointer = p x }

abbrev pub NamesAreShown : Type 0
NamesAreShown =
    (file own : List Name) (params : ℕ) (globals : List Variable) (s : Shape) (calls_point : Bool) (gs ns ts : List Spelled)
    → AreSpelled gs (length globals) (λ x. is_pointer_in (slice_get globals x)) (λ x. variable_name file own params (variables.Global x))
    → AreSpelled ns (length s.variables) (λ x. is_pointer_in (slice_get s.variables x)) (λ x. variable_name file own params (variables.Local x))
    → AreSpelled ts s.temporaries (λ x. is_pointer_cell (s.temp_kind x)) (λ x. temporary_name (suc x))
    → (a : Place) → IsIn (sizes_of file own params globals s calls_point) a
    → name_of file own params globals s calls_point a
    ≡ name_at gs ns ts (record { name = codes "\\result"; is_pointer = is_pointer_result s.result }) (record { name = codes "%"; is_pointer = calls_point }) a
