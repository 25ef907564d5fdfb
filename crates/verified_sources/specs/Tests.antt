-- Whether a source is verified, told over what is made of it.
use Rattle.std.specs.Prelude.{◌≡◌, ℕ, Bool, true, false, ◌&&◌, List, Option, Some, None}
use Rattle.std.specs.List.{list_all}
use Rattle.typed_unit.specs.Unit as u
use Rattle.c_runs.specs.Program.{Stmts, Function, Program}
use Rattle.c_runs.specs.Tree.{Steps}
use Rattle.plain_runs.specs.Fitting.{is_param}
use Rattle.plain_test.specs.Plain.{is_plain_file}
use Rattle.plain_words.specs.Sets.{all_sets_stand}
use Rattle.slot_names.specs.Bases.{Name}
use Rattle.binder_names.specs.Tables.{Named, is_named_table}
use Rattle.logic_order.specs.Order.{is_in_order, takes_in}
use Rattle.logic_settings.specs.Found.{IsOrder}
use Rattle.logic_settings.specs.declared.orders.Order.{Order}
use Rattle.logic_sources.specs.Built.{fits_in}
use Rattle.file_spellings.specs.Spelled.{file_names}

-- sets of its loops name variables that are in scope
abbrev pub loops_stand : Option (Function Stmts) → Bool
loops_stand None = true
loops_stand (Some f) = all_sets_stand (is_param f.params) f.body

abbrev pub body_stands : (functions : (number : ℕ) → Option (Function Stmts)) → u.Body → Bool
body_stands fs b = loops_stand (fs b.function)

-- binders have names, sets of loops name what is in scope, and functions fit where logic functions take so many integers
abbrev pub rest_fits : (takes : List (Option ℕ)) → u.Typed → Program Stmts → Program Steps → List Named → (file : List Name) → Bool
rest_fits takes t p q table file =
    is_named_table table && (list_all (body_stands p.functions) t.bodies && list_all (fits_in takes q file t.bodies) t.bodies)

-- of a typed file, the program that it is, its core program with checks, the table of its annotations, and the names of its variables
abbrev pub is_verified_by : u.Typed → Program Stmts → Program Steps → List Named → (file : List Name) → Bool
is_verified_by t p q table file =
    is_plain_file t && (is_in_order p.facts (file_names t) && rest_fits (takes_in p.facts (file_names t)) t p q table file)

-- of a source that is verified what is found of its logic functions; of any other one nothing
abbrev pub Verifies : u.Typed → Program Stmts → Program Steps → List Named → (file : List Name) → Option Order → Type 0
Verifies t p q table file (Some o) = (is_verified_by t p q table file ≡ true) × IsOrder p.facts (file_names t) o
Verifies t p q table file None = is_verified_by t p q table file ≡ false
