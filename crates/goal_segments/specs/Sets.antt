-- Sets in force along a segment (ACSL 2.3.2, 2.4.2): that of the innermost loop that has one, else those of the function. An inner set has to lie inside.
use Rattle.std.specs.Prelude.{ℕ, ◌-◌, nat_lt, nat_le, Bool, true, false, not, ◌&&◌, ◌||◌, if◌then◌else◌, ℤ, pos, negsuc, ◌+ℤ◌, int_le, List, [], ◌∷◌, length}
use Rattle.std.specs.List.{list_all, list_any}
use Rattle.wp_base.specs.declared.kinds.CellKind.{CellKind}
use Rattle.wp_base.specs.Blocks.{count}
use Rattle.qed_terms.specs.Operators.{is_equal}
use Rattle.c_runs.specs.TruthStates.{Value, span_of, cells_of, address_at, is_negative}
use Rattle.c_runs.specs.TruthAllowed.{has_kind, is_named}
use Rattle.c_runs.specs.Program.{Loop, Facts}
use Rattle.c_runs.specs.States.{World, Here, Granted, plain_globals, seen}
use Rattle.c_runs.specs.Claims.{in_body, granted_by}

-- ---- which set is in force

abbrev pub own_or : (own around : List Granted) → List Granted
own_or [] gs = gs
own_or (g ∷ more) gs = g ∷ more

-- inside of a loop that is entered in this world
abbrev pub own_loop : Facts → Here → Loop → World → Here
own_loop p here l w =
    let inside = record here { loop_entry = seen p w } in
    record inside { granted = own_or (granted_by p (in_body p inside w) (count w.memory.blocks) l.declared l.assigns) here.granted }

-- ---- whether a region lies in a set

abbrev pub first_cell : Value → ℤ
first_cell r = address_at (span_of r) (span_of r).low

-- the address behind its last cell
abbrev pub last_end : Value → ℤ
last_end r = address_at (span_of r) (span_of r).high +ℤ pos (length (cells_of r))

-- one region lies in another one, which has cells of the kind
abbrev pub is_within : CellKind → (inner outer : Value) → Bool
is_within k r q =
    has_kind k q && is_equal (span_of r).block (span_of q).block && int_le (first_cell q) (first_cell r) && int_le (last_end r) (last_end q)

-- it has no cell, is newer than the set, or lies in one region of it
abbrev pub lets_region : Granted → Value → CellKind → Bool
lets_region g r k = int_le (last_end r) (first_cell r) || int_le g.count (span_of r).block || list_any (is_within k r) g.regions

-- a variable that no pointer leads to, by its block: it is named, or one of the function that is declared inside of the loop
abbrev pub lets_variable : Facts → Granted → (block : ℤ) → Bool
lets_variable p g (pos n) = true
lets_variable p g (negsuc n) = is_named g.regions (negsuc n) || (not (nat_lt n (plain_globals p)) && nat_le g.declared (n - plain_globals p))

abbrev pub region_inside : Facts → Granted → Value → Bool
region_inside p g r = if is_negative (span_of r).block then lets_variable p g (span_of r).block else list_all (lets_region g r) (cells_of r)

-- ---- sets inside of those in force

abbrev pub set_inside : Facts → (in_force : List Granted) → (inner : List Value) → Bool
set_inside p gs rs = list_all (λ g. list_all (region_inside p g) rs) gs

-- of a loop: its own set, where it has one
abbrev pub own_inside : Facts → (in_force own : List Granted) → Bool
own_inside p gs [] = true
own_inside p gs (g ∷ more) = set_inside p gs g.regions

abbrev pub loop_inside : Facts → Here → Loop → World → Bool
loop_inside p here l w =
    let inside = record here { loop_entry = seen p w } in
    own_inside p here.granted (granted_by p (in_body p inside w) (count w.memory.blocks) l.declared l.assigns)

-- of a function that is called: for each clause in force that counts some clause of it that counts lies inside
abbrev pub some_inside : Facts → (clauses : List Granted) → Granted → Bool
some_inside p cs g = list_any (λ (c : Granted). list_all (region_inside p g) c.regions) cs

abbrev pub call_inside : Facts → (in_force clauses : List Granted) → Bool
call_inside p gs cs = list_all (some_inside p cs) gs
