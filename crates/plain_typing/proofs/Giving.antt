-- Typed expressions give values of their kinds.
use Rattle.std.proofs.Common.{◌≡◌, ℕ, zero, suc, ◌<◌, ℤ, pos, Bool, true, false, ◌&&◌, List, [], ◌∷◌, ◌++◌, map, length, Option, Some, None, slice_get, refl, sym, ap, ◌∙◌, subst, arith}
use Rattle.std.specs.List.{list_all}
use Rattle.std.proofs.lemmas.Bool.{false≢true, and_parts}
use Rattle.wp_base.specs.declared.kinds.CellKind.{CellKind}
use Rattle.wp_base.specs.declared.kinds.CellKind.TheVariants as cell
use Rattle.wp_base.specs.declared.kinds.Kind.{Kind}
use Rattle.wp_base.specs.Blocks.{count}
use Rattle.c_kinds.specs.Models.{holds}
use Rattle.typed_prog.specs.Tree as t
use Rattle.c_runs.specs.TruthStates.{Value, number, pointer, addresses, region}
use Rattle.c_runs.specs.Program.{Variable, Facts}
use Rattle.c_runs.specs.States.{Memory, World}
use Rattle.c_runs.specs.Scopes.{is_content}
use Rattle.c_runs.specs.Values.{Temps}
use Rattle.c_runs.specs.Checks.{Check, checks_of, all_checks, in_operand, later}
use Rattle.c_runs.specs.Tests.{total, totals, is_met}
use Rattle.c_runs.specs.CheckedRun.{is_met_in}
use Rattle.plain_states.specs.Slots.{State, temps_in, world_in}
use Rattle.plain_states.specs.Scopes.{is_integer, kind_of}
use Rattle.plain_states.proofs.Scoping.{none_some}
use Rattle.plain_states.proofs.Calling.{some_same}
use Rattle.plain_runs.specs.Fitting.{IsGood, Shape, sizes, Fit, IsOf, AreOf}
use Rattle.value_terms.specs.Typed.{kind_given, operand_kind, IsTyped, AreTyped}
use Rattle.value_terms.specs.Worlds as worlds
use Rattle.value_terms.specs.Worlds.{HoldsKinds}
use Rattle.value_terms.proofs.Staying.{values_are_of_kind}
use Rattle.plain_typing.specs.Laws.{scope_of, TypedGive}
use Rattle.plain_typing.proofs.Worlds.{holds_kinds}

-- a value of an integer kind is a number
number_is : (p : Facts) (s : Shape) (n : ℤ) (k : Kind) (v : Value) → is_content p n (cell.Of k) v ≡ true → IsOf p s k v
number_is p s n k (number z) h = (z, refl, h)
number_is p s n k (pointer b o) h = absurd (false≢true h)
number_is p s n k (addresses a) h = absurd (false≢true h)
number_is p s n k (region cells a) h = absurd (false≢true h)

pub typed_give : TypedGive
typed_give p s globals integers e typed k kind m good n vs st fit met =
    let w = world_in (sizes p s) m n vs st in
    let v = values_are_of_kind p s.variables (scope_of s) (temps_in (sizes p s) st) w (holds_kinds p s globals integers m good n vs st fit) e typed met in
    number_is p s (count m.blocks) k (total p s.variables (temps_in (sizes p s) st) w e) (subst (λ c. is_content p (count m.blocks) c (total p s.variables (temps_in (sizes p s) st) w e) ≡ true) kind v)
