-- What a check asks for, as a number and a line, and how a run stops that fails there.
use Rattle.std.specs.Prelude.{◌≡◌, ℕ, ◌==◌, if◌then◌else◌}
use Rattle.c_runs.specs.Operators as undefined_of
use Rattle.c_runs.specs.Operators.{Undefined}
use Rattle.c_runs.specs.Claims as broken
use Rattle.c_runs.specs.Claims.{Broken, Stop, spent, undefined, failed}
use Rattle.walk_steps.specs.Forms.{Place}

abbrev pub undefined_number : Undefined → ℕ
undefined_number undefined_of.init = 0
undefined_number undefined_of.overflow = 1
undefined_number undefined_of.divzero = 2
undefined_number undefined_of.shift = 3
undefined_number undefined_of.access = 4
undefined_number undefined_of.index = 5
undefined_number undefined_of.pointing = 6
undefined_number undefined_of.comparing = 7
undefined_number undefined_of.noreturn = 8

abbrev pub broken_number : Broken → ℕ
broken_number broken.requires = 9
broken_number broken.decreases = 10
broken_number broken.complete = 11
broken_number broken.disjoint = 12
broken_number broken.assert = 13
broken_number broken.invariant = 14
broken_number broken.variant_positive = 15
broken_number broken.variant_less = 16
broken_number broken.assigns = 17
broken_number broken.ensures = 18

-- an invariant at the end of a pass has a number of its own
abbrev pub kept_number : ℕ
kept_number = 19

abbrev pub broken_at : ℕ → ℕ
broken_at n = if n == kept_number then broken_number broken.invariant else n

abbrev pub undefined_place : Undefined → (line : ℕ) → Place
undefined_place u l = record { kind = undefined_number u; line = l }

abbrev pub broken_place : Broken → (line : ℕ) → Place
broken_place b l = record { kind = broken_number b; line = l }

abbrev pub kept_place : (line : ℕ) → Place
kept_place l = record { kind = kept_number; line = l }

-- the run stops so where the check of this place is false
abbrev pub IsStop : Stop → Place → Type 0
IsStop (spent w) p = ⊥
IsStop (undefined u l) p = (p.kind ≡ undefined_number u) × (p.line ≡ l)
IsStop (failed b l) p = (broken_at p.kind ≡ broken_number b) × (p.line ≡ l)
