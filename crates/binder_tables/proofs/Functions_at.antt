-- Functions by their numbers.
use Rattle.std.proofs.Common.{◌≡◌, ◌<◌, ◌≤◌, ℕ, zero, suc, List, [], ◌∷◌, map, length, get_or, refl, sym, ap, ◌∙◌, arith}
use Rattle.std.specs.Prelude.{Option, None}
use Rattle.std.specs.Option.{option_map}
use Rattle.c_runs.specs.Program.{Function, Stmts}
use Rattle.program_trees.specs.Files.{at}
use Rattle.program_trees.specs.declared.files.Function.{Function as Code}
use Rattle.program_trees.specs.View.{view_function}

pub at_here : (fs : List (Option Code)) (n : ℕ) (x : Option Code) (r : Option (Function Stmts)) → n < length fs → x ≡ get_or fs n x → r ≡ option_map view_function x
    → r ≡ at (map (option_map view_function) fs) n
at_here [] n x r lt is made = absurd (omega (arith, lt))
at_here (f ∷ fs) zero x r lt is made = made ∙ ap (option_map view_function) is
at_here (f ∷ fs) (suc n) x r lt is made = at_here fs n x r (omega (arith, lt)) is made

pub at_past : (fs : List (Option Code)) (n : ℕ) → length fs ≤ n → None ≡ at (map (option_map view_function) fs) n
at_past [] n past = refl
at_past (f ∷ fs) zero past = absurd (omega (arith, past))
at_past (f ∷ fs) (suc n) past = at_past fs n (omega (arith, past))

pub ruleset at_laws = (at_here, at_past)
