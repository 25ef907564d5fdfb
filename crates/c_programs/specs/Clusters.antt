-- Functions that call each other (C11 6.5.2.2, ACSL 2.5): each reaches the other by calls in bodies.
use Rattle.std.specs.Prelude.{ℕ, zero, suc, Bool, false, ◌&&◌, ◌||◌, List, [], ◌∷◌, Option, Some, None, length}
use Rattle.c_runs.specs.Program.{Stmts, Function}
use Rattle.c_runs.specs.Reach.{stmts_call}

abbrev pub at : {X : Type 0} → List (Option X) → ℕ → Option X
at [] n = None
at (x ∷ xs) zero = x
at (x ∷ xs) (suc n) = at xs n

-- a call of the other function stands in the body of the one
abbrev pub body_calls : Option (Function Stmts) → (callee : ℕ) → Bool
body_calls None g = false
body_calls (Some f) g = stmts_call g f.body

abbrev pub calls_directly : List (Option (Function Stmts)) → (caller callee : ℕ) → Bool
calls_directly fs f g = body_calls (at fs f) g

-- By calls, the first of which this is given for; all functions between have lower numbers than this.
abbrev pub reaches_through : (direct : (caller callee : ℕ) → Bool) → ℕ → (caller callee : ℕ) → Bool
reaches_through d zero f g = d f g
reaches_through d (suc n) f g = reaches_through d n f g || (reaches_through d n f n && reaches_through d n n g)

abbrev pub reaches : List (Option (Function Stmts)) → (caller callee : ℕ) → Bool
reaches fs f g = reaches_through (calls_directly fs) (length fs) f g

abbrev pub call_each_other : List (Option (Function Stmts)) → (caller callee : ℕ) → Bool
call_each_other fs f g = reaches fs f g && reaches fs g f
