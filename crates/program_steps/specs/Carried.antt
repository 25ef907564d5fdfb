-- What a run carries along, as words know it: which function runs, its measure, and the set in force.
use Rattle.std.specs.Prelude.{◌≡◌, ℕ, ℤ, negsuc, List, [], ◌∷◌, Some, slice_get}
use Rattle.typed_prog.specs.declared.operators.Variable.TheVariants as variables
use Rattle.c_runs.specs.TruthAllowed.{is_named}
use Rattle.c_runs.specs.Program.{Variable, Contract, Facts}
use Rattle.c_runs.specs.States.{Here, Granted}
use Rattle.c_runs.specs.Claims.{in_state, measure_of, granted_in, parts_of}
use Rattle.program_steps.specs.Terms.{has_variable}
use Rattle.program_steps.specs.Words.{Force, of_function, of_loop, Point}

module _ (p : Facts) (contract : Contract) (here : Here) where
  -- the function's clauses that count, or that of a loop
  abbrev pub GrantedBy : Force → Type 0
  GrantedBy of_function = (n : ℤ) × (here.granted ≡ granted_in p (in_state p here.entry) n (parts_of contract))
  GrantedBy (of_loop rs d) =
      (g : Granted) × (here.granted ≡ g ∷ [])
      × ((x : ℕ) (v : Variable) → slice_get p.globals x ≡ Some v → is_named g.regions (negsuc x) ≡ has_variable rs (variables.Global x))

  -- in the function with this number
  pub record Carried (self : ℕ) (pt : Point) : Type 0 where
    pub function : here.function ≡ self
    pub measure : here.measure ≡ measure_of p (in_state p here.entry) contract.decreases
    pub granted : GrantedBy pt.force
