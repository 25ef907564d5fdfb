-- What may be named, as it is counted.
use Rattle.std.proofs.Common.{◌≡◌, ℕ, zero, suc, Bool, true, false, ◌&&◌, if◌then◌else◌, List, [], ◌∷◌, map, length, refl, sym, ap, ◌∙◌, arith}
use Rattle.std.specs.Prelude.{Option, Some, None, nat_lt, slice_get, slice_index_or}
use Rattle.std.specs.Option.{is_some}
use Rattle.std.specs.List.{list_all}
use Rattle.std.proofs.lemmas.Bool.Decides.{nat_tests}
use Rattle.typed_prog.specs.declared.operators.Variable.{Variable}
use Rattle.typed_prog.specs.declared.operators.Variable.TheVariants as variables
use Rattle.c_runs.specs.Program as program
use Rattle.c_runs.specs.Program.{Facts}
use Rattle.core_trees.specs.declared.variables.FunctionVariable.{FunctionVariable}
use Rattle.core_trees.specs.View.{view_variables}
use Rattle.program_trees.specs.declared.files.Facts.{Facts as FileFacts}
use Rattle.program_trees.specs.View.{view_facts}
use Rattle.plain_annotations.specs.Places.{is_one, is_known, takes_integers, params_of, place_over}
use Rattle.plain_trees.specs.declared.nodes.Place.{Place}
use Rattle.plain_trees.specs.View.{is_below, view_place}
use Rattle.plain_trees.specs.Taking.{some_names, called_taking, taking}

-- ---- variables

none_below : (n : ℕ) → nat_lt n 0 ≡ false
none_below n = grind (arith, nat_tests)

first_below : (k : ℕ) → nat_lt 0 (suc k) ≡ true
first_below k = grind (arith, nat_tests)

one_less : (n k : ℕ) → nat_lt (suc n) (suc k) ≡ nat_lt n k
one_less n k = grind (arith, nat_tests)

below_is : {X Y : Type 0} (f : X → Y) (xs : List X) (n : ℕ) → nat_lt n (length xs) ≡ is_some (slice_get (map f xs) n)
below_is f [] n = none_below n
below_is f (x ∷ xs) zero = first_below (length xs)
below_is f (x ∷ xs) (suc n) = one_less n (length xs) ∙ below_is f xs n

known_is : (p : FileFacts) (own : List FunctionVariable) (x : Variable) → is_below (length p.globals) (length own) x ≡ is_known (view_facts p) (view_variables own) x
known_is p own (variables.Global x) = below_is _ p.globals x
known_is p own (variables.Local x) = below_is _ own x

-- ---- logic functions

are_ones : (n : ℕ) → list_all is_one (some_names n) ≡ true
are_ones zero = refl
are_ones (suc n) = are_ones n

as_many : (n : ℕ) → length (some_names n) ≡ n
as_many zero = refl
as_many (suc n) = ap suc (as_many n)

pub params_are : (p : Facts) (o : Option ℕ) → o ≡ params_of p (called_taking o)
params_are p None = refl
params_are p (Some n) =
    sym (ap (λ b. if b && true then Some (length (some_names n)) else None) (are_ones n) ∙ ap Some (as_many n))

pub place_is : (p : FileFacts) (own : List FunctionVariable) (r : Bool) (takes : List (Option ℕ))
    → view_place (record { globals = length p.globals; own = length own; has_result = r }) takes ≡ place_over (view_facts p) (taking takes) (view_variables own) r
place_is p own r takes = λ i. record {
  variables = λ x. known_is p own x i;
  has_result = r;
  params = λ f. params_are (view_facts p) (slice_index_or takes f None) i;
}
