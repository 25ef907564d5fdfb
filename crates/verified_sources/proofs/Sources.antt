-- A source is verified exactly where what is made of it passes the tests.
use Rattle.std.proofs.Common.{◌≡◌, Bool, ◌&&◌, List, [], ◌∷◌, refl, ap}
use Rattle.std.specs.Prelude.{Option, Some, None}
use Rattle.std.specs.List.{list_all}
use Rattle.c_runs.specs.Program.{Stmts, Function}
use Rattle.c_programs.specs.Files.{program_of}
use Rattle.plain_test.specs.Plain.{is_plain_file}
use Rattle.binder_names.specs.Tables.{is_named_table}
use Rattle.logic_sources.specs.Told.{Source, facts_in, table_in, loops_fit, sets_fit}
use Rattle.verified_sources.specs.Tests.{loops_stand, body_stands}
use Rattle.logic_order.specs.Order.{is_in_order}
use Rattle.logic_sources.specs.Built.{spelled_in, body_fits, is_verified}
use Rattle.verified_sources.specs.Laws.{TestsAreOfSources}

all_same : {X : Type 0} (f g : X → Bool) → ((x : X) → f x ≡ g x) → (xs : List X) → list_all f xs ≡ list_all g xs
all_same f g same [] = refl
all_same f g same (x ∷ xs) = λ i. same x i && all_same f g same xs i

stands_same : (s : Source) (o : Option (Function Stmts)) → loops_fit s o ≡ loops_stand o
stands_same s None = refl
stands_same s (Some f) = refl

pub tests_are_of_sources : TestsAreOfSources
unfolding is_verified
tests_are_of_sources s =
    ap (λ (sets : Bool). is_plain_file s.typed
    && (is_in_order (facts_in s) (spelled_in s) && (is_named_table (table_in s) && (sets && list_all (body_fits s) s.typed.bodies))))
    (all_same (sets_fit s) (body_stands (program_of s.typed s.annots).functions) (λ b. stands_same s ((program_of s.typed s.annots).functions b.function)) s.typed.bodies)
