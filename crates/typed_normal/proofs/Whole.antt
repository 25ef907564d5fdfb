-- Spelled programs whose expressions have the kinds that are wanted have typed core programs.
use Rattle.std.proofs.Common.{◌≡◌, ℕ, [], Option, Some, None, option_map, refl, subst}
use Rattle.c_runs.specs.Program.{Stmts, Function, Program}
use Rattle.c_runs.specs.Core.{Cores}
use Rattle.c_runs.specs.Normal.{normal, normal_function}
use Rattle.plain_states.proofs.Scoping.{none_some}
use Rattle.plain_states.proofs.Calling.{some_same}
use Rattle.goal_segments.specs.Told.{is_param}
use Rattle.typed_normal.specs.Spelled.{spelled_shape, IsKindedFunction, IsKindedProgram}
use Rattle.typed_normal.specs.Typed.{FunctionIsTyped}
use Rattle.typed_normal.specs.Laws.{KindedProgramsAreTyped, KindedProgramsFit}
use Rattle.typed_normal.proofs.Giving.{typed_programs_fit}
use Rattle.typed_normal.proofs.OrderedStatements.{temporaries_are_set_first}
use Rattle.typed_normal.proofs.Making.{Place}
use Rattle.typed_normal.proofs.Planned.{env_of, env_known}
use Rattle.typed_normal.proofs.Statements.{stmts_do}

module _ (q : Program Stmts) (kinded : IsKindedProgram q) where
  function_typed : (g : Function Stmts) → IsKindedFunction q kinded.has_blocks kinded.has_kind g → FunctionIsTyped (normal q) kinded.has_blocks kinded.has_kind (normal_function g)
  function_typed g h =
      let here : Place = record { facts = q.facts; bare = spelled_shape kinded.has_blocks kinded.has_kind g; functions = q.functions } in
      let x = stmts_do here (is_param g.params) (is_param g.params) 0 g.body h.body (λ x e. e) [] 0 refl in
      record {
        temporaries = (env_of x.kinds).count;
        temp_kind = (env_of x.kinds).kind;
        short = h.short;
        params = h.params;
        one_cell = h.one_cell;
        body = x.so (env_of x.kinds) (env_known x.kinds) 0 0;
      }

  found_typed : (n : ℕ) (o : Option (Function Stmts)) → q.functions n ≡ o → (f : Function Cores) → option_map normal_function o ≡ Some f
      → FunctionIsTyped (normal q) kinded.has_blocks kinded.has_kind f
  found_typed n None e f h = absurd (none_some f h)
  found_typed n (Some g) e f h =
      subst (FunctionIsTyped (normal q) kinded.has_blocks kinded.has_kind) (some_same (normal_function g) f h) (function_typed g (kinded.functions n g e))

pub kinded_programs_are_typed : KindedProgramsAreTyped
kinded_programs_are_typed q kinded = record {
  has_blocks = kinded.has_blocks;
  has_kind = kinded.has_kind;
  functions = λ n f h. found_typed q kinded n (q.functions n) refl f h;
}

pub kinded_programs_fit : KindedProgramsFit
kinded_programs_fit q kinded = typed_programs_fit (normal q) (kinded_programs_are_typed q kinded) (temporaries_are_set_first q)
