-- Programs over plain integers have core programs over plain integers.
use Rattle.std.proofs.Common.{◌≡◌, ℕ, [], Option, Some, None, option_map, refl, subst}
use Rattle.c_runs.specs.Program.{Stmts, Function, Program}
use Rattle.c_runs.specs.Core.{Cores}
use Rattle.c_runs.specs.Normal.{normal, normal_function}
use Rattle.plain_states.proofs.Scoping.{none_some}
use Rattle.plain_states.proofs.Calling.{some_same}
use Rattle.plain_runs.specs.Fitting.{is_param}
use Rattle.plain_normal.specs.Plain.{IsPlainFunction, IsPlainProgram}
use Rattle.plain_normal.specs.Typed.{FunctionIsTyped}
use Rattle.plain_normal.specs.Laws.{PlainProgramsAreTyped, PlainProgramsFit}
use Rattle.plain_normal.proofs.Making.{Place}
use Rattle.plain_normal.proofs.Planned.{env_of, env_known}
use Rattle.plain_normal.proofs.Statements.{stmts_do}
use Rattle.plain_normal.proofs.Giving.{typed_programs_fit}

module _ (q : Program Stmts) (plain : IsPlainProgram q) where
  function_typed : (g : Function Stmts) → IsPlainFunction q g → FunctionIsTyped (normal q) (normal_function g)
  function_typed g h =
      let here : Place = record { facts = q.facts; globals = plain.globals; variables = g.variables; integers = h.integers; result = g.result; functions = q.functions } in
      let x = stmts_do here (is_param g.params) (is_param g.params) 0 g.body h.body (λ x e. e) [] 0 refl in
      record {
        temporaries = (env_of x.kinds).count;
        temp_kind = (env_of x.kinds).kind;
        integers = h.integers;
        params = h.params;
        body = x.so (env_of x.kinds) (env_known x.kinds) 0 0;
      }

  found_typed : (n : ℕ) (o : Option (Function Stmts)) → q.functions n ≡ o → (f : Function Cores) → option_map normal_function o ≡ Some f → FunctionIsTyped (normal q) f
  found_typed n None e f h = absurd (none_some f h)
  found_typed n (Some g) e f h = subst (FunctionIsTyped (normal q)) (some_same (normal_function g) f h) (function_typed g (plain.functions n g e))

pub plain_programs_are_typed : PlainProgramsAreTyped
plain_programs_are_typed q plain = record { globals = plain.globals; functions = λ n f h. found_typed q plain n (q.functions n) refl f h }

pub plain_programs_fit : PlainProgramsFit
plain_programs_fit q plain = typed_programs_fit (normal q) (plain_programs_are_typed q plain)
