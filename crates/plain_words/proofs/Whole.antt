-- Programs over plain integers stand.
use Rattle.std.proofs.Common.{◌≡◌, ℕ, false, [], Option, Some, None, option_map, refl, subst, arith}
use Rattle.std.proofs.lemmas.Bool.{false≢true}
use Rattle.wp_base.specs.declared.kinds.Kind.{Kind}
use Rattle.wp_base.specs.declared.kinds.Kind.TheVariants as kind
use Rattle.c_runs.specs.Program.{Stmts, Function, Program}
use Rattle.c_runs.specs.Core.{Cores}
use Rattle.c_runs.specs.Tree.{Steps}
use Rattle.c_runs.specs.Adding.{steps_of, function_of, add_checks}
use Rattle.c_runs.specs.Normal.{stmts, normal_function, normal}
use Rattle.plain_states.proofs.Scoping.{none_some}
use Rattle.plain_states.proofs.Calling.{some_same}
use Rattle.plain_runs.specs.Fitting.{shape_of, is_param}
use Rattle.loop_words.specs.Told.{no_temporaries}
use Rattle.plain_normal.specs.Plain.{IsPlainFunction, IsPlainProgram}
use Rattle.plain_normal.proofs.Making.{Place, Env, Known}
use Rattle.plain_normal.proofs.Planned.{env_of, env_known}
use Rattle.plain_normal.proofs.Statements.{stmts_do}
use Rattle.plain_words.specs.Temporaries.{temporaries_in}
use Rattle.plain_words.specs.Standing.{AllStand}
use Rattle.plain_words.specs.Results.{ResultIsNumber}
use Rattle.plain_words.specs.Laws.{ProgramStands, IsInOrder, PlainProgramsStand}
use Rattle.plain_words.proofs.Statements.{stmts_well}
use Rattle.plain_words.proofs.Standing.{cores_stand}

module _ (q : Program Stmts) (plain : IsPlainProgram q) (each : (n : ℕ) (f : Function Stmts) → q.functions n ≡ Some f → IsInOrder f) where
  -- results of functions of the core program
  numbers : (n : ℕ) (g : Function Cores) → (normal q).functions n ≡ Some g → ResultIsNumber g.result
  numbers n g e = by (q.functions n) refl e where
    by : (o : Option (Function Stmts)) → q.functions n ≡ o → option_map normal_function o ≡ Some g → ResultIsNumber g.result
    by None same e = absurd (none_some g e)
    by (Some f) same e = subst (λ (h : Function Cores). ResultIsNumber h.result) (some_same (normal_function f) g e) (each n f same).result

  abbrev checked : Function Stmts → Function Steps
  checked f = function_of (normal_function f)

  -- a function, with kinds for its temporaries
  pub record FunctionStands (f : Function Steps) : Type 0 where
    pub kinds : ℕ → Kind
    pub body : AllStand q.facts (shape_of f (temporaries_in f.body) kinds) (add_checks (normal q)).functions (is_param f.params) [] no_temporaries f.body

  function_stands : (f : Function Stmts) → IsPlainFunction q f → IsInOrder f → FunctionStands (checked f)
  function_stands f h order =
      let here : Place = record { facts = q.facts; globals = plain.globals; variables = f.variables; integers = h.integers; result = f.result; functions = q.functions } in
      let x = stmts_do here (is_param f.params) (is_param f.params) 0 f.body h.body (λ x e. e) [] 0 refl in
      let cs = (stmts f.variables 0 0 0 f.body).did in
      let well = stmts_well q.facts f.variables q.functions f.result (is_param f.params) (is_param f.params) (is_param f.params) 0 false false f.body h.body order.sets order.jumps 0 in
      let count = temporaries_in (steps_of f.variables cs) in
      let env : Env = record { count = count; kind = (env_of x.kinds).kind } in
      let known : Known x.kinds env = λ n k e.
      let first = env_known x.kinds n k e in
      let all = well.reaches 0 0 count (omega (arith)) (omega (arith)) in
      let same = x.count 0 0 in
      (omega (arith, first.0, all, same), first.1) in
      let fine = well.fine 0 0 [] no_temporaries (λ k n e. e) (λ n e. e) (λ e. absurd (false≢true e)) (λ e. absurd (false≢true e)) in
      record {
        kinds = (env_of x.kinds).kind;
        body = cores_stand q.facts (record { variables = f.variables; temporaries = count; temp_kind = (env_of x.kinds).kind; result = f.result }) (normal q).functions h.integers numbers
            (is_param f.params) 0 [] no_temporaries cs (x.so env known 0 0) fine.stays;
      }

  kinds_of : (n : ℕ) (o : Option (Function Stmts)) → q.functions n ≡ o → ℕ → Kind
  kinds_of n None same = λ i. kind.Int
  kinds_of n (Some g) same = (function_stands g (plain.functions n g same) (each n g same)).kinds

  body_of : (n : ℕ) (o : Option (Function Stmts)) (same : q.functions n ≡ o) (f : Function Steps) → option_map function_of (option_map normal_function o) ≡ Some f
      → AllStand q.facts (shape_of f (temporaries_in f.body) (kinds_of n o same)) (add_checks (normal q)).functions (is_param f.params) [] no_temporaries f.body
  unfolding kinds_of
  body_of n None same f e = absurd (none_some f e)
  body_of n (Some g) same f e =
      subst (λ h. AllStand q.facts (shape_of h (temporaries_in h.body) (kinds_of n (Some g) same)) (add_checks (normal q)).functions (is_param h.params) [] no_temporaries h.body)
      (some_same (checked g) f e) (function_stands g (plain.functions n g same) (each n g same)).body

  pub program_stands : ProgramStands (add_checks (normal q))
  program_stands = record { kinds = λ n. kinds_of n (q.functions n) refl; functions = λ n f e. body_of n (q.functions n) refl f e }

pub plain_programs_stand : PlainProgramsStand
plain_programs_stand q plain each = program_stands q plain each
