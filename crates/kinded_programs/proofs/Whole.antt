-- Files whose bodies are typed and stand have core programs that fit.
use Rattle.std.proofs.Common.{◌≡◌, ℕ, true, length, Some, sym, ap, subst}
use Rattle.typed_unit.specs.Unit as u
use Rattle.c_programs.specs.Told.{Annotations}
use Rattle.c_runs.specs.Program.{Stmts, Function, Program}
use Rattle.c_programs.specs.Files.{program_of}
use Rattle.goal_segments.specs.Told.{is_param}
use Rattle.plain_programs.specs.Standing.{stmts_stand}
use Rattle.plain_programs.specs.Files.{BodiesStand}
use Rattle.plain_programs.proofs.Variables.{is_found}
use Rattle.typed_values.specs.Files.{has_blocks, has_kind}
use Rattle.typed_normal.specs.Spelled.{StmtsAreKinded, IsKindedFunction}
use Rattle.typed_normal.proofs.Whole.{kinded_programs_fit}
use Rattle.kinded_programs.specs.Standing.{StmtsStand}
use Rattle.kinded_programs.specs.Files.{shape_in, BodiesAreTyped, ValuesStand, KindedFilesAreKinded, KindedFilesFit}
use Rattle.kinded_programs.proofs.Bodies.{body_kinded}

module _ (t : u.Typed) (a : Annotations) (typed : BodiesAreTyped t a) (stand : BodiesStand (program_of t a)) (values : ValuesStand t a) where
  abbrev q : Program Stmts
  q = program_of t a

  function_is : (n : ℕ) (f : Function Stmts) → q.functions n ≡ Some f → IsKindedFunction q (has_blocks t) (has_kind t) f
  function_is n f e =
      let r = is_found t a n f e in
      let own = typed n f r in
      let same_body = ap (λ (h : Function Stmts). h.body) r.same in
      record {
        short = own.short;
        params = own.params;
        one_cell = own.one_cell;
        body = subst (λ ss. StmtsAreKinded q.facts (shape_in t f) q.functions (is_param f.params) (is_param f.params) 0 ss) (sym same_body)
            (body_kinded q.facts (shape_in t f) q.functions own.typed own.is_in (is_param f.params) (is_param f.params) 0 r.text.notes (length r.signature.params)
            (subst (λ ss. stmts_stand (length f.variables) (is_param f.params) (is_param f.params) 0 ss ≡ true) same_body (stand n f e))
            (subst (λ ss. StmtsStand q.facts (shape_in t f) (is_param f.params) ss) same_body (values n f e)));
      }

pub kinded_files_are_kinded : KindedFilesAreKinded
kinded_files_are_kinded t a typed stand values =
    record { has_blocks = has_blocks t; has_kind = has_kind t; functions = λ n f e. function_is t a typed stand values n f e }

pub kinded_files_fit : KindedFilesFit
kinded_files_fit t a typed stand values = kinded_programs_fit (program_of t a) (kinded_files_are_kinded t a typed stand values)
