-- Plain files have core programs over plain integers.
use Rattle.std.proofs.Common.{◌≡◌, ℕ, suc, ◌≤◌, ◌+◌, Bool, true, List, [], ◌∷◌, length, Some, refl, sym, ap, ◌∙◌, subst}
use Rattle.std.proofs.lemmas.Bool.{and_parts}
use Rattle.c_scopes.specs.declared.symbols.Object.{Object}
use Rattle.c_scopes.specs.declared.symbols.Structure.{Structure}
use Rattle.typed_unit.specs.Unit as u
use Rattle.c_programs.specs.Told.{Annotations}
use Rattle.c_runs.specs.Program.{Stmts, Function, Program}
use Rattle.c_programs.specs.Files.{variables_from, clauses_for, notes_of, values_of, function_with, program_of}
use Rattle.plain_runs.specs.Fitting.{is_param}
use Rattle.plain_normal.specs.Plain.{StmtsArePlain, IsPlainFunction}
use Rattle.plain_normal.proofs.Making.{Place}
use Rattle.plain_normal.proofs.Whole.{plain_programs_fit}
use Rattle.plain_test.specs.Plain.{are_plain_objects, is_plain_stmt, is_plain_body, is_plain_file}
use Rattle.plain_programs.specs.Standing.{stmts_stand}
use Rattle.plain_programs.specs.Files.{BodiesAreTyped, BodiesStand, PlainFilesArePlain, PlainFilesFit}
use Rattle.plain_programs.proofs.Variables.{plain_parts, globals_are_integers, is_found, written_is, variables_are_integers}
use Rattle.plain_programs.proofs.Bodies.{body_plain}

as_many : (ss : List Structure) (ps vs : List Bool) (n : ℕ) (os : List Object) → length (variables_from ss ps vs n os) ≡ length os
as_many ss ps vs n [] = refl
as_many ss ps vs n (o ∷ os) = ap suc (as_many ss ps vs (n + 1) os)

module _ (t : u.Typed) (a : Annotations) (plain : is_plain_file t ≡ true) (typed : BodiesAreTyped t a) (stand : BodiesStand (program_of t a)) where
  abbrev q : Program Stmts
  q = program_of t a

  function_is : (n : ℕ) (f : Function Stmts) → q.functions n ≡ Some f → IsPlainFunction q f
  unfolding program_of
  function_is n f e =
      let r = is_found t a n f e in
      let g = function_with t.file.structs r.signature (clauses_for n t.parts a.items) r.text in
      let own = typed n f r in
      let body = written_is (is_plain_body t.model) n t.bodies (notes_of t.parts a.items) r.text r.written (plain_parts t plain).bodies in
      let parts = and_parts (are_plain_objects r.text.body.plain 0 r.text.body.locals) (is_plain_stmt t.model r.text.body.stmt) body in
      let integers = variables_are_integers t a plain n f e in
      let count : length f.variables ≡ length r.text.body.locals =
      ap (λ (h : Function Stmts). length h.variables) r.same ∙ as_many t.file.structs r.text.body.plain (values_of (length r.signature.params) r.text.body) 0 r.text.body.locals in
      let params : f.params ≤ length f.variables = subst (λ k. f.params ≤ k) (sym count) (subst (λ k. k ≤ length r.text.body.locals) (sym (ap (λ (h : Function Stmts). h.params) r.same)) own.params) in
      let here : Place = record { facts = q.facts; globals = globals_are_integers t a plain; variables = f.variables; integers = integers; result = f.result; functions = q.functions } in
      let same_body = ap (λ (h : Function Stmts). h.body) r.same in
      record {
        integers = integers;
        params = params;
        body = subst (λ ss. StmtsArePlain q.facts f.variables q.functions f.result (is_param f.params) (is_param f.params) 0 ss) (sym same_body)
            (body_plain here own.typed (record { meets = own.meets; result = ap (λ (h : Function Stmts). h.result) r.same ∙ own.result }) parts.1 (is_param f.params) (is_param f.params) 0
            r.text.notes (length r.signature.params)
            (subst (λ ss. stmts_stand (length f.variables) (is_param f.params) (is_param f.params) 0 ss ≡ true) same_body (stand n f e)));
      }

pub plain_files_are_plain : PlainFilesArePlain
plain_files_are_plain t a plain typed stand = record { globals = globals_are_integers t a plain; functions = λ n f e. function_is t a plain typed stand n f e }

pub plain_files_fit : PlainFilesFit
plain_files_fit t a plain typed stand = plain_programs_fit (program_of t a) (plain_files_are_plain t a plain typed stand)
