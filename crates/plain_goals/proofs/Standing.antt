-- Statements of plain texts have words.
use Rattle.std.proofs.Common.{◌≡◌, ℕ, zero, suc, Bool, true, false, ◌||◌, if◌then◌else◌, List, [], ◌∷◌, Option, Some, None, is_some, slice_get, sym, ap, ◌∙◌, subst}
use Rattle.std.specs.List.{list_all}
use Rattle.std.proofs.lemmas.Bool.{false≢true, and_parts}
use Rattle.wp_base.specs.declared.kinds.Kind.{Kind}
use Rattle.typed_prog.specs.declared.types.CoreType.{CoreType}
use Rattle.typed_prog.specs.Types.{kind_of, is_void}
use Rattle.typed_unit.specs.Unit as u
use Rattle.acsl_typing.specs.Annotations.{Annotations}
use Rattle.c_runs.specs.Program.{Stmts, Function}
use Rattle.c_runs.specs.Objects.{cell_by}
use Rattle.plain_files.specs.Told.{result_of, program_of}
use Rattle.plain_states.proofs.Scoping.{none_some}
use Rattle.plain_states.proofs.Calling.{some_same}
use Rattle.plain_test.specs.Plain.{is_value_type, is_plain_result, is_plain_file}
use Rattle.plain_words.specs.Results.{ResultIsNumber}
use Rattle.plain_goals.specs.Laws.{PlainTextsStand}
use Rattle.plain_files.proofs.Told.{plain_parts, is_found}
use Rattle.plain_files.proofs.Whole.{plain_texts_are_plain, bodies_of_texts_jump}
use Rattle.plain_words.proofs.Whole.{plain_programs_stand}

listed : {X : Type 0} (so : X → Bool) (xs : List X) (n : ℕ) (x : X) → list_all so xs ≡ true → slice_get xs n ≡ Some x → so x ≡ true
listed so [] n x h e = absurd (none_some x e)
listed so (y ∷ xs) zero x h e = ap so (sym (some_same y x e)) ∙ (and_parts (so y) (list_all so xs) h).0
listed so (y ∷ xs) (suc n) x h e = listed so xs n x (and_parts (so y) (list_all so xs) h).1 e

number_by : (o : Option Kind) (v : Bool) → (is_some o || v) ≡ true → ResultIsNumber (if v then None else Some (cell_by o))
number_by o true h = tt
number_by (Some k) false h = tt
number_by None false h = absurd (false≢true h)

number : (type : CoreType) → is_value_type type ≡ true → ResultIsNumber (result_of type)
number type h = number_by (kind_of type) (is_void type) h

results_are : (t : u.Typed) (a : Annotations) → is_plain_file t ≡ true → (n : ℕ) (f : Function Stmts) → (program_of t a).functions n ≡ Some f → ResultIsNumber f.result
results_are t a plain n f e =
    let x = is_found t a n f e in
    subst (λ (g : Function Stmts). ResultIsNumber g.result) (sym x.same)
    (number x.signature.result (listed is_plain_result t.file.functions n x.signature (plain_parts t plain).results x.declared))

pub plain_texts_stand : PlainTextsStand
plain_texts_stand m ts p t a is sets =
    let x = plain_programs_stand (program_of t a) (plain_texts_are_plain m ts p t a is)
    (λ n f e. record { jumps = bodies_of_texts_jump m ts p t a is n f e; sets = sets n f e; result = results_are t a is.plain n f e }) in
    (x.kinds, x.functions)
