-- Names are those with which functions are worked by hand.
use Rattle.std.proofs.Common.{◌≡◌, ℕ, suc, Bool, true, false, List, length, codes, refl, ap, sym, ◌∙◌}
use Rattle.std.specs.Prelude.{slice_get}
use Rattle.wp_base.specs.declared.kinds.Kind.{Kind}
use Rattle.wp_base.specs.declared.kinds.Kind.TheVariants as kind
use Rattle.typed_prog.specs.declared.operators.Variable.TheVariants as variables
use Rattle.c_runs.specs.Program.{Variable}
use Rattle.memory_words.specs.Places.{Place, value, offset, flag, result, result_offset, answer, answer_offset, temporary, temporary_offset, numbers, blocks, offsets, IsIn}
use Rattle.memory_words.specs.Shapes.{Shape, is_pointer_cell}
use Rattle.memory_functions.specs.Starting.{is_pointer_in}
use Rattle.memory_functions.specs.Shown as shown
use Rattle.memory_functions.specs.Shown.{Spelled, name_at}
use Rattle.slot_names.specs.Bases.{Name, temporary_name}
use Rattle.memory_names.specs.Names.{first_name, memory_name, is_pointer_result, variable_name, name_of, sizes_of}
use Rattle.memory_names.specs.Laws.{AreSpelled, NamesAreShown}

abbrev spelled : Bool → Name → Spelled
spelled b x = record { name = x; is_pointer = b }

first_same : (b : Bool) (x : Name) (n : Spelled) → n ≡ spelled b x → first_name b x ≡ shown.first_name n
first_same b x n e = by b ∙ ap shown.first_name (sym e)
  where
    by : (b : Bool) → first_name b x ≡ shown.first_name (spelled b x)
    by true = refl
    by false = refl

memory_same : (k : Kind) → memory_name k ≡ shown.memory_name k
memory_same kind.Bool = refl
memory_same kind.Char = refl
memory_same kind.SChar = refl
memory_same kind.UChar = refl
memory_same kind.Short = refl
memory_same kind.UShort = refl
memory_same kind.Int = refl
memory_same kind.UInt = refl
memory_same kind.Long = refl
memory_same kind.ULong = refl
memory_same kind.LLong = refl
memory_same kind.ULLong = refl

module _ (file own : List Name) (params : ℕ) (globals : List Variable) (s : Shape) (points : Bool) (gs ns ts : List Spelled)
    (file_so : AreSpelled gs (length globals) (λ x. is_pointer_in (slice_get globals x)) (λ x. variable_name file own params (variables.Global x)))
    (own_so : AreSpelled ns (length s.variables) (λ x. is_pointer_in (slice_get s.variables x)) (λ x. variable_name file own params (variables.Local x)))
    (temporaries_so : AreSpelled ts s.temporaries (λ x. is_pointer_cell (s.temp_kind x)) (λ x. temporary_name (suc x))) where
  abbrev Same : Place → Type 0
  Same a =
      name_of file own params globals s points a ≡ name_at gs ns ts (spelled (is_pointer_result s.result) (codes "\\result")) (spelled points (codes "%")) a

  pub same : (a : Place) → IsIn (sizes_of file own params globals s points) a → Same a
  same (value (variables.Global x)) l = first_same _ _ _ (file_so x l)
  same (value (variables.Local x)) l = first_same _ _ _ (own_so x l)
  same (offset (variables.Global x)) l = ap shown.second_name (sym (file_so x l))
  same (offset (variables.Local x)) l = ap shown.second_name (sym (own_so x l))
  same (flag (variables.Global x)) l = ap shown.flag_name (sym (file_so x l))
  same (flag (variables.Local x)) l = ap shown.flag_name (sym (own_so x l))
  same result l = first_same (is_pointer_result s.result) (codes "\\result") _ refl
  same result_offset l = refl
  same answer l = first_same points (codes "%") _ refl
  same answer_offset l = refl
  same (temporary n) l = first_same _ _ _ (temporaries_so n l)
  same (temporary_offset n) l = ap shown.second_name (sym (temporaries_so n l))
  same (numbers k) l = memory_same k
  same blocks l = refl
  same offsets l = refl

pub names_are_shown : NamesAreShown
names_are_shown file own params globals s points gs ns ts f o t a l = same file own params globals s points gs ns ts f o t a l
