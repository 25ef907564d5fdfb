-- All parts together are the bases of all places.
use Rattle.std.proofs.Common.{◌≡◌, ℕ, zero, suc, Bool, List, [], ◌∷◌, ◌++◌, map, length, refl, ap, sym, ◌∙◌, append_assoc}
use Rattle.std.specs.Prelude.{Option}
use Rattle.std.proofs.lemmas.List.{length-map, map-append}
use Rattle.wp_base.specs.declared.kinds.CellKind.{CellKind}
use Rattle.typed_prog.specs.declared.operators.Variable.TheVariants as variables
use Rattle.core_trees.specs.declared.variables.FunctionVariable.{FunctionVariable}
use Rattle.core_trees.specs.View.{view_variable, view_variables}
use Rattle.memory_steps.specs.State.{Base}
use Rattle.memory_words.specs.Places.{Place, result, result_offset, answer, answer_offset, variable_places, temporary_places, memory_places, places}
use Rattle.memory_words.specs.Shapes.{FileCells}
use Rattle.slot_names.specs.Bases.{Name}
use Rattle.memory_names.specs.Names.{base_of, slot_bases, shape_with}
use Rattle.memory_names.specs.Parts.{from_on, global_part, local_part, temporary_part, memories, behind_part}

module _ (file own : List Name) (params : ℕ) (globals locals : List FunctionVariable) (ks : List CellKind) (r : Option CellKind) (points : Bool) (cells : FileCells) where
  abbrev one : Place → Base
  one = base_of file own params (view_variables globals) (shape_with ks (view_variables locals) r) points cells

  of_globals : (n k : ℕ) → map one (variable_places variables.Global n k) ≡ from_on (global_part file (view_variables globals)) n k
  of_globals n zero = refl
  of_globals n (suc k) = ap (λ bs. global_part file (view_variables globals) n ++ bs) (of_globals (suc n) k)

  of_locals : (n k : ℕ) → map one (variable_places variables.Local n k) ≡ from_on (local_part file own params (view_variables locals)) n k
  of_locals n zero = refl
  of_locals n (suc k) = ap (λ bs. local_part file own params (view_variables locals) n ++ bs) (of_locals (suc n) k)

  of_temporaries : (n k : ℕ) → map one (temporary_places n k) ≡ from_on (temporary_part ks) n k
  of_temporaries n zero = refl
  of_temporaries n (suc k) = ap (λ bs. temporary_part ks n ++ bs) (of_temporaries (suc n) k)

  of_behind : map one (result ∷ result_offset ∷ answer ∷ answer_offset ∷ (temporary_places 0 (length ks) ++ memory_places)) ≡ behind_part r points ks cells.has_kind
  of_behind =
      ap (λ bs. one result ∷ one result_offset ∷ one answer ∷ one answer_offset ∷ bs)
      (map-append one (temporary_places 0 (length ks)) memory_places ∙ ap (λ bs. bs ++ memories cells.has_kind) (of_temporaries 0 (length ks)))

  -- the three parts
  abbrev first_part : List Base
  first_part = from_on (global_part file (view_variables globals)) 0 (length globals)

  abbrev second_part : List Base
  second_part = from_on (local_part file own params (view_variables locals)) 0 (length locals)

  abbrev third_places : List Place
  third_places = result ∷ result_offset ∷ answer ∷ answer_offset ∷ (temporary_places 0 (length ks) ++ memory_places)

  abbrev second_places : List Place
  second_places = variable_places variables.Local 0 (length (view_variables locals))

  abbrev whole_list : List Base
  whole_list = slot_bases file own params (view_variables globals) (shape_with ks (view_variables locals) r) points cells

  all : whole_list ≡ first_part ++ (second_part ++ behind_part r points ks cells.has_kind)
  unfolding places
  all =
      map-append one (variable_places variables.Global 0 (length (view_variables globals))) (second_places ++ third_places)
      ∙ (λ i. of_globals 0 (length-map globals view_variable i) i ++ map one (second_places ++ third_places))
      ∙ ap (λ bs. first_part ++ bs)
      (map-append one second_places third_places ∙ (λ i. of_locals 0 (length-map locals view_variable i) i ++ of_behind i))

  pub whole : (has : CellKind → Bool) (first second third : List Base) → first ≡ [] ++ first_part → second ≡ first ++ second_part
      → third ≡ second ++ behind_part r points ks has → ((k : CellKind) → has k ≡ cells.has_kind k) → third ≡ whole_list
  whole has first second third e f g h =
      g ∙ ap (λ bs. bs ++ behind_part r points ks has) (f ∙ ap (λ bs. bs ++ second_part) e) ∙ append_assoc first_part second_part (behind_part r points ks has)
      ∙ (λ i. first_part ++ (second_part ++ behind_part r points ks (λ k. h k i))) ∙ sym all
