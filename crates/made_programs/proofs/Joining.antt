-- Programs, part by part.
use Rattle.std.proofs.Common.{◌≡◌, ℕ, zero, suc, Bool, List, [], ◌∷◌, map, Option, refl, ap, ◌∙◌}
use Rattle.std.specs.Option.{is_some, option_map}
use Rattle.wp_base.specs.declared.kinds.CellKind.{CellKind}
use Rattle.typed_unit.specs.Unit as u
use Rattle.acsl_expand.specs.declared.expansion.Meant.{Meant}
use Rattle.acsl_expand.specs.Expansion.{view_all}
use Rattle.acsl_typing.specs.Annotations.{Annotations}
use Rattle.acsl_annotated.specs.Annotated.{meant_from}
use Rattle.core_trees.specs.declared.variables.FunctionVariable.{FunctionVariable}
use Rattle.core_trees.specs.View.{view_variables}
use Rattle.program_trees.specs.declared.files.Function.{Function as CodeFunction}
use Rattle.program_trees.specs.declared.files.Facts.{Facts}
use Rattle.program_trees.specs.Files as files
use Rattle.program_trees.specs.Files.{in_cluster_of}
use Rattle.program_trees.specs.View.{view_function, view_facts, view_program}
use Rattle.c_programs.specs.Clusters.{at, call_each_other}
use Rattle.c_programs.specs.Files.{variables_from, cells_in, functions_of, facts_of, program_of}

pub facts_are : (t : u.Typed) (a : Annotations) (fs : List (Option CodeFunction)) (vs : List Bool) (gs : List FunctionVariable) (ks : List (List CellKind)) (ms : List Meant) (cs : List (Option ℕ))
    → vs ≡ map is_some t.inits → view_variables gs ≡ variables_from t.file.structs t.plain vs 0 t.file.globals → ks ≡ map cells_in t.file.structs → view_all ms ≡ meant_from a.definitions.items 0 a.items
    → map (option_map view_function) fs ≡ functions_of t a → ((f g : ℕ) → in_cluster_of cs f g ≡ call_each_other (map (option_map view_function) fs) f g)
    → view_facts (record { model = t.model; globals = gs; structs = ks; definitions = ms; clusters = cs }) ≡ facts_of t a
facts_are t a fs vs gs ks ms cs values globals structs definitions functions clusters =
    λ i. record {
      model = t.model;
      globals = (globals ∙ ap (λ us. variables_from t.file.structs t.plain us 0 t.file.globals) values) i;
      structs = structs i;
      definitions = definitions i;
      in_cluster = λ f g. (clusters f g ∙ ap (λ us. call_each_other us f g) functions) i;
    }

at-same : {X : Type 0} (xs : List (Option X)) (n : ℕ) → files.at xs n ≡ at xs n
at-same [] n = refl
at-same (x ∷ xs) zero = refl
at-same (x ∷ xs) (suc n) = at-same xs n

pub program_is : (t : u.Typed) (a : Annotations) (facts : Facts) (fs : List (Option CodeFunction)) → map (option_map view_function) fs ≡ functions_of t a → view_facts facts ≡ facts_of t a
    → view_program (record { facts = facts; functions = fs }) ≡ program_of t a
unfolding program_of
program_is t a facts fs functions its =
    λ i. record { facts = its i; functions = λ n. (at-same (map (option_map view_function) fs) n ∙ ap (λ us. at us n) functions) i }
