-- Declarations with annotations, one more.
use Rattle.std.proofs.Common.{◌≡◌, ℕ, Bool, List, [], ◌∷◌, ◌++◌, map, length, Result, Ok, ap, sym, subst, ◌∙◌}
use Rattle.std.proofs.lemmas.List.{map_push}
use Rattle.wp_base.specs.declared.answers.Stop.{Stop}
use Rattle.c_syntax.specs.Decl as d
use Rattle.c_answers.specs.Answers.{after, Gives}
use Rattle.name_table.specs.Names.{Names}
use Rattle.c_variables.specs.declared.context.Context.{Context}
use Rattle.typed_unit.specs.Unit as u
use Rattle.typed_unit.specs.declared.unit.Part.{Part}
use Rattle.typed_unit.specs.View.{view_part}
use Rattle.c_functions.specs.Functions.{Functions, header, part_at, part_of, finished, function}

pub more_part : (parts more : List Part) (part : Part) → more ≡ parts ++ part ∷ [] → map view_part more ≡ map view_part parts ++ view_part part ∷ []
more_part parts more part is = ap (map view_part) is ∙ map_push view_part parts part

-- a function is its header, and then what is behind it
pub function_is : {V : Type 0} (see : V → Context × Functions) (r : Result V Stop) (c h : Context) (fs : Functions) (bodied : Names Bool) (taken : List Bool) (g : d.Function) (part : u.Part) (names tags : ℕ)
    → header c bodied fs.bodies taken g ≡ Ok h → part ≡ part_at names tags h g → names ≡ length c.scope.file.names → tags ≡ length c.scope.file.tags → Gives see r (finished h fs part g)
    → Gives see r (function c fs bodied taken g)
unfolding function
function_is see r c h fs bodied taken g part names tags is part_is names_are tags_are given =
    subst (λ o. Gives see r o)
    (ap (λ p. finished h fs p g) (part_is ∙ (λ i. part_at (names_are i) (tags_are i) h g)) ∙ sym (ap (λ o. after o (λ k. finished k fs (part_of c.scope.file k g) g)) is)) given
