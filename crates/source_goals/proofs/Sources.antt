-- The walks of the bodies of a source that is met pass on its goals.
use Rattle.std.proofs.Common.{◌≡◌, ℕ, List, [], ◌∷◌, map, Option, Some, None, refl, sym, ap, ◌∙◌, subst}
use Rattle.wp_base.specs.declared.kinds.Kind.{Kind}
use Rattle.typed_unit.specs.Unit as u
use Rattle.c_runs.specs.Program.{Function}
use Rattle.c_runs.specs.Tree.{Steps}
use Rattle.plain_runs.specs.Fitting.{shape_of, is_param}
use Rattle.plain_words.specs.Temporaries.{temporaries_in}
use Rattle.program_steps.specs.Temporaries.{no_temporaries}
use Rattle.walk_steps.specs.Walk.{Goal}
use Rattle.program_goals.specs.Programs.{goals_of}
use Rattle.slot_names.specs.Bases.{Name}
use Rattle.logic_sources.specs.Told.{FunctionGoals, core_of, names_in, own_names, text_at, setting_of_file, written_for, written_by, goals_at, body_goals}
use Rattle.logic_sources.specs.Told.{file_goals, Source, first_names}
use Rattle.logic_sources.proofs.Told.{names_are}
use Rattle.logic_sources.specs.Built.{names_of, texts_in}
use Rattle.source_goals.specs.Walked.{goals_by, body_goals_by}
use Rattle.source_goals.specs.Laws.{WalksAreOfSources}
use Rattle.source_goals.proofs.Closed.{steps_closed}

map_same : {X Y : Type 0} (f g : X → Y) → ((x : X) → f x ≡ g x) → (xs : List X) → map f xs ≡ map g xs
map_same f g same [] = refl
map_same f g same (x ∷ xs) = λ i. same x i ∷ map_same f g same xs i

module _ (s : Source) (kinds : (function number : ℕ) → Kind) where
  goals_same : (n : ℕ) (o : Option (Function Steps)) → (core_of s.typed s.annots).functions n ≡ o
      → goals_by (setting_of_file s.typed s.annots (names_of s)) s.typed (core_of s.typed s.annots) (texts_in s) (names_in s.typed.file.globals) kinds n o
      ≡ goals_at s.typed s.annots (names_of s) kinds n o
  goals_same n None e = refl
  goals_same n (Some f) e =
      let setting = setting_of_file s.typed s.annots (names_of s) in
      let q = core_of s.typed s.annots in
      let file = names_in s.typed.file.globals in
      let own = names_are s n f e in
      let one : goals_of setting q (texts_in s) n f (written_for file (first_names n s.typed.bodies) f (kinds n))
      ≡ goals_of setting q (texts_in s) n f (written_for file (own_names (text_at s.typed s.annots n)) f (kinds n)) =
      λ i. goals_of setting q (texts_in s) n f (written_for file (own i) f (kinds n)) in
      one ∙ ap (λ o. goals_of setting q (texts_in s) n f (written_by file (own_names (text_at s.typed s.annots n)) o (kinds n))) (sym e)

  body_same : (b : u.Body) → body_goals_by (setting_of_file s.typed s.annots (names_of s)) s.typed (core_of s.typed s.annots) (texts_in s) (names_in s.typed.file.globals) kinds b
      ≡ body_goals s.typed s.annots (names_of s) kinds b
  body_same b = ap (λ gs. record { function = b.function; goals = gs }) (goals_same b.function ((core_of s.typed s.annots).functions b.function) refl)

pub walks_are_of_sources : WalksAreOfSources
walks_are_of_sources m ts s kinds met =
    record {
      closed = λ n f e. steps_closed (core_of s.typed s.annots).facts (shape_of f (temporaries_in f.body) (kinds n)) (core_of s.typed s.annots).functions f.body (is_param f.params) [] no_temporaries (met.stands n f e);
      goals = map_same (body_goals_by (setting_of_file s.typed s.annots (names_of s)) s.typed (core_of s.typed s.annots) (texts_in s) (names_in s.typed.file.globals) kinds)
          (body_goals s.typed s.annots (names_of s) kinds) (body_same s kinds) s.typed.bodies;
    }
