-- The setting of a file in which no logic function calls itself.
use Rattle.std.proofs.Common.{◌≡◌, ℕ, zero, suc, Bool, true, false, not, if◌then◌else◌, List, [], ◌∷◌, length, refl, ap, ◌∙◌}
use Rattle.std.specs.Prelude.{None}
use Rattle.std.specs.List.{list_all}
use Rattle.c_kinds.specs.declared.models.Machdep.{Machdep}
use Rattle.c_kinds.specs.declared.models.Machdep.TheVariants as machdep
use Rattle.c_kinds.specs.Models.{long_bits}
use Rattle.acsl_expand.specs.Expansion.{Definition, definition_at}
use Rattle.qed_terms.specs.Setting.{Setting, Logic, is_regular}
use Rattle.c_runs.specs.Program.{Facts}
use Rattle.acsl_encode.specs.Readings.{Called, Common}
use Rattle.acsl_encode.specs.Setting.{logic_of, known_first, more_logic, logic_first}
use Rattle.plain_annotations.specs.Settings.{Names, shared, told, file_setting, texts_of, calls_none}
use Rattle.plain_trees.specs.Laws.{plain_setting, SettingsArePlain}
use Rattle.plain_trees.proofs.Texts_alike.{none_recursive, none_known}

no_logic : (r : Common) (t : ℕ → Called) (ds : List Definition) → ((n : ℕ) → (definition_at ds n).is_recursive ≡ false) → (n : ℕ) → logic_first r t ds n ≡ []
no_logic r t ds none zero = refl
no_logic r t ds none (suc n) =
    ap (λ b. more_logic (logic_first r t ds n) (if b then logic_of r (known_first r t ds n) n (t n) (definition_at ds n).body else None)) (none n)
    ∙ no_logic r t ds none n

regular : (m : Machdep) → is_regular (plain_setting m) ≡ true
unfolding is_regular
regular machdep.X86_32 = refl
regular machdep.X86_64 = refl

abbrev with_logic : (bits : ℕ) → List Logic → Setting
with_logic b fs = record { long_bits = b; logic = fs }

same : (p : Facts) (names : Names) → list_all calls_none p.definitions ≡ true → file_setting p names ≡ plain_setting p.model
same p names none =
    ap (with_logic (long_bits p.model)) (no_logic (shared p) (told p names) p.definitions (none_recursive p.definitions none) (length p.definitions))

texts : (p : Facts) (names : Names) → list_all calls_none p.definitions ≡ true → texts_of p names ≡ record { binders = names.binders; called = λ n. None }
texts p names none = λ i. record {
  binders = names.binders;
  called = λ f. none_known (shared p) (told p names) p.definitions (none_recursive p.definitions none) (length p.definitions) f i;
}

pub settings_are_plain : SettingsArePlain
settings_are_plain = record { texts = texts; same = same; regular = regular }
