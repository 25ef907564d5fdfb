-- The setting of a data model is regular.
use Rattle.std.proofs.Common.{◌≡◌, ℕ, true, sym, ap, ◌∙◌, subst}
use Rattle.c_kinds.specs.declared.models.Machdep.{Machdep}
use Rattle.c_kinds.specs.declared.models.Machdep.TheVariants as machdep
use Rattle.c_kinds.specs.Models.{long_bits}
use Rattle.qed_terms.specs.Setting.{Setting, is_regular}
use Rattle.qed_simplify.specs.Normal.{plain}
use Rattle.qed_simplify.proofs.Laws.{plain_settings}

regular : (m : Machdep) → is_regular (plain (long_bits m)) ≡ true
regular machdep.X86_32 = plain_settings.0
regular machdep.X86_64 = plain_settings.1

pub regular_in : (m : Machdep) (s : Setting) (bits : ℕ) → s ≡ plain bits → bits ≡ long_bits m → is_regular s ≡ true
regular_in m s bits e f = subst (λ t. is_regular t ≡ true) (sym (e ∙ ap plain f)) (regular m)
