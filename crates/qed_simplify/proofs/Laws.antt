-- The laws of the normal form.
use Rattle.std.proofs.Common.{◌≡◌, true, List, [], refl, sym}
use Rattle.std.specs.Prelude.{Some}
use Rattle.qed_terms.specs.declared.head.Head.{Head}
use Rattle.qed_terms.specs.declared.head.Head.TheVariants as h
use Rattle.qed_terms.specs.Tree.{Tree, Trees, true_tree}
use Rattle.qed_terms.specs.Meaning.{World, Values, truth, meaning}
use Rattle.qed_terms.specs.Setting.{Setting, Valid, is_regular, world_of}
use Rattle.qed_memories.proofs.Congruence.{so_alike}
use Rattle.qed_calls.specs.Calls.{call_rule}
use Rattle.qed_rules.specs.Rules.{step}
use Rattle.qed_simplify.specs.Normal.{Normal, EachHasNormal, NormalFreeNames, NormalIsOne, NormalIsSettled, NormalKeepsMeaning, Suits, SettingsSuit, PlainWorldsSuit, PlainSettingsAreRegular}
use Rattle.qed_simplify.proofs.Calls.{setting_suits}
use Rattle.qed_simplify.proofs.Derived.{one_normal, settled, normal_keeps}
use Rattle.qed_simplify.proofs.Existence.{each_has_normal}
use Rattle.qed_simplify.proofs.Keeps.{step_keeps}
use Rattle.qed_simplify.proofs.Names.{normal_free_names}

pub each_normal : EachHasNormal
each_normal set regular t = each_has_normal set regular t

pub normal_is_one : NormalIsOne
normal_is_one set t u v n d = one_normal (step set) n d

pub normal_is_settled : NormalIsSettled
normal_is_settled set t u n = settled (step set) n

pub normal-keeps : NormalKeepsMeaning
normal-keeps set t u n world suits env = normal_keeps (step set) world suits.alike (λ head ts w f k env'. step_keeps set world env' suits.width suits.calls head ts w f k) n env

pub means : (set : Setting) (t u : Tree) → Normal (step set) t u → (world : World) → Suits set world → (env : Values) → truth world env u ≡ truth world env t
means set t u n world suits env = so_alike (meaning world env u) (meaning world env t) (normal-keeps set t u n world suits env)

-- so it is in the world of a regular setting
pub means_in_setting : (set : Setting) (t u : Tree) → is_regular set ≡ true → Normal (step set) t u → (env : Values) → truth (world_of set) env u ≡ truth (world_of set) env t
means_in_setting set t u regular n env = means set t u n (world_of set) (setting_suits set regular) env

-- a formula whose normal form is `true` is valid
pub proved_valid : (set : Setting) (f : Tree) → is_regular set ≡ true → Normal (step set) f true_tree → Valid set f
proved_valid set f regular n env bounded = sym (means_in_setting set f true_tree regular n env)

pub free_names : NormalFreeNames
free_names set t u regular n x s k = normal_free_names set t u regular n x s k

pub settings_suit : SettingsSuit
settings_suit set regular = setting_suits set regular

pub plain_worlds_suit : PlainWorldsSuit
plain_worlds_suit bits world width alike = record { width = width; alike = alike; calls = λ head ts u k env. absurd (none head ts u k) }
  where
    none : (head : Head) (ts : Trees) (u : Tree) → call_rule [] head ts ≡ Some u → ⊥
    none (h.App x) ts u k = absurd cc
    none head ts u k = absurd cc

pub plain_settings : PlainSettingsAreRegular
unfolding is_regular
plain_settings = (refl, refl)
