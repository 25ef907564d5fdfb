-- A goal whose expansion closes is valid.
use Rattle.std.proofs.Common.{◌≡◌, ℕ, Bool, true, false, not, List, [], refl, sym, ap, ◌∙◌, subst}
use Rattle.qed_terms.specs.Meaning.{World, Values, truth}
use Rattle.qed_terms.specs.Setting.{Setting, Valid, is_regular, world_of}
use Rattle.qed_terms.specs.Tree.{Tree, true_tree, not_of}
use Rattle.qed_rules.specs.Rules.{step}
use Rattle.qed_simplify.specs.Normal.{Normal, Suits}
use Rattle.qed_simplify.proofs.Laws.{means_in_setting, proved_valid, settings_suit}
use Rattle.branches.specs.Branch.{Branch}
use Rattle.branches.specs.Expansion.{Runs, End, all_closed, rules_of, from_formula}
use Rattle.branches.specs.Laws.{IsSound}
use Rattle.branches.proofs.Models.{sound_by}
use Rattle.branch_changes.specs.Changes.{Changes}
use Rattle.branch_changes.proofs.Stated.{keeps_models}
use Rattle.expansion_ends.specs.Goals.{proving, Expands, at_once, by_branches}
use Rattle.expansion_ends.specs.Laws.{AreSound, ClosedIsValid}

module _ (closed : Branch → Type 0) (round : Setting → Branch → List Tree → Type 0) where
  rules_sound : AreSound closed round → (s : Setting) → is_regular s ≡ true → IsSound (proving closed round s) (world_of s)
  rules_sound sound s regular =
      record { closes = sound.closes s regular; changes = keeps_models closed s (world_of s) (settings_suit s regular) (sound.closes s regular); adds = sound.adds s regular }

  -- the goal is no false one, since its `not` has no model
  by_runs : AreSound closed round → (s : Setting) → is_regular s ≡ true → (fuel budget : ℕ) (goal n : Tree) → Normal (step s) (not_of goal) n
      → Runs (proving closed round s) budget (from_formula fuel n) 0 [] all_closed → (env : Values) → (b : Bool) → truth (world_of s) env goal ≡ b → truth (world_of s) env goal ≡ true
  by_runs sound s regular fuel budget goal n normal runs env true is = is
  by_runs sound s regular fuel budget goal n normal runs env false is =
      let turned : truth (world_of s) env n ≡ true = means_in_setting s (not_of goal) n regular normal env ∙ ap not is in
      absurd (sound_by false closed (Changes (Normal (step s)) closed) (round s) (world_of s) (rules_sound sound s regular) fuel budget n [] runs env turned)

  pub closed_is_valid : ClosedIsValid closed round
  closed_is_valid sound s regular fuel budget goal expands = by all_closed refl expands
    where
      by : (e : End) → e ≡ all_closed → Expands (proving closed round) s fuel budget goal e → Valid s goal
      by e is (at_once n) = proved_valid s goal regular n
      by e is (by_branches {n = n} other normal runs) = λ env bounded. by_runs sound s regular fuel budget goal n normal (subst (λ e. Runs (proving closed round s) budget (from_formula fuel n) 0 [] e) is runs) env (truth (world_of s) env goal) refl
