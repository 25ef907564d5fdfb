-- The prover's rules are sound, and its expansion's end is a verdict.
use Rattle.std.proofs.Common.{◌≡◌, ℕ, true, false, List, [], refl, sym, ap, ◌∙◌, subst}
use Rattle.qed_terms.specs.declared.verdict.Verdict.{Verdict}
use Rattle.qed_terms.specs.declared.verdict.Verdict.TheVariants as verdict
use Rattle.qed_terms.specs.Setting.{Setting, Valid, is_regular, world_of}
use Rattle.qed_terms.specs.Order.{same}
use Rattle.qed_terms.proofs.Total.{same_itself}
use Rattle.qed_terms.specs.Tree.{Tree, true_tree, not_of}
use Rattle.qed_rules.specs.Rules.{step}
use Rattle.qed_simplify.specs.Normal.{Normal}
use Rattle.qed_simplify.proofs.Derived.{one_normal}
use Rattle.branches.specs.Expansion.{Runs, from_formula, all_closed}
use Rattle.branches.specs.Ids.{end_of}
use Rattle.branch_links.specs.BranchLinks.{LinksRefute}
use Rattle.branch_links.proofs.Soundness.{refuted_is_false}
use Rattle.closed_branches.proofs.Reasons.{no_model}
use Rattle.instance_rows.specs.Round.{IsRound}
use Rattle.instance_rows.proofs.Stated.{round_keeps, one_round}
use Rattle.expansion_ends.specs.Goals.{proving, Expands, at_once, by_branches}
use Rattle.expansion_ends.specs.Laws.{AreSound}
use Rattle.expansion_ends.proofs.Verdicts.{ends_are_verdicts}
use Rattle.prover.specs.Prover.{IsClosed, IsProverVerdict}
use Rattle.prover.specs.Late.{IsClosedLate}

pub are_sound : AreSound IsClosed IsRound
are_sound = record {
  closes = λ s regular b c m. no_model LinksRefute refuted_is_false (world_of s) b c m;
  adds = λ s regular b fs adds env holds. round_keeps s regular b fs adds env holds;
}

-- a goal whose normal form is `true`
pub proved_at_once : (s : Setting) → is_regular s ≡ true → (fuel budget : ℕ) (goal normal : Tree) → Normal (step s) goal normal → normal ≡ true_tree → IsProverVerdict s fuel budget goal verdict.Proved
unfolding IsProverVerdict
proved_at_once s regular fuel budget goal normal n is =
    ends_are_verdicts IsClosed IsRound are_sound s regular (one_round s) fuel budget goal verdict.Proved (at_once (subst (Normal (step s) goal) is n))

-- and any other
pub proved_by_branches : (s : Setting) → is_regular s ≡ true → (fuel budget : ℕ) (goal normal negation start : Tree) (v : Verdict) → Normal (step s) goal normal → (normal ≡ true_tree → ⊥)
    → negation ≡ not_of goal → Normal (step s) negation start → Runs (proving IsClosed IsRound s) budget (from_formula fuel start) 0 [] (end_of v) → IsProverVerdict s fuel budget goal v
unfolding IsProverVerdict
proved_by_branches s regular fuel budget goal normal negation start v n other is m runs =
    ends_are_verdicts IsClosed IsRound are_sound s regular (one_round s) fuel budget goal v
    (by_branches (λ t. other (one_normal (step s) n t)) (subst (λ t. Normal (step s) t start) is m) runs)

-- ---- an expansion that looks late

late_is_sound : AreSound IsClosedLate IsRound
late_is_sound = record {
  closes = λ s regular b c m. are_sound.closes s regular b c.1 m;
  adds = are_sound.adds;
}

pub proved_late : (s : Setting) → is_regular s ≡ true → (fuel budget : ℕ) (goal normal negation start : Tree) → Normal (step s) goal normal → (normal ≡ true_tree → ⊥)
    → negation ≡ not_of goal → Normal (step s) negation start → Runs (proving IsClosedLate IsRound s) budget (from_formula fuel start) 0 [] all_closed → IsProverVerdict s fuel budget goal verdict.Proved
unfolding IsProverVerdict
proved_late s regular fuel budget goal normal negation start n other is m runs =
    let late = ends_are_verdicts IsClosedLate IsRound late_is_sound s regular (one_round s) fuel budget goal verdict.Proved
    (by_branches (λ t. other (one_normal (step s) n t)) (subst (λ t. Normal (step s) t start) is m) runs)
    in
    record {
      valid = late.valid;
      closed = λ e. refl;
      left_open = λ e. absurd cc;
      branches = λ e. absurd cc;
      size = λ e. absurd cc;
    }

pub not_true : (t : Tree) → false ≡ same true_tree t → t ≡ true_tree → ⊥
not_true t other is = let e : false ≡ true = other ∙ ap (same true_tree) is ∙ same_itself true_tree in absurd cc

-- ---- what a verdict says

pub verdict_valid : (s : Setting) (fuel budget : ℕ) (goal : Tree) (v : Verdict) → IsProverVerdict s fuel budget goal v → v ≡ verdict.Proved → Valid s goal
unfolding IsProverVerdict
verdict_valid s fuel budget goal v is proved = is.valid proved
