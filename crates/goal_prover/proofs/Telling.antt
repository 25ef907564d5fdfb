-- A goal whose claim is told by what is known of names is valid, and so is proved.
use Rattle.std.proofs.Common.{◌≡◌, ℕ, Bool, true, false, not, ◌&&◌, ◌||◌, List, [], ◌∷◌, map, refl, sym, ap, ap₂, ◌∙◌}
use Rattle.std.proofs.lemmas.Bool.{false≢true}
use Rattle.qed_terms.specs.declared.verdict.Verdict.TheVariants as verdict
use Rattle.qed_terms.specs.declared.term.Formula.{Formula}
use Rattle.qed_terms.specs.declared.term.Formula.TheVariants as formula
use Rattle.qed_terms.specs.Meaning.{World, Values, meanings, is_so, each_true, truth}
use Rattle.qed_terms.specs.Setting.{Setting, world_of}
use Rattle.qed_terms.specs.Tree.{Tree, trees_of, imp_of, goal_of}
use Rattle.qed_terms.specs.View.{formula_tree}
use Rattle.qed_terms.proofs.Equations.{formula_tree-And}
use Rattle.known_bounds.specs.Bounds.{AllHold, formula_truth}
use Rattle.prover.specs.Prover.{IsProverVerdict}

pub as_goal : (known copies : List Formula) (claim copied f : Formula) → copies ≡ known → copied ≡ claim → formula_tree f ≡ imp_of (formula_tree (formula.And copies)) (formula_tree copied)
    → formula_tree f ≡ goal_of (map formula_tree known) (formula_tree claim)
as_goal known copies claim copied f k c is = is ∙ ap₂ (λ ks d. imp_of (formula_tree (formula.And ks)) (formula_tree d)) k c ∙ ap (λ t. imp_of t (formula_tree claim)) (formula_tree-And known)

module _ (w : World) (env : Values) where
  abbrev each_true_of : List Formula → Bool
  each_true_of fs = each_true (map is_so (meanings w env (trees_of (map formula_tree fs))))

  all_of : (fs : List Formula) → each_true_of fs ≡ true → AllHold w env fs
  all_of [] e = tt
  all_of (f ∷ fs) e =
      let parts = both (formula_truth w env f) (each_true_of fs) e in
      (parts.0, all_of fs parts.1)
    where
      both : (a b : Bool) → (a && b) ≡ true → (a ≡ true) × (b ≡ true)
      both true b e = (refl, e)
      both false b e = absurd (false≢true e)

  goal_true : (known : List Formula) (claim : Formula) → (AllHold w env known → formula_truth w env claim ≡ true) → truth w env (goal_of (map formula_tree known) (formula_tree claim)) ≡ true
  goal_true known claim told = by (each_true_of known) refl
    where
      by : (b : Bool) → each_true_of known ≡ b → (not (each_true_of known) || formula_truth w env claim) ≡ true
      by true e = ap (λ b. not b || formula_truth w env claim) e ∙ told (all_of known e)
      by false e = ap (λ b. not b || formula_truth w env claim) e

pub told_is_proved : (s : Setting) (fuel budget : ℕ) (known : List Formula) (claim : Formula) → ((w : World) (env : Values) → AllHold w env known → formula_truth w env claim ≡ true)
    → IsProverVerdict s fuel budget (goal_of (map formula_tree known) (formula_tree claim)) verdict.Proved
unfolding IsProverVerdict
told_is_proved s fuel budget known claim told = record {
  valid = λ e env bounded. goal_true (world_of s) env known claim (told (world_of s) env);
  closed = λ e. refl;
  left_open = λ e. absurd cc;
  branches = λ e. absurd cc;
  size = λ e. absurd cc;
}
