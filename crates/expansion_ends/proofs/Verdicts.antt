-- The verdict of a goal's own expansion.
use Rattle.std.proofs.Common.{◌≡◌, ℕ, List, refl, sym, ap, subst}
use Rattle.qed_terms.specs.declared.verdict.Verdict.{Verdict}
use Rattle.qed_terms.specs.declared.verdict.Verdict.TheVariants as verdict
use Rattle.qed_terms.specs.Setting.{Setting}
use Rattle.qed_terms.specs.Tree.{Tree}
use Rattle.branches.specs.Branch.{Branch}
use Rattle.branches.specs.Expansion.{End, all_closed}
use Rattle.branches.specs.Ids.{end_of}
use Rattle.expansion_ends.specs.Goals.{proving, Expands, IsVerdictOf}
use Rattle.expansion_ends.specs.Laws.{EndsAreVerdicts}
use Rattle.expansion_ends.proofs.Valid.{closed_is_valid}
use Rattle.expansion_ends.proofs.One.{comes_to_one_end}

-- only a goal that is called proved ends closed
proved_at : (v : Verdict) → end_of v ≡ all_closed → v ≡ verdict.Proved
proved_at verdict.Proved is = refl
proved_at verdict.Open is = absurd cc
proved_at verdict.Branches is = absurd cc
proved_at verdict.Size is = absurd cc

module _ (closed : Branch → Type 0) (round : Setting → Branch → List Tree → Type 0) where
  pub ends_are_verdicts : EndsAreVerdicts closed round
  ends_are_verdicts sound s regular one fuel budget goal v ends =
      let at : (u : Verdict) → v ≡ u → Expands (proving closed round) s fuel budget goal (end_of u) = λ u is. subst (λ u. Expands (proving closed round) s fuel budget goal (end_of u)) is ends in
      record {
        valid = λ is. closed_is_valid closed round sound s regular fuel budget goal (at verdict.Proved is);
        closed = λ all. proved_at v (comes_to_one_end closed round s one fuel budget goal (end_of v) all_closed ends all);
        left_open = at verdict.Open;
        branches = at verdict.Branches;
        size = at verdict.Size;
      }
