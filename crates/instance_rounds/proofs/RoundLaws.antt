-- A round out of its formulas.
use Rattle.std.proofs.Common.{◌≡◌, List, ◌++◌, sym, ◌∙◌, subst}
use Rattle.qed_terms.specs.Setting.{Setting}
use Rattle.qed_terms.specs.Tree.{Tree}
use Rattle.qed_rules.specs.Rules.{step}
use Rattle.qed_simplify.specs.Normal.{Normal}
use Rattle.branches.specs.Branch.{Branch}
use Rattle.instance_rows.specs.Occurrences.{occurrences}
use Rattle.instance_rows.specs.Round.{Adds, IsRound, formulas}
use Rattle.instance_rounds.specs.Formulas.{AreFormulas}
use Rattle.instance_rounds.specs.Given.{AreGiven}

pub formulas_made : (s : Setting) (ls ts ls' ts' offs offs' foralls foralls' fs : List Tree) → ls' ≡ ls → ts' ≡ ts → offs' ≡ offs → foralls' ≡ foralls → AreGiven s.logic ls ts offs foralls
    → fs ≡ formulas s ls' ts' offs' foralls' → AreFormulas s ls ts fs
formulas_made s ls ts ls' ts' offs offs' foralls foralls' fs a b c d given e =
    record { on_offsets = offs; of_foralls = foralls; given = given; in_order = e ∙ (λ i. formulas s (a i) (b i) (c i) (d i)) }

pub round_made : (s : Setting) (b : Branch) (ts fs fs' there added : List Tree) → AreFormulas s b.literals ts fs → ts ≡ occurrences b → fs' ≡ fs → there ≡ b.literals ++ b.waiting
    → Adds (Normal (step s)) there fs' added → IsRound s b added
round_made s b ts fs fs' there added made is same all adds =
    let at = subst (λ us. AreFormulas s b.literals us fs) is made in
    record {
      on_offsets = at.on_offsets;
      of_foralls = at.of_foralls;
      offsets_given = at.given.offsets;
      foralls_given = at.given.foralls;
      are_added = subst (λ gs. Adds (Normal (step s)) (b.literals ++ b.waiting) gs added) (same ∙ at.in_order) (subst (λ hs. Adds (Normal (step s)) hs fs' added) all adds);
    }
