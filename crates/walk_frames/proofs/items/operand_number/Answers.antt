use Rattle.std.proofs.Common.{◌≡◌, ◌<◌, ◌≤◌, IfOk, length, arith, subst, ◌∙◌}
use Rattle.qed_terms.specs.View.{term_tree}
use Rattle.value_terms.specs.Readings.{number_term}
use Rattle.walk_frames.proofs.Asking.{operand_at, operand_away}
use Rattle.walk_frames.proofs.items.operand_number.Goals as goal

pub returns-then-at-terms : goal.returns-then-at-terms
returns-then-at-terms c =
    let within : c.args.at < length c.args.terms.now = (let t = c.if-at-terms.true in omega (arith, t)) in
    subst (λ u. IfOk c.number.result (λ made. term_tree made ≡ number_term u)) (operand_at c.args.terms.now c.args.at c.index-terms-at.result within c.index-terms-at.is) c.number.ensures

pub returns-else-at-terms : goal.returns-else-at-terms
returns-else-at-terms c =
    let behind : length c.args.terms.now ≤ c.args.at = (let t = c.if-at-terms.false in omega (arith, t)) in
    c.number-else-at-terms.ensures ∙ operand_away c.args.terms.now c.args.at behind
