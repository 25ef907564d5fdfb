use Rattle.std.proofs.Common.{◌++◌, ◌∷◌, [], true, false, length, map, sym, ◌∙◌, ap, arith}
use Rattle.qed_terms.specs.View.{formula_tree}
use Rattle.qed_terms.proofs.Equations.{formula_tree-And, formula_tree-Or}
use Rattle.qed_rules.specs.Rules.{junction}
use Rattle.qed_rules.proofs.FormulaPasses.{long_not_single, one_is_single}
use Rattle.qed_linear.proofs.Places.{none_left}
use Rattle.qed_rules.proofs.junctions.unwrap_single.Goals as goal

pub returns-then-all : goal.returns-then-all
returns-then-all c =
    let xs = c.args.operands in
    let same = c.from_vec-operands.ensures ∙ c.into_vec-operands.ensures in
    formula_tree-And c.from_vec-operands.result ∙ ap (λ ys. junction true (map formula_tree ys)) same ∙ ap (λ b. junction b (map formula_tree xs)) (sym c.if-all.true)
    ∙ sym (long_not_single c.args.all xs (omega (arith, ap length c.into_vec-operands.ensures)))

pub returns-else-all : goal.returns-else-all
returns-else-all c =
    let xs = c.args.operands in
    let same = c.from_vec-operands.ensures ∙ c.into_vec-operands.ensures in
    formula_tree-Or c.from_vec-operands.result ∙ ap (λ ys. junction false (map formula_tree ys)) same ∙ ap (λ b. junction b (map formula_tree xs)) (sym c.if-all.false)
    ∙ sym (long_not_single c.args.all xs (omega (arith, ap length c.into_vec-operands.ensures)))

pub returns-in-Some : goal.returns-in-Some
returns-in-Some c =
    let x = c.in-Some.operand in
    let none = none_left c.pop.new.self.items (omega (arith, c.in-Some.ensures.len)) in
    one_is_single c.args.all c.args.operands x (sym c.into_vec-operands.ensures ∙ c.in-Some.ensures.items ∙ ap (λ ys. ys ++ x ∷ []) none)
