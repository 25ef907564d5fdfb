use Rattle.std.proofs.Common.{option_map, ◌∙◌, sym, ap, arith}
use Rattle.qed_terms.specs.declared.head.Head.TheVariants as h
use Rattle.qed_terms.specs.Tree.{node, two}
use Rattle.qed_terms.specs.View.{term_tree, formula_tree}
use Rattle.qed_terms.proofs.Equations.{formula_tree-Rel}
use Rattle.qed_linear.specs.Linear.{unwrap_or}
use Rattle.qed_rules.specs.Passes.{compared}
use Rattle.qed_rules.proofs.RelationPasses.{not_two, pair_is}
use Rattle.qed_rules.proofs.relations.compare.Goals as goal

pub returns-then-len-ne2 : goal.returns-then-len-ne2
returns-then-len-ne2 c = formula_tree-Rel c.args.op c.args.terms ∙ (not_two c.args.op c.args.terms (λ k. omega arith)).0

pub returns-in-None : goal.returns-in-None
returns-in-None c =
    let o = c.args.op in
    let x = c.index-pair-0.result in
    let y = c.index-pair-1.result in
    let same = pair_is c.args.terms x y (omega arith) (rw c.as_slice-pair.ensures at c.index-pair-0.is) (rw c.as_slice-pair.ensures at c.index-pair-1.is) in
    formula_tree-Rel o c.args.terms ∙ ap (node (h.Form o)) same
    ∙ ap (λ f. unwrap_or (option_map formula_tree f) (node (h.Form o) (two (term_tree x) (term_tree y)))) (sym c.in-None.is)
    ∙ c.in_ok-formula.ensures ∙ ap (compared o) (sym same)
