use Rattle.std.proofs.Common.{◌≡◌, length, map, ap, sym, ◌∙◌, arith}
use Rattle.qed_terms.specs.View.{formula_tree}
use Rattle.qed_terms.proofs.Equations.{formula_tree-True}
use Rattle.walk_steps.specs.Join.{all_of}
use Rattle.memory_worlds.proofs.Joined.{no_part}
use Rattle.memory_worlds.proofs.joins.all_of.Goals as goal

pub returns : goal.returns
returns c =
    let none : length c.into_vec.result.items ≡ 0 = omega (arith, c.into_vec.result.ok.0, c.in-None.ensures.cases.0) in
    formula_tree-True ∙ sym (no_part c.into_vec.result.items none) ∙ ap (λ fs. all_of (map formula_tree fs)) c.into_vec.ensures
