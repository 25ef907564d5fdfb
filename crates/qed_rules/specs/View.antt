-- What a pass came to, as a plain value.
use Rattle.qed_terms.specs.View.{formula_tree}
use Rattle.qed_rules.specs.declared.pass.Pass as memory
use Rattle.qed_rules.specs.declared.pass.Pass.TheVariants as v
use Rattle.qed_rules.specs.Passes.{Pass, done, again}

abbrev pub view_pass : memory.Pass → Pass
view_pass (v.Done f) = done (formula_tree f)
view_pass (v.Again f) = again (formula_tree f)
