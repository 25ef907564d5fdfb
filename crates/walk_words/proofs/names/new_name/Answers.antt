use Rattle.std.proofs.Common.{◌∙◌}
use Rattle.qed_terms.specs.Fresh.{used_in}
use Rattle.walk_words.proofs.GivenNames.{newly_named}
use Rattle.walk_words.proofs.names.new_name.Goals as goal

pub returns : goal.returns
returns c = record {
  name = c.in_ok-term.ensures ∙ newly_named (used_in c.args.fresh.now) (used_in c.name.new.self) c.args.base.now c.in_ok-name.name c.in_ok-name.ensures.name c.in_ok-name.ensures.counted;
  used = c.in_ok-name.ensures.counted;
}
