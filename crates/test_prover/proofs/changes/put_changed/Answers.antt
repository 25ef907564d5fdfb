use Rattle.std.proofs.Common.{◌∙◌, ap}
use Rattle.qed_terms.specs.Setting.{is_regular}
use Rattle.qed_simplify.proofs.Laws.{plain_settings}
use Rattle.test_prover.proofs.changes.put_changed.Goals as goal

pub changed-requires-clause-regular : goal.changed-requires-clause-regular
changed-requires-clause-regular c = ap is_regular c.plain_setting-world.ensures ∙ plain_settings.1
