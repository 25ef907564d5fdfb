use Rattle.std.proofs.Common.{ap, sym, ◌∙◌, is_some}
use Rattle.goal_words.proofs.Naming.{memory_kind_is}
use Rattle.goal_words.proofs.names.is_memory_kind.Goals as goal

pub returns : goal.returns
returns c =
    c.is_some.ensures ∙ ap is_some c.kind_of.ensures
    ∙ memory_kind_is c.args.bytes.now (sym c.eq.ensures ∙ c.if-eq.false) (sym c.eq-2.ensures ∙ c.if-eq-2.false)
