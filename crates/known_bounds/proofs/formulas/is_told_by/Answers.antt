use Rattle.std.proofs.Common.{sym, subst, ap, ◌∙◌}
use Rattle.known_bounds.specs.Bounds.{AreKept}
use Rattle.known_bounds.proofs.formulas.is_told_by.Goals as goal

pub returns : goal.returns
returns c so w env hold =
    c.is_told.ensures so w env (subst (AreKept env) (sym c.as_slice.ensures.value) (c.in_ok-learn_all.ensures.kept w env (subst (AreKept env) (sym c.new-bounds.ensures.items) tt) hold))
