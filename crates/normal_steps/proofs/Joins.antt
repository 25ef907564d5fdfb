-- Statements behind others.
use Rattle.std.proofs.Common.{◌≡◌, List, [], ◌∷◌, ◌++◌, refl, ap, ◌∙◌}
use Rattle.c_runs.specs.Core as c
use Rattle.core_trees.specs.declared.statements.Core.{Core}
use Rattle.core_trees.specs.View.{view_core, view_cores}

pub join_end : (a : c.Cores) → c.join a c.end ≡ a
join_end c.end = refl
join_end (c.then_ s a) = ap (c.then_ s) (join_end a)

pub join_assoc : (x y z : c.Cores) → c.join (c.join x y) z ≡ c.join x (c.join y z)
join_assoc c.end y z = refl
join_assoc (c.then_ s x) y z = ap (c.then_ s) (join_assoc x y z)

pub pushed_one : (ss : List Core) (s : Core) → view_cores (ss ++ s ∷ []) ≡ c.join (view_cores ss) (c.one (view_core s))
pushed_one [] s = refl
pushed_one (x ∷ ss) s = ap (c.then_ (view_core x)) (pushed_one ss s)

-- two steps are one
pub join_twice : (old mid new first second : c.Cores) → mid ≡ c.join old first → new ≡ c.join mid second → new ≡ c.join old (c.join first second)
join_twice old mid new first second h g = g ∙ ap (λ z. c.join z second) h ∙ join_assoc old first second
