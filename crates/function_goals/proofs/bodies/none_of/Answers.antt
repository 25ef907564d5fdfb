use Rattle.std.proofs.Common.{rules, ◌≡◌, false, [], ◌∷◌, ◌++◌}
use Rattle.function_goals.proofs.Unused.{one_more}
use Rattle.function_goals.proofs.bodies.none_of.Goals as goal

pub loop-temporary-preserved : goal.loop-temporary-preserved
loop-temporary-preserved c =
    let pushed : c.push.new.self.items ≡ c.loop-temporary.none.items ++ false ∷ [] = search (rules, c.in_ok-push.ensures) in
    one_more c.loop-temporary.none.items c.push.new.self.items c.loop-temporary._temporary c.loop-temporary.invariant pushed
