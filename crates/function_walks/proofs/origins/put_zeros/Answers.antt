use Rattle.std.proofs.Common.{rules, ◌≡◌, ◌<◌, ◌++◌, pos, [], ◌∷◌, ap, ◌∙◌}
use Rattle.std.proofs.lemmas.List.{map_push}
use Rattle.function_walks.specs.declared.origins.Origin.TheVariants as origin
use Rattle.walk_steps.specs.Laws.{fixed}
use Rattle.program_steps.specs.Starting.{zero_origins}
use Rattle.function_walks.specs.Entry.{view_origin, view_origins}
use Rattle.function_walks.proofs.Starts.{zero_step}
use Rattle.function_walks.proofs.origins.put_zeros.Goals as goal

pub loop-slot-preserved : goal.loop-slot-preserved
loop-slot-preserved c =
    let more : view_origins c.push.new.self.items ≡ view_origins c.loop-slot.made.items ++ fixed (pos 0) ∷ [] = ap view_origins c.in_ok-push.ensures.items ∙ map_push view_origin c.loop-slot.made.items (origin.Fixed (pos 0)) in
    let within : c.loop-slot._slot < c.args.count = search (rules, c.loop-slot-test.true) in
    zero_step (view_origins c.loop-slot.made.items) (view_origins c.push.new.self.items) (view_origins c.args.made.now.items ++ zero_origins c.args.count) c.args.count c.loop-slot._slot within
    c.loop-slot.invariant more
