use Rattle.std.proofs.Common.{rules, ◌≡◌, ◌&&◌, ◌||◌, not, ap, ◌∙◌}
use Rattle.std.proofs.Math.Bool.{or_comm}
use Rattle.checked_trees.specs.View.{view_step}
use Rattle.plain_runs.specs.Kept.{temps}
use Rattle.program_steps.specs.Temporaries.{live}
use Rattle.walk_live.proofs.Bitwise.{bits_same}
use Rattle.walk_live.proofs.behind.unused.Goals as goal

pub returns : goal.returns
returns c k os f h hb =
    let s = view_step c.args.step.now in
    let used : c.in_ok-used.used.items ≡ c.args.before.now = search (rules, c.in_ok-used.ensures) in
    let marked = c.mark_temps.ensures k (live s os f) (used ∙ h) in
    let seen : c.as_slice.result.now ≡ c.mark_temps.new.set.items = search (rules, c.as_slice.ensures.value) in
    let made : c.from_vec.result ≡ c.in_ok-made.made.items = search (rules, c.from_vec.ensures) in
    made ∙ c.in_ok-made.ensures k (λ n. temps s n || live s os f n) f (seen ∙ marked) hb ∙ bits_same k _ _ (λ n. ap (λ b. b && not (f n)) (or_comm (temps s n) (live s os f n)))
