use Rattle.std.proofs.Common.{rules, ◌≡◌, [], refl, ap, subst}
use Rattle.program_steps.specs.Temporaries.{no_temporaries}
use Rattle.step_walks.specs.View.{view_state}
use Rattle.step_walks.specs.Ways.{BlockEnds}
use Rattle.walk_live.specs.Bits.{bits}
use Rattle.walk_words.specs.View.{exits_at}
use Rattle.function_goals.proofs.Whole.{body_goes, body_stops}
use Rattle.function_goals.proofs.bodies.walk_body.Goals as goal

pub returns-then-not-goes : goal.returns-then-not-goes
returns-then-not-goes g c first o closed =
    let x = c.args.frame in
    let none : c.as_slice.result.now ≡ bits x.temporaries no_temporaries = search (rules, c.as_slice.ensures, c.in_ok-none.ensures) in
    let bases : c.as_slice-then-not-goes.result.now ≡ x.bases.now = search (rules, c.as_slice-then-not-goes.ensures) in
    let outer = exits_at c.begin_block-outer.result.items in
    body_stops outer c.begin_block-outer.ensures.state (ap exits_at c.begin_block-outer.ensures.outer) c.if-not-goes.true (c.in_ok-goes.ensures first o [] no_temporaries refl none closed)
    (subst (λ bs. BlockEnds bs outer c.in_ok-goes.goes (view_state c.walk_steps.new.state) (view_state c.end_block.new.state) c.in_ok-on.on) bases c.in_ok-on.ensures)

pub returns : goal.returns
returns g c first o closed =
    let x = c.args.frame in
    let none : c.as_slice.result.now ≡ bits x.temporaries no_temporaries = search (rules, c.as_slice.ensures, c.in_ok-none.ensures) in
    let bases : c.as_slice-2.result.now ≡ x.bases.now = search (rules, c.as_slice-2.ensures) in
    let outer = exits_at c.begin_block-outer.result.items in
    body_goes outer c.begin_block-outer.ensures.state (ap exits_at c.begin_block-outer.ensures.outer) c.if-not-goes.false (c.in_ok-goes.ensures first o [] no_temporaries refl none closed)
    (c.in_ok-ends.ensures first o.world o.kinds (g.T.Texts.text c.args.texts.now))
    (subst (λ bs. BlockEnds bs outer c.in_ok-ends.ends (view_state c.end_body.new.state) (view_state c.end_block-2.new.state) c.in_ok-on-2.on) bases c.in_ok-on-2.ensures)
