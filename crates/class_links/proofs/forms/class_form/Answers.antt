use Rattle.std.proofs.Common.{rules, FitsSigned, sym, ◌∙◌, ap, subst}
use Rattle.std.specs.Int.{w128}
use Rattle.std.proofs.lemmas.Int.{to_z-of_z}
use Rattle.linear_chains.specs.Sums.{with_part}
use Rattle.same_places.specs.Same.{at}
use Rattle.class_links.specs.ClassForms.{number_for, times_of, IsFormBelow}
use Rattle.class_links.proofs.Forming.{form_more, form_all}
use Rattle.class_links.proofs.forms.class_form.Goals as goal

pub loop-class-preserved : goal.loop-class-preserved
loop-class-preserved c =
    let times = times_of (at c.args.classes.now) (number_for c.args.numbers.now.entries) c.args.parts.now in
    let told = c.in-Some-within.ensures in
    let fits : FitsSigned w128 c.in-Some-within.times = search rules in
    let same = to_z-of_z w128 c.in-Some-within.times fits in
    let put = c.in_ok-put_part.ensures ∙ ap (with_part c.loop-class.form.items c.in-Some.class) same in
    let made = form_more times c.loop-class.form.items c.loop-class.from c.in-Some.class c.in-Some-within.times c.loop-class.invariant c.in-Some.ensures (told.0 ∙ c.in_ok-sum.ensures) told.1 c.put_part.new.form.items put in
    subst (IsFormBelow times c.put_part.new.form.items) (sym c.in-Some-checked_add.ensures.1) made

pub returns : goal.returns
returns c =
    let times = times_of (at c.args.classes.now) (number_for c.args.numbers.now.entries) c.args.parts.now in
    form_all times c.loop-class.form.items c.loop-class.from c.loop-class.invariant c.in_default.ensures
