use Rattle.std.proofs.Common.{map, sym, subst}
use Rattle.linear_chains.specs.View.{link_of}
use Rattle.class_links.specs.ClassForms.{number_for}
use Rattle.linear_prover.proofs.Answering.{Gives, no_relation, beyond, one_link, two_links}
use Rattle.linear_prover.proofs.links.literal_links.Goals as goal

pub returns-in_default : goal.returns-in_default
returns-in_default c =
    let t = c.args.table.now in
    let look = number_for c.args.numbers.now.entries in
    subst (λ xs. Gives t c.requires.kept c.args.literal c.args.classes.now look c.requires.within (map link_of xs)) (sym c.new.ensures.items) (no_relation t c.requires.kept c.args.literal c.args.classes.now look c.requires.within c.in_default.ensures)

pub returns-in_default-2 : goal.returns-in_default-2
returns-in_default-2 c =
    let t = c.args.table.now in
    let look = number_for c.args.numbers.now.entries in
    let over = rw c.in_default-2.is at c.in_ok-link.ensures in
    subst (λ xs. Gives t c.requires.kept c.args.literal c.args.classes.now look c.requires.within (map link_of xs)) (sym c.new-in_default-2.ensures.items) (beyond t c.requires.kept c.args.literal c.args.classes.now look c.requires.within c.in-Some.said c.in-Some.ensures c.in_ok-form.form c.in_ok-form.ensures.form c.in_ok-form.ensures.below over)

pub returns-then-said : goal.returns-then-said
returns-then-said c =
    let t = c.args.table.now in
    let look = number_for c.args.numbers.now.entries in
    let link = rw c.in-Some-2.is at c.in_ok-link.ensures in
    subst (Gives t c.requires.kept c.args.literal c.args.classes.now look c.requires.within) (sym c.in_ok-links.ensures) (two_links t c.requires.kept c.args.literal c.args.classes.now look c.requires.within c.in-Some.said c.in-Some.ensures c.in_ok-form.form c.in_ok-form.ensures.form c.in_ok-form.ensures.below (link_of c.in-Some-2.link) link c.if-said.true)

pub returns : goal.returns
returns c =
    let t = c.args.table.now in
    let look = number_for c.args.numbers.now.entries in
    let link = rw c.in-Some-2.is at c.in_ok-link.ensures in
    subst (Gives t c.requires.kept c.args.literal c.args.classes.now look c.requires.within) (sym c.in_ok-links-2.ensures) (one_link t c.requires.kept c.args.literal c.args.classes.now look c.requires.within c.in-Some.said c.in-Some.ensures c.in_ok-form.form c.in_ok-form.ensures.form c.in_ok-form.ensures.below (link_of c.in-Some-2.link) link c.if-said.false)
