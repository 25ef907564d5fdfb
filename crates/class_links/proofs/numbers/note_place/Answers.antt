use Rattle.std.proofs.Common.{rules, FitsSigned, Some, sym, ◌∙◌, ap, subst}
use Rattle.std.specs.Int.{w128}
use Rattle.std.proofs.lemmas.Int.{to_z-of_z}
use Rattle.same_places.specs.Same.{at}
use Rattle.term_forms.specs.Forms.{tree_of}
use Rattle.class_links.specs.ClassForms.{number_for, LacksLess}
use Rattle.class_links.proofs.Least.{least_put}
use Rattle.class_links.proofs.numbers.note_place.Goals as goal

pub returns : goal.returns
returns c =
    let class = at c.args.classes.now in
    let look = number_for c.args.numbers.now.entries in
    let fits : FitsSigned w128 c.in-Some.number = search rules in
    let same = to_z-of_z w128 c.in-Some.number fits in
    least_put c.args.place (tree_of c.args.table.now) class look c.requires.least c.in-Some.number (sym c.number_at.ensures ∙ c.in-Some.is) (number_for c.note.new.numbers.entries) (subst (LacksLess look (class c.args.place)) same c.if-has_less.ensures) (c.in_ok-note.ensures.new ∙ ap Some same) c.in_ok-note.ensures.others
