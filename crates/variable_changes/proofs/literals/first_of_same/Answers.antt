use Rattle.std.proofs.Common.{sym, ◌∙◌, ap}
use Rattle.std.specs.Prelude.{if◌then◌else◌}
use Rattle.qed_terms.specs.declared.head.Sort.TheVariants as sort
use Rattle.branches.specs.Ids.{branch_of}
use Rattle.branch_changes.specs.Givens.{first_put, side_givens, variable}
use Rattle.variable_changes.specs.Found.{is_second_later}
use Rattle.variable_changes.proofs.Memories.{sides_told}
use Rattle.variable_changes.proofs.literals.first_of_same.Goals as goal

pub returns-then-is_second_later-clause-first : goal.returns-then-is_second_later-clause-first
returns-then-is_second_later-clause-first g c =
    let s = c.args.store.now in
    let tree = g.S.TermStore.tree s in
    let m = tree c.args.memory in
    let n = tree c.args.other in
    let order = c.is_second_later.ensures ∙ (λ i. is_second_later (variable sort.Memory (c.head.ensures i)) (variable sort.Memory (c.head-2.ensures i))) in
    let sides = sides_told m n (g.met.S.TermStore.well_formed s c.args.memory c.requires.memory) (g.met.S.TermStore.well_formed s c.args.other c.requires.other) c.is_second_later.result order in
    c.in_ok-first.ensures.first ∙ ap (first_put (branch_of tree c.args.branch.now)) (sym (sides ∙ ap (λ b. if b then side_givens n m else side_givens m n) c.if-is_second_later.true))

pub returns-clause-first : goal.returns-clause-first
returns-clause-first g c =
    let s = c.args.store.now in
    let tree = g.S.TermStore.tree s in
    let m = tree c.args.memory in
    let n = tree c.args.other in
    let order = c.is_second_later.ensures ∙ (λ i. is_second_later (variable sort.Memory (c.head.ensures i)) (variable sort.Memory (c.head-2.ensures i))) in
    let sides = sides_told m n (g.met.S.TermStore.well_formed s c.args.memory c.requires.memory) (g.met.S.TermStore.well_formed s c.args.other c.requires.other) c.is_second_later.result order in
    c.in_ok-second.ensures.first ∙ ap (first_put (branch_of tree c.args.branch.now)) (sym (sides ∙ ap (λ b. if b then side_givens n m else side_givens m n) c.if-is_second_later.false))
