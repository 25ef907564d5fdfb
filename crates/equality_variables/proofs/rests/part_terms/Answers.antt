use Rattle.std.proofs.Common.{[], ◌∷◌, map, take, sym, ◌∙◌, ap, subst}
use Rattle.qed_terms.proofs.Kept.{kept_over}
use Rattle.qed_linear.specs.Linear.{parts_fit, part_tree}
use Rattle.term_forms.specs.Forms.{signed}
use Rattle.equality_variables.specs.Forms.{part_of, IsPartTerm}
use Rattle.equality_variables.proofs.Parts.{all_signed, unfit_at, fit_more, trees_so_far, part_later}
use Rattle.equality_variables.proofs.Sums.{terms_more, trees_more}
use Rattle.equality_variables.proofs.rests.part_terms.Goals as goal

pub part_term-requires : goal.part_term-requires
part_term-requires g c =
    let held = g.S.TermStore.held in
    let part = c.index-parts-i.result in
    c.loop-i.invariant.older.still_held part.0 (subst (λ p. held c.args.store.now p.0) (sym c.index-parts-i.is) (c.requires c.loop-i.i part c.loop-i-test.true))

pub returns-in-None-clause-terms : goal.returns-in-None-clause-terms
returns-in-None-clause-terms g c =
    let held = g.S.TermStore.held in
    let tree = g.S.TermStore.tree in
    let s0 = c.args.store.now in
    let s = c.loop-i.store in
    let part = c.index-parts-i.result in
    let plus = c.args.plus in
    let here = subst (λ p. held s0 p.0) (sym c.index-parts-i.is) (c.requires c.loop-i.i part c.loop-i-test.true) in
    let same = part_later (held s0) (held s) (tree s0) (tree s) c.loop-i.invariant.older part here in
    let told = subst (IsPartTerm (held c.part_term.new.store) (tree c.part_term.new.store) (signed plus (part_of (tree s) part))) c.in-None.is c.in_ok-term.ensures.term in
    unfit_at (tree s0) plus c.args.parts.now c.loop-i.i part c.loop-i-test.true c.index-parts-i.is (ap (λ q. parts_fit (signed plus q ∷ [])) (sym same) ∙ told)

pub loop-i-preserved : goal.loop-i-preserved
loop-i-preserved g c =
    let held = g.S.TermStore.held in
    let tree = g.S.TermStore.tree in
    let s0 = c.args.store.now in
    let s = c.loop-i.store in
    let s' = c.part_term.new.store in
    let part = c.index-parts-i.result in
    let plus = c.args.plus in
    let parts = c.args.parts.now in
    let i = c.loop-i.i in
    let id = c.in-Some.id in
    let ids = c.loop-i.terms.items in
    let made = c.push.new.self.items in
    let push = c.in_ok-push-in-Some.ensures.items in
    let older = c.loop-i.invariant.older in
    let later = c.in_ok-term.ensures.older in
    let here = subst (λ p. held s0 p.0) (sym c.index-parts-i.is) (c.requires i part c.loop-i-test.true) in
    let same = part_later (held s0) (held s) (tree s0) (tree s) older part here in
    let told = subst (IsPartTerm (held s') (tree s') (signed plus (part_of (tree s) part))) c.in-Some.is c.in_ok-term.ensures.term in
    record {
      older = kept_over (held s0) (held s) (held s') (tree s0) (tree s) (tree s') older later;
      fit = fit_more (tree s0) plus parts i part c.loop-i-test.true c.index-parts-i.is c.loop-i.invariant.fit (ap (λ q. parts_fit (signed plus q ∷ [])) (sym same) ∙ told.0);
      terms = terms_more (held s) (held s') (tree s) (tree s') later ids c.loop-i.invariant.terms id made push told.1 told.2;
      trees = trees_so_far (tree s0) plus parts i part (map (tree s') made) c.loop-i-test.true c.index-parts-i.is
          (trees_more (held s) (held s') (tree s) (tree s') later ids c.loop-i.invariant.terms id made push (map part_tree (all_signed (tree s0) plus (take i parts))) (part_tree (signed plus (part_of (tree s0) part))) c.loop-i.invariant.trees (told.3 ∙ ap (λ q. part_tree (signed plus q)) same));
    }
