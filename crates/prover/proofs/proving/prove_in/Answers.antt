use Rattle.std.proofs.Common.{true, false, ◌≡◌, [], sym, ap, ◌∙◌, subst}
use Rattle.qed_terms.specs.Order.{same}
use Rattle.qed_terms.specs.Tree.{true_tree, not_of}
use Rattle.qed_terms.specs.View.{view_setting}
use Rattle.qed_terms.proofs.Total.{same_exact}
use Rattle.stored_normals.proofs.Keeping.{later_kept}
use Rattle.branches.specs.Expansion.{Runs, from_formula}
use Rattle.branches.specs.Ids.{end_of}
use Rattle.instance_rows.specs.Round.{IsRound}
use Rattle.expansion_ends.specs.Goals.{proving}
use Rattle.prover.specs.Prover.{IsClosed}
use Rattle.prover.proofs.Sound.{proved_at_once, proved_by_branches, proved_late, not_true}
use Rattle.prover.proofs.proving.prove_in.Goals as goal

pub returns-then-is_true-clause-verdict : goal.returns-then-is_true-clause-verdict
returns-then-is_true-clause-verdict g c =
    let tree = g.S.TermStore.tree c.normal.new.store in
    let normal = tree c.in_ok-normal.normal in
    proved_at_once (view_setting c.args.world.now) c.requires.regular c.args.fuel c.args.branches (g.S.TermStore.tree c.args.store.now c.args.goal) normal c.in_ok-normal.ensures.normal
    (sym (same_exact true_tree normal (sym c.if-is_true.ensures)))

pub normal-requires-2-clause-ready : goal.normal-requires-2-clause-ready
normal-requires-2-clause-ready g c =
    later_kept _ _ _ _ _ _ _ c.in_ok-negation.ensures.older c.in_ok-normal.ensures.ready

pub returns-then-closes-clause-verdict : goal.returns-then-closes-clause-verdict
returns-then-closes-clause-verdict g c =
    let before = g.S.TermStore.tree c.args.store.now in
    let first = g.S.TermStore.tree c.normal.new.store in
    let second = g.S.TermStore.tree c.negation_in.new.store in
    let third = g.S.TermStore.tree c.normal-2.new.store in
    let normal = first c.in_ok-normal.normal in
    let kept : first c.args.goal ≡ before c.args.goal = c.in_ok-normal.ensures.older.same_tree c.args.goal c.requires.held in
    proved_late (view_setting c.args.world.now) c.requires.regular c.args.fuel c.args.branches (before c.args.goal) normal (second c.in_ok-negation.negation) (third c.in_ok-start.start)
    c.in_ok-normal.ensures.normal (not_true normal c.if-is_true.ensures)
    (c.in_ok-negation.ensures.stands ∙ ap not_of kept) c.in_ok-start.ensures.normal (c.in_ok-closes.ensures.runs c.if-closes.true)

pub expand-requires-clause-ready : goal.expand-requires-clause-ready
expand-requires-clause-ready g c =
    later_kept _ _ _ _ _ _ _ c.in_ok-closes.ensures.older c.in_ok-start.ensures.ready

pub returns-clause-verdict : goal.returns-clause-verdict
returns-clause-verdict g c =
    let before = g.S.TermStore.tree c.args.store.now in
    let first = g.S.TermStore.tree c.normal.new.store in
    let second = g.S.TermStore.tree c.negation_in.new.store in
    let third = g.S.TermStore.tree c.normal-2.new.store in
    let start = c.in_ok-start.start in
    let normal = first c.in_ok-normal.normal in
    let verdict = c.in_ok-verdict.verdict in
    let kept : first c.args.goal ≡ before c.args.goal = c.in_ok-normal.ensures.older.same_tree c.args.goal c.requires.held in
    let still = c.in_ok-closes.ensures.older.same_tree start c.in_ok-start.ensures.held in
    let runs = subst (λ t. Runs (proving IsClosed IsRound (view_setting c.args.world.now)) c.args.branches (from_formula c.args.fuel t) 0 [] (end_of verdict)) still c.in_ok-verdict.ensures.runs in
    proved_by_branches (view_setting c.args.world.now) c.requires.regular c.args.fuel c.args.branches (before c.args.goal) normal (second c.in_ok-negation.negation) (third start) verdict
    c.in_ok-normal.ensures.normal (not_true normal c.if-is_true.ensures)
    (c.in_ok-negation.ensures.stands ∙ ap not_of kept) c.in_ok-start.ensures.normal runs
