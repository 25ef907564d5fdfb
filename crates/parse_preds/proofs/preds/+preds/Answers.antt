use Rattle.std.proofs.Common.{◌≡◌, List, Some, arith, sym, ap, subst, ◌∙◌, ◌-◌, ◌+◌, length}
use Rattle.std.proofs.lemmas.Result.{err_from_is_err_and}
use Rattle.c_syntax.specs.declared.token.Punct.TheVariants as p
use Rattle.c_syntax.specs.Pred as r
use Rattle.c_syntax.specs.View.{view_pred}
use Rattle.c_grammar.specs.Preds.{connected}
use Rattle.c_grammar.specs.Views.{Gives}
use Rattle.parse_preds.specs.declared.parts.Frame.{Frame}
use Rattle.parse_preds.specs.declared.parts.Part as code
use Rattle.parse_preds.specs.Next.{connective_at}
use Rattle.parse_preds.specs.Read.{iff_of, iff_at}
use Rattle.parse_preds.specs.Views.{view_connective}
use Rattle.parse_preds.specs.Parts.{ended, open_before, within, view_part, joined_at, implied_at, behind, around, around_all}
use Rattle.parse_preds.proofs.Finished.{chain_part_fault, chain_part_turn, iff_found, behind_fault, behind_ends, behind_turn}
use Rattle.parse_preds.proofs.preds.+preds.Goals as goal

pub joined_on-returns-in_err-right : goal.joined_on-returns-in_err-right
joined_on-returns-in_err-right t c =
    let e = err_from_is_err_and c.from_residual.result c.from_residual.ensures.1 in
    let left = length c.args.tokens.now - c.loop-turn.turn in
    rw (e.1, e.2, ← c.loop-turn.invariant)
    (chain_part_fault view_part connected (connective_at c.args.level) (joined_at c.args.types.now c.args.room c.args.turns (c.args.level - 1)) left (left - 1)
    (view_pred c.loop-turn.left) c.loop-turn.rest.now (view_connective c.in-Some.connective) c.in-Some.line c.in-Some.after.now _ (omega arith) c.in-Some.ensures c.in_err-right.ensures)

pub joined_on-returns-in-Open : goal.joined_on-returns-in-Open
joined_on-returns-in-Open t c =
    let left = length c.args.tokens.now - c.loop-turn.turn in
    let operator = view_connective c.in-Some.connective in
    let joined : open_before (around c.in-Open.around) ≡ within (connected operator c.in-Some.line (view_pred c.loop-turn.left)) (view_part c.in_ok-right.right) = sym (ap view_part c.in-Open.is) ∙ c.in_ok-both.ensures in
    sym c.loop-turn.invariant
    ∙ chain_part_turn connected (connective_at c.args.level) (joined_at c.args.types.now c.args.room c.args.turns (c.args.level - 1)) left (left - 1)
    (view_pred c.loop-turn.left) (view_part c.in_ok-right.right) (open_before (around c.in-Open.around)) c.loop-turn.rest.now
    operator c.in-Some.line c.in-Some.after.now c.in_ok-right.after.now (omega arith) c.in-Some.ensures c.in_ok-right.ensures joined

pub joined_on-loop-turn-preserved : goal.joined_on-loop-turn-preserved
joined_on-loop-turn-preserved t c =
    let left = length c.args.tokens.now - c.loop-turn.turn in
    let later = length c.args.tokens.now - (c.loop-turn.turn + 1) in
    let operator = view_connective c.in-Some.connective in
    let joined : ended (view_pred c.in-Closed.both) ≡ within (connected operator c.in-Some.line (view_pred c.loop-turn.left)) (view_part c.in_ok-right.right) = sym (ap view_part c.in-Closed.is) ∙ c.in_ok-both.ensures in
    sym
    (chain_part_turn connected (connective_at c.args.level) (joined_at c.args.types.now c.args.room c.args.turns (c.args.level - 1)) left later
    (view_pred c.loop-turn.left) (view_part c.in_ok-right.right) (ended (view_pred c.in-Closed.both)) c.loop-turn.rest.now
    operator c.in-Some.line c.in-Some.after.now c.in_ok-right.after.now (omega arith) c.in-Some.ensures c.in_ok-right.ensures joined)
    ∙ c.loop-turn.invariant

pub equivalent_on-returns-in_err-right : goal.equivalent_on-returns-in_err-right
equivalent_on-returns-in_err-right t c =
    let e = err_from_is_err_and c.from_residual.result c.from_residual.ensures.1 in
    let left = length c.args.tokens.now - c.loop-turn.turn in
    rw (e.1, e.2, ← c.loop-turn.invariant)
    (chain_part_fault view_part iff_of (iff_at 1) (implied_at c.args.types.now c.args.room c.args.turns) left (left - 1)
    (view_pred c.loop-turn.left) c.loop-turn.rest.now p.Iff c.in-Some.line c.in-Some.after.now _ (omega arith) (iff_found c.loop-turn.rest.now c.in-Some.line c.in-Some.after.now c.in-Some.ensures) c.in_err-right.ensures)

pub equivalent_on-returns-in-Open : goal.equivalent_on-returns-in-Open
equivalent_on-returns-in-Open t c =
    let left = length c.args.tokens.now - c.loop-turn.turn in
    let joined : open_before (around c.in-Open.around) ≡ within (r.iff c.in-Some.line (view_pred c.loop-turn.left)) (view_part c.in_ok-right.right) = sym (ap view_part c.in-Open.is) ∙ c.in_ok-both.ensures in
    sym c.loop-turn.invariant
    ∙ chain_part_turn iff_of (iff_at 1) (implied_at c.args.types.now c.args.room c.args.turns) left (left - 1)
    (view_pred c.loop-turn.left) (view_part c.in_ok-right.right) (open_before (around c.in-Open.around)) c.loop-turn.rest.now
    p.Iff c.in-Some.line c.in-Some.after.now c.in_ok-right.after.now (omega arith) (iff_found c.loop-turn.rest.now c.in-Some.line c.in-Some.after.now c.in-Some.ensures) c.in_ok-right.ensures joined

pub equivalent_on-loop-turn-preserved : goal.equivalent_on-loop-turn-preserved
equivalent_on-loop-turn-preserved t c =
    let left = length c.args.tokens.now - c.loop-turn.turn in
    let later = length c.args.tokens.now - (c.loop-turn.turn + 1) in
    let joined : ended (view_pred c.in-Closed.both) ≡ within (r.iff c.in-Some.line (view_pred c.loop-turn.left)) (view_part c.in_ok-right.right) = sym (ap view_part c.in-Closed.is) ∙ c.in_ok-both.ensures in
    sym
    (chain_part_turn iff_of (iff_at 1) (implied_at c.args.types.now c.args.room c.args.turns) left later
    (view_pred c.loop-turn.left) (view_part c.in_ok-right.right) (ended (view_pred c.in-Closed.both)) c.loop-turn.rest.now
    p.Iff c.in-Some.line c.in-Some.after.now c.in_ok-right.after.now (omega arith) (iff_found c.loop-turn.rest.now c.in-Some.line c.in-Some.after.now c.in-Some.ensures) c.in_ok-right.ensures joined)
    ∙ c.loop-turn.invariant

pub behind-returns-in_err-next : goal.behind-returns-in_err-next
behind-returns-in_err-next t c =
    let e = err_from_is_err_and c.from_residual-in_err-next.result c.from_residual-in_err-next.ensures.1 in
    rw (e.1, e.2, ← c.loop-left.invariant.whole)
    (behind_fault view_part view_pred c.args.types.now c.args.room c.loop-left.left (c.loop-left.left - 1) (around_all c.loop-left.opened.items) c.loop-left.rest.now _ (omega arith) c.in_err-next.ensures)

pub behind-returns-in-Closed : goal.behind-returns-in-Closed
behind-returns-in-Closed t c =
    let took = c.in_ok-next.ensures ∙ ap (λ (x : code.Part). Some (view_part x, c.in_ok-next.after.now)) c.in-Closed.is in
    subst (Gives view_pred c.all_closed.result)
    (sym (behind_ends c.args.types.now c.args.room c.loop-left.left (c.loop-left.left - 1) (around_all c.loop-left.opened.items) c.loop-left.rest.now (view_pred c.in-Closed.inside) c.in_ok-next.after.now (omega arith) took)
    ∙ c.loop-left.invariant.whole)
    c.all_closed.ensures

pub behind-loop-left-preserved : goal.behind-loop-left-preserved
behind-loop-left-preserved t c =
    let took = c.in_ok-next.ensures ∙ ap (λ (x : code.Part). Some (view_part x, c.in_ok-next.after.now)) c.in-Open.is in
    record {
      within = omega arith;
      whole =
          ap (λ (parts : List (List Frame)). behind c.args.types.now c.args.room (c.loop-left.left - 1) (around_all parts) c.in_ok-next.after.now) c.in_ok-push-in-Open.ensures.items
          ∙ behind_turn c.args.types.now c.args.room c.loop-left.left (c.loop-left.left - 1) c.loop-left.opened.items c.in-Open.around c.loop-left.rest.now c.in_ok-next.after.now (omega arith) took
          ∙ c.loop-left.invariant.whole;
    }
