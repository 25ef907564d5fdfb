use Rattle.std.proofs.Common.{ℕ, Bool, refl, ap, arith, take, drop}
use Rattle.std.proofs.lemmas.List.{take_rest, length-take}
use Rattle.c_lexer.proofs.Items.{line_grows, annotation_step}
use Rattle.c_lexer.proofs.lexer.annotation.Goals as goal

pub returns-clause-bound : goal.returns-clause-bound
returns-clause-bound c =
    let text = take c.args.len (drop 3 c.args.bytes.now) in
    let last = ap (λ (p : ℕ × Bool). p.0) (rw take_rest at c.past-last.ensures) in
    (refl, omega (arith, last, line_grows c.args.line text, length-take c.args.len (drop 3 c.args.bytes.now)))

pub returns-clause-items : goal.returns-clause-items
returns-clause-items c =
    let last = ap (λ (p : ℕ × Bool). p.0) (rw take_rest at c.past-last.ensures) in
    annotation_step c.args.tokens.now c.put.new.tokens c.inside.new.tokens c.put-2.new.tokens c.args.line c.past-last.result.0 c.args.len c.args.close c.args.bytes.now
    c.in_ok-put.ensures.items (rw take_rest at c.in_ok-inside.ensures.items) c.in_ok-put-2.ensures.items last
