use Rattle.std.proofs.Common.{rules, ◌≡◌, true, length, slice_index_or, arith, refl, ap, ◌∙◌}
use Rattle.c_sequence.specs.Sequence.{plain_of, is_of_context}
use Rattle.c_sequence.proofs.Contexts.{inside_context, other_number}
use Rattle.c_sequence.proofs.full.is_sequenced.Goals as goal

pub loop-rest-preserved : goal.loop-rest-preserved
loop-rest-preserved c =
    let context : is_of_context c.in-Apply.op ≡ true = search rules in
    let single : length c.in-Apply.operands ≡ 1 = omega (arith, ap length c.as_slice-in-Apply.ensures) in
    inside_context (plain_of c.args.globals.now c.args.locals.now) c.loop-rest.rest.now c.in-Apply.op c.in-Apply.operands c.index-as_slice-0.result _ c.in-Apply.is context single
    (c.index-as_slice-0.is ∙ ap (λ vs. slice_index_or vs 0 c.index-as_slice-0.result) c.as_slice-in-Apply.ensures) refl ∙ c.loop-rest.invariant

pub returns-then-len-ne1 : goal.returns-then-len-ne1
returns-then-len-ne1 c =
    let several : length c.in-Apply.operands ≡ 1 → ⊥ = λ one. c.if-len-ne1.true (c.len.ensures ∙ one) in
    other_number (plain_of c.args.globals.now c.args.locals.now) c.loop-rest.rest.now c.in-Apply.op c.in-Apply.operands _ c.in-Apply.is several c.is_fine_alone-then-len-ne1.ensures ∙ c.loop-rest.invariant
