use Rattle.std.proofs.Common.{arith, ◌≡◌, ◌<◌, ◌≤◌, length, ap, subst, ◌∙◌, get_or}
use Rattle.typed_prog.specs.Tree as t
use Rattle.typed_prog.specs.View.{view_value, view_values}
use Rattle.c_decls.specs.Constants.{is_address}
use Rattle.c_decls.specs.Reaching.{reached, is_address_applied}
use Rattle.c_decls.proofs.Operands.{operand_past, operand_there}
use Rattle.c_decls.proofs.constants.is_address.Goals as goal

pub returns-then-at-len : goal.returns-then-at-len
returns-then-at-len c =
    let given : reached c.in-Apply.operands c.reach_of.result ≡ is_address_applied c.loop-value.or_null c.in-Apply.op (t.values_of (view_values c.in-Apply.operands)) =
    subst (λ vs. reached vs c.reach_of.result ≡ is_address_applied c.loop-value.or_null c.in-Apply.op (t.values_of (view_values vs))) c.as_slice.ensures c.reach_of.ensures in
    let past : length c.in-Apply.operands ≤ c.in-Operand.at = omega (arith, c.len.ensures, c.if-at-len.true) in
    operand_past c.loop-value.or_null c.in-Operand.with_null c.loop-value.value.now c.in-Apply.op c.in-Apply.operands c.reach_of.result c.in-Operand.at (is_address c.args.or_null (view_value c.args.value.now))
    c.in-Apply.is given c.in-Operand.is past c.loop-value.invariant

pub loop-value-preserved : goal.loop-value-preserved
loop-value-preserved c =
    let given : reached c.in-Apply.operands c.reach_of.result ≡ is_address_applied c.loop-value.or_null c.in-Apply.op (t.values_of (view_values c.in-Apply.operands)) =
    subst (λ vs. reached vs c.reach_of.result ≡ is_address_applied c.loop-value.or_null c.in-Apply.op (t.values_of (view_values vs))) c.as_slice.ensures c.reach_of.ensures in
    let within : c.in-Operand.at < length c.in-Apply.operands = omega (arith, c.len.ensures, c.if-at-len.false) in
    operand_there c.loop-value.or_null c.in-Operand.with_null c.loop-value.value.now c.in-Apply.op c.in-Apply.operands c.reach_of.result c.in-Operand.at c.index-as_slice-at.result
    (is_address c.args.or_null (view_value c.args.value.now))
    c.in-Apply.is given c.in-Operand.is within
    (c.index-as_slice-at.is ∙ ap (λ vs. get_or vs c.in-Operand.at c.index-as_slice-at.result) c.as_slice-in-Operand.ensures) c.loop-value.invariant
