use Rattle.std.proofs.Common.{◌≡◌, length, sym, ◌∙◌, ap, arith, rules, FitsSigned}
use Rattle.std.specs.Int.{w128}
use Rattle.std.proofs.lemmas.Int.{to_z-of_z}
use Rattle.qed_linear.specs.Linear.{lin}
use Rattle.qed_linear.specs.View.{parts_of}
use Rattle.forall_instances.specs.Forms.{place_in}
use Rattle.forall_instances.proofs.Parts.{place_below, nowhere_times, nowhere_others, some_times, some_left_out}
use Rattle.forall_instances.proofs.forms.taken_apart.Goals as goal

pub returns-then-at-len : goal.returns-then-at-len
returns-then-at-len c =
    let all = c.args.form.parts.items in
    let is : c.place_in-at.result ≡ place_in c.args.name.now (parts_of all) = c.place_in-at.ensures ∙ ap (λ z. place_in c.args.name.now (parts_of z)) c.as_slice.ensures.value in
    let none = c.if-at-len.true ∙ c.len.ensures ∙ sym c.as_slice.ensures.len ∙ ap length c.as_slice.ensures.value in
    record { times = nowhere_times c.args.name.now all c.place_in-at.result is none; others = nowhere_others c.args.name.now all c.place_in-at.result is none c.args.form.constant }

pub remove-part-requires : goal.remove-part-requires
remove-part-requires c =
    let all = c.args.form.parts.items in
    let is : c.place_in-at.result ≡ place_in c.args.name.now (parts_of all) = c.place_in-at.ensures ∙ ap (λ z. place_in c.args.name.now (parts_of z)) c.as_slice.ensures.value in
    let long = sym c.as_slice.ensures.len ∙ ap length c.as_slice.ensures.value in
    let below = place_below c.args.name.now all c.place_in-at.result is (λ e. c.if-at-len.false (e ∙ sym long ∙ sym c.len.ensures)) in
    omega (arith, below, long)

pub returns : goal.returns
returns c =
    let all = c.args.form.parts.items in
    let is : c.place_in-at.result ≡ place_in c.args.name.now (parts_of all) = c.place_in-at.ensures ∙ ap (λ z. place_in c.args.name.now (parts_of z)) c.as_slice.ensures.value in
    let long = sym c.as_slice.ensures.len ∙ ap length c.as_slice.ensures.value in
    let below = place_below c.args.name.now all c.place_in-at.result is (λ e. c.if-at-len.false (e ∙ sym long ∙ sym c.len.ensures)) in
    let fits : FitsSigned w128 c.remove-part.result.times = search rules in
    record {
      times = to_z-of_z w128 c.remove-part.result.times fits ∙ some_times c.args.name.now all c.place_in-at.result c.remove-part.result is below c.remove-part.ensures.value;
      others = ap (λ ps. lin ps c.args.form.constant) (ap parts_of c.remove-part.ensures.items ∙ some_left_out c.args.name.now all c.place_in-at.result is below);
    }
