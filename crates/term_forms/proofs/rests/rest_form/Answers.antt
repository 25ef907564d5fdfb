use Rattle.std.proofs.Common.{rules, FitsSigned, ◌≡◌, ◌++◌, ◌+◌, ◌-◌, true, false, length, take, drop, sym, subst, ap, ◌∙◌}
use Rattle.std.specs.Int.{w128}
use Rattle.std.proofs.lemmas.Int.{to_z-of_z}
use Rattle.qed_linear.specs.Linear.{parts_fit, fits}
use Rattle.same_places.specs.Same.{PartsWithin}
use Rattle.same_terms.specs.Stands.{tree_parts}
use Rattle.term_forms.specs.Forms.{tree_of, count_of, signed_number}
use Rattle.term_forms.proofs.Signed.{all_signed, none_before, none_behind, some_rest, whole_rest, fits_back, behind_none}
use Rattle.term_forms.proofs.rests.rest_form.Goals as goal

pub returns-then-not-branch : goal.returns-then-not-branch
returns-then-not-branch c =
    let tree = tree_of c.args.table.now in
    let items = c.args.form.now.parts.items in
    let h : parts_fit (all_signed tree c.args.plus (take c.args.at c.deref.result.now)) ≡ false = rw c.if-not-branch.true at c.in_ok-put_signed.ensures in
    none_before tree c.args.plus (count_of c.args.table.now) (take c.args.at items) (drop (c.args.at + 1) items) c.args.form.now.constant (subst (λ xs. parts_fit (all_signed tree c.args.plus (take c.args.at xs)) ≡ false) c.deref.ensures.value h)

pub returns-then-not-branch-2 : goal.returns-then-not-branch-2
returns-then-not-branch-2 c =
    let tree = tree_of c.args.table.now in
    let items = c.args.form.now.parts.items in
    let n = c.args.at + 1 in
    let h : parts_fit (all_signed tree c.args.plus (take (length c.deref-2.result.now - n) (drop n c.deref-2.result.now))) ≡ false = rw c.if-not-branch-2.true at c.in_ok-put_signed-2.ensures in
    let k = subst (λ xs. parts_fit (all_signed tree c.args.plus (take (length xs - n) (drop n xs))) ≡ false) c.deref-2.ensures.value h in
    none_behind tree c.args.plus (count_of c.args.table.now) (take c.args.at items) (drop n items) c.args.form.now.constant (subst (λ xs. parts_fit (all_signed tree c.args.plus xs) ≡ false) (whole_rest items n) k)

pub returns-in-Some : goal.returns-in-Some
returns-in-Some c =
    let tree = tree_of c.args.table.now in
    let count = count_of c.args.table.now in
    let plus = c.args.plus in
    let items = c.args.form.now.parts.items in
    let n = c.args.at + 1 in
    let first : (tree_parts tree c.put_signed.new.into.items ≡ tree_parts tree c.new-parts.result.items ++ all_signed tree plus (take c.args.at c.deref.result.now)) × (PartsWithin count c.new-parts.result.items → PartsWithin count c.put_signed.new.into.items) × (parts_fit (all_signed tree plus (take c.args.at c.deref.result.now)) ≡ true) =
    rw c.if-not-branch.false at c.in_ok-put_signed.ensures in
    let second : (tree_parts tree c.put_signed-2.new.into.items ≡ tree_parts tree c.put_signed.new.into.items ++ all_signed tree plus (take (length c.deref-2.result.now - n) (drop n c.deref-2.result.now))) × (PartsWithin count c.put_signed.new.into.items → PartsWithin count c.put_signed-2.new.into.items) × (parts_fit (all_signed tree plus (take (length c.deref-2.result.now - n) (drop n c.deref-2.result.now))) ≡ true) =
    rw c.if-not-branch-2.false at c.in_ok-put_signed-2.ensures in
    let before = ap (λ xs. all_signed tree plus (take c.args.at xs)) c.deref.ensures.value in
    let behind = ap (λ xs. all_signed tree plus (take (length xs - n) (drop n xs))) c.deref-2.ensures.value ∙ ap (all_signed tree plus) (whole_rest items n) in
    let told = c.in-Some.ensures in
    let given : FitsSigned w128 c.args.form.now.constant = search rules in
    let z = c.form_with.ensures.constant ∙ to_z-of_z w128 c.in-Some.constant (fits_back c.in-Some.constant told.1) in
    let parts = ap (tree_parts tree) c.form_with.ensures.parts ∙ second.0 ∙ (λ i. (first.0 ∙ ap (λ xs. tree_parts tree xs ++ all_signed tree plus (take c.args.at c.deref.result.now)) c.new-parts.ensures.items ∙ before) i ++ behind i) in (
      some_rest tree plus count (take c.args.at items) (drop n items) c.args.form.now.constant (ap parts_fit (sym before) ∙ first.2) (ap parts_fit (sym behind) ∙ second.2) c.form_with.result.parts.items c.form_with.result.constant parts (z ∙ told.0 ∙ ap (signed_number plus) (to_z-of_z w128 c.args.form.now.constant given)) (ap fits z ∙ told.1),
      subst (PartsWithin count) (sym c.form_with.ensures.parts) (second.1 (first.1 (subst (PartsWithin count) (sym c.new-parts.ensures.items) (behind_none count)))),
    )
