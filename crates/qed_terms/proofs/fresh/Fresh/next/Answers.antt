use Rattle.std.proofs.Common.{◌≡◌, suc, map, refl, sym, ◌∙◌, ap, arith}
use Rattle.std.specs.Prelude.{Some, None}
use Rattle.qed_terms.specs.Counts.{place_of, row_of}
use Rattle.qed_terms.specs.Fresh.{used_in}
use Rattle.qed_terms.proofs.Counting.{within, more_there, more_new, now_given, counted_there, none_count, one_item}
use Rattle.qed_terms.proofs.fresh.Fresh.next.Goals as goal

pub index-requires : goal.index-requires
index-requires c =
    let found : place_of c.args.self.now c.args.base.now ≡ Some c.in-Some.at = ap (λ rs. place_of rs c.args.base.now) (sym (ap (map row_of) c.as_slice.ensures.value ∙ c.self.view_is)) ∙ sym c.place.ensures ∙ c.in-Some.is in
    let w = within c.self.inside.counts.items c.args.self.now c.args.base.now c.in-Some.at c.self.view_is found in
    omega (arith, w, c.self.inside.counts.ok.0)

pub index_mut-requires : goal.index_mut-requires
index_mut-requires c =
    let found : place_of c.args.self.now c.args.base.now ≡ Some c.in-Some.at = ap (λ rs. place_of rs c.args.base.now) (sym (ap (map row_of) c.as_slice.ensures.value ∙ c.self.view_is)) ∙ sym c.place.ensures ∙ c.in-Some.is in
    let w = within c.self.inside.counts.items c.args.self.now c.args.base.now c.in-Some.at c.self.view_is found in
    omega (arith, w, c.self.inside.counts.ok.0)

pub returns-in_ok-given-in-Some-clause-counted : goal.returns-in_ok-given-in-Some-clause-counted
returns-in_ok-given-in-Some-clause-counted c =
    let found : place_of c.args.self.now c.args.base.now ≡ Some c.in-Some.at = ap (λ rs. place_of rs c.args.base.now) (sym (ap (map row_of) c.as_slice.ensures.value ∙ c.self.view_is)) ∙ sym c.place.ensures ∙ c.in-Some.is in
    let w = within c.self.inside.counts.items c.args.self.now c.args.base.now c.in-Some.at c.self.view_is found in
    let one = one_item c.self.inside.counts.items c.in-Some.at c.index_mut.result.now c.index.result.now w c.index_mut.ensures.value c.index.ensures in
    more_there c.self.inside.counts.items c.args.self.now c.args.base.now c.in-Some.at c.index.result.now (record { base = c.index_mut.result.now.base; given = c.in_ok-given-in-Some.given }) c.self.view_is found c.index.ensures (ap (λ n. n.base) one) c.in_ok-given-in-Some.ensures

pub returns-in_ok-given-in-Some-clause-number : goal.returns-in_ok-given-in-Some-clause-number
returns-in_ok-given-in-Some-clause-number c =
    let found : place_of c.args.self.now c.args.base.now ≡ Some c.in-Some.at = ap (λ rs. place_of rs c.args.base.now) (sym (ap (map row_of) c.as_slice.ensures.value ∙ c.self.view_is)) ∙ sym c.place.ensures ∙ c.in-Some.is in
    let w = within c.self.inside.counts.items c.args.self.now c.args.base.now c.in-Some.at c.self.view_is found in
    let one = one_item c.self.inside.counts.items c.in-Some.at c.index_mut.result.now c.index.result.now w c.index_mut.ensures.value c.index.ensures in
    let more = more_there c.self.inside.counts.items c.args.self.now c.args.base.now c.in-Some.at c.index.result.now (record { base = c.index_mut.result.now.base; given = c.in_ok-given-in-Some.given }) c.self.view_is found c.index.ensures (ap (λ n. n.base) one) c.in_ok-given-in-Some.ensures in
    let old = counted_there c.self.inside.counts.items c.args.self.now c.args.base.now c.in-Some.at c.index.result.now c.self.view_is found c.index.ensures in
    let n : c.in_ok-given-in-Some.given ≡ suc (used_in c.args.self.now c.args.base.now) = omega (arith, old, c.in_ok-given-in-Some.ensures) in
    n ∙ now_given (used_in c.args.self.now) _ c.args.base.now more

pub returns-in_ok-push-in-None-clause-counted : goal.returns-in_ok-push-in-None-clause-counted
returns-in_ok-push-in-None-clause-counted c =
    let none : place_of c.args.self.now c.args.base.now ≡ None = ap (λ rs. place_of rs c.args.base.now) (sym (ap (map row_of) c.as_slice.ensures.value ∙ c.self.view_is)) ∙ sym c.place.ensures ∙ c.in-None.is in
    let more = more_new c.self.inside.counts.items c.args.self.now c.args.base.now (record { base = c.in_ok-base-in-None.base; given = 1 }) c.self.view_is none c.in_ok-base-in-None.ensures refl in
    ap (λ items. used_in (map row_of items)) c.in_ok-push-in-None.ensures.items ∙ more

pub returns-in_ok-push-in-None-clause-number : goal.returns-in_ok-push-in-None-clause-number
returns-in_ok-push-in-None-clause-number c =
    let none : place_of c.args.self.now c.args.base.now ≡ None = ap (λ rs. place_of rs c.args.base.now) (sym (ap (map row_of) c.as_slice.ensures.value ∙ c.self.view_is)) ∙ sym c.place.ensures ∙ c.in-None.is in
    let more = more_new c.self.inside.counts.items c.args.self.now c.args.base.now (record { base = c.in_ok-base-in-None.base; given = 1 }) c.self.view_is none c.in_ok-base-in-None.ensures refl in
    let n : 1 ≡ suc (used_in c.args.self.now c.args.base.now) = omega (arith, none_count c.args.self.now c.args.base.now none) in
    n ∙ now_given (used_in c.args.self.now) _ c.args.base.now (ap (λ items. used_in (map row_of items)) c.in_ok-push-in-None.ensures.items ∙ more)
