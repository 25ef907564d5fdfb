use Rattle.std.proofs.Common.{◌++◌, map, refl, sym}
use Rattle.qed_terms.specs.View.{view_logic}
use Rattle.qed_terms.proofs.Kept.{kept_trees}
use Rattle.instance_rows.specs.Candidates.{offset_candidates, forall_candidates, marker}
use Rattle.branch_accesses.specs.Ids.{access_of, load_of}
use Rattle.trigger_instances.specs.Ids.{call_of}
use Rattle.instance_rounds.proofs.GivenLaws.{both_given, given_as}
use Rattle.instance_rounds.proofs.given.given_by.Goals as goal

pub returns-clause-given : goal.returns-clause-given
returns-clause-given g c ts seen =
    let held = g.S.TermStore.held in
    let tree = g.S.TermStore.tree in
    let first = c.args.store.now in
    let second = c.offset_formulas.new.store in
    let third = c.forall_formulas.new.store in
    let fs = map view_logic c.args.functions.now in
    let ls = c.args.literals.now in
    let offsets = c.in_ok-offsets.offsets.items in
    let foralls = map (tree third) c.in_ok-foralls.foralls.items in
    let asked = c.as_slice-asked.ensures.value in
    let later = sym (kept_trees (held second) (held third) (tree second) (tree third) offsets c.in_ok-foralls.ensures.older c.in_ok-offsets.ensures.held) in
    both_given (held first) (held second) (tree first) (tree second) c.in_ok-offsets.ensures.older fs ls ts c.args.seen.now (map (tree third) offsets) foralls c.requires.literals c.requires.seen seen
    (given_as _ _ _ _ _ _ (λ i. map (tree first) ls ++ map marker (map (tree first) (asked i))) (λ i. offset_candidates (map (load_of (tree first)) (c.as_slice.ensures.value i))) later c.in_ok-offsets.ensures.given)
    (given_as _ _ _ _ _ _ (λ i. map (tree second) ls ++ map marker (map (tree second) (asked i)))
    (λ i. forall_candidates fs (map (access_of (tree second)) (c.as_slice-2.ensures.value i)) (map (call_of (tree second)) (c.as_slice-3.ensures.value i)) (map (tree second) ls)) refl c.in_ok-foralls.ensures.given)
