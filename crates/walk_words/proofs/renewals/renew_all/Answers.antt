use Rattle.std.proofs.Common.{◌≡◌, ◌+◌, ◌++◌, map, drop, sym, ap, ◌∙◌, append-nil, arith, get_or}
use Rattle.std.proofs.lemmas.List.{at_drop_more}
use Rattle.qed_terms.specs.Fresh.{used_in}
use Rattle.qed_terms.specs.View.{formula_tree, term_tree}
use Rattle.walk_steps.specs.World.{after_picks, chosen}
use Rattle.walk_steps.specs.Renew.{facts}
use Rattle.walk_words.specs.declared.renewals.Change.TheVariants as change
use Rattle.walk_words.specs.View.{view_change}
use Rattle.walk_steps.proofs.Lists.{map_both}
use Rattle.walk_words.proofs.Pushing.{map_push}
use Rattle.walk_words.proofs.Joined.{dropped, dropped_same}
use Rattle.walk_words.proofs.Renewed.{renewed_next, facts_next, renewals_next, no_facts, none_left}
use Rattle.walk_words.proofs.renewals.renew_all.Goals as goal

pub loop-at-preserved : goal.loop-at-preserved
loop-at-preserved c =
    let before = used_in c.loop-at.fresh in
    let after = used_in c.renew_one.new.fresh in
    let i = c.loop-at.at in
    let b = c.index-bases-at.result in
    let ch = get_or c.args.changes.now i change.Keeps in
    let t = c.index-slots-at.result in
    let bs = drop (i + 1) c.args.bases.now in
    let rb = drop i c.args.bases.now in
    let cs = map view_change (drop (i + 1) c.args.changes.now) in
    let rc = map view_change (drop i c.args.changes.now) in
    let ts = map term_tree (drop (i + 1) c.args.slots.now) in
    let rt = map term_tree (drop i c.args.slots.now) in
    let eb = dropped_same c.args.bases.now i b (omega (arith, c.min.ensures, c.min-count.ensures, c.loop-at-test.true)) c.index-bases-at.is in
    let e = at_drop_more (map view_change) c.args.changes.now i change.Keeps (omega (arith, c.min.ensures, c.min-count.ensures, c.loop-at-test.true)) in
    let f = dropped term_tree c.args.slots.now i t (omega (arith, c.min.ensures, c.min-count.ensures, c.loop-at-test.true)) c.index-slots-at.is in
    let made = c.in_ok-renew_one.ensures in
    record {
      slots = renewed_next before after b bs rb (view_change ch) cs rc (term_tree t) ts rt eb e f made.used (map term_tree c.loop-at.renewed.items) (map term_tree c.push.new.self.items) (term_tree c.in_ok-renew_one.field-0) made.term
          (ap (map term_tree) c.in_ok-push.ensures.items ∙ map_push term_tree c.loop-at.renewed.items c.in_ok-renew_one.field-0)
          ∙ c.loop-at.invariant.slots;
      known = λ ss. facts_next before after b bs rb (view_change ch) cs rc (term_tree t) ts rt eb e f made.used ss (map formula_tree c.loop-at.known.items) (map formula_tree c.renew_one.new.known.items) (made.known ss) ∙ c.loop-at.invariant.known ss;
      used = renewals_next before after b bs rb (view_change ch) cs rc (term_tree t) ts rt eb e f made.used ∙ c.loop-at.invariant.used;
    }

pub returns-clause-slots : goal.returns-clause-slots
returns-clause-slots c =
    let now = used_in c.loop-at.fresh in
    let i = c.loop-at.at in
    let slots = c.args.slots.now in
    let done = c.loop-at.renewed.items in
    let rt = map term_tree (drop i slots) in
    let none = none_left term_tree view_change now c.args.bases.now c.args.changes.now slots i (omega (arith, c.min.ensures, c.min-count.ensures, c.loop-at-test.false)) in
    let at : c.min-count.result ≡ i = omega (arith, c.loop-at.auto.at-end, c.loop-at-test.false) in
    ap (map term_tree) c.in_ok-extend_slots.ensures ∙ map_both term_tree done (drop c.min-count.result slots) ∙ ap (λ n. map term_tree done ++ map term_tree (drop n slots)) at
    ∙ ap (λ ps. map term_tree done ++ chosen ps rt) (sym none) ∙ c.loop-at.invariant.slots

pub returns-clause-known : goal.returns-clause-known
returns-clause-known c ss =
    let now = used_in c.loop-at.fresh in
    let i = c.loop-at.at in
    let rc = map view_change (drop i c.args.changes.now) in
    let rt = map term_tree (drop i c.args.slots.now) in
    let known = map formula_tree c.loop-at.known.items in
    let none = none_left term_tree view_change now c.args.bases.now c.args.changes.now c.args.slots.now i (omega (arith, c.min.ensures, c.min-count.ensures, c.loop-at-test.false)) in
    sym (append-nil known) ∙ ap (λ fs. known ++ fs) (sym (no_facts ss rc rt)) ∙ ap (λ ps. known ++ facts ss rc ps rt) (sym none) ∙ c.loop-at.invariant.known ss

pub returns-clause-used : goal.returns-clause-used
returns-clause-used c =
    let now = used_in c.loop-at.fresh in
    let i = c.loop-at.at in
    let none = none_left term_tree view_change now c.args.bases.now c.args.changes.now c.args.slots.now i (omega (arith, c.min.ensures, c.min-count.ensures, c.loop-at-test.false)) in
    ap (λ ps. after_picks (drop i c.args.bases.now) ps now) (sym none) ∙ c.loop-at.invariant.used
