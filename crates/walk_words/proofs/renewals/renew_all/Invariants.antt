use Rattle.std.proofs.Common.{◌≡◌, ◌++◌, List, map, drop}
use Rattle.qed_terms.specs.Fresh.{used_in}
use Rattle.qed_terms.specs.View.{formula_tree, term_tree}
use Rattle.walk_steps.specs.Forms.{Slots}
use Rattle.walk_steps.specs.World.{after_picks, chosen}
use Rattle.walk_steps.specs.Renew.{renewals, facts}
use Rattle.walk_words.specs.View.{view_change}
use Rattle.walk_words.proofs.renewals.renew_all.Given as goal

-- those so far and those to come are all
abbrev pub invariant-loop-at : goal.invariant-loop-at
invariant-loop-at l =
    let now = used_in l.fresh in
    let before = used_in l.initial.fresh in
    let bs = drop l.at l.bases in
    let cs = map view_change l.changes in
    let rc = map view_change (drop l.at l.changes) in
    let ts = map term_tree l.slots in
    let rt = map term_tree (drop l.at l.slots) in
    record {
      slots : map term_tree l.renewed.items ++ chosen (renewals bs now rc rt) rt ≡ chosen (renewals l.bases before cs ts) ts;
      known : (ss : List Slots) → map formula_tree l.known.items ++ facts ss rc (renewals bs now rc rt) rt ≡ map formula_tree l.initial.known.items ++ facts ss cs (renewals l.bases before cs ts) ts;
      used : after_picks bs (renewals bs now rc rt) now ≡ after_picks l.bases (renewals l.bases before cs ts) before;
    }
