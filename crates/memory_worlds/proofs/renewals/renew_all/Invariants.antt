use Rattle.std.proofs.Common.{◌≡◌, ◌++◌, List, map, take, drop, length}
use Rattle.qed_terms.specs.View.{formula_tree, term_tree}
use Rattle.memory_steps.specs.Forms.{Slots}
use Rattle.memory_steps.specs.World.{after_picks, chosen}
use Rattle.memory_steps.specs.Renew.{renewals, facts}
use Rattle.memory_worlds.specs.Changes.{present_table, view_change}
use Rattle.memory_worlds.specs.View.{used_by, view_base}
use Rattle.memory_worlds.proofs.renewals.renew_all.Given as goal

-- those so far and those to come are all
abbrev pub invariant-loop-at : goal.invariant-loop-at
invariant-loop-at l =
    let now = used_by l.names in
    let before = used_by l.initial.names in
    let bases = map view_base l.bases in
    let bs = map view_base (drop l.at l.bases) in
    let cs = map view_change l.changes in
    let rc = map view_change (drop l.at l.changes) in
    let ts = map term_tree l.initial.terms.items in
    let rt = map term_tree (drop l.at l.terms.items) in
    record {
      long : length l.terms.items ≡ length l.initial.terms.items;
      terms : map term_tree (take l.at l.terms.items) ++ chosen (renewals bs now rc rt) rt ≡ chosen (renewals bases before cs ts) ts;
      known : (ss : List Slots) → present_table ss ≡ term_tree l.table
          → map formula_tree l.known.items ++ facts ss rc (renewals bs now rc rt) rt ≡ map formula_tree l.initial.known.items ++ facts ss cs (renewals bases before cs ts) ts;
      used : after_picks bs (renewals bs now rc rt) now ≡ after_picks bases (renewals bases before cs ts) before;
    }
