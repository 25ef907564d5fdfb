use Rattle.std.proofs.Common.{◌++◌, map, take, drop, sym, ap, ◌∙◌, append-nil, arith}
use Rattle.std.proofs.lemmas.List.{take-append-drop}
use Rattle.qed_terms.specs.View.{formula_tree, term_tree}
use Rattle.walk_steps.proofs.Lists.{map_both}
use Rattle.memory_steps.specs.World.{after_picks, chosen}
use Rattle.memory_steps.specs.Renew.{facts}
use Rattle.memory_worlds.specs.Changes.{view_change}
use Rattle.memory_worlds.specs.View.{used_by, view_base}
use Rattle.memory_worlds.proofs.Renewed.{no_facts, none_left}
use Rattle.memory_worlds.proofs.renewals.renew_all.Goals as goal

pub returns-clause-terms : goal.returns-clause-terms
returns-clause-terms c =
    let i = c.loop-at.at in
    let terms = c.loop-at.terms.items in
    let rt = map term_tree (drop i terms) in
    let none = none_left view_base view_change term_tree (used_by c.loop-at.names) c.args.bases.now c.args.changes.now terms i (omega (arith, c.len.ensures, c.min.ensures, c.min-count.ensures, c.loop-at.invariant.long, c.loop-at-test.false)) in
    ap (map term_tree) (sym (take-append-drop i terms)) ∙ map_both term_tree (take i terms) (drop i terms) ∙ ap (λ ps. map term_tree (take i terms) ++ chosen ps rt) (sym none) ∙ c.loop-at.invariant.terms

pub returns-clause-known : goal.returns-clause-known
returns-clause-known c ss e =
    let i = c.loop-at.at in
    let rc = map view_change (drop i c.args.changes.now) in
    let rt = map term_tree (drop i c.loop-at.terms.items) in
    let known = map formula_tree c.loop-at.known.items in
    let none = none_left view_base view_change term_tree (used_by c.loop-at.names) c.args.bases.now c.args.changes.now c.loop-at.terms.items i (omega (arith, c.len.ensures, c.min.ensures, c.min-count.ensures, c.loop-at.invariant.long, c.loop-at-test.false)) in
    sym (append-nil known) ∙ ap (λ fs. known ++ fs) (sym (no_facts ss rc rt)) ∙ ap (λ ps. known ++ facts ss rc ps rt) (sym none) ∙ c.loop-at.invariant.known ss e

pub returns-clause-used : goal.returns-clause-used
returns-clause-used c =
    let i = c.loop-at.at in
    let none = none_left view_base view_change term_tree (used_by c.loop-at.names) c.args.bases.now c.args.changes.now c.loop-at.terms.items i (omega (arith, c.len.ensures, c.min.ensures, c.min-count.ensures, c.loop-at.invariant.long, c.loop-at-test.false)) in
    ap (λ ps. after_picks (map view_base (drop i c.args.bases.now)) ps (used_by c.loop-at.names)) (sym none) ∙ c.loop-at.invariant.used
