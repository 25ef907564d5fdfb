use Rattle.std.proofs.Common.{◌≡◌, true, false, map, take, take_all, length, ◌+◌, sym, ◌∙◌, ap, refl, subst, arith}
use Rattle.qed_terms.specs.Tree.{node, stop, one, two, three, trees_of, list_of}
use Rattle.qed_terms.specs.View.{formula_tree, term_tree, view_setting, view_logic}
use Rattle.qed_terms.specs.declared.head.Head.TheVariants as h
use Rattle.qed_terms.specs.declared.term.Term.TheVariants as t
use Rattle.qed_terms.proofs.Equations.{term_tree-Num, term_tree-Var, term_tree-Op, term_tree-Ite, term_tree-App, formula_tree-True, formula_tree-False, formula_tree-Rel, formula_tree-Not, formula_tree-And, formula_tree-Or, formula_tree-Imp, formula_tree-Iff, formula_tree-Forall, formula_tree-Exists}
use Rattle.qed_terms.proofs.Lists.{list_of-trees_of}
use Rattle.qed_linear.proofs.Places.{if_ok}
use Rattle.qed_rules.specs.Passes.{pass_call, normal_node, normal_junction, pass_relation}
use Rattle.qed_rules.specs.Rules.{step}
use Rattle.qed_rules.specs.View.{view_pass}
use Rattle.qed_simplify.specs.Normal.{Normal, Normals, Settles, nothing, each}
use Rattle.qed_simplify.proofs.Existence.{work_on}
use Rattle.qed_simplify.proofs.Settled.{num_normal}
use Rattle.qed_simplify.proofs.Steps.{item_work, less, pass_less, made, settled_at, normals_more, formula_of, term_of, leaf, name_normal}
use Rattle.qed_simplify.proofs.walk.+normalise.Goals as goal

pub normalise-normalise_terms-requires : goal.normalise-normalise_terms-requires
normalise-normalise_terms-requires l c =
    let k = (less (view_setting c.args.world.now)) c.requires (formula_tree c.args.formula.now) (h.Form c.in-Rel.op) (trees_of (map term_tree c.in-Rel.terms)) (ap formula_tree c.in-Rel.is ∙ formula_tree-Rel c.in-Rel.op c.in-Rel.terms) in
    (omega (arith, k, c.decreases), c.requires)

pub normalise-normalise-requires : goal.normalise-normalise-requires
normalise-normalise-requires l c =
    let k = (less (view_setting c.args.world.now)) c.requires (formula_tree c.args.formula.now) h.Not (one (formula_tree c.in-Not.inner)) (ap formula_tree c.in-Not.is ∙ formula_tree-Not c.in-Not.inner) in
    let e0 = ap (λ z. (work_on (view_setting c.args.world.now)) (formula_tree z)) c.get.ensures in
    (omega (arith, k, e0, c.decreases), c.requires)

pub normalise-normalise_all-requires : goal.normalise-normalise_all-requires
normalise-normalise_all-requires l c =
    let k = (less (view_setting c.args.world.now)) c.requires (formula_tree c.args.formula.now) h.And (trees_of (map formula_tree c.in-And.operands)) (ap formula_tree c.in-And.is ∙ formula_tree-And c.in-And.operands) in
    (omega (arith, k, c.decreases), c.requires)

pub normalise-normalise_all-requires-in-Or : goal.normalise-normalise_all-requires-in-Or
normalise-normalise_all-requires-in-Or l c =
    let k = (less (view_setting c.args.world.now)) c.requires (formula_tree c.args.formula.now) h.Or (trees_of (map formula_tree c.in-Or.operands)) (ap formula_tree c.in-Or.is ∙ formula_tree-Or c.in-Or.operands) in
    (omega (arith, k, c.decreases), c.requires)

pub normalise-normalise_both-requires : goal.normalise-normalise_both-requires
normalise-normalise_both-requires l c =
    let k = (less (view_setting c.args.world.now)) c.requires (formula_tree c.args.formula.now) h.Imp (two (formula_tree c.in-Imp.from) (formula_tree c.in-Imp.to)) (ap formula_tree c.in-Imp.is ∙ formula_tree-Imp c.in-Imp.from c.in-Imp.to) in
    let e0 = ap (λ z. (work_on (view_setting c.args.world.now)) (formula_tree z)) c.get-in-Imp.ensures in
    let e1 = ap (λ z. (work_on (view_setting c.args.world.now)) (formula_tree z)) c.get-in-Imp-2.ensures in
    (omega (arith, k, e0, e1, c.decreases), c.requires)

pub normalise-normalise_both-requires-in-Iff : goal.normalise-normalise_both-requires-in-Iff
normalise-normalise_both-requires-in-Iff l c =
    let k = (less (view_setting c.args.world.now)) c.requires (formula_tree c.args.formula.now) h.Iff (two (formula_tree c.in-Iff.left) (formula_tree c.in-Iff.right)) (ap formula_tree c.in-Iff.is ∙ formula_tree-Iff c.in-Iff.left c.in-Iff.right) in
    let e0 = ap (λ z. (work_on (view_setting c.args.world.now)) (formula_tree z)) c.get-in-Iff.ensures in
    let e1 = ap (λ z. (work_on (view_setting c.args.world.now)) (formula_tree z)) c.get-in-Iff-2.ensures in
    (omega (arith, k, e0, e1, c.decreases), c.requires)

pub normalise-normalise_range-requires : goal.normalise-normalise_range-requires
normalise-normalise_range-requires l c =
    let k = (less (view_setting c.args.world.now)) c.requires (formula_tree c.args.formula.now) (h.Forall c.in-Forall.name) (three (term_tree c.in-Forall.low) (term_tree c.in-Forall.high) (formula_tree c.in-Forall.body)) (ap formula_tree c.in-Forall.is ∙ formula_tree-Forall c.in-Forall.name c.in-Forall.low c.in-Forall.high c.in-Forall.body) in
    let e0 = ap (λ z. (work_on (view_setting c.args.world.now)) (term_tree z)) c.get-in-Forall.ensures in
    let e1 = ap (λ z. (work_on (view_setting c.args.world.now)) (term_tree z)) c.get-in-Forall-2.ensures in
    let e2 = ap (λ z. (work_on (view_setting c.args.world.now)) (formula_tree z)) c.get-in-Forall-3.ensures in
    (omega (arith, k, e0, e1, e2, c.decreases), c.requires)

pub normalise-normalise_range-requires-in-Exists : goal.normalise-normalise_range-requires-in-Exists
normalise-normalise_range-requires-in-Exists l c =
    let k = (less (view_setting c.args.world.now)) c.requires (formula_tree c.args.formula.now) (h.Exists c.in-Exists.name) (three (term_tree c.in-Exists.low) (term_tree c.in-Exists.high) (formula_tree c.in-Exists.body)) (ap formula_tree c.in-Exists.is ∙ formula_tree-Exists c.in-Exists.name c.in-Exists.low c.in-Exists.high c.in-Exists.body) in
    let e0 = ap (λ z. (work_on (view_setting c.args.world.now)) (term_tree z)) c.get-in-Exists.ensures in
    let e1 = ap (λ z. (work_on (view_setting c.args.world.now)) (term_tree z)) c.get-in-Exists-2.ensures in
    let e2 = ap (λ z. (work_on (view_setting c.args.world.now)) (formula_tree z)) c.get-in-Exists-3.ensures in
    (omega (arith, k, e0, e1, e2, c.decreases), c.requires)

pub normalise_term-normalise_terms-requires : goal.normalise_term-normalise_terms-requires
normalise_term-normalise_terms-requires l c =
    let k = (less (view_setting c.args.world.now)) c.requires (term_tree c.args.term.now) (h.Term c.in-Op.op) (trees_of (map term_tree c.in-Op.kids)) (ap term_tree c.in-Op.is ∙ term_tree-Op c.in-Op.op c.in-Op.kids) in
    (omega (arith, k, c.decreases), c.requires)

pub normalise_term-normalise_terms-requires-in-App : goal.normalise_term-normalise_terms-requires-in-App
normalise_term-normalise_terms-requires-in-App l c =
    let k = (less (view_setting c.args.world.now)) c.requires (term_tree c.args.term.now) (h.App c.in-App.name) (trees_of (map term_tree c.in-App.kids)) (ap term_tree c.in-App.is ∙ term_tree-App c.in-App.name c.in-App.kids) in
    (omega (arith, k, c.decreases), c.requires)

pub normalise-settle-requires-in-Not : goal.normalise-settle-requires-in-Not
normalise-settle-requires-in-Not l c =
    let ks : Normals (step (view_setting c.args.world.now)) (one (formula_tree c.in-Not.inner)) (one (formula_tree c.in_ok-inner-in-Not.inner)) = (each ((formula_of (view_setting c.args.world.now)) c.get.result.now c.in-Not.inner (formula_tree c.in_ok-inner-in-Not.inner) c.get.ensures c.in_ok-inner-in-Not.ensures) nothing) in
    let k = (pass_less (view_setting c.args.world.now)) c.requires (formula_tree c.args.formula.now) h.Not (one (formula_tree c.in-Not.inner)) (one (formula_tree c.in_ok-inner-in-Not.inner)) (view_pass c.in_ok-pass_not-in-Not.field-0) (ap formula_tree c.in-Not.is ∙ formula_tree-Not c.in-Not.inner) ks c.in_ok-pass_not-in-Not.ensures in
    (omega (arith, k, c.decreases), c.requires)

pub normalise-returns-in_ok-pass_not-in-Not : goal.normalise-returns-in_ok-pass_not-in-Not
normalise-returns-in_ok-pass_not-in-Not l c =
    let ks : Normals (step (view_setting c.args.world.now)) (one (formula_tree c.in-Not.inner)) (one (formula_tree c.in_ok-inner-in-Not.inner)) = (each ((formula_of (view_setting c.args.world.now)) c.get.result.now c.in-Not.inner (formula_tree c.in_ok-inner-in-Not.inner) c.get.ensures c.in_ok-inner-in-Not.ensures) nothing) in
    let p = c.in_ok-pass_not-in-Not.field-0 in
    if_ok c.settle-in-Not.result
    (λ r. (Settles (view_setting c.args.world.now)) (view_pass p) (formula_tree r))
    (λ r. Normal (step (view_setting c.args.world.now)) (formula_tree c.args.formula.now) (formula_tree r))
    (λ r s. (settled_at (view_setting c.args.world.now)) (formula_tree c.args.formula.now) h.Not (one (formula_tree c.in-Not.inner)) (one (formula_tree c.in_ok-inner-in-Not.inner)) (formula_tree r) (view_pass p) (ap formula_tree c.in-Not.is ∙ formula_tree-Not c.in-Not.inner) ks c.in_ok-pass_not-in-Not.ensures s)
    c.settle-in-Not.ensures

pub normalise-settle-requires-in-Imp : goal.normalise-settle-requires-in-Imp
normalise-settle-requires-in-Imp l c =
    let ks : Normals (step (view_setting c.args.world.now)) (two (formula_tree c.in-Imp.from) (formula_tree c.in-Imp.to)) (two (formula_tree c.in_ok-from-in-Imp.from) (formula_tree c.in_ok-from-in-Imp.to)) = (each ((formula_of (view_setting c.args.world.now)) c.get-in-Imp.result.now c.in-Imp.from (formula_tree c.in_ok-from-in-Imp.from) c.get-in-Imp.ensures c.in_ok-from-in-Imp.ensures.0) (each ((formula_of (view_setting c.args.world.now)) c.get-in-Imp-2.result.now c.in-Imp.to (formula_tree c.in_ok-from-in-Imp.to) c.get-in-Imp-2.ensures c.in_ok-from-in-Imp.ensures.1) nothing)) in
    let k = (pass_less (view_setting c.args.world.now)) c.requires (formula_tree c.args.formula.now) h.Imp (two (formula_tree c.in-Imp.from) (formula_tree c.in-Imp.to)) (two (formula_tree c.in_ok-from-in-Imp.from) (formula_tree c.in_ok-from-in-Imp.to)) (view_pass c.in_ok-pass_implication-in-Imp.field-0) (ap formula_tree c.in-Imp.is ∙ formula_tree-Imp c.in-Imp.from c.in-Imp.to) ks c.in_ok-pass_implication-in-Imp.ensures in
    (omega (arith, k, c.decreases), c.requires)

pub normalise-returns-in_ok-pass_implication-in-Imp : goal.normalise-returns-in_ok-pass_implication-in-Imp
normalise-returns-in_ok-pass_implication-in-Imp l c =
    let ks : Normals (step (view_setting c.args.world.now)) (two (formula_tree c.in-Imp.from) (formula_tree c.in-Imp.to)) (two (formula_tree c.in_ok-from-in-Imp.from) (formula_tree c.in_ok-from-in-Imp.to)) = (each ((formula_of (view_setting c.args.world.now)) c.get-in-Imp.result.now c.in-Imp.from (formula_tree c.in_ok-from-in-Imp.from) c.get-in-Imp.ensures c.in_ok-from-in-Imp.ensures.0) (each ((formula_of (view_setting c.args.world.now)) c.get-in-Imp-2.result.now c.in-Imp.to (formula_tree c.in_ok-from-in-Imp.to) c.get-in-Imp-2.ensures c.in_ok-from-in-Imp.ensures.1) nothing)) in
    let p = c.in_ok-pass_implication-in-Imp.field-0 in
    if_ok c.settle-in-Imp.result
    (λ r. (Settles (view_setting c.args.world.now)) (view_pass p) (formula_tree r))
    (λ r. Normal (step (view_setting c.args.world.now)) (formula_tree c.args.formula.now) (formula_tree r))
    (λ r s. (settled_at (view_setting c.args.world.now)) (formula_tree c.args.formula.now) h.Imp (two (formula_tree c.in-Imp.from) (formula_tree c.in-Imp.to)) (two (formula_tree c.in_ok-from-in-Imp.from) (formula_tree c.in_ok-from-in-Imp.to)) (formula_tree r) (view_pass p) (ap formula_tree c.in-Imp.is ∙ formula_tree-Imp c.in-Imp.from c.in-Imp.to) ks c.in_ok-pass_implication-in-Imp.ensures s)
    c.settle-in-Imp.ensures

pub normalise-settle-requires-in-Iff : goal.normalise-settle-requires-in-Iff
normalise-settle-requires-in-Iff l c =
    let ks : Normals (step (view_setting c.args.world.now)) (two (formula_tree c.in-Iff.left) (formula_tree c.in-Iff.right)) (two (formula_tree c.in_ok-left-in-Iff.left) (formula_tree c.in_ok-left-in-Iff.right)) = (each ((formula_of (view_setting c.args.world.now)) c.get-in-Iff.result.now c.in-Iff.left (formula_tree c.in_ok-left-in-Iff.left) c.get-in-Iff.ensures c.in_ok-left-in-Iff.ensures.0) (each ((formula_of (view_setting c.args.world.now)) c.get-in-Iff-2.result.now c.in-Iff.right (formula_tree c.in_ok-left-in-Iff.right) c.get-in-Iff-2.ensures c.in_ok-left-in-Iff.ensures.1) nothing)) in
    let k = (pass_less (view_setting c.args.world.now)) c.requires (formula_tree c.args.formula.now) h.Iff (two (formula_tree c.in-Iff.left) (formula_tree c.in-Iff.right)) (two (formula_tree c.in_ok-left-in-Iff.left) (formula_tree c.in_ok-left-in-Iff.right)) (view_pass c.in_ok-pass_equivalence-in-Iff.field-0) (ap formula_tree c.in-Iff.is ∙ formula_tree-Iff c.in-Iff.left c.in-Iff.right) ks c.in_ok-pass_equivalence-in-Iff.ensures in
    (omega (arith, k, c.decreases), c.requires)

pub normalise-returns-in_ok-pass_equivalence-in-Iff : goal.normalise-returns-in_ok-pass_equivalence-in-Iff
normalise-returns-in_ok-pass_equivalence-in-Iff l c =
    let ks : Normals (step (view_setting c.args.world.now)) (two (formula_tree c.in-Iff.left) (formula_tree c.in-Iff.right)) (two (formula_tree c.in_ok-left-in-Iff.left) (formula_tree c.in_ok-left-in-Iff.right)) = (each ((formula_of (view_setting c.args.world.now)) c.get-in-Iff.result.now c.in-Iff.left (formula_tree c.in_ok-left-in-Iff.left) c.get-in-Iff.ensures c.in_ok-left-in-Iff.ensures.0) (each ((formula_of (view_setting c.args.world.now)) c.get-in-Iff-2.result.now c.in-Iff.right (formula_tree c.in_ok-left-in-Iff.right) c.get-in-Iff-2.ensures c.in_ok-left-in-Iff.ensures.1) nothing)) in
    let p = c.in_ok-pass_equivalence-in-Iff.field-0 in
    if_ok c.settle-in-Iff.result
    (λ r. (Settles (view_setting c.args.world.now)) (view_pass p) (formula_tree r))
    (λ r. Normal (step (view_setting c.args.world.now)) (formula_tree c.args.formula.now) (formula_tree r))
    (λ r s. (settled_at (view_setting c.args.world.now)) (formula_tree c.args.formula.now) h.Iff (two (formula_tree c.in-Iff.left) (formula_tree c.in-Iff.right)) (two (formula_tree c.in_ok-left-in-Iff.left) (formula_tree c.in_ok-left-in-Iff.right)) (formula_tree r) (view_pass p) (ap formula_tree c.in-Iff.is ∙ formula_tree-Iff c.in-Iff.left c.in-Iff.right) ks c.in_ok-pass_equivalence-in-Iff.ensures s)
    c.settle-in-Iff.ensures

pub normalise-settle-requires-in-Forall : goal.normalise-settle-requires-in-Forall
normalise-settle-requires-in-Forall l c =
    let ks : Normals (step (view_setting c.args.world.now)) (three (term_tree c.in-Forall.low) (term_tree c.in-Forall.high) (formula_tree c.in-Forall.body)) (three (term_tree c.in_ok-low-in-Forall.low) (term_tree c.in_ok-low-in-Forall.high) (formula_tree c.in_ok-low-in-Forall.body)) = (each ((term_of (view_setting c.args.world.now)) c.get-in-Forall.result.now c.in-Forall.low (term_tree c.in_ok-low-in-Forall.low) c.get-in-Forall.ensures c.in_ok-low-in-Forall.ensures.0) (each ((term_of (view_setting c.args.world.now)) c.get-in-Forall-2.result.now c.in-Forall.high (term_tree c.in_ok-low-in-Forall.high) c.get-in-Forall-2.ensures c.in_ok-low-in-Forall.ensures.1) (each ((formula_of (view_setting c.args.world.now)) c.get-in-Forall-3.result.now c.in-Forall.body (formula_tree c.in_ok-low-in-Forall.body) c.get-in-Forall-3.ensures c.in_ok-low-in-Forall.ensures.2) nothing))) in
    let k = (pass_less (view_setting c.args.world.now)) c.requires (formula_tree c.args.formula.now) (h.Forall c.in-Forall.name) (three (term_tree c.in-Forall.low) (term_tree c.in-Forall.high) (formula_tree c.in-Forall.body)) (three (term_tree c.in_ok-low-in-Forall.low) (term_tree c.in_ok-low-in-Forall.high) (formula_tree c.in_ok-low-in-Forall.body)) (view_pass c.in_ok-pass_quantifier-in-Forall.field-0) (ap formula_tree c.in-Forall.is ∙ formula_tree-Forall c.in-Forall.name c.in-Forall.low c.in-Forall.high c.in-Forall.body) ks c.in_ok-pass_quantifier-in-Forall.ensures in
    (omega (arith, k, c.decreases), c.requires)

pub normalise-returns-in_ok-pass_quantifier-in-Forall : goal.normalise-returns-in_ok-pass_quantifier-in-Forall
normalise-returns-in_ok-pass_quantifier-in-Forall l c =
    let ks : Normals (step (view_setting c.args.world.now)) (three (term_tree c.in-Forall.low) (term_tree c.in-Forall.high) (formula_tree c.in-Forall.body)) (three (term_tree c.in_ok-low-in-Forall.low) (term_tree c.in_ok-low-in-Forall.high) (formula_tree c.in_ok-low-in-Forall.body)) = (each ((term_of (view_setting c.args.world.now)) c.get-in-Forall.result.now c.in-Forall.low (term_tree c.in_ok-low-in-Forall.low) c.get-in-Forall.ensures c.in_ok-low-in-Forall.ensures.0) (each ((term_of (view_setting c.args.world.now)) c.get-in-Forall-2.result.now c.in-Forall.high (term_tree c.in_ok-low-in-Forall.high) c.get-in-Forall-2.ensures c.in_ok-low-in-Forall.ensures.1) (each ((formula_of (view_setting c.args.world.now)) c.get-in-Forall-3.result.now c.in-Forall.body (formula_tree c.in_ok-low-in-Forall.body) c.get-in-Forall-3.ensures c.in_ok-low-in-Forall.ensures.2) nothing))) in
    let p = c.in_ok-pass_quantifier-in-Forall.field-0 in
    if_ok c.settle-in-Forall.result
    (λ r. (Settles (view_setting c.args.world.now)) (view_pass p) (formula_tree r))
    (λ r. Normal (step (view_setting c.args.world.now)) (formula_tree c.args.formula.now) (formula_tree r))
    (λ r s. (settled_at (view_setting c.args.world.now)) (formula_tree c.args.formula.now) (h.Forall c.in-Forall.name) (three (term_tree c.in-Forall.low) (term_tree c.in-Forall.high) (formula_tree c.in-Forall.body)) (three (term_tree c.in_ok-low-in-Forall.low) (term_tree c.in_ok-low-in-Forall.high) (formula_tree c.in_ok-low-in-Forall.body)) (formula_tree r) (view_pass p) (ap formula_tree c.in-Forall.is ∙ formula_tree-Forall c.in-Forall.name c.in-Forall.low c.in-Forall.high c.in-Forall.body) ks c.in_ok-pass_quantifier-in-Forall.ensures s)
    c.settle-in-Forall.ensures

pub normalise-settle-requires-in-Exists : goal.normalise-settle-requires-in-Exists
normalise-settle-requires-in-Exists l c =
    let ks : Normals (step (view_setting c.args.world.now)) (three (term_tree c.in-Exists.low) (term_tree c.in-Exists.high) (formula_tree c.in-Exists.body)) (three (term_tree c.in_ok-low-in-Exists.low) (term_tree c.in_ok-low-in-Exists.high) (formula_tree c.in_ok-low-in-Exists.body)) = (each ((term_of (view_setting c.args.world.now)) c.get-in-Exists.result.now c.in-Exists.low (term_tree c.in_ok-low-in-Exists.low) c.get-in-Exists.ensures c.in_ok-low-in-Exists.ensures.0) (each ((term_of (view_setting c.args.world.now)) c.get-in-Exists-2.result.now c.in-Exists.high (term_tree c.in_ok-low-in-Exists.high) c.get-in-Exists-2.ensures c.in_ok-low-in-Exists.ensures.1) (each ((formula_of (view_setting c.args.world.now)) c.get-in-Exists-3.result.now c.in-Exists.body (formula_tree c.in_ok-low-in-Exists.body) c.get-in-Exists-3.ensures c.in_ok-low-in-Exists.ensures.2) nothing))) in
    let k = (pass_less (view_setting c.args.world.now)) c.requires (formula_tree c.args.formula.now) (h.Exists c.in-Exists.name) (three (term_tree c.in-Exists.low) (term_tree c.in-Exists.high) (formula_tree c.in-Exists.body)) (three (term_tree c.in_ok-low-in-Exists.low) (term_tree c.in_ok-low-in-Exists.high) (formula_tree c.in_ok-low-in-Exists.body)) (view_pass c.in_ok-pass_quantifier-in-Exists.field-0) (ap formula_tree c.in-Exists.is ∙ formula_tree-Exists c.in-Exists.name c.in-Exists.low c.in-Exists.high c.in-Exists.body) ks c.in_ok-pass_quantifier-in-Exists.ensures in
    (omega (arith, k, c.decreases), c.requires)

pub normalise-returns-in_ok-pass_quantifier-in-Exists : goal.normalise-returns-in_ok-pass_quantifier-in-Exists
normalise-returns-in_ok-pass_quantifier-in-Exists l c =
    let ks : Normals (step (view_setting c.args.world.now)) (three (term_tree c.in-Exists.low) (term_tree c.in-Exists.high) (formula_tree c.in-Exists.body)) (three (term_tree c.in_ok-low-in-Exists.low) (term_tree c.in_ok-low-in-Exists.high) (formula_tree c.in_ok-low-in-Exists.body)) = (each ((term_of (view_setting c.args.world.now)) c.get-in-Exists.result.now c.in-Exists.low (term_tree c.in_ok-low-in-Exists.low) c.get-in-Exists.ensures c.in_ok-low-in-Exists.ensures.0) (each ((term_of (view_setting c.args.world.now)) c.get-in-Exists-2.result.now c.in-Exists.high (term_tree c.in_ok-low-in-Exists.high) c.get-in-Exists-2.ensures c.in_ok-low-in-Exists.ensures.1) (each ((formula_of (view_setting c.args.world.now)) c.get-in-Exists-3.result.now c.in-Exists.body (formula_tree c.in_ok-low-in-Exists.body) c.get-in-Exists-3.ensures c.in_ok-low-in-Exists.ensures.2) nothing))) in
    let p = c.in_ok-pass_quantifier-in-Exists.field-0 in
    if_ok c.settle-in-Exists.result
    (λ r. (Settles (view_setting c.args.world.now)) (view_pass p) (formula_tree r))
    (λ r. Normal (step (view_setting c.args.world.now)) (formula_tree c.args.formula.now) (formula_tree r))
    (λ r s. (settled_at (view_setting c.args.world.now)) (formula_tree c.args.formula.now) (h.Exists c.in-Exists.name) (three (term_tree c.in-Exists.low) (term_tree c.in-Exists.high) (formula_tree c.in-Exists.body)) (three (term_tree c.in_ok-low-in-Exists.low) (term_tree c.in_ok-low-in-Exists.high) (formula_tree c.in_ok-low-in-Exists.body)) (formula_tree r) (view_pass p) (ap formula_tree c.in-Exists.is ∙ formula_tree-Exists c.in-Exists.name c.in-Exists.low c.in-Exists.high c.in-Exists.body) ks c.in_ok-pass_quantifier-in-Exists.ensures s)
    c.settle-in-Exists.ensures

pub normalise-returns-in_ok-normalise_all-in-And : goal.normalise-returns-in_ok-normalise_all-in-And
normalise-returns-in_ok-normalise_all-in-And l c =
    let us = trees_of (map formula_tree c.in_ok-normalise_all-in-And.field-0) in
    if_ok c.normal_junction.result
    (λ r. formula_tree r ≡ normal_junction true (map formula_tree c.in_ok-normalise_all-in-And.field-0))
    (λ r. Normal (step (view_setting c.args.world.now)) (formula_tree c.args.formula.now) (formula_tree r))
    (λ r k. (made (view_setting c.args.world.now)) (formula_tree c.args.formula.now) h.And (trees_of (map formula_tree c.in-And.operands)) us (formula_tree r) (normal_junction true (list_of us)) (ap formula_tree c.in-And.is ∙ formula_tree-And c.in-And.operands) c.in_ok-normalise_all-in-And.ensures refl (k ∙ ap (normal_junction true) (sym (list_of-trees_of (map formula_tree c.in_ok-normalise_all-in-And.field-0)))))
    c.normal_junction.ensures

pub normalise-returns-in_ok-normalise_all-in-Or : goal.normalise-returns-in_ok-normalise_all-in-Or
normalise-returns-in_ok-normalise_all-in-Or l c =
    let us = trees_of (map formula_tree c.in_ok-normalise_all-in-Or.field-0) in
    if_ok c.normal_junction-in-Or.result
    (λ r. formula_tree r ≡ normal_junction false (map formula_tree c.in_ok-normalise_all-in-Or.field-0))
    (λ r. Normal (step (view_setting c.args.world.now)) (formula_tree c.args.formula.now) (formula_tree r))
    (λ r k. (made (view_setting c.args.world.now)) (formula_tree c.args.formula.now) h.Or (trees_of (map formula_tree c.in-Or.operands)) us (formula_tree r) (normal_junction false (list_of us)) (ap formula_tree c.in-Or.is ∙ formula_tree-Or c.in-Or.operands) c.in_ok-normalise_all-in-Or.ensures refl (k ∙ ap (normal_junction false) (sym (list_of-trees_of (map formula_tree c.in_ok-normalise_all-in-Or.field-0)))))
    c.normal_junction-in-Or.ensures

pub normalise-settle-requires : goal.normalise-settle-requires
normalise-settle-requires l c =
    let us = trees_of (map term_tree c.in_ok-terms-in-Rel.terms) in
    let same = c.in_ok-pass_relation-in-Rel.ensures ∙ ap (λ o. pass_relation o us) c.in_ok-op-in-Rel.ensures in
    let k = (pass_less (view_setting c.args.world.now)) c.requires (formula_tree c.args.formula.now) (h.Form c.in-Rel.op) (trees_of (map term_tree c.in-Rel.terms)) us (view_pass c.in_ok-pass_relation-in-Rel.field-0) (ap formula_tree c.in-Rel.is ∙ formula_tree-Rel c.in-Rel.op c.in-Rel.terms) c.in_ok-terms-in-Rel.ensures same in
    (omega (arith, k, c.decreases), c.requires)

pub normalise-returns-in_ok-pass_relation-in-Rel : goal.normalise-returns-in_ok-pass_relation-in-Rel
normalise-returns-in_ok-pass_relation-in-Rel l c =
    let us = trees_of (map term_tree c.in_ok-terms-in-Rel.terms) in
    let p = c.in_ok-pass_relation-in-Rel.field-0 in
    let same = c.in_ok-pass_relation-in-Rel.ensures ∙ ap (λ o. pass_relation o us) c.in_ok-op-in-Rel.ensures in
    if_ok c.settle.result
    (λ r. (Settles (view_setting c.args.world.now)) (view_pass p) (formula_tree r))
    (λ r. Normal (step (view_setting c.args.world.now)) (formula_tree c.args.formula.now) (formula_tree r))
    (λ r s. (settled_at (view_setting c.args.world.now)) (formula_tree c.args.formula.now) (h.Form c.in-Rel.op) (trees_of (map term_tree c.in-Rel.terms)) us (formula_tree r) (view_pass p) (ap formula_tree c.in-Rel.is ∙ formula_tree-Rel c.in-Rel.op c.in-Rel.terms) c.in_ok-terms-in-Rel.ensures same s)
    c.settle.ensures

pub normalise_term-returns-in_ok-normalise_terms-in-Op : goal.normalise_term-returns-in_ok-normalise_terms-in-Op
normalise_term-returns-in_ok-normalise_terms-in-Op l c =
    let us = trees_of (map term_tree c.in_ok-normalise_terms-in-Op.field-0) in
    if_ok c.normal_op.result
    (λ r. term_tree r ≡ (normal_node (view_setting c.args.world.now).long_bits) (h.Term c.in_ok-copy-in-Op.field-0) us)
    (λ r. Normal (step (view_setting c.args.world.now)) (term_tree c.args.term.now) (term_tree r))
    (λ r k. (made (view_setting c.args.world.now)) (term_tree c.args.term.now) (h.Term c.in-Op.op) (trees_of (map term_tree c.in-Op.kids)) us (term_tree r) ((normal_node (view_setting c.args.world.now).long_bits) (h.Term c.in-Op.op) us) (ap term_tree c.in-Op.is ∙ term_tree-Op c.in-Op.op c.in-Op.kids) c.in_ok-normalise_terms-in-Op.ensures refl (k ∙ ap (λ o. (normal_node (view_setting c.args.world.now).long_bits) (h.Term o) us) c.in_ok-copy-in-Op.ensures))
    c.normal_op.ensures

pub normalise_term-settle_call-requires : goal.normalise_term-settle_call-requires
normalise_term-settle_call-requires l c =
    let set = (view_setting c.args.world.now) in
    let us = trees_of (map term_tree c.in_ok-kids-in-App.kids) in
    let k = (pass_less set) c.requires (term_tree c.args.term.now) (h.App c.in-App.name) (trees_of (map term_tree c.in-App.kids)) us (pass_call set.logic c.in-App.name us) (ap term_tree c.in-App.is ∙ term_tree-App c.in-App.name c.in-App.kids) c.in_ok-kids-in-App.ensures refl in
    (omega (arith, k, c.decreases), c.requires)

pub normalise_term-returns-in_ok-kids-in-App : goal.normalise_term-returns-in_ok-kids-in-App
normalise_term-returns-in_ok-kids-in-App l c =
    let set = (view_setting c.args.world.now) in
    let us = trees_of (map term_tree c.in_ok-kids-in-App.kids) in
    if_ok c.settle_call.result
    (λ r. (Settles set) (pass_call set.logic c.in-App.name us) (term_tree r))
    (λ r. Normal (step set) (term_tree c.args.term.now) (term_tree r))
    (λ r s. (settled_at set) (term_tree c.args.term.now) (h.App c.in-App.name) (trees_of (map term_tree c.in-App.kids)) us (term_tree r) (pass_call set.logic c.in-App.name us) (ap term_tree c.in-App.is ∙ term_tree-App c.in-App.name c.in-App.kids) c.in_ok-kids-in-App.ensures refl s)
    c.settle_call.ensures

pub normalise-returns-in-True : goal.normalise-returns-in-True
normalise-returns-in-True l c =
    (made (view_setting c.args.world.now)) (formula_tree c.args.formula.now) h.True stop stop (formula_tree _) (node h.True stop) (ap formula_tree c.in-True.is ∙ formula_tree-True) nothing refl formula_tree-True

pub normalise-returns-in-False : goal.normalise-returns-in-False
normalise-returns-in-False l c =
    (made (view_setting c.args.world.now)) (formula_tree c.args.formula.now) h.False stop stop (formula_tree _) (node h.False stop) (ap formula_tree c.in-False.is ∙ formula_tree-False) nothing refl formula_tree-False

pub normalise_term-returns-in-Num : goal.normalise_term-returns-in-Num
normalise_term-returns-in-Num l c =
    let n = (leaf (view_setting c.args.world.now)) (term_tree c.args.term.now) (h.Num c.in-Num.field-0) (ap term_tree c.in-Num.is ∙ term_tree-Num c.in-Num.field-0) ((num_normal (view_setting c.args.world.now)) c.in-Num.field-0) in
    if_ok c.copy.result
    (λ r. r ≡ c.args.term.now)
    (λ r. Normal (step (view_setting c.args.world.now)) (term_tree c.args.term.now) (term_tree r))
    (λ r k. subst (λ z. Normal (step (view_setting c.args.world.now)) (term_tree c.args.term.now) (term_tree z)) (sym k) n)
    c.copy.ensures

pub normalise_term-returns-in-Var : goal.normalise_term-returns-in-Var
normalise_term-returns-in-Var l c =
    let n = (leaf (view_setting c.args.world.now)) (term_tree c.args.term.now) (h.Var c.in-Var.field-0 c.in-Var.field-1) (ap term_tree c.in-Var.is ∙ term_tree-Var c.in-Var.field-0 c.in-Var.field-1) ((name_normal (view_setting c.args.world.now)) c.in-Var.field-0 c.in-Var.field-1) in
    if_ok c.copy-in-Var.result
    (λ r. r ≡ c.args.term.now)
    (λ r. Normal (step (view_setting c.args.world.now)) (term_tree c.args.term.now) (term_tree r))
    (λ r k. subst (λ z. Normal (step (view_setting c.args.world.now)) (term_tree c.args.term.now) (term_tree z)) (sym k) n)
    c.copy-in-Var.ensures

pub normalise_term-normalise-requires : goal.normalise_term-normalise-requires
normalise_term-normalise-requires l c =
    let k = (less (view_setting c.args.world.now)) c.requires (term_tree c.args.term.now) h.Ite (three (formula_tree c.in-Ite.condition) (term_tree c.in-Ite.left) (term_tree c.in-Ite.right)) (ap term_tree c.in-Ite.is ∙ term_tree-Ite c.in-Ite.condition c.in-Ite.left c.in-Ite.right) in
    let e0 = ap (λ z. (work_on (view_setting c.args.world.now)) (formula_tree z)) c.get.ensures in
    (omega (arith, k, e0, c.decreases), c.requires)

pub normalise_term-normalise_term-requires : goal.normalise_term-normalise_term-requires
normalise_term-normalise_term-requires l c =
    let k = (less (view_setting c.args.world.now)) c.requires (term_tree c.args.term.now) h.Ite (three (formula_tree c.in-Ite.condition) (term_tree c.in-Ite.left) (term_tree c.in-Ite.right)) (ap term_tree c.in-Ite.is ∙ term_tree-Ite c.in-Ite.condition c.in-Ite.left c.in-Ite.right) in
    let e0 = ap (λ z. (work_on (view_setting c.args.world.now)) (term_tree z)) c.get-in-Ite.ensures in
    (omega (arith, k, e0, c.decreases), c.requires)

pub normalise_term-normalise_term-requires-in-Ite : goal.normalise_term-normalise_term-requires-in-Ite
normalise_term-normalise_term-requires-in-Ite l c =
    let k = (less (view_setting c.args.world.now)) c.requires (term_tree c.args.term.now) h.Ite (three (formula_tree c.in-Ite.condition) (term_tree c.in-Ite.left) (term_tree c.in-Ite.right)) (ap term_tree c.in-Ite.is ∙ term_tree-Ite c.in-Ite.condition c.in-Ite.left c.in-Ite.right) in
    let e0 = ap (λ z. (work_on (view_setting c.args.world.now)) (term_tree z)) c.get-in-Ite-2.ensures in
    (omega (arith, k, e0, c.decreases), c.requires)

pub normalise_term-returns-in_ok-right-in-Ite : goal.normalise_term-returns-in_ok-right-in-Ite
normalise_term-returns-in_ok-right-in-Ite l c =
    let us = three (formula_tree c.in_ok-condition-in-Ite.condition) (term_tree c.in_ok-left-in-Ite.left) (term_tree c.in_ok-right-in-Ite.right) in
    if_ok c.normal_ite.result
    (λ r. term_tree r ≡ (normal_node (view_setting c.args.world.now).long_bits) h.Ite us)
    (λ r. Normal (step (view_setting c.args.world.now)) (term_tree c.args.term.now) (term_tree r))
    (λ r k. (made (view_setting c.args.world.now)) (term_tree c.args.term.now) h.Ite (three (formula_tree c.in-Ite.condition) (term_tree c.in-Ite.left) (term_tree c.in-Ite.right)) us (term_tree r) ((normal_node (view_setting c.args.world.now).long_bits) h.Ite us) (ap term_tree c.in-Ite.is ∙ term_tree-Ite c.in-Ite.condition c.in-Ite.left c.in-Ite.right) (each ((formula_of (view_setting c.args.world.now)) c.get.result.now c.in-Ite.condition (formula_tree c.in_ok-condition-in-Ite.condition) c.get.ensures c.in_ok-condition-in-Ite.ensures) (each ((term_of (view_setting c.args.world.now)) c.get-in-Ite.result.now c.in-Ite.left (term_tree c.in_ok-left-in-Ite.left) c.get-in-Ite.ensures c.in_ok-left-in-Ite.ensures) (each ((term_of (view_setting c.args.world.now)) c.get-in-Ite-2.result.now c.in-Ite.right (term_tree c.in_ok-right-in-Ite.right) c.get-in-Ite-2.ensures c.in_ok-right-in-Ite.ensures) nothing))) refl (k))
    c.normal_ite.ensures

pub normalise_all-loop-formula-init : goal.normalise_all-loop-formula-init
normalise_all-loop-formula-init l c =
    subst (λ ys. Normals (step (view_setting c.args.world.now)) stop (trees_of (map formula_tree ys))) (sym c.new-normals.ensures) nothing

pub normalise_all-normalise-requires : goal.normalise_all-normalise-requires
normalise_all-normalise-requires l c =
    let xs = c.args.formulas.now in
    let i = c.loop-formula.formula-index in
    let e = ap length c.as_slice-formula-items.ensures in
    let k = (item_work (view_setting c.args.world.now)) formula_tree xs i c.formula-item.result (omega (arith, e, c.loop-formula-test.true)) (rw c.as_slice-formula-items.ensures at c.formula-item.is) in
    (omega (arith, k, c.decreases), c.requires)

pub normalise_all-loop-formula-preserved : goal.normalise_all-loop-formula-preserved
normalise_all-loop-formula-preserved l c =
    let xs = c.args.formulas.now in
    let i = c.loop-formula.formula-index in
    let e = ap length c.as_slice-formula-items.ensures in
    let more = (normals_more (view_setting c.args.world.now)) formula_tree formula_tree xs c.loop-formula.normals i c.formula-item.result c.in_ok-normalise.field-0 (omega (arith, e, c.loop-formula-test.true)) (rw c.as_slice-formula-items.ensures at c.formula-item.is) c.loop-formula.invariant c.in_ok-normalise.ensures in
    subst (λ ys. Normals (step (view_setting c.args.world.now)) (trees_of (map formula_tree (take (i + 1) xs))) (trees_of (map formula_tree ys))) (sym c.in_ok-push.ensures.ok) more

pub normalise_terms-loop-term-init : goal.normalise_terms-loop-term-init
normalise_terms-loop-term-init l c =
    subst (λ ys. Normals (step (view_setting c.args.world.now)) stop (trees_of (map term_tree ys))) (sym c.new-normals.ensures) nothing

pub normalise_terms-normalise_term-requires : goal.normalise_terms-normalise_term-requires
normalise_terms-normalise_term-requires l c =
    let xs = c.args.terms.now in
    let i = c.loop-term.term-index in
    let e = ap length c.as_slice-term-items.ensures in
    let k = (item_work (view_setting c.args.world.now)) term_tree xs i c.term-item.result (omega (arith, e, c.loop-term-test.true)) (rw c.as_slice-term-items.ensures at c.term-item.is) in
    (omega (arith, k, c.decreases), c.requires)

pub normalise_terms-loop-term-preserved : goal.normalise_terms-loop-term-preserved
normalise_terms-loop-term-preserved l c =
    let xs = c.args.terms.now in
    let i = c.loop-term.term-index in
    let e = ap length c.as_slice-term-items.ensures in
    let more = (normals_more (view_setting c.args.world.now)) term_tree term_tree xs c.loop-term.normals i c.term-item.result c.in_ok-normalise_term.field-0 (omega (arith, e, c.loop-term-test.true)) (rw c.as_slice-term-items.ensures at c.term-item.is) c.loop-term.invariant c.in_ok-normalise_term.ensures in
    subst (λ ys. Normals (step (view_setting c.args.world.now)) (trees_of (map term_tree (take (i + 1) xs))) (trees_of (map term_tree ys))) (sym c.in_ok-push.ensures.ok) more

pub normalise_all-returns : goal.normalise_all-returns
normalise_all-returns l c =
    let xs = c.args.formulas.now in
    let e = ap length c.as_slice-formula-items.ensures in
    let all = take_all c.loop-formula.formula-index xs (omega (arith, e, c.loop-formula-test.false)) in
    subst (λ ys. Normals (step (view_setting c.args.world.now)) (trees_of (map formula_tree ys)) (trees_of (map formula_tree c.loop-formula.normals))) all c.loop-formula.invariant

pub normalise_terms-returns : goal.normalise_terms-returns
normalise_terms-returns l c =
    let xs = c.args.terms.now in
    let e = ap length c.as_slice-term-items.ensures in
    let all = take_all c.loop-term.term-index xs (omega (arith, e, c.loop-term-test.false)) in
    subst (λ ys. Normals (step (view_setting c.args.world.now)) (trees_of (map term_tree ys)) (trees_of (map term_tree c.loop-term.normals))) all c.loop-term.invariant
