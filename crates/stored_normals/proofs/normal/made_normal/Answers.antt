use Rattle.std.proofs.Common.{◌≡◌, sym, ap, subst}
use Rattle.qed_terms.specs.View.{view_setting}
use Rattle.qed_rules.specs.Rules.{step}
use Rattle.qed_simplify.specs.Normal.{Normal}
use Rattle.qed_ids.specs.Made.{made_tree}
use Rattle.stored_normals.proofs.normal.made_normal.Goals as goal

pub returns-in_ok-made-in-Term-clause-normal : goal.returns-in_ok-made-in-Term-clause-normal
returns-in_ok-made-in-Term-clause-normal g c =
    subst (λ t. Normal (step (view_setting c.args.world.now)) (made_tree t) (g.S.TermStore.tree c.term_normal.new.store c.in_ok-made-in-Term.made)) (sym c.in-Term.is) c.in_ok-made-in-Term.ensures.normal

pub returns-in_ok-made-in-Formula-clause-normal : goal.returns-in_ok-made-in-Formula-clause-normal
returns-in_ok-made-in-Formula-clause-normal g c =
    subst (λ t. Normal (step (view_setting c.args.world.now)) (made_tree t) (g.S.TermStore.tree c.formula_normal.new.store c.in_ok-made-in-Formula.made)) (sym c.in-Formula.is) c.in_ok-made-in-Formula.ensures.normal
