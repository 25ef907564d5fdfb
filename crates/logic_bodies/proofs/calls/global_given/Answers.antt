use Rattle.std.proofs.Common.{◌≡◌, List, map, sym, ap, ◌∙◌, subst}
use Rattle.std.specs.Prelude.{Option, Some, IfOk, option_map}
use Rattle.qed_terms.specs.Tree.{Tree}
use Rattle.qed_terms.specs.View.{term_tree}
use Rattle.program_trees.specs.View.{view_facts}
use Rattle.acsl_encode.specs.Encode.{put}
use Rattle.annotation_heads.specs.Gathered.{given_if}
use Rattle.annotation_words.specs.View.{view_global}
use Rattle.logic_bodies.specs.View.{lent_global, known_in, globals_in}
use Rattle.logic_bodies.proofs.Given.{wanted_none, wanted_is}
use Rattle.logic_bodies.proofs.calls.global_given.Goals as goal

pub returns-in_default : goal.returns-in_default
returns-in_default c =
    wanted_none (view_facts c.args.reading.facts.now) (known_in c.args.reading) (globals_in c.args.reading) c.args.reading.facts.now.model
    (view_global c.args.wanted.now) c.number_of.result c.args.given.now c.number_of.ensures (sym (ap (option_map lent_global) c.in_default.is) ∙ c.global_at.ensures)

pub returns : goal.returns
returns c =
    let P : Option (List Tree) → Type 0 =
    λ o. IfOk c.wanted_given.result (λ there. given_if there (map term_tree c.wanted_given.new.given) ≡ put (Some (map term_tree c.args.given.now)) o) in
    let same =
    wanted_is (view_facts c.args.reading.facts.now) (known_in c.args.reading) (globals_in c.args.reading) c.args.reading.facts.now.model
    (view_global c.args.wanted.now) (view_global c.in-Some.own.now) c.number_of.result c.number_of.ensures
    (sym (ap (option_map lent_global) c.in-Some.is) ∙ c.global_at.ensures) in
    subst P same c.wanted_given.ensures
