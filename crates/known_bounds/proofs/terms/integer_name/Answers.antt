use Rattle.std.proofs.Common.{ap, ◌∙◌}
use Rattle.qed_terms.specs.declared.term.Term.TheVariants as term
use Rattle.known_bounds.specs.Bounds.{term_value}
use Rattle.known_bounds.proofs.Values.{name_value}
use Rattle.known_bounds.proofs.terms.integer_name.Goals as goal

pub returns-in-Int : goal.returns-in-Int
returns-in-Int c w env = ap (λ s. term_value w env (term.Var c.args.name.now s)) c.in-Int.is ∙ name_value w env c.args.name.now
