use Rattle.std.proofs.Common.{rules, ◌≡◌, sym, ap₂, subst}
use Rattle.call_walks.specs.View.{functions_in}
use Rattle.checked_trees.specs.View.{view_checked_function, view_checked_program, view_steps}
use Rattle.plain_runs.specs.Fitting.{shape_of}
use Rattle.program_goals.specs.Words.{word_of}
use Rattle.program_walk.specs.View.{Over}
use Rattle.walk_frames.specs.declared.frames.Frame.{Frame}
use Rattle.walk_frames.specs.Words.{StepsClosed}
use Rattle.function_goals.specs.Whole.{whole_word, written_in}
use Rattle.function_goals.proofs.Whole.{whole_goals}
use Rattle.function_goals.proofs.functions.walk_function.Goals as goal

pub returns : goal.returns
returns g c first m k closed fits =
    let over : Over = record { world = m; kinds = k } in
    let q = view_checked_program c.args.program.now in
    let f = view_checked_function c.args.function.now in
    let tx = g.T.Texts.text c.args.texts.now in
    let x : Frame = record {
      bases = c.args.bases;
      facts = c.args.program.now.facts;
      variables = c.args.function.now.variables;
      result = c.args.function.now.result;
      contract = c.args.function.now.contract;
      number = c.args.number;
      temporaries = c.args.temporaries;
    } in
    let functions : c.as_slice.result.now ≡ c.args.program.now.functions = search (rules, c.as_slice.ensures) in
    let body : c.as_slice-2.result.now ≡ c.args.function.now.body = search (rules, c.as_slice-2.ensures) in
    let good = subst (λ ss. StepsClosed q.facts (shape_of f c.args.temporaries k) (view_steps ss)) (sym body) closed in
    whole_goals (word_of m q tx c.args.number f (written_in c.args.temporaries k c.args.bases.now))
    (ap₂ (λ fs ss. whole_word over x (functions_in fs) tx (view_steps ss) f.end) functions body) (c.in_ok-state.ensures m k) (c.in_ok-walk_entered.ensures first over good) fits
