use Rattle.std.proofs.Common.{◌≡◌, ◌+◌, Bool, length, length-append, sym, ap, ◌∙◌, arith}
use Rattle.acsl_trees.specs.Tree.{view_tree}
use Rattle.acsl_encode.specs.Told as told
use Rattle.acsl_expand.specs.Expansion.{view_all}
use Rattle.logic_trees.specs.Asking.{asks, told_in}
use Rattle.logic_calls.proofs.Reading_first.{first_turn}
use Rattle.logic_calls.proofs.reading.first_reads.Goals as goal

pub loop-at-init : goal.loop-at-init
loop-at-init c = record { many = ap length c.new-made.ensures.items; told = λ f. ap (λ xs. told_in xs f) c.new-made.ensures.items }

pub loop-at-preserved : goal.loop-at-preserved
loop-at-preserved c =
    let own = asks c.args.globals c.args.asked in
    let pushed = c.in_ok-push.ensures.items in
    let made = c.reads-read.ensures
    ∙ (λ i. told.reads own (told_in (c.as_slice.ensures.value i)) (view_tree (sym c.index-definitions-at.is i).body)) in
    let many : length c.push.new.self.items ≡ c.loop-at.at + 1 =
    omega (arith, ap length pushed, length-append {A = Bool}, c.loop-at.invariant.many) in
    record {
      many = many;
      told = first_turn own c.args.definitions.now c.loop-at.at c.index-definitions-at.result c.loop-at.made.items c.push.new.self.items c.reads-read.result
          (omega (arith, c.loop-at-test.true, c.requires)) c.index-definitions-at.is c.loop-at.invariant.many c.loop-at.invariant.told made pushed;
    }

pub returns : goal.returns
returns c = λ f.
    let last : c.loop-at.at ≡ c.args.count = omega (arith, c.loop-at-test.false, c.loop-at.auto.at-end) in
    c.loop-at.invariant.told f ∙ ap (λ n. told.reads_first (asks c.args.globals c.args.asked) (view_all c.args.definitions.now) n f) last
