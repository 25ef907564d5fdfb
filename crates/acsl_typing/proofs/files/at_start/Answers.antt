use Rattle.std.proofs.Common.{rules, ◌≡◌, ◌<◌, length}
use Rattle.acsl_typing.specs.Annotations.{none_of}
use Rattle.acsl_typing.proofs.Parts.{false_turn}
use Rattle.acsl_typing.proofs.files.at_start.Goals as goal

pub loop-i-preserved : goal.loop-i-preserved
loop-i-preserved c =
    false_turn c.args.file.now.functions c.loop-i.i c.loop-i.contracted.items c.push.new.self.items (none_of c.args.file.now.functions) (search rules) (search rules) (search rules)
