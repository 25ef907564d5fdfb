use Rattle.std.proofs.Common.{rules, ◌≡◌, length}
use Rattle.memory_worlds.proofs.GivenNames.{next_name}
use Rattle.memory_worlds.proofs.names.Names.next.Goals as goal

pub returns-clause-name : goal.returns-clause-name
returns-clause-name c =
    let some : length c.args.base.now ≡ 0 → ⊥ = search (rules, c.if-is_empty.false, c.is_empty.ensures, c.bytes.ensures) in
    next_name c.args.self.now c.name.new.self c.args.base.now c.in_ok-name.name some c.in_ok-name.ensures.name c.in_ok-name.ensures.counted
