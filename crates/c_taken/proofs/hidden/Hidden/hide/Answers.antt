use Rattle.std.proofs.Common.{◌≡◌, false, rules, sym, ◌∙◌}
use Rattle.c_taken.specs.Addressed.{is_among}
use Rattle.c_taken.proofs.Hiding.{one_key}
use Rattle.c_taken.proofs.hidden.Hidden.hide.Goals as goal

pub returns : goal.returns
returns c =
    let new : is_among c.args.self.now c.args.name.now ≡ false = sym c.hides.ensures ∙ c.if-hides.false in
    one_key c.args.self.now c.self.inside.names.keys c.insert.new.self.keys c.in_ok-key.key c.args.name.now (search (rules, c.self.view_is)) new (c.in_ok-key.ensures.items ∙ c.bytes.ensures)
    c.in_ok-insert.ensures.keys
