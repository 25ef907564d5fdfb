use Rattle.linear_chains.proofs.Entries.{found_there, others_stay}
use Rattle.linear_chains.proofs.sums.put_place.Goals as goal

pub returns-clause-new : goal.returns-clause-new
returns-clause-new c = found_there c.in_ok-form.form c.args.form.now c.in_ok-form.ensures.items c.args.table.now.entries c.insert.new.self.entries c.args.place c.in_ok-insert.ensures.updates.1

pub returns-clause-others : goal.returns-clause-others
returns-clause-others c = others_stay c.in_ok-form.form c.args.form.now c.in_ok-form.ensures.items c.args.table.now.entries c.insert.new.self.entries c.in_ok-insert.ensures.updates.3
