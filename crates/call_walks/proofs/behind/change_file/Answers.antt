use Rattle.call_walks.proofs.behind.change_file.Goals as goal

pub returns : goal.returns
returns c gs = c.in_ok-apply.ensures _ gs c.in_ok-changes.ensures
