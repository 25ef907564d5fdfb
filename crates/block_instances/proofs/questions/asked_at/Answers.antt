use Rattle.block_instances.proofs.AskedLaws.{read_asked, write_asked, live_asked, length_asked}
use Rattle.block_instances.proofs.questions.asked_at.Goals as goal

pub returns-in-Some : goal.returns-in-Some
returns-in-Some g c = read_asked _ _ _ c.look.result c.in-Read.kind _ _ _ c.look.ensures c.in-Read.is (c.in-Some.ensures).0 (c.in-Some.ensures).1 (c.in-Some.ensures).2 (c.in-Some.ensures).3

pub returns-in-Some-three_kids : goal.returns-in-Some-three_kids
returns-in-Some-three_kids g c = write_asked _ _ _ c.look.result c.in-Write.kind _ _ _ c.look.ensures c.in-Write.is (c.in-Some-three_kids.ensures).0 (c.in-Some-three_kids.ensures).1 (c.in-Some-three_kids.ensures).2 (c.in-Some-three_kids.ensures).3

pub returns-in-Some-two_kids : goal.returns-in-Some-two_kids
returns-in-Some-two_kids g c = live_asked _ _ _ c.look.result _ _ c.look.ensures c.in-Live.is (c.in-Some-two_kids.ensures).0 (c.in-Some-two_kids.ensures).1 (c.in-Some-two_kids.ensures).2

pub returns-in-Some-two_kids-2 : goal.returns-in-Some-two_kids-2
returns-in-Some-two_kids-2 g c = length_asked _ _ _ c.look.result _ _ c.look.ensures c.in-Length.is (c.in-Some-two_kids-2.ensures).0 (c.in-Some-two_kids-2.ensures).1 (c.in-Some-two_kids-2.ensures).2
