-- The rows at one node, by name.
use Rattle.std.specs.Prelude.{ℕ}
use Rattle.instance_rows.specs.Rows.{Row, order_of_unequal, load_of_store, read_of_write, place_of_read, answer_of_alloc, cases_of_wrap, cases_of_quotient, bounds_of_operator, arm_of_ite}
use Rattle.node_instances.specs.declared.each.NodeRow.{NodeRow}
use Rattle.node_instances.specs.declared.each.NodeRow.TheVariants as r

abbrev pub node_row : (long_bits : ℕ) → NodeRow → Row
node_row bits r.OrderOfUnequal = order_of_unequal
node_row bits r.LoadOfStore = load_of_store
node_row bits r.ReadOfWrite = read_of_write
node_row bits r.PlaceOfRead = place_of_read
node_row bits r.AnswerOfAlloc = answer_of_alloc
node_row bits r.CasesOfWrap = cases_of_wrap bits
node_row bits r.CasesOfQuotient = cases_of_quotient
node_row bits r.BoundsOfOperator = bounds_of_operator
node_row bits r.ArmOfIte = arm_of_ite
