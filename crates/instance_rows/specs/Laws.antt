-- The laws of the rows and of a round.
use Rattle.std.specs.Prelude.{◌≡◌, ◌≤◌, true, List}
use Rattle.qed_terms.specs.declared.head.Head.{Head}
use Rattle.qed_terms.specs.Meaning.{World, Values, truth}
use Rattle.qed_terms.specs.Setting.{Setting, is_regular, world_of}
use Rattle.qed_terms.specs.Tree.{Tree, Trees, node}
use Rattle.branches.specs.Steps.{LeadsToOne}
use Rattle.branches.specs.Branch.{Branch, AreTrue, IsTrueUnder}
use Rattle.instance_rows.specs.Rows.{Row, order_of_unequal, load_of_store, read_of_write, place_of_read, answer_of_alloc, cases_of_wrap, cases_of_quotient, bounds_of_operator, arm_of_ite}
use Rattle.instance_rows.specs.PairRows.{PairRow, frame_of_load, range_of_load, answer_of_layout, order_of_offsets}
use Rattle.instance_rows.specs.Calls.{cases_of_call}
use Rattle.instance_rows.specs.Round.{IsRound}

-- what a row gives at a node is true under all values
abbrev pub RowIsValid : World → Row → Type 0
RowIsValid w row = (head : Head) (ts : Trees) (env : Values) → AreTrue w env (row head ts)

-- what a row gives at two nodes is true under all values
abbrev pub PairRowIsValid : World → PairRow → Type 0
PairRowIsValid w row = (g : Head) (us : Trees) → RowIsValid w (row g us)

-- what a row gives at a literal, or at a literal and a node, is true where the literal is
abbrev pub RowFollows : World → Row → Type 0
RowFollows w row = (head : Head) (ts : Trees) (env : Values) → truth w env (node head ts) ≡ true → AreTrue w env (row head ts)

abbrev pub PairRowFollows : World → PairRow → Type 0
PairRowFollows w row = (g : Head) (us : Trees) (env : Values) → truth w env (node g us) ≡ true → (head : Head) (ts : Trees) → AreTrue w env (row g us head ts)

-- ---- the rows, in every world

abbrev pub UnequalIsOrdered : Type 0
UnequalIsOrdered = (w : World) → RowFollows w order_of_unequal

abbrev pub LoadsOfStoresAreValid : Type 0
LoadsOfStoresAreValid = (w : World) → RowIsValid w load_of_store

abbrev pub FramesKeepLoads : Type 0
FramesKeepLoads = (w : World) → PairRowFollows w frame_of_load

abbrev pub LoadsAreInRange : Type 0
LoadsAreInRange = (w : World) → PairRowFollows w (range_of_load w.long_bits)

abbrev pub WritesAreReads : Type 0
WritesAreReads = (w : World) → RowIsValid w read_of_write

abbrev pub ReadsHavePlaces : Type 0
ReadsHavePlaces = (w : World) → RowIsValid w place_of_read

abbrev pub MadeBlocksAnswer : Type 0
MadeBlocksAnswer = (w : World) → RowIsValid w answer_of_alloc

abbrev pub LayoutsAnswer : Type 0
LayoutsAnswer = (w : World) → PairRowIsValid w answer_of_layout

abbrev pub ConversionsWrap : Type 0
ConversionsWrap = (w : World) → 1 ≤ w.long_bits → RowIsValid w (cases_of_wrap w.long_bits)

abbrev pub QuotientsAreBounded : Type 0
QuotientsAreBounded = (w : World) → RowIsValid w cases_of_quotient

abbrev pub OperatorsAreBounded : Type 0
OperatorsAreBounded = (w : World) → RowIsValid w bounds_of_operator

abbrev pub ChoicesAreArms : Type 0
ChoicesAreArms = (w : World) → RowIsValid w arm_of_ite

abbrev pub OffsetsAreOrdered : Type 0
OffsetsAreOrdered = (w : World) (env : Values) (o p : Tree) → truth w env (order_of_offsets o p) ≡ true

-- ---- the row at calls, in the world of a regular setting

abbrev pub CallsAreUnfolded : Type 0
CallsAreUnfolded = (s : Setting) → is_regular s ≡ true → RowIsValid (world_of s) (cases_of_call s.logic)

-- ---- the round

-- What a round adds follows from the branch.
abbrev pub RoundFollows : Type 0
RoundFollows =
    (s : Setting) → is_regular s ≡ true → (b : Branch) (added : List Tree) → IsRound s b added → (env : Values) → IsTrueUnder (world_of s) env b
    → AreTrue (world_of s) env added

-- A round adds one list of formulas.
abbrev pub RoundLeadsToOne : Type 0
RoundLeadsToOne = (s : Setting) → LeadsToOne (IsRound s)
