-- The changes of slots that the program knows, as steps. The walk writes facts and tells nothing of states, so of a fact only what is written counts here.
use Rattle.std.specs.Prelude.{ℤ, pos, true, List, [], ◌∷◌, ◌++◌, map}
use Rattle.qed_terms.specs.declared.head.Head.TheVariants as h
use Rattle.qed_terms.specs.Tree.{Tree, node, trees_of, num, at_most, less}
use Rattle.qed_terms.specs.View.{formula_tree, term_tree}
use Rattle.memory_steps.specs.Forms.{Slots, Fact}
use Rattle.memory_steps.specs.Step as s
use Rattle.memory_steps.specs.Step.{keeps, fresh, raised}
use Rattle.memory_steps.specs.World.{count_of}
use Rattle.memory_worlds.specs.declared.renewals.Change.{Change}
use Rattle.memory_worlds.specs.declared.renewals.Change.TheVariants as change
use Rattle.memory_worlds.specs.declared.renewals.Fact as memory_fact
use Rattle.memory_worlds.specs.declared.renewals.Fact.TheVariants as facts

abbrev pub written_as : (List Slots → Tree → Tree) → Fact
written_as f = record { written = f; told = λ sts d b o. true }

abbrev pub at_least : ℤ → Fact
at_least low = written_as (λ ss t. at_most (num low) t)

abbrev pub up_to : ℤ → Fact
up_to high = written_as (λ ss t. at_most t (num high))

-- the table of the present slots
abbrev pub present_table : List Slots → Tree
present_table [] = num (pos 0)
present_table (ss ∷ more) = ss.table

-- a block of the present table, or one before it
abbrev pub below_count : Fact
below_count = written_as (λ ss t. less t (count_of (present_table ss)))

-- ---- as changes

abbrev pub any : s.Change
any = fresh []

abbrev pub from_on : ℤ → s.Change
from_on low = fresh (at_least low ∷ [])

abbrev pub ranged : (low high : ℤ) → s.Change
ranged low high = fresh (at_least low ∷ up_to high ∷ [])

-- where a pointer leads to
abbrev pub block : s.Change
block = fresh (at_least (pos 0) ∷ below_count ∷ [])

-- ---- of the code

-- over the new term
abbrev pub fact_tree : memory_fact.Fact → Tree → Tree
fact_tree (facts.Relation op before behind) t = node (h.Form op) (trees_of (map term_tree before ++ t ∷ map term_tree behind))
fact_tree (facts.Fixed f) t = formula_tree f

abbrev pub view_fact : memory_fact.Fact → Fact
view_fact f = written_as (λ ss t. fact_tree f t)

abbrev pub view_change : Change → s.Change
view_change change.Keeps = keeps
view_change change.Any = any
view_change (change.From low) = from_on low
view_change (change.Ranged low high) = ranged low high
view_change change.Block = block
view_change change.Raised = raised
view_change (change.Facts fs) = fresh (map view_fact fs)
