-- How the nodes of an annotation are counted once its definitions are expanded, up to the limit, and which fault comes first where the limit is
-- passed. A node stands where its first token is that it has of its own: an operator between its operands, a prefix before them.
use Rattle.std.specs.Prelude.{ℕ, ◌+◌, ◌*◌, Bool, nat_lt, List, [], ◌∷◌, length, slice_index_or, slice_set, Result, Ok, Err, if◌then◌else◌, zero, suc, true, false}
use Rattle.wp_base.specs.declared.answers.Rule.{Rule}
use Rattle.wp_base.specs.declared.answers.Rule.TheVariants as rule
use Rattle.wp_base.specs.declared.answers.Refusal.{Refusal}
use Rattle.wp_base.specs.declared.answers.Stop.{Stop}
use Rattle.wp_base.specs.declared.answers.Stop.TheVariants as stop
use Rattle.c_answers.specs.Answers.{Answer, fault}
use Rattle.acsl_names.specs.declared.counting.Limit.{Limit}
use Rattle.acsl_names.specs.declared.counting.Limit.TheVariants as limit
use Rattle.acsl_names.specs.declared.counting.Weight.{Weight}
use Rattle.acsl_names.specs.declared.counting.Count.{Count}

-- ---- numbers of nodes, which need not be known past the limit

abbrev pub most_nodes : ℕ
most_nodes = 20000

abbrev pub capped : ℕ → ℕ
capped n = if nat_lt most_nodes n then most_nodes + 1 else n

abbrev pub plus : ℕ → ℕ → ℕ
plus m n = capped (m + n)

abbrev pub times : ℕ → ℕ → ℕ
times m n = capped (m * n)

abbrev pub total_from : ℕ → List ℕ → ℕ
total_from n [] = n
total_from n (k ∷ ks) = total_from (plus n k) ks

-- all nodes, each parameter's name counted as one
abbrev pub total : Weight → ℕ
total w = total_from w.own w.times

-- nothing yet, beside so many parameters
abbrev pub zeros : ℕ → List ℕ
zeros zero = []
zeros (suc n) = 0 ∷ zeros n

abbrev pub no_weight : (params : ℕ) → Weight
no_weight n = record { own = 0; times = zeros n }

-- so many nodes more
abbrev pub with_own : ℕ → Weight → Weight
with_own n w = record w { own = plus w.own n }

-- The name with this number stands so often: a parameter of the definition that is read, or else a node.
unfoldable pub with_name : ℕ → (number : ℕ) → Weight → Weight
with_name n i w =
    if nat_lt i (length w.times) then record w { times = slice_set w.times i (plus (slice_index_or w.times i 0) n) }
    else with_own n w

-- ---- the limit

abbrev pub limit_with : (line : ℕ) → Weight → Limit
limit_with line w = if nat_lt most_nodes (total w) then limit.Passed line else limit.Counting

-- the count with this weight in place of its own, which is reached on this line
abbrev pub counted_by : (line : ℕ) → Weight → Count → Limit → Count
counted_by line w c limit.Counting = record { limit = limit_with line w; weight = w }
counted_by line w c (limit.Passed l) = c
counted_by line w c limit.Free = c

unfoldable pub counted : (line : ℕ) → Weight → Count → Count
counted line w c = counted_by line w c c.limit

-- one node more
unfoldable pub with_node : (line : ℕ) → Count → Count
with_node line c = counted line (with_own 1 c.weight) c

-- the name with this number
unfoldable pub with_bound : (line number : ℕ) → Count → Count
with_bound line i c = counted line (with_name 1 i c.weight) c

abbrev pub is_counting : Limit → Bool
is_counting limit.Counting = true
is_counting (limit.Passed l) = false
is_counting limit.Free = false

-- Inside a call that is counted whole nothing is counted. Where the limit was passed before, faults still lose to it.
abbrev pub inside_by : Count → Limit → Count
inside_by c limit.Counting = record c { limit = limit.Free }
inside_by c (limit.Passed l) = c
inside_by c limit.Free = c

abbrev pub inside_call : Count → Count
inside_call c = inside_by c c.limit

-- ---- which fault comes first

abbrev pub is_name : Rule → Bool
is_name rule.Name = true
is_name _ = false

abbrev pub is_shape : Rule → Bool
is_shape rule.Shape = true
is_shape _ = false

-- the limit was passed inside the node: a name that isn't declared comes before, what is wrong with the whole node behind
abbrev pub weighed_behind : Refusal → Limit → Refusal
weighed_behind r (limit.Passed l) = if is_name r.rule then r else fault rule.Limit l
weighed_behind r limit.Counting = r
weighed_behind r limit.Free = r

-- at the node itself: name, type, limit, shape
abbrev pub weighed_at : Refusal → (at behind : Limit) → Refusal
weighed_at r (limit.Passed l) behind = if is_shape r.rule then fault rule.Limit l else r
weighed_at r limit.Counting behind = weighed_behind r behind
weighed_at r limit.Free behind = weighed_behind r behind

-- A fault of a node against the limit, by whether that was passed before the node, at it, or inside.
abbrev pub weighed : Refusal → (before at behind : Limit) → Refusal
weighed r (limit.Passed l) at behind = fault rule.Limit l
weighed r limit.Counting at behind = weighed_at r at behind
weighed r limit.Free at behind = weighed_at r at behind

-- what a node is
unfoldable pub ended : {Y : Type 0} → (before at behind : Limit) → Answer Y → Answer Y
ended before at behind (Ok y) = Ok y
ended before at behind (Err r) = Err (weighed r before at behind)

-- the same where memory may have run out
abbrev pub stopped : {Y : Type 0} → (before at behind : Limit) → Result Y Stop → Result Y Stop
stopped before at behind (Ok y) = Ok y
stopped before at behind (Err (stop.Refused r)) = Err (stop.Refused (weighed r before at behind))
stopped before at behind (Err stop.NoMemory) = Err stop.NoMemory

-- the end of an annotation
abbrev pub within : Limit → Answer (Unit {0})
within (limit.Passed l) = Err (fault rule.Limit l)
within limit.Counting = Ok tt
within limit.Free = Ok tt
