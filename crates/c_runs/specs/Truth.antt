-- What typed annotations mean in labelled states (ACSL 2.2, 2.4.3, 2.6, 2.7): the value of a term, the addresses of a set, the truth of a predicate. Names
-- have numbers from outside in: first the parameters of the definition that is read, and then the binders. A binder goes over a finite range.
use Rattle.std.specs.Prelude.{ℕ, zero, suc, ◌-◌, ◌==◌, Bool, true, false, ◌&&◌, ◌||◌, not, if◌then◌else◌, ℤ, pos, ◌+ℤ◌, ◌-ℤ◌, ◌*ℤ◌, int_le, int_lt, neg_ℤ, List, [], ◌∷◌, length, slice_index_or, Some, None}
use Rattle.c_kinds.specs.declared.models.Machdep.{Machdep}
use Rattle.c_kinds.specs.Models.{convert, low, high}
use Rattle.wp_base.specs.Blocks.{to_nat}
use Rattle.typed_prog.specs.declared.operators.Arithmetic.{Arithmetic}
use Rattle.typed_prog.specs.declared.operators.Arithmetic.TheVariants as ar
use Rattle.typed_prog.specs.declared.operators.Comparison.{Comparison}
use Rattle.typed_prog.specs.declared.operators.Comparison.TheVariants as cmp
use Rattle.qed_terms.specs.Operators.{is_equal, quotient, remainder, shifted_left, shifted_right, both_bits, either_bit, one_bit, turned_bits}
use Rattle.acsl_trees.specs.declared.heads.Head.{Head}
use Rattle.acsl_trees.specs.declared.heads.Head.TheVariants as h
use Rattle.acsl_trees.specs.declared.heads.Range.{Range}
use Rattle.acsl_trees.specs.declared.heads.Range.TheVariants as range
use Rattle.acsl_trees.specs.Tree.{Tree, Trees, node, stop, more, list_of}
use Rattle.acsl_expand.specs.Expansion.{Definition, definition_at, nought}
use Rattle.c_runs.specs.TruthStates.{Value, number, pointer, addresses, region, World, null, number_of, block_of, offset_of, span_of, truth, is_true, moved_to, state_at, content_cells, read, is_valid, all_apart, every_between, some_between}

-- ---- operators

-- on numbers of any size
abbrev pub computed : Arithmetic → ℤ → ℤ → ℤ
computed ar.Mul a b = a *ℤ b
computed ar.Div a b = quotient a b
computed ar.Rem a b = remainder a b
computed ar.Add a b = a +ℤ b
computed ar.Sub a b = a -ℤ b
computed ar.Shl a b = shifted_left a b
computed ar.Shr a b = shifted_right a b
computed ar.And a b = both_bits a b
computed ar.Xor a b = one_bit a b
computed ar.Or a b = either_bit a b

abbrev pub compare : Comparison → ℤ → ℤ → Bool
compare cmp.Less a b = int_lt a b
compare cmp.AtMost a b = int_le a b
compare cmp.Greater a b = int_lt b a
compare cmp.AtLeast a b = int_le b a
compare cmp.Equal a b = is_equal a b
compare cmp.NotEqual a b = not (is_equal a b)

-- equal pointers have one block and one offset; which one is before another is told by their offsets
abbrev pub same_pointer : Value → Value → Bool
same_pointer v w = is_equal (block_of v) (block_of w) && is_equal (offset_of v) (offset_of w)

abbrev pub compare_pointers : Comparison → Value → Value → Bool
compare_pointers cmp.Equal v w = same_pointer v w
compare_pointers cmp.NotEqual v w = not (same_pointer v w)
compare_pointers c v w = compare c (offset_of v) (offset_of w)

-- so many cells further on
abbrev pub moved : Value → ℤ → Value
moved v i = pointer (block_of v) (offset_of v +ℤ i)

abbrev pub moved_by : (minus : Bool) → (size : ℕ) → Value → Value → Value
moved_by true size v i = moved v (neg_ℤ (pos size *ℤ number_of i))
moved_by false size v i = moved v (pos size *ℤ number_of i)

-- addresses behind a pointer, at each number between two
abbrev pub reached : (size : ℕ) → Value → Value → Value → Value
reached size v i j = addresses (record { block = block_of v; offset = offset_of v; size = pos size; low = number_of i; high = number_of j })

-- ---- nodes by the values of their kids

abbrev pub value_at : List Value → ℕ → Value
value_at vs i = slice_index_or vs i (number (pos 0))

abbrev pub first : List Value → Value
first vs = value_at vs 0

abbrev pub second : List Value → Value
second vs = value_at vs 1

abbrev pub third : List Value → Value
third vs = value_at vs 2

abbrev pub chosen : List Value → Value
chosen vs = if is_true (first vs) then second vs else third vs

abbrev pub implied : Bool → Bool → Bool
implied a b = not a || b

abbrev pub same : Bool → Bool → Bool
same true b = b
same false b = not b

-- Heads that bind no name, stand under no label and call nothing. Links of a chain have their value alone; the chain compares.
abbrev pub applied : World → Head → List Value → Value
applied w (h.Number z) vs = number z
applied w h.Null vs = null
applied w h.Result vs = w.result
applied w (h.Variable x) vs = pointer (w.here.home x) (pos 0)
applied w h.Pointed vs = first vs
applied w (h.Field k offset) vs = moved (first vs) (pos offset)
applied w (h.Element size count) vs = moved_by false size (first vs) (second vs)
applied w (h.Elements size count) vs = reached size (first vs) (second vs) (third vs)
applied w (h.Behind size) vs = reached size (first vs) (second vs) (third vs)
applied w (h.Read c None) vs = read c w.here (first vs)
applied w (h.Read c (Some l)) vs = read c (state_at l w) (first vs)
applied w h.Address vs = first vs
applied w (h.Moved minus size) vs = moved_by minus size (first vs) (second vs)
applied w (h.Difference size) vs = number (quotient (offset_of (first vs) -ℤ offset_of (second vs)) (pos size))
applied w h.Negate vs = number (neg_ℤ (number_of (first vs)))
applied w h.Complement vs = number (turned_bits (number_of (first vs)))
applied w (h.Arithmetic o) vs = number (computed o (number_of (first vs)) (number_of (second vs)))
applied w (h.Convert k) vs = number (convert w.model k (number_of (first vs)))
applied w (h.Compare c) vs = truth (compare c (number_of (first vs)) (number_of (second vs)))
applied w (h.ComparePointers c) vs = truth (compare_pointers c (first vs) (second vs))
applied w h.Not vs = truth (not (is_true (first vs)))
applied w h.And vs = truth (is_true (first vs) && is_true (second vs))
applied w h.Or vs = truth (is_true (first vs) || is_true (second vs))
applied w h.Xor vs = truth (not (same (is_true (first vs)) (is_true (second vs))))
applied w h.Implies vs = truth (implied (is_true (first vs)) (is_true (second vs)))
applied w h.Iff vs = truth (same (is_true (first vs)) (is_true (second vs)))
applied w h.Choose vs = chosen vs
applied w (h.Link c) vs = first vs
applied w (h.LinkPointers c) vs = first vs
applied w (h.Valid c writable) vs = truth (is_valid writable w.here.blocks (content_cells w c) (span_of (first vs)))
applied w h.Separated vs = truth (all_apart vs)
applied w (h.Region c) vs = region (content_cells w c) (span_of (first vs))
applied w _ vs = number (pos 0)

-- ---- names and calls

abbrev pub Env : Type 0
Env = (name : ℕ) → Value

abbrev pub with_name : (name : ℕ) → Value → Env → Env
with_name x v env y = if y == x then v else env y

-- the first names have these values
abbrev pub named : List Value → Env
named vs x = value_at vs x

-- what a call of the definition with this number gives for its arguments, in a state
abbrev pub Calls : Type 0
Calls = (number : ℕ) → List Value → World → Value

-- ---- chains: a first term, and links behind it

abbrev pub head_of : Tree → Head
head_of (node head ks) = head

abbrev pub heads_of : Trees → List Head
heads_of stop = []
heads_of (more t ts) = head_of t ∷ heads_of ts

-- a link compares with the value before
abbrev pub linked : Head → Value → Value → Bool
linked (h.Link c) v w = compare c (number_of v) (number_of w)
linked (h.LinkPointers c) v w = compare_pointers c v w
linked _ v w = true

abbrev pub all_linked : (before : Value) → List Head → List Value → Bool
all_linked v [] ws = true
all_linked v (l ∷ ls) [] = true
all_linked v (l ∷ ls) (w ∷ ws) = linked l v w && all_linked w ls ws

abbrev pub in_chain : List Head → List Value → Bool
in_chain [] vs = true
in_chain (l ∷ ls) [] = true
in_chain (l ∷ ls) (v ∷ vs) = all_linked v ls vs

-- ---- binders

-- an end that is left out
abbrev pub beyond : (is_out : Bool) → ℤ → ℤ
beyond true z = z +ℤ pos 1
beyond false z = z

abbrev pub short_of : (is_out : Bool) → ℤ → ℤ
short_of true z = z -ℤ pos 1
short_of false z = z

-- the least and the greatest number of a range whose ends have these values
abbrev pub least : Machdep → Range → List Value → ℤ
least m (range.Between low_out high_out place) vs = beyond low_out (number_of (first vs))
least m (range.Kind k place) vs = low m k

abbrev pub greatest : Machdep → Range → List Value → ℤ
greatest m (range.Between low_out high_out place) vs = short_of high_out (number_of (second vs))
greatest m (range.Kind k place) vs = high m k

abbrev pub last_of : List Value → Value
last_of vs = value_at vs (length vs - 1)

-- the values of a node's kids, wherever they are read
abbrev pub Kids : Type 0
Kids = Env → (around : ℕ) → World → List Value

-- the value of the last kid under a binder that stands for this
abbrev pub under : Kids → Env → (around : ℕ) → World → Value → Value
under kids env d w v = last_of (kids (with_name d v env) (suc d) w)

abbrev pub is_true_at : Kids → Env → (around : ℕ) → World → ℤ → Bool
is_true_at kids env d w z = is_true (under kids env d w (number z))

-- ---- terms, sets and predicates

-- a node by its head, the heads of its kids and their values, where so many names are around
abbrev pub node_value : Calls → Env → (around : ℕ) → World → Head → List Head → Kids → Value
node_value m env d w (h.Name x) ls kids = env x
node_value m env d w (h.Call f) ls kids = m f (kids env d w) w
node_value m env d w (h.At l) ls kids = first (kids env d (moved_to l w))
node_value m env d w h.Let ls kids = under kids env d w (first (kids env d w))
node_value m env d w (h.Every r) ls kids =
    truth (every_between (least w.model r (kids env d w)) (greatest w.model r (kids env d w)) (is_true_at kids env d w))
node_value m env d w (h.Some r) ls kids =
    truth (some_between (least w.model r (kids env d w)) (greatest w.model r (kids env d w)) (is_true_at kids env d w))
node_value m env d w h.Chain ls kids = truth (in_chain ls (kids env d w))
node_value m env d w head ls kids = applied w head (kids env d w)

abbrev mutual
  pub value : Calls → Env → (around : ℕ) → World → Tree → Value
  value m env d w (node head ks) = node_value m env d w head (heads_of ks) (λ env' d' w'. values m env' d' w' ks)

  pub values : Calls → Env → (around : ℕ) → World → Trees → List Value
  values m env d w stop = []
  values m env d w (more t ts) = value m env d w t ∷ values m env d w ts

-- ---- definitions

-- what a body gives for these arguments
abbrev pub body_value : Calls → Tree → List Value → World → Value
body_value m t vs w = value m (named vs) (length vs) w t

-- what isn't defined is 0
abbrev pub no_calls : Calls
no_calls f vs w = number (pos 0)

-- one definition more
abbrev pub with_call : (number : ℕ) → (List Value → World → Value) → Calls → Calls
with_call n c m f vs w = if f == n then c vs w else m f vs w

-- A function that calls itself is computed downwards: with so many steps, and 0 where they don't do.
abbrev pub stepped : Calls → (number : ℕ) → Tree → (steps : ℕ) → List Value → World → Value
stepped m n t zero vs w = number (pos 0)
stepped m n t (suc k) vs w = body_value (with_call n (stepped m n t k) m) t vs w

abbrev pub kid : Tree → (place : ℕ) → Tree
kid (node head ks) i = slice_index_or (list_of ks) i nought

abbrev pub spelled_number : Tree → ℤ
spelled_number (node (h.Number z) ks) = z
spelled_number _ = pos 0

-- The body is a choice, and its test compares the last argument with a number. Each step lowers that argument by 1, down to this number; below it there
-- is none.
abbrev pub test_number : Tree → ℤ
test_number t = spelled_number (kid (kid t 0) 1)

abbrev pub steps_for : Tree → List Value → ℕ
steps_for t vs = suc (to_nat (number_of (last_of vs) -ℤ test_number t))

abbrev pub recursive_value : Calls → (number : ℕ) → Tree → List Value → World → Value
recursive_value m n t vs w = stepped m n t (steps_for t vs) vs w

abbrev pub call_value : Calls → (number : ℕ) → Definition → List Value → World → Value
call_value m n d vs w = if d.is_recursive then recursive_value m n d.body vs w else body_value m d.body vs w

-- so many definitions, in the order of the text; each may call those before it
abbrev pub calls_first : List Definition → (count : ℕ) → Calls
calls_first ds zero = no_calls
calls_first ds (suc n) = with_call n (call_value (calls_first ds n) n (definition_at ds n)) (calls_first ds n)

abbrev pub calls_of : List Definition → Calls
calls_of ds = calls_first ds (length ds)

-- an annotation, which has no parameters, in labelled states
abbrev pub holds : List Definition → World → Tree → Bool
holds ds w t = is_true (value (calls_of ds) (named []) 0 w t)
