-- What annotations claim of a run, and how a run stops (ACSL 2.3, 2.4). Terms and predicates are read in the states that their place gives them.
use Rattle.std.specs.Prelude.{ℕ, nat_le, Bool, true, false, not, ◌&&◌, ◌||◌, if◌then◌else◌, ℤ, pos, int_le, int_lt, List, [], ◌∷◌, map, ◌++◌, Option, Some, None, slice_get, slice_index_or}
use Rattle.std.specs.List.{filter, list_all, list_any}
use Rattle.wp_base.specs.declared.kinds.CellKind.{CellKind}
use Rattle.wp_base.specs.Blocks.{count}
use Rattle.c_runs.specs.TruthTold.{Tree}
use Rattle.c_runs.specs.TruthStates.{Value, number, State, World, number_of, is_negative}
use Rattle.c_runs.specs.Truth as truth
use Rattle.c_runs.specs.TruthAllowed.{lies_in, is_named}
use Rattle.c_runs.specs.Program.{Claim, Measure, Behavior, Together, Contract, Loop, Facts}
use Rattle.c_runs.specs.States as state
use Rattle.c_runs.specs.States.{Memory, Here, Granted, seen, seen_by_contract, hidden}
use Rattle.c_runs.specs.Operators.{Undefined}

-- ---- how a run stops

-- an annotation, by what it asks for
pub data Broken : Type 0 where
  requires : Broken
  decreases : Broken
  complete : Broken
  disjoint : Broken
  assert : Broken
  invariant : Broken
  variant_positive : Broken
  variant_less : Broken
  assigns : Broken
  ensures : Broken

-- The turns are spent, in this state; undefined behaviour of a kind; or an annotation that is false. What a call asks for has the line of the call, what a
-- write may change that of the write, and any other annotation that of its clause.
pub data Stop : Type 0 where
  spent : (w : state.World) → Stop
  undefined : (u : Undefined) (line : ℕ) → Stop
  failed : (b : Broken) (line : ℕ) → Stop

-- the first reason to stop
abbrev pub or_stop : Option Stop → Option Stop → Option Stop
or_stop (Some s) o = Some s
or_stop None o = o

abbrev pub unless_true : Bool → Broken → (line : ℕ) → Option Stop
unless_true true b l = None
unless_true false b l = Some (failed b l)

-- ---- the states of annotations

abbrev pub struct_cells : Facts → (number : ℕ) → List CellKind
struct_cells p n = slice_index_or p.structs n []

-- in the body of a function
abbrev pub in_body : Facts → Here → state.World → World
in_body p here w = record {
  here = seen p w;
  pre = here.entry;
  post = seen p w;
  loop_entry = here.loop_entry;
  result = number (pos 0);
  model = p.model;
  structs = struct_cells p;
}

-- in one state alone, as at the entry of a function
abbrev pub in_state : Facts → State → World
in_state p s = record { here = s; pre = s; post = s; loop_entry = s; result = number (pos 0); model = p.model; structs = struct_cells p }

abbrev pub at_entry : Facts → (arguments : List Value) → Memory → World
at_entry p vs m = in_state p (seen_by_contract p vs m)

-- where a function returns this; parameters have their values at entry (ACSL 2.3.1)
abbrev pub at_return : Facts → Here → Memory → Value → World
at_return p here m v = record {
  here = seen_by_contract p here.arguments m;
  pre = here.entry;
  post = seen_by_contract p here.arguments m;
  loop_entry = here.entry;
  result = v;
  model = p.model;
  structs = struct_cells p;
}

-- ---- terms and predicates

abbrev pub holds : Facts → World → Tree → Bool
holds p w t = truth.holds p.definitions w t

abbrev pub value_of : Facts → World → Tree → Value
value_of p w t = truth.value (truth.calls_of p.definitions) (truth.named []) 0 w t

abbrev pub number_at : Facts → World → Tree → ℤ
number_at p w t = number_of (value_of p w t)

abbrev pub regions_of : Facts → World → List Tree → List Value
regions_of p w ts = map (value_of p w) ts

-- the first claim that is false, at its own line
abbrev pub claimed : Facts → World → Broken → List Claim → Option Stop
claimed p w b [] = None
claimed p w b (c ∷ cs) = or_stop (unless_true (holds p w c.what) b c.line) (claimed p w b cs)

-- all of them, at one line
abbrev pub all_hold : Facts → World → List Claim → Bool
all_hold p w [] = true
all_hold p w (c ∷ cs) = holds p w c.what && all_hold p w cs

-- ---- behaviors (ACSL 2.3.3)

abbrev pub is_assumed : Facts → World → Behavior → Bool
is_assumed p w b = list_all (holds p w) b.assumes

-- what stands outside of behaviors, and then these
abbrev pub parts_of : Contract → List Behavior
parts_of c = c.plain ∷ c.behaviors

-- asked for by each part whose assumptions hold
abbrev pub is_required : Facts → World → Behavior → Bool
is_required p w b = if is_assumed p w b then all_hold p w b.requires else true

abbrev pub required : Facts → (line : ℕ) → World → Contract → Option Stop
required p l w c = unless_true (list_all (is_required p w) (parts_of c)) requires l

-- promised by each part whose assumptions held at entry
abbrev pub ensured_by : Facts → (before behind : World) → List Behavior → Option Stop
ensured_by p v w [] = None
ensured_by p v w (b ∷ bs) = or_stop (if is_assumed p v b then claimed p w ensures b.ensures else None) (ensured_by p v w bs)

abbrev pub ensured : Facts → Here → Memory → Value → Contract → Option Stop
ensured p here m v c = ensured_by p (in_state p here.entry) (at_return p here m v) (parts_of c)

-- which of the named behaviors are assumed
abbrev pub is_assumed_in : Facts → World → Option Behavior → Bool
is_assumed_in p w (Some b) = is_assumed p w b
is_assumed_in p w None = false

abbrev pub assumed_of : Facts → World → List Behavior → (numbers : List ℕ) → List Bool
assumed_of p w bs [] = map (is_assumed p w) bs
assumed_of p w bs (n ∷ ns) = map (λ i. is_assumed_in p w (slice_get bs i)) (n ∷ ns)

abbrev pub is_so : Bool → Bool
is_so b = b

abbrev pub one_at_most : List Bool → Bool
one_at_most [] = true
one_at_most (b ∷ bs) = (not b || not (list_any is_so bs)) && one_at_most bs

abbrev pub together_holds : Facts → World → List Behavior → Together → Option Stop
together_holds p w bs t =
    if t.is_complete then unless_true (list_any is_so (assumed_of p w bs t.numbers)) complete t.line
    else unless_true (one_at_most (assumed_of p w bs t.numbers)) disjoint t.line

abbrev pub all_together : Facts → World → List Behavior → List Together → Option Stop
all_together p w bs [] = None
all_together p w bs (t ∷ ts) = or_stop (together_holds p w bs t) (all_together p w bs ts)

abbrev pub says_complete : Together → Bool
says_complete t = t.is_complete

abbrev pub says_disjoint : Together → Bool
says_disjoint t = not t.is_complete

-- that one of them is there is tested first, and then that no two of them are, each in the order of the text
abbrev pub in_order : List Together → List Together
in_order ts = filter says_complete ts ++ filter says_disjoint ts

-- at the entry of a function
abbrev pub entered_well : Facts → World → Contract → Option Stop
entered_well p w c = all_together p w c.behaviors (in_order c.together)

-- ---- measures (ACSL 2.5)

abbrev pub measure_of : Facts → World → Option Measure → Option ℤ
measure_of p w None = None
measure_of p w (Some m) = Some (number_at p w m.what)

-- a measure was at least 0, and is smaller now
abbrev pub is_less : ℤ → ℤ → Bool
is_less old now = int_le (pos 0) old && int_lt now old

abbrev pub goes_down : (line : ℕ) → (old now : Option ℤ) → Option Stop
goes_down l (Some old) (Some now) = unless_true (is_less old now) decreases l
goes_down l old now = None

-- at a call between functions that call each other
abbrev pub decreased : Facts → (line : ℕ) → Here → (callee : ℕ) → (now : Option ℤ) → Option Stop
decreased p l here f now = if p.in_cluster here.function f then goes_down l here.measure now else None

-- the variant of a loop, where a turn ended that began with this one
abbrev pub variant_down : (line : ℕ) → (old now : ℤ) → Option Stop
variant_down l old now = or_stop (unless_true (int_le (pos 0) old) variant_positive l) (unless_true (int_lt now old) variant_less l)

abbrev pub variant_holds : Facts → World → Option Measure → (last : Option ℤ) → Option Stop
variant_holds p w (Some m) (Some old) = variant_down m.line old (number_at p w m.what)
variant_holds p w m last = None

-- at the head of a loop, with the variant that the turn before began with
abbrev pub at_head : Facts → World → Loop → (last : Option ℤ) → Option Stop
at_head p w l last = or_stop (claimed p w invariant l.invariants) (variant_holds p w l.variant last)

-- ---- what may change (ACSL 2.3.2, 2.4.2)

abbrev pub granted_by : Facts → World → ℤ → (declared : ℕ) → Option (List Tree) → List Granted
granted_by p w n d None = []
granted_by p w n d (Some ts) = record { regions = regions_of p w ts; count = n; declared = d } ∷ []

abbrev pub granted_in : Facts → World → ℤ → List Behavior → List Granted
granted_in p w n [] = []
granted_in p w n (b ∷ bs) = (if is_assumed p w b then granted_by p w n 0 b.assigns else []) ++ granted_in p w n bs

-- of a call; the variables of the caller's functions aren't those of the function that is called
abbrev pub of_caller : Granted → Granted
of_caller g = record g { declared = 0 }

abbrev pub granted_at : Facts → World → ℤ → Contract → List Granted → List Granted
granted_at p w n c gs = granted_in p w n (parts_of c) ++ map of_caller gs

-- a cell of a block that is newer than the set, or in it; a variable of the file that is named
abbrev pub lets_cell : CellKind → (block offset : ℤ) → Granted → Bool
lets_cell k b o g = if is_negative b then is_named g.regions b else int_le g.count b || lies_in g.regions k b o

abbrev pub may_change : List Granted → CellKind → (block offset : ℤ) → Bool
may_change gs k b o = list_all (lets_cell k b o) gs

-- a variable of the function that is declared inside of the loop, or named
abbrev pub lets_local : Facts → (variable : ℕ) → Granted → Bool
lets_local p x g = nat_le g.declared x || is_named g.regions (hidden p x)

abbrev pub may_change_local : Facts → List Granted → (variable : ℕ) → Bool
may_change_local p gs x = list_all (lets_local p x) gs

-- ---- what is carried along

-- in a function that is called with these arguments
abbrev pub here_in : Facts → (function : ℕ) → (arguments : List Value) → Memory → Contract → List Granted → Here
here_in p f vs m c gs = record {
  function = f;
  arguments = vs;
  entry = seen_by_contract p vs m;
  measure = measure_of p (at_entry p vs m) c.decreases;
  loop_entry = seen_by_contract p vs m;
  granted = granted_at p (at_entry p vs m) (count m.blocks) c gs;
}

-- inside of a loop that is entered here
abbrev pub in_loop : Facts → Here → Loop → state.World → Here
in_loop p here l w =
    record here { loop_entry = seen p w; granted = granted_by p (in_body p (record here { loop_entry = seen p w }) w) (count w.memory.blocks) l.declared l.assigns ++ here.granted }
