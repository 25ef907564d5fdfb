-- What is asked of the sets of loops and functions (ACSL 2.3.2, 2.4.2): their regions have no gaps, as whether one lies in another is told by their ends; and a
-- loop lets no variable change that isn't in scope.
use Rattle.std.specs.Prelude.{◌≡◌, ◌<◌, ℕ, Bool, true, ◌&&◌, ℤ, pos, int_le, int_lt, List, [], ◌∷◌, Option, Some, None, slice_get}
use Rattle.qed_terms.specs.Operators.{is_equal}
use Rattle.acsl_trees.specs.Tree.{Tree}
use Rattle.c_runs.specs.TruthStates.{Value, State, World, number, span_of, covers}
use Rattle.c_runs.specs.TruthAllowed.{is_named}
use Rattle.c_runs.specs.Program.{Variable, Behavior, Loop, Function, Facts, Program}
use Rattle.c_runs.specs.States.{Memory, hidden, seen, seen_by_contract}
use Rattle.c_runs.specs.Claims.{struct_cells, at_entry, parts_of, regions_of}
use Rattle.c_runs.specs.Entry.{are_arguments, all_lead_well}
use Rattle.c_runs.specs.CoreRun.{CoreWorld}
use Rattle.c_runs.specs.Tree.{Step, set, store, start, call, branch, repeat, around, exit, give, claim, scope, Steps, end, then_}
use Rattle.goal_segments.specs.Sets.{first_cell, last_end}
use Rattle.goal_segments.specs.Told.{IsGood, with_names, is_param}
use Rattle.plain_runs.specs.Kept.{some_sets}
use Rattle.program_steps.specs.Temporaries.{no_temporaries}
use Rattle.typed_runs.specs.Fitting.{Shape, InScope, FitsProgram, shape}
use Rattle.typed_runs.specs.Kept.{Holds}

-- ---- regions without gaps

abbrev pub is_between : Value → (block offset : ℤ) → Bool
is_between r b o = is_equal (span_of r).block b && (int_le (first_cell r) o && int_lt o (last_end r))

abbrev pub IsSolid : Value → Type 0
IsSolid r = (b o : ℤ) → covers r b o ≡ is_between r b o

abbrev pub AllSolid : List Value → Type 0
AllSolid [] = Unit {0}
AllSolid (r ∷ rs) = IsSolid r × AllSolid rs

-- ---- functions

-- a good state in which a function is entered with arguments of its kinds
pub record EntersWith (p : Facts) (g : Function Steps) (vs : List Value) (m : Memory) : Type 0 where
  pub good : IsGood p m
  pub arguments : are_arguments p m.blocks g.params g.variables vs ≡ true
  pub pointers : all_lead_well vs ≡ true

abbrev pub SetIsSolid : Facts → World → Option (List Tree) → Type 0
SetIsSolid p w None = Unit {0}
SetIsSolid p w (Some ts) = AllSolid (regions_of p w ts)

abbrev pub AllAreSolid : Facts → World → List Behavior → Type 0
AllAreSolid p w [] = Unit {0}
AllAreSolid p w (b ∷ bs) = SetIsSolid p w b.assigns × AllAreSolid p w bs

-- ---- loops

-- where a loop is entered, in a function that was entered in this state
abbrev pub entering : Facts → (pre : State) → CoreWorld → World
entering p pre c = record {
  here = seen p c.world;
  pre = pre;
  post = seen p c.world;
  loop_entry = seen p c.world;
  result = number (pos 0);
  model = p.model;
  structs = struct_cells p;
}

-- the locals that it lets change: those that its set names, or else those that it sets
abbrev pub lets_at : Facts → World → Steps → (variable : ℕ) → Option (List Tree) → Bool
lets_at p w ss x None = some_sets ss x
lets_at p w ss x (Some ts) = is_named (regions_of p w ts) (hidden p x)

module _ (p : Facts) (s : Shape) (g : Function Steps) where
  pub record LoopSet (f : InScope) (l : Loop) (ss : Steps) : Type 0 where
    pub solid : (vs : List Value) (m : Memory) → EntersWith p g vs m → (c : CoreWorld) → Holds p s f no_temporaries c
        → SetIsSolid p (entering p (seen_by_contract p vs m) c) l.assigns
    pub scoped : (vs : List Value) (m : Memory) → EntersWith p g vs m → (c : CoreWorld) → Holds p s f no_temporaries c
        → (x : ℕ) (v : Variable) → slice_get s.variables x ≡ Some v → v.is_plain ≡ true → x < l.declared
        → lets_at p (entering p (seen_by_contract p vs m) c) ss x l.assigns ≡ true → f x ≡ true

  abbrev mutual
    pub LoopSets : InScope → Step → Type 0
    LoopSets f (branch cs e a b) = AllLoopSets f a × AllLoopSets f b
    LoopSets f (repeat l ss) = LoopSet f l ss × AllLoopSets f ss
    LoopSets f (around ss) = AllLoopSets f ss
    LoopSets f (scope ys ss) = AllLoopSets (with_names ys f) ss
    LoopSets f (set cs n e) = Unit {0}
    LoopSets f (store cs type l path es) = Unit {0}
    LoopSets f (start cs x e) = Unit {0}
    LoopSets f (call cs to n l es) = Unit {0}
    LoopSets f (exit k) = Unit {0}
    LoopSets f (give cs e) = Unit {0}
    LoopSets f (claim c) = Unit {0}

    pub AllLoopSets : InScope → Steps → Type 0
    AllLoopSets f end = Unit {0}
    AllLoopSets f (then_ a ss) = LoopSets f a × AllLoopSets f ss

-- ---- programs

pub record SetsFit (q : Program Steps) (fits : FitsProgram q) : Type 0 where
  pub contracts : (n : ℕ) (g : Function Steps) → q.functions n ≡ Some g → (vs : List Value) (m : Memory) → EntersWith q.facts g vs m
      → AllAreSolid q.facts (at_entry q.facts vs m) (parts_of g.contract)
  pub loops : (n : ℕ) (g : Function Steps) (e : q.functions n ≡ Some g)
      → AllLoopSets q.facts (shape q fits g (fits.functions n g e)) g (is_param g.params) g.body
