-- What is asked of the statements of a function over plain integers beside what its annotations are: typed expressions with their own checks, variables in
-- scope, temporaries, and functions that are there.
use Rattle.std.specs.Prelude.{◌≡◌, ◌<◌, ◌≤◌, ◌⊎◌, ℕ, Bool, true, false, List, ◌∷◌, length, Option, Some, None, slice_get}
use Rattle.std.specs.List.{list_all}
use Rattle.wp_base.specs.declared.kinds.CellKind.TheVariants as cell
use Rattle.wp_base.specs.declared.kinds.Kind.{Kind}
use Rattle.typed_prog.specs.Tree as t
use Rattle.c_runs.specs.Program.{Variable, Loop, Function, Facts}
use Rattle.c_runs.specs.Checks.{Check, checks_of, all_checks}
use Rattle.c_runs.specs.Tree as core
use Rattle.c_runs.specs.Tree.{Goal, Steps}
use Rattle.plain_states.specs.Scopes.{kind_of}
use Rattle.plain_runs.specs.Fitting.{Shape, LeadsTo, with_names}
use Rattle.plain_runs.specs.Kept.{some_temps}
use Rattle.value_terms.specs.Words.{words}
use Rattle.value_terms.specs.Typed.{AreTyped, operand_kind}
use Rattle.loop_words.specs.Told.{Temporaries, no_temporaries, live, all_live, reading, is_closed_item, scope_at, ValueFits, Takes, Declares}
use Rattle.loop_words.specs.Sets.{lets_local, local_changes}
use Rattle.call_words.specs.Fits.{ResultGoes, count_of}

-- A local that changes at the head of a loop is in scope there, none that is declared inside of it is let, and no temporary that is used there is set in a
-- turn.
pub record LoopStands (in_scope : ℕ → Bool) (outs : List Temporaries) (l : Loop) (ss : Steps) : Type 0 where
  pub scoped : (x : ℕ) → local_changes l ss x ≡ true → in_scope x ≡ true
  pub inner : (x : ℕ) → l.declared ≤ x → (in_scope x ≡ false) ⊎ (lets_local l ss x ≡ false)
  pub temporaries : (n : ℕ) → all_live ss outs no_temporaries n ≡ true → some_temps ss n ≡ false

module _ (p : Facts) (s : Shape) (functions : ℕ → Option (Function Steps)) where
  -- the function is there, its arguments are of the kinds of its parameters, and its result has a place
  pub record CallStands (in_scope : ℕ → Bool) (outs : List Temporaries) (after : Temporaries) (cs : List Check) (to : Goal) (n l : ℕ) (es : t.Values) : Type 0 where
    pub function : Function Steps
    pub found : functions n ≡ Some function
    pub checks : cs ≡ all_checks s.variables es
    pub typed : AreTyped p s.variables (scope_at s (live (core.call cs to n l es) outs after)) es
    pub items : list_all is_closed_item (words p s.variables (reading p s) es) ≡ true
    pub count : count_of es ≡ function.params
    pub kinds : (x : ℕ) (v : Variable) → slice_get function.variables x ≡ Some v → x < function.params → operand_kind es x ≡ cell.Of (kind_of v)
    pub result : ResultGoes p s in_scope function.result to

  abbrev mutual
    pub StepStands : (in_scope : ℕ → Bool) → (outs : List Temporaries) → (after : Temporaries) → core.Step → Type 0
    StepStands i os f (core.set cs n e) = (n < s.temporaries) × ValueFits p s (live (core.set cs n e) os f) e (s.temp_kind n) × (cs ≡ checks_of s.variables e)
    StepStands i os f (core.store cs type l path (t.more e t.stop)) =
        (k : Kind) × LeadsTo p s i path k × ValueFits p s (live (core.store cs type l path (t.more e t.stop)) os f) e k × (cs ≡ all_checks s.variables (t.more e t.stop))
    StepStands i os f (core.store cs type l path es) = ⊥
    StepStands i os f (core.start cs x e) = (k : Kind) × Takes s i x k × ValueFits p s (live (core.start cs x e) os f) e k × (cs ≡ checks_of s.variables e)
    StepStands i os f (core.call cs to n l es) = CallStands i os f cs to n l es
    StepStands i os f (core.branch cs e a b) =
        (k : Kind) × ValueFits p s (live (core.branch cs e a b) os f) e k × (cs ≡ checks_of s.variables e) × AllStand i os f a × AllStand i os f b
    StepStands i os f (core.repeat l ss) = LoopStands i os l ss × AllStand i os no_temporaries ss
    StepStands i os f (core.around ss) = AllStand i (f ∷ os) f ss
    StepStands i os f (core.exit k) = k < length os
    StepStands i os f (core.give cs None) = s.result ≡ None
    StepStands i os f (core.give cs (Some e)) =
        (k : Kind) × (s.result ≡ Some (cell.Of k)) × ValueFits p s (live (core.give cs (Some e)) os f) e k × (cs ≡ checks_of s.variables e)
    StepStands i os f (core.claim c) = Unit {0}
    StepStands i os f (core.scope ys ss) = Declares s i ys × AllStand (with_names ys i) os f ss

    pub AllStand : (in_scope : ℕ → Bool) → (outs : List Temporaries) → (after : Temporaries) → Steps → Type 0
    AllStand i os f core.end = Unit {0}
    AllStand i os f (core.then_ a ss) = StepStands i os (all_live ss os f) a × AllStand i os f ss
