-- Calls keep what bodies keep, and annotations never tell that the turns are spent.
use Rattle.std.proofs.Common.{ℕ, zero, suc, ℤ, Bool, true, false, if◌then◌else◌, List, [], ◌∷◌, Option, Some, None}
use Rattle.std.specs.Prelude.{int_le, int_lt, pos}
use Rattle.std.specs.List.{list_all, list_any}
use Rattle.c_runs.specs.TruthStates.{Value, World as Meant}
use Rattle.c_runs.specs.Program.{Claim, Measure, Behavior, Together, Contract, Loop, Function, Facts}
use Rattle.c_runs.specs.States.{World, Memory, Here}
use Rattle.c_runs.specs.Claims.{Broken, requires, complete, disjoint, ensures, invariant, decreases, variant_positive, variant_less, Stop, or_stop, unless_true, holds, is_assumed, claimed, parts_of, is_required, required, in_state, at_return, ensured_by, ensured, is_so, assumed_of, one_at_most, together_holds, all_together, in_order, entered_well, measure_of, number_at, is_less, goes_down, decreased, variant_holds, at_head, at_entry, here_in}
use Rattle.c_runs.specs.Scopes.{arrived}
use Rattle.c_runs.specs.Calls.{Eval, gives, stops, Act, unless, turn_by, turn, back_in, keeps_promises, Runner, entered_by, called_by, found}
use Rattle.run_changes.proofs.Tables.{if_by}
use Rattle.run_changes.proofs.Memories.{kept_ended}
use Rattle.run_changes.proofs.Worlds.{KeptWorld, KeptStop, KeptEval, IsBounded, bounded_call, kept_arrived}

module _ (rs : List Value) (before : Memory) where
  -- ---- annotations

  abbrev pub KeptOption : Option Stop → Type 0
  KeptOption None = Unit {0}
  KeptOption (Some s) = KeptStop rs before s

  pub told_true : (t : Bool) (b : Broken) (l : ℕ) → KeptOption (unless_true t b l)
  told_true true b l = tt
  told_true false b l = tt

  told_or : (o q : Option Stop) → KeptOption o → KeptOption q → KeptOption (or_stop o q)
  told_or None q a b = b
  told_or (Some s) q a b = a

  told_claimed : (p : Facts) (w : Meant) (b : Broken) (cs : List Claim) → KeptOption (claimed p w b cs)
  told_claimed p w b [] = tt
  told_claimed p w b (c ∷ cs) = told_or (unless_true (holds p w c.what) b c.line) (claimed p w b cs) (told_true (holds p w c.what) b c.line) (told_claimed p w b cs)

  told_ensured : (p : Facts) (v w : Meant) (bs : List Behavior) → KeptOption (ensured_by p v w bs)
  told_ensured p v w [] = tt
  told_ensured p v w (b ∷ bs) =
      told_or (if is_assumed p v b then claimed p w ensures b.ensures else None) (ensured_by p v w bs)
      (if_by KeptOption (is_assumed p v b) (claimed p w ensures b.ensures) None (told_claimed p w ensures b.ensures) tt) (told_ensured p v w bs)

  told_together : (p : Facts) (w : Meant) (bs : List Behavior) (t : Together) → KeptOption (together_holds p w bs t)
  told_together p w bs t =
      let some = list_any is_so (assumed_of p w bs t.numbers) in
      let one = one_at_most (assumed_of p w bs t.numbers) in
      if_by KeptOption t.is_complete (unless_true some complete t.line) (unless_true one disjoint t.line) (told_true some complete t.line) (told_true one disjoint t.line)

  told_all : (p : Facts) (w : Meant) (bs : List Behavior) (ts : List Together) → KeptOption (all_together p w bs ts)
  told_all p w bs [] = tt
  told_all p w bs (t ∷ ts) = told_or (together_holds p w bs t) (all_together p w bs ts) (told_together p w bs t) (told_all p w bs ts)

  told_down : (l : ℕ) (old now : Option ℤ) → KeptOption (goes_down l old now)
  told_down l (Some old) (Some now) = told_true (is_less old now) decreases l
  told_down l (Some old) None = tt
  told_down l None now = tt

  told_decreased : (p : Facts) (l : ℕ) (here : Here) (f : ℕ) (now : Option ℤ) → KeptOption (decreased p l here f now)
  told_decreased p l here f now = if_by KeptOption (p.in_cluster here.function f) (goes_down l here.measure now) None (told_down l here.measure now) tt

  told_variant : (p : Facts) (w : Meant) (m : Option Measure) (last : Option ℤ) → KeptOption (variant_holds p w m last)
  told_variant p w (Some m) (Some old) =
      let now = number_at p w m.what in
      told_or (unless_true (int_le (pos 0) old) variant_positive m.line) (unless_true (int_lt now old) variant_less m.line)
      (told_true (int_le (pos 0) old) variant_positive m.line) (told_true (int_lt now old) variant_less m.line)
  told_variant p w (Some m) None = tt
  told_variant p w None last = tt

  pub told_head : (p : Facts) (w : Meant) (l : Loop) (last : Option ℤ) → KeptOption (at_head p w l last)
  told_head p w l last = told_or (claimed p w invariant l.invariants) (variant_holds p w l.variant last) (told_claimed p w invariant l.invariants) (told_variant p w l.variant last)

  -- ---- calls

  abbrev pub KeptAct : Act → Type 0
  KeptAct act = (w : World) → KeptWorld rs before w → KeptEval rs before (act w)

  kept_unless : (o : Option Stop) (e : Eval) → KeptOption o → KeptEval rs before e → KeptEval rs before (unless o e)
  kept_unless None e t k = k
  kept_unless (Some s) e t k = t

  kept_turn : (n : ℕ) (w : World) (go : Act) → KeptWorld rs before w → KeptAct go → KeptEval rs before (turn_by n w go)
  kept_turn zero w go a k = a.memory
  kept_turn (suc n) w go a k = k (record w { turns = n }) (record { memory = a.memory; homes = a.homes })

  kept_back : (w : World) (e : Eval) → KeptWorld rs before w → KeptEval rs before e → KeptEval rs before (back_in w e)
  kept_back w (gives v u) a k = record { memory = kept_ended rs before w.memory u.memory a.memory k.memory; homes = a.homes }
  kept_back w (stops s) a k = k

  kept_promises : (p : Facts) (here : Here) (c : Contract) (e : Eval) → KeptEval rs before e → KeptEval rs before (keeps_promises p here c e)
  kept_promises p here c (gives v w) k =
      kept_unless (ensured p here w.memory v c) (gives v w) (told_ensured p (in_state p here.entry) (at_return p here w.memory v) (parts_of c)) k
  kept_promises p here c (stops s) k = k

  module _ (B : Type 0) (p : Facts) (go : Runner B) (runs : (f : Function B) (here : Here) → IsBounded rs before here.granted → KeptAct (go f here)) where
    kept_body : (f : Function B) (here : Here) (vs : List Value) → IsBounded rs before here.granted → KeptAct (entered_by p go f here vs)
    kept_body f here vs i w a =
        let ran = go f here (arrived f.variables vs w) in
        kept_unless (entered_well p (at_entry p vs w.memory) f.contract) (keeps_promises p here f.contract (back_in w ran)) (told_all p (at_entry p vs w.memory) f.contract.behaviors (in_order f.contract.together))
        (kept_promises p here f.contract (back_in w ran) (kept_back w ran a (runs f here i (arrived f.variables vs w) (kept_arrived rs before f.variables vs w a))))

    pub kept_called : (here : Here) (n l : ℕ) (f : Function B) (vs : List Value) (w : World) → IsBounded rs before (here_in p n vs w.memory f.contract here.granted).granted → KeptWorld rs before w
        → KeptEval rs before (called_by p go here n l f vs w)
    kept_called here n l f vs w i a =
        let e = at_entry p vs w.memory in
        let inside = here_in p n vs w.memory f.contract here.granted in
        let last = turn w (entered_by p go f inside vs) in
        kept_unless (required p l e f.contract) (unless (decreased p l here n (measure_of p e f.contract.decreases)) last) (told_true (list_all (is_required p e) (parts_of f.contract)) requires l)
        (kept_unless (decreased p l here n (measure_of p e f.contract.decreases)) last (told_decreased p l here n (measure_of p e f.contract.decreases))
        (kept_turn w.turns w (entered_by p go f inside vs) a (kept_body f inside vs i)))

    pub kept_found : (here : Here) (n l : ℕ) (o : Option (Function B)) (vs : List Value) → IsBounded rs before here.granted → KeptAct (found p go here n l o vs)
    kept_found here n l None vs i w a = tt
    kept_found here n l (Some f) vs i w a = kept_called here n l f vs w (bounded_call rs before p n vs w.memory f.contract here.granted i) a
