-- What runs change and promise, as contracts see it.
use Rattle.std.proofs.Common.{◌≡◌, ℕ, ℤ, true, if◌then◌else◌, List, [], ◌∷◌, Option, Some, None, refl, sym, subst}
use Rattle.std.proofs.lemmas.Bool.{and_parts}
use Rattle.wp_base.specs.declared.kinds.CellKind.{CellKind}
use Rattle.wp_base.specs.Blocks.{count}
use Rattle.acsl_trees.specs.Tree.{Tree}
use Rattle.c_runs.specs.TruthStates.{Value, World as Meant}
use Rattle.c_runs.specs.Program.{Behavior, Contract, Stmts, Function, Facts}
use Rattle.c_runs.specs.States.{World, Memory, Here, Granted, no_locals, seen_by_contract}
use Rattle.c_runs.specs.Claims.{spent, undefined, failed, lets_cell, may_change, is_assumed, parts_of, regions_of, granted_by, granted_in, at_entry, here_in}
use Rattle.c_runs.specs.Calls.{Eval, gives, stops, Runner, called_by, found}
use Rattle.c_runs.specs.Allowed.{SetAllows, PartAllows, AllAllow, MayChange}
use Rattle.c_runs.specs.Run as spelled
use Rattle.c_runs.specs.Core.{Cores}
use Rattle.c_runs.specs.CoreRun as core
use Rattle.run_changes.specs.Laws.{Behind, RunsChangeWhatTheyMay, CoreRunsChangeWhatTheyMay}
use Rattle.run_changes.proofs.Tables.{all_first, all_second}
use Rattle.run_changes.proofs.Memories.{Kept, kept_none, allows}
use Rattle.run_changes.proofs.Worlds.{IsNewHome, KeptEval, IsBounded}
use Rattle.run_changes.proofs.Calls.{KeptAct, kept_called}
use Rattle.run_changes.proofs.Statements.{kept_bodies, kept_levels}
use Rattle.run_changes.proofs.CoreStatements as cores

-- ---- clauses

module _ (p : Facts) (vs : List Value) (m : Memory) (gs : List Granted) where
  abbrev entry : Meant
  entry = at_entry p vs m

  -- what is granted lies in the sets of these
  abbrev Grants : List Granted → Type 0
  Grants hs = (k : CellKind) (b o : ℤ) → may_change gs k b o ≡ true → may_change hs k b o ≡ true

  module _ (x : Memory) (kept : (rs : List Value) → IsBounded rs m gs → Kept rs m x) where
    set_allows : (o : Option (List Tree)) → Grants (granted_by p entry (count m.blocks) 0 o) → SetAllows p entry o (seen_by_contract p vs m) (seen_by_contract p vs x)
    set_allows None g = tt
    set_allows (Some ts) g =
        let rs = regions_of p entry ts in
        allows p vs rs m x (kept rs (record { lets = λ k b o h. (and_parts (lets_cell k b o (record { regions = rs; count = count m.blocks; declared = 0 })) true (g k b o h)).0 }))

    part_allows : (b : Behavior) → Grants (if is_assumed p entry b then granted_by p entry (count m.blocks) 0 b.assigns else [])
        → PartAllows p entry b (seen_by_contract p vs m) (seen_by_contract p vs x)
    part_allows b g is =
        set_allows b.assigns (λ k c o h. subst (λ t. may_change (if t then granted_by p entry (count m.blocks) 0 b.assigns else []) k c o ≡ true) is (g k c o h))

    all_allow : (bs : List Behavior) → Grants (granted_in p entry (count m.blocks) bs) → AllAllow p entry bs (seen_by_contract p vs m) (seen_by_contract p vs x)
    all_allow [] g = tt
    all_allow (b ∷ bs) g =
        let first = if is_assumed p entry b then granted_by p entry (count m.blocks) 0 b.assigns else [] in
        let others = granted_in p entry (count m.blocks) bs in
        (part_allows b (λ k c o h. all_first (lets_cell k c o) first others (g k c o h)), all_allow bs (λ k c o h. all_second (lets_cell k c o) first others (g k c o h)))

  behind : (c : Contract) → Grants (granted_in p entry (count m.blocks) (parts_of c)) → (e : Eval) → ((rs : List Value) → IsBounded rs m gs → KeptEval rs m e) → Behind (MayChange p c vs m) e
  behind c g (gives v w) k = all_allow w.memory (λ rs i. (k rs i).memory) (parts_of c) g
  behind c g (stops (spent w)) k = all_allow w.memory k (parts_of c) g
  behind c g (stops (undefined u line)) k = tt
  behind c g (stops (failed b line)) k = tt

-- ---- calls from outside

module _ (B : Type 0) (p : Facts) (go : Runner B) (runs : (rs : List Value) (m : Memory) (f : Function B) (here : Here) → IsBounded rs m here.granted → KeptAct rs m (go f here)) where
  pub call_changes : (here : Here) (n l : ℕ) (f : Function B) (vs : List Value) (w : World) → ((x : ℕ) → w.locals x ≡ no_locals x)
      → Behind (MayChange p f.contract vs w.memory) (called_by p go here n l f vs w)
  call_changes here n l f vs w empty =
      let inside = here_in p n vs w.memory f.contract here.granted in
      behind p vs w.memory inside.granted f.contract
      (λ k b o h. all_first (lets_cell k b o) (granted_in p (at_entry p vs w.memory) (count w.memory.blocks) (parts_of f.contract)) _ h)
      (called_by p go here n l f vs w)
      (λ rs i. kept_called rs w.memory B p go (runs rs w.memory) here n l f vs w i
      (record { memory = kept_none rs w.memory; homes = λ x. subst (IsNewHome w.memory) (sym (empty x)) tt }))

pub runs_change_what_they_may : RunsChangeWhatTheyMay
runs_change_what_they_may p f b vs m n contents is =
    let go : Runner Stmts = λ g here w. spelled.returned g (spelled.levels p n (spelled.body g) here w) in
    let here = spelled.outside f p.facts m in
    let w = spelled.at_first n contents m in
    subst (λ o. Behind (MayChange p.facts b.contract vs m) (found p.facts go here f 0 o vs w)) (sym is)
    (call_changes Stmts p.facts go (λ rs m. kept_bodies rs m p (spelled.levels p n) (kept_levels rs m p n)) here f 0 b vs w (λ x. refl))

pub core_runs_change_what_they_may : CoreRunsChangeWhatTheyMay
core_runs_change_what_they_may p f b vs m n contents is =
    let go : Runner Cores = λ g here w. core.returned g (core.levels p n (core.body g) here (core.begun w)) in
    let here = spelled.outside f p.facts m in
    let w = spelled.at_first n contents m in
    subst (λ o. Behind (MayChange p.facts b.contract vs m) (found p.facts go here f 0 o vs w)) (sym is)
    (call_changes Cores p.facts go (λ rs m. cores.kept_bodies rs m p (core.levels p n) (cores.kept_levels rs m p n)) here f 0 b vs w (λ x. refl))
