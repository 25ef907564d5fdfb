-- Where the result of a call goes: nowhere, to a temporary, to a place, or to a variable that is declared with it.
use Rattle.std.proofs.Common.{◌≡◌, ℕ, ◌+◌, ◌<◌, Bool, true, false, not, ◌&&◌, if◌then◌else◌, pos, List, [], ◌∷◌, map, Option, Some, None, slice_get, refl, sym, ap, ◌∙◌, subst}
use Rattle.std.specs.Prelude.{◌==◌}
use Rattle.std.proofs.lemmas.Bool.{false≢true}
use Rattle.std.proofs.lemmas.Bool.Decides.{Decides-eqb}
use Rattle.wp_base.specs.declared.kinds.CellKind.{CellKind}
use Rattle.wp_base.specs.Blocks.{count}
use Rattle.typed_prog.specs.Tree as t
use Rattle.typed_prog.specs.declared.types.CoreType.{CoreType}
use Rattle.typed_prog.specs.declared.operators.Path.{Path}
use Rattle.typed_prog.specs.declared.operators.Root.TheVariants as root
use Rattle.typed_prog.specs.declared.operators.Variable as code
use Rattle.typed_prog.specs.declared.operators.Variable.TheVariants as variables
use Rattle.qed_terms.specs.Meaning as sense
use Rattle.c_runs.specs.TruthStates as labelled
use Rattle.c_runs.specs.TruthStates.{Value}
use Rattle.c_runs.specs.Program.{Variable, Contract, Facts, Program}
use Rattle.c_runs.specs.States.{World, Here, plain, with_local, with_memory, stored_in, global_home}
use Rattle.c_runs.specs.Claims as broken
use Rattle.c_runs.specs.Claims.{failed, may_change, may_change_local}
use Rattle.c_runs.specs.Effects as effects
use Rattle.c_runs.specs.Effects.{granted, wrote_act, initial_act, kind_there}
use Rattle.c_runs.specs.Objects.{plain_root, is_plain_in, cell_of, along, start as start_at, address}
use Rattle.c_runs.specs.Scopes.{is_content}
use Rattle.c_runs.specs.CoreRun as run
use Rattle.c_runs.specs.CoreRun.{CoreWorld, Ending, with_eval, in_world}
use Rattle.c_runs.specs.Tree.{Goal, nowhere, temporary, place, variable, Steps}
use Rattle.c_runs.specs.CheckedRun as exec
use Rattle.goal_segments.specs.Told.{goal_temp}
use Rattle.goal_segments.specs.Segments.{no_deeper}
use Rattle.value_terms.specs.Readings.{Term, plain_global}
use Rattle.memory_steps.specs.State.{State}
use Rattle.memory_steps.specs.Step.{Step, skip, places, count as checks_in}
use Rattle.memory_steps.specs.Run.{End, goes_on, Seg}
use Rattle.memory_steps.specs.Run as seg
use Rattle.memory_words.specs.Places.{answer}
use Rattle.program_steps.specs.Stops.{broken_place}
use Rattle.program_steps.specs.Temporaries.{Temporaries}
use Rattle.memory_words.specs.Shapes.{FileCells, Shape, sizes, kind_of}
use Rattle.memory_words.specs.Readings.{Texts}
use Rattle.memory_words.specs.Standing.{Frame, StandsFor}
use Rattle.memory_words.specs.Seen.{InSetting}
use Rattle.memory_words.specs.Points.{Out, Point, deeper_out, uses_of, remembered}
use Rattle.memory_words.specs.Sets.{variable_trees}
use Rattle.memory_words.specs.Words as word
use Rattle.memory_words.specs.Words.{Others, ask_all, set_variable}
use Rattle.memory_words.specs.Typed.{Takes}
use Rattle.memory_words.specs.Placed.{Openings, Placed, Ends, BothWays, all_told}
use Rattle.memory_statements.specs.Stored.{IsWay}
use Rattle.memory_statements.proofs.Receiving.{cells_receive, blocks_receive}
use Rattle.memory_words.specs.Puts.{NoPlace, Gives, OneEnd, Reaches, ScopeHas}
use Rattle.memory_words.proofs.PutStanding.{slots_go_on}
use Rattle.memory_words.proofs.Setting.{keeps_own, temporaries_are_set, locals_are_set, globals_are_set}
use Rattle.memory_words.proofs.Ends.{one_end, behind_one_end, asked_run}
use Rattle.memory_calls.specs.CallWords.{received}
use Rattle.memory_calls.specs.CallFits.{Receives, by_nothing, by_temporary, by_local, by_global, by_cell, by_variable}

skip_end : (olds : List State) (st : State) → OneEnd olds skip st st
skip_end olds st = record { runs = λ n. seg.skips; only = λ n e h. only n e h } where
  only : (n : ℕ) (e : End) → Seg olds n skip st e → goes_on st ≡ e
  only n _ seg.skips = refl

uses_same : (os : List Out) → uses_of (map deeper_out os) ≡ uses_of os
uses_same [] = refl
uses_same (o ∷ os) = ap (λ us. o.uses ∷ us) (uses_same os)

same_scope : (x : ℕ) (fr : Frame) → fr.in_scope x ≡ true → ScopeHas x fr fr
same_scope x fr is = record { now = is; scope = λ y differ. refl; lives = λ y differ h. h; table = refl; homes = λ y. refl }

chosen : {X : Type 0} (b : Bool) (x y : X) → b ≡ true → (if b then x else y) ≡ x
chosen true x y e = refl
chosen false x y e = absurd (false≢true e)

unchosen : {X : Type 0} (b : Bool) (x y : X) → b ≡ false → (if b then x else y) ≡ y
unchosen true x y e = absurd (false≢true (sym e))
unchosen false x y e = refl

module _ (m : sense.World) (q : Program Steps) (s : Shape) (cells : FileCells) (texts : Texts) (contract : Contract) (others : Others) (setting : InSetting m q.facts s cells)
    (here : Here) (pt : Point) (olds : List State) (fr : Frame) (os : Openings) (placed : Placed m q.facts s cells texts contract (remembered pt) here olds fr os)
    (used f : Temporaries) (c : CoreWorld) (st : State) (stands : StandsFor q.facts s cells fr used c st) where
  abbrev p : Facts
  p = q.facts

  abbrev EndsAt : Step → ℕ → Ending → End → Type 0
  EndsAt b n o e = Ends p s cells fr os (uses_of pt.outs) f (places b) n o e

  in_scope_is : fr.in_scope ≡ pt.stands.in_scope
  in_scope_is = λ i x. placed.scope x i

  module _ (v : Value) (u : Term) (k : CellKind) (gives : Gives m (sizes p s) olds answer k u v st) (fits : is_content p (count c.world.memory.blocks) k v ≡ true) where
    abbrev word_to : Goal → Step
    word_to to = received m p s cells texts contract q.functions others pt to u

    abbrev result : Goal → Ending
    result to = exec.result_to q no_deeper s.variables here to v c

    abbrev Received : Goal → Type 0
    Received to = (n : ℕ) → BothWays (λ o. result to ≡ o) (EndsAt (word_to to) n) olds n (word_to to) st

    abbrev Less : Goal → Type 0
    Less to = (j : ℕ) → (not (goal_temp to j) && f j) ≡ true → used j ≡ true

    -- no temporary is set
    later : ((j : ℕ) → f j ≡ true → used j ≡ true) → StandsFor p s cells fr f c st
    later less = slots_go_on p s cells fr used c st stands f less st (keeps_own (sizes p s) f NoPlace st stands.size)

    to_nothing : Less nowhere → Received nowhere
    to_nothing less n = one_end (EndsAt (word_to nowhere) n) olds n (word_to nowhere) st st (result nowhere) (skip_end olds st) (later less)

    to_temporary : (j : ℕ) → j < s.temporaries → s.temp_kind j ≡ k → Less (temporary j) → Received (temporary j)
    to_temporary j below same less n =
        let r = temporaries_are_set m p s cells fr used c st stands olds f j below (λ l differ h. less l (but l differ h)) u v
        (subst (λ k. Gives m (sizes p s) olds answer k u v st) (sym same) gives) (ap (λ k. is_content p (count c.world.memory.blocks) k v) same ∙ fits) in
        one_end (EndsAt (word_to (temporary j)) n) olds n (word_to (temporary j)) st r.state (result (temporary j)) r.end r.is
      where
        but : (l : ℕ) → (j ≡ l → ⊥) → f l ≡ true → (not (j == l) && f l) ≡ true
        but l differ h = by (j == l) refl where
          by : (b : Bool) → (j == l) ≡ b → (not b && f l) ≡ true
          by true e = absurd (differ ((Decides-eqb j l).0 e))
          by false e = h

    module _ (less : (j : ℕ) → f j ≡ true → used j ≡ true) where
      after : StandsFor p s cells fr f c st
      after = later less

      -- ---- a plain variable

      write_both : (x : code.Variable) (l : ℕ) (type : CoreType) (w : World) (leave : Bool) → all_told m (st ∷ olds) (variable_trees p s cells texts contract (remembered pt) x) ≡ leave
          → Reaches olds (set_variable m (sizes p s) (cell_of type) x u) st (StandsFor p s cells fr f (in_world c w)) → (n : ℕ)
          → BothWays (λ o. with_eval (wrote_act v (granted leave l w)) (λ z w. run.goes_on (in_world c w)) ≡ o)
          (EndsAt (word.store_to_variable m p s cells texts contract others (remembered pt) l (cell_of type) x u) n) olds n
          (word.store_to_variable m p s cells texts contract others (remembered pt) l (cell_of type) x u) st
      write_both x l type w leave told r n =
          let fs = variable_trees p s cells texts contract (remembered pt) x in
          asked_run m p s cells fr os (uses_of pt.outs) f (sizes p s) olds st fs (broken_place broken.assigns l) (failed broken.assigns l) (refl, refl) leave told n
          (set_variable m (sizes p s) (cell_of type) x u) (run.goes_on (in_world c w)) (with_eval (wrote_act v (granted leave l w)) (λ z w. run.goes_on (in_world c w)))
          (λ e. ap (λ b. with_eval (wrote_act v (granted b l w)) (λ z w. run.goes_on (in_world c w))) e)
          (λ e. ap (λ b. with_eval (wrote_act v (granted b l w)) (λ z w. run.goes_on (in_world c w))) e)
          (λ e. let n' = n + checks_in (ask_all m (sizes p s) fs (broken_place broken.assigns l)) in
          one_end (EndsAt (set_variable m (sizes p s) (cell_of type) x u) n') olds n' (set_variable m (sizes p s) (cell_of type) x u) st r.state (run.goes_on (in_world c w)) r.end r.is)

      module _ (type : CoreType) (l : ℕ) (path : Path) where
        abbrev written : Ending
        written = exec.put_to q no_deeper s.variables here type l path [] v c

        abbrev stored : Option ℕ → Option ℕ → Step
        stored x g =
            word.store_by m p s cells texts contract others x g (remembered pt) l type path (word.terms_at m p s cells texts contract others t.stop) u

        abbrev store_word : Step
        store_word = stored (plain_root s.variables path.root) (plain_global p.globals path.root)

        abbrev Stored : Type 0
        Stored = (n : ℕ) → BothWays (λ o. written ≡ o) (EndsAt store_word n) olds n store_word st

        behind_nothing : Stored → Received (place [] type l path t.stop)
        behind_nothing both n =
            behind_one_end p s cells fr os (uses_of pt.outs) f olds skip store_word st st (skip_end olds st) n written (both (n + checks_in skip))

        local_way : (x : ℕ) (y : Variable) → path.root ≡ root.Variable (variables.Local x) → slice_get s.variables x ≡ Some y → y.is_plain ≡ true → kind_of y ≡ k
            → cell_of type ≡ k → pt.stands.in_scope x ≡ true → Stored
        local_way x y r found plainly kind same scoped n =
            let plain_is : plain_root s.variables path.root ≡ Some x = ap (plain_root s.variables) r ∙ ap (λ o. if is_plain_in o then Some x else None) found
            ∙ ap (λ b. if b then Some x else None) plainly in
            let run_is : with_eval (wrote_act v (granted (may_change_local p here.granted x) l (with_local x (plain v true) c.world))) (λ z w. run.goes_on (in_world c w)) ≡ written =
            sym (ap (λ o. with_eval (wrote_act v (exec.put_by o p here l type path c.world [] v)) (λ z w. run.goes_on (in_world c w))) plain_is) in
            let word_is : word.store_to_variable m p s cells texts contract others (remembered pt) l (cell_of type) (variables.Local x) u ≡ store_word =
            sym (ap (λ o. stored o (plain_global p.globals path.root)) plain_is) in
            let set = locals_are_set m p s cells fr f c st after olds x y found plainly fr (same_scope x fr (placed.scope x ∙ scoped)) u v
            (subst (λ k. Gives m (sizes p s) olds answer k u v st) (sym kind) gives) (ap (λ k. is_content p (count c.world.memory.blocks) k v) kind ∙ fits) in
            subst (λ b. BothWays (λ o. written ≡ o) (EndsAt b n) olds n b st) word_is
            (subst (λ z. BothWays (λ o. z ≡ o) (EndsAt (word.store_to_variable m p s cells texts contract others (remembered pt) l (cell_of type) (variables.Local x) u) n) olds n
            (word.store_to_variable m p s cells texts contract others (remembered pt) l (cell_of type) (variables.Local x) u) st) run_is
            (write_both (variables.Local x) l type (with_local x (plain v true) c.world) (may_change_local p here.granted x) (placed.locals x y found plainly st)
            (subst (λ k. Reaches olds (set_variable m (sizes p s) k (variables.Local x) u) st (StandsFor p s cells fr f (in_world c (with_local x (plain v true) c.world))))
            (kind ∙ sym same) set) n))

        global_way : (x : ℕ) (y : Variable) → path.root ≡ root.Variable (variables.Global x) → path.steps ≡ [] → slice_get p.globals x ≡ Some y → y.is_plain ≡ true
            → kind_of y ≡ k → cell_of type ≡ k → Stored
        global_way x y r steps found plainly kind same n =
            let none_is : plain_root s.variables path.root ≡ None = ap (plain_root s.variables) r in
            let plain_is : plain_global p.globals path.root ≡ Some x = ap (plain_global p.globals) r ∙ ap (λ o. if is_plain_in o then Some x else None) found
            ∙ ap (λ b. if b then Some x else None) plainly in
            let there : address p c.world path [] ≡ labelled.pointer (global_home p x) (pos 0) =
            ap (λ ss. along [] ss (start_at p c.world path.root [])) steps ∙ ap (λ r. start_at p c.world r []) r in
            let w = with_memory (stored_in (global_home p x) (pos 0) v c.world.memory) c.world in
            let kind_at_home = kind_there c.world.memory.blocks (cell_of type) (labelled.pointer (global_home p x) (pos 0)) in
            let run_is : with_eval (wrote_act v (granted (may_change here.granted kind_at_home (global_home p x) (pos 0)) l w)) (λ z w. run.goes_on (in_world c w)) ≡ written =
            sym (ap (λ o. with_eval (wrote_act v (exec.put_by o p here l type path c.world [] v)) (λ z w. run.goes_on (in_world c w))) none_is
            ∙ ap (λ a. with_eval (wrote_act v (effects.cell_written here l (cell_of type) c.world a v)) (λ z w. run.goes_on (in_world c w))) there) in
            let word_is : word.store_to_variable m p s cells texts contract others (remembered pt) l (cell_of type) (variables.Global x) u ≡ store_word =
            sym (ap (λ o. stored o (plain_global p.globals path.root)) none_is ∙ ap (λ o. stored None o) plain_is) in
            let set = globals_are_set m p s cells fr f c st after olds x y found plainly u v
            (subst (λ k. Gives m (sizes p s) olds answer k u v st) (sym kind) gives) (ap (λ k. is_content p (count c.world.memory.blocks) k v) kind ∙ fits) in
            subst (λ b. BothWays (λ o. written ≡ o) (EndsAt b n) olds n b st) word_is
            (subst (λ z. BothWays (λ o. z ≡ o) (EndsAt (word.store_to_variable m p s cells texts contract others (remembered pt) l (cell_of type) (variables.Global x) u) n) olds n
            (word.store_to_variable m p s cells texts contract others (remembered pt) l (cell_of type) (variables.Global x) u) st) run_is
            (write_both (variables.Global x) l type w (may_change here.granted kind_at_home (global_home p x) (pos 0)) (placed.globals x y found plainly kind_at_home st)
            (subst (λ k. Reaches olds (set_variable m (sizes p s) k (variables.Global x) u) st (StandsFor p s cells fr f (in_world c w))) (kind ∙ sym same) set) n))

      -- ---- a variable's first value

      to_variable : (x : ℕ) → Takes s cells pt.stands.in_scope x k → Received (variable x)
      to_variable x takes n = by takes.variable.is_plain refl where
        scoped : fr.in_scope x ≡ true
        scoped = placed.scope x ∙ takes.scoped

        made : (b : Bool) → takes.variable.is_plain ≡ b → b ≡ true → initial_act s.variables x v c.world ≡ with_local x (plain v true) c.world
        made b is e = ap (λ o. effects.initial_by o x (c.world.locals x) v c.world) takes.found ∙ chosen takes.variable.is_plain _ _ (is ∙ e)

        by : (b : Bool) → takes.variable.is_plain ≡ b → BothWays (λ o. result (variable x) ≡ o) (EndsAt (word_to (variable x)) n) olds n (word_to (variable x)) st
        by true is =
            let y = takes.variable in
            let own = set_variable m (sizes p s) (kind_of y) (variables.Local x) u in
            let word_is : word_to (variable x) ≡ own =
            ap (λ o. word.start_of m p s cells texts contract others x o u) takes.found ∙ chosen y.is_plain _ _ is in
            let r = locals_are_set m p s cells fr f c st after olds x y takes.found is fr (same_scope x fr scoped) u v
            (subst (λ k. Gives m (sizes p s) olds answer k u v st) (sym takes.kind) gives) (ap (λ k. is_content p (count c.world.memory.blocks) k v) takes.kind ∙ fits) in
            subst (λ b. BothWays (λ o. result (variable x) ≡ o) (EndsAt b n) olds n b st) (sym word_is)
            (subst (λ w. BothWays (λ o. run.goes_on (in_world c w) ≡ o) (EndsAt own n) olds n own st) (sym (made true is refl))
            (one_end (EndsAt own n) olds n own st r.state (run.goes_on (in_world c (with_local x (plain v true) c.world))) r.end r.is))
        by false is =
            let r = blocks_receive m p s cells texts contract others fr f c st after olds x k (subst (λ i. Takes s cells i x k) (sym in_scope_is) takes) is (placed.lives x scoped)
            u v gives fits in
            one_end (EndsAt (word_to (variable x)) n) olds n (word_to (variable x)) st r.state (result (variable x)) r.end r.is

    -- ---- all

    pub received_both : (to : Goal) → Receives p s cells pt.stands.in_scope used k to → Less to → Received to
    received_both _ by_nothing less = to_nothing less
    received_both _ (by_temporary {n = j} below same) less = to_temporary j below same less
    received_both _ (by_local {type = type} {l = l} {path = path} x y r steps found plainly kind same scoped) less =
        behind_nothing less type l path (local_way less type l path x y r found plainly kind same scoped)
    received_both _ (by_global {type = type} {l = l} {path = path} x y r steps found plainly kind same) less =
        behind_nothing less type l path (global_way less type l path x y r steps found plainly kind same)
    received_both _ (by_cell {cs = cs} {type = type} {l = l} {path = path} {es = es} same way) less = λ n.
        subst (λ us. BothWays (λ o. result (place cs type l path es) ≡ o) (Ends p s cells fr os us f (places (word_to (place cs type l path es))) n) olds n (word_to (place cs type l path es)) st)
        (uses_same pt.outs)
        (cells_receive m q s cells texts contract others setting here (remembered pt) olds fr os placed used f less cs type l path es
        (subst (λ i. IsWay p s cells i used false cs type path es) (sym in_scope_is) way) n c st stands u v
        (subst (λ k. Gives m (sizes p s) olds answer k u v st) (sym same) gives) (ap (λ k. is_content p (count c.world.memory.blocks) k v) same ∙ fits))
    received_both _ (by_variable {x = x} takes) less = to_variable less x takes
