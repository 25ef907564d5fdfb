-- Where the body of a function stands.
use Rattle.std.proofs.Common.{◌≡◌, ◌<◌, ℕ, zero, suc, ℤ, pos, Bool, true, false, ◌&&◌, List, [], ◌∷◌, ◌++◌, Option, Some, None, slice_get, refl, sym, ap, ◌∙◌, subst, arith, append-nil}
use Rattle.std.specs.List.{list_all}
use Rattle.std.proofs.lemmas.Bool.{false≢true, and_parts}
use Rattle.wp_base.specs.declared.kinds.CellKind.{CellKind}
use Rattle.wp_base.specs.Blocks.{Table, count}
use Rattle.typed_prog.specs.declared.operators.Variable.TheVariants as variables
use Rattle.c_runs.specs.TruthStates as labelled
use Rattle.qed_terms.specs.Meaning as sense
use Rattle.qed_terms.specs.Meaning.{value}
use Rattle.c_runs.specs.Told.{Value}
use Rattle.c_runs.specs.Program.{Variable, Function, Facts}
use Rattle.c_runs.specs.States.{World, Here, Granted, seen_by_contract}
use Rattle.c_runs.specs.States as states
use Rattle.c_runs.specs.Claims.{at_entry, here_in, granted_in, parts_of, lets_cell, lets_local}
use Rattle.c_runs.specs.Scopes.{arrived}
use Rattle.c_runs.specs.Tree.{Steps}
use Rattle.typed_memories.proofs.Tests.{on_test}
use Rattle.typed_memories.specs.Changes.{LacksSince}
use Rattle.typed_memories.proofs.Alone.{newer_blocks_lack_kinds}
use Rattle.memory_steps.specs.State.{State}
use Rattle.memory_words.proofs.Leaves.{leaves_are_held}
use Rattle.memory_words.specs.Leaves.{leaves_of}
use Rattle.memory_words.specs.Shapes.{FileCells, Shape}
use Rattle.memory_words.specs.Readings.{Texts}
use Rattle.memory_words.specs.Standing.{Frame}
use Rattle.memory_words.specs.Seen.{InSetting, SeenByContract, EntrySeen}
use Rattle.memory_words.proofs.Contracts.{contracts_see}
use Rattle.memory_words.specs.Sets.{since}
use Rattle.memory_words.specs.Typed.{OtherFits}
use Rattle.memory_words.specs.Words.{own_kind, home_kinds, has_home}
use Rattle.memory_words.specs.Placed.{Opening, Openings, AreOpen, Placed, Carried}
use Rattle.memory_statements.proofs.Ending.{same_own}
use Rattle.memory_functions.specs.GoalFunctions.{is_param, none_in, numbers_from, param_scopes, body_point}
use Rattle.memory_functions.specs.FunctionFunctions.{FunctionFits, EntersAs, ArrivedAs, body_frame}
use Rattle.memory_functions.proofs.Granting.{and_so, all_append, writes_so, locals_so}
use Rattle.memory_functions.proofs.Cells.{cells_so}
use Rattle.memory_functions.proofs.Homes.{home_own, not_own, no_home}

and_false : (a b : Bool) → a ≡ true → (a && b) ≡ false → b ≡ false
and_false true b e h = h
and_false false b e h = absurd (false≢true e)

-- the scopes that are open in the body: that of the parameters, if one of them has a block
abbrev pub opened_of : World → Bool → List Opening
opened_of w true = record { before = w.memory; around = w.memory.blocks; lives = none_in } ∷ []
opened_of w false = []

abbrev pub openings_of : World → Bool → Openings
openings_of w t = record { here = opened_of w t; outs = [] }

module _ (m : sense.World) (p : Facts) (s : Shape) (cells : FileCells) (texts : Texts) (own : ℕ) (f : Function Steps) (asked : OtherFits) (setting : InSetting m p s cells)
    (fits : FunctionFits m p s cells texts asked own f) (vs : List Value) (w : World) (st : State) (enters : EntersAs p s cells f vs w st) where
  abbrev params : List ℕ
  params = numbers_from 0 f.params

  abbrev here : Here
  here = here_in p own vs w.memory f.contract []

  abbrev entry : labelled.World
  entry = at_entry p vs w.memory

  abbrev clauses : List Granted
  clauses = granted_in p entry (count w.memory.blocks) (parts_of f.contract)

  pub seen_entry : SeenByContract m p s cells texts (is_param f.params) st st (seen_by_contract p vs w.memory)
  seen_entry = contracts_see m p s cells texts w.memory st enters.file w.memory.blocks (is_param f.params) vs st enters.arguments

  pub entry_seen : (st' : State) → EntrySeen m p s cells texts 1 (is_param f.params) (st' ∷ st ∷ []) entry
  entry_seen st' = record { file = record { model = refl; structs = λ n. refl }; here_is = seen_entry; pre_is = seen_entry; post_is = seen_entry; loop_is = seen_entry }

  counted : cells.has_blocks ≡ true → (st' : State) → value m (leaves_of (st' ∷ st ∷ [])) (since 1) ≡ count w.memory.blocks
  counted has st' = ap count ((leaves_are_held m (st' ∷ st ∷ []) 1).table ∙ enters.file.table_is has)

  has_blocks_so : (k : CellKind) → cells.has_kind k ≡ true → cells.has_blocks ≡ true
  has_blocks_so k h = on_test cells.has_blocks (λ t. t) (λ e. absurd (false≢true (sym (setting.no_kinds e k) ∙ h)))

  pub some_blocks : has_home s.variables params ≡ true → cells.has_blocks ≡ true
  some_blocks h = on_test cells.has_blocks (λ t. t) (λ e. absurd (false≢true (sym (no_home s.variables (setting.plain_locals e) params) ∙ h)))

  module _ (at_body : State) (arrives : ArrivedAs p s cells f vs w at_body) where
    abbrev table : Table
    table = (arrived s.variables vs w).memory.blocks

    abbrev fr : Frame
    fr = body_frame f.params table arrives.homes

    lacks : (k : CellKind) → home_kinds s.variables params k ≡ false → LacksSince k w.memory.blocks table
    lacks k none b o above = arrives.kinds k none b o ∙ (newer_blocks_lack_kinds k).first w.memory.blocks b o above

    pub open_so : (t : Bool) → has_home s.variables params ≡ t
        → AreOpen p s cells (st ∷ []) fr.in_scope fr.homes fr.table (param_scopes m p s cells texts f.params t) (opened_of w t)
    open_so true h = (
      record {
        in_blocks = some_blocks h;
        level_there = omega arith;
        level_is = enters.file.table_is (some_blocks h);
        good = enters.file.good;
        blocks = arrives.blocks;
        kinds = λ k has none. lacks k (and_false (cells.has_kind k) (home_kinds s.variables params k) has none);
        of_file = λ k is. let both = and_parts (cells.has_kind k) (home_kinds s.variables params k) is in (both.0, home_own s.variables params k both.1);
        around = same_own w.memory.blocks;
        scoped = λ x h. absurd (false≢true h);
        living = λ x v e plain h. absurd (false≢true h);
      },
      tt,
    )
    open_so false h = tt

    pub placed : Placed m p s cells texts f.contract (body_point m p s cells texts f.params own) here (st ∷ []) fr (openings_of w (has_home s.variables params))
    placed = record {
      present = refl;
      scope = λ x. refl;
      lives = λ x h. h;
      entry_there = λ st'. omega arith;
      entry = λ st'. seen_entry;
      loop_entry = λ st'. seen_entry;
      locals = λ x v e plain st'. sym (all_append (lets_local p x) clauses [] ∙ and_so _
          ∙ locals_so m p s cells texts f.params setting st' st vs w.memory (entry_seen st') (count w.memory.blocks) x (parts_of f.contract));
      globals = λ x v e plain k st'.
          writes_so m p s cells texts f.params setting st' st vs w.memory (entry_seen st') (count w.memory.blocks) x v e plain k f.contract fits.plain fits.assumes fits.behaviors
          ∙ sym (all_append (λ (g : Granted). lets_cell k (states.global_home p x) (pos 0) g) clauses [] ∙ and_so _);
      written = λ has k b o closed_b closed_o st' address.
          cells_so m p s cells texts f.params setting st' st vs w.memory (entry_seen st') (count w.memory.blocks) (counted has st') k b o closed_b closed_o address f.contract fits.plain
          fits.assumes fits.behaviors
          ∙ sym (all_append (λ (g : Granted). lets_cell k (value m (leaves_of (st' ∷ st ∷ [])) b) (value m (leaves_of (st' ∷ st ∷ [])) o) g) clauses [] ∙ and_so _);
      since_entry = λ k has not_mine st'.
          subst (λ t. LacksSince k t table) (sym (enters.file.table_is (has_blocks_so k has))) (lacks k (not_own s.variables params k not_mine));
      since_force = λ k has not_mine st'. tt;
      opened = open_so (has_home s.variables params) refl;
      outs = tt;
      carried = record {
        function = refl;
        measure = refl;
        granted = record {
          blocks = count w.memory.blocks;
          granted = append-nil clauses;
          since = λ has st'. ap count (sym (enters.file.table_is has));
        };
      };
    }
