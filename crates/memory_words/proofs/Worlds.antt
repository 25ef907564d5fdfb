-- The readings of bodies, entries and returns stand for the worlds that annotations see there, and closed formulas mean the annotations.
use Rattle.std.proofs.Common.{◌≡◌, ℕ, negsuc, Bool, true, false, if◌then◌else◌, List, [], Option, Some, None, slice_get, refl, sym, ap, ap₂, ◌∙◌}
use Rattle.wp_base.specs.declared.kinds.CellKind.{CellKind}
use Rattle.wp_base.specs.declared.kinds.CellKind.TheVariants as cell
use Rattle.wp_base.specs.Blocks.{count}
use Rattle.typed_prog.specs.declared.operators.Variable as code
use Rattle.typed_prog.specs.declared.operators.Variable.TheVariants as variables
use Rattle.acsl_trees.specs.Tree as acsl
use Rattle.acsl_trees.specs.declared.heads.Label.{Label}
use Rattle.acsl_trees.specs.declared.heads.Label.TheVariants as label
use Rattle.qed_terms.specs.Meaning as sense
use Rattle.qed_terms.specs.Meaning.{Values, value}
use Rattle.qed_terms.specs.Tree.{num}
use Rattle.c_runs.specs.TruthStates as labelled
use Rattle.c_runs.specs.TruthStates.{Value, number, pointer, is_negative, state_at}
use Rattle.c_runs.specs.Program.{Variable, Facts}
use Rattle.c_runs.specs.States.{global_home}
use Rattle.c_runs.specs.Scopes.{is_content}
use Rattle.acsl_encode.specs.Readings.{Common, home}
use Rattle.acsl_encode.specs.Meaning.{Holds, HasAddress, Means, SlotStands, SeenStands, AtHome, Stands}
use Rattle.walk_steps.specs.State.{at_or}
use Rattle.memory_steps.specs.State.{State, state}
use Rattle.memory_words.specs.Places.{value as value_place, offset, result, result_offset}
use Rattle.memory_words.specs.Leaves.{leaves_of}
use Rattle.memory_words.specs.Shapes.{FileCells, Shape, sizes, kind_of}
use Rattle.memory_words.specs.Readings.{InScope, Texts, Standpoint, terms_of_kind, slot_of_kind, leaf, global_slot, home_if, hidden_if, hidden_block, common_of, seen_in_body, seen_by_contract, seen_at_loop, body_reading, entry_reading, return_reading}
use Rattle.memory_words.specs.Seen.{InSetting, SeenInBody, SeenByContract, SeenAtLoop, ResultIs, BodySeen, EntrySeen, ReturnSeen}
use Rattle.memory_words.specs.ReadingLaws.{AnnotationsRead}
use Rattle.memory_words.proofs.Leaves.{leaves_are_held}
use Rattle.memory_words.proofs.Contents.{content_address, hidden_negative}
use Rattle.memory_words.proofs.Levels.{levels_are}

-- ---- what is the same in all states

module _ (p : Facts) (s : Shape) (cells : FileCells) where
  hidden_if_negative : (x : ℕ) (o : Option Variable) → slice_get p.globals x ≡ o → is_negative (hidden_if p s cells o (global_home p x) (negsuc x)) ≡ true
  hidden_if_negative x (Some v) e = by v.is_plain refl
    where
      by : (b : Bool) → v.is_plain ≡ b → is_negative (if b then global_home p x else negsuc x) ≡ true
      by true is = hidden_negative p x v e is
      by false is = refl
  hidden_if_negative x None e = refl

  hidden_block_negative : (x : code.Variable) → is_negative (hidden_block p s cells x) ≡ true
  hidden_block_negative (variables.Global x) = hidden_if_negative x (slice_get p.globals x) refl
  hidden_block_negative (variables.Local x) = refl

  module _ (m : sense.World) (r : Common) (env : Values) (q : labelled.State) (g : ℕ) where
    home_seen : (x : ℕ) (o : Option Variable) → SlotStands m r env (variables.Global x) (global_slot p s cells g x o) q
        → Holds (λ b. (q.home (variables.Global x) ≡ b) × HasAddress b) (home_if p s cells o (global_home p x))
    home_seen x (Some v) h = by v.is_plain h
      where
        by : (b : Bool) → SlotStands m r env (variables.Global x)
            (if b then slot_of_kind (kind_of v) (leaf p s cells g (value_place (variables.Global x))) (leaf p s cells g (offset (variables.Global x))) else home (num (global_home p x))) q
            → Holds (λ b. (q.home (variables.Global x) ≡ b) × HasAddress b) (if b then None else Some (global_home p x))
        by true h = tt
        by false h = h
    home_seen x None h = tt

  module _ (m : sense.World) (texts : Texts) (a : acsl.Tree) (env : Values) (q : labelled.State) where
    body_home : (l : ℕ) (i : InScope) → SeenStands m (common_of p s cells texts a) env (seen_in_body p s cells l i) q → AtHome (common_of p s cells texts a) q
    body_home l i h n = home_seen m (common_of p s cells texts a) env q l n (slice_get p.globals n) (h.variables (variables.Global n))

    contract_home : (g l : ℕ) (i : InScope) → SeenStands m (common_of p s cells texts a) env (seen_by_contract p s cells g l i) q → AtHome (common_of p s cells texts a) q
    contract_home g l i h n = home_seen m (common_of p s cells texts a) env q g n (slice_get p.globals n) (h.variables (variables.Global n))

    loop_home : (sp : Standpoint) (o : Option ℕ) → SeenStands m (common_of p s cells texts a) env (seen_at_loop p s cells texts sp o) q → AtHome (common_of p s cells texts a) q
    loop_home sp (Some l) h = body_home l sp.loop_scope h
    loop_home sp None h = contract_home sp.entry sp.entry sp.is_param h

-- ---- readings

module _ (m : sense.World) (p : Facts) (s : Shape) (cells : FileCells) (texts : Texts) (setting : InSetting m p s cells) (sts : List State) (w : labelled.World) (a : acsl.Tree) where
  abbrev r : Common
  r = common_of p s cells texts a

  abbrev env : Values
  env = leaves_of sts

  abbrev level : ℕ → State
  level l = at_or (state [] []) sts l

  body_at : (q : labelled.State) (l : ℕ) (i : InScope) → SeenInBody m p s cells texts i (level l) q → SeenStands m r env (seen_in_body p s cells l i) q
  body_at q l i h = (levels_are m p s cells texts sts q a).body l i h

  contract_at : (q : labelled.State) (l e : ℕ) (i : InScope) → SeenByContract m p s cells texts i (level l) (level e) q → SeenStands m r env (seen_by_contract p s cells l e i) q
  contract_at q l e i h = (levels_are m p s cells texts sts q a).contract l e i h

  loop_at : (q : labelled.State) (sp : Standpoint) (o : Option ℕ) → SeenAtLoop m p s cells texts sp sts o q → SeenStands m r env (seen_at_loop p s cells texts sp o) q
  loop_at q sp (Some l) h = body_at q l sp.loop_scope h
  loop_at q sp None h = contract_at q sp.entry sp.entry sp.is_param h

  -- the homes of four states
  each_home : AtHome r w.here → AtHome r w.pre → AtHome r w.post → AtHome r w.loop_entry → (l : Label) → AtHome r (state_at l w)
  each_home here pre post loop_entry label.Here = here
  each_home here pre post loop_entry label.Pre = pre
  each_home here pre post loop_entry label.Post = post
  each_home here pre post loop_entry label.LoopEntry = loop_entry

  result_means : (k : Option CellKind) (v : Value) → ResultIs m p s cells texts k (level 0) v
      → Means m r env (terms_of_kind k (leaf p s cells 0 result) (leaf p s cells 0 result_offset)) v
  result_means None v h = tt
  result_means (Some (cell.Of k)) v h =
      let same : v ≡ number (value m env (leaf p s cells 0 result)) = h.0 ∙ ap number (sym ((leaves_are_held m sts 0).number (sizes p s) result)) in
      (same, sym (ap (is_content p (count (level 0).table) (cell.Of k)) same) ∙ h.1)
  result_means (Some cell.Ptr) v h =
      let same : v ≡ pointer (value m env (leaf p s cells 0 result)) (value m env (leaf p s cells 0 result_offset)) =
      h.0 ∙ ap₂ pointer (sym ((leaves_are_held m sts 0).number (sizes p s) result)) (sym ((leaves_are_held m sts 0).number (sizes p s) result_offset)) in (
        same,
        content_address p (count (level 0).table) (value m env (leaf p s cells 0 result)) (value m env (leaf p s cells 0 result_offset))
            (sym (ap (is_content p (count (level 0).table) cell.Ptr) same) ∙ h.1),
      )

  in_body : (sp : Standpoint) → BodySeen m p s cells texts sp sts w → Stands m (body_reading p s cells texts sp a) env w
  in_body sp h =
      let here = body_at w.here sp.here sp.in_scope h.here_is in
      let pre = contract_at w.pre sp.entry sp.entry sp.is_param h.pre_is in
      let post = body_at w.post sp.here sp.in_scope h.post_is in
      let loop_entry = loop_at w.loop_entry sp sp.loop_entry h.loop_is in
      record {
        here = here;
        pre = pre;
        post = post;
        loop_entry = loop_entry;
        result = tt;
        model = h.file.model;
        structs = h.file.structs;
        hidden = hidden_block_negative p s cells;
        homes = each_home (body_home p s cells m texts a env w.here sp.here sp.in_scope here) (contract_home p s cells m texts a env w.pre sp.entry sp.entry sp.is_param pre)
            (body_home p s cells m texts a env w.post sp.here sp.in_scope post) (loop_home p s cells m texts a env w.loop_entry sp sp.loop_entry loop_entry);
        long_bits = setting.model;
      }

  at_entry : (e : ℕ) (i : InScope) → EntrySeen m p s cells texts e i sts w → Stands m (entry_reading p s cells texts e i a) env w
  at_entry e i h =
      let here = contract_at w.here e e i h.here_is in
      let pre = contract_at w.pre e e i h.pre_is in
      let post = contract_at w.post e e i h.post_is in
      let loop_entry = contract_at w.loop_entry e e i h.loop_is in
      record {
        here = here;
        pre = pre;
        post = post;
        loop_entry = loop_entry;
        result = tt;
        model = h.file.model;
        structs = h.file.structs;
        hidden = hidden_block_negative p s cells;
        homes = each_home (contract_home p s cells m texts a env w.here e e i here) (contract_home p s cells m texts a env w.pre e e i pre)
            (contract_home p s cells m texts a env w.post e e i post) (contract_home p s cells m texts a env w.loop_entry e e i loop_entry);
        long_bits = setting.model;
      }

  at_return : (e : ℕ) (i : InScope) → ReturnSeen m p s cells texts e i sts w → Stands m (return_reading p s cells texts e i a) env w
  at_return e i h =
      let here = contract_at w.here 0 e i h.here_is in
      let pre = contract_at w.pre e e i h.pre_is in
      let post = contract_at w.post 0 e i h.post_is in
      let loop_entry = contract_at w.loop_entry e e i h.loop_is in
      record {
        here = here;
        pre = pre;
        post = post;
        loop_entry = loop_entry;
        result = result_means s.result w.result h.result_is;
        model = h.file.model;
        structs = h.file.structs;
        hidden = hidden_block_negative p s cells;
        homes = each_home (contract_home p s cells m texts a env w.here 0 e i here) (contract_home p s cells m texts a env w.pre e e i pre)
            (contract_home p s cells m texts a env w.post 0 e i post) (contract_home p s cells m texts a env w.loop_entry e e i loop_entry);
        long_bits = setting.model;
      }

pub annotations_read : AnnotationsRead
annotations_read m p s cells texts setting sts w a = record {
  body = in_body m p s cells texts setting sts w a;
  entry = at_entry m p s cells texts setting sts w a;
  back = at_return m p s cells texts setting sts w a;
}
