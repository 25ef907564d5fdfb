-- What a function that is called sees: the file as it is, and its arguments, whose terms mean their values.
use Rattle.std.proofs.Common.{◌≡◌, ℕ, zero, suc, ◌+◌, ◌<◌, ℤ, pos, Bool, true, false, if◌then◌else◌, List, [], ◌∷◌, Option, Some, None, slice_get, refl, sym, ap, ap₂, ◌∙◌, subst, arith}
use Rattle.std.specs.Prelude.{◌==◌, nat_lt}
use Rattle.std.proofs.lemmas.Bool.Decides.{Decides-eqb}
use Rattle.std.proofs.lemmas.Bool.{false≢true, ltb-true, false_from_ne_true}
use Rattle.wp_base.specs.declared.kinds.CellKind.{CellKind}
use Rattle.wp_base.specs.declared.kinds.CellKind.TheVariants as cell
use Rattle.wp_base.specs.declared.kinds.Kind.{Kind}
use Rattle.wp_base.specs.Blocks.{count}
use Rattle.c_kinds.specs.Models.{holds}
use Rattle.typed_prog.specs.declared.operators.Variable as code
use Rattle.typed_prog.specs.declared.operators.Variable.TheVariants as variables
use Rattle.typed_prog.specs.Tree as t
use Rattle.acsl_trees.specs.Tree as acsl
use Rattle.acsl_trees.specs.declared.heads.Label.{Label}
use Rattle.acsl_trees.specs.declared.heads.Label.TheVariants as label
use Rattle.qed_terms.specs.Meaning as sense
use Rattle.qed_terms.specs.Meaning.{Values, truth, value}
use Rattle.c_runs.specs.TruthStates as labelled
use Rattle.c_runs.specs.TruthStates.{Value, number, pointer, state_at}
use Rattle.c_runs.specs.Truth.{value_at}
use Rattle.acsl_encode.specs.Readings.{Common, absent}
use Rattle.acsl_encode.specs.Meaning.{SlotStands, SeenStands, AtHome, Means, Stands}
use Rattle.c_runs.specs.Program.{Variable, Function, Facts}
use Rattle.c_runs.specs.States.{Memory, plain, held_by, hidden, params_from, block_of_local, seen_by_contract}
use Rattle.c_runs.specs.Operators.{truth_number}
use Rattle.c_runs.specs.Scopes.{is_content}
use Rattle.c_runs.specs.Claims.{at_entry, at_return, here_in}
use Rattle.c_runs.specs.CoreRun.{CoreWorld}
use Rattle.c_runs.specs.Tests.{totals}
use Rattle.c_runs.specs.Tree.{Steps}
use Rattle.value_terms.specs.Readings.{Term, as_number, as_test, as_pointer, number_term}
use Rattle.value_terms.specs.Typed.{AreTyped, operand_kind}
use Rattle.value_terms.specs.Worlds as terms
use Rattle.value_terms.specs.Places.{AreMeant, all_met_among}
use Rattle.value_terms.proofs.Places.{operands_are_meant}
use Rattle.walk_steps.specs.State.{at_or}
use Rattle.memory_steps.specs.State.{State, state}
use Rattle.memory_words.specs.Places.{answer, answer_offset, number_at}
use Rattle.memory_words.specs.Leaves.{leaves_of}
use Rattle.memory_words.proofs.Leaves.{leaves_are_held}
use Rattle.program_steps.specs.Temporaries.{Temporaries}
use Rattle.memory_words.specs.Shapes.{FileCells, Shape, sizes, kind_of}
use Rattle.memory_words.specs.Readings as reading
use Rattle.memory_words.specs.Readings.{Texts, leaf, terms_of_kind, reading_at, common_of, entry_reading}
use Rattle.memory_words.specs.Standing.{IsHeldAs, Frame, AllLive, StandsFor, FileStands}
use Rattle.memory_words.specs.Seen.{InSetting, SeenByContract, scope_at}
use Rattle.memory_words.proofs.Contents.{content_address, local_cell}
use Rattle.memory_words.proofs.Contracts.{contracts_see}
use Rattle.memory_words.proofs.Levels.{levels_are}
use Rattle.memory_words.proofs.Worlds.{annotations_read}
use Rattle.memory_statements.proofs.Levels.{levels_read}
use Rattle.memory_calls.specs.Callee.{argument, argument_slot, param_slot, callee_slot, callee_seen, entered_at, returned_from}
use Rattle.memory_calls.specs.CallFits.{no_local}

-- ---- parameters as a contract sees them

pub param_held : (n : ℕ) (vs : List Value) (x i : ℕ) → x ≡ n + i → held_by (params_from n vs x) ≡ value_at vs i
param_held n [] x i e = refl
param_held n (v ∷ vs) x zero e = ap (λ b. held_by (if b then plain v true else params_from (suc n) vs x)) ((Decides-eqb n x).1 (omega (arith, e)))
param_held n (v ∷ vs) x (suc i) e =
    ap (λ b. held_by (if b then plain v true else params_from (suc n) vs x)) (false_from_ne_true (n == x) (λ h. let same = (Decides-eqb n x).0 h in absurd (omega (arith, e, same))))
    ∙ param_held (suc n) vs x i (omega (arith, e))

pub param_home : (p : Facts) (n : ℕ) (vs : List Value) (x : ℕ) → block_of_local p x (params_from n vs x) ≡ hidden p x
param_home p n [] x = refl
param_home p n (v ∷ vs) x = by (n == x) (param_home p (suc n) vs x) where
  by : (b : Bool) → block_of_local p x (params_from (suc n) vs x) ≡ hidden p x → block_of_local p x (if b then plain v true else params_from (suc n) vs x) ≡ hidden p x
  by true h = refl
  by false h = h

truth_is : (b : Bool) → truth_number b ≡ number (if b then pos 1 else pos 0)
truth_is true = refl
truth_is false = refl

no_truth : (p : Facts) (n : ℤ) (b : Bool) → is_content p n cell.Ptr (truth_number b) ≡ false
no_truth p n true = refl
no_truth p n false = refl

-- a value of the kind, where its term means it
module _ (m : sense.World) (env : Values) (p : Facts) (n : ℤ) (r : Common) (model : r.model ≡ p.model) (x : code.Variable) (q : labelled.State) (at_home : q.home x ≡ r.hidden x) where
  abbrev Held : CellKind → Term → Type 0
  Held k u = SlotStands m r env x (argument_slot k u) q

  number_stands : (k : Kind) (u : Term) (v : Value) → q.cells (r.hidden x) (pos 0) ≡ v → v ≡ number (value m env (number_term u)) → is_content p n (cell.Of k) v ≡ true → Held (cell.Of k) u
  number_stands k u v same is fits = (
    at_home,
    (same ∙ is, subst (λ d. holds d k (value m env (number_term u)) ≡ true) (sym model) (sym (ap (is_content p n (cell.Of k)) is) ∙ fits)),
  )

  pub argument_stands : (k : CellKind) (u : Term) (v : Value) → q.cells (r.hidden x) (pos 0) ≡ v → terms.Means m env u v → is_content p n k v ≡ true → Held k u
  argument_stands (cell.Of k) (as_number u) v same means fits = number_stands k (as_number u) v same means fits
  argument_stands (cell.Of k) (as_test u) v same means fits = number_stands k (as_test u) v same (means ∙ truth_is (truth m env u)) fits
  argument_stands (cell.Of k) (as_pointer b o) v same means fits = absurd (false≢true (sym (ap (is_content p n (cell.Of k)) means) ∙ fits))
  argument_stands cell.Ptr (as_number u) v same means fits = absurd (false≢true (sym (ap (is_content p n cell.Ptr) means) ∙ fits))
  argument_stands cell.Ptr (as_test u) v same means fits = absurd (false≢true (sym (no_truth p n (truth m env u)) ∙ sym (ap (is_content p n cell.Ptr) means) ∙ fits))
  argument_stands cell.Ptr (as_pointer b o) v same means fits =
      (at_home, (same ∙ means, content_address p n (value m env b) (value m env o) (sym (ap (is_content p n cell.Ptr) means) ∙ fits)))

-- what is returned stands in the places of an answer
abbrev pub AnswerIs : Facts → Shape → Option CellKind → Memory → State → Value → Type 0
AnswerIs p s None u st v = Unit {0}
AnswerIs p s (Some k) u st v = IsHeldAs k v (number_at (sizes p s) st answer) (number_at (sizes p s) st answer_offset) × (is_content p (count u.blocks) k v ≡ true)

module _ (m : sense.World) (p : Facts) (s : Shape) (cells : FileCells) (texts : Texts) (sts : List State) (u : Memory) (a : acsl.Tree) where
  pub answer_means : (k : Option CellKind) (v : Value) → AnswerIs p s k u (at_or (state [] []) sts 0) v
      → Means m (common_of p s cells texts a) (leaves_of sts) (terms_of_kind k (leaf p s cells 0 answer) (leaf p s cells 0 answer_offset)) v
  answer_means None v h = tt
  answer_means (Some (cell.Of k)) v h =
      let same : v ≡ number (value m (leaves_of sts) (leaf p s cells 0 answer)) = h.0 ∙ ap number (sym ((leaves_are_held m sts 0).number (sizes p s) answer)) in
      (same, sym (ap (is_content p (count u.blocks) (cell.Of k)) same) ∙ h.1)
  answer_means (Some cell.Ptr) v h =
      let same : v ≡ pointer (value m (leaves_of sts) (leaf p s cells 0 answer)) (value m (leaves_of sts) (leaf p s cells 0 answer_offset)) =
      h.0 ∙ ap₂ pointer (sym ((leaves_are_held m sts 0).number (sizes p s) answer)) (sym ((leaves_are_held m sts 0).number (sizes p s) answer_offset)) in (
        same,
        content_address p (count u.blocks) (value m (leaves_of sts) (leaf p s cells 0 answer)) (value m (leaves_of sts) (leaf p s cells 0 answer_offset))
            (sym (ap (is_content p (count u.blocks) cell.Ptr) same) ∙ h.1),
      )

-- ---- the function that is called

module _ (m : sense.World) (p : Facts) (s : Shape) (cells : FileCells) (setting : InSetting m p s cells) (fr : Frame) (live : AllLive fr) (f : Temporaries) (c : CoreWorld)
    (st : State) (stands : StandsFor p s cells fr f c st) (texts : Texts) (g : Function Steps) (es : t.Values) (typed : AreTyped p s.variables (scope_at s cells fr.in_scope f) es)
    (met : all_met_among p s.variables c.temps c.world es ≡ true)
    (kinds : (x : ℕ) (v : Variable) → slice_get g.variables x ≡ Some v → x < g.params → operand_kind es x ≡ kind_of v) where
  abbrev vs : List Value
  vs = totals p s.variables c.temps c.world es

  module _ (sts : List State) (l : ℕ) (is : at_or (state [] []) sts l ≡ st) where
    meant : AreMeant m (leaves_of sts) (reading_at p s cells l) p s.variables c.temps c.world es
    meant = operands_are_meant m (leaves_of sts) (reading_at p s cells l) p s.variables (scope_at s cells fr.in_scope f) c.temps c.world
        (levels_read m p s cells setting fr live f c sts l (subst (StandsFor p s cells fr f c) (sym is) stands)) es typed

    module _ (mem : Memory) (fl : ℕ) (file : FileStands p s cells mem (at_or (state [] []) sts fl)) (a : acsl.Tree) where
      abbrev r : Common
      r = common_of p s cells texts a

      abbrev q : labelled.State
      q = seen_by_contract p vs mem

      file_seen : SeenStands m r (leaves_of sts) (reading.seen_by_contract p s cells fl fl no_local) q
      file_seen = (levels_are m p s cells texts sts q a).contract fl fl no_local
          (contracts_see m p s cells texts mem (at_or (state [] []) sts fl) file mem.blocks no_local vs (at_or (state [] []) sts fl) (λ x v e no. absurd (false≢true no)))

      param_stands : (x : ℕ) (o : Option Variable) → slice_get g.variables x ≡ o → x < g.params
          → SlotStands m r (leaves_of sts) (variables.Local x) (param_slot p s cells texts g es l x o) q
      param_stands x None e below = tt
      param_stands x (Some v) e below =
          argument_stands m (leaves_of sts) p (count c.world.memory.blocks) r refl (variables.Local x) q (param_home p 0 vs x) (kind_of v) (argument p s cells texts g es l x)
          (value_at vs x) (local_cell p (params_from 0 vs) mem.cells x ∙ param_held 0 vs x x (omega arith)) (meant.terms met x)
          (subst (λ k. is_content p (count c.world.memory.blocks) k (value_at vs x) ≡ true) (kinds x v e below) (meant.kinds met x))

      slot_stands : (x : code.Variable) → SlotStands m r (leaves_of sts) x (callee_slot p s cells texts g es fl l x) q
      slot_stands (variables.Global x) = file_seen.variables (variables.Global x)
      slot_stands (variables.Local x) = by (nat_lt x g.params) refl where
        by : (b : Bool) → nat_lt x g.params ≡ b
            → SlotStands m r (leaves_of sts) (variables.Local x) (if b then param_slot p s cells texts g es l x (slice_get g.variables x) else absent) q
        by true e = param_stands x (slice_get g.variables x) refl (ltb-true x g.params e)
        by false e = tt

      pub callee_sees : SeenStands m r (leaves_of sts) (callee_seen p s cells texts g es fl l) q
      callee_sees = record { variables = slot_stands; table = file_seen.table; numbers = file_seen.numbers; pointers = file_seen.pointers }

      -- the file's variables are where they always are
      file_read : Stands m (entry_reading p s cells texts fl no_local a) (leaves_of sts) (at_entry p vs mem)
      file_read = (annotations_read m p s cells texts setting sts (at_entry p vs mem) a).entry fl no_local (record {
        file = record { model = refl; structs = λ n. refl };
        here_is = sees;
        pre_is = sees;
        post_is = sees;
        loop_is = sees;
      }) where
        sees : SeenByContract m p s cells texts no_local (at_or (state [] []) sts fl) (at_or (state [] []) sts fl) q
        sees = contracts_see m p s cells texts mem (at_or (state [] []) sts fl) file mem.blocks no_local vs (at_or (state [] []) sts fl) (λ x v e no. absurd (false≢true no))

      pub file_home : AtHome r q
      file_home = file_read.homes label.Here

  -- ---- readings

  -- where it is entered
  pub entry_stands : (sts : List State) (l : ℕ) → at_or (state [] []) sts l ≡ st → FileStands p s cells c.world.memory st → (a : acsl.Tree)
      → Stands m (entered_at p s cells texts g es l a) (leaves_of sts) (at_entry p vs c.world.memory)
  entry_stands sts l is file a =
      let there = subst (FileStands p s cells c.world.memory) (sym is) file in
      let seen = callee_sees sts l is c.world.memory l there a in
      let old = file_read sts l is c.world.memory l there a in
      record {
        here = seen;
        pre = seen;
        post = seen;
        loop_entry = seen;
        result = tt;
        model = old.model;
        structs = old.structs;
        hidden = old.hidden;
        homes = old.homes;
        long_bits = old.long_bits;
      }

  -- where it has returned this, and was entered in the last state that is remembered
  pub return_stands : (b : State) (olds : List State) → FileStands p s cells c.world.memory st → (u : Memory) → FileStands p s cells u b → (v : Value) → AnswerIs p s g.result u b v
      → (n : ℕ) (a : acsl.Tree)
      → Stands m (returned_from p s cells texts g es a) (leaves_of (b ∷ st ∷ olds)) (at_return p (here_in p n vs c.world.memory g.contract []) u v)
  return_stands b olds before u behind v given n a =
      let sts = b ∷ st ∷ olds in
      let old = file_read sts 1 refl c.world.memory 1 before a in
      let now = callee_sees sts 1 refl u 0 behind a in
      let earlier = callee_sees sts 1 refl c.world.memory 1 before a in
      let home_now = file_home sts 1 refl u 0 behind a in
      let home_then = file_home sts 1 refl c.world.memory 1 before a in
      record {
        here = now;
        pre = earlier;
        post = now;
        loop_entry = earlier;
        result = answer_means m p s cells texts sts u a g.result v given;
        model = old.model;
        structs = old.structs;
        hidden = old.hidden;
        homes = each_home home_now home_then;
        long_bits = old.long_bits;
      }
    where
      each_home : AtHome (common_of p s cells texts a) (seen_by_contract p vs u) → AtHome (common_of p s cells texts a) (seen_by_contract p vs c.world.memory)
          → (l : Label) → AtHome (common_of p s cells texts a) (state_at l (at_return p (here_in p n vs c.world.memory g.contract []) u v))
      each_home now before label.Here = now
      each_home now before label.Pre = before
      each_home now before label.Post = now
      each_home now before label.LoopEntry = before
