-- Where no blocks are spoken of, typed expressions read no memory, so that all that is made of them is closed.
use Rattle.std.proofs.Common.{◌≡◌, ℕ, true, false, ◌&&◌, pos, List, [], ◌∷◌, ◌++◌, map, Option, Some, None, refl, sym, ap, ◌∙◌}
use Rattle.std.specs.List.{list_all}
use Rattle.std.proofs.lemmas.Bool.{false≢true}
use Rattle.wp_base.specs.declared.kinds.CellKind.{CellKind}
use Rattle.typed_prog.specs.declared.types.CoreType.{CoreType}
use Rattle.typed_prog.specs.declared.operators.Op.{Op}
use Rattle.typed_prog.specs.declared.operators.Op.TheVariants as op
use Rattle.typed_prog.specs.declared.operators.Path.{Path}
use Rattle.typed_prog.specs.declared.operators.Root.{Root}
use Rattle.typed_prog.specs.declared.operators.Root.TheVariants as root
use Rattle.typed_prog.specs.Tree as t
use Rattle.c_runs.specs.Program.{Facts, Variable}
use Rattle.c_runs.specs.Objects.{plain_root, cell_of, is_pointed}
use Rattle.c_runs.specs.Operators.{access}
use Rattle.c_runs.specs.Checks.{in_operand, later}
use Rattle.plain_states.specs.Slots.{Sizes, value_slot, local_value, local_flag, temp_slot}
use Rattle.plain_runs.specs.Fitting.{Shape, sizes}
use Rattle.walk_steps.specs.Forms.{Slots}
use Rattle.value_terms.specs.Readings.{Term, as_number, number_term, condition, term_at, Reading, plain_global}
use Rattle.value_terms.specs.Terms.{address_term, cell_term, read_term, op_term, node_term, term_of, terms_of}
use Rattle.value_terms.specs.Words.{Item, asked_if, with_check, access_term, index_items, facts_by, read_items, op_items, node_word, word_of, words}
use Rattle.value_terms.specs.Typed.{Scope, kind_given, CellIsTyped, ReadIsTyped, OpIsTyped, NodeIsTyped, IsTyped, AreTyped}
use Rattle.program_steps.specs.Leaves.{leaf, is_closed}
use Rattle.program_steps.specs.Terms.{unused, reading}
use Rattle.program_steps.specs.Typed.{is_closed_item}
use Rattle.value_words.specs.OverSlots.{slot_term}
use Rattle.value_words.specs.Laws.{IsClosed, AreClosed, ValuesAreClosed}
use Rattle.value_words.proofs.Heads.{number_written}
use Rattle.value_words.proofs.Writing.{number, ReadingWritten, number_part, condition_part, value_written, kids_written}
use Rattle.value_words.proofs.WritingWords.{ItemsWritten, is_asked, is_known, none, some, word_written, words_written}
use Rattle.value_words.proofs.Filled.{leaf_written}

-- ---- the number 0 where a memory would stand

abbrev without : Facts → Shape → Reading
without p s = record {
  locals = λ x. as_number (leaf 0 (local_value (sizes p s) x));
  globals = λ x. as_number (leaf 0 (value_slot x));
  temporaries = λ n. as_number (leaf 0 (temp_slot (sizes p s) n));
  flags = λ x. leaf 0 (local_flag (sizes p s) x);
  homes = λ x. unused;
  table = unused;
  numbers = λ k. unused;
  blocks = unused;
  offsets = unused;
}

abbrev without_in : Sizes → Slots → Reading
without_in z ts = record {
  locals = λ x. as_number (slot_term ts (local_value z x));
  globals = λ x. as_number (slot_term ts (value_slot x));
  temporaries = λ n. as_number (slot_term ts (temp_slot z n));
  flags = λ x. slot_term ts (local_flag z x);
  homes = λ x. unused;
  table = unused;
  numbers = λ k. unused;
  blocks = unused;
  offsets = unused;
}

strictly_written : (p : Facts) (s : Shape) → ReadingWritten true ([] ∷ []) (without p s) (without_in (sizes p s) [])
strictly_written p s = record {
  locals = λ x. number (leaf_written [] [] _);
  globals = λ x. number (leaf_written [] [] _);
  temporaries = λ n. number (leaf_written [] [] _);
  flags = λ x. leaf_written [] [] _;
  homes = λ x. number_written (pos 0);
  table = number_written (pos 0);
  numbers = λ k. number_written (pos 0);
  blocks = number_written (pos 0);
  offsets = number_written (pos 0);
}

items_closed : {ss : List Slots} {is js : List Item} → ItemsWritten true ss is js → list_all is_closed_item is ≡ true
items_closed none = refl
items_closed (some (is_asked c h) hs) = let here = h.closed refl in let rest = items_closed hs in λ i. here i && rest i
items_closed (some (is_known h) hs) = let here = h.closed refl in let rest = items_closed hs in λ i. here i && rest i

-- ---- no memory is read

root_is_variable : (gs : List Variable) (o : Root) (x : ℕ) → plain_global gs o ≡ Some x → is_pointed o ≡ false
root_is_variable gs (root.Variable v) x e = refl
root_is_variable gs (root.Pointed n) x e = absurd cc

module _ (p : Facts) (s : Shape) (scope : Scope) (no_blocks : scope.has_blocks ≡ false) where
  never : {X : Type 0} → scope.has_blocks ≡ true → X
  never e = absurd (false≢true (sym no_blocks ∙ e))

  same_cell : (o : Option ℕ) (type : CoreType) (path : Path) (ts : List Term) (k : CellKind) → CellIsTyped p s.variables scope o path.root path.steps k
      → cell_term p (reading p s) o type path ts ≡ cell_term p (without p s) o type path ts
  same_cell (Some x) type path ts k h = refl
  same_cell None type path ts k h = never h.0

  same_read : (o : Option ℕ) (type : CoreType) (path : Path) (ts : List Term) → ReadIsTyped p s.variables scope o type path
      → read_term p (reading p s) o type path ts ≡ read_term p (without p s) o type path ts
  same_read (Some x) type path ts h = refl
  same_read None type path ts h = same_cell (plain_global p.globals path.root) type path ts (kind_given type) h.1

  same_op : (type : CoreType) (o : Op) (es : t.Values) (ts : List Term) → OpIsTyped p s.variables scope type o es
      → op_term p s.variables (reading p s) type o es ts ≡ op_term p s.variables (without p s) type o es ts
  unfolding op_term
  same_op type (op.Read path) es ts h = same_read (plain_root s.variables path.root) type path ts h
  same_op type (op.Address path accessed) es ts h = never h.1
  same_op type (op.Decay path accessed) es ts h = never h.1
  same_op type op.Negate es ts h = refl
  same_op type op.Complement es ts h = refl
  same_op type op.Not es ts h = refl
  same_op type (op.Arithmetic o) es ts h = refl
  same_op type (op.Compare c) es ts h = refl
  same_op type (op.ComparePointers c) es ts h = refl
  same_op type (op.Offset minus index_first size accessed) es ts h = refl
  same_op type (op.Difference size) es ts h = refl
  same_op type op.Convert es ts h = refl
  same_op type op.Requalify es ts h = refl
  same_op type op.Cast es ts h = refl

  mutual
    same_node : (type : CoreType) (what : t.ValueNode) → NodeIsTyped p s.variables scope type what → node_term p s.variables (reading p s) type what ≡ node_term p s.variables (without p s) type what
    same_node type (t.constant z) h = refl
    same_node type t.null h = refl
    same_node type (t.temporary n) h = refl
    same_node type (t.apply o es) h = same_op type o es (terms_of p s.variables (reading p s) es) h.1 ∙ ap (op_term p s.variables (without p s) type o es) (same_terms es h.0)
    same_node type (t.logic c a b) h = refl
    same_node type (t.choose c a b) h = refl
    same_node type (t.effect e es) h = refl

    same_term : (e : t.Value) → IsTyped p s.variables scope e → term_of p s.variables (reading p s) e ≡ term_of p s.variables (without p s) e
    same_term (t.typed what type l) h = same_node type what h

    same_terms : (es : t.Values) → AreTyped p s.variables scope es → terms_of p s.variables (reading p s) es ≡ terms_of p s.variables (without p s) es
    same_terms t.stop h = refl
    same_terms (t.more e es) h = let first = same_term e h.0 in let rest = same_terms es h.1 in λ i. first i ∷ rest i

  -- ---- items

  nothing_asked : (r : Reading) (x : ℕ) (type : CoreType) (path : Path) (ts : List Term) → plain_global p.globals path.root ≡ Some x → path.steps ≡ [] → read_items p r None s.variables type path ts ≡ []
  nothing_asked r x type path ts e empty =
      ap (λ ss. index_items p r ts 0 ss ++ (asked_if (is_pointed path.root) access path.line (access_term p r (cell_of type) (address_term p r path ts))
      ++ facts_by p r (plain_global p.globals path.root) type path ts)) empty
      ∙ ap (λ b. asked_if b access path.line (access_term p r (cell_of type) (address_term p r path ts)) ++ facts_by p r (plain_global p.globals path.root) type path ts) (root_is_variable p.globals path.root x e)
      ∙ ap (λ o. facts_by p r o type path ts) e

  reads_by : (o : Option ℕ) (type : CoreType) (path : Path) (ts : List Term) → plain_global p.globals path.root ≡ o → CellIsTyped p s.variables scope o path.root path.steps (kind_given type)
      → read_items p (reading p s) None s.variables type path ts ≡ read_items p (without p s) None s.variables type path ts
  reads_by (Some x) type path ts e h = nothing_asked (reading p s) x type path ts e h.1 ∙ sym (nothing_asked (without p s) x type path ts e h.1)
  reads_by None type path ts e h = never h.0

  same_reads : (o : Option ℕ) (type : CoreType) (path : Path) (ts : List Term) → ReadIsTyped p s.variables scope o type path
      → read_items p (reading p s) o s.variables type path ts ≡ read_items p (without p s) o s.variables type path ts
  same_reads (Some x) type path ts h = refl
  same_reads None type path ts h = reads_by (plain_global p.globals path.root) type path ts refl h.1

  same_items : (type : CoreType) (l : ℕ) (o : Op) (es : t.Values) (ts : List Term) → OpIsTyped p s.variables scope type o es
      → op_items p s.variables (reading p s) type l o es ts ≡ op_items p s.variables (without p s) type l o es ts
  unfolding op_items op_term
  same_items type l (op.Read path) es ts h = same_reads (plain_root s.variables path.root) type path ts h
  same_items type l (op.Address path accessed) es ts h = never h.1
  same_items type l (op.Decay path accessed) es ts h = never h.1
  same_items type l op.Negate es ts h = refl
  same_items type l op.Complement es ts h = refl
  same_items type l op.Not es ts h = refl
  same_items type l (op.Arithmetic o) es ts h = refl
  same_items type l (op.Compare c) es ts h = refl
  same_items type l (op.ComparePointers c) es ts h = never h.1
  same_items type l (op.Offset minus index_first size accessed) es ts h = never h.1
  same_items type l (op.Difference size) es ts h = never h.1
  same_items type l op.Convert es ts h = refl
  same_items type l op.Requalify es ts h = refl
  same_items type l op.Cast es ts h = refl

  mutual
    same_node_word : (type : CoreType) (l : ℕ) (what : t.ValueNode) → NodeIsTyped p s.variables scope type what
        → node_word p s.variables (reading p s) type l what ≡ node_word p s.variables (without p s) type l what
    same_node_word type l (t.constant z) h = refl
    same_node_word type l t.null h = refl
    same_node_word type l (t.temporary n) h = refl
    same_node_word type l (t.apply o es) h =
        let first = same_words es h.0 in
        let second = same_items type l o es (terms_of p s.variables (reading p s) es) h.1 ∙ ap (op_items p s.variables (without p s) type l o es) (same_terms es h.0) in
        λ i. first i ++ second i
    same_node_word type l (t.logic c a b) h = refl
    same_node_word type l (t.choose c a b) h = refl
    same_node_word type l (t.effect e es) h = refl

    same_word : (e : t.Value) → IsTyped p s.variables scope e → word_of p s.variables (reading p s) e ≡ word_of p s.variables (without p s) e
    same_word (t.typed what type l) h = same_node_word type l what h

    same_words : (es : t.Values) → AreTyped p s.variables scope es → words p s.variables (reading p s) es ≡ words p s.variables (without p s) es
    same_words t.stop h = refl
    same_words (t.more e es) h =
        let first = same_word e h.0 in
        let rest = same_words es h.1 in
        λ i. map (with_check (in_operand 0)) (first i) ++ map (with_check later) (rest i)

  -- ---- closed

  value_closed : (e : t.Value) → IsTyped p s.variables scope e → IsClosed p s e
  value_closed e h =
      let well = strictly_written p s in
      let made = value_written p s.variables well e in
      record {
        items = ap (list_all is_closed_item) (same_word e h) ∙ items_closed (word_written p s.variables well e);
        term = ap (λ a. is_closed [] (number_term a)) (same_term e h) ∙ (number_part made).closed refl;
        condition = ap (λ a. is_closed [] (condition a)) (same_term e h) ∙ (condition_part made).closed refl;
      }

  operands_closed : (es : t.Values) → AreTyped p s.variables scope es → AreClosed p s es
  operands_closed es h =
      let well = strictly_written p s in
      record {
        items = ap (list_all is_closed_item) (same_words es h) ∙ items_closed (words_written p s.variables well es);
        term = λ i. ap (λ ts. is_closed [] (number_term (term_at ts i))) (same_terms es h) ∙ (number_part (kids_written p s.variables well es i)).closed refl;
      }

pub values_are_closed : ValuesAreClosed
values_are_closed p s scope no_blocks = record { value = value_closed p s scope no_blocks; operands = operands_closed p s scope no_blocks }
