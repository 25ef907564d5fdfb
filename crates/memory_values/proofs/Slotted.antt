-- Slots by their numbers, kinds, and operands.
use Rattle.std.proofs.Common.{◌≡◌, ◌<◌, ◌≤◌, ℕ, zero, suc, ◌*◌, true, false, pos, List, [], ◌∷◌, map, length, get_or, refl, sym, ap, ◌∙◌, arith}
use Rattle.std.specs.Prelude.{◌==◌, if◌then◌else◌, Result}
use Rattle.std.proofs.lemmas.List.{length-map}
use Rattle.wp_base.specs.declared.kinds.CellKind.{CellKind}
use Rattle.wp_base.specs.declared.kinds.CellKind.TheVariants as cell
use Rattle.wp_base.specs.declared.memory.NoMemory.{NoMemory}
use Rattle.qed_terms.specs.declared.head.TermOp.TheVariants as term
use Rattle.qed_terms.specs.declared.term.Term.{Term}
use Rattle.qed_terms.specs.Tree.{Tree, node, num, head_of}
use Rattle.qed_terms.specs.View.{term_tree}
use Rattle.core_trees.specs.declared.variables.FunctionVariable.{FunctionVariable}
use Rattle.core_trees.specs.View.{view_variable, view_variables}
use Rattle.program_trees.specs.declared.files.Facts.{Facts}
use Rattle.program_trees.specs.View.{view_facts}
use Rattle.c_runs.specs.Scopes.{scalar_of}
use Rattle.value_terms.specs.Readings as readings
use Rattle.value_terms.specs.Readings.{as_pointer, block_term, offset_term, term_at}
use Rattle.value_terms.specs.Terms.{of_two, field_term}
use Rattle.walk_steps.specs.State.{at_or}
use Rattle.memory_words.specs.Places.{double, triple}
use Rattle.memory_words.specs.Leaves.{is_integer_head, is_memory_head, is_table_head, no_memory, no_table, as_integer, as_memory, as_table}
use Rattle.memory_words.specs.Shapes.{sizes}
use Rattle.memory_values.specs.declared.terms.ValueTerm.{ValueTerm}
use Rattle.memory_values.specs.Drafts.{ValueIs}
use Rattle.memory_values.specs.OverSlots.{shape_of}
use Rattle.memory_values.specs.View.{view_term, view_terms}

-- ---- sizes and numbers

pub counted : (p : Facts) (xs : List FunctionVariable) (ks : List CellKind)
    → record { globals = length p.globals; locals = length xs; temporaries = length ks } ≡ sizes (view_facts p) (shape_of (view_variables xs) ks)
counted p xs ks = λ i. record { globals = sym (length-map p.globals view_variable) i; locals = sym (length-map xs view_variable) i; temporaries = length ks }

pub doubled : (n : ℕ) → n * 2 ≡ double n
doubled zero = refl
doubled (suc n) = let e : suc n * 2 ≡ suc (suc (n * 2)) = omega arith in e ∙ ap (λ k. suc (suc k)) (doubled n)

pub tripled : (n : ℕ) → n * 3 ≡ triple n
tripled zero = refl
tripled (suc n) = let e : suc n * 3 ≡ suc (suc (suc (n * 3))) = omega arith in e ∙ ap (λ k. suc (suc (suc k))) (tripled n)

-- ---- terms in slots

pub integer : (t : Tree) → is_integer_head (head_of t) ≡ true → t ≡ as_integer t
integer (node head ts) e = sym (ap (λ b. if b then node head ts else num (pos 0)) e)

pub no_integer : (t : Tree) → is_integer_head (head_of t) ≡ false → num (pos 0) ≡ as_integer t
no_integer (node head ts) e = sym (ap (λ b. if b then node head ts else num (pos 0)) e)

pub memory : (t : Tree) → is_memory_head (head_of t) ≡ true → t ≡ as_memory t
memory (node head ts) e = sym (ap (λ b. if b then node head ts else no_memory) e)

pub no_memory_there : (t : Tree) → is_memory_head (head_of t) ≡ false → no_memory ≡ as_memory t
no_memory_there (node head ts) e = sym (ap (λ b. if b then node head ts else no_memory) e)

pub table : (t : Tree) → is_table_head (head_of t) ≡ true → t ≡ as_table t
table (node head ts) e = sym (ap (λ b. if b then node head ts else no_table) e)

pub no_table_there : (t : Tree) → is_table_head (head_of t) ≡ false → no_table ≡ as_table t
no_table_there (node head ts) e = sym (ap (λ b. if b then node head ts else no_table) e)

at_some : {X Y : Type 0} (f : X → Y) (d : Y) (xs : List X) (i : ℕ) (x : X) → i < length xs → x ≡ get_or xs i x → f x ≡ at_or d (map f xs) i
at_some f d [] i x h e = absurd (omega (arith, h))
at_some f d (y ∷ ys) zero x h e = ap f e
at_some f d (y ∷ ys) (suc i) x h e = at_some f d ys i x (omega (arith, h)) e

at_none : {X Y : Type 0} (f : X → Y) (d : Y) (xs : List X) (i : ℕ) → length xs ≤ i → d ≡ at_or d (map f xs) i
at_none f d [] i h = refl
at_none f d (y ∷ ys) zero h = absurd (omega (arith, h))
at_none f d (y ∷ ys) (suc i) h = at_none f d ys i (omega (arith, h))

pub integer_some : (slots : List Term) (i : ℕ) (x : Term) → i < length slots → x ≡ get_or slots i x → as_integer (term_tree x) ≡ as_integer (at_or (num (pos 0)) (map term_tree slots) i)
integer_some slots i x h e = ap as_integer (at_some term_tree (num (pos 0)) slots i x h e)

pub integer_none : (slots : List Term) (i : ℕ) → length slots ≤ i → num (pos 0) ≡ as_integer (at_or (num (pos 0)) (map term_tree slots) i)
integer_none slots i h = ap as_integer (at_none term_tree (num (pos 0)) slots i h)

pub memory_some : (slots : List Term) (i : ℕ) (x : Term) → i < length slots → x ≡ get_or slots i x → as_memory (term_tree x) ≡ as_memory (at_or (num (pos 0)) (map term_tree slots) i)
memory_some slots i x h e = ap as_memory (at_some term_tree (num (pos 0)) slots i x h e)

pub memory_none : (slots : List Term) (i : ℕ) → length slots ≤ i → no_memory ≡ as_memory (at_or (num (pos 0)) (map term_tree slots) i)
memory_none slots i h = ap as_memory (at_none term_tree (num (pos 0)) slots i h)

-- ---- kinds

pub first_cell : (ks : List CellKind) (c : CellKind) → (length ks ≡ 0 → ⊥) → c ≡ get_or ks 0 c → c ≡ scalar_of ks
first_cell [] c some is = absurd (some refl)
first_cell (k ∷ ks) c some is = is

pub no_cell : (ks : List CellKind) → length ks ≡ 0 → cell.Ptr ≡ scalar_of ks
no_cell [] none = refl
no_cell (c ∷ ks) none = absurd (omega (arith, none))

-- ---- operands

pub operand_some : (ts : List ValueTerm) (i : ℕ) (x : ValueTerm) → i < length ts → x ≡ get_or ts i x → view_term x ≡ term_at (view_terms ts) i
operand_some [] i x h e = absurd (omega (arith, h))
operand_some (y ∷ ys) zero x h e = ap view_term e
operand_some (y ∷ ys) (suc i) x h e = operand_some ys i x (omega (arith, h)) e

pub operand_none : (ts : List ValueTerm) (i : ℕ) → length ts ≤ i → readings.as_number (num (pos 0)) ≡ term_at (view_terms ts) i
operand_none [] i h = refl
operand_none (y ∷ ys) zero h = absurd (omega (arith, h))
operand_none (y ∷ ys) (suc i) h = operand_none ys i (omega (arith, h))

-- ---- fields

pub first_field : (draft : Result ValueTerm NoMemory) (k : ℕ) (a : readings.Term) → (k == 0) ≡ true → ValueIs draft (as_pointer (block_term a) (offset_term a)) → ValueIs draft (field_term k a)
first_field draft zero a e h = h
first_field draft (suc k) a e h = absurd (grind (arith, e))

pub later_field : (draft : Result ValueTerm NoMemory) (k : ℕ) (a : readings.Term) → (k == 0) ≡ false → ValueIs draft (as_pointer (block_term a) (of_two term.Add (offset_term a) (num (pos k))))
    → ValueIs draft (field_term k a)
later_field draft zero a e h = absurd (grind (arith, e))
later_field draft (suc k) a e h = h
