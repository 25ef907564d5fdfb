-- Slots by their numbers, and operands.
use Rattle.std.proofs.Common.{◌≡◌, ◌<◌, ◌≤◌, ℕ, zero, suc, ◌*◌, true, false, pos, List, [], ◌∷◌, map, length, get_or, refl, sym, ap, ◌∙◌, arith}
use Rattle.std.specs.Prelude.{◌==◌, if◌then◌else◌, Result}
use Rattle.std.proofs.lemmas.List.{length-map}
use Rattle.qed_terms.specs.declared.term.Term.{Term}
use Rattle.qed_terms.specs.Tree.{Tree, node, num, head_of}
use Rattle.qed_terms.specs.View.{term_tree}
use Rattle.core_trees.specs.declared.variables.FunctionVariable.{FunctionVariable}
use Rattle.core_trees.specs.View.{view_variable, view_variables}
use Rattle.program_trees.specs.declared.files.Facts.{Facts}
use Rattle.program_trees.specs.View.{view_facts}
use Rattle.plain_states.specs.Slots.{sizes_of, at_or, double}
use Rattle.value_terms.specs.Readings as readings
use Rattle.value_terms.specs.Readings.{as_pointer, block_term, offset_term, term_at}
use Rattle.value_terms.specs.Terms.{of_two, field_term}
use Rattle.qed_terms.specs.declared.head.TermOp.TheVariants as term
use Rattle.program_steps.specs.Leaves.{is_integer_head, as_integer}
use Rattle.value_words.specs.declared.terms.ValueTerm.{ValueTerm}
use Rattle.wp_base.specs.declared.memory.NoMemory.{NoMemory}
use Rattle.value_words.specs.Drafts.{ValueIs}
use Rattle.value_words.specs.OverSlots.{slot_term}
use Rattle.value_words.specs.View.{view_term, view_terms}

-- ---- sizes and numbers

pub counted : (p : Facts) (xs : List FunctionVariable) → record { globals = length p.globals; locals = length xs } ≡ sizes_of (view_facts p) (view_variables xs)
counted p xs = λ i. record { globals = sym (length-map p.globals view_variable) i; locals = sym (length-map xs view_variable) i }

pub doubled : (n : ℕ) → n * 2 ≡ double n
doubled zero = refl
doubled (suc n) = let e : suc n * 2 ≡ suc (suc (n * 2)) = omega arith in e ∙ ap (λ k. suc (suc k)) (doubled n)

-- ---- terms in slots

pub integer : (t : Tree) → is_integer_head (head_of t) ≡ true → t ≡ as_integer t
integer (node head ts) e = sym (ap (λ b. if b then node head ts else num (pos 0)) e)

pub no_integer : (t : Tree) → is_integer_head (head_of t) ≡ false → num (pos 0) ≡ as_integer t
no_integer (node head ts) e = sym (ap (λ b. if b then node head ts else num (pos 0)) e)

at_some : {X Y : Type 0} (f : X → Y) (d : Y) (xs : List X) (i : ℕ) (x : X) → i < length xs → x ≡ get_or xs i x → f x ≡ at_or d (map f xs) i
at_some f d [] i x h e = absurd (omega (arith, h))
at_some f d (y ∷ ys) zero x h e = ap f e
at_some f d (y ∷ ys) (suc i) x h e = at_some f d ys i x (omega (arith, h)) e

at_none : {X Y : Type 0} (f : X → Y) (d : Y) (xs : List X) (i : ℕ) → length xs ≤ i → d ≡ at_or d (map f xs) i
at_none f d [] i h = refl
at_none f d (y ∷ ys) zero h = absurd (omega (arith, h))
at_none f d (y ∷ ys) (suc i) h = at_none f d ys i (omega (arith, h))

pub slot_some : (slots : List Term) (i : ℕ) (x : Term) → i < length slots → x ≡ get_or slots i x → as_integer (term_tree x) ≡ slot_term (map term_tree slots) i
slot_some slots i x h e = ap as_integer (at_some term_tree (num (pos 0)) slots i x h e)

pub slot_none : (slots : List Term) (i : ℕ) → length slots ≤ i → num (pos 0) ≡ slot_term (map term_tree slots) i
slot_none slots i h = ap as_integer (at_none term_tree (num (pos 0)) slots i h)

-- ---- operands

pub operand_some : (ts : List ValueTerm) (i : ℕ) (x : ValueTerm) → i < length ts → x ≡ get_or ts i x → view_term x ≡ term_at (view_terms ts) i
operand_some [] i x h e = absurd (omega (arith, h))
operand_some (y ∷ ys) zero x h e = ap view_term e
operand_some (y ∷ ys) (suc i) x h e = operand_some ys i x (omega (arith, h)) e

pub operand_none : (ts : List ValueTerm) (i : ℕ) → length ts ≤ i → readings.as_number (num (pos 0)) ≡ term_at (view_terms ts) i
operand_none [] i h = refl
operand_none (y ∷ ys) zero h = absurd (omega (arith, h))
operand_none (y ∷ ys) (suc i) h = operand_none ys i (omega (arith, h))

-- ---- fields

pub first_field : (draft : Result ValueTerm NoMemory) (k : ℕ) (a : readings.Term) → (k == 0) ≡ true → ValueIs draft (as_pointer (block_term a) (offset_term a)) → ValueIs draft (field_term k a)
first_field draft zero a e h = h
first_field draft (suc k) a e h = absurd (grind (arith, e))

pub later_field : (draft : Result ValueTerm NoMemory) (k : ℕ) (a : readings.Term) → (k == 0) ≡ false → ValueIs draft (as_pointer (block_term a) (of_two term.Add (offset_term a) (num (pos k))))
    → ValueIs draft (field_term k a)
later_field draft zero a e h = absurd (grind (arith, e))
later_field draft (suc k) a e h = h
