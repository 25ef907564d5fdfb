-- What is made of values that are there, and of those that aren't.
use Rattle.std.proofs.Common.{◌≡◌, ℕ, zero, suc, pos, refl, sym, ap, ◌∙◌}
use Rattle.std.specs.Prelude.{Option, Some, None}
use Rattle.qed_terms.specs.Tree.{Tree, num}
use Rattle.qed_terms.specs.declared.head.TermOp.TheVariants as op
use Rattle.acsl_encode.specs.Readings.{Terms, Pointer, elements, nothing}
use Rattle.acsl_encode.specs.Encode.{with_one, with_two, reached, further, op_two}

pub one_missing : {X : Type 0} (f : X → Terms) (o : Option X) → None ≡ o → nothing ≡ with_one f o
one_missing f o e = ap (with_one f) e

pub one_given : {X : Type 0} (f : X → Terms) (o : Option X) (x : X) (t : Terms) → Some x ≡ o → t ≡ f x → t ≡ with_one f o
one_given f o x t e h = h ∙ ap (with_one f) e

pub first_missing : {X Y : Type 0} (f : X → Y → Terms) (o : Option X) (o' : Option Y) → None ≡ o → nothing ≡ with_two f o o'
first_missing f o o' e = ap (λ p. with_two f p o') e

pub second_missing : {X Y : Type 0} (f : X → Y → Terms) (o : Option X) (o' : Option Y) (x : X) → Some x ≡ o → None ≡ o' → nothing ≡ with_two f o o'
second_missing f o o' x e k = λ i. with_two f (e i) (k i)

pub two_given : {X Y : Type 0} (f : X → Y → Terms) (o : Option X) (o' : Option Y) (x : X) (y : Y) (t : Terms) → Some x ≡ o → Some y ≡ o' → t ≡ f x y
    → t ≡ with_two f o o'
two_given f o o' x y t e k h = h ∙ (λ i. with_two f (e i) (k i))

pub ruleset given_laws = (one_missing, one_given, first_missing, second_missing, two_given)

-- ---- what a pointer reaches

pub no_pointer : (n : ℕ) (o : Option Pointer) (i j : Option Tree) → None ≡ o → nothing ≡ reached n o i j
no_pointer n o i j e = ap (λ p. reached n p i j) e

pub no_low : (n : ℕ) (o : Option Pointer) (i j : Option Tree) (p : Pointer) → Some p ≡ o → None ≡ i → nothing ≡ reached n o i j
no_low n o i j p e k = λ t. reached n (e t) (k t) j

pub no_high : (n : ℕ) (o : Option Pointer) (i j : Option Tree) (p : Pointer) (low : Tree) → Some p ≡ o → Some low ≡ i → None ≡ j → nothing ≡ reached n o i j
no_high n o i j p low e k l = λ t. reached n (e t) (k t) (l t)

pub all_reached : (n : ℕ) (o : Option Pointer) (i j : Option Tree) (p : Pointer) (low high : Tree) → Some p ≡ o → Some low ≡ i → Some high ≡ j
    → elements p.block p.offset n low high ≡ reached n o i j
all_reached n o i j p low high e k l = λ t. reached n (e t) (k t) (l t)

pub ruleset reached_laws = (no_pointer, no_low, no_high, all_reached)

-- ---- cells further on

pub no_further : (n : ℕ) (t : Tree) → n ≡ 0 → t ≡ further n t
no_further n t e = ap (λ m. further m t) (sym e)

pub some_further : (n : ℕ) (t u : Tree) → (n ≡ 0 → ⊥) → u ≡ op_two op.Add t (num (pos n)) → u ≡ further n t
some_further zero t u h made = absurd (h refl)
some_further (suc n) t u h made = made
