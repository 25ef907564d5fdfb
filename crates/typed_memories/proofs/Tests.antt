-- Tests of addresses, and truth values.
use Rattle.std.proofs.Common.{◌≡◌, Bool, true, false, ◌&&◌, ◌||◌, if◌then◌else◌, ℤ, refl, sym, ap, ap₂, ◌∙◌, subst}
use Rattle.std.specs.Ordering.{int_eq}
use Rattle.std.proofs.lemmas.Bool.{false≢true, and_parts}
use Rattle.std.proofs.lemmas.Bool.Decides.{Decides-int_eq}
use Rattle.c_runs.specs.TruthStates.{Value}
use Rattle.c_runs.specs.States.{with_cell}
use Rattle.c_runs.proofs.Numbers.{equal_is}
use Rattle.typed_memories.specs.Cells.{Cells}

-- ---- truth values

-- a test in both its cases
pub on_test : {P : Type 0} (t : Bool) → (t ≡ true → P) → (t ≡ false → P) → P
on_test true f g = f refl
on_test false f g = g refl

pub not_both : {P : Type 0} (t : Bool) → t ≡ true → t ≡ false → P
not_both t so not_so = absurd (false≢true (sym not_so ∙ so))

pub chosen : {X : Type 0} (t : Bool) (x y : X) → t ≡ true → (if t then x else y) ≡ x
chosen t x y h = ap (λ t. if t then x else y) h

pub unchosen : {X : Type 0} (t : Bool) (x y : X) → t ≡ false → (if t then x else y) ≡ y
unchosen t x y h = ap (λ t. if t then x else y) h

pub both_so : (s t : Bool) → s ≡ true → t ≡ true → s && t ≡ true
both_so s t h k = ap₂ (λ s t. s && t) h k

pub neither : (s t : Bool) → s || t ≡ false → (s ≡ false) × (t ≡ false)
neither true t h = absurd (false≢true (sym h))
neither false t h = (refl, h)

pub or_first : (s t : Bool) → s ≡ true → s || t ≡ true
or_first s t h = ap (λ s. s || t) h

pub or_second : (s t : Bool) → t ≡ true → s || t ≡ true
or_second true t h = refl
or_second false t h = h

-- a test that another one leaves
pub or_left : (s t : Bool) → s || t ≡ true → s ≡ false → t ≡ true
or_left true t h not_so = absurd (false≢true (sym not_so))
or_left false t h not_so = h

pub or_unless : (s t : Bool) → (s ≡ false → t ≡ true) → s || t ≡ true
or_unless true t h = refl
or_unless false t h = h refl

-- ---- numbers

pub same_number : (a b : ℤ) → int_eq a b ≡ true → a ≡ b
same_number a b h = (Decides-int_eq a b).0 h

pub number_same : (a b : ℤ) → a ≡ b → int_eq a b ≡ true
number_same a b e = (Decides-int_eq a b).1 e

-- ---- addresses

abbrev pub is_here : (b o b' o' : ℤ) → Bool
is_here b o b' o' = int_eq b b' && int_eq o o'

pub here : (b o : ℤ) → is_here b o b o ≡ true
here b o = both_so (int_eq b b) (int_eq o o) (number_same b b refl) (number_same o o refl)

pub same_address : (b o b' o' : ℤ) → is_here b o b' o' ≡ true → (b ≡ b') × (o ≡ o')
same_address b o b' o' h = let both = and_parts (int_eq b b') (int_eq o o') h in (same_number b b' both.0, same_number o o' both.1)

-- what is so of an address is so of the same one
pub moved : (P : ℤ → ℤ → Type 0) (b o b' o' : ℤ) → is_here b o b' o' ≡ true → P b o → P b' o'
moved P b o b' o' h x = let e = same_address b o b' o' h in subst (P b') e.1 (subst (λ b. P b o) e.0 x)

pub with_cell_is : (b o : ℤ) (v : Value) (f : Cells) (b' o' : ℤ) → with_cell b o v f b' o' ≡ (if is_here b o b' o' then v else f b' o')
with_cell_is b o v f b' o' = ap₂ (λ s t. if s && t then v else f b' o') (equal_is b b') (equal_is o o')

pub with_cell_here : (b o : ℤ) (v : Value) (f : Cells) (b' o' : ℤ) → is_here b o b' o' ≡ true → with_cell b o v f b' o' ≡ v
with_cell_here b o v f b' o' h = with_cell_is b o v f b' o' ∙ chosen (is_here b o b' o') v (f b' o') h

pub with_cell_apart : (b o : ℤ) (v : Value) (f : Cells) (b' o' : ℤ) → is_here b o b' o' ≡ false → with_cell b o v f b' o' ≡ f b' o'
with_cell_apart b o v f b' o' h = with_cell_is b o v f b' o' ∙ unchosen (is_here b o b' o') v (f b' o') h
