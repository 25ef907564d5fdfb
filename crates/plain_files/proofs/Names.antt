-- Names that are declared keep their meanings, and what a scope or the scopes around it give is one of what was declared.
use Rattle.std.proofs.Common.{◌≡◌, ℕ, zero, suc, ◌-◌, Bool, true, false, if◌then◌else◌, List, [], ◌∷◌, ◌++◌, length, take, get_or, Option, Some, None, is_none, ◌⊎◌, inl, inr, refl, sym, ap, ◌∙◌, arith, length-append}
use Rattle.std.specs.Option.{option_or}
use Rattle.std.specs.Str.{bytes_eq}
use Rattle.std.proofs.Math.Seq.{take-append_seam}
use Rattle.std.proofs.lemmas.Bool.{false≢true}
use Rattle.std.proofs.lemmas.Slice.Eq.{bytes_eq-Decides}
use Rattle.name_table.specs.Names.{Names, meaning_of, is_free, declared}
use Rattle.name_table.specs.Nesting.{meaning_in, entered, around, innermost, declared_in}

pub some_is : {X : Type 0} (x y : X) → Some x ≡ Some y → x ≡ y
some_is x y h = cc

pub no_some : {X : Type 0} (x : X) → None ≡ Some x → ⊥
no_some x h = cc

-- ---- one scope

kept_more : {V : Type 0} (ds : Names V) (y : List ℕ) (w : V) (x : List ℕ) (v : V) → meaning_of ds x ≡ Some v → meaning_of (ds ++ (y, w) ∷ []) x ≡ Some v
kept_more [] y w x v h = absurd (no_some v h)
kept_more {V} (d ∷ ds) y w x v h = by (bytes_eq x d.0) h (kept_more ds y w x v) where
  by : (b : Bool) → (if b then Some d.1 else meaning_of ds x) ≡ Some v → (meaning_of ds x ≡ Some v → meaning_of (ds ++ (y, w) ∷ []) x ≡ Some v)
      → (if b then Some d.1 else meaning_of (ds ++ (y, w) ∷ []) x) ≡ Some v
  by true h rest = h
  by false h rest = rest h

-- what a name means it means after each further declaration
pub kept : {V : Type 0} (ds : Names V) (y : List ℕ) (w : V) (x : List ℕ) (v : V) → meaning_of ds x ≡ Some v → meaning_of (declared ds y w) x ≡ Some v
kept {V} ds y w x v h = by (is_free ds y) where
  by : (b : Bool) → meaning_of (if b then ds ++ (y, w) ∷ [] else ds) x ≡ Some v
  by true = kept_more ds y w x v h
  by false = h

one_more : {V : Type 0} (ds : Names V) (y : List ℕ) (w : V) (x : List ℕ) (v : V) → meaning_of (ds ++ (y, w) ∷ []) x ≡ Some v → (meaning_of ds x ≡ Some v) ⊎ (w ≡ v)
one_more {V} [] y w x v h = by (bytes_eq x y) h where
  by : (b : Bool) → (if b then Some w else None) ≡ Some v → (None ≡ Some v) ⊎ (w ≡ v)
  by true h = inr (some_is w v h)
  by false h = inl h
one_more {V} (d ∷ ds) y w x v h = by (bytes_eq x d.0) h (one_more ds y w x v) where
  by : (b : Bool) → (if b then Some d.1 else meaning_of (ds ++ (y, w) ∷ []) x) ≡ Some v → (meaning_of (ds ++ (y, w) ∷ []) x ≡ Some v → (meaning_of ds x ≡ Some v) ⊎ (w ≡ v))
      → ((if b then Some d.1 else meaning_of ds x) ≡ Some v) ⊎ (w ≡ v)
  by true h rest = inl h
  by false h rest = rest h

-- after a declaration a name means what it meant, or what was declared
pub declared_means : {V : Type 0} (ds : Names V) (y : List ℕ) (w : V) (x : List ℕ) (v : V) → meaning_of (declared ds y w) x ≡ Some v → (meaning_of ds x ≡ Some v) ⊎ (w ≡ v)
declared_means {V} ds y w x v = by (is_free ds y) where
  by : (b : Bool) → meaning_of (if b then ds ++ (y, w) ∷ [] else ds) x ≡ Some v → (meaning_of ds x ≡ Some v) ⊎ (w ≡ v)
  by true h = one_more ds y w x v h
  by false h = inl h

new_more : {V : Type 0} (ds : Names V) (x : List ℕ) (v : V) → meaning_of ds x ≡ None → meaning_of (ds ++ (x, v) ∷ []) x ≡ Some v
new_more {V} [] x v h = by (bytes_eq x x) ((bytes_eq-Decides x x).1 refl) where
  by : (b : Bool) → b ≡ true → (if b then Some v else None) ≡ Some v
  by true e = refl
  by false e = absurd (false≢true e)
new_more {V} (d ∷ ds) x v h = by (bytes_eq x d.0) h (new_more ds x v) where
  by : (b : Bool) → (if b then Some d.1 else meaning_of ds x) ≡ None → (meaning_of ds x ≡ None → meaning_of (ds ++ (x, v) ∷ []) x ≡ Some v)
      → (if b then Some d.1 else meaning_of (ds ++ (x, v) ∷ []) x) ≡ Some v
  by true h rest = absurd (no_some d.1 (sym h))
  by false h rest = rest h

is_none_means : {X : Type 0} (o : Option X) → is_none o ≡ true → o ≡ None
is_none_means None h = refl
is_none_means (Some x) h = absurd (false≢true h)

pub some_there : {X : Type 0} (o : Option X) → is_none o ≡ false → (x : X) × (o ≡ Some x)
some_there None h = absurd (false≢true (sym h))
some_there (Some x) h = (x, refl)

-- a new name means what is declared
pub new_means : {V : Type 0} (ds : Names V) (x : List ℕ) (v : V) → is_free ds x ≡ true → meaning_of (declared ds x v) x ≡ Some v
new_means {V} ds x v free = ap (λ b. meaning_of (if b then ds ++ (x, v) ∷ [] else ds) x) free ∙ new_more ds x v (is_none_means (meaning_of ds x) free)

-- ---- scopes

or_or : {X : Type 0} (o p q : Option X) → option_or (option_or o p) q ≡ option_or o (option_or p q)
or_or None p q = refl
or_or (Some x) p q = refl

or_none : {X : Type 0} (o : Option X) → option_or o None ≡ o
or_none None = refl
or_none (Some x) = refl

within_more : {V : Type 0} (ss : List (Names V)) (s : Names V) (x : List ℕ) → meaning_in (ss ++ s ∷ []) x ≡ option_or (meaning_of s x) (meaning_in ss x)
within_more [] s x = sym (or_none (meaning_of s x))
within_more (r ∷ ss) s x = ap (λ o. option_or o (meaning_of r x)) (within_more ss s x) ∙ or_or (meaning_of s x) (meaning_in ss x) (meaning_of r x)

length_of_more : {X : Type 0} (xs : List X) (x : X) → length (xs ++ x ∷ []) - 1 ≡ length xs
length_of_more xs x = omega (arith, length-append xs (x ∷ []))

pub around_more : {V : Type 0} (ss : List (Names V)) (s : Names V) → around (ss ++ s ∷ []) ≡ ss
around_more ss s = ap (λ n. take n (ss ++ s ∷ [])) (length_of_more ss s) ∙ take-append_seam ss (s ∷ [])

pub around_declared : {V : Type 0} (ss : List (Names V)) (x : List ℕ) (v : V) → around (declared_in ss x v) ≡ around ss
around_declared ss x v = around_more (around ss) (declared (innermost ss) x v)

pub entered_means : {V : Type 0} (ss : List (Names V)) (x : List ℕ) → meaning_in (entered ss) x ≡ meaning_in ss x
entered_means ss x = within_more ss [] x

up_to_last : {X : Type 0} (xs : List X) (n : ℕ) (d : X) → length xs ≡ suc n → take n xs ++ get_or xs n d ∷ [] ≡ xs
up_to_last [] n d h = cc
up_to_last (x ∷ []) zero d h = refl
up_to_last (x ∷ y ∷ xs) zero d h = absurd (omega arith)
up_to_last (x ∷ xs) (suc n) d h = ap (λ l. x ∷ l) (up_to_last xs n d (omega arith))

split_means : {V : Type 0} (ss : List (Names V)) (x : List ℕ) → meaning_in ss x ≡ option_or (meaning_of (innermost ss) x) (meaning_in (around ss) x)
split_means [] x = refl
split_means (s ∷ ss) x =
    sym (ap (λ rs. meaning_in rs x) (up_to_last (s ∷ ss) (length (s ∷ ss) - 1) [] (omega arith))) ∙ within_more (around (s ∷ ss)) (innermost (s ∷ ss)) x

-- after a declaration in the innermost scope a name means what it meant, or what was declared
pub declared_in_means : {V : Type 0} (ss : List (Names V)) (y : List ℕ) (w : V) (x : List ℕ) (v : V) → meaning_in (declared_in ss y w) x ≡ Some v → (meaning_in ss x ≡ Some v) ⊎ (w ≡ v)
declared_in_means {V} ss y w x v h =
    by (meaning_of (declared (innermost ss) y w) x) refl (sym (within_more (around ss) (declared (innermost ss) y w) x) ∙ h) where
      old : (o : Option V) → meaning_of (innermost ss) x ≡ o → (z : V) → meaning_in (around ss) x ≡ Some z → (o ≡ None) → meaning_in ss x ≡ Some z
      old o e z h none = split_means ss x ∙ ap (λ p. option_or p (meaning_in (around ss) x)) (e ∙ none) ∙ h

      inner : (z : V) → meaning_of (innermost ss) x ≡ Some z → meaning_in ss x ≡ Some z
      inner z e = split_means ss x ∙ ap (λ p. option_or p (meaning_in (around ss) x)) e

      outer : (o : Option V) → meaning_of (innermost ss) x ≡ o → meaning_of (declared (innermost ss) y w) x ≡ None → meaning_in (around ss) x ≡ Some v → meaning_in ss x ≡ Some v
      outer None e none h = old None e v h refl
      outer (Some z) e none h = absurd (no_some z (sym none ∙ kept (innermost ss) y w x z e))

      found : (z : V) → z ≡ v → (meaning_of (innermost ss) x ≡ Some z) ⊎ (w ≡ z) → (meaning_in ss x ≡ Some v) ⊎ (w ≡ v)
      found z e (inl k) = inl (inner z k ∙ ap Some e)
      found z e (inr k) = inr (k ∙ e)

      by : (o : Option V) → meaning_of (declared (innermost ss) y w) x ≡ o → option_or o (meaning_in (around ss) x) ≡ Some v → (meaning_in ss x ≡ Some v) ⊎ (w ≡ v)
      by None e h = inl (outer (meaning_of (innermost ss) x) refl e h)
      by (Some z) e h = found z (some_is z v h) (declared_means (innermost ss) y w x z e)
