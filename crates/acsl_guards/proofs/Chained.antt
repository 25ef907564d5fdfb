-- What a chain in one direction says of the names between its ends.
use Rattle.std.proofs.Common.{◌≡◌, ℕ, ◌-◌, ℤ, Bool, true, false, List, [], ◌∷◌, length, take, Option, Some, refl, sym, ap, subst, ◌∙◌, arith, ⊎_elim}
use Rattle.std.specs.List.{list_all, slice_get}
use Rattle.std.proofs.lemmas.Bool.{and_parts, false≢true, or_cases}
use Rattle.std.proofs.lemmas.Int.{ints}
use Rattle.c_syntax.specs.declared.expr.BinOp.{BinOp}
use Rattle.c_syntax.specs.declared.expr.BinOp.TheVariants as op
use Rattle.c_syntax.specs.Term as t
use Rattle.acsl_guards.specs.Mentions.{is_name}
use Rattle.acsl_guards.specs.Chains.{between, falls, is_strict, rises, stands_in, strict_at, strict_of}
use Rattle.acsl_guards.specs.Meaning.{below, chained, compare}
use Rattle.acsl_guards.proofs.Holding.{name_is}

-- ---- one comparison

-- up or down
abbrev pub goes : Bool → BinOp → Bool
goes false o = rises o
goes true o = falls o

-- a before b in this direction
abbrev pub ordered : (down strict : Bool) → ℤ → ℤ → Bool
ordered false s a b = below s a b
ordered true s a b = below s b a

pub compare_is : (d : Bool) (o : BinOp) (a b : ℤ) → goes d o ≡ true → compare o a b ≡ ordered d (is_strict o) a b
compare_is false op.Less a b h = refl
compare_is false op.AtMost a b h = refl
compare_is true op.Greater a b h = refl
compare_is true op.AtLeast a b h = refl
compare_is true op.Less a b h = absurd (false≢true h)
compare_is true op.AtMost a b h = absurd (false≢true h)
compare_is false op.Greater a b h = absurd (false≢true h)
compare_is false op.AtLeast a b h = absurd (false≢true h)
compare_is false op.Mul a b h = absurd (false≢true h)
compare_is false op.Div a b h = absurd (false≢true h)
compare_is false op.Rem a b h = absurd (false≢true h)
compare_is false op.Add a b h = absurd (false≢true h)
compare_is false op.Sub a b h = absurd (false≢true h)
compare_is false op.Shl a b h = absurd (false≢true h)
compare_is false op.Shr a b h = absurd (false≢true h)
compare_is false op.Equal a b h = absurd (false≢true h)
compare_is false op.NotEqual a b h = absurd (false≢true h)
compare_is false op.BitAnd a b h = absurd (false≢true h)
compare_is false op.BitXor a b h = absurd (false≢true h)
compare_is false op.BitOr a b h = absurd (false≢true h)
compare_is false op.And a b h = absurd (false≢true h)
compare_is false op.Or a b h = absurd (false≢true h)
compare_is true op.Mul a b h = absurd (false≢true h)
compare_is true op.Div a b h = absurd (false≢true h)
compare_is true op.Rem a b h = absurd (false≢true h)
compare_is true op.Add a b h = absurd (false≢true h)
compare_is true op.Sub a b h = absurd (false≢true h)
compare_is true op.Shl a b h = absurd (false≢true h)
compare_is true op.Shr a b h = absurd (false≢true h)
compare_is true op.Equal a b h = absurd (false≢true h)
compare_is true op.NotEqual a b h = absurd (false≢true h)
compare_is true op.BitAnd a b h = absurd (false≢true h)
compare_is true op.BitXor a b h = absurd (false≢true h)
compare_is true op.BitOr a b h = absurd (false≢true h)
compare_is true op.And a b h = absurd (false≢true h)
compare_is true op.Or a b h = absurd (false≢true h)

up_first : (s u : Bool) (a b c : ℤ) → below s a b ≡ true → below u b c ≡ true → below s a c ≡ true
up_first true true a b c h k = grind (arith, ints, h, k)
up_first true false a b c h k = grind (arith, ints, h, k)
up_first false true a b c h k = grind (arith, ints, h, k)
up_first false false a b c h k = grind (arith, ints, h, k)

up_last : (s u : Bool) (a b c : ℤ) → below u a b ≡ true → below s b c ≡ true → below s a c ≡ true
up_last true true a b c h k = grind (arith, ints, h, k)
up_last true false a b c h k = grind (arith, ints, h, k)
up_last false true a b c h k = grind (arith, ints, h, k)
up_last false false a b c h k = grind (arith, ints, h, k)

-- what the first step says, and what the last one does
first_step : (d s u : Bool) (a b c : ℤ) → ordered d s a b ≡ true → ordered d u b c ≡ true → ordered d s a c ≡ true
first_step false s u a b c h k = up_first s u a b c h k
first_step true s u a b c h k = up_last s u c b a k h

last_step : (d s u : Bool) (a b c : ℤ) → ordered d u a b ≡ true → ordered d s b c ≡ true → ordered d s a c ≡ true
last_step false s u a b c h k = up_last s u a b c h k
last_step true s u a b c h k = up_first s u c b a k h

-- ---- chains

abbrev pub last_term : t.Term → List t.Term → t.Term
last_term a [] = a
last_term a (b ∷ ts) = last_term b ts

abbrev pub last_op : BinOp → List BinOp → BinOp
last_op o [] = o
last_op o (p ∷ os) = last_op p os

-- all but the last of a and these
abbrev pub before_last : t.Term → List t.Term → List t.Term
before_last a [] = []
before_last a (b ∷ ts) = a ∷ before_last b ts

module _ (d : Bool) (value : t.Term → ℤ) where
  abbrev all_go : List BinOp → Bool
  all_go os = list_all (goes d) os

  first_compares : (a b : t.Term) (ts : List t.Term) (o : BinOp) (os : List BinOp) → all_go (o ∷ os) ≡ true → chained value (a ∷ b ∷ ts) (o ∷ os) ≡ true → ordered d (is_strict o) (value a) (value b) ≡ true
  first_compares a b ts o os g h =
      sym (compare_is d o (value a) (value b) (and_parts (goes d o) (all_go os) g).0) ∙ (and_parts (compare o (value a) (value b)) (chained value (b ∷ ts) os) h).0

  rest_chained : (a b : t.Term) (ts : List t.Term) (o : BinOp) (os : List BinOp) → chained value (a ∷ b ∷ ts) (o ∷ os) ≡ true → chained value (b ∷ ts) os ≡ true
  rest_chained a b ts o os h = (and_parts (compare o (value a) (value b)) (chained value (b ∷ ts) os) h).1

  rest_go : (o : BinOp) (os : List BinOp) → all_go (o ∷ os) ≡ true → all_go os ≡ true
  rest_go o os g = (and_parts (goes d o) (all_go os) g).1

  -- what begins a chain is before its end
  to_end : (a b : t.Term) (ts : List t.Term) (o : BinOp) (os : List BinOp) → length ts ≡ length os → all_go (o ∷ os) ≡ true → chained value (a ∷ b ∷ ts) (o ∷ os) ≡ true
      → ordered d (is_strict (last_op o os)) (value a) (value (last_term b ts)) ≡ true
  to_end a b [] o [] e g h = first_compares a b [] o [] g h
  to_end a b [] o (p ∷ os) e g h = absurd (omega (arith, e))
  to_end a b (c ∷ ts) o [] e g h = absurd (omega (arith, e))
  to_end a b (c ∷ ts) o (p ∷ os) e g h =
      last_step d (is_strict (last_op p os)) (is_strict o) (value a) (value b) (value (last_term c ts)) (first_compares a b (c ∷ ts) o (p ∷ os) g h)
      (to_end b c ts p os (omega (arith, e)) (rest_go o (p ∷ os) g) (rest_chained a b (c ∷ ts) o (p ∷ os) h))

  -- what stands between the ends is between them
  pub inside : (x : List ℕ) (z : ℤ) → ((line : ℕ) → value (t.name line x) ≡ z) → (a b : t.Term) (ts : List t.Term) (o : BinOp) (os : List BinOp) → length ts ≡ length os → all_go (o ∷ os) ≡ true
      → chained value (a ∷ b ∷ ts) (o ∷ os) ≡ true → stands_in x (before_last b ts) ≡ true
      → (ordered d (is_strict o) (value a) z ≡ true) × (ordered d (is_strict (last_op o os)) z (value (last_term b ts)) ≡ true)
  inside x z v a b [] o os e g h s = absurd (false≢true s)
  inside x z v a b (c ∷ ts) o [] e g h s = absurd (omega (arith, e))
  inside x z v a b (c ∷ ts) o (p ∷ os) e g h s =
      let first = first_compares a b (c ∷ ts) o (p ∷ os) g h in
      let more = rest_chained a b (c ∷ ts) o (p ∷ os) h in
      let go = rest_go o (p ∷ os) g in
      let same : length ts ≡ length os = omega (arith, e) in
      ⊎_elim
      (λ here.
      let n = name_is x b here in
      let k : value b ≡ z = ap value n.1 ∙ v n.0 in (
        subst (λ y. ordered d (is_strict o) (value a) y ≡ true) k first,
        subst (λ y. ordered d (is_strict (last_op p os)) y (value (last_term c ts)) ≡ true) k (to_end b c ts p os same go more),
      ))
      (λ there.
      let i = inside x z v b c ts p os same go more there in
      (first_step d (is_strict o) (is_strict p) (value a) (value b) z first i.0, i.1))
      (or_cases (is_name x b) (stands_in x (before_last c ts)) s)

-- ---- ends by their places

last_at : (a : t.Term) (ts : List t.Term) → slice_get (a ∷ ts) (length ts) ≡ Some (last_term a ts)
last_at a [] = refl
last_at a (b ∷ ts) = last_at b ts

last_op_at : (o : BinOp) (os : List BinOp) → slice_get (o ∷ os) (length os) ≡ Some (last_op o os)
last_op_at o [] = refl
last_op_at o (p ∷ os) = last_op_at p os

less_one : {X : Type 0} (x : X) (xs : List X) → length (x ∷ xs) - 1 ≡ length xs
less_one x xs = omega arith

pub last_place : (a : t.Term) (ts : List t.Term) → slice_get (a ∷ ts) (length (a ∷ ts) - 1) ≡ Some (last_term a ts)
last_place a ts = ap (slice_get (a ∷ ts)) (less_one a ts) ∙ last_at a ts

pub strict_first : (o : BinOp) (os : List BinOp) → strict_at (o ∷ os) 0 ≡ is_strict o
strict_first o os = refl

pub strict_last : (o : BinOp) (os : List BinOp) → strict_at (o ∷ os) (length (o ∷ os) - 1) ≡ is_strict (last_op o os)
strict_last o os = ap (strict_at (o ∷ os)) (less_one o os) ∙ by (slice_get (o ∷ os) (length os)) (last_op_at o os)
  where
    by : (r : Option BinOp) → r ≡ Some (last_op o os) → strict_of r ≡ is_strict (last_op o os)
    by r e = ap strict_of e

take_before : (b : t.Term) (ts : List t.Term) → take (length ts) (b ∷ ts) ≡ before_last b ts
take_before b [] = refl
take_before b (c ∷ ts) = ap (λ us. b ∷ us) (take_before c ts)

pub between_is : (a b : t.Term) (ts : List t.Term) → between (a ∷ b ∷ ts) ≡ before_last b ts
between_is a b ts = ap (λ n. take n (b ∷ ts)) (omega arith) ∙ take_before b ts
