-- Kinds that are told one after the other.
use Rattle.std.proofs.Common.{◌≡◌, ◌<◌, ◌≤◌, ℕ, ◌+◌, nat_lt, if◌then◌else◌, Bool, true, false, List, [], ◌∷◌, Option, Some, None, length, drop, get_or, refl, sym, ap, subst, ◌∙◌, arith}
use Rattle.std.proofs.lemmas.Bool.Decides.{nat_tests}
use Rattle.std.proofs.lemmas.List.{at_drop_more, at_drop_all}
use Rattle.wp_base.specs.declared.kinds.CellKind.{CellKind}
use Rattle.temporary_kinds.specs.Kinds.{or_else, greater}
use Rattle.temporary_kinds.specs.View.{kind_at, Tells}

or_none : {X : Type 0} (o : Option X) → or_else o None ≡ o
or_none (Some x) = refl
or_none None = refl

or_assoc : {X : Type 0} (o u v : Option X) → or_else (or_else o u) v ≡ or_else o (or_else u v)
or_assoc (Some x) u v = refl
or_assoc None u v = refl

greater_none : (n : ℕ) → greater n 0 ≡ n
greater_none n = by (nat_lt n 0) refl where
  by : (b : Bool) → nat_lt n 0 ≡ b → (if b then 0 else n) ≡ n
  by true is = grind (arith, nat_tests, is)
  by false is = refl

greater_is : (n k : ℕ) → n ≤ greater n k
greater_is n k = by (nat_lt n k) refl where
  by : (b : Bool) → nat_lt n k ≡ b → n ≤ (if b then k else n)
  by true is = grind (arith, nat_tests, is)
  by false is = grind (arith)

greater_assoc : (a b c : ℕ) → greater (greater a b) c ≡ greater a (greater b c)
greater_assoc a b c = by (nat_lt a b) refl (nat_lt b c) refl where
  by : (u : Bool) → nat_lt a b ≡ u → (v : Bool) → nat_lt b c ≡ v
      → (if nat_lt (if u then b else a) c then c else (if u then b else a)) ≡ (if nat_lt a (if v then c else b) then (if v then c else b) else a)
  by true is true so = grind (arith, nat_tests, is, so)
  by true is false so = grind (arith, nat_tests, is, so)
  by false is true so = refl
  by false is false so = grind (arith, nat_tests, is, so)

-- ---- nothing, and one after the other

pub nothing_told : (xs : List (Option CellKind)) → Tells xs xs (λ n. None) 0
nothing_told xs = record { kinds_are = λ n. sym (or_none (kind_at xs n)); count_is = sym (greater_none (length xs)) }

pub then_told : (xs ys zs : List (Option CellKind)) (f g : ℕ → Option CellKind) (m n : ℕ) → Tells xs ys f m → Tells ys zs g n
    → Tells xs zs (λ i. or_else (f i) (g i)) (greater m n)
then_told xs ys zs f g m n h k = record {
  kinds_are = λ i. k.kinds_are i ∙ ap (λ o. or_else o (g i)) (h.kinds_are i) ∙ or_assoc (kind_at xs i) (f i) (g i);
  count_is = k.count_is ∙ ap (λ c. greater c n) h.count_is ∙ greater_assoc (length xs) m n;
}

-- the same, told otherwise
pub same_told : (xs ys : List (Option CellKind)) (f g : ℕ → Option CellKind) (m n : ℕ) → ((i : ℕ) → f i ≡ g i) → m ≡ n → Tells xs ys f m → Tells xs ys g n
same_told xs ys f g m n same is h = record {
  kinds_are = λ i. h.kinds_are i ∙ ap (λ o. or_else (kind_at xs i) o) (same i);
  count_is = h.count_is ∙ ap (greater (length xs)) is;
}

-- ---- lists

module _ {X : Type 0} (f : X → ℕ → Option CellKind) (c : X → ℕ) where
  abbrev pub kinds_of : List X → ℕ → Option CellKind
  kinds_of [] n = None
  kinds_of (x ∷ xs) n = or_else (f x n) (kinds_of xs n)

  abbrev pub count_of : List X → ℕ
  count_of [] = 0
  count_of (x ∷ xs) = greater (c x) (count_of xs)

  -- whatever is told of those that are left is told of all
  pub record Onward (a b : List (Option CellKind)) (left all : List X) : Type 0 where
    pub to : (z : List (Option CellKind)) → Tells b z (kinds_of left) (count_of left) → Tells a z (kinds_of all) (count_of all)

  pub onward_begins : (a : List (Option CellKind)) (xs : List X) → Onward a a xs xs
  onward_begins a xs = record { to = λ z h. h }

  pub onward_turn : (a b d : List (Option CellKind)) (xs : List X) (i : ℕ) (x : X) → i < length xs → Onward a b (drop i xs) xs
      → Tells b d (f (get_or xs i x)) (c (get_or xs i x)) → Onward a d (drop (i + 1) xs) xs
  onward_turn a b d xs i x there on one = record {
    to = λ z rest. on.to z (subst (λ ys. Tells b z (kinds_of ys) (count_of ys)) (sym (at_drop_more (λ ys. ys) xs i x there))
        (then_told b d z (f (get_or xs i x)) (kinds_of (drop (i + 1) xs)) (c (get_or xs i x)) (count_of (drop (i + 1) xs)) one rest));
  }

  pub onward_ends : (a b : List (Option CellKind)) (xs : List X) (i : ℕ) → length xs ≤ i → Onward a b (drop i xs) xs → Tells a b (kinds_of xs) (count_of xs)
  onward_ends a b xs i end on =
      on.to b (subst (λ ys. Tells b b (kinds_of ys) (count_of ys)) (sym (at_drop_all (λ ys. ys) xs i end)) (nothing_told b))

pub ruleset onward_laws = (onward_begins, onward_turn, onward_ends)
