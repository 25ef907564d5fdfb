-- The names that stand in a term.
use Rattle.std.proofs.Common.{◌≡◌, ℕ, zero, suc, ◌<◌, Bool, true, false, List, [], ◌∷◌, refl, sym, ap, subst, ◌∙◌, arith, ⊎_elim}
use Rattle.std.specs.List.{list_any}
use Rattle.std.specs.Str.{bytes_eq}
use Rattle.std.proofs.lemmas.Bool.{both_ways, false_from_ne_true, false≢true, or_cases, or_left, or_right}
use Rattle.std.proofs.lemmas.Slice.Eq.{bytes_eq-Decides}
use Rattle.c_syntax.specs.Term as t
use Rattle.acsl_guards.specs.Mentions.{Names, holds_one, is_among, is_name, is_one_of, mentions, some_part}
use Rattle.acsl_guards.specs.Parts.{term_parts}
use Rattle.acsl_guards.proofs.Searching.{parts_weigh, so_by_parts, weight}
use Rattle.acsl_guards.proofs.Turning.{total}

pub same_bytes : (x : List ℕ) → bytes_eq x x ≡ true
same_bytes x = (bytes_eq-Decides x x).1 refl

pub bytes_same : (x y : List ℕ) → bytes_eq x y ≡ true → x ≡ y
bytes_same x y h = (bytes_eq-Decides x y).0 h

-- ---- a part of which a test is true

-- a part that passes q; every test that it passes is passed by some part
abbrev Part : (t.Term → Bool) → ((t.Term → Bool) → Bool) → Type 0
Part q so = (s : t.Term) × (q s ≡ true) × ((r : t.Term → Bool) → r s ≡ true → so r ≡ true)

part_of : (n : ℕ) (q : t.Term → Bool) → ((a : t.Term) → weight a < n → some_part q a ≡ true → Part q (λ r. some_part r a))
    → (xs : List t.Term) → total weight xs < n → list_any (some_part q) xs ≡ true → Part q (λ r. list_any (some_part r) xs)
part_of n q at [] le h = absurd (false≢true h)
part_of n q at (a ∷ xs) le h =
    ⊎_elim
    (λ first.
    let p = at a (omega (arith, le)) first in
    (p.0, p.1, λ r k. or_left (some_part r a) (list_any (some_part r) xs) (p.2 r k)))
    (λ rest.
    let p = part_of n q at xs (omega (arith, le)) rest in
    (p.0, p.1, λ r k. or_right (some_part r a) (list_any (some_part r) xs) (p.2 r k)))
    (or_cases (some_part q a) (list_any (some_part q) xs) h)

part : (n : ℕ) (q : t.Term → Bool) (a : t.Term) → weight a < n → some_part q a ≡ true → Part q (λ r. some_part r a)
part zero q a le h = absurd (omega (arith, le))
part (suc n) q a le h =
    ⊎_elim
    (λ own. (a, own, λ r k. so_by_parts r a ∙ or_left (r a) (list_any (some_part r) (term_parts a)) k))
    (λ inside.
    let p = part_of n q (part n q) (term_parts a) (omega (arith, le, parts_weigh a)) inside in
    (p.0, p.1, λ r k. so_by_parts r a ∙ or_right (r a) (list_any (some_part r) (term_parts a)) (p.2 r k)))
    (or_cases (q a) (list_any (some_part q) (term_parts a)) (sym (so_by_parts q a) ∙ h))

pub a_part : (q : t.Term → Bool) (a : t.Term) → some_part q a ≡ true → Part q (λ r. some_part r a)
a_part q a h = part (suc (weight a)) q a (omega arith) h

-- ---- names

-- what passes `is_name x` is among names where x is
name_among : (x : List ℕ) (xs : Names) (s : t.Term) → is_among xs x ≡ true → is_name x s ≡ true → is_one_of xs s ≡ true
name_among x xs (t.name line y) h k = subst (λ y. is_among xs y ≡ true) (bytes_same x y k) h
name_among x xs (t.number line token) h k = absurd (false≢true k)
name_among x xs (t.char line z) h k = absurd (false≢true k)
name_among x xs (t.unary line o a) h k = absurd (false≢true k)
name_among x xs (t.binary line o a b) h k = absurd (false≢true k)
name_among x xs (t.cond line test a b) h k = absurd (false≢true k)
name_among x xs (t.call line f args) h k = absurd (false≢true k)
name_among x xs (t.index line a b) h k = absurd (false≢true k)
name_among x xs (t.field line a f arrow) h k = absurd (false≢true k)
name_among x xs (t.cast line type a) h k = absurd (false≢true k)
name_among x xs (t.result line) h k = absurd (false≢true k)
name_among x xs (t.old line a) h k = absurd (false≢true k)
name_among x xs (t.at_label line a label) h k = absurd (false≢true k)
name_among x xs (t.null line) h k = absurd (false≢true k)
name_among x xs (t.range line a b) h k = absurd (false≢true k)

-- a term that is one of some names is a plain name
pub one_of_is : (xs : Names) (s : t.Term) → is_one_of xs s ≡ true → (line : ℕ) × (x : List ℕ) × (s ≡ t.name line x) × (is_among xs x ≡ true)
one_of_is xs (t.name line y) h = (line, y, refl, h)
one_of_is xs (t.number line token) h = absurd (false≢true h)
one_of_is xs (t.char line z) h = absurd (false≢true h)
one_of_is xs (t.unary line o a) h = absurd (false≢true h)
one_of_is xs (t.binary line o a b) h = absurd (false≢true h)
one_of_is xs (t.cond line test a b) h = absurd (false≢true h)
one_of_is xs (t.call line f args) h = absurd (false≢true h)
one_of_is xs (t.index line a b) h = absurd (false≢true h)
one_of_is xs (t.field line a f arrow) h = absurd (false≢true h)
one_of_is xs (t.cast line type a) h = absurd (false≢true h)
one_of_is xs (t.result line) h = absurd (false≢true h)
one_of_is xs (t.old line a) h = absurd (false≢true h)
one_of_is xs (t.at_label line a label) h = absurd (false≢true h)
one_of_is xs (t.null line) h = absurd (false≢true h)
one_of_is xs (t.range line a b) h = absurd (false≢true h)

-- a term that is a name is that name
pub name_is : (x : List ℕ) (s : t.Term) → is_name x s ≡ true → (line : ℕ) × (s ≡ t.name line x)
name_is x (t.name line y) h = (line, ap (t.name line) (sym (bytes_same x y h)))
name_is x (t.number line token) h = absurd (false≢true h)
name_is x (t.char line z) h = absurd (false≢true h)
name_is x (t.unary line o a) h = absurd (false≢true h)
name_is x (t.binary line o a b) h = absurd (false≢true h)
name_is x (t.cond line test a b) h = absurd (false≢true h)
name_is x (t.call line f args) h = absurd (false≢true h)
name_is x (t.index line a b) h = absurd (false≢true h)
name_is x (t.field line a f arrow) h = absurd (false≢true h)
name_is x (t.cast line type a) h = absurd (false≢true h)
name_is x (t.result line) h = absurd (false≢true h)
name_is x (t.old line a) h = absurd (false≢true h)
name_is x (t.at_label line a label) h = absurd (false≢true h)
name_is x (t.null line) h = absurd (false≢true h)
name_is x (t.range line a b) h = absurd (false≢true h)

-- a term that holds none of some names mentions none of them
pub not_mentioned : (xs : Names) (x : List ℕ) (a : t.Term) → holds_one xs a ≡ false → is_among xs x ≡ true → mentions x a ≡ false
not_mentioned xs x a h k =
    false_from_ne_true (mentions x a) (λ m.
    let p = a_part (is_name x) a m in
    both_ways (holds_one xs a) h (p.2 (is_one_of xs) (name_among x xs p.0 k p.1)))

-- and one that mentions none of them holds none
pub none_held : (xs : Names) (a : t.Term) → ((x : List ℕ) → is_among xs x ≡ true → mentions x a ≡ false) → holds_one xs a ≡ false
none_held xs a h =
    false_from_ne_true (holds_one xs a) (λ m.
    let p = a_part (is_one_of xs) a m in
    let n = one_of_is xs p.0 p.1 in
    both_ways (mentions n.1 a) (h n.1 n.3) (p.2 (is_name n.1) (ap (is_name n.1) n.2 ∙ same_bytes n.1)))
