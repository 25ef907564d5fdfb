-- Memories in order: what they hold, that each map has one, and which lists are the same.
use Rattle.std.proofs.Common.{◌≡◌, true, false, if◌then◌else◌, ℤ, pos, [], ◌∷◌, refl, sym, ap, ◌∙◌, subst}
use Rattle.std.specs.Ordering.{int_eq}
use Rattle.qed_terms.specs.Memory.{Entry, Memory, is_at, load}
use Rattle.same_memories.specs.Canonical.{is_before, listed, put_entry, canonical}
use Rattle.same_memories.specs.Alike.{SameMap}
use Rattle.same_memories.specs.Laws.{CanonicalHoldsTheSame, OneListForEachMap, CanonicalIsCanonical, SameIsOneList}
use Rattle.same_memories.proofs.Order.{on_test, not_both, chosen, unchosen, same_number, number_same, at_told, at_itself, at_other, at_apart, before_trans, before_apart, before_there, turned}
use Rattle.same_memories.proofs.Maps.{load_none, load_more, same_loads, loads_same}

-- ---- lists in order

-- all entries are behind this one
AllAfter : Entry → Memory → Type 0
AllAfter d [] = Unit {0}
AllAfter d (e ∷ m) = (is_before d e ≡ true) × AllAfter d m

-- each before the next ones, and none holds 0
InOrder : Memory → Type 0
InOrder [] = Unit {0}
InOrder (e ∷ m) = (int_eq e.value (pos 0) ≡ false) × AllAfter e m × InOrder m

all_behind : (c d : Entry) (m : Memory) → is_before c d ≡ true → AllAfter d m → AllAfter c m
unfolding AllAfter
all_behind c d [] h a = tt
all_behind c d (e ∷ m) h a = (before_trans c d e h a.0, all_behind c d m h a.1)

-- behind an entry is behind each one at its place
all_there : (d e : Entry) (m : Memory) → is_at d.block d.offset e ≡ true → AllAfter e m → AllAfter d m
unfolding AllAfter
all_there d e [] h a = tt
all_there d e (f ∷ m) h a = (before_there d e f h a.0, all_there d e m h a.1)

-- ---- what is held

-- what one more entry makes of what an address holds
abbrev held : Entry → (b o z : ℤ) → ℤ
held d b o z = if is_at b o d then d.value else z

-- an entry at a place puts another one there out of force
replaced : (b o : ℤ) (d e : Entry) (z : ℤ) → is_at d.block d.offset e ≡ true → held d b o z ≡ held d b o (held e b o z)
replaced b o d e z h =
    on_test (is_at b o d) (λ k. chosen (is_at b o d) d.value z k ∙ sym (chosen (is_at b o d) d.value (held e b o z) k))
    (λ k. ap (held d b o) (sym (unchosen (is_at b o e) e.value z (at_other b o d e h ∙ k))))

-- entries at two places may be exchanged
exchanged : (b o : ℤ) (d e : Entry) (z : ℤ) → is_at d.block d.offset e ≡ false → held e b o (held d b o z) ≡ held d b o (held e b o z)
exchanged b o d e z h =
    on_test (is_at b o d)
    (λ k. unchosen (is_at b o e) e.value (held d b o z) (at_apart b o d e h k) ∙ chosen (is_at b o d) d.value z k
    ∙ sym (chosen (is_at b o d) d.value (held e b o z) k))
    (λ k. ap (held e b o) (unchosen (is_at b o d) d.value z k) ∙ sym (unchosen (is_at b o d) d.value (held e b o z) k))

-- entries behind an address don't speak of it
after_nothing : (d : Entry) (m : Memory) → AllAfter d m → (b o : ℤ) → is_at b o d ≡ true → load m b o ≡ pos 0
unfolding AllAfter
after_nothing d [] a b o h = load_none b o
after_nothing d (e ∷ m) a b o h =
    load_more e m b o ∙ unchosen (is_at b o e) e.value (load m b o) (at_apart b o d e (before_apart d e a.0) h) ∙ after_nothing d m a.1 b o h

load_listed : (d : Entry) (m : Memory) → AllAfter d m → (b o : ℤ) → load (listed d m) b o ≡ held d b o (load m b o)
load_listed d m a b o = on_test (int_eq d.value (pos 0)) zero some
  where
    zero : int_eq d.value (pos 0) ≡ true → load (listed d m) b o ≡ held d b o (load m b o)
    zero z =
        ap (λ n. load n b o) (chosen (int_eq d.value (pos 0)) m (d ∷ m) z)
        ∙ on_test (is_at b o d)
        (λ h. after_nothing d m a b o h ∙ sym (same_number d.value (pos 0) z) ∙ sym (chosen (is_at b o d) d.value (load m b o) h))
        (λ h. sym (unchosen (is_at b o d) d.value (load m b o) h))

    some : int_eq d.value (pos 0) ≡ false → load (listed d m) b o ≡ held d b o (load m b o)
    some z = ap (λ n. load n b o) (unchosen (int_eq d.value (pos 0)) m (d ∷ m) z) ∙ load_more d m b o

-- ---- an entry is put

put_first : (d e : Entry) (m : Memory) → is_before d e ≡ true → put_entry d (e ∷ m) ≡ listed d (e ∷ m)
put_first d e m h = chosen (is_before d e) (listed d (e ∷ m)) (if is_at d.block d.offset e then listed d m else e ∷ put_entry d m) h

put_there : (d e : Entry) (m : Memory) → is_before d e ≡ false → is_at d.block d.offset e ≡ true → put_entry d (e ∷ m) ≡ listed d m
put_there d e m h k =
    unchosen (is_before d e) (listed d (e ∷ m)) (if is_at d.block d.offset e then listed d m else e ∷ put_entry d m) h
    ∙ chosen (is_at d.block d.offset e) (listed d m) (e ∷ put_entry d m) k

put_later : (d e : Entry) (m : Memory) → is_before d e ≡ false → is_at d.block d.offset e ≡ false → put_entry d (e ∷ m) ≡ e ∷ put_entry d m
put_later d e m h k =
    unchosen (is_before d e) (listed d (e ∷ m)) (if is_at d.block d.offset e then listed d m else e ∷ put_entry d m) h
    ∙ unchosen (is_at d.block d.offset e) (listed d m) (e ∷ put_entry d m) k

-- a list with an entry more holds what the entry says, and else what it held
load_put : (d : Entry) (m : Memory) → InOrder m → (b o : ℤ) → load (put_entry d m) b o ≡ held d b o (load m b o)
unfolding AllAfter InOrder
load_put d [] order b o = load_listed d [] tt b o
load_put d (e ∷ m) order b o =
    on_test (is_before d e)
    (λ h. ap (λ n. load n b o) (put_first d e m h) ∙ load_listed d (e ∷ m) (h, all_behind d e m h order.1) b o)
    (λ h. on_test (is_at d.block d.offset e)
    (λ k. ap (λ n. load n b o) (put_there d e m h k) ∙ load_listed d m (all_there d e m k order.1) b o ∙ replaced b o d e (load m b o) k
    ∙ ap (held d b o) (sym (load_more e m b o)))
    (λ k. ap (λ n. load n b o) (put_later d e m h k) ∙ load_more e (put_entry d m) b o ∙ ap (held e b o) (load_put d m order.2 b o)
    ∙ exchanged b o d e (load m b o) k ∙ ap (held d b o) (sym (load_more e m b o))))

-- ---- what is put stays in order

listed_order : (d : Entry) (m : Memory) → AllAfter d m → InOrder m → InOrder (listed d m)
unfolding InOrder
listed_order d m a order =
    on_test (int_eq d.value (pos 0)) (λ z. subst InOrder (sym (chosen (int_eq d.value (pos 0)) m (d ∷ m) z)) order)
    (λ z. subst InOrder (sym (unchosen (int_eq d.value (pos 0)) m (d ∷ m) z)) (z, a, order))

listed_after : (c d : Entry) (m : Memory) → is_before c d ≡ true → AllAfter c m → AllAfter c (listed d m)
unfolding AllAfter
listed_after c d m h a =
    on_test (int_eq d.value (pos 0)) (λ z. subst (AllAfter c) (sym (chosen (int_eq d.value (pos 0)) m (d ∷ m) z)) a)
    (λ z. subst (AllAfter c) (sym (unchosen (int_eq d.value (pos 0)) m (d ∷ m) z)) (h, a))

put_after : (c d : Entry) (m : Memory) → is_before c d ≡ true → AllAfter c m → AllAfter c (put_entry d m)
unfolding AllAfter
put_after c d [] h a = listed_after c d [] h tt
put_after c d (e ∷ m) h a =
    on_test (is_before d e) (λ k. subst (AllAfter c) (sym (put_first d e m k)) (listed_after c d (e ∷ m) h a))
    (λ k. on_test (is_at d.block d.offset e) (λ l. subst (AllAfter c) (sym (put_there d e m k l)) (listed_after c d m h a.1))
    (λ l. subst (AllAfter c) (sym (put_later d e m k l)) (a.0, put_after c d m h a.1)))

put_order : (d : Entry) (m : Memory) → InOrder m → InOrder (put_entry d m)
unfolding AllAfter InOrder
put_order d [] order = listed_order d [] tt tt
put_order d (e ∷ m) order =
    on_test (is_before d e) (λ k. subst InOrder (sym (put_first d e m k)) (listed_order d (e ∷ m) (k, all_behind d e m k order.1) order))
    (λ k. on_test (is_at d.block d.offset e)
    (λ l. subst InOrder (sym (put_there d e m k l)) (listed_order d m (all_there d e m l order.1) order.2))
    (λ l. subst InOrder (sym (put_later d e m k l)) (order.0, put_after e d m (turned d e k l) order.1, put_order d m order.2)))

canonical_order : (m : Memory) → InOrder (canonical m)
unfolding InOrder canonical
canonical_order [] = tt
canonical_order (e ∷ m) = put_order e (canonical m) (canonical_order m)

pub canonical_holds_the_same : CanonicalHoldsTheSame
unfolding canonical
canonical_holds_the_same [] b o = refl
canonical_holds_the_same (e ∷ m) b o =
    load_put e (canonical m) (canonical_order m) b o ∙ ap (held e b o) (canonical_holds_the_same m b o) ∙ sym (load_more e m b o)

-- ---- one list in order for each map

load_here : (d : Entry) (m : Memory) → load (d ∷ m) d.block d.offset ≡ d.value
load_here d m = load_more d m d.block d.offset ∙ chosen (is_at d.block d.offset d) d.value (load m d.block d.offset) (at_itself d)

-- what comes first in the one is in the other
first_held : (d : Entry) (m n : Memory) → int_eq d.value (pos 0) ≡ false → AllAfter d n → SameMap (d ∷ m) n → ⊥
first_held d m n some a same =
    not_both (int_eq d.value (pos 0))
    (number_same d.value (pos 0) (sym (load_here d m) ∙ same d.block d.offset ∙ after_nothing d n a d.block d.offset (at_itself d))) some

-- behind a first entry at one place with the same value both hold the same
rest_same : (d e : Entry) (m n : Memory) → is_at d.block d.offset e ≡ true → AllAfter d m → AllAfter e n → SameMap (d ∷ m) (e ∷ n) → SameMap m n
rest_same d e m n h a a' same b o =
    on_test (is_at b o d) (λ k. after_nothing d m a b o k ∙ sym (after_nothing e n a' b o (at_other b o d e h ∙ k)))
    (λ k. sym (load_more d m b o ∙ unchosen (is_at b o d) d.value (load m b o) k) ∙ same b o ∙ load_more e n b o
    ∙ unchosen (is_at b o e) e.value (load n b o) (at_other b o d e h ∙ k))

one_entry : (d e : Entry) (m n : Memory) → is_at d.block d.offset e ≡ true → SameMap (d ∷ m) (e ∷ n) → d ≡ e
one_entry d e m n h same =
    let place = at_told d.block d.offset e h in
    let value = sym (load_here d m) ∙ same d.block d.offset ∙ load_more e n d.block d.offset ∙ chosen (is_at d.block d.offset e) e.value (load n d.block d.offset) h in
    λ i. record { block = sym place.0 i; offset = sym place.1 i; value = value i }

one_list : (m n : Memory) → InOrder m → InOrder n → SameMap m n → m ≡ n
unfolding AllAfter InOrder
one_list [] [] o p same = refl
one_list (d ∷ m) [] o p same = absurd (first_held d m [] o.0 tt same)
one_list [] (e ∷ n) o p same = absurd (first_held e n [] p.0 tt (λ x y. sym (same x y)))
one_list (d ∷ m) (e ∷ n) o p same =
    on_test (is_before d e) (λ k. absurd (first_held d m (e ∷ n) o.0 (k, all_behind d e n k p.1) same))
    (λ k. on_test (is_at d.block d.offset e)
    (λ l. let first = one_entry d e m n l same in
    let rest = one_list m n o.2 p.2 (rest_same d e m n l o.1 p.1 same) in
    λ i. first i ∷ rest i)
    (λ l. let back = turned d e k l in absurd (first_held e n (d ∷ m) p.0 (back, all_behind e d m back o.1) (λ x y. sym (same x y)))))

pub one_list_for_each_map : OneListForEachMap
one_list_for_each_map m n same =
    one_list (canonical m) (canonical n) (canonical_order m) (canonical_order n)
    (λ b o. canonical_holds_the_same m b o ∙ same b o ∙ sym (canonical_holds_the_same n b o))

pub canonical_is_canonical : CanonicalIsCanonical
canonical_is_canonical m = one_list_for_each_map (canonical m) m (canonical_holds_the_same m)

pub same_is_one_list : SameIsOneList
same_is_one_list m n = (
  (λ h. one_list_for_each_map m n (same_loads m n h)),
  (λ e. loads_same m n (λ b o. sym (canonical_holds_the_same m b o) ∙ ap (λ l. load l b o) e ∙ canonical_holds_the_same n b o)),
)
