-- Sums as tables, step by step as the program makes them.
use Rattle.std.proofs.Common.{◌≡◌, ℕ, zero, suc, ◌+◌, ◌<◌, Bool, true, false, not, ◌&&◌, cond, ℤ, pos, negsuc, ◌+ℤ◌, Ordering, Less, Equal, Greater, List, [], ◌∷◌, ◌++◌, map, length, take, drop, get_or, append_assoc, append-nil, refl, sym, ◌∙◌, ap, subst, arith}
use Rattle.std.specs.Prelude.{Option, Some, None}
use Rattle.std.specs.Ordering.{on, is_eq, is_lt, match_ordering}
use Rattle.std.specs.List.{AllByRecursion}
use Rattle.std.specs.List.Sorted.{IsStrictlySortedBy}
use Rattle.std.specs.BTreeMap.{insert_entry, is_at}
use Rattle.std.specs.Map.{lookup, keys_of}
use Rattle.std.proofs.lemmas.Int.{ints}
use Rattle.qed_terms.specs.Operators.{is_zero}
use Rattle.qed_terms.specs.Order.{tree_cmp}
use Rattle.qed_terms.specs.Tree.{Tree}
use Rattle.qed_terms.specs.View.{term_tree}
use Rattle.qed_terms.proofs.Total.{tree_exact}
use Rattle.qed_linear.specs.declared.forms.LinPart.{LinPart}
use Rattle.qed_linear.specs.declared.keys.KeyedTerm.{KeyedTerm}
use Rattle.qed_linear.specs.declared.wide.Wide.{Wide}
use Rattle.qed_linear.specs.Linear.{Part, Lin, part, lin, number, at_order, cons_nonzero, add_part, add_parts, add}
use Rattle.qed_linear.specs.Totals.{key_tree, total_parts, times_in, is_before, are_ordered}
use Rattle.qed_linear.specs.View.{part_of, parts_of, wide_value, signed_value, signed_parts, signed}
use Rattle.qed_linear.proofs.Canonical.{AllAfter, PartsOver, tree_chain, add_parts_none, scale_canonical}
use Rattle.qed_linear.proofs.Facts.{zero_is, and_left, and_right}
use Rattle.qed_linear.proofs.Places.{one_off, take_one, map_append}
use Rattle.qed_linear.proofs.SumSteps.{signed_append, signed_is, add_parts_last}

abbrev key_cmp : KeyedTerm → KeyedTerm → Ordering
key_cmp = on key_tree tree_cmp

-- ---- the coefficient so far

pub some_times : (k : KeyedTerm) (es : List (KeyedTerm × Wide)) (w : Wide) → Some w ≡ lookup (is_at (key_cmp k)) es → wide_value w ≡ times_in k es
some_times k [] w e = absurd cc
some_times k (x ∷ es) w e = go (is_eq (tree_cmp (key_tree k) (key_tree x.0))) e (some_times k es w)
  where
    go : (b : Bool) → Some w ≡ cond b (Some x.1) (lookup (is_at (key_cmp k)) es) → (Some w ≡ lookup (is_at (key_cmp k)) es → wide_value w ≡ times_in k es) → wide_value w ≡ cond b (wide_value x.1) (times_in k es)
    go true e more = let same : w ≡ x.1 = cc in ap wide_value same
    go false e more = more e

pub no_times : (k : KeyedTerm) (es : List (KeyedTerm × Wide)) → None ≡ lookup (is_at (key_cmp k)) es → pos 0 ≡ times_in k es
no_times k [] e = refl
no_times k (x ∷ es) e = go (is_eq (tree_cmp (key_tree k) (key_tree x.0))) e (no_times k es)
  where
    go : (b : Bool) → None ≡ cond b (Some x.1) (lookup (is_at (key_cmp k)) es) → (None ≡ lookup (is_at (key_cmp k)) es → pos 0 ≡ times_in k es) → pos 0 ≡ cond b (wide_value x.1) (times_in k es)
    go true e more = absurd cc
    go false e more = more e

-- ---- one part more

cons_after : (b a : Tree) (c : ℤ) (ps : List Part) → tree_cmp b a ≡ Less → AllAfter b ps → AllAfter b (cons_nonzero a c ps)
cons_after b a c ps k l = go (is_zero c)
  where
    go : (z : Bool) → AllAfter b (cond z ps (part a c ∷ ps))
    go true = l
    go false = (k, l)

AllKeysAfter : Tree → List (KeyedTerm × Wide) → Type 0
AllKeysAfter a [] = Unit {0}
AllKeysAfter a (e ∷ es) = (tree_cmp a (key_tree e.0) ≡ Less) × AllKeysAfter a es

keys_after : (k : KeyedTerm) (es : List (KeyedTerm × Wide)) → AllByRecursion (λ y. key_cmp k y ≡ Less) (keys_of es) → AllKeysAfter (key_tree k) es
unfolding AllKeysAfter
keys_after k [] h = tt
keys_after k (e ∷ es) h = (h.0, keys_after k es h.1)

keys_after_more : (a b : Tree) (es : List (KeyedTerm × Wide)) → tree_cmp a b ≡ Less → AllKeysAfter b es → AllKeysAfter a es
unfolding AllKeysAfter
keys_after_more a b [] k h = tt
keys_after_more a b (e ∷ es) k h = (tree_chain a b (key_tree e.0) k h.0, keys_after_more a b es k h.1)

parts_after : (a : Tree) (es : List (KeyedTerm × Wide)) → AllKeysAfter a es → AllAfter a (total_parts es)
unfolding AllKeysAfter
parts_after a [] h = tt
parts_after a (e ∷ es) h = cons_after a (key_tree e.0) (wide_value e.1) (total_parts es) h.0 (parts_after a es h.1)

no_times_after : (k : KeyedTerm) (es : List (KeyedTerm × Wide)) → AllKeysAfter (key_tree k) es → times_in k es ≡ pos 0
unfolding AllKeysAfter
no_times_after k [] h = refl
no_times_after k (e ∷ es) h = ap (λ o. cond (is_eq o) (wide_value e.1) (times_in k es)) h.0 ∙ no_times_after k es h.1

put_first : (a : Tree) (c : ℤ) (ps : List Part) → AllAfter a ps → add_part a c ps ≡ cons_nonzero a c ps
put_first a c [] h = refl
put_first a c (p ∷ ps) h = ap (λ o. at_order o (cons_nonzero a c (p ∷ ps)) (cons_nonzero (p.atom) (c +ℤ p.times) ps) (p ∷ add_part a c ps)) h.0

-- more of an atom that is there, maybe with coefficient 0
put_again : (a b : Tree) (c v w : ℤ) (ps : List Part) → tree_cmp a b ≡ Equal → AllAfter a ps → w ≡ c +ℤ v → cons_nonzero b w ps ≡ add_part a c (cons_nonzero b v ps)
put_again a b c v w ps e h s = go (is_zero v) refl
  where
    go : (z : Bool) → is_zero v ≡ z → cons_nonzero b w ps ≡ add_part a c (cond z ps (part b v ∷ ps))
    go true k =
        let n : w ≡ c = s ∙ ap (λ x. c +ℤ x) (zero_is v k) ∙ (omega (arith, ints)) in
        (λ i. cons_nonzero (sym (tree_exact a b e) i) (n i) ps) ∙ sym (put_first a c ps h)
    go false k =
        ap (λ x. cons_nonzero b x ps) s
        ∙ sym (ap (λ o. at_order o (cons_nonzero a c (part b v ∷ ps)) (cons_nonzero b (c +ℤ v) ps) (part b v ∷ add_part a c ps)) e)

put_behind : (a b : Tree) (c v : ℤ) (ps : List Part) → tree_cmp a b ≡ Greater → cons_nonzero b v (add_part a c ps) ≡ add_part a c (cons_nonzero b v ps)
put_behind a b c v ps e = go (is_zero v)
  where
    go : (z : Bool) → cond z (add_part a c ps) (part b v ∷ add_part a c ps) ≡ add_part a c (cond z ps (part b v ∷ ps))
    go true = refl
    go false = sym (ap (λ o. at_order o (cons_nonzero a c (part b v ∷ ps)) (cons_nonzero b (c +ℤ v) ps) (part b v ∷ add_part a c ps)) e)

by_order : (e : KeyedTerm × Wide) (es : List (KeyedTerm × Wide)) (k : KeyedTerm) (w : Wide) (c : ℤ) (o : Ordering) → tree_cmp (key_tree k) (key_tree e.0) ≡ o → AllKeysAfter (key_tree e.0) es
    → wide_value w ≡ c +ℤ times_in k (e ∷ es) → (wide_value w ≡ c +ℤ times_in k es → total_parts (insert_entry key_cmp es k w) ≡ add_part (key_tree k) c (total_parts es))
    → total_parts (insert_entry key_cmp (e ∷ es) k w) ≡ add_part (key_tree k) c (total_parts (e ∷ es))
unfolding AllKeysAfter
by_order e es k w c Less q after s more =
    let behind : AllKeysAfter (key_tree k) (e ∷ es) = (q, keys_after_more (key_tree k) (key_tree e.0) es q after) in
    let n : wide_value w ≡ c = s ∙ ap (λ x. c +ℤ x) (no_times_after k (e ∷ es) behind) ∙ (omega (arith, ints)) in
    ap (λ o. total_parts (match_ordering o ((k, w) ∷ e ∷ es) ((e.0, w) ∷ es) (e ∷ insert_entry key_cmp es k w))) q
    ∙ ap (λ x. cons_nonzero (key_tree k) x (total_parts (e ∷ es))) n
    ∙ sym (put_first (key_tree k) c (total_parts (e ∷ es)) (parts_after (key_tree k) (e ∷ es) behind))
by_order e es k w c Equal q after s more =
    let n : wide_value w ≡ c +ℤ wide_value e.1 = s ∙ ap (λ o. c +ℤ cond (is_eq o) (wide_value e.1) (times_in k es)) q in
    let same = tree_exact (key_tree k) (key_tree e.0) q in
    ap (λ o. total_parts (match_ordering o ((k, w) ∷ e ∷ es) ((e.0, w) ∷ es) (e ∷ insert_entry key_cmp es k w))) q
    ∙ put_again (key_tree k) (key_tree e.0) c (wide_value e.1) (wide_value w) (total_parts es) q (subst (λ t. AllAfter t (total_parts es)) (sym same) (parts_after (key_tree e.0) es after)) n
by_order e es k w c Greater q after s more =
    let n : wide_value w ≡ c +ℤ times_in k es = s ∙ ap (λ o. c +ℤ cond (is_eq o) (wide_value e.1) (times_in k es)) q in
    ap (λ o. total_parts (match_ordering o ((k, w) ∷ e ∷ es) ((e.0, w) ∷ es) (e ∷ insert_entry key_cmp es k w))) q
    ∙ ap (cons_nonzero (key_tree e.0) (wide_value e.1)) (more n)
    ∙ put_behind (key_tree k) (key_tree e.0) c (wide_value e.1) (total_parts es) q

pub put : (es : List (KeyedTerm × Wide)) (k : KeyedTerm) (w : Wide) (c : ℤ) → IsStrictlySortedBy key_cmp (keys_of es) → wide_value w ≡ c +ℤ times_in k es
    → total_parts (insert_entry key_cmp es k w) ≡ add_part (key_tree k) c (total_parts es)
unfolding IsStrictlySortedBy
put [] k w c h s = let n : wide_value w ≡ c = s ∙ (omega (arith, ints)) in ap (λ x. cons_nonzero (key_tree k) x []) n
put (e ∷ es) k w c h s =
    by_order e es k w c (tree_cmp (key_tree k) (key_tree e.0)) refl (keys_after e.0 es h.0) s (λ r. put es k w c h.1 r)

-- ---- the parts of a form, from the last one on

pub parts_down : (b : Bool) (xs : List LinPart) (i : ℕ) (x : LinPart) (qs rs : List Part) → i < length xs → x ≡ get_or xs i x → rs ≡ add_part (term_tree x.atom) (signed_value b x.times) qs
    → add_parts (signed_parts b (parts_of (take i xs))) rs ≡ add_parts (signed_parts b (parts_of (take (i + 1) xs))) qs
parts_down b xs i x qs rs k p e =
    ap (add_parts (signed_parts b (parts_of (take i xs)))) e
    ∙ sym (add_parts_last (signed_parts b (parts_of (take i xs))) (part (term_tree x.atom) (signed_value b x.times)) qs)
    ∙ ap (λ ps. add_parts ps qs) (sym (signed_append b (parts_of (take i xs)) (part_of x ∷ [])))
    ∙ ap (λ ps. add_parts (signed_parts b ps) qs) (sym (map_append part_of (take i xs) (x ∷ [])))
    ∙ ap (λ ys. add_parts (signed_parts b (parts_of ys)) qs) (sym (take_one xs i x k p))

pub added_to : (b : Bool) (ps qs rs : List Part) (c d e : ℤ) → rs ≡ add_parts (signed_parts b ps) qs → e ≡ signed_value b c +ℤ d → lin rs e ≡ add (signed b (lin ps c)) (lin qs d)
added_to b ps qs rs c d e k l = (λ i. lin (k i) (l i)) ∙ ap (λ f. add f (lin qs d)) (signed_is b ps c)

-- ---- the parts of a table

cons_apart : (a : Tree) (c : ℤ) (ps : List Part) → cons_nonzero a c ps ≡ cons_nonzero a c [] ++ ps
cons_apart a c ps = go (is_zero c)
  where
    go : (z : Bool) → cond z ps (part a c ∷ ps) ≡ cond z [] (part a c ∷ []) ++ ps
    go true = refl
    go false = refl

-- ---- parts in order

first_after : (a : Tree) (ps : List Part) → is_before a ps ≡ true → PartsOver (λ t. Unit {0}) ps → AllAfter a ps
first_after a [] h o = tt
first_after a (p ∷ ps) h o = let l = is_less (tree_cmp a (p.atom)) h in (l, after_chain a (p.atom) ps l o.2)
  where
    is_less : (o : Ordering) → is_lt o ≡ true → o ≡ Less
    is_less Less e = refl
    is_less Equal e = absurd cc
    is_less Greater e = absurd cc

    after_chain : (a b : Tree) (ps : List Part) → tree_cmp a b ≡ Less → AllAfter b ps → AllAfter a ps
    after_chain a b [] k l = tt
    after_chain a b (p ∷ ps) k l = (tree_chain a b (p.atom) k l.0, after_chain a b ps k l.1)

not_true : (b : Bool) → not b ≡ true → b ≡ false
not_true true e = absurd cc
not_true false e = refl

in_order : (ps : List Part) → are_ordered ps ≡ true → PartsOver (λ t. Unit {0}) ps
in_order [] e = tt
in_order (p ∷ ps) e =
    let rest = and_right (not (is_zero (p.times))) (is_before (p.atom) ps && are_ordered ps) e in
    let behind = in_order ps (and_right (is_before (p.atom) ps) (are_ordered ps) rest) in
    (tt, not_true (is_zero (p.times)) (and_left (not (is_zero (p.times))) (is_before (p.atom) ps && are_ordered ps) e), first_after (p.atom) ps (and_left (is_before (p.atom) ps) (are_ordered ps) rest) behind, behind)

-- a form in order, or its multiple by -1, put into an empty table
pub begins_with : (b : Bool) (f : Lin) → are_ordered (f.parts) ≡ true → add (signed b f) (number (pos 0)) ≡ signed b f
begins_with true f e =
    let n : (z : ℤ) → z +ℤ pos 0 ≡ z = λ z. omega (arith, ints) in
    λ i. lin (add_parts_none (λ t. Unit {0}) ((signed true f).parts) (scale_canonical (λ t. Unit {0}) (negsuc 0) f (in_order (f.parts) e)) i) (n ((signed true f).constant) i)
begins_with false f e =
    let n : (z : ℤ) → z +ℤ pos 0 ≡ z = λ z. omega (arith, ints) in
    λ i. lin (add_parts_none (λ t. Unit {0}) (f.parts) (in_order (f.parts) e) i) (n (f.constant) i)

-- the test at a place
test_here : (xs : List LinPart) (i : ℕ) (x : LinPart) (b : Bool) → i < length xs → x ≡ get_or xs i x
    → ((p : LinPart) → p ≡ get_or xs i p → b ≡ (not (is_zero p.times) && is_before (term_tree p.atom) (parts_of (drop (i + 1) xs))))
    → are_ordered (parts_of (drop i xs)) ≡ (b && are_ordered (parts_of (drop (i + 1) xs)))
test_here xs i x b k p so =
    ap (λ ys. are_ordered (parts_of ys)) (one_off xs i x k p)
    ∙ assoc (not (is_zero x.times)) (is_before (term_tree x.atom) (parts_of (drop (i + 1) xs))) (are_ordered (parts_of (drop (i + 1) xs)))
    ∙ ap (λ t. t && are_ordered (parts_of (drop (i + 1) xs))) (sym (so x p))
  where
    assoc : (u v w : Bool) → (u && (v && w)) ≡ ((u && v) && w)
    assoc true v w = refl
    assoc false v w = refl

item_at : {A : Type 0} (xs : List A) (i : ℕ) → i < length xs → (x : A) × (x ≡ get_or xs i x)
item_at [] i k = absurd (omega arith)
item_at (x ∷ xs) zero k = (x, refl)
item_at (x ∷ xs) (suc i) k = item_at xs i (omega arith)

pub test_passed : (xs : List LinPart) (i : ℕ) (b : Bool) → i < length xs
    → ((p : LinPart) → p ≡ get_or xs i p → b ≡ (not (is_zero p.times) && is_before (term_tree p.atom) (parts_of (drop (i + 1) xs)))) → b ≡ true
    → are_ordered (parts_of (drop i xs)) ≡ are_ordered (parts_of xs) → are_ordered (parts_of (drop (i + 1) xs)) ≡ are_ordered (parts_of xs)
test_passed xs i b k so e h = let it = item_at xs i k in ap (λ t. t && are_ordered (parts_of (drop (i + 1) xs))) (sym e) ∙ sym (test_here xs i it.0 b k it.1 so) ∙ h

pub test_failed : (xs : List LinPart) (i : ℕ) (b : Bool) → i < length xs
    → ((p : LinPart) → p ≡ get_or xs i p → b ≡ (not (is_zero p.times) && is_before (term_tree p.atom) (parts_of (drop (i + 1) xs)))) → b ≡ false
    → are_ordered (parts_of (drop i xs)) ≡ are_ordered (parts_of xs) → false ≡ are_ordered (parts_of xs)
test_failed xs i b k so e h = let it = item_at xs i k in ap (λ t. t && are_ordered (parts_of (drop (i + 1) xs))) (sym e) ∙ sym (test_here xs i it.0 b k it.1 so) ∙ h

-- ---- the table read from its beginning

pub summed_more : (ps qs : List Part) (es fs : List (KeyedTerm × Wide)) (e : KeyedTerm × Wide) (all : List Part) → ps ++ total_parts es ≡ all → es ≡ e ∷ fs
    → qs ≡ ps ++ cons_nonzero (key_tree e.0) (wide_value e.1) [] → qs ++ total_parts fs ≡ all
summed_more ps qs es fs e all h k l =
    ap (λ rs. rs ++ total_parts fs) l ∙ append_assoc ps (cons_nonzero (key_tree e.0) (wide_value e.1) []) (total_parts fs)
    ∙ ap (λ rs. ps ++ rs) (sym (cons_apart (key_tree e.0) (wide_value e.1) (total_parts fs))) ∙ ap (λ gs. ps ++ total_parts gs) (sym k) ∙ h

pub summed_whole : (ps : List Part) (es : List (KeyedTerm × Wide)) (all : List Part) → ps ++ total_parts es ≡ all → es ≡ [] → ps ≡ all
summed_whole ps es all h k = sym (append-nil ps) ∙ ap (λ gs. ps ++ total_parts gs) (sym k) ∙ h
