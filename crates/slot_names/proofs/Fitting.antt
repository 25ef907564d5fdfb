-- Base names fit.
use Rattle.std.proofs.Common.{◌≡◌, ◌⊎◌, ◌≤◌, ◌<◌, ℕ, zero, suc, ◌+◌, Bool, true, false, List, [], ◌∷◌, ◌++◌, take, length, map, codes, refl, ap, sym, ◌∙◌, subst, true≢false, cond, arith}
use Rattle.std.specs.Prelude.{◌&&◌, ◌||◌, ◌-◌, nat_lt, nat_le, ◌==◌, not, if◌then◌else◌}
use Rattle.std.specs.List.{list_all, list_any}
use Rattle.std.specs.Str.{bytes_eq}
use Rattle.std.specs.Int.Digits.{digits_of, AllBelowBase}
use Rattle.std.proofs.lemmas.Int.Digits.{all_below_base_digits_of}
use Rattle.std.proofs.lemmas.Slice.Eq.{bytes_eq-Decides}
use Rattle.std.proofs.lemmas.Bool.{and_parts, le-leb, lt-ltb, eq-eqb}
use Rattle.qed_terms.specs.Names.{is_digit, is_letter, is_name, is_name_byte}
use Rattle.qed_terms.specs.Fresh.{Lacks, hash, numeral}
use Rattle.c_runs.specs.Program.{Variable}
use Rattle.walk_steps.specs.Forms.{bang}
use Rattle.walk_steps.specs.World.{IsBase, AreBases}
use Rattle.walk_steps.specs.Laws.{Origin, own, fixed, Away, OwnDiffer}
use Rattle.walk_steps.specs.Texts.{AreNames}
use Rattle.program_steps.specs.Starting.{file_origins, own_origins, zero_origins}
use Rattle.slot_names.specs.Bases.{Name, is_among, flag_name, pairs_of, hides, shown_as, own_name, own_names, temporary_name, temporary_names, behind_variables, slot_bases, is_c_byte, is_c_name, begins_well, differ, are_fit}
use Rattle.slot_names.specs.Laws.{Fit, BasesFit}

-- ---- bytes

-- no name of C has the byte
lacks : (c : ℕ) → is_c_byte c ≡ false → (x : Name) → list_all is_c_byte x ≡ true → Lacks c x
lacks c n [] h = tt
lacks c n (b ∷ x) h =
    let both = and_parts (is_c_byte b) (list_all is_c_byte x) h in
    ((λ e. true≢false (sym both.0 ∙ ap is_c_byte e ∙ n)), lacks c n x both.1)

lacks_behind : (c : ℕ) (x y : Name) → Lacks c x → Lacks c y → Lacks c (x ++ y)
lacks_behind c [] y h k = k
lacks_behind c (b ∷ x) y h k = (h.0, lacks_behind c x y h.1 k)

digits_lack : (c : ℕ) → c < 48 → (ds : List ℕ) → AllBelowBase 10 ds → Lacks c (map (λ d. 48 + d) ds)
digits_lack c n [] h = tt
digits_lack c n (d ∷ ds) h = ((λ e. omega (arith, e, n)), digits_lack c n ds h.1)

-- ---- what is so of a name

-- well formed, and a base
abbrev Good : Name → Type 0
Good x = (is_name x ≡ true) × IsBase x

and_both : (a b : Bool) → a ≡ true → b ≡ true → (a && b) ≡ true
and_both a b h k = λ i. h i && k i

c_byte_is : (b : ℕ) → is_c_byte b ≡ true → is_name_byte b ≡ true
c_byte_is b h = by (is_letter b) (is_digit b) (b == 95) refl h
  where
    by : (l d u : Bool) → (b == 95) ≡ u → (l || d || u) ≡ true → (l || d || list_any (λ c. b == c) (codes "_\\%:#!")) ≡ true
    by true d u e k = refl
    by false true u e k = refl
    by false false u e k = ap (λ t. t || list_any (λ c. b == c) (codes "\\%:#!")) (e ∙ k)

c_bytes_are : (x : Name) → list_all is_c_byte x ≡ true → list_all is_name_byte x ≡ true
c_bytes_are [] h = refl
c_bytes_are (b ∷ x) h =
    let both = and_parts (is_c_byte b) (list_all is_c_byte x) h in
    and_both (is_name_byte b) (list_all is_name_byte x) (c_byte_is b both.0) (c_bytes_are x both.1)

all_behind : (x y : Name) → list_all is_name_byte x ≡ true → list_all is_name_byte y ≡ true → list_all is_name_byte (x ++ y) ≡ true
all_behind [] y h k = k
all_behind (b ∷ x) y h k =
    let both = and_parts (is_name_byte b) (list_all is_name_byte x) h in
    and_both (is_name_byte b) (list_all is_name_byte (x ++ y)) both.0 (all_behind x y both.1 k)

-- a name of C
name_is_good : (x : Name) → is_c_name x ≡ true → Good x
unfolding is_name
name_is_good [] h = absurd (true≢false (sym h))
name_is_good (b ∷ x) h =
    let parts = and_parts (not (is_digit b)) (list_all is_c_byte (b ∷ x)) h in
    (and_both (not (is_digit b)) (list_all is_name_byte (b ∷ x)) parts.0 (c_bytes_are (b ∷ x) parts.1), (lacks hash refl (b ∷ x) parts.1, lacks bang refl (b ∷ x) parts.1))

-- its flag
flag_is_good : (x : Name) → Good x → Good (flag_name x)
unfolding is_name
flag_is_good [] h = absurd (true≢false (sym h.0))
flag_is_good (b ∷ x) h =
    let parts = and_parts (not (is_digit b)) (list_all is_name_byte (b ∷ x)) h.0 in (
      and_both (not (is_digit b)) (list_all is_name_byte ((b ∷ x) ++ codes ":i")) parts.0 (all_behind (b ∷ x) (codes ":i") parts.1 refl),
      (lacks_behind hash (b ∷ x) (codes ":i") h.1.0 ((λ e. omega (arith, e)), ((λ e. omega (arith, e)), tt)), lacks_behind bang (b ∷ x) (codes ":i") h.1.1 ((λ e. omega (arith, e)), ((λ e. omega (arith, e)), tt))),
    )

hidden_is_good : (x : Name) → Good x → Good (hides x)
unfolding is_name
hidden_is_good [] h = absurd (true≢false (sym h.0))
hidden_is_good (b ∷ x) h =
    let parts = and_parts (not (is_digit b)) (list_all is_name_byte (b ∷ x)) h.0 in
    (parts.1, (((λ e. omega (arith, e)), h.1.0), ((λ e. omega (arith, e)), h.1.1)))

shown_is_good : (hidden : Bool) (x : Name) → Good x → Good (shown_as hidden x)
shown_is_good true x h = hidden_is_good x h
shown_is_good false x h = h

temporary_is_good : (n : ℕ) → Good (temporary_name n)
unfolding is_name
temporary_is_good n =
    let below = all_below_base_digits_of 10 n (omega arith) in (
      digits_are (digits_of 10 n) below,
      (((λ e. omega (arith, e)), digits_lack hash (omega arith) (digits_of 10 n) below), ((λ e. omega (arith, e)), digits_lack bang (omega arith) (digits_of 10 n) below)),
    )
  where
    digit_byte : (b : ℕ) → is_digit b ≡ true → is_name_byte b ≡ true
    digit_byte b h = by (is_letter b) (is_digit b) h
      where
        by : (l d : Bool) → d ≡ true → (l || d || list_any (λ c. b == c) (codes "_\\%:#!")) ≡ true
        by true d k = refl
        by false true k = refl
        by false false k = absurd (true≢false (sym k))

    digits_are : (ds : List ℕ) → AllBelowBase 10 ds → list_all is_name_byte (map (λ d. 48 + d) ds) ≡ true
    digits_are [] h = refl
    digits_are (d ∷ ds) h =
        and_both (is_name_byte (48 + d)) _ (digit_byte (48 + d) (and_both (nat_le 48 (48 + d)) (nat_le (48 + d) 57) (le-leb 48 (48 + d) (omega (arith))) (le-leb (48 + d) 57 (omega (arith, h.0))))) (digits_are ds h.1)

-- ---- all of them

abbrev AllGood : List Name → Type 0
AllGood [] = Unit {0}
AllGood (x ∷ xs) = Good x × AllGood xs

good_names : (xs : List Name) → AllGood xs → AreNames xs
good_names [] h = tt
good_names (x ∷ xs) h = (h.0.0, good_names xs h.1)

good_bases : (xs : List Name) → AllGood xs → AreBases xs
good_bases [] h = tt
good_bases (x ∷ xs) h = (h.0.1, good_bases xs h.1)

good_both : (xs ys : List Name) → AllGood xs → AllGood ys → AllGood (xs ++ ys)
good_both [] ys h k = k
good_both (x ∷ xs) ys h k = (h.0, good_both xs ys h.1 k)

good_pairs : (xs : List Name) → AllGood xs → AllGood (pairs_of xs)
good_pairs [] h = tt
good_pairs (x ∷ xs) h = (h.0, (flag_is_good x h.0, good_pairs xs h.1))

good_c : (xs : List Name) → list_all is_c_name xs ≡ true → AllGood xs
good_c [] h = tt
good_c (x ∷ xs) h = let both = and_parts (is_c_name x) (list_all is_c_name xs) h in (name_is_good x both.0, good_c xs both.1)

good_own : (gs : List Name) (n : ℕ) (xs : List Name) → AllGood xs → AllGood (own_names gs n xs)
good_own gs n [] h = tt
good_own gs n (x ∷ xs) h = (shown_is_good (nat_lt 0 n && is_among x gs) x h.0, good_own gs (n - 1) xs h.1)

good_temporaries : (n k : ℕ) → AllGood (temporary_names n k)
good_temporaries n zero = tt
good_temporaries n (suc k) = (temporary_is_good n, good_temporaries (suc n) k)

none_of : (c : ℕ) (x : Name) → list_any (λ b. b == c) x ≡ false → Lacks c x
none_of c [] h = tt
none_of c (b ∷ x) h =
    let both = neither (b == c) (list_any (λ b. b == c) x) h in
    ((λ same. true≢false (sym (eq-eqb b c same) ∙ both.0)), none_of c x both.1)
  where
    neither : (a b : Bool) → (a || b) ≡ false → (a ≡ false) × (b ≡ false)
    neither true b e = absurd (true≢false e)
    neither false b e = (refl, e)

good_slots : (gs : List Name) (n : ℕ) (xs : List Name) (k : ℕ) → list_all is_c_name gs ≡ true → list_all is_c_name xs ≡ true → AllGood (slot_bases gs n xs k)
unfolding is_name
good_slots gs n xs k g h =
    good_both (pairs_of gs) (pairs_of (own_names gs n xs) ++ behind_variables k) (good_pairs gs (good_c gs g))
    (good_both (pairs_of (own_names gs n xs)) (behind_variables k) (good_pairs (own_names gs n xs) (good_own gs n xs (good_c xs h)))
    ((refl, (none_of hash (codes "\\result") refl, none_of bang (codes "\\result") refl)), ((refl, (none_of hash (codes "%") refl, none_of bang (codes "%") refl)), good_temporaries 1 k)))

-- ---- own names at the start differ

-- not one of the names at the start
abbrev AwayFrom : Name → List Name → Type 0
AwayFrom x [] = Unit {0}
AwayFrom x (y ∷ ys) = (x ≡ y → ⊥) × AwayFrom x ys

neither_of : (a b : Bool) → (a || b) ≡ false → (a ≡ false) × (b ≡ false)
neither_of true b e = absurd (true≢false e)
neither_of false b e = (refl, e)

away_among : (x : Name) (xs : List Name) → is_among x xs ≡ false → AwayFrom x xs
away_among x [] h = tt
away_among x (y ∷ ys) h =
    let both = neither_of (bytes_eq x y) (is_among x ys) h in
    ((λ same. true≢false (sym ((bytes_eq-Decides x y).1 same) ∙ both.0)), away_among x ys both.1)

flipped : (b : Bool) → not b ≡ true → b ≡ false
flipped true e = absurd (true≢false (sym e))
flipped false e = refl

-- nothing at 0 has an own name
zero_away : (x : Name) (bases : List Name) (k : ℕ) → Away x bases (zero_origins k)
zero_away x bases zero = tt
zero_away x [] (suc k) = tt
zero_away x (b ∷ bases) (suc k) = zero_away x bases k

zero_differ : (bases : List Name) (k : ℕ) → OwnDiffer bases (zero_origins k)
zero_differ bases zero = tt
zero_differ [] (suc k) = tt
zero_differ (b ∷ bases) (suc k) = zero_differ bases k

-- names of C that differ do so with and without a mark
no_mark : (x : Name) → is_c_name (hides x) ≡ true → ⊥
no_mark x h = true≢false (sym h)

shown_apart : (a b : Bool) (x y : Name) → is_c_name x ≡ true → is_c_name y ≡ true → (x ≡ y → ⊥) → shown_as a x ≡ shown_as b y → ⊥
shown_apart true true x y h k n e = n (behind e)
  where
    tail_of : Name → Name
    tail_of [] = []
    tail_of (b ∷ bs) = bs

    behind : hides x ≡ hides y → x ≡ y
    behind e = ap tail_of e
shown_apart true false x y h k n e = no_mark x (subst (λ z. is_c_name z ≡ true) (sym e) k)
shown_apart false true x y h k n e = no_mark y (subst (λ z. is_c_name z ≡ true) e h)
shown_apart false false x y h k n e = n e

shown_away : (a : Bool) (x : Name) (gs : List Name) (n : ℕ) (xs : List Name) → is_c_name x ≡ true → list_all is_c_name xs ≡ true → AwayFrom x xs
    → AwayFrom (shown_as a x) (own_names gs n xs)
shown_away a x gs n [] h k w = tt
shown_away a x gs n (y ∷ ys) h k w =
    let both = and_parts (is_c_name y) (list_all is_c_name ys) k in
    (shown_apart a (nat_lt 0 n && is_among y gs) x y h both.0 w.0, shown_away a x gs (n - 1) ys h both.1 w.1)

c_front : (n : ℕ) (xs : List Name) → list_all is_c_name xs ≡ true → list_all is_c_name (take n xs) ≡ true
c_front zero xs h = refl
c_front (suc n) [] h = refl
c_front (suc n) (x ∷ xs) h =
    let both = and_parts (is_c_name x) (list_all is_c_name xs) h in
    and_both (is_c_name x) (list_all is_c_name (take n xs)) both.0 (c_front n xs both.1)

-- the variables of the function, of which the first ones are parameters
own_away : (x : Name) (gs : List Name) (n : ℕ) (xs : List Name) (vs : List Variable) (rest : List Name) (k : ℕ) → length vs ≡ length xs → AwayFrom x (own_names gs n (take n xs))
    → Away x (pairs_of (own_names gs n xs) ++ rest) (own_origins n vs ++ zero_origins k)
own_away x gs n [] [] rest k l a = zero_away x rest k
own_away x gs n [] (v ∷ vs) rest k l a = absurd (omega (arith, l))
own_away x gs n (y ∷ xs) [] rest k l a = absurd (omega (arith, l))
own_away x gs zero (y ∷ xs) (v ∷ vs) rest k l a = own_away x gs zero xs vs rest k (omega (arith, l)) tt
own_away x gs (suc n) (y ∷ xs) (v ∷ vs) rest k l a = (
  a.0,
  subst (λ m. Away x (pairs_of (own_names gs m xs) ++ rest) (own_origins n vs ++ zero_origins k)) (less n)
      (own_away x gs n xs vs rest k (omega (arith, l)) (subst (λ m. AwayFrom x (own_names gs m (take n xs))) (sym (less n)) a.1)),
)
  where
    less : (n : ℕ) → n ≡ suc n - 1
    less n = omega (arith)

own_differ : (gs : List Name) (n : ℕ) (xs : List Name) (vs : List Variable) (rest : List Name) (k : ℕ) → length vs ≡ length xs → list_all is_c_name xs ≡ true
    → differ (take n xs) ≡ true → OwnDiffer (pairs_of (own_names gs n xs) ++ rest) (own_origins n vs ++ zero_origins k)
own_differ gs n [] [] rest k l c d = zero_differ rest k
own_differ gs n [] (v ∷ vs) rest k l c d = absurd (omega (arith, l))
own_differ gs n (y ∷ xs) [] rest k l c d = absurd (omega (arith, l))
own_differ gs zero (y ∷ xs) (v ∷ vs) rest k l c d = own_differ gs zero xs vs rest k (omega (arith, l)) (and_parts (is_c_name y) (list_all is_c_name xs) c).1 refl
own_differ gs (suc n) (y ∷ xs) (v ∷ vs) rest k l c d =
    let both = and_parts (not (is_among y (take n xs))) (differ (take n xs)) d in
    let names = and_parts (is_c_name y) (list_all is_c_name xs) c in (
      subst (λ m. Away (own_name gs (suc n) y) (pairs_of (own_names gs m xs) ++ rest) (own_origins n vs ++ zero_origins k)) (less n)
          (own_away (own_name gs (suc n) y) gs n xs vs rest k (omega (arith, l)) (shown_away (nat_lt 0 (suc n) && is_among y gs) y gs n (take n xs) names.0 (c_front n xs names.1) (away_among y (take n xs) (flipped (is_among y (take n xs)) both.0)))),
      subst (λ m. OwnDiffer (pairs_of (own_names gs m xs) ++ rest) (own_origins n vs ++ zero_origins k)) (less n) (own_differ gs n xs vs rest k (omega (arith, l)) names.1 both.1),
    )
  where
    less : (n : ℕ) → n ≡ suc n - 1
    less n = omega (arith)

-- the variables of the file
file_away : (x : Name) (gs : List Name) (vs : List Variable) (bases : List Name) (os : List Origin) → length vs ≡ length gs → AwayFrom x gs → Away x bases os
    → Away x (pairs_of gs ++ bases) (file_origins vs ++ os)
file_away x [] [] bases os l a w = w
file_away x [] (v ∷ vs) bases os l a w = absurd (omega (arith, l))
file_away x (g ∷ gs) [] bases os l a w = absurd (omega (arith, l))
file_away x (g ∷ gs) (v ∷ vs) bases os l a w = (a.0, file_away x gs vs bases os (omega (arith, l)) a.1 w)

-- what stands behind them has none of their names
abbrev AllAway : List Name → List Name → List Origin → Type 0
AllAway [] bases os = Unit {0}
AllAway (g ∷ gs) bases os = Away g bases os × AllAway gs bases os

file_differ : (gs : List Name) (vs : List Variable) (bases : List Name) (os : List Origin) → length vs ≡ length gs → differ gs ≡ true → AllAway gs bases os → OwnDiffer bases os
    → OwnDiffer (pairs_of gs ++ bases) (file_origins vs ++ os)
file_differ [] [] bases os l d a w = w
file_differ [] (v ∷ vs) bases os l d a w = absurd (omega (arith, l))
file_differ (g ∷ gs) [] bases os l d a w = absurd (omega (arith, l))
file_differ (g ∷ gs) (v ∷ vs) bases os l d a w =
    let both = and_parts (not (is_among g gs)) (differ gs) d in
    (file_away g gs vs bases os (omega (arith, l)) (away_among g gs (flipped (is_among g gs) both.0)) a.0, file_differ gs vs bases os (omega (arith, l)) both.1 a.1 w)

-- a parameter with the name of a variable of the file has a mark
param_away : (g : Name) (gs : List Name) → is_c_name g ≡ true → is_among g gs ≡ true → (n : ℕ) (k : ℕ) (xs : List Name) → AwayFrom g (own_names gs (n + k) (take n xs))
param_away g gs c i zero k xs = tt
param_away g gs c i (suc n) k [] = tt
param_away g gs c i (suc n) k (x ∷ xs) =
    (by (is_among x gs) refl, subst (λ m. AwayFrom g (own_names gs m (take n xs))) less (param_away g gs c i n k xs))
  where
    less : n + k ≡ suc n + k - 1
    less = omega (arith)

    by : (b : Bool) → is_among x gs ≡ b → g ≡ own_name gs (suc n + k) x → ⊥
    by true e same = no_mark x (subst (λ z. is_c_name z ≡ true) (same ∙ (λ j. shown_as (lt-ltb 0 (suc n + k) (omega (arith)) j && e j) x)) c)
    by false e same = true≢false (sym i ∙ ap (λ z. is_among z gs) (same ∙ ap (λ b. shown_as b x) (off (nat_lt 0 (suc n + k)) (is_among x gs) e)) ∙ e)
      where
        off : (a b : Bool) → b ≡ false → (a && b) ≡ false
        off true b e = e
        off false b e = refl

all_away : (hs gs : List Name) → list_all is_c_name hs ≡ true → ((g : Name) → is_among g hs ≡ true → is_among g gs ≡ true) → (n : ℕ) (xs : List Name) (vs : List Variable) (rest : List Name) (k : ℕ)
    → length vs ≡ length xs → AllAway hs (pairs_of (own_names gs n xs) ++ rest) (own_origins n vs ++ zero_origins k)
all_away [] gs c s n xs vs rest k l = tt
all_away (h ∷ hs) gs c s n xs vs rest k l =
    let both = and_parts (is_c_name h) (list_all is_c_name hs) c in (
      own_away h gs n xs vs rest k l (subst (λ m. AwayFrom h (own_names gs m (take n xs))) same (param_away h gs both.0 (s h (first (is_among h hs))) n 0 xs)),
      all_away hs gs both.1 (λ g i. s g (ap (λ b. bytes_eq g h || b) i ∙ any (bytes_eq g h))) n xs vs rest k l,
    )
  where
    same : n + 0 ≡ n
    same = omega (arith)

    first : (b : Bool) → (bytes_eq h h || b) ≡ true
    first b = ap (λ a. a || b) ((bytes_eq-Decides h h).1 refl)

    any : (b : Bool) → (b || true) ≡ true
    any true = refl
    any false = refl

-- ---- how many there are

pairs_length : (xs : List Name) (vs : List Variable) (rest : List Name) (os : List Origin) → length vs ≡ length xs → length os ≡ length rest
    → length (file_origins vs ++ os) ≡ length (pairs_of xs ++ rest)
pairs_length [] [] rest os l h = h
pairs_length [] (v ∷ vs) rest os l h = absurd (omega (arith, l))
pairs_length (x ∷ xs) [] rest os l h = absurd (omega (arith, l))
pairs_length (x ∷ xs) (v ∷ vs) rest os l h = ap (λ n. suc (suc n)) (pairs_length xs vs rest os (omega (arith, l)) h)

own_length : (gs : List Name) (n : ℕ) (xs : List Name) (vs : List Variable) (rest : List Name) (os : List Origin) → length vs ≡ length xs → length os ≡ length rest
    → length (own_origins n vs ++ os) ≡ length (pairs_of (own_names gs n xs) ++ rest)
own_length gs n [] [] rest os l h = h
own_length gs n [] (v ∷ vs) rest os l h = absurd (omega (arith, l))
own_length gs n (x ∷ xs) [] rest os l h = absurd (omega (arith, l))
own_length gs zero (x ∷ xs) (v ∷ vs) rest os l h = ap (λ n. suc (suc n)) (own_length gs zero xs vs rest os (omega (arith, l)) h)
own_length gs (suc n) (x ∷ xs) (v ∷ vs) rest os l h =
    ap (λ n. suc (suc n)) (subst (λ m. length (own_origins n vs ++ os) ≡ length (pairs_of (own_names gs m xs) ++ rest)) less (own_length gs n xs vs rest os (omega (arith, l)) h))
  where
    less : n ≡ suc n - 1
    less = omega (arith)

behind_length : (k : ℕ) → length (zero_origins (suc (suc k))) ≡ length (behind_variables k)
behind_length k = ap (λ n. suc (suc n)) (each 1 k)
  where
    each : (n k : ℕ) → length (zero_origins k) ≡ length (temporary_names n k)
    each n zero = refl
    each n (suc k) = ap suc (each (suc n) k)

pub bases_fit : BasesFit
bases_fit gs n xs k h le vs ws l m =
    let both = and_parts (list_all is_c_name gs && list_all is_c_name xs) (differ gs && differ (take n xs)) h in
    let names = and_parts (list_all is_c_name gs) (list_all is_c_name xs) both.0 in
    let apart = and_parts (differ gs) (differ (take n xs)) both.1 in
    let good = good_slots gs n xs k names.0 names.1 in
    record {
      names = good_names (slot_bases gs n xs k) good;
      bases = good_bases (slot_bases gs n xs k) good;
      differ = file_differ gs vs (pairs_of (own_names gs n xs) ++ behind_variables k) (own_origins n ws ++ zero_origins (suc (suc k))) l apart.0
          (all_away gs gs names.0 (λ g i. i) n xs ws (behind_variables k) (suc (suc k)) m) (own_differ gs n xs ws (behind_variables k) (suc (suc k)) m names.1 apart.1);
      size = pairs_length gs vs (pairs_of (own_names gs n xs) ++ behind_variables k) (own_origins n ws ++ zero_origins (suc (suc k))) l
          (own_length gs n xs ws (behind_variables k) (zero_origins (suc (suc k))) m (behind_length k));
    }
