-- Parts at the front of a text: what is read stands there, and what stands there is read.
use Rattle.std.proofs.Common.{◌≡◌, ℕ, suc, ◌+◌, ◌<◌, ◌≤◌, ◌^◌, eqb, nat_lt, Bool, true, false, not, cond, ◌||◌, ◌&&◌, List, [], ◌∷◌, ◌++◌, length, codes, Option, Some, None, refl, sym, ap, ◌∙◌, subst, arith, eqb-true, eq-eqb, take, drop, get_or, append_assoc, append-nil}
use Rattle.std.proofs.lemmas.List.{drop_all, drop_more, take_more}
use Rattle.std.specs.Prelude.{option_map}
use Rattle.std.specs.List.{list_all}
use Rattle.std.specs.Str.Parse.{AllDigits}
use Rattle.std.specs.Fmt.{decimal}
use Rattle.std.proofs.lemmas.Bool.{false≢true}
use Rattle.std.proofs.lemmas.Bool.Decides.{nat_tests}
use Rattle.std.proofs.lemmas.Str.Parse.{digit_from_value}
use Rattle.goal_words.specs.Bytes.{◌>>=◌, with_rest}
use Rattle.goal_words.specs.Numbers.{count}
use Rattle.goal_words.proofs.Front.{then_some, parts, with_rest_is}
use Rattle.goal_words.proofs.Numerals.{both_true, count_is, count_text, below_32, numeral}
use Rattle.report_read.specs.Bytes.{after, stops, pushed, nothing_before, until, is_free_of}
use Rattle.report_read.specs.Report.{is_number}
use Rattle.report_read.specs.Read.{number_until}

-- ---- the first bytes

pub after_is : (first bytes rest : List ℕ) → after first bytes ≡ Some rest → bytes ≡ first ++ rest
after_is [] bytes rest h = cc
after_is (p ∷ ps) [] rest h = absurd cc
after_is (p ∷ ps) (b ∷ bytes) rest h = by (eqb b p) refl (after_is ps bytes rest) h
  where
    by : (t : Bool) → eqb b p ≡ t → (after ps bytes ≡ Some rest → bytes ≡ ps ++ rest) → cond t (after ps bytes) None ≡ Some rest → b ∷ bytes ≡ p ∷ (ps ++ rest)
    by true e more k = let same = eqb-true b p e in λ j. same j ∷ more k j
    by false e more k = absurd cc

pub after_of : (first rest : List ℕ) → after first (first ++ rest) ≡ Some rest
after_of [] rest = refl
after_of (p ∷ ps) rest = rw (eq-eqb p p refl) (after_of ps rest)

-- ---- up to a byte

push_is : (b : ℕ) (o : Option (List ℕ × List ℕ)) (part rest : List ℕ) → option_map (pushed b) o ≡ Some (part, rest) → (front : List ℕ) × (o ≡ Some (front, rest)) × (part ≡ b ∷ front)
push_is b None part rest h = absurd cc
push_is b (Some p) part rest h =
    let same = parts (b ∷ p.0) part p.1 rest h in
    let found : List ℕ → Option (List ℕ × List ℕ) = λ r. Some (p.0, r) in
    (p.0, ap found same.1, sym same.0)

none_stops : (end b : ℕ) → eqb b end ≡ false → eqb b 10 ≡ false → not (stops end b) ≡ true
none_stops end b e n = rw (e, n)

pub until_is : (end : ℕ) (bytes part rest : List ℕ) → until end bytes ≡ Some (part, rest) → (bytes ≡ part ++ end ∷ rest) × (is_free_of end part ≡ true)
unfolding until
until_is end [] part rest h = absurd cc
until_is end (b ∷ bytes) part rest h = by (eqb b end) (eqb b 10) refl refl (until_is end bytes) h
  where
    by : (x y : Bool) → eqb b end ≡ x → eqb b 10 ≡ y → ((part rest : List ℕ) → until end bytes ≡ Some (part, rest) → (bytes ≡ part ++ end ∷ rest) × (is_free_of end part ≡ true)) → cond x (nothing_before bytes) (cond y None (option_map (pushed b) (until end bytes))) ≡ Some (part, rest)
        → (b ∷ bytes ≡ part ++ end ∷ rest) × (is_free_of end part ≡ true)
    by true y e n more k =
        let same = parts [] part bytes rest k in
        let head = eqb-true b end e in
        (subst (λ (p : List ℕ). b ∷ bytes ≡ p ++ end ∷ rest) same.0 (λ j. head j ∷ same.1 j), ap (is_free_of end) (sym same.0))
    by false true e n more k = absurd cc
    by false false e n more k =
        let p = push_is b (until end bytes) part rest k in
        let m = more p.0 rest p.1 in (
          ap (λ bs. b ∷ bs) m.0 ∙ ap (λ (q : List ℕ). q ++ end ∷ rest) (sym p.2),
          ap (is_free_of end) p.2 ∙ (λ j. none_stops end b e n j && m.1 j),
        )

pub until_of : (end : ℕ) (part rest : List ℕ) → is_free_of end part ≡ true → until end (part ++ end ∷ rest) ≡ Some (part, rest)
unfolding until
until_of end [] rest h = rw (eq-eqb end end refl)
until_of end (b ∷ part) rest h = by (eqb b end) (eqb b 10) refl refl (until_of end part rest) (both_true (not (stops end b)) (is_free_of end part) h)
  where
    by : (x y : Bool) → eqb b end ≡ x → eqb b 10 ≡ y → (is_free_of end part ≡ true → until end (part ++ end ∷ rest) ≡ Some (part, rest)) → (not (stops end b) ≡ true) × (is_free_of end part ≡ true)
        → cond x (nothing_before (part ++ end ∷ rest)) (cond y None (option_map (pushed b) (until end (part ++ end ∷ rest)))) ≡ Some (b ∷ part, rest)
    by true y e n more k = absurd (false≢true (ap (λ t. not (t || eqb b 10)) (sym e) ∙ k.0))
    by false true e n more k = absurd (false≢true ((λ j. not (sym e j || sym n j)) ∙ k.0))
    by false false e n more k = ap (option_map (pushed b)) (more k.1)

-- ---- numbers

-- no digit ends a part
abbrev pub IsNoDigit : ℕ → Type 0
IsNoDigit end = (c : ℕ) → 48 ≤ c → c ≤ 57 → eqb c end ≡ false

no_digit : (end c : ℕ) → IsNoDigit end → 48 ≤ c → c ≤ 57 → not (stops end c) ≡ true
no_digit end c other low high = none_stops end c (other c low high) (let ten : eqb c 10 ≡ false = grind (arith, nat_tests) in ten)

free_digits : (end : ℕ) (ds : List ℕ) → IsNoDigit end → AllDigits 10 ds → is_free_of end ds ≡ true
free_digits end [] other h = refl
free_digits end (b ∷ ds) other h =
    let r = digit_from_value b h.0 in
    let one = no_digit end b other (omega (arith, r)) (omega (arith, r)) in
    let more = free_digits end ds other h.1 in
    λ j. one j && more j

pub at_newline : IsNoDigit 10
at_newline c low high = grind (arith, nat_tests)

pub at_space : IsNoDigit 32
at_space c low high = grind (arith, nat_tests)

pub at_colon : IsNoDigit 58
at_colon c low high = grind (arith, nat_tests)

free_number : (end n : ℕ) → IsNoDigit end → is_number n ≡ true → is_free_of end (decimal n) ≡ true
free_number end n other h = let small = below_32 n h in free_digits end (decimal n) other (numeral n (omega arith)).0.1

pub number_until_is : (end : ℕ) (bytes : List ℕ) (n : ℕ) (rest : List ℕ) → number_until end bytes ≡ Some (n, rest) → (bytes ≡ decimal n ++ end ∷ rest) × (is_number n ≡ true)
number_until_is end bytes n rest h =
    let found : ℕ × List ℕ = (n, rest) in
    let p = then_some (until end bytes) (λ p. with_rest p.1 (count p.0)) found h in
    let u = until_is end bytes p.0.0 p.0.1 p.1 in
    let w = with_rest_is p.0.1 (count p.0.0) n rest p.2 in
    let c = count_is p.0.0 n w.0 in
    (u.0 ∙ (λ j. sym c.0 j ++ end ∷ w.1 j), c.1)

pub number_until_of : (end n : ℕ) (rest : List ℕ) → IsNoDigit end → is_number n ≡ true → number_until end (decimal n ++ end ∷ rest) ≡ Some (n, rest)
number_until_of end n rest other h = rw (until_of end (decimal n) rest (free_number end n other h), count_text n h)

-- ---- a loop over the bytes

-- with these bytes before what is read
abbrev pub behind_front : List ℕ → Option (List ℕ × List ℕ) → Option (List ℕ × List ℕ)
behind_front front None = None
behind_front front (Some p) = Some (front ++ p.0, p.1)

behind_one_more : (front : List ℕ) (b : ℕ) (o : Option (List ℕ × List ℕ)) → behind_front (front ++ b ∷ []) o ≡ behind_front front (option_map (pushed b) o)
behind_one_more front b None = refl
behind_one_more front b (Some p) = let found : List ℕ → Option (List ℕ × List ℕ) = λ f. Some (f, p.1) in ap found (append_assoc front (b ∷ []) p.0)

other : (x y : ℕ) → (x ≡ y → ⊥) → eqb x y ≡ false
other x y n = by (eqb x y) refl
  where
    by : (t : Bool) → eqb x y ≡ t → t ≡ false
    by true e = absurd (n (eqb-true x y e))
    by false e = refl

until_passes : (end b : ℕ) (bytes : List ℕ) → (b ≡ end → ⊥) → (b ≡ 10 → ⊥) → until end (b ∷ bytes) ≡ option_map (pushed b) (until end bytes)
unfolding until
until_passes end b bytes e n = rw (other b end e, other b 10 n)

until_ends : (end b : ℕ) (bytes : List ℕ) → b ≡ end → until end (b ∷ bytes) ≡ nothing_before bytes
unfolding until
until_ends end b bytes e = rw (eq-eqb b end e)

until_breaks : (end b : ℕ) (bytes : List ℕ) → (b ≡ end → ⊥) → b ≡ 10 → until end (b ∷ bytes) ≡ None
unfolding until
until_breaks end b bytes e n = rw (other b end e, eq-eqb b 10 n)

pub until_begins : (end : ℕ) (bytes : List ℕ) → behind_front (take 0 bytes) (until end (drop 0 bytes)) ≡ until end bytes
until_begins end bytes = by (until end bytes)
  where
    by : (o : Option (List ℕ × List ℕ)) → behind_front [] o ≡ o
    by None = refl
    by (Some p) = refl

pub until_more : (end at : ℕ) (bytes : List ℕ) (whole : Option (List ℕ × List ℕ)) → at < length bytes → (get_or bytes at 0 ≡ end → ⊥) → (get_or bytes at 0 ≡ 10 → ⊥)
    → behind_front (take at bytes) (until end (drop at bytes)) ≡ whole → behind_front (take (at + 1) bytes) (until end (drop (at + 1) bytes)) ≡ whole
until_more end at bytes whole l e n h =
    let b = get_or bytes at 0 in
    ap (λ f. behind_front f (until end (drop (at + 1) bytes))) (take_more bytes at 0 l) ∙ behind_one_more (take at bytes) b (until end (drop (at + 1) bytes))
    ∙ ap (behind_front (take at bytes)) (sym (until_passes end b (drop (at + 1) bytes) e n) ∙ ap (until end) (sym (drop_more bytes at 0 l))) ∙ h

pub until_found : (end at : ℕ) (bytes : List ℕ) (whole : Option (List ℕ × List ℕ)) → at < length bytes → get_or bytes at 0 ≡ end
    → behind_front (take at bytes) (until end (drop at bytes)) ≡ whole → whole ≡ Some (take at bytes, drop (at + 1) bytes)
until_found end at bytes whole l e h =
    let found : List ℕ → Option (List ℕ × List ℕ) = λ f. Some (f, drop (at + 1) bytes) in
    sym h ∙ ap (λ t. behind_front (take at bytes) (until end t)) (drop_more bytes at 0 l) ∙ ap (behind_front (take at bytes)) (until_ends end (get_or bytes at 0) (drop (at + 1) bytes) e)
    ∙ ap found (append-nil (take at bytes))

pub until_broken : (end at : ℕ) (bytes : List ℕ) (whole : Option (List ℕ × List ℕ)) → at < length bytes → (get_or bytes at 0 ≡ end → ⊥) → get_or bytes at 0 ≡ 10
    → behind_front (take at bytes) (until end (drop at bytes)) ≡ whole → whole ≡ None
until_broken end at bytes whole l e n h =
    sym h ∙ ap (λ t. behind_front (take at bytes) (until end t)) (drop_more bytes at 0 l) ∙ ap (behind_front (take at bytes)) (until_breaks end (get_or bytes at 0) (drop (at + 1) bytes) e n)

pub until_over : (end at : ℕ) (bytes : List ℕ) (whole : Option (List ℕ × List ℕ)) → length bytes ≤ at → behind_front (take at bytes) (until end (drop at bytes)) ≡ whole → whole ≡ None
unfolding until
until_over end at bytes whole l h = sym h ∙ ap (λ t. behind_front (take at bytes) (until end t)) (drop_all at bytes l)
