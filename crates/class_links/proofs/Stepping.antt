-- Sums over parts, one part after the other.
use Rattle.std.proofs.Common.{◌≡◌, ℕ, zero, suc, ◌+◌, ◌<◌, ◌≤◌, List, [], ◌∷◌, length, get_or, drop, refl, ◌∙◌, ap, arith}
use Rattle.std.specs.Prelude.{ℤ, pos, ◌+ℤ◌, Option}
use Rattle.std.proofs.lemmas.Int.{ints}
use Rattle.same_places.specs.Same.{Part}
use Rattle.class_links.specs.ClassForms.{number_part, numbers_of, part_at, times_of}

drop_item : (ps : List Part) (i : ℕ) (d : Part) → i < length ps → drop i ps ≡ get_or ps i d ∷ drop (i + 1) ps
drop_item ps i d l = let m : suc i ≡ i + 1 = omega arith in go ps i l ∙ ap (λ n. get_or ps i d ∷ drop n ps) m
  where
    go : (ps : List Part) (i : ℕ) → i < length ps → drop i ps ≡ get_or ps i d ∷ drop (suc i) ps
    go [] i l = absurd (omega arith)
    go (p ∷ ps) zero l = refl
    go (p ∷ ps) (suc i) l = go ps i (omega arith)

none_left : (ps : List Part) (i : ℕ) → length ps ≤ i → drop i ps ≡ []
none_left [] zero l = refl
none_left [] (suc i) l = refl
none_left (p ∷ ps) zero l = absurd (omega arith)
none_left (p ∷ ps) (suc i) l = none_left ps i (omega arith)

step : (s s' x rest old whole : ℤ) → old ≡ x +ℤ rest → s' ≡ s +ℤ x → s +ℤ old ≡ whole → s' +ℤ rest ≡ whole
step s s' x rest old whole d e f = omega (arith, ints)

all : (s old whole : ℤ) → old ≡ pos 0 → s +ℤ old ≡ whole → s ≡ whole
all s old whole d f = omega (arith, ints)

module _ (class : ℕ → ℕ) (look : ℕ → Option ℤ) (ps : List Part) (i : ℕ) (s : ℤ) where
  pub numbers_next : (s' whole : ℤ) → i < length ps → s' ≡ s +ℤ number_part (look (class ((get_or ps i (0, pos 0)).0))) ((get_or ps i (0, pos 0)).1) → s +ℤ numbers_of class look (drop i ps) ≡ whole → s' +ℤ numbers_of class look (drop (i + 1) ps) ≡ whole
  numbers_next s' whole l e f =
      let p = get_or ps i (0, pos 0) in
      step s s' (number_part (look (class (p.0))) (p.1)) (numbers_of class look (drop (i + 1) ps)) (numbers_of class look (drop i ps)) whole (ap (numbers_of class look) (drop_item ps i (0, pos 0) l)) e f

  pub numbers_all : (whole : ℤ) → length ps ≤ i → s +ℤ numbers_of class look (drop i ps) ≡ whole → s ≡ whole
  numbers_all whole l f = all s (numbers_of class look (drop i ps)) whole (ap (numbers_of class look) (none_left ps i l)) f

  pub times_next : (c : ℕ) (s' whole : ℤ) → i < length ps → s' ≡ s +ℤ part_at class look (get_or ps i (0, pos 0)) c → s +ℤ times_of class look (drop i ps) c ≡ whole → s' +ℤ times_of class look (drop (i + 1) ps) c ≡ whole
  times_next c s' whole l e f =
      let p = get_or ps i (0, pos 0) in
      step s s' (part_at class look p c) (times_of class look (drop (i + 1) ps) c) (times_of class look (drop i ps) c) whole (ap (λ qs. times_of class look qs c) (drop_item ps i (0, pos 0) l)) e f

  pub times_all : (c : ℕ) (whole : ℤ) → length ps ≤ i → s +ℤ times_of class look (drop i ps) c ≡ whole → s ≡ whole
  times_all c whole l f = all s (times_of class look (drop i ps) c) whole (ap (λ qs. times_of class look qs c) (none_left ps i l)) f

pub starts_at : (s whole : ℤ) → s ≡ pos 0 → s +ℤ whole ≡ whole
starts_at s whole e = omega (arith, ints)
