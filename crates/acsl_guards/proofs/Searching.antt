-- A term that passes a test, looked for with a list of what is still to be looked at.
use Rattle.std.proofs.Common.{◌≡◌, ℕ, ◌+◌, ◌<◌, Bool, true, false, ◌||◌, List, [], ◌∷◌, ◌++◌, refl, ap, ◌∙◌, arith}
use Rattle.std.specs.List.{list_any}
use Rattle.std.specs.Borrow.{Bor}
use Rattle.c_syntax.specs.declared.annot.Term.{Term}
use Rattle.c_syntax.specs.Term as t
use Rattle.c_syntax.specs.View.{view_term}
use Rattle.acsl_guards.specs.Mentions.{calls, is_call, some_part, some_part_of}
use Rattle.acsl_guards.specs.Parts.{pointed, terms_in, term_parts}
use Rattle.acsl_guards.proofs.Turning.{ended, less, on, one_left, or_none, total}

-- ---- a term by what it holds

args_so : (q : t.Term → Bool) (args : t.Terms) → some_part_of q args ≡ list_any (some_part q) (t.list_of args)
args_so q t.stop = refl
args_so q (t.more a rest) = ap (λ b. some_part q a || b) (args_so q rest)

pub so_by_parts : (q : t.Term → Bool) (a : t.Term) → some_part q a ≡ q a || list_any (some_part q) (term_parts a)
unfolding term_parts
so_by_parts q (t.number line token) = or_none (q (t.number line token))
so_by_parts q (t.char line z) = or_none (q (t.char line z))
so_by_parts q (t.name line x) = or_none (q (t.name line x))
so_by_parts q (t.unary line o a) = ap (λ b. q (t.unary line o a) || b) (or_none (some_part q a))
so_by_parts q (t.binary line o a b) = ap (λ c. q (t.binary line o a b) || (some_part q a || c)) (or_none (some_part q b))
so_by_parts q (t.cond line test a b) = ap (λ c. q (t.cond line test a b) || (some_part q test || (some_part q a || c))) (or_none (some_part q b))
so_by_parts q (t.call line f args) = ap (λ b. q (t.call line f args) || b) (args_so q args)
so_by_parts q (t.index line a b) = ap (λ c. q (t.index line a b) || (some_part q a || c)) (or_none (some_part q b))
so_by_parts q (t.field line a f arrow) = ap (λ b. q (t.field line a f arrow) || b) (or_none (some_part q a))
so_by_parts q (t.cast line type a) = ap (λ b. q (t.cast line type a) || b) (or_none (some_part q a))
so_by_parts q (t.result line) = or_none (q (t.result line))
so_by_parts q (t.old line a) = ap (λ b. q (t.old line a) || b) (or_none (some_part q a))
so_by_parts q (t.at_label line a label) = ap (λ b. q (t.at_label line a label) || b) (or_none (some_part q a))
so_by_parts q (t.null line) = or_none (q (t.null line))
so_by_parts q (t.range line a b) = ap (λ c. q (t.range line a b) || (some_part q a || c)) (or_none (some_part q b))

-- ---- how much is left

abbrev mutual
  pub weight : t.Term → ℕ
  weight (t.number line token) = 1
  weight (t.char line z) = 1
  weight (t.name line x) = 1
  weight (t.unary line o a) = 1 + weight a
  weight (t.binary line o a b) = 1 + (weight a + weight b)
  weight (t.cond line test a b) = 1 + (weight test + (weight a + weight b))
  weight (t.call line f args) = 1 + weight_of args
  weight (t.index line a b) = 1 + (weight a + weight b)
  weight (t.field line a f arrow) = 1 + weight a
  weight (t.cast line type a) = 1 + weight a
  weight (t.result line) = 1
  weight (t.old line a) = 1 + weight a
  weight (t.at_label line a label) = 1 + weight a
  weight (t.null line) = 1
  weight (t.range line a b) = 1 + (weight a + weight b)

  pub weight_of : t.Terms → ℕ
  weight_of t.stop = 0
  weight_of (t.more a rest) = weight a + weight_of rest

args_weigh : (args : t.Terms) → total weight (t.list_of args) ≡ weight_of args
args_weigh t.stop = refl
args_weigh (t.more a rest) = ap (λ n. weight a + n) (args_weigh rest)

pub parts_weigh : (a : t.Term) → total weight (term_parts a) < weight a
unfolding term_parts
parts_weigh (t.number line token) = omega arith
parts_weigh (t.char line z) = omega arith
parts_weigh (t.name line x) = omega arith
parts_weigh (t.unary line o a) = omega arith
parts_weigh (t.binary line o a b) = omega arith
parts_weigh (t.cond line test a b) = omega arith
parts_weigh (t.call line f args) = omega (arith, args_weigh args)
parts_weigh (t.index line a b) = omega arith
parts_weigh (t.field line a f arrow) = omega arith
parts_weigh (t.cast line type a) = omega arith
parts_weigh (t.result line) = omega arith
parts_weigh (t.old line a) = omega arith
parts_weigh (t.at_label line a label) = omega arith
parts_weigh (t.null line) = omega arith
parts_weigh (t.range line a b) = omega arith

abbrev pub left_weight : List (Bor Term) → ℕ
left_weight l = total weight (terms_in l)

-- ---- one turn: a term was taken from the end, and those that it holds put there

module _ (l l' l'' : List (Bor Term)) (a : Bor Term) where
  pub lighter : l ≡ l' ++ a ∷ [] → terms_in l'' ≡ terms_in l' ++ term_parts (view_term a.now) → left_weight l'' < left_weight l
  lighter taken put = less view_term l l' l'' a taken weight term_parts parts_weigh put

  pub turn : (q : t.Term → Bool) (whole : Bool) → l ≡ l' ++ a ∷ [] → q (view_term a.now) ≡ false → terms_in l'' ≡ terms_in l' ++ term_parts (view_term a.now)
      → list_any (some_part q) (terms_in l) ≡ whole → list_any (some_part q) (terms_in l'') ≡ whole
  turn q whole taken not_it put sofar = on view_term l l' l'' a taken q (some_part q) term_parts (so_by_parts q) whole not_it put sofar

  pub found : (q : t.Term → Bool) (whole : Bool) → l ≡ l' ++ a ∷ [] → q (view_term a.now) ≡ true → list_any (some_part q) (terms_in l) ≡ whole → true ≡ whole
  found q whole taken is_it sofar = ended view_term l l' l'' a taken q (some_part q) term_parts (so_by_parts q) whole is_it sofar

-- before the first turn
pub begun : (l l' : List (Bor Term)) (a : Term) (q : t.Term → Bool) → l ≡ [] → pointed l' ≡ pointed l ++ a ∷ [] → list_any (some_part q) (terms_in l') ≡ some_part q (view_term a)
begun l l' a q none put = one_left view_term l l' a (some_part q) none put

pub alone : (l l' : List (Bor Term)) (a : Term) (f : List ℕ) (b : Bool) → l ≡ [] → pointed l' ≡ pointed l ++ a ∷ [] → b ≡ list_any (calls f) (terms_in l') → b ≡ calls f (view_term a)
alone l l' a f b none put is = is ∙ begun l l' a (is_call f) none put

pub ruleset turns = (lighter, turn, found, begun)
