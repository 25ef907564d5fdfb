-- Formulas that are closed and say what they are to say, one by one and several at once.
use Rattle.std.proofs.Common.{◌≡◌, Bool, true, false, not, ◌&&◌, ◌||◌, List, [], ◌∷◌, ◌++◌, map, refl, sym, ap, ◌∙◌}
use Rattle.std.specs.List.{list_all, list_any}
use Rattle.std.proofs.lemmas.Bool.{and_parts}
use Rattle.qed_terms.specs.Meaning as sense
use Rattle.qed_terms.specs.Meaning.{Values, each_true, some_true, meanings, truth, is_so}
use Rattle.qed_terms.specs.Tree.{Tree, trees_of}
use Rattle.acsl_encode.specs.Encode.{all_of}
use Rattle.memory_steps.specs.State.{State}
use Rattle.memory_words.specs.Leaves.{is_closed, closed, leaves_of}
use Rattle.memory_words.proofs.Valued.{closed_told}
use Rattle.memory_words.specs.Regions.{any_of}
use Rattle.memory_words.specs.Sets.{under, as_one, as_one_unless}
use Rattle.memory_words.specs.Placed.{all_told}
use Rattle.memory_calls.proofs.Clauses.{any_closed}
use Rattle.memory_calls.proofs.Formulas.{all_closed}
use Rattle.memory_calls.specs.CallSets.{only_under}

pub and_so : (b : Bool) → (b && true) ≡ b
and_so true = refl
and_so false = refl

pub all_append : {X : Type 0} (f : X → Bool) (xs ys : List X) → list_all f (xs ++ ys) ≡ (list_all f xs && list_all f ys)
all_append f [] ys = refl
all_append f (x ∷ xs) ys = ap (λ b. f x && b) (all_append f xs ys) ∙ grouped (f x) (list_all f xs) (list_all f ys) where
  grouped : (a b c : Bool) → (a && (b && c)) ≡ ((a && b) && c)
  grouped true b c = refl
  grouped false b c = refl

pub any_append : {X : Type 0} (f : X → Bool) (xs ys : List X) → list_any f (xs ++ ys) ≡ (list_any f xs || list_any f ys)
any_append f [] ys = refl
any_append f (x ∷ xs) ys = ap (λ b. f x || b) (any_append f xs ys) ∙ grouped (f x) (list_any f xs) (list_any f ys) where
  grouped : (a b c : Bool) → (a || (b || c)) ≡ ((a || b) || c)
  grouped true b c = refl
  grouped false b c = refl

module _ (m : sense.World) (env : Values) where
  each_so : (fs : List Tree) → each_true (map is_so (meanings m env (trees_of fs))) ≡ list_all (truth m env) fs
  each_so [] = refl
  each_so (f ∷ fs) = ap (λ b. truth m env f && b) (each_so fs)

  some_so : (fs : List Tree) → some_true (map is_so (meanings m env (trees_of fs))) ≡ list_any (truth m env) fs
  some_so [] = refl
  some_so (f ∷ fs) = ap (λ b. truth m env f || b) (some_so fs)

  or_none : (b : Bool) → b ≡ (b || false)
  or_none true = refl
  or_none false = refl

  all_so : (fs : List Tree) → truth m env (all_of fs) ≡ list_all (truth m env) fs
  all_so [] = refl
  all_so (f ∷ []) = sym (and_so (truth m env f))
  all_so (f ∷ g ∷ fs) = each_so (f ∷ g ∷ fs)

  any_so : (fs : List Tree) → truth m env (any_of fs) ≡ list_any (truth m env) fs
  any_so [] = refl
  any_so (f ∷ []) = or_none (truth m env f)
  any_so (f ∷ g ∷ fs) = some_so (f ∷ g ∷ fs)

module _ (m : sense.World) (sts : List State) where
  abbrev env : Values
  env = leaves_of sts

  pub record Tells (f : Tree) (b : Bool) : Type 0 where
    pub closed_so : is_closed [] f ≡ true
    pub true_so : truth m env f ≡ b

  pub told_so : (f : Tree) (b : Bool) → Tells f b → truth m env (closed f) ≡ b
  told_so f b h = closed_told m sts f h.closed_so ∙ h.true_so

  pub tells_as : (f : Tree) (a b : Bool) → a ≡ b → Tells f a → Tells f b
  tells_as f a b e h = record { closed_so = h.closed_so; true_so = h.true_so ∙ e }

  pub under_tells : (plain : Bool) (a f : Tree) (x y : Bool) → Tells a x → Tells f y → (plain ≡ true → x ≡ true) → Tells (under plain a f) (not x || y)
  under_tells true a f x y h k so = record { closed_so = k.closed_so; true_so = k.true_so ∙ ap (λ x. not x || y) (sym (so refl)) }
  under_tells false a f x y h k so = record {
    closed_so = (λ i. h.closed_so i && (k.closed_so i && true));
    true_so = (λ i. not (h.true_so i) || k.true_so i);
  }

  pub only_tells : (plain : Bool) (a f : Tree) (x y : Bool) → Tells a x → Tells f y → (plain ≡ true → x ≡ true) → Tells (only_under plain a f) (x && y)
  only_tells true a f x y h k so = record { closed_so = k.closed_so; true_so = k.true_so ∙ ap (λ x. x && y) (sym (so refl)) }
  only_tells false a f x y h k so = record {
    closed_so = (λ i. h.closed_so i && (k.closed_so i && true));
    true_so = (λ i. h.true_so i && (k.true_so i && true)) ∙ ap (λ z. x && z) (and_so y);
  }

  -- ---- all of several

  pub record AllTell (fs : List Tree) (b : Bool) : Type 0 where
    pub closed_so : list_all (is_closed []) fs ≡ true
    pub true_so : list_all (truth m env) fs ≡ b

  pub none_tell : AllTell [] true
  none_tell = record { closed_so = refl; true_so = refl }

  pub more_tell : (f : Tree) (fs : List Tree) (a b : Bool) → Tells f a → AllTell fs b → AllTell (f ∷ fs) (a && b)
  more_tell f fs a b h k = record { closed_so = (λ i. h.closed_so i && k.closed_so i); true_so = (λ i. h.true_so i && k.true_so i) }

  pub both_tell : (fs gs : List Tree) (a b : Bool) → AllTell fs a → AllTell gs b → AllTell (fs ++ gs) (a && b)
  both_tell fs gs a b h k = record {
    closed_so = all_append (is_closed []) fs gs ∙ (λ i. h.closed_so i && k.closed_so i);
    true_so = all_append (truth m env) fs gs ∙ (λ i. h.true_so i && k.true_so i);
  }

  pub all_as : (fs : List Tree) (a b : Bool) → a ≡ b → AllTell fs a → AllTell fs b
  all_as fs a b e h = record { closed_so = h.closed_so; true_so = h.true_so ∙ e }

  pub all_tell : (fs : List Tree) (b : Bool) → AllTell fs b → Tells (all_of fs) b
  all_tell fs b h = record { closed_so = all_closed fs h.closed_so; true_so = all_so m env fs ∙ h.true_so }

  each : (fs : List Tree) → list_all (is_closed []) fs ≡ true → all_told m sts fs ≡ list_all (truth m env) fs
  each [] h = refl
  each (f ∷ fs) h = let both = and_parts (is_closed [] f) (list_all (is_closed []) fs) h in λ i. (closed_told m sts f both.0 i) && (each fs both.1 i)

  pub they_tell : (fs : List Tree) (b : Bool) → AllTell fs b → all_told m sts fs ≡ b
  they_tell fs b h = each fs h.closed_so ∙ h.true_so

  pub one_tells : (f : Tree) (b : Bool) → Tells f b → all_told m sts (f ∷ []) ≡ b
  one_tells f b h = and_so (truth m env (closed f)) ∙ told_so f b h

  -- asked as one
  pub as_one_tells : (fs : List Tree) (b : Bool) → AllTell fs b → all_told m sts (as_one fs) ≡ b
  as_one_tells [] b h = h.true_so
  as_one_tells (f ∷ fs) b h = one_tells (all_of (f ∷ fs)) b (all_tell (f ∷ fs) b h)

  pub unless_tells : (refused : Bool) (fs : List Tree) (b : Bool) → (refused ≡ true → list_all (truth m env) fs ≡ false) → AllTell fs b → all_told m sts (as_one_unless refused fs) ≡ b
  unless_tells true fs b none h = sym (none refl) ∙ h.true_so
  unless_tells false fs b none h = as_one_tells fs b h

  -- ---- one of several

  pub record AnyTells (fs : List Tree) (b : Bool) : Type 0 where
    pub closed_so : list_all (is_closed []) fs ≡ true
    pub true_so : list_any (truth m env) fs ≡ b

  pub no_tells : AnyTells [] false
  no_tells = record { closed_so = refl; true_so = refl }

  pub first_tells : (f : Tree) (b : Bool) → Tells f b → AnyTells (f ∷ []) b
  first_tells f b h = record { closed_so = ap (λ x. x && true) h.closed_so; true_so = or_so (truth m env f) ∙ h.true_so } where
    or_so : (b : Bool) → (b || false) ≡ b
    or_so true = refl
    or_so false = refl

  pub either_tells : (fs gs : List Tree) (a b : Bool) → AnyTells fs a → AnyTells gs b → AnyTells (fs ++ gs) (a || b)
  either_tells fs gs a b h k = record {
    closed_so = all_append (is_closed []) fs gs ∙ (λ i. h.closed_so i && k.closed_so i);
    true_so = any_append (truth m env) fs gs ∙ (λ i. h.true_so i || k.true_so i);
  }

  pub any_tells : (fs : List Tree) (b : Bool) → AnyTells fs b → Tells (any_of fs) b
  any_tells fs b h = record { closed_so = any_closed fs h.closed_so; true_so = any_so m env fs ∙ h.true_so }
