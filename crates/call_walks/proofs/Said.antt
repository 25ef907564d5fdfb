-- Closed formulas over leaves, and what is written of them in a state.
use Rattle.std.proofs.Common.{◌≡◌, ℕ, Bool, true, false, ◌&&◌, ℤ, pos, List, [], ◌∷◌, ◌++◌, map, Option, Some, None, refl, sym, ap, ◌∙◌}
use Rattle.std.specs.List.{list_all}
use Rattle.qed_terms.specs.declared.head.Head.TheVariants as h
use Rattle.qed_terms.specs.Tree.{Tree, Trees, node, stop, more, trees_of, num, true_tree, false_tree, at_most, less, equal, and_of, or_of, imp_of}
use Rattle.walk_steps.specs.Forms.{Slots}
use Rattle.acsl_encode.specs.Encode.{all_of}
use Rattle.program_steps.specs.Leaves.{fill, fill_all, is_closed, are_closed}
use Rattle.program_steps.specs.Words.{as_one, as_one_unless, under}
use Rattle.program_steps.specs.Functions.{any_of}
use Rattle.call_words.specs.Sets.{truth_tree, only_under}
use Rattle.walk_frames.specs.Asked.{AreClosed}
use Rattle.call_walks.specs.Claimed.{joined}

-- the formula is closed, and this is written of it
pub record IsSaid (ss : List Slots) (t u : Tree) : Type 0 where
  pub closed : is_closed [] t ≡ true
  pub filled : fill ss t ≡ u

pub data AreSaid (ss : List Slots) : List Tree → List Tree → Type 0 where
  none : AreSaid ss [] []
  some : {t u : Tree} {ts us : List Tree} (first : IsSaid ss t u) (rest : AreSaid ss ts us) → AreSaid ss (t ∷ ts) (u ∷ us)

module _ {ss : List Slots} where
  -- ---- formulas

  pub number_said : (z : ℤ) → IsSaid ss (num z) (num z)
  number_said z = record { closed = refl; filled = refl }

  pub false_said : IsSaid ss false_tree false_tree
  false_said = record { closed = refl; filled = refl }

  pub imp_said : {f g t u : Tree} → IsSaid ss f g → IsSaid ss t u → IsSaid ss (imp_of f t) (imp_of g u)
  imp_said a b = record { closed = λ i. a.closed i && (b.closed i && true); filled = λ i. imp_of (a.filled i) (b.filled i) }

  pub at_most_said : {f g t u : Tree} → IsSaid ss f g → IsSaid ss t u → IsSaid ss (at_most f t) (at_most g u)
  at_most_said a b = record { closed = λ i. a.closed i && (b.closed i && true); filled = λ i. at_most (a.filled i) (b.filled i) }

  pub less_said : {f g t u : Tree} → IsSaid ss f g → IsSaid ss t u → IsSaid ss (less f t) (less g u)
  less_said a b = record { closed = λ i. a.closed i && (b.closed i && true); filled = λ i. less (a.filled i) (b.filled i) }

  pub equal_said : {f g t u : Tree} → IsSaid ss f g → IsSaid ss t u → IsSaid ss (equal f t) (equal g u)
  equal_said a b = record { closed = λ i. a.closed i && (b.closed i && true); filled = λ i. equal (a.filled i) (b.filled i) }

  pub both_said : {f g t u : Tree} → IsSaid ss f g → IsSaid ss t u → IsSaid ss (and_of (f ∷ t ∷ [])) (and_of (g ∷ u ∷ []))
  both_said a b = record { closed = λ i. a.closed i && (b.closed i && true); filled = λ i. and_of (a.filled i ∷ b.filled i ∷ []) }

  pub under_said : (plain : Bool) {f g t u : Tree} → IsSaid ss f g → IsSaid ss t u → IsSaid ss (under plain f t) (under plain g u)
  under_said true a b = b
  under_said false a b = imp_said a b

  pub truth_said : (b : Bool) → IsSaid ss (truth_tree b) (truth_tree b)
  truth_said true = record { closed = refl; filled = refl }
  truth_said false = record { closed = refl; filled = refl }

  pub only_said : (plain : Bool) {f g t u : Tree} → IsSaid ss f g → IsSaid ss t u → IsSaid ss (only_under plain f t) (only_under plain g u)
  only_said true a b = b
  only_said false a b = both_said a b

  -- ---- lists

  kids_closed : {ts us : List Tree} → AreSaid ss ts us → are_closed [] (trees_of ts) ≡ true
  kids_closed none = refl
  kids_closed (some a as_) = let rest = kids_closed as_ in λ i. a.closed i && rest i

  kids_filled : {ts us : List Tree} → AreSaid ss ts us → fill_all ss (trees_of ts) ≡ trees_of us
  kids_filled none = refl
  kids_filled (some a as_) = let rest = kids_filled as_ in λ i. more (a.filled i) (rest i)

  pub all_said : {ts us : List Tree} → AreSaid ss ts us → IsSaid ss (all_of ts) (all_of us)
  all_said none = record { closed = refl; filled = refl }
  all_said (some a none) = a
  all_said (some a (some b as_)) = record { closed = kids_closed (some a (some b as_)); filled = ap (node h.And) (kids_filled (some a (some b as_))) }

  pub any_said : {ts us : List Tree} → AreSaid ss ts us → IsSaid ss (any_of ts) (any_of us)
  any_said none = record { closed = refl; filled = refl }
  any_said (some a none) = a
  any_said (some a (some b as_)) = record { closed = kids_closed (some a (some b as_)); filled = ap (node h.Or) (kids_filled (some a (some b as_))) }

  one_said : {ts us : List Tree} → AreSaid ss ts us → AreSaid ss (as_one ts) (as_one us)
  one_said none = none
  one_said (some a as_) = some (all_said (some a as_)) none

  pub refused_said : (refused : Bool) {ts us : List Tree} → AreSaid ss ts us → AreSaid ss (as_one_unless refused ts) (as_one_unless refused us)
  refused_said true as_ = some false_said none
  refused_said false as_ = one_said as_

  pub said_both : {ts us vs ws : List Tree} → AreSaid ss ts us → AreSaid ss vs ws → AreSaid ss (ts ++ vs) (us ++ ws)
  said_both none b = b
  said_both (some a as_) b = some a (said_both as_ b)

  pub map_said : {X : Type 0} (f g : X → Tree) → ((x : X) → IsSaid ss (f x) (g x)) → (xs : List X) → AreSaid ss (map f xs) (map g xs)
  map_said f g h [] = none
  map_said f g h (x ∷ xs) = some (h x) (map_said f g h xs)

  -- ---- what is asked for

  pub all_closed : {ts us : List Tree} → AreSaid ss ts us → AreClosed ts
  all_closed none = refl
  all_closed (some a as_) = let rest = all_closed as_ in λ i. a.closed i && rest i

  pub all_filled : {ts us : List Tree} → AreSaid ss ts us → us ≡ map (fill ss) ts
  all_filled none = refl
  all_filled (some a as_) = let rest = all_filled as_ in λ i. sym a.filled i ∷ rest i
