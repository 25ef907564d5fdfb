-- Formulas with a term in the places of a variable, one after the other, and the branch of them.
use Rattle.std.proofs.Common.{◌≡◌, ℕ, zero, suc, ◌+◌, ◌<◌, ◌≤◌, Bool, true, false, not, ◌&&◌, List, [], ◌∷◌, ◌++◌, map, take, drop, length, get_or, All, refl, sym, ◌∙◌, ap, subst, arith}
use Rattle.std.specs.Prelude.{if◌then◌else◌, Some}
use Rattle.qed_terms.specs.declared.verdict.IdBranch.{IdBranch}
use Rattle.std.specs.List.{list_all}
use Rattle.std.proofs.lemmas.List.{take_all, take_more, take-map, drop-map, map_push, map-append}
use Rattle.std.proofs.lemmas.List.Elements.{All-weaker, All-append, All-cons, All-take, All-drop}
use Rattle.qed_terms.specs.Store.{KeepsOlder}
use Rattle.qed_terms.specs.Tree.{Tree, head_of, false_tree}
use Rattle.qed_terms.proofs.Kept.{kept_trees}
use Rattle.branches.specs.declared.kinds.Kind.TheVariants as kind
use Rattle.branches.specs.Branch.{Branch, is_kind}
use Rattle.branches.specs.Ids.{branch_of}
use Rattle.branches.specs.Steps.{NoneSo, Stuck}
use Rattle.branches.proofs.Found.{first_at}
use Rattle.branches.proofs.Steps.{no_first}
use Rattle.branch_changes.specs.Changes.{EachTo, Gives, Eliminates, literals_of, others_of}
use Rattle.branch_changes.specs.Givens.{Given, put, may_put, can_put, givens, first_put}
use Rattle.branch_changes.proofs.Truths.{and_left, and_right}
use Rattle.changed_branches.proofs.Fitting.{all_without}
use Rattle.variable_changes.specs.Found.{sorted, is_wanted, IsReplaced}

held_alone : {Id : Type 0} (held : Id → Type 0) (id : Id) → held id → All held (id ∷ [])
held_alone held id k = All-cons held id [] k (λ i d l. absurd (omega arith))

-- one more behind the others
pub held_more : {Id : Type 0} (held held' : Id → Type 0) (tree tree' : Id → Tree) → KeepsOlder held held' tree tree' → (ids made : List Id) (id : Id) → made ≡ ids ++ id ∷ [] → All held ids → held' id → All held' made
held_more held held' tree tree' kept ids made id push h k = subst (All held') (sym push) (All-append held' ids (id ∷ []) (All-weaker held held' kept.still_held ids h) (held_alone held' id k))

each_more : (r : Tree → Tree → Type 0) (ts us : List Tree) (t u : Tree) → EachTo r ts us → r t u → EachTo r (ts ++ t ∷ []) (us ++ u ∷ [])
each_more r [] [] t u e k = (k, tt)
each_more r [] (v ∷ us) t u e k = absurd e
each_more r (v ∷ ts) [] t u e k = absurd e
each_more r (v ∷ ts) (w ∷ us) t u e k = (e.0, each_more r ts us t u e.1 k)

module _ {Id : Type 0} (tree : Id → Tree) (f : Tree → Tree) (ids : List Id) (i : ℕ) (id : Id) (below : i < length ids) (is : id ≡ get_or ids i id) where
  one_further : map f (map tree (take (i + 1) ids)) ≡ map f (map tree (take i ids)) ++ f (tree id) ∷ []
  one_further =
      ap (λ xs. map f (map tree xs)) (take_more ids i id below) ∙ ap (map f) (map_push tree (take i ids) (get_or ids i id)) ∙ map_push f (map tree (take i ids)) (tree (get_or ids i id)) ∙ ap (λ x. map f (map tree (take i ids)) ++ f (tree x) ∷ []) (sym is)

  pub put_more : (r : Tree → Tree → Type 0) (held held' : Id → Type 0) (tree' tree'' : Id → Tree) → KeepsOlder held held' tree' tree'' → (done made : List Id) (new : Id) → made ≡ done ++ new ∷ [] → All held done
      → EachTo r (map f (map tree (take i ids))) (map tree' done) → r (f (tree id)) (tree'' new) → EachTo r (map f (map tree (take (i + 1) ids))) (map tree'' made)
  put_more r held held' tree' tree'' kept done made new push h e k =
      subst (EachTo r (map f (map tree (take (i + 1) ids)))) (sym (ap (map tree'') push ∙ map_push tree'' done new ∙ ap (λ ts. ts ++ tree'' new ∷ []) (kept_trees held held' tree' tree'' done kept h)))
      (subst (λ ts. EachTo r ts (map tree' done ++ tree'' new ∷ [])) (sym one_further) (each_more r (map f (map tree (take i ids))) (map tree' done) (f (tree id)) (tree'' new) e k))

  -- the test holds of each
  pub test_at : (p : Tree → Bool) → list_all p (map tree ids) ≡ true → p (tree id) ≡ true
  test_at p e = ap (λ x. p (tree x)) is ∙ go ids i below e
    where
      and_first : (a b : Bool) → (a && b) ≡ true → a ≡ true
      and_first true b k = refl
      and_first false b k = absurd cc

      and_second : (a b : Bool) → (a && b) ≡ true → b ≡ true
      and_second true b k = k
      and_second false b k = absurd cc

      go : (xs : List Id) (n : ℕ) → n < length xs → list_all p (map tree xs) ≡ true → p (tree (get_or xs n id)) ≡ true
      go [] n l k = absurd (omega arith)
      go (x ∷ xs) zero l k = and_first (p (tree x)) _ k
      go (x ∷ xs) (suc n) l k = go xs n (omega arith) (and_second (p (tree x)) _ k)

pub put_done : {Id : Type 0} (tree : Id → Tree) (f : Tree → Tree) (ids : List Id) (i : ℕ) (r : Tree → Tree → Type 0) (us : List Tree) → length ids ≤ i → EachTo r (map f (map tree (take i ids))) us → EachTo r (map f (map tree ids)) us
put_done tree f ids i r us past e = subst (λ xs. EachTo r (map f (map tree xs)) us) (take_all i ids past) e

-- ---- literals, and what is none

sorted_push : (w : Bool) (ts : List Tree) (t : Tree) → sorted w (ts ++ t ∷ []) ≡ (if is_wanted w t then sorted w ts ++ t ∷ [] else sorted w ts)
sorted_push true [] t = refl
sorted_push false [] t = go (is_kind kind.Literal (head_of t))
  where
    go : (b : Bool) → (if b then [] else t ∷ []) ≡ (if not b then t ∷ [] else [])
    go true = refl
    go false = refl
sorted_push true (u ∷ ts) t = ap (λ us. if is_kind kind.Literal (head_of u) then u ∷ us else us) (sorted_push true ts t) ∙ go (is_kind kind.Literal (head_of u)) (is_kind kind.Literal (head_of t)) (literals_of ts)
  where
    go : (a b : Bool) (us : List Tree) → (if a then u ∷ (if b then us ++ t ∷ [] else us) else (if b then us ++ t ∷ [] else us)) ≡ (if b then (if a then u ∷ us else us) ++ t ∷ [] else (if a then u ∷ us else us))
    go true true us = refl
    go true false us = refl
    go false true us = refl
    go false false us = refl
sorted_push false (u ∷ ts) t = ap (λ us. if is_kind kind.Literal (head_of u) then us else u ∷ us) (sorted_push false ts t) ∙ go (is_kind kind.Literal (head_of u)) (not (is_kind kind.Literal (head_of t))) (others_of ts)
  where
    go : (a b : Bool) (us : List Tree) → (if a then (if b then us ++ t ∷ [] else us) else u ∷ (if b then us ++ t ∷ [] else us)) ≡ (if b then (if a then us else u ∷ us) ++ t ∷ [] else (if a then us else u ∷ us))
    go true true us = refl
    go true false us = refl
    go false true us = refl
    go false false us = refl

module _ {Id : Type 0} (tree : Id → Tree) (w : Bool) (ids : List Id) (i : ℕ) where
  pub sorted_more : (id : Id) (b : Bool) (done made : List Id) → i < length ids → id ≡ get_or ids i id → b ≡ is_wanted w (tree id) → made ≡ (if b then done ++ id ∷ [] else done) → map tree done ≡ sorted w (map tree (take i ids)) → map tree made ≡ sorted w (map tree (take (i + 1) ids))
  sorted_more id b done made below is wanted push so_far =
      ap (map tree) push ∙ go b ∙ ap (λ c. if c then sorted w (map tree (take i ids)) ++ tree id ∷ [] else sorted w (map tree (take i ids))) wanted ∙ sym (sorted_push w (map tree (take i ids)) (tree id))
      ∙ ap (sorted w) (sym (map_push tree (take i ids) id) ∙ ap (λ x. map tree (take i ids ++ x ∷ [])) is ∙ sym (ap (map tree) (take_more ids i id below)))
    where
      go : (c : Bool) → map tree (if c then done ++ id ∷ [] else done) ≡ (if c then sorted w (map tree (take i ids)) ++ tree id ∷ [] else sorted w (map tree (take i ids)))
      go true = map_push tree done id ∙ ap (λ ts. ts ++ tree id ∷ []) so_far
      go false = so_far

  pub sorted_done : (ts : List Tree) → length ids ≤ i → ts ≡ sorted w (map tree (take i ids)) → ts ≡ sorted w (map tree ids)
  sorted_done ts past e = e ∙ ap (λ xs. sorted w (map tree xs)) (take_all i ids past)

pub sorted_held : {Id : Type 0} (held : Id → Type 0) (b : Bool) (done made : List Id) (id : Id) → made ≡ (if b then done ++ id ∷ [] else done) → All held done → held id → All held made
sorted_held held true done made id push h k = subst (All held) (sym push) (All-append held done (id ∷ []) h (held_alone held id k))
sorted_held held false done made id push h k = subst (All held) (sym push) h

-- ---- the branch

-- the formulas without the one at a place
pub trees_without : {Id : Type 0} (tree : Id → Tree) (ids rest : List Id) (at : ℕ) → rest ≡ take at ids ++ drop (at + 1) ids → map tree rest ≡ take at (map tree ids) ++ drop (at + 1) (map tree ids)
trees_without tree ids rest at e = ap (map tree) e ∙ map-append tree (take at ids) (drop (at + 1) ids) ∙ (λ i. sym (take-map tree at ids) i ++ sym (drop-map tree (at + 1) ids) i)

pub held_without : {Id : Type 0} (held : Id → Type 0) (ids rest : List Id) (at : ℕ) → rest ≡ take at ids ++ drop (at + 1) ids → All held ids → All held rest
held_without held ids rest at e h = subst (All held) (sym e) (All-append held (take at ids) (drop (at + 1) ids) (All-take held at ids h) (All-drop held (at + 1) ids h))

pub others_may : {Id : Type 0} (tree : Id → Tree) (b : IdBranch Id) (g : Given) (rest : List Id) (at : ℕ) → rest ≡ take at b.literals ++ drop (at + 1) b.literals → can_put (branch_of tree b) g ≡ true → list_all (may_put g) (map tree rest) ≡ true
others_may tree b g rest at e can =
    ap (list_all (may_put g)) (trees_without tree b.literals rest at e) ∙ all_without (may_put g) (map tree b.literals) at (and_left (list_all (may_put g) (map tree b.literals)) (list_all (may_put g) (map tree b.waiting)) can)

pub waiting_may : {Id : Type 0} (tree : Id → Tree) (b : IdBranch Id) (g : Given) → can_put (branch_of tree b) g ≡ true → list_all (may_put g) (map tree b.waiting) ≡ true
waiting_may tree b g can = and_right (list_all (may_put g) (map tree b.literals)) (list_all (may_put g) (map tree b.waiting)) can

-- the equality is dropped
pub eliminated : (normal : Tree → Tree → Type 0) (b b' c : Branch) (at : ℕ) (g : Given) → b' ≡ b → at < length b.literals → NoneSo (Gives b) (take at b.literals) → ((l : Tree) → first_put b (givens (get_or b.literals at l)) ≡ Some g)
    → IsReplaced normal g (take at b'.literals ++ drop (at + 1) b'.literals) b'.waiting c → Eliminates normal b c
eliminated normal b b' c at g same below none gives r = record {
  before = take at b.literals;
  equality = get_or b.literals at false_tree;
  behind = drop (at + 1) b.literals;
  given = g;
  literals = r.literals_now;
  waiting = r.waiting_now;
  first = first_at (Gives b) b.literals at false_tree (below, none, λ d. (g, gives d));
  gives = gives false_tree;
  new_literals = subst (λ z. EachTo normal (map (put g) (take at z.literals ++ drop (at + 1) z.literals)) r.literals_now) same r.new_literals;
  new_waiting = subst (λ z. EachTo normal (map (put g) z.waiting) r.waiting_now) same r.new_waiting;
  now = r.now;
}

pub none_eliminated : (normal : Tree → Tree → Type 0) (b : Branch) → NoneSo (Gives b) b.literals → Stuck (Eliminates normal) b
none_eliminated normal b n c r = no_first (Gives b) b.literals n r.before r.equality r.behind r.first
