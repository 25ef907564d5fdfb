-- Formulas that are true together, and disjunctions.
use Rattle.std.proofs.Common.{◌≡◌, ◌⊎◌, Bool, true, false, ◌&&◌, ◌||◌, cond, List, [], ◌∷◌, ◌++◌, map, refl, sym, ◌∙◌, ap, subst, inl, inr}
use Rattle.qed_terms.specs.declared.head.Head.TheVariants as h
use Rattle.qed_terms.specs.Meaning.{World, Values, truth, meanings, is_so, each_true, some_true}
use Rattle.qed_terms.specs.Nodes.{kids_of}
use Rattle.qed_terms.specs.Tree.{Tree, node, Trees, stop, more, list_of, trees_of, head_of}
use Rattle.branches.specs.declared.kinds.Kind.TheVariants as kind
use Rattle.branches.specs.Branch.{AreTrue, IsAnd, IsOr, is_kind}
use Rattle.branch_changes.specs.Changes.{literals_of, others_of, rest_of_or}
use Rattle.branch_changes.proofs.Truths.{and_left, and_right, or_rest}

module _ (w : World) (env : Values) where
  pub front_true : (fs gs : List Tree) → AreTrue w env (fs ++ gs) → AreTrue w env fs
  front_true [] gs a = tt
  front_true (f ∷ fs) gs a = (a.0, front_true fs gs a.1)

  pub behind_true : (fs gs : List Tree) → AreTrue w env (fs ++ gs) → AreTrue w env gs
  behind_true [] gs a = a
  behind_true (f ∷ fs) gs a = behind_true fs gs a.1

  pub both_true : (fs gs : List Tree) → AreTrue w env fs → AreTrue w env gs → AreTrue w env (fs ++ gs)
  both_true [] gs a b = b
  both_true (f ∷ fs) gs a b = (a.0, both_true fs gs a.1 b)

  -- the one that stands between these
  pub middle_true : (fs : List Tree) (f : Tree) (gs : List Tree) → AreTrue w env (fs ++ f ∷ gs) → truth w env f ≡ true
  middle_true fs f gs a = (behind_true fs (f ∷ gs) a).0

  pub around_true : (fs : List Tree) (f : Tree) (gs : List Tree) → AreTrue w env (fs ++ f ∷ gs) → AreTrue w env (fs ++ gs)
  around_true fs f gs a = both_true fs gs (front_true fs (f ∷ gs) a) (behind_true fs (f ∷ gs) a).1

  -- others in its place
  pub instead_true : (fs : List Tree) (f : Tree) (gs by : List Tree) → AreTrue w env (fs ++ f ∷ gs) → AreTrue w env by → AreTrue w env (fs ++ (by ++ gs))
  instead_true fs f gs by a b = both_true fs (by ++ gs) (front_true fs (f ∷ gs) a) (both_true by gs b (behind_true fs (f ∷ gs) a).1)

  pub literals_true : (fs : List Tree) → AreTrue w env fs → AreTrue w env (literals_of fs)
  literals_true [] a = tt
  literals_true (f ∷ fs) a = go (is_kind kind.Literal (head_of f)) (literals_true fs a.1)
    where
      go : (b : Bool) → AreTrue w env (literals_of fs) → AreTrue w env (cond b (f ∷ literals_of fs) (literals_of fs))
      go true r = (a.0, r)
      go false r = r

  pub others_true : (fs : List Tree) → AreTrue w env fs → AreTrue w env (others_of fs)
  others_true [] a = tt
  others_true (f ∷ fs) a = go (is_kind kind.Literal (head_of f)) (others_true fs a.1)
    where
      go : (b : Bool) → AreTrue w env (others_of fs) → AreTrue w env (cond b (others_of fs) (f ∷ others_of fs))
      go true r = r
      go false r = (a.0, r)

  -- ---- parts of an `and`

  each_kid_true : (ts : Trees) → each_true (map is_so (meanings w env ts)) ≡ true → AreTrue w env (list_of ts)
  each_kid_true stop e = tt
  each_kid_true (more t ts) e = (and_left (truth w env t) _ e, each_kid_true ts (and_right (truth w env t) _ e))

  pub parts_true : (f : Tree) → IsAnd f → truth w env f ≡ true → AreTrue w env (kids_of f)
  parts_true (node h.And ts) k e = each_kid_true ts e
  parts_true (node head ts) k e = absurd cc

  -- ---- disjuncts of an `or`

  abbrev pub OneTrue : List Tree → Type 0
  OneTrue [] = ⊥
  OneTrue (f ∷ fs) = (truth w env f ≡ true) ⊎ OneTrue fs

  some_kid_true : (ts : Trees) → some_true (map is_so (meanings w env ts)) ≡ true → OneTrue (list_of ts)
  some_kid_true stop e = absurd cc
  some_kid_true (more t ts) e = go (truth w env t) refl (λ r. some_kid_true ts r)
    where
      go : (b : Bool) → truth w env t ≡ b → (some_true (map is_so (meanings w env ts)) ≡ true → OneTrue (list_of ts)) → OneTrue (list_of (more t ts))
      go true k rest = inl k
      go false k rest = inr (rest (or_rest (truth w env t) _ k e))

  pub one_disjunct_true : (f : Tree) → IsOr f → truth w env f ≡ true → OneTrue (kids_of f)
  one_disjunct_true (node h.Or ts) k e = some_kid_true ts e
  one_disjunct_true (node head ts) k e = absurd cc

  or_first : (p q : Bool) → p ≡ true → (p || q) ≡ true
  or_first true q e = refl
  or_first false q e = absurd cc

  or_second : (p q : Bool) → q ≡ true → (p || q) ≡ true
  or_second true q e = refl
  or_second false q e = e

  some_of_one : (ds : List Tree) → OneTrue ds → some_true (map is_so (meanings w env (trees_of ds))) ≡ true
  some_of_one [] o = absurd o
  some_of_one (d ∷ ds) (inl e) = or_first (truth w env d) _ e
  some_of_one (d ∷ ds) (inr o) = or_second (truth w env d) _ (some_of_one ds o)

  -- without one that is false
  pub one_without : (ds : List Tree) (d : Tree) (es : List Tree) → (truth w env d ≡ true → ⊥) → OneTrue (ds ++ d ∷ es) → OneTrue (ds ++ es)
  one_without [] d es never (inl e) = absurd (never e)
  one_without [] d es never (inr o) = o
  one_without (c ∷ ds) d es never (inl e) = inl e
  one_without (c ∷ ds) d es never (inr o) = inr (one_without ds d es never o)

  pub left_true : (ds : List Tree) → OneTrue ds → truth w env (rest_of_or ds) ≡ true
  left_true [] o = absurd o
  left_true (d ∷ []) (inl e) = e
  left_true (d ∷ []) (inr o) = absurd o
  left_true (d ∷ e ∷ ds) o = some_of_one (d ∷ e ∷ ds) o
