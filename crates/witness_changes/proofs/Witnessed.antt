-- The bounds and the body of an existence for a new name.
use Rattle.std.proofs.Common.{◌≡◌, ℕ, true, false, not, ◌&&◌, List, [], ◌∷◌, ◌++◌, refl, sym, ◌∙◌, ap, subst, inl, inr}
use Rattle.qed_terms.specs.declared.head.Sort.{Sort}
use Rattle.qed_terms.specs.declared.head.Sort.TheVariants as sort
use Rattle.qed_terms.specs.declared.head.Head.TheVariants as h
use Rattle.qed_terms.specs.Names.{is_memory_name}
use Rattle.qed_terms.specs.Tree.{Tree, node, three, var, at_most, less}
use Rattle.qed_terms.specs.WellFormed.{int, formula, fits}
use Rattle.qed_substitution.specs.Substitution.{may_replace}
use Rattle.branches.specs.Branch.{Branch}
use Rattle.branches.specs.Steps.{FirstSo}
use Rattle.branch_changes.specs.Changes.{Among, EachTo, AreWitnessed}
use Rattle.branch_changes.specs.Givens.{given, put, may_put, may_stand_for}
use Rattle.branch_changes.specs.NewNames.{is_in, numbered_name, IsFirstNew}
use Rattle.changed_branches.proofs.Witnessing.{numbered_is_name}
use Rattle.witness_changes.proofs.Absent.{is_clear_without}

not_memory : (n : ℕ) → is_memory_name (numbered_name n) ≡ false
unfolding is_memory_name numbered_name
not_memory n = refl

pub new_fits : (n : ℕ) (u : Tree) → u ≡ var (numbered_name n) → fits int u ≡ true
new_fits n u e = ap (fits int) e ∙ ap (λ b. (b && true) && true) (numbered_is_name n)

pub new_stands : (n : ℕ) (s : Sort) (u : Tree) → s ≡ sort.Int → u ≡ var (numbered_name n) → may_stand_for s u ≡ true
new_stands n s u e k =
    (λ i. may_stand_for (e i) (k i)) ∙ (λ i. ((numbered_is_name n i && true) && true) && ((numbered_is_name n i && not (not_memory n i)) && true))

pub new_may : (n : ℕ) (x : List ℕ) (body : Tree) → fits formula body ≡ true → is_in (numbered_name n) body ≡ false → may_replace x (var (numbered_name n)) body ≡ true
new_may n x body e k = is_clear_without (numbered_name n) x formula body e k

module _ (x name : List ℕ) (n : ℕ) (s : Sort) (u low high body low' high' body' : Tree) (same : name ≡ x) (whole : s ≡ sort.Int) (is : u ≡ var (numbered_name n)) (e : low' ≡ low) (k : high' ≡ high) (l : body' ≡ body) where
  pub new_may_put : may_replace x (var (numbered_name n)) body ≡ true → may_put (given name s u) body' ≡ true
  new_may_put may = (λ i. may_put (given (same i) (whole i) (is i)) (l i)) ∙ may

  pub witnessed_by : (normal : Tree → Tree → Type 0) (b : Branch) (f : Tree) (fs : List Tree) → f ≡ node (h.Exists x) (three low high body) → IsFirstNew b n → may_replace x (var (numbered_name n)) body ≡ true
      → EachTo normal (at_most low' u ∷ less u high' ∷ put (given name s u) body' ∷ []) fs → AreWitnessed normal b f fs
  witnessed_by normal b f fs exists new may each = record {
    name = x;
    low = low;
    high = high;
    body = body;
    number = n;
    is = exists;
    new = new;
    allowed = may;
    normals = subst (λ ts. EachTo normal ts fs) (λ i. at_most (e i) (is i) ∷ less (is i) (k i) ∷ put (given (same i) (whole i) (is i)) (l i) ∷ []) each;
  }

pub among_first : (so : Tree → Type 0) (fs before : List Tree) (f : Tree) (behind : List Tree) → FirstSo so fs before f behind → Among f fs
among_first so fs before f behind first = subst (Among f) (sym first.whole) (go before)
  where
    go : (ts : List Tree) → Among f (ts ++ f ∷ behind)
    go [] = inl refl
    go (t ∷ ts) = inr (go ts)
