-- The free names of goals were given out.
use Rattle.std.proofs.Common.{◌≡◌, ℕ, zero, suc, Bool, true, false, ◌&&◌, ◌||◌, List, [], ◌∷◌, refl, sym, subst, inl, inr, ⊎_elim}
use Rattle.std.proofs.lemmas.Bool.{false≢true}
use Rattle.std.specs.Str.{bytes_eq}
use Rattle.std.proofs.lemmas.Slice.Eq.{bytes_eq-Decides}
use Rattle.qed_terms.specs.declared.head.Sort.{Sort}
use Rattle.qed_terms.specs.declared.head.Sort.TheVariants as sort
use Rattle.qed_terms.specs.Tree.{Tree, trees_of, var, and_of}
use Rattle.qed_terms.specs.Fresh.{fresh_name, none_used}
use Rattle.qed_terms.specs.WellFormed.{same_sort}
use Rattle.qed_terms.specs.Free.{is_free, free_among}
use Rattle.walk_steps.specs.State.{In}
use Rattle.walk_steps.specs.Walk.{Goal, formula_of}
use Rattle.walk_steps.specs.Laws.{Origin, own, fixed, start_slots, start_world}
use Rattle.walk_steps.specs.Texts.{AllTerms, IsGiven, NamesAreGiven, GoalsHaveGivenNames}
use Rattle.walk_steps.proofs.Lists.{or_parts}
use Rattle.walk_steps.proofs.Written as written
use Rattle.walk_steps.proofs.Written.{Keeps, walk_fine, forms_fine}

and_first : (a b : Bool) → (a && b) ≡ true → a ≡ true
and_first true b h = refl
and_first false b h = absurd (false≢true h)

module _ (bases : List (List ℕ)) where
  abbrev Fine : Tree → Type 0
  Fine = NamesAreGiven bases

  one_free : (x : List ℕ) (s : Sort) (y : List ℕ) → is_free x s (var y) ≡ true → x ≡ y
  one_free x s y h = (bytes_eq-Decides x y).0 (and_first (bytes_eq x y) (same_sort s sort.Int) (⊎_elim (λ a. a) (λ b. absurd (false≢true b)) (or_parts (bytes_eq x y && same_sort s sort.Int) false h)))

  two_free : (t u : Tree) → Fine t → Fine u → (x : List ℕ) (s : Sort) → (is_free x s t || is_free x s u) ≡ true → IsGiven bases x
  two_free t u h k x s f = ⊎_elim (λ a. h x s a) (λ b. k x s b) (or_parts (is_free x s t) (is_free x s u) f)

  -- a name that is free in one of several
  all_free : (fs : List Tree) → AllTerms Fine Fine fs → (x : List ℕ) (s : Sort) → free_among false x s (trees_of fs) ≡ true → IsGiven bases x
  all_free [] h x s f = absurd (false≢true f)
  all_free (t ∷ []) h x s f = h.0 x s f
  all_free (t ∷ u ∷ []) h x s f = two_free t u h.0 h.1.0 x s f
  all_free (t ∷ u ∷ v ∷ ts) h x s f = by (all_free ts h.1.1.1 x s) (is_free x s t) refl (is_free x s u) refl (is_free x s v) refl f
    where
      by : (free_among false x s (trees_of ts) ≡ true → IsGiven bases x) → (a : Bool) → is_free x s t ≡ a → (b : Bool) → is_free x s u ≡ b → (c : Bool) → is_free x s v ≡ c
          → (a || b || (true && c) || free_among false x s (trees_of ts)) ≡ true → IsGiven bases x
      by rest true e b d c i g = h.0 x s e
      by rest false e true d c i g = h.1.0 x s d
      by rest false e false d true i g = h.1.1.0 x s i
      by rest false e false d false i g = rest g

  keeps : Keeps bases Fine Fine
  keeps = record {
    number = λ z x s f. absurd (false≢true f);
    name = λ b i n x s f. inr (b, i, n, one_free x s (fresh_name b (suc n)) f);
    equal = λ t u h k x s f. two_free t u h k x s f;
    at_most = λ t u h k x s f. two_free t u h k x s f;
    not_of = λ g h x s f. h x s f;
    truth = λ x s f. absurd (false≢true f);
    and_of = λ fs h x s f. all_free fs h x s f;
    or_of = λ fs h x s f. all_free fs h x s f;
  }

  base_given : (b : List ℕ) → In b bases → Fine (var b)
  base_given b i x s f = inl (subst (λ y. In y bases) (sym (one_free x s b f)) i)

  start_fine : (bs : List (List ℕ)) → ((b : List ℕ) → In b bs → In b bases) → (os : List Origin) → AllTerms Fine Fine (start_slots bs os)
  start_fine bs i [] = tt
  start_fine [] i (o ∷ os) = tt
  start_fine (b ∷ bs) i (own ∷ os) = (base_given b (i b (inl refl)), start_fine bs (λ b j. i b (inr j)) os)
  start_fine (b ∷ bs) i (fixed z ∷ os) = ((λ x s f. absurd (false≢true f)), start_fine bs (λ b j. i b (inr j)) os)

  goal_free : (g : Goal) → AllTerms Fine Fine g.known → Fine g.claim → Fine (formula_of g)
  goal_free g h k = two_free (and_of g.known) g.claim (λ x s f. all_free g.known h x s f) k

pub goals_have_given_names : GoalsHaveGivenNames
goals_have_given_names bases e a facts writes g i =
    let P = NamesAreGiven bases in
    let k = keeps bases in
    let ts = start_fine bases bases (λ b i. i) e.origins in
    let w : written.Fine bases P P k (start_world bases e) = record { known = forms_fine bases P P k e.facts facts (start_slots bases e.origins ∷ []) (ts, tt); slots = ts } in
    let x = (walk_fine bases P P k a writes [] tt zero none_used (start_world bases e) w).goals g i in
    goal_free bases g x.known x.claim
