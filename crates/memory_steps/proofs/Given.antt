-- The free names of goals were given out.
use Rattle.std.proofs.Common.{◌≡◌, ℕ, zero, suc, Bool, true, false, ◌&&◌, ◌||◌, List, [], ◌∷◌, length, refl, sym, subst, inl, inr, ⊎_elim}
use Rattle.std.proofs.lemmas.Bool.{false≢true}
use Rattle.std.specs.Str.{bytes_eq}
use Rattle.std.proofs.lemmas.Slice.Eq.{bytes_eq-Decides}
use Rattle.qed_terms.specs.declared.head.Sort.{Sort}
use Rattle.qed_terms.specs.declared.head.Sort.TheVariants as sort
use Rattle.qed_terms.specs.declared.head.Head.TheVariants as h
use Rattle.qed_terms.specs.Tree.{Tree, node, stop, trees_of, num, and_of}
use Rattle.qed_terms.specs.Fresh.{fresh_name, none_used}
use Rattle.qed_terms.specs.WellFormed.{same_sort}
use Rattle.qed_terms.specs.Free.{is_free, free_among}
use Rattle.walk_steps.specs.State.{In}
use Rattle.walk_steps.specs.World.{large_base}
use Rattle.walk_steps.specs.Walk.{Goal, formula_of}
use Rattle.walk_steps.proofs.Lists.{or_parts, in_map}
use Rattle.memory_steps.specs.State.{Base}
use Rattle.memory_steps.specs.World.{name_for, table_var, count_base}
use Rattle.memory_steps.specs.Laws.{Origin, own, fixed, table_name, start_terms, start_slots, start_world}
use Rattle.memory_steps.specs.Texts as texts
use Rattle.memory_steps.specs.Texts.{IsGiven, NamesAreGiven, names_of, GoalsHaveGivenNames}
use Rattle.memory_steps.proofs.Written as written
use Rattle.memory_steps.proofs.Written.{Keeps, walk_fine, claims_fine}

and_first : (a b : Bool) → (a && b) ≡ true → a ≡ true
and_first true b h = refl
and_first false b h = absurd (false≢true h)

module _ (bases : List Base) where
  abbrev Fine : Tree → Type 0
  Fine = NamesAreGiven bases

  abbrev All : List Tree → Type 0
  All = texts.AllFormulas bases Fine Fine Fine Fine

  abbrev OfSort : Bool → Tree → Type 0
  OfSort = texts.OfSort bases Fine Fine Fine Fine

  either : (y : Bool) (t : Tree) → Fine t → OfSort y t
  either true t h = h
  either false t h = h

  one_free : (x : List ℕ) (s : Sort) (y : List ℕ) (r : Sort) → is_free x s (node (h.Var y r) stop) ≡ true → x ≡ y
  one_free x s y r h =
      (bytes_eq-Decides x y).0 (and_first (bytes_eq x y) (same_sort s r) (⊎_elim (λ a. a) (λ b. absurd (false≢true b)) (or_parts (bytes_eq x y && same_sort s r) false h)))

  name_fine : (y : Bool) (x : List ℕ) → IsGiven bases x → OfSort y (name_for y x)
  name_fine true x g = λ z s f. subst (IsGiven bases) (sym (one_free z s x sort.Memory f)) g
  name_fine false x g = λ z s f. subst (IsGiven bases) (sym (one_free z s x sort.Int f)) g

  two_free : (t u : Tree) → Fine t → Fine u → (x : List ℕ) (s : Sort) → (is_free x s t || is_free x s u) ≡ true → IsGiven bases x
  two_free t u h k x s f = ⊎_elim (λ a. h x s a) (λ b. k x s b) (or_parts (is_free x s t) (is_free x s u) f)

  -- a name that is free in one of several
  all_free : (fs : List Tree) → All fs → (x : List ℕ) (s : Sort) → free_among false x s (trees_of fs) ≡ true → IsGiven bases x
  all_free [] h x s f = absurd (false≢true f)
  all_free (t ∷ []) h x s f = h.0 x s f
  all_free (t ∷ u ∷ []) h x s f = two_free t u h.0 h.1.0 x s f
  all_free (t ∷ u ∷ v ∷ ts) h x s f = by (all_free ts h.1.1.1 x s) (is_free x s t) refl (is_free x s u) refl (is_free x s v) refl f
    where
      by : (free_among false x s (trees_of ts) ≡ true → IsGiven bases x) → (a : Bool) → is_free x s t ≡ a → (b : Bool) → is_free x s u ≡ b → (c : Bool) → is_free x s v ≡ c
          → (a || b || (true && c) || free_among false x s (trees_of ts)) ≡ true → IsGiven bases x
      by rest true e b d c i g = h.0 x s e
      by rest false e true d c i g = h.1.0 x s d
      by rest false e false d true i g = h.1.1.0 x s i
      by rest false e false d false i g = rest g

  keeps : Keeps bases Fine Fine Fine Fine
  keeps = record {
    number = λ z x s f. absurd (false≢true f);
    name = λ b i n. name_fine b.is_memory (fresh_name b.name (suc n)) (inr (b.name, inr (inr (in_map (λ (b : Base). b.name) b bases i)), n, refl));
    large = λ n. name_fine false (fresh_name large_base (suc n)) (inr (large_base, inl refl, n, refl));
    counted = λ n. name_fine false (fresh_name count_base.name (suc n)) (inr (count_base.name, inr (inl refl), n, refl));
    equal = λ t u h k x s f. two_free t u h k x s f;
    same = λ t u h k x s f. two_free t u h k x s f;
    at_most = λ t u h k x s f. two_free t u h k x s f;
    count = λ t h x s f. h x s f;
    grow = λ t c h k x s f. two_free t c h k x s f;
    alloc = λ t l h x s f. h x s f;
    not_of = λ g h x s f. h x s f;
    truth = λ x s f. absurd (false≢true f);
    and_of = λ fs h x s f. all_free fs h x s f;
    or_of = λ fs h x s f. all_free fs h x s f;
  }

  start_fine : (bs : List Base) → ((b : Base) → In b bs → In b bases) → (os : List Origin) → length os ≡ length bs → texts.AllTerms bases Fine Fine Fine Fine bs (start_terms bs os)
  start_fine [] i [] l = tt
  start_fine (b ∷ bs) i [] l = absurd cc
  start_fine [] i (o ∷ os) l = absurd cc
  start_fine (b ∷ bs) i (own ∷ os) l =
      (name_fine b.is_memory b.name (inl (inr (in_map (λ (b : Base). b.name) b bases (i b (inl refl))))), start_fine bs (λ b j. i b (inr j)) os (cc))
  start_fine (b ∷ bs) i (fixed z ∷ os) l = (either b.is_memory (num z) (λ x s f. absurd (false≢true f)), start_fine bs (λ b j. i b (inr j)) os (cc))

  goal_free : (g : Goal) → All g.known → Fine g.claim → Fine (formula_of g)
  goal_free g h k = two_free (and_of g.known) g.claim (λ x s f. all_free g.known h x s f) k

  table_fine : Fine (table_var table_name)
  table_fine x s f = inl (inl (one_free x s table_name sort.Table f))

pub goals_have_given_names : GoalsHaveGivenNames
goals_have_given_names bases e a size facts writes g i =
    let P = NamesAreGiven bases in
    let k = keeps bases in
    let ss : written.Written bases P P P P k (start_slots bases e.origins) =
    record { terms = start_fine bases bases (λ b i. i) e.origins size; table = table_fine bases; trail = (table_fine bases, tt) }
    in
    let w : written.Fine bases P P P P k (start_world bases e) =
    record { known = claims_fine bases P P P P k e.facts facts (start_slots bases e.origins ∷ []) (ss, tt); slots = ss }
    in
    let x = (walk_fine bases P P P P k a writes [] tt zero none_used (start_world bases e) w).goals g i in
    goal_free bases g x.known x.claim
