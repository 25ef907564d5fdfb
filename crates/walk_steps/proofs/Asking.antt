-- What is known, and the goals of a list of checks: one is falsified exactly where what is known holds and its claim is the first false one.
use Rattle.std.proofs.Common.{◌≡◌, ◌⊎◌, ℕ, suc, Bool, true, false, not, ◌&&◌, ◌||◌, List, [], ◌∷◌, ◌++◌, map, refl, sym, ap, ap₂, ◌∙◌, subst, inl, inr, ⊎_elim}
use Rattle.std.proofs.lemmas.Bool.{false≢true}
use Rattle.qed_terms.specs.Tree.{Tree, trees_of, or_of}
use Rattle.qed_terms.specs.Meaning as sense
use Rattle.qed_terms.specs.Meaning.{Values, meanings, is_so, each_true, truth}
use Rattle.walk_steps.specs.State.{AllTrue, FirstFalse, In}
use Rattle.walk_steps.specs.Forms.{Slots, Form, Check, forms, written_forms, told_forms, AreClean, states_of, AreForms}
use Rattle.walk_steps.specs.Join.{all_of}
use Rattle.walk_steps.specs.Walk.{Goal, asked, formula_of}
use Rattle.walk_steps.proofs.Lists.{or_parts}

all_each : (bs : List Bool) → AllTrue bs → each_true bs ≡ true
all_each [] h = refl
all_each (b ∷ bs) h = ap (λ c. c && each_true bs) h.0 ∙ all_each bs h.1

each_all : (bs : List Bool) → each_true bs ≡ true → AllTrue bs
each_all [] h = tt
each_all (true ∷ bs) h = (refl, each_all bs h)
each_all (false ∷ bs) h = absurd (false≢true h)

module _ (m : sense.World) where
  abbrev pub Holds : Values → List Tree → Type 0
  Holds env fs = AllTrue (map (truth m env) fs)

  pub holds_front : (env : Values) (fs gs : List Tree) → Holds env (fs ++ gs) → Holds env fs
  holds_front env [] gs h = tt
  holds_front env (f ∷ fs) gs h = (h.0, holds_front env fs gs h.1)

  pub holds_back : (env : Values) (fs gs : List Tree) → Holds env (fs ++ gs) → Holds env gs
  holds_back env [] gs h = h
  holds_back env (f ∷ fs) gs h = holds_back env fs gs h.1

  pub holds_both : (env : Values) (fs gs : List Tree) → Holds env fs → Holds env gs → Holds env (fs ++ gs)
  holds_both env [] gs h k = k
  holds_both env (f ∷ fs) gs h k = (h.0, holds_both env fs gs h.1 k)

  -- ---- what forms are

  pub forms_mean : (env : Values) (ss : List Slots) → AreClean m ss → (fs : List Form) → AreForms m fs → map (truth m env) (written_forms ss fs) ≡ told_forms (states_of m env ss) fs
  forms_mean env ss k [] h = refl
  forms_mean env ss k (f ∷ fs) h = ap₂ (λ b bs. b ∷ bs) (h.0 env ss k) (forms_mean env ss k fs h.1)

  -- ---- goals

  -- what is known holds, and the claim is false
  pub record Falsified (env : Values) (g : Goal) : Type 0 where
    pub known : Holds env g.known
    pub claim : truth m env g.claim ≡ false

  pub asked_false : (env : Values) (n : ℕ) (known : List Tree) (ss : List Slots) (cs : List Check) (g : Goal) → In g (asked n known ss cs) → Falsified env g
      → Holds env known × FirstFalse n (map (truth m env) (written_forms ss (forms cs))) g.number
  asked_false env n known ss [] g i h = absurd i
  asked_false env n known ss (c ∷ cs) g (inl e) h =
      (subst (λ g. Holds env g.known) e h.known, inl (sym (ap (λ (g : Goal). truth m env g.claim) e) ∙ h.claim, sym (ap (λ (g : Goal). g.number) e)))
  asked_false env n known ss (c ∷ cs) g (inr i) h =
      let f = c.form.written ss in
      let rest = asked_false env (suc n) (known ++ f ∷ []) ss cs g i h in
      (holds_front env known (f ∷ []) rest.0, inr ((holds_back env known (f ∷ []) rest.0).0, rest.1))

  -- a goal of this number is falsified
  pub record Shown (env : Values) (g : Goal) (i : ℕ) : Type 0 where
    pub number : g.number ≡ i
    pub falsified : Falsified env g

  pub asked_shows : (env : Values) (n i : ℕ) (known : List Tree) (ss : List Slots) (cs : List Check) → Holds env known → FirstFalse n (map (truth m env) (written_forms ss (forms cs))) i
      → (g : Goal) × In g (asked n known ss cs) × Shown env g i
  asked_shows env n i known ss [] h f = absurd f
  asked_shows env n i known ss (c ∷ cs) h (inl e) =
      (record { number = n; place = c.place; known = known; claim = c.form.written ss }, inl refl, record { number = e.1; falsified = record { known = h; claim = e.0 } })
  asked_shows env n i known ss (c ∷ cs) h (inr e) =
      let f = c.form.written ss in
      let rest = asked_shows env (suc n) i (known ++ f ∷ []) ss cs (holds_both env known (f ∷ []) h (e.0, tt)) e.1 in
      (rest.0, inr rest.1, rest.2)

  -- ---- formulas of lists

  known_truth : (env : Values) (fs : List Tree) → each_true (map is_so (meanings m env (trees_of fs))) ≡ each_true (map (truth m env) fs)
  known_truth env [] = refl
  known_truth env (f ∷ fs) = ap (λ b. truth m env f && b) (known_truth env fs)

  pub all_true : (env : Values) (fs : List Tree) → truth m env (all_of fs) ≡ true → Holds env fs
  all_true env [] h = tt
  all_true env (f ∷ []) h = (h, tt)
  all_true env (f ∷ g ∷ fs) h = each_all (map (truth m env) (f ∷ g ∷ fs)) (sym (known_truth env (f ∷ g ∷ fs)) ∙ h)

  pub true_all : (env : Values) (fs : List Tree) → Holds env fs → truth m env (all_of fs) ≡ true
  true_all env [] h = refl
  true_all env (f ∷ []) h = h.0
  true_all env (f ∷ g ∷ fs) h = known_truth env (f ∷ g ∷ fs) ∙ all_each (map (truth m env) (f ∷ g ∷ fs)) h

  pub or_true : (env : Values) (f g : Tree) → truth m env (or_of (f ∷ g ∷ [])) ≡ true → (truth m env f ≡ true) ⊎ (truth m env g ≡ true)
  or_true env f g h = ⊎_elim (λ a. inl a) (λ b. ⊎_elim (λ c. inr c) (λ c. absurd (false≢true c)) (or_parts (truth m env g) false b)) (or_parts (truth m env f) (truth m env g || false) h)

  pub true_or_left : (env : Values) (f g : Tree) → truth m env f ≡ true → truth m env (or_of (f ∷ g ∷ [])) ≡ true
  true_or_left env f g h = ap (λ b. b || (truth m env g || false)) h

  pub true_or_right : (env : Values) (f g : Tree) → truth m env g ≡ true → truth m env (or_of (f ∷ g ∷ [])) ≡ true
  true_or_right env f g h = by (truth m env f) h
    where
      by : (b : Bool) → truth m env g ≡ true → (b || (truth m env g || false)) ≡ true
      by true k = refl
      by false k = ap (λ c. c || false) k

  -- ---- the goal's formula is false exactly where the goal is falsified

  pub falsified : (env : Values) (g : Goal) → truth m env (formula_of g) ≡ false → Falsified env g
  falsified env g h = by (each_true (map (truth m env) g.known)) (truth m env g.claim) refl refl (ap (λ b. not b || truth m env g.claim) (sym (known_truth env g.known)) ∙ h)
    where
      by : (a b : Bool) → each_true (map (truth m env) g.known) ≡ a → truth m env g.claim ≡ b → not a || b ≡ false → Falsified env g
      by true false k c e = record { known = each_all (map (truth m env) g.known) k; claim = c }
      by true true k c e = absurd (false≢true (sym e))
      by false b k c e = absurd (false≢true (sym e))

  pub not_valid : (env : Values) (g : Goal) → Falsified env g → truth m env (formula_of g) ≡ false
  not_valid env g f =
      ap (λ b. not b || truth m env g.claim) (known_truth env g.known ∙ all_each (map (truth m env) g.known) f.known)
      ∙ f.claim
