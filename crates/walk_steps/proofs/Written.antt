-- What the walk writes is such terms and formulas, where forms are over such terms.
use Rattle.std.proofs.Common.{◌≡◌, ℕ, zero, suc, ◌+◌, ℤ, pos, Bool, true, false, cond, not, List, [], ◌∷◌, ◌++◌, Option, Some, None, refl, sym, subst, inl, inr, ⊎_elim}
use Rattle.std.specs.Option.{option_map}
use Rattle.qed_terms.specs.Tree.{Tree, num, var, true_tree, equal, at_most, not_of, and_of, or_of}
use Rattle.qed_terms.specs.Order.{same}
use Rattle.qed_terms.specs.Fresh.{fresh_name, Used, use_one}
use Rattle.walk_steps.specs.State.{at_or, put, restore, In}
use Rattle.walk_steps.specs.Forms.{Slots, Form, Fact, Check, forms, written_forms, written_facts}
use Rattle.walk_steps.specs.Step as s
use Rattle.walk_steps.specs.Step.{Change, Step, count}
use Rattle.walk_steps.specs.World.{World, knows, restored, pick, after_pick, chosen, large_base, is_large, Named, named, set_to}
use Rattle.walk_steps.specs.Join.{Split, in_front, split, picks, links, all_of, join, used_by_join, joined, meet}
use Rattle.walk_steps.specs.Renew.{is_renewed, renewals, facts_if, facts, renewed}
use Rattle.walk_steps.specs.Walk.{Goal, Walked, asked, list_of, stays, then_walk, on_worlds, both_arms, blocked, walk}
use Rattle.walk_steps.specs.Texts.{AllTerms, AllSlots, AllWrite, FactsWrite, ChangesWrite, Writes}
use Rattle.walk_steps.proofs.Lists.{some_parts, none_some, in_either, map_in}
use Rattle.walk_steps.proofs.Combining.{list_of_in, left_only}

-- terms and formulas of some property, for the names of these bases
pub record Keeps (bases : List (List ℕ)) (Term Formula : Tree → Type 0) : Type 0 where
  pub number : (z : ℤ) → Term (num z)
  pub name : (b : List ℕ) → In b (large_base ∷ bases) → (n : ℕ) → Term (var (fresh_name b (suc n)))
  pub equal : (t u : Tree) → Term t → Term u → Formula (equal t u)
  pub at_most : (t u : Tree) → Term t → Term u → Formula (at_most t u)
  pub not_of : (f : Tree) → Formula f → Formula (not_of f)
  pub truth : Formula true_tree
  pub and_of : (fs : List Tree) → AllTerms Formula Formula fs → Formula (and_of fs)
  pub or_of : (fs : List Tree) → AllTerms Formula Formula fs → Formula (or_of fs)

module _ (bases : List (List ℕ)) (Term Formula : Tree → Type 0) (k : Keeps bases Term Formula) where
  abbrev Terms : List Tree → Type 0
  Terms = AllTerms Term Formula

  abbrev pub Formulas : List Tree → Type 0
  Formulas = AllTerms Formula Formula

  formulas_front : (fs gs : List Tree) → Formulas (fs ++ gs) → Formulas fs
  formulas_front [] gs h = tt
  formulas_front (f ∷ fs) gs h = (h.0, formulas_front fs gs h.1)

  formulas_both : (fs gs : List Tree) → Formulas fs → Formulas gs → Formulas (fs ++ gs)
  formulas_both [] gs h j = j
  formulas_both (f ∷ fs) gs h j = (h.0, formulas_both fs gs h.1 j)

  pub record Fine (w : World) : Type 0 where
    pub known : Formulas w.known
    pub slots : Terms w.slots

  -- ---- lists of slots

  at_fine : (x : Tree) (ts : List Tree) (i : ℕ) → Term x → Terms ts → Term (at_or x ts i)
  at_fine x [] i h j = h
  at_fine x (t ∷ ts) zero h j = j.0
  at_fine x (t ∷ ts) (suc i) h j = at_fine x ts i h j.1

  put_fine : (ts : List Tree) (i : ℕ) (x : Tree) → Terms ts → Term x → Terms (put ts i x)
  put_fine [] i x h j = tt
  put_fine (t ∷ ts) zero x h j = (j, h.1)
  put_fine (t ∷ ts) (suc i) x h j = (h.0, put_fine ts i x h.1 j)

  restore_fine : (x : Tree) (is : List ℕ) (old new : List Tree) → Term x → Terms old → Terms new → Terms (restore x is old new)
  restore_fine x [] old new h j l = l
  restore_fine x (i ∷ is) old new h j l = restore_fine x is old (put new i (at_or x old i)) h j (put_fine new i (at_or x old i) l (at_fine x old i h j))

  pub forms_fine : (fs : List Form) → AllWrite Term Formula fs → (ss : List Slots) → AllSlots Term Formula ss → Formulas (written_forms ss fs)
  forms_fine [] h ss j = tt
  forms_fine (f ∷ fs) h ss j = (h.0 ss j, forms_fine fs h.1 ss j)

  facts_fine : (fs : List Fact) → FactsWrite Term Formula fs → (ss : List Slots) → AllSlots Term Formula ss → (x : Tree) → Term x → Formulas (written_facts ss fs x)
  facts_fine [] h ss j x l = tt
  facts_fine (f ∷ fs) h ss j x l = (h.0 ss x j l, facts_fine fs h.1 ss j x l)

  -- ---- fresh names

  abbrev Picked : List (Option Tree) → Type 0
  Picked [] = Unit {0}
  Picked (None ∷ ps) = Picked ps
  Picked (Some x ∷ ps) = Term x × Picked ps

  abbrev PickFine : Option Tree → Type 0
  PickFine None = Unit {0}
  PickFine (Some x) = Term x

  picked_more : (p : Option Tree) (ps : List (Option Tree)) → PickFine p → Picked ps → Picked (p ∷ ps)
  picked_more None ps h j = j
  picked_more (Some x) ps h j = (h, j)

  -- a list of bases, all of the function
  abbrev Within : List (List ℕ) → Type 0
  Within bs = (b : List ℕ) → In b bs → In b bases

  pick_fine : (c : Used) (b : List ℕ) → In b bases → (t : Bool) → PickFine (pick c b t)
  pick_fine c b i true = k.name b (inr i) (c b)
  pick_fine c b i false = tt

  picks_fine : (bs : List (List ℕ)) → Within bs → (c : Used) (ts us : Slots) → Picked (picks bs c ts us)
  picks_fine [] i c ts us = tt
  picks_fine (b ∷ bs) i c [] us = tt
  picks_fine (b ∷ bs) i c (t ∷ ts) [] = tt
  picks_fine (b ∷ bs) i c (t ∷ ts) (u ∷ us) =
      let p = pick c b (not (same t u)) in
      picked_more p (picks bs (after_pick c b p) ts us) (pick_fine c b (i b (inl refl)) (not (same t u))) (picks_fine bs (λ b j. i b (inr j)) (after_pick c b p) ts us)

  renewals_fine : (bs : List (List ℕ)) → Within bs → (c : Used) (cs : List Change) (ts : Slots) → Picked (renewals bs c cs ts)
  renewals_fine bs i c [] ts = tt
  renewals_fine [] i c (ch ∷ cs) ts = tt
  renewals_fine (b ∷ bs) i c (ch ∷ cs) [] = tt
  renewals_fine (b ∷ bs) i c (ch ∷ cs) (t ∷ ts) =
      let p = pick c b (is_renewed ch t) in
      picked_more p (renewals bs (after_pick c b p) cs ts) (pick_fine c b (i b (inl refl)) (is_renewed ch t)) (renewals_fine bs (λ b j. i b (inr j)) (after_pick c b p) cs ts)

  chosen_fine : (ps : List (Option Tree)) (ts : Slots) → Picked ps → Terms ts → Terms (chosen ps ts)
  chosen_fine [] ts h j = j
  chosen_fine (p ∷ ps) [] h j = tt
  chosen_fine (None ∷ ps) (t ∷ ts) h j = (j.0, chosen_fine ps ts h j.1)
  chosen_fine (Some x ∷ ps) (t ∷ ts) h j = (h.0, chosen_fine ps ts h.1 j.1)

  links_fine : (ps : List (Option Tree)) (ts : Slots) → Picked ps → Terms ts → Formulas (links ps ts)
  links_fine [] ts h j = tt
  links_fine (p ∷ ps) [] h j = tt
  links_fine (None ∷ ps) (t ∷ ts) h j = links_fine ps ts h j.1
  links_fine (Some x ∷ ps) (t ∷ ts) h j = (k.equal x t h.0 j.0, links_fine ps ts h.1 j.1)

  -- ---- joins

  record SplitFine (s : Split) : Type 0 where
    front : Formulas s.front
    left : Formulas s.left
    right : Formulas s.right

  split_more : (f g : Tree) (fs gs : List Tree) (s : Split) (b : Bool) → Formula f → Formula g → Formulas fs → Formulas gs → SplitFine s
      → SplitFine (cond b (in_front f s) (record { front = []; left = f ∷ fs; right = g ∷ gs }))
  split_more f g fs gs s true h j l m q = record { front = (h, q.front); left = q.left; right = q.right }
  split_more f g fs gs s false h j l m q = record { front = tt; left = (h, l); right = (j, m) }

  split_fine : (fs gs : List Tree) → Formulas fs → Formulas gs → SplitFine (split fs gs)
  split_fine [] gs h j = record { front = tt; left = tt; right = j }
  split_fine (f ∷ fs) [] h j = record { front = tt; left = h; right = tt }
  split_fine (f ∷ fs) (g ∷ gs) h j = split_more f g fs gs (split fs gs) (same f g) h.0 j.0 h.1 j.1 (split_fine fs gs h.1 j.1)

  all_fine : (fs : List Tree) → Formulas fs → Formula (all_of fs)
  all_fine [] h = k.truth
  all_fine (f ∷ []) h = h.0
  all_fine (f ∷ g ∷ fs) h = k.and_of (f ∷ g ∷ fs) h

  join_fine : (c : Used) (w v : World) → Fine w → Fine v → Fine (join bases c w v)
  join_fine c w v h j =
      let q = split_fine w.known v.known h.known j.known in
      let ps = picks bases c w.slots v.slots in
      let l = picks_fine bases (λ b i. i) c w.slots v.slots in
      let left = (split w.known v.known).left ++ links ps w.slots in
      let right = (split w.known v.known).right ++ links ps v.slots in
      let x = all_fine left (formulas_both (split w.known v.known).left (links ps w.slots) q.left (links_fine ps w.slots l h.slots)) in
      let y = all_fine right (formulas_both (split w.known v.known).right (links ps v.slots) q.right (links_fine ps v.slots l j.slots)) in
      let z = k.or_of (all_of left ∷ all_of right ∷ []) (x, (y, tt)) in
      record { known = formulas_both (split w.known v.known).front (or_of (all_of left ∷ all_of right ∷ []) ∷ []) q.front (z, tt); slots = chosen_fine ps w.slots l h.slots }

  joined_fine : (c : Used) (w : World) (vs : List World) → Fine w → ((v : World) → In v vs → Fine v) → Fine (joined bases c w vs)
  joined_fine c w [] h j = h
  joined_fine c w (v ∷ vs) h j = joined_fine (used_by_join bases c w v) (join bases c w v) vs (join_fine c w v h (j v (inl refl))) (λ u i. j u (inr i))

  meet_fine : (c : Used) (ws : List World) → ((w : World) → In w ws → Fine w) → (w : World) → meet bases c ws ≡ Some w → Fine w
  meet_fine c [] h w e = absurd (none_some e)
  meet_fine c (v ∷ vs) h w e = subst Fine (some_parts e) (joined_fine c v vs (h v (inl refl)) (λ u i. h u (inr i)))

  -- ---- values that are set, and slots that change

  abbrev named_by : Bool → Used → Tree → Named
  named_by b c t =
      cond b (record { term = var (fresh_name large_base (suc (c large_base))); used = use_one c large_base; links = equal (var (fresh_name large_base (suc (c large_base)))) t ∷ [] })
      (record { term = t; used = c; links = [] })

  set_by : (b : Bool) (c : Used) (w : World) (i : ℕ) (t : Tree) → Fine w → Term t → Fine (set_to w i (named_by b c t))
  set_by true c w i t h j =
      let n = k.name large_base (inl refl) (c large_base) in
      record { known = formulas_both w.known _ h.known (k.equal _ t n j, tt); slots = put_fine w.slots i _ h.slots n }
  set_by false c w i t h j = record { known = formulas_both w.known [] h.known tt; slots = put_fine w.slots i t h.slots j }

  set_fine : (c : Used) (w : World) (i : ℕ) (t : Tree) → Fine w → Term t → Fine (set_to w i (named c t))
  set_fine c w i t = set_by (is_large t) c w i t

  fact_fine : (ss : List Slots) → AllSlots Term Formula ss → (ch : Change) → ChangesWrite Term Formula (ch ∷ []) → (p : Option Tree) → PickFine p → (t : Tree) → Term t → Formulas (facts_if ss ch p t)
  fact_fine ss a ch h None j t l = tt
  fact_fine ss a s.keeps h (Some x) j t l = tt
  fact_fine ss a (s.fresh fs) h (Some x) j t l = facts_fine fs h.0 ss a x j
  fact_fine ss a s.raised h (Some x) j t l =
      (k.at_most (num (pos 0)) x (k.number (pos 0)) j, (k.at_most x (num (pos 1)) j (k.number (pos 1)), (k.at_most t x l j, tt)))

  change_parts : (ch : Change) (cs : List Change) → ChangesWrite Term Formula (ch ∷ cs) → ChangesWrite Term Formula (ch ∷ []) × ChangesWrite Term Formula cs
  change_parts s.keeps cs h = (tt, h)
  change_parts (s.fresh fs) cs h = ((h.0, tt), h.1)
  change_parts s.raised cs h = (tt, h)

  picked_parts : (p : Option Tree) (ps : List (Option Tree)) → Picked (p ∷ ps) → PickFine p × Picked ps
  picked_parts None ps h = (tt, h)
  picked_parts (Some x) ps h = h

  all_facts_fine : (ss : List Slots) → AllSlots Term Formula ss → (cs : List Change) → ChangesWrite Term Formula cs → (ps : List (Option Tree)) → Picked ps → (ts : Slots) → Terms ts → Formulas (facts ss cs ps ts)
  all_facts_fine ss a [] h ps j ts l = tt
  all_facts_fine ss a (ch ∷ cs) h [] j ts l = tt
  all_facts_fine ss a (ch ∷ cs) h (p ∷ ps) j [] l = tt
  all_facts_fine ss a (ch ∷ cs) h (p ∷ ps) j (t ∷ ts) l =
      let x = change_parts ch cs h in
      let y = picked_parts p ps j in
      formulas_both (facts_if ss ch p t) (facts ss cs ps ts) (fact_fine ss a ch x.0 p y.0 t l.0) (all_facts_fine ss a cs x.1 ps y.1 ts l.1)

  renewed_fine : (olds : List Slots) → AllSlots Term Formula olds → (c : Used) (cs : List Change) → ChangesWrite Term Formula cs → (w : World) → Fine w → Fine (renewed bases olds c cs w)
  renewed_fine olds a c cs h w f =
      let ps = renewals bases c cs w.slots in
      let l = renewals_fine bases (λ b i. i) c cs w.slots in
      record { known = formulas_both w.known _ f.known (all_facts_fine (w.slots ∷ olds) (f.slots, a) cs h ps l w.slots f.slots); slots = chosen_fine ps w.slots l f.slots }

  -- ---- walks

  pub record GoalFine (g : Goal) : Type 0 where
    pub known : Formulas g.known
    pub claim : Formula g.claim

  pub record WalkFine (r : Walked) : Type 0 where
    pub goals : (g : Goal) → In g r.goals → GoalFine g
    pub goes : (w : World) → r.end ≡ Some w → Fine w
    pub left : (l : ℕ) (w : World) → In w (r.left l) → Fine w

  knows_fine : (w : World) (fs : List Tree) → Fine w → Formulas fs → Fine (knows w fs)
  knows_fine w fs h j = record { known = formulas_both w.known fs h.known j; slots = h.slots }

  asked_fine : (n : ℕ) (known : List Tree) (ss : List Slots) → AllSlots Term Formula ss → (cs : List Check) → AllWrite Term Formula (forms cs) → Formulas known → (g : Goal) → In g (asked n known ss cs) → GoalFine g
  asked_fine n known ss a [] h f g i = absurd i
  asked_fine n known ss a (c ∷ cs) h f g (inl e) = subst GoalFine (sym e) (record { known = f; claim = h.0 ss a })
  asked_fine n known ss a (c ∷ cs) h f g (inr i) =
      asked_fine (suc n) (known ++ c.form.written ss ∷ []) ss a cs h.1 (formulas_both known _ f (h.0 ss a, tt)) g i

  stays_fine : (gs : List Goal) (c : Used) (w : World) → ((g : Goal) → In g gs → GoalFine g) → Fine w → WalkFine (stays gs c w)
  stays_fine gs c w h f = record { goals = h; goes = λ v e. subst Fine (some_parts e) f; left = λ l v i. absurd i }

  then_fine : (r : Walked) (go : Used → World → Walked) (end : Option World) → r.end ≡ end → WalkFine r → ((c : Used) (w : World) → Fine w → WalkFine (go c w)) → WalkFine (then_walk r end go)
  then_fine r go None e h f = h
  then_fine r go (Some w) e h f =
      let q = f r.used w (h.goes w e) in
      record {
        goals = λ g i. ⊎_elim (λ x. h.goals g x) (λ x. q.goals g x) (in_either g r.goals _ i);
        goes = q.goes;
        left = λ l v i. ⊎_elim (λ x. h.left l v x) (λ x. q.left l v x) (in_either v (r.left l) _ i);
      }

  arms_fine : (r q : Walked) → WalkFine r → WalkFine q → WalkFine (both_arms bases r q)
  arms_fine r q h j = record {
    goals = λ g i. ⊎_elim (λ x. h.goals g x) (λ x. j.goals g x) (in_either g r.goals q.goals i);
    goes = meet_fine q.used (list_of r.end ++ list_of q.end)
        (λ w i. ⊎_elim (λ x. h.goes w (list_of_in w r.end x)) (λ x. j.goes w (list_of_in w q.end x)) (in_either w (list_of r.end) (list_of q.end) i));
    left = λ l v i. ⊎_elim (λ x. h.left l v x) (λ x. j.left l v x) (in_either v (r.left l) (q.left l) i);
  }

  block_fine : (r : Walked) → WalkFine r → WalkFine (blocked bases r)
  block_fine r h = record {
    goals = h.goals;
    goes = meet_fine r.used (r.left 0 ++ list_of r.end) (λ w i. ⊎_elim (λ x. h.left 0 w x) (λ x. h.goes w (list_of_in w r.end x)) (in_either w (r.left 0) (list_of r.end) i));
    left = λ l v i. h.left (suc l) v i;
  }

  restored_fine : (is : List ℕ) (old w : World) → Fine old → Fine w → Fine (restored is old w)
  restored_fine is old w h j = record { known = j.known; slots = restore_fine (num (pos 0)) is old.slots w.slots (k.number (pos 0)) h.slots j.slots }

  scope_fine : (is : List ℕ) (old : World) (r : Walked) → Fine old → WalkFine r → WalkFine (on_worlds (restored is old) r)
  scope_fine is old r h j = record {
    goals = j.goals;
    goes = λ v e. by r.end refl v e;
    left = λ l v i. let x = map_in (restored is old) v (r.left l) i in subst Fine x.2 (restored_fine is old x.0 h (j.left l x.0 x.1));
  }
    where
      by : (x : Option World) → r.end ≡ x → (v : World) → option_map (restored is old) x ≡ Some v → Fine v
      by None q v e = absurd (none_some e)
      by (Some u) q v e = subst Fine (some_parts e) (restored_fine is old u h (j.goes u q))

  pub walk_fine : (a : Step) → Writes Term Formula a → (olds : List Slots) → AllSlots Term Formula olds → (n : ℕ) (c : Used) (w : World) → Fine w → WalkFine (walk bases olds n a c w)
  walk_fine s.skip h olds o n c w f = stays_fine [] c w (λ g i. absurd i) f
  walk_fine s.halt h olds o n c w f = record { goals = λ g i. absurd i; goes = λ v e. absurd (none_some e); left = λ l v i. absurd i }
  walk_fine (s.seq a b) h olds o n c w f =
      let r = walk bases olds n a c w in
      then_fine r (walk bases olds (n + count a) b) r.end refl (walk_fine a h.0 olds o n c w f) (λ c w f. walk_fine b h.1 olds o (n + count a) c w f)
  walk_fine (s.ask cs) h olds o n c w f =
      let a : AllSlots Term Formula (w.slots ∷ olds) = (f.slots, o) in
      stays_fine (asked n w.known (w.slots ∷ olds) cs) c _ (λ g i. asked_fine n w.known (w.slots ∷ olds) a cs h f.known g i) (knows_fine w _ f (forms_fine (forms cs) h (w.slots ∷ olds) a))
  walk_fine (s.know fs) h olds o n c w f = stays_fine [] c _ (λ g i. absurd i) (knows_fine w _ f (forms_fine fs h (w.slots ∷ olds) (f.slots, o)))
  walk_fine (s.set i u) h olds o n c w f = stays_fine [] _ _ (λ g i. absurd i) (set_fine c w i (u.written (w.slots ∷ olds)) f (h (w.slots ∷ olds) (f.slots, o)))
  walk_fine (s.change cs) h olds o n c w f = stays_fine [] _ _ (λ g i. absurd i) (renewed_fine olds o c cs h w f)
  walk_fine (s.choose p a b) h olds o n c w f =
      let g = p.written (w.slots ∷ olds) in
      let j = h.0.0 (w.slots ∷ olds) (f.slots, o) in
      let r = walk bases olds n a c (knows w (g ∷ [])) in
      arms_fine r (walk bases olds (n + count a) b r.used (knows w (not_of g ∷ []))) (walk_fine a h.1 olds o n c _ (knows_fine w _ f (j, tt)))
      (walk_fine b h.2 olds o (n + count a) r.used _ (knows_fine w _ f (k.not_of g j, tt)))
  walk_fine (s.block a) h olds o n c w f = block_fine (walk bases olds n a c w) (walk_fine a h olds o n c w f)
  walk_fine (s.exit j) h olds o n c w f =
      record { goals = λ g i. absurd i; goes = λ v e. absurd (none_some e); left = λ l v i. subst Fine (sym (left_only j w l v i).1) f }
  walk_fine (s.scope is a) h olds o n c w f = scope_fine is w (walk bases olds n a c w) f (walk_fine a h olds o n c w f)
  walk_fine (s.remember a) h olds o n c w f = walk_fine a h (w.slots ∷ olds) (f.slots, o) n c w f
