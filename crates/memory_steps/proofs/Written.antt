-- What the walk writes is such terms and formulas, where forms are over such terms.
use Rattle.std.proofs.Common.{◌≡◌, ℕ, zero, suc, ◌+◌, ℤ, pos, Bool, true, false, cond, not, List, [], ◌∷◌, ◌++◌, Option, Some, None, refl, sym, subst, inl, inr, ⊎_elim}
use Rattle.std.specs.Option.{option_map}
use Rattle.wp_base.specs.declared.kinds.Layout.{Layout}
use Rattle.qed_terms.specs.Tree.{Tree, num, var, true_tree, equal, at_most, not_of, and_of, or_of}
use Rattle.qed_terms.specs.Order.{same}
use Rattle.qed_terms.specs.Fresh.{fresh_name, Used, use_one}
use Rattle.walk_steps.specs.State.{at_or, put, restore, In}
use Rattle.walk_steps.specs.World.{large_base, is_large}
use Rattle.walk_steps.specs.Join.{Split, in_front, split, all_of}
use Rattle.walk_steps.specs.Walk.{Goal, list_of}
use Rattle.walk_steps.proofs.Lists.{some_parts, none_some, in_either, map_in}
use Rattle.memory_steps.specs.State.{Base}
use Rattle.memory_steps.specs.Forms.{Mark, Slots, Form, Claim, Fact, Check, forms, written_forms, written_claims, written_facts}
use Rattle.memory_steps.specs.Step as s
use Rattle.memory_steps.specs.Step.{Change, Step, count, sort_at}
use Rattle.memory_steps.specs.World.{World, knows, restored, name_for, new_name, pick, after_pick, chosen, is_same, base_at, Named, named, set_to, count_base, mark_base, count_of, grow_of, alloc_of, same_of, marked, grown_world, made_world, ended_world}
use Rattle.memory_steps.specs.Join.{picks, links, same_mark, common, last_table, table_with, count_link, names_at, used_by_names, count_at, side_links, join, used_by_join, joined, meet}
use Rattle.memory_steps.specs.Renew.{is_renewed, renewals, facts_if, facts, renewed}
use Rattle.memory_steps.specs.Walk.{Walked, asked, stays, then_walk, on_worlds, both_arms, blocked, walk}
use Rattle.memory_steps.specs.Texts as texts
use Rattle.memory_steps.proofs.Assigning.{base_sort}
use Rattle.memory_steps.proofs.Combining.{list_of_in, left_only}

-- terms and formulas of some property, for the names of these bases
pub record Keeps (bases : List Base) (Number Memory Table Formula : Tree → Type 0) : Type 0 where
  pub number : (z : ℤ) → Number (num z)
  pub name : (b : Base) → In b bases → (n : ℕ) → texts.OfSort bases Number Memory Table Formula b.is_memory (name_for b.is_memory (fresh_name b.name (suc n)))
  pub large : (n : ℕ) → Number (var (fresh_name large_base (suc n)))
  pub counted : (n : ℕ) → Number (var (fresh_name count_base.name (suc n)))
  pub equal : (t u : Tree) → Number t → Number u → Formula (equal t u)
  pub same : (t u : Tree) → Memory t → Memory u → Formula (same_of t u)
  pub at_most : (t u : Tree) → Number t → Number u → Formula (at_most t u)
  pub count : (t : Tree) → Table t → Number (count_of t)
  pub grow : (t c : Tree) → Table t → Number c → Table (grow_of t c)
  pub alloc : (t : Tree) (l : Layout) → Table t → Table (alloc_of t l)
  pub not_of : (f : Tree) → Formula f → Formula (not_of f)
  pub truth : Formula true_tree
  pub and_of : (fs : List Tree) → texts.AllFormulas bases Number Memory Table Formula fs → Formula (and_of fs)
  pub or_of : (fs : List Tree) → texts.AllFormulas bases Number Memory Table Formula fs → Formula (or_of fs)

module _ (bases : List Base) (Number Memory Table Formula : Tree → Type 0) (k : Keeps bases Number Memory Table Formula) where
  abbrev pub Formulas : List Tree → Type 0
  Formulas = texts.AllFormulas bases Number Memory Table Formula

  abbrev OfSort : Bool → Tree → Type 0
  OfSort = texts.OfSort bases Number Memory Table Formula

  abbrev Terms : List Base → List Tree → Type 0
  Terms = texts.AllTerms bases Number Memory Table Formula

  abbrev Marks : List Mark → Type 0
  Marks = texts.AllMarks bases Number Memory Table Formula

  abbrev pub Written : Slots → Type 0
  Written = texts.IsWritten bases Number Memory Table Formula

  abbrev pub AllSlots : List Slots → Type 0
  AllSlots = texts.AreWritten bases Number Memory Table Formula

  abbrev AllWrite : List Form → Type 0
  AllWrite = texts.AllWrite bases Number Memory Table Formula

  abbrev FactsWrite : Bool → List Fact → Type 0
  FactsWrite = texts.FactsWrite bases Number Memory Table Formula

  abbrev ChangeWrites : Base → Change → Type 0
  ChangeWrites = texts.ChangeWrites bases Number Memory Table Formula

  abbrev ChangesWrite : List Base → List Change → Type 0
  ChangesWrite = texts.ChangesWrite bases Number Memory Table Formula

  abbrev Writes : Step → Type 0
  Writes = texts.Writes bases Number Memory Table Formula

  formulas_front : (fs gs : List Tree) → Formulas (fs ++ gs) → Formulas fs
  formulas_front [] gs h = tt
  formulas_front (f ∷ fs) gs h = (h.0, formulas_front fs gs h.1)

  formulas_both : (fs gs : List Tree) → Formulas fs → Formulas gs → Formulas (fs ++ gs)
  formulas_both [] gs h j = j
  formulas_both (f ∷ fs) gs h j = (h.0, formulas_both fs gs h.1 j)

  pub record Fine (w : World) : Type 0 where
    pub known : Formulas w.known
    pub slots : Written w.slots

  -- ---- lists of slots

  put_fine : (bs : List Base) (ts : List Tree) (i : ℕ) (x : Tree) → Terms bs ts → OfSort (sort_at bs i) x → Terms bs (put ts i x)
  put_fine [] [] i x h j = tt
  put_fine [] (t ∷ ts) i x h j = absurd h
  put_fine (b ∷ bs) [] i x h j = absurd h
  put_fine (b ∷ bs) (t ∷ ts) zero x h j = (j, h.1)
  put_fine (b ∷ bs) (t ∷ ts) (suc i) x h j = (h.0, put_fine bs ts i x h.1 j)

  back_fine : (bs : List Base) (x : Tree) (old new : List Tree) (i : ℕ) → Terms bs old → Terms bs new → Terms bs (put new i (at_or x old i))
  back_fine [] x [] [] i h j = tt
  back_fine [] x [] (n ∷ new) i h j = absurd j
  back_fine [] x (o ∷ old) new i h j = absurd h
  back_fine (b ∷ bs) x [] new i h j = absurd h
  back_fine (b ∷ bs) x (o ∷ old) [] i h j = absurd j
  back_fine (b ∷ bs) x (o ∷ old) (n ∷ new) zero h j = (h.0, j.1)
  back_fine (b ∷ bs) x (o ∷ old) (n ∷ new) (suc i) h j = (j.0, back_fine bs x old new i h.1 j.1)

  restore_fine : (x : Tree) (is : List ℕ) (old new : List Tree) → Terms bases old → Terms bases new → Terms bases (restore x is old new)
  restore_fine x [] old new h j = j
  restore_fine x (i ∷ is) old new h j = restore_fine x is old (put new i (at_or x old i)) h (back_fine bases x old new i h j)

  forms_fine : (fs : List Form) → AllWrite fs → (ss : List Slots) → AllSlots ss → Formulas (written_forms ss fs)
  forms_fine [] h ss j = tt
  forms_fine (f ∷ fs) h ss j = (h.0 ss j, forms_fine fs h.1 ss j)

  pub claims_fine : (cs : List Claim) → texts.ClaimsWrite bases Number Memory Table Formula cs → (ss : List Slots) → AllSlots ss → Formulas (written_claims ss cs)
  claims_fine [] h ss j = tt
  claims_fine (c ∷ cs) h ss j = (h.0 ss j, claims_fine cs h.1 ss j)

  facts_fine : (y : Bool) (fs : List Fact) → FactsWrite y fs → (ss : List Slots) → AllSlots ss → (x : Tree) → OfSort y x → Formulas (written_facts ss fs x)
  facts_fine y [] h ss j x l = tt
  facts_fine y (f ∷ fs) h ss j x l = (h.0 ss x j l, facts_fine y fs h.1 ss j x l)

  -- ---- fresh names

  abbrev PickFine : Base → Option Tree → Type 0
  PickFine b None = Unit {0}
  PickFine b (Some x) = OfSort b.is_memory x

  abbrev Picked : List Base → List (Option Tree) → Type 0
  Picked bs [] = Unit {0}
  Picked [] (p ∷ ps) = ⊥
  Picked (b ∷ bs) (p ∷ ps) = PickFine b p × Picked bs ps

  abbrev Within : List Base → Type 0
  Within bs = (b : Base) → In b bs → In b bases

  pick_fine : (c : Used) (b : Base) → In b bases → (t : Bool) → PickFine b (pick c b t)
  pick_fine c b i true = k.name b i (c b.name)
  pick_fine c b i false = tt

  picks_fine : (bs : List Base) → Within bs → (c : Used) (ts us : List Tree) → Picked bs (picks bs c ts us)
  picks_fine [] i c ts us = tt
  picks_fine (b ∷ bs) i c [] us = tt
  picks_fine (b ∷ bs) i c (t ∷ ts) [] = tt
  picks_fine (b ∷ bs) i c (t ∷ ts) (u ∷ us) =
      let p = pick c b (not (same t u)) in (pick_fine c b (i b (inl refl)) (not (same t u)), picks_fine bs (λ b j. i b (inr j)) (after_pick c b p) ts us)

  renewals_fine : (bs : List Base) → Within bs → (c : Used) (cs : List Change) (ts : List Tree) → Picked bs (renewals bs c cs ts)
  renewals_fine bs i c [] ts = tt
  renewals_fine [] i c (ch ∷ cs) ts = tt
  renewals_fine (b ∷ bs) i c (ch ∷ cs) [] = tt
  renewals_fine (b ∷ bs) i c (ch ∷ cs) (t ∷ ts) =
      let p = pick c b (is_renewed ch t) in (pick_fine c b (i b (inl refl)) (is_renewed ch t), renewals_fine bs (λ b j. i b (inr j)) (after_pick c b p) cs ts)

  chosen_fine : (bs : List Base) (ps : List (Option Tree)) (ts : List Tree) → Picked bs ps → Terms bs ts → Terms bs (chosen ps ts)
  chosen_fine bs [] ts h j = j
  chosen_fine [] (p ∷ ps) ts h j = absurd h
  chosen_fine (b ∷ bs) (p ∷ ps) [] h j = absurd j
  chosen_fine (b ∷ bs) (None ∷ ps) (t ∷ ts) h j = (j.0, chosen_fine bs ps ts h.1 j.1)
  chosen_fine (b ∷ bs) (Some x ∷ ps) (t ∷ ts) h j = (h.0, chosen_fine bs ps ts h.1 j.1)

  same_fine : (y : Bool) (x t : Tree) → OfSort y x → OfSort y t → Formula (is_same y x t)
  same_fine true x t h j = k.same x t h j
  same_fine false x t h j = k.equal x t h j

  links_fine : (bs : List Base) (ps : List (Option Tree)) (ts : List Tree) → Picked bs ps → Terms bs ts → Formulas (links bs ps ts)
  links_fine bs [] ts h j = tt
  links_fine [] (p ∷ ps) ts h j = absurd h
  links_fine (b ∷ bs) (p ∷ ps) [] h j = absurd j
  links_fine (b ∷ bs) (None ∷ ps) (t ∷ ts) h j = links_fine bs ps ts h.1 j.1
  links_fine (b ∷ bs) (Some x ∷ ps) (t ∷ ts) h j = (same_fine b.is_memory x t h.0 j.0, links_fine bs ps ts h.1 j.1)

  -- ---- the table

  with_fine : (ps : List Mark) (p : Mark) → Marks ps → Table p.table → Marks (ps ++ p ∷ [])
  with_fine [] p h t = (t, tt)
  with_fine (q ∷ ps) p h t = (h.0, with_fine ps p h.1 t)

  common_fine : (ps qs : List Mark) → Marks ps → Marks (common ps qs)
  common_fine [] qs h = tt
  common_fine (p ∷ ps) [] h = tt
  common_fine (p ∷ ps) (q ∷ qs) h = by (common_fine ps qs h.1) (same_mark p q)
    where
      by : Marks (common ps qs) → (y : Bool) → Marks (cond y (p ∷ common ps qs) [])
      by r true = (h.0, r)
      by r false = tt

  last_fine : (t : Tree) (ps : List Mark) → Table t → Marks ps → Table (last_table t ps)
  last_fine t [] h j = h
  last_fine t (p ∷ ps) h j = last_fine p.table ps j.0 j.1

  table_fine : (d : Used) (y : Bool) (own last : Tree) → Table own → Table last → Table (table_with (pick d count_base y) own last)
  table_fine d true own last h j = k.grow last _ j (k.counted (d count_base.name))
  table_fine d false own last h j = h

  number_fine : (d : Used) (y : Bool) (t : Tree) → Table t → Formulas (count_link (pick d count_base y) t)
  number_fine d true t h = (k.equal _ (count_of t) (k.counted (d count_base.name)) (k.count t h), tt)
  number_fine d false t h = tt

  -- ---- joins

  record SplitFine (s : Split) : Type 0 where
    front : Formulas s.front
    left : Formulas s.left
    right : Formulas s.right

  split_more : (f g : Tree) (fs gs : List Tree) (s : Split) (b : Bool) → Formula f → Formula g → Formulas fs → Formulas gs → SplitFine s
      → SplitFine (cond b (in_front f s) (record { front = []; left = f ∷ fs; right = g ∷ gs }))
  split_more f g fs gs s true h j l m q = record { front = (h, q.front); left = q.left; right = q.right }
  split_more f g fs gs s false h j l m q = record { front = tt; left = (h, l); right = (j, m) }

  split_fine : (fs gs : List Tree) → Formulas fs → Formulas gs → SplitFine (split fs gs)
  split_fine [] gs h j = record { front = tt; left = tt; right = j }
  split_fine (f ∷ fs) [] h j = record { front = tt; left = h; right = tt }
  split_fine (f ∷ fs) (g ∷ gs) h j = split_more f g fs gs (split fs gs) (same f g) h.0 j.0 h.1 j.1 (split_fine fs gs h.1 j.1)

  all_fine : (fs : List Tree) → Formulas fs → Formula (all_of fs)
  all_fine [] h = k.truth
  all_fine (f ∷ []) h = h.0
  all_fine (f ∷ g ∷ fs) h = k.and_of (f ∷ g ∷ fs) h

  side_fine : (c : Used) (w v : World) (ss : Slots) → Written ss → Formulas (side_links bases (names_at bases c w v) (count_at bases c w v) ss)
  side_fine c w v ss h =
      let d = used_by_names bases c w v in
      formulas_both (links bases (names_at bases c w v) ss.terms) _
      (links_fine bases (names_at bases c w v) ss.terms (picks_fine bases (λ b i. i) c w.slots.terms v.slots.terms) h.terms)
      (number_fine d (not (same w.slots.table v.slots.table)) ss.table h.table)

  join_fine : (c : Used) (w v : World) → Fine w → Fine v → Fine (join bases c w v)
  join_fine c w v h j =
      let q = split_fine w.known v.known h.known j.known in
      let ps = names_at bases c w v in
      let p = count_at bases c w v in
      let left = (split w.known v.known).left ++ side_links bases ps p w.slots in
      let right = (split w.known v.known).right ++ side_links bases ps p v.slots in
      let x = all_fine left (formulas_both (split w.known v.known).left _ q.left (side_fine c w v w.slots h.slots)) in
      let y = all_fine right (formulas_both (split w.known v.known).right _ q.right (side_fine c w v v.slots j.slots)) in
      let z = k.or_of (all_of left ∷ all_of right ∷ []) (x, (y, tt)) in
      let trail = common_fine w.slots.trail v.slots.trail h.slots.trail in
      record {
        known = formulas_both (split w.known v.known).front (or_of (all_of left ∷ all_of right ∷ []) ∷ []) q.front (z, tt);
        slots = record {
          terms = chosen_fine bases ps w.slots.terms (picks_fine bases (λ b i. i) c w.slots.terms v.slots.terms) h.slots.terms;
          table = table_fine (used_by_names bases c w v) (not (same w.slots.table v.slots.table)) w.slots.table _ h.slots.table (last_fine w.slots.table _ h.slots.table trail);
          trail = trail;
        };
      }

  joined_fine : (c : Used) (w : World) (vs : List World) → Fine w → ((v : World) → In v vs → Fine v) → Fine (joined bases c w vs)
  joined_fine c w [] h j = h
  joined_fine c w (v ∷ vs) h j = joined_fine (used_by_join bases c w v) (join bases c w v) vs (join_fine c w v h (j v (inl refl))) (λ u i. j u (inr i))

  meet_fine : (c : Used) (ws : List World) → ((w : World) → In w ws → Fine w) → (w : World) → meet bases c ws ≡ Some w → Fine w
  meet_fine c [] h w e = absurd (none_some e)
  meet_fine c (v ∷ vs) h w e = subst Fine (some_parts e) (joined_fine c v vs (h v (inl refl)) (λ u i. h u (inr i)))

  -- ---- values that are set, and slots that change

  abbrev named_by : Bool → Base → Used → Tree → Named
  named_by y b c t =
      cond y (record { term = new_name c b; used = use_one c b.name; links = is_same b.is_memory (new_name c b) t ∷ [] })
      (record { term = t; used = c; links = [] })

  abbrev or_large : Base → Bool → Base
  or_large b y = cond y b (record { name = large_base; is_memory = false })

  base_fine : (bs : List Base) → Within bs → (i n : ℕ) → OfSort (base_at bs i).is_memory (name_for (base_at bs i).is_memory (fresh_name (base_at bs i).name (suc n)))
  base_fine [] w i n = k.large n
  base_fine (b ∷ bs) w zero n = by b.is_memory
    where
      by : (y : Bool) → OfSort (or_large b y).is_memory (name_for (or_large b y).is_memory (fresh_name (or_large b y).name (suc n)))
      by true = k.name b (w b (inl refl)) n
      by false = k.large n
  base_fine (b ∷ bs) w (suc i) n = base_fine bs (λ b j. w b (inr j)) i n

  set_by : (y : Bool) (c : Used) (w : World) (i : ℕ) (t : Tree) → Fine w → OfSort (sort_at bases i) t → Fine (set_to w i (named_by y (base_at bases i) c t))
  set_by true c w i t h j =
      let b = base_at bases i in
      let e = base_sort bases i in
      let n = base_fine bases (λ b i. i) i (c b.name) in
      record {
        known = formulas_both w.known _ h.known (same_fine b.is_memory (new_name c b) t n (subst (λ y. OfSort y t) (sym e) j), tt);
        slots = record { terms = put_fine bases w.slots.terms i _ h.slots.terms (subst (λ y. OfSort y (new_name c b)) e n); table = h.slots.table; trail = h.slots.trail };
      }
  set_by false c w i t h j =
      record { known = formulas_both w.known [] h.known tt; slots = record { terms = put_fine bases w.slots.terms i t h.slots.terms j; table = h.slots.table; trail = h.slots.trail } }

  set_fine : (c : Used) (w : World) (i : ℕ) (t : Tree) → Fine w → OfSort (sort_at bases i) t → Fine (set_to w i (named (base_at bases i) c t))
  set_fine c w i t = set_by (is_large t) c w i t

  fact_fine : (ss : List Slots) → AllSlots ss → (b : Base) (ch : Change) → ChangeWrites b ch → (p : Option Tree) → PickFine b p → (t : Tree) → OfSort b.is_memory t → Formulas (facts_if ss ch p t)
  fact_fine ss a b ch h None j t l = tt
  fact_fine ss a b s.keeps h (Some x) j t l = tt
  fact_fine ss a b (s.fresh fs) h (Some x) j t l = facts_fine b.is_memory fs h ss a x j
  fact_fine ss a b s.raised h (Some x) j t l =
      let n = subst (λ y. OfSort y x) h j in
      let o = subst (λ y. OfSort y t) h l in
      (k.at_most (num (pos 0)) x (k.number (pos 0)) n, (k.at_most x (num (pos 1)) n (k.number (pos 1)), (k.at_most t x o n, tt)))

  all_facts_fine : (ss : List Slots) → AllSlots ss → (bs : List Base) (cs : List Change) → ChangesWrite bs cs → (ps : List (Option Tree)) → Picked bs ps → (ts : List Tree) → Terms bs ts
      → Formulas (facts ss cs ps ts)
  all_facts_fine ss a bs [] h ps j ts l = tt
  all_facts_fine ss a bs (ch ∷ cs) h [] j ts l = tt
  all_facts_fine ss a [] (ch ∷ cs) h (p ∷ ps) j ts l = absurd j
  all_facts_fine ss a (b ∷ bs) (ch ∷ cs) h (p ∷ ps) j [] l = tt
  all_facts_fine ss a (b ∷ bs) (ch ∷ cs) h (p ∷ ps) j (t ∷ ts) l =
      formulas_both (facts_if ss ch p t) (facts ss cs ps ts) (fact_fine ss a b ch h.0 p j.0 t l.0) (all_facts_fine ss a bs cs h.1 ps j.1 ts l.1)

  renewed_fine : (olds : List Slots) → AllSlots olds → (c : Used) (cs : List Change) → ChangesWrite bases cs → (w : World) → Fine w → Fine (renewed bases olds c cs w)
  renewed_fine olds a c cs h w f =
      let ps = renewals bases c cs w.slots.terms in
      let l = renewals_fine bases (λ b i. i) c cs w.slots.terms in
      record {
        known = formulas_both w.known _ f.known (all_facts_fine (w.slots ∷ olds) (f.slots, a) bases cs h ps l w.slots.terms f.slots.terms);
        slots = record { terms = chosen_fine bases ps w.slots.terms l f.slots.terms; table = f.slots.table; trail = f.slots.trail };
      }

  marked_fine : (c : Used) (w : World) → Fine w → Fine (marked c w)
  marked_fine c w f = record { known = f.known; slots = record { terms = f.slots.terms; table = f.slots.table; trail = with_fine w.slots.trail _ f.slots.trail f.slots.table } }

  grown_fine : (c : Used) (w : World) → Fine w → Fine (grown_world c w)
  grown_fine c w f =
      let x = new_name c count_base in
      let n = k.counted (c count_base.name) in
      record {
        known = formulas_both w.known _ f.known (k.at_most (count_of w.slots.table) x (k.count w.slots.table f.slots.table) n, tt);
        slots = record { terms = f.slots.terms; table = k.grow w.slots.table x f.slots.table n; trail = f.slots.trail };
      }

  made_fine : (c : Used) (i : ℕ) (l : Layout) (w : World) → sort_at bases i ≡ false → Fine w → Fine (made_world c i l w)
  made_fine c i l w e f =
      let t = k.alloc w.slots.table l f.slots.table in
      let n = subst (λ y. OfSort y (count_of w.slots.table)) (sym e) (k.count w.slots.table f.slots.table) in
      record { known = f.known; slots = record { terms = put_fine bases w.slots.terms i (count_of w.slots.table) f.slots.terms n; table = t; trail = (t, tt) } }

  ended_fine : (old : Slots) (w : World) → Written old → Fine w → Fine (ended_world old w)
  ended_fine old w h f =
      record { known = f.known; slots = record { terms = f.slots.terms; table = k.grow old.table _ h.table (k.count w.slots.table f.slots.table); trail = h.trail } }

  old_fine : (ss : Slots) (olds : List Slots) (l : ℕ) → Written ss → AllSlots olds → Written (at_or ss olds l)
  old_fine ss [] l h j = h
  old_fine ss (old ∷ olds) zero h j = j.0
  old_fine ss (old ∷ olds) (suc l) h j = old_fine ss olds l h j.1

  -- ---- walks

  pub record GoalFine (g : Goal) : Type 0 where
    pub known : Formulas g.known
    pub claim : Formula g.claim

  pub record WalkFine (r : Walked) : Type 0 where
    pub goals : (g : Goal) → In g r.goals → GoalFine g
    pub goes : (w : World) → r.end ≡ Some w → Fine w
    pub left : (l : ℕ) (w : World) → In w (r.left l) → Fine w

  knows_fine : (w : World) (fs : List Tree) → Fine w → Formulas fs → Fine (knows w fs)
  knows_fine w fs h j = record { known = formulas_both w.known fs h.known j; slots = h.slots }

  asked_fine : (n : ℕ) (known : List Tree) (ss : List Slots) → AllSlots ss → (cs : List Check) → AllWrite (forms cs) → Formulas known → (g : Goal) → In g (asked n known ss cs) → GoalFine g
  asked_fine n known ss a [] h f g i = absurd i
  asked_fine n known ss a (c ∷ cs) h f g (inl e) = subst GoalFine (sym e) (record { known = f; claim = h.0 ss a })
  asked_fine n known ss a (c ∷ cs) h f g (inr i) =
      asked_fine (suc n) (known ++ c.form.written ss ∷ []) ss a cs h.1 (formulas_both known _ f (h.0 ss a, tt)) g i

  stays_fine : (gs : List Goal) (c : Used) (w : World) → ((g : Goal) → In g gs → GoalFine g) → Fine w → WalkFine (stays gs c w)
  stays_fine gs c w h f = record { goals = h; goes = λ v e. subst Fine (some_parts e) f; left = λ l v i. absurd i }

  then_fine : (r : Walked) (go : Used → World → Walked) (end : Option World) → r.end ≡ end → WalkFine r → ((c : Used) (w : World) → Fine w → WalkFine (go c w)) → WalkFine (then_walk r end go)
  then_fine r go None e h f = h
  then_fine r go (Some w) e h f =
      let q = f r.used w (h.goes w e) in
      record {
        goals = λ g i. ⊎_elim (λ x. h.goals g x) (λ x. q.goals g x) (in_either g r.goals _ i);
        goes = q.goes;
        left = λ l v i. ⊎_elim (λ x. h.left l v x) (λ x. q.left l v x) (in_either v (r.left l) _ i);
      }

  arms_fine : (r q : Walked) → WalkFine r → WalkFine q → WalkFine (both_arms bases r q)
  arms_fine r q h j = record {
    goals = λ g i. ⊎_elim (λ x. h.goals g x) (λ x. j.goals g x) (in_either g r.goals q.goals i);
    goes = meet_fine q.used (list_of r.end ++ list_of q.end)
        (λ w i. ⊎_elim (λ x. h.goes w (list_of_in w r.end x)) (λ x. j.goes w (list_of_in w q.end x)) (in_either w (list_of r.end) (list_of q.end) i));
    left = λ l v i. ⊎_elim (λ x. h.left l v x) (λ x. j.left l v x) (in_either v (r.left l) (q.left l) i);
  }

  block_fine : (r : Walked) → WalkFine r → WalkFine (blocked bases r)
  block_fine r h = record {
    goals = h.goals;
    goes = meet_fine r.used (r.left 0 ++ list_of r.end) (λ w i. ⊎_elim (λ x. h.left 0 w x) (λ x. h.goes w (list_of_in w r.end x)) (in_either w (r.left 0) (list_of r.end) i));
    left = λ l v i. h.left (suc l) v i;
  }

  restored_fine : (is : List ℕ) (old w : World) → Fine old → Fine w → Fine (restored is old w)
  restored_fine is old w h j =
      record {
        known = j.known;
        slots = record { terms = restore_fine (num (pos 0)) is old.slots.terms w.slots.terms h.slots.terms j.slots.terms; table = j.slots.table; trail = j.slots.trail };
      }

  scope_fine : (is : List ℕ) (old : World) (r : Walked) → Fine old → WalkFine r → WalkFine (on_worlds (restored is old) r)
  scope_fine is old r h j = record {
    goals = j.goals;
    goes = λ v e. by r.end refl v e;
    left = λ l v i. let x = map_in (restored is old) v (r.left l) i in subst Fine x.2 (restored_fine is old x.0 h (j.left l x.0 x.1));
  }
    where
      by : (x : Option World) → r.end ≡ x → (v : World) → option_map (restored is old) x ≡ Some v → Fine v
      by None q v e = absurd (none_some e)
      by (Some u) q v e = subst Fine (some_parts e) (restored_fine is old u h (j.goes u q))

  pub walk_fine : (a : Step) → Writes a → (olds : List Slots) → AllSlots olds → (n : ℕ) (c : Used) (w : World) → Fine w → WalkFine (walk bases olds n a c w)
  walk_fine s.skip h olds o n c w f = stays_fine [] c w (λ g i. absurd i) f
  walk_fine s.halt h olds o n c w f = record { goals = λ g i. absurd i; goes = λ v e. absurd (none_some e); left = λ l v i. absurd i }
  walk_fine (s.seq a b) h olds o n c w f =
      let r = walk bases olds n a c w in
      then_fine r (walk bases olds (n + count a) b) r.end refl (walk_fine a h.0 olds o n c w f) (λ c w f. walk_fine b h.1 olds o (n + count a) c w f)
  walk_fine (s.ask cs) h olds o n c w f =
      let a : AllSlots (w.slots ∷ olds) = (f.slots, o) in
      stays_fine (asked n w.known (w.slots ∷ olds) cs) c _ (λ g i. asked_fine n w.known (w.slots ∷ olds) a cs h f.known g i) (knows_fine w _ f (forms_fine (forms cs) h (w.slots ∷ olds) a))
  walk_fine (s.know fs) h olds o n c w f = stays_fine [] c _ (λ g i. absurd i) (knows_fine w _ f (forms_fine fs h (w.slots ∷ olds) (f.slots, o)))
  walk_fine (s.set i u) h olds o n c w f = stays_fine [] _ _ (λ g i. absurd i) (set_fine c w i (u.written (w.slots ∷ olds)) f (h (w.slots ∷ olds) (f.slots, o)))
  walk_fine (s.change cs) h olds o n c w f = stays_fine [] _ _ (λ g i. absurd i) (renewed_fine olds o c cs h w f)
  walk_fine (s.choose p a b) h olds o n c w f =
      let g = p.written (w.slots ∷ olds) in
      let j = h.0.0 (w.slots ∷ olds) (f.slots, o) in
      let v = marked c w in
      let e = marked_fine c w f in
      let d = use_one c mark_base in
      let r = walk bases olds n a d (knows v (g ∷ [])) in
      arms_fine r (walk bases olds (n + count a) b r.used (knows v (not_of g ∷ []))) (walk_fine a h.1 olds o n d _ (knows_fine v _ e (j, tt)))
      (walk_fine b h.2 olds o (n + count a) r.used _ (knows_fine v _ e (k.not_of g j, tt)))
  walk_fine (s.block a) h olds o n c w f = block_fine (walk bases olds n a c w) (walk_fine a h olds o n c w f)
  walk_fine (s.exit j) h olds o n c w f =
      record { goals = λ g i. absurd i; goes = λ v e. absurd (none_some e); left = λ l v i. subst Fine (sym (left_only j w l v i).1) f }
  walk_fine (s.scope is a) h olds o n c w f = scope_fine is w (walk bases olds n a c w) f (walk_fine a h olds o n c w f)
  walk_fine (s.remember a) h olds o n c w f =
      let e = marked_fine c w f in walk_fine a h ((marked c w).slots ∷ olds) (e.slots, o) n (use_one c mark_base) (marked c w) e
  walk_fine s.grown h olds o n c w f = stays_fine [] _ _ (λ g i. absurd i) (grown_fine c w f)
  walk_fine (s.made i l) h olds o n c w f = stays_fine [] _ _ (λ g i. absurd i) (made_fine c i l w h f)
  walk_fine (s.ended l) h olds o n c w f = stays_fine [] c _ (λ g i. absurd i) (ended_fine (at_or w.slots olds l) w (old_fine w.slots olds l f.slots o) f)
