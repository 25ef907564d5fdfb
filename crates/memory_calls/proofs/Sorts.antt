-- Runs keep the sorts of slots.
use Rattle.std.proofs.Common.{ℕ, zero, suc, Bool, true, false, List, [], ◌∷◌, sym, ◌∙◌, subst}
use Rattle.wp_base.specs.Blocks.{count}
use Rattle.qed_terms.specs.Meaning as sense
use Rattle.walk_steps.specs.State.{at_or, put, restore}
use Rattle.memory_steps.specs.State.{Datum, number, cells as memory_datum, State, Base, HasSort, HaveSorts, IsLike, nothing}
use Rattle.memory_steps.specs.Step.{Change, keeps, fresh, raised, Step, sort_at, IsChange, AreChanges, IsGood}
use Rattle.memory_steps.specs.Run as seg
use Rattle.memory_steps.specs.Run.{End, goes_on, leaves, fails, out, on_state, put_back, Changed, Changes, Seg}
use Rattle.memory_words.specs.Places.{slot}
use Rattle.memory_calls.specs.Sorts.{EndHasSorts, RunsKeepSorts, SortedPlacesHoldNumbers}

-- ---- a slot

put_sorted : (bases : List Base) (ds : List Datum) (i : ℕ) (d : Datum) → HaveSorts bases ds → HasSort (sort_at bases i) d → HaveSorts bases (put ds i d)
put_sorted [] [] i d h k = tt
put_sorted [] (x ∷ ds) i d h k = absurd h
put_sorted (b ∷ bases) [] i d h k = absurd h
put_sorted (b ∷ bases) (x ∷ ds) zero d h k = (k, h.1)
put_sorted (b ∷ bases) (x ∷ ds) (suc i) d h k = (h.0, put_sorted bases ds i d h.1 k)

back_sorted : (bases : List Base) (old new : List Datum) (i : ℕ) → HaveSorts bases old → HaveSorts bases new → HaveSorts bases (put new i (at_or nothing old i))
back_sorted [] [] [] i h k = tt
back_sorted [] [] (y ∷ new) i h k = absurd k
back_sorted [] (x ∷ old) new i h k = absurd h
back_sorted (b ∷ bases) [] new i h k = absurd h
back_sorted (b ∷ bases) (x ∷ old) [] i h k = absurd k
back_sorted (b ∷ bases) (x ∷ old) (y ∷ new) zero h k = (h.0, k.1)
back_sorted (b ∷ bases) (x ∷ old) (y ∷ new) (suc i) h k = (k.0, back_sorted bases old new i h.1 k.1)

restored_sorted : (bases : List Base) (is : List ℕ) (old new : List Datum) → HaveSorts bases old → HaveSorts bases new → HaveSorts bases (restore nothing is old new)
restored_sorted bases [] old new h k = k
restored_sorted bases (i ∷ is) old new h k = restored_sorted bases is old (put new i (at_or nothing old i)) h (back_sorted bases old new i h k)

-- what the slot of a place holds
sort_there : (bases : List Base) (ds : List Datum) (i : ℕ) → HaveSorts bases ds → HasSort (sort_at bases i) (at_or nothing ds i)
sort_there [] [] i h = tt
sort_there [] (x ∷ ds) i h = absurd h
sort_there (b ∷ bases) [] i h = absurd h
sort_there (b ∷ bases) (x ∷ ds) zero h = h.0
sort_there (b ∷ bases) (x ∷ ds) (suc i) h = sort_there bases ds i h.1

-- ---- changes

like_sorted : (b : Bool) (x y : Datum) → IsLike x y → HasSort b x → HasSort b y
like_sorted false (number x) (number y) l h = tt
like_sorted false (number x) (memory_datum n) l h = absurd l
like_sorted false (memory_datum k) y l h = absurd h
like_sorted true (number x) y l h = absurd h
like_sorted true (memory_datum k) (number y) l h = absurd l
like_sorted true (memory_datum k) (memory_datum n) l h = tt

module _ (m : sense.World) where
  change_sorted : (sts : List State) (b : Base) (c : Change) (x y : Datum) → IsChange m b c → Changed sts c x y → HasSort b.is_memory x → HasSort b.is_memory y
  change_sorted sts b keeps x y g c h = subst (HasSort b.is_memory) c h
  change_sorted sts b (fresh fs) x y g c h = like_sorted b.is_memory x y c.0 h
  change_sorted sts b raised (number x) (number y) g c h = subst (λ t. HasSort t (number y)) (sym g) tt
  change_sorted sts b raised (number x) (memory_datum n) g c h = absurd c
  change_sorted sts b raised (memory_datum k) (number y) g c h = absurd c
  change_sorted sts b raised (memory_datum k) (memory_datum n) g c h = absurd c

  changes_sorted : (sts : List State) (bases : List Base) (cs : List Change) (xs ys : List Datum) → AreChanges m bases cs → Changes sts cs xs ys → HaveSorts bases xs
      → HaveSorts bases ys
  changes_sorted sts bases [] xs ys g c h = subst (HaveSorts bases) c h
  changes_sorted sts [] (k ∷ cs) [] [] g c h = tt
  changes_sorted sts [] (k ∷ cs) [] (y ∷ ys) g c h = absurd c
  changes_sorted sts [] (k ∷ cs) (x ∷ xs) ys g c h = absurd h
  changes_sorted sts (b ∷ bases) (k ∷ cs) [] ys g c h = absurd h
  changes_sorted sts (b ∷ bases) (k ∷ cs) (x ∷ xs) [] g c h = absurd c
  changes_sorted sts (b ∷ bases) (k ∷ cs) (x ∷ xs) (y ∷ ys) g c h = (change_sorted sts b k x y g.0 c.0 h.0, changes_sorted sts bases cs xs ys g.1 c.1 h.1)

  -- ---- runs

  module _ (bases : List Base) where
    out_sorted : (e : End) → EndHasSorts bases e → EndHasSorts bases (out e)
    out_sorted (goes_on st) h = h
    out_sorted (leaves zero st) h = h
    out_sorted (leaves (suc k) st) h = h
    out_sorted (fails i) h = tt

    put_back_sorted : (is : List ℕ) (old : State) (e : End) → HaveSorts bases old.slots → EndHasSorts bases e → EndHasSorts bases (on_state (put_back is old) e)
    put_back_sorted is old (goes_on st) h k = restored_sorted bases is old.slots st.slots h k
    put_back_sorted is old (leaves l st) h k = restored_sorted bases is old.slots st.slots h k
    put_back_sorted is old (fails i) h k = tt

    sorted : {olds : List State} {n : ℕ} {a : Step} {st : State} {e : End} → Seg olds n a st e → IsGood m bases a → HaveSorts bases st.slots → EndHasSorts bases e
    sorted seg.skips g h = h
    sorted (seg.goes_both x y) g h = sorted y g.1 (sorted x g.0 h)
    sorted (seg.ends_first x over) g h = sorted x g.0 h
    sorted (seg.asks t) g h = h
    sorted (seg.ask_fails f) g h = tt
    sorted (seg.knows_so t) g h = h
    sorted (seg.sets {olds} {n} {i} {u} {st}) g h = put_sorted bases st.slots i (u.told (st ∷ olds)) h (g.sort (st ∷ olds))
    sorted (seg.changes {olds} {n} {cs} {st} ds c) g h = changes_sorted (st ∷ olds) bases cs st.slots ds g c h
    sorted (seg.first_arm e x) g h = sorted x g.1 h
    sorted (seg.second_arm e x) g h = sorted x g.2 h
    sorted (seg.blocks {o = o} x) g h = out_sorted o (sorted x g h)
    sorted seg.exits g h = h
    sorted (seg.scopes {olds} {n} {is} {a} {st} {o} x) g h = put_back_sorted is st o h (sorted x g h)
    sorted (seg.remembers x) g h = sorted x g h
    sorted (seg.grows z more) g h = h
    sorted (seg.makes {olds} {n} {i} {l} {st}) g h = put_sorted bases st.slots i (number (count st.table)) h (subst (λ t. HasSort t (number (count st.table))) (sym g) tt)
    sorted seg.ends g h = h

pub runs_keep_sorts : RunsKeepSorts
runs_keep_sorts m bases a good olds n st e h run = sorted m bases run good h

pub sorted_places_hold_numbers : SortedPlacesHoldNumbers
sorted_places_hold_numbers z cells bases are st h a there off =
    subst (λ t. HasSort t (at_or nothing st.slots (slot z a))) (are a there ∙ off) (sort_there bases st.slots (slot z a) h)
