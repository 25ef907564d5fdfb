-- Look-ups and what is known, item by item.
use Rattle.std.proofs.Common.{◌≡◌, ◌<◌, ◌≤◌, ℕ, ◌+◌, Bool, true, false, ◌&&◌, if◌then◌else◌, List, [], ◌∷◌, map, length, drop, get_or, refl, sym, ap, ◌∙◌}
use Rattle.std.specs.List.{list_all}
use Rattle.std.specs.Str.{bytes_eq}
use Rattle.std.proofs.lemmas.List.{at_drop_more, at_drop_all}
use Rattle.acsl_trees.specs.Tree.{Tree}
use Rattle.acsl_encode.specs.Binders.{Spelled}
use Rattle.typed_unit.specs.declared.unit.Part.{Part}
use Rattle.typed_unit.specs.View.{view_part}
use Rattle.binder_names.specs.Binders.{Known, found, with_decl, known_behind}
use Rattle.binder_names.specs.Trees.{same_tree}
use Rattle.binder_names.specs.Tables.{named_in, has_names}
use Rattle.binder_tables.specs.declared.binders.Known.{Known as CodeKnown}
use Rattle.binder_tables.specs.declared.entries.Entry.{Entry}
use Rattle.binder_tables.specs.View.{view_known, view_all_known, view_entry, view_entries}
use Rattle.binder_tables.proofs.Comparing.{passed, failed}

-- ---- the first one that passes a test

here_is : {X : Type 0} (b : Bool) (x y all : X) → b ≡ true → (if b then x else y) ≡ all → x ≡ all
here_is true x y all h k = k
here_is false x y all h k = absurd cc

later_is : {X : Type 0} (b : Bool) (x y all : X) → b ≡ false → (if b then x else y) ≡ all → y ≡ all
later_is true x y all h k = absurd cc
later_is false x y all h k = k

module _ (n : List ℕ) where
  known_next : (ks : List CodeKnown) (i : ℕ) (k : CodeKnown) (b : Bool) → i < length ks → k ≡ get_or ks i k → b ≡ bytes_eq (view_known k).name n
      → found (view_all_known (drop i ks)) n ≡ (if b then k.binders else found (view_all_known (drop (i + 1) ks)) n)
  known_next ks i k b lt is made =
      at_drop_more (λ us. found (view_all_known us) n) ks i k lt
      ∙ ap (λ (y : CodeKnown). if bytes_eq y.name n then y.binders else found (view_all_known (drop (i + 1) ks)) n) (sym is)
      ∙ ap (λ c. if c then k.binders else found (view_all_known (drop (i + 1) ks)) n) (sym made)

  pub find_here : (ks : List CodeKnown) (i : ℕ) (k : CodeKnown) (b : Bool) (all : Spelled) → i < length ks → k ≡ get_or ks i k → b ≡ bytes_eq (view_known k).name n → b ≡ true
      → found (view_all_known (drop i ks)) n ≡ all → k.binders ≡ all
  find_here ks i k b all lt is made yes_named so_far =
      here_is b k.binders (found (view_all_known (drop (i + 1) ks)) n) all yes_named (sym (known_next ks i k b lt is made) ∙ so_far)

  pub find_turn : (ks : List CodeKnown) (i : ℕ) (k : CodeKnown) (b : Bool) (all : Spelled) → i < length ks → k ≡ get_or ks i k → b ≡ bytes_eq (view_known k).name n → b ≡ false
      → found (view_all_known (drop i ks)) n ≡ all → found (view_all_known (drop (i + 1) ks)) n ≡ all
  find_turn ks i k b all lt is made not_named so_far =
      later_is b k.binders (found (view_all_known (drop (i + 1) ks)) n) all not_named (sym (known_next ks i k b lt is made) ∙ so_far)

  pub find_done : (ks : List CodeKnown) (i : ℕ) (all : Spelled) → length ks ≤ i → found (view_all_known (drop i ks)) n ≡ all → [] ≡ all
  find_done ks i all past so_far = sym (at_drop_all (λ us. found (view_all_known us) n) ks i past) ∙ so_far

module _ (a : Tree) where
  entry_next : (es : List Entry) (i : ℕ) (e : Entry) (b : Bool) → i < length es → e ≡ get_or es i e → b ≡ same_tree (view_entry e).tree a
      → named_in (view_entries (drop i es)) a ≡ (if b then e.binders else named_in (view_entries (drop (i + 1) es)) a)
  entry_next es i e b lt is made =
      at_drop_more (λ us. named_in (view_entries us) a) es i e lt
      ∙ ap (λ (y : Entry). if same_tree (view_entry y).tree a then y.binders else named_in (view_entries (drop (i + 1) es)) a) (sym is)
      ∙ ap (λ c. if c then e.binders else named_in (view_entries (drop (i + 1) es)) a) (sym made)

  pub entry_here : (es : List Entry) (i : ℕ) (e : Entry) (b : Bool) (all : Spelled) → i < length es → e ≡ get_or es i e → b ≡ same_tree (view_entry e).tree a → b ≡ true
      → named_in (view_entries (drop i es)) a ≡ all → e.binders ≡ all
  entry_here es i e b all lt is made yes_same so_far =
      here_is b e.binders (named_in (view_entries (drop (i + 1) es)) a) all yes_same (sym (entry_next es i e b lt is made) ∙ so_far)

  pub entry_turn : (es : List Entry) (i : ℕ) (e : Entry) (b : Bool) (all : Spelled) → i < length es → e ≡ get_or es i e → b ≡ same_tree (view_entry e).tree a → b ≡ false
      → named_in (view_entries (drop i es)) a ≡ all → named_in (view_entries (drop (i + 1) es)) a ≡ all
  entry_turn es i e b all lt is made not_same so_far =
      later_is b e.binders (named_in (view_entries (drop (i + 1) es)) a) all not_same (sym (entry_next es i e b lt is made) ∙ so_far)

  pub entries_done : (es : List Entry) (i : ℕ) (all : Spelled) → length es ≤ i → named_in (view_entries (drop i es)) a ≡ all → [] ≡ all
  entries_done es i all past so_far = sym (at_drop_all (λ us. named_in (view_entries us) a) es i past) ∙ so_far

-- ---- names of C

named_next : (es : List Entry) (i : ℕ) (e : Entry) (b : Bool) → i < length es → e ≡ get_or es i e → b ≡ has_names (view_entry e)
    → list_all has_names (view_entries (drop i es)) ≡ (b && list_all has_names (view_entries (drop (i + 1) es)))
named_next es i e b lt is made =
    at_drop_more (λ us. list_all has_names (view_entries us)) es i e lt
    ∙ ap (λ c. c && list_all has_names (view_entries (drop (i + 1) es))) (ap (λ y. has_names (view_entry y)) (sym is) ∙ sym made)

pub named_turn : (es : List Entry) (i : ℕ) (e : Entry) (b all : Bool) → i < length es → e ≡ get_or es i e → b ≡ has_names (view_entry e) → b ≡ true
    → list_all has_names (view_entries (drop i es)) ≡ all → list_all has_names (view_entries (drop (i + 1) es)) ≡ all
named_turn es i e b all lt is made fits so_far =
    passed b (list_all has_names (view_entries (drop (i + 1) es))) all fits (sym (named_next es i e b lt is made) ∙ so_far)

pub named_fault : (es : List Entry) (i : ℕ) (e : Entry) (b all : Bool) → i < length es → e ≡ get_or es i e → b ≡ has_names (view_entry e) → b ≡ false
    → list_all has_names (view_entries (drop i es)) ≡ all → false ≡ all
named_fault es i e b all lt is made fails so_far =
    failed b (list_all has_names (view_entries (drop (i + 1) es))) all fails (sym (named_next es i e b lt is made) ∙ so_far)

pub named_done : (es : List Entry) (i : ℕ) (all : Bool) → length es ≤ i → list_all has_names (view_entries (drop i es)) ≡ all → true ≡ all
named_done es i all past so_far = sym (at_drop_all (λ us. list_all has_names (view_entries us)) es i past) ∙ so_far

-- ---- definitions

pub known_turn : (ps : List Part) (i : ℕ) (p : Part) (ks next all : List Known) → i < length ps → p ≡ get_or ps i p → next ≡ with_decl ks (view_part p).decl
    → known_behind ks (map view_part (drop i ps)) ≡ all → known_behind next (map view_part (drop (i + 1) ps)) ≡ all
known_turn ps i p ks next all lt is made so_far =
    ap (λ ks. known_behind ks (map view_part (drop (i + 1) ps))) made
    ∙ ap (λ q. known_behind (with_decl ks (view_part q).decl) (map view_part (drop (i + 1) ps))) is
    ∙ sym (at_drop_more (λ us. known_behind ks (map view_part us)) ps i p lt) ∙ so_far

pub known_done : (ps : List Part) (i : ℕ) (ks all : List Known) → length ps ≤ i → known_behind ks (map view_part (drop i ps)) ≡ all → ks ≡ all
known_done ps i ks all past so_far = sym (at_drop_all (λ us. known_behind ks (map view_part us)) ps i past) ∙ so_far

pub ruleset known_laws = (known_turn, known_done)
