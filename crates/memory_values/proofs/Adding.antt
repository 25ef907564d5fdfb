-- Items pushed behind others.
use Rattle.std.proofs.Common.{◌≡◌, ℕ, Bool, true, false, List, [], ◌∷◌, ◌++◌, map, Ok, Err, refl, sym, ap, ◌∙◌, subst, append_assoc, append-nil}
use Rattle.std.specs.Prelude.{Result}
use Rattle.std.proofs.lemmas.List.{map_push}
use Rattle.wp_base.specs.declared.memory.NoMemory.{NoMemory}
use Rattle.qed_terms.specs.declared.term.Formula.{Formula}
use Rattle.qed_terms.specs.Tree.{Tree}
use Rattle.qed_terms.specs.View.{formula_tree}
use Rattle.c_runs.specs.Operators as c
use Rattle.c_runs.specs.Checks.{here}
use Rattle.check_lists.specs.declared.checks.Undefined.{Undefined}
use Rattle.check_lists.specs.View.{view_undefined}
use Rattle.value_terms.specs.Words as words
use Rattle.memory_values.specs.declared.items.Item.{Item}
use Rattle.memory_values.specs.declared.items.Item.TheVariants as item
use Rattle.memory_values.specs.View.{view_item, view_items, placed, Pushed}
use Rattle.memory_values.specs.Drafts.{Pushes}

pub none_pushed : (old : List Item) → Pushed old old []
none_pushed old = record { are = sym (append-nil (view_items old)) }

asked_pushed : (old new : List Item) (kind : Undefined) (line : ℕ) (x : Formula) (f : Tree) → new ≡ old ++ item.Asked kind line x ∷ [] → formula_tree x ≡ f
    → Pushed old new (words.asked (here (view_undefined kind) line) f ∷ [])
asked_pushed old new kind line x f e is = record {
  are = ap view_items e ∙ map_push view_item old (item.Asked kind line x) ∙ ap (λ f. view_items old ++ words.asked (here (view_undefined kind) line) f ∷ []) is;
}

known_pushed : (old new : List Item) (x : Formula) (f : Tree) → new ≡ old ++ item.Known x ∷ [] → formula_tree x ≡ f → Pushed old new (words.known f ∷ [])
known_pushed old new x f e is = record { are = ap view_items e ∙ map_push view_item old (item.Known x) ∙ ap (λ f. view_items old ++ words.known f ∷ []) is }

pub asks : {A : Type 0} (a : A) (old new : List Item) (kind : Undefined) (line : ℕ) (x : Formula) (f : Tree) → new ≡ old ++ item.Asked kind line x ∷ [] → formula_tree x ≡ f
    → Pushes (Ok a) old new (words.asked (here (view_undefined kind) line) f ∷ [])
asks a old new kind line x f e is = record { is = asked_pushed old new kind line x f e is }

pub knows : {A : Type 0} (a : A) (old new : List Item) (x : Formula) (f : Tree) → new ≡ old ++ item.Known x ∷ [] → formula_tree x ≡ f → Pushes (Ok a) old new (words.known f ∷ [])
knows a old new x f e is = record { is = known_pushed old new x f e is }

pub wants : {A : Type 0} (e : NoMemory) (old new : List Item) (is : List words.Item) → Pushes {A = A} (Err e) old new is
wants e old new is = record { is = tt }

pub ruleset push_laws = (asks, knows, wants)

-- ---- where it is asked

pub pushes_none : {A : Type 0} (a : A) (old : List Item) → Pushes (Ok a) old old []
pushes_none a old = record { is = none_pushed old }

pub asks_if : {A : Type 0} (done : Result A NoMemory) (old new : List Item) (b : Bool) (u : c.Undefined) (line : ℕ) (f : Tree) → b ≡ true
    → Pushes done old new (words.asked (here u line) f ∷ []) → Pushes done old new (words.asked_if b u line f)
asks_if done old new b u line f t h = subst (λ b. Pushes done old new (words.asked_if b u line f)) (sym t) h

pub asks_not : {A : Type 0} (a : A) (old : List Item) (b : Bool) (u : c.Undefined) (line : ℕ) (f : Tree) → b ≡ false → Pushes (Ok a) old old (words.asked_if b u line f)
asks_not a old b u line f t = subst (λ b. Pushes (Ok a) old old (words.asked_if b u line f)) (sym t) (pushes_none a old)

pub ruleset asked_laws = (asks_if, asks_not)

-- of an index the number of its step isn't kept
pub index_pushes : {A : Type 0} (done : Result A NoMemory) (old new : List Item) (line n : ℕ) (f : Tree) → Pushes done old new (words.asked (here c.index line) f ∷ [])
    → Pushes done old new (words.asked (record { kind = c.index; line = line; step = n; way = [] }) f ∷ [])
index_pushes (Ok a) old new line n f h = record { is = record { are = h.is.are } }
index_pushes (Err e) old new line n f h = record { is = tt }

-- ---- one behind the other

pub map_append : {X Y : Type 0} (f : X → Y) (xs ys : List X) → map f (xs ++ ys) ≡ map f xs ++ map f ys
map_append f [] ys = refl
map_append f (x ∷ xs) ys = ap (λ zs. f x ∷ zs) (map_append f xs ys)

pub both_pushed : (old mid new : List Item) (xs ys : List words.Item) → Pushed old mid xs → Pushed mid new ys → Pushed old new (xs ++ ys)
both_pushed old mid new xs ys h g = record {
  are = g.are ∙ ap (λ zs. zs ++ map placed ys) h.are ∙ append_assoc (view_items old) (map placed xs) (map placed ys) ∙ ap (λ zs. view_items old ++ zs) (sym (map_append placed xs ys));
}

pub both_push : {A B : Type 0} (a : A) (done : Result B NoMemory) (old mid new : List Item) (xs ys : List words.Item) → Pushes (Ok a) old mid xs → Pushes done mid new ys → Pushes done old new (xs ++ ys)
both_push a (Ok b) old mid new xs ys h g = record { is = both_pushed old mid new xs ys h.is g.is }
both_push a (Err e) old mid new xs ys h g = record { is = tt }

pub one_before : {A B : Type 0} (a : A) (done : Result B NoMemory) (old mid new : List Item) (x : words.Item) (ys : List words.Item) → Pushes (Ok a) old mid (x ∷ []) → Pushes done mid new ys
    → Pushes done old new (x ∷ ys)
one_before a done old mid new x ys h g = both_push a done old mid new (x ∷ []) ys h g

pub three_push : {A B C : Type 0} (a : A) (b : B) (done : Result C NoMemory) (old mid next new : List Item) (xs ys zs : List words.Item)
    → Pushes (Ok a) old mid xs → Pushes (Ok b) mid next ys → Pushes done next new zs → Pushes done old new (xs ++ (ys ++ zs))
three_push a b done old mid next new xs ys zs h g k = both_push a done old mid new xs (ys ++ zs) h (both_push b done mid next new ys zs g k)
