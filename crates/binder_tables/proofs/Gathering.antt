-- Names and annotations that are put behind others.
use Rattle.std.proofs.Common.{◌≡◌, ℕ, ◌+◌, ◌<◌, ◌≤◌, ◌⊎◌, inl, inr, ⊎_elim, List, [], ◌∷◌, ◌++◌, map, length, drop, get_or, refl, sym, ap, ◌∙◌, append_assoc, append-nil, arith}
use Rattle.std.specs.Prelude.{Option, min}
use Rattle.std.specs.Borrow.{Bor}
use Rattle.std.proofs.lemmas.List.{at_drop_more, at_drop_all, map_push}
use Rattle.c_syntax.specs.Pred.{Pred}
use Rattle.c_syntax.specs.Contract as spelled
use Rattle.typed_unit.specs.Stmt as typed
use Rattle.typed_unit.specs.Unit as u
use Rattle.acsl_trees.specs.declared.tree.Tree.{Tree as CodeTree}
use Rattle.acsl_trees.specs.Tree.{view_tree}
use Rattle.acsl_encode.specs.Binders.{Spelled}
use Rattle.c_runs.specs.Program.{Function, Stmts}
use Rattle.binder_names.specs.Binders.{Known, binders_of}
use Rattle.c_syntax.specs.declared.annot.Clause.{Clause as CodeClause}
use Rattle.c_syntax.specs.declared.annot.Behavior.{Behavior as CodeBehavior}
use Rattle.c_syntax.specs.View.{view_clause, view_behavior}
use Rattle.binder_names.specs.Notes.{Note, Claimed, preds_of}
use Rattle.binder_names.specs.Tables.{Named, named_as, claims_named, trees_named, behaviors_named, notes_named, contract_of, body_of, decls_named, bodies_named}
use Rattle.binder_tables.specs.declared.notes.Note.{Note as CodeNote}
use Rattle.binder_tables.specs.declared.notes.Claimed.{Claimed as CodeClaimed}
use Rattle.binder_tables.specs.declared.entries.Entry.{Entry}
use Rattle.binder_tables.specs.View.{view_note, view_claimed, view_entry, view_entries}

-- ---- lists

pub both : {X : Type 0} (xs ys zs us vs : List X) → ys ≡ xs ++ us → zs ≡ ys ++ vs → zs ≡ xs ++ (us ++ vs)
both xs ys zs us vs first second = second ∙ ap (λ ws. ws ++ vs) first ∙ append_assoc xs us vs

pub pushed : {X Y : Type 0} (f : X → Y) (xs ys : List X) (x : X) → ys ≡ xs ++ x ∷ [] → map f ys ≡ map f xs ++ f x ∷ []
pushed f xs ys x is = ap (map f) is ∙ map_push f xs x

module _ {X Y : Type 0} (f : List X → List Y) where
  pub put_turn : (xs : List X) (i : ℕ) (x : X) (here ns next all : List Y) → i < length xs → x ≡ get_or xs i x → f (x ∷ drop (i + 1) xs) ≡ here ++ f (drop (i + 1) xs)
      → next ≡ ns ++ here → ns ++ f (drop i xs) ≡ all → next ++ f (drop (i + 1) xs) ≡ all
  put_turn xs i x here ns next all lt is splits made so_far =
      ap (λ us. us ++ f (drop (i + 1) xs)) made ∙ append_assoc ns here (f (drop (i + 1) xs))
      ∙ ap (λ us. ns ++ us) (sym splits ∙ ap (λ z. f (z ∷ drop (i + 1) xs)) is ∙ sym (at_drop_more f xs i x lt)) ∙ so_far

  pub put_done : (xs : List X) (i : ℕ) (ns all : List Y) → f [] ≡ [] → length xs ≤ i → ns ++ f (drop i xs) ≡ all → ns ≡ all
  put_done xs i ns all none past so_far = sym (append-nil ns) ∙ ap (λ us. ns ++ us) (sym none ∙ sym (at_drop_all f xs i past)) ∙ so_far

module _ {X Z Y : Type 0} (f : List X → List Z → List Y) where
  pub zip_turn : (xs : List X) (zs : List Z) (i : ℕ) (x : X) (z : Z) (here ns next all : List Y) → i < length xs → i < length zs → x ≡ get_or xs i x → z ≡ get_or zs i z
      → f (x ∷ drop (i + 1) xs) (z ∷ drop (i + 1) zs) ≡ here ++ f (drop (i + 1) xs) (drop (i + 1) zs)
      → next ≡ ns ++ here → ns ++ f (drop i xs) (drop i zs) ≡ all → next ++ f (drop (i + 1) xs) (drop (i + 1) zs) ≡ all
  zip_turn xs zs i x z here ns next all lt lu is js splits made so_far =
      ap (λ us. us ++ f (drop (i + 1) xs) (drop (i + 1) zs)) made ∙ append_assoc ns here (f (drop (i + 1) xs) (drop (i + 1) zs))
      ∙ ap (λ us. ns ++ us) (sym splits ∙ (λ j. f (is j ∷ drop (i + 1) xs) (js j ∷ drop (i + 1) zs)) ∙ sym (at_drop_more (f (get_or xs i x ∷ drop (i + 1) xs)) zs i z lu)
      ∙ sym (at_drop_more (λ us. f us (drop i zs)) xs i x lt)) ∙ so_far

  pub zip_done : (xs : List X) (zs : List Z) (i : ℕ) (ns all : List Y) → ((us : List Z) → f [] us ≡ []) → ((us : List X) → f us [] ≡ []) → min (length xs) (length zs) ≤ i
      → ns ++ f (drop i xs) (drop i zs) ≡ all → ns ≡ all
  zip_done xs zs i ns all left right past so_far =
      sym (append-nil ns) ∙ ap (λ us. ns ++ us) (sym (⊎_elim none_left none_right shorter)) ∙ so_far
    where
      shorter : (length xs ≤ i) ⊎ (length zs ≤ i)
      shorter = grind (arith, past)

      none_left : length xs ≤ i → f (drop i xs) (drop i zs) ≡ []
      none_left h = at_drop_all (λ us. f us (drop i zs)) xs i h ∙ left (drop i zs)

      none_right : length zs ≤ i → f (drop i xs) (drop i zs) ≡ []
      none_right h = at_drop_all (f (drop i xs)) zs i h ∙ right (drop i xs)

-- ---- names

pub both_put : (xs ys zs us vs : Spelled) → ys ≡ xs ++ us → zs ≡ ys ++ vs → zs ≡ xs ++ (us ++ vs)
both_put = both

pub three_put : (xs ys zs ws us vs ts : Spelled) → ys ≡ xs ++ us → zs ≡ ys ++ vs → ws ≡ zs ++ ts → ws ≡ xs ++ (us ++ (vs ++ ts))
three_put xs ys zs ws us vs ts first second third = both_put xs ys ws us (vs ++ ts) first (both_put ys zs ws vs ts second third)

pub nothing_put : (xs : Spelled) → xs ≡ xs ++ []
nothing_put xs = sym (append-nil xs)

pub ruleset gather_laws = (both_put, three_put, nothing_put)

-- ---- annotations of bodies

pub note_put : (ns next : List CodeNote) (n : CodeNote) → next ≡ ns ++ n ∷ [] → map view_note next ≡ map view_note ns ++ view_note n ∷ []
note_put ns next n is = pushed view_note ns next n is

pub notes_put : (xs ys zs us vs : List Note) → ys ≡ xs ++ us → zs ≡ ys ++ vs → zs ≡ xs ++ (us ++ vs)
notes_put = both

pub note_first : (xs ys zs vs : List Note) (n : Note) → ys ≡ xs ++ n ∷ [] → zs ≡ ys ++ vs → zs ≡ xs ++ n ∷ vs
note_first xs ys zs vs n first second = both xs ys zs (n ∷ []) vs first second

pub no_note : (xs : List Note) → xs ≡ xs ++ []
no_note xs = sym (append-nil xs)

pub ruleset note_laws = (notes_put, note_first, no_note)

pub claimed_put : (ns next : List CodeClaimed) (n : CodeClaimed) → next ≡ ns ++ n ∷ [] → map view_claimed next ≡ map view_claimed ns ++ view_claimed n ∷ []
claimed_put ns next n is = pushed view_claimed ns next n is

pub claims_put : (xs ys zs us vs : List Claimed) → ys ≡ xs ++ us → zs ≡ ys ++ vs → zs ≡ xs ++ (us ++ vs)
claims_put = both

pub claim_first : (xs ys zs vs : List Claimed) (n : Claimed) → ys ≡ xs ++ n ∷ [] → zs ≡ ys ++ vs → zs ≡ xs ++ n ∷ vs
claim_first xs ys zs vs n first second = both xs ys zs (n ∷ []) vs first second

pub no_claim : (xs : List Claimed) → xs ≡ xs ++ []
no_claim xs = sym (append-nil xs)

pub ruleset claimed_laws = (claims_put, claim_first, no_claim)

-- ---- entries

pub entry_put : (es next : List Entry) (e : Entry) (ks : List Known) (a : Pred) → next ≡ es ++ e ∷ [] → e.binders ≡ binders_of ks a
    → view_entries next ≡ view_entries es ++ named_as ks a (view_tree e.tree.now) ∷ []
entry_put es next e ks a is made =
    pushed view_entry es next e is ∙ ap (λ (bs : Spelled). view_entries es ++ record { tree = view_tree e.tree.now; binders = bs } ∷ []) made

pub entries_put : (xs ys zs us vs : List Named) → ys ≡ xs ++ us → zs ≡ ys ++ vs → zs ≡ xs ++ (us ++ vs)
entries_put = both

pub three_entries : (xs ys zs ws us vs ts : List Named) → ys ≡ xs ++ us → zs ≡ ys ++ vs → ws ≡ zs ++ ts → ws ≡ xs ++ (us ++ (vs ++ ts))
three_entries xs ys zs ws us vs ts first second third = entries_put xs ys ws us (vs ++ ts) first (entries_put ys zs ws vs ts second third)

pub no_entry : (xs : List Named) → xs ≡ xs ++ []
no_entry xs = sym (append-nil xs)

pub contract_by : (ks : List Known) (k : spelled.Contract) (o f : Option (Function Stmts)) (xs ys : List Named) → o ≡ f → ys ≡ xs ++ contract_of ks k o
    → ys ≡ xs ++ contract_of ks k f
contract_by ks k o f xs ys is made = made ∙ ap (λ o. xs ++ contract_of ks k o) is

pub body_by : (ks : List Known) (x : typed.Stmt) (o f : Option (Function Stmts)) (xs ys : List Named) → o ≡ f → ys ≡ xs ++ body_of ks x o → ys ≡ xs ++ body_of ks x f
body_by ks x o f xs ys is made = made ∙ ap (λ o. xs ++ body_of ks x o) is

pub ruleset entry_laws = (entries_put, three_entries, no_entry)

pub table_is : (ks whole : List Known) (fs : ℕ → Option (Function Stmts)) (ps : List u.Part) (bs : List u.Body) (xs ys : List Named) → ks ≡ whole
    → xs ≡ decls_named ks fs ps → ys ≡ xs ++ bodies_named ks fs bs → ys ≡ decls_named whole fs ps ++ bodies_named whole fs bs
table_is ks whole fs ps bs xs ys known first second =
    second ∙ ap (λ xs. xs ++ bodies_named ks fs bs) first ∙ ap (λ ks. decls_named ks fs ps ++ bodies_named ks fs bs) known

-- ---- nothing beside what is spelled

module _ (ks : List Known) where
  pub no_claims : (us : List CodeClause) → claims_named ks (preds_of (map view_clause us)) [] ≡ []
  no_claims [] = refl
  no_claims (u ∷ us) = refl

  pub no_trees : (us : List CodeClause) → trees_named ks (preds_of (map view_clause us)) [] ≡ []
  no_trees [] = refl
  no_trees (u ∷ us) = refl

  pub no_behaviors : (us : List CodeBehavior) → behaviors_named ks (map view_behavior us) [] ≡ []
  no_behaviors [] = refl
  no_behaviors (u ∷ us) = refl

  pub no_notes : (us : List CodeNote) → notes_named ks (map view_note us) [] ≡ []
  no_notes [] = refl
  no_notes (u ∷ us) = refl
