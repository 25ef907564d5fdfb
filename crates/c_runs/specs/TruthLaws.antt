-- An annotation that is expanded means what it means with its calls (ACSL 2.6).
use Rattle.std.specs.Prelude.{◌≡◌, ℕ, zero, suc, ◌==◌, nat_lt, Bool, true, false, ◌&&◌, ◌||◌, not, if◌then◌else◌, List, [], ◌∷◌, length}
use Rattle.acsl_trees.specs.declared.heads.Head.{Head}
use Rattle.acsl_trees.specs.declared.heads.Head.TheVariants as h
use Rattle.acsl_trees.specs.declared.heads.Range.{Range}
use Rattle.acsl_trees.specs.declared.heads.Range.TheVariants as range
use Rattle.acsl_trees.specs.Tree.{Tree, Trees, node, stop, more}
use Rattle.c_runs.specs.TruthStates.{World}
use Rattle.c_runs.specs.Truth.{Env, value, calls_of, head_of, heads_of, kid}
use Rattle.acsl_expand.specs.Expansion.{Definition, definition_at, binds, around_kid, expanded, expanded_body}

-- ---- well formed

-- how many parameters a definition has, and whether it is a logic function, whose body is a term and binds no name
pub record Signature : Type 0 where
  pub params : ℕ
  pub is_term : Bool

abbrev pub Signatures : Type 0
Signatures = (number : ℕ) → Signature

abbrev pub count_of : Trees → ℕ
count_of stop = 0
count_of (more t ts) = suc (count_of ts)

-- a binder has its ends before the last kid
abbrev pub ends : Range → ℕ
ends (range.Between low_out high_out place) = 2
ends (range.Kind k place) = 0

abbrev pub is_link : Head → Bool
is_link (h.Link c) = true
is_link (h.LinkPointers c) = true
is_link _ = false

abbrev pub are_links : List Head → Bool
are_links [] = true
are_links (l ∷ ls) = is_link l && are_links ls

-- a first term, and links behind it
abbrev pub is_chain : List Head → Bool
is_chain [] = true
is_chain (l ∷ ls) = are_links ls

-- what a node asks for, where so many names are around, and where labels and binders may stand or not
abbrev pub node_fits : (labels binders : Bool) → Signatures → (around : ℕ) → Head → Trees → Bool
node_fits l b s d (h.Name x) ks = nat_lt x d
node_fits l b s d (h.Call f) ks = (count_of ks == (s f).params) && (b || (s f).is_term)
node_fits l b s d (h.At label) ks = l
node_fits l b s d h.Let ks = b && count_of ks == 2
node_fits l b s d (h.Every r) ks = b && count_of ks == suc (ends r)
node_fits l b s d (h.Some r) ks = b && count_of ks == suc (ends r)
node_fits l b s d h.Chain ks = is_chain (heads_of ks)
node_fits l b s d _ ks = true

-- an argument is a term
abbrev pub binders_inside : Bool → Head → Bool
binders_inside b (h.Call f) = false
binders_inside b _ = b

abbrev mutual
  pub is_well_formed : (labels binders : Bool) → Signatures → (around : ℕ) → Tree → Bool
  is_well_formed l b s d (node head ks) = node_fits l b s d head ks && are_well_formed l (binders_inside b head) s d (binds head) ks

  pub are_well_formed : (labels binders : Bool) → Signatures → (around : ℕ) → (in_binder : Bool) → Trees → Bool
  are_well_formed l b s d u stop = true
  are_well_formed l b s d u (more t ts) = is_well_formed l b s (around_kid u ts d) t && are_well_formed l b s d u ts

abbrev pub is_choice : Head → Bool
is_choice h.Choose = true
is_choice _ = false

abbrev pub is_comparison : Head → Bool
is_comparison (h.Compare c) = true
is_comparison _ = false

abbrev pub is_number : Head → Bool
is_number (h.Number z) = true
is_number _ = false

-- a choice, whose test compares with a number
abbrev pub tests_number : Tree → Bool
tests_number t = is_choice (head_of t) && (is_comparison (head_of (kid t 0)) && is_number (head_of (kid (kid t 0) 1)))

-- No label stands around a name of a definition, since an argument is read in the state of its call.
abbrev pub is_definition : Signatures → (number : ℕ) → Definition → Bool
is_definition s n x = is_well_formed false (not (s n).is_term) s (s n).params x.body && (if x.is_recursive then tests_number x.body else true)

abbrev pub are_definitions : Signatures → List Definition → (count : ℕ) → Bool
are_definitions s ds zero = true
are_definitions s ds (suc n) = is_definition s n (definition_at ds n) && are_definitions s ds n

-- ---- the law

-- The second list has the body expanded of each definition that calls itself. Nothing else of it is called any more.
pub record Expands (s : Signatures) (ds es : List Definition) : Type 0 where
  pub count : length es ≡ length ds
  pub bodies : (n : ℕ) → (definition_at ds n).is_recursive ≡ true
      → definition_at es n ≡ record { body = expanded_body ds n (s n).params; is_recursive = true }

-- In each state, an annotation that is expanded has the value that it has with its calls.
abbrev pub SameMeaning : Type 0
SameMeaning =
    (s : Signatures) (ds es : List Definition) (t : Tree) (env : Env) (w : World)
    → are_definitions s ds (length ds) ≡ true → Expands s ds es → is_well_formed true true s 0 t ≡ true
    → value (calls_of es) env 0 w (expanded ds t) ≡ value (calls_of ds) env 0 w t
