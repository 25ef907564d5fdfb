-- The table of kinds: it is that of the definition, and each word stands for one kind.
use Rattle.std.proofs.Common.{◌≡◌, ℕ, Bool, true, false, cond, List, [], ◌∷◌, map, codes, Option, Some, None, refl, sym, ap, ◌∙◌, ◌||◌, is_some}
use Rattle.std.specs.Str.{bytes_eq}
use Rattle.std.specs.Option.{option_map}
use Rattle.std.specs.List.{list_any}
use Rattle.std.proofs.lemmas.Slice.Eq.{bytes_eq-Decides}
use Rattle.wp_base.specs.declared.kinds.Kind.{Kind}
use Rattle.wp_base.specs.declared.kinds.Kind.TheVariants as kind
use Rattle.wp_base.specs.declared.kinds.CellKind.{CellKind}
use Rattle.wp_base.specs.declared.kinds.CellKind.TheVariants as cell
use Rattle.qed_terms.specs.Names.{kind_names, memory_kinds}
use Rattle.goal_words.specs.declared.kinds.TheConstants.{KIND_WORDS}
use Rattle.goal_words.specs.Kinds.{kind_text, cell_text, row_of, kind_words, cell_of}

pub kind_rows : map (λ row. (row.0.now, row.1)) KIND_WORDS ≡ kind_words
unfolding kind_words
kind_rows = refl

abbrev pub AreNamed : {X : Type 0} → (X → List ℕ) → List (List ℕ × X) → Type 0
AreNamed text [] = Unit {0}
AreNamed text (row ∷ rows) = (row.0 ≡ text row.1) × AreNamed text rows

pub row_of_is : {X : Type 0} (text : X → List ℕ) (rows : List (List ℕ × X)) (word : List ℕ) (x : X) → AreNamed text rows → row_of rows word ≡ Some x → word ≡ text x
row_of_is text [] word x named h = absurd cc
row_of_is {X} text (row ∷ rows) word x named h =
    elim (bytes_eq row.0 word) as (λ b. bytes_eq row.0 word ≡ b → cond b (Some row.1) (row_of rows word) ≡ Some x → word ≡ text x) [
      | true ↦ (λ same h.
          let found : row.1 ≡ x = cc in
          sym ((bytes_eq-Decides row.0 word).0 same) ∙ named.0 ∙ ap text found)
      | false ↦ (λ other h. row_of_is text rows word x named.1 h)
    ]
    refl h

kinds_named : AreNamed kind_text kind_words
unfolding kind_words
kinds_named = search tt

pub kind_is : (word : List ℕ) (k : Kind) → row_of kind_words word ≡ Some k → word ≡ kind_text k
kind_is word k h = row_of_is kind_text kind_words word k kinds_named h

pub cell_is : (word : List ℕ) (k : CellKind) → cell_of word ≡ Some k → word ≡ cell_text k
cell_is word k h =
    elim (bytes_eq word (codes "ptr")) as (λ b. bytes_eq word (codes "ptr") ≡ b → cond b (Some cell.Ptr) (option_map cell.Of (row_of kind_words word)) ≡ Some k → word ≡ cell_text k) [
      | true ↦ (λ same h. let found : cell.Ptr ≡ k = cc in (bytes_eq-Decides word (codes "ptr")).0 same ∙ ap cell_text found)
      | false ↦ (λ other h. by (row_of kind_words word) refl h)
    ]
    refl h
  where
    by : (o : Option Kind) → row_of kind_words word ≡ o → option_map cell.Of o ≡ Some k → word ≡ cell_text k
    by None e h = absurd cc
    by (Some x) e h = let found : cell.Of x ≡ k = cc in kind_is word x e ∙ ap cell_text found

pub kind_found : (k : Kind) → row_of kind_words (kind_text k) ≡ Some k
unfolding kind_words
kind_found kind.Bool = refl
kind_found kind.Char = refl
kind_found kind.SChar = refl
kind_found kind.UChar = refl
kind_found kind.Short = refl
kind_found kind.UShort = refl
kind_found kind.Int = refl
kind_found kind.UInt = refl
kind_found kind.Long = refl
kind_found kind.ULong = refl
kind_found kind.LLong = refl
kind_found kind.ULLong = refl

pub cell_found : (k : CellKind) → cell_of (cell_text k) ≡ Some k
unfolding kind_words
cell_found (cell.Of kind.Bool) = refl
cell_found (cell.Of kind.Char) = refl
cell_found (cell.Of kind.SChar) = refl
cell_found (cell.Of kind.UChar) = refl
cell_found (cell.Of kind.Short) = refl
cell_found (cell.Of kind.UShort) = refl
cell_found (cell.Of kind.Int) = refl
cell_found (cell.Of kind.UInt) = refl
cell_found (cell.Of kind.Long) = refl
cell_found (cell.Of kind.ULong) = refl
cell_found (cell.Of kind.LLong) = refl
cell_found (cell.Of kind.ULLong) = refl
cell_found cell.Ptr = refl

bytes_eq_swap : (xs ys : List ℕ) → bytes_eq xs ys ≡ bytes_eq ys xs
bytes_eq_swap xs ys = by (bytes_eq xs ys) (bytes_eq ys xs) refl refl
  where
    by : (a b : Bool) → bytes_eq xs ys ≡ a → bytes_eq ys xs ≡ b → a ≡ b
    by true true p q = refl
    by false false p q = refl
    by true false p q = sym (sym q ∙ (bytes_eq-Decides ys xs).1 (sym ((bytes_eq-Decides xs ys).0 p)))
    by false true p q = sym p ∙ (bytes_eq-Decides xs ys).1 (sym ((bytes_eq-Decides ys xs).0 q))

row_of_any : {X : Type 0} (rows : List (List ℕ × X)) (word : List ℕ) → is_some (row_of rows word) ≡ list_any (bytes_eq word) (map (λ row. row.0) rows)
row_of_any [] word = refl
row_of_any {X} (row ∷ rows) word =
    rw (bytes_eq_swap word row.0)
    (elim (bytes_eq row.0 word) as (λ b. is_some (cond b (Some row.1) (row_of rows word)) ≡ (b || list_any (bytes_eq word) (map (λ row. row.0) rows))) [
      | true ↦ refl
      | false ↦ row_of_any rows word
    ])

kind_rows_names : map (λ row. row.0) kind_words ≡ kind_names
unfolding kind_words
kind_rows_names = refl

pub memory_kind_is : (word : List ℕ) → bytes_eq word (codes "ptrb") ≡ false → bytes_eq word (codes "ptro") ≡ false → is_some (row_of kind_words word) ≡ list_any (bytes_eq word) memory_kinds
memory_kind_is word p q = rw (p, q) (row_of_any kind_words word ∙ ap (list_any (bytes_eq word)) kind_rows_names)
