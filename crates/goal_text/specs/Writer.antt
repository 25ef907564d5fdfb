-- What the writer does with a node: what stands around its kids, and what it puts at the end of a text.
use Rattle.std.specs.Prelude.{◌≡◌, ℕ, Bool, true, List, [], ◌∷◌, ◌++◌, map, codes}
use Rattle.std.specs.List.{list_all}
use Rattle.std.specs.Fmt.{signed_decimal}
use Rattle.qed_terms.specs.declared.head.Head.{Head}
use Rattle.qed_terms.specs.declared.head.Shape.{Shape}
use Rattle.qed_terms.specs.Nodes.{kids_of}
use Rattle.qed_terms.specs.Tree.{Tree}
use Rattle.goal_words.specs.Numbers.{fits_128}
use Rattle.goal_text.specs.Held.{fits_32, head_held, is_held}
use Rattle.goal_text.specs.Text.{spaced, bracket, layout_text, shape_word, frame_parts, head_text, tree_text}
use Rattle.goal_text.specs.declared.around.Around.{Around}
use Rattle.goal_text.specs.declared.around.Around.TheVariants as look

-- the text of what is seen, over the texts of the kids
abbrev pub look_text : Around → List (List ℕ) → List ℕ
look_text (look.Number z) ts = signed_decimal z
look_text (look.Word x) ts = x.now
look_text (look.Plain word) ts = bracket word.now ts
look_text (look.Named word x) ts = bracket word.now (x.now ∷ ts)
look_text (look.Laid word l) ts = bracket word.now (ts ++ layout_text l.now ∷ [])
look_text (look.Frame shapes) ts = bracket (codes "frame") (frame_parts shapes.now ts)

-- its own numbers are such as memory holds
abbrev pub look_held : Around → Bool
look_held (look.Number z) = fits_128 z
look_held (look.Laid word l) = fits_32 l.now
look_held seen = true

-- it stands around kids, and isn't all of the node
abbrev pub IsBracket : Around → Type 0
IsBracket (look.Number z) = ⊥
IsBracket (look.Word x) = ⊥
IsBracket seen = Unit {0}

-- brackets with this head
pub record LooksLike (seen : Around) (head : Head) : Type 0 where
  pub around : IsBracket seen
  pub text : (ts : List (List ℕ)) → look_text seen ts ≡ head_text head ts
  pub held : look_held seen ≡ head_held head

-- the text and the numbers of the tree are those of what is seen, with those of its kids
pub record LooksLikeTree (seen : Around) (t : Tree) : Type 0 where
  pub text : tree_text t ≡ look_text seen (map tree_text (kids_of t))
  pub held : look_held seen ≡ true → (IsBracket seen → list_all is_held (kids_of t) ≡ true) → is_held t ≡ true

-- ---- what is put at the end of a text; the numbers in it are such as memory holds

-- a tree
pub record Writes (before now : List ℕ) (t : Tree) : Type 0 where
  pub text : now ≡ before ++ tree_text t
  pub held : is_held t ≡ true

-- trees, each behind a space
pub record WritesAll (before now : List ℕ) (ts : List Tree) : Type 0 where
  pub text : now ≡ before ++ spaced (map tree_text ts)
  pub held : list_all is_held ts ≡ true

-- a space and a region
pub record WritesRegion (before now : List ℕ) (s : Shape) (ts : List Tree) : Type 0 where
  pub text : now ≡ before ++ 32 ∷ bracket (shape_word s) (map tree_text ts)
  pub held : list_all is_held ts ≡ true

-- two memories and the regions of these shapes
pub record WritesFrame (before now : List ℕ) (shapes : List Shape) (ts : List Tree) : Type 0 where
  pub text : now ≡ before ++ spaced (frame_parts shapes (map tree_text ts))
  pub held : list_all is_held ts ≡ true
