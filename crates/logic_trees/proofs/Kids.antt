-- Kids and heads, in the words of the code.
use Rattle.std.proofs.Common.{◌≡◌, ℕ, zero, suc, Bool, true, false, ℤ, List, [], ◌∷◌, length, get_or, refl, sym, ap, ◌∙◌, arith, eqb-true, eq-eqb}
use Rattle.std.specs.Prelude.{pos, negsuc, Option, Some, None}
use Rattle.wp_base.specs.declared.kinds.Kind.{Kind}
use Rattle.wp_base.specs.declared.kinds.Kind.TheVariants as kind
use Rattle.wp_base.specs.declared.kinds.CellKind.{CellKind}
use Rattle.wp_base.specs.declared.kinds.CellKind.TheVariants as cell
use Rattle.wp_base.specs.Kinds.{kind_place, cell_place}
use Rattle.wp_base.specs.Blocks.{same_cell}
use Rattle.typed_prog.specs.declared.operators.Variable.TheVariants as variables
use Rattle.acsl_trees.specs.declared.heads.Head.{Head}
use Rattle.acsl_trees.specs.declared.heads.Head.TheVariants as hd
use Rattle.acsl_trees.specs.declared.tree.Tree.{Tree as Code, out-Tree, roll-out-Tree}
use Rattle.acsl_trees.specs.Tree.{Tree, node, trees_of, view_tree, view_trees}
use Rattle.acsl_trees.proofs.Equations.{view_made}
use Rattle.c_runs.specs.Truth.{heads_of, head_of}
use Rattle.c_runs.specs.Recursion.{is_one}
use Rattle.qed_terms.specs.Operators.{is_equal}
use Rattle.qed_linear.proofs.Facts.{equal_is}
use Rattle.acsl_encode.specs.Told.{node_reads}
use Rattle.logic_order.specs.Simple.{is_of_file}
use Rattle.logic_trees.specs.Heads.{first_global, global_in}
use Rattle.logic_trees.specs.Asking.{asks, call_in, content_in, reads_by}
use Rattle.logic_trees.specs.declared.questions.Asked.{Asked}
use Rattle.logic_trees.specs.declared.questions.Asked.TheVariants as asked

pub view_whole : (t : Code) → view_tree t ≡ node (out-Tree t).head (trees_of (view_trees (out-Tree t).kids))
view_whole t = ap view_tree (sym (roll-out-Tree t)) ∙ view_made (out-Tree t).head (out-Tree t).kids

-- ---- the first kid

abbrev heads : List Code → List Head
heads ks = heads_of (trees_of (view_trees ks))

pub first_none : (ks : List Code) → length ks ≡ 0 → None ≡ first_global (heads ks)
first_none [] none = refl
first_none (k ∷ ks) none = absurd (omega (arith, none))

pub first_some : (ks : List Code) (x : Code) (o : Option ℕ) → (length ks ≡ 0 → ⊥) → x ≡ get_or ks 0 x → o ≡ global_in (out-Tree x).head → o ≡ first_global (heads ks)
first_some [] x o some is made = absurd (some refl)
first_some (k ∷ ks) x o some is made =
    made ∙ ap (λ (t : Tree). global_in (head_of t)) (sym (view_whole x) ∙ ap view_tree is)

pub ruleset first_laws = (first_none, first_some)

pub file_some : (ls : List Head) (o : Option ℕ) (n : ℕ) → o ≡ first_global ls → o ≡ Some n → true ≡ is_of_file ls
file_some [] o n e so = absurd cc
file_some (hd.Variable (variables.Global x) ∷ ls) o n e so = refl
file_some (hd.Variable (variables.Local x) ∷ ls) o n e so = absurd cc
file_some (l ∷ ls) o n e so = absurd cc

pub file_none : (ls : List Head) (o : Option ℕ) → o ≡ first_global ls → o ≡ None → false ≡ is_of_file ls
file_none [] o e so = refl
file_none (hd.Variable (variables.Global x) ∷ ls) o e so = absurd cc
file_none (l ∷ ls) o e so = refl

pub ruleset file_laws = (file_some, file_none)

-- ---- numbers

not_one : (z : ℤ) → (z ≡ pos 1 → ⊥) → is_equal z (pos 1) ≡ false
not_one z differ = by (is_equal z (pos 1)) refl
  where
    by : (b : Bool) → is_equal z (pos 1) ≡ b → b ≡ false
    by true e = absurd (differ (equal_is z (pos 1) e))
    by false e = refl

one_same : (z : ℤ) → is_equal z (pos 1) ≡ is_one z
one_same (pos zero) = refl
one_same (pos (suc zero)) = refl
one_same (pos (suc (suc n))) = not_one (pos (suc (suc n))) (λ e. large n e)
  where
    large : (n : ℕ) → pos (suc (suc n)) ≡ pos 1 → ⊥
    large n e = let same : suc (suc n) ≡ 1 = cc in absurd (omega (arith, same))
one_same (negsuc n) = not_one (negsuc n) (λ e. below n e)
  where
    below : (n : ℕ) → negsuc n ≡ pos 1 → ⊥
    below n e = absurd cc

pub one_is : (z : ℤ) (b : Bool) → b ≡ is_equal z (pos 1) → b ≡ is_one z
one_is z b e = e ∙ one_same z

-- ---- cells

abbrev at : List Kind → ℕ → CellKind
at [] n = cell.Ptr
at (k ∷ ks) zero = cell.Of k
at (k ∷ ks) (suc n) = at ks n

abbrev kinds : List Kind
kinds = kind.Bool ∷ kind.Char ∷ kind.SChar ∷ kind.UChar ∷ kind.Short ∷ kind.UShort ∷ kind.Int ∷ kind.UInt ∷ kind.Long ∷ kind.ULong ∷ kind.LLong ∷ kind.ULLong ∷ []

at_kind : (k : Kind) → at kinds (kind_place k) ≡ cell.Of k
at_kind kind.Bool = refl
at_kind kind.Char = refl
at_kind kind.SChar = refl
at_kind kind.UChar = refl
at_kind kind.Short = refl
at_kind kind.UShort = refl
at_kind kind.Int = refl
at_kind kind.UInt = refl
at_kind kind.Long = refl
at_kind kind.ULong = refl
at_kind kind.LLong = refl
at_kind kind.ULLong = refl

at_cell : (k : CellKind) → at kinds (cell_place k) ≡ k
at_cell (cell.Of k) = at_kind k
at_cell cell.Ptr = refl

same_cell_is : (k l : CellKind) → same_cell k l ≡ true → k ≡ l
same_cell_is k l e = sym (at_cell k) ∙ ap (at kinds) (eqb-true (cell_place k) (cell_place l) e) ∙ at_cell l

pub is_same_cell : (k l : CellKind) → k ≡ l → same_cell k l ≡ true
is_same_cell k l e = ap (λ x. same_cell k x) (sym e) ∙ eq-eqb (cell_place k) (cell_place k) refl

pub other_cell : (k l : CellKind) → (k ≡ l → ⊥) → same_cell k l ≡ false
other_cell k l n = go (same_cell k l) refl
  where
    go : (b : Bool) → same_cell k l ≡ b → b ≡ false
    go true e = absurd (n (same_cell_is k l e))
    go false e = refl

-- ---- what is read

node_same : (g : ℕ) (a : Asked) (calls : (number : ℕ) → Bool) (head : Head) (ls : List Head) → reads_by g a calls (call_in head) (content_in head) ls ≡ node_reads (asks g a) calls head ls
node_same g a calls (hd.Call f) ls = refl
node_same g (asked.Cell k) calls (hd.Read c l) ls = refl
node_same g (asked.Variable n) calls (hd.Read c l) ls = refl
node_same g (asked.Cell k) calls head ls = refl
node_same g (asked.Variable n) calls head ls = refl

pub reads_node : (g : ℕ) (a : Asked) (calls : (number : ℕ) → Bool) (head : Head) (ls : List Head) (b : Bool) → b ≡ reads_by g a calls (call_in head) (content_in head) ls
    → b ≡ node_reads (asks g a) calls head ls
reads_node g a calls head ls b e = e ∙ node_same g a calls head ls
