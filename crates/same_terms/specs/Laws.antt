-- What the laws of this crate say.
use Rattle.std.specs.Prelude.{◌≡◌, ◌↔◌, ℕ, ◌<◌, false, pos, List, [], ◌∷◌, Option, None}
use Rattle.qed_terms.specs.declared.head.Head.{Head}
use Rattle.qed_terms.specs.Meaning.{World, Values, meaning}
use Rattle.qed_terms.specs.Tree.{Tree, head_of}
use Rattle.qed_linear.specs.Linear.{Part, Lin, part, of_lin}
use Rattle.same_places.specs.Same.{Row, Pairs, Same}
use Rattle.same_terms.specs.SameTerms.{AreTrue, InBranch, SameTerm}
use Rattle.same_terms.specs.Clashes.{Clash}
use Rattle.same_terms.specs.Written.{is_sum, number_in, written_part, written}
use Rattle.same_terms.specs.Stands.{StandsFor, Stand}

-- neither a number, nor a sum, nor a number times another term
pub record IsPlain (t : Tree) : Type 0 where
  pub no_number : number_in t ≡ None
  pub no_sum : is_sum (head_of t) ≡ false
  pub no_multiple : written_part t ≡ part t (pos 1)

abbrev pub ArePlain : List Part → Type 0
ArePlain [] = Unit {0}
ArePlain (p ∷ ps) = IsPlain (p.atom) × ArePlain ps

-- the term of a form over plain atoms is written as this form
abbrev pub WrittenIsForm : Type 0
WrittenIsForm = (f : Lin) → ArePlain (f.parts) → written (of_lin f) ≡ f

-- where the literals are true, same terms mean the same
abbrev pub SameMeans : Type 0
SameMeans = (w : World) (env : Values) (ls : List Tree) (t u : Tree) → AreTrue w env ls → SameTerm ls t u → meaning w env t ≡ meaning w env u

-- where literals clash, they aren't all true
abbrev pub ClashRefutes : Type 0
ClashRefutes = (w : World) (env : Values) (ls : List Tree) → Clash ls → AreTrue w env ls → ⊥

-- on rows that stand for the terms of a branch, two places are same exactly where their terms are
abbrev pub RowsAgree : Type 0
RowsAgree =
    (ls : List Tree) (count : ℕ) (tree : ℕ → Tree) (number : Head → Option ℕ) (rows : List Row) (pairs : Pairs) → Stand ls count tree (StandsFor number) rows pairs →
    (i j : ℕ) → i < count → j < count → InBranch ls (tree i) → Same rows pairs i j ↔ SameTerm ls (tree i) (tree j)
