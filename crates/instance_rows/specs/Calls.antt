-- The row at a call of a recursive logic function (ACSL 2.6.3).
use Rattle.std.specs.Prelude.{ℕ, zero, suc, if◌then◌else◌, List, [], ◌∷◌, Option, Some, None}
use Rattle.qed_terms.specs.declared.head.Head.TheVariants as h
use Rattle.qed_terms.specs.Setting.{Logic}
use Rattle.qed_terms.specs.Tree.{Tree, node, Trees, stop, more, num, at_most, less, equal, or_of}
use Rattle.qed_calls.specs.Calls.{with_arguments, fits_call}
use Rattle.instance_rows.specs.Rows.{Row}

-- the kid at a place
abbrev pub argument_tree : Trees → ℕ → Option Tree
argument_tree stop n = None
argument_tree (more t ts) zero = Some t
argument_tree (more t ts) (suc n) = argument_tree ts n

-- above the cut or the base case, up to the cut or the step
abbrev pub call_cases : Logic → Trees → (call number : Tree) → List Tree
call_cases f ts t n =
    or_of (less (num f.cut) n ∷ equal t (with_arguments f.params ts f.base) ∷ [])
    ∷ or_of (at_most n (num f.cut) ∷ equal t (with_arguments f.params ts f.step) ∷ [])
    ∷ []

abbrev pub cases_at : Logic → Trees → (call : Tree) → Option Tree → List Tree
cases_at f ts t None = []
cases_at f ts t (Some n) = call_cases f ts t n

-- by the first function that takes the arguments
abbrev pub cases_among : List Logic → List ℕ → Trees → List Tree
cases_among [] x ts = []
cases_among (f ∷ fs) x ts = if fits_call x ts f then cases_at f ts (node (h.App x) ts) (argument_tree ts f.number) else cases_among fs x ts

abbrev pub cases_of_call : List Logic → Row
cases_of_call fs (h.App x) ts = cases_among fs x ts
cases_of_call fs head ts = []
