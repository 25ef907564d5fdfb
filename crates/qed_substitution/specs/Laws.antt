-- What a tree means with a term in the places of a name.
use Rattle.std.specs.Prelude.{◌≡◌, ℕ, true, List}
use Rattle.qed_terms.specs.Meaning.{World, Values, Whole, with_int, value, meaning}
use Rattle.qed_terms.specs.Tree.{Tree}
use Rattle.qed_substitution.specs.Substitution.{replace, may_replace}

-- A term that is an integer under all values may be put in the places of a name where no quantifier binds a name of it: then the tree means what
-- it means with the name at the term's value.
abbrev pub ReplacingKeepsMeaning : Type 0
ReplacingKeepsMeaning =
    (w : World) (x : List ℕ) (u t : Tree) → ((env : Values) → meaning w env u ≡ Whole (value w env u)) → may_replace x u t ≡ true
    → (env : Values) → meaning w env (replace x u t) ≡ meaning w (with_int env x (value w env u)) t
