-- Normal forms that are kept, so that none is made twice.
use Rattle.std.specs.Prelude.{◌≡◌, Bool, true, List, Option, Some}
use Rattle.std.specs.Map.{lookup}
use Rattle.qed_terms.specs.Setting.{Setting}
use Rattle.qed_terms.specs.Tree.{Tree}
use Rattle.qed_rules.specs.Rules.{step}
use Rattle.qed_simplify.specs.Normal.{Normal}

-- equal ids are one id
abbrev pub IsExact : {Id : Type 0} → (Id → Id → Bool) → Type 0
IsExact {Id} eq = (id other : Id) → eq id other ≡ true → id ≡ other

-- what a table has for an id
abbrev pub found_in : {Id : Type 0} → (Id → Id → Bool) → List (Id × Id) → Id → Option Id
found_in eq entries id = lookup (eq id) entries

-- what is found for an id stands for the normal form, in the setting, of what the id stands for
pub record AreNormals {Id : Type 0} (eq : Id → Id → Bool) (held : Id → Type 0) (tree : Id → Tree) (s : Setting) (entries : List (Id × Id)) : Type 0 where
  pub exact : IsExact eq
  pub asked : (id made : Id) → found_in eq entries id ≡ Some made → held id
  pub made : (id made : Id) → found_in eq entries id ≡ Some made → held made
  pub normal : (id made : Id) → found_in eq entries id ≡ Some made → Normal (step s) (tree id) (tree made)
