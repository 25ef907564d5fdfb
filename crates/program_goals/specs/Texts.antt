-- What is asked of the names of a program, so that its goals are texts.
use Rattle.std.specs.Prelude.{◌≡◌, ℕ, true, false, List, [], ◌∷◌, Some}
use Rattle.std.specs.Str.{bytes_eq}
use Rattle.std.specs.List.{list_any}
use Rattle.acsl_trees.specs.Tree as acsl
use Rattle.qed_terms.specs.Names.{is_name, after_colon, memory_kinds}
use Rattle.qed_terms.specs.Fresh.{Lacks}
use Rattle.acsl_encode.specs.Readings.{Called}
use Rattle.program_steps.specs.Terms.{Texts}

-- the code of `:`
abbrev pub colon : ℕ
colon = 58

-- as it is spelled, without a colon
pub record IsPlainName (x : List ℕ) : Type 0 where
  pub name : is_name x ≡ true
  pub plain : Lacks colon x

abbrev pub ArePlainNames : List (List ℕ) → Type 0
ArePlainNames [] = Unit {0}
ArePlainNames (x ∷ xs) = IsPlainName x × ArePlainNames xs

-- What stands behind its colon, if it has one, is no kind of a memory: so neither it nor a fresh name over it is taken for one.
pub record IsIntegerName (x : List ℕ) : Type 0 where
  pub name : is_name x ≡ true
  pub behind : list_any (bytes_eq (after_colon x)) memory_kinds ≡ false

abbrev pub AreIntegerNames : List (List ℕ) → Type 0
AreIntegerNames [] = Unit {0}
AreIntegerNames (x ∷ xs) = IsIntegerName x × AreIntegerNames xs

-- binders as they are spelled, and logic functions
pub record TextsFit (texts : Texts) : Type 0 where
  pub binders : (a : acsl.Tree) → ArePlainNames (texts.binders a)
  pub called : (n : ℕ) (c : Called) → texts.called n ≡ Some c → is_name c.name ≡ true
