-- What is so of sources that are verified.
use Rattle.std.specs.Prelude.{◌≡◌, ℕ, true, List, Ok}
use Rattle.wp_base.specs.declared.kinds.Kind.{Kind}
use Rattle.c_syntax.specs.declared.token.Token.{Token}
use Rattle.c_syntax.specs.Decl as d
use Rattle.c_grammar.specs.Decls.{Lines, SpellsLines}
use Rattle.c_kinds.specs.declared.models.Machdep.{Machdep}
use Rattle.qed_terms.specs.Setting.{is_regular}
use Rattle.plain_sources.specs.Told.{setting_of_file, IsMet}
use Rattle.plain_sources.specs.Sources.{Source, source_of}
use Rattle.logic_sources.specs.Built.{names_of, is_verified}

-- What is read of a tree that tokens spell, and is verified, is a plain text whose annotations pass the tests and whose statements have words, with temporaries
-- of some kinds;
abbrev pub VerifiedIsMet : Type 0
VerifiedIsMet =
    (m : Machdep) (ts : List Token) (p : d.Program) (lines : List Lines) (s : Source) → SpellsLines ts p lines → source_of m p ≡ Ok s → is_verified s ≡ true
    → (kinds : (function number : ℕ) → Kind) × IsMet m ts s.tree s.typed s.annots (names_of s) kinds

-- and its setting is one that a prover takes.
abbrev pub VerifiedIsRegular : Type 0
VerifiedIsRegular = (s : Source) → is_verified s ≡ true → is_regular (setting_of_file s.typed s.annots (names_of s)) ≡ true
