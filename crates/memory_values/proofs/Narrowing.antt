-- Conversions to a kind, by whether it is `_Bool`.
use Rattle.std.proofs.Common.{◌≡◌, true, false, refl, sym, subst}
use Rattle.std.specs.Prelude.{Result}
use Rattle.std.proofs.lemmas.Bool.{false≢true}
use Rattle.wp_base.specs.declared.kinds.Kind.{Kind}
use Rattle.wp_base.specs.declared.kinds.Kind.TheVariants as kind
use Rattle.wp_base.specs.declared.memory.NoMemory.{NoMemory}
use Rattle.qed_terms.specs.declared.term.Term.{Term}
use Rattle.qed_terms.specs.declared.head.TermOp.TheVariants as term
use Rattle.qed_terms.specs.Tree.{Tree}
use Rattle.value_terms.specs.Terms.{of_one, narrowed}
use Rattle.memory_values.specs.OverSlots.{is_bool}
use Rattle.term_drafts.specs.Drafts.{TermIs}

bool_is : (k : Kind) → is_bool k ≡ true → kind.Bool ≡ k
bool_is kind.Bool e = refl
bool_is kind.Char e = absurd (false≢true e)
bool_is kind.SChar e = absurd (false≢true e)
bool_is kind.UChar e = absurd (false≢true e)
bool_is kind.Short e = absurd (false≢true e)
bool_is kind.UShort e = absurd (false≢true e)
bool_is kind.Int e = absurd (false≢true e)
bool_is kind.UInt e = absurd (false≢true e)
bool_is kind.Long e = absurd (false≢true e)
bool_is kind.ULong e = absurd (false≢true e)
bool_is kind.LLong e = absurd (false≢true e)
bool_is kind.ULLong e = absurd (false≢true e)

pub to_bool : (draft : Result Term NoMemory) (k : Kind) (t : Tree) → is_bool k ≡ true → TermIs draft (narrowed kind.Bool t) → TermIs draft (narrowed k t)
to_bool draft k t e h = subst (λ k. TermIs draft (narrowed k t)) (bool_is k e) h

pub wrapped : (draft : Result Term NoMemory) (k : Kind) (t : Tree) → is_bool k ≡ false → TermIs draft (of_one (term.Wrap k) t) → TermIs draft (narrowed k t)
wrapped draft kind.Bool t e h = absurd (false≢true (sym e))
wrapped draft kind.Char t e h = h
wrapped draft kind.SChar t e h = h
wrapped draft kind.UChar t e h = h
wrapped draft kind.Short t e h = h
wrapped draft kind.UShort t e h = h
wrapped draft kind.Int t e h = h
wrapped draft kind.UInt t e h = h
wrapped draft kind.Long t e h = h
wrapped draft kind.ULong t e h = h
wrapped draft kind.LLong t e h = h
wrapped draft kind.ULLong t e h = h
