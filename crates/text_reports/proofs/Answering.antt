-- What a text is answered with, from what its parts are.
use Rattle.std.proofs.Common.{◌≡◌, ◌⊎◌, ℕ, false, List, Some, Result, Ok, Err, refl, sym, ap, ◌∙◌, subst, inl, inr}
use Rattle.wp_base.specs.declared.answers.Refusal.{Refusal}
use Rattle.wp_base.specs.declared.answers.Rule.{Rule}
use Rattle.wp_base.specs.declared.answers.Rule.TheVariants as rule
use Rattle.wp_base.specs.declared.answers.Stop.{Stop}
use Rattle.wp_base.specs.declared.answers.Stop.TheVariants as stop
use Rattle.c_syntax.specs.declared.token.Token.{Token}
use Rattle.c_syntax.specs.Decl as d
use Rattle.c_lexer.specs.Tokens.{tokens_of, StopsWith}
use Rattle.c_parser.specs.Outcome.{SpellsWithin, Refuses}
use Rattle.c_kinds.specs.declared.models.Machdep.{Machdep}
use Rattle.c_answers.specs.Answers.{Answer, Gives, after}
use Rattle.typed_unit.specs.Unit as u
use Rattle.acsl_typing.specs.Annotations.{Annotations}
use Rattle.acsl_annotated.specs.Annotated.{file_expanded}
use Rattle.c_typing.specs.Typing.{typed_program}
use Rattle.plain_front.specs.Told.{Source, source_of, is_verified}
use Rattle.plain_front.specs.Text.{Spells, HasFault, unlexed, unspelled, past, untyped, unbuilt}
use Rattle.wp_words.specs.Command.{Wanted}
use Rattle.file_reports.specs.Made.{Makes, source_by}
use Rattle.text_reports.specs.Answered.{Reported, AnnotatedAnswer, TypedAnswer, TreeAnswer, TreeFault, TokensAnswer, TextAnswer}

-- ---- annotations

pub typed_ok : (wanted : Wanted) (p : d.Program) (t : u.Typed) (a : Annotations) (given : Reported) → file_expanded t ≡ Ok a → AnnotatedAnswer wanted p t a given → TypedAnswer wanted p t given
typed_ok wanted p t a (Ok r) e h = (a, e, h)
typed_ok wanted p t a (Err (stop.Refused r)) e h = inr (a, e, h.0, h.1)
typed_ok wanted p t a (Err stop.NoMemory) e h = tt

pub typed_err : {X : Type 0} (wanted : Wanted) (p : d.Program) (t : u.Typed) (see : X → Annotations) (end : Stop) → Gives see (Err end) (file_expanded t) → TypedAnswer wanted p t (Err end)
typed_err wanted p t see (stop.Refused r) e = inl e
typed_err wanted p t see stop.NoMemory e = tt

-- ---- names and types

with_types : (m : Machdep) (p : d.Program) (t : u.Typed) → typed_program m p ≡ Ok t → source_of m p ≡ after (file_expanded t) (λ a. Ok (source_by p t a))
unfolding source_of
with_types m p t e = ap (λ (o : Answer u.Typed). after o (λ t. after (file_expanded t) (λ a. Ok (source_by p t a)))) e

without_types : (m : Machdep) (p : d.Program) (r : Refusal) → typed_program m p ≡ Err r → source_of m p ≡ Err r
unfolding source_of
without_types m p r e = ap (λ (o : Answer u.Typed). after o (λ t. after (file_expanded t) (λ a. Ok (source_by p t a)))) e

annotated : (p : d.Program) (t : u.Typed) (o : Answer Annotations) → file_expanded t ≡ o → after (file_expanded t) (λ a. Ok (source_by p t a)) ≡ after o (λ a. Ok (source_by p t a))
annotated p t o e = ap (λ (o : Answer Annotations). after o (λ a. Ok (source_by p t a))) e

pub tree_ok : (m : Machdep) (wanted : Wanted) (p : d.Program) (t : u.Typed) (given : Reported) → typed_program m p ≡ Ok t → TypedAnswer wanted p t given → TreeAnswer m wanted p given
tree_ok m wanted p t (Ok r) e h = (source_by p t h.0, with_types m p t e ∙ annotated p t (Ok h.0) h.1, h.2)
tree_ok m wanted p t (Err (stop.Refused r)) e (inl f) = inl (with_types m p t e ∙ annotated p t (Err r) f)
tree_ok m wanted p t (Err (stop.Refused r)) e (inr h) = inr (source_by p t h.0, with_types m p t e ∙ annotated p t (Ok h.0) h.1, h.2, h.3)
tree_ok m wanted p t (Err stop.NoMemory) e h = tt

pub tree_err : {X : Type 0} (m : Machdep) (wanted : Wanted) (p : d.Program) (see : X → u.Typed) (end : Stop) → Gives see (Err end) (typed_program m p) → TreeAnswer m wanted p (Err end)
tree_err m wanted p see (stop.Refused r) e = inl (without_types m p r e)
tree_err m wanted p see stop.NoMemory e = tt

-- ---- tokens

pub tokens_ok : (m : Machdep) (wanted : Wanted) (ts : List Token) (p : d.Program) (given : Reported) → SpellsWithin ts p → TreeAnswer m wanted p given → TokensAnswer m wanted ts given
tokens_ok m wanted ts p (Ok r) within h = (p, within, h)
tokens_ok m wanted ts p (Err (stop.Refused r)) within h = inr (p, within, h)
tokens_ok m wanted ts p (Err stop.NoMemory) within h = tt

pub tokens_err : (m : Machdep) (wanted : Wanted) (ts : List Token) (end : Stop) → ((x : Refusal) → end ≡ stop.Refused x → Refuses ts x) → TokensAnswer m wanted ts (Err end)
tokens_err m wanted ts (stop.Refused r) h = inl (h r refl)
tokens_err m wanted ts stop.NoMemory h = tt

-- ---- texts

parsing_refused : (m : Machdep) (text : List ℕ) (ts : List Token) (r : Refusal) → tokens_of text ≡ Ok ts → Refuses ts r → HasFault m text r
parsing_refused m text ts r e (inl s) =
    let is : r ≡ record { rule = rule.Syntax; line = r.line } = ap (λ (x : Rule). record { rule = x; line = r.line }) s.0 in
    subst (HasFault m text) (sym is) (unspelled ts r.line e s.1 s.2)
parsing_refused m text ts r e (inr s) =
    let is : r ≡ record { rule = rule.Limit; line = r.line } = ap (λ (x : Rule). record { rule = x; line = r.line }) s.0 in
    subst (HasFault m text) (sym is) (past ts r.line e s.1)

tree_refused : (m : Machdep) (text : List ℕ) (ts : List Token) (p : d.Program) (r : Refusal) → tokens_of text ≡ Ok ts → SpellsWithin ts p → TreeFault m p r → HasFault m text r
tree_refused m text ts p r e within (inl f) = untyped ts p r e within f
tree_refused m text ts p r e within (inr h) = subst (HasFault m text) (sym h.3) (unbuilt ts p h.0 e within h.1 h.2)

pub text_ok : (m : Machdep) (wanted : Wanted) (text : List ℕ) (ts : List Token) (given : Reported) → tokens_of text ≡ Ok ts → TokensAnswer m wanted ts given → TextAnswer m wanted text given
text_ok m wanted text ts (Ok r) e h =
    let spelled : Spells m text h.2.0 = record { tokens = ts; tree = h.0; lexed = e; spelled = h.1; is = h.2.1; built = h.2.2.0 } in
    (h.2.0, spelled, h.2.2)
text_ok m wanted text ts (Err (stop.Refused r)) e (inl h) = parsing_refused m text ts r e h
text_ok m wanted text ts (Err (stop.Refused r)) e (inr h) = tree_refused m text ts h.0 r e h.1 h.2
text_ok m wanted text ts (Err stop.NoMemory) e h = tt

pub text_err : (m : Machdep) (wanted : Wanted) (text : List ℕ) (end : Stop) → StopsWith end (tokens_of text) → TextAnswer m wanted text (Err end)
text_err m wanted text (stop.Refused r) e = unlexed r e
text_err m wanted text stop.NoMemory e = tt
