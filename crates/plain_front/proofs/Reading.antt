-- A text spells one program or has one fault.
use Rattle.std.proofs.Common.{◌≡◌, ◌⊎◌, ℕ, Bool, true, false, if◌then◌else◌, List, [], ◌∷◌, ◌++◌, length, Option, Some, None, Result, Ok, Err, MatchResult, refl, sym, ap, ◌∙◌, subst, arith, inl, inr}
use Rattle.wp_base.specs.declared.answers.Refusal.{Refusal}
use Rattle.wp_base.specs.declared.answers.Rule.{Rule}
use Rattle.wp_base.specs.declared.answers.Rule.TheVariants as rule
use Rattle.wp_base.specs.declared.answers.Stop.{Stop}
use Rattle.wp_base.specs.declared.answers.Stop.TheVariants as stop
use Rattle.c_syntax.specs.declared.token.Token.{Token}
use Rattle.c_syntax.specs.Decl as d
use Rattle.c_lexer.specs.Tokens.{tokens_of, StopsWith}
use Rattle.c_grammar.specs.Decls.{past_limit, SpellsLines, IsUnspelledOn}
use Rattle.c_parser.specs.Outcome.{Outcome, parsed, SpellsWithin, SpellsPast, Refuses, outcome}
use Rattle.c_parser.specs.Outcome as parser
use Rattle.c_parser.proofs.Exact.{one_program, Says, outcome_says}
use Rattle.parse_file.proofs.Parts.{parts}
use Rattle.c_kinds.specs.declared.models.Machdep.{Machdep}
use Rattle.c_answers.specs.Answers.{Answer, Gives}
use Rattle.logic_sources.specs.Told.{Source, source_of}
use Rattle.logic_sources.specs.Built.{is_verified}
use Rattle.plain_front.specs.Text.{Spells, HasFault, unlexed, unspelled, past, untyped, unbuilt, SpellsOrHasFault}

same_tokens : (text : List ℕ) (ts us : List Token) → tokens_of text ≡ Ok ts → tokens_of text ≡ Ok us → ts ≡ us
same_tokens text ts us a b = let same = sym a ∙ b in cc

-- tokens and a fault of tokens
not_both : (text : List ℕ) (ts : List Token) (r : Refusal) → tokens_of text ≡ Ok ts → tokens_of text ≡ Err r → ⊥
not_both text ts r a b = let same = sym a ∙ b in absurd cc

tree_once : (ts us : List Token) (p q : d.Program) → ts ≡ us → SpellsWithin ts p → SpellsWithin us q → p ≡ q
tree_once ts us p q same s s' = let s'' = subst (λ ts. SpellsWithin ts q) (sym same) s' in (one_program parts ts p q s.0 s''.0 s.1 s''.1).0

pub spelled_once : (m : Machdep) (text : List ℕ) (p q : Source) → Spells m text p → Spells m text q → p ≡ q
spelled_once m text p q s s' =
    let same = tree_once s.tokens s'.tokens s.tree s'.tree (same_tokens text s.tokens s'.tokens s.lexed s'.lexed) s.spelled s'.spelled in
    let made : Ok p ≡ Ok q = sym s.is ∙ ap (source_of m) same ∙ s'.is in
    cc

-- within the limits or past one
not_past : (ts us : List Token) (p : d.Program) (line : ℕ) → ts ≡ us → SpellsWithin ts p → SpellsPast us line → ⊥
not_past ts us p line same s s' =
    let s'' = subst (λ ts. SpellsPast ts line) (sym same) s' in
    let ls = (one_program parts ts p s''.0 s.0 s''.1 s.1 s''.2).1 in
    let limit : None ≡ Some line = sym s.2 ∙ ap (past_limit 0) ls ∙ s''.3 in
    absurd cc

pub no_fault : (m : Machdep) (text : List ℕ) (p : Source) (r : Refusal) → Spells m text p → HasFault m text r → ⊥
no_fault m text p r s (unlexed q e) = not_both text s.tokens q s.lexed e
no_fault m text p r s (unspelled ts line e none u) = none s.tree s.spelled.0 (subst (λ ts. SpellsLines ts s.tree s.spelled.0) (same_tokens text s.tokens ts s.lexed e) s.spelled.1)
no_fault m text p r s (past ts line e over) = not_past s.tokens ts s.tree line (same_tokens text s.tokens ts s.lexed e) s.spelled over
no_fault m text p r s (untyped ts tree q e within wrong) =
    let same = tree_once s.tokens ts s.tree tree (same_tokens text s.tokens ts s.lexed e) s.spelled within in
    let typed : Ok p ≡ Err q = sym s.is ∙ ap (source_of m) same ∙ wrong in
    absurd cc
no_fault m text p r s (unbuilt ts tree x e within types none) =
    let same = tree_once s.tokens ts s.tree tree (same_tokens text s.tokens ts s.lexed e) s.spelled within in
    let made : Ok p ≡ Ok x = sym s.is ∙ ap (source_of m) same ∙ types in
    let one : p ≡ x = cc in
    let both : true ≡ false = sym s.built ∙ ap is_verified one ∙ none in
    absurd cc

-- ---- one fault

next_once : (xs xs' ys ys' : List Token) (y y' : Token) → xs ++ y ∷ ys ≡ xs' ++ y' ∷ ys' → length xs ≡ length xs' → y ≡ y'
next_once [] [] ys ys' y y' e n = cc
next_once [] (x ∷ xs') ys ys' y y' e n = absurd cc
next_once (x ∷ xs) [] ys ys' y y' e n = absurd cc
next_once (x ∷ xs) (x' ∷ xs') ys ys' y y' e n =
    let rest : xs ++ y ∷ ys ≡ xs' ++ y' ∷ ys' = cc in
    let lengths : length xs ≡ length xs' = cc in
    next_once xs xs' ys ys' y y' rest lengths

line_once : (ts : List Token) (line line' : ℕ) → IsUnspelledOn ts line → IsUnspelledOn ts line' → line ≡ line'
line_once ts line line' u u' =
    let one = u.longest u'.front (u'.next ∷ u'.rest) u'.ds u'.after u'.ls u'.split u'.spelled in
    let two = u'.longest u.front (u.next ∷ u.rest) u.ds u.after u.ls u.split u.spelled in
    let same : u.next ≡ u'.next = next_once u.front u'.front u.rest u'.rest u.next u'.next (sym u.split ∙ u'.split) (omega (arith, one, two)) in
    u.same_line ∙ ap (λ (t : Token). t.line) same ∙ sym u'.same_line

past_once : (ts : List Token) (line line' : ℕ) → SpellsPast ts line → SpellsPast ts line' → line ≡ line'
past_once ts line line' s s' =
    let ls = (one_program parts ts s.0 s'.0 s.1 s'.1 s.2 s'.2).1 in
    let limit : Some line ≡ Some line' = sym s.3 ∙ ap (past_limit 0) ls ∙ s'.3 in
    cc

pub one_fault : (m : Machdep) (text : List ℕ) (r q : Refusal) → HasFault m text r → HasFault m text q → r ≡ q
one_fault m text r q (unlexed r' e) (unlexed q' e') = let same = sym e ∙ e' in cc
one_fault m text r q (unlexed r' e) (unspelled ts line e' none u) = absurd (not_both text ts r' e' e)
one_fault m text r q (unlexed r' e) (past ts line e' over) = absurd (not_both text ts r' e' e)
one_fault m text r q (unlexed r' e) (unbuilt ts tree ty e' within types none) = absurd (not_both text ts r' e' e)
one_fault m text r q (unspelled ts line e none u) (unlexed q' e') = absurd (not_both text ts q' e e')
one_fault m text r q (unspelled ts line e none u) (unspelled ts' line' e' none' u') =
    ap (λ (n : ℕ). record { rule = rule.Syntax; line = n }) (line_once ts line line' u (subst (λ ts. IsUnspelledOn ts line') (same_tokens text ts' ts e' e) u'))
one_fault m text r q (unspelled ts line e none u) (past ts' line' e' over) =
    let here = subst (λ ts. SpellsPast ts line') (same_tokens text ts' ts e' e) over in
    absurd (none here.0 here.1 here.2)
one_fault m text r q (unspelled ts line e none u) (unbuilt ts' tree ty e' within types unmade) =
    let here = subst (λ ts. SpellsWithin ts tree) (same_tokens text ts' ts e' e) within in
    absurd (none tree here.0 here.1)
one_fault m text r q (past ts line e over) (unlexed q' e') = absurd (not_both text ts q' e e')
one_fault m text r q (past ts line e over) (unspelled ts' line' e' none u) =
    let here = subst (λ ts. SpellsPast ts line) (same_tokens text ts ts' e e') over in
    absurd (none here.0 here.1 here.2)
one_fault m text r q (past ts line e over) (past ts' line' e' over') =
    ap (λ (n : ℕ). record { rule = rule.Limit; line = n }) (past_once ts line line' over (subst (λ ts. SpellsPast ts line') (same_tokens text ts' ts e' e) over'))
one_fault m text r q (past ts line e over) (unbuilt ts' tree ty e' within types none) = absurd (not_past ts' ts tree line (same_tokens text ts' ts e' e) within over)
one_fault m text r q (unbuilt ts tree ty e within types none) (unlexed q' e') = absurd (not_both text ts q' e e')
one_fault m text r q (unbuilt ts tree ty e within types none) (unspelled ts' line' e' none' u) =
    let here = subst (λ ts. SpellsWithin ts tree) (same_tokens text ts ts' e e') within in
    absurd (none' tree here.0 here.1)
one_fault m text r q (unbuilt ts tree ty e within types none) (past ts' line' e' over) = absurd (not_past ts ts' tree line' (same_tokens text ts ts' e e') within over)
one_fault m text r q (unbuilt ts tree ty e within types none) (unbuilt ts' tree' ty' e' within' types' none') = refl
one_fault m text r q (unlexed r' e) (untyped ts tree q' e' within wrong) = absurd (not_both text ts r' e' e)
one_fault m text r q (unspelled ts line e none u) (untyped ts' tree q' e' within wrong) =
    let here = subst (λ ts. SpellsWithin ts tree) (same_tokens text ts' ts e' e) within in
    absurd (none tree here.0 here.1)
one_fault m text r q (past ts line e over) (untyped ts' tree q' e' within wrong) = absurd (not_past ts' ts tree line (same_tokens text ts' ts e' e) within over)
one_fault m text r q (untyped ts tree r' e within wrong) (unlexed q' e') = absurd (not_both text ts q' e e')
one_fault m text r q (untyped ts tree r' e within wrong) (unspelled ts' line' e' none' u) =
    let here = subst (λ ts. SpellsWithin ts tree) (same_tokens text ts ts' e e') within in
    absurd (none' tree here.0 here.1)
one_fault m text r q (untyped ts tree r' e within wrong) (past ts' line' e' over) = absurd (not_past ts ts' tree line' (same_tokens text ts ts' e e') within over)
one_fault m text r q (untyped ts tree r' e within wrong) (untyped ts' tree' q' e' within' wrong') =
    let same = tree_once ts ts' tree tree' (same_tokens text ts ts' e e') within within' in
    let both : Err r' ≡ Err q' = sym wrong ∙ ap (source_of m) same ∙ wrong' in
    cc
one_fault m text r q (untyped ts tree r' e within wrong) (unbuilt ts' tree' ty e' within' types none) =
    let same = tree_once ts ts' tree tree' (same_tokens text ts ts' e e') within within' in
    let both : Err r' ≡ Ok ty = sym wrong ∙ ap (source_of m) same ∙ types in
    absurd cc
one_fault m text r q (unbuilt ts tree ty e within types none) (untyped ts' tree' q' e' within' wrong) =
    let same = tree_once ts ts' tree tree' (same_tokens text ts ts' e e') within within' in
    let both : Ok ty ≡ Err q' = sym types ∙ ap (source_of m) same ∙ wrong in
    absurd cc

-- ---- a program or a fault

by_made : (m : Machdep) (text : List ℕ) (ts : List Token) (tree : d.Program) (x : Source) → tokens_of text ≡ Ok ts → SpellsWithin ts tree → source_of m tree ≡ Ok x → (made : Bool) → is_verified x ≡ made → SpellsOrHasFault m text
by_made m text ts tree x e within types true is = inl (x, record { tokens = ts; tree = tree; lexed = e; spelled = within; is = types; built = is })
by_made m text ts tree x e within types false none = inr (record { rule = rule.Unbuilt; line = 1 }, unbuilt ts tree x e within types none)

by_tree : (m : Machdep) (text : List ℕ) (ts : List Token) (tree : d.Program) → tokens_of text ≡ Ok ts → SpellsWithin ts tree → (given : Answer Source) → source_of m tree ≡ given → SpellsOrHasFault m text
by_tree m text ts tree e within (Ok x) is = by_made m text ts tree x e within is (is_verified x) refl
by_tree m text ts tree e within (Err r) is = inr (r, untyped ts tree r e within is)

by_outcome : (m : Machdep) (text : List ℕ) (ts : List Token) → tokens_of text ≡ Ok ts → (given : Outcome) → Says ts given → SpellsOrHasFault m text
by_outcome m text ts e (parsed tree) says = by_tree m text ts tree e says (source_of m tree) refl
by_outcome m text ts e (parser.unspelled line) says = inr (record { rule = rule.Syntax; line = line }, unspelled ts line e says.0 says.1)
by_outcome m text ts e (parser.past line) says = inr (record { rule = rule.Limit; line = line }, past ts line e says)

by_tokens : (m : Machdep) (text : List ℕ) (given : Result (List Token) Refusal) → tokens_of text ≡ given → SpellsOrHasFault m text
by_tokens m text (Ok ts) e = by_outcome m text ts e (outcome ts) (outcome_says parts ts)
by_tokens m text (Err r) e = inr (r, unlexed r e)

pub program_or_fault : (m : Machdep) (text : List ℕ) → SpellsOrHasFault m text
program_or_fault m text = by_tokens m text (tokens_of text) refl
