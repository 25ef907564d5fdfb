-- Both directions, as the public calls state them.
use Rattle.std.proofs.Common.{◌≡◌, ℕ, zero, suc, ◌+◌, ◌-◌, ◌≤◌, List, [], ◌∷◌, ◌++◌, length, Option, Some, None, Result, Ok, Err, refl, sym, ap, ◌∙◌, subst, arith, append-nil, length-append, inl, inr, IfOk}
use Rattle.wp_base.specs.declared.answers.Refusal.{Refusal}
use Rattle.wp_base.specs.declared.answers.Rule.TheVariants as rule
use Rattle.wp_base.specs.declared.answers.Stop.{Stop}
use Rattle.wp_base.specs.declared.answers.Stop.TheVariants as stop
use Rattle.c_syntax.specs.declared.token.Token.{Token}
use Rattle.c_syntax.specs.declared.decl.Program.{Program}
use Rattle.c_syntax.specs.Decl as d
use Rattle.c_syntax.specs.View.{view_program}
use Rattle.c_grammar.specs.Tokens.{Names}
use Rattle.c_grammar.specs.Decls.{Lines, past_limit, SpellsDecls, SpellsLines, IsUnspelledOn}
use Rattle.parse_file.specs.Read as r
use Rattle.parse_file.specs.Read.{Found, Front}
use Rattle.c_parser.specs.Outcome.{Outcome, parsed, unspelled, past, outcome, outcome_by, within_limits, refusal_of, Answers, SpellsWithin, SpellsPast, SpellsNone, Refuses, OnlyParsed, OnlyRefused}
use Rattle.parse_file.proofs.Parts.{Parts}
use Rattle.parse_file.proofs.Sound.{decl_sound, front_sound}
use Rattle.parse_file.proofs.Complete.{read_so, decl_some, decls_complete}

-- ---- the front that is read

none_by : (types : Names) (end : ℕ) (o : Option (Found × List Token)) → r.decl_at types end [] ≡ o → o ≡ None
none_by types end None h = refl
none_by types end (Some x) h =
    let took = decl_sound types end [] x.0 x.1 (omega arith) h in
    let some = decl_some took.2 in
    let size : 0 ≡ length took.0 + length x.1 = ap length took.1 ∙ length-append took.0 x.1 in
    absurd (omega arith)

none_left : (types : Names) (end turns : ℕ) → r.front_of end turns types [] ≡ r.nothing_more types []
unfolding r.front_of
none_left types end zero = refl
none_left types end (suc turns) = let none = none_by types end (r.decl_at types end []) refl in rw none refl

left_shorter : (end turns : ℕ) (types : Names) (ts : List Token) → length ts ≤ end → length (r.front_of end turns types ts).left ≤ length ts
left_shorter end turns types ts le =
    let front = front_sound end turns types ts le in
    let size : length ts ≡ length front.0 + length (r.front_of end turns types ts).left = ap length front.1 ∙ length-append front.0 (r.front_of end turns types ts).left in
    omega arith

-- where declarations are spelled at the front, no more than what comes behind them is left
longest : Parts → (ts front rest : List Token) (ds : List d.Decl) (after : Names) (ls : List Lines) → ts ≡ front ++ rest → SpellsDecls [] 0 front ds after ls → length (r.file_front ts).left ≤ length rest
longest parts ts front rest ds after ls split s =
    let size : length ts ≡ length front + length rest = ap length split ∙ length-append front rest in
    let same : length (front ++ rest) ≡ length ts = ap length (sym split) in
    let read = decls_complete parts s (length ts) (length ts) rest (omega arith) (omega arith) in
    let left : (r.file_front ts).left ≡ (r.front_of (length ts) read.0 after rest).left =
    ap (λ l. (r.front_of (length ts) (length ts) [] l).left) split ∙ ap (λ (f : Front). f.left) read.2 in
    let shorter = left_shorter (length ts) read.0 after rest (omega arith) in
    let sizes = ap length left in
    omega arith

-- a file that is spelled is read whole
whole_read : Parts → (ts : List Token) (p : d.Program) (ls : List Lines) → SpellsLines ts p ls → (r.file_front ts) ≡ record { decls = p; names = (r.file_front ts).names; lines = ls; left = [] }
whole_read parts ts p ls s =
    let split : ts ++ [] ≡ ts = append-nil ts in
    let same = ap length split in
    let read = decls_complete parts s.1 (length ts) (length ts) [] (omega arith) (omega arith) in
    let made : r.file_front ts ≡ r.before_front (read_so p ls) (r.nothing_more s.0 []) =
    ap (r.front_of (length ts) (length ts) []) (sym split) ∙ read.2 ∙ ap (r.before_front (read_so p ls)) (none_left s.0 (length ts) read.0) in
    let is_p : (r.file_front ts).decls ≡ p = ap (λ (f : Front). f.decls) made ∙ append-nil p in
    let is_ls : (r.file_front ts).lines ≡ ls = ap (λ (f : Front). f.lines) made ∙ append-nil ls in
    let is_left : (r.file_front ts).left ≡ [] = ap (λ (f : Front). f.left) made in
    λ i. record { decls = is_p i; names = (r.file_front ts).names; lines = is_ls i; left = is_left i }

-- what is read is spelled
front_spelled : (ts : List Token) → (xs : List Token) × (ts ≡ xs ++ (r.file_front ts).left) × SpellsDecls [] 0 xs (r.file_front ts).decls (r.file_front ts).names (r.file_front ts).lines
front_spelled ts =
    let front = front_sound (length ts) (length ts) [] ts (omega arith) in
    let place : length ts - length ts ≡ 0 = omega arith in
    (front.0, front.1, subst (λ at. SpellsDecls [] at front.0 (r.file_front ts).decls (r.file_front ts).names (r.file_front ts).lines) place front.2)

-- ---- the laws of the grammar

-- a file spells one program, with one list of lines
pub one_program : Parts → (ts : List Token) (p q : d.Program) (ls ls' : List Lines) → SpellsLines ts p ls → SpellsLines ts q ls' → (p ≡ q) × (ls ≡ ls')
one_program parts ts p q ls ls' s s' =
    let one = whole_read parts ts p ls s in
    let two = whole_read parts ts q ls' s' in
    (sym (ap (λ (f : Front). f.decls) one) ∙ ap (λ (f : Front). f.decls) two, sym (ap (λ (f : Front). f.lines) one) ∙ ap (λ (f : Front). f.lines) two)

-- ---- outcomes

outcome_is : (ts left : List Token) → (r.file_front ts).left ≡ left → outcome ts ≡ outcome_by left (r.file_front ts)
unfolding outcome
outcome_is ts left h = ap (λ left. outcome_by left (r.file_front ts)) h

-- where tokens are left, no program is spelled, and the first of them is on the line
left_unspelled : Parts → (ts : List Token) (t : Token) (rest : List Token) → (r.file_front ts).left ≡ t ∷ rest → SpellsNone ts × IsUnspelledOn ts t.line
left_unspelled parts ts t rest h =
    let front = front_spelled ts in
    let split : ts ≡ front.0 ++ t ∷ rest = front.1 ∙ ap (λ l. front.0 ++ l) h in
    let left_size : length (r.file_front ts).left ≡ length (t ∷ rest) = ap length h in
    let size : length ts ≡ length front.0 + length (t ∷ rest) = ap length split ∙ length-append front.0 (t ∷ rest) in (
      λ p ls s. (let read : [] ≡ t ∷ rest = sym (ap (λ (f : Front). f.left) (whole_read parts ts p ls s)) ∙ h in absurd cc),
      record {
        front = front.0;
        next = t;
        rest = rest;
        ds = (r.file_front ts).decls;
        after = (r.file_front ts).names;
        ls = (r.file_front ts).lines;
        split = split;
        spelled = front.2;
        longest = λ front' rest' ds' after' ls' eq s. (
            let shorter = longest parts ts front' rest' ds' after' ls' eq s in
            let sizes : length ts ≡ length front' + length rest' = ap length eq ∙ length-append front' rest' in
            omega arith);
        same_line = refl;
      },
    )

none_left_spelled : (ts : List Token) → (r.file_front ts).left ≡ [] → SpellsLines ts (r.file_front ts).decls (r.file_front ts).lines
none_left_spelled ts h =
    let front = front_spelled ts in
    let same : ts ≡ front.0 = front.1 ∙ ap (λ l. front.0 ++ l) h ∙ append-nil front.0 in
    ((r.file_front ts).names, subst (λ xs. SpellsDecls [] 0 xs (r.file_front ts).decls (r.file_front ts).names (r.file_front ts).lines) (sym same) front.2)

-- what an outcome says of the tokens
abbrev pub Says : List Token → Outcome → Type 0
Says ts (parsed p) = SpellsWithin ts p
Says ts (unspelled line) = SpellsNone ts × IsUnspelledOn ts line
Says ts (past line) = SpellsPast ts line

within_says : (ts : List Token) → (r.file_front ts).left ≡ [] → (o : Option ℕ) → past_limit 0 (r.file_front ts).lines ≡ o → Says ts (within_limits (r.file_front ts).decls o)
within_says ts h None is = ((r.file_front ts).lines, none_left_spelled ts h, is)
within_says ts h (Some line) is = ((r.file_front ts).decls, (r.file_front ts).lines, none_left_spelled ts h, is)

outcome_by_says : Parts → (ts left : List Token) → (r.file_front ts).left ≡ left → Says ts (outcome_by left (r.file_front ts))
outcome_by_says parts ts [] h = within_says ts h (past_limit 0 (r.file_front ts).lines) refl
outcome_by_says parts ts (t ∷ rest) h = left_unspelled parts ts t rest h

pub outcome_says : Parts → (ts : List Token) → Says ts (outcome ts)
unfolding outcome
outcome_says parts ts = outcome_by_says parts ts (r.file_front ts).left refl

-- what the tokens spell is the outcome
pub spelled_outcome : Parts → (ts : List Token) (p : d.Program) (ls : List Lines) → SpellsLines ts p ls → outcome ts ≡ within_limits p (past_limit 0 ls)
unfolding outcome
spelled_outcome parts ts p ls s = ap (λ (f : Front). outcome_by f.left f) (whole_read parts ts p ls s)

-- ---- answers

refuses : Parts → (ts : List Token) (o : Outcome) → Says ts o → (x : Refusal) → refusal_of o ≡ Some x → Refuses ts x
refuses parts ts (parsed p) says x h = absurd cc
refuses parts ts (unspelled line) says x h =
    let made : Refusal = record { rule = rule.Syntax; line = line } in
    let same : made ≡ x = cc in
    subst (Refuses ts) same (inl (refl, says.0, says.1))
refuses parts ts (past line) says x h =
    let made : Refusal = record { rule = rule.Limit; line = line } in
    let same : made ≡ x = cc in
    subst (Refuses ts) same (inr (refl, says))

-- the clauses of the public call
pub gives_spelled : Parts → (ts : List Token) (p : Program) → outcome ts ≡ parsed (view_program p) → SpellsWithin ts (view_program p)
gives_spelled parts ts p h = subst (Says ts) h (outcome_says parts ts)

pub gives_refusal : Parts → (ts : List Token) (x : Refusal) → refusal_of (outcome ts) ≡ Some x → Refuses ts x
gives_refusal parts ts x h = refuses parts ts (outcome ts) (outcome_says parts ts) x h

only_parsed_by : (result : Result Program Stop) (o : Outcome) → Answers result o → (q : d.Program) → o ≡ parsed q → OnlyParsed result q
only_parsed_by (Ok p) o answers q is = let same : parsed (view_program p) ≡ parsed q = sym answers ∙ is in cc
only_parsed_by (Err (stop.Refused x)) o answers q is = let never : None ≡ Some x = ap refusal_of (sym is) ∙ answers in absurd cc
only_parsed_by (Err stop.NoMemory) o answers q is = refl

only_refused_by : (result : Result Program Stop) (o : Outcome) → Answers result o → (x : Refusal) → refusal_of o ≡ Some x → OnlyRefused result x
only_refused_by (Ok p) o answers x is = let never : None ≡ Some x = ap refusal_of (sym answers) ∙ is in absurd cc
only_refused_by (Err (stop.Refused y)) o answers x is = inl (let same : Some y ≡ Some x = sym answers ∙ is in cc)
only_refused_by (Err stop.NoMemory) o answers x is = inr refl

pub only_parsed : Parts → (ts : List Token) (result : Result Program Stop) → Answers result (outcome ts) → (q : d.Program) → SpellsWithin ts q → OnlyParsed result q
only_parsed parts ts result answers q s =
    only_parsed_by result (outcome ts) answers q (spelled_outcome parts ts q s.0 s.1 ∙ ap (within_limits q) s.2)

pub only_past : Parts → (ts : List Token) (result : Result Program Stop) → Answers result (outcome ts) → (line : ℕ) → SpellsPast ts line → OnlyRefused result (record { rule = rule.Limit; line = line })
only_past parts ts result answers line s =
    only_refused_by result (outcome ts) answers (record { rule = rule.Limit; line = line })
    (ap refusal_of (spelled_outcome parts ts s.0 s.1 s.2 ∙ ap (within_limits s.0) s.3))

pub spelled_clause : Parts → (ts : List Token) (result : Result Program Stop) → Answers result (outcome ts) → IfOk result (λ p. SpellsWithin ts (view_program p))
spelled_clause parts ts (Ok p) answers = gives_spelled parts ts p answers
spelled_clause parts ts (Err e) answers = tt

pub refusal_clause : Parts → (ts : List Token) (result : Result Program Stop) → Answers result (outcome ts) → (x : Refusal) → result ≡ Err (stop.Refused x) → Refuses ts x
refusal_clause parts ts (Ok p) answers x h = absurd cc
refusal_clause parts ts (Err (stop.Refused y)) answers x h =
    let same : Some y ≡ Some x = cc in
    gives_refusal parts ts x (answers ∙ same)
refusal_clause parts ts (Err stop.NoMemory) answers x h = absurd cc
