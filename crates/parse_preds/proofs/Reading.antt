-- The equations of the readers, in the code's words.
use Rattle.std.proofs.Common.{◌≡◌, ℕ, zero, suc, ◌+◌, ◌-◌, Bool, true, false, cond, eqb, List, [], ◌∷◌, ◌++◌, length, Option, Some, None, Err, refl, sym, ap, ◌∙◌, add-one, arith, append_assoc, append-nil}
use Rattle.std.specs.List.{list_all}
use Rattle.std.specs.Prelude.{◌||◌, ◌&&◌, not}
use Rattle.std.proofs.lemmas.Bool.Decides.{nat_tests}
use Rattle.c_syntax.specs.declared.token.Token.{Token}
use Rattle.c_syntax.specs.declared.token.Punct.TheVariants as p
use Rattle.c_syntax.specs.declared.expr.BinOp.{BinOp}
use Rattle.c_syntax.specs.declared.expr.BinOp.TheVariants as o
use Rattle.c_syntax.specs.Term as t
use Rattle.c_syntax.specs.Pred as r
use Rattle.c_grammar.specs.declared.fault.Fault.{Fault}
use Rattle.c_grammar.specs.declared.fault.Fault.TheVariants.{Syntax, NoMemory}
use Rattle.c_grammar.specs.Tokens.{Names}
use Rattle.c_grammar.specs.Operators.{is_chain, goes_up, goes_down}
use Rattle.c_grammar.specs.Reading.{Reader, ◌>>=◌, punct_at, chain, levels}
use Rattle.c_grammar.specs.Views.{Gives}
use Rattle.parse_preds.specs.Read.{comparison_at, is_unequal, with_tail, tail_at, Form, an_operand, an_implied, a_whole, below_at, go_at, none_below, form_over, operand_over, implied_over, whole_over, iff_over, iff_of, iff_at, turned, form_at}

-- ---- chains of comparisons

guarded : (n : ℕ) (a b : Bool) → cond a true b ≡ (not (eqb (suc n) 0) && (a || b))
guarded n true b = let some : eqb (suc n) 0 ≡ false = grind (arith, nat_tests) in rw some refl
guarded n false b = let some : eqb (suc n) 0 ≡ false = grind (arith, nat_tests) in rw some refl

pub chain_test : (ops : List BinOp) → is_chain ops ≡ (is_unequal ops || (not (eqb (length ops) 0) && (list_all goes_up ops || list_all goes_down ops)))
chain_test [] = refl
chain_test (o.NotEqual ∷ []) = refl
chain_test (op ∷ []) = guarded 0 (list_all goes_up (op ∷ [])) (list_all goes_down (op ∷ []))
chain_test (o.NotEqual ∷ next ∷ ops) = guarded (suc (length ops)) (list_all goes_up (o.NotEqual ∷ next ∷ ops)) (list_all goes_down (o.NotEqual ∷ next ∷ ops))
chain_test (op ∷ next ∷ ops) = guarded (suc (length ops)) (list_all goes_up (op ∷ next ∷ ops)) (list_all goes_down (op ∷ next ∷ ops))

with_tail_after : (terms : List t.Term) (ops : List BinOp) (a : t.Term) (op : BinOp) (given : Option ((List t.Term × List BinOp) × List Token))
    → with_tail (terms ++ a ∷ []) (ops ++ op ∷ []) given ≡ with_tail terms ops (with_tail (a ∷ []) (op ∷ []) given)
with_tail_after terms ops a op None = refl
with_tail_after terms ops a op (Some x) =
    λ i. Some ((append_assoc terms (a ∷ []) x.0.0 i, append_assoc ops (op ∷ []) x.0.1 i), x.1)

with_no_tail : (terms : List t.Term) (ops : List BinOp) (ts : List Token) → with_tail terms ops (Some (([], []), ts)) ≡ Some ((terms, ops), ts)
with_no_tail terms ops ts = λ i. Some ((append-nil terms i, append-nil ops i), ts)

pub tail_end : (read : Reader t.Term) (turns : ℕ) (terms : List t.Term) (ops : List BinOp) (ts : List Token) → turns ≡ 0 → with_tail terms ops (tail_at read turns ts) ≡ Some ((terms, ops), ts)
unfolding tail_at
tail_end read turns terms ops ts e = rw e (with_no_tail terms ops ts)

pub tail_stop : (read : Reader t.Term) (turns : ℕ) (terms : List t.Term) (ops : List BinOp) (ts : List Token) → comparison_at ts ≡ None → with_tail terms ops (tail_at read turns ts) ≡ Some ((terms, ops), ts)
unfolding tail_at
tail_stop read zero terms ops ts e = with_no_tail terms ops ts
tail_stop read (suc turns) terms ops ts e = rw e (with_no_tail terms ops ts)

tail_go : (read : Reader t.Term) (turns turns' : ℕ) (ts : List Token) (op : BinOp) (line : ℕ) (after : List Token) → turns ≡ turns' + 1 → comparison_at ts ≡ Some ((op, line), after)
    → tail_at read turns ts ≡ (read after >>= λ b. with_tail (b.0 ∷ []) (op ∷ []) (tail_at read turns' b.1))
unfolding tail_at
tail_go read turns turns' ts op line after e found = rw (e, add-one, found) refl

pub tail_turn : (read : Reader t.Term) (turns turns' : ℕ) (terms : List t.Term) (ops : List BinOp) (a : t.Term) (ts : List Token) (op : BinOp) (line : ℕ) (after rest : List Token)
    → turns ≡ turns' + 1 → comparison_at ts ≡ Some ((op, line), after) → read after ≡ Some (a, rest)
    → with_tail (terms ++ a ∷ []) (ops ++ op ∷ []) (tail_at read turns' rest) ≡ with_tail terms ops (tail_at read turns ts)
tail_turn read turns turns' terms ops a ts op line after rest one found took =
    with_tail_after terms ops a op (tail_at read turns' rest)
    ∙ sym (ap (with_tail terms ops) (tail_go read turns turns' ts op line after one found ∙ ap (λ x. x >>= λ b. with_tail (b.0 ∷ []) (op ∷ []) (tail_at read turns' b.1)) took))

pub tail_fault : {X Z : Type 0} (see : X → t.Term) (see' : Z → List t.Term × List BinOp) (read : Reader t.Term) (turns turns' : ℕ) (terms : List t.Term) (ops : List BinOp) (ts : List Token) (op : BinOp) (line : ℕ) (after : List Token) (e : Fault)
    → turns ≡ turns' + 1 → comparison_at ts ≡ Some ((op, line), after)
    → Gives see (Err e) (read after) → Gives see' (Err e) (with_tail terms ops (tail_at read turns ts))
tail_fault see see' read turns turns' terms ops ts op line after Syntax one found h = rw (tail_go read turns turns' ts op line after one found, h) refl
tail_fault see see' read turns turns' terms ops ts op line after NoMemory one found h = tt

-- ---- `<==>`

pub iff_more : (read : Reader r.Pred) (ts : List Token) → iff_over read ts ≡ (read ts >>= λ a. chain iff_of (iff_at 1) read (length a.1) a.0 a.1)
unfolding levels
iff_more read ts = refl

-- ---- forms

alike : {X : Type 0} (read read' : Reader X) → ((ts : List Token) → read ts ≡ read' ts) → read ≡ read'
alike read read' h = λ i ts. h ts i

turned_is : (types : Names) (room turns : ℕ) (below : (turns : ℕ) → Form → Reader r.Pred) (form : Form) (ts : List Token)
    → turned types room below turns form ts ≡ form_over types room (below turns) (λ ts. cond (eqb turns 0) None (turned types room below (turns - 1) a_whole ts)) form ts
unfolding turned
turned_is types room zero below form ts = refl
turned_is types room (suc turns) below form ts =
    let some : eqb (suc turns) 0 ≡ false = grind (arith, nat_tests) in
    let less : suc turns - 1 ≡ turns = omega arith in
    rw (some, less) refl

pub under_is : (types : Names) (room turns : ℕ) (form : Form) (ts : List Token) → below_at types (suc room) turns form ts ≡ form_at types room turns form ts
under_is types room turns form ts =
    let some : eqb (suc room) 0 ≡ false = grind (arith, nat_tests) in
    let less : suc room - 1 ≡ room = omega arith in
    rw (some, less) refl

pub form_is : (types : Names) (room turns : ℕ) (form : Form) (ts : List Token) → form_at types room turns form ts ≡ form_over types room (below_at types room turns) (go_at types room turns) form ts
unfolding form_at
form_is types zero turns form ts = turned_is types 0 turns none_below form ts
form_is types (suc room) turns form ts =
    let same : form_at types room turns ≡ below_at types (suc room) turns = λ i form ts. sym (under_is types room turns form ts) i in
    turned_is types (suc room) turns (form_at types room) form ts ∙ ap (λ (below : Form → Reader r.Pred). form_over types (suc room) below (go_at types (suc room) turns) form ts) same

pub operand_is : (types : Names) (room turns : ℕ) (ts : List Token) → form_at types room turns an_operand ts ≡ operand_over types room (below_at types room turns) (go_at types room turns) ts
operand_is types room turns ts = form_is types room turns an_operand ts

pub implied_is : (types : Names) (room turns : ℕ) (ts : List Token) → form_at types room turns an_implied ts ≡ implied_over (below_at types room turns) (form_at types room turns an_operand) ts
implied_is types room turns ts =
    form_is types room turns an_implied ts
    ∙ ap (λ read. implied_over (below_at types room turns) read ts) (alike (operand_over types room (below_at types room turns) (go_at types room turns)) (form_at types room turns an_operand) (λ ts. sym (operand_is types room turns ts)))

pub whole_is : (types : Names) (room turns : ℕ) (ts : List Token) → form_at types room turns a_whole ts ≡ whole_over (below_at types room turns) (form_at types room turns an_implied) ts
whole_is types room turns ts =
    form_is types room turns a_whole ts
    ∙ ap (λ read. whole_over (below_at types room turns) read ts) (alike (implied_over (below_at types room turns) (operand_over types room (below_at types room turns) (go_at types room turns))) (form_at types room turns an_implied) (λ ts. sym (form_is types room turns an_implied ts)))
