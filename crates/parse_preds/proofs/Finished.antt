-- A form is the part that it begins with, and behind an open part what reaches to the end: what was read to the end stops before every operator.
use Rattle.std.proofs.Common.{◌≡◌, ℕ, zero, suc, ◌+◌, ◌-◌, ◌≤◌, Bool, true, false, cond, eqb, List, [], ◌∷◌, ◌++◌, length, Option, Some, None, Err, refl, sym, ap, ◌∙◌, add-one, arith}
use Rattle.std.proofs.lemmas.Bool.Decides.{nat_tests}
use Rattle.c_syntax.specs.declared.token.Token.{Token}
use Rattle.c_syntax.specs.declared.token.TokenKind.{TokenKind}
use Rattle.c_syntax.specs.declared.token.TokenKind.TheVariants as k
use Rattle.c_syntax.specs.declared.token.Punct.TheVariants as p
use Rattle.c_syntax.specs.declared.token.Word.TheVariants as w
use Rattle.c_syntax.specs.Pred as r
use Rattle.c_grammar.specs.declared.fault.Fault.{Fault}
use Rattle.c_grammar.specs.declared.fault.Fault.TheVariants.{Syntax, NoMemory}
use Rattle.c_grammar.specs.Tokens.{Names}
use Rattle.c_grammar.specs.Preds.{connected}
use Rattle.c_grammar.specs.Reading.{Reader, ◌>>=◌, punct_at, linked, chain, levels}
use Rattle.c_grammar.specs.Views.{Gives}
use Rattle.c_grammar.proofs.Readers.{gives_fault}
use Rattle.parse_preds.specs.declared.parts.Frame.{Frame}
use Rattle.parse_preds.specs.Next.{connective_at, ends_pred}
use Rattle.parse_preds.specs.Read.{Form, an_operand, an_implied, a_whole, seen_as, atom_at, bound_at, value_at, body_at, arms_at, iff_at, iff_of, implies_by, cond_by, operand_by, operand_over, implied_over, whole_over, form_over, form_at, below_at, go_at}
use Rattle.parse_preds.specs.Parts.{Part, ended, open_before, within, on_from, operand_part_by, operand_part, linked_part, chain_part, levels_part, implies_part, implied_part, cond_part, iff_part, whole_part, part_over, end_of, finished, operand_at, implied_at, whole_at, part_at, behind, view_frame, around, around_all}
use Rattle.parse_preds.proofs.Ends.{no_connective, pred_stops}
use Rattle.parse_preds.proofs.Reading.{form_is}

-- ---- what was read, seen as something else

seen_within : {X Y Z : Type 0} (f : Y → Z) (g : X → Y) (o : Option (X × List Token)) → seen_as (λ x. f (g x)) o ≡ seen_as f (seen_as g o)
seen_within f g None = refl
seen_within f g (Some x) = refl

seen_then : {X Y Z : Type 0} (f : X → Y) (next : Y × List Token → Option Z) (o : Option (X × List Token)) → (seen_as f o >>= next) ≡ (o >>= λ x. next (f x.0, x.1))
seen_then f next None = refl
seen_then f next (Some x) = refl

then_same : {X Z : Type 0} (next next' : X × List Token → Option Z) → ((x : X × List Token) → next x ≡ next' x) → (o : Option (X × List Token)) → (o >>= next) ≡ (o >>= next')
then_same next next' same None = refl
then_same next next' same (Some x) = same x

alike : {X : Type 0} (read read' : Reader X) → ((ts : List Token) → read ts ≡ read' ts) → read ≡ read'
alike read read' h = λ i ts. h ts i

ended_is : {X : Type 0} (go : Reader r.Pred) (make : X → r.Pred) (o : Option (X × List Token)) → finished go (seen_as (λ x. ended (make x)) o) ≡ seen_as make o
ended_is go make None = refl
ended_is go make (Some x) = refl

atom_is : (go : Reader r.Pred) (o : Option (r.Pred × List Token)) → finished go (seen_as ended o) ≡ o
atom_is go None = refl
atom_is go (Some x) = refl

opened_is : {X : Type 0} (go : Reader r.Pred) (make : X → r.Pred → r.Pred) (o : Option (X × List Token)) → finished go (seen_as (λ x. open_before (make x)) o) ≡ (o >>= λ x. seen_as (make x.0) (body_at go x.1))
opened_is go make None = refl
opened_is go make (Some x) = refl

-- ---- going on

-- nothing more is read where a predicate may end
abbrev Stays : (go : Reader r.Pred) → (next : r.Pred → Reader Part) → Type 0
Stays go next = (a : r.Pred) (ts : List Token) → ends_pred ts ≡ true → finished go (next a ts) ≡ Some (a, ts)

within_is : (go : Reader r.Pred) (make : r.Pred → r.Pred) (x : Part) (ts : List Token) → end_of go (within make x) ts ≡ seen_as make (end_of go x ts)
within_is go make (ended a) ts = refl
within_is go make (open_before outer) ts = seen_within make outer (body_at go ts)

-- what was read, where a predicate may end
abbrev kept : Bool → r.Pred × List Token → Option (r.Pred × List Token)
kept ends x = cond ends (Some (x.0, x.1)) None

abbrev to_end : Option (r.Pred × List Token) → Option (r.Pred × List Token)
to_end o = o >>= λ x. kept (ends_pred x.1) x

body_stays : (go : Reader r.Pred) (next : r.Pred → Reader Part) → Stays go next → (outer : r.Pred → r.Pred) (o : Option (r.Pred × List Token))
    → seen_as outer (to_end o) ≡ (seen_as outer (to_end o) >>= λ a. finished go (next a.0 a.1))
body_stays go next stays outer None = refl
body_stays go next stays outer (Some x) =
    elim (ends_pred x.1) as (λ b. ends_pred x.1 ≡ b → seen_as outer (kept b x) ≡ (seen_as outer (kept b x) >>= λ a. finished go (next a.0 a.1))) [
      | true ↦ (λ ends. sym (stays (outer x.0) x.1 ends))
      | false ↦ (λ goes. refl)
    ]
    refl

on_is : (go : Reader r.Pred) (next : r.Pred → Reader Part) → Stays go next → (x : Part) (ts : List Token) → finished go (on_from next x ts) ≡ (end_of go x ts >>= λ a. finished go (next a.0 a.1))
on_is go next stays (ended a) ts = refl
on_is go next stays (open_before outer) ts = body_stays go next stays outer (go ts)

then_is : (go : Reader r.Pred) (next : r.Pred → Reader Part) → Stays go next → (o : Option (Part × List Token)) → finished go (o >>= λ x. on_from next x.0 x.1) ≡ (finished go o >>= λ a. finished go (next a.0 a.1))
then_is go next stays None = refl
then_is go next stays (Some x) = on_is go next stays x.0 x.1

-- ---- levels

-- no operator comes where a predicate may end
abbrev Ends : {O : Type 0} → (operator : Reader (O × ℕ)) → Type 0
Ends operator = (ts : List Token) → ends_pred ts ≡ true → operator ts ≡ None

pub chain_part_stops : {O : Type 0} (make : O → ℕ → r.Pred → r.Pred → r.Pred) (operator : Reader (O × ℕ)) (operand : Reader Part) (turns : ℕ) (a : r.Pred) (ts : List Token) → operator ts ≡ None
    → chain_part make operator operand turns a ts ≡ Some (ended a, ts)
unfolding chain_part
chain_part_stops make operator operand zero a ts e = refl
chain_part_stops make operator operand (suc turns) a ts e = rw e refl

chain_stays : {O : Type 0} (make : O → ℕ → r.Pred → r.Pred → r.Pred) (operator : Reader (O × ℕ)) → Ends operator → (operand : Reader Part) (turns : ℕ) (go : Reader r.Pred)
    → Stays go (λ a ts. chain_part make operator operand turns a ts)
chain_stays make operator ends operand turns go a ts h = ap (finished go) (chain_part_stops make operator operand turns a ts (ends ts h))

-- an operand with what stands to its left, and what comes behind it
operand_then : (go : Reader r.Pred) (next : r.Pred → Reader Part) → Stays go next → (later : r.Pred → Reader r.Pred) → ((a : r.Pred) (ts : List Token) → finished go (next a ts) ≡ later a ts)
    → (make : r.Pred → r.Pred) (o : Option (Part × List Token))
    → finished go (o >>= λ b. on_from next (within make b.0) b.1) ≡ (finished go o >>= λ b. later (make b.0) b.1)
operand_then go next stays later same make None = refl
operand_then go next stays later same make (Some b) =
    on_is go next stays (within make b.0) b.1
    ∙ ap (λ o. o >>= λ a. finished go (next a.0 a.1)) (within_is go make b.0 b.1)
    ∙ seen_then make (λ a. finished go (next a.0 a.1)) (end_of go b.0 b.1)
    ∙ then_same (λ a. finished go (next (make a.0) a.1)) (λ a. later (make a.0) a.1) (λ a. same (make a.0) a.1) (end_of go b.0 b.1)

linked_is : {O : Type 0} (go : Reader r.Pred) (next : r.Pred → Reader Part) → Stays go next → (later : r.Pred → Reader r.Pred) → ((a : r.Pred) (ts : List Token) → finished go (next a ts) ≡ later a ts)
    → (make : O → ℕ → r.Pred → r.Pred → r.Pred) (operand : Reader Part) (a : r.Pred) (ts : List Token) (o : Option ((O × ℕ) × List Token))
    → finished go (linked_part make o a ts operand next) ≡ linked make o a ts (λ ts. finished go (operand ts)) later
linked_is go next stays later same make operand a ts None = refl
linked_is go next stays later same make operand a ts (Some x) = operand_then go next stays later same (make x.0.0 x.0.1 a) (operand x.1)

chain_is : {O : Type 0} (make : O → ℕ → r.Pred → r.Pred → r.Pred) (operator : Reader (O × ℕ)) → Ends operator → (operand : Reader Part) (go : Reader r.Pred) (turns : ℕ) (a : r.Pred) (ts : List Token)
    → finished go (chain_part make operator operand turns a ts) ≡ chain make operator (λ ts. finished go (operand ts)) turns a ts
unfolding chain_part chain
chain_is make operator ends operand go zero a ts = refl
chain_is make operator ends operand go (suc turns) a ts =
    linked_is go (chain_part make operator operand turns) (chain_stays make operator ends operand turns go) (chain make operator (λ ts. finished go (operand ts)) turns) (chain_is make operator ends operand go turns) make operand a ts (operator ts)

levels_is : {O : Type 0} (make : O → ℕ → r.Pred → r.Pred → r.Pred) (operator : ℕ → Reader (O × ℕ)) → ((n : ℕ) → Ends (operator n)) → (operand : Reader Part) (go : Reader r.Pred) (n : ℕ) (ts : List Token)
    → finished go (levels_part make operator n operand ts) ≡ levels make operator n (λ ts. finished go (operand ts)) ts
unfolding levels_part levels
levels_is make operator ends operand go zero ts = refl
levels_is make operator ends operand go (suc n) ts =
    let below = λ (ts : List Token). finished go (levels_part make operator n operand ts) in
    let below' = levels make operator n (λ ts. finished go (operand ts)) in
    let same : below ≡ below' = alike below below' (levels_is make operator ends operand go n) in
    then_is go (λ a ts. chain_part make (operator (suc n)) (levels_part make operator n operand) (length ts) a ts) (λ a ts h. chain_stays make (operator (suc n)) (ends (suc n)) (levels_part make operator n operand) (length ts) go a ts h) (levels_part make operator n operand ts)
    ∙ then_same
    (λ a. finished go (chain_part make (operator (suc n)) (levels_part make operator n operand) (length a.1) a.0 a.1))
    (λ a. chain make (operator (suc n)) below (length a.1) a.0 a.1)
    (λ a. chain_is make (operator (suc n)) (ends (suc n)) (levels_part make operator n operand) go (length a.1) a.0 a.1)
    (below ts)
    ∙ ap (λ (read : Reader r.Pred). read ts >>= λ a. chain make (operator (suc n)) read (length a.1) a.0 a.1) same

-- ---- forms

operand_part_is : (types : Names) (room : ℕ) (below : Form → Reader r.Pred) (go : Reader r.Pred) (ts : List Token) → finished go (operand_part types room below ts) ≡ operand_over types room below go ts
operand_part_is types room below go [] = refl
operand_part_is types room below go (t ∷ ts) = by_kind t.kind
  where
    by_kind : (kind : TokenKind) → finished go (operand_part_by types room below t.line kind ts (t ∷ ts)) ≡ operand_by types room below go t.line kind ts (t ∷ ts)
    by_kind (k.Punct p.Not) = ended_is go (r.not_of t.line) (below an_operand ts)
    by_kind (k.Word w.Forall) = opened_is go (r.for_all t.line) (bound_at types ts)
    by_kind (k.Word w.Exists) = opened_is go (r.for_some t.line) (bound_at types ts)
    by_kind (k.Word w.Let) = opened_is go (λ x. r.let_in t.line x.0 x.1) (value_at types room ts)
    by_kind _ = atom_is go (atom_at types room (below a_whole) (t ∷ ts))

implies_is : (go below : Reader r.Pred) (a : r.Pred) (ts : List Token) (o : Option (ℕ × List Token)) → finished go (implies_part o below a ts) ≡ implies_by o below a ts
implies_is go below a ts None = refl
implies_is go below a ts (Some x) = ended_is go (r.implies x.0 a) (below x.1)

implies_stays : (go below : Reader r.Pred) → Stays go (λ a ts. implies_part (punct_at p.Implies ts) below a ts)
implies_stays go below a ts h = let none = pred_stops p.Implies refl ts h in rw none refl

implied_part_is : (below : Form → Reader r.Pred) (operand : Reader Part) (go : Reader r.Pred) (ts : List Token) → finished go (implied_part below operand ts) ≡ implied_over below (λ ts. finished go (operand ts)) ts
implied_part_is below operand go ts =
    then_is go (λ a ts. implies_part (punct_at p.Implies ts) (below an_implied) a ts) (implies_stays go (below an_implied)) (levels_part connected connective_at 3 operand ts)
    ∙ ap (λ o. o >>= λ a. finished go (implies_part (punct_at p.Implies a.1) (below an_implied) a.0 a.1)) (levels_is connected connective_at no_connective operand go 3 ts)
    ∙ then_same
    (λ a. finished go (implies_part (punct_at p.Implies a.1) (below an_implied) a.0 a.1))
    (λ a. implies_by (punct_at p.Implies a.1) (below an_implied) a.0 a.1)
    (λ a. implies_is go (below an_implied) a.0 a.1 (punct_at p.Implies a.1))
    (levels connected connective_at 3 (λ ts. finished go (operand ts)) ts)

no_iff : (n : ℕ) → Ends (iff_at n)
no_iff zero ts h = refl
no_iff (suc n) ts h = let none = pred_stops p.Iff refl ts h in rw none refl

cond_is : (go below : Reader r.Pred) (a : r.Pred) (ts : List Token) (o : Option (ℕ × List Token)) → finished go (cond_part o below a ts) ≡ cond_by o below a ts
cond_is go below a ts None = refl
cond_is go below a ts (Some x) = ended_is go (λ (arms : r.Pred × r.Pred). r.cond x.0 a arms.0 arms.1) (arms_at below x.1)

cond_stays : (go below : Reader r.Pred) → Stays go (λ a ts. cond_part (punct_at p.Question ts) below a ts)
cond_stays go below a ts h = let none = pred_stops p.Question refl ts h in rw none refl

whole_part_is : (below : Form → Reader r.Pred) (implied : Reader Part) (go : Reader r.Pred) (ts : List Token) → finished go (whole_part below implied ts) ≡ whole_over below (λ ts. finished go (implied ts)) ts
whole_part_is below implied go ts =
    then_is go (λ a ts. cond_part (punct_at p.Question ts) (below a_whole) a ts) (cond_stays go (below a_whole)) (levels_part iff_of iff_at 1 implied ts)
    ∙ ap (λ o. o >>= λ a. finished go (cond_part (punct_at p.Question a.1) (below a_whole) a.0 a.1)) (levels_is iff_of iff_at no_iff implied go 1 ts)
    ∙ then_same
    (λ a. finished go (cond_part (punct_at p.Question a.1) (below a_whole) a.0 a.1))
    (λ a. cond_by (punct_at p.Question a.1) (below a_whole) a.0 a.1)
    (λ a. cond_is go (below a_whole) a.0 a.1 (punct_at p.Question a.1))
    (levels iff_of iff_at 1 (λ ts. finished go (implied ts)) ts)

pub form_over_is : (types : Names) (room : ℕ) (below : Form → Reader r.Pred) (go : Reader r.Pred) (form : Form) (ts : List Token) → form_over types room below go form ts ≡ finished go (part_over types room below form ts)
form_over_is types room below go form ts = sym (by_form form)
  where
    operand : (λ (ts : List Token). finished go (operand_part types room below ts)) ≡ operand_over types room below go
    operand = alike (λ ts. finished go (operand_part types room below ts)) (operand_over types room below go) (operand_part_is types room below go)

    implied : (ts : List Token) → finished go (implied_part below (operand_part types room below) ts) ≡ implied_over below (operand_over types room below go) ts
    implied ts = implied_part_is below (operand_part types room below) go ts ∙ ap (λ (read : Reader r.Pred). implied_over below read ts) operand

    by_form : (form : Form) → finished go (part_over types room below form ts) ≡ form_over types room below go form ts
    by_form an_operand = operand_part_is types room below go ts
    by_form an_implied = implied ts
    by_form a_whole =
        whole_part_is below (implied_part below (operand_part types room below)) go ts
        ∙ ap (λ (read : Reader r.Pred). whole_over below read ts) (alike (λ ts. finished go (implied_part below (operand_part types room below) ts)) (implied_over below (operand_over types room below go)) implied)

-- ---- in the code's words

parts_are : (types : Names) (room turns : ℕ) (form : Form) (ts : List Token) → part_over types room (below_at types room turns) form ts ≡ part_at types room turns form ts
unfolding operand_at implied_at whole_at
parts_are types room turns an_operand ts = refl
parts_are types room turns an_implied ts = refl
parts_are types room turns a_whole ts = refl

pub form_finished : (types : Names) (room turns : ℕ) (form : Form) (ts : List Token) → form_at types room turns form ts ≡ finished (go_at types room turns) (part_at types room turns form ts)
form_finished types room turns form ts =
    form_is types room turns form ts
    ∙ form_over_is types room (below_at types room turns) (go_at types room turns) form ts
    ∙ ap (finished (go_at types room turns)) (parts_are types room turns form ts)

pub joined_zero : (n : ℕ) (operand : Reader Part) (ts : List Token) → n ≡ 0 → levels_part connected connective_at n operand ts ≡ operand ts
unfolding levels_part
joined_zero n operand ts e = rw e refl

pub joined_more : (n : ℕ) (operand : Reader Part) (ts : List Token) → 1 ≤ n
    → levels_part connected connective_at n operand ts
    ≡ (levels_part connected connective_at (n - 1) operand ts >>= λ x. on_from (λ a ts. chain_part connected (connective_at n) (levels_part connected connective_at (n - 1) operand) (length ts) a ts) x.0 x.1)
unfolding levels_part
joined_more zero operand ts le = absurd (omega arith)
joined_more (suc n) operand ts le =
    let e : n ≡ suc n - 1 = omega arith in
    ap (λ m. levels_part connected connective_at m operand ts >>= λ x. on_from (λ a ts. chain_part connected (connective_at (suc n)) (levels_part connected connective_at m operand) (length ts) a ts) x.0 x.1) e

pub iff_more : (implied : Reader Part) (ts : List Token) → iff_part implied ts ≡ (implied ts >>= λ x. on_from (λ a ts. chain_part iff_of (iff_at 1) implied (length ts) a ts) x.0 x.1)
unfolding levels_part
iff_more implied ts = refl

pub chain_part_ends : {O : Type 0} (make : O → ℕ → r.Pred → r.Pred → r.Pred) (operator : Reader (O × ℕ)) (operand : Reader Part) (turns : ℕ) (a : r.Pred) (ts : List Token) → turns ≡ 0
    → chain_part make operator operand turns a ts ≡ Some (ended a, ts)
unfolding chain_part
chain_part_ends make operator operand turns a ts e = rw e refl

pub iff_part_stops : (implied : Reader Part) (turns : ℕ) (a : r.Pred) (ts : List Token) → punct_at p.Iff ts ≡ None → chain_part iff_of (iff_at 1) implied turns a ts ≡ Some (ended a, ts)
iff_part_stops implied turns a ts e = chain_part_stops iff_of (iff_at 1) implied turns a ts (rw e refl)

chain_part_goes : {O : Type 0} (make : O → ℕ → r.Pred → r.Pred → r.Pred) (operator : Reader (O × ℕ)) (operand : Reader Part) (turns turns' : ℕ) (a : r.Pred) (ts : List Token) (op : O) (line : ℕ) (after : List Token)
    → turns ≡ turns' + 1 → operator ts ≡ Some ((op, line), after)
    → chain_part make operator operand turns a ts ≡ (operand after >>= λ b. on_from (chain_part make operator operand turns') (within (make op line a) b.0) b.1)
unfolding chain_part
chain_part_goes make operator operand turns turns' a ts op line after e found = rw (e, add-one, found) refl

-- one more operand was read, and with what stands to its left it is the part `both`
pub chain_part_turn : {O : Type 0} (make : O → ℕ → r.Pred → r.Pred → r.Pred) (operator : Reader (O × ℕ)) (operand : Reader Part) (turns turns' : ℕ) (a : r.Pred) (b both : Part) (ts : List Token) (op : O) (line : ℕ) (after rest : List Token)
    → turns ≡ turns' + 1 → operator ts ≡ Some ((op, line), after) → operand after ≡ Some (b, rest) → both ≡ within (make op line a) b
    → chain_part make operator operand turns a ts ≡ on_from (chain_part make operator operand turns') both rest
chain_part_turn make operator operand turns turns' a b both ts op line after rest one found took joined =
    chain_part_goes make operator operand turns turns' a ts op line after one found
    ∙ ap (λ o. o >>= λ b. on_from (chain_part make operator operand turns') (within (make op line a) b.0) b.1) took
    ∙ ap (λ b. on_from (chain_part make operator operand turns') b rest) (sym joined)

pub chain_part_fault : {O X : Type 0} (see : X → Part) (make : O → ℕ → r.Pred → r.Pred → r.Pred) (operator : Reader (O × ℕ)) (operand : Reader Part) (turns turns' : ℕ) (a : r.Pred) (ts : List Token) (op : O) (line : ℕ) (after : List Token) (e : Fault)
    → turns ≡ turns' + 1 → operator ts ≡ Some ((op, line), after)
    → Gives see (Err e) (operand after) → Gives see (Err e) (chain_part make operator operand turns a ts)
chain_part_fault see make operator operand turns turns' a ts op line after e one found h =
    rw (chain_part_goes make operator operand turns turns' a ts op line after one found) (gives_fault see see (operand after) _ e h)

pub iff_found : (ts : List Token) (line : ℕ) (after : List Token) → punct_at p.Iff ts ≡ Some (line, after) → iff_at 1 ts ≡ Some ((p.Iff, line), after)
iff_found ts line after e = rw e refl

-- ---- what stands around

pub around_last : (frames : List Frame) (x : Frame) (a : r.Pred) → around (frames ++ x ∷ []) a ≡ view_frame x (around frames a)
unfolding around
around_last [] x a = refl
around_last (y ∷ frames) x a = around_last frames x (view_frame y a)

pub around_more : (frames : List Frame) (x : Frame) → around (frames ++ x ∷ []) ≡ (λ a. view_frame x (around frames a))
around_more frames x = λ i a. around_last frames x a i

pub around_all_last : (parts : List (List Frame)) (x : List Frame) (a : r.Pred) → around_all (parts ++ x ∷ []) a ≡ around_all parts (around x a)
unfolding around_all
around_all_last [] x a = refl
around_all_last (y ∷ parts) x a = ap (around y) (around_all_last parts x a)

-- ---- behind an open part

go_more : (types : Names) (room left left' : ℕ) (ts : List Token) → left ≡ left' + 1 → go_at types room left ts ≡ finished (go_at types room left') (whole_at types room left' ts)
go_more types room left left' ts one =
    let some : eqb left 0 ≡ false = grind (arith, nat_tests) in
    let less : left - 1 ≡ left' = omega arith in
    rw (some, less) (form_finished types room left' a_whole ts)

-- what reaches to the end still does with more around it
body_within : (make : r.Pred → r.Pred) (o : Option (r.Pred × List Token)) → to_end (seen_as make (to_end o)) ≡ seen_as make (to_end o)
body_within make None = refl
body_within make (Some x) =
    elim (ends_pred x.1) as (λ b. ends_pred x.1 ≡ b → to_end (seen_as make (kept b x)) ≡ seen_as make (kept b x)) [
      | true ↦ (λ ends. rw ends refl)
      | false ↦ (λ goes. refl)
    ]
    refl

behind_goes : (types : Names) (room left left' : ℕ) (outer : r.Pred → r.Pred) (ts : List Token) (o : Option (Part × List Token)) → left ≡ left' + 1 → whole_at types room left' ts ≡ o
    → behind types room left outer ts ≡ seen_as outer (to_end (finished (go_at types room left') o))
behind_goes types room left left' outer ts o one found =
    ap (λ (o : Option (r.Pred × List Token)). seen_as outer (to_end o)) (go_more types room left left' ts one ∙ ap (finished (go_at types room left')) found)

pub behind_none : (types : Names) (room left : ℕ) (outer : r.Pred → r.Pred) (ts : List Token) → left ≡ 0 → behind types room left outer ts ≡ None
behind_none types room left outer ts e = rw e refl

pub behind_ends : (types : Names) (room left left' : ℕ) (outer : r.Pred → r.Pred) (ts : List Token) (a : r.Pred) (after : List Token) → left ≡ left' + 1 → whole_at types room left' ts ≡ Some (ended a, after)
    → behind types room left outer ts ≡ seen_as outer (cond (ends_pred after) (Some (a, after)) None)
behind_ends types room left left' outer ts a after one found = behind_goes types room left left' outer ts (Some (ended a, after)) one found

pub behind_turn : (types : Names) (room left left' : ℕ) (parts : List (List Frame)) (x : List Frame) (ts after : List Token) → left ≡ left' + 1 → whole_at types room left' ts ≡ Some (open_before (around x), after)
    → behind types room left' (around_all (parts ++ x ∷ [])) after ≡ behind types room left (around_all parts) ts
behind_turn types room left left' parts x ts after one found =
    let more : around_all (parts ++ x ∷ []) ≡ (λ a. around_all parts (around x a)) = λ i a. around_all_last parts x a i in
    ap (λ (outer : r.Pred → r.Pred). behind types room left' outer after) more
    ∙ seen_within (around_all parts) (around x) (body_at (go_at types room left') after)
    ∙ ap (seen_as (around_all parts)) (sym (body_within (around x) (go_at types room left' after)))
    ∙ sym (behind_goes types room left left' (around_all parts) ts (Some (open_before (around x), after)) one found)

pub behind_fault : {X Y : Type 0} (see : X → Part) (see' : Y → r.Pred) (types : Names) (room left left' : ℕ) (outer : r.Pred → r.Pred) (ts : List Token) (e : Fault) → left ≡ left' + 1
    → Gives see (Err e) (whole_at types room left' ts) → Gives see' (Err e) (behind types room left outer ts)
behind_fault see see' types room left left' outer ts Syntax one h = rw (behind_goes types room left left' outer ts None one h) refl
behind_fault see see' types room left left' outer ts NoMemory one h = tt
