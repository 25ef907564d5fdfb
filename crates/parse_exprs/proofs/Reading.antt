-- The readers' equations, in the code's words.
use Rattle.std.proofs.Common.{◌≡◌, ℕ, zero, suc, ◌+◌, ◌-◌, ◌≤◌, eqb, Bool, true, false, List, [], ◌∷◌, ◌++◌, length, map, Option, Some, None, Err, refl, sym, ap, ◌∙◌, arith, add-one, append_assoc}
use Rattle.std.proofs.lemmas.Bool.Decides.{nat_tests}
use Rattle.c_syntax.specs.declared.token.Token.{Token}
use Rattle.c_syntax.specs.declared.expr.BinOp.{BinOp}
use Rattle.c_syntax.specs.declared.expr.Expr.{Expr}
use Rattle.c_syntax.specs.Expr as e
use Rattle.c_syntax.specs.View.{view_expr}
use Rattle.c_grammar.specs.declared.fault.Fault.{Fault}
use Rattle.c_grammar.specs.declared.fault.Fault.TheVariants.{Syntax, NoMemory}
use Rattle.c_grammar.specs.Tokens.{Names}
use Rattle.c_grammar.specs.Reading.{Reader, ◌>>=◌, chain, levels}
use Rattle.c_grammar.specs.Views.{Gives}
use Rattle.c_grammar.proofs.Readers.{gives_fault}
use Rattle.parse_types.specs.Read.{type_name_at}
use Rattle.parse_exprs.specs.declared.operators.Suffix.{Suffix}
use Rattle.parse_exprs.specs.declared.trees.Place.{Place}
use Rattle.parse_exprs.specs.Operators.{operator, assign_at, suffix_at}
use Rattle.parse_exprs.specs.Read.{Inside, arg, some_args, args_then, args_over, suffix, suffixes, unary_over, levels_from, binary, binary_from, binary_chain, cond_from, cond_over, assigned, assigns, expr_over, closed, over, forms, if_room, inside, finish}
use Rattle.parse_exprs.specs.Views.{assign_all, assign_to, view_arg, with_args, with_places}

bind_some : {X : Type 0} (o : Option (X × List Token)) → o ≡ (o >>= λ a. Some (a.0, a.1))
bind_some None = refl
bind_some (Some x) = refl

pub bind_bind : {X Y Z : Type 0} (o : Option X) (f : X → Option Y) (g : Y → Option Z) → ((o >>= f) >>= g) ≡ (o >>= λ x. f x >>= g)
bind_bind None f g = refl
bind_bind (Some x) f g = refl

-- ---- readers that read alike are equal

alike : {X : Type 0} (p q : Reader X) → ((ts : List Token) → p ts ≡ q ts) → p ≡ q
alike p q h = λ i ts. h ts i

some_room : {X : Type 0} (room : ℕ) (p : Reader X) (ts : List Token) → if_room (suc room) p ts ≡ p ts
some_room room p ts =
    let some : eqb (suc room) 0 ≡ false = grind (arith, nat_tests) in
    rw some refl

same_inside : (a b : Inside) → a.unary ≡ b.unary → a.cond ≡ b.cond → a.expr ≡ b.expr → a.args ≡ b.args → a.type_name ≡ b.type_name → a ≡ b
same_inside a b u c x g t = λ i. record { unary = u i; cond = c i; expr = x i; args = g i; type_name = t i }

inside_none : (types : Names) → closed ≡ inside types 0
inside_none types = same_inside closed (inside types 0) refl refl refl refl refl

-- ---- with so many more forms open

now_is : {X : Type 0} (read : Inside → Reader X) (types : Names) (room : ℕ) → read (forms types room) ≡ if_room (suc room) (read (forms types (suc room - 1)))
now_is read types room =
    let less : suc room - 1 ≡ room = omega arith in
    alike (read (forms types room)) (if_room (suc room) (read (forms types (suc room - 1))))
    (λ ts. ap (λ n. read (forms types n) ts) (sym less) ∙ sym (some_room room (read (forms types (suc room - 1))) ts))

inside_more : (types : Names) (room : ℕ) → forms types room ≡ inside types (suc room)
inside_more types room =
    same_inside (forms types room) (inside types (suc room))
    (now_is (λ x. x.unary) types room) (now_is (λ x. x.cond) types room) (now_is (λ x. x.expr) types room) (now_is (λ x. x.args) types room) (now_is (λ x. x.type_name) types room)

pub forms_are : (types : Names) (room : ℕ) → forms types room ≡ over types (inside types room)
unfolding forms
forms_are types zero = ap (over types) (inside_none types)
forms_are types (suc room) = ap (over types) (inside_more types room)

pub unary_is : (types : Names) (room : ℕ) (ts : List Token) → (forms types room).unary ts ≡ unary_over types (inside types room) ts
unary_is types room ts = ap (λ (x : Inside). x.unary ts) (forms_are types room)

pub type_name_is : (types : Names) (room : ℕ) (ts : List Token) → (forms types room).type_name ts ≡ type_name_at types ts
type_name_is types room ts = ap (λ (x : Inside). x.type_name ts) (forms_are types room)

pub args_is : (types : Names) (room : ℕ) (ts : List Token) → (forms types room).args ts ≡ args_over (forms types room).expr ts
args_is types room ts =
    ap (λ (x : Inside). x.args ts) (forms_are types room) ∙ ap (λ (x : Inside). args_over x.expr ts) (sym (forms_are types room))

pub cond_is : (types : Names) (room : ℕ) (ts : List Token) → (forms types room).cond ts ≡ ((forms types room).unary ts >>= λ a. finish types room a.0 a.1)
unfolding cond_over
cond_is types room ts =
    ap (λ (x : Inside). x.cond ts) (forms_are types room)
    ∙ ap (λ (x : Inside). x.unary ts >>= λ a. cond_from (inside types room) x.unary a.0 a.1) (sym (forms_are types room))

pub expr_is : (types : Names) (room : ℕ) (ts : List Token) → (forms types room).expr ts ≡ assigns (forms types room).unary (finish types room) (length ts) ts
unfolding expr_over
expr_is types room ts =
    ap (λ (x : Inside). x.expr ts) (forms_are types room)
    ∙ ap (λ (x : Inside). assigns x.unary (cond_from (inside types room) x.unary) (length ts) ts) (sym (forms_are types room))

-- ---- levels

pub binary_is : (n : ℕ) (p : Reader e.Expr) (ts : List Token) → binary n p ts ≡ (p ts >>= λ a. binary_from n p a.0 a.1)
unfolding levels levels_from
binary_is zero p ts = bind_some (p ts)
binary_is (suc n) p ts =
    ap (λ o. o >>= λ a. binary_chain (suc n) (binary n p) (length a.1) a.0 a.1) (binary_is n p ts)
    ∙ bind_bind (p ts) (λ a. binary_from n p a.0 a.1) (λ a. binary_chain (suc n) (binary n p) (length a.1) a.0 a.1)

pub binary_from_zero : (n : ℕ) (p : Reader e.Expr) (a : e.Expr) (ts : List Token) → n ≡ 0 → binary_from n p a ts ≡ Some (a, ts)
unfolding levels_from
binary_from_zero n p a ts h = rw h refl

pub binary_from_more : (n : ℕ) (p : Reader e.Expr) (a : e.Expr) (ts : List Token) → 1 ≤ n
    → binary_from n p a ts ≡ (binary_from (n - 1) p a ts >>= λ b. binary_chain n (binary (n - 1) p) (length b.1) b.0 b.1)
unfolding levels_from
binary_from_more zero p a ts le = absurd (omega arith)
binary_from_more (suc n) p a ts le =
    let less : n ≡ suc n - 1 = omega arith in
    ap (λ m. binary_from m p a ts >>= λ b. binary_chain (suc n) (binary m p) (length b.1) b.0 b.1) less

-- ---- operators behind an operand

pub suffixes_end : (within : Inside) (turns : ℕ) (a : e.Expr) (ts : List Token) → turns ≡ 0 → suffixes within turns a ts ≡ Some (a, ts)
unfolding suffixes
suffixes_end within turns a ts h = rw h refl

pub suffixes_stop : (within : Inside) (turns : ℕ) (a : e.Expr) (ts : List Token) → suffix_at ts ≡ None → suffixes within turns a ts ≡ Some (a, ts)
unfolding suffixes
suffixes_stop within zero a ts h = refl
suffixes_stop within (suc turns) a ts h = rw h refl

suffixes_go : (within : Inside) (turns turns' : ℕ) (a : e.Expr) (ts : List Token) (how : Suffix) (line : ℕ) (after : List Token) → turns ≡ turns' + 1 → suffix_at ts ≡ Some ((how, line), after)
    → suffixes within turns a ts ≡ (suffix within how line a after >>= λ b. suffixes within turns' b.0 b.1)
unfolding suffixes
suffixes_go within turns turns' a ts how line after same found = rw (same, add-one, found) refl

pub suffixes_turn : (within : Inside) (turns turns' : ℕ) (a b : e.Expr) (ts : List Token) (how : Suffix) (line : ℕ) (after rest : List Token) → turns ≡ turns' + 1 → suffix_at ts ≡ Some ((how, line), after)
    → suffix within how line a after ≡ Some (b, rest) → suffixes within turns' b rest ≡ suffixes within turns a ts
suffixes_turn within turns turns' a b ts how line after rest same found read =
    sym (suffixes_go within turns turns' a ts how line after same found ∙ ap (λ x. x >>= λ b. suffixes within turns' b.0 b.1) read)

pub suffixes_fault : (within : Inside) (turns turns' : ℕ) (a : e.Expr) (ts : List Token) (how : Suffix) (line : ℕ) (after : List Token) (end : Fault) → turns ≡ turns' + 1 → suffix_at ts ≡ Some ((how, line), after)
    → Gives view_expr (Err end) (suffix within how line a after) → Gives view_expr (Err end) (suffixes within turns a ts)
suffixes_fault within turns turns' a ts how line after end same found h =
    rw (suffixes_go within turns turns' a ts how line after same found) (gives_fault view_expr view_expr (suffix within how line a after) _ end h)

-- ---- arguments

with_args_after : (a : e.Expr) (es : List e.Expr) (given : Option (List e.Expr × List Token)) → with_args (es ++ a ∷ []) given ≡ with_args es (given >>= λ x. Some (a ∷ x.0, x.1))
with_args_after a es None = refl
with_args_after a es (Some x) = ap (λ (all : List e.Expr). Some (all, x.1)) (append_assoc es (a ∷ []) x.0)

pub view_last : (xs : List Expr) (x : Expr) → map view_expr (xs ++ x ∷ []) ≡ map view_expr xs ++ view_expr x ∷ []
view_last [] x = refl
view_last (y ∷ xs) x = ap (λ (es : List e.Expr). view_expr y ∷ es) (view_last xs x)

pub args_out : (p : Reader e.Expr) (turns : ℕ) (ts : List Token) → turns ≡ 0 → some_args p turns ts ≡ None
unfolding some_args
args_out p turns ts h = rw h refl

args_go : (p : Reader e.Expr) (turns turns' : ℕ) (ts : List Token) → turns ≡ turns' + 1 → some_args p turns ts ≡ (arg p ts >>= λ a. args_then a.0.1 a.0.0 a.1 (some_args p turns'))
unfolding some_args
args_go p turns turns' ts same = rw (same, add-one) refl

pub args_turn : (p : Reader e.Expr) (turns turns' : ℕ) (es : List e.Expr) (a : e.Expr) (another : Bool) (ts rest : List Token) → turns ≡ turns' + 1 → arg p ts ≡ Some ((a, another), rest) → another ≡ true
    → with_args (es ++ a ∷ []) (some_args p turns' rest) ≡ with_args es (some_args p turns ts)
args_turn p turns turns' es a another ts rest same read yes' =
    with_args_after a es (some_args p turns' rest)
    ∙ sym (ap (with_args es) (args_go p turns turns' ts same ∙ ap (λ x. x >>= λ a. args_then a.0.1 a.0.0 a.1 (some_args p turns')) read ∙ ap (λ t. args_then t a rest (some_args p turns')) yes'))

pub args_last : (p : Reader e.Expr) (turns turns' : ℕ) (es : List e.Expr) (a : e.Expr) (another : Bool) (ts rest : List Token) → turns ≡ turns' + 1 → arg p ts ≡ Some ((a, another), rest) → another ≡ false
    → with_args es (some_args p turns ts) ≡ Some (es ++ a ∷ [], rest)
args_last p turns turns' es a another ts rest same read no' =
    ap (with_args es) (args_go p turns turns' ts same ∙ ap (λ x. x >>= λ a. args_then a.0.1 a.0.0 a.1 (some_args p turns')) read ∙ ap (λ t. args_then t a rest (some_args p turns')) no')

pub args_fault : (p : Reader e.Expr) (turns turns' : ℕ) (es : List e.Expr) (ts : List Token) (end : Fault) → turns ≡ turns' + 1
    → Gives view_arg (Err end) (arg p ts) → Gives (map view_expr) (Err end) (with_args es (some_args p turns ts))
args_fault p turns turns' es ts Syntax same h = rw (args_go p turns turns' ts same, h) refl
args_fault p turns turns' es ts NoMemory same h = tt

-- ---- assignments

pub assign_last : (ps : List Place) (p : Place) (value : e.Expr) → assign_all (ps ++ p ∷ []) value ≡ assign_all ps (assign_to p value)
unfolding assign_all
assign_last [] p value = refl
assign_last (q ∷ ps) p value = ap (assign_to q) (assign_last ps p value)

with_places_after : (p : Place) (ps : List Place) (given : Option (e.Expr × List Token)) → with_places (ps ++ p ∷ []) given ≡ with_places ps (given >>= λ x. Some (assign_to p x.0, x.1))
with_places_after p ps None = refl
with_places_after p ps (Some x) = ap (λ (v : e.Expr). Some (v, x.1)) (assign_last ps p x.0)

no_places : (given : Option (e.Expr × List Token)) → with_places [] given ≡ given
unfolding assign_all
no_places None = refl
no_places (Some x) = refl

pub assigns_begin : (p : Reader e.Expr) (last : e.Expr → Reader e.Expr) (turns turns' : ℕ) (ps : List Place) (ts : List Token) → ps ≡ [] → turns ≡ turns' → with_places ps (assigns p last turns ts) ≡ assigns p last turns' ts
assigns_begin p last turns turns' ps ts none same =
    ap (λ ps. with_places ps (assigns p last turns ts)) none ∙ no_places (assigns p last turns ts) ∙ ap (λ n. assigns p last n ts) same

pub assigns_out : (p : Reader e.Expr) (last : e.Expr → Reader e.Expr) (turns : ℕ) (ts : List Token) → turns ≡ 0 → assigns p last turns ts ≡ None
unfolding assigns
assigns_out p last turns ts h = rw h refl

assigns_go : (p : Reader e.Expr) (last : e.Expr → Reader e.Expr) (turns turns' : ℕ) (ts : List Token) → turns ≡ turns' + 1
    → assigns p last turns ts ≡ (p ts >>= λ a. assigned (assign_at a.1) a.0 a.1 last (assigns p last turns'))
unfolding assigns
assigns_go p last turns turns' ts same = rw (same, add-one) refl

assigns_one : (p : Reader e.Expr) (last : e.Expr → Reader e.Expr) (turns turns' : ℕ) (a : e.Expr) (ts after : List Token) → turns ≡ turns' + 1 → p ts ≡ Some (a, after)
    → assigns p last turns ts ≡ assigned (assign_at after) a after last (assigns p last turns')
assigns_one p last turns turns' a ts after same read =
    assigns_go p last turns turns' ts same ∙ ap (λ x. x >>= λ a. assigned (assign_at a.1) a.0 a.1 last (assigns p last turns')) read

pub assigns_turn : (p : Reader e.Expr) (last : e.Expr → Reader e.Expr) (turns turns' : ℕ) (ps : List Place) (place : Place) (ts after rest : List Token) → turns ≡ turns' + 1 → p ts ≡ Some (view_expr place.to, after)
    → assign_at after ≡ Some ((place.op, place.line), rest) → with_places (ps ++ place ∷ []) (assigns p last turns' rest) ≡ with_places ps (assigns p last turns ts)
assigns_turn p last turns turns' ps place ts after rest same read found =
    with_places_after place ps (assigns p last turns' rest)
    ∙ sym (ap (with_places ps) (assigns_one p last turns turns' (view_expr place.to) ts after same read ∙ ap (λ x. assigned x (view_expr place.to) after last (assigns p last turns')) found))

pub assigns_last : (p : Reader e.Expr) (last : e.Expr → Reader e.Expr) (turns turns' : ℕ) (ps : List Place) (a value : e.Expr) (ts after rest : List Token) → turns ≡ turns' + 1 → p ts ≡ Some (a, after)
    → assign_at after ≡ None → last a after ≡ Some (value, rest) → with_places ps (assigns p last turns ts) ≡ Some (assign_all ps value, rest)
assigns_last p last turns turns' ps a value ts after rest same read none read' =
    ap (with_places ps) (assigns_one p last turns turns' a ts after same read ∙ ap (λ x. assigned x a after last (assigns p last turns')) none ∙ read')

pub assigns_fault : (p : Reader e.Expr) (last : e.Expr → Reader e.Expr) (turns turns' : ℕ) (ps : List Place) (ts : List Token) (end : Fault) → turns ≡ turns' + 1
    → Gives view_expr (Err end) (p ts) → Gives view_expr (Err end) (with_places ps (assigns p last turns ts))
assigns_fault p last turns turns' ps ts Syntax same h = rw (assigns_go p last turns turns' ts same, h) refl
assigns_fault p last turns turns' ps ts NoMemory same h = tt

pub assigns_last_fault : (p : Reader e.Expr) (last : e.Expr → Reader e.Expr) (turns turns' : ℕ) (ps : List Place) (a : e.Expr) (ts after : List Token) (end : Fault) → turns ≡ turns' + 1
    → p ts ≡ Some (a, after) → assign_at after ≡ None → Gives view_expr (Err end) (last a after) → Gives view_expr (Err end) (with_places ps (assigns p last turns ts))
assigns_last_fault p last turns turns' ps a ts after Syntax same read none h = rw (assigns_one p last turns turns' a ts after same read, none, h) refl
assigns_last_fault p last turns turns' ps a ts after NoMemory same read none h = tt
