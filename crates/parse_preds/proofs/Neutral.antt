-- Predicates are neutral for what comes after a bracket: in them each bracket is closed, and no `..` stands outside brackets. None begins as a type.
use Rattle.std.proofs.Common.{◌≡◌, ℕ, suc, Bool, false, List, [], ◌∷◌, ◌++◌, Some, refl, sym, ap, ◌∙◌, subst, append_assoc}
use Rattle.c_syntax.specs.declared.token.Token.{Token}
use Rattle.c_syntax.specs.declared.token.Punct.{Punct}
use Rattle.c_syntax.specs.declared.token.Punct.TheVariants as p
use Rattle.c_syntax.specs.declared.token.Word.TheVariants as w
use Rattle.c_syntax.specs.declared.expr.BinOp.{BinOp}
use Rattle.c_syntax.specs.Expr as e
use Rattle.c_syntax.specs.Term as t
use Rattle.c_syntax.specs.Pred as r
use Rattle.c_grammar.specs.Tokens.{Names, punct, word, name}
use Rattle.c_grammar.specs.Operators.{comparison_of, Connective, connective_of}
use Rattle.c_grammar.specs.Lists.{Separated}
use Rattle.c_grammar.specs.Lists as lists
use Rattle.c_grammar.specs.Terms.{SpellsPointer}
use Rattle.c_grammar.specs.Preds as g
use Rattle.c_grammar.specs.Preds.{without_integer, SpellsLogicType, SpellsTyped, SpellsMoreBinders, SpellsBinders, SpellsChain, SpellsPointers, SpellsAtom, SpellsOperand, SpellsJoined, SpellsImplied, SpellsIff, SpellsPred}
use Rattle.c_grammar.specs.Reading.{past}
use Rattle.parse_types.specs.Read.{starts_type}
use Rattle.parse_types.proofs.Laws.{type_name_neutral}
use Rattle.parse_preds.proofs.Below.{Below}

abbrev pub Neutral : List Token → Type 0
Neutral xs = (depth : ℕ) (found : Bool) (rest : List Token) → past depth found (xs ++ rest) ≡ past depth found rest

both : (xs ys : List Token) → Neutral xs → Neutral ys → Neutral (xs ++ ys)
both xs ys first second depth found rest = ap (past depth found) (append_assoc xs ys rest) ∙ first depth found (ys ++ rest) ∙ second depth found rest

in_parens : (line line' : ℕ) (inside : List Token) → Neutral inside → Neutral (punct p.OpenParen line ∷ (inside ++ punct p.CloseParen line' ∷ []))
in_parens line line' inside n depth found rest = ap (past (suc depth) found) (append_assoc inside (punct p.CloseParen line' ∷ []) rest) ∙ n (suc depth) found (punct p.CloseParen line' ∷ rest)

comparison_neutral : (q : Punct) (op : BinOp) → comparison_of q ≡ Some op → (line : ℕ) → Neutral (punct q line ∷ [])
comparison_neutral p.Less op h line depth found rest = refl
comparison_neutral p.AtMost op h line depth found rest = refl
comparison_neutral p.Greater op h line depth found rest = refl
comparison_neutral p.AtLeast op h line depth found rest = refl
comparison_neutral p.Equal op h line depth found rest = refl
comparison_neutral p.NotEqual op h line depth found rest = refl
comparison_neutral _ op h line depth found rest = absurd cc

connective_neutral : (q : Punct) (c : Connective) → connective_of q ≡ Some c → (line : ℕ) → Neutral (punct q line ∷ [])
connective_neutral p.And c h line depth found rest = refl
connective_neutral p.Xor c h line depth found rest = refl
connective_neutral p.Or c h line depth found rest = refl
connective_neutral _ c h line depth found rest = absurd cc

-- ---- binders

logic_type_neutral : {types : Names} {xs : List Token} {type : e.CType} → SpellsLogicType types xs type → Neutral xs
logic_type_neutral g.integer depth found rest = refl
logic_type_neutral {types} {xs} {type} (g.c_type s) depth found rest = type_name_neutral (without_integer types) xs type s depth found rest

typed_neutral : {types : Names} {xs : List Token} {x : e.VarDecl} → SpellsTyped types xs x → Neutral xs
typed_neutral (g.typed {line} {x} {first} s free eq) = subst Neutral (sym eq) (both first (name x line ∷ []) (logic_type_neutral s) (λ depth found rest. refl))

more_binders_neutral : {types : Names} {type : e.CType} {xs : List Token} {bs : List e.VarDecl} → SpellsMoreBinders types type xs bs → Neutral xs
more_binders_neutral g.none = λ depth found rest. refl
more_binders_neutral (g.untyped {line'} line {x} {rest = others} free s) = both (punct p.Comma line ∷ name x line' ∷ []) others (λ depth found rest. refl) (more_binders_neutral s)
more_binders_neutral (g.typed line {first} {rest = others} s more eq) =
    subst Neutral (sym eq) (both (punct p.Comma line ∷ []) (first ++ others) (λ depth found rest. refl) (both first others (typed_neutral s) (more_binders_neutral more)))

binders_neutral : {types : Names} {xs : List Token} {bs : List e.VarDecl} → SpellsBinders types xs bs → Neutral xs
binders_neutral (g.binders {first} {rest = others} s more eq) = subst Neutral (sym eq) (both first others (typed_neutral s) (more_binders_neutral more))

-- ---- predicates

chain_neutral : {types : Names} → Below types → {room line : ℕ} {xs : List Token} {terms : List t.Term} {ops : List BinOp} → SpellsChain types room xs terms ops line → Neutral xs
chain_neutral laws {room} (g.two {line} q {op} {left} {right} {a} {b} is sa sb eq) =
    subst Neutral (sym eq) (both left (punct q line ∷ right) (laws.chain_neutral room left a sa) (both (punct q line ∷ []) right (comparison_neutral q op is line) (laws.chain_neutral room right b sb)))
chain_neutral laws {room} (g.more {line} line' q {op} {left} {right} {a} is sa tail eq) =
    subst Neutral (sym eq) (both left (punct q line ∷ right) (laws.chain_neutral room left a sa) (both (punct q line ∷ []) right (comparison_neutral q op is line) (chain_neutral laws tail)))

items_neutral : {X : Type 0} (Item : List Token → X → Type 0) → ((xs : List Token) (x : X) → Item xs x → Neutral xs) → {xs : List Token} {items : List X} → Separated Item xs items → Neutral xs
items_neutral Item each {xs} (lists.one {x} s) = each xs x s
items_neutral Item each (lists.more line {first} {rest = others} {x} s tail eq) =
    subst Neutral (sym eq) (both first (punct p.Comma line ∷ others) (each first x s) (both (punct p.Comma line ∷ []) others (λ depth found rest. refl) (items_neutral Item each tail)))

pointers_neutral : {types : Names} → Below types → {room : ℕ} {xs : List Token} {pointers : List t.Term} → SpellsPointers types room xs pointers → Neutral xs
pointers_neutral {types} laws {room} (g.pointers s) = items_neutral (SpellsPointer types room) (laws.pointer_neutral room) s

mutual
  atom_neutral : {types : Names} → Below types → {room : ℕ} {xs : List Token} {a : r.Pred} → SpellsAtom types room xs a → Neutral xs
  atom_neutral laws g.always = λ depth found rest. refl
  atom_neutral laws g.never = λ depth found rest. refl
  atom_neutral laws (g.chain s is) = chain_neutral laws s
  atom_neutral laws (g.valid {room} {line} line' line'' {inside} {a} s eq) =
      subst Neutral (sym eq) (both (word w.Valid line ∷ []) (punct p.OpenParen line' ∷ (inside ++ punct p.CloseParen line'' ∷ [])) (λ depth found rest. refl) (in_parens line' line'' inside (laws.pointer_neutral room inside a s)))
  atom_neutral laws (g.valid_read {room} {line} line' line'' {inside} {a} s eq) =
      subst Neutral (sym eq) (both (word w.ValidRead line ∷ []) (punct p.OpenParen line' ∷ (inside ++ punct p.CloseParen line'' ∷ [])) (λ depth found rest. refl) (in_parens line' line'' inside (laws.pointer_neutral room inside a s)))
  atom_neutral laws (g.separated {line} line' line'' {inside} s eq) =
      subst Neutral (sym eq) (both (word w.Separated line ∷ []) (punct p.OpenParen line' ∷ (inside ++ punct p.CloseParen line'' ∷ [])) (λ depth found rest. refl) (in_parens line' line'' inside (pointers_neutral laws s)))
  atom_neutral laws (g.old {line} line' line'' {inside} s eq) =
      subst Neutral (sym eq) (both (word w.Old line ∷ []) (punct p.OpenParen line' ∷ (inside ++ punct p.CloseParen line'' ∷ [])) (λ depth found rest. refl) (in_parens line' line'' inside (pred_neutral laws s)))
  atom_neutral laws (g.named free) = λ depth found rest. refl
  atom_neutral laws (g.call {room} {line} line' line'' {x} {inside} {args} free s eq) =
      subst Neutral (sym eq) (both (name x line ∷ []) (punct p.OpenParen line' ∷ (inside ++ punct p.CloseParen line'' ∷ [])) (λ depth found rest. refl) (in_parens line' line'' inside (laws.some_neutral room inside args s)))
  atom_neutral laws (g.parens line line' {inside} s eq) = subst Neutral (sym eq) (in_parens line line' inside (pred_neutral laws s))

  operand_neutral : {types : Names} → Below types → {room : ℕ} {trails : Bool} {xs : List Token} {a : r.Pred} → SpellsOperand types room trails xs a → Neutral xs
  operand_neutral laws (g.of_atom s) = atom_neutral laws s
  operand_neutral laws (g.not_of {line} {operand = inside} s) = both (punct p.Not line ∷ []) inside (λ depth found rest. refl) (operand_neutral laws s)
  operand_neutral laws (g.for_all {line} line' {first} {body} bs s eq) =
      subst Neutral (sym eq)
      (both (word w.Forall line ∷ []) (first ++ punct p.Semicolon line' ∷ body) (λ depth found rest. refl)
      (both first (punct p.Semicolon line' ∷ body) (binders_neutral bs) (both (punct p.Semicolon line' ∷ []) body (λ depth found rest. refl) (pred_neutral laws s))))
  operand_neutral laws (g.for_some {line} line' {first} {body} bs s eq) =
      subst Neutral (sym eq)
      (both (word w.Exists line ∷ []) (first ++ punct p.Semicolon line' ∷ body) (λ depth found rest. refl)
      (both first (punct p.Semicolon line' ∷ body) (binders_neutral bs) (both (punct p.Semicolon line' ∷ []) body (λ depth found rest. refl) (pred_neutral laws s))))
  operand_neutral laws (g.let_in {room} {line} line' line'' line''' {x} {value} {body} {v} free sv s eq) =
      subst Neutral (sym eq)
      (both (word w.Let line ∷ name x line' ∷ punct p.Assign line'' ∷ []) (value ++ punct p.Semicolon line''' ∷ body) (λ depth found rest. refl)
      (both value (punct p.Semicolon line''' ∷ body) (laws.term_neutral room value v sv) (both (punct p.Semicolon line''' ∷ []) body (λ depth found rest. refl) (pred_neutral laws s))))

  joined_neutral : {types : Names} → Below types → {n room : ℕ} {trails : Bool} {xs : List Token} {a : r.Pred} → SpellsJoined types n room trails xs a → Neutral xs
  joined_neutral laws (g.of_operand s) = operand_neutral laws s
  joined_neutral laws (g.joined line q {c} {left} {right} le is level sa sb eq made) =
      subst Neutral (sym eq) (both left (punct q line ∷ right) (joined_neutral laws sa) (both (punct q line ∷ []) right (connective_neutral q c is line) (joined_neutral laws sb)))

  implied_neutral : {types : Names} → Below types → {room : ℕ} {trails : Bool} {xs : List Token} {a : r.Pred} → SpellsImplied types room trails xs a → Neutral xs
  implied_neutral laws (g.of_joined s) = joined_neutral laws s
  implied_neutral laws (g.implies {line} {left} {right} sa sb eq) =
      subst Neutral (sym eq) (both left (punct p.Implies line ∷ right) (joined_neutral laws sa) (both (punct p.Implies line ∷ []) right (λ depth found rest. refl) (implied_neutral laws sb)))

  iff_neutral : {types : Names} → Below types → {room : ℕ} {trails : Bool} {xs : List Token} {a : r.Pred} → SpellsIff types room trails xs a → Neutral xs
  iff_neutral laws (g.of_implied s) = implied_neutral laws s
  iff_neutral laws (g.iff {line} {left} {right} sa sb eq) =
      subst Neutral (sym eq) (both left (punct p.Iff line ∷ right) (iff_neutral laws sa) (both (punct p.Iff line ∷ []) right (λ depth found rest. refl) (implied_neutral laws sb)))

  pub pred_neutral : {types : Names} → Below types → {room : ℕ} {trails : Bool} {xs : List Token} {a : r.Pred} → SpellsPred types room trails xs a → Neutral xs
  pred_neutral laws (g.of_iff s) = iff_neutral laws s
  pred_neutral laws (g.cond {line} line' {test} {yes = first} {no' = second} sa sb sc eq) =
      subst Neutral (sym eq)
      (both test (punct p.Question line ∷ (first ++ punct p.Colon line' ∷ second)) (iff_neutral laws sa)
      (both (punct p.Question line ∷ []) (first ++ punct p.Colon line' ∷ second) (λ depth found rest. refl)
      (both first (punct p.Colon line' ∷ second) (pred_neutral laws sb) (both (punct p.Colon line' ∷ []) second (λ depth found rest. refl) (pred_neutral laws sc)))))

-- ---- how a predicate begins

-- these tokens begin no type
abbrev pub NoType : Names → List Token → Type 0
NoType types xs = (rest : List Token) → starts_type types (xs ++ rest) ≡ false

front : (types : Names) (xs ys : List Token) → NoType types xs → NoType types (xs ++ ys)
front types xs ys n rest = ap (starts_type types) (append_assoc xs ys rest) ∙ n (ys ++ rest)

chain_no_type : {types : Names} → Below types → {room line : ℕ} {xs : List Token} {terms : List t.Term} {ops : List BinOp} → SpellsChain types room xs terms ops line → NoType types xs
chain_no_type {types} laws {room} (g.two {line} q {left} {right} {a} is sa sb eq) = subst (NoType types) (sym eq) (front types left (punct q line ∷ right) (laws.chain_no_type room left a sa))
chain_no_type {types} laws {room} (g.more {line} line' q {left} {right} {a} is sa tail eq) = subst (NoType types) (sym eq) (front types left (punct q line ∷ right) (laws.chain_no_type room left a sa))

atom_no_type : {types : Names} → Below types → {room : ℕ} {xs : List Token} {a : r.Pred} → SpellsAtom types room xs a → NoType types xs
unfolding starts_type
atom_no_type laws g.always rest = refl
atom_no_type laws g.never rest = refl
atom_no_type laws (g.chain s is) rest = chain_no_type laws s rest
atom_no_type {types} laws (g.valid line' line'' s eq) rest = subst (λ xs. starts_type types (xs ++ rest) ≡ false) (sym eq) refl
atom_no_type {types} laws (g.valid_read line' line'' s eq) rest = subst (λ xs. starts_type types (xs ++ rest) ≡ false) (sym eq) refl
atom_no_type {types} laws (g.separated line' line'' s eq) rest = subst (λ xs. starts_type types (xs ++ rest) ≡ false) (sym eq) refl
atom_no_type {types} laws (g.old line' line'' s eq) rest = subst (λ xs. starts_type types (xs ++ rest) ≡ false) (sym eq) refl
atom_no_type laws (g.named free) rest = free
atom_no_type {types} laws (g.call line' line'' free s eq) rest = subst (λ xs. starts_type types (xs ++ rest) ≡ false) (sym eq) free
atom_no_type {types} laws (g.parens line line' s eq) rest = subst (λ xs. starts_type types (xs ++ rest) ≡ false) (sym eq) refl

operand_no_type : {types : Names} → Below types → {room : ℕ} {trails : Bool} {xs : List Token} {a : r.Pred} → SpellsOperand types room trails xs a → NoType types xs
unfolding starts_type
operand_no_type laws (g.of_atom s) rest = atom_no_type laws s rest
operand_no_type laws (g.not_of s) rest = refl
operand_no_type {types} laws (g.for_all line' bs s eq) rest = subst (λ xs. starts_type types (xs ++ rest) ≡ false) (sym eq) refl
operand_no_type {types} laws (g.for_some line' bs s eq) rest = subst (λ xs. starts_type types (xs ++ rest) ≡ false) (sym eq) refl
operand_no_type {types} laws (g.let_in line' line'' line''' free sv s eq) rest = subst (λ xs. starts_type types (xs ++ rest) ≡ false) (sym eq) refl

joined_no_type : {types : Names} → Below types → {n room : ℕ} {trails : Bool} {xs : List Token} {a : r.Pred} → SpellsJoined types n room trails xs a → NoType types xs
joined_no_type laws (g.of_operand s) = operand_no_type laws s
joined_no_type {types} laws (g.joined line q {left} {right} le is level sa sb eq made) = subst (NoType types) (sym eq) (front types left (punct q line ∷ right) (joined_no_type laws sa))

implied_no_type : {types : Names} → Below types → {room : ℕ} {trails : Bool} {xs : List Token} {a : r.Pred} → SpellsImplied types room trails xs a → NoType types xs
implied_no_type laws (g.of_joined s) = joined_no_type laws s
implied_no_type {types} laws (g.implies {line} {left} {right} sa sb eq) = subst (NoType types) (sym eq) (front types left (punct p.Implies line ∷ right) (joined_no_type laws sa))

iff_no_type : {types : Names} → Below types → {room : ℕ} {trails : Bool} {xs : List Token} {a : r.Pred} → SpellsIff types room trails xs a → NoType types xs
iff_no_type laws (g.of_implied s) = implied_no_type laws s
iff_no_type {types} laws (g.iff {line} {left} {right} sa sb eq) = subst (NoType types) (sym eq) (front types left (punct p.Iff line ∷ right) (iff_no_type laws sa))

pub pred_no_type : {types : Names} → Below types → {room : ℕ} {trails : Bool} {xs : List Token} {a : r.Pred} → SpellsPred types room trails xs a → NoType types xs
pred_no_type laws (g.of_iff s) = iff_no_type laws s
pred_no_type {types} laws (g.cond {line} line' {test} {yes = first} {no' = second} sa sb sc eq) =
    subst (NoType types) (sym eq) (front types test (punct p.Question line ∷ (first ++ punct p.Colon line' ∷ second)) (iff_no_type laws sa))
