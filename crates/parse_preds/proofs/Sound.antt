-- What the readers of predicates read is spelled so.
use Rattle.std.proofs.Common.{◌≡◌, ℕ, zero, suc, ◌-◌, Bool, true, false, cond, eqb, List, [], ◌∷◌, ◌++◌, length, Option, Some, None, refl, sym, ap, ◌∙◌, subst, ◌⊎◌, inl, inr, ⊎_elim, arith, append_assoc, append-nil}
use Rattle.std.proofs.lemmas.Bool.Decides.{nat_tests}
use Rattle.c_syntax.specs.declared.token.Token.{Token}
use Rattle.c_syntax.specs.declared.token.TokenKind.{TokenKind}
use Rattle.c_syntax.specs.declared.token.TokenKind.TheVariants as k
use Rattle.c_syntax.specs.declared.token.Punct.TheVariants as p
use Rattle.c_syntax.specs.declared.token.Word.TheVariants as w
use Rattle.c_syntax.specs.declared.expr.BinOp.{BinOp}
use Rattle.c_syntax.specs.Expr as e
use Rattle.c_syntax.specs.Term as t
use Rattle.c_syntax.specs.Pred as r
use Rattle.c_grammar.specs.Tokens.{Names, is_type, token, punct, word, name}
use Rattle.c_grammar.specs.Operators.{is_chain, shift_level}
use Rattle.c_grammar.specs.Lists.{Separated}
use Rattle.c_grammar.specs.Lists as lists
use Rattle.c_grammar.specs.Terms.{anywhere, in_chain, SpellsTerm, SpellsTermBinary, SpellsPointer}
use Rattle.c_grammar.specs.Preds as g
use Rattle.c_grammar.specs.Preds.{SpellsChain, SpellsPointers, SpellsAtom, SpellsOperand, SpellsJoined, SpellsImplied, SpellsIff, SpellsPred, SpellsBinders, connected}
use Rattle.c_grammar.specs.Reading.{Reader, ◌>>=◌, punct_at, new_name_at}
use Rattle.c_grammar.proofs.Readers.{Took, Sound, bind_ok, guard_ok, got, pair_is}
use Rattle.c_grammar.specs.ListReaders.{more_separated}
use Rattle.c_grammar.proofs.SingleTokens.{punct_is, new_name_is}
use Rattle.c_grammar.proofs.Separating.{more_separated_sound}
use Rattle.parse_terms.specs.Next.{begins_chain}
use Rattle.parse_terms.specs.Read.{term_at, chain_term_at, some_terms_at, pointer_at}
use Rattle.parse_preds.specs.Read.{ends_pred, comparison_at, with_tail, Tail, tail_at, tail_from, compared_more, chained, chain_at, pointers_from, pointers_at, seen_as, named_by, named, closed_by, closed, atom_at, Form, an_operand, an_implied, a_whole, under, enclosed, bracketed, body_at, bound_at, value_at, binders_at}
use Rattle.parse_preds.proofs.Ends.{comparison_is}
use Rattle.parse_preds.proofs.Below.{Below, SpellsList}
use Rattle.parse_preds.proofs.BindersSound.{binders_sound, with_items_ok}
use Rattle.parse_preds.proofs.Trailing.{Trailing, Reached}

-- ---- steps

pub seen_ok : {X Y : Type 0} (make : X → Y) (o : Option (X × List Token)) (b : Y) (rest : List Token) → seen_as make o ≡ Some (b, rest) → (x : X) × (o ≡ Some (x, rest)) × (make x ≡ b)
seen_ok make None b rest h = absurd cc
seen_ok {X} make (Some x) b rest h =
    let same = pair_is (make x.0) b x.1 rest h in
    (x.0, ap (λ l. got x.0 l) same.1, same.0)

-- what stands before a closing parenthesis
enclosed_ok : {X : Type 0} (inside : Reader X) (ts : List Token) (a : X) (rest : List Token) → enclosed inside ts ≡ Some (a, rest)
    → (mid : List Token) × (line : ℕ) × (inside ts ≡ Some (a, mid)) × (mid ≡ punct p.CloseParen line ∷ rest)
enclosed_ok {X} inside ts a rest h =
    let x = bind_ok (inside ts) (λ (x : X × List Token). punct_at p.CloseParen x.1 >>= λ c. Some (x.0, c.1)) (a, rest) h in
    let c = bind_ok (punct_at p.CloseParen x.0.1) (λ (c : ℕ × List Token). Some (x.0.0, c.1)) (a, rest) x.2 in
    let same = pair_is x.0.0 a c.0.1 rest c.2 in
    (x.0.1, c.0.0, x.1 ∙ ap (λ a. got a x.0.1) same.0, punct_is p.CloseParen x.0.1 c.0.0 c.0.1 c.1 ∙ ap (λ l. punct p.CloseParen c.0.0 ∷ l) same.1)

bracketed_ok : {X : Type 0} (inside : Reader X) (ts : List Token) (a : X) (rest : List Token) → bracketed inside ts ≡ Some (a, rest)
    → (after : List Token) × (line : ℕ) × (ts ≡ punct p.OpenParen line ∷ after) × (enclosed inside after ≡ Some (a, rest))
bracketed_ok inside ts a rest h =
    let x = bind_ok (punct_at p.OpenParen ts) (λ (x : ℕ × List Token). enclosed inside x.1) (a, rest) h in
    (x.0.1, x.0.0, punct_is p.OpenParen ts x.0.0 x.0.1 x.1, x.2)

under_ok : {X : Type 0} (read : ℕ → Reader X) (room : ℕ) (ts : List Token) (x : X × List Token) → under read room ts ≡ Some x → (room' : ℕ) × (room ≡ suc room') × (read room' ts ≡ Some x)
under_ok read zero ts x h = absurd cc
under_ok read (suc room) ts x h =
    let some : eqb (suc room) 0 ≡ false = grind (arith, nat_tests) in
    let less : suc room - 1 ≡ room = omega arith in
    (room, refl, rw (some, less) at h)

-- tokens before a closing one
closes : (xs ts mid rest : List Token) (c : Token) → ts ≡ xs ++ mid → mid ≡ c ∷ rest → ts ≡ (xs ++ c ∷ []) ++ rest
closes xs ts mid rest c h h' = h ∙ ap (λ l. xs ++ l) h' ∙ sym (append_assoc xs (c ∷ []) rest)

-- ---- chains of comparisons

with_tail_ok : (terms : List t.Term) (ops : List BinOp) (o : Option (Tail × List Token)) (all : Tail) (rest : List Token) → with_tail terms ops o ≡ Some (all, rest)
    → (y : Tail) × (o ≡ Some (y, rest)) × (terms ++ y.0 ≡ all.0) × (ops ++ y.1 ≡ all.1)
with_tail_ok terms ops None all rest h = absurd cc
with_tail_ok terms ops (Some y) all rest h =
    let made : Tail = (terms ++ y.0.0, ops ++ y.0.1) in
    let same = pair_is made all y.1 rest h in
    (y.0, ap (λ l. got y.0 l) same.1, ap (λ (x : Tail). x.0) same.0, ap (λ (x : Tail). x.1) same.0)

-- behind a term that `left` spells
abbrev SomeTail : Names → ℕ → (left : List Token) → t.Term → (ts : List Token) → Tail → List Token → Type 0
SomeTail types room left a ts tail rest =
    (x : (BinOp × ℕ) × List Token) × (comparison_at ts ≡ Some x) × (xs : List Token) × (ts ≡ xs ++ rest) × SpellsChain types room (left ++ xs) (a ∷ tail.0) tail.1 x.0.1

abbrev NoTail : (ts : List Token) → Tail → List Token → Type 0
NoTail ts tail rest = (tail.0 ≡ []) × (tail.1 ≡ []) × (ts ≡ rest)

no_tail : (ts : List Token) (tail : Tail) (rest : List Token) → got ([], []) ts ≡ Some (tail, rest) → NoTail ts tail rest
no_tail ts tail rest h =
    let none : Tail = ([], []) in
    let same = pair_is none tail ts rest h in
    (sym (ap (λ (x : Tail). x.0) same.0), sym (ap (λ (x : Tail). x.1) same.0), same.1)

tail_sound : (types : Names) → Below types → (room turns : ℕ) (left : List Token) (a : t.Term) → SpellsTermBinary types in_chain shift_level room left a
    → (ts : List Token) (tail : Tail) (rest : List Token) → tail_at (chain_term_at types room) turns ts ≡ Some (tail, rest) → NoTail ts tail rest ⊎ SomeTail types room left a ts tail rest
unfolding tail_at
tail_sound types laws room zero left a s ts tail rest h = inl (no_tail ts tail rest h)
tail_sound types laws room (suc turns) left a s ts tail rest h =
    elim (comparison_at ts) as (λ o. comparison_at ts ≡ o → compared_more o ts (chain_term_at types room) (tail_at (chain_term_at types room) turns) ≡ Some (tail, rest) → NoTail ts tail rest ⊎ SomeTail types room left a ts tail rest) [
      | None ↦ (λ none h. inl (no_tail ts tail rest h))
      | Some x ↦ (λ some h.
          let b = bind_ok (chain_term_at types room x.1) (λ (b : t.Term × List Token). with_tail (b.0 ∷ []) (x.0.0 ∷ []) (tail_at (chain_term_at types room) turns b.1)) (tail, rest) h in
          let y = with_tail_ok (b.0.0 ∷ []) (x.0.0 ∷ []) (tail_at (chain_term_at types room) turns b.0.1) tail rest b.2 in
          let q = comparison_is ts x.0.0 x.0.1 x.1 some in
          let right = laws.chain_sound room x.1 b.0.0 b.0.1 b.1 in
          let cmp = punct q.0 x.0.1 in
          inr
          (⊎_elim
          (λ end.
          let terms : b.0.0 ∷ [] ≡ tail.0 = ap (λ (l : List t.Term). b.0.0 ∷ l) (sym end.0) ∙ y.2 in
          let ops : x.0.0 ∷ [] ≡ tail.1 = ap (λ (l : List BinOp). x.0.0 ∷ l) (sym end.1) ∙ y.3 in (
            x,
            some,
            cmp ∷ right.0,
            q.1 ∙ ap (λ l. cmp ∷ l) (right.1 ∙ ap (λ l. right.0 ++ l) end.2),
            subst (λ (terms : List t.Term). SpellsChain types room (left ++ cmp ∷ right.0) (a ∷ terms) tail.1 x.0.1) terms
                (subst (λ (ops : List BinOp). SpellsChain types room (left ++ cmp ∷ right.0) (a ∷ b.0.0 ∷ []) ops x.0.1) ops (g.two q.0 q.2 s right.2 refl)),
          ))
          (λ more. (
            x,
            some,
            cmp ∷ (right.0 ++ more.2),
            q.1 ∙ ap (λ l. cmp ∷ l) (right.1 ∙ ap (λ l. right.0 ++ l) more.3 ∙ sym (append_assoc right.0 more.2 rest)),
            subst (λ (terms : List t.Term). SpellsChain types room (left ++ cmp ∷ (right.0 ++ more.2)) (a ∷ terms) tail.1 x.0.1) y.2
                (subst (λ (ops : List BinOp). SpellsChain types room (left ++ cmp ∷ (right.0 ++ more.2)) (a ∷ b.0.0 ∷ y.0.0) ops x.0.1) y.3 (g.more more.0.0.1 q.0 q.2 s more.4 refl)),
          ))
          (tail_sound types laws room turns right.0 b.0.0 right.2 b.0.1 y.0 rest y.1)))
    ]
    refl h

chain_at_sound : (types : Names) → Below types → (room : ℕ) → Sound (SpellsAtom types room) (chain_at types room)
unfolding chain_at
chain_at_sound types laws room ts a rest h =
    let x = bind_ok (chain_term_at types room ts) (λ (a : t.Term × List Token). comparison_at a.1 >>= λ c. tail_from types room a.0 a.1 >>= λ tail. chained c.0.1 tail.0 tail.1) (a, rest) h in
    let c = bind_ok (comparison_at x.0.1) (λ (c : (BinOp × ℕ) × List Token). tail_from types room x.0.0 x.0.1 >>= λ tail. chained c.0.1 tail.0 tail.1) (a, rest) x.2 in
    let z = bind_ok (tail_from types room x.0.0 x.0.1) (λ (tail : Tail × List Token). chained c.0.0.1 tail.0 tail.1) (a, rest) c.2 in
    let y = with_tail_ok (x.0.0 ∷ []) [] (tail_at (chain_term_at types room) (length x.0.1) x.0.1) z.0.0 z.0.1 z.1 in
    let made : r.Pred × List Token = (r.chain c.0.0.1 z.0.0.0 z.0.0.1, z.0.1) in
    let all : r.Pred × List Token = (a, rest) in
    let test = guard_ok (is_chain z.0.0.1) made all z.2 in
    let same = pair_is (r.chain c.0.0.1 z.0.0.0 z.0.0.1) a z.0.1 rest (ap Some test.1) in
    let left = laws.chain_sound room ts x.0.0 x.0.1 x.1 in
    ⊎_elim
    (λ end.
    let none : [] ≡ z.0.0.1 = sym end.1 ∙ y.3 in
    let test' : is_chain z.0.0.1 ≡ false = ap is_chain (sym none) in absurd cc)
    (λ more.
    let xs = left.0 ++ more.2 in
    let line : more.0.0.1 ≡ c.0.0.1 = ap (λ (x : (BinOp × ℕ) × List Token). x.0.1) (pair_some more.0 c.0 (sym more.1 ∙ c.1)) in
    let spelled = subst (λ (ops : List BinOp). SpellsChain types room xs (x.0.0 ∷ y.0.0) ops more.0.0.1) y.3 more.4 in
    let spelled' = subst (λ (terms : List t.Term). SpellsChain types room xs terms z.0.0.1 more.0.0.1) y.2 spelled in
    let spelled'' = subst (λ line. SpellsChain types room xs z.0.0.0 z.0.0.1 line) line spelled' in (
      xs,
      left.1 ∙ ap (λ l. left.0 ++ l) (more.3 ∙ ap (λ l. more.2 ++ l) same.1) ∙ sym (append_assoc left.0 more.2 rest),
      subst (SpellsAtom types room xs) same.0 (g.chain spelled'' test.0),
    ))
    (tail_sound types laws room (length x.0.1) left.0 x.0.0 left.2 x.0.1 y.0 z.0.1 y.1)
  where
    pair_some : (x y : (BinOp × ℕ) × List Token) → Some x ≡ Some y → x ≡ y
    pair_some x y h = cc

-- ---- what stands in parentheses

-- what is read has one form more open
abbrev pub Inside : {X : Type 0} → (S : ℕ → List Token → X → Type 0) → ℕ → Reader X → Type 0
Inside {X} S room read = (ts : List Token) (x : X) (rest : List Token) → read ts ≡ Some (x, rest) → (deeper : ℕ) × (room ≡ suc deeper) × Took (S deeper) ts x rest

under_inside : {X : Type 0} (S : ℕ → List Token → X → Type 0) (read : ℕ → Reader X) → ((room : ℕ) → Sound (S room) (read room)) → (room : ℕ) → Inside S room (under read room)
under_inside S read sound room ts x rest h =
    let u = under_ok read room ts (x, rest) h in
    (u.0, u.1, sound u.0 ts x rest u.2)

-- what comes after an opening parenthesis
record Parens {X : Type 0} (S : ℕ → List Token → X → Type 0) (room : ℕ) (ts : List Token) (x : X) (rest : List Token) : Type 0 where
  deeper : ℕ
  is : room ≡ suc deeper
  end : ℕ
  inside : List Token
  spelled : S deeper inside x
  all : ts ≡ (inside ++ punct p.CloseParen end ∷ []) ++ rest

parens_of : {X : Type 0} (S : ℕ → List Token → X → Type 0) (room : ℕ) (read : Reader X) → Inside S room read → (ts : List Token) (x : X) (rest : List Token) → enclosed read ts ≡ Some (x, rest) → Parens S room ts x rest
parens_of S room read sound ts x rest h =
    let c = enclosed_ok read ts x rest h in
    let i = sound ts x c.0 c.2 in
    record { deeper = i.0; is = i.1; end = c.1; inside = i.2.0; spelled = i.2.2; all = closes i.2.0 ts c.0 rest (punct p.CloseParen c.1) i.2.1 c.3 }

-- with the opening one
record Brackets {X : Type 0} (S : ℕ → List Token → X → Type 0) (room : ℕ) (ts : List Token) (x : X) (rest : List Token) : Type 0 where
  deeper : ℕ
  is : room ≡ suc deeper
  start : ℕ
  end : ℕ
  inside : List Token
  spelled : S deeper inside x
  all : ts ≡ (punct p.OpenParen start ∷ (inside ++ punct p.CloseParen end ∷ [])) ++ rest

brackets_of : {X : Type 0} (S : ℕ → List Token → X → Type 0) (room : ℕ) (read : Reader X) → Inside S room read → (ts : List Token) (x : X) (rest : List Token) → bracketed read ts ≡ Some (x, rest) → Brackets S room ts x rest
brackets_of S room read sound ts x rest h =
    let b = bracketed_ok read ts x rest h in
    let i = parens_of S room read sound b.0 x rest b.3 in
    record { deeper = i.deeper; is = i.is; start = b.1; end = i.end; inside = i.inside; spelled = i.spelled; all = b.2 ∙ ap (λ l. punct p.OpenParen b.1 ∷ l) i.all }

pointers_at_sound : (types : Names) → Below types → (room : ℕ) → Sound (SpellsPointers types room) (pointers_at types room)
unfolding pointers_at
pointers_at_sound types laws room ts xs rest h =
    let a = bind_ok (pointer_at types room ts) (λ (a : t.Term × List Token). punct_at p.Comma a.1 >>= λ c. pointer_at types room c.1 >>= λ b. pointers_from types room a.0 b.0 b.1) (xs, rest) h in
    let c = bind_ok (punct_at p.Comma a.0.1) (λ (c : ℕ × List Token). pointer_at types room c.1 >>= λ b. pointers_from types room a.0.0 b.0 b.1) (xs, rest) a.2 in
    let b = bind_ok (pointer_at types room c.0.1) (λ (b : t.Term × List Token). pointers_from types room a.0.0 b.0 b.1) (xs, rest) c.2 in
    let y = with_items_ok (a.0.0 ∷ b.0.0 ∷ []) (more_separated (pointer_at types room) (length b.0.1) b.0.1) xs rest b.2 in
    let one = laws.pointer_sound room ts a.0.0 a.0.1 a.1 in
    let two = laws.pointer_sound room c.0.1 b.0.0 b.0.1 b.1 in
    let more = more_separated_sound (SpellsPointer types room) (pointer_at types room) (laws.pointer_sound room) (length b.0.1) two.0 b.0.1 b.0.0 two.2 y.0 rest y.1 in
    let comma = punct p.Comma c.0.0 in
    let all = one.0 ++ comma ∷ (two.0 ++ more.0) in (
      all,
      one.1
          ∙ ap (λ l. one.0 ++ l) (punct_is p.Comma a.0.1 c.0.0 c.0.1 c.1 ∙ ap (λ l. comma ∷ l) (two.1 ∙ ap (λ l. two.0 ++ l) more.1 ∙ sym (append_assoc two.0 more.0 rest)))
          ∙ sym (append_assoc one.0 (comma ∷ (two.0 ++ more.0)) rest),
      subst (SpellsPointers types room all) y.2 (g.pointers (lists.more c.0.0 one.2 more.2 refl)),
    )

terms_back : (terms : List t.Term) → t.list_of (t.terms_of terms) ≡ terms
terms_back [] = refl
terms_back (a ∷ terms) = ap (λ (l : List t.Term). a ∷ l) (terms_back terms)

-- ---- atoms

-- an atom with one form more open, wherever its room is
atom_at_room : {types : Names} {room deeper : ℕ} {xs : List Token} {a b : r.Pred} → room ≡ suc deeper → a ≡ b → SpellsAtom types (suc deeper) xs a → SpellsAtom types room xs b
atom_at_room {types} {room} {deeper} {xs} {a} {b} is same s = subst (λ a. SpellsAtom types room xs a) same (subst (λ room. SpellsAtom types room xs a) (sym is) s)

named_by_sound : (types : Names) → Below types → (room : ℕ) (x : List ℕ) (line : ℕ) → is_type types x ≡ false → (ts : List Token) (a : r.Pred) (rest : List Token)
    → named_by types room x line (punct_at p.OpenParen ts) ts ≡ Some (a, rest) → Took (SpellsAtom types room) (name x line ∷ ts) a rest
named_by_sound types laws room x line free ts a rest h =
    elim (punct_at p.OpenParen ts) as (λ o. punct_at p.OpenParen ts ≡ o → named_by types room x line o ts ≡ Some (a, rest) → Took (SpellsAtom types room) (name x line ∷ ts) a rest) [
      | None ↦ (λ none h.
          let same = pair_is (r.call line x []) a ts rest h in
          (name x line ∷ [], ap (λ l. name x line ∷ l) same.1, subst (SpellsAtom types room (name x line ∷ [])) same.0 (g.named free)))
      | Some found ↦ (λ some h.
          let s = seen_ok (r.call line x) (enclosed (under (some_terms_at types) room) found.1) a rest h in
          let i = parens_of (SpellsList types) room (under (some_terms_at types) room) (under_inside (SpellsList types) (some_terms_at types) laws.some_sound room) found.1 s.0 rest s.1 in
          let open' = punct p.OpenParen found.0 in (
            name x line ∷ open' ∷ (i.inside ++ punct p.CloseParen i.end ∷ []),
            ap (λ l. name x line ∷ l) (punct_is p.OpenParen ts found.0 found.1 some ∙ ap (λ l. open' ∷ l) i.all),
            atom_at_room i.is (ap (r.call line x) (terms_back s.0) ∙ s.2) (g.call found.0 i.end free i.spelled refl),
          ))
    ]
    refl h

named_sound : (types : Names) → Below types → (room : ℕ) (x : List ℕ) (line : ℕ) (ts : List Token) (a : r.Pred) (rest : List Token)
    → named types room x line ts ≡ Some (a, rest) → Took (SpellsAtom types room) (name x line ∷ ts) a rest
named_sound types laws room x line ts a rest h =
    elim (is_type types x) as (λ b. is_type types x ≡ b → (cond b None (Some line) >>= λ line. named_by types room x line (punct_at p.OpenParen ts) ts) ≡ Some (a, rest) → Took (SpellsAtom types room) (name x line ∷ ts) a rest) [
      | true ↦ (λ taken h. absurd cc)
      | false ↦ (λ free h. named_by_sound types laws room x line free ts a rest h)
    ]
    refl h

-- some predicate, whether it trails or not
abbrev pub SomePred : Names → ℕ → List Token → r.Pred → Type 0
SomePred types room xs a = (trails : Bool) × SpellsPred types room trails xs a

closed_by_sound : (types : Names) → Below types → (room : ℕ) (inside : Reader r.Pred) → Inside (SomePred types) room inside → (line : ℕ) (kind : TokenKind) (ts : List Token) (a : r.Pred) (rest : List Token)
    → closed_by types room inside line kind ts ≡ Some (a, rest) → Took (SpellsAtom types room) (token kind line ∷ ts) a rest
closed_by_sound types laws room inside sound line (k.Word w.True) ts a rest h =
    let same = pair_is (r.always line) a ts rest h in
    (word w.True line ∷ [], ap (λ l. word w.True line ∷ l) same.1, subst (SpellsAtom types room (word w.True line ∷ [])) same.0 g.always)
closed_by_sound types laws room inside sound line (k.Word w.False) ts a rest h =
    let same = pair_is (r.never line) a ts rest h in
    (word w.False line ∷ [], ap (λ l. word w.False line ∷ l) same.1, subst (SpellsAtom types room (word w.False line ∷ [])) same.0 g.never)
closed_by_sound types laws room inside sound line (k.Word w.Valid) ts a rest h =
    let s = seen_ok (r.valid line) (bracketed (under (pointer_at types) room) ts) a rest h in
    let i = brackets_of (SpellsPointer types) room (under (pointer_at types) room) (under_inside (SpellsPointer types) (pointer_at types) laws.pointer_sound room) ts s.0 rest s.1 in (
      word w.Valid line ∷ punct p.OpenParen i.start ∷ (i.inside ++ punct p.CloseParen i.end ∷ []),
      ap (λ l. word w.Valid line ∷ l) i.all,
      atom_at_room i.is s.2 (g.valid i.start i.end i.spelled refl),
    )
closed_by_sound types laws room inside sound line (k.Word w.ValidRead) ts a rest h =
    let s = seen_ok (r.valid_read line) (bracketed (under (pointer_at types) room) ts) a rest h in
    let i = brackets_of (SpellsPointer types) room (under (pointer_at types) room) (under_inside (SpellsPointer types) (pointer_at types) laws.pointer_sound room) ts s.0 rest s.1 in (
      word w.ValidRead line ∷ punct p.OpenParen i.start ∷ (i.inside ++ punct p.CloseParen i.end ∷ []),
      ap (λ l. word w.ValidRead line ∷ l) i.all,
      atom_at_room i.is s.2 (g.valid_read i.start i.end i.spelled refl),
    )
closed_by_sound types laws room inside sound line (k.Word w.Separated) ts a rest h =
    let s = seen_ok (r.separated line) (bracketed (under (pointers_at types) room) ts) a rest h in
    let i = brackets_of (SpellsPointers types) room (under (pointers_at types) room) (under_inside (SpellsPointers types) (pointers_at types) (pointers_at_sound types laws) room) ts s.0 rest s.1 in (
      word w.Separated line ∷ punct p.OpenParen i.start ∷ (i.inside ++ punct p.CloseParen i.end ∷ []),
      ap (λ l. word w.Separated line ∷ l) i.all,
      atom_at_room i.is s.2 (g.separated i.start i.end i.spelled refl),
    )
closed_by_sound types laws room inside sound line (k.Word w.Old) ts a rest h =
    let s = seen_ok (r.old line) (bracketed inside ts) a rest h in
    let i = brackets_of (SomePred types) room inside sound ts s.0 rest s.1 in (
      word w.Old line ∷ punct p.OpenParen i.start ∷ (i.inside ++ punct p.CloseParen i.end ∷ []),
      ap (λ l. word w.Old line ∷ l) i.all,
      atom_at_room i.is s.2 (g.old i.start i.end i.spelled.1 refl),
    )
closed_by_sound types laws room inside sound line (k.Name x) ts a rest h = named_sound types laws room x line ts a rest h
closed_by_sound types laws room inside sound line (k.Punct p.OpenParen) ts a rest h =
    let i = parens_of (SomePred types) room inside sound ts a rest h in (
      punct p.OpenParen line ∷ (i.inside ++ punct p.CloseParen i.end ∷ []),
      ap (λ l. punct p.OpenParen line ∷ l) i.all,
      atom_at_room i.is refl (g.parens line i.end i.spelled.1 refl),
    )
closed_by_sound types laws room inside sound line _ ts a rest h = absurd cc

closed_sound : (types : Names) → Below types → (room : ℕ) (inside : Reader r.Pred) → Inside (SomePred types) room inside → Sound (SpellsAtom types room) (closed types room inside)
closed_sound types laws room inside sound [] a rest h = absurd cc
closed_sound types laws room inside sound (t ∷ ts) a rest h = closed_by_sound types laws room inside sound t.line t.kind ts a rest h

pub atom_sound : (types : Names) → Below types → (room : ℕ) (inside : Reader r.Pred) → Inside (SomePred types) room inside → Sound (SpellsAtom types room) (atom_at types room inside)
unfolding atom_at
atom_sound types laws room inside sound ts a rest h =
    elim (begins_chain types ts) as (λ b. cond b (chain_at types room ts) (closed types room inside ts) ≡ Some (a, rest) → Took (SpellsAtom types room) ts a rest) [
      | true ↦ (λ h. chain_at_sound types laws room ts a rest h)
      | false ↦ (λ h. closed_sound types laws room inside sound ts a rest h)
    ]
    h

-- ---- forms

abbrev pub Spells : Names → ℕ → Form → Trailing
Spells types room an_operand trails xs a = SpellsOperand types room trails xs a
Spells types room an_implied trails xs a = SpellsImplied types room trails xs a
Spells types room a_whole trails xs a = SpellsPred types room trails xs a

-- what is read below has one form more open
abbrev pub BelowReaches : Names → ℕ → (Form → Reader r.Pred) → Type 0
BelowReaches types room below = (form : Form) (ts : List Token) (a : r.Pred) (rest : List Token) → below form ts ≡ Some (a, rest) → (deeper : ℕ) × (room ≡ suc deeper) × Reached (Spells types deeper form) ts a rest

pub body_ok : (go : Reader r.Pred) (ts : List Token) (a : r.Pred) (rest : List Token) → body_at go ts ≡ Some (a, rest) → (go ts ≡ Some (a, rest)) × (ends_pred rest ≡ true)
body_ok go ts a rest h =
    let x = bind_ok (go ts) (λ (a : r.Pred × List Token). cond (ends_pred a.1) (Some (a.0, a.1)) None) (a, rest) h in
    let all : r.Pred × List Token = (a, rest) in
    let test = guard_ok (ends_pred x.0.1) x.0 all x.2 in
    (x.1 ∙ ap Some test.1, ap (λ (x : r.Pred × List Token). ends_pred x.1) (sym test.1) ∙ test.0)

pub bound_ok : (types : Names) (ts : List Token) (xs : List e.VarDecl) (rest : List Token) → bound_at types ts ≡ Some (xs, rest)
    → (first : List Token) × (line : ℕ) × (ts ≡ first ++ punct p.Semicolon line ∷ rest) × SpellsBinders types first xs
bound_ok types ts xs rest h =
    let x = bind_ok (binders_at types ts) (λ (xs : List e.VarDecl × List Token). punct_at p.Semicolon xs.1 >>= λ s. Some (xs.0, s.1)) (xs, rest) h in
    let s = bind_ok (punct_at p.Semicolon x.0.1) (λ (s : ℕ × List Token). Some (x.0.0, s.1)) (xs, rest) x.2 in
    let same = pair_is x.0.0 xs s.0.1 rest s.2 in
    let b = binders_sound types ts x.0.0 x.0.1 x.1 in (
      b.0,
      s.0.0,
      b.1 ∙ ap (λ l. b.0 ++ l) (punct_is p.Semicolon x.0.1 s.0.0 s.0.1 s.1 ∙ ap (λ l. punct p.Semicolon s.0.0 ∷ l) same.1),
      subst (SpellsBinders types b.0) same.0 b.2,
    )

-- a name, `=`, a term and `;`
pub record Value (types : Names) (room : ℕ) (ts : List Token) (x : List ℕ) (v : t.Term) (rest : List Token) : Type 0 where
  pub first : ℕ
  pub second : ℕ
  pub third : ℕ
  pub value : List Token
  pub free : is_type types x ≡ false
  pub spelled : SpellsTerm types anywhere room value v
  pub all : ts ≡ name x first ∷ punct p.Assign second ∷ (value ++ punct p.Semicolon third ∷ rest)

pub value_ok : (types : Names) → Below types → (room : ℕ) (ts : List Token) (given : List ℕ × t.Term) (rest : List Token) → value_at types room ts ≡ Some (given, rest) → Value types room ts given.0 given.1 rest
value_ok types laws room ts given rest h =
    let x = bind_ok (new_name_at types ts) (λ (x : (List ℕ × ℕ) × List Token). punct_at p.Assign x.1 >>= λ q. term_at types room q.1 >>= λ v. punct_at p.Semicolon v.1 >>= λ s. got (x.0.0, v.0) s.1) (given, rest) h in
    let q = bind_ok (punct_at p.Assign x.0.1) (λ (q : ℕ × List Token). term_at types room q.1 >>= λ v. punct_at p.Semicolon v.1 >>= λ s. got (x.0.0.0, v.0) s.1) (given, rest) x.2 in
    let v = bind_ok (term_at types room q.0.1) (λ (v : t.Term × List Token). punct_at p.Semicolon v.1 >>= λ s. got (x.0.0.0, v.0) s.1) (given, rest) q.2 in
    let s = bind_ok (punct_at p.Semicolon v.0.1) (λ (s : ℕ × List Token). got (x.0.0.0, v.0.0) s.1) (given, rest) v.2 in
    let made : List ℕ × t.Term = (x.0.0.0, v.0.0) in
    let same = pair_is made given s.0.1 rest s.2 in
    let n = new_name_is types ts x.0.0 x.0.1 x.1 in
    let took = laws.term_sound room q.0.1 v.0.0 v.0.1 v.1 in
    let text : x.0.0.0 ≡ given.0 = ap (λ (x : List ℕ × t.Term). x.0) same.0 in
    record {
      first = x.0.0.1;
      second = q.0.0;
      third = s.0.0;
      value = took.0;
      free = ap (is_type types) (sym text) ∙ n.1;
      spelled = subst (SpellsTerm types anywhere room took.0) (ap (λ (x : List ℕ × t.Term). x.1) same.0) took.2;
      all =
          n.0
          ∙ ap (λ l. name x.0.0.0 x.0.0.1 ∷ l) (punct_is p.Assign x.0.1 q.0.0 q.0.1 q.1
          ∙ ap (λ l. punct p.Assign q.0.0 ∷ l) (took.1 ∙ ap (λ l. took.0 ++ l) (punct_is p.Semicolon v.0.1 s.0.0 s.0.1 s.1 ∙ ap (λ l. punct p.Semicolon s.0.0 ∷ l) same.1)))
          ∙ ap (λ y. name y x.0.0.1 ∷ punct p.Assign q.0.0 ∷ (took.0 ++ punct p.Semicolon s.0.0 ∷ rest)) text;
    }
