-- Equations of the readers in the words of the code, and the views of types.
use Rattle.std.proofs.Common.{◌≡◌, ℕ, zero, suc, ◌+◌, ◌-◌, ◌≤◌, Bool, true, false, List, [], ◌∷◌, ◌++◌, length, map, Option, Some, None, Result, Ok, Err, refl, sym, ap, ◌∙◌, subst, arith, append_assoc, append-nil}
use Rattle.std.proofs.lemmas.List.{map-append}
use Rattle.std.specs.Borrow.{Bor}
use Rattle.c_syntax.specs.declared.token.Token.{Token}
use Rattle.c_syntax.specs.declared.token.Punct.TheVariants as p
use Rattle.c_syntax.specs.Expr as e
use Rattle.c_syntax.proofs.Equations as eq
use Rattle.c_grammar.specs.declared.fault.Fault.{Fault}
use Rattle.c_grammar.specs.declared.fault.Fault.TheVariants.{Syntax, NoMemory}
use Rattle.c_grammar.specs.Reading.{Reader, ◌>>=◌, punct_at}
use Rattle.c_grammar.specs.Views.{Gives}
use Rattle.c_grammar.specs.Tokens.{Names}
use Rattle.c_grammar.proofs.Readers.{pair_is, got}
use Rattle.c_grammar.specs.ListReaders.{with_items, more_separated, separated_at}
use Rattle.c_grammar.proofs.Turns.{with_one}
use Rattle.parse_types.specs.Read.{type_at}
use Rattle.parse_exprs.specs.Read.{cond_at}
use Rattle.parse_decls.specs.Read as r

pub ruleset views = (eq.view_ctype-Array, eq.view_ctype-Pointer, eq.view_ctype-Kind)

-- ---- behind those so far

with_more : {X : Type 0} (xs ys : List X) (given : Option (List X × List Token)) → with_items (xs ++ ys) given ≡ with_items xs (given >>= λ zs. Some (ys ++ zs.0, zs.1))
with_more xs ys None = refl
with_more xs ys (Some zs) = rw append_assoc refl

with_nothing : {X : Type 0} (xs : List X) (given : Option (List X × List Token)) → with_items xs given ≡ None → given ≡ None
with_nothing xs None h = refl
with_nothing xs (Some x) h = absurd cc

with_bind : {X Y : Type 0} (xs : List X) (o : Option Y) (f : Y → Option (List X × List Token)) → with_items xs (o >>= f) ≡ (o >>= λ y. with_items xs (f y))
with_bind xs None f = refl
with_bind xs (Some y) f = refl

with_ended : {X : Type 0} (xs : List X) (g : Option (List X × List Token)) (end : Reader ℕ)
    → with_items xs (g >>= λ ys. end ys.1 >>= λ s. Some (ys.0, s.1)) ≡ (with_items xs g >>= λ ys. end ys.1 >>= λ s. Some (ys.0, s.1))
with_ended xs None end = refl
with_ended xs (Some ys) end = elim (end ys.1) as (λ o. with_items xs (o >>= λ s. Some (ys.0, s.1)) ≡ (o >>= λ s. Some (xs ++ ys.0, s.1))) [ None ↦ refl | Some s ↦ refl ]

pub items_are : {X : Type 0} (item : Reader X) (xs : List X) (ts : List Token) → with_items xs (separated_at item ts) ≡ (item ts >>= λ x. with_items (xs ++ x.0 ∷ []) (more_separated item (length x.1) x.1))
unfolding separated_at
items_are item xs ts =
    with_bind xs (item ts) (λ x. more_separated item (length x.1) x.1 >>= λ xs. Some (x.0 ∷ xs.0, xs.1))
    ∙ elim (item ts) as (λ o. (o >>= λ x. with_items xs (more_separated item (length x.1) x.1 >>= λ xs. Some (x.0 ∷ xs.0, xs.1))) ≡ (o >>= λ x. with_items (xs ++ x.0 ∷ []) (more_separated item (length x.1) x.1))) [
      | None ↦ refl
      | Some x ↦ sym (with_one xs x.0 (more_separated item (length x.1) x.1))
    ]

pub group_is : (types : Names) (room : ℕ) (xs : List e.VarDecl) (ts : List Token) → with_items xs (r.group_of types (cond_at types) room ts)
    ≡ (type_at types ts >>= λ t. with_items xs (separated_at (r.declarator_at types room t.0) t.1) >>= λ vs. punct_at p.Semicolon vs.1 >>= λ s. Some (vs.0, s.1))
unfolding r.group_of r.declarator_at
group_is types room xs ts =
    with_bind xs (type_at types ts) (λ t. r.ended (separated_at (r.declarator_of types (cond_at types) room t.0)) t.1)
    ∙ elim (type_at types ts) as (λ o. (o >>= λ t. with_items xs (r.ended (separated_at (r.declarator_of types (cond_at types) room t.0)) t.1))
    ≡ (o >>= λ t. with_items xs (separated_at (r.declarator_of types (cond_at types) room t.0) t.1) >>= λ vs. punct_at p.Semicolon vs.1 >>= λ s. Some (vs.0, s.1))) [
      | None ↦ refl
      | Some t ↦ with_ended xs (separated_at (r.declarator_of types (cond_at types) room t.0) t.1) (punct_at p.Semicolon)
    ]

-- ---- groups of fields

pub fields_all : (types : Names) (room : ℕ) (ts : List Token) → r.fields_at types room ts ≡ r.groups (r.group_of types (cond_at types) room) (length ts) ts
unfolding r.fields_at r.fields_of
fields_all types room ts = refl

pub groups_end : (group : Reader (List e.VarDecl)) (turns : ℕ) (xs : List e.VarDecl) (ts : List Token) → turns ≡ 0 → with_items xs (r.groups group turns ts) ≡ None
unfolding r.groups
groups_end group zero xs ts none = refl
groups_end group (suc turns) xs ts none = absurd (omega arith)

-- those of a group, behind those before it
with_group : (xs : List e.VarDecl) (given : Option (List e.VarDecl × List Token)) (ys : List e.VarDecl) (rest : List Token) → with_items xs given ≡ Some (ys, rest)
    → (zs : List e.VarDecl) × (given ≡ Some (zs, rest)) × (xs ++ zs ≡ ys)
with_group xs None ys rest h = absurd cc
with_group xs (Some x) ys rest h =
    let same = pair_is (xs ++ x.0) ys x.1 rest h in
    (x.0, ap (λ (rest : List Token). got x.0 rest) same.1, same.0)

pub groups_close : (group : Reader (List e.VarDecl)) (turns turns' : ℕ) (xs ys : List e.VarDecl) (ts rest : List Token) → turns ≡ turns' + 1 → with_items xs (group ts) ≡ Some (ys, rest) → r.at_brace rest ≡ true
    → with_items xs (r.groups group turns ts) ≡ Some (ys, rest)
unfolding r.groups
groups_close group turns turns' xs ys ts rest n read close =
    let m : turns ≡ suc turns' = omega arith in
    let g = with_group xs (group ts) ys rest read in
    rw (m, g.1, close, g.2) refl

group_next : (group : Reader (List e.VarDecl)) (turns : ℕ) (xs zs : List e.VarDecl) (ts rest : List Token) → group ts ≡ Some (zs, rest) → r.at_brace rest ≡ false
    → with_items (xs ++ zs) (r.groups group turns rest) ≡ with_items xs (r.groups group (suc turns) ts)
unfolding r.groups
group_next group turns xs zs ts rest read close = rw (read, close) (with_more xs zs (r.groups group turns rest))

pub groups_next : (group : Reader (List e.VarDecl)) (turns turns' : ℕ) (xs ys : List e.VarDecl) (ts rest : List Token) → turns ≡ turns' + 1 → with_items xs (group ts) ≡ Some (ys, rest) → r.at_brace rest ≡ false
    → with_items ys (r.groups group turns' rest) ≡ with_items xs (r.groups group turns ts)
groups_next group turns turns' xs ys ts rest n read close =
    let m : suc turns' ≡ turns = omega arith in
    let g = with_group xs (group ts) ys rest read in
    ap (λ ys. with_items ys (r.groups group turns' rest)) (sym g.2) ∙ group_next group turns' xs g.0 ts rest g.1 close ∙ ap (λ turns. with_items xs (r.groups group turns ts)) m

pub groups_fault : {X : Type 0} (see : X → e.VarDecl) (group : Reader (List e.VarDecl)) (turns turns' : ℕ) (xs : List e.VarDecl) (ts : List Token) (e : Fault) → turns ≡ turns' + 1
    → Gives (map see) (Err e) (with_items xs (group ts)) → Gives (map see) (Err e) (with_items xs (r.groups group turns ts))
unfolding r.groups
groups_fault see group turns turns' xs ts Syntax n none =
    let m : turns ≡ suc turns' = omega arith in
    let g = with_nothing xs (group ts) none in
    rw (m, g) refl
groups_fault see group turns turns' xs ts NoMemory n none = tt

-- ---- enumerators

pub enumerators_end : (item : Reader e.VarDecl) (turns : ℕ) (xs : List e.VarDecl) (ts : List Token) → turns ≡ 0 → with_items xs (r.more_enumerators item turns ts) ≡ Some (xs, ts)
unfolding r.more_enumerators
enumerators_end item zero xs ts none = rw append-nil refl
enumerators_end item (suc turns) xs ts none = absurd (omega arith)

pub enumerators_stop : (item : Reader e.VarDecl) (turns : ℕ) (xs : List e.VarDecl) (ts : List Token) → punct_at p.Comma ts ≡ None → with_items xs (r.more_enumerators item turns ts) ≡ Some (xs, ts)
unfolding r.more_enumerators
enumerators_stop item zero xs ts h = rw append-nil refl
enumerators_stop item (suc turns) xs ts h = rw (h, append-nil) refl

pub enumerators_close : (item : Reader e.VarDecl) (turns turns' : ℕ) (xs : List e.VarDecl) (ts : List Token) (line : ℕ) (after : List Token) → turns ≡ turns' + 1
    → punct_at p.Comma ts ≡ Some (line, after) → r.at_brace after ≡ true → with_items xs (r.more_enumerators item turns ts) ≡ Some (xs, after)
unfolding r.more_enumerators
enumerators_close item turns turns' xs ts line after n comma close =
    let m : turns ≡ suc turns' = omega arith in
    rw (m, comma, close, append-nil) refl

pub enumerators_next : {X : Type 0} (see : X → e.VarDecl) (item : Reader e.VarDecl) (turns turns' : ℕ) (xs more : List X) (x : X) (ts : List Token) (line : ℕ) (after rest : List Token) → turns ≡ turns' + 1
    → punct_at p.Comma ts ≡ Some (line, after) → r.at_brace after ≡ false → item after ≡ Some (see x, rest) → more ≡ xs ++ x ∷ []
    → with_items (map see more) (r.more_enumerators item turns' rest) ≡ with_items (map see xs) (r.more_enumerators item turns ts)
unfolding r.more_enumerators
enumerators_next see item turns turns' xs more x ts line after rest n comma close read put =
    let m : turns ≡ suc turns' = omega arith in
    rw (m, comma, close, read, put, map-append) (with_one (map see xs) (see x) (r.more_enumerators item turns' rest))

pub enumerators_fault : {X : Type 0} (see : X → e.VarDecl) (item : Reader e.VarDecl) (turns turns' : ℕ) (xs : List e.VarDecl) (ts : List Token) (line : ℕ) (after : List Token) (e : Fault) → turns ≡ turns' + 1
    → punct_at p.Comma ts ≡ Some (line, after) → r.at_brace after ≡ false → Gives see (Err e) (item after) → Gives (map see) (Err e) (with_items xs (r.more_enumerators item turns ts))
unfolding r.more_enumerators
enumerators_fault see item turns turns' xs ts line after Syntax n comma close read =
    let m : turns ≡ suc turns' = omega arith in
    rw (m, comma, close, read) refl
enumerators_fault see item turns turns' xs ts line after NoMemory n comma close read = tt
