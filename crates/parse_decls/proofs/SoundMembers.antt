-- What the readers of parameters, fields and enumerators read is spelled so.
use Rattle.std.proofs.Common.{◌≡◌, ℕ, zero, suc, ◌+◌, ◌-◌, ◌≤◌, ◌==◌, Bool, true, false, cond, List, [], ◌∷◌, ◌++◌, length, Option, Some, None, refl, sym, ap, ◌∙◌, subst, arith, append_assoc, append-nil, length-append}
use Rattle.wp_base.specs.declared.kinds.Kind.TheVariants as kind
use Rattle.c_syntax.specs.declared.token.Token.{Token}
use Rattle.c_syntax.specs.declared.token.TokenKind.{TokenKind}
use Rattle.c_syntax.specs.declared.token.TokenKind.TheVariants as k
use Rattle.c_syntax.specs.declared.token.Word.TheVariants as w
use Rattle.c_syntax.specs.declared.token.Punct.TheVariants as p
use Rattle.c_syntax.specs.Expr as e
use Rattle.c_grammar.specs.Tokens.{Names, is_type, token, punct, word, name, first_line}
use Rattle.c_grammar.specs.Types.{SpellsType, SpellsStars}
use Rattle.c_grammar.specs.Lists.{Separated}
use Rattle.c_grammar.specs.Exprs.{SpellsCond}
use Rattle.c_grammar.specs.Declarators as g
use Rattle.c_grammar.specs.Decls as d
use Rattle.c_grammar.specs.Reading.{Reader, ◌>>=◌, punct_at, word_at, name_at, new_name_at}
use Rattle.c_grammar.proofs.Readers.{Took, Sound, bind_ok, guard_ok, pair_is, got}
use Rattle.c_grammar.specs.ListReaders.{separated_at}
use Rattle.c_grammar.proofs.SingleTokens.{punct_is, word_is, new_name_is, first_line_front}
use Rattle.c_grammar.proofs.Separating.{separated_sound}
use Rattle.parse_types.specs.Read.{type_at, stars_at}
use Rattle.parse_types.proofs.Laws.{type_sound, stars_sound}
use Rattle.parse_decls.specs.Read as r
use Rattle.parse_decls.proofs.Sound.{roomy, LengthAt, length_is, NameAt, name_at_is, plain_is, array_is, initial_sound, ended_sound, declarator_sound}

abbrev CondSound : Names → (ℕ → Reader e.Expr) → Type 0
CondSound types cond' = (room : ℕ) → Sound (SpellsCond types room) (cond' room)

-- ---- parameters

-- a type, and a declarator behind it
param_is : (types : Names) (room : ℕ) (ts middle : List Token) (t : e.CType) (v : e.VarDecl) (rest : List Token) → Took (SpellsType types) ts t middle → Took (g.SpellsDeclarator types room t) middle v rest
    → Took (g.SpellsParam types room) ts v rest
param_is types room ts middle t v rest first second =
    (first.0 ++ second.0, first.1 ∙ ap (λ l. first.0 ++ l) second.1 ∙ sym (append_assoc first.0 second.0 rest), g.declarator first.2 second.2 refl)

unsized_is : (types : Names) (room less : ℕ) → room ≡ suc less → (ts middle : List Token) (t t' : e.CType) (x : List ℕ × ℕ) (line line' : ℕ) (rest : List Token) → Took (SpellsType types) ts t middle
    → NameAt types t middle t' x (punct p.OpenBracket line ∷ punct p.CloseBracket line' ∷ rest) → Took (g.SpellsParam types room) ts (g.declared x.0 (e.pointer t') x.1) rest
unsized_is types room less one ts middle t t' x line line' rest first second =
    let tail = second.first ++ name x.0 x.1 ∷ punct p.OpenBracket line ∷ punct p.CloseBracket line' ∷ [] in
    let regrouped : first.0 ++ (second.first ++ name x.0 x.1 ∷ punct p.OpenBracket line ∷ punct p.CloseBracket line' ∷ rest) ≡ (first.0 ++ tail) ++ rest = simp append_assoc in (
      first.0 ++ tail,
      first.1 ∙ ap (λ l. first.0 ++ l) second.all ∙ regrouped,
      subst (λ room. g.SpellsParam types room (first.0 ++ tail) (g.declared x.0 (e.pointer t') x.1)) (sym one) (g.unsized line line' first.2 second.stars second.new refl),
    )

bracketed_sound : (types : Names) (cond' : ℕ → Reader e.Expr) → CondSound types cond' → (room : ℕ) (ts middle : List Token) (t t' : e.CType) (x : List ℕ × ℕ) (line : ℕ) (after : List Token) → Took (SpellsType types) ts t middle
    → NameAt types t middle t' x (punct p.OpenBracket line ∷ after) → (v : e.VarDecl) (rest : List Token) → r.bracketed (r.length_of cond' room) room x t' after ≡ Some (v, rest) → Took (g.SpellsParam types room) ts v rest
unfolding r.bracketed
bracketed_sound types cond' sound room ts middle t t' x line after first second v rest h =
    let open' = roomy room (r.unsized (r.length_of cond' room) x t' (punct_at p.CloseBracket after) after) (v, rest) h in
    elim (punct_at p.CloseBracket after) as (λ o. punct_at p.CloseBracket after ≡ o → r.unsized (r.length_of cond' room) x t' o after ≡ Some (v, rest) → Took (g.SpellsParam types room) ts v rest) [
      | None ↦ (λ none h.
          let n = bind_ok (r.length_of cond' room after) (λ n. Some (g.declared x.0 (e.array t' n.0) x.1, n.1)) (v, rest) h in
          let same = pair_is (g.declared x.0 (e.array t' n.0.0) x.1) v n.0.1 rest n.2 in
          let took = array_is types room t middle t' x line after n.0.0 n.0.1 second (length_is types cond' sound room after n.0.0 n.0.1 n.1) in
          param_is types room ts middle t v rest first (took.0, took.1 ∙ ap (λ l. took.0 ++ l) same.1, subst (g.SpellsDeclarator types room t took.0) same.0 took.2))
      | Some c ↦ (λ some h.
          let same = pair_is (g.declared x.0 (e.pointer t') x.1) v c.1 rest h in
          let closed = punct_is p.CloseBracket after c.0 c.1 some ∙ ap (λ l. punct p.CloseBracket c.0 ∷ l) same.1 in
          let took = unsized_is types room open'.0 open'.1 ts middle t t' x line c.0 rest first (subst (λ l. NameAt types t middle t' x (punct p.OpenBracket line ∷ l)) closed second) in
          (took.0, took.1, subst (g.SpellsParam types room took.0) same.0 took.2))
    ]
    refl open'.2

sized_sound : (types : Names) (cond' : ℕ → Reader e.Expr) → CondSound types cond' → (room : ℕ) (ts middle : List Token) (t t' : e.CType) (x : List ℕ × ℕ) (after : List Token) → Took (SpellsType types) ts t middle
    → NameAt types t middle t' x after → (v : e.VarDecl) (rest : List Token) → r.sized_param (r.length_of cond' room) room x t' (punct_at p.OpenBracket after) after ≡ Some (v, rest) → Took (g.SpellsParam types room) ts v rest
sized_sound types cond' sound room ts middle t t' x after first second v rest h =
    elim (punct_at p.OpenBracket after) as (λ o. punct_at p.OpenBracket after ≡ o → r.sized_param (r.length_of cond' room) room x t' o after ≡ Some (v, rest) → Took (g.SpellsParam types room) ts v rest) [
      | None ↦ (λ none h.
          let same = pair_is (g.declared x.0 t' x.1) v after rest h in
          let took = plain_is types room t middle t' x after second in
          param_is types room ts middle t v rest first (took.0, took.1 ∙ ap (λ l. took.0 ++ l) same.1, subst (g.SpellsDeclarator types room t took.0) same.0 took.2))
      | Some b ↦ (λ some h.
          bracketed_sound types cond' sound room ts middle t t' x b.0 b.1 first (subst (NameAt types t middle t' x) (punct_is p.OpenBracket after b.0 b.1 some) second) v rest h)
    ]
    refl h

param_sound : (types : Names) (cond' : ℕ → Reader e.Expr) → CondSound types cond' → (room : ℕ) → Sound (g.SpellsParam types room) (r.param_of types cond' room)
unfolding r.param_of
param_sound types cond' sound room ts v rest h =
    let length' = r.length_of cond' room in
    let t = bind_ok (type_at types ts) (λ t. stars_at true t.0 t.1 >>= λ t. new_name_at types t.1 >>= λ x. r.sized_param length' room x.0 t.0 (punct_at p.OpenBracket x.1) x.1) (v, rest) h in
    let u = bind_ok (stars_at true t.0.0 t.0.1) (λ t. new_name_at types t.1 >>= λ x. r.sized_param length' room x.0 t.0 (punct_at p.OpenBracket x.1) x.1) (v, rest) t.2 in
    let x = bind_ok (new_name_at types u.0.1) (λ x. r.sized_param length' room x.0 u.0.0 (punct_at p.OpenBracket x.1) x.1) (v, rest) u.2 in
    sized_sound types cond' sound room ts t.0.1 t.0.0 u.0.0 x.0.0 x.0.1 (type_sound types ts t.0.0 t.0.1 t.1) (name_at_is types t.0.0 t.0.1 u.0.0 u.0.1 x.0.0 x.0.1 u.1 x.1) v rest x.2

declarator_some : {types : Names} {room : ℕ} {base : e.CType} {xs : List Token} {v : e.VarDecl} → g.SpellsDeclarator types room base xs v → 1 ≤ length xs
declarator_some (g.plain {line} {x} {first} s new eq) = omega (arith, ap length eq, length-append first (name x line ∷ []))
declarator_some (g.array {line} line' line'' {x} {first} {inside} s new s' eq) =
    omega (arith, ap length eq, length-append first (name x line ∷ punct p.OpenBracket line' ∷ (inside ++ punct p.CloseBracket line'' ∷ [])))

pub param_some : {types : Names} {room : ℕ} {xs : List Token} {v : e.VarDecl} → g.SpellsParam types room xs v → 1 ≤ length xs
param_some (g.declarator {first} {second} s s' eq) = omega (arith, ap length eq, length-append first second, declarator_some s')
param_some (g.unsized {line} line' line'' {first} {second} {x} s s' new eq) =
    let tail = name x line ∷ punct p.OpenBracket line' ∷ punct p.CloseBracket line'' ∷ [] in
    omega (arith, ap length eq, length-append first (second ++ tail), length-append second tail)

abbrev lined : e.VarDecl → ℕ → e.VarDecl × ℕ
lined v line = (v, line)

param_on_sound : (types : Names) (cond' : ℕ → Reader e.Expr) → CondSound types cond' → (room : ℕ) → Sound (g.SpellsParamOn types room) (r.param_on_of types cond' room)
unfolding r.param_on_of
param_on_sound types cond' sound room ts v rest h =
    let x = bind_ok (r.param_of types cond' room ts) (λ v. Some (lined v.0 (first_line ts), v.1)) (v, rest) h in
    let same = pair_is (lined x.0.0 (first_line ts)) v x.0.1 rest x.2 in
    let took = param_sound types cond' sound room ts x.0.0 x.0.1 x.1 in
    let on : first_line took.0 ≡ first_line ts = sym (ap first_line took.1 ∙ first_line_front took.0 x.0.1 (param_some took.2)) in
    (took.0, took.1 ∙ ap (λ l. took.0 ++ l) same.1, subst (g.SpellsParamOn types room took.0) (ap (lined x.0.0) on ∙ same.0) (g.on_line took.2))

abbrev Params : Type 0
Params = List (e.VarDecl × ℕ)

some_params_sound : (types : Names) (room : ℕ) (items : Reader Params) → Sound (Separated (g.SpellsParamOn types room)) items → (ts : List Token) (vs : Params) (rest : List Token)
    → r.some_params (r.no_params (word_at w.Void ts)) items ts ≡ Some (vs, rest) → Took (d.SpellsParams types room) ts vs rest
some_params_sound types room items sound ts vs rest h =
    elim (word_at w.Void ts) as (λ o. word_at w.Void ts ≡ o → r.some_params (r.no_params o) items ts ≡ Some (vs, rest) → Took (d.SpellsParams types room) ts vs rest) [
      | None ↦ (λ none h. let took = sound ts vs rest h in (took.0, took.1, d.params took.2))
      | Some v ↦ (λ some h.
          elim (r.at_close v.1) as (λ b. r.some_params (cond b (Some v.1) None) items ts ≡ Some (vs, rest) → Took (d.SpellsParams types room) ts vs rest) [
            | true ↦ (λ h.
                let no_items : Params = [] in
                let same = pair_is no_items vs v.1 rest h in
                let void = word w.Void v.0 ∷ [] in
                (void, word_is w.Void ts v.0 v.1 some ∙ ap (λ l. void ++ l) same.1, subst (d.SpellsParams types room void) same.0 d.void))
            | false ↦ (λ h. let took = sound ts vs rest h in (took.0, took.1, d.params took.2))
          ]
          h)
    ]
    refl h

pub params_sound : (types : Names) (cond' : ℕ → Reader e.Expr) → CondSound types cond' → (room : ℕ) → Sound (d.SpellsParams types room) (r.params_of types cond' room)
unfolding r.params_of
params_sound types cond' sound room ts vs rest h =
    let items = separated_at (r.param_on_of types cond' room) in
    elim (r.at_close ts) as (λ b. cond b (Some ([], ts)) (r.some_params (r.no_params (word_at w.Void ts)) items ts) ≡ Some (vs, rest) → Took (d.SpellsParams types room) ts vs rest) [
      | true ↦ (λ h.
          let no_items : Params = [] in
          let same = pair_is no_items vs ts rest h in
          ([], same.1, subst (d.SpellsParams types room []) same.0 d.nothing))
      | false ↦ (λ h. some_params_sound types room items (separated_sound (g.SpellsParamOn types room) (r.param_on_of types cond' room) (param_on_sound types cond' sound room)) ts vs rest h)
    ]
    h

-- ---- fields

pub group_sound : (types : Names) (cond' : ℕ → Reader e.Expr) → CondSound types cond' → (room : ℕ) → Sound (d.SpellsGroup types room) (r.group_of types cond' room)
unfolding r.group_of
group_sound types cond' sound room ts vs rest h =
    let t = bind_ok (type_at types ts) (λ t. r.ended (separated_at (r.declarator_of types cond' room t.0)) t.1) (vs, rest) h in
    let first = type_sound types ts t.0.0 t.0.1 t.1 in
    let item = r.declarator_of types cond' room t.0.0 in
    let second = ended_sound (Separated (g.SpellsDeclarator types room t.0.0)) (separated_at item) (separated_sound (g.SpellsDeclarator types room t.0.0) item (declarator_sound types cond' sound room t.0.0)) t.0.1 vs rest t.2 in
    let end = second.2 in (
      first.0 ++ second.0,
      first.1 ∙ ap (λ l. first.0 ++ l) second.1 ∙ sym (append_assoc first.0 second.0 rest),
      d.group end.1 first.2 end.3 (ap (λ l. first.0 ++ l) end.2),
    )

groups_sound : (types : Names) (room : ℕ) (group : Reader (List e.VarDecl)) → Sound (d.SpellsGroup types room) group → (turns : ℕ) → Sound (d.SpellsFields types room) (r.groups group turns)
unfolding r.groups
groups_sound types room group sound zero ts vs rest h = absurd cc
groups_sound types room group sound (suc turns) ts vs rest h =
    let x = bind_ok (group ts) (λ vs. r.groups_go (r.at_brace vs.1) vs.0 vs.1 (r.groups group turns)) (vs, rest) h in
    let first = sound ts x.0.0 x.0.1 x.1 in
    elim (r.at_brace x.0.1) as (λ b. r.groups_go b x.0.0 x.0.1 (r.groups group turns) ≡ Some (vs, rest) → Took (d.SpellsFields types room) ts vs rest) [
      | true ↦ (λ h.
          let same = pair_is x.0.0 vs x.0.1 rest h in
          (first.0, first.1 ∙ ap (λ l. first.0 ++ l) same.1, subst (d.SpellsFields types room first.0) same.0 (d.one first.2)))
      | false ↦ (λ h.
          let ws = bind_ok (r.groups group turns x.0.1) (λ ws. Some (x.0.0 ++ ws.0, ws.1)) (vs, rest) h in
          let same = pair_is (x.0.0 ++ ws.0.0) vs ws.0.1 rest ws.2 in
          let others = groups_sound types room group sound turns x.0.1 ws.0.0 ws.0.1 ws.1 in (
            first.0 ++ others.0,
            first.1 ∙ ap (λ l. first.0 ++ l) (others.1 ∙ ap (λ l. others.0 ++ l) same.1) ∙ sym (append_assoc first.0 others.0 rest),
            d.more first.2 others.2 refl (sym same.0),
          ))
    ]
    x.2

pub fields_sound : (types : Names) (cond' : ℕ → Reader e.Expr) → CondSound types cond' → (room : ℕ) → Sound (d.SpellsFields types room) (r.fields_of types cond' room)
unfolding r.fields_of
fields_sound types cond' sound room ts vs rest h = groups_sound types room (r.group_of types cond' room) (group_sound types cond' sound room) (length ts) ts vs rest h

-- ---- enumerators

enumerator_sound : (types : Names) (cond' : ℕ → Reader e.Expr) → CondSound types cond' → (room : ℕ) → Sound (d.SpellsEnumerator types room) (r.enumerator_of types cond' room)
unfolding r.enumerator_of
enumerator_sound types cond' sound room ts v rest h =
    let x = bind_ok (new_name_at types ts) (λ x. r.initial (cond' room) (g.declared x.0.0 (e.kind kind.Int) x.0.1) (punct_at p.Assign x.1) x.1) (v, rest) h in
    let found = new_name_is types ts x.0.0 x.0.1 x.1 in
    initial_sound (SpellsCond types room) (cond' room) (sound room) (d.SpellsEnumerator types room) (name x.0.0.0 x.0.0.1 ∷ []) (g.declared x.0.0.0 (e.kind kind.Int) x.0.0.1) (d.counted found.1)
    (λ line inside a s. d.valued line found.1 s refl refl) ts x.0.1 found.0 v rest x.2

-- a comma behind the last, or none
pub data Trailing : List Token → Type 0 where
  bare : Trailing []
  comma : (line : ℕ) → Trailing (punct p.Comma line ∷ [])

record EnumeratorsAt (types : Names) (room : ℕ) (first ts : List Token) (vs : List e.VarDecl) (rest : List Token) : Type 0 where
  front : List Token
  end : List Token
  trails : Trailing end
  spelled : Separated (d.SpellsEnumerator types room) (first ++ front) vs
  all : ts ≡ front ++ (end ++ rest)

enumerators_end : (types : Names) (room : ℕ) (first ts end : List Token) (v : e.VarDecl) → d.SpellsEnumerator types room first v → Trailing end → (vs : List e.VarDecl) (after rest : List Token)
    → ts ≡ end ++ after → got [] after ≡ got vs rest → EnumeratorsAt types room first ts (v ∷ vs) rest
enumerators_end types room first ts end v s trails vs after rest all h =
    let no_items : List e.VarDecl = [] in
    let same = pair_is no_items vs after rest h in
    record {
      front = [];
      end = end;
      trails = trails;
      spelled = subst (λ vs. Separated (d.SpellsEnumerator types room) (first ++ []) (v ∷ vs)) same.0 (subst (λ l. Separated (d.SpellsEnumerator types room) l (v ∷ [])) (sym (append-nil first)) (Separated.one s));
      all = all ∙ ap (λ l. end ++ l) same.1;
    }

enumerators_next : (types : Names) (room line : ℕ) (first second after : List Token) (v : e.VarDecl) (vs ws : List e.VarDecl) (ts behind rest : List Token) → d.SpellsEnumerator types room first v
    → ts ≡ punct p.Comma line ∷ behind → behind ≡ second ++ after → EnumeratorsAt types room second after ws rest → ws ≡ vs → EnumeratorsAt types room first ts (v ∷ vs) rest
enumerators_next types room line first second after v vs ws ts behind rest s is split x same =
    let tok = punct p.Comma line in
    let regrouped : tok ∷ (second ++ (x.front ++ (x.end ++ rest))) ≡ (tok ∷ (second ++ x.front)) ++ (x.end ++ rest) = simp append_assoc in
    record {
      front = tok ∷ (second ++ x.front);
      end = x.end;
      trails = x.trails;
      spelled = subst (λ vs. Separated (d.SpellsEnumerator types room) (first ++ tok ∷ (second ++ x.front)) (v ∷ vs)) same (Separated.more line s x.spelled refl);
      all = is ∙ ap (λ l. tok ∷ l) (split ∙ ap (λ l. second ++ l) x.all) ∙ regrouped;
    }

more_enumerators_sound : (types : Names) (room : ℕ) (item : Reader e.VarDecl) → Sound (d.SpellsEnumerator types room) item → (turns : ℕ) (first ts : List Token) (v : e.VarDecl) → d.SpellsEnumerator types room first v
    → (vs : List e.VarDecl) (rest : List Token) → r.more_enumerators item turns ts ≡ Some (vs, rest) → EnumeratorsAt types room first ts (v ∷ vs) rest
unfolding r.more_enumerators
more_enumerators_sound types room item sound zero first ts v s vs rest h = enumerators_end types room first ts [] v s bare vs ts rest refl h
more_enumerators_sound types room item sound (suc turns) first ts v s vs rest h =
    elim (punct_at p.Comma ts) as (λ o. punct_at p.Comma ts ≡ o → r.enumerators_go item o ts (r.more_enumerators item turns) ≡ Some (vs, rest) → EnumeratorsAt types room first ts (v ∷ vs) rest) [
      | None ↦ (λ none h. enumerators_end types room first ts [] v s bare vs ts rest refl h)
      | Some c ↦ (λ some h.
          let is = punct_is p.Comma ts c.0 c.1 some in
          elim (r.at_brace c.1) as (λ b. cond {A = Option (List e.VarDecl × List Token)} b (Some ([], c.1)) (item c.1 >>= λ x. r.more_enumerators item turns x.1 >>= λ xs. Some (x.0 ∷ xs.0, xs.1)) ≡ Some (vs, rest) → EnumeratorsAt types room first ts (v ∷ vs) rest) [
            | true ↦ (λ h. enumerators_end types room first ts (punct p.Comma c.0 ∷ []) v s (comma c.0) vs c.1 rest is h)
            | false ↦ (λ h.
                let x = bind_ok (item c.1) (λ x. r.more_enumerators item turns x.1 >>= λ xs. Some (x.0 ∷ xs.0, xs.1)) (vs, rest) h in
                let xs = bind_ok (r.more_enumerators item turns x.0.1) (λ xs. Some (x.0.0 ∷ xs.0, xs.1)) (vs, rest) x.2 in
                let same = pair_is (x.0.0 ∷ xs.0.0) vs xs.0.1 rest xs.2 in
                let took = sound c.1 x.0.0 x.0.1 x.1 in
                let others = more_enumerators_sound types room item sound turns took.0 x.0.1 x.0.0 took.2 xs.0.0 xs.0.1 xs.1 in
                enumerators_next types room c.0 first took.0 x.0.1 v vs (x.0.0 ∷ xs.0.0) ts c.1 rest s is took.1 (subst (EnumeratorsAt types room took.0 x.0.1 (x.0.0 ∷ xs.0.0)) same.1 others) same.0)
          ]
          h)
    ]
    refl h

some_enumerators_sound : (types : Names) (room : ℕ) (item : Reader e.VarDecl) → Sound (d.SpellsEnumerator types room) item → (ts : List Token) (vs : List e.VarDecl) (rest : List Token)
    → r.some_enumerators item ts ≡ Some (vs, rest) → EnumeratorsAt types room [] ts vs rest
some_enumerators_sound types room item sound ts vs rest h =
    let x = bind_ok (item ts) (λ x. r.more_enumerators item (length x.1) x.1 >>= λ xs. Some (x.0 ∷ xs.0, xs.1)) (vs, rest) h in
    let xs = bind_ok (r.more_enumerators item (length x.0.1) x.0.1) (λ xs. Some (x.0.0 ∷ xs.0, xs.1)) (vs, rest) x.2 in
    let same = pair_is (x.0.0 ∷ xs.0.0) vs xs.0.1 rest xs.2 in
    let took = sound ts x.0.0 x.0.1 x.1 in
    let others = more_enumerators_sound types room item sound (length x.0.1) took.0 x.0.1 x.0.0 took.2 xs.0.0 xs.0.1 xs.1 in
    record {
      front = took.0 ++ others.front;
      end = others.end;
      trails = others.trails;
      spelled = subst (Separated (d.SpellsEnumerator types room) (took.0 ++ others.front)) same.0 others.spelled;
      all = took.1 ∙ ap (λ l. took.0 ++ l) (others.all ∙ ap (λ l. others.front ++ (others.end ++ l)) same.1) ∙ sym (append_assoc took.0 others.front (others.end ++ rest));
    }

-- enumerators, and what ends them
enclosed_is : (types : Names) (room : ℕ) (open' close' semi : ℕ) (inside end : List Token) (vs : List e.VarDecl) → Separated (d.SpellsEnumerator types room) inside vs → Trailing end
    → d.SpellsEnumerators types (suc room) (punct p.OpenBrace open' ∷ (inside ++ (end ++ punct p.CloseBrace close' ∷ punct p.Semicolon semi ∷ []))) vs
enclosed_is types room open' close' semi inside end vs s bare = d.enumerators open' close' semi s refl
enclosed_is types room open' close' semi inside end vs s (comma line) = d.trailing open' line close' semi s refl

enumerated_sound : (types : Names) (room : ℕ) (item : Reader e.VarDecl) → Sound (d.SpellsEnumerator types room) item → (line : ℕ) (ts : List Token) (vs : List e.VarDecl) (rest : List Token)
    → r.enumerated item ts ≡ Some (vs, rest) → Took (d.SpellsEnumerators types (suc room)) (punct p.OpenBrace line ∷ ts) vs rest
unfolding r.enumerated
enumerated_sound types room item sound line ts vs rest h =
    let x = bind_ok (r.some_enumerators item ts) (λ vs. punct_at p.CloseBrace vs.1 >>= λ b. punct_at p.Semicolon b.1 >>= λ s. Some (vs.0, s.1)) (vs, rest) h in
    let b = bind_ok (punct_at p.CloseBrace x.0.1) (λ b. punct_at p.Semicolon b.1 >>= λ s. Some (x.0.0, s.1)) (vs, rest) x.2 in
    let s = bind_ok (punct_at p.Semicolon b.0.1) (λ s. Some (x.0.0, s.1)) (vs, rest) b.2 in
    let same = pair_is x.0.0 vs s.0.1 rest s.2 in
    let found = some_enumerators_sound types room item sound ts x.0.0 x.0.1 x.1 in
    let open' = punct p.OpenBrace line in
    let tail = punct p.CloseBrace b.0.0 ∷ punct p.Semicolon s.0.0 ∷ [] in
    let behind : x.0.1 ≡ tail ++ rest = punct_is p.CloseBrace x.0.1 b.0.0 b.0.1 b.1 ∙ ap (λ l. punct p.CloseBrace b.0.0 ∷ l) (punct_is p.Semicolon b.0.1 s.0.0 s.0.1 s.1 ∙ ap (λ l. punct p.Semicolon s.0.0 ∷ l) same.1) in
    let regrouped : open' ∷ (found.front ++ (found.end ++ (tail ++ rest))) ≡ (open' ∷ (found.front ++ (found.end ++ tail))) ++ rest = simp append_assoc in (
      open' ∷ (found.front ++ (found.end ++ tail)),
      ap (λ l. open' ∷ l) (found.all ∙ ap (λ l. found.front ++ (found.end ++ l)) behind) ∙ regrouped,
      subst (d.SpellsEnumerators types (suc room) (open' ∷ (found.front ++ (found.end ++ tail)))) same.0 (enclosed_is types room line b.0.0 s.0.0 found.front found.end x.0.0 found.spelled found.trails),
    )

pub enumerators_sound : (types : Names) (cond' : ℕ → Reader e.Expr) → CondSound types cond' → (room : ℕ) → Sound (d.SpellsEnumerators types room) (r.enumerators_of types cond' room)
unfolding r.enumerators_of
enumerators_sound types cond' sound room ts vs rest h =
    let o = bind_ok (punct_at p.OpenBrace ts) (λ o. cond (room == 0) None (r.enumerated (r.enumerator_of types cond' (room - 1)) o.1)) (vs, rest) h in
    let open' = roomy room (r.enumerated (r.enumerator_of types cond' (room - 1)) o.0.1) (vs, rest) o.2 in
    let one = open'.1 in
    let within : suc (room - 1) ≡ room = omega (arith, one) in
    let took = enumerated_sound types (room - 1) (r.enumerator_of types cond' (room - 1)) (enumerator_sound types cond' sound (room - 1)) o.0.0 o.0.1 vs rest open'.2 in
    (took.0, punct_is p.OpenBrace ts o.0.0 o.0.1 o.1 ∙ took.1, subst (λ room. d.SpellsEnumerators types room took.0 vs) within took.2)

-- ---- linkage

links_front : (kind : TokenKind) (line : ℕ) (ts : List Token) → let ts' : List Token = cond (r.links kind) ts (token kind line ∷ ts) in (xs : List Token) × (token kind line ∷ ts ≡ xs ++ ts') × d.SpellsLinkage xs
links_front (k.Word w.Extern) line ts = (word w.Extern line ∷ [], refl, d.extern)
links_front (k.Word w.Static) line ts = (word w.Static line ∷ [], refl, d.static)
links_front (k.Word _) line ts = ([], refl, d.none)
links_front _ line ts = ([], refl, d.none)

pub linkage_sound : (ts : List Token) → (xs : List Token) × (ts ≡ xs ++ r.linkage_at ts) × d.SpellsLinkage xs
unfolding r.linkage_at
linkage_sound [] = ([], refl, d.none)
linkage_sound (t ∷ ts) = links_front t.kind t.line ts
