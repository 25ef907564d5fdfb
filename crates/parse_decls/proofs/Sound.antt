-- What the readers of declarations read is spelled so.
use Rattle.std.proofs.Common.{◌≡◌, ℕ, zero, suc, ◌-◌, ◌==◌, Bool, true, false, cond, List, [], ◌∷◌, ◌++◌, length, Option, Some, None, refl, sym, ap, ◌∙◌, subst, arith, append_assoc}
use Rattle.std.proofs.lemmas.Bool.Decides.{nat_tests}
use Rattle.wp_base.specs.declared.kinds.Kind.TheVariants as kind
use Rattle.c_syntax.specs.declared.token.Token.{Token}
use Rattle.c_syntax.specs.declared.token.Word.TheVariants as w
use Rattle.c_syntax.specs.declared.token.Punct.TheVariants as p
use Rattle.c_syntax.specs.Expr as e
use Rattle.c_grammar.specs.Tokens.{Names, is_type, punct, word, name, first_line}
use Rattle.c_grammar.specs.Types.{SpellsType, SpellsStars}
use Rattle.c_grammar.specs.Lists.{Separated}
use Rattle.c_grammar.specs.Exprs.{SpellsCond, SpellsExpr}
use Rattle.c_grammar.specs.Declarators as g
use Rattle.c_grammar.specs.Decls as d
use Rattle.c_grammar.specs.Reading.{Reader, ◌>>=◌, punct_at, word_at, name_at, new_name_at}
use Rattle.c_grammar.proofs.Readers.{Took, Sound, bind_ok, guard_ok, pair_is, got}
use Rattle.c_grammar.specs.ListReaders.{separated_at}
use Rattle.c_grammar.proofs.SingleTokens.{punct_is, new_name_is}
use Rattle.c_grammar.proofs.Separating.{separated_sound}
use Rattle.parse_types.specs.Read.{type_at, stars_at}
use Rattle.parse_types.proofs.Laws.{type_sound, stars_sound}
use Rattle.parse_decls.specs.Spelled.{SpellsEnded}
use Rattle.parse_decls.specs.Read as r
use Rattle.parse_decls.proofs.Parts.{Parts}

-- ---- declarators

-- with room for a bracket
pub roomy : {X : Type 0} (room : ℕ) (o : Option X) (x : X) → cond (room == 0) None o ≡ Some x → (less : ℕ) × (room ≡ suc less) × (o ≡ Some x)
roomy zero o x h = absurd cc
roomy (suc less) o x h =
    let roomed : (suc less == 0) ≡ false = grind (arith, nat_tests) in
    (less, refl, rw roomed at h)

-- a length, and the bracket behind it
pub record LengthAt (types : Names) (room : ℕ) (ts : List Token) (n : e.Expr) (rest : List Token) : Type 0 where
  pub less : ℕ
  pub one : room ≡ suc less
  pub inside : List Token
  pub line : ℕ
  pub spelled : SpellsCond types less inside n
  pub all : ts ≡ inside ++ punct p.CloseBracket line ∷ rest

pub length_is : (types : Names) (cond' : ℕ → Reader e.Expr) → ((room : ℕ) → Sound (SpellsCond types room) (cond' room)) → (room : ℕ) (ts : List Token) (n : e.Expr) (rest : List Token)
    → r.length_of cond' room ts ≡ Some (n, rest) → LengthAt types room ts n rest
unfolding r.length_of
length_is types cond' sound room ts n rest h =
    let open' = roomy room (cond' (room - 1) ts >>= λ n. punct_at p.CloseBracket n.1 >>= λ c. Some (n.0, c.1)) (n, rest) h in
    let a = bind_ok (cond' (room - 1) ts) (λ n. punct_at p.CloseBracket n.1 >>= λ c. Some (n.0, c.1)) (n, rest) open'.2 in
    let b = bind_ok (punct_at p.CloseBracket a.0.1) (λ c. Some (a.0.0, c.1)) (n, rest) a.2 in
    let same = pair_is a.0.0 n b.0.1 rest b.2 in
    let took = sound (room - 1) ts a.0.0 a.0.1 a.1 in
    let one = open'.1 in
    let within : room - 1 ≡ open'.0 = omega (arith, one) in
    record {
      less = open'.0;
      one = one;
      inside = took.0;
      line = b.0.0;
      spelled = subst (λ n. SpellsCond types open'.0 took.0 n) same.0 (subst (λ room. SpellsCond types room took.0 a.0.0) within took.2);
      all = took.1 ∙ ap (λ l. took.0 ++ l) (punct_is p.CloseBracket a.0.1 b.0.0 b.0.1 b.1 ∙ ap (λ l. punct p.CloseBracket b.0.0 ∷ l) same.1);
    }

-- pointers and a name, and what comes behind them
pub record NameAt (types : Names) (base : e.CType) (ts : List Token) (t : e.CType) (x : List ℕ × ℕ) (after : List Token) : Type 0 where
  pub first : List Token
  pub stars : SpellsStars true first base t
  pub new : is_type types x.0 ≡ false
  pub all : ts ≡ first ++ name x.0 x.1 ∷ after

pub name_at_is : (types : Names) (base : e.CType) (ts : List Token) (t : e.CType) (middle : List Token) (x : List ℕ × ℕ) (after : List Token)
    → stars_at true base ts ≡ Some (t, middle) → new_name_at types middle ≡ Some (x, after) → NameAt types base ts t x after
name_at_is types base ts t middle x after h k =
    let took = stars_sound true base ts t middle h in
    let found = new_name_is types middle x after k in
    record { first = took.0; stars = took.2; new = found.1; all = took.1 ∙ ap (λ l. took.0 ++ l) found.0 }

pub plain_is : (types : Names) (room : ℕ) (base : e.CType) (ts : List Token) (t : e.CType) (x : List ℕ × ℕ) (after : List Token) → NameAt types base ts t x after
    → Took (g.SpellsDeclarator types room base) ts (g.declared x.0 t x.1) after
plain_is types room base ts t x after h =
    let tail = name x.0 x.1 ∷ [] in
    (h.first ++ tail, h.all ∙ sym (append_assoc h.first tail after), g.plain h.stars h.new refl)

pub array_is : (types : Names) (room : ℕ) (base : e.CType) (ts : List Token) (t : e.CType) (x : List ℕ × ℕ) (line : ℕ) (after : List Token) (n : e.Expr) (rest : List Token)
    → NameAt types base ts t x (punct p.OpenBracket line ∷ after) → LengthAt types room after n rest → Took (g.SpellsDeclarator types room base) ts (g.declared x.0 (e.array t n) x.1) rest
array_is types room base ts t x line after n rest h l =
    let end = punct p.CloseBracket l.line ∷ [] in
    let tail = name x.0 x.1 ∷ punct p.OpenBracket line ∷ (l.inside ++ end) in
    let regrouped : h.first ++ name x.0 x.1 ∷ punct p.OpenBracket line ∷ (l.inside ++ punct p.CloseBracket l.line ∷ rest) ≡ (h.first ++ tail) ++ rest = simp append_assoc in (
      h.first ++ tail,
      h.all ∙ ap (λ l. h.first ++ name x.0 x.1 ∷ punct p.OpenBracket line ∷ l) l.all ∙ regrouped,
      subst (λ room. g.SpellsDeclarator types room base (h.first ++ tail) (g.declared x.0 (e.array t n) x.1)) (sym l.one) (g.array line l.line h.stars h.new l.spelled refl),
    )

pub declarator_sound : (types : Names) (cond' : ℕ → Reader e.Expr) → ((room : ℕ) → Sound (SpellsCond types room) (cond' room)) → (room : ℕ) (base : e.CType)
    → Sound (g.SpellsDeclarator types room base) (r.declarator_of types cond' room base)
unfolding r.declarator_of
declarator_sound types cond' sound room base ts v rest h =
    let t = bind_ok (stars_at true base ts) (λ t. new_name_at types t.1 >>= λ x. r.sized (r.length_of cond' room) x.0 t.0 (punct_at p.OpenBracket x.1) x.1) (v, rest) h in
    let x = bind_ok (new_name_at types t.0.1) (λ x. r.sized (r.length_of cond' room) x.0 t.0.0 (punct_at p.OpenBracket x.1) x.1) (v, rest) t.2 in
    let found = name_at_is types base ts t.0.0 t.0.1 x.0.0 x.0.1 t.1 x.1 in
    elim (punct_at p.OpenBracket x.0.1) as (λ o. punct_at p.OpenBracket x.0.1 ≡ o → r.sized (r.length_of cond' room) x.0.0 t.0.0 o x.0.1 ≡ Some (v, rest) → Took (g.SpellsDeclarator types room base) ts v rest) [
      | None ↦ (λ none h.
          let same = pair_is (g.declared x.0.0.0 t.0.0 x.0.0.1) v x.0.1 rest h in
          let took = plain_is types room base ts t.0.0 x.0.0 x.0.1 found in
          (took.0, took.1 ∙ ap (λ l. took.0 ++ l) same.1, subst (g.SpellsDeclarator types room base took.0) same.0 took.2))
      | Some b ↦ (λ some h.
          let n = bind_ok (r.length_of cond' room b.1) (λ n. Some (g.declared x.0.0.0 (e.array t.0.0 n.0) x.0.0.1, n.1)) (v, rest) h in
          let same = pair_is (g.declared x.0.0.0 (e.array t.0.0 n.0.0) x.0.0.1) v n.0.1 rest n.2 in
          let within = length_is types cond' sound room b.1 n.0.0 n.0.1 n.1 in
          let opened = punct_is p.OpenBracket x.0.1 b.0 b.1 some in
          let took = array_is types room base ts t.0.0 x.0.0 b.0 b.1 n.0.0 n.0.1 (subst (NameAt types base ts t.0.0 x.0.0) opened found) within in
          (took.0, took.1 ∙ ap (λ l. took.0 ++ l) same.1, subst (g.SpellsDeclarator types room base took.0) same.0 took.2))
    ]
    refl x.2

-- a declared name, with a value behind `=` or without
pub initial_sound : (Value : List Token → e.Expr → Type 0) (value : Reader e.Expr) → Sound Value value → (S : List Token → e.VarDecl → Type 0)
    → (first : List Token) (v : e.VarDecl) → S first v
    → ((line : ℕ) (inside : List Token) (a : e.Expr) → Value inside a → S (first ++ punct p.Assign line ∷ inside) (g.with_init v a))
    → (ts after : List Token) → ts ≡ first ++ after → (u : e.VarDecl) (rest : List Token) → r.initial value v (punct_at p.Assign after) after ≡ Some (u, rest) → Took S ts u rest
initial_sound Value value sound S first v bare given ts after all u rest h =
    elim (punct_at p.Assign after) as (λ o. punct_at p.Assign after ≡ o → r.initial value v o after ≡ Some (u, rest) → Took S ts u rest) [
      | None ↦ (λ none h.
          let same = pair_is v u after rest h in
          (first, all ∙ ap (λ l. first ++ l) same.1, subst (S first) same.0 bare))
      | Some b ↦ (λ some h.
          let a = bind_ok (value b.1) (λ a. Some (g.with_init v a.0, a.1)) (u, rest) h in
          let same = pair_is (g.with_init v a.0.0) u a.0.1 rest a.2 in
          let took = sound b.1 a.0.0 a.0.1 a.1 in
          let tok = punct p.Assign b.0 in (
            first ++ tok ∷ took.0,
            all ∙ ap (λ l. first ++ l) (punct_is p.Assign after b.0 b.1 some ∙ ap (λ l. tok ∷ l) (took.1 ∙ ap (λ l. took.0 ++ l) same.1)) ∙ sym (append_assoc first (tok ∷ took.0) rest),
            subst (S (first ++ tok ∷ took.0)) same.0 (given b.0 took.0 a.0.0 took.2),
          ))
    ]
    refl h

pub initialised_sound : (types : Names) (cond' expr' : ℕ → Reader e.Expr) → Parts types cond' expr' → (room : ℕ) (base : e.CType) → Sound (g.SpellsInitialised types room base) (r.initialised_of types cond' expr' room base)
unfolding r.initialised_of
initialised_sound types cond' expr' parts room base ts v rest h =
    let x = bind_ok (r.declarator_of types cond' room base ts) (λ v. r.initial (expr' room) v.0 (punct_at p.Assign v.1) v.1) (v, rest) h in
    let took = declarator_sound types cond' parts.cond_sound room base ts x.0.0 x.0.1 x.1 in
    initial_sound (SpellsExpr types room) (expr' room) (parts.expr_sound room) (g.SpellsInitialised types room base) took.0 x.0.0 (g.bare took.2)
    (λ line inside a s. g.initialised line took.2 s refl refl) ts x.0.1 took.1 v rest x.2

pub ended_sound : {X : Type 0} (S : List Token → List X → Type 0) (items : Reader (List X)) → Sound S items → Sound (SpellsEnded S) (r.ended items)
ended_sound S items sound ts xs rest h =
    let x = bind_ok (items ts) (λ xs. punct_at p.Semicolon xs.1 >>= λ s. Some (xs.0, s.1)) (xs, rest) h in
    let end = bind_ok (punct_at p.Semicolon x.0.1) (λ s. Some (x.0.0, s.1)) (xs, rest) x.2 in
    let same = pair_is x.0.0 xs end.0.1 rest end.2 in
    let took = sound ts x.0.0 x.0.1 x.1 in
    let tail = punct p.Semicolon end.0.0 ∷ [] in (
      took.0 ++ tail,
      took.1 ∙ ap (λ l. took.0 ++ l) (punct_is p.Semicolon x.0.1 end.0.0 end.0.1 end.1 ∙ ap (λ l. punct p.Semicolon end.0.0 ∷ l) same.1) ∙ sym (append_assoc took.0 tail rest),
      (took.0, end.0.0, refl, subst (S took.0) same.0 took.2),
    )

pub variables_after_sound : (types : Names) (cond' expr' : ℕ → Reader e.Expr) → Parts types cond' expr' → (room : ℕ) (base : e.CType)
    → Sound (SpellsEnded (Separated (g.SpellsInitialised types room base))) (r.variables_after_of types cond' expr' room base)
unfolding r.variables_after_of
variables_after_sound types cond' expr' parts room base =
    ended_sound (Separated (g.SpellsInitialised types room base)) (separated_at (r.initialised_of types cond' expr' room base))
    (separated_sound (g.SpellsInitialised types room base) (r.initialised_of types cond' expr' room base) (initialised_sound types cond' expr' parts room base))

pub variables_sound : (types : Names) (cond' expr' : ℕ → Reader e.Expr) → Parts types cond' expr' → (room : ℕ) → Sound (g.SpellsVariables types room) (r.variables_of types cond' expr' room)
unfolding r.variables_of
variables_sound types cond' expr' parts room ts vs rest h =
    let t = bind_ok (type_at types ts) (λ t. r.variables_after_of types cond' expr' room t.0 t.1) (vs, rest) h in
    let first = type_sound types ts t.0.0 t.0.1 t.1 in
    let second = variables_after_sound types cond' expr' parts room t.0.0 t.0.1 vs rest t.2 in
    let ended = second.2 in (
      first.0 ++ second.0,
      first.1 ∙ ap (λ l. first.0 ++ l) second.1 ∙ sym (append_assoc first.0 second.0 rest),
      g.variables ended.1 first.2 ended.3 (ap (λ l. first.0 ++ l) ended.2),
    )
