-- What is read is spelled so.
use Rattle.std.proofs.Common.{◌≡◌, ℕ, zero, suc, true, false, cond, List, [], ◌∷◌, ◌++◌, length, Option, Some, None, refl, sym, ap, ◌∙◌, subst, arith, append_assoc, append-nil}
use Rattle.c_syntax.specs.declared.token.Token.{Token}
use Rattle.c_syntax.specs.declared.token.TokenKind.TheVariants as k
use Rattle.c_syntax.specs.declared.token.Punct.{Punct}
use Rattle.c_syntax.specs.declared.token.Punct.TheVariants as p
use Rattle.c_syntax.specs.declared.token.Word.TheVariants as w
use Rattle.c_syntax.specs.Expr as e
use Rattle.c_grammar.specs.Tokens.{Names, punct, word, name}
use Rattle.c_grammar.specs.Operators.{loosest}
use Rattle.c_grammar.specs.Exprs as g
use Rattle.c_grammar.specs.Exprs.{SpellsPostfix, SpellsUnary, SpellsBinary, SpellsCond, SpellsExpr}
use Rattle.c_grammar.specs.Reading.{Reader, ◌>>=◌, punct_at, word_at, name_at}
use Rattle.c_grammar.proofs.Readers.{bind_ok, got, pair_is, Took, Sound}
use Rattle.c_grammar.proofs.Levels.{Joins, Widens, levels_sound}
use Rattle.c_grammar.proofs.SingleTokens.{punct_is, word_is, name_is}
use Rattle.parse_types.specs.Read.{starts_type}
use Rattle.parse_types.proofs.Laws.{type_name_sound}
use Rattle.parse_exprs.specs.declared.operators.Prefix.{Prefix}
use Rattle.parse_exprs.specs.declared.operators.Prefix.TheVariants as before
use Rattle.parse_exprs.specs.declared.operators.Suffix.{Suffix}
use Rattle.parse_exprs.specs.declared.operators.Suffix.TheVariants as behind
use Rattle.parse_exprs.specs.Operators.{operator, assign_at, prefix_at, prefix_of, suffix_at, suffix_of}
use Rattle.parse_exprs.specs.Read.{Inside, enclosed, primary, suffix, suffix_by, suffixed, suffixes, postfix, prefixed, prefixed_by, sizeof, cast, cast_at, before_type, unary_by, unary_over, binary, binary_from, binary_make, arms, chosen, cond_from, cond_over, assigned, assigns, expr_over, closed, over, forms}
use Rattle.parse_exprs.proofs.Reading.{binary_is, bind_bind}
use Rattle.parse_exprs.proofs.Tokens.{operator_found, assign_found, prefix_found, suffix_found, level_is, prefix_operator, prefix_step, suffix_index, suffix_field, suffix_step}
use Rattle.parse_exprs.proofs.SoundPrimaries.{took_same, InsideSound, enclosed_sound, args_sound, primary_sound}

-- ---- postfix expressions

-- the tokens in `before` spell what was read, and those at the front go on with it
abbrev GoesOn : (types : Names) (room : ℕ) → (before ts : List Token) → e.Expr → List Token → Type 0
GoesOn types room before ts a rest = (xs : List Token) × (ts ≡ xs ++ rest) × SpellsPostfix types room (before ++ xs) a

goes_same : (types : Names) (room : ℕ) (before ts : List Token) (a b : e.Expr) (after rest : List Token) → got a after ≡ got b rest → GoesOn types room before ts a after → GoesOn types room before ts b rest
goes_same types room before ts a b after rest h x =
    let same = pair_is a b after rest h in
    (x.0, x.1 ∙ ap (λ l. x.0 ++ l) same.1, subst (SpellsPostfix types room (before ++ x.0)) same.0 x.2)

index_sound : (types : Names) (room : ℕ) (within : Inside) → InsideSound types room within → (line : ℕ) (a : e.Expr) (before ts : List Token) → SpellsPostfix types room before a → (b : e.Expr) (rest : List Token)
    → suffix_by within behind.Index line a ts ≡ Some (b, rest) → GoesOn types room before (punct p.OpenBracket line ∷ ts) b rest
index_sound types room within sound line a before ts s b rest h =
    let x = bind_ok (enclosed p.CloseBracket within ts) (λ b. Some (e.index line a b.0, b.1)) (b, rest) h in
    let y = enclosed_sound types room p.CloseBracket within sound ts x.0.0 x.0.1 x.1 in
    let inner = y.2.2 in
    let tok = punct p.OpenBracket line in
    goes_same types room before (tok ∷ ts) (e.index line a x.0.0) b x.0.1 rest x.2 (
      tok ∷ y.2.0,
      ap (λ l. tok ∷ l) y.2.1,
      subst (λ room. SpellsPostfix types room (before ++ tok ∷ y.2.0) (e.index line a x.0.0)) (sym y.1)
          (g.index inner.line (subst (λ room. SpellsPostfix types room before a) y.1 s) inner.spelled (ap (λ l. before ++ tok ∷ l) inner.all)),
    )

suffix_by_sound : (types : Names) (room : ℕ) (within : Inside) → InsideSound types room within → (how : Suffix) (q : Punct) → suffix_of q ≡ Some how → (line : ℕ) (a : e.Expr) (before ts : List Token) → SpellsPostfix types room before a
    → (b : e.Expr) (rest : List Token) → suffix_by within how line a ts ≡ Some (b, rest) → GoesOn types room before (punct q line ∷ ts) b rest
suffix_by_sound types room within sound behind.Index q says line a before ts s b rest h =
    subst (λ q. GoesOn types room before (punct q line ∷ ts) b rest) (sym (suffix_index q says)) (index_sound types room within sound line a before ts s b rest h)
suffix_by_sound types room within sound (behind.Field arrow) q says line a before ts s b rest h =
    let x = bind_ok (name_at ts) (λ x. Some (e.field line a x.0.0 arrow, x.1)) (b, rest) h in
    let tok = punct q line in
    let field' = name x.0.0.0 x.0.0.1 in
    goes_same types room before (tok ∷ ts) (e.field line a x.0.0.0 arrow) b x.0.1 rest x.2 (
      tok ∷ field' ∷ [],
      ap (λ l. tok ∷ l) (name_is ts x.0.0 x.0.1 x.1),
      g.field x.0.0.1 q (suffix_field q arrow says) s refl,
    )
suffix_by_sound types room within sound (behind.Step up) q says line a before ts s b rest h =
    goes_same types room before (punct q line ∷ ts) (e.step line up false a) b ts rest h (punct q line ∷ [], refl, g.step_behind q (suffix_step q up says) s refl)

suffix_sound : (types : Names) (room : ℕ) (within : Inside) → InsideSound types room within → (how : Suffix) (line : ℕ) (all after : List Token) → suffix_at all ≡ Some ((how, line), after) → (a : e.Expr) (before : List Token) → SpellsPostfix types room before a
    → (b : e.Expr) (rest : List Token) → suffix within how line a after ≡ Some (b, rest) → GoesOn types room before all b rest
unfolding suffix
suffix_sound types room within sound how line all after found a before s b rest h =
    let f = suffix_found all how line after found in
    subst (λ all. GoesOn types room before all b rest) (sym f.front) (suffix_by_sound types room within sound how f.q f.says line a before after s b rest h)

suffixes_sound : (types : Names) (room : ℕ) (within : Inside) → InsideSound types room within → (turns : ℕ) (a : e.Expr) (before ts : List Token) → SpellsPostfix types room before a
    → (b : e.Expr) (rest : List Token) → suffixes within turns a ts ≡ Some (b, rest) → GoesOn types room before ts b rest
unfolding suffixes
suffixes_sound types room within sound zero a before ts s b rest h =
    goes_same types room before ts a b ts rest h ([], refl, subst (λ l. SpellsPostfix types room l a) (sym (append-nil before)) s)
suffixes_sound types room within sound (suc turns) a before ts s b rest h =
    elim (suffix_at ts) as (λ o. suffix_at ts ≡ o → suffixed within o a ts (suffixes within turns) ≡ Some (b, rest) → GoesOn types room before ts b rest) [
      | None ↦ (λ none h. goes_same types room before ts a b ts rest h ([], refl, subst (λ l. SpellsPostfix types room l a) (sym (append-nil before)) s))
      | Some x ↦ (λ some h.
          let y = bind_ok (suffix within x.0.0 x.0.1 a x.1) (λ b. suffixes within turns b.0 b.1) (b, rest) h in
          let one = suffix_sound types room within sound x.0.0 x.0.1 ts x.1 some a before s y.0.0 y.0.1 y.1 in
          let more = suffixes_sound types room within sound turns y.0.0 (before ++ one.0) y.0.1 one.2 b rest y.2 in (
            one.0 ++ more.0,
            one.1 ∙ ap (λ l. one.0 ++ l) more.1 ∙ sym (append_assoc one.0 more.0 rest),
            subst (λ l. SpellsPostfix types room l b) (append_assoc before one.0 more.0) more.2,
          ))
    ]
    refl h

postfix_sound : (types : Names) (room : ℕ) (within : Inside) → InsideSound types room within → Sound (SpellsPostfix types room) (postfix types within)
unfolding postfix
postfix_sound types room within sound ts a rest h =
    let x = bind_ok (primary types within ts) (λ a. suffixes within (length a.1) a.0 a.1) (a, rest) h in
    let first = primary_sound types room within sound ts x.0.0 x.0.1 x.1 in
    let more = suffixes_sound types room within sound (length x.0.1) x.0.0 first.0 x.0.1 (g.of_primary first.2) a rest x.2 in
    (first.0 ++ more.0, first.1 ∙ ap (λ l. first.0 ++ l) more.1 ∙ sym (append_assoc first.0 more.0 rest), more.2)

-- ---- unary expressions

prefixed_by_sound : (types : Names) (less : ℕ) (how : Prefix) (q : Punct) → prefix_of q ≡ Some how → (line : ℕ) (xs : List Token) (a : e.Expr) → SpellsUnary types less xs a → SpellsUnary types (suc less) (punct q line ∷ xs) (prefixed_by how line a)
prefixed_by_sound types less (before.Operator op) q says line xs a s = g.prefixed (prefix_operator q op says) s
prefixed_by_sound types less (before.Step up) q says line xs a s = g.step_before (prefix_step q up says) s

prefixed_sound : (types : Names) (room : ℕ) (within : Inside) → InsideSound types room within → (ts : List Token) (how : Prefix) (line : ℕ) (after : List Token) → prefix_at ts ≡ Some ((how, line), after)
    → (a : e.Expr) (rest : List Token) → prefixed within how line after ≡ Some (a, rest) → Took (SpellsUnary types room) ts a rest
unfolding prefixed
prefixed_sound types room within sound ts how line after found a rest h =
    let f = prefix_found ts how line after found in
    let x = bind_ok (within.unary after) (λ a. Some (prefixed_by how line a.0, a.1)) (a, rest) h in
    let took = sound.unary after x.0.0 x.0.1 x.1 in
    let tok = punct f.q line in
    took_same (SpellsUnary types room) ts (prefixed_by how line x.0.0) a x.0.1 rest x.2 (
      tok ∷ took.2.0,
      f.front ∙ ap (λ l. tok ∷ l) took.2.1,
      subst (λ room. SpellsUnary types room (tok ∷ took.2.0) (prefixed_by how line x.0.0)) (sym took.1) (prefixed_by_sound types took.0 how f.q f.says line took.2.0 x.0.0 took.2.2),
    )

sizeof_sound : (types : Names) (room : ℕ) (within : Inside) → InsideSound types room within → (ts : List Token) (line : ℕ) (after : List Token) → word_at w.SizeOf ts ≡ Some (line, after)
    → (a : e.Expr) (rest : List Token) → sizeof within line after ≡ Some (a, rest) → Took (SpellsUnary types room) ts a rest
unfolding sizeof
sizeof_sound types room within sound ts line after found a rest h =
    let o = bind_ok (punct_at p.OpenParen after) (λ o. within.type_name o.1 >>= λ t. punct_at p.CloseParen t.1 >>= λ c. Some (e.sizeof line t.0, c.1)) (a, rest) h in
    let t = bind_ok (within.type_name o.0.1) (λ t. punct_at p.CloseParen t.1 >>= λ c. Some (e.sizeof line t.0, c.1)) (a, rest) o.2 in
    let c = bind_ok (punct_at p.CloseParen t.0.1) (λ c. Some (e.sizeof line t.0.0, c.1)) (a, rest) t.2 in
    let took = sound.type_name o.0.1 t.0.0 t.0.1 t.1 in
    let all = word w.SizeOf line ∷ punct p.OpenParen o.0.0 ∷ (took.2.0 ++ punct p.CloseParen c.0.0 ∷ []) in
    took_same (SpellsUnary types room) ts (e.sizeof line t.0.0) a c.0.1 rest c.2 (
      all,
      word_is w.SizeOf ts line after found
          ∙ ap (λ l. word w.SizeOf line ∷ l) (punct_is p.OpenParen after o.0.0 o.0.1 o.1)
          ∙ ap (λ l. word w.SizeOf line ∷ punct p.OpenParen o.0.0 ∷ l)
          (took.2.1 ∙ ap (λ l. took.2.0 ++ l) (punct_is p.CloseParen t.0.1 c.0.0 c.0.1 c.1) ∙ sym (append_assoc took.2.0 (punct p.CloseParen c.0.0 ∷ []) c.0.1)),
      subst (λ room. SpellsUnary types room all (e.sizeof line t.0.0)) (sym took.1) (g.sizeof o.0.0 c.0.0 took.2.2 refl),
    )

-- the room is determined
same_less : (room m n : ℕ) → room ≡ suc m → room ≡ suc n → n ≡ m
same_less room m n a b = omega arith

cast_sound : (types : Names) (room : ℕ) (within : Inside) → InsideSound types room within → (line : ℕ) (after : List Token)
    → (a : e.Expr) (rest : List Token) → cast within line after ≡ Some (a, rest) → Took (SpellsUnary types room) (punct p.OpenParen line ∷ after) a rest
unfolding cast
cast_sound types room within sound line after a rest h =
    let t = bind_ok (within.type_name after) (λ t. punct_at p.CloseParen t.1 >>= λ c. within.unary c.1 >>= λ a. Some (e.cast line t.0 a.0, a.1)) (a, rest) h in
    let c = bind_ok (punct_at p.CloseParen t.0.1) (λ c. within.unary c.1 >>= λ a. Some (e.cast line t.0.0 a.0, a.1)) (a, rest) t.2 in
    let x = bind_ok (within.unary c.0.1) (λ a. Some (e.cast line t.0.0 a.0, a.1)) (a, rest) c.2 in
    let inner = sound.type_name after t.0.0 t.0.1 t.1 in
    let operand = sound.unary c.0.1 x.0.0 x.0.1 x.1 in
    let all = punct p.OpenParen line ∷ (inner.2.0 ++ punct p.CloseParen c.0.0 ∷ operand.2.0) in
    took_same (SpellsUnary types room) (punct p.OpenParen line ∷ after) (e.cast line t.0.0 x.0.0) a x.0.1 rest x.2 (
      all,
      ap (λ l. punct p.OpenParen line ∷ l)
          (inner.2.1 ∙ ap (λ l. inner.2.0 ++ l) (punct_is p.CloseParen t.0.1 c.0.0 c.0.1 c.1 ∙ ap (λ l. punct p.CloseParen c.0.0 ∷ l) operand.2.1)
          ∙ sym (append_assoc inner.2.0 (punct p.CloseParen c.0.0 ∷ operand.2.0) x.0.1)),
      subst (λ room. SpellsUnary types room all (e.cast line t.0.0 x.0.0)) (sym operand.1) (g.cast c.0.0 inner.2.2 operand.2.2 refl),
    )

before_type_is : (types : Names) (o o' : ℕ × List Token) → before_type types o ≡ Some o' → o ≡ o'
before_type_is types o o' h =
    elim (starts_type types o.1) as (λ b. cond b (Some o) None ≡ Some o' → o ≡ o') [
      | true ↦ (λ h. cc)
      | false ↦ (λ h. absurd cc)
    ]
    h

cast_opens : (types : Names) (ts : List Token) (o : ℕ × List Token) → cast_at types ts ≡ Some o → ts ≡ punct p.OpenParen o.0 ∷ o.1
unfolding cast_at
cast_opens types ts o h =
    let x = bind_ok (punct_at p.OpenParen ts) (before_type types) o h in
    let same = before_type_is types x.0 o x.2 in
    punct_is p.OpenParen ts x.0.0 x.0.1 x.1 ∙ ap (λ (o : ℕ × List Token). punct p.OpenParen o.0 ∷ o.1) same

unary_by_sound : (types : Names) (room : ℕ) (within : Inside) → InsideSound types room within → (ts : List Token) (x : Option ((Prefix × ℕ) × List Token)) (s c : Option (ℕ × List Token))
    → prefix_at ts ≡ x → word_at w.SizeOf ts ≡ s → cast_at types ts ≡ c → (a : e.Expr) (rest : List Token) → unary_by types within x s c ts ≡ Some (a, rest) → Took (SpellsUnary types room) ts a rest
unary_by_sound types room within sound ts (Some x) s c is_x is_s is_c a rest h = prefixed_sound types room within sound ts x.0.0 x.0.1 x.1 is_x a rest h
unary_by_sound types room within sound ts None (Some s) c is_x is_s is_c a rest h = sizeof_sound types room within sound ts s.0 s.1 is_s a rest h
unary_by_sound types room within sound ts None None (Some c) is_x is_s is_c a rest h =
    subst (λ ts. Took (SpellsUnary types room) ts a rest) (sym (cast_opens types ts c is_c)) (cast_sound types room within sound c.0 c.1 a rest h)
unary_by_sound types room within sound ts None None None is_x is_s is_c a rest h =
    let took = postfix_sound types room within sound ts a rest h in
    (took.0, took.1, g.of_postfix took.2)

unary_sound : (types : Names) (room : ℕ) (within : Inside) → InsideSound types room within → Sound (SpellsUnary types room) (unary_over types within)
unfolding unary_over
unary_sound types room within sound ts a rest h = unary_by_sound types room within sound ts (prefix_at ts) (word_at w.SizeOf ts) (cast_at types ts) refl refl refl a rest h

-- ---- operators of two operands

joins : (types : Names) (room : ℕ) → Joins (λ n. SpellsBinary types n room) binary_make operator
joins types room m ts op line after h =
    let f = operator_found (suc m) ts op line after h in
    let says = level_is (suc m) f.q op f.says in
    (punct f.q line ∷ [], f.front, λ left right a b l r. g.binary {n = suc m} f.q (omega arith) says.0 says.1 l r refl)

widens : (types : Names) (room : ℕ) → Widens (λ n. SpellsBinary types n room)
widens types room n xs a s = wider s
  where
    wider : {n room : ℕ} {xs : List Token} {a : e.Expr} → SpellsBinary types n room xs a → SpellsBinary types (suc n) room xs a
    wider (g.of_unary s) = g.of_unary s
    wider (g.binary q le says lv l r eq) = g.binary q (omega (arith, le)) says lv l r eq

binary_sound : (types : Names) (room n : ℕ) (unary : Reader e.Expr) → Sound (SpellsUnary types room) unary → Sound (SpellsBinary types n room) (binary n unary)
binary_sound types room n unary sound =
    levels_sound (λ n. SpellsBinary types n room) binary_make operator (joins types room) (widens types room) n unary
    (λ ts a rest h. let took = sound ts a rest h in (took.0, took.1, g.of_unary took.2))

-- ---- conditionals

-- both arms, with the colon between them
record Arms (types : Names) (room : ℕ) (ts : List Token) (a b : e.Expr) (rest : List Token) : Type 0 where
  less : ℕ
  one : room ≡ suc less
  line : ℕ
  first : List Token
  second : List Token
  then_arm : SpellsExpr types less first a
  else_arm : SpellsCond types less second b
  all : ts ≡ (first ++ punct p.Colon line ∷ second) ++ rest

arms_sound : (types : Names) (room : ℕ) (within : Inside) → InsideSound types room within → (ts : List Token) (x : e.Expr × e.Expr) (rest : List Token) → arms within ts ≡ Some (x, rest) → Arms types room ts x.0 x.1 rest
unfolding arms
arms_sound types room within sound ts x rest h =
    let b = bind_ok (enclosed p.Colon within ts) (λ b. within.cond b.1 >>= λ c. Some ((b.0, c.0), c.1)) (x, rest) h in
    let c = bind_ok (within.cond b.0.1) (λ c. Some ((b.0.0, c.0), c.1)) (x, rest) b.2 in
    let first = enclosed_sound types room p.Colon within sound ts b.0.0 b.0.1 b.1 in
    let second = sound.cond b.0.1 c.0.0 c.0.1 c.1 in
    let inner = first.2.2 in
    let colon = punct p.Colon inner.line in
    let less : first.0 ≡ second.0 = same_less room second.0 first.0 second.1 first.1 in
    let read : e.Expr × e.Expr = (b.0.0, c.0.0) in
    let same = pair_is read x c.0.1 rest c.2 in
    record {
      less = second.0;
      one = second.1;
      line = inner.line;
      first = inner.inside;
      second = second.2.0;
      then_arm = subst (λ (x : e.Expr × e.Expr). SpellsExpr types second.0 inner.inside x.0) same.0 (subst (λ less. SpellsExpr types less inner.inside b.0.0) less inner.spelled);
      else_arm = subst (λ (x : e.Expr × e.Expr). SpellsCond types second.0 second.2.0 x.1) same.0 second.2.2;
      all =
          first.2.1 ∙ ap (λ l. l ++ b.0.1) inner.all ∙ append_assoc inner.inside (colon ∷ []) b.0.1
          ∙ ap (λ l. inner.inside ++ colon ∷ l) (second.2.1 ∙ ap (λ l. second.2.0 ++ l) same.1)
          ∙ sym (append_assoc inner.inside (colon ∷ second.2.0) rest);
    }

chosen_sound : (types : Names) (room : ℕ) (within : Inside) → InsideSound types room within → (a : e.Expr) (test ts : List Token) → SpellsBinary types loosest room test a
    → (b : e.Expr) (rest : List Token) → chosen within (punct_at p.Question ts) a ts ≡ Some (b, rest) → (xs : List Token) × (ts ≡ xs ++ rest) × SpellsCond types room (test ++ xs) b
chosen_sound types room within sound a test ts s b rest h =
    elim (punct_at p.Question ts) as (λ o. punct_at p.Question ts ≡ o → chosen within o a ts ≡ Some (b, rest) → (xs : List Token) × (ts ≡ xs ++ rest) × SpellsCond types room (test ++ xs) b) [
      | None ↦ (λ none h.
          let same = pair_is a b ts rest h in
          ([], same.1, subst (SpellsCond types room (test ++ [])) same.0 (subst (λ l. SpellsCond types room l a) (sym (append-nil test)) (g.of_binary s))))
      | Some q ↦ (λ some h.
          let x = bind_ok (arms within q.1) (λ b. Some (e.cond q.0 a b.0.0 b.0.1, b.1)) (b, rest) h in
          let y = arms_sound types room within sound q.1 x.0.0 x.0.1 x.1 in
          let same = pair_is (e.cond q.0 a x.0.0.0 x.0.0.1) b x.0.1 rest x.2 in
          let tok = punct p.Question q.0 in
          let more = y.first ++ punct p.Colon y.line ∷ y.second in (
            tok ∷ more,
            punct_is p.Question ts q.0 q.1 some ∙ ap (λ l. tok ∷ l) (y.all ∙ ap (λ l. more ++ l) same.1),
            subst (SpellsCond types room (test ++ tok ∷ more)) same.0
                (subst (λ room. SpellsCond types room (test ++ tok ∷ more) (e.cond q.0 a x.0.0.0 x.0.0.1)) (sym y.one)
                (g.cond y.line (subst (λ room. SpellsBinary types loosest room test a) y.one s) y.then_arm y.else_arm refl)),
          ))
    ]
    refl h

-- a conditional begins with its test
pub cond_over_is : (types : Names) (within : Inside) (ts : List Token)
    → cond_over types within ts ≡ (binary loosest (unary_over types within) ts >>= λ b. chosen within (punct_at p.Question b.1) b.0 b.1)
unfolding cond_over cond_from
cond_over_is types within ts =
    let unary = unary_over types within in
    sym (ap (λ o. o >>= λ b. chosen within (punct_at p.Question b.1) b.0 b.1) (binary_is loosest unary ts)
    ∙ bind_bind (unary ts) (λ a. binary_from loosest unary a.0 a.1) (λ b. chosen within (punct_at p.Question b.1) b.0 b.1))

cond_over_sound : (types : Names) (room : ℕ) (within : Inside) → InsideSound types room within → Sound (SpellsCond types room) (cond_over types within)
cond_over_sound types room within sound ts a rest h =
    let x = bind_ok (binary loosest (unary_over types within) ts) (λ b. chosen within (punct_at p.Question b.1) b.0 b.1) (a, rest) (sym (cond_over_is types within ts) ∙ h) in
    let test = binary_sound types room loosest (unary_over types within) (unary_sound types room within sound) ts x.0.0 x.0.1 x.1 in
    let more = chosen_sound types room within sound x.0.0 test.0 x.0.1 test.2 a rest x.2 in
    (test.0 ++ more.0, test.1 ∙ ap (λ l. test.0 ++ l) more.1 ∙ sym (append_assoc test.0 more.0 rest), more.2)

-- ---- assignments

assigns_sound : (types : Names) (room : ℕ) (within : Inside) → InsideSound types room within → (turns : ℕ)
    → Sound (SpellsExpr types room) (assigns (unary_over types within) (cond_from within (unary_over types within)) turns)
unfolding assigns cond_over
assigns_sound types room within sound zero ts a rest h = absurd cc
assigns_sound types room within sound (suc turns) ts a rest h =
    let unary = unary_over types within in
    let finish = cond_from within unary in
    let x = bind_ok (unary ts) (λ a. assigned (assign_at a.1) a.0 a.1 finish (assigns unary finish turns)) (a, rest) h in
    elim (assign_at x.0.1) as (λ o. assign_at x.0.1 ≡ o → assigned o x.0.0 x.0.1 finish (assigns unary finish turns) ≡ Some (a, rest) → Took (SpellsExpr types room) ts a rest) [
      | None ↦ (λ none h.
          let took = cond_over_sound types room within sound ts a rest (ap (λ o. o >>= λ a. finish a.0 a.1) x.1 ∙ h) in
          (took.0, took.1, g.of_cond took.2))
      | Some y ↦ (λ some h.
          let f = assign_found x.0.1 y.0.0 y.0.1 y.1 some in
          let z = bind_ok (assigns unary finish turns y.1) (λ b. Some (e.assign y.0.1 y.0.0 x.0.0 b.0, b.1)) (a, rest) h in
          let place = unary_sound types room within sound ts x.0.0 x.0.1 x.1 in
          let value = assigns_sound types room within sound turns y.1 z.0.0 z.0.1 z.1 in
          let tok = punct f.q y.0.1 in
          took_same (SpellsExpr types room) ts (e.assign y.0.1 y.0.0 x.0.0 z.0.0) a z.0.1 rest z.2 (
            place.0 ++ tok ∷ value.0,
            place.1 ∙ ap (λ l. place.0 ++ l) (f.front ∙ ap (λ l. tok ∷ l) value.1) ∙ sym (append_assoc place.0 (tok ∷ value.0) z.0.1),
            g.assign f.q f.says place.2 value.2 refl,
          ))
    ]
    refl x.2

expr_over_sound : (types : Names) (room : ℕ) (within : Inside) → InsideSound types room within → Sound (SpellsExpr types room) (expr_over types within)
unfolding expr_over
expr_over_sound types room within sound ts a rest h = assigns_sound types room within sound (length ts) ts a rest h

-- ---- with so many more forms open

closed_inside : (types : Names) (room : ℕ) → InsideSound types room closed
closed_inside types room = record {
  unary = λ ts a rest h. absurd cc;
  cond = λ ts a rest h. absurd cc;
  expr = λ ts a rest h. absurd cc;
  args = λ ts a rest h. absurd cc;
  type_name = λ ts a rest h. absurd cc;
}

over_inside : (types : Names) (room : ℕ) (within : Inside) → InsideSound types room within → InsideSound types (suc room) (over types within)
over_inside types room within sound = record {
  unary = λ ts a rest h. (room, refl, unary_sound types room within sound ts a rest h);
  cond = λ ts a rest h. (room, refl, cond_over_sound types room within sound ts a rest h);
  expr = λ ts a rest h. (room, refl, expr_over_sound types room within sound ts a rest h);
  args = λ ts a rest h. (room, refl, args_sound types room (expr_over types within) (expr_over_sound types room within sound) ts a rest h);
  type_name = λ ts a rest h. (room, refl, type_name_sound types ts a rest h);
}

-- the readers at one room more are sound inside
forms_inside : (types : Names) (room : ℕ) → InsideSound types (suc room) (forms types room)
unfolding forms
forms_inside types zero = over_inside types zero closed (closed_inside types zero)
forms_inside types (suc room) = over_inside types (suc room) (forms types room) (forms_inside types room)

pub expr_sound : (types : Names) (room : ℕ) → Sound (SpellsExpr types room) (forms types room).expr
expr_sound types room ts a rest h =
    let x = (forms_inside types room).expr ts a rest h in
    let same : x.0 ≡ room = omega (arith, x.1) in
    subst (λ less. Took (SpellsExpr types less) ts a rest) same x.2

pub cond_sound : (types : Names) (room : ℕ) → Sound (SpellsCond types room) (forms types room).cond
cond_sound types room ts a rest h =
    let x = (forms_inside types room).cond ts a rest h in
    let same : x.0 ≡ room = omega (arith, x.1) in
    subst (λ less. Took (SpellsCond types less) ts a rest) same x.2
