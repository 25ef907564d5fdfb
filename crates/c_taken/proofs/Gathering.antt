-- Names gathered with a list of what is still to be looked at.
use Rattle.std.proofs.Common.{◌≡◌, ℕ, ◌+◌, ◌<◌, List, [], ◌∷◌, ◌++◌, map, refl, sym, ap, ◌∙◌, append-nil, append_assoc, arith}
use Rattle.std.specs.Option.{option_to_list}
use Rattle.std.specs.Borrow.{Bor}
use Rattle.std.proofs.lemmas.List.{map-append}
use Rattle.c_syntax.specs.declared.expr.Expr.{Expr}
use Rattle.c_syntax.specs.declared.annot.Term.{Term}
use Rattle.c_syntax.specs.View.{view_expr, view_term}
use Rattle.c_syntax.specs.Expr as e
use Rattle.c_syntax.specs.Term as t
use Rattle.c_taken.specs.Addressed.{Names, last_first, addressed, all_addressed, type_addressed, term_addressed, terms_addressed}
use Rattle.c_taken.specs.Pieces.{pointed, exprs_in, terms_in, lengths, own, parts, term_own, term_parts}

-- ---- lists, the last item first

pub last_first-append : {X : Type 0} (f : X → Names) (xs ys : List X) → last_first f (xs ++ ys) ≡ last_first f ys ++ last_first f xs
last_first-append f [] ys = sym (append-nil (last_first f ys))
last_first-append f (x ∷ xs) ys = ap (λ ns. ns ++ f x) (last_first-append f xs ys) ∙ append_assoc (last_first f ys) (last_first f xs) (f x)

-- an item was taken from the end, and what it holds put there
turned : {X : Type 0} (f own : X → Names) (parts : X → List X) → ((a : X) → f a ≡ own a ++ last_first f (parts a)) → (names : Names) (xs : List X) (a : X)
    → (names ++ own a) ++ last_first f (xs ++ parts a) ≡ names ++ last_first f (xs ++ a ∷ [])
turned f own parts is names xs a =
    ap (λ ns. (names ++ own a) ++ ns) (last_first-append f xs (parts a)) ∙ append_assoc names (own a) (last_first f (parts a) ++ last_first f xs)
    ∙ ap (λ ns. names ++ ns) (sym (append_assoc (own a) (last_first f (parts a)) (last_first f xs)) ∙ ap (λ ns. ns ++ last_first f xs) (sym (is a)) ∙ sym (last_first-append f xs (a ∷ [])))

-- ---- expressions

list_addressed : (args : e.Exprs) → all_addressed args ≡ last_first addressed (e.list_of args)
list_addressed e.stop = refl
list_addressed (e.more a rest) = ap (λ ns. ns ++ addressed a) (list_addressed rest)

pub type_is : (c : e.CType) → last_first addressed (lengths c) ≡ type_addressed c
type_is e.void = refl
type_is (e.kind k) = refl
type_is e.integer = refl
type_is (e.struct_of x) = refl
type_is (e.enum_of x) = refl
type_is (e.named x) = refl
type_is (e.pointer to) = type_is to
type_is (e.array of length) = ap (λ ns. ns ++ addressed length) (type_is of)
type_is (e.constant of) = type_is of

addressed_is : (a : e.Expr) → addressed a ≡ option_to_list (own a) ++ last_first addressed (parts a)
unfolding own parts
addressed_is (e.number line token) = refl
addressed_is (e.char line z) = refl
addressed_is (e.name line x) = refl
addressed_is (e.unary line o a) = refl
addressed_is (e.binary line o a b) = refl
addressed_is (e.cond line test a b) = refl
addressed_is (e.assign line o a b) = refl
addressed_is (e.step line up prefix a) = refl
addressed_is (e.call line f args) = list_addressed args
addressed_is (e.index line a b) = refl
addressed_is (e.field line a f arrow) = refl
addressed_is (e.cast line type a) = ap (λ ns. ns ++ addressed a) (sym (type_is type))
addressed_is (e.sizeof line type) = sym (type_is type)

-- how many nodes are in an expression
abbrev mutual
  pub weight : e.Expr → ℕ
  weight (e.number line token) = 1
  weight (e.char line z) = 1
  weight (e.name line x) = 1
  weight (e.unary line o a) = 1 + weight a
  weight (e.binary line o a b) = 1 + (weight a + weight b)
  weight (e.cond line test a b) = 1 + (weight test + (weight a + weight b))
  weight (e.assign line o a b) = 1 + (weight a + weight b)
  weight (e.step line up prefix a) = 1 + weight a
  weight (e.call line f args) = 1 + all_weigh args
  weight (e.index line a b) = 1 + (weight a + weight b)
  weight (e.field line a f arrow) = 1 + weight a
  weight (e.cast line type a) = 1 + (weight a + type_weight type)
  weight (e.sizeof line type) = 1 + type_weight type

  pub all_weigh : e.Exprs → ℕ
  all_weigh e.stop = 0
  all_weigh (e.more a rest) = weight a + all_weigh rest

  pub type_weight : e.CType → ℕ
  type_weight (e.pointer to) = type_weight to
  type_weight (e.array of length) = weight length + type_weight of
  type_weight (e.constant of) = type_weight of
  type_weight e.void = 0
  type_weight (e.kind k) = 0
  type_weight e.integer = 0
  type_weight (e.struct_of x) = 0
  type_weight (e.enum_of x) = 0
  type_weight (e.named x) = 0

abbrev pub total : {X : Type 0} → (X → ℕ) → List X → ℕ
total w [] = 0
total w (x ∷ xs) = w x + total w xs

pub total-append : {X : Type 0} (w : X → ℕ) (xs ys : List X) → total w (xs ++ ys) ≡ total w xs + total w ys
total-append w [] ys = omega arith
total-append w (x ∷ xs) ys = omega (arith, total-append w xs ys)

list_weighs : (args : e.Exprs) → total weight (e.list_of args) ≡ all_weigh args
list_weighs e.stop = refl
list_weighs (e.more a rest) = ap (λ n. weight a + n) (list_weighs rest)

lengths_weigh : (c : e.CType) → total weight (lengths c) ≡ type_weight c
lengths_weigh e.void = refl
lengths_weigh (e.kind k) = refl
lengths_weigh e.integer = refl
lengths_weigh (e.struct_of x) = refl
lengths_weigh (e.enum_of x) = refl
lengths_weigh (e.named x) = refl
lengths_weigh (e.pointer to) = lengths_weigh to
lengths_weigh (e.array of length) = ap (λ n. weight length + n) (lengths_weigh of)
lengths_weigh (e.constant of) = lengths_weigh of

parts_weigh : (a : e.Expr) → total weight (parts a) < weight a
unfolding parts
parts_weigh (e.number line token) = omega arith
parts_weigh (e.char line z) = omega arith
parts_weigh (e.name line x) = omega arith
parts_weigh (e.unary line o a) = omega arith
parts_weigh (e.binary line o a b) = omega arith
parts_weigh (e.cond line test a b) = omega arith
parts_weigh (e.assign line o a b) = omega arith
parts_weigh (e.step line up prefix a) = omega arith
parts_weigh (e.call line f args) = omega (arith, list_weighs args)
parts_weigh (e.index line a b) = omega arith
parts_weigh (e.field line a f arrow) = omega arith
parts_weigh (e.cast line type a) = omega (arith, lengths_weigh type)
parts_weigh (e.sizeof line type) = omega (arith, lengths_weigh type)

-- fewer nodes are left where one gave place to its parts
lighter : {X : Type 0} (w : X → ℕ) (xs ys : List X) (a : X) → total w ys < w a → total w (xs ++ ys) < total w (xs ++ a ∷ [])
lighter w xs ys a less = omega (arith, total-append w xs ys, total-append w xs (a ∷ []))

abbrev pub expr_weight : List (Bor Expr) → ℕ
expr_weight l = total weight (exprs_in l)

last_expr : (l l' : List (Bor Expr)) (a : Bor Expr) → l ≡ l' ++ a ∷ [] → exprs_in l ≡ exprs_in l' ++ view_expr a.now ∷ []
last_expr l l' a is = ap exprs_in is ∙ ap (map view_expr) (map-append _ l' (a ∷ [])) ∙ map-append view_expr (pointed l') (a.now ∷ [])

-- one turn: an expression was taken off, its name noted and what it holds put there
module _ (l l' l'' : List (Bor Expr)) (a : Bor Expr) where
  pub expr_turn : (names names' whole : Names) → l ≡ l' ++ a ∷ [] → names' ≡ names ++ option_to_list (own (view_expr a.now)) → exprs_in l'' ≡ exprs_in l' ++ parts (view_expr a.now)
      → names ++ last_first addressed (exprs_in l) ≡ whole → names' ++ last_first addressed (exprs_in l'') ≡ whole
  expr_turn names names' whole taken noted put sofar =
      (λ i. noted i ++ last_first addressed (put i)) ∙ turned addressed (λ b. option_to_list (own b)) parts addressed_is names (exprs_in l') (view_expr a.now)
      ∙ ap (λ xs. names ++ last_first addressed xs) (sym (last_expr l l' a taken)) ∙ sofar

  pub expr_lighter : l ≡ l' ++ a ∷ [] → exprs_in l'' ≡ exprs_in l' ++ parts (view_expr a.now) → expr_weight l'' < expr_weight l
  expr_lighter taken put =
      let less = lighter weight (exprs_in l') (parts (view_expr a.now)) (view_expr a.now) (parts_weigh (view_expr a.now)) in
      omega (arith, less, ap (total weight) put, ap (total weight) (last_expr l l' a taken))

pub ruleset expr_turns = (expr_turn, expr_lighter)

-- ---- terms

terms_listed : (args : t.Terms) → terms_addressed args ≡ last_first term_addressed (t.list_of args)
terms_listed t.stop = refl
terms_listed (t.more a rest) = ap (λ ns. ns ++ term_addressed a) (terms_listed rest)

term_is : (a : t.Term) → term_addressed a ≡ term_own a ++ last_first term_addressed (term_parts a)
unfolding term_own term_parts
term_is (t.number line token) = refl
term_is (t.char line z) = refl
term_is (t.name line x) = refl
term_is (t.unary line o a) = refl
term_is (t.binary line o a b) = refl
term_is (t.cond line test a b) = refl
term_is (t.call line f args) = terms_listed args
term_is (t.index line a b) = refl
term_is (t.field line a f arrow) = refl
term_is (t.cast line type a) = refl
term_is (t.result line) = refl
term_is (t.old line a) = refl
term_is (t.at_label line a label) = refl
term_is (t.null line) = refl
term_is (t.range line a b) = refl

abbrev mutual
  pub term_weighs : t.Term → ℕ
  term_weighs (t.number line token) = 1
  term_weighs (t.char line z) = 1
  term_weighs (t.name line x) = 1
  term_weighs (t.unary line o a) = 1 + term_weighs a
  term_weighs (t.binary line o a b) = 1 + (term_weighs a + term_weighs b)
  term_weighs (t.cond line test a b) = 1 + (term_weighs test + (term_weighs a + term_weighs b))
  term_weighs (t.call line f args) = 1 + terms_weigh args
  term_weighs (t.index line a b) = 1 + (term_weighs a + term_weighs b)
  term_weighs (t.field line a f arrow) = 1 + term_weighs a
  term_weighs (t.cast line type a) = 1 + term_weighs a
  term_weighs (t.result line) = 1
  term_weighs (t.old line a) = 1 + term_weighs a
  term_weighs (t.at_label line a label) = 1 + term_weighs a
  term_weighs (t.null line) = 1
  term_weighs (t.range line a b) = 1 + (term_weighs a + term_weighs b)

  pub terms_weigh : t.Terms → ℕ
  terms_weigh t.stop = 0
  terms_weigh (t.more a rest) = term_weighs a + terms_weigh rest

terms_weighed : (args : t.Terms) → total term_weighs (t.list_of args) ≡ terms_weigh args
terms_weighed t.stop = refl
terms_weighed (t.more a rest) = ap (λ n. term_weighs a + n) (terms_weighed rest)

term_parts_weigh : (a : t.Term) → total term_weighs (term_parts a) < term_weighs a
unfolding term_parts
term_parts_weigh (t.number line token) = omega arith
term_parts_weigh (t.char line z) = omega arith
term_parts_weigh (t.name line x) = omega arith
term_parts_weigh (t.unary line o a) = omega arith
term_parts_weigh (t.binary line o a b) = omega arith
term_parts_weigh (t.cond line test a b) = omega arith
term_parts_weigh (t.call line f args) = omega (arith, terms_weighed args)
term_parts_weigh (t.index line a b) = omega arith
term_parts_weigh (t.field line a f arrow) = omega arith
term_parts_weigh (t.cast line type a) = omega arith
term_parts_weigh (t.result line) = omega arith
term_parts_weigh (t.old line a) = omega arith
term_parts_weigh (t.at_label line a label) = omega arith
term_parts_weigh (t.null line) = omega arith
term_parts_weigh (t.range line a b) = omega arith

abbrev pub term_weight : List (Bor Term) → ℕ
term_weight l = total term_weighs (terms_in l)

last_term : (l l' : List (Bor Term)) (a : Bor Term) → l ≡ l' ++ a ∷ [] → terms_in l ≡ terms_in l' ++ view_term a.now ∷ []
last_term l l' a is = ap terms_in is ∙ ap (map view_term) (map-append _ l' (a ∷ [])) ∙ map-append view_term (pointed l') (a.now ∷ [])

module _ (l l' l'' : List (Bor Term)) (a : Bor Term) where
  pub term_turn : (names names' whole : Names) → l ≡ l' ++ a ∷ [] → names' ≡ names ++ term_own (view_term a.now) → terms_in l'' ≡ terms_in l' ++ term_parts (view_term a.now)
      → names ++ last_first term_addressed (terms_in l) ≡ whole → names' ++ last_first term_addressed (terms_in l'') ≡ whole
  term_turn names names' whole taken noted put sofar =
      (λ i. noted i ++ last_first term_addressed (put i)) ∙ turned term_addressed term_own term_parts term_is names (terms_in l') (view_term a.now)
      ∙ ap (λ xs. names ++ last_first term_addressed xs) (sym (last_term l l' a taken)) ∙ sofar

  pub term_lighter : l ≡ l' ++ a ∷ [] → terms_in l'' ≡ terms_in l' ++ term_parts (view_term a.now) → term_weight l'' < term_weight l
  term_lighter taken put =
      let less = lighter term_weighs (terms_in l') (term_parts (view_term a.now)) (view_term a.now) (term_parts_weigh (view_term a.now)) in
      omega (arith, less, ap (total term_weighs) put, ap (total term_weighs) (last_term l l' a taken))

pub ruleset term_turns = (term_turn, term_lighter)
