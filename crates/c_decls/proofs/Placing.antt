-- Variables and their places.
use Rattle.std.proofs.Common.{◌≡◌, ℕ, zero, suc, ◌+◌, ◌<◌, Bool, true, false, not, ◌&&◌, List, [], ◌∷◌, ◌++◌, length, Option, Some, None, is_some, is_none, Ok, refl, sym, ap, subst, ◌∙◌, if◌then◌else◌, arith, ◌⊎◌, inl, inr, true≢false, length-append, length-set}
use Rattle.std.specs.Prelude.{slice_get, slice_set}
use Rattle.std.specs.Str.{bytes_eq}
use Rattle.c_syntax.specs.Expr as e
use Rattle.c_syntax.specs.Lines.{line_of}
use Rattle.name_table.specs.Names.{Names, meaning_of, is_free}
use Rattle.name_table.proofs.Declaring.{declares}
use Rattle.c_answers.specs.Answers.{after, unknown, wrong}
use Rattle.typed_prog.specs.declared.operators.Variable.TheVariants as variable_of
use Rattle.typed_prog.specs.declared.types.CoreType.{CoreType}
use Rattle.typed_prog.specs.Tree as t
use Rattle.c_contexts.specs.Contexts.{initialiser}
use Rattle.c_scopes.specs.declared.symbols.Symbol.{Symbol}
use Rattle.c_scopes.specs.declared.symbols.Symbol.TheVariants as symbol
use Rattle.c_scopes.specs.declared.symbols.Resolved.{Resolved}
use Rattle.c_scopes.specs.Declarations.{more_if}
use Rattle.c_variables.specs.declared.context.Context.{Context}
use Rattle.c_variables.specs.Contexts.{around_of, plain_in}
use Rattle.c_variables.specs.Variables.{variable, object_with}
use Rattle.c_decls.specs.declared.globals.Earlier.{Earlier}
use Rattle.c_decls.specs.declared.globals.Earlier.TheVariants as earlier
use Rattle.c_decls.specs.Each.{each}
use Rattle.c_decls.specs.Constants.{is_constant}
use Rattle.c_decls.specs.Globals.{Inits, earlier_by, earlier_of, may_declare, is_same_object, has_value, agrees, agreed, held_type, global_type, place_by, place_of, is_new, is_plain_global, with_global, with_place, as_constant, initial_value, initialised, global}
use Rattle.c_decls.specs.Laws.{IsVariable, HasPlaces, AllConstant, HasValue, VariablesAreThere, VariablesHavePlaces}
use Rattle.c_decls.proofs.Turns.{after_gives, ok_is}
use Rattle.c_decls.proofs.Keeping.{stays}
use Rattle.c_decls.proofs.Declaring.{variable_free}
use Rattle.c_decls.proofs.Once.{globals_keep}

-- ---- lists

length_more : {X : Type 0} (xs : List X) (x : X) → length (xs ++ x ∷ []) ≡ length xs + 1
length_more xs x = length-append xs (x ∷ [])

last_there : {X : Type 0} (xs : List X) (x : X) → slice_get (xs ++ x ∷ []) (length xs) ≡ Some x
last_there [] x = refl
last_there (y ∷ xs) x = last_there xs x

older_there : {X : Type 0} (xs : List X) (x : X) (n : ℕ) (y : X) → slice_get xs n ≡ Some y → slice_get (xs ++ x ∷ []) n ≡ Some y
older_there [] x n y h = absurd cc
older_there (z ∷ xs) x zero y h = h
older_there (z ∷ xs) x (suc n) y h = older_there xs x n y h

older_if : {X : Type 0} (b : Bool) (xs : List X) (x : X) (n : ℕ) (y : X) → slice_get xs n ≡ Some y → slice_get (more_if b xs x) n ≡ Some y
older_if true xs x n y h = older_there xs x n y h
older_if false xs x n y h = h

set_there : {X : Type 0} (xs : List X) (n : ℕ) (x : X) → n < length xs → slice_get (slice_set xs n x) n ≡ Some x
set_there [] n x within = absurd (omega (arith, within))
set_there (y ∷ xs) zero x within = refl
set_there (y ∷ xs) (suc n) x within = set_there xs n x (omega (arith, within))

-- a value that is there stays where another place is set, which had none
set_other : (inits : Inits) (n m : ℕ) (init : Option t.Value) (v : t.Value) → has_value (slice_get inits n) ≡ false → slice_get inits m ≡ Some (Some v) → slice_get (slice_set inits n init) m ≡ Some (Some v)
set_other [] n m init v none there = absurd cc
set_other (i ∷ inits) zero zero init v none there = absurd (true≢false (sym (ap has_value there) ∙ none))
set_other (i ∷ inits) zero (suc m) init v none there = there
set_other (i ∷ inits) (suc n) zero init v none there = there
set_other (i ∷ inits) (suc n) (suc m) init v none there = set_other inits n m init v none there

constant_set : (inits : Inits) (n : ℕ) (v : t.Value) → is_constant v ≡ true → AllConstant inits → AllConstant (slice_set inits n (Some v))
constant_set [] n v is all = tt
constant_set (i ∷ inits) zero v is all = (is, all.1)
constant_set (i ∷ inits) (suc n) v is all = (all.0, constant_set inits n v is all.1)

constant_if : (b : Bool) (inits : Inits) → AllConstant inits → AllConstant (more_if b inits None)
constant_if true [] all = (tt, tt)
constant_if true (i ∷ inits) all = (all.0, constant_if true inits all.1)
constant_if false inits all = all

-- ---- names

last_or : {V : Type 0} (ds : Names V) (y : List ℕ) (v : V) (x : List ℕ) (w : V) → meaning_of (ds ++ (y, v) ∷ []) x ≡ Some w → (meaning_of ds x ≡ Some w) ⊎ (v ≡ w)
last_or {V} [] y v x w h = by (bytes_eq x y) None h
  where
    by : (b : Bool) (o : Option V) → (if b then Some v else o) ≡ Some w → (o ≡ Some w) ⊎ (v ≡ w)
    by true o h = inr cc
    by false o h = inl h
last_or {V} (d ∷ ds) y v x w h = by (bytes_eq x d.0) h (last_or ds y v x w)
  where
    by : (b : Bool) → (if b then Some d.1 else meaning_of (ds ++ (y, v) ∷ []) x) ≡ Some w → (meaning_of (ds ++ (y, v) ∷ []) x ≡ Some w → (meaning_of ds x ≡ Some w) ⊎ (v ≡ w))
        → ((if b then Some d.1 else meaning_of ds x) ≡ Some w) ⊎ (v ≡ w)
    by true h rest = inl h
    by false h rest = rest h

earlier_nothing : (o : Option Symbol) → earlier_by o ≡ earlier.Nothing → is_none o ≡ true
earlier_nothing None h = refl
earlier_nothing (Some (symbol.Object (variable_of.Global n))) h = absurd cc
earlier_nothing (Some (symbol.Object (variable_of.Local n))) h = absurd cc
earlier_nothing (Some (symbol.Function n)) h = absurd cc
earlier_nothing (Some (symbol.Enumerator z)) h = absurd cc
earlier_nothing (Some (symbol.Typedef n)) h = absurd cc

earlier_global : (o : Option Symbol) (m : ℕ) → earlier_by o ≡ earlier.Global m → o ≡ Some (symbol.Object (variable_of.Global m))
earlier_global None m h = absurd cc
earlier_global (Some (symbol.Object (variable_of.Global n))) m h = let same : n ≡ m = cc in ap (λ n. Some (symbol.Object (variable_of.Global n))) same
earlier_global (Some (symbol.Object (variable_of.Local n))) m h = absurd cc
earlier_global (Some (symbol.Function n)) m h = absurd cc
earlier_global (Some (symbol.Enumerator z)) m h = absurd cc
earlier_global (Some (symbol.Typedef n)) m h = absurd cc

-- ---- one variable more

same_number : (m n : ℕ) → symbol.Object (variable_of.Global m) ≡ symbol.Object (variable_of.Global n) → m ≡ n
same_number m n h = cc

places_with : (taken : Names Bool) (c : Context) (inits : Inits) (d : e.VarDecl) (type : Resolved) (b : Bool) → is_new c d.name ≡ b → HasPlaces c inits → HasPlaces (with_global taken c d type) (with_place c inits d)
places_with taken c inits d type true new h = record {
  flags =
      let f = ap (λ b. length (more_if b c.globals (is_plain_global taken d type.ty))) new ∙ length_more c.globals (is_plain_global taken d type.ty) in
      f ∙ ap (λ n. n + 1) h.flags ∙ sym more;
  places = ap (λ b. length (more_if b inits None)) new ∙ length_more inits None ∙ ap (λ n. n + 1) h.places ∙ sym more;
  numbers = λ x n is. numbered x n (last_or c.scope.file.names d.name (symbol.Object (variable_of.Global (length c.scope.file.globals))) x (symbol.Object (variable_of.Global n)) (now x n is));
}
  where
    more : length (more_if (is_new c d.name) c.scope.file.globals (object_with d type)) ≡ length c.scope.file.globals + 1
    more = ap (λ b. length (more_if b c.scope.file.globals (object_with d type))) new ∙ length_more c.scope.file.globals (object_with d type)

    now : (x : List ℕ) (n : ℕ) → IsVariable (with_global taken c d type) x n
        → meaning_of (c.scope.file.names ++ (d.name, symbol.Object (variable_of.Global (length c.scope.file.globals))) ∷ []) x ≡ Some (symbol.Object (variable_of.Global n))
    now x n is =
        sym (ap (λ b. meaning_of (if b then c.scope.file.names ++ (d.name, symbol.Object (variable_of.Global (length c.scope.file.globals))) ∷ [] else c.scope.file.names) x) new) ∙ is

    numbered : (x : List ℕ) (n : ℕ) → (IsVariable c x n) ⊎ (symbol.Object (variable_of.Global (length c.scope.file.globals)) ≡ symbol.Object (variable_of.Global n))
        → n < length (more_if (is_new c d.name) c.scope.file.globals (object_with d type))
    numbered x n (inl is) = let k = h.numbers x n is in omega (arith, k, more)
    numbered x n (inr is) = let k = same_number (length c.scope.file.globals) n is in omega (arith, k, more)
places_with taken c inits d type false old h = record {
  flags = ap (λ b. length (more_if b c.globals (is_plain_global taken d type.ty))) old ∙ h.flags ∙ sym same;
  places = ap (λ b. length (more_if b inits None)) old ∙ h.places ∙ sym same;
  numbers = λ x n is. subst (λ k. n < k) (sym same) (h.numbers x n (now x n is));
}
  where
    same : length (more_if (is_new c d.name) c.scope.file.globals (object_with d type)) ≡ length c.scope.file.globals
    same = ap (λ b. length (more_if b c.scope.file.globals (object_with d type))) old

    now : (x : List ℕ) (n : ℕ) → IsVariable (with_global taken c d type) x n → IsVariable c x n
    now x n is =
        sym (ap (λ b. meaning_of (if b then c.scope.file.names ++ (d.name, symbol.Object (variable_of.Global (length c.scope.file.globals))) ∷ [] else c.scope.file.names) x) old) ∙ is

-- What is so of the variable once it is declared: its number, and that it has no value yet where one is given to it.
record Numbered (taken : Names Bool) (c : Context) (inits : Inits) (d : e.VarDecl) (type : Resolved) : Type 0 where
  number : IsVariable (with_global taken c d type) d.name (place_of c d.name)
  unset : HasPlaces c inits → is_some d.init ≡ true → has_value (slice_get (with_place c inits d) (place_of c d.name)) ≡ false

not_set : (s b w : Bool) → w ≡ true → (s && not (w && b)) ≡ true → b ≡ false
not_set true true true w h = absurd cc
not_set true false true w h = refl
not_set false b true w h = absurd cc
not_set s b false w h = absurd cc

numbered_by : (taken : Names Bool) (c : Context) (inits : Inits) (d : e.VarDecl) (type u : Resolved) (which : Earlier) → earlier_of c d.name ≡ which → may_declare which ≡ true
    → agrees c inits (is_some d.init) u which ≡ true → Numbered taken c inits d type
numbered_by taken c inits d type u earlier.Nothing is may agrees =
    let free : is_free c.scope.file.names d.name ≡ true = earlier_nothing (meaning_of c.scope.file.names d.name) is in
    let next : place_of c d.name ≡ length c.scope.file.globals = ap (λ (w : Earlier). place_by w (length c.scope.file.globals)) is in
    record {
      number = (declares c.scope.file.names d.name (symbol.Object (variable_of.Global (length c.scope.file.globals)))).new free ∙ ap (λ n. Some (symbol.Object (variable_of.Global n))) (sym next);
      unset = λ h with_init.
          ap (λ n. has_value (slice_get (with_place c inits d) n)) (next ∙ sym h.places)
          ∙ ap (λ b. has_value (slice_get (more_if b inits None) (length inits))) free
          ∙ ap has_value (last_there inits None);
    }
numbered_by taken c inits d type u (earlier.Global m) is may agrees =
    let there : meaning_of c.scope.file.names d.name ≡ Some (symbol.Object (variable_of.Global m)) = earlier_global (meaning_of c.scope.file.names d.name) m is in
    let old : is_new c d.name ≡ false = ap (λ (o : Option Symbol). is_none o) there in
    let same : place_of c d.name ≡ m = ap (λ (w : Earlier). place_by w (length c.scope.file.globals)) is in
    record {
      number = stays c.scope.file.names d.name (symbol.Object (variable_of.Global (length c.scope.file.globals))) d.name (symbol.Object (variable_of.Global m)) there
          ∙ ap (λ n. Some (symbol.Object (variable_of.Global n))) (sym same);
      unset = λ h with_init.
          ap (λ n. has_value (slice_get (with_place c inits d) n)) same
          ∙ ap (λ b. has_value (slice_get (more_if b inits None) m)) old
          ∙ not_set (is_same_object u (slice_get c.scope.file.globals m)) (has_value (slice_get inits m)) (is_some d.init) with_init agrees;
    }
numbered_by taken c inits d type u earlier.Other is may agrees = absurd cc

-- ---- one declarator

agreed_by : (b : Bool) (line : ℕ) (u v : Resolved) → (if b then Ok u else unknown line) ≡ Ok v → b ≡ true
agreed_by true line u v h = refl
agreed_by false line u v h = absurd cc

type_numbered : (taken : Names Bool) (c : Context) (inits : Inits) (d : e.VarDecl) (type : Resolved) → global_type c inits d ≡ Ok type → Numbered taken c inits d type
unfolding global_type
type_numbered taken c inits d type h =
    let a = after_gives (variable (around_of c) (may_declare (earlier_of c d.name)) d.line d.ty) (λ u. after (agreed c inits d (earlier_of c d.name) u) (held_type c d)) type h in
    let b = after_gives (agreed c inits d (earlier_of c d.name) a.0) (held_type c d) type a.2 in
    numbered_by taken c inits d type a.0 (earlier_of c d.name) refl (variable_free (around_of c) (may_declare (earlier_of c d.name)) d.line d.ty a.0 a.1)
    (agreed_by (agrees c inits (is_some d.init) a.0 (earlier_of c d.name)) d.line a.0 b.0 b.1)

constant_by : (b : Bool) (line : ℕ) (v w : t.Value) → is_constant v ≡ b → (if b then Ok v else wrong line) ≡ Ok w → is_constant w ≡ true
constant_by true line v w is h = ap is_constant (sym (ok_is v w h)) ∙ is
constant_by false line v w is h = absurd cc

initial_constant : (c : Context) (type : CoreType) (a : e.Expr) (w : t.Value) → initial_value c type a ≡ Ok w → is_constant w ≡ true
unfolding initial_value
initial_constant c type a w h =
    let k = after_gives (initialiser (around_of c) (plain_in c) type a) (as_constant (line_of a)) w h in
    constant_by (is_constant k.0) (line_of a) k.0 w refl k.2

-- What a declarator does to the places.
record Placed (c : Context) (inits : Inits) (d : e.VarDecl) (next : Context × Inits) : Type 0 where
  places : HasPlaces next.0 next.1
  value : is_some d.init ≡ true → HasValue next.0 next.1 d.name
  once : (n : ℕ) (v : t.Value) → slice_get inits n ≡ Some (Some v) → slice_get next.1 n ≡ Some (Some v)
  constants : AllConstant inits → AllConstant next.1

placed_by : (taken : Names Bool) (c : Context) (inits : Inits) (d : e.VarDecl) (type : Resolved) (init : Option e.Expr) (next : Context × Inits) → HasPlaces c inits → d.init ≡ init → Numbered taken c inits d type
    → initialised (with_global taken c d type) (with_place c inits d) (place_of c d.name) type.ty init ≡ Ok next → Placed c inits d next
placed_by taken c inits d type None next h is numbered made =
    let same : (with_global taken c d type, with_place c inits d) ≡ next = ok_is (with_global taken c d type, with_place c inits d) next made in
    subst (Placed c inits d) same (record {
      places = places_with taken c inits d type (is_new c d.name) refl h;
      value = λ with_init. absurd (true≢false (sym with_init ∙ ap (λ (o : Option e.Expr). is_some o) is));
      once = λ n v there. older_if (is_new c d.name) inits None n (Some v) there;
      constants = constant_if (is_new c d.name) inits;
    })
placed_by taken c inits d type (Some a) next h is numbered made =
    let n = place_of c d.name in
    let there = places_with taken c inits d type (is_new c d.name) refl h in
    let k = after_gives (initial_value (with_global taken c d type) type.ty a) (λ v. Ok (with_global taken c d type, slice_set (with_place c inits d) n (Some v))) next made in
    let same : (with_global taken c d type, slice_set (with_place c inits d) n (Some k.0)) ≡ next = ok_is _ next k.2 in
    let within : n < length (with_place c inits d) = subst (λ m. n < m) (sym there.places) (there.numbers d.name n numbered.number) in
    subst (Placed c inits d) same (record {
      places = record { flags = there.flags; places = length-set (with_place c inits d) n (Some k.0) ∙ there.places; numbers = there.numbers };
      value = λ with_init. (n, numbered.number, (k.0, set_there (with_place c inits d) n (Some k.0) within));
      once = λ m v was. set_other (with_place c inits d) n m (Some k.0) v (numbered.unset h (ap (λ (o : Option e.Expr). is_some o) is)) (older_if (is_new c d.name) inits None m (Some v) was);
      constants = λ all. constant_set (with_place c inits d) n k.0 (initial_constant (with_global taken c d type) type.ty a k.0 k.1) (constant_if (is_new c d.name) inits all);
    })

placed : (taken : Names Bool) (s : Context × Inits) (d : e.VarDecl) (next : Context × Inits) → HasPlaces s.0 s.1 → global taken s d ≡ Ok next → Placed s.0 s.1 d next
unfolding global
placed taken s d next places h =
    let a = after_gives (global_type s.0 s.1 d) (λ u. initialised (with_global taken s.0 d u) (with_place s.0 s.1 d) (place_of s.0 d.name) u.ty d.init) next h in
    placed_by taken s.0 s.1 d a.0 d.init next places refl (type_numbered taken s.0 s.1 d a.0 a.1) a.2

-- ---- all of them

are_there : (taken : Names Bool) (s : Context × Inits) (ds : List e.VarDecl) (last : Context × Inits) → HasPlaces s.0 s.1 → each (global taken) s ds ≡ Ok last → VariablesAreThere s.0 s.1 ds last.0 last.1
are_there taken s [] last places h =
    subst (λ (n : Context × Inits). VariablesAreThere s.0 s.1 [] n.0 n.1) (ok_is s last h) (record { places = places; values = tt; once = λ n v is. is; constants = λ all. all })
are_there taken s (d ∷ ds) last places h =
    let a = after_gives (global taken s d) (λ next. each (global taken) next ds) last h in
    let p = placed taken s d a.0 places a.1 in
    let rest = are_there taken a.0 ds last p.places a.2 in
    let kept = globals_keep taken a.0 ds last a.2 in
    record {
      places = rest.places;
      values = (
        (λ with_init.
            let v = p.value with_init in
            (v.0, kept.names d.name (symbol.Object (variable_of.Global v.0)) v.1, (v.2.0, rest.once v.0 v.2.0 v.2.1))),
        rest.values,
      );
      once = λ n v is. rest.once n v (p.once n v is);
      constants = λ all. rest.constants (p.constants all);
    }

pub variables_have_places : VariablesHavePlaces
variables_have_places taken c c' inits inits' ds places h = are_there taken (c, inits) ds (c', inits') places h
