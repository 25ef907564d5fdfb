-- The numbers of enumerators.
use Rattle.std.proofs.Common.{◌≡◌, ℕ, suc, ℤ, pos, ◌+ℤ◌, Bool, true, false, List, [], ◌∷◌, ◌++◌, length, Option, Some, None, Ok, refl, sym, ap, subst, ◌∙◌, if◌then◌else◌, arith}
use Rattle.std.proofs.lemmas.Int.{ints}
use Rattle.wp_base.specs.declared.kinds.Kind.{Kind}
use Rattle.wp_base.specs.declared.kinds.Kind.TheVariants as kind
use Rattle.c_kinds.specs.declared.models.Machdep.{Machdep}
use Rattle.c_kinds.specs.Models.{holds}
use Rattle.c_syntax.specs.Expr as e
use Rattle.c_syntax.specs.Decl as decl
use Rattle.name_table.specs.Names.{Names, meaning_of, is_free}
use Rattle.c_answers.specs.Answers.{Answer, after, unknown, wrong}
use Rattle.c_exprs.specs.Typing.{Around}
use Rattle.c_contexts.specs.Contexts.{constant_number}
use Rattle.c_scopes.specs.declared.symbols.Symbol.{Symbol}
use Rattle.c_scopes.specs.declared.symbols.Symbol.TheVariants as symbol
use Rattle.c_variables.specs.declared.context.Context.{Context}
use Rattle.c_variables.specs.Contexts.{around_of}
use Rattle.name_table.proofs.Declaring.{declares}
use Rattle.c_decls.specs.declared.enums.Counted.{Counted}
use Rattle.c_decls.specs.Each.{each}
use Rattle.c_decls.specs.Enums.{number_of, as_int, enumerator, none_counted, counted, with_constant, item, items, enum_kind, is_new_tag, with_tag, enum_declared}
use Rattle.c_decls.specs.Laws.{StandsFor, AllBare, IsWritten, CountsUp, NumbersCountUp}
use Rattle.c_decls.proofs.Turns.{after_gives, each_keeps, each_split, ok_is}
use Rattle.c_decls.proofs.Keeping.{stays}

-- ---- what was given

number_by : (b : Bool) (line : ℕ) (y z : ℤ) → (if b then Ok y else wrong line) ≡ Ok z → y ≡ z
number_by true line y z h = cc
number_by false line y z h = absurd cc

pub enumerator_by : (b : Bool) (o : Answer ℤ) (m : Machdep) (line : ℕ) (z : ℤ) → (if b then after o (as_int m line) else unknown line) ≡ Ok z → (b ≡ true) × (o ≡ Ok z)
enumerator_by true o m line z h =
    let a = after_gives o (as_int m line) z h in
    (refl, a.1 ∙ ap (λ y. Ok y) (number_by (holds m kind.Int a.0) line a.0 z a.2))
enumerator_by false o m line z h = absurd cc

pub enumerator_gives : (c : Context) (next : ℤ) (d : e.VarDecl) (z : ℤ) → enumerator c next d ≡ Ok z → (is_free c.scope.file.names d.name ≡ true) × (number_of (around_of c) next d.init ≡ Ok z)
unfolding enumerator
enumerator_gives c next d z h = enumerator_by (is_free c.scope.file.names d.name) (number_of (around_of c) next d.init) c.model d.line z h

pub item_gives : (s : Context × Counted) (d : e.VarDecl) (next : Context × Counted) → item s d ≡ Ok next → (z : ℤ) × (enumerator s.0 s.1.next d ≡ Ok z) × (next ≡ (with_constant s.0 d z, counted s.1 z))
unfolding item
item_gives s d next h =
    let a = after_gives (enumerator s.0 s.1.next d) (λ z. Ok (with_constant s.0 d z, counted s.1 z)) next h in
    (a.0, a.1, sym (ok_is (with_constant s.0 d a.0, counted s.1 a.0) next a.2))

enum_by : (b : Bool) (o : Answer (Context × Counted)) (x : Option (List ℕ)) (line : ℕ) (c' : Context) → (if b then after o (λ s. Ok (with_tag s.0 x (enum_kind s.1.has_negative))) else unknown line) ≡ Ok c'
    → (b ≡ true) × ((s : Context × Counted) × (o ≡ Ok s) × (c' ≡ with_tag s.0 x (enum_kind s.1.has_negative)))
enum_by true o x line c' h =
    let a = after_gives o (λ s. Ok (with_tag s.0 x (enum_kind s.1.has_negative))) c' h in
    (refl, (a.0, a.1, sym (ok_is (with_tag a.0.0 x (enum_kind a.0.1.has_negative)) c' a.2)))
enum_by false o x line c' h = absurd cc

pub enum_gives : (c : Context) (d : decl.EnumDecl) (c' : Context) → enum_declared c d ≡ Ok c'
    → (is_new_tag c.scope.file d.name ≡ true) × ((s : Context × Counted) × (items c d.items ≡ Ok s) × (c' ≡ with_tag s.0 d.name (enum_kind s.1.has_negative)))
unfolding enum_declared
enum_gives c d c' h = enum_by (is_new_tag c.scope.file d.name) (items c d.items) d.name d.line c' h

pub tag_names : (c : Context) (x : Option (List ℕ)) (k : Kind) → (with_tag c x k).scope.file.names ≡ c.scope.file.names
tag_names c None k = refl
tag_names c (Some x) k = refl

-- ---- what an enumerator stands for

pub item_stands : (s : Context × Counted) (d : e.VarDecl) (next : Context × Counted) (z : ℤ) → enumerator s.0 s.1.next d ≡ Ok z → next ≡ (with_constant s.0 d z, counted s.1 z) → StandsFor next.0 d.name z
item_stands s d next z made is =
    let free = (enumerator_gives s.0 s.1.next d z made).0 in
    ap (λ (n : Context × Counted). meaning_of n.0.scope.file.names d.name) is ∙ (declares s.0.scope.file.names d.name (symbol.Enumerator z)).new free

pub item_keeps : (x : List ℕ) (m : Symbol) (s : Context × Counted) (d : e.VarDecl) (next : Context × Counted) → meaning_of s.0.scope.file.names x ≡ Some m → item s d ≡ Ok next → meaning_of next.0.scope.file.names x ≡ Some m
item_keeps x m s d next there h =
    let g = item_gives s d next h in
    ap (λ (n : Context × Counted). meaning_of n.0.scope.file.names x) g.2 ∙ stays s.0.scope.file.names d.name (symbol.Enumerator g.0) x m there

pub items_keep : (x : List ℕ) (m : Symbol) (s : Context × Counted) (ds : List e.VarDecl) (last : Context × Counted) → meaning_of s.0.scope.file.names x ≡ Some m → each item s ds ≡ Ok last → meaning_of last.0.scope.file.names x ≡ Some m
items_keep x m s ds last there h = each_keeps (λ (s : Context × Counted). meaning_of s.0.scope.file.names x ≡ Some m) item (item_keeps x m) s ds last there h

-- an enumerator, and what it stands for behind all that follow it
record Passed (s : Context × Counted) (d : e.VarDecl) (rest : List e.VarDecl) (last : Context × Counted) : Type 0 where
  z : ℤ
  next : Context × Counted
  number : number_of (around_of s.0) s.1.next d.init ≡ Ok z
  one_more : next.1.next ≡ z +ℤ pos 1
  behind : each item next rest ≡ Ok last
  stands : StandsFor last.0 d.name z

passed : (s : Context × Counted) (d : e.VarDecl) (rest : List e.VarDecl) (last : Context × Counted) → each item s (d ∷ rest) ≡ Ok last → Passed s d rest last
passed s d rest last h =
    let a = after_gives (item s d) (λ next. each item next rest) last h in
    let g = item_gives s d a.0 a.1 in
    record {
      z = g.0;
      next = a.0;
      number = (enumerator_gives s.0 s.1.next d g.0 g.1).1;
      one_more = ap (λ (n : Context × Counted). n.1.next) g.2;
      behind = a.2;
      stands = items_keep d.name (symbol.Enumerator g.0) a.0 rest last (item_stands s d a.0 g.0 g.1 g.2) a.2;
    }

bare_number : (c : Around) (next z : ℤ) (o : Option e.Expr) → o ≡ None → number_of c next o ≡ Ok z → z ≡ next
bare_number c next z o bare h = sym (ok_is next z (sym (ap (number_of c next) bare) ∙ h))

written_number : (c : Around) (next z : ℤ) (o : Option e.Expr) (a : e.Expr) → o ≡ Some a → number_of c next o ≡ Ok z → constant_number c a ≡ Ok z
written_number c next z o a is h = sym (ap (number_of c next) is) ∙ h

-- ---- counting

bare_counted : (s : Context × Counted) (ds : List e.VarDecl) (last : Context × Counted) → AllBare ds → each item s ds ≡ Ok last → last.1.next ≡ s.1.next +ℤ pos (length ds)
bare_counted s [] last bare h =
    let same : s ≡ last = cc in
    let none : s.1.next ≡ s.1.next +ℤ pos 0 = omega (arith, ints) in
    sym (ap (λ (s : Context × Counted). s.1.next) same) ∙ none
bare_counted s (d ∷ ds) last bare h =
    let p = passed s d ds last h in
    let rest = bare_counted p.next ds last bare.1 p.behind in
    let z_is = bare_number (around_of s.0) s.1.next p.z d.init bare.0 p.number in
    counting p.z s.1.next p.next.1.next last.1.next (length ds) z_is p.one_more rest
  where
    counting : (z first second last : ℤ) (n : ℕ) → z ≡ first → second ≡ z +ℤ pos 1 → last ≡ second +ℤ pos n → last ≡ first +ℤ pos (suc n)
    counting z first second last n a b c = omega (arith, ints, a, b, c)

one_number : (c : Context) (x : List ℕ) (y z : ℤ) → StandsFor c x y → StandsFor c x z → y ≡ z
one_number c x y z a b = let e : Some (symbol.Enumerator y) ≡ Some (symbol.Enumerator z) = sym a ∙ b in cc

behind_it : (z' z : ℤ) (n : ℕ) (first then_at number : ℤ) → z' ≡ z → first ≡ z' +ℤ pos 1 → then_at ≡ first +ℤ pos n → number ≡ then_at → number ≡ z +ℤ pos (suc n)
behind_it z' z n first then_at number a b c d = omega (arith, ints, a, b, c, d)

counts : (c : Context) (ds : List e.VarDecl) (last : Context × Counted) → items c ds ≡ Ok last → CountsUp c ds last.0
counts c ds last h = record { first = first_number; written = as_written; counted = counted_on }
  where
    first_number : (d : e.VarDecl) (rest : List e.VarDecl) → ds ≡ d ∷ rest → d.init ≡ None → StandsFor last.0 d.name (pos 0)
    first_number d rest is bare =
        let p = passed (c, none_counted) d rest last (sym (ap (each item (c, none_counted)) is) ∙ h) in
        subst (StandsFor last.0 d.name) (bare_number (around_of c) (pos 0) p.z d.init bare p.number) p.stands

    as_written : (before rest : List e.VarDecl) (d : e.VarDecl) (a : e.Expr) → ds ≡ before ++ d ∷ rest → d.init ≡ Some a → (z : ℤ) × IsWritten c before a z × StandsFor last.0 d.name z
    as_written before rest d a is written =
        let m = each_split item (c, none_counted) before (d ∷ rest) last (sym (ap (each item (c, none_counted)) is) ∙ h) in
        let p = passed m.0 d rest last m.2 in
        (p.z, record { there = m.0.0; counted = m.0.1; behind = m.1; number = written_number (around_of m.0.0) m.0.1.next p.z d.init a written p.number }, p.stands)

    counted_on : (before bare rest : List e.VarDecl) (d f : e.VarDecl) (z : ℤ) → ds ≡ before ++ d ∷ (bare ++ f ∷ rest) → AllBare bare → f.init ≡ None → StandsFor last.0 d.name z → StandsFor last.0 f.name (z +ℤ pos (suc (length bare)))
    counted_on before bare rest d f z is all none stands =
        let m = each_split item (c, none_counted) before (d ∷ (bare ++ f ∷ rest)) last (sym (ap (each item (c, none_counted)) is) ∙ h) in
        let p = passed m.0 d (bare ++ f ∷ rest) last m.2 in
        let n = each_split item p.next bare (f ∷ rest) last p.behind in
        let q = passed n.0 f rest last n.2 in
        let same = one_number last.0 d.name p.z z p.stands stands in
        let up = bare_counted p.next bare n.0 all n.1 in
        let number = bare_number (around_of n.0.0) n.0.1.next q.z f.init none q.number in
        subst (StandsFor last.0 f.name) (behind_it p.z z (length bare) p.next.1.next n.0.1.next q.z same p.one_more up number) q.stands

-- the tag changes no name
tagged_too : (c : Context) (ds : List e.VarDecl) (c' c'' : Context) → c''.scope.file.names ≡ c'.scope.file.names → CountsUp c ds c' → CountsUp c ds c''
tagged_too c ds c' c'' same k = record {
  first = λ d rest is bare. ap (λ (ns : Names Symbol). meaning_of ns d.name) same ∙ k.first d rest is bare;
  written = λ before rest d a is written. let w = k.written before rest d a is written in (w.0, w.1, ap (λ (ns : Names Symbol). meaning_of ns d.name) same ∙ w.2);
  counted = λ before bare rest d f z is all none stands.
      ap (λ (ns : Names Symbol). meaning_of ns f.name) same ∙ k.counted before bare rest d f z is all none (sym (ap (λ (ns : Names Symbol). meaning_of ns d.name) same) ∙ stands);
}

pub numbers_count_up : NumbersCountUp
numbers_count_up c c' d h =
    let g = (enum_gives c d c' h).1 in
    let names : c'.scope.file.names ≡ g.0.0.scope.file.names = ap (λ (k : Context). k.scope.file.names) g.2 ∙ tag_names g.0.0 d.name (enum_kind g.0.1.has_negative) in
    tagged_too c d.items g.0.0 c' names (counts c d.items g.0 g.1)
