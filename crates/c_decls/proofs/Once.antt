-- A name is declared once in a scope.
use Rattle.std.proofs.Common.{◌≡◌, ◌≢◌, ℕ, ℤ, Bool, true, false, List, [], ◌∷◌, ◌++◌, map, length, Option, Some, None, is_none, Ok, refl, sym, ap, subst, ◌∙◌, if◌then◌else◌, true≢false}
use Rattle.std.proofs.lemmas.List.{map_push}
use Rattle.std.specs.Str.{bytes_eq}
use Rattle.wp_base.specs.declared.kinds.Kind.{Kind}
use Rattle.c_syntax.specs.Expr as e
use Rattle.c_syntax.specs.Decl as decl
use Rattle.name_table.specs.Names.{Names, meaning_of, is_free, declared}
use Rattle.name_table.proofs.Declaring.{declares, same_name}
use Rattle.c_answers.specs.Answers.{after, unknown}
use Rattle.typed_prog.specs.declared.operators.Variable.TheVariants as variable_of
use Rattle.typed_prog.specs.declared.types.CoreType.{CoreType}
use Rattle.c_scopes.specs.declared.symbols.Symbol.{Symbol}
use Rattle.c_scopes.specs.declared.symbols.Symbol.TheVariants as symbol
use Rattle.c_scopes.specs.declared.symbols.Tag.{Tag}
use Rattle.c_scopes.specs.declared.symbols.Tag.TheVariants as tag
use Rattle.c_scopes.specs.declared.symbols.Field.{Field}
use Rattle.c_scopes.specs.declared.symbols.Resolved.{Resolved}
use Rattle.c_scopes.specs.Declarations.{with_typedef}
use Rattle.c_variables.specs.declared.context.Context.{Context}
use Rattle.c_variables.specs.Contexts.{around_of}
use Rattle.c_variables.specs.Variables.{variable}
use Rattle.c_decls.specs.declared.structs.Fields.{Fields}
use Rattle.c_decls.specs.declared.enums.Counted.{Counted}
use Rattle.c_decls.specs.Each.{each, with_file}
use Rattle.c_decls.specs.Structs.{no_fields, field_of, with_field, all_fields, tagged, completed, struct_declared}
use Rattle.c_decls.specs.Enums.{number_of, as_int, enumerator, none_counted, item, items, enum_kind, is_new_tag, with_tag, enum_declared, is_new_name, typedef_declared}
use Rattle.c_decls.specs.Globals.{Inits, earlier_by, earlier_of, may_declare, agreed, held_type, global_type, place_of, with_global, with_place, initial_value, initialised, global}
use Rattle.c_decls.specs.Laws.{Keeps, IsTakenTag, IsTaken, IsNoVariable, NoVariables, AllTaken, IsOther, Differ, names_of, field_names, type_of_field, StructIsDeclared, EnumIsDeclared, TypedefIsDeclared, NamesAreDeclaredOnce}
use Rattle.c_decls.proofs.Turns.{after_gives, each_keeps, ok_is}
use Rattle.c_decls.proofs.Keeping.{stays, not_free}
use Rattle.c_decls.proofs.Numbering.{enumerator_gives, item_gives, item_stands, items_keep, enum_gives, tag_names}
use Rattle.c_decls.proofs.LayingOut.{struct_gives, laid, named_more, structs_are_laid_out}
use Rattle.c_decls.proofs.Declaring.{variable_taken, variable_free}

-- ---- what is taken

struct_taken : (c : Context) (d : decl.StructDecl) → is_free c.scope.file.tags d.name ≡ false → struct_declared c d ≡ unknown d.line
unfolding struct_declared
struct_taken c d h = ap (λ b. if b then after (all_fields (tagged c d.name) d.fields) (λ fs. Ok (completed (tagged c d.name) d.name fs)) else unknown d.line) h

enum_taken : (c : Context) (d : decl.EnumDecl) → is_new_tag c.scope.file d.name ≡ false → enum_declared c d ≡ unknown d.line
unfolding enum_declared
enum_taken c d h = ap (λ b. if b then after (items c d.items) (λ s. Ok (with_tag s.0 d.name (enum_kind s.1.has_negative))) else unknown d.line) h

typedef_taken : (c : Context) (d : e.VarDecl) → is_free c.scope.file.names d.name ≡ false → typedef_declared c d ≡ unknown d.line
unfolding typedef_declared
typedef_taken c d h =
    ap (λ b. after (variable (around_of c) b d.line d.ty) (λ t. Ok (with_file c (with_typedef c.scope.file d.name t)))) h
    ∙ ap (λ o. after o (λ t. Ok (with_file c (with_typedef c.scope.file d.name t)))) (variable_taken (around_of c) d.line d.ty)

enumerator_taken : (c : Context) (next : ℤ) (d : e.VarDecl) → is_free c.scope.file.names d.name ≡ false → enumerator c next d ≡ unknown d.line
unfolding enumerator
enumerator_taken c next d h = ap (λ b. if b then after (number_of (around_of c) next d.init) (as_int c.model d.line) else unknown d.line) h

type_taken : (c : Context) (inits : Inits) (d : e.VarDecl) → may_declare (earlier_of c d.name) ≡ false → global_type c inits d ≡ unknown d.line
unfolding global_type
type_taken c inits d h =
    ap (λ b. after (variable (around_of c) b d.line d.ty) (λ t. after (agreed c inits d (earlier_of c d.name) t) (held_type c d))) h
    ∙ ap (λ o. after o (λ t. after (agreed c inits d (earlier_of c d.name) t) (held_type c d))) (variable_taken (around_of c) d.line d.ty)

global_taken : (taken : Names Bool) (c : Context) (inits : Inits) (d : e.VarDecl) → may_declare (earlier_of c d.name) ≡ false → global taken (c, inits) d ≡ unknown d.line
unfolding global
global_taken taken c inits d h = ap (λ o. after o (λ t. initialised (with_global taken c d t) (with_place c inits d) (place_of c d.name) t.ty d.init)) (type_taken c inits d h)

taken_tag : (c : Context) (x : List ℕ) → is_free c.scope.file.tags x ≡ false → IsTakenTag c x
taken_tag c x h = record {
  structs = λ d is. struct_taken c d (ap (is_free c.scope.file.tags) is ∙ h);
  enums = λ d is. enum_taken c d (ap (is_new_tag c.scope.file) is ∙ h);
}

taken_name : (c : Context) (x : List ℕ) → is_free c.scope.file.names x ≡ false → IsTaken c x
taken_name c x h = record {
  typedefs = λ d is. typedef_taken c d (ap (is_free c.scope.file.names) is ∙ h);
  enumerators = λ d next is. enumerator_taken c next d (ap (is_free c.scope.file.names) is ∙ h);
}

no_variable : (c : Context) (x : List ℕ) (s : Symbol) → meaning_of c.scope.file.names x ≡ Some s → may_declare (earlier_by (Some s)) ≡ false → IsNoVariable c x
no_variable c x s is other = record {
  others = taken_name c x (not_free c.scope.file.names x s is);
  variables = λ taken inits d name.
      global_taken taken c inits d (ap (λ y. may_declare (earlier_by (meaning_of c.scope.file.names y))) name ∙ ap (λ o. may_declare (earlier_by o)) is ∙ other);
}

-- ---- names that differ

other_more : (y : List ℕ) (ys : List (List ℕ)) (x : List ℕ) → IsOther y ys → y ≢ x → IsOther y (ys ++ x ∷ [])
other_more y [] x so_far ne = (ne, tt)
other_more y (z ∷ ys) x so_far ne = (so_far.0, other_more y ys x so_far.1 ne)

free_parts : (b : Bool) (o : Option Bool) → is_none (if b then Some true else o) ≡ true → (b ≡ false) × (is_none o ≡ true)
free_parts true o h = absurd cc
free_parts false o h = (refl, h)

not_it : (x y : List ℕ) → bytes_eq x y ≡ false → y ≢ x
not_it x y h is = true≢false (sym (ap (bytes_eq x) is ∙ same_name x) ∙ h)

abbrev entries : List (List ℕ) → Names Bool
entries xs = map (λ x. (x, true)) xs

differ_more : (xs : List (List ℕ)) (x : List ℕ) → Differ xs → is_free (entries xs) x ≡ true → Differ (xs ++ x ∷ [])
differ_more [] x so_far free = (tt, tt)
differ_more (y ∷ ys) x so_far free =
    let parts = free_parts (bytes_eq x y) (meaning_of (entries ys) x) free in
    (other_more y ys x so_far.0 (not_it x y parts.0), differ_more ys x so_far.1 parts.1)

-- The names of the fields so far are noted, and differ.
record Noted (fs : Fields) : Type 0 where
  names : fs.names ≡ entries (field_names fs.fields)
  differ : Differ (field_names fs.fields)

one_noted : (fs : Fields) (d : e.VarDecl) (f : Field) → fs.names ≡ entries (field_names fs.fields) → is_free fs.names d.name ≡ true → f.name ≡ d.name → declared fs.names d.name true ≡ entries (field_names (fs.fields ++ f ∷ []))
one_noted fs d f noted free name =
    ap (λ b. if b then fs.names ++ (d.name, true) ∷ [] else fs.names) free
    ∙ ap (λ (ns : Names Bool). ns ++ (d.name, true) ∷ []) noted
    ∙ sym (map_push (λ (x : List ℕ). (x, true)) (field_names fs.fields) d.name)
    ∙ ap (λ x. entries (field_names fs.fields ++ x ∷ [])) (sym name)
    ∙ ap entries (sym (map_push (λ (f : Field). f.name) fs.fields f))

field_noted : (c : Context) (fs : Fields) (d : e.VarDecl) (gs : Fields) → Noted fs → with_field c fs d ≡ Ok gs → Noted gs
field_noted c fs d gs so_far h =
    let l = laid c fs d gs h in
    let f : Field = field_of d (type_of_field l.field) in
    let free = variable_free (around_of c) (is_free fs.names d.name) d.line d.ty (type_of_field l.field) l.free in
    let noted : is_free (entries (field_names fs.fields)) d.name ≡ true = sym (ap (λ ns. is_free ns d.name) so_far.names) ∙ free in
    subst Noted (sym l.whole) (record {
      names = one_noted fs d f so_far.names free refl;
      differ = subst Differ (sym (map_push (λ (f : Field). f.name) fs.fields f)) (differ_more (field_names fs.fields) d.name so_far.differ noted);
    })

fields_differ : (c : Context) (ds : List e.VarDecl) (fs : Fields) → all_fields c ds ≡ Ok fs → Differ (names_of ds)
fields_differ c ds fs h =
    let none : Noted no_fields = record { names = refl; differ = tt } in
    let n = each_keeps Noted (with_field c) (field_noted c) no_fields ds fs none h in
    subst Differ (named_more c no_fields ds fs h) n.differ

-- ---- structs

struct_once : (c c' : Context) (d : decl.StructDecl) → struct_declared c d ≡ Ok c' → StructIsDeclared d c c'
struct_once c c' d h =
    let g = struct_gives c d c' h in
    let is : c' ≡ completed (tagged c d.name) d.name g.1.0 = g.1.2 in
    let l = structs_are_laid_out c c' d h in
    record {
      keeps = record {
        names = λ x s there. ap (λ (k : Context). meaning_of k.scope.file.names x) is ∙ there;
        tags = λ x k there. ap (λ (c : Context). meaning_of c.scope.file.tags x) is ∙ stays c.scope.file.tags d.name (tag.Struct (length c.scope.file.structs)) x k there;
      };
      tag = taken_tag c' d.name (not_free c'.scope.file.tags d.name (tag.Struct (length c.scope.file.structs)) l.tagged);
      fields = fields_differ (tagged c d.name) d.fields g.1.0 g.1.1;
    }

-- ---- enumerated types

abbrev AllFree : Names Symbol → List e.VarDecl → Type 0
AllFree names [] = Unit {0}
AllFree names (d ∷ ds) = (is_free names d.name ≡ true) × AllFree names ds

free_before_by : {V : Type 0} (o : Option V) (after_it : Option V) → ((v : V) → o ≡ Some v → after_it ≡ Some v) → is_none after_it ≡ true → is_none o ≡ true
free_before_by None after_it kept free = refl
free_before_by {V} (Some v) after_it kept free = absurd (true≢false (sym free ∙ ap (λ (o : Option V). is_none o) (kept v refl)))

all_free_before : (names : Names Symbol) (x : List ℕ) (s : Symbol) (ds : List e.VarDecl) → AllFree (declared names x s) ds → AllFree names ds
all_free_before names x s [] free = tt
all_free_before names x s (d ∷ ds) free = (free_before_by (meaning_of names d.name) (meaning_of (declared names x s) d.name) (stays names x s d.name) free.0, all_free_before names x s ds free.1)

others_free : (names : Names Symbol) (x : List ℕ) (ds : List e.VarDecl) → is_free names x ≡ false → AllFree names ds → IsOther x (names_of ds)
others_free names x [] taken free = tt
others_free names x (d ∷ ds) taken free = ((λ is. true≢false (sym free.0 ∙ ap (is_free names) (sym is) ∙ taken)), others_free names x ds taken free.1)

items_differ : (s : Context × Counted) (ds : List e.VarDecl) (last : Context × Counted) → each item s ds ≡ Ok last → AllFree s.0.scope.file.names ds × Differ (names_of ds)
items_differ s [] last h = (tt, tt)
items_differ s (d ∷ ds) last h =
    let a = after_gives (item s d) (λ next. each item next ds) last h in
    let g = item_gives s d a.0 a.1 in
    let rest = items_differ a.0 ds last a.2 in
    let free = (enumerator_gives s.0 s.1.next d g.0 g.1).0 in
    let now : a.0.0.scope.file.names ≡ declared s.0.scope.file.names d.name (symbol.Enumerator g.0) = ap (λ (n : Context × Counted). n.0.scope.file.names) g.2 in
    let stands = item_stands s d a.0 g.0 g.1 g.2 in (
      (free, all_free_before s.0.scope.file.names d.name (symbol.Enumerator g.0) ds (subst (λ ns. AllFree ns ds) now rest.0)),
      (others_free a.0.0.scope.file.names d.name ds (not_free a.0.0.scope.file.names d.name (symbol.Enumerator g.0) stands) rest.0, rest.1),
    )

items_taken : (c' : Context) (s : Context × Counted) (ds : List e.VarDecl) (last : Context × Counted) → c'.scope.file.names ≡ last.0.scope.file.names → each item s ds ≡ Ok last → NoVariables c' ds
items_taken c' s [] last same h = tt
items_taken c' s (d ∷ ds) last same h =
    let a = after_gives (item s d) (λ next. each item next ds) last h in
    let g = item_gives s d a.0 a.1 in
    let stands = items_keep d.name (symbol.Enumerator g.0) a.0 ds last (item_stands s d a.0 g.0 g.1 g.2) a.2 in
    (no_variable c' d.name (symbol.Enumerator g.0) (ap (λ (ns : Names Symbol). meaning_of ns d.name) same ∙ stands) refl, items_taken c' a.0 ds last same a.2)

abbrev tags_of : Context → Names Tag
tags_of c = c.scope.file.tags

items_tags : (c : Context) (ds : List e.VarDecl) (last : Context × Counted) → items c ds ≡ Ok last → tags_of last.0 ≡ tags_of c
items_tags c ds last h = each_keeps (λ (s : Context × Counted). tags_of s.0 ≡ tags_of c) item one (c, none_counted) ds last refl h
  where
    one : (s : Context × Counted) (d : e.VarDecl) (next : Context × Counted) → tags_of s.0 ≡ tags_of c → item s d ≡ Ok next → tags_of next.0 ≡ tags_of c
    one s d next so_far h = ap (λ (n : Context × Counted). tags_of n.0) (item_gives s d next h).2 ∙ so_far

tag_stays : (c : Context) (x : Option (List ℕ)) (k : Kind) (y : List ℕ) (m : Tag) → meaning_of (tags_of c) y ≡ Some m → meaning_of (tags_of (with_tag c x k)) y ≡ Some m
tag_stays c None k y m h = h
tag_stays c (Some x) k y m h = stays (tags_of c) x (tag.Enum k) y m h

tag_there : (c : Context) (o : Option (List ℕ)) (k : Kind) (x : List ℕ) → o ≡ Some x → is_free (tags_of c) x ≡ true → meaning_of (tags_of (with_tag c o k)) x ≡ Some (tag.Enum k)
tag_there c o k x is free = ap (λ p. meaning_of (tags_of (with_tag c p k)) x) is ∙ (declares (tags_of c) x (tag.Enum k)).new free

enum_once : (c c' : Context) (d : decl.EnumDecl) → enum_declared c d ≡ Ok c' → EnumIsDeclared d c c'
enum_once c c' d h =
    let all = enum_gives c d c' h in
    let g = all.1 in
    let k : Kind = enum_kind g.0.1.has_negative in
    let is : c' ≡ with_tag g.0.0 d.name k = g.2 in
    let names : c'.scope.file.names ≡ g.0.0.scope.file.names = ap (λ (k : Context). k.scope.file.names) is ∙ tag_names g.0.0 d.name k in
    let same = items_tags c d.items g.0 g.1 in
    record {
      keeps = record {
        names = λ x s there. ap (λ (ns : Names Symbol). meaning_of ns x) names ∙ items_keep x s (c, none_counted) d.items g.0 there g.1;
        tags = λ x m there. ap (λ (c : Context). meaning_of (tags_of c) x) is ∙ tag_stays g.0.0 d.name k x m (ap (λ (ns : Names Tag). meaning_of ns x) same ∙ there);
      };
      tag = λ x name.
          let free : is_free (tags_of g.0.0) x ≡ true = ap (λ (ns : Names Tag). is_free ns x) same ∙ sym (ap (is_new_tag c.scope.file) name) ∙ all.0 in
          taken_tag c' x (not_free (tags_of c') x (tag.Enum k) (ap (λ (c : Context). meaning_of (tags_of c) x) is ∙ tag_there g.0.0 d.name k x name free));
      enumerators = items_taken c' (c, none_counted) d.items g.0 names g.1;
      differ = (items_differ (c, none_counted) d.items g.0 g.1).1;
    }

-- ---- typedef names

typedef_gives : (c c' : Context) (d : e.VarDecl) → typedef_declared c d ≡ Ok c' → (t : Resolved) × (is_new_name c d.name ≡ true) × (c' ≡ with_file c (with_typedef c.scope.file d.name t))
unfolding typedef_declared
typedef_gives c c' d h =
    let a = after_gives (variable (around_of c) (is_new_name c d.name) d.line d.ty) (λ t. Ok (with_file c (with_typedef c.scope.file d.name t))) c' h in
    (a.0, variable_free (around_of c) (is_new_name c d.name) d.line d.ty a.0 a.1, sym (ok_is (with_file c (with_typedef c.scope.file d.name a.0)) c' a.2))

typedef_once : (c c' : Context) (d : e.VarDecl) → typedef_declared c d ≡ Ok c' → TypedefIsDeclared d c c'
typedef_once c c' d h =
    let g = typedef_gives c c' d h in
    let s : Symbol = symbol.Typedef (length c.scope.file.typedefs) in
    record {
      keeps = record {
        names = λ x m there. ap (λ (k : Context). meaning_of k.scope.file.names x) g.2 ∙ stays c.scope.file.names d.name s x m there;
        tags = λ x m there. ap (λ (k : Context). meaning_of k.scope.file.tags x) g.2 ∙ there;
      };
      name = no_variable c' d.name s (ap (λ (k : Context). meaning_of k.scope.file.names d.name) g.2 ∙ (declares c.scope.file.names d.name s).new g.1) refl;
    }

-- ---- variables

same_context : (c : Context) (inits : Inits) (n : ℕ) (type : CoreType) (init : Option e.Expr) (next : Context × Inits) → initialised c inits n type init ≡ Ok next → next.0 ≡ c
same_context c inits n type None next h = ap (λ (s : Context × Inits). s.0) (sym (ok_is (c, inits) next h))
same_context c inits n type (Some x) next h =
    let a = after_gives (initial_value c type x) _ next h in
    ap (λ (s : Context × Inits). s.0) (sym (ok_is _ next a.2))

global_gives : (taken : Names Bool) (s : Context × Inits) (d : e.VarDecl) (next : Context × Inits) → global taken s d ≡ Ok next → (t : Resolved) × (next.0 ≡ with_global taken s.0 d t)
unfolding global
global_gives taken s d next h =
    let a = after_gives (global_type s.0 s.1 d) (λ t. initialised (with_global taken s.0 d t) (with_place s.0 s.1 d) (place_of s.0 d.name) t.ty d.init) next h in
    (a.0, same_context (with_global taken s.0 d a.0) (with_place s.0 s.1 d) (place_of s.0 d.name) a.0.ty d.init next a.2)

-- a name that was declared means something
meant_by : {V : Type 0} (b : Bool) (ds : Names V) (x : List ℕ) (v : V) → is_free ds x ≡ b → is_free (declared ds x v) x ≡ false
meant_by true ds x v free = not_free (declared ds x v) x v ((declares ds x v).new free)
meant_by false ds x v there = ap (λ ns. is_free ns x) ((declares ds x v).old there) ∙ there

not_none : {V : Type 0} (o : Option V) → is_none o ≡ false → (v : V) × (o ≡ Some v)
not_none None h = absurd cc
not_none (Some v) h = (v, refl)

global_keeps : (taken : Names Bool) (c : Context) (s : Context × Inits) (d : e.VarDecl) (next : Context × Inits) → Keeps c s.0 → global taken s d ≡ Ok next → Keeps c next.0
global_keeps taken c s d next so_far h =
    let g = global_gives taken s d next h in
    let o : Symbol = symbol.Object (variable_of.Global (length s.0.scope.file.globals)) in
    record {
      names = λ x m there. ap (λ (k : Context). meaning_of k.scope.file.names x) g.1 ∙ stays s.0.scope.file.names d.name o x m (so_far.names x m there);
      tags = λ x m there. ap (λ (k : Context). meaning_of k.scope.file.tags x) g.1 ∙ so_far.tags x m there;
    }

itself : (c : Context) → Keeps c c
itself c = record { names = λ x m there. there; tags = λ x m there. there }

pub globals_keep : (taken : Names Bool) (s : Context × Inits) (ds : List e.VarDecl) (last : Context × Inits) → each (global taken) s ds ≡ Ok last → Keeps s.0 last.0
globals_keep taken s ds last h = each_keeps (λ (n : Context × Inits). Keeps s.0 n.0) (global taken) (global_keeps taken s.0) s ds last (itself s.0) h

globals_taken : (taken : Names Bool) (s : Context × Inits) (ds : List e.VarDecl) (last : Context × Inits) → each (global taken) s ds ≡ Ok last → AllTaken last.0 ds
globals_taken taken s [] last h = tt
globals_taken taken s (d ∷ ds) last h =
    let a = after_gives (global taken s d) (λ next. each (global taken) next ds) last h in
    let g = global_gives taken s d a.0 a.1 in
    let o : Symbol = symbol.Object (variable_of.Global (length s.0.scope.file.globals)) in
    let now : is_free a.0.0.scope.file.names d.name ≡ false =
    ap (λ (k : Context). is_free k.scope.file.names d.name) g.1 ∙ meant_by (is_free s.0.scope.file.names d.name) s.0.scope.file.names d.name o refl in
    let m = not_none (meaning_of a.0.0.scope.file.names d.name) now in
    let kept = (globals_keep taken a.0 ds last a.2).names d.name m.0 m.1 in
    (taken_name last.0 d.name (not_free last.0.scope.file.names d.name m.0 kept), globals_taken taken a.0 ds last a.2)

pub names_are_declared_once : NamesAreDeclaredOnce
names_are_declared_once c c' = record {
  structs = struct_once c c';
  enums = enum_once c c';
  typedefs = typedef_once c c';
  variables = λ taken inits inits' ds h. record { keeps = globals_keep taken (c, inits) ds (c', inits') h; names = globals_taken taken (c, inits) ds (c', inits') h };
}
