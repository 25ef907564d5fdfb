-- Declarations other than functions leave layouts: all that is declared has the cells of its type, also where structs come behind.
use Rattle.std.proofs.Common.{◌≡◌, ℕ, zero, suc, ◌<◌, Bool, true, false, ◌&&◌, if◌then◌else◌, List, [], ◌∷◌, ◌++◌, length, Option, Some, None, Ok, slice_get, slice_index_or, refl, sym, ap, subst, ◌∙◌, ◌⊎◌, inl, inr, arith, length-append}
use Rattle.std.specs.Option.{unwrap_or}
use Rattle.std.specs.Str.{bytes_eq}
use Rattle.std.proofs.lemmas.Bool.{and_parts}
use Rattle.std.proofs.lemmas.Slice.Eq.{bytes_eq-Decides}
use Rattle.wp_base.specs.declared.kinds.Kind.{Kind}
use Rattle.wp_base.specs.declared.kinds.Layout.{Layout}
use Rattle.c_syntax.specs.Expr as e
use Rattle.c_syntax.specs.Decl as decl
use Rattle.typed_prog.specs.declared.types.CoreType.{CoreType}
use Rattle.typed_prog.specs.declared.operators.Variable.{Variable}
use Rattle.typed_prog.specs.declared.operators.Variable.TheVariants as variable
use Rattle.name_table.specs.Names.{Names, meaning_of, is_free, declared}
use Rattle.c_answers.specs.Answers.{after, unknown}
use Rattle.c_rules.specs.Operators.{is_scalar}
use Rattle.c_scopes.specs.declared.symbols.Object.{Object}
use Rattle.c_scopes.specs.declared.symbols.Resolved.{Resolved}
use Rattle.c_scopes.specs.declared.symbols.Structure.{Structure}
use Rattle.c_scopes.specs.declared.symbols.Field.{Field as Member}
use Rattle.c_scopes.specs.declared.symbols.Symbol.{Symbol}
use Rattle.c_scopes.specs.declared.symbols.Symbol.TheVariants as symbol
use Rattle.c_scopes.specs.declared.local.Local.{Local}
use Rattle.c_scopes.specs.declared.file.File.{File}
use Rattle.c_scopes.specs.Declarations.{more_if, object_of, with_typedef}
use Rattle.c_scopes.specs.Laws.{Extends}
use Rattle.c_variables.specs.declared.context.Context.{Context}
use Rattle.c_variables.specs.Contexts.{around_of}
use Rattle.c_variables.specs.Variables.{variable as variable_type, object_with}
use Rattle.c_decls.specs.declared.enums.Counted.{Counted}
use Rattle.c_decls.specs.declared.structs.Fields.{Fields}
use Rattle.c_decls.specs.Each.{each, with_file}
use Rattle.c_decls.specs.Structs.{all_fields, tagged, completed, struct_declared}
use Rattle.c_decls.specs.Enums.{enumerator, with_constant, counted, item, items, none_counted, is_new_tag, with_tag, enum_kind, enum_declared, is_new_name, typedef_declared}
use Rattle.c_decls.specs.Globals.{Inits, is_plain_global, is_new, with_global}
use Rattle.c_decls.specs.Laws.{FieldsExtend, IsLaidOut as IsMade}
use Rattle.c_decls.proofs.LayingOut.{structs_are_laid_out}
use Rattle.c_typed_files.specs.Globals as judged
use Rattle.c_typed_files.specs.Globals.{IsGlobal, AreGlobals}
use Rattle.c_well_typed.specs.Operators.{IsScalar}
use Rattle.plain_files.proofs.Names.{some_is, declared_means}
use Rattle.plain_files.proofs.Declaring.{ok_is, given, gives, kept_in}
use Rattle.typed_values.specs.Declared.{HasLayout, FieldsHave, IsLaidOut}
use Rattle.typed_values.specs.Programs.{PlainAreScalars}
use Rattle.typed_values.proofs.Programs.{more_cells}
use Rattle.typed_layouts.specs.Laid.{IsLaid}
use Rattle.typed_layouts.proofs.Laying.{has_layout, last_of, scalars_more}

-- ---- more structs

-- structs that are declared stay declared
abbrev pub StructsGrow : File → File → Type 0
StructsGrow f f' = (tag : ℕ) (x : Structure) → slice_get f.structs tag ≡ Some x → slice_get f'.structs tag ≡ Some x

module _ (ss more : List Structure) (in_more : (tag : ℕ) (x : Structure) → slice_get ss tag ≡ Some x → slice_get more tag ≡ Some x) where
  pub more_layout : {type : CoreType} {l : Layout} → HasLayout ss type l → HasLayout more type l
  more_layout {type = type} {l = l} h = record { elements = more_cells ss more in_more type.base type.stars l.cells h.elements; count = h.count }

  more_fields : (fs : List Member) (ls : List Layout) → FieldsHave ss fs ls → FieldsHave more fs ls
  more_fields [] [] h = tt
  more_fields [] (l ∷ ls) h = elim h [ ]
  more_fields (f ∷ fs) [] h = elim h [ ]
  more_fields (f ∷ fs) (l ∷ ls) h = (more_layout h.0, more_fields fs ls h.1)

  more_laid : (x : Structure) → IsLaidOut ss x → IsLaidOut more x
  more_laid x h = record { parts = h.parts; fields = more_fields x.fields h.parts h.fields; offsets = h.offsets; cells = h.cells }

extended : (ss : List Structure) (t : Resolved) (l : Layout) → Extends ss t l → HasLayout ss t.ty l
extended ss t l h = record { elements = h.elements; count = by h.count } where
  by : ((t.ty.count ≡ Some l.count) ⊎ ((t.ty.count ≡ None) × (l.count ≡ 1))) → l.count ≡ unwrap_or t.ty.count 1
  by (inl some) = sym (ap (λ (c : Option ℕ). unwrap_or c 1) some)
  by (inr none) = none.1 ∙ sym (ap (λ (c : Option ℕ). unwrap_or c 1) none.0)

fields_have : (ss : List Structure) (fs : List Member) (ls : List Layout) → FieldsExtend ss fs ls → FieldsHave ss fs ls
fields_have ss [] [] h = tt
fields_have ss [] (l ∷ ls) h = elim h [ ]
fields_have ss (f ∷ fs) [] h = elim h [ ]
fields_have ss (f ∷ fs) (l ∷ ls) h = (extended ss (record { ty = f.ty; is_const = f.is_const }) l h.0, fields_have ss fs ls h.1)

-- ---- what stays

-- all but the structs and the names
pub record Keeps (c b : Context) : Type 0 where
  pub model : b.model ≡ c.model
  pub flags : b.globals ≡ c.globals
  pub objects : b.scope.file.globals ≡ c.scope.file.globals
  pub local : b.scope.local ≡ c.scope.local
  pub locals : b.locals ≡ c.locals

pub record Same (c b : Context) : Type 0 where
  pub keeps : Keeps c b
  pub structs : b.scope.file.structs ≡ c.scope.file.structs
  pub sizes : b.sizes ≡ c.sizes

same_self : (c : Context) → Same c c
same_self c = record { keeps = record { model = refl; flags = refl; objects = refl; local = refl; locals = refl }; structs = refl; sizes = refl }

same_then : (a b c : Context) → Same a b → Same b c → Same a c
same_then a b c h k = record {
  keeps = record {
    model = k.keeps.model ∙ h.keeps.model;
    flags = k.keeps.flags ∙ h.keeps.flags;
    objects = k.keeps.objects ∙ h.keeps.objects;
    local = k.keeps.local ∙ h.keeps.local;
    locals = k.keeps.locals ∙ h.keeps.locals;
  };
  structs = k.structs ∙ h.structs;
  sizes = k.sizes ∙ h.sizes;
}

laid_by : (c b : Context) → Keeps c b → StructsGrow c.scope.file b.scope.file → ((tag : ℕ) (x : Structure) → slice_get b.scope.file.structs tag ≡ Some x → IsLaidOut b.scope.file.structs x)
    → ((tag : ℕ) (x : Structure) → slice_get b.scope.file.structs tag ≡ Some x → slice_index_or b.sizes tag 1 ≡ length x.layout.cells) → length b.sizes ≡ length b.scope.file.structs
    → IsLaid c → IsLaid b
laid_by c b keeps more structs sizes count laid = record {
  layouts = record { variables = there; structs = structs; sizes = sizes };
  globals = λ n o h plain. laid.globals n o (ap (λ os. slice_get os n) (sym keeps.objects) ∙ h) (ap (λ ps. slice_index_or ps n false) (sym keeps.flags) ∙ plain);
  global_flags = ap length keeps.flags ∙ laid.global_flags ∙ sym (ap length keeps.objects);
  locals = λ n o h plain. laid.locals n o (ap (λ (l : Local). slice_get l.objects n) (sym keeps.local) ∙ h) (ap (λ ps. slice_index_or ps n false) (sym keeps.locals) ∙ plain);
  local_flags = ap length keeps.locals ∙ laid.local_flags ∙ sym (ap (λ (l : Local). length l.objects) keeps.local);
  struct_sizes = count;
} where
  there : (x : Variable) (o : Object) → object_of b.scope x ≡ Some o → (l : Layout) × HasLayout b.scope.file.structs o.ty l
  there (variable.Global n) o h =
      let r = laid.layouts.variables (variable.Global n) o (ap (λ os. slice_get os n) (sym keeps.objects) ∙ h) in
      (r.0, more_layout c.scope.file.structs b.scope.file.structs more r.1)
  there (variable.Local n) o h =
      let r = laid.layouts.variables (variable.Local n) o (ap (λ (l : Local). slice_get l.objects n) (sym keeps.local) ∙ h) in
      (r.0, more_layout c.scope.file.structs b.scope.file.structs more r.1)

pub same_laid : (c b : Context) → Same c b → IsLaid c → IsLaid b
same_laid c b same laid =
    let of_old : (tag : ℕ) (x : Structure) → slice_get b.scope.file.structs tag ≡ Some x → slice_get c.scope.file.structs tag ≡ Some x = λ tag x h. ap (λ ss. slice_get ss tag) (sym same.structs) ∙ h in
    laid_by c b same.keeps (λ tag x h. ap (λ ss. slice_get ss tag) same.structs ∙ h)
    (λ tag x h. subst (λ ss. IsLaidOut ss x) (sym same.structs) (laid.layouts.structs tag x (of_old tag x h)))
    (λ tag x h. ap (λ ns. slice_index_or ns tag 1) same.sizes ∙ laid.layouts.sizes tag x (of_old tag x h))
    (ap length same.sizes ∙ laid.struct_sizes ∙ sym (ap length same.structs)) laid

-- ---- structs

struct_keeps : (c : Context) (d : decl.StructDecl) (b : Context) → struct_declared c d ≡ Ok b → Keeps c b
unfolding struct_declared
struct_keeps c d b h = on (is_free c.scope.file.tags d.name) h where
  made : (fs : Fields) → given (completed (tagged c d.name) d.name fs) ≡ Ok b → Keeps c b
  made fs e = subst (Keeps c) (ok_is (completed (tagged c d.name) d.name fs) b e) (record { model = refl; flags = refl; objects = refl; local = refl; locals = refl })

  on : (free : Bool) → (if free then after (all_fields (tagged c d.name) d.fields) (λ fs. Ok (completed (tagged c d.name) d.name fs)) else unknown d.line) ≡ Ok b → Keeps c b
  on true e = let r = gives (all_fields (tagged c d.name) d.fields) (λ fs. Ok (completed (tagged c d.name) d.name fs)) b e in made r.0 r.2
  on false e = absurd cc

struct_names : (c : Context) (d : decl.StructDecl) (b : Context) → struct_declared c d ≡ Ok b → b.scope.file.names ≡ c.scope.file.names
unfolding struct_declared
struct_names c d b h = on (is_free c.scope.file.tags d.name) h where
  made : (fs : Fields) → given (completed (tagged c d.name) d.name fs) ≡ Ok b → b.scope.file.names ≡ c.scope.file.names
  made fs e = ap (λ (k : Context). k.scope.file.names) (sym (ok_is (completed (tagged c d.name) d.name fs) b e))

  on : (free : Bool) → (if free then after (all_fields (tagged c d.name) d.fields) (λ fs. Ok (completed (tagged c d.name) d.name fs)) else unknown d.line) ≡ Ok b
      → b.scope.file.names ≡ c.scope.file.names
  on true e = let r = gives (all_fields (tagged c d.name) d.fields) (λ fs. Ok (completed (tagged c d.name) d.name fs)) b e in made r.0 r.2
  on false e = absurd cc

-- the size behind those before it
size_more : (ns : List ℕ) (ss : List Structure) (n : ℕ) (made x : Structure) (tag : ℕ) → length ns ≡ length ss → n ≡ length made.layout.cells
    → ((i : ℕ) (y : Structure) → slice_get ss i ≡ Some y → slice_index_or ns i 1 ≡ length y.layout.cells) → slice_get (ss ++ made ∷ []) tag ≡ Some x
    → slice_index_or (ns ++ n ∷ []) tag 1 ≡ length x.layout.cells
size_more [] [] n made x zero same new old h = let e : made ≡ x = cc in new ∙ ap (λ (y : Structure). length y.layout.cells) e
size_more [] [] n made x (suc tag) same new old h = absurd cc
size_more [] (s ∷ ss) n made x tag same new old h = absurd (omega (arith, same))
size_more (m ∷ ns) [] n made x tag same new old h = absurd (omega (arith, same))
size_more (m ∷ ns) (s ∷ ss) n made x zero same new old h = old 0 x h
size_more (m ∷ ns) (s ∷ ss) n made x (suc tag) same new old h = size_more ns ss n made x tag (omega (arith, same)) new (λ i y k. old (suc i) y k) h

-- names of variables of the file; one whose address is taken has a pointer that may lead to it
abbrev pub GlobalsNamed : (taken : Names Bool) → Context → Type 0
GlobalsNamed taken c =
    (y : List ℕ) (n : ℕ) → meaning_of c.scope.file.names y ≡ Some (symbol.Object (variable.Global n))
    → (n < length c.globals) × (is_free taken y ≡ false → slice_index_or c.globals n false ≡ false)

pub named_by : (taken : Names Bool) (c b : Context) → b.globals ≡ c.globals
    → ((y : List ℕ) (n : ℕ) → meaning_of b.scope.file.names y ≡ Some (symbol.Object (variable.Global n)) → meaning_of c.scope.file.names y ≡ Some (symbol.Object (variable.Global n)))
    → GlobalsNamed taken c → GlobalsNamed taken b
named_by taken c b flags back h y n e =
    let r = h y n (back y n e) in (subst (λ fs. n < length fs) (sym flags) r.0, λ k. ap (λ fs. slice_index_or fs n false) flags ∙ r.1 k)

pub no_object_more : (ns : Names Symbol) (x : List ℕ) (s : Symbol) → ((n : ℕ) → s ≡ symbol.Object (variable.Global n) → ⊥) → (y : List ℕ) (n : ℕ)
    → meaning_of (declared ns x s) y ≡ Some (symbol.Object (variable.Global n)) → meaning_of ns y ≡ Some (symbol.Object (variable.Global n))
no_object_more ns x s other y n h = by (declared_means ns x s y (symbol.Object (variable.Global n)) h) where
  by : (meaning_of ns y ≡ Some (symbol.Object (variable.Global n))) ⊎ (s ≡ symbol.Object (variable.Global n)) → meaning_of ns y ≡ Some (symbol.Object (variable.Global n))
  by (inl e) = e
  by (inr e) = absurd (other n e)

-- `taken`: the names of the file whose addresses are taken
pub record Grown (taken : Names Bool) (c b : Context) : Type 0 where
  pub laid : IsLaid c → IsLaid b
  pub model : b.model ≡ c.model
  pub structs : StructsGrow c.scope.file b.scope.file
  pub named : IsLaid c → GlobalsNamed taken c → GlobalsNamed taken b

grown_same : (taken : Names Bool) (c b : Context) → Same c b
    → ((y : List ℕ) (n : ℕ) → meaning_of b.scope.file.names y ≡ Some (symbol.Object (variable.Global n)) → meaning_of c.scope.file.names y ≡ Some (symbol.Object (variable.Global n)))
    → Grown taken c b
grown_same taken c b same back = record {
  laid = λ h. same_laid c b same h;
  model = same.keeps.model;
  structs = λ tag x h. ap (λ ss. slice_get ss tag) same.structs ∙ h;
  named = λ laid h. named_by taken c b same.keeps.flags back h;
}

pub grown_self : (taken : Names Bool) (c : Context) → Grown taken c c
grown_self taken c = record { laid = λ h. h; model = refl; structs = λ tag x h. h; named = λ laid h. h }

pub grown_then : (taken : Names Bool) (a b c : Context) → Grown taken a b → Grown taken b c → Grown taken a c
grown_then taken a b c h k = record {
  laid = λ l. k.laid (h.laid l);
  model = k.model ∙ h.model;
  structs = λ tag x e. k.structs tag x (h.structs tag x e);
  named = λ l g. k.named (h.laid l) (h.named l g);
}

module _ (c : Context) (d : decl.StructDecl) (b : Context) (h : struct_declared c d ≡ Ok b) where
  made_is : IsMade c d b
  made_is = structs_are_laid_out c b d h

  abbrev old : List Structure
  old = c.scope.file.structs

  in_more : (tag : ℕ) (x : Structure) → slice_get old tag ≡ Some x → slice_get (old ++ made_is.made ∷ []) tag ≡ Some x
  in_more tag x e = kept_in old made_is.made x tag e

  all_laid : IsLaid c → (tag : ℕ) (x : Structure) → slice_get (old ++ made_is.made ∷ []) tag ≡ Some x → IsLaidOut (old ++ made_is.made ∷ []) x
  all_laid laid tag x e = by (last_of old made_is.made x tag e) where
    by : ((slice_get old tag ≡ Some x) ⊎ (made_is.made ≡ x)) → IsLaidOut (old ++ made_is.made ∷ []) x
    by (inl before) = more_laid old (old ++ made_is.made ∷ []) in_more x (laid.layouts.structs tag x before)
    by (inr same) = subst (IsLaidOut (old ++ made_is.made ∷ [])) same
        (record {
          parts = made_is.parts;
          fields = more_fields old (old ++ made_is.made ∷ []) in_more made_is.made.fields made_is.parts (fields_have old made_is.made.fields made_is.parts made_is.extend);
          offsets = made_is.offsets;
          cells = made_is.laid;
        })

  pub struct_grown : (taken : Names Bool) → Grown taken c b
  struct_grown taken = record {
    laid = λ laid.
        laid_by c b (struct_keeps c d b h) grow (λ tag x e. subst (λ ss. IsLaidOut ss x) (sym made_is.structs) (all_laid laid tag x (ap (λ ss. slice_get ss tag) (sym made_is.structs) ∙ e)))
        (λ tag x e.
        ap (λ ns. slice_index_or ns tag 1) made_is.sizes
        ∙ size_more c.sizes old made_is.cells made_is.made x tag laid.struct_sizes made_is.counted laid.layouts.sizes (ap (λ ss. slice_get ss tag) (sym made_is.structs) ∙ e))
        (ap length made_is.sizes ∙ both laid.struct_sizes ∙ sym (ap length made_is.structs)) laid;
    model = (struct_keeps c d b h).model;
    structs = grow;
    named = λ laid k. named_by taken c b (struct_keeps c d b h).flags (λ y n e. ap (λ ns. meaning_of ns y) (sym (struct_names c d b h)) ∙ e) k;
  } where
    grow : StructsGrow c.scope.file b.scope.file
    grow tag x e = ap (λ ss. slice_get ss tag) made_is.structs ∙ in_more tag x e

    both : length c.sizes ≡ length old → length (c.sizes ++ made_is.cells ∷ []) ≡ length (old ++ made_is.made ∷ [])
    both same = omega (arith, same, length-append c.sizes (made_is.cells ∷ []), length-append old (made_is.made ∷ []))

-- ---- enumerated types

enumerator_same : (s : Context × Counted) (d : e.VarDecl) (r : Context × Counted) → item s d ≡ Ok r → Same s.0 r.0
unfolding item
enumerator_same s d r h =
    let z = gives (enumerator s.0 s.1.next d) (λ z. Ok (with_constant s.0 d z, counted s.1 z)) r h in
    subst (λ (k : Context × Counted). Same s.0 k.0) (ok_is (with_constant s.0 d z.0, counted s.1 z.0) r z.2)
    (record { keeps = record { model = refl; flags = refl; objects = refl; local = refl; locals = refl }; structs = refl; sizes = refl })

enumerators_same : (s : Context × Counted) (ds : List e.VarDecl) (r : Context × Counted) → each item s ds ≡ Ok r → Same s.0 r.0
enumerators_same s [] r h = subst (λ (k : Context × Counted). Same s.0 k.0) (ok_is s r h) (same_self s.0)
enumerators_same s (d ∷ ds) r h =
    let k = gives (item s d) (λ next. each item next ds) r h in same_then s.0 k.0.0 r.0 (enumerator_same s d k.0 k.1) (enumerators_same k.0 ds r k.2)

-- no variable is declared
abbrev Back : Context → Context → Type 0
Back c b = (y : List ℕ) (n : ℕ) → meaning_of b.scope.file.names y ≡ Some (symbol.Object (variable.Global n)) → meaning_of c.scope.file.names y ≡ Some (symbol.Object (variable.Global n))

enumerator_back : (s : Context × Counted) (d : e.VarDecl) (r : Context × Counted) → item s d ≡ Ok r → Back s.0 r.0
unfolding item
enumerator_back s d r h =
    let z = gives (enumerator s.0 s.1.next d) (λ z. Ok (with_constant s.0 d z, counted s.1 z)) r h in
    subst (λ (k : Context × Counted). Back s.0 k.0) (ok_is (with_constant s.0 d z.0, counted s.1 z.0) r z.2) (no_object_more s.0.scope.file.names d.name (symbol.Enumerator z.0) (λ n e. cc))

enumerators_back : (s : Context × Counted) (ds : List e.VarDecl) (r : Context × Counted) → each item s ds ≡ Ok r → Back s.0 r.0
enumerators_back s [] r h = subst (λ (k : Context × Counted). Back s.0 k.0) (ok_is s r h) (λ y n e. e)
enumerators_back s (d ∷ ds) r h =
    let k = gives (item s d) (λ next. each item next ds) r h in λ y n e. enumerator_back s d k.0 k.1 y n (enumerators_back k.0 ds r k.2 y n e)

tag_back : (c : Context) (x : Option (List ℕ)) (k : Kind) → Back c (with_tag c x k)
tag_back c None k y n e = e
tag_back c (Some x) k y n e = e

tag_same : (c : Context) (x : Option (List ℕ)) (k : Kind) → Same c (with_tag c x k)
tag_same c None k = same_self c
tag_same c (Some x) k = record { keeps = record { model = refl; flags = refl; objects = refl; local = refl; locals = refl }; structs = refl; sizes = refl }

pub enum_grown : (taken : Names Bool) (c : Context) (d : decl.EnumDecl) (b : Context) → enum_declared c d ≡ Ok b → Grown taken c b
unfolding enum_declared
enum_grown taken c d b h = on (is_new_tag c.scope.file d.name) h where
  on : (new : Bool) → (if new then after (items c d.items) (λ s. Ok (with_tag s.0 d.name (enum_kind s.1.has_negative))) else unknown d.line) ≡ Ok b → Grown taken c b
  on true e =
      let r = gives (items c d.items) (λ s. Ok (with_tag s.0 d.name (enum_kind s.1.has_negative))) b e in
      let is = ok_is (with_tag r.0.0 d.name (enum_kind r.0.1.has_negative)) b r.2 in
      let back = subst (Back r.0.0) is (tag_back r.0.0 d.name (enum_kind r.0.1.has_negative)) in
      grown_same taken c b
      (same_then c r.0.0 b (enumerators_same (c, none_counted) d.items r.0 r.1) (subst (Same r.0.0) is (tag_same r.0.0 d.name (enum_kind r.0.1.has_negative))))
      (λ y n k. enumerators_back (c, none_counted) d.items r.0 r.1 y n (back y n k))
  on false e = absurd cc

-- ---- typedef names

pub typedef_grown : (taken : Names Bool) (c : Context) (d : e.VarDecl) (b : Context) → typedef_declared c d ≡ Ok b → Grown taken c b
unfolding typedef_declared
typedef_grown taken c d b h =
    let r = gives (variable_type (around_of c) (is_new_name c d.name) d.line d.ty) (λ t. Ok (with_file c (with_typedef c.scope.file d.name t))) b h in
    let is = ok_is (with_file c (with_typedef c.scope.file d.name r.0)) b r.2 in
    grown_same taken c b
    (subst (Same c) is (record { keeps = record { model = refl; flags = refl; objects = refl; local = refl; locals = refl }; structs = refl; sizes = refl }))
    (subst (Back c) is (no_object_more c.scope.file.names d.name (symbol.Typedef (length c.scope.file.typedefs)) (λ n e. cc)))

-- ---- variables of the file

pub one_of_if : {X : Type 0} (b : Bool) (xs : List X) (y x : X) (n : ℕ) → slice_get (more_if b xs y) n ≡ Some x → (slice_get xs n ≡ Some x) ⊎ (y ≡ x)
one_of_if true xs y x n h = last_of xs y x n h
one_of_if false xs y x n h = inl h

scalars_if : (b : Bool) (fs : List Bool) (f : Bool) (os : List Object) (o : Object) → length fs ≡ length os → PlainAreScalars fs os → (f ≡ true → IsScalar o.ty)
    → PlainAreScalars (more_if b fs f) (more_if b os o)
scalars_if true fs f os o same before new = scalars_more fs f os o same before new
scalars_if false fs f os o same before new = before

length_if : {X Y : Type 0} (b : Bool) (xs : List X) (x : X) (ys : List Y) (y : Y) → length xs ≡ length ys → length (more_if b xs x) ≡ length (more_if b ys y)
length_if true xs x ys y h = omega (arith, h, length-append xs (x ∷ []), length-append ys (y ∷ []))
length_if false xs x ys y h = h

module _ (taken : Names Bool) (c : Context) (d : e.VarDecl) (t : Resolved) (l : Layout) (has : HasLayout c.scope.file.structs t.ty l) where
  with_global_laid : IsLaid c → IsLaid (with_global taken c d t)
  with_global_laid laid = record {
    layouts = record { variables = there; structs = laid.layouts.structs; sizes = laid.layouts.sizes };
    globals = scalars_if (is_new c d.name) c.globals (is_plain_global taken d t.ty) c.scope.file.globals (object_with d t) laid.global_flags laid.globals
        (λ plain. (and_parts (is_scalar t.ty) (is_free taken d.name) plain).0);
    global_flags = length_if (is_new c d.name) c.globals (is_plain_global taken d t.ty) c.scope.file.globals (object_with d t) laid.global_flags;
    locals = laid.locals;
    local_flags = laid.local_flags;
    struct_sizes = laid.struct_sizes;
  } where
    by : (n : ℕ) (o : Object) → (slice_get c.scope.file.globals n ≡ Some o) ⊎ (object_with d t ≡ o) → (k : Layout) × HasLayout c.scope.file.structs o.ty k
    by n o (inl before) = laid.layouts.variables (variable.Global n) o before
    by n o (inr same) = subst (λ (q : Object). (k : Layout) × HasLayout c.scope.file.structs q.ty k) same (l, has)

    there : (x : Variable) (o : Object) → object_of (with_global taken c d t).scope x ≡ Some o → (k : Layout) × HasLayout c.scope.file.structs o.ty k
    there (variable.Local n) o h = laid.layouts.variables (variable.Local n) o h
    there (variable.Global n) o h = by n o (one_of_if (is_new c d.name) c.scope.file.globals (object_with d t) o n h)

-- a new name, and what it means
one_new : (ns : Names Symbol) (x : List ℕ) (s : Symbol) (y : List ℕ) (v : Symbol) → meaning_of (ns ++ (x, s) ∷ []) y ≡ Some v → (meaning_of ns y ≡ Some v) ⊎ ((y ≡ x) × (s ≡ v))
one_new [] x s y v h = by (bytes_eq y x) refl h where
  by : (b : Bool) → bytes_eq y x ≡ b → (if b then Some s else None) ≡ Some v → (None ≡ Some v) ⊎ ((y ≡ x) × (s ≡ v))
  by true e k = inr ((bytes_eq-Decides y x).0 e, some_is s v k)
  by false e k = inl k
one_new (d ∷ ds) x s y v h = by (bytes_eq y d.0) h (one_new ds x s y v) where
  by : (b : Bool) → (if b then Some d.1 else meaning_of (ds ++ (x, s) ∷ []) y) ≡ Some v → (meaning_of (ds ++ (x, s) ∷ []) y ≡ Some v → (meaning_of ds y ≡ Some v) ⊎ ((y ≡ x) × (s ≡ v)))
      → ((if b then Some d.1 else meaning_of ds y) ≡ Some v) ⊎ ((y ≡ x) × (s ≡ v))
  by true h rest = inl h
  by false h rest = rest h

index_more : (fs : List Bool) (f : Bool) (n : ℕ) → n < length fs → slice_index_or (fs ++ f ∷ []) n false ≡ slice_index_or fs n false
index_more [] f n h = absurd (omega (arith, h))
index_more (g ∷ fs) f zero h = refl
index_more (g ∷ fs) f (suc n) h = index_more fs f n (omega (arith, h))

index_last : (fs : List Bool) (f : Bool) → slice_index_or (fs ++ f ∷ []) (length fs) false ≡ f
index_last [] f = refl
index_last (g ∷ fs) f = index_last fs f

false_behind : (a b : Bool) → b ≡ false → (a && b) ≡ false
false_behind true b h = h
false_behind false b h = refl

module _ (taken : Names Bool) (c : Context) (d : e.VarDecl) (t : Resolved) (laid : IsLaid c) (h : GlobalsNamed taken c) where
  abbrev here : Context
  here = with_global taken c d t

  abbrev flag : Bool
  flag = is_plain_global taken d t.ty

  number_is : (n : ℕ) → symbol.Object (variable.Global (length c.scope.file.globals)) ≡ symbol.Object (variable.Global n) → length c.globals ≡ n
  number_is n k = let e : length c.scope.file.globals ≡ n = cc in laid.global_flags ∙ e

  new_named : (y : List ℕ) (n : ℕ) → (meaning_of c.scope.file.names y ≡ Some (symbol.Object (variable.Global n)))
      ⊎ ((y ≡ d.name) × (symbol.Object (variable.Global (length c.scope.file.globals)) ≡ symbol.Object (variable.Global n)))
      → (n < length (c.globals ++ flag ∷ [])) × (is_free taken y ≡ false → slice_index_or (c.globals ++ flag ∷ []) n false ≡ false)
  new_named y n (inl e) =
      let r = h y n e in
      let more = length-append c.globals (flag ∷ []) in
      let below = r.0 in (omega (arith, below, more), λ k. index_more c.globals flag n r.0 ∙ r.1 k)
  new_named y n (inr k) =
      let at = number_is n k.1 in
      let more = length-append c.globals (flag ∷ []) in (
        omega (arith, at, more),
        λ is. ap (λ i. slice_index_or (c.globals ++ flag ∷ []) i false) (sym at) ∙ index_last c.globals flag
            ∙ false_behind (is_scalar t.ty) (is_free taken d.name) (ap (is_free taken) (sym k.0) ∙ is),
      )

  global_named : GlobalsNamed taken here
  global_named y n = by (is_free c.scope.file.names d.name) where
    by : (b : Bool) → meaning_of (if b then c.scope.file.names ++ (d.name, symbol.Object (variable.Global (length c.scope.file.globals))) ∷ [] else c.scope.file.names) y
        ≡ Some (symbol.Object (variable.Global n))
        → (n < length (more_if b c.globals flag)) × (is_free taken y ≡ false → slice_index_or (more_if b c.globals flag) n false ≡ false)
    by true e =
        new_named y n (one_new c.scope.file.names d.name (symbol.Object (variable.Global (length c.scope.file.globals))) y (symbol.Object (variable.Global n)) e)
    by false e = h y n e

global_grown : (taken : Names Bool) (s : Context × Inits) (d : e.VarDecl) (r : Context × Inits) → IsGlobal taken s d r → Grown taken s.0 r.0
global_grown taken s d r is =
    subst (Grown taken s.0) (sym is.declares)
    (record {
      laid = λ laid. with_global_laid taken s.0 d is.is is.layout (has_layout s.0.scope.file.structs d.line is.is is.layout is.held) laid;
      model = refl;
      structs = λ tag x h. h;
      named = λ laid h. global_named taken s.0 d is.is laid h;
    })

pub globals_grown : {taken : Names Bool} {s : Context × Inits} {ds : List e.VarDecl} {r : Context × Inits} → AreGlobals taken s ds r → Grown taken s.0 r.0
globals_grown {taken = taken} (judged.no_global s) = grown_self taken s.0
globals_grown {taken = taken} (judged.one_global s next behind d ds is are) = grown_then taken s.0 next.0 behind.0 (global_grown taken s d next is) (globals_grown are)
