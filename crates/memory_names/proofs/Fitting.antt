-- Bases of slots fit.
use Rattle.std.proofs.Common.{◌≡◌, ◌≤◌, ◌<◌, ℕ, zero, suc, Bool, true, false, List, [], ◌∷◌, ◌++◌, length, take, get_or, codes, refl, ap, sym, ◌∙◌, true≢false, arith, Some, slice_get, map}
use Rattle.std.specs.Prelude.{◌&&◌, nat_lt, if◌then◌else◌}
use Rattle.std.specs.List.{list_all}
use Rattle.std.specs.Str.{bytes_eq}
use Rattle.std.proofs.lemmas.Bool.{and_parts, ltb-true}
use Rattle.std.proofs.lemmas.Option.{none-some, same_Some}
use Rattle.wp_base.specs.declared.kinds.Kind.{Kind}
use Rattle.wp_base.specs.declared.kinds.Kind.TheVariants as kind
use Rattle.typed_prog.specs.declared.operators.Variable.{Variable}
use Rattle.typed_prog.specs.declared.operators.Variable.TheVariants as variables
use Rattle.qed_terms.specs.Fresh.{Lacks}
use Rattle.qed_terms.specs.Names.{is_memory_name}
use Rattle.c_runs.specs.Program.{Facts}
use Rattle.memory_steps.specs.State.{Base}
use Rattle.memory_steps.specs.World.{AreBases}
use Rattle.memory_steps.specs.Step.{sort_at}
use Rattle.memory_steps.specs.Texts.{AreNames}
use Rattle.memory_steps.specs.Laws.{Origin, own, fixed}
use Rattle.memory_words.specs.Places.{Place, value, offset, flag, result, result_offset, answer, answer_offset, temporary, temporary_offset, numbers, blocks, offsets, Sizes, IsIn, slot, places}
use Rattle.memory_words.specs.Shapes.{FileCells, Shape, sizes, is_pointer_cell}
use Rattle.memory_words.specs.Bases.{AreSorted}
use Rattle.memory_words.proofs.SlotListing.{listed, back}
use Rattle.memory_functions.specs.GoalFunctions.{is_param}
use Rattle.memory_functions.specs.Starting.{own_if, set_if, is_plain_in, is_pointer_in, origin_of}
use Rattle.slot_names.specs.Bases.{Name, is_among, is_c_name, shown_as, differ, are_fit, temporary_name}
use Rattle.memory_names.specs.Names.{first_name, memory_name, is_pointer_result, variable_name, is_pointer, name_of, base_of, slot_bases, is_memory_place, shape_with}
use Rattle.memory_names.specs.Laws.{OwnDiffer, BasesFit, WrittenFit}
use Rattle.memory_names.proofs.Good.{Good, shown_is_good, temporary_is_good, offset_is_good, flag_is_good, first_is_good, result_is_good, answer_is_good, blocks_are_good, offsets_are_good, memory_is_good, c_at}
use Rattle.memory_names.proofs.Apart.{colon, Starts, parts, shown_lacks, marked_apart, unshown, among_at, differ_at, first_differ, first_end, first_parts, first_starts}
use Rattle.memory_names.proofs.Memories.{is_memory_end, no_memory_name, result_lacks, answer_lacks, temporary_lacks, kind_is_memory, blocks_are_memory, offsets_are_memory}

-- ---- bases, one for each place

module _ (f : Place → Base) where
  are_names : (ps : List Place) → ((i : ℕ) (a : Place) → slice_get ps i ≡ Some a → Good (f a).name) → AreNames (map f ps)
  are_names [] h = tt
  are_names (a ∷ ps) h = ((h 0 a refl).0, are_names ps (λ i b e. h (suc i) b e))

  are_bases : (ps : List Place) → ((i : ℕ) (a : Place) → slice_get ps i ≡ Some a → Good (f a).name) → AreBases (map f ps)
  are_bases [] h = tt
  are_bases (a ∷ ps) h = ((h 0 a refl).1, are_bases ps (λ i b e. h (suc i) b e))

  sort_there : (ps : List Place) (i : ℕ) (a : Place) → slice_get ps i ≡ Some a → sort_at (map f ps) i ≡ (f a).is_memory
  sort_there [] i a e = absurd (none-some a e)
  sort_there (c ∷ ps) zero a e = ap (λ (a : Place). (f a).is_memory) (same_Some c a e)
  sort_there (c ∷ ps) (suc i) a e = sort_there ps i a e

-- ---- names of memories

-- the place whose memory has this name
abbrev named : Name → Place
named x =
    if bytes_eq x (codes "M:bool") then numbers kind.Bool else if bytes_eq x (codes "M:char") then numbers kind.Char
    else if bytes_eq x (codes "M:schar") then numbers kind.SChar else if bytes_eq x (codes "M:uchar") then numbers kind.UChar
    else if bytes_eq x (codes "M:short") then numbers kind.Short else if bytes_eq x (codes "M:ushort") then numbers kind.UShort
    else if bytes_eq x (codes "M:int") then numbers kind.Int else if bytes_eq x (codes "M:uint") then numbers kind.UInt
    else if bytes_eq x (codes "M:long") then numbers kind.Long else if bytes_eq x (codes "M:ulong") then numbers kind.ULong
    else if bytes_eq x (codes "M:llong") then numbers kind.LLong else if bytes_eq x (codes "M:ullong") then numbers kind.ULLong
    else if bytes_eq x (codes "M:ptrb") then blocks else offsets

named_back : (k : Kind) → named (memory_name k) ≡ numbers k
named_back kind.Bool = refl
named_back kind.Char = refl
named_back kind.SChar = refl
named_back kind.UChar = refl
named_back kind.Short = refl
named_back kind.UShort = refl
named_back kind.Int = refl
named_back kind.UInt = refl
named_back kind.Long = refl
named_back kind.ULong = refl
named_back kind.LLong = refl
named_back kind.ULLong = refl

-- `M`, a colon, and more than one byte
abbrev is_long : Name → Bool
is_long t = nat_lt 3 (length t)

record OfMemory (x : Name) : Type 0 where
  end : Name
  starts : Starts end
  long : is_long end ≡ true
  is : x ≡ codes "M" ++ end

kind_named : (k : Kind) → OfMemory (memory_name k)
kind_named kind.Bool = record { end = codes ":bool"; starts = refl; long = refl; is = refl }
kind_named kind.Char = record { end = codes ":char"; starts = refl; long = refl; is = refl }
kind_named kind.SChar = record { end = codes ":schar"; starts = refl; long = refl; is = refl }
kind_named kind.UChar = record { end = codes ":uchar"; starts = refl; long = refl; is = refl }
kind_named kind.Short = record { end = codes ":short"; starts = refl; long = refl; is = refl }
kind_named kind.UShort = record { end = codes ":ushort"; starts = refl; long = refl; is = refl }
kind_named kind.Int = record { end = codes ":int"; starts = refl; long = refl; is = refl }
kind_named kind.UInt = record { end = codes ":uint"; starts = refl; long = refl; is = refl }
kind_named kind.Long = record { end = codes ":long"; starts = refl; long = refl; is = refl }
kind_named kind.ULong = record { end = codes ":ulong"; starts = refl; long = refl; is = refl }
kind_named kind.LLong = record { end = codes ":llong"; starts = refl; long = refl; is = refl }
kind_named kind.ULLong = record { end = codes ":ullong"; starts = refl; long = refl; is = refl }

-- an end of a variable's name is shorter
short_end : (is_pointer : Bool) (end : Name) → is_long end ≡ true → first_end is_pointer ≡ end → ⊥
short_end true end h e = true≢false (sym h ∙ ap is_long (sym e))
short_end false end h e = true≢false (sym h ∙ ap is_long (sym e))

no_offset : (is_pointer : Bool) → first_end is_pointer ≡ codes ":o" → ⊥
no_offset true e = true≢false (sym (ap (bytes_eq (codes ":o")) e))
no_offset false e = true≢false (sym (ap (bytes_eq (codes ":o")) e))

memory_lacks : Lacks colon (codes "M")
memory_lacks = ((λ e. omega (arith, e)), tt)

-- ---- what may hold any value at the start

data Role : Type 0 where
  of_value : (v : Variable) → Role
  of_offset : (v : Variable) → Role
  of_memory : (a : Place) → Role

abbrev placed : Role → Place
placed (of_value v) = value v
placed (of_offset v) = offset v
placed (of_memory a) = a

abbrev is_own : Origin → Bool
is_own own = true
is_own (fixed z) = false

own_so : (b : Bool) → own_if b ≡ own → b ≡ true
own_so true e = refl
own_so false e = absurd (true≢false (sym (ap is_own e)))

never_set : (b : Bool) → set_if b ≡ own → ⊥
never_set true e = true≢false (sym (ap is_own e))
never_set false e = true≢false (sym (ap is_own e))

-- ---- where names are fit

module _ (file owns : List Name) (params : ℕ) (p : Facts) (s : Shape) (cells : FileCells) (calls_point : Bool) (fit : are_fit file params owns ≡ true)
    (file_named : length p.globals ≤ length file) (owns_named : length s.variables ≤ length owns) where
  abbrev z : Sizes
  z = sizes p s

  abbrev name : Place → Name
  name = name_of file owns params p.globals s calls_point

  abbrev stem : Variable → Name
  stem = variable_name file owns params

  -- names of C, and names that differ
  c_names : (list_all is_c_name file && list_all is_c_name owns) ≡ true
  c_names = (and_parts (list_all is_c_name file && list_all is_c_name owns) (differ file && differ (take params owns)) fit).0

  apart : (differ file && differ (take params owns)) ≡ true
  apart = (and_parts (list_all is_c_name file && list_all is_c_name owns) (differ file && differ (take params owns)) fit).1

  file_c : list_all is_c_name file ≡ true
  file_c = (and_parts (list_all is_c_name file) (list_all is_c_name owns) c_names).0

  owns_c : list_all is_c_name owns ≡ true
  owns_c = (and_parts (list_all is_c_name file) (list_all is_c_name owns) c_names).1

  file_differ : differ file ≡ true
  file_differ = (and_parts (differ file) (differ (take params owns)) apart).0

  params_differ : differ (take params owns) ≡ true
  params_differ = (and_parts (differ file) (differ (take params owns)) apart).1

  file_at : (x : ℕ) → x < length p.globals → is_c_name (get_or file x []) ≡ true
  file_at x l = c_at file x (omega (arith, l, file_named)) file_c

  own_at : (x : ℕ) → x < length s.variables → is_c_name (get_or owns x []) ≡ true
  own_at x l = c_at owns x (omega (arith, l, owns_named)) owns_c

  -- ---- well formed names

  -- a parameter with the name of a variable of the file
  abbrev is_hidden : ℕ → Bool
  is_hidden x = is_param params x && is_among (get_or owns x []) file

  stem_is_good : (v : Variable) → IsIn z (value v) → Good (stem v)
  stem_is_good (variables.Global x) l = shown_is_good false (get_or file x []) (file_at x l)
  stem_is_good (variables.Local x) l = shown_is_good (is_hidden x) (get_or owns x []) (own_at x l)

  in_offset : (v : Variable) → IsIn z (offset v) → IsIn z (value v)
  in_offset (variables.Global x) l = l
  in_offset (variables.Local x) l = l

  in_flag : (v : Variable) → IsIn z (flag v) → IsIn z (value v)
  in_flag (variables.Global x) l = l
  in_flag (variables.Local x) l = l

  name_is_good : (a : Place) → IsIn z a → Good (name a)
  name_is_good (value v) l = first_is_good (is_pointer file owns params p.globals s calls_point v) (stem v) (stem_is_good v l)
  name_is_good (offset v) l = offset_is_good (stem v) (stem_is_good v (in_offset v l))
  name_is_good (flag v) l = flag_is_good (stem v) (stem_is_good v (in_flag v l))
  name_is_good result l = first_is_good (is_pointer_result s.result) (codes "\\result") result_is_good
  name_is_good result_offset l = offset_is_good (codes "\\result") result_is_good
  name_is_good answer l = first_is_good calls_point (codes "%") answer_is_good
  name_is_good answer_offset l = offset_is_good (codes "%") answer_is_good
  name_is_good (temporary n) l = first_is_good (is_pointer_cell (s.temp_kind n)) _ (temporary_is_good n)
  name_is_good (temporary_offset n) l = offset_is_good _ (temporary_is_good n)
  name_is_good (numbers k) l = memory_is_good k
  name_is_good blocks l = blocks_are_good
  name_is_good offsets l = offsets_are_good

  all_good : (i : ℕ) (a : Place) → slice_get (places z) i ≡ Some a → Good (name a)
  all_good i a e = name_is_good a (back z i a e).0

  -- ---- own names differ

  -- a variable that holds any value at the start
  abbrev is_given : Variable → Bool
  is_given (variables.Global x) = true
  is_given (variables.Local x) = is_param params x

  record IsGiven (v : Variable) : Type 0 where
    there : IsIn z (value v)
    given : is_given v ≡ true

  stem_lacks : (v : Variable) → IsIn z (value v) → Lacks colon (stem v)
  stem_lacks (variables.Global x) l = shown_lacks false (get_or file x []) (file_at x l)
  stem_lacks (variables.Local x) l = shown_lacks (is_hidden x) (get_or owns x []) (own_at x l)

  -- a variable of the file and a parameter
  file_apart : (x y : ℕ) → x < length p.globals → y < length s.variables → is_param params y ≡ true → stem (variables.Global x) ≡ stem (variables.Local y) → ⊥
  file_apart x y l m g e = by (is_among (get_or owns y []) file) refl
    where
      by : (b : Bool) → is_among (get_or owns y []) file ≡ b → ⊥
      by true k = marked_apart (get_or file x []) (get_or owns y []) (file_at x l) (e ∙ (λ i. shown_as (g i && k i) (get_or owns y [])))
      by false k =
          let same : get_or file x [] ≡ get_or owns y [] = e ∙ (λ i. shown_as (g i && k i) (get_or owns y [])) in
          true≢false (sym (among_at file x (omega (arith, l, file_named))) ∙ ap (λ n. is_among n file) same ∙ k)

  stems_differ : (v w : Variable) → IsGiven v → IsGiven w → stem v ≡ stem w → v ≡ w
  stems_differ (variables.Global x) (variables.Global y) h k e =
      let l = h.there in let m = k.there in
      ap variables.Global (differ_at file x y (omega (arith, l, file_named)) (omega (arith, m, file_named)) file_differ e)
  stems_differ (variables.Global x) (variables.Local y) h k e = absurd (file_apart x y h.there k.there k.given e)
  stems_differ (variables.Local x) (variables.Global y) h k e = absurd (file_apart y x k.there h.there h.given (sym e))
  stems_differ (variables.Local x) (variables.Local y) h k e =
      let l = h.there in let m = k.there in
      let same = unshown (is_hidden x) (is_hidden y) (get_or owns x []) (get_or owns y []) (own_at x l) (own_at y m) e in
      ap variables.Local (first_differ params owns x y (ltb-true x params h.given) (ltb-true y params k.given) (omega (arith, l, owns_named))
      (omega (arith, m, owns_named)) params_differ same)

  -- two that hold any value at the start
  abbrev Apart : (a b : Place) → Type 0
  Apart a b = name a ≡ name b → a ≡ b

  memory_named : (a : Place) → is_memory_place a ≡ true → OfMemory (name a)
  memory_named (value v) h = absurd (true≢false (sym h))
  memory_named (offset v) h = absurd (true≢false (sym h))
  memory_named (flag v) h = absurd (true≢false (sym h))
  memory_named result h = absurd (true≢false (sym h))
  memory_named result_offset h = absurd (true≢false (sym h))
  memory_named answer h = absurd (true≢false (sym h))
  memory_named answer_offset h = absurd (true≢false (sym h))
  memory_named (temporary n) h = absurd (true≢false (sym h))
  memory_named (temporary_offset n) h = absurd (true≢false (sym h))
  memory_named (numbers k) h = kind_named k
  memory_named blocks h = record { end = codes ":ptrb"; starts = refl; long = refl; is = refl }
  memory_named offsets h = record { end = codes ":ptro"; starts = refl; long = refl; is = refl }

  place_named : (a : Place) → is_memory_place a ≡ true → named (name a) ≡ a
  place_named (value v) h = absurd (true≢false (sym h))
  place_named (offset v) h = absurd (true≢false (sym h))
  place_named (flag v) h = absurd (true≢false (sym h))
  place_named result h = absurd (true≢false (sym h))
  place_named result_offset h = absurd (true≢false (sym h))
  place_named answer h = absurd (true≢false (sym h))
  place_named answer_offset h = absurd (true≢false (sym h))
  place_named (temporary n) h = absurd (true≢false (sym h))
  place_named (temporary_offset n) h = absurd (true≢false (sym h))
  place_named (numbers k) h = named_back k
  place_named blocks h = refl
  place_named offsets h = refl

  memories_apart : (a b : Place) → is_memory_place a ≡ true → is_memory_place b ≡ true → Apart a b
  memories_apart a b h k e = sym (place_named a h) ∙ ap named e ∙ place_named b k

  abbrev points : Variable → Bool
  points v = is_pointer file owns params p.globals s calls_point v

  values_apart : (v w : Variable) → IsGiven v → IsGiven w → Apart (value v) (value w)
  values_apart v w h k e =
      let same = sym (first_parts (points v) (stem v)) ∙ e ∙ first_parts (points w) (stem w) in
      ap value (stems_differ v w h k (parts (stem v) (stem w) (first_end (points v)) (first_end (points w)) (stem_lacks v h.there) (stem_lacks w k.there)
      (first_starts (points v)) (first_starts (points w)) same).0)

  offsets_apart : (v w : Variable) → IsGiven v → IsGiven w → Apart (offset v) (offset w)
  offsets_apart v w h k e =
      ap offset (stems_differ v w h k (parts (stem v) (stem w) (codes ":o") (codes ":o") (stem_lacks v h.there) (stem_lacks w k.there) refl refl e).0)

  value_no_offset : (v w : Variable) → IsGiven v → IsGiven w → name (value v) ≡ name (offset w) → ⊥
  value_no_offset v w h k e =
      no_offset (points v) (parts (stem v) (stem w) (first_end (points v)) (codes ":o") (stem_lacks v h.there) (stem_lacks w k.there) (first_starts (points v)) refl
      (sym (first_parts (points v) (stem v)) ∙ e)).1

  value_no_memory : (v : Variable) (a : Place) → IsGiven v → is_memory_place a ≡ true → name (value v) ≡ name a → ⊥
  value_no_memory v a h k e =
      let m = memory_named a k in
      short_end (points v) m.end m.long
      (parts (stem v) (codes "M") (first_end (points v)) m.end (stem_lacks v h.there) memory_lacks (first_starts (points v)) m.starts
      (sym (first_parts (points v) (stem v)) ∙ e ∙ m.is)).1

  offset_no_memory : (v : Variable) (a : Place) → IsGiven v → is_memory_place a ≡ true → name (offset v) ≡ name a → ⊥
  offset_no_memory v a h k e =
      let m = memory_named a k in
      true≢false (sym m.long ∙ ap is_long (sym (parts (stem v) (codes "M") (codes ":o") m.end (stem_lacks v h.there) memory_lacks refl m.starts (e ∙ m.is)).1))

  -- what holds any value at the start
  abbrev Holds : Role → Type 0
  Holds (of_value v) = IsGiven v
  Holds (of_offset v) = IsGiven v
  Holds (of_memory a) = is_memory_place a ≡ true

  roles_apart : (r q : Role) → Holds r → Holds q → Apart (placed r) (placed q)
  roles_apart (of_value v) (of_value w) h k e = values_apart v w h k e
  roles_apart (of_value v) (of_offset w) h k e = absurd (value_no_offset v w h k e)
  roles_apart (of_value v) (of_memory a) h k e = absurd (value_no_memory v a h k e)
  roles_apart (of_offset v) (of_value w) h k e = absurd (value_no_offset w v k h (sym e))
  roles_apart (of_offset v) (of_offset w) h k e = offsets_apart v w h k e
  roles_apart (of_offset v) (of_memory a) h k e = absurd (offset_no_memory v a h k e)
  roles_apart (of_memory a) (of_value w) h k e = absurd (value_no_memory w a k h (sym e))
  roles_apart (of_memory a) (of_offset w) h k e = absurd (offset_no_memory w a k h (sym e))
  roles_apart (of_memory a) (of_memory b) h k e = memories_apart a b h k e

  record Seen (a : Place) : Type 0 where
    role : Role
    holds : Holds role
    is : placed role ≡ a

  abbrev is_pointer_at : ℕ → Bool
  is_pointer_at x = is_pointer_in (slice_get s.variables x)

  no_own : {a : Place} → own_if false ≡ own → Seen a
  no_own e = absurd (true≢false (sym (own_so false e)))

  seen : (a : Place) → IsIn z a → origin_of p s cells params a ≡ own → Seen a
  seen (value (variables.Global x)) l e = record { role = of_value (variables.Global x); holds = record { there = l; given = refl }; is = refl }
  seen (value (variables.Local x)) l e =
      record { role = of_value (variables.Local x); holds = record { there = l; given = own_so (is_param params x) e }; is = refl }
  seen (offset (variables.Global x)) l e = record { role = of_offset (variables.Global x); holds = record { there = l; given = refl }; is = refl }
  seen (offset (variables.Local x)) l e = record {
    role = of_offset (variables.Local x);
    holds = record { there = l; given = (and_parts (is_param params x) (is_pointer_at x) (own_so (is_param params x && is_pointer_at x) e)).0 };
    is = refl;
  }
  seen (flag (variables.Global x)) l e = absurd (never_set (is_plain_in (slice_get p.globals x)) e)
  seen (flag (variables.Local x)) l e = absurd (never_set (is_param params x) e)
  seen result l e = no_own e
  seen result_offset l e = no_own e
  seen answer l e = no_own e
  seen answer_offset l e = no_own e
  seen (temporary n) l e = no_own e
  seen (temporary_offset n) l e = no_own e
  seen (numbers k) l e = record { role = of_memory (numbers k); holds = refl; is = refl }
  seen blocks l e = record { role = of_memory blocks; holds = refl; is = refl }
  seen offsets l e = record { role = of_memory offsets; holds = refl; is = refl }

  own_differ : OwnDiffer p s cells params name
  own_differ a b l m h k e =
      let r = seen a l h in
      let q = seen b m k in
      sym r.is ∙ roles_apart r.role q.role r.holds q.holds (ap name r.is ∙ e ∙ sym (ap name q.is)) ∙ q.is

  sorted : AreSorted z cells (slot_bases file owns params p.globals s calls_point cells)
  sorted a l = sort_there (base_of file owns params p.globals s calls_point cells) (places z) (slot z a) a (listed z a l)

  -- ---- names of memories

  no_first : (b : Bool) (x : Name) → Lacks colon x → is_memory_name (first_name b x) ≡ false
  no_first b x l = ap is_memory_name (first_parts b x) ∙ no_memory_name x (first_end b) l (by b)
    where
      by : (b : Bool) → is_memory_end (first_end b) ≡ false
      by true = refl
      by false = refl

  memories : (a : Place) → IsIn z a → is_memory_name (name a) ≡ is_memory_place a
  memories (value v) l = no_first (points v) (stem v) (stem_lacks v l)
  memories (offset v) l = no_memory_name (stem v) (codes ":o") (stem_lacks v (in_offset v l)) refl
  memories (flag v) l = no_memory_name (stem v) (codes ":i") (stem_lacks v (in_flag v l)) refl
  memories result l = no_first (is_pointer_result s.result) (codes "\\result") result_lacks
  memories result_offset l = no_memory_name (codes "\\result") (codes ":o") result_lacks refl
  memories answer l = no_first calls_point (codes "%") answer_lacks
  memories answer_offset l = no_memory_name (codes "%") (codes ":o") answer_lacks refl
  memories (temporary n) l = no_first (is_pointer_cell (s.temp_kind n)) (temporary_name (suc n)) (temporary_lacks (suc n))
  memories (temporary_offset n) l = no_memory_name (temporary_name (suc n)) (codes ":o") (temporary_lacks (suc n)) refl
  memories (numbers k) l = kind_is_memory k
  memories blocks l = blocks_are_memory
  memories offsets l = offsets_are_memory

pub bases_fit : BasesFit
bases_fit file owns params p s cells b fit l m =
    let good = all_good file owns params p s cells b fit l m in
    let f = base_of file owns params p.globals s b cells in record {
      names = are_names f (places (sizes p s)) good;
      bases = are_bases f (places (sizes p s)) good;
      sorted = sorted file owns params p s cells b fit l m;
      differ = own_differ file owns params p s cells b fit l m;
      memories = memories file owns params p s cells b fit l m;
    }

pub written_fit : WrittenFit
written_fit m q cells texts n f file owns ks b fit k l = bases_fit file owns f.params q.facts (shape_with ks f.variables f.result) cells b fit k l
