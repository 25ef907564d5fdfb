-- Labels (ACSL 2.4.3), and what may stand under them.
use Rattle.std.specs.Prelude.{ℕ, Bool, true, false, ◌&&◌, ◌||◌, not, nat_lt, List, codes, bytes_eq, Option, Some, None, if◌then◌else◌}
use Rattle.acsl_trees.specs.declared.heads.Label.{Label}
use Rattle.acsl_trees.specs.declared.heads.Label.TheVariants as label
use Rattle.acsl_names.specs.declared.names.Site.{Site}
use Rattle.acsl_names.specs.declared.names.Site.TheVariants as site
use Rattle.acsl_names.specs.declared.names.Reading.{Reading}
use Rattle.acsl_names.specs.Names.{Around}

-- which labels stand around
abbrev pub current : Reading
current = record { pre = false; post = false; loop_entry = false }

-- a definition has no state but the one in force
abbrev pub has_labels : Site → Bool
has_labels site.Definition = false
has_labels site.Contract = true
has_labels site.Ensures = true
has_labels (site.Code entry) = true

-- `\result` and the state at the return belong to `ensures`
abbrev pub is_ensures : Site → Bool
is_ensures site.Ensures = true
is_ensures site.Definition = false
is_ensures site.Contract = false
is_ensures (site.Code entry) = false

-- how many locals were declared where the loop around began
abbrev pub loop_locals : Site → Option ℕ
loop_locals (site.Code entry) = entry
loop_locals site.Definition = None
loop_locals site.Contract = None
loop_locals site.Ensures = None

abbrev pub label_if : Bool → Label → Option Label
label_if true l = Some l
label_if false l = None

abbrev pub is_loop : Option ℕ → Bool
is_loop (Some n) = true
is_loop None = false

abbrev pub is_entry_label : List ℕ → Bool
is_entry_label x = bytes_eq x (codes "Pre") || bytes_eq x (codes "Old")

abbrev pub label_in : Site → List ℕ → Option Label
label_in s x =
    if bytes_eq x (codes "Here") then Some label.Here
    else if is_entry_label x then Some label.Pre
    else if bytes_eq x (codes "Post") then label_if (is_ensures s) label.Post
    else if bytes_eq x (codes "LoopEntry") then label_if (is_loop (loop_locals s)) label.LoopEntry
    else None

-- the label of this name; none where there is none, or where it may not stand
unfoldable pub label_at : Site → List ℕ → Option Label
label_at s x = if has_labels s then label_in s x else None

-- `\old`
abbrev pub old_at : Site → Option Label
old_at s = label_if (has_labels s) label.Pre

-- what stands around inside a label
abbrev pub under : Label → Reading → Reading
under label.Here r = r
under label.Pre r = record r { pre = true }
under label.Post r = record r { post = true }
under label.LoopEntry r = record r { loop_entry = true }

abbrev pub under_if : Option Label → Reading → Reading
under_if (Some l) r = under l r
under_if None r = r

-- ---- locals

abbrev pub is_before : ℕ → Option ℕ → Bool
is_before n (Some count) = nat_lt n count
is_before n None = true

-- A local stands under a label only where it was declared before that state: at the function's entry and at its return there are its parameters alone.
unfoldable pub may_stand : Around → Reading → (local : ℕ) → Bool
may_stand c r n = (not (r.pre || r.post) || nat_lt n c.params) && (not r.loop_entry || is_before n (loop_locals c.site))

-- a parameter has no address in a contract and at the function's entry
abbrev pub is_contract : Site → Bool
is_contract site.Contract = true
is_contract site.Ensures = true
is_contract site.Definition = false
is_contract (site.Code entry) = false

unfoldable pub has_address : Around → Reading → (local : ℕ) → Bool
has_address c r n = not (nat_lt n c.params && (is_contract c.site || r.pre))
