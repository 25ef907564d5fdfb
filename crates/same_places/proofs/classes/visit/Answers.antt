use Rattle.std.proofs.Common.{◌≡◌, None, Some, map, length, subst, sym, ap, ◌∙◌}
use Rattle.same_places.specs.Same.{PartsWithin}
use Rattle.same_places.specs.Members.{class_list}
use Rattle.same_places.specs.Passing.{IsKey}
use Rattle.same_places.specs.View.{row_of, place_in}
use Rattle.same_places.proofs.Turns.{get_mapped, passing_hit, passing_first}
use Rattle.same_places.proofs.classes.visit.Goals as goal

pub key_of-requires : goal.key_of-requires
key_of-requires c =
    let row = get_mapped row_of c.args.rows.now c.args.n c.index-rows-n.result c.requires.place c.index-rows-n.is in
    subst (λ xs. PartsWithin (length xs) c.index-rows-n.result.parts.items) (sym c.as_slice.ensures.value) (c.requires.rows c.args.n (row_of c.index-rows-n.result) row).1

pub join-requires-clause-left : goal.join-requires-clause-left
join-requires-clause-left c =
    let row = get_mapped row_of c.args.rows.now c.args.n c.index-rows-n.result c.requires.place c.index-rows-n.is in (c.requires.rows c.args.n (row_of c.index-rows-n.result) row).0

pub returns-in_ok-moved-in-Some-clause-step : goal.returns-in_ok-moved-in-Some-clause-step
returns-in_ok-moved-in-Some-clause-step c start moved p =
    let row = get_mapped row_of c.args.rows.now c.args.n c.index-rows-n.result c.requires.place c.index-rows-n.is in
    let cs = (class_list c.args.classes.now) in
    let key = c.in_ok-key.key.items in
    let seen = place_in c.args.seen.now.entries in
    let is = subst (λ xs. IsKey xs (row_of c.index-rows-n.result) key) c.as_slice.ensures.value c.in_ok-key.ensures in
    let hit : seen key ≡ Some c.in-Some.place = ap seen (sym c.as_slice-2.ensures.value) ∙ sym c.place_at.ensures ∙ c.in-Some.is in
    passing_hit (length cs) (map row_of c.args.rows.now) start cs moved seen c.args.n (row_of c.index-rows-n.result) row c.requires.rows key is p c.in-Some.place hit (class_list c.join.new.classes) c.in_ok-moved-in-Some.moved c.in_ok-moved-in-Some.ensures.joined

pub returns-in_ok-note-in-None-clause-step : goal.returns-in_ok-note-in-None-clause-step
returns-in_ok-note-in-None-clause-step c start moved p =
    let row = get_mapped row_of c.args.rows.now c.args.n c.index-rows-n.result c.requires.place c.index-rows-n.is in
    let cs = (class_list c.args.classes.now) in
    let key = c.in_ok-key.key.items in
    let seen = place_in c.args.seen.now.entries in
    let is = subst (λ xs. IsKey xs (row_of c.index-rows-n.result) key) c.as_slice.ensures.value c.in_ok-key.ensures in
    let none : seen key ≡ None = ap seen (sym c.as_slice-2.ensures.value) ∙ sym c.place_at.ensures ∙ c.in-None.is in
    passing_first (length cs) (map row_of c.args.rows.now) start cs moved seen c.args.n (row_of c.index-rows-n.result) row c.requires.rows key is p (place_in c.note.new.seen.entries) none c.in_ok-note-in-None.ensures.new c.in_ok-note-in-None.ensures.others
