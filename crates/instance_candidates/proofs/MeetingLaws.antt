-- Loads that may meet, one after another.
use Rattle.std.proofs.Common.{◌≡◌, ℕ, ◌+◌, ◌<◌, ◌≤◌, Bool, true, false, ◌&&◌, cond, List, [], ◌∷◌, ◌++◌, map, drop, length, get_or, append_assoc, refl, sym, ◌∙◌, ap}
use Rattle.std.proofs.lemmas.List.{map_push}
use Rattle.std.specs.Prelude.{Option, if◌then◌else◌}
use Rattle.qed_terms.specs.Order.{same}
use Rattle.qed_terms.specs.Tree.{Tree}
use Rattle.qed_linear.specs.Linear.{Lin, to_lin}
use Rattle.qed_memories.specs.Memories.{difference, apart}
use Rattle.instance_rows.specs.Accesses.{Load}
use Rattle.instance_rows.specs.Candidates.{Candidate, is_unknown, may_meet, meeting, meetings_with, offset_candidates}
use Rattle.instance_candidates.specs.declared.meetings.FormedLoad.{FormedLoad}
use Rattle.instance_candidates.specs.declared.meetings.Meeting.{Meeting}
use Rattle.instance_candidates.specs.Ids.{formed_of, meeting_of}
use Rattle.branch_accesses.proofs.Gathered.{nil_behind, cut, none_behind}

-- ---- two loads

pub other_memory : (l k : Load) (b : Bool) → b ≡ same l.memory k.memory → b ≡ false → false ≡ may_meet l k
other_memory l k b e f = ap (λ c. c && is_unknown (apart l.offset k.offset)) (sym f ∙ e)

pub one_memory : (l k : Load) (f g : Lin) (b u : Bool) → b ≡ same l.memory k.memory → b ≡ true → f ≡ to_lin l.offset → g ≡ to_lin k.offset → u ≡ is_unknown (difference f g) → u ≡ may_meet l k
one_memory l k f g b u e t p q s =
    s ∙ (λ i. is_unknown (difference (p i) (q i))) ∙ ap (λ c. c && is_unknown (apart l.offset k.offset)) (sym t ∙ e)

-- ---- a load with those behind it, and all of them

module _ {Id : Type 0} (tree : Id → Tree) where
  abbrev pub behind : FormedLoad Id → List (FormedLoad Id) → List Candidate
  behind l ks = meetings_with (formed_of tree l) (map (formed_of tree) ks)

  one_behind : (l k : FormedLoad Id) (b : Bool) (done : List (Meeting Id)) (rest : List Candidate)
      → map (meeting_of tree) (cond b (done ++ record { first = l.load; second = k.load } ∷ []) done) ++ rest ≡ map (meeting_of tree) done ++ (cond b (meeting (formed_of tree l) (formed_of tree k) ∷ rest) rest)
  one_behind l k true done rest =
      let m : Meeting Id = record { first = l.load; second = k.load } in
      ap (λ xs. xs ++ rest) (map_push (meeting_of tree) done m) ∙ append_assoc (map (meeting_of tree) done) (meeting_of tree m ∷ []) rest
  one_behind l k false done rest = refl

  pub meet_more : (l : FormedLoad Id) (others : List (FormedLoad Id)) (i : ℕ) (k : FormedLoad Id) (b : Bool) (done now : List (Meeting Id)) (whole : List Candidate)
      → i < length others → k ≡ get_or others i k → b ≡ may_meet (formed_of tree l) (formed_of tree k)
      → now ≡ (cond b (done ++ record { first = l.load; second = k.load } ∷ []) done)
      → map (meeting_of tree) done ++ behind l (drop i others) ≡ whole → map (meeting_of tree) now ++ behind l (drop (i + 1) others) ≡ whole
  meet_more l others i k b done now whole n e m p w =
      let rest = behind l (drop (i + 1) others) in
      ap (λ xs. map (meeting_of tree) xs ++ rest) p ∙ one_behind l k b done rest
      ∙ ap (λ c. map (meeting_of tree) done ++ (cond c (meeting (formed_of tree l) (formed_of tree k) ∷ rest) rest)) m
      ∙ ap (λ ks. map (meeting_of tree) done ++ behind l ks) (sym (cut others i k n e)) ∙ w

  pub meet_done : (l : FormedLoad Id) (others : List (FormedLoad Id)) (i : ℕ) (done : List (Meeting Id)) (whole : List Candidate) → length others ≤ i
      → map (meeting_of tree) done ++ behind l (drop i others) ≡ whole → map (meeting_of tree) done ≡ whole
  meet_done l others i done whole n w = sym (nil_behind (map (meeting_of tree) done)) ∙ ap (λ ks. map (meeting_of tree) done ++ behind l ks) (sym (none_behind others i n)) ∙ w

  abbrev pub pairs : List (FormedLoad Id) → List Candidate
  pairs ls = offset_candidates (map (formed_of tree) ls)

  pub pairs_more : (loads : List (FormedLoad Id)) (i : ℕ) (l : FormedLoad Id) (done now whole : List Candidate) → i < length loads → l ≡ get_or loads i l
      → now ≡ done ++ behind l (drop (i + 1) loads) → done ++ pairs (drop i loads) ≡ whole → now ++ pairs (drop (i + 1) loads) ≡ whole
  pairs_more loads i l done now whole n e p w =
      ap (λ cs. cs ++ pairs (drop (i + 1) loads)) p ∙ append_assoc done (behind l (drop (i + 1) loads)) (pairs (drop (i + 1) loads))
      ∙ ap (λ ls. done ++ pairs ls) (sym (cut loads i l n e)) ∙ w

  pub pairs_done : (loads : List (FormedLoad Id)) (i : ℕ) (done whole : List Candidate) → length loads ≤ i → done ++ pairs (drop i loads) ≡ whole → done ≡ whole
  pairs_done loads i done whole n w = sym (nil_behind done) ∙ ap (λ ls. done ++ pairs ls) (sym (none_behind loads i n)) ∙ w
