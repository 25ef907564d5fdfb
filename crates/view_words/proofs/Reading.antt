-- The words read one after the other, and that what is read is the command.
use Rattle.std.proofs.Common.{◌≡◌, ℕ, Bool, true, false, not, ◌&&◌, cond, List, [], ◌∷◌, ◌++◌, Option, Some, None, refl, sym, ap, append-nil}
use Rattle.std.specs.Prelude.{is_some, option_and_then}
use Rattle.view_words.specs.declared.words.Key.{Key}
use Rattle.view_words.specs.declared.words.Key.TheVariants as key
use Rattle.wp_words.specs.Command.{begins_with_dash, ends_options, options, operands}
use Rattle.view_words.specs.Command.{Command, Asked, nothing, key_of, joined, with_value, with_option, asked_behind, files_in, command, command_of}
use Rattle.view_words.specs.CommandView.{with_operand}

abbrev pub go_on : {X : Type 0} → Option X → (X → Option Command) → Option Command
go_on None f = None
go_on (Some x) f = f x

-- the words to come: behind an option that wants a value or not, where the options have ended or not, with what they asked for, and the operands so far
abbrev pub read_on : (wants : Option Key) (ended : Bool) → Asked → List (List ℕ) → List (List ℕ) → Option Command
read_on (Some k) ended a found [] = None
read_on None ended a found [] = command (files_in found) (Some a)
read_on (Some k) ended a found (w ∷ ws) = go_on (with_value a k w) (λ b. read_on None ended b found ws)
read_on None ended a found (w ∷ ws) =
    cond (not ended && ends_options w) (read_on None true a found ws)
    (cond (not ended && is_some (key_of w)) (read_on (key_of w) ended a found ws)
    (cond (not ended && begins_with_dash w) (go_on (with_option a w) (λ b. read_on None ended b found ws))
    (go_on (with_operand found w) (λ f. read_on None ended a f ws))))

-- what was read, and the words to come, as a command
abbrev behind : Asked → List (List ℕ) → List (List ℕ) → Option Command
behind a found js = command (files_in (found ++ operands js)) (asked_behind a (options js))

abbrev pub made : (wants : Option Key) (ended : Bool) → Asked → List (List ℕ) → List (List ℕ) → Option Command
made wants true a found ws = command (files_in (found ++ ws)) (Some a)
made wants false a found ws = behind a found (joined wants ws)

at_end_made : (ended : Bool) (a : Asked) (found : List (List ℕ)) → command (files_in found) (Some a) ≡ made None ended a found []
at_end_made true a found = ap (λ f. command (files_in f) (Some a)) (sym (append-nil found))
at_end_made false a found = ap (λ f. command (files_in f) (Some a)) (sym (append-nil found))

-- neither files nor options are wanted where the other is wrong
no_options : (files : Option (List ℕ × List ℕ)) → command files None ≡ None
no_options None = refl
no_options (Some files) = refl

-- ---- one more word, where the options have ended

after_end_made : (a : Asked) (found : List (List ℕ)) (w : List ℕ) (ws : List (List ℕ))
    → ((found : List (List ℕ)) → read_on None true a found ws ≡ made None true a found ws)
    → read_on None true a found (w ∷ ws) ≡ made None true a found (w ∷ ws)
after_end_made a [] w ws rest = rest (w ∷ [])
after_end_made a (x ∷ []) w ws rest = rest (x ∷ w ∷ [])
after_end_made a (x ∷ y ∷ []) w ws rest = refl
after_end_made a (x ∷ y ∷ z ∷ found) w ws rest = refl

-- ---- one more word before that

-- what an option asks for, and the words to come
option_then : (found : List (List ℕ)) (a : Option Asked) (ws : List (List ℕ)) → ((c : Asked) → read_on None false c found ws ≡ behind c found (joined None ws))
    → go_on a (λ c. read_on None false c found ws) ≡ command (files_in (found ++ operands (joined None ws))) (option_and_then (λ c. asked_behind c (options (joined None ws))) a)
option_then found None ws rest = sym (no_options (files_in (found ++ operands (joined None ws))))
option_then found (Some c) ws rest = rest c

-- a value
value_made : (k : Key) (a : Asked) (found : List (List ℕ)) (w : List ℕ) (ws : List (List ℕ)) → ((c : Asked) → read_on None false c found ws ≡ made None false c found ws)
    → read_on (Some k) false a found (w ∷ ws) ≡ made (Some k) false a found (w ∷ ws)
value_made key.Function a found w ws rest = option_then found (with_value a key.Function w) ws rest
value_made key.Check a found w ws rest = option_then found (with_value a key.Check w) ws rest
value_made key.Verdict a found w ws rest = option_then found (with_value a key.Verdict w) ws rest

-- a value lacks
no_value : (k : Key) (a : Asked) (found : List (List ℕ)) → None ≡ made (Some k) false a found []
no_value key.Function a found = sym (no_options (files_in (found ++ [])))
no_value key.Check a found = sym (no_options (files_in (found ++ [])))
no_value key.Verdict a found = sym (no_options (files_in (found ++ [])))

-- the options end
end_made : (a : Asked) (found : List (List ℕ)) (w : List ℕ) (ws : List (List ℕ)) → ends_options w ≡ true
    → read_on None true a found ws ≡ made None true a found ws
    → read_on None false a found (w ∷ ws) ≡ made None false a found (w ∷ ws)
end_made a found w ws e rest = rw (e, e) rest

-- an option whose value is the next word
waits_made : (k : Key) (a : Asked) (found : List (List ℕ)) (w : List ℕ) (ws : List (List ℕ)) → ends_options w ≡ false → key_of w ≡ Some k
    → read_on (Some k) false a found ws ≡ made (Some k) false a found ws
    → read_on None false a found (w ∷ ws) ≡ made None false a found (w ∷ ws)
waits_made k a found w ws e t rest = rw (e, t) rest

-- another option
option_made : (a : Asked) (found : List (List ℕ)) (w : List ℕ) (ws : List (List ℕ)) → ends_options w ≡ false → key_of w ≡ None → begins_with_dash w ≡ true
    → ((c : Asked) → read_on None false c found ws ≡ made None false c found ws)
    → read_on None false a found (w ∷ ws) ≡ made None false a found (w ∷ ws)
option_made a found w ws e t d rest = rw (e, t, e, d) (option_then found (with_option a w) ws rest)

-- an operand
operand_then : (a : Asked) (found : List (List ℕ)) (w : List ℕ) (ws js : List (List ℕ)) (o : Option Asked)
    → ((found : List (List ℕ)) → read_on None false a found ws ≡ command (files_in (found ++ js)) o)
    → go_on (with_operand found w) (λ f. read_on None false a f ws) ≡ command (files_in (found ++ w ∷ js)) o
operand_then a [] w ws js o rest = rest (w ∷ [])
operand_then a (x ∷ []) w ws js o rest = rest (x ∷ w ∷ [])
operand_then a (x ∷ y ∷ []) w ws js o rest = refl
operand_then a (x ∷ y ∷ z ∷ found) w ws js o rest = refl

operand_made : (a : Asked) (found : List (List ℕ)) (w : List ℕ) (ws : List (List ℕ)) → ends_options w ≡ false → key_of w ≡ None → begins_with_dash w ≡ false
    → ((found : List (List ℕ)) → read_on None false a found ws ≡ made None false a found ws)
    → read_on None false a found (w ∷ ws) ≡ made None false a found (w ∷ ws)
operand_made a found w ws e t d rest = rw (e, t, e, d) (operand_then a found w ws (operands (joined None ws)) (asked_behind a (options (joined None ws))) rest)

before_end_made : (a : Asked) (found : List (List ℕ)) (w : List ℕ) (ws : List (List ℕ)) (e : Bool) (t : Option Key) (d : Bool) → ends_options w ≡ e → key_of w ≡ t → begins_with_dash w ≡ d
    → ((wants : Option Key) (ended : Bool) (a : Asked) (found : List (List ℕ)) → is_some wants && ended ≡ false → read_on wants ended a found ws ≡ made wants ended a found ws)
    → read_on None false a found (w ∷ ws) ≡ made None false a found (w ∷ ws)
before_end_made a found w ws true t d ee tt' dd rest = end_made a found w ws ee (rest None true a found refl)
before_end_made a found w ws false (Some k) d ee tt' dd rest = waits_made k a found w ws ee tt' (rest (Some k) false a found refl)
before_end_made a found w ws false None true ee tt' dd rest = option_made a found w ws ee tt' dd (λ c. rest None false c found refl)
before_end_made a found w ws false None false ee tt' dd rest = operand_made a found w ws ee tt' dd (λ f. rest None false a f refl)

-- no value is wanted where the options have ended
all_made : (ws : List (List ℕ)) (wants : Option Key) (ended : Bool) (a : Asked) (found : List (List ℕ)) → is_some wants && ended ≡ false → read_on wants ended a found ws ≡ made wants ended a found ws
all_made [] None ended a found not_both = at_end_made ended a found
all_made [] (Some k) false a found not_both = no_value k a found
all_made ws (Some k) true a found not_both = absurd cc
all_made (w ∷ ws) (Some k) false a found not_both = value_made k a found w ws (λ c. all_made ws None false c found refl)
all_made (w ∷ ws) None true a found not_both = after_end_made a found w ws (λ found. all_made ws None true a found refl)
all_made (w ∷ ws) None false a found not_both =
    before_end_made a found w ws (ends_options w) (key_of w) (begins_with_dash w) refl refl refl (λ v e b f n. all_made ws v e b f n)

pub words_are_read : (ws : List (List ℕ)) → read_on None false nothing [] ws ≡ command_of ws
unfolding command_of
words_are_read ws = all_made ws None false nothing [] refl
