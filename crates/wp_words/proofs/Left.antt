-- The words read one after the other, and that what is read is the command.
use Rattle.std.proofs.Common.{◌≡◌, ℕ, Bool, true, false, ◌||◌, cond, ◌+◌, ◌<◌, List, [], ◌∷◌, ◌++◌, drop, length, get_or, Option, Some, None, refl, sym, ap, ◌∙◌, subst, arith}
use Rattle.std.proofs.lemmas.List.{drop_all, drop_more}
use Rattle.std.specs.Prelude.{codes, option_to_list, option_and_then}
use Rattle.std.specs.List.{list_all}
use Rattle.std.specs.Option.{unwrap_or}
use Rattle.std.specs.Str.{bytes_eq, is_utf8}
use Rattle.std.proofs.lemmas.Slice.Eq.{bytes_eq-Decides}
use Rattle.c_kinds.specs.declared.models.Machdep.TheVariants as machdep
use Rattle.wp_words.specs.Reading.{Reading, reading_of, go_on, word_read, all_read, read_on, at_end}
use Rattle.wp_words.specs.Command.{Command, Asked, nothing, begins_with_dash, ends_options, takes_value, joined, options, operands, with_option, wanted_by, asked_behind, file_in, command, command_of}

-- the words to come: behind an option that wants a value or not, where the options have ended or not, with what they asked for, and a file or none
abbrev read : (wants : Option (List ℕ)) → (ended : Bool) → Asked → Option (List ℕ) → List (List ℕ) → Option Command
read wants ended a file ws = read_on (reading_of wants ended a file) ws

-- what was read, and the words to come, as a command
abbrev behind : Asked → Option (List ℕ) → List (List ℕ) → Option Command
behind a file js = command (file_in (option_to_list file ++ operands js)) (asked_behind a (options js))

abbrev pub made : (wants : Option (List ℕ)) → (ended : Bool) → Asked → Option (List ℕ) → List (List ℕ) → Option Command
made wants true a file ws = cond (list_all is_utf8 ws) (command (file_in (option_to_list file ++ ws)) (Some a)) None
made wants false a file ws = cond (list_all is_utf8 ws) (behind a file (joined wants ws)) None

-- a file that isn't `-` alone
is_file : (a : Asked) (file : List ℕ) (b : Bool)
    → cond b None (Some (record { file = file; model = unwrap_or a.model machdep.X86_64; wanted = wanted_by a })) ≡ command (cond b None (Some file)) (Some a)
is_file a file true = refl
is_file a file false = refl

at_end_made : (ended : Bool) (a : Asked) (file : Option (List ℕ)) → at_end a file ≡ made None ended a file []
at_end_made true a None = refl
at_end_made false a None = refl
at_end_made true a (Some file) = is_file a file (bytes_eq file (codes "-"))
at_end_made false a (Some file) = is_file a file (bytes_eq file (codes "-"))

-- neither a file nor options are wanted where the other is wrong
no_options : (b : Bool) (file : Option (List ℕ)) → cond b (command file None) None ≡ None
no_options true None = refl
no_options true (Some file) = refl
no_options false file = refl

no_file : (b : Bool) (a : Option Asked) → cond b (command None a) None ≡ None
no_file true a = refl
no_file false a = refl

-- ---- options that take a value

-- an option that takes a value, as one word with that value, and alone
pub record IsValued (o : List ℕ) : Type 0 where
  pub no_end : (w : List ℕ) → ends_options (o ++ (codes "=" ++ w)) ≡ false
  pub dashed : (w : List ℕ) → begins_with_dash (o ++ (codes "=" ++ w)) ≡ true
  pub no_end_alone : ends_options o ≡ false
  pub dashed_alone : begins_with_dash o ≡ true
  pub nothing_alone : (a : Asked) → with_option a o ≡ None

model_valued : IsValued (codes "--machdep")
model_valued = record { no_end = λ w. refl; dashed = λ w. refl; no_end_alone = refl; dashed_alone = refl; nothing_alone = λ a. refl }

fuel_valued : IsValued (codes "--fuel")
fuel_valued = record { no_end = λ w. refl; dashed = λ w. refl; no_end_alone = refl; dashed_alone = refl; nothing_alone = λ a. refl }

branches_valued : IsValued (codes "--branches")
branches_valued = record { no_end = λ w. refl; dashed = λ w. refl; no_end_alone = refl; dashed_alone = refl; nothing_alone = λ a. refl }

valued : (o : List ℕ) → takes_value o ≡ true → IsValued o
valued o takes = by (bytes_eq o (codes "--machdep")) (bytes_eq o (codes "--fuel")) (bytes_eq o (codes "--branches")) refl refl refl takes
  where
    is : (n : List ℕ) → bytes_eq o n ≡ true → IsValued n → IsValued o
    is n e v = subst IsValued (sym ((bytes_eq-Decides o n).0 e)) v

    by : (m f b : Bool) → bytes_eq o (codes "--machdep") ≡ m → bytes_eq o (codes "--fuel") ≡ f → bytes_eq o (codes "--branches") ≡ b → m || f || b ≡ true → IsValued o
    by true f b em ef eb t = is (codes "--machdep") em model_valued
    by false true b em ef eb t = is (codes "--fuel") ef fuel_valued
    by false false true em ef eb t = is (codes "--branches") eb branches_valued
    by false false false em ef eb t = absurd cc

-- ---- one more word, where the options have ended

after_end_made : (a : Asked) (file : Option (List ℕ)) (w : List ℕ) (ws : List (List ℕ)) (u : Bool) → is_utf8 w ≡ u
    → ((file : Option (List ℕ)) → read None true a file ws ≡ made None true a file ws)
    → read None true a file (w ∷ ws) ≡ made None true a file (w ∷ ws)
after_end_made a file w ws false is rest = rw is refl
after_end_made a None w ws true is rest = rw is (rest (Some w))
after_end_made a (Some file) w ws true is rest = rw is (sym (no_file (list_all is_utf8 ws) (Some a)))

-- ---- one more word before that

-- what an option asks for, and the words to come
option_then : (b : Bool) (file : Option (List ℕ)) (a : Option Asked) (ws : List (List ℕ))
    → ((c : Asked) → read None false c file ws ≡ cond b (behind c file (joined None ws)) None)
    → option_and_then (λ s. read_on s ws) (go_on a (λ c. Some (reading_of None false c file)))
    ≡ cond b (command (file_in (option_to_list file ++ operands (joined None ws))) (option_and_then (λ c. asked_behind c (options (joined None ws))) a)) None
option_then b file None ws rest = sym (no_options b (file_in (option_to_list file ++ operands (joined None ws))))
option_then b file (Some c) ws rest = rest c

-- a value
value_made : (o : List ℕ) (a : Asked) (file : Option (List ℕ)) (w : List ℕ) (ws : List (List ℕ)) (u : Bool) → IsValued o → is_utf8 w ≡ u
    → ((c : Asked) → read None false c file ws ≡ made None false c file ws)
    → read (Some o) false a file (w ∷ ws) ≡ made (Some o) false a file (w ∷ ws)
value_made o a file w ws false v is rest = rw is refl
value_made o a file w ws true v is rest = rw (is, v.no_end w, v.dashed w) (option_then (list_all is_utf8 ws) file (with_option a (o ++ (codes "=" ++ w))) ws rest)

-- no value comes
no_value : (o : List ℕ) (a : Asked) (file : Option (List ℕ)) → IsValued o → read (Some o) false a file [] ≡ made (Some o) false a file []
no_value o a file v = rw (v.no_end_alone, v.dashed_alone, v.nothing_alone a) (sym (no_options true (file_in (option_to_list file ++ []))))

-- the options end
end_made : (a : Asked) (file : Option (List ℕ)) (w : List ℕ) (ws : List (List ℕ)) → is_utf8 w ≡ true → ends_options w ≡ true
    → read None true a file ws ≡ made None true a file ws
    → read None false a file (w ∷ ws) ≡ made None false a file (w ∷ ws)
end_made a file w ws is e rest = rw (is, e, e) rest

-- an option whose value is the next word
waits_made : (a : Asked) (file : Option (List ℕ)) (w : List ℕ) (ws : List (List ℕ)) → is_utf8 w ≡ true → ends_options w ≡ false → takes_value w ≡ true
    → read (Some w) false a file ws ≡ made (Some w) false a file ws
    → read None false a file (w ∷ ws) ≡ made None false a file (w ∷ ws)
waits_made a file w ws is e t rest = rw (is, e, t) rest

-- another option
option_made : (a : Asked) (file : Option (List ℕ)) (w : List ℕ) (ws : List (List ℕ)) → is_utf8 w ≡ true → ends_options w ≡ false → takes_value w ≡ false → begins_with_dash w ≡ true
    → ((c : Asked) → read None false c file ws ≡ made None false c file ws)
    → read None false a file (w ∷ ws) ≡ made None false a file (w ∷ ws)
option_made a file w ws is e t d rest = rw (is, e, t, e, d) (option_then (list_all is_utf8 ws) file (with_option a w) ws rest)

-- an operand
operand_made : (a : Asked) (file : Option (List ℕ)) (w : List ℕ) (ws : List (List ℕ)) → is_utf8 w ≡ true → ends_options w ≡ false → takes_value w ≡ false → begins_with_dash w ≡ false
    → read None false a (Some w) ws ≡ made None false a (Some w) ws
    → read None false a file (w ∷ ws) ≡ made None false a file (w ∷ ws)
operand_made a None w ws is e t d rest = rw (is, e, t, e, d) rest
operand_made a (Some file) w ws is e t d rest = rw (is, e, t, e, d) (sym (no_file (list_all is_utf8 ws) (asked_behind a (options (joined None ws)))))

-- a value is wanted by an option that takes one, and not where the options have ended
abbrev AreBehind : (wants : Option (List ℕ)) → (ended : Bool) → Type 0
AreBehind None ended = Unit {0}
AreBehind (Some o) true = ⊥
AreBehind (Some o) false = IsValued o

before_end_made : (a : Asked) (file : Option (List ℕ)) (w : List ℕ) (ws : List (List ℕ)) (u e t d : Bool) → is_utf8 w ≡ u → ends_options w ≡ e → takes_value w ≡ t → begins_with_dash w ≡ d
    → ((wants : Option (List ℕ)) (ended : Bool) (a : Asked) (file : Option (List ℕ)) → AreBehind wants ended → read wants ended a file ws ≡ made wants ended a file ws)
    → read None false a file (w ∷ ws) ≡ made None false a file (w ∷ ws)
before_end_made a file w ws false e t d is ee tt' dd rest = rw is refl
before_end_made a file w ws true true t d is ee tt' dd rest = end_made a file w ws is ee (rest None true a file tt)
before_end_made a file w ws true false true d is ee tt' dd rest = waits_made a file w ws is ee tt' (rest (Some w) false a file (valued w tt'))
before_end_made a file w ws true false false true is ee tt' dd rest = option_made a file w ws is ee tt' dd (λ c. rest None false c file tt)
before_end_made a file w ws true false false false is ee tt' dd rest = operand_made a file w ws is ee tt' dd (rest None false a (Some w) tt)

all_made : (ws : List (List ℕ)) (wants : Option (List ℕ)) (ended : Bool) (a : Asked) (file : Option (List ℕ)) → AreBehind wants ended → read wants ended a file ws ≡ made wants ended a file ws
all_made [] None ended a file h = at_end_made ended a file
all_made [] (Some o) false a file h = no_value o a file h
all_made ws (Some o) true a file h = absurd h
all_made (w ∷ ws) (Some o) false a file h = value_made o a file w ws (is_utf8 w) h refl (λ c. all_made ws None false c file tt)
all_made (w ∷ ws) None true a file h = after_end_made a file w ws (is_utf8 w) refl (λ file. all_made ws None true a file tt)
all_made (w ∷ ws) None false a file h =
    before_end_made a file w ws (is_utf8 w) (ends_options w) (takes_value w) (begins_with_dash w) refl refl refl refl (λ v e b f n. all_made ws v e b f n)

pub words_are_read : (ws : List (List ℕ)) → read_on (reading_of None false nothing None) ws ≡ command_of ws
unfolding command_of
words_are_read ws = all_made ws None false nothing None tt

-- ---- word by word

-- a word is read, and the others are to come
pub word_goes : (words : List (List ℕ)) (i : ℕ) (w : List ℕ) (r s : Reading) (c : Option Command) → i < length words → w ≡ get_or words i w → Some s ≡ word_read r w
    → read_on r (drop i words) ≡ c → read_on s (drop (i + 1) words) ≡ c
word_goes words i w r s c within is goes so =
    subst (λ (o : Option Reading). option_and_then (λ s. read_on s (drop (i + 1) words)) o ≡ c) (sym goes) (subst (λ us. read_on r us ≡ c) (drop_more words i w within ∙ ap (λ z. z ∷ drop (i + 1) words) (sym is)) so)

-- a word ends the reading
pub word_stops : (words : List (List ℕ)) (i : ℕ) (w : List ℕ) (r : Reading) (c : Option Command) → i < length words → w ≡ get_or words i w → None ≡ word_read r w
    → read_on r (drop i words) ≡ c → None ≡ c
word_stops words i w r c within is stops so =
    subst (λ (o : Option Reading). option_and_then (λ s. read_on s (drop (i + 1) words)) o ≡ c) (sym stops) (subst (λ us. read_on r us ≡ c) (drop_more words i w within ∙ ap (λ z. z ∷ drop (i + 1) words) (sym is)) so)

-- all were read
pub words_end : (words : List (List ℕ)) (i : ℕ) (r : Reading) (c : Option Command) → i ≡ length words → read_on r (drop i words) ≡ c → all_read r ≡ c
words_end words i r c is so = subst (λ us. read_on r us ≡ c) (drop_all i words (omega (arith, is))) so
