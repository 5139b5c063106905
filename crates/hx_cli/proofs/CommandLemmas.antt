-- Words spell a command exactly where it is the one that the function gives.
use Rattle.std.proofs.Common.{◌≡◌, ℕ, ◌==◌, Bool, true, false, cond, List, [], ◌∷◌, ◌++◌, length, refl, sym, ap, subst, ◌∙◌, arith}
use Rattle.std.specs.Prelude.{Option, None, Some, codes, if◌then◌else◌, not, option_and_then}
use Rattle.std.specs.Fmt.{decimal}
use Rattle.std.specs.Str.{bytes_eq}
use Rattle.std.proofs.lemmas.Bool.{and_from, and_parts, eqb-true, false≢true, lt-ltb, ltb-true, not-true, not_from_false}
use Rattle.std.proofs.lemmas.Option.{none-some, option_and_then_some, same_Some}
use Rattle.std.proofs.lemmas.Slice.Eq.{bytes_eq-Decides}
use Rattle.hx_base.specs.Bytes.{ascii}
use Rattle.hx_cli.specs.declared.command.Command.{Command}
use Rattle.hx_cli.specs.declared.command.Command.TheVariants.{ShowAll, Show, Get, Add, AddMany, Del, Set, Clear, Prepare, Commit}
use Rattle.hx_cli.specs.Commands.{addition, begins_with_at, command_by, command_of, entry_words, is_command, is_entry, is_place, kind_word, new_value, of_two_words, of_word, payload_word, show_command, spelling, Spells, version_of_digits, version_words, versioned}
use Rattle.hx_cli.proofs.VersionLemmas.{version_found, version_written}

-- the words after `commit`, the kind and the version
abbrev committed : Bool → Option ℕ → List (List ℕ) → Option Command
committed is_map ver rest = option_and_then (λ n. of_word (Commit is_map n) rest) ver

-- ---- from a command to its words, and back

at_place : (make : Option ℕ → List (List ℕ) → Option Command) (ver : Option ℕ) (name : List ℕ)
    (words : List (List ℕ)) → is_place ver name ≡ true
    → versioned make (version_words ver ++ name ∷ words) ≡ make ver (name ∷ words)
at_place make None [] words is = refl
at_place make None (b ∷ bs) words is =
    ap (λ (t : Bool). cond t (option_and_then (λ n. make (Some n) words) (version_of_digits bs))
    (make None ((b ∷ bs) ∷ words))) (not-true (b == ascii "@") is)
at_place make (Some number) name words is =
    ap (option_and_then (λ n. make (Some n) (name ∷ words)))
    (version_found number (ltb-true number 4294967296 is))

with_kind : (verb : List ℕ) (is_map : Bool) (words : List (List ℕ))
    → command_of (verb ∷ kind_word is_map ∷ words) ≡ command_by verb is_map words
with_kind verb true words = refl
with_kind verb false words = refl

show_again : (is_map : Bool) (ver : Option ℕ) (name : List ℕ) → is_place ver name ≡ true
    → show_command is_map (version_words ver ++ name ∷ []) ≡ Some (Show is_map ver name)
show_again is_map None name is = at_place (λ ver. of_word (Show is_map ver)) None name [] is
show_again is_map (Some number) name is =
    at_place (λ ver. of_word (Show is_map ver)) (Some number) name [] is

addition_again : (is_map : Bool) (ver : Option ℕ) (name key value : List ℕ)
    → is_entry is_map key value ≡ true
    → addition is_map ver (name ∷ entry_words is_map key value)
    ≡ Some (Add is_map ver name key value)
addition_again true ver name key value is = refl
addition_again false ver name key [] is =
    ap (λ (t : Bool). cond t (Some (AddMany false ver name)) (Some (Add false ver name key [])))
    (not-true (bytes_eq key payload_word) (and_parts (not (bytes_eq key payload_word)) true is).0)
addition_again false ver name key (b ∷ bs) is =
    let none : length (b ∷ bs) ≡ 0 =
    eqb-true (length (b ∷ bs)) 0
    (and_parts (not (bytes_eq key payload_word)) (length (b ∷ bs) == 0) is).1 in
    absurd (omega arith)

command_again : (command : Command) → is_command command ≡ true
    → command_of (spelling command) ≡ Some command
command_again (ShowAll is_map) is = with_kind (codes "show") is_map []
command_again (Show is_map ver name) is =
    with_kind (codes "show") is_map (version_words ver ++ name ∷ [])
    ∙ show_again is_map ver name is
command_again (Get is_map name value) is = with_kind (codes "get") is_map (name ∷ value ∷ [])
command_again (Add is_map ver name key value) is =
    let parts = and_parts (is_place ver name) (is_entry is_map key value) is in
    with_kind (codes "add") is_map (version_words ver ++ name ∷ entry_words is_map key value)
    ∙ at_place (addition is_map) ver name (entry_words is_map key value) parts.0
    ∙ addition_again is_map ver name key value parts.1
command_again (AddMany is_map ver name) is =
    with_kind (codes "add") is_map (version_words ver ++ name ∷ payload_word ∷ [])
    ∙ at_place (addition is_map) ver name (payload_word ∷ []) is
command_again (Del is_map ver name key) is =
    with_kind (codes "del") is_map (version_words ver ++ name ∷ key ∷ [])
    ∙ at_place (λ place. of_two_words (Del is_map place)) ver name (key ∷ []) is
command_again (Set ver name key value) is =
    at_place (new_value true) ver name (key ∷ value ∷ []) is
command_again (Clear is_map ver name) is =
    with_kind (codes "clear") is_map (version_words ver ++ name ∷ [])
    ∙ at_place (λ place. of_word (Clear is_map place)) ver name [] is
command_again (Prepare is_map name) is = with_kind (codes "prepare") is_map (name ∷ [])
command_again (Commit is_map ver name) is =
    with_kind (codes "commit") is_map (version_words (Some ver) ++ name ∷ [])
    ∙ at_place (committed is_map) (Some ver) name [] is

pub command_found : (command : Command) (words : List (List ℕ)) → Spells command words
    → command_of words ≡ Some command
command_found command words spells =
    ap command_of spells.words_are ∙ command_again command spells.is

-- ---- from words to their command

-- what follows from the answer of a test
by_test : {P : Type 0} (b : Bool) (x y : Option Command) (c : Command)
    → (b ≡ true → x ≡ Some c → P) → (b ≡ false → y ≡ Some c → P) → cond b x y ≡ Some c → P
by_test true x y c first second is = first refl is
by_test false x y c first second is = second refl is

-- the words of a command of one word
record OneWord (make : List ℕ → Command) (words : List (List ℕ)) (c : Command) : Type 0 where
  name : List ℕ
  words_are : words ≡ name ∷ []
  made : make name ≡ c

one_word : (make : List ℕ → Command) (words : List (List ℕ)) (c : Command)
    → of_word make words ≡ Some c → OneWord make words c
one_word make [] c is = absurd (none-some c is)
one_word make (name ∷ []) c is =
    record { name = name; words_are = refl; made = same_Some (make name) c is }
one_word make (name ∷ word ∷ words) c is = absurd (none-some c is)

-- the words of a command of two words
record TwoWords (make : List ℕ → List ℕ → Command) (words : List (List ℕ))
    (c : Command) : Type 0 where
  name : List ℕ
  word : List ℕ
  words_are : words ≡ name ∷ word ∷ []
  made : make name word ≡ c

two_words : (make : List ℕ → List ℕ → Command) (words : List (List ℕ)) (c : Command)
    → of_two_words make words ≡ Some c → TwoWords make words c
two_words make [] c is = absurd (none-some c is)
two_words make (name ∷ []) c is = absurd (none-some c is)
two_words make (name ∷ word ∷ []) c is =
    record { name = name; word = word; words_are = refl; made = same_Some (make name word) c is }
two_words make (name ∷ word ∷ another ∷ words) c is = absurd (none-some c is)

-- a version, or none, and the words after it, of which the command is made
record IsVersioned (make : Option ℕ → List (List ℕ) → Option Command) (words : List (List ℕ))
    (c : Command) : Type 0 where
  ver : Option ℕ
  rest : List (List ℕ)
  whole : words ≡ version_words ver ++ rest
  fits : (name : List ℕ) (more : List (List ℕ)) → rest ≡ name ∷ more → is_place ver name ≡ true
  made : make ver rest ≡ Some c

plain_word : (word name : List ℕ) (words rest : List (List ℕ)) → begins_with_at word ≡ false
    → word ∷ words ≡ name ∷ rest → not (begins_with_at name) ≡ true
plain_word word name words rest plain is =
    let same : word ≡ name = cc in
    subst (λ (w : List ℕ). not (begins_with_at w) ≡ true) same
    (not_from_false (begins_with_at word) plain)

without_version : (make : Option ℕ → List (List ℕ) → Option Command) (word : List ℕ)
    (words : List (List ℕ)) (c : Command) → begins_with_at word ≡ false
    → make None (word ∷ words) ≡ Some c → IsVersioned make (word ∷ words) c
without_version make word words c plain made = record {
  ver = None;
  rest = word ∷ words;
  whole = refl;
  fits = λ name more is. plain_word word name words more plain is;
  made = made;
}

after_version : (make : Option ℕ → List (List ℕ) → Option Command) (b : ℕ) (digits : List ℕ)
    (words : List (List ℕ)) (c : Command) → (b == ascii "@") ≡ true
    → option_and_then (λ n. make (Some n) words) (version_of_digits digits) ≡ Some c
    → IsVersioned make ((b ∷ digits) ∷ words) c
after_version make b digits words c at is =
    option_and_then_some (λ n. make (Some n) words) (version_of_digits digits) c is (λ n read made.
    let written = version_written n digits read in
    let first : b ≡ 64 = eqb-true b 64 at in
    let same : b ∷ digits ≡ ascii "@" ∷ decimal n = rw (first, written.0) refl in
    record {
      ver = Some n;
      rest = words;
      whole = ap (λ (w : List ℕ). w ∷ words) same;
      fits = λ name more rest_is. lt-ltb n 4294967296 written.1;
      made = made;
    })

versioned_words : (make : Option ℕ → List (List ℕ) → Option Command) (words : List (List ℕ))
    (c : Command) → versioned make words ≡ Some c → IsVersioned make words c
versioned_words make [] c is =
    record { ver = None; rest = []; whole = refl; fits = λ name more rest_is. cc; made = is }
versioned_words make ([] ∷ words) c is = without_version make [] words c refl is
versioned_words make ((b ∷ digits) ∷ words) c is =
    by_test (b == ascii "@") _ _ c (λ at made. after_version make b digits words c at made)
    (λ plain made. without_version make (b ∷ digits) words c plain made) is

-- ---- each form

of_one_spells : (verb : List ℕ) (is_map : Bool) (make : List ℕ → Command) (words : List (List ℕ))
    (c : Command) → of_word make words ≡ Some c
    → ((name : List ℕ) → is_command (make name) ≡ true)
    → ((name : List ℕ) → spelling (make name) ≡ verb ∷ kind_word is_map ∷ name ∷ [])
    → Spells c (verb ∷ kind_word is_map ∷ words)
of_one_spells verb is_map make words c is fits spelled =
    let one = one_word make words c is in
    subst (λ (d : Command). Spells d (verb ∷ kind_word is_map ∷ words)) one.made
    (record {
      is = fits one.name;
      words_are = ap (λ (ws : List (List ℕ)). verb ∷ kind_word is_map ∷ ws) one.words_are
          ∙ sym (spelled one.name);
    })

of_two_spells : (verb : List ℕ) (is_map : Bool) (make : List ℕ → List ℕ → Command)
    (words : List (List ℕ)) (c : Command) → of_two_words make words ≡ Some c
    → ((name word : List ℕ) → is_command (make name word) ≡ true)
    → ((name word : List ℕ)
    → spelling (make name word) ≡ verb ∷ kind_word is_map ∷ name ∷ word ∷ [])
    → Spells c (verb ∷ kind_word is_map ∷ words)
of_two_spells verb is_map make words c is fits spelled =
    let two = two_words make words c is in
    subst (λ (d : Command). Spells d (verb ∷ kind_word is_map ∷ words)) two.made
    (record {
      is = fits two.name two.word;
      words_are = ap (λ (ws : List (List ℕ)). verb ∷ kind_word is_map ∷ ws) two.words_are
          ∙ sym (spelled two.name two.word);
    })

of_name_spells : (verb : List ℕ) (is_map : Bool) (make : Option ℕ → List ℕ → Command)
    (words : List (List ℕ)) (c : Command)
    → versioned (λ ver. of_word (make ver)) words ≡ Some c
    → ((ver : Option ℕ) (name : List ℕ) → is_place ver name ≡ true
    → is_command (make ver name) ≡ true)
    → ((ver : Option ℕ) (name : List ℕ)
    → spelling (make ver name) ≡ verb ∷ kind_word is_map ∷ version_words ver ++ name ∷ [])
    → Spells c (verb ∷ kind_word is_map ∷ words)
of_name_spells verb is_map make words c is fits spelled =
    let place = versioned_words (λ ver. of_word (make ver)) words c is in
    let one = one_word (make place.ver) place.rest c place.made in
    subst (λ (d : Command). Spells d (verb ∷ kind_word is_map ∷ words)) one.made
    (record {
      is = fits place.ver one.name (place.fits one.name [] one.words_are);
      words_are = ap (λ (ws : List (List ℕ)). verb ∷ kind_word is_map ∷ ws)
          (place.whole
          ∙ ap (λ (ws : List (List ℕ)). version_words place.ver ++ ws) one.words_are)
          ∙ sym (spelled place.ver one.name);
    })

of_place_spells : (verb : List ℕ) (is_map : Bool) (make : Option ℕ → List ℕ → List ℕ → Command)
    (words : List (List ℕ)) (c : Command)
    → versioned (λ ver. of_two_words (make ver)) words ≡ Some c
    → ((ver : Option ℕ) (name word : List ℕ) → is_place ver name ≡ true
    → is_command (make ver name word) ≡ true)
    → ((ver : Option ℕ) (name word : List ℕ)
    → spelling (make ver name word)
    ≡ verb ∷ kind_word is_map ∷ version_words ver ++ name ∷ word ∷ [])
    → Spells c (verb ∷ kind_word is_map ∷ words)
of_place_spells verb is_map make words c is fits spelled =
    let place = versioned_words (λ ver. of_two_words (make ver)) words c is in
    let two = two_words (make place.ver) place.rest c place.made in
    subst (λ (d : Command). Spells d (verb ∷ kind_word is_map ∷ words)) two.made
    (record {
      is = fits place.ver two.name two.word (place.fits two.name (two.word ∷ []) two.words_are);
      words_are = ap (λ (ws : List (List ℕ)). verb ∷ kind_word is_map ∷ ws)
          (place.whole
          ∙ ap (λ (ws : List (List ℕ)). version_words place.ver ++ ws) two.words_are)
          ∙ sym (spelled place.ver two.name two.word);
    })

show_spells : (is_map : Bool) (words : List (List ℕ)) (c : Command)
    → show_command is_map words ≡ Some c
    → Spells c (codes "show" ∷ kind_word is_map ∷ words)
show_spells is_map [] c is =
    subst (λ (d : Command). Spells d (codes "show" ∷ kind_word is_map ∷ []))
    (same_Some (ShowAll is_map) c is) (record { is = refl; words_are = refl })
show_spells is_map (word ∷ words) c is =
    of_name_spells (codes "show") is_map (Show is_map) (word ∷ words) c is
    (λ ver name fits. fits) (λ ver name. refl)

-- the words of an addition to a version
record IsAddition (is_map : Bool) (ver : Option ℕ) (words : List (List ℕ))
    (c : Command) : Type 0 where
  name : List ℕ
  rest : List (List ℕ)
  words_are : words ≡ name ∷ rest
  fits : is_place ver name ≡ true → is_command c ≡ true
  spelled : spelling c ≡ codes "add" ∷ kind_word is_map ∷ version_words ver ++ name ∷ rest

addition_of_many : (is_map : Bool) (ver : Option ℕ) (name word : List ℕ) (c : Command)
    → bytes_eq word payload_word ≡ true → Some (AddMany is_map ver name) ≡ Some c
    → IsAddition is_map ver (name ∷ word ∷ []) c
addition_of_many is_map ver name word c payload is =
    subst (IsAddition is_map ver (name ∷ word ∷ [])) (same_Some (AddMany is_map ver name) c is)
    (record {
      name = name;
      rest = word ∷ [];
      words_are = refl;
      fits = λ fits. fits;
      spelled = ap
          (λ (w : List ℕ). codes "add" ∷ kind_word is_map ∷ version_words ver ++ name ∷ w ∷ [])
          (sym ((bytes_eq-Decides word payload_word).0 payload));
    })

addition_of_key : (is_map : Bool) (ver : Option ℕ) (name word : List ℕ) (c : Command)
    → bytes_eq word payload_word ≡ false
    → cond is_map None (Some (Add false ver name word [])) ≡ Some c
    → IsAddition is_map ver (name ∷ word ∷ []) c
addition_of_key true ver name word c entry is = absurd (none-some c is)
addition_of_key false ver name word c entry is =
    subst (IsAddition false ver (name ∷ word ∷ [])) (same_Some (Add false ver name word []) c is)
    (record {
      name = name;
      rest = word ∷ [];
      words_are = refl;
      fits = λ fits. and_from (is_place ver name) (is_entry false word []) fits
          (and_from (not (bytes_eq word payload_word)) true
          (not_from_false (bytes_eq word payload_word) entry) refl);
      spelled = refl;
    })

addition_of_pair : (is_map : Bool) (ver : Option ℕ) (name key value : List ℕ) (c : Command)
    → cond is_map (Some (Add true ver name key value)) None ≡ Some c
    → IsAddition is_map ver (name ∷ key ∷ value ∷ []) c
addition_of_pair false ver name key value c is = absurd (none-some c is)
addition_of_pair true ver name key value c is =
    subst (IsAddition true ver (name ∷ key ∷ value ∷ []))
    (same_Some (Add true ver name key value) c is)
    (record {
      name = name;
      rest = key ∷ value ∷ [];
      words_are = refl;
      fits = λ fits. and_from (is_place ver name) true fits refl;
      spelled = refl;
    })

addition_words : (is_map : Bool) (ver : Option ℕ) (words : List (List ℕ)) (c : Command)
    → addition is_map ver words ≡ Some c → IsAddition is_map ver words c
addition_words is_map ver [] c is = absurd (none-some c is)
addition_words is_map ver (name ∷ []) c is = absurd (none-some c is)
addition_words is_map ver (name ∷ word ∷ []) c is =
    by_test (bytes_eq word payload_word) _ _ c
    (λ payload made. addition_of_many is_map ver name word c payload made)
    (λ entry made. addition_of_key is_map ver name word c entry made) is
addition_words is_map ver (name ∷ key ∷ value ∷ []) c is =
    addition_of_pair is_map ver name key value c is
addition_words is_map ver (name ∷ key ∷ value ∷ word ∷ words) c is = absurd (none-some c is)

add_spells : (is_map : Bool) (words : List (List ℕ)) (c : Command)
    → versioned (addition is_map) words ≡ Some c
    → Spells c (codes "add" ∷ kind_word is_map ∷ words)
add_spells is_map words c is =
    let place = versioned_words (addition is_map) words c is in
    let entry = addition_words is_map place.ver place.rest c place.made in
    record {
      is = entry.fits (place.fits entry.name entry.rest entry.words_are);
      words_are = ap (λ (ws : List (List ℕ)). codes "add" ∷ kind_word is_map ∷ ws)
          (place.whole
          ∙ ap (λ (ws : List (List ℕ)). version_words place.ver ++ ws) entry.words_are)
          ∙ sym entry.spelled;
    }

-- the words of a change of values in a version
record IsNewValue (is_map : Bool) (ver : Option ℕ) (words : List (List ℕ))
    (c : Command) : Type 0 where
  name : List ℕ
  key : List ℕ
  value : List ℕ
  words_are : words ≡ name ∷ key ∷ value ∷ []
  made : Set ver name key value ≡ c
  of_map : is_map ≡ true

new_value_words : (is_map : Bool) (ver : Option ℕ) (words : List (List ℕ)) (c : Command)
    → new_value is_map ver words ≡ Some c → IsNewValue is_map ver words c
new_value_words false ver words c is = absurd (none-some c is)
new_value_words true ver [] c is = absurd (none-some c is)
new_value_words true ver (name ∷ []) c is = absurd (none-some c is)
new_value_words true ver (name ∷ key ∷ []) c is = absurd (none-some c is)
new_value_words true ver (name ∷ key ∷ value ∷ []) c is = record {
  name = name;
  key = key;
  value = value;
  words_are = refl;
  made = same_Some (Set ver name key value) c is;
  of_map = refl;
}
new_value_words true ver (name ∷ key ∷ value ∷ word ∷ words) c is = absurd (none-some c is)

set_spells : (is_map : Bool) (words : List (List ℕ)) (c : Command)
    → versioned (new_value is_map) words ≡ Some c
    → Spells c (codes "set" ∷ kind_word is_map ∷ words)
set_spells is_map words c is =
    let place = versioned_words (new_value is_map) words c is in
    let set = new_value_words is_map place.ver place.rest c place.made in
    subst (λ (d : Command). Spells d (codes "set" ∷ kind_word is_map ∷ words)) set.made
    (record {
      is = place.fits set.name (set.key ∷ set.value ∷ []) set.words_are;
      words_are = ap (λ (kind : Bool). codes "set" ∷ kind_word kind ∷ words) set.of_map
          ∙ ap (λ (ws : List (List ℕ)). codes "set" ∷ codes "map" ∷ ws)
          (place.whole
          ∙ ap (λ (ws : List (List ℕ)). version_words place.ver ++ ws) set.words_are);
    })

commit_spells : (is_map : Bool) (words : List (List ℕ)) (c : Command)
    → versioned (λ ver rest. option_and_then (λ n. of_word (Commit is_map n) rest) ver) words ≡ Some c
    → Spells c (codes "commit" ∷ kind_word is_map ∷ words)
commit_spells is_map words c is =
    let place = versioned_words (committed is_map) words c is in
    option_and_then_some (λ n. of_word (Commit is_map n) place.rest) place.ver c place.made
    (λ number ver_is one_made.
    let one = one_word (Commit is_map number) place.rest c one_made in
    subst (λ (d : Command). Spells d (codes "commit" ∷ kind_word is_map ∷ words)) one.made
    (record {
      is = subst (λ (v : Option ℕ). is_place v one.name ≡ true) ver_is
          (place.fits one.name [] one.words_are);
      words_are = ap (λ (ws : List (List ℕ)). codes "commit" ∷ kind_word is_map ∷ ws)
          (place.whole
          ∙ ap (λ (v : Option ℕ). version_words v ++ place.rest) ver_is
          ∙ ap (λ (ws : List (List ℕ)). version_words (Some number) ++ ws) one.words_are);
    }))

-- ---- all forms

-- a first word that is tested for
verb_spells : (verb word : List ℕ) (is_map : Bool) (words : List (List ℕ)) (c : Command)
    → bytes_eq verb word ≡ true → Spells c (word ∷ kind_word is_map ∷ words)
    → Spells c (verb ∷ kind_word is_map ∷ words)
verb_spells verb word is_map words c test spells =
    subst (λ (v : List ℕ). Spells c (v ∷ kind_word is_map ∷ words))
    (sym ((bytes_eq-Decides verb word).0 test)) spells

verbs_spell : (verb : List ℕ) (is_map : Bool) (words : List (List ℕ)) (c : Command)
    → command_by verb is_map words ≡ Some c → Spells c (verb ∷ kind_word is_map ∷ words)
verbs_spell verb is_map words c =
    let at = λ (word : List ℕ) (test : bytes_eq verb word ≡ true)
    (spells : Spells c (word ∷ kind_word is_map ∷ words)).
    verb_spells verb word is_map words c test spells in
    by_test (bytes_eq verb (codes "show")) _ _ c
    (λ test is. at (codes "show") test (show_spells is_map words c is))
    (λ _. by_test (bytes_eq verb (codes "get")) _ _ c
    (λ test is. at (codes "get") test
    (of_two_spells (codes "get") is_map (Get is_map) words c is
    (λ name word. refl) (λ name word. refl)))
    (λ _. by_test (bytes_eq verb (codes "add")) _ _ c
    (λ test is. at (codes "add") test (add_spells is_map words c is))
    (λ _. by_test (bytes_eq verb (codes "del")) _ _ c
    (λ test is. at (codes "del") test
    (of_place_spells (codes "del") is_map (Del is_map) words c is
    (λ ver name word fits. fits) (λ ver name word. refl)))
    (λ _. by_test (bytes_eq verb (codes "set")) _ _ c
    (λ test is. at (codes "set") test (set_spells is_map words c is))
    (λ _. by_test (bytes_eq verb (codes "clear")) _ _ c
    (λ test is. at (codes "clear") test
    (of_name_spells (codes "clear") is_map (Clear is_map) words c is
    (λ ver name fits. fits) (λ ver name. refl)))
    (λ _. by_test (bytes_eq verb (codes "prepare")) _ _ c
    (λ test is. at (codes "prepare") test
    (of_one_spells (codes "prepare") is_map (Prepare is_map) words c is
    (λ name. refl) (λ name. refl)))
    (λ _. by_test (bytes_eq verb (codes "commit")) _ _ c
    (λ test is. at (codes "commit") test (commit_spells is_map words c is))
    (λ _ is. absurd (none-some c is)))))))))

-- a second word that is tested for
kind_spells : (verb kind : List ℕ) (is_map : Bool) (words : List (List ℕ)) (c : Command)
    → bytes_eq kind (kind_word is_map) ≡ true → command_by verb is_map words ≡ Some c
    → Spells c (verb ∷ kind ∷ words)
kind_spells verb kind is_map words c test is =
    subst (λ (k : List ℕ). Spells c (verb ∷ k ∷ words))
    (sym ((bytes_eq-Decides kind (kind_word is_map)).0 test)) (verbs_spell verb is_map words c is)

pub command_spells : (command : Command) (words : List (List ℕ)) → command_of words ≡ Some command
    → Spells command words
command_spells command [] is = absurd (none-some command is)
command_spells command (verb ∷ []) is = absurd (none-some command is)
command_spells command (verb ∷ kind ∷ words) is =
    by_test (bytes_eq kind (codes "map")) _ _ command
    (λ test made. kind_spells verb kind true words command test made)
    (λ _. by_test (bytes_eq kind (codes "acl")) _ _ command
    (λ test made. kind_spells verb kind false words command test made)
    (λ _ none. absurd (none-some command none))) is

-- words after `show` and the kind
pub show_some : {found : Option Command} (is_map : Bool) (words : List (List ℕ))
    → (length words == 0) ≡ false → found ≡ versioned (λ ver. of_word (Show is_map ver)) words
    → found ≡ show_command is_map words
show_some is_map [] some is = absurd (false≢true (sym some))
show_some is_map (word ∷ words) some is = is

-- ---- the word of the kind

-- the kind that a word gives, by the answers of two tests
abbrev kind_by : Bool → Bool → Option Bool
kind_by is_map is_acl = if is_map then Some true else if is_acl then Some false else None

by_kind : (is_map is_acl : Bool) (make : Bool → Option Command) (kind : Option Bool)
    → kind ≡ kind_by is_map is_acl
    → option_and_then make kind ≡ (if is_map then make true else if is_acl then make false else None)
by_kind true is_acl make kind is = rw is refl
by_kind false true make kind is = rw is refl
by_kind false false make kind is = rw is refl

-- the command of words, by the kind that the second gives
pub command_of_kind : (verb word : List ℕ) (words : List (List ℕ)) (kind : Option Bool)
    → kind ≡ kind_by (bytes_eq word (codes "map")) (bytes_eq word (codes "acl"))
    → option_and_then (λ is_map. command_by verb is_map words) kind
    ≡ command_of (verb ∷ word ∷ words)
command_of_kind verb word words kind is =
    by_kind (bytes_eq word (codes "map")) (bytes_eq word (codes "acl"))
    (λ is_map. command_by verb is_map words) kind is
