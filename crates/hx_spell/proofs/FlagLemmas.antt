-- Words are read as the flags that they spell, and what follows these as patterns.
use Rattle.std.proofs.Common.{◌≡◌, ◌↔◌, ℕ, Bool, true, false, cond, List, [], ◌∷◌, ◌++◌, Option, None, Some, Ok, Err, refl, sym, ◌∙◌, ap, inl, inr}
use Rattle.std.specs.Prelude.{Result, codes, ◌-◌, ◌^◌}
use Rattle.std.specs.Option.{ok_or}
use Rattle.hx_text.specs.Network.{width_of}
use Rattle.hx_base.specs.Results.{◌>>=◌}
use Rattle.std.specs.Str.{bytes_eq}
use Rattle.std.proofs.lemmas.Option.{same_Some, none-some}
use Rattle.std.proofs.lemmas.Slice.Eq.{bytes_eq-Decides}
use Rattle.hx_calls.specs.declared.fault.SpellFault.{SpellFault}
use Rattle.hx_calls.specs.Codes.{bad_argument, unsupported}
use Rattle.hx_spell.specs.Flags.{AfterFlags, Flag, Flags, begins_as_flag, flag_argument, flag_table, flag_text, flag_word, flags_end, flags_from, may_stand, method_table}
use Rattle.hx_spell.specs.Flags.Flag.{IgnoreCase, TwoColumns, Numeric, File, Method, Number, End}
use Rattle.hx_calls.specs.Known.{Known, Reading, reading, with_acl, with_named, with_named_file}
use Rattle.hx_spell.specs.AclRelation.{EndFlags, SpellFlags, WritesArgument, flag_alone, takes_argument, with_searched}
use Rattle.hx_spell.specs.AclRelation.SpellFlags.{NoFlags, FlagAlone, FlagWithArgument}
use Rattle.hx_calls.specs.Tables.{Table, entry_at}
use Rattle.hx_calls.proofs.CallMeaningLemmas.{named_position, position_named}
use Rattle.hx_calls.proofs.ResultLemmas.{and_then_ok, ok_or_is, then_ok}

-- ---- the words of flags

-- each row has the text of what stands in it
abbrev AreNamed : {A : Type 0} → (A → List ℕ) → Table A → Type 0
AreNamed text [] = Unit {0}
AreNamed text (row ∷ rows) = (row.0 ≡ text row.1) × AreNamed text rows

named_by : {A : Type 0} (text : A → List ℕ) (name word : List ℕ) (y x : A) (later : Option A)
    (b : Bool)
    → bytes_eq name word ≡ b → name ≡ text y → (later ≡ Some x → word ≡ text x)
    → cond b (Some y) later ≡ Some x → word ≡ text x
named_by text name word y x later true same named others is =
    sym ((bytes_eq-Decides name word).0 same) ∙ (named ∙ ap text (same_Some y x is))
named_by text name word y x later false other named others is = others is

found_name : {A : Type 0} (text : A → List ℕ) (rows : Table A) → AreNamed text rows
    → (word : List ℕ) (x : A) → entry_at rows word ≡ Some x → word ≡ text x
found_name text [] named word x is = absurd (none-some x is)
found_name text (row ∷ rows) named word x is =
    named_by text row.0 word row.1 x (entry_at rows word) (bytes_eq row.0 word) refl named.0
    (found_name text rows named.1 word x) is

flags_named : AreNamed flag_text flag_table
unfolding flag_table
flags_named = (refl, (refl, (refl, (refl, (refl, (refl, (refl, tt)))))))

flag_word_is : (word : List ℕ) (flag : Flag) → entry_at flag_table word ≡ Some flag
    → word ≡ flag_text flag
flag_word_is word flag is = found_name flag_text flag_table flags_named word flag is

flag_found : (flag : Flag) → entry_at flag_table (flag_text flag) ≡ Some flag
unfolding flag_table
flag_found IgnoreCase = refl
flag_found TwoColumns = refl
flag_found Numeric = refl
flag_found File = refl
flag_found Method = refl
flag_found Number = refl
flag_found End = refl

flag_begins : (flag : Flag) → begins_as_flag (flag_text flag) ≡ true
flag_begins IgnoreCase = refl
flag_begins TwoColumns = refl
flag_begins Numeric = refl
flag_begins File = refl
flag_begins Method = refl
flag_begins Number = refl
flag_begins End = refl

no_flag_by : (word : List ℕ) (found : Option Flag) → entry_at flag_table word ≡ found
    → begins_as_flag word ≡ false → found ≡ None
no_flag_by word None is none = refl
no_flag_by word (Some flag) is none =
    let begins : begins_as_flag word ≡ true =
    ap begins_as_flag (flag_word_is word flag is) ∙ flag_begins flag in
    absurd (let no : ⊥ = cc in no)

no_flag : (word : List ℕ) → begins_as_flag word ≡ false → entry_at flag_table word ≡ None
no_flag word none = no_flag_by word (entry_at flag_table word) refl none

-- ---- arguments of flags

argument_writes : (line : ℕ) (flag : Flag) (text : List ℕ) (flags : Flags) (known : Known)
    (changed : Reading Flags) → takes_argument flag ≡ true
    → flag_argument line flag text flags known ≡ Ok changed
    → WritesArgument line flag text flags known changed
argument_writes line File name flags known changed takes is =
    let (named, opened, after) =
    and_then_ok (with_named_file line name flags.two known)
    (λ file. Ok (reading (with_searched flags file.value) (with_acl file.value file.known))) changed
    is in
    let (file, has, same) = named_position line name flags.two known named opened in
    let whole : reading (with_searched flags named.value) (with_acl named.value named.known)
    ≡ changed = cc in (
      file,
      has,
      sym whole ∙ ap (λ (n : Reading ℕ). reading (with_searched flags n.value) (with_acl n.value n.known)) same,
    )
argument_writes line Method name flags known changed takes is =
    let (by, found, after) =
    and_then_ok (ok_or (entry_at method_table name) unsupported)
    (λ by. Ok (reading (record flags { by = Some by }) known)) changed is in
    let whole : reading (record flags { by = Some by }) known ≡ changed = cc in
    (by, ok_or_is (entry_at method_table name) unsupported by found, sym whole)
argument_writes line Number text flags known changed takes is =
    let (n, found, after) =
    and_then_ok (ok_or (width_of (2 ^ 32 - 1) text) bad_argument)
    (λ n. Ok (reading (record flags { given = Some n }) known)) changed is in
    let whole : reading (record flags { given = Some n }) known ≡ changed = cc in
    (n, ok_or_is (width_of (2 ^ 32 - 1) text) bad_argument n found, sym whole)
argument_writes line IgnoreCase text flags known changed takes is = absurd (let no : ⊥ = cc in no)
argument_writes line TwoColumns text flags known changed takes is = absurd (let no : ⊥ = cc in no)
argument_writes line Numeric text flags known changed takes is = absurd (let no : ⊥ = cc in no)
argument_writes line End text flags known changed takes is = absurd (let no : ⊥ = cc in no)

pub writes_argument : (line : ℕ) (flag : Flag) (text : List ℕ) (flags : Flags) (known : Known)
    (changed : Reading Flags) → WritesArgument line flag text flags known changed
    → flag_argument line flag text flags known ≡ Ok changed
writes_argument line File name flags known changed (file, has, is) =
    then_ok (with_named_file line name flags.two known)
    (λ file. Ok (reading (with_searched flags file.value) (with_acl file.value file.known)))
    (reading file.value (with_named file.value file.known)) changed
    (position_named line name flags.two known file has) (ap (λ r. Ok r) (sym is))
writes_argument line Method name flags known changed (by, found, is) =
    ap (λ o. ok_or o unsupported >>= (λ by. Ok (reading (record flags { by = Some by }) known))) found
    ∙ ap (λ r. Ok r) (sym is)
writes_argument line Number text flags known changed (n, found, is) =
    ap (λ o. ok_or o bad_argument >>= (λ n. Ok (reading (record flags { given = Some n }) known))) found
    ∙ ap (λ r. Ok r) (sym is)
writes_argument line IgnoreCase text flags known changed never = absurd never
writes_argument line TwoColumns text flags known changed never = absurd never
writes_argument line Numeric text flags known changed never = absurd never
writes_argument line End text flags known changed never = absurd never

-- ---- flags that are read are spelled

abbrev pub with_known : Flags → Known → Reading Flags
with_known flags known = record { value = flags; known = known }

abbrev pub after_flags : Reading Flags → List (List ℕ) → Reading AfterFlags
after_flags flags patterns = record {
  value = record { flags = flags.value; words = patterns };
  known = flags.known;
}

-- words are flags, and what follows them
pub record SpelledFlags (line : ℕ) (words : List (List ℕ)) (start : Reading Flags)
    (after : Reading AfterFlags) : Type 0 where
  pub flag_words : List (List ℕ)
  pub others : List (List ℕ)
  pub patterns : List (List ℕ)
  pub words_are : words ≡ flag_words ++ others
  pub flags : Reading Flags
  pub spelled : SpellFlags line start flag_words flags
  pub end : EndFlags others patterns
  pub is : after ≡ after_flags flags patterns

-- the same after a flag whose argument comes first
record SpelledArgument (line : ℕ) (flag : Flag) (words : List (List ℕ)) (start : Reading Flags)
    (after : Reading AfterFlags) : Type 0 where
  text : List ℕ
  rest : List (List ℕ)
  words_are : words ≡ text ∷ rest
  changed : Reading Flags
  argued : flag_argument line flag text start.value start.known ≡ Ok changed
  further : SpelledFlags line rest changed after

abbrev Spelled : ℕ → Option Flag → List (List ℕ) → Reading Flags → Reading AfterFlags → Type 0
Spelled line None words start after = SpelledFlags line words start after
Spelled line (Some flag) words start after = SpelledArgument line flag words start after

no_more : (line : ℕ) (others patterns : List (List ℕ)) (start : Reading Flags)
    (after : Reading AfterFlags) → EndFlags others patterns
    → flags_end start.value patterns start.known ≡ Ok after
    → SpelledFlags line others start after
no_more line others patterns start after end is = record {
  flag_words = [];
  others = others;
  patterns = patterns;
  words_are = refl;
  flags = start;
  spelled = NoFlags start;
  end = end;
  is = cc;
}

one_alone : (line : ℕ) (flag : Flag) (word : List ℕ) (words : List (List ℕ))
    (start : Reading Flags) (changed : Flags) (after : Reading AfterFlags)
    → entry_at flag_table word ≡ Some flag → flag_alone flag start.value ≡ Some changed
    → SpelledFlags line words (with_known changed start.known) after
    → SpelledFlags line (word ∷ words) start after
one_alone line flag word words start changed after found alone s =
    let first : word ≡ flag_text flag = flag_word_is word flag found in
    record {
      flag_words = flag_text flag ∷ s.flag_words;
      others = s.others;
      patterns = s.patterns;
      words_are = rw (first, s.words_are) refl;
      flags = s.flags;
      spelled = FlagAlone flag start s.flags changed s.flag_words alone s.spelled;
      end = s.end;
      is = s.is;
    }

one_with_argument : (line : ℕ) (flag : Flag) (word : List ℕ) (words : List (List ℕ))
    (start : Reading Flags) (after : Reading AfterFlags)
    → entry_at flag_table word ≡ Some flag → takes_argument flag ≡ true
    → may_stand flag start.value ≡ true → SpelledArgument line flag words start after
    → SpelledFlags line (word ∷ words) start after
one_with_argument line flag word words start after found takes may a =
    let first : word ≡ flag_text flag = flag_word_is word flag found in
    let s = a.further in
    record {
      flag_words = flag_text flag ∷ a.text ∷ s.flag_words;
      others = s.others;
      patterns = s.patterns;
      words_are = rw (first, a.words_are, s.words_are) refl;
      flags = s.flags;
      spelled = FlagWithArgument flag a.text start a.changed s.flags s.flag_words takes may
          (argument_writes line flag a.text start.value start.known a.changed takes a.argued)
          s.spelled;
      end = s.end;
      is = s.is;
    }

allowed : (line : ℕ) (flag : Flag) (word : List ℕ) (words : List (List ℕ))
    (start : Reading Flags) (after : Reading AfterFlags) (b : Bool)
    (read : Result (Reading AfterFlags) SpellFault)
    → may_stand flag start.value ≡ b → entry_at flag_table word ≡ Some flag
    → takes_argument flag ≡ true
    → (read ≡ Ok after → SpelledArgument line flag words start after)
    → cond b read (Err bad_argument) ≡ Ok after
    → SpelledFlags line (word ∷ words) start after
allowed line flag word words start after true read may found takes further is =
    one_with_argument line flag word words start after found takes may (further is)
allowed line flag word words start after false read may found takes further is =
    absurd (let no : ⊥ = cc in no)

patterns_follow : (line : ℕ) (word : List ℕ) (words : List (List ℕ)) (start : Reading Flags)
    (after : Reading AfterFlags) (b : Bool) → begins_as_flag word ≡ b
    → cond b (Err unsupported) (flags_end start.value (word ∷ words) start.known) ≡ Ok after
    → SpelledFlags line (word ∷ words) start after
patterns_follow line word words start after true begins is = absurd (let no : ⊥ = cc in no)
patterns_follow line word words start after false begins is =
    no_more line (word ∷ words) (word ∷ words) start after (inr (refl, begins)) is

-- what is read after a word, and what it then spells
abbrev Further : ℕ → List (List ℕ) → Known → Reading AfterFlags → Type 0
Further line words known after =
    (awaits : Option Flag) (flags : Flags) → flags_from line awaits words flags known ≡ Ok after
    → Spelled line awaits words (with_known flags known) after

by_entry : (line : ℕ) (word : List ℕ) (words : List (List ℕ)) (flags : Flags) (known : Known)
    (after : Reading AfterFlags) → Further line words known after → (entry : Option Flag)
    → entry_at flag_table word ≡ entry
    → flag_word (λ awaits changed. flags_from line awaits words changed known) entry word words
    flags known ≡ Ok after
    → SpelledFlags line (word ∷ words) (with_known flags known) after
by_entry line word words flags known after further (Some IgnoreCase) found is =
    one_alone line IgnoreCase word words (with_known flags known) (record flags { ci = true }) after
    found refl (further None (record flags { ci = true }) is)
by_entry line word words flags known after further (Some TwoColumns) found is =
    one_alone line TwoColumns word words (with_known flags known) (record flags { two = true }) after
    found refl (further None (record flags { two = true }) is)
by_entry line word words flags known after further (Some Numeric) found is =
    one_alone line Numeric word words (with_known flags known) flags after found refl
    (further None flags is)
by_entry line word words flags known after further (Some File) found is =
    allowed line File word words (with_known flags known) after (may_stand File flags)
    (flags_from line (Some File) words flags known) refl found refl (further (Some File) flags) is
by_entry line word words flags known after further (Some Method) found is =
    allowed line Method word words (with_known flags known) after (may_stand Method flags)
    (flags_from line (Some Method) words flags known) refl found refl (further (Some Method) flags) is
by_entry line word words flags known after further (Some Number) found is =
    allowed line Number word words (with_known flags known) after (may_stand Number flags)
    (flags_from line (Some Number) words flags known) refl found refl (further (Some Number) flags) is
by_entry line word words flags known after further (Some End) found is =
    let first : word ≡ codes "--" = flag_word_is word End found in
    no_more line (word ∷ words) words (with_known flags known) after
    (inl (ap (λ (w : List ℕ). w ∷ words) first)) is
by_entry line word words flags known after further None found is =
    patterns_follow line word words (with_known flags known) after (begins_as_flag word) refl is

spelled : (line : ℕ) (awaits : Option Flag) (words : List (List ℕ)) (flags : Flags)
    (known : Known) (after : Reading AfterFlags)
    → flags_from line awaits words flags known ≡ Ok after
    → Spelled line awaits words (with_known flags known) after
spelled line None [] flags known after is =
    no_more line [] [] (with_known flags known) after (inr (refl, tt)) is
spelled line (Some flag) [] flags known after is = absurd (let no : ⊥ = cc in no)
spelled line None (word ∷ words) flags known after is =
    by_entry line word words flags known after
    (λ awaits changed read. spelled line awaits words changed known after read)
    (entry_at flag_table word) refl is
spelled line (Some flag) (word ∷ words) flags known after is =
    let (changed, argued, further) =
    and_then_ok (flag_argument line flag word flags known)
    (λ r. flags_from line None words r.value r.known) after is in
    record {
      text = word;
      rest = words;
      words_are = refl;
      changed = changed;
      argued = argued;
      further = spelled line None words changed.value changed.known after further;
    }

-- ---- flags that are spelled are read

read_end : (line : ℕ) (others patterns : List (List ℕ)) (flags : Flags) (known : Known)
    → EndFlags others patterns
    → flags_from line None others flags known ≡ flags_end flags patterns known
read_end line others patterns flags known (inl is) =
    rw (is, flag_found End) refl
read_end line others [] flags known (inr (is, none)) = rw is refl
read_end line others (word ∷ words) flags known (inr (is, none)) =
    rw (is, no_flag word none, none) refl

read_alone : (line : ℕ) (flag : Flag) (words : List (List ℕ)) (flags changed : Flags)
    (known : Known) → flag_alone flag flags ≡ Some changed
    → flags_from line None (flag_text flag ∷ words) flags known
    ≡ flags_from line None words changed known
read_alone line IgnoreCase words flags changed known is =
    rw (flag_found IgnoreCase) (ap (λ f. flags_from line None words f known)
    (same_Some (record flags { ci = true }) changed is))
read_alone line TwoColumns words flags changed known is =
    rw (flag_found TwoColumns) (ap (λ f. flags_from line None words f known)
    (same_Some (record flags { two = true }) changed is))
read_alone line Numeric words flags changed known is =
    rw (flag_found Numeric) (ap (λ f. flags_from line None words f known)
    (same_Some flags changed is))
read_alone line File words flags changed known is = absurd (none-some changed is)
read_alone line Method words flags changed known is = absurd (none-some changed is)
read_alone line Number words flags changed known is = absurd (none-some changed is)
read_alone line End words flags changed known is = absurd (none-some changed is)

read_with_argument : (line : ℕ) (flag : Flag) (text : List ℕ) (words : List (List ℕ))
    (flags : Flags) (known : Known) (changed : Reading Flags)
    → takes_argument flag ≡ true → may_stand flag flags ≡ true
    → flag_argument line flag text flags known ≡ Ok changed
    → flags_from line None (flag_text flag ∷ text ∷ words) flags known
    ≡ flags_from line None words changed.value changed.known
read_with_argument line IgnoreCase text words flags known changed takes may is =
    absurd (let no : ⊥ = cc in no)
read_with_argument line TwoColumns text words flags known changed takes may is =
    absurd (let no : ⊥ = cc in no)
read_with_argument line Numeric text words flags known changed takes may is =
    absurd (let no : ⊥ = cc in no)
read_with_argument line File text words flags known changed takes may is =
    rw (flag_found File, may, is) refl
read_with_argument line Method text words flags known changed takes may is =
    rw (flag_found Method, may, is) refl
read_with_argument line Number text words flags known changed takes may is =
    rw (flag_found Number, may, is) refl
read_with_argument line End text words flags known changed takes may is =
    absurd (let no : ⊥ = cc in no)

read_flags : (line : ℕ) (start : Reading Flags) (words : List (List ℕ)) (flags : Reading Flags)
    → SpellFlags line start words flags → (others patterns : List (List ℕ))
    → EndFlags others patterns
    → flags_from line None (words ++ others) start.value start.known
    ≡ Ok (after_flags flags patterns)
read_flags line _ _ _ (NoFlags flags) others patterns end =
    read_end line others patterns flags.value flags.known end
read_flags line _ _ _
    (FlagAlone flag before after changed words alone spelled) others patterns end =
    read_alone line flag (words ++ others) before.value changed before.known alone
    ∙ read_flags line (with_known changed before.known) words after spelled others patterns end
read_flags line _ _ _
    (FlagWithArgument flag text before changed after words takes may argued spelled) others patterns
    end =
    read_with_argument line flag text (words ++ others) before.value before.known changed takes may
    (writes_argument line flag text before.value before.known changed argued)
    ∙ read_flags line changed words after spelled others patterns end

-- ---- the law

-- Words are read as flags and patterns exactly where they are spelled so.
pub flags_law : (line : ℕ) (words : List (List ℕ)) (start : Reading Flags)
    (after : Reading AfterFlags)
    → (flags_from line None words start.value start.known ≡ Ok after)
    ↔ SpelledFlags line words start after
flags_law line words start after = (
  λ is. spelled line None words start.value start.known after is,
  λ s. ap (λ w. flags_from line None w start.value start.known) s.words_are
      ∙ (read_flags line start s.flag_words s.flags s.spelled s.others s.patterns s.end
      ∙ ap (λ a. Ok a) (sym s.is)),
)
