-- What a command makes of the references, and what it is answered (HAProxy management guide 2.4,
-- section 9.3).
use Rattle.std.specs.Prelude.{ℕ, ◌<◌, Bool, List, [], ◌∷◌, drop, length, map, sum, codes, take, Option, None, option_and_then, option_map, Result, Ok, Err, if◌then◌else◌}
use Rattle.std.specs.FinMap as finite
use Rattle.std.specs.Int.{from_be_bytes, w64}
use Rattle.std.specs.List.{filter}
use Rattle.std.specs.Option.{option_map_or}
use Rattle.std.specs.Ordering.{nat_cmp}
use Rattle.std.specs.Result.{result_ok}
use Rattle.std.specs.Str.{bytes_eq}
use Rattle.hex.specs.Hex.{decode_sized}
use Rattle.hx_base.specs.Bytes.{is_given}
use Rattle.hx_outside.specs.Makers.{ExpressionText}
use Rattle.hx_text.specs.declared.kinds.By.{By}
use Rattle.hx_sample.specs.Cast.{cast_of}
use Rattle.hx_sample.specs.Changes.{has_key}
use Rattle.hx_sample.specs.Find.{Entry}
use Rattle.hx_sample.specs.Keys.{kind_by}
use Rattle.hx_sample.specs.Tables.{found_at}
use Rattle.hx_sample.specs.declared.sample.Value.TheVariants as value
use Rattle.hx_refs.specs.Additions.{addition_fault, after_addition, AdditionAsksFor, Pair}
use Rattle.hx_refs.specs.Changes.{after_change_of_value, after_clearing, after_commit, after_deletion, after_preparation, commit_fault, deletion_fault, fault_at, preparation_fault, prepared_version, value_fault}
use Rattle.hx_refs.specs.Naming.{resolution}
use Rattle.hx_refs.specs.References.{entries_in, searched_lists, Reference, References}
use Rattle.hx_refs.specs.Uses.{uses_in_order, uses_of}
use Rattle.hx_refs.specs.declared.fault.RefFault.{RefFault}
use Rattle.hx_refs.specs.declared.fault.RefFault.TheVariants as fault
use Rattle.hx_refs.specs.declared.side.Side.{Side}
use Rattle.hx_refs.specs.declared.side.Side.TheVariants as side
use Rattle.hx_cli.specs.declared.command.Command.{Command}
use Rattle.hx_cli.specs.declared.command.Command.TheVariants.{ShowAll, Show, Get, Add, AddMany, Del, Set, Clear, Prepare, Commit}
use Rattle.hx_cli.specs.Replies.{entry_text, prepared_text, reference_line, use_text, ReplyParts}

-- what comes of a command: its reply, and the references after it
pub record Effect : Type 0 where
  pub reply : ReplyParts
  pub refs : References

-- ---- refusals

-- the code of a refusal; two faults say nothing of the command, have none, and refuse no command
-- (the law `refusals_have_codes`)
abbrev pub code_of : RefFault → ℕ
code_of fault.UnknownRef = 1
code_of fault.BadVersion = 2
code_of fault.KeyNotFound = 3
code_of fault.BadPattern = 4
code_of fault.BadValue = 5
code_of fault.NeedsMap = 6
code_of fault.UsedAsMap = 7
code_of fault.VersionFull = 8
code_of fault.VersionWorn = 9
code_of fault.NoMoreVersions = 10
code_of _ = 0

-- a fault has a code
abbrev pub HasCode : RefFault → Type 0
HasCode fault = 0 < code_of fault

-- a command that is refused with this code changes nothing
abbrev pub refused : ℕ → References → Effect
refused code refs = record { reply = record { code = code; lines = [] }; refs = refs }

-- a command that is done tells these lines, and leaves these references
abbrev pub done : List (List ℕ) → References → Effect
done lines refs = record { reply = record { code = 0; lines = lines }; refs = refs }

-- what comes of a command with this fault, or none, that would have this effect
abbrev pub unless : References → Option RefFault → Effect → Effect
unless refs fault effect = option_map_or (λ f. refused (code_of f) refs) fault effect

-- ---- which reference, and which of its entries

-- the sides on which a command looks at a reference, and on which it adds to one
abbrev pub looking : Bool → Side
looking is_map = if is_map then side.Map else side.Acl

abbrev pub adding : Bool → Side
adding is_map = if is_map then side.Map else side.AclWrite

-- what comes of a command on the reference that a word names, or why it names none
abbrev pub on_resolved : References → (ℕ → Effect) → Result ℕ RefFault → Effect
on_resolved refs effect (Ok r) = effect r
on_resolved refs effect (Err fault) = refused (code_of fault) refs

abbrev pub on_reference : References → List ℕ → Side → (ℕ → Effect) → Effect
on_reference refs name wanted effect = on_resolved refs effect (resolution refs name wanted)

-- the number of an entry that a word writes after `#`: `0x`, and sixteen hex digits of either case
unfoldable pub number_after_sign : List ℕ → Option ℕ
number_after_sign text =
    if bytes_eq (take 2 text) (codes "0x")
    then option_map (from_be_bytes w64) (result_ok (decode_sized (drop 2 text) 8)) else None

-- the entries of which a word of a removal or of a change of value speaks: that of a number where
-- it begins with `#`, and else those with the key
abbrev pub is_meant : List ℕ → Entry → Bool
is_meant word =
    if bytes_eq (take 1 word) (codes "#")
    then (λ entry. is_given (number_after_sign (drop 1 word)) entry.number) else has_key word

-- ---- what is told

-- the lines of the references that are told, among the lists of patterns or among the maps, by the
-- numbers of the references
abbrev pub lines_by_number : Bool → List Reference → finite.FinMap nat_cmp (List ℕ)
lines_by_number is_map references =
    let told = filter (λ ref. if is_map then ref.two_column else ref.acl) references in
    finite.from_entries (map (λ ref.
    let count = sum (map (λ version. length version.entries) ref.versions) in
    (ref.id, reference_line ref.id ref.curr ref.next count ref.file)) told)

-- the references that are told, in the order of their numbers, after a heading
unfoldable pub told_references : Bool → References → List (List ℕ)
told_references is_map refs =
    codes "# id (file)" ∷ finite.values (lines_by_number is_map refs.references)

-- the entry that is found through a head for a text, cast to the type that a method looks at
abbrev pub found_for : References → List ℕ → By → ℕ → Option Entry
found_for refs text method head =
    option_and_then (λ v. found_at refs.heads (searched_lists refs) head v)
    (cast_of (value.Str text) (kind_by method))

-- the uses of a reference, with what each finds for a text
unfoldable pub told_uses : Bool → References → ℕ → List ℕ → List (List ℕ)
told_uses is_map refs r text =
    map (λ u. use_text is_map u.by u.ci (found_for refs text u.by u.head))
    (uses_in_order (uses_of refs.heads r))

-- ---- commands

-- an addition of entries
abbrev pub addition_effect : Bool → Option ℕ → List ℕ → List Pair → References → Effect
addition_effect is_map ver name pairs refs =
    on_reference refs name (adding is_map) (λ r.
    unless refs (addition_fault refs r ver pairs) (done [] (after_addition refs r ver pairs)))

-- what comes of a command; the entries of a payload come later, so that its first line changes
-- nothing
abbrev pub command_effect : Command → References → Effect
command_effect (ShowAll is_map) refs = done (told_references is_map refs) refs
command_effect (Show is_map ver name) refs =
    on_reference refs name (looking is_map)
    (λ r. done (map (entry_text is_map) (entries_in refs r ver)) refs)
command_effect (Get is_map name text) refs =
    on_reference refs name (looking is_map) (λ r. done (told_uses is_map refs r text) refs)
command_effect (Add is_map ver name key v) refs =
    addition_effect is_map ver name (record { key = key; value = v } ∷ []) refs
command_effect (AddMany is_map ver name) refs = done [] refs
command_effect (Del is_map ver name key) refs =
    on_reference refs name (looking is_map)
    (λ r. unless refs (fault_at refs r (deletion_fault ver (is_meant key)))
    (done [] (after_deletion refs r ver (is_meant key))))
command_effect (Set ver name key v) refs =
    on_reference refs name side.Map
    (λ r. unless refs (fault_at refs r (value_fault ver (is_meant key) v))
    (done [] (after_change_of_value refs r ver (is_meant key) v)))
command_effect (Clear is_map ver name) refs =
    on_reference refs name (looking is_map) (λ r. done [] (after_clearing refs r ver))
command_effect (Prepare is_map name) refs =
    on_reference refs name (adding is_map)
    (λ r. unless refs (fault_at refs r (preparation_fault refs.limits))
    (done (prepared_text (prepared_version refs r) ∷ []) (after_preparation refs r)))
command_effect (Commit is_map ver name) refs =
    on_reference refs name (adding is_map)
    (λ r. unless refs (fault_at refs r (commit_fault ver)) (done [] (after_commit refs r ver)))

-- ---- regular expressions that are too large

-- an addition to the reference that a word names reads a key as this expression
abbrev pub ResolvedAsksFor : References → Option ℕ → List Pair → Result ℕ RefFault → ExpressionText
    → Type 0
ResolvedAsksFor refs ver pairs (Ok r) text = AdditionAsksFor refs r ver pairs text
ResolvedAsksFor refs ver pairs (Err refusal) text = ⊥

abbrev pub AdditionCommandAsksFor : Bool → Option ℕ → List ℕ → List Pair → References
    → ExpressionText → Type 0
AdditionCommandAsksFor is_map ver name pairs refs text =
    ResolvedAsksFor refs ver pairs (resolution refs name (adding is_map)) text

-- a command reads a key as this expression
abbrev pub CommandAsksFor : Command → References → ExpressionText → Type 0
CommandAsksFor (Add is_map ver name key v) refs text =
    AdditionCommandAsksFor is_map ver name (record { key = key; value = v } ∷ []) refs text
CommandAsksFor _ refs text = ⊥
