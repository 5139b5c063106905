-- What the management socket has to do with one version of a reference that isn't searched: which
-- lines work on it alone, what is equal where they are left out, and how replies are compared
-- (HAProxy management guide 2.4, section 9.3, `prepare map`).
use Rattle.std.specs.Prelude.{◌≡◌, ℕ, ◌&&◌, ◌==◌, Bool, false, List, ◌++◌, codes, map, Option, None, Some, option_and_then, if◌then◌else◌}
use Rattle.std.specs.FinMap as finite
use Rattle.std.specs.Fmt.{decimal}
use Rattle.std.specs.List.{before_last, position_or_len, starts_with}
use Rattle.std.specs.Option.{option_map_or}
use Rattle.hx_base.specs.Bytes.{ascii, is_given}
use Rattle.hx_refs.specs.Naming.{is_named, named_number}
use Rattle.hx_refs.specs.Numbers.{number_at, IsNotSearched}
use Rattle.hx_refs.specs.References.{changed_at, empty_version, is_open, with_reference, Reference, References}
use Rattle.hx_refs.specs.VersionNumbers.{ahead}
use Rattle.hx_cli.specs.CommandLine.{words_of}
use Rattle.hx_cli.specs.Commands.{command_of}
use Rattle.hx_cli.specs.Payloads.{line_effect, OpenPayloads, PayloadParts}
use Rattle.hx_cli.specs.Replies.{ReplyParts}
use Rattle.hx_cli.specs.declared.command.Command.{Command}
use Rattle.hx_cli.specs.declared.command.Command.TheVariants.{ShowAll, Show, Add, AddMany, Del, Set, Clear, Commit}

-- ---- which lines work on the version

-- the word names the reference at a position: it is the first with this number, or with this file
abbrev pub names_reference : References → ℕ → List ℕ → Bool
names_reference refs r word =
    position_or_len (is_named (named_number word) word) refs.references == r

-- `@VER REF` is version v of the reference at a position
abbrev pub names_version : References → ℕ → ℕ → Option ℕ → List ℕ → Bool
names_version refs r v ver word = is_given ver v && names_reference refs r word

-- the command names that version; the other commands name none
abbrev pub is_on_version : References → ℕ → ℕ → Command → Bool
is_on_version refs r v (Show is_map ver name) = names_version refs r v ver name
is_on_version refs r v (Add is_map ver name key value) = names_version refs r v ver name
is_on_version refs r v (AddMany is_map ver name) = names_version refs r v ver name
is_on_version refs r v (Del is_map ver name key) = names_version refs r v ver name
is_on_version refs r v (Set ver name key value) = names_version refs r v ver name
is_on_version refs r v (Clear is_map ver name) = names_version refs r v ver name
is_on_version refs r v (Commit is_map ver name) = names_version refs r v (Some ver) name
is_on_version refs r v _ = false

-- the payload was begun for that version
abbrev pub is_for_version : References → ℕ → ℕ → PayloadParts → Bool
is_for_version refs r v payload = names_version refs r v payload.ver payload.name

-- the command of a line, if it is one; a line of a payload is none
abbrev pub line_command : ℕ → List ℕ → OpenPayloads → Option Command
line_command session text payloads =
    option_map_or (λ payload. None) (finite.get payloads session) (command_of (words_of text))

-- The line is a command on that version, or one of the lines of a payload that was begun for it. A
-- line of another payload is neither, whatever its words are.
abbrev pub is_line_on_version : ℕ → ℕ → ℕ → List ℕ → OpenPayloads → References → Bool
is_line_on_version r v session text payloads refs =
    option_map_or (is_for_version refs r v) (finite.get payloads session)
    (option_map_or (is_on_version refs r v) (command_of (words_of text)) false)

-- the line is a `commit` of that version, and is done
abbrev pub is_commit_of : References → ℕ → ℕ → Command → Bool
is_commit_of refs r v (Commit is_map ver name) = names_version refs r v (Some ver) name
is_commit_of refs r v _ = false

abbrev pub is_commit_line : ℕ → ℕ → ℕ → List ℕ → OpenPayloads → References → Bool
is_commit_line r v session text payloads refs =
    option_map_or (is_commit_of refs r v) (line_command session text payloads) false
    && option_map_or (λ reply. reply.code == 0) (line_effect session text payloads refs).reply false

-- ---- what is equal without them

-- a reference, as if nothing was added to its version v
abbrev pub without_additions : ℕ → Reference → Reference
without_additions v old = record old {
  versions =
      if is_open old v then changed_at (ahead old.curr v) (λ _. empty_version) old.versions
      else old.versions;
}

-- the references, as if nothing was added to version v of the one at a position
abbrev pub with_empty_version : ℕ → ℕ → References → References
with_empty_version r v refs = with_reference r (without_additions v) refs

-- the payload, unless it was begun for that version
abbrev pub other_payload : References → ℕ → ℕ → Option PayloadParts → Option PayloadParts
other_payload refs r v payload =
    option_and_then (λ begun. if is_for_version refs r v begun then None else Some begun) payload

-- Two states of the references, each with the payloads that have begun. The version isn't searched.
-- They are equal but for what was added to it, and for the payloads that were begun for it, of
-- which the second has none.
pub record AreAlike (r v : ℕ) (first second : References) (payloads others : OpenPayloads)
    : Type 0 where
  pub not_searched : IsNotSearched first r v
  pub references : with_empty_version r v second ≡ with_empty_version r v first
  pub sessions : (session : ℕ) → finite.get others session
      ≡ other_payload first r v (finite.get payloads session)

-- ---- how replies are compared

-- a line that begins as that of the reference with this number, without the count of entries, which
-- follows its last `=`
abbrev pub without_count : ℕ → List ℕ → List ℕ
without_count number line =
    if starts_with ◌==◌ line (decimal number ++ codes " (")
    then before_last (λ b. b == ascii "=") line else line

-- The reply to a command, where the entries of the reference at a position aren't counted. Only the
-- reply to `show acl` and `show map` without a reference tells such counts.
abbrev pub reply_without_count : References → ℕ → Command → ReplyParts → ReplyParts
reply_without_count refs r (ShowAll is_map) reply = record reply {
  lines =
      option_map_or (λ number. map (without_count number) reply.lines)
      (number_at refs.references r) reply.lines;
}
reply_without_count refs r _ reply = reply

-- the same of the reply to a line, by its command
abbrev pub line_reply_without_count : References → ℕ → Option Command → ReplyParts → ReplyParts
line_reply_without_count refs r command reply =
    option_map_or (λ c. reply_without_count refs r c reply) command reply
