-- Lines of the management socket, and a version that isn't searched: without those that work on it
-- alone, the others do and answer the same.
use Rattle.std.proofs.Common.{◌≡◌, ℕ, ◌==◌, Bool, true, false, cond, List, [], ◌∷◌, refl, ap, sym, subst, ◌∙◌}
use Rattle.std.specs.Prelude.{Option, None, Some, IfSome, ◌&&◌, option_map, slice_get}
use Rattle.std.specs.Cmp.{nat_cmp_total, unsigned_tied}
use Rattle.std.specs.FinMap as finite
use Rattle.std.specs.FinMap.{get-insert, get-remove}
use Rattle.std.specs.List.{list_all}
use Rattle.std.specs.Option.{option_map_or}
use Rattle.std.specs.Ordering.{eq_by_cmp, nat_cmp}
use Rattle.std.proofs.lemmas.Bool.{eqb-true, false≢true}
use Rattle.hx_base.specs.Bytes.{is_blank, is_given}
use Rattle.hx_refs.specs.Numbers.{number_at, IsAnotherVersion, IsNotSearched}
use Rattle.hx_refs.specs.References.{Reference, References}
use Rattle.hx_cli.specs.declared.command.Command.{Command}
use Rattle.hx_cli.specs.declared.command.Command.TheVariants.{ShowAll, Show, Get, Add, AddMany, Del, Set, Clear, Prepare, Commit}
use Rattle.hx_cli.specs.CommandLine.{words_of}
use Rattle.hx_cli.specs.Commands.{command_of}
use Rattle.hx_cli.specs.Effects.{addition_effect, command_effect}
use Rattle.hx_cli.specs.Payloads.{command_line, line_effect, new_payload, outside_line, payload_line, replied, untold, with_line, LineEffect, OpenPayloads, PayloadParts}
use Rattle.hx_cli.specs.Replies.{ReplyParts}
use Rattle.hx_cli.specs.Unseen.{is_commit_line, is_commit_of, is_for_version, is_line_on_version, is_on_version, line_command, line_reply_without_count, names_reference, names_version, other_payload, reply_without_count, with_empty_version, without_additions, AreAlike}
use Rattle.hx_cli.proofs.PositionLemmas.{item_here}
use Rattle.hx_cli.proofs.UnseenCommandLemmas.{addition_along, addition_hidden, command_along, command_hidden, IsHidden}
use Rattle.hx_cli.proofs.UnseenReferenceLemmas.{another_filled, empty_follows, Follows}

-- ---- references that are alike

unchanged_apart : (r v : ℕ) (refs : References) → IsNotSearched (with_empty_version r v refs) r v → IsNotSearched refs r v
unchanged_apart r v refs apart =
    go (slice_get refs.references r) (rw (item_here r (without_additions v) refs.references) at apart)
  where
    go : (found : Option Reference) → IfSome (option_map (without_additions v) found) (IsAnotherVersion refs.limits v)
        → IfSome found (IsAnotherVersion refs.limits v)
    go None apart = tt
    go (Some x) apart = another_filled refs.limits v x apart

pub second_follows : (r v : ℕ) (first second : References) → IsNotSearched first r v
    → with_empty_version r v second ≡ with_empty_version r v first → Follows r v first second
second_follows r v first second apart same =
    let by_first = empty_follows first r v apart in
    let too : IsNotSearched second r v =
    unchanged_apart r v second (subst (λ (refs : References). IsNotSearched refs r v) (sym same) by_first.apart) in
    let by_second = empty_follows second r v too in
    record {
      apart = too;
      names = λ word.
          sym (by_second.names word) ∙ ap (λ (refs : References). names_reference refs r word) same ∙ by_first.names word;
      number =
          sym by_second.number ∙ ap (λ (refs : References). number_at refs.references r) same ∙ by_first.number;
    }

-- a word or a command names the version alike in both
named_alike : (r v : ℕ) (first second : References) (ver : Option ℕ) (name : List ℕ) → Follows r v first second
    → names_version second r v ver name ≡ names_version first r v ver name
named_alike r v first second ver name follows = ap (λ (named : Bool). is_given ver v && named) (follows.names name)

on_version_alike : (r v : ℕ) (first second : References) (command : Command) → Follows r v first second
    → is_on_version second r v command ≡ is_on_version first r v command
on_version_alike r v first second (ShowAll is_map) follows = refl
on_version_alike r v first second (Show is_map ver name) follows = named_alike r v first second ver name follows
on_version_alike r v first second (Get is_map name text) follows = refl
on_version_alike r v first second (Add is_map ver name key text) follows = named_alike r v first second ver name follows
on_version_alike r v first second (AddMany is_map ver name) follows = named_alike r v first second ver name follows
on_version_alike r v first second (Del is_map ver name key) follows = named_alike r v first second ver name follows
on_version_alike r v first second (Set ver name key text) follows = named_alike r v first second ver name follows
on_version_alike r v first second (Clear is_map ver name) follows = named_alike r v first second ver name follows
on_version_alike r v first second (Prepare is_map name) follows = refl
on_version_alike r v first second (Commit is_map ver name) follows =
    named_alike r v first second (Some ver) name follows

-- ---- payloads that are alike

other_alike : (r v : ℕ) (old new : References) (found : Option PayloadParts) → Follows r v old new
    → other_payload old r v found ≡ other_payload new r v found
other_alike r v old new None follows = refl
other_alike r v old new (Some begun) follows =
    ap (λ (here : Bool). cond here None (Some begun)) (sym (named_alike r v old new begun.ver begun.name follows))

module _ (r v : ℕ) (refs : References) (payloads others : OpenPayloads)
    (begun : (session : ℕ) → finite.get others session ≡ other_payload refs r v (finite.get payloads session)) where
  pub payloads_follow : (new : References) → Follows r v refs new → (session : ℕ)
      → finite.get others session ≡ other_payload new r v (finite.get payloads session)
  payloads_follow new follows session = begun session ∙ other_alike r v refs new (finite.get payloads session) follows

  insert_kept : (session : ℕ) (payload : PayloadParts) → is_for_version refs r v payload ≡ false → (s : ℕ)
      → finite.get (finite.insert others session payload) s ≡ other_payload refs r v (finite.get (finite.insert payloads session payload) s)
  insert_kept session payload other s =
      get-insert nat_cmp_total others session payload s
      ∙ go (eq_by_cmp nat_cmp s session)
      ∙ ap (other_payload refs r v) (sym (get-insert nat_cmp_total payloads session payload s))
    where
      go : (here : Bool) → cond here (Some payload) (finite.get others s) ≡ other_payload refs r v (cond here (Some payload) (finite.get payloads s))
      go true = ap (λ (b : Bool). cond b None (Some payload)) (sym other)
      go false = begun s

  remove_kept : (session s : ℕ)
      → finite.get (finite.remove others session) s ≡ other_payload refs r v (finite.get (finite.remove payloads session) s)
  remove_kept session s =
      get-remove nat_cmp_total others session s
      ∙ go (eq_by_cmp nat_cmp s session)
      ∙ ap (other_payload refs r v) (sym (get-remove nat_cmp_total payloads session s))
    where
      go : (here : Bool) → cond here None (finite.get others s) ≡ other_payload refs r v (cond here None (finite.get payloads s))
      go true = refl
      go false = begun s

  -- the session at which the two are read
  same_session : (s session : ℕ) → eq_by_cmp nat_cmp s session ≡ true → s ≡ session
  same_session s session tied = eqb-true s session (sym (unsigned_tied s session) ∙ tied)

  insert_hidden : (session : ℕ) (payload : PayloadParts) → is_for_version refs r v payload ≡ true → finite.get others session ≡ None
      → (s : ℕ) → finite.get others s ≡ other_payload refs r v (finite.get (finite.insert payloads session payload) s)
  insert_hidden session payload here none s =
      go (eq_by_cmp nat_cmp s session) refl
      ∙ ap (other_payload refs r v) (sym (get-insert nat_cmp_total payloads session payload s))
    where
      go : (b : Bool) → eq_by_cmp nat_cmp s session ≡ b
          → finite.get others s ≡ other_payload refs r v (cond b (Some payload) (finite.get payloads s))
      go true tied =
          ap (finite.get others) (same_session s session tied) ∙ none
          ∙ ap (λ (b : Bool). cond b None (Some payload)) (sym here)
      go false apart = begun s

  remove_hidden : (session : ℕ) → finite.get others session ≡ None
      → (s : ℕ) → finite.get others s ≡ other_payload refs r v (finite.get (finite.remove payloads session) s)
  remove_hidden session none s =
      go (eq_by_cmp nat_cmp s session) refl
      ∙ ap (other_payload refs r v) (sym (get-remove nat_cmp_total payloads session s))
    where
      go : (b : Bool) → eq_by_cmp nat_cmp s session ≡ b
          → finite.get others s ≡ other_payload refs r v (cond b None (finite.get payloads s))
      go true tied = ap (finite.get others) (same_session s session tied) ∙ none
      go false apart = begun s

-- ---- lines that are kept

-- what comes of a line in two states that are alike
pub record LinesAlike (r v : ℕ) (first second : References) (command another : Option Command) (effect other : LineEffect)
    : Type 0 where
  pub reply :
      option_map (line_reply_without_count second r another) other.reply
      ≡ option_map (line_reply_without_count first r command) effect.reply
  pub alike : AreAlike r v effect.refs other.refs effect.payloads other.payloads

module _ (r v session : ℕ) (first second : References) (payloads others : OpenPayloads) (both : AreAlike r v first second payloads others) where
  follows : Follows r v first second
  follows = second_follows r v first second both.not_searched both.references

  -- the same references, and payloads that are alike
  quiet : (now then' : OpenPayloads) → ((s : ℕ) → finite.get then' s ≡ other_payload first r v (finite.get now s))
      → (command : Option Command) → LinesAlike r v first second command command (untold now first) (untold then' second)
  quiet now then' begun command =
      record { reply = refl; alike = record { not_searched = both.not_searched; references = both.references; sessions = begun } }

  -- an addition that isn't to the version
  added : (now then' : OpenPayloads) → ((s : ℕ) → finite.get then' s ≡ other_payload first r v (finite.get now s))
      → (payload : PayloadParts) → is_for_version first r v payload ≡ false
      → LinesAlike r v first second None None
      (replied now (addition_effect payload.is_map payload.ver payload.name payload.pairs first))
      (replied then' (addition_effect payload.is_map payload.ver payload.name payload.pairs second))
  added now then' begun payload other =
      let one = addition_along r v first payload.is_map payload.ver payload.name payload.pairs both.not_searched other in
      let two =
      addition_along r v second payload.is_map payload.ver payload.name payload.pairs follows.apart
      (named_alike r v first second payload.ver payload.name follows ∙ other) in
      let effect = λ (refs : References). addition_effect payload.is_map payload.ver payload.name payload.pairs refs in
      record {
        reply =
            ap (λ (reply : ReplyParts). Some reply)
            (sym two.reply ∙ ap (λ (refs : References). (effect refs).reply) both.references ∙ one.reply);
        alike = record {
          not_searched = one.follows.apart;
          references =
              sym two.refs_are ∙ ap (λ (refs : References). (effect refs).refs) both.references ∙ one.refs_are;
          sessions = payloads_follow r v first now then' begun (effect first).refs one.follows;
        };
      }

  payload_kept : (text : List ℕ) (payload : PayloadParts) → is_for_version first r v payload ≡ false
      → LinesAlike r v first second None None (payload_line session text payloads first payload) (payload_line session text others second payload)
  payload_kept text payload other = go (list_all is_blank text)
    where
      go : (ends : Bool) → LinesAlike r v first second None None
          (cond ends (replied (finite.remove payloads session) (addition_effect payload.is_map payload.ver payload.name payload.pairs first))
          (untold (finite.insert payloads session (with_line text payload)) first))
          (cond ends (replied (finite.remove others session) (addition_effect payload.is_map payload.ver payload.name payload.pairs second))
          (untold (finite.insert others session (with_line text payload)) second))
      go true =
          added (finite.remove payloads session) (finite.remove others session)
          (remove_kept r v first payloads others both.sessions session) payload other
      go false =
          quiet (finite.insert payloads session (with_line text payload)) (finite.insert others session (with_line text payload))
          (insert_kept r v first payloads others both.sessions session (with_line text payload) other) None

  command_kept : (command : Command) → is_on_version first r v command ≡ false
      → LinesAlike r v first second (Some command) (Some command) (replied payloads (command_effect command first)) (replied others (command_effect command second))
  command_kept command other =
      let one = command_along r v first command both.not_searched other in
      let two =
      command_along r v second command follows.apart (on_version_alike r v first second command follows ∙ other) in
      record {
        reply =
            ap (λ (reply : ReplyParts). Some reply)
            (sym two.reply
            ∙ ap (λ (refs : References). reply_without_count refs r command (command_effect command refs).reply) both.references
            ∙ one.reply);
        alike = record {
          not_searched = one.follows.apart;
          references =
              sym two.refs_are ∙ ap (λ (refs : References). (command_effect command refs).refs) both.references ∙ one.refs_are;
          sessions = payloads_follow r v first payloads others both.sessions (command_effect command first).refs one.follows;
        };
      }

  found_kept : (found : Option Command) → option_map_or (is_on_version first r v) found false ≡ false
      → LinesAlike r v first second found found (command_line session found payloads first) (command_line session found others second)
  found_kept None other = record {
    reply = refl;
    alike = record { not_searched = both.not_searched; references = both.references; sessions = both.sessions };
  }
  found_kept (Some (AddMany is_map ver name)) other =
      quiet (finite.insert payloads session (new_payload is_map ver name)) (finite.insert others session (new_payload is_map ver name))
      (insert_kept r v first payloads others both.sessions session (new_payload is_map ver name) other) (Some (AddMany is_map ver name))
  found_kept (Some command) other = command_kept command other

  outside_kept : (words : List (List ℕ)) → option_map_or (is_on_version first r v) (command_of words) false ≡ false
      → LinesAlike r v first second (command_of words) (command_of words) (outside_line session words payloads first) (outside_line session words others second)
  outside_kept [] other = quiet payloads others both.sessions None
  outside_kept (word ∷ words) other = found_kept (command_of (word ∷ words)) other

  -- what comes of a line by the payload of its session
  abbrev effect_at : List ℕ → OpenPayloads → References → Option PayloadParts → LineEffect
  effect_at text now refs found =
      option_map_or (payload_line session text now refs) found (outside_line session (words_of text) now refs)

  abbrev command_at : List ℕ → Option PayloadParts → Option Command
  command_at text found = option_map_or (λ payload. None) found (command_of (words_of text))

  kept_by : (text : List ℕ) (found : Option PayloadParts)
      → option_map_or (is_for_version first r v) found (option_map_or (is_on_version first r v) (command_of (words_of text)) false) ≡ false
      → LinesAlike r v first second (command_at text found) (command_at text (other_payload first r v found))
      (effect_at text payloads first found) (effect_at text others second (other_payload first r v found))
  kept_by text None other = outside_kept (words_of text) other
  kept_by text (Some payload) other =
      subst
      (λ (here : Bool). LinesAlike r v first second None (command_at text (cond here None (Some payload)))
      (payload_line session text payloads first payload) (effect_at text others second (cond here None (Some payload))))
      (sym other) (payload_kept text payload other)

  pub line_kept : (text : List ℕ) → is_line_on_version r v session text payloads first ≡ false
      → LinesAlike r v first second (line_command session text payloads) (line_command session text others)
      (line_effect session text payloads first) (line_effect session text others second)
  line_kept text other =
      subst
      (λ (found : Option PayloadParts). LinesAlike r v first second (line_command session text payloads) (command_at text found)
      (line_effect session text payloads first) (effect_at text others second found))
      (sym (both.sessions session)) (kept_by text (finite.get payloads session) other)

  -- ---- lines that are left out

  -- nothing is changed but the version and its payloads
  hidden_alike : (new : References) (now : OpenPayloads) → IsHidden r v first new
      → ((s : ℕ) → finite.get others s ≡ other_payload first r v (finite.get now s)) → AreAlike r v new second now others
  hidden_alike new now hidden begun = record {
    not_searched = hidden.follows.apart;
    references = both.references ∙ sym hidden.empty;
    sessions = payloads_follow r v first now others begun new hidden.follows;
  }

  same_refs : (now : OpenPayloads) → ((s : ℕ) → finite.get others s ≡ other_payload first r v (finite.get now s))
      → AreAlike r v first second now others
  same_refs now begun = record { not_searched = both.not_searched; references = both.references; sessions = begun }

  abbrev payload_effect : List ℕ → PayloadParts → Bool → LineEffect
  payload_effect text payload ends =
      cond ends (replied (finite.remove payloads session) (addition_effect payload.is_map payload.ver payload.name payload.pairs first))
      (untold (finite.insert payloads session (with_line text payload)) first)

  payload_hidden : (text : List ℕ) (payload : PayloadParts) → is_for_version first r v payload ≡ true → finite.get others session ≡ None
      → AreAlike r v (payload_line session text payloads first payload).refs second (payload_line session text payloads first payload).payloads others
  payload_hidden text payload here none = go (list_all is_blank text)
    where
      go : (ends : Bool) → AreAlike r v (payload_effect text payload ends).refs second (payload_effect text payload ends).payloads others
      go true =
          hidden_alike (addition_effect payload.is_map payload.ver payload.name payload.pairs first).refs (finite.remove payloads session)
          (addition_hidden r v first payload.is_map payload.ver payload.name payload.pairs both.not_searched here)
          (remove_hidden r v first payloads others both.sessions session none)
      go false =
          same_refs (finite.insert payloads session (with_line text payload))
          (insert_hidden r v first payloads others both.sessions session (with_line text payload) here none)

  found_hidden : (found : Option Command) → finite.get others session ≡ None
      → option_map_or (is_on_version first r v) found false ≡ true
      → (option_map_or (is_commit_of first r v) found false
      && option_map_or (λ (reply : ReplyParts). reply.code == 0) (command_line session found payloads first).reply false) ≡ false
      → AreAlike r v (command_line session found payloads first).refs second (command_line session found payloads first).payloads others
  found_hidden None none here undone = absurd (false≢true here)
  found_hidden (Some (AddMany is_map ver name)) none here undone =
      same_refs (finite.insert payloads session (new_payload is_map ver name))
      (insert_hidden r v first payloads others both.sessions session (new_payload is_map ver name) here none)
  found_hidden (Some command) none here undone =
      hidden_alike (command_effect command first).refs payloads (command_hidden r v first command both.not_searched here undone) both.sessions

  outside_hidden : (words : List (List ℕ)) → finite.get others session ≡ None
      → option_map_or (is_on_version first r v) (command_of words) false ≡ true
      → (option_map_or (is_commit_of first r v) (command_of words) false
      && option_map_or (λ (reply : ReplyParts). reply.code == 0) (outside_line session words payloads first).reply false) ≡ false
      → AreAlike r v (outside_line session words payloads first).refs second (outside_line session words payloads first).payloads others
  outside_hidden [] none here undone = absurd (false≢true here)
  outside_hidden (word ∷ words) none here undone = found_hidden (command_of (word ∷ words)) none here undone

  hidden_by : (text : List ℕ) (found : Option PayloadParts) → finite.get others session ≡ other_payload first r v found
      → option_map_or (is_for_version first r v) found (option_map_or (is_on_version first r v) (command_of (words_of text)) false) ≡ true
      → (option_map_or (is_commit_of first r v) (command_at text found) false
      && option_map_or (λ (reply : ReplyParts). reply.code == 0) (effect_at text payloads first found).reply false) ≡ false
      → AreAlike r v (effect_at text payloads first found).refs second (effect_at text payloads first found).payloads others
  hidden_by text None none here undone = outside_hidden (words_of text) none here undone
  hidden_by text (Some payload) left here undone =
      payload_hidden text payload here (left ∙ ap (λ (b : Bool). cond b None (Some payload)) here)

  pub line_hidden : (text : List ℕ) → is_line_on_version r v session text payloads first ≡ true
      → is_commit_line r v session text payloads first ≡ false
      → AreAlike r v (line_effect session text payloads first).refs second (line_effect session text payloads first).payloads others
  line_hidden text here undone = hidden_by text (finite.get payloads session) (both.sessions session) here undone
