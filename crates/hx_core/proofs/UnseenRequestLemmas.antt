-- Events that don't work on a version, which isn't searched, alone: in two worlds that are alike they
-- are answered the same.
use Rattle.std.proofs.Common.{◌≡◌, ℕ, false, [], ◌++◌, refl, ap, sym, subst, ◌∙◌}
use Rattle.std.specs.Prelude.{Option, None, Some, option_map}
use Rattle.std.specs.FinMap as map
use Rattle.std.specs.Fmt.{decimal}
use Rattle.std.specs.Option.{option_map_or}
use Rattle.hx_fetch.specs.declared.Conn.{Conn as Connection}
use Rattle.hx_http.specs.Head.{Head, head_of, many, message, none}
use Rattle.hx_http.specs.Parts.{Parts}
use Rattle.hx_record.specs.declared.Event.{Event}
use Rattle.hx_record.specs.declared.Event.TheVariants.{Conn, Req, Close, Cli}
use Rattle.hx_refs.specs.Numbers.{IsNotSearched}
use Rattle.hx_refs.specs.References.{References}
use Rattle.hx_rules.specs.Programs.{Rules}
use Rattle.hx_rules.specs.Verdicts.{evaluation, start, Evaluation}
use Rattle.hx_rules.specs.declared.Verdict.{Verdict}
use Rattle.hx_sample.specs.Vars.{after_request, Scopes}
use Rattle.hx_cli.specs.Payloads.{line_effect, OpenPayloads}
use Rattle.hx_cli.specs.Replies.{ReplyParts}
use Rattle.hx_cli.specs.Unseen.{line_command, line_reply_without_count, with_empty_version, AreAlike}
use Rattle.hx_cli.proofs.UnseenLineLemmas.{line_kept, payloads_follow, second_follows}
use Rattle.hx_cli.proofs.UnseenReferenceLemmas.{Follows}
use Rattle.hx_core.specs.Answers.{reply_text, verdict_text}
use Rattle.hx_core.specs.Steps.{after_head, after_number, head_answer, next_number, refusal_of, world_after}
use Rattle.hx_core.specs.Unseen.{answer_without_count, is_left_out, AreAlikeWorlds}
use Rattle.hx_core.specs.World.{refs_view, World}
use Rattle.hx_core.proofs.UnseenRuleLemmas.{evaluation_along}

told_by : (session : ℕ) (change : ReplyParts → ReplyParts) (reply : Option ReplyParts)
    → option_map_or (λ told. reply_text session (change told)) reply [] ≡ option_map_or (reply_text session) (option_map change reply) []
told_by session change None = refl
told_by session change (Some told) = refl

-- what comes of an event in two worlds that are alike
pub record EventsAlike (r v : ℕ) (first second : World) (event : Event) : Type 0 where
  pub refusal : refusal_of second event ≡ refusal_of first event
  pub answer : answer_without_count r second event ≡ answer_without_count r first event
  pub alike : AreAlikeWorlds r v (world_after first event) (world_after second event)

-- the world, with other references and payloads
abbrev managed : World → References → OpenPayloads → World
managed world refs payloads = record world { refs = refs; payloads = payloads }

second_is : (r v : ℕ) (first second : World) → AreAlikeWorlds r v first second → second ≡ managed first second.refs second.payloads
second_is r v first second both =
    λ i. record {
      rules = both.rules i;
      connections = both.connections i;
      requests = both.requests i;
      vars = both.vars i;
      refs = second.refs;
      payloads = second.payloads;
    }

-- requests
record RequestsAlike (r v : ℕ) (first second : References) (made other : Evaluation References) : Type 0 where
  verdict : other.verdict ≡ made.verdict
  head : other.state.message ≡ made.state.message
  vars : other.state.vars ≡ made.state.vars
  references : with_empty_version r v other.state.tables ≡ with_empty_version r v made.state.tables
  follows : Follows r v first made.state.tables

requests_alike : (r v : ℕ) (conn : Connection) (rules : Rules) (head : Parts) (vars : Scopes) (first second : References)
    → IsNotSearched first r v → with_empty_version r v second ≡ with_empty_version r v first
    → RequestsAlike r v first second (evaluation refs_view conn rules (start head vars first)) (evaluation refs_view conn rules (start head vars second))
requests_alike r v conn rules head vars first second apart same =
    let made = λ (refs : References). evaluation refs_view conn rules (start head vars refs) in
    let one = evaluation_along r v conn rules (start head vars first) apart in
    let two = evaluation_along r v conn rules (start head vars second) (second_follows r v first second apart same).apart in
    let states =
    sym two.state ∙ ap (λ (refs : References). (made refs).state) same ∙ one.state in
    record {
      verdict = sym two.verdict ∙ ap (λ (refs : References). (made refs).verdict) same ∙ one.verdict;
      head = ap (λ state. state.message) states;
      vars = ap (λ state. state.vars) states;
      references = ap (λ state. state.tables) states;
      follows = one.follows;
    }

module _ (r v : ℕ) (world : World) (refs : References) (payloads : OpenPayloads)
    (both : AreAlike r v world.refs refs world.payloads payloads) where
  abbrev second : World
  second = managed world refs payloads

  same_worlds : AreAlikeWorlds r v world second
  same_worlds = record { rules = refl; connections = refl; requests = refl; vars = refl; management = both }

  record HeadsAlike (conn : Connection) (head : Head) : Type 0 where
    answer : head_answer second conn head ≡ head_answer world conn head
    alike : AreAlikeWorlds r v (after_head world conn head) (after_head second conn head)

  heads_alike : (conn : Connection) (head : Head) → HeadsAlike conn head
  heads_alike conn (message head len) =
      let made = requests_alike r v conn world.rules head world.vars world.refs refs both.not_searched both.references in
      let of_first = evaluation refs_view conn world.rules (start head world.vars world.refs) in
      let of_second = evaluation refs_view conn world.rules (start head world.vars refs) in
      record {
        answer =
            ap (λ (verdict : Verdict). decimal (next_number world.requests) ++ verdict_text verdict head of_second.state.message) made.verdict
            ∙ ap (λ (parts : Parts). decimal (next_number world.requests) ++ verdict_text of_first.verdict head parts) made.head;
        alike = record {
          rules = refl;
          connections = refl;
          requests = refl;
          vars = ap after_request made.vars;
          management = record {
            not_searched = made.follows.apart;
            references = made.references;
            sessions = payloads_follow r v world.refs world.payloads payloads both.sessions of_first.state.tables made.follows;
          };
        };
      }
  heads_alike conn many = record { answer = refl; alike = record { rules = refl; connections = refl; requests = refl; vars = refl; management = both } }
  heads_alike conn none = record { answer = refl; alike = record { rules = refl; connections = refl; requests = refl; vars = refl; management = both } }

  record FoundAlike (found : Option Connection) (head : Head) : Type 0 where
    answer :
        option_map_or (λ conn. head_answer second conn head) found []
        ≡ option_map_or (λ conn. head_answer world conn head) found []
    alike : AreAlikeWorlds r v
        (option_map_or (λ conn. after_head world conn head) found (after_number world))
        (option_map_or (λ conn. after_head second conn head) found (after_number second))

  found_alike : (found : Option Connection) (head : Head) → FoundAlike found head
  found_alike None head = record {
    answer = refl;
    alike = record { rules = refl; connections = refl; requests = refl; vars = refl; management = both };
  }
  found_alike (Some conn) head =
      let heads = heads_alike conn head in record { answer = heads.answer; alike = heads.alike }

  event_alike : (event : Event) → is_left_out r v world event ≡ false → EventsAlike r v world second event
  event_alike (Conn id src src_port dst dst_port) kept = record {
    refusal = refl;
    answer = refl;
    alike = record { rules = refl; connections = refl; requests = refl; vars = refl; management = both };
  }
  event_alike (Req id bytes) kept =
      let found = found_alike (map.get world.connections id) (head_of bytes) in
      record { refusal = refl; answer = found.answer; alike = found.alike }
  event_alike (Close id) kept = record {
    refusal = refl;
    answer = refl;
    alike = record { rules = refl; connections = refl; requests = refl; vars = refl; management = both };
  }
  event_alike (Cli session text) kept =
      let lines = line_kept r v session world.refs refs world.payloads payloads both text kept in
      record {
        refusal = refl;
        answer =
            told_by session (line_reply_without_count refs r (line_command session text payloads)) (line_effect session text payloads refs).reply
            ∙ ap (λ (reply : Option ReplyParts). option_map_or (reply_text session) reply []) lines.reply
            ∙ sym (told_by session (line_reply_without_count world.refs r (line_command session text world.payloads)) (line_effect session text world.payloads world.refs).reply);
        alike = record { rules = refl; connections = refl; requests = refl; vars = refl; management = lines.alike };
      }

pub kept_alike : (r v : ℕ) (first second : World) (event : Event) → AreAlikeWorlds r v first second
    → is_left_out r v first event ≡ false → EventsAlike r v first second event
kept_alike r v first second event both kept =
    subst (λ (world : World). EventsAlike r v first world event) (sym (second_is r v first second both))
    (event_alike r v first second.refs second.payloads both.management event kept)
