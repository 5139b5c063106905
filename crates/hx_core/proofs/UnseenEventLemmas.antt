-- Events that work on a version alone, which isn't searched.
use Rattle.std.proofs.Common.{◌≡◌, ℕ, true, false, refl}
use Rattle.std.specs.Prelude.{None}
use Rattle.std.proofs.lemmas.Bool.{false≢true}
use Rattle.hx_record.specs.declared.Event.{Event}
use Rattle.hx_record.specs.declared.Event.TheVariants.{Conn, Req, Close, Cli}
use Rattle.hx_cli.proofs.UnseenLineLemmas.{line_hidden}
use Rattle.hx_core.specs.Steps.{refusal_of, world_after}
use Rattle.hx_core.specs.Unseen.{is_commit, is_left_out, AreAlikeWorlds}
use Rattle.hx_core.specs.World.{World}

pub left_out_stands : (r v : ℕ) (world : World) (event : Event) → is_left_out r v world event ≡ true → refusal_of world event ≡ None
left_out_stands r v world (Conn id src src_port dst dst_port) here = absurd (false≢true here)
left_out_stands r v world (Req id bytes) here = absurd (false≢true here)
left_out_stands r v world (Close id) here = absurd (false≢true here)
left_out_stands r v world (Cli session text) here = refl

pub left_out_alike : (r v : ℕ) (first second : World) (event : Event) → AreAlikeWorlds r v first second
    → is_left_out r v first event ≡ true → is_commit r v first event ≡ false → AreAlikeWorlds r v (world_after first event) second
left_out_alike r v first second (Conn id src src_port dst dst_port) both here undone = absurd (false≢true here)
left_out_alike r v first second (Req id bytes) both here undone = absurd (false≢true here)
left_out_alike r v first second (Close id) both here undone = absurd (false≢true here)
left_out_alike r v first second (Cli session text) both here undone = record {
  rules = both.rules;
  connections = both.connections;
  requests = both.requests;
  vars = both.vars;
  management =
      line_hidden r v session first.refs second.refs first.payloads second.payloads both.management text here undone;
}
