-- Which statement decided a request, why its condition held, and how that is written (HAProxy
-- configuration manual 2.4, sections 4.2, 7.1 and 7.2; the numbers of references and of entries as
-- in the management guide 2.4, section 9.3, `show acl`).
use Rattle.std.specs.Prelude.{ℕ, Bool, false, List, [], ◌++◌, codes, map, slice_get, Option, None, Some}
use Rattle.std.specs.Fmt.{decimal}
use Rattle.std.specs.List.{flat_map}
use Rattle.std.specs.Option.{option_map_or, unwrap_or}
use Rattle.hx_acl.specs.declared.explaining.Ground.{Ground}
use Rattle.hx_acl.specs.declared.explaining.Ground.TheVariants as by
use Rattle.hx_acl.specs.declared.explaining.Held.{Held}
use Rattle.hx_acl.specs.Grounds.{held_of}
use Rattle.hx_ast.specs.declared.statement.Term.{Term}
use Rattle.hx_cli.specs.Replies.{number_text}
use Rattle.hx_core.specs.Telling.{Telling}
use Rattle.hx_core.specs.World.{refs_view}
use Rattle.hx_fetch.specs.declared.world.Conn.{Conn}
use Rattle.hx_refs.specs.References.{References}
use Rattle.hx_rules.specs.Deciding.{condition_of, deciding_of, line_of}
use Rattle.hx_rules.specs.Programs.{Rules}
use Rattle.hx_rules.specs.State.{in_state, State, TableView}
use Rattle.hx_rules.specs.Verdicts.{evaluation}
use Rattle.hx_trace.specs.declared.why.Reason.{Reason}
use Rattle.hx_trace.specs.declared.why.Reason.TheVariants as reason
pub use Rattle.hx_trace.specs.declared.why.Why.{Why}

-- ---- causes

-- what decided a request: the line of the statement that did, or 0 without one, and by which of its
-- conjunctions its condition held, if it is taken by that
pub record Cause : Type 0 where
  pub line : ℕ
  pub held : Option Held

-- by what a statement is taken with `if`, where this says by what conditions hold; with `unless`,
-- and without a condition, by nothing
abbrev pub held_when : (List (List Term) → Option Held) → Option (Bool × List (List Term))
    → Option Held
held_when held (Some (false, cond)) = held cond
held_when held _ = None

-- What decided a request by this connection, where its rules begin in a state: the statement that
-- decides, and by what its condition holds in the state after the request. That is the state in
-- which the statement is judged while the request is evaluated (the law of rules
-- `what_decides_is_judged_at_the_end`).
abbrev pub cause_of : {S : Type 0} → TableView S → Conn → Rules → State S → Cause
cause_of view conn rules state =
    let statement = deciding_of view conn rules state in
    let after = (evaluation view conn rules state).state in
    record {
      line = line_of rules statement;
      held = held_when (in_state held_of view conn after rules.acls) (condition_of rules statement);
    }

-- ---- reasons

-- the number of the reference at a position
abbrev pub reference_number : References → ℕ → ℕ
reference_number refs r = option_map_or (λ reference. reference.id) (slice_get refs.references r) 0

-- for each head, in their order, the number of the reference that it searches
abbrev pub head_numbers : References → List ℕ
head_numbers refs = map (λ known. reference_number refs known.list) refs.heads

-- what a term holds by, where heads search references of these numbers
abbrev pub reason_of : List ℕ → Ground → Reason
reason_of numbers by.Negated = reason.Not
reason_of numbers by.Sample = reason.True
reason_of numbers (by.Entry head number) =
    reason.Hit (unwrap_or (slice_get numbers head) 0) number

-- What is told of a cause: its line, the conjunction that held, counted from 1, and what each of
-- its terms held by. The conjunction is 0, without reasons, where nothing is taken by one.
abbrev pub told_why : List ℕ → Cause → Why
told_why numbers cause = record {
  line = cause.line;
  conj = option_map_or (λ held. held.conj) cause.held 0;
  reasons = option_map_or (λ held. map (reason_of numbers) held.grounds) cause.held [];
}

-- ---- texts

-- a space, and a reason: `not`, `true`, or the number of the reference and that of the entry
abbrev pub reason_text : Reason → List ℕ
reason_text reason.Not = codes " not"
reason_text reason.True = codes " true"
reason_text (reason.Hit id number) =
    codes " #" ++ (decimal id ++ (codes "/" ++ number_text number))

-- the line that tells why: `> LINE CONJUNCTION`, and the reasons
abbrev pub why_text : Why → List ℕ
why_text why =
    codes "> "
    ++ (decimal why.line
    ++ (codes " " ++ (decimal why.conj ++ (flat_map reason_text why.reasons ++ codes "\n"))))

-- the line of a cause, where the references are these
abbrev pub cause_text : References → Cause → List ℕ
cause_text refs cause = why_text (told_why (head_numbers refs) cause)

-- what is told of requests; of one whose bytes begin with no head, that no statement decided it
abbrev pub explained : Telling
explained = record {
  judged = λ rules conn state.
      cause_text (evaluation refs_view conn rules state).state.tables
      (cause_of refs_view conn rules state);
  unread = codes "> 0 0\n";
}
