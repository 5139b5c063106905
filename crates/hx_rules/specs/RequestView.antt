-- How the code keeps a request while its rules are evaluated, for the contracts of its private
-- functions.
use Rattle.std.specs.Prelude.{◌≡◌, List, length}
use Rattle.hx_sample.specs.Find.{Entry}
use Rattle.hx_sample.specs.Tables.{TableHead}
use Rattle.hx_rules.specs.State.{State}
use Rattle.hx_rules.specs.declared.request.Request.{Request}

-- the state in which a request is, where `known` gives what is known of its tables
abbrev pub state_of : {T S : Type 0} → (T → S) → Request T → State S
state_of known request = record {
  message = request.message.now;
  vars = request.vars.now;
  tables = known request.tables.now;
  strict = request.strict;
}

-- What stays of a request while its rules are evaluated: its connection, the references to its
-- message, the variables and the tables, their heads, and how many lists they have.
pub record IsSameRequest {T S : Type 0} (known : T → S) (heads : S → List TableHead)
    (lists : S → List (List Entry)) (old new : Request T) : Type 0 where
  pub conn : new.conn.now ≡ old.conn.now
  pub message : new.message.ghost_name ≡ old.message.ghost_name
  pub vars : new.vars.ghost_name ≡ old.vars.ghost_name
  pub tables : new.tables.ghost_name ≡ old.tables.ghost_name
  pub table_heads : heads (known new.tables.now) ≡ heads (known old.tables.now)
  pub table_lists : length (lists (known new.tables.now)) ≡ length (lists (known old.tables.now))
