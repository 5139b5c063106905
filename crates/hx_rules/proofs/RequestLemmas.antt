-- What stays of a request from one state to a later one.
use Rattle.std.proofs.Common.{List, ◌∙◌}
use Rattle.hx_sample.specs.Find.{Entry}
use Rattle.hx_sample.specs.Tables.{TableHead}
use Rattle.hx_rules.specs.declared.request.Request.{Request}
use Rattle.hx_rules.specs.RequestView.{IsSameRequest}

pub same_later : {T S : Type 0} {known : T → S} {heads : S → List TableHead} {lists : S → List (List Entry)} (first next last : Request T) → IsSameRequest known heads lists first next → IsSameRequest known heads lists next last → IsSameRequest known heads lists first last
same_later first next last before after = record {
  conn = after.conn ∙ before.conn;
  message = after.message ∙ before.message;
  vars = after.vars ∙ before.vars;
  tables = after.tables ∙ before.tables;
  table_heads = after.table_heads ∙ before.table_heads;
  table_lists = after.table_lists ∙ before.table_lists;
}
