use Rattle.std.proofs.lemmas.Result.{err_from_is_err_and}
use Rattle.hx_ast.specs.declared.Statement.{Statement}
use Rattle.hx_base.specs.Pairs.{pairs_of}
use Rattle.hx_calls.specs.Known.{Reading}
use Rattle.hx_load.specs.Configuration.{SpellsStatement}
use Rattle.hx_load.proofs.LineHeadLemmas.{keep_taken}
use Rattle.hx_load.proofs.StatementLemmas.{spell_fault, statement_added, statement_read, word_fault}
use Rattle.hx_load.proofs.lines.read_line.Goals as goal

pub returns-in_err-words-clause-read : goal.returns-in_err-words-clause-read
returns-in_err-words-clause-read g c =
    let p = err_from_is_err_and c.from_residual.result c.from_residual.ensures.1 in
    rw (p.1, p.2)
    (word_fault (pairs_of c.args.env.now) c.args.number c.args.line.now c.args.speller.now _
    c.in_err-words.field-0.0 c.in_err-words.ensures.fault)

pub returns-in_err-statement-clause-read : goal.returns-in_err-statement-clause-read
returns-in_err-statement-clause-read g c =
    let p = err_from_is_err_and c.from_residual-in_err-statement.result c.from_residual-in_err-statement.ensures.1 in
    rw (p.1, p.2)
    (spell_fault (pairs_of c.args.env.now) c.args.number c.args.line.now c.args.speller.now _
    c.in_ok-words.words c.in_err-statement.field-0.0 c.in_ok-words.ensures.words
    c.in_err-statement.ensures.answers)

pub returns-clause-ok : goal.returns-clause-ok
returns-clause-ok g c =
    let read : Reading Statement = record {
      value = c.in_ok-statement.statement;
      known = c.line.new.self;
    } in
    let spelled : SpellsStatement (pairs_of c.args.env.now) c.args.number c.args.line.now c.args.speller.now read = record {
      words = c.in_ok-words.words;
      cut = c.in_ok-words.ensures.words;
      spelled = c.in_ok-statement.ensures.spelled;
    } in
    statement_added (pairs_of c.args.env.now) c.args.number c.args.line.now c.args.speller.now read
    _ _ c.args.program.now c.push_statement.new.program c.push_statement.result spelled
    c.push_statement.ensures.judged c.push_statement.ensures.ok

pub returns-clause-read : goal.returns-clause-read
returns-clause-read g c =
    let read : Reading Statement = record {
      value = c.in_ok-statement.statement;
      known = c.line.new.self;
    } in
    statement_read (pairs_of c.args.env.now) c.args.number c.args.line.now c.args.speller.now read
    _ _ c.push_statement.result
    (record {
      words = c.in_ok-words.words;
      cut = c.in_ok-words.ensures.words;
      spelled = c.in_ok-statement.ensures.spelled;
    })
    c.push_statement.ensures.judged

pub returns-clause-names : goal.returns-clause-names
returns-clause-names g c =
    keep_taken c.push_statement.result c.args.speller.now c.line.new.self c.args.program.now
    c.push_statement.new.program c.in_ok-statement.statement c.line.ensures.extends
    c.line.ensures.grows c.in_ok-statement.ensures.heads c.push_statement.ensures.ok
