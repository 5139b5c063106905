use Rattle.std.proofs.Common.{◌≡◌, ◌∙◌, Err, ap, map}
use Rattle.std.proofs.lemmas.Result.{err_from_is_err_and}
use Rattle.hx_base.specs.Pairs.{pairs_of}
use Rattle.hx_calls.specs.TableSpecs.{ReferenceSpecs}
use Rattle.hx_filling.specs.References.{table_head}
use Rattle.hx_filling.specs.declared.load_fault.LoadFault.TheVariants as fault
use Rattle.hx_load.proofs.LoadedLemmas.{has_heads, has_lists, lines_bring}
use Rattle.hx_load.proofs.ReadLemmas.{file_is_unknown, line_is_refused, number_is_taken}
use Rattle.hx_load.proofs.line_loader.load_lines.Goals as goal

-- ---- the lines have a fault

pub returns-in_err-speller-clause-refused : goal.returns-in_err-speller-clause-refused
returns-in_err-speller-clause-refused g c =
    λ line code is.
    let p = err_from_is_err_and c.from_residual.result c.from_residual.ensures.1 in
    let same : c.in_err-speller.field-0.0 ≡ fault.Refused line code = cc (p.1, p.2, is) in
    line_is_refused (pairs_of c.args.env.now) c.args.config.now (record { line = line; code = code })
    (c.in_err-speller.ensures.refused line code (ap Err same))

pub returns-in_err-speller-clause-too_large : goal.returns-in_err-speller-clause-too_large
returns-in_err-speller-clause-too_large g c =
    λ is.
    let p = err_from_is_err_and c.from_residual.result c.from_residual.ensures.1 in
    let same : c.in_err-speller.field-0.0 ≡ fault.TooLarge = cc (p.1, p.2, is) in
    c.in_err-speller.ensures.too_large (ap Err same)

pub returns-in_err-speller-clause-uncounted : goal.returns-in_err-speller-clause-uncounted
returns-in_err-speller-clause-uncounted g c =
    λ no.
    let p = err_from_is_err_and c.from_residual.result c.from_residual.ensures.1 in
    c.in_err-speller.ensures.uncounted (λ is.
    let same : c.in_err-speller.field-0.0 ≡ fault.TooLarge = cc (is) in
    no (p.1 ∙ ap Err (p.2 ∙ same)))

pub returns-in_err-speller-clause-never : goal.returns-in_err-speller-clause-never
returns-in_err-speller-clause-never g c =
    λ is.
    let p = err_from_is_err_and c.from_residual.result c.from_residual.ensures.1 in
    let same : c.in_err-speller.field-0.0 ≡ fault.Failed = cc (p.1, p.2, is) in
    absurd (c.in_err-speller.ensures.never (ap Err same))

-- ---- a number is given twice

pub returns-in_err-refs-clause-refused : goal.returns-in_err-refs-clause-refused
returns-in_err-refs-clause-refused g c =
    λ line code is.
    let p = err_from_is_err_and c.from_residual-in_err-refs.result c.from_residual-in_err-refs.ensures.1 in
    let same : c.in_err-refs.field-0.0 ≡ fault.Refused line code = cc (p.1, p.2, is) in
    number_is_taken (pairs_of c.args.env.now) c.args.config.now c.in_ok-speller.field-0.speller c.in_ok-speller.field-0.program c.tables-specs.result line code
    (record { lines = c.in_ok-speller.ensures.accepted; specs_are = c.tables-specs.ensures.specs })
    (c.in_err-refs.ensures.refused line code (ap Err same))

pub returns-in_err-refs-clause-too_large : goal.returns-in_err-refs-clause-too_large
returns-in_err-refs-clause-too_large g c =
    λ is.
    let p = err_from_is_err_and c.from_residual-in_err-refs.result c.from_residual-in_err-refs.ensures.1 in
    let same : c.in_err-refs.field-0.0 ≡ fault.TooLarge = cc (p.1, p.2, is) in
    absurd (c.in_err-refs.ensures.no_expression (ap Err same))

pub returns-in_err-refs-clause-uncounted : goal.returns-in_err-refs-clause-uncounted
returns-in_err-refs-clause-uncounted g c =
    λ no. c.in_ok-speller.ensures.uncounted (λ is. cc)

pub returns-in_err-refs-clause-never : goal.returns-in_err-refs-clause-never
returns-in_err-refs-clause-never g c =
    λ is.
    let p = err_from_is_err_and c.from_residual-in_err-refs.result c.from_residual-in_err-refs.ensures.1 in
    let same : c.in_err-refs.field-0.0 ≡ fault.Failed = cc (p.1, p.2, is) in
    absurd (c.in_err-refs.ensures.no_file (ap Err same))

-- ---- a rule changes a file that is named nowhere else

pub returns-in_err-known_tables-clause-refused : goal.returns-in_err-known_tables-clause-refused
returns-in_err-known_tables-clause-refused g c =
    λ line code is.
    let p = err_from_is_err_and c.from_residual-in_err-known_tables.result c.from_residual-in_err-known_tables.ensures.1 in
    let same : c.in_err-known_tables.field-0.0 ≡ fault.Refused line code = cc (p.1, p.2, is) in
    file_is_unknown (pairs_of c.args.env.now) c.args.config.now c.in_ok-speller.field-0.speller c.in_ok-speller.field-0.program c.tables-specs.result line code
    (record { lines = c.in_ok-speller.ensures.accepted; specs_are = c.tables-specs.ensures.specs })
    c.in_ok-refs.ensures.once (rw c.as_slice.ensures at (c.in_err-known_tables.ensures.refused line code (ap Err same)))

pub returns-in_err-known_tables-clause-too_large : goal.returns-in_err-known_tables-clause-too_large
returns-in_err-known_tables-clause-too_large g c =
    λ is.
    let p = err_from_is_err_and c.from_residual-in_err-known_tables.result c.from_residual-in_err-known_tables.ensures.1 in
    let same : c.in_err-known_tables.field-0.0 ≡ fault.TooLarge = cc (p.1, p.2, is) in
    absurd (c.in_err-known_tables.ensures.no_expression (ap Err same))

pub returns-in_err-known_tables-clause-uncounted : goal.returns-in_err-known_tables-clause-uncounted
returns-in_err-known_tables-clause-uncounted g c =
    λ no. c.in_ok-speller.ensures.uncounted (λ is. cc)

pub returns-in_err-known_tables-clause-never : goal.returns-in_err-known_tables-clause-never
returns-in_err-known_tables-clause-never g c =
    λ is.
    let p = err_from_is_err_and c.from_residual-in_err-known_tables.result c.from_residual-in_err-known_tables.ensures.1 in
    let same : c.in_err-known_tables.field-0.0 ≡ fault.Failed = cc (p.1, p.2, is) in
    absurd (c.in_err-known_tables.ensures.no_file (ap Err same))

-- ---- they have none

pub returns-clause-accepted : goal.returns-clause-accepted
returns-clause-accepted g c =
    lines_bring (pairs_of c.args.env.now) c.args.limits c.args.config.now
    c.in_ok-speller.field-0.speller c.in_ok-speller.field-0.program c.tables-specs.result c.in_ok-refs.refs.content
    (record {
      brings = record { lines = c.in_ok-speller.ensures.accepted; specs_are = c.tables-specs.ensures.specs };
      once = c.in_ok-refs.ensures.once;
      named = rw c.as_slice.ensures at c.in_ok-known_tables.ensures.known;
      refs_are = c.in_ok-refs.ensures.ok;
    })

pub returns-clause-uncounted : goal.returns-clause-uncounted
returns-clause-uncounted g c =
    λ no. c.in_ok-speller.ensures.uncounted (λ is. cc)

pub returns-clause-heads : goal.returns-clause-heads
returns-clause-heads g c =
    has_heads (map table_head c.in_ok-speller.field-0.speller.heads) c.in_ok-speller.field-0.program c.in_ok-refs.refs.content
    c.in_ok-speller.ensures.names.of_heads
    (c.in_ok-refs.ensures.heads
    ∙ ap (λ (s : ReferenceSpecs). map table_head s.heads) c.tables-specs.ensures.specs)

pub returns-clause-lists : goal.returns-clause-lists
returns-clause-lists g c =
    has_lists c.in_ok-speller.field-0.speller c.in_ok-speller.field-0.program c.tables-specs.result c.in_ok-refs.refs.content
    c.in_ok-speller.ensures.names.of_lists c.tables-specs.ensures.specs c.in_ok-refs.ensures.count
