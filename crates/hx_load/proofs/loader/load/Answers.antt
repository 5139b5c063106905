use Rattle.std.proofs.Common.{◌≡◌, ◌∙◌, Err, ap, inl, inr, map}
use Rattle.std.proofs.lemmas.Result.{err_from_is_err_and}
use Rattle.hx_base.specs.Pairs.{pairs_of}
use Rattle.hx_calls.specs.TableSpecs.{ReferenceSpecs}
use Rattle.hx_filling.specs.References.{table_head}
use Rattle.hx_filling.specs.declared.load_fault.LoadFault.TheVariants as fault
use Rattle.hx_filling.proofs.ReadLemmas.{none_read_twice}
use Rattle.hx_load.proofs.LoadedLemmas.{fill_asks, fill_fault, fill_reads, fill_whole, has_heads, has_lists, line_asks, line_fault, number_fault, unknown_fault}
use Rattle.hx_load.proofs.ReadLemmas.{file_is_unknown, filled_reads, line_is_refused, number_is_taken, unfilled_reads, unread}
use Rattle.hx_load.proofs.loader.load.Goals as goal

-- ---- the lines have a fault

pub returns-in_err-speller-clause-loads : goal.returns-in_err-speller-clause-loads
returns-in_err-speller-clause-loads g c =
    let p = err_from_is_err_and c.from_residual.result c.from_residual.ensures.1 in
    rw (p.1, p.2) (line_fault (g.F.Files.held c.args.files.now) (pairs_of c.args.env.now) c.args.limits c.args.config.now c.in_err-speller.field-0.0
    (λ line code is. c.in_err-speller.ensures.refused line code (ap Err is)))

pub returns-in_err-speller-clause-failed : goal.returns-in_err-speller-clause-failed
returns-in_err-speller-clause-failed g c =
    λ is.
    let p = err_from_is_err_and c.from_residual.result c.from_residual.ensures.1 in
    let same : c.in_err-speller.field-0.0 ≡ fault.Failed = cc (p.1, p.2, is) in
    absurd (c.in_err-speller.ensures.never (ap Err same))

pub returns-in_err-speller-clause-too_large : goal.returns-in_err-speller-clause-too_large
returns-in_err-speller-clause-too_large g c =
    λ is.
    let p = err_from_is_err_and c.from_residual.result c.from_residual.ensures.1 in
    let same : c.in_err-speller.field-0.0 ≡ fault.TooLarge = cc (p.1, p.2, is) in
    let (rose, asks) = c.in_err-speller.ensures.too_large (ap Err same) in
    (rose, line_asks (g.F.Files.held c.args.files.now) (pairs_of c.args.env.now) c.args.limits c.args.config.now (g.M.ReMaker.state c.read_lines.new.maker).large asks)

pub returns-in_err-speller-clause-uncounted : goal.returns-in_err-speller-clause-uncounted
returns-in_err-speller-clause-uncounted g c =
    λ no.
    let p = err_from_is_err_and c.from_residual.result c.from_residual.ensures.1 in
    c.in_err-speller.ensures.uncounted (λ is.
    let same : c.in_err-speller.field-0.0 ≡ fault.TooLarge = cc (is) in
    no (p.1 ∙ ap Err (p.2 ∙ same)))

pub returns-in_err-speller-clause-once : goal.returns-in_err-speller-clause-once
returns-in_err-speller-clause-once g c = none_read_twice (g.F.Files.log c.args.files.now)

pub returns-in_err-speller-clause-reads : goal.returns-in_err-speller-clause-reads
returns-in_err-speller-clause-reads g c =
    let p = err_from_is_err_and c.from_residual.result c.from_residual.ensures.1 in
    rw (p.1, p.2) (unread (g.F.Files.held c.args.files.now) (pairs_of c.args.env.now) c.args.limits c.args.config.now c.in_err-speller.field-0.0
    (g.F.Files.last c.args.files.now) (g.F.Files.log c.args.files.now)
    (λ line code is. line_is_refused (pairs_of c.args.env.now) c.args.config.now (record { line = line; code = code }) (c.in_err-speller.ensures.refused line code (ap Err is)))
    (λ is. c.in_err-speller.ensures.never (ap Err is)))

-- ---- a number is given twice

pub returns-in_err-refs-clause-loads : goal.returns-in_err-refs-clause-loads
returns-in_err-refs-clause-loads g c =
    let p = err_from_is_err_and c.from_residual-in_err-refs.result c.from_residual-in_err-refs.ensures.1 in
    rw (p.1, p.2) (number_fault (g.F.Files.held c.args.files.now) (pairs_of c.args.env.now) c.args.limits c.args.config.now
    c.in_ok-speller.field-0.speller c.in_ok-speller.field-0.program c.tables-specs.result c.in_err-refs.field-0.0 (record { lines = c.in_ok-speller.ensures.accepted; specs_are = c.tables-specs.ensures.specs })
    (λ line code is. c.in_err-refs.ensures.refused line code (ap Err is)))

pub returns-in_err-refs-clause-failed : goal.returns-in_err-refs-clause-failed
returns-in_err-refs-clause-failed g c =
    λ is.
    let p = err_from_is_err_and c.from_residual-in_err-refs.result c.from_residual-in_err-refs.ensures.1 in
    let same : c.in_err-refs.field-0.0 ≡ fault.Failed = cc (p.1, p.2, is) in
    absurd (c.in_err-refs.ensures.no_file (ap Err same))

pub returns-in_err-refs-clause-too_large : goal.returns-in_err-refs-clause-too_large
returns-in_err-refs-clause-too_large g c =
    λ is.
    let p = err_from_is_err_and c.from_residual-in_err-refs.result c.from_residual-in_err-refs.ensures.1 in
    let same : c.in_err-refs.field-0.0 ≡ fault.TooLarge = cc (p.1, p.2, is) in
    absurd (c.in_err-refs.ensures.no_expression (ap Err same))

pub returns-in_err-refs-clause-uncounted : goal.returns-in_err-refs-clause-uncounted
returns-in_err-refs-clause-uncounted g c =
    λ no. c.in_ok-speller.ensures.uncounted (λ is. cc)

pub returns-in_err-refs-clause-once : goal.returns-in_err-refs-clause-once
returns-in_err-refs-clause-once g c = none_read_twice (g.F.Files.log c.args.files.now)

pub returns-in_err-refs-clause-reads : goal.returns-in_err-refs-clause-reads
returns-in_err-refs-clause-reads g c =
    let p = err_from_is_err_and c.from_residual-in_err-refs.result c.from_residual-in_err-refs.ensures.1 in
    rw (p.1, p.2) (unread (g.F.Files.held c.args.files.now) (pairs_of c.args.env.now) c.args.limits c.args.config.now c.in_err-refs.field-0.0
    (g.F.Files.last c.args.files.now) (g.F.Files.log c.args.files.now)
    (λ line code is. number_is_taken (pairs_of c.args.env.now) c.args.config.now c.in_ok-speller.field-0.speller c.in_ok-speller.field-0.program c.tables-specs.result line code
    (record { lines = c.in_ok-speller.ensures.accepted; specs_are = c.tables-specs.ensures.specs })
    (c.in_err-refs.ensures.refused line code (ap Err is)))
    (λ is. c.in_err-refs.ensures.no_file (ap Err is)))

-- ---- a rule changes a file that is named nowhere else

pub returns-in_err-known_tables-clause-loads : goal.returns-in_err-known_tables-clause-loads
returns-in_err-known_tables-clause-loads g c =
    let p = err_from_is_err_and c.from_residual-in_err-known_tables.result c.from_residual-in_err-known_tables.ensures.1 in
    rw (p.1, p.2) (unknown_fault (g.F.Files.held c.args.files.now) (pairs_of c.args.env.now) c.args.limits c.args.config.now
    c.in_ok-speller.field-0.speller c.in_ok-speller.field-0.program c.tables-specs.result c.in_err-known_tables.field-0.0 (record { lines = c.in_ok-speller.ensures.accepted; specs_are = c.tables-specs.ensures.specs }) c.in_ok-refs.ensures.once
    (λ line code is. rw c.as_slice.ensures at (c.in_err-known_tables.ensures.refused line code (ap Err is))))

pub returns-in_err-known_tables-clause-failed : goal.returns-in_err-known_tables-clause-failed
returns-in_err-known_tables-clause-failed g c =
    λ is.
    let p = err_from_is_err_and c.from_residual-in_err-known_tables.result c.from_residual-in_err-known_tables.ensures.1 in
    let same : c.in_err-known_tables.field-0.0 ≡ fault.Failed = cc (p.1, p.2, is) in
    absurd (c.in_err-known_tables.ensures.no_file (ap Err same))

pub returns-in_err-known_tables-clause-too_large : goal.returns-in_err-known_tables-clause-too_large
returns-in_err-known_tables-clause-too_large g c =
    λ is.
    let p = err_from_is_err_and c.from_residual-in_err-known_tables.result c.from_residual-in_err-known_tables.ensures.1 in
    let same : c.in_err-known_tables.field-0.0 ≡ fault.TooLarge = cc (p.1, p.2, is) in
    absurd (c.in_err-known_tables.ensures.no_expression (ap Err same))

pub returns-in_err-known_tables-clause-uncounted : goal.returns-in_err-known_tables-clause-uncounted
returns-in_err-known_tables-clause-uncounted g c =
    λ no. c.in_ok-speller.ensures.uncounted (λ is. cc)

pub returns-in_err-known_tables-clause-once : goal.returns-in_err-known_tables-clause-once
returns-in_err-known_tables-clause-once g c = none_read_twice (g.F.Files.log c.args.files.now)

pub returns-in_err-known_tables-clause-reads : goal.returns-in_err-known_tables-clause-reads
returns-in_err-known_tables-clause-reads g c =
    let p = err_from_is_err_and c.from_residual-in_err-known_tables.result c.from_residual-in_err-known_tables.ensures.1 in
    rw (p.1, p.2) (unread (g.F.Files.held c.args.files.now) (pairs_of c.args.env.now) c.args.limits c.args.config.now c.in_err-known_tables.field-0.0
    (g.F.Files.last c.args.files.now) (g.F.Files.log c.args.files.now)
    (λ line code is. file_is_unknown (pairs_of c.args.env.now) c.args.config.now c.in_ok-speller.field-0.speller c.in_ok-speller.field-0.program c.tables-specs.result line code
    (record { lines = c.in_ok-speller.ensures.accepted; specs_are = c.tables-specs.ensures.specs })
    c.in_ok-refs.ensures.once (rw c.as_slice.ensures at (c.in_err-known_tables.ensures.refused line code (ap Err is))))
    (λ is. c.in_err-known_tables.ensures.no_file (ap Err is)))

-- ---- the references aren't filled

pub returns-in_err-fill-clause-loads : goal.returns-in_err-fill-clause-loads
returns-in_err-fill-clause-loads g c =
    let p = err_from_is_err_and c.from_residual-in_err-fill.result c.from_residual-in_err-fill.ensures.1 in
    rw (p.1, p.2) (fill_fault (g.F.Files.held c.args.files.now) (pairs_of c.args.env.now) c.args.limits c.args.config.now
    c.in_ok-speller.field-0.speller c.in_ok-speller.field-0.program c.tables-specs.result c.in_ok-refs.refs.content c.fill.new.refs.content c.in_err-fill.field-0.0
    (record {
      brings = record { lines = c.in_ok-speller.ensures.accepted; specs_are = c.tables-specs.ensures.specs };
      once = c.in_ok-refs.ensures.once;
      named = rw c.as_slice.ensures at c.in_ok-known_tables.ensures.known;
      refs_are = c.in_ok-refs.ensures.ok;
    }) c.in_err-fill.ensures.filled)

pub returns-in_err-fill-clause-failed : goal.returns-in_err-fill-clause-failed
returns-in_err-fill-clause-failed g c =
    λ is.
    let p = err_from_is_err_and c.from_residual-in_err-fill.result c.from_residual-in_err-fill.ensures.1 in
    let same : c.in_err-fill.field-0.0 ≡ fault.Failed = cc (p.1, p.2, is) in
    let (rose, reads) = c.in_err-fill.ensures.failed (ap Err same) in (
      rose,
      fill_reads (g.F.Files.held c.args.files.now) (pairs_of c.args.env.now) c.args.limits c.args.config.now
          c.in_ok-speller.field-0.speller c.in_ok-speller.field-0.program c.tables-specs.result c.in_ok-refs.refs.content (g.F.Files.last c.fill.new.files)
          (record {
            brings = record { lines = c.in_ok-speller.ensures.accepted; specs_are = c.tables-specs.ensures.specs };
            once = c.in_ok-refs.ensures.once;
            named = rw c.as_slice.ensures at c.in_ok-known_tables.ensures.known;
            refs_are = c.in_ok-refs.ensures.ok;
          }) reads,
    )

pub returns-in_err-fill-clause-too_large : goal.returns-in_err-fill-clause-too_large
returns-in_err-fill-clause-too_large g c =
    λ is.
    let p = err_from_is_err_and c.from_residual-in_err-fill.result c.from_residual-in_err-fill.ensures.1 in
    let same : c.in_err-fill.field-0.0 ≡ fault.TooLarge = cc (p.1, p.2, is) in
    let (count, large) = c.in_ok-speller.ensures.uncounted (λ is. cc) in
    let (rose, asks) = c.in_err-fill.ensures.too_large (ap Err same) in (
      rw count at rose,
      fill_asks (g.F.Files.held c.args.files.now) (pairs_of c.args.env.now) c.args.limits c.args.config.now
          c.in_ok-speller.field-0.speller c.in_ok-speller.field-0.program c.tables-specs.result c.in_ok-refs.refs.content (g.M.ReMaker.state c.fill.new.maker).large
          (record {
            brings = record { lines = c.in_ok-speller.ensures.accepted; specs_are = c.tables-specs.ensures.specs };
            once = c.in_ok-refs.ensures.once;
            named = rw c.as_slice.ensures at c.in_ok-known_tables.ensures.known;
            refs_are = c.in_ok-refs.ensures.ok;
          }) asks,
    )

pub returns-in_err-fill-clause-uncounted : goal.returns-in_err-fill-clause-uncounted
returns-in_err-fill-clause-uncounted g c =
    λ no.
    let p = err_from_is_err_and c.from_residual-in_err-fill.result c.from_residual-in_err-fill.ensures.1 in
    let (count, large) = c.in_ok-speller.ensures.uncounted (λ is. cc) in
    let (count', large') = c.in_err-fill.ensures.uncounted (λ is.
    let same : c.in_err-fill.field-0.0 ≡ fault.TooLarge = cc (is) in
    no (p.1 ∙ ap Err (p.2 ∙ same))) in
    (count' ∙ count, large' ∙ large)

pub returns-in_err-fill-clause-named : goal.returns-in_err-fill-clause-named
returns-in_err-fill-clause-named g c =
    elim c.in_err-fill.ensures.named [
      | inl same ↦ inl same
      | inr reads ↦ inr (fill_reads (g.F.Files.held c.args.files.now) (pairs_of c.args.env.now) c.args.limits c.args.config.now
          c.in_ok-speller.field-0.speller c.in_ok-speller.field-0.program c.tables-specs.result c.in_ok-refs.refs.content (g.F.Files.last c.fill.new.files)
          (record {
            brings = record { lines = c.in_ok-speller.ensures.accepted; specs_are = c.tables-specs.ensures.specs };
            once = c.in_ok-refs.ensures.once;
            named = rw c.as_slice.ensures at c.in_ok-known_tables.ensures.known;
            refs_are = c.in_ok-refs.ensures.ok;
          }) reads)
    ]

pub returns-in_err-fill-clause-reads : goal.returns-in_err-fill-clause-reads
returns-in_err-fill-clause-reads g c =
    let p = err_from_is_err_and c.from_residual-in_err-fill.result c.from_residual-in_err-fill.ensures.1 in
    rw (p.1, p.2) (unfilled_reads (g.F.Files.held c.args.files.now) (pairs_of c.args.env.now) c.args.limits c.args.config.now
    c.in_ok-speller.field-0.speller c.in_ok-speller.field-0.program c.tables-specs.result c.in_ok-refs.refs.content c.in_err-fill.field-0.0
    (g.F.Files.last c.fill.new.files) (g.F.Files.log c.args.files.now) (g.F.Files.log c.fill.new.files)
    (record {
      brings = record { lines = c.in_ok-speller.ensures.accepted; specs_are = c.tables-specs.ensures.specs };
      once = c.in_ok-refs.ensures.once;
      named = rw c.as_slice.ensures at c.in_ok-known_tables.ensures.known;
      refs_are = c.in_ok-refs.ensures.ok;
    }) c.in_err-fill.ensures.reads)

-- ---- they are

pub returns-clause-loads : goal.returns-clause-loads
returns-clause-loads g c =
    fill_whole (g.F.Files.held c.args.files.now) (pairs_of c.args.env.now) c.args.limits c.args.config.now
    c.in_ok-speller.field-0.speller c.in_ok-speller.field-0.program c.tables-specs.result c.in_ok-refs.refs.content c.fill.new.refs
    (record {
      brings = record { lines = c.in_ok-speller.ensures.accepted; specs_are = c.tables-specs.ensures.specs };
      once = c.in_ok-refs.ensures.once;
      named = rw c.as_slice.ensures at c.in_ok-known_tables.ensures.known;
      refs_are = c.in_ok-refs.ensures.ok;
    }) c.in_ok-fill.ensures.filled

pub returns-clause-uncounted : goal.returns-clause-uncounted
returns-clause-uncounted g c =
    λ no.
    let (count, large) = c.in_ok-speller.ensures.uncounted (λ is. cc) in
    let (count', large') = c.in_ok-fill.ensures.uncounted (λ is. cc) in
    (count' ∙ count, large' ∙ large)

pub returns-clause-named : goal.returns-clause-named
returns-clause-named g c =
    elim c.in_ok-fill.ensures.named [
      | inl same ↦ inl same
      | inr reads ↦ inr (fill_reads (g.F.Files.held c.args.files.now) (pairs_of c.args.env.now) c.args.limits c.args.config.now
          c.in_ok-speller.field-0.speller c.in_ok-speller.field-0.program c.tables-specs.result c.in_ok-refs.refs.content (g.F.Files.last c.fill.new.files)
          (record {
            brings = record { lines = c.in_ok-speller.ensures.accepted; specs_are = c.tables-specs.ensures.specs };
            once = c.in_ok-refs.ensures.once;
            named = rw c.as_slice.ensures at c.in_ok-known_tables.ensures.known;
            refs_are = c.in_ok-refs.ensures.ok;
          }) reads)
    ]

pub returns-clause-heads : goal.returns-clause-heads
returns-clause-heads g c =
    has_heads (map table_head c.in_ok-speller.field-0.speller.heads) c.in_ok-speller.field-0.program c.fill.new.refs.content
    c.in_ok-speller.ensures.names.of_heads
    (c.in_ok-fill.ensures.heads ∙ c.in_ok-refs.ensures.heads
    ∙ ap (λ (s : ReferenceSpecs). map table_head s.heads) c.tables-specs.ensures.specs)

pub returns-clause-lists : goal.returns-clause-lists
returns-clause-lists g c =
    has_lists c.in_ok-speller.field-0.speller c.in_ok-speller.field-0.program c.tables-specs.result c.fill.new.refs.content
    c.in_ok-speller.ensures.names.of_lists c.tables-specs.ensures.specs
    (c.in_ok-fill.ensures.references ∙ c.in_ok-refs.ensures.count)

pub returns-clause-reads : goal.returns-clause-reads
returns-clause-reads g c =
    filled_reads (g.F.Files.held c.args.files.now) (pairs_of c.args.env.now) c.args.limits c.args.config.now
    c.in_ok-speller.field-0.speller c.in_ok-speller.field-0.program c.tables-specs.result c.in_ok-refs.refs.content c.fill.new.refs
    (g.F.Files.last c.fill.new.files) (g.F.Files.last c.fill.new.files) (g.F.Files.log c.args.files.now) (g.F.Files.log c.fill.new.files)
    (record {
      brings = record { lines = c.in_ok-speller.ensures.accepted; specs_are = c.tables-specs.ensures.specs };
      once = c.in_ok-refs.ensures.once;
      named = rw c.as_slice.ensures at c.in_ok-known_tables.ensures.known;
      refs_are = c.in_ok-refs.ensures.ok;
    }) c.in_ok-fill.ensures.reads
