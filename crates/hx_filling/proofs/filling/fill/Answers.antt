use Rattle.std.proofs.Common.{◌≡◌, ◌∙◌, ◌+◌, [], length, Err, refl, ap, arith}
use Rattle.std.proofs.lemmas.Result.{err_from_is_err_and}
use Rattle.hx_filling.specs.declared.load_fault.LoadFault.TheVariants as fault
use Rattle.hx_filling.proofs.FillLemmas.{at_first, fault_filled, fault_named, first_and_others, one_asked, one_keeps, one_more, one_unread, other_specs}
use Rattle.hx_filling.proofs.ReadLemmas.{all_read, all_read_once, fault_reads, fault_reads_once, none_since, one_read}
use Rattle.hx_filling.proofs.filling.fill.Goals as goal

-- ---- before the first reference

pub loop-rest-init : goal.loop-rest-init
loop-rest-init g c = rw c.as_slice-rest.ensures (record {
  filling = at_first (g.F.Files.held c.args.files.now) c.args.specs.now.specs c.args.refs.now.content;
  place = omega arith;
  count = c.requires.count;
  heads = refl;
  held = refl;
  last = refl;
  later = omega arith;
  reads = none_since (g.F.Files.log c.args.files.now) (λ names. names ≡ []) refl;
  too_large = refl;
  large = refl;
})

-- ---- a reference has a fault

pub returns-in_err-fill_one-clause-filled : goal.returns-in_err-fill_one-clause-filled
returns-in_err-fill_one-clause-filled g c =
    let p = err_from_is_err_and c.from_residual.result c.from_residual.ensures.1 in
    let i = c.loop-rest.invariant in
    let list = first_and_others c.loop-rest.rest.now c.spec-item.result c.in-len1-up.len_at_least c.spec-item.is in
    rw (p.1, p.2) (fault_filled (g.F.Files.held c.args.files.now) c.args.specs.now.specs c.args.refs.now.content c.loop-rest.r c.loop-rest.rest.now c.spec-item.result
    (other_specs c.loop-rest.rest.now) c.loop-rest.refs.content c.fill_one.new.refs.content c.in_err-fill_one.field-0.0 i.filling list c.requires.specs.files
    (λ line code is. rw i.held at (c.in_err-fill_one.ensures.refused line code (ap Err is))))

pub returns-in_err-fill_one-clause-failed : goal.returns-in_err-fill_one-clause-failed
returns-in_err-fill_one-clause-failed g c = λ is.
    let p = err_from_is_err_and c.from_residual.result c.from_residual.ensures.1 in
    let i = c.loop-rest.invariant in
    let list = first_and_others c.loop-rest.rest.now c.spec-item.result c.in-len1-up.len_at_least c.spec-item.is in
    let same : c.in_err-fill_one.field-0.0 ≡ fault.Failed = cc (p.1, p.2, is) in
    let (rose, named) = c.in_err-fill_one.ensures.failed (ap Err same) in (
      omega (arith, rose, i.later),
      one_unread (g.F.Files.held c.args.files.now) c.args.specs.now.specs c.args.refs.now.content c.loop-rest.r c.loop-rest.rest.now c.spec-item.result
          (other_specs c.loop-rest.rest.now) c.loop-rest.refs.content (g.F.Files.last c.fill_one.new.files) i.filling list named,
    )

pub returns-in_err-fill_one-clause-too_large : goal.returns-in_err-fill_one-clause-too_large
returns-in_err-fill_one-clause-too_large g c = λ is.
    let p = err_from_is_err_and c.from_residual.result c.from_residual.ensures.1 in
    let i = c.loop-rest.invariant in
    let list = first_and_others c.loop-rest.rest.now c.spec-item.result c.in-len1-up.len_at_least c.spec-item.is in
    let same : c.in_err-fill_one.field-0.0 ≡ fault.TooLarge = cc (p.1, p.2, is) in
    let (rose, asked) = c.in_err-fill_one.ensures.too_large (ap Err same) in (
      (rw i.too_large at rose),
      one_asked (g.F.Files.held c.args.files.now) c.args.specs.now.specs c.args.refs.now.content c.loop-rest.r c.loop-rest.rest.now c.spec-item.result
          (other_specs c.loop-rest.rest.now) c.loop-rest.refs.content (g.M.ReMaker.state c.fill_one.new.maker).large i.filling list c.requires.specs.files (rw i.held at asked),
    )

pub returns-in_err-fill_one-clause-named : goal.returns-in_err-fill_one-clause-named
returns-in_err-fill_one-clause-named g c =
    let i = c.loop-rest.invariant in
    let list = first_and_others c.loop-rest.rest.now c.spec-item.result c.in-len1-up.len_at_least c.spec-item.is in
    fault_named (g.F.Files.held c.args.files.now) c.args.specs.now.specs c.args.refs.now.content c.loop-rest.r c.loop-rest.rest.now c.spec-item.result
    (other_specs c.loop-rest.rest.now) c.loop-rest.refs.content c.in_err-fill_one.field-0.0 (g.F.Files.last c.args.files.now) (g.F.Files.last c.fill_one.new.files)
    i.filling list
    (λ is. (c.in_err-fill_one.ensures.failed (ap Err is)).1)
    (λ never. c.in_err-fill_one.ensures.named (λ is. never (cc (is))) ∙ i.last)

pub returns-in_err-fill_one-clause-reads : goal.returns-in_err-fill_one-clause-reads
returns-in_err-fill_one-clause-reads g c =
    let p = err_from_is_err_and c.from_residual.result c.from_residual.ensures.1 in
    let i = c.loop-rest.invariant in
    let list = first_and_others c.loop-rest.rest.now c.spec-item.result c.in-len1-up.len_at_least c.spec-item.is in
    rw (p.1, p.2) (fault_reads (g.F.Files.held c.args.files.now) c.args.specs.now.specs c.args.refs.now.content c.loop-rest.r c.loop-rest.rest.now c.spec-item.result
    (other_specs c.loop-rest.rest.now) c.loop-rest.refs.content c.in_err-fill_one.field-0.0 (g.F.Files.last c.fill_one.new.files)
    (g.F.Files.log c.args.files.now) (g.F.Files.log c.loop-rest.files) (g.F.Files.log c.fill_one.new.files) i.filling list c.requires.specs.files
    (λ line code is. rw i.held at (c.in_err-fill_one.ensures.refused line code (ap Err is)))
    (λ is. (c.in_err-fill_one.ensures.failed (ap Err is)).1)
    i.reads c.in_err-fill_one.ensures.reads)

pub returns-in_err-fill_one-clause-once : goal.returns-in_err-fill_one-clause-once
returns-in_err-fill_one-clause-once g c =
    let i = c.loop-rest.invariant in
    let list = first_and_others c.loop-rest.rest.now c.spec-item.result c.in-len1-up.len_at_least c.spec-item.is in
    fault_reads_once (g.F.Files.held c.args.files.now) c.args.specs.now.specs c.args.refs.now.content c.loop-rest.r c.loop-rest.rest.now c.spec-item.result
    (other_specs c.loop-rest.rest.now) c.loop-rest.refs.content
    (g.F.Files.log c.args.files.now) (g.F.Files.log c.loop-rest.files) (g.F.Files.log c.fill_one.new.files) i.filling list c.requires.specs.files
    i.reads c.in_err-fill_one.ensures.reads

-- ---- the next reference is filled

pub loop-rest-preserved : goal.loop-rest-preserved
loop-rest-preserved g c =
    let i = c.loop-rest.invariant in
    let list = first_and_others c.loop-rest.rest.now c.spec-item.result c.in-len1-up.len_at_least c.spec-item.is in
    let one = rw i.held at c.in_ok-fill_one.ensures.filled in
    let kept = one_keeps (g.F.Files.held c.args.files.now) c.spec-item.result c.loop-rest.r c.loop-rest.refs.content c.fill_one.new.refs.content one in
    let size : length c.loop-rest.rest.now ≡ length (other_specs c.loop-rest.rest.now) + 1 = ap length list ∙ omega arith in
    record {
      filling = one_more (g.F.Files.held c.args.files.now) c.args.specs.now.specs c.args.refs.now.content c.loop-rest.r c.loop-rest.rest.now c.spec-item.result
          (other_specs c.loop-rest.rest.now) c.loop-rest.refs.content c.fill_one.new.refs.content i.filling list c.requires.specs.files one;
      place = omega (arith, size, i.place);
      count = kept.0 ∙ i.count;
      heads = kept.1 ∙ i.heads;
      held = c.in_ok-fill_one.ensures.held ∙ i.held;
      last = c.in_ok-fill_one.ensures.named (λ is. cc (is)) ∙ i.last;
      later = omega (arith, c.in_ok-fill_one.ensures.later, i.later);
      reads = one_read (g.F.Files.held c.args.files.now) c.args.specs.now.specs c.args.refs.now.content c.loop-rest.r c.loop-rest.rest.now c.spec-item.result
          (other_specs c.loop-rest.rest.now) c.loop-rest.refs.content (g.F.Files.log c.args.files.now) (g.F.Files.log c.loop-rest.files) (g.F.Files.log c.fill_one.new.files)
          i.filling list i.reads c.in_ok-fill_one.ensures.reads;
      too_large = (c.in_ok-fill_one.ensures.uncounted (λ is. cc (is))).0 ∙ i.too_large;
      large = (c.in_ok-fill_one.ensures.uncounted (λ is. cc (is))).1 ∙ i.large;
    }

-- ---- all are filled

pub returns-clause-reads : goal.returns-clause-reads
returns-clause-reads g c =
    let i = c.loop-rest.invariant in
    all_read (g.F.Files.held c.args.files.now) c.args.specs.now.specs c.args.refs.now.content c.loop-rest.r c.loop-rest.rest.now (g.F.Files.last c.loop-rest.files)
    (g.F.Files.log c.args.files.now) (g.F.Files.log c.loop-rest.files) i.reads i.place (omega (arith, c.in_default.len_below))

pub returns-clause-once : goal.returns-clause-once
returns-clause-once g c =
    all_read_once c.args.specs.now.specs c.loop-rest.r (g.F.Files.log c.args.files.now) (g.F.Files.log c.loop-rest.files) c.requires.specs.files
    c.loop-rest.invariant.reads
