use Rattle.std.proofs.Common.{◌≡◌, arith}
use Rattle.hx_match.proofs.PlaceLemmas.{folded_length, skipped}
use Rattle.hx_match.proofs.search.skip.Goals as goal

pub returns-then-count-eq0-clause-candidate : goal.returns-then-count-eq0-clause-candidate
returns-then-count-eq0-clause-candidate c from here =
    let none : 0 ≡ c.args.count = omega (arith, c.if-count-eq0.true) in
    skipped c.args.ci c.args.text.now c.args.key.now c.args.place c.args.count c.bytes_before.result
    (omega (arith, c.requires.begins.fits, folded_length c.args.ci c.args.text.now))
    (omega (arith, c.requires.more))
    none
    c.bytes_before.ensures.within c.bytes_before.ensures.others from here
