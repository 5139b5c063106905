use Rattle.std.proofs.lemmas.Bool.{lt-leb, le-leb}
use Rattle.hx_text.proofs.NumberLemmas.{kept_parse}
use Rattle.hx_text.proofs.numbers.parse_number.Goals as goal

pub returns-in-Ok-clause-value : goal.returns-in-Ok-clause-value
returns-in-Ok-clause-value c =
    let e =
    kept_parse c.args.most c.args.text.now c.parse.result c.parse.ensures.value.0 c.requires
    c.ranges.most.fits in
    let f = rw c.in-Ok.is at e in
    rw (le-leb c.in-Ok.n c.args.most c.if-n-most.true) at f

pub returns-in_default-clause-value : goal.returns-in_default-clause-value
returns-in_default-clause-value c =
    let e =
    kept_parse c.args.most c.args.text.now c.parse.result c.parse.ensures.value.0 c.requires
    c.ranges.most.fits in
    let f = rw c.in-Ok.is at e in
    rw (lt-leb c.in-Ok.n c.args.most c.if-n-most.false) at f

pub returns-in_default-2-clause-value : goal.returns-in_default-2-clause-value
returns-in_default-2-clause-value c =
    rw c.in_default.is at (kept_parse c.args.most c.args.text.now c.parse.result
    c.parse.ensures.value.0 c.requires c.ranges.most.fits)
