use Rattle.std.proofs.Common.{◌∙◌, ◌++◌}
use Rattle.std.specs.Prelude.{filter_map}
use Rattle.std.proofs.lemmas.Result.{err_from_is_err_and}
use Rattle.hx_base.specs.Bytes.{ascii}
use Rattle.hx_text.specs.Cut.{pieces}
use Rattle.hx_refs.specs.FileLines.{line_pair, text_pairs}
use Rattle.hx_filling.proofs.AddingLemmas.{first_left_as, more_added, one_line}
use Rattle.hx_filling.proofs.adding.add_lines.Goals as goal

pub returns-in_err-pairs : goal.returns-in_err-pairs
returns-in_err-pairs g c =
    let p = err_from_is_err_and c.from_residual-in_err-pairs.result c.from_residual-in_err-pairs.ensures.1 in
    let two = c.args.spec.now.two_column in
    let all = text_pairs two c.args.text.now in
    let more = filter_map (line_pair two) (pieces (ascii "\n") c.in-Some.after.now) in
    let rest = one_line c.args.r two all c.loop-line.pairs c.push_line.new.self c.loop-line.rest.now c.in-Some.line.now c.in-Some.after.now c.args.refs.now.content
    c.loop-line.refs.content c.in-Some.ensures.cut c.in_ok-push_line.ensures.ok c.loop-line.invariant.rest in
    rw (p.1, p.2) (first_left_as c.args.r c.args.spec.now.line all c.push_line.new.self more c.args.refs.now.content c.loop-line.refs.content c.add_full.new.refs.content
    (g.M.ReMaker.state c.args.maker.now) (g.M.ReMaker.state c.loop-line.maker) (g.M.ReMaker.state c.add_full.new.maker) c.in_err-pairs.field-0.0 rest
    c.loop-line.invariant.uncounted c.in_err-pairs.ensures.err)

pub loop-line-preserved : goal.loop-line-preserved
loop-line-preserved g c =
    let two = c.args.spec.now.two_column in
    let all = text_pairs two c.args.text.now in
    let more = filter_map (line_pair two) (pieces (ascii "\n") c.in-Some.after.now) in
    let rest = one_line c.args.r two all c.loop-line.pairs c.push_line.new.self c.loop-line.rest.now c.in-Some.line.now c.in-Some.after.now c.args.refs.now.content
    c.loop-line.refs.content c.in-Some.ensures.cut c.in_ok-push_line.ensures.ok c.loop-line.invariant.rest in
    let same = c.loop-line.invariant.uncounted in
    let now = c.in_ok-pairs.ensures.uncounted in
    record {
      rest = more_added c.args.r all (c.push_line.new.self ++ more) (c.in_ok-pairs.pairs ++ more) c.args.refs.now.content c.loop-line.refs.content
          c.add_full.new.refs.content rest (c.in_ok-pairs.ensures.left more);
      uncounted = (now.0 ∙ same.0, now.1 ∙ same.1);
    }
