use Rattle.std.proofs.Common.{get_or, sym, ◌∙◌, ◌+◌}
use Rattle.std.proofs.lemmas.Bool.Decides.{Decides-eqb}
use Rattle.hx_http.proofs.WritingLemmas.{whole_line}
use Rattle.hx_http.proofs.writing.stands_written.Goals as goal
use Rattle.hx_http.proofs.writing.stands_written.Goals.{then-line-colon, else-line-colon}

pub returns-then-bytes-colon-eq58-clause-whole : goal.returns-then-bytes-colon-eq58-clause-whole
returns-then-bytes-colon-eq58-clause-whole c = λ space.
    let bytes = c.args.bytes.now in
    let colon = c.args.line.name.end in
    elim c.if-line-colon.branch [
      | then-line-colon w ↦
          whole_line bytes c.args.line c.requires w.if-line-colon.true
          ((Decides-eqb (get_or bytes colon 0) 58).0 (sym w.value-is ∙ c.if-bytes-colon-eq58.true))
          ((Decides-eqb (get_or bytes (colon + 1) 0) 32).0 space)
      | else-line-colon w ↦
          absurd (w.if-line-colon.false
          ((Decides-eqb c.args.line.value.start (colon + 2)).0 (sym w.value-is ∙ c.if-bytes-colon-eq58.true)))
    ]
