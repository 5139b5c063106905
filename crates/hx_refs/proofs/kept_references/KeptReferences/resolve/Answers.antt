use Rattle.std.proofs.Common.{ap, arith, sym, ◌∙◌}
use Rattle.hx_refs.specs.Changes.{answer}
use Rattle.hx_refs.specs.Naming.{named_number}
use Rattle.hx_refs.proofs.FilledLemmas.{filled_length}
use Rattle.hx_refs.proofs.NamingLemmas.{filled_resolution, first_named, none_named, resolution_from, resolution_is}
use Rattle.hx_refs.proofs.kept_references.KeptReferences.resolve.Goals as goal

pub returns-then-is_named : goal.returns-then-is_named
returns-then-is_named c refs shown =
    let word = c.args.word.now in
    let named = sym (c.is_named.ensures (named_number word) c.named_number-number.ensures) ∙ c.if-is_named.true in
    c.answer.ensures
    ∙ ap (answer c.loop-rest.position) c.side_fault.ensures
    ∙ first_named (named_number word) word c.args.side c.loop-rest.position c.loop-rest.rest.now c.reference-item.result
    c.in-len1-up.len_at_least c.reference-item.is named
    ∙ c.loop-rest.invariant.found
    ∙ ap (resolution_from (named_number word) word c.args.side 0) (sym shown)
    ∙ resolution_is refs word c.args.side

pub returns : goal.returns
returns c refs shown =
    let word = c.args.word.now in
    none_named (named_number word) word c.args.side c.loop-rest.position c.loop-rest.rest.now c.in_default.len_below
    ∙ c.loop-rest.invariant.found
    ∙ ap (resolution_from (named_number word) word c.args.side 0) (sym shown)
    ∙ resolution_is refs word c.args.side

pub loop-rest-init : goal.loop-rest-init
loop-rest-init c =
    let word = c.args.word.now in
    rw c.as_slice-rest.ensures.value
    (rw (← c.self.view_is)
    (record {
      found = sym (filled_resolution (named_number word) word c.args.side 0 c.self.inside.references.items c.self.inside.store.rows);
      few = omega (arith, rw (← c.self.view_is) at c.requires, filled_length c.self.inside.references.items c.self.inside.store.rows);
    }))
