use Rattle.std.proofs.Common.{sym, ap, ◌∙◌}
use Rattle.hx_sample.specs.declared.sample.Value.TheVariants as value
use Rattle.hx_sample.specs.Seen.{value_of}
use Rattle.hx_index.specs.Index.{entry_found, ignores_case, method_of}
use Rattle.hx_index.proofs.FindingLemmas.{exact_other, no_text}
use Rattle.hx_index.proofs.KeyLemmas.{exact_keeps, text_found}
use Rattle.hx_index.proofs.index.Index.exact.Goals as goal

pub returns-in_default-clause-found : goal.returns-in_default-clause-found
returns-in_default-clause-found g c items h =
    exact_other c.args.nodes.now c.args.self.now items h (value_of c.args.sample.now) c.requires.search (no_text c.args.sample.now c.in_default.not-Str)

pub first_with-requires-clause-keeps : goal.first_with-requires-clause-keeps
first_with-requires-clause-keeps g c =
    exact_keeps (method_of c.args.self.now) (ignores_case c.args.self.now) c.requires.search

pub returns-in-Str-clause-found : goal.returns-in-Str-clause-found
returns-in-Str-clause-found g c items h =
    let self = c.args.self.now in
    c.first_with.ensures.found items h
    ∙ text_found c.args.nodes.now self items h c.as_slice.result.now c.requires.search
    ∙ ap (λ text. entry_found self items (value.Str text)) c.as_slice.ensures
    ∙ ap (λ s. entry_found self items (value_of s)) (sym c.in-Str.is)
