use Rattle.std.proofs.Common.{sym, ◌∙◌}
use Rattle.hx_sample.specs.Seen.{value_of}
use Rattle.hx_index.proofs.FindingLemmas.{if_ok}
use Rattle.hx_index.proofs.PrefixLemmas.{scan_entry}
use Rattle.hx_index.proofs.index.Index.find.Goals as goal

pub returns-in-Scan-clause-found : goal.returns-in-Scan-clause-found
returns-in-Scan-clause-found g c items h =
    if_ok c.first_hit.result _ _ (λ entry is. scan_entry c.args.nodes.now c.args.self.now items (value_of c.args.sample.now) entry h (sym c.search_of.ensures ∙ c.in-Scan.is) is) (c.first_hit.ensures.found items h)
