use Rattle.std.proofs.Common.{◌≡◌, [], refl, sym, ap, subst}
use Rattle.std.proofs.lemmas.List.Elements.{All-nil}
use Rattle.hx_versions.proofs.ContentLemmas.{no_content}
use Rattle.hx_versions.proofs.placing.empty_content.Goals as goal

pub returns-clause-content : goal.returns-clause-content
returns-clause-content c entries nodes version =
    no_content entries nodes version (record { count = 0; entries = c.new.result; indexes = c.new-2.result }) refl c.new.ensures c.new-2.ensures.items
