use Rattle.std.proofs.Common.{◌∙◌, sym}
use Rattle.hx_cases_acls.proofs.UseLemmas.{told_use_has_head}
use Rattle.hx_cases_acls.proofs.searches.find_at.Goals as goal

pub find_by-requires : goal.find_by-requires
find_by-requires c =
    told_use_has_head c.args.refs.now.content.heads c.args.r c.args.k c.in-Some.by c.in-Some.field-0-1
    c.in-Some.head (sym c.in-Some.is ∙ c.use_at.ensures)
