use Rattle.std.proofs.Common.{subst}
use Rattle.memchr.specs.Find.{FindsNeedle}
use Rattle.hx_sample.specs.Keys.{folded}
use Rattle.hx_match.proofs.needle.Needle.next_place.Goals as goal

pub returns : goal.returns
returns c =
    subst (λ key. FindsNeedle (folded c.args.ci c.args.text.now) key c.args.start c.next_place.result)
    c.as_slice-key.ensures.value c.next_place.ensures
