use Rattle.hx_refs.proofs.KeptLemmas.{more_methods}
use Rattle.hx_refs.proofs.reference.KeptReference.push_use.Goals as goal

pub invariant_of-self-2 : goal.invariant_of-self-2
invariant_of-self-2 c = record {
  patterns = rw c.in_ok-push.ensures.items
      (more_methods c.self.inside.uses.items _ c.requires.found c.requires.bool c.self.invariant.patterns);
  short = c.self.invariant.short;
  room = c.self.invariant.room;
}
