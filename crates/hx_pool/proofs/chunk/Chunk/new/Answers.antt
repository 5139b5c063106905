use Rattle.hx_pool.proofs.PlaceLemmas.{none_places}
use Rattle.hx_pool.proofs.chunk.Chunk.new.Goals as goal

pub invariant_of-result : goal.invariant_of-result
invariant_of-result g c =
    let given = c.in_ok-start.ensures in
    let none = none_places c.in_ok-start.places.values 1024 given.1 in
    record {
      starts = given.0;
      claims = given.2;
      counted = given.3;
      giver = given.4;
      whole = none.0;
      filled = none.1;
    }
