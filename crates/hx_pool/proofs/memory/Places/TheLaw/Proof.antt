-- A `&` to the places reads each value.
use Rattle.std.proofs.Common.{[], ◌++◌}
use base.Fml.{Incl-trans}
use contract.BorrowLft.{meet_⊑_left}
use denote.RattleType.{RattleType}
use denote.RawPtr.{RawPtr}
use denote.Param.Laws.{Laws}
use denote.Param.Shared.{copy_shared}
use denote.Struct.Laws.{field_copy}
use denote.Struct.Lending.{of_Lends}
use Rattle.core.specs.contracts.marker.PhantomData as mark
use Rattle.hx_pool.specs.contracts.memory.Places as places
use Rattle.hx_pool.proofs.memory.Places.TheLaw.Statement.{statement}
use Rattle.hx_pool.proofs.MemoryLemmas.{places_laws, Lends-places}

pub shares : (X : RattleType) (L : Laws X) → statement X L
shares X L =
    let unmarked = copy_shared (mark.the_field RawPtr) (field_copy (mark.the_type RawPtr) tt) in
    of_Lends (places.struct X) (places.the_codes X.Denot X.coded (mark.the_row RawPtr).coded) (places.the_heap X) (places.the_lent X)
    (λ d p. places_laws X L.shr_laws d.start d.values) (unmarked, tt)
    (λ M 𝓤 𝓛 d p. Lends-places 𝓛 (places.the_row X).lives X L (Incl-trans (meet_⊑_left (X.lives ++ []) _) (meet_⊑_left X.lives [])) d.start d.values)
