-- A `&` to the right to give a block back has nothing.
use denote.RattleType.{RattleType}
use denote.RawPtr.{RawPtr}
use denote.Param.Laws.{Laws}
use denote.Param.Shared.{copy_shared}
use denote.SharingLaws.{nothing_shr_laws}
use denote.Struct.Laws.{field_copy}
use denote.Struct.Lending.{of_Lends, Lends-nothing}
use Rattle.core.specs.declared.alloc.Allocator.{Ghosts}
use Rattle.core.specs.contracts.marker.PhantomData as mark
use Rattle.hx_pool.specs.contracts.memory.Claim as claim
use Rattle.hx_pool.proofs.memory.Claim.TheLaw.Statement.{statement}

pub shares : (X A : RattleType) (g : Ghosts A.Denot) (L : Laws X) (K : Laws A) → statement X A g L K
shares X A g L K =
    let unmarked = copy_shared (mark.the_field RawPtr) (field_copy (mark.the_type RawPtr) tt) in
    of_Lends (claim.struct X A g) (claim.the_codes X.Denot A.Denot X.coded A.coded (mark.the_row RawPtr).coded) (claim.the_heap X A g) (claim.the_lent X A g)
    (λ d p. nothing_shr_laws) (unmarked, tt) (λ M 𝓤 𝓛 d p. Lends-nothing 𝓛 (claim.the_heap X A g d) (claim.the_row X A g).lives)
