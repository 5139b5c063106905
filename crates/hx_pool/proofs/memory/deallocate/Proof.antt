-- Places without values are room for one array, which goes back with the allocator's token.
use Rattle.std.proofs.Common.{◌≡◌, ℕ, ◌*◌, ◌^◌, ◌<◌, List, [], ◌∷◌, ◌++◌, refl, sym, ap, ◌∙◌, subst, arith}
use lib.Dec.{T as Holds}
use lib.ListN.{replicate, length-replicate}
use base.Fml.{Incl-trans, ftrue, froom, flft}
use base.Logic.{SProp, id⊢}
use contract.BorrowLft.{◌⊑◌}
use contract.Monad.{fact}
use contract.Running.{tables}
use mir.MapTy.{inst_fn}
use mir.Syntax.{Fn, ty_array, ty_unit, w64}
use mir.Val.{Val, vptr, vint, vunit, has_ty, WT}
use prog.Capped.{capped_fits}
use prog.Memory.{align, capped}
use prog.Wp.{WpFn}
use types.ByLocal.{alloc_all, pass_all, free_all, look_at, get, get_in, sets, lands_last, is, env}
use types.Kit.{‵, raw, ◌⊛◌, given, later, prop, at_ret, ◌$◌, ◌∵◌, !, qed, by, move, keep, drop, use1, split, split3, join, group, learn, await, rewrite, regoal, fsplit, fjoin, feq_i, flt_l}
use types.Part.{whole, sub}
use types.Run.{enter, first, blocks, bin, size_word, align_word, unit_lit, stop, fld, of_opd, and_then, no_more, exec, returns}
use denote.Builtin.{usize, RefOf}
use denote.Exit.{yes, no}
use denote.RattleType.{RattleType, owns}
use denote.RawPtr.{Ptr, ptr_val, in_a_block}
use denote.Signature.{types_at, plain}
use denote.Steps.{nothing, heard}
use denote.Triple.Call.{calls_at_last}
use denote.Triple.Walked.{Stays, stay_dropped, walk_of, Goes-dropped}
use Rattle.std.specs.Prelude.{Option, None}
use Rattle.std.specs.Mem.{type_size}
use Rattle.core.proofs.mem.Param.{El, R, el_x, elτ}
use Rattle.core.proofs.alloc.Calls.{Al, token, seen, Goes-blank, Gives, at_gives, Gives-goes, Gives-Gives}
use Rattle.core.proofs.atomic.Steps.{fm}
use Rattle.core.proofs.slots.Leases.{uncapped, block_ty, block_size, block_align, args, P}
use Rattle.std.proofs.raw_atomic.Walks.{proved_at, leaves}
use Rattle.std_alloc.proofs.VecSteps.Shapes.{after}
use Rattle.std_alloc.proofs.RcSteps.{word, word-Good}
use Rattle.std_alloc.proofs.RawLayout.{as_raw}
use Rattle.hx_pool.specs.Memory.{owns_places, owns_block}
use Rattle.hx_pool.proofs.MemoryLemmas.{Pl, St, mark, mark_told, start_told, room_of_row}
use Rattle.hx_pool.specs.contracts.memory.Claim as claim
use Rattle.hx_pool.specs.contracts.memory.deallocate.{ended, clauses}
use Rattle.hx_pool.specs.contracts.memory.deallocate.Key.{name}
use Rattle.hx_pool.proofs.memory.deallocate.Statement.{statement}
use Rattle.hx_pool.proofs.memory.deallocate.Code as code

pub deallocate_spec : {M : Type 1} → statement M
deallocate_spec 𝓤 𝓛 𝓜 𝓡 wired X A L K g d dd met md =
    let E : El = record { row = X; laws = L } in
    let Z : Al = record { row = A; laws = K; g = g; d = d; drops = dd } in
    let H = 𝓛.H in
    let T = tables 𝓤 H 𝓜 𝓡 𝓡.env in
    let fn : Fn = inst_fn (args E Z) code.function in
    let En = ended X A g d dd in
    let c = clauses X A g d dd 𝓛 𝓜.mem 𝓡.returns in
    let By = RefOf (0 ∷ []) tt (plain (λ _. P E Z)) (λ _. tt) in
    let Cl : RattleType = claim.the_row (R E) (P E Z) g in
    let hs : Stays En.signature.params En.kept = (stay_dropped By yes, (stay_dropped (plain (λ _. St E)) no, (stay_dropped (plain (λ _. usize)) yes, (stay_dropped (plain (λ _. Pl E)) no, (stay_dropped (plain (λ _. Cl)) no, tt))))) in
    proved_at 𝓛 En hs c 𝓜 𝓡 (
      Goes-dropped 𝓛 3 By yes (λ κs x f. refl),
      (
        Goes-dropped 𝓛 3 (plain (λ _. St E)) no (λ κs x f. refl),
        (
          Goes-dropped 𝓛 3 (plain (λ _. usize)) yes (λ κs x f. refl),
          (Goes-blank 𝓛 3 (plain (λ _. Pl E)) no (λ κs x f. tt), (Goes-blank 𝓛 3 (plain (λ _. Cl)) no (λ κs x f. tt), tt)),
        ),
      ),
    )
    (name (args E Z)) fn (code.unfolded 𝓤 H 𝓜 𝓡 wired (X, (A, tt)) d dd) (λ z are.
    let Post : Val → SProp 𝓤 = (walk_of 𝓛 En hs c).post z in
    let κs = z.0.0 in let qs = z.0.1 in let κ = κs.0 in let q = qs.0 in let us = z.0.4 in
    let by_whom = z.0.3.0 in let a = by_whom.now in let at = by_whom.ref_ptr in
    let start = z.0.3.1.0 in let n = z.0.3.1.1.0 in let places = z.0.3.1.1.1.0 in let claimed = z.0.3.1.1.1.1.0 in
    let Asked : Type 0 = (places.start ≡ start.address) × (places.values ≡ replicate n None) × (claimed.start ≡ start.address) × (claimed.count ≡ n) × (claimed.alloc ≡ a) in
    let s = type_size (R E) in let τ = block_ty E n in
    qed 𝓛 (((‵ (flft κ q) ⊛ ‵ (flft κs.1.0 qs.1.0) ⊛ ‵ (flft κs.1.1.0 qs.1.1.0) ⊛ ‵ ftrue) ⊛ ‵ (owns (types_at En.signature.params κs) z.0.3 us))
    ∷ (raw (fact 𝓤 (κs.1.0 ⊑ X.lives)) ⊛ raw (fact 𝓤 (κs.1.1.0 ⊑ A.lives)) ⊛ raw (fact 𝓤 Asked)) ∷ []) ∵
    move ! (1 ∷ []) $ split3 ! $ drop ! $ heard ! (κs.1.1.0 ⊑ A.lives) (λ le. heard ! Asked (λ asked.
    let e0 = are.0.0 in let e1 = start_told E start us.1.0 are.1.0 in let e2 = are.1.1.0.0 in let fits = are.1.1.0.1 in
    let e3 = mark_told E us.1.1.1.0 are.1.1.1.0.0 in let e4 = mark_told E us.1.1.1.1.0 are.1.1.1.1.0.0 in
    split ! $ split ! $ move ! (2 ∷ []) $ fsplit ! $ fsplit ! $ move ! (2 ∷ []) $ fsplit ! $ move ! (1 ∷ []) $ fsplit ! $ move ! (1 ∷ []) $ fsplit ! $ move ! (1 ∷ []) $ fsplit ! $
    fsplit ! $ move ! (3 ∷ []) $ fsplit ! $ keep ! (8 ∷ 1 ∷ 3 ∷ 9 ∷ 10 ∷ []) $ use1 𝓛 (‵ (seen Z κ at a)) (id⊢ 𝓤 _) $ move ! (1 ∷ 2 ∷ 0 ∷ []) $
    -- [the places; the right to give them back; what the reference to the allocator has; the token; the other tokens]
    regoal ! (λ (us : List Val). prop (WpFn 𝓤 H T.C T.Λ fn us Post)) (λ i. e0 i ++ (e1 i ++ (e2 i ++ (e3 i ++ (e4 i ++ []))))) refl $
    enter ! T.C T.Λ fn (vptr at.0 at.1 ∷ word start.address ∷ vint w64 n ∷ mark ∷ mark ∷ []) Post $
    alloc_all ! (λ l. pass_all ! refl ((tt, tt), (word-Good [] start.address, ((tt, record { fits = fits }), ((tt, (tt, tt)), ((tt, (tt, tt)), tt))))) $ let Ev = env fn.locals l in
    rewrite ! 0 (λ (p : Ptr × List (Option (el_x E))). ‵ (owns_places (R E) p.0 p.1)) (λ i. (asked.0 i, asked.1 i)) refl $
    in_a_block ! start.address (λ p. owns_places (R E) p (replicate n None)) (id⊢ 𝓤 _) (λ b o e. fsplit ! $ flt_l ! (λ fit.
    let few : n * s < 2 ^ 63 = subst (λ k. k * s < 2 ^ 63) (length-replicate n None) fit in let bytes : n * s < 2 ^ 64 = omega arith in
    let y = at_gives Z 𝓛 𝓜.mem 𝓡.returns κ q at a b o (n * s) (capped (align (elτ E))) τ in
    rewrite ! 1 (λ (c : A.Denot × Ptr × ℕ). ‵ (owns_block (R E) (token Z c.0) c.1 c.2)) (λ i. (asked.4 i, (asked.2 ∙ e) i, asked.3 i)) refl $
    use1 𝓛 (‵ (froom (ty_array (elτ E) n) b o)) (room_of_row E 𝓛 b n o) $ as_raw ! (ty_array (elτ E) n) b o $ first ! $ blocks ! $
    sets ! (is ! (of_opd ! (get_in ! (fld ! refl (stop !)) (sub ! 0 refl (whole !)))) (ap ptr_val e)) refl (tt, tt) $
    sets ! (is ! (bin ! (get ! refl) (size_word !) (record { fits = subst (λ (k : ℕ). k < 2 ^ 64) (sym (uncapped n s bytes)) bytes })) (ap (vint w64) (uncapped n s bytes))) refl (tt, record { fits = bytes }) $
    group ! 4 $ use1 𝓛 (raw ((Gives Z 𝓛 𝓜.mem 𝓡.returns).pre y)) (Gives-goes Z 𝓛 𝓜.mem 𝓡.returns κ q at a (Incl-trans z.0.2.0 le) b o (n * s) (capped (align (elτ E))) τ (block_size E n bytes) (block_align E n) bytes (capped_fits (align (elτ E)))) $
    calls_at_last ! (fm 𝓛 𝓜 𝓡) (Gives Z 𝓛 𝓜.mem 𝓡.returns) (met.deallocate dd) y (and_then ! (get ! refl) (and_then ! (get ! refl) (and_then ! (get ! refl) (and_then ! (align_word !) (no_more !))))) (λ v.
    use1 𝓛 (later (given (v ≡ vunit) (‵ (flft κ q)))) (Gives-Gives Z 𝓛 𝓜.mem 𝓡.returns κ q at a b o (n * s) (capped (align (elτ E))) τ v) $ await ! tt $ learn ! (λ given_back.
    lands_last ! refl (subst (λ (u : Val). Holds (has_ty ty_unit u) × WT u) (sym given_back) (tt, tt)) $ exec ! T.C T.Λ Ev (after 1 fn.body) (at_ret Ev Post) $
    sets ! (of_opd ! (unit_lit !)) refl (tt, tt) $ returns ! (look_at ! 0 refl) $ free_all ! refl $
    -- [the token; the other tokens]
    join ! $ feq_i ! (List Val) (vunit ∷ []) (vunit ∷ []) refl $
    nothing ! $ nothing ! $ fjoin ! $ nothing ! $ fjoin ! $ nothing ! $ fjoin ! $ nothing ! $ fjoin ! $ nothing ! $ fjoin ! $ nothing ! $ move ! (3 ∷ 1 ∷ 2 ∷ 0 ∷ []) $
    by ! (leaves 𝓛 En hs c z vunit tt (tt, (tt, (tt, (tt, (tt, tt))))) (tt, (tt, (tt, (tt, (tt, tt))))))))))))))
