-- The block that the allocator gave is room for each place, and the allocator's token the right to give it back.
use Rattle.std.proofs.Common.{ℕ, ◌*◌, ◌^◌, ◌<◌, List, [], ◌∷◌, ◌++◌, refl, sym, ap, subst, arith, lit<, true, false}
use lib.ListN.{length, replicate, length-replicate}
use base.Fml.{Incl-trans, ftrue, flft}
use base.Logic.{SProp, id⊢}
use contract.BorrowLft.{◌⊑◌}
use contract.Monad.{fact}
use contract.Running.{tables}
use mir.MapTy.{inst_fn}
use mir.Syntax.{Fn, ty_array, w64}
use mir.Val.{Val, vptr, vint, vstruct, vcons, vnil}
use prog.Capped.{capped_fits}
use prog.Memory.{align, capped}
use prog.Wp.{WpFn}
use types.ByLocal.{alloc_all, pass_all, free_all, look_at, get, get_in, get_tag, sets, sets_last, lands_as, is, env}
use types.Kit.{‵, raw, ◌⊛◌, later, prop, at_ret, ◌$◌, ◌∵◌, !, qed, by, move, keep, drop, use0, use1, use2, use3, split, split3, join, await, regoal, fsplit, fjoin, flt_i}
use types.Match.{live, vrt, in_variant}
use types.Part.{whole, agg}
use types.Run.{enter, first, bin, lit, size_word, align_word, stop, fld, of_opd, and_then, no_more, switches_on, exec, returns}
use denote.Builtin.{usize, RefOf}
use denote.Exit.{yes}
use denote.Laws.{Is}
use denote.Param.{layout}
use denote.RattleType.{RattleType, owns}
use denote.RawPtr.{Ptr, block_ptr}
use denote.Signature.{types_at, plain}
use denote.Steps.{nothing, heard, owned}
use denote.Struct.Struct.{Struct, Struct-Makes}
use denote.Struct.Declared.{shape}
use denote.Struct.Tuple.{Tuple}
use denote.Triple.Call.{calls_at}
use denote.Triple.Walked.{Stays, stay_dropped, walk_of, Goes-dropped}
use Rattle.std.specs.Prelude.{None, Ok, Err}
use Rattle.std.specs.Mem.{type_size}
use Rattle.std.specs.Vec.Ownership.{FitsInBlock}
use Rattle.core.specs.contracts.result.Result as result
use Rattle.core.specs.contracts.alloc.AllocError as refusal
use Rattle.core.proofs.mem.Param.{El, R, elτ}
use Rattle.core.proofs.alloc.Calls.{Al, Answer-typed, Takes, at_takes, Answered, Takes-goes, Takes-gives, answers, seen}
use Rattle.core.proofs.atomic.Steps.{fm}
use Rattle.core.proofs.slots.Leases.{uncapped, block_ty, block_size, block_align, args, P}
use Rattle.std.proofs.raw_atomic.Walks.{proved_at, leaves}
use Rattle.std_alloc.proofs.VecSteps.Shapes.{after, head, arm_body}
use Rattle.std_alloc.proofs.ResultValues.{ok_of, err_of}
use Rattle.std_alloc.proofs.RcSteps.{Good, word, word-Good, first_Good}
use Rattle.std_alloc.proofs.RawLayout.{as_written}
use Rattle.hx_pool.specs.Memory.{owns_row}
use Rattle.hx_pool.proofs.MemoryLemmas.{Pl, St, Marked, mark, mark_made, start_made, triple, triple_of, goes_on, row_of_room, says_one}
use Rattle.hx_pool.specs.contracts.memory.Claim as claim
use Rattle.hx_pool.specs.contracts.memory.allocate.{ended, clauses}
use Rattle.hx_pool.specs.contracts.memory.allocate.Key.{name}
use Rattle.hx_pool.proofs.memory.allocate.Statement.{statement}
use Rattle.hx_pool.proofs.memory.allocate.Code as code

pub allocate_spec : {M : Type 1} → statement M
allocate_spec 𝓤 𝓛 𝓜 𝓡 wired X A L K g d dd met md =
    let E : El = record { row = X; laws = L } in
    let Z : Al = record { row = A; laws = K; g = g; d = d; drops = dd } in
    let H = 𝓛.H in
    let T = tables 𝓤 H 𝓜 𝓡 𝓡.env in
    let fn : Fn = inst_fn (args E Z) code.function in
    let En = ended X A g d dd in
    let c = clauses X A g d dd 𝓛 𝓜.mem 𝓡.returns in
    let By = RefOf (0 ∷ []) tt (plain (λ _. P E Z)) (λ _. tt) in
    let hs : Stays En.signature.params En.kept = (stay_dropped By yes, (stay_dropped (plain (λ _. usize)) yes, tt)) in
    proved_at 𝓛 En hs c 𝓜 𝓡
    (Goes-dropped 𝓛 3 By yes (λ κs x f. refl), (Goes-dropped 𝓛 3 (plain (λ _. usize)) yes (λ κs x f. refl), tt))
    (name (args E Z)) fn (code.unfolded 𝓤 H 𝓜 𝓡 wired (X, (A, tt)) d dd) (λ z are.
    let Post : Val → SProp 𝓤 = (walk_of 𝓛 En hs c).post z in
    let κs = z.0.0 in let qs = z.0.1 in let κ = κs.0 in let q = qs.0 in
    let by_whom = z.0.3.0 in let a = by_whom.now in let at = by_whom.ref_ptr in let n = z.0.3.1.0 in
    let Cl : RattleType = claim.the_row (R E) (P E Z) g in
    let All : RattleType = Tuple (St E ∷ Pl E ∷ Cl ∷ []) in
    let Out : RattleType = result.the_row All refusal.the_row in
    let Asked : Type 0 = FitsInBlock (R E) n in
    let s = type_size (R E) in let τ = block_ty E n in
    qed 𝓛 (((‵ (flft κ q) ⊛ ‵ (flft κs.1.0 qs.1.0) ⊛ ‵ (flft κs.1.1.0 qs.1.1.0) ⊛ ‵ ftrue) ⊛ ‵ (owns (types_at En.signature.params κs) z.0.3 z.0.4))
    ∷ (raw (fact 𝓤 (κs.1.0 ⊑ X.lives)) ⊛ raw (fact 𝓤 (κs.1.1.0 ⊑ A.lives)) ⊛ raw (fact 𝓤 Asked)) ∷ []) ∵
    move ! (1 ∷ []) $ split3 ! $ drop ! $ heard ! (κs.1.1.0 ⊑ A.lives) (λ le. heard ! Asked (λ asked.
    let fits = are.1.0.1 in let few : n * s < 2 ^ 63 = asked.0 in let bytes : n * s < 2 ^ 64 = omega arith in
    let y = at_takes Z 𝓛 𝓜.mem 𝓡.returns κ q at a (n * s) (capped (align (elτ E))) τ in
    split ! $ split ! $ move ! (2 ∷ []) $ fsplit ! $ fsplit ! $ keep ! (1 ∷ 3 ∷ 4 ∷ []) $ use1 𝓛 (‵ (seen Z κ at a)) (id⊢ 𝓤 _) $
    -- [what the reference to the allocator has; the token; the other tokens]
    regoal ! (λ (us : List Val). prop (WpFn 𝓤 H T.C T.Λ fn us Post)) (λ i. are.0.0 i ++ (are.1.0.0 i ++ [])) refl $
    enter ! T.C T.Λ fn (vptr at.0 at.1 ∷ vint w64 n ∷ []) Post $
    alloc_all ! (λ l. pass_all ! refl ((tt, tt), ((tt, record { fits = fits }), tt)) $ let Ev = env fn.locals l in
    let After = goes_on 𝓛 T.C T.Λ Ev (after 3 fn.body) (at_ret Ev Post) in let arms = head (after 2 fn.body) in
    sets ! (is ! (bin ! (get ! refl) (size_word !) (record { fits = subst (λ (k : ℕ). k < 2 ^ 64) (sym (uncapped n s bytes)) bytes })) (ap (vint w64) (uncapped n s bytes))) refl (tt, record { fits = bytes }) $
    use2 𝓛 (raw ((Takes Z 𝓛 𝓜.mem 𝓡.returns).pre y)) (Takes-goes Z 𝓛 𝓜.mem 𝓡.returns κ q at a (Incl-trans z.0.2.0 le) (n * s) (capped (align (elτ E))) τ (block_size E n bytes) (block_align E n) bytes (capped_fits (align (elτ E)))) $
    calls_at ! (fm 𝓛 𝓜 𝓡) (Takes Z 𝓛 𝓜.mem 𝓡.returns) (met.allocate dd) y (and_then ! (get ! refl) (and_then ! (get ! refl) (and_then ! (align_word !) (no_more !)))) (λ v.
    use1 𝓛 (later (raw (Answered Z 𝓛 𝓜.mem 𝓡.returns a τ v) ⊛ ‵ (flft κ q))) (Takes-gives Z 𝓛 𝓜.mem 𝓡.returns κ q at a (n * s) (capped (align (elτ E))) τ v) $ await ! tt $ split ! $
    answers Z ! 𝓜.mem 𝓡.returns a τ v
    (λ b o e.
    let p : Ptr = block_ptr b o in let values = replicate n None in
    let start : (St E).Denot = record { address = p } in let places : (Pl E).Denot = record { mark = record {}; start = p; values = values } in
    let claimed : Cl.Denot = record { mark = record {}; start = p; count = n; alloc = a } in
    let made : Val = triple (word p) mark mark in let good : Good (layout All) made = (tt, ((tt, tt), ((tt, tt), ((tt, tt), tt)))) in let ok = first_Good (layout All) made good in
    lands_as ! e refl (Answer-typed true b o) $ first ! $ switches_on ! (get_tag ! (vrt ! refl (fld ! refl (stop !))) (whole !)) $ exec ! T.C T.Λ Ev (arm_body 0 arms) After $
    sets ! (of_opd ! (get_in ! (vrt ! refl (fld ! refl (stop !))) (in_variant ! 0 0 refl refl (whole !)))) refl (tt, tt) $ sets ! (of_opd ! (get ! refl)) refl (tt, tt) $
    sets ! (agg ! (and_then ! (get ! refl) (no_more !))) refl (word-Good [] p) $
    sets ! (agg ! (no_more !)) refl (tt, tt) $ sets ! (agg ! (and_then ! (get ! refl) (no_more !))) refl (tt, (tt, tt)) $
    sets ! (agg ! (no_more !)) refl (tt, tt) $ sets ! (agg ! (and_then ! (get ! refl) (no_more !))) refl (tt, (tt, tt)) $
    sets ! (agg ! (and_then ! (get ! refl) (and_then ! (get ! refl) (and_then ! (get ! refl) (no_more !))))) refl good $
    sets_last ! (agg ! (and_then ! (lit ! tt) (and_then ! (get ! refl) (no_more !)))) refl ok $
    exec ! T.C T.Λ Ev (after 3 fn.body) (at_ret Ev Post) $ sets ! (of_opd ! (get ! refl)) refl ok $
    returns ! (look_at ! 0 refl) $ free_all ! refl $
    -- [the room; the allocator's token; the token; the other tokens]
    as_written ! (ty_array (elτ E) n) b o $ use1 𝓛 (‵ (owns_row (R E) b o values)) (row_of_room E 𝓛 b n o) $
    flt_i ! (length values * s) (2 ^ 63) (subst (λ k. k * s < 2 ^ 63) (sym (length-replicate n None)) few) $ fjoin ! $
    use0 𝓛 (‵ ((Marked E).own_val (tt, tt) (mark ∷ []))) (mark_made E 𝓛) $ fjoin ! $ move ! (1 ∷ []) $
    use0 𝓛 (‵ ((Marked E).own_val (tt, tt) (mark ∷ []))) (mark_made E 𝓛) $ fjoin ! $ move ! (1 ∷ 0 ∷ []) $
    use0 𝓛 (‵ ((St E).own_val start (word p ∷ []))) (start_made E 𝓛 p) $
    use3 𝓛 (‵ (All.own_val (start, places, claimed) (made ∷ []))) (triple_of 𝓛 (St E) (Pl E) Cl start places claimed (word p) mark mark) $
    use1 𝓛 (‵ (Out.own_val (Ok (start, places, claimed)) (live 0 (vcons made vnil) ∷ []))) (ok_of 𝓛 All refusal.the_row (start, places, claimed) made) $
    nothing ! $ nothing ! $ fjoin ! $ nothing ! $ fjoin ! $ move ! (2 ∷ 3 ∷ []) $ join ! $
    says_one ! (refl, refl, refl, refl, refl) $ move ! (1 ∷ 2 ∷ 3 ∷ []) $
    by ! (leaves 𝓛 En hs c z (live 0 (vcons made vnil)) (Ok (start, places, claimed)) (tt, (tt, tt)) (tt, (tt, tt))))
    (λ e.
    let Refusal : RattleType = Struct (shape refusal.the_type) in let none : Val = live 1 (vcons (vstruct vnil) vnil) in
    lands_as ! e refl (Answer-typed false 0 0) $ first ! $ switches_on ! (get_tag ! (vrt ! refl (fld ! refl (stop !))) (whole !)) $ exec ! T.C T.Λ Ev (arm_body 1 arms) After $
    sets ! (of_opd ! (get_in ! (vrt ! refl (fld ! refl (stop !))) (in_variant ! 1 0 refl refl (whole !)))) refl (tt, tt) $
    sets_last ! (agg ! (and_then ! (lit ! tt) (and_then ! (get ! refl) (no_more !)))) refl (tt, (record { fits = lit< tt }, (tt, tt))) $
    exec ! T.C T.Λ Ev (after 3 fn.body) (at_ret Ev Post) $ sets ! (of_opd ! (get ! refl)) refl (tt, (record { fits = lit< tt }, (tt, tt))) $
    returns ! (look_at ! 0 refl) $ free_all ! refl $
    owned ! Refusal (Is Refusal) (Struct-Makes 𝓛 (shape refusal.the_type) tt) tt (vstruct vnil ∷ []) (tt, (refl, tt)) $
    use1 𝓛 (‵ (Out.own_val (Err (record {})) (none ∷ []))) (err_of 𝓛 All refusal.the_row (record {}) (vstruct vnil)) $
    nothing ! $ nothing ! $ fjoin ! $ nothing ! $ fjoin ! $ move ! (2 ∷ 3 ∷ []) $ join ! $
    says_one ! tt $ move ! (1 ∷ 2 ∷ 3 ∷ []) $
    by ! (leaves 𝓛 En hs c z none (Err (record {})) (tt, (tt, tt)) (tt, (tt, tt)))))))))
