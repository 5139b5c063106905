-- The value is moved into its place, which was room.
use Rattle.std.proofs.Common.{◌≡◌, ◌+◌, ◌*◌, ◌^◌, ◌<◌, List, [], ◌∷◌, ◌++◌, refl, sym, ◌∙◌, subst}
use lib.ListN.{length, set, get_or, length-set}
use base.Fraction.{full_share}
use base.Fml.{ftrue, fat, flft}
use base.Logic.{SProp, id⊢}
use contract.BorrowLft.{◌⊑◌}
use contract.Monad.{fact}
use contract.Running.{tables}
use mir.MapTy.{inst_fn}
use mir.Syntax.{Fn, w64}
use mir.Val.{Val, vptr, vint, vunit}
use prog.Wp.{WpFn}
use types.ByLocal.{alloc_all, pass_all, free_all, look_at, get, get_in, through, sets, take_at, give_at, env}
use types.Kit.{‵, raw, ◌⊛◌, prop, at_ret, ◌$◌, ◌∵◌, !, qed, by, move, keep, drop, use1, use2, split, join, rewrite, regoal, fsplit, fsplit3, fjoin, fjoin3, feq_i, flt_l, flt_i}
use types.Part.{whole, sub}
use types.Run.{enter, first, blocks, bin, size_lit, unit_lit, stop, fld, of_opd, init, assigns_last, exec, returns}
use borrow.Table.OneValue.{part_in}
use denote.Builtin.{usize}
use denote.Exit.{yes, no}
use denote.Param.{layout}
use denote.RattleType.{owns}
use denote.RawPtr.{Ptr, in_a_block}
use denote.Signature.{types_at, plain}
use denote.Steps.{nothing, heard, opens, closes}
use denote.Triple.Walked.{Stays, stay_dropped, stay_ref, walk_of, Goes-dropped, Goes-ref}
use Rattle.std.specs.Prelude.{Option, Some, None}
use Rattle.std.specs.Mem.{type_size}
use Rattle.core.proofs.mem.Param.{El, R, el_x, args, elτ, one, lawful}
use Rattle.std.proofs.raw_atomic.Walks.{proved_at, leaves}
use Rattle.std_alloc.proofs.VecSteps.Shapes.{after}
use Rattle.std_alloc.proofs.RcSteps.{word, word-Good}
use Rattle.std_alloc.proofs.RawLayout.{as_written}
use Rattle.hx_pool.specs.Memory.{owns_place, owns_row, owns_places}
use Rattle.hx_pool.proofs.MemoryLemmas.{Pl, St, start_told, near, Others, place_out, place_in, says_one}
use Rattle.hx_pool.specs.contracts.memory.Places.write.{ended, clauses}
use Rattle.hx_pool.specs.contracts.memory.Places.write.Key.{name}
use Rattle.hx_pool.proofs.memory.Places.write.Statement.{statement}
use Rattle.hx_pool.proofs.memory.Places.write.Code as code

pub write_spec : {M : Type 1} → statement M
write_spec 𝓤 𝓛 𝓜 𝓡 wired X L =
    let E : El = record { row = X; laws = L } in
    let H = 𝓛.H in
    let T = tables 𝓤 H 𝓜 𝓡 𝓡.env in
    let fn : Fn = inst_fn (args E) code.function in
    let En = ended X in
    let c = clauses X 𝓛 𝓜.mem 𝓡.returns in
    let hs : Stays En.signature.params En.kept = (stay_ref (0 ∷ []) tt (plain (λ _. Pl E)), (stay_dropped (plain (λ _. St E)) no, (stay_dropped (plain (λ _. usize)) yes, (stay_dropped (plain (λ _. R E)) no, tt)))) in
    proved_at 𝓛 En hs c 𝓜 𝓡
    (Goes-ref 𝓛 2 0 tt (plain (λ _. Pl E)), (Goes-dropped 𝓛 2 (plain (λ _. St E)) no (λ κs x f. refl), (Goes-dropped 𝓛 2 (plain (λ _. usize)) yes (λ κs x f. refl), (Goes-dropped 𝓛 2 (plain (λ _. R E)) no (λ κs x f. refl), tt))))
    (name (args E)) fn (code.unfolded 𝓤 H 𝓜 𝓡 wired (X, tt)) (λ z are.
    let Post : Val → SProp 𝓤 = (walk_of 𝓛 En hs c).post z in
    let κs = z.0.0 in let qs = z.0.1 in let a = z.0.3 in
    let d = a.0.now in let rb = a.0.ref_ptr.0 in let ro = a.0.ref_ptr.1 in let start = a.1.0 in let index = a.1.1.0 in let x = a.1.1.1.0 in
    let Asked : Type 0 = (start.address ≡ d.start) × (index < length d.values) × (get_or d.values index None ≡ None) in
    let new : (Pl E).Denot = record { mark = d.mark; start = d.start; values = set d.values index (Some x) } in
    let stored = one E z.0.4.1.1.1.0 ((lawful E 𝓛).typed x z.0.4.1.1.1.0 are.1.1.1.0) in let v = stored.0 in let good = stored.2 in
    qed 𝓛 (((‵ (flft κs.0 qs.0) ⊛ ‵ (flft κs.1.0 qs.1.0) ⊛ ‵ ftrue) ⊛ ‵ (owns (types_at En.signature.params κs) a z.0.4)) ∷ (raw (fact 𝓤 (κs.1.0 ⊑ X.lives)) ⊛ raw (fact 𝓤 Asked)) ∷ []) ∵
    move ! (1 ∷ []) $ split ! $ drop ! $ heard ! Asked (λ asked.
    let within = asked.1 in let s = type_size (R E) in
    let e0 = are.0.0 in let e1 = start_told E start z.0.4.1.0 are.1.0 in let e2 = are.1.1.0.0 in let fits = are.1.1.0.1 in
    split ! $ split ! $ move ! (2 ∷ []) $ fsplit ! $ fsplit3 ! $ move ! (3 ∷ []) $ fsplit ! $ move ! (1 ∷ []) $ fsplit ! $ move ! (1 ∷ []) $ fsplit ! $ keep ! (5 ∷ 6 ∷ 7 ∷ 8 ∷ 0 ∷ []) $
    -- [two parts of self; the token; the other token; what the value owns]
    rewrite ! 4 (λ (us : List Val). ‵ ((R E).own_val x us)) stored.1 refl $
    regoal ! (λ (us : List Val). prop (WpFn 𝓤 H T.C T.Λ fn us Post)) (λ i. e0 i ++ (e1 i ++ (e2 i ++ (stored.1 i ++ [])))) refl $
    enter ! T.C T.Λ fn (vptr rb ro ∷ word start.address ∷ vint w64 index ∷ v ∷ []) Post $
    alloc_all ! (λ l. pass_all ! refl ((tt, tt), (word-Good [] start.address, ((tt, record { fits = fits }), (good, tt)))) $ let Ev = env fn.locals l in
    opens ! tt (Pl E) {h = d} rb ro (λ vs. move ! (1 ∷ []) $ fsplit ! $ move ! (1 ∷ []) $
    in_a_block ! d.start (λ p. owns_places (R E) p d.values) (id⊢ 𝓤 _) (λ b o at. fsplit ! $ flt_l ! (λ few.
    let close = near index (length d.values) s within few in let p = index * s + o in
    take_at ! 2 $ rewrite ! 0 (λ (p : Ptr). ‵ (fat full_share (layout (St E)) (l 2) 0 (word p))) (asked.0 ∙ at) refl $ give_at ! 2 $
    first ! $ blocks ! $
    sets ! (bin ! (get ! refl) (size_lit ! (record { fits = close.0 })) (record { fits = close.1 })) refl (tt, record { fits = close.1 }) $
    sets ! (bin ! (get_in ! (fld ! refl (stop !)) (sub ! 0 refl (whole !))) (get ! refl) tt) refl (tt, tt) $
    use1 𝓛 (‵ (owns_place (R E) b p (get_or d.values index None)) ⊛ ‵ (Others E 𝓛 b d.values index o)) (place_out E 𝓛 b d.values index o p refl within) $ split ! $
    rewrite ! 0 (λ (v : Option (el_x E)). ‵ (owns_place (R E) b p v)) asked.2 refl $ as_written ! (elτ E) b p $
    -- [the room; the other places; the fields of self; their cell; the open borrow; the other token; what the value owns]
    sets ! (of_opd ! (get ! refl)) refl good $ assigns_last ! (of_opd ! (get ! refl)) (through ! refl (stop !)) (init ! 0 refl good) $
    exec ! T.C T.Λ Ev (after 1 fn.body) (at_ret Ev Post) $ sets ! (of_opd ! (unit_lit !)) refl (tt, tt) $
    move ! (0 ∷ 8 ∷ []) $ use2 𝓛 (‵ (owns_place (R E) b p (Some x))) (part_in 𝓛 (R E) refl full_share x b p v) $
    use2 𝓛 (‵ (owns_row (R E) b o new.values)) (place_in E 𝓛 b d.values index o p refl within (Some x)) $
    flt_i ! (length new.values * s) (2 ^ 63) (subst (λ k. k * s < 2 ^ 63) (sym (length-set d.values index (Some x))) few) $ fjoin ! $
    rewrite ! 0 (λ (p : Ptr). ‵ (owns_places (R E) p new.values)) (sym at) refl $
    move ! (1 ∷ 0 ∷ []) $ fjoin ! $ move ! (1 ∷ 0 ∷ []) $ closes ! tt (Pl E) new vs rb ro $
    returns ! (look_at ! 0 refl) $ free_all ! refl $
    feq_i ! (List Val) z.0.4.0 (vptr rb ro ∷ []) e0 $ fjoin3 ! $
    nothing ! $ nothing ! $ fjoin ! $ nothing ! $ fjoin ! $ nothing ! $ fjoin ! $ move ! (1 ∷ 0 ∷ []) $ fjoin ! $ move ! (1 ∷ 2 ∷ []) $ join ! $
    feq_i ! (List Val) (vunit ∷ []) (vunit ∷ []) refl $ says_one ! (refl, refl) $ move ! (2 ∷ 3 ∷ 1 ∷ []) $
    by ! (leaves 𝓛 En hs c z vunit tt (new, (tt, (tt, (tt, tt)))) (tt, (tt, (tt, (tt, tt)))))))))))
