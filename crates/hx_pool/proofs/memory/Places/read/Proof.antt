-- The value is moved out of its place, which is room from then on.
use Rattle.std.proofs.Common.{◌≡◌, ◌+◌, ◌*◌, ◌^◌, ◌<◌, List, [], ◌∷◌, ◌++◌, refl, sym, ◌∙◌, subst}
use lib.ListN.{length, set, get_or, length-set}
use base.Fraction.{full_share}
use base.Fml.{ftrue, fat, froom, flft}
use base.Logic.{SProp, id⊢}
use contract.BorrowLft.{◌⊑◌}
use contract.Monad.{fact}
use contract.Running.{tables}
use mir.MapTy.{inst_fn}
use mir.Syntax.{Fn, w64}
use mir.Val.{Val, vptr, vint}
use prog.Wp.{WpFn}
use types.ByLocal.{alloc_all, pass_all, free_all, look_at, get, get_in, through, sets, sets_last, take_at, give_at, env}
use types.Kit.{‵, raw, ◌⊛◌, some, given, prop, at_ret, ◌$◌, ◌∵◌, !, qed, by, move, keep, drop, use1, use2, split, join, pick, learn, rewrite, regoal, fsplit, fsplit3, fjoin, fjoin3, feq_i, flt_l, flt_i}
use types.Part.{whole, sub}
use types.Run.{enter, first, blocks, bin, size_lit, stop, fld, of_opd, load, look, exec, returns}
use borrow.Table.OneValue.{part_out}
use denote.Builtin.{usize}
use denote.Exit.{yes, no}
use denote.Param.{layout}
use denote.RattleType.{owns}
use denote.RawPtr.{Ptr, in_a_block}
use denote.Signature.{types_at, plain}
use denote.Steps.{nothing, heard, opens, closes}
use denote.Triple.Walked.{Stays, stay_dropped, stay_ref, walk_of, Goes-dropped, Goes-ref}
use Rattle.std.specs.Prelude.{Option, None}
use Rattle.std.specs.Mem.{type_size}
use Rattle.core.proofs.mem.Param.{El, R, el_x, args, elτ, Good}
use Rattle.std.proofs.raw_atomic.Walks.{proved_at, leaves}
use Rattle.std_alloc.proofs.VecSteps.Shapes.{after}
use Rattle.std_alloc.proofs.RcSteps.{word, word-Good}
use Rattle.std_alloc.proofs.RawLayout.{as_raw}
use Rattle.hx_pool.specs.Memory.{HoldsAt, owns_place, owns_row, owns_places}
use Rattle.hx_pool.proofs.MemoryLemmas.{Pl, St, start_told, near, found_within, Others, place_out, place_in, says_two}
use Rattle.hx_pool.specs.contracts.memory.Places.read.{ended, clauses}
use Rattle.hx_pool.specs.contracts.memory.Places.read.Key.{name}
use Rattle.hx_pool.proofs.memory.Places.read.Statement.{statement}
use Rattle.hx_pool.proofs.memory.Places.read.Code as code

pub read_spec : {M : Type 1} → statement M
read_spec 𝓤 𝓛 𝓜 𝓡 wired X L =
    let E : El = record { row = X; laws = L } in
    let H = 𝓛.H in
    let T = tables 𝓤 H 𝓜 𝓡 𝓡.env in
    let fn : Fn = inst_fn (args E) code.function in
    let En = ended X in
    let c = clauses X 𝓛 𝓜.mem 𝓡.returns in
    let hs : Stays En.signature.params En.kept = (stay_ref (0 ∷ []) tt (plain (λ _. Pl E)), (stay_dropped (plain (λ _. St E)) no, (stay_dropped (plain (λ _. usize)) yes, tt))) in
    proved_at 𝓛 En hs c 𝓜 𝓡
    (Goes-ref 𝓛 2 0 tt (plain (λ _. Pl E)), (Goes-dropped 𝓛 2 (plain (λ _. St E)) no (λ κs x f. refl), (Goes-dropped 𝓛 2 (plain (λ _. usize)) yes (λ κs x f. refl), tt)))
    (name (args E)) fn (code.unfolded 𝓤 H 𝓜 𝓡 wired (X, tt)) (λ z are.
    let Post : Val → SProp 𝓤 = (walk_of 𝓛 En hs c).post z in
    let κs = z.0.0 in let qs = z.0.1 in let a = z.0.3 in
    let d = a.0.now in let rb = a.0.ref_ptr.0 in let ro = a.0.ref_ptr.1 in let start = a.1.0 in let index = a.1.1.0 in
    let Asked : Type 0 = (start.address ≡ d.start) × HoldsAt d.values index in
    let new : (Pl E).Denot = record { mark = d.mark; start = d.start; values = set d.values index None } in
    qed 𝓛 (((‵ (flft κs.0 qs.0) ⊛ ‵ (flft κs.1.0 qs.1.0) ⊛ ‵ ftrue) ⊛ ‵ (owns (types_at En.signature.params κs) a z.0.4)) ∷ (raw (fact 𝓤 (κs.1.0 ⊑ X.lives)) ⊛ raw (fact 𝓤 Asked)) ∷ []) ∵
    move ! (1 ∷ []) $ split ! $ drop ! $ heard ! Asked (λ asked.
    let x = asked.1.0 in let within = found_within d.values index x asked.1.1 in let s = type_size (R E) in
    let e0 = are.0.0 in let e1 = start_told E start z.0.4.1.0 are.1.0 in let e2 = are.1.1.0.0 in let fits = are.1.1.0.1 in
    split ! $ split ! $ move ! (2 ∷ []) $ fsplit ! $ fsplit3 ! $ keep ! (1 ∷ 2 ∷ 4 ∷ 5 ∷ []) $
    -- [two parts of self; the token; the other token]
    regoal ! (λ (us : List Val). prop (WpFn 𝓤 H T.C T.Λ fn us Post)) (λ i. e0 i ++ (e1 i ++ (e2 i ++ []))) refl $
    enter ! T.C T.Λ fn (vptr rb ro ∷ word start.address ∷ vint w64 index ∷ []) Post $
    alloc_all ! (λ l. pass_all ! refl ((tt, tt), (word-Good [] start.address, ((tt, record { fits = fits }), tt))) $ let Ev = env fn.locals l in
    opens ! tt (Pl E) {h = d} rb ro (λ vs. move ! (1 ∷ []) $ fsplit ! $ move ! (1 ∷ []) $
    in_a_block ! d.start (λ p. owns_places (R E) p d.values) (id⊢ 𝓤 _) (λ b o at. fsplit ! $ flt_l ! (λ few.
    let close = near index (length d.values) s within few in let p = index * s + o in
    take_at ! 2 $ rewrite ! 0 (λ (p : Ptr). ‵ (fat full_share (layout (St E)) (l 2) 0 (word p))) (asked.0 ∙ at) refl $ give_at ! 2 $
    first ! $ blocks ! $
    sets ! (bin ! (get ! refl) (size_lit ! (record { fits = close.0 })) (record { fits = close.1 })) refl (tt, record { fits = close.1 }) $
    sets ! (bin ! (get_in ! (fld ! refl (stop !)) (sub ! 0 refl (whole !))) (get ! refl) tt) refl (tt, tt) $
    use1 𝓛 (‵ (owns_place (R E) b p (get_or d.values index None)) ⊛ ‵ (Others E 𝓛 b d.values index o)) (place_out E 𝓛 b d.values index o p refl within) $ split ! $
    rewrite ! 0 (λ (v : Option (el_x E)). ‵ (owns_place (R E) b p v)) asked.1.1 refl $
    use1 𝓛 (some (λ (v : Val). ‵ (fat full_share (elτ E) b p v) ⊛ ‵ (X.own_val x (v ∷ [])))) (part_out 𝓛 (R E) refl full_share x b p) $ pick ! (λ v. split ! $
    use1 𝓛 (given (Good E v) (‵ (fat full_share (elτ E) b p v))) (𝓛.laws.at_wt full_share (elτ E) b p v) $ learn ! (λ good.
    -- [the value's cell; what it owns; the other places; the fields of self; their cell; the open borrow; the other token]
    sets_last ! (of_opd ! (load ! (through ! refl (stop !)) (look ! 0 refl))) refl good $
    exec ! T.C T.Λ Ev (after 1 fn.body) (at_ret Ev Post) $ sets ! (of_opd ! (get ! refl)) refl good $
    use1 𝓛 (‵ (froom (elτ E) b p)) (𝓛.laws.at_room (elτ E) b p v) $ as_raw ! (elτ E) b p $ move ! (0 ∷ 2 ∷ []) $
    use2 𝓛 (‵ (owns_row (R E) b o new.values)) (place_in E 𝓛 b d.values index o p refl within None) $
    flt_i ! (length new.values * s) (2 ^ 63) (subst (λ k. k * s < 2 ^ 63) (sym (length-set d.values index None)) few) $ fjoin ! $
    rewrite ! 0 (λ (p : Ptr). ‵ (owns_places (R E) p new.values)) (sym at) refl $
    move ! (2 ∷ 0 ∷ []) $ fjoin ! $ move ! (2 ∷ 0 ∷ 3 ∷ 4 ∷ 5 ∷ []) $ closes ! tt (Pl E) new vs rb ro $
    returns ! (look_at ! 0 refl) $ free_all ! refl $
    feq_i ! (List Val) z.0.4.0 (vptr rb ro ∷ []) e0 $ fjoin3 ! $
    nothing ! $ nothing ! $ fjoin ! $ nothing ! $ fjoin ! $ move ! (1 ∷ 0 ∷ []) $ fjoin ! $ move ! (1 ∷ 3 ∷ []) $ join ! $
    says_two ! asked.1.1 (refl, refl) $ move ! (1 ∷ 2 ∷ 3 ∷ []) $
    by ! (leaves 𝓛 En hs c z v x (new, (tt, (tt, tt))) (tt, (tt, (tt, tt))))))))))))
