-- The value is seen through what a `&` to the places has.
use Rattle.std.proofs.Common.{◌≡◌, ◌+◌, ◌*◌, List, [], ◌∷◌, ◌++◌, refl, ◌∙◌}
use lib.ListN.{length, get_or}
use base.Fraction.{full_share}
use base.Fml.{ftrue, fat, flft}
use base.Logic.{SProp, id⊢}
use contract.BorrowLft.{◌⊑◌}
use contract.Monad.{fact}
use contract.Running.{tables}
use mir.MapTy.{inst_fn}
use mir.Syntax.{Fn, w64}
use mir.Val.{Val, vptr, vint}
use prog.Wp.{WpFn}
use types.ByLocal.{alloc_all, pass_all, free_all, look_at, get, get_in, through, sets, sets_last, take_at, give_at, env}
use types.Kit.{‵, raw, ◌⊛◌, prop, at_ret, ◌$◌, ◌∵◌, !, qed, by, move, keep, drop, use1, split, join, rewrite, regoal, fsplit, fjoin, feq_i, flt_l}
use types.Part.{whole, sub}
use types.Run.{enter, first, blocks, bin, size_lit, stop, fld, of_opd, addr, exec, returns}
use denote.Builtin.{usize, RefOf}
use denote.Exit.{yes, no}
use denote.Param.{layout}
use denote.Opens.{hide, unhide}
use denote.RattleType.{owns}
use denote.RawPtr.{Ptr, in_a_block}
use denote.Signature.{types_at, plain}
use denote.Steps.{nothing, heard}
use denote.Triple.Walked.{Stays, stay_dropped, walk_of, Goes-dropped}
use Rattle.std.specs.Prelude.{Option, None}
use Rattle.std.specs.Mem.{type_size}
use Rattle.core.proofs.mem.Param.{El, R, el_x, args}
use Rattle.std.proofs.raw_atomic.Walks.{proved_at, leaves}
use Rattle.std_alloc.proofs.VecSteps.Shapes.{after}
use Rattle.std_alloc.proofs.RcSteps.{word, word-Good}
use Rattle.hx_pool.specs.Memory.{HoldsAt, lends_value_at, lends_places}
use Rattle.hx_pool.proofs.MemoryLemmas.{Pl, St, start_told, near, found_within, value_seen, says_one}
use Rattle.hx_pool.specs.contracts.memory.Places.get.{ended, clauses}
use Rattle.hx_pool.specs.contracts.memory.Places.get.Key.{name}
use Rattle.hx_pool.proofs.memory.Places.get.Statement.{statement}
use Rattle.hx_pool.proofs.memory.Places.get.Code as code

pub get_spec : {M : Type 1} → statement M
get_spec 𝓤 𝓛 𝓜 𝓡 wired X L =
    let E : El = record { row = X; laws = L } in
    let H = 𝓛.H in
    let T = tables 𝓤 H 𝓜 𝓡 𝓡.env in
    let fn : Fn = inst_fn (args E) code.function in
    let En = ended X in
    let c = clauses X 𝓛 𝓜.mem 𝓡.returns in
    let Self = RefOf (0 ∷ []) tt (plain (λ _. Pl E)) (λ _. tt) in
    let hs : Stays En.signature.params En.kept = (stay_dropped Self yes, (stay_dropped (plain (λ _. St E)) no, (stay_dropped (plain (λ _. usize)) yes, tt))) in
    proved_at 𝓛 En hs c 𝓜 𝓡
    (Goes-dropped 𝓛 2 Self yes (λ κs x f. refl), (Goes-dropped 𝓛 2 (plain (λ _. St E)) no (λ κs x f. refl), (Goes-dropped 𝓛 2 (plain (λ _. usize)) yes (λ κs x f. refl), tt)))
    (name (args E)) fn (code.unfolded 𝓤 H 𝓜 𝓡 wired (X, tt)) (λ z are.
    let Post : Val → SProp 𝓤 = (walk_of 𝓛 En hs c).post z in
    let κs = z.0.0 in let qs = z.0.1 in let a = z.0.3 in
    let d = a.0.now in let rb = a.0.ref_ptr.0 in let ro = a.0.ref_ptr.1 in let start = a.1.0 in let index = a.1.1.0 in
    let Asked : Type 0 = (start.address ≡ d.start) × HoldsAt d.values index in
    qed 𝓛 (((‵ (flft κs.0 qs.0) ⊛ ‵ (flft κs.1.0 qs.1.0) ⊛ ‵ ftrue) ⊛ ‵ (owns (types_at En.signature.params κs) a z.0.4)) ∷ (raw (fact 𝓤 (κs.1.0 ⊑ X.lives)) ⊛ raw (fact 𝓤 Asked)) ∷ []) ∵
    move ! (1 ∷ []) $ split ! $ drop ! $ heard ! Asked (λ asked.
    let x = asked.1.0 in let within = found_within d.values index x asked.1.1 in let s = type_size (R E) in
    let e0 = are.0.0 in let e1 = start_told E start z.0.4.1.0 are.1.0 in let e2 = are.1.1.0.0 in let fits = are.1.1.0.1 in
    split ! $ split ! $ move ! (2 ∷ []) $ fsplit ! $ fsplit ! $ keep ! (1 ∷ 3 ∷ 4 ∷ []) $
    -- [what self has; the token; the other token]
    regoal ! (λ (us : List Val). prop (WpFn 𝓤 H T.C T.Λ fn us Post)) (λ i. e0 i ++ (e1 i ++ (e2 i ++ []))) refl $
    enter ! T.C T.Λ fn (vptr rb ro ∷ word start.address ∷ vint w64 index ∷ []) Post $
    alloc_all ! (λ l. pass_all ! refl ((tt, tt), (word-Good [] start.address, ((tt, record { fits = fits }), tt))) $ let Ev = env fn.locals l in
    unhide ! $ fsplit ! $ drop ! $
    in_a_block ! d.start (λ p. lends_places (R E) p d.values κs.0) (id⊢ 𝓤 _) (λ b o at. fsplit ! $ flt_l ! (λ few.
    let close = near index (length d.values) s within few in let p = index * s + o in
    take_at ! 2 $ rewrite ! 0 (λ (p : Ptr). ‵ (fat full_share (layout (St E)) (l 2) 0 (word p))) (asked.0 ∙ at) refl $ give_at ! 2 $
    first ! $ blocks ! $
    sets ! (bin ! (get ! refl) (size_lit ! (record { fits = close.0 })) (record { fits = close.1 })) refl (tt, record { fits = close.1 }) $
    sets ! (bin ! (get_in ! (fld ! refl (stop !)) (sub ! 0 refl (whole !))) (get ! refl) tt) refl (tt, tt) $
    use1 𝓛 (‵ (lends_value_at (R E) b p (get_or d.values index None) κs.0)) (value_seen E 𝓛 b κs.0 d.values index o p refl within) $
    rewrite ! 0 (λ (v : Option (el_x E)). ‵ (lends_value_at (R E) b p v κs.0)) asked.1.1 refl $ hide ! $
    -- [what the result has; the token; the other token]
    sets_last ! (addr ! (through ! refl (stop !))) refl (tt, tt) $
    exec ! T.C T.Λ Ev (after 1 fn.body) (at_ret Ev Post) $ sets ! (of_opd ! (get ! refl)) refl (tt, tt) $
    feq_i ! (List Val) (vptr b p ∷ []) (vptr b p ∷ []) refl $ fjoin ! $
    returns ! (look_at ! 0 refl) $ free_all ! refl $
    nothing ! $ nothing ! $ fjoin ! $ nothing ! $ fjoin ! $ nothing ! $ fjoin ! $ move ! (2 ∷ 3 ∷ []) $ join ! $
    says_one ! asked.1.1 $ move ! (1 ∷ 2 ∷ 3 ∷ []) $
    by ! (leaves 𝓛 En hs c z (vptr b p) (record { ref_ptr = (b, p); now = x }) (tt, (tt, (tt, tt))) (tt, (tt, (tt, tt)))))))))
