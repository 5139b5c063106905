-- The value is lent, and the places take what is written through the loan.
use Rattle.std.proofs.Common.{◌≡◌, ℕ, ◌+◌, ◌*◌, ◌^◌, ◌<◌, List, [], ◌∷◌, ◌++◌, refl, sym, ◌∙◌, subst}
use lib.ListN.{length, set, get_or, length-set}
use seplogic.Ra.Ura.{Ura}
use types.Logic.{Logic, sem}
use base.Fraction.{full_share}
use base.Fml.{Fml, GName, ftrue, fsep, fat, flft}
use base.Logic.{SProp, ent, sep, id⊢}
use contract.BorrowLft.{◌⊑◌}
use contract.Monad.{fact}
use contract.Running.{tables}
use mir.MapTy.{inst_fn}
use mir.Syntax.{Fn, named, w64}
use mir.Val.{Val, vptr, vint}
use prog.Wp.{WpFn}
use types.ByLocal.{alloc_all, pass_all, free_all, look_at, get, get_in, through, sets, sets_last, take_at, give_at, env}
use types.Kit.{‵, raw, ◌⊛◌, some, later, prop, at_ret, ◌$◌, ◌∵◌, !, qed, by, move, keep, drop, use1, use2, split, split3, join, group, pick, await, rewrite, regoal, fsplit, fsplit3, fjoin, fjoin3, fpack, flt_l, flt_i, done}
use types.Part.{whole, sub}
use types.Run.{enter, first, blocks, bin, size_lit, stop, fld, of_opd, addr, exec, returns}
use denote.Builtin.{usize}
use denote.Exit.{yes, no}
use denote.Param.{layout}
use denote.Follow.{follows, Part, lends_Part}
use denote.Memory.{mem, cell_at, part_of}
use denote.RattleType.{owns}
use denote.Ref.{MutBor, MutRef}
use denote.RawPtr.{Ptr, block_ptr, in_a_block}
use denote.Signature.{types_at, plain, mut_ref_to}
use denote.Steps.{nothing, heard, opens}
use denote.Triple.Walked.{Stays, stay_dropped, walk_of, Goes-dropped, Goes-spent_ref}
use Rattle.std.specs.Prelude.{Option, Some, None}
use Rattle.std.specs.Mem.{type_size}
use Rattle.core.proofs.mem.Param.{El, R, el_x, args}
use Rattle.std.proofs.raw_atomic.Walks.{proved_at, leaves}
use Rattle.std_alloc.proofs.VecSteps.Shapes.{after}
use Rattle.std_alloc.proofs.RcSteps.{word, word-Good}
use Rattle.hx_pool.specs.Memory.{HoldsAt, owns_place, owns_row, owns_places}
use Rattle.hx_pool.proofs.MemoryLemmas.{Pl, St, start_told, near, found_within, Others, place_out, place_in, says_one, Marked}
use Rattle.hx_pool.specs.contracts.memory.Places.get_mut.{ended, clauses}
use Rattle.hx_pool.specs.contracts.memory.Places.get_mut.Key.{name}
use Rattle.hx_pool.proofs.memory.Places.get_mut.Statement.{statement}
use Rattle.hx_pool.proofs.memory.Places.get_mut.Code as code

module _ (E : El) {M : Type 1} {𝓤 : Ura M} (𝓛 : Logic 𝓤) (rb ro : ℕ) (d : (Pl E).Denot) (index : ℕ) where
  abbrev with_value_at : el_x E → (Pl E).Denot
  with_value_at x = record { mark = d.mark; start = d.start; values = set d.values index (Some x) }

  -- all that self has but for the value
  abbrev Kept : List Val → ℕ → ℕ → Fml
  Kept vs b o = fsep (Others E 𝓛 b d.values index o) (fsep ((Marked E).own_val (tt, tt) vs) (cell_at full_share (Pl E).mir vs rb ro))

  -- with any value in the place, self is whole again
  whole_again : (vs : List Val) (b o : ℕ) → d.start ≡ block_ptr b o → index < length d.values → length d.values * type_size (R E) < 2 ^ 63 → (x : el_x E)
      → ent 𝓤 (sep 𝓤 (sem 𝓛 ((mem (R E)).own_at x b (index * type_size (R E) + o))) (sem 𝓛 (Kept vs b o))) (sem 𝓛 ((mem (Pl E)).own_at (with_value_at x) rb ro))
  unfolding part_of
  whole_again vs b o at within few x =
      let new = with_value_at x in let s = type_size (R E) in
      qed 𝓛 (‵ (owns_place (R E) b (index * s + o) (Some x)) ∷ ‵ (Kept vs b o) ∷ []) ∵ move ! (1 ∷ []) $ fsplit3 ! $ move ! (3 ∷ 0 ∷ []) $
      use2 𝓛 (‵ (owns_row (R E) b o new.values)) (place_in E 𝓛 b d.values index o (index * s + o) refl within (Some x)) $
      flt_i ! (length new.values * s) (2 ^ 63) (subst (λ k. k * s < 2 ^ 63) (sym (length-set d.values index (Some x))) few) $ fjoin ! $
      rewrite ! 0 (λ (p : Ptr). ‵ (owns_places (R E) p new.values)) (sym at) refl $ move ! (1 ∷ 0 ∷ []) $ fjoin ! $ move ! (1 ∷ 0 ∷ []) $ fjoin ! $
      fpack ! (List Val) (λ us. fsep (cell_at full_share (Pl E).mir us rb ro) ((Pl E).own_val new us)) vs $ done !

pub get_mut_spec : {M : Type 1} → statement M
get_mut_spec 𝓤 𝓛 𝓜 𝓡 wired X L =
    let E : El = record { row = X; laws = L } in
    let H = 𝓛.H in
    let T = tables 𝓤 H 𝓜 𝓡 𝓡.env in
    let fn : Fn = inst_fn (args E) code.function in
    let En = ended X in
    let c = clauses X 𝓛 𝓜.mem 𝓡.returns in
    let Self = mut_ref_to (0 ∷ []) tt (plain (λ _. Pl E)) in
    let hs : Stays En.signature.params En.kept = (stay_dropped Self no, (stay_dropped (plain (λ _. St E)) no, (stay_dropped (plain (λ _. usize)) yes, tt))) in
    proved_at 𝓛 En hs c 𝓜 𝓡
    (Goes-spent_ref 𝓛 2 (0 ∷ []) tt (plain (λ _. Pl E)), (Goes-dropped 𝓛 2 (plain (λ _. St E)) no (λ κs x f. refl), (Goes-dropped 𝓛 2 (plain (λ _. usize)) yes (λ κs x f. refl), tt)))
    (name (args E)) fn (code.unfolded 𝓤 H 𝓜 𝓡 wired (X, tt)) (λ z are.
    let Post : Val → SProp 𝓤 = (walk_of 𝓛 En hs c).post z in
    let κs = z.0.0 in let qs = z.0.1 in let a = z.0.3 in
    let d = a.0.now in let rb = a.0.ref_ptr.0 in let ro = a.0.ref_ptr.1 in let γ = a.0.ghost_name in let start = a.1.0 in let index = a.1.1.0 in
    let Asked : Type 0 = (start.address ≡ d.start) × HoldsAt d.values index in
    qed 𝓛 (((‵ (flft κs.0 qs.0) ⊛ ‵ (flft κs.1.0 qs.1.0) ⊛ ‵ ftrue) ⊛ ‵ (owns (types_at En.signature.params κs) a z.0.4)) ∷ (raw (fact 𝓤 (κs.1.0 ⊑ X.lives)) ⊛ raw (fact 𝓤 Asked)) ∷ []) ∵
    move ! (1 ∷ []) $ split ! $ drop ! $ heard ! Asked (λ asked.
    let x = asked.1.0 in let within = found_within d.values index x asked.1.1 in let s = type_size (R E) in
    let e0 = are.0.0 in let e1 = start_told E start z.0.4.1.0 are.1.0 in let e2 = are.1.1.0.0 in let fits = are.1.1.0.1 in
    split ! $ split ! $ move ! (2 ∷ []) $ fsplit ! $ fsplit3 ! $ keep ! (1 ∷ 2 ∷ 4 ∷ 5 ∷ []) $
    -- [two parts of self; the token; the other token]
    regoal ! (λ (us : List Val). prop (WpFn 𝓤 H T.C T.Λ fn us Post)) (λ i. e0 i ++ (e1 i ++ (e2 i ++ []))) refl $
    enter ! T.C T.Λ fn (vptr rb ro ∷ word start.address ∷ vint w64 index ∷ []) Post $
    alloc_all ! (λ l. pass_all ! refl ((tt, tt), (word-Good [] start.address, ((tt, record { fits = fits }), tt))) $ let Ev = env fn.locals l in
    opens ! tt (Pl E) {h = d} rb ro (λ vs. move ! (1 ∷ []) $ fsplit ! $ move ! (1 ∷ []) $
    in_a_block ! d.start (λ p. owns_places (R E) p d.values) (id⊢ 𝓤 _) (λ b o at. fsplit ! $ flt_l ! (λ few.
    let close = near index (length d.values) s within few in let p = index * s + o in
    take_at ! 2 $ rewrite ! 0 (λ (p : Ptr). ‵ (fat full_share (layout (St E)) (l 2) 0 (word p))) (asked.0 ∙ at) refl $ give_at ! 2 $
    first ! $ blocks ! $
    sets ! (bin ! (get ! refl) (size_lit ! (record { fits = close.0 })) (record { fits = close.1 })) refl (tt, record { fits = close.1 }) $
    sets ! (bin ! (get_in ! (fld ! refl (stop !)) (sub ! 0 refl (whole !))) (get ! refl) tt) refl (tt, tt) $
    use1 𝓛 (‵ (owns_place (R E) b p (get_or d.values index None)) ⊛ ‵ (Others E 𝓛 b d.values index o)) (place_out E 𝓛 b d.values index o p refl within) $ split ! $
    rewrite ! 0 (λ (v : Option (el_x E)). ‵ (owns_place (R E) b p v)) asked.1.1 refl $
    -- [the value; the other places; the fields of self; their cell; the open borrow; the other token]
    sets_last ! (addr ! (through ! refl (stop !))) refl (tt, tt) $
    exec ! T.C T.Λ Ev (after 1 fn.body) (at_ret Ev Post) $ sets ! (of_opd ! (get ! refl)) refl (tt, tt) $
    let new = with_value_at E 𝓛 rb ro d index in let way = whole_again E 𝓛 rb ro d index vs b o at within few in
    let held = (Pl E).coded.code d in let left = sem 𝓛 (Kept E 𝓛 rb ro d index vs b o) in
    move ! (1 ∷ 2 ∷ 3 ∷ []) $ fjoin3 ! $ move ! (2 ∷ 3 ∷ 4 ∷ 1 ∷ 0 ∷ []) $ group ! 5 $
    use1 𝓛 (later (some (λ (δ : GName). raw (Part 𝓛 (Pl E) (R E) new (named 0) κs.0 qs.0 rb ro b p γ left way x δ))))
    (lends_Part 𝓛 (Pl E) (R E) new (named 0) κs.0 qs.0 rb ro b p γ left way held held x) $ await ! tt $ pick ! (λ δ.
    let r : MutBor (el_x E) = record { ref_ptr = (b, p); ghost_name = δ; now = x } in
    use1 𝓛 (‵ ((MutRef (named 0) κs.0 (R E)).own_val r (vptr b p ∷ [])) ⊛ ‵ (flft κs.0 qs.0) ⊛ ‵ (follows (Pl E) (R E) γ δ new)) (id⊢ 𝓤 _) $ split3 ! $
    returns ! (look_at ! 0 refl) $ free_all ! refl $
    nothing ! $ nothing ! $ fjoin ! $ nothing ! $ fjoin ! $ nothing ! $ fjoin ! $
    -- [self, which is spent; the result; the token; what self follows; the other token]
    move ! (2 ∷ 4 ∷ []) $ join ! $ move ! (3 ∷ []) $ says_one ! asked.1.1 $ move ! (1 ∷ 0 ∷ []) $ join ! $ move ! (1 ∷ 2 ∷ 3 ∷ []) $
    by ! (leaves 𝓛 En hs c z (vptr b p) r (tt, (tt, (tt, tt))) (tt, (tt, (tt, tt)))))))))))
