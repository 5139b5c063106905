-- The first of the versions that wait is taken apart, or taken out.
use Rattle.std.proofs.Common.{◌≡◌, ◌≢◌, ℕ, ◌+◌, List, [], ◌∷◌, map, Option, Some, None, All, refl, sym, ap, subst, ◌∙◌, inl, inr, arith}
use Rattle.std.specs.Option.{option_map}
use Rattle.std.specs.List.{sum_by}
use Rattle.std.proofs.lemmas.Bool.{cases_eq}
use Rattle.std.proofs.lemmas.List.Elements.{All-cons, All-head, All-tail, All-weaker}
use Rattle.std.proofs.lemmas.List.Sums.{sum_by-cons}
use Rattle.hx_pool.specs.declared.chain.Chain.{Chain}
use Rattle.hx_pool.specs.Pool.{Updates, get}
use Rattle.hx_pool.specs.Chain.{IsIn, IsSameSlot, LiesIn, Relinked, first_or, links_at}
use Rattle.hx_pool.proofs.ListLemmas.{lies_linked}
use Rattle.hx_pool.proofs.LyingLemmas.{lies_updated}
use Rattle.hx_versions.specs.declared.content.Content.{Content}
use Rattle.hx_versions.specs.declared.pools.Pools.{Pools}
use Rattle.hx_versions.specs.declared.stored_version.Owner.{Owner}
use Rattle.hx_versions.specs.declared.stored_version.Owner.TheVariants.{Retired}
use Rattle.hx_versions.specs.declared.stored_version.StoredVersion.{StoredVersion}
use Rattle.hx_versions.specs.StoredVersions.{IsSameStoredVersion, version_links}
use Rattle.hx_versions.specs.Contents.{IsRetired, LeavesOthers, Remains, remaining_slots}
use Rattle.hx_versions.specs.Store.{AreRetired, HasRemains, HasRetired, KeepsVersions, RetiredVersion, VersionPool, retired_slots_of, waiting_slots}
use Rattle.hx_versions.proofs.ContentLemmas.{keeps_other, retired_frame}
use Rattle.hx_versions.proofs.MovingLemmas.{waiting_same}
use Rattle.hx_versions.proofs.PartLemmas.{none_has, number_at}

pub waiting_cons : (v : RetiredVersion) (rest : List RetiredVersion) → waiting_slots (v ∷ rest) ≡ 1 + remaining_slots v.left + waiting_slots rest
waiting_cons v rest = sum_by-cons (λ (w : RetiredVersion). 1 + remaining_slots w.left) v rest

module _ (p q : Pools) (chain : Chain) (v : RetiredVersion) (rest : List RetiredVersion) (h : AreRetired p chain (v ∷ rest)) (leaves : LeavesOthers v.slot p.entries q.entries p.nodes q.nodes) where
  off_rest : All (λ (w : RetiredVersion). w.slot ≢ v.slot) rest
  off_rest = none_has (λ (w : RetiredVersion). w.slot) rest v.slot h.lies.distinct.0

  rest_remains : All (HasRemains q) rest
  rest_remains =
      let both : All (λ w. HasRemains p w × (w.slot ≢ v.slot)) rest = λ i d below. (All-tail (HasRemains p) v rest h.contents i d below, off_rest i d below) in
      All-weaker (λ w. HasRemains p w × (w.slot ≢ v.slot)) (HasRemains q)
      (λ w has. retired_frame w.slot p.entries q.entries p.nodes q.nodes (keeps_other v.slot w.slot p.entries q.entries p.nodes q.nodes leaves has.1) w.content w.left has.0) rest both

  rest_found : ((k : ℕ) → k ≢ v.slot → IsSameSlot IsSameStoredVersion (get p.versions k) (get q.versions k)) → All (HasRetired q.versions) rest
  rest_found linked =
      let both : All (λ w. HasRetired p.versions w × (w.slot ≢ v.slot)) rest = λ i d below. (All-tail (HasRetired p.versions) v rest h.found i d below, off_rest i d below) in
      All-weaker (λ w. HasRetired p.versions w × (w.slot ≢ v.slot)) (HasRetired q.versions)
      (λ w has. waiting_same p.versions q.versions w (linked w.slot has.1) has.0) rest both

  -- the others wait without it
  pub wait_without : (chain' : Chain) → LiesIn version_links q.versions chain' (retired_slots_of rest) → ((k : ℕ) → k ≢ v.slot → IsSameSlot IsSameStoredVersion (get p.versions k) (get q.versions k)) → AreRetired q chain' rest
  wait_without chain' lies linked = record { lies = lies; found = rest_found linked; contents = rest_remains }

  -- versions with an owner are as before
  pub owned_kept : ((k : ℕ) → (IsIn k (v.slot ∷ retired_slots_of rest) → ⊥) → get q.versions k ≡ get p.versions k) → (owner : Owner) → owner ≢ Retired → KeepsVersions owner p q
  owned_kept same owner differs =
      let off : (k : ℕ) (s : StoredVersion) → get p.versions k ≡ Some s → s.owner ≡ owner → IsIn k (v.slot ∷ retired_slots_of rest) → ⊥ = λ k s at own there.
      let b = number_at (λ (w : RetiredVersion). w.slot) (HasRetired p.versions) (v ∷ rest) k h.found there in
      let one : Some s ≡ Some b.2.stored = sym at ∙ ap (get p.versions) b.1 ∙ b.2.is in
      let e : s ≡ b.2.stored = cc in
      differs (sym own ∙ ap (λ (x : StoredVersion). x.owner) e ∙ b.2.owner_is) in
      record {
        versions = λ k s at own. same k (off k s at own) ∙ at;
        contents = λ k s at own. keeps_other v.slot k p.entries q.entries p.nodes q.nodes leaves (λ e. off k s at own (inl e));
      }

  module _ (s s' : StoredVersion) (is : get p.versions v.slot ≡ Some s) (updates : Updates p.versions q.versions v.slot (Some s')) (links : s'.links ≡ s.links) where
    links_kept : (k : ℕ) → links_at version_links q.versions k ≡ links_at version_links p.versions k
    links_kept k = elim (cases_eq k v.slot) as (λ _. links_at version_links q.versions k ≡ links_at version_links p.versions k) [
      | inl e ↦
          ap (links_at version_links q.versions) e ∙ ap (option_map version_links) updates.changed
          ∙ ap Some links ∙ ap (option_map version_links) (sym is) ∙ ap (links_at version_links p.versions) (sym e)
      | inr differs ↦ ap (option_map version_links) (updates.others k differs)
    ]

    same_but : (w : RetiredVersion) → HasRetired p.versions w → w.slot ≢ v.slot → HasRetired q.versions w
    same_but w has differs = record {
      stored = has.stored;
      is = updates.others w.slot differs ∙ has.is;
      owner_is = has.owner_is;
      content_is = has.content_is;
    }

    -- it waits with what is left of it
    pub wait_changed : (content : Content) (now : Remains) → s'.owner ≡ Retired → s'.content ≡ content → HasRemains q (record { slot = v.slot; content = content; left = now }) → AreRetired q chain (record { slot = v.slot; content = content; left = now } ∷ rest)
    wait_changed content now owner_is content_is remains =
        let w : RetiredVersion = record { slot = v.slot; content = content; left = now } in
        let here : HasRetired q.versions w = record { stored = s'; is = updates.changed; owner_is = owner_is; content_is = content_is } in
        let both : All (λ x. HasRetired p.versions x × (x.slot ≢ v.slot)) rest = λ i d below. (All-tail (HasRetired p.versions) v rest h.found i d below, off_rest i d below) in
        record {
          lies = lies_linked version_links p.versions q.versions chain (v.slot ∷ retired_slots_of rest) h.lies (λ k there. links_kept k);
          found = All-cons (HasRetired q.versions) w rest here (All-weaker (λ x. HasRetired p.versions x × (x.slot ≢ v.slot)) (HasRetired q.versions) (λ x has. same_but x has.0 has.1) rest both);
          contents = All-cons (HasRemains q) w rest remains rest_remains;
        }

-- ---- the version that waits longest

pub record FirstWaiting (p : Pools) (gone : List RetiredVersion) (slot : ℕ) : Type 0 where
  pub version : RetiredVersion
  pub rest : List RetiredVersion
  pub is : gone ≡ version ∷ rest
  pub here : version.slot ≡ slot
  pub stored : StoredVersion
  pub there : get p.versions slot ≡ Some stored
  pub owner_is : stored.owner ≡ Retired
  pub content_is : stored.content ≡ version.content
  pub remains : IsRetired p.entries p.nodes slot version.content version.left

first_split : (gone : List RetiredVersion) (slot : ℕ) → Some slot ≡ first_or (retired_slots_of gone) None → (v : RetiredVersion) × (rest : List RetiredVersion) × (gone ≡ v ∷ rest) × (v.slot ≡ slot)
first_split [] slot e = absurd (cc)
first_split (v ∷ rest) slot e = let same : v.slot ≡ slot = cc in (v, rest, refl, same)

pub first_waiting : (p : Pools) (chain : Chain) (gone : List RetiredVersion) (slot : ℕ) → AreRetired p chain gone → Some slot ≡ first_or (retired_slots_of gone) None → FirstWaiting p gone slot
first_waiting p chain gone slot h e =
    let s = first_split gone slot e in
    let has = All-head (HasRetired p.versions) s.0 s.1 (subst (All (HasRetired p.versions)) s.2 h.found) in
    let left = All-head (HasRemains p) s.0 s.1 (subst (All (HasRemains p)) s.2 h.contents) in
    record {
      version = s.0;
      rest = s.1;
      is = s.2;
      here = s.3;
      stored = has.stored;
      there = ap (get p.versions) (sym s.3) ∙ has.is;
      owner_is = has.owner_is;
      content_is = has.content_is;
      remains = subst (λ k. IsRetired p.entries p.nodes k s.0.content s.0.left) s.3 left;
    }

pub none_waiting : (gone : List RetiredVersion) → None ≡ first_or (retired_slots_of gone) None → gone ≡ []
none_waiting [] e = refl
none_waiting (v ∷ gone) e = absurd (cc)

pub updates_on : (a b c : VersionPool) (slot : ℕ) (x y : Option StoredVersion) → Updates a b slot x → Updates b c slot y → Updates a c slot y
updates_on a b c slot x y first later = record { changed = later.changed; others = λ k differs. later.others k differs ∙ first.others k differs }

module _ (p q : Pools) (chain : Chain) (gone : List RetiredVersion) (slot : ℕ) (f : FirstWaiting p gone slot) (h : AreRetired p chain gone) (leaves : LeavesOthers slot p.entries q.entries p.nodes q.nodes) where
  whole : AreRetired p chain (f.version ∷ f.rest)
  whole = subst (AreRetired p chain) f.is h

  leaves_it : LeavesOthers f.version.slot p.entries q.entries p.nodes q.nodes
  leaves_it = subst (λ k. LeavesOthers k p.entries q.entries p.nodes q.nodes) (sym f.here) leaves

  gone_counted : waiting_slots gone ≡ 1 + remaining_slots f.version.left + waiting_slots f.rest
  gone_counted = ap waiting_slots f.is ∙ waiting_cons f.version f.rest

  -- some of its slots are given back
  pub first_changed : (s' : StoredVersion) (content : Content) (now : Remains) (given : ℕ) → Updates p.versions q.versions slot (Some s') → s'.links ≡ f.stored.links → s'.owner ≡ Retired → s'.content ≡ content → IsRetired q.entries q.nodes slot content now → remaining_slots now + given ≡ remaining_slots f.version.left → (left : List RetiredVersion) × AreRetired q chain left × (waiting_slots left + given ≡ waiting_slots gone)
  first_changed s' content now given updates links owner_is content_is remains counted =
      let w : RetiredVersion = record { slot = f.version.slot; content = content; left = now } in
      let there = ap (get p.versions) f.here ∙ f.there in
      let step = subst (λ k. Updates p.versions q.versions k (Some s')) (sym f.here) updates in
      let left : HasRemains q w = subst (λ k. IsRetired q.entries q.nodes k content now) (sym f.here) remains in (
        w ∷ f.rest,
        wait_changed p q chain f.version f.rest whole leaves_it f.stored s' there step links content now owner_is content_is left,
        omega (arith, gone_counted, waiting_cons w f.rest, counted),
      )

  -- all of them are, its own at last
  pub first_out : (chain' : Chain) (given : ℕ) → LiesIn version_links q.versions chain' (retired_slots_of f.rest) → ((k : ℕ) → k ≢ slot → IsSameSlot IsSameStoredVersion (get p.versions k) (get q.versions k)) → given ≡ remaining_slots f.version.left → (left : List RetiredVersion) × AreRetired q chain' left × (waiting_slots left + (given + 1) ≡ waiting_slots gone)
  first_out chain' given lies linked counted = (
    f.rest,
    wait_without p q chain f.version f.rest whole leaves_it chain' lies (λ k differs. linked k (λ e. differs (e ∙ sym f.here))),
    omega (arith, gone_counted, counted),
  )

  pub first_keeps : ((k : ℕ) → (IsIn k (slot ∷ retired_slots_of f.rest) → ⊥) → get q.versions k ≡ get p.versions k) → (owner : Owner) → owner ≢ Retired → KeepsVersions owner p q
  first_keeps same owner differs =
      owned_kept p q chain f.version f.rest whole leaves_it
      (λ k off. same k (λ there. off (subst (λ s. IsIn k (s ∷ retired_slots_of f.rest)) (sym f.here) there))) owner differs

-- ---- the steps by which its slot is given back

module _ (p : Pools) (p1 : VersionPool) (chain : Chain) (gone : List RetiredVersion) (slot : ℕ) (f : FirstWaiting p gone slot) (h : AreRetired p chain gone) (s1 : StoredVersion) (taken : Updates p.versions p1 slot (Some s1)) where
  lies_first : LiesIn version_links p.versions chain (slot ∷ retired_slots_of f.rest)
  lies_first =
      subst (λ k. LiesIn version_links p.versions chain (k ∷ retired_slots_of f.rest)) f.here
      (subst (λ xs. LiesIn version_links p.versions chain (retired_slots_of xs)) f.is h.lies)

  -- the content is taken out of it
  pub first_lies : s1.links ≡ f.stored.links → LiesIn version_links p1 chain (slot ∷ retired_slots_of f.rest)
  first_lies links =
      lies_linked version_links p.versions p1 chain (slot ∷ retired_slots_of f.rest) lies_first (λ k there.
      elim (cases_eq k slot) as (λ _. links_at version_links p1 k ≡ links_at version_links p.versions k) [
        | inl e ↦
            ap (links_at version_links p1) e ∙ ap (option_map version_links) taken.changed
            ∙ ap Some links ∙ ap (option_map version_links) (sym f.there) ∙ ap (links_at version_links p.versions) (sym e)
        | inr differs ↦ ap (option_map version_links) (taken.others k differs)
      ])

  -- it is taken out of the chain, and its slot is given back
  pub first_given : (p2 p3 : VersionPool) (chain2 : Chain) → LiesIn version_links p2 chain2 (retired_slots_of f.rest) → Relinked IsSameStoredVersion p1 p2 → Updates p2 p3 slot None → LiesIn version_links p3 chain2 (retired_slots_of f.rest) × ((k : ℕ) → k ≢ slot → IsSameSlot IsSameStoredVersion (get p.versions k) (get p3 k))
  first_given p2 p3 chain2 lies relinked given = (
    lies_updated version_links p2 p3 chain2 (retired_slots_of f.rest) slot None lies lies_first.distinct.0 given,
    λ k differs.
        subst (λ o. IsSameSlot IsSameStoredVersion o (get p3 k)) (taken.others k differs)
        (subst (IsSameSlot IsSameStoredVersion (get p1 k)) (sym (given.others k differs)) (relinked.values k)),
  )
