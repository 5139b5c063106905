use Rattle.std.proofs.Common.{◌≡◌, ℕ, List, map, ap, arith, length, refl, [], ◌∷◌, ◌++◌}
use Rattle.std.proofs.lemmas.List.{length-map, map-append}
use Rattle.hx_sample.specs.Tables.{TableHead}
use Rattle.hx_refs.specs.Kept.{table_heads, PlacedHead}
use Rattle.hx_refs.proofs.KeptLemmas.{content_of, found_within, known_head, known_heads, no_use, none_added, shown_same}
use Rattle.hx_refs.proofs.PlacedHeadLemmas.{searchable_after_use}
use Rattle.hx_refs.proofs.refs.Refs.add_use.Goals as goal

pub returns-in-Some-clause-head : goal.returns-in-Some-clause-head
returns-in-Some-clause-head c =
    let kept = c.self.inside.kept.kept in
    let within = rw (length-map kept (λ k. k.shown)) at (rw (← c.self.view_is) at c.requires.r) in
    let found = found_within kept c.args.r within in
    rw (← c.self.view_is)
    (known_head (table_heads c.self.inside.heads.items) kept c.args.r found.0 c.args.by c.args.ci c.in-Some.head c.self.invariant.all found.1
    (c.in-Some.ensures found.0 found.1))

pub returns-in-Some-clause-ok : goal.returns-in-Some-clause-ok
returns-in-Some-clause-ok c =
    let kept = c.self.inside.kept.kept in
    let within = rw (length-map kept (λ k. k.shown)) at (rw (← c.self.view_is) at c.requires.r) in
    let found = found_within kept c.args.r within in
    rw (← c.self.view_is)
    (known_heads c.self.inside.limits c.self.inside.first (table_heads c.self.inside.heads.items) kept c.args.r found.0 c.args.by c.args.ci c.in-Some.head c.self.invariant.all found.1
    (c.in-Some.ensures found.0 found.1))

pub push_use-requires-clause-empty : goal.push_use-requires-clause-empty
push_use-requires-clause-empty c k is =
    let none = rw (← c.self.view_is) at c.requires.none in
    none_added c.self.inside.kept.kept c.args.r k is none

-- the head that is added is the number of heads before
same_head : {A B : Type 0} → (f : A → B) (xs : List A) (head : ℕ) → head ≡ length xs → head ≡ length (map f xs)
same_head f xs head is = rw (length-map xs f) is

pub invariant_of-self-2 : goal.invariant_of-self-2
invariant_of-self-2 c =
    let heads = c.self.inside.heads.items in
    let kept = c.self.inside.kept.kept in
    let within = rw (length-map kept (λ k. k.shown)) at (rw (← c.self.view_is) at c.requires.r) in
    let found = found_within kept c.args.r within in
    let len : c.in-Ok.head ≡ length heads =
    omega (arith, c.in-Ok.ensures, c.len.ensures, c.self.inside.heads.ok.0) in
    rw (c.in-Ok-push.ensures.items, c.reserve.ensures.items, c.in_ok-push_use.ensures.ok found.0 found.1, c.use_count.ensures found.0 found.1, len)
    (searchable_after_use heads kept c.args.r found.0 _ c.args.by c.args.ci found.1 refl refl c.self.invariant)

pub returns-clause-head : goal.returns-clause-head
returns-clause-head c =
    let heads = table_heads c.self.inside.heads.items in
    let kept = c.self.inside.kept.kept in
    let within = rw (length-map kept (λ k. k.shown)) at (rw (← c.self.view_is) at c.requires.r) in
    let found = found_within kept c.args.r within in
    let len : c.in-Ok.head ≡ length heads =
    same_head (λ (known : PlacedHead). known.head) c.self.inside.heads.items c.in-Ok.head
    (omega (arith, c.in-Ok.ensures, c.len.ensures, c.self.inside.heads.ok.0)) in
    rw (← c.self.view_is)
    (rw (no_use heads kept c.args.r found.0 c.args.by c.args.ci c.self.invariant.all found.1 (c.in_default.ensures found.0 found.1))
    len)

pub returns-clause-ok : goal.returns-clause-ok
returns-clause-ok c =
    let heads = table_heads c.self.inside.heads.items in
    let kept = c.self.inside.kept.kept in
    let within = rw (length-map kept (λ k. k.shown)) at (rw (← c.self.view_is) at c.requires.r) in
    let found = found_within kept c.args.r within in
    let head : TableHead = record { by = c.args.by; ci = c.args.ci; list = c.args.r } in
    let last : PlacedHead = record { head = head; place = length found.0.uses } in
    rw (← c.self.view_is)
    (rw (no_use heads kept c.args.r found.0 c.args.by c.args.ci c.self.invariant.all found.1 (c.in_default.ensures found.0 found.1), c.in-Ok-push.ensures.items, c.reserve.ensures.items, c.use_count.ensures found.0 found.1, c.in_ok-push_use.ensures.ok found.0 found.1, shown_same kept c.args.r found.0 (record found.0 { uses = found.0.uses ++ record { by = c.args.by; ci = c.args.ci; head = c.in-Ok.head } ∷ [] }) found.1 refl)
    (ap (λ (hs : List TableHead). content_of c.self.inside.limits c.self.inside.first hs kept)
    (map-append (λ (known : PlacedHead). known.head) c.self.inside.heads.items (last ∷ []))))

pub head_with-requires : goal.head_with-requires
head_with-requires c = rw (length-map c.self.inside.kept.kept (λ k. k.shown)) at (rw (← c.self.view_is) at c.requires.r)

pub push_use-requires-clause-r : goal.push_use-requires-clause-r
push_use-requires-clause-r c = rw (length-map c.self.inside.kept.kept (λ k. k.shown)) at (rw (← c.self.view_is) at c.requires.r)
