-- The entries that an iterator has left, before and after it gives one.
use Rattle.std.proofs.Common.{◌≡◌, ℕ, zero, suc, ◌+◌, List, [], ◌∷◌, length, Option, Some, None, IsSome, refl, sym, ap, subst, ◌∙◌, arith}
use Rattle.std.specs.List.{cons_option, filter_map}
use Rattle.std.specs.Option.{option_and_then, option_map}
use Rattle.hx_pool.specs.declared.links.Links.{Links}
use Rattle.hx_pool.specs.Pool.{IsLive, get}
use Rattle.hx_pool.specs.Chain.{AreLinked, first_or, links_at, numbers_from}
use Rattle.hx_versions.specs.declared.stored_entry.StoredEntry.{StoredEntry}
use Rattle.hx_versions.specs.StoredEntries.{entry_links, stored_entry}
use Rattle.hx_versions.specs.Contents.{EntryPool, entry_in}
use Rattle.hx_versions.specs.RestEntries.{IsRest, rest_entries}
use Rattle.hx_versions.proofs.IndexListLemmas.{some_same}

-- the first slot of those that are left, and the others
pub record StartsAt (e : EntryPool) (slot left : ℕ) : Type 0 where
  pub prev : Option ℕ
  pub rest : List ℕ
  pub links : links_at entry_links e slot
      ≡ Some (record { prev = prev; next = first_or rest None })
  pub linked : AreLinked (links_at entry_links e) (Some slot) rest None
  pub count : left ≡ length rest + 1

starts : (e : EntryPool) (slot left : ℕ) (prev : Option ℕ) (slots : List ℕ) → AreLinked (links_at entry_links e) prev slots None → Some slot ≡ first_or slots None → left ≡ length slots → StartsAt e slot left
starts e slot left prev [] linked first count = absurd (cc)
starts e slot left prev (x ∷ rest) linked first count =
    let same : x ≡ slot = cc in
    record {
      prev = prev;
      rest = rest;
      links = ap (links_at entry_links e) (sym same) ∙ linked.0;
      linked = subst (λ k. AreLinked (links_at entry_links e) (Some k) rest None) same linked.1;
      count = omega (arith, count);
    }

pub rest_starts : (e : EntryPool) (next : Option ℕ) (left slot : ℕ) → IsRest e next left → next ≡ Some slot → StartsAt e slot left
rest_starts e next left slot h is =
    starts e slot left h.before h.slots h.linked (sym is ∙ h.first) h.count

live_by_links : (o : Option StoredEntry) (links : Links) → option_map entry_links o ≡ Some links → IsSome o
live_by_links None links e = absurd (cc)
live_by_links (Some s) links e = refl

module _ (e : EntryPool) (slot left : ℕ) (a : StartsAt e slot left) where
  pub start_live : IsLive e slot
  start_live =
      live_by_links (get e slot) (record { prev = a.prev; next = first_or a.rest None }) a.links

  module _ (stored : StoredEntry) (is : get e slot ≡ Some stored) where
    next_is : stored.links.next ≡ first_or a.rest None
    next_is =
        ap (λ (x : Links). x.next) (some_same stored.links (record { prev = a.prev; next = first_or a.rest None }) (sym (ap (option_map entry_links) is) ∙ a.links))

    -- the others are left then
    pub rest_after : (left' : ℕ) → left' + 1 ≡ left → IsRest e stored.links.next left'
    rest_after left' fewer = record {
      slots = a.rest;
      before = Some slot;
      linked = a.linked;
      first = next_is;
      count = omega (arith, fewer, a.count);
    }

    pub entries_after : (left' : ℕ) → left' + 1 ≡ left → rest_entries e (Some slot) left ≡ stored_entry stored ∷ rest_entries e stored.links.next left'
    entries_after left' fewer =
        let many : left ≡ suc left' = omega (arith, fewer) in
        ap (rest_entries e (Some slot)) many
        ∙ ap (λ (o : Option StoredEntry). cons_option (option_map stored_entry o) (filter_map (entry_in e) (numbers_from (links_at entry_links e) left' (option_and_then (λ (x : Links). x.next) (option_map entry_links o))))) is

-- where no slot is next, none is left
pub rest_none : (e : EntryPool) (left : ℕ) → rest_entries e None left ≡ []
rest_none e zero = refl
rest_none e (suc left) = refl
