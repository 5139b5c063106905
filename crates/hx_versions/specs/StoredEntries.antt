-- What an entry in a slot of memory is.
use Rattle.std.specs.Prelude.{◌≡◌, ℕ, List, refl}
use mathlib.Core.Path.{sym, ap, ◌∙◌}
use Rattle.hx_pool.specs.declared.links.Links.{Links}
use Rattle.hx_sample.specs.Find.{Entry}
use Rattle.hx_versions.specs.declared.stored_entry.StoredEntry.{StoredEntry}

-- its number, its key and its value
abbrev pub stored_entry : StoredEntry → Entry
stored_entry stored = record { number = stored.number; key = stored.key; value = stored.value }

-- the numbers of the nodes that keep its key
abbrev pub stored_nodes : StoredEntry → List ℕ
stored_nodes stored = stored.nodes

abbrev pub entry_links : StoredEntry → Links
entry_links stored = stored.links

-- two entries in slots that are equal but for their links
abbrev pub IsSameStoredEntry : StoredEntry → StoredEntry → Type 0
IsSameStoredEntry a b = b ≡ record a { links = b.links }

pub same_entry_self : (a : StoredEntry) → IsSameStoredEntry a a
same_entry_self a = refl

pub same_entry_back : (a b : StoredEntry) → IsSameStoredEntry a b → IsSameStoredEntry b a
same_entry_back a b e = sym (ap (λ (x : StoredEntry). record x { links = a.links }) e)

pub same_entry_on :
    (a b c : StoredEntry) → IsSameStoredEntry a b → IsSameStoredEntry b c → IsSameStoredEntry a c
same_entry_on a b c e f = f ∙ ap (λ (x : StoredEntry). record x { links = c.links }) e
