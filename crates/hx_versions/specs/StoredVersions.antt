-- What a version in a slot of memory is.
use Rattle.std.specs.Prelude.{◌≡◌, refl}
use mathlib.Core.Path.{sym, ap, ◌∙◌}
use Rattle.hx_pool.specs.declared.links.Links.{Links}
use Rattle.hx_versions.specs.declared.stored_version.StoredVersion.{StoredVersion}

abbrev pub version_links : StoredVersion → Links
version_links stored = stored.links

-- two versions in slots that are equal but for their links
abbrev pub IsSameStoredVersion : StoredVersion → StoredVersion → Type 0
IsSameStoredVersion a b = b ≡ record a { links = b.links }

pub same_version_self : (a : StoredVersion) → IsSameStoredVersion a a
same_version_self a = refl

pub same_version_back : (a b : StoredVersion) → IsSameStoredVersion a b → IsSameStoredVersion b a
same_version_back a b e = sym (ap (λ (x : StoredVersion). record x { links = a.links }) e)

pub same_version_on : (a b c : StoredVersion) → IsSameStoredVersion a b → IsSameStoredVersion b c
    → IsSameStoredVersion a c
same_version_on a b c e f = f ∙ ap (λ (x : StoredVersion). record x { links = c.links }) e
