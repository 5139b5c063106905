-- Keys that are the patterns of an ACL, and entries of tables that have them.
use Rattle.std.proofs.Common.{◌≡◌, ◌||◌, Bool, true, false, ℕ, List, [], ◌∷◌, Option, None, Some, refl, ap, sym, ◌∙◌, is_some, map}
use Rattle.std.specs.Prelude.{◌↔◌, slice_get, option_and_then}
use Rattle.std.specs.List.{list_any}
use Rattle.std.specs.Option.{option_map_or}
use Rattle.hx_ast.specs.declared.fetch.Fetch.{Fetch}
use Rattle.hx_fetch.specs.Fetches.{occurrences_of}
use Rattle.hx_fetch.specs.World.{Context}
use Rattle.hx_sample.specs.Cast.{cast_of}
use Rattle.hx_sample.specs.Find.{Entry, found_entry}
use Rattle.hx_sample.specs.Keys.{hits, kind_by}
use Rattle.hx_sample.specs.Tables.{TableHead, entries_at}
use Rattle.hx_sample.specs.declared.sample.Value.{Value}
use Rattle.hx_sample.specs.declared.sample.Value.TheVariants as value
use Rattle.hx_text.specs.declared.kinds.By.{By}
use Rattle.hx_text.specs.declared.kinds.By.TheVariants as method
use Rattle.hx_acl.specs.Matching.{accepts, finds_entry, occurrence_matches, test_matches}
use Rattle.hx_acl.specs.Predefined.{keyed_matches}

-- whether some of the keys hits the value
abbrev some_hits : By → Bool → List (List ℕ) → Value → Bool
some_hits by ci keys v = list_any (λ key. hits by ci key v) keys

-- ---- what a method accepts depends on what is hit alone

accepts_same : (by : By) (f g : Value → Bool) (v : Value) → f v ≡ g v → accepts by f v ≡ accepts by g v
accepts_same method.Found f g v same = refl
accepts_same method.Bool f g (value.Bool b) same = refl
accepts_same method.Bool f g (value.Int n) same = refl
accepts_same method.Bool f g (value.Ip ip) same = refl
accepts_same method.Bool f g (value.Str text) same = refl
accepts_same method.Bool f g (value.Bin bytes) same = refl
accepts_same method.Bool f g (value.Method name) same = refl
accepts_same method.Int f g v same = same
accepts_same method.Ip f g v same = same
accepts_same method.Bin f g v same = same
accepts_same method.Len f g v same = same
accepts_same method.Str f g v same = same
accepts_same method.Beg f g v same = same
accepts_same method.End f g v same = same
accepts_same method.Sub f g v same = same
accepts_same method.Dir f g v same = same
accepts_same method.Dom f g v same = same
accepts_same method.Reg f g v same = same

cast_same : (by : By) (f g : Value → Bool) → ((v : Value) → f v ≡ g v) → (o : Option Value) → option_map_or (accepts by f) o false ≡ option_map_or (accepts by g) o false
cast_same by f g same None = refl
cast_same by f g same (Some v) = accepts_same by f g v (same v)

occurrences_same : (by : By) (f g : Value → Bool) → ((v : Value) → f v ≡ g v) → (values : List (Option Value)) → list_any (occurrence_matches by f) values ≡ list_any (occurrence_matches by g) (map (λ occurrence. occurrence) values)
occurrences_same by f g same [] = refl
occurrences_same by f g same (o ∷ values) =
    ap (λ (b : Bool). b || list_any (occurrence_matches by f) values) (cast_same by f g same (option_and_then (λ v. cast_of v (kind_by by)) o))
    ∙ ap (λ (b : Bool). occurrence_matches by g o || b) (occurrences_same by f g same values)

-- ---- keys and entries

keys_of : (by : By) (ci : Bool) (entries : List Entry) (v : Value) → some_hits by ci (map (λ entry. entry.key) entries) v ≡ list_any (λ entry. hits by ci entry.key v) entries
keys_of by ci [] v = refl
keys_of by ci (entry ∷ entries) v = ap (λ (b : Bool). hits by ci entry.key v || b) (keys_of by ci entries v)

-- something is found exactly where a test passes, if nothing is found exactly where it doesn't
found_is : (o : Option Entry) (b : Bool) → ((o ≡ None) ↔ (b ≡ false)) → b ≡ (is_some o || false)
found_is None b none = none.0 refl
found_is (Some entry) true none = refl
found_is (Some entry) false none = cc (none.1 refl)

-- an entry is found under a head exactly where one of the keys of its list hits
keys_found : (heads : List TableHead) (lists : List (List Entry)) (position : ℕ) (head : TableHead) (v : Value) → slice_get heads position ≡ Some head → ((found_entry head.by head.ci (entries_at lists head.list) v ≡ None) ↔ (list_any (λ entry. hits head.by head.ci entry.key v) (entries_at lists head.list) ≡ false)) → some_hits head.by head.ci (map (λ entry. entry.key) (entries_at lists head.list)) v ≡ finds_entry heads lists (position ∷ []) v
keys_found heads lists position head v at none =
    keys_of head.by head.ci (entries_at lists head.list) v
    ∙ found_is (found_entry head.by head.ci (entries_at lists head.list) v) (list_any (λ entry. hits head.by head.ci entry.key v) (entries_at lists head.list)) none
    ∙ ap (λ (o : Option TableHead). is_some (option_and_then (λ h. found_entry h.by h.ci (entries_at lists h.list) v) o) || false) (sym at)

pub keys_as_declared : (context : Context) (heads : List TableHead) (lists : List (List Entry)) (fetch : Fetch) (position : ℕ) (head : TableHead) (ignores_case : Bool) (words : List (List ℕ)) → slice_get heads position ≡ Some head → ((entries : List Entry) (v : Value) → (found_entry head.by head.ci entries v ≡ None) ↔ (list_any (λ entry. hits head.by head.ci entry.key v) entries ≡ false)) → keyed_matches context (record { fetch = fetch; by = head.by; ci = head.ci; keys = map (λ entry. entry.key) (entries_at lists head.list) }) ≡ test_matches context heads lists (record { expr = record { fetch = fetch; convs = [] }; by = head.by; ci = ignores_case; heads = position ∷ []; words = words })
keys_as_declared context heads lists fetch position head ignores_case words at none =
    occurrences_same head.by (some_hits head.by head.ci (map (λ entry. entry.key) (entries_at lists head.list))) (finds_entry heads lists (position ∷ []))
    (λ v. keys_found heads lists position head v at (none (entries_at lists head.list) v)) (occurrences_of fetch context)
