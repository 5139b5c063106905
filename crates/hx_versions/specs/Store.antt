-- How the versions of all references lie in slots, those that are kept and those that wait to be
-- given back.
use Rattle.std.specs.Prelude.{◌≡◌, ◌≢◌, ℕ, suc, ◌+◌, ◌-◌, ◌*◌, ◌^◌, ◌≤◌, ◌<◌, Bool, true, false, List, [], ◌∷◌, ◌++◌, length, map, set, slice_get, All, Option, None, Some, option_map, ⊤, ◌⊎◌}
use Rattle.std.specs.List.{filter_map, sum_by}
use Rattle.hx_text.specs.declared.kinds.By.{By}
use Rattle.hx_pool.specs.Pool.{Pool, SameValues, get, live_count}
use Rattle.hx_pool.specs.Chain.{IsIn, IsSameSlot, LiesIn, numbers_in}
use Rattle.hx_pool.specs.declared.chain.Chain.{Chain}
use Rattle.hx_index.specs.declared.index.Index.{Index}
use Rattle.hx_index.specs.Items.{Item}
use Rattle.hx_index.specs.Index.{Holds, NodePool}
use Rattle.hx_sample.specs.Find.{Entry}
use Rattle.hx_versions.specs.declared.content.Content.{Content}
use Rattle.hx_versions.specs.declared.pools.Pools.{Pools}
use Rattle.hx_versions.specs.declared.placing.Place.{Place}
use Rattle.hx_versions.specs.declared.placing.Place.TheVariants.{At, Before, Last}
use Rattle.hx_versions.specs.declared.pools.Row.{Row}
use Rattle.hx_versions.specs.declared.stored_version.Owner.{Owner}
use Rattle.hx_versions.specs.declared.stored_version.Owner.TheVariants.{Reference, Retired}
use Rattle.hx_versions.specs.declared.stored_version.StoredVersion.{StoredVersion}
use Rattle.hx_versions.specs.StoredVersions.{version_links, IsSameStoredVersion}
use Rattle.hx_versions.specs.Contents.{content_entries, entries_of, items_of, remaining_slots, slots_of, ways_of, EntryPool, IsContent, IsRetired, KeepsContent, PlacedEntry, Remains}
use Rattle.hx_versions.specs.Rows.{filled_one, kept_slots, version_slots, ShownVersion}

-- a pool of slots of versions
abbrev pub VersionPool : Type 0
VersionPool = Pool StoredVersion

-- ---- what callers see

-- a version in its slot
abbrev pub seen_version : EntryPool → StoredVersion → ShownVersion
seen_version entries stored = record {
  number = stored.number;
  serial = stored.serial;
  entries = content_entries entries stored.content;
  ways = ways_of stored.content.indexes.items;
}

abbrev pub version_in : Pools → ℕ → Option ShownVersion
version_in pools slot = option_map (seen_version pools.entries) (get pools.versions slot)

-- the versions of a row, in their order
abbrev pub seen_row : Pools → Row → List ShownVersion
seen_row pools row = filter_map (version_in pools)
    (numbers_in version_links pools.versions row.versions row.count)

abbrev pub seen_rows : Pools → List Row → List (List ShownVersion)
seen_rows pools rows = map (seen_row pools) rows

-- ---- what a row stands for

-- a version, with the number of its slot, its content, and what that stands for
pub record PlacedVersion : Type 0 where
  pub slot : ℕ
  pub number : ℕ
  pub serial : ℕ
  pub content : Content
  pub placed : List PlacedEntry

abbrev pub version_slots_of : List PlacedVersion → List ℕ
version_slots_of vs = map (λ (v : PlacedVersion). v.slot) vs

-- the version as callers see it
abbrev pub shown_version : PlacedVersion → ShownVersion
shown_version v = record {
  number = v.number;
  serial = v.serial;
  entries = entries_of v.placed;
  ways = ways_of v.content.indexes.items;
}

-- the version with its number lowered by so much
abbrev pub lowered_version : ℕ → PlacedVersion → PlacedVersion
lowered_version by v = record v { number = v.number - by }

-- the slot has the version, of that owner
pub record HasVersion (versions : VersionPool) (owner : Owner) (v : PlacedVersion) : Type 0 where
  pub stored : StoredVersion
  pub is : get versions v.slot ≡ Some stored
  pub owner_is : stored.owner ≡ owner
  pub number_is : stored.number ≡ v.number
  pub serial_is : stored.serial ≡ v.serial
  pub content_is : stored.content ≡ v.content

-- the content of the version stands in the slots
abbrev pub HasContent : Pools → PlacedVersion → Type 0
HasContent pools v = IsContent pools.entries pools.nodes v.slot v.content v.placed

-- The row stands in the slots for the versions, which are of that owner: its chain leads through
-- them.
pub record IsRow (pools : Pools) (owner : Owner) (row : Row) (vs : List PlacedVersion)
    : Type 0 where
  pub chain : LiesIn version_links pools.versions row.versions (version_slots_of vs)
  pub count : row.count ≡ length vs
  pub found : All (HasVersion pools.versions owner) vs
  pub contents : All (HasContent pools) vs

-- the versions have smaller numbers
abbrev pub AreAllBelow : ℕ → List PlacedVersion → Type 0
AreAllBelow number vs = All (λ (v : PlacedVersion). v.number < number) vs

-- the version of the number stands at this place, after those of smaller numbers; or it would
abbrev pub IsAtPlace : ℕ → Place → List PlacedVersion → Type 0
IsAtPlace number (At slot) vs = (before : List PlacedVersion) × (v : PlacedVersion)
    × (after : List PlacedVersion) × (vs ≡ before ++ v ∷ after) × AreAllBelow number before
    × (v.slot ≡ slot) × (v.number ≡ number)
IsAtPlace number (Before slot) vs = (before : List PlacedVersion) × (v : PlacedVersion)
    × (after : List PlacedVersion) × (vs ≡ before ++ v ∷ after) × AreAllBelow number before
    × (v.slot ≡ slot) × (number < v.number)
IsAtPlace number Last vs = AreAllBelow number vs

-- the first of the versions has a greater number
abbrev pub BeginAbove : ℕ → List PlacedVersion → Type 0
BeginAbove number [] = ⊤
BeginAbove number (v ∷ vs) = number < v.number

-- the version of the number stands in this slot, or none does
abbrev pub IsSlotOf : ℕ → Option ℕ → List PlacedVersion → Type 0
IsSlotOf number (Some slot) vs = (before : List PlacedVersion) × (v : PlacedVersion)
    × (after : List PlacedVersion) × (vs ≡ before ++ v ∷ after) × AreAllBelow number before
    × (v.slot ≡ slot) × (v.number ≡ number)
IsSlotOf number None vs = (before : List PlacedVersion) × (after : List PlacedVersion)
    × (vs ≡ before ++ after) × AreAllBelow number before × BeginAbove number after

-- the row of the reference at a position stands for what callers see, or there is none
abbrev pub HasRow : Pools → ℕ → Option Row → Option (List ShownVersion) → Type 0
HasRow pools r None None = ⊤
HasRow pools r None (Some shown) = ⊥
HasRow pools r (Some row) None = ⊥
HasRow pools r (Some row) (Some shown) = (vs : List PlacedVersion)
    × IsRow pools (Reference r) row vs × (map shown_version vs ≡ shown)

-- ---- versions that wait for their slots to be given back

-- a version, with the number of its slot, its content, and what is left of that
pub record RetiredVersion : Type 0 where
  pub slot : ℕ
  pub content : Content
  pub left : Remains

-- the items of each index, from a position on
abbrev pub item_lists : List PlacedEntry → ℕ → List (By × Bool) → List (List Item)
item_lists placed at [] = []
item_lists placed at (way ∷ ways) =
    items_of placed at way.0 way.1 ∷ item_lists placed (suc at) ways

-- all of a content
abbrev pub whole_of : Content → List PlacedEntry → Remains
whole_of content placed = record {
  slots = slots_of placed;
  items = item_lists placed 0 (ways_of content.indexes.items);
}

-- a version as one that waits, of which all is left
abbrev pub as_retired : PlacedVersion → RetiredVersion
as_retired v = record { slot = v.slot; content = v.content; left = whole_of v.content v.placed }

abbrev pub retired_slots_of : List RetiredVersion → List ℕ
retired_slots_of gone = map (λ (v : RetiredVersion). v.slot) gone

pub record HasRetired (versions : VersionPool) (v : RetiredVersion) : Type 0 where
  pub stored : StoredVersion
  pub is : get versions v.slot ≡ Some stored
  pub owner_is : stored.owner ≡ Retired
  pub content_is : stored.content ≡ v.content

abbrev pub HasRemains : Pools → RetiredVersion → Type 0
HasRemains pools v = IsRetired pools.entries pools.nodes v.slot v.content v.left

pub record AreRetired (pools : Pools) (chain : Chain) (gone : List RetiredVersion) : Type 0 where
  pub lies : LiesIn version_links pools.versions chain (retired_slots_of gone)
  pub found : All (HasRetired pools.versions) gone
  pub contents : All (HasRemains pools) gone

-- the slots that wait
abbrev pub waiting_slots : List RetiredVersion → ℕ
waiting_slots gone = sum_by (λ (v : RetiredVersion). 1 + remaining_slots v.left) gone

-- ---- the store

-- how many of the versions have entries
abbrev pub filled_count : List (List ShownVersion) → ℕ
filled_count rows = sum_by (λ (row : List ShownVersion). sum_by filled_one row) rows

-- no slot is lost
pub record CountsSlots (pools : Pools) (waiting filled : ℕ) (rows : List (List ShownVersion))
    (gone : List RetiredVersion) : Type 0 where
  -- each slot that is in use is one of a version that is kept, or waits
  pub waits : waiting ≡ waiting_slots gone
  pub live : live_count pools.versions + live_count pools.entries + live_count pools.nodes
      ≡ kept_slots rows + waiting
  -- for each version with entries one slot is spare, to which it can be moved when it is cleared
  pub fills : filled ≡ filled_count rows
  pub spare : filled ≤ pools.versions.spare
  -- a pool has no more slots than this
  pub versions_fit : live_count pools.versions + filled ≤ 2 ^ 32
  pub entries_fit : live_count pools.entries ≤ 2 ^ 32
  pub nodes_fit : live_count pools.nodes ≤ 2 ^ 32

-- The store stands for the rows that callers see: each row for its versions, and the chain of those
-- that wait for some.
pub record IsStore (pools : Pools) (rows : List Row) (retired : Chain) (waiting filled : ℕ)
    (shown : List (List ShownVersion)) : Type 0 where
  pub has_rows : (r : ℕ) → HasRow pools r (slice_get rows r) (slice_get shown r)
  pub gone : List RetiredVersion
  pub wait : AreRetired pools retired gone
  pub counted : CountsSlots pools waiting filled shown gone

-- ---- what a step leaves as it was

-- The step changes no version of this owner, and nothing of its content.
pub record KeepsVersions (owner : Owner) (old new : Pools) : Type 0 where
  pub versions : (slot : ℕ) (stored : StoredVersion) → get old.versions slot ≡ Some stored
      → stored.owner ≡ owner → get new.versions slot ≡ Some stored
  pub contents : (slot : ℕ) (stored : StoredVersion) → get old.versions slot ≡ Some stored
      → stored.owner ≡ owner → KeepsContent slot old.entries new.entries old.nodes new.nodes

-- It changes none of the versions of other references than that at a position, and none that wait.
abbrev pub ChangesRowAlone : ℕ → Pools → Pools → Type 0
ChangesRowAlone r old new = (owner : Owner) → owner ≢ Reference r → KeepsVersions owner old new

-- The same, but more versions may wait.
abbrev pub LeavesRows : ℕ → Pools → Pools → Type 0
LeavesRows r old new = (owner : Owner) → owner ≢ Reference r → owner ≢ Retired
    → KeepsVersions owner old new

-- So many slots are given back: in no pool more are in use than before.
pub record GivesSlots (count : ℕ) (old new : Pools) : Type 0 where
  pub total : live_count new.versions + live_count new.entries + live_count new.nodes + count
      ≡ live_count old.versions + live_count old.entries + live_count old.nodes
  pub versions : live_count new.versions ≤ live_count old.versions
  pub entries : live_count new.entries ≤ live_count old.entries
  pub nodes : live_count new.nodes ≤ live_count old.nodes

-- The version in a slot is retired: it goes from a chain, which lies for the slots before it and
-- after it from then on, to the end of that of the versions that wait. The slots in neither chain
-- keep their versions, and those in one all but their links.
pub record MovesVersion (old new : VersionPool) (row retired : Chain) (slot : ℕ)
    (stored : StoredVersion) (before after gone : List ℕ) : Type 0 where
  pub row_lies : LiesIn version_links new row (before ++ after)
  pub retired_lies : LiesIn version_links new retired (gone ++ slot ∷ [])
  pub here : (moved : StoredVersion) × (get new slot ≡ Some moved)
      × IsSameStoredVersion (record stored { owner = Retired }) moved
  pub linked : (k : ℕ) → k ≢ slot → IsSameSlot IsSameStoredVersion (get old k) (get new k)
  pub others : (k : ℕ) → (IsIn k (before ++ slot ∷ after) → ⊥) → (IsIn k gone → ⊥)
      → get new k ≡ get old k

-- A version is put into a slot that was free, and the slot into a chain, between those before it
-- and those after it. The slots in no chain keep their versions, and those in this one all but
-- their links.
pub record PutsVersion (old new : VersionPool) (row : Chain) (slot : ℕ) (stored : StoredVersion)
    (before after : List ℕ) : Type 0 where
  pub lies : LiesIn version_links new row (before ++ slot ∷ after)
  pub was_free : get old slot ≡ None
  pub here : (put : StoredVersion) × (get new slot ≡ Some put) × IsSameStoredVersion stored put
  pub linked : (k : ℕ) → k ≢ slot → IsSameSlot IsSameStoredVersion (get old k) (get new k)
  pub others : (k : ℕ) → (IsIn k (before ++ after) → ⊥) → k ≢ slot → get new k ≡ get old k

-- The version in a place of a row has another serial number and other entries. Its ways, its number
-- and its slot stay, and so do all other versions. Slots of entries and nodes are taken or given
-- for its own entries alone.
pub record ChangesVersionAt (old new : Pools) (owner : Owner) (row : Row)
    (before : List PlacedVersion) (v : PlacedVersion) (after : List PlacedVersion) (serial : ℕ)
    (placed : List PlacedEntry) : Type 0 where
  pub content : Content
  pub ways : ways_of content.indexes.items ≡ ways_of v.content.indexes.items
  pub row_is : IsRow new owner row (before ++ record v {
    serial = serial;
    content = content;
    placed = placed;
  } ∷ after)
  pub others : (theirs : Owner) → theirs ≢ owner → KeepsVersions theirs old new
  pub live : live_count new.entries + live_count new.nodes
      + length v.placed * (1 + length (ways_of v.content.indexes.items))
      ≡ live_count old.entries + live_count old.nodes
      + length placed * (1 + length (ways_of v.content.indexes.items))

-- no pool has more slots in use, and no fewer slots of versions are spare
pub record FitsAsBefore (old new : Pools) : Type 0 where
  pub versions : live_count new.versions ≡ live_count old.versions
  pub spare : new.versions.spare ≡ old.versions.spare
  pub entries : live_count new.entries ≤ live_count old.entries
  pub nodes : live_count new.nodes ≤ live_count old.nodes

-- there were entries, and there are none
abbrev pub is_emptied : List PlacedEntry → List PlacedEntry → Bool
is_emptied [] left = false
is_emptied (p ∷ placed) [] = true
is_emptied (p ∷ placed) (q ∷ left) = false

-- in each pool as many slots are in use
pub record HasSameLive (old new : Pools) : Type 0 where
  pub versions : live_count new.versions ≡ live_count old.versions
  pub entries : live_count new.entries ≡ live_count old.entries
  pub nodes : live_count new.nodes ≡ live_count old.nodes

-- in each pool as many slots are in use, and as many of versions are spare
pub record HasSameCounts (old new : Pools) : Type 0 where
  pub versions : live_count new.versions ≡ live_count old.versions
  pub spare : new.versions.spare ≡ old.versions.spare
  pub entries : live_count new.entries ≡ live_count old.entries
  pub nodes : live_count new.nodes ≡ live_count old.nodes

-- the slots of the version can be counted
abbrev pub HasFewSlots : PlacedVersion → Type 0
HasFewSlots v = version_slots (shown_version v) < 2 ^ 40

-- The first version of the row of the reference at a position, whose number is smaller, is dropped,
-- so that its slots wait; or there is none, or its number isn't smaller.
abbrev pub DropsFirst : ℕ → Option ℕ → Pools → Pools → List Row → List Row → ℕ → Chain
    → List PlacedVersion → List RetiredVersion → Type 0
DropsFirst number (Some slots) old new rows rows' r retired vs gone =
    (row : Row) × (v : PlacedVersion) × (after : List PlacedVersion) × (vs ≡ v ∷ after)
    × (v.number < number) × (slots ≡ version_slots (shown_version v)) × (rows' ≡ set rows r row)
    × IsRow new (Reference r) row after × AreRetired new retired (gone ++ as_retired v ∷ [])
    × LeavesRows r old new × HasSameCounts old new
DropsFirst number None old new rows rows' r retired [] gone = ⊤
DropsFirst number None old new rows rows' r retired (v ∷ vs) gone = number ≤ v.number

-- a version of the same number without entries stands in the place of another
pub record IsLight (v light : PlacedVersion) : Type 0 where
  pub number : light.number ≡ v.number
  pub serial : light.serial ≡ v.serial
  pub none : light.placed ≡ []
  pub ways : ways_of light.content.indexes.items ≡ []

-- The version in a place of the row of the reference at a position is cleared: where it has entries
-- its slots wait, and one without entries takes its place.
pub record IsCleared (cleared : ℕ) (old new : Pools) (rows rows' : List Row) (r : ℕ)
    (retired : Chain) (before : List PlacedVersion) (v : PlacedVersion)
    (after : List PlacedVersion) (gone : List RetiredVersion) : Type 0 where
  pub row : Row
  pub light : PlacedVersion
  pub is_light : IsLight v light
  pub slots : cleared ≡ version_slots (shown_version v)
  pub rows_are : rows' ≡ set rows r row
  pub stands : IsRow new (Reference r) row (before ++ light ∷ after)
  pub wait : AreRetired new retired (gone ++ as_retired v ∷ [])
  pub leaves : LeavesRows r old new
  pub versions : live_count new.versions ≡ live_count old.versions + 1
  pub spare : new.versions.spare + 1 ≡ old.versions.spare
  pub entries : live_count new.entries ≡ live_count old.entries
  pub nodes : live_count new.nodes ≡ live_count old.nodes

-- ---- additions

-- in each pool each slot has the value that it had, or none as before
pub record HasSameValues (old new : Pools) : Type 0 where
  pub versions : SameValues old.versions new.versions
  pub entries : SameValues old.entries new.entries
  pub nodes : SameValues old.nodes new.nodes
  pub live : HasSameLive old new
  pub spare : old.versions.spare ≤ new.versions.spare

-- so many slots of entries, of nodes and of versions are spare
pub record HasRoomFor (entries nodes versions : ℕ) (pools : Pools) : Type 0 where
  pub entries_spare : entries ≤ pools.entries.spare
  pub nodes_spare : nodes ≤ pools.nodes.spare
  pub versions_spare : versions ≤ pools.versions.spare
  pub entries_fit : live_count pools.entries + entries ≤ 2 ^ 32
  pub nodes_fit : live_count pools.nodes + nodes ≤ 2 ^ 32
  pub versions_fit : live_count pools.versions + versions ≤ 2 ^ 32

-- no pattern was put into the indexes, so that they stand in all nodes
abbrev pub AreBare : List Index → Type 0
AreBare indexes = All (λ (index : Index). (nodes : NodePool) → Holds nodes index []) indexes

-- no version stands at the place
abbrev pub IsFree : Place → Type 0
IsFree (At slot) = ⊥
IsFree (Before slot) = ⊤
IsFree Last = ⊤

-- the slots from the place on
abbrev pub BeginsAt : Place → List ℕ → Type 0
BeginsAt (At slot) slots = ⊥
BeginsAt (Before slot) slots = (rest : List ℕ) × (slots ≡ slot ∷ rest)
BeginsAt Last slots = slots ≡ []

-- the version stood in the row with the same entries, and takes as many slots
pub record WasIn (vs before : List PlacedVersion) (version : PlacedVersion)
    (after : List PlacedVersion) : Type 0 where
  pub was : PlacedVersion
  pub whole : vs ≡ before ++ was ∷ after
  pub number : was.number ≡ version.number
  pub placed : was.placed ≡ version.placed
  pub slots : version_slots (shown_version was) ≡ version_slots (shown_version version)

-- the version is new in the row, and has no entries
pub record IsNewIn (vs before : List PlacedVersion) (version : PlacedVersion)
    (after : List PlacedVersion) : Type 0 where
  pub whole : vs ≡ before ++ after
  pub above : BeginAbove version.number after
  pub placed : version.placed ≡ []

-- The version in a slot of a row has this number and these ways. It stood in the row, or it is new.
-- No other version changes.
pub record HasVersionFor (slot number : ℕ) (ways : List (By × Bool)) (old new : Pools)
    (owner : Owner) (row : Row) (vs : List PlacedVersion) : Type 0 where
  pub before : List PlacedVersion
  pub version : PlacedVersion
  pub after : List PlacedVersion
  pub here : version.slot ≡ slot
  pub number_is : version.number ≡ number
  pub ways_are : ways_of version.content.indexes.items ≡ ways
  pub below : AreAllBelow version.number before
  pub stands : IsRow new owner row (before ++ version ∷ after)
  pub was : WasIn vs before version after ⊎ IsNewIn vs before version after
  pub others : (theirs : Owner) → theirs ≢ owner → KeepsVersions theirs old new
  pub total : live_count new.versions + new.versions.spare
      ≡ live_count old.versions + old.versions.spare
  pub versions : live_count new.versions + length vs
      ≡ live_count old.versions + length (before ++ version ∷ after)
  pub entries : new.entries ≡ old.entries
  pub nodes : new.nodes ≡ old.nodes

-- so does the version in a slot of the row of the reference at a position
pub record HasRowFor (slot number : ℕ) (ways : List (By × Bool)) (old new : Pools)
    (rows rows' : List Row) (r : ℕ) (vs : List PlacedVersion) : Type 0 where
  pub row : Row
  pub rows_are : rows' ≡ set rows r row
  pub has : HasVersionFor slot number ways old new (Reference r) row vs

-- The version in a place of a row has these as its last entries.
pub record HasAppended (filled : Bool) (old new : Pools) (owner : Owner) (row : Row)
    (before : List PlacedVersion) (v : PlacedVersion) (after : List PlacedVersion) (serial : ℕ)
    (added : List Entry) : Type 0 where
  pub placed : List PlacedEntry
  pub entries_are : entries_of placed ≡ entries_of v.placed ++ added
  pub changes : ChangesVersionAt old new owner row before v after serial placed
  pub filled_is : filled ≡ is_emptied placed v.placed
  pub versions : live_count new.versions ≡ live_count old.versions
  pub spare : new.versions.spare ≡ old.versions.spare
  pub entries : live_count new.entries ≡ live_count old.entries + length added
  pub nodes : live_count new.nodes ≡ live_count old.nodes
      + length added * length (ways_of v.content.indexes.items)
