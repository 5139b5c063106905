-- Nodes that go out of indexes, from the first index to the last.
use Rattle.std.proofs.Common.{◌≡◌, ◌≢◌, ℕ, ◌+◌, ◌<◌, ◌≤◌, Bool, cond, ltb, List, get_or, not, ◌==◌, Some, All, refl, sym, ap, subst, ◌∙◌, inl, inr, arith}
use Rattle.std.specs.Prelude.{slice_get}
use Rattle.std.proofs.lemmas.Bool.{cases_eq, cases_lt, lt-ltb, le-ltb}
use Rattle.std.proofs.lemmas.List.Elements.{All-filter}
use Rattle.hx_text.specs.declared.kinds.By.{By}
use Rattle.hx_pool.specs.Chain.{IsIn}
use Rattle.hx_index.specs.declared.index.Index.{Index}
use Rattle.hx_index.specs.Items.{Item, nodes_of, without_node}
use Rattle.hx_index.specs.Index.{NodePool}
use Rattle.hx_versions.specs.Contents.{AreItemsOfVersion, AreNodes, EntryPool, IsNodeAt, Listing, StandIn, ways_of, with_list, without_numbers}
use Rattle.hx_versions.proofs.IndexListLemmas.{some_same, stand_same, with_other, with_same}
use Rattle.hx_versions.proofs.PuttingLemmas.{of_version}

-- the lists while those up to a position are without a node
abbrev pub partly_without : List ℕ → ℕ → Listing → Listing
partly_without numbers upto items at method ci = cond (ltb at upto) (without_numbers numbers items at method ci) (items at method ci)

part_done : (numbers : List ℕ) (upto : ℕ) (items : Listing) (at : ℕ) (method : By) (ci : Bool) → at < upto → partly_without numbers upto items at method ci ≡ without_numbers numbers items at method ci
part_done numbers upto items at method ci below = rw (lt-ltb at upto below) refl

pub part_left : (numbers : List ℕ) (upto : ℕ) (items : Listing) (at : ℕ) (method : By) (ci : Bool) → upto ≤ at → partly_without numbers upto items at method ci ≡ items at method ci
part_left numbers upto items at method ci above = rw (le-ltb at upto above) refl

-- a node that is still in its list
pub node_left : (ways : List (By × Bool)) (numbers : List ℕ) (upto : ℕ) (items : Listing) → AreNodes ways numbers items → IsNodeAt ways upto (get_or numbers upto 0) (partly_without numbers upto items)
node_left ways numbers upto items are way is =
    subst (λ xs. IsIn (get_or numbers upto 0) (nodes_of xs)) (sym (part_left numbers upto items upto way.0 way.1 (omega arith))) (are upto way is)

-- one list more is without its node
module _ (numbers : List ℕ) (at node : ℕ) (items : Listing) (by : By) (ci : Bool) (node_is : node ≡ get_or numbers at 0) where
  abbrev before : Listing
  before = partly_without numbers at items

  abbrev dropped : Listing
  dropped = with_list at (without_node node (before at by ci)) before

  abbrev after : Listing
  after = partly_without numbers (at + 1) items

  here_same : after at by ci ≡ dropped at by ci
  here_same =
      part_done numbers (at + 1) items at by ci (omega arith)
      ∙ ap (λ n. without_node n (items at by ci)) (sym node_is)
      ∙ ap (without_node node) (sym (part_left numbers at items at by ci (omega arith)))
      ∙ sym (with_same at (without_node node (before at by ci)) before by ci)

  elsewhere : (other : ℕ) (method : By) (c : Bool) → other ≢ at → after other method c ≡ before other method c
  elsewhere other method c differs = elim (cases_lt other at) as (λ _. after other method c ≡ before other method c) [
    | inl below ↦ part_done numbers (at + 1) items other method c (omega arith) ∙ sym (part_done numbers at items other method c below)
    | inr above ↦ part_left numbers (at + 1) items other method c (omega (arith, above, differs)) ∙ sym (part_left numbers at items other method c above)
  ]

  one_less : (ways : List (By × Bool)) → slice_get ways at ≡ Some (by, ci) → (other : ℕ) (way : By × Bool) → slice_get ways other ≡ Some way → after other way.0 way.1 ≡ dropped other way.0 way.1
  one_less ways here other way is = elim (cases_eq other at) as (λ _. after other way.0 way.1 ≡ dropped other way.0 way.1) [
    | inl e ↦
        let same : way ≡ (by, ci) = some_same way (by, ci) (sym is ∙ ap (slice_get ways) e ∙ here) in
        ap (λ i. after i way.0 way.1) e ∙ ap (λ (w : By × Bool). after at w.0 w.1) same ∙ here_same
        ∙ ap (λ (w : By × Bool). dropped at w.0 w.1) (sym same) ∙ ap (λ i. dropped i way.0 way.1) (sym e)
    | inr differs ↦ elsewhere other way.0 way.1 differs ∙ sym (with_other at other (without_node node (before at by ci)) before way.0 way.1 differs)
  ]

  pub drop_more : (n : NodePool) (indexes : List Index) → slice_get (ways_of indexes) at ≡ Some (by, ci) → StandIn n indexes dropped → StandIn n indexes after
  drop_more n indexes here h = stand_same n indexes dropped after (one_less (ways_of indexes) here) h

-- none is without its node at first, and each at last
pub drop_none : (numbers : List ℕ) (items : Listing) (n : NodePool) (indexes : List Index) → StandIn n indexes items → StandIn n indexes (partly_without numbers 0 items)
drop_none numbers items n indexes h =
    stand_same n indexes items (partly_without numbers 0 items) (λ at way is. part_left numbers 0 items at way.0 way.1 (omega arith)) h

pub drop_all : (numbers : List ℕ) (upto : ℕ) (items : Listing) (n : NodePool) (indexes : List Index) → ((at : ℕ) (way : By × Bool) → slice_get (ways_of indexes) at ≡ Some way → at < upto) → StandIn n indexes (partly_without numbers upto items) → StandIn n indexes (without_numbers numbers items)
drop_all numbers upto items n indexes below h =
    stand_same n indexes (partly_without numbers upto items) (without_numbers numbers items) (λ at way is. sym (part_done numbers upto items at way.0 way.1 (below at way is))) h

-- what is left is of entries of one version where all were
pub drop_owned : (e : EntryPool) (v : ℕ) (numbers : List ℕ) (upto : ℕ) (items : Listing) (ways : List (By × Bool)) → AreItemsOfVersion e v ways items → AreItemsOfVersion e v ways (partly_without numbers upto items)
drop_owned e v numbers upto items ways all at way is = elim (cases_lt at upto) as (λ _. All (of_version e v) (partly_without numbers upto items at way.0 way.1)) [
  | inl below ↦
      subst (All (of_version e v)) (sym (part_done numbers upto items at way.0 way.1 below))
      (All-filter (λ (item : Item). not (item.node == get_or numbers at 0)) (of_version e v) (items at way.0 way.1) (all at way is))
  | inr above ↦ subst (All (of_version e v)) (sym (part_left numbers upto items at way.0 way.1 above)) (all at way is)
]
