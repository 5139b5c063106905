-- The declarations of the ACL of a name, from the last one back to the first.
use Rattle.std.proofs.Common.{◌≡◌, ◌||◌, ◌&&◌, ◌+◌, ◌<◌, Bool, true, false, cond, ℕ, zero, suc, List, [], ◌∷◌, ◌++◌, Option, None, Some, refl, ap, sym, subst, ◌∙◌, length, take, drop, arith}
use Rattle.std.specs.Prelude.{is_some, option_map, slice_get, slice_index_or}
use Rattle.std.specs.BTreeMap.{is_at}
use Rattle.std.specs.Cmp.Lexicographic.{slice_cmp}
use Rattle.std.specs.List.{list_any}
use Rattle.std.specs.Option.{option_map_or}
use Rattle.std.specs.Ordering.{nat_cmp}
use Rattle.std.specs.Str.{bytes_eq}
use Rattle.std.proofs.lemmas.List.{drop-append-le, length-map, length-take, map-append, take_all, take-map, take-take}
use Rattle.std.proofs.lemmas.List.Folds.{list_any-append}
use Rattle.std.proofs.lemmas.Map.Text.{is_eq-slice_cmp}
use Rattle.std.proofs.lemmas.Option.{same_Some, slice_get_read, slice_get_within, slice_get-map}
use Rattle.std.proofs.lemmas.Slice.Eq.{bytes_eq-Decides}
use Rattle.hx_ast.specs.declared.statement.Decl.{Decl}
use Rattle.hx_acl.specs.declared.acl_set.Declared.{Declared}
use Rattle.hx_acl.specs.AclSetView.{AreIndexed, IsLast, declaration, declarations, position_of}
use Rattle.hx_acl.specs.Holds.{Acls, is_declared, name_holds}
use Rattle.hx_acl.specs.Matching.{test_matches}
use Rattle.hx_acl.proofs.HoldsLemmas.{same_bytes}
use Rattle.hx_fetch.specs.World.{Context}
use Rattle.hx_sample.specs.Find.{Entry}
use Rattle.hx_sample.specs.Tables.{TableHead}

-- whether one of the declarations of the ACL of a name passes a test
abbrev pub any_of : (Decl → Bool) → Acls → List ℕ → Bool
any_of test acls name = list_any (λ declared. bytes_eq declared.0 name && test declared.1) acls

-- ---- of a name that isn't declared no declaration passes

none_more : (b t r p : Bool) → (b || r) ≡ false → (r ≡ false → p ≡ false) → ((b && t) || p) ≡ false
none_more true t r p none rest = absurd (cc none)
none_more false t r p none rest = rest none

pub none_passes : (test : Decl → Bool) (acls : Acls) (name : List ℕ) → is_declared acls name ≡ false → any_of test acls name ≡ false
none_passes test [] name none = refl
none_passes test (d ∷ acls) name none =
    none_more (bytes_eq d.0 name) (test d.1) (is_declared acls name) (any_of test acls name) none (none_passes test acls name)

-- ---- the last declaration of a name, and those before it

swap : (x y z : Bool) → (x || (y || z)) ≡ (y || (x || z))
swap true true z = refl
swap true false z = refl
swap false true z = refl
swap false false z = refl

last_first : (test : Decl → Bool) (acls : Acls) (name : List ℕ) (decl : Decl) (d : List ℕ × Decl) → d ≡ (name, decl) → is_declared acls name ≡ false → any_of test (d ∷ acls) name ≡ (test decl || false)
last_first test acls name decl d is none =
    ap (λ (x : List ℕ × Decl). (bytes_eq x.0 name && test x.1) || any_of test acls name) is
    ∙ ap (λ (b : Bool). (b && test decl) || any_of test acls name) (same_bytes name)
    ∙ ap (λ (b : Bool). test decl || b) (none_passes test acls name none)

pub last_splits : (test : Decl → Bool) (acls : Acls) (name : List ℕ) (position : ℕ) (decl : Decl) → slice_get acls position ≡ Some (name, decl) → is_declared (drop (suc position) acls) name ≡ false → any_of test acls name ≡ (test decl || any_of test (take position acls) name)
last_splits test [] name position decl at none = absurd (cc at)
last_splits test (d ∷ acls) name zero decl at none =
    last_first test acls name decl d (same_Some d (name, decl) at) none
last_splits test (d ∷ acls) name (suc position) decl at none =
    ap (λ (b : Bool). (bytes_eq d.0 name && test d.1) || b) (last_splits test acls name position decl at none)
    ∙ swap (bytes_eq d.0 name && test d.1) (test decl) (any_of test (take position acls) name)

or_true : (b : Bool) → (b || true) ≡ true
or_true true = refl
or_true false = refl

-- a name that has a last declaration is declared
pub declared_once : (acls : Acls) (name : List ℕ) (position : ℕ) (decl : Decl) → slice_get acls position ≡ Some (name, decl) → is_declared acls name ≡ true
declared_once [] name position decl at = absurd (cc at)
declared_once (d ∷ acls) name zero decl at =
    ap (λ (x : List ℕ × Decl). bytes_eq x.0 name || is_declared acls name) (same_Some d (name, decl) at)
    ∙ ap (λ (b : Bool). b || is_declared acls name) (same_bytes name)
declared_once (d ∷ acls) name (suc position) decl at =
    ap (λ (b : Bool). bytes_eq d.0 name || b) (declared_once acls name position decl at)
    ∙ or_true (bytes_eq d.0 name)

-- ---- the walk from the last declaration of a name to the first

pub get_of_take : {A : Type 0} (xs : List A) (n k : ℕ) (x : A) → slice_get (take n xs) k ≡ Some x → slice_get xs k ≡ Some x
get_of_take [] zero k x at = absurd (cc at)
get_of_take [] (suc n) k x at = absurd (cc at)
get_of_take (y ∷ ys) zero k x at = absurd (cc at)
get_of_take (y ∷ ys) (suc n) zero x at = at
get_of_take (y ∷ ys) (suc n) (suc k) x at = get_of_take ys n k x at

-- Of the declarations of the ACL of a name, those among the first `count` are left to try, this is
-- the position of the last of them, and one of them passes exactly where one of all does.
pub record AreLeft (test : Decl → Bool) (acls : Acls) (name : List ℕ) (left : Option ℕ) : Type 0 where
  pub count : ℕ
  pub last : IsLast (take count acls) name left
  pub passes : any_of test (take count acls) name ≡ any_of test acls name

pub all_left : (test : Decl → Bool) (acls : Acls) (name : List ℕ) (left : Option ℕ) → IsLast acls name left → AreLeft test acls name left
all_left test acls name left last =
    let whole : take (length acls) acls ≡ acls = take_all (length acls) acls (omega arith) in
    record {
      count = length acls;
      last = subst (λ (xs : Acls). IsLast xs name left) (sym whole) last;
      passes = ap (λ (xs : Acls). any_of test xs name) whole;
    }

pub none_left : (test : Decl → Bool) (acls : Acls) (name : List ℕ) → AreLeft test acls name None → false ≡ any_of test acls name
none_left test acls name left = sym (none_passes test (take left.count acls) name left.last) ∙ left.passes

-- the declaration at the position where a walk stands
pub left_within : (test : Decl → Bool) (acls : Acls) (name : List ℕ) (position : ℕ) → AreLeft test acls name (Some position) → position < length acls
left_within test acls name position left =
    slice_get_within acls position (name, left.last.decl) (get_of_take acls left.count position (name, left.last.decl) left.last.at)

left_is : (test : Decl → Bool) (acls : Acls) (name : List ℕ) (position : ℕ) (d : List ℕ × Decl) (left : AreLeft test acls name (Some position)) → slice_get acls position ≡ Some d → d ≡ (name, left.last.decl)
left_is test acls name position d left at =
    same_Some d (name, left.last.decl)
    (sym at ∙ get_of_take acls left.count position (name, left.last.decl) left.last.at)

left_splits : (test : Decl → Bool) (acls : Acls) (name : List ℕ) (position : ℕ) (d : List ℕ × Decl) → AreLeft test acls name (Some position) → slice_get acls position ≡ Some d → any_of test acls name ≡ (test d.1 || any_of test (take position acls) name)
left_splits test acls name position d left at =
    let known = left.last in
    let short : position < length (take left.count acls) =
    slice_get_within (take left.count acls) position (name, known.decl) known.at in
    let before : take position (take left.count acls) ≡ take position acls =
    take-take position left.count acls (omega (arith, length-take left.count acls, short)) in
    sym left.passes ∙ last_splits test (take left.count acls) name position known.decl known.at known.last
    ∙ ap (λ (xs : Acls). test known.decl || any_of test xs name) before
    ∙ ap (λ (x : List ℕ × Decl). test x.1 || any_of test (take position acls) name) (sym (left_is test acls name position d left at))

pub one_passes : (test : Decl → Bool) (acls : Acls) (name : List ℕ) (position : ℕ) (d : List ℕ × Decl) → AreLeft test acls name (Some position) → slice_get acls position ≡ Some d → true ≡ test d.1 → true ≡ any_of test acls name
one_passes test acls name position d left at passes =
    sym (left_splits test acls name position d left at
    ∙ ap (λ (b : Bool). b || any_of test (take position acls) name) (sym passes))

pub others_left : (test : Decl → Bool) (acls : Acls) (name : List ℕ) (position : ℕ) (d : List ℕ × Decl) (earlier : Option ℕ) → AreLeft test acls name (Some position) → slice_get acls position ≡ Some d → false ≡ test d.1 → IsLast (take position acls) d.0 earlier → AreLeft test acls name earlier
others_left test acls name position d earlier left at fails last =
    record {
      count = position;
      last = subst (λ (x : List ℕ × Decl). IsLast (take position acls) x.0 earlier) (left_is test acls name position d left at) last;
      passes = sym (left_splits test acls name position d left at
          ∙ ap (λ (b : Bool). b || any_of test (take position acls) name) (sym fails));
    }

-- the walk goes back
pub goes_back : (acls : Acls) (name : List ℕ) (position : ℕ) (earlier : Option ℕ) → IsLast (take position acls) name earlier → option_map_or (λ k. k + 1) earlier 0 < position + 1
goes_back acls name position None last = omega arith
goes_back acls name position (Some k) last =
    let short : k < length (take position acls) = slice_get_within (take position acls) k (name, last.decl) last.at in
    omega (arith, length-take position acls, short)

-- ---- one declaration more

get_before : {A : Type 0} (xs ys : List A) (k : ℕ) (x : A) → slice_get xs k ≡ Some x → slice_get (xs ++ ys) k ≡ Some x
get_before [] ys k x at = absurd (cc at)
get_before (y ∷ xs) ys zero x at = at
get_before (y ∷ xs) ys (suc k) x at = get_before xs ys k x at

get_last : {A : Type 0} (xs : List A) (x : A) → slice_get (xs ++ x ∷ []) (length xs) ≡ Some x
get_last [] x = refl
get_last (y ∷ xs) x = get_last xs x

-- a fact of each item of a list, and of what stands before it, when one more is appended
each_more : {A : Type 0} (P : List A → A → Type 0) (xs : List A) (x : A) → ((k : ℕ) (y : A) → slice_get xs k ≡ Some y → P (take k xs) y) → P xs x → (k : ℕ) (y : A) → slice_get (xs ++ x ∷ []) k ≡ Some y → P (take k (xs ++ x ∷ [])) y
each_more P [] x each last zero y at = subst (P []) (same_Some x y at) last
each_more P [] x each last (suc k) y at = absurd (cc at)
each_more P (z ∷ xs) x each last zero y at = each zero y at
each_more P (z ∷ xs) x each last (suc k) y at =
    each_more (λ ys. P (z ∷ ys)) xs x (λ j w found. each (suc j) w found) last k y at

one_more : (acls : Acls) (d : List ℕ × Decl) (q : List ℕ) → bytes_eq d.0 q ≡ false → is_declared acls q ≡ false → is_declared (acls ++ d ∷ []) q ≡ false
one_more acls d q apart none =
    list_any-append (λ (declared : List ℕ × Decl). bytes_eq declared.0 q) acls (d ∷ [])
    ∙ ap (λ (b : Bool). b || (bytes_eq d.0 q || false)) none
    ∙ ap (λ (b : Bool). b || false) apart

nothing_after : (xs : Acls) (x : List ℕ × Decl) → drop (suc (length xs)) (xs ++ x ∷ []) ≡ []
nothing_after [] x = refl
nothing_after (y ∷ xs) x = nothing_after xs x

last_of_name : (acls : Acls) (name : List ℕ) (decl : Decl) → IsLast (acls ++ (name, decl) ∷ []) name (Some (length acls))
last_of_name acls name decl =
    record {
      decl = decl;
      at = get_last acls (name, decl);
      last = ap (λ (xs : Acls). is_declared xs name) (nothing_after acls (name, decl));
    }

last_of_others : (acls : Acls) (d : List ℕ × Decl) (q : List ℕ) (o : Option ℕ) → bytes_eq d.0 q ≡ false → IsLast acls q o → IsLast (acls ++ d ∷ []) q o
last_of_others acls d q None apart last = one_more acls d q apart last
last_of_others acls d q (Some k) apart last =
    let within : k < length acls = slice_get_within acls k (q, last.decl) last.at in
    let after : drop (suc k) (acls ++ d ∷ []) ≡ drop (suc k) acls ++ d ∷ [] =
    drop-append-le (suc k) acls (d ∷ []) (omega (arith, within)) in
    record {
      decl = last.decl;
      at = get_before acls (d ∷ []) k (q, last.decl) last.at;
      last = ap (λ (xs : Acls). is_declared xs q) after ∙ one_more (drop (suc k) acls) d q apart last.last;
    }

last_of_each : (acls : Acls) (name : List ℕ) (decl : Decl) (q : List ℕ) (o : Option ℕ) (b : Bool) → bytes_eq name q ≡ b → IsLast acls q o → IsLast (acls ++ (name, decl) ∷ []) q (cond b (Some (length acls)) o)
last_of_each acls name decl q o true same last =
    subst (λ (x : List ℕ). IsLast (acls ++ (name, decl) ∷ []) x (Some (length acls))) ((bytes_eq-Decides name q).0 same) (last_of_name acls name decl)
last_of_each acls name decl q o false apart last = last_of_others acls (name, decl) q o apart last

-- the positions that are kept, where that of the name of one more declaration was written
latest_more : (tests : List Declared) (positions positions' : List (List ℕ × ℕ)) (declared : Declared) → ((name : List ℕ) → IsLast (declarations tests) name (position_of positions name)) → ((q : List ℕ) → position_of positions' q ≡ cond (is_at (slice_cmp nat_cmp declared.name) q) (Some (length tests)) (position_of positions q)) → (q : List ℕ) → IsLast (declarations (tests ++ declared ∷ [])) q (position_of positions' q)
latest_more tests positions positions' declared latest updates q =
    let now : position_of positions' q ≡ cond (bytes_eq declared.name q) (Some (length (declarations tests))) (position_of positions q) =
    updates q
    ∙ ap (λ (b : Bool). cond b (Some (length tests)) (position_of positions q)) (is_eq-slice_cmp declared.name q)
    ∙ ap (λ (n : ℕ). cond (bytes_eq declared.name q) (Some n) (position_of positions q)) (sym (length-map tests declaration)) in
    let more : declarations (tests ++ declared ∷ []) ≡ declarations tests ++ (declared.name, declared.test) ∷ [] = map-append declaration tests (declared ∷ []) in
    subst (λ (o : Option ℕ). IsLast (declarations (tests ++ declared ∷ [])) q o) (sym now)
    (subst (λ (xs : Acls). IsLast xs q (cond (bytes_eq declared.name q) (Some (length (declarations tests))) (position_of positions q))) (sym more)
    (last_of_each (declarations tests) declared.name declared.test q (position_of positions q) (bytes_eq declared.name q) refl (latest q)))

indexed_more : (tests : List Declared) (positions positions' : List (List ℕ × ℕ)) (declared : Declared) → AreIndexed tests positions → declared.earlier ≡ position_of positions declared.name → ((q : List ℕ) → position_of positions' q ≡ cond (is_at (slice_cmp nat_cmp declared.name) q) (Some (length tests)) (position_of positions q)) → AreIndexed (tests ++ declared ∷ []) positions'
indexed_more tests positions positions' declared indexed earlier updates =
    record {
      before = each_more (λ (xs : List Declared) (d : Declared). IsLast (declarations xs) d.name d.earlier) tests declared indexed.before
          (subst (λ (o : Option ℕ). IsLast (declarations tests) declared.name o) (sym earlier) (indexed.latest declared.name));
      latest = latest_more tests positions positions' declared indexed.latest updates;
    }

-- the same, where the position was written under a key that is the name
pub indexed_at_key : (tests : List Declared) (positions positions' : List (List ℕ × ℕ)) (declared : Declared) (key : List ℕ) (n : ℕ) → AreIndexed tests positions → key ≡ declared.name → n ≡ length tests → declared.earlier ≡ position_of positions key → ((q : List ℕ) → position_of positions' q ≡ cond (is_at (slice_cmp nat_cmp key) q) (Some n) (position_of positions q)) → AreIndexed (tests ++ declared ∷ []) positions'
indexed_at_key tests positions positions' declared key n indexed same count earlier updates =
    indexed_more tests positions positions' declared indexed
    (earlier ∙ ap (position_of positions) same)
    (λ q.
    updates q
    ∙ ap (λ (name : List ℕ). cond (is_at (slice_cmp nat_cmp name) q) (Some n) (position_of positions q)) same
    ∙ ap (λ (m : ℕ). cond (is_at (slice_cmp nat_cmp declared.name) q) (Some m) (position_of positions q)) count)

-- ---- whether a name is declared

pub is_declared_by_last : (acls : Acls) (name : List ℕ) (left : Option ℕ) → IsLast acls name left → is_declared acls name ≡ is_some left
is_declared_by_last acls name None last = last
is_declared_by_last acls name (Some position) last = declared_once acls name position last.decl last.at

-- ---- the steps of a walk over the declarations as they are kept

read_at : (test : Decl → Bool) (tests : List Declared) (acls : Acls) (name : List ℕ) (position : ℕ) (declared : Declared) → declarations tests ≡ acls → AreLeft test acls name (Some position) → declared ≡ slice_index_or tests position declared → slice_get tests position ≡ Some declared
read_at test tests acls name position declared view left is =
    let within : position < length acls = left_within test acls name position left in
    let short : position < length tests = omega (arith, within, ap length view, length-map tests declaration) in
    slice_get_read tests (length tests) position declared refl short is

pub seen_at : (tests : List Declared) (acls : Acls) (position : ℕ) (declared : Declared) → declarations tests ≡ acls → slice_get tests position ≡ Some declared → slice_get acls position ≡ Some (declared.name, declared.test)
seen_at tests acls position declared view at =
    sym (ap (λ (xs : Acls). slice_get xs position) view) ∙ slice_get-map declaration tests position ∙ ap (option_map declaration) at

pub before_at : (tests : List Declared) (acls : Acls) (positions : List (List ℕ × ℕ)) (position : ℕ) (declared : Declared) → declarations tests ≡ acls → AreIndexed tests positions → slice_get tests position ≡ Some declared → IsLast (take position acls) declared.name declared.earlier
before_at tests acls positions position declared view indexed at =
    let same : declarations (take position tests) ≡ take position acls =
    sym (take-map declaration position tests) ∙ ap (take position) view in
    subst (λ (xs : Acls). IsLast xs declared.name declared.earlier) same (indexed.before position declared at)

pub walk_goes_on : (test : Decl → Bool) (tests : List Declared) (acls : Acls) (positions : List (List ℕ × ℕ)) (name : List ℕ) (position : ℕ) (declared : Declared) → declarations tests ≡ acls → AreIndexed tests positions → AreLeft test acls name (Some position) → declared ≡ slice_index_or tests position declared → (answer : Bool) → answer ≡ false → answer ≡ test declared.test → AreLeft test acls name declared.earlier
walk_goes_on test tests acls positions name position declared view indexed left is answer fails same =
    let at : slice_get tests position ≡ Some declared = read_at test tests acls name position declared view left is in
    others_left test acls name position (declared.name, declared.test) declared.earlier left (seen_at tests acls position declared view at) (sym fails ∙ same)
    (before_at tests acls positions position declared view indexed at)

pub walk_goes_back : (test : Decl → Bool) (tests : List Declared) (acls : Acls) (positions : List (List ℕ × ℕ)) (name : List ℕ) (position : ℕ) (declared : Declared) → declarations tests ≡ acls → AreIndexed tests positions → AreLeft test acls name (Some position) → declared ≡ slice_index_or tests position declared → option_map_or (λ k. k + 1) declared.earlier 0 < position + 1
walk_goes_back test tests acls positions name position declared view indexed left is =
    let at : slice_get tests position ≡ Some declared = read_at test tests acls name position declared view left is in
    goes_back acls declared.name position declared.earlier (before_at tests acls positions position declared view indexed at)

module _ (context : Context) (heads : List TableHead) (lists : List (List Entry)) (acls : Acls) (name : List ℕ) where
  by_declarations : (holds : Bool) → is_declared acls name ≡ true → holds ≡ any_of (test_matches context heads lists) acls name → holds ≡ name_holds context heads lists acls name
  by_declarations holds declared same = rw declared same

  pub walk_holds : (tests : List Declared) (position : ℕ) (declared : Declared) → declarations tests ≡ acls → AreLeft (test_matches context heads lists) acls name (Some position) → declared ≡ slice_index_or tests position declared → (answer : Bool) → answer ≡ true → answer ≡ test_matches context heads lists declared.test → true ≡ name_holds context heads lists acls name
  walk_holds tests position declared view left is answer passes same =
      let test : Decl → Bool = test_matches context heads lists in
      let at : slice_get tests position ≡ Some declared = read_at test tests acls name position declared view left is in
      by_declarations true
      (declared_once acls name position left.last.decl (get_of_take acls left.count position (name, left.last.decl) left.last.at))
      (one_passes test acls name position (declared.name, declared.test) left (seen_at tests acls position declared view at) (sym passes ∙ same))

  pub walk_fails : (latest : Option ℕ) → IsLast acls name latest → is_some latest ≡ true → AreLeft (test_matches context heads lists) acls name None → false ≡ name_holds context heads lists acls name
  walk_fails latest last some left =
      by_declarations false (is_declared_by_last acls name latest last ∙ some) (none_left (test_matches context heads lists) acls name left)
