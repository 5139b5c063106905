-- Steps of a reading that comes to a value.
use Rattle.std.proofs.Common.{◌≡◌, ◌&&◌, ℕ, Bool, cond, List, true, false, Option, None, Some, Ok, Err, refl, ◌∙◌, ap, subst}
use Rattle.std.specs.Prelude.{◌≢◌, Result, option_and_then, option_map}
use Rattle.std.specs.Option.{ok_or}
use Rattle.std.proofs.lemmas.Option.{none-some, same_Some}
use Rattle.hx_calls.specs.declared.fault.SpellFault.{SpellFault}
use Rattle.hx_calls.specs.declared.fault.SpellFault.TheVariants as spell
use Rattle.hx_base.specs.Results.{◌>>=◌}
use Rattle.hx_calls.specs.Codes.{HasLineCode, is_line_code}

-- both steps of two have a value
pub and_then_ok : {A B : Type 0} (r : Result A SpellFault) (f : A → Result B SpellFault) (y : B)
    → (r >>= f) ≡ Ok y → (x : A) × (r ≡ Ok x) × (f x ≡ Ok y)
and_then_ok (Ok x) f y is = (x, refl, is)
and_then_ok (Err fault) f y is = absurd (let no : ⊥ = cc in no)

-- a value of the first step, and then of the second
pub then_ok : {A B : Type 0} (r : Result A SpellFault) (f : A → Result B SpellFault) (x : A) (y : B)
    → r ≡ Ok x → f x ≡ Ok y → (r >>= f) ≡ Ok y
then_ok r f x y is after = ap (λ found. found >>= f) is ∙ after

pub ok_or_is : {A : Type 0} (o : Option A) (fault : SpellFault) (x : A) → ok_or o fault ≡ Ok x → o ≡ Some x
ok_or_is None fault x is = absurd (let no : ⊥ = cc in no)
ok_or_is (Some y) fault x is = let same : y ≡ x = cc in ap Some same

pub both : (a b : Bool) → (a && b) ≡ true → (a ≡ true) × (b ≡ true)
both true b is = (refl, is)
both false b is = absurd (let no : ⊥ = cc in no)

pub some_and_then : {A B : Type 0} (f : A → Option B) (o : Option A) (y : B)
    → option_and_then f o ≡ Some y → (x : A) × (o ≡ Some x) × (f x ≡ Some y)
some_and_then f None y is = absurd (none-some y is)
some_and_then f (Some x) y is = (x, refl, is)

pub some_map : {A B : Type 0} (f : A → B) (o : Option A) (y : B)
    → option_map f o ≡ Some y → (x : A) × (o ≡ Some x) × (f x ≡ y)
some_map f None y is = absurd (none-some y is)
some_map f (Some x) y is = (x, refl, same_Some (f x) y is)

-- ---- values of which something is known, and codes

abbrev Holds : Bool → Type 0
Holds true = Unit {0}
Holds false = ⊥

-- it is one of the codes of a line
abbrev pub IsLineCode : ℕ → Type 0
IsLineCode n = Holds (is_line_code n)

-- it has a value that is such, or a code of a line
abbrev pub Gives : {A : Type 0} → (A → Type 0) → Result A SpellFault → Type 0
Gives P (Ok x) = P x
Gives P (Err (spell.Code n)) = IsLineCode n
Gives P (Err spell.NoMemory) = ⊥

pub then_gives : {A B : Type 0} (Q : A → Type 0) (P : B → Type 0) (r : Result A SpellFault)
    (f : A → Result B SpellFault) → Gives Q r → ((x : A) → Q x → Gives P (f x)) → Gives P (r >>= f)
then_gives Q P (Ok x) f such after = after x such
then_gives Q P (Err (spell.Code n)) f such after = such
then_gives Q P (Err spell.NoMemory) f such after = such

pub gives_also : {A : Type 0} (Q P : A → Type 0) (r : Result A SpellFault) → Gives Q r
    → ((x : A) → Q x → P x) → Gives P r
gives_also Q P (Ok x) such also = also x such
gives_also Q P (Err (spell.Code n)) such also = such
gives_also Q P (Err spell.NoMemory) such also = such

pub given_value : {A : Type 0} (P : A → Type 0) (r : Result A SpellFault) (x : A)
    → Gives P r → r ≡ Ok x → P x
given_value P (Ok y) x such is = let same : y ≡ x = cc in subst P same such
given_value P (Err fault) x such is = absurd (let no : ⊥ = cc in no)

pub never_without_memory : {A : Type 0} (P : A → Type 0) (r : Result A SpellFault)
    → Gives P r → r ≢ Err spell.NoMemory
never_without_memory P (Ok x) such is = cc
never_without_memory P (Err (spell.Code n)) such is = cc
never_without_memory P (Err spell.NoMemory) such is = such

holds_true : (b : Bool) → Holds b → b ≡ true
holds_true true holds = refl
holds_true false holds = absurd holds

pub has_line_code : {A : Type 0} (P : A → Type 0) (r : Result A SpellFault) (fault : SpellFault)
    → Gives P r → r ≡ Err fault → HasLineCode fault
has_line_code P (Ok x) fault such is = absurd (let no : ⊥ = cc in no)
has_line_code P (Err (spell.Code n)) fault such is =
    let same : spell.Code n ≡ fault = cc in subst HasLineCode same (holds_true (is_line_code n) such)
has_line_code P (Err spell.NoMemory) fault such is = absurd such

-- ---- codes alone

-- it has a value, or a code of a line
abbrev pub IsCoded : {A : Type 0} → Result A SpellFault → Type 0
IsCoded r = Gives (λ x. Unit {0}) r

pub then_coded : {A B : Type 0} (r : Result A SpellFault) (f : A → Result B SpellFault)
    → IsCoded r → ((x : A) → IsCoded (f x)) → IsCoded (r >>= f)
then_coded r f first later =
    then_gives (λ x. Unit {0}) (λ y. Unit {0}) r f first (λ x any. later x)

pub gives_coded : {A : Type 0} (P : A → Type 0) (r : Result A SpellFault) → Gives P r → IsCoded r
gives_coded P r such = gives_also P (λ x. Unit {0}) r such (λ x is. tt)

pub found_coded : {A : Type 0} (found : Option A) (n : ℕ) → IsLineCode n
    → IsCoded (ok_or found (spell.Code n))
found_coded None n is = is
found_coded (Some x) n is = tt

pub tested_coded : {A : Type 0} (b : Bool) (r s : Result A SpellFault) → IsCoded r → IsCoded s
    → IsCoded (cond b r s)
tested_coded true r s first second = first
tested_coded false r s first second = second

-- what is read of a text is such
abbrev pub ReadsSuch : {A : Type 0} → (A → Type 0) → (List ℕ → Option A) → Type 0
ReadsSuch {A} P read = (text : List ℕ) (x : A) → read text ≡ Some x → P x
