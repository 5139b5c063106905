-- A text is read as what it writes, form by form, and as nothing else.
use Rattle.std.proofs.Common.{◌≡◌, ℕ, zero, suc, ◌≤◌, ◌++◌, Bool, true, false, cond, List, [], ◌∷◌, length, Option, None, Some, arith, refl, sym, ap, ◌∙◌, subst, inl, inr}
use Rattle.std.specs.Option.{option_or}
use Rattle.std.specs.Str.{bytes_eq}
use Rattle.std.specs.Prelude.{◌≢◌, ℤ, pos, negsuc, ◌==◌, ◌||◌, nat_lt, nat_le, codes, IsTrue, IsSome, option_and_then, option_map}
use Rattle.std.specs.List.{list_all, list_any}
use Rattle.std.proofs.lemmas.Bool.{ltb-true, lt-ltb, leb-true, eqb-true}
use Rattle.std.proofs.lemmas.Int.{ints}
use Rattle.std.proofs.lemmas.Option.{cond_some, none-some, same_Some}
use Rattle.std.proofs.lemmas.List.Sums.{AllPass-from_list_all, list_all-from_AllPass}
use Rattle.std.proofs.lemmas.Slice.Eq.{bytes_eq-Decides}
use Rattle.httparse.specs.Grammar.{IsToken, is_token, is_token_byte}
use Rattle.hx_base.specs.Bytes.{ascii}
use Rattle.hx_text.specs.declared.Ip.{Ip}
use Rattle.hx_text.specs.declared.Ip.TheVariants.{V4, V6}
use Rattle.hx_text.specs.declared.Out.{Out}
use Rattle.hx_text.specs.declared.Out.TheVariants as output
use Rattle.hx_text.specs.declared.Scope.{Scope}
use Rattle.hx_text.specs.declared.Scope.TheVariants.{Proc, Sess, Txn, Req, Res}
use Rattle.hx_text.specs.declared.VarName.{VarName}
use Rattle.hx_text.specs.Address.{ip_of}
use Rattle.hx_text.specs.Cut.{cut_of}
use Rattle.hx_text.specs.Network.{mask_of, width_of}
use Rattle.hx_text.specs.Number.{int_of, number_of, number_up_to}
use Rattle.hx_ast.specs.declared.Val.{Val}
use Rattle.hx_ast.specs.declared.Val.TheVariants as val
use Rattle.hx_ast.specs.Names.{IsVariable, is_variable_byte}
use Rattle.hx_ast.specs.Convs.{IsNotNegative, is_digest_length}
use Rattle.hx_calls.specs.Forms.{Argument, Form, Writes, WritesBoolean, WritesMask, WritesOperand, WritesVariable, is_among, scope_text}
use Rattle.hx_calls.specs.Forms.Form.{Text, HeaderName, Variable, VariableOrNothing, Integer, Index, Amount, Operand, Boolean, Letters, Byte, Delimiters, Hexadecimal, Ipv4Address, Ipv6Address, Ipv4Mask, Width, DigestLength, ValueOfMap}
use Rattle.hx_calls.specs.Values.{nonzero, nonnegative, header_of, ipv4_address_of, ipv4_number, ipv6_address_of, ipv6_number, is_variable_text, value_of, value_of_map, variable_with, variable_name_of, scope_of}
use Rattle.hx_calls.proofs.ResultLemmas.{both, some_and_then, some_map}
use Rattle.hx_calls.proofs.ValueLemmas.{nonnegative_other, nonzero_other}

-- ---- numbers

nonzero_is : (z n : ℤ) → nonzero z ≡ Some n → (z ≡ n) × (n ≢ pos 0)
nonzero_is (pos zero) n is = absurd (none-some n is)
nonzero_is (pos (suc k)) n is =
    let same = same_Some (pos (suc k)) n is in
    (same, λ none. let bad : pos (suc k) ≡ pos 0 = same ∙ none in cc)
nonzero_is (negsuc k) n is =
    let same = same_Some (negsuc k) n is in
    (same, λ none. let bad : negsuc k ≡ pos 0 = same ∙ none in cc)

nonnegative_is : (z n : ℤ) → nonnegative z ≡ Some n → (z ≡ n) × IsNotNegative n
nonnegative_is (pos k) n is =
    let same = same_Some (pos k) n is in (same, subst IsNotNegative same (omega (arith, ints)))
nonnegative_is (negsuc k) n is = absurd (none-some n is)

up_to_is : (most k n : ℕ) → cond (nat_le k most) (Some k) None ≡ Some n → n ≤ most
up_to_is most k n is =
    let (test, same) = cond_some (nat_le k most) k n is in
    subst (λ (m : ℕ). m ≤ most) same (leb-true k most test)

number_within : (most : ℕ) (text : List ℕ) (n : ℕ) → number_up_to most text ≡ Some n → n ≤ most
unfolding number_up_to
number_within most text n is =
    let (k, read, same) =
    some_and_then (λ k. cond (nat_le k most) (Some k) None) (number_of text) n is in
    up_to_is most k n same

unless_none : (b : Bool) (o : Option ℕ) (n : ℕ) → cond b None o ≡ Some n → o ≡ Some n
unless_none true o n is = absurd (none-some n is)
unless_none false o n is = is

pub width_within : (most : ℕ) (text : List ℕ) (n : ℕ) → width_of most text ≡ Some n → n ≤ most
unfolding width_of
width_within most text n is =
    number_within most text n (unless_none _ (number_up_to most text) n is)

-- ---- texts

token_is : (text : List ℕ) → is_token text ≡ true → IsToken text
token_is text is =
    let (some, all) = both (nat_lt 0 (length text)) (list_all is_token_byte text) is in
    (ltb-true 0 (length text) some, AllPass-from_list_all is_token_byte text all)

pub token_passes : (text : List ℕ) → IsToken text → is_token text ≡ true
token_passes text token =
    rw (lt-ltb 0 (length text) token.0, list_all-from_AllPass is_token_byte text token.1) refl

-- ---- variables

cut_by_first : (byte b : ℕ) (text : List ℕ) (parts : List ℕ × List ℕ) (first : Bool)
    → (b == byte) ≡ first
    → ((later : List ℕ × List ℕ) → cut_of byte text ≡ Some later → text ≡ later.0 ++ byte ∷ later.1)
    → cond first (Some ([], text)) (option_map (λ p. (b ∷ p.0, p.1)) (cut_of byte text)) ≡ Some parts
    → b ∷ text ≡ parts.0 ++ byte ∷ parts.1
cut_by_first byte b text parts true same later is =
    let found : ([], text) ≡ parts = same_Some ([], text) parts is in
    subst (λ (p : List ℕ × List ℕ). b ∷ text ≡ p.0 ++ byte ∷ p.1) found
    (ap (λ c. c ∷ text) (eqb-true b byte same))
cut_by_first byte b text parts false same later is =
    let (p, cut, found) = some_map (λ p. (b ∷ p.0, p.1)) (cut_of byte text) parts is in
    subst (λ (q : List ℕ × List ℕ). b ∷ text ≡ q.0 ++ byte ∷ q.1) found
    (ap (λ t. b ∷ t) (later p cut))

cut_is : (byte : ℕ) (text : List ℕ) (parts : List ℕ × List ℕ) → cut_of byte text ≡ Some parts
    → text ≡ parts.0 ++ byte ∷ parts.1
cut_is byte [] parts is = absurd (none-some parts is)
cut_is byte (b ∷ text) parts is =
    cut_by_first byte b text parts (b == byte) refl (λ p cut. cut_is byte text p cut) is

-- the first of several words, or else what the others say
by_word : (text word : List ℕ) (same : Bool) (found scope : Scope) (others : Option Scope)
    → bytes_eq text word ≡ same → scope_text found ≡ word
    → (others ≡ Some scope → text ≡ scope_text scope)
    → cond same (Some found) others ≡ Some scope → text ≡ scope_text scope
by_word text word true found scope others same spelled later is =
    (bytes_eq-Decides text word).0 same ∙ (sym spelled ∙ ap scope_text (same_Some found scope is))
by_word text word false found scope others same spelled later is = later is

scope_is : (text : List ℕ) (scope : Scope) → scope_of text ≡ Some scope → text ≡ scope_text scope
scope_is text scope is =
    by_word text (codes "proc") (bytes_eq text (codes "proc")) Proc scope _ refl refl
    (by_word text (codes "sess") (bytes_eq text (codes "sess")) Sess scope _ refl refl
    (by_word text (codes "txn") (bytes_eq text (codes "txn")) Txn scope _ refl refl
    (by_word text (codes "req") (bytes_eq text (codes "req")) Req scope _ refl refl
    (by_word text (codes "res") (bytes_eq text (codes "res")) Res scope None refl refl
    (λ none. absurd (none-some scope none)))))) is

variable_text : (scope : Scope) (name : List ℕ) → is_variable_text name ≡ true
    → IsVariable (record { scope = scope; name = name })
variable_text scope name is =
    let (some, all) = both (nat_lt 0 (length name)) (list_all is_variable_byte name) is in
    record {
      some = ltb-true 0 (length name) some;
      bytes = AllPass-from_list_all is_variable_byte name all;
    }

text_of_variable : (v : VarName) → IsVariable v → is_variable_text v.name ≡ true
text_of_variable v such =
    rw (lt-ltb 0 (length v.name) such.some, list_all-from_AllPass is_variable_byte v.name such.bytes) refl

with_scope : (text before name : List ℕ) (scope : Option Scope) (v : VarName)
    → text ≡ before ++ ascii "." ∷ name
    → ((s : Scope) → scope ≡ Some s → before ≡ scope_text s)
    → variable_with name scope ≡ Some v → WritesVariable text v
with_scope text before name None v whole spelled is = absurd (none-some v is)
with_scope text before name (Some s) v whole spelled is =
    let (test, same) = cond_some (is_variable_text name) (record { scope = s; name = name }) v is in
    subst (λ (w : VarName). WritesVariable text w) same (record {
      text_is = whole ∙ ap (λ t. t ++ ascii "." ∷ name) (spelled s refl);
      named = variable_text s name test;
    })

variable_writes : (text : List ℕ) (v : VarName) → variable_name_of text ≡ Some v
    → WritesVariable text v
unfolding variable_name_of
variable_writes text v is =
    let (parts, cut, same) =
    some_and_then (λ parts. variable_with parts.1 (scope_of parts.0)) (cut_of (ascii ".") text) v is in
    with_scope text parts.0 parts.1 (scope_of parts.0) v (cut_is (ascii ".") text parts cut)
    (λ s found. scope_is parts.0 s found) same

spelled_variable : (scope : Scope) (name : List ℕ)
    → variable_name_of (scope_text scope ++ ascii "." ∷ name) ≡ variable_with name (Some scope)
unfolding variable_name_of
spelled_variable Proc name = refl
spelled_variable Sess name = refl
spelled_variable Txn name = refl
spelled_variable Req name = refl
spelled_variable Res name = refl

writes_variable : (text : List ℕ) (v : VarName) → WritesVariable text v
    → variable_name_of text ≡ Some v
writes_variable text v writes =
    ap variable_name_of writes.text_is
    ∙ (spelled_variable v.scope v.name
    ∙ ap (λ b. cond b (Some v) None) (text_of_variable v writes.named))

-- no text is a variable and nothing
never_nothing : (scope : Scope) (name : List ℕ) → [] ≡ scope_text scope ++ ascii "." ∷ name → ⊥
never_nothing Proc name is = let no : ⊥ = cc in no
never_nothing Sess name is = let no : ⊥ = cc in no
never_nothing Txn name is = let no : ⊥ = cc in no
never_nothing Req name is = let no : ⊥ = cc in no
never_nothing Res name is = let no : ⊥ = cc in no

nothing_writes : (text : List ℕ) (given : Option VarName)
    → value_of VariableOrNothing text ≡ Some given → Writes VariableOrNothing text given
nothing_writes [] given is =
    subst (λ (o : Option VarName). Writes VariableOrNothing [] o) (same_Some None given is) refl
nothing_writes (b ∷ text) given is =
    let (v, read, same) = some_map Some (variable_name_of (b ∷ text)) given is in
    subst (λ (o : Option VarName). Writes VariableOrNothing (b ∷ text) o) same
    (variable_writes (b ∷ text) v read)

writes_nothing : (text : List ℕ) (given : Option VarName)
    → Writes VariableOrNothing text given → value_of VariableOrNothing text ≡ Some given
writes_nothing [] None writes = refl
writes_nothing (b ∷ text) None writes = absurd (let no : ⊥ = cc in no)
writes_nothing [] (Some v) writes = absurd (never_nothing v.scope v.name writes.text_is)
writes_nothing (b ∷ text) (Some v) writes =
    ap (option_map Some) (writes_variable (b ∷ text) v writes)

operand_writes : (text : List ℕ) (n : Option ℤ) (name : Option VarName) (given : Val)
    → int_of text ≡ n → variable_name_of text ≡ name
    → option_or (option_map val.Number n) (option_map val.Var name) ≡ Some given
    → WritesOperand text given
operand_writes text (Some n) name given number variable is =
    subst (λ (v : Val). WritesOperand text v) (same_Some (val.Number n) given is) number
operand_writes text None None given number variable is = absurd (none-some given is)
operand_writes text None (Some v) given number variable is =
    subst (λ (w : Val). WritesOperand text w) (same_Some (val.Var v) given is)
    (number, variable_writes text v variable)

writes_operand : (text : List ℕ) (given : Val) → WritesOperand text given
    → value_of Operand text ≡ Some given
writes_operand text (val.Number n) writes =
    ap (λ o. option_or (option_map val.Number o) (option_map val.Var (variable_name_of text))) writes
writes_operand text (val.Var v) (number, writes) =
    ap (λ o. option_or (option_map val.Number o) (option_map val.Var (variable_name_of text))) number
    ∙ ap (option_map val.Var) (writes_variable text v writes)

-- ---- booleans

boolean_writes : (text : List ℕ) (given yes_1 yes_2 no_1 no_2 : Bool)
    → bytes_eq text (codes "true") ≡ yes_1 → bytes_eq text (codes "1") ≡ yes_2
    → bytes_eq text (codes "false") ≡ no_1 → bytes_eq text (codes "0") ≡ no_2
    → cond (yes_1 || yes_2) (Some true) (cond (no_1 || no_2) (Some false) None) ≡ Some given
    → WritesBoolean text given
boolean_writes text given true yes_2 no_1 no_2 a b c d is =
    subst (λ (g : Bool). WritesBoolean text g) (same_Some true given is)
    (inl ((bytes_eq-Decides text (codes "true")).0 a))
boolean_writes text given false true no_1 no_2 a b c d is =
    subst (λ (g : Bool). WritesBoolean text g) (same_Some true given is)
    (inr ((bytes_eq-Decides text (codes "1")).0 b))
boolean_writes text given false false true no_2 a b c d is =
    subst (λ (g : Bool). WritesBoolean text g) (same_Some false given is)
    (inl ((bytes_eq-Decides text (codes "false")).0 c))
boolean_writes text given false false false true a b c d is =
    subst (λ (g : Bool). WritesBoolean text g) (same_Some false given is)
    (inr ((bytes_eq-Decides text (codes "0")).0 d))
boolean_writes text given false false false false a b c d is = absurd (none-some given is)

writes_boolean : (text : List ℕ) (given : Bool) → WritesBoolean text given
    → value_of Boolean text ≡ Some given
writes_boolean text true (inl is) = rw is refl
writes_boolean text true (inr is) = rw is refl
writes_boolean text false (inl is) = rw is refl
writes_boolean text false (inr is) = rw is refl

-- ---- addresses

ipv4_is : (ip : Ip) (n : ℕ) → ipv4_number ip ≡ Some n → ip ≡ V4 n
ipv4_is (V4 a) n is = ap (λ b. V4 b) (same_Some a n is)
ipv4_is (V6 a) n is = absurd (none-some n is)

ipv6_is : (ip : Ip) (n : ℕ) → ipv6_number ip ≡ Some n → ip ≡ V6 n
ipv6_is (V4 a) n is = absurd (none-some n is)
ipv6_is (V6 a) n is = ap (λ b. V6 b) (same_Some a n is)

ipv4_writes : (text : List ℕ) (ip : Ip) → ipv4_address_of text ≡ Some ip
    → Writes Ipv4Address text ip
ipv4_writes text ip is =
    let (n, read, same) = some_map (λ n. V4 n) (option_and_then ipv4_number (ip_of text)) ip is in
    let (found, address, number) = some_and_then ipv4_number (ip_of text) n read in
    (address ∙ ap Some (ipv4_is found n number ∙ same), (n, sym same))

ipv6_writes : (text : List ℕ) (ip : Ip) → ipv6_address_of text ≡ Some ip
    → Writes Ipv6Address text ip
ipv6_writes text ip is =
    let (n, read, same) = some_map (λ n. V6 n) (option_and_then ipv6_number (ip_of text)) ip is in
    let (found, address, number) = some_and_then ipv6_number (ip_of text) n read in
    (address ∙ ap Some (ipv6_is found n number ∙ same), (n, sym same))

writes_ipv4 : (text : List ℕ) (ip : Ip) → Writes Ipv4Address text ip
    → ipv4_address_of text ≡ Some ip
writes_ipv4 text ip (address, (n, is)) =
    ap (λ o. option_map (λ a. V4 a) (option_and_then ipv4_number o)) (address ∙ ap Some is)
    ∙ ap Some (sym is)

writes_ipv6 : (text : List ℕ) (ip : Ip) → Writes Ipv6Address text ip
    → ipv6_address_of text ≡ Some ip
writes_ipv6 text ip (address, (n, is)) =
    ap (λ o. option_map (λ a. V6 a) (option_and_then ipv6_number o)) (address ∙ ap Some is)
    ∙ ap Some (sym is)

mask_writes : (text : List ℕ) (bits : Option ℕ) (given : ℕ) → width_of 32 text ≡ bits
    → option_or (option_map mask_of bits) (option_and_then ipv4_number (ip_of text)) ≡ Some given
    → WritesMask text given
mask_writes text (Some bits) given width is =
    inl (bits, width, sym (same_Some (mask_of bits) given is))
mask_writes text None given width is =
    let (found, address, number) = some_and_then ipv4_number (ip_of text) given is in
    inr (width, address ∙ ap Some (ipv4_is found given number))

writes_mask : (text : List ℕ) (given : ℕ) → WritesMask text given
    → value_of Ipv4Mask text ≡ Some given
writes_mask text given (inl (bits, width, is)) =
    ap (λ o. option_or (option_map mask_of o) (option_and_then ipv4_number (ip_of text))) width
    ∙ ap Some (sym is)
writes_mask text given (inr (width, address)) =
    ap (λ o. option_or (option_map mask_of o) (option_and_then ipv4_number (ip_of text))) width
    ∙ ap (option_and_then ipv4_number) address

-- ---- values of maps

map_value_writes : (out : Out) (text given : List ℕ) → value_of_map out text ≡ Some given
    → Writes (ValueOfMap out) text given
map_value_writes output.Str text given is = (sym (same_Some text given is), tt)
map_value_writes output.Int text given is =
    let (n, read, same) = some_map (λ n. text) (int_of text) given is in (sym same, rw read refl)
map_value_writes output.Ip text given is =
    let (ip, read, same) = some_map (λ ip. text) (ip_of text) given is in (sym same, rw read refl)

kept_text : {A : Type 0} (text given : List ℕ) (found : Option A) → given ≡ text → IsSome found
    → option_map (λ x. text) found ≡ Some given
kept_text text given (Some x) same some = ap Some (sym same)
kept_text text given None same none = let no : ⊥ = cc in absurd no

writes_map_value : (out : Out) (text given : List ℕ) → Writes (ValueOfMap out) text given
    → value_of_map out text ≡ Some given
writes_map_value output.Str text given (same, any) = ap Some (sym same)
writes_map_value output.Int text given (same, some) = kept_text text given (int_of text) same some
writes_map_value output.Ip text given (same, some) = kept_text text given (ip_of text) same some

-- ---- all forms

pub value_writes : (form : Form) (text : List ℕ) (given : Argument form)
    → value_of form text ≡ Some given → Writes form text given
value_writes Text text given is = sym (same_Some text given is)
value_writes HeaderName text given is =
    let (test, same) = cond_some (is_token text) text given is in (sym same, token_is text test)
value_writes Variable text given is = variable_writes text given is
value_writes VariableOrNothing text given is = nothing_writes text given is
value_writes Integer text given is = is
value_writes Index text given is =
    let (z, read, found) = some_and_then nonzero (int_of text) given is in
    let (same, other) = nonzero_is z given found in (read ∙ ap Some same, other)
value_writes Amount text given is =
    let (z, read, found) = some_and_then nonnegative (int_of text) given is in
    let (same, positive) = nonnegative_is z given found in (read ∙ ap Some same, positive)
value_writes Operand text given is =
    operand_writes text (int_of text) (variable_name_of text) given refl refl is
value_writes Boolean text given is =
    boolean_writes text given (bytes_eq text (codes "true")) (bytes_eq text (codes "1"))
    (bytes_eq text (codes "false")) (bytes_eq text (codes "0")) refl refl refl refl is
value_writes Letters text given is =
    let (test, same) = cond_some (list_all (is_among (codes "gi")) text)
    (list_any (is_among (codes "g")) text, list_any (is_among (codes "i")) text) given is in (
      test,
      ap (λ (found : Bool × Bool). found.0) (sym same),
      ap (λ (found : Bool × Bool). found.1) (sym same),
    )
value_writes Byte [] given is = absurd (none-some given is)
value_writes Byte (b ∷ []) given is = ap (λ c. c ∷ []) (same_Some b given is)
value_writes Byte (b ∷ c ∷ text) given is = absurd (none-some given is)
value_writes Delimiters text given is =
    let (test, same) = cond_some (nat_lt 0 (length text)) text given is in
    (sym same, ltb-true 0 (length text) test)
value_writes Hexadecimal text given is = is
value_writes Ipv4Address text given is = ipv4_writes text given is
value_writes Ipv6Address text given is = ipv6_writes text given is
value_writes Ipv4Mask text given is = mask_writes text (width_of 32 text) given refl is
value_writes (Width most) text given is = is
value_writes DigestLength text given is =
    let (bits, read, found) =
    some_and_then (λ k. cond (is_digest_length k) (Some k) None) (width_of 512 text) given is in
    let (test, same) = cond_some (is_digest_length bits) bits given found in
    (read ∙ ap Some same, subst (λ (n : ℕ). IsTrue (is_digest_length n)) same test)
value_writes (ValueOfMap out) text given is = map_value_writes out text given is

pub writes_value : (form : Form) (text : List ℕ) (given : Argument form)
    → Writes form text given → value_of form text ≡ Some given
writes_value Text text given writes = ap Some (sym writes)
writes_value HeaderName text given (same, token) =
    ap (λ b. cond b (Some text) None) (token_passes text token) ∙ ap Some (sym same)
writes_value Variable text given writes = writes_variable text given writes
writes_value VariableOrNothing text given writes = writes_nothing text given writes
writes_value Integer text given writes = writes
writes_value Index text given (read, other) =
    ap (option_and_then nonzero) read ∙ nonzero_other given other
writes_value Amount text given (read, positive) =
    ap (option_and_then nonnegative) read ∙ nonnegative_other given positive
writes_value Operand text given writes = writes_operand text given writes
writes_value Boolean text given writes = writes_boolean text given writes
writes_value Letters text given (all, each, ci) =
    ap (λ b. cond b (Some (list_any (is_among (codes "g")) text, list_any (is_among (codes "i")) text)) None) all
    ∙ rw (← each, ← ci) refl
writes_value Byte text given writes = rw writes refl
writes_value Delimiters text given (same, some) =
    ap (λ b. cond b (Some text) None) (lt-ltb 0 (length text) some) ∙ ap Some (sym same)
writes_value Hexadecimal text given writes = writes
writes_value Ipv4Address text given writes = writes_ipv4 text given writes
writes_value Ipv6Address text given writes = writes_ipv6 text given writes
writes_value Ipv4Mask text given writes = writes_mask text given writes
writes_value (Width most) text given writes = writes
writes_value DigestLength text given (read, test) =
    ap (option_and_then (λ k. cond (is_digest_length k) (Some k) None)) read
    ∙ ap (λ b. cond b (Some given) None) test
writes_value (ValueOfMap out) text given writes = writes_map_value out text given writes

-- ---- what a text of a form is

pub header_such : (text found : List ℕ) → header_of text ≡ Some found → IsToken found
header_such text found is =
    let (same, token) = value_writes HeaderName text found is in subst IsToken (sym same) token

pub variable_such : (text : List ℕ) (v : VarName) → variable_name_of text ≡ Some v → IsVariable v
variable_such text v is = (variable_writes text v is).named
