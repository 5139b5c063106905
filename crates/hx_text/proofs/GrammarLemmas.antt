-- What `ip_of` gives is what the grammar says, and it is none only where the grammar has no
-- address.
use Rattle.std.proofs.Common.{◌≡◌, ℕ, ◌+◌, ◌*◌, ◌^◌, take, Bool, true, false, if◌then◌else◌, eqb, List, [], ◌∷◌, ◌++◌, length, Option, Some, None, All, refl, sym, ap, ◌∙◌, subst, arith, append_assoc, append-nil, inl, inr, leb, get_or}
use Rattle.std.specs.Option.{option_and_then, option_map, option_or}
use Rattle.std.specs.List.{fold, join_with_byte}
use Rattle.std.proofs.lemmas.Bool.{eqb-true, ne_eqb}
use Rattle.std.proofs.lemmas.Str.Parse.{digit_at}
use Rattle.std.proofs.lemmas.Option.{none-some, same_Some}
use Rattle.std.proofs.lemmas.List.{nil_from_length}
use Rattle.std.proofs.lemmas.List.Elements.{All-append, All-cons, All-from_get_or, All-drop, All-head}
use Rattle.std.proofs.lemmas.List.Splits.{join_with_byte-slice_split, slice_split_none}
use Rattle.std.specs.Prelude.{codes}
use Rattle.std.specs.Net.Addr.{segments_of}
use Rattle.std.proofs.Math.Seq.{drop-append_seam, take-append_seam}
use Rattle.std.specs.Int.{w32, from_be_bytes}
use Rattle.std.specs.Net.Grammar.{IsDotted, IsColonHex}
use Rattle.std.specs.Net.Reader.{Read, read_ipv6, whole_value}
use Rattle.std.proofs.NetLemmas.Ipv6.{read_ipv6_sound}
use Rattle.std.proofs.NetLemmas.Options.{and_then_some, map_some, cond_some, same_parts}
use Rattle.hx_text.specs.declared.address.Ip.{Ip}
use Rattle.hx_text.specs.declared.address.Ip.TheVariants.{V4, V6}
use Rattle.hx_text.specs.Address.{octet_of, dotted_of, groups_number, plain_groups_of, address_ending_in, dotted_end_of, colon_hex_of, EndsInIpv4, IsIpText, ip_of}
use Rattle.hx_text.specs.Cut.{pieces, last_cut_of}
use Rattle.hx_text.proofs.NumberLemmas.{own, up_to_has_digits}
use Rattle.hx_text.proofs.AddressLemmas.{octet_by_octet, four_octets_are, last_cut_of_none, IsOther, dotted_one, kept_some, last_cut_of-append}
use Rattle.hx_text.proofs.DottedEndLemmas.{ends_in_dotted}
use Rattle.hx_text.proofs.RoundTripLemmas.{dotted_of-dotted_text}
use Rattle.hx_text.proofs.ColonHexLemmas.{plain_none, colon_hex_none, plain_spelled, colon_hex_spelled, colon_hex_plain, colon_hex_by_end}

-- ---- an IPv6 address that is read is one of the grammar

whole_spelled : (text groups : List ℕ) (read : Read (List ℕ)) → read_ipv6 text ≡ read
    → whole_value read ≡ Some groups → IsColonHex text groups
whole_spelled text groups None e whole = absurd (none-some groups whole)
whole_spelled text groups (Some p) e whole =
    let (empty, same) = cond_some (eqb (length p.1) 0) p.0 groups whole in
    let (prefix, split, spelled) = read_ipv6_sound text p.0 p.1 e in
    let ended : p.1 ≡ [] = nil_from_length p.1 (eqb-true (length p.1) 0 empty) in
    let text_is : text ≡ prefix = split ∙ ap (λ r. prefix ++ r) ended ∙ append-nil prefix in
    subst (IsColonHex text) same (subst (λ t. IsColonHex t p.0) (sym text_is) spelled)

plain_sound : (text groups : List ℕ) → plain_groups_of text ≡ Some groups → IsColonHex text groups
unfolding plain_groups_of
plain_sound text groups whole = whole_spelled text groups (read_ipv6 text) refl whole

-- a cut after the last colon is a cut after a colon
record IsCut (byte : ℕ) (text prefix end : List ℕ) : Type 0 where
  before : List ℕ
  is_prefix : prefix ≡ before ++ byte ∷ []
  whole : text ≡ before ++ byte ∷ end

module _ (byte b : ℕ) (text prefix end : List ℕ)
    (deeper : (f e : List ℕ) → last_cut_of byte text ≡ Some (f, e) → IsCut byte text f e) where
  last_cut_step : (cut : Option (List ℕ × List ℕ)) (has_value : Bool) → last_cut_of byte text ≡ cut
      → eqb b byte ≡ has_value
      → option_or {T = List ℕ × List ℕ} (option_map (λ p. (b ∷ p.0, p.1)) cut)
      (if has_value then Some (b ∷ [], text) else None) ≡ Some (prefix, end)
      → IsCut byte (b ∷ text) prefix end
  last_cut_step (Some p) has_value is_cut is e =
      let later = deeper p.0 p.1 is_cut in
      let same = same_parts (b ∷ p.0) prefix p.1 end e in
      record {
        before = b ∷ later.before;
        is_prefix = sym same.0 ∙ ap (λ t. b ∷ t) later.is_prefix;
        whole = ap (λ t. b ∷ t) later.whole ∙ ap (λ t. b ∷ (later.before ++ byte ∷ t)) same.1;
      }
  last_cut_step None true is_cut is e =
      let same = same_parts (b ∷ []) prefix text end e in
      let here = eqb-true b byte is in
      record {
        before = [];
        is_prefix = sym same.0 ∙ ap (λ x. x ∷ []) here;
        whole = ap (λ x. x ∷ text) here ∙ ap (λ t. byte ∷ t) same.1;
      }
  last_cut_step None false is_cut is e = absurd (none-some (prefix, end) e)

last_cut_sound : (byte : ℕ) (text prefix end : List ℕ) → last_cut_of byte text ≡ Some (prefix, end)
    → IsCut byte text prefix end
last_cut_sound byte [] prefix end e = absurd (none-some (prefix, end) e)
last_cut_sound byte (b ∷ text) prefix end e =
    last_cut_step byte b text prefix end (λ f e'. last_cut_sound byte text f e')
    (last_cut_of byte text) (eqb b byte) refl refl e

by_end_sound : (text : List ℕ) (a : ℕ)
    → option_and_then dotted_end_of (last_cut_of 58 text) ≡ Some a → EndsInIpv4 text a
by_end_sound text a e =
    and_then_some dotted_end_of (last_cut_of 58 text) a e λ parts is_cut read.
    and_then_some (λ four. option_map (address_ending_in four)
    (plain_groups_of (parts.0 ++ codes "0:0"))) (dotted_of parts.1) a read λ four dotted rest.
    map_some (address_ending_in four) (plain_groups_of (parts.0 ++ codes "0:0")) a rest λ groups
    is_groups number.
    let cut = last_cut_sound 58 text parts.0 parts.1 is_cut in
    let joined : parts.0 ++ codes "0:0" ≡ cut.before ++ codes ":0:0" =
    ap (λ t. t ++ codes "0:0") cut.is_prefix ∙ append_assoc cut.before (58 ∷ []) (codes "0:0") in
    record {
      before = cut.before;
      end = parts.1;
      ipv4 = four;
      groups = groups;
      spelled = cut.whole ∙ sym (append_assoc cut.before (58 ∷ []) parts.1);
      dotted = dotted;
      plain = subst (λ t. IsColonHex t groups) joined
          (plain_sound (parts.0 ++ codes "0:0") groups is_groups);
      number = sym number;
    }

colon_hex_sound : (text : List ℕ) (a : ℕ) (plain : Option (List ℕ)) → plain_groups_of text ≡ plain
    → colon_hex_of text ≡ Some a → IsIpText text (V6 a)
colon_hex_sound text a (Some groups) is_plain e =
    let same = same_Some (groups_number groups) a (colon_hex_plain text groups is_plain ∙ e) in
    inl (record { groups = groups; spelled = plain_sound text groups is_plain; number = sym same })
colon_hex_sound text a None is_plain e =
    inr (by_end_sound text a (colon_hex_by_end text is_plain ∙ e))

pub six_spelled : (text : List ℕ) (a : ℕ) → colon_hex_of text ≡ Some a → IsIpText text (V6 a)
six_spelled text a e = colon_hex_sound text a (plain_groups_of text) refl e

-- ---- each text of the grammar is read

octet_no_colon : (piece : List ℕ) (n : ℕ) → octet_of piece ≡ Some n → All (IsOther 58) piece
unfolding octet_of
octet_no_colon piece n e =
    let digits = up_to_has_digits 255 piece n (kept_some (leb (length piece) 3) _ _ e) in
    All-from_get_or (IsOther 58) piece 0
    (λ k h. let d = digit_at piece k (own.to piece digits) h in ne_eqb (get_or piece k 0) 58
    (omega arith))

four_no_colon : (parts : List (List ℕ)) (four : ℕ) → octet_by_octet parts ≡ Some four
    → All (IsOther 58) (join_with_byte 46 parts)
four_no_colon (p ∷ q ∷ r ∷ s ∷ []) four e =
    and_then_some _ (octet_of p) four e λ a is_a e₁.
    and_then_some _ (octet_of q) four e₁ λ b is_b e₂.
    and_then_some _ (octet_of r) four e₂ λ c is_c e₃.
    and_then_some _ (octet_of s) four e₃ λ d is_d e₄.
    let dot = λ (xs : List ℕ) (h : All (IsOther 58) xs). All-cons (IsOther 58) 46 xs refl h in
    All-append (IsOther 58) p _ (octet_no_colon p a is_a) (dot _
    (All-append (IsOther 58) q _ (octet_no_colon q b is_b) (dot _
    (All-append (IsOther 58) r _ (octet_no_colon r c is_c) (dot _ (octet_no_colon s d is_d))))))
four_no_colon [] four e = absurd (none-some four e)
four_no_colon (p ∷ []) four e = absurd (none-some four e)
four_no_colon (p ∷ q ∷ []) four e = absurd (none-some four e)
four_no_colon (p ∷ q ∷ r ∷ []) four e = absurd (none-some four e)
four_no_colon (p ∷ q ∷ r ∷ s ∷ t ∷ more) four e = absurd (none-some four e)

dotted_no_colon : (text : List ℕ) (four : ℕ) → dotted_of text ≡ Some four → All (IsOther 58) text
unfolding dotted_of
dotted_no_colon text four e =
    subst (All (IsOther 58)) (join_with_byte-slice_split 46 text)
    (four_no_colon (pieces 46 text) four (sym (four_octets_are (pieces 46 text)) ∙ e))

end_cut : (text : List ℕ) (a : ℕ) (h : EndsInIpv4 text a)
    → last_cut_of 58 text ≡ Some (h.before ++ 58 ∷ [], h.end)
end_cut text a h =
    ap (last_cut_of 58) (h.spelled ∙ append_assoc h.before (58 ∷ []) h.end)
    ∙ last_cut_of-append 58 h.before 58 h.end refl (dotted_no_colon h.end h.ipv4 h.dotted)

by_end_complete : (text : List ℕ) (a : ℕ) → EndsInIpv4 text a
    → option_and_then dotted_end_of (last_cut_of 58 text) ≡ Some a
by_end_complete text a h =
    let plain : plain_groups_of ((h.before ++ 58 ∷ []) ++ codes "0:0") ≡ Some h.groups =
    ap plain_groups_of (append_assoc h.before (58 ∷ []) (codes "0:0"))
    ∙ plain_spelled _ h.groups h.plain in
    rw (end_cut text a h, h.dotted, plain) (ap Some (sym h.number))

-- ---- a text that ends in an IPv4 address, and is one of std's grammar as it stands

has_dot : (text : List ℕ) (ipv4 : ℕ) → dotted_of text ≡ Some ipv4 → All (IsOther 46) text → ⊥
has_dot text ipv4 e other =
    none-some ipv4 (dotted_one text (slice_split_none (λ b. eqb b 46) text other) ∙ e)

end_has_dot : (before end text : List ℕ) (ipv4 : ℕ) → text ≡ before ++ end
    → dotted_of end ≡ Some ipv4 → All (IsOther 46) text → ⊥
end_has_dot before end text ipv4 e dotted other =
    let shown = subst (All (IsOther 46)) e other in
    has_dot end ipv4 dotted
    (subst (All (IsOther 46)) (drop-append_seam before end)
    (All-drop (IsOther 46) (length before) (before ++ end) shown))

dotted_read : (text octets : List ℕ) → IsDotted text octets
    → dotted_of text ≡ Some (from_be_bytes w32 octets)
dotted_read text octets h =
    ap dotted_of h.spelled
    ∙ dotted_of-dotted_text h.a h.b h.c h.d h.fit.0 h.fit.1 h.fit.2 h.fit.3
    ∙ ap (λ o. Some (from_be_bytes w32 o)) (sym h.value)

-- the number whose digits to the base 2^16 are these, the highest first, after those of n
abbrev groups_number_after : ℕ → List ℕ → ℕ
groups_number_after n groups = fold (λ m g. m * 2 ^ 16 + g) n groups

groups_number_after-append : (n : ℕ) (xs ys : List ℕ)
    → groups_number_after n (xs ++ ys) ≡ groups_number_after (groups_number_after n xs) ys
groups_number_after-append n [] ys = refl
groups_number_after-append n (x ∷ xs) ys = groups_number_after-append (n * 2 ^ 16 + x) xs ys

number_with_end : (first octets text : List ℕ) → IsDotted text octets
    → groups_number (first ++ segments_of octets) ≡ groups_number first * 2 ^ 32 + from_be_bytes
    w32 octets
number_with_end first octets text h =
    let n = groups_number first in
    let value : groups_number_after n (segments_of (h.a ∷ h.b ∷ h.c ∷ h.d ∷ []))
    ≡ n * 2 ^ 32 + from_be_bytes w32 (h.a ∷ h.b ∷ h.c ∷ h.d ∷ []) = omega arith in
    groups_number_after-append 0 first (segments_of octets)
    ∙ subst (λ o. groups_number_after n (segments_of o) ≡ n * 2 ^ 32 + from_be_bytes w32 o)
    (sym h.value) value

-- the two readings agree
plain_same : (text : List ℕ) (a : ℕ) (segments : List ℕ) → EndsInIpv4 text a
    → IsColonHex text segments → groups_number segments ≡ a
plain_same text a segments h spelled =
    let dot = end_has_dot (h.before ++ 58 ∷ []) h.end text h.ipv4 h.spelled h.dotted in
    let e = ends_in_dotted text segments dot spelled in
    let c : List ℕ = e.is_before.0 in
    let is_before : e.before ≡ c ++ 58 ∷ [] = e.is_before.1 in
    let last_read = dotted_read e.last e.octets e.dotted in
    let is_text : text ≡ c ++ 58 ∷ e.last =
    e.is_text ∙ ap (λ t. t ++ e.last) is_before ∙ append_assoc c (58 ∷ []) e.last in
    let last_cut : last_cut_of 58 text ≡ Some (c ++ 58 ∷ [], e.last) =
    ap (last_cut_of 58) is_text
    ∙ last_cut_of-append 58 c 58 e.last refl (dotted_no_colon e.last _ last_read) in
    let same =
    same_parts (c ++ 58 ∷ []) (h.before ++ 58 ∷ []) e.last h.end
    (sym last_cut ∙ end_cut text a h) in
    let ipv4 : from_be_bytes w32 e.octets ≡ h.ipv4 =
    same_Some _ _ (sym last_read ∙ ap dotted_of same.1 ∙ h.dotted) in
    let shown : e.before ++ codes "0:0" ≡ h.before ++ codes ":0:0" =
    ap (λ t. t ++ codes "0:0") (is_before ∙ same.0)
    ∙ append_assoc h.before (58 ∷ []) (codes "0:0") in
    let groups : e.first ++ 0 ∷ 0 ∷ [] ≡ h.groups =
    same_Some _ _ (sym (plain_spelled _ _ e.plain) ∙ ap plain_groups_of shown
    ∙ plain_spelled _ _ h.plain) in
    let six : e.first ≡ take 6 h.groups =
    sym (take-append_seam e.first (0 ∷ 0 ∷ [])) ∙ ap (λ n. take n (e.first ++ 0 ∷ 0 ∷ [])) e.six
    ∙ ap (take 6) groups in
    ap groups_number e.is_segments ∙ number_with_end e.first e.octets e.last e.dotted
    ∙ ap (λ n. groups_number e.first * 2 ^ 32 + n) ipv4
    ∙ ap (λ gs. groups_number gs * 2 ^ 32 + h.ipv4) six ∙ sym h.number

by_end_unique : (text : List ℕ) (a : ℕ) (plain : Option (List ℕ)) → plain_groups_of text ≡ plain
    → EndsInIpv4 text a → colon_hex_of text ≡ Some a
by_end_unique text a (Some groups) is_plain h =
    sym (colon_hex_plain text groups is_plain)
    ∙ ap Some (plain_same text a groups h (plain_sound text groups is_plain))
by_end_unique text a None is_plain h =
    sym (colon_hex_by_end text is_plain) ∙ by_end_complete text a h

six_unique : (text : List ℕ) (a : ℕ) → IsIpText text (V6 a) → colon_hex_of text ≡ Some a
six_unique text a (inl h) = colon_hex_spelled text h.groups h.spelled ∙ ap Some (sym h.number)
six_unique text a (inr h) = by_end_unique text a (plain_groups_of text) refl h

-- ---- no text writes both an IPv4 and an IPv6 address

colon_inside : (prefix back text : List ℕ) → text ≡ prefix ++ 58 ∷ back → All (IsOther 58) text → ⊥
colon_inside prefix back text e other =
    let shown = subst (All (IsOther 58)) e other in
    let after =
    subst (All (IsOther 58)) (drop-append_seam prefix (58 ∷ back))
    (All-drop (IsOther 58) (length prefix) (prefix ++ 58 ∷ back) shown) in
    let same : true ≡ false = All-head (IsOther 58) 58 back after in
    cc

has_colon : (text groups : List ℕ) → IsColonHex text groups → All (IsOther 58) text → ⊥
has_colon text [] (inl h) other = absurd (omega (arith, h.1))
has_colon text (g ∷ []) (inl h) other = absurd (omega (arith, h.1))
has_colon text (g ∷ g₂ ∷ more) (inl (inl (group, rest, split, is, inl next), eight)) other =
    colon_inside group (next.0 ++ next.1) text
    (split ∙ ap (λ t. group ++ t) (next.2 ∙ append_assoc (58 ∷ []) next.0 next.1)) other
has_colon text (g ∷ g₂ ∷ more) (inl (inl (group, rest, split, is, inr last), eight)) other =
    colon_inside group last.0 text (split ∙ ap (λ t. group ++ t) last.3) other
has_colon text (g ∷ g₂ ∷ more) (inl (inr h, eight)) other =
    let two : length (g ∷ g₂ ∷ more) ≡ 2 =
    ap length h.5 ∙ ap (λ o. length (segments_of o)) h.4.value in
    absurd (omega (arith, two, eight))
has_colon text groups (inr h) other =
    colon_inside h.head_text (58 ∷ h.tail_text) text
    (h.spelled ∙ append_assoc h.head_text (58 ∷ 58 ∷ []) h.tail_text) other

-- a text in dotted decimal is no IPv6 address
pub dotted_no_six : (text : List ℕ) (a : ℕ) → dotted_of text ≡ Some a → colon_hex_of text ≡ None
dotted_no_six text a dotted =
    let other = dotted_no_colon text a dotted in
    let plain = sym (plain_none text (λ groups spelled. has_colon text groups spelled other)) in
    colon_hex_none text plain (last_cut_of_none 58 text other)

-- ---- a text that writes an address is read as that address

pub ip_unique : (text : List ℕ) (ip : Ip) → IsIpText text ip → ip_of text ≡ Some ip
unfolding ip_of
ip_unique text (V4 a) h = rw (dotted_no_six text a h, h) refl
ip_unique text (V6 a) h = rw (six_unique text a h) refl

pub six_value : (text : List ℕ) (a : ℕ) → colon_hex_of text ≡ Some a → Some (V6 a) ≡ ip_of text
unfolding ip_of
six_value text a e = rw e refl

pub four_value : (text : List ℕ) (a : ℕ) → colon_hex_of text ≡ None → dotted_of text ≡ Some a
    → Some (V4 a) ≡ ip_of text
unfolding ip_of
four_value text a no_six e = rw (no_six, e) refl

pub none_refused : (text : List ℕ) → colon_hex_of text ≡ None → dotted_of text ≡ None
    → (ip : Ip) → IsIpText text ip → ⊥
none_refused text no_six no_four (V4 a) h = none-some a (sym no_four ∙ h)
none_refused text no_six no_four (V6 a) h = none-some a (sym no_six ∙ six_unique text a h)
