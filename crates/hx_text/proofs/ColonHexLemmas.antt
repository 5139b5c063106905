-- The IPv6 texts of std's grammar, and the groups that each writes.
use Rattle.std.proofs.Common.{◌≡◌, ℕ, List, [], ◌∷◌, length, Some, None, sym, ◌∙◌, subst, append-nil, ne_eqb, arith, refl, Bool, false, true, ◌+◌, ◌*◌, ◌<◌, ◌≤◌, length-append, inl, inr, ap, ◌++◌}
use Rattle.std.specs.Net.Grammar.{IsDotted, IsGroupsAfter, IsColonHex}
use Rattle.std.specs.Net.Addr.{segments_of}
use Rattle.std.specs.Option.{option_and_then, option_map}
use Rattle.std.proofs.lemmas.Fmt.{length-decimal-le}
use Rattle.std.specs.Net.Reader.{Read, read_ipv6, whole_value}
use Rattle.std.proofs.NetLemmas.Ipv6.{read_ipv6_complete, read_ipv6_sound, EndsGroups-nil}
use Rattle.hx_text.specs.Address.{groups_number, plain_groups_of, address_ending_in, dotted_end_of, colon_hex_of}
use Rattle.hx_text.specs.Cut.{last_cut_of}

-- a text of the grammar writes its groups
pub plain_spelled : (text groups : List ℕ) → IsColonHex text groups
    → plain_groups_of text ≡ Some groups
unfolding plain_groups_of
plain_spelled text groups spelled =
    let read = rw append-nil at (read_ipv6_complete text groups [] spelled EndsGroups-nil) in
    rw read refl

module _ (text : List ℕ) (never : (groups : List ℕ) → IsColonHex text groups → ⊥) where
  left_over : (groups rest : List ℕ) → read_ipv6 text ≡ Some (groups, rest)
      → whole_value (Some (groups, rest)) ≡ None
  left_over groups [] e =
      let (prefix, split, spelled) = read_ipv6_sound text groups [] e in
      absurd (never groups (subst (λ t. IsColonHex t groups) (sym (split ∙ append-nil prefix))
      spelled))
  left_over groups (c ∷ rest) e = rw (ne_eqb (length (c ∷ rest)) 0 (omega arith))

  not_read : (read : Read (List ℕ)) → read_ipv6 text ≡ read → whole_value read ≡ None
  not_read None e = refl
  not_read (Some p) e = left_over p.0 p.1 e

  -- any other text writes none
  pub plain_none : None ≡ plain_groups_of text
  unfolding plain_groups_of
  plain_none = rw (not_read (read_ipv6 text) refl) refl

-- ---- with an end whose octets may have leading zeros

pub colon_hex_spelled : (text groups : List ℕ) → IsColonHex text groups
    → colon_hex_of text ≡ Some (groups_number groups)
unfolding colon_hex_of
colon_hex_spelled text groups spelled = rw (plain_spelled text groups spelled) refl

pub colon_hex_plain : (text groups : List ℕ) → plain_groups_of text ≡ Some groups
    → Some (groups_number groups) ≡ colon_hex_of text
unfolding colon_hex_of
colon_hex_plain text groups e = rw e refl

pub colon_hex_by_end : (text : List ℕ) → plain_groups_of text ≡ None
    → option_and_then dotted_end_of (last_cut_of 58 text) ≡ colon_hex_of text
unfolding colon_hex_of
colon_hex_by_end text e = rw e refl

pub colon_hex_none : (text : List ℕ) → plain_groups_of text ≡ None → last_cut_of 58 text ≡ None
    → colon_hex_of text ≡ None
unfolding colon_hex_of
colon_hex_none text plain cut = rw (plain, cut) refl

-- by whether the text is one of std's grammar as it stands
pub ruleset colon_hex_cases = (colon_hex_plain, colon_hex_by_end)

-- ---- how long such a text may be

length-dotted : (text octets : List ℕ) → IsDotted text octets → length text ≤ 15
length-dotted text octets dotted =
    let (a, b, c, d) = dotted.fit in
    let short =
    λ (n : ℕ) (h : n < 256). length-decimal-le 3 n (omega arith) (omega arith) (omega arith) in
    let shown = simp length-append at (ap length dotted.spelled) in
    omega (arith, shown, short dotted.a a, short dotted.b b, short dotted.c c, short dotted.d d)

length-groups : (ipv4 : Bool) (lead text groups : List ℕ) → length lead ≤ 1
    → IsGroupsAfter ipv4 lead text groups → length text ≤ 5 * length groups + 6
length-groups ipv4 lead text [] one h = omega (arith, ap length h)
length-groups ipv4 lead text (g ∷ groups) one (inl h) =
    let later = length-groups ipv4 (58 ∷ []) h.1 groups (omega arith) h.4 in
    let shown = simp length-append at (ap length h.2) in
    omega (arith, shown, later, h.3.1)
length-groups ipv4 lead text (g ∷ groups) one (inr h) =
    let shown = simp length-append at (ap length h.3) in
    let two : length (g ∷ groups) ≡ 2 =
    ap length h.5 ∙ ap (λ o. length (segments_of o)) h.4.value in
    omega (arith, shown, length-dotted h.0 h.1 h.4, two)

length-colon_hex : (text groups : List ℕ) → IsColonHex text groups → length text ≤ 49
length-colon_hex text groups (inl h) =
    omega (arith, length-groups true [] text groups (omega arith) h.0, h.1)
length-colon_hex text groups (inr h) =
    let prefix = length-groups false [] h.head_text h.head (omega arith) h.head_groups in
    let back = length-groups true [] h.tail_text h.tail (omega arith) h.tail_groups in
    let shown = simp length-append at (ap length h.spelled) in
    omega (arith, shown, prefix, back, h.room)

-- a longer text is no address
pub too_long : (four : ℕ) (prefix end : List ℕ) → 49 < length prefix
    → None ≡ option_map (address_ending_in four) (plain_groups_of (prefix ++ end))
too_long four prefix end long =
    ap (option_map (address_ending_in four))
    (plain_none (prefix ++ end)
    (λ groups spelled. absurd
    (omega (arith, length-append prefix end, length-colon_hex (prefix ++ end) groups spelled))))
