-- Prefixes of addresses, masks, and masks that are a count of bits.
use Rattle.std.proofs.Common.{◌≡◌, ◌≢◌, ℕ, ◌-◌, ◌*◌, ◌/◌, ◌^◌, ◌<◌, ◌≤◌, bit_and, ap, sym, subst, arith}
use Rattle.std.specs.Int.{w32, leading_ones}
use Rattle.std.specs.Int.Count.{leading_unique}
use Rattle.std.proofs.lemmas.Nat.{shl-shr, pow_pos}
use Rattle.std.proofs.Math.Nat.{pow-le-pow_right}
use Rattle.std.proofs.lemmas.Nat.Bits.{and_high_mask, same_from_bits, bit_at_and}
use Rattle.hx_text.specs.Network.{prefix_bits, mask_of}

-- to keep the ones of a mask of width n is to keep the first n bits
pub masked_prefix : (address n : ℕ) → address < 2 ^ 32 → n ≤ 32
    → bit_and address (mask_of n) ≡ prefix_bits 32 n address
masked_prefix address n fits within = and_high_mask 32 (32 - n) (omega arith) address fits

-- once is as good as twice
pub prefix_twice : (w n address : ℕ)
    → prefix_bits w n (prefix_bits w n address) ≡ prefix_bits w n address
prefix_twice w n address = ap (λ q. q * 2 ^ (w - n)) (shl-shr (address / 2 ^ (w - n)) (w - n))

pub masked_twice : (address mask : ℕ) → bit_and (bit_and address mask) mask ≡ bit_and address mask
masked_twice address mask =
    same_from_bits _ _ (λ i. let both = bit_at_and address mask i in rw
    (bit_at_and (bit_and address mask) mask i, both) (omega arith))

-- a mask of width n begins with n ones
leading_ones-mask_of : (n : ℕ) → n ≤ 32 → n ≡ leading_ones w32 (mask_of n)
leading_ones-mask_of n within =
    let some = pow_pos (32 - n) in
    let room : 2 ^ (32 - n) ≤ 2 ^ 32 =
    pow-le-pow_right {n = 2} (omega arith) {i = 32 - n} {j = 32} (omega arith) in
    leading_unique 32 (2 ^ 32 - 1 - mask_of n) n (32 - n) (omega arith) (omega arith) (omega arith)

-- a mask that isn't the one of the ones that it begins with is of no width
pub no_width : (mask n : ℕ) → mask ≢ mask_of (leading_ones w32 mask) → n ≤ 32 → mask_of n ≢ mask
no_width mask n other within e =
    other (sym (subst (λ m. mask_of (leading_ones w32 m) ≡ m) e
    (ap mask_of (sym (leading_ones-mask_of n within)))))

-- that a network of a mask keeps what networks keep
pub ruleset network_cases = (prefix_twice, masked_twice, no_width)
