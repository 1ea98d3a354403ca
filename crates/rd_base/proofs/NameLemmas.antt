-- The test of a name.
use Rattle.std.proofs.Common.{◌≡◌, ℕ, ◌+◌, ◌<◌, ◌≤◌, Bool, true, false, nat_lt, List, length, get_or, leb, arith, refl, subst, Decides}
use Rattle.std.specs.List.{AllPass, prefix_len, slice_index}
use Rattle.std.proofs.lemmas.Bool.Decides.{Decides-and, Decides-ltb, Decides-like, nat_tests}
use Rattle.std.proofs.lemmas.List.Sums.{AllPass-from_list_all, list_all-from_AllPass, prefix_len-le-length, prefix_len_passes, prefix_len_stops}
use Rattle.rd_base.specs.declared.limits.TheConstants.{MOST_NAME_BYTES}
use Rattle.rd_base.specs.declared.names.TheConstants.{NAME_BYTES}
use Rattle.rd_base.proofs.TableLemmas.{agree, flag_of_byte}
use Rattle.rd_base.specs.Names.{IsName, is_name, is_name_byte}

few_decides : (bytes : List ℕ) → Decides (leb (length bytes) MOST_NAME_BYTES) (length bytes ≤ MOST_NAME_BYTES)
few_decides bytes = (λ h. grind (arith, nat_tests), λ h. grind (arith, nat_tests))

pub is_name_decides : (bytes : List ℕ) → Decides (is_name bytes) (IsName bytes)
unfolding is_name
is_name_decides bytes =
    Decides-like _
    (λ h. record { some = h.0; few = h.1.0; each = h.1.1 })
    (λ n. (n.some, (n.few, n.each)))
    (Decides-and _ _ (Decides-ltb 0 (length bytes)) (Decides-and _ _ (few_decides bytes)
    (AllPass-from_list_all is_name_byte bytes, list_all-from_AllPass is_name_byte bytes)))

name_bytes_agree : agree is_name_byte 0 NAME_BYTES ≡ true
unfolding agree
name_bytes_agree = refl

pub name_byte_at : (byte : ℕ) (default : Bool) → byte < 256 → get_or NAME_BYTES byte default ≡ is_name_byte byte
name_byte_at = flag_of_byte is_name_byte NAME_BYTES name_bytes_agree

-- a byte of names behind those in front makes them longer, and another byte ends them
pub one_more : (bytes : List ℕ) (place : ℕ) → place ≤ prefix_len is_name_byte bytes → place < length bytes
    → is_name_byte (slice_index bytes place) ≡ true → 1 + place ≤ prefix_len is_name_byte bytes
one_more bytes place front inside passes = by (nat_lt place (prefix_len is_name_byte bytes)) refl
  where
    by : (less : Bool) → nat_lt place (prefix_len is_name_byte bytes) ≡ less → 1 + place ≤ prefix_len is_name_byte bytes
    by true less = grind (arith, nat_tests)
    by false less =
        let here : prefix_len is_name_byte bytes ≡ place = grind (arith, nat_tests) in
        let stops : is_name_byte (slice_index bytes place) ≡ false =
        subst (λ at. is_name_byte (slice_index bytes at) ≡ false) here (prefix_len_stops is_name_byte bytes 0 (omega (arith, here))) in
        absurd (cc)

pub no_more : (bytes : List ℕ) (place : ℕ) → place ≤ prefix_len is_name_byte bytes
    → is_name_byte (slice_index bytes place) ≡ false → place ≡ prefix_len is_name_byte bytes
no_more bytes place front fails = by (nat_lt place (prefix_len is_name_byte bytes)) refl
  where
    by : (less : Bool) → nat_lt place (prefix_len is_name_byte bytes) ≡ less → place ≡ prefix_len is_name_byte bytes
    by false less = grind (arith, nat_tests)
    by true less =
        let inside : place < prefix_len is_name_byte bytes = grind (arith, nat_tests) in
        let passes = prefix_len_passes is_name_byte bytes place 0 inside in
        absurd (cc)

pub no_longer : (bytes : List ℕ) → prefix_len is_name_byte bytes ≤ length bytes
no_longer = prefix_len-le-length is_name_byte

-- bytes that end behind those of names are bytes of names alone, and others are no name
pub each_of_name : (bytes : List ℕ) → length bytes ≤ prefix_len is_name_byte bytes → AllPass is_name_byte bytes
each_of_name bytes whole place default inside = prefix_len_passes is_name_byte bytes place default (omega arith)

pub other_no_name : (bytes : List ℕ) → prefix_len is_name_byte bytes < length bytes → ¬ (IsName bytes)
other_no_name bytes inside named =
    let stops = prefix_len_stops is_name_byte bytes 0 inside in
    let passes = named.each (prefix_len is_name_byte bytes) 0 inside in cc
