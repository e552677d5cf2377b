-- The map that uses a hash. The hash of a byte also depends on three bits of the next byte of its word, which
-- are k here.
use Rattle.std.specs.Prelude.{◌≡◌, ℕ, ◌+◌, ◌-◌, ◌*◌, ◌/◌, ◌%◌, ◌<◌, ◌==◌, if◌then◌else◌, bit_xor, List, [], ◌∷◌, slice_index}
use Rattle.hex_core.specs.declared.digit.CheckCase.{CheckCase}
use Rattle.hex_core.specs.declared.digit.CheckCase.TheVariants as policy
use Rattle.hex_core.specs.inside.Arithmetic.{wrapping_sub}
use Rattle.hex_core.specs.inside.Tables.{entry}

-- the number that is averaged with bits 3 to 7 of a byte, by the byte's low four bits. With it digits have
-- the hashes 4 and 9, and letters have the hashes 5 and 7, if only the low four bits of a hash count
abbrev pub hash_row : List ℕ
hash_row = 1 ∷ 1 ∷ 1 ∷ 1 ∷ 1 ∷ 1 ∷ 1 ∷ 11 ∷ 11 ∷ 11 ∷ 15 ∷ 15 ∷ 15 ∷ 15 ∷ 15 ∷ 15 ∷ []

-- what is subtracted from a byte to get its value, by the low four bits of its hash
abbrev pub value_row : List ℕ
value_row = 128 ∷ 128 ∷ 128 ∷ 128 ∷ 48 ∷ 55 ∷ 128 ∷ 87 ∷ 128 ∷ 48 ∷ 128 ∷ 128 ∷ 128 ∷ 128 ∷ 128 ∷ 128 ∷ []

-- what is subtracted from a byte to check it, by the low four bits of its hash. It is the least valid byte
-- with that hash, or 128
abbrev pub check_row : CheckCase → List ℕ
check_row policy.None = 128 ∷ 128 ∷ 128 ∷ 128 ∷ 48 ∷ 65 ∷ 128 ∷ 97 ∷ 128 ∷ 55 ∷ 128 ∷ 128 ∷ 128 ∷ 128 ∷ 128 ∷ 128 ∷ []
check_row policy.Lower = 128 ∷ 128 ∷ 128 ∷ 128 ∷ 48 ∷ 128 ∷ 128 ∷ 97 ∷ 128 ∷ 55 ∷ 128 ∷ 128 ∷ 128 ∷ 128 ∷ 128 ∷ 128 ∷ []
check_row policy.Upper = 128 ∷ 128 ∷ 128 ∷ 128 ∷ 48 ∷ 65 ∷ 128 ∷ 128 ∷ 128 ∷ 55 ∷ 128 ∷ 128 ∷ 128 ∷ 128 ∷ 128 ∷ 128 ∷ []

-- the low three bits of the next byte of a lane's word of four bytes, or 0 if the lane is the last one of the
-- word
abbrev pub neighbour_bits : List ℕ → ℕ → ℕ
neighbour_bits v i = if i % 4 == 3 then 0 else slice_index v (i + 1) % 8

-- bits 3 to 7 of a lane, moved to bits 0 to 4, with the bits of the next lane above them
abbrev pub shifted : List ℕ → ℕ → ℕ
shifted v i = slice_index v i / 8 + 32 * neighbour_bits v i

-- the average of two bytes, rounded up
abbrev pub average : ℕ → ℕ → ℕ
average a b = (a + b + 1) / 2

-- the hash of a byte b whose neighbour has the low three bits k
abbrev pub hash : ℕ → ℕ → ℕ
hash b k = average (b / 8 + 32 * k) (entry hash_row b)

-- r is the hash of the byte b for some neighbour
abbrev pub IsHash : ℕ → ℕ → Type 0
IsHash b r = (k : ℕ) × (k < 8) × (r ≡ hash b k)

-- the byte minus the number of its check row, as signed bytes and at least -128
abbrev pub hashed_check : CheckCase → ℕ → ℕ → ℕ
hashed_check c b slot = bit_xor (bit_xor b 128 - entry (check_row c) slot) 128

-- the byte minus the number of its value row, modulo 256
abbrev pub hashed_value : ℕ → ℕ → ℕ
hashed_value b slot = wrapping_sub b (entry value_row slot)
