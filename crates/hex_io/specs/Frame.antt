-- The padded text of a list of bytes.
use Rattle.std.specs.Prelude.{ℕ, ◌-◌, ◌/◌, Bool, false, List, [], ◌++◌, length, codes, encode_utf8, Option, Some, None, if◌then◌else◌}
use Rattle.std.specs.List.{repeat}
use Rattle.hex_core.specs.Text.{text}
use Rattle.hex_codec.specs.declared.group.Group.{Group}
use Rattle.hex_codec.specs.GroupedWriting.{grouped}
use Rattle.hex_io.specs.declared.format.Align.{Align}
use Rattle.hex_io.specs.declared.format.Align.TheVariants.{Left, Right, Center}
use Rattle.hex_io.specs.declared.format.Hex.{Hex}
use Rattle.hex_io.specs.declared.format.HexFlags.{HexFlags}

-- the bytes that a view prints
abbrev pub hex_bytes : Hex → List ℕ
hex_bytes hex = hex.bytes.now

-- the default: no sign, no prefix, no width, no group, lowercase digits, and spaces before the text as
-- padding
abbrev pub plain_flags : HexFlags
plain_flags = record { plus = false; prefix = false; zero = false; width = None; fill = 32; align = Right; upper = false; group = None }

-- the sign and the prefix: `+` and then `0x`, each only if the flags ask for it
abbrev pub sign_and_prefix : HexFlags → List ℕ
sign_and_prefix flags = (if flags.plus then codes "+" else []) ++ (if flags.prefix then codes "0x" else [])

-- the digits of a list, grouped if there is a group
abbrev pub digits_by : Option Group → Bool → List ℕ → List ℕ
digits_by None upper bytes = text upper bytes
digits_by (Some group) upper bytes = grouped group upper bytes

-- the digits of a list as the flags ask for them, without sign and prefix
abbrev pub digits_of : HexFlags → List ℕ → List ℕ
digits_of flags bytes = digits_by flags.group flags.upper bytes

-- how many characters a text of `len` characters is shorter than the width, or 0 if there is no width
abbrev pub missing : Option ℕ → ℕ → ℕ
missing None len = 0
missing (Some width) len = width - len

-- the number of padding characters. Sign, prefix and digits have one byte for each character
abbrev pub padding_of : HexFlags → List ℕ → ℕ
padding_of flags bytes = missing flags.width (length (sign_and_prefix flags ++ digits_of flags bytes))

-- how many of the fill characters come before the text. With `Center` there is one more after it if the
-- number is odd
abbrev pub left_padding : Align → ℕ → ℕ
left_padding Left padding = 0
left_padding Right padding = padding
left_padding Center padding = padding / 2

-- `count` fill characters, in UTF-8
abbrev pub fills : HexFlags → ℕ → List ℕ
fills flags count = repeat count (encode_utf8 flags.fill)

-- the padded text: with `zero`, zeros between prefix and digits, otherwise fill characters before and after
-- the text
abbrev pub frame : HexFlags → List ℕ → List ℕ
frame flags bytes =
    let padding = padding_of flags bytes in
    let left = left_padding flags.align padding in
    if flags.zero then sign_and_prefix flags ++ (repeat padding (codes "0") ++ digits_of flags bytes)
    else fills flags left ++ (sign_and_prefix flags ++ (digits_of flags bytes ++ fills flags (padding - left)))
