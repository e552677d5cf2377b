-- The six formats. Each says whether `0x` comes before the digits, whether letters are written in uppercase,
-- and which letters are accepted.
use Rattle.std.specs.Prelude.{true, false}
use Rattle.hex_core.specs.declared.digit.CheckCase.TheVariants.{None, Lower, Upper}
use Rattle.faster_hex.specs.declared.adapters.WireFormat.{WireFormat}

abbrev pub withpfx_ignorecase : WireFormat
withpfx_ignorecase = record { prefixed = true; upper = false; case = None }

abbrev pub nopfx_ignorecase : WireFormat
nopfx_ignorecase = record { prefixed = false; upper = false; case = None }

abbrev pub withpfx_lowercase : WireFormat
withpfx_lowercase = record { prefixed = true; upper = false; case = Lower }

abbrev pub nopfx_lowercase : WireFormat
nopfx_lowercase = record { prefixed = false; upper = false; case = Lower }

abbrev pub withpfx_uppercase : WireFormat
withpfx_uppercase = record { prefixed = true; upper = true; case = Upper }

abbrev pub nopfx_uppercase : WireFormat
nopfx_uppercase = record { prefixed = false; upper = true; case = Upper }
