-- The bytes of a header.
use Rattle.std.specs.Prelude.{◌≡◌, ◌≢◌, ℕ, List, ◌++◌, replicate, take, drop, codes}
use Rattle.byteorder.specs.Endian.{big_bytes}
use Rattle.checkpoint.specs.declared.headers.Header.{Header}

abbrev pub magic : List ℕ
magic = codes "PDRSTORE"

-- the magic, the version in 4 bytes, the sequence and the snapshot's length in 8 bytes each, and zeros to the
-- end of the sector
abbrev pub header_bytes : ℕ → Header → List ℕ
header_bytes version header = magic ++ big_bytes 4 version ++ big_bytes 8 header.sequence ++ big_bytes 8 header.length ++ replicate 484 0

-- a sector with the magic and a version other than this one
abbrev pub HasOtherVersion : ℕ → List ℕ → Type 0
HasOtherVersion version bytes = (take 8 bytes ≡ magic) × (take 4 (drop 8 bytes) ≢ big_bytes 4 version)
